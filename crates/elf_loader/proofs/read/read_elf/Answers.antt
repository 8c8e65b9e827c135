use Rattle.std.proofs.Common.{◌≡◌, None, length, sym, subst, rules, arith}
use Rattle.std.specs.Prelude.{All}
use Rattle.std.specs.List.{position_from}
use Rattle.std.proofs.lemmas.Grind.{common_steps}
use Rattle.elf_loader.specs.ProgramHeader.{is_cut}
use Rattle.elf_loader.specs.Rules.{user_rules}
use Rattle.elf_loader.specs.ElfFile.{fault_of, image_of, segments_of, IsFitSegment, IsFit}
use Rattle.elf_loader.specs.declared.image.Image.{Image}
use Rattle.elf_loader.proofs.Accepted.{accepted, segments_fit, IsFit-image_of}
use Rattle.elf_loader.proofs.UserArea.{end_inside, greatest_end-le}
use Rattle.elf_loader.proofs.read.read_elf.Goals as goal

pub load-requires : goal.load-requires
load-requires c =
    let none : fault_of c.args.file.now ≡ None = first_of (search rules, grind (arith, common_steps)) in
    subst (λ hs. position_from (is_cut (length c.args.file.now)) 0 hs ≡ None) (sym c.headers_of.ensures)
    ((accepted user_rules c.args.file.now none).not_cut)

pub greatest_end-requires : goal.greatest_end-requires
greatest_end-requires c =
    let none : fault_of c.args.file.now ≡ None = first_of (search rules, grind (arith, common_steps)) in
    let loaded : c.in_ok-segments.segments ≡ segments_of c.args.file.now =
    first_of (search rules, grind (arith, common_steps)) in
    end_inside c.in_ok-segments.segments (subst (All (IsFitSegment user_rules.areas)) (sym loaded)
    (segments_fit user_rules c.args.file.now none))

pub next_multiple_of-first_break-requires-clause-fits : goal.next_multiple_of-first_break-requires-clause-fits
next_multiple_of-first_break-requires-clause-fits c =
    let none : fault_of c.args.file.now ≡ None = first_of (search rules, grind (arith, common_steps)) in
    let loaded : c.in_ok-segments.segments ≡ segments_of c.args.file.now =
    first_of (search rules, grind (arith, common_steps)) in
    let fit = subst (All (IsFitSegment user_rules.areas)) (sym loaded) (segments_fit user_rules c.args.file.now none) in
    let small = greatest_end-le c.in_ok-segments.segments (end_inside c.in_ok-segments.segments fit) in
    omega (arith, small, c.greatest_end.ensures)

pub returns-clause-fit : goal.returns-clause-fit
returns-clause-fit c =
    let none : fault_of c.args.file.now ≡ None = first_of (search rules, grind (arith, common_steps)) in
    let loaded : c.in_ok-segments.segments ≡ segments_of c.args.file.now =
    first_of (search rules, grind (arith, common_steps)) in
    let image : Image = record {
      entry = c.u64_at.result;
      segments = c.in_ok-segments.segments;
      first_break = c.next_multiple_of-first_break.result;
    } in
    let is_image : image ≡ image_of c.args.file.now = first_of (search rules, grind (arith, common_steps)) in
    subst (IsFit user_rules) (sym is_image) (IsFit-image_of user_rules c.args.file.now none)
