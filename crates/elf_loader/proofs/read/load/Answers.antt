use Rattle.std.proofs.Common.{◌≡◌, ◌∙◌, ◌++◌, ◌∷◌, [], ◌+◌, map, filter, drop, length, sym, ap, rules, arith}
use Rattle.std.specs.List.{position_from}
use Rattle.std.proofs.lemmas.Grind.{common_steps}
use Rattle.elf_loader.specs.ProgramHeader.{is_segment, is_cut, segment_of_header}
use Rattle.elf_loader.proofs.Texts.{drop-got}
use Rattle.elf_loader.proofs.Walks.{position-none, filter-step}
use Rattle.elf_loader.proofs.read.load.Goals as goal

pub load_header-requires : goal.load_header-requires
load_header-requires c =
    let rest = sym (ap (position_from (is_cut (length c.args.file.now)) c.loop-i.i)
    (drop-got c.args.headers.now c.loop-i.i c.get-header.result c.get-header.ensures)) ∙ c.loop-i.invariant.1 in
    (position-none (is_cut (length c.args.file.now)) c.loop-i.i c.get-header.result
    (drop (c.loop-i.i + 1) c.args.headers.now) rest).0

pub loop-i-preserved : goal.loop-i-preserved
loop-i-preserved c =
    let rest = sym (ap (position_from (is_cut (length c.args.file.now)) c.loop-i.i)
    (drop-got c.args.headers.now c.loop-i.i c.get-header.result c.get-header.ensures)) ∙ c.loop-i.invariant.1 in
    let grown : c.load_header.new.segments ≡ c.loop-i.segments
    ++ map (segment_of_header c.args.file.now) (filter is_segment (c.get-header.result ∷ [])) =
    first_of (search rules, grind (arith, common_steps)) in (
      ap (λ segments. segments ++ map (segment_of_header c.args.file.now)
          (filter is_segment (drop (c.loop-i.i + 1) c.args.headers.now))) grown
          ∙ filter-step is_segment c.args.headers.now c.loop-i.i c.get-header.result c.get-header.ensures
          (segment_of_header c.args.file.now) c.loop-i.segments
          (map (segment_of_header c.args.file.now) (filter is_segment c.args.headers.now)) c.loop-i.invariant.0,
      (position-none (is_cut (length c.args.file.now)) c.loop-i.i c.get-header.result
          (drop (c.loop-i.i + 1) c.args.headers.now) rest).1,
    )
