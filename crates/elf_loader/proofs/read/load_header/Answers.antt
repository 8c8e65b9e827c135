use Rattle.std.proofs.Common.{◌≡◌, true, length, rules, arith}
use Rattle.std.proofs.lemmas.Grind.{common_steps}
use Rattle.elf_loader.specs.ProgramHeader.{is_segment}
use Rattle.elf_loader.proofs.Accepted.{bytes_inside}
use Rattle.elf_loader.proofs.read.load_header.Goals as goal

pub file_bytes-requires : goal.file_bytes-requires
file_bytes-requires c =
    let segment : is_segment c.args.header.now ≡ true = first_of (search rules, grind (arith, common_steps)) in
    bytes_inside (length c.args.file.now) c.args.header.now segment c.requires
