use Rattle.std.proofs.Common.{◌≡◌, ◌∙◌, Some, None, sym, rules, arith}
use Rattle.std.proofs.lemmas.Grind.{common_steps}
use Rattle.elf_loader.specs.Faults.{first_fault}
use Rattle.elf_loader.specs.ElfFile.{identification_rows, file_header_rows}
use Rattle.elf_loader.proofs.Accepted.{fault_of-identification, fault_of-file_header, fault_of-program_headers, rows_of}
use Rattle.elf_loader.specs.Rules.{aligned_rules}
use Rattle.elf_loader.proofs.check.first_fault_of.Goals as goal

pub returns-in-Some-clause-fault : goal.returns-in-Some-clause-fault
returns-in-Some-clause-fault c =
    let here : first_fault (identification_rows c.args.file.now) ≡ Some c.in-Some.fault =
    first_of (search rules, grind (arith, common_steps)) in
    sym (fault_of-identification (aligned_rules c.args.areas.now c.args.alignment) c.args.file.now c.in-Some.fault here)

pub returns-in-Some-file_header_fault-clause-fault : goal.returns-in-Some-file_header_fault-clause-fault
returns-in-Some-file_header_fault-clause-fault c =
    let before : first_fault (identification_rows c.args.file.now) ≡ None =
    first_of (search rules, grind (arith, common_steps)) in
    let here : first_fault (file_header_rows c.args.file.now) ≡ Some c.in-Some-file_header_fault.fault =
    first_of (search rules, grind (arith, common_steps)) in
    sym (fault_of-file_header (aligned_rules c.args.areas.now c.args.alignment) c.args.file.now
    c.in-Some-file_header_fault.fault before here)

pub returns-clause-fault : goal.returns-clause-fault
returns-clause-fault c =
    let before : first_fault (identification_rows c.args.file.now) ≡ None =
    first_of (search rules, grind (arith, common_steps)) in
    let here : first_fault (file_header_rows c.args.file.now) ≡ None =
    first_of (search rules, grind (arith, common_steps)) in
    let rows : c.program_header_fault.result ≡ first_fault
    (rows_of (aligned_rules c.args.areas.now c.args.alignment) c.args.file.now) =
    first_of (search rules, grind (arith, common_steps)) in
    rows ∙ sym (fault_of-program_headers (aligned_rules c.args.areas.now c.args.alignment) c.args.file.now before here)
