-- The kernel part of a call, as a phase holds it, in the terms of the program's registers.
use Rattle.std.proofs.Common.{◌≡◌, ℕ, List, refl, ap, arith}
use Rattle.std.specs.Prelude.{slice_index}
use Rattle.kernel_sim.specs.declared.phase.UserState.{UserState}
use Rattle.plain_machine.specs.KernelPart.{breaks, break_after, with_path, path_part, first_part, kernel_part}
use Rattle.kernel_sim.specs.Stages.{Stage, part, Links}
use Rattle.kernel_code.specs.Numbers.{v_break}

pub part-is : (st : Stage) (u : UserState) (env : ℕ → ℕ) (user : List ℕ) → Links st u env → u.brk ≡ env v_break → part env user ≡ kernel_part u.regs user u.brk u.first_break
unfolding kernel_part
part-is st u env user l b =
    let r10 = l.regs_are 10 (omega arith) in
    let r11 = l.regs_are 11 (omega arith) in
    let r12 = l.regs_are 12 (omega arith) in
    let r13 = l.regs_are 13 (omega arith) in
    let r17 = l.regs_are 17 (omega arith) in
    rw (r10, r11, r12, r13, r17, b, l.first_is) refl

-- the call of brk
pub break-part : (regs user : List ℕ) (brk first : ℕ) → slice_index regs 17 ≡ 214
    → kernel_part regs user brk first ≡ breaks (break_after (slice_index regs 10) brk first)
unfolding kernel_part
break-part regs user brk first e = ap (λ z. with_path z (path_part regs user)) direct_is
  where
    direct_is : first_part regs brk first ≡ breaks (break_after (slice_index regs 10) brk first)
    direct_is = rw e refl
