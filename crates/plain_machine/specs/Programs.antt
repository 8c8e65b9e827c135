-- A program as its calls find it, and what an answer leaves of it.
use Rattle.std.specs.Prelude.{ℕ, ◌+◌, ◌%◌, ◌^◌, List}
use Rattle.rv_alu.specs.Effects.{put}
use Rattle.plain_machine.specs.UserStep.{UserState}
use Rattle.plain_machine.specs.KernelPart.{Part, kernel_part}

-- a program: its user state, its break, and the break that it had first
pub record Process : Type 0 where
  pub state : UserState
  pub program_break : ℕ
  pub first_break : ℕ

-- a call's answer in a0, at the next instruction
abbrev pub answered : UserState → ℕ → UserState
answered state answer = record state { pc = (state.pc + 4) % 2 ^ 64; registers = put state.registers 10 answer }

-- a program that goes on behind its call, with its answer
abbrev pub replied : Process → ℕ → Process
replied process answer = record process { state = answered process.state answer }

-- a program that goes on behind brk, which answers the break that it leaves
abbrev pub with_break : Process → ℕ → Process
with_break process moved = record process { state = answered process.state moved; program_break = moved }

-- a program with these user bytes
abbrev pub with_user : Process → List ℕ → Process
with_user process user = record process { state = record process.state { user = user } }

-- the kernel part of the call that a program stands at
abbrev pub part_of : Process → Part
part_of process = kernel_part process.state.registers process.state.user process.program_break process.first_break
