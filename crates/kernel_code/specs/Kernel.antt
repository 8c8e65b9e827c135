-- The kernel's code, cut into blocks.
use Rattle.std.specs.Prelude.{◌≡◌, true, ℕ, List, ◌++◌}
use Rattle.rv_decode.specs.declared.instruction.Insn.{Insn}
use Rattle.kernel_steps.specs.States.{CodeIs}
use Rattle.kernel_steps.specs.Blocks.{Block, all_well}
use Rattle.proxy_kernel.specs.KernelWords.{kernel_insns}
use Rattle.kernel_code.specs.Kinds.{may_follow}
use Rattle.kernel_code.specs.Calls.{call_blocks}
use Rattle.kernel_code.specs.TrapWords.{trap_blocks}
use Rattle.kernel_code.specs.CounterWords.{counter_blocks}

-- the kernel's code
unfoldable pub kernel : List Insn
kernel = kernel_insns

-- all its blocks
unfoldable pub blocks : List Block
blocks = call_blocks ++ (trap_blocks ++ counter_blocks)

-- the image stands in a kernel area: the words at its start decode to the kernel's instructions
abbrev pub IsImage : List ℕ → Type 0
IsImage kernel_area = CodeIs kernel kernel_area

-- each block leads to blocks that may follow it
abbrev pub BlocksGoWell : Type 0
BlocksGoWell = all_well may_follow kernel blocks blocks ≡ true
