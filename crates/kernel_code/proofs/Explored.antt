-- The blocks go well: computed.
use Rattle.std.specs.Prelude.{◌≡◌, true, None, refl}
use Rattle.rv_csr.specs.CsrTable.{csr_of}
use Rattle.kernel_steps.specs.Blocks.{first_bad, all_well}
use Rattle.kernel_code.specs.Kinds.{may_follow}
use Rattle.kernel_code.specs.Kernel.{kernel, blocks}
use Rattle.proxy_kernel.specs.KernelWords.{kernel_insns}
use Rattle.kernel_code.specs.Calls.{call_blocks}
use Rattle.kernel_code.specs.TrapWords.{trap_blocks}
use Rattle.kernel_code.specs.CounterWords.{counter_blocks}
use Rattle.kernel_code.specs.Shorthand.{cells_0, cells_1, cells_2, cells_3, cells_4, cells_5, cells_6, cells_7, cells_8, cells_9, csrs_0, csrs_1, csrs_2}
use Rattle.kernel_steps.proofs.GraphLaws.{well-parts, well-last}

low_well : first_bad may_follow kernel blocks call_blocks ≡ None
unfolding kernel kernel_insns blocks call_blocks trap_blocks counter_blocks cells_0 cells_1 cells_2 cells_3 cells_4 cells_5 cells_6 cells_7 cells_8 cells_9 csrs_0 csrs_1 csrs_2 csr_of
low_well = refl

trap_well : first_bad may_follow kernel blocks trap_blocks ≡ None
unfolding kernel kernel_insns blocks call_blocks trap_blocks counter_blocks cells_0 cells_1 cells_2 cells_3 cells_4 cells_5 cells_6 cells_7 cells_8 cells_9 csrs_0 csrs_1 csrs_2 csr_of
trap_well = refl

counter_well : first_bad may_follow kernel blocks counter_blocks ≡ None
unfolding kernel kernel_insns blocks call_blocks trap_blocks counter_blocks cells_0 cells_1 cells_2 cells_3 cells_4 cells_5 cells_6 cells_7 cells_8 cells_9 csrs_0 csrs_1 csrs_2 csr_of
counter_well = refl

-- each step of the kernel, from each place of each block, is one that the blocks tell
pub blocks_well : all_well may_follow kernel blocks blocks ≡ true
unfolding blocks
blocks_well = well-parts may_follow kernel _ call_blocks _ low_well (well-parts may_follow kernel _ trap_blocks _ trap_well (well-last may_follow kernel _ counter_blocks counter_well))
