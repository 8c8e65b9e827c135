-- What the kernel's items stand for, by computation.
use Rattle.std.proofs.Common.{◌≡◌, true, length, map, All, Ok, Some, refl}
use Rattle.std.specs.List.{list_all}
use Rattle.fe_base.specs.MemoryMap.{kernel_start}
use Rattle.rv_decode.specs.InsnTable.{insn_of, branch_of, load_of, store_of, op_imm_of, op_of, op_base_of, op_alternate_of, system_of, jalr_of}
use Rattle.asm_items.specs.ItemMeaning.{assembled, Code, total_words}
use Rattle.asm_items.specs.Printable.{IsPrintable}
use Rattle.proxy_kernel.specs.Kernel.{kernel}
use Rattle.proxy_kernel.specs.KernelWords.{kernel_count, kernel_insns, kernel_words}
use Rattle.proxy_kernel.proofs.Fit.{all_fit, is_fit}

-- no item has a fault, and each stands for its instructions
pub kernel_assembles : assembled kernel_start kernel ≡ Ok (map Code kernel_insns)
unfolding kernel assembled kernel_insns
kernel_assembles = refl

-- the words are those of the instructions
pub kernel_decodes : map insn_of kernel_words ≡ map Some kernel_insns
unfolding kernel_insns kernel_words insn_of branch_of load_of store_of op_imm_of op_of op_base_of op_alternate_of system_of jalr_of
kernel_decodes = refl

pub kernel_size : total_words kernel ≡ kernel_count
unfolding kernel
kernel_size = refl

pub kernel_length : length kernel_insns ≡ kernel_count
unfolding kernel_insns
kernel_length = refl

passes : list_all is_fit kernel ≡ true
unfolding kernel
passes = refl

-- each item can be written
pub kernel_is_printable : All IsPrintable kernel
kernel_is_printable = all_fit kernel passes
