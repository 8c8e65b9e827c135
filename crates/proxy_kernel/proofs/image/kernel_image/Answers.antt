use Rattle.std.proofs.Common.{◌≡◌, ◌∙◌, List, ap, subst, arith}
use Rattle.fe_base.specs.MemoryMap.{kernel_start}
use Rattle.asm_items.specs.declared.item.Item.{Item}
use Rattle.asm_items.specs.ItemMeaning.{assembled, HoldsParts, Spells, total_words}
use Rattle.proxy_kernel.specs.Kernel.{kernel}
use Rattle.proxy_kernel.specs.KernelWords.{kernel_insns}
use Rattle.proxy_kernel.proofs.Computed.{kernel_assembles, kernel_decodes, kernel_size}
use Rattle.proxy_kernel.proofs.Spelled.{codes_of, spelled_words}
use Rattle.proxy_kernel.proofs.image.kernel_image.Goals as goal

pub assemble-requires-clause-size : goal.assemble-requires-clause-size
assemble-requires-clause-size c =
    let same : c.as_slice.result.now ≡ kernel = c.as_slice.ensures ∙ c.in_ok-items.ensures.items in
    omega (arith, ap total_words same, kernel_size)

pub returns-in-Ok-clause-insns : goal.returns-in-Ok-clause-insns
returns-in-Ok-clause-insns c =
    let same : c.as_slice.result.now ≡ kernel = c.as_slice.ensures ∙ c.in_ok-items.ensures.items in
    let spells : Spells (codes_of kernel_insns) c.in-Ok.code.bytes =
    subst (λ m. HoldsParts c.in-Ok.code.bytes m) (ap (λ (items : List Item). assembled kernel_start items) same ∙ kernel_assembles) c.in-Ok.ensures.meaning.1 in
    spelled_words kernel_insns c.in-Ok.code.bytes spells

pub returns-in-Ok-clause-length : goal.returns-in-Ok-clause-length
returns-in-Ok-clause-length c =
    let same : c.as_slice.result.now ≡ kernel = c.as_slice.ensures ∙ c.in_ok-items.ensures.items in
    omega (arith, ap total_words same, kernel_size, c.in-Ok.ensures.length)

pub returns-in_err-items-clause-words : goal.returns-in_err-items-clause-words
returns-in_err-items-clause-words c = kernel_decodes

pub returns-in-Ok-clause-words : goal.returns-in-Ok-clause-words
returns-in-Ok-clause-words c = kernel_decodes

pub returns-in-Err-OutOfMemory-clause-words : goal.returns-in-Err-OutOfMemory-clause-words
returns-in-Err-OutOfMemory-clause-words c = kernel_decodes
