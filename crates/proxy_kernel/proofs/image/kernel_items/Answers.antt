use Rattle.std.proofs.Common.{◌≡◌, List, All, Result, Ok, Err, IfOk, subst, sym}
use Rattle.asm_items.specs.declared.item.Item.{Item}
use Rattle.asm_items.specs.Printable.{IsPrintable}
use Rattle.proxy_kernel.specs.Kernel.{kernel}
use Rattle.proxy_kernel.proofs.Computed.{kernel_assembles, kernel_is_printable}
use Rattle.proxy_kernel.proofs.image.kernel_items.Goals as goal

printable : {E : Type 0} (result : Result (List Item) E) → IfOk result (λ items. items ≡ kernel) → IfOk result (λ items. All IsPrintable items)
printable (Ok items) same = subst (λ (all : List Item). All IsPrintable all) (sym same) kernel_is_printable
printable (Err e) same = tt

pub returns-clause-printable : goal.returns-clause-printable
unfolding kernel
returns-clause-printable c = printable _ c.items_from.ensures

pub returns-clause-assembles : goal.returns-clause-assembles
returns-clause-assembles c = kernel_assembles
