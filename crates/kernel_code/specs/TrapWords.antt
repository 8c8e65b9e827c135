-- The blocks of the words of a trap. Written by tools/kernel_blocks.py.
use Rattle.std.specs.Prelude.{true, false, List, [], ◌∷◌, set}
use Rattle.rv_alu.specs.declared.arithmetic.AluOp.TheVariants as op
use Rattle.kernel_steps.specs.Terms.{Bin}
use Rattle.kernel_steps.specs.Blocks.{Block}
use Rattle.kernel_code.specs.Numbers.{trap_words, trap_last_blocks}
use Rattle.kernel_code.specs.Shorthand.{A, v, l, b, cells_3, csrs_2}

-- by kind, place, what is known there, and size
unfoldable pub trap_blocks : List Block
trap_blocks =
    b trap_words 0x80000410 (l 0 ∷ A ∷ A ∷ A ∷ A ∷ v 40 ∷ A ∷ A ∷ A ∷ A ∷ A ∷ A ∷ A ∷ A ∷ A ∷ A ∷ A ∷ A ∷ A ∷ A ∷ A ∷ v 32 ∷ v 42 ∷ A ∷ A ∷ A ∷ A ∷ A ∷ A ∷ A ∷ l 0x101000000000000 ∷ l 0x80008100 ∷ []) csrs_2 cells_3 ([]) 4 true ∷
    b trap_words 0x80000518 (l 0 ∷ l 0x80000420 ∷ A ∷ A ∷ A ∷ v 40 ∷ A ∷ A ∷ A ∷ A ∷ l 0x101000000000070 ∷ A ∷ A ∷ A ∷ A ∷ A ∷ A ∷ A ∷ A ∷ A ∷ v 40 ∷ v 32 ∷ v 42 ∷ (Bin op.Add (v 40) (l 128)) ∷ A ∷ A ∷ A ∷ A ∷ A ∷ A ∷ l 0x101000000000000 ∷ l 0x80008100 ∷ []) csrs_2 cells_3 ([]) 1 true ∷
    b trap_words 0x80000520 (l 0 ∷ l 0x80000420 ∷ A ∷ A ∷ A ∷ v 40 ∷ A ∷ A ∷ A ∷ A ∷ l 0x101000000000070 ∷ A ∷ A ∷ A ∷ A ∷ A ∷ A ∷ A ∷ A ∷ A ∷ v 40 ∷ v 32 ∷ v 42 ∷ (Bin op.Add (v 40) (l 128)) ∷ A ∷ A ∷ A ∷ A ∷ A ∷ A ∷ l 0x101000000000000 ∷ l 0x80008100 ∷ []) csrs_2 cells_3 ([]) 0 true ∷
    b 1001 0x80000524 (l 0 ∷ l 0x80000420 ∷ A ∷ A ∷ A ∷ v 40 ∷ A ∷ A ∷ A ∷ A ∷ l 0x101000000000070 ∷ A ∷ A ∷ A ∷ A ∷ A ∷ A ∷ A ∷ A ∷ A ∷ v 40 ∷ v 32 ∷ v 42 ∷ (Bin op.Add (v 40) (l 128)) ∷ A ∷ A ∷ A ∷ A ∷ A ∷ A ∷ l 0x101000000000000 ∷ l 0x80008100 ∷ []) csrs_2 cells_3 ([]) 0 true ∷
    b 1002 0x80000420 (l 0 ∷ l 0x80000420 ∷ A ∷ A ∷ A ∷ v 40 ∷ A ∷ A ∷ A ∷ A ∷ l 0x101000000000070 ∷ A ∷ A ∷ A ∷ A ∷ A ∷ A ∷ A ∷ A ∷ A ∷ v 40 ∷ v 32 ∷ v 42 ∷ (Bin op.Add (v 40) (l 128)) ∷ A ∷ A ∷ A ∷ A ∷ A ∷ A ∷ l 0x101000000000000 ∷ l 0x80008100 ∷ []) csrs_2 cells_3 ([]) 2 true ∷
    b 1002 0x80000518 (l 0 ∷ l 0x80000428 ∷ A ∷ A ∷ A ∷ v 40 ∷ A ∷ A ∷ A ∷ A ∷ l 0x10100000000006b ∷ A ∷ A ∷ A ∷ A ∷ A ∷ A ∷ A ∷ A ∷ A ∷ v 40 ∷ v 32 ∷ v 42 ∷ (Bin op.Add (v 40) (l 128)) ∷ A ∷ A ∷ A ∷ A ∷ A ∷ A ∷ l 0x101000000000000 ∷ l 0x80008100 ∷ []) csrs_2 cells_3 ([]) 1 true ∷
    b 1002 0x80000520 (l 0 ∷ l 0x80000428 ∷ A ∷ A ∷ A ∷ v 40 ∷ A ∷ A ∷ A ∷ A ∷ l 0x10100000000006b ∷ A ∷ A ∷ A ∷ A ∷ A ∷ A ∷ A ∷ A ∷ A ∷ v 40 ∷ v 32 ∷ v 42 ∷ (Bin op.Add (v 40) (l 128)) ∷ A ∷ A ∷ A ∷ A ∷ A ∷ A ∷ l 0x101000000000000 ∷ l 0x80008100 ∷ []) csrs_2 cells_3 ([]) 0 true ∷
    b 1003 0x80000524 (l 0 ∷ l 0x80000428 ∷ A ∷ A ∷ A ∷ v 40 ∷ A ∷ A ∷ A ∷ A ∷ l 0x10100000000006b ∷ A ∷ A ∷ A ∷ A ∷ A ∷ A ∷ A ∷ A ∷ A ∷ v 40 ∷ v 32 ∷ v 42 ∷ (Bin op.Add (v 40) (l 128)) ∷ A ∷ A ∷ A ∷ A ∷ A ∷ A ∷ l 0x101000000000000 ∷ l 0x80008100 ∷ []) csrs_2 cells_3 ([]) 0 true ∷
    b 1004 0x80000428 (l 0 ∷ l 0x80000428 ∷ A ∷ A ∷ A ∷ v 40 ∷ A ∷ A ∷ A ∷ A ∷ l 0x10100000000006b ∷ A ∷ A ∷ A ∷ A ∷ A ∷ A ∷ A ∷ A ∷ A ∷ v 40 ∷ v 32 ∷ v 42 ∷ (Bin op.Add (v 40) (l 128)) ∷ A ∷ A ∷ A ∷ A ∷ A ∷ A ∷ l 0x101000000000000 ∷ l 0x80008100 ∷ []) csrs_2 cells_3 ([]) 2 true ∷
    b 1004 0x80000518 (l 0 ∷ l 0x80000430 ∷ A ∷ A ∷ A ∷ v 40 ∷ A ∷ A ∷ A ∷ A ∷ l 0x10100000000003a ∷ A ∷ A ∷ A ∷ A ∷ A ∷ A ∷ A ∷ A ∷ A ∷ v 40 ∷ v 32 ∷ v 42 ∷ (Bin op.Add (v 40) (l 128)) ∷ A ∷ A ∷ A ∷ A ∷ A ∷ A ∷ l 0x101000000000000 ∷ l 0x80008100 ∷ []) csrs_2 cells_3 ([]) 1 true ∷
    b 1004 0x80000520 (l 0 ∷ l 0x80000430 ∷ A ∷ A ∷ A ∷ v 40 ∷ A ∷ A ∷ A ∷ A ∷ l 0x10100000000003a ∷ A ∷ A ∷ A ∷ A ∷ A ∷ A ∷ A ∷ A ∷ A ∷ v 40 ∷ v 32 ∷ v 42 ∷ (Bin op.Add (v 40) (l 128)) ∷ A ∷ A ∷ A ∷ A ∷ A ∷ A ∷ l 0x101000000000000 ∷ l 0x80008100 ∷ []) csrs_2 cells_3 ([]) 0 true ∷
    b 1005 0x80000524 (l 0 ∷ l 0x80000430 ∷ A ∷ A ∷ A ∷ v 40 ∷ A ∷ A ∷ A ∷ A ∷ l 0x10100000000003a ∷ A ∷ A ∷ A ∷ A ∷ A ∷ A ∷ A ∷ A ∷ A ∷ v 40 ∷ v 32 ∷ v 42 ∷ (Bin op.Add (v 40) (l 128)) ∷ A ∷ A ∷ A ∷ A ∷ A ∷ A ∷ l 0x101000000000000 ∷ l 0x80008100 ∷ []) csrs_2 cells_3 ([]) 0 true ∷
    b 1006 0x80000430 (l 0 ∷ l 0x80000430 ∷ A ∷ A ∷ A ∷ v 40 ∷ A ∷ A ∷ A ∷ A ∷ l 0x10100000000003a ∷ A ∷ A ∷ A ∷ A ∷ A ∷ A ∷ A ∷ A ∷ A ∷ v 40 ∷ v 32 ∷ v 42 ∷ (Bin op.Add (v 40) (l 128)) ∷ A ∷ A ∷ A ∷ A ∷ A ∷ A ∷ l 0x101000000000000 ∷ l 0x80008100 ∷ []) csrs_2 cells_3 ([]) 2 true ∷
    b 1006 0x80000518 (l 0 ∷ l 0x80000438 ∷ A ∷ A ∷ A ∷ v 40 ∷ A ∷ A ∷ A ∷ A ∷ l 0x101000000000020 ∷ A ∷ A ∷ A ∷ A ∷ A ∷ A ∷ A ∷ A ∷ A ∷ v 40 ∷ v 32 ∷ v 42 ∷ (Bin op.Add (v 40) (l 128)) ∷ A ∷ A ∷ A ∷ A ∷ A ∷ A ∷ l 0x101000000000000 ∷ l 0x80008100 ∷ []) csrs_2 cells_3 ([]) 1 true ∷
    b 1006 0x80000520 (l 0 ∷ l 0x80000438 ∷ A ∷ A ∷ A ∷ v 40 ∷ A ∷ A ∷ A ∷ A ∷ l 0x101000000000020 ∷ A ∷ A ∷ A ∷ A ∷ A ∷ A ∷ A ∷ A ∷ A ∷ v 40 ∷ v 32 ∷ v 42 ∷ (Bin op.Add (v 40) (l 128)) ∷ A ∷ A ∷ A ∷ A ∷ A ∷ A ∷ l 0x101000000000000 ∷ l 0x80008100 ∷ []) csrs_2 cells_3 ([]) 0 true ∷
    b 1007 0x80000524 (l 0 ∷ l 0x80000438 ∷ A ∷ A ∷ A ∷ v 40 ∷ A ∷ A ∷ A ∷ A ∷ l 0x101000000000020 ∷ A ∷ A ∷ A ∷ A ∷ A ∷ A ∷ A ∷ A ∷ A ∷ v 40 ∷ v 32 ∷ v 42 ∷ (Bin op.Add (v 40) (l 128)) ∷ A ∷ A ∷ A ∷ A ∷ A ∷ A ∷ l 0x101000000000000 ∷ l 0x80008100 ∷ []) csrs_2 cells_3 ([]) 0 true ∷
    b 1008 0x80000438 (l 0 ∷ l 0x80000438 ∷ A ∷ A ∷ A ∷ v 40 ∷ A ∷ A ∷ A ∷ A ∷ l 0x101000000000020 ∷ A ∷ A ∷ A ∷ A ∷ A ∷ A ∷ A ∷ A ∷ A ∷ v 40 ∷ v 32 ∷ v 42 ∷ (Bin op.Add (v 40) (l 128)) ∷ A ∷ A ∷ A ∷ A ∷ A ∷ A ∷ l 0x101000000000000 ∷ l 0x80008100 ∷ []) csrs_2 cells_3 ([]) 2 true ∷
    b 1008 0x80000518 (l 0 ∷ l 0x80000440 ∷ A ∷ A ∷ A ∷ v 40 ∷ A ∷ A ∷ A ∷ A ∷ l 0x101000000000074 ∷ A ∷ A ∷ A ∷ A ∷ A ∷ A ∷ A ∷ A ∷ A ∷ v 40 ∷ v 32 ∷ v 42 ∷ (Bin op.Add (v 40) (l 128)) ∷ A ∷ A ∷ A ∷ A ∷ A ∷ A ∷ l 0x101000000000000 ∷ l 0x80008100 ∷ []) csrs_2 cells_3 ([]) 1 true ∷
    b 1008 0x80000520 (l 0 ∷ l 0x80000440 ∷ A ∷ A ∷ A ∷ v 40 ∷ A ∷ A ∷ A ∷ A ∷ l 0x101000000000074 ∷ A ∷ A ∷ A ∷ A ∷ A ∷ A ∷ A ∷ A ∷ A ∷ v 40 ∷ v 32 ∷ v 42 ∷ (Bin op.Add (v 40) (l 128)) ∷ A ∷ A ∷ A ∷ A ∷ A ∷ A ∷ l 0x101000000000000 ∷ l 0x80008100 ∷ []) csrs_2 cells_3 ([]) 0 true ∷
    b 1009 0x80000524 (l 0 ∷ l 0x80000440 ∷ A ∷ A ∷ A ∷ v 40 ∷ A ∷ A ∷ A ∷ A ∷ l 0x101000000000074 ∷ A ∷ A ∷ A ∷ A ∷ A ∷ A ∷ A ∷ A ∷ A ∷ v 40 ∷ v 32 ∷ v 42 ∷ (Bin op.Add (v 40) (l 128)) ∷ A ∷ A ∷ A ∷ A ∷ A ∷ A ∷ l 0x101000000000000 ∷ l 0x80008100 ∷ []) csrs_2 cells_3 ([]) 0 true ∷
    b 1010 0x80000440 (l 0 ∷ l 0x80000440 ∷ A ∷ A ∷ A ∷ v 40 ∷ A ∷ A ∷ A ∷ A ∷ l 0x101000000000074 ∷ A ∷ A ∷ A ∷ A ∷ A ∷ A ∷ A ∷ A ∷ A ∷ v 40 ∷ v 32 ∷ v 42 ∷ (Bin op.Add (v 40) (l 128)) ∷ A ∷ A ∷ A ∷ A ∷ A ∷ A ∷ l 0x101000000000000 ∷ l 0x80008100 ∷ []) csrs_2 cells_3 ([]) 2 true ∷
    b 1010 0x80000518 (l 0 ∷ l 0x80000448 ∷ A ∷ A ∷ A ∷ v 40 ∷ A ∷ A ∷ A ∷ A ∷ l 0x101000000000072 ∷ A ∷ A ∷ A ∷ A ∷ A ∷ A ∷ A ∷ A ∷ A ∷ v 40 ∷ v 32 ∷ v 42 ∷ (Bin op.Add (v 40) (l 128)) ∷ A ∷ A ∷ A ∷ A ∷ A ∷ A ∷ l 0x101000000000000 ∷ l 0x80008100 ∷ []) csrs_2 cells_3 ([]) 1 true ∷
    b 1010 0x80000520 (l 0 ∷ l 0x80000448 ∷ A ∷ A ∷ A ∷ v 40 ∷ A ∷ A ∷ A ∷ A ∷ l 0x101000000000072 ∷ A ∷ A ∷ A ∷ A ∷ A ∷ A ∷ A ∷ A ∷ A ∷ v 40 ∷ v 32 ∷ v 42 ∷ (Bin op.Add (v 40) (l 128)) ∷ A ∷ A ∷ A ∷ A ∷ A ∷ A ∷ l 0x101000000000000 ∷ l 0x80008100 ∷ []) csrs_2 cells_3 ([]) 0 true ∷
    b 1011 0x80000524 (l 0 ∷ l 0x80000448 ∷ A ∷ A ∷ A ∷ v 40 ∷ A ∷ A ∷ A ∷ A ∷ l 0x101000000000072 ∷ A ∷ A ∷ A ∷ A ∷ A ∷ A ∷ A ∷ A ∷ A ∷ v 40 ∷ v 32 ∷ v 42 ∷ (Bin op.Add (v 40) (l 128)) ∷ A ∷ A ∷ A ∷ A ∷ A ∷ A ∷ l 0x101000000000000 ∷ l 0x80008100 ∷ []) csrs_2 cells_3 ([]) 0 true ∷
    b 1012 0x80000448 (l 0 ∷ l 0x80000448 ∷ A ∷ A ∷ A ∷ v 40 ∷ A ∷ A ∷ A ∷ A ∷ l 0x101000000000072 ∷ A ∷ A ∷ A ∷ A ∷ A ∷ A ∷ A ∷ A ∷ A ∷ v 40 ∷ v 32 ∷ v 42 ∷ (Bin op.Add (v 40) (l 128)) ∷ A ∷ A ∷ A ∷ A ∷ A ∷ A ∷ l 0x101000000000000 ∷ l 0x80008100 ∷ []) csrs_2 cells_3 ([]) 2 true ∷
    b 1012 0x80000518 (l 0 ∷ l 0x80000450 ∷ A ∷ A ∷ A ∷ v 40 ∷ A ∷ A ∷ A ∷ A ∷ l 0x101000000000061 ∷ A ∷ A ∷ A ∷ A ∷ A ∷ A ∷ A ∷ A ∷ A ∷ v 40 ∷ v 32 ∷ v 42 ∷ (Bin op.Add (v 40) (l 128)) ∷ A ∷ A ∷ A ∷ A ∷ A ∷ A ∷ l 0x101000000000000 ∷ l 0x80008100 ∷ []) csrs_2 cells_3 ([]) 1 true ∷
    b 1012 0x80000520 (l 0 ∷ l 0x80000450 ∷ A ∷ A ∷ A ∷ v 40 ∷ A ∷ A ∷ A ∷ A ∷ l 0x101000000000061 ∷ A ∷ A ∷ A ∷ A ∷ A ∷ A ∷ A ∷ A ∷ A ∷ v 40 ∷ v 32 ∷ v 42 ∷ (Bin op.Add (v 40) (l 128)) ∷ A ∷ A ∷ A ∷ A ∷ A ∷ A ∷ l 0x101000000000000 ∷ l 0x80008100 ∷ []) csrs_2 cells_3 ([]) 0 true ∷
    b 1013 0x80000524 (l 0 ∷ l 0x80000450 ∷ A ∷ A ∷ A ∷ v 40 ∷ A ∷ A ∷ A ∷ A ∷ l 0x101000000000061 ∷ A ∷ A ∷ A ∷ A ∷ A ∷ A ∷ A ∷ A ∷ A ∷ v 40 ∷ v 32 ∷ v 42 ∷ (Bin op.Add (v 40) (l 128)) ∷ A ∷ A ∷ A ∷ A ∷ A ∷ A ∷ l 0x101000000000000 ∷ l 0x80008100 ∷ []) csrs_2 cells_3 ([]) 0 true ∷
    b 1014 0x80000450 (l 0 ∷ l 0x80000450 ∷ A ∷ A ∷ A ∷ v 40 ∷ A ∷ A ∷ A ∷ A ∷ l 0x101000000000061 ∷ A ∷ A ∷ A ∷ A ∷ A ∷ A ∷ A ∷ A ∷ A ∷ v 40 ∷ v 32 ∷ v 42 ∷ (Bin op.Add (v 40) (l 128)) ∷ A ∷ A ∷ A ∷ A ∷ A ∷ A ∷ l 0x101000000000000 ∷ l 0x80008100 ∷ []) csrs_2 cells_3 ([]) 2 true ∷
    b 1014 0x80000518 (l 0 ∷ l 0x80000458 ∷ A ∷ A ∷ A ∷ v 40 ∷ A ∷ A ∷ A ∷ A ∷ l 0x101000000000070 ∷ A ∷ A ∷ A ∷ A ∷ A ∷ A ∷ A ∷ A ∷ A ∷ v 40 ∷ v 32 ∷ v 42 ∷ (Bin op.Add (v 40) (l 128)) ∷ A ∷ A ∷ A ∷ A ∷ A ∷ A ∷ l 0x101000000000000 ∷ l 0x80008100 ∷ []) csrs_2 cells_3 ([]) 1 true ∷
    b 1014 0x80000520 (l 0 ∷ l 0x80000458 ∷ A ∷ A ∷ A ∷ v 40 ∷ A ∷ A ∷ A ∷ A ∷ l 0x101000000000070 ∷ A ∷ A ∷ A ∷ A ∷ A ∷ A ∷ A ∷ A ∷ A ∷ v 40 ∷ v 32 ∷ v 42 ∷ (Bin op.Add (v 40) (l 128)) ∷ A ∷ A ∷ A ∷ A ∷ A ∷ A ∷ l 0x101000000000000 ∷ l 0x80008100 ∷ []) csrs_2 cells_3 ([]) 0 true ∷
    b 1015 0x80000524 (l 0 ∷ l 0x80000458 ∷ A ∷ A ∷ A ∷ v 40 ∷ A ∷ A ∷ A ∷ A ∷ l 0x101000000000070 ∷ A ∷ A ∷ A ∷ A ∷ A ∷ A ∷ A ∷ A ∷ A ∷ v 40 ∷ v 32 ∷ v 42 ∷ (Bin op.Add (v 40) (l 128)) ∷ A ∷ A ∷ A ∷ A ∷ A ∷ A ∷ l 0x101000000000000 ∷ l 0x80008100 ∷ []) csrs_2 cells_3 ([]) 0 true ∷
    b 1016 0x80000458 (l 0 ∷ l 0x80000458 ∷ A ∷ A ∷ A ∷ v 40 ∷ A ∷ A ∷ A ∷ A ∷ l 0x101000000000070 ∷ A ∷ A ∷ A ∷ A ∷ A ∷ A ∷ A ∷ A ∷ A ∷ v 40 ∷ v 32 ∷ v 42 ∷ (Bin op.Add (v 40) (l 128)) ∷ A ∷ A ∷ A ∷ A ∷ A ∷ A ∷ l 0x101000000000000 ∷ l 0x80008100 ∷ []) csrs_2 cells_3 ([]) 2 true ∷
    b 1016 0x80000518 (l 0 ∷ l 0x80000460 ∷ A ∷ A ∷ A ∷ v 40 ∷ A ∷ A ∷ A ∷ A ∷ l 0x101000000000020 ∷ A ∷ A ∷ A ∷ A ∷ A ∷ A ∷ A ∷ A ∷ A ∷ v 40 ∷ v 32 ∷ v 42 ∷ (Bin op.Add (v 40) (l 128)) ∷ A ∷ A ∷ A ∷ A ∷ A ∷ A ∷ l 0x101000000000000 ∷ l 0x80008100 ∷ []) csrs_2 cells_3 ([]) 1 true ∷
    b 1016 0x80000520 (l 0 ∷ l 0x80000460 ∷ A ∷ A ∷ A ∷ v 40 ∷ A ∷ A ∷ A ∷ A ∷ l 0x101000000000020 ∷ A ∷ A ∷ A ∷ A ∷ A ∷ A ∷ A ∷ A ∷ A ∷ v 40 ∷ v 32 ∷ v 42 ∷ (Bin op.Add (v 40) (l 128)) ∷ A ∷ A ∷ A ∷ A ∷ A ∷ A ∷ l 0x101000000000000 ∷ l 0x80008100 ∷ []) csrs_2 cells_3 ([]) 0 true ∷
    b 1017 0x80000524 (l 0 ∷ l 0x80000460 ∷ A ∷ A ∷ A ∷ v 40 ∷ A ∷ A ∷ A ∷ A ∷ l 0x101000000000020 ∷ A ∷ A ∷ A ∷ A ∷ A ∷ A ∷ A ∷ A ∷ A ∷ v 40 ∷ v 32 ∷ v 42 ∷ (Bin op.Add (v 40) (l 128)) ∷ A ∷ A ∷ A ∷ A ∷ A ∷ A ∷ l 0x101000000000000 ∷ l 0x80008100 ∷ []) csrs_2 cells_3 ([]) 0 true ∷
    b 1018 0x80000460 (l 0 ∷ l 0x80000460 ∷ A ∷ A ∷ A ∷ v 40 ∷ A ∷ A ∷ A ∷ A ∷ l 0x101000000000020 ∷ A ∷ A ∷ A ∷ A ∷ A ∷ A ∷ A ∷ A ∷ A ∷ v 40 ∷ v 32 ∷ v 42 ∷ (Bin op.Add (v 40) (l 128)) ∷ A ∷ A ∷ A ∷ A ∷ A ∷ A ∷ l 0x101000000000000 ∷ l 0x80008100 ∷ []) csrs_2 cells_3 ([]) 12 true ∷
    b 1018 0x80000518 (l 0 ∷ l 0x8000050c ∷ l 0x8000046c ∷ A ∷ A ∷ v 40 ∷ A ∷ A ∷ A ∷ A ∷ (Bin op.Add (Bin op.Add (Bin op.Add (Bin op.And (Bin op.Srl (v 40) (l 4)) (l 15)) (Bin op.And (Bin op.Add (Bin op.Sltu (Bin op.And (Bin op.Srl (v 40) (l 4)) (l 15)) (l 10)) (l 0xffffffffffffffff)) (l 39))) (l 48)) (l 0x101000000000000)) ∷ A ∷ A ∷ A ∷ A ∷ A ∷ A ∷ A ∷ v 40 ∷ l 4 ∷ v 40 ∷ v 32 ∷ v 42 ∷ (Bin op.Add (v 40) (l 128)) ∷ A ∷ A ∷ A ∷ A ∷ A ∷ A ∷ l 0x101000000000000 ∷ l 0x80008100 ∷ []) csrs_2 cells_3 ([]) 1 true ∷
    b 1018 0x80000520 (l 0 ∷ l 0x8000050c ∷ l 0x8000046c ∷ A ∷ A ∷ v 40 ∷ A ∷ A ∷ A ∷ A ∷ (Bin op.Add (Bin op.Add (Bin op.Add (Bin op.And (Bin op.Srl (v 40) (l 4)) (l 15)) (Bin op.And (Bin op.Add (Bin op.Sltu (Bin op.And (Bin op.Srl (v 40) (l 4)) (l 15)) (l 10)) (l 0xffffffffffffffff)) (l 39))) (l 48)) (l 0x101000000000000)) ∷ A ∷ A ∷ A ∷ A ∷ A ∷ A ∷ A ∷ v 40 ∷ l 4 ∷ v 40 ∷ v 32 ∷ v 42 ∷ (Bin op.Add (v 40) (l 128)) ∷ A ∷ A ∷ A ∷ A ∷ A ∷ A ∷ l 0x101000000000000 ∷ l 0x80008100 ∷ []) csrs_2 cells_3 ([]) 0 true ∷
    b 1019 0x80000524 (l 0 ∷ l 0x8000050c ∷ l 0x8000046c ∷ A ∷ A ∷ v 40 ∷ A ∷ A ∷ A ∷ A ∷ (Bin op.Add (Bin op.Add (Bin op.Add (Bin op.And (Bin op.Srl (v 40) (l 4)) (l 15)) (Bin op.And (Bin op.Add (Bin op.Sltu (Bin op.And (Bin op.Srl (v 40) (l 4)) (l 15)) (l 10)) (l 0xffffffffffffffff)) (l 39))) (l 48)) (l 0x101000000000000)) ∷ A ∷ A ∷ A ∷ A ∷ A ∷ A ∷ A ∷ v 40 ∷ l 4 ∷ v 40 ∷ v 32 ∷ v 42 ∷ (Bin op.Add (v 40) (l 128)) ∷ A ∷ A ∷ A ∷ A ∷ A ∷ A ∷ l 0x101000000000000 ∷ l 0x80008100 ∷ []) csrs_2 cells_3 ([]) 0 true ∷
    b 1020 0x8000050c (l 0 ∷ l 0x8000050c ∷ l 0x8000046c ∷ A ∷ A ∷ v 40 ∷ A ∷ A ∷ A ∷ A ∷ (Bin op.Add (Bin op.Add (Bin op.Add (Bin op.And (Bin op.Srl (v 40) (l 4)) (l 15)) (Bin op.And (Bin op.Add (Bin op.Sltu (Bin op.And (Bin op.Srl (v 40) (l 4)) (l 15)) (l 10)) (l 0xffffffffffffffff)) (l 39))) (l 48)) (l 0x101000000000000)) ∷ A ∷ A ∷ A ∷ A ∷ A ∷ A ∷ A ∷ v 40 ∷ l 4 ∷ v 40 ∷ v 32 ∷ v 42 ∷ (Bin op.Add (v 40) (l 128)) ∷ A ∷ A ∷ A ∷ A ∷ A ∷ A ∷ l 0x101000000000000 ∷ l 0x80008100 ∷ []) csrs_2 cells_3 ([]) 10 true ∷
    b 1020 0x80000518 (l 0 ∷ l 0x8000050c ∷ l 0x8000046c ∷ A ∷ A ∷ v 40 ∷ A ∷ A ∷ A ∷ A ∷ (Bin op.Add (Bin op.Add (Bin op.Add (Bin op.And (Bin op.Srl (v 40) (l 0)) (l 15)) (Bin op.And (Bin op.Add (Bin op.Sltu (Bin op.And (Bin op.Srl (v 40) (l 0)) (l 15)) (l 10)) (l 0xffffffffffffffff)) (l 39))) (l 48)) (l 0x101000000000000)) ∷ A ∷ A ∷ A ∷ A ∷ A ∷ A ∷ A ∷ v 40 ∷ l 0 ∷ v 40 ∷ v 32 ∷ v 42 ∷ (Bin op.Add (v 40) (l 128)) ∷ A ∷ A ∷ A ∷ A ∷ A ∷ A ∷ l 0x101000000000000 ∷ l 0x80008100 ∷ []) csrs_2 cells_3 ([]) 1 true ∷
    b 1020 0x80000520 (l 0 ∷ l 0x8000050c ∷ l 0x8000046c ∷ A ∷ A ∷ v 40 ∷ A ∷ A ∷ A ∷ A ∷ (Bin op.Add (Bin op.Add (Bin op.Add (Bin op.And (Bin op.Srl (v 40) (l 0)) (l 15)) (Bin op.And (Bin op.Add (Bin op.Sltu (Bin op.And (Bin op.Srl (v 40) (l 0)) (l 15)) (l 10)) (l 0xffffffffffffffff)) (l 39))) (l 48)) (l 0x101000000000000)) ∷ A ∷ A ∷ A ∷ A ∷ A ∷ A ∷ A ∷ v 40 ∷ l 0 ∷ v 40 ∷ v 32 ∷ v 42 ∷ (Bin op.Add (v 40) (l 128)) ∷ A ∷ A ∷ A ∷ A ∷ A ∷ A ∷ l 0x101000000000000 ∷ l 0x80008100 ∷ []) csrs_2 cells_3 ([]) 0 true ∷
    b 1021 0x80000524 (l 0 ∷ l 0x8000050c ∷ l 0x8000046c ∷ A ∷ A ∷ v 40 ∷ A ∷ A ∷ A ∷ A ∷ (Bin op.Add (Bin op.Add (Bin op.Add (Bin op.And (Bin op.Srl (v 40) (l 0)) (l 15)) (Bin op.And (Bin op.Add (Bin op.Sltu (Bin op.And (Bin op.Srl (v 40) (l 0)) (l 15)) (l 10)) (l 0xffffffffffffffff)) (l 39))) (l 48)) (l 0x101000000000000)) ∷ A ∷ A ∷ A ∷ A ∷ A ∷ A ∷ A ∷ v 40 ∷ l 0 ∷ v 40 ∷ v 32 ∷ v 42 ∷ (Bin op.Add (v 40) (l 128)) ∷ A ∷ A ∷ A ∷ A ∷ A ∷ A ∷ l 0x101000000000000 ∷ l 0x80008100 ∷ []) csrs_2 cells_3 ([]) 0 true ∷
    b 1022 0x8000050c (l 0 ∷ l 0x8000050c ∷ l 0x8000046c ∷ A ∷ A ∷ v 40 ∷ A ∷ A ∷ A ∷ A ∷ (Bin op.Add (Bin op.Add (Bin op.Add (Bin op.And (Bin op.Srl (v 40) (l 0)) (l 15)) (Bin op.And (Bin op.Add (Bin op.Sltu (Bin op.And (Bin op.Srl (v 40) (l 0)) (l 15)) (l 10)) (l 0xffffffffffffffff)) (l 39))) (l 48)) (l 0x101000000000000)) ∷ A ∷ A ∷ A ∷ A ∷ A ∷ A ∷ A ∷ v 40 ∷ l 0 ∷ v 40 ∷ v 32 ∷ v 42 ∷ (Bin op.Add (v 40) (l 128)) ∷ A ∷ A ∷ A ∷ A ∷ A ∷ A ∷ l 0x101000000000000 ∷ l 0x80008100 ∷ []) csrs_2 cells_3 ([]) 4 true ∷
    b 1022 0x80000518 (l 0 ∷ l 0x80000474 ∷ l 0x8000046c ∷ A ∷ A ∷ v 40 ∷ A ∷ A ∷ A ∷ A ∷ l 0x101000000000020 ∷ A ∷ A ∷ A ∷ A ∷ A ∷ A ∷ A ∷ v 40 ∷ l 0 ∷ v 40 ∷ v 32 ∷ v 42 ∷ (Bin op.Add (v 40) (l 128)) ∷ A ∷ A ∷ A ∷ A ∷ A ∷ A ∷ l 0x101000000000000 ∷ l 0x80008100 ∷ []) csrs_2 cells_3 ([]) 1 true ∷
    b 1022 0x80000520 (l 0 ∷ l 0x80000474 ∷ l 0x8000046c ∷ A ∷ A ∷ v 40 ∷ A ∷ A ∷ A ∷ A ∷ l 0x101000000000020 ∷ A ∷ A ∷ A ∷ A ∷ A ∷ A ∷ A ∷ v 40 ∷ l 0 ∷ v 40 ∷ v 32 ∷ v 42 ∷ (Bin op.Add (v 40) (l 128)) ∷ A ∷ A ∷ A ∷ A ∷ A ∷ A ∷ l 0x101000000000000 ∷ l 0x80008100 ∷ []) csrs_2 cells_3 ([]) 0 true ∷
    b 1023 0x80000524 (l 0 ∷ l 0x80000474 ∷ l 0x8000046c ∷ A ∷ A ∷ v 40 ∷ A ∷ A ∷ A ∷ A ∷ l 0x101000000000020 ∷ A ∷ A ∷ A ∷ A ∷ A ∷ A ∷ A ∷ v 40 ∷ l 0 ∷ v 40 ∷ v 32 ∷ v 42 ∷ (Bin op.Add (v 40) (l 128)) ∷ A ∷ A ∷ A ∷ A ∷ A ∷ A ∷ l 0x101000000000000 ∷ l 0x80008100 ∷ []) csrs_2 cells_3 ([]) 0 true ∷
    b 1024 0x80000474 (l 0 ∷ l 0x80000474 ∷ l 0x8000046c ∷ A ∷ A ∷ v 40 ∷ A ∷ A ∷ A ∷ A ∷ l 0x101000000000020 ∷ A ∷ A ∷ A ∷ A ∷ A ∷ A ∷ A ∷ v 40 ∷ l 0 ∷ v 40 ∷ v 32 ∷ v 42 ∷ (Bin op.Add (v 40) (l 128)) ∷ A ∷ A ∷ A ∷ A ∷ A ∷ A ∷ l 0x101000000000000 ∷ l 0x80008100 ∷ []) csrs_2 cells_3 ([]) 2 true ∷
    b 1024 0x80000518 (l 0 ∷ l 0x8000047c ∷ l 0x8000046c ∷ A ∷ A ∷ v 40 ∷ A ∷ A ∷ A ∷ A ∷ l 0x101000000000061 ∷ A ∷ A ∷ A ∷ A ∷ A ∷ A ∷ A ∷ v 40 ∷ l 0 ∷ v 40 ∷ v 32 ∷ v 42 ∷ (Bin op.Add (v 40) (l 128)) ∷ A ∷ A ∷ A ∷ A ∷ A ∷ A ∷ l 0x101000000000000 ∷ l 0x80008100 ∷ []) csrs_2 cells_3 ([]) 1 true ∷
    b 1024 0x80000520 (l 0 ∷ l 0x8000047c ∷ l 0x8000046c ∷ A ∷ A ∷ v 40 ∷ A ∷ A ∷ A ∷ A ∷ l 0x101000000000061 ∷ A ∷ A ∷ A ∷ A ∷ A ∷ A ∷ A ∷ v 40 ∷ l 0 ∷ v 40 ∷ v 32 ∷ v 42 ∷ (Bin op.Add (v 40) (l 128)) ∷ A ∷ A ∷ A ∷ A ∷ A ∷ A ∷ l 0x101000000000000 ∷ l 0x80008100 ∷ []) csrs_2 cells_3 ([]) 0 true ∷
    b 1025 0x80000524 (l 0 ∷ l 0x8000047c ∷ l 0x8000046c ∷ A ∷ A ∷ v 40 ∷ A ∷ A ∷ A ∷ A ∷ l 0x101000000000061 ∷ A ∷ A ∷ A ∷ A ∷ A ∷ A ∷ A ∷ v 40 ∷ l 0 ∷ v 40 ∷ v 32 ∷ v 42 ∷ (Bin op.Add (v 40) (l 128)) ∷ A ∷ A ∷ A ∷ A ∷ A ∷ A ∷ l 0x101000000000000 ∷ l 0x80008100 ∷ []) csrs_2 cells_3 ([]) 0 true ∷
    b 1026 0x8000047c (l 0 ∷ l 0x8000047c ∷ l 0x8000046c ∷ A ∷ A ∷ v 40 ∷ A ∷ A ∷ A ∷ A ∷ l 0x101000000000061 ∷ A ∷ A ∷ A ∷ A ∷ A ∷ A ∷ A ∷ v 40 ∷ l 0 ∷ v 40 ∷ v 32 ∷ v 42 ∷ (Bin op.Add (v 40) (l 128)) ∷ A ∷ A ∷ A ∷ A ∷ A ∷ A ∷ l 0x101000000000000 ∷ l 0x80008100 ∷ []) csrs_2 cells_3 ([]) 2 true ∷
    b 1026 0x80000518 (l 0 ∷ l 0x80000484 ∷ l 0x8000046c ∷ A ∷ A ∷ v 40 ∷ A ∷ A ∷ A ∷ A ∷ l 0x101000000000074 ∷ A ∷ A ∷ A ∷ A ∷ A ∷ A ∷ A ∷ v 40 ∷ l 0 ∷ v 40 ∷ v 32 ∷ v 42 ∷ (Bin op.Add (v 40) (l 128)) ∷ A ∷ A ∷ A ∷ A ∷ A ∷ A ∷ l 0x101000000000000 ∷ l 0x80008100 ∷ []) csrs_2 cells_3 ([]) 1 true ∷
    b 1026 0x80000520 (l 0 ∷ l 0x80000484 ∷ l 0x8000046c ∷ A ∷ A ∷ v 40 ∷ A ∷ A ∷ A ∷ A ∷ l 0x101000000000074 ∷ A ∷ A ∷ A ∷ A ∷ A ∷ A ∷ A ∷ v 40 ∷ l 0 ∷ v 40 ∷ v 32 ∷ v 42 ∷ (Bin op.Add (v 40) (l 128)) ∷ A ∷ A ∷ A ∷ A ∷ A ∷ A ∷ l 0x101000000000000 ∷ l 0x80008100 ∷ []) csrs_2 cells_3 ([]) 0 true ∷
    b 1027 0x80000524 (l 0 ∷ l 0x80000484 ∷ l 0x8000046c ∷ A ∷ A ∷ v 40 ∷ A ∷ A ∷ A ∷ A ∷ l 0x101000000000074 ∷ A ∷ A ∷ A ∷ A ∷ A ∷ A ∷ A ∷ v 40 ∷ l 0 ∷ v 40 ∷ v 32 ∷ v 42 ∷ (Bin op.Add (v 40) (l 128)) ∷ A ∷ A ∷ A ∷ A ∷ A ∷ A ∷ l 0x101000000000000 ∷ l 0x80008100 ∷ []) csrs_2 cells_3 ([]) 0 true ∷
    b 1028 0x80000484 (l 0 ∷ l 0x80000484 ∷ l 0x8000046c ∷ A ∷ A ∷ v 40 ∷ A ∷ A ∷ A ∷ A ∷ l 0x101000000000074 ∷ A ∷ A ∷ A ∷ A ∷ A ∷ A ∷ A ∷ v 40 ∷ l 0 ∷ v 40 ∷ v 32 ∷ v 42 ∷ (Bin op.Add (v 40) (l 128)) ∷ A ∷ A ∷ A ∷ A ∷ A ∷ A ∷ l 0x101000000000000 ∷ l 0x80008100 ∷ []) csrs_2 cells_3 ([]) 2 true ∷
    b 1028 0x80000518 (l 0 ∷ l 0x8000048c ∷ l 0x8000046c ∷ A ∷ A ∷ v 40 ∷ A ∷ A ∷ A ∷ A ∷ l 0x101000000000020 ∷ A ∷ A ∷ A ∷ A ∷ A ∷ A ∷ A ∷ v 40 ∷ l 0 ∷ v 40 ∷ v 32 ∷ v 42 ∷ (Bin op.Add (v 40) (l 128)) ∷ A ∷ A ∷ A ∷ A ∷ A ∷ A ∷ l 0x101000000000000 ∷ l 0x80008100 ∷ []) csrs_2 cells_3 ([]) 1 true ∷
    b 1028 0x80000520 (l 0 ∷ l 0x8000048c ∷ l 0x8000046c ∷ A ∷ A ∷ v 40 ∷ A ∷ A ∷ A ∷ A ∷ l 0x101000000000020 ∷ A ∷ A ∷ A ∷ A ∷ A ∷ A ∷ A ∷ v 40 ∷ l 0 ∷ v 40 ∷ v 32 ∷ v 42 ∷ (Bin op.Add (v 40) (l 128)) ∷ A ∷ A ∷ A ∷ A ∷ A ∷ A ∷ l 0x101000000000000 ∷ l 0x80008100 ∷ []) csrs_2 cells_3 ([]) 0 true ∷
    b 1029 0x80000524 (l 0 ∷ l 0x8000048c ∷ l 0x8000046c ∷ A ∷ A ∷ v 40 ∷ A ∷ A ∷ A ∷ A ∷ l 0x101000000000020 ∷ A ∷ A ∷ A ∷ A ∷ A ∷ A ∷ A ∷ v 40 ∷ l 0 ∷ v 40 ∷ v 32 ∷ v 42 ∷ (Bin op.Add (v 40) (l 128)) ∷ A ∷ A ∷ A ∷ A ∷ A ∷ A ∷ l 0x101000000000000 ∷ l 0x80008100 ∷ []) csrs_2 cells_3 ([]) 0 true ∷
    b 1030 0x8000048c (l 0 ∷ l 0x8000048c ∷ l 0x8000046c ∷ A ∷ A ∷ v 40 ∷ A ∷ A ∷ A ∷ A ∷ l 0x101000000000020 ∷ A ∷ A ∷ A ∷ A ∷ A ∷ A ∷ A ∷ v 40 ∷ l 0 ∷ v 40 ∷ v 32 ∷ v 42 ∷ (Bin op.Add (v 40) (l 128)) ∷ A ∷ A ∷ A ∷ A ∷ A ∷ A ∷ l 0x101000000000000 ∷ l 0x80008100 ∷ []) csrs_2 cells_3 ([]) 12 true ∷
    b 1030 0x80000518 (l 0 ∷ l 0x8000050c ∷ l 0x80000498 ∷ A ∷ A ∷ v 40 ∷ A ∷ A ∷ A ∷ A ∷ (Bin op.Add (Bin op.Add (Bin op.Add (Bin op.And (Bin op.Srl (v 32) (l 60)) (l 15)) (Bin op.And (Bin op.Add (Bin op.Sltu (Bin op.And (Bin op.Srl (v 32) (l 60)) (l 15)) (l 10)) (l 0xffffffffffffffff)) (l 39))) (l 48)) (l 0x101000000000000)) ∷ A ∷ A ∷ A ∷ A ∷ A ∷ A ∷ A ∷ v 32 ∷ l 60 ∷ v 40 ∷ v 32 ∷ v 42 ∷ (Bin op.Add (v 40) (l 128)) ∷ A ∷ A ∷ A ∷ A ∷ A ∷ A ∷ l 0x101000000000000 ∷ l 0x80008100 ∷ []) csrs_2 cells_3 ([]) 1 true ∷
    b 1030 0x80000520 (l 0 ∷ l 0x8000050c ∷ l 0x80000498 ∷ A ∷ A ∷ v 40 ∷ A ∷ A ∷ A ∷ A ∷ (Bin op.Add (Bin op.Add (Bin op.Add (Bin op.And (Bin op.Srl (v 32) (l 60)) (l 15)) (Bin op.And (Bin op.Add (Bin op.Sltu (Bin op.And (Bin op.Srl (v 32) (l 60)) (l 15)) (l 10)) (l 0xffffffffffffffff)) (l 39))) (l 48)) (l 0x101000000000000)) ∷ A ∷ A ∷ A ∷ A ∷ A ∷ A ∷ A ∷ v 32 ∷ l 60 ∷ v 40 ∷ v 32 ∷ v 42 ∷ (Bin op.Add (v 40) (l 128)) ∷ A ∷ A ∷ A ∷ A ∷ A ∷ A ∷ l 0x101000000000000 ∷ l 0x80008100 ∷ []) csrs_2 cells_3 ([]) 0 true ∷
    b 1031 0x80000524 (l 0 ∷ l 0x8000050c ∷ l 0x80000498 ∷ A ∷ A ∷ v 40 ∷ A ∷ A ∷ A ∷ A ∷ (Bin op.Add (Bin op.Add (Bin op.Add (Bin op.And (Bin op.Srl (v 32) (l 60)) (l 15)) (Bin op.And (Bin op.Add (Bin op.Sltu (Bin op.And (Bin op.Srl (v 32) (l 60)) (l 15)) (l 10)) (l 0xffffffffffffffff)) (l 39))) (l 48)) (l 0x101000000000000)) ∷ A ∷ A ∷ A ∷ A ∷ A ∷ A ∷ A ∷ v 32 ∷ l 60 ∷ v 40 ∷ v 32 ∷ v 42 ∷ (Bin op.Add (v 40) (l 128)) ∷ A ∷ A ∷ A ∷ A ∷ A ∷ A ∷ l 0x101000000000000 ∷ l 0x80008100 ∷ []) csrs_2 cells_3 ([]) 0 true ∷
    b 1032 0x8000050c (l 0 ∷ l 0x8000050c ∷ l 0x80000498 ∷ A ∷ A ∷ v 40 ∷ A ∷ A ∷ A ∷ A ∷ (Bin op.Add (Bin op.Add (Bin op.Add (Bin op.And (Bin op.Srl (v 32) (l 60)) (l 15)) (Bin op.And (Bin op.Add (Bin op.Sltu (Bin op.And (Bin op.Srl (v 32) (l 60)) (l 15)) (l 10)) (l 0xffffffffffffffff)) (l 39))) (l 48)) (l 0x101000000000000)) ∷ A ∷ A ∷ A ∷ A ∷ A ∷ A ∷ A ∷ v 32 ∷ l 60 ∷ v 40 ∷ v 32 ∷ v 42 ∷ (Bin op.Add (v 40) (l 128)) ∷ A ∷ A ∷ A ∷ A ∷ A ∷ A ∷ l 0x101000000000000 ∷ l 0x80008100 ∷ []) csrs_2 cells_3 ([]) 10 true ∷
    b 1032 0x80000518 (l 0 ∷ l 0x8000050c ∷ l 0x80000498 ∷ A ∷ A ∷ v 40 ∷ A ∷ A ∷ A ∷ A ∷ (Bin op.Add (Bin op.Add (Bin op.Add (Bin op.And (Bin op.Srl (v 32) (l 56)) (l 15)) (Bin op.And (Bin op.Add (Bin op.Sltu (Bin op.And (Bin op.Srl (v 32) (l 56)) (l 15)) (l 10)) (l 0xffffffffffffffff)) (l 39))) (l 48)) (l 0x101000000000000)) ∷ A ∷ A ∷ A ∷ A ∷ A ∷ A ∷ A ∷ v 32 ∷ l 56 ∷ v 40 ∷ v 32 ∷ v 42 ∷ (Bin op.Add (v 40) (l 128)) ∷ A ∷ A ∷ A ∷ A ∷ A ∷ A ∷ l 0x101000000000000 ∷ l 0x80008100 ∷ []) csrs_2 cells_3 ([]) 1 true ∷
    b 1032 0x80000520 (l 0 ∷ l 0x8000050c ∷ l 0x80000498 ∷ A ∷ A ∷ v 40 ∷ A ∷ A ∷ A ∷ A ∷ (Bin op.Add (Bin op.Add (Bin op.Add (Bin op.And (Bin op.Srl (v 32) (l 56)) (l 15)) (Bin op.And (Bin op.Add (Bin op.Sltu (Bin op.And (Bin op.Srl (v 32) (l 56)) (l 15)) (l 10)) (l 0xffffffffffffffff)) (l 39))) (l 48)) (l 0x101000000000000)) ∷ A ∷ A ∷ A ∷ A ∷ A ∷ A ∷ A ∷ v 32 ∷ l 56 ∷ v 40 ∷ v 32 ∷ v 42 ∷ (Bin op.Add (v 40) (l 128)) ∷ A ∷ A ∷ A ∷ A ∷ A ∷ A ∷ l 0x101000000000000 ∷ l 0x80008100 ∷ []) csrs_2 cells_3 ([]) 0 true ∷
    b 1033 0x80000524 (l 0 ∷ l 0x8000050c ∷ l 0x80000498 ∷ A ∷ A ∷ v 40 ∷ A ∷ A ∷ A ∷ A ∷ (Bin op.Add (Bin op.Add (Bin op.Add (Bin op.And (Bin op.Srl (v 32) (l 56)) (l 15)) (Bin op.And (Bin op.Add (Bin op.Sltu (Bin op.And (Bin op.Srl (v 32) (l 56)) (l 15)) (l 10)) (l 0xffffffffffffffff)) (l 39))) (l 48)) (l 0x101000000000000)) ∷ A ∷ A ∷ A ∷ A ∷ A ∷ A ∷ A ∷ v 32 ∷ l 56 ∷ v 40 ∷ v 32 ∷ v 42 ∷ (Bin op.Add (v 40) (l 128)) ∷ A ∷ A ∷ A ∷ A ∷ A ∷ A ∷ l 0x101000000000000 ∷ l 0x80008100 ∷ []) csrs_2 cells_3 ([]) 0 true ∷
    b 1034 0x8000050c (l 0 ∷ l 0x8000050c ∷ l 0x80000498 ∷ A ∷ A ∷ v 40 ∷ A ∷ A ∷ A ∷ A ∷ (Bin op.Add (Bin op.Add (Bin op.Add (Bin op.And (Bin op.Srl (v 32) (l 56)) (l 15)) (Bin op.And (Bin op.Add (Bin op.Sltu (Bin op.And (Bin op.Srl (v 32) (l 56)) (l 15)) (l 10)) (l 0xffffffffffffffff)) (l 39))) (l 48)) (l 0x101000000000000)) ∷ A ∷ A ∷ A ∷ A ∷ A ∷ A ∷ A ∷ v 32 ∷ l 56 ∷ v 40 ∷ v 32 ∷ v 42 ∷ (Bin op.Add (v 40) (l 128)) ∷ A ∷ A ∷ A ∷ A ∷ A ∷ A ∷ l 0x101000000000000 ∷ l 0x80008100 ∷ []) csrs_2 cells_3 ([]) 10 true ∷
    b 1034 0x80000518 (l 0 ∷ l 0x8000050c ∷ l 0x80000498 ∷ A ∷ A ∷ v 40 ∷ A ∷ A ∷ A ∷ A ∷ (Bin op.Add (Bin op.Add (Bin op.Add (Bin op.And (Bin op.Srl (v 32) (l 52)) (l 15)) (Bin op.And (Bin op.Add (Bin op.Sltu (Bin op.And (Bin op.Srl (v 32) (l 52)) (l 15)) (l 10)) (l 0xffffffffffffffff)) (l 39))) (l 48)) (l 0x101000000000000)) ∷ A ∷ A ∷ A ∷ A ∷ A ∷ A ∷ A ∷ v 32 ∷ l 52 ∷ v 40 ∷ v 32 ∷ v 42 ∷ (Bin op.Add (v 40) (l 128)) ∷ A ∷ A ∷ A ∷ A ∷ A ∷ A ∷ l 0x101000000000000 ∷ l 0x80008100 ∷ []) csrs_2 cells_3 ([]) 1 true ∷
    b 1034 0x80000520 (l 0 ∷ l 0x8000050c ∷ l 0x80000498 ∷ A ∷ A ∷ v 40 ∷ A ∷ A ∷ A ∷ A ∷ (Bin op.Add (Bin op.Add (Bin op.Add (Bin op.And (Bin op.Srl (v 32) (l 52)) (l 15)) (Bin op.And (Bin op.Add (Bin op.Sltu (Bin op.And (Bin op.Srl (v 32) (l 52)) (l 15)) (l 10)) (l 0xffffffffffffffff)) (l 39))) (l 48)) (l 0x101000000000000)) ∷ A ∷ A ∷ A ∷ A ∷ A ∷ A ∷ A ∷ v 32 ∷ l 52 ∷ v 40 ∷ v 32 ∷ v 42 ∷ (Bin op.Add (v 40) (l 128)) ∷ A ∷ A ∷ A ∷ A ∷ A ∷ A ∷ l 0x101000000000000 ∷ l 0x80008100 ∷ []) csrs_2 cells_3 ([]) 0 true ∷
    b 1035 0x80000524 (l 0 ∷ l 0x8000050c ∷ l 0x80000498 ∷ A ∷ A ∷ v 40 ∷ A ∷ A ∷ A ∷ A ∷ (Bin op.Add (Bin op.Add (Bin op.Add (Bin op.And (Bin op.Srl (v 32) (l 52)) (l 15)) (Bin op.And (Bin op.Add (Bin op.Sltu (Bin op.And (Bin op.Srl (v 32) (l 52)) (l 15)) (l 10)) (l 0xffffffffffffffff)) (l 39))) (l 48)) (l 0x101000000000000)) ∷ A ∷ A ∷ A ∷ A ∷ A ∷ A ∷ A ∷ v 32 ∷ l 52 ∷ v 40 ∷ v 32 ∷ v 42 ∷ (Bin op.Add (v 40) (l 128)) ∷ A ∷ A ∷ A ∷ A ∷ A ∷ A ∷ l 0x101000000000000 ∷ l 0x80008100 ∷ []) csrs_2 cells_3 ([]) 0 true ∷
    b 1036 0x8000050c (l 0 ∷ l 0x8000050c ∷ l 0x80000498 ∷ A ∷ A ∷ v 40 ∷ A ∷ A ∷ A ∷ A ∷ (Bin op.Add (Bin op.Add (Bin op.Add (Bin op.And (Bin op.Srl (v 32) (l 52)) (l 15)) (Bin op.And (Bin op.Add (Bin op.Sltu (Bin op.And (Bin op.Srl (v 32) (l 52)) (l 15)) (l 10)) (l 0xffffffffffffffff)) (l 39))) (l 48)) (l 0x101000000000000)) ∷ A ∷ A ∷ A ∷ A ∷ A ∷ A ∷ A ∷ v 32 ∷ l 52 ∷ v 40 ∷ v 32 ∷ v 42 ∷ (Bin op.Add (v 40) (l 128)) ∷ A ∷ A ∷ A ∷ A ∷ A ∷ A ∷ l 0x101000000000000 ∷ l 0x80008100 ∷ []) csrs_2 cells_3 ([]) 10 true ∷
    b 1036 0x80000518 (l 0 ∷ l 0x8000050c ∷ l 0x80000498 ∷ A ∷ A ∷ v 40 ∷ A ∷ A ∷ A ∷ A ∷ (Bin op.Add (Bin op.Add (Bin op.Add (Bin op.And (Bin op.Srl (v 32) (l 48)) (l 15)) (Bin op.And (Bin op.Add (Bin op.Sltu (Bin op.And (Bin op.Srl (v 32) (l 48)) (l 15)) (l 10)) (l 0xffffffffffffffff)) (l 39))) (l 48)) (l 0x101000000000000)) ∷ A ∷ A ∷ A ∷ A ∷ A ∷ A ∷ A ∷ v 32 ∷ l 48 ∷ v 40 ∷ v 32 ∷ v 42 ∷ (Bin op.Add (v 40) (l 128)) ∷ A ∷ A ∷ A ∷ A ∷ A ∷ A ∷ l 0x101000000000000 ∷ l 0x80008100 ∷ []) csrs_2 cells_3 ([]) 1 true ∷
    b 1036 0x80000520 (l 0 ∷ l 0x8000050c ∷ l 0x80000498 ∷ A ∷ A ∷ v 40 ∷ A ∷ A ∷ A ∷ A ∷ (Bin op.Add (Bin op.Add (Bin op.Add (Bin op.And (Bin op.Srl (v 32) (l 48)) (l 15)) (Bin op.And (Bin op.Add (Bin op.Sltu (Bin op.And (Bin op.Srl (v 32) (l 48)) (l 15)) (l 10)) (l 0xffffffffffffffff)) (l 39))) (l 48)) (l 0x101000000000000)) ∷ A ∷ A ∷ A ∷ A ∷ A ∷ A ∷ A ∷ v 32 ∷ l 48 ∷ v 40 ∷ v 32 ∷ v 42 ∷ (Bin op.Add (v 40) (l 128)) ∷ A ∷ A ∷ A ∷ A ∷ A ∷ A ∷ l 0x101000000000000 ∷ l 0x80008100 ∷ []) csrs_2 cells_3 ([]) 0 true ∷
    b 1037 0x80000524 (l 0 ∷ l 0x8000050c ∷ l 0x80000498 ∷ A ∷ A ∷ v 40 ∷ A ∷ A ∷ A ∷ A ∷ (Bin op.Add (Bin op.Add (Bin op.Add (Bin op.And (Bin op.Srl (v 32) (l 48)) (l 15)) (Bin op.And (Bin op.Add (Bin op.Sltu (Bin op.And (Bin op.Srl (v 32) (l 48)) (l 15)) (l 10)) (l 0xffffffffffffffff)) (l 39))) (l 48)) (l 0x101000000000000)) ∷ A ∷ A ∷ A ∷ A ∷ A ∷ A ∷ A ∷ v 32 ∷ l 48 ∷ v 40 ∷ v 32 ∷ v 42 ∷ (Bin op.Add (v 40) (l 128)) ∷ A ∷ A ∷ A ∷ A ∷ A ∷ A ∷ l 0x101000000000000 ∷ l 0x80008100 ∷ []) csrs_2 cells_3 ([]) 0 true ∷
    b 1038 0x8000050c (l 0 ∷ l 0x8000050c ∷ l 0x80000498 ∷ A ∷ A ∷ v 40 ∷ A ∷ A ∷ A ∷ A ∷ (Bin op.Add (Bin op.Add (Bin op.Add (Bin op.And (Bin op.Srl (v 32) (l 48)) (l 15)) (Bin op.And (Bin op.Add (Bin op.Sltu (Bin op.And (Bin op.Srl (v 32) (l 48)) (l 15)) (l 10)) (l 0xffffffffffffffff)) (l 39))) (l 48)) (l 0x101000000000000)) ∷ A ∷ A ∷ A ∷ A ∷ A ∷ A ∷ A ∷ v 32 ∷ l 48 ∷ v 40 ∷ v 32 ∷ v 42 ∷ (Bin op.Add (v 40) (l 128)) ∷ A ∷ A ∷ A ∷ A ∷ A ∷ A ∷ l 0x101000000000000 ∷ l 0x80008100 ∷ []) csrs_2 cells_3 ([]) 10 true ∷
    b 1038 0x80000518 (l 0 ∷ l 0x8000050c ∷ l 0x80000498 ∷ A ∷ A ∷ v 40 ∷ A ∷ A ∷ A ∷ A ∷ (Bin op.Add (Bin op.Add (Bin op.Add (Bin op.And (Bin op.Srl (v 32) (l 44)) (l 15)) (Bin op.And (Bin op.Add (Bin op.Sltu (Bin op.And (Bin op.Srl (v 32) (l 44)) (l 15)) (l 10)) (l 0xffffffffffffffff)) (l 39))) (l 48)) (l 0x101000000000000)) ∷ A ∷ A ∷ A ∷ A ∷ A ∷ A ∷ A ∷ v 32 ∷ l 44 ∷ v 40 ∷ v 32 ∷ v 42 ∷ (Bin op.Add (v 40) (l 128)) ∷ A ∷ A ∷ A ∷ A ∷ A ∷ A ∷ l 0x101000000000000 ∷ l 0x80008100 ∷ []) csrs_2 cells_3 ([]) 1 true ∷
    b 1038 0x80000520 (l 0 ∷ l 0x8000050c ∷ l 0x80000498 ∷ A ∷ A ∷ v 40 ∷ A ∷ A ∷ A ∷ A ∷ (Bin op.Add (Bin op.Add (Bin op.Add (Bin op.And (Bin op.Srl (v 32) (l 44)) (l 15)) (Bin op.And (Bin op.Add (Bin op.Sltu (Bin op.And (Bin op.Srl (v 32) (l 44)) (l 15)) (l 10)) (l 0xffffffffffffffff)) (l 39))) (l 48)) (l 0x101000000000000)) ∷ A ∷ A ∷ A ∷ A ∷ A ∷ A ∷ A ∷ v 32 ∷ l 44 ∷ v 40 ∷ v 32 ∷ v 42 ∷ (Bin op.Add (v 40) (l 128)) ∷ A ∷ A ∷ A ∷ A ∷ A ∷ A ∷ l 0x101000000000000 ∷ l 0x80008100 ∷ []) csrs_2 cells_3 ([]) 0 true ∷
    b 1039 0x80000524 (l 0 ∷ l 0x8000050c ∷ l 0x80000498 ∷ A ∷ A ∷ v 40 ∷ A ∷ A ∷ A ∷ A ∷ (Bin op.Add (Bin op.Add (Bin op.Add (Bin op.And (Bin op.Srl (v 32) (l 44)) (l 15)) (Bin op.And (Bin op.Add (Bin op.Sltu (Bin op.And (Bin op.Srl (v 32) (l 44)) (l 15)) (l 10)) (l 0xffffffffffffffff)) (l 39))) (l 48)) (l 0x101000000000000)) ∷ A ∷ A ∷ A ∷ A ∷ A ∷ A ∷ A ∷ v 32 ∷ l 44 ∷ v 40 ∷ v 32 ∷ v 42 ∷ (Bin op.Add (v 40) (l 128)) ∷ A ∷ A ∷ A ∷ A ∷ A ∷ A ∷ l 0x101000000000000 ∷ l 0x80008100 ∷ []) csrs_2 cells_3 ([]) 0 true ∷
    b 1040 0x8000050c (l 0 ∷ l 0x8000050c ∷ l 0x80000498 ∷ A ∷ A ∷ v 40 ∷ A ∷ A ∷ A ∷ A ∷ (Bin op.Add (Bin op.Add (Bin op.Add (Bin op.And (Bin op.Srl (v 32) (l 44)) (l 15)) (Bin op.And (Bin op.Add (Bin op.Sltu (Bin op.And (Bin op.Srl (v 32) (l 44)) (l 15)) (l 10)) (l 0xffffffffffffffff)) (l 39))) (l 48)) (l 0x101000000000000)) ∷ A ∷ A ∷ A ∷ A ∷ A ∷ A ∷ A ∷ v 32 ∷ l 44 ∷ v 40 ∷ v 32 ∷ v 42 ∷ (Bin op.Add (v 40) (l 128)) ∷ A ∷ A ∷ A ∷ A ∷ A ∷ A ∷ l 0x101000000000000 ∷ l 0x80008100 ∷ []) csrs_2 cells_3 ([]) 10 true ∷
    b 1040 0x80000518 (l 0 ∷ l 0x8000050c ∷ l 0x80000498 ∷ A ∷ A ∷ v 40 ∷ A ∷ A ∷ A ∷ A ∷ (Bin op.Add (Bin op.Add (Bin op.Add (Bin op.And (Bin op.Srl (v 32) (l 40)) (l 15)) (Bin op.And (Bin op.Add (Bin op.Sltu (Bin op.And (Bin op.Srl (v 32) (l 40)) (l 15)) (l 10)) (l 0xffffffffffffffff)) (l 39))) (l 48)) (l 0x101000000000000)) ∷ A ∷ A ∷ A ∷ A ∷ A ∷ A ∷ A ∷ v 32 ∷ l 40 ∷ v 40 ∷ v 32 ∷ v 42 ∷ (Bin op.Add (v 40) (l 128)) ∷ A ∷ A ∷ A ∷ A ∷ A ∷ A ∷ l 0x101000000000000 ∷ l 0x80008100 ∷ []) csrs_2 cells_3 ([]) 1 true ∷
    b 1040 0x80000520 (l 0 ∷ l 0x8000050c ∷ l 0x80000498 ∷ A ∷ A ∷ v 40 ∷ A ∷ A ∷ A ∷ A ∷ (Bin op.Add (Bin op.Add (Bin op.Add (Bin op.And (Bin op.Srl (v 32) (l 40)) (l 15)) (Bin op.And (Bin op.Add (Bin op.Sltu (Bin op.And (Bin op.Srl (v 32) (l 40)) (l 15)) (l 10)) (l 0xffffffffffffffff)) (l 39))) (l 48)) (l 0x101000000000000)) ∷ A ∷ A ∷ A ∷ A ∷ A ∷ A ∷ A ∷ v 32 ∷ l 40 ∷ v 40 ∷ v 32 ∷ v 42 ∷ (Bin op.Add (v 40) (l 128)) ∷ A ∷ A ∷ A ∷ A ∷ A ∷ A ∷ l 0x101000000000000 ∷ l 0x80008100 ∷ []) csrs_2 cells_3 ([]) 0 true ∷
    b 1041 0x80000524 (l 0 ∷ l 0x8000050c ∷ l 0x80000498 ∷ A ∷ A ∷ v 40 ∷ A ∷ A ∷ A ∷ A ∷ (Bin op.Add (Bin op.Add (Bin op.Add (Bin op.And (Bin op.Srl (v 32) (l 40)) (l 15)) (Bin op.And (Bin op.Add (Bin op.Sltu (Bin op.And (Bin op.Srl (v 32) (l 40)) (l 15)) (l 10)) (l 0xffffffffffffffff)) (l 39))) (l 48)) (l 0x101000000000000)) ∷ A ∷ A ∷ A ∷ A ∷ A ∷ A ∷ A ∷ v 32 ∷ l 40 ∷ v 40 ∷ v 32 ∷ v 42 ∷ (Bin op.Add (v 40) (l 128)) ∷ A ∷ A ∷ A ∷ A ∷ A ∷ A ∷ l 0x101000000000000 ∷ l 0x80008100 ∷ []) csrs_2 cells_3 ([]) 0 true ∷
    b 1042 0x8000050c (l 0 ∷ l 0x8000050c ∷ l 0x80000498 ∷ A ∷ A ∷ v 40 ∷ A ∷ A ∷ A ∷ A ∷ (Bin op.Add (Bin op.Add (Bin op.Add (Bin op.And (Bin op.Srl (v 32) (l 40)) (l 15)) (Bin op.And (Bin op.Add (Bin op.Sltu (Bin op.And (Bin op.Srl (v 32) (l 40)) (l 15)) (l 10)) (l 0xffffffffffffffff)) (l 39))) (l 48)) (l 0x101000000000000)) ∷ A ∷ A ∷ A ∷ A ∷ A ∷ A ∷ A ∷ v 32 ∷ l 40 ∷ v 40 ∷ v 32 ∷ v 42 ∷ (Bin op.Add (v 40) (l 128)) ∷ A ∷ A ∷ A ∷ A ∷ A ∷ A ∷ l 0x101000000000000 ∷ l 0x80008100 ∷ []) csrs_2 cells_3 ([]) 10 true ∷
    b 1042 0x80000518 (l 0 ∷ l 0x8000050c ∷ l 0x80000498 ∷ A ∷ A ∷ v 40 ∷ A ∷ A ∷ A ∷ A ∷ (Bin op.Add (Bin op.Add (Bin op.Add (Bin op.And (Bin op.Srl (v 32) (l 36)) (l 15)) (Bin op.And (Bin op.Add (Bin op.Sltu (Bin op.And (Bin op.Srl (v 32) (l 36)) (l 15)) (l 10)) (l 0xffffffffffffffff)) (l 39))) (l 48)) (l 0x101000000000000)) ∷ A ∷ A ∷ A ∷ A ∷ A ∷ A ∷ A ∷ v 32 ∷ l 36 ∷ v 40 ∷ v 32 ∷ v 42 ∷ (Bin op.Add (v 40) (l 128)) ∷ A ∷ A ∷ A ∷ A ∷ A ∷ A ∷ l 0x101000000000000 ∷ l 0x80008100 ∷ []) csrs_2 cells_3 ([]) 1 true ∷
    b 1042 0x80000520 (l 0 ∷ l 0x8000050c ∷ l 0x80000498 ∷ A ∷ A ∷ v 40 ∷ A ∷ A ∷ A ∷ A ∷ (Bin op.Add (Bin op.Add (Bin op.Add (Bin op.And (Bin op.Srl (v 32) (l 36)) (l 15)) (Bin op.And (Bin op.Add (Bin op.Sltu (Bin op.And (Bin op.Srl (v 32) (l 36)) (l 15)) (l 10)) (l 0xffffffffffffffff)) (l 39))) (l 48)) (l 0x101000000000000)) ∷ A ∷ A ∷ A ∷ A ∷ A ∷ A ∷ A ∷ v 32 ∷ l 36 ∷ v 40 ∷ v 32 ∷ v 42 ∷ (Bin op.Add (v 40) (l 128)) ∷ A ∷ A ∷ A ∷ A ∷ A ∷ A ∷ l 0x101000000000000 ∷ l 0x80008100 ∷ []) csrs_2 cells_3 ([]) 0 true ∷
    b 1043 0x80000524 (l 0 ∷ l 0x8000050c ∷ l 0x80000498 ∷ A ∷ A ∷ v 40 ∷ A ∷ A ∷ A ∷ A ∷ (Bin op.Add (Bin op.Add (Bin op.Add (Bin op.And (Bin op.Srl (v 32) (l 36)) (l 15)) (Bin op.And (Bin op.Add (Bin op.Sltu (Bin op.And (Bin op.Srl (v 32) (l 36)) (l 15)) (l 10)) (l 0xffffffffffffffff)) (l 39))) (l 48)) (l 0x101000000000000)) ∷ A ∷ A ∷ A ∷ A ∷ A ∷ A ∷ A ∷ v 32 ∷ l 36 ∷ v 40 ∷ v 32 ∷ v 42 ∷ (Bin op.Add (v 40) (l 128)) ∷ A ∷ A ∷ A ∷ A ∷ A ∷ A ∷ l 0x101000000000000 ∷ l 0x80008100 ∷ []) csrs_2 cells_3 ([]) 0 true ∷
    b 1044 0x8000050c (l 0 ∷ l 0x8000050c ∷ l 0x80000498 ∷ A ∷ A ∷ v 40 ∷ A ∷ A ∷ A ∷ A ∷ (Bin op.Add (Bin op.Add (Bin op.Add (Bin op.And (Bin op.Srl (v 32) (l 36)) (l 15)) (Bin op.And (Bin op.Add (Bin op.Sltu (Bin op.And (Bin op.Srl (v 32) (l 36)) (l 15)) (l 10)) (l 0xffffffffffffffff)) (l 39))) (l 48)) (l 0x101000000000000)) ∷ A ∷ A ∷ A ∷ A ∷ A ∷ A ∷ A ∷ v 32 ∷ l 36 ∷ v 40 ∷ v 32 ∷ v 42 ∷ (Bin op.Add (v 40) (l 128)) ∷ A ∷ A ∷ A ∷ A ∷ A ∷ A ∷ l 0x101000000000000 ∷ l 0x80008100 ∷ []) csrs_2 cells_3 ([]) 10 true ∷
    b 1044 0x80000518 (l 0 ∷ l 0x8000050c ∷ l 0x80000498 ∷ A ∷ A ∷ v 40 ∷ A ∷ A ∷ A ∷ A ∷ (Bin op.Add (Bin op.Add (Bin op.Add (Bin op.And (Bin op.Srl (v 32) (l 32)) (l 15)) (Bin op.And (Bin op.Add (Bin op.Sltu (Bin op.And (Bin op.Srl (v 32) (l 32)) (l 15)) (l 10)) (l 0xffffffffffffffff)) (l 39))) (l 48)) (l 0x101000000000000)) ∷ A ∷ A ∷ A ∷ A ∷ A ∷ A ∷ A ∷ v 32 ∷ l 32 ∷ v 40 ∷ v 32 ∷ v 42 ∷ (Bin op.Add (v 40) (l 128)) ∷ A ∷ A ∷ A ∷ A ∷ A ∷ A ∷ l 0x101000000000000 ∷ l 0x80008100 ∷ []) csrs_2 cells_3 ([]) 1 true ∷
    b 1044 0x80000520 (l 0 ∷ l 0x8000050c ∷ l 0x80000498 ∷ A ∷ A ∷ v 40 ∷ A ∷ A ∷ A ∷ A ∷ (Bin op.Add (Bin op.Add (Bin op.Add (Bin op.And (Bin op.Srl (v 32) (l 32)) (l 15)) (Bin op.And (Bin op.Add (Bin op.Sltu (Bin op.And (Bin op.Srl (v 32) (l 32)) (l 15)) (l 10)) (l 0xffffffffffffffff)) (l 39))) (l 48)) (l 0x101000000000000)) ∷ A ∷ A ∷ A ∷ A ∷ A ∷ A ∷ A ∷ v 32 ∷ l 32 ∷ v 40 ∷ v 32 ∷ v 42 ∷ (Bin op.Add (v 40) (l 128)) ∷ A ∷ A ∷ A ∷ A ∷ A ∷ A ∷ l 0x101000000000000 ∷ l 0x80008100 ∷ []) csrs_2 cells_3 ([]) 0 true ∷
    b 1045 0x80000524 (l 0 ∷ l 0x8000050c ∷ l 0x80000498 ∷ A ∷ A ∷ v 40 ∷ A ∷ A ∷ A ∷ A ∷ (Bin op.Add (Bin op.Add (Bin op.Add (Bin op.And (Bin op.Srl (v 32) (l 32)) (l 15)) (Bin op.And (Bin op.Add (Bin op.Sltu (Bin op.And (Bin op.Srl (v 32) (l 32)) (l 15)) (l 10)) (l 0xffffffffffffffff)) (l 39))) (l 48)) (l 0x101000000000000)) ∷ A ∷ A ∷ A ∷ A ∷ A ∷ A ∷ A ∷ v 32 ∷ l 32 ∷ v 40 ∷ v 32 ∷ v 42 ∷ (Bin op.Add (v 40) (l 128)) ∷ A ∷ A ∷ A ∷ A ∷ A ∷ A ∷ l 0x101000000000000 ∷ l 0x80008100 ∷ []) csrs_2 cells_3 ([]) 0 true ∷
    b 1046 0x8000050c (l 0 ∷ l 0x8000050c ∷ l 0x80000498 ∷ A ∷ A ∷ v 40 ∷ A ∷ A ∷ A ∷ A ∷ (Bin op.Add (Bin op.Add (Bin op.Add (Bin op.And (Bin op.Srl (v 32) (l 32)) (l 15)) (Bin op.And (Bin op.Add (Bin op.Sltu (Bin op.And (Bin op.Srl (v 32) (l 32)) (l 15)) (l 10)) (l 0xffffffffffffffff)) (l 39))) (l 48)) (l 0x101000000000000)) ∷ A ∷ A ∷ A ∷ A ∷ A ∷ A ∷ A ∷ v 32 ∷ l 32 ∷ v 40 ∷ v 32 ∷ v 42 ∷ (Bin op.Add (v 40) (l 128)) ∷ A ∷ A ∷ A ∷ A ∷ A ∷ A ∷ l 0x101000000000000 ∷ l 0x80008100 ∷ []) csrs_2 cells_3 ([]) 10 true ∷
    b 1046 0x80000518 (l 0 ∷ l 0x8000050c ∷ l 0x80000498 ∷ A ∷ A ∷ v 40 ∷ A ∷ A ∷ A ∷ A ∷ (Bin op.Add (Bin op.Add (Bin op.Add (Bin op.And (Bin op.Srl (v 32) (l 28)) (l 15)) (Bin op.And (Bin op.Add (Bin op.Sltu (Bin op.And (Bin op.Srl (v 32) (l 28)) (l 15)) (l 10)) (l 0xffffffffffffffff)) (l 39))) (l 48)) (l 0x101000000000000)) ∷ A ∷ A ∷ A ∷ A ∷ A ∷ A ∷ A ∷ v 32 ∷ l 28 ∷ v 40 ∷ v 32 ∷ v 42 ∷ (Bin op.Add (v 40) (l 128)) ∷ A ∷ A ∷ A ∷ A ∷ A ∷ A ∷ l 0x101000000000000 ∷ l 0x80008100 ∷ []) csrs_2 cells_3 ([]) 1 true ∷
    b 1046 0x80000520 (l 0 ∷ l 0x8000050c ∷ l 0x80000498 ∷ A ∷ A ∷ v 40 ∷ A ∷ A ∷ A ∷ A ∷ (Bin op.Add (Bin op.Add (Bin op.Add (Bin op.And (Bin op.Srl (v 32) (l 28)) (l 15)) (Bin op.And (Bin op.Add (Bin op.Sltu (Bin op.And (Bin op.Srl (v 32) (l 28)) (l 15)) (l 10)) (l 0xffffffffffffffff)) (l 39))) (l 48)) (l 0x101000000000000)) ∷ A ∷ A ∷ A ∷ A ∷ A ∷ A ∷ A ∷ v 32 ∷ l 28 ∷ v 40 ∷ v 32 ∷ v 42 ∷ (Bin op.Add (v 40) (l 128)) ∷ A ∷ A ∷ A ∷ A ∷ A ∷ A ∷ l 0x101000000000000 ∷ l 0x80008100 ∷ []) csrs_2 cells_3 ([]) 0 true ∷
    b 1047 0x80000524 (l 0 ∷ l 0x8000050c ∷ l 0x80000498 ∷ A ∷ A ∷ v 40 ∷ A ∷ A ∷ A ∷ A ∷ (Bin op.Add (Bin op.Add (Bin op.Add (Bin op.And (Bin op.Srl (v 32) (l 28)) (l 15)) (Bin op.And (Bin op.Add (Bin op.Sltu (Bin op.And (Bin op.Srl (v 32) (l 28)) (l 15)) (l 10)) (l 0xffffffffffffffff)) (l 39))) (l 48)) (l 0x101000000000000)) ∷ A ∷ A ∷ A ∷ A ∷ A ∷ A ∷ A ∷ v 32 ∷ l 28 ∷ v 40 ∷ v 32 ∷ v 42 ∷ (Bin op.Add (v 40) (l 128)) ∷ A ∷ A ∷ A ∷ A ∷ A ∷ A ∷ l 0x101000000000000 ∷ l 0x80008100 ∷ []) csrs_2 cells_3 ([]) 0 true ∷
    b 1048 0x8000050c (l 0 ∷ l 0x8000050c ∷ l 0x80000498 ∷ A ∷ A ∷ v 40 ∷ A ∷ A ∷ A ∷ A ∷ (Bin op.Add (Bin op.Add (Bin op.Add (Bin op.And (Bin op.Srl (v 32) (l 28)) (l 15)) (Bin op.And (Bin op.Add (Bin op.Sltu (Bin op.And (Bin op.Srl (v 32) (l 28)) (l 15)) (l 10)) (l 0xffffffffffffffff)) (l 39))) (l 48)) (l 0x101000000000000)) ∷ A ∷ A ∷ A ∷ A ∷ A ∷ A ∷ A ∷ v 32 ∷ l 28 ∷ v 40 ∷ v 32 ∷ v 42 ∷ (Bin op.Add (v 40) (l 128)) ∷ A ∷ A ∷ A ∷ A ∷ A ∷ A ∷ l 0x101000000000000 ∷ l 0x80008100 ∷ []) csrs_2 cells_3 ([]) 10 true ∷
    b 1048 0x80000518 (l 0 ∷ l 0x8000050c ∷ l 0x80000498 ∷ A ∷ A ∷ v 40 ∷ A ∷ A ∷ A ∷ A ∷ (Bin op.Add (Bin op.Add (Bin op.Add (Bin op.And (Bin op.Srl (v 32) (l 24)) (l 15)) (Bin op.And (Bin op.Add (Bin op.Sltu (Bin op.And (Bin op.Srl (v 32) (l 24)) (l 15)) (l 10)) (l 0xffffffffffffffff)) (l 39))) (l 48)) (l 0x101000000000000)) ∷ A ∷ A ∷ A ∷ A ∷ A ∷ A ∷ A ∷ v 32 ∷ l 24 ∷ v 40 ∷ v 32 ∷ v 42 ∷ (Bin op.Add (v 40) (l 128)) ∷ A ∷ A ∷ A ∷ A ∷ A ∷ A ∷ l 0x101000000000000 ∷ l 0x80008100 ∷ []) csrs_2 cells_3 ([]) 1 true ∷
    b 1048 0x80000520 (l 0 ∷ l 0x8000050c ∷ l 0x80000498 ∷ A ∷ A ∷ v 40 ∷ A ∷ A ∷ A ∷ A ∷ (Bin op.Add (Bin op.Add (Bin op.Add (Bin op.And (Bin op.Srl (v 32) (l 24)) (l 15)) (Bin op.And (Bin op.Add (Bin op.Sltu (Bin op.And (Bin op.Srl (v 32) (l 24)) (l 15)) (l 10)) (l 0xffffffffffffffff)) (l 39))) (l 48)) (l 0x101000000000000)) ∷ A ∷ A ∷ A ∷ A ∷ A ∷ A ∷ A ∷ v 32 ∷ l 24 ∷ v 40 ∷ v 32 ∷ v 42 ∷ (Bin op.Add (v 40) (l 128)) ∷ A ∷ A ∷ A ∷ A ∷ A ∷ A ∷ l 0x101000000000000 ∷ l 0x80008100 ∷ []) csrs_2 cells_3 ([]) 0 true ∷
    b 1049 0x80000524 (l 0 ∷ l 0x8000050c ∷ l 0x80000498 ∷ A ∷ A ∷ v 40 ∷ A ∷ A ∷ A ∷ A ∷ (Bin op.Add (Bin op.Add (Bin op.Add (Bin op.And (Bin op.Srl (v 32) (l 24)) (l 15)) (Bin op.And (Bin op.Add (Bin op.Sltu (Bin op.And (Bin op.Srl (v 32) (l 24)) (l 15)) (l 10)) (l 0xffffffffffffffff)) (l 39))) (l 48)) (l 0x101000000000000)) ∷ A ∷ A ∷ A ∷ A ∷ A ∷ A ∷ A ∷ v 32 ∷ l 24 ∷ v 40 ∷ v 32 ∷ v 42 ∷ (Bin op.Add (v 40) (l 128)) ∷ A ∷ A ∷ A ∷ A ∷ A ∷ A ∷ l 0x101000000000000 ∷ l 0x80008100 ∷ []) csrs_2 cells_3 ([]) 0 true ∷
    b 1050 0x8000050c (l 0 ∷ l 0x8000050c ∷ l 0x80000498 ∷ A ∷ A ∷ v 40 ∷ A ∷ A ∷ A ∷ A ∷ (Bin op.Add (Bin op.Add (Bin op.Add (Bin op.And (Bin op.Srl (v 32) (l 24)) (l 15)) (Bin op.And (Bin op.Add (Bin op.Sltu (Bin op.And (Bin op.Srl (v 32) (l 24)) (l 15)) (l 10)) (l 0xffffffffffffffff)) (l 39))) (l 48)) (l 0x101000000000000)) ∷ A ∷ A ∷ A ∷ A ∷ A ∷ A ∷ A ∷ v 32 ∷ l 24 ∷ v 40 ∷ v 32 ∷ v 42 ∷ (Bin op.Add (v 40) (l 128)) ∷ A ∷ A ∷ A ∷ A ∷ A ∷ A ∷ l 0x101000000000000 ∷ l 0x80008100 ∷ []) csrs_2 cells_3 ([]) 10 true ∷
    b 1050 0x80000518 (l 0 ∷ l 0x8000050c ∷ l 0x80000498 ∷ A ∷ A ∷ v 40 ∷ A ∷ A ∷ A ∷ A ∷ (Bin op.Add (Bin op.Add (Bin op.Add (Bin op.And (Bin op.Srl (v 32) (l 20)) (l 15)) (Bin op.And (Bin op.Add (Bin op.Sltu (Bin op.And (Bin op.Srl (v 32) (l 20)) (l 15)) (l 10)) (l 0xffffffffffffffff)) (l 39))) (l 48)) (l 0x101000000000000)) ∷ A ∷ A ∷ A ∷ A ∷ A ∷ A ∷ A ∷ v 32 ∷ l 20 ∷ v 40 ∷ v 32 ∷ v 42 ∷ (Bin op.Add (v 40) (l 128)) ∷ A ∷ A ∷ A ∷ A ∷ A ∷ A ∷ l 0x101000000000000 ∷ l 0x80008100 ∷ []) csrs_2 cells_3 ([]) 1 true ∷
    b 1050 0x80000520 (l 0 ∷ l 0x8000050c ∷ l 0x80000498 ∷ A ∷ A ∷ v 40 ∷ A ∷ A ∷ A ∷ A ∷ (Bin op.Add (Bin op.Add (Bin op.Add (Bin op.And (Bin op.Srl (v 32) (l 20)) (l 15)) (Bin op.And (Bin op.Add (Bin op.Sltu (Bin op.And (Bin op.Srl (v 32) (l 20)) (l 15)) (l 10)) (l 0xffffffffffffffff)) (l 39))) (l 48)) (l 0x101000000000000)) ∷ A ∷ A ∷ A ∷ A ∷ A ∷ A ∷ A ∷ v 32 ∷ l 20 ∷ v 40 ∷ v 32 ∷ v 42 ∷ (Bin op.Add (v 40) (l 128)) ∷ A ∷ A ∷ A ∷ A ∷ A ∷ A ∷ l 0x101000000000000 ∷ l 0x80008100 ∷ []) csrs_2 cells_3 ([]) 0 true ∷
    b 1051 0x80000524 (l 0 ∷ l 0x8000050c ∷ l 0x80000498 ∷ A ∷ A ∷ v 40 ∷ A ∷ A ∷ A ∷ A ∷ (Bin op.Add (Bin op.Add (Bin op.Add (Bin op.And (Bin op.Srl (v 32) (l 20)) (l 15)) (Bin op.And (Bin op.Add (Bin op.Sltu (Bin op.And (Bin op.Srl (v 32) (l 20)) (l 15)) (l 10)) (l 0xffffffffffffffff)) (l 39))) (l 48)) (l 0x101000000000000)) ∷ A ∷ A ∷ A ∷ A ∷ A ∷ A ∷ A ∷ v 32 ∷ l 20 ∷ v 40 ∷ v 32 ∷ v 42 ∷ (Bin op.Add (v 40) (l 128)) ∷ A ∷ A ∷ A ∷ A ∷ A ∷ A ∷ l 0x101000000000000 ∷ l 0x80008100 ∷ []) csrs_2 cells_3 ([]) 0 true ∷
    b 1052 0x8000050c (l 0 ∷ l 0x8000050c ∷ l 0x80000498 ∷ A ∷ A ∷ v 40 ∷ A ∷ A ∷ A ∷ A ∷ (Bin op.Add (Bin op.Add (Bin op.Add (Bin op.And (Bin op.Srl (v 32) (l 20)) (l 15)) (Bin op.And (Bin op.Add (Bin op.Sltu (Bin op.And (Bin op.Srl (v 32) (l 20)) (l 15)) (l 10)) (l 0xffffffffffffffff)) (l 39))) (l 48)) (l 0x101000000000000)) ∷ A ∷ A ∷ A ∷ A ∷ A ∷ A ∷ A ∷ v 32 ∷ l 20 ∷ v 40 ∷ v 32 ∷ v 42 ∷ (Bin op.Add (v 40) (l 128)) ∷ A ∷ A ∷ A ∷ A ∷ A ∷ A ∷ l 0x101000000000000 ∷ l 0x80008100 ∷ []) csrs_2 cells_3 ([]) 10 true ∷
    b 1052 0x80000518 (l 0 ∷ l 0x8000050c ∷ l 0x80000498 ∷ A ∷ A ∷ v 40 ∷ A ∷ A ∷ A ∷ A ∷ (Bin op.Add (Bin op.Add (Bin op.Add (Bin op.And (Bin op.Srl (v 32) (l 16)) (l 15)) (Bin op.And (Bin op.Add (Bin op.Sltu (Bin op.And (Bin op.Srl (v 32) (l 16)) (l 15)) (l 10)) (l 0xffffffffffffffff)) (l 39))) (l 48)) (l 0x101000000000000)) ∷ A ∷ A ∷ A ∷ A ∷ A ∷ A ∷ A ∷ v 32 ∷ l 16 ∷ v 40 ∷ v 32 ∷ v 42 ∷ (Bin op.Add (v 40) (l 128)) ∷ A ∷ A ∷ A ∷ A ∷ A ∷ A ∷ l 0x101000000000000 ∷ l 0x80008100 ∷ []) csrs_2 cells_3 ([]) 1 true ∷
    b 1052 0x80000520 (l 0 ∷ l 0x8000050c ∷ l 0x80000498 ∷ A ∷ A ∷ v 40 ∷ A ∷ A ∷ A ∷ A ∷ (Bin op.Add (Bin op.Add (Bin op.Add (Bin op.And (Bin op.Srl (v 32) (l 16)) (l 15)) (Bin op.And (Bin op.Add (Bin op.Sltu (Bin op.And (Bin op.Srl (v 32) (l 16)) (l 15)) (l 10)) (l 0xffffffffffffffff)) (l 39))) (l 48)) (l 0x101000000000000)) ∷ A ∷ A ∷ A ∷ A ∷ A ∷ A ∷ A ∷ v 32 ∷ l 16 ∷ v 40 ∷ v 32 ∷ v 42 ∷ (Bin op.Add (v 40) (l 128)) ∷ A ∷ A ∷ A ∷ A ∷ A ∷ A ∷ l 0x101000000000000 ∷ l 0x80008100 ∷ []) csrs_2 cells_3 ([]) 0 true ∷
    b 1053 0x80000524 (l 0 ∷ l 0x8000050c ∷ l 0x80000498 ∷ A ∷ A ∷ v 40 ∷ A ∷ A ∷ A ∷ A ∷ (Bin op.Add (Bin op.Add (Bin op.Add (Bin op.And (Bin op.Srl (v 32) (l 16)) (l 15)) (Bin op.And (Bin op.Add (Bin op.Sltu (Bin op.And (Bin op.Srl (v 32) (l 16)) (l 15)) (l 10)) (l 0xffffffffffffffff)) (l 39))) (l 48)) (l 0x101000000000000)) ∷ A ∷ A ∷ A ∷ A ∷ A ∷ A ∷ A ∷ v 32 ∷ l 16 ∷ v 40 ∷ v 32 ∷ v 42 ∷ (Bin op.Add (v 40) (l 128)) ∷ A ∷ A ∷ A ∷ A ∷ A ∷ A ∷ l 0x101000000000000 ∷ l 0x80008100 ∷ []) csrs_2 cells_3 ([]) 0 true ∷
    b 1054 0x8000050c (l 0 ∷ l 0x8000050c ∷ l 0x80000498 ∷ A ∷ A ∷ v 40 ∷ A ∷ A ∷ A ∷ A ∷ (Bin op.Add (Bin op.Add (Bin op.Add (Bin op.And (Bin op.Srl (v 32) (l 16)) (l 15)) (Bin op.And (Bin op.Add (Bin op.Sltu (Bin op.And (Bin op.Srl (v 32) (l 16)) (l 15)) (l 10)) (l 0xffffffffffffffff)) (l 39))) (l 48)) (l 0x101000000000000)) ∷ A ∷ A ∷ A ∷ A ∷ A ∷ A ∷ A ∷ v 32 ∷ l 16 ∷ v 40 ∷ v 32 ∷ v 42 ∷ (Bin op.Add (v 40) (l 128)) ∷ A ∷ A ∷ A ∷ A ∷ A ∷ A ∷ l 0x101000000000000 ∷ l 0x80008100 ∷ []) csrs_2 cells_3 ([]) 10 true ∷
    b 1054 0x80000518 (l 0 ∷ l 0x8000050c ∷ l 0x80000498 ∷ A ∷ A ∷ v 40 ∷ A ∷ A ∷ A ∷ A ∷ (Bin op.Add (Bin op.Add (Bin op.Add (Bin op.And (Bin op.Srl (v 32) (l 12)) (l 15)) (Bin op.And (Bin op.Add (Bin op.Sltu (Bin op.And (Bin op.Srl (v 32) (l 12)) (l 15)) (l 10)) (l 0xffffffffffffffff)) (l 39))) (l 48)) (l 0x101000000000000)) ∷ A ∷ A ∷ A ∷ A ∷ A ∷ A ∷ A ∷ v 32 ∷ l 12 ∷ v 40 ∷ v 32 ∷ v 42 ∷ (Bin op.Add (v 40) (l 128)) ∷ A ∷ A ∷ A ∷ A ∷ A ∷ A ∷ l 0x101000000000000 ∷ l 0x80008100 ∷ []) csrs_2 cells_3 ([]) 1 true ∷
    b 1054 0x80000520 (l 0 ∷ l 0x8000050c ∷ l 0x80000498 ∷ A ∷ A ∷ v 40 ∷ A ∷ A ∷ A ∷ A ∷ (Bin op.Add (Bin op.Add (Bin op.Add (Bin op.And (Bin op.Srl (v 32) (l 12)) (l 15)) (Bin op.And (Bin op.Add (Bin op.Sltu (Bin op.And (Bin op.Srl (v 32) (l 12)) (l 15)) (l 10)) (l 0xffffffffffffffff)) (l 39))) (l 48)) (l 0x101000000000000)) ∷ A ∷ A ∷ A ∷ A ∷ A ∷ A ∷ A ∷ v 32 ∷ l 12 ∷ v 40 ∷ v 32 ∷ v 42 ∷ (Bin op.Add (v 40) (l 128)) ∷ A ∷ A ∷ A ∷ A ∷ A ∷ A ∷ l 0x101000000000000 ∷ l 0x80008100 ∷ []) csrs_2 cells_3 ([]) 0 true ∷
    b 1055 0x80000524 (l 0 ∷ l 0x8000050c ∷ l 0x80000498 ∷ A ∷ A ∷ v 40 ∷ A ∷ A ∷ A ∷ A ∷ (Bin op.Add (Bin op.Add (Bin op.Add (Bin op.And (Bin op.Srl (v 32) (l 12)) (l 15)) (Bin op.And (Bin op.Add (Bin op.Sltu (Bin op.And (Bin op.Srl (v 32) (l 12)) (l 15)) (l 10)) (l 0xffffffffffffffff)) (l 39))) (l 48)) (l 0x101000000000000)) ∷ A ∷ A ∷ A ∷ A ∷ A ∷ A ∷ A ∷ v 32 ∷ l 12 ∷ v 40 ∷ v 32 ∷ v 42 ∷ (Bin op.Add (v 40) (l 128)) ∷ A ∷ A ∷ A ∷ A ∷ A ∷ A ∷ l 0x101000000000000 ∷ l 0x80008100 ∷ []) csrs_2 cells_3 ([]) 0 true ∷
    b 1056 0x8000050c (l 0 ∷ l 0x8000050c ∷ l 0x80000498 ∷ A ∷ A ∷ v 40 ∷ A ∷ A ∷ A ∷ A ∷ (Bin op.Add (Bin op.Add (Bin op.Add (Bin op.And (Bin op.Srl (v 32) (l 12)) (l 15)) (Bin op.And (Bin op.Add (Bin op.Sltu (Bin op.And (Bin op.Srl (v 32) (l 12)) (l 15)) (l 10)) (l 0xffffffffffffffff)) (l 39))) (l 48)) (l 0x101000000000000)) ∷ A ∷ A ∷ A ∷ A ∷ A ∷ A ∷ A ∷ v 32 ∷ l 12 ∷ v 40 ∷ v 32 ∷ v 42 ∷ (Bin op.Add (v 40) (l 128)) ∷ A ∷ A ∷ A ∷ A ∷ A ∷ A ∷ l 0x101000000000000 ∷ l 0x80008100 ∷ []) csrs_2 cells_3 ([]) 10 true ∷
    b 1056 0x80000518 (l 0 ∷ l 0x8000050c ∷ l 0x80000498 ∷ A ∷ A ∷ v 40 ∷ A ∷ A ∷ A ∷ A ∷ (Bin op.Add (Bin op.Add (Bin op.Add (Bin op.And (Bin op.Srl (v 32) (l 8)) (l 15)) (Bin op.And (Bin op.Add (Bin op.Sltu (Bin op.And (Bin op.Srl (v 32) (l 8)) (l 15)) (l 10)) (l 0xffffffffffffffff)) (l 39))) (l 48)) (l 0x101000000000000)) ∷ A ∷ A ∷ A ∷ A ∷ A ∷ A ∷ A ∷ v 32 ∷ l 8 ∷ v 40 ∷ v 32 ∷ v 42 ∷ (Bin op.Add (v 40) (l 128)) ∷ A ∷ A ∷ A ∷ A ∷ A ∷ A ∷ l 0x101000000000000 ∷ l 0x80008100 ∷ []) csrs_2 cells_3 ([]) 1 true ∷
    b 1056 0x80000520 (l 0 ∷ l 0x8000050c ∷ l 0x80000498 ∷ A ∷ A ∷ v 40 ∷ A ∷ A ∷ A ∷ A ∷ (Bin op.Add (Bin op.Add (Bin op.Add (Bin op.And (Bin op.Srl (v 32) (l 8)) (l 15)) (Bin op.And (Bin op.Add (Bin op.Sltu (Bin op.And (Bin op.Srl (v 32) (l 8)) (l 15)) (l 10)) (l 0xffffffffffffffff)) (l 39))) (l 48)) (l 0x101000000000000)) ∷ A ∷ A ∷ A ∷ A ∷ A ∷ A ∷ A ∷ v 32 ∷ l 8 ∷ v 40 ∷ v 32 ∷ v 42 ∷ (Bin op.Add (v 40) (l 128)) ∷ A ∷ A ∷ A ∷ A ∷ A ∷ A ∷ l 0x101000000000000 ∷ l 0x80008100 ∷ []) csrs_2 cells_3 ([]) 0 true ∷
    b 1057 0x80000524 (l 0 ∷ l 0x8000050c ∷ l 0x80000498 ∷ A ∷ A ∷ v 40 ∷ A ∷ A ∷ A ∷ A ∷ (Bin op.Add (Bin op.Add (Bin op.Add (Bin op.And (Bin op.Srl (v 32) (l 8)) (l 15)) (Bin op.And (Bin op.Add (Bin op.Sltu (Bin op.And (Bin op.Srl (v 32) (l 8)) (l 15)) (l 10)) (l 0xffffffffffffffff)) (l 39))) (l 48)) (l 0x101000000000000)) ∷ A ∷ A ∷ A ∷ A ∷ A ∷ A ∷ A ∷ v 32 ∷ l 8 ∷ v 40 ∷ v 32 ∷ v 42 ∷ (Bin op.Add (v 40) (l 128)) ∷ A ∷ A ∷ A ∷ A ∷ A ∷ A ∷ l 0x101000000000000 ∷ l 0x80008100 ∷ []) csrs_2 cells_3 ([]) 0 true ∷
    b 1058 0x8000050c (l 0 ∷ l 0x8000050c ∷ l 0x80000498 ∷ A ∷ A ∷ v 40 ∷ A ∷ A ∷ A ∷ A ∷ (Bin op.Add (Bin op.Add (Bin op.Add (Bin op.And (Bin op.Srl (v 32) (l 8)) (l 15)) (Bin op.And (Bin op.Add (Bin op.Sltu (Bin op.And (Bin op.Srl (v 32) (l 8)) (l 15)) (l 10)) (l 0xffffffffffffffff)) (l 39))) (l 48)) (l 0x101000000000000)) ∷ A ∷ A ∷ A ∷ A ∷ A ∷ A ∷ A ∷ v 32 ∷ l 8 ∷ v 40 ∷ v 32 ∷ v 42 ∷ (Bin op.Add (v 40) (l 128)) ∷ A ∷ A ∷ A ∷ A ∷ A ∷ A ∷ l 0x101000000000000 ∷ l 0x80008100 ∷ []) csrs_2 cells_3 ([]) 10 true ∷
    b 1058 0x80000518 (l 0 ∷ l 0x8000050c ∷ l 0x80000498 ∷ A ∷ A ∷ v 40 ∷ A ∷ A ∷ A ∷ A ∷ (Bin op.Add (Bin op.Add (Bin op.Add (Bin op.And (Bin op.Srl (v 32) (l 4)) (l 15)) (Bin op.And (Bin op.Add (Bin op.Sltu (Bin op.And (Bin op.Srl (v 32) (l 4)) (l 15)) (l 10)) (l 0xffffffffffffffff)) (l 39))) (l 48)) (l 0x101000000000000)) ∷ A ∷ A ∷ A ∷ A ∷ A ∷ A ∷ A ∷ v 32 ∷ l 4 ∷ v 40 ∷ v 32 ∷ v 42 ∷ (Bin op.Add (v 40) (l 128)) ∷ A ∷ A ∷ A ∷ A ∷ A ∷ A ∷ l 0x101000000000000 ∷ l 0x80008100 ∷ []) csrs_2 cells_3 ([]) 1 true ∷
    b 1058 0x80000520 (l 0 ∷ l 0x8000050c ∷ l 0x80000498 ∷ A ∷ A ∷ v 40 ∷ A ∷ A ∷ A ∷ A ∷ (Bin op.Add (Bin op.Add (Bin op.Add (Bin op.And (Bin op.Srl (v 32) (l 4)) (l 15)) (Bin op.And (Bin op.Add (Bin op.Sltu (Bin op.And (Bin op.Srl (v 32) (l 4)) (l 15)) (l 10)) (l 0xffffffffffffffff)) (l 39))) (l 48)) (l 0x101000000000000)) ∷ A ∷ A ∷ A ∷ A ∷ A ∷ A ∷ A ∷ v 32 ∷ l 4 ∷ v 40 ∷ v 32 ∷ v 42 ∷ (Bin op.Add (v 40) (l 128)) ∷ A ∷ A ∷ A ∷ A ∷ A ∷ A ∷ l 0x101000000000000 ∷ l 0x80008100 ∷ []) csrs_2 cells_3 ([]) 0 true ∷
    b 1059 0x80000524 (l 0 ∷ l 0x8000050c ∷ l 0x80000498 ∷ A ∷ A ∷ v 40 ∷ A ∷ A ∷ A ∷ A ∷ (Bin op.Add (Bin op.Add (Bin op.Add (Bin op.And (Bin op.Srl (v 32) (l 4)) (l 15)) (Bin op.And (Bin op.Add (Bin op.Sltu (Bin op.And (Bin op.Srl (v 32) (l 4)) (l 15)) (l 10)) (l 0xffffffffffffffff)) (l 39))) (l 48)) (l 0x101000000000000)) ∷ A ∷ A ∷ A ∷ A ∷ A ∷ A ∷ A ∷ v 32 ∷ l 4 ∷ v 40 ∷ v 32 ∷ v 42 ∷ (Bin op.Add (v 40) (l 128)) ∷ A ∷ A ∷ A ∷ A ∷ A ∷ A ∷ l 0x101000000000000 ∷ l 0x80008100 ∷ []) csrs_2 cells_3 ([]) 0 true ∷
    b 1060 0x8000050c (l 0 ∷ l 0x8000050c ∷ l 0x80000498 ∷ A ∷ A ∷ v 40 ∷ A ∷ A ∷ A ∷ A ∷ (Bin op.Add (Bin op.Add (Bin op.Add (Bin op.And (Bin op.Srl (v 32) (l 4)) (l 15)) (Bin op.And (Bin op.Add (Bin op.Sltu (Bin op.And (Bin op.Srl (v 32) (l 4)) (l 15)) (l 10)) (l 0xffffffffffffffff)) (l 39))) (l 48)) (l 0x101000000000000)) ∷ A ∷ A ∷ A ∷ A ∷ A ∷ A ∷ A ∷ v 32 ∷ l 4 ∷ v 40 ∷ v 32 ∷ v 42 ∷ (Bin op.Add (v 40) (l 128)) ∷ A ∷ A ∷ A ∷ A ∷ A ∷ A ∷ l 0x101000000000000 ∷ l 0x80008100 ∷ []) csrs_2 cells_3 ([]) 10 true ∷
    b 1060 0x80000518 (l 0 ∷ l 0x8000050c ∷ l 0x80000498 ∷ A ∷ A ∷ v 40 ∷ A ∷ A ∷ A ∷ A ∷ (Bin op.Add (Bin op.Add (Bin op.Add (Bin op.And (Bin op.Srl (v 32) (l 0)) (l 15)) (Bin op.And (Bin op.Add (Bin op.Sltu (Bin op.And (Bin op.Srl (v 32) (l 0)) (l 15)) (l 10)) (l 0xffffffffffffffff)) (l 39))) (l 48)) (l 0x101000000000000)) ∷ A ∷ A ∷ A ∷ A ∷ A ∷ A ∷ A ∷ v 32 ∷ l 0 ∷ v 40 ∷ v 32 ∷ v 42 ∷ (Bin op.Add (v 40) (l 128)) ∷ A ∷ A ∷ A ∷ A ∷ A ∷ A ∷ l 0x101000000000000 ∷ l 0x80008100 ∷ []) csrs_2 cells_3 ([]) 1 true ∷
    b 1060 0x80000520 (l 0 ∷ l 0x8000050c ∷ l 0x80000498 ∷ A ∷ A ∷ v 40 ∷ A ∷ A ∷ A ∷ A ∷ (Bin op.Add (Bin op.Add (Bin op.Add (Bin op.And (Bin op.Srl (v 32) (l 0)) (l 15)) (Bin op.And (Bin op.Add (Bin op.Sltu (Bin op.And (Bin op.Srl (v 32) (l 0)) (l 15)) (l 10)) (l 0xffffffffffffffff)) (l 39))) (l 48)) (l 0x101000000000000)) ∷ A ∷ A ∷ A ∷ A ∷ A ∷ A ∷ A ∷ v 32 ∷ l 0 ∷ v 40 ∷ v 32 ∷ v 42 ∷ (Bin op.Add (v 40) (l 128)) ∷ A ∷ A ∷ A ∷ A ∷ A ∷ A ∷ l 0x101000000000000 ∷ l 0x80008100 ∷ []) csrs_2 cells_3 ([]) 0 true ∷
    b 1061 0x80000524 (l 0 ∷ l 0x8000050c ∷ l 0x80000498 ∷ A ∷ A ∷ v 40 ∷ A ∷ A ∷ A ∷ A ∷ (Bin op.Add (Bin op.Add (Bin op.Add (Bin op.And (Bin op.Srl (v 32) (l 0)) (l 15)) (Bin op.And (Bin op.Add (Bin op.Sltu (Bin op.And (Bin op.Srl (v 32) (l 0)) (l 15)) (l 10)) (l 0xffffffffffffffff)) (l 39))) (l 48)) (l 0x101000000000000)) ∷ A ∷ A ∷ A ∷ A ∷ A ∷ A ∷ A ∷ v 32 ∷ l 0 ∷ v 40 ∷ v 32 ∷ v 42 ∷ (Bin op.Add (v 40) (l 128)) ∷ A ∷ A ∷ A ∷ A ∷ A ∷ A ∷ l 0x101000000000000 ∷ l 0x80008100 ∷ []) csrs_2 cells_3 ([]) 0 true ∷
    b 1062 0x8000050c (l 0 ∷ l 0x8000050c ∷ l 0x80000498 ∷ A ∷ A ∷ v 40 ∷ A ∷ A ∷ A ∷ A ∷ (Bin op.Add (Bin op.Add (Bin op.Add (Bin op.And (Bin op.Srl (v 32) (l 0)) (l 15)) (Bin op.And (Bin op.Add (Bin op.Sltu (Bin op.And (Bin op.Srl (v 32) (l 0)) (l 15)) (l 10)) (l 0xffffffffffffffff)) (l 39))) (l 48)) (l 0x101000000000000)) ∷ A ∷ A ∷ A ∷ A ∷ A ∷ A ∷ A ∷ v 32 ∷ l 0 ∷ v 40 ∷ v 32 ∷ v 42 ∷ (Bin op.Add (v 40) (l 128)) ∷ A ∷ A ∷ A ∷ A ∷ A ∷ A ∷ l 0x101000000000000 ∷ l 0x80008100 ∷ []) csrs_2 cells_3 ([]) 4 true ∷
    b 1062 0x80000518 (l 0 ∷ l 0x800004a0 ∷ l 0x80000498 ∷ A ∷ A ∷ v 40 ∷ A ∷ A ∷ A ∷ A ∷ l 0x101000000000020 ∷ A ∷ A ∷ A ∷ A ∷ A ∷ A ∷ A ∷ v 32 ∷ l 0 ∷ v 40 ∷ v 32 ∷ v 42 ∷ (Bin op.Add (v 40) (l 128)) ∷ A ∷ A ∷ A ∷ A ∷ A ∷ A ∷ l 0x101000000000000 ∷ l 0x80008100 ∷ []) csrs_2 cells_3 ([]) 1 true ∷
    b 1062 0x80000520 (l 0 ∷ l 0x800004a0 ∷ l 0x80000498 ∷ A ∷ A ∷ v 40 ∷ A ∷ A ∷ A ∷ A ∷ l 0x101000000000020 ∷ A ∷ A ∷ A ∷ A ∷ A ∷ A ∷ A ∷ v 32 ∷ l 0 ∷ v 40 ∷ v 32 ∷ v 42 ∷ (Bin op.Add (v 40) (l 128)) ∷ A ∷ A ∷ A ∷ A ∷ A ∷ A ∷ l 0x101000000000000 ∷ l 0x80008100 ∷ []) csrs_2 cells_3 ([]) 0 true ∷
    b 1063 0x80000524 (l 0 ∷ l 0x800004a0 ∷ l 0x80000498 ∷ A ∷ A ∷ v 40 ∷ A ∷ A ∷ A ∷ A ∷ l 0x101000000000020 ∷ A ∷ A ∷ A ∷ A ∷ A ∷ A ∷ A ∷ v 32 ∷ l 0 ∷ v 40 ∷ v 32 ∷ v 42 ∷ (Bin op.Add (v 40) (l 128)) ∷ A ∷ A ∷ A ∷ A ∷ A ∷ A ∷ l 0x101000000000000 ∷ l 0x80008100 ∷ []) csrs_2 cells_3 ([]) 0 true ∷
    b 1064 0x800004a0 (l 0 ∷ l 0x800004a0 ∷ l 0x80000498 ∷ A ∷ A ∷ v 40 ∷ A ∷ A ∷ A ∷ A ∷ l 0x101000000000020 ∷ A ∷ A ∷ A ∷ A ∷ A ∷ A ∷ A ∷ v 32 ∷ l 0 ∷ v 40 ∷ v 32 ∷ v 42 ∷ (Bin op.Add (v 40) (l 128)) ∷ A ∷ A ∷ A ∷ A ∷ A ∷ A ∷ l 0x101000000000000 ∷ l 0x80008100 ∷ []) csrs_2 cells_3 ([]) 2 true ∷
    b 1064 0x80000518 (l 0 ∷ l 0x800004a8 ∷ l 0x80000498 ∷ A ∷ A ∷ v 40 ∷ A ∷ A ∷ A ∷ A ∷ l 0x101000000000076 ∷ A ∷ A ∷ A ∷ A ∷ A ∷ A ∷ A ∷ v 32 ∷ l 0 ∷ v 40 ∷ v 32 ∷ v 42 ∷ (Bin op.Add (v 40) (l 128)) ∷ A ∷ A ∷ A ∷ A ∷ A ∷ A ∷ l 0x101000000000000 ∷ l 0x80008100 ∷ []) csrs_2 cells_3 ([]) 1 true ∷
    b 1064 0x80000520 (l 0 ∷ l 0x800004a8 ∷ l 0x80000498 ∷ A ∷ A ∷ v 40 ∷ A ∷ A ∷ A ∷ A ∷ l 0x101000000000076 ∷ A ∷ A ∷ A ∷ A ∷ A ∷ A ∷ A ∷ v 32 ∷ l 0 ∷ v 40 ∷ v 32 ∷ v 42 ∷ (Bin op.Add (v 40) (l 128)) ∷ A ∷ A ∷ A ∷ A ∷ A ∷ A ∷ l 0x101000000000000 ∷ l 0x80008100 ∷ []) csrs_2 cells_3 ([]) 0 true ∷
    b 1065 0x80000524 (l 0 ∷ l 0x800004a8 ∷ l 0x80000498 ∷ A ∷ A ∷ v 40 ∷ A ∷ A ∷ A ∷ A ∷ l 0x101000000000076 ∷ A ∷ A ∷ A ∷ A ∷ A ∷ A ∷ A ∷ v 32 ∷ l 0 ∷ v 40 ∷ v 32 ∷ v 42 ∷ (Bin op.Add (v 40) (l 128)) ∷ A ∷ A ∷ A ∷ A ∷ A ∷ A ∷ l 0x101000000000000 ∷ l 0x80008100 ∷ []) csrs_2 cells_3 ([]) 0 true ∷
    b 1066 0x800004a8 (l 0 ∷ l 0x800004a8 ∷ l 0x80000498 ∷ A ∷ A ∷ v 40 ∷ A ∷ A ∷ A ∷ A ∷ l 0x101000000000076 ∷ A ∷ A ∷ A ∷ A ∷ A ∷ A ∷ A ∷ v 32 ∷ l 0 ∷ v 40 ∷ v 32 ∷ v 42 ∷ (Bin op.Add (v 40) (l 128)) ∷ A ∷ A ∷ A ∷ A ∷ A ∷ A ∷ l 0x101000000000000 ∷ l 0x80008100 ∷ []) csrs_2 cells_3 ([]) 2 true ∷
    b 1066 0x80000518 (l 0 ∷ l 0x800004b0 ∷ l 0x80000498 ∷ A ∷ A ∷ v 40 ∷ A ∷ A ∷ A ∷ A ∷ l 0x101000000000061 ∷ A ∷ A ∷ A ∷ A ∷ A ∷ A ∷ A ∷ v 32 ∷ l 0 ∷ v 40 ∷ v 32 ∷ v 42 ∷ (Bin op.Add (v 40) (l 128)) ∷ A ∷ A ∷ A ∷ A ∷ A ∷ A ∷ l 0x101000000000000 ∷ l 0x80008100 ∷ []) csrs_2 cells_3 ([]) 1 true ∷
    b 1066 0x80000520 (l 0 ∷ l 0x800004b0 ∷ l 0x80000498 ∷ A ∷ A ∷ v 40 ∷ A ∷ A ∷ A ∷ A ∷ l 0x101000000000061 ∷ A ∷ A ∷ A ∷ A ∷ A ∷ A ∷ A ∷ v 32 ∷ l 0 ∷ v 40 ∷ v 32 ∷ v 42 ∷ (Bin op.Add (v 40) (l 128)) ∷ A ∷ A ∷ A ∷ A ∷ A ∷ A ∷ l 0x101000000000000 ∷ l 0x80008100 ∷ []) csrs_2 cells_3 ([]) 0 true ∷
    b 1067 0x80000524 (l 0 ∷ l 0x800004b0 ∷ l 0x80000498 ∷ A ∷ A ∷ v 40 ∷ A ∷ A ∷ A ∷ A ∷ l 0x101000000000061 ∷ A ∷ A ∷ A ∷ A ∷ A ∷ A ∷ A ∷ v 32 ∷ l 0 ∷ v 40 ∷ v 32 ∷ v 42 ∷ (Bin op.Add (v 40) (l 128)) ∷ A ∷ A ∷ A ∷ A ∷ A ∷ A ∷ l 0x101000000000000 ∷ l 0x80008100 ∷ []) csrs_2 cells_3 ([]) 0 true ∷
    b 1068 0x800004b0 (l 0 ∷ l 0x800004b0 ∷ l 0x80000498 ∷ A ∷ A ∷ v 40 ∷ A ∷ A ∷ A ∷ A ∷ l 0x101000000000061 ∷ A ∷ A ∷ A ∷ A ∷ A ∷ A ∷ A ∷ v 32 ∷ l 0 ∷ v 40 ∷ v 32 ∷ v 42 ∷ (Bin op.Add (v 40) (l 128)) ∷ A ∷ A ∷ A ∷ A ∷ A ∷ A ∷ l 0x101000000000000 ∷ l 0x80008100 ∷ []) csrs_2 cells_3 ([]) 2 true ∷
    b 1068 0x80000518 (l 0 ∷ l 0x800004b8 ∷ l 0x80000498 ∷ A ∷ A ∷ v 40 ∷ A ∷ A ∷ A ∷ A ∷ l 0x10100000000006c ∷ A ∷ A ∷ A ∷ A ∷ A ∷ A ∷ A ∷ v 32 ∷ l 0 ∷ v 40 ∷ v 32 ∷ v 42 ∷ (Bin op.Add (v 40) (l 128)) ∷ A ∷ A ∷ A ∷ A ∷ A ∷ A ∷ l 0x101000000000000 ∷ l 0x80008100 ∷ []) csrs_2 cells_3 ([]) 1 true ∷
    b 1068 0x80000520 (l 0 ∷ l 0x800004b8 ∷ l 0x80000498 ∷ A ∷ A ∷ v 40 ∷ A ∷ A ∷ A ∷ A ∷ l 0x10100000000006c ∷ A ∷ A ∷ A ∷ A ∷ A ∷ A ∷ A ∷ v 32 ∷ l 0 ∷ v 40 ∷ v 32 ∷ v 42 ∷ (Bin op.Add (v 40) (l 128)) ∷ A ∷ A ∷ A ∷ A ∷ A ∷ A ∷ l 0x101000000000000 ∷ l 0x80008100 ∷ []) csrs_2 cells_3 ([]) 0 true ∷
    b 1069 0x80000524 (l 0 ∷ l 0x800004b8 ∷ l 0x80000498 ∷ A ∷ A ∷ v 40 ∷ A ∷ A ∷ A ∷ A ∷ l 0x10100000000006c ∷ A ∷ A ∷ A ∷ A ∷ A ∷ A ∷ A ∷ v 32 ∷ l 0 ∷ v 40 ∷ v 32 ∷ v 42 ∷ (Bin op.Add (v 40) (l 128)) ∷ A ∷ A ∷ A ∷ A ∷ A ∷ A ∷ l 0x101000000000000 ∷ l 0x80008100 ∷ []) csrs_2 cells_3 ([]) 0 true ∷
    b 1070 0x800004b8 (l 0 ∷ l 0x800004b8 ∷ l 0x80000498 ∷ A ∷ A ∷ v 40 ∷ A ∷ A ∷ A ∷ A ∷ l 0x10100000000006c ∷ A ∷ A ∷ A ∷ A ∷ A ∷ A ∷ A ∷ v 32 ∷ l 0 ∷ v 40 ∷ v 32 ∷ v 42 ∷ (Bin op.Add (v 40) (l 128)) ∷ A ∷ A ∷ A ∷ A ∷ A ∷ A ∷ l 0x101000000000000 ∷ l 0x80008100 ∷ []) csrs_2 cells_3 ([]) 2 true ∷
    b 1070 0x80000518 (l 0 ∷ l 0x800004c0 ∷ l 0x80000498 ∷ A ∷ A ∷ v 40 ∷ A ∷ A ∷ A ∷ A ∷ l 0x101000000000075 ∷ A ∷ A ∷ A ∷ A ∷ A ∷ A ∷ A ∷ v 32 ∷ l 0 ∷ v 40 ∷ v 32 ∷ v 42 ∷ (Bin op.Add (v 40) (l 128)) ∷ A ∷ A ∷ A ∷ A ∷ A ∷ A ∷ l 0x101000000000000 ∷ l 0x80008100 ∷ []) csrs_2 cells_3 ([]) 1 true ∷
    b 1070 0x80000520 (l 0 ∷ l 0x800004c0 ∷ l 0x80000498 ∷ A ∷ A ∷ v 40 ∷ A ∷ A ∷ A ∷ A ∷ l 0x101000000000075 ∷ A ∷ A ∷ A ∷ A ∷ A ∷ A ∷ A ∷ v 32 ∷ l 0 ∷ v 40 ∷ v 32 ∷ v 42 ∷ (Bin op.Add (v 40) (l 128)) ∷ A ∷ A ∷ A ∷ A ∷ A ∷ A ∷ l 0x101000000000000 ∷ l 0x80008100 ∷ []) csrs_2 cells_3 ([]) 0 true ∷
    b 1071 0x80000524 (l 0 ∷ l 0x800004c0 ∷ l 0x80000498 ∷ A ∷ A ∷ v 40 ∷ A ∷ A ∷ A ∷ A ∷ l 0x101000000000075 ∷ A ∷ A ∷ A ∷ A ∷ A ∷ A ∷ A ∷ v 32 ∷ l 0 ∷ v 40 ∷ v 32 ∷ v 42 ∷ (Bin op.Add (v 40) (l 128)) ∷ A ∷ A ∷ A ∷ A ∷ A ∷ A ∷ l 0x101000000000000 ∷ l 0x80008100 ∷ []) csrs_2 cells_3 ([]) 0 true ∷
    b 1072 0x800004c0 (l 0 ∷ l 0x800004c0 ∷ l 0x80000498 ∷ A ∷ A ∷ v 40 ∷ A ∷ A ∷ A ∷ A ∷ l 0x101000000000075 ∷ A ∷ A ∷ A ∷ A ∷ A ∷ A ∷ A ∷ v 32 ∷ l 0 ∷ v 40 ∷ v 32 ∷ v 42 ∷ (Bin op.Add (v 40) (l 128)) ∷ A ∷ A ∷ A ∷ A ∷ A ∷ A ∷ l 0x101000000000000 ∷ l 0x80008100 ∷ []) csrs_2 cells_3 ([]) 2 true ∷
    b 1072 0x80000518 (l 0 ∷ l 0x800004c8 ∷ l 0x80000498 ∷ A ∷ A ∷ v 40 ∷ A ∷ A ∷ A ∷ A ∷ l 0x101000000000065 ∷ A ∷ A ∷ A ∷ A ∷ A ∷ A ∷ A ∷ v 32 ∷ l 0 ∷ v 40 ∷ v 32 ∷ v 42 ∷ (Bin op.Add (v 40) (l 128)) ∷ A ∷ A ∷ A ∷ A ∷ A ∷ A ∷ l 0x101000000000000 ∷ l 0x80008100 ∷ []) csrs_2 cells_3 ([]) 1 true ∷
    b 1072 0x80000520 (l 0 ∷ l 0x800004c8 ∷ l 0x80000498 ∷ A ∷ A ∷ v 40 ∷ A ∷ A ∷ A ∷ A ∷ l 0x101000000000065 ∷ A ∷ A ∷ A ∷ A ∷ A ∷ A ∷ A ∷ v 32 ∷ l 0 ∷ v 40 ∷ v 32 ∷ v 42 ∷ (Bin op.Add (v 40) (l 128)) ∷ A ∷ A ∷ A ∷ A ∷ A ∷ A ∷ l 0x101000000000000 ∷ l 0x80008100 ∷ []) csrs_2 cells_3 ([]) 0 true ∷
    b 1073 0x80000524 (l 0 ∷ l 0x800004c8 ∷ l 0x80000498 ∷ A ∷ A ∷ v 40 ∷ A ∷ A ∷ A ∷ A ∷ l 0x101000000000065 ∷ A ∷ A ∷ A ∷ A ∷ A ∷ A ∷ A ∷ v 32 ∷ l 0 ∷ v 40 ∷ v 32 ∷ v 42 ∷ (Bin op.Add (v 40) (l 128)) ∷ A ∷ A ∷ A ∷ A ∷ A ∷ A ∷ l 0x101000000000000 ∷ l 0x80008100 ∷ []) csrs_2 cells_3 ([]) 0 true ∷
    b 1074 0x800004c8 (l 0 ∷ l 0x800004c8 ∷ l 0x80000498 ∷ A ∷ A ∷ v 40 ∷ A ∷ A ∷ A ∷ A ∷ l 0x101000000000065 ∷ A ∷ A ∷ A ∷ A ∷ A ∷ A ∷ A ∷ v 32 ∷ l 0 ∷ v 40 ∷ v 32 ∷ v 42 ∷ (Bin op.Add (v 40) (l 128)) ∷ A ∷ A ∷ A ∷ A ∷ A ∷ A ∷ l 0x101000000000000 ∷ l 0x80008100 ∷ []) csrs_2 cells_3 ([]) 2 true ∷
    b 1074 0x80000518 (l 0 ∷ l 0x800004d0 ∷ l 0x80000498 ∷ A ∷ A ∷ v 40 ∷ A ∷ A ∷ A ∷ A ∷ l 0x101000000000020 ∷ A ∷ A ∷ A ∷ A ∷ A ∷ A ∷ A ∷ v 32 ∷ l 0 ∷ v 40 ∷ v 32 ∷ v 42 ∷ (Bin op.Add (v 40) (l 128)) ∷ A ∷ A ∷ A ∷ A ∷ A ∷ A ∷ l 0x101000000000000 ∷ l 0x80008100 ∷ []) csrs_2 cells_3 ([]) 1 true ∷
    b 1074 0x80000520 (l 0 ∷ l 0x800004d0 ∷ l 0x80000498 ∷ A ∷ A ∷ v 40 ∷ A ∷ A ∷ A ∷ A ∷ l 0x101000000000020 ∷ A ∷ A ∷ A ∷ A ∷ A ∷ A ∷ A ∷ v 32 ∷ l 0 ∷ v 40 ∷ v 32 ∷ v 42 ∷ (Bin op.Add (v 40) (l 128)) ∷ A ∷ A ∷ A ∷ A ∷ A ∷ A ∷ l 0x101000000000000 ∷ l 0x80008100 ∷ []) csrs_2 cells_3 ([]) 0 true ∷
    b 1075 0x80000524 (l 0 ∷ l 0x800004d0 ∷ l 0x80000498 ∷ A ∷ A ∷ v 40 ∷ A ∷ A ∷ A ∷ A ∷ l 0x101000000000020 ∷ A ∷ A ∷ A ∷ A ∷ A ∷ A ∷ A ∷ v 32 ∷ l 0 ∷ v 40 ∷ v 32 ∷ v 42 ∷ (Bin op.Add (v 40) (l 128)) ∷ A ∷ A ∷ A ∷ A ∷ A ∷ A ∷ l 0x101000000000000 ∷ l 0x80008100 ∷ []) csrs_2 cells_3 ([]) 0 true ∷
    b 1076 0x800004d0 (l 0 ∷ l 0x800004d0 ∷ l 0x80000498 ∷ A ∷ A ∷ v 40 ∷ A ∷ A ∷ A ∷ A ∷ l 0x101000000000020 ∷ A ∷ A ∷ A ∷ A ∷ A ∷ A ∷ A ∷ v 32 ∷ l 0 ∷ v 40 ∷ v 32 ∷ v 42 ∷ (Bin op.Add (v 40) (l 128)) ∷ A ∷ A ∷ A ∷ A ∷ A ∷ A ∷ l 0x101000000000000 ∷ l 0x80008100 ∷ []) csrs_2 cells_3 ([]) 12 true ∷
    b 1076 0x80000518 (l 0 ∷ l 0x8000050c ∷ l 0x800004dc ∷ A ∷ A ∷ v 40 ∷ A ∷ A ∷ A ∷ A ∷ (Bin op.Add (Bin op.Add (Bin op.Add (Bin op.And (Bin op.Srl (v 42) (l 60)) (l 15)) (Bin op.And (Bin op.Add (Bin op.Sltu (Bin op.And (Bin op.Srl (v 42) (l 60)) (l 15)) (l 10)) (l 0xffffffffffffffff)) (l 39))) (l 48)) (l 0x101000000000000)) ∷ A ∷ A ∷ A ∷ A ∷ A ∷ A ∷ A ∷ v 42 ∷ l 60 ∷ v 40 ∷ v 32 ∷ v 42 ∷ (Bin op.Add (v 40) (l 128)) ∷ A ∷ A ∷ A ∷ A ∷ A ∷ A ∷ l 0x101000000000000 ∷ l 0x80008100 ∷ []) csrs_2 cells_3 ([]) 1 true ∷
    b 1076 0x80000520 (l 0 ∷ l 0x8000050c ∷ l 0x800004dc ∷ A ∷ A ∷ v 40 ∷ A ∷ A ∷ A ∷ A ∷ (Bin op.Add (Bin op.Add (Bin op.Add (Bin op.And (Bin op.Srl (v 42) (l 60)) (l 15)) (Bin op.And (Bin op.Add (Bin op.Sltu (Bin op.And (Bin op.Srl (v 42) (l 60)) (l 15)) (l 10)) (l 0xffffffffffffffff)) (l 39))) (l 48)) (l 0x101000000000000)) ∷ A ∷ A ∷ A ∷ A ∷ A ∷ A ∷ A ∷ v 42 ∷ l 60 ∷ v 40 ∷ v 32 ∷ v 42 ∷ (Bin op.Add (v 40) (l 128)) ∷ A ∷ A ∷ A ∷ A ∷ A ∷ A ∷ l 0x101000000000000 ∷ l 0x80008100 ∷ []) csrs_2 cells_3 ([]) 0 true ∷
    b 1077 0x80000524 (l 0 ∷ l 0x8000050c ∷ l 0x800004dc ∷ A ∷ A ∷ v 40 ∷ A ∷ A ∷ A ∷ A ∷ (Bin op.Add (Bin op.Add (Bin op.Add (Bin op.And (Bin op.Srl (v 42) (l 60)) (l 15)) (Bin op.And (Bin op.Add (Bin op.Sltu (Bin op.And (Bin op.Srl (v 42) (l 60)) (l 15)) (l 10)) (l 0xffffffffffffffff)) (l 39))) (l 48)) (l 0x101000000000000)) ∷ A ∷ A ∷ A ∷ A ∷ A ∷ A ∷ A ∷ v 42 ∷ l 60 ∷ v 40 ∷ v 32 ∷ v 42 ∷ (Bin op.Add (v 40) (l 128)) ∷ A ∷ A ∷ A ∷ A ∷ A ∷ A ∷ l 0x101000000000000 ∷ l 0x80008100 ∷ []) csrs_2 cells_3 ([]) 0 true ∷
    b 1078 0x8000050c (l 0 ∷ l 0x8000050c ∷ l 0x800004dc ∷ A ∷ A ∷ v 40 ∷ A ∷ A ∷ A ∷ A ∷ (Bin op.Add (Bin op.Add (Bin op.Add (Bin op.And (Bin op.Srl (v 42) (l 60)) (l 15)) (Bin op.And (Bin op.Add (Bin op.Sltu (Bin op.And (Bin op.Srl (v 42) (l 60)) (l 15)) (l 10)) (l 0xffffffffffffffff)) (l 39))) (l 48)) (l 0x101000000000000)) ∷ A ∷ A ∷ A ∷ A ∷ A ∷ A ∷ A ∷ v 42 ∷ l 60 ∷ v 40 ∷ v 32 ∷ v 42 ∷ (Bin op.Add (v 40) (l 128)) ∷ A ∷ A ∷ A ∷ A ∷ A ∷ A ∷ l 0x101000000000000 ∷ l 0x80008100 ∷ []) csrs_2 cells_3 ([]) 10 true ∷
    b 1078 0x80000518 (l 0 ∷ l 0x8000050c ∷ l 0x800004dc ∷ A ∷ A ∷ v 40 ∷ A ∷ A ∷ A ∷ A ∷ (Bin op.Add (Bin op.Add (Bin op.Add (Bin op.And (Bin op.Srl (v 42) (l 56)) (l 15)) (Bin op.And (Bin op.Add (Bin op.Sltu (Bin op.And (Bin op.Srl (v 42) (l 56)) (l 15)) (l 10)) (l 0xffffffffffffffff)) (l 39))) (l 48)) (l 0x101000000000000)) ∷ A ∷ A ∷ A ∷ A ∷ A ∷ A ∷ A ∷ v 42 ∷ l 56 ∷ v 40 ∷ v 32 ∷ v 42 ∷ (Bin op.Add (v 40) (l 128)) ∷ A ∷ A ∷ A ∷ A ∷ A ∷ A ∷ l 0x101000000000000 ∷ l 0x80008100 ∷ []) csrs_2 cells_3 ([]) 1 true ∷
    b 1078 0x80000520 (l 0 ∷ l 0x8000050c ∷ l 0x800004dc ∷ A ∷ A ∷ v 40 ∷ A ∷ A ∷ A ∷ A ∷ (Bin op.Add (Bin op.Add (Bin op.Add (Bin op.And (Bin op.Srl (v 42) (l 56)) (l 15)) (Bin op.And (Bin op.Add (Bin op.Sltu (Bin op.And (Bin op.Srl (v 42) (l 56)) (l 15)) (l 10)) (l 0xffffffffffffffff)) (l 39))) (l 48)) (l 0x101000000000000)) ∷ A ∷ A ∷ A ∷ A ∷ A ∷ A ∷ A ∷ v 42 ∷ l 56 ∷ v 40 ∷ v 32 ∷ v 42 ∷ (Bin op.Add (v 40) (l 128)) ∷ A ∷ A ∷ A ∷ A ∷ A ∷ A ∷ l 0x101000000000000 ∷ l 0x80008100 ∷ []) csrs_2 cells_3 ([]) 0 true ∷
    b 1079 0x80000524 (l 0 ∷ l 0x8000050c ∷ l 0x800004dc ∷ A ∷ A ∷ v 40 ∷ A ∷ A ∷ A ∷ A ∷ (Bin op.Add (Bin op.Add (Bin op.Add (Bin op.And (Bin op.Srl (v 42) (l 56)) (l 15)) (Bin op.And (Bin op.Add (Bin op.Sltu (Bin op.And (Bin op.Srl (v 42) (l 56)) (l 15)) (l 10)) (l 0xffffffffffffffff)) (l 39))) (l 48)) (l 0x101000000000000)) ∷ A ∷ A ∷ A ∷ A ∷ A ∷ A ∷ A ∷ v 42 ∷ l 56 ∷ v 40 ∷ v 32 ∷ v 42 ∷ (Bin op.Add (v 40) (l 128)) ∷ A ∷ A ∷ A ∷ A ∷ A ∷ A ∷ l 0x101000000000000 ∷ l 0x80008100 ∷ []) csrs_2 cells_3 ([]) 0 true ∷
    b 1080 0x8000050c (l 0 ∷ l 0x8000050c ∷ l 0x800004dc ∷ A ∷ A ∷ v 40 ∷ A ∷ A ∷ A ∷ A ∷ (Bin op.Add (Bin op.Add (Bin op.Add (Bin op.And (Bin op.Srl (v 42) (l 56)) (l 15)) (Bin op.And (Bin op.Add (Bin op.Sltu (Bin op.And (Bin op.Srl (v 42) (l 56)) (l 15)) (l 10)) (l 0xffffffffffffffff)) (l 39))) (l 48)) (l 0x101000000000000)) ∷ A ∷ A ∷ A ∷ A ∷ A ∷ A ∷ A ∷ v 42 ∷ l 56 ∷ v 40 ∷ v 32 ∷ v 42 ∷ (Bin op.Add (v 40) (l 128)) ∷ A ∷ A ∷ A ∷ A ∷ A ∷ A ∷ l 0x101000000000000 ∷ l 0x80008100 ∷ []) csrs_2 cells_3 ([]) 10 true ∷
    b 1080 0x80000518 (l 0 ∷ l 0x8000050c ∷ l 0x800004dc ∷ A ∷ A ∷ v 40 ∷ A ∷ A ∷ A ∷ A ∷ (Bin op.Add (Bin op.Add (Bin op.Add (Bin op.And (Bin op.Srl (v 42) (l 52)) (l 15)) (Bin op.And (Bin op.Add (Bin op.Sltu (Bin op.And (Bin op.Srl (v 42) (l 52)) (l 15)) (l 10)) (l 0xffffffffffffffff)) (l 39))) (l 48)) (l 0x101000000000000)) ∷ A ∷ A ∷ A ∷ A ∷ A ∷ A ∷ A ∷ v 42 ∷ l 52 ∷ v 40 ∷ v 32 ∷ v 42 ∷ (Bin op.Add (v 40) (l 128)) ∷ A ∷ A ∷ A ∷ A ∷ A ∷ A ∷ l 0x101000000000000 ∷ l 0x80008100 ∷ []) csrs_2 cells_3 ([]) 1 true ∷
    b 1080 0x80000520 (l 0 ∷ l 0x8000050c ∷ l 0x800004dc ∷ A ∷ A ∷ v 40 ∷ A ∷ A ∷ A ∷ A ∷ (Bin op.Add (Bin op.Add (Bin op.Add (Bin op.And (Bin op.Srl (v 42) (l 52)) (l 15)) (Bin op.And (Bin op.Add (Bin op.Sltu (Bin op.And (Bin op.Srl (v 42) (l 52)) (l 15)) (l 10)) (l 0xffffffffffffffff)) (l 39))) (l 48)) (l 0x101000000000000)) ∷ A ∷ A ∷ A ∷ A ∷ A ∷ A ∷ A ∷ v 42 ∷ l 52 ∷ v 40 ∷ v 32 ∷ v 42 ∷ (Bin op.Add (v 40) (l 128)) ∷ A ∷ A ∷ A ∷ A ∷ A ∷ A ∷ l 0x101000000000000 ∷ l 0x80008100 ∷ []) csrs_2 cells_3 ([]) 0 true ∷
    b 1081 0x80000524 (l 0 ∷ l 0x8000050c ∷ l 0x800004dc ∷ A ∷ A ∷ v 40 ∷ A ∷ A ∷ A ∷ A ∷ (Bin op.Add (Bin op.Add (Bin op.Add (Bin op.And (Bin op.Srl (v 42) (l 52)) (l 15)) (Bin op.And (Bin op.Add (Bin op.Sltu (Bin op.And (Bin op.Srl (v 42) (l 52)) (l 15)) (l 10)) (l 0xffffffffffffffff)) (l 39))) (l 48)) (l 0x101000000000000)) ∷ A ∷ A ∷ A ∷ A ∷ A ∷ A ∷ A ∷ v 42 ∷ l 52 ∷ v 40 ∷ v 32 ∷ v 42 ∷ (Bin op.Add (v 40) (l 128)) ∷ A ∷ A ∷ A ∷ A ∷ A ∷ A ∷ l 0x101000000000000 ∷ l 0x80008100 ∷ []) csrs_2 cells_3 ([]) 0 true ∷
    b 1082 0x8000050c (l 0 ∷ l 0x8000050c ∷ l 0x800004dc ∷ A ∷ A ∷ v 40 ∷ A ∷ A ∷ A ∷ A ∷ (Bin op.Add (Bin op.Add (Bin op.Add (Bin op.And (Bin op.Srl (v 42) (l 52)) (l 15)) (Bin op.And (Bin op.Add (Bin op.Sltu (Bin op.And (Bin op.Srl (v 42) (l 52)) (l 15)) (l 10)) (l 0xffffffffffffffff)) (l 39))) (l 48)) (l 0x101000000000000)) ∷ A ∷ A ∷ A ∷ A ∷ A ∷ A ∷ A ∷ v 42 ∷ l 52 ∷ v 40 ∷ v 32 ∷ v 42 ∷ (Bin op.Add (v 40) (l 128)) ∷ A ∷ A ∷ A ∷ A ∷ A ∷ A ∷ l 0x101000000000000 ∷ l 0x80008100 ∷ []) csrs_2 cells_3 ([]) 10 true ∷
    b 1082 0x80000518 (l 0 ∷ l 0x8000050c ∷ l 0x800004dc ∷ A ∷ A ∷ v 40 ∷ A ∷ A ∷ A ∷ A ∷ (Bin op.Add (Bin op.Add (Bin op.Add (Bin op.And (Bin op.Srl (v 42) (l 48)) (l 15)) (Bin op.And (Bin op.Add (Bin op.Sltu (Bin op.And (Bin op.Srl (v 42) (l 48)) (l 15)) (l 10)) (l 0xffffffffffffffff)) (l 39))) (l 48)) (l 0x101000000000000)) ∷ A ∷ A ∷ A ∷ A ∷ A ∷ A ∷ A ∷ v 42 ∷ l 48 ∷ v 40 ∷ v 32 ∷ v 42 ∷ (Bin op.Add (v 40) (l 128)) ∷ A ∷ A ∷ A ∷ A ∷ A ∷ A ∷ l 0x101000000000000 ∷ l 0x80008100 ∷ []) csrs_2 cells_3 ([]) 1 true ∷
    b 1082 0x80000520 (l 0 ∷ l 0x8000050c ∷ l 0x800004dc ∷ A ∷ A ∷ v 40 ∷ A ∷ A ∷ A ∷ A ∷ (Bin op.Add (Bin op.Add (Bin op.Add (Bin op.And (Bin op.Srl (v 42) (l 48)) (l 15)) (Bin op.And (Bin op.Add (Bin op.Sltu (Bin op.And (Bin op.Srl (v 42) (l 48)) (l 15)) (l 10)) (l 0xffffffffffffffff)) (l 39))) (l 48)) (l 0x101000000000000)) ∷ A ∷ A ∷ A ∷ A ∷ A ∷ A ∷ A ∷ v 42 ∷ l 48 ∷ v 40 ∷ v 32 ∷ v 42 ∷ (Bin op.Add (v 40) (l 128)) ∷ A ∷ A ∷ A ∷ A ∷ A ∷ A ∷ l 0x101000000000000 ∷ l 0x80008100 ∷ []) csrs_2 cells_3 ([]) 0 true ∷
    b 1083 0x80000524 (l 0 ∷ l 0x8000050c ∷ l 0x800004dc ∷ A ∷ A ∷ v 40 ∷ A ∷ A ∷ A ∷ A ∷ (Bin op.Add (Bin op.Add (Bin op.Add (Bin op.And (Bin op.Srl (v 42) (l 48)) (l 15)) (Bin op.And (Bin op.Add (Bin op.Sltu (Bin op.And (Bin op.Srl (v 42) (l 48)) (l 15)) (l 10)) (l 0xffffffffffffffff)) (l 39))) (l 48)) (l 0x101000000000000)) ∷ A ∷ A ∷ A ∷ A ∷ A ∷ A ∷ A ∷ v 42 ∷ l 48 ∷ v 40 ∷ v 32 ∷ v 42 ∷ (Bin op.Add (v 40) (l 128)) ∷ A ∷ A ∷ A ∷ A ∷ A ∷ A ∷ l 0x101000000000000 ∷ l 0x80008100 ∷ []) csrs_2 cells_3 ([]) 0 true ∷
    b 1084 0x8000050c (l 0 ∷ l 0x8000050c ∷ l 0x800004dc ∷ A ∷ A ∷ v 40 ∷ A ∷ A ∷ A ∷ A ∷ (Bin op.Add (Bin op.Add (Bin op.Add (Bin op.And (Bin op.Srl (v 42) (l 48)) (l 15)) (Bin op.And (Bin op.Add (Bin op.Sltu (Bin op.And (Bin op.Srl (v 42) (l 48)) (l 15)) (l 10)) (l 0xffffffffffffffff)) (l 39))) (l 48)) (l 0x101000000000000)) ∷ A ∷ A ∷ A ∷ A ∷ A ∷ A ∷ A ∷ v 42 ∷ l 48 ∷ v 40 ∷ v 32 ∷ v 42 ∷ (Bin op.Add (v 40) (l 128)) ∷ A ∷ A ∷ A ∷ A ∷ A ∷ A ∷ l 0x101000000000000 ∷ l 0x80008100 ∷ []) csrs_2 cells_3 ([]) 10 true ∷
    b 1084 0x80000518 (l 0 ∷ l 0x8000050c ∷ l 0x800004dc ∷ A ∷ A ∷ v 40 ∷ A ∷ A ∷ A ∷ A ∷ (Bin op.Add (Bin op.Add (Bin op.Add (Bin op.And (Bin op.Srl (v 42) (l 44)) (l 15)) (Bin op.And (Bin op.Add (Bin op.Sltu (Bin op.And (Bin op.Srl (v 42) (l 44)) (l 15)) (l 10)) (l 0xffffffffffffffff)) (l 39))) (l 48)) (l 0x101000000000000)) ∷ A ∷ A ∷ A ∷ A ∷ A ∷ A ∷ A ∷ v 42 ∷ l 44 ∷ v 40 ∷ v 32 ∷ v 42 ∷ (Bin op.Add (v 40) (l 128)) ∷ A ∷ A ∷ A ∷ A ∷ A ∷ A ∷ l 0x101000000000000 ∷ l 0x80008100 ∷ []) csrs_2 cells_3 ([]) 1 true ∷
    b 1084 0x80000520 (l 0 ∷ l 0x8000050c ∷ l 0x800004dc ∷ A ∷ A ∷ v 40 ∷ A ∷ A ∷ A ∷ A ∷ (Bin op.Add (Bin op.Add (Bin op.Add (Bin op.And (Bin op.Srl (v 42) (l 44)) (l 15)) (Bin op.And (Bin op.Add (Bin op.Sltu (Bin op.And (Bin op.Srl (v 42) (l 44)) (l 15)) (l 10)) (l 0xffffffffffffffff)) (l 39))) (l 48)) (l 0x101000000000000)) ∷ A ∷ A ∷ A ∷ A ∷ A ∷ A ∷ A ∷ v 42 ∷ l 44 ∷ v 40 ∷ v 32 ∷ v 42 ∷ (Bin op.Add (v 40) (l 128)) ∷ A ∷ A ∷ A ∷ A ∷ A ∷ A ∷ l 0x101000000000000 ∷ l 0x80008100 ∷ []) csrs_2 cells_3 ([]) 0 true ∷
    b 1085 0x80000524 (l 0 ∷ l 0x8000050c ∷ l 0x800004dc ∷ A ∷ A ∷ v 40 ∷ A ∷ A ∷ A ∷ A ∷ (Bin op.Add (Bin op.Add (Bin op.Add (Bin op.And (Bin op.Srl (v 42) (l 44)) (l 15)) (Bin op.And (Bin op.Add (Bin op.Sltu (Bin op.And (Bin op.Srl (v 42) (l 44)) (l 15)) (l 10)) (l 0xffffffffffffffff)) (l 39))) (l 48)) (l 0x101000000000000)) ∷ A ∷ A ∷ A ∷ A ∷ A ∷ A ∷ A ∷ v 42 ∷ l 44 ∷ v 40 ∷ v 32 ∷ v 42 ∷ (Bin op.Add (v 40) (l 128)) ∷ A ∷ A ∷ A ∷ A ∷ A ∷ A ∷ l 0x101000000000000 ∷ l 0x80008100 ∷ []) csrs_2 cells_3 ([]) 0 true ∷
    b 1086 0x8000050c (l 0 ∷ l 0x8000050c ∷ l 0x800004dc ∷ A ∷ A ∷ v 40 ∷ A ∷ A ∷ A ∷ A ∷ (Bin op.Add (Bin op.Add (Bin op.Add (Bin op.And (Bin op.Srl (v 42) (l 44)) (l 15)) (Bin op.And (Bin op.Add (Bin op.Sltu (Bin op.And (Bin op.Srl (v 42) (l 44)) (l 15)) (l 10)) (l 0xffffffffffffffff)) (l 39))) (l 48)) (l 0x101000000000000)) ∷ A ∷ A ∷ A ∷ A ∷ A ∷ A ∷ A ∷ v 42 ∷ l 44 ∷ v 40 ∷ v 32 ∷ v 42 ∷ (Bin op.Add (v 40) (l 128)) ∷ A ∷ A ∷ A ∷ A ∷ A ∷ A ∷ l 0x101000000000000 ∷ l 0x80008100 ∷ []) csrs_2 cells_3 ([]) 10 true ∷
    b 1086 0x80000518 (l 0 ∷ l 0x8000050c ∷ l 0x800004dc ∷ A ∷ A ∷ v 40 ∷ A ∷ A ∷ A ∷ A ∷ (Bin op.Add (Bin op.Add (Bin op.Add (Bin op.And (Bin op.Srl (v 42) (l 40)) (l 15)) (Bin op.And (Bin op.Add (Bin op.Sltu (Bin op.And (Bin op.Srl (v 42) (l 40)) (l 15)) (l 10)) (l 0xffffffffffffffff)) (l 39))) (l 48)) (l 0x101000000000000)) ∷ A ∷ A ∷ A ∷ A ∷ A ∷ A ∷ A ∷ v 42 ∷ l 40 ∷ v 40 ∷ v 32 ∷ v 42 ∷ (Bin op.Add (v 40) (l 128)) ∷ A ∷ A ∷ A ∷ A ∷ A ∷ A ∷ l 0x101000000000000 ∷ l 0x80008100 ∷ []) csrs_2 cells_3 ([]) 1 true ∷
    b 1086 0x80000520 (l 0 ∷ l 0x8000050c ∷ l 0x800004dc ∷ A ∷ A ∷ v 40 ∷ A ∷ A ∷ A ∷ A ∷ (Bin op.Add (Bin op.Add (Bin op.Add (Bin op.And (Bin op.Srl (v 42) (l 40)) (l 15)) (Bin op.And (Bin op.Add (Bin op.Sltu (Bin op.And (Bin op.Srl (v 42) (l 40)) (l 15)) (l 10)) (l 0xffffffffffffffff)) (l 39))) (l 48)) (l 0x101000000000000)) ∷ A ∷ A ∷ A ∷ A ∷ A ∷ A ∷ A ∷ v 42 ∷ l 40 ∷ v 40 ∷ v 32 ∷ v 42 ∷ (Bin op.Add (v 40) (l 128)) ∷ A ∷ A ∷ A ∷ A ∷ A ∷ A ∷ l 0x101000000000000 ∷ l 0x80008100 ∷ []) csrs_2 cells_3 ([]) 0 true ∷
    b 1087 0x80000524 (l 0 ∷ l 0x8000050c ∷ l 0x800004dc ∷ A ∷ A ∷ v 40 ∷ A ∷ A ∷ A ∷ A ∷ (Bin op.Add (Bin op.Add (Bin op.Add (Bin op.And (Bin op.Srl (v 42) (l 40)) (l 15)) (Bin op.And (Bin op.Add (Bin op.Sltu (Bin op.And (Bin op.Srl (v 42) (l 40)) (l 15)) (l 10)) (l 0xffffffffffffffff)) (l 39))) (l 48)) (l 0x101000000000000)) ∷ A ∷ A ∷ A ∷ A ∷ A ∷ A ∷ A ∷ v 42 ∷ l 40 ∷ v 40 ∷ v 32 ∷ v 42 ∷ (Bin op.Add (v 40) (l 128)) ∷ A ∷ A ∷ A ∷ A ∷ A ∷ A ∷ l 0x101000000000000 ∷ l 0x80008100 ∷ []) csrs_2 cells_3 ([]) 0 true ∷
    b 1088 0x8000050c (l 0 ∷ l 0x8000050c ∷ l 0x800004dc ∷ A ∷ A ∷ v 40 ∷ A ∷ A ∷ A ∷ A ∷ (Bin op.Add (Bin op.Add (Bin op.Add (Bin op.And (Bin op.Srl (v 42) (l 40)) (l 15)) (Bin op.And (Bin op.Add (Bin op.Sltu (Bin op.And (Bin op.Srl (v 42) (l 40)) (l 15)) (l 10)) (l 0xffffffffffffffff)) (l 39))) (l 48)) (l 0x101000000000000)) ∷ A ∷ A ∷ A ∷ A ∷ A ∷ A ∷ A ∷ v 42 ∷ l 40 ∷ v 40 ∷ v 32 ∷ v 42 ∷ (Bin op.Add (v 40) (l 128)) ∷ A ∷ A ∷ A ∷ A ∷ A ∷ A ∷ l 0x101000000000000 ∷ l 0x80008100 ∷ []) csrs_2 cells_3 ([]) 10 true ∷
    b 1088 0x80000518 (l 0 ∷ l 0x8000050c ∷ l 0x800004dc ∷ A ∷ A ∷ v 40 ∷ A ∷ A ∷ A ∷ A ∷ (Bin op.Add (Bin op.Add (Bin op.Add (Bin op.And (Bin op.Srl (v 42) (l 36)) (l 15)) (Bin op.And (Bin op.Add (Bin op.Sltu (Bin op.And (Bin op.Srl (v 42) (l 36)) (l 15)) (l 10)) (l 0xffffffffffffffff)) (l 39))) (l 48)) (l 0x101000000000000)) ∷ A ∷ A ∷ A ∷ A ∷ A ∷ A ∷ A ∷ v 42 ∷ l 36 ∷ v 40 ∷ v 32 ∷ v 42 ∷ (Bin op.Add (v 40) (l 128)) ∷ A ∷ A ∷ A ∷ A ∷ A ∷ A ∷ l 0x101000000000000 ∷ l 0x80008100 ∷ []) csrs_2 cells_3 ([]) 1 true ∷
    b 1088 0x80000520 (l 0 ∷ l 0x8000050c ∷ l 0x800004dc ∷ A ∷ A ∷ v 40 ∷ A ∷ A ∷ A ∷ A ∷ (Bin op.Add (Bin op.Add (Bin op.Add (Bin op.And (Bin op.Srl (v 42) (l 36)) (l 15)) (Bin op.And (Bin op.Add (Bin op.Sltu (Bin op.And (Bin op.Srl (v 42) (l 36)) (l 15)) (l 10)) (l 0xffffffffffffffff)) (l 39))) (l 48)) (l 0x101000000000000)) ∷ A ∷ A ∷ A ∷ A ∷ A ∷ A ∷ A ∷ v 42 ∷ l 36 ∷ v 40 ∷ v 32 ∷ v 42 ∷ (Bin op.Add (v 40) (l 128)) ∷ A ∷ A ∷ A ∷ A ∷ A ∷ A ∷ l 0x101000000000000 ∷ l 0x80008100 ∷ []) csrs_2 cells_3 ([]) 0 true ∷
    b 1089 0x80000524 (l 0 ∷ l 0x8000050c ∷ l 0x800004dc ∷ A ∷ A ∷ v 40 ∷ A ∷ A ∷ A ∷ A ∷ (Bin op.Add (Bin op.Add (Bin op.Add (Bin op.And (Bin op.Srl (v 42) (l 36)) (l 15)) (Bin op.And (Bin op.Add (Bin op.Sltu (Bin op.And (Bin op.Srl (v 42) (l 36)) (l 15)) (l 10)) (l 0xffffffffffffffff)) (l 39))) (l 48)) (l 0x101000000000000)) ∷ A ∷ A ∷ A ∷ A ∷ A ∷ A ∷ A ∷ v 42 ∷ l 36 ∷ v 40 ∷ v 32 ∷ v 42 ∷ (Bin op.Add (v 40) (l 128)) ∷ A ∷ A ∷ A ∷ A ∷ A ∷ A ∷ l 0x101000000000000 ∷ l 0x80008100 ∷ []) csrs_2 cells_3 ([]) 0 true ∷
    b 1090 0x8000050c (l 0 ∷ l 0x8000050c ∷ l 0x800004dc ∷ A ∷ A ∷ v 40 ∷ A ∷ A ∷ A ∷ A ∷ (Bin op.Add (Bin op.Add (Bin op.Add (Bin op.And (Bin op.Srl (v 42) (l 36)) (l 15)) (Bin op.And (Bin op.Add (Bin op.Sltu (Bin op.And (Bin op.Srl (v 42) (l 36)) (l 15)) (l 10)) (l 0xffffffffffffffff)) (l 39))) (l 48)) (l 0x101000000000000)) ∷ A ∷ A ∷ A ∷ A ∷ A ∷ A ∷ A ∷ v 42 ∷ l 36 ∷ v 40 ∷ v 32 ∷ v 42 ∷ (Bin op.Add (v 40) (l 128)) ∷ A ∷ A ∷ A ∷ A ∷ A ∷ A ∷ l 0x101000000000000 ∷ l 0x80008100 ∷ []) csrs_2 cells_3 ([]) 10 true ∷
    b 1090 0x80000518 (l 0 ∷ l 0x8000050c ∷ l 0x800004dc ∷ A ∷ A ∷ v 40 ∷ A ∷ A ∷ A ∷ A ∷ (Bin op.Add (Bin op.Add (Bin op.Add (Bin op.And (Bin op.Srl (v 42) (l 32)) (l 15)) (Bin op.And (Bin op.Add (Bin op.Sltu (Bin op.And (Bin op.Srl (v 42) (l 32)) (l 15)) (l 10)) (l 0xffffffffffffffff)) (l 39))) (l 48)) (l 0x101000000000000)) ∷ A ∷ A ∷ A ∷ A ∷ A ∷ A ∷ A ∷ v 42 ∷ l 32 ∷ v 40 ∷ v 32 ∷ v 42 ∷ (Bin op.Add (v 40) (l 128)) ∷ A ∷ A ∷ A ∷ A ∷ A ∷ A ∷ l 0x101000000000000 ∷ l 0x80008100 ∷ []) csrs_2 cells_3 ([]) 1 true ∷
    b 1090 0x80000520 (l 0 ∷ l 0x8000050c ∷ l 0x800004dc ∷ A ∷ A ∷ v 40 ∷ A ∷ A ∷ A ∷ A ∷ (Bin op.Add (Bin op.Add (Bin op.Add (Bin op.And (Bin op.Srl (v 42) (l 32)) (l 15)) (Bin op.And (Bin op.Add (Bin op.Sltu (Bin op.And (Bin op.Srl (v 42) (l 32)) (l 15)) (l 10)) (l 0xffffffffffffffff)) (l 39))) (l 48)) (l 0x101000000000000)) ∷ A ∷ A ∷ A ∷ A ∷ A ∷ A ∷ A ∷ v 42 ∷ l 32 ∷ v 40 ∷ v 32 ∷ v 42 ∷ (Bin op.Add (v 40) (l 128)) ∷ A ∷ A ∷ A ∷ A ∷ A ∷ A ∷ l 0x101000000000000 ∷ l 0x80008100 ∷ []) csrs_2 cells_3 ([]) 0 true ∷
    b 1091 0x80000524 (l 0 ∷ l 0x8000050c ∷ l 0x800004dc ∷ A ∷ A ∷ v 40 ∷ A ∷ A ∷ A ∷ A ∷ (Bin op.Add (Bin op.Add (Bin op.Add (Bin op.And (Bin op.Srl (v 42) (l 32)) (l 15)) (Bin op.And (Bin op.Add (Bin op.Sltu (Bin op.And (Bin op.Srl (v 42) (l 32)) (l 15)) (l 10)) (l 0xffffffffffffffff)) (l 39))) (l 48)) (l 0x101000000000000)) ∷ A ∷ A ∷ A ∷ A ∷ A ∷ A ∷ A ∷ v 42 ∷ l 32 ∷ v 40 ∷ v 32 ∷ v 42 ∷ (Bin op.Add (v 40) (l 128)) ∷ A ∷ A ∷ A ∷ A ∷ A ∷ A ∷ l 0x101000000000000 ∷ l 0x80008100 ∷ []) csrs_2 cells_3 ([]) 0 true ∷
    b 1092 0x8000050c (l 0 ∷ l 0x8000050c ∷ l 0x800004dc ∷ A ∷ A ∷ v 40 ∷ A ∷ A ∷ A ∷ A ∷ (Bin op.Add (Bin op.Add (Bin op.Add (Bin op.And (Bin op.Srl (v 42) (l 32)) (l 15)) (Bin op.And (Bin op.Add (Bin op.Sltu (Bin op.And (Bin op.Srl (v 42) (l 32)) (l 15)) (l 10)) (l 0xffffffffffffffff)) (l 39))) (l 48)) (l 0x101000000000000)) ∷ A ∷ A ∷ A ∷ A ∷ A ∷ A ∷ A ∷ v 42 ∷ l 32 ∷ v 40 ∷ v 32 ∷ v 42 ∷ (Bin op.Add (v 40) (l 128)) ∷ A ∷ A ∷ A ∷ A ∷ A ∷ A ∷ l 0x101000000000000 ∷ l 0x80008100 ∷ []) csrs_2 cells_3 ([]) 10 true ∷
    b 1092 0x80000518 (l 0 ∷ l 0x8000050c ∷ l 0x800004dc ∷ A ∷ A ∷ v 40 ∷ A ∷ A ∷ A ∷ A ∷ (Bin op.Add (Bin op.Add (Bin op.Add (Bin op.And (Bin op.Srl (v 42) (l 28)) (l 15)) (Bin op.And (Bin op.Add (Bin op.Sltu (Bin op.And (Bin op.Srl (v 42) (l 28)) (l 15)) (l 10)) (l 0xffffffffffffffff)) (l 39))) (l 48)) (l 0x101000000000000)) ∷ A ∷ A ∷ A ∷ A ∷ A ∷ A ∷ A ∷ v 42 ∷ l 28 ∷ v 40 ∷ v 32 ∷ v 42 ∷ (Bin op.Add (v 40) (l 128)) ∷ A ∷ A ∷ A ∷ A ∷ A ∷ A ∷ l 0x101000000000000 ∷ l 0x80008100 ∷ []) csrs_2 cells_3 ([]) 1 true ∷
    b 1092 0x80000520 (l 0 ∷ l 0x8000050c ∷ l 0x800004dc ∷ A ∷ A ∷ v 40 ∷ A ∷ A ∷ A ∷ A ∷ (Bin op.Add (Bin op.Add (Bin op.Add (Bin op.And (Bin op.Srl (v 42) (l 28)) (l 15)) (Bin op.And (Bin op.Add (Bin op.Sltu (Bin op.And (Bin op.Srl (v 42) (l 28)) (l 15)) (l 10)) (l 0xffffffffffffffff)) (l 39))) (l 48)) (l 0x101000000000000)) ∷ A ∷ A ∷ A ∷ A ∷ A ∷ A ∷ A ∷ v 42 ∷ l 28 ∷ v 40 ∷ v 32 ∷ v 42 ∷ (Bin op.Add (v 40) (l 128)) ∷ A ∷ A ∷ A ∷ A ∷ A ∷ A ∷ l 0x101000000000000 ∷ l 0x80008100 ∷ []) csrs_2 cells_3 ([]) 0 true ∷
    b 1093 0x80000524 (l 0 ∷ l 0x8000050c ∷ l 0x800004dc ∷ A ∷ A ∷ v 40 ∷ A ∷ A ∷ A ∷ A ∷ (Bin op.Add (Bin op.Add (Bin op.Add (Bin op.And (Bin op.Srl (v 42) (l 28)) (l 15)) (Bin op.And (Bin op.Add (Bin op.Sltu (Bin op.And (Bin op.Srl (v 42) (l 28)) (l 15)) (l 10)) (l 0xffffffffffffffff)) (l 39))) (l 48)) (l 0x101000000000000)) ∷ A ∷ A ∷ A ∷ A ∷ A ∷ A ∷ A ∷ v 42 ∷ l 28 ∷ v 40 ∷ v 32 ∷ v 42 ∷ (Bin op.Add (v 40) (l 128)) ∷ A ∷ A ∷ A ∷ A ∷ A ∷ A ∷ l 0x101000000000000 ∷ l 0x80008100 ∷ []) csrs_2 cells_3 ([]) 0 true ∷
    b 1094 0x8000050c (l 0 ∷ l 0x8000050c ∷ l 0x800004dc ∷ A ∷ A ∷ v 40 ∷ A ∷ A ∷ A ∷ A ∷ (Bin op.Add (Bin op.Add (Bin op.Add (Bin op.And (Bin op.Srl (v 42) (l 28)) (l 15)) (Bin op.And (Bin op.Add (Bin op.Sltu (Bin op.And (Bin op.Srl (v 42) (l 28)) (l 15)) (l 10)) (l 0xffffffffffffffff)) (l 39))) (l 48)) (l 0x101000000000000)) ∷ A ∷ A ∷ A ∷ A ∷ A ∷ A ∷ A ∷ v 42 ∷ l 28 ∷ v 40 ∷ v 32 ∷ v 42 ∷ (Bin op.Add (v 40) (l 128)) ∷ A ∷ A ∷ A ∷ A ∷ A ∷ A ∷ l 0x101000000000000 ∷ l 0x80008100 ∷ []) csrs_2 cells_3 ([]) 10 true ∷
    b 1094 0x80000518 (l 0 ∷ l 0x8000050c ∷ l 0x800004dc ∷ A ∷ A ∷ v 40 ∷ A ∷ A ∷ A ∷ A ∷ (Bin op.Add (Bin op.Add (Bin op.Add (Bin op.And (Bin op.Srl (v 42) (l 24)) (l 15)) (Bin op.And (Bin op.Add (Bin op.Sltu (Bin op.And (Bin op.Srl (v 42) (l 24)) (l 15)) (l 10)) (l 0xffffffffffffffff)) (l 39))) (l 48)) (l 0x101000000000000)) ∷ A ∷ A ∷ A ∷ A ∷ A ∷ A ∷ A ∷ v 42 ∷ l 24 ∷ v 40 ∷ v 32 ∷ v 42 ∷ (Bin op.Add (v 40) (l 128)) ∷ A ∷ A ∷ A ∷ A ∷ A ∷ A ∷ l 0x101000000000000 ∷ l 0x80008100 ∷ []) csrs_2 cells_3 ([]) 1 true ∷
    b 1094 0x80000520 (l 0 ∷ l 0x8000050c ∷ l 0x800004dc ∷ A ∷ A ∷ v 40 ∷ A ∷ A ∷ A ∷ A ∷ (Bin op.Add (Bin op.Add (Bin op.Add (Bin op.And (Bin op.Srl (v 42) (l 24)) (l 15)) (Bin op.And (Bin op.Add (Bin op.Sltu (Bin op.And (Bin op.Srl (v 42) (l 24)) (l 15)) (l 10)) (l 0xffffffffffffffff)) (l 39))) (l 48)) (l 0x101000000000000)) ∷ A ∷ A ∷ A ∷ A ∷ A ∷ A ∷ A ∷ v 42 ∷ l 24 ∷ v 40 ∷ v 32 ∷ v 42 ∷ (Bin op.Add (v 40) (l 128)) ∷ A ∷ A ∷ A ∷ A ∷ A ∷ A ∷ l 0x101000000000000 ∷ l 0x80008100 ∷ []) csrs_2 cells_3 ([]) 0 true ∷
    b 1095 0x80000524 (l 0 ∷ l 0x8000050c ∷ l 0x800004dc ∷ A ∷ A ∷ v 40 ∷ A ∷ A ∷ A ∷ A ∷ (Bin op.Add (Bin op.Add (Bin op.Add (Bin op.And (Bin op.Srl (v 42) (l 24)) (l 15)) (Bin op.And (Bin op.Add (Bin op.Sltu (Bin op.And (Bin op.Srl (v 42) (l 24)) (l 15)) (l 10)) (l 0xffffffffffffffff)) (l 39))) (l 48)) (l 0x101000000000000)) ∷ A ∷ A ∷ A ∷ A ∷ A ∷ A ∷ A ∷ v 42 ∷ l 24 ∷ v 40 ∷ v 32 ∷ v 42 ∷ (Bin op.Add (v 40) (l 128)) ∷ A ∷ A ∷ A ∷ A ∷ A ∷ A ∷ l 0x101000000000000 ∷ l 0x80008100 ∷ []) csrs_2 cells_3 ([]) 0 true ∷
    b 1096 0x8000050c (l 0 ∷ l 0x8000050c ∷ l 0x800004dc ∷ A ∷ A ∷ v 40 ∷ A ∷ A ∷ A ∷ A ∷ (Bin op.Add (Bin op.Add (Bin op.Add (Bin op.And (Bin op.Srl (v 42) (l 24)) (l 15)) (Bin op.And (Bin op.Add (Bin op.Sltu (Bin op.And (Bin op.Srl (v 42) (l 24)) (l 15)) (l 10)) (l 0xffffffffffffffff)) (l 39))) (l 48)) (l 0x101000000000000)) ∷ A ∷ A ∷ A ∷ A ∷ A ∷ A ∷ A ∷ v 42 ∷ l 24 ∷ v 40 ∷ v 32 ∷ v 42 ∷ (Bin op.Add (v 40) (l 128)) ∷ A ∷ A ∷ A ∷ A ∷ A ∷ A ∷ l 0x101000000000000 ∷ l 0x80008100 ∷ []) csrs_2 cells_3 ([]) 10 true ∷
    b 1096 0x80000518 (l 0 ∷ l 0x8000050c ∷ l 0x800004dc ∷ A ∷ A ∷ v 40 ∷ A ∷ A ∷ A ∷ A ∷ (Bin op.Add (Bin op.Add (Bin op.Add (Bin op.And (Bin op.Srl (v 42) (l 20)) (l 15)) (Bin op.And (Bin op.Add (Bin op.Sltu (Bin op.And (Bin op.Srl (v 42) (l 20)) (l 15)) (l 10)) (l 0xffffffffffffffff)) (l 39))) (l 48)) (l 0x101000000000000)) ∷ A ∷ A ∷ A ∷ A ∷ A ∷ A ∷ A ∷ v 42 ∷ l 20 ∷ v 40 ∷ v 32 ∷ v 42 ∷ (Bin op.Add (v 40) (l 128)) ∷ A ∷ A ∷ A ∷ A ∷ A ∷ A ∷ l 0x101000000000000 ∷ l 0x80008100 ∷ []) csrs_2 cells_3 ([]) 1 true ∷
    b 1096 0x80000520 (l 0 ∷ l 0x8000050c ∷ l 0x800004dc ∷ A ∷ A ∷ v 40 ∷ A ∷ A ∷ A ∷ A ∷ (Bin op.Add (Bin op.Add (Bin op.Add (Bin op.And (Bin op.Srl (v 42) (l 20)) (l 15)) (Bin op.And (Bin op.Add (Bin op.Sltu (Bin op.And (Bin op.Srl (v 42) (l 20)) (l 15)) (l 10)) (l 0xffffffffffffffff)) (l 39))) (l 48)) (l 0x101000000000000)) ∷ A ∷ A ∷ A ∷ A ∷ A ∷ A ∷ A ∷ v 42 ∷ l 20 ∷ v 40 ∷ v 32 ∷ v 42 ∷ (Bin op.Add (v 40) (l 128)) ∷ A ∷ A ∷ A ∷ A ∷ A ∷ A ∷ l 0x101000000000000 ∷ l 0x80008100 ∷ []) csrs_2 cells_3 ([]) 0 true ∷
    b 1097 0x80000524 (l 0 ∷ l 0x8000050c ∷ l 0x800004dc ∷ A ∷ A ∷ v 40 ∷ A ∷ A ∷ A ∷ A ∷ (Bin op.Add (Bin op.Add (Bin op.Add (Bin op.And (Bin op.Srl (v 42) (l 20)) (l 15)) (Bin op.And (Bin op.Add (Bin op.Sltu (Bin op.And (Bin op.Srl (v 42) (l 20)) (l 15)) (l 10)) (l 0xffffffffffffffff)) (l 39))) (l 48)) (l 0x101000000000000)) ∷ A ∷ A ∷ A ∷ A ∷ A ∷ A ∷ A ∷ v 42 ∷ l 20 ∷ v 40 ∷ v 32 ∷ v 42 ∷ (Bin op.Add (v 40) (l 128)) ∷ A ∷ A ∷ A ∷ A ∷ A ∷ A ∷ l 0x101000000000000 ∷ l 0x80008100 ∷ []) csrs_2 cells_3 ([]) 0 true ∷
    b 1098 0x8000050c (l 0 ∷ l 0x8000050c ∷ l 0x800004dc ∷ A ∷ A ∷ v 40 ∷ A ∷ A ∷ A ∷ A ∷ (Bin op.Add (Bin op.Add (Bin op.Add (Bin op.And (Bin op.Srl (v 42) (l 20)) (l 15)) (Bin op.And (Bin op.Add (Bin op.Sltu (Bin op.And (Bin op.Srl (v 42) (l 20)) (l 15)) (l 10)) (l 0xffffffffffffffff)) (l 39))) (l 48)) (l 0x101000000000000)) ∷ A ∷ A ∷ A ∷ A ∷ A ∷ A ∷ A ∷ v 42 ∷ l 20 ∷ v 40 ∷ v 32 ∷ v 42 ∷ (Bin op.Add (v 40) (l 128)) ∷ A ∷ A ∷ A ∷ A ∷ A ∷ A ∷ l 0x101000000000000 ∷ l 0x80008100 ∷ []) csrs_2 cells_3 ([]) 10 true ∷
    b 1098 0x80000518 (l 0 ∷ l 0x8000050c ∷ l 0x800004dc ∷ A ∷ A ∷ v 40 ∷ A ∷ A ∷ A ∷ A ∷ (Bin op.Add (Bin op.Add (Bin op.Add (Bin op.And (Bin op.Srl (v 42) (l 16)) (l 15)) (Bin op.And (Bin op.Add (Bin op.Sltu (Bin op.And (Bin op.Srl (v 42) (l 16)) (l 15)) (l 10)) (l 0xffffffffffffffff)) (l 39))) (l 48)) (l 0x101000000000000)) ∷ A ∷ A ∷ A ∷ A ∷ A ∷ A ∷ A ∷ v 42 ∷ l 16 ∷ v 40 ∷ v 32 ∷ v 42 ∷ (Bin op.Add (v 40) (l 128)) ∷ A ∷ A ∷ A ∷ A ∷ A ∷ A ∷ l 0x101000000000000 ∷ l 0x80008100 ∷ []) csrs_2 cells_3 ([]) 1 true ∷
    b 1098 0x80000520 (l 0 ∷ l 0x8000050c ∷ l 0x800004dc ∷ A ∷ A ∷ v 40 ∷ A ∷ A ∷ A ∷ A ∷ (Bin op.Add (Bin op.Add (Bin op.Add (Bin op.And (Bin op.Srl (v 42) (l 16)) (l 15)) (Bin op.And (Bin op.Add (Bin op.Sltu (Bin op.And (Bin op.Srl (v 42) (l 16)) (l 15)) (l 10)) (l 0xffffffffffffffff)) (l 39))) (l 48)) (l 0x101000000000000)) ∷ A ∷ A ∷ A ∷ A ∷ A ∷ A ∷ A ∷ v 42 ∷ l 16 ∷ v 40 ∷ v 32 ∷ v 42 ∷ (Bin op.Add (v 40) (l 128)) ∷ A ∷ A ∷ A ∷ A ∷ A ∷ A ∷ l 0x101000000000000 ∷ l 0x80008100 ∷ []) csrs_2 cells_3 ([]) 0 true ∷
    b 1099 0x80000524 (l 0 ∷ l 0x8000050c ∷ l 0x800004dc ∷ A ∷ A ∷ v 40 ∷ A ∷ A ∷ A ∷ A ∷ (Bin op.Add (Bin op.Add (Bin op.Add (Bin op.And (Bin op.Srl (v 42) (l 16)) (l 15)) (Bin op.And (Bin op.Add (Bin op.Sltu (Bin op.And (Bin op.Srl (v 42) (l 16)) (l 15)) (l 10)) (l 0xffffffffffffffff)) (l 39))) (l 48)) (l 0x101000000000000)) ∷ A ∷ A ∷ A ∷ A ∷ A ∷ A ∷ A ∷ v 42 ∷ l 16 ∷ v 40 ∷ v 32 ∷ v 42 ∷ (Bin op.Add (v 40) (l 128)) ∷ A ∷ A ∷ A ∷ A ∷ A ∷ A ∷ l 0x101000000000000 ∷ l 0x80008100 ∷ []) csrs_2 cells_3 ([]) 0 true ∷
    b 1100 0x8000050c (l 0 ∷ l 0x8000050c ∷ l 0x800004dc ∷ A ∷ A ∷ v 40 ∷ A ∷ A ∷ A ∷ A ∷ (Bin op.Add (Bin op.Add (Bin op.Add (Bin op.And (Bin op.Srl (v 42) (l 16)) (l 15)) (Bin op.And (Bin op.Add (Bin op.Sltu (Bin op.And (Bin op.Srl (v 42) (l 16)) (l 15)) (l 10)) (l 0xffffffffffffffff)) (l 39))) (l 48)) (l 0x101000000000000)) ∷ A ∷ A ∷ A ∷ A ∷ A ∷ A ∷ A ∷ v 42 ∷ l 16 ∷ v 40 ∷ v 32 ∷ v 42 ∷ (Bin op.Add (v 40) (l 128)) ∷ A ∷ A ∷ A ∷ A ∷ A ∷ A ∷ l 0x101000000000000 ∷ l 0x80008100 ∷ []) csrs_2 cells_3 ([]) 10 true ∷
    b 1100 0x80000518 (l 0 ∷ l 0x8000050c ∷ l 0x800004dc ∷ A ∷ A ∷ v 40 ∷ A ∷ A ∷ A ∷ A ∷ (Bin op.Add (Bin op.Add (Bin op.Add (Bin op.And (Bin op.Srl (v 42) (l 12)) (l 15)) (Bin op.And (Bin op.Add (Bin op.Sltu (Bin op.And (Bin op.Srl (v 42) (l 12)) (l 15)) (l 10)) (l 0xffffffffffffffff)) (l 39))) (l 48)) (l 0x101000000000000)) ∷ A ∷ A ∷ A ∷ A ∷ A ∷ A ∷ A ∷ v 42 ∷ l 12 ∷ v 40 ∷ v 32 ∷ v 42 ∷ (Bin op.Add (v 40) (l 128)) ∷ A ∷ A ∷ A ∷ A ∷ A ∷ A ∷ l 0x101000000000000 ∷ l 0x80008100 ∷ []) csrs_2 cells_3 ([]) 1 true ∷
    b 1100 0x80000520 (l 0 ∷ l 0x8000050c ∷ l 0x800004dc ∷ A ∷ A ∷ v 40 ∷ A ∷ A ∷ A ∷ A ∷ (Bin op.Add (Bin op.Add (Bin op.Add (Bin op.And (Bin op.Srl (v 42) (l 12)) (l 15)) (Bin op.And (Bin op.Add (Bin op.Sltu (Bin op.And (Bin op.Srl (v 42) (l 12)) (l 15)) (l 10)) (l 0xffffffffffffffff)) (l 39))) (l 48)) (l 0x101000000000000)) ∷ A ∷ A ∷ A ∷ A ∷ A ∷ A ∷ A ∷ v 42 ∷ l 12 ∷ v 40 ∷ v 32 ∷ v 42 ∷ (Bin op.Add (v 40) (l 128)) ∷ A ∷ A ∷ A ∷ A ∷ A ∷ A ∷ l 0x101000000000000 ∷ l 0x80008100 ∷ []) csrs_2 cells_3 ([]) 0 true ∷
    b 1101 0x80000524 (l 0 ∷ l 0x8000050c ∷ l 0x800004dc ∷ A ∷ A ∷ v 40 ∷ A ∷ A ∷ A ∷ A ∷ (Bin op.Add (Bin op.Add (Bin op.Add (Bin op.And (Bin op.Srl (v 42) (l 12)) (l 15)) (Bin op.And (Bin op.Add (Bin op.Sltu (Bin op.And (Bin op.Srl (v 42) (l 12)) (l 15)) (l 10)) (l 0xffffffffffffffff)) (l 39))) (l 48)) (l 0x101000000000000)) ∷ A ∷ A ∷ A ∷ A ∷ A ∷ A ∷ A ∷ v 42 ∷ l 12 ∷ v 40 ∷ v 32 ∷ v 42 ∷ (Bin op.Add (v 40) (l 128)) ∷ A ∷ A ∷ A ∷ A ∷ A ∷ A ∷ l 0x101000000000000 ∷ l 0x80008100 ∷ []) csrs_2 cells_3 ([]) 0 true ∷
    b 1102 0x8000050c (l 0 ∷ l 0x8000050c ∷ l 0x800004dc ∷ A ∷ A ∷ v 40 ∷ A ∷ A ∷ A ∷ A ∷ (Bin op.Add (Bin op.Add (Bin op.Add (Bin op.And (Bin op.Srl (v 42) (l 12)) (l 15)) (Bin op.And (Bin op.Add (Bin op.Sltu (Bin op.And (Bin op.Srl (v 42) (l 12)) (l 15)) (l 10)) (l 0xffffffffffffffff)) (l 39))) (l 48)) (l 0x101000000000000)) ∷ A ∷ A ∷ A ∷ A ∷ A ∷ A ∷ A ∷ v 42 ∷ l 12 ∷ v 40 ∷ v 32 ∷ v 42 ∷ (Bin op.Add (v 40) (l 128)) ∷ A ∷ A ∷ A ∷ A ∷ A ∷ A ∷ l 0x101000000000000 ∷ l 0x80008100 ∷ []) csrs_2 cells_3 ([]) 10 true ∷
    b 1102 0x80000518 (l 0 ∷ l 0x8000050c ∷ l 0x800004dc ∷ A ∷ A ∷ v 40 ∷ A ∷ A ∷ A ∷ A ∷ (Bin op.Add (Bin op.Add (Bin op.Add (Bin op.And (Bin op.Srl (v 42) (l 8)) (l 15)) (Bin op.And (Bin op.Add (Bin op.Sltu (Bin op.And (Bin op.Srl (v 42) (l 8)) (l 15)) (l 10)) (l 0xffffffffffffffff)) (l 39))) (l 48)) (l 0x101000000000000)) ∷ A ∷ A ∷ A ∷ A ∷ A ∷ A ∷ A ∷ v 42 ∷ l 8 ∷ v 40 ∷ v 32 ∷ v 42 ∷ (Bin op.Add (v 40) (l 128)) ∷ A ∷ A ∷ A ∷ A ∷ A ∷ A ∷ l 0x101000000000000 ∷ l 0x80008100 ∷ []) csrs_2 cells_3 ([]) 1 true ∷
    b 1102 0x80000520 (l 0 ∷ l 0x8000050c ∷ l 0x800004dc ∷ A ∷ A ∷ v 40 ∷ A ∷ A ∷ A ∷ A ∷ (Bin op.Add (Bin op.Add (Bin op.Add (Bin op.And (Bin op.Srl (v 42) (l 8)) (l 15)) (Bin op.And (Bin op.Add (Bin op.Sltu (Bin op.And (Bin op.Srl (v 42) (l 8)) (l 15)) (l 10)) (l 0xffffffffffffffff)) (l 39))) (l 48)) (l 0x101000000000000)) ∷ A ∷ A ∷ A ∷ A ∷ A ∷ A ∷ A ∷ v 42 ∷ l 8 ∷ v 40 ∷ v 32 ∷ v 42 ∷ (Bin op.Add (v 40) (l 128)) ∷ A ∷ A ∷ A ∷ A ∷ A ∷ A ∷ l 0x101000000000000 ∷ l 0x80008100 ∷ []) csrs_2 cells_3 ([]) 0 true ∷
    b 1103 0x80000524 (l 0 ∷ l 0x8000050c ∷ l 0x800004dc ∷ A ∷ A ∷ v 40 ∷ A ∷ A ∷ A ∷ A ∷ (Bin op.Add (Bin op.Add (Bin op.Add (Bin op.And (Bin op.Srl (v 42) (l 8)) (l 15)) (Bin op.And (Bin op.Add (Bin op.Sltu (Bin op.And (Bin op.Srl (v 42) (l 8)) (l 15)) (l 10)) (l 0xffffffffffffffff)) (l 39))) (l 48)) (l 0x101000000000000)) ∷ A ∷ A ∷ A ∷ A ∷ A ∷ A ∷ A ∷ v 42 ∷ l 8 ∷ v 40 ∷ v 32 ∷ v 42 ∷ (Bin op.Add (v 40) (l 128)) ∷ A ∷ A ∷ A ∷ A ∷ A ∷ A ∷ l 0x101000000000000 ∷ l 0x80008100 ∷ []) csrs_2 cells_3 ([]) 0 true ∷
    b 1104 0x8000050c (l 0 ∷ l 0x8000050c ∷ l 0x800004dc ∷ A ∷ A ∷ v 40 ∷ A ∷ A ∷ A ∷ A ∷ (Bin op.Add (Bin op.Add (Bin op.Add (Bin op.And (Bin op.Srl (v 42) (l 8)) (l 15)) (Bin op.And (Bin op.Add (Bin op.Sltu (Bin op.And (Bin op.Srl (v 42) (l 8)) (l 15)) (l 10)) (l 0xffffffffffffffff)) (l 39))) (l 48)) (l 0x101000000000000)) ∷ A ∷ A ∷ A ∷ A ∷ A ∷ A ∷ A ∷ v 42 ∷ l 8 ∷ v 40 ∷ v 32 ∷ v 42 ∷ (Bin op.Add (v 40) (l 128)) ∷ A ∷ A ∷ A ∷ A ∷ A ∷ A ∷ l 0x101000000000000 ∷ l 0x80008100 ∷ []) csrs_2 cells_3 ([]) 10 true ∷
    b 1104 0x80000518 (l 0 ∷ l 0x8000050c ∷ l 0x800004dc ∷ A ∷ A ∷ v 40 ∷ A ∷ A ∷ A ∷ A ∷ (Bin op.Add (Bin op.Add (Bin op.Add (Bin op.And (Bin op.Srl (v 42) (l 4)) (l 15)) (Bin op.And (Bin op.Add (Bin op.Sltu (Bin op.And (Bin op.Srl (v 42) (l 4)) (l 15)) (l 10)) (l 0xffffffffffffffff)) (l 39))) (l 48)) (l 0x101000000000000)) ∷ A ∷ A ∷ A ∷ A ∷ A ∷ A ∷ A ∷ v 42 ∷ l 4 ∷ v 40 ∷ v 32 ∷ v 42 ∷ (Bin op.Add (v 40) (l 128)) ∷ A ∷ A ∷ A ∷ A ∷ A ∷ A ∷ l 0x101000000000000 ∷ l 0x80008100 ∷ []) csrs_2 cells_3 ([]) 1 true ∷
    b 1104 0x80000520 (l 0 ∷ l 0x8000050c ∷ l 0x800004dc ∷ A ∷ A ∷ v 40 ∷ A ∷ A ∷ A ∷ A ∷ (Bin op.Add (Bin op.Add (Bin op.Add (Bin op.And (Bin op.Srl (v 42) (l 4)) (l 15)) (Bin op.And (Bin op.Add (Bin op.Sltu (Bin op.And (Bin op.Srl (v 42) (l 4)) (l 15)) (l 10)) (l 0xffffffffffffffff)) (l 39))) (l 48)) (l 0x101000000000000)) ∷ A ∷ A ∷ A ∷ A ∷ A ∷ A ∷ A ∷ v 42 ∷ l 4 ∷ v 40 ∷ v 32 ∷ v 42 ∷ (Bin op.Add (v 40) (l 128)) ∷ A ∷ A ∷ A ∷ A ∷ A ∷ A ∷ l 0x101000000000000 ∷ l 0x80008100 ∷ []) csrs_2 cells_3 ([]) 0 true ∷
    b 1105 0x80000524 (l 0 ∷ l 0x8000050c ∷ l 0x800004dc ∷ A ∷ A ∷ v 40 ∷ A ∷ A ∷ A ∷ A ∷ (Bin op.Add (Bin op.Add (Bin op.Add (Bin op.And (Bin op.Srl (v 42) (l 4)) (l 15)) (Bin op.And (Bin op.Add (Bin op.Sltu (Bin op.And (Bin op.Srl (v 42) (l 4)) (l 15)) (l 10)) (l 0xffffffffffffffff)) (l 39))) (l 48)) (l 0x101000000000000)) ∷ A ∷ A ∷ A ∷ A ∷ A ∷ A ∷ A ∷ v 42 ∷ l 4 ∷ v 40 ∷ v 32 ∷ v 42 ∷ (Bin op.Add (v 40) (l 128)) ∷ A ∷ A ∷ A ∷ A ∷ A ∷ A ∷ l 0x101000000000000 ∷ l 0x80008100 ∷ []) csrs_2 cells_3 ([]) 0 true ∷
    b 1106 0x8000050c (l 0 ∷ l 0x8000050c ∷ l 0x800004dc ∷ A ∷ A ∷ v 40 ∷ A ∷ A ∷ A ∷ A ∷ (Bin op.Add (Bin op.Add (Bin op.Add (Bin op.And (Bin op.Srl (v 42) (l 4)) (l 15)) (Bin op.And (Bin op.Add (Bin op.Sltu (Bin op.And (Bin op.Srl (v 42) (l 4)) (l 15)) (l 10)) (l 0xffffffffffffffff)) (l 39))) (l 48)) (l 0x101000000000000)) ∷ A ∷ A ∷ A ∷ A ∷ A ∷ A ∷ A ∷ v 42 ∷ l 4 ∷ v 40 ∷ v 32 ∷ v 42 ∷ (Bin op.Add (v 40) (l 128)) ∷ A ∷ A ∷ A ∷ A ∷ A ∷ A ∷ l 0x101000000000000 ∷ l 0x80008100 ∷ []) csrs_2 cells_3 ([]) 10 true ∷
    b 1106 0x80000518 (l 0 ∷ l 0x8000050c ∷ l 0x800004dc ∷ A ∷ A ∷ v 40 ∷ A ∷ A ∷ A ∷ A ∷ (Bin op.Add (Bin op.Add (Bin op.Add (Bin op.And (Bin op.Srl (v 42) (l 0)) (l 15)) (Bin op.And (Bin op.Add (Bin op.Sltu (Bin op.And (Bin op.Srl (v 42) (l 0)) (l 15)) (l 10)) (l 0xffffffffffffffff)) (l 39))) (l 48)) (l 0x101000000000000)) ∷ A ∷ A ∷ A ∷ A ∷ A ∷ A ∷ A ∷ v 42 ∷ l 0 ∷ v 40 ∷ v 32 ∷ v 42 ∷ (Bin op.Add (v 40) (l 128)) ∷ A ∷ A ∷ A ∷ A ∷ A ∷ A ∷ l 0x101000000000000 ∷ l 0x80008100 ∷ []) csrs_2 cells_3 ([]) 1 true ∷
    b 1106 0x80000520 (l 0 ∷ l 0x8000050c ∷ l 0x800004dc ∷ A ∷ A ∷ v 40 ∷ A ∷ A ∷ A ∷ A ∷ (Bin op.Add (Bin op.Add (Bin op.Add (Bin op.And (Bin op.Srl (v 42) (l 0)) (l 15)) (Bin op.And (Bin op.Add (Bin op.Sltu (Bin op.And (Bin op.Srl (v 42) (l 0)) (l 15)) (l 10)) (l 0xffffffffffffffff)) (l 39))) (l 48)) (l 0x101000000000000)) ∷ A ∷ A ∷ A ∷ A ∷ A ∷ A ∷ A ∷ v 42 ∷ l 0 ∷ v 40 ∷ v 32 ∷ v 42 ∷ (Bin op.Add (v 40) (l 128)) ∷ A ∷ A ∷ A ∷ A ∷ A ∷ A ∷ l 0x101000000000000 ∷ l 0x80008100 ∷ []) csrs_2 cells_3 ([]) 0 true ∷
    b 1107 0x80000524 (l 0 ∷ l 0x8000050c ∷ l 0x800004dc ∷ A ∷ A ∷ v 40 ∷ A ∷ A ∷ A ∷ A ∷ (Bin op.Add (Bin op.Add (Bin op.Add (Bin op.And (Bin op.Srl (v 42) (l 0)) (l 15)) (Bin op.And (Bin op.Add (Bin op.Sltu (Bin op.And (Bin op.Srl (v 42) (l 0)) (l 15)) (l 10)) (l 0xffffffffffffffff)) (l 39))) (l 48)) (l 0x101000000000000)) ∷ A ∷ A ∷ A ∷ A ∷ A ∷ A ∷ A ∷ v 42 ∷ l 0 ∷ v 40 ∷ v 32 ∷ v 42 ∷ (Bin op.Add (v 40) (l 128)) ∷ A ∷ A ∷ A ∷ A ∷ A ∷ A ∷ l 0x101000000000000 ∷ l 0x80008100 ∷ []) csrs_2 cells_3 ([]) 0 true ∷
    b 1108 0x8000050c (l 0 ∷ l 0x8000050c ∷ l 0x800004dc ∷ A ∷ A ∷ v 40 ∷ A ∷ A ∷ A ∷ A ∷ (Bin op.Add (Bin op.Add (Bin op.Add (Bin op.And (Bin op.Srl (v 42) (l 0)) (l 15)) (Bin op.And (Bin op.Add (Bin op.Sltu (Bin op.And (Bin op.Srl (v 42) (l 0)) (l 15)) (l 10)) (l 0xffffffffffffffff)) (l 39))) (l 48)) (l 0x101000000000000)) ∷ A ∷ A ∷ A ∷ A ∷ A ∷ A ∷ A ∷ v 42 ∷ l 0 ∷ v 40 ∷ v 32 ∷ v 42 ∷ (Bin op.Add (v 40) (l 128)) ∷ A ∷ A ∷ A ∷ A ∷ A ∷ A ∷ l 0x101000000000000 ∷ l 0x80008100 ∷ []) csrs_2 cells_3 ([]) 4 true ∷
    b 1108 0x80000518 (l 0 ∷ l 0x800004e4 ∷ l 0x800004dc ∷ A ∷ A ∷ v 40 ∷ A ∷ A ∷ A ∷ A ∷ l 0x10100000000000a ∷ A ∷ A ∷ A ∷ A ∷ A ∷ A ∷ A ∷ v 42 ∷ l 0 ∷ v 40 ∷ v 32 ∷ v 42 ∷ (Bin op.Add (v 40) (l 128)) ∷ A ∷ A ∷ A ∷ A ∷ A ∷ A ∷ l 0x101000000000000 ∷ l 0x80008100 ∷ []) csrs_2 cells_3 ([]) 1 true ∷
    b 1108 0x80000520 (l 0 ∷ l 0x800004e4 ∷ l 0x800004dc ∷ A ∷ A ∷ v 40 ∷ A ∷ A ∷ A ∷ A ∷ l 0x10100000000000a ∷ A ∷ A ∷ A ∷ A ∷ A ∷ A ∷ A ∷ v 42 ∷ l 0 ∷ v 40 ∷ v 32 ∷ v 42 ∷ (Bin op.Add (v 40) (l 128)) ∷ A ∷ A ∷ A ∷ A ∷ A ∷ A ∷ l 0x101000000000000 ∷ l 0x80008100 ∷ []) csrs_2 cells_3 ([]) 0 true ∷
    b 1109 0x80000524 (l 0 ∷ l 0x800004e4 ∷ l 0x800004dc ∷ A ∷ A ∷ v 40 ∷ A ∷ A ∷ A ∷ A ∷ l 0x10100000000000a ∷ A ∷ A ∷ A ∷ A ∷ A ∷ A ∷ A ∷ v 42 ∷ l 0 ∷ v 40 ∷ v 32 ∷ v 42 ∷ (Bin op.Add (v 40) (l 128)) ∷ A ∷ A ∷ A ∷ A ∷ A ∷ A ∷ l 0x101000000000000 ∷ l 0x80008100 ∷ []) csrs_2 cells_3 ([]) 0 true ∷
    b trap_last_blocks 0x800004e4 (l 0 ∷ l 0x800004e4 ∷ l 0x800004dc ∷ A ∷ A ∷ v 40 ∷ A ∷ A ∷ A ∷ A ∷ l 0x10100000000000a ∷ A ∷ A ∷ A ∷ A ∷ A ∷ A ∷ A ∷ v 42 ∷ l 0 ∷ v 40 ∷ v 32 ∷ v 42 ∷ (Bin op.Add (v 40) (l 128)) ∷ A ∷ A ∷ A ∷ A ∷ A ∷ A ∷ l 0x101000000000000 ∷ l 0x80008100 ∷ []) csrs_2 cells_3 ([]) 0 true ∷
    b 5108 0x80000524 (l 0 ∷ l 0x800004e4 ∷ l 0x800004dc ∷ A ∷ A ∷ v 40 ∷ A ∷ A ∷ A ∷ A ∷ l 0x10100000000000a ∷ A ∷ A ∷ A ∷ A ∷ A ∷ A ∷ A ∷ v 42 ∷ l 0 ∷ v 40 ∷ v 32 ∷ v 42 ∷ (Bin op.Add (v 40) (l 128)) ∷ A ∷ A ∷ A ∷ A ∷ A ∷ A ∷ l 0x101000000000000 ∷ l 0x80008100 ∷ []) csrs_2 (set cells_3 0 (l 0x10100000000000a)) ([]) 0 false ∷
    b 5106 0x80000524 (l 0 ∷ l 0x8000050c ∷ l 0x800004dc ∷ A ∷ A ∷ v 40 ∷ A ∷ A ∷ A ∷ A ∷ (Bin op.Add (Bin op.Add (Bin op.Add (Bin op.And (Bin op.Srl (v 42) (l 0)) (l 15)) (Bin op.And (Bin op.Add (Bin op.Sltu (Bin op.And (Bin op.Srl (v 42) (l 0)) (l 15)) (l 10)) (l 0xffffffffffffffff)) (l 39))) (l 48)) (l 0x101000000000000)) ∷ A ∷ A ∷ A ∷ A ∷ A ∷ A ∷ A ∷ v 42 ∷ l 0 ∷ v 40 ∷ v 32 ∷ v 42 ∷ (Bin op.Add (v 40) (l 128)) ∷ A ∷ A ∷ A ∷ A ∷ A ∷ A ∷ l 0x101000000000000 ∷ l 0x80008100 ∷ []) csrs_2 (set cells_3 0 (Bin op.Add (Bin op.Add (Bin op.Add (Bin op.And (Bin op.Srl (v 42) (l 0)) (l 15)) (Bin op.And (Bin op.Add (Bin op.Sltu (Bin op.And (Bin op.Srl (v 42) (l 0)) (l 15)) (l 10)) (l 0xffffffffffffffff)) (l 39))) (l 48)) (l 0x101000000000000))) ([]) 0 false ∷
    b 5104 0x80000524 (l 0 ∷ l 0x8000050c ∷ l 0x800004dc ∷ A ∷ A ∷ v 40 ∷ A ∷ A ∷ A ∷ A ∷ (Bin op.Add (Bin op.Add (Bin op.Add (Bin op.And (Bin op.Srl (v 42) (l 4)) (l 15)) (Bin op.And (Bin op.Add (Bin op.Sltu (Bin op.And (Bin op.Srl (v 42) (l 4)) (l 15)) (l 10)) (l 0xffffffffffffffff)) (l 39))) (l 48)) (l 0x101000000000000)) ∷ A ∷ A ∷ A ∷ A ∷ A ∷ A ∷ A ∷ v 42 ∷ l 4 ∷ v 40 ∷ v 32 ∷ v 42 ∷ (Bin op.Add (v 40) (l 128)) ∷ A ∷ A ∷ A ∷ A ∷ A ∷ A ∷ l 0x101000000000000 ∷ l 0x80008100 ∷ []) csrs_2 (set cells_3 0 (Bin op.Add (Bin op.Add (Bin op.Add (Bin op.And (Bin op.Srl (v 42) (l 4)) (l 15)) (Bin op.And (Bin op.Add (Bin op.Sltu (Bin op.And (Bin op.Srl (v 42) (l 4)) (l 15)) (l 10)) (l 0xffffffffffffffff)) (l 39))) (l 48)) (l 0x101000000000000))) ([]) 0 false ∷
    b 5102 0x80000524 (l 0 ∷ l 0x8000050c ∷ l 0x800004dc ∷ A ∷ A ∷ v 40 ∷ A ∷ A ∷ A ∷ A ∷ (Bin op.Add (Bin op.Add (Bin op.Add (Bin op.And (Bin op.Srl (v 42) (l 8)) (l 15)) (Bin op.And (Bin op.Add (Bin op.Sltu (Bin op.And (Bin op.Srl (v 42) (l 8)) (l 15)) (l 10)) (l 0xffffffffffffffff)) (l 39))) (l 48)) (l 0x101000000000000)) ∷ A ∷ A ∷ A ∷ A ∷ A ∷ A ∷ A ∷ v 42 ∷ l 8 ∷ v 40 ∷ v 32 ∷ v 42 ∷ (Bin op.Add (v 40) (l 128)) ∷ A ∷ A ∷ A ∷ A ∷ A ∷ A ∷ l 0x101000000000000 ∷ l 0x80008100 ∷ []) csrs_2 (set cells_3 0 (Bin op.Add (Bin op.Add (Bin op.Add (Bin op.And (Bin op.Srl (v 42) (l 8)) (l 15)) (Bin op.And (Bin op.Add (Bin op.Sltu (Bin op.And (Bin op.Srl (v 42) (l 8)) (l 15)) (l 10)) (l 0xffffffffffffffff)) (l 39))) (l 48)) (l 0x101000000000000))) ([]) 0 false ∷
    b 5100 0x80000524 (l 0 ∷ l 0x8000050c ∷ l 0x800004dc ∷ A ∷ A ∷ v 40 ∷ A ∷ A ∷ A ∷ A ∷ (Bin op.Add (Bin op.Add (Bin op.Add (Bin op.And (Bin op.Srl (v 42) (l 12)) (l 15)) (Bin op.And (Bin op.Add (Bin op.Sltu (Bin op.And (Bin op.Srl (v 42) (l 12)) (l 15)) (l 10)) (l 0xffffffffffffffff)) (l 39))) (l 48)) (l 0x101000000000000)) ∷ A ∷ A ∷ A ∷ A ∷ A ∷ A ∷ A ∷ v 42 ∷ l 12 ∷ v 40 ∷ v 32 ∷ v 42 ∷ (Bin op.Add (v 40) (l 128)) ∷ A ∷ A ∷ A ∷ A ∷ A ∷ A ∷ l 0x101000000000000 ∷ l 0x80008100 ∷ []) csrs_2 (set cells_3 0 (Bin op.Add (Bin op.Add (Bin op.Add (Bin op.And (Bin op.Srl (v 42) (l 12)) (l 15)) (Bin op.And (Bin op.Add (Bin op.Sltu (Bin op.And (Bin op.Srl (v 42) (l 12)) (l 15)) (l 10)) (l 0xffffffffffffffff)) (l 39))) (l 48)) (l 0x101000000000000))) ([]) 0 false ∷
    b 5098 0x80000524 (l 0 ∷ l 0x8000050c ∷ l 0x800004dc ∷ A ∷ A ∷ v 40 ∷ A ∷ A ∷ A ∷ A ∷ (Bin op.Add (Bin op.Add (Bin op.Add (Bin op.And (Bin op.Srl (v 42) (l 16)) (l 15)) (Bin op.And (Bin op.Add (Bin op.Sltu (Bin op.And (Bin op.Srl (v 42) (l 16)) (l 15)) (l 10)) (l 0xffffffffffffffff)) (l 39))) (l 48)) (l 0x101000000000000)) ∷ A ∷ A ∷ A ∷ A ∷ A ∷ A ∷ A ∷ v 42 ∷ l 16 ∷ v 40 ∷ v 32 ∷ v 42 ∷ (Bin op.Add (v 40) (l 128)) ∷ A ∷ A ∷ A ∷ A ∷ A ∷ A ∷ l 0x101000000000000 ∷ l 0x80008100 ∷ []) csrs_2 (set cells_3 0 (Bin op.Add (Bin op.Add (Bin op.Add (Bin op.And (Bin op.Srl (v 42) (l 16)) (l 15)) (Bin op.And (Bin op.Add (Bin op.Sltu (Bin op.And (Bin op.Srl (v 42) (l 16)) (l 15)) (l 10)) (l 0xffffffffffffffff)) (l 39))) (l 48)) (l 0x101000000000000))) ([]) 0 false ∷
    b 5096 0x80000524 (l 0 ∷ l 0x8000050c ∷ l 0x800004dc ∷ A ∷ A ∷ v 40 ∷ A ∷ A ∷ A ∷ A ∷ (Bin op.Add (Bin op.Add (Bin op.Add (Bin op.And (Bin op.Srl (v 42) (l 20)) (l 15)) (Bin op.And (Bin op.Add (Bin op.Sltu (Bin op.And (Bin op.Srl (v 42) (l 20)) (l 15)) (l 10)) (l 0xffffffffffffffff)) (l 39))) (l 48)) (l 0x101000000000000)) ∷ A ∷ A ∷ A ∷ A ∷ A ∷ A ∷ A ∷ v 42 ∷ l 20 ∷ v 40 ∷ v 32 ∷ v 42 ∷ (Bin op.Add (v 40) (l 128)) ∷ A ∷ A ∷ A ∷ A ∷ A ∷ A ∷ l 0x101000000000000 ∷ l 0x80008100 ∷ []) csrs_2 (set cells_3 0 (Bin op.Add (Bin op.Add (Bin op.Add (Bin op.And (Bin op.Srl (v 42) (l 20)) (l 15)) (Bin op.And (Bin op.Add (Bin op.Sltu (Bin op.And (Bin op.Srl (v 42) (l 20)) (l 15)) (l 10)) (l 0xffffffffffffffff)) (l 39))) (l 48)) (l 0x101000000000000))) ([]) 0 false ∷
    b 5094 0x80000524 (l 0 ∷ l 0x8000050c ∷ l 0x800004dc ∷ A ∷ A ∷ v 40 ∷ A ∷ A ∷ A ∷ A ∷ (Bin op.Add (Bin op.Add (Bin op.Add (Bin op.And (Bin op.Srl (v 42) (l 24)) (l 15)) (Bin op.And (Bin op.Add (Bin op.Sltu (Bin op.And (Bin op.Srl (v 42) (l 24)) (l 15)) (l 10)) (l 0xffffffffffffffff)) (l 39))) (l 48)) (l 0x101000000000000)) ∷ A ∷ A ∷ A ∷ A ∷ A ∷ A ∷ A ∷ v 42 ∷ l 24 ∷ v 40 ∷ v 32 ∷ v 42 ∷ (Bin op.Add (v 40) (l 128)) ∷ A ∷ A ∷ A ∷ A ∷ A ∷ A ∷ l 0x101000000000000 ∷ l 0x80008100 ∷ []) csrs_2 (set cells_3 0 (Bin op.Add (Bin op.Add (Bin op.Add (Bin op.And (Bin op.Srl (v 42) (l 24)) (l 15)) (Bin op.And (Bin op.Add (Bin op.Sltu (Bin op.And (Bin op.Srl (v 42) (l 24)) (l 15)) (l 10)) (l 0xffffffffffffffff)) (l 39))) (l 48)) (l 0x101000000000000))) ([]) 0 false ∷
    b 5092 0x80000524 (l 0 ∷ l 0x8000050c ∷ l 0x800004dc ∷ A ∷ A ∷ v 40 ∷ A ∷ A ∷ A ∷ A ∷ (Bin op.Add (Bin op.Add (Bin op.Add (Bin op.And (Bin op.Srl (v 42) (l 28)) (l 15)) (Bin op.And (Bin op.Add (Bin op.Sltu (Bin op.And (Bin op.Srl (v 42) (l 28)) (l 15)) (l 10)) (l 0xffffffffffffffff)) (l 39))) (l 48)) (l 0x101000000000000)) ∷ A ∷ A ∷ A ∷ A ∷ A ∷ A ∷ A ∷ v 42 ∷ l 28 ∷ v 40 ∷ v 32 ∷ v 42 ∷ (Bin op.Add (v 40) (l 128)) ∷ A ∷ A ∷ A ∷ A ∷ A ∷ A ∷ l 0x101000000000000 ∷ l 0x80008100 ∷ []) csrs_2 (set cells_3 0 (Bin op.Add (Bin op.Add (Bin op.Add (Bin op.And (Bin op.Srl (v 42) (l 28)) (l 15)) (Bin op.And (Bin op.Add (Bin op.Sltu (Bin op.And (Bin op.Srl (v 42) (l 28)) (l 15)) (l 10)) (l 0xffffffffffffffff)) (l 39))) (l 48)) (l 0x101000000000000))) ([]) 0 false ∷
    b 5090 0x80000524 (l 0 ∷ l 0x8000050c ∷ l 0x800004dc ∷ A ∷ A ∷ v 40 ∷ A ∷ A ∷ A ∷ A ∷ (Bin op.Add (Bin op.Add (Bin op.Add (Bin op.And (Bin op.Srl (v 42) (l 32)) (l 15)) (Bin op.And (Bin op.Add (Bin op.Sltu (Bin op.And (Bin op.Srl (v 42) (l 32)) (l 15)) (l 10)) (l 0xffffffffffffffff)) (l 39))) (l 48)) (l 0x101000000000000)) ∷ A ∷ A ∷ A ∷ A ∷ A ∷ A ∷ A ∷ v 42 ∷ l 32 ∷ v 40 ∷ v 32 ∷ v 42 ∷ (Bin op.Add (v 40) (l 128)) ∷ A ∷ A ∷ A ∷ A ∷ A ∷ A ∷ l 0x101000000000000 ∷ l 0x80008100 ∷ []) csrs_2 (set cells_3 0 (Bin op.Add (Bin op.Add (Bin op.Add (Bin op.And (Bin op.Srl (v 42) (l 32)) (l 15)) (Bin op.And (Bin op.Add (Bin op.Sltu (Bin op.And (Bin op.Srl (v 42) (l 32)) (l 15)) (l 10)) (l 0xffffffffffffffff)) (l 39))) (l 48)) (l 0x101000000000000))) ([]) 0 false ∷
    b 5088 0x80000524 (l 0 ∷ l 0x8000050c ∷ l 0x800004dc ∷ A ∷ A ∷ v 40 ∷ A ∷ A ∷ A ∷ A ∷ (Bin op.Add (Bin op.Add (Bin op.Add (Bin op.And (Bin op.Srl (v 42) (l 36)) (l 15)) (Bin op.And (Bin op.Add (Bin op.Sltu (Bin op.And (Bin op.Srl (v 42) (l 36)) (l 15)) (l 10)) (l 0xffffffffffffffff)) (l 39))) (l 48)) (l 0x101000000000000)) ∷ A ∷ A ∷ A ∷ A ∷ A ∷ A ∷ A ∷ v 42 ∷ l 36 ∷ v 40 ∷ v 32 ∷ v 42 ∷ (Bin op.Add (v 40) (l 128)) ∷ A ∷ A ∷ A ∷ A ∷ A ∷ A ∷ l 0x101000000000000 ∷ l 0x80008100 ∷ []) csrs_2 (set cells_3 0 (Bin op.Add (Bin op.Add (Bin op.Add (Bin op.And (Bin op.Srl (v 42) (l 36)) (l 15)) (Bin op.And (Bin op.Add (Bin op.Sltu (Bin op.And (Bin op.Srl (v 42) (l 36)) (l 15)) (l 10)) (l 0xffffffffffffffff)) (l 39))) (l 48)) (l 0x101000000000000))) ([]) 0 false ∷
    b 5086 0x80000524 (l 0 ∷ l 0x8000050c ∷ l 0x800004dc ∷ A ∷ A ∷ v 40 ∷ A ∷ A ∷ A ∷ A ∷ (Bin op.Add (Bin op.Add (Bin op.Add (Bin op.And (Bin op.Srl (v 42) (l 40)) (l 15)) (Bin op.And (Bin op.Add (Bin op.Sltu (Bin op.And (Bin op.Srl (v 42) (l 40)) (l 15)) (l 10)) (l 0xffffffffffffffff)) (l 39))) (l 48)) (l 0x101000000000000)) ∷ A ∷ A ∷ A ∷ A ∷ A ∷ A ∷ A ∷ v 42 ∷ l 40 ∷ v 40 ∷ v 32 ∷ v 42 ∷ (Bin op.Add (v 40) (l 128)) ∷ A ∷ A ∷ A ∷ A ∷ A ∷ A ∷ l 0x101000000000000 ∷ l 0x80008100 ∷ []) csrs_2 (set cells_3 0 (Bin op.Add (Bin op.Add (Bin op.Add (Bin op.And (Bin op.Srl (v 42) (l 40)) (l 15)) (Bin op.And (Bin op.Add (Bin op.Sltu (Bin op.And (Bin op.Srl (v 42) (l 40)) (l 15)) (l 10)) (l 0xffffffffffffffff)) (l 39))) (l 48)) (l 0x101000000000000))) ([]) 0 false ∷
    b 5084 0x80000524 (l 0 ∷ l 0x8000050c ∷ l 0x800004dc ∷ A ∷ A ∷ v 40 ∷ A ∷ A ∷ A ∷ A ∷ (Bin op.Add (Bin op.Add (Bin op.Add (Bin op.And (Bin op.Srl (v 42) (l 44)) (l 15)) (Bin op.And (Bin op.Add (Bin op.Sltu (Bin op.And (Bin op.Srl (v 42) (l 44)) (l 15)) (l 10)) (l 0xffffffffffffffff)) (l 39))) (l 48)) (l 0x101000000000000)) ∷ A ∷ A ∷ A ∷ A ∷ A ∷ A ∷ A ∷ v 42 ∷ l 44 ∷ v 40 ∷ v 32 ∷ v 42 ∷ (Bin op.Add (v 40) (l 128)) ∷ A ∷ A ∷ A ∷ A ∷ A ∷ A ∷ l 0x101000000000000 ∷ l 0x80008100 ∷ []) csrs_2 (set cells_3 0 (Bin op.Add (Bin op.Add (Bin op.Add (Bin op.And (Bin op.Srl (v 42) (l 44)) (l 15)) (Bin op.And (Bin op.Add (Bin op.Sltu (Bin op.And (Bin op.Srl (v 42) (l 44)) (l 15)) (l 10)) (l 0xffffffffffffffff)) (l 39))) (l 48)) (l 0x101000000000000))) ([]) 0 false ∷
    b 5082 0x80000524 (l 0 ∷ l 0x8000050c ∷ l 0x800004dc ∷ A ∷ A ∷ v 40 ∷ A ∷ A ∷ A ∷ A ∷ (Bin op.Add (Bin op.Add (Bin op.Add (Bin op.And (Bin op.Srl (v 42) (l 48)) (l 15)) (Bin op.And (Bin op.Add (Bin op.Sltu (Bin op.And (Bin op.Srl (v 42) (l 48)) (l 15)) (l 10)) (l 0xffffffffffffffff)) (l 39))) (l 48)) (l 0x101000000000000)) ∷ A ∷ A ∷ A ∷ A ∷ A ∷ A ∷ A ∷ v 42 ∷ l 48 ∷ v 40 ∷ v 32 ∷ v 42 ∷ (Bin op.Add (v 40) (l 128)) ∷ A ∷ A ∷ A ∷ A ∷ A ∷ A ∷ l 0x101000000000000 ∷ l 0x80008100 ∷ []) csrs_2 (set cells_3 0 (Bin op.Add (Bin op.Add (Bin op.Add (Bin op.And (Bin op.Srl (v 42) (l 48)) (l 15)) (Bin op.And (Bin op.Add (Bin op.Sltu (Bin op.And (Bin op.Srl (v 42) (l 48)) (l 15)) (l 10)) (l 0xffffffffffffffff)) (l 39))) (l 48)) (l 0x101000000000000))) ([]) 0 false ∷
    b 5080 0x80000524 (l 0 ∷ l 0x8000050c ∷ l 0x800004dc ∷ A ∷ A ∷ v 40 ∷ A ∷ A ∷ A ∷ A ∷ (Bin op.Add (Bin op.Add (Bin op.Add (Bin op.And (Bin op.Srl (v 42) (l 52)) (l 15)) (Bin op.And (Bin op.Add (Bin op.Sltu (Bin op.And (Bin op.Srl (v 42) (l 52)) (l 15)) (l 10)) (l 0xffffffffffffffff)) (l 39))) (l 48)) (l 0x101000000000000)) ∷ A ∷ A ∷ A ∷ A ∷ A ∷ A ∷ A ∷ v 42 ∷ l 52 ∷ v 40 ∷ v 32 ∷ v 42 ∷ (Bin op.Add (v 40) (l 128)) ∷ A ∷ A ∷ A ∷ A ∷ A ∷ A ∷ l 0x101000000000000 ∷ l 0x80008100 ∷ []) csrs_2 (set cells_3 0 (Bin op.Add (Bin op.Add (Bin op.Add (Bin op.And (Bin op.Srl (v 42) (l 52)) (l 15)) (Bin op.And (Bin op.Add (Bin op.Sltu (Bin op.And (Bin op.Srl (v 42) (l 52)) (l 15)) (l 10)) (l 0xffffffffffffffff)) (l 39))) (l 48)) (l 0x101000000000000))) ([]) 0 false ∷
    b 5078 0x80000524 (l 0 ∷ l 0x8000050c ∷ l 0x800004dc ∷ A ∷ A ∷ v 40 ∷ A ∷ A ∷ A ∷ A ∷ (Bin op.Add (Bin op.Add (Bin op.Add (Bin op.And (Bin op.Srl (v 42) (l 56)) (l 15)) (Bin op.And (Bin op.Add (Bin op.Sltu (Bin op.And (Bin op.Srl (v 42) (l 56)) (l 15)) (l 10)) (l 0xffffffffffffffff)) (l 39))) (l 48)) (l 0x101000000000000)) ∷ A ∷ A ∷ A ∷ A ∷ A ∷ A ∷ A ∷ v 42 ∷ l 56 ∷ v 40 ∷ v 32 ∷ v 42 ∷ (Bin op.Add (v 40) (l 128)) ∷ A ∷ A ∷ A ∷ A ∷ A ∷ A ∷ l 0x101000000000000 ∷ l 0x80008100 ∷ []) csrs_2 (set cells_3 0 (Bin op.Add (Bin op.Add (Bin op.Add (Bin op.And (Bin op.Srl (v 42) (l 56)) (l 15)) (Bin op.And (Bin op.Add (Bin op.Sltu (Bin op.And (Bin op.Srl (v 42) (l 56)) (l 15)) (l 10)) (l 0xffffffffffffffff)) (l 39))) (l 48)) (l 0x101000000000000))) ([]) 0 false ∷
    b 5076 0x80000524 (l 0 ∷ l 0x8000050c ∷ l 0x800004dc ∷ A ∷ A ∷ v 40 ∷ A ∷ A ∷ A ∷ A ∷ (Bin op.Add (Bin op.Add (Bin op.Add (Bin op.And (Bin op.Srl (v 42) (l 60)) (l 15)) (Bin op.And (Bin op.Add (Bin op.Sltu (Bin op.And (Bin op.Srl (v 42) (l 60)) (l 15)) (l 10)) (l 0xffffffffffffffff)) (l 39))) (l 48)) (l 0x101000000000000)) ∷ A ∷ A ∷ A ∷ A ∷ A ∷ A ∷ A ∷ v 42 ∷ l 60 ∷ v 40 ∷ v 32 ∷ v 42 ∷ (Bin op.Add (v 40) (l 128)) ∷ A ∷ A ∷ A ∷ A ∷ A ∷ A ∷ l 0x101000000000000 ∷ l 0x80008100 ∷ []) csrs_2 (set cells_3 0 (Bin op.Add (Bin op.Add (Bin op.Add (Bin op.And (Bin op.Srl (v 42) (l 60)) (l 15)) (Bin op.And (Bin op.Add (Bin op.Sltu (Bin op.And (Bin op.Srl (v 42) (l 60)) (l 15)) (l 10)) (l 0xffffffffffffffff)) (l 39))) (l 48)) (l 0x101000000000000))) ([]) 0 false ∷
    b 5074 0x80000524 (l 0 ∷ l 0x800004d0 ∷ l 0x80000498 ∷ A ∷ A ∷ v 40 ∷ A ∷ A ∷ A ∷ A ∷ l 0x101000000000020 ∷ A ∷ A ∷ A ∷ A ∷ A ∷ A ∷ A ∷ v 32 ∷ l 0 ∷ v 40 ∷ v 32 ∷ v 42 ∷ (Bin op.Add (v 40) (l 128)) ∷ A ∷ A ∷ A ∷ A ∷ A ∷ A ∷ l 0x101000000000000 ∷ l 0x80008100 ∷ []) csrs_2 (set cells_3 0 (l 0x101000000000020)) ([]) 0 false ∷
    b 5072 0x80000524 (l 0 ∷ l 0x800004c8 ∷ l 0x80000498 ∷ A ∷ A ∷ v 40 ∷ A ∷ A ∷ A ∷ A ∷ l 0x101000000000065 ∷ A ∷ A ∷ A ∷ A ∷ A ∷ A ∷ A ∷ v 32 ∷ l 0 ∷ v 40 ∷ v 32 ∷ v 42 ∷ (Bin op.Add (v 40) (l 128)) ∷ A ∷ A ∷ A ∷ A ∷ A ∷ A ∷ l 0x101000000000000 ∷ l 0x80008100 ∷ []) csrs_2 (set cells_3 0 (l 0x101000000000065)) ([]) 0 false ∷
    b 5070 0x80000524 (l 0 ∷ l 0x800004c0 ∷ l 0x80000498 ∷ A ∷ A ∷ v 40 ∷ A ∷ A ∷ A ∷ A ∷ l 0x101000000000075 ∷ A ∷ A ∷ A ∷ A ∷ A ∷ A ∷ A ∷ v 32 ∷ l 0 ∷ v 40 ∷ v 32 ∷ v 42 ∷ (Bin op.Add (v 40) (l 128)) ∷ A ∷ A ∷ A ∷ A ∷ A ∷ A ∷ l 0x101000000000000 ∷ l 0x80008100 ∷ []) csrs_2 (set cells_3 0 (l 0x101000000000075)) ([]) 0 false ∷
    b 5068 0x80000524 (l 0 ∷ l 0x800004b8 ∷ l 0x80000498 ∷ A ∷ A ∷ v 40 ∷ A ∷ A ∷ A ∷ A ∷ l 0x10100000000006c ∷ A ∷ A ∷ A ∷ A ∷ A ∷ A ∷ A ∷ v 32 ∷ l 0 ∷ v 40 ∷ v 32 ∷ v 42 ∷ (Bin op.Add (v 40) (l 128)) ∷ A ∷ A ∷ A ∷ A ∷ A ∷ A ∷ l 0x101000000000000 ∷ l 0x80008100 ∷ []) csrs_2 (set cells_3 0 (l 0x10100000000006c)) ([]) 0 false ∷
    b 5066 0x80000524 (l 0 ∷ l 0x800004b0 ∷ l 0x80000498 ∷ A ∷ A ∷ v 40 ∷ A ∷ A ∷ A ∷ A ∷ l 0x101000000000061 ∷ A ∷ A ∷ A ∷ A ∷ A ∷ A ∷ A ∷ v 32 ∷ l 0 ∷ v 40 ∷ v 32 ∷ v 42 ∷ (Bin op.Add (v 40) (l 128)) ∷ A ∷ A ∷ A ∷ A ∷ A ∷ A ∷ l 0x101000000000000 ∷ l 0x80008100 ∷ []) csrs_2 (set cells_3 0 (l 0x101000000000061)) ([]) 0 false ∷
    b 5064 0x80000524 (l 0 ∷ l 0x800004a8 ∷ l 0x80000498 ∷ A ∷ A ∷ v 40 ∷ A ∷ A ∷ A ∷ A ∷ l 0x101000000000076 ∷ A ∷ A ∷ A ∷ A ∷ A ∷ A ∷ A ∷ v 32 ∷ l 0 ∷ v 40 ∷ v 32 ∷ v 42 ∷ (Bin op.Add (v 40) (l 128)) ∷ A ∷ A ∷ A ∷ A ∷ A ∷ A ∷ l 0x101000000000000 ∷ l 0x80008100 ∷ []) csrs_2 (set cells_3 0 (l 0x101000000000076)) ([]) 0 false ∷
    b 5062 0x80000524 (l 0 ∷ l 0x800004a0 ∷ l 0x80000498 ∷ A ∷ A ∷ v 40 ∷ A ∷ A ∷ A ∷ A ∷ l 0x101000000000020 ∷ A ∷ A ∷ A ∷ A ∷ A ∷ A ∷ A ∷ v 32 ∷ l 0 ∷ v 40 ∷ v 32 ∷ v 42 ∷ (Bin op.Add (v 40) (l 128)) ∷ A ∷ A ∷ A ∷ A ∷ A ∷ A ∷ l 0x101000000000000 ∷ l 0x80008100 ∷ []) csrs_2 (set cells_3 0 (l 0x101000000000020)) ([]) 0 false ∷
    b 5060 0x80000524 (l 0 ∷ l 0x8000050c ∷ l 0x80000498 ∷ A ∷ A ∷ v 40 ∷ A ∷ A ∷ A ∷ A ∷ (Bin op.Add (Bin op.Add (Bin op.Add (Bin op.And (Bin op.Srl (v 32) (l 0)) (l 15)) (Bin op.And (Bin op.Add (Bin op.Sltu (Bin op.And (Bin op.Srl (v 32) (l 0)) (l 15)) (l 10)) (l 0xffffffffffffffff)) (l 39))) (l 48)) (l 0x101000000000000)) ∷ A ∷ A ∷ A ∷ A ∷ A ∷ A ∷ A ∷ v 32 ∷ l 0 ∷ v 40 ∷ v 32 ∷ v 42 ∷ (Bin op.Add (v 40) (l 128)) ∷ A ∷ A ∷ A ∷ A ∷ A ∷ A ∷ l 0x101000000000000 ∷ l 0x80008100 ∷ []) csrs_2 (set cells_3 0 (Bin op.Add (Bin op.Add (Bin op.Add (Bin op.And (Bin op.Srl (v 32) (l 0)) (l 15)) (Bin op.And (Bin op.Add (Bin op.Sltu (Bin op.And (Bin op.Srl (v 32) (l 0)) (l 15)) (l 10)) (l 0xffffffffffffffff)) (l 39))) (l 48)) (l 0x101000000000000))) ([]) 0 false ∷
    b 5058 0x80000524 (l 0 ∷ l 0x8000050c ∷ l 0x80000498 ∷ A ∷ A ∷ v 40 ∷ A ∷ A ∷ A ∷ A ∷ (Bin op.Add (Bin op.Add (Bin op.Add (Bin op.And (Bin op.Srl (v 32) (l 4)) (l 15)) (Bin op.And (Bin op.Add (Bin op.Sltu (Bin op.And (Bin op.Srl (v 32) (l 4)) (l 15)) (l 10)) (l 0xffffffffffffffff)) (l 39))) (l 48)) (l 0x101000000000000)) ∷ A ∷ A ∷ A ∷ A ∷ A ∷ A ∷ A ∷ v 32 ∷ l 4 ∷ v 40 ∷ v 32 ∷ v 42 ∷ (Bin op.Add (v 40) (l 128)) ∷ A ∷ A ∷ A ∷ A ∷ A ∷ A ∷ l 0x101000000000000 ∷ l 0x80008100 ∷ []) csrs_2 (set cells_3 0 (Bin op.Add (Bin op.Add (Bin op.Add (Bin op.And (Bin op.Srl (v 32) (l 4)) (l 15)) (Bin op.And (Bin op.Add (Bin op.Sltu (Bin op.And (Bin op.Srl (v 32) (l 4)) (l 15)) (l 10)) (l 0xffffffffffffffff)) (l 39))) (l 48)) (l 0x101000000000000))) ([]) 0 false ∷
    b 5056 0x80000524 (l 0 ∷ l 0x8000050c ∷ l 0x80000498 ∷ A ∷ A ∷ v 40 ∷ A ∷ A ∷ A ∷ A ∷ (Bin op.Add (Bin op.Add (Bin op.Add (Bin op.And (Bin op.Srl (v 32) (l 8)) (l 15)) (Bin op.And (Bin op.Add (Bin op.Sltu (Bin op.And (Bin op.Srl (v 32) (l 8)) (l 15)) (l 10)) (l 0xffffffffffffffff)) (l 39))) (l 48)) (l 0x101000000000000)) ∷ A ∷ A ∷ A ∷ A ∷ A ∷ A ∷ A ∷ v 32 ∷ l 8 ∷ v 40 ∷ v 32 ∷ v 42 ∷ (Bin op.Add (v 40) (l 128)) ∷ A ∷ A ∷ A ∷ A ∷ A ∷ A ∷ l 0x101000000000000 ∷ l 0x80008100 ∷ []) csrs_2 (set cells_3 0 (Bin op.Add (Bin op.Add (Bin op.Add (Bin op.And (Bin op.Srl (v 32) (l 8)) (l 15)) (Bin op.And (Bin op.Add (Bin op.Sltu (Bin op.And (Bin op.Srl (v 32) (l 8)) (l 15)) (l 10)) (l 0xffffffffffffffff)) (l 39))) (l 48)) (l 0x101000000000000))) ([]) 0 false ∷
    b 5054 0x80000524 (l 0 ∷ l 0x8000050c ∷ l 0x80000498 ∷ A ∷ A ∷ v 40 ∷ A ∷ A ∷ A ∷ A ∷ (Bin op.Add (Bin op.Add (Bin op.Add (Bin op.And (Bin op.Srl (v 32) (l 12)) (l 15)) (Bin op.And (Bin op.Add (Bin op.Sltu (Bin op.And (Bin op.Srl (v 32) (l 12)) (l 15)) (l 10)) (l 0xffffffffffffffff)) (l 39))) (l 48)) (l 0x101000000000000)) ∷ A ∷ A ∷ A ∷ A ∷ A ∷ A ∷ A ∷ v 32 ∷ l 12 ∷ v 40 ∷ v 32 ∷ v 42 ∷ (Bin op.Add (v 40) (l 128)) ∷ A ∷ A ∷ A ∷ A ∷ A ∷ A ∷ l 0x101000000000000 ∷ l 0x80008100 ∷ []) csrs_2 (set cells_3 0 (Bin op.Add (Bin op.Add (Bin op.Add (Bin op.And (Bin op.Srl (v 32) (l 12)) (l 15)) (Bin op.And (Bin op.Add (Bin op.Sltu (Bin op.And (Bin op.Srl (v 32) (l 12)) (l 15)) (l 10)) (l 0xffffffffffffffff)) (l 39))) (l 48)) (l 0x101000000000000))) ([]) 0 false ∷
    b 5052 0x80000524 (l 0 ∷ l 0x8000050c ∷ l 0x80000498 ∷ A ∷ A ∷ v 40 ∷ A ∷ A ∷ A ∷ A ∷ (Bin op.Add (Bin op.Add (Bin op.Add (Bin op.And (Bin op.Srl (v 32) (l 16)) (l 15)) (Bin op.And (Bin op.Add (Bin op.Sltu (Bin op.And (Bin op.Srl (v 32) (l 16)) (l 15)) (l 10)) (l 0xffffffffffffffff)) (l 39))) (l 48)) (l 0x101000000000000)) ∷ A ∷ A ∷ A ∷ A ∷ A ∷ A ∷ A ∷ v 32 ∷ l 16 ∷ v 40 ∷ v 32 ∷ v 42 ∷ (Bin op.Add (v 40) (l 128)) ∷ A ∷ A ∷ A ∷ A ∷ A ∷ A ∷ l 0x101000000000000 ∷ l 0x80008100 ∷ []) csrs_2 (set cells_3 0 (Bin op.Add (Bin op.Add (Bin op.Add (Bin op.And (Bin op.Srl (v 32) (l 16)) (l 15)) (Bin op.And (Bin op.Add (Bin op.Sltu (Bin op.And (Bin op.Srl (v 32) (l 16)) (l 15)) (l 10)) (l 0xffffffffffffffff)) (l 39))) (l 48)) (l 0x101000000000000))) ([]) 0 false ∷
    b 5050 0x80000524 (l 0 ∷ l 0x8000050c ∷ l 0x80000498 ∷ A ∷ A ∷ v 40 ∷ A ∷ A ∷ A ∷ A ∷ (Bin op.Add (Bin op.Add (Bin op.Add (Bin op.And (Bin op.Srl (v 32) (l 20)) (l 15)) (Bin op.And (Bin op.Add (Bin op.Sltu (Bin op.And (Bin op.Srl (v 32) (l 20)) (l 15)) (l 10)) (l 0xffffffffffffffff)) (l 39))) (l 48)) (l 0x101000000000000)) ∷ A ∷ A ∷ A ∷ A ∷ A ∷ A ∷ A ∷ v 32 ∷ l 20 ∷ v 40 ∷ v 32 ∷ v 42 ∷ (Bin op.Add (v 40) (l 128)) ∷ A ∷ A ∷ A ∷ A ∷ A ∷ A ∷ l 0x101000000000000 ∷ l 0x80008100 ∷ []) csrs_2 (set cells_3 0 (Bin op.Add (Bin op.Add (Bin op.Add (Bin op.And (Bin op.Srl (v 32) (l 20)) (l 15)) (Bin op.And (Bin op.Add (Bin op.Sltu (Bin op.And (Bin op.Srl (v 32) (l 20)) (l 15)) (l 10)) (l 0xffffffffffffffff)) (l 39))) (l 48)) (l 0x101000000000000))) ([]) 0 false ∷
    b 5048 0x80000524 (l 0 ∷ l 0x8000050c ∷ l 0x80000498 ∷ A ∷ A ∷ v 40 ∷ A ∷ A ∷ A ∷ A ∷ (Bin op.Add (Bin op.Add (Bin op.Add (Bin op.And (Bin op.Srl (v 32) (l 24)) (l 15)) (Bin op.And (Bin op.Add (Bin op.Sltu (Bin op.And (Bin op.Srl (v 32) (l 24)) (l 15)) (l 10)) (l 0xffffffffffffffff)) (l 39))) (l 48)) (l 0x101000000000000)) ∷ A ∷ A ∷ A ∷ A ∷ A ∷ A ∷ A ∷ v 32 ∷ l 24 ∷ v 40 ∷ v 32 ∷ v 42 ∷ (Bin op.Add (v 40) (l 128)) ∷ A ∷ A ∷ A ∷ A ∷ A ∷ A ∷ l 0x101000000000000 ∷ l 0x80008100 ∷ []) csrs_2 (set cells_3 0 (Bin op.Add (Bin op.Add (Bin op.Add (Bin op.And (Bin op.Srl (v 32) (l 24)) (l 15)) (Bin op.And (Bin op.Add (Bin op.Sltu (Bin op.And (Bin op.Srl (v 32) (l 24)) (l 15)) (l 10)) (l 0xffffffffffffffff)) (l 39))) (l 48)) (l 0x101000000000000))) ([]) 0 false ∷
    b 5046 0x80000524 (l 0 ∷ l 0x8000050c ∷ l 0x80000498 ∷ A ∷ A ∷ v 40 ∷ A ∷ A ∷ A ∷ A ∷ (Bin op.Add (Bin op.Add (Bin op.Add (Bin op.And (Bin op.Srl (v 32) (l 28)) (l 15)) (Bin op.And (Bin op.Add (Bin op.Sltu (Bin op.And (Bin op.Srl (v 32) (l 28)) (l 15)) (l 10)) (l 0xffffffffffffffff)) (l 39))) (l 48)) (l 0x101000000000000)) ∷ A ∷ A ∷ A ∷ A ∷ A ∷ A ∷ A ∷ v 32 ∷ l 28 ∷ v 40 ∷ v 32 ∷ v 42 ∷ (Bin op.Add (v 40) (l 128)) ∷ A ∷ A ∷ A ∷ A ∷ A ∷ A ∷ l 0x101000000000000 ∷ l 0x80008100 ∷ []) csrs_2 (set cells_3 0 (Bin op.Add (Bin op.Add (Bin op.Add (Bin op.And (Bin op.Srl (v 32) (l 28)) (l 15)) (Bin op.And (Bin op.Add (Bin op.Sltu (Bin op.And (Bin op.Srl (v 32) (l 28)) (l 15)) (l 10)) (l 0xffffffffffffffff)) (l 39))) (l 48)) (l 0x101000000000000))) ([]) 0 false ∷
    b 5044 0x80000524 (l 0 ∷ l 0x8000050c ∷ l 0x80000498 ∷ A ∷ A ∷ v 40 ∷ A ∷ A ∷ A ∷ A ∷ (Bin op.Add (Bin op.Add (Bin op.Add (Bin op.And (Bin op.Srl (v 32) (l 32)) (l 15)) (Bin op.And (Bin op.Add (Bin op.Sltu (Bin op.And (Bin op.Srl (v 32) (l 32)) (l 15)) (l 10)) (l 0xffffffffffffffff)) (l 39))) (l 48)) (l 0x101000000000000)) ∷ A ∷ A ∷ A ∷ A ∷ A ∷ A ∷ A ∷ v 32 ∷ l 32 ∷ v 40 ∷ v 32 ∷ v 42 ∷ (Bin op.Add (v 40) (l 128)) ∷ A ∷ A ∷ A ∷ A ∷ A ∷ A ∷ l 0x101000000000000 ∷ l 0x80008100 ∷ []) csrs_2 (set cells_3 0 (Bin op.Add (Bin op.Add (Bin op.Add (Bin op.And (Bin op.Srl (v 32) (l 32)) (l 15)) (Bin op.And (Bin op.Add (Bin op.Sltu (Bin op.And (Bin op.Srl (v 32) (l 32)) (l 15)) (l 10)) (l 0xffffffffffffffff)) (l 39))) (l 48)) (l 0x101000000000000))) ([]) 0 false ∷
    b 5042 0x80000524 (l 0 ∷ l 0x8000050c ∷ l 0x80000498 ∷ A ∷ A ∷ v 40 ∷ A ∷ A ∷ A ∷ A ∷ (Bin op.Add (Bin op.Add (Bin op.Add (Bin op.And (Bin op.Srl (v 32) (l 36)) (l 15)) (Bin op.And (Bin op.Add (Bin op.Sltu (Bin op.And (Bin op.Srl (v 32) (l 36)) (l 15)) (l 10)) (l 0xffffffffffffffff)) (l 39))) (l 48)) (l 0x101000000000000)) ∷ A ∷ A ∷ A ∷ A ∷ A ∷ A ∷ A ∷ v 32 ∷ l 36 ∷ v 40 ∷ v 32 ∷ v 42 ∷ (Bin op.Add (v 40) (l 128)) ∷ A ∷ A ∷ A ∷ A ∷ A ∷ A ∷ l 0x101000000000000 ∷ l 0x80008100 ∷ []) csrs_2 (set cells_3 0 (Bin op.Add (Bin op.Add (Bin op.Add (Bin op.And (Bin op.Srl (v 32) (l 36)) (l 15)) (Bin op.And (Bin op.Add (Bin op.Sltu (Bin op.And (Bin op.Srl (v 32) (l 36)) (l 15)) (l 10)) (l 0xffffffffffffffff)) (l 39))) (l 48)) (l 0x101000000000000))) ([]) 0 false ∷
    b 5040 0x80000524 (l 0 ∷ l 0x8000050c ∷ l 0x80000498 ∷ A ∷ A ∷ v 40 ∷ A ∷ A ∷ A ∷ A ∷ (Bin op.Add (Bin op.Add (Bin op.Add (Bin op.And (Bin op.Srl (v 32) (l 40)) (l 15)) (Bin op.And (Bin op.Add (Bin op.Sltu (Bin op.And (Bin op.Srl (v 32) (l 40)) (l 15)) (l 10)) (l 0xffffffffffffffff)) (l 39))) (l 48)) (l 0x101000000000000)) ∷ A ∷ A ∷ A ∷ A ∷ A ∷ A ∷ A ∷ v 32 ∷ l 40 ∷ v 40 ∷ v 32 ∷ v 42 ∷ (Bin op.Add (v 40) (l 128)) ∷ A ∷ A ∷ A ∷ A ∷ A ∷ A ∷ l 0x101000000000000 ∷ l 0x80008100 ∷ []) csrs_2 (set cells_3 0 (Bin op.Add (Bin op.Add (Bin op.Add (Bin op.And (Bin op.Srl (v 32) (l 40)) (l 15)) (Bin op.And (Bin op.Add (Bin op.Sltu (Bin op.And (Bin op.Srl (v 32) (l 40)) (l 15)) (l 10)) (l 0xffffffffffffffff)) (l 39))) (l 48)) (l 0x101000000000000))) ([]) 0 false ∷
    b 5038 0x80000524 (l 0 ∷ l 0x8000050c ∷ l 0x80000498 ∷ A ∷ A ∷ v 40 ∷ A ∷ A ∷ A ∷ A ∷ (Bin op.Add (Bin op.Add (Bin op.Add (Bin op.And (Bin op.Srl (v 32) (l 44)) (l 15)) (Bin op.And (Bin op.Add (Bin op.Sltu (Bin op.And (Bin op.Srl (v 32) (l 44)) (l 15)) (l 10)) (l 0xffffffffffffffff)) (l 39))) (l 48)) (l 0x101000000000000)) ∷ A ∷ A ∷ A ∷ A ∷ A ∷ A ∷ A ∷ v 32 ∷ l 44 ∷ v 40 ∷ v 32 ∷ v 42 ∷ (Bin op.Add (v 40) (l 128)) ∷ A ∷ A ∷ A ∷ A ∷ A ∷ A ∷ l 0x101000000000000 ∷ l 0x80008100 ∷ []) csrs_2 (set cells_3 0 (Bin op.Add (Bin op.Add (Bin op.Add (Bin op.And (Bin op.Srl (v 32) (l 44)) (l 15)) (Bin op.And (Bin op.Add (Bin op.Sltu (Bin op.And (Bin op.Srl (v 32) (l 44)) (l 15)) (l 10)) (l 0xffffffffffffffff)) (l 39))) (l 48)) (l 0x101000000000000))) ([]) 0 false ∷
    b 5036 0x80000524 (l 0 ∷ l 0x8000050c ∷ l 0x80000498 ∷ A ∷ A ∷ v 40 ∷ A ∷ A ∷ A ∷ A ∷ (Bin op.Add (Bin op.Add (Bin op.Add (Bin op.And (Bin op.Srl (v 32) (l 48)) (l 15)) (Bin op.And (Bin op.Add (Bin op.Sltu (Bin op.And (Bin op.Srl (v 32) (l 48)) (l 15)) (l 10)) (l 0xffffffffffffffff)) (l 39))) (l 48)) (l 0x101000000000000)) ∷ A ∷ A ∷ A ∷ A ∷ A ∷ A ∷ A ∷ v 32 ∷ l 48 ∷ v 40 ∷ v 32 ∷ v 42 ∷ (Bin op.Add (v 40) (l 128)) ∷ A ∷ A ∷ A ∷ A ∷ A ∷ A ∷ l 0x101000000000000 ∷ l 0x80008100 ∷ []) csrs_2 (set cells_3 0 (Bin op.Add (Bin op.Add (Bin op.Add (Bin op.And (Bin op.Srl (v 32) (l 48)) (l 15)) (Bin op.And (Bin op.Add (Bin op.Sltu (Bin op.And (Bin op.Srl (v 32) (l 48)) (l 15)) (l 10)) (l 0xffffffffffffffff)) (l 39))) (l 48)) (l 0x101000000000000))) ([]) 0 false ∷
    b 5034 0x80000524 (l 0 ∷ l 0x8000050c ∷ l 0x80000498 ∷ A ∷ A ∷ v 40 ∷ A ∷ A ∷ A ∷ A ∷ (Bin op.Add (Bin op.Add (Bin op.Add (Bin op.And (Bin op.Srl (v 32) (l 52)) (l 15)) (Bin op.And (Bin op.Add (Bin op.Sltu (Bin op.And (Bin op.Srl (v 32) (l 52)) (l 15)) (l 10)) (l 0xffffffffffffffff)) (l 39))) (l 48)) (l 0x101000000000000)) ∷ A ∷ A ∷ A ∷ A ∷ A ∷ A ∷ A ∷ v 32 ∷ l 52 ∷ v 40 ∷ v 32 ∷ v 42 ∷ (Bin op.Add (v 40) (l 128)) ∷ A ∷ A ∷ A ∷ A ∷ A ∷ A ∷ l 0x101000000000000 ∷ l 0x80008100 ∷ []) csrs_2 (set cells_3 0 (Bin op.Add (Bin op.Add (Bin op.Add (Bin op.And (Bin op.Srl (v 32) (l 52)) (l 15)) (Bin op.And (Bin op.Add (Bin op.Sltu (Bin op.And (Bin op.Srl (v 32) (l 52)) (l 15)) (l 10)) (l 0xffffffffffffffff)) (l 39))) (l 48)) (l 0x101000000000000))) ([]) 0 false ∷
    b 5032 0x80000524 (l 0 ∷ l 0x8000050c ∷ l 0x80000498 ∷ A ∷ A ∷ v 40 ∷ A ∷ A ∷ A ∷ A ∷ (Bin op.Add (Bin op.Add (Bin op.Add (Bin op.And (Bin op.Srl (v 32) (l 56)) (l 15)) (Bin op.And (Bin op.Add (Bin op.Sltu (Bin op.And (Bin op.Srl (v 32) (l 56)) (l 15)) (l 10)) (l 0xffffffffffffffff)) (l 39))) (l 48)) (l 0x101000000000000)) ∷ A ∷ A ∷ A ∷ A ∷ A ∷ A ∷ A ∷ v 32 ∷ l 56 ∷ v 40 ∷ v 32 ∷ v 42 ∷ (Bin op.Add (v 40) (l 128)) ∷ A ∷ A ∷ A ∷ A ∷ A ∷ A ∷ l 0x101000000000000 ∷ l 0x80008100 ∷ []) csrs_2 (set cells_3 0 (Bin op.Add (Bin op.Add (Bin op.Add (Bin op.And (Bin op.Srl (v 32) (l 56)) (l 15)) (Bin op.And (Bin op.Add (Bin op.Sltu (Bin op.And (Bin op.Srl (v 32) (l 56)) (l 15)) (l 10)) (l 0xffffffffffffffff)) (l 39))) (l 48)) (l 0x101000000000000))) ([]) 0 false ∷
    b 5030 0x80000524 (l 0 ∷ l 0x8000050c ∷ l 0x80000498 ∷ A ∷ A ∷ v 40 ∷ A ∷ A ∷ A ∷ A ∷ (Bin op.Add (Bin op.Add (Bin op.Add (Bin op.And (Bin op.Srl (v 32) (l 60)) (l 15)) (Bin op.And (Bin op.Add (Bin op.Sltu (Bin op.And (Bin op.Srl (v 32) (l 60)) (l 15)) (l 10)) (l 0xffffffffffffffff)) (l 39))) (l 48)) (l 0x101000000000000)) ∷ A ∷ A ∷ A ∷ A ∷ A ∷ A ∷ A ∷ v 32 ∷ l 60 ∷ v 40 ∷ v 32 ∷ v 42 ∷ (Bin op.Add (v 40) (l 128)) ∷ A ∷ A ∷ A ∷ A ∷ A ∷ A ∷ l 0x101000000000000 ∷ l 0x80008100 ∷ []) csrs_2 (set cells_3 0 (Bin op.Add (Bin op.Add (Bin op.Add (Bin op.And (Bin op.Srl (v 32) (l 60)) (l 15)) (Bin op.And (Bin op.Add (Bin op.Sltu (Bin op.And (Bin op.Srl (v 32) (l 60)) (l 15)) (l 10)) (l 0xffffffffffffffff)) (l 39))) (l 48)) (l 0x101000000000000))) ([]) 0 false ∷
    b 5028 0x80000524 (l 0 ∷ l 0x8000048c ∷ l 0x8000046c ∷ A ∷ A ∷ v 40 ∷ A ∷ A ∷ A ∷ A ∷ l 0x101000000000020 ∷ A ∷ A ∷ A ∷ A ∷ A ∷ A ∷ A ∷ v 40 ∷ l 0 ∷ v 40 ∷ v 32 ∷ v 42 ∷ (Bin op.Add (v 40) (l 128)) ∷ A ∷ A ∷ A ∷ A ∷ A ∷ A ∷ l 0x101000000000000 ∷ l 0x80008100 ∷ []) csrs_2 (set cells_3 0 (l 0x101000000000020)) ([]) 0 false ∷
    b 5026 0x80000524 (l 0 ∷ l 0x80000484 ∷ l 0x8000046c ∷ A ∷ A ∷ v 40 ∷ A ∷ A ∷ A ∷ A ∷ l 0x101000000000074 ∷ A ∷ A ∷ A ∷ A ∷ A ∷ A ∷ A ∷ v 40 ∷ l 0 ∷ v 40 ∷ v 32 ∷ v 42 ∷ (Bin op.Add (v 40) (l 128)) ∷ A ∷ A ∷ A ∷ A ∷ A ∷ A ∷ l 0x101000000000000 ∷ l 0x80008100 ∷ []) csrs_2 (set cells_3 0 (l 0x101000000000074)) ([]) 0 false ∷
    b 5024 0x80000524 (l 0 ∷ l 0x8000047c ∷ l 0x8000046c ∷ A ∷ A ∷ v 40 ∷ A ∷ A ∷ A ∷ A ∷ l 0x101000000000061 ∷ A ∷ A ∷ A ∷ A ∷ A ∷ A ∷ A ∷ v 40 ∷ l 0 ∷ v 40 ∷ v 32 ∷ v 42 ∷ (Bin op.Add (v 40) (l 128)) ∷ A ∷ A ∷ A ∷ A ∷ A ∷ A ∷ l 0x101000000000000 ∷ l 0x80008100 ∷ []) csrs_2 (set cells_3 0 (l 0x101000000000061)) ([]) 0 false ∷
    b 5022 0x80000524 (l 0 ∷ l 0x80000474 ∷ l 0x8000046c ∷ A ∷ A ∷ v 40 ∷ A ∷ A ∷ A ∷ A ∷ l 0x101000000000020 ∷ A ∷ A ∷ A ∷ A ∷ A ∷ A ∷ A ∷ v 40 ∷ l 0 ∷ v 40 ∷ v 32 ∷ v 42 ∷ (Bin op.Add (v 40) (l 128)) ∷ A ∷ A ∷ A ∷ A ∷ A ∷ A ∷ l 0x101000000000000 ∷ l 0x80008100 ∷ []) csrs_2 (set cells_3 0 (l 0x101000000000020)) ([]) 0 false ∷
    b 5020 0x80000524 (l 0 ∷ l 0x8000050c ∷ l 0x8000046c ∷ A ∷ A ∷ v 40 ∷ A ∷ A ∷ A ∷ A ∷ (Bin op.Add (Bin op.Add (Bin op.Add (Bin op.And (Bin op.Srl (v 40) (l 0)) (l 15)) (Bin op.And (Bin op.Add (Bin op.Sltu (Bin op.And (Bin op.Srl (v 40) (l 0)) (l 15)) (l 10)) (l 0xffffffffffffffff)) (l 39))) (l 48)) (l 0x101000000000000)) ∷ A ∷ A ∷ A ∷ A ∷ A ∷ A ∷ A ∷ v 40 ∷ l 0 ∷ v 40 ∷ v 32 ∷ v 42 ∷ (Bin op.Add (v 40) (l 128)) ∷ A ∷ A ∷ A ∷ A ∷ A ∷ A ∷ l 0x101000000000000 ∷ l 0x80008100 ∷ []) csrs_2 (set cells_3 0 (Bin op.Add (Bin op.Add (Bin op.Add (Bin op.And (Bin op.Srl (v 40) (l 0)) (l 15)) (Bin op.And (Bin op.Add (Bin op.Sltu (Bin op.And (Bin op.Srl (v 40) (l 0)) (l 15)) (l 10)) (l 0xffffffffffffffff)) (l 39))) (l 48)) (l 0x101000000000000))) ([]) 0 false ∷
    b 5018 0x80000524 (l 0 ∷ l 0x8000050c ∷ l 0x8000046c ∷ A ∷ A ∷ v 40 ∷ A ∷ A ∷ A ∷ A ∷ (Bin op.Add (Bin op.Add (Bin op.Add (Bin op.And (Bin op.Srl (v 40) (l 4)) (l 15)) (Bin op.And (Bin op.Add (Bin op.Sltu (Bin op.And (Bin op.Srl (v 40) (l 4)) (l 15)) (l 10)) (l 0xffffffffffffffff)) (l 39))) (l 48)) (l 0x101000000000000)) ∷ A ∷ A ∷ A ∷ A ∷ A ∷ A ∷ A ∷ v 40 ∷ l 4 ∷ v 40 ∷ v 32 ∷ v 42 ∷ (Bin op.Add (v 40) (l 128)) ∷ A ∷ A ∷ A ∷ A ∷ A ∷ A ∷ l 0x101000000000000 ∷ l 0x80008100 ∷ []) csrs_2 (set cells_3 0 (Bin op.Add (Bin op.Add (Bin op.Add (Bin op.And (Bin op.Srl (v 40) (l 4)) (l 15)) (Bin op.And (Bin op.Add (Bin op.Sltu (Bin op.And (Bin op.Srl (v 40) (l 4)) (l 15)) (l 10)) (l 0xffffffffffffffff)) (l 39))) (l 48)) (l 0x101000000000000))) ([]) 0 false ∷
    b 5016 0x80000524 (l 0 ∷ l 0x80000460 ∷ A ∷ A ∷ A ∷ v 40 ∷ A ∷ A ∷ A ∷ A ∷ l 0x101000000000020 ∷ A ∷ A ∷ A ∷ A ∷ A ∷ A ∷ A ∷ A ∷ A ∷ v 40 ∷ v 32 ∷ v 42 ∷ (Bin op.Add (v 40) (l 128)) ∷ A ∷ A ∷ A ∷ A ∷ A ∷ A ∷ l 0x101000000000000 ∷ l 0x80008100 ∷ []) csrs_2 (set cells_3 0 (l 0x101000000000020)) ([]) 0 false ∷
    b 5014 0x80000524 (l 0 ∷ l 0x80000458 ∷ A ∷ A ∷ A ∷ v 40 ∷ A ∷ A ∷ A ∷ A ∷ l 0x101000000000070 ∷ A ∷ A ∷ A ∷ A ∷ A ∷ A ∷ A ∷ A ∷ A ∷ v 40 ∷ v 32 ∷ v 42 ∷ (Bin op.Add (v 40) (l 128)) ∷ A ∷ A ∷ A ∷ A ∷ A ∷ A ∷ l 0x101000000000000 ∷ l 0x80008100 ∷ []) csrs_2 (set cells_3 0 (l 0x101000000000070)) ([]) 0 false ∷
    b 5012 0x80000524 (l 0 ∷ l 0x80000450 ∷ A ∷ A ∷ A ∷ v 40 ∷ A ∷ A ∷ A ∷ A ∷ l 0x101000000000061 ∷ A ∷ A ∷ A ∷ A ∷ A ∷ A ∷ A ∷ A ∷ A ∷ v 40 ∷ v 32 ∷ v 42 ∷ (Bin op.Add (v 40) (l 128)) ∷ A ∷ A ∷ A ∷ A ∷ A ∷ A ∷ l 0x101000000000000 ∷ l 0x80008100 ∷ []) csrs_2 (set cells_3 0 (l 0x101000000000061)) ([]) 0 false ∷
    b 5010 0x80000524 (l 0 ∷ l 0x80000448 ∷ A ∷ A ∷ A ∷ v 40 ∷ A ∷ A ∷ A ∷ A ∷ l 0x101000000000072 ∷ A ∷ A ∷ A ∷ A ∷ A ∷ A ∷ A ∷ A ∷ A ∷ v 40 ∷ v 32 ∷ v 42 ∷ (Bin op.Add (v 40) (l 128)) ∷ A ∷ A ∷ A ∷ A ∷ A ∷ A ∷ l 0x101000000000000 ∷ l 0x80008100 ∷ []) csrs_2 (set cells_3 0 (l 0x101000000000072)) ([]) 0 false ∷
    b 5008 0x80000524 (l 0 ∷ l 0x80000440 ∷ A ∷ A ∷ A ∷ v 40 ∷ A ∷ A ∷ A ∷ A ∷ l 0x101000000000074 ∷ A ∷ A ∷ A ∷ A ∷ A ∷ A ∷ A ∷ A ∷ A ∷ v 40 ∷ v 32 ∷ v 42 ∷ (Bin op.Add (v 40) (l 128)) ∷ A ∷ A ∷ A ∷ A ∷ A ∷ A ∷ l 0x101000000000000 ∷ l 0x80008100 ∷ []) csrs_2 (set cells_3 0 (l 0x101000000000074)) ([]) 0 false ∷
    b 5006 0x80000524 (l 0 ∷ l 0x80000438 ∷ A ∷ A ∷ A ∷ v 40 ∷ A ∷ A ∷ A ∷ A ∷ l 0x101000000000020 ∷ A ∷ A ∷ A ∷ A ∷ A ∷ A ∷ A ∷ A ∷ A ∷ v 40 ∷ v 32 ∷ v 42 ∷ (Bin op.Add (v 40) (l 128)) ∷ A ∷ A ∷ A ∷ A ∷ A ∷ A ∷ l 0x101000000000000 ∷ l 0x80008100 ∷ []) csrs_2 (set cells_3 0 (l 0x101000000000020)) ([]) 0 false ∷
    b 5004 0x80000524 (l 0 ∷ l 0x80000430 ∷ A ∷ A ∷ A ∷ v 40 ∷ A ∷ A ∷ A ∷ A ∷ l 0x10100000000003a ∷ A ∷ A ∷ A ∷ A ∷ A ∷ A ∷ A ∷ A ∷ A ∷ v 40 ∷ v 32 ∷ v 42 ∷ (Bin op.Add (v 40) (l 128)) ∷ A ∷ A ∷ A ∷ A ∷ A ∷ A ∷ l 0x101000000000000 ∷ l 0x80008100 ∷ []) csrs_2 (set cells_3 0 (l 0x10100000000003a)) ([]) 0 false ∷
    b 5002 0x80000524 (l 0 ∷ l 0x80000428 ∷ A ∷ A ∷ A ∷ v 40 ∷ A ∷ A ∷ A ∷ A ∷ l 0x10100000000006b ∷ A ∷ A ∷ A ∷ A ∷ A ∷ A ∷ A ∷ A ∷ A ∷ v 40 ∷ v 32 ∷ v 42 ∷ (Bin op.Add (v 40) (l 128)) ∷ A ∷ A ∷ A ∷ A ∷ A ∷ A ∷ l 0x101000000000000 ∷ l 0x80008100 ∷ []) csrs_2 (set cells_3 0 (l 0x10100000000006b)) ([]) 0 false ∷
    b 5000 0x80000524 (l 0 ∷ l 0x80000420 ∷ A ∷ A ∷ A ∷ v 40 ∷ A ∷ A ∷ A ∷ A ∷ l 0x101000000000070 ∷ A ∷ A ∷ A ∷ A ∷ A ∷ A ∷ A ∷ A ∷ A ∷ v 40 ∷ v 32 ∷ v 42 ∷ (Bin op.Add (v 40) (l 128)) ∷ A ∷ A ∷ A ∷ A ∷ A ∷ A ∷ l 0x101000000000000 ∷ l 0x80008100 ∷ []) csrs_2 (set cells_3 0 (l 0x101000000000070)) ([]) 0 false ∷
    []
