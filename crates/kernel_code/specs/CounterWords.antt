-- The blocks of the words where a counter is asked for. Written by tools/kernel_blocks.py.
use Rattle.std.specs.Prelude.{true, false, List, [], ◌∷◌, set}
use Rattle.rv_alu.specs.declared.arithmetic.AluOp.TheVariants as op
use Rattle.kernel_steps.specs.Terms.{Bin}
use Rattle.kernel_steps.specs.Blocks.{Block}
use Rattle.kernel_code.specs.Numbers.{counter_words, counter_last_blocks, counter_store_gates}
use Rattle.kernel_code.specs.Shorthand.{A, v, l, b, cells_3, csrs_2}

-- by kind, place, what is known there, and size
unfoldable pub counter_blocks : List Block
counter_blocks =
    b counter_words 0x8000035c (l 0 ∷ A ∷ A ∷ A ∷ A ∷ v 40 ∷ A ∷ A ∷ A ∷ A ∷ A ∷ A ∷ A ∷ A ∷ A ∷ A ∷ A ∷ A ∷ A ∷ A ∷ A ∷ v 32 ∷ v 42 ∷ A ∷ A ∷ A ∷ A ∷ A ∷ A ∷ A ∷ l 0x101000000000000 ∷ l 0x80008100 ∷ []) csrs_2 cells_3 ([]) 3 true ∷
    b counter_words 0x80000518 (l 0 ∷ l 0x80000368 ∷ A ∷ A ∷ A ∷ v 40 ∷ A ∷ A ∷ A ∷ A ∷ l 0x101000000000070 ∷ A ∷ A ∷ A ∷ A ∷ A ∷ A ∷ A ∷ A ∷ A ∷ A ∷ v 32 ∷ v 42 ∷ l 124 ∷ A ∷ A ∷ A ∷ A ∷ A ∷ A ∷ l 0x101000000000000 ∷ l 0x80008100 ∷ []) csrs_2 cells_3 ([]) 1 true ∷
    b counter_words 0x80000520 (l 0 ∷ l 0x80000368 ∷ A ∷ A ∷ A ∷ v 40 ∷ A ∷ A ∷ A ∷ A ∷ l 0x101000000000070 ∷ A ∷ A ∷ A ∷ A ∷ A ∷ A ∷ A ∷ A ∷ A ∷ A ∷ v 32 ∷ v 42 ∷ l 124 ∷ A ∷ A ∷ A ∷ A ∷ A ∷ A ∷ l 0x101000000000000 ∷ l 0x80008100 ∷ []) csrs_2 cells_3 ([]) 0 true ∷
    b 2001 0x80000524 (l 0 ∷ l 0x80000368 ∷ A ∷ A ∷ A ∷ v 40 ∷ A ∷ A ∷ A ∷ A ∷ l 0x101000000000070 ∷ A ∷ A ∷ A ∷ A ∷ A ∷ A ∷ A ∷ A ∷ A ∷ A ∷ v 32 ∷ v 42 ∷ l 124 ∷ A ∷ A ∷ A ∷ A ∷ A ∷ A ∷ l 0x101000000000000 ∷ l 0x80008100 ∷ []) csrs_2 cells_3 ([]) 0 true ∷
    b 2002 0x80000368 (l 0 ∷ l 0x80000368 ∷ A ∷ A ∷ A ∷ v 40 ∷ A ∷ A ∷ A ∷ A ∷ l 0x101000000000070 ∷ A ∷ A ∷ A ∷ A ∷ A ∷ A ∷ A ∷ A ∷ A ∷ A ∷ v 32 ∷ v 42 ∷ l 124 ∷ A ∷ A ∷ A ∷ A ∷ A ∷ A ∷ l 0x101000000000000 ∷ l 0x80008100 ∷ []) csrs_2 cells_3 ([]) 2 true ∷
    b 2002 0x80000518 (l 0 ∷ l 0x80000370 ∷ A ∷ A ∷ A ∷ v 40 ∷ A ∷ A ∷ A ∷ A ∷ l 0x10100000000006b ∷ A ∷ A ∷ A ∷ A ∷ A ∷ A ∷ A ∷ A ∷ A ∷ A ∷ v 32 ∷ v 42 ∷ l 124 ∷ A ∷ A ∷ A ∷ A ∷ A ∷ A ∷ l 0x101000000000000 ∷ l 0x80008100 ∷ []) csrs_2 cells_3 ([]) 1 true ∷
    b 2002 0x80000520 (l 0 ∷ l 0x80000370 ∷ A ∷ A ∷ A ∷ v 40 ∷ A ∷ A ∷ A ∷ A ∷ l 0x10100000000006b ∷ A ∷ A ∷ A ∷ A ∷ A ∷ A ∷ A ∷ A ∷ A ∷ A ∷ v 32 ∷ v 42 ∷ l 124 ∷ A ∷ A ∷ A ∷ A ∷ A ∷ A ∷ l 0x101000000000000 ∷ l 0x80008100 ∷ []) csrs_2 cells_3 ([]) 0 true ∷
    b 2003 0x80000524 (l 0 ∷ l 0x80000370 ∷ A ∷ A ∷ A ∷ v 40 ∷ A ∷ A ∷ A ∷ A ∷ l 0x10100000000006b ∷ A ∷ A ∷ A ∷ A ∷ A ∷ A ∷ A ∷ A ∷ A ∷ A ∷ v 32 ∷ v 42 ∷ l 124 ∷ A ∷ A ∷ A ∷ A ∷ A ∷ A ∷ l 0x101000000000000 ∷ l 0x80008100 ∷ []) csrs_2 cells_3 ([]) 0 true ∷
    b 2004 0x80000370 (l 0 ∷ l 0x80000370 ∷ A ∷ A ∷ A ∷ v 40 ∷ A ∷ A ∷ A ∷ A ∷ l 0x10100000000006b ∷ A ∷ A ∷ A ∷ A ∷ A ∷ A ∷ A ∷ A ∷ A ∷ A ∷ v 32 ∷ v 42 ∷ l 124 ∷ A ∷ A ∷ A ∷ A ∷ A ∷ A ∷ l 0x101000000000000 ∷ l 0x80008100 ∷ []) csrs_2 cells_3 ([]) 2 true ∷
    b 2004 0x80000518 (l 0 ∷ l 0x80000378 ∷ A ∷ A ∷ A ∷ v 40 ∷ A ∷ A ∷ A ∷ A ∷ l 0x10100000000003a ∷ A ∷ A ∷ A ∷ A ∷ A ∷ A ∷ A ∷ A ∷ A ∷ A ∷ v 32 ∷ v 42 ∷ l 124 ∷ A ∷ A ∷ A ∷ A ∷ A ∷ A ∷ l 0x101000000000000 ∷ l 0x80008100 ∷ []) csrs_2 cells_3 ([]) 1 true ∷
    b 2004 0x80000520 (l 0 ∷ l 0x80000378 ∷ A ∷ A ∷ A ∷ v 40 ∷ A ∷ A ∷ A ∷ A ∷ l 0x10100000000003a ∷ A ∷ A ∷ A ∷ A ∷ A ∷ A ∷ A ∷ A ∷ A ∷ A ∷ v 32 ∷ v 42 ∷ l 124 ∷ A ∷ A ∷ A ∷ A ∷ A ∷ A ∷ l 0x101000000000000 ∷ l 0x80008100 ∷ []) csrs_2 cells_3 ([]) 0 true ∷
    b 2005 0x80000524 (l 0 ∷ l 0x80000378 ∷ A ∷ A ∷ A ∷ v 40 ∷ A ∷ A ∷ A ∷ A ∷ l 0x10100000000003a ∷ A ∷ A ∷ A ∷ A ∷ A ∷ A ∷ A ∷ A ∷ A ∷ A ∷ v 32 ∷ v 42 ∷ l 124 ∷ A ∷ A ∷ A ∷ A ∷ A ∷ A ∷ l 0x101000000000000 ∷ l 0x80008100 ∷ []) csrs_2 cells_3 ([]) 0 true ∷
    b 2006 0x80000378 (l 0 ∷ l 0x80000378 ∷ A ∷ A ∷ A ∷ v 40 ∷ A ∷ A ∷ A ∷ A ∷ l 0x10100000000003a ∷ A ∷ A ∷ A ∷ A ∷ A ∷ A ∷ A ∷ A ∷ A ∷ A ∷ v 32 ∷ v 42 ∷ l 124 ∷ A ∷ A ∷ A ∷ A ∷ A ∷ A ∷ l 0x101000000000000 ∷ l 0x80008100 ∷ []) csrs_2 cells_3 ([]) 2 true ∷
    b 2006 0x80000518 (l 0 ∷ l 0x80000380 ∷ A ∷ A ∷ A ∷ v 40 ∷ A ∷ A ∷ A ∷ A ∷ l 0x101000000000020 ∷ A ∷ A ∷ A ∷ A ∷ A ∷ A ∷ A ∷ A ∷ A ∷ A ∷ v 32 ∷ v 42 ∷ l 124 ∷ A ∷ A ∷ A ∷ A ∷ A ∷ A ∷ l 0x101000000000000 ∷ l 0x80008100 ∷ []) csrs_2 cells_3 ([]) 1 true ∷
    b 2006 0x80000520 (l 0 ∷ l 0x80000380 ∷ A ∷ A ∷ A ∷ v 40 ∷ A ∷ A ∷ A ∷ A ∷ l 0x101000000000020 ∷ A ∷ A ∷ A ∷ A ∷ A ∷ A ∷ A ∷ A ∷ A ∷ A ∷ v 32 ∷ v 42 ∷ l 124 ∷ A ∷ A ∷ A ∷ A ∷ A ∷ A ∷ l 0x101000000000000 ∷ l 0x80008100 ∷ []) csrs_2 cells_3 ([]) 0 true ∷
    b 2007 0x80000524 (l 0 ∷ l 0x80000380 ∷ A ∷ A ∷ A ∷ v 40 ∷ A ∷ A ∷ A ∷ A ∷ l 0x101000000000020 ∷ A ∷ A ∷ A ∷ A ∷ A ∷ A ∷ A ∷ A ∷ A ∷ A ∷ v 32 ∷ v 42 ∷ l 124 ∷ A ∷ A ∷ A ∷ A ∷ A ∷ A ∷ l 0x101000000000000 ∷ l 0x80008100 ∷ []) csrs_2 cells_3 ([]) 0 true ∷
    b 2008 0x80000380 (l 0 ∷ l 0x80000380 ∷ A ∷ A ∷ A ∷ v 40 ∷ A ∷ A ∷ A ∷ A ∷ l 0x101000000000020 ∷ A ∷ A ∷ A ∷ A ∷ A ∷ A ∷ A ∷ A ∷ A ∷ A ∷ v 32 ∷ v 42 ∷ l 124 ∷ A ∷ A ∷ A ∷ A ∷ A ∷ A ∷ l 0x101000000000000 ∷ l 0x80008100 ∷ []) csrs_2 cells_3 ([]) 2 true ∷
    b 2008 0x80000518 (l 0 ∷ l 0x80000388 ∷ A ∷ A ∷ A ∷ v 40 ∷ A ∷ A ∷ A ∷ A ∷ l 0x101000000000063 ∷ A ∷ A ∷ A ∷ A ∷ A ∷ A ∷ A ∷ A ∷ A ∷ A ∷ v 32 ∷ v 42 ∷ l 124 ∷ A ∷ A ∷ A ∷ A ∷ A ∷ A ∷ l 0x101000000000000 ∷ l 0x80008100 ∷ []) csrs_2 cells_3 ([]) 1 true ∷
    b 2008 0x80000520 (l 0 ∷ l 0x80000388 ∷ A ∷ A ∷ A ∷ v 40 ∷ A ∷ A ∷ A ∷ A ∷ l 0x101000000000063 ∷ A ∷ A ∷ A ∷ A ∷ A ∷ A ∷ A ∷ A ∷ A ∷ A ∷ v 32 ∷ v 42 ∷ l 124 ∷ A ∷ A ∷ A ∷ A ∷ A ∷ A ∷ l 0x101000000000000 ∷ l 0x80008100 ∷ []) csrs_2 cells_3 ([]) 0 true ∷
    b 2009 0x80000524 (l 0 ∷ l 0x80000388 ∷ A ∷ A ∷ A ∷ v 40 ∷ A ∷ A ∷ A ∷ A ∷ l 0x101000000000063 ∷ A ∷ A ∷ A ∷ A ∷ A ∷ A ∷ A ∷ A ∷ A ∷ A ∷ v 32 ∷ v 42 ∷ l 124 ∷ A ∷ A ∷ A ∷ A ∷ A ∷ A ∷ l 0x101000000000000 ∷ l 0x80008100 ∷ []) csrs_2 cells_3 ([]) 0 true ∷
    b 2010 0x80000388 (l 0 ∷ l 0x80000388 ∷ A ∷ A ∷ A ∷ v 40 ∷ A ∷ A ∷ A ∷ A ∷ l 0x101000000000063 ∷ A ∷ A ∷ A ∷ A ∷ A ∷ A ∷ A ∷ A ∷ A ∷ A ∷ v 32 ∷ v 42 ∷ l 124 ∷ A ∷ A ∷ A ∷ A ∷ A ∷ A ∷ l 0x101000000000000 ∷ l 0x80008100 ∷ []) csrs_2 cells_3 ([]) 2 true ∷
    b 2010 0x80000518 (l 0 ∷ l 0x80000390 ∷ A ∷ A ∷ A ∷ v 40 ∷ A ∷ A ∷ A ∷ A ∷ l 0x10100000000006f ∷ A ∷ A ∷ A ∷ A ∷ A ∷ A ∷ A ∷ A ∷ A ∷ A ∷ v 32 ∷ v 42 ∷ l 124 ∷ A ∷ A ∷ A ∷ A ∷ A ∷ A ∷ l 0x101000000000000 ∷ l 0x80008100 ∷ []) csrs_2 cells_3 ([]) 1 true ∷
    b 2010 0x80000520 (l 0 ∷ l 0x80000390 ∷ A ∷ A ∷ A ∷ v 40 ∷ A ∷ A ∷ A ∷ A ∷ l 0x10100000000006f ∷ A ∷ A ∷ A ∷ A ∷ A ∷ A ∷ A ∷ A ∷ A ∷ A ∷ v 32 ∷ v 42 ∷ l 124 ∷ A ∷ A ∷ A ∷ A ∷ A ∷ A ∷ l 0x101000000000000 ∷ l 0x80008100 ∷ []) csrs_2 cells_3 ([]) 0 true ∷
    b 2011 0x80000524 (l 0 ∷ l 0x80000390 ∷ A ∷ A ∷ A ∷ v 40 ∷ A ∷ A ∷ A ∷ A ∷ l 0x10100000000006f ∷ A ∷ A ∷ A ∷ A ∷ A ∷ A ∷ A ∷ A ∷ A ∷ A ∷ v 32 ∷ v 42 ∷ l 124 ∷ A ∷ A ∷ A ∷ A ∷ A ∷ A ∷ l 0x101000000000000 ∷ l 0x80008100 ∷ []) csrs_2 cells_3 ([]) 0 true ∷
    b 2012 0x80000390 (l 0 ∷ l 0x80000390 ∷ A ∷ A ∷ A ∷ v 40 ∷ A ∷ A ∷ A ∷ A ∷ l 0x10100000000006f ∷ A ∷ A ∷ A ∷ A ∷ A ∷ A ∷ A ∷ A ∷ A ∷ A ∷ v 32 ∷ v 42 ∷ l 124 ∷ A ∷ A ∷ A ∷ A ∷ A ∷ A ∷ l 0x101000000000000 ∷ l 0x80008100 ∷ []) csrs_2 cells_3 ([]) 2 true ∷
    b 2012 0x80000518 (l 0 ∷ l 0x80000398 ∷ A ∷ A ∷ A ∷ v 40 ∷ A ∷ A ∷ A ∷ A ∷ l 0x101000000000075 ∷ A ∷ A ∷ A ∷ A ∷ A ∷ A ∷ A ∷ A ∷ A ∷ A ∷ v 32 ∷ v 42 ∷ l 124 ∷ A ∷ A ∷ A ∷ A ∷ A ∷ A ∷ l 0x101000000000000 ∷ l 0x80008100 ∷ []) csrs_2 cells_3 ([]) 1 true ∷
    b 2012 0x80000520 (l 0 ∷ l 0x80000398 ∷ A ∷ A ∷ A ∷ v 40 ∷ A ∷ A ∷ A ∷ A ∷ l 0x101000000000075 ∷ A ∷ A ∷ A ∷ A ∷ A ∷ A ∷ A ∷ A ∷ A ∷ A ∷ v 32 ∷ v 42 ∷ l 124 ∷ A ∷ A ∷ A ∷ A ∷ A ∷ A ∷ l 0x101000000000000 ∷ l 0x80008100 ∷ []) csrs_2 cells_3 ([]) 0 true ∷
    b 2013 0x80000524 (l 0 ∷ l 0x80000398 ∷ A ∷ A ∷ A ∷ v 40 ∷ A ∷ A ∷ A ∷ A ∷ l 0x101000000000075 ∷ A ∷ A ∷ A ∷ A ∷ A ∷ A ∷ A ∷ A ∷ A ∷ A ∷ v 32 ∷ v 42 ∷ l 124 ∷ A ∷ A ∷ A ∷ A ∷ A ∷ A ∷ l 0x101000000000000 ∷ l 0x80008100 ∷ []) csrs_2 cells_3 ([]) 0 true ∷
    b 2014 0x80000398 (l 0 ∷ l 0x80000398 ∷ A ∷ A ∷ A ∷ v 40 ∷ A ∷ A ∷ A ∷ A ∷ l 0x101000000000075 ∷ A ∷ A ∷ A ∷ A ∷ A ∷ A ∷ A ∷ A ∷ A ∷ A ∷ v 32 ∷ v 42 ∷ l 124 ∷ A ∷ A ∷ A ∷ A ∷ A ∷ A ∷ l 0x101000000000000 ∷ l 0x80008100 ∷ []) csrs_2 cells_3 ([]) 2 true ∷
    b 2014 0x80000518 (l 0 ∷ l 0x800003a0 ∷ A ∷ A ∷ A ∷ v 40 ∷ A ∷ A ∷ A ∷ A ∷ l 0x10100000000006e ∷ A ∷ A ∷ A ∷ A ∷ A ∷ A ∷ A ∷ A ∷ A ∷ A ∷ v 32 ∷ v 42 ∷ l 124 ∷ A ∷ A ∷ A ∷ A ∷ A ∷ A ∷ l 0x101000000000000 ∷ l 0x80008100 ∷ []) csrs_2 cells_3 ([]) 1 true ∷
    b 2014 0x80000520 (l 0 ∷ l 0x800003a0 ∷ A ∷ A ∷ A ∷ v 40 ∷ A ∷ A ∷ A ∷ A ∷ l 0x10100000000006e ∷ A ∷ A ∷ A ∷ A ∷ A ∷ A ∷ A ∷ A ∷ A ∷ A ∷ v 32 ∷ v 42 ∷ l 124 ∷ A ∷ A ∷ A ∷ A ∷ A ∷ A ∷ l 0x101000000000000 ∷ l 0x80008100 ∷ []) csrs_2 cells_3 ([]) 0 true ∷
    b 2015 0x80000524 (l 0 ∷ l 0x800003a0 ∷ A ∷ A ∷ A ∷ v 40 ∷ A ∷ A ∷ A ∷ A ∷ l 0x10100000000006e ∷ A ∷ A ∷ A ∷ A ∷ A ∷ A ∷ A ∷ A ∷ A ∷ A ∷ v 32 ∷ v 42 ∷ l 124 ∷ A ∷ A ∷ A ∷ A ∷ A ∷ A ∷ l 0x101000000000000 ∷ l 0x80008100 ∷ []) csrs_2 cells_3 ([]) 0 true ∷
    b 2016 0x800003a0 (l 0 ∷ l 0x800003a0 ∷ A ∷ A ∷ A ∷ v 40 ∷ A ∷ A ∷ A ∷ A ∷ l 0x10100000000006e ∷ A ∷ A ∷ A ∷ A ∷ A ∷ A ∷ A ∷ A ∷ A ∷ A ∷ v 32 ∷ v 42 ∷ l 124 ∷ A ∷ A ∷ A ∷ A ∷ A ∷ A ∷ l 0x101000000000000 ∷ l 0x80008100 ∷ []) csrs_2 cells_3 ([]) 2 true ∷
    b 2016 0x80000518 (l 0 ∷ l 0x800003a8 ∷ A ∷ A ∷ A ∷ v 40 ∷ A ∷ A ∷ A ∷ A ∷ l 0x101000000000074 ∷ A ∷ A ∷ A ∷ A ∷ A ∷ A ∷ A ∷ A ∷ A ∷ A ∷ v 32 ∷ v 42 ∷ l 124 ∷ A ∷ A ∷ A ∷ A ∷ A ∷ A ∷ l 0x101000000000000 ∷ l 0x80008100 ∷ []) csrs_2 cells_3 ([]) 1 true ∷
    b 2016 0x80000520 (l 0 ∷ l 0x800003a8 ∷ A ∷ A ∷ A ∷ v 40 ∷ A ∷ A ∷ A ∷ A ∷ l 0x101000000000074 ∷ A ∷ A ∷ A ∷ A ∷ A ∷ A ∷ A ∷ A ∷ A ∷ A ∷ v 32 ∷ v 42 ∷ l 124 ∷ A ∷ A ∷ A ∷ A ∷ A ∷ A ∷ l 0x101000000000000 ∷ l 0x80008100 ∷ []) csrs_2 cells_3 ([]) 0 true ∷
    b 2017 0x80000524 (l 0 ∷ l 0x800003a8 ∷ A ∷ A ∷ A ∷ v 40 ∷ A ∷ A ∷ A ∷ A ∷ l 0x101000000000074 ∷ A ∷ A ∷ A ∷ A ∷ A ∷ A ∷ A ∷ A ∷ A ∷ A ∷ v 32 ∷ v 42 ∷ l 124 ∷ A ∷ A ∷ A ∷ A ∷ A ∷ A ∷ l 0x101000000000000 ∷ l 0x80008100 ∷ []) csrs_2 cells_3 ([]) 0 true ∷
    b 2018 0x800003a8 (l 0 ∷ l 0x800003a8 ∷ A ∷ A ∷ A ∷ v 40 ∷ A ∷ A ∷ A ∷ A ∷ l 0x101000000000074 ∷ A ∷ A ∷ A ∷ A ∷ A ∷ A ∷ A ∷ A ∷ A ∷ A ∷ v 32 ∷ v 42 ∷ l 124 ∷ A ∷ A ∷ A ∷ A ∷ A ∷ A ∷ l 0x101000000000000 ∷ l 0x80008100 ∷ []) csrs_2 cells_3 ([]) 2 true ∷
    b 2018 0x80000518 (l 0 ∷ l 0x800003b0 ∷ A ∷ A ∷ A ∷ v 40 ∷ A ∷ A ∷ A ∷ A ∷ l 0x101000000000065 ∷ A ∷ A ∷ A ∷ A ∷ A ∷ A ∷ A ∷ A ∷ A ∷ A ∷ v 32 ∷ v 42 ∷ l 124 ∷ A ∷ A ∷ A ∷ A ∷ A ∷ A ∷ l 0x101000000000000 ∷ l 0x80008100 ∷ []) csrs_2 cells_3 ([]) 1 true ∷
    b 2018 0x80000520 (l 0 ∷ l 0x800003b0 ∷ A ∷ A ∷ A ∷ v 40 ∷ A ∷ A ∷ A ∷ A ∷ l 0x101000000000065 ∷ A ∷ A ∷ A ∷ A ∷ A ∷ A ∷ A ∷ A ∷ A ∷ A ∷ v 32 ∷ v 42 ∷ l 124 ∷ A ∷ A ∷ A ∷ A ∷ A ∷ A ∷ l 0x101000000000000 ∷ l 0x80008100 ∷ []) csrs_2 cells_3 ([]) 0 true ∷
    b 2019 0x80000524 (l 0 ∷ l 0x800003b0 ∷ A ∷ A ∷ A ∷ v 40 ∷ A ∷ A ∷ A ∷ A ∷ l 0x101000000000065 ∷ A ∷ A ∷ A ∷ A ∷ A ∷ A ∷ A ∷ A ∷ A ∷ A ∷ v 32 ∷ v 42 ∷ l 124 ∷ A ∷ A ∷ A ∷ A ∷ A ∷ A ∷ l 0x101000000000000 ∷ l 0x80008100 ∷ []) csrs_2 cells_3 ([]) 0 true ∷
    b 2020 0x800003b0 (l 0 ∷ l 0x800003b0 ∷ A ∷ A ∷ A ∷ v 40 ∷ A ∷ A ∷ A ∷ A ∷ l 0x101000000000065 ∷ A ∷ A ∷ A ∷ A ∷ A ∷ A ∷ A ∷ A ∷ A ∷ A ∷ v 32 ∷ v 42 ∷ l 124 ∷ A ∷ A ∷ A ∷ A ∷ A ∷ A ∷ l 0x101000000000000 ∷ l 0x80008100 ∷ []) csrs_2 cells_3 ([]) 2 true ∷
    b 2020 0x80000518 (l 0 ∷ l 0x800003b8 ∷ A ∷ A ∷ A ∷ v 40 ∷ A ∷ A ∷ A ∷ A ∷ l 0x101000000000072 ∷ A ∷ A ∷ A ∷ A ∷ A ∷ A ∷ A ∷ A ∷ A ∷ A ∷ v 32 ∷ v 42 ∷ l 124 ∷ A ∷ A ∷ A ∷ A ∷ A ∷ A ∷ l 0x101000000000000 ∷ l 0x80008100 ∷ []) csrs_2 cells_3 ([]) 1 true ∷
    b 2020 0x80000520 (l 0 ∷ l 0x800003b8 ∷ A ∷ A ∷ A ∷ v 40 ∷ A ∷ A ∷ A ∷ A ∷ l 0x101000000000072 ∷ A ∷ A ∷ A ∷ A ∷ A ∷ A ∷ A ∷ A ∷ A ∷ A ∷ v 32 ∷ v 42 ∷ l 124 ∷ A ∷ A ∷ A ∷ A ∷ A ∷ A ∷ l 0x101000000000000 ∷ l 0x80008100 ∷ []) csrs_2 cells_3 ([]) 0 true ∷
    b 2021 0x80000524 (l 0 ∷ l 0x800003b8 ∷ A ∷ A ∷ A ∷ v 40 ∷ A ∷ A ∷ A ∷ A ∷ l 0x101000000000072 ∷ A ∷ A ∷ A ∷ A ∷ A ∷ A ∷ A ∷ A ∷ A ∷ A ∷ v 32 ∷ v 42 ∷ l 124 ∷ A ∷ A ∷ A ∷ A ∷ A ∷ A ∷ l 0x101000000000000 ∷ l 0x80008100 ∷ []) csrs_2 cells_3 ([]) 0 true ∷
    b 2022 0x800003b8 (l 0 ∷ l 0x800003b8 ∷ A ∷ A ∷ A ∷ v 40 ∷ A ∷ A ∷ A ∷ A ∷ l 0x101000000000072 ∷ A ∷ A ∷ A ∷ A ∷ A ∷ A ∷ A ∷ A ∷ A ∷ A ∷ v 32 ∷ v 42 ∷ l 124 ∷ A ∷ A ∷ A ∷ A ∷ A ∷ A ∷ l 0x101000000000000 ∷ l 0x80008100 ∷ []) csrs_2 cells_3 ([]) 2 true ∷
    b 2022 0x80000518 (l 0 ∷ l 0x800003c0 ∷ A ∷ A ∷ A ∷ v 40 ∷ A ∷ A ∷ A ∷ A ∷ l 0x101000000000020 ∷ A ∷ A ∷ A ∷ A ∷ A ∷ A ∷ A ∷ A ∷ A ∷ A ∷ v 32 ∷ v 42 ∷ l 124 ∷ A ∷ A ∷ A ∷ A ∷ A ∷ A ∷ l 0x101000000000000 ∷ l 0x80008100 ∷ []) csrs_2 cells_3 ([]) 1 true ∷
    b 2022 0x80000520 (l 0 ∷ l 0x800003c0 ∷ A ∷ A ∷ A ∷ v 40 ∷ A ∷ A ∷ A ∷ A ∷ l 0x101000000000020 ∷ A ∷ A ∷ A ∷ A ∷ A ∷ A ∷ A ∷ A ∷ A ∷ A ∷ v 32 ∷ v 42 ∷ l 124 ∷ A ∷ A ∷ A ∷ A ∷ A ∷ A ∷ l 0x101000000000000 ∷ l 0x80008100 ∷ []) csrs_2 cells_3 ([]) 0 true ∷
    b 2023 0x80000524 (l 0 ∷ l 0x800003c0 ∷ A ∷ A ∷ A ∷ v 40 ∷ A ∷ A ∷ A ∷ A ∷ l 0x101000000000020 ∷ A ∷ A ∷ A ∷ A ∷ A ∷ A ∷ A ∷ A ∷ A ∷ A ∷ v 32 ∷ v 42 ∷ l 124 ∷ A ∷ A ∷ A ∷ A ∷ A ∷ A ∷ l 0x101000000000000 ∷ l 0x80008100 ∷ []) csrs_2 cells_3 ([]) 0 true ∷
    b 2024 0x800003c0 (l 0 ∷ l 0x800003c0 ∷ A ∷ A ∷ A ∷ v 40 ∷ A ∷ A ∷ A ∷ A ∷ l 0x101000000000020 ∷ A ∷ A ∷ A ∷ A ∷ A ∷ A ∷ A ∷ A ∷ A ∷ A ∷ v 32 ∷ v 42 ∷ l 124 ∷ A ∷ A ∷ A ∷ A ∷ A ∷ A ∷ l 0x101000000000000 ∷ l 0x80008100 ∷ []) csrs_2 cells_3 ([]) 2 true ∷
    b 2024 0x80000518 (l 0 ∷ l 0x800003c8 ∷ A ∷ A ∷ A ∷ v 40 ∷ A ∷ A ∷ A ∷ A ∷ l 0x101000000000072 ∷ A ∷ A ∷ A ∷ A ∷ A ∷ A ∷ A ∷ A ∷ A ∷ A ∷ v 32 ∷ v 42 ∷ l 124 ∷ A ∷ A ∷ A ∷ A ∷ A ∷ A ∷ l 0x101000000000000 ∷ l 0x80008100 ∷ []) csrs_2 cells_3 ([]) 1 true ∷
    b 2024 0x80000520 (l 0 ∷ l 0x800003c8 ∷ A ∷ A ∷ A ∷ v 40 ∷ A ∷ A ∷ A ∷ A ∷ l 0x101000000000072 ∷ A ∷ A ∷ A ∷ A ∷ A ∷ A ∷ A ∷ A ∷ A ∷ A ∷ v 32 ∷ v 42 ∷ l 124 ∷ A ∷ A ∷ A ∷ A ∷ A ∷ A ∷ l 0x101000000000000 ∷ l 0x80008100 ∷ []) csrs_2 cells_3 ([]) 0 true ∷
    b 2025 0x80000524 (l 0 ∷ l 0x800003c8 ∷ A ∷ A ∷ A ∷ v 40 ∷ A ∷ A ∷ A ∷ A ∷ l 0x101000000000072 ∷ A ∷ A ∷ A ∷ A ∷ A ∷ A ∷ A ∷ A ∷ A ∷ A ∷ v 32 ∷ v 42 ∷ l 124 ∷ A ∷ A ∷ A ∷ A ∷ A ∷ A ∷ l 0x101000000000000 ∷ l 0x80008100 ∷ []) csrs_2 cells_3 ([]) 0 true ∷
    b 2026 0x800003c8 (l 0 ∷ l 0x800003c8 ∷ A ∷ A ∷ A ∷ v 40 ∷ A ∷ A ∷ A ∷ A ∷ l 0x101000000000072 ∷ A ∷ A ∷ A ∷ A ∷ A ∷ A ∷ A ∷ A ∷ A ∷ A ∷ v 32 ∷ v 42 ∷ l 124 ∷ A ∷ A ∷ A ∷ A ∷ A ∷ A ∷ l 0x101000000000000 ∷ l 0x80008100 ∷ []) csrs_2 cells_3 ([]) 2 true ∷
    b 2026 0x80000518 (l 0 ∷ l 0x800003d0 ∷ A ∷ A ∷ A ∷ v 40 ∷ A ∷ A ∷ A ∷ A ∷ l 0x101000000000065 ∷ A ∷ A ∷ A ∷ A ∷ A ∷ A ∷ A ∷ A ∷ A ∷ A ∷ v 32 ∷ v 42 ∷ l 124 ∷ A ∷ A ∷ A ∷ A ∷ A ∷ A ∷ l 0x101000000000000 ∷ l 0x80008100 ∷ []) csrs_2 cells_3 ([]) 1 true ∷
    b 2026 0x80000520 (l 0 ∷ l 0x800003d0 ∷ A ∷ A ∷ A ∷ v 40 ∷ A ∷ A ∷ A ∷ A ∷ l 0x101000000000065 ∷ A ∷ A ∷ A ∷ A ∷ A ∷ A ∷ A ∷ A ∷ A ∷ A ∷ v 32 ∷ v 42 ∷ l 124 ∷ A ∷ A ∷ A ∷ A ∷ A ∷ A ∷ l 0x101000000000000 ∷ l 0x80008100 ∷ []) csrs_2 cells_3 ([]) 0 true ∷
    b 2027 0x80000524 (l 0 ∷ l 0x800003d0 ∷ A ∷ A ∷ A ∷ v 40 ∷ A ∷ A ∷ A ∷ A ∷ l 0x101000000000065 ∷ A ∷ A ∷ A ∷ A ∷ A ∷ A ∷ A ∷ A ∷ A ∷ A ∷ v 32 ∷ v 42 ∷ l 124 ∷ A ∷ A ∷ A ∷ A ∷ A ∷ A ∷ l 0x101000000000000 ∷ l 0x80008100 ∷ []) csrs_2 cells_3 ([]) 0 true ∷
    b 2028 0x800003d0 (l 0 ∷ l 0x800003d0 ∷ A ∷ A ∷ A ∷ v 40 ∷ A ∷ A ∷ A ∷ A ∷ l 0x101000000000065 ∷ A ∷ A ∷ A ∷ A ∷ A ∷ A ∷ A ∷ A ∷ A ∷ A ∷ v 32 ∷ v 42 ∷ l 124 ∷ A ∷ A ∷ A ∷ A ∷ A ∷ A ∷ l 0x101000000000000 ∷ l 0x80008100 ∷ []) csrs_2 cells_3 ([]) 2 true ∷
    b 2028 0x80000518 (l 0 ∷ l 0x800003d8 ∷ A ∷ A ∷ A ∷ v 40 ∷ A ∷ A ∷ A ∷ A ∷ l 0x101000000000061 ∷ A ∷ A ∷ A ∷ A ∷ A ∷ A ∷ A ∷ A ∷ A ∷ A ∷ v 32 ∷ v 42 ∷ l 124 ∷ A ∷ A ∷ A ∷ A ∷ A ∷ A ∷ l 0x101000000000000 ∷ l 0x80008100 ∷ []) csrs_2 cells_3 ([]) 1 true ∷
    b 2028 0x80000520 (l 0 ∷ l 0x800003d8 ∷ A ∷ A ∷ A ∷ v 40 ∷ A ∷ A ∷ A ∷ A ∷ l 0x101000000000061 ∷ A ∷ A ∷ A ∷ A ∷ A ∷ A ∷ A ∷ A ∷ A ∷ A ∷ v 32 ∷ v 42 ∷ l 124 ∷ A ∷ A ∷ A ∷ A ∷ A ∷ A ∷ l 0x101000000000000 ∷ l 0x80008100 ∷ []) csrs_2 cells_3 ([]) 0 true ∷
    b 2029 0x80000524 (l 0 ∷ l 0x800003d8 ∷ A ∷ A ∷ A ∷ v 40 ∷ A ∷ A ∷ A ∷ A ∷ l 0x101000000000061 ∷ A ∷ A ∷ A ∷ A ∷ A ∷ A ∷ A ∷ A ∷ A ∷ A ∷ v 32 ∷ v 42 ∷ l 124 ∷ A ∷ A ∷ A ∷ A ∷ A ∷ A ∷ l 0x101000000000000 ∷ l 0x80008100 ∷ []) csrs_2 cells_3 ([]) 0 true ∷
    b 2030 0x800003d8 (l 0 ∷ l 0x800003d8 ∷ A ∷ A ∷ A ∷ v 40 ∷ A ∷ A ∷ A ∷ A ∷ l 0x101000000000061 ∷ A ∷ A ∷ A ∷ A ∷ A ∷ A ∷ A ∷ A ∷ A ∷ A ∷ v 32 ∷ v 42 ∷ l 124 ∷ A ∷ A ∷ A ∷ A ∷ A ∷ A ∷ l 0x101000000000000 ∷ l 0x80008100 ∷ []) csrs_2 cells_3 ([]) 2 true ∷
    b 2030 0x80000518 (l 0 ∷ l 0x800003e0 ∷ A ∷ A ∷ A ∷ v 40 ∷ A ∷ A ∷ A ∷ A ∷ l 0x101000000000064 ∷ A ∷ A ∷ A ∷ A ∷ A ∷ A ∷ A ∷ A ∷ A ∷ A ∷ v 32 ∷ v 42 ∷ l 124 ∷ A ∷ A ∷ A ∷ A ∷ A ∷ A ∷ l 0x101000000000000 ∷ l 0x80008100 ∷ []) csrs_2 cells_3 ([]) 1 true ∷
    b 2030 0x80000520 (l 0 ∷ l 0x800003e0 ∷ A ∷ A ∷ A ∷ v 40 ∷ A ∷ A ∷ A ∷ A ∷ l 0x101000000000064 ∷ A ∷ A ∷ A ∷ A ∷ A ∷ A ∷ A ∷ A ∷ A ∷ A ∷ v 32 ∷ v 42 ∷ l 124 ∷ A ∷ A ∷ A ∷ A ∷ A ∷ A ∷ l 0x101000000000000 ∷ l 0x80008100 ∷ []) csrs_2 cells_3 ([]) 0 true ∷
    b 2031 0x80000524 (l 0 ∷ l 0x800003e0 ∷ A ∷ A ∷ A ∷ v 40 ∷ A ∷ A ∷ A ∷ A ∷ l 0x101000000000064 ∷ A ∷ A ∷ A ∷ A ∷ A ∷ A ∷ A ∷ A ∷ A ∷ A ∷ v 32 ∷ v 42 ∷ l 124 ∷ A ∷ A ∷ A ∷ A ∷ A ∷ A ∷ l 0x101000000000000 ∷ l 0x80008100 ∷ []) csrs_2 cells_3 ([]) 0 true ∷
    b 2032 0x800003e0 (l 0 ∷ l 0x800003e0 ∷ A ∷ A ∷ A ∷ v 40 ∷ A ∷ A ∷ A ∷ A ∷ l 0x101000000000064 ∷ A ∷ A ∷ A ∷ A ∷ A ∷ A ∷ A ∷ A ∷ A ∷ A ∷ v 32 ∷ v 42 ∷ l 124 ∷ A ∷ A ∷ A ∷ A ∷ A ∷ A ∷ l 0x101000000000000 ∷ l 0x80008100 ∷ []) csrs_2 cells_3 ([]) 2 true ∷
    b 2032 0x80000518 (l 0 ∷ l 0x800003e8 ∷ A ∷ A ∷ A ∷ v 40 ∷ A ∷ A ∷ A ∷ A ∷ l 0x101000000000020 ∷ A ∷ A ∷ A ∷ A ∷ A ∷ A ∷ A ∷ A ∷ A ∷ A ∷ v 32 ∷ v 42 ∷ l 124 ∷ A ∷ A ∷ A ∷ A ∷ A ∷ A ∷ l 0x101000000000000 ∷ l 0x80008100 ∷ []) csrs_2 cells_3 ([]) 1 true ∷
    b 2032 0x80000520 (l 0 ∷ l 0x800003e8 ∷ A ∷ A ∷ A ∷ v 40 ∷ A ∷ A ∷ A ∷ A ∷ l 0x101000000000020 ∷ A ∷ A ∷ A ∷ A ∷ A ∷ A ∷ A ∷ A ∷ A ∷ A ∷ v 32 ∷ v 42 ∷ l 124 ∷ A ∷ A ∷ A ∷ A ∷ A ∷ A ∷ l 0x101000000000000 ∷ l 0x80008100 ∷ []) csrs_2 cells_3 ([]) 0 true ∷
    b 2033 0x80000524 (l 0 ∷ l 0x800003e8 ∷ A ∷ A ∷ A ∷ v 40 ∷ A ∷ A ∷ A ∷ A ∷ l 0x101000000000020 ∷ A ∷ A ∷ A ∷ A ∷ A ∷ A ∷ A ∷ A ∷ A ∷ A ∷ v 32 ∷ v 42 ∷ l 124 ∷ A ∷ A ∷ A ∷ A ∷ A ∷ A ∷ l 0x101000000000000 ∷ l 0x80008100 ∷ []) csrs_2 cells_3 ([]) 0 true ∷
    b 2034 0x800003e8 (l 0 ∷ l 0x800003e8 ∷ A ∷ A ∷ A ∷ v 40 ∷ A ∷ A ∷ A ∷ A ∷ l 0x101000000000020 ∷ A ∷ A ∷ A ∷ A ∷ A ∷ A ∷ A ∷ A ∷ A ∷ A ∷ v 32 ∷ v 42 ∷ l 124 ∷ A ∷ A ∷ A ∷ A ∷ A ∷ A ∷ l 0x101000000000000 ∷ l 0x80008100 ∷ []) csrs_2 cells_3 ([]) 2 true ∷
    b 2034 0x80000518 (l 0 ∷ l 0x800003f0 ∷ A ∷ A ∷ A ∷ v 40 ∷ A ∷ A ∷ A ∷ A ∷ l 0x101000000000061 ∷ A ∷ A ∷ A ∷ A ∷ A ∷ A ∷ A ∷ A ∷ A ∷ A ∷ v 32 ∷ v 42 ∷ l 124 ∷ A ∷ A ∷ A ∷ A ∷ A ∷ A ∷ l 0x101000000000000 ∷ l 0x80008100 ∷ []) csrs_2 cells_3 ([]) 1 true ∷
    b 2034 0x80000520 (l 0 ∷ l 0x800003f0 ∷ A ∷ A ∷ A ∷ v 40 ∷ A ∷ A ∷ A ∷ A ∷ l 0x101000000000061 ∷ A ∷ A ∷ A ∷ A ∷ A ∷ A ∷ A ∷ A ∷ A ∷ A ∷ v 32 ∷ v 42 ∷ l 124 ∷ A ∷ A ∷ A ∷ A ∷ A ∷ A ∷ l 0x101000000000000 ∷ l 0x80008100 ∷ []) csrs_2 cells_3 ([]) 0 true ∷
    b 2035 0x80000524 (l 0 ∷ l 0x800003f0 ∷ A ∷ A ∷ A ∷ v 40 ∷ A ∷ A ∷ A ∷ A ∷ l 0x101000000000061 ∷ A ∷ A ∷ A ∷ A ∷ A ∷ A ∷ A ∷ A ∷ A ∷ A ∷ v 32 ∷ v 42 ∷ l 124 ∷ A ∷ A ∷ A ∷ A ∷ A ∷ A ∷ l 0x101000000000000 ∷ l 0x80008100 ∷ []) csrs_2 cells_3 ([]) 0 true ∷
    b 2036 0x800003f0 (l 0 ∷ l 0x800003f0 ∷ A ∷ A ∷ A ∷ v 40 ∷ A ∷ A ∷ A ∷ A ∷ l 0x101000000000061 ∷ A ∷ A ∷ A ∷ A ∷ A ∷ A ∷ A ∷ A ∷ A ∷ A ∷ v 32 ∷ v 42 ∷ l 124 ∷ A ∷ A ∷ A ∷ A ∷ A ∷ A ∷ l 0x101000000000000 ∷ l 0x80008100 ∷ []) csrs_2 cells_3 ([]) 2 true ∷
    b 2036 0x80000518 (l 0 ∷ l 0x800003f8 ∷ A ∷ A ∷ A ∷ v 40 ∷ A ∷ A ∷ A ∷ A ∷ l 0x101000000000074 ∷ A ∷ A ∷ A ∷ A ∷ A ∷ A ∷ A ∷ A ∷ A ∷ A ∷ v 32 ∷ v 42 ∷ l 124 ∷ A ∷ A ∷ A ∷ A ∷ A ∷ A ∷ l 0x101000000000000 ∷ l 0x80008100 ∷ []) csrs_2 cells_3 ([]) 1 true ∷
    b 2036 0x80000520 (l 0 ∷ l 0x800003f8 ∷ A ∷ A ∷ A ∷ v 40 ∷ A ∷ A ∷ A ∷ A ∷ l 0x101000000000074 ∷ A ∷ A ∷ A ∷ A ∷ A ∷ A ∷ A ∷ A ∷ A ∷ A ∷ v 32 ∷ v 42 ∷ l 124 ∷ A ∷ A ∷ A ∷ A ∷ A ∷ A ∷ l 0x101000000000000 ∷ l 0x80008100 ∷ []) csrs_2 cells_3 ([]) 0 true ∷
    b 2037 0x80000524 (l 0 ∷ l 0x800003f8 ∷ A ∷ A ∷ A ∷ v 40 ∷ A ∷ A ∷ A ∷ A ∷ l 0x101000000000074 ∷ A ∷ A ∷ A ∷ A ∷ A ∷ A ∷ A ∷ A ∷ A ∷ A ∷ v 32 ∷ v 42 ∷ l 124 ∷ A ∷ A ∷ A ∷ A ∷ A ∷ A ∷ l 0x101000000000000 ∷ l 0x80008100 ∷ []) csrs_2 cells_3 ([]) 0 true ∷
    b 2038 0x800003f8 (l 0 ∷ l 0x800003f8 ∷ A ∷ A ∷ A ∷ v 40 ∷ A ∷ A ∷ A ∷ A ∷ l 0x101000000000074 ∷ A ∷ A ∷ A ∷ A ∷ A ∷ A ∷ A ∷ A ∷ A ∷ A ∷ v 32 ∷ v 42 ∷ l 124 ∷ A ∷ A ∷ A ∷ A ∷ A ∷ A ∷ l 0x101000000000000 ∷ l 0x80008100 ∷ []) csrs_2 cells_3 ([]) 2 true ∷
    b 2038 0x80000518 (l 0 ∷ l 0x80000400 ∷ A ∷ A ∷ A ∷ v 40 ∷ A ∷ A ∷ A ∷ A ∷ l 0x101000000000020 ∷ A ∷ A ∷ A ∷ A ∷ A ∷ A ∷ A ∷ A ∷ A ∷ A ∷ v 32 ∷ v 42 ∷ l 124 ∷ A ∷ A ∷ A ∷ A ∷ A ∷ A ∷ l 0x101000000000000 ∷ l 0x80008100 ∷ []) csrs_2 cells_3 ([]) 1 true ∷
    b 2038 0x80000520 (l 0 ∷ l 0x80000400 ∷ A ∷ A ∷ A ∷ v 40 ∷ A ∷ A ∷ A ∷ A ∷ l 0x101000000000020 ∷ A ∷ A ∷ A ∷ A ∷ A ∷ A ∷ A ∷ A ∷ A ∷ A ∷ v 32 ∷ v 42 ∷ l 124 ∷ A ∷ A ∷ A ∷ A ∷ A ∷ A ∷ l 0x101000000000000 ∷ l 0x80008100 ∷ []) csrs_2 cells_3 ([]) 0 true ∷
    b 2039 0x80000524 (l 0 ∷ l 0x80000400 ∷ A ∷ A ∷ A ∷ v 40 ∷ A ∷ A ∷ A ∷ A ∷ l 0x101000000000020 ∷ A ∷ A ∷ A ∷ A ∷ A ∷ A ∷ A ∷ A ∷ A ∷ A ∷ v 32 ∷ v 42 ∷ l 124 ∷ A ∷ A ∷ A ∷ A ∷ A ∷ A ∷ l 0x101000000000000 ∷ l 0x80008100 ∷ []) csrs_2 cells_3 ([]) 0 true ∷
    b 2040 0x80000400 (l 0 ∷ l 0x80000400 ∷ A ∷ A ∷ A ∷ v 40 ∷ A ∷ A ∷ A ∷ A ∷ l 0x101000000000020 ∷ A ∷ A ∷ A ∷ A ∷ A ∷ A ∷ A ∷ A ∷ A ∷ A ∷ v 32 ∷ v 42 ∷ l 124 ∷ A ∷ A ∷ A ∷ A ∷ A ∷ A ∷ l 0x101000000000000 ∷ l 0x80008100 ∷ []) csrs_2 cells_3 ([]) 12 true ∷
    b 2040 0x80000518 (l 0 ∷ l 0x8000050c ∷ l 0x8000040c ∷ A ∷ A ∷ v 40 ∷ A ∷ A ∷ A ∷ A ∷ (Bin op.Add (Bin op.Add (Bin op.Add (Bin op.And (Bin op.Srl (v 32) (l 60)) (l 15)) (Bin op.And (Bin op.Add (Bin op.Sltu (Bin op.And (Bin op.Srl (v 32) (l 60)) (l 15)) (l 10)) (l 0xffffffffffffffff)) (l 39))) (l 48)) (l 0x101000000000000)) ∷ A ∷ A ∷ A ∷ A ∷ A ∷ A ∷ A ∷ v 32 ∷ l 60 ∷ A ∷ v 32 ∷ v 42 ∷ l 124 ∷ A ∷ A ∷ A ∷ A ∷ A ∷ A ∷ l 0x101000000000000 ∷ l 0x80008100 ∷ []) csrs_2 cells_3 ([]) 1 true ∷
    b 2040 0x80000520 (l 0 ∷ l 0x8000050c ∷ l 0x8000040c ∷ A ∷ A ∷ v 40 ∷ A ∷ A ∷ A ∷ A ∷ (Bin op.Add (Bin op.Add (Bin op.Add (Bin op.And (Bin op.Srl (v 32) (l 60)) (l 15)) (Bin op.And (Bin op.Add (Bin op.Sltu (Bin op.And (Bin op.Srl (v 32) (l 60)) (l 15)) (l 10)) (l 0xffffffffffffffff)) (l 39))) (l 48)) (l 0x101000000000000)) ∷ A ∷ A ∷ A ∷ A ∷ A ∷ A ∷ A ∷ v 32 ∷ l 60 ∷ A ∷ v 32 ∷ v 42 ∷ l 124 ∷ A ∷ A ∷ A ∷ A ∷ A ∷ A ∷ l 0x101000000000000 ∷ l 0x80008100 ∷ []) csrs_2 cells_3 ([]) 0 true ∷
    b 2041 0x80000524 (l 0 ∷ l 0x8000050c ∷ l 0x8000040c ∷ A ∷ A ∷ v 40 ∷ A ∷ A ∷ A ∷ A ∷ (Bin op.Add (Bin op.Add (Bin op.Add (Bin op.And (Bin op.Srl (v 32) (l 60)) (l 15)) (Bin op.And (Bin op.Add (Bin op.Sltu (Bin op.And (Bin op.Srl (v 32) (l 60)) (l 15)) (l 10)) (l 0xffffffffffffffff)) (l 39))) (l 48)) (l 0x101000000000000)) ∷ A ∷ A ∷ A ∷ A ∷ A ∷ A ∷ A ∷ v 32 ∷ l 60 ∷ A ∷ v 32 ∷ v 42 ∷ l 124 ∷ A ∷ A ∷ A ∷ A ∷ A ∷ A ∷ l 0x101000000000000 ∷ l 0x80008100 ∷ []) csrs_2 cells_3 ([]) 0 true ∷
    b 2042 0x8000050c (l 0 ∷ l 0x8000050c ∷ l 0x8000040c ∷ A ∷ A ∷ v 40 ∷ A ∷ A ∷ A ∷ A ∷ (Bin op.Add (Bin op.Add (Bin op.Add (Bin op.And (Bin op.Srl (v 32) (l 60)) (l 15)) (Bin op.And (Bin op.Add (Bin op.Sltu (Bin op.And (Bin op.Srl (v 32) (l 60)) (l 15)) (l 10)) (l 0xffffffffffffffff)) (l 39))) (l 48)) (l 0x101000000000000)) ∷ A ∷ A ∷ A ∷ A ∷ A ∷ A ∷ A ∷ v 32 ∷ l 60 ∷ A ∷ v 32 ∷ v 42 ∷ l 124 ∷ A ∷ A ∷ A ∷ A ∷ A ∷ A ∷ l 0x101000000000000 ∷ l 0x80008100 ∷ []) csrs_2 cells_3 ([]) 10 true ∷
    b 2042 0x80000518 (l 0 ∷ l 0x8000050c ∷ l 0x8000040c ∷ A ∷ A ∷ v 40 ∷ A ∷ A ∷ A ∷ A ∷ (Bin op.Add (Bin op.Add (Bin op.Add (Bin op.And (Bin op.Srl (v 32) (l 56)) (l 15)) (Bin op.And (Bin op.Add (Bin op.Sltu (Bin op.And (Bin op.Srl (v 32) (l 56)) (l 15)) (l 10)) (l 0xffffffffffffffff)) (l 39))) (l 48)) (l 0x101000000000000)) ∷ A ∷ A ∷ A ∷ A ∷ A ∷ A ∷ A ∷ v 32 ∷ l 56 ∷ A ∷ v 32 ∷ v 42 ∷ l 124 ∷ A ∷ A ∷ A ∷ A ∷ A ∷ A ∷ l 0x101000000000000 ∷ l 0x80008100 ∷ []) csrs_2 cells_3 ([]) 1 true ∷
    b 2042 0x80000520 (l 0 ∷ l 0x8000050c ∷ l 0x8000040c ∷ A ∷ A ∷ v 40 ∷ A ∷ A ∷ A ∷ A ∷ (Bin op.Add (Bin op.Add (Bin op.Add (Bin op.And (Bin op.Srl (v 32) (l 56)) (l 15)) (Bin op.And (Bin op.Add (Bin op.Sltu (Bin op.And (Bin op.Srl (v 32) (l 56)) (l 15)) (l 10)) (l 0xffffffffffffffff)) (l 39))) (l 48)) (l 0x101000000000000)) ∷ A ∷ A ∷ A ∷ A ∷ A ∷ A ∷ A ∷ v 32 ∷ l 56 ∷ A ∷ v 32 ∷ v 42 ∷ l 124 ∷ A ∷ A ∷ A ∷ A ∷ A ∷ A ∷ l 0x101000000000000 ∷ l 0x80008100 ∷ []) csrs_2 cells_3 ([]) 0 true ∷
    b 2043 0x80000524 (l 0 ∷ l 0x8000050c ∷ l 0x8000040c ∷ A ∷ A ∷ v 40 ∷ A ∷ A ∷ A ∷ A ∷ (Bin op.Add (Bin op.Add (Bin op.Add (Bin op.And (Bin op.Srl (v 32) (l 56)) (l 15)) (Bin op.And (Bin op.Add (Bin op.Sltu (Bin op.And (Bin op.Srl (v 32) (l 56)) (l 15)) (l 10)) (l 0xffffffffffffffff)) (l 39))) (l 48)) (l 0x101000000000000)) ∷ A ∷ A ∷ A ∷ A ∷ A ∷ A ∷ A ∷ v 32 ∷ l 56 ∷ A ∷ v 32 ∷ v 42 ∷ l 124 ∷ A ∷ A ∷ A ∷ A ∷ A ∷ A ∷ l 0x101000000000000 ∷ l 0x80008100 ∷ []) csrs_2 cells_3 ([]) 0 true ∷
    b 2044 0x8000050c (l 0 ∷ l 0x8000050c ∷ l 0x8000040c ∷ A ∷ A ∷ v 40 ∷ A ∷ A ∷ A ∷ A ∷ (Bin op.Add (Bin op.Add (Bin op.Add (Bin op.And (Bin op.Srl (v 32) (l 56)) (l 15)) (Bin op.And (Bin op.Add (Bin op.Sltu (Bin op.And (Bin op.Srl (v 32) (l 56)) (l 15)) (l 10)) (l 0xffffffffffffffff)) (l 39))) (l 48)) (l 0x101000000000000)) ∷ A ∷ A ∷ A ∷ A ∷ A ∷ A ∷ A ∷ v 32 ∷ l 56 ∷ A ∷ v 32 ∷ v 42 ∷ l 124 ∷ A ∷ A ∷ A ∷ A ∷ A ∷ A ∷ l 0x101000000000000 ∷ l 0x80008100 ∷ []) csrs_2 cells_3 ([]) 10 true ∷
    b 2044 0x80000518 (l 0 ∷ l 0x8000050c ∷ l 0x8000040c ∷ A ∷ A ∷ v 40 ∷ A ∷ A ∷ A ∷ A ∷ (Bin op.Add (Bin op.Add (Bin op.Add (Bin op.And (Bin op.Srl (v 32) (l 52)) (l 15)) (Bin op.And (Bin op.Add (Bin op.Sltu (Bin op.And (Bin op.Srl (v 32) (l 52)) (l 15)) (l 10)) (l 0xffffffffffffffff)) (l 39))) (l 48)) (l 0x101000000000000)) ∷ A ∷ A ∷ A ∷ A ∷ A ∷ A ∷ A ∷ v 32 ∷ l 52 ∷ A ∷ v 32 ∷ v 42 ∷ l 124 ∷ A ∷ A ∷ A ∷ A ∷ A ∷ A ∷ l 0x101000000000000 ∷ l 0x80008100 ∷ []) csrs_2 cells_3 ([]) 1 true ∷
    b 2044 0x80000520 (l 0 ∷ l 0x8000050c ∷ l 0x8000040c ∷ A ∷ A ∷ v 40 ∷ A ∷ A ∷ A ∷ A ∷ (Bin op.Add (Bin op.Add (Bin op.Add (Bin op.And (Bin op.Srl (v 32) (l 52)) (l 15)) (Bin op.And (Bin op.Add (Bin op.Sltu (Bin op.And (Bin op.Srl (v 32) (l 52)) (l 15)) (l 10)) (l 0xffffffffffffffff)) (l 39))) (l 48)) (l 0x101000000000000)) ∷ A ∷ A ∷ A ∷ A ∷ A ∷ A ∷ A ∷ v 32 ∷ l 52 ∷ A ∷ v 32 ∷ v 42 ∷ l 124 ∷ A ∷ A ∷ A ∷ A ∷ A ∷ A ∷ l 0x101000000000000 ∷ l 0x80008100 ∷ []) csrs_2 cells_3 ([]) 0 true ∷
    b 2045 0x80000524 (l 0 ∷ l 0x8000050c ∷ l 0x8000040c ∷ A ∷ A ∷ v 40 ∷ A ∷ A ∷ A ∷ A ∷ (Bin op.Add (Bin op.Add (Bin op.Add (Bin op.And (Bin op.Srl (v 32) (l 52)) (l 15)) (Bin op.And (Bin op.Add (Bin op.Sltu (Bin op.And (Bin op.Srl (v 32) (l 52)) (l 15)) (l 10)) (l 0xffffffffffffffff)) (l 39))) (l 48)) (l 0x101000000000000)) ∷ A ∷ A ∷ A ∷ A ∷ A ∷ A ∷ A ∷ v 32 ∷ l 52 ∷ A ∷ v 32 ∷ v 42 ∷ l 124 ∷ A ∷ A ∷ A ∷ A ∷ A ∷ A ∷ l 0x101000000000000 ∷ l 0x80008100 ∷ []) csrs_2 cells_3 ([]) 0 true ∷
    b 2046 0x8000050c (l 0 ∷ l 0x8000050c ∷ l 0x8000040c ∷ A ∷ A ∷ v 40 ∷ A ∷ A ∷ A ∷ A ∷ (Bin op.Add (Bin op.Add (Bin op.Add (Bin op.And (Bin op.Srl (v 32) (l 52)) (l 15)) (Bin op.And (Bin op.Add (Bin op.Sltu (Bin op.And (Bin op.Srl (v 32) (l 52)) (l 15)) (l 10)) (l 0xffffffffffffffff)) (l 39))) (l 48)) (l 0x101000000000000)) ∷ A ∷ A ∷ A ∷ A ∷ A ∷ A ∷ A ∷ v 32 ∷ l 52 ∷ A ∷ v 32 ∷ v 42 ∷ l 124 ∷ A ∷ A ∷ A ∷ A ∷ A ∷ A ∷ l 0x101000000000000 ∷ l 0x80008100 ∷ []) csrs_2 cells_3 ([]) 10 true ∷
    b 2046 0x80000518 (l 0 ∷ l 0x8000050c ∷ l 0x8000040c ∷ A ∷ A ∷ v 40 ∷ A ∷ A ∷ A ∷ A ∷ (Bin op.Add (Bin op.Add (Bin op.Add (Bin op.And (Bin op.Srl (v 32) (l 48)) (l 15)) (Bin op.And (Bin op.Add (Bin op.Sltu (Bin op.And (Bin op.Srl (v 32) (l 48)) (l 15)) (l 10)) (l 0xffffffffffffffff)) (l 39))) (l 48)) (l 0x101000000000000)) ∷ A ∷ A ∷ A ∷ A ∷ A ∷ A ∷ A ∷ v 32 ∷ l 48 ∷ A ∷ v 32 ∷ v 42 ∷ l 124 ∷ A ∷ A ∷ A ∷ A ∷ A ∷ A ∷ l 0x101000000000000 ∷ l 0x80008100 ∷ []) csrs_2 cells_3 ([]) 1 true ∷
    b 2046 0x80000520 (l 0 ∷ l 0x8000050c ∷ l 0x8000040c ∷ A ∷ A ∷ v 40 ∷ A ∷ A ∷ A ∷ A ∷ (Bin op.Add (Bin op.Add (Bin op.Add (Bin op.And (Bin op.Srl (v 32) (l 48)) (l 15)) (Bin op.And (Bin op.Add (Bin op.Sltu (Bin op.And (Bin op.Srl (v 32) (l 48)) (l 15)) (l 10)) (l 0xffffffffffffffff)) (l 39))) (l 48)) (l 0x101000000000000)) ∷ A ∷ A ∷ A ∷ A ∷ A ∷ A ∷ A ∷ v 32 ∷ l 48 ∷ A ∷ v 32 ∷ v 42 ∷ l 124 ∷ A ∷ A ∷ A ∷ A ∷ A ∷ A ∷ l 0x101000000000000 ∷ l 0x80008100 ∷ []) csrs_2 cells_3 ([]) 0 true ∷
    b 2047 0x80000524 (l 0 ∷ l 0x8000050c ∷ l 0x8000040c ∷ A ∷ A ∷ v 40 ∷ A ∷ A ∷ A ∷ A ∷ (Bin op.Add (Bin op.Add (Bin op.Add (Bin op.And (Bin op.Srl (v 32) (l 48)) (l 15)) (Bin op.And (Bin op.Add (Bin op.Sltu (Bin op.And (Bin op.Srl (v 32) (l 48)) (l 15)) (l 10)) (l 0xffffffffffffffff)) (l 39))) (l 48)) (l 0x101000000000000)) ∷ A ∷ A ∷ A ∷ A ∷ A ∷ A ∷ A ∷ v 32 ∷ l 48 ∷ A ∷ v 32 ∷ v 42 ∷ l 124 ∷ A ∷ A ∷ A ∷ A ∷ A ∷ A ∷ l 0x101000000000000 ∷ l 0x80008100 ∷ []) csrs_2 cells_3 ([]) 0 true ∷
    b 2048 0x8000050c (l 0 ∷ l 0x8000050c ∷ l 0x8000040c ∷ A ∷ A ∷ v 40 ∷ A ∷ A ∷ A ∷ A ∷ (Bin op.Add (Bin op.Add (Bin op.Add (Bin op.And (Bin op.Srl (v 32) (l 48)) (l 15)) (Bin op.And (Bin op.Add (Bin op.Sltu (Bin op.And (Bin op.Srl (v 32) (l 48)) (l 15)) (l 10)) (l 0xffffffffffffffff)) (l 39))) (l 48)) (l 0x101000000000000)) ∷ A ∷ A ∷ A ∷ A ∷ A ∷ A ∷ A ∷ v 32 ∷ l 48 ∷ A ∷ v 32 ∷ v 42 ∷ l 124 ∷ A ∷ A ∷ A ∷ A ∷ A ∷ A ∷ l 0x101000000000000 ∷ l 0x80008100 ∷ []) csrs_2 cells_3 ([]) 10 true ∷
    b 2048 0x80000518 (l 0 ∷ l 0x8000050c ∷ l 0x8000040c ∷ A ∷ A ∷ v 40 ∷ A ∷ A ∷ A ∷ A ∷ (Bin op.Add (Bin op.Add (Bin op.Add (Bin op.And (Bin op.Srl (v 32) (l 44)) (l 15)) (Bin op.And (Bin op.Add (Bin op.Sltu (Bin op.And (Bin op.Srl (v 32) (l 44)) (l 15)) (l 10)) (l 0xffffffffffffffff)) (l 39))) (l 48)) (l 0x101000000000000)) ∷ A ∷ A ∷ A ∷ A ∷ A ∷ A ∷ A ∷ v 32 ∷ l 44 ∷ A ∷ v 32 ∷ v 42 ∷ l 124 ∷ A ∷ A ∷ A ∷ A ∷ A ∷ A ∷ l 0x101000000000000 ∷ l 0x80008100 ∷ []) csrs_2 cells_3 ([]) 1 true ∷
    b 2048 0x80000520 (l 0 ∷ l 0x8000050c ∷ l 0x8000040c ∷ A ∷ A ∷ v 40 ∷ A ∷ A ∷ A ∷ A ∷ (Bin op.Add (Bin op.Add (Bin op.Add (Bin op.And (Bin op.Srl (v 32) (l 44)) (l 15)) (Bin op.And (Bin op.Add (Bin op.Sltu (Bin op.And (Bin op.Srl (v 32) (l 44)) (l 15)) (l 10)) (l 0xffffffffffffffff)) (l 39))) (l 48)) (l 0x101000000000000)) ∷ A ∷ A ∷ A ∷ A ∷ A ∷ A ∷ A ∷ v 32 ∷ l 44 ∷ A ∷ v 32 ∷ v 42 ∷ l 124 ∷ A ∷ A ∷ A ∷ A ∷ A ∷ A ∷ l 0x101000000000000 ∷ l 0x80008100 ∷ []) csrs_2 cells_3 ([]) 0 true ∷
    b 2049 0x80000524 (l 0 ∷ l 0x8000050c ∷ l 0x8000040c ∷ A ∷ A ∷ v 40 ∷ A ∷ A ∷ A ∷ A ∷ (Bin op.Add (Bin op.Add (Bin op.Add (Bin op.And (Bin op.Srl (v 32) (l 44)) (l 15)) (Bin op.And (Bin op.Add (Bin op.Sltu (Bin op.And (Bin op.Srl (v 32) (l 44)) (l 15)) (l 10)) (l 0xffffffffffffffff)) (l 39))) (l 48)) (l 0x101000000000000)) ∷ A ∷ A ∷ A ∷ A ∷ A ∷ A ∷ A ∷ v 32 ∷ l 44 ∷ A ∷ v 32 ∷ v 42 ∷ l 124 ∷ A ∷ A ∷ A ∷ A ∷ A ∷ A ∷ l 0x101000000000000 ∷ l 0x80008100 ∷ []) csrs_2 cells_3 ([]) 0 true ∷
    b 2050 0x8000050c (l 0 ∷ l 0x8000050c ∷ l 0x8000040c ∷ A ∷ A ∷ v 40 ∷ A ∷ A ∷ A ∷ A ∷ (Bin op.Add (Bin op.Add (Bin op.Add (Bin op.And (Bin op.Srl (v 32) (l 44)) (l 15)) (Bin op.And (Bin op.Add (Bin op.Sltu (Bin op.And (Bin op.Srl (v 32) (l 44)) (l 15)) (l 10)) (l 0xffffffffffffffff)) (l 39))) (l 48)) (l 0x101000000000000)) ∷ A ∷ A ∷ A ∷ A ∷ A ∷ A ∷ A ∷ v 32 ∷ l 44 ∷ A ∷ v 32 ∷ v 42 ∷ l 124 ∷ A ∷ A ∷ A ∷ A ∷ A ∷ A ∷ l 0x101000000000000 ∷ l 0x80008100 ∷ []) csrs_2 cells_3 ([]) 10 true ∷
    b 2050 0x80000518 (l 0 ∷ l 0x8000050c ∷ l 0x8000040c ∷ A ∷ A ∷ v 40 ∷ A ∷ A ∷ A ∷ A ∷ (Bin op.Add (Bin op.Add (Bin op.Add (Bin op.And (Bin op.Srl (v 32) (l 40)) (l 15)) (Bin op.And (Bin op.Add (Bin op.Sltu (Bin op.And (Bin op.Srl (v 32) (l 40)) (l 15)) (l 10)) (l 0xffffffffffffffff)) (l 39))) (l 48)) (l 0x101000000000000)) ∷ A ∷ A ∷ A ∷ A ∷ A ∷ A ∷ A ∷ v 32 ∷ l 40 ∷ A ∷ v 32 ∷ v 42 ∷ l 124 ∷ A ∷ A ∷ A ∷ A ∷ A ∷ A ∷ l 0x101000000000000 ∷ l 0x80008100 ∷ []) csrs_2 cells_3 ([]) 1 true ∷
    b 2050 0x80000520 (l 0 ∷ l 0x8000050c ∷ l 0x8000040c ∷ A ∷ A ∷ v 40 ∷ A ∷ A ∷ A ∷ A ∷ (Bin op.Add (Bin op.Add (Bin op.Add (Bin op.And (Bin op.Srl (v 32) (l 40)) (l 15)) (Bin op.And (Bin op.Add (Bin op.Sltu (Bin op.And (Bin op.Srl (v 32) (l 40)) (l 15)) (l 10)) (l 0xffffffffffffffff)) (l 39))) (l 48)) (l 0x101000000000000)) ∷ A ∷ A ∷ A ∷ A ∷ A ∷ A ∷ A ∷ v 32 ∷ l 40 ∷ A ∷ v 32 ∷ v 42 ∷ l 124 ∷ A ∷ A ∷ A ∷ A ∷ A ∷ A ∷ l 0x101000000000000 ∷ l 0x80008100 ∷ []) csrs_2 cells_3 ([]) 0 true ∷
    b 2051 0x80000524 (l 0 ∷ l 0x8000050c ∷ l 0x8000040c ∷ A ∷ A ∷ v 40 ∷ A ∷ A ∷ A ∷ A ∷ (Bin op.Add (Bin op.Add (Bin op.Add (Bin op.And (Bin op.Srl (v 32) (l 40)) (l 15)) (Bin op.And (Bin op.Add (Bin op.Sltu (Bin op.And (Bin op.Srl (v 32) (l 40)) (l 15)) (l 10)) (l 0xffffffffffffffff)) (l 39))) (l 48)) (l 0x101000000000000)) ∷ A ∷ A ∷ A ∷ A ∷ A ∷ A ∷ A ∷ v 32 ∷ l 40 ∷ A ∷ v 32 ∷ v 42 ∷ l 124 ∷ A ∷ A ∷ A ∷ A ∷ A ∷ A ∷ l 0x101000000000000 ∷ l 0x80008100 ∷ []) csrs_2 cells_3 ([]) 0 true ∷
    b 2052 0x8000050c (l 0 ∷ l 0x8000050c ∷ l 0x8000040c ∷ A ∷ A ∷ v 40 ∷ A ∷ A ∷ A ∷ A ∷ (Bin op.Add (Bin op.Add (Bin op.Add (Bin op.And (Bin op.Srl (v 32) (l 40)) (l 15)) (Bin op.And (Bin op.Add (Bin op.Sltu (Bin op.And (Bin op.Srl (v 32) (l 40)) (l 15)) (l 10)) (l 0xffffffffffffffff)) (l 39))) (l 48)) (l 0x101000000000000)) ∷ A ∷ A ∷ A ∷ A ∷ A ∷ A ∷ A ∷ v 32 ∷ l 40 ∷ A ∷ v 32 ∷ v 42 ∷ l 124 ∷ A ∷ A ∷ A ∷ A ∷ A ∷ A ∷ l 0x101000000000000 ∷ l 0x80008100 ∷ []) csrs_2 cells_3 ([]) 10 true ∷
    b 2052 0x80000518 (l 0 ∷ l 0x8000050c ∷ l 0x8000040c ∷ A ∷ A ∷ v 40 ∷ A ∷ A ∷ A ∷ A ∷ (Bin op.Add (Bin op.Add (Bin op.Add (Bin op.And (Bin op.Srl (v 32) (l 36)) (l 15)) (Bin op.And (Bin op.Add (Bin op.Sltu (Bin op.And (Bin op.Srl (v 32) (l 36)) (l 15)) (l 10)) (l 0xffffffffffffffff)) (l 39))) (l 48)) (l 0x101000000000000)) ∷ A ∷ A ∷ A ∷ A ∷ A ∷ A ∷ A ∷ v 32 ∷ l 36 ∷ A ∷ v 32 ∷ v 42 ∷ l 124 ∷ A ∷ A ∷ A ∷ A ∷ A ∷ A ∷ l 0x101000000000000 ∷ l 0x80008100 ∷ []) csrs_2 cells_3 ([]) 1 true ∷
    b 2052 0x80000520 (l 0 ∷ l 0x8000050c ∷ l 0x8000040c ∷ A ∷ A ∷ v 40 ∷ A ∷ A ∷ A ∷ A ∷ (Bin op.Add (Bin op.Add (Bin op.Add (Bin op.And (Bin op.Srl (v 32) (l 36)) (l 15)) (Bin op.And (Bin op.Add (Bin op.Sltu (Bin op.And (Bin op.Srl (v 32) (l 36)) (l 15)) (l 10)) (l 0xffffffffffffffff)) (l 39))) (l 48)) (l 0x101000000000000)) ∷ A ∷ A ∷ A ∷ A ∷ A ∷ A ∷ A ∷ v 32 ∷ l 36 ∷ A ∷ v 32 ∷ v 42 ∷ l 124 ∷ A ∷ A ∷ A ∷ A ∷ A ∷ A ∷ l 0x101000000000000 ∷ l 0x80008100 ∷ []) csrs_2 cells_3 ([]) 0 true ∷
    b 2053 0x80000524 (l 0 ∷ l 0x8000050c ∷ l 0x8000040c ∷ A ∷ A ∷ v 40 ∷ A ∷ A ∷ A ∷ A ∷ (Bin op.Add (Bin op.Add (Bin op.Add (Bin op.And (Bin op.Srl (v 32) (l 36)) (l 15)) (Bin op.And (Bin op.Add (Bin op.Sltu (Bin op.And (Bin op.Srl (v 32) (l 36)) (l 15)) (l 10)) (l 0xffffffffffffffff)) (l 39))) (l 48)) (l 0x101000000000000)) ∷ A ∷ A ∷ A ∷ A ∷ A ∷ A ∷ A ∷ v 32 ∷ l 36 ∷ A ∷ v 32 ∷ v 42 ∷ l 124 ∷ A ∷ A ∷ A ∷ A ∷ A ∷ A ∷ l 0x101000000000000 ∷ l 0x80008100 ∷ []) csrs_2 cells_3 ([]) 0 true ∷
    b 2054 0x8000050c (l 0 ∷ l 0x8000050c ∷ l 0x8000040c ∷ A ∷ A ∷ v 40 ∷ A ∷ A ∷ A ∷ A ∷ (Bin op.Add (Bin op.Add (Bin op.Add (Bin op.And (Bin op.Srl (v 32) (l 36)) (l 15)) (Bin op.And (Bin op.Add (Bin op.Sltu (Bin op.And (Bin op.Srl (v 32) (l 36)) (l 15)) (l 10)) (l 0xffffffffffffffff)) (l 39))) (l 48)) (l 0x101000000000000)) ∷ A ∷ A ∷ A ∷ A ∷ A ∷ A ∷ A ∷ v 32 ∷ l 36 ∷ A ∷ v 32 ∷ v 42 ∷ l 124 ∷ A ∷ A ∷ A ∷ A ∷ A ∷ A ∷ l 0x101000000000000 ∷ l 0x80008100 ∷ []) csrs_2 cells_3 ([]) 10 true ∷
    b 2054 0x80000518 (l 0 ∷ l 0x8000050c ∷ l 0x8000040c ∷ A ∷ A ∷ v 40 ∷ A ∷ A ∷ A ∷ A ∷ (Bin op.Add (Bin op.Add (Bin op.Add (Bin op.And (Bin op.Srl (v 32) (l 32)) (l 15)) (Bin op.And (Bin op.Add (Bin op.Sltu (Bin op.And (Bin op.Srl (v 32) (l 32)) (l 15)) (l 10)) (l 0xffffffffffffffff)) (l 39))) (l 48)) (l 0x101000000000000)) ∷ A ∷ A ∷ A ∷ A ∷ A ∷ A ∷ A ∷ v 32 ∷ l 32 ∷ A ∷ v 32 ∷ v 42 ∷ l 124 ∷ A ∷ A ∷ A ∷ A ∷ A ∷ A ∷ l 0x101000000000000 ∷ l 0x80008100 ∷ []) csrs_2 cells_3 ([]) 1 true ∷
    b 2054 0x80000520 (l 0 ∷ l 0x8000050c ∷ l 0x8000040c ∷ A ∷ A ∷ v 40 ∷ A ∷ A ∷ A ∷ A ∷ (Bin op.Add (Bin op.Add (Bin op.Add (Bin op.And (Bin op.Srl (v 32) (l 32)) (l 15)) (Bin op.And (Bin op.Add (Bin op.Sltu (Bin op.And (Bin op.Srl (v 32) (l 32)) (l 15)) (l 10)) (l 0xffffffffffffffff)) (l 39))) (l 48)) (l 0x101000000000000)) ∷ A ∷ A ∷ A ∷ A ∷ A ∷ A ∷ A ∷ v 32 ∷ l 32 ∷ A ∷ v 32 ∷ v 42 ∷ l 124 ∷ A ∷ A ∷ A ∷ A ∷ A ∷ A ∷ l 0x101000000000000 ∷ l 0x80008100 ∷ []) csrs_2 cells_3 ([]) 0 true ∷
    b 2055 0x80000524 (l 0 ∷ l 0x8000050c ∷ l 0x8000040c ∷ A ∷ A ∷ v 40 ∷ A ∷ A ∷ A ∷ A ∷ (Bin op.Add (Bin op.Add (Bin op.Add (Bin op.And (Bin op.Srl (v 32) (l 32)) (l 15)) (Bin op.And (Bin op.Add (Bin op.Sltu (Bin op.And (Bin op.Srl (v 32) (l 32)) (l 15)) (l 10)) (l 0xffffffffffffffff)) (l 39))) (l 48)) (l 0x101000000000000)) ∷ A ∷ A ∷ A ∷ A ∷ A ∷ A ∷ A ∷ v 32 ∷ l 32 ∷ A ∷ v 32 ∷ v 42 ∷ l 124 ∷ A ∷ A ∷ A ∷ A ∷ A ∷ A ∷ l 0x101000000000000 ∷ l 0x80008100 ∷ []) csrs_2 cells_3 ([]) 0 true ∷
    b 2056 0x8000050c (l 0 ∷ l 0x8000050c ∷ l 0x8000040c ∷ A ∷ A ∷ v 40 ∷ A ∷ A ∷ A ∷ A ∷ (Bin op.Add (Bin op.Add (Bin op.Add (Bin op.And (Bin op.Srl (v 32) (l 32)) (l 15)) (Bin op.And (Bin op.Add (Bin op.Sltu (Bin op.And (Bin op.Srl (v 32) (l 32)) (l 15)) (l 10)) (l 0xffffffffffffffff)) (l 39))) (l 48)) (l 0x101000000000000)) ∷ A ∷ A ∷ A ∷ A ∷ A ∷ A ∷ A ∷ v 32 ∷ l 32 ∷ A ∷ v 32 ∷ v 42 ∷ l 124 ∷ A ∷ A ∷ A ∷ A ∷ A ∷ A ∷ l 0x101000000000000 ∷ l 0x80008100 ∷ []) csrs_2 cells_3 ([]) 10 true ∷
    b 2056 0x80000518 (l 0 ∷ l 0x8000050c ∷ l 0x8000040c ∷ A ∷ A ∷ v 40 ∷ A ∷ A ∷ A ∷ A ∷ (Bin op.Add (Bin op.Add (Bin op.Add (Bin op.And (Bin op.Srl (v 32) (l 28)) (l 15)) (Bin op.And (Bin op.Add (Bin op.Sltu (Bin op.And (Bin op.Srl (v 32) (l 28)) (l 15)) (l 10)) (l 0xffffffffffffffff)) (l 39))) (l 48)) (l 0x101000000000000)) ∷ A ∷ A ∷ A ∷ A ∷ A ∷ A ∷ A ∷ v 32 ∷ l 28 ∷ A ∷ v 32 ∷ v 42 ∷ l 124 ∷ A ∷ A ∷ A ∷ A ∷ A ∷ A ∷ l 0x101000000000000 ∷ l 0x80008100 ∷ []) csrs_2 cells_3 ([]) 1 true ∷
    b 2056 0x80000520 (l 0 ∷ l 0x8000050c ∷ l 0x8000040c ∷ A ∷ A ∷ v 40 ∷ A ∷ A ∷ A ∷ A ∷ (Bin op.Add (Bin op.Add (Bin op.Add (Bin op.And (Bin op.Srl (v 32) (l 28)) (l 15)) (Bin op.And (Bin op.Add (Bin op.Sltu (Bin op.And (Bin op.Srl (v 32) (l 28)) (l 15)) (l 10)) (l 0xffffffffffffffff)) (l 39))) (l 48)) (l 0x101000000000000)) ∷ A ∷ A ∷ A ∷ A ∷ A ∷ A ∷ A ∷ v 32 ∷ l 28 ∷ A ∷ v 32 ∷ v 42 ∷ l 124 ∷ A ∷ A ∷ A ∷ A ∷ A ∷ A ∷ l 0x101000000000000 ∷ l 0x80008100 ∷ []) csrs_2 cells_3 ([]) 0 true ∷
    b 2057 0x80000524 (l 0 ∷ l 0x8000050c ∷ l 0x8000040c ∷ A ∷ A ∷ v 40 ∷ A ∷ A ∷ A ∷ A ∷ (Bin op.Add (Bin op.Add (Bin op.Add (Bin op.And (Bin op.Srl (v 32) (l 28)) (l 15)) (Bin op.And (Bin op.Add (Bin op.Sltu (Bin op.And (Bin op.Srl (v 32) (l 28)) (l 15)) (l 10)) (l 0xffffffffffffffff)) (l 39))) (l 48)) (l 0x101000000000000)) ∷ A ∷ A ∷ A ∷ A ∷ A ∷ A ∷ A ∷ v 32 ∷ l 28 ∷ A ∷ v 32 ∷ v 42 ∷ l 124 ∷ A ∷ A ∷ A ∷ A ∷ A ∷ A ∷ l 0x101000000000000 ∷ l 0x80008100 ∷ []) csrs_2 cells_3 ([]) 0 true ∷
    b 2058 0x8000050c (l 0 ∷ l 0x8000050c ∷ l 0x8000040c ∷ A ∷ A ∷ v 40 ∷ A ∷ A ∷ A ∷ A ∷ (Bin op.Add (Bin op.Add (Bin op.Add (Bin op.And (Bin op.Srl (v 32) (l 28)) (l 15)) (Bin op.And (Bin op.Add (Bin op.Sltu (Bin op.And (Bin op.Srl (v 32) (l 28)) (l 15)) (l 10)) (l 0xffffffffffffffff)) (l 39))) (l 48)) (l 0x101000000000000)) ∷ A ∷ A ∷ A ∷ A ∷ A ∷ A ∷ A ∷ v 32 ∷ l 28 ∷ A ∷ v 32 ∷ v 42 ∷ l 124 ∷ A ∷ A ∷ A ∷ A ∷ A ∷ A ∷ l 0x101000000000000 ∷ l 0x80008100 ∷ []) csrs_2 cells_3 ([]) 10 true ∷
    b 2058 0x80000518 (l 0 ∷ l 0x8000050c ∷ l 0x8000040c ∷ A ∷ A ∷ v 40 ∷ A ∷ A ∷ A ∷ A ∷ (Bin op.Add (Bin op.Add (Bin op.Add (Bin op.And (Bin op.Srl (v 32) (l 24)) (l 15)) (Bin op.And (Bin op.Add (Bin op.Sltu (Bin op.And (Bin op.Srl (v 32) (l 24)) (l 15)) (l 10)) (l 0xffffffffffffffff)) (l 39))) (l 48)) (l 0x101000000000000)) ∷ A ∷ A ∷ A ∷ A ∷ A ∷ A ∷ A ∷ v 32 ∷ l 24 ∷ A ∷ v 32 ∷ v 42 ∷ l 124 ∷ A ∷ A ∷ A ∷ A ∷ A ∷ A ∷ l 0x101000000000000 ∷ l 0x80008100 ∷ []) csrs_2 cells_3 ([]) 1 true ∷
    b 2058 0x80000520 (l 0 ∷ l 0x8000050c ∷ l 0x8000040c ∷ A ∷ A ∷ v 40 ∷ A ∷ A ∷ A ∷ A ∷ (Bin op.Add (Bin op.Add (Bin op.Add (Bin op.And (Bin op.Srl (v 32) (l 24)) (l 15)) (Bin op.And (Bin op.Add (Bin op.Sltu (Bin op.And (Bin op.Srl (v 32) (l 24)) (l 15)) (l 10)) (l 0xffffffffffffffff)) (l 39))) (l 48)) (l 0x101000000000000)) ∷ A ∷ A ∷ A ∷ A ∷ A ∷ A ∷ A ∷ v 32 ∷ l 24 ∷ A ∷ v 32 ∷ v 42 ∷ l 124 ∷ A ∷ A ∷ A ∷ A ∷ A ∷ A ∷ l 0x101000000000000 ∷ l 0x80008100 ∷ []) csrs_2 cells_3 ([]) 0 true ∷
    b 2059 0x80000524 (l 0 ∷ l 0x8000050c ∷ l 0x8000040c ∷ A ∷ A ∷ v 40 ∷ A ∷ A ∷ A ∷ A ∷ (Bin op.Add (Bin op.Add (Bin op.Add (Bin op.And (Bin op.Srl (v 32) (l 24)) (l 15)) (Bin op.And (Bin op.Add (Bin op.Sltu (Bin op.And (Bin op.Srl (v 32) (l 24)) (l 15)) (l 10)) (l 0xffffffffffffffff)) (l 39))) (l 48)) (l 0x101000000000000)) ∷ A ∷ A ∷ A ∷ A ∷ A ∷ A ∷ A ∷ v 32 ∷ l 24 ∷ A ∷ v 32 ∷ v 42 ∷ l 124 ∷ A ∷ A ∷ A ∷ A ∷ A ∷ A ∷ l 0x101000000000000 ∷ l 0x80008100 ∷ []) csrs_2 cells_3 ([]) 0 true ∷
    b 2060 0x8000050c (l 0 ∷ l 0x8000050c ∷ l 0x8000040c ∷ A ∷ A ∷ v 40 ∷ A ∷ A ∷ A ∷ A ∷ (Bin op.Add (Bin op.Add (Bin op.Add (Bin op.And (Bin op.Srl (v 32) (l 24)) (l 15)) (Bin op.And (Bin op.Add (Bin op.Sltu (Bin op.And (Bin op.Srl (v 32) (l 24)) (l 15)) (l 10)) (l 0xffffffffffffffff)) (l 39))) (l 48)) (l 0x101000000000000)) ∷ A ∷ A ∷ A ∷ A ∷ A ∷ A ∷ A ∷ v 32 ∷ l 24 ∷ A ∷ v 32 ∷ v 42 ∷ l 124 ∷ A ∷ A ∷ A ∷ A ∷ A ∷ A ∷ l 0x101000000000000 ∷ l 0x80008100 ∷ []) csrs_2 cells_3 ([]) 10 true ∷
    b 2060 0x80000518 (l 0 ∷ l 0x8000050c ∷ l 0x8000040c ∷ A ∷ A ∷ v 40 ∷ A ∷ A ∷ A ∷ A ∷ (Bin op.Add (Bin op.Add (Bin op.Add (Bin op.And (Bin op.Srl (v 32) (l 20)) (l 15)) (Bin op.And (Bin op.Add (Bin op.Sltu (Bin op.And (Bin op.Srl (v 32) (l 20)) (l 15)) (l 10)) (l 0xffffffffffffffff)) (l 39))) (l 48)) (l 0x101000000000000)) ∷ A ∷ A ∷ A ∷ A ∷ A ∷ A ∷ A ∷ v 32 ∷ l 20 ∷ A ∷ v 32 ∷ v 42 ∷ l 124 ∷ A ∷ A ∷ A ∷ A ∷ A ∷ A ∷ l 0x101000000000000 ∷ l 0x80008100 ∷ []) csrs_2 cells_3 ([]) 1 true ∷
    b 2060 0x80000520 (l 0 ∷ l 0x8000050c ∷ l 0x8000040c ∷ A ∷ A ∷ v 40 ∷ A ∷ A ∷ A ∷ A ∷ (Bin op.Add (Bin op.Add (Bin op.Add (Bin op.And (Bin op.Srl (v 32) (l 20)) (l 15)) (Bin op.And (Bin op.Add (Bin op.Sltu (Bin op.And (Bin op.Srl (v 32) (l 20)) (l 15)) (l 10)) (l 0xffffffffffffffff)) (l 39))) (l 48)) (l 0x101000000000000)) ∷ A ∷ A ∷ A ∷ A ∷ A ∷ A ∷ A ∷ v 32 ∷ l 20 ∷ A ∷ v 32 ∷ v 42 ∷ l 124 ∷ A ∷ A ∷ A ∷ A ∷ A ∷ A ∷ l 0x101000000000000 ∷ l 0x80008100 ∷ []) csrs_2 cells_3 ([]) 0 true ∷
    b 2061 0x80000524 (l 0 ∷ l 0x8000050c ∷ l 0x8000040c ∷ A ∷ A ∷ v 40 ∷ A ∷ A ∷ A ∷ A ∷ (Bin op.Add (Bin op.Add (Bin op.Add (Bin op.And (Bin op.Srl (v 32) (l 20)) (l 15)) (Bin op.And (Bin op.Add (Bin op.Sltu (Bin op.And (Bin op.Srl (v 32) (l 20)) (l 15)) (l 10)) (l 0xffffffffffffffff)) (l 39))) (l 48)) (l 0x101000000000000)) ∷ A ∷ A ∷ A ∷ A ∷ A ∷ A ∷ A ∷ v 32 ∷ l 20 ∷ A ∷ v 32 ∷ v 42 ∷ l 124 ∷ A ∷ A ∷ A ∷ A ∷ A ∷ A ∷ l 0x101000000000000 ∷ l 0x80008100 ∷ []) csrs_2 cells_3 ([]) 0 true ∷
    b 2062 0x8000050c (l 0 ∷ l 0x8000050c ∷ l 0x8000040c ∷ A ∷ A ∷ v 40 ∷ A ∷ A ∷ A ∷ A ∷ (Bin op.Add (Bin op.Add (Bin op.Add (Bin op.And (Bin op.Srl (v 32) (l 20)) (l 15)) (Bin op.And (Bin op.Add (Bin op.Sltu (Bin op.And (Bin op.Srl (v 32) (l 20)) (l 15)) (l 10)) (l 0xffffffffffffffff)) (l 39))) (l 48)) (l 0x101000000000000)) ∷ A ∷ A ∷ A ∷ A ∷ A ∷ A ∷ A ∷ v 32 ∷ l 20 ∷ A ∷ v 32 ∷ v 42 ∷ l 124 ∷ A ∷ A ∷ A ∷ A ∷ A ∷ A ∷ l 0x101000000000000 ∷ l 0x80008100 ∷ []) csrs_2 cells_3 ([]) 10 true ∷
    b 2062 0x80000518 (l 0 ∷ l 0x8000050c ∷ l 0x8000040c ∷ A ∷ A ∷ v 40 ∷ A ∷ A ∷ A ∷ A ∷ (Bin op.Add (Bin op.Add (Bin op.Add (Bin op.And (Bin op.Srl (v 32) (l 16)) (l 15)) (Bin op.And (Bin op.Add (Bin op.Sltu (Bin op.And (Bin op.Srl (v 32) (l 16)) (l 15)) (l 10)) (l 0xffffffffffffffff)) (l 39))) (l 48)) (l 0x101000000000000)) ∷ A ∷ A ∷ A ∷ A ∷ A ∷ A ∷ A ∷ v 32 ∷ l 16 ∷ A ∷ v 32 ∷ v 42 ∷ l 124 ∷ A ∷ A ∷ A ∷ A ∷ A ∷ A ∷ l 0x101000000000000 ∷ l 0x80008100 ∷ []) csrs_2 cells_3 ([]) 1 true ∷
    b 2062 0x80000520 (l 0 ∷ l 0x8000050c ∷ l 0x8000040c ∷ A ∷ A ∷ v 40 ∷ A ∷ A ∷ A ∷ A ∷ (Bin op.Add (Bin op.Add (Bin op.Add (Bin op.And (Bin op.Srl (v 32) (l 16)) (l 15)) (Bin op.And (Bin op.Add (Bin op.Sltu (Bin op.And (Bin op.Srl (v 32) (l 16)) (l 15)) (l 10)) (l 0xffffffffffffffff)) (l 39))) (l 48)) (l 0x101000000000000)) ∷ A ∷ A ∷ A ∷ A ∷ A ∷ A ∷ A ∷ v 32 ∷ l 16 ∷ A ∷ v 32 ∷ v 42 ∷ l 124 ∷ A ∷ A ∷ A ∷ A ∷ A ∷ A ∷ l 0x101000000000000 ∷ l 0x80008100 ∷ []) csrs_2 cells_3 ([]) 0 true ∷
    b 2063 0x80000524 (l 0 ∷ l 0x8000050c ∷ l 0x8000040c ∷ A ∷ A ∷ v 40 ∷ A ∷ A ∷ A ∷ A ∷ (Bin op.Add (Bin op.Add (Bin op.Add (Bin op.And (Bin op.Srl (v 32) (l 16)) (l 15)) (Bin op.And (Bin op.Add (Bin op.Sltu (Bin op.And (Bin op.Srl (v 32) (l 16)) (l 15)) (l 10)) (l 0xffffffffffffffff)) (l 39))) (l 48)) (l 0x101000000000000)) ∷ A ∷ A ∷ A ∷ A ∷ A ∷ A ∷ A ∷ v 32 ∷ l 16 ∷ A ∷ v 32 ∷ v 42 ∷ l 124 ∷ A ∷ A ∷ A ∷ A ∷ A ∷ A ∷ l 0x101000000000000 ∷ l 0x80008100 ∷ []) csrs_2 cells_3 ([]) 0 true ∷
    b 2064 0x8000050c (l 0 ∷ l 0x8000050c ∷ l 0x8000040c ∷ A ∷ A ∷ v 40 ∷ A ∷ A ∷ A ∷ A ∷ (Bin op.Add (Bin op.Add (Bin op.Add (Bin op.And (Bin op.Srl (v 32) (l 16)) (l 15)) (Bin op.And (Bin op.Add (Bin op.Sltu (Bin op.And (Bin op.Srl (v 32) (l 16)) (l 15)) (l 10)) (l 0xffffffffffffffff)) (l 39))) (l 48)) (l 0x101000000000000)) ∷ A ∷ A ∷ A ∷ A ∷ A ∷ A ∷ A ∷ v 32 ∷ l 16 ∷ A ∷ v 32 ∷ v 42 ∷ l 124 ∷ A ∷ A ∷ A ∷ A ∷ A ∷ A ∷ l 0x101000000000000 ∷ l 0x80008100 ∷ []) csrs_2 cells_3 ([]) 10 true ∷
    b 2064 0x80000518 (l 0 ∷ l 0x8000050c ∷ l 0x8000040c ∷ A ∷ A ∷ v 40 ∷ A ∷ A ∷ A ∷ A ∷ (Bin op.Add (Bin op.Add (Bin op.Add (Bin op.And (Bin op.Srl (v 32) (l 12)) (l 15)) (Bin op.And (Bin op.Add (Bin op.Sltu (Bin op.And (Bin op.Srl (v 32) (l 12)) (l 15)) (l 10)) (l 0xffffffffffffffff)) (l 39))) (l 48)) (l 0x101000000000000)) ∷ A ∷ A ∷ A ∷ A ∷ A ∷ A ∷ A ∷ v 32 ∷ l 12 ∷ A ∷ v 32 ∷ v 42 ∷ l 124 ∷ A ∷ A ∷ A ∷ A ∷ A ∷ A ∷ l 0x101000000000000 ∷ l 0x80008100 ∷ []) csrs_2 cells_3 ([]) 1 true ∷
    b 2064 0x80000520 (l 0 ∷ l 0x8000050c ∷ l 0x8000040c ∷ A ∷ A ∷ v 40 ∷ A ∷ A ∷ A ∷ A ∷ (Bin op.Add (Bin op.Add (Bin op.Add (Bin op.And (Bin op.Srl (v 32) (l 12)) (l 15)) (Bin op.And (Bin op.Add (Bin op.Sltu (Bin op.And (Bin op.Srl (v 32) (l 12)) (l 15)) (l 10)) (l 0xffffffffffffffff)) (l 39))) (l 48)) (l 0x101000000000000)) ∷ A ∷ A ∷ A ∷ A ∷ A ∷ A ∷ A ∷ v 32 ∷ l 12 ∷ A ∷ v 32 ∷ v 42 ∷ l 124 ∷ A ∷ A ∷ A ∷ A ∷ A ∷ A ∷ l 0x101000000000000 ∷ l 0x80008100 ∷ []) csrs_2 cells_3 ([]) 0 true ∷
    b 2065 0x80000524 (l 0 ∷ l 0x8000050c ∷ l 0x8000040c ∷ A ∷ A ∷ v 40 ∷ A ∷ A ∷ A ∷ A ∷ (Bin op.Add (Bin op.Add (Bin op.Add (Bin op.And (Bin op.Srl (v 32) (l 12)) (l 15)) (Bin op.And (Bin op.Add (Bin op.Sltu (Bin op.And (Bin op.Srl (v 32) (l 12)) (l 15)) (l 10)) (l 0xffffffffffffffff)) (l 39))) (l 48)) (l 0x101000000000000)) ∷ A ∷ A ∷ A ∷ A ∷ A ∷ A ∷ A ∷ v 32 ∷ l 12 ∷ A ∷ v 32 ∷ v 42 ∷ l 124 ∷ A ∷ A ∷ A ∷ A ∷ A ∷ A ∷ l 0x101000000000000 ∷ l 0x80008100 ∷ []) csrs_2 cells_3 ([]) 0 true ∷
    b 2066 0x8000050c (l 0 ∷ l 0x8000050c ∷ l 0x8000040c ∷ A ∷ A ∷ v 40 ∷ A ∷ A ∷ A ∷ A ∷ (Bin op.Add (Bin op.Add (Bin op.Add (Bin op.And (Bin op.Srl (v 32) (l 12)) (l 15)) (Bin op.And (Bin op.Add (Bin op.Sltu (Bin op.And (Bin op.Srl (v 32) (l 12)) (l 15)) (l 10)) (l 0xffffffffffffffff)) (l 39))) (l 48)) (l 0x101000000000000)) ∷ A ∷ A ∷ A ∷ A ∷ A ∷ A ∷ A ∷ v 32 ∷ l 12 ∷ A ∷ v 32 ∷ v 42 ∷ l 124 ∷ A ∷ A ∷ A ∷ A ∷ A ∷ A ∷ l 0x101000000000000 ∷ l 0x80008100 ∷ []) csrs_2 cells_3 ([]) 10 true ∷
    b 2066 0x80000518 (l 0 ∷ l 0x8000050c ∷ l 0x8000040c ∷ A ∷ A ∷ v 40 ∷ A ∷ A ∷ A ∷ A ∷ (Bin op.Add (Bin op.Add (Bin op.Add (Bin op.And (Bin op.Srl (v 32) (l 8)) (l 15)) (Bin op.And (Bin op.Add (Bin op.Sltu (Bin op.And (Bin op.Srl (v 32) (l 8)) (l 15)) (l 10)) (l 0xffffffffffffffff)) (l 39))) (l 48)) (l 0x101000000000000)) ∷ A ∷ A ∷ A ∷ A ∷ A ∷ A ∷ A ∷ v 32 ∷ l 8 ∷ A ∷ v 32 ∷ v 42 ∷ l 124 ∷ A ∷ A ∷ A ∷ A ∷ A ∷ A ∷ l 0x101000000000000 ∷ l 0x80008100 ∷ []) csrs_2 cells_3 ([]) 1 true ∷
    b 2066 0x80000520 (l 0 ∷ l 0x8000050c ∷ l 0x8000040c ∷ A ∷ A ∷ v 40 ∷ A ∷ A ∷ A ∷ A ∷ (Bin op.Add (Bin op.Add (Bin op.Add (Bin op.And (Bin op.Srl (v 32) (l 8)) (l 15)) (Bin op.And (Bin op.Add (Bin op.Sltu (Bin op.And (Bin op.Srl (v 32) (l 8)) (l 15)) (l 10)) (l 0xffffffffffffffff)) (l 39))) (l 48)) (l 0x101000000000000)) ∷ A ∷ A ∷ A ∷ A ∷ A ∷ A ∷ A ∷ v 32 ∷ l 8 ∷ A ∷ v 32 ∷ v 42 ∷ l 124 ∷ A ∷ A ∷ A ∷ A ∷ A ∷ A ∷ l 0x101000000000000 ∷ l 0x80008100 ∷ []) csrs_2 cells_3 ([]) 0 true ∷
    b 2067 0x80000524 (l 0 ∷ l 0x8000050c ∷ l 0x8000040c ∷ A ∷ A ∷ v 40 ∷ A ∷ A ∷ A ∷ A ∷ (Bin op.Add (Bin op.Add (Bin op.Add (Bin op.And (Bin op.Srl (v 32) (l 8)) (l 15)) (Bin op.And (Bin op.Add (Bin op.Sltu (Bin op.And (Bin op.Srl (v 32) (l 8)) (l 15)) (l 10)) (l 0xffffffffffffffff)) (l 39))) (l 48)) (l 0x101000000000000)) ∷ A ∷ A ∷ A ∷ A ∷ A ∷ A ∷ A ∷ v 32 ∷ l 8 ∷ A ∷ v 32 ∷ v 42 ∷ l 124 ∷ A ∷ A ∷ A ∷ A ∷ A ∷ A ∷ l 0x101000000000000 ∷ l 0x80008100 ∷ []) csrs_2 cells_3 ([]) 0 true ∷
    b 2068 0x8000050c (l 0 ∷ l 0x8000050c ∷ l 0x8000040c ∷ A ∷ A ∷ v 40 ∷ A ∷ A ∷ A ∷ A ∷ (Bin op.Add (Bin op.Add (Bin op.Add (Bin op.And (Bin op.Srl (v 32) (l 8)) (l 15)) (Bin op.And (Bin op.Add (Bin op.Sltu (Bin op.And (Bin op.Srl (v 32) (l 8)) (l 15)) (l 10)) (l 0xffffffffffffffff)) (l 39))) (l 48)) (l 0x101000000000000)) ∷ A ∷ A ∷ A ∷ A ∷ A ∷ A ∷ A ∷ v 32 ∷ l 8 ∷ A ∷ v 32 ∷ v 42 ∷ l 124 ∷ A ∷ A ∷ A ∷ A ∷ A ∷ A ∷ l 0x101000000000000 ∷ l 0x80008100 ∷ []) csrs_2 cells_3 ([]) 10 true ∷
    b 2068 0x80000518 (l 0 ∷ l 0x8000050c ∷ l 0x8000040c ∷ A ∷ A ∷ v 40 ∷ A ∷ A ∷ A ∷ A ∷ (Bin op.Add (Bin op.Add (Bin op.Add (Bin op.And (Bin op.Srl (v 32) (l 4)) (l 15)) (Bin op.And (Bin op.Add (Bin op.Sltu (Bin op.And (Bin op.Srl (v 32) (l 4)) (l 15)) (l 10)) (l 0xffffffffffffffff)) (l 39))) (l 48)) (l 0x101000000000000)) ∷ A ∷ A ∷ A ∷ A ∷ A ∷ A ∷ A ∷ v 32 ∷ l 4 ∷ A ∷ v 32 ∷ v 42 ∷ l 124 ∷ A ∷ A ∷ A ∷ A ∷ A ∷ A ∷ l 0x101000000000000 ∷ l 0x80008100 ∷ []) csrs_2 cells_3 ([]) 1 true ∷
    b 2068 0x80000520 (l 0 ∷ l 0x8000050c ∷ l 0x8000040c ∷ A ∷ A ∷ v 40 ∷ A ∷ A ∷ A ∷ A ∷ (Bin op.Add (Bin op.Add (Bin op.Add (Bin op.And (Bin op.Srl (v 32) (l 4)) (l 15)) (Bin op.And (Bin op.Add (Bin op.Sltu (Bin op.And (Bin op.Srl (v 32) (l 4)) (l 15)) (l 10)) (l 0xffffffffffffffff)) (l 39))) (l 48)) (l 0x101000000000000)) ∷ A ∷ A ∷ A ∷ A ∷ A ∷ A ∷ A ∷ v 32 ∷ l 4 ∷ A ∷ v 32 ∷ v 42 ∷ l 124 ∷ A ∷ A ∷ A ∷ A ∷ A ∷ A ∷ l 0x101000000000000 ∷ l 0x80008100 ∷ []) csrs_2 cells_3 ([]) 0 true ∷
    b 2069 0x80000524 (l 0 ∷ l 0x8000050c ∷ l 0x8000040c ∷ A ∷ A ∷ v 40 ∷ A ∷ A ∷ A ∷ A ∷ (Bin op.Add (Bin op.Add (Bin op.Add (Bin op.And (Bin op.Srl (v 32) (l 4)) (l 15)) (Bin op.And (Bin op.Add (Bin op.Sltu (Bin op.And (Bin op.Srl (v 32) (l 4)) (l 15)) (l 10)) (l 0xffffffffffffffff)) (l 39))) (l 48)) (l 0x101000000000000)) ∷ A ∷ A ∷ A ∷ A ∷ A ∷ A ∷ A ∷ v 32 ∷ l 4 ∷ A ∷ v 32 ∷ v 42 ∷ l 124 ∷ A ∷ A ∷ A ∷ A ∷ A ∷ A ∷ l 0x101000000000000 ∷ l 0x80008100 ∷ []) csrs_2 cells_3 ([]) 0 true ∷
    b 2070 0x8000050c (l 0 ∷ l 0x8000050c ∷ l 0x8000040c ∷ A ∷ A ∷ v 40 ∷ A ∷ A ∷ A ∷ A ∷ (Bin op.Add (Bin op.Add (Bin op.Add (Bin op.And (Bin op.Srl (v 32) (l 4)) (l 15)) (Bin op.And (Bin op.Add (Bin op.Sltu (Bin op.And (Bin op.Srl (v 32) (l 4)) (l 15)) (l 10)) (l 0xffffffffffffffff)) (l 39))) (l 48)) (l 0x101000000000000)) ∷ A ∷ A ∷ A ∷ A ∷ A ∷ A ∷ A ∷ v 32 ∷ l 4 ∷ A ∷ v 32 ∷ v 42 ∷ l 124 ∷ A ∷ A ∷ A ∷ A ∷ A ∷ A ∷ l 0x101000000000000 ∷ l 0x80008100 ∷ []) csrs_2 cells_3 ([]) 10 true ∷
    b 2070 0x80000518 (l 0 ∷ l 0x8000050c ∷ l 0x8000040c ∷ A ∷ A ∷ v 40 ∷ A ∷ A ∷ A ∷ A ∷ (Bin op.Add (Bin op.Add (Bin op.Add (Bin op.And (Bin op.Srl (v 32) (l 0)) (l 15)) (Bin op.And (Bin op.Add (Bin op.Sltu (Bin op.And (Bin op.Srl (v 32) (l 0)) (l 15)) (l 10)) (l 0xffffffffffffffff)) (l 39))) (l 48)) (l 0x101000000000000)) ∷ A ∷ A ∷ A ∷ A ∷ A ∷ A ∷ A ∷ v 32 ∷ l 0 ∷ A ∷ v 32 ∷ v 42 ∷ l 124 ∷ A ∷ A ∷ A ∷ A ∷ A ∷ A ∷ l 0x101000000000000 ∷ l 0x80008100 ∷ []) csrs_2 cells_3 ([]) 1 true ∷
    b 2070 0x80000520 (l 0 ∷ l 0x8000050c ∷ l 0x8000040c ∷ A ∷ A ∷ v 40 ∷ A ∷ A ∷ A ∷ A ∷ (Bin op.Add (Bin op.Add (Bin op.Add (Bin op.And (Bin op.Srl (v 32) (l 0)) (l 15)) (Bin op.And (Bin op.Add (Bin op.Sltu (Bin op.And (Bin op.Srl (v 32) (l 0)) (l 15)) (l 10)) (l 0xffffffffffffffff)) (l 39))) (l 48)) (l 0x101000000000000)) ∷ A ∷ A ∷ A ∷ A ∷ A ∷ A ∷ A ∷ v 32 ∷ l 0 ∷ A ∷ v 32 ∷ v 42 ∷ l 124 ∷ A ∷ A ∷ A ∷ A ∷ A ∷ A ∷ l 0x101000000000000 ∷ l 0x80008100 ∷ []) csrs_2 cells_3 ([]) 0 true ∷
    b 2071 0x80000524 (l 0 ∷ l 0x8000050c ∷ l 0x8000040c ∷ A ∷ A ∷ v 40 ∷ A ∷ A ∷ A ∷ A ∷ (Bin op.Add (Bin op.Add (Bin op.Add (Bin op.And (Bin op.Srl (v 32) (l 0)) (l 15)) (Bin op.And (Bin op.Add (Bin op.Sltu (Bin op.And (Bin op.Srl (v 32) (l 0)) (l 15)) (l 10)) (l 0xffffffffffffffff)) (l 39))) (l 48)) (l 0x101000000000000)) ∷ A ∷ A ∷ A ∷ A ∷ A ∷ A ∷ A ∷ v 32 ∷ l 0 ∷ A ∷ v 32 ∷ v 42 ∷ l 124 ∷ A ∷ A ∷ A ∷ A ∷ A ∷ A ∷ l 0x101000000000000 ∷ l 0x80008100 ∷ []) csrs_2 cells_3 ([]) 0 true ∷
    b 2072 0x8000050c (l 0 ∷ l 0x8000050c ∷ l 0x8000040c ∷ A ∷ A ∷ v 40 ∷ A ∷ A ∷ A ∷ A ∷ (Bin op.Add (Bin op.Add (Bin op.Add (Bin op.And (Bin op.Srl (v 32) (l 0)) (l 15)) (Bin op.And (Bin op.Add (Bin op.Sltu (Bin op.And (Bin op.Srl (v 32) (l 0)) (l 15)) (l 10)) (l 0xffffffffffffffff)) (l 39))) (l 48)) (l 0x101000000000000)) ∷ A ∷ A ∷ A ∷ A ∷ A ∷ A ∷ A ∷ v 32 ∷ l 0 ∷ A ∷ v 32 ∷ v 42 ∷ l 124 ∷ A ∷ A ∷ A ∷ A ∷ A ∷ A ∷ l 0x101000000000000 ∷ l 0x80008100 ∷ []) csrs_2 cells_3 ([]) 5 true ∷
    b 2072 0x80000518 (l 0 ∷ l 0x800004e4 ∷ l 0x8000040c ∷ A ∷ A ∷ v 40 ∷ A ∷ A ∷ A ∷ A ∷ l 0x10100000000000a ∷ A ∷ A ∷ A ∷ A ∷ A ∷ A ∷ A ∷ v 32 ∷ l 0 ∷ A ∷ v 32 ∷ v 42 ∷ l 124 ∷ A ∷ A ∷ A ∷ A ∷ A ∷ A ∷ l 0x101000000000000 ∷ l 0x80008100 ∷ []) csrs_2 cells_3 ([]) 1 true ∷
    b 2072 0x80000520 (l 0 ∷ l 0x800004e4 ∷ l 0x8000040c ∷ A ∷ A ∷ v 40 ∷ A ∷ A ∷ A ∷ A ∷ l 0x10100000000000a ∷ A ∷ A ∷ A ∷ A ∷ A ∷ A ∷ A ∷ v 32 ∷ l 0 ∷ A ∷ v 32 ∷ v 42 ∷ l 124 ∷ A ∷ A ∷ A ∷ A ∷ A ∷ A ∷ l 0x101000000000000 ∷ l 0x80008100 ∷ []) csrs_2 cells_3 ([]) 0 true ∷
    b 2073 0x80000524 (l 0 ∷ l 0x800004e4 ∷ l 0x8000040c ∷ A ∷ A ∷ v 40 ∷ A ∷ A ∷ A ∷ A ∷ l 0x10100000000000a ∷ A ∷ A ∷ A ∷ A ∷ A ∷ A ∷ A ∷ v 32 ∷ l 0 ∷ A ∷ v 32 ∷ v 42 ∷ l 124 ∷ A ∷ A ∷ A ∷ A ∷ A ∷ A ∷ l 0x101000000000000 ∷ l 0x80008100 ∷ []) csrs_2 cells_3 ([]) 0 true ∷
    b counter_last_blocks 0x800004e4 (l 0 ∷ l 0x800004e4 ∷ l 0x8000040c ∷ A ∷ A ∷ v 40 ∷ A ∷ A ∷ A ∷ A ∷ l 0x10100000000000a ∷ A ∷ A ∷ A ∷ A ∷ A ∷ A ∷ A ∷ v 32 ∷ l 0 ∷ A ∷ v 32 ∷ v 42 ∷ l 124 ∷ A ∷ A ∷ A ∷ A ∷ A ∷ A ∷ l 0x101000000000000 ∷ l 0x80008100 ∷ []) csrs_2 cells_3 ([]) 0 true ∷
    b 6072 0x80000524 (l 0 ∷ l 0x800004e4 ∷ l 0x8000040c ∷ A ∷ A ∷ v 40 ∷ A ∷ A ∷ A ∷ A ∷ l 0x10100000000000a ∷ A ∷ A ∷ A ∷ A ∷ A ∷ A ∷ A ∷ v 32 ∷ l 0 ∷ A ∷ v 32 ∷ v 42 ∷ l 124 ∷ A ∷ A ∷ A ∷ A ∷ A ∷ A ∷ l 0x101000000000000 ∷ l 0x80008100 ∷ []) csrs_2 (set cells_3 0 (l 0x10100000000000a)) ([]) 0 false ∷
    b 6070 0x80000524 (l 0 ∷ l 0x8000050c ∷ l 0x8000040c ∷ A ∷ A ∷ v 40 ∷ A ∷ A ∷ A ∷ A ∷ (Bin op.Add (Bin op.Add (Bin op.Add (Bin op.And (Bin op.Srl (v 32) (l 0)) (l 15)) (Bin op.And (Bin op.Add (Bin op.Sltu (Bin op.And (Bin op.Srl (v 32) (l 0)) (l 15)) (l 10)) (l 0xffffffffffffffff)) (l 39))) (l 48)) (l 0x101000000000000)) ∷ A ∷ A ∷ A ∷ A ∷ A ∷ A ∷ A ∷ v 32 ∷ l 0 ∷ A ∷ v 32 ∷ v 42 ∷ l 124 ∷ A ∷ A ∷ A ∷ A ∷ A ∷ A ∷ l 0x101000000000000 ∷ l 0x80008100 ∷ []) csrs_2 (set cells_3 0 (Bin op.Add (Bin op.Add (Bin op.Add (Bin op.And (Bin op.Srl (v 32) (l 0)) (l 15)) (Bin op.And (Bin op.Add (Bin op.Sltu (Bin op.And (Bin op.Srl (v 32) (l 0)) (l 15)) (l 10)) (l 0xffffffffffffffff)) (l 39))) (l 48)) (l 0x101000000000000))) ([]) 0 false ∷
    b 6068 0x80000524 (l 0 ∷ l 0x8000050c ∷ l 0x8000040c ∷ A ∷ A ∷ v 40 ∷ A ∷ A ∷ A ∷ A ∷ (Bin op.Add (Bin op.Add (Bin op.Add (Bin op.And (Bin op.Srl (v 32) (l 4)) (l 15)) (Bin op.And (Bin op.Add (Bin op.Sltu (Bin op.And (Bin op.Srl (v 32) (l 4)) (l 15)) (l 10)) (l 0xffffffffffffffff)) (l 39))) (l 48)) (l 0x101000000000000)) ∷ A ∷ A ∷ A ∷ A ∷ A ∷ A ∷ A ∷ v 32 ∷ l 4 ∷ A ∷ v 32 ∷ v 42 ∷ l 124 ∷ A ∷ A ∷ A ∷ A ∷ A ∷ A ∷ l 0x101000000000000 ∷ l 0x80008100 ∷ []) csrs_2 (set cells_3 0 (Bin op.Add (Bin op.Add (Bin op.Add (Bin op.And (Bin op.Srl (v 32) (l 4)) (l 15)) (Bin op.And (Bin op.Add (Bin op.Sltu (Bin op.And (Bin op.Srl (v 32) (l 4)) (l 15)) (l 10)) (l 0xffffffffffffffff)) (l 39))) (l 48)) (l 0x101000000000000))) ([]) 0 false ∷
    b 6066 0x80000524 (l 0 ∷ l 0x8000050c ∷ l 0x8000040c ∷ A ∷ A ∷ v 40 ∷ A ∷ A ∷ A ∷ A ∷ (Bin op.Add (Bin op.Add (Bin op.Add (Bin op.And (Bin op.Srl (v 32) (l 8)) (l 15)) (Bin op.And (Bin op.Add (Bin op.Sltu (Bin op.And (Bin op.Srl (v 32) (l 8)) (l 15)) (l 10)) (l 0xffffffffffffffff)) (l 39))) (l 48)) (l 0x101000000000000)) ∷ A ∷ A ∷ A ∷ A ∷ A ∷ A ∷ A ∷ v 32 ∷ l 8 ∷ A ∷ v 32 ∷ v 42 ∷ l 124 ∷ A ∷ A ∷ A ∷ A ∷ A ∷ A ∷ l 0x101000000000000 ∷ l 0x80008100 ∷ []) csrs_2 (set cells_3 0 (Bin op.Add (Bin op.Add (Bin op.Add (Bin op.And (Bin op.Srl (v 32) (l 8)) (l 15)) (Bin op.And (Bin op.Add (Bin op.Sltu (Bin op.And (Bin op.Srl (v 32) (l 8)) (l 15)) (l 10)) (l 0xffffffffffffffff)) (l 39))) (l 48)) (l 0x101000000000000))) ([]) 0 false ∷
    b 6064 0x80000524 (l 0 ∷ l 0x8000050c ∷ l 0x8000040c ∷ A ∷ A ∷ v 40 ∷ A ∷ A ∷ A ∷ A ∷ (Bin op.Add (Bin op.Add (Bin op.Add (Bin op.And (Bin op.Srl (v 32) (l 12)) (l 15)) (Bin op.And (Bin op.Add (Bin op.Sltu (Bin op.And (Bin op.Srl (v 32) (l 12)) (l 15)) (l 10)) (l 0xffffffffffffffff)) (l 39))) (l 48)) (l 0x101000000000000)) ∷ A ∷ A ∷ A ∷ A ∷ A ∷ A ∷ A ∷ v 32 ∷ l 12 ∷ A ∷ v 32 ∷ v 42 ∷ l 124 ∷ A ∷ A ∷ A ∷ A ∷ A ∷ A ∷ l 0x101000000000000 ∷ l 0x80008100 ∷ []) csrs_2 (set cells_3 0 (Bin op.Add (Bin op.Add (Bin op.Add (Bin op.And (Bin op.Srl (v 32) (l 12)) (l 15)) (Bin op.And (Bin op.Add (Bin op.Sltu (Bin op.And (Bin op.Srl (v 32) (l 12)) (l 15)) (l 10)) (l 0xffffffffffffffff)) (l 39))) (l 48)) (l 0x101000000000000))) ([]) 0 false ∷
    b 6062 0x80000524 (l 0 ∷ l 0x8000050c ∷ l 0x8000040c ∷ A ∷ A ∷ v 40 ∷ A ∷ A ∷ A ∷ A ∷ (Bin op.Add (Bin op.Add (Bin op.Add (Bin op.And (Bin op.Srl (v 32) (l 16)) (l 15)) (Bin op.And (Bin op.Add (Bin op.Sltu (Bin op.And (Bin op.Srl (v 32) (l 16)) (l 15)) (l 10)) (l 0xffffffffffffffff)) (l 39))) (l 48)) (l 0x101000000000000)) ∷ A ∷ A ∷ A ∷ A ∷ A ∷ A ∷ A ∷ v 32 ∷ l 16 ∷ A ∷ v 32 ∷ v 42 ∷ l 124 ∷ A ∷ A ∷ A ∷ A ∷ A ∷ A ∷ l 0x101000000000000 ∷ l 0x80008100 ∷ []) csrs_2 (set cells_3 0 (Bin op.Add (Bin op.Add (Bin op.Add (Bin op.And (Bin op.Srl (v 32) (l 16)) (l 15)) (Bin op.And (Bin op.Add (Bin op.Sltu (Bin op.And (Bin op.Srl (v 32) (l 16)) (l 15)) (l 10)) (l 0xffffffffffffffff)) (l 39))) (l 48)) (l 0x101000000000000))) ([]) 0 false ∷
    b 6060 0x80000524 (l 0 ∷ l 0x8000050c ∷ l 0x8000040c ∷ A ∷ A ∷ v 40 ∷ A ∷ A ∷ A ∷ A ∷ (Bin op.Add (Bin op.Add (Bin op.Add (Bin op.And (Bin op.Srl (v 32) (l 20)) (l 15)) (Bin op.And (Bin op.Add (Bin op.Sltu (Bin op.And (Bin op.Srl (v 32) (l 20)) (l 15)) (l 10)) (l 0xffffffffffffffff)) (l 39))) (l 48)) (l 0x101000000000000)) ∷ A ∷ A ∷ A ∷ A ∷ A ∷ A ∷ A ∷ v 32 ∷ l 20 ∷ A ∷ v 32 ∷ v 42 ∷ l 124 ∷ A ∷ A ∷ A ∷ A ∷ A ∷ A ∷ l 0x101000000000000 ∷ l 0x80008100 ∷ []) csrs_2 (set cells_3 0 (Bin op.Add (Bin op.Add (Bin op.Add (Bin op.And (Bin op.Srl (v 32) (l 20)) (l 15)) (Bin op.And (Bin op.Add (Bin op.Sltu (Bin op.And (Bin op.Srl (v 32) (l 20)) (l 15)) (l 10)) (l 0xffffffffffffffff)) (l 39))) (l 48)) (l 0x101000000000000))) ([]) 0 false ∷
    b 6058 0x80000524 (l 0 ∷ l 0x8000050c ∷ l 0x8000040c ∷ A ∷ A ∷ v 40 ∷ A ∷ A ∷ A ∷ A ∷ (Bin op.Add (Bin op.Add (Bin op.Add (Bin op.And (Bin op.Srl (v 32) (l 24)) (l 15)) (Bin op.And (Bin op.Add (Bin op.Sltu (Bin op.And (Bin op.Srl (v 32) (l 24)) (l 15)) (l 10)) (l 0xffffffffffffffff)) (l 39))) (l 48)) (l 0x101000000000000)) ∷ A ∷ A ∷ A ∷ A ∷ A ∷ A ∷ A ∷ v 32 ∷ l 24 ∷ A ∷ v 32 ∷ v 42 ∷ l 124 ∷ A ∷ A ∷ A ∷ A ∷ A ∷ A ∷ l 0x101000000000000 ∷ l 0x80008100 ∷ []) csrs_2 (set cells_3 0 (Bin op.Add (Bin op.Add (Bin op.Add (Bin op.And (Bin op.Srl (v 32) (l 24)) (l 15)) (Bin op.And (Bin op.Add (Bin op.Sltu (Bin op.And (Bin op.Srl (v 32) (l 24)) (l 15)) (l 10)) (l 0xffffffffffffffff)) (l 39))) (l 48)) (l 0x101000000000000))) ([]) 0 false ∷
    b 6056 0x80000524 (l 0 ∷ l 0x8000050c ∷ l 0x8000040c ∷ A ∷ A ∷ v 40 ∷ A ∷ A ∷ A ∷ A ∷ (Bin op.Add (Bin op.Add (Bin op.Add (Bin op.And (Bin op.Srl (v 32) (l 28)) (l 15)) (Bin op.And (Bin op.Add (Bin op.Sltu (Bin op.And (Bin op.Srl (v 32) (l 28)) (l 15)) (l 10)) (l 0xffffffffffffffff)) (l 39))) (l 48)) (l 0x101000000000000)) ∷ A ∷ A ∷ A ∷ A ∷ A ∷ A ∷ A ∷ v 32 ∷ l 28 ∷ A ∷ v 32 ∷ v 42 ∷ l 124 ∷ A ∷ A ∷ A ∷ A ∷ A ∷ A ∷ l 0x101000000000000 ∷ l 0x80008100 ∷ []) csrs_2 (set cells_3 0 (Bin op.Add (Bin op.Add (Bin op.Add (Bin op.And (Bin op.Srl (v 32) (l 28)) (l 15)) (Bin op.And (Bin op.Add (Bin op.Sltu (Bin op.And (Bin op.Srl (v 32) (l 28)) (l 15)) (l 10)) (l 0xffffffffffffffff)) (l 39))) (l 48)) (l 0x101000000000000))) ([]) 0 false ∷
    b 6054 0x80000524 (l 0 ∷ l 0x8000050c ∷ l 0x8000040c ∷ A ∷ A ∷ v 40 ∷ A ∷ A ∷ A ∷ A ∷ (Bin op.Add (Bin op.Add (Bin op.Add (Bin op.And (Bin op.Srl (v 32) (l 32)) (l 15)) (Bin op.And (Bin op.Add (Bin op.Sltu (Bin op.And (Bin op.Srl (v 32) (l 32)) (l 15)) (l 10)) (l 0xffffffffffffffff)) (l 39))) (l 48)) (l 0x101000000000000)) ∷ A ∷ A ∷ A ∷ A ∷ A ∷ A ∷ A ∷ v 32 ∷ l 32 ∷ A ∷ v 32 ∷ v 42 ∷ l 124 ∷ A ∷ A ∷ A ∷ A ∷ A ∷ A ∷ l 0x101000000000000 ∷ l 0x80008100 ∷ []) csrs_2 (set cells_3 0 (Bin op.Add (Bin op.Add (Bin op.Add (Bin op.And (Bin op.Srl (v 32) (l 32)) (l 15)) (Bin op.And (Bin op.Add (Bin op.Sltu (Bin op.And (Bin op.Srl (v 32) (l 32)) (l 15)) (l 10)) (l 0xffffffffffffffff)) (l 39))) (l 48)) (l 0x101000000000000))) ([]) 0 false ∷
    b 6052 0x80000524 (l 0 ∷ l 0x8000050c ∷ l 0x8000040c ∷ A ∷ A ∷ v 40 ∷ A ∷ A ∷ A ∷ A ∷ (Bin op.Add (Bin op.Add (Bin op.Add (Bin op.And (Bin op.Srl (v 32) (l 36)) (l 15)) (Bin op.And (Bin op.Add (Bin op.Sltu (Bin op.And (Bin op.Srl (v 32) (l 36)) (l 15)) (l 10)) (l 0xffffffffffffffff)) (l 39))) (l 48)) (l 0x101000000000000)) ∷ A ∷ A ∷ A ∷ A ∷ A ∷ A ∷ A ∷ v 32 ∷ l 36 ∷ A ∷ v 32 ∷ v 42 ∷ l 124 ∷ A ∷ A ∷ A ∷ A ∷ A ∷ A ∷ l 0x101000000000000 ∷ l 0x80008100 ∷ []) csrs_2 (set cells_3 0 (Bin op.Add (Bin op.Add (Bin op.Add (Bin op.And (Bin op.Srl (v 32) (l 36)) (l 15)) (Bin op.And (Bin op.Add (Bin op.Sltu (Bin op.And (Bin op.Srl (v 32) (l 36)) (l 15)) (l 10)) (l 0xffffffffffffffff)) (l 39))) (l 48)) (l 0x101000000000000))) ([]) 0 false ∷
    b 6050 0x80000524 (l 0 ∷ l 0x8000050c ∷ l 0x8000040c ∷ A ∷ A ∷ v 40 ∷ A ∷ A ∷ A ∷ A ∷ (Bin op.Add (Bin op.Add (Bin op.Add (Bin op.And (Bin op.Srl (v 32) (l 40)) (l 15)) (Bin op.And (Bin op.Add (Bin op.Sltu (Bin op.And (Bin op.Srl (v 32) (l 40)) (l 15)) (l 10)) (l 0xffffffffffffffff)) (l 39))) (l 48)) (l 0x101000000000000)) ∷ A ∷ A ∷ A ∷ A ∷ A ∷ A ∷ A ∷ v 32 ∷ l 40 ∷ A ∷ v 32 ∷ v 42 ∷ l 124 ∷ A ∷ A ∷ A ∷ A ∷ A ∷ A ∷ l 0x101000000000000 ∷ l 0x80008100 ∷ []) csrs_2 (set cells_3 0 (Bin op.Add (Bin op.Add (Bin op.Add (Bin op.And (Bin op.Srl (v 32) (l 40)) (l 15)) (Bin op.And (Bin op.Add (Bin op.Sltu (Bin op.And (Bin op.Srl (v 32) (l 40)) (l 15)) (l 10)) (l 0xffffffffffffffff)) (l 39))) (l 48)) (l 0x101000000000000))) ([]) 0 false ∷
    b 6048 0x80000524 (l 0 ∷ l 0x8000050c ∷ l 0x8000040c ∷ A ∷ A ∷ v 40 ∷ A ∷ A ∷ A ∷ A ∷ (Bin op.Add (Bin op.Add (Bin op.Add (Bin op.And (Bin op.Srl (v 32) (l 44)) (l 15)) (Bin op.And (Bin op.Add (Bin op.Sltu (Bin op.And (Bin op.Srl (v 32) (l 44)) (l 15)) (l 10)) (l 0xffffffffffffffff)) (l 39))) (l 48)) (l 0x101000000000000)) ∷ A ∷ A ∷ A ∷ A ∷ A ∷ A ∷ A ∷ v 32 ∷ l 44 ∷ A ∷ v 32 ∷ v 42 ∷ l 124 ∷ A ∷ A ∷ A ∷ A ∷ A ∷ A ∷ l 0x101000000000000 ∷ l 0x80008100 ∷ []) csrs_2 (set cells_3 0 (Bin op.Add (Bin op.Add (Bin op.Add (Bin op.And (Bin op.Srl (v 32) (l 44)) (l 15)) (Bin op.And (Bin op.Add (Bin op.Sltu (Bin op.And (Bin op.Srl (v 32) (l 44)) (l 15)) (l 10)) (l 0xffffffffffffffff)) (l 39))) (l 48)) (l 0x101000000000000))) ([]) 0 false ∷
    b 6046 0x80000524 (l 0 ∷ l 0x8000050c ∷ l 0x8000040c ∷ A ∷ A ∷ v 40 ∷ A ∷ A ∷ A ∷ A ∷ (Bin op.Add (Bin op.Add (Bin op.Add (Bin op.And (Bin op.Srl (v 32) (l 48)) (l 15)) (Bin op.And (Bin op.Add (Bin op.Sltu (Bin op.And (Bin op.Srl (v 32) (l 48)) (l 15)) (l 10)) (l 0xffffffffffffffff)) (l 39))) (l 48)) (l 0x101000000000000)) ∷ A ∷ A ∷ A ∷ A ∷ A ∷ A ∷ A ∷ v 32 ∷ l 48 ∷ A ∷ v 32 ∷ v 42 ∷ l 124 ∷ A ∷ A ∷ A ∷ A ∷ A ∷ A ∷ l 0x101000000000000 ∷ l 0x80008100 ∷ []) csrs_2 (set cells_3 0 (Bin op.Add (Bin op.Add (Bin op.Add (Bin op.And (Bin op.Srl (v 32) (l 48)) (l 15)) (Bin op.And (Bin op.Add (Bin op.Sltu (Bin op.And (Bin op.Srl (v 32) (l 48)) (l 15)) (l 10)) (l 0xffffffffffffffff)) (l 39))) (l 48)) (l 0x101000000000000))) ([]) 0 false ∷
    b 6044 0x80000524 (l 0 ∷ l 0x8000050c ∷ l 0x8000040c ∷ A ∷ A ∷ v 40 ∷ A ∷ A ∷ A ∷ A ∷ (Bin op.Add (Bin op.Add (Bin op.Add (Bin op.And (Bin op.Srl (v 32) (l 52)) (l 15)) (Bin op.And (Bin op.Add (Bin op.Sltu (Bin op.And (Bin op.Srl (v 32) (l 52)) (l 15)) (l 10)) (l 0xffffffffffffffff)) (l 39))) (l 48)) (l 0x101000000000000)) ∷ A ∷ A ∷ A ∷ A ∷ A ∷ A ∷ A ∷ v 32 ∷ l 52 ∷ A ∷ v 32 ∷ v 42 ∷ l 124 ∷ A ∷ A ∷ A ∷ A ∷ A ∷ A ∷ l 0x101000000000000 ∷ l 0x80008100 ∷ []) csrs_2 (set cells_3 0 (Bin op.Add (Bin op.Add (Bin op.Add (Bin op.And (Bin op.Srl (v 32) (l 52)) (l 15)) (Bin op.And (Bin op.Add (Bin op.Sltu (Bin op.And (Bin op.Srl (v 32) (l 52)) (l 15)) (l 10)) (l 0xffffffffffffffff)) (l 39))) (l 48)) (l 0x101000000000000))) ([]) 0 false ∷
    b 6042 0x80000524 (l 0 ∷ l 0x8000050c ∷ l 0x8000040c ∷ A ∷ A ∷ v 40 ∷ A ∷ A ∷ A ∷ A ∷ (Bin op.Add (Bin op.Add (Bin op.Add (Bin op.And (Bin op.Srl (v 32) (l 56)) (l 15)) (Bin op.And (Bin op.Add (Bin op.Sltu (Bin op.And (Bin op.Srl (v 32) (l 56)) (l 15)) (l 10)) (l 0xffffffffffffffff)) (l 39))) (l 48)) (l 0x101000000000000)) ∷ A ∷ A ∷ A ∷ A ∷ A ∷ A ∷ A ∷ v 32 ∷ l 56 ∷ A ∷ v 32 ∷ v 42 ∷ l 124 ∷ A ∷ A ∷ A ∷ A ∷ A ∷ A ∷ l 0x101000000000000 ∷ l 0x80008100 ∷ []) csrs_2 (set cells_3 0 (Bin op.Add (Bin op.Add (Bin op.Add (Bin op.And (Bin op.Srl (v 32) (l 56)) (l 15)) (Bin op.And (Bin op.Add (Bin op.Sltu (Bin op.And (Bin op.Srl (v 32) (l 56)) (l 15)) (l 10)) (l 0xffffffffffffffff)) (l 39))) (l 48)) (l 0x101000000000000))) ([]) 0 false ∷
    b 6040 0x80000524 (l 0 ∷ l 0x8000050c ∷ l 0x8000040c ∷ A ∷ A ∷ v 40 ∷ A ∷ A ∷ A ∷ A ∷ (Bin op.Add (Bin op.Add (Bin op.Add (Bin op.And (Bin op.Srl (v 32) (l 60)) (l 15)) (Bin op.And (Bin op.Add (Bin op.Sltu (Bin op.And (Bin op.Srl (v 32) (l 60)) (l 15)) (l 10)) (l 0xffffffffffffffff)) (l 39))) (l 48)) (l 0x101000000000000)) ∷ A ∷ A ∷ A ∷ A ∷ A ∷ A ∷ A ∷ v 32 ∷ l 60 ∷ A ∷ v 32 ∷ v 42 ∷ l 124 ∷ A ∷ A ∷ A ∷ A ∷ A ∷ A ∷ l 0x101000000000000 ∷ l 0x80008100 ∷ []) csrs_2 (set cells_3 0 (Bin op.Add (Bin op.Add (Bin op.Add (Bin op.And (Bin op.Srl (v 32) (l 60)) (l 15)) (Bin op.And (Bin op.Add (Bin op.Sltu (Bin op.And (Bin op.Srl (v 32) (l 60)) (l 15)) (l 10)) (l 0xffffffffffffffff)) (l 39))) (l 48)) (l 0x101000000000000))) ([]) 0 false ∷
    b 6038 0x80000524 (l 0 ∷ l 0x80000400 ∷ A ∷ A ∷ A ∷ v 40 ∷ A ∷ A ∷ A ∷ A ∷ l 0x101000000000020 ∷ A ∷ A ∷ A ∷ A ∷ A ∷ A ∷ A ∷ A ∷ A ∷ A ∷ v 32 ∷ v 42 ∷ l 124 ∷ A ∷ A ∷ A ∷ A ∷ A ∷ A ∷ l 0x101000000000000 ∷ l 0x80008100 ∷ []) csrs_2 (set cells_3 0 (l 0x101000000000020)) ([]) 0 false ∷
    b 6036 0x80000524 (l 0 ∷ l 0x800003f8 ∷ A ∷ A ∷ A ∷ v 40 ∷ A ∷ A ∷ A ∷ A ∷ l 0x101000000000074 ∷ A ∷ A ∷ A ∷ A ∷ A ∷ A ∷ A ∷ A ∷ A ∷ A ∷ v 32 ∷ v 42 ∷ l 124 ∷ A ∷ A ∷ A ∷ A ∷ A ∷ A ∷ l 0x101000000000000 ∷ l 0x80008100 ∷ []) csrs_2 (set cells_3 0 (l 0x101000000000074)) ([]) 0 false ∷
    b 6034 0x80000524 (l 0 ∷ l 0x800003f0 ∷ A ∷ A ∷ A ∷ v 40 ∷ A ∷ A ∷ A ∷ A ∷ l 0x101000000000061 ∷ A ∷ A ∷ A ∷ A ∷ A ∷ A ∷ A ∷ A ∷ A ∷ A ∷ v 32 ∷ v 42 ∷ l 124 ∷ A ∷ A ∷ A ∷ A ∷ A ∷ A ∷ l 0x101000000000000 ∷ l 0x80008100 ∷ []) csrs_2 (set cells_3 0 (l 0x101000000000061)) ([]) 0 false ∷
    b 6032 0x80000524 (l 0 ∷ l 0x800003e8 ∷ A ∷ A ∷ A ∷ v 40 ∷ A ∷ A ∷ A ∷ A ∷ l 0x101000000000020 ∷ A ∷ A ∷ A ∷ A ∷ A ∷ A ∷ A ∷ A ∷ A ∷ A ∷ v 32 ∷ v 42 ∷ l 124 ∷ A ∷ A ∷ A ∷ A ∷ A ∷ A ∷ l 0x101000000000000 ∷ l 0x80008100 ∷ []) csrs_2 (set cells_3 0 (l 0x101000000000020)) ([]) 0 false ∷
    b 6030 0x80000524 (l 0 ∷ l 0x800003e0 ∷ A ∷ A ∷ A ∷ v 40 ∷ A ∷ A ∷ A ∷ A ∷ l 0x101000000000064 ∷ A ∷ A ∷ A ∷ A ∷ A ∷ A ∷ A ∷ A ∷ A ∷ A ∷ v 32 ∷ v 42 ∷ l 124 ∷ A ∷ A ∷ A ∷ A ∷ A ∷ A ∷ l 0x101000000000000 ∷ l 0x80008100 ∷ []) csrs_2 (set cells_3 0 (l 0x101000000000064)) ([]) 0 false ∷
    b 6028 0x80000524 (l 0 ∷ l 0x800003d8 ∷ A ∷ A ∷ A ∷ v 40 ∷ A ∷ A ∷ A ∷ A ∷ l 0x101000000000061 ∷ A ∷ A ∷ A ∷ A ∷ A ∷ A ∷ A ∷ A ∷ A ∷ A ∷ v 32 ∷ v 42 ∷ l 124 ∷ A ∷ A ∷ A ∷ A ∷ A ∷ A ∷ l 0x101000000000000 ∷ l 0x80008100 ∷ []) csrs_2 (set cells_3 0 (l 0x101000000000061)) ([]) 0 false ∷
    b 6026 0x80000524 (l 0 ∷ l 0x800003d0 ∷ A ∷ A ∷ A ∷ v 40 ∷ A ∷ A ∷ A ∷ A ∷ l 0x101000000000065 ∷ A ∷ A ∷ A ∷ A ∷ A ∷ A ∷ A ∷ A ∷ A ∷ A ∷ v 32 ∷ v 42 ∷ l 124 ∷ A ∷ A ∷ A ∷ A ∷ A ∷ A ∷ l 0x101000000000000 ∷ l 0x80008100 ∷ []) csrs_2 (set cells_3 0 (l 0x101000000000065)) ([]) 0 false ∷
    b 6024 0x80000524 (l 0 ∷ l 0x800003c8 ∷ A ∷ A ∷ A ∷ v 40 ∷ A ∷ A ∷ A ∷ A ∷ l 0x101000000000072 ∷ A ∷ A ∷ A ∷ A ∷ A ∷ A ∷ A ∷ A ∷ A ∷ A ∷ v 32 ∷ v 42 ∷ l 124 ∷ A ∷ A ∷ A ∷ A ∷ A ∷ A ∷ l 0x101000000000000 ∷ l 0x80008100 ∷ []) csrs_2 (set cells_3 0 (l 0x101000000000072)) ([]) 0 false ∷
    b 6022 0x80000524 (l 0 ∷ l 0x800003c0 ∷ A ∷ A ∷ A ∷ v 40 ∷ A ∷ A ∷ A ∷ A ∷ l 0x101000000000020 ∷ A ∷ A ∷ A ∷ A ∷ A ∷ A ∷ A ∷ A ∷ A ∷ A ∷ v 32 ∷ v 42 ∷ l 124 ∷ A ∷ A ∷ A ∷ A ∷ A ∷ A ∷ l 0x101000000000000 ∷ l 0x80008100 ∷ []) csrs_2 (set cells_3 0 (l 0x101000000000020)) ([]) 0 false ∷
    b 6020 0x80000524 (l 0 ∷ l 0x800003b8 ∷ A ∷ A ∷ A ∷ v 40 ∷ A ∷ A ∷ A ∷ A ∷ l 0x101000000000072 ∷ A ∷ A ∷ A ∷ A ∷ A ∷ A ∷ A ∷ A ∷ A ∷ A ∷ v 32 ∷ v 42 ∷ l 124 ∷ A ∷ A ∷ A ∷ A ∷ A ∷ A ∷ l 0x101000000000000 ∷ l 0x80008100 ∷ []) csrs_2 (set cells_3 0 (l 0x101000000000072)) ([]) 0 false ∷
    b 6018 0x80000524 (l 0 ∷ l 0x800003b0 ∷ A ∷ A ∷ A ∷ v 40 ∷ A ∷ A ∷ A ∷ A ∷ l 0x101000000000065 ∷ A ∷ A ∷ A ∷ A ∷ A ∷ A ∷ A ∷ A ∷ A ∷ A ∷ v 32 ∷ v 42 ∷ l 124 ∷ A ∷ A ∷ A ∷ A ∷ A ∷ A ∷ l 0x101000000000000 ∷ l 0x80008100 ∷ []) csrs_2 (set cells_3 0 (l 0x101000000000065)) ([]) 0 false ∷
    b 6016 0x80000524 (l 0 ∷ l 0x800003a8 ∷ A ∷ A ∷ A ∷ v 40 ∷ A ∷ A ∷ A ∷ A ∷ l 0x101000000000074 ∷ A ∷ A ∷ A ∷ A ∷ A ∷ A ∷ A ∷ A ∷ A ∷ A ∷ v 32 ∷ v 42 ∷ l 124 ∷ A ∷ A ∷ A ∷ A ∷ A ∷ A ∷ l 0x101000000000000 ∷ l 0x80008100 ∷ []) csrs_2 (set cells_3 0 (l 0x101000000000074)) ([]) 0 false ∷
    b 6014 0x80000524 (l 0 ∷ l 0x800003a0 ∷ A ∷ A ∷ A ∷ v 40 ∷ A ∷ A ∷ A ∷ A ∷ l 0x10100000000006e ∷ A ∷ A ∷ A ∷ A ∷ A ∷ A ∷ A ∷ A ∷ A ∷ A ∷ v 32 ∷ v 42 ∷ l 124 ∷ A ∷ A ∷ A ∷ A ∷ A ∷ A ∷ l 0x101000000000000 ∷ l 0x80008100 ∷ []) csrs_2 (set cells_3 0 (l 0x10100000000006e)) ([]) 0 false ∷
    b 6012 0x80000524 (l 0 ∷ l 0x80000398 ∷ A ∷ A ∷ A ∷ v 40 ∷ A ∷ A ∷ A ∷ A ∷ l 0x101000000000075 ∷ A ∷ A ∷ A ∷ A ∷ A ∷ A ∷ A ∷ A ∷ A ∷ A ∷ v 32 ∷ v 42 ∷ l 124 ∷ A ∷ A ∷ A ∷ A ∷ A ∷ A ∷ l 0x101000000000000 ∷ l 0x80008100 ∷ []) csrs_2 (set cells_3 0 (l 0x101000000000075)) ([]) 0 false ∷
    b 6010 0x80000524 (l 0 ∷ l 0x80000390 ∷ A ∷ A ∷ A ∷ v 40 ∷ A ∷ A ∷ A ∷ A ∷ l 0x10100000000006f ∷ A ∷ A ∷ A ∷ A ∷ A ∷ A ∷ A ∷ A ∷ A ∷ A ∷ v 32 ∷ v 42 ∷ l 124 ∷ A ∷ A ∷ A ∷ A ∷ A ∷ A ∷ l 0x101000000000000 ∷ l 0x80008100 ∷ []) csrs_2 (set cells_3 0 (l 0x10100000000006f)) ([]) 0 false ∷
    b 6008 0x80000524 (l 0 ∷ l 0x80000388 ∷ A ∷ A ∷ A ∷ v 40 ∷ A ∷ A ∷ A ∷ A ∷ l 0x101000000000063 ∷ A ∷ A ∷ A ∷ A ∷ A ∷ A ∷ A ∷ A ∷ A ∷ A ∷ v 32 ∷ v 42 ∷ l 124 ∷ A ∷ A ∷ A ∷ A ∷ A ∷ A ∷ l 0x101000000000000 ∷ l 0x80008100 ∷ []) csrs_2 (set cells_3 0 (l 0x101000000000063)) ([]) 0 false ∷
    b 6006 0x80000524 (l 0 ∷ l 0x80000380 ∷ A ∷ A ∷ A ∷ v 40 ∷ A ∷ A ∷ A ∷ A ∷ l 0x101000000000020 ∷ A ∷ A ∷ A ∷ A ∷ A ∷ A ∷ A ∷ A ∷ A ∷ A ∷ v 32 ∷ v 42 ∷ l 124 ∷ A ∷ A ∷ A ∷ A ∷ A ∷ A ∷ l 0x101000000000000 ∷ l 0x80008100 ∷ []) csrs_2 (set cells_3 0 (l 0x101000000000020)) ([]) 0 false ∷
    b 6004 0x80000524 (l 0 ∷ l 0x80000378 ∷ A ∷ A ∷ A ∷ v 40 ∷ A ∷ A ∷ A ∷ A ∷ l 0x10100000000003a ∷ A ∷ A ∷ A ∷ A ∷ A ∷ A ∷ A ∷ A ∷ A ∷ A ∷ v 32 ∷ v 42 ∷ l 124 ∷ A ∷ A ∷ A ∷ A ∷ A ∷ A ∷ l 0x101000000000000 ∷ l 0x80008100 ∷ []) csrs_2 (set cells_3 0 (l 0x10100000000003a)) ([]) 0 false ∷
    b 6002 0x80000524 (l 0 ∷ l 0x80000370 ∷ A ∷ A ∷ A ∷ v 40 ∷ A ∷ A ∷ A ∷ A ∷ l 0x10100000000006b ∷ A ∷ A ∷ A ∷ A ∷ A ∷ A ∷ A ∷ A ∷ A ∷ A ∷ v 32 ∷ v 42 ∷ l 124 ∷ A ∷ A ∷ A ∷ A ∷ A ∷ A ∷ l 0x101000000000000 ∷ l 0x80008100 ∷ []) csrs_2 (set cells_3 0 (l 0x10100000000006b)) ([]) 0 false ∷
    b counter_store_gates 0x80000524 (l 0 ∷ l 0x80000368 ∷ A ∷ A ∷ A ∷ v 40 ∷ A ∷ A ∷ A ∷ A ∷ l 0x101000000000070 ∷ A ∷ A ∷ A ∷ A ∷ A ∷ A ∷ A ∷ A ∷ A ∷ A ∷ v 32 ∷ v 42 ∷ l 124 ∷ A ∷ A ∷ A ∷ A ∷ A ∷ A ∷ l 0x101000000000000 ∷ l 0x80008100 ∷ []) csrs_2 (set cells_3 0 (l 0x101000000000070)) ([]) 0 false ∷
    []
