-- How many steps are left at each place of the code. Written by tools/kernel_blocks.py.
use Rattle.std.specs.Prelude.{ℕ, ◌+◌, ◌-◌, ◌/◌, ◌==◌, ◌&&◌, ◌||◌, not, nat_lt, Bool, true, false, Option, Some, None, List, [], ◌∷◌, get_or}
use Rattle.fe_base.specs.MemoryMap.{kernel_start}
use Rattle.kernel_steps.specs.States.{State}
use Rattle.kernel_steps.specs.Successors.{successors}
use Rattle.kernel_code.specs.Kernel.{kernel}
use Rattle.kernel_code.specs.Places.{pc_boot_test, pc_boot_wait, pc_closing, pc_closing_test, pc_idle, pc_path_passed, pc_path_test, pc_put, pc_put_done, pc_put_store, pc_put_test, pc_wait, pc_wait_test}

-- by the number of the instruction
unfoldable pub left_table : List ℕ
left_table =
    32 ∷ 31 ∷ 30 ∷ 29 ∷ 28 ∷ 27 ∷ 26 ∷ 25 ∷ 24 ∷ 23 ∷ 22 ∷ 21 ∷ 20 ∷ 19 ∷ 18 ∷ 17 ∷ 16 ∷ 15 ∷
    14 ∷ 13 ∷ 12 ∷ 11 ∷ 10 ∷ 9 ∷ 7 ∷ 6 ∷ 5 ∷ 4 ∷ 3 ∷ 2 ∷ 1 ∷ 126 ∷ 125 ∷ 124 ∷ 123 ∷ 122 ∷
    121 ∷ 120 ∷ 119 ∷ 118 ∷ 117 ∷ 116 ∷ 115 ∷ 114 ∷ 113 ∷ 112 ∷ 111 ∷ 110 ∷ 109 ∷ 108 ∷ 107 ∷ 106 ∷ 105 ∷ 104 ∷
    103 ∷ 102 ∷ 101 ∷ 100 ∷ 99 ∷ 98 ∷ 97 ∷ 96 ∷ 95 ∷ 94 ∷ 93 ∷ 92 ∷ 91 ∷ 90 ∷ 89 ∷ 88 ∷ 87 ∷ 86 ∷
    85 ∷ 84 ∷ 83 ∷ 82 ∷ 81 ∷ 80 ∷ 79 ∷ 78 ∷ 77 ∷ 76 ∷ 75 ∷ 74 ∷ 73 ∷ 72 ∷ 71 ∷ 70 ∷ 69 ∷ 68 ∷
    67 ∷ 66 ∷ 60 ∷ 59 ∷ 58 ∷ 57 ∷ 56 ∷ 55 ∷ 37 ∷ 54 ∷ 53 ∷ 52 ∷ 51 ∷ 50 ∷ 61 ∷ 60 ∷ 59 ∷ 58 ∷
    62 ∷ 61 ∷ 60 ∷ 59 ∷ 58 ∷ 57 ∷ 56 ∷ 55 ∷ 54 ∷ 53 ∷ 52 ∷ 51 ∷ 50 ∷ 65 ∷ 64 ∷ 63 ∷ 62 ∷ 61 ∷
    60 ∷ 59 ∷ 58 ∷ 57 ∷ 56 ∷ 62 ∷ 37 ∷ 36 ∷ 35 ∷ 36 ∷ 35 ∷ 36 ∷ 35 ∷ 41 ∷ 40 ∷ 39 ∷ 38 ∷ 37 ∷
    36 ∷ 35 ∷ 55 ∷ 54 ∷ 53 ∷ 52 ∷ 51 ∷ 50 ∷ 49 ∷ 48 ∷ 47 ∷ 46 ∷ 45 ∷ 44 ∷ 43 ∷ 42 ∷ 41 ∷ 40 ∷
    39 ∷ 37 ∷ 36 ∷ 35 ∷ 34 ∷ 33 ∷ 32 ∷ 31 ∷ 30 ∷ 29 ∷ 28 ∷ 27 ∷ 26 ∷ 25 ∷ 24 ∷ 23 ∷ 22 ∷ 21 ∷
    20 ∷ 19 ∷ 18 ∷ 17 ∷ 16 ∷ 15 ∷ 14 ∷ 13 ∷ 12 ∷ 11 ∷ 10 ∷ 9 ∷ 8 ∷ 7 ∷ 6 ∷ 5 ∷ 4 ∷ 3 ∷
    2 ∷ 1 ∷ 24 ∷ 23 ∷ 22 ∷ 21 ∷ 20 ∷ 19 ∷ 18 ∷ 17 ∷ 16 ∷ 15 ∷ 14 ∷ 13 ∷ 12 ∷ 11 ∷ 10 ∷ 8 ∷
    7 ∷ 6 ∷ 7 ∷ 6 ∷ 7 ∷ 6 ∷ 7 ∷ 6 ∷ 7 ∷ 6 ∷ 7 ∷ 6 ∷ 7 ∷ 6 ∷ 7 ∷ 6 ∷ 7 ∷ 6 ∷
    7 ∷ 6 ∷ 7 ∷ 6 ∷ 7 ∷ 6 ∷ 7 ∷ 6 ∷ 7 ∷ 6 ∷ 7 ∷ 6 ∷ 7 ∷ 6 ∷ 7 ∷ 6 ∷ 7 ∷ 6 ∷
    7 ∷ 6 ∷ 7 ∷ 6 ∷ 17 ∷ 16 ∷ 15 ∷ 8 ∷ 9 ∷ 8 ∷ 7 ∷ 6 ∷ 7 ∷ 6 ∷ 7 ∷ 6 ∷ 7 ∷ 6 ∷
    7 ∷ 6 ∷ 7 ∷ 6 ∷ 7 ∷ 6 ∷ 7 ∷ 6 ∷ 7 ∷ 6 ∷ 17 ∷ 16 ∷ 15 ∷ 7 ∷ 6 ∷ 7 ∷ 6 ∷ 7 ∷
    6 ∷ 7 ∷ 6 ∷ 17 ∷ 16 ∷ 15 ∷ 7 ∷ 6 ∷ 7 ∷ 6 ∷ 7 ∷ 6 ∷ 7 ∷ 6 ∷ 7 ∷ 6 ∷ 7 ∷ 6 ∷
    7 ∷ 6 ∷ 17 ∷ 16 ∷ 15 ∷ 7 ∷ 6 ∷ 8 ∷ 14 ∷ 13 ∷ 12 ∷ 11 ∷ 10 ∷ 9 ∷ 8 ∷ 7 ∷ 6 ∷ 15 ∷
    9 ∷ 5 ∷ 4 ∷ 2 ∷ 1 ∷ 18 ∷ 7 ∷ 6 ∷ 5 ∷ 3 ∷ 2 ∷ 1 ∷
    []

-- by the pc
abbrev pub left_at : ℕ → ℕ
left_at pc = get_or left_table ((pc - kernel_start) / 4) 0

-- the places where a word that is awaited is loaded
abbrev pub loads_word : ℕ → Bool
loads_word pc = pc == pc_boot_wait || pc == pc_wait || pc == pc_put || pc == pc_closing

-- the places behind them, where it is tested
abbrev pub tests_word : ℕ → Bool
tests_word pc = pc == pc_boot_test || pc == pc_wait_test || pc == pc_put_test || pc == pc_closing_test

-- the steps that do not lower it: a byte that is put or passed, and those behind the exit word
abbrev pub is_left_out : ℕ → ℕ → Bool
is_left_out a b =
    (a == pc_put_store && b == pc_put_done) ||
    (a == pc_path_test && b == pc_path_passed) ||
    (a == pc_idle && b == pc_idle)

-- the second place is no test of a word, and has fewer steps left than the first, or is reached by such a step
abbrev pub is_lower : ℕ → ℕ → Bool
is_lower a b = not (tests_word b) && (is_left_out a b || nat_lt (left_at b) (left_at a))

-- each of these states is at such a place
abbrev pub all_lower : ℕ → List State → Bool
all_lower a [] = true
all_lower a (t ∷ ts) = elim (is_lower a t.at) [ true ↦ all_lower a ts | false ↦ false ]

-- so does each state to which a step leads, where that is known
abbrev pub may_end : Option (List State) → ℕ → Bool
may_end (Some ts) a = all_lower a ts
may_end None a = true

-- a step from a place of a block lowers the number of steps left, but for those that are left out, and those of a wait
abbrev pub lowers : ℕ → State → Bool
lowers number state =
    elim (loads_word state.at || tests_word state.at) [ true ↦ true | false ↦ may_end (successors kernel state) state.at ]
