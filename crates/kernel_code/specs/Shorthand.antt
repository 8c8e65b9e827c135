-- Shorthand for the lists of blocks, and what many of them know of doublewords, and of control and status registers.
-- Written by tools/kernel_blocks.py.
use Rattle.std.specs.Prelude.{ℕ, Bool, true, false, List, [], ◌∷◌}
use Rattle.kernel_steps.specs.Terms.{Term, Lit, Var, Unknown, Fact}
use Rattle.kernel_steps.specs.States.{CsrTerms}
use Rattle.kernel_steps.specs.Blocks.{Block}

-- nothing is known
abbrev pub A : Term
A = Unknown

-- a variable
abbrev pub v : ℕ → Term
v n = Var n

-- a literal
abbrev pub l : ℕ → Term
l n = Lit n

-- how a comparison came out
abbrev pub f : Bool → Term → Term → Bool → Fact
f below left right truth = record { below = below; left = left; right = right; truth = truth }

-- a block
abbrev pub b : ℕ → ℕ → List Term → CsrTerms → List Term → List Fact → ℕ → Bool → Block
b kind at regs csrs cells facts size checked =
    record { kind = kind; start = record { at = at; regs = regs; csrs = csrs; cells = cells; facts = facts }; size = size; checked = checked }

-- what some blocks know of the doublewords behind the code
unfoldable pub cells_0 : List Term
cells_0 = l 0 ∷ A ∷ A ∷ A ∷ A ∷ A ∷ A ∷ A ∷ l 0 ∷ A ∷ A ∷ A ∷ A ∷ A ∷ A ∷ A ∷ l 0 ∷ l 0 ∷ l 0 ∷ l 0 ∷ l 0 ∷ l 0 ∷ l 0 ∷ l 0 ∷ A ∷ A ∷ A ∷ A ∷ A ∷ A ∷ A ∷ A ∷ A ∷ A ∷ A ∷ A ∷ A ∷ A ∷ A ∷ A ∷ A ∷ A ∷ A ∷ A ∷ A ∷ A ∷ A ∷ A ∷ A ∷ A ∷ A ∷ A ∷ A ∷ A ∷ A ∷ A ∷ A ∷ A ∷ A ∷ A ∷ A ∷ A ∷ A ∷ A ∷ v 36 ∷ v 34 ∷ A ∷ []

-- what some blocks know of the doublewords behind the code
unfoldable pub cells_1 : List Term
cells_1 = A ∷ A ∷ A ∷ A ∷ A ∷ A ∷ A ∷ A ∷ A ∷ A ∷ A ∷ A ∷ A ∷ A ∷ A ∷ A ∷ A ∷ l 0x1000000 ∷ l 0x10000 ∷ l 0 ∷ l 0 ∷ l 0 ∷ l 0 ∷ l 0 ∷ A ∷ A ∷ A ∷ A ∷ A ∷ A ∷ A ∷ A ∷ A ∷ A ∷ A ∷ A ∷ A ∷ A ∷ A ∷ A ∷ A ∷ A ∷ A ∷ A ∷ A ∷ A ∷ A ∷ A ∷ A ∷ A ∷ A ∷ A ∷ A ∷ A ∷ A ∷ A ∷ A ∷ A ∷ A ∷ A ∷ A ∷ A ∷ A ∷ A ∷ v 36 ∷ v 34 ∷ v 34 ∷ []

-- what some blocks know of the doublewords behind the code
unfoldable pub cells_2 : List Term
cells_2 = A ∷ A ∷ A ∷ A ∷ A ∷ A ∷ A ∷ A ∷ l 0 ∷ A ∷ A ∷ A ∷ A ∷ A ∷ A ∷ A ∷ A ∷ l 0x1000000 ∷ l 0x10000 ∷ l 0 ∷ l 0 ∷ l 0 ∷ l 0 ∷ l 0 ∷ A ∷ A ∷ A ∷ A ∷ A ∷ A ∷ A ∷ A ∷ A ∷ A ∷ A ∷ A ∷ A ∷ A ∷ A ∷ A ∷ A ∷ A ∷ A ∷ A ∷ A ∷ A ∷ A ∷ A ∷ A ∷ A ∷ A ∷ A ∷ A ∷ A ∷ A ∷ A ∷ A ∷ A ∷ A ∷ A ∷ A ∷ A ∷ A ∷ A ∷ v 36 ∷ v 34 ∷ v 34 ∷ []

-- what some blocks know of the doublewords behind the code
unfoldable pub cells_3 : List Term
cells_3 = A ∷ A ∷ A ∷ A ∷ A ∷ A ∷ A ∷ A ∷ A ∷ A ∷ A ∷ A ∷ A ∷ A ∷ A ∷ A ∷ A ∷ A ∷ A ∷ A ∷ A ∷ A ∷ A ∷ A ∷ A ∷ A ∷ A ∷ A ∷ A ∷ A ∷ A ∷ A ∷ A ∷ A ∷ A ∷ A ∷ A ∷ A ∷ A ∷ A ∷ A ∷ A ∷ A ∷ A ∷ A ∷ A ∷ A ∷ A ∷ A ∷ A ∷ A ∷ A ∷ A ∷ A ∷ A ∷ A ∷ A ∷ A ∷ A ∷ A ∷ A ∷ A ∷ A ∷ A ∷ v 36 ∷ v 34 ∷ v 33 ∷ []

-- what some blocks know of the doublewords behind the code
unfoldable pub cells_4 : List Term
cells_4 = A ∷ A ∷ A ∷ A ∷ A ∷ A ∷ A ∷ A ∷ A ∷ A ∷ A ∷ A ∷ A ∷ A ∷ A ∷ A ∷ A ∷ A ∷ A ∷ A ∷ A ∷ A ∷ A ∷ A ∷ A ∷ A ∷ A ∷ A ∷ A ∷ A ∷ A ∷ A ∷ A ∷ v 1 ∷ v 2 ∷ v 3 ∷ v 4 ∷ v 5 ∷ v 6 ∷ v 7 ∷ v 8 ∷ v 9 ∷ v 10 ∷ v 11 ∷ v 12 ∷ v 13 ∷ v 14 ∷ v 15 ∷ v 16 ∷ v 17 ∷ v 18 ∷ v 19 ∷ v 20 ∷ v 21 ∷ v 22 ∷ v 23 ∷ v 24 ∷ v 25 ∷ v 26 ∷ v 27 ∷ v 28 ∷ v 29 ∷ v 30 ∷ v 31 ∷ v 36 ∷ v 34 ∷ v 33 ∷ []

-- what some blocks know of the doublewords behind the code
unfoldable pub cells_5 : List Term
cells_5 = A ∷ A ∷ A ∷ A ∷ A ∷ A ∷ A ∷ A ∷ A ∷ A ∷ A ∷ A ∷ A ∷ A ∷ A ∷ A ∷ A ∷ A ∷ A ∷ A ∷ A ∷ A ∷ A ∷ A ∷ A ∷ A ∷ A ∷ A ∷ A ∷ A ∷ A ∷ A ∷ A ∷ v 1 ∷ v 2 ∷ v 3 ∷ v 4 ∷ v 5 ∷ v 6 ∷ v 7 ∷ v 8 ∷ v 9 ∷ v 10 ∷ v 11 ∷ v 12 ∷ v 13 ∷ v 14 ∷ v 15 ∷ v 16 ∷ v 17 ∷ v 18 ∷ v 19 ∷ v 20 ∷ v 21 ∷ v 22 ∷ v 23 ∷ v 24 ∷ v 25 ∷ v 26 ∷ v 27 ∷ v 28 ∷ v 29 ∷ v 30 ∷ v 31 ∷ v 36 ∷ v 34 ∷ v 10 ∷ []

-- what some blocks know of the doublewords behind the code
unfoldable pub cells_6 : List Term
cells_6 = A ∷ A ∷ A ∷ A ∷ A ∷ A ∷ A ∷ A ∷ A ∷ A ∷ A ∷ A ∷ A ∷ A ∷ A ∷ A ∷ A ∷ v 51 ∷ v 52 ∷ v 53 ∷ v 54 ∷ v 55 ∷ l 0 ∷ l 0 ∷ A ∷ A ∷ A ∷ A ∷ A ∷ A ∷ A ∷ A ∷ A ∷ v 1 ∷ v 2 ∷ v 3 ∷ v 4 ∷ v 5 ∷ v 6 ∷ v 7 ∷ v 8 ∷ v 9 ∷ v 10 ∷ v 11 ∷ v 12 ∷ v 13 ∷ v 14 ∷ v 15 ∷ v 16 ∷ v 17 ∷ v 18 ∷ v 19 ∷ v 20 ∷ v 21 ∷ v 22 ∷ v 23 ∷ v 24 ∷ v 25 ∷ v 26 ∷ v 27 ∷ v 28 ∷ v 29 ∷ v 30 ∷ v 31 ∷ v 36 ∷ v 34 ∷ v 33 ∷ []

-- what some blocks know of the doublewords behind the code
unfoldable pub cells_7 : List Term
cells_7 = A ∷ A ∷ A ∷ A ∷ A ∷ A ∷ A ∷ A ∷ A ∷ A ∷ A ∷ A ∷ A ∷ A ∷ A ∷ A ∷ v 41 ∷ v 51 ∷ v 52 ∷ v 53 ∷ v 54 ∷ v 55 ∷ l 0 ∷ l 0 ∷ A ∷ A ∷ A ∷ A ∷ A ∷ A ∷ A ∷ A ∷ A ∷ v 1 ∷ v 2 ∷ v 3 ∷ v 4 ∷ v 5 ∷ v 6 ∷ v 7 ∷ v 8 ∷ v 9 ∷ v 10 ∷ v 11 ∷ v 12 ∷ v 13 ∷ v 14 ∷ v 15 ∷ v 16 ∷ v 17 ∷ v 18 ∷ v 19 ∷ v 20 ∷ v 21 ∷ v 22 ∷ v 23 ∷ v 24 ∷ v 25 ∷ v 26 ∷ v 27 ∷ v 28 ∷ v 29 ∷ v 30 ∷ v 31 ∷ v 36 ∷ v 34 ∷ v 33 ∷ []

-- what some blocks know of the doublewords behind the code
unfoldable pub cells_8 : List Term
cells_8 = A ∷ A ∷ A ∷ A ∷ A ∷ A ∷ A ∷ A ∷ l 0 ∷ A ∷ A ∷ A ∷ A ∷ A ∷ A ∷ A ∷ v 41 ∷ v 51 ∷ v 52 ∷ v 53 ∷ v 54 ∷ v 55 ∷ l 0 ∷ l 0 ∷ A ∷ A ∷ A ∷ A ∷ A ∷ A ∷ A ∷ A ∷ A ∷ v 1 ∷ v 2 ∷ v 3 ∷ v 4 ∷ v 5 ∷ v 6 ∷ v 7 ∷ v 8 ∷ v 9 ∷ v 10 ∷ v 11 ∷ v 12 ∷ v 13 ∷ v 14 ∷ v 15 ∷ v 16 ∷ v 17 ∷ v 18 ∷ v 19 ∷ v 20 ∷ v 21 ∷ v 22 ∷ v 23 ∷ v 24 ∷ v 25 ∷ v 26 ∷ v 27 ∷ v 28 ∷ v 29 ∷ v 30 ∷ v 31 ∷ v 36 ∷ v 34 ∷ v 33 ∷ []

-- what some blocks know of the doublewords behind the code
unfoldable pub cells_9 : List Term
cells_9 = A ∷ A ∷ A ∷ A ∷ A ∷ A ∷ A ∷ A ∷ A ∷ A ∷ A ∷ A ∷ A ∷ A ∷ A ∷ A ∷ A ∷ A ∷ A ∷ A ∷ A ∷ A ∷ A ∷ A ∷ A ∷ A ∷ A ∷ A ∷ A ∷ A ∷ A ∷ A ∷ A ∷ v 1 ∷ v 2 ∷ v 3 ∷ v 4 ∷ v 5 ∷ v 6 ∷ v 7 ∷ v 8 ∷ v 9 ∷ A ∷ v 11 ∷ v 12 ∷ v 13 ∷ v 14 ∷ v 15 ∷ v 16 ∷ v 17 ∷ v 18 ∷ v 19 ∷ v 20 ∷ v 21 ∷ v 22 ∷ v 23 ∷ v 24 ∷ v 25 ∷ v 26 ∷ v 27 ∷ v 28 ∷ v 29 ∷ v 30 ∷ v 31 ∷ v 36 ∷ v 34 ∷ v 33 ∷ []

-- what some blocks know of control and status registers
unfoldable pub csrs_0 : CsrTerms
csrs_0 =
    record { scratch = A; epc = A; cause = A; tval = A; tvec = A; pmp = record { entry0 = record { read = false; write = false; execute = false; tor = false; end = 0x0 }; entry1 = record { read = false; write = false; execute = false; tor = false; end = 0x0 } } }

-- what some blocks know of control and status registers
unfoldable pub csrs_1 : CsrTerms
csrs_1 =
    record { scratch = l 0x80008100; epc = A; cause = A; tval = A; tvec = l 0x8000007c; pmp = record { entry0 = record { read = false; write = false; execute = false; tor = false; end = 0x10000 }; entry1 = record { read = true; write = true; execute = true; tor = true; end = 0x1010000 } } }

-- what some blocks know of control and status registers
unfoldable pub csrs_2 : CsrTerms
csrs_2 =
    record { scratch = l 0x80008100; epc = v 32; cause = v 40; tval = v 42; tvec = l 0x8000007c; pmp = record { entry0 = record { read = false; write = false; execute = false; tor = false; end = 0x10000 }; entry1 = record { read = true; write = true; execute = true; tor = true; end = 0x1010000 } } }
