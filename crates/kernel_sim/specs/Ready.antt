-- Of TOHOST between its load and the store to it: in Speak and Closing the hart stores there only once it has seen 0.
use Rattle.std.specs.Prelude.{◌≡◌, ℕ, ◌==◌, ◌||◌, Bool, true, false, ⊤}
use Rattle.rv_csr.specs.declared.privilege.Mode.{Mode}
use Rattle.rv_csr.specs.declared.privilege.Mode.TheVariants as mode
use Rattle.kernel_code.specs.Places.{pc_put, pc_closing, pc_put_test, pc_closing_test, pc_put_store, pc_closing_store}

-- the places of the two loads of TOHOST, after which x6 holds it
abbrev pub looks_at : ℕ → Bool
looks_at pc = pc == pc_put || pc == pc_closing

-- the places behind them, where x6 is tested
abbrev pub loaded_at : ℕ → Bool
loaded_at pc = pc == pc_put_test || pc == pc_closing_test

-- the places of the two stores to TOHOST that follow
abbrev pub stores_at : ℕ → Bool
stores_at pc = pc == pc_put_store || pc == pc_closing_store

-- what a place needs of TOHOST: nothing; that it is 0 where x6, which holds what was seen of it, is 0; that it is 0
pub data Need : Type 0 where
  Nothing : Need
  ZeroIfSeen : Need
  Zero : Need

-- the need of a place of the kernel
abbrev pub need_at : ℕ → Need
need_at pc = elim (loaded_at pc) [ true ↦ ZeroIfSeen | false ↦ elim (stores_at pc) [ true ↦ Zero | false ↦ Nothing ] ]

-- the same by the mode: none while the program runs
abbrev pub need : Mode → ℕ → Need
need mode.User pc = Nothing
need mode.Machine pc = need_at pc

-- what is needed of TOHOST, by what x6 holds
abbrev pub NeedIs : Need → ℕ → ℕ → Type 0
NeedIs Nothing seen word = ⊤
NeedIs ZeroIfSeen seen word = seen ≡ 0 → word ≡ 0
NeedIs Zero seen word = word ≡ 0
