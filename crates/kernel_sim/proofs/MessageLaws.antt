-- The words of a message and the numbers of their blocks.
use Rattle.std.proofs.Common.{◌≡◌, ℕ, ◌+◌, ◌-◌, ◌*◌, ◌/◌, ◌%◌, ◌<◌, ◌≤◌, ◌==◌, Bool, true, false, ◌||◌, List, [], ◌∷◌, length, refl, ap, sym, subst, ◌∙◌, arith, if◌then◌else◌, nat_lt}
use Rattle.std.specs.Prelude.{nat_le, not}
use Rattle.std.proofs.lemmas.Bool.{false≢true, eqb-true, eq-eqb, ne_eqb, and_parts}
use Rattle.std.proofs.lemmas.Bool.Decides.{nat_tests}
use Rattle.rv_hart.specs.HartStep.{System}
use Rattle.kernel_sim.proofs.Text.{trap-values, counter-values}
use Rattle.kernel_sim.specs.declared.phase.Spoken.{Spoken}
use Rattle.kernel_steps.specs.Terms.{Term, Lit, Var, Bin, Aligned, Unknown, value, is_known}
use Rattle.kernel_steps.specs.States.{State}
use Rattle.kernel_steps.specs.Successors.{successors}
use Rattle.kernel_steps.specs.Blocks.{test, Here}
use Rattle.kernel_code.specs.Kinds.{may_follow}
use Rattle.kernel_code.specs.Kernel.{kernel, blocks}
use Rattle.kernel_sim.specs.Phases.{message, console_word}
use Rattle.kernel_sim.specs.Stages.{base, Says}
use Rattle.kernel_sim.proofs.Decide.{values}
use Rattle.kernel_steps.proofs.Tests.{In, member-In, blocks_all-at}
use Rattle.kernel_sim.proofs.Gates.{gate_ok, speaks_ok, speaks_right, all_at, leads_ok, ends_here, closes_ok, closes_right, is_open, message_terms, word_term, says_at, lands}
use Rattle.kernel_code.specs.Numbers.{choosing_blocks, trap_words, counter_words, passed_blocks, store_gates, counter_store_gates, counter_end_blocks, trap_end_blocks, trap_last_blocks, counter_last_blocks, tested_blocks, boot_tested_blocks}
use Rattle.kernel_code.specs.Places.{pc_put_done, pc_close, pc_wait_test, pc_boot_test, pc_path_passed}
use Rattle.kernel_sim.proofs.PathLaws.{or-elim, not-false}
use Rattle.kernel_sim.proofs.TrapLaws.{gate-big, big-true, big-false, even-list, odd-list}

-- ---- messages
pub word-value : (env : ℕ → ℕ) (s : Term) → is_known s ≡ true → value env (word_term s) ≡ console_word (value env s)
word-value env (Lit n) e = refl
word-value env (Var n) e = refl
word-value env (Bin o a b) e = refl
word-value env (Aligned a) e = refl
word-value env Unknown e = absurd (false≢true e)

-- the terms of a message are its bytes
pub message_terms-message : (env : ℕ → ℕ) (text : Spoken) (c : Bool) → Says text env → text.counter ≡ c → values env (message_terms c) ≡ message text
message_terms-message env text true h e = counter-values env ∙ rw (e, h.at_is) refl
message_terms-message env text false h e = trap-values env ∙ rw (e, h.at_is, h.cause_is, h.value_is) refl

pub half : (t : ℕ) → 2 * t / 2 ≡ t
half t = omega arith

pub gate-said : (c : Bool) (t : ℕ) (s : State) → t < 400 → gate_ok (store_gates + (base c + 2 * t)) s ≡ true → (says_at c t s ≡ true) × (lands (base c + 2 * t + 1) s ≡ true)
gate-said true t s l e =
    let g : ℕ = store_gates + (counter_words + 2 * t) in
    let a : nat_le store_gates g ≡ true = grind (arith, nat_tests) in
    let b : nat_le counter_store_gates g ≡ true = grind (arith, nat_tests) in
    let d : (g - counter_store_gates) / 2 ≡ t = omega arith in
    let f : g - (store_gates - 1) ≡ counter_words + 2 * t + 1 = omega arith in
    let h = gate-big g s a e in
    let p = and_parts _ _ h in
    (subst (λ z. says_at true z s ≡ true) d (big-true g s b p.0), subst (λ z. lands z s ≡ true) f p.1)
gate-said false t s l e =
    let g : ℕ = store_gates + (trap_words + 2 * t) in
    let a : nat_le store_gates g ≡ true = grind (arith, nat_tests) in
    let b : nat_le counter_store_gates g ≡ false = grind (arith, nat_tests) in
    let d : (g - (store_gates + trap_words)) / 2 ≡ t = omega arith in
    let f : g - (store_gates - 1) ≡ trap_words + 2 * t + 1 = omega arith in
    let h = gate-big g s a e in
    let p = and_parts _ _ h in
    (subst (λ z. says_at false z s ≡ true) d (big-false g s b p.0), subst (λ z. lands z s ≡ true) f p.1)

-- the followers of a message's blocks
pub follow-even : (c : Bool) (t n : ℕ) → t < 400 → may_follow (base c + 2 * t) n ≡ true → In n ((base c + 2 * t) ∷ (store_gates + (base c + 2 * t)) ∷ (if c then counter_end_blocks else trap_end_blocks) ∷ [])
follow-even true t n l e =
    let a : nat_le trap_words (counter_words + 2 * t) ≡ true = grind (arith, nat_tests) in
    let b : ((counter_words + 2 * t) % 2 == 0) ≡ true = eq-eqb _ _ (omega arith) in
    let d : nat_le counter_words (counter_words + 2 * t) ≡ true = grind (arith, nat_tests) in
    member-In n ((counter_words + 2 * t) ∷ (store_gates + (counter_words + 2 * t)) ∷ counter_end_blocks ∷ []) (even-list (counter_words + 2 * t) n counter_end_blocks a b (rw d refl) e)
follow-even false t n l e =
    let a : nat_le trap_words (trap_words + 2 * t) ≡ true = grind (arith, nat_tests) in
    let b : ((trap_words + 2 * t) % 2 == 0) ≡ true = eq-eqb _ _ (omega arith) in
    let d : nat_le counter_words (trap_words + 2 * t) ≡ false = grind (arith, nat_tests) in
    member-In n ((trap_words + 2 * t) ∷ (store_gates + (trap_words + 2 * t)) ∷ trap_end_blocks ∷ []) (even-list (trap_words + 2 * t) n trap_end_blocks a b (rw d refl) e)

pub follow-odd : (k n : ℕ) → trap_words ≤ k → k % 2 ≡ 1 → may_follow k n ≡ true → In n ((k + 1) ∷ [])
follow-odd k n l o e =
    let a : nat_le trap_words k ≡ true = grind (arith, nat_tests) in
    let b : (k % 2 == 0) ≡ false = ne_eqb _ _ (omega arith) in
    member-In n ((k + 1) ∷ []) (odd-list k n a b e)

pub base-low : (c : Bool) (t : ℕ) → trap_words ≤ base c + 2 * t
base-low true t = omega arith
base-low false t = omega arith

pub base-top : (c : Bool) (t : ℕ) → t < 400 → base c + 2 * t + 1 < store_gates
base-top true t l = omega arith
base-top false t l = omega arith

pub base-even : (c : Bool) (t : ℕ) → (base c + 2 * t) % 2 ≡ 0
base-even true t = omega arith
base-even false t = omega arith

pub is_known-word : (s : Term) → is_known s ≡ true → is_known (word_term s) ≡ true
is_known-word (Lit n) e = refl
is_known-word (Var n) e = refl
is_known-word (Bin o a b) e = refl
is_known-word (Aligned a) e = refl
is_known-word Unknown e = absurd (false≢true e)

-- the end's blocks stand elsewhere
pub end-away : (user : List ℕ) (env : ℕ → ℕ) (c : Bool) (sys : System) → Here kernel user env blocks (if c then counter_end_blocks else trap_end_blocks) sys → (sys.hart.pc == pc_put_done) ≡ false
end-away user env true sys h = ap (λ z. z == pc_put_done) h.describes.at ∙ not-false (h.state.at == pc_put_done) (subst (λ z. speaks_ok z h.state ≡ true) h.kind (blocks_all-at speaks_ok kernel blocks h.block h.state speaks_right h.among h.on))
end-away user env false sys h = ap (λ z. z == pc_put_done) h.describes.at ∙ not-false (h.state.at == pc_put_done) (subst (λ z. speaks_ok z h.state ≡ true) h.kind (blocks_all-at speaks_ok kernel blocks h.block h.state speaks_right h.among h.on))

-- the end's blocks stand behind the others
pub end-behind : (user : List ℕ) (env : ℕ → ℕ) (c : Bool) (sys : System) → Here kernel user env blocks (if c then counter_end_blocks else trap_end_blocks) sys → nat_lt sys.hart.pc pc_close ≡ false
end-behind user env true sys h = ap (λ z. nat_lt z pc_close) h.describes.at ∙ not-false (nat_lt h.state.at pc_close) (subst (λ z. closes_ok z h.state ≡ true) h.kind (blocks_all-at closes_ok kernel blocks h.block h.state closes_right h.among h.on))
end-behind user env false sys h = ap (λ z. nat_lt z pc_close) h.describes.at ∙ not-false (nat_lt h.state.at pc_close) (subst (λ z. closes_ok z h.state ≡ true) h.kind (blocks_all-at closes_ok kernel blocks h.block h.state closes_right h.among h.on))

-- the message has as many bytes as terms
pub message-long : (env : ℕ → ℕ) (text : Spoken) (c : Bool) (t : ℕ) → Says text env → text.counter ≡ c → t < 400 → ends_here (base c + 2 * t) ≡ true → t ≡ length (message text)
message-long env text true t h e l q = or-elim (counter_words + 2 * t == trap_last_blocks) (counter_words + 2 * t == counter_last_blocks) q
    (λ r. let z = eqb-true (counter_words + 2 * t) trap_last_blocks r in absurd (omega arith))
    (λ r. let z = eqb-true (counter_words + 2 * t) counter_last_blocks r in let n : t ≡ 37 = omega arith in n ∙ counter-count ∙ ap length (message_terms-message env text true h e))
  where
    counter-count : 37 ≡ length (values env (message_terms true))
    counter-count = refl
message-long env text false t h e l q = or-elim (trap_words + 2 * t == trap_last_blocks) (trap_words + 2 * t == counter_last_blocks) q
    (λ r. let z = eqb-true (trap_words + 2 * t) trap_last_blocks r in let n : t ≡ 55 = omega arith in n ∙ trap-count ∙ ap length (message_terms-message env text false h e))
    (λ r. let z = eqb-true (trap_words + 2 * t) counter_last_blocks r in absurd (omega arith))
  where
    trap-count : 55 ≡ length (values env (message_terms false))
    trap-count = refl

-- the numbers of a message's blocks
module _ (n : ℕ) (s : State) (big : trap_words ≤ n) (small : n < store_gates) where
  is-big : nat_le trap_words n ≡ true
  is-big = grind (arith, nat_tests)

  is-small : nat_le store_gates n ≡ false
  is-small = grind (arith, nat_tests)

  pub speaks-even : n % 2 ≡ 0 → speaks_ok n s ≡ true → (s.at == pc_put_done) ≡ false
  speaks-even o e = go (nat_le store_gates n) (nat_le trap_words n) (n % 2 == 0) is-small is-big (eq-eqb _ _ o) e
    where
      go : (a b c : Bool) → a ≡ false → b ≡ true → c ≡ true
          → ◌≡◌ {A = Bool} (elim a [ true ↦ true | false ↦ elim b [ true ↦ elim c [ true ↦ not (s.at == pc_put_done) | false ↦ s.at == pc_put_done ] | false ↦ elim (n == choosing_blocks || n == trap_end_blocks || n == counter_end_blocks) [ true ↦ not (s.at == pc_put_done) | false ↦ elim (n == tested_blocks) [ true ↦ s.at == pc_wait_test | false ↦ elim (n == boot_tested_blocks) [ true ↦ s.at == pc_boot_test | false ↦ true ] ] ] ] ]) true
          → (s.at == pc_put_done) ≡ false
      go false true true p q r h = not-false _ h
      go true b c p q r h = absurd (false≢true (sym p))
      go false false c p q r h = absurd (false≢true q)
      go false true false p q r h = absurd (false≢true r)

  pub speaks-odd : n % 2 ≡ 1 → speaks_ok n s ≡ true → (s.at == pc_put_done) ≡ true
  speaks-odd o e = go (nat_le store_gates n) (nat_le trap_words n) (n % 2 == 0) is-small is-big (ne_eqb _ _ (omega arith)) e
    where
      go : (a b c : Bool) → a ≡ false → b ≡ true → c ≡ false
          → ◌≡◌ {A = Bool} (elim a [ true ↦ true | false ↦ elim b [ true ↦ elim c [ true ↦ not (s.at == pc_put_done) | false ↦ s.at == pc_put_done ] | false ↦ elim (n == choosing_blocks || n == trap_end_blocks || n == counter_end_blocks) [ true ↦ not (s.at == pc_put_done) | false ↦ elim (n == tested_blocks) [ true ↦ s.at == pc_wait_test | false ↦ elim (n == boot_tested_blocks) [ true ↦ s.at == pc_boot_test | false ↦ true ] ] ] ] ]) true
          → (s.at == pc_put_done) ≡ true
      go false true false p q r h = h
      go true b c p q r h = absurd (false≢true (sym p))
      go false false c p q r h = absurd (false≢true q)
      go false true true p q r h = absurd (false≢true (sym r))

  pub leads-odd : n % 2 ≡ 1 → leads_ok n s ≡ true → test (successors kernel s) (all_at (λ a. not (a == pc_put_done))) ≡ true
  leads-odd o e = go (nat_le store_gates n) (n == passed_blocks) (nat_le trap_words n) (n % 2 == 0) is-small (ne_eqb _ _ (omega arith)) is-big (ne_eqb _ _ (omega arith)) e
    where
      go : (a f b c : Bool) → a ≡ false → f ≡ false → b ≡ true → c ≡ false
          → ◌≡◌ {A = Bool} (elim a [
            | true ↦ true
            | false ↦ elim f [
              | true ↦ test (successors kernel s) (all_at (λ a. not (a == pc_path_passed)))
              | false ↦ elim b [
                | true ↦ elim c [ true ↦ true | false ↦ test (successors kernel s) (all_at (λ a. not (a == pc_put_done))) ]
                | false ↦ elim (n == tested_blocks) [ true ↦ test (successors kernel s) (all_at (λ a. not (a == pc_wait_test))) | false ↦ elim (n == boot_tested_blocks) [ true ↦ test (successors kernel s) (all_at (λ a. not (a == pc_boot_test))) | false ↦ true ] ]
              ]
            ]
          ]) true
          → test (successors kernel s) (all_at (λ a. not (a == pc_put_done))) ≡ true
      go false false true false p q r u h = h
      go true f b c p q r u h = absurd (false≢true (sym p))
      go false true b c p q r u h = absurd (false≢true (sym q))
      go false false false c p q r u h = absurd (false≢true r)
      go false false true true p q r u h = absurd (false≢true (sym u))

  pub closes-big : closes_ok n s ≡ true → ends_here n ≡ false → test (successors kernel s) (all_at (λ a. nat_lt a pc_close)) ≡ true
  closes-big e f = go (nat_le store_gates n) (nat_le trap_words n) (ends_here n) is-small is-big f e
    where
      go : (a b c : Bool) → a ≡ false → b ≡ true → c ≡ false
          → ◌≡◌ {A = Bool} (elim a [ true ↦ true | false ↦ elim b [ true ↦ elim c [ true ↦ true | false ↦ test (successors kernel s) (all_at (λ a. nat_lt a pc_close)) ] | false ↦ elim (n == trap_end_blocks || n == counter_end_blocks) [ true ↦ not (nat_lt s.at pc_close) | false ↦ true ] ] ]) true
          → test (successors kernel s) (all_at (λ a. nat_lt a pc_close)) ≡ true
      go false true false p q r h = h
      go true b c p q r h = absurd (false≢true (sym p))
      go false false c p q r h = absurd (false≢true q)
      go false true true p q r h = absurd (false≢true (sym r))

  pub shut : is_open n ≡ false
  shut = grind (arith, nat_tests, is-big, is-small)
