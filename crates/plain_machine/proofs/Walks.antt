-- Where user steps lead that move on, one after the other.
use Rattle.std.proofs.Common.{◌≡◌, ◌≢◌, ◌≤◌, ◌<◌, ◌+◌, ℕ, zero, suc, true, ap, sym, subst, ◌∙◌, refl, inl, inr, arith}
use Rattle.std.proofs.Math.Nat.{eq-or-lt_of_le}
use Rattle.std.proofs.lemmas.Bool.{false≢true}
use Rattle.plain_machine.specs.UserStep.{UserState, UserStep, next, call, trap, user_step, step_of, Stays, moves, state_after, walked, walked-zero, walked-next}
use Rattle.plain_machine.specs.declared.cpu.Outcome.{Outcome}
use Rattle.plain_machine.specs.declared.cpu.Outcome.TheVariants.{Moved, Called, Trapped}
use Rattle.host_text.specs.World.{World}
use Rattle.syscall_proxy.specs.Kept.{Setting}
use Rattle.plain_machine.specs.Programs.{Process}
use Rattle.plain_machine.specs.Direct.{Machine, DirectState, running, after_step, in_world, direct_step, direct_after, moves_on}

-- one step more leads on
pub walk-next : (n : ℕ) (first mid new : UserState) → mid ≡ walked n first → user_step mid ≡ next new → new ≡ walked (n + 1) first
walk-next n first mid new at step =
    let here : user_step (walked n first) ≡ next new = ap user_step (sym at) ∙ step in
    sym (walked-next n first ∙ ap (λ u. state_after u (walked n first)) here)

-- one step more, which moves on
pub walk-each : (n : ℕ) (first mid new : UserState) → mid ≡ walked n first → user_step mid ≡ next new
    → ((k : ℕ) → k < n → moves (user_step (walked k first)) ≡ true) → (k : ℕ) → k < n + 1 → moves (user_step (walked k first)) ≡ true
walk-each n first mid new at step before k low =
    let up : k ≤ n = omega arith in
    let here : moves (user_step (walked n first)) ≡ true = ap (λ state. moves (user_step state)) (sym at) ∙ ap moves step in
    elim (eq-or-lt_of_le up) [ inl last ↦ subst (λ (j : ℕ). moves (user_step (walked j first)) ≡ true) (sym last) here | inr below ↦ before k below ]

-- a user step that moves on is a direct step that moves on
moved-on : (given : Setting) (process : Process) (w : World) (u : UserStep) → moves u ≡ true
    → after_step given process w u ≡ in_world (running (record process { state = state_after u process.state })) w
moved-on given process w (next moved) on = refl
moved-on given process w call on = absurd (false≢true on)
moved-on given process w (trap cause value) on = absurd (false≢true on)

-- so many user steps that move on are so many direct steps
running-direct : (given : Setting) (first : Process) (w : World) (n : ℕ) → ((k : ℕ) → k < n → moves (user_step (walked k first.state)) ≡ true)
    → direct_after given n (in_world (running first) w) ≡ in_world (running (record first { state = walked n first.state })) w
unfolding direct_after walked
running-direct given first w zero each = refl
running-direct given first w (suc n) each =
    let rest = running-direct given first w n (λ k low. each k (omega arith)) in
    let state : UserState = walked n first.state in
    ap (direct_step given) rest ∙ moved-on given (record first { state = state }) w (user_step state) (each n (omega arith))

-- a machine that runs, and walks so many user steps
pub walk-direct : (old new : Machine) (first : Process) (state final : UserState) (n : ℕ)
    → final ≡ walked n state → ((k : ℕ) → k < n → moves (user_step (walked k state)) ≡ true)
    → old ≡ running first → first.state ≡ state → new ≡ running (record first { state = final })
    → (given : Setting) (w : World) → direct_after given n (in_world old w) ≡ in_world new w
walk-direct old new first state final n at each from begins to given w =
    let on : (k : ℕ) → k < n → moves (user_step (walked k first.state)) ≡ true = λ k low. rw begins (each k low) in
    let reached : (record first { state = walked n first.state }) ≡ (record first { state = final }) =
    ap (λ s. record first { state = walked n s }) begins ∙ ap (λ s. record first { state = s }) (sym at) in
    ap (λ (m : Machine). direct_after given n (in_world m w)) from ∙ running-direct given first w n on
    ∙ ap (λ p. in_world (running p) w) reached ∙ sym (ap (λ (m : Machine). in_world m w) to)

-- and each of its steps moves on
pub walk-moves : (old : Machine) (first : Process) (state final : UserState) (n : ℕ)
    → final ≡ walked n state → ((k : ℕ) → k < n → moves (user_step (walked k state)) ≡ true)
    → old ≡ running first → first.state ≡ state
    → (given : Setting) (w : World) (k : ℕ) → k < n → moves_on (direct_after given k (in_world old w)).machine ≡ true
walk-moves old first state final n at each from begins given w k low =
    let on : (j : ℕ) → j < n → moves (user_step (walked j first.state)) ≡ true = λ j below. rw begins (each j below) in
    let there = running-direct given first w k (λ j below. on j (omega arith)) in
    ap (λ (m : Machine). moves_on (direct_after given k (in_world m w)).machine) from ∙ ap (λ (s : DirectState). moves_on s.machine) there ∙ on k low

-- a user step that moves on leads to the state after it
next-after : (u : UserStep) (state : UserState) → moves u ≡ true → u ≡ next (state_after u state)
next-after (next moved) state on = refl
next-after call state on = absurd (false≢true on)
next-after (trap cause value) state on = absurd (false≢true on)

-- a walk of one step is the user step
pub one-step : (old new : UserState) (count : ℕ) → new ≡ walked count old → ((n : ℕ) → n < count → moves (user_step (walked n old)) ≡ true) → count ≡ 1 → user_step old ≡ next new
one-step old new count at each one =
    let from : walked 0 old ≡ old = walked-zero old in
    let on : moves (user_step old) ≡ true = ap (λ state. moves (user_step state)) (sym from) ∙ each 0 (omega (arith, one)) in
    let reached : new ≡ state_after (user_step old) old = at ∙ ap (λ n. walked n old) one ∙ walked-next 0 old ∙ ap (λ state. state_after (user_step state) state) from in
    next-after (user_step old) old on ∙ ap next (sym reached)

-- a walk of no step stays where it is
pub no-step : (old new : UserState) (count : ℕ) → new ≡ walked count old → count < 1 → new ≡ old
no-step old new count at few = let none : count ≡ 0 = omega (arith, few) in at ∙ ap (λ n. walked n old) none ∙ walked-zero old

-- a walk of at most one step does what the user step says
pub step-of_walk : (old new : UserState) (count : ℕ) (outcome : Outcome) → new ≡ walked count old → ((n : ℕ) → n < count → moves (user_step (walked n old)) ≡ true)
    → (outcome ≡ Moved → count ≡ 1) → (outcome ≢ Moved → (count < 1) × (user_step new ≡ step_of outcome new)) → user_step old ≡ step_of outcome new
step-of_walk old new count Moved at each moved stopped = one-step old new count at each (moved refl)
step-of_walk old new count Called at each moved stopped = ap user_step (sym (no-step old new count at (stopped (λ is. cc)).0)) ∙ (stopped (λ is. cc)).1
step-of_walk old new count (Trapped trapped) at each moved stopped = ap user_step (sym (no-step old new count at (stopped (λ is. cc)).0)) ∙ (stopped (λ is. cc)).1

-- and leaves the state where it did not move on
pub stays-of_walk : (old new : UserState) (count : ℕ) (outcome : Outcome) → new ≡ walked count old
    → (outcome ≢ Moved → (count < 1) × (user_step new ≡ step_of outcome new)) → Stays outcome old new
stays-of_walk old new count Moved at stopped = tt
stays-of_walk old new count Called at stopped = no-step old new count at (stopped (λ is. cc)).0
stays-of_walk old new count (Trapped trapped) at stopped = no-step old new count at (stopped (λ is. cc)).0
