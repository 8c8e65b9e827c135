-- Where a run stands, from one step to the next.
use Rattle.std.proofs.Common.{◌≡◌, ◌≤◌, ◌<◌, ◌+◌, ◌-◌, ℕ, zero, suc, List, Option, Some, None, Bool, true, false, ap, sym, subst, ◌∙◌, refl, inl, inr, arith}
use Rattle.std.specs.Prelude.{◌↔◌}
use Rattle.std.proofs.Math.Nat.{eq-or-lt_of_le}
use Rattle.std.proofs.lemmas.Bool.{cases_lt, false≢true}
use Rattle.folder_tree.specs.Paths.{Parts}
use Rattle.folder_tree.specs.Tree.{Tree}
use Rattle.folder_tree.specs.TreeOps.{opened}
use Rattle.host_text.specs.World.{Contents}
use Rattle.syscall_proxy.specs.Kept.{Setting}
use Rattle.plain_machine.specs.Asks.{step_cuts}
use Rattle.plain_machine.specs.Direct.{Machine, running, dying, ended, DirectState, direct_step, direct_after, direct_after-zero, direct_after-next, status_of, moves_on}
use Rattle.plain_machine.specs.Stands.{PlainState, Tells, IsAt, direct_of, made, TreeStays, HasFiles, Spares, Leaves, LoneRan, MachineAt, PlainRan, end_opens}
use Rattle.plain_machine.specs.UserStep.{next, moves}
use Rattle.plain_machine.specs.declared.plain.PlainEnd.{PlainEnd}
use Rattle.plain_machine.specs.declared.plain.PlainEnd.TheVariants.{Exited, StepsSpent, Fault}
use Rattle.plain_machine.specs.declared.plain.PlainFault.{PlainFault}

-- a run that began with `old` at `first` stands at a machine and told objects, and before each of its steps the machine had not ended
pub record StandsAt (old : PlainState) (first : DirectState) (plain : PlainState) (input console : Option (List ℕ)) (tree : Option Tree) : Type 0 where
  pub at : IsAt (direct_after old.given (made old plain) first) plain input console tree
  pub earlier : (n : ℕ) → n < made old plain → status_of (direct_after old.given n first).machine ≡ None

-- a machine over the contents of a state where it stands is that state
here-is : (s : DirectState) (mid : PlainState) {input console : Option (List ℕ)} {tree : Option Tree} → IsAt s mid input console tree → direct_of mid s.world.contents ≡ s
here-is s mid at = λ i. record { machine = at.machine_is i; world = record { contents = s.world.contents; numbers = at.numbers_is i } }

-- so many direct steps, and so many more
direct-sum : (given : Setting) (n k : ℕ) (s : DirectState) → direct_after given (k + n) s ≡ direct_after given k (direct_after given n s)
unfolding direct_after
direct-sum given n zero s = let none : zero + n ≡ n = omega arith in ap (λ j. direct_after given j s) none
direct-sum given n (suc k) s = let more : suc k + n ≡ suc (k + n) = omega arith in ap (λ j. direct_after given j s) more ∙ ap (direct_step given) (direct-sum given n k s)

-- a machine that moves on has not ended
moves-runs : (m : Machine) → moves_on m ≡ true → status_of m ≡ None
moves-runs (running process) on = refl
moves-runs (dying text status) on = refl
moves-runs (ended status) on = absurd (false≢true on)

-- what holds of each state before the last one, and of the last one, holds of each
each-next : (Q : DirectState → Type 0) (given : Setting) (s : DirectState) (n m : ℕ) → m ≡ n + 1 → Q (direct_after given n s)
    → ((k : ℕ) → k < n → Q (direct_after given k s)) → (k : ℕ) → k < m → Q (direct_after given k s)
each-next Q given s n m more here before k low =
    let up : k ≤ n = omega arith in
    elim (eq-or-lt_of_le up) [ inl last ↦ subst (λ (j : ℕ). Q (direct_after given j s)) (sym last) here | inr below ↦ before k below ]

-- what holds of each state before a walk, and of each of the walk's, holds of each
each-walk : (Q : DirectState → Type 0) (given : Setting) (s : DirectState) (n k m : ℕ) (mid : DirectState) → m ≡ k + n → mid ≡ direct_after given n s
    → ((j : ℕ) → j < k → Q (direct_after given j mid))
    → ((j : ℕ) → j < n → Q (direct_after given j s)) → (j : ℕ) → j < m → Q (direct_after given j s)
each-walk Q given s n k m mid more from walk before j low = elim (cases_lt j n) [ inl below ↦ before j below | inr beyond ↦ further beyond ]
  where
    further : n ≤ j → Q (direct_after given j s)
    further beyond =
        let place : j ≡ (j - n) + n = omega arith in
        let there : direct_after given j s ≡ direct_after given (j - n) mid = ap (λ i. direct_after given i s) place ∙ direct-sum given n (j - n) s ∙ ap (λ d. direct_after given (j - n) d) (sym from) in
        subst Q (sym there) (walk (j - n) (omega arith))

-- a run stands where it begins
pub StandsAt-begin : (old : PlainState) (first : DirectState) {input console : Option (List ℕ)} {tree : Option Tree} → IsAt first old input console tree → StandsAt old first old input console tree
StandsAt-begin old first {input} {console} {tree} at =
    let none : made old old ≡ 0 = omega arith in
    let same : direct_after old.given (made old old) first ≡ first = ap (λ k. direct_after old.given k first) none ∙ direct_after-zero old.given first in
    record {
      at = subst (λ s. IsAt s old input console tree) (sym same) at;
      earlier = λ n low. absurd (omega (arith, none, low));
    }

-- a run that goes on by a walk, which changes no world, stands where the walk leads
pub StandsAt-walk : (old : PlainState) (first : DirectState) (mid new : PlainState) {input console : Option (List ℕ)} {tree : Option Tree}
    → old.steps ≤ mid.steps → mid.steps ≤ new.steps → mid.given ≡ old.given
    → ((c : Contents) → direct_after mid.given (new.steps - mid.steps) (direct_of mid c) ≡ direct_of new c)
    → ((c : Contents) (j : ℕ) → j < new.steps - mid.steps → moves_on (direct_after mid.given j (direct_of mid c)).machine ≡ true)
    → StandsAt old first mid input console tree → StandsAt old first new input console tree
StandsAt-walk old first mid new {input} {console} {tree} later more given walk each stands =
    let n : ℕ = made old mid in
    let k : ℕ = new.steps - mid.steps in
    let m : ℕ = made old new in
    let sum : m ≡ k + n = omega (arith, later, more) in
    let s : DirectState = direct_after old.given n first in
    let c : Contents = s.world.contents in
    let from : direct_of mid c ≡ s = here-is s mid stands.at in
    let steps : direct_after old.given k (direct_of mid c) ≡ direct_of new c = ap (λ g. direct_after g k (direct_of mid c)) (sym given) ∙ walk c in
    let to : direct_after old.given m first ≡ direct_of new c = ap (λ j. direct_after old.given j first) sum ∙ direct-sum old.given n k first ∙ ap (λ d. direct_after old.given k d) (sym from) ∙ steps in
    let here : IsAt (direct_of new c) new input console tree = record { machine_is = refl; numbers_is = refl; contents = stands.at.contents } in
    let on : (j : ℕ) → j < k → status_of (direct_after old.given j (direct_of mid c)).machine ≡ None =
    λ j low. ap (λ g. status_of (direct_after g j (direct_of mid c)).machine) (sym given) ∙ moves-runs _ (each c j low) in
    record {
      at = subst (λ d. IsAt d new input console tree) (sym to) here;
      earlier = each-walk (λ (d : DirectState). status_of d.machine ≡ None) old.given first n k m (direct_of mid c) sum from on stands.earlier;
    }

-- a run that then makes a step stands where the step leads
pub StandsAt-next : (old : PlainState) (first : DirectState) (mid new : PlainState) {input console input' console' : Option (List ℕ)} {tree tree' : Option Tree}
    → old.steps ≤ mid.steps → new.steps ≡ mid.steps + 1 → mid.given ≡ old.given → status_of mid.machine ≡ None
    → ((c : Contents) → Tells c input console tree → IsAt (direct_step mid.given (direct_of mid c)) new input' console' tree')
    → StandsAt old first mid input console tree → StandsAt old first new input' console' tree'
StandsAt-next old first mid new {input' = input'} {console' = console'} {tree' = tree'} later more given runs step stands =
    let n : ℕ = made old mid in
    let m : ℕ = made old new in
    let next : m ≡ n + 1 = omega (arith, later, more) in
    let s : DirectState = direct_after old.given n first in
    let from : direct_of mid s.world.contents ≡ s = here-is s mid stands.at in
    let to : direct_step mid.given (direct_of mid s.world.contents) ≡ direct_after old.given m first =
    ap (λ g. direct_step g (direct_of mid s.world.contents)) given ∙ ap (direct_step old.given) from ∙ sym (ap (λ k. direct_after old.given k first) next ∙ direct_after-next old.given n first) in
    let here : status_of s.machine ≡ None = ap status_of (sym stands.at.machine_is) ∙ runs in
    record {
      at = subst (λ d. IsAt d new input' console' tree') to (step s.world.contents stands.at.contents);
      earlier = each-next (λ (d : DirectState). status_of d.machine ≡ None) old.given first n m next here stands.earlier;
    }

-- ---- whatever the objects tell

-- a run stands so as if the objects told some contents
pub record StandsLone (old : PlainState) (first : DirectState) (plain : PlainState) : Type 0 where
  pub as_told : Contents
  pub stands : StandsAt old first plain (Some as_told.input) (Some as_told.console) (Some as_told.tree)

pub StandsLone-begin : (old : PlainState) (contents : Contents) → StandsLone old (direct_of old contents) old
StandsLone-begin old contents = record {
  as_told = contents;
  stands = StandsAt-begin old (direct_of old contents) (record { machine_is = refl; numbers_is = refl; contents = record { input_told = refl; console_told = refl; tree_told = refl } });
}

pub StandsLone-walk : (old : PlainState) (first : DirectState) (mid new : PlainState) → old.steps ≤ mid.steps → mid.steps ≤ new.steps → mid.given ≡ old.given
    → ((c : Contents) → direct_after mid.given (new.steps - mid.steps) (direct_of mid c) ≡ direct_of new c)
    → ((c : Contents) (j : ℕ) → j < new.steps - mid.steps → moves_on (direct_after mid.given j (direct_of mid c)).machine ≡ true)
    → StandsLone old first mid → StandsLone old first new
StandsLone-walk old first mid new later more given walk each s = record { as_told = s.as_told; stands = StandsAt-walk old first mid new later more given walk each s.stands }

-- contents that are told as others are those
contents-same : (c d : Contents) → Tells c (Some d.input) (Some d.console) (Some d.tree) → d ≡ c
contents-same c d told =
    let e : Some d.input ≡ Some c.input = told.input_told in
    let input : d.input ≡ c.input = cc in
    let h : Some d.console ≡ Some c.console = told.console_told in
    let console : d.console ≡ c.console = cc in
    let k : Some d.tree ≡ Some c.tree = told.tree_told in
    let tree : d.tree ≡ c.tree = cc in
    λ i. record { input = input i; console = console i; tree = tree i }

pub StandsLone-next : (old : PlainState) (first : DirectState) (mid new : PlainState) → old.steps ≤ mid.steps → new.steps ≡ mid.steps + 1 → mid.given ≡ old.given → status_of mid.machine ≡ None
    → ((c : Contents) → MachineAt (direct_step mid.given (direct_of mid c)) new.machine new.numbers)
    → StandsLone old first mid → StandsLone old first new
StandsLone-next old first mid new later more given runs step s =
    let d : DirectState = direct_step mid.given (direct_of mid s.as_told) in
    let k : Contents = d.world.contents in
    let here : IsAt d new (Some k.input) (Some k.console) (Some k.tree) =
    record { machine_is = (step s.as_told).machine_is; numbers_is = (step s.as_told).numbers_is; contents = record { input_told = refl; console_told = refl; tree_told = refl } } in
    record {
      as_told = k;
      stands = StandsAt-next old first mid new later more given runs
          (λ c told. subst (λ (z : Contents). IsAt (direct_step mid.given (direct_of mid z)) new (Some k.input) (Some k.console) (Some k.tree)) (contents-same c s.as_told told) here) s.stands;
    }

pub StandsLone-ran : (old : PlainState) (first : DirectState) (new : PlainState) → StandsLone old first new → LoneRan first old new
StandsLone-ran old first new s = record { at = record { machine_is = s.stands.at.machine_is; numbers_is = s.stands.at.numbers_is }; earlier = s.stands.earlier }

-- a machine with a status has ended with it
pub ended-by-status : (m : Machine) (status : ℕ) → status_of m ≡ Some status → m ≡ ended status
ended-by-status (running process) status h = cc
ended-by-status (dying text s) status h = cc
ended-by-status (ended s) status h = cc

-- one file opened once more leaves the files
files-stay : (b : Bool) (root : Parts) (t : Tree) (told : Option Tree) → TreeStays b root t told → HasFiles t told
files-stay false root t told e = (t, e, refl)
files-stay true root t told (inl e) = (t, e, refl)
files-stay true root t told (inr (path, number, below, at, is)) = (opened t number, is, refl)

spared-leaves : (b : Bool) (root : Parts) (c : Contents) {input console : Option (List ℕ)} {tree : Option Tree} → Spares b root c input console tree → Leaves c input console tree
spared-leaves b root c {tree = tree} s = record { input_told = s.input_told; console_told = s.console_told; files_told = files-stay b root c.tree tree s.tree_stays }

-- a run that ends where it stands
pub ran-to : (old : PlainState) (first : DirectState) (new : PlainState) (end : PlainEnd) {input console : Option (List ℕ)} {tree : Option Tree}
    → end_opens end new.machine ≡ false → ((status : ℕ) → (end ≡ Exited status) ↔ (new.machine ≡ ended status))
    → StandsAt old first new input console tree → PlainRan first old new end input console tree
ran-to old first new end {input} {console} {tree} shut exits stands =
    let s : DirectState = direct_after old.given (made old new) first in
    let told = stands.at.contents in
    let spared : Spares false old.given.root s.world.contents input console tree = record { input_told = told.input_told; console_told = told.console_told; tree_stays = told.tree_told } in
    record {
      ran = record {
        contents = spared-leaves false old.given.root s.world.contents spared;
        earlier = stands.earlier;
        exited = λ status. (λ e. sym stands.at.machine_is ∙ (exits status).0 e, λ e. (exits status).1 (stands.at.machine_is ∙ e));
      };
      machine = stands.at.machine_is;
      numbers = stands.at.numbers_is;
      spared = subst (λ b. Spares b old.given.root s.world.contents input console tree) (sym shut) spared;
    }

-- a run that a fault stops
pub ran-fault : (old : PlainState) (first : DirectState) (mid new : PlainState) (fault : PlainFault) {input console input' console' : Option (List ℕ)} {tree tree' : Option Tree}
    → new ≡ mid → mid.given ≡ old.given → status_of mid.machine ≡ None
    → ((c : Contents) → Tells c input console tree → Spares (step_cuts mid.machine) mid.given.root c input' console' tree')
    → StandsAt old first mid input console tree → PlainRan first old new (Fault fault) input' console' tree'
ran-fault old first mid new fault {input' = input'} {console' = console'} {tree' = tree'} kept given runs spares stands =
    let s : DirectState = direct_after old.given (made old mid) first in
    let spared : Spares (step_cuts mid.machine) old.given.root s.world.contents input' console' tree' =
    subst (λ (g : Setting). Spares (step_cuts mid.machine) g.root s.world.contents input' console' tree') given (spares s.world.contents stands.at.contents) in
    let no : (status : ℕ) → s.machine ≡ ended status → Fault fault ≡ Exited status = λ status e. let clash : None ≡ Some status = sym runs ∙ ap status_of (stands.at.machine_is ∙ e) in cc in
    let here : PlainRan first old mid (Fault fault) input' console' tree' = record {
      ran = record {
        contents = spared-leaves (step_cuts mid.machine) old.given.root s.world.contents spared;
        earlier = stands.earlier;
        exited = λ status. (λ e. let no : ⊥ = cc in absurd no, no status);
      };
      machine = stands.at.machine_is;
      numbers = stands.at.numbers_is;
      spared = spared;
    } in
    subst (λ (plain : PlainState). PlainRan first old plain (Fault fault) input' console' tree') (sym kept) here

-- how a run says that its program has ended
pub exits-some : (m : Machine) (s : ℕ) → status_of m ≡ Some s → (status : ℕ) → (Exited s ≡ Exited status) ↔ (m ≡ ended status)
exits-some m s is status = (
  λ e. let same : s ≡ status = cc in ended-by-status m status (is ∙ ap Some same),
  λ e. let same : Some s ≡ Some status = sym is ∙ ap status_of e in let k : s ≡ status = cc in ap Exited k,
)

-- and that it has not
pub exits-none : (m : Machine) → status_of m ≡ None → (status : ℕ) → (StepsSpent ≡ Exited status) ↔ (m ≡ ended status)
exits-none m is status = (λ e. let clash : ⊥ = cc in absurd clash, λ e. let same : None ≡ Some status = sym is ∙ ap status_of e in let clash : ⊥ = cc in absurd clash)
