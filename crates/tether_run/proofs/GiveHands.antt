-- The part of a host turn on fromhost, from where a session stands.
use Rattle.std.proofs.Common.{◌≡◌, ◌≢◌, ℕ, inl, inr, Bool, true, false, List, [], ◌∷◌, refl, sym, ap, subst, ◌∙◌}
use Rattle.std.specs.Prelude.{slice_index, Result, Ok, Err}
use Rattle.chunk_memory.specs.declared.stops.MemStop.{MemStop}
use Rattle.fe_base.specs.MemoryMap.{fromhost}
use Rattle.host_text.specs.Played.{Played, ended as done, looked}
use Rattle.host_text.specs.World.{World}
use Rattle.htif_mailbox.specs.Turns.{call_answer, give_first, give_text, gone}
use Rattle.kernel_sim.specs.declared.phase.PhaseKind.{PhaseKind}
use Rattle.kernel_sim.specs.declared.phase.UserState.{UserState as Program}
use Rattle.plain_machine.specs.Direct.{DirectState}
use Rattle.plain_machine.specs.Starts.{Configuration, direct_start, setting_of}
use Rattle.rv_hart.specs.HartStep.{System}
use Rattle.syscall_proxy.specs.Kept.{Kept, Setting, kept}
use Rattle.syscall_proxy.specs.Worlds.{IsWorld}
use Rattle.tether_base.proofs.SessionLaws.{gives_answers}
use Rattle.tether_base.specs.Behind.{BehindAnswer, HasActed, TakesBack, waits}
use Rattle.tether_base.specs.Place.{Book}
use Rattle.tether_base.specs.Serving.{GiveLeaves, Giving, Here, IsAnswered, TellsAll, was_given, not_given}
use Rattle.tether_base.specs.Serving.{given_and_cut}
use Rattle.tether_base.specs.ToldActs.{seen_acts}
use Rattle.tether_base.specs.Waiting.{CallState}
use Rattle.tether_boot.proofs.BootLaws.{gives_boot}
use Rattle.tether_boot.specs.Booting.{BehindBoot, StartsUp, asks as boot_asks}
use Rattle.tether_boot.specs.Handing.{BootGiven, InBootWait, was_given as boot_given, not_given as boot_not_given}
use Rattle.tether_boot.specs.Handing.{given_and_cut as boot_cut}
use Rattle.tether_run.proofs.HandSteps.{hands_stay}
use Rattle.tether_run.proofs.Placed.{hand-open}
use Rattle.tether_run.proofs.WordHands.{one-waits}
use Rattle.tether_run.specs.Hands.{Hand, Standing, starts, begins, runs, prepares, answers, asks, queued, returns, says}
use Rattle.tether_run.specs.HostTurns.{CountsOn, GivesHands, GivesTo, IsOpen}

module _ (c : Configuration) (w : World) (book : Book) (world : IsWorld w) where
  abbrev given : Setting
  given = setting_of c

  abbrev start : DirectState
  start = direct_start c

  abbrev Gives : Result Bool MemStop → Here → Type 0
  Gives r s = GivesTo c r book s

  stands-on : (r : Result Bool MemStop) (s : Here) (gave : Bool) → r ≡ Ok gave → Standing c book s → Gives r s
  stands-on r s gave e stands = subst (λ (q : Result Bool MemStop). GivesTo c q book s) (sym e) stands

  is-open : (r : Result Bool MemStop) (s : Here) (why : MemStop) → r ≡ Err why → IsOpen c book s → Gives r s
  is-open r s why e opens = subst (λ (q : Result Bool MemStop). GivesTo c q book s) (sym e) opens

  -- what is told stays
  tells-on : (before s : Here) (k now : Kept) → TellsAll w.contents k before → GiveLeaves before now s
      → TellsAll w.contents now s
  tells-on before s k now told left = record {
    tree_is = left.folder_is ∙ told.tree_is;
    input_is = left.input_is ∙ told.input_is;
    console_is = left.console_is ∙ told.console_is;
    kept_is = left.kept_is;
  }

  -- ---- the answer to a call
  module _ (call : CallState) (user : List ℕ)
      (acted : HasActed given start w book call.steps (slice_index call.request 0) call.program user) where
    -- the kernel is to take it
    answered-hand : (sys : System) → IsAnswered call user sys → Hand c w book [] sys
    answered-hand sys a =
        let A : ℕ → ℕ → Program → List ℕ → Type 0 = λ steps value u l. HasActed given start w book steps value u l in
        let one : A sys.hart.user_steps (slice_index call.request 0) call.program user =
        subst (λ (n : ℕ). A n (slice_index call.request 0) call.program user) (sym a.steps_are) acted in
        let two : A sys.hart.user_steps (slice_index a.phase.request 0) call.program user =
        subst (λ (l : List ℕ). A sys.hart.user_steps (slice_index l 0) call.program user) (sym a.request_is) one in
        let three : A sys.hart.user_steps (slice_index a.phase.request 0) a.phase.user user =
        subst (λ (u : Program). A sys.hart.user_steps (slice_index a.phase.request 0) u user) (sym a.program_is)
        two in
        let four : A sys.hart.user_steps (slice_index a.phase.request 0) a.phase.user sys.bus.user =
        subst (λ (l : List ℕ). A sys.hart.user_steps (slice_index a.phase.request 0) a.phase.user l) (sym a.user_is)
        three in
        let some : call_answer ≢ 0 = λ e. let no : ⊥ = cc in no in
        let B : PhaseKind → Type 0 = λ k. BehindAnswer given start w book k a.phase sys in
        returns a.phase (record { holds = a.holds; fits = a.fits }) (subst TakesBack (sym a.kind) waits) refl
        (subst B (sym a.kind) ((λ none. some (sym a.fromhost_is ∙ none)), four))

    given-call : (was : Bool) (before s : Here) (r : Result Bool MemStop) → call.tohost ≡ 0 → CountsOn s
        → TellsAll w.contents (kept w.numbers was (call_answer ∷ [])) before → Giving call user before r s → Gives r s
    given-call was before s r empty small told (was_given mid steps e a on left) =
        stands-on r s true e (record {
          world = w;
          in_a_world = world;
          waiting = [];
          acted = was;
          tells = tells-on before s _ (kept w.numbers was []) told (record {
            folder_is = left.folder_is;
            input_is = left.input_is;
            console_is = left.console_is;
            kept_is = left.kept_is ∙ ap gone told.kept_is;
          });
          hand = hands_stay c w book [] mid s.port steps world small on (answered-hand mid a);
        })
    given-call was before s r empty small told (not_given why e wait left) =
        is-open r s why e (hand-open c w book (call_answer ∷ []) before.kept s
        (tells-on before s _ before.kept told left) (queued call user wait empty refl acted))
    given-call was before s r empty small told (given_and_cut why mid steps e a on left) =
        is-open r s why e (hand-open c w book [] before.kept s (tells-on before s _ before.kept told left)
        (hands_stay c w book [] mid s.port steps world small on (answered-hand mid a)))

  -- ---- the answer to the call for the main vars
  boot-hand : (ws : List ℕ) (sys : System) → InBootWait c w book ws sys → Hand c w book ws sys
  boot-hand ws sys wait =
      let B : PhaseKind → Type 0 = λ k. BehindBoot c w book ws k wait.phase sys in
      begins wait.phase (record { holds = wait.holds; fits = wait.fits })
      (subst StartsUp (sym wait.kind) boot_asks) (subst B (sym wait.kind) wait.behind)

  given-boot : (was : Bool) (before s : Here) (r : Result Bool MemStop) → CountsOn s
      → TellsAll w.contents (kept w.numbers was (call_answer ∷ [])) before → BootGiven c w book before r s → Gives r s
  given-boot was before s r small told (boot_given mid steps e wait on left) =
      stands-on r s true e (record {
        world = w;
        in_a_world = world;
        waiting = [];
        acted = was;
        tells = tells-on before s _ (kept w.numbers was []) told (record {
          folder_is = left.folder_is;
          input_is = left.input_is;
          console_is = left.console_is;
          kept_is = left.kept_is ∙ ap gone told.kept_is;
        });
        hand = hands_stay c w book [] mid s.port steps world small on (boot-hand [] mid wait);
      })
  given-boot was before s r small told (boot_not_given why e wait left) =
      is-open r s why e (hand-open c w book (call_answer ∷ []) before.kept s
      (tells-on before s _ before.kept told left) (boot-hand (call_answer ∷ []) s.port wait))
  given-boot was before s r small told (boot_cut why mid steps e wait on left) =
      is-open r s why e (hand-open c w book [] before.kept s (tells-on before s _ before.kept told left)
      (hands_stay c w book [] mid s.port steps world small on (boot-hand [] mid wait)))

  -- ---- whatever waits
  module _ (was : Bool) {s s' : Here} {r : Result Bool MemStop} (small : CountsOn s')
      (played : Played seen_acts (give_text fromhost) s r s') where
    abbrev Told : List ℕ → Type 0
    Told ws = TellsAll w.contents (kept w.numbers was ws) s

    none-first : Played seen_acts (give_first fromhost []) s r s' → Told [] → Hand c w book [] s.port → Gives r s'
    none-first (done e same) told hand =
        subst (λ (z : Here). Gives r z) (sym same) (stands-on r s false e (record {
          world = w;
          in_a_world = world;
          waiting = [];
          acted = was;
          tells = told;
          hand = hand;
        }))

    first-by : {l : List ℕ} → s.kept.waiting ≡ l → Played seen_acts (give_text fromhost) s r s'
        → Played seen_acts (give_first fromhost l) s r s'
    first-by e (looked p) = subst (λ (l : List ℕ). Played seen_acts (give_first fromhost l) s r s') e p

    none-waits : (ws : List ℕ) → ws ≡ [] → Told ws → Hand c w book ws s.port → Gives r s'
    none-waits ws none told hand =
        let told_none : Told [] = subst Told none told in
        let here : Hand c w book [] s.port = subst (λ (l : List ℕ). Hand c w book l s.port) none hand in
        none-first (first-by (ap (λ (k : Kept). k.waiting) told_none.kept_is) played) told_none here

    by-hand : (ws : List ℕ) → Told ws → Hand c w book ws s.port → Gives r s'
    by-hand ws told (starts none b) = none-waits ws none told (starts none b)
    by-hand ws told (begins p is kind b) = elim (one-waits c w book ws s.port (begins p is kind b)) [
      | inl none ↦ none-waits ws none told (begins p is kind b)
      | inr one ↦
          let some : ws ≢ [] = λ none. (let no : ◌≡◌ {A = List ℕ} (call_answer ∷ []) [] = sym one ∙ none in cc) in
          let g = gives_boot c w book ws p s s' r is.holds is.fits kind b some
          (ap (λ (k : Kept). k.waiting) told.kept_is) played in
          given-boot was s s' r small (subst Told one told) g
    ]
    by-hand ws told (runs p is kind none b) = none-waits ws none told (runs p is kind none b)
    by-hand ws told (prepares p is kind none cause b) = none-waits ws none told (prepares p is kind none cause b)
    by-hand ws told (answers p is kind none b) = none-waits ws none told (answers p is kind none b)
    by-hand ws told (asks call user wait word none pending noted silent) =
        none-waits ws none told (asks call user wait word none pending noted silent)
    by-hand ws told (queued call user wait empty one acted) =
        let told_one : Told (call_answer ∷ []) = subst Told one told in
        given-call call user acted was s s' r empty small told_one
        (gives_answers call user s s' r empty wait (ap (λ (k : Kept). k.waiting) told_one.kept_is) played)
    by-hand ws told (returns p is kind none b) = none-waits ws none told (returns p is kind none b)
    by-hand ws told (says none hand) = none-waits ws none told (says none hand)

pub gives_hands : GivesHands
gives_hands c book s now r small stands played =
    by-hand c stands.world book stands.in_a_world stands.acted small played stands.waiting stands.tells stands.hand
