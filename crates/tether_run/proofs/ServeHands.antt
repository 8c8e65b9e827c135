-- The part of a host turn on tohost, from where a session stands.
use Rattle.std.proofs.Common.{◌≡◌, ◌≢◌, ◌≤◌, ◌<◌, ◌+◌, ◌^◌, ◌==◌, ℕ, zero, suc, inl, inr, Bool, true, false, List}
use Rattle.std.proofs.Common.{[], ◌∷◌, refl, sym, ap, subst, ◌∙◌, arith}
use Rattle.std.specs.Prelude.{if◌then◌else◌, length, nat_lt, slice_index, slice_set, Some, Result, Ok, Err}
use Rattle.std.specs.Int.{from_le_bytes, w64}
use Rattle.std.proofs.lemmas.Bool.{ne_eqb}
use Rattle.fe_base.specs.MemoryMap.{request, tohost}
use Rattle.host_text.specs.Played.{Played, ended as done, noted as has_noted, looked, has_read, read_stopped}
use Rattle.host_text.specs.Runs.{End}
use Rattle.host_text.specs.Text.{Read}
use Rattle.host_text.specs.World.{World}
use Rattle.htif_mailbox.specs.Turns.{call_answer, most_waiting, room_text, serve_text, word_text}
use Rattle.htif_mailbox.specs.declared.answers.MailFault.{MailFault}
use Rattle.htif_mailbox.specs.declared.answers.MailFault.TheVariants.{Port}
use Rattle.htif_mailbox.specs.declared.answers.Turned.{Turned}
use Rattle.htif_mailbox.specs.declared.answers.Turned.TheVariants.{Idle, Served, Exited}
use Rattle.kernel_sim.specs.Mail.{mail_class}
use Rattle.kernel_sim.specs.Phases.{dword}
use Rattle.kernel_sim.specs.Rows.{Row, mode_of}
use Rattle.kernel_sim.specs.declared.phase.Phase.{Phase}
use Rattle.kernel_sim.specs.declared.phase.PhaseKind.{PhaseKind}
use Rattle.plain_machine.specs.Direct.{DirectState, Machine, running, dying, ended, in_world, after_answer}
use Rattle.plain_machine.specs.Direct.{direct_after, status_of, with_byte}
use Rattle.plain_machine.specs.Programs.{Process, replied}
use Rattle.plain_machine.specs.Starts.{Configuration, direct_start, entry_state, setting_of, state_after}
use Rattle.rv_csr.specs.declared.privilege.Mode.{Mode}
use Rattle.rv_hart.specs.HartStep.{System}
use Rattle.syscall_proxy.specs.HostRow.{world_after}
use Rattle.syscall_proxy.specs.Kept.{Kept, Setting, kept, rests}
use Rattle.syscall_proxy.specs.Worlds.{IsWorld}
use Rattle.syscall_proxy.specs.declared.answers.CallAnswer.{CallAnswer}
use Rattle.syscall_proxy.specs.declared.answers.CallAnswer.TheVariants.{Result as Value, Exit}
use Rattle.target_box.specs.Turn.{ran}
use Rattle.tether_base.proofs.Agreed.{calls_agree}
use Rattle.tether_base.proofs.SessionLaws.{serves_words}
use Rattle.tether_base.proofs.WordWalk.{steps_never_fall, words_are_seen}
use Rattle.tether_base.specs.Place.{Book, in_call, noted_by, noted_in, place, place_by}
use Rattle.tether_base.specs.Serving.{Here, Outcome, Pending, Stepped, TellsAll, with_result, with_tohost}
use Rattle.tether_base.specs.Serving.{carried_out, has_exited as call_exited, refused_before, refused_behind}
use Rattle.tether_base.specs.SeenWords.{IsKernelWord}
use Rattle.tether_base.specs.ToldActs.{seen_acts}
use Rattle.tether_base.specs.Waiting.{CallState, Waiting, process_of}
use Rattle.tether_boot.proofs.BootLaws.{serves_boot}
use Rattle.tether_boot.proofs.Unbegun.{boot_agrees}
use Rattle.tether_boot.specs.Booting.{BehindBoot, StartsUp, asks as boot_asks}
use Rattle.tether_boot.specs.Handing.{BootServed, has_handed, not_handed}
use Rattle.tether_run.proofs.HandSteps.{hand-fits, hands_stay}
use Rattle.tether_run.proofs.Placed.{call-there, hand-open, place-after, place-before, placed-first, placed-open}
use Rattle.tether_run.proofs.Placed.{wait-call}
use Rattle.tether_run.proofs.WordHands.{back-quiet, hand-word, one-waits, own-quiet, prepares-quiet, quiet-kind}
use Rattle.tether_run.proofs.WordHands.{starting-quiet}
use Rattle.tether_run.proofs.WordHands.{OneWaits, word-ran, word-there}
use Rattle.tether_run.specs.Hands.{Hand, IsIn, Standing, starts, begins, runs, prepares, answers, asks, queued}
use Rattle.tether_run.specs.Hands.{returns, says}
use Rattle.tether_run.specs.HostTurns.{ComesTo, CountsOn, FitsMainVars, IsOpen, IsOver, ServesHands, at_place}
use Rattle.tether_traps.proofs.TrapAgreed.{bytes_are_noted, exits_agree, handled_agree}
use Rattle.tether_traps.proofs.TrapLaws.{words_are_handled}
use Rattle.tether_traps.specs.Handling.{Handled, exit_of, one_more, was_put, was_refused}
use Rattle.tether_traps.specs.Handling.{has_exited as trap_exited}
use Rattle.tether_traps.specs.Saying.{EndHand}

-- a machine with a status has ended with it
ended-of : (m : Machine) (status : ℕ) → status_of m ≡ Some status → m ≡ ended status
ended-of (running process) status e = let no : ⊥ = cc in absurd no
ended-of (dying text left) status e = let no : ⊥ = cc in absurd no
ended-of (ended left) status e = let same : left ≡ status = cc in ap ended same

-- what is put first is read
set-first : (l : List ℕ) (value : ℕ) → length l ≡ 8 → slice_index (slice_set l 0 value) 0 ≡ value
set-first [] value e = let no : ◌≡◌ {A = ℕ} 0 8 = e in absurd (omega (arith, no))
set-first (x ∷ l) value e = refl

module _ (c : Configuration) (w : World) (book : Book) (world : IsWorld w) where
  abbrev given : Setting
  given = setting_of c

  abbrev start : DirectState
  start = direct_start c

  -- the program before its first step
  abbrev first_process : Process
  first_process = record {
    state = entry_state c.image c.args;
    program_break = c.image.first_break;
    first_break = c.image.first_break;
  }

  -- told is this world, and kept that no command acted, with these answers waiting
  abbrev Told : List ℕ → Here → Type 0
  Told ws s = TellsAll w.contents (kept w.numbers false ws) s

  -- the book behind the part
  abbrev Noted : Here → Book
  Noted s = noted_in s.kept.acted s.port.hart book

  abbrev Comes : Result Turned MailFault → Here → Type 0
  Comes r s = ComesTo c r (Noted s) s

  -- what was noted by what is kept
  noted-by-kept : (s : Here) (k : Kept) (acted : Bool) (later : Book) → s.kept ≡ k → k.acted ≡ acted
      → noted_in acted s.port.hart book ≡ later → Noted s ≡ later
  noted-by-kept s k acted later e f n =
      ap (λ (b : Bool). noted_in b s.port.hart book) (ap (λ (z : Kept). z.acted) e ∙ f) ∙ n

  comes-on : (r : Result Turned MailFault) (s : Here) (later : Book) → r ≡ Ok Served → Noted s ≡ later
      → Standing c later s → Comes r s
  comes-on r s later e n stands =
      subst (λ (q : Result Turned MailFault). ComesTo c q (Noted s) s) (sym e)
      (subst (λ (b : Book). Standing c b s) (sym n) stands)

  comes-over : (r : Result Turned MailFault) (s : Here) (status : ℕ) → r ≡ Ok (Exited status)
      → IsOver c (Noted s) s status → Comes r s
  comes-over r s status e over =
      subst (λ (q : Result Turned MailFault). ComesTo c q (Noted s) s) (sym e) over

  comes-open : (r : Result Turned MailFault) (s : Here) (fault : MailFault) (later : Book) → r ≡ Err fault
      → Noted s ≡ later → IsOpen c later s → Comes r s
  comes-open r s fault later e n opens =
      subst (λ (q : Result Turned MailFault). ComesTo c q (Noted s) s) (sym e)
      (subst (λ (b : Book). IsOpen c b s) (sym n) opens)

  -- ---- a call
  module _ (call : CallState) (user : List ℕ) (pending : Pending given start (with_tohost 0 call) user w)
      (early : book.acted_at ≤ pending.before) (silent : book.said ≡ 0) where
    abbrev cleared : CallState
    cleared = with_tohost 0 call

    -- the book once it has acted
    abbrev later : Book
    later = record book { acted_at = call.steps }

    abbrev program : Process
    program = process_of call.program user

    abbrev Ends : Type 0
    Ends = End (List ℕ) Kept CallAnswer

    noted-call : (e : CallState) (u : List ℕ) (s : Here) (k : Kept) → Waiting e u s.port → e.steps ≡ call.steps
        → s.kept ≡ k → k.acted ≡ true → Noted s ≡ later
    noted-call e u s k wait same kept_is acts =
        noted-by-kept s k true later kept_is acts
        (ap (λ (t : Bool). noted_by true t s.port.hart.user_steps book)
        (call-there s.port.hart (wait-call e u s.port wait))
        ∙ ap (λ (n : ℕ). record book { acted_at = n }) (wait.steps_are ∙ same))

    place-call : (e : CallState) (u : List ℕ) (s : Here) (k : Kept) → Waiting e u s.port → e.steps ≡ call.steps
        → s.kept ≡ k → k.acted ≡ true → place s.port.hart (Noted s) ≡ call.steps
    place-call e u s k wait same kept_is acts =
        ap (λ (b : Book). place s.port.hart b) (noted-call e u s k wait same kept_is acts)
        ∙ place-after s.port.hart (wait-call e u s.port wait) later (sym same ∙ sym wait.steps_are) silent
        ∙ wait.steps_are ∙ same

    -- the direct run behind its answer
    answered-at : (end : Ends) (a : CallAnswer) → Stepped given start cleared user end → end.answer ≡ a
        → direct_after given call.steps start ≡ after_answer program a end.place
    answered-at end a st is = st.direct ∙ ap (λ (z : CallAnswer). after_answer program z end.place) is

    -- its answer waits
    carried : (end : Ends) (value : ℕ) (r : Result Turned MailFault) (s : Here) → r ≡ Ok Served
        → Stepped given start cleared user end → end.answer ≡ Value value
        → Waiting (with_result value cleared) end.place.memory s.port
        → TellsAll end.place.contents (kept end.place.kept.numbers end.place.kept.acted (call_answer ∷ [])) s
        → Comes r s
    carried end value r s e st is wait told =
        let there : World = world_after end.place in
        let numbers = end.place.kept.numbers in
        let first = set-first call.request value pending.long in
        comes-on r s later e
        (noted-call (with_result value cleared) end.place.memory s _ wait refl told.kept_is st.acts) (record {
          world = there;
          in_a_world = st.well.1;
          waiting = call_answer ∷ [];
          acted = true;
          tells = record {
            tree_is = told.tree_is;
            input_is = told.input_is;
            console_is = told.console_is;
            kept_is = told.kept_is ∙ ap (λ (b : Bool). kept numbers b (call_answer ∷ [])) st.acts;
          };
          hand = queued (with_result value cleared) end.place.memory wait refl refl (record {
            noted = refl;
            silent = silent;
            stands = answered-at end (Value value) st is
                ∙ ap (λ (n : ℕ). in_world (running (replied (process_of call.program end.place.memory) n)) there)
                (sym first);
          });
        })

    outcome : (r : Result Turned MailFault) (s : Here) → Outcome given start cleared user w pending [] r s
        → Comes r s
    outcome r s (carried_out end value e st is wait told) =
        carried end value r s e st is wait (record {
          tree_is = told.tree_is;
          input_is = told.input_is;
          console_is = told.console_is;
          kept_is = told.kept_is;
        })
    outcome r s (call_exited end status e st is left) =
        let at = place-call left.call_now left.user_now s _ left.waits left.same_steps left.tells.kept_is st.acts in
        comes-over r s status e (record {
          agrees = calls_agree given start cleared user w pending [] r s book early silent
              (call_exited end status e st is left);
          ends = ap (λ (n : ℕ). (state_after n c).machine) at
              ∙ ap (λ (z : DirectState). z.machine) (answered-at end (Exit status) st is);
          before = pending.before;
          counted = at ∙ pending.counted;
          earlier = ap (λ (z : DirectState). status_of z.machine) pending.stands;
        })
    outcome r s (refused_before fault tree e before left) =
        let i = wait-call left.call_now left.user_now s.port left.waits in
        let at : place s.port.hart book ≡ pending.before = place-before s.port.hart i book pending.before
        (left.waits.steps_are ∙ left.same_steps ∙ pending.counted) early silent in
        let noted : Noted s ≡ book = noted-by-kept s _ false book left.tells.kept_is refl refl in
        comes-open r s fault (Noted s) e refl (record {
          agrees = calls_agree given start cleared user w pending [] r s book early silent
              (refused_before fault tree e before left);
          goes_on = ap (λ (b : Book). status_of (at_place c b s).machine) noted
              ∙ ap (λ (n : ℕ). status_of (state_after n c).machine) at
              ∙ ap (λ (z : DirectState). status_of z.machine) pending.stands;
        })
    outcome r s (refused_behind fault end value e st is left) =
        let at = place-call left.call_now left.user_now s _ left.waits left.same_steps left.tells.kept_is st.acts in
        comes-open r s fault (Noted s) e refl (record {
          agrees = calls_agree given start cleared user w pending [] r s book early silent
              (refused_behind fault end value e st is left);
          goes_on = ap (λ (n : ℕ). status_of (state_after n c).machine) at
              ∙ ap (λ (z : DirectState). status_of z.machine) (answered-at end (Value value) st is);
        })

  -- ---- a message and its exit
  -- an exit that was handled
  ended-trap : (status : ℕ) (r : Result Turned MailFault) (s : Here) → r ≡ Ok (Exited status)
      → EndHand given start w book status s.port → TellsAll w.contents (kept w.numbers true []) s
      → Handled given start w book r s → Comes r s
  ended-trap status r s e hand told handled =
      let hart = s.port.hart in
      let steps : ℕ = hart.user_steps in
      let in_machine = hand.holds.every.mode_is ∙ ap mode_of hand.kind in
      let no_call = (subst (λ (k : PhaseKind). Row k hand.phase s.port) hand.kind hand.holds.row).0.no_call in
      let other : in_call hart.mode hart.csrs.mcause ≡ false =
      ap (λ (m : Mode). in_call m hart.csrs.mcause) in_machine ∙ ne_eqb hart.csrs.mcause 8 no_call in
      let some : (steps == 0) ≡ false = ne_eqb steps 0 (λ z. let n = hand.noted in omega arith) in
      let noted : Noted s ≡ one_more book = noted-by-kept s _ true (one_more book) told.kept_is refl
      (ap (λ (b : Bool). noted_by true b steps book) other
      ∙ ap (λ (b : Bool). if b then book else record book { said = book.said + 1 }) some) in
      let there : steps + (book.said + 1) ≡ steps + book.said + 1 = omega arith in
      comes-over r s status e (record {
        agrees = handled_agree given start w book r s handled;
        ends = ended-of (at_place c (Noted s) s).machine status
            (exits_agree given start w book r s handled ∙ ap exit_of e);
        before = steps + book.said;
        counted = ap (λ (b : Book). place hart b) noted
            ∙ ap (λ (b : Bool). place_by b steps (one_more book)) other ∙ there;
        earlier = ap (λ (z : DirectState). status_of z.machine) hand.stands;
      })

  handled-word : (r : Result Turned MailFault) (s : Here) → Handled given start w book r s → Comes r s
  handled-word r s (was_put byte e hand told) =
      comes-on r s (one_more book) e
      (noted-by-kept s _ true (one_more book) told.kept_is refl
      (bytes_are_noted given start (with_byte w byte) book s.port hand)) (record {
        world = with_byte w byte;
        in_a_world = world;
        waiting = [];
        acted = true;
        tells = told;
        hand = says refl hand;
      })
  handled-word r s (trap_exited status e hand told) =
      ended-trap status r s e hand told (trap_exited status e hand told)
  handled-word r s (was_refused fault e hand told) =
      comes-open r s fault (Noted s) e refl (record {
        agrees = handled_agree given start w book r s (was_refused fault e hand told);
        goes_on = exits_agree given start w book r s (was_refused fault e hand told) ∙ ap exit_of e;
      })

  -- ---- the main vars
  booted : (r : Result Turned MailFault) (s : Here) → BootServed c w book r s → Comes r s
  booted r s (has_handed e wait told) =
      let u = wait.behind.0.booting in
      let b = boot_agrees c w book true _ s u.world_is u.unbegun told in
      let B : PhaseKind → Type 0 = λ k. BehindBoot c w book (call_answer ∷ []) k wait.phase s.port in
      comes-on r s book e (noted-by-kept s _ true book told.kept_is refl b.0) (record {
        world = w;
        in_a_world = world;
        waiting = call_answer ∷ [];
        acted = true;
        tells = told;
        hand = begins wait.phase (record { holds = wait.holds; fits = wait.fits })
            (subst StartsUp (sym wait.kind) boot_asks) (subst B (sym wait.kind) wait.behind);
      })
  booted r s (not_handed fault acted e u told) =
      let b = boot_agrees c w book acted _ s u.world_is u.unbegun told in
      comes-open r s fault book e (noted-by-kept s _ acted book told.kept_is refl b.0)
      (placed-open c w book _ s told (placed-first c w book _ s u.world_is u.unbegun told))

  -- ---- whatever the hand
  module _ (fits : FitsMainVars c) (ws : List ℕ) (word : ℕ) (some : word ≢ 0) {s s' : Here}
      {r : Result Turned MailFault} (here : dword s.port.bus tohost ≡ word) (told : Told ws s)
      (played : Played seen_acts (word_text given tohost word) s r s') where
    -- no word waits in such a phase
    no-word : {P : Type 0} (p : Phase) → IsIn p s.port → p.tohost ≡ 0 → P
    no-word p is none = absurd (some (sym here ∙ sym is.holds.every.tohost_is ∙ none))

    told-none : ws ≡ [] → Told [] s
    told-none none = subst (λ (l : List ℕ). Told l s) none told

    by-hand : Hand c w book ws s.port → Comes r s'
    by-hand (starts none b) = absurd (some (sym here ∙ starting-quiet c w book s.port b))
    by-hand (begins p is kind b) =
        booted r s' (serves_boot c w book ws p word false s s' r fits is.holds is.fits kind b
        (is.holds.every.tohost_is ∙ here) some told played)
    by-hand (runs p is kind none b) =
        no-word p is (quiet-kind p.kind p.tohost p.fromhost (ap mail_class kind) is.holds.every.mailbox)
    by-hand (prepares p is kind none cause b) =
        no-word p is
        (quiet-kind p.kind p.tohost p.fromhost (prepares-quiet p.kind kind) is.holds.every.mailbox)
    by-hand (answers p is kind none b) =
        no-word p is (quiet-kind p.kind p.tohost p.fromhost (own-quiet p.kind kind) is.holds.every.mailbox)
    by-hand (asks call user wait asked none pending early silent) =
        let word_is : word ≡ request = sym here ∙ sym wait.holds.every.tohost_is ∙ wait.tohost_is ∙ asked in
        let T : ℕ → Type 0 = λ n. Played seen_acts (word_text given tohost n) s r s' in
        outcome call user pending early silent r s'
        (serves_words given start call user w pending [] s s' r wait (told-none none) (subst T word_is played))
    by-hand (queued call user wait empty one acted) =
        no-word wait.phase (record { holds = wait.holds; fits = wait.fits }) (wait.tohost_is ∙ empty)
    by-hand (returns p is kind none b) =
        no-word p is (back-quiet c w book p.kind p s.port kind is.holds.every.mailbox b)
    by-hand (says none hand) =
        handled-word r s'
        (words_are_handled given start w book word s s' r (first_process, refl) hand
        (hand.holds.every.tohost_is ∙ here) some (told-none none) played)

  -- ---- the part
  module _ (fits : FitsMainVars c) (ws : List ℕ) where
    -- the port refused before the word was handled
    stopped : (r : Result Turned MailFault) (s s' : Here) (fault : MailFault) → r ≡ Err fault → s' ≡ s → Told ws s
        → Hand c w book ws s.port → Comes r s'
    stopped r s s' fault e same told hand =
        subst (λ (z : Here). Comes r z) (sym same)
        (comes-open r s fault book e (noted-by-kept s _ false book told.kept_is refl refl)
        (hand-open c w book ws _ s told hand))

    -- no word waits
    idles : (r : Result Turned MailFault) (s s' : Here) → r ≡ Ok Idle → s' ≡ s → Told ws s
        → Hand c w book ws s.port → Comes r s'
    idles r s s' e same told hand =
        let noted : Noted s ≡ book = noted-by-kept s _ false book told.kept_is refl refl in
        let here : Standing c book s = record {
          world = w;
          in_a_world = world;
          waiting = ws;
          acted = false;
          tells = told;
          hand = hand;
        } in
        subst (λ (z : Here). Comes r z) (sym same)
        (subst (λ (q : Result Turned MailFault). ComesTo c q (Noted s) s) (sym e)
        (subst (λ (b : Book). Standing c b s) (sym noted) here))

    -- the word stood there at one moment, behind which the hart ran on
    by-word : (word : ℕ) {s s' : Here} {r : Result Turned MailFault} (mid : System) (n : ℕ) → Hand c w book ws mid
        → word ≡ dword mid.bus tohost → ran mid n s.port → Hand c w book ws s.port → Told ws s
        → Played seen_acts (word_text given tohost word) s r s' → Comes r s'
    by-word zero {s = s} {s' = s'} {r = r} mid n was value_is runs_on hand told (done e same) =
        idles r s s' e same told hand
    by-word (suc m) {s = s} {s' = s'} {r = r} mid n was value_is runs_on hand told played =
        let some : suc m ≢ 0 = λ e. omega arith in
        let there = word-ran (suc m) some mid s.port n runs_on
        (hand-word c w book ws (suc m) some mid (sym value_is) was) in
        by-hand fits ws (suc m) some (word-there (suc m) s.port there) told played hand

    reads : {s s' : Here} {r : Result Turned MailFault} → CountsOn s' → Hand c w book ws s.port → Told ws s
        → Played seen_acts (Read tohost 8 Port (λ bytes. word_text given tohost (from_le_bytes w64 bytes))) s r s'
        → Comes r s'
    reads {s = s} {s' = s'} {r = r} small hand told (has_read {x = x} {bytes = bytes} d next) =
        let old : System = s.port in
        let word : ℕ = from_le_bytes w64 bytes in
        let is_word : IsKernelWord tohost = record { even = refl; low = omega arith; high = omega arith } in
        let read = words_are_seen.word_read tohost bytes old x is_word d in
        let first = steps_never_fall.along old read.mid read.before (hand-fits hand) read.ran_so in
        let second = steps_never_fall.along read.mid x read.behind first.fits read.ran_on in
        let third = steps_never_fall.followed (word_text given tohost word) (record s { port = x }) s' r second.fits
        next in
        let small_x : x.hart.user_steps + 1 < 2 ^ 64 = omega (arith, small, third.later) in
        let small_mid : read.mid.hart.user_steps + 1 < 2 ^ 64 = omega (arith, small_x, second.later) in
        let was = hands_stay c w book ws old read.mid read.before world small_mid read.ran_so hand in
        let now = hands_stay c w book ws read.mid x read.behind world small_x read.ran_on was in
        by-word word read.mid read.behind was read.value_is read.ran_on now (record {
          tree_is = told.tree_is;
          input_is = told.input_is;
          console_is = told.console_is;
          kept_is = told.kept_is;
        }) next
    reads {s = s} {s' = s'} {r = r} small hand told (read_stopped {x = x} {why = why} d e same) =
        let runs_on = words_are_seen.reads_run tohost 8 (Err why) s.port x d in
        let small_x : x.hart.user_steps + 1 < 2 ^ 64 =
        subst (λ (z : System). z.hart.user_steps + 1 < 2 ^ 64) (ap (λ (z : Here). z.port) same) small in
        stopped r (record s { port = x }) s' (Port why) e same (record {
          tree_is = told.tree_is;
          input_is = told.input_is;
          console_is = told.console_is;
          kept_is = told.kept_is;
        }) (hands_stay c w book ws s.port x runs_on.0 world small_x runs_on.1 hand)

    few : OneWaits ws → nat_lt (length ws) most_waiting ≡ true
    few (inl none) = ap (λ (l : List ℕ). nat_lt (length l) most_waiting) none
    few (inr one) = ap (λ (l : List ℕ). nat_lt (length l) most_waiting) one

    serves : {s s' : Here} {r : Result Turned MailFault} (acted : Bool) → CountsOn s' → Hand c w book ws s.port
        → TellsAll w.contents (kept w.numbers acted ws) s → Played seen_acts (serve_text given tohost) s r s'
        → Comes r s'
    serves {s = s} {s' = s'} {r = r} acted small hand told (has_noted {h = k} n (looked p)) =
        let kept_is : k ≡ kept w.numbers false ws = n ∙ ap rests told.kept_is in
        let room : nat_lt (length k.waiting) most_waiting ≡ true =
        ap (λ (z : Kept). nat_lt (length z.waiting) most_waiting) kept_is
        ∙ few (one-waits c w book ws s.port hand) in
        let T : Bool → Type 0 = λ b. Played seen_acts (room_text given tohost b) (record s { kept = k }) r s' in
        reads small hand (record {
          tree_is = told.tree_is;
          input_is = told.input_is;
          console_is = told.console_is;
          kept_is = kept_is;
        }) (subst T room p)

pub serves_hands : ServesHands
serves_hands c book s now r fits small stands played =
    serves c stands.world book stands.in_a_world fits stands.waiting stands.acted small stands.hand stands.tells played
