-- What the part of a host turn on tohost comes to behind a trap: its word is cleared, and the byte is put, or the exit
-- is handled.
use Rattle.std.proofs.Common.{◌≡◌, ◌≢◌, ◌⊎◌, ◌≤◌, ◌<◌, ◌+◌, ◌%◌, ◌==◌, ℕ, zero, suc, inl, inr, Bool, true, false}
use Rattle.std.proofs.Common.{List, [], ◌∷◌, ◌++◌, refl, sym, ap, subst, ◌∙◌, arith}
use Rattle.std.specs.Prelude.{if◌then◌else◌, drop, length, slice_index, Result}
use Rattle.std.specs.Int.{to_le_bytes, w64}
use Rattle.std.proofs.Math.Seq.{drop-length}
use Rattle.std.proofs.lemmas.Bool.{ne_eqb}
use Rattle.std.proofs.lemmas.List.{drop_more}
use Rattle.chunk_memory.specs.Reached.{Reached}
use Rattle.fe_base.specs.Access.{Stored}
use Rattle.fe_base.specs.MemoryMap.{tohost}
use Rattle.guest_memory.proofs.AreaLemmas.{IsBus-with_beat}
use Rattle.guest_memory.specs.Bus.{with_beat}
use Rattle.host_text.specs.Played.{Played, ended as done, noted, has_written, write_stopped, has_put, put_stopped}
use Rattle.host_text.specs.Text.{Done, Write}
use Rattle.host_text.specs.World.{World}
use Rattle.htif_mailbox.specs.Commands.{command_of}
use Rattle.htif_mailbox.specs.Turns.{Mail, command_text, word_text}
use Rattle.htif_mailbox.specs.declared.answers.MailFault.{MailFault}
use Rattle.htif_mailbox.specs.declared.answers.MailFault.TheVariants.{Call, Port}
use Rattle.htif_mailbox.specs.declared.answers.Turned.{Turned}
use Rattle.htif_mailbox.specs.declared.answers.Turned.TheVariants.{Idle}
use Rattle.kernel_sim.specs.Advance.{StepsAdvance, HostWritesHold}
use Rattle.kernel_sim.specs.Changes.{StepsCounted, Waits}
use Rattle.kernel_sim.specs.Holds.{Holds}
use Rattle.kernel_sim.specs.HostWrites.{Clears, written}
use Rattle.kernel_sim.specs.Mail.{mail_class, MailIs}
use Rattle.kernel_sim.specs.Phases.{console_word, message, next_phase}
use Rattle.kernel_sim.specs.Rows.{Row}
use Rattle.kernel_sim.specs.Steps.{follows}
use Rattle.kernel_sim.specs.Stores.{exit_status, exit_word}
use Rattle.kernel_sim.specs.declared.phase.Phase.{Phase}
use Rattle.kernel_sim.specs.declared.phase.PhaseKind.{PhaseKind}
use Rattle.kernel_sim.specs.declared.phase.PhaseKind.TheVariants.{Boot, BootWait, BootTake, Leave, User, Save, Check}
use Rattle.kernel_sim.specs.declared.phase.PhaseKind.TheVariants.{Scan, Fill, Wait, Take, Local, Restore, Speak}
use Rattle.kernel_sim.specs.declared.phase.PhaseKind.TheVariants.{Closing}
use Rattle.kernel_sim.specs.declared.phase.Spoken.{Spoken}
use Rattle.plain_machine.specs.Direct.{DirectState, dying, in_world, direct_after, direct_after-next, direct_step}
use Rattle.plain_machine.specs.Direct.{with_byte}
use Rattle.rv_hart.proofs.RangeLaws.{steps_keep_range}
use Rattle.rv_hart.specs.HartStep.{System, over, hart_step}
use Rattle.rv_hart.specs.Laws.{IsSystem}
use Rattle.rv_hart.specs.Walks.{hart_after}
use Rattle.syscall_proxy.specs.Kept.{Kept, Setting, acts, kept}
use Rattle.syscall_proxy.specs.declared.answers.CallFault.TheVariants.{ConsoleFault}
use Rattle.target_box.specs.Turn.{ran, touched}
use Rattle.tether_base.proofs.MailWords.{store-word, stop-word}
use Rattle.tether_base.specs.Place.{Book}
use Rattle.tether_base.specs.Serving.{Here, TellsAll}
use Rattle.tether_base.specs.ToldActs.{seen_acts}
use Rattle.tether_traps.proofs.MessageBytes.{console-command, exit-command, exit_text, message-byte, put_text}
use Rattle.tether_traps.proofs.MessageBytes.{status-small}
use Rattle.tether_traps.proofs.TrapSteps.{trap_hands_stay, trap-behind, words_stay}
use Rattle.tether_traps.specs.Handling.{Handled, Puts, StartsRunning, StoppedHand, WordsAreHandled, one_more, speaks}
use Rattle.tether_traps.specs.Handling.{closes, was_put, has_exited, was_refused}
use Rattle.tether_traps.specs.Saying.{BehindTrap, ByteWaits, EndHand, HasSaid, IsLeaving, IsSaying, NoneWaits, TrapHand}

-- ---- what each step keeps, any number of steps do
after-by : (P : System → Type 0) → ((s : System) → P s → P (hart_step s)) → (n : ℕ) (s : System) → P s
    → P (hart_after n s)
unfolding hart_after
after-by P one zero s h = h
after-by P one (suc n) s h = one (hart_after n s) (after-by P one n s h)

ran-by : (P : System → Type 0) → ((s : System) → P s → P (hart_step s)) → (s v : System) (n : ℕ) → ran s n v → P s
    → P v
ran-by P one s v n r h = subst P (sym r) (after-by P one n s h)

-- a message goes on to the exit, and no further
puts-follow : (k j : PhaseKind) → Puts k → follows k j ≡ true → Puts j
puts-follow Speak Boot speaks e = let no : ⊥ = cc in absurd no
puts-follow Speak BootWait speaks e = let no : ⊥ = cc in absurd no
puts-follow Speak BootTake speaks e = let no : ⊥ = cc in absurd no
puts-follow Speak Leave speaks e = let no : ⊥ = cc in absurd no
puts-follow Speak User speaks e = let no : ⊥ = cc in absurd no
puts-follow Speak Save speaks e = let no : ⊥ = cc in absurd no
puts-follow Speak Check speaks e = let no : ⊥ = cc in absurd no
puts-follow Speak Scan speaks e = let no : ⊥ = cc in absurd no
puts-follow Speak Fill speaks e = let no : ⊥ = cc in absurd no
puts-follow Speak Wait speaks e = let no : ⊥ = cc in absurd no
puts-follow Speak Take speaks e = let no : ⊥ = cc in absurd no
puts-follow Speak Local speaks e = let no : ⊥ = cc in absurd no
puts-follow Speak Restore speaks e = let no : ⊥ = cc in absurd no
puts-follow Speak Speak speaks e = speaks
puts-follow Speak Closing speaks e = closes
puts-follow Closing Boot closes e = let no : ⊥ = cc in absurd no
puts-follow Closing BootWait closes e = let no : ⊥ = cc in absurd no
puts-follow Closing BootTake closes e = let no : ⊥ = cc in absurd no
puts-follow Closing Leave closes e = let no : ⊥ = cc in absurd no
puts-follow Closing User closes e = let no : ⊥ = cc in absurd no
puts-follow Closing Save closes e = let no : ⊥ = cc in absurd no
puts-follow Closing Check closes e = let no : ⊥ = cc in absurd no
puts-follow Closing Scan closes e = let no : ⊥ = cc in absurd no
puts-follow Closing Fill closes e = let no : ⊥ = cc in absurd no
puts-follow Closing Wait closes e = let no : ⊥ = cc in absurd no
puts-follow Closing Take closes e = let no : ⊥ = cc in absurd no
puts-follow Closing Local closes e = let no : ⊥ = cc in absurd no
puts-follow Closing Restore closes e = let no : ⊥ = cc in absurd no
puts-follow Closing Speak closes e = let no : ⊥ = cc in absurd no
puts-follow Closing Closing closes e = closes
puts-follow Boot j puts e = elim puts [ ]
puts-follow BootWait j puts e = elim puts [ ]
puts-follow BootTake j puts e = elim puts [ ]
puts-follow Leave j puts e = elim puts [ ]
puts-follow User j puts e = elim puts [ ]
puts-follow Save j puts e = elim puts [ ]
puts-follow Check j puts e = elim puts [ ]
puts-follow Scan j puts e = elim puts [ ]
puts-follow Fill j puts e = elim puts [ ]
puts-follow Wait j puts e = elim puts [ ]
puts-follow Take j puts e = elim puts [ ]
puts-follow Local j puts e = elim puts [ ]
puts-follow Restore j puts e = elim puts [ ]

same-steps : (k : PhaseKind) (p : Phase) (old new : System) → p.kind ≡ k → Puts k
    → StepsCounted p.kind old.hart new.hart → new.hart.user_steps ≡ old.hart.user_steps
same-steps Speak p old new e speaks counted = subst (λ (z : PhaseKind). StepsCounted z old.hart new.hart) e counted
same-steps Closing p old new e closes counted = subst (λ (z : PhaseKind). StepsCounted z old.hart new.hart) e counted
same-steps Boot p old new e puts counted = elim puts [ ]
same-steps BootWait p old new e puts counted = elim puts [ ]
same-steps BootTake p old new e puts counted = elim puts [ ]
same-steps Leave p old new e puts counted = elim puts [ ]
same-steps User p old new e puts counted = elim puts [ ]
same-steps Save p old new e puts counted = elim puts [ ]
same-steps Check p old new e puts counted = elim puts [ ]
same-steps Scan p old new e puts counted = elim puts [ ]
same-steps Fill p old new e puts counted = elim puts [ ]
same-steps Wait p old new e puts counted = elim puts [ ]
same-steps Take p old new e puts counted = elim puts [ ]
same-steps Local p old new e puts counted = elim puts [ ]
same-steps Restore p old new e puts counted = elim puts [ ]

module _ (advance : StepsAdvance) (given : Setting) (start : DirectState) (w : World) (book : Book) where
  -- a hart behind a trap with this word in TOHOST
  record HasWord (word : ℕ) (sys : System) : Type 0 where
    hand : TrapHand given start w book sys
    word_is : hand.phase.tohost ≡ word

  word-step : (word : ℕ) → word ≢ 0 → (sys : System) → HasWord word sys → HasWord word (hart_step sys)
  word-step word some sys h =
      let p = h.hand.phase in
      record {
        hand = record {
          phase = next_phase p (hart_step sys);
          holds = (advance p sys h.hand.holds h.hand.fits).0;
          fits = steps_keep_range sys h.hand.fits;
          behind = trap-behind advance given start w book p sys h.hand.holds h.hand.fits h.hand.behind;
        };
        word_is = words_stay advance p sys h.hand.holds h.hand.fits (λ e. some (sym h.word_is ∙ e)) ∙ h.word_is;
      }

  -- a hart at which the host has stopped
  stopped-step : (sys : System) → StoppedHand given start w book sys → StoppedHand given start w book (hart_step sys)
  stopped-step sys h =
      let p = h.phase in
      let new = hart_step sys in
      let s = advance p sys h.holds h.fits in
      let same : new.hart.user_steps ≡ sys.hart.user_steps = same-steps p.kind p sys new refl h.kind s.1.counted in
      record {
        phase = next_phase p new;
        holds = s.0;
        fits = steps_keep_range sys h.fits;
        kind = puts-follow p.kind (next_phase p new).kind h.kind s.1.order;
        noted = (let a = h.noted in omega (arith, same));
        left = h.left;
        status = h.status;
        stands = ap (λ (n : ℕ). direct_after given (n + book.said) start) same ∙ h.stands;
      }

  -- one whose exit was handled
  end-step : (status : ℕ) (sys : System) → EndHand given start w book status sys
      → EndHand given start w book status (hart_step sys)
  end-step status sys h =
      let p = h.phase in
      let new = hart_step sys in
      let q = next_phase p new in
      let s = advance p sys h.holds h.fits in
      let same : new.hart.user_steps ≡ sys.hart.user_steps =
      subst (λ (z : PhaseKind). StepsCounted z sys.hart new.hart) h.kind s.1.counted in
      record {
        phase = q;
        holds = s.0;
        fits = steps_keep_range sys h.fits;
        kind = (subst (λ (z : PhaseKind). Waits z p q) h.kind s.1.waits).0;
        noted = (let a = h.noted in omega (arith, same));
        stands = ap (λ (n : ℕ). direct_after given (n + book.said) start) same ∙ h.stands;
      }

-- ---- the word is cleared
-- the hart over the bus in which TOHOST is cleared
abbrev cleared : System → System
cleared s = over (with_beat s.bus tohost 0) s.hart

module _ (writes : HostWritesHold) (given : Setting) (start : DirectState) (w : World) (book : Book)
    (s : System) where
  -- what the write leaves
  record WriteLeaves (p : Phase) : Type 0 where
    holds : Holds (written tohost 0 p) (cleared s)
    fits : IsSystem (cleared s)

  write-leaves : (p : Phase) → Holds p s → IsSystem s → WriteLeaves p
  write-leaves p held fits = record {
    holds = writes p s tohost 0 (omega arith) fits.bus_fits (Clears refl refl) held;
    fits = record { hart_fits = fits.hart_fits; bus_fits = IsBus-with_beat s.bus tohost 0 (omega arith) fits.bus_fits };
  }

  stopped-cleared : StoppedHand given start w book s → StoppedHand given start w book (cleared s)
  stopped-cleared h =
      let c = write-leaves h.phase h.holds h.fits in
      record {
        phase = written tohost 0 h.phase;
        holds = c.holds;
        fits = c.fits;
        kind = h.kind;
        noted = h.noted;
        left = h.left;
        status = h.status;
        stands = h.stands;
      }

  module _ (word : ℕ) (some : word ≢ 0) (p : Phase) (held : Holds p s) (fits : IsSystem s)
      (word_is : p.tohost ≡ word) (runs : StartsRunning start) where
    abbrev HasPut : Spoken → Type 0
    HasPut text = HasSaid given start w book s.hart.user_steps text

    -- what comes next: the command of the word, and the hart behind its clearing, as if it was carried out
    data Next (v : System) : Type 0 where
      puts_byte : (byte : ℕ) → command_text given word (command_of word) ≡ put_text byte
          → TrapHand given start (with_byte w byte) (one_more book) v → Next v
      exits_with : (status : ℕ) → command_text given word (command_of word) ≡ exit_text status
          → EndHand given start w book status v → Next v

    some-there : p.tohost ≢ 0
    some-there e = some (sym word_is ∙ e)

    stopped-said : Puts p.kind → HasPut p.text → StoppedHand given start w book s
    stopped-said kind said = record {
      phase = p;
      holds = held;
      fits = fits;
      kind = kind;
      noted = said.noted;
      left = drop book.said (message p.text);
      status = exit_status p.text;
      stands = said.stands;
    }

    -- the direct run says one byte more
    says-one : HasPut p.text → book.said < length (message p.text)
        → HasSaid given start (with_byte w (slice_index (message p.text) book.said)) (one_more book)
        s.hart.user_steps p.text
    says-one said more =
        let text = message p.text in
        let status = exit_status p.text in
        let there : s.hart.user_steps + (book.said + 1) ≡ s.hart.user_steps + book.said + 1 = omega arith in
        record {
          noted = said.noted;
          stands = ap (λ (n : ℕ). direct_after given n start) there
              ∙ direct_after-next given (s.hart.user_steps + book.said) start
              ∙ ap (direct_step given) said.stands
              ∙ ap (λ (l : List ℕ). direct_step given (in_world (dying l status) w)) (drop_more text book.said 0 more);
        }

    -- a byte waits
    byte-next : (k : PhaseKind) → p.kind ≡ k
        → (IsSaying given start (with_byte w (slice_index (message p.text) book.said)) (one_more book)
        s.hart.user_steps p.text 0
        → BehindTrap given start (with_byte w (slice_index (message p.text) book.said)) (one_more book) k
        (written tohost 0 p) (cleared s))
        → p.text.posted ≤ length (message p.text) → HasPut p.text → ByteWaits book p.text p.tohost → Next (cleared s)
    byte-next k kind behind inside said one =
        let byte = slice_index (message p.text) book.said in
        let more : book.said < length (message p.text) = omega (arith, one.posted_is) in
        let c = write-leaves p held fits in
        let B : PhaseKind → Type 0 =
        λ z. BehindTrap given start (with_byte w byte) (one_more book) z (written tohost 0 p) (cleared s) in
        puts_byte byte
        (ap (λ (n : ℕ). command_text given word (command_of n)) (sym word_is ∙ one.tohost_is)
        ∙ console-command given word byte (message-byte p.text book.said))
        (record {
          phase = written tohost 0 p;
          holds = c.holds;
          fits = c.fits;
          behind = subst B (sym kind) (behind (record {
            said = says-one said more;
            word = inl (record { posted_is = one.posted_is; tohost_is = refl });
          }));
        })

    -- the exit is posted
    exit-next : p.kind ≡ Closing → IsLeaving given start w book s.hart.user_steps p.text p.tohost → Next (cleared s)
    exit-next kind l =
        let text = message p.text in
        let status = exit_status p.text in
        let small = status-small given start (s.hart.user_steps + book.said) (drop book.said text) status w runs
        l.said.stands in
        let none : drop book.said text ≡ [] =
        ap (λ (n : ℕ). drop n text) l.all_said ∙ drop-length text in
        let c = write-leaves p held fits in
        exits_with status
        (ap (λ (n : ℕ). command_text given word (command_of n)) (sym word_is ∙ l.tohost_is)
        ∙ exit-command given word p.text small) (record {
          phase = written tohost 0 p;
          holds = c.holds;
          fits = c.fits;
          kind = kind;
          noted = l.said.noted;
          stands = l.said.stands ∙ ap (λ (t : List ℕ). in_world (dying t status) w) none;
        })

    abbrev Both : Type 0
    Both = StoppedHand given start w book s × Next (cleared s)

    saying-next : (k : PhaseKind) → p.kind ≡ k → Puts k
        → (IsSaying given start (with_byte w (slice_index (message p.text) book.said)) (one_more book)
        s.hart.user_steps p.text 0
        → BehindTrap given start (with_byte w (slice_index (message p.text) book.said)) (one_more book) k
        (written tohost 0 p) (cleared s))
        → p.text.posted ≤ length (message p.text)
        → IsSaying given start w book s.hart.user_steps p.text p.tohost → Both
    saying-next k kind puts behind inside b =
        let here : Puts p.kind = subst Puts (sym kind) puts in
        elim b.word [
          | inl none ↦ absurd (some-there none.tohost_is)
          | inr one ↦ (stopped-said here b.said, byte-next k kind behind inside b.said one)
        ]

    next-by : (k : PhaseKind) → p.kind ≡ k → MailIs (mail_class k) p.tohost p.fromhost → Row k p s
        → BehindTrap given start w book k p s → Both
    next-by Save kind mail row b = absurd (some-there mail.0)
    next-by Check kind mail row b = absurd (some-there mail.0)
    next-by Speak kind mail row b = saying-next Speak kind speaks (λ h. h) row.1 b
    next-by Closing kind mail row b = elim b [
      | inl h ↦ saying-next Closing kind closes (λ g. inl (g, h.1)) (omega (arith, row.1)) h.0
      | inr h ↦ (stopped-said (subst Puts (sym kind) closes) h.0.said, exit-next kind h.0)
    ]
    next-by Boot kind mail row b = absurd b
    next-by BootWait kind mail row b = absurd b
    next-by BootTake kind mail row b = absurd b
    next-by Leave kind mail row b = absurd b
    next-by User kind mail row b = absurd b
    next-by Scan kind mail row b = absurd b
    next-by Fill kind mail row b = absurd b
    next-by Wait kind mail row b = absurd b
    next-by Take kind mail row b = absurd b
    next-by Local kind mail row b = absurd b
    next-by Restore kind mail row b = absurd b

-- ---- the walk
module _ (advance : StepsAdvance) (writes : HostWritesHold) (given : Setting) (start : DirectState) (w : World)
    (book : Book) (runs : StartsRunning start) (word : ℕ) (some : word ≢ 0) where
  abbrev Comes : System → Type 0
  Comes v = (byte : ℕ) × (command_text given word (command_of word) ≡ put_text byte)
      × TrapHand given start (with_byte w byte) (one_more book) v

  abbrev Ends : System → Type 0
  Ends v = (status : ℕ) × (command_text given word (command_of word) ≡ exit_text status)
      × EndHand given start w book status v

  abbrev Stopped : System → Type 0
  Stopped v = StoppedHand given start w book v

  stopped-here : (s : System) → HasWord advance given start w book word s → Stopped s
  stopped-here s h =
      let p = h.hand.phase in
      (next-by writes given start w book s word some p h.hand.holds h.hand.fits h.word_is runs p.kind refl
      h.hand.holds.every.mailbox h.hand.holds.row h.hand.behind).0

  next-there : (s : System) → HasWord advance given start w book word s → Comes (cleared s) ⊎ Ends (cleared s)
  next-there s h =
      let p = h.hand.phase in
      elim (next-by writes given start w book s word some p h.hand.holds h.hand.fits h.word_is runs p.kind refl
      h.hand.holds.every.mailbox h.hand.holds.row h.hand.behind).1 [
        | puts_byte byte is hand ↦ inl (byte, is, hand)
        | exits_with status is hand ↦ inr (status, is, hand)
      ]

  comes-on : (v : System) → Comes v → Comes (hart_step v)
  comes-on v c = (c.0, c.1, trap_hands_stay advance given start (with_byte w c.0) (one_more book) v c.2)

  ends-on : (v : System) → Ends v → Ends (hart_step v)
  ends-on v e = (e.0, e.1, end-step advance given start w book e.0 v e.2)

  -- the word was cleared, with hart steps before and behind
  next-reached : (s v : System) → HasWord advance given start w book word s
      → Reached ran touched s (Stored tohost 0 ∷ []) v → Stopped v × (Comes v ⊎ Ends v)
  next-reached s v h r =
      let W : System → Type 0 = λ z. HasWord advance given start w book word z in
      let mid : W r.1 = ran-by W (word-step advance given start w book word some) s r.1 r.0 r.3 h in
      let stop : Stopped r.2 =
      subst Stopped (sym r.4) (stopped-cleared writes given start w book r.1 (stopped-here r.1 mid)) in
      let next : Comes r.2 ⊎ Ends r.2 = subst (λ (z : System). Comes z ⊎ Ends z) (sym r.4) (next-there r.1 mid) in (
        ran-by Stopped (stopped-step advance given start w book) r.2 v r.5.0 r.5.1 stop,
        elim next [
          | inl c ↦ inl (ran-by Comes comes-on r.2 v r.5.0 r.5.1 c)
          | inr e ↦ inr (ran-by Ends ends-on r.2 v r.5.0 r.5.1 e)
        ],
      )

  abbrev Told : Here → Type 0
  Told s = TellsAll w.contents (kept w.numbers false []) s

  -- at another state of the target
  moved : (s : Here) (x : System) → Told s → Told (record s { port = x })
  moved s x told = record {
    tree_is = told.tree_is;
    input_is = told.input_is;
    console_is = told.console_is;
    kept_is = told.kept_is;
  }

  -- the byte is put
  puts-it : {s s' : Here} {r : Result Turned MailFault} (byte : ℕ) → Stopped s.port
      → TrapHand given start (with_byte w byte) (one_more book) s.port → Told s
      → Played seen_acts (put_text byte) s r s' → Handled given start w book r s'
  puts-it {r = r} byte stop hand told (has_put d (noted n (done g same))) =
      let P : Here → Type 0 = λ z. Handled given start w book r z in
      subst P (sym same) (was_put byte g hand (record {
        tree_is = told.tree_is;
        input_is = told.input_is;
        console_is = d ∙ ap (λ (l : List ℕ). l ++ byte ∷ []) told.console_is;
        kept_is = n ∙ ap acts told.kept_is;
      }))
  puts-it {r = r} byte stop hand told (put_stopped d g same) =
      let P : Here → Type 0 = λ z. Handled given start w book r z in
      subst P (sym same) (was_refused (Call ConsoleFault) g stop (record {
        tree_is = told.tree_is;
        input_is = told.input_is;
        console_is = d ∙ told.console_is;
        kept_is = told.kept_is;
      }))

  -- the exit is handled
  exits-it : {s s' : Here} {r : Result Turned MailFault} (status : ℕ) → EndHand given start w book status s.port
      → Told s → Played seen_acts (exit_text status) s r s' → Handled given start w book r s'
  exits-it {r = r} status hand told (noted n (done g same)) =
      let P : Here → Type 0 = λ z. Handled given start w book r z in
      subst P (sym same) (has_exited status g hand (record {
        tree_is = told.tree_is;
        input_is = told.input_is;
        console_is = told.console_is;
        kept_is = n ∙ ap acts told.kept_is;
      }))

  -- the word is cleared, and handled; or the port refuses
  clears-it : {s s' : Here} {r : Result Turned MailFault} → HasWord advance given start w book word s.port → Told s
      → Played seen_acts (Write tohost (to_le_bytes w64 0) Port (command_text given word (command_of word))) s r s'
      → Handled given start w book r s'
  clears-it {s = s} {s' = s'} {r = r} h told (has_written {x = x} d rest) =
      let next = next-reached s.port x h (store-word tohost 0 s.port x refl (omega arith) d) in
      let T : Mail → Type 0 = λ t. Played seen_acts t (record s { port = x }) r s' in
      elim next.1 [
        | inl c ↦ puts-it c.0 next.0 c.2 (moved s x told) (subst T c.1 rest)
        | inr e ↦ exits-it e.0 e.2 (moved s x told) (subst T e.1 rest)
      ]
  clears-it {s = s} {r = r} h told (write_stopped {x = x} {why = why} d g same) =
      let P : Here → Type 0 = λ z. Handled given start w book r z in
      let stop : Stopped x = elim (stop-word tohost 0 s.port x why refl (omega arith) d) [
        | inl n ↦ ran-by Stopped (stopped-step advance given start w book) s.port x n.0 n.1 (stopped-here s.port h)
        | inr path ↦ (next-reached s.port x h path).0
      ] in
      subst P (sym same) (was_refused (Port why) g stop (moved s x told))

  words-it : {s s' : Here} {r : Result Turned MailFault} → HasWord advance given start w book word s.port → Told s
      → Played seen_acts (word_text given tohost word) s r s' → Handled given start w book r s'
  words-it {s = s} {s' = s'} {r = r} h told played =
      let clear : Mail = Write tohost (to_le_bytes w64 0) Port (command_text given word (command_of word)) in
      let T : Bool → Type 0 = λ b. Played seen_acts (if b then Done Idle else clear) s r s' in
      clears-it h told (subst T (ne_eqb word 0 some) played)

pub words_are_handled : StepsAdvance → HostWritesHold → WordsAreHandled
words_are_handled advance writes given start w book word s now r runs hand is some told played =
    words-it advance writes given start w book runs word some (record { hand = hand; word_is = is }) told played
