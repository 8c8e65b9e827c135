-- The steps of the kernel behind a trap that is no call.
use Rattle.std.proofs.Common.{◌≡◌, ◌≢◌, ◌⊎◌, ◌<◌, ◌≤◌, ◌+◌, ℕ, inl, inr, true, false, refl, sym, ap, subst, ◌∙◌, arith}
use Rattle.std.specs.Prelude.{drop, length, slice_index}
use Rattle.fe_base.specs.MemoryMap.{tohost}
use Rattle.host_text.specs.World.{World}
use Rattle.kernel_code.specs.Places.{pc_closing_store, pc_idle}
use Rattle.kernel_sim.specs.Advance.{StepsAdvance}
use Rattle.kernel_sim.specs.Changes.{PutsNone, StepsCounted, TextAfter, Waits}
use Rattle.kernel_sim.specs.Holds.{Holds}
use Rattle.kernel_sim.specs.Mail.{mail_class, MailIs}
use Rattle.kernel_sim.specs.Mailbox.{MailboxKept, TohostKept}
use Rattle.kernel_sim.specs.Phases.{console_word, dword, message, next_phase}
use Rattle.kernel_sim.specs.Rows.{Row}
use Rattle.kernel_sim.specs.Steps.{follows}
use Rattle.kernel_sim.specs.Stores.{ExitWord, NextByte, NoByte, NoExit, Stores, exit_status, exit_word}
use Rattle.kernel_sim.specs.Traps.{TrapAfter}
use Rattle.kernel_sim.specs.declared.phase.Phase.{Phase}
use Rattle.kernel_sim.specs.declared.phase.PhaseKind.{PhaseKind}
use Rattle.kernel_sim.specs.declared.phase.PhaseKind.TheVariants.{Boot, BootWait, BootTake, Leave, User, Save, Check}
use Rattle.kernel_sim.specs.declared.phase.PhaseKind.TheVariants.{Scan, Fill, Wait, Take, Local, Restore, Speak}
use Rattle.kernel_sim.specs.declared.phase.PhaseKind.TheVariants.{Closing}
use Rattle.kernel_sim.specs.declared.phase.Spoken.{Spoken}
use Rattle.plain_machine.specs.Direct.{DirectState, dying, in_world, direct_after}
use Rattle.rv_hart.proofs.RangeLaws.{steps_keep_range}
use Rattle.rv_hart.specs.HartStep.{System, hart_step}
use Rattle.rv_hart.specs.Laws.{IsSystem}
use Rattle.syscall_proxy.specs.Kept.{Setting}
use Rattle.tether_base.specs.Between.{IsDying}
use Rattle.tether_base.specs.Place.{Book}
use Rattle.tether_traps.proofs.MessageBytes.{console-some, message-byte}
use Rattle.tether_traps.specs.Saying.{BehindTrap, ByteWaits, Dies, HasSaid, IsLeaving, IsSaying, NoneWaits, TrapHand}
use Rattle.tether_traps.specs.Saying.{TrapHandsStay, TrapStepsFollow, WordsStay, saves, checks, speaks, closes}

-- the exit is stored at another place than the last
elsewhere : pc_closing_store ≡ pc_idle → ⊥
elsewhere e = omega (arith, e)

module _ (advance : StepsAdvance) (given : Setting) (start : DirectState) (w : World) (book : Book) (p : Phase)
    (sys : System) (held : Holds p sys) (fits : IsSystem sys) where
  abbrev new : System
  new = hart_step sys

  abbrev q : Phase
  q = next_phase p new

  -- what the law of a step says, by the kinds
  record Facts (k j : PhaseKind) : Type 0 where
    text : TextAfter k j p sys q.text
    steps : StepsCounted k sys.hart new.hart
    mail : MailboxKept k j sys.bus new.bus
    stores : Stores k p sys.hart new.hart q
    trap_is : TrapAfter k j sys new
    order : follows k j ≡ true
    was : Row k p sys
    row : Row j q new
    class : MailIs (mail_class k) p.tohost p.fromhost

  facts : (k j : PhaseKind) → p.kind ≡ k → q.kind ≡ j → Facts k j
  facts k j e f =
      let s = advance p sys held fits in
      let a = s.1 in
      subst (λ (z : PhaseKind). Facts k z) f (subst (λ (z : PhaseKind). Facts z q.kind) e (record {
        text = a.text;
        steps = a.counted;
        mail = a.mailbox;
        stores = a.stores;
        trap_is = a.trap;
        order = a.order;
        was = held.row;
        row = s.0.row;
        class = held.every.mailbox;
      }))

  at-now : (P : ℕ → Spoken → Type 0) (t : Spoken) → q.text ≡ t → new.hart.user_steps ≡ sys.hart.user_steps
      → P sys.hart.user_steps t → P new.hart.user_steps q.text
  at-now P t same steps h =
      subst (λ (z : Spoken). P new.hart.user_steps z) (sym same) (subst (λ (n : ℕ). P n t) (sym steps) h)

  abbrev DiesHere : ℕ → Spoken → Type 0
  DiesHere steps text = IsDying given start w book steps text

  abbrev HasPut : ℕ → Spoken → Type 0
  HasPut steps text = HasSaid given start w book steps text

  -- the trap is on its way to the message
  abbrev OnTheWay : Type 0
  OnTheWay = DiesHere sys.hart.user_steps p.text × (sys.hart.csrs.mcause ≢ 8)

  goes-on : q.text ≡ p.text → new.hart.user_steps ≡ sys.hart.user_steps → new.hart.csrs.mcause ≡ sys.hart.csrs.mcause
      → OnTheWay → DiesHere new.hart.user_steps q.text × (new.hart.csrs.mcause ≢ 8)
  goes-on text steps cause b = (at-now DiesHere p.text text steps b.0, λ is. b.1 (sym cause ∙ is))

  -- nothing of the message was put yet
  first-said : (steps : ℕ) (text : Spoken) → DiesHere steps text → HasPut steps text
  first-said steps text d = record {
    noted = d.noted;
    stands = (let e : steps + book.said ≡ steps = omega (arith, d.silent) in
        ap (λ (n : ℕ). direct_after given n start) e)
        ∙ d.stands
        ∙ ap (λ (n : ℕ). in_world (dying (drop n (message text)) (exit_status text)) w) (sym d.silent);
  }

  begins : q.text ≡ p.text → new.hart.user_steps ≡ sys.hart.user_steps → q.tohost ≡ 0 → OnTheWay
      → IsSaying given start w book new.hart.user_steps q.text q.tohost
  begins text steps empty b =
      let d = at-now DiesHere p.text text steps b.0 in
      record {
        said = first-said new.hart.user_steps q.text d;
        word = inl (record { posted_is = d.unsaid ∙ sym d.silent; tohost_is = empty });
      }

  -- ---- the message
  abbrev SaysHere : Type 0
  SaysHere = IsSaying given start w book sys.hart.user_steps p.text p.tohost

  abbrev SaysThere : Type 0
  SaysThere = IsSaying given start w book new.hart.user_steps q.text q.tohost

  stays : q.text ≡ p.text → new.hart.user_steps ≡ sys.hart.user_steps → q.tohost ≡ p.tohost → SaysHere → SaysThere
  stays text steps same b =
      let P : ℕ → Spoken → Type 0 = λ n t. IsSaying given start w book n t p.tohost in
      subst (λ (n : ℕ). IsSaying given start w book new.hart.user_steps q.text n) (sym same)
      (at-now P p.text text steps b)

  unposted : q.text ≡ record p.text { posted = q.text.posted } → q.text.posted ≡ p.text.posted → q.text ≡ p.text
  unposted text same = text ∙ ap (λ (n : ℕ). record p.text { posted = n }) same

  -- TOHOST held 0, so that no byte waited
  none-waited : p.tohost ≡ 0 → SaysHere → p.text.posted ≡ book.said
  none-waited empty b = elim b.word [
    | inl none ↦ none.posted_is
    | inr one ↦
        absurd (console-some (slice_index (message p.text) book.said) (message-byte p.text book.said)
        (sym one.tohost_is ∙ empty))
  ]

  next-byte : q.text ≡ record p.text { posted = q.text.posted } → new.hart.user_steps ≡ sys.hart.user_steps
      → NextByte p q.tohost q.text.posted → SaysHere → SaysThere
  next-byte text steps n b =
      let was = none-waited n.0 b in
      let more : Spoken = record p.text { posted = q.text.posted } in
      let said : HasPut sys.hart.user_steps more = record { noted = b.said.noted; stands = b.said.stands } in
      record {
        said = at-now HasPut more text steps said;
        word = inr (record {
          posted_is = n.2 ∙ ap (λ (k : ℕ). k + 1) was;
          tohost_is = n.1 ∙ ap (λ (k : ℕ). console_word (slice_index (message p.text) k)) was
              ∙ ap (λ (t : Spoken). console_word (slice_index (message t) book.said)) (sym text);
        });
      }

  speaks-on : q.text ≡ record p.text { posted = q.text.posted } → new.hart.user_steps ≡ sys.hart.user_steps
      → NoByte p q.tohost q.text.posted ⊎ NextByte p q.tohost q.text.posted → SaysHere → SaysThere
  speaks-on text steps stores b = elim stores [
    | inl none ↦ stays (unposted text none.1) steps none.0 b
    | inr one ↦ next-byte text steps one b
  ]

  -- the last byte is posted, and the exit comes next
  closes-now : q.text ≡ p.text → new.hart.user_steps ≡ sys.hart.user_steps
      → NoByte p q.tohost q.text.posted ⊎ NextByte p q.tohost q.text.posted → SaysHere → SaysThere
  closes-now text steps stores b = elim stores [
    | inl none ↦ stays text steps none.0 b
    | inr one ↦
        let same : q.text.posted ≡ p.text.posted = ap (λ (t : Spoken). t.posted) text in
        absurd (omega (arith, one.2, same))
  ]

  -- ---- the exit
  abbrev LeavesHere : Type 0
  LeavesHere = IsLeaving given start w book sys.hart.user_steps p.text p.tohost

  abbrev LeavesThere : Type 0
  LeavesThere = IsLeaving given start w book new.hart.user_steps q.text q.tohost

  leaves-on : q.text ≡ p.text → new.hart.user_steps ≡ sys.hart.user_steps → q.tohost ≡ p.tohost → LeavesHere
      → LeavesThere
  leaves-on text steps same b =
      let P : ℕ → Spoken → Type 0 = λ n t. IsLeaving given start w book n t p.tohost in
      subst (λ (n : ℕ). IsLeaving given start w book new.hart.user_steps q.text n) (sym same)
      (at-now P p.text text steps b)

  posts-exit : q.text ≡ p.text → new.hart.user_steps ≡ sys.hart.user_steps → p.text.posted ≡ length (message p.text)
      → ExitWord p sys.hart new.hart q.tohost → SaysHere → LeavesThere
  posts-exit text steps all x b =
      let was = none-waited x.0 b in
      let P : ℕ → Spoken → Type 0 = λ n t. IsLeaving given start w book n t q.tohost in
      at-now P p.text text steps (record { said = b.said; all_said = sym was ∙ all; tohost_is = x.1 })

  abbrev ClosesHere : Type 0
  ClosesHere = (SaysHere × (sys.hart.pc ≢ pc_idle)) ⊎ (LeavesHere × (sys.hart.pc ≡ pc_idle))

  abbrev ClosesThere : Type 0
  ClosesThere = (SaysThere × (new.hart.pc ≢ pc_idle)) ⊎ (LeavesThere × (new.hart.pc ≡ pc_idle))

  no-exit : q.text ≡ p.text → new.hart.user_steps ≡ sys.hart.user_steps → NoExit p sys.hart new.hart q.tohost
      → ClosesHere → ClosesThere
  no-exit text steps n b = elim b [
    | inl s ↦ inl (stays text steps n.0 s.0, λ idle. s.1 (n.2 idle))
    | inr l ↦ inr (leaves-on text steps n.0 l.0, n.1 l.1)
  ]

  exit-now : q.text ≡ p.text → new.hart.user_steps ≡ sys.hart.user_steps → p.text.posted ≡ length (message p.text)
      → ExitWord p sys.hart new.hart q.tohost → ClosesHere → ClosesThere
  exit-now text steps all x b = elim b [
    | inl s ↦ inr (posts-exit text steps all x s.0, x.3)
    | inr l ↦ absurd (elsewhere (sym x.2 ∙ l.1))
  ]

  closes-on : q.text ≡ p.text → new.hart.user_steps ≡ sys.hart.user_steps → p.text.posted ≡ length (message p.text)
      → NoExit p sys.hart new.hart q.tohost ⊎ ExitWord p sys.hart new.hart q.tohost → ClosesHere → ClosesThere
  closes-on text steps all stores b = elim stores [
    | inl none ↦ no-exit text steps none b
    | inr one ↦ exit-now text steps all one b
  ]

  going : (k j : PhaseKind) → Dies k → Facts k j → BehindTrap given start w book k p sys
      → BehindTrap given start w book j q new
  going Save Boot saves x b = let no : ⊥ = (let e : false ≡ true = x.order in cc) in absurd no
  going Save BootWait saves x b = let no : ⊥ = (let e : false ≡ true = x.order in cc) in absurd no
  going Save BootTake saves x b = let no : ⊥ = (let e : false ≡ true = x.order in cc) in absurd no
  going Save Leave saves x b = let no : ⊥ = (let e : false ≡ true = x.order in cc) in absurd no
  going Save User saves x b = let no : ⊥ = (let e : false ≡ true = x.order in cc) in absurd no
  going Save Scan saves x b = let no : ⊥ = (let e : false ≡ true = x.order in cc) in absurd no
  going Save Fill saves x b = let no : ⊥ = (let e : false ≡ true = x.order in cc) in absurd no
  going Save Wait saves x b = let no : ⊥ = (let e : false ≡ true = x.order in cc) in absurd no
  going Save Take saves x b = let no : ⊥ = (let e : false ≡ true = x.order in cc) in absurd no
  going Save Local saves x b = let no : ⊥ = (let e : false ≡ true = x.order in cc) in absurd no
  going Save Restore saves x b = let no : ⊥ = (let e : false ≡ true = x.order in cc) in absurd no
  going Save Speak saves x b = let no : ⊥ = (let e : false ≡ true = x.order in cc) in absurd no
  going Save Closing saves x b = let no : ⊥ = (let e : false ≡ true = x.order in cc) in absurd no
  going Check Boot checks x b = let no : ⊥ = (let e : false ≡ true = x.order in cc) in absurd no
  going Check BootWait checks x b = let no : ⊥ = (let e : false ≡ true = x.order in cc) in absurd no
  going Check BootTake checks x b = let no : ⊥ = (let e : false ≡ true = x.order in cc) in absurd no
  going Check Leave checks x b = let no : ⊥ = (let e : false ≡ true = x.order in cc) in absurd no
  going Check User checks x b = let no : ⊥ = (let e : false ≡ true = x.order in cc) in absurd no
  going Check Save checks x b = let no : ⊥ = (let e : false ≡ true = x.order in cc) in absurd no
  going Check Wait checks x b = let no : ⊥ = (let e : false ≡ true = x.order in cc) in absurd no
  going Check Take checks x b = let no : ⊥ = (let e : false ≡ true = x.order in cc) in absurd no
  going Check Restore checks x b = let no : ⊥ = (let e : false ≡ true = x.order in cc) in absurd no
  going Check Closing checks x b = let no : ⊥ = (let e : false ≡ true = x.order in cc) in absurd no
  going Speak Boot speaks x b = let no : ⊥ = (let e : false ≡ true = x.order in cc) in absurd no
  going Speak BootWait speaks x b = let no : ⊥ = (let e : false ≡ true = x.order in cc) in absurd no
  going Speak BootTake speaks x b = let no : ⊥ = (let e : false ≡ true = x.order in cc) in absurd no
  going Speak Leave speaks x b = let no : ⊥ = (let e : false ≡ true = x.order in cc) in absurd no
  going Speak User speaks x b = let no : ⊥ = (let e : false ≡ true = x.order in cc) in absurd no
  going Speak Save speaks x b = let no : ⊥ = (let e : false ≡ true = x.order in cc) in absurd no
  going Speak Check speaks x b = let no : ⊥ = (let e : false ≡ true = x.order in cc) in absurd no
  going Speak Scan speaks x b = let no : ⊥ = (let e : false ≡ true = x.order in cc) in absurd no
  going Speak Fill speaks x b = let no : ⊥ = (let e : false ≡ true = x.order in cc) in absurd no
  going Speak Wait speaks x b = let no : ⊥ = (let e : false ≡ true = x.order in cc) in absurd no
  going Speak Take speaks x b = let no : ⊥ = (let e : false ≡ true = x.order in cc) in absurd no
  going Speak Local speaks x b = let no : ⊥ = (let e : false ≡ true = x.order in cc) in absurd no
  going Speak Restore speaks x b = let no : ⊥ = (let e : false ≡ true = x.order in cc) in absurd no
  going Closing Boot closes x b = let no : ⊥ = (let e : false ≡ true = x.order in cc) in absurd no
  going Closing BootWait closes x b = let no : ⊥ = (let e : false ≡ true = x.order in cc) in absurd no
  going Closing BootTake closes x b = let no : ⊥ = (let e : false ≡ true = x.order in cc) in absurd no
  going Closing Leave closes x b = let no : ⊥ = (let e : false ≡ true = x.order in cc) in absurd no
  going Closing User closes x b = let no : ⊥ = (let e : false ≡ true = x.order in cc) in absurd no
  going Closing Save closes x b = let no : ⊥ = (let e : false ≡ true = x.order in cc) in absurd no
  going Closing Check closes x b = let no : ⊥ = (let e : false ≡ true = x.order in cc) in absurd no
  going Closing Scan closes x b = let no : ⊥ = (let e : false ≡ true = x.order in cc) in absurd no
  going Closing Fill closes x b = let no : ⊥ = (let e : false ≡ true = x.order in cc) in absurd no
  going Closing Wait closes x b = let no : ⊥ = (let e : false ≡ true = x.order in cc) in absurd no
  going Closing Take closes x b = let no : ⊥ = (let e : false ≡ true = x.order in cc) in absurd no
  going Closing Local closes x b = let no : ⊥ = (let e : false ≡ true = x.order in cc) in absurd no
  going Closing Restore closes x b = let no : ⊥ = (let e : false ≡ true = x.order in cc) in absurd no
  going Closing Speak closes x b = let no : ⊥ = (let e : false ≡ true = x.order in cc) in absurd no
  going Save Save saves x b = goes-on x.text x.steps x.trap_is.0.0 b
  going Save Check saves x b = goes-on x.text x.steps x.trap_is.0.0 b
  going Check Check checks x b = goes-on x.text x.steps x.trap_is.0.0 b
  going Check Scan checks x b = absurd (b.1 (sym x.trap_is.0.0 ∙ x.row.0.call))
  going Check Fill checks x b = absurd (b.1 (sym x.trap_is.0.0 ∙ x.row.0.call))
  going Check Local checks x b = absurd (b.1 (sym x.trap_is.0.0 ∙ x.row.0.call))
  going Check Speak checks x b =
      begins x.text x.steps (x.mail.0 ∙ sym held.every.tohost_is ∙ x.class.0) b
  going Speak Speak speaks x b = speaks-on x.text x.steps x.stores.0 b
  going Speak Closing speaks x b = inl (closes-now x.text x.steps x.stores.0 b, x.stores.1)
  going Closing Closing closes x b = closes-on x.text x.steps x.was.1 x.stores b
  going Boot j dies x b = elim dies [ ]
  going BootWait j dies x b = elim dies [ ]
  going BootTake j dies x b = elim dies [ ]
  going Leave j dies x b = elim dies [ ]
  going User j dies x b = elim dies [ ]
  going Scan j dies x b = elim dies [ ]
  going Fill j dies x b = elim dies [ ]
  going Wait j dies x b = elim dies [ ]
  going Take j dies x b = elim dies [ ]
  going Local j dies x b = elim dies [ ]
  going Restore j dies x b = elim dies [ ]

  trap-step : Dies p.kind → BehindTrap given start w book p.kind p sys → BehindTrap given start w book q.kind q new
  trap-step dies b = going p.kind q.kind dies (facts p.kind q.kind refl refl) b

pub trap_steps_follow : StepsAdvance → TrapStepsFollow
trap_steps_follow advance given start w book p sys held fits dies b =
    trap-step advance given start w book p sys held fits dies b

-- ---- a hart behind a trap
dies-in : (given : Setting) (start : DirectState) (w : World) (book : Book) (k : PhaseKind) (p : Phase) (sys : System)
    → BehindTrap given start w book k p sys → Dies k
dies-in given start w book Boot p sys b = absurd b
dies-in given start w book BootWait p sys b = absurd b
dies-in given start w book BootTake p sys b = absurd b
dies-in given start w book Leave p sys b = absurd b
dies-in given start w book User p sys b = absurd b
dies-in given start w book Save p sys b = saves
dies-in given start w book Check p sys b = checks
dies-in given start w book Scan p sys b = absurd b
dies-in given start w book Fill p sys b = absurd b
dies-in given start w book Wait p sys b = absurd b
dies-in given start w book Take p sys b = absurd b
dies-in given start w book Local p sys b = absurd b
dies-in given start w book Restore p sys b = absurd b
dies-in given start w book Speak p sys b = speaks
dies-in given start w book Closing p sys b = closes

pub trap-behind : (advance : StepsAdvance) (given : Setting) (start : DirectState) (w : World) (book : Book) (p : Phase)
    (sys : System) → Holds p sys → IsSystem sys → BehindTrap given start w book p.kind p sys
    → BehindTrap given start w book (next_phase p (hart_step sys)).kind (next_phase p (hart_step sys)) (hart_step sys)
trap-behind advance given start w book p sys held fits b =
    trap_steps_follow advance given start w book p sys held fits (dies-in given start w book p.kind p sys b) b

pub trap_hands_stay : StepsAdvance → TrapHandsStay
trap_hands_stay advance given start w book sys hand =
    let p = hand.phase in
    record {
      phase = next_phase p (hart_step sys);
      holds = (advance p sys hand.holds hand.fits).0;
      fits = steps_keep_range sys hand.fits;
      behind = trap-behind advance given start w book p sys hand.holds hand.fits hand.behind;
    }

-- ---- a word that waits
module _ (advance : StepsAdvance) (p : Phase) (sys : System) (held : Holds p sys) (fits : IsSystem sys)
    (some : p.tohost ≢ 0) where
  abbrev then_is : Phase
  then_is = next_phase p (hart_step sys)

  -- what the law of a step says of it, by the kind before
  record Mail (k : PhaseKind) : Type 0 where
    class : MailIs (mail_class k) p.tohost p.fromhost
    kept : TohostKept k then_is.kind (dword sys.bus tohost) (dword (hart_step sys).bus tohost)
    waits : Waits k p then_is

  mail : (k : PhaseKind) → p.kind ≡ k → Mail k
  mail k e =
      let a = (advance p sys held fits).1 in
      subst (λ (z : PhaseKind). Mail z) e
      (record { class = held.every.mailbox; kept = a.mailbox.0; waits = a.waits })

  waits-on : (k : PhaseKind) → Mail k → then_is.tohost ≡ p.tohost
  waits-on Boot m = absurd (some m.class.0)
  waits-on BootWait m = m.kept ∙ sym held.every.tohost_is
  waits-on BootTake m = absurd (some m.class)
  waits-on Leave m = absurd (some m.class.0)
  waits-on User m = absurd (some m.class.0)
  waits-on Save m = absurd (some m.class.0)
  waits-on Check m = absurd (some m.class.0)
  waits-on Scan m = absurd (some m.class.0)
  waits-on Fill m = absurd (some m.class.0)
  waits-on Wait m = m.kept ∙ sym held.every.tohost_is
  waits-on Take m = absurd (some m.class)
  waits-on Local m = absurd (some m.class.0)
  waits-on Restore m = absurd (some m.class.0)
  waits-on Speak m = (m.waits.1 some).0
  waits-on Closing m = (m.waits.1 some).0

pub words_stay : StepsAdvance → WordsStay
words_stay advance p sys held fits some =
    waits-on advance p sys held fits some p.kind (mail advance p sys held fits some p.kind refl)
