-- Behind a trap, and whatever a word there comes to, the session agrees with the direct run at its place.
use Rattle.std.proofs.Common.{◌≡◌, ◌≢◌, ◌<◌, ◌+◌, ◌==◌, ℕ, inl, inr, Bool, true, false, List, refl, sym, ap, subst}
use Rattle.std.proofs.Common.{◌∙◌, arith}
use Rattle.std.specs.Prelude.{drop, if◌then◌else◌, Some, Option, Result}
use Rattle.std.proofs.lemmas.Bool.{ne_eqb}
use Rattle.folder_tree.specs.Tree.{files_of}
use Rattle.host_text.specs.World.{Contents, World}
use Rattle.htif_mailbox.specs.declared.answers.MailFault.{MailFault}
use Rattle.htif_mailbox.specs.declared.answers.Turned.{Turned}
use Rattle.kernel_sim.specs.Phases.{message}
use Rattle.kernel_sim.specs.Rows.{Row, mode_of}
use Rattle.kernel_sim.specs.Stores.{exit_status}
use Rattle.kernel_sim.specs.declared.phase.Phase.{Phase}
use Rattle.kernel_sim.specs.declared.phase.PhaseKind.{PhaseKind}
use Rattle.kernel_sim.specs.declared.phase.PhaseKind.TheVariants.{Boot, BootWait, BootTake, Leave, User, Save, Check}
use Rattle.kernel_sim.specs.declared.phase.PhaseKind.TheVariants.{Scan, Fill, Wait, Take, Local, Restore, Speak}
use Rattle.kernel_sim.specs.declared.phase.PhaseKind.TheVariants.{Closing}
use Rattle.kernel_sim.specs.declared.phase.Spoken.{Spoken}
use Rattle.plain_machine.specs.Direct.{DirectState, Machine, dying, ended, in_world, direct_after}
use Rattle.plain_machine.specs.Direct.{direct_after-next, direct_step, status_of, with_byte}
use Rattle.plain_machine.specs.Stands.{Leaves}
use Rattle.rv_csr.specs.declared.privilege.Mode.{Mode}
use Rattle.rv_csr.specs.declared.privilege.Mode.TheVariants as mode
use Rattle.rv_hart.specs.HartStep.{System}
use Rattle.syscall_proxy.specs.Kept.{Kept, Setting}
use Rattle.tether_base.specs.Between.{IsDying}
use Rattle.tether_base.specs.Place.{Agrees, Book, in_call, noted_by, noted_in, place, place_by}
use Rattle.tether_base.specs.Serving.{Here, TellsAll}
use Rattle.tether_traps.specs.Handling.{BytesAreNoted, ExitsAgree, Handled, HandledAgree, Puts, StoppedHand}
use Rattle.tether_traps.specs.Handling.{TrapsAgree, at_place, exit_of, one_more, speaks, closes, was_put}
use Rattle.tether_traps.specs.Handling.{has_exited, was_refused}
use Rattle.tether_traps.specs.Saying.{BehindTrap, HasSaid, EndHand, TrapHand}

-- the hart is behind a trap that is no call, and the direct run at the session's place is this machine in this world
record Placed (given : Setting) (start : DirectState) (sys : System) (book : Book) (m : Machine) (w : World)
    : Type 0 where
  in_machine : sys.hart.mode ≡ mode.Machine
  no_call : sys.hart.csrs.mcause ≢ 8
  noted : book.acted_at < sys.hart.user_steps
  stands : direct_after given (sys.hart.user_steps + book.said) start ≡ in_world m w

module _ (given : Setting) (start : DirectState) (sys : System) (book : Book) (m : Machine) (w : World)
    (p : Placed given start sys book m w) where
  other-cause : in_call sys.hart.mode sys.hart.csrs.mcause ≡ false
  other-cause = ap (λ (z : Mode). in_call z sys.hart.csrs.mcause) p.in_machine ∙ ne_eqb sys.hart.csrs.mcause 8 p.no_call

  place-there : at_place given start sys book ≡ in_world m w
  place-there =
      ap (λ (b : Bool). direct_after given (place_by b sys.hart.user_steps book) start) other-cause ∙ p.stands

  not-user : {P : Type 0} → sys.hart.mode ≡ mode.User → P
  not-user e = let no : mode.Machine ≡ mode.User = sym p.in_machine ∙ e in let bad : ⊥ = cc in absurd bad

-- what is told is that world's
told-leaves : (contents : Contents) (k : Kept) (s : Here) → TellsAll contents k s
    → Leaves contents (Some s.input) (Some s.console) (Some s.folder)
told-leaves contents k s told = record {
  input_told = ap (λ (l : List ℕ). Some l) told.input_is;
  console_told = ap (λ (l : List ℕ). Some l) told.console_is;
  files_told = (s.folder, refl, ap files_of told.tree_is);
}

agrees-there : (given : Setting) (start : DirectState) (book : Book) (m : Machine) (w : World) (k : Kept) (s : Here)
    → Placed given start s.port book m w → TellsAll w.contents k s
    → Agrees given start s.port book (Some s.input) (Some s.console) (Some s.folder)
agrees-there given start book m w k s p told =
    let here = ap (λ (z : DirectState). z.world.contents) (place-there given start s.port book m w p) in
    record {
      contents = subst (λ (c : Contents). Leaves c (Some s.input) (Some s.console) (Some s.folder)) (sym here)
          (told-leaves w.contents k s told);
      user = λ unhalted in_user. not-user given start s.port book m w p in_user;
    }

-- what is noted of a byte that was put, or of the exit
noted-there : (given : Setting) (start : DirectState) (sys : System) (book : Book) (m : Machine) (w : World)
    → Placed given start sys (one_more book) m w → noted_in true sys.hart book ≡ one_more book
noted-there given start sys book m w p =
    let some : (sys.hart.user_steps == 0) ≡ false =
    ne_eqb sys.hart.user_steps 0 (λ e. let n = p.noted in omega arith) in
    ap (λ (b : Bool). noted_by true b sys.hart.user_steps book) (other-cause given start sys (one_more book) m w p)
    ∙ ap (λ (b : Bool). if b then book else record book { said = book.said + 1 }) some

-- ---- the places
module _ (given : Setting) (start : DirectState) (w : World) (book : Book) where
  -- of a hart behind a trap
  abbrev Dies : System → Type 0
  Dies sys = (text : List ℕ) × (status : ℕ) × Placed given start sys book (dying text status) w

  said-placed : (sys : System) (text : Spoken) → sys.hart.mode ≡ mode.Machine → sys.hart.csrs.mcause ≢ 8
      → HasSaid given start w book sys.hart.user_steps text → Dies sys
  said-placed sys text is other said = (
    drop book.said (message text),
    exit_status text,
    record { in_machine = is; no_call = other; noted = said.noted; stands = said.stands },
  )

  dying-placed : (sys : System) (text : Spoken) → sys.hart.mode ≡ mode.Machine → sys.hart.csrs.mcause ≢ 8
      → IsDying given start w book sys.hart.user_steps text → Dies sys
  dying-placed sys text is other d =
      let steps = sys.hart.user_steps in
      let same : steps + book.said ≡ steps = omega (arith, d.silent) in (
        message text,
        exit_status text,
        record {
          in_machine = is;
          no_call = other;
          noted = d.noted;
          stands = ap (λ (n : ℕ). direct_after given n start) same ∙ d.stands;
        },
      )

  placed-by : (k : PhaseKind) (p : Phase) (sys : System) → sys.hart.mode ≡ mode_of k → Row k p sys
      → BehindTrap given start w book k p sys → Dies sys
  placed-by Save p sys is row b = dying-placed sys p.text is b.1 b.0
  placed-by Check p sys is row b = dying-placed sys p.text is b.1 b.0
  placed-by Speak p sys is row b = said-placed sys p.text is row.0.no_call b.said
  placed-by Closing p sys is row b = elim b [
    | inl h ↦ said-placed sys p.text is row.0.no_call h.0.said
    | inr h ↦ said-placed sys p.text is row.0.no_call h.0.said
  ]
  placed-by Boot p sys is row b = absurd b
  placed-by BootWait p sys is row b = absurd b
  placed-by BootTake p sys is row b = absurd b
  placed-by Leave p sys is row b = absurd b
  placed-by User p sys is row b = absurd b
  placed-by Scan p sys is row b = absurd b
  placed-by Fill p sys is row b = absurd b
  placed-by Wait p sys is row b = absurd b
  placed-by Take p sys is row b = absurd b
  placed-by Local p sys is row b = absurd b
  placed-by Restore p sys is row b = absurd b

  trap-placed : (sys : System) → TrapHand given start w book sys → Dies sys
  trap-placed sys h = placed-by h.phase.kind h.phase sys h.holds.every.mode_is h.holds.row h.behind

  -- of one at which the host has stopped
  puts-other : (k : PhaseKind) (p : Phase) (sys : System) → Puts k → sys.hart.mode ≡ mode_of k → Row k p sys
      → (sys.hart.mode ≡ mode.Machine) × (sys.hart.csrs.mcause ≢ 8)
  puts-other Speak p sys speaks is row = (is, row.0.no_call)
  puts-other Closing p sys closes is row = (is, row.0.no_call)
  puts-other Boot p sys puts is row = elim puts [ ]
  puts-other BootWait p sys puts is row = elim puts [ ]
  puts-other BootTake p sys puts is row = elim puts [ ]
  puts-other Leave p sys puts is row = elim puts [ ]
  puts-other User p sys puts is row = elim puts [ ]
  puts-other Save p sys puts is row = elim puts [ ]
  puts-other Check p sys puts is row = elim puts [ ]
  puts-other Scan p sys puts is row = elim puts [ ]
  puts-other Fill p sys puts is row = elim puts [ ]
  puts-other Wait p sys puts is row = elim puts [ ]
  puts-other Take p sys puts is row = elim puts [ ]
  puts-other Local p sys puts is row = elim puts [ ]
  puts-other Restore p sys puts is row = elim puts [ ]

  stopped-placed : (sys : System) → StoppedHand given start w book sys → Dies sys
  stopped-placed sys h =
      let there = puts-other h.phase.kind h.phase sys h.kind h.holds.every.mode_is h.holds.row in (
        h.left,
        h.status,
        record { in_machine = there.0; no_call = there.1; noted = h.noted; stands = h.stands },
      )

  -- of one whose exit was handled
  end-placed : (status : ℕ) (sys : System) → EndHand given start w book status sys
      → Placed given start sys (one_more book) (ended status) w
  end-placed status sys h =
      let steps = sys.hart.user_steps in
      let there : steps + (book.said + 1) ≡ steps + book.said + 1 = omega arith in
      record {
        in_machine = h.holds.every.mode_is ∙ ap mode_of h.kind;
        no_call = (subst (λ (k : PhaseKind). Row k h.phase sys) h.kind h.holds.row).0.no_call;
        noted = h.noted;
        stands = ap (λ (n : ℕ). direct_after given n start) there
            ∙ direct_after-next given (steps + book.said) start
            ∙ ap (direct_step given) h.stands;
      }

-- ---- the laws
module _ (given : Setting) (start : DirectState) (w : World) (book : Book) where
  abbrev AgreesBy : Bool → Here → Type 0
  AgreesBy b s = Agrees given start s.port (noted_in b s.port.hart book) (Some s.input) (Some s.console) (Some s.folder)

  acted-is : (b : Bool) (k : Kept) (s : Here) → s.kept ≡ k → k.acted ≡ b → AgreesBy b s → AgreesBy s.kept.acted s
  acted-is b k s e f h = subst (λ (z : Bool). AgreesBy z s) (sym (ap (λ (z : Kept). z.acted) e ∙ f)) h

  -- where the host acted
  acted-agrees : (m : Machine) (now : World) (k : Kept) (s : Here) → Placed given start s.port (one_more book) m now
      → TellsAll now.contents k s → AgreesBy true s
  acted-agrees m now k s p told =
      subst (λ (z : Book). Agrees given start s.port z (Some s.input) (Some s.console) (Some s.folder))
      (sym (noted-there given start s.port book m now p)) (agrees-there given start (one_more book) m now k s p told)

  handled-agrees : (r : Result Turned MailFault) (s : Here) → Handled given start w book r s → AgreesBy s.kept.acted s
  handled-agrees r s (was_put byte e hand told) =
      let d = trap-placed given start (with_byte w byte) (one_more book) s.port hand in
      acted-is true _ s told.kept_is refl (acted-agrees (dying d.0 d.1) (with_byte w byte) _ s d.2 told)
  handled-agrees r s (has_exited status e hand told) =
      let p = end-placed given start w book status s.port hand in
      acted-is true _ s told.kept_is refl (acted-agrees (ended status) w _ s p told)
  handled-agrees r s (was_refused fault e hand told) =
      let d = stopped-placed given start w book s.port hand in
      acted-is false _ s told.kept_is refl (agrees-there given start book (dying d.0 d.1) w _ s d.2 told)

  abbrev EndsBy : Bool → Here → Option ℕ
  EndsBy b s = status_of (at_place given start s.port (noted_in b s.port.hart book)).machine

  ends-is : (b : Bool) (k : Kept) (s : Here) (m : Machine) (now : World) (later : Book) → s.kept ≡ k → k.acted ≡ b
      → noted_in b s.port.hart book ≡ later → Placed given start s.port later m now
      → EndsBy s.kept.acted s ≡ status_of m
  ends-is b k s m now later e f noted p =
      ap (λ (z : Bool). EndsBy z s) (ap (λ (z : Kept). z.acted) e ∙ f)
      ∙ ap (λ (z : Book). status_of (at_place given start s.port z).machine) noted
      ∙ ap (λ (z : DirectState). status_of z.machine) (place-there given start s.port later m now p)

  handled-exits : (r : Result Turned MailFault) (s : Here) → Handled given start w book r s
      → EndsBy s.kept.acted s ≡ exit_of r
  handled-exits r s (was_put byte e hand told) =
      let d = trap-placed given start (with_byte w byte) (one_more book) s.port hand in
      let noted = noted-there given start s.port book (dying d.0 d.1) (with_byte w byte) d.2 in
      ends-is true _ s (dying d.0 d.1) (with_byte w byte) (one_more book) told.kept_is refl noted d.2
      ∙ ap exit_of (sym e)
  handled-exits r s (has_exited status e hand told) =
      let p = end-placed given start w book status s.port hand in
      let noted = noted-there given start s.port book (ended status) w p in
      ends-is true _ s (ended status) w (one_more book) told.kept_is refl noted p ∙ ap exit_of (sym e)
  handled-exits r s (was_refused fault e hand told) =
      let d = stopped-placed given start w book s.port hand in
      ends-is false _ s (dying d.0 d.1) w book told.kept_is refl refl d.2 ∙ ap exit_of (sym e)

pub handled_agree : HandledAgree
handled_agree given start w book r s h = handled-agrees given start w book r s h

pub exits_agree : ExitsAgree
exits_agree given start w book r s h = handled-exits given start w book r s h

pub bytes_are_noted : BytesAreNoted
bytes_are_noted given start w book sys hand =
    let d = trap-placed given start w (one_more book) sys hand in
    noted-there given start sys book (dying d.0 d.1) w d.2

pub traps_agree : TrapsAgree
traps_agree given start w book k s hand told =
    let d = trap-placed given start w book s.port hand in (
      agrees-there given start book (dying d.0 d.1) w k s d.2 told,
      (d.0, d.1, place-there given start s.port book (dying d.0 d.1) w d.2),
    )
