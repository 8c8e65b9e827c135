-- Where a hand stands the direct run at the session's place is in its world, and has not ended.
use Rattle.std.proofs.Common.{◌≡◌, ◌≤◌, ◌+◌, ◌-◌, ◌==◌, ℕ, zero, suc, Bool, true, false, List, refl, sym, ap, subst}
use Rattle.std.proofs.Common.{◌∙◌, arith}
use Rattle.std.specs.Prelude.{if◌then◌else◌, Some, None}
use Rattle.std.proofs.lemmas.Bool.{ne_eqb, eq-eqb}
use Rattle.folder_tree.specs.Tree.{files_of}
use Rattle.host_text.specs.World.{Contents, World}
use Rattle.kernel_sim.specs.Rows.{Row, mode_of}
use Rattle.kernel_sim.specs.UserMode.{user_of}
use Rattle.kernel_sim.specs.declared.phase.Phase.{Phase}
use Rattle.kernel_sim.specs.declared.phase.PhaseKind.{PhaseKind}
use Rattle.kernel_sim.specs.declared.phase.PhaseKind.TheVariants.{Boot, BootWait, BootTake, Leave, User, Save, Check}
use Rattle.kernel_sim.specs.declared.phase.PhaseKind.TheVariants.{Scan, Fill, Wait, Take, Local, Restore, Speak}
use Rattle.kernel_sim.specs.declared.phase.PhaseKind.TheVariants.{Closing}
use Rattle.plain_machine.specs.Direct.{DirectState, Machine, running, dying, ended, in_world, machine_step}
use Rattle.plain_machine.specs.Direct.{direct_after, direct_after-next, direct_after-zero, status_of}
use Rattle.plain_machine.specs.Programs.{Process}
use Rattle.plain_machine.specs.Stands.{Leaves}
use Rattle.plain_machine.specs.Starts.{Configuration, direct_start, first_machine, first_world, setting_of}
use Rattle.plain_machine.specs.Starts.{state_after}
use Rattle.rv_csr.specs.declared.privilege.Mode.{Mode}
use Rattle.rv_csr.specs.declared.privilege.Mode.TheVariants as mode
use Rattle.rv_hart.specs.HartStep.{HartState, System}
use Rattle.syscall_proxy.specs.Kept.{Kept, Setting}
use Rattle.tether_base.specs.Behind.{BehindAnswer, TakesBack, waits, takes, restores}
use Rattle.tether_base.specs.Between.{Prepares, RunsBeside, StandsAt, saves, checks, looks, fills}
use Rattle.tether_base.specs.Own.{AnswersItself, BehindOwn, decides, hands_back, process_before}
use Rattle.tether_base.specs.Place.{AgreesInUser, Book, in_call, place, place_by}
use Rattle.tether_base.specs.Serving.{Here, TellsAll}
use Rattle.tether_base.specs.Waiting.{CallState, Waiting, process_of}
use Rattle.tether_boot.proofs.Unbegun.{boot_agrees, boot_is_unbegun}
use Rattle.tether_boot.specs.Booting.{IsUnbegun}
use Rattle.tether_run.specs.Hands.{Hand, IsIn, IsStarting, starts, begins, runs, prepares, answers, asks}
use Rattle.tether_run.specs.Hands.{queued, returns, says}
use Rattle.tether_run.specs.HostTurns.{IsOpen, StandingIsOpen}
use Rattle.tether_traps.proofs.TrapAgreed.{traps_agree}

-- ---- the direct run
-- a step that leads to a machine that has not ended begins with one
not-before : (given : Setting) (m : Machine) (w : World) → status_of (machine_step given m w).machine ≡ None
    → status_of m ≡ None
not-before given (running process) w e = refl
not-before given (dying text status) w e = refl
not-before given (ended status) w e = e

pub goes-before : (given : Setting) (n : ℕ) (start : DirectState)
    → status_of (direct_after given (n + 1) start).machine ≡ None
    → status_of (direct_after given n start).machine ≡ None
goes-before given n start e =
    let z = direct_after given n start in
    not-before given z.machine z.world
    (ap (λ (s : DirectState). status_of s.machine) (sym (direct_after-next given n start)) ∙ e)

-- so no earlier one has ended
pub none-earlier : (given : Setting) (start : DirectState) (d n : ℕ)
    → status_of (direct_after given (n + d) start).machine ≡ None
    → status_of (direct_after given n start).machine ≡ None
none-earlier given start zero n e =
    let same : n ≡ n + 0 = omega arith in
    ap (λ (k : ℕ). status_of (direct_after given k start).machine) same ∙ e
none-earlier given start (suc d) n e =
    let same : n + d + 1 ≡ n + suc d = omega arith in
    none-earlier given start d n
    (goes-before given (n + d) start (ap (λ (k : ℕ). status_of (direct_after given k start).machine) same ∙ e))

-- ---- places
-- the hart is in machine mode behind a call
pub record IsInCall (hart : HartState) : Type 0 where
  pub in_machine : hart.mode ≡ mode.Machine
  pub by_call : hart.csrs.mcause ≡ 8

module _ (hart : HartState) (i : IsInCall hart) where
  pub call-there : in_call hart.mode hart.csrs.mcause ≡ true
  call-there = ap (λ (m : Mode). in_call m hart.csrs.mcause) i.in_machine
      ∙ ap (λ (n : ℕ). in_call mode.Machine n) i.by_call

  call-place : (book : Book) → place hart book ≡ place_by true hart.user_steps book
  call-place book = ap (λ (t : Bool). place_by t hart.user_steps book) call-there

  -- of a call that has not acted
  pub place-before : (book : Book) (before : ℕ) → hart.user_steps ≡ before + 1 → book.acted_at ≤ before → book.said ≡ 0
      → place hart book ≡ before
  place-before book before counted noted silent =
      let other : (book.acted_at == hart.user_steps) ≡ false =
      ne_eqb book.acted_at hart.user_steps (λ e. omega (arith, counted, noted, e)) in
      call-place book
      ∙ ap (λ (t : Bool). (if t then hart.user_steps else hart.user_steps - 1) + book.said) other
      ∙ (let r : hart.user_steps - 1 + book.said ≡ before = omega (arith, counted, silent) in r)

  -- of one that has
  pub place-after : (book : Book) → book.acted_at ≡ hart.user_steps → book.said ≡ 0
      → place hart book ≡ hart.user_steps
  place-after book noted silent =
      let same : (book.acted_at == hart.user_steps) ≡ true = eq-eqb book.acted_at hart.user_steps noted in
      call-place book
      ∙ ap (λ (t : Bool). (if t then hart.user_steps else hart.user_steps - 1) + book.said) same
      ∙ (let r : hart.user_steps + book.said ≡ hart.user_steps = omega (arith, silent) in r)

place-user : (hart : HartState) (book : Book) → hart.mode ≡ mode.User → book.said ≡ 0
    → place hart book ≡ hart.user_steps
place-user hart book is silent =
    ap (λ (m : Mode). place_by (in_call m hart.csrs.mcause) hart.user_steps book) is
    ∙ (let r : hart.user_steps + book.said ≡ hart.user_steps = omega (arith, silent) in r)

-- in machine mode nothing is said of the program's state
pub machine-agrees : (state : DirectState) (sys : System) → sys.hart.mode ≡ mode.Machine → AgreesInUser state sys
machine-agrees state sys is unhalted in_user =
    let no : mode.Machine ≡ mode.User = sym is ∙ in_user in let bad : ⊥ = cc in absurd bad

-- ---- the kinds of a call
call-by-kind : (k : PhaseKind) (p : Phase) (sys : System) → mode_of k ≡ mode.Machine → sys.hart.mode ≡ mode_of k
    → sys.hart.csrs.mcause ≡ 8 → IsInCall sys.hart
call-by-kind k p sys machine is cause = record { in_machine = is ∙ machine; by_call = cause }

prepares-machine : (k : PhaseKind) → Prepares k → mode_of k ≡ mode.Machine
prepares-machine Save saves = refl
prepares-machine Check checks = refl
prepares-machine Scan looks = refl
prepares-machine Fill fills = refl
prepares-machine Boot kind = elim kind [ ]
prepares-machine BootWait kind = elim kind [ ]
prepares-machine BootTake kind = elim kind [ ]
prepares-machine Leave kind = elim kind [ ]
prepares-machine User kind = elim kind [ ]
prepares-machine Wait kind = elim kind [ ]
prepares-machine Take kind = elim kind [ ]
prepares-machine Local kind = elim kind [ ]
prepares-machine Restore kind = elim kind [ ]
prepares-machine Speak kind = elim kind [ ]
prepares-machine Closing kind = elim kind [ ]

own-call : (k : PhaseKind) (p : Phase) (sys : System) → AnswersItself k → sys.hart.mode ≡ mode_of k → Row k p sys
    → IsInCall sys.hart
own-call Local p sys decides is row = record { in_machine = is; by_call = row.0.call }
own-call Restore p sys hands_back is row = record { in_machine = is; by_call = row.0 }
own-call Boot p sys own is row = elim own [ ]
own-call BootWait p sys own is row = elim own [ ]
own-call BootTake p sys own is row = elim own [ ]
own-call Leave p sys own is row = elim own [ ]
own-call User p sys own is row = elim own [ ]
own-call Save p sys own is row = elim own [ ]
own-call Check p sys own is row = elim own [ ]
own-call Scan p sys own is row = elim own [ ]
own-call Fill p sys own is row = elim own [ ]
own-call Wait p sys own is row = elim own [ ]
own-call Take p sys own is row = elim own [ ]
own-call Speak p sys own is row = elim own [ ]
own-call Closing p sys own is row = elim own [ ]

back-call : (k : PhaseKind) (p : Phase) (sys : System) → TakesBack k → sys.hart.mode ≡ mode_of k → Row k p sys
    → IsInCall sys.hart
back-call Wait p sys waits is row = record { in_machine = is; by_call = row.0.call }
back-call Take p sys takes is row = record { in_machine = is; by_call = row.call }
back-call Restore p sys restores is row = record { in_machine = is; by_call = row.0 }
back-call Boot p sys back is row = elim back [ ]
back-call BootWait p sys back is row = elim back [ ]
back-call BootTake p sys back is row = elim back [ ]
back-call Leave p sys back is row = elim back [ ]
back-call User p sys back is row = elim back [ ]
back-call Save p sys back is row = elim back [ ]
back-call Check p sys back is row = elim back [ ]
back-call Scan p sys back is row = elim back [ ]
back-call Fill p sys back is row = elim back [ ]
back-call Local p sys back is row = elim back [ ]
back-call Speak p sys back is row = elim back [ ]
back-call Closing p sys back is row = elim back [ ]

pub wait-call : (call : CallState) (user : List ℕ) (sys : System) → Waiting call user sys → IsInCall sys.hart
wait-call call user sys wait = record {
  in_machine = wait.holds.every.mode_is ∙ ap mode_of wait.kind;
  by_call = (subst (λ (k : PhaseKind). Row k wait.phase sys) wait.kind wait.holds.row).0.call;
}

-- ---- where the direct run stands
-- the direct run at the session's place is in this world, and has not ended
pub record Placed (c : Configuration) (w : World) (book : Book) (sys : System) : Type 0 where
  pub machine : Machine
  pub stands : state_after (place sys.hart book) c ≡ in_world machine w
  pub goes_on : status_of machine ≡ None
  pub user : AgreesInUser (in_world machine w) sys

module _ (c : Configuration) (w : World) (book : Book) (sys : System) where
  abbrev given : Setting
  given = setting_of c

  abbrev start : DirectState
  start = direct_start c

  -- behind a call, where the place is this
  placed-in-call : IsInCall sys.hart → (steps : ℕ) (m : Machine) → place sys.hart book ≡ steps
      → StandsAt given start w book steps m → status_of m ≡ None → Placed c w book sys
  placed-in-call i steps m at stands goes = record {
    machine = m;
    stands = ap (λ (n : ℕ). state_after n c) at ∙ stands;
    goes_on = goes;
    user = machine-agrees (in_world m w) sys i.in_machine;
  }

  placed-user : (p : Phase) → IsIn p sys → p.kind ≡ User
      → RunsBeside given start w book sys.hart.user_steps p.user sys.bus.user → Placed c w book sys
  placed-user p is kind b =
      let row = subst (λ (k : PhaseKind). Row k p sys) kind is.holds.row in
      let here : Process = process_of p.user sys.bus.user in
      let state : here.state ≡ user_of sys =
      ap (λ (n : ℕ). record { pc = n; registers = p.user.regs; user = sys.bus.user }) (sym row.0)
      ∙ ap (λ (l : List ℕ). record { pc = sys.hart.pc; registers = l; user = sys.bus.user }) (sym row.1) in
      let in_user : sys.hart.mode ≡ mode.User = is.holds.every.mode_is ∙ ap mode_of kind in
      record {
        machine = running here;
        stands = ap (λ (n : ℕ). state_after n c) (place-user sys.hart book in_user b.silent) ∙ b.stands;
        goes_on = refl;
        user = λ unhalted user. (here, refl, state);
      }

  -- before the direct step that leads to the program
  finishing-goes : (before : ℕ) (m : Machine) (process : Process) → StandsAt given start w book before m
      → StandsAt given start w book (before + 1) (running process) → status_of m ≡ None
  finishing-goes before m process stands leads =
      ap (λ (s : DirectState). status_of s.machine) (sym stands)
      ∙ goes-before given before start (ap (λ (s : DirectState). status_of s.machine) leads)

  placed-own : (k : PhaseKind) (p : Phase) → AnswersItself k → IsInCall sys.hart
      → BehindOwn given start w book k p sys → Placed c w book sys
  placed-own Local p decides i b =
      placed-in-call i b.before (running (process_before p.user sys.bus.user b.break))
      (place-before sys.hart i book b.before b.counted b.noted b.silent) b.stands refl
  placed-own Restore p hands_back i b =
      let leads : StandsAt given start w book (b.before + 1) (running (process_of p.user sys.bus.user)) =
      ap (λ (n : ℕ). direct_after given n start) (sym b.counted) ∙ b.leads in
      placed-in-call i b.before b.machine (place-before sys.hart i book b.before b.counted b.noted b.silent) b.stands
      (finishing-goes b.before b.machine (process_of p.user sys.bus.user) b.stands leads)
  placed-own Boot p own i b = elim own [ ]
  placed-own BootWait p own i b = elim own [ ]
  placed-own BootTake p own i b = elim own [ ]
  placed-own Leave p own i b = elim own [ ]
  placed-own User p own i b = elim own [ ]
  placed-own Save p own i b = elim own [ ]
  placed-own Check p own i b = elim own [ ]
  placed-own Scan p own i b = elim own [ ]
  placed-own Fill p own i b = elim own [ ]
  placed-own Wait p own i b = elim own [ ]
  placed-own Take p own i b = elim own [ ]
  placed-own Speak p own i b = elim own [ ]
  placed-own Closing p own i b = elim own [ ]

  placed-back : (k : PhaseKind) (p : Phase) → TakesBack k → IsInCall sys.hart
      → BehindAnswer given start w book k p sys → Placed c w book sys
  placed-back Wait p waits i b =
      placed-in-call i sys.hart.user_steps _ (place-after sys.hart i book b.1.noted b.1.silent) b.1.stands refl
  placed-back Take p takes i b =
      placed-in-call i sys.hart.user_steps _ (place-after sys.hart i book b.noted b.silent) b.stands refl
  placed-back Restore p restores i b =
      placed-in-call i sys.hart.user_steps _ (place-after sys.hart i book b.noted b.silent) b.stands refl
  placed-back Boot p back i b = elim back [ ]
  placed-back BootWait p back i b = elim back [ ]
  placed-back BootTake p back i b = elim back [ ]
  placed-back Leave p back i b = elim back [ ]
  placed-back User p back i b = elim back [ ]
  placed-back Save p back i b = elim back [ ]
  placed-back Check p back i b = elim back [ ]
  placed-back Scan p back i b = elim back [ ]
  placed-back Fill p back i b = elim back [ ]
  placed-back Local p back i b = elim back [ ]
  placed-back Speak p back i b = elim back [ ]
  placed-back Closing p back i b = elim back [ ]

-- before the program's first step the place is the start
pub placed-first : (c : Configuration) (w : World) (book : Book) (k : Kept) (s : Here) → w ≡ first_world c.contents
    → IsUnbegun book s.port.hart → TellsAll w.contents k s → Placed c w book s.port
placed-first c w book k s first u told =
    let b = boot_agrees c w book false k s first u told in
    let m : Machine = first_machine c.image c.args in
    record {
      machine = m;
      stands = ap (λ (n : ℕ). state_after n c) b.1 ∙ direct_after-zero (setting_of c) (direct_start c)
          ∙ ap (λ (z : World). in_world m z) (sym first);
      goes_on = refl;
      user = machine-agrees (in_world m w) s.port u.in_machine;
    }

-- where the hart is to make its first step
pub starting-unbegun : (c : Configuration) (w : World) (book : Book) (sys : System) → IsStarting c w book sys
    → IsUnbegun book sys.hart
starting-unbegun c w book sys s = record {
  in_machine = ap (λ (z : System). z.hart.mode) s.is;
  no_steps = ap (λ (z : System). z.hart.user_steps) s.is;
  noted = s.noted;
  silent = s.silent;
}

pub hand-placed : (c : Configuration) (w : World) (book : Book) (ws : List ℕ) (k : Kept) (s : Here)
    → TellsAll w.contents k s → Hand c w book ws s.port → Placed c w book s.port
hand-placed c w book ws k s told (starts none b) =
    placed-first c w book k s b.world_is (starting-unbegun c w book s.port b) told
hand-placed c w book ws k s told (begins p is kind b) =
    let u = boot_is_unbegun c w book ws p s.port kind b in
    placed-first c w book k s u.world_is u.unbegun told
hand-placed c w book ws k s told (runs p is kind none b) = placed-user c w book s.port p is kind b
hand-placed c w book ws k s told (prepares p is kind none cause b) =
    let i = call-by-kind p.kind p s.port (prepares-machine p.kind kind) is.holds.every.mode_is cause in
    placed-in-call c w book s.port i b.before (running (process_of p.user s.port.bus.user))
    (place-before s.port.hart i book b.before b.counted b.noted b.silent) b.stands refl
hand-placed c w book ws k s told (answers p is kind none b) =
    placed-own c w book s.port p.kind p kind (own-call p.kind p s.port kind is.holds.every.mode_is is.holds.row) b
hand-placed c w book ws k s told (asks call user wait word none pending noted silent) =
    let i = wait-call call user s.port wait in
    placed-in-call c w book s.port i pending.before (running (process_of call.program user))
    (place-before s.port.hart i book pending.before (wait.steps_are ∙ pending.counted) noted silent)
    pending.stands refl
hand-placed c w book ws k s told (queued call user wait word one acted) =
    let i = wait-call call user s.port wait in
    placed-in-call c w book s.port i call.steps _
    (place-after s.port.hart i book (acted.noted ∙ sym wait.steps_are) acted.silent ∙ wait.steps_are) acted.stands refl
hand-placed c w book ws k s told (returns p is kind none b) =
    placed-back c w book s.port p.kind p kind (back-call p.kind p s.port kind is.holds.every.mode_is is.holds.row) b
hand-placed c w book ws k s told (says none hand) =
    let t = traps_agree (setting_of c) (direct_start c) w book k s hand told in
    record {
      machine = dying t.1.0 t.1.1;
      stands = t.1.2;
      goes_on = refl;
      user = subst (λ (z : DirectState). AgreesInUser z s.port) t.1.2 t.0.user;
    }

-- ---- the agreement
-- what is told is that world's
pub told-leaves : (contents : Contents) (k : Kept) (s : Here) → TellsAll contents k s
    → Leaves contents (Some s.input) (Some s.console) (Some s.folder)
told-leaves contents k s told = record {
  input_told = ap (λ (l : List ℕ). Some l) told.input_is;
  console_told = ap (λ (l : List ℕ). Some l) told.console_is;
  files_told = (s.folder, refl, ap files_of told.tree_is);
}

pub placed-open : (c : Configuration) (w : World) (book : Book) (k : Kept) (s : Here) → TellsAll w.contents k s
    → Placed c w book s.port → IsOpen c book s
placed-open c w book k s told p = record {
  agrees = record {
    contents = subst (λ (z : Contents). Leaves z (Some s.input) (Some s.console) (Some s.folder))
        (sym (ap (λ (z : DirectState). z.world.contents) p.stands)) (told-leaves w.contents k s told);
    user = subst (λ (z : DirectState). AgreesInUser z s.port) (sym p.stands) p.user;
  };
  goes_on = ap (λ (z : DirectState). status_of z.machine) p.stands ∙ p.goes_on;
}

-- a hand in its world is open, whatever is kept
pub hand-open : (c : Configuration) (w : World) (book : Book) (ws : List ℕ) (k : Kept) (s : Here)
    → TellsAll w.contents k s → Hand c w book ws s.port → IsOpen c book s
hand-open c w book ws k s told hand = placed-open c w book k s told (hand-placed c w book ws k s told hand)

pub standing_is_open : StandingIsOpen
standing_is_open c book s stands =
    hand-open c stands.world book stands.waiting _ s stands.tells stands.hand
