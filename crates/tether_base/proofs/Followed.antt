-- The steps of the program beside the direct run's, and those of the kernel until a call is posted.
use Rattle.std.proofs.Common.{◌≡◌, ◌≢◌, ◌⊎◌, ◌<◌, ◌+◌, ◌^◌, ◌==◌, ◌&&◌, ℕ, inl, inr, Bool, true, false, List, refl}
use Rattle.std.proofs.Common.{◌*◌, sym, ap, subst, ◌∙◌, arith}
use Rattle.std.specs.Prelude.{if◌then◌else◌, length, slice_index, Option, Some, unwrap_or}
use Rattle.std.proofs.lemmas.Bool.{eqb-true, eqb-false}
use Rattle.fe_base.specs.Memory.{counted}
use Rattle.fe_base.specs.MemoryMap.{frame, request}
use Rattle.guest_memory.proofs.AreaLemmas.{is_ram-kernel}
use Rattle.guest_memory.proofs.BeatLemmas.{beat-fits}
use Rattle.guest_memory.proofs.BusLemmas.{is_beat-ram, beat-ram}
use Rattle.guest_memory.specs.Bus.{IsBus, beat}
use Rattle.host_text.specs.World.{World}
use Rattle.kernel_sim.specs.Advance.{Advances, StepsAdvance, Posted as PostedBy}
use Rattle.kernel_sim.specs.Changes.{UserAfter, TextAfter, StepsCounted, spoken_of}
use Rattle.kernel_sim.specs.Holds.{Holds}
use Rattle.kernel_sim.specs.Kept.{UserKept}
use Rattle.kernel_sim.specs.Mail.{mail_class, MailIs}
use Rattle.kernel_sim.specs.Phases.{dword, message, next_phase}
use Rattle.kernel_sim.specs.Rows.{InFrame, Row}
use Rattle.kernel_sim.specs.Steps.{follows}
use Rattle.kernel_sim.specs.Stores.{exit_status}
use Rattle.kernel_sim.specs.Traps.{TrapAfter, TrapTold}
use Rattle.kernel_sim.specs.UserMode.{user_of}
use Rattle.kernel_sim.specs.declared.phase.Phase.{Phase}
use Rattle.kernel_sim.specs.declared.phase.PhaseKind.{PhaseKind}
use Rattle.kernel_sim.specs.declared.phase.PhaseKind.TheVariants.{Boot, BootWait, BootTake, Leave, User, Save, Check}
use Rattle.kernel_sim.specs.declared.phase.PhaseKind.TheVariants.{Scan, Fill, Wait, Take, Local, Restore, Speak}
use Rattle.kernel_sim.specs.declared.phase.PhaseKind.TheVariants.{Closing}
use Rattle.kernel_sim.specs.declared.phase.Spoken.{Spoken}
use Rattle.kernel_sim.specs.declared.phase.UserState.{UserState as Program}
use Rattle.plain_machine.proofs.Parts.{posts-inside}
use Rattle.plain_machine.specs.Direct.{DirectState, Machine, running, dying, in_world, after_step, after_trap}
use Rattle.plain_machine.specs.Direct.{direct_after, direct_after-next, direct_step}
use Rattle.plain_machine.specs.Messages.{counter_text, is_counter_access, trap_text}
use Rattle.plain_machine.specs.Programs.{Process, part_of}
use Rattle.plain_machine.specs.UserStep.{UserState as State, UserStep, next, call, trap, user_step}
use Rattle.rv_alu.specs.Causes.{cause_number}
use Rattle.rv_alu.specs.declared.causes.Cause.{Cause}
use Rattle.rv_hart.specs.HartStep.{System, hart_step}
use Rattle.rv_hart.specs.Laws.{IsSystem}
use Rattle.syscall_proxy.specs.Kept.{Setting}
use Rattle.tether_base.specs.Between.{RunsBeside, IsCalling, IsDying, BehindUser, BehindCall, Prepares}
use Rattle.tether_base.specs.Between.{saves, checks, looks, fills, UserStepsFollow, CallStepsFollow, PostedCallsWait}
use Rattle.tether_base.specs.Place.{Book}
use Rattle.tether_base.specs.Waiting.{process_of}

-- the machine of a trap says the phase's message
dies-by : (counter : Bool) (pc cause value : ℕ)
    → (if counter then dying (counter_text pc) 124 else dying (trap_text cause pc value) (128 + cause))
    ≡ dying (if counter then counter_text pc else trap_text cause pc value) (if counter then 124 else 128 + cause)
dies-by true pc cause value = refl
dies-by false pc cause value = refl

module _ (advance : StepsAdvance) (given : Setting) (start : DirectState) (w : World) (book : Book) (p : Phase)
    (sys : System) (held : Holds p sys) (fits : IsSystem sys) where
  abbrev new : System
  new = hart_step sys

  abbrev q : Phase
  q = next_phase p new

  step : Advances p sys new q
  step = (advance p sys held fits).1

  -- ---- the program
  module _ (is_user : p.kind ≡ User) (small : sys.hart.user_steps + 1 < 2 ^ 64)
      (runs : RunsBeside given start w book sys.hart.user_steps p.user sys.bus.user) where
    abbrev here : Process
    here = process_of p.user sys.bus.user

    user-is : user_of sys ≡ here.state
    user-is =
        let row = subst (λ (k : PhaseKind). Row k p sys) is_user held.row in
        ap (λ (n : ℕ). record { pc = n; registers = sys.hart.registers; user = sys.bus.user }) row.0
        ∙ ap (λ (l : List ℕ). record { pc = p.user.pc; registers = l; user = sys.bus.user }) row.1

    counted-is : new.hart.user_steps ≡ sys.hart.user_steps + 1
    counted-is = subst (λ (k : PhaseKind). StepsCounted k sys.hart new.hart) is_user step.counted
        ∙ (let e : counted sys.hart.user_steps ≡ sys.hart.user_steps + 1 = omega arith in e)

    -- the direct run's step
    direct-is : (u : UserStep) → user_step (user_of sys) ≡ u → direct_after given new.hart.user_steps start
        ≡ after_step given here w u
    direct-is u e =
        ap (λ (n : ℕ). direct_after given n start) counted-is ∙ direct_after-next given sys.hart.user_steps start
        ∙ ap (direct_step given) runs.stands
        ∙ ap (λ (s : State). after_step given here w (user_step s)) (sym user-is)
        ∙ ap (λ (z : UserStep). after_step given here w z) e

    moved : (k : PhaseKind) → q.kind ≡ k → k ≡ User
        → RunsBeside given start w book new.hart.user_steps q.user new.bus.user
    moved k e f =
        let u = subst (λ (z : PhaseKind). UserAfter User z p sys new q.user) (e ∙ f)
        (subst (λ (z : PhaseKind). UserAfter z q.kind p sys new q.user) is_user step.user) in
        let state = u.0 in
        let there : process_of q.user new.bus.user ≡ record here { state = state } =
        ap (λ (z : Program). process_of z new.bus.user) u.2
        ∙ ap (λ (l : List ℕ). process_of (record p.user { pc = state.pc; regs = state.registers }) l) u.3 in
        record {
          noted = (let a = runs.noted in omega (arith, counted-is));
          silent = runs.silent;
          stands = direct-is (next state) u.1 ∙ ap (λ (z : Process). in_world (running z) w) (sym there);
        }

    called : q.user ≡ p.user → new.bus.user ≡ sys.bus.user → user_step (user_of sys) ≡ call
        → IsCalling given start w book new.hart.user_steps q.user new.bus.user
    called same bytes is =
        let there : process_of q.user new.bus.user ≡ here =
        ap (λ (z : Program). process_of z new.bus.user) same ∙ ap (λ (l : List ℕ). process_of p.user l) bytes in
        record {
          before = sys.hart.user_steps;
          counted = counted-is;
          noted = runs.noted;
          silent = runs.silent;
          stands = runs.stands ∙ ap (λ (z : Process). in_world (running z) w) (sym there);
          is_call = ap (λ (z : Process). user_step z.state) there ∙ ap user_step (sym user-is) ∙ is;
        }

    dies : (cause : Cause) (value : ℕ) → user_step (user_of sys) ≡ trap cause value → q.text
        ≡ spoken_of cause value p.user.pc → IsDying given start w book new.hart.user_steps q.text
    dies cause value is text =
        let counter : Bool = (cause_number cause == 2) && is_counter_access value in
        let says : after_trap p.user.pc cause value
        ≡ dying (message (spoken_of cause value p.user.pc)) (exit_status (spoken_of cause value p.user.pc)) =
        dies-by counter p.user.pc (cause_number cause) value in
        record {
          noted = (let a = runs.noted in omega (arith, counted-is));
          silent = runs.silent;
          unsaid = ap (λ (t : Spoken). t.posted) text;
          stands = direct-is (trap cause value) is ∙ ap (λ (m : Machine). in_world m w) says
              ∙ ap (λ (t : Spoken). in_world (dying (message t) (exit_status t)) w) (sym text);
        }

    trapped : q.kind ≡ Save → (IsCalling given start w book new.hart.user_steps q.user new.bus.user
        × (new.hart.csrs.mcause ≡ 8)) ⊎
        (IsDying given start w book new.hart.user_steps q.text × (new.hart.csrs.mcause ≢ 8))
    trapped e =
        let same : q.user ≡ p.user = subst (λ (z : PhaseKind). UserAfter User z p sys new q.user) e
        (subst (λ (z : PhaseKind). UserAfter z q.kind p sys new q.user) is_user step.user) in
        let bytes : new.bus.user ≡ sys.bus.user =
        subst (λ (z : PhaseKind). UserKept User z sys.bus new.bus) e
        (subst (λ (z : PhaseKind). UserKept z q.kind sys.bus new.bus) is_user step.user_bytes) in
        let text = subst (λ (z : PhaseKind). TextAfter User z p sys q.text) e
        (subst (λ (z : PhaseKind). TextAfter z q.kind p sys q.text) is_user step.text) in
        let told : TrapTold sys new = (subst (λ (z : PhaseKind). TrapAfter User z sys new) e
        (subst (λ (z : PhaseKind). TrapAfter z q.kind sys new) is_user step.trap)).0 in
        elim text [
          | inl c ↦ elim told [
            | inl t ↦ inl (called same bytes t.0, t.1)
            | inr t ↦ let no : trap t.0 t.1 ≡ call = sym t.2 ∙ c.0 in let bad : ⊥ = cc in absurd bad
          ]
          | inr t ↦ inr (
            dies t.0 t.1 t.2 t.3,
            elim told [
              | inl c ↦ let no : trap t.0 t.1 ≡ call = sym t.2 ∙ c.0 in let bad : ⊥ = cc in absurd bad
              | inr c ↦ λ is. c.5 (sym c.3 ∙ is)
            ],
          )
        ]

    order : follows User q.kind ≡ true
    order = subst (λ (k : PhaseKind). follows k q.kind ≡ true) is_user step.order

    behind : (k : PhaseKind) → q.kind ≡ k → follows User k ≡ true → BehindUser given start w book k q new
    behind User e f = moved User e refl
    behind Save e f = trapped e
    behind Boot e f = let no : ⊥ = cc in absurd no
    behind BootWait e f = let no : ⊥ = cc in absurd no
    behind BootTake e f = let no : ⊥ = cc in absurd no
    behind Leave e f = let no : ⊥ = cc in absurd no
    behind Check e f = let no : ⊥ = cc in absurd no
    behind Scan e f = let no : ⊥ = cc in absurd no
    behind Fill e f = let no : ⊥ = cc in absurd no
    behind Wait e f = let no : ⊥ = cc in absurd no
    behind Take e f = let no : ⊥ = cc in absurd no
    behind Local e f = let no : ⊥ = cc in absurd no
    behind Restore e f = let no : ⊥ = cc in absurd no
    behind Speak e f = let no : ⊥ = cc in absurd no
    behind Closing e f = let no : ⊥ = cc in absurd no

    user-step : BehindUser given start w book q.kind q new
    user-step = behind q.kind refl order

pub user_steps_follow : StepsAdvance → UserStepsFollow
user_steps_follow advance given start w book p sys held fits is_user small runs =
    user-step advance given start w book p sys held fits is_user small runs

-- ---- a call that is prepared
module _ (advance : StepsAdvance) (given : Setting) (start : DirectState) (w : World) (book : Book) (p : Phase)
    (sys : System) (held : Holds p sys) (fits : IsSystem sys) (by_call : sys.hart.csrs.mcause ≡ 8)
    (calls : IsCalling given start w book sys.hart.user_steps p.user sys.bus.user) where
  abbrev after : System
  after = hart_step sys

  abbrev then_is : Phase
  then_is = next_phase p after

  -- what the step keeps
  kept : then_is.user ≡ p.user → after.bus.user ≡ sys.bus.user → after.hart.user_steps ≡ sys.hart.user_steps
      → IsCalling given start w book after.hart.user_steps then_is.user after.bus.user
  kept same bytes steps =
      let there : process_of then_is.user after.bus.user ≡ process_of p.user sys.bus.user =
      ap (λ (z : Program). process_of z after.bus.user) same ∙ ap (λ (l : List ℕ). process_of p.user l) bytes in
      record {
        before = calls.before;
        counted = steps ∙ calls.counted;
        noted = calls.noted;
        silent = calls.silent;
        stands = calls.stands ∙ ap (λ (z : Process). in_world (running z) w) (sym there);
        is_call = ap (λ (z : Process). user_step z.state) there ∙ calls.is_call;
      }

  -- what the law of a step says, by the kinds
  record Facts (k j : PhaseKind) : Type 0 where
    user : UserAfter k j p sys after then_is.user
    bytes : UserKept k j sys.bus after.bus
    steps : StepsCounted k sys.hart after.hart
    trap_is : TrapAfter k j sys after
    posted : PostedBy k j p sys after
    order : follows k j ≡ true
    row : Row j then_is after

  facts : (k j : PhaseKind) → p.kind ≡ k → then_is.kind ≡ j → Facts k j
  facts k j e f =
      let s = advance p sys held fits in
      let a = s.1 in
      subst (λ (z : PhaseKind). Facts k z) f (subst (λ (z : PhaseKind). Facts z then_is.kind) e (record {
        user = a.user;
        bytes = a.user_bytes;
        steps = a.counted;
        trap_is = a.trap;
        posted = a.posted;
        order = a.order;
        row = s.0.row;
      }))

  abbrev Next : PhaseKind → Type 0
  Next j = BehindCall given start w book j then_is after × (after.hart.csrs.mcause ≡ 8)

  going : (k j : PhaseKind) → Prepares k → Facts k j → Next j
  going Save Boot saves x = let no : ⊥ = (let e : false ≡ true = x.order in cc) in absurd no
  going Save BootWait saves x = let no : ⊥ = (let e : false ≡ true = x.order in cc) in absurd no
  going Save BootTake saves x = let no : ⊥ = (let e : false ≡ true = x.order in cc) in absurd no
  going Save Leave saves x = let no : ⊥ = (let e : false ≡ true = x.order in cc) in absurd no
  going Save User saves x = let no : ⊥ = (let e : false ≡ true = x.order in cc) in absurd no
  going Save Save saves x = (kept x.user x.bytes x.steps, x.trap_is.0.0 ∙ by_call)
  going Save Check saves x = (kept x.user x.bytes x.steps, x.trap_is.0.0 ∙ by_call)
  going Save Scan saves x = let no : ⊥ = (let e : false ≡ true = x.order in cc) in absurd no
  going Save Fill saves x = let no : ⊥ = (let e : false ≡ true = x.order in cc) in absurd no
  going Save Wait saves x = let no : ⊥ = (let e : false ≡ true = x.order in cc) in absurd no
  going Save Take saves x = let no : ⊥ = (let e : false ≡ true = x.order in cc) in absurd no
  going Save Local saves x = let no : ⊥ = (let e : false ≡ true = x.order in cc) in absurd no
  going Save Restore saves x = let no : ⊥ = (let e : false ≡ true = x.order in cc) in absurd no
  going Save Speak saves x = let no : ⊥ = (let e : false ≡ true = x.order in cc) in absurd no
  going Save Closing saves x = let no : ⊥ = (let e : false ≡ true = x.order in cc) in absurd no
  going Check Boot checks x = let no : ⊥ = (let e : false ≡ true = x.order in cc) in absurd no
  going Check BootWait checks x = let no : ⊥ = (let e : false ≡ true = x.order in cc) in absurd no
  going Check BootTake checks x = let no : ⊥ = (let e : false ≡ true = x.order in cc) in absurd no
  going Check Leave checks x = let no : ⊥ = (let e : false ≡ true = x.order in cc) in absurd no
  going Check User checks x = let no : ⊥ = (let e : false ≡ true = x.order in cc) in absurd no
  going Check Save checks x = let no : ⊥ = (let e : false ≡ true = x.order in cc) in absurd no
  going Check Check checks x = (kept x.user x.bytes x.steps, x.trap_is.0.0 ∙ by_call)
  going Check Scan checks x = (kept x.user x.bytes x.steps, x.trap_is.0.0 ∙ by_call)
  going Check Fill checks x = (kept x.user x.bytes x.steps, x.trap_is.0.0 ∙ by_call)
  going Check Wait checks x = let no : ⊥ = (let e : false ≡ true = x.order in cc) in absurd no
  going Check Take checks x = let no : ⊥ = (let e : false ≡ true = x.order in cc) in absurd no
  going Check Local checks x = (kept x.user x.bytes x.steps, x.trap_is.0.0 ∙ by_call)
  going Check Restore checks x = let no : ⊥ = (let e : false ≡ true = x.order in cc) in absurd no
  going Check Speak checks x = let no : ⊥ = x.row.0.no_call (x.trap_is.0.0 ∙ by_call) in absurd no
  going Check Closing checks x = let no : ⊥ = (let e : false ≡ true = x.order in cc) in absurd no
  going Scan Boot looks x = let no : ⊥ = (let e : false ≡ true = x.order in cc) in absurd no
  going Scan BootWait looks x = let no : ⊥ = (let e : false ≡ true = x.order in cc) in absurd no
  going Scan BootTake looks x = let no : ⊥ = (let e : false ≡ true = x.order in cc) in absurd no
  going Scan Leave looks x = let no : ⊥ = (let e : false ≡ true = x.order in cc) in absurd no
  going Scan User looks x = let no : ⊥ = (let e : false ≡ true = x.order in cc) in absurd no
  going Scan Save looks x = let no : ⊥ = (let e : false ≡ true = x.order in cc) in absurd no
  going Scan Check looks x = let no : ⊥ = (let e : false ≡ true = x.order in cc) in absurd no
  going Scan Scan looks x = (kept x.user x.bytes x.steps, x.trap_is.0.0 ∙ by_call)
  going Scan Fill looks x = (kept x.user x.bytes x.steps, x.trap_is.0.0 ∙ by_call)
  going Scan Wait looks x = let no : ⊥ = (let e : false ≡ true = x.order in cc) in absurd no
  going Scan Take looks x = let no : ⊥ = (let e : false ≡ true = x.order in cc) in absurd no
  going Scan Local looks x = (kept x.user x.bytes x.steps, x.trap_is.0.0 ∙ by_call)
  going Scan Restore looks x = let no : ⊥ = (let e : false ≡ true = x.order in cc) in absurd no
  going Scan Speak looks x = let no : ⊥ = (let e : false ≡ true = x.order in cc) in absurd no
  going Scan Closing looks x = let no : ⊥ = (let e : false ≡ true = x.order in cc) in absurd no
  going Fill Boot fills x = let no : ⊥ = (let e : false ≡ true = x.order in cc) in absurd no
  going Fill BootWait fills x = let no : ⊥ = (let e : false ≡ true = x.order in cc) in absurd no
  going Fill BootTake fills x = let no : ⊥ = (let e : false ≡ true = x.order in cc) in absurd no
  going Fill Leave fills x = let no : ⊥ = (let e : false ≡ true = x.order in cc) in absurd no
  going Fill User fills x = let no : ⊥ = (let e : false ≡ true = x.order in cc) in absurd no
  going Fill Save fills x = let no : ⊥ = (let e : false ≡ true = x.order in cc) in absurd no
  going Fill Check fills x = let no : ⊥ = (let e : false ≡ true = x.order in cc) in absurd no
  going Fill Scan fills x = let no : ⊥ = (let e : false ≡ true = x.order in cc) in absurd no
  going Fill Fill fills x = (kept x.user x.bytes x.steps, x.trap_is.0.0 ∙ by_call)
  going Fill Wait fills x =
      let c = kept x.user x.bytes x.steps in
      let there : process_of then_is.user after.bus.user ≡ process_of p.user sys.bus.user =
      ap (λ (z : Program). process_of z after.bus.user) x.user ∙ ap (λ (l : List ℕ). process_of p.user l) x.bytes in (
        record { calls = c; posted = ap (λ (z : Process). part_of z) there ∙ x.posted.0; tohost_is = x.posted.1 },
        x.trap_is.0.0 ∙ by_call,
      )
  going Fill Take fills x = let no : ⊥ = (let e : false ≡ true = x.order in cc) in absurd no
  going Fill Local fills x = let no : ⊥ = (let e : false ≡ true = x.order in cc) in absurd no
  going Fill Restore fills x = let no : ⊥ = (let e : false ≡ true = x.order in cc) in absurd no
  going Fill Speak fills x = let no : ⊥ = (let e : false ≡ true = x.order in cc) in absurd no
  going Fill Closing fills x = let no : ⊥ = (let e : false ≡ true = x.order in cc) in absurd no
  going Boot j pr x = elim pr [ ]
  going BootWait j pr x = elim pr [ ]
  going BootTake j pr x = elim pr [ ]
  going Leave j pr x = elim pr [ ]
  going User j pr x = elim pr [ ]
  going Wait j pr x = elim pr [ ]
  going Take j pr x = elim pr [ ]
  going Local j pr x = elim pr [ ]
  going Restore j pr x = elim pr [ ]
  going Speak j pr x = elim pr [ ]
  going Closing j pr x = elim pr [ ]

  call-step : Prepares p.kind → Next then_is.kind
  call-step pr = going p.kind then_is.kind pr (facts p.kind then_is.kind refl refl)

pub call_steps_follow : StepsAdvance → CallStepsFollow
call_steps_follow advance given start w book p sys held fits pr by_call calls =
    call-step advance given start w book p sys held fits by_call calls pr

-- ---- a posted call
no-answer : (p : Phase) → (p.fromhost ≢ 0 → p.tohost ≡ 0) → p.tohost ≡ request → p.fromhost ≡ 0
no-answer p mail asks = go (p.fromhost == 0) refl
  where
    go : (b : Bool) → (p.fromhost == 0) ≡ b → p.fromhost ≡ 0
    go true e = eqb-true p.fromhost 0 e
    go false e = let none : p.tohost ≡ 0 = mail (eqb-false p.fromhost 0 e) in absurd (omega (arith, none, asks))

-- the program's second argument is a doubleword, as it stands in FRAME
second-fits : (p : Phase) (sys : System) → InFrame p sys → IsBus sys.bus → slice_index p.user.regs 11 < 2 ^ 64
second-fits p sys held fits =
    let at : ℕ = frame + 8 * 11 in
    let known : beat sys.bus at ≡ Some (dword sys.bus at) =
    beat-ram sys.bus at (λ e. omega arith) (is_beat-ram at refl (is_ram-kernel at 8 (omega arith) (omega arith))) in
    let small : dword sys.bus at < 2 ^ 64 =
    subst (λ (o : Option ℕ). unwrap_or o 0 < 2 ^ 64) known (beat-fits sys.bus at fits) in
    subst (λ (n : ℕ). n < 2 ^ 64) (held 11 (omega arith) (omega arith)) small

pub posted_calls_wait : PostedCallsWait
posted_calls_wait given start w book p sys held fits kind posted world =
    let row : Row Wait p sys = subst (λ (k : PhaseKind). Row k p sys) kind held.row in
    let inside = posts-inside p.user.regs sys.bus.user p.user.brk p.user.first_break
    (part_of (process_of p.user sys.bus.user)) refl (second-fits p sys row.0.registers fits.bus_fits) p.request
    posted.posted given in
    let mail : p.fromhost ≢ 0 → p.tohost ≡ 0 =
    subst (λ (k : PhaseKind). MailIs (mail_class k) p.tohost p.fromhost) kind held.every.mailbox in (
      record {
        phase = p;
        holds = held;
        kind = kind;
        tohost_is = posted.tohost_is;
        unanswered = no-answer p mail posted.tohost_is;
        program_is = refl;
        request_is = refl;
        user_is = refl;
        steps_are = refl;
        fits = fits;
      },
      record {
        before = posted.calls.before;
        counted = posted.calls.counted;
        stands = posted.calls.stands;
        calls = posted.calls.is_call;
        posted = posted.posted;
        long = ap (λ (l : List ℕ). length l) held.every.request_is;
        inside = inside;
        in_a_world = world;
      },
    )
