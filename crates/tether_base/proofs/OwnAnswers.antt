-- The steps of the kernel that answer a call by themselves.
use Rattle.std.proofs.Common.{◌≡◌, ◌==◌, ℕ, inl, inr, Bool, true, false, List, refl, sym, ap, subst, ◌∙◌}
use Rattle.std.proofs.Common.{arith}
use Rattle.std.specs.Prelude.{if◌then◌else◌, nat_lt, slice_index}
use Rattle.std.proofs.lemmas.Bool.{eqb-true}
use Rattle.fe_base.specs.Limits.{greatest_break}
use Rattle.host_text.specs.World.{World}
use Rattle.kernel_sim.specs.Advance.{StepsAdvance}
use Rattle.kernel_sim.specs.Changes.{UserAfter, StepsCounted}
use Rattle.kernel_sim.specs.Holds.{Holds}
use Rattle.kernel_sim.specs.Kept.{UserKept}
use Rattle.kernel_sim.specs.Phases.{answered, next_phase}
use Rattle.kernel_sim.specs.Rows.{call_part}
use Rattle.kernel_sim.specs.Steps.{follows}
use Rattle.kernel_sim.specs.declared.phase.Phase.{Phase}
use Rattle.kernel_sim.specs.declared.phase.PhaseKind.{PhaseKind}
use Rattle.kernel_sim.specs.declared.phase.PhaseKind.TheVariants.{Boot, BootWait, BootTake, Leave, User, Save, Check}
use Rattle.kernel_sim.specs.declared.phase.PhaseKind.TheVariants.{Scan, Fill, Wait, Take, Local, Restore, Speak}
use Rattle.kernel_sim.specs.declared.phase.PhaseKind.TheVariants.{Closing}
use Rattle.kernel_sim.specs.declared.phase.UserState.{UserState as Program}
use Rattle.plain_machine.specs.Direct.{DirectState, running, in_world, after_part, after_step, direct_after}
use Rattle.plain_machine.specs.Direct.{direct_after-next, direct_step}
use Rattle.plain_machine.specs.KernelPart.{Part, gives, breaks, break_after, direct_part, first_part, kernel_part}
use Rattle.plain_machine.specs.KernelPart.{path_part, with_path}
use Rattle.plain_machine.specs.Programs.{Process, part_of, replied, with_break}
use Rattle.plain_machine.specs.UserStep.{UserStep}
use Rattle.rv_alu.specs.Effects.{put}
use Rattle.rv_hart.specs.HartStep.{System, hart_step}
use Rattle.rv_hart.specs.Laws.{IsSystem}
use Rattle.syscall_proxy.specs.Kept.{Setting}
use Rattle.tether_base.specs.Between.{RunsBeside}
use Rattle.tether_base.specs.Own.{process_before, IsAnswering, IsFinishing, BehindOwn, AnswersItself, decides}
use Rattle.tether_base.specs.Own.{hands_back, OwnCallsBegin, OwnAnswersFollow}
use Rattle.tether_base.specs.Place.{Book}
use Rattle.tether_base.specs.Waiting.{process_of}

-- ---- brk answers the same where the break is already moved
settles : (below above : Bool) (a b : ℕ)
    → (if below then (if below then b else if above then b else a) else if above then
    (if below then b else if above then b else a) else a) ≡ (if below then b else if above then b else a)
settles true above a b = refl
settles false true a b = refl
settles false false a b = refl

break-settles : (a b first : ℕ) → break_after a (break_after a b first) first ≡ break_after a b first
break-settles a b first = settles (nat_lt a first) (nat_lt greatest_break a) a b

-- no other call has to do with the break
unbroken : (number a b c d brk other first : ℕ) → (number == 214) ≡ false → direct_part number a b c d brk first
    ≡ direct_part number a b c d other first
unbroken number a b c d brk other first e = rw e refl

broken : (number a b c d brk first : ℕ) → (number == 214) ≡ true → direct_part number a b c d brk first
    ≡ breaks (break_after a brk first)
broken number a b c d brk first e =
    let P : ℕ → Type 0 = λ n. direct_part n a b c d brk first ≡ breaks (break_after a brk first) in
    subst P (sym (eqb-true number 214 e)) refl

breaks-same : (m n : ℕ) → breaks m ≡ breaks n → m ≡ n
breaks-same m n e = cc

part-settles : (regs user : List ℕ) (brk first m : ℕ) → kernel_part regs user brk first ≡ breaks m
    → kernel_part regs user m first ≡ breaks m
unfolding kernel_part
part-settles regs user brk first m e = go (slice_index regs 17 == 214) refl
  where
    go : (b : Bool) → (slice_index regs 17 == 214) ≡ b → kernel_part regs user m first ≡ breaks m
    go true is =
        let number = slice_index regs 17 in
        let a = slice_index regs 10 in
        let was : first_part regs brk first ≡ breaks (break_after a brk first) =
        broken number a (slice_index regs 11) (slice_index regs 12) (slice_index regs 13) brk first is in
        let now : first_part regs m first ≡ breaks (break_after a m first) =
        broken number a (slice_index regs 11) (slice_index regs 12) (slice_index regs 13) m first is in
        let moved : break_after a brk first ≡ m =
        breaks-same (break_after a brk first) m
        (ap (λ (q : Part). with_path q (path_part regs user)) (sym was) ∙ e) in
        ap (λ (q : Part). with_path q (path_part regs user)) now
        ∙ ap (λ (n : ℕ). breaks n) (ap (λ (n : ℕ). break_after a n first) (sym moved) ∙ break-settles a brk first
        ∙ moved)
    go false is =
        ap (λ (q : Part). with_path q (path_part regs user))
        (unbroken (slice_index regs 17) (slice_index regs 10) (slice_index regs 11) (slice_index regs 12)
        (slice_index regs 13) m brk first is)
        ∙ e

-- ---- the program with its answer is the direct run's
given-is : (u : Program) (user : List ℕ) (value : ℕ) → process_of (answered value u) user
    ≡ replied (process_of u user) value
unfolding put
given-is u user value = refl

moved-is : (u : Program) (user : List ℕ) (break value : ℕ)
    → process_of (record (answered value u) { brk = value }) user ≡ with_break (process_before u user break) value
unfolding put
moved-is u user break value = refl

pub own_calls_begin : OwnCallsBegin
own_calls_begin given start w book p sys calls = record {
  before = calls.before;
  counted = calls.counted;
  noted = calls.noted;
  silent = calls.silent;
  break = p.user.brk;
  stands = calls.stands;
  is_call = calls.is_call;
  break_is = inl refl;
}

module _ (advance : StepsAdvance) (given : Setting) (start : DirectState) (w : World) (book : Book) (p : Phase)
    (sys : System) (held : Holds p sys) (fits : IsSystem sys) where
  abbrev new : System
  new = hart_step sys

  abbrev q : Phase
  q = next_phase p new

  -- what the law of a step says, by the kinds
  record Facts (k j : PhaseKind) : Type 0 where
    user : UserAfter k j p sys new q.user
    bytes : UserKept k j sys.bus new.bus
    steps : StepsCounted k sys.hart new.hart
    order : follows k j ≡ true

  facts : (k j : PhaseKind) → p.kind ≡ k → q.kind ≡ j → Facts k j
  facts k j e f =
      let a = (advance p sys held fits).1 in
      subst (λ (z : PhaseKind). Facts k z) f
      (subst (λ (z : PhaseKind). Facts z q.kind) e
      (record { user = a.user; bytes = a.user_bytes; steps = a.counted; order = a.order }))

  abbrev Answering : ℕ → Program → List ℕ → Type 0
  Answering steps u user = IsAnswering given start w book steps u user

  abbrev Finishing : ℕ → Program → List ℕ → Type 0
  Finishing steps u user = IsFinishing given start w book steps u user

  at-now : (P : ℕ → Program → List ℕ → Type 0) (u : Program) → q.user ≡ u → new.bus.user ≡ sys.bus.user
      → new.hart.user_steps ≡ sys.hart.user_steps → P sys.hart.user_steps u sys.bus.user
      → P new.hart.user_steps q.user new.bus.user
  at-now P u same bytes steps h =
      subst (λ (l : List ℕ). P new.hart.user_steps q.user l) (sym bytes)
      (subst (λ (z : Program). P new.hart.user_steps z sys.bus.user) (sym same)
      (subst (λ (n : ℕ). P n u sys.bus.user) (sym steps) h))

  -- the break is moved
  moves : (moved : ℕ) → call_part p sys.bus.user ≡ breaks moved → Answering sys.hart.user_steps p.user sys.bus.user
      → Answering sys.hart.user_steps (record p.user { brk = moved }) sys.bus.user
  moves moved is a = record {
    before = a.before;
    counted = a.counted;
    noted = a.noted;
    silent = a.silent;
    break = a.break;
    stands = a.stands;
    is_call = a.is_call;
    break_is = elim a.break_is [
      | inl e ↦ inr (ap (λ (n : ℕ). part_of (process_before p.user sys.bus.user n)) (sym e) ∙ is)
      | inr e ↦
          let settled = part-settles p.user.regs sys.bus.user a.break p.user.first_break p.user.brk e in
          inr (e ∙ sym settled ∙ is)
    ];
  }

  decided : (u : Program) → q.user ≡ u → UserAfter Local Local p sys new u → new.bus.user ≡ sys.bus.user
      → new.hart.user_steps ≡ sys.hart.user_steps → Answering sys.hart.user_steps p.user sys.bus.user
      → Answering new.hart.user_steps q.user new.bus.user
  decided u same h bytes steps a = elim h [
    | inl e ↦ at-now Answering p.user (same ∙ e) bytes steps a
    | inr e ↦ at-now Answering (record p.user { brk = u.brk }) (same ∙ e.1) bytes steps (moves u.brk e.0 a)
  ]

  -- the direct run's step at the call
  direct-is : (a : Answering sys.hart.user_steps p.user sys.bus.user) (part : Part)
      → part_of (process_before p.user sys.bus.user a.break) ≡ part
      → direct_after given sys.hart.user_steps start
      ≡ after_part given (process_before p.user sys.bus.user a.break) w part
  direct-is a part e =
      let process = process_before p.user sys.bus.user a.break in
      ap (λ (n : ℕ). direct_after given n start) a.counted ∙ direct_after-next given a.before start
      ∙ ap (direct_step given) a.stands
      ∙ ap (λ (u : UserStep). after_step given process w u) a.is_call
      ∙ ap (λ (z : Part). after_part given process w z) e

  finishing : (a : Answering sys.hart.user_steps p.user sys.bus.user) (u : Program) (part : Part)
      → part_of (process_before p.user sys.bus.user a.break) ≡ part
      → after_part given (process_before p.user sys.bus.user a.break) w part
      ≡ in_world (running (process_of u sys.bus.user)) w → Finishing sys.hart.user_steps u sys.bus.user
  finishing a u part e leads = record {
    before = a.before;
    counted = a.counted;
    noted = a.noted;
    silent = a.silent;
    machine = running (process_before p.user sys.bus.user a.break);
    stands = a.stands;
    leads = direct-is a part e ∙ leads;
  }

  -- the kernel's part at the program's own break
  gives-is : (a : Answering sys.hart.user_steps p.user sys.bus.user) (answer : ℕ) → call_part p sys.bus.user
      ≡ gives answer → p.user.brk ≡ a.break
  gives-is a answer is = elim a.break_is [
    | inl e ↦ e
    | inr e ↦
        let no : gives answer ≡ breaks p.user.brk =
        sym is ∙ part-settles p.user.regs sys.bus.user a.break p.user.first_break p.user.brk e in
        let bad : ⊥ = cc in
        absurd bad
  ]

  breaks-is : (a : Answering sys.hart.user_steps p.user sys.bus.user) (answer : ℕ) → call_part p sys.bus.user
      ≡ breaks answer → part_of (process_before p.user sys.bus.user a.break) ≡ breaks answer
  breaks-is a answer is = elim a.break_is [
    | inl e ↦ ap (λ (n : ℕ). part_of (process_before p.user sys.bus.user n)) (sym e) ∙ is
    | inr e ↦ e ∙ sym (part-settles p.user.regs sys.bus.user a.break p.user.first_break p.user.brk e) ∙ is
  ]

  gave-back : (answer : ℕ) → call_part p sys.bus.user ≡ gives answer
      → Answering sys.hart.user_steps p.user sys.bus.user
      → Finishing sys.hart.user_steps (answered answer p.user) sys.bus.user
  gave-back answer is a =
      let same = gives-is a answer is in
      let there : process_of p.user sys.bus.user ≡ process_before p.user sys.bus.user a.break =
      ap (λ (n : ℕ). process_before p.user sys.bus.user n) same in
      finishing a (answered answer p.user) (gives answer)
      (ap (λ (n : ℕ). part_of (process_before p.user sys.bus.user n)) (sym same) ∙ is)
      (ap (λ (z : Process). in_world (running (replied z answer)) w) (sym there)
      ∙ ap (λ (z : Process). in_world (running z) w) (sym (given-is p.user sys.bus.user answer)))

  broke-back : (answer : ℕ) → call_part p sys.bus.user ≡ breaks answer
      → Answering sys.hart.user_steps p.user sys.bus.user
      → Finishing sys.hart.user_steps (record (answered answer p.user) { brk = answer }) sys.bus.user
  broke-back answer is a =
      finishing a (record (answered answer p.user) { brk = answer }) (breaks answer) (breaks-is a answer is)
      (ap (λ (z : Process). in_world (running z) w) (sym (moved-is p.user sys.bus.user a.break answer)))

  finished : (u : Program) → q.user ≡ u → UserAfter Local Restore p sys new u → new.bus.user ≡ sys.bus.user
      → new.hart.user_steps ≡ sys.hart.user_steps → Answering sys.hart.user_steps p.user sys.bus.user
      → Finishing new.hart.user_steps q.user new.bus.user
  finished u same h bytes steps a = elim h.1 [
    | inl e ↦ at-now Finishing (answered h.0 p.user) (same ∙ e.1) bytes steps (gave-back h.0 e.0 a)
    | inr e ↦ at-now Finishing (record (answered h.0 p.user) { brk = h.0 }) (same ∙ e.1) bytes steps
        (broke-back h.0 e.0 a)
  ]

  runs-again : Finishing new.hart.user_steps q.user new.bus.user
      → RunsBeside given start w book new.hart.user_steps q.user new.bus.user
  runs-again a = record {
    noted = (let n = a.noted in let c = a.counted in omega arith);
    silent = a.silent;
    stands = a.leads;
  }

  going : (k j : PhaseKind) → AnswersItself k → Facts k j → BehindOwn given start w book k p sys
      → BehindOwn given start w book j q new
  going Local Boot decides x b = let no : ⊥ = (let e : false ≡ true = x.order in cc) in absurd no
  going Local BootWait decides x b = let no : ⊥ = (let e : false ≡ true = x.order in cc) in absurd no
  going Local BootTake decides x b = let no : ⊥ = (let e : false ≡ true = x.order in cc) in absurd no
  going Local Leave decides x b = let no : ⊥ = (let e : false ≡ true = x.order in cc) in absurd no
  going Local User decides x b = let no : ⊥ = (let e : false ≡ true = x.order in cc) in absurd no
  going Local Save decides x b = let no : ⊥ = (let e : false ≡ true = x.order in cc) in absurd no
  going Local Check decides x b = let no : ⊥ = (let e : false ≡ true = x.order in cc) in absurd no
  going Local Scan decides x b = let no : ⊥ = (let e : false ≡ true = x.order in cc) in absurd no
  going Local Fill decides x b = let no : ⊥ = (let e : false ≡ true = x.order in cc) in absurd no
  going Local Wait decides x b = let no : ⊥ = (let e : false ≡ true = x.order in cc) in absurd no
  going Local Take decides x b = let no : ⊥ = (let e : false ≡ true = x.order in cc) in absurd no
  going Local Speak decides x b = let no : ⊥ = (let e : false ≡ true = x.order in cc) in absurd no
  going Local Closing decides x b = let no : ⊥ = (let e : false ≡ true = x.order in cc) in absurd no
  going Restore Boot hands_back x b = let no : ⊥ = (let e : false ≡ true = x.order in cc) in absurd no
  going Restore BootWait hands_back x b = let no : ⊥ = (let e : false ≡ true = x.order in cc) in absurd no
  going Restore BootTake hands_back x b = let no : ⊥ = (let e : false ≡ true = x.order in cc) in absurd no
  going Restore Leave hands_back x b = let no : ⊥ = (let e : false ≡ true = x.order in cc) in absurd no
  going Restore Save hands_back x b = let no : ⊥ = (let e : false ≡ true = x.order in cc) in absurd no
  going Restore Check hands_back x b = let no : ⊥ = (let e : false ≡ true = x.order in cc) in absurd no
  going Restore Scan hands_back x b = let no : ⊥ = (let e : false ≡ true = x.order in cc) in absurd no
  going Restore Fill hands_back x b = let no : ⊥ = (let e : false ≡ true = x.order in cc) in absurd no
  going Restore Wait hands_back x b = let no : ⊥ = (let e : false ≡ true = x.order in cc) in absurd no
  going Restore Take hands_back x b = let no : ⊥ = (let e : false ≡ true = x.order in cc) in absurd no
  going Restore Local hands_back x b = let no : ⊥ = (let e : false ≡ true = x.order in cc) in absurd no
  going Restore Speak hands_back x b = let no : ⊥ = (let e : false ≡ true = x.order in cc) in absurd no
  going Restore Closing hands_back x b = let no : ⊥ = (let e : false ≡ true = x.order in cc) in absurd no
  going Local Local decides x b = decided q.user refl x.user x.bytes x.steps b
  going Local Restore decides x b = finished q.user refl x.user x.bytes x.steps b
  going Restore Restore hands_back x b = at-now Finishing p.user x.user x.bytes x.steps b
  going Restore User hands_back x b = runs-again (at-now Finishing p.user x.user x.bytes x.steps b)
  going Boot j itself x b = elim itself [ ]
  going BootWait j itself x b = elim itself [ ]
  going BootTake j itself x b = elim itself [ ]
  going Leave j itself x b = elim itself [ ]
  going User j itself x b = elim itself [ ]
  going Save j itself x b = elim itself [ ]
  going Check j itself x b = elim itself [ ]
  going Scan j itself x b = elim itself [ ]
  going Fill j itself x b = elim itself [ ]
  going Wait j itself x b = elim itself [ ]
  going Take j itself x b = elim itself [ ]
  going Speak j itself x b = elim itself [ ]
  going Closing j itself x b = elim itself [ ]

  own-step : AnswersItself p.kind → BehindOwn given start w book p.kind p sys
      → BehindOwn given start w book q.kind q new
  own-step itself b = going p.kind q.kind itself (facts p.kind q.kind refl refl) b

pub own_answers_follow : StepsAdvance → OwnAnswersFollow
own_answers_follow advance given start w book p sys held fits itself b =
    own-step advance given start w book p sys held fits itself b
