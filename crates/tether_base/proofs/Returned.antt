-- The steps of the kernel that take an answer back to the program.
use Rattle.std.proofs.Common.{◌≡◌, ◌≢◌, ℕ, true, false, List, [], ◌∷◌, refl, sym, ap, subst, ◌∙◌, arith}
use Rattle.std.specs.Prelude.{length, slice_index, slice_set}
use Rattle.host_text.specs.Runs.{Place}
use Rattle.host_text.specs.World.{World}
use Rattle.htif_mailbox.specs.Turns.{call_answer}
use Rattle.kernel_sim.specs.Advance.{StepsAdvance}
use Rattle.kernel_sim.specs.Changes.{UserAfter, StepsCounted}
use Rattle.kernel_sim.specs.Holds.{Holds}
use Rattle.kernel_sim.specs.Kept.{UserKept}
use Rattle.kernel_sim.specs.Mailbox.{MailboxKept}
use Rattle.kernel_sim.specs.Phases.{answered, next_phase, request_of}
use Rattle.kernel_sim.specs.Steps.{follows}
use Rattle.kernel_sim.specs.declared.phase.Phase.{Phase}
use Rattle.kernel_sim.specs.declared.phase.PhaseKind.{PhaseKind}
use Rattle.kernel_sim.specs.declared.phase.PhaseKind.TheVariants.{Boot, BootWait, BootTake, Leave, User, Save, Check}
use Rattle.kernel_sim.specs.declared.phase.PhaseKind.TheVariants.{Scan, Fill, Wait, Take, Local, Restore, Speak}
use Rattle.kernel_sim.specs.declared.phase.PhaseKind.TheVariants.{Closing}
use Rattle.kernel_sim.specs.declared.phase.UserState.{UserState as Program}
use Rattle.plain_machine.specs.Direct.{DirectState, running, in_world, after_answer, direct_after}
use Rattle.plain_machine.specs.Programs.{Process, replied}
use Rattle.rv_alu.specs.Effects.{put}
use Rattle.rv_hart.specs.HartStep.{System, hart_step}
use Rattle.rv_hart.specs.Laws.{IsSystem}
use Rattle.syscall_proxy.specs.HostRow.{world_after}
use Rattle.syscall_proxy.specs.Kept.{Kept, Setting}
use Rattle.syscall_proxy.specs.declared.answers.CallAnswer.{CallAnswer}
use Rattle.syscall_proxy.specs.declared.answers.CallAnswer.TheVariants.{Result as Value}
use Rattle.tether_base.specs.Behind.{HasActed, IsReturning, BehindAnswer, TakesBack, waits, takes, restores}
use Rattle.tether_base.specs.Behind.{AnswerStepsFollow, AnsweredCallsReturn}
use Rattle.tether_base.specs.Between.{RunsBeside}
use Rattle.tether_base.specs.Place.{Book}
use Rattle.tether_base.specs.Waiting.{process_of}

-- the program with its answer is the direct run's
answered-is : (u : Program) (user : List ℕ) (value : ℕ) → process_of (answered value u) user
    ≡ replied (process_of u user) value
unfolding put
answered-is u user value = refl

module _ (advance : StepsAdvance) (given : Setting) (start : DirectState) (w : World) (book : Book) (p : Phase)
    (sys : System) (held : Holds p sys) (fits : IsSystem sys) where
  abbrev new : System
  new = hart_step sys

  abbrev q : Phase
  q = next_phase p new

  -- what the law of a step says, by the kinds
  record Facts (k j : PhaseKind) : Type 0 where
    user : UserAfter k j p sys new q.user
    bytes : UserKept k j sys.bus new.bus
    steps : StepsCounted k sys.hart new.hart
    mail : MailboxKept k j sys.bus new.bus
    order : follows k j ≡ true

  facts : (k j : PhaseKind) → p.kind ≡ k → q.kind ≡ j → Facts k j
  facts k j e f =
      let a = (advance p sys held fits).1 in
      subst (λ (z : PhaseKind). Facts k z) f
      (subst (λ (z : PhaseKind). Facts z q.kind) e
      (record { user = a.user; bytes = a.user_bytes; steps = a.counted; mail = a.mailbox; order = a.order }))

  -- what the step keeps
  acts-on : q.user ≡ p.user → new.bus.user ≡ sys.bus.user → new.hart.user_steps ≡ sys.hart.user_steps → q.request
      ≡ p.request
      → HasActed given start w book sys.hart.user_steps (slice_index p.request 0) p.user sys.bus.user
      → HasActed given start w book new.hart.user_steps (slice_index q.request 0) q.user new.bus.user
  acts-on same bytes steps asked a =
      let P : ℕ → List ℕ → Program → List ℕ → Type 0 = λ n r u l. HasActed given start w book n (slice_index r 0) u l in
      subst (λ (l : List ℕ). P new.hart.user_steps q.request q.user l) (sym bytes)
      (subst (λ (u : Program). P new.hart.user_steps q.request u sys.bus.user) (sym same)
      (subst (λ (r : List ℕ). P new.hart.user_steps r p.user sys.bus.user) (sym asked)
      (subst (λ (n : ℕ). P n p.request p.user sys.bus.user) (sym steps) a)))

  gives-back : q.user ≡ answered (slice_index p.request 0) p.user → new.bus.user ≡ sys.bus.user → new.hart.user_steps
      ≡ sys.hart.user_steps
      → HasActed given start w book sys.hart.user_steps (slice_index p.request 0) p.user sys.bus.user
      → IsReturning given start w book new.hart.user_steps q.user new.bus.user
  gives-back same bytes steps a =
      let there : process_of q.user new.bus.user ≡ replied (process_of p.user sys.bus.user) (slice_index p.request 0) =
      ap (λ (u : Program). process_of u new.bus.user) same
      ∙ ap (λ (l : List ℕ). process_of (answered (slice_index p.request 0) p.user) l) bytes
      ∙ answered-is p.user sys.bus.user (slice_index p.request 0) in
      record {
        noted = a.noted ∙ sym steps;
        silent = a.silent;
        stands = ap (λ (n : ℕ). direct_after given n start) steps ∙ a.stands
            ∙ ap (λ (z : Process). in_world (running z) w) (sym there);
      }

  returns-on : q.user ≡ p.user → new.bus.user ≡ sys.bus.user → new.hart.user_steps ≡ sys.hart.user_steps
      → IsReturning given start w book sys.hart.user_steps p.user sys.bus.user
      → IsReturning given start w book new.hart.user_steps q.user new.bus.user
  returns-on same bytes steps a =
      let there : process_of q.user new.bus.user ≡ process_of p.user sys.bus.user =
      ap (λ (u : Program). process_of u new.bus.user) same ∙ ap (λ (l : List ℕ). process_of p.user l) bytes in
      record {
        noted = a.noted ∙ sym steps;
        silent = a.silent;
        stands = ap (λ (n : ℕ). direct_after given n start) steps ∙ a.stands
            ∙ ap (λ (z : Process). in_world (running z) w) (sym there);
      }

  runs-again : IsReturning given start w book new.hart.user_steps q.user new.bus.user
      → RunsBeside given start w book new.hart.user_steps q.user new.bus.user
  runs-again a = record { noted = (let e = a.noted in omega arith); silent = a.silent; stands = a.stands }

  -- the words of the mailbox, as the phases have them
  asked-on : (k j : PhaseKind) → (MailboxKept k j sys.bus new.bus)
      → (MailboxKept k j sys.bus new.bus → q.request ≡ request_of sys.bus) → q.request ≡ p.request
  asked-on k j m f = f m ∙ sym held.every.request_is

  going : (k j : PhaseKind) → TakesBack k → Facts k j → BehindAnswer given start w book k p sys
      → BehindAnswer given start w book j q new
  going Wait Boot waits x b = let no : ⊥ = (let e : false ≡ true = x.order in cc) in absurd no
  going Wait BootWait waits x b = let no : ⊥ = (let e : false ≡ true = x.order in cc) in absurd no
  going Wait BootTake waits x b = let no : ⊥ = (let e : false ≡ true = x.order in cc) in absurd no
  going Wait Leave waits x b = let no : ⊥ = (let e : false ≡ true = x.order in cc) in absurd no
  going Wait User waits x b = let no : ⊥ = (let e : false ≡ true = x.order in cc) in absurd no
  going Wait Save waits x b = let no : ⊥ = (let e : false ≡ true = x.order in cc) in absurd no
  going Wait Check waits x b = let no : ⊥ = (let e : false ≡ true = x.order in cc) in absurd no
  going Wait Scan waits x b = let no : ⊥ = (let e : false ≡ true = x.order in cc) in absurd no
  going Wait Fill waits x b = let no : ⊥ = (let e : false ≡ true = x.order in cc) in absurd no
  going Wait Local waits x b = let no : ⊥ = (let e : false ≡ true = x.order in cc) in absurd no
  going Wait Restore waits x b = let no : ⊥ = (let e : false ≡ true = x.order in cc) in absurd no
  going Wait Speak waits x b = let no : ⊥ = (let e : false ≡ true = x.order in cc) in absurd no
  going Wait Closing waits x b = let no : ⊥ = (let e : false ≡ true = x.order in cc) in absurd no
  going Take Boot takes x b = let no : ⊥ = (let e : false ≡ true = x.order in cc) in absurd no
  going Take BootWait takes x b = let no : ⊥ = (let e : false ≡ true = x.order in cc) in absurd no
  going Take BootTake takes x b = let no : ⊥ = (let e : false ≡ true = x.order in cc) in absurd no
  going Take Leave takes x b = let no : ⊥ = (let e : false ≡ true = x.order in cc) in absurd no
  going Take User takes x b = let no : ⊥ = (let e : false ≡ true = x.order in cc) in absurd no
  going Take Save takes x b = let no : ⊥ = (let e : false ≡ true = x.order in cc) in absurd no
  going Take Check takes x b = let no : ⊥ = (let e : false ≡ true = x.order in cc) in absurd no
  going Take Scan takes x b = let no : ⊥ = (let e : false ≡ true = x.order in cc) in absurd no
  going Take Fill takes x b = let no : ⊥ = (let e : false ≡ true = x.order in cc) in absurd no
  going Take Wait takes x b = let no : ⊥ = (let e : false ≡ true = x.order in cc) in absurd no
  going Take Local takes x b = let no : ⊥ = (let e : false ≡ true = x.order in cc) in absurd no
  going Take Speak takes x b = let no : ⊥ = (let e : false ≡ true = x.order in cc) in absurd no
  going Take Closing takes x b = let no : ⊥ = (let e : false ≡ true = x.order in cc) in absurd no
  going Restore Boot restores x b = let no : ⊥ = (let e : false ≡ true = x.order in cc) in absurd no
  going Restore BootWait restores x b = let no : ⊥ = (let e : false ≡ true = x.order in cc) in absurd no
  going Restore BootTake restores x b = let no : ⊥ = (let e : false ≡ true = x.order in cc) in absurd no
  going Restore Leave restores x b = let no : ⊥ = (let e : false ≡ true = x.order in cc) in absurd no
  going Restore Save restores x b = let no : ⊥ = (let e : false ≡ true = x.order in cc) in absurd no
  going Restore Check restores x b = let no : ⊥ = (let e : false ≡ true = x.order in cc) in absurd no
  going Restore Scan restores x b = let no : ⊥ = (let e : false ≡ true = x.order in cc) in absurd no
  going Restore Fill restores x b = let no : ⊥ = (let e : false ≡ true = x.order in cc) in absurd no
  going Restore Wait restores x b = let no : ⊥ = (let e : false ≡ true = x.order in cc) in absurd no
  going Restore Take restores x b = let no : ⊥ = (let e : false ≡ true = x.order in cc) in absurd no
  going Restore Local restores x b = let no : ⊥ = (let e : false ≡ true = x.order in cc) in absurd no
  going Restore Speak restores x b = let no : ⊥ = (let e : false ≡ true = x.order in cc) in absurd no
  going Restore Closing restores x b = let no : ⊥ = (let e : false ≡ true = x.order in cc) in absurd no
  going Wait Wait waits x b = (
    (λ none. b.0 (held.every.fromhost_is ∙ sym x.mail.1 ∙ none)),
    acts-on x.user x.bytes x.steps (asked-on Wait Wait x.mail (λ m. m.2)) b.1,
  )
  going Wait Take waits x b = acts-on x.user x.bytes x.steps (asked-on Wait Take x.mail (λ m. m.2)) b.1
  going Take Take takes x b = acts-on x.user x.bytes x.steps (asked-on Take Take x.mail (λ m. m.2)) b
  going Take Restore takes x b = gives-back x.user x.bytes x.steps b
  going Restore Restore restores x b = returns-on x.user x.bytes x.steps b
  going Restore User restores x b = runs-again (returns-on x.user x.bytes x.steps b)
  going Boot j back x b = elim back [ ]
  going BootWait j back x b = elim back [ ]
  going BootTake j back x b = elim back [ ]
  going Leave j back x b = elim back [ ]
  going User j back x b = elim back [ ]
  going Save j back x b = elim back [ ]
  going Check j back x b = elim back [ ]
  going Scan j back x b = elim back [ ]
  going Fill j back x b = elim back [ ]
  going Local j back x b = elim back [ ]
  going Speak j back x b = elim back [ ]
  going Closing j back x b = elim back [ ]

  answer-step : TakesBack p.kind → BehindAnswer given start w book p.kind p sys
      → BehindAnswer given start w book q.kind q new
  answer-step back b = going p.kind q.kind back (facts p.kind q.kind refl refl) b

pub answer_steps_follow : StepsAdvance → AnswerStepsFollow
answer_steps_follow advance given start w book p sys held fits back b =
    answer-step advance given start w book p sys held fits back b

-- ---- from the answer
set-first : (l : List ℕ) (value : ℕ) → length l ≡ 8 → slice_index (slice_set l 0 value) 0 ≡ value
set-first [] value e = let no : ◌≡◌ {A = ℕ} 0 8 = e in absurd (omega (arith, no))
set-first (x ∷ l) value e = refl

stands-behind : (process : Process) (a : CallAnswer) (value : ℕ) (p : Place (List ℕ) Kept) → a ≡ Value value
    → after_answer process a p ≡ in_world
    (running (replied (record process { state = record process.state { user = p.memory } }) value)) (world_after p)
stands-behind process a value p e = ap (λ (z : CallAnswer). after_answer process z p) e

pub answered_calls_return : AnsweredCallsReturn
answered_calls_return given start c user w pending end value book sys stepped is silent ready =
    let some : call_answer ≢ 0 = λ e. let no : ⊥ = cc in no in
    let first : slice_index ready.phase.request 0 ≡ value =
    ap (λ (l : List ℕ). slice_index l 0) ready.request_is ∙ set-first c.request value pending.long in
    let there : process_of ready.phase.user sys.bus.user ≡ process_of c.program end.place.memory =
    ap (λ (u : Program). process_of u sys.bus.user) ready.program_is
    ∙ ap (λ (l : List ℕ). process_of c.program l) ready.user_is in
    let direct : direct_after given sys.hart.user_steps start
    ≡ in_world (running (replied (process_of c.program end.place.memory) value)) (world_after end.place) =
    ap (λ (n : ℕ). direct_after given n start) ready.steps_are ∙ stepped.direct
    ∙ stands-behind (process_of c.program user) end.answer value end.place is in (
      (λ none. some (sym ready.fromhost_is ∙ none)),
      record {
        noted = sym ready.steps_are;
        silent = silent;
        stands = direct ∙ ap (λ (z : Process). in_world (running (replied z value)) (world_after end.place)) (sym there)
            ∙ ap (λ (n : ℕ). in_world (running (replied (process_of ready.phase.user sys.bus.user) n))
            (world_after end.place)) (sym first);
      },
    )
