-- What the kernel part of the call is in a phase that holds, and what is told of a step.
use Rattle.std.proofs.Common.{◌≡◌, ℕ, ◌-◌, ◌*◌, ◌+◌, ◌==◌, Bool, true, false, ◌&&◌, ◌||◌, inl, inr, List, [], ◌∷◌, refl, ap, sym, subst, ◌∙◌, arith}
use Rattle.std.specs.Prelude.{slice_set}
use Rattle.std.proofs.lemmas.Bool.{false≢true, and_parts}
use Rattle.rv_csr.specs.CsrTable.{csr_of}
use Rattle.rv_hart.specs.HartStep.{System, IsHart, hart_step}
use Rattle.guest_memory.specs.Memory.{load}
use Rattle.guest_memory.specs.Bus.{IsBus, bus_load}
use Rattle.fe_base.specs.MemoryMap.{kernel_start, tohost, kernel_code_size, request}
use Rattle.guest_memory.proofs.AreaLemmas.{bus_load-kernel}
use Rattle.kernel_sim.specs.declared.phase.PhaseKind.{PhaseKind}
use Rattle.kernel_sim.specs.declared.phase.PhaseKind.TheVariants.{Boot, BootWait, BootTake, Leave, User, Save, Check, Scan, Fill, Wait, Take, Local, Restore, Speak, Closing}
use Rattle.kernel_sim.specs.declared.phase.Phase.{Phase}
use Rattle.kernel_sim.specs.declared.phase.UserState.{UserState}
use Rattle.kernel_steps.specs.Terms.{Term, Lit, Var, Is}
use Rattle.kernel_steps.specs.States.{State, Describes}
use Rattle.kernel_steps.specs.Blocks.{Here, same}
use Rattle.kernel_code.specs.Kernel.{kernel, blocks}
use Rattle.proxy_kernel.specs.KernelWords.{kernel_insns}
use Rattle.kernel_code.specs.Calls.{call_blocks}
use Rattle.kernel_code.specs.TrapWords.{trap_blocks}
use Rattle.kernel_code.specs.CounterWords.{counter_blocks}
use Rattle.kernel_code.specs.Shorthand.{cells_0, cells_1, cells_2, cells_3, cells_4, cells_5, cells_6, cells_7, cells_8, cells_9, csrs_0, csrs_1, csrs_2}
use Rattle.plain_machine.specs.KernelPart.{Part, posts, scans, first_part}
use Rattle.kernel_sim.specs.Phases.{kind_now, next_phase, request_of}
use Rattle.kernel_sim.specs.Rows.{call_part}
use Rattle.kernel_sim.specs.Steps.{follows}
use Rattle.kernel_sim.proofs.Told.{Told, PartIs}
use Rattle.kernel_sim.specs.Stages.{Stage, Starting, Scanning, Looked, Past, Full, Found, Filling, Waiting, Tested, NoCall, Outside, Long, Breaking, Ending, Ended, stage_kind, stage_number, direct, part, WasAsked, Links, Extra, InKernel, HoldsAs, Known}
use Rattle.kernel_steps.proofs.Soundness.{CellsAre-get}
use Rattle.kernel_steps.proofs.GraphLaws.{same-path}
use Rattle.kernel_steps.proofs.Tests.{blocks_all, blocks_all-at}
use Rattle.kernel_sim.proofs.Gates.{cell_of}
use Rattle.kernel_sim.proofs.PartLaws.{part-is, break-part}
use Rattle.kernel_sim.proofs.StepLaws.{step_told}
use Rattle.kernel_code.specs.Numbers.{waiting_blocks, tested_blocks, v_word1, v_word2, v_word3, v_word4, v_word5, v_break, v_word0}
use Rattle.kernel_code.specs.Places.{request_cell}

-- the request, but for its first doubleword, while it waits
abbrev asked_ok : ℕ → State → Bool
asked_ok k u = elim (k == waiting_blocks || k == tested_blocks) [
  | true ↦ same (cell_of u (request_cell + 1)) (Var v_word1) && (same (cell_of u (request_cell + 2)) (Var v_word2) && (same (cell_of u (request_cell + 3)) (Var v_word3) && (same (cell_of u (request_cell + 4)) (Var v_word4) && (same (cell_of u (request_cell + 5)) (Var v_word5) && (same (cell_of u (request_cell + 6)) (Lit 0) && same (cell_of u (request_cell + 7)) (Lit 0))))))
  | false ↦ true
]

asked_right : blocks_all asked_ok kernel blocks ≡ true
unfolding kernel kernel_insns blocks call_blocks trap_blocks counter_blocks cells_0 cells_1 cells_2 cells_3 cells_4 cells_5 cells_6 cells_7 cells_8 cells_9 csrs_0 csrs_1 csrs_2 csr_of
asked_right = refl

direct-is : (st : Stage) (u : UserState) (env : ℕ → ℕ) → Links st u env → u.brk ≡ env v_break → direct env ≡ first_part u.regs u.brk u.first_break
direct-is st u env l b =
    let r10 = l.regs_are 10 (omega arith) in
    let r11 = l.regs_are 11 (omega arith) in
    let r12 = l.regs_are 12 (omega arith) in
    let r13 = l.regs_are 13 (omega arith) in
    let r17 = l.regs_are 17 (omega arith) in
    rw (r10, r11, r12, r13, r17, b, l.first_is) refl

module _ (p : Phase) (sys : System) where
  scans-in : (st : Stage) (env : ℕ → ℕ) → Links st p.user env → p.user.brk ≡ env v_break → direct env ≡ scans → first_part p.user.regs p.user.brk p.user.first_break ≡ scans
  scans-in st env l b x = sym (direct-is st p.user env l b) ∙ x

  part-in : (st : Stage) (env : ℕ → ℕ) (user : List ℕ) (q : Part) → sys.bus.user ≡ user → Links st p.user env → p.user.brk ≡ env v_break → part env user ≡ q → call_part p sys.bus.user ≡ q
  part-in st env user q e l b x = subst (λ z. call_part p z ≡ q) (sym e) (sym (part-is st p.user env user l b) ∙ x)

  scan : InKernel Scan p sys → PartIs Scan p sys.bus
  scan i = go i.stage i.staged i.links i.extra
    where
      go : (st : Stage) → stage_kind st ≡ Scan → Links st p.user i.env → Extra st p i.user i.env → PartIs Scan p sys.bus
      go Starting e l x = scans-in Starting i.env l l.break_is x.0
      go Scanning e l x = scans-in Scanning i.env l l.break_is x.0.has_path
      go Looked e l x = scans-in Looked i.env l l.break_is x.0.has_path
      go Past e l x = scans-in Past i.env l l.break_is x.0.has_path
      go Full e l x = scans-in Full i.env l l.break_is x.0.has_path
      go st e l x = cc

  fill : InKernel Fill p sys → PartIs Fill p sys.bus
  fill i = go i.stage i.staged i.links i.extra
    where
      go : (st : Stage) → stage_kind st ≡ Fill → Links st p.user i.env → Extra st p i.user i.env → PartIs Fill p sys.bus
      go Found e l x = (_, part-in Found i.env i.user _ i.here.describes.memory.user_is l l.break_is x.1)
      go Filling e l x = (_, part-in Filling i.env i.user _ i.here.describes.memory.user_is l l.break_is x)
      go st e l x = cc

  local : InKernel Local p sys → PartIs Local p sys.bus
  local i = go i.stage i.staged i.links i.extra
    where
      go : (st : Stage) → stage_kind st ≡ Local → Links st p.user i.env → Extra st p i.user i.env → PartIs Local p sys.bus
      go NoCall e l x = (_, inl (part-in NoCall i.env i.user _ i.here.describes.memory.user_is l l.break_is x))
      go Outside e l x = (_, inl (part-in Outside i.env i.user _ i.here.describes.memory.user_is l l.break_is x))
      go Long e l x = (_, inl (part-in Long i.env i.user _ i.here.describes.memory.user_is l l.break_is x))
      go Breaking e l x = (_, inr (break-part p.user.regs sys.bus.user p.user.brk p.user.first_break (sym (l.regs_are 17 (omega arith)) ∙ x)))
      go st e l x = cc

  module _ (user : List ℕ) (env : ℕ → ℕ) (w : State) (m : Describes kernel user env w sys) where
    cell-now : (c at : ℕ) (v : Term) → at ≡ tohost + 8 * c → same (cell_of w c) v ≡ true → Is env v (bus_load sys.bus at 8)
    cell-now c at v e q =
        subst (λ z. Is env v z) (sym (bus_load-kernel sys.bus at 8 (omega arith)))
        (subst (λ z. Is env z (load sys.bus.kernel (at - kernel_start) 8)) (same-path (cell_of w c) v q) (CellsAre-get env w.cells sys.bus.kernel kernel_code_size c (at - kernel_start) (omega arith) m.memory.cells_are))

    asked-words : (same (cell_of w (request_cell + 1)) (Var v_word1) && (same (cell_of w (request_cell + 2)) (Var v_word2) && (same (cell_of w (request_cell + 3)) (Var v_word3) && (same (cell_of w (request_cell + 4)) (Var v_word4) && (same (cell_of w (request_cell + 5)) (Var v_word5) && (same (cell_of w (request_cell + 6)) (Lit 0) && same (cell_of w (request_cell + 7)) (Lit 0))))))) ≡ true
        → slice_set (request_of sys.bus) 0 (env v_word0) ≡ env v_word0 ∷ env v_word1 ∷ env v_word2 ∷ env v_word3 ∷ env v_word4 ∷ env v_word5 ∷ 0 ∷ 0 ∷ []
    asked-words q =
        let q1 = and_parts (same (cell_of w (request_cell + 1)) (Var v_word1)) _ q in
        let q2 = and_parts (same (cell_of w (request_cell + 2)) (Var v_word2)) _ q1.1 in
        let q3 = and_parts (same (cell_of w (request_cell + 3)) (Var v_word3)) _ q2.1 in
        let q4 = and_parts (same (cell_of w (request_cell + 4)) (Var v_word4)) _ q3.1 in
        let q5 = and_parts (same (cell_of w (request_cell + 5)) (Var v_word5)) _ q4.1 in
        let q6 = and_parts (same (cell_of w (request_cell + 6)) (Lit 0)) _ q5.1 in
        let p1 = cell-now (request_cell + 1) (request + 8) (Var v_word1) refl q1.0 in
        let p2 = cell-now (request_cell + 2) (request + 16) (Var v_word2) refl q2.0 in
        let p3 = cell-now (request_cell + 3) (request + 24) (Var v_word3) refl q3.0 in
        let p4 = cell-now (request_cell + 4) (request + 32) (Var v_word4) refl q4.0 in
        let p5 = cell-now (request_cell + 5) (request + 40) (Var v_word5) refl q5.0 in
        let p6 = cell-now (request_cell + 6) (request + 48) (Lit 0) refl q6.0 in
        let p7 = cell-now (request_cell + 7) (request + 56) (Lit 0) refl q6.1 in
        rw (p1, p2, p3, p4, p5, p6, p7) refl

  wait : p.request ≡ request_of sys.bus → InKernel Wait p sys → PartIs Wait p sys.bus
  wait r i = go i.stage i.staged i.here i.links i.extra
    where
      asked : (st : Stage) (k : ℕ) → (k == waiting_blocks || k == tested_blocks) ≡ true → Here kernel i.user i.env blocks k sys → Links st p.user i.env → p.user.brk ≡ i.env v_break → WasAsked i.env → PartIs Wait p sys.bus
      asked st k a w l b x = (x.0, i.env v_word0, sym (part-is st p.user i.env x.0 l b) ∙ x.1 ∙ ap posts (sym (ap (λ z. slice_set z 0 (i.env v_word0)) r ∙ asked-words i.user i.env w.state w.describes (pick (k == waiting_blocks || k == tested_blocks) _ a (subst (λ z. asked_ok z w.state ≡ true) w.kind (blocks_all-at asked_ok kernel blocks w.block w.state asked_right w.among w.on))))))
        where
          pick : (c x : Bool) → c ≡ true → ◌≡◌ {A = Bool} (elim c [ true ↦ x | false ↦ true ]) true → x ≡ true
          pick true x a e = e
          pick false x a e = absurd (false≢true a)

      go : (st : Stage) → stage_kind st ≡ Wait → Here kernel i.user i.env blocks (stage_number st) sys → Links st p.user i.env → Extra st p i.user i.env → PartIs Wait p sys.bus
      go Waiting e w l x = asked Waiting 9 refl w l l.break_is x
      go Tested e w l x = asked Tested 57 refl w l l.break_is x.0
      go st e w l x = cc

  close : InKernel Closing p sys → PartIs Closing p sys.bus
  close i = go i.stage i.staged i.extra
    where
      go : (st : Stage) → stage_kind st ≡ Closing → Extra st p i.user i.env → PartIs Closing p sys.bus
      go (Ending c) e x = x.2
      go (Ended c) e x = x.2
      go st e x = cc

  by-kind : (k : PhaseKind) → HoldsAs k p sys → PartIs k p sys.bus
  by-kind Scan h = scan h.place
  by-kind Fill h = fill h.place
  by-kind Local h = local h.place
  by-kind Wait h = wait h.request_is h.place
  by-kind Closing h = close h.place
  by-kind Boot h = tt
  by-kind BootWait h = tt
  by-kind BootTake h = tt
  by-kind Leave h = tt
  by-kind User h = tt
  by-kind Save h = tt
  by-kind Check h = tt
  by-kind Take h = tt
  by-kind Restore h = tt
  by-kind Speak h = tt

-- the kernel part in a phase that holds
pub part_law : (p : Phase) (sys : System) → Known p sys → PartIs p.kind p sys.bus
unfolding Known
part_law p sys h = by-kind p sys p.kind h.0

-- the kind that follows, and what is told, of a step that was made
pub told_law : (p q : Phase) (sys made : System) → Known p sys → IsBus sys.bus → IsHart sys.hart → made ≡ hart_step sys → IsBus made.bus → IsHart made.hart → q ≡ next_phase p made → (follows p.kind q.kind ≡ true) × Told p.kind q.kind p sys made
unfolding Known
told_law p q sys made h b i e b2 i2 f =
    subst (λ z. (follows p.kind z.kind ≡ true) × Told p.kind z.kind p sys made) (sym f)
    (subst (λ z. (follows p.kind (kind_now z) ≡ true) × Told p.kind (kind_now z) p sys z) (sym e)
    (step_told p.kind p sys h.0 b i (subst (λ z. IsBus z.bus) e b2) (subst (λ z. IsHart z.hart) e i2)))
