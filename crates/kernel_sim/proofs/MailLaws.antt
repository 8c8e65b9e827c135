-- The mailbox over a step of the kernel.
use Rattle.std.proofs.Common.{◌≡◌, ◌≢◌, pos, ◌%◌, ℕ, ◌+◌, ◌*◌, ◌^◌, ◌==◌, Bool, true, false, ◌&&◌, ◌||◌, inl, inr, Option, Some, None, List, [], ◌∷◌, get_or, refl, ap, sym, subst, ◌∙◌, arith}
use Rattle.std.proofs.lemmas.Bool.{false≢true, eqb-true, eqb-false, and_parts}
use Rattle.rv_csr.specs.CsrTable.{csr_of}
use Rattle.rv_hart.specs.HartStep.{System, HartState, AreRegisters, hart_step, over, unless, effect_step, after_step, next_hart, trap_step, after_mret}
use Rattle.guest_memory.specs.Memory.{load}
use Rattle.kernel_sim.specs.declared.phase.PhaseKind.{PhaseKind}
use Rattle.kernel_steps.specs.Terms.{Lit, Var, Unknown, Is}
use Rattle.kernel_steps.specs.States.{State, Describes, OneDescribes}
use Rattle.kernel_steps.specs.Successors.{fetch, successors}
use Rattle.kernel_steps.specs.Blocks.{Here, same, has_fact}
use Rattle.kernel_code.specs.Kinds.{may_follow}
use Rattle.kernel_code.specs.Kernel.{kernel, blocks}
use Rattle.proxy_kernel.specs.KernelWords.{kernel_insns}
use Rattle.kernel_code.specs.Calls.{call_blocks}
use Rattle.kernel_code.specs.TrapWords.{trap_blocks}
use Rattle.kernel_code.specs.CounterWords.{counter_blocks}
use Rattle.kernel_code.specs.Shorthand.{cells_0, cells_1, cells_2, cells_3, cells_4, cells_5, cells_6, cells_7, cells_8, cells_9, csrs_0, csrs_1, csrs_2}
use Rattle.kernel_sim.specs.Phases.{kernel_kind, kind_of, kind_now}
use Rattle.kernel_sim.specs.declared.phase.PhaseKind.TheVariants.{Boot, BootWait, BootTake, Leave, User, Save, Check, Scan, Fill, Wait, Take, Local, Restore, Speak, Closing}
use Rattle.rv_decode.specs.declared.instruction.Insn.TheVariants.{Lbu, Mret}
use Rattle.rv_alu.specs.Effects.{effect_of, bytes}
use Rattle.rv_alu.specs.declared.effects.Effect.TheVariants.{Load}
use Rattle.rv_alu.specs.declared.effects.Size.{Size}
use Rattle.rv_alu.specs.declared.effects.Size.TheVariants.{Byte}
use Rattle.rv_csr.specs.declared.privilege.Access.TheVariants.{Read}
use Rattle.rv_csr.specs.declared.privilege.Mode.TheVariants.{Machine}
use Rattle.rv_hart.specs.Accesses.{refused_byte}
use Rattle.rv_alu.specs.declared.causes.Cause.TheVariants.{LoadAccess}
use Rattle.kernel_sim.proofs.TrapLaws.{mret-done, mret-there, leave-there}
use Rattle.kernel_sim.proofs.PathLaws.{lbu-there}
use Rattle.kernel_sim.specs.Mail.{MailClass, Quiet, Asked, Given, Spoken, mail_class, MailIs}
use Rattle.kernel_steps.proofs.Soundness.{carried, CellsAre-get, fetched}
use Rattle.kernel_steps.proofs.GraphLaws.{led, same-path, has_fact-holds, then-l, then-r}
use Rattle.kernel_steps.proofs.Rebase.{learn_cell}
use Rattle.kernel_steps.proofs.Tests.{blocks_all, blocks_all-at}
use Rattle.kernel_sim.proofs.Gates.{number_code, kind_code, set_cell, fact}
use Rattle.kernel_code.specs.Numbers.{boot_waiting_blocks, waiting_blocks, boot_taking_blocks, taking_blocks, choosing_blocks, v_fromhost, tested_blocks, boot_tested_blocks}
use Rattle.kernel_code.specs.Places.{tohost_cell, fromhost_cell, pc_path_load, pc_save, pc_return, pc_leave_return, pc_path_loaded, tohost_place, fromhost_place}
use Rattle.fe_base.specs.MemoryMap.{kernel_code_size}

-- the class of a code of a kind
abbrev pub class_of : ℕ → MailClass
class_of n = elim (n == boot_waiting_blocks || n == waiting_blocks) [ true ↦ Asked | false ↦ elim (n == boot_taking_blocks || n == taking_blocks) [ true ↦ Given | false ↦ elim (n == choosing_blocks || n == 14) [ true ↦ Spoken | false ↦ Quiet ] ] ]

abbrev zero_at : State → ℕ → Bool
zero_at t c = same (get_or t.cells c Unknown) (Lit 0)

-- what is known of the mailbox in a state suffices for its class
abbrev suits : MailClass → State → Bool
suits Quiet t = zero_at t tohost_cell && zero_at t fromhost_cell
suits Asked t = zero_at t tohost_cell || zero_at t fromhost_cell
suits Given t = zero_at t tohost_cell
suits Spoken t = zero_at t fromhost_cell

abbrev class_at : State → MailClass
class_at t = class_of (kind_code (kernel_kind t.at))

abbrev all_suit : List State → Bool
all_suit [] = true
all_suit (t ∷ ts) = elim (suits (class_at t) t) [ true ↦ all_suit ts | false ↦ false ]

-- the awaited word has come
abbrev came : State → Bool
came t = has_fact (fact false (Var v_fromhost) (Lit 0) false) t.facts

abbrev all_wait : List State → Bool
all_wait [] = true
all_wait (t ∷ ts) = elim (suits (class_at t) t || came t) [ true ↦ all_wait ts | false ↦ false ]

abbrev pub tries : Bool → Option (List State) → (List State → Bool) → Bool
tries open_here (Some ts) f = f ts
tries open_here None f = open_here

-- the load of a path's byte, and MRET
abbrev pub is_bus_kept : State → Bool
is_bus_kept u = (u.at == pc_path_load && same u.csrs.tvec (Lit pc_save)) || (u.at == pc_return || u.at == pc_leave_return)

abbrev zero0 : State → State
zero0 u = set_cell u tohost_cell (Lit 0)

abbrev zero8 : State → State
zero8 u = set_cell u fromhost_cell (Lit 0)

abbrev all_wait_at : Bool → List State → Bool
all_wait_at true ts = all_wait ts
all_wait_at false ts = all_suit ts

abbrev mail_by : MailClass → ℕ → State → Bool
mail_by Quiet k u = tries (is_bus_kept u) (successors kernel (zero8 (zero0 u))) all_suit
mail_by Asked k u = tries false (successors kernel (zero0 u)) all_suit && tries false (successors kernel (zero8 u)) (all_wait_at (k == tested_blocks || k == boot_tested_blocks))
mail_by Given k u = tries false (successors kernel (zero0 u)) all_suit
mail_by Spoken k u = tries false (successors kernel (zero8 u)) all_suit

abbrev mail_ok : ℕ → State → Bool
mail_ok k u = elim (number_code k == 99) [ true ↦ true | false ↦ mail_by (class_of (number_code k)) k u ]

mail_right : blocks_all mail_ok kernel blocks ≡ true
unfolding kernel kernel_insns blocks call_blocks trap_blocks counter_blocks cells_0 cells_1 cells_2 cells_3 cells_4 cells_5 cells_6 cells_7 cells_8 cells_9 csrs_0 csrs_1 csrs_2 csr_of kernel_kind
mail_right = refl

pub class-same : (k : PhaseKind) → class_of (kind_code k) ≡ mail_class k
class-same Boot = refl
class-same BootWait = refl
class-same BootTake = refl
class-same Leave = refl
class-same User = refl
class-same Save = refl
class-same Check = refl
class-same Scan = refl
class-same Fill = refl
class-same Wait = refl
class-same Take = refl
class-same Local = refl
class-same Restore = refl
class-same Speak = refl
class-same Closing = refl

-- a load and MRET leave the bus
module _ (sys : System) where
  load-bus : (rd at bits after : ℕ) (z : Size) (x : Bool) → (carried (Load rd z x at) bits after sys).bus ≡ sys.bus
  unfolding effect_step
  load-bus rd at bits after z x = go (refused_byte sys.hart.csrs sys.hart.mode Read at (bytes z)) _
    where
      go : (o : Option ℕ) (h : HartState) → (after_step sys (unless o LoadAccess (next_hart sys.bus h))).bus ≡ sys.bus
      go None h = refl
      go (Some b) h = refl

  load-hart : (rd at bits after : ℕ) (z : Size) (x : Bool) → sys.hart.mode ≡ Machine → sys.hart.csrs.mtvec ≡ pc_save → after ≡ pc_path_loaded → mail_class (kind_now (carried (Load rd z x at) bits after sys)) ≡ Quiet
  unfolding effect_step trap_step kernel_kind
  load-hart rd at bits after z x m t a = go (refused_byte sys.hart.csrs sys.hart.mode Read at (bytes z)) _
    where
      go : (o : Option ℕ) (rs : List ℕ) → mail_class (kind_now (after_step sys (unless o LoadAccess (next_hart sys.bus (record sys.hart { pc = after; registers = rs }))))) ≡ Quiet
      go None rs = rw (m, a) refl
      go (Some b) rs = rw t refl

module _ (user : List ℕ) (env : ℕ → ℕ) (sys : System) (fit : AreRegisters sys.hart.registers) where
  abbrev next : System
  next = hart_step sys

  abbrev word0 : System → ℕ
  word0 z = load z.bus.kernel tohost_place 8

  abbrev word8 : System → ℕ
  word8 z = load z.bus.kernel fromhost_place 8

  cell-zero : (t : State) (c b : ℕ) (z : System) → b ≡ kernel_code_size + 8 * c → zero_at t c ≡ true → Describes kernel user env t z → load z.bus.kernel b 8 ≡ 0
  cell-zero t c b z e q m = subst (λ s. Is env s (load z.bus.kernel b 8)) (same-path (get_or t.cells c Unknown) (Lit 0) q) (CellsAre-get env t.cells z.bus.kernel kernel_code_size c b e m.memory.cells_are)

  orb : {P : Type 0} (a b : Bool) → (a || b) ≡ true → (a ≡ true → P) → (b ≡ true → P) → P
  orb true b e f g = f refl
  orb false b e f g = g e

  suited : (c : MailClass) (t : State) (z : System) → suits c t ≡ true → Describes kernel user env t z → MailIs c (word0 z) (word8 z)
  suited Quiet t z e m = let p = and_parts (zero_at t tohost_cell) (zero_at t fromhost_cell) e in (cell-zero t tohost_cell tohost_place z refl p.0 m, cell-zero t fromhost_cell fromhost_place z refl p.1 m)
  suited Asked t z e m = orb (zero_at t tohost_cell) (zero_at t fromhost_cell) e (λ q ne. cell-zero t tohost_cell tohost_place z refl q m) (λ q ne. absurd (ne (cell-zero t fromhost_cell fromhost_place z refl q m)))
  suited Given t z e m = cell-zero t tohost_cell tohost_place z refl e m
  suited Spoken t z e m = cell-zero t fromhost_cell fromhost_place z refl e m

  abbrev pub Done : Type 0
  Done = MailIs (mail_class (kind_now next)) (word0 next) (word8 next)

  at-state : (t : State) → Describes kernel user env t next → MailIs (class_at t) (word0 next) (word8 next) → Done
  at-state t m h = subst (λ z. MailIs z (word0 next) (word8 next)) (class-same (kernel_kind t.at) ∙ sym (ap mail_class (ap (λ z. kind_of z next.hart.pc) m.mode ∙ ap kernel_kind m.at))) h

  all-suited : (ts : List State) → all_suit ts ≡ true → OneDescribes kernel user env ts next → Done
  all-suited [] e m = absurd m
  all-suited (t ∷ ts) e (inl m) = at-state t m (suited (class_at t) t next (then-l _ _ e) m)
  all-suited (t ∷ ts) e (inr m) = all-suited ts (then-r (suits (class_at t) t) _ e) m

  all-waited : (ts : List State) → all_wait ts ≡ true → (env v_fromhost ≢ 0 → Done) → OneDescribes kernel user env ts next → Done
  all-waited [] e f m = absurd m
  all-waited (t ∷ ts) e f (inl m) = orb (suits (class_at t) t) (came t) (then-l _ _ e) (λ q. at-state t m (suited (class_at t) t next q m)) (λ q. f (eqb-false (env v_fromhost) 0 (has_fact-holds env (fact false (Var v_fromhost) (Lit 0) false) t.facts q m.facts)))
  all-waited (t ∷ ts) e f (inr m) = all-waited ts (then-r (suits (class_at t) t || came t) _ e) f m

  tried : (u : State) (o : Bool) (f : List State → Bool) → tries o (successors kernel u) f ≡ true → Describes kernel user env u sys → ((ts : List State) → f ts ≡ true → OneDescribes kernel user env ts next → Done) → (o ≡ true → Done) → Done
  tried u o f e m g h = go (successors kernel u) refl e
    where
      go : (x : Option (List State)) → successors kernel u ≡ x → tries o x f ≡ true → Done
      go (Some ts) q r = g ts r (led kernel user env may_follow blocks sys fit u ts _ refl q m)
      go None q r = h r

  never : false ≡ true → Done
  never e = absurd (false≢true e)

  means0 : (u : State) → Describes kernel user env u sys → word0 sys ≡ 0 → Describes kernel user env (zero0 u) sys
  means0 u m z = learn_cell kernel user env u sys tohost_cell tohost_place (Lit 0) refl z m

  means8 : (u : State) → Describes kernel user env u sys → word8 sys ≡ 0 → Describes kernel user env (zero8 u) sys
  means8 u m z = learn_cell kernel user env u sys fromhost_cell fromhost_place (Lit 0) refl z m

  waited-at : (b : Bool) (ts : List State) → all_wait_at b ts ≡ true → (b ≡ true → env v_fromhost ≢ 0 → Done) → OneDescribes kernel user env ts next → Done
  waited-at true ts e f m = all-waited ts e (f refl) m
  waited-at false ts e f m = all-suited ts e m

  -- the mailbox after a step from a place of a block
  by-class : (c : MailClass) (k : ℕ) (u : State) → mail_by c k u ≡ true → Describes kernel user env u sys → MailIs c (word0 sys) (word8 sys) → ((k == tested_blocks || k == boot_tested_blocks) ≡ true → env v_fromhost ≢ 0 → word8 sys ≢ 0) → (is_bus_kept u ≡ true → word0 sys ≡ 0 → word8 sys ≡ 0 → Done) → Done
  by-class Quiet k u e m h seen kept = tried (zero8 (zero0 u)) (is_bus_kept u) all_suit e (means8 (zero0 u) (means0 u m h.0) h.1) all-suited (λ q. kept q h.0 h.1)
  by-class Given k u e m h seen kept = tried (zero0 u) false all_suit e (means0 u m h) all-suited never
  by-class Spoken k u e m h seen kept = tried (zero8 u) false all_suit e (means8 u m h) all-suited never
  by-class Asked k u e m h seen kept =
      let p = and_parts (tries false (successors kernel (zero0 u)) all_suit) (tries false (successors kernel (zero8 u)) (all_wait_at (k == tested_blocks || k == boot_tested_blocks))) e in
      go (word8 sys == 0) refl p.0 p.1
    where
      go : (b : Bool) → (word8 sys == 0) ≡ b → tries false (successors kernel (zero0 u)) all_suit ≡ true → tries false (successors kernel (zero8 u)) (all_wait_at (k == tested_blocks || k == boot_tested_blocks)) ≡ true → Done
      go true q r t =
          let z : word8 sys ≡ 0 = eqb-true (word8 sys) 0 q in
          tried (zero8 u) false (all_wait_at (k == tested_blocks || k == boot_tested_blocks)) t (means8 u m z) (λ ts v n. waited-at (k == tested_blocks || k == boot_tested_blocks) ts v (λ f ne. absurd (seen f ne z)) n) never
      go false q r t = tried (zero0 u) false all_suit r (means0 u m (h (eqb-false (word8 sys) 0 q))) all-suited never

  -- the same, by the block's number
  pub mail-step : (k : ℕ) → (number_code k == 99) ≡ false → (w : Here kernel user env blocks k sys) → MailIs (class_of (number_code k)) (word0 sys) (word8 sys) → ((k == tested_blocks || k == boot_tested_blocks) ≡ true → env v_fromhost ≢ 0 → word8 sys ≢ 0) → (is_bus_kept w.state ≡ true → word0 sys ≡ 0 → word8 sys ≡ 0 → Done) → Done
  mail-step k shut w h seen kept = by-class (class_of (number_code k)) k w.state (go (number_code k == 99) shut t) w.describes h seen kept
    where
      t : mail_ok k w.state ≡ true
      t = subst (λ z. mail_ok z w.state ≡ true) w.kind (blocks_all-at mail_ok kernel blocks w.block w.state mail_right w.among w.on)

      go : (b : Bool) → b ≡ false → ◌≡◌ {A = Bool} (elim b [ true ↦ true | false ↦ mail_by (class_of (number_code k)) k w.state ]) true → mail_by (class_of (number_code k)) k w.state ≡ true
      go true q r = absurd (false≢true (sym q))
      go false q r = r

  pub return-step : (at : ℕ) (u : State) → Describes kernel user env u sys → u.at ≡ at → fetch kernel at ≡ Some Mret → next ≡ over sys.bus (after_mret sys.hart)
  return-step at u m e f = fetched kernel user env u sys m fit Mret (ap (λ z. fetch kernel z) e ∙ f) ∙ mret-done sys _ _ m.mode

  returned-quiet : (u : State) → Describes kernel user env u sys → next ≡ over sys.bus (after_mret sys.hart) → word0 sys ≡ 0 → word8 sys ≡ 0 → Done
  unfolding after_mret
  returned-quiet u m e a b =
      let user_now : kind_now next ≡ User = ap kind_now e ∙ ap (λ z. kind_of z sys.hart.csrs.mepc) m.csrs.mpp in
      subst (λ z. MailIs (mail_class z) (word0 next) (word8 next)) (sym user_now) (ap word0 e ∙ a, ap word8 e ∙ b)

  pub bus-kept : (u : State) → is_bus_kept u ≡ true → Describes kernel user env u sys → next.bus ≡ sys.bus
  unfolding effect_of
  bus-kept u e m =
      orb (u.at == pc_path_load && same u.csrs.tvec (Lit pc_save)) (u.at == pc_return || u.at == pc_leave_return) e
      (λ q.
      let p = and_parts (u.at == pc_path_load) (same u.csrs.tvec (Lit pc_save)) q in
      let d = fetched kernel user env u sys m fit (Lbu 5 5 (pos 0)) (ap (λ z. fetch kernel z) (eqb-true u.at pc_path_load p.0) ∙ lbu-there) in
      ap (λ z. z.bus) d ∙ load-bus sys 5 _ _ _ Byte false)
      (λ q. orb (u.at == pc_return) (u.at == pc_leave_return) q
      (λ r. ap (λ z. z.bus) (return-step pc_return u m (eqb-true u.at pc_return r) mret-there))
      (λ r. ap (λ z. z.bus) (return-step pc_leave_return u m (eqb-true u.at pc_leave_return r) leave-there)))

  -- where the bus is kept, the mailbox is
  pub kept-quiet : (u : State) → is_bus_kept u ≡ true → Describes kernel user env u sys → word0 sys ≡ 0 → word8 sys ≡ 0 → Done
  unfolding effect_of
  kept-quiet u e m a b = orb (u.at == pc_path_load && same u.csrs.tvec (Lit pc_save)) (u.at == pc_return || u.at == pc_leave_return) e
      (λ q. let p = and_parts (u.at == pc_path_load) (same u.csrs.tvec (Lit pc_save)) q in looks (eqb-true u.at pc_path_load p.0) (subst (λ z. Is env z sys.hart.csrs.mtvec) (same-path u.csrs.tvec (Lit pc_save) p.1) m.csrs.tvec))
      (λ q. orb (u.at == pc_return) (u.at == pc_leave_return) q
      (λ r. returned-quiet u m (return-step pc_return u m (eqb-true u.at pc_return r) mret-there) a b)
      (λ r. returned-quiet u m (return-step pc_leave_return u m (eqb-true u.at pc_leave_return r) leave-there) a b))
    where
      looks : u.at ≡ pc_path_load → sys.hart.csrs.mtvec ≡ pc_save → Done
      looks here tvec =
          let after_is : (sys.hart.pc + 4) % 2 ^ 64 ≡ pc_path_loaded = let q = m.at in omega arith in
          let e = fetched kernel user env u sys m fit (Lbu 5 5 (pos 0)) (ap (λ z. fetch kernel z) here ∙ lbu-there) in
          let same_bus : next.bus ≡ sys.bus = ap (λ z. z.bus) e ∙ load-bus sys 5 _ _ _ Byte false in
          let quiet : mail_class (kind_now next) ≡ Quiet = ap (λ z. mail_class (kind_now z)) e ∙ load-hart sys 5 _ _ _ Byte false m.mode tvec after_is in
          subst (λ z. MailIs z (word0 next) (word8 next)) (sym quiet) (ap (λ z. load z.kernel tohost_place 8) same_bus ∙ a, ap (λ z. load z.kernel fromhost_place 8) same_bus ∙ b)
