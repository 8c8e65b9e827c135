-- What a step stores to TOHOST while the kernel speaks and closes.
use Rattle.std.proofs.Common.{◌≡◌, ◌≢◌, ℕ, ◌+◌, ◌-◌, ◌*◌, ◌^◌, ◌<◌, ◌==◌, Bool, true, false, ◌&&◌, ◌||◌, ◌⊎◌, inl, inr, Option, Some, None, List, [], ◌∷◌, get_or, refl, ap, sym, subst, ◌∙◌, arith, if◌then◌else◌}
use Rattle.std.specs.Prelude.{nat_le, not, slice_index, min}
use Rattle.std.proofs.lemmas.Bool.{false≢true, eqb-true, eqb-false, and_parts}
use Rattle.rv_alu.specs.declared.arithmetic.AluOp.TheVariants as op
use Rattle.rv_csr.specs.CsrTable.{csr_of}
use Rattle.rv_csr.specs.declared.privilege.Mode.TheVariants as mode
use Rattle.rv_hart.specs.HartStep.{System, AreRegisters, IsHart, hart_step}
use Rattle.guest_memory.specs.Memory.{load}
use Rattle.guest_memory.specs.Bus.{IsBus, bus_load}
use Rattle.guest_memory.proofs.AreaLemmas.{bus_load-kernel}
use Rattle.kernel_sim.specs.declared.phase.PhaseKind.{PhaseKind}
use Rattle.kernel_sim.specs.declared.phase.PhaseKind.TheVariants.{Boot, BootWait, BootTake, Leave, User, Save, Check, Scan, Fill, Wait, Take, Local, Restore, Speak, Closing}
use Rattle.kernel_sim.specs.declared.phase.Phase.{Phase}
use Rattle.kernel_steps.specs.Terms.{Term, Lit, Var, Bin, Unknown, Is}
use Rattle.kernel_steps.specs.States.{State, Describes, OneDescribes}
use Rattle.kernel_steps.specs.Successors.{successors}
use Rattle.kernel_steps.specs.Blocks.{Here, same}
use Rattle.kernel_code.specs.Kinds.{may_follow}
use Rattle.kernel_code.specs.Kernel.{kernel, blocks}
use Rattle.proxy_kernel.specs.KernelWords.{kernel_insns}
use Rattle.kernel_code.specs.Calls.{call_blocks}
use Rattle.kernel_code.specs.TrapWords.{trap_blocks}
use Rattle.kernel_code.specs.CounterWords.{counter_blocks}
use Rattle.kernel_code.specs.Shorthand.{cells_0, cells_1, cells_2, cells_3, cells_4, cells_5, cells_6, cells_7, cells_8, cells_9, csrs_0, csrs_1, csrs_2}
use Rattle.kernel_sim.specs.Phases.{message, console_word, dword, kernel_kind, kind_of, kind_now, text_after, next_phase, phase_from}
use Rattle.kernel_sim.specs.Stages.{Stage, Choosing, base, Saying, Said, Ending, Ended, stage_kind, stage_number, Says, Extra, Links, InKernel, HoldsAs, Known}
use Rattle.kernel_sim.specs.Ready.{need, NeedIs}
use Rattle.kernel_sim.specs.Stores.{exit_word, NextByte, NoByte, NoExit, ExitWord, Stores}
use Rattle.kernel_steps.proofs.Soundness.{CellsAre-get}
use Rattle.kernel_steps.proofs.GraphLaws.{led, same-path, then-l, then-r}
use Rattle.kernel_steps.proofs.Rebase.{with_var, fresh, state_avoids, learn_cell}
use Rattle.kernel_steps.proofs.Tests.{blocks_all, blocks_all-at}
use Rattle.kernel_sim.proofs.Gates.{number_code, set_cell}
use Rattle.kernel_sim.proofs.PathLaws.{eight-fits}
use Rattle.kernel_sim.proofs.PlaceLaws.{high-code}
use Rattle.kernel_sim.proofs.MessageLaws.{base-low}
use Rattle.kernel_sim.proofs.StageLaws.{Setting}
use Rattle.kernel_sim.proofs.SpeakStages.{saying, said, WordOk}
use Rattle.kernel_sim.proofs.MailLaws.{tries}
use Rattle.kernel_sim.proofs.HostLaws.{shut-of}
use Rattle.kernel_code.specs.Numbers.{v_cause, v_before, trap_words, counter_end_blocks, trap_end_blocks, store_gates, choosing_blocks, counter_idle_blocks, trap_idle_blocks}
use Rattle.kernel_code.specs.Places.{tohost_cell, pc_put_done, pc_put_store, pc_idle, pc_closing_store, tohost_place}
use Rattle.fe_base.specs.MemoryMap.{kernel_code_size, tohost}

abbrev exit_sym : Bool → Term
exit_sym true = Lit 249
exit_sym false = Bin op.Add (Bin op.Sll (Bin op.Add (Var v_cause) (Lit 128)) (Lit 1)) (Lit 1)

abbrev keeps_word : State → Bool
keeps_word t = same (get_or t.cells tohost_cell Unknown) (Var v_before) && not (t.at == pc_put_done)

abbrev says_word : ℕ → ℕ → State → Bool
says_word k at t = (keeps_word t || (at == pc_put_store && t.at == pc_put_done && nat_le trap_words k)) && not (t.at == pc_idle)

abbrev stays_idle : ℕ → State → Bool
stays_idle at t = (not (at == pc_idle) || t.at == pc_idle) && (not (t.at == pc_idle) || at == pc_idle)

abbrev ends_word : ℕ → ℕ → State → Bool
ends_word k at t = (keeps_word t && stays_idle at t) || (at == pc_closing_store && t.at == pc_idle && same (get_or t.cells tohost_cell Unknown) (exit_sym (k == counter_end_blocks)) && (k == trap_end_blocks || k == counter_end_blocks))

abbrev all_st : (State → Bool) → List State → Bool
all_st f [] = true
all_st f (t ∷ ts) = elim (f t) [ true ↦ all_st f ts | false ↦ false ]

abbrev named : State → State
named u = set_cell u tohost_cell (Var v_before)

abbrev says_by : ℕ → State → Bool
says_by k u = state_avoids v_before u && tries false (successors kernel (named u)) (all_st (says_word k u.at))

abbrev ends_by : ℕ → State → Bool
ends_by k u = state_avoids v_before u && tries false (successors kernel (named u)) (all_st (ends_word k u.at))

abbrev stores_ok : ℕ → State → Bool
stores_ok k u = elim (nat_le store_gates k || number_code k == 99) [
  | true ↦ true
  | false ↦ elim (number_code k == choosing_blocks) [ true ↦ says_by k u | false ↦ elim (number_code k == 14) [ true ↦ ends_by k u | false ↦ true ] ]
]

stores_right : blocks_all stores_ok kernel blocks ≡ true
unfolding kernel kernel_insns blocks call_blocks trap_blocks counter_blocks cells_0 cells_1 cells_2 cells_3 cells_4 cells_5 cells_6 cells_7 cells_8 cells_9 csrs_0 csrs_1 csrs_2 csr_of
stores_right = refl

not-true : (b : Bool) → not b ≡ true → b ≡ false
not-true true e = sym e
not-true false e = refl

orb : {P : Type 0} (a b : Bool) → (a || b) ≡ true → (a ≡ true → P) → (b ≡ true → P) → P
orb true b e f g = f refl
orb false b e f g = g e

module _ (user : List ℕ) (env : ℕ → ℕ) (sys : System) (fit : AreRegisters sys.hart.registers) (whole : IsBus sys.bus) where
  abbrev next : System
  next = hart_step sys

  abbrev w0 : System → ℕ
  w0 z = load z.bus.kernel tohost_place 8

  abbrev env1 : ℕ → ℕ
  env1 = with_var env v_before (w0 sys)

  means1 : (u : State) → state_avoids v_before u ≡ true → Describes kernel user env u sys → Describes kernel user env1 (named u) sys
  means1 u e m = learn_cell kernel user env1 u sys tohost_cell tohost_place (Var v_before) refl refl (fresh env v_before (w0 sys) kernel user u sys e (eight-fits sys.bus.kernel kernel_code_size whole.kernel_bytes) m)

  cell-is : (t : State) (v : Term) → same (get_or t.cells tohost_cell Unknown) v ≡ true → Describes kernel user env1 t next → Is env1 v (w0 next)
  cell-is t v e m = subst (λ s. Is env1 s (w0 next)) (same-path (get_or t.cells tohost_cell Unknown) v e) (CellsAre-get env1 t.cells next.bus.kernel kernel_code_size tohost_cell tohost_place refl m.memory.cells_are)

  -- a step keeps TOHOST, and leads elsewhere than behind a stored byte
  abbrev pub Kept : Type 0
  Kept = (w0 next ≡ w0 sys) × ((next.hart.pc == pc_put_done) ≡ false)

  abbrev pub SaysStored : ℕ → Type 0
  SaysStored k = Kept ⊎ ((sys.hart.pc ≡ pc_put_store) × (next.hart.pc ≡ pc_put_done) × (nat_le trap_words k ≡ true) × (next.hart.mode ≡ mode.Machine))

  abbrev pub SaysNext : ℕ → Type 0
  SaysNext k = SaysStored k × (next.hart.pc ≢ pc_idle)

  abbrev pub EndsNext : ℕ → Type 0
  EndsNext k = ((w0 next ≡ w0 sys) × (sys.hart.pc ≡ pc_idle → next.hart.pc ≡ pc_idle) × (next.hart.pc ≡ pc_idle → sys.hart.pc ≡ pc_idle)) ⊎ ((sys.hart.pc ≡ pc_closing_store) × (next.hart.pc ≡ pc_idle) × Is env1 (exit_sym (k == counter_end_blocks)) (w0 next) × ((k == trap_end_blocks || k == counter_end_blocks) ≡ true))

  kept : (t : State) → keeps_word t ≡ true → Describes kernel user env1 t next → Kept
  kept t e m = let p = and_parts (same (get_or t.cells tohost_cell Unknown) (Var v_before)) (not (t.at == pc_put_done)) e in (cell-is t (Var v_before) p.0 m, ap (λ z. z == pc_put_done) m.at ∙ not-true (t.at == pc_put_done) p.1)

  one-of : {P : Type 0} (f : State → Bool) (ts : List State) → all_st f ts ≡ true → ((t : State) → f t ≡ true → Describes kernel user env1 t next → P) → OneDescribes kernel user env1 ts next → P
  one-of f [] e g m = absurd m
  one-of f (t ∷ ts) e g (inl m) = g t (then-l (f t) _ e) m
  one-of f (t ∷ ts) e g (inr m) = one-of f ts (then-r (f t) _ e) g m

  tried : (P : Type 0) (u : State) (f : State → Bool) → tries false (successors kernel u) (all_st f) ≡ true → Describes kernel user env1 u sys → ((t : State) → f t ≡ true → Describes kernel user env1 t next → P) → P
  tried P u f e m g = go (successors kernel u) refl e
    where
      go : (x : Option (List State)) → successors kernel u ≡ x → tries false x (all_st f) ≡ true → P
      go (Some ts) q r = one-of f ts r g (led kernel user env1 may_follow blocks sys fit u ts _ refl q m)
      go None q r = absurd (false≢true r)

  at-place : (k : ℕ) → (nat_le store_gates k || number_code k == 99) ≡ false → (w : Here kernel user env blocks k sys) → ◌≡◌ {A = Bool} (elim (number_code k == choosing_blocks) [ true ↦ says_by k w.state | false ↦ elim (number_code k == 14) [ true ↦ ends_by k w.state | false ↦ true ] ]) true
  at-place k shut w = go (nat_le store_gates k || number_code k == 99) shut (subst (λ z. stores_ok z w.state ≡ true) w.kind (blocks_all-at stores_ok kernel blocks w.block w.state stores_right w.among w.on))
    where
      go : (x : Bool) → x ≡ false → ◌≡◌ {A = Bool} (elim x [ true ↦ true | false ↦ elim (number_code k == choosing_blocks) [ true ↦ says_by k w.state | false ↦ elim (number_code k == 14) [ true ↦ ends_by k w.state | false ↦ true ] ] ]) true → ◌≡◌ {A = Bool} (elim (number_code k == choosing_blocks) [ true ↦ says_by k w.state | false ↦ elim (number_code k == 14) [ true ↦ ends_by k w.state | false ↦ true ] ]) true
      go true e f = absurd (false≢true (sym e))
      go false e f = f

  pub says-step : (k : ℕ) → (nat_le store_gates k || number_code k == 99) ≡ false → number_code k ≡ 13 → Here kernel user env blocks k sys → SaysNext k
  says-step k shut c w =
      let e : says_by k w.state ≡ true = go (number_code k == choosing_blocks) (ap (λ z. z == 13) c) (at-place k shut w) in
      let p = and_parts (state_avoids v_before w.state) (tries false (successors kernel (named w.state)) (all_st (says_word k w.state.at))) e in
      tried (SaysNext k) (named w.state) (says_word k w.state.at) p.1 (means1 w.state p.0 w.describes)
      (λ t f m.
      let g = and_parts (keeps_word t || (w.state.at == pc_put_store && t.at == pc_put_done && nat_le trap_words k)) (not (t.at == pc_idle)) f in (
        orb (keeps_word t) (w.state.at == pc_put_store && t.at == pc_put_done && nat_le trap_words k) g.0 (λ q. inl (kept t q m)) (λ q. inr (stored t q m)),
        λ z. eqb-false t.at pc_idle (not-true (t.at == pc_idle) g.1) (sym m.at ∙ z),
      ))
    where
      go : (x : Bool) → x ≡ true → ◌≡◌ {A = Bool} (elim x [ true ↦ says_by k w.state | false ↦ elim (number_code k == 14) [ true ↦ ends_by k w.state | false ↦ true ] ]) true → says_by k w.state ≡ true
      go true e f = f
      go false e f = absurd (false≢true e)

      stored : (t : State) → (w.state.at == pc_put_store && t.at == pc_put_done && nat_le trap_words k) ≡ true → Describes kernel user env1 t next → (sys.hart.pc ≡ pc_put_store) × (next.hart.pc ≡ pc_put_done) × (nat_le trap_words k ≡ true) × (next.hart.mode ≡ mode.Machine)
      stored t q m =
          let a = and_parts (w.state.at == pc_put_store && t.at == pc_put_done) (nat_le trap_words k) q in
          let b = and_parts (w.state.at == pc_put_store) (t.at == pc_put_done) a.0 in
          (w.describes.at ∙ eqb-true w.state.at pc_put_store b.0, m.at ∙ eqb-true t.at pc_put_done b.1, a.1, m.mode)

  pub ends-step : (k : ℕ) → (nat_le store_gates k || number_code k == 99) ≡ false → number_code k ≡ 14 → Here kernel user env blocks k sys → EndsNext k
  ends-step k shut c w =
      let e : ends_by k w.state ≡ true = go (number_code k == choosing_blocks) (number_code k == 14) (ap (λ z. z == 13) c) (ap (λ z. z == 14) c) (at-place k shut w) in
      let p = and_parts (state_avoids v_before w.state) (tries false (successors kernel (named w.state)) (all_st (ends_word k w.state.at))) e in
      tried (EndsNext k) (named w.state) (ends_word k w.state.at) p.1 (means1 w.state p.0 w.describes)
      (λ t f m. orb (keeps_word t && stays_idle w.state.at t) (w.state.at == pc_closing_store && t.at == pc_idle && same (get_or t.cells tohost_cell Unknown) (exit_sym (k == counter_end_blocks)) && (k == trap_end_blocks || k == counter_end_blocks)) f (λ q. inl (stays t q m)) (λ q. inr (stored t q m)))
    where
      go : (x y : Bool) → x ≡ false → y ≡ true → ◌≡◌ {A = Bool} (elim x [ true ↦ says_by k w.state | false ↦ elim y [ true ↦ ends_by k w.state | false ↦ true ] ]) true → ends_by k w.state ≡ true
      go false true e g f = f
      go true y e g f = absurd (false≢true (sym e))
      go false false e g f = absurd (false≢true g)

      stays : (t : State) → (keeps_word t && stays_idle w.state.at t) ≡ true → Describes kernel user env1 t next → (w0 next ≡ w0 sys) × (sys.hart.pc ≡ pc_idle → next.hart.pc ≡ pc_idle) × (next.hart.pc ≡ pc_idle → sys.hart.pc ≡ pc_idle)
      stays t q m =
          let a = and_parts (keeps_word t) (stays_idle w.state.at t) q in
          let b = and_parts (not (w.state.at == pc_idle) || t.at == pc_idle) (not (t.at == pc_idle) || w.state.at == pc_idle) a.1 in (
            (kept t a.0 m).0,
            λ e. orb (not (w.state.at == pc_idle)) (t.at == pc_idle) b.0 (λ r. absurd (eqb-false w.state.at pc_idle (not-true (w.state.at == pc_idle) r) (sym w.describes.at ∙ e))) (λ r. m.at ∙ eqb-true t.at pc_idle r),
            λ e. orb (not (t.at == pc_idle)) (w.state.at == pc_idle) b.1 (λ r. absurd (eqb-false t.at pc_idle (not-true (t.at == pc_idle) r) (sym m.at ∙ e))) (λ r. w.describes.at ∙ eqb-true w.state.at pc_idle r),
          )

      stored : (t : State) → (w.state.at == pc_closing_store && t.at == pc_idle && same (get_or t.cells tohost_cell Unknown) (exit_sym (k == counter_end_blocks)) && (k == trap_end_blocks || k == counter_end_blocks)) ≡ true → Describes kernel user env1 t next → (sys.hart.pc ≡ pc_closing_store) × (next.hart.pc ≡ pc_idle) × Is env1 (exit_sym (k == counter_end_blocks)) (w0 next) × ((k == trap_end_blocks || k == counter_end_blocks) ≡ true)
      stored t q m =
          let d = and_parts (w.state.at == pc_closing_store && t.at == pc_idle && same (get_or t.cells tohost_cell Unknown) (exit_sym (k == counter_end_blocks))) (k == trap_end_blocks || k == counter_end_blocks) q in
          let a = and_parts (w.state.at == pc_closing_store && t.at == pc_idle) (same (get_or t.cells tohost_cell Unknown) (exit_sym (k == counter_end_blocks))) d.0 in
          let b = and_parts (w.state.at == pc_closing_store) (t.at == pc_idle) a.0 in
          (w.describes.at ∙ eqb-true w.state.at pc_closing_store b.0, m.at ∙ eqb-true t.at pc_idle b.1, cell-is t (exit_sym (k == counter_end_blocks)) a.1 m, d.1)

-- ---- the clause
module _ (p : Phase) (sys : System) (fit : AreRegisters sys.hart.registers) (fit_next : AreRegisters (hart_step sys).hart.registers) (whole : IsBus sys.bus) (whole_next : IsBus (hart_step sys).bus) where
  abbrev after : System
  after = hart_step sys

  abbrev given : Setting
  given = record { phase = p; system = sys; fit = fit; fit_next = fit_next; whole = whole; whole_next = whole_next }

  abbrev Need_held : Type 0
  Need_held = NeedIs (need sys.hart.mode sys.hart.pc) (slice_index sys.hart.registers 6) p.tohost

  abbrev Before : Type 0
  Before = p.tohost ≡ load sys.bus.kernel tohost_place 8

  held-zero : sys.hart.mode ≡ mode.Machine → sys.hart.pc ≡ pc_put_store → Need_held → p.tohost ≡ 0
  held-zero m e n = subst (λ z. NeedIs z (slice_index sys.hart.registers 6) p.tohost) (ap (λ z. need z sys.hart.pc) m ∙ ap (need mode.Machine) e) n

  held-zero2 : sys.hart.mode ≡ mode.Machine → sys.hart.pc ≡ pc_closing_store → Need_held → p.tohost ≡ 0
  held-zero2 m e n = subst (λ z. NeedIs z (slice_index sys.hart.registers 6) p.tohost) (ap (λ z. need z sys.hart.pc) m ∙ ap (need mode.Machine) e) n

  now-word : dword after.bus tohost ≡ load after.bus.kernel tohost_place 8
  now-word = bus_load-kernel after.bus tohost 8 (omega arith)

  -- nothing was posted
  same-text : (now : PhaseKind) → (after.hart.pc == pc_put_done) ≡ false → (text_after Speak now p after.hart).posted ≡ p.text.posted
  same-text Speak e = rw e refl
  same-text Boot e = refl
  same-text BootWait e = refl
  same-text BootTake e = refl
  same-text Leave e = refl
  same-text User e = refl
  same-text Save e = refl
  same-text Check e = refl
  same-text Scan e = refl
  same-text Fill e = refl
  same-text Wait e = refl
  same-text Take e = refl
  same-text Local e = refl
  same-text Restore e = refl
  same-text Closing e = refl

  one-more : (pc : ℕ) → pc ≡ pc_put_done → p.text.posted < 400 → (if pc == pc_put_done then min (p.text.posted + 1) (2 ^ 32 - 1) else p.text.posted) ≡ p.text.posted + 1
  one-more pc e l = let k : min (p.text.posted + 1) (2 ^ 32 - 1) ≡ p.text.posted + 1 = omega arith in rw e k

  abbrev SpeakStored : Type 0
  SpeakStored = NoByte p (dword after.bus tohost) (text_after Speak (kind_now after) p after.hart).posted ⊎ NextByte p (dword after.bus tohost) (text_after Speak (kind_now after) p after.hart).posted

  abbrev SpeakResult : Type 0
  SpeakResult = SpeakStored × (after.hart.pc ≢ pc_idle)

  no-byte : (user : List ℕ) (env : ℕ → ℕ) → Before → Kept user env sys fit whole → SpeakStored
  no-byte user env b k = inl (now-word ∙ k.0 ∙ sym b, same-text (kind_now after) k.1)

  next-byte : after.hart.mode ≡ mode.Machine → after.hart.pc ≡ pc_put_done → p.tohost ≡ 0 → p.text.posted < 400 → ((after.hart.pc == pc_put_done) ≡ true → bus_load after.bus tohost 8 ≡ console_word (slice_index (message p.text) p.text.posted)) → SpeakStored
  unfolding kernel_kind
  next-byte m e z l word =
      let k : kind_now after ≡ Speak = ap (λ y. kind_of y after.hart.pc) m ∙ ap kernel_kind e in
      inr (z, word (ap (λ y. y == pc_put_done) e), subst (λ y. (text_after Speak y p after.hart).posted ≡ p.text.posted + 1) (sym k) (one-more after.hart.pc e l))

  speak : (i : InKernel Speak p sys) → Before → Need_held → SpeakResult
  speak i b n = go i.stage i.staged i.here i.links i.extra
    where
      go : (st : Stage) → stage_kind st ≡ Speak → (w : Here kernel i.user i.env blocks (stage_number st) sys) → Links st p.user i.env → Extra st p i.user i.env → SpeakResult
      go Choosing e w l x = by (says-step i.user i.env sys fit whole choosing_blocks refl refl w)
        where
          stored : SaysStored i.user i.env sys fit whole choosing_blocks → SpeakStored
          stored (inl k) = no-byte i.user i.env b k
          stored (inr h) = absurd (false≢true h.2)

          by : SaysNext i.user i.env sys fit whole choosing_blocks → SpeakResult
          by h = (stored h.0, h.1)
      go (Saying c t) e w l x = by (says-step i.user i.env sys fit whole (base c + 2 * t) (shut-of (Saying c t) p i.user i.env x) (high-code (base c + 2 * t) (base-low c t)) w)
        where
          word : WordOk given i.user i.env
          word = (saying given i.user i.env c t w l x).1

          stored : SaysStored i.user i.env sys fit whole (base c + 2 * t) → SpeakStored
          stored (inl k) = no-byte i.user i.env b k
          stored (inr h) = next-byte h.3 h.1 (held-zero w.describes.mode h.0 n) (let z = x.2 in let y = x.3 in omega arith) word

          by : SaysNext i.user i.env sys fit whole (base c + 2 * t) → SpeakResult
          by h = (stored h.0, h.1)
      go (Said c t) e w l x = by (says-step i.user i.env sys fit whole (base c + 2 * t + 1) (shut-of (Said c t) p i.user i.env x) (high-code (base c + 2 * t + 1) (let z = base-low c t in omega arith)) w)
        where
          word : WordOk given i.user i.env
          word = (said given i.user i.env c t w l x).1

          stored : SaysStored i.user i.env sys fit whole (base c + 2 * t + 1) → SpeakStored
          stored (inl k) = no-byte i.user i.env b k
          stored (inr h) = next-byte h.3 h.1 (held-zero w.describes.mode h.0 n) (let z = x.2 in let y = x.3 in omega arith) word

          by : SaysNext i.user i.env sys fit whole (base c + 2 * t + 1) → SpeakResult
          by h = (stored h.0, h.1)
      go st e w l x = cc

  exit-is : (c : Bool) (env : ℕ → ℕ) (v : ℕ) → Says p.text env → p.text.counter ≡ c → Is (with_var env v_before (load sys.bus.kernel tohost_place 8)) (exit_sym c) v → v ≡ exit_word p.text
  exit-is true env v h e i = i ∙ rw e refl
  exit-is false env v h e i = let k = h.cause_is in let q : 2 * (128 + p.text.cause) + 1 ≡ 2 * (128 + env v_cause) + 1 = ap (λ z. 2 * (128 + z) + 1) k in rw e (i ∙ omega arith)

  abbrev CloseResult : Type 0
  CloseResult = NoExit p sys.hart after.hart (dword after.bus tohost) ⊎ ExitWord p sys.hart after.hart (dword after.bus tohost)

  ends : (c : Bool) (k : ℕ) → (k == counter_end_blocks) ≡ c → (nat_le store_gates k || number_code k == 99) ≡ false → number_code k ≡ 14 → (user : List ℕ) (env : ℕ → ℕ) → Here kernel user env blocks k sys → Says p.text env → p.text.counter ≡ c → Before → Need_held → CloseResult
  ends c k q shut code user env w h e b n = by (ends-step user env sys fit whole k shut code w)
    where
      by : EndsNext user env sys fit whole k → CloseResult
      by (inl kept_it) = inl (now-word ∙ kept_it.0 ∙ sym b, kept_it.1, kept_it.2)
      by (inr s) = inr (held-zero2 w.describes.mode s.0 n, now-word ∙ exit-is c env (load after.bus.kernel tohost_place 8) h e (subst (λ z. Is (with_var env v_before (load sys.bus.kernel tohost_place 8)) (exit_sym z) (load after.bus.kernel tohost_place 8)) q s.2), s.0, s.1)

  ended : (k : ℕ) → (k == trap_end_blocks || k == counter_end_blocks) ≡ false → (nat_le store_gates k || number_code k == 99) ≡ false → number_code k ≡ 14 → (user : List ℕ) (env : ℕ → ℕ) → Here kernel user env blocks k sys → Before → CloseResult
  ended k q shut code user env w b = by (ends-step user env sys fit whole k shut code w)
    where
      by : EndsNext user env sys fit whole k → CloseResult
      by (inl kept_it) = inl (now-word ∙ kept_it.0 ∙ sym b, kept_it.1, kept_it.2)
      by (inr s) = absurd (false≢true (sym q ∙ s.3))

  close : (i : InKernel Closing p sys) → Before → Need_held → CloseResult
  close i b n = go i.stage i.staged i.here i.extra
    where
      go : (st : Stage) → stage_kind st ≡ Closing → (w : Here kernel i.user i.env blocks (stage_number st) sys) → Extra st p i.user i.env → CloseResult
      go (Ending true) e w x = ends true 51 refl refl refl i.user i.env w x.0 x.1 b n
      go (Ending false) e w x = ends false 50 refl refl refl i.user i.env w x.0 x.1 b n
      go (Ended true) e w x = ended counter_idle_blocks refl refl refl i.user i.env w b
      go (Ended false) e w x = ended trap_idle_blocks refl refl refl i.user i.env w b
      go st e w x = cc

  before : (k : PhaseKind) → HoldsAs k p sys → Before
  before k h = h.tohost_is ∙ bus_load-kernel sys.bus tohost 8 (omega arith)

  by-kind : (k : PhaseKind) → HoldsAs k p sys → Need_held → Stores k p sys.hart after.hart (phase_from k (kind_now after) p after)
  by-kind Speak h n = speak h.place (before Speak h) n
  by-kind Closing h n = close h.place (before Closing h) n
  by-kind Boot h n = tt
  by-kind BootWait h n = tt
  by-kind BootTake h n = tt
  by-kind Leave h n = tt
  by-kind User h n = tt
  by-kind Save h n = tt
  by-kind Check h n = tt
  by-kind Scan h n = tt
  by-kind Fill h n = tt
  by-kind Wait h n = tt
  by-kind Take h n = tt
  by-kind Local h n = tt
  by-kind Restore h n = tt

-- what a step that was made stored
pub stores_law : (p q : Phase) (sys made : System) → Known p sys → IsBus sys.bus → IsHart sys.hart → made ≡ hart_step sys → IsBus made.bus → IsHart made.hart → q ≡ next_phase p made → Stores p.kind p sys.hart made.hart q
unfolding Known
stores_law p q sys made h b i e b2 i2 f =
    subst (λ z. Stores p.kind p sys.hart made.hart z) (sym f)
    (subst (λ z. Stores p.kind p sys.hart z.hart (next_phase p z)) (sym e)
    (by-kind p sys i.registers_fit (subst (λ z. AreRegisters z.hart.registers) e i2.registers_fit) b (subst (λ z. IsBus z.bus) e b2) p.kind h.0 h.2))
