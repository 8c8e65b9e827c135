-- The rows of the table follow from what is known at a place of the code.
use Rattle.std.proofs.Common.{◌≡◌, ◌≢◌, ℕ, zero, suc, ◌+◌, ◌-◌, ◌*◌, ◌%◌, ◌^◌, ◌<◌, ◌≤◌, ◌==◌, Bool, true, false, ◌&&◌, ◌||◌, ◌⊎◌, if◌then◌else◌, inl, inr, List, length, refl, ap, sym, subst, ◌∙◌, arith}
use Rattle.std.specs.Prelude.{nat_le, slice_index, slice_set}
use Rattle.std.proofs.lemmas.Bool.{false≢true, eqb-true, eqb-false, and_parts}
use Rattle.std.proofs.lemmas.Bool.Decides.{nat_tests}
use Rattle.fe_base.specs.MemoryMap.{kernel_start, kernel_code_size, frame, request, kernel_variables, boot}
use Rattle.rv_decode.specs.Alignment.{instruction_alignment}
use Rattle.rv_alu.specs.declared.arithmetic.AluOp.TheVariants as op
use Rattle.rv_csr.specs.CsrTable.{csr_of}
use Rattle.rv_csr.specs.Fields.{instruction_aligned}
use Rattle.rv_hart.specs.HartStep.{System, over}
use Rattle.rv_hart.specs.declared.debug.Run.TheVariants.{Running}
use Rattle.guest_memory.specs.Memory.{load}
use Rattle.guest_memory.proofs.AreaLemmas.{bus_load-kernel}
use Rattle.plain_machine.specs.UserStep.{is_user}
use Rattle.plain_machine.specs.Messages.{is_counter_access}
use Rattle.plain_machine.specs.KernelPart.{user_byte}
use Rattle.kernel_sim.proofs.ChangeLaws.{few-scanned}
use Rattle.kernel_sim.specs.Advance.{BeginHolds}
use Rattle.kernel_sim.specs.Begins.{begun_hart}
use Rattle.kernel_sim.proofs.BeginLaws.{begun}
use Rattle.kernel_steps.specs.Terms.{Term, Lit, Var, Bin, Aligned, Is}
use Rattle.kernel_steps.specs.States.{State, CodeIs, Describes}
use Rattle.kernel_steps.specs.Successors.{reg}
use Rattle.kernel_steps.specs.Blocks.{Here, same, same_pmp}
use Rattle.kernel_steps.proofs.Soundness.{CellsAre-get, AllIs-get}
use Rattle.kernel_steps.proofs.GraphLaws.{same-path, pmp-path, then-l, then-r}
use Rattle.kernel_steps.proofs.Tests.{blocks_all, blocks_all-at, starts_all, starts-at}
use Rattle.kernel_code.specs.Places.{pc_save, frame_cell, request_cell}
use Rattle.kernel_code.specs.Numbers.{v_pc, v_cause, v_value, v_scanned, v_byte, trap_words, counter_words, store_gates, trap_last_blocks, counter_last_blocks}
use Rattle.kernel_code.specs.Kernel.{kernel, blocks}
use Rattle.proxy_kernel.specs.KernelWords.{kernel_insns}
use Rattle.kernel_code.specs.Calls.{call_blocks}
use Rattle.kernel_code.specs.TrapWords.{trap_blocks}
use Rattle.kernel_code.specs.CounterWords.{counter_blocks}
use Rattle.kernel_code.specs.Shorthand.{cells_0, cells_1, cells_2, cells_3, cells_4, cells_5, cells_6, cells_7, cells_8, cells_9, csrs_0, csrs_1, csrs_2}
use Rattle.kernel_sim.specs.UserMode.{IsFenced, user_fence}
use Rattle.kernel_sim.specs.declared.phase.PhaseKind.{PhaseKind}
use Rattle.kernel_sim.specs.declared.phase.PhaseKind.TheVariants.{Boot, BootWait, BootTake, Leave, User, Save, Check, Scan, Fill, Wait, Take, Local, Restore, Speak, Closing}
use Rattle.kernel_sim.specs.declared.phase.Phase.{Phase}
use Rattle.kernel_sim.specs.declared.phase.UserState.{UserState}
use Rattle.kernel_sim.specs.Phases.{dword, request_of, message}
use Rattle.kernel_sim.specs.Stages.{Stage, Saving, Checking, Starting, Scanning, Looked, Past, Full, Restoring, Choosing, base, Saying, Said, Ending, Ended, stage_kind, stage_number, Says, ScanIs, ByteIs, CauseIs, PcIs, Extra, InKernel, boot_number, InBoot, InUser, Place, HoldsAs, BreaksAre, Known}
use Rattle.kernel_sim.proofs.Told.{PartIs}
use Rattle.kernel_sim.specs.Rows.{mode_of, IsSet, HasScratch, SetRow, in_frame, InFrame, IsSaved, TellsTrap, IsCallOrTrap, InCall, IsPathByte, boot_request, Row}
use Rattle.kernel_sim.specs.Holds.{Holds}
use Rattle.kernel_sim.proofs.Gates.{number_code, kind_code, cell_of}
use Rattle.kernel_sim.proofs.PlaceLaws.{code-of, boot-code}
use Rattle.kernel_sim.proofs.MessageLaws.{message_terms-message}
use Rattle.kernel_sim.proofs.HostLaws.{shut-of, boot-shut}
use Rattle.kernel_sim.proofs.StateLaws.{part_law}

-- ---- tests of a place
-- a test at each of so many numbers
abbrev each_from : (ℕ → State → Bool) → ℕ → ℕ → State → Bool
each_from f n zero u = true
each_from f n (suc m) u = elim (f n u) [ true ↦ each_from f (n + 1) m u | false ↦ false ]

each-at : (f : ℕ → State → Bool) (n m k : ℕ) (u : State) → each_from f n m u ≡ true → n ≤ k → k < n + m → f k u ≡ true
each-at f n zero k u e a b = absurd (omega arith)
each-at f n (suc m) k u e a b = go (k == n) refl (λ c. each-at f (n + 1) m k u (then-r (f n u) _ e) c (omega arith))
  where
    go : (c : Bool) → (k == n) ≡ c → (n + 1 ≤ k → f k u ≡ true) → f k u ≡ true
    go true q g = subst (λ z. f z u ≡ true) (sym (eqb-true k n q)) (then-l _ _ e)
    go false q g = let ne : k ≢ n = eqb-false k n q in g (omega arith)

abbrev framed : ℕ → State → Bool
framed n u = same (cell_of u (frame_cell + n)) (Var n)

abbrev saved : ℕ → State → Bool
saved n u = same (reg u n) (Var n) || (same u.csrs.scratch (Var n) || framed n u)

abbrev restored : ℕ → State → Bool
restored n u = same (reg u n) (Var n) || framed n u

abbrev set_csrs : State → Bool
set_csrs u = same u.csrs.tvec (Lit pc_save) && same_pmp u.csrs.pmp user_fence

abbrev scratch_set : State → Bool
scratch_set u = same u.csrs.scratch (Lit frame)

abbrev trap_csrs : State → Bool
trap_csrs u = same u.csrs.cause (Var v_cause) && same u.csrs.tval (Var v_value)

abbrev epc_here : State → Bool
epc_here u = same u.csrs.epc (Var v_pc)

abbrev moved_epc : Term
moved_epc = Aligned (Bin op.Add (Var v_pc) (Lit 4))

abbrev asked : State → Bool
asked u = same (cell_of u (request_cell + 1)) (Lit 0x1000000) && (same (cell_of u (request_cell + 2)) (Lit 65536) && (same (cell_of u (request_cell + 3)) (Lit 0) && (same (cell_of u (request_cell + 4)) (Lit 0) && (same (cell_of u (request_cell + 5)) (Lit 0) && (same (cell_of u (request_cell + 6)) (Lit 0) && same (cell_of u (request_cell + 7)) (Lit 0))))))

-- what is tested in a call, by the code of its kind
abbrev call_test : ℕ → State → Bool
call_test c u =
    elim (c == 5) [
      | true ↦ (same u.csrs.scratch (Lit frame) || same u.csrs.scratch (Var 31)) && (epc_here u && each_from saved 1 31 u)
      | false ↦ scratch_set u && (elim (c == 12) [
        | true ↦ (epc_here u || same u.csrs.epc moved_epc) && (same (reg u 10) (Var 10) && each_from restored 1 31 u)
        | false ↦ epc_here u && (elim (c == 13 || c == 14) [ true ↦ true | false ↦ each_from framed 1 31 u ])
      ])
    ]

abbrev row_test : ℕ → State → Bool
row_test c u =
    elim (c == 0) [
      | true ↦ true
      | false ↦ set_csrs u && (elim (c == 1) [ true ↦ scratch_set u && asked u | false ↦ elim (c == 2 || c == 3) [ true ↦ scratch_set u | false ↦ trap_csrs u && call_test c u ] ])
    ]

abbrev row_ok : ℕ → State → Bool
row_ok k u = elim (nat_le store_gates k || number_code k == 99) [ true ↦ true | false ↦ row_test (number_code k) u ]

row_right : blocks_all row_ok kernel blocks ≡ true
unfolding kernel kernel_insns blocks call_blocks trap_blocks counter_blocks cells_0 cells_1 cells_2 cells_3 cells_4 cells_5 cells_6 cells_7 cells_8 cells_9 csrs_0 csrs_1 csrs_2 csr_of
row_right = refl

-- no block stands behind the last byte of a message
abbrev few_ok : ℕ → State → Bool
few_ok k u = elim (nat_le store_gates k) [ true ↦ true | false ↦ elim (nat_le counter_words k) [ true ↦ nat_le k counter_last_blocks | false ↦ elim (nat_le trap_words k) [ true ↦ nat_le k trap_last_blocks | false ↦ true ] ] ]

few_right : starts_all few_ok blocks ≡ true
unfolding kernel kernel_insns blocks call_blocks trap_blocks counter_blocks cells_0 cells_1 cells_2 cells_3 cells_4 cells_5 cells_6 cells_7 cells_8 cells_9 csrs_0 csrs_1 csrs_2
few_right = refl

or-elim : {P : Type 0} (a b : Bool) → (a || b) ≡ true → (a ≡ true → P) → (b ≡ true → P) → P
or-elim true b e f g = f refl
or-elim false b e f g = g e

row-at : (user : List ℕ) (env : ℕ → ℕ) (k c : ℕ) (sys : System) → (nat_le store_gates k || number_code k == 99) ≡ false → number_code k ≡ c → (w : Here kernel user env blocks k sys) → row_test c w.state ≡ true
row-at user env k c sys shut code w = subst (λ z. row_test z w.state ≡ true) code (go (nat_le store_gates k || number_code k == 99) shut (subst (λ z. row_ok z w.state ≡ true) w.kind (blocks_all-at row_ok kernel blocks w.block w.state row_right w.among w.on)))
  where
    go : (x : Bool) → x ≡ false → ◌≡◌ {A = Bool} (elim x [ true ↦ true | false ↦ row_test (number_code k) w.state ]) true → row_test (number_code k) w.state ≡ true
    go true e f = absurd (false≢true (sym e))
    go false e f = f

-- ---- what the tests say
module _ (user : List ℕ) (env : ℕ → ℕ) (u : State) (sys : System) (m : Describes kernel user env u sys) where
  set-is : set_csrs u ≡ true → (sys.hart.csrs.mtvec ≡ pc_save) × IsFenced sys.hart.csrs
  set-is e =
      let a = and_parts (same u.csrs.tvec (Lit pc_save)) (same_pmp u.csrs.pmp user_fence) e in
      (subst (λ s. Is env s sys.hart.csrs.mtvec) (same-path u.csrs.tvec (Lit pc_save) a.0) m.csrs.tvec, m.csrs.pmp ∙ pmp-path u.csrs.pmp user_fence a.1)

  scratch-is : (s : Term) → same u.csrs.scratch s ≡ true → Is env s sys.hart.csrs.mscratch
  scratch-is s e = subst (λ z. Is env z sys.hart.csrs.mscratch) (same-path u.csrs.scratch s e) m.csrs.scratch

  epc-is : (s : Term) → same u.csrs.epc s ≡ true → Is env s sys.hart.csrs.mepc
  epc-is s e = subst (λ z. Is env z sys.hart.csrs.mepc) (same-path u.csrs.epc s e) m.csrs.epc

  cause-is : trap_csrs u ≡ true → (sys.hart.csrs.mcause ≡ env v_cause) × (sys.hart.csrs.mtval ≡ env v_value)
  cause-is e =
      let a = and_parts (same u.csrs.cause (Var v_cause)) (same u.csrs.tval (Var v_value)) e in
      (subst (λ z. Is env z sys.hart.csrs.mcause) (same-path u.csrs.cause (Var v_cause) a.0) m.csrs.cause, subst (λ z. Is env z sys.hart.csrs.mtval) (same-path u.csrs.tval (Var v_value) a.1) m.csrs.tval)

  reg-is : (n : ℕ) (s : Term) → same (reg u n) s ≡ true → Is env s (slice_index sys.hart.registers n)
  reg-is n s e = subst (λ z. Is env z (slice_index sys.hart.registers n)) (same-path (reg u n) s e) (AllIs-get env u.regs sys.hart.registers n m.regs)

  cell-is : (c at : ℕ) (s : Term) → at ≡ kernel_start + (kernel_code_size + 8 * c) → same (cell_of u c) s ≡ true → Is env s (dword sys.bus at)
  cell-is c at s q e =
      let place : at - kernel_start ≡ kernel_code_size + 8 * c = omega arith in
      subst (λ z. Is env s z) (sym (bus_load-kernel sys.bus at 8 (omega arith)))
      (subst (λ z. Is env z (load sys.bus.kernel (at - kernel_start) 8)) (same-path (cell_of u c) s e) (CellsAre-get env u.cells sys.bus.kernel kernel_code_size c (at - kernel_start) place m.memory.cells_are))

  framed-is : (n : ℕ) → framed n u ≡ true → in_frame sys.bus n ≡ env n
  framed-is n e = cell-is (frame_cell + n) (frame + 8 * n) (Var n) (omega arith) e

  asked-is : asked u ≡ true → slice_set (request_of sys.bus) 0 2011 ≡ boot_request
  asked-is q =
      let q1 = and_parts (same (cell_of u (request_cell + 1)) (Lit 0x1000000)) _ q in
      let q2 = and_parts (same (cell_of u (request_cell + 2)) (Lit 65536)) _ q1.1 in
      let q3 = and_parts (same (cell_of u (request_cell + 3)) (Lit 0)) _ q2.1 in
      let q4 = and_parts (same (cell_of u (request_cell + 4)) (Lit 0)) _ q3.1 in
      let q5 = and_parts (same (cell_of u (request_cell + 5)) (Lit 0)) _ q4.1 in
      let q6 = and_parts (same (cell_of u (request_cell + 6)) (Lit 0)) _ q5.1 in
      let p1 = cell-is (request_cell + 1) (request + 8) (Lit 0x1000000) refl q1.0 in
      let p2 = cell-is (request_cell + 2) (request + 16) (Lit 65536) refl q2.0 in
      let p3 = cell-is (request_cell + 3) (request + 24) (Lit 0) refl q3.0 in
      let p4 = cell-is (request_cell + 4) (request + 32) (Lit 0) refl q4.0 in
      let p5 = cell-is (request_cell + 5) (request + 40) (Lit 0) refl q5.0 in
      let p6 = cell-is (request_cell + 6) (request + 48) (Lit 0) refl q6.0 in
      let p7 = cell-is (request_cell + 7) (request + 56) (Lit 0) refl q6.1 in
      rw (p1, p2, p3, p4, p5, p6, p7) refl

-- ---- stages
-- the pc of the program's state
pc-of : (st : Stage) (u : UserState) (env : ℕ → ℕ) → stage_kind st ≢ Restore → PcIs st u env → u.pc ≡ env v_pc
pc-of Restoring u env n e = absurd (n refl)
pc-of st u env n e = e

abbrev is_call_kind : PhaseKind → Bool
is_call_kind Scan = true
is_call_kind Fill = true
is_call_kind Wait = true
is_call_kind Take = true
is_call_kind Local = true
is_call_kind Restore = true
is_call_kind _ = false

call-of : (st : Stage) (cause : ℕ) → is_call_kind (stage_kind st) ≡ true → CauseIs st cause → cause ≡ 8
call-of Saving cause e c = absurd (false≢true e)
call-of Checking cause e c = absurd (false≢true e)
call-of Choosing cause e c = absurd (false≢true e)
call-of (Saying b t) cause e c = absurd (false≢true e)
call-of (Said b t) cause e c = absurd (false≢true e)
call-of (Ending b) cause e c = absurd (false≢true e)
call-of (Ended b) cause e c = absurd (false≢true e)
call-of st cause e c = c

abbrev is_told_kind : PhaseKind → Bool
is_told_kind Speak = true
is_told_kind Closing = true
is_told_kind _ = false

told-of : (st : Stage) (cause : ℕ) → is_told_kind (stage_kind st) ≡ true → CauseIs st cause → cause ≢ 8
told-of Choosing cause e c = c
told-of (Saying b t) cause e c = c
told-of (Said b t) cause e c = c
told-of (Ending b) cause e c = c
told-of (Ended b) cause e c = c
told-of st cause e c = absurd (false≢true e)

module _ (p : Phase) (sys : System) where
  -- ---- in the kernel
  module _ (k : PhaseKind) (i : InKernel k p sys) where
    abbrev u : State
    u = i.here.state

    abbrev m : Describes kernel i.user i.env u sys
    m = i.here.describes

    test-here : row_test (kind_code k) u ≡ true
    test-here = row-at i.user i.env (stage_number i.stage) (kind_code k) sys (shut-of i.stage p i.user i.env i.extra) (code-of i.stage ∙ ap kind_code i.staged) i.here

    reg-env : (n : ℕ) → n < 32 → i.env n ≡ slice_index p.user.regs n
    reg-env n l = i.links.regs_are n l

    in-frame : each_from framed 1 31 u ≡ true → InFrame p sys
    in-frame e n a b = framed-is i.user i.env u sys m n (each-at framed 1 31 n u e (omega arith) (omega arith)) ∙ reg-env n b

    at-is : k ≢ Restore → epc_here u ≡ true → sys.hart.csrs.mepc ≡ p.user.pc
    at-is n e = epc-is i.user i.env u sys m (Var v_pc) e ∙ sym (pc-of i.stage p.user i.env (λ z. n (sym i.staged ∙ z)) i.links.pc_is)

    call-is : is_call_kind k ≡ true → trap_csrs u ≡ true → sys.hart.csrs.mcause ≡ 8
    call-is c e = (cause-is i.user i.env u sys m e).0 ∙ call-of i.stage (i.env v_cause) (ap is_call_kind i.staged ∙ c) i.links.cause_is

    says-is : trap_csrs u ≡ true → epc_here u ≡ true → i.env v_cause ≢ 8 → Says p.text i.env → TellsTrap p sys
    says-is t e n s =
        let a = cause-is i.user i.env u sys m t in
        let b = epc-is i.user i.env u sys m (Var v_pc) e in
        record {
          no_call = λ z. n (sym a.0 ∙ z);
          counter_is = s.counter_is ∙ sym (ap (λ z. (z == 2) && is_counter_access sys.hart.csrs.mtval) a.0 ∙ ap (λ z. (i.env v_cause == 2) && is_counter_access z) a.1);
          cause_is = s.cause_is ∙ sym a.0;
          at_is = s.at_is ∙ sym b;
          value_is = s.value_is ∙ sym a.1;
        }

    set-row : set_csrs u ≡ true → (p.user.brk ≡ dword sys.bus kernel_variables) × (p.user.first_break ≡ dword sys.bus (boot + 8)) → IsSet p sys
    set-row e b = let a = set-is i.user i.env u sys m e in record { handler = a.0; fenced = a.1; break_is = b.0; first_is = b.1 }

    abbrev ScratchRow : Type 0
    ScratchRow = scratch_set u ≡ true → HasScratch sys

    scratch-row : ScratchRow
    scratch-row e = scratch-is i.user i.env u sys m (Lit frame) e

    -- a call whose kind is none of the outer ones
    in-call : is_call_kind k ≡ true → k ≢ Restore → trap_csrs u ≡ true → epc_here u ≡ true → each_from framed 1 31 u ≡ true → InCall p sys
    in-call c n t e f = record { call = call-is c t; at_is = at-is n e; registers = in-frame f }

  abbrev Breaks : Type 0
  Breaks = (p.user.brk ≡ dword sys.bus kernel_variables) × (p.user.first_break ≡ dword sys.bus (boot + 8))

  -- the parts of a test in a call
  call-parts : (k : PhaseKind) (i : InKernel k p sys) → (set_csrs i.here.state && (trap_csrs i.here.state && (scratch_set i.here.state && (epc_here i.here.state && each_from framed 1 31 i.here.state)))) ≡ true → is_call_kind k ≡ true → k ≢ Restore → Breaks → (IsSet p sys × HasScratch sys) × InCall p sys
  call-parts k i e c n b =
      let s = i.here.state in
      let a1 = and_parts (set_csrs s) _ e in
      let a2 = and_parts (trap_csrs s) _ a1.1 in
      let a3 = and_parts (scratch_set s) _ a2.1 in
      let a4 = and_parts (epc_here s) _ a3.1 in
      ((set-row k i a1.0 b, scratch-row k i a3.0), in-call k i c n a2.0 a4.0 a4.1)

  told-parts : (k : PhaseKind) (i : InKernel k p sys) → (set_csrs i.here.state && (trap_csrs i.here.state && (scratch_set i.here.state && (epc_here i.here.state && true)))) ≡ true → is_told_kind k ≡ true → Breaks → (Says p.text i.env → TellsTrap p sys) × (IsSet p sys × HasScratch sys)
  told-parts k i e c b =
      let s = i.here.state in
      let a1 = and_parts (set_csrs s) _ e in
      let a2 = and_parts (trap_csrs s) _ a1.1 in
      let a3 = and_parts (scratch_set s) _ a2.1 in
      let a4 = and_parts (epc_here s) true a3.1 in
      (says-is k i a2.0 a4.0 (told-of i.stage (i.env v_cause) (ap is_told_kind i.staged ∙ c) i.links.cause_is), (set-row k i a1.0 b, scratch-row k i a3.0))

  -- ---- the bytes of a path
  path-byte : (k : PhaseKind) (i : InKernel k p sys) (n : ℕ) → (is_user ((i.env 11 + n) % 2 ^ 64) ≡ true) × ((user_byte i.user ((i.env 11 + n) % 2 ^ 64) == 0) ≡ false) → IsPathByte p sys.bus.user n
  path-byte k i n b =
      let a : i.env 11 ≡ slice_index p.user.regs 11 = i.links.regs_are 11 (omega arith) in
      let c : sys.bus.user ≡ i.user = i.here.describes.memory.user_is in
      (subst (λ z. is_user ((z + n) % 2 ^ 64) ≡ true) a b.0, subst (λ z. (user_byte z ((slice_index p.user.regs 11 + n) % 2 ^ 64) == 0) ≡ false) (sym c) (subst (λ z. (user_byte i.user ((z + n) % 2 ^ 64) == 0) ≡ false) a b.1))

  abbrev Good : InKernel Scan p sys → ℕ → Type 0
  Good i n = (is_user ((i.env 11 + n) % 2 ^ 64) ≡ true) × ((user_byte i.user ((i.env 11 + n) % 2 ^ 64) == 0) ≡ false)

  path-bytes : (i : InKernel Scan p sys) (n : ℕ) → n < p.scanned → IsPathByte p sys.bus.user n
  path-bytes i n l = path-byte Scan i n (go i.stage i.staged i.extra)
    where
      looked : ScanIs i.user i.env → p.scanned ≡ i.env v_scanned + 1 → ByteIs i.user i.env → (i.env v_byte == 0) ≡ false → Good i n
      looked s c b z = by (n == i.env v_scanned) refl
        where
          by : (t : Bool) → (n == i.env v_scanned) ≡ t → Good i n
          by true q =
              let e = eqb-true n (i.env v_scanned) q in
              (subst (λ y. is_user ((i.env 11 + y) % 2 ^ 64) ≡ true) (sym e) b.inside, subst (λ y. (user_byte i.user ((i.env 11 + y) % 2 ^ 64) == 0) ≡ false) (sym e) (ap (λ y. y == 0) (sym b.byte_is) ∙ z))
          by false q = let ne : n ≢ i.env v_scanned = eqb-false n (i.env v_scanned) q in s.passed n (omega arith)

      go : (st : Stage) → stage_kind st ≡ Scan → Extra st p i.user i.env → Good i n
      go Starting e x = let z = x.1 in absurd (omega arith)
      go Scanning e x = let z = x.1 in x.0.passed n (omega arith)
      go Looked e x = let z = x.1 in x.0.passed n (omega arith)
      go Past e x = looked x.0 x.1 x.2 x.3
      go Full e x = looked x.0 x.1 x.2 x.3
      go st e x = cc

  -- ---- the rows
  call-or-told : (k : PhaseKind) (i : InKernel k p sys) → trap_csrs i.here.state ≡ true → epc_here i.here.state ≡ true → (i.env v_cause ≡ 8) ⊎ ((i.env v_cause ≢ 8) × Says p.text i.env × (p.text.posted ≡ 0)) → IsCallOrTrap p sys
  call-or-told k i t e (inl c) = inl ((cause-is i.user i.env i.here.state sys i.here.describes t).0 ∙ c)
  call-or-told k i t e (inr c) = inr (says-is k i t e c.0 c.1, c.2)

  save : InKernel Save p sys → Breaks → SetRow Save p sys × Row Save p sys
  save i b =
      let s = i.here.state in
      let a1 = and_parts (set_csrs s) _ (test-here Save i) in
      let a2 = and_parts (trap_csrs s) _ a1.1 in
      let a3 = and_parts (same s.csrs.scratch (Lit frame) || same s.csrs.scratch (Var 31)) _ a2.1 in
      let a4 = and_parts (epc_here s) _ a3.1 in (
        (
          set-row Save i a1.0 b,
          or-elim (same s.csrs.scratch (Lit frame)) (same s.csrs.scratch (Var 31)) a3.0
              (λ q. inl (scratch-row Save i q))
              (λ q. inr (31, omega arith, scratch-is i.user i.env s sys i.here.describes (Var 31) q ∙ reg-env Save i 31 (omega arith))),
        ),
        (at-is Save i (λ z. cc) a4.0, each a4.1, call-or-told Save i a2.0 a4.0 (trap i.stage i.staged i.extra)),
      )
    where
      each : each_from saved 1 31 i.here.state ≡ true → IsSaved p sys
      each e n c d = or-elim (same (reg i.here.state n) (Var n)) _ (each-at saved 1 31 n i.here.state e (omega arith) (omega arith))
          (λ q. inl (reg-is i.user i.env i.here.state sys i.here.describes n (Var n) q ∙ reg-env Save i n d))
          (λ q. or-elim (same i.here.state.csrs.scratch (Var n)) (framed n i.here.state) q
          (λ r. inr (inl (scratch-is i.user i.env i.here.state sys i.here.describes (Var n) r ∙ reg-env Save i n d)))
          (λ r. inr (inr (framed-is i.user i.env i.here.state sys i.here.describes n r ∙ reg-env Save i n d))))

      trap : (st : Stage) → stage_kind st ≡ Save → Extra st p i.user i.env → (i.env v_cause ≡ 8) ⊎ ((i.env v_cause ≢ 8) × Says p.text i.env × (p.text.posted ≡ 0))
      trap Saving e x = x
      trap st e x = cc

  check : InKernel Check p sys → Breaks → SetRow Check p sys × Row Check p sys
  check i b =
      let s = i.here.state in
      let a1 = and_parts (set_csrs s) _ (test-here Check i) in
      let a2 = and_parts (trap_csrs s) _ a1.1 in
      let a3 = and_parts (scratch_set s) _ a2.1 in
      let a4 = and_parts (epc_here s) _ a3.1 in
      ((set-row Check i a1.0 b, scratch-row Check i a3.0), (at-is Check i (λ z. cc) a4.0, in-frame Check i a4.1, call-or-told Check i a2.0 a4.0 (trap i.stage i.staged i.extra)))
    where
      trap : (st : Stage) → stage_kind st ≡ Check → Extra st p i.user i.env → (i.env v_cause ≡ 8) ⊎ ((i.env v_cause ≢ 8) × Says p.text i.env × (p.text.posted ≡ 0))
      trap Checking e x = x
      trap st e x = cc

  restore : InKernel Restore p sys → Breaks → SetRow Restore p sys × Row Restore p sys
  restore i b =
      let s = i.here.state in
      let a1 = and_parts (set_csrs s) _ (test-here Restore i) in
      let a2 = and_parts (trap_csrs s) _ a1.1 in
      let a3 = and_parts (scratch_set s) _ a2.1 in
      let a4 = and_parts (epc_here s || same s.csrs.epc moved_epc) _ a3.1 in
      let a5 = and_parts (same (reg s 10) (Var 10)) _ a4.1 in (
        (set-row Restore i a1.0 b, scratch-row Restore i a3.0),
        (
          call-is Restore i refl a2.0,
          returns (pc i.stage i.staged i.links.pc_is) i.links.pc_even a4.0,
          record { each = each a5.1; answer = reg-is i.user i.env s sys i.here.describes 10 (Var 10) a5.0 ∙ reg-env Restore i 10 (omega arith) },
        ),
      )
    where
      each : each_from restored 1 31 i.here.state ≡ true → (n : ℕ) → 0 < n → n < 32 → (slice_index sys.hart.registers n ≡ slice_index p.user.regs n) ⊎ (in_frame sys.bus n ≡ slice_index p.user.regs n)
      each e n c d = or-elim (same (reg i.here.state n) (Var n)) (framed n i.here.state) (each-at restored 1 31 n i.here.state e (omega arith) (omega arith))
          (λ q. inl (reg-is i.user i.env i.here.state sys i.here.describes n (Var n) q ∙ reg-env Restore i n d))
          (λ q. inr (framed-is i.user i.env i.here.state sys i.here.describes n q ∙ reg-env Restore i n d))

      pc : (st : Stage) → stage_kind st ≡ Restore → PcIs st p.user i.env → p.user.pc ≡ (i.env v_pc + 4) % 2 ^ 64
      pc Restoring e x = x
      pc st e x = cc

      returns : p.user.pc ≡ (i.env v_pc + 4) % 2 ^ 64 → i.env v_pc % instruction_alignment ≡ 0 → (epc_here i.here.state || same i.here.state.csrs.epc moved_epc) ≡ true → (sys.hart.csrs.mepc ≡ p.user.pc) ⊎ ((sys.hart.csrs.mepc + 4) % 2 ^ 64 ≡ p.user.pc)
      returns c even e = or-elim (epc_here i.here.state) (same i.here.state.csrs.epc moved_epc) e
          (λ q. inr (ap (λ z. (z + 4) % 2 ^ 64) (epc-is i.user i.env i.here.state sys i.here.describes (Var v_pc) q) ∙ sym c))
          (λ q. let a : instruction_aligned ((i.env v_pc + 4) % 2 ^ 64) ≡ (i.env v_pc + 4) % 2 ^ 64 = omega arith in inl (epc-is i.user i.env i.here.state sys i.here.describes moved_epc q ∙ a ∙ sym c))

  -- the last words
  few-at : (user : List ℕ) (env : ℕ → ℕ) (k : ℕ) (w : Here kernel user env blocks k sys) → few_ok k w.block.start ≡ true
  few-at user env k w = subst (λ z. few_ok z w.block.start ≡ true) w.kind (starts-at few_ok blocks w.block few_right w.among)

  counter-few : (n : ℕ) (s : State) → counter_words ≤ n → n < store_gates → few_ok n s ≡ true → n ≤ counter_last_blocks
  counter-few n s a b e =
      let x : nat_le store_gates n ≡ false = grind (arith, nat_tests) in
      let y : nat_le counter_words n ≡ true = grind (arith, nat_tests) in
      let z : nat_le n counter_last_blocks ≡ true = go (nat_le store_gates n) (nat_le counter_words n) x y e in
      grind (arith, nat_tests)
    where
      go : (c d : Bool) → c ≡ false → d ≡ true → ◌≡◌ {A = Bool} (elim c [ true ↦ true | false ↦ elim d [ true ↦ nat_le n counter_last_blocks | false ↦ elim (nat_le trap_words n) [ true ↦ nat_le n trap_last_blocks | false ↦ true ] ] ]) true → nat_le n counter_last_blocks ≡ true
      go false true p q f = f
      go true d p q f = absurd (false≢true (sym p))
      go false false p q f = absurd (false≢true q)

  trap-few : (n : ℕ) (s : State) → trap_words ≤ n → n < counter_words → few_ok n s ≡ true → n ≤ trap_last_blocks
  trap-few n s a b e =
      let x : nat_le store_gates n ≡ false = grind (arith, nat_tests) in
      let y : nat_le counter_words n ≡ false = grind (arith, nat_tests) in
      let w : nat_le trap_words n ≡ true = grind (arith, nat_tests) in
      let z : nat_le n trap_last_blocks ≡ true = go (nat_le store_gates n) (nat_le counter_words n) (nat_le trap_words n) x y w e in
      grind (arith, nat_tests)
    where
      go : (c d f : Bool) → c ≡ false → d ≡ false → f ≡ true → ◌≡◌ {A = Bool} (elim c [ true ↦ true | false ↦ elim d [ true ↦ nat_le n counter_last_blocks | false ↦ elim f [ true ↦ nat_le n trap_last_blocks | false ↦ true ] ] ]) true → nat_le n trap_last_blocks ≡ true
      go false false true p q r h = h
      go true d f p q r h = absurd (false≢true (sym p))
      go false true f p q r h = absurd (false≢true (sym q))
      go false false false p q r h = absurd (false≢true r)

  few-bytes : (i : InKernel Speak p sys) → p.text.posted ≤ length (message p.text)
  few-bytes i = go i.stage i.staged i.here i.extra
    where
      long : (c : Bool) → Says p.text i.env → p.text.counter ≡ c → (n : ℕ) → n ≤ (if c then 37 else 55) → n ≤ length (message p.text)
      long true s e n l = let z : 37 ≡ length (message p.text) = ap length (message_terms-message i.env p.text true s e) in omega arith
      long false s e n l = let z : 55 ≡ length (message p.text) = ap length (message_terms-message i.env p.text false s e) in omega arith

      saying : (c : Bool) (t : ℕ) → Here kernel i.user i.env blocks (base c + 2 * t) sys → t < 400 → t ≤ (if c then 37 else 55)
      saying true t w l = let z = counter-few (counter_words + 2 * t) w.block.start (omega arith) (omega arith) (few-at i.user i.env (counter_words + 2 * t) w) in omega arith
      saying false t w l = let z = trap-few (trap_words + 2 * t) w.block.start (omega arith) (omega arith) (few-at i.user i.env (trap_words + 2 * t) w) in omega arith

      said : (c : Bool) (t : ℕ) → Here kernel i.user i.env blocks (base c + 2 * t + 1) sys → t + 1 < 400 → t + 1 ≤ (if c then 37 else 55)
      said true t w l = let z = counter-few (counter_words + 2 * t + 1) w.block.start (omega arith) (omega arith) (few-at i.user i.env (counter_words + 2 * t + 1) w) in omega arith
      said false t w l = let z = trap-few (trap_words + 2 * t + 1) w.block.start (omega arith) (omega arith) (few-at i.user i.env (trap_words + 2 * t + 1) w) in omega arith

      go : (st : Stage) → stage_kind st ≡ Speak → Here kernel i.user i.env blocks (stage_number st) sys → Extra st p i.user i.env → p.text.posted ≤ length (message p.text)
      go Choosing e w x = let z = x.1 in omega arith
      go (Saying c t) e w x = subst (λ z. z ≤ length (message p.text)) (sym x.2) (long c x.0 x.1 t (saying c t w x.3))
      go (Said c t) e w x = subst (λ z. z ≤ length (message p.text)) (sym x.2) (long c x.0 x.1 (t + 1) (said c t w x.3))
      go st e w x = cc

  says-of : (k : PhaseKind) (i : InKernel k p sys) → is_told_kind k ≡ true → Says p.text i.env
  says-of k i c = go i.stage (ap is_told_kind i.staged ∙ c) i.extra
    where
      go : (st : Stage) → is_told_kind (stage_kind st) ≡ true → Extra st p i.user i.env → Says p.text i.env
      go Choosing e x = x.0
      go (Saying b t) e x = x.0
      go (Said b t) e x = x.0
      go (Ending b) e x = x.0
      go (Ended b) e x = x.0
      go st e x = absurd (false≢true e)

  -- ---- before the program starts
  module _ (k : PhaseKind) (i : InBoot k p sys) where
    boot-test : row_test (kind_code k) i.here.state ≡ true
    boot-test = row-at i.user i.env (boot_number i.stage) (kind_code k) sys (boot-shut i.stage) (boot-code i.stage ∙ ap kind_code i.staged) i.here

    boot-set : set_csrs i.here.state ≡ true → scratch_set i.here.state ≡ true → Breaks → IsSet p sys × HasScratch sys
    boot-set e f b =
        let a = set-is i.user i.env i.here.state sys i.here.describes e in
        (record { handler = a.0; fenced = a.1; break_is = b.0; first_is = b.1 }, scratch-is i.user i.env i.here.state sys i.here.describes (Lit frame) f)

  boot-wait : p.request ≡ request_of sys.bus → InBoot BootWait p sys → Breaks → SetRow BootWait p sys × Row BootWait p sys
  boot-wait r i b =
      let s = i.here.state in
      let a1 = and_parts (set_csrs s) _ (boot-test BootWait i) in
      let a2 = and_parts (scratch_set s) (asked s) a1.1 in
      (boot-set BootWait i a1.0 a2.0 b, ap (λ z. slice_set z 0 2011) r ∙ asked-is i.user i.env s sys i.here.describes a2.1)

  boot-plain : (k : PhaseKind) (i : InBoot k p sys) → (set_csrs i.here.state && scratch_set i.here.state) ≡ true → Breaks → IsSet p sys × HasScratch sys
  boot-plain k i e b = let a = and_parts (set_csrs i.here.state) (scratch_set i.here.state) e in boot-set k i a.0 a.1 b

  in-user : InUser p sys → Breaks → SetRow User p sys × Row User p sys
  in-user u b = ((record { handler = u.handler_is; fenced = u.fenced; break_is = b.0; first_is = b.1 }, u.scratch_is), (u.pc_is, u.regs_are))

  rows : (k : PhaseKind) → HoldsAs k p sys → BreaksAre k p sys → PartIs k p sys.bus → SetRow k p sys × Row k p sys
  rows Boot h b x = (tt, tt)
  rows BootWait h b x = boot-wait h.request_is h.place b
  rows BootTake h b x = (boot-plain BootTake h.place (boot-test BootTake h.place) b, tt)
  rows Leave h b x = (boot-plain Leave h.place (boot-test Leave h.place) b, tt)
  rows User h b x = in-user h.place b
  rows Save h b x = save h.place b
  rows Check h b x = check h.place b
  rows Scan h b x = let c = call-parts Scan h.place (test-here Scan h.place) refl (λ z. cc) b in (c.0, (c.1, x, path-bytes h.place, few-scanned p sys h.place))
  rows Fill h b x = let c = call-parts Fill h.place (test-here Fill h.place) refl (λ z. cc) b in (c.0, (c.1, x))
  rows Wait h b x = let c = call-parts Wait h.place (test-here Wait h.place) refl (λ z. cc) b in (c.0, (c.1, x))
  rows Take h b x = let c = call-parts Take h.place (test-here Take h.place) refl (λ z. cc) b in (c.0, c.1)
  rows Local h b x = let c = call-parts Local h.place (test-here Local h.place) refl (λ z. cc) b in (c.0, (c.1, x))
  rows Restore h b x = restore h.place b
  rows Speak h b x = let c = told-parts Speak h.place (test-here Speak h.place) refl b in (c.1, (c.0 (says-of Speak h.place refl), few-bytes h.place))
  rows Closing h b x = let c = told-parts Closing h.place (test-here Closing h.place) refl b in (c.1, (c.0 (says-of Closing h.place refl), x))

  -- ---- every phase
  running : (k : PhaseKind) → Place k p sys → (sys.hart.run ≡ Running) × (sys.hart.mode ≡ mode_of k) × CodeIs kernel sys.bus.kernel
  running User i = (i.run, i.user_mode, i.code_is)
  running Boot i = (i.here.describes.run, i.here.describes.mode, i.here.describes.memory.code_is)
  running BootWait i = (i.here.describes.run, i.here.describes.mode, i.here.describes.memory.code_is)
  running BootTake i = (i.here.describes.run, i.here.describes.mode, i.here.describes.memory.code_is)
  running Leave i = (i.here.describes.run, i.here.describes.mode, i.here.describes.memory.code_is)
  running Save i = (i.here.describes.run, i.here.describes.mode, i.here.describes.memory.code_is)
  running Check i = (i.here.describes.run, i.here.describes.mode, i.here.describes.memory.code_is)
  running Scan i = (i.here.describes.run, i.here.describes.mode, i.here.describes.memory.code_is)
  running Fill i = (i.here.describes.run, i.here.describes.mode, i.here.describes.memory.code_is)
  running Wait i = (i.here.describes.run, i.here.describes.mode, i.here.describes.memory.code_is)
  running Take i = (i.here.describes.run, i.here.describes.mode, i.here.describes.memory.code_is)
  running Local i = (i.here.describes.run, i.here.describes.mode, i.here.describes.memory.code_is)
  running Restore i = (i.here.describes.run, i.here.describes.mode, i.here.describes.memory.code_is)
  running Speak i = (i.here.describes.run, i.here.describes.mode, i.here.describes.memory.code_is)
  running Closing i = (i.here.describes.run, i.here.describes.mode, i.here.describes.memory.code_is)

-- what is known has the rows
pub holds-known : (p : Phase) (sys : System) → Known p sys → Holds p sys
unfolding Known
holds-known p sys h =
    let r = running p sys p.kind h.0.place in
    let t = rows p sys p.kind h.0 h.3 (part_law p sys h) in
    record {
      every = record { running = r.0; mode_is = r.1; image = r.2; tohost_is = h.0.tohost_is; fromhost_is = h.0.fromhost_is; request_is = h.0.request_is; mailbox = h.1 };
      set = t.0;
      row = t.1;
      known = h;
    }

-- so has what is known where the hart begins
pub begin_holds_known : BeginHolds
begin_holds_known p bus whole l b = holds-known p (over bus begun_hart) (begun p (over bus begun_hart) refl whole l b.kind b.tohost b.fromhost b.request)
