-- A step of the hart is what its symbolic step says.
use Rattle.std.proofs.Common.{◌≡◌, ℕ, zero, suc, ◌+◌, ◌-◌, ◌*◌, ◌/◌, ◌%◌, ◌^◌, ◌<◌, ◌≤◌, ◌==◌, ◌&&◌, inl, inr, not, nat_lt, Bool, true, false, Option, Some, None, if◌then◌else◌, List, [], ◌∷◌, length, get_or, set, refl, ap, sym, subst, ◌∙◌, arith}
use Rattle.std.specs.Prelude.{⊤, nat_le, slice_get, slice_set}
use Rattle.std.proofs.lemmas.Bool.{false≢true, and_parts, eqb-true}
use Rattle.std.proofs.lemmas.Bool.Decides.{nat_tests}
use Rattle.std.proofs.lemmas.Option.{slice_get_within}
use Rattle.fe_base.specs.MemoryMap.{kernel_start, kernel_end, kernel_code_size}
use Rattle.rv_decode.specs.declared.instruction.Insn.{Insn}
use Rattle.rv_decode.specs.declared.instruction.Insn.TheVariants.{Lui, Auipc, Jal, Jalr, Beq, Bne, Bltu, Bgeu, Ld, Sd, Addi, Sltiu, Andi, Slli, Srli, Add, Sub, Srl, Csrrw, Csrrs}
use Rattle.rv_decode.specs.InsnTable.{insn_of}
use Rattle.rv_alu.specs.Numbers.{register_of}
use Rattle.rv_alu.specs.Formulas.{alu}
use Rattle.rv_alu.specs.Effects.{effect_of, upper, plus, even, branch, put, read}
use Rattle.rv_alu.specs.declared.arithmetic.AluOp.{AluOp}
use Rattle.rv_alu.specs.declared.arithmetic.AluOp.TheVariants as op
use Rattle.rv_alu.specs.declared.effects.Effect.{Effect}
use Rattle.rv_alu.specs.declared.effects.Effect.TheVariants as eff
use Rattle.rv_alu.specs.declared.effects.Size.TheVariants as size
use Rattle.rv_alu.specs.declared.effects.CsrOp.TheVariants as csr_op
use Rattle.rv_csr.specs.CsrTable.{CsrState, csr_of, is_read_only, csr_value, with_csr}
use Rattle.rv_csr.specs.Fields.{aligned, instruction_aligned}
use Rattle.rv_decode.specs.Alignment.{instruction_alignment}
use Rattle.rv_csr.specs.declared.table.Csr.{Csr}
use Rattle.rv_csr.specs.declared.table.Csr.TheVariants.{Mtvec, Mscratch, Mepc, Mcause, Mtval, Pmpcfg0, Pmpaddr0, Pmpaddr1}
use Rattle.rv_csr.specs.declared.privilege.Access.{Access}
use Rattle.rv_csr.specs.declared.privilege.Access.TheVariants.{Read, Write, Execute}
use Rattle.rv_csr.specs.declared.privilege.Mode.{Mode}
use Rattle.rv_csr.specs.declared.privilege.Mode.TheVariants.{Machine}
use Rattle.guest_memory.specs.Bus.{BusState}
use Rattle.guest_memory.specs.Memory.{load, store}
use Rattle.guest_memory.proofs.MemoryLemmas.{stores_leave, loads_give, length-store}
use Rattle.guest_memory.proofs.AreaLemmas.{is_ram-kernel, bus_load-kernel, bus_store-kernel}
use Rattle.rv_hart.specs.Accesses.{is_permitted, refused_byte, hart_load, hart_store}
use Rattle.rv_hart.proofs.AccessLemmas.{every-ram, hart_load-ram, hart_store-ram}
use Rattle.rv_hart.specs.HartStep.{System, AreRegisters, over, after_step, effect_step, csr_step, insn_step, instruction_step, executing_step, hart_step, step_by, counted_step, unless, word_at}
use Rattle.rv_alu.specs.declared.causes.Cause.TheVariants.{FetchAccess}
use Rattle.rv_hart.specs.declared.debug.Run.{Run}
use Rattle.kernel_steps.specs.Terms.{Term, Lit, Var, Bin, Aligned, Unknown, value, Is, is_known, if_known, adds_zero, bin_of, combine, aligned_term, AllIs, CellsAre, Fact, compared, FactsHold}
use Rattle.kernel_steps.specs.States.{CsrTerms, State, CodeIs, CsrsAre, Describes, OneDescribes}
use Rattle.kernel_steps.specs.Successors.{vector_term, data_start, put_term, reg, next_at, Action, Puts, Jumps, Forks, Loads, Stores, Swaps, Reads, jump_to, read_csr, action_of, cell_no, is_cell, only, load_into, store_from, flip, learn, fork_by, fork_from, get_csr, set_lit, set_by, set_csr, put_old, swap_csr, read_into, guarded, after_action, and_then, successors_of, fetch}

-- ---- terms
pub value-Is : (env : ℕ → ℕ) (a : Term) (x : ℕ) → is_known a ≡ true → Is env a x → x ≡ value env a
value-Is env (Lit n) x e h = h
value-Is env (Var n) x e h = h
value-Is env (Bin o a b) x e h = h
value-Is env (Aligned a) x e h = h
value-Is env Unknown x e h = absurd (false≢true e)

combined : (env : ℕ → ℕ) (o : AluOp) (a b : Term) (x y : ℕ) → x ≡ value env a → Is env b y → Is env (if_known (is_known b) (Bin o a b)) (alu o x y)
combined env o a b x y p q = go (is_known b) refl
  where
    go : (c : Bool) → is_known b ≡ c → Is env (if_known c (Bin o a b)) (alu o x y)
    go false e = tt
    go true e = ap (λ z. alu o z y) p ∙ ap (λ z. alu o (value env a) z) (value-Is env b y e q)

zero-sum : (o : AluOp) (env : ℕ → ℕ) (b : Term) (a x y : ℕ) → adds_zero o b ≡ true → x ≡ a → a < 2 ^ 64 → Is env b y → alu o x y ≡ a
zero-sum op.Add env (Lit n) a x y e p l q = let z : n ≡ 0 = eqb-true n 0 e in omega arith
zero-sum op.Add env (Var n) a x y e p l q = absurd (false≢true e)
zero-sum op.Add env (Bin o b c) a x y e p l q = absurd (false≢true e)
zero-sum op.Add env (Aligned b) a x y e p l q = absurd (false≢true e)
zero-sum op.Add env Unknown a x y e p l q = absurd (false≢true e)
zero-sum o env b a x y e p l q = absurd (false≢true e)

var-sum : (env : ℕ → ℕ) (o : AluOp) (n : ℕ) (b : Term) (x y : ℕ) → env n < 2 ^ 64 → x ≡ env n → Is env b y → Is env (bin_of (adds_zero o b) o (Var n) b) (alu o x y)
var-sum env o n b x y l p q = go (adds_zero o b) refl
  where
    go : (c : Bool) → adds_zero o b ≡ c → Is env (bin_of c o (Var n) b) (alu o x y)
    go true e = zero-sum o env b (env n) x y e p l q
    go false e = combined env o (Var n) b x y p q

pub combine-Is : (env : ℕ → ℕ) (o : AluOp) (a b : Term) (x y : ℕ) → ((n : ℕ) → env n < 2 ^ 64) → Is env a x → Is env b y → Is env (combine o a b) (alu o x y)
combine-Is env o (Lit a) (Lit b) x y s p q = ap (λ z. alu o z y) p ∙ ap (λ z. alu o a z) q
combine-Is env o (Lit a) (Var b) x y s p q = combined env o (Lit a) (Var b) x y p q
combine-Is env o (Lit a) (Bin r b c) x y s p q = combined env o (Lit a) (Bin r b c) x y p q
combine-Is env o (Lit a) (Aligned b) x y s p q = combined env o (Lit a) (Aligned b) x y p q
combine-Is env o (Lit a) Unknown x y s p q = tt
combine-Is env o (Var n) b x y s p q = var-sum env o n b x y (s n) p q
combine-Is env o (Bin r a c) b x y s p q = combined env o (Bin r a c) b x y p q
combine-Is env o (Aligned a) b x y s p q = combined env o (Aligned a) b x y p q
combine-Is env o Unknown b x y s p q = tt

aligned_term-Is : (env : ℕ → ℕ) (a : Term) (x : ℕ) → Is env a x → Is env (aligned_term a) (instruction_aligned x)
aligned_term-Is env (Lit n) x p = ap instruction_aligned p
aligned_term-Is env (Var n) x p = ap instruction_aligned p
aligned_term-Is env (Bin o a b) x p = ap instruction_aligned p
aligned_term-Is env (Aligned a) x p = ap instruction_aligned p
aligned_term-Is env Unknown x p = tt

vector-Is : (env : ℕ → ℕ) (a : Term) (x : ℕ) → Is env a x → Is env (vector_term a) (aligned x)
vector-Is env (Lit n) x p = ap aligned p
vector-Is env (Var n) x p = tt
vector-Is env (Bin o a b) x p = tt
vector-Is env (Aligned a) x p = tt
vector-Is env Unknown x p = tt

-- ---- registers
pub AllIs-get : (env : ℕ → ℕ) (ss : List Term) (vs : List ℕ) (n : ℕ) → AllIs env ss vs → Is env (get_or ss n Unknown) (get_or vs n 0)
AllIs-get env [] vs n h = tt
AllIs-get env (s ∷ ss) [] n h = absurd h
AllIs-get env (s ∷ ss) (v ∷ vs) zero h = h.0
AllIs-get env (s ∷ ss) (v ∷ vs) (suc n) h = AllIs-get env ss vs n h.1

pub AllIs-set : (env : ℕ → ℕ) (ss : List Term) (vs : List ℕ) (n : ℕ) (s : Term) (v : ℕ) → AllIs env ss vs → Is env s v → AllIs env (set ss n s) (set vs n v)
AllIs-set env [] vs n s v h e = tt
AllIs-set env (t ∷ ss) [] n s v h e = absurd h
AllIs-set env (t ∷ ss) (w ∷ vs) zero s v h e = (e, h.1)
AllIs-set env (t ∷ ss) (w ∷ vs) (suc n) s v h e = (h.0, AllIs-set env ss vs n s v h.1 e)

pub AllIs-put : (env : ℕ → ℕ) (ss : List Term) (vs : List ℕ) (n : ℕ) (s : Term) (v : ℕ) → AllIs env ss vs → Is env s v → AllIs env (put_term ss n s) (put vs n v)
unfolding put
AllIs-put env ss vs n s v h e = go (n == 0)
  where
    go : (b : Bool) → AllIs env (if b then ss else set ss n s) (if b then vs else slice_set vs n v)
    go true = h
    go false = AllIs-set env ss vs n s v h e

-- ---- cells
pub CellsAre-get : (env : ℕ → ℕ) (ss : List Term) (m : List ℕ) (a i b : ℕ) → b ≡ a + 8 * i → CellsAre env ss m a → Is env (get_or ss i Unknown) (load m b 8)
CellsAre-get env [] m a i b e h = tt
CellsAre-get env (s ∷ ss) m a zero b e h = let k : a ≡ b = omega arith in subst (λ x. Is env s (load m x 8)) k h.0
CellsAre-get env (s ∷ ss) m a (suc i) b e h = CellsAre-get env ss m (a + 8) i b (omega arith) h.1

CellsAre-below : (env : ℕ → ℕ) (ss : List Term) (m : List ℕ) (a b v : ℕ) → b + 8 ≤ a → b + 8 ≤ length m → CellsAre env ss m a → CellsAre env ss (store m b 8 v) a
CellsAre-below env [] m a b v l r h = tt
CellsAre-below env (s ∷ ss) m a b v l r h =
    (subst (Is env s) (sym (stores_leave m b 8 v a 8 r (inr l))) h.0, CellsAre-below env ss m (a + 8) b v (omega arith) r h.1)

pub stored-value : (m : List ℕ) (b v : ℕ) → b + 8 ≤ length m → v < 2 ^ 64 → load (store m b 8 v) b 8 ≡ v
stored-value m b v r l = let e = loads_give m b 8 v r in omega arith

pub CellsAre-set : (env : ℕ → ℕ) (ss : List Term) (m : List ℕ) (a i b : ℕ) (s : Term) (v : ℕ) → b ≡ a + 8 * i → b + 8 ≤ length m → v < 2 ^ 64 → CellsAre env ss m a → Is env s v
    → CellsAre env (set ss i s) (store m b 8 v) a
CellsAre-set env [] m a i b s v e r l h p = tt
CellsAre-set env (t ∷ ss) m a zero b s v e r l h p =
    let k : b ≡ a = omega arith in
    (subst (λ x. Is env s (load (store m b 8 v) x 8)) k (subst (Is env s) (sym (stored-value m b v r l)) p), CellsAre-below env ss m (a + 8) b v (omega arith) r h.1)
CellsAre-set env (t ∷ ss) m a (suc i) b s v e r l h p =
    let before : a + 8 ≤ b = omega arith in
    (subst (Is env t) (sym (stores_leave m b 8 v a 8 r (inl before))) h.0, CellsAre-set env ss m (a + 8) i b s v (omega arith) r l h.1 p)

pub CodeIs-store : (code : List Insn) (m : List ℕ) (at v : ℕ) → kernel_code_size ≤ at → at + 8 ≤ length m → CodeIs code m → CodeIs code (store m at 8 v)
CodeIs-store code m at v low room c = record {
  short = c.short;
  words = λ k i e.
      let n : k < length code = slice_get_within code k i e in
      let before : 4 * k + 4 ≤ at = omega (arith, c.short) in
      rw (stores_leave m at 8 v (4 * k) 4 room (inl before)) (c.words k i e);
}

-- ---- what a hart reaches in the kernel area
kernel-reach : (csrs : CsrState) (access : Access) (at width : ℕ) → 0 < width → width < 2 ^ 32 → kernel_start ≤ at → at + width ≤ kernel_end → refused_byte csrs Machine access at width ≡ None
unfolding refused_byte is_permitted
kernel-reach csrs access at width some few low high = rw (every-ram at width some few, is_ram-kernel at width low high) refl

kernel-load : (bus : BusState) (at width : ℕ) → 0 < width → kernel_start ≤ at → at + width ≤ kernel_end → hart_load bus at width ≡ load bus.kernel (at - kernel_start) width
kernel-load bus at width some low high = hart_load-ram bus at width some (is_ram-kernel at width low high) ∙ bus_load-kernel bus at width low

kernel-store : (bus : BusState) (at width value : ℕ) → 0 < width → kernel_start ≤ at → at + width ≤ kernel_end → hart_store bus at width value ≡ (record bus { kernel = store bus.kernel (at - kernel_start) width value })
kernel-store bus at width value some low high = hart_store-ram bus at width value some (is_ram-kernel at width low high) ∙ bus_store-kernel bus at width value low

-- ---- control and status registers
abbrev SetOf : (ℕ → ℕ) → Option CsrTerms → CsrState → Type 0
SetOf env None csrs = ⊤
SetOf env (Some t) csrs = CsrsAre env t csrs

get-right : (env : ℕ → ℕ) (c : Csr) (t : CsrTerms) (csrs : CsrState) → CsrsAre env t csrs → Is env (get_csr c t) (csr_value c csrs)
get-right env Mscratch t csrs h = h.scratch
get-right env Mepc t csrs h = h.epc
get-right env Mcause t csrs h = h.cause
get-right env Mtval t csrs h = h.tval
get-right env Mtvec t csrs h = h.tvec
get-right env c t csrs h = tt

lit-right : (env : ℕ → ℕ) (c : Csr) (n : ℕ) (t : CsrTerms) (csrs : CsrState) → CsrsAre env t csrs → SetOf env (set_lit c n t) (with_csr c n csrs)
lit-right env Pmpcfg0 n t csrs h = record { scratch = h.scratch; epc = h.epc; cause = h.cause; tval = h.tval; tvec = h.tvec; mpp = h.mpp; pmp = rw h.pmp refl }
lit-right env Pmpaddr0 n t csrs h = record { scratch = h.scratch; epc = h.epc; cause = h.cause; tval = h.tval; tvec = h.tvec; mpp = h.mpp; pmp = rw h.pmp refl }
lit-right env Pmpaddr1 n t csrs h = record { scratch = h.scratch; epc = h.epc; cause = h.cause; tval = h.tval; tvec = h.tvec; mpp = h.mpp; pmp = rw h.pmp refl }
lit-right env c n t csrs h = tt

by-right : (env : ℕ → ℕ) (c : Csr) (v : Term) (x : ℕ) (t : CsrTerms) (csrs : CsrState) → Is env v x → CsrsAre env t csrs → SetOf env (set_by c v t) (with_csr c x csrs)
by-right env c (Lit n) x t csrs p h = subst (λ z. SetOf env (set_lit c n t) (with_csr c z csrs)) (sym p) (lit-right env c n t csrs h)
by-right env c (Var n) x t csrs p h = tt
by-right env c (Bin o a b) x t csrs p h = tt
by-right env c (Aligned a) x t csrs p h = tt
by-right env c Unknown x t csrs p h = tt

set-right : (env : ℕ → ℕ) (c : Csr) (v : Term) (x : ℕ) (t : CsrTerms) (csrs : CsrState) → Is env v x → CsrsAre env t csrs → SetOf env (set_csr c v t) (with_csr c x csrs)
set-right env Mscratch v x t csrs p h = record { scratch = p; epc = h.epc; cause = h.cause; tval = h.tval; tvec = h.tvec; mpp = h.mpp; pmp = h.pmp }
set-right env Mepc v x t csrs p h = record { scratch = h.scratch; epc = aligned_term-Is env v x p; cause = h.cause; tval = h.tval; tvec = h.tvec; mpp = h.mpp; pmp = h.pmp }
set-right env Mtvec v x t csrs p h = record { scratch = h.scratch; epc = h.epc; cause = h.cause; tval = h.tval; tvec = vector-Is env v x p; mpp = h.mpp; pmp = h.pmp }
set-right env c v x t csrs p h = by-right env c v x t csrs p h

-- ---- a step
-- the system after an effect, and the trap that it may be
abbrev pub carried : Effect → ℕ → ℕ → System → System
carried effect bits after system = after_step system (effect_step effect bits after system)

module _ (code : List Insn) (user : List ℕ) (env : ℕ → ℕ) (s : State) (sys : System) (m : Describes code user env s sys) (fit : AreRegisters sys.hart.registers) where
  abbrev pub after : ℕ
  after = (sys.hart.pc + 4) % 2 ^ 64

  after-is : after ≡ next_at s
  after-is = ap (λ a. (a + 4) % 2 ^ 64) m.at

  abbrev OneOf : Option (List State) → System → Type 0
  OneOf None t = ⊤
  OneOf (Some ts) t = OneDescribes code user env ts t

  reg-Is : (n : ℕ) → Is env (reg s n) (read sys.hart.registers n)
  reg-Is n = AllIs-get env s.regs sys.hart.registers n m.regs

  -- what an effect is, by a action
  abbrev ActionIs : Action → Effect → Type 0
  ActionIs (Puts rd v) e = (x : ℕ) × Is env v x × (e ≡ eff.Set rd x)
  ActionIs (Jumps rd target) e = e ≡ eff.Jump rd target
  ActionIs (Forks d a b negated target) e = (x : ℕ) × (y : ℕ) × Is env a x × Is env b y × (e ≡ branch (flip negated (compared d x y)) target)
  ActionIs (Loads rd a) e = (x : ℕ) × Is env a x × (e ≡ eff.Load rd size.Double false x)
  ActionIs (Stores a v) e = (x : ℕ) × (y : ℕ) × Is env a x × Is env v y × (y < 2 ^ 64) × (e ≡ eff.Store size.Double x y)
  ActionIs (Swaps rd csr v) e = (x : ℕ) × Is env v x × (e ≡ eff.Csr rd csr csr_op.Write x true)
  ActionIs (Reads rd csr) e = (x : ℕ) × (e ≡ eff.Csr rd csr csr_op.SetBits x false)

  abbrev ActionOf : Option Action → Effect → Type 0
  ActionOf None e = ⊤
  ActionOf (Some d) e = ActionIs d e

  sum : (o : AluOp) (n : ℕ) (b : Term) (y : ℕ) → Is env b y → Is env (combine o (reg s n) b) (alu o (read sys.hart.registers n) y)
  sum o n b y q = combine-Is env o (reg s n) b _ y m.small (reg-Is n) q

  jump-right : (rd : ℕ) (a : Term) (x : ℕ) → Is env a x → ActionOf (jump_to rd a) (eff.Jump rd (even x))
  jump-right rd (Lit a) x p = ap (λ z. eff.Jump rd (even z)) p
  jump-right rd (Var a) x p = tt
  jump-right rd (Bin o a b) x p = tt
  jump-right rd (Aligned a) x p = tt
  jump-right rd Unknown x p = tt

  read-right : (b : Bool) (rd csr x : ℕ) → ActionOf (read_csr b rd csr) (eff.Csr rd csr csr_op.SetBits x (not b))
  read-right true rd csr x = (x, refl)
  read-right false rd csr x = tt

  action-right : (i : Insn) → ActionOf (action_of i s) (effect_of i sys.hart.pc sys.hart.registers)
  unfolding effect_of
  action-right (Lui rd imm) = (upper imm, refl, refl)
  action-right (Auipc rd imm) = (_, ap (λ a. (a + upper imm) % 2 ^ 64) m.at, refl)
  action-right (Jal rd offset) = ap (λ a. eff.Jump rd (plus a offset)) m.at
  action-right (Jalr rd rs1 imm) = jump-right rd (combine op.Add (reg s rs1) (Lit (register_of imm))) _ (sum op.Add rs1 (Lit (register_of imm)) _ refl)
  action-right (Beq rs1 rs2 offset) = (_, _, reg-Is rs1, reg-Is rs2, ap (λ a. branch (read sys.hart.registers rs1 == read sys.hart.registers rs2) (plus a offset)) m.at)
  action-right (Bne rs1 rs2 offset) = (_, _, reg-Is rs1, reg-Is rs2, ap (λ a. branch (not (read sys.hart.registers rs1 == read sys.hart.registers rs2)) (plus a offset)) m.at)
  action-right (Bltu rs1 rs2 offset) = (_, _, reg-Is rs1, reg-Is rs2, ap (λ a. branch (nat_lt (read sys.hart.registers rs1) (read sys.hart.registers rs2)) (plus a offset)) m.at)
  action-right (Bgeu rs1 rs2 offset) = (_, _, reg-Is rs1, reg-Is rs2, ap (λ a. branch (not (nat_lt (read sys.hart.registers rs1) (read sys.hart.registers rs2))) (plus a offset)) m.at)
  action-right (Ld rd rs1 imm) = (_, sum op.Add rs1 (Lit (register_of imm)) _ refl, refl)
  action-right (Sd rs1 rs2 imm) = (_, _, sum op.Add rs1 (Lit (register_of imm)) _ refl, reg-Is rs2, fit.fit rs2, refl)
  action-right (Addi rd rs1 imm) = (_, sum op.Add rs1 (Lit (register_of imm)) _ refl, refl)
  action-right (Sltiu rd rs1 imm) = (_, sum op.Sltu rs1 (Lit (register_of imm)) _ refl, refl)
  action-right (Andi rd rs1 imm) = (_, sum op.And rs1 (Lit (register_of imm)) _ refl, refl)
  action-right (Slli rd rs1 amount) = (_, sum op.Sll rs1 (Lit amount) _ refl, refl)
  action-right (Srli rd rs1 amount) = (_, sum op.Srl rs1 (Lit amount) _ refl, refl)
  action-right (Add rd rs1 rs2) = (_, sum op.Add rs1 (reg s rs2) _ (reg-Is rs2), refl)
  action-right (Sub rd rs1 rs2) = (_, sum op.Sub rs1 (reg s rs2) _ (reg-Is rs2), refl)
  action-right (Srl rd rs1 rs2) = (_, sum op.Srl rs1 (reg s rs2) _ (reg-Is rs2), refl)
  action-right (Csrrw rd rs1 csr) = (_, reg-Is rs1, refl)
  action-right (Csrrs rd rs1 csr) = read-right (rs1 == 0) rd csr _
  action-right i = tt

  -- the pc goes elsewhere
  placed : (pc at : ℕ) (fs : List Fact) → pc ≡ at → FactsHold env fs → Describes code user env (record s { at = at; facts = fs }) (over sys.bus (record sys.hart { pc = pc }))
  placed pc at fs e f = record { run = m.run; mode = m.mode; at = e; regs = m.regs; csrs = m.csrs; memory = m.memory; facts = f; small = m.small }

  -- a register is written
  pub wrote : (rd x : ℕ) (v : Term) (pc at : ℕ) → pc ≡ at → Is env v x → Describes code user env (record s { at = at; regs = put_term s.regs rd v }) (over sys.bus (record sys.hart { pc = pc; registers = put sys.hart.registers rd x }))
  wrote rd x v pc at e p = record { run = m.run; mode = m.mode; at = e; regs = AllIs-put env s.regs sys.hart.registers rd v x m.regs p; csrs = m.csrs; memory = m.memory; facts = m.facts; small = m.small }

  learned : (d : Bool) (a b : Term) (x y : ℕ) (t : Bool) → Is env a x → Is env b y → compared d x y ≡ t → FactsHold env (learn d a b t s.facts)
  learned d a b x y t p q e = go (is_known a && is_known b) refl
    where
      go : (c : Bool) → (is_known a && is_known b) ≡ c → FactsHold env (if c then record { below = d; left = a; right = b; truth = t } ∷ s.facts else s.facts)
      go false r = m.facts
      go true r =
          let both = and_parts (is_known a) (is_known b) r in
          let u = value-Is env a x both.0 p in
          let v = value-Is env b y both.1 q in
          (subst (λ z. compared d (value env a) z ≡ t) v (subst (λ z. compared d z y ≡ t) u e), m.facts)

  ways : (negated c d : Bool) (a b : Term) (x y target : ℕ) → compared d x y ≡ c → Is env a x → Is env b y
      → OneDescribes code user env (fork_by negated s d a b target) (over sys.bus (record sys.hart { pc = if flip negated c then target else after }))
  ways false true d a b x y target e p q = inl (placed target target _ refl (learned d a b x y true p q e))
  ways false false d a b x y target e p q = inr (inl (placed after (next_at s) _ after-is (learned d a b x y false p q e)))
  ways true true d a b x y target e p q = inl (placed after (next_at s) _ after-is (learned d a b x y true p q e))
  ways true false d a b x y target e p q = inr (inl (placed target target _ refl (learned d a b x y false p q e)))

  one_way : (d : Bool) (a b x y : ℕ) (negated : Bool) (target : ℕ) → x ≡ a → y ≡ b
      → (if flip negated (compared d x y) then target else after) ≡ (if flip negated (compared d a b) then target else next_at s)
  one_way d a b x y negated target p q = rw (p, q, after-is) refl

  forked : (d : Bool) (a b : Term) (x y : ℕ) (negated : Bool) (target : ℕ) → Is env a x → Is env b y
      → OneDescribes code user env (fork_from s d a b negated target) (over sys.bus (record sys.hart { pc = if flip negated (compared d x y) then target else after }))
  forked d (Lit a) (Lit b) x y negated target p q = inl (placed _ _ s.facts (one_way d a b x y negated target p q) m.facts)
  forked d (Lit a) (Var b) x y negated target p q = ways negated _ d (Lit a) (Var b) x y target refl p q
  forked d (Lit a) (Bin o b c) x y negated target p q = ways negated _ d (Lit a) (Bin o b c) x y target refl p q
  forked d (Lit a) (Aligned b) x y negated target p q = ways negated _ d (Lit a) (Aligned b) x y target refl p q
  forked d (Lit a) Unknown x y negated target p q = ways negated _ d (Lit a) Unknown x y target refl p q
  forked d (Var a) b x y negated target p q = ways negated _ d (Var a) b x y target refl p q
  forked d (Bin o a c) b x y negated target p q = ways negated _ d (Bin o a c) b x y target refl p q
  forked d (Aligned a) b x y negated target p q = ways negated _ d (Aligned a) b x y target refl p q
  forked d Unknown b x y negated target p q = ways negated _ d Unknown b x y target refl p q

  branches : (bits target : ℕ) (c : Bool) → (target % instruction_alignment == 0) ≡ true → carried (branch c target) bits after sys ≡ over sys.bus (record sys.hart { pc = if c then target else after })
  unfolding effect_step put
  branches bits target true e = rw e refl
  branches bits target false e = refl

  fork-right : (bits : ℕ) (even4 d : Bool) (a b : Term) (x y : ℕ) (negated : Bool) (target : ℕ) → (target % instruction_alignment == 0) ≡ even4 → Is env a x → Is env b y
      → OneOf (guarded even4 (fork_from s d a b negated target)) (carried (branch (flip negated (compared d x y)) target) bits after sys)
  fork-right bits false d a b x y negated target e p q = tt
  fork-right bits true d a b x y negated target e p q = subst (OneDescribes code user env (fork_from s d a b negated target)) (sym (branches bits target _ e)) (forked d a b x y negated target p q)

  jumped : (bits : ℕ) (even4 : Bool) (rd target : ℕ) → (target % instruction_alignment == 0) ≡ even4 → OneOf (only even4 (record s { at = target; regs = put_term s.regs rd (Lit (next_at s)) })) (carried (eff.Jump rd target) bits after sys)
  unfolding effect_step
  jumped bits false rd target e = tt
  jumped bits true rd target e = rw e (inl (wrote rd after (Lit (next_at s)) target target refl after-is))

  reach : (access : Access) (at width : ℕ) → 0 < width → width < 2 ^ 32 → kernel_start ≤ at → at + width ≤ kernel_end → refused_byte sys.hart.csrs sys.hart.mode access at width ≡ None
  reach access at width some few low high = ap (λ mode. refused_byte sys.hart.csrs mode access at width) m.mode ∙ kernel-reach sys.hart.csrs access at width some few low high

  loads : (bits rd x : ℕ) → kernel_start ≤ x → x + 8 ≤ kernel_end
      → carried (eff.Load rd size.Double false x) bits after sys ≡ over sys.bus (record sys.hart { pc = after; registers = put sys.hart.registers rd (load sys.bus.kernel (x - kernel_start) 8) })
  unfolding effect_step
  loads bits rd x low high = rw (reach Read x 8 (omega arith) (omega arith) low high, kernel-load sys.bus x 8 (omega arith) low high) refl

  load-in : (bits rd x a : ℕ) (c : Bool) → is_cell a ≡ c → x ≡ a
      → OneOf (only c (record s { at = next_at s; regs = put_term s.regs rd (get_or s.cells (cell_no a) Unknown) })) (carried (eff.Load rd size.Double false x) bits after sys)
  load-in bits rd x a false e p = tt
  load-in bits rd x a true e p =
      let both = and_parts (nat_le (a + 8) kernel_end) (a == data_start + 8 * cell_no a) e in
      let place : a ≡ data_start + 8 * cell_no a = eqb-true _ _ both.1 in
      let high : x + 8 ≤ kernel_end = grind (arith, nat_tests) in
      let low : kernel_start ≤ x = omega arith in
      let at : x - kernel_start ≡ kernel_code_size + 8 * cell_no a = omega arith in
      subst (λ z. OneDescribes code user env (record s { at = next_at s; regs = put_term s.regs rd (get_or s.cells (cell_no a) Unknown) } ∷ []) z) (sym (loads bits rd x low high))
      (inl (wrote rd _ (get_or s.cells (cell_no a) Unknown) after (next_at s) after-is (CellsAre-get env s.cells sys.bus.kernel kernel_code_size (cell_no a) (x - kernel_start) at m.memory.cells_are)))

  load-right : (bits rd : ℕ) (a : Term) (x : ℕ) → Is env a x → OneOf (load_into s rd a) (carried (eff.Load rd size.Double false x) bits after sys)
  load-right bits rd (Lit a) x p = load-in bits rd x a (is_cell a) refl p
  load-right bits rd (Var a) x p = tt
  load-right bits rd (Bin o a b) x p = tt
  load-right bits rd (Aligned a) x p = tt
  load-right bits rd Unknown x p = tt

  stores : (bits x y : ℕ) → kernel_start ≤ x → x + 8 ≤ kernel_end
      → carried (eff.Store size.Double x y) bits after sys ≡ over (record sys.bus { kernel = store sys.bus.kernel (x - kernel_start) 8 y }) (record sys.hart { pc = after })
  unfolding effect_step
  stores bits x y low high = rw (reach Write x 8 (omega arith) (omega arith) low high, kernel-store sys.bus x 8 y (omega arith) low high) refl

  store-in : (bits x a y : ℕ) (v : Term) (c : Bool) → is_cell a ≡ c → x ≡ a → Is env v y → y < 2 ^ 64
      → OneOf (only c (record s { at = next_at s; cells = set s.cells (cell_no a) v })) (carried (eff.Store size.Double x y) bits after sys)
  store-in bits x a y v false e p q l = tt
  store-in bits x a y v true e p q l =
      let both = and_parts (nat_le (a + 8) kernel_end) (a == data_start + 8 * cell_no a) e in
      let place : a ≡ data_start + 8 * cell_no a = eqb-true _ _ both.1 in
      let high : x + 8 ≤ kernel_end = grind (arith, nat_tests) in
      let low : kernel_start ≤ x = omega arith in
      let at : x - kernel_start ≡ kernel_code_size + 8 * cell_no a = omega arith in
      let long = m.memory.long in
      let room : x - kernel_start + 8 ≤ length sys.bus.kernel = omega arith in
      subst (λ z. OneDescribes code user env (record s { at = next_at s; cells = set s.cells (cell_no a) v } ∷ []) z) (sym (stores bits x y low high))
      (inl record {
        run = m.run;
        mode = m.mode;
        at = after-is;
        regs = m.regs;
        csrs = m.csrs;
        memory = record {
          cells_are = CellsAre-set env s.cells sys.bus.kernel kernel_code_size (cell_no a) (x - kernel_start) v y at room l m.memory.cells_are q;
          long = length-store sys.bus.kernel (x - kernel_start) 8 y room ∙ long;
          user_is = m.memory.user_is;
          code_is = CodeIs-store code sys.bus.kernel (x - kernel_start) y (omega arith) room m.memory.code_is;
        };
        facts = m.facts;
        small = m.small;
      })

  store-right : (bits : ℕ) (a v : Term) (x y : ℕ) → Is env a x → Is env v y → y < 2 ^ 64 → OneOf (store_from s a v) (carried (eff.Store size.Double x y) bits after sys)
  store-right bits (Lit a) v x y p q l = store-in bits x a y v (is_cell a) refl p q l
  store-right bits (Var a) v x y p q l = tt
  store-right bits (Bin o a b) v x y p q l = tt
  store-right bits (Aligned a) v x y p q l = tt
  store-right bits Unknown v x y p q l = tt

  swaps : (bits rd csr x : ℕ) (c : Csr) → is_read_only csr ≡ false → csr_of csr ≡ Some c
      → carried (eff.Csr rd csr csr_op.Write x true) bits after sys ≡ over sys.bus (record sys.hart { pc = after; registers = put sys.hart.registers rd (csr_value c sys.hart.csrs); csrs = with_csr c x sys.hart.csrs })
  unfolding effect_step csr_step
  swaps bits rd csr x c ro is = rw (m.mode, is, ro, is) refl

  swapped : (rd : ℕ) (c : Csr) (x : ℕ) (o : Option CsrTerms) → SetOf env o (with_csr c x sys.hart.csrs)
      → OneOf (put_old s rd (get_csr c s.csrs) o) (over sys.bus (record sys.hart { pc = after; registers = put sys.hart.registers rd (csr_value c sys.hart.csrs); csrs = with_csr c x sys.hart.csrs }))
  swapped rd c x None h = tt
  swapped rd c x (Some t) h = inl record {
    run = m.run;
    mode = m.mode;
    at = after-is;
    regs = AllIs-put env s.regs sys.hart.registers rd (get_csr c s.csrs) _ m.regs (get-right env c s.csrs sys.hart.csrs m.csrs);
    csrs = h;
    memory = m.memory;
    facts = m.facts;
    small = m.small;
  }

  swap-right : (bits rd csr : ℕ) (ro : Bool) (o : Option Csr) (v : Term) (x : ℕ) → is_read_only csr ≡ ro → csr_of csr ≡ o → Is env v x
      → OneOf (swap_csr ro o s rd v) (carried (eff.Csr rd csr csr_op.Write x true) bits after sys)
  swap-right bits rd csr false (Some c) v x e f p = subst (OneOf (put_old s rd (get_csr c s.csrs) (set_csr c v s.csrs))) (sym (swaps bits rd csr x c e f)) (swapped rd c x (set_csr c v s.csrs) (set-right env c v x s.csrs sys.hart.csrs p m.csrs))
  swap-right bits rd csr false None v x e f p = tt
  swap-right bits rd csr true o v x e f p = tt

  reads : (bits rd csr x : ℕ) (c : Csr) → csr_of csr ≡ Some c
      → carried (eff.Csr rd csr csr_op.SetBits x false) bits after sys ≡ over sys.bus (record sys.hart { pc = after; registers = put sys.hart.registers rd (csr_value c sys.hart.csrs) })
  unfolding effect_step csr_step
  reads bits rd csr x c is = rw (m.mode, is) refl

  reads-right : (bits rd csr : ℕ) (o : Option Csr) (x : ℕ) → csr_of csr ≡ o → OneOf (read_into o s rd) (carried (eff.Csr rd csr csr_op.SetBits x false) bits after sys)
  reads-right bits rd csr (Some c) x f = subst (OneOf (read_into (Some c) s rd)) (sym (reads bits rd csr x c f)) (inl (wrote rd _ (get_csr c s.csrs) after (next_at s) after-is (get-right env c s.csrs sys.hart.csrs m.csrs)))
  reads-right bits rd csr None x f = tt

  after_action-right : (bits : ℕ) (d : Action) (e : Effect) → ActionIs d e → OneOf (after_action d s) (carried e bits after sys)
  unfolding effect_step
  after_action-right bits (Puts rd v) e h = subst (λ z. OneOf (after_action (Puts rd v) s) (carried z bits after sys)) (sym h.2) (inl (wrote rd h.0 v after (next_at s) after-is h.1))
  after_action-right bits (Jumps rd target) e h = subst (λ z. OneOf (after_action (Jumps rd target) s) (carried z bits after sys)) (sym h) (jumped bits (target % instruction_alignment == 0) rd target refl)
  after_action-right bits (Forks d a b negated target) e h = subst (λ z. OneOf (after_action (Forks d a b negated target) s) (carried z bits after sys)) (sym h.4) (fork-right bits (target % instruction_alignment == 0) d a b h.0 h.1 negated target refl h.2 h.3)
  after_action-right bits (Loads rd a) e h = subst (λ z. OneOf (load_into s rd a) (carried z bits after sys)) (sym h.2) (load-right bits rd a h.0 h.1)
  after_action-right bits (Stores a v) e h = subst (λ z. OneOf (store_from s a v) (carried z bits after sys)) (sym h.5) (store-right bits a v h.0 h.1 h.2 h.3 h.4)
  after_action-right bits (Swaps rd csr v) e h = subst (λ z. OneOf (after_action (Swaps rd csr v) s) (carried z bits after sys)) (sym h.2) (swap-right bits rd csr (is_read_only csr) (csr_of csr) v h.0 refl refl h.1)
  after_action-right bits (Reads rd csr) e h = subst (λ z. OneOf (after_action (Reads rd csr) s) (carried z bits after sys)) (sym h.1) (reads-right bits rd csr (csr_of csr) h.0 refl)

  next-right : (bits : ℕ) (o : Option Action) (e : Effect) → ActionOf o e → OneOf (and_then o (λ d. after_action d s)) (carried e bits after sys)
  next-right bits None e h = tt
  next-right bits (Some d) e h = after_action-right bits d e h

  begun : hart_step sys ≡ executing_step sys
  begun = ap (λ (stands : Run). step_by stands sys) m.run ∙ ap (λ (md : Mode). executing_step (over sys.bus (counted_step md sys.hart))) m.mode

  executed : (i : Insn) → refused_byte sys.hart.csrs sys.hart.mode Execute sys.hart.pc 4 ≡ None → insn_of (word_at sys) ≡ Some i
      → executing_step sys ≡ carried (effect_of i sys.hart.pc sys.hart.registers) (word_at sys) after sys
  unfolding instruction_step
  executed i free is = ap (λ (refused : Option ℕ). after_step sys (unless refused FetchAccess (insn_step (insn_of (word_at sys)) (word_at sys) 4 sys))) free ∙ ap (λ (insn : Option Insn). after_step sys (insn_step insn (word_at sys) 4 sys)) is

  fetched-at : (i : Insn) (k : ℕ) → s.at ≡ kernel_start + 4 * k → slice_get code k ≡ Some i → hart_step sys ≡ carried (effect_of i sys.hart.pc sys.hart.registers) (word_at sys) after sys
  fetched-at i k place e =
      let n : k < length code = slice_get_within code k i e in
      let short = m.memory.code_is.short in
      let here = m.at in
      let low : kernel_start ≤ sys.hart.pc = omega arith in
      let high : sys.hart.pc + 4 ≤ kernel_end = omega arith in
      let at : sys.hart.pc - kernel_start ≡ 4 * k = omega arith in
      let word : word_at sys ≡ load sys.bus.kernel (4 * k) 4 = kernel-load sys.bus sys.hart.pc 4 (omega arith) low high ∙ ap (λ z. load sys.bus.kernel z 4) at in
      begun ∙ executed i (reach Execute sys.hart.pc 4 (omega arith) (omega arith) low high) (ap insn_of word ∙ m.memory.code_is.words k i e)

  pub fetched : (i : Insn) → fetch code s.at ≡ Some i → hart_step sys ≡ carried (effect_of i sys.hart.pc sys.hart.registers) (word_at sys) after sys
  fetched i e = go (s.at == kernel_start + 4 * ((s.at - kernel_start) / 4)) refl e
    where
      go : (b : Bool) → (s.at == kernel_start + 4 * ((s.at - kernel_start) / 4)) ≡ b → (if b then slice_get code ((s.at - kernel_start) / 4) else None) ≡ Some i
          → hart_step sys ≡ carried (effect_of i sys.hart.pc sys.hart.registers) (word_at sys) after sys
      go false p q = cc
      go true p q = fetched-at i ((s.at - kernel_start) / 4) (eqb-true _ _ p) q

  pub leads : (i : Insn) (ts : List State) → fetch code s.at ≡ Some i → successors_of i s ≡ Some ts → OneDescribes code user env ts (hart_step sys)
  leads i ts e q = subst (OneDescribes code user env ts) (sym (fetched i e)) (subst (λ o. OneOf o (carried (effect_of i sys.hart.pc sys.hart.registers) (word_at sys) after sys)) q (next-right (word_at sys) (action_of i s) _ (action-right i)))

  -- ---- what stands before the data stays
  abbrev pub SameCode : System → Type 0
  SameCode t = (at width : ℕ) → at + width ≤ kernel_code_size → load t.bus.kernel at width ≡ load sys.bus.kernel at width

  abbrev CodeOf : Option (List State) → System → Type 0
  CodeOf None t = ⊤
  CodeOf (Some ts) t = SameCode t

  same-bus : (t z : System) → t ≡ z → z.bus ≡ sys.bus → SameCode t
  same-bus t z e b at width l = ap (λ y. load y.bus.kernel at width) e ∙ ap (λ y. load y.kernel at width) b

  jump-code : (bits : ℕ) (even4 : Bool) (rd target : ℕ) (t : State) → (target % instruction_alignment == 0) ≡ even4 → CodeOf (only even4 t) (carried (eff.Jump rd target) bits after sys)
  unfolding effect_step
  jump-code bits false rd target t e = tt
  jump-code bits true rd target t e = rw e (λ at width l. refl)

  branch-code : (bits target : ℕ) (even4 c : Bool) (ts : List State) → (target % instruction_alignment == 0) ≡ even4 → CodeOf (guarded even4 ts) (carried (branch c target) bits after sys)
  branch-code bits target false c ts e = tt
  branch-code bits target true c ts e = same-bus _ _ (branches bits target c e) refl

  load-in-code : (bits rd x a : ℕ) (t : State) (c : Bool) → is_cell a ≡ c → x ≡ a → CodeOf (only c t) (carried (eff.Load rd size.Double false x) bits after sys)
  load-in-code bits rd x a t false e p = tt
  load-in-code bits rd x a t true e p =
      let both = and_parts (nat_le (a + 8) kernel_end) (a == data_start + 8 * cell_no a) e in
      let place : a ≡ data_start + 8 * cell_no a = eqb-true _ _ both.1 in
      let high : x + 8 ≤ kernel_end = grind (arith, nat_tests) in
      same-bus _ _ (loads bits rd x (omega arith) high) refl

  load-code : (bits rd : ℕ) (a : Term) (x : ℕ) → Is env a x → CodeOf (load_into s rd a) (carried (eff.Load rd size.Double false x) bits after sys)
  load-code bits rd (Lit a) x p = load-in-code bits rd x a _ (is_cell a) refl p
  load-code bits rd (Var a) x p = tt
  load-code bits rd (Bin o a b) x p = tt
  load-code bits rd (Aligned a) x p = tt
  load-code bits rd Unknown x p = tt

  store-in-code : (bits x a y : ℕ) (t : State) (c : Bool) → is_cell a ≡ c → x ≡ a → CodeOf (only c t) (carried (eff.Store size.Double x y) bits after sys)
  store-in-code bits x a y t false e p = tt
  store-in-code bits x a y t true e p =
      let both = and_parts (nat_le (a + 8) kernel_end) (a == data_start + 8 * cell_no a) e in
      let place : a ≡ data_start + 8 * cell_no a = eqb-true _ _ both.1 in
      let high : x + 8 ≤ kernel_end = grind (arith, nat_tests) in
      let low : kernel_start ≤ x = omega arith in
      let long = m.memory.long in
      let room : x - kernel_start + 8 ≤ length sys.bus.kernel = omega arith in
      let behind : kernel_code_size ≤ x - kernel_start = omega arith in
      λ at width l. ap (λ z. load z.bus.kernel at width) (stores bits x y low high) ∙ stores_leave sys.bus.kernel (x - kernel_start) 8 y at width room (inl (omega arith))

  store-code : (bits : ℕ) (a v : Term) (x y : ℕ) → Is env a x → CodeOf (store_from s a v) (carried (eff.Store size.Double x y) bits after sys)
  store-code bits (Lit a) v x y p = store-in-code bits x a y _ (is_cell a) refl p
  store-code bits (Var a) v x y p = tt
  store-code bits (Bin o a b) v x y p = tt
  store-code bits (Aligned a) v x y p = tt
  store-code bits Unknown v x y p = tt

  put-code : (rd : ℕ) (old : Term) (o : Option CsrTerms) (t z : System) → t ≡ z → z.bus ≡ sys.bus → CodeOf (put_old s rd old o) t
  put-code rd old (Some c) t z e b = same-bus t z e b
  put-code rd old None t z e b = tt

  swap-code : (bits rd csr : ℕ) (ro : Bool) (o : Option Csr) (v : Term) (x : ℕ) → is_read_only csr ≡ ro → csr_of csr ≡ o → CodeOf (swap_csr ro o s rd v) (carried (eff.Csr rd csr csr_op.Write x true) bits after sys)
  swap-code bits rd csr false (Some c) v x e f = put-code rd (get_csr c s.csrs) (set_csr c v s.csrs) _ _ (swaps bits rd csr x c e f) refl
  swap-code bits rd csr false None v x e f = tt
  swap-code bits rd csr true o v x e f = tt

  read-code : (bits rd csr : ℕ) (o : Option Csr) (x : ℕ) → csr_of csr ≡ o → CodeOf (read_into o s rd) (carried (eff.Csr rd csr csr_op.SetBits x false) bits after sys)
  read-code bits rd csr (Some c) x f = same-bus _ _ (reads bits rd csr x c f) refl
  read-code bits rd csr None x f = tt

  action-code : (bits : ℕ) (d : Action) (e : Effect) → ActionIs d e → CodeOf (after_action d s) (carried e bits after sys)
  unfolding effect_step
  action-code bits (Puts rd v) e h = subst (λ z. CodeOf (after_action (Puts rd v) s) (carried z bits after sys)) (sym h.2) (λ at width l. refl)
  action-code bits (Jumps rd target) e h = subst (λ z. CodeOf (after_action (Jumps rd target) s) (carried z bits after sys)) (sym h) (jump-code bits (target % instruction_alignment == 0) rd target _ refl)
  action-code bits (Forks d a b negated target) e h = subst (λ z. CodeOf (after_action (Forks d a b negated target) s) (carried z bits after sys)) (sym h.4) (branch-code bits target (target % instruction_alignment == 0) _ _ refl)
  action-code bits (Loads rd a) e h = subst (λ z. CodeOf (load_into s rd a) (carried z bits after sys)) (sym h.2) (load-code bits rd a h.0 h.1)
  action-code bits (Stores a v) e h = subst (λ z. CodeOf (store_from s a v) (carried z bits after sys)) (sym h.5) (store-code bits a v h.0 h.1 h.2)
  action-code bits (Swaps rd csr v) e h = subst (λ z. CodeOf (after_action (Swaps rd csr v) s) (carried z bits after sys)) (sym h.2) (swap-code bits rd csr (is_read_only csr) (csr_of csr) v h.0 refl refl)
  action-code bits (Reads rd csr) e h = subst (λ z. CodeOf (after_action (Reads rd csr) s) (carried z bits after sys)) (sym h.1) (read-code bits rd csr (csr_of csr) h.0 refl)

  next-code : (bits : ℕ) (o : Option Action) (e : Effect) → ActionOf o e → CodeOf (and_then o (λ d. after_action d s)) (carried e bits after sys)
  next-code bits None e h = tt
  next-code bits (Some d) e h = action-code bits d e h

  pub keeps-code : (i : Insn) (ts : List State) → fetch code s.at ≡ Some i → successors_of i s ≡ Some ts → SameCode (hart_step sys)
  keeps-code i ts e q = subst SameCode (sym (fetched i e)) (subst (λ o. CodeOf o (carried (effect_of i sys.hart.pc sys.hart.registers) (word_at sys) after sys)) q (next-code (word_at sys) (action_of i s) _ (action-right i)))
