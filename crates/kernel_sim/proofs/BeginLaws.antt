-- The hart that begins is in Boot.
use Rattle.std.proofs.Common.{◌≡◌, ℕ, zero, suc, ◌+◌, ◌%◌, ◌^◌, ◌<◌, ◌==◌, Bool, true, false, List, [], ◌∷◌, ◌++◌, refl, ap, sym, subst, ◌∙◌, arith, if◌then◌else◌}
use Rattle.std.specs.Prelude.{slice_index}
use Rattle.rv_decode.specs.Alignment.{instruction_alignment}
use Rattle.rv_hart.specs.HartStep.{System, over}
use Rattle.guest_memory.specs.Bus.{BusState, IsBus}
use Rattle.guest_memory.specs.Memory.{load, zeros}
use Rattle.guest_memory.proofs.AreaLemmas.{bus_load-kernel}
use Rattle.kernel_sim.specs.declared.phase.PhaseKind.TheVariants.{Boot}
use Rattle.kernel_sim.specs.declared.phase.Phase.{Phase}
use Rattle.kernel_steps.specs.States.{State, Describes}
use Rattle.kernel_steps.specs.Terms.{Term, Lit, Var, Unknown, AllIs, CellsAre}
use Rattle.kernel_code.specs.Kernel.{kernel, blocks}
use Rattle.proxy_kernel.specs.KernelWords.{kernel_insns}
use Rattle.kernel_code.specs.Calls.{call_blocks}
use Rattle.kernel_code.specs.TrapWords.{trap_blocks}
use Rattle.kernel_code.specs.CounterWords.{counter_blocks}
use Rattle.kernel_code.specs.Shorthand.{cells_0, cells_1, cells_2, cells_3, cells_4, cells_5, cells_6, cells_7, cells_8, cells_9, csrs_0, csrs_1, csrs_2}
use Rattle.kernel_sim.specs.Phases.{dword, request_of}
use Rattle.kernel_sim.specs.Begins.{begun_hart, IsLoaded}
use Rattle.kernel_sim.specs.Stages.{Booting, Known}
use Rattle.kernel_sim.proofs.Gates.{lands, landed}
use Rattle.kernel_sim.proofs.TrapLaws.{anys, cells-after}
use Rattle.kernel_sim.proofs.PathLaws.{eight-fits}
use Rattle.kernel_sim.proofs.HostLaws.{long_is}
use Rattle.kernel_code.specs.Numbers.{v_entry, v_first_break, booting_blocks, v_cause, v_pc}
use Rattle.fe_base.specs.MemoryMap.{kernel_start, kernel_code_size, tohost, fromhost, request, boot}
use Rattle.kernel_code.specs.Places.{entry_place, first_break_place, tohost_place, fromhost_place, request_place}

abbrev lits : ℕ → List Term
lits zero = []
lits (suc n) = Lit 0 ∷ lits n

lits-are : (env : ℕ → ℕ) (n : ℕ) → AllIs env (lits n) (zeros n)
unfolding zeros
lits-are env zero = tt
lits-are env (suc n) = (refl, lits-are env n)

-- the boot block, from boot on, and what stands before it
abbrev boot_words : List Term
boot_words = Var v_entry ∷ Var v_first_break ∷ Unknown ∷ []

abbrev after_request : List Term
after_request = anys 40 ++ boot_words

abbrev after_fromhost : List Term
after_fromhost = anys 7 ++ (Lit 0 ∷ Lit 0 ∷ Lit 0 ∷ Lit 0 ∷ Lit 0 ∷ Lit 0 ∷ Lit 0 ∷ Lit 0 ∷ after_request)

abbrev after_tohost : List Term
after_tohost = anys 7 ++ (Lit 0 ∷ after_fromhost)

abbrev at_begin : State
at_begin = record {
  at = kernel_start;
  regs = lits 32;
  csrs = record { scratch = Unknown; epc = Unknown; cause = Unknown; tval = Unknown; tvec = Unknown; pmp = begun_hart.csrs.pmp };
  cells = Lit 0 ∷ after_tohost;
  facts = [];
}

begin_lands : lands booting_blocks at_begin ≡ true
unfolding kernel kernel_insns blocks call_blocks trap_blocks counter_blocks cells_0 cells_1 cells_2 cells_3 cells_4 cells_5 cells_6 cells_7 cells_8 cells_9 csrs_0 csrs_1 csrs_2
begin_lands = refl

-- the entry and the first break
abbrev begin_env : BusState → (ℕ → ℕ)
begin_env bus = λ n. if n == v_entry then load bus.kernel entry_place 8 else (if n == v_first_break then load bus.kernel first_break_place 8 else 0)

if-small : (b : Bool) (x y : ℕ) → x < 2 ^ 64 → y < 2 ^ 64 → (if b then x else y) < 2 ^ 64
if-small true x y p q = p
if-small false x y p q = q

module _ (bus : BusState) (whole : IsBus bus) (l : IsLoaded bus) where
  abbrev env : ℕ → ℕ
  env = begin_env bus

  word : (at b v : ℕ) → at ≡ kernel_start + b → dword bus at ≡ v → load bus.kernel b 8 ≡ v
  word at b v e q = subst (λ z. load bus.kernel z 8 ≡ v) (omega arith) (sym (bus_load-kernel bus at 8 (omega arith)) ∙ q)

  requested : (n : ℕ) → slice_index (request_of bus) n ≡ slice_index (0 ∷ 0 ∷ 0 ∷ 0 ∷ 0 ∷ 0 ∷ 0 ∷ 0 ∷ []) n
  requested n = ap (λ z. slice_index z n) l.request

  cells : CellsAre env at_begin.cells bus.kernel kernel_code_size
  cells = (
    word tohost tohost_place 0 refl l.tohost,
    cells-after env 7 (Lit 0 ∷ after_fromhost) bus.kernel (tohost_place + 8) fromhost_place refl (
      word fromhost fromhost_place 0 refl l.fromhost,
      cells-after env 7 (Lit 0 ∷ Lit 0 ∷ Lit 0 ∷ Lit 0 ∷ Lit 0 ∷ Lit 0 ∷ Lit 0 ∷ Lit 0 ∷ after_request) bus.kernel (fromhost_place + 8) request_place refl (
        word request request_place 0 refl (requested 0),
        (
          word (request + 8) (request_place + 8) 0 refl (requested 1),
          (
            word (request + 16) (request_place + 16) 0 refl (requested 2),
            (
              word (request + 24) (request_place + 24) 0 refl (requested 3),
              (
                word (request + 32) (request_place + 32) 0 refl (requested 4),
                (
                  word (request + 40) (request_place + 40) 0 refl (requested 5),
                  (
                    word (request + 48) (request_place + 48) 0 refl (requested 6),
                    (
                      word (request + 56) (request_place + 56) 0 refl (requested 7),
                      cells-after env v_cause boot_words bus.kernel (request_place + 64) entry_place refl (refl, (refl, (tt, tt))),
                    ),
                  ),
                ),
              ),
            ),
          ),
        ),
      ),
    ),
  )

  abbrev sys : System
  sys = over bus begun_hart

  describes : Describes kernel bus.user env at_begin sys
  describes = record {
    run = refl;
    mode = refl;
    at = refl;
    regs = lits-are env v_pc;
    csrs = record { scratch = tt; epc = tt; cause = tt; tval = tt; tvec = tt; mpp = refl; pmp = refl };
    memory = record { cells_are = cells; long = long_is sys whole; user_is = refl; code_is = l.code };
    facts = tt;
    small = λ n. if-small (n == v_entry) _ _ (eight-fits bus.kernel entry_place whole.kernel_bytes) (if-small (n == v_first_break) _ _ (eight-fits bus.kernel first_break_place whole.kernel_bytes) (omega arith));
  }

  entry_even : load bus.kernel entry_place 8 % instruction_alignment ≡ 0
  entry_even = subst (λ z. z % instruction_alignment ≡ 0) (bus_load-kernel bus boot 8 (omega arith)) l.entry

  pub begin_holds : (p : Phase) → p.kind ≡ Boot → p.tohost ≡ dword bus tohost → p.fromhost ≡ dword bus fromhost → p.request ≡ request_of bus → Known p sys
  unfolding Known
  begin_holds p k t f r = rw k (
    record {
      tohost_is = t;
      fromhost_is = f;
      request_is = r;
      place = record { user = bus.user; env = env; stage = Booting; staged = refl; here = landed bus.user env booting_blocks at_begin sys begin_lands describes; break_is = tt; seen = tt; entry_even = entry_even };
    },
    (t ∙ l.tohost, f ∙ l.fromhost),
    tt,
    tt,
  )

pub begun : (p : Phase) (sys : System) → sys.hart ≡ begun_hart → IsBus sys.bus → IsLoaded sys.bus → p.kind ≡ Boot → p.tohost ≡ dword sys.bus tohost → p.fromhost ≡ dword sys.bus fromhost → p.request ≡ request_of sys.bus → Known p sys
begun p sys e whole l k t f r = subst (λ z. Known p (over sys.bus z)) (sym e) (begin_holds sys.bus whole l p k t f r)
