-- The laws of a step and of the host's writes, as the crates above use them.
use Rattle.std.proofs.Common.{◌≡◌, refl, sym, subst}
use Rattle.rv_hart.specs.HartStep.{System, AreRegisters, hart_step}
use Rattle.rv_hart.specs.Laws.{IsSystem}
use Rattle.rv_hart.proofs.RangeLaws.{steps_keep_range}
use Rattle.kernel_sim.specs.declared.phase.PhaseKind.{PhaseKind}
use Rattle.kernel_sim.specs.declared.phase.PhaseKind.TheVariants.{Boot, BootWait, Fill, Wait, Local}
use Rattle.kernel_sim.specs.declared.phase.Phase.{Phase}
use Rattle.kernel_sim.specs.Phases.{next_phase}
use Rattle.kernel_sim.specs.Stages.{Place, Known}
use Rattle.kernel_sim.specs.Rows.{SetRow}
use Rattle.kernel_sim.proofs.BreakLaws.{LocalBreak, local-break}
use Rattle.kernel_sim.specs.Holds.{Holds}
use Rattle.kernel_sim.proofs.Told.{Told}
use Rattle.kernel_sim.specs.Advance.{Posted, Advances, StepsAdvance, HostWritesHold}
use Rattle.kernel_sim.proofs.MailAll.{advance_law}
use Rattle.kernel_sim.proofs.RowLaws.{holds-known}
use Rattle.kernel_sim.proofs.StateLaws.{told_law}
use Rattle.kernel_sim.proofs.MailboxLaws.{mailbox_law}
use Rattle.kernel_sim.proofs.SpokenLaws.{stores_law}
use Rattle.kernel_sim.proofs.CauseLaws.{trap-after}
use Rattle.kernel_sim.proofs.KeptLaws.{user_kept_law, block_kept_law}
use Rattle.kernel_sim.proofs.HostLaws.{host_law}
use Rattle.kernel_sim.proofs.ChangeLaws.{user-changes, text-changes, scanned-changes, waits-law, code-kept, steps-counted}

posted-told : (was now : PhaseKind) (p : Phase) (old new : System) → Told was now p old new → Posted was now p old new
posted-told Boot BootWait p old new t = (t.0, t.1)
posted-told Fill Wait p old new t = t
posted-told was now p old new t = tt

pub place-of : (p : Phase) (sys : System) → Known p sys → Place p.kind p sys
unfolding Known
place-of p sys h = h.0.place

local-break-of : (p : Phase) (sys : System) → AreRegisters sys.hart.registers → (k : PhaseKind) → Place k p sys → SetRow k p sys → k ≡ Local → LocalBreak p sys (hart_step sys)
local-break-of p sys fit Local i s e = local-break p sys fit i s.0.break_is
local-break-of p sys fit k i s e = cc

pub steps_advance : StepsAdvance
steps_advance p sys h s =
    let n = steps_keep_range sys s in
    let fit = s.hart_fits.registers_fit in
    let q = next_phase p (hart_step sys) in
    let t = told_law p q sys (hart_step sys) h.known s.bus_fits s.hart_fits refl n.bus_fits n.hart_fits refl in
    let m = mailbox_law p sys (hart_step sys) h.known s.bus_fits fit refl in
    let place = place-of p sys h.known in
    let held = holds-known q (hart_step sys) (advance_law p sys h.known s.bus_fits s.hart_fits n.bus_fits n.hart_fits) in
    let text = text-changes p.kind q.kind p sys (hart_step sys) t.0 t.1 in
    let stored = stores_law p q sys (hart_step sys) h.known s.bus_fits s.hart_fits refl n.bus_fits n.hart_fits refl in (
      held,
      record {
        order = t.0;
        user = user-changes p.kind q.kind p sys (hart_step sys) t.0 t.1 h.every.request_is m (local-break-of p sys fit p.kind place h.set);
        text = text;
        scanned = scanned-changes p.kind q.kind p sys (hart_step sys).hart.pc t.0 place;
        posted = posted-told p.kind q.kind p sys (hart_step sys) t.1;
        stores = stored;
        mailbox = m;
        waits = waits-law p.kind q.kind p q sys (hart_step sys) t.0 t.1 refl text stored held.row;
        trap = trap-after p sys fit s.hart_fits.csrs_fit p.kind q.kind place t.0 t.0 t.1;
        user_bytes = user_kept_law p sys q.kind h.known fit t.0 t.1;
        boot_block = block_kept_law p sys (hart_step sys) h.known fit refl;
        code = code-kept p sys fit p.kind place;
        counted = steps-counted p sys fit p.kind place;
      },
    )

-- the same of a step that was made and a phase that was computed
pub made : (p q : Phase) (sys new : System) → Holds p sys → IsSystem sys → new ≡ hart_step sys → q ≡ next_phase p new → Holds q new × Advances p sys new q
made p q sys new h s e f =
    subst (λ z. Holds z new × Advances p sys new z) (sym f)
    (subst (λ z. Holds (next_phase p z) z × Advances p sys z (next_phase p z)) (sym e) (steps_advance p sys h s))

pub host_writes_hold : HostWritesHold
host_writes_hold p sys at value fits whole w h = holds-known _ _ (host_law p sys at value fits whole w h.known)
