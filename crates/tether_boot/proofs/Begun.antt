-- The first step of the hart over what was loaded.
use Rattle.std.proofs.Common.{◌≡◌, ◌≢◌, ℕ, [], false, refl, sym, subst, arith}
use Rattle.fe_base.specs.MemoryMap.{fromhost, tohost}
use Rattle.guest_memory.specs.Bus.{BusState, IsBus}
use Rattle.guest_memory.specs.Memory.{zeros}
use Rattle.kernel_sim.proofs.LoadLaws.{reset_begins}
use Rattle.kernel_sim.proofs.RowLaws.{begin_holds_known}
use Rattle.kernel_sim.specs.Begins.{begun_hart}
use Rattle.kernel_sim.specs.Holds.{Holds}
use Rattle.kernel_sim.specs.Phases.{dword, request_of}
use Rattle.kernel_sim.specs.declared.phase.Phase.{Phase}
use Rattle.kernel_sim.specs.declared.phase.PhaseKind.TheVariants.{Boot}
use Rattle.plain_machine.specs.Starts.{first_world}
use Rattle.rv_hart.proofs.RegisterLemmas.{AreRegisters-zeros}
use Rattle.rv_hart.specs.HartStep.{IsHart, System, hart_step, over, reset_hart}
use Rattle.rv_hart.specs.Laws.{IsSystem}
use Rattle.tether_boot.proofs.Images.{images_stand}
use Rattle.tether_boot.specs.Booting.{BehindBoot, HartBegins, started_bus}

-- the numbers of the hart that begins fit
begun-fits : IsHart begun_hart
begun-fits = record {
  pc_fits = omega arith;
  registers_fit = AreRegisters-zeros;
  csrs_fit = record {
    mtvec_fits = omega arith;
    mtvec_aligned = refl;
    mscratch_fits = omega arith;
    mepc_fits = omega arith;
    mepc_aligned = refl;
    mcause_fits = omega arith;
    mtval_fits = omega arith;
    pmp0_fits = record { end_fits = omega arith; end_aligned = refl; write_reads = refl };
    pmp1_fits = record { end_fits = omega arith; end_aligned = refl; write_reads = refl };
  };
  user_steps_fit = omega arith;
}

-- the phase in which it is
abbrev first_phase : BusState → Phase
first_phase bus = record {
  kind = Boot;
  user = record { pc = 0; regs = zeros 32; brk = 0; first_break = 0 };
  tohost = dword bus tohost;
  fromhost = dword bus fromhost;
  request = request_of bus;
  scanned = 0;
  text = record { counter = false; cause = 0; at = 0; value = 0; posted = 0 };
}

pub hart_begins : HartBegins
hart_begins kernel c book is_kernel fit whole noted silent =
    let bus : BusState = started_bus kernel c.image 1 in
    let images = images_stand kernel c.image 1 is_kernel fit in
    let fits : IsBus bus = record {
      user_length = whole.user_length;
      kernel_length = whole.kernel_length;
      user_bytes = whole.user_bytes;
      kernel_bytes = whole.kernel_bytes;
      start_bits = omega arith;
    } in
    let some : bus.start ≢ 0 = λ e. (let no : ◌≡◌ {A = ℕ} 1 0 = e in cc) in
    let step : hart_step (over bus reset_hart) ≡ over bus begun_hart = reset_begins bus some in
    let p : Phase = first_phase bus in
    let P : System → Type 0 =
    λ z. (q : Phase) × (q.kind ≡ Boot) × Holds q z × IsSystem z
    × BehindBoot c (first_world c.contents) book [] Boot q z in
    subst P (sym step) (
      p,
      refl,
      begin_holds_known p bus fits images.kernel_is
          (record { kind = refl; tohost = refl; fromhost = refl; request = refl }),
      record { hart_fits = begun-fits; bus_fits = fits },
      (
        refl,
        record {
          world_is = refl;
          unbegun = record { in_machine = refl; no_steps = refl; noted = noted; silent = silent };
          names = images.names;
        },
        images.user_is,
      ),
    )
