-- A waiting hart stays so, by the law of the kernel's steps; and the user area may be written, by that of the host's
-- writes.
use Rattle.std.proofs.Common.{◌≡◌, ◌≢◌, ◌≤◌, ◌+◌, ◌-◌, ◌%◌, ℕ, zero, suc, List, sym, ap, subst, ◌∙◌}
use Rattle.std.proofs.Common.{arith}
use Rattle.fe_base.specs.MemoryMap.{user_start, user_end, tohost, fromhost, request, start_word}
use Rattle.guest_memory.proofs.AreaLemmas.{is_ram-user, bus_store-user, IsBus-with_beat}
use Rattle.guest_memory.proofs.BusLemmas.{is_beat-ram, with_beat-ram}
use Rattle.guest_memory.specs.Bus.{BusState, with_beat}
use Rattle.guest_memory.specs.Memory.{store}
use Rattle.kernel_sim.specs.Advance.{StepsAdvance, HostWritesHold}
use Rattle.kernel_sim.specs.Changes.{UserAfter, StepsCounted, Waits}
use Rattle.kernel_sim.specs.Holds.{Holds}
use Rattle.kernel_sim.specs.HostWrites.{Fills, written}
use Rattle.kernel_sim.specs.Kept.{UserKept}
use Rattle.kernel_sim.specs.Mail.{mail_class, Asked}
use Rattle.kernel_sim.specs.Mailbox.{MailboxKept}
use Rattle.kernel_sim.specs.Phases.{next_phase}
use Rattle.kernel_sim.specs.declared.phase.Phase.{Phase}
use Rattle.kernel_sim.specs.declared.phase.PhaseKind.{PhaseKind}
use Rattle.kernel_sim.specs.declared.phase.PhaseKind.TheVariants.{Wait}
use Rattle.rv_hart.proofs.RangeLaws.{steps_keep_range}
use Rattle.rv_hart.specs.HartStep.{System, over, hart_step}
use Rattle.rv_hart.specs.Walks.{hart_after}
use Rattle.target_box.specs.Turn.{ran}
use Rattle.tether_base.specs.Waiting.{CallState, Waiting, StaysWaiting, TakesUserWrites}

-- what a step between two kinds says, where both are known
by-kinds : (P : PhaseKind → PhaseKind → Type 0) (k j a b : PhaseKind) → k ≡ a → j ≡ b → P k j → P a b
by-kinds P k j a b e f h = subst (λ z. P a z) f (subst (λ z. P z j) e h)

module _ (advance : StepsAdvance) where
  pub stays_waiting : StaysWaiting
  stays_waiting c user sys w =
      let p = w.phase in
      let new = hart_step sys in
      let q = next_phase p new in
      let step = advance p sys w.holds w.fits in
      let a = step.1 in
      let wait : q.kind ≡ Wait = subst (λ k. Waits k p q) w.kind a.waits w.unanswered in
      let mail = by-kinds (λ k j. MailboxKept k j sys.bus new.bus) p.kind q.kind Wait Wait w.kind wait a.mailbox in
      record {
        phase = q;
        holds = step.0;
        kind = wait;
        tohost_is = mail.0 ∙ sym w.holds.every.tohost_is ∙ w.tohost_is;
        unanswered = mail.1 ∙ sym w.holds.every.fromhost_is ∙ w.unanswered;
        program_is = by-kinds (λ k j. UserAfter k j p sys new q.user) p.kind q.kind Wait Wait w.kind wait a.user
            ∙ w.program_is;
        request_is = mail.2 ∙ sym w.holds.every.request_is ∙ w.request_is;
        user_is = by-kinds (λ k j. UserKept k j sys.bus new.bus) p.kind q.kind Wait Wait w.kind wait a.user_bytes
            ∙ w.user_is;
        steps_are = subst (λ k. StepsCounted k sys.hart new.hart) w.kind a.counted ∙ w.steps_are;
        fits = steps_keep_range sys w.fits;
      }

  -- so it does over any number of them
  waits-on : (n : ℕ) (c : CallState) (user : List ℕ) (sys : System) → Waiting c user sys
      → Waiting c user (hart_after n sys)
  unfolding hart_after
  waits-on zero c user sys w = w
  waits-on (suc n) c user sys w = stays_waiting c user (hart_after n sys) (waits-on n c user sys w)

  pub stays-ran : (c : CallState) (user : List ℕ) (sys now : System) (n : ℕ) → Waiting c user sys → ran sys n now
      → Waiting c user now
  stays-ran c user sys now n w r = subst (λ z. Waiting c user z) (sym r) (waits-on n c user sys w)

-- a write to the user area changes no word of the mailbox
unwritten : (at value : ℕ) (p : Phase) → at + 8 ≤ user_end → written at value p ≡ p
unwritten at value p high =
    let a : at ≢ tohost = λ e. omega arith in
    let b : at ≢ fromhost = λ e. omega arith in
    let d : at ≢ request = λ e. omega arith in
    grind (arith, Rattle.std.proofs.lemmas.Bool.Decides.nat_tests)

-- the bus behind a write to the user area
pub put-user : (bus : BusState) (at value : ℕ) → at % 8 ≡ 0 → user_start ≤ at → at + 8 ≤ user_end
    → with_beat bus at value ≡ (record bus { user = store bus.user (at - user_start) 8 value })
put-user bus at value even low high =
    let other : at ≢ start_word = λ e. omega arith in
    with_beat-ram bus at value other (is_beat-ram at even (is_ram-user at 8 low high))
    ∙ bus_store-user bus at 8 value (omega arith)

module _ (writes : HostWritesHold) where
  pub takes_user_writes : TakesUserWrites
  takes_user_writes c user sys at value even low high small w =
      let p = w.phase in
      let now : System = over (with_beat sys.bus at value) sys.hart in
      let bus_is = put-user sys.bus at value even low high in
      let asked : mail_class p.kind ≡ Asked = ap mail_class w.kind in
      let held = writes p sys at value small w.fits.bus_fits (Fills low (omega arith) asked) w.holds in
      record {
        phase = p;
        holds = subst (λ (z : Phase). Holds z now) (unwritten at value p high) held;
        kind = w.kind;
        tohost_is = w.tohost_is;
        unanswered = w.unanswered;
        program_is = w.program_is;
        request_is = w.request_is;
        user_is = ap (λ (b : BusState). b.user) bus_is
            ∙ ap (λ (l : List ℕ). store l (at - user_start) 8 value) w.user_is;
        steps_are = w.steps_are;
        fits = record {
          hart_fits = w.fits.hart_fits;
          bus_fits = IsBus-with_beat sys.bus at value small w.fits.bus_fits;
        };
      }
