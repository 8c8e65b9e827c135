-- What turns keep of a target, and what they leave of its trace. A reader need not believe it: each lemma is proved.
use Rattle.std.proofs.Common.{◌≡◌, ◌≤◌, ◌<◌, ◌+◌, ◌-◌, ◌*◌, ◌^◌, ℕ, Option, List, refl, sym, ap, subst, ◌∙◌, arith}
use Rattle.fe_base.specs.Beats.{Beat, ReadBeat, WriteBeat, IsBeat, BeatTurned, BeatLaw}
use Rattle.fe_base.specs.Limits.{pause_limit}
use Rattle.fe_base.specs.PausePlan.{PausePlan, IsPausePlan, IsPositive, pause_at}
use Rattle.fe_base.proofs.PauseLemmas.{pause_at-le}
use Rattle.guest_memory.specs.Bus.{IsBus}
use Rattle.guest_memory.proofs.AreaLemmas.{IsBus-reset, IsBus-with_beat}
use Rattle.guest_memory.proofs.BeatLemmas.{beat-some, beat-fits}
use Rattle.rv_hart.specs.HartStep.{System, HartState, IsHart, IsUnhalted, reset_hart}
use Rattle.rv_hart.specs.Walks.{hart_after}
use Rattle.target_box.specs.Lined.{Lined, lined, next_line, lost_line, seen, IsDirectLine, IsPositiveLine}
use Rattle.target_box.specs.StepLaws.{IsWhole, steps-whole, steps-count}
use Rattle.target_box.specs.Turn.{TargetState, IsTarget, IsUsable, reset_target, paused, beat_done, beat_reply}
use Rattle.target_box.specs.Turn.{next_turn, ran, touched}
use Rattle.target_box.specs.declared.target.Link.{Link}
use Rattle.target_box.specs.declared.target.Link.TheVariants.{Direct}

-- a target at reset
pub reset_usable : (target : TargetState) (pauses : PausePlan) (limit : ℕ) → target ≡ reset_target pauses limit Direct →
    IsPausePlan pauses → IsHart reset_hart → IsUsable Direct target
reset_usable target pauses limit same plan fits =
    subst (λ (t : TargetState). IsUsable Direct t) (sym same) (record {
      target_is = record {
        link_is = refl;
        unhalted = tt;
        hart_fits = fits;
        bus_fits = IsBus-reset;
        plan = plan;
        few_user_steps = omega arith;
      };
      within = omega arith;
    })

-- the system behind a pause
paused-whole : (link : Link) (target : TargetState) → IsTarget link target → IsWhole (paused target)
paused-whole link target is =
    steps-whole (pause_at target.pauses target.turns) target.system
    (record { unhalted = is.unhalted; hart_fits = is.hart_fits; bus_fits = is.bus_fits })

pub paused-count : (link : Link) (target : TargetState) → IsTarget link target
    → (paused target).hart.user_steps ≤ target.system.hart.user_steps + pause_limit
paused-count link target is =
    omega (
      arith,
      steps-count (pause_at target.pauses target.turns) target.system,
      pause_at-le target.pauses target.turns is.plan,
    )

-- what a beat does keeps the hart
pub done-hart : (ask : Beat) (system : System) → (beat_done ask system).hart ≡ system.hart
done-hart (ReadBeat at) system = refl
done-hart (WriteBeat at value) system = refl

done-bus : (ask : Beat) (system : System) → IsBeat ask → IsBus system.bus → IsBus (beat_done ask system).bus
done-bus (ReadBeat at) system allowed fits = fits
done-bus (WriteBeat at value) system allowed fits = IsBus-with_beat system.bus at value allowed.1 fits

reply-fits : (ask : Beat) (system : System) → IsBus system.bus → beat_reply ask system < 2 ^ 64
reply-fits (ReadBeat at) system fits = beat-fits system.bus at fits
reply-fits (WriteBeat at value) system fits = omega arith

-- the access of a beat
pub done-touched : (ask : Beat) (system : System) → IsBeat ask
    → touched system (Rattle.fe_base.specs.Beats.beat_access ask (beat_reply ask system)) (beat_done ask system)
done-touched (ReadBeat at) system allowed = (refl, beat-some system.bus at allowed)
done-touched (WriteBeat at value) system allowed = refl

-- a turn's target is one
pub turn-target : (link : Link) (target : TargetState) (ask : Beat) → IsTarget link target → IsBeat ask
    → IsTarget link (next_turn target ask).0
turn-target link target ask is allowed =
    let whole = paused-whole link target is in
    let steps = paused-count link target is in
    let same : (beat_done ask (paused target)).hart ≡ (paused target).hart = done-hart ask (paused target) in
    record {
      link_is = is.link_is;
      unhalted = subst (λ (h : HartState). IsUnhalted h.run) (sym same) whole.unhalted;
      hart_fits = subst (λ (h : HartState). IsHart h) (sym same) whole.hart_fits;
      bus_fits = done-bus ask (paused target) allowed whole.bus_fits;
      plan = is.plan;
      few_user_steps = subst (λ (h : HartState). h.user_steps ≤ pause_limit * (target.turns + 1)) (sym same)
          (omega (arith, steps, is.few_user_steps));
    }

-- a transaction of a line is a turn
turned : (target : TargetState) (ask : Beat) → IsTarget Direct target → IsBeat ask
    → (trace : Option (List ℕ)) (line : Lined) → line.target ≡ target →
    BeatTurned IsDirectLine IsPositiveLine seen ran touched line ask (next_turn target ask).1
    (lined (next_turn target ask).0 trace)
turned target ask is allowed trace line same =
    record {
      steps = pause_at target.pauses target.turns;
      between = paused target;
      pause = ap (λ (t : TargetState). hart_after (pause_at target.pauses target.turns) t.system) (sym same);
      access = done-touched ask (paused target) allowed;
      reply_fits = reply-fits ask (paused target) (paused-whole Direct target is).bus_fits;
      still_valid = turn-target Direct target ask is allowed;
      some_step = λ positive. subst (λ (t : TargetState). 0 < pause_at t.pauses target.turns) same
          (positive target.turns);
      still_positive = λ positive. subst (λ (t : TargetState). IsPositive t.pauses) same positive;
    }

pub next-turns : BeatLaw IsDirectLine IsPositiveLine seen ran touched next_line
next-turns line ask is allowed = turned line.target ask is allowed (next_line line ask).0.trace line refl

pub lost-turns : BeatLaw IsDirectLine IsPositiveLine seen ran touched lost_line
lost-turns line ask is allowed = turned line.target ask is allowed line.trace line refl

-- a usable target stays usable over a turn that was left
pub turn_usable : (before after : TargetState) (ask : Beat) (reply : ℕ) → IsUsable Direct before
    → before.turns < before.limit → IsBeat ask →
    next_turn before ask ≡ (after, reply) → IsUsable Direct after
turn_usable before after ask reply usable left allowed same =
    subst (λ (r : TargetState × ℕ). IsUsable Direct r.0) same
    (record { target_is = turn-target Direct before ask usable.target_is allowed; within = omega arith })

-- and has one transaction fewer
pub left_after : (before after : TargetState) (ask : Beat) (reply : ℕ) → next_turn before ask ≡ (after, reply) →
    before.limit - before.turns - 1 ≡ after.limit - after.turns
left_after before after ask reply same =
    let fewer : before.limit - before.turns - 1 ≡ before.limit - (before.turns + 1) = omega arith in
    fewer ∙ ap (λ (r : TargetState × ℕ). r.0.limit - r.0.turns) same
