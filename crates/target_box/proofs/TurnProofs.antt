-- Turns of a held hart, and what each turn keeps.
use Rattle.std.proofs.Common.{◌≡◌, ◌≤◌, ◌+◌, ℕ, zero, suc, refl, sym, ap, subst, ◌∙◌}
use Rattle.std.specs.Prelude.{◌==◌, if◌then◌else◌}
use Rattle.fe_base.specs.Limits.{pause_limit}
use Rattle.fe_base.specs.PausePlan.{pause_at}
use Rattle.rv_hart.specs.HartStep.{System, HartState, hart_step, step_by, over}
use Rattle.rv_hart.specs.declared.debug.Run.{Run}
use Rattle.rv_hart.specs.declared.debug.Run.TheVariants.{Held, Running}
use Rattle.rv_hart.specs.Walks.{hart_after}
use Rattle.target_box.specs.TargetLaws.{paused-count, done-hart}
use Rattle.target_box.specs.Turn.{paused, beat_done, beat_reply}
use Rattle.target_box.specs.TurnLaws.{HeldTurnsOnlyWrite, TurnsKeep}

held-step : (system : System) → system.hart.run ≡ Held → system.bus.start ≡ 0 → hart_step system ≡ system
held-step system held zero_start =
    ap (λ (run : Run). step_by run system) held
    ∙ ap (λ (start : ℕ). if start == 0 then system else over system.bus (record system.hart { run = Running })) zero_start

held-steps : (count : ℕ) (system : System) → system.hart.run ≡ Held → system.bus.start ≡ 0 → hart_after count system ≡ system
unfolding hart_after
held-steps zero system held zero_start = refl
held-steps (suc count) system held zero_start =
    ap hart_step (held-steps count system held zero_start) ∙ held-step system held zero_start

pub held_turns_only_write : HeldTurnsOnlyWrite
held_turns_only_write target ask held zero_start =
    ap (λ (s : System). (record target { system = beat_done ask s; turns = target.turns + 1 }, beat_reply ask s))
    (held-steps (pause_at target.pauses target.turns) target.system held zero_start)

pub turns_keep : TurnsKeep
turns_keep link target ask is =
    record {
      limit = refl;
      pauses = refl;
      link = refl;
      turns = refl;
      user_steps = subst (λ (h : HartState). h.user_steps ≤ target.system.hart.user_steps + pause_limit) (sym (done-hart ask (paused target))) (paused-count link target is);
    }
