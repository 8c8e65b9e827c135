-- Legal traces: what a target's transactions ask, and what they are replied.
use Rattle.std.specs.Prelude.{◌≡◌, ℕ, List, [], ◌∷◌, ◌++◌}
use Rattle.fe_base.specs.Beats.{IsBeat}
use Rattle.fe_base.specs.PausePlan.{pause_at}
use Rattle.target_box.specs.TraceLine.{Exchange, BeatExchange, line_of}
use Rattle.target_box.specs.Turn.{TargetState, next_turn}
use Rattle.target_box.specs.declared.target.Link.TheVariants.{Direct}

-- a transaction with the pause before it
pub record Entry : Type 0 where
  pub pause : ℕ
  pub exchange : Exchange

-- the next turn of a target is this exchange, which its link can carry
abbrev pub IsTurn : TargetState → Exchange → TargetState → Type 0
IsTurn before (BeatExchange ask reply) after =
    (before.link ≡ Direct) × IsBeat ask × (next_turn before ask ≡ (after, reply))

-- the entries are a target's next turns one after the other, each with its pause, and lead to this last state
abbrev pub IsLegal : TargetState → List Entry → TargetState → Type 0
IsLegal target [] last = last ≡ target
IsLegal target (entry ∷ more) last =
    (after : TargetState) × (entry.pause ≡ pause_at target.pauses target.turns) × IsTurn target entry.exchange after
    × IsLegal after more last

-- the text of a trace: the line of each entry in order
abbrev pub trace_text : List Entry → List ℕ
trace_text [] = []
trace_text (entry ∷ more) = line_of entry.pause entry.exchange ++ trace_text more
