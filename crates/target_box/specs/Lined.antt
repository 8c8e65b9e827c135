-- A target with the bytes of its trace, as a line to it tells them.
use Rattle.std.specs.Prelude.{ℕ, List, ◌++◌, Option}
use Rattle.core.specs.Option.{option_map}
use Rattle.fe_base.specs.Beats.{Beat}
use Rattle.fe_base.specs.PausePlan.{IsPositive, pause_at}
use Rattle.rv_hart.specs.HartStep.{System}
use Rattle.target_box.specs.TraceLine.{BeatExchange, line_of}
use Rattle.target_box.specs.Turn.{TargetState, IsTarget, next_turn}
use Rattle.target_box.specs.declared.target.Link.TheVariants.{Direct}

-- a target, and the bytes of the trace where its sink tells them
pub record Lined : Type 0 where
  pub target : TargetState
  pub trace : Option (List ℕ)

abbrev pub lined : TargetState → Option (List ℕ) → Lined
lined target trace = record { target = target; trace = trace }

-- the line of a target's next turn
abbrev pub line_text : TargetState → Beat → List ℕ
line_text target ask = line_of (pause_at target.pauses target.turns) (BeatExchange ask (next_turn target ask).1)

-- a transaction whose line is put: the next turn, with its line behind the trace
abbrev pub next_line : Lined → Beat → Lined × ℕ
next_line line ask = (
  lined (next_turn line.target ask).0 (option_map (λ held. held ++ line_text line.target ask) line.trace),
  (next_turn line.target ask).1,
)

-- a transaction whose line is not put: the same turn, and the trace stays
abbrev pub lost_line : Lined → Beat → Lined × ℕ
lost_line line ask = (lined (next_turn line.target ask).0 line.trace, (next_turn line.target ask).1)

-- what is seen of it
abbrev pub seen : Lined → System
seen line = line.target.system

-- a target of the direct link
abbrev pub IsDirectLine : Lined → Type 0
IsDirectLine line = IsTarget Direct line.target

-- before each of its turns there is a hart step
abbrev pub IsPositiveLine : Lined → Type 0
IsPositiveLine line = IsPositive line.target.pauses
