-- The line that a trace has for a transaction.
use Rattle.std.specs.Prelude.{ℕ, List, ◌++◌, codes, decimal}
use Rattle.fe_base.specs.Beats.{Beat, ReadBeat, WriteBeat}
use Rattle.fe_base.specs.Digits.{hexadecimal}

-- what a transaction asked, and what was replied
pub data Exchange : Type 0 where
  BeatExchange : (ask : Beat) (reply : ℕ) → Exchange

-- a line of a beat: its pause in decimal, r or w, and address and value in hexadecimal
abbrev pub beat_text : ℕ → List ℕ → ℕ → ℕ → List ℕ
beat_text pause kind at value =
    codes "b " ++ (decimal pause ++ (kind ++ (hexadecimal 16 at ++ (codes " " ++ (hexadecimal 16 value ++ codes "\n")))))

-- the line of an exchange, with the pause before it
abbrev pub line_of : ℕ → Exchange → List ℕ
line_of pause (BeatExchange (ReadBeat at) reply) = beat_text pause (codes " r ") at reply
line_of pause (BeatExchange (WriteBeat at value) reply) = beat_text pause (codes " w ") at value
