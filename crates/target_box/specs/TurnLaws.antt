-- The laws of turns and of traces. A reader need not believe them: each is proved.
use Rattle.std.specs.Prelude.{◌≡◌, ◌≤◌, ◌+◌, ◌*◌, ℕ, List, [], ◌∷◌, ◌++◌, length, All, Option, Some}
use Rattle.core.specs.Option.{option_map}
use Rattle.fe_base.specs.Beats.{Beat, IsBeat}
use Rattle.fe_base.specs.Limits.{pause_limit}
use Rattle.fe_base.specs.PausePlan.{PausePlan}
use Rattle.rv_hart.specs.declared.debug.Run.TheVariants.{Held}
use Rattle.target_box.specs.Lined.{Lined, lined, next_line, lost_line}
use Rattle.target_box.specs.Trace.{Entry, IsLegal, trace_text}
use Rattle.target_box.specs.Turn.{TargetState, IsTarget, reset_target, next_turn, beat_done, beat_reply}
use Rattle.target_box.specs.declared.target.Link.{Link}
use Rattle.target_box.specs.declared.target.Link.TheVariants.{Direct}

-- while the start word is 0 and the hart is held, a turn changes nothing but the doubleword that its beat writes,
-- whatever its pause
abbrev pub HeldTurnsOnlyWrite : Type 0
HeldTurnsOnlyWrite =
    (target : TargetState) (ask : Beat) → target.system.hart.run ≡ Held → target.system.bus.start ≡ 0 →
    next_turn target ask ≡ (
      record target { system = beat_done ask target.system; turns = target.turns + 1 },
      beat_reply ask target.system,
    )

-- a turn keeps limit, pauses and link, is counted, and makes at most a longest pause of user steps
pub record TurnKeeps (before after : TargetState) : Type 0 where
  pub limit : after.limit ≡ before.limit
  pub pauses : after.pauses ≡ before.pauses
  pub link : after.link ≡ before.link
  pub turns : after.turns ≡ before.turns + 1
  pub user_steps : after.system.hart.user_steps ≤ before.system.hart.user_steps + pause_limit

abbrev pub TurnsKeep : Type 0
TurnsKeep = (link : Link) (target : TargetState) (ask : Beat) → IsTarget link target
    → TurnKeeps target (next_turn target ask).0

-- a line's transactions one after the other
abbrev pub all_lines : List Beat → Lined → Lined
all_lines [] line = line
all_lines (ask ∷ more) line = all_lines more (next_line line ask).0

-- the trace of some transactions: one entry for each, legal, and its text stands behind what the sink held before
pub record IsTraced (pauses : PausePlan) (limit count : ℕ) (held : List ℕ) (put : Option (List ℕ)) (last : TargetState)
    : Type 0 where
  pub entries : List Entry
  pub legal : IsLegal (reset_target pauses limit Direct) entries last
  pub one_each : length entries ≡ count
  pub text : put ≡ Some (held ++ trace_text entries)

-- transactions from the reset target make a legal trace, and put its text behind what the sink held before
abbrev pub LinesAreTraced : Type 0
LinesAreTraced =
    (pauses : PausePlan) (limit : ℕ) (held : List ℕ) (asks : List Beat) → All IsBeat asks →
    IsTraced pauses limit (length asks) held
    (all_lines asks (lined (reset_target pauses limit Direct) (Some held))).trace
    (all_lines asks (lined (reset_target pauses limit Direct) (Some held))).target

-- where the last one's line is not put, the target is that of the legal trace with it, and the text that of the trace
-- without it
pub record IsCutTrace (pauses : PausePlan) (limit count : ℕ) (held : List ℕ) (put : Option (List ℕ))
    (last : TargetState) : Type 0 where
  pub entries : List Entry
  pub unput : Entry
  pub legal : IsLegal (reset_target pauses limit Direct) (entries ++ unput ∷ []) last
  pub one_each : length entries ≡ count
  pub text : put ≡ Some (held ++ trace_text entries)

abbrev pub LostLinesAreCut : Type 0
LostLinesAreCut =
    (pauses : PausePlan) (limit : ℕ) (held : List ℕ) (asks : List Beat) (last : Beat) → All IsBeat asks → IsBeat last →
    IsCutTrace pauses limit (length asks) held
    (lost_line (all_lines asks (lined (reset_target pauses limit Direct) (Some held))) last).0.trace
    (lost_line (all_lines asks (lined (reset_target pauses limit Direct) (Some held))) last).0.target

-- so many transactions led a line from one state to another: an entry for each, legal, and their text stands behind what
-- the sink held before
pub record AreLines (count : ℕ) (before after : Lined) : Type 0 where
  pub entries : List Entry
  pub legal : IsLegal before.target entries after.target
  pub one_each : length entries ≡ count
  pub text : after.trace ≡ option_map (λ held. held ++ trace_text entries) before.trace

-- so many did and one more, whose line was not put
pub record AreCutLines (count : ℕ) (before after : Lined) : Type 0 where
  pub entries : List Entry
  pub unput : Entry
  pub legal : IsLegal before.target (entries ++ unput ∷ []) after.target
  pub one_each : length entries ≡ count
  pub text : after.trace ≡ option_map (λ held. held ++ trace_text entries) before.trace

-- so many turns keep limit, pauses and link, are counted, and make at most so many longest pauses of user steps
pub record TurnsKept (count : ℕ) (before after : TargetState) : Type 0 where
  pub limit : after.limit ≡ before.limit
  pub pauses : after.pauses ≡ before.pauses
  pub link : after.link ≡ before.link
  pub turns : after.turns ≡ before.turns + count
  pub user_steps : after.system.hart.user_steps ≤ before.system.hart.user_steps + pause_limit * count

-- one list of lines, from any state: none, one, those of a list, and those of one run behind those of another. From the
-- reset target it is the list of a legal trace
pub record LinesJoin : Type 0 where
  pub none : (line : Lined) → AreLines 0 line line
  pub one : (line : Lined) (ask : Beat) → line.target.link ≡ Direct → IsBeat ask
      → AreLines 1 line (next_line line ask).0
  pub one_lost : (line : Lined) (ask : Beat) → line.target.link ≡ Direct → IsBeat ask
      → AreCutLines 0 line (lost_line line ask).0
  pub all : (line : Lined) (asks : List Beat) → line.target.link ≡ Direct → All IsBeat asks
      → AreLines (length asks) line (all_lines asks line)
  pub joined : (m n : ℕ) (a b c : Lined) → AreLines m a b → AreLines n b c → AreLines (m + n) a c
  pub joined_lost : (m n : ℕ) (a b c : Lined) → AreLines m a b → AreCutLines n b c → AreCutLines (m + n) a c
  pub keep : (n : ℕ) (a b : Lined) → IsTarget Direct a.target → AreLines n a b → IsTarget Direct b.target
      × TurnsKept n a.target b.target
  pub keep_lost : (n : ℕ) (a b : Lined) → IsTarget Direct a.target → AreCutLines n a b → IsTarget Direct b.target
      × TurnsKept (n + 1) a.target b.target
  pub from_reset : (pauses : PausePlan) (limit n : ℕ) (held : List ℕ) (last : Lined) →
      AreLines n (lined (reset_target pauses limit Direct) (Some held)) last
      → IsTraced pauses limit n held last.trace last.target
  pub from_reset_lost : (pauses : PausePlan) (limit n : ℕ) (held : List ℕ) (last : Lined) →
      AreCutLines n (lined (reset_target pauses limit Direct) (Some held)) last
      → IsCutTrace pauses limit n held last.trace last.target
