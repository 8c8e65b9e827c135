-- What is done over a target behind a line is done over what is seen of it.
use Rattle.std.specs.Prelude.{◌≡◌, ◌≤◌, ℕ, List, Result}
use Rattle.folder_tree.specs.Tree.{Tree}
use Rattle.host_text.specs.Played.{At, at, Played}
use Rattle.htif_mailbox.specs.Turns.{Mail}
use Rattle.htif_mailbox.specs.declared.answers.MailFault.{MailFault}
use Rattle.htif_mailbox.specs.declared.answers.Turned.{Turned}
use Rattle.rv_hart.specs.HartStep.{System}
use Rattle.target_box.specs.Lined.{Lined, seen, IsDirectLine}
use Rattle.tether_base.specs.Tethered.{TetherState}
use Rattle.tether_base.specs.ToldActs.{line_acts, seen_acts}

-- where a run stands, with what is seen of the target in the place of its line
abbrev pub seen_at : {H : Type 0} → At Lined Tree (List ℕ) (List ℕ) H → At System Tree (List ℕ) (List ℕ) H
seen_at s = at (seen s.port) s.folder s.input s.console s.kept

-- a line stays one to a target of the direct link, whose numbers fit, with its limit and its pauses; transactions are
-- only added, and no more than may be
pub record GoesOn (before after : Lined) : Type 0 where
  pub valid : IsDirectLine after
  pub limit : after.target.limit ≡ before.target.limit
  pub pauses : after.target.pauses ≡ before.target.pauses
  pub later : before.target.turns ≤ after.target.turns
  pub within : before.target.turns ≤ before.target.limit → after.target.turns ≤ after.target.limit

-- A text that was followed over a line was followed over what is seen of its target; and the line goes on.
abbrev pub LinesAreSeen : Type 0
LinesAreSeen =
    (t : Mail) (s s' : TetherState) (r : Result Turned MailFault) → IsDirectLine s.port → Played line_acts t s r s'
    → GoesOn s.port s'.port × Played seen_acts t (seen_at s) r (seen_at s')
