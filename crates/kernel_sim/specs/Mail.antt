-- What the mailbox holds in each phase.
use Rattle.std.specs.Prelude.{◌≡◌, ◌≢◌, ℕ}
use Rattle.kernel_sim.specs.declared.phase.PhaseKind.{PhaseKind}
use Rattle.kernel_sim.specs.declared.phase.PhaseKind.TheVariants.{Boot, BootWait, BootTake, Leave, User, Save, Check}
use Rattle.kernel_sim.specs.declared.phase.PhaseKind.TheVariants.{Scan, Fill, Wait, Take, Local, Restore, Speak}
use Rattle.kernel_sim.specs.declared.phase.PhaseKind.TheVariants.{Closing}

-- nothing is asked and nothing answered; a request waits for its answer; it was answered; a message is put
pub data MailClass : Type 0 where
  Quiet : MailClass
  Asked : MailClass
  Given : MailClass
  Spoken : MailClass

-- the class of a kind
abbrev pub mail_class : PhaseKind → MailClass
mail_class BootWait = Asked
mail_class Wait = Asked
mail_class BootTake = Given
mail_class Take = Given
mail_class Speak = Spoken
mail_class Closing = Spoken
mail_class Boot = Quiet
mail_class Leave = Quiet
mail_class User = Quiet
mail_class Save = Quiet
mail_class Check = Quiet
mail_class Scan = Quiet
mail_class Fill = Quiet
mail_class Local = Quiet
mail_class Restore = Quiet

-- by what TOHOST and FROMHOST hold
abbrev pub MailIs : MailClass → ℕ → ℕ → Type 0
MailIs Quiet tohost fromhost = (tohost ≡ 0) × (fromhost ≡ 0)
MailIs Asked tohost fromhost = fromhost ≢ 0 → tohost ≡ 0
MailIs Given tohost fromhost = tohost ≡ 0
MailIs Spoken tohost fromhost = fromhost ≡ 0
