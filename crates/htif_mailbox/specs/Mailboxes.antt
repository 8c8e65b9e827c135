-- A mailbox as its callers see it.
use Rattle.std.specs.Prelude.{ℕ, false, List, []}
use Rattle.host_text.specs.declared.open_numbers.Open.{Open}
use Rattle.syscall_proxy.specs.Kept.{HostState, Kept, Setting, kept}

-- what its host was made with, what is kept from turn to turn, and where its two words stand
pub record MailState : Type 0 where
  pub given : Setting
  pub kept : Kept
  pub tohost : ℕ
  pub fromhost : ℕ

-- a mailbox of this host in which nothing waits
abbrev pub first_state : HostState → ℕ → ℕ → MailState
first_state host tohost fromhost =
    record { given = host.given; kept = kept host.numbers false []; tohost = tohost; fromhost = fromhost }

-- a mailbox in which this is kept from now on
abbrev pub keeping : MailState → Kept → MailState
keeping m k = record m { kept = k }
