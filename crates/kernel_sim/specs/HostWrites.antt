-- What a host may write while the kernel runs, and the phase after it: TOHOST is cleared in any phase; while a request
-- waits, its first doubleword gets the result, and FROMHOST, which holds 0 as TOHOST does, something that is not 0; and
-- any value goes to a doubleword of the user area. At a place of it where no doubleword begins, one that 8 does not
-- divide, the write changes nothing.
use Rattle.std.specs.Prelude.{◌≡◌, ◌≢◌, ℕ, ◌<◌, ◌≤◌, ◌==◌, if◌then◌else◌, slice_set}
use Rattle.fe_base.specs.MemoryMap.{user_start, user_end, tohost, request, fromhost}
use Rattle.kernel_sim.specs.declared.phase.Phase.{Phase}
use Rattle.kernel_sim.specs.Mail.{Asked, mail_class}

-- the four kinds of writes
pub data HostWrite (at value : ℕ) (p : Phase) : Type 0 where
  Clears : at ≡ tohost → value ≡ 0 → HostWrite at value p
  Results : at ≡ request → mail_class p.kind ≡ Asked → HostWrite at value p
  Answers : at ≡ fromhost → value ≢ 0 → mail_class p.kind ≡ Asked → p.tohost ≡ 0 → p.fromhost ≡ 0 → HostWrite at value p
  Fills : user_start ≤ at → at < user_end → mail_class p.kind ≡ Asked → HostWrite at value p

-- the phase after the write
abbrev pub written : ℕ → ℕ → Phase → Phase
written at value p =
    if at == tohost then record p { tohost = value }
    else if at == fromhost then record p { fromhost = value }
    else if at == request then record p { request = slice_set p.request 0 value }
    else p
