-- What the host's moves of ranges are to what is seen of a target: a read only lets the hart run, a doubleword of the
-- kernel area is read or written at one moment, and the count of user steps never falls.
use Rattle.std.specs.Prelude.{◌≡◌, ◌⊎◌, ◌≤◌, ◌<◌, ◌+◌, ◌%◌, ◌^◌, ℕ, List, Result, Ok, Err}
use Rattle.std.specs.Int.{to_le_bytes, from_le_bytes, w64}
use Rattle.chunk_memory.specs.declared.stops.MemStop.{MemStop}
use Rattle.fe_base.specs.MemoryMap.{kernel_start, kernel_end}
use Rattle.guest_memory.specs.Bus.{with_beat}
use Rattle.host_text.specs.Played.{Played}
use Rattle.htif_mailbox.specs.Turns.{Mail}
use Rattle.htif_mailbox.specs.declared.answers.MailFault.{MailFault}
use Rattle.htif_mailbox.specs.declared.answers.Turned.{Turned}
use Rattle.kernel_sim.specs.Phases.{dword}
use Rattle.rv_hart.specs.HartStep.{System, over}
use Rattle.rv_hart.specs.Laws.{IsSystem}
use Rattle.target_box.specs.Turn.{ran}
use Rattle.tether_base.specs.Serving.{Here}
use Rattle.tether_base.specs.ToldActs.{SeenRead, SeenWritten, seen_acts}

-- a doubleword of the kernel area
pub record IsKernelWord (at : ℕ) : Type 0 where
  pub even : at % 8 ≡ 0
  pub low : kernel_start ≤ at
  pub high : at + 8 ≤ kernel_end

-- the hart ran until a moment at which the doubleword held what was read, and then ran on
pub record WordRead (at value : ℕ) (s now : System) : Type 0 where
  pub before : ℕ
  pub mid : System
  pub ran_so : ran s before mid
  pub value_is : value ≡ dword mid.bus at
  pub behind : ℕ
  pub ran_on : ran mid behind now

-- the hart ran until a moment at which the doubleword was replaced, and then ran on
pub record WordPut (at value : ℕ) (s now : System) : Type 0 where
  pub before : ℕ
  pub mid : System
  pub ran_so : ran s before mid
  pub behind : ℕ
  pub ran_on : ran (over (with_beat mid.bus at value) mid.hart) behind now

-- the hart ran, and nothing else was done
abbrev pub OnlyRan : System → System → Type 0
OnlyRan s now = (steps : ℕ) × ran s steps now

-- Reads only let the hart run, whatever they come to; a doubleword of the kernel area that was read stood there at one
-- moment; and one that was written was put there at one moment. A refused write of a doubleword was made, or was not.
pub record WordsAreSeen : Type 0 where
  pub reads_run : (at count : ℕ) (r : Result (List ℕ) MemStop) (s now : System) → SeenRead s at count r now
      → OnlyRan s now
  pub word_read : (at : ℕ) (bytes : List ℕ) (s now : System) → IsKernelWord at → SeenRead s at 8 (Ok bytes) now
      → WordRead at (from_le_bytes w64 bytes) s now
  pub word_put : (at value : ℕ) (s now : System) → at % 8 ≡ 0 → value < 2 ^ 64
      → SeenWritten s at (to_le_bytes w64 value) (Ok tt) now → WordPut at value s now
  pub put_refused : (at value : ℕ) (why : MemStop) (s now : System) → at % 8 ≡ 0 → value < 2 ^ 64
      → SeenWritten s at (to_le_bytes w64 value) (Err why) now → OnlyRan s now ⊎ WordPut at value s now

-- numbers still fit, and no user step was taken off the count
pub record StepsKept (s now : System) : Type 0 where
  pub fits : IsSystem now
  pub later : s.hart.user_steps ≤ now.hart.user_steps

-- The count of user steps never falls, neither along steps of the hart nor along whatever the host does.
pub record StepsNeverFall : Type 0 where
  pub along : (s now : System) (steps : ℕ) → IsSystem s → ran s steps now → StepsKept s now
  pub put : (at value : ℕ) (s : System) → value < 2 ^ 64 → IsSystem s
      → StepsKept s (over (with_beat s.bus at value) s.hart)
  pub read : (at count : ℕ) (r : Result (List ℕ) MemStop) (s now : System) → IsSystem s → SeenRead s at count r now
      → StepsKept s now
  pub written : (at : ℕ) (bytes : List ℕ) (r : Result Unit MemStop) (s now : System) → IsSystem s
      → SeenWritten s at bytes r now → StepsKept s now
  pub followed : (t : Mail) (s now : Here) (r : Result Turned MailFault) → IsSystem s.port
      → Played seen_acts t s r now → StepsKept s.port now.port
