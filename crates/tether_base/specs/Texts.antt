-- What the host does in a session, as one text: it loads the kernel and the program, lets the hart begin, and makes
-- host turns until an exit was handled.
use Rattle.std.specs.Prelude.{ℕ, zero, suc, List, [], ◌∷◌, ◌++◌, map}
use Rattle.std.specs.Int.{to_le_bytes, w64}
use Rattle.chunk_memory.specs.BeatChunks.{bytes_of}
use Rattle.elf_loader.specs.Segment.{Segment}
use Rattle.elf_loader.specs.declared.image.Image.{Image}
use Rattle.fe_base.specs.MemoryMap.{boot, fromhost, kernel_start, start_word, tohost}
use Rattle.host_text.specs.Text.{Done, Write, then_do}
use Rattle.htif_mailbox.specs.Turns.{Mail, same_fault, turn_text}
use Rattle.htif_mailbox.specs.declared.answers.MailFault.TheVariants.{Port}
use Rattle.htif_mailbox.specs.declared.answers.Turned.{Turned}
use Rattle.htif_mailbox.specs.declared.answers.Turned.TheVariants.{Idle, Answered, Served, Exited}
use Rattle.syscall_proxy.specs.Kept.{Setting}

-- bytes for the memory from an address on
pub record Range : Type 0 where
  pub at : ℕ
  pub bytes : List ℕ

-- a segment's bytes of the file, at its address
abbrev pub segment_range : Segment → Range
segment_range segment = record { at = segment.address; bytes = segment.bytes }

-- the boot block: the program's entry and its first break, a doubleword each
abbrev pub boot_block : Image → List ℕ
boot_block image = bytes_of (image.entry ∷ image.first_break ∷ [])

-- what is loaded: the kernel's image, each segment's bytes in the order of the file's headers, and the boot block
abbrev pub loads_of : List ℕ → Image → List Range
loads_of kernel image =
    record { at = kernel_start; bytes = kernel } ∷ map segment_range image.segments
    ++ record { at = boot; bytes = boot_block image } ∷ []

-- ranges are written one after the other, and then this is done
abbrev pub load_text : List Range → Mail → Mail
load_text [] next = next
load_text (range ∷ more) next = Write range.at range.bytes Port (load_text more next)

-- no turn comes behind an exit
abbrev pub unless_exited : Turned → Mail → Mail
unless_exited (Exited status) next = Done (Exited status)
unless_exited Idle next = next
unless_exited Answered next = next
unless_exited Served next = next

-- so many host turns on the kernel's two words, one after the other, but none behind an exit
unfoldable pub turns_text : Setting → ℕ → Mail
turns_text given zero = Done Idle
turns_text given (suc n) =
    then_do same_fault (turn_text given tohost fromhost) (λ turned. unless_exited turned (turns_text given n))

-- the whole session: the ranges, 1 to the start word, and so many host turns
abbrev pub session_text : Setting → List Range → ℕ → Mail
session_text given ranges turns = load_text ranges (Write start_word (to_le_bytes w64 1) Port (turns_text given turns))
