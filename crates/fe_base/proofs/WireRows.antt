-- The definitions of the word link and of the debug module on known rows, by computation.
use Rattle.std.proofs.Common.{◌≡◌, ℕ, true, false, List, [], ◌∷◌, Option, Some, None, refl}
use Rattle.fe_base.specs.Access.{Stored, StoredHigh}
use Rattle.fe_base.specs.DebugModule.{ModuleState, reset_module, module_access, MoveJob, BufferJob}
use Rattle.fe_base.specs.DebugModule.{BufferStep, BufferLoad, BufferStore, OtherStep, first_step, known_step, is_single}
use Rattle.fe_base.specs.Transfers.{Transfers, no_transfers, SendWord, GetWord, WordStep, Quiet, Loads, Stores}
use Rattle.fe_base.specs.Transfers.{word_step}
use Rattle.fe_base.specs.declared.wires.DmiOp.TheVariants.{Read, Write}

-- what a word leaves, where a load gives this value
abbrev left_by : ℕ → WordStep → Transfers
left_by value (Quiet reply after) = after
left_by value (Loads at reply after) = after value
left_by value (Stores access after) = after

abbrev reply_by : ℕ → WordStep → Option ℕ
reply_by value (Quiet reply after) = reply
reply_by value (Loads at reply after) = Some (reply value)
reply_by value (Stores access after) = None

abbrev after_words : List ℕ → Transfers → Transfers
after_words [] t = t
after_words (word ∷ more) t = after_words more (left_by 0 (word_step t (SendWord word)))

-- a doubleword is written as its second word arrives
writes_a_doubleword : word_step (after_words (1 ∷ 0x20000 ∷ 0 ∷ 1 ∷ 0 ∷ 0x11111111 ∷ []) no_transfers)
    (SendWord 0x22222222) ≡ Stores (Stored 0x20000 0x2222222211111111) no_transfers
unfolding word_step
writes_a_doubleword = refl

-- its low word alone waits for it
waits_for_the_high_word : word_step (after_words (1 ∷ 0x20000 ∷ 0 ∷ 1 ∷ 0 ∷ []) no_transfers)
    (SendWord 0x11111111) ≡ Quiet None (after_words (1 ∷ 0x20000 ∷ 0 ∷ 1 ∷ 0 ∷ 0x11111111 ∷ []) no_transfers)
unfolding word_step
waits_for_the_high_word = refl

-- a transfer of one word to the upper half
writes_a_high_word : word_step (after_words (1 ∷ 0x20004 ∷ 0 ∷ 0 ∷ 0 ∷ []) no_transfers) (SendWord 5) ≡ Stores
    (StoredHigh 0x20000 5) no_transfers
unfolding word_step
writes_a_high_word = refl

-- the upper word of a doubleword is read, and then none is owed
abbrev read_asked : Transfers
read_asked = after_words (0 ∷ 0x20004 ∷ 0 ∷ 0 ∷ 0 ∷ []) no_transfers

reads_a_high_word : reply_by 0x2222222211111111 (word_step read_asked GetWord) ≡ Some 0x22222222
unfolding word_step
reads_a_high_word = refl

owes_no_more : word_step (left_by 0x2222222211111111 (word_step read_asked GetWord)) GetWord ≡ Quiet None no_transfers
unfolding word_step
owes_no_more = refl

-- both words of a doubleword come of one load, and unmapped memory reads 0
abbrev two_asked : Transfers
two_asked = after_words (0 ∷ 0x20000 ∷ 0 ∷ 1 ∷ 0 ∷ []) no_transfers

second_word_is_kept : word_step (left_by 0x2222222211111111 (word_step two_asked GetWord)) GetWord ≡ Quiet
    (Some 0x22222222) no_transfers
unfolding word_step
second_word_is_kept = refl

unmapped_reads_zero : word_step (after_words (0 ∷ 0 ∷ 1 ∷ 0 ∷ 0 ∷ []) no_transfers) GetWord ≡ Quiet
    (Some 0) no_transfers
unfolding word_step
unmapped_reads_zero = refl

-- ---- the debug module
abbrev activated : ModuleState
activated = record reset_module { active = true }

active_by_write : module_access reset_module false Write 0x10 1 ≡ (activated, 0)
unfolding module_access
active_by_write = refl

running_status : module_access activated false Read 0x11 0 ≡ (activated, 0xc82)
unfolding module_access
running_status = refl

halt_asked : module_access activated false Write 0x10 0x80000001 ≡ (record activated { haltreq = true }, 0)
unfolding module_access
halt_asked = refl

abbrev halting : ModuleState
halting = record activated { haltreq = true }

halted_status : module_access halting true Read 0x11 0 ≡ (halting, 0x382)
unfolding module_access
halted_status = refl

idle_abstractcs : module_access halting true Read 0x16 0 ≡ (halting, 0x4000002)
unfolding module_access
idle_abstractcs = refl

abbrev moving : ModuleState
moving = record halting { job = MoveJob 8 false false }

register_asked : module_access halting true Write 0x17 0x321008 ≡ (moving, 0)
unfolding module_access
register_asked = refl

busy_abstractcs : module_access moving true Read 0x16 0 ≡ (moving, 0x4001002)
unfolding module_access
busy_abstractcs = refl

-- a command while the hart runs
refused_command : module_access activated false Write 0x17 0x321008 ≡ (record activated { cmderr = 4 }, 0)
unfolding module_access
refused_command = refl

refused_abstractcs : module_access (record activated { cmderr = 4 }) false Read 0x16
    0 ≡ (record activated { cmderr = 4 }, 0x4000402)
unfolding module_access
refused_abstractcs = refl

-- cmderr is cleared by ones
cleared_error : module_access (record activated { cmderr = 4 }) false Write 0x16 0x700 ≡ (activated, 0)
unfolding module_access
cleared_error = refl

-- ---- the program buffer
-- a word of it is written and read
abbrev loaded_buffer : ModuleState
loaded_buffer = record halting { buffer = 0x43483 ∷ 0x100073 ∷ 0 ∷ 0 ∷ [] }

buffer_written : module_access (record halting { buffer = 0x43483 ∷ 0 ∷ 0 ∷ 0 ∷ [] }) true Write 0x21
    0x100073 ≡ (loaded_buffer, 0)
unfolding module_access
buffer_written = refl

buffer_read : module_access loaded_buffer true Read 0x20 0 ≡ (loaded_buffer, 0x43483)
unfolding module_access
buffer_read = refl

-- it is to be run
buffer_asked : module_access loaded_buffer true Write 0x17 0x40000 ≡ (record loaded_buffer { job = BufferJob }, 0)
unfolding module_access
buffer_asked = refl

-- busy, a write is dropped and a read answered, and either keeps an error
busy_write : module_access (record loaded_buffer { job = BufferJob }) true Write 0x20
    5 ≡ (record loaded_buffer { job = BufferJob; cmderr = 1 }, 0)
unfolding module_access
busy_write = refl

busy_read : module_access (record loaded_buffer { job = BufferJob }) true Read 0x20
    0 ≡ (record loaded_buffer { job = BufferJob; cmderr = 1 }, 0x43483)
unfolding module_access
busy_read = refl

-- while the module is not active, nothing is written
inactive_write : module_access reset_module true Write 0x20 5 ≡ (reset_module, 0)
unfolding module_access
inactive_write = refl

-- registers whose x8 and x9 are these
abbrev with_two : ℕ → ℕ → List ℕ
with_two x8 x9 = 0 ∷ 0 ∷ 0 ∷ 0 ∷ 0 ∷ 0 ∷ 0 ∷ 0 ∷ x8 ∷ x9 ∷ []

-- what the buffer does by its first word, where this is the second
abbrev known_by : ℕ → ℕ → List ℕ → BufferStep
known_by first second registers = known_step (first_step first registers) (is_single (first ∷ second ∷ 0 ∷ 0 ∷ []))

-- LD x9, 0(x8), and LD x9, -8(x8)
buffer_loads : known_by 0x43483 0x100073 (with_two 0x20000 7) ≡ BufferLoad 9 0x20000
buffer_loads = refl

buffer_loads_below : known_by 0xff843483 0x100073 (with_two 0x20008 7) ≡ BufferLoad 9 0x20000
buffer_loads_below = refl

-- SD x9, 0(x8)
buffer_stores : known_by 0x943023 0x100073 (with_two 0x20000 7) ≡ BufferStore 0x20000 7
buffer_stores = refl

-- of memory that is not mapped, of no multiple of 8, and without EBREAK behind it, nothing is known
buffer_unmapped : known_by 0x43483 0x100073 (with_two 0 7) ≡ OtherStep
buffer_unmapped = refl

buffer_misaligned : known_by 0x943023 0x100073 (with_two 0x20004 7) ≡ OtherStep
buffer_misaligned = refl

buffer_goes_on : known_by 0x43483 0x13 (with_two 0x20000 7) ≡ OtherStep
buffer_goes_on = refl
