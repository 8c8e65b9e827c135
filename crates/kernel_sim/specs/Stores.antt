-- What a step of the kernel stores to TOHOST while it speaks and closes.
use Rattle.std.specs.Prelude.{◌≡◌, ◌≢◌, ◌⊎◌, ℕ, ◌+◌, ◌*◌, ◌%◌, ◌^◌, ⊤, if◌then◌else◌, slice_index}
use Rattle.rv_hart.specs.HartStep.{HartState}
use Rattle.kernel_sim.specs.declared.phase.PhaseKind.{PhaseKind}
use Rattle.kernel_sim.specs.declared.phase.PhaseKind.TheVariants.{Speak, Closing}
use Rattle.kernel_sim.specs.declared.phase.Phase.{Phase}
use Rattle.kernel_sim.specs.declared.phase.Spoken.{Spoken}
use Rattle.fe_base.specs.MemoryMap.{tohost}
use Rattle.kernel_sim.specs.Phases.{message, console_word}
use Rattle.kernel_code.specs.Places.{pc_closing_store, pc_idle}

-- the status with which a trap ends the program: 124 where it asked for a counter, else 128 and the cause
abbrev pub exit_status : Spoken → ℕ
exit_status text = if text.counter then 124 else 128 + text.cause

-- the word that ends the program with its status
abbrev pub exit_word : Spoken → ℕ
exit_word text = (2 * exit_status text + 1) % 2 ^ 64

-- the word of the next byte, into TOHOST, which held 0
abbrev pub NextByte : Phase → ℕ → ℕ → Type 0
NextByte p tohost posted =
    (p.tohost ≡ 0)
    × (tohost ≡ console_word (slice_index (message p.text) p.text.posted))
    × (posted ≡ p.text.posted + 1)

-- TOHOST stays, and so does what was posted
abbrev pub NoByte : Phase → ℕ → ℕ → Type 0
NoByte p tohost posted = (tohost ≡ p.tohost) × (posted ≡ p.text.posted)

-- the exit word, into TOHOST, which held 0; the hart then stands at its last place
abbrev pub ExitWord : Phase → HartState → HartState → ℕ → Type 0
ExitWord p old new tohost =
    (p.tohost ≡ 0) × (tohost ≡ exit_word p.text) × (old.pc ≡ pc_closing_store) × (new.pc ≡ pc_idle)

-- TOHOST stays; the hart stays at its last place where it stands there, and does not come to it
abbrev pub NoExit : Phase → HartState → HartState → ℕ → Type 0
NoExit p old new tohost =
    (tohost ≡ p.tohost) × (old.pc ≡ pc_idle → new.pc ≡ pc_idle) × (new.pc ≡ pc_idle → old.pc ≡ pc_idle)

-- by kind: in Speak at most the next byte, and never the last place; in Closing at most the exit word, whose store
-- alone leads to the last place
abbrev pub Stores : PhaseKind → Phase → HartState → HartState → Phase → Type 0
Stores Speak p old new q =
    (NoByte p q.tohost q.text.posted ⊎ NextByte p q.tohost q.text.posted) × (new.pc ≢ pc_idle)
Stores Closing p old new q = NoExit p old new q.tohost ⊎ ExitWord p old new q.tohost
Stores _ p old new q = ⊤
