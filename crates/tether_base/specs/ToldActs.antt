-- What reads, writes, folder calls, takes and puts do where all that they work on is told.
use Rattle.std.specs.Prelude.{◌≡◌, ◌≤◌, ℕ, List, ◌++◌, length, take, drop, Some, Result, Ok, Err, IsErrOf}
use Rattle.std.specs.Result.{result_err}
use Rattle.chunk_memory.specs.BeatChunks.{DirectOne, DirectRefused}
use Rattle.chunk_memory.specs.Ports.{Maps}
use Rattle.chunk_memory.specs.Reached.{Reached}
use Rattle.chunk_memory.specs.Spelling.{ReadSpelled, WriteSpelled}
use Rattle.chunk_memory.specs.Transactions.{ReadsRange, WritesRange}
use Rattle.chunk_memory.specs.declared.stops.MemStop.{MemStop}
use Rattle.chunk_memory.specs.declared.stops.MemStop.TheVariants.{Spent}
use Rattle.fe_base.specs.declared.outside.Failed.{Failed}
use Rattle.folder_tree.specs.Tree.{Tree}
use Rattle.folder_tree.specs.declared.folder.FolderStop.{FolderStop}
use Rattle.guest_memory.specs.Memory.{AreBytes}
use Rattle.host_text.specs.Played.{Acts}
use Rattle.host_text.specs.Text.{Query, Reply, row_of}
use Rattle.rv_hart.specs.HartStep.{System}
use Rattle.target_box.specs.Lined.{Lined, next_line, lost_line}
use Rattle.target_box.specs.Turn.{ran, touched}

-- ---- the outside
-- a call that suits does to a tree what its row says; one that is refused leaves it
abbrev pub TreeAsked : (q : Query) → Tree → Result (Reply q) FolderStop → Tree → Type 0
TreeAsked q t (Ok reply) now = row_of q t ≡ Some (record { answer = reply; tree = now })
TreeAsked q t (Err why) now = now ≡ t

-- a take gives the front of the input, and leaves the rest; one that is refused leaves all
abbrev pub InputTaken : List ℕ → ℕ → Result (List ℕ) Failed → List ℕ → Type 0
InputTaken left count (Ok bytes) now = (bytes ≡ take count left) × (now ≡ drop count left)
InputTaken left count (Err why) now = now ≡ left

-- a put adds its bytes to the console's; one that is refused adds none
abbrev pub ConsolePut : List ℕ → List ℕ → Result Unit Failed → List ℕ → Type 0
ConsolePut held bytes (Ok done) now = now ≡ held ++ bytes
ConsolePut held bytes (Err why) now = now ≡ held

-- ---- the memory of a target behind a line, by transactions
-- no transaction is left
abbrev pub AtLimit : Lined → Type 0
AtLimit line = line.target.turns ≡ line.target.limit

-- what one access to a range keeps to: Unmapped comes exactly where the range is not mapped, Spent only where no
-- transaction is left, and no more are made than may be
pub record KeepsLimit (at count : ℕ) (line now : Lined) {T : Type 0} (r : Result T MemStop) : Type 0 where
  pub maps : Maps at count (result_err r)
  pub spent : IsErrOf r Spent → AtLimit now
  pub within : line.target.turns ≤ line.target.limit → now.target.turns ≤ now.target.limit

-- a range is read by the target's next turns
pub record LineRead (line : Lined) (at count : ℕ) (r : Result (List ℕ) MemStop) (now : Lined) : Type 0 where
  pub made : ReadsRange (DirectOne next_line) (DirectRefused next_line lost_line) 8 1024 at count r line now
  pub keeps : KeepsLimit at count line now r

-- a range of bytes is written by the target's next turns
pub record LineWritten (line : Lined) (at : ℕ) (bytes : List ℕ) (r : Result Unit MemStop) (now : Lined)
    : Type 0 where
  pub made : WritesRange (DirectOne next_line) (DirectRefused next_line lost_line) 8 1024 at bytes r line now
  pub keeps : KeepsLimit at (length bytes) line now r
  pub are_bytes : AreBytes bytes

-- over a target behind a line
abbrev pub line_acts : Acts Lined Tree (List ℕ) (List ℕ)
line_acts = record {
  read = λ x at count r x'. LineRead x at count r x';
  write = λ x at bytes r x'. LineWritten x at bytes r x';
  ask = λ q t r t'. TreeAsked q t r t';
  take = λ left count r left'. InputTaken left count r left';
  put = λ held bytes r held'. ConsolePut held bytes r held';
}

-- ---- the same memory by what is seen of the target: hart steps and accesses
-- a range is read by the accesses that spell it, with hart steps between
abbrev pub SeenRead : System → ℕ → ℕ → Result (List ℕ) MemStop → System → Type 0
SeenRead sys at count r now =
    ReadSpelled (λ (s : System). s) (λ s seen. s ≡ seen) (λ _. Unit {0}) (λ _. ⊥) ran
    (Reached ran touched) 8 at count r sys now

-- a range is written so
abbrev pub SeenWritten : System → ℕ → List ℕ → Result Unit MemStop → System → Type 0
SeenWritten sys at bytes r now =
    WriteSpelled (λ (s : System). s) (λ s seen. s ≡ seen) (λ _. Unit {0}) (λ _. ⊥) ran
    (Reached ran touched) 8 at bytes r sys now

-- over what is seen of a target
abbrev pub seen_acts : Acts System Tree (List ℕ) (List ℕ)
seen_acts = record {
  read = λ x at count r x'. SeenRead x at count r x';
  write = λ x at bytes r x'. SeenWritten x at bytes r x';
  ask = λ q t r t'. TreeAsked q t r t';
  take = λ left count r left'. InputTaken left count r left';
  put = λ held bytes r held'. ConsolePut held bytes r held';
}
