-- What the calls of the objects say, as acts of a text.
use Rattle.std.specs.Prelude.{◌≡◌, ◌≤◌, ℕ, List, take, drop, length, Option, Some, None, Result, Ok, Err, IfOk, IsOk}
use Rattle.std.specs.Prelude.{IsErrOf, option_map}
use Rattle.std.specs.Result.{result_err}
use Rattle.chunk_memory.specs.Ports.{CostsAtMost, IfExact, Maps, MemCauses, MemTakes, MemUnfaulted}
use Rattle.chunk_memory.specs.Spelling.{ReadSpelled, WriteSpelled}
use Rattle.chunk_memory.specs.Transactions.{ReadsRange, WritesRange}
use Rattle.chunk_memory.specs.Turns.{read_turns, write_turns}
use Rattle.chunk_memory.specs.declared.stops.MemStop.{MemStop}
use Rattle.chunk_memory.specs.declared.stops.MemStop.TheVariants.{Unmapped}
use Rattle.chunk_memory.specs.declared.port.ChunkPort as port
use Rattle.fe_base.specs.Memory.{counted}
use Rattle.fe_base.specs.Outside.{HasCause, Puts, PutsRoom, PutSuits, StaysSteady, capacity}
use Rattle.fe_base.specs.Wires.{OnTold}
use Rattle.fe_base.specs.declared.outside.Failed.{Failed}
use Rattle.fe_base.specs.declared.outside.Source as source
use Rattle.fe_base.specs.declared.outside.Sink as sink
use Rattle.folder_tree.specs.Answers.{Answers, HasCauses, Suits, StaysSteady as StaysSteadyFolder}
use Rattle.folder_tree.specs.declared.folder.FolderStop.{FolderStop}
use Rattle.folder_tree.specs.declared.folder.Folder as folder
use Rattle.guest_memory.specs.Memory.{AreBytes}
use Rattle.host_text.specs.Text.{Query, Reply, row_of}
use Rattle.host_text.specs.Played.{Acts}
use Rattle.host_text.specs.Runs.{ReplyFits}

-- what one read of a range of memory did, over this port
pub record HasRead {P : Type 0} (d : port.Ghosts P) (p p' : P) (place count : ℕ) (r : Result (List ℕ) MemStop)
    : Type 0 where
  pub usable : d.usable p'
  pub kept : d.kept p' ≡ d.kept p
  pub maps : Maps place count (result_err r)
  pub causes : MemCauses (d.counts p) (d.counts p') (result_err r)
  pub steady : d.steady p → MemUnfaulted (d.counts p) (d.counts p') (result_err r) (d.steady p')
  pub turns : CostsAtMost (d.told p) d.ready d.positive (d.counts p) (d.counts p')
      (read_turns d.cost d.unit d.most place count)
  pub takes : IfExact d.exact
      (λ turns. MemTakes (read_turns turns d.unit d.most place count) (d.counts p) (d.counts p') (result_err r))
  pub told : OnTold (d.told p) (d.told p') (ReadsRange d.one d.refused d.unit d.most place count r)
  pub reached : OnTold (d.told p) (d.told p')
      (λ a b. d.ready a → ReadSpelled d.view d.stands d.ready d.positive d.ran d.reached d.unit place count r a b)
  pub unmapped : (doubleword : ℕ) → IsErrOf r (Unmapped doubleword) → p' ≡ p
  pub empty : count ≡ 0 → p' ≡ p
  pub empty_done : count ≡ 0 → IsOk r
  pub bytes : IfOk r (λ got. length got ≡ count)

-- what one write of a range of memory did, over this port
pub record HasWritten {P : Type 0} (d : port.Ghosts P) (p p' : P) (place : ℕ) (from : List ℕ) (r : Result Unit MemStop)
    : Type 0 where
  pub usable : d.usable p'
  pub are_bytes : AreBytes from
  pub kept : d.kept p' ≡ d.kept p
  pub maps : Maps place (length from) (result_err r)
  pub causes : MemCauses (d.counts p) (d.counts p') (result_err r)
  pub steady : d.steady p → MemUnfaulted (d.counts p) (d.counts p') (result_err r) (d.steady p')
  pub turns : CostsAtMost (d.told p) d.ready d.positive (d.counts p) (d.counts p')
      (write_turns d.cost d.unit d.most place (length from))
  pub takes : IfExact d.exact
      (λ turns. MemTakes (write_turns turns d.unit d.most place (length from)) (d.counts p) (d.counts p') (result_err r))
  pub told : OnTold (d.told p) (d.told p') (WritesRange d.one d.refused d.unit d.most place from r)
  pub reached : OnTold (d.told p) (d.told p')
      (λ a b. d.ready a → WriteSpelled d.view d.stands d.ready d.positive d.ran d.reached d.unit place from r a b)
  pub unmapped : (doubleword : ℕ) → IsErrOf r (Unmapped doubleword) → p' ≡ p
  pub empty : length from ≡ 0 → p' ≡ p
  pub empty_done : length from ≡ 0 → IsOk r

-- what one call of a folder did; its reply is no longer than was asked for, whatever the folder tells
pub record HasCalled {F : Type 0} (d : folder.Ghosts F) (f f' : F) (q : Query) (r : Result (Reply q) FolderStop)
    : Type 0 where
  pub bound : IfOk r (ReplyFits q)
  pub tree : Answers (d.tree f) (d.tree f') (row_of q) r
  pub untold : d.tree f ≡ None → d.tree f' ≡ None
  pub cause : HasCauses (d.faults f) (d.faults f') (d.short f) (d.short f') r
  pub steady : d.steady f → Suits (d.tree f) (row_of q) → StaysSteadyFolder (d.faults f) (d.faults f') r (d.steady f')

-- what a take gives of these bytes and leaves
abbrev pub TakesOff : List ℕ → Option (List ℕ) → ℕ → Result (List ℕ) Failed → Type 0
TakesOff left after count (Ok bytes) = (bytes ≡ take count left) × (after ≡ Some (drop count left))
TakesOff left after count (Err why) = after ≡ Some left

-- what one take did
pub record HasTaken {I : Type 0} (d : source.Ghosts I) (i i' : I) (count : ℕ) (r : Result (List ℕ) Failed)
    : Type 0 where
  pub bound : IfOk r (λ bytes. length bytes ≤ count)
  pub bytes : (left : List ℕ) → d.left i ≡ Some left → TakesOff left (d.left i') count r
  pub untold : d.left i ≡ None → d.left i' ≡ None
  pub cause : HasCause (d.faults i) (d.faults i') r
  pub steady : d.steady i → StaysSteady (d.faults i) (d.faults i') r (d.steady i')

-- what one put did
pub record HasPut {C : Type 0} (d : sink.Ghosts C) (c c' : C) (from : List ℕ) (r : Result Unit Failed) : Type 0 where
  pub bytes : Puts (d.held c) (d.held c') from r
  pub untold : d.held c ≡ None → d.held c' ≡ None
  pub capacity : capacity (d.held c') (d.room c') ≡ capacity (d.held c) (d.room c)
  pub room : PutsRoom (d.room c) (d.room c') (length from) r
  pub no_room : d.room c ≡ None → d.room c' ≡ None
  pub puts : d.puts c' ≡ option_map counted (d.puts c)
  pub cause : HasCause (d.faults c) (d.faults c') r
  pub steady : d.steady c → PutSuits (d.room c) (length from) → StaysSteady (d.faults c) (d.faults c') r (d.steady c')

-- the acts of these objects
abbrev pub acts : {P F I C : Type 0} → port.Ghosts P → folder.Ghosts F → source.Ghosts I → sink.Ghosts C → Acts P F I C
acts p f i c = record {
  read = λ x place count r x'. HasRead p x x' place count r;
  write = λ x place bytes r x'. HasWritten p x x' place bytes r;
  ask = λ q x r x'. HasCalled f x x' q r;
  take = λ x count r x'. HasTaken i x x' count r;
  put = λ x bytes r x'. HasPut c x x' bytes r;
}
