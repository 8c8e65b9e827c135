-- That a text was followed, to its end or to a refusal.
use Rattle.std.specs.Prelude.{◌≡◌, ℕ, List, Result, Ok, Err}
use Rattle.chunk_memory.specs.declared.stops.MemStop.{MemStop}
use Rattle.fe_base.specs.declared.outside.Failed.{Failed}
use Rattle.folder_tree.specs.declared.folder.FolderStop.{FolderStop}
use Rattle.host_text.specs.Text.{Query, Reply, Text, Done, Fail, Read, Write, Take, Put, Ask, Note, Look}

-- what a port of ranges, a folder, a source and a sink do when they are called
pub record Acts (X F I C : Type 0) : Type 1 where
  pub read : X → ℕ → ℕ → Result (List ℕ) MemStop → X → Type 0
  pub write : X → ℕ → List ℕ → Result Unit MemStop → X → Type 0
  pub ask : (q : Query) → F → Result (Reply q) FolderStop → F → Type 0
  pub take : I → ℕ → Result (List ℕ) Failed → I → Type 0
  pub put : C → List ℕ → Result Unit Failed → C → Type 0

-- where the four and the host stand
pub record At (X F I C H : Type 0) : Type 0 where
  pub port : X
  pub folder : F
  pub input : I
  pub console : C
  pub kept : H

-- the four and the host stand here
abbrev pub at : {X F I C H : Type 0} → X → F → I → C → H → At X F I C H
at port folder input console kept =
    record { port = port; folder = folder; input = input; console = console; kept = kept }

-- the text was followed from one place to another, to its end or to a refusal
pub data Played {X F I C H A E : Type 0} (o : Acts X F I C) : Text H A E → At X F I C H → Result A E → At X F I C H
    → Type 0 where
  ended : {a : A} {s s' : At X F I C H} {r : Result A E} → r ≡ Ok a → s' ≡ s → Played o (Done a) s r s'
  failed : {e : E} {s s' : At X F I C H} {r : Result A E} → r ≡ Err e → s' ≡ s → Played o (Fail e) s r s'
  has_read : {place count : ℕ} {stop : MemStop → E} {k : List ℕ
      → Text H A E} {s s' : At X F I C H} {r : Result A E} {x : X} {bytes : List ℕ}
      → o.read s.port place count (Ok bytes) x → Played o (k bytes) (record s { port = x }) r s'
      → Played o (Read place count stop k) s r s'
  read_stopped : {place count : ℕ} {stop : MemStop → E} {k : List ℕ
      → Text H A E} {s s' : At X F I C H} {r : Result A E} {x : X} {why : MemStop}
      → o.read s.port place count (Err why) x → r ≡ Err (stop why) → s' ≡ record s { port = x }
      → Played o (Read place count stop k) s r s'
  has_written : {place : ℕ} {bytes : List ℕ} {stop : MemStop
      → E} {k : Text H A E} {s s' : At X F I C H} {r : Result A E} {x : X}
      → o.write s.port place bytes (Ok tt) x → Played o k (record s { port = x }) r s'
      → Played o (Write place bytes stop k) s r s'
  write_stopped : {place : ℕ} {bytes : List ℕ} {stop : MemStop
      → E} {k : Text H A E} {s s' : At X F I C H} {r : Result A E} {x : X} {why : MemStop}
      → o.write s.port place bytes (Err why) x → r ≡ Err (stop why) → s' ≡ record s { port = x }
      → Played o (Write place bytes stop k) s r s'
  has_taken : {count : ℕ} {stop : E} {k : List ℕ
      → Text H A E} {s s' : At X F I C H} {r : Result A E} {i : I} {bytes : List ℕ}
      → o.take s.input count (Ok bytes) i → Played o (k bytes) (record s { input = i }) r s'
      → Played o (Take count stop k) s r s'
  take_stopped : {count : ℕ} {stop : E} {k : List ℕ
      → Text H A E} {s s' : At X F I C H} {r : Result A E} {i : I} {why : Failed}
      → o.take s.input count (Err why) i → r ≡ Err stop → s' ≡ record s { input = i }
      → Played o (Take count stop k) s r s'
  has_put : {bytes : List ℕ} {stop : E} {k : Text H A E} {s s' : At X F I C H} {r : Result A E} {c : C}
      → o.put s.console bytes (Ok tt) c → Played o k (record s { console = c }) r s'
      → Played o (Put bytes stop k) s r s'
  put_stopped : {bytes : List ℕ} {stop : E} {k : Text H A E} {s s' : At X F I C H} {r : Result A E} {c : C} {why :
      Failed}
      → o.put s.console bytes (Err why) c → r ≡ Err stop → s' ≡ record s { console = c }
      → Played o (Put bytes stop k) s r s'
  has_asked : {q : Query} {stop : FolderStop → E} {k : Reply q
      → Text H A E} {s s' : At X F I C H} {r : Result A E} {f : F} {reply : Reply q}
      → o.ask q s.folder (Ok reply) f → Played o (k reply) (record s { folder = f }) r s'
      → Played o (Ask q stop k) s r s'
  ask_stopped : {q : Query} {stop : FolderStop → E} {k : Reply q
      → Text H A E} {s s' : At X F I C H} {r : Result A E} {f : F} {why : FolderStop}
      → o.ask q s.folder (Err why) f → r ≡ Err (stop why) → s' ≡ record s { folder = f }
      → Played o (Ask q stop k) s r s'
  noted : {g : H → H} {k : Text H A E} {s s' : At X F I C H} {r : Result A E} {h : H} → h ≡ g s.kept
      → Played o k (record s { kept = h }) r s' → Played o (Note g k) s r s'
  looked : {k : H → Text H A E} {s s' : At X F I C H} {r : Result A E} → Played o (k s.kept) s r s'
      → Played o (Look k) s r s'

-- how a text is followed
pub ruleset followed = (
  ended,
  failed,
  has_read,
  read_stopped,
  has_written,
  write_stopped,
  has_taken,
  take_stopped,
  has_put,
  put_stopped,
  has_asked,
  ask_stopped,
  noted,
  looked,
)
