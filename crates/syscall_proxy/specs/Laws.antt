-- Laws of the call table, for the crates above. A reader need not believe them: each is proved.
use Rattle.std.specs.Prelude.{◌≡◌, ◌⊎◌, ◌≤◌, ◌+◌, ◌-◌, ◌++◌, ℕ, List, length, take, drop, Option, Some, Result, Ok, Err}
use Rattle.chunk_memory.specs.declared.port.ChunkPort as port
use Rattle.chunk_memory.specs.declared.stops.MemStop.{MemStop}
use Rattle.chunk_memory.specs.declared.stops.MemStop.TheVariants.{Unmapped}
use Rattle.fe_base.specs.MemoryMap.{user_start, user_end}
use Rattle.fe_base.specs.declared.outside.Sink as sink
use Rattle.fe_base.specs.declared.outside.Source as source
use Rattle.folder_tree.specs.Tree.{Tree}
use Rattle.folder_tree.specs.declared.folder.Folder as folder
use Rattle.host_text.specs.Openings.{AsBefore}
use Rattle.host_text.specs.Outside.{HasRead, HasWritten, acts}
use Rattle.host_text.specs.Played.{At, Played}
use Rattle.host_text.specs.Refusals.{Late, Unacted}
use Rattle.host_text.specs.Runs.{Place, End, Ties}
use Rattle.host_text.specs.World.{World}
use Rattle.host_text.specs.declared.open_numbers.Open.{Open}
use Rattle.syscall_proxy.specs.CallLaws.{AsksInside}
use Rattle.syscall_proxy.specs.CallTable.{call_row, service_of}
use Rattle.syscall_proxy.specs.HostRow.{begin, host_row, user_bytes, world_after}
use Rattle.syscall_proxy.specs.Kept.{Kept, Setting}
use Rattle.syscall_proxy.specs.RowShapes.{InUserArea, IsResult, IsRow, StaysInside, stops}
use Rattle.syscall_proxy.specs.Rows.{word}
use Rattle.syscall_proxy.specs.Streams.{MayOpen}
use Rattle.syscall_proxy.specs.Worlds.{IsSmall, IsWorld}
use Rattle.syscall_proxy.specs.declared.answers.CallAnswer.{CallAnswer}
use Rattle.syscall_proxy.specs.declared.answers.CallAnswer.TheVariants.{Exit}
use Rattle.syscall_proxy.specs.declared.answers.CallFault.{CallFault}
use Rattle.syscall_proxy.specs.declared.answers.CallFault.TheVariants.{Port}

-- ---- the rows

-- every row acts once, behind its last call of the outside or where its answer is decided, and writes the guest behind
-- that alone
abbrev pub RowsActOnce : Type 0
RowsActOnce = (given : Setting) (numbers : List Open) (request : List ℕ) → IsRow (call_row given numbers request)

-- a row touches the user area alone, where the range that its request names stands in it
abbrev pub RowsStayInside : Type 0
RowsStayInside =
    (given : Setting) (numbers : List Open) (request : List ℕ) → AsksInside (service_of (word request 0)) given request
    → StaysInside (call_row given numbers request)

-- an exit is the last act of its row: the guest is not written
abbrev pub ExitsWriteNothing : Type 0
ExitsWriteNothing =
    (given : Setting) (request : List ℕ) (w : World) (user : List ℕ) (status : ℕ) (after : Place (List ℕ) Kept)
    → host_row given request w user ≡ Some (record { answer = Exit status; place = after }) → after.memory ≡ user

-- ---- the rows in a world

-- a request whose range stands in the user area of a program, in a world
pub record IsAsked (given : Setting) (request : List ℕ) (w : World) (user : List ℕ) : Type 0 where
  pub world : IsWorld w
  pub size : user_start + length user ≡ user_end
  pub inside : AsksInside (service_of (word request 0)) given request

-- in a world each call of a row suits, and the row comes to an end
abbrev pub RowsEnd : Type 0
RowsEnd =
    (given : Setting) (request : List ℕ) (w : World) (user : List ℕ) → IsAsked given request w user
    → (end : End (List ℕ) Kept CallAnswer) × (host_row given request w user ≡ Some end)

-- its result is a doubleword, and its status a byte
abbrev pub ResultsAreSmall : Type 0
ResultsAreSmall =
    (given : Setting) (request : List ℕ) (w : World) (user : List ℕ) (end : End (List ℕ) Kept CallAnswer)
    → IsAsked given request w user → host_row given request w user ≡ Some end → IsSmall end.answer

-- it leads to a world
abbrev pub RowsKeepWorlds : Type 0
RowsKeepWorlds =
    (given : Setting) (request : List ℕ) (w : World) (user : List ℕ) (end : End (List ℕ) Kept CallAnswer)
    → IsAsked given request w user → host_row given request w user ≡ Some end → IsWorld (world_after end.place)

-- it leaves the size of the user area
abbrev pub RowsKeepSizes : Type 0
RowsKeepSizes =
    (given : Setting) (request : List ℕ) (w : World) (user : List ℕ) (end : End (List ℕ) Kept CallAnswer)
    → IsAsked given request w user → host_row given request w user ≡ Some end → length end.place.memory ≡ length user

-- ---- calls over objects

-- over such a port a read of the user area gives the bytes that stand there, and leaves them
abbrev pub ReadsUser : {P : Type 0} → port.Ghosts P → (P → List ℕ → Type 0) → Type 0
ReadsUser {P} p holds =
    (x x' : P) (user : List ℕ) (at count : ℕ) (bytes : List ℕ) → InUserArea at count → holds x user
    → HasRead p x x' at count (Ok bytes) → holds x' user × (bytes ≡ take count (drop (at - user_start) user))

-- a write puts its bytes there, and leaves the rest
abbrev pub WritesUser : {P : Type 0} → port.Ghosts P → (P → List ℕ → Type 0) → Type 0
WritesUser {P} p holds =
    (x x' : P) (user : List ℕ) (at : ℕ) (bytes : List ℕ) → InUserArea at (length bytes) → holds x user
    → HasWritten p x x' at bytes (Ok tt)
    → holds x' (take (at - user_start) user ++ (bytes ++ drop (at - user_start + length bytes) user))

-- where the port is left by a refused read or write of the user area, and where it stands before one
pub record LeavesUser {P : Type 0} (p : port.Ghosts P) (holds left : P → List ℕ → Type 0) : Type 0 where
  pub held : (x : P) (user : List ℕ) → holds x user → left x user
  pub reads : (x x' : P) (user : List ℕ) (at count : ℕ) (why : MemStop) → InUserArea at count → holds x user
      → HasRead p x x' at count (Err why) → left x' user
  pub writes : (x x' : P) (user : List ℕ) (at : ℕ) (bytes : List ℕ) (why : MemStop) → InUserArea at (length bytes)
      → holds x user → HasWritten p x x' at bytes (Err why) → left x' user

module _ {P F I C : Type 0} (p : port.Ghosts P) (f : folder.Ghosts F) (i : source.Ghosts I) (c : sink.Ghosts C)
    (holds : P → List ℕ → Type 0) where
  -- the objects tell this place, and the port holds its bytes
  abbrev pub Stands : At P F I C Kept → Place (List ℕ) Kept → Type 0
  Stands s w = Ties holds (λ x t. f.tree x ≡ Some t) (λ x left. i.left x ≡ Some left)
      (λ x held. c.held x ≡ Some held) s w

  -- a call that is carried out is the host's row of what was told: its answer, and where it leads
  abbrev pub CallsAreRows : Type 0
  CallsAreRows =
      (s s' : At P F I C Kept) (given : Setting) (request : List ℕ) (w : World) (user : List ℕ) (answer : CallAnswer)
      → AsksInside (service_of (word request 0)) given request → Stands s (begin w user)
      → Played (acts p f i c) (call_row given w.numbers request) s (Ok answer) s'
      → (after : Place (List ℕ) Kept)
      × (host_row given request w user ≡ Some (record { answer = answer; place = after })) × Stands s' after

  -- a call that is not carried out had not acted, and all that is told and kept is as it was, but for one open more of a
  -- file that openat was to cut; or the port refused a write of the guest behind all else of the host's row
  abbrev pub RefusalsStand : (P → List ℕ → Type 0) → Type 0
  RefusalsStand left =
      (s s' : At P F I C Kept) (given : Setting) (request : List ℕ) (w : World) (user : List ℕ) (fault : CallFault)
      → AsksInside (service_of (word request 0)) given request → Stands s (begin w user)
      → Played (acts p f i c) (call_row given w.numbers request) s (Err fault) s'
      → Unacted left (λ x t. f.tree x ≡ Some t) (λ x rest. i.left x ≡ Some rest) (λ x held. c.held x ≡ Some held)
      (MayOpen given request) s' (begin w user)
      ⊎ Late left (λ x t. f.tree x ≡ Some t) (λ x rest. i.left x ≡ Some rest) (λ x held. c.held x ≡ Some held)
      user_bytes stops IsResult (call_row given w.numbers request) (begin w user) s' fault

  -- over a port that refuses nothing, the guest's bytes are as they were too
  abbrev pub RefusalsLeave : Type 0
  RefusalsLeave =
      (s s' : At P F I C Kept) (given : Setting) (request : List ℕ) (w : World) (user : List ℕ) (fault : CallFault)
      → AsksInside (service_of (word request 0)) given request → Stands s (begin w user)
      → Played (acts p f i c) (call_row given w.numbers request) s (Err fault) s'
      → (now : Tree) × AsBefore (MayOpen given request) w.contents.tree now
      × Stands s' (begin (record w { contents = record w.contents { tree = now } }) user)

module _ {P F I C : Type 0} (p : port.Ghosts P) (f : folder.Ghosts F) (i : source.Ghosts I) (c : sink.Ghosts C) where
  -- a fault of the port is Unmapped: none comes of its transactions
  abbrev pub PortsAreSure : Type 0
  PortsAreSure =
      (s s' : At P F I C Kept) (given : Setting) (numbers : List Open) (request : List ℕ) (why : MemStop)
      → Played (acts p f i c) (call_row given numbers request) s (Err (Port why)) s'
      → (doubleword : ℕ) × (why ≡ Unmapped doubleword)

  -- where the range that the request names stands in the user area, no fault of the port comes
  abbrev pub PortsServe : Type 0
  PortsServe =
      (s s' : At P F I C Kept) (given : Setting) (numbers : List Open) (request : List ℕ) (why : MemStop)
      → AsksInside (service_of (word request 0)) given request
      → Played (acts p f i c) (call_row given numbers request) s (Err (Port why)) s' → ⊥
