-- The host's row of the call table, as a function of a world and of the guest's bytes.
use Rattle.std.specs.Prelude.{◌≡◌, ◌⊎◌, ◌≤◌, ◌+◌, ◌-◌, ⊤, ℕ, false, List, [], ◌++◌, length, take, drop, Option, Some}
use Rattle.std.specs.Prelude.{Result}
use Rattle.std.specs.Prelude.{Ok, Err}
use Rattle.std.proofs.Common.{ap, ◌∙◌, inl, inr}
use Rattle.chunk_memory.specs.declared.port.ChunkPort as port
use Rattle.chunk_memory.specs.declared.stops.MemStop.{MemStop}
use Rattle.fe_base.specs.MemoryMap.{user_start}
use Rattle.fe_base.specs.declared.outside.Sink as sink
use Rattle.fe_base.specs.declared.outside.Source as source
use Rattle.folder_tree.specs.Tree.{Tree}
use Rattle.folder_tree.specs.declared.folder.Folder as folder
use Rattle.folder_tree.specs.declared.folder.FolderStop.TheVariants.{Failed as Broken, NoMemory}
use Rattle.host_text.specs.Blames.{Blames, port_to, folder_to, input_to, console_to, shaped-blame}
use Rattle.host_text.specs.Openings.{AsBefore}
use Rattle.host_text.specs.Outside.{HasRead, HasWritten, acts}
use Rattle.host_text.specs.Played.{At, Played}
use Rattle.host_text.specs.Runs.{Place, Bytes, End, run}
use Rattle.host_text.specs.Refusals.{Late, Unacted}
use Rattle.host_text.specs.Told.{Told, inside-played, inside_acts, told-refused, told-runs}
use Rattle.host_text.specs.World.{World}
use Rattle.host_text.specs.declared.open_numbers.Open.{Open}
use Rattle.syscall_proxy.specs.CallLaws.{AsksInside, call_row-inside, call_row-row}
use Rattle.syscall_proxy.specs.CallTable.{call_row, service_of}
use Rattle.syscall_proxy.specs.Kept.{Kept, Setting, kept}
use Rattle.syscall_proxy.specs.RowShapes.{InUserArea, IsResult, Marks, stops}
use Rattle.syscall_proxy.specs.Rows.{word}
use Rattle.syscall_proxy.specs.StreamRows.{call_row-last}
use Rattle.syscall_proxy.specs.Streams.{MayOpen}
use Rattle.syscall_proxy.specs.declared.answers.CallAnswer.{CallAnswer}
use Rattle.syscall_proxy.specs.declared.answers.CallFault.{CallFault}
use Rattle.syscall_proxy.specs.declared.answers.CallFault.TheVariants.{Port}

-- the user area's bytes as a memory of ranges
abbrev pub user_bytes : Bytes (List ℕ)
user_bytes = record {
  get = λ user at count. take count (drop (at - user_start) user);
  set = λ user at bytes. take (at - user_start) user ++ (bytes ++ drop (at - user_start + length bytes) user);
}

-- where a call begins: the guest's bytes, and a world
abbrev pub begin : World → List ℕ → Place (List ℕ) Kept
begin w user = record { memory = user; contents = w.contents; kept = kept w.numbers false [] }

-- the world that a call leaves
abbrev pub world_after : Place (List ℕ) Kept → World
world_after p = record { contents = p.contents; numbers = p.kept.numbers }

-- the host's row of a request: its answer, and the world and the guest's bytes behind it
abbrev pub host_row : Setting → List ℕ → World → List ℕ → Option (End (List ℕ) Kept CallAnswer)
host_row given request w user = run user_bytes (call_row given w.numbers request) (begin w user)

-- a fault of the port is none of the other objects
no_port : {X F I C : Type 0} {s s' : At X F I C Kept} (why : MemStop)
    → Blames stops (λ why x x'. ⊥) (λ why x x'. ⊤) (λ x x'. ⊤) (λ x x'. ⊤) (Port why) s s' → ⊥
no_port why (port_to other e b) = b
no_port why (folder_to Broken e b) = let no : ⊥ = cc in no
no_port why (folder_to NoMemory e b) = let no : ⊥ = cc in no
no_port why (input_to e b) = let no : ⊥ = cc in no
no_port why (console_to e b) = let no : ⊥ = cc in no

-- ---- ports that serve the user area

module _ {P F I C : Type 0} (p : port.Ghosts P) (f : folder.Ghosts F) (i : source.Ghosts I) (c : sink.Ghosts C)
    (never_read : (x x' : P) (at count : ℕ) (why : MemStop) → InUserArea at count → HasRead p x x' at count (Err why)
    → ⊥)
    (never_write : (x x' : P) (at : ℕ) (bytes : List ℕ) (why : MemStop) → InUserArea at (length bytes)
    → HasWritten p x x' at bytes (Err why) → ⊥) where
  -- over a port that never refuses a range of the user area, no fault of the port comes, whatever the objects tell
  pub call-meets-no-port : {s s' : At P F I C Kept} {r : Result CallAnswer CallFault} (given : Setting)
      (numbers : List Open) (request : List ℕ) (why : MemStop) → r ≡ Err (Port why)
      → AsksInside (service_of (word request 0)) given request
      → Played (acts p f i c) (call_row given numbers request) s r s' → ⊥
  call-meets-no-port given numbers request why e inside played =
      let kept_inside = inside-played p f i c InUserArea (call_row-inside given numbers request inside) played in
      let blame = shaped-blame (inside_acts p f i c InUserArea) stops Marks IsResult (λ why x x'. ⊥) (λ why x x'. ⊤)
      (λ x x'. ⊤) (λ x x'. ⊤) (λ x y at count why d. never_read x y at count why d.0 d.1)
      (λ x y at bytes why d. never_write x y at bytes why d.0 d.1) (λ q x y why d. tt) (λ x y count why d. tt)
      (λ x y bytes why d. tt) (λ x y v at count bytes why d b. b) (λ x y v at bytes why d b. b)
      (λ q x y v reply why d b. tt) (λ x y v count bytes d b. tt) (λ x y v bytes d b. tt) (Port why) e
      (call_row-row given numbers request) kept_inside in
      no_port why blame

-- ---- calls over what is told

module _ {P F I C : Type 0} (p : port.Ghosts P) (f : folder.Ghosts F) (i : source.Ghosts I) (c : sink.Ghosts C)
    (memory : P → List ℕ → Type 0)
    (on_read : (x x' : P) (t : List ℕ) (at count : ℕ) (bytes : List ℕ) → InUserArea at count → memory x t
    → HasRead p x x' at count (Ok bytes) → memory x' t × (bytes ≡ user_bytes.get t at count))
    (on_write : (x x' : P) (t : List ℕ) (at : ℕ) (bytes : List ℕ) → InUserArea at (length bytes) → memory x t
    → HasWritten p x x' at bytes (Ok tt) → memory x' (user_bytes.set t at bytes)) where
  -- the objects tell this place
  abbrev pub Tells : At P F I C Kept → Place (List ℕ) Kept → Type 0
  Tells s w = Told p f i c user_bytes InUserArea memory on_read on_write s w

  -- over a port that tells the guest's bytes and objects that tell a world, a call that is carried out is the host's row
  pub call-is-row : {s s' : At P F I C Kept} {r : Result CallAnswer CallFault} (given : Setting) (request : List ℕ)
      (w : World) (user : List ℕ) (answer : CallAnswer) → r ≡ Ok answer
      → AsksInside (service_of (word request 0)) given request
      → Played (acts p f i c) (call_row given w.numbers request) s r s' → Tells s (begin w user)
      → (after : Place (List ℕ) Kept)
      × (host_row given request w user ≡ Some (record { answer = answer; place = after })) × Tells s' after
  call-is-row given request w user answer e inside played told =
      told-runs p f i c user_bytes InUserArea memory on_read on_write answer (begin w user) e
      (call_row-inside given w.numbers request inside) played told

  -- ---- refusals

  -- what the folder, the input and the console tell
  abbrev pub Tree_at : F → Tree → Type 0
  Tree_at x t = f.tree x ≡ Some t

  abbrev pub Left_at : I → List ℕ → Type 0
  Left_at x left = i.left x ≡ Some left

  abbrev pub Held_at : C → List ℕ → Type 0
  Held_at x held = c.held x ≡ Some held

  module _ (left : P → List ℕ → Type 0) (held : (x : P) (t : List ℕ) → memory x t → left x t)
      (off_read : (x x' : P) (t : List ℕ) (at count : ℕ) (why : MemStop) → InUserArea at count → memory x t
      → HasRead p x x' at count (Err why) → left x' t)
      (off_write : (x x' : P) (t : List ℕ) (at : ℕ) (bytes : List ℕ) (why : MemStop) → InUserArea at (length bytes)
      → memory x t → HasWritten p x x' at bytes (Err why) → left x' t) where
    -- a call that was not carried out had not acted, and then no open number and nothing that is told has changed, but for
    -- one open more of a file that openat was to cut; or the port refused a write of the guest behind all else of the row
    pub call-is-refused : {s s' : At P F I C Kept} {r : Result CallAnswer CallFault} (given : Setting)
        (request : List ℕ)
        (w : World) (user : List ℕ) (fault : CallFault) → r ≡ Err fault
        → AsksInside (service_of (word request 0)) given request
        → Played (acts p f i c) (call_row given w.numbers request) s r s' → Tells s (begin w user)
        → Unacted left Tree_at Left_at Held_at (MayOpen given request) s' (begin w user)
        ⊎ Late left Tree_at Left_at Held_at user_bytes stops IsResult (call_row given w.numbers request)
        (begin w user) s'
        fault
    call-is-refused given request w user fault e inside played told =
        told-refused p f i c user_bytes InUserArea memory left on_read on_write held off_read off_write stops Marks
        IsResult (MayOpen given request) fault (begin w user) e (call_row-row given w.numbers request)
        (call_row-last given w.numbers request) (call_row-inside given w.numbers request inside) told played

  module _ (never_read : (x x' : P) (at count : ℕ) (why : MemStop) → InUserArea at count
      → HasRead p x x' at count (Err why) → ⊥)
      (never_write : (x x' : P) (at : ℕ) (bytes : List ℕ) (why : MemStop) → InUserArea at (length bytes)
      → HasWritten p x x' at bytes (Err why) → ⊥) where
    -- over a port that never refuses a range of the user area, a call that is not carried out leaves the guest's bytes
    -- too, with all that is told and kept, but for that one open
    pub call-stops : {s s' : At P F I C Kept} {r : Result CallAnswer CallFault} (given : Setting) (request : List ℕ)
        (w : World) (user : List ℕ) (fault : CallFault) → r ≡ Err fault
        → AsksInside (service_of (word request 0)) given request
        → Played (acts p f i c) (call_row given w.numbers request) s r s' → Tells s (begin w user)
        → (now : Tree) × AsBefore (MayOpen given request) w.contents.tree now
        × Tells s' (begin (record w { contents = record w.contents { tree = now } }) user)
    call-stops {s' = s'} given request w user fault e inside played told =
        elim (call-is-refused memory (λ x t h. h)
        (λ x x' t at count why fit h d. absurd (never_read x x' at count why fit d))
        (λ x x' t at bytes why fit h d. absurd
        (never_write x x' at bytes why fit d)) given request w user fault e inside
        played told) [
          | inl u ↦ (
            u.now,
            u.as_before,
            record {
              memory_is = u.stands.port;
              tree_is = u.stands.tree_is;
              input_is = u.stands.input_is;
              console_is = u.stands.console_is;
              kept_is = u.stands.kept_is;
            },
          )
          | inr l ↦ absurd (call-meets-no-port p f i c never_read never_write given w.numbers request l.why
              (e ∙ ap Err l.fault_is) inside played)
        ]
