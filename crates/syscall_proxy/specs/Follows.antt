-- That a function of the host followed a text.
use Rattle.std.specs.Prelude.{◌≡◌, ℕ, Bool, List, Result}
use Rattle.chunk_memory.specs.declared.port.ChunkPort as port
use Rattle.fe_base.specs.declared.outside.Source as source
use Rattle.fe_base.specs.declared.outside.Sink as sink
use Rattle.folder_tree.specs.declared.folder.Folder as folder
use Rattle.host_text.specs.Played.{At, at, Played}
use Rattle.host_text.specs.Outside.{acts}
use Rattle.host_text.specs.declared.open_numbers.Open.{Open}
use Rattle.syscall_proxy.specs.Kept.{Kept, kept}
use Rattle.syscall_proxy.specs.Rows.{Row}
use Rattle.syscall_proxy.specs.declared.answers.CallAnswer.{CallAnswer}
use Rattle.syscall_proxy.specs.declared.answers.CallFault.{CallFault}
use Rattle.syscall_proxy.specs.declared.calls.Calls.{Calls}
use Rattle.syscall_proxy.specs.declared.objects.Objects.{Objects}

-- where the objects stand
abbrev pub here : {P F I C : Type 0} → Objects P F I C → Kept → At P F I C Kept
here o k = at o.mem.now o.folder.now o.input.now o.console.now k

-- the same objects are lent
pub record Same {P F I C : Type 0} (o o' : Objects P F I C) : Type 0 where
  pub mem : o'.mem.ghost_name ≡ o.mem.ghost_name
  pub folder : o'.folder.ghost_name ≡ o.folder.ghost_name
  pub input : o'.input.ghost_name ≡ o.input.ghost_name
  pub console : o'.console.ghost_name ≡ o.console.ghost_name

-- the host followed this text over the objects that it was lent, whatever waits in its mailbox
abbrev pub Follows : {P F I C : Type 0} → port.Ghosts P → folder.Ghosts F → source.Ghosts I → sink.Ghosts C → Row
    → Objects P F I C → Calls → Result CallAnswer CallFault → Objects P F I C → Calls → Type 0
Follows p f i c text o k result o' k' =
    (waiting : List ℕ) → Played (acts p f i c) text (here o (kept k.numbers k.acted waiting)) result
    (here o' (kept k'.numbers k'.acted waiting))
