-- What a fault of a turn tells of the object that it blames.
use Rattle.std.specs.Prelude.{◌≡◌}
use Rattle.chunk_memory.specs.declared.stops.MemStop.{MemStop}
use Rattle.fe_base.specs.Outside.{Rose}
use Rattle.fe_base.specs.declared.outside.Source as source
use Rattle.fe_base.specs.declared.outside.Sink as sink
use Rattle.folder_tree.specs.declared.folder.Folder as folder
use Rattle.syscall_proxy.specs.declared.answers.CallFault.{CallFault}
use Rattle.syscall_proxy.specs.declared.answers.CallFault.TheVariants.{Port as CallPort, FileFault, InputFault, ConsoleFault, OutOfMemory}
use Rattle.htif_mailbox.specs.declared.answers.MailFault.{MailFault}
use Rattle.htif_mailbox.specs.declared.answers.MailFault.TheVariants.{Call, Port, BadCommand}

-- folder, input and console
pub record Outside (F I C : Type 0) : Type 0 where
  pub folder : F
  pub input : I
  pub console : C

-- these three
abbrev pub outside : {F I C : Type 0} → F → I → C → Outside F I C
outside folder input console = record { folder = folder; input = input; console = console }

-- the count that goes with a call's fault has risen
abbrev pub CallCause : {F I C : Type 0} → folder.Ghosts F → source.Ghosts I → sink.Ghosts C
    → Outside F I C → Outside F I C → CallFault → Type 0
CallCause f i c o o' (CallPort why) = Unit {0}
CallCause f i c o o' FileFault = Rose (f.faults o.folder) (f.faults o'.folder)
CallCause f i c o o' InputFault = Rose (i.faults o.input) (i.faults o'.input)
CallCause f i c o o' ConsoleFault = Rose (c.faults o.console) (c.faults o'.console)
CallCause f i c o o' OutOfMemory = Rose (f.short o.folder) (f.short o'.folder)

-- the count that goes with a fault has risen
abbrev pub HasCause : {F I C : Type 0} → folder.Ghosts F → source.Ghosts I → sink.Ghosts C
    → Outside F I C → Outside F I C → MailFault → Type 0
HasCause f i c o o' (Call fault) = CallCause f i c o o' fault
HasCause f i c o o' (Port why) = Unit {0}
HasCause f i c o o' (BadCommand word) = Unit {0}

-- the port refused
abbrev pub IsOfPort : MailFault → Type 0
IsOfPort fault = (why : MemStop) × (fault ≡ Port why)
