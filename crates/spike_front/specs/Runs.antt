-- What a run of `plain` leaves and answers, by the direct run.
use Rattle.std.specs.Prelude.{◌≡◌, ◌≢◌, ◌≤◌, ◌<◌, ◌+◌, ◌↔◌, ◌==◌, ◌&&◌, ◌||◌, ℕ, Bool, true, List, [], length, Option}
use Rattle.std.specs.Prelude.{None, Some, if◌then◌else◌}
use Rattle.elf_loader.specs.declared.image.Image.{Image}
use Rattle.fe_base.specs.Outside.{capacity}
use Rattle.fe_base.specs.declared.outside.Sink as sink
use Rattle.fe_base.specs.declared.outside.Source as source
use Rattle.folder_tree.specs.Paths.{Parts}
use Rattle.folder_tree.specs.Tree.{Tree, IsWellFormed}
use Rattle.folder_tree.specs.declared.folder.Folder as folder
use Rattle.host_text.specs.World.{Contents}
use Rattle.plain_machine.specs.Asks.{Asked, asks_folder, asks_input, puts_of, step_asks, step_cuts}
use Rattle.plain_machine.specs.Direct.{Machine, status_of}
use Rattle.plain_machine.specs.Outsides.{Outside}
use Rattle.plain_machine.specs.Stands.{HasRoomFor, NeverAsks, NeverPuts, RanOf, Spares, Tells}
use Rattle.plain_machine.specs.Starts.{Configuration, direct_start, setting_of, state_after}
use Rattle.plain_machine.specs.declared.plain.PlainFault.{PlainFault}
use Rattle.plain_machine.specs.declared.plain.PlainFault.TheVariants.{FileFault as FileStop, InputFault as InputStop}
use Rattle.plain_machine.specs.declared.plain.PlainFault.TheVariants.{ConsoleFault as ConsoleStop}
use Rattle.plain_machine.specs.declared.plain.PlainFault.TheVariants.{OutOfMemory as MemoryStop}
use Rattle.plain_machine.specs.declared.plain.PlainEnd.{PlainEnd}
use Rattle.plain_machine.specs.declared.plain.PlainEnd.TheVariants.{Exited as EndExited, StepsSpent as EndSpent}
use Rattle.plain_machine.specs.declared.plain.PlainEnd.TheVariants.{Fault as EndFault}
use Rattle.spike_front.specs.declared.answer.Answer.{Answer}
use Rattle.spike_front.specs.declared.answer.Answer.TheVariants.{Exited, StepsSpent, FileFault, InputFault}
use Rattle.spike_front.specs.declared.answer.Answer.TheVariants.{ConsoleFault, OutOfMemory}
use Rattle.spike_front.specs.Answers.{IsRunAnswer, IsSaid, is_stop}
use Rattle.spike_front.specs.Causes.{RoseFor}
use Rattle.spike_front.specs.Plans.{plan_of, run}
use Rattle.spike_front.specs.Report.{Reported}

-- a run: the configuration that it is of, and the most steps that it may make
pub record RunCase : Type 0 where
  pub start : Configuration
  pub limit : ℕ

-- the run of this image with these arguments, under this path, from these contents and with this limit
abbrev pub case_of : Image → List (List ℕ) → Parts → Contents → ℕ → RunCase
case_of image args root contents limit =
    record { start = record { image = image; args = args; root = root; contents = contents }; limit = limit }

-- the words ask for this run, and the objects tell its contents, whose tree is well formed
pub record Asks (words : List (List ℕ)) (c : RunCase) (input console : Option (List ℕ)) (tree : Option Tree)
    : Type 0 where
  pub formed : IsWellFormed c.start.contents.tree
  pub told : Tells c.start.contents input console tree
  pub planned : plan_of words c.start.contents.tree ≡ run c.start.image c.start.args c.start.root c.limit

-- what the step behind so many of a configuration's direct run asks of the outside
abbrev pub asked_after : ℕ → Configuration → Asked
asked_after steps start = step_asks (state_after steps start).world.numbers (state_after steps start).machine

-- a file may be open once more: the folder failed, or there was no memory, before the first step or at an openat that
-- takes the file's bytes away
abbrev pub may_open : Answer → ℕ → Machine → Bool
may_open answer steps machine = is_stop answer && (steps == 0 || step_cuts machine)

-- where that file stands: anywhere before the first step, where the files of the words are read, and then below the
-- program's root
abbrev pub opens_under : ℕ → Parts → Parts
opens_under steps root = if steps == 0 then [] else root

-- how many steps were tried where so many were made: where no end of the program or of the steps is answered, one more,
-- which was not made
abbrev pub tried_for : Answer → ℕ → ℕ
tried_for (Exited status) steps = steps
tried_for (StepsSpent n) steps = steps
tried_for _ steps = steps + 1

-- A run of `plain` has this answer after so many steps: it leaves what every run leaves, and of input, console and tree
-- all that the direct run has there, but for one open more; and it comes to its limit where the answer says so.
pub record PlainRun (c : RunCase) (answer : Answer) (steps : ℕ) (input console : Option (List ℕ)) (tree : Option Tree)
    : Type 0 where
  pub ran : RanOf c.start steps (λ status. answer ≡ Exited status) input console tree
  pub spared : Spares (may_open answer steps (state_after steps c.start).machine) (opens_under steps c.start.root)
      (state_after steps c.start).world.contents input console tree
  pub within : steps ≤ c.limit
  pub spent : (n : ℕ) → (answer ≡ StepsSpent n) ↔ ((n ≡ c.limit) × (steps ≡ c.limit)
      × (status_of (state_after steps c.start).machine ≡ None))
  pub answers : IsRunAnswer answer

-- when an answer of a run may come: a fault of an object, and want of memory behind the first step, where the next step
-- asks that object, or the folder
pub record IsTimely (c : RunCase) (answer : Answer) (steps : ℕ) : Type 0 where
  pub input_asked : answer ≡ InputFault → asks_input (asked_after steps c.start) ≡ true
  pub console_asked : answer ≡ ConsoleFault → puts_of (asked_after steps c.start) ≢ []
  pub file_asked : answer ≡ FileFault → 0 < steps → asks_folder (asked_after steps c.start) ≡ true
  pub memory_asked : answer ≡ OutOfMemory → 0 < steps → asks_folder (asked_after steps c.start) ≡ true

module _ {F I C : Type 0} (f : folder.Ghosts F) (i : source.Ghosts I) (c : sink.Ghosts C) where
  -- no count falls, and each fault, and want of memory behind the first step, comes only where its own count rose
  pub record HasRunCauses (old new : Outside F I C) (answer : Answer) (steps : ℕ) : Type 0 where
    pub file : RoseFor (answer ≡ FileFault) (f.faults old.folder) (f.faults new.folder)
    pub memory : RoseFor ((answer ≡ OutOfMemory) × (0 < steps)) (f.short old.folder) (f.short new.folder)
    pub input : RoseFor (answer ≡ InputFault) (i.faults old.input) (i.faults new.input)
    pub console : RoseFor (answer ≡ ConsoleFault) (c.faults old.console) (c.faults new.console)

  -- a steady console fails no run for which its room suffices: the room for what the direct run has put after one step
  -- more than were made
  abbrev pub ConsoleSuits : RunCase → C → ℕ → Answer → Type 0
  ConsoleSuits d console steps answer =
      c.steady console → HasRoomFor (capacity (c.held console) (c.room console))
      (length (state_after (steps + 1) d.start).world.contents.console) → answer ≡ ConsoleFault → ⊥

  -- steady objects fail no run
  pub record IsCalm (d : RunCase) (old : Outside F I C) (answer : Answer) (steps : ℕ) : Type 0 where
    pub folder : f.steady old.folder → answer ≡ FileFault → ⊥
    pub input : i.steady old.input → answer ≡ InputFault → ⊥
    pub console : ConsoleSuits d old.console steps answer

  -- the input and the console are as they were where none of the steps that were tried asks them
  pub record LeavesUnasked (d : RunCase) (old new : Outside F I C) (answer : Answer) (steps : ℕ) : Type 0 where
    pub input : NeverAsks asks_input (setting_of d.start) (direct_start d.start) (tried_for answer steps)
        → new.input ≡ old.input
    pub console : NeverPuts (setting_of d.start) (direct_start d.start) (tried_for answer steps)
        → new.console ≡ old.console

  -- A run that the words ask for is answered so, and a report that was told one text tells another: before the report
  -- there is one answer after so many steps. It is a run of `plain`, and the report tells its steps; each of its faults
  -- has its time and its cause, steady objects do not fail it, and what no step asks stays.
  pub record IsAnsweredRun (d : RunCase) (old new : Outside F I C) (result : Answer) (before after : Option (List ℕ))
      : Type 0 where
    pub answer : Answer
    pub steps : ℕ
    pub ran : PlainRun d answer steps (i.left new.input) (c.held new.console) (f.tree new.folder)
    pub said : IsSaid answer result
    pub reported : Reported result (Some steps) before after
    pub timely : IsTimely d answer steps
    pub causes : HasRunCauses old new answer steps
    pub calm : IsCalm d old answer steps
    pub unasked : LeavesUnasked d old new answer steps

-- how what stopped a run is answered
abbrev pub answer_of_stop : PlainFault → Answer
answer_of_stop FileStop = FileFault
answer_of_stop InputStop = InputFault
answer_of_stop ConsoleStop = ConsoleFault
answer_of_stop MemoryStop = OutOfMemory

-- how the end of a run to this limit is answered
abbrev pub answer_of : ℕ → PlainEnd → Answer
answer_of limit (EndExited status) = Exited status
answer_of limit EndSpent = StepsSpent limit
answer_of limit (EndFault fault) = answer_of_stop fault
