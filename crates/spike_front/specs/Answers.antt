-- Where the work stands as an answer comes, and the classes of answers that the contracts speak of.
use Rattle.std.specs.Prelude.{◌≡◌, ◌⊎◌, Bool, true, false}
use Rattle.spike_front.specs.declared.answer.Answer.{Answer}
use Rattle.spike_front.specs.declared.answer.Answer.TheVariants.{Done, Exited, Usage, NoProgram, BadElf, NoFolder}
use Rattle.spike_front.specs.declared.answer.Answer.TheVariants.{ArgsTooLong, BadAsm, StepsSpent, FileFault, InputFault}
use Rattle.spike_front.specs.declared.answer.Answer.TheVariants.{ConsoleFault, ReportFault, OutOfMemory, NotBuilt}

-- where the work stands: the words are refused; there is no file; a program's file is refused, or the folder and the
-- arguments that the program would have, or an assembly file; a listing was put; a run has gone to its end or to its
-- limit; the folder failed or there was no memory; the input or the console failed; the report's line could not be put
pub data Stage : Type 0 where
  words_refused : Stage
  file_missing : Stage
  program_refused : Stage
  setting_refused : Stage
  assembly_refused : Stage
  listing_put : Stage
  run_made : Stage
  work_stopped : Stage
  stream_failed : Stage
  report_failed : Stage

-- where the work stands as each answer comes
abbrev pub stage_of : Answer → Stage
stage_of Done = listing_put
stage_of (Exited status) = run_made
stage_of (Usage kind place) = words_refused
stage_of NoProgram = file_missing
stage_of (BadElf fault) = program_refused
stage_of NoFolder = setting_refused
stage_of (ArgsTooLong n) = setting_refused
stage_of (BadAsm line kind) = assembly_refused
stage_of (StepsSpent n) = run_made
stage_of FileFault = work_stopped
stage_of InputFault = stream_failed
stage_of ConsoleFault = stream_failed
stage_of ReportFault = report_failed
stage_of OutOfMemory = work_stopped
stage_of (NotBuilt kind) = words_refused

-- the answers to words that are no command
abbrev pub IsWordsRefusal : Answer → Type 0
IsWordsRefusal answer = stage_of answer ≡ words_refused

-- the answers by which `plain` refuses: no file, its fault, or what its program would run with
abbrev pub IsProgramRefusal : Answer → Type 0
IsProgramRefusal answer = (stage_of answer ≡ file_missing)
    ⊎ ((stage_of answer ≡ program_refused) ⊎ (stage_of answer ≡ setting_refused))

-- the answers by which `asm` refuses: no file, or a fault of its text
abbrev pub IsAssemblyRefusal : Answer → Type 0
IsAssemblyRefusal answer = (stage_of answer ≡ file_missing) ⊎ (stage_of answer ≡ assembly_refused)

-- the answers that refuse before anything is put or run: the words, a program, or an assembly file
abbrev pub IsRefusal : Answer → Type 0
IsRefusal answer = (stage_of answer ≡ words_refused) ⊎ (IsProgramRefusal answer ⊎ IsAssemblyRefusal answer)

-- the folder failed, or there was no memory
abbrev pub IsStop : Answer → Type 0
IsStop answer = stage_of answer ≡ work_stopped

-- the work was stopped so
abbrev pub is_stopped : Stage → Bool
is_stopped words_refused = false
is_stopped file_missing = false
is_stopped program_refused = false
is_stopped setting_refused = false
is_stopped assembly_refused = false
is_stopped listing_put = false
is_stopped run_made = false
is_stopped work_stopped = true
is_stopped stream_failed = false
is_stopped report_failed = false

-- the same of an answer, as a test
abbrev pub is_stop : Answer → Bool
is_stop answer = is_stopped (stage_of answer)

-- the answers that a run can have
abbrev pub IsRunAnswer : Answer → Type 0
IsRunAnswer answer = (stage_of answer ≡ run_made)
    ⊎ ((stage_of answer ≡ work_stopped) ⊎ (stage_of answer ≡ stream_failed))

-- the answers that every other yields to: a fault of the outside, or want of memory
abbrev pub Yields : Answer → Type 0
Yields answer = (stage_of answer ≡ work_stopped)
    ⊎ ((stage_of answer ≡ stream_failed) ⊎ (stage_of answer ≡ report_failed))

-- an answer is told as it is, unless its line could not be put
abbrev pub IsSaid : Answer → Answer → Type 0
IsSaid answer result = (result ≡ answer) ⊎ (result ≡ ReportFault)
