-- What the host's call of a posted request comes to.
use Rattle.std.specs.Prelude.{◌≡◌, ℕ, ◌-◌, ◌^◌, List, Option, Some, Result, Ok, Err}
use Rattle.fe_base.specs.ErrorNumbers.{error_number}
use Rattle.fe_base.specs.declared.error_numbers.ErrNo.TheVariants.{EFAULT}
use Rattle.folder_tree.specs.Tree.{Tree}
use Rattle.host_text.specs.Runs.{Place}
use Rattle.host_text.specs.World.{Contents}
use Rattle.syscall_proxy.specs.CallTable.{service_of}
use Rattle.syscall_proxy.specs.HostRow.{host_row}
use Rattle.syscall_proxy.specs.CallLaws.{AsksInside}
use Rattle.syscall_proxy.specs.Kept.{Kept, HostState, Setting}
use Rattle.syscall_proxy.specs.Rows.{word}
use Rattle.syscall_proxy.specs.declared.answers.CallAnswer.{CallAnswer}
use Rattle.syscall_proxy.specs.declared.answers.CallAnswer.TheVariants.{Result as Value}
use Rattle.syscall_proxy.specs.declared.answers.CallFault.{CallFault}
use Rattle.syscall_proxy.specs.declared.answers.CallFault.TheVariants as call
use Rattle.plain_machine.specs.Stands.{Tells}
use Rattle.plain_machine.specs.declared.plain.PlainFault.{PlainFault}
use Rattle.plain_machine.specs.declared.plain.PlainFault.TheVariants.{FileFault, InputFault, ConsoleFault, OutOfMemory}

-- the range that a request names stands in the user area
abbrev pub IsInside : Setting → List ℕ → Type 0
IsInside given request = AsksInside (service_of (word request 0)) given request

-- The host's row of a request, over these contents and user bytes, gave this answer, and led to the host, the user
-- bytes and the told contents that are found.
pub record RowRan (old new : HostState) (request : List ℕ) (contents : Contents) (user user_now : List ℕ)
    (answer : CallAnswer)
    (input console : Option (List ℕ)) (tree : Option Tree) : Type 0 where
  pub after : Place (List ℕ) Kept
  pub row : host_row old.given request (record { contents = contents; numbers = old.numbers }) user
      ≡ Some (record { answer = answer; place = after })
  pub user_is : user_now ≡ after.memory
  pub numbers_is : new.numbers ≡ after.kept.numbers
  pub told : Tells after.contents input console tree

-- the same of the host and the user bytes alone, where nothing is told
pub record RowLed (old new : HostState) (request : List ℕ) (contents : Contents) (user user_now : List ℕ)
    (answer : CallAnswer) : Type 0 where
  pub after : Place (List ℕ) Kept
  pub row : host_row old.given request (record { contents = contents; numbers = old.numbers }) user
      ≡ Some (record { answer = answer; place = after })
  pub user_is : user_now ≡ after.memory
  pub numbers_is : new.numbers ≡ after.kept.numbers

-- what a call came to, as its step has it; memory that is refused is answered EFAULT
abbrev pub step_result : Result CallAnswer CallFault → Result CallAnswer PlainFault
step_result (Ok answer) = Ok answer
step_result (Err (call.Port why)) = Ok (Value (2 ^ 64 - error_number EFAULT))
step_result (Err call.FileFault) = Err FileFault
step_result (Err call.InputFault) = Err InputFault
step_result (Err call.ConsoleFault) = Err ConsoleFault
step_result (Err call.OutOfMemory) = Err OutOfMemory
