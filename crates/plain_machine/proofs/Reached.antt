-- Where a call leads, by what the host's row gave.
use Rattle.std.proofs.Common.{◌≡◌, ℕ, List, Option, Some, None, Result, Ok, Err, refl, sym, ap, subst, ◌∙◌, length, arith}
use Rattle.std.specs.Prelude.{Bool, false, OnErr}
use Rattle.fe_base.specs.declared.outside.Failed.{Failed}
use Rattle.fe_base.specs.declared.outside.Sink as sink
use Rattle.fe_base.specs.declared.outside.Source as source
use Rattle.folder_tree.specs.Paths.{Parts}
use Rattle.folder_tree.specs.Tree.{Tree}
use Rattle.folder_tree.specs.declared.folder.Folder as folder
use Rattle.host_text.specs.Outside.{HasPut}
use Rattle.host_text.specs.Runs.{Place}
use Rattle.host_text.specs.World.{Contents, World}
use Rattle.host_text.specs.declared.open_numbers.Open.{Open}
use Rattle.syscall_proxy.specs.HostRow.{host_row}
use Rattle.syscall_proxy.specs.Kept.{HostState, Kept, Setting}
use Rattle.syscall_proxy.specs.declared.answers.CallAnswer.{CallAnswer}
use Rattle.syscall_proxy.specs.declared.answers.CallAnswer.TheVariants.{Result as Value, Exit}
use Rattle.plain_machine.specs.Asks.{needs_outside, part_asks, row_asks}
use Rattle.plain_machine.specs.Direct.{Machine, running, ended, DirectState, after_answer, after_host, after_part}
use Rattle.plain_machine.specs.KernelPart.{Part, posts}
use Rattle.plain_machine.specs.Outsides.{outside, Called, InWorld}
use Rattle.plain_machine.specs.Programs.{Process, answered, replied, with_user, part_of}
use Rattle.plain_machine.specs.Rows.{RowLed, RowRan}
use Rattle.plain_machine.specs.Stands.{MachineAt, Reaches, Spares}
use Rattle.plain_machine.specs.UserStep.{UserState}
use Rattle.plain_machine.specs.declared.plain.PlainFault.{PlainFault}
use Rattle.plain_machine.specs.declared.plain.PlainFault.TheVariants.{FileFault}
use Rattle.plain_machine.proofs.Followed.{put-suited}

-- the world of told contents
abbrev in_numbers : Contents → List Open → World
in_numbers contents numbers = record { contents = contents; numbers = numbers }

-- what the row of a posted request leaves
after-posts : (given : Setting) (process : Process) (w : World) (part : Part) (request : List ℕ) (answer : CallAnswer) (after : Place (List ℕ) Kept) → part ≡ posts request
    → host_row given request w process.state.user ≡ Some (record { answer = answer; place = after }) → after_part given process w part ≡ after_answer process answer after
after-posts given process w part request answer after is row = ap (after_part given process w) is ∙ ap (after_host process w) row

-- the program has ended
pub reaches-exit : (old new : HostState) (process : Process) (request : List ℕ) (contents : Contents) (user now : List ℕ) (answer : CallAnswer) (status : ℕ) {input console : Option (List ℕ)} {tree : Option Tree}
    → RowRan old new request contents user now answer input console tree → part_of process ≡ posts request → process.state.user ≡ user → answer ≡ Exit status
    → Reaches (after_part old.given process (in_numbers contents old.numbers) (part_of process)) (ended status) new.numbers input console tree
reaches-exit old new process request contents user now answer status {input} {console} {tree} ran is bytes exits =
    let row : host_row old.given request (in_numbers contents old.numbers) process.state.user ≡ Some (record { answer = Exit status; place = ran.after }) =
    ap (host_row old.given request (in_numbers contents old.numbers)) bytes ∙ ran.row ∙ ap (λ a. Some (record { answer = a; place = ran.after })) exits in
    let there = after-posts old.given process (in_numbers contents old.numbers) (part_of process) request (Exit status) ran.after is row in
    let here : Reaches (after_answer process (Exit status) ran.after) (ended status) new.numbers input console tree = record { machine_is = refl; numbers_is = ran.numbers_is; contents = ran.told } in
    subst (λ (d : DirectState). Reaches d (ended status) new.numbers input console tree) (sym there) here

-- the program goes on with a result
pub reaches-result : (old new : HostState) (process final : Process) (request : List ℕ) (contents : Contents) (user now : List ℕ) (answer : CallAnswer) (value : ℕ) {input console : Option (List ℕ)} {tree : Option Tree}
    → RowRan old new request contents user now answer input console tree → part_of process ≡ posts request → process.state.user ≡ user → answer ≡ Value value
    → final ≡ replied (with_user process now) value
    → Reaches (after_part old.given process (in_numbers contents old.numbers) (part_of process)) (running final) new.numbers input console tree
reaches-result old new process final request contents user now answer value {input} {console} {tree} ran is bytes results same =
    let row : host_row old.given request (in_numbers contents old.numbers) process.state.user ≡ Some (record { answer = Value value; place = ran.after }) =
    ap (host_row old.given request (in_numbers contents old.numbers)) bytes ∙ ran.row ∙ ap (λ a. Some (record { answer = a; place = ran.after })) results in
    let there = after-posts old.given process (in_numbers contents old.numbers) (part_of process) request (Value value) ran.after is row in
    let last : running final ≡ running (replied (with_user process ran.after.memory) value) = ap running same ∙ ap (λ l. running (replied (with_user process l) value)) ran.user_is in
    let here : Reaches (after_answer process (Value value) ran.after) (running final) new.numbers input console tree = record { machine_is = last; numbers_is = ran.numbers_is; contents = ran.told } in
    subst (λ (d : DirectState). Reaches d (running final) new.numbers input console tree) (sym there) here

-- where nothing is told, as if it told what the row leaves
ran-of : {old new : HostState} {request : List ℕ} {contents : Contents} {user now : List ℕ} {answer : CallAnswer} (led : RowLed old new request contents user now answer)
    → RowRan old new request contents user now answer (Some led.after.contents.input) (Some led.after.contents.console) (Some led.after.contents.tree)
ran-of led = record {
  after = led.after;
  row = led.row;
  user_is = led.user_is;
  numbers_is = led.numbers_is;
  told = record { input_told = refl; console_told = refl; tree_told = refl };
}

at-of : {state : DirectState} {machine : Machine} {numbers : List Open} {input console : Option (List ℕ)} {tree : Option Tree} → Reaches state machine numbers input console tree → MachineAt state machine numbers
at-of r = record { machine_is = r.machine_is; numbers_is = r.numbers_is }

-- the same two of a call that needs neither folder nor input
pub lone-exit : (old new : HostState) (process : Process) (request : List ℕ) (contents : Contents) (user now : List ℕ) (answer : CallAnswer) (status : ℕ)
    → RowLed old new request contents user now answer → part_of process ≡ posts request → process.state.user ≡ user → answer ≡ Exit status
    → MachineAt (after_part old.given process (in_numbers contents old.numbers) (part_of process)) (ended status) new.numbers
lone-exit old new process request contents user now answer status led is bytes exits =
    at-of (reaches-exit old new process request contents user now answer status (ran-of led) is bytes exits)

pub lone-result : (old new : HostState) (process final : Process) (request : List ℕ) (contents : Contents) (user now : List ℕ) (answer : CallAnswer) (value : ℕ)
    → RowLed old new request contents user now answer → part_of process ≡ posts request → process.state.user ≡ user → answer ≡ Value value
    → final ≡ replied (with_user process now) value
    → MachineAt (after_part old.given process (in_numbers contents old.numbers) (part_of process)) (running final) new.numbers
lone-result old new process final request contents user now answer value led is bytes results same =
    at-of (reaches-result old new process final request contents user now answer value (ran-of led) is bytes results same)

-- a posted call needs what its request needs
pub posts-need : (numbers : List Open) (process : Process) (request user : List ℕ) → part_of process ≡ posts request → process.state.user ≡ user
    → needs_outside (part_asks numbers process.state.user (part_of process)) ≡ false → needs_outside (row_asks numbers request user) ≡ false
posts-need numbers process request user is bytes none =
    ap (λ (l : List ℕ). needs_outside (row_asks numbers request l)) (sym bytes) ∙ ap (λ (q : Part). needs_outside (part_asks numbers process.state.user q)) (sym is) ∙ none

-- a program whose host served its call, and that got the answer
pub served-is : (process : Process) (cpu served last : UserState) (program_break first_break value : ℕ) → process ≡ record { state = cpu; program_break = program_break; first_break = first_break }
    → served ≡ record cpu { user = served.user } → last ≡ answered served value → record { state = last; program_break = program_break; first_break = first_break } ≡ replied (with_user process served.user) value
served-is process cpu served last program_break first_break value view stays answers =
    let whole : UserState → Process = λ s. record { state = s; program_break = program_break; first_break = first_break } in
    ap whole (answers ∙ ap (λ s. answered s value) stays) ∙ ap (λ (p : Process). replied (with_user p served.user) value) (sym view)

-- what holds of a refusal holds of every answer that is one
pub on-any : {A : Type 0} (Q : Type 0) (r : Result A PlainFault) → Q → OnErr r Q
on-any Q (Ok answer) q = tt
on-any Q (Err fault) q = q

-- spared contents, by another test that comes to the same
pub moved-spares : {b : Bool} {root : Parts} {contents : Contents} {input console : Option (List ℕ)} {tree : Option Tree} → Spares b root contents input console tree
    → (b' : Bool) (root' : Parts) → b ≡ b' → root ≡ root' → Spares b' root' contents input console tree
moved-spares {root = root} {contents} {input} {console} {tree} s b' root' e under =
    subst (λ (z : Parts). Spares b' z contents input console tree) under (subst (λ (z : Bool). Spares z root contents input console tree) e s)

module _ {F I C : Type 0} (f : folder.Ghosts F) (i : source.Ghosts I) (c : sink.Ghosts C) where
  -- a step that does not call the folder stays in a world
  pub world-same : (numbers : List Open) (folder : F) (input input' : I) (console console' : C) (fault : Option PlainFault) → (fault ≡ Some FileFault → ⊥)
      → InWorld f i c numbers numbers (outside folder input console) (outside folder input' console') fault
  world-same numbers folder input input' console console' fault never = record {
    world = λ t told w. (t, told, w);
    folder_calm = λ t told w h e. never e;
    folder_steady = λ t told w h. (refl, h);
  }

  -- a byte that was put
  pub put-called : (folder : F) (input : I) (console console' : C) (bytes : List ℕ) (r : Result Unit Failed) → HasPut c console console' bytes r → r ≡ Ok tt → Called f i c (outside folder input console) (outside folder input console') None
  put-called folder input console console' bytes r did e = let d = subst (λ z. HasPut c console console' bytes z) e did in record {
    file_fault = λ e. cc;
    out_of_memory = λ e. cc;
    input_fault = λ e. cc;
    console_fault = λ e. cc;
    folder_count = omega arith;
    short_count = omega arith;
    input_count = omega arith;
    console_count = d.cause.later;
    input_calm = λ h e. cc;
    input_steady = λ h. (refl, h);
    console_steady = λ h never. let k = d.steady h (put-suited (c.room console) (c.room console') (length bytes) d.room) in (k.same, k.steady);
    console_capacity = d.capacity;
  }
