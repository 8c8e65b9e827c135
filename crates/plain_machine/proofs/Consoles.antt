-- What a direct step puts on the console.
use Rattle.std.proofs.Common.{◌≡◌, ◌+◌, ◌++◌, ℕ, Bool, true, false, List, [], ◌∷◌, length, Option, Some, None, refl, sym, ap, subst, ◌∙◌, arith, length-append, if◌then◌else◌}
use Rattle.std.specs.Prelude.{◌==◌}
use Rattle.std.proofs.lemmas.Bool.{eqb-true}
use Rattle.fe_base.specs.Outside.{capacity, PutSuits}
use Rattle.folder_tree.specs.Tree.{Tree}
use Rattle.host_text.specs.World.{World}
use Rattle.host_text.specs.declared.open_numbers.Open.{Open}
use Rattle.host_text.specs.declared.open_numbers.Open.TheVariants.{Closed, Input, Console, File}
use Rattle.syscall_proxy.specs.CallTable.{service_of, row_for}
use Rattle.syscall_proxy.specs.DataRows.{write_open}
use Rattle.syscall_proxy.specs.HostRow.{user_bytes, begin}
use Rattle.syscall_proxy.specs.Kept.{Setting}
use Rattle.syscall_proxy.specs.Rows.{word, low, bounded, done}
use Rattle.syscall_proxy.specs.declared.answers.CallFault.TheVariants.{Port, ConsoleFault}
use Rattle.host_text.specs.Text.{Read, Put}
use Rattle.host_text.specs.Runs.{run}
use Rattle.plain_machine.specs.Asks.{Asked, nothing, the_folder, the_input, the_console, puts_of, file_asks, read_asks, write_asks, number_of, asks_by, part_asks, user_asks, step_asks}
use Rattle.plain_machine.specs.Direct.{Machine, running, dying, ended, DirectState, after_host, after_part, after_step, machine_step, direct_step, direct_after, direct_after-next}
use Rattle.plain_machine.specs.KernelPart.{Part, gives, breaks, posts, scans}
use Rattle.plain_machine.specs.Programs.{Process, part_of}
use Rattle.plain_machine.specs.Stands.{PlainState, IsAt, HasRoomFor, asks}
use Rattle.plain_machine.specs.UserStep.{UserStep, next, call, trap, user_step}

abbrev no-file : Open → List ℕ → Type 0
no-file stands bytes = file_asks stands ≡ the_console bytes → ⊥

no-file-asks : (stands : Open) (bytes : List ℕ) → no-file stands bytes
no-file-asks Closed bytes e = cc
no-file-asks Input bytes e = cc
no-file-asks Console bytes e = cc
no-file-asks (File file) bytes e = cc

no-read-asks : (stands : Open) (count : ℕ) (bytes : List ℕ) → read_asks stands count ≡ the_console bytes → ⊥
no-read-asks Closed count bytes e = cc
no-read-asks Input count bytes e = go (count == 0) e
  where
    go : (t : Bool) → (if t then nothing else the_input) ≡ the_console bytes → ⊥
    go true h = cc
    go false h = cc
no-read-asks Console count bytes e = cc
no-read-asks (File file) count bytes e = cc

module _ (process : Process) (w : World) (user : List ℕ) (bytes : List ℕ) where
  -- a write to the console puts its buffer there
  abbrev written : Open → ℕ → ℕ → ℕ → List ℕ
  written stands fd buffer count = (after_host process w (run user_bytes (write_open stands fd buffer count) (begin w user))).world.contents.console

  write-console : (t : Bool) (buffer count : ℕ) → (if t then nothing else the_console (user_bytes.get user buffer count)) ≡ the_console bytes
      → (after_host process w (run user_bytes (if t then done 0 else Read buffer count Port (λ put. Put put ConsoleFault (done count))) (begin w user))).world.contents.console ≡ w.contents.console ++ bytes
  write-console true buffer count h = let no : ⊥ = cc in absurd no
  write-console false buffer count h = ap (λ (l : List ℕ). w.contents.console ++ l) (ap puts_of h)

  write-puts : (stands : Open) (fd buffer count : ℕ) → write_asks stands user buffer count ≡ the_console bytes → written stands fd buffer count ≡ w.contents.console ++ bytes
  write-puts Closed fd buffer count e = let no : ⊥ = cc in absurd no
  write-puts Input fd buffer count e = let no : ⊥ = cc in absurd no
  write-puts Console fd buffer count e = write-console (count == 0) buffer count e
  write-puts (File file) fd buffer count e = let no : ⊥ = cc in absurd no

  module _ (given : Setting) (request : List ℕ) where
    abbrev left : ℕ → List ℕ
    left number = (after_host process w (run user_bytes (row_for (service_of number) given w.numbers request) (begin w user))).world.contents.console

    abbrev Puts : ℕ → Asked → Type 0
    Puts number x = x ≡ the_console bytes → left number ≡ w.contents.console ++ bytes

    at-64 : Puts 64 (write_asks (number_of w.numbers request) user (word request 2) (bounded (word request 3)))
    unfolding service_of
    at-64 e = write-puts (number_of w.numbers request) (low (word request 1)) (word request 2) (bounded (word request 3)) e

    choose : (number : ℕ) (t : Bool) (one other : Asked) → (t ≡ true → Puts number one) → Puts number other → Puts number (if t then one else other)
    choose number true one other p q = p refl
    choose number false one other p q = q

    none : (number : ℕ) (x : Asked) → (x ≡ the_console bytes → ⊥) → Puts number x
    none number x never e = absurd (never e)

    by-number : (n : ℕ) → Puts n (asks_by n w.numbers request user)
    by-number n =
        let s = number_of w.numbers request in
        choose n (n == 34) the_folder _ (λ e. none n the_folder (λ h. cc)) (choose n (n == 35) the_folder _ (λ e. none n the_folder (λ h. cc))
        (choose n (n == 46) (file_asks s) _ (λ e. none n (file_asks s) (no-file-asks s bytes)) (choose n (n == 48) the_folder _ (λ e. none n the_folder (λ h. cc))
        (choose n (n == 56) the_folder _ (λ e. none n the_folder (λ h. cc)) (choose n (n == 57) (file_asks s) _ (λ e. none n (file_asks s) (no-file-asks s bytes))
        (choose n (n == 62) (file_asks s) _ (λ e. none n (file_asks s) (no-file-asks s bytes))
        (choose n (n == 63) (read_asks s (bounded (word request 3))) _ (λ e. none n (read_asks s (bounded (word request 3))) (no-read-asks s (bounded (word request 3)) bytes))
        (choose n (n == 64) (write_asks s user (word request 2) (bounded (word request 3))) _ (λ e. subst (λ k. Puts k (write_asks s user (word request 2) (bounded (word request 3)))) (sym (eqb-true n 64 e)) at-64)
        (choose n (n == 67) (file_asks s) _ (λ e. none n (file_asks s) (no-file-asks s bytes)) (choose n (n == 68) (file_asks s) _ (λ e. none n (file_asks s) (no-file-asks s bytes))
        (choose n (n == 80) (file_asks s) nothing (λ e. none n (file_asks s) (no-file-asks s bytes)) (none n nothing (λ h. cc)))))))))))))

part-puts : (given : Setting) (process : Process) (w : World) (bytes : List ℕ) (part : Part) → part_asks w.numbers process.state.user part ≡ the_console bytes
    → (after_part given process w part).world.contents.console ≡ w.contents.console ++ bytes
part-puts given process w bytes (gives answer) e = let no : ⊥ = cc in absurd no
part-puts given process w bytes (breaks moved) e = let no : ⊥ = cc in absurd no
part-puts given process w bytes (posts request) e = by-number process w process.state.user bytes given request (word request 0) e
part-puts given process w bytes scans e = let no : ⊥ = cc in absurd no

user-puts : (given : Setting) (process : Process) (w : World) (bytes : List ℕ) (u : UserStep) → user_asks w.numbers process u ≡ the_console bytes
    → (after_step given process w u).world.contents.console ≡ w.contents.console ++ bytes
user-puts given process w bytes (next moved) e = let no : ⊥ = cc in absurd no
user-puts given process w bytes call e = part-puts given process w bytes (part_of process) e
user-puts given process w bytes (trap cause value) e = let no : ⊥ = cc in absurd no

-- a direct step that puts bytes puts them behind those on the console
step-puts : (given : Setting) (m : Machine) (w : World) (bytes : List ℕ) → step_asks w.numbers m ≡ the_console bytes → (machine_step given m w).world.contents.console ≡ w.contents.console ++ bytes
step-puts given (running process) w bytes e = user-puts given process w bytes (user_step process.state) e
step-puts given (dying [] status) w bytes e = let no : ⊥ = cc in absurd no
step-puts given (dying (byte ∷ text) status) w bytes e = ap (λ (l : List ℕ). w.contents.console ++ l) (ap puts_of e)
step-puts given (ended status) w bytes e = let no : ⊥ = cc in absurd no

room-in : (held puts : List ℕ) (room : Option ℕ) → HasRoomFor (capacity (Some held) room) (length (held ++ puts)) → PutSuits room (length puts)
room-in held puts None h = h
room-in held puts (Some room) h = omega (arith, h, length-append held puts)

no-bytes : (room : Option ℕ) → PutSuits room 0
no-bytes None = tt
no-bytes (Some room) = omega arith

-- where the room suffices for the console behind the step, it suffices for what the step puts
suits-by : (given : Setting) (m : Machine) (w : World) (room : Option ℕ) (x : Asked) → step_asks w.numbers m ≡ x → HasRoomFor (capacity (Some w.contents.console) room) (length (machine_step given m w).world.contents.console)
    → PutSuits room (length (puts_of x))
suits-by given m w room nothing e h = no-bytes room
suits-by given m w room the_folder e h = no-bytes room
suits-by given m w room the_input e h = no-bytes room
suits-by given m w room (the_console bytes) e h =
    let P : List ℕ → Type 0 = λ l. HasRoomFor (capacity (Some w.contents.console) room) (length l) in
    room-in w.contents.console bytes room (subst P (step-puts given m w bytes e) h)

-- the same where a run stands
pub puts-suit : (given : Setting) (first : DirectState) (n m : ℕ) (mid : PlainState) {input console : Option (List ℕ)} {tree : Option Tree} (room : Option ℕ) (held : Option (List ℕ)) (free : Option ℕ)
    → m ≡ n + 1
    → IsAt (direct_after given n first) mid input console tree
    → capacity console room ≡ capacity held free
    → HasRoomFor (capacity held free) (length (direct_after given m first).world.contents.console)
    → PutSuits room (length (puts_of (asks mid)))
puts-suit given first n m mid {console = console} room held free more at same suffices =
    let s : DirectState = direct_after given n first in
    let reached : direct_after given m first ≡ direct_step given s = ap (λ k. direct_after given k first) more ∙ direct_after-next given n first in
    let told : capacity (Some s.world.contents.console) room ≡ capacity held free = ap (λ (c : Option (List ℕ)). capacity c room) (sym at.contents.console_told) ∙ same in
    let P : Option ℕ → Type 0 = λ c. HasRoomFor c (length (direct_step given s).world.contents.console) in
    let here : HasRoomFor (capacity (Some s.world.contents.console) room) (length (direct_step given s).world.contents.console) =
    subst P (sym told) (subst (λ (d : DirectState). HasRoomFor (capacity held free) (length d.world.contents.console)) reached suffices) in
    let asked : step_asks s.world.numbers s.machine ≡ asks mid = ap (λ (l : List Open). step_asks l s.machine) (sym at.numbers_is) ∙ ap (λ (k : Machine). step_asks mid.numbers k) (sym at.machine_is) in
    suits-by given s.machine s.world room (asks mid) asked here
