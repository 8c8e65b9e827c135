-- A session's text tells by its fault that the port had no transaction left: no other refusal has that fault.
use Rattle.std.proofs.Common.{◌≡◌, ◌%◌, ◌==◌, ◌&&◌, refl, ℕ, zero, suc, inl, inr, Bool, true, false, if◌then◌else◌, List, [], ◌∷◌}
use Rattle.std.proofs.Common.{subst}
use Rattle.std.specs.Prelude.{⊤, nat_lt, length}
use Rattle.std.specs.Int.{to_le_bytes, from_le_bytes, w64}
use Rattle.chunk_memory.specs.declared.stops.MemStop.{MemStop}
use Rattle.chunk_memory.specs.declared.stops.MemStop.TheVariants.{Spent}
use Rattle.fe_base.specs.HostWords.{device_of, command_of as command_number, payload_of}
use Rattle.fe_base.specs.MemoryMap.{fromhost, start_word, tohost}
use Rattle.folder_tree.specs.declared.folder.FolderStop.{FolderStop}
use Rattle.folder_tree.specs.declared.folder.FolderStop.TheVariants.{Failed, NoMemory}
use Rattle.host_text.specs.Shapes.{Stops, is_quiet, either, Ends, Closes, Shaped}
use Rattle.host_text.specs.Text.{Reply, Text, Done, Fail, Read, Write, Take, Put, Ask, Note, Look, then_do}
use Rattle.htif_mailbox.specs.Commands.{by_device, by_payload, command_of}
use Rattle.htif_mailbox.specs.Turns.{Mail, after_text, answer_text, command_text, finish, gave, give_first, give_text}
use Rattle.htif_mailbox.specs.Turns.{gone, most_waiting, own, request_text, room_text, same_fault, serve_text}
use Rattle.htif_mailbox.specs.Turns.{turn_text, word_text}
use Rattle.htif_mailbox.specs.declared.answers.MailFault.TheVariants.{Call, Port}
use Rattle.htif_mailbox.specs.declared.answers.Turned.{Turned}
use Rattle.htif_mailbox.specs.declared.answers.Turned.TheVariants.{Idle, Answered, Served, Exited}
use Rattle.syscall_proxy.specs.CallLaws.{call_row-row}
use Rattle.syscall_proxy.specs.CallTable.{call_row}
use Rattle.syscall_proxy.specs.Kept.{Setting}
use Rattle.syscall_proxy.specs.Request.{doublewords}
use Rattle.syscall_proxy.specs.RowShapes.{stops, Marks, IsResult}
use Rattle.syscall_proxy.specs.Rows.{folder_fault}
use Rattle.syscall_proxy.specs.declared.answers.CallAnswer.{CallAnswer}
use Rattle.syscall_proxy.specs.declared.answers.CallAnswer.TheVariants.{Result as Value, Exit as Exits}
use Rattle.syscall_proxy.specs.declared.answers.CallFault.TheVariants.{Port as CallPort, InputFault, ConsoleFault}
use Rattle.tether_base.specs.Tethered.{IsSpent}
use Rattle.tether_base.specs.Texts.{Range, load_text, session_text, turns_text, unless_exited}

-- of these faults, a port's refusal is one only where it is Spent, and no other object's is
abbrev pub TellsSpent : {H A E : Type 0} → (E → Type 0) → Text H A E → Type 0
TellsSpent spent (Done a) = ⊤
TellsSpent spent (Fail e) = ⊤
TellsSpent spent (Read place count stop k) =
    ((why : MemStop) → spent (stop why) → why ≡ Spent) × ((bytes : List ℕ) → TellsSpent spent (k bytes))
TellsSpent spent (Write place bytes stop k) =
    ((why : MemStop) → spent (stop why) → why ≡ Spent) × TellsSpent spent k
TellsSpent spent (Take count stop k) = (spent stop → ⊥) × ((bytes : List ℕ) → TellsSpent spent (k bytes))
TellsSpent spent (Put bytes stop k) = (spent stop → ⊥) × TellsSpent spent k
TellsSpent spent (Ask q stop k) =
    ((why : FolderStop) → spent (stop why) → ⊥) × ((reply : Reply q) → TellsSpent spent (k reply))
TellsSpent spent (Note g k) = TellsSpent spent k
TellsSpent {H} spent (Look k) = (h : H) → TellsSpent spent (k h)

-- one text after another
pub then-tells : {H A B D E : Type 0} (spent : E → Type 0) (f : D → E) (k : A → Text H B E) (t : Text H A D)
    → TellsSpent (λ d. spent (f d)) t → ((a : A) → TellsSpent spent (k a)) → TellsSpent spent (then_do f t k)
then-tells spent f k (Done a) told more = more a
then-tells spent f k (Fail e) told more = tt
then-tells spent f k (Read place count stop next) told more =
    (told.0, λ bytes. then-tells spent f k (next bytes) (told.1 bytes) more)
then-tells spent f k (Write place bytes stop next) told more = (told.0, then-tells spent f k next told.1 more)
then-tells spent f k (Take count stop next) told more =
    (told.0, λ bytes. then-tells spent f k (next bytes) (told.1 bytes) more)
then-tells spent f k (Put bytes stop next) told more = (told.0, then-tells spent f k next told.1 more)
then-tells spent f k (Ask q stop next) told more =
    (told.0, λ reply. then-tells spent f k (next reply) (told.1 reply) more)
then-tells spent f k (Note g next) told more = then-tells spent f k next told more
then-tells spent f k (Look next) told more = λ h. then-tells spent f k (next h) (told h) more

-- by a test
if-tells : {H A E : Type 0} (spent : E → Type 0) (b : Bool) (t u : Text H A E) → TellsSpent spent t
    → TellsSpent spent u → TellsSpent spent (if b then t else u)
if-tells spent true t u one other = one
if-tells spent false t u one other = other

-- ---- the rows of the call table
by-either : (b : Bool) {P Q G : Type 0} → either b P Q → (P → G) → (Q → G) → G
by-either true e f g = f e
by-either false e f g = g e

module _ {H A E : Type 0} (z : Stops E) (marks : (H → H) → Type 0) (answers : A → Type 0) (spent : E → Type 0)
    (port_tells : (why : MemStop) → spent (z.port why) → why ≡ Spent)
    (folder_never : (why : FolderStop) → spent (z.folder why) → ⊥) (input_never : spent z.input → ⊥)
    (console_never : spent z.console → ⊥) where
  by-port : (stop : MemStop → E) → stop ≡ z.port → (why : MemStop) → spent (stop why) → why ≡ Spent
  by-port stop is why s = port_tells why (subst (λ (g : MemStop → E). spent (g why)) is s)

  ends-tells : (t : Text H A E) → Ends z marks answers t → TellsSpent spent t
  ends-tells (Done a) shape = tt
  ends-tells (Fail e) shape = absurd shape
  ends-tells (Read place count stop k) shape = absurd shape
  ends-tells (Write place bytes stop k) shape = (by-port stop shape.0, ends-tells k shape.1)
  ends-tells (Take count stop k) shape = absurd shape
  ends-tells (Put bytes stop k) shape = absurd shape
  ends-tells (Ask q stop k) shape = absurd shape
  ends-tells (Note g k) shape = absurd shape
  ends-tells (Look k) shape = absurd shape

  closes-tells : (t : Text H A E) → Closes z marks answers t → TellsSpent spent t
  closes-tells (Done a) shape = absurd shape
  closes-tells (Fail e) shape = absurd shape
  closes-tells (Read place count stop k) shape = absurd shape
  closes-tells (Write place bytes stop k) shape = absurd shape
  closes-tells (Take count stop k) shape = absurd shape
  closes-tells (Put bytes stop k) shape = absurd shape
  closes-tells (Ask q stop k) shape = absurd shape
  closes-tells (Note g k) shape = ends-tells k shape.1
  closes-tells (Look k) shape = absurd shape

  pub shaped-tells : (t : Text H A E) → Shaped z marks answers t → TellsSpent spent t
  shaped-tells (Done a) shape = absurd shape
  shaped-tells (Fail e) shape = absurd shape
  shaped-tells (Read place count stop k) shape =
      (by-port stop shape.0, λ bytes. shaped-tells (k bytes) (shape.1 bytes))
  shaped-tells (Write place bytes stop k) shape = absurd shape
  shaped-tells (Take count stop k) shape =
      (λ s. input_never (subst spent shape.0 s), λ bytes. closes-tells (k bytes) (shape.1 bytes))
  shaped-tells (Put bytes stop k) shape =
      (λ s. console_never (subst spent shape.0 s), closes-tells k shape.1)
  shaped-tells (Ask q stop k) shape = (
    λ why s. folder_never why (subst (λ (g : FolderStop → E). spent (g why)) shape.0 s),
    λ reply. by-either (is_quiet q) shape.1 (λ more. shaped-tells (k reply) (more reply))
        (λ more. closes-tells (k reply) (more reply)),
  )
  shaped-tells (Note g k) shape = ends-tells k shape.1
  shaped-tells (Look k) shape = absurd shape

-- ---- the faults of a host turn
port-tells : (why : MemStop) → IsSpent (Port why) → why ≡ Spent
port-tells why (inl e) = let same : ◌≡◌ {A = MemStop} why Spent = cc in same
port-tells why (inr e) = let no : ⊥ = cc in absurd no

call-tells : (why : MemStop) → IsSpent (Call (CallPort why)) → why ≡ Spent
call-tells why (inl e) = let no : ⊥ = cc in absurd no
call-tells why (inr e) = let same : ◌≡◌ {A = MemStop} why Spent = cc in same

folder-never : (why : FolderStop) → IsSpent (Call (folder_fault why)) → ⊥
folder-never Failed (inl e) = let no : ⊥ = cc in no
folder-never Failed (inr e) = let no : ⊥ = cc in no
folder-never NoMemory (inl e) = let no : ⊥ = cc in no
folder-never NoMemory (inr e) = let no : ⊥ = cc in no

input-never : IsSpent (Call InputFault) → ⊥
input-never (inl e) = let no : ⊥ = cc in no
input-never (inr e) = let no : ⊥ = cc in no

console-never : IsSpent (Call ConsoleFault) → ⊥
console-never (inl e) = let no : ⊥ = cc in no
console-never (inr e) = let no : ⊥ = cc in no

-- ---- a session's text
finish-tells : (place : ℕ) (a : CallAnswer) → TellsSpent IsSpent (finish place a)
finish-tells place (Value value) = (port-tells, tt)
finish-tells place (Exits status) = tt

request-tells : (given : Setting) (place : ℕ) → TellsSpent IsSpent (request_text given place)
request-tells given place = (
  port-tells,
  λ bytes k. then-tells IsSpent Call (finish place) (call_row given k.numbers (doublewords 8 bytes))
      (shaped-tells stops Marks IsResult (λ fault. IsSpent (Call fault)) call-tells folder-never input-never
      console-never (call_row given k.numbers (doublewords 8 bytes))
      (call_row-row given k.numbers (doublewords 8 bytes))) (finish-tells place),
)

-- what a word of device 0 asks for, by its payload
payload-tells : (given : Setting) (word payload : ℕ) (b : Bool) → (payload % 2 == 1) ≡ b
    → TellsSpent IsSpent (command_text given word (by_payload payload))
payload-tells given word payload true e = rw e tt
payload-tells given word payload false e = rw e (request-tells given payload)

-- what any word asks for, by its fields
device-tells : (given : Setting) (word device command payload : ℕ) (a b c : Bool)
    → (device == 0 && command == 0) ≡ a → (device == 1 && command == 0) ≡ b → (device == 1 && command == 1) ≡ c
    → TellsSpent IsSpent (command_text given word (by_device device command payload))
device-tells given word device command payload true b c e f g =
    rw e (payload-tells given word payload (payload % 2 == 1) refl)
device-tells given word device command payload false true c e f g = rw (e, f) (input-never, λ bytes. tt)
device-tells given word device command payload false false true e f g = rw (e, f, g) (console-never, tt)
device-tells given word device command payload false false false e f g = rw (e, f, g) tt

command-tells : (given : Setting) (word : ℕ) → TellsSpent IsSpent (command_text given word (command_of word))
unfolding command_of
command-tells given word =
    device-tells given word (device_of word) (command_number word) (payload_of word)
    (device_of word == 0 && command_number word == 0) (device_of word == 1 && command_number word == 0)
    (device_of word == 1 && command_number word == 1) refl refl refl

word-tells : (given : Setting) (place word : ℕ) → TellsSpent IsSpent (word_text given place word)
word-tells given place word =
    if-tells IsSpent (word == 0) (Done Idle)
    (Write place (to_le_bytes w64 0) Port (command_text given word (command_of word))) tt
    (port-tells, command-tells given word)

room-tells : (given : Setting) (place : ℕ) (room : Bool) → TellsSpent IsSpent (room_text given place room)
room-tells given place true = (port-tells, λ bytes. word-tells given place (from_le_bytes w64 bytes))
room-tells given place false = tt

serve-tells : (given : Setting) (place : ℕ) → TellsSpent IsSpent (serve_text given place)
serve-tells given place = λ k. room-tells given place (nat_lt (length k.waiting) most_waiting)

answer-tells : (place answer word : ℕ) → TellsSpent (λ why. IsSpent (Port why)) (answer_text place answer word)
answer-tells place answer word =
    if-tells (λ why. IsSpent (Port why)) (word == 0) (Write place (to_le_bytes w64 answer) own (Note gone (Done true)))
    (Done false) (port-tells, tt) tt

first-tells : (place : ℕ) (waiting : List ℕ) → TellsSpent (λ why. IsSpent (Port why)) (give_first place waiting)
first-tells place [] = tt
first-tells place (answer ∷ later) = (port-tells, λ bytes. answer-tells place answer (from_le_bytes w64 bytes))

give-tells : (place : ℕ) → TellsSpent (λ why. IsSpent (Port why)) (give_text place)
give-tells place = λ k. first-tells place k.waiting

after-tells : (place : ℕ) (turned : Turned) → TellsSpent IsSpent (after_text place turned)
after-tells place Idle =
    then-tells IsSpent Port (λ given. Done (gave given)) (give_text place) (give-tells place) (λ given. tt)
after-tells place Answered = tt
after-tells place Served =
    then-tells IsSpent Port (λ given. Done Served) (give_text place) (give-tells place) (λ given. tt)
after-tells place (Exited status) = tt

unless-tells : (turned : Turned) (next : Mail) → TellsSpent IsSpent next
    → TellsSpent IsSpent (unless_exited turned next)
unless-tells (Exited status) next told = tt
unless-tells Idle next told = told
unless-tells Answered next told = told
unless-tells Served next told = told

turn-tells : (given : Setting) → TellsSpent IsSpent (turn_text given tohost fromhost)
turn-tells given =
    then-tells IsSpent same_fault (after_text fromhost) (serve_text given tohost) (serve-tells given tohost)
    (after-tells fromhost)

turns-tell : (given : Setting) (n : ℕ) → TellsSpent IsSpent (turns_text given n)
unfolding turns_text
turns-tell given zero = tt
turns-tell given (suc n) =
    then-tells IsSpent same_fault (λ turned. unless_exited turned (turns_text given n))
    (turn_text given tohost fromhost) (turn-tells given)
    (λ turned. unless-tells turned (turns_text given n) (turns-tell given n))

load-tells : (ranges : List Range) (next : Mail) → TellsSpent IsSpent next → TellsSpent IsSpent (load_text ranges next)
load-tells [] next told = told
load-tells (range ∷ more) next told = (port-tells, load-tells more next told)

pub session-tells : (given : Setting) (ranges : List Range) (n : ℕ) → TellsSpent IsSpent (session_text given ranges n)
session-tells given ranges n =
    load-tells ranges (Write start_word (to_le_bytes w64 1) Port (turns_text given n)) (port-tells, turns-tell given n)
