-- A host turn, as texts: what a mailbox does with the word in tohost, and with its answers for fromhost.
use Rattle.std.specs.Prelude.{ℕ, ◌+◌, ◌==◌, nat_lt, if◌then◌else◌, Bool, true, false, List, [], ◌∷◌, ◌++◌, length, drop}
use Rattle.std.specs.Int.{to_le_bytes, from_le_bytes, w64}
use Rattle.chunk_memory.specs.declared.stops.MemStop.{MemStop}
use Rattle.fe_base.specs.HostWords.{from_host}
use Rattle.host_text.specs.Text.{Text, Done, Fail, Read, Write, Take, Put, Note, Look, then_do}
use Rattle.syscall_proxy.specs.CallTable.{call_row}
use Rattle.syscall_proxy.specs.Kept.{Kept, Setting, acts, rests}
use Rattle.syscall_proxy.specs.Request.{doublewords}
use Rattle.syscall_proxy.specs.declared.answers.CallAnswer.{CallAnswer}
use Rattle.syscall_proxy.specs.declared.answers.CallAnswer.TheVariants.{Result as Value, Exit as Exits}
use Rattle.syscall_proxy.specs.declared.answers.CallFault.TheVariants.{InputFault, ConsoleFault}
use Rattle.htif_mailbox.specs.Commands.{command_of}
use Rattle.htif_mailbox.specs.declared.answers.MailFault.{MailFault}
use Rattle.htif_mailbox.specs.declared.answers.MailFault.TheVariants.{Call, Port, BadCommand}
use Rattle.htif_mailbox.specs.declared.answers.Turned.{Turned}
use Rattle.htif_mailbox.specs.declared.answers.Turned.TheVariants.{Idle, Answered, Served, Exited}
use Rattle.htif_mailbox.specs.declared.commands.Command.{Command}
use Rattle.htif_mailbox.specs.declared.commands.Command.TheVariants.{Exit, Call as CallAt, TakeByte, PutByte, Unknown}

-- what is done in a turn
abbrev pub Mail : Type 0
Mail = Text Kept Turned MailFault

-- the most answers that wait; while so many do, tohost is not read
abbrev pub most_waiting : ℕ
most_waiting = 16

-- what is answered to a system call
abbrev pub call_answer : ℕ
call_answer = 1

-- what is answered to a byte that was taken: device 1, command 0, and the byte above 0xff
abbrev pub byte_answer : ℕ → ℕ
byte_answer byte = from_host 1 0 (0x100 + byte)

-- one more answer waits
abbrev pub awaits : ℕ → Kept → Kept
awaits answer k = record k { waiting = k.waiting ++ answer ∷ [] }

-- the oldest answer waits no more
abbrev pub gone : Kept → Kept
gone k = record k { waiting = drop 1 k.waiting }

-- a call's result goes to the request's first doubleword before its answer waits; an exit is not answered
abbrev pub finish : ℕ → CallAnswer → Mail
finish place (Value value) = Write place (to_le_bytes w64 value) Port (Note (awaits call_answer) (Done Served))
finish place (Exits status) = Done (Exited status)

-- a request is carried out by its row of the call table
abbrev pub call_text : Setting → ℕ → List ℕ → Mail
call_text given place request = Look (λ k. then_do Call (call_row given k.numbers request) (finish place))

-- a request is read whole, and carried out
abbrev pub request_text : Setting → ℕ → Mail
request_text given place = Read place 64 Port (λ bytes. call_text given place (doublewords 8 bytes))

-- a byte of input is answered, and the end of input is not
abbrev pub taken : List ℕ → Kept → Kept
taken [] k = acts k
taken (byte ∷ more) k = awaits (byte_answer byte) (acts k)

-- what is done for a word
abbrev pub command_text : Setting → ℕ → Command → Mail
command_text given word (Exit status) = Note acts (Done (Exited status))
command_text given word (CallAt place) = request_text given place
command_text given word TakeByte = Take 1 (Call InputFault) (λ bytes. Note (taken bytes) (Done Served))
command_text given word (PutByte byte) = Put (byte ∷ []) (Call ConsoleFault) (Note acts (Done Served))
command_text given word Unknown = Fail (BadCommand word)

-- a word that is not 0 is cleared before it is handled
abbrev pub word_text : Setting → ℕ → ℕ → Mail
word_text given tohost word =
    if word == 0 then Done Idle else Write tohost (to_le_bytes w64 0) Port (command_text given word (command_of word))

-- tohost is read where there is room for an answer
abbrev pub room_text : Setting → ℕ → Bool → Mail
room_text given tohost true = Read tohost 8 Port (λ bytes. word_text given tohost (from_le_bytes w64 bytes))
room_text given tohost false = Done Idle

-- the part of a turn on tohost
abbrev pub serve_text : Setting → ℕ → Mail
serve_text given tohost = Note rests (Look (λ k. room_text given tohost (nat_lt (length k.waiting) most_waiting)))

-- the port's refusal is the fault of the part on fromhost
abbrev pub own : MemStop → MemStop
own why = why

-- an answer is written where fromhost is 0
abbrev pub answer_text : ℕ → ℕ → ℕ → Text Kept Bool MemStop
answer_text fromhost answer word =
    if word == 0 then Write fromhost (to_le_bytes w64 answer) own (Note gone (Done true)) else Done false

-- the oldest answer is looked at, and fromhost is read where there is one
abbrev pub give_first : ℕ → List ℕ → Text Kept Bool MemStop
give_first fromhost [] = Done false
give_first fromhost (answer ∷ later) = Read fromhost 8 own (λ bytes. answer_text fromhost answer (from_le_bytes w64 bytes))

-- the part of a turn on fromhost
abbrev pub give_text : ℕ → Text Kept Bool MemStop
give_text fromhost = Look (λ k. give_first fromhost k.waiting)

-- what a turn was that handled no command
abbrev pub gave : Bool → Turned
gave true = Answered
gave false = Idle

-- behind the part on tohost comes that on fromhost; an exit ends the turn
abbrev pub after_text : ℕ → Turned → Mail
after_text fromhost Idle = then_do Port (give_text fromhost) (λ given. Done (gave given))
after_text fromhost Answered = Done Answered
after_text fromhost Served = then_do Port (give_text fromhost) (λ given. Done Served)
after_text fromhost (Exited status) = Done (Exited status)

-- the fault of the part on tohost is the turn's
abbrev pub same_fault : MailFault → MailFault
same_fault fault = fault

-- a host turn
abbrev pub turn_text : Setting → ℕ → ℕ → Mail
turn_text given tohost fromhost = then_do same_fault (serve_text given tohost) (after_text fromhost)
