-- The bytes of a message are bytes, and the words that post them and the exit ask for what they are to.
use Rattle.std.proofs.Common.{◌≡◌, ◌≢◌, ◌<◌, ◌+◌, ◌*◌, ◌/◌, ◌%◌, ◌^◌, ◌==◌, ◌&&◌, ℕ, zero, suc, Bool, true, false, List}
use Rattle.std.proofs.Common.{[], ◌∷◌, ◌++◌, refl, sym, ap, subst, ◌∙◌, arith}
use Rattle.std.specs.Prelude.{codes, if◌then◌else◌, nat_lt, slice_index, ⊤}
use Rattle.std.specs.Fmt.{digit_glyph}
use Rattle.std.proofs.lemmas.Bool.{eq-eqb, ltb-true}
use Rattle.fe_base.specs.Digits.{hexadecimal}
use Rattle.fe_base.specs.HostWords.{device_of, command_of as command_number, payload_of}
use Rattle.host_text.specs.World.{World}
use Rattle.host_text.specs.Text.{Done, Note, Put}
use Rattle.htif_mailbox.specs.Commands.{by_device, by_payload, command_of}
use Rattle.htif_mailbox.specs.Turns.{Mail, command_text}
use Rattle.htif_mailbox.specs.declared.answers.MailFault.TheVariants.{Call}
use Rattle.htif_mailbox.specs.declared.answers.Turned.TheVariants.{Exited, Served}
use Rattle.kernel_sim.specs.Phases.{console_word, message}
use Rattle.kernel_sim.specs.Stores.{exit_status, exit_word}
use Rattle.kernel_sim.specs.declared.phase.Spoken.{Spoken}
use Rattle.plain_machine.specs.Direct.{DirectState, Machine, running, dying, ended, in_world, after_answer, after_host}
use Rattle.plain_machine.specs.Direct.{after_part, after_step, after_trap, direct_after, direct_step, machine_step}
use Rattle.plain_machine.specs.KernelPart.{Part, gives, breaks, posts, scans}
use Rattle.plain_machine.specs.Messages.{counter_text, is_counter_access, trap_text}
use Rattle.plain_machine.specs.Programs.{Process, part_of}
use Rattle.plain_machine.specs.UserStep.{UserStep, next, call, trap, user_step}
use Rattle.rv_alu.specs.Causes.{cause_number}
use Rattle.rv_alu.specs.declared.causes.Cause.{Cause}
use Rattle.rv_alu.specs.declared.causes.Cause.TheVariants.{Misaligned, FetchAccess, Illegal, Breakpoint, LoadAccess}
use Rattle.rv_alu.specs.declared.causes.Cause.TheVariants.{StoreAccess, UserCall, MachineCall}
use Rattle.host_text.specs.Runs.{End, Place}
use Rattle.syscall_proxy.specs.HostRow.{host_row}
use Rattle.syscall_proxy.specs.Kept.{Kept, Setting, acts}
use Rattle.syscall_proxy.specs.declared.answers.CallAnswer.{CallAnswer}
use Rattle.syscall_proxy.specs.declared.answers.CallAnswer.TheVariants.{Result as Value, Exit}
use Rattle.syscall_proxy.specs.declared.answers.CallFault.TheVariants.{ConsoleFault}
use Rattle.std.specs.Prelude.{Option, Some, None}
use Rattle.tether_traps.specs.Handling.{StartsRunning}

-- ---- bytes
abbrev Small : List ℕ → Type 0
Small [] = ⊤
Small (byte ∷ more) = (byte < 256) × Small more

small-append : (xs ys : List ℕ) → Small xs → Small ys → Small (xs ++ ys)
small-append [] ys a b = b
small-append (x ∷ xs) ys a b = (a.0, small-append xs ys a.1 b)

abbrev all-small : List ℕ → Bool
all-small [] = true
all-small (byte ∷ more) = if nat_lt byte 256 then all-small more else false

if-both : (b c : Bool) → (if b then c else false) ≡ true → (b ≡ true) × (c ≡ true)
if-both true c e = (refl, e)
if-both false c e = let no : ⊥ = cc in absurd no

test-small : (l : List ℕ) → all-small l ≡ true → Small l
test-small [] e = tt
test-small (byte ∷ more) e =
    let both = if-both (nat_lt byte 256) (all-small more) e in
    (ltb-true byte 256 both.0, test-small more both.1)

small-at : (l : List ℕ) (n : ℕ) → Small l → slice_index l n < 256
small-at [] n s = omega arith
small-at (x ∷ l) zero s = s.0
small-at (x ∷ l) (suc n) s = small-at l n s.1

glyph-by : (low : Bool) (d : ℕ) → d < 16 → (if low then 48 + d else 87 + d) < 256
glyph-by true d small = omega arith
glyph-by false d small = omega arith

glyph-small : (d : ℕ) → d < 16 → digit_glyph false d < 256
glyph-small d small = glyph-by (nat_lt d 10) d small

hexadecimal-small : (count number : ℕ) → Small (hexadecimal count number)
unfolding hexadecimal
hexadecimal-small zero number = tt
hexadecimal-small (suc count) number =
    small-append (hexadecimal count (number / 16)) (digit_glyph false (number % 16) ∷ [])
    (hexadecimal-small count (number / 16)) (glyph-small (number % 16) (omega arith), tt)

counter-small : (pc : ℕ) → Small (counter_text pc)
counter-small pc =
    small-append (codes "pk: counter read at ") (hexadecimal 16 pc ++ codes "\n")
    (test-small (codes "pk: counter read at ") refl)
    (small-append (hexadecimal 16 pc) (codes "\n") (hexadecimal-small 16 pc) (test-small (codes "\n") refl))

trap-small : (cause pc value : ℕ) → Small (trap_text cause pc value)
trap-small cause pc value =
    let ending : List ℕ = hexadecimal 16 value ++ codes "\n" in
    let valued : List ℕ = codes " value " ++ ending in
    let placed : List ℕ = hexadecimal 16 pc ++ valued in
    let named : List ℕ = codes " at " ++ placed in
    let ends : Small ending = small-append (hexadecimal 16 value) (codes "\n") (hexadecimal-small 16 value)
    (test-small (codes "\n") refl) in
    let values : Small valued = small-append (codes " value ") ending (test-small (codes " value ") refl) ends in
    let places : Small placed = small-append (hexadecimal 16 pc) valued (hexadecimal-small 16 pc) values in
    let names : Small named = small-append (codes " at ") placed (test-small (codes " at ") refl) places in
    small-append (codes "pk: trap ") (hexadecimal 2 cause ++ named) (test-small (codes "pk: trap ") refl)
    (small-append (hexadecimal 2 cause) named (hexadecimal-small 2 cause) names)

message-by : (counter : Bool) (cause at value : ℕ)
    → Small (if counter then counter_text at else trap_text cause at value)
message-by true cause at value = counter-small at
message-by false cause at value = trap-small cause at value

pub message-byte : (text : Spoken) (n : ℕ) → slice_index (message text) n < 256
message-byte text n = small-at (message text) n (message-by text.counter text.cause text.at text.value)

-- ---- words
pub console-some : (byte : ℕ) → byte < 256 → console_word byte ≢ 0
console-some byte small e = omega arith

-- a byte is put, and an exit is handled
abbrev pub put_text : ℕ → Mail
put_text byte = Put (byte ∷ []) (Call ConsoleFault) (Note acts (Done Served))

abbrev pub exit_text : ℕ → Mail
exit_text status = Note acts (Done (Exited status))

pub console-command : (given : Setting) (word byte : ℕ) → byte < 256
    → command_text given word (command_of (console_word byte)) ≡ put_text byte
unfolding command_of
console-command given word byte small =
    let posted : ℕ = console_word byte in
    let is : posted ≡ byte + 0x0101000000000000 = omega arith in
    let device : device_of posted ≡ 1 = omega arith in
    let above : posted / 2 ^ 48 ≡ 0x101 = omega arith in
    let number : command_number posted ≡ 1 = ap (λ (n : ℕ). n % 256) above in
    let payload : payload_of posted ≡ byte = omega arith in
    ap (λ (n : ℕ). command_text given word (by_device n (command_number posted) (payload_of posted))) device
    ∙ ap (λ (n : ℕ). command_text given word (by_device 1 n (payload_of posted))) number
    ∙ ap (λ (n : ℕ). put_text (n % 256)) payload
    ∙ ap (λ (n : ℕ). put_text n) (let e : byte % 256 ≡ byte = omega arith in e)

odd-payload : (given : Setting) (word payload : ℕ) → (payload % 2 == 1) ≡ true
    → command_text given word (by_payload payload) ≡ exit_text (payload / 2 % 256)
odd-payload given word payload e = rw e refl

exit-by : (given : Setting) (word status : ℕ) → status < 256
    → command_text given word (command_of ((2 * status + 1) % 2 ^ 64)) ≡ exit_text status
unfolding command_of
exit-by given word status small =
    let posted : ℕ = (2 * status + 1) % 2 ^ 64 in
    let is : posted ≡ 2 * status + 1 = omega arith in
    let device : device_of posted ≡ 0 = omega arith in
    let above : posted / 2 ^ 48 ≡ 0 = omega arith in
    let number : command_number posted ≡ 0 = ap (λ (n : ℕ). n % 256) above in
    let payload : payload_of posted ≡ 2 * status + 1 = omega arith in
    let odd : ((2 * status + 1) % 2 == 1) ≡ true = eq-eqb ((2 * status + 1) % 2) 1 (omega arith) in
    let half : (2 * status + 1) / 2 % 256 ≡ status = omega arith in
    ap (λ (n : ℕ). command_text given word (by_device n (command_number posted) (payload_of posted))) device
    ∙ ap (λ (n : ℕ). command_text given word (by_device 0 n (payload_of posted))) number
    ∙ ap (λ (n : ℕ). command_text given word (by_payload n)) payload
    ∙ odd-payload given word (2 * status + 1) odd
    ∙ ap (λ (n : ℕ). exit_text n) half

pub exit-command : (given : Setting) (word : ℕ) (text : Spoken) → exit_status text < 256
    → command_text given word (command_of (exit_word text)) ≡ exit_text (exit_status text)
exit-command given word text small = exit-by given word (exit_status text) small

-- ---- the status of a program that dies
abbrev SmallEnd : Machine → Type 0
SmallEnd (running process) = ⊤
SmallEnd (dying text status) = status < 256
SmallEnd (ended status) = ⊤

cause-small : (cause : Cause) → cause_number cause < 100
cause-small Misaligned = omega arith
cause-small FetchAccess = omega arith
cause-small Illegal = omega arith
cause-small Breakpoint = omega arith
cause-small LoadAccess = omega arith
cause-small StoreAccess = omega arith
cause-small UserCall = omega arith
cause-small MachineCall = omega arith

trap-end : (counter : Bool) (pc cause value : ℕ) → cause < 100
    → SmallEnd (if counter then dying (counter_text pc) 124 else dying (trap_text cause pc value) (128 + cause))
trap-end true pc cause value small = omega arith
trap-end false pc cause value small = omega arith

answer-end : (process : Process) (a : CallAnswer) (p : Place (List ℕ) Kept)
    → SmallEnd (after_answer process a p).machine
answer-end process (Value value) p = tt
answer-end process (Exit status) p = tt

host-end : (process : Process) (w : World) (e : Option (End (List ℕ) Kept CallAnswer))
    → SmallEnd (after_host process w e).machine
host-end process w None = tt
host-end process w (Some end) = answer-end process end.answer end.place

part-end : (given : Setting) (process : Process) (w : World) (part : Part)
    → SmallEnd (after_part given process w part).machine
part-end given process w (gives answer) = tt
part-end given process w (breaks moved) = tt
part-end given process w (posts request) = host-end process w (host_row given request w process.state.user)
part-end given process w scans = tt

step-end : (given : Setting) (process : Process) (w : World) (u : UserStep)
    → SmallEnd (after_step given process w u).machine
step-end given process w (next moved) = tt
step-end given process w call = part-end given process w (part_of process)
step-end given process w (trap cause value) =
    trap-end (cause_number cause == cause_number Illegal && is_counter_access value) process.state.pc
    (cause_number cause) value (cause-small cause)

machine-end : (given : Setting) (m : Machine) (w : World) → SmallEnd m → SmallEnd (machine_step given m w).machine
machine-end given (running process) w s = step-end given process w (user_step process.state)
machine-end given (dying [] status) w s = tt
machine-end given (dying (byte ∷ text) status) w s = s
machine-end given (ended status) w s = tt

run-end : (given : Setting) (n : ℕ) (start : DirectState) → SmallEnd start.machine
    → SmallEnd (direct_after given n start).machine
unfolding direct_after
run-end given zero start s = s
run-end given (suc n) start s =
    let before = direct_after given n start in
    machine-end given before.machine before.world (run-end given n start s)

-- a program that was started dies with a status below 256
pub status-small : (given : Setting) (start : DirectState) (n : ℕ) (left : List ℕ) (status : ℕ) (w : World)
    → StartsRunning start → direct_after given n start ≡ in_world (dying left status) w → status < 256
status-small given start n left status w runs e =
    let first : SmallEnd start.machine = subst SmallEnd (sym runs.1) tt in
    subst SmallEnd (ap (λ (z : DirectState). z.machine) e) (run-end given n start first)
