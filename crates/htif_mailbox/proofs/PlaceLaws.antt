-- The two words of a mailbox are mapped, so an address that is not mapped is one of a request.
use Rattle.std.proofs.Common.{◌≡◌, ◌<◌, ◌+◌, ◌%◌, nat_lt, arith, ℕ, Bool, true, false, List, [], ◌∷◌, Result, Ok, Err, Some, refl, ap, sym, subst, ◌∙◌}
use Rattle.std.specs.Prelude.{◌≢◌, ◌==◌, ◌&&◌, IsTrue, length, if◌then◌else◌}
use Rattle.std.specs.Int.{to_le_bytes, from_le_bytes, w64}
use Rattle.std.proofs.lemmas.Bool.Decides.{nat_tests}
use Rattle.chunk_memory.specs.BeatLaws.{eight-of}
use Rattle.chunk_memory.specs.Ranges.{IsFirstUnmapped, Meets}
use Rattle.chunk_memory.specs.declared.port.ChunkPort as port
use Rattle.chunk_memory.specs.declared.stops.MemStop.{MemStop}
use Rattle.chunk_memory.specs.declared.stops.MemStop.TheVariants.{Unmapped}
use Rattle.fe_base.specs.MemoryMap.{is_beat, is_mapped}
use Rattle.fe_base.specs.declared.outside.Source as source
use Rattle.fe_base.specs.declared.outside.Sink as sink
use Rattle.folder_tree.specs.declared.folder.Folder as folder
use Rattle.host_text.specs.Laws.{then-split, both, first}
use Rattle.host_text.specs.Outside.{acts}
use Rattle.host_text.specs.Played.{At, Played, ended, failed, has_read, read_stopped, has_written, write_stopped}
use Rattle.host_text.specs.Played.{has_taken, take_stopped, has_put, put_stopped, noted, looked}
use Rattle.host_text.specs.Text.{Done, Note, Write}
use Rattle.syscall_proxy.specs.CallTable.{call_row}
use Rattle.syscall_proxy.specs.Kept.{Kept, Setting}
use Rattle.syscall_proxy.specs.Request.{doublewords}
use Rattle.syscall_proxy.specs.declared.answers.CallAnswer.{CallAnswer}
use Rattle.syscall_proxy.specs.declared.answers.CallAnswer.TheVariants.{Result as Value, Exit as Exits}
use Rattle.htif_mailbox.specs.Alone.{memory_alone}
use Rattle.htif_mailbox.specs.Commands.{command_of}
use Rattle.htif_mailbox.specs.Places.{IsOfRequest}
use Rattle.htif_mailbox.specs.Turns.{call_text, command_text, finish, give_first, give_text, gone, most_waiting, own, request_text, room_text, serve_text}
use Rattle.htif_mailbox.specs.declared.answers.MailFault.{MailFault}
use Rattle.htif_mailbox.specs.declared.answers.MailFault.TheVariants.{Call, Port}
use Rattle.htif_mailbox.specs.declared.answers.Turned.{Turned}
use Rattle.htif_mailbox.specs.declared.answers.Turned.TheVariants.{Idle}
use Rattle.htif_mailbox.specs.declared.commands.Command.{Command}
use Rattle.htif_mailbox.specs.declared.commands.Command.TheVariants.{Exit, Call as CallAt, TakeByte, PutByte, Unknown}

-- ---- ranges

both-parts : (a b : Bool) → IsTrue (a && b) → (a ≡ true) × (b ≡ true)
both-parts true true h = (refl, refl)
both-parts true false h = let no : ⊥ = cc in absurd no
both-parts false b h = let no : ⊥ = cc in absurd no

is-zero : (n : ℕ) → (n == 0) ≡ true → n ≡ 0
is-zero n h = grind (arith, nat_tests)

not-zero : (n : ℕ) → (n == 0) ≡ false → n ≢ 0
not-zero n h = grind (arith, nat_tests)

same-doubleword : (at doubleword : ℕ) → at % 8 ≡ 0 → Meets at 8 doubleword → doubleword ≡ at
same-doubleword at doubleword even m = let even' : doubleword % 8 ≡ 0 = m.aligned in
    omega (arith, even, even', m.above, m.below)

true-false : (b : Bool) → b ≡ true → b ≡ false → ⊥
true-false b p q = cc

-- a beat has no byte that is not mapped
pub beat-mapped : (at doubleword : ℕ) → IsTrue (is_beat at) → IsFirstUnmapped at 8 doubleword → ⊥
beat-mapped at doubleword here far =
    let parts : ((at % 8 == 0) ≡ true) × (is_mapped at ≡ true) = both-parts (at % 8 == 0) (is_mapped at) here in
    let same : doubleword ≡ at = same-doubleword at doubleword (is-zero (at % 8) parts.0) far.meets in
    true-false (is_mapped at) parts.1 (sym (ap (λ (n : ℕ). is_mapped n) same) ∙ far.unmapped)

-- what is the first of 8 bytes is the first of 64
pub in-request : (place doubleword : ℕ) → IsFirstUnmapped place 8 doubleword → IsFirstUnmapped place 64 doubleword
in-request place doubleword far = record {
  meets = record {
    some = omega arith;
    aligned = far.meets.aligned;
    above = far.meets.above;
    below = omega (arith, far.meets.below);
  };
  unmapped = far.unmapped;
  first = λ lower m less. far.first lower (record {
    some = omega arith;
    aligned = m.aligned;
    above = m.above;
    below = omega (arith, far.meets.below, less);
  }) less;
}

-- ---- the part on fromhost

module _ {P : Type 0} (p : port.Ghosts P) where
  given-mapped : (fromhost answer doubleword : ℕ) (b : Bool) {s s' : At P Unit Unit Unit Kept} {r : Result Bool MemStop}
      → IsTrue (is_beat fromhost) → r ≡ Err (Unmapped doubleword)
      → Played (memory_alone p) (if b then Write fromhost (to_le_bytes w64 answer) own (Note gone (Done true)) else Done false) s r s' → ⊥
  given-mapped fromhost answer doubleword true here e (has_written d (noted h (ended q same))) = cc
  given-mapped fromhost answer doubleword true here e (write_stopped {why = why} d q same) =
      let why-is : why ≡ Unmapped doubleword = cc in
      let far : IsFirstUnmapped fromhost (length (to_le_bytes w64 answer)) doubleword = (d.maps doubleword).0 (ap Some why-is) in
      beat-mapped fromhost doubleword here (subst (λ (n : ℕ). IsFirstUnmapped fromhost n doubleword) (eight-of answer) far)
  given-mapped fromhost answer doubleword false here e (ended q same) = cc

  first-mapped : (fromhost doubleword : ℕ) (waiting : List ℕ) {s s' : At P Unit Unit Unit Kept} {r : Result Bool MemStop}
      → IsTrue (is_beat fromhost) → r ≡ Err (Unmapped doubleword) → Played (memory_alone p) (give_first fromhost waiting) s r s' → ⊥
  first-mapped fromhost doubleword [] here e (ended q same) = cc
  first-mapped fromhost doubleword (answer ∷ later) here e (has_read {bytes = bytes} d l) =
      given-mapped fromhost answer doubleword (from_le_bytes w64 bytes == 0) here e l
  first-mapped fromhost doubleword (answer ∷ later) here e (read_stopped {why = why} d q same) =
      let why-is : why ≡ Unmapped doubleword = cc in
      beat-mapped fromhost doubleword here ((d.maps doubleword).0 (ap Some why-is))

  -- where fromhost is a beat no address is refused
  pub give-mapped : (fromhost doubleword : ℕ) {s s' : At P Unit Unit Unit Kept} {r : Result Bool MemStop}
      → IsTrue (is_beat fromhost) → Played (memory_alone p) (give_text fromhost) s r s' → r ≡ Err (Unmapped doubleword) → ⊥
  give-mapped fromhost doubleword {s = s} here (looked l) e = first-mapped fromhost doubleword s.kept.waiting here e l

-- ---- the part on tohost

module _ {P F I C : Type 0} (p : port.Ghosts P) (f : folder.Ghosts F) (i : source.Ghosts I) (c : sink.Ghosts C) where
  finish-place : (place doubleword : ℕ) (answer : CallAnswer) {s s' : At P F I C Kept} {r : Result Turned MailFault}
      → r ≡ Err (Port (Unmapped doubleword)) → Played (acts p f i c) (finish place answer) s r s' → IsFirstUnmapped place 64 doubleword
  finish-place place doubleword (Value value) e (has_written d (noted h (ended q same))) = let no : ⊥ = cc in absurd no
  finish-place place doubleword (Value value) e (write_stopped {why = why} d q same) =
      let why-is : why ≡ Unmapped doubleword = cc in
      let far : IsFirstUnmapped place (length (to_le_bytes w64 value)) doubleword = (d.maps doubleword).0 (ap Some why-is) in
      in-request place doubleword (subst (λ (n : ℕ). IsFirstUnmapped place n doubleword) (eight-of value) far)
  finish-place place doubleword (Exits status) e (ended q same) = let no : ⊥ = cc in absurd no

  call-place : (given : Setting) (place doubleword : ℕ) (request : List ℕ) {s s' : At P F I C Kept} {r : Result Turned MailFault}
      → r ≡ Err (Port (Unmapped doubleword)) → Played (acts p f i c) (call_text given place request) s r s' → IsFirstUnmapped place 64 doubleword
  call-place given place doubleword request {s = s} e (looked l) =
      elim (then-split (acts p f i c) Call (finish place) (call_row given s.kept.numbers request) l) [
        | both a q m h t n ↦ finish-place place doubleword a e n
        | first why q h t n ↦ let no : ⊥ = cc in absurd no
      ]

  request-place : (given : Setting) (place doubleword : ℕ) {s s' : At P F I C Kept} {r : Result Turned MailFault}
      → r ≡ Err (Port (Unmapped doubleword)) → Played (acts p f i c) (request_text given place) s r s' → IsFirstUnmapped place 64 doubleword
  request-place given place doubleword e (has_read {bytes = bytes} d l) = call-place given place doubleword (doublewords 8 bytes) e l
  request-place given place doubleword e (read_stopped {why = why} d q same) =
      let why-is : why ≡ Unmapped doubleword = cc in (d.maps doubleword).0 (ap Some why-is)

  command-place : (given : Setting) (word doubleword : ℕ) (command : Command) {s s' : At P F I C Kept} {r : Result Turned MailFault}
      → r ≡ Err (Port (Unmapped doubleword)) → Played (acts p f i c) (command_text given word command) s r s'
      → (place : ℕ) × (command ≡ CallAt place) × IsFirstUnmapped place 64 doubleword
  command-place given word doubleword (Exit status) e (noted h (ended q same)) = let no : ⊥ = cc in absurd no
  command-place given word doubleword (CallAt place) e l = (place, refl, request-place given place doubleword e l)
  command-place given word doubleword TakeByte e (has_taken d (noted h (ended q same))) = let no : ⊥ = cc in absurd no
  command-place given word doubleword TakeByte e (take_stopped d q same) = let no : ⊥ = cc in absurd no
  command-place given word doubleword (PutByte byte) e (has_put d (noted h (ended q same))) = let no : ⊥ = cc in absurd no
  command-place given word doubleword (PutByte byte) e (put_stopped d q same) = let no : ⊥ = cc in absurd no
  command-place given word doubleword Unknown e (failed q same) = let no : ⊥ = cc in absurd no

  word-place : (given : Setting) (tohost word doubleword : ℕ) (b : Bool) {s s' : At P F I C Kept} {r : Result Turned MailFault}
      → IsTrue (is_beat tohost) → (word == 0) ≡ b → r ≡ Err (Port (Unmapped doubleword))
      → Played (acts p f i c) (if b then Done Idle else Write tohost (to_le_bytes w64 0) Port (command_text given word (command_of word))) s r s'
      → (word ≢ 0) × (place : ℕ) × (command_of word ≡ CallAt place) × IsFirstUnmapped place 64 doubleword
  word-place given tohost word doubleword true here test e (ended q same) = let no : ⊥ = cc in absurd no
  word-place given tohost word doubleword false here test e (has_written d l) =
      let found = command-place given word doubleword (command_of word) e l in (not-zero word test, found.0, found.1, found.2)
  word-place given tohost word doubleword false here test e (write_stopped {why = why} d q same) =
      let why-is : why ≡ Unmapped doubleword = cc in
      let far : IsFirstUnmapped tohost (length (to_le_bytes w64 0)) doubleword = (d.maps doubleword).0 (ap Some why-is) in
      absurd (beat-mapped tohost doubleword here (subst (λ (n : ℕ). IsFirstUnmapped tohost n doubleword) (eight-of 0) far))

  room-place : (given : Setting) (tohost doubleword : ℕ) (room : Bool) {s s' : At P F I C Kept} {r : Result Turned MailFault}
      → IsTrue (is_beat tohost) → r ≡ Err (Port (Unmapped doubleword)) → Played (acts p f i c) (room_text given tohost room) s r s'
      → IsOfRequest p tohost s.port doubleword
  room-place given tohost doubleword true here e (has_read {x = x} {bytes = bytes} d l) =
      let found = word-place given tohost (from_le_bytes w64 bytes) doubleword (from_le_bytes w64 bytes == 0) here refl e l in
      record { bytes = bytes; behind = x; read = d; some = found.0; place = found.1; asked = found.2; first = found.3 }
  room-place given tohost doubleword true here e (read_stopped {why = why} d q same) =
      let why-is : why ≡ Unmapped doubleword = cc in
      absurd (beat-mapped tohost doubleword here ((d.maps doubleword).0 (ap Some why-is)))
  room-place given tohost doubleword false here e (ended q same) = let no : ⊥ = cc in absurd no

  -- where tohost is a beat only a request's address is refused
  pub serve-place : (given : Setting) (tohost doubleword : ℕ) {s s' : At P F I C Kept} {r : Result Turned MailFault}
      → IsTrue (is_beat tohost) → Played (acts p f i c) (serve_text given tohost) s r s' → r ≡ Err (Port (Unmapped doubleword))
      → IsOfRequest p tohost s.port doubleword
  serve-place given tohost doubleword here (noted {h = now} n (looked l)) e = room-place given tohost doubleword (nat_lt (length now.waiting) most_waiting) here e l
