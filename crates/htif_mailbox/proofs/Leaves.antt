-- Ends of texts, where the code says the same thing in another way.
use Rattle.std.proofs.Common.{◌≡◌, ◌<◌, ◌≤◌, ◌==◌, nat_lt, arith, ℕ, ◌^◌, Bool, true, false, List, [], ◌∷◌, Option, Some, None, Result, Ok, Err, refl, ap, sym, subst, ◌∙◌}
use Rattle.std.specs.Prelude.{IfOk, IfErr}
use Rattle.std.specs.Int.{to_le_bytes, from_le_bytes, w64}
use Rattle.std.specs.List.{slice_get}
use Rattle.std.proofs.lemmas.Bool.Decides.{nat_tests}
use Rattle.std.proofs.lemmas.Nat.{from_le_bytes-to_le_bytes_8}
use Rattle.chunk_memory.proofs.WordLemmas.{word-small}
use Rattle.chunk_memory.specs.declared.port.ChunkPort as port
use Rattle.chunk_memory.specs.declared.stops.MemStop.{MemStop}
use Rattle.fe_base.specs.declared.outside.Failed.{Failed}
use Rattle.fe_base.specs.declared.outside.Source as source
use Rattle.fe_base.specs.declared.outside.Sink as sink
use Rattle.folder_tree.specs.declared.folder.Folder as folder
use Rattle.guest_memory.specs.Memory.{AreBytes}
use Rattle.host_text.specs.Outside.{HasTaken, HasPut, acts}
use Rattle.host_text.specs.Played.{Acts, At, at, Played, ended, has_read, has_taken, take_stopped, has_put, put_stopped, noted}
use Rattle.host_text.specs.Text.{Text, Done, Read}
use Rattle.host_text.specs.declared.open_numbers.Open.{Open}
use Rattle.syscall_proxy.specs.CallTable.{call_row}
use Rattle.syscall_proxy.specs.Kept.{Kept, Setting, kept, acts as has_acted}
use Rattle.syscall_proxy.specs.declared.answers.CallAnswer.{CallAnswer}
use Rattle.syscall_proxy.specs.declared.answers.CallFault.{CallFault}
use Rattle.syscall_proxy.specs.declared.answers.CallFault.TheVariants.{InputFault, ConsoleFault}
use Rattle.htif_mailbox.specs.Turns.{answer_text, command_text, give_first, most_waiting, own, room_text, taken}
use Rattle.htif_mailbox.specs.declared.answers.MailFault.{MailFault}
use Rattle.htif_mailbox.specs.declared.answers.MailFault.TheVariants.{Call}
use Rattle.htif_mailbox.specs.declared.answers.Turned.{Turned}
use Rattle.htif_mailbox.specs.declared.answers.Turned.TheVariants.{Served}
use Rattle.htif_mailbox.specs.declared.commands.Command.{Command}
use Rattle.htif_mailbox.specs.declared.commands.Command.TheVariants.{TakeByte, PutByte}

-- ---- words

-- those of a doubleword are bytes
pub word_are_bytes : (word : ℕ) → AreBytes (to_le_bytes w64 word)
word_are_bytes word = word-small word

-- a doubleword was read, and the text goes on by its number
pub word-read : {X F I C H A E : Type 0} {o : Acts X F I C} {place : ℕ} {stop : MemStop → E} (word : ℕ) (k : ℕ → Text H A E) {s s' : At X F I C H} {r : Result A E} {x : X}
    → word < 2 ^ 64 → o.read s.port place 8 (Ok (to_le_bytes w64 word)) x → Played o (k word) (record s { port = x }) r s' → Played o (Read place 8 stop (λ bytes. k (from_le_bytes w64 bytes))) s r s'
word-read {o = o} word k {s = s} {s' = s'} {r = r} {x = x} fits d p =
    let P : ℕ → Type 0 = λ n. Played o (k n) (record s { port = x }) r s' in
    has_read {bytes = to_le_bytes w64 word} d (subst P (sym (from_le_bytes-to_le_bytes_8 word fits)) p)

-- ---- answers

-- no answer waits
pub none-first : {X F I C : Type 0} {o : Acts X F I C} (fromhost : ℕ) (waiting : List ℕ) {s s' : At X F I C Kept} {r : Result Bool MemStop}
    → slice_get waiting 0 ≡ None → Played o (Done false) s r s' → Played o (give_first fromhost waiting) s r s'
none-first fromhost [] e p = p
none-first fromhost (answer ∷ later) e p = let no : ⊥ = cc in absurd no

-- this is the oldest answer that waits
pub some-first : {X F I C : Type 0} {o : Acts X F I C} (fromhost answer : ℕ) (waiting : List ℕ) {s s' : At X F I C Kept} {r : Result Bool MemStop}
    → slice_get waiting 0 ≡ Some answer → Played o (Read fromhost 8 own (λ bytes. answer_text fromhost answer (from_le_bytes w64 bytes))) s r s' → Played o (give_first fromhost waiting) s r s'
some-first fromhost answer [] e p = let no : ⊥ = cc in absurd no
some-first {o = o} fromhost answer (oldest ∷ later) {s = s} {s' = s'} {r = r} e p =
    let same : answer ≡ oldest = cc in
    let P : ℕ → Type 0 = λ n. Played o (Read fromhost 8 own (λ bytes. answer_text fromhost n (from_le_bytes w64 bytes))) s r s' in
    subst P same p

-- ---- commands

-- this is asked for
pub for-command : {X F I C : Type 0} {o : Acts X F I C} (given : Setting) (word : ℕ) (command : Command) {found : Command} {s s' : At X F I C Kept} {r : Result Turned MailFault}
    → found ≡ command → Played o (command_text given word command) s r s' → Played o (command_text given word found) s r s'
for-command {o = o} given word command {s = s} {s' = s'} {r = r} e p =
    let P : Command → Type 0 = λ z. Played o (command_text given word z) s r s' in
    subst P (sym e) p

module _ {P F I C : Type 0} (p : port.Ghosts P) (f : folder.Ghosts F) (i : source.Ghosts I) (c : sink.Ghosts C) where
  -- a byte was asked of the input
  pub took : {m : P} {files : F} {input input' : I} {console : C} {k k' : Kept} (given : Setting) (word : ℕ) (r : Result Turned MailFault)
      → IfOk r (λ turned. (bytes : List ℕ) × HasTaken i input input' 1 (Ok bytes) × (turned ≡ Served) × (k' ≡ taken bytes k))
      → IfErr r (λ fault. (why : Failed) × HasTaken i input input' 1 (Err why) × (fault ≡ Call InputFault) × (k' ≡ k))
      → Played (acts p f i c) (command_text given word TakeByte) (at m files input console k) r (at m files input' console k')
  took given word (Ok turned) done refused = has_taken done.1 (noted done.3 (ended (ap Ok done.2) refl))
  took {m = m} {files = files} {input' = input'} {console = console} given word (Err fault) done refused =
      take_stopped refused.1 (ap Err refused.2) (ap (λ z. at m files input' console z) refused.3)

  -- a byte was put on the console
  pub gave-out : {m : P} {files : F} {input : I} {console console' : C} {k k' : Kept} (given : Setting) (word byte : ℕ) (r : Result Turned MailFault)
      → IfOk r (λ turned. HasPut c console console' (byte ∷ []) (Ok tt) × (turned ≡ Served) × (k' ≡ has_acted k))
      → IfErr r (λ fault. (why : Failed) × HasPut c console console' (byte ∷ []) (Err why) × (fault ≡ Call ConsoleFault) × (k' ≡ k))
      → Played (acts p f i c) (command_text given word (PutByte byte)) (at m files input console k) r (at m files input console' k')
  gave-out given word byte (Ok turned) done refused = has_put done.0 (noted done.2 (ended (ap Ok done.1) refl))
  gave-out {m = m} {files = files} {input = input} {console' = console'} given word byte (Err fault) done refused =
      put_stopped refused.1 (ap Err refused.2) (ap (λ z. at m files input console' z) refused.3)

-- ---- calls

-- a row was followed, from the words that were read and where no command had acted
pub row-from : {X F I C : Type 0} {o : Acts X F I C} {x : X} {files : F} {input : I} {console : C} (given : Setting) (numbers : List Open) (waiting : List ℕ) {request words : List ℕ} {acted : Bool} {s' : At X F I C Kept} {r : Result CallAnswer CallFault}
    → request ≡ words → acted ≡ false → Played o (call_row given numbers request) (at x files input console (kept numbers false waiting)) r s'
    → Played o (call_row given numbers words) (at x files input console (kept numbers acted waiting)) r s'
row-from {o = o} {x = x} {files = files} {input = input} {console = console} given numbers waiting {request = request} {acted = acted} {s' = s'} {r = r} same rests p =
    let P : List ℕ → Type 0 = λ z. Played o (call_row given numbers z) (at x files input console (kept numbers acted waiting)) r s' in
    let Q : Bool → Type 0 = λ z. Played o (call_row given numbers request) (at x files input console (kept numbers z waiting)) r s' in
    subst P same (subst Q (sym rests) p)

-- and to where the host says that it acted
pub row-to : {X F I C A E : Type 0} {o : Acts X F I C} {t : Text Kept A E} {x : X} {files : F} {input : I} {console : C} (numbers : List Open) (waiting : List ℕ) {acted told : Bool} {s : At X F I C Kept} {r : Result A E}
    → told ≡ acted → Played o t s r (at x files input console (kept numbers acted waiting)) → Played o t s r (at x files input console (kept numbers told waiting))
row-to {o = o} {t = t} {x = x} {files = files} {input = input} {console = console} numbers waiting {s = s} {r = r} e p =
    let P : Bool → Type 0 = λ z. Played o t s r (at x files input console (kept numbers z waiting)) in
    subst P (sym e) p

-- ---- room

-- as many answers wait as may
pub full : (count : ℕ) → true ≡ (count == most_waiting) → nat_lt count most_waiting ≡ false
full count e = grind (arith, nat_tests)

-- fewer do
pub not-full : (count : ℕ) → false ≡ (count == most_waiting) → count ≤ most_waiting → nat_lt count most_waiting ≡ true
not-full count e h = grind (arith, nat_tests)

-- tohost is not read where as many answers wait as may
pub no-room : {X F I C : Type 0} {o : Acts X F I C} (given : Setting) (tohost : ℕ) {room : Bool} {s s' : At X F I C Kept} {r : Result Turned MailFault}
    → room ≡ false → Played o (room_text given tohost false) s r s' → Played o (room_text given tohost room) s r s'
no-room {o = o} given tohost {s = s} {s' = s'} {r = r} e p = let P : Bool → Type 0 = λ z. Played o (room_text given tohost z) s r s' in subst P (sym e) p

-- and it is read where fewer do
pub some-room : {X F I C : Type 0} {o : Acts X F I C} (given : Setting) (tohost : ℕ) {room : Bool} {s s' : At X F I C Kept} {r : Result Turned MailFault}
    → room ≡ true → Played o (room_text given tohost true) s r s' → Played o (room_text given tohost room) s r s'
some-room {o = o} given tohost {s = s} {s' = s'} {r = r} e p = let P : Bool → Type 0 = λ z. Played o (room_text given tohost z) s r s' in subst P (sym e) p
