-- A call that needs neither folder nor input: what it comes to is known whatever the objects tell.
use Rattle.std.proofs.Common.{◌≡◌, ◌+◌, ◌-◌, ◌++◌, ℕ, Bool, true, false, List, length, take, drop, Some, Result, Ok, refl, sym, if◌then◌else◌}
use Rattle.std.specs.Prelude.{◌==◌, ⊤}
use Rattle.std.proofs.lemmas.Bool.{false≢true, eqb-true}
use Rattle.chunk_memory.specs.declared.port.ChunkPort as port
use Rattle.fe_base.specs.MemoryMap.{user_start}
use Rattle.fe_base.specs.declared.outside.Sink as sink
use Rattle.fe_base.specs.declared.outside.Source as source
use Rattle.folder_tree.specs.declared.folder.Folder as folder
use Rattle.host_text.specs.Outside.{HasRead, HasWritten, acts}
use Rattle.host_text.specs.Played.{Acts, At, Played}
use Rattle.host_text.specs.RunLaws.{came}
use Rattle.host_text.specs.Runs.{Place}
use Rattle.host_text.specs.Streams.{only, only-played}
use Rattle.host_text.specs.World.{World}
use Rattle.host_text.specs.declared.open_numbers.Open.{Open}
use Rattle.host_text.specs.declared.open_numbers.Open.TheVariants.{Closed, Input, Console, File}
use Rattle.syscall_proxy.specs.CallLaws.{call_row-inside}
use Rattle.syscall_proxy.specs.CallTable.{call_row, service_of}
use Rattle.syscall_proxy.specs.HostRow.{begin, host_row, user_bytes}
use Rattle.syscall_proxy.specs.Kept.{Kept, Setting}
use Rattle.syscall_proxy.specs.RowShapes.{InUserArea}
use Rattle.syscall_proxy.specs.Rows.{bounded, word}
use Rattle.syscall_proxy.specs.StreamRows.{call_row-asks, call_row-takes}
use Rattle.syscall_proxy.specs.Streams.{asks_for, call_asks, call_takes, is_file, taken_at, taken_for}
use Rattle.syscall_proxy.specs.declared.answers.CallAnswer.{CallAnswer}
use Rattle.syscall_proxy.specs.declared.answers.CallFault.{CallFault}
use Rattle.plain_machine.specs.Asks.{asks_by, file_asks, needs_outside, nothing, number_of, read_asks, row_asks, the_input, write_asks}
use Rattle.plain_machine.specs.Rows.{IsInside}
use Rattle.plain_machine.proofs.Numbers.{InNoRow, each-number}

-- ---- such a call asks the folder nothing, and takes no byte of the input

file-lone : (stands : Open) → needs_outside (file_asks stands) ≡ false → is_file stands ≡ false
file-lone Closed h = refl
file-lone Input h = refl
file-lone Console h = refl
file-lone (File file) h = absurd (false≢true (sym h))

abbrev TakesNone : Open → ℕ → Type 0
TakesNone stands count = (is_file stands ≡ false) × (taken_at stands count ≡ 0)

read-lone : (stands : Open) (count : ℕ) → needs_outside (read_asks stands count) ≡ false → TakesNone stands count
read-lone Closed count h = (refl, refl)
read-lone Input count h = go (count == 0) refl h
  where
    go : (t : Bool) → (count == 0) ≡ t → needs_outside (if t then nothing else the_input) ≡ false → TakesNone Input count
    go true e h = (refl, eqb-true count 0 e)
    go false e h = absurd (false≢true (sym h))
read-lone Console count h = (refl, refl)
read-lone (File file) count h = absurd (false≢true (sym h))

write-lone : (stands : Open) (user : List ℕ) (buffer count : ℕ) → needs_outside (write_asks stands user buffer count) ≡ false → is_file stands ≡ false
write-lone Closed user buffer count h = refl
write-lone Input user buffer count h = refl
write-lone Console user buffer count h = refl
write-lone (File file) user buffer count h = absurd (false≢true (sym h))

module _ (numbers : List Open) (request user : List ℕ) where
  abbrev Lone : ℕ → Type 0
  Lone n = needs_outside (asks_by n numbers request user) ≡ false → (asks_for (service_of n) numbers request ≡ false) × (taken_for (service_of n) numbers request ≡ 0)

  others : (n : ℕ) → InNoRow n → Lone n
  unfolding service_of
  others n h = λ none. (
    rw (h.not_34, h.not_35, h.not_46, h.not_48, h.not_56, h.not_57, h.not_62, h.not_63, h.not_64, h.not_67, h.not_68, h.not_80, h.not_93, h.not_94, h.not_2011) refl,
    rw (h.not_34, h.not_35, h.not_46, h.not_48, h.not_56, h.not_57, h.not_62, h.not_63, h.not_64, h.not_67, h.not_68, h.not_80, h.not_93, h.not_94, h.not_2011) refl,
  )

  by-number : (n : ℕ) → Lone n
  unfolding service_of
  by-number =
      let s = number_of numbers request in
      each-number Lone (λ h. absurd (false≢true (sym h))) (λ h. absurd (false≢true (sym h))) (λ h. (file-lone s h, refl)) (λ h. absurd (false≢true (sym h)))
      (λ h. absurd (false≢true (sym h))) (λ h. (file-lone s h, refl)) (λ h. (file-lone s h, refl)) (λ h. read-lone s (bounded (word request 3)) h)
      (λ h. (write-lone s user (word request 2) (bounded (word request 3)) h, refl)) (λ h. (file-lone s h, refl)) (λ h. (file-lone s h, refl)) (λ h. (file-lone s h, refl))
      (λ h. (refl, refl)) (λ h. (refl, refl)) (λ h. (refl, refl)) others

  pub asks-none : needs_outside (row_asks numbers request user) ≡ false → (call_asks numbers request ≡ false) × (call_takes numbers request ≡ 0)
  asks-none h = by-number (word request 0) h

module _ {P F I C : Type 0} (p : port.Ghosts P) (f : folder.Ghosts F) (i : source.Ghosts I) (c : sink.Ghosts C)
    (memory : P → List ℕ → Type 0)
    (on_read : (x x' : P) (t : List ℕ) (at count : ℕ) (bytes : List ℕ) → InUserArea at count → memory x t
    → HasRead p x x' at count (Ok bytes) → memory x' t × (bytes ≡ take count (drop (at - user_start) t)))
    (on_write : (x x' : P) (t : List ℕ) (at : ℕ) (bytes : List ℕ) → InUserArea at (length bytes) → memory x t
    → HasWritten p x x' at bytes (Ok tt)
    → memory x' (take (at - user_start) t ++ (bytes ++ drop (at - user_start + length bytes) t))) where
  -- the acts of these objects, without takes
  abbrev no_takes : Acts P F I C
  no_takes = only (acts p f i c) (λ count. ⊥) (λ bytes. ⊤) (λ q. ⊤)

  -- and without a call of the folder
  abbrev few_acts : Acts P F I C
  few_acts = only no_takes (λ count. ⊤) (λ bytes. ⊤) (λ q. ⊥)

  -- such a call that is carried out is the host's row, over any contents
  pub lone-row : {s s' : At P F I C Kept} {r : Result CallAnswer CallFault} (given : Setting) (request : List ℕ) (w : World) (user : List ℕ) (answer : CallAnswer)
      → call_asks w.numbers request ≡ false → call_takes w.numbers request ≡ 0 → IsInside given request
      → Played (acts p f i c) (call_row given w.numbers request) s r s' → r ≡ Ok answer → memory s.port user → s.kept ≡ (begin w user).kept
      → (after : Place (List ℕ) Kept) × (host_row given request w user ≡ Some (record { answer = answer; place = after })) × memory s'.port after.memory × (s'.kept ≡ after.kept)
  lone-row given request w user answer asks takes inside played e here kept =
      let untaken = only-played (acts p f i c) (λ count. ⊥) (λ bytes. ⊤) (λ q. ⊤) (λ x x' at count bytes d. d.bytes) (λ x x' count bytes d. d.bound) (call_row-takes given w.numbers request takes) played in
      let unasked = only-played no_takes (λ count. ⊤) (λ bytes. ⊤) (λ q. ⊥) (λ x x' at count bytes d. d.bytes) (λ x x' count bytes d. d.1.bound) (call_row-asks given w.numbers request asks) untaken in
      let h = came few_acts user_bytes InUserArea memory (λ x t. ⊤) (λ x l. ⊤) (λ x l. ⊤)
      (λ x x' t at count bytes fit told d. let got = on_read x x' t at count bytes fit told d in (got.0, got.1, d.bytes)) on_write
      (λ x x' t q reply told d. absurd d.0) (λ x x' left count bytes told d. absurd d.1.0) (λ x x' held bytes told d. tt)
      answer (begin w user) e (call_row-inside given w.numbers request inside) unasked
      (record { memory_is = here; tree_is = tt; input_is = tt; console_is = tt; kept_is = kept }) in
      (h.0, h.1, h.2.memory_is, h.2.kept_is)
