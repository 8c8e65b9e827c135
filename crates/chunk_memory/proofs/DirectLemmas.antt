-- The loops over the beats of a chunk.
use Rattle.std.proofs.Common.{◌≡◌, ℕ, suc, ◌+◌, ◌-◌, ◌*◌, ◌/◌, ◌%◌, ◌^◌, ◌<◌, ◌≤◌, List, [], ◌∷◌, ◌++◌, length, take, drop, length-append, length-drop, take-append-drop, append-nil, refl, sym, ap, subst, ◌∙◌, arith}
use Rattle.std.specs.Int.{to_le_bytes, w64}
use Rattle.std.specs.Prelude.{Some, None, Ok, Err}
use Rattle.std.proofs.lemmas.List.{length-take-le, take_at, take_all}
use Rattle.std.proofs.Math.Seq.{take-add}
use Rattle.byteorder.specs.Endian.{little_number, little_bytes}
use Rattle.fe_base.specs.Beats.{Beat, ReadBeat, WriteBeat}
use Rattle.fe_base.specs.Wires.{Asked, Lowers, FailsBy}
use Rattle.fe_base.specs.declared.wires.WireStop.{WireStop}
use Rattle.fe_base.specs.declared.wires.WireStop.TheVariants.{Spent as WireSpent, Failed}
use Rattle.chunk_memory.specs.BeatLaws.{eight-of, length-bytes_of, bytes_of-append, fit-append}
use Rattle.chunk_memory.proofs.StepLemmas.{put-take}
use Rattle.chunk_memory.proofs.WordLemmas.{words, AreSmall, words-fit, words-bytes, small-drop, first-number}
use Rattle.chunk_memory.specs.BeatChunks.{bytes_of, BeatsRead, BeatsWritten, ReadByBeats, WrittenByBeats, BeatStopped, ReadByBeatsUntil, WrittenByBeatsUntil, of_wire, wire_counts}
use Rattle.chunk_memory.specs.Ports.{PortCauses, PortTakes}
use borrow.Rule.Slice.PartMut.{put_mid}

module _ {S : Type 0} (next : S → Beat → S × ℕ) where
  beats-read-more : (at : ℕ) (values : List ℕ) (value : ℕ) (a m n : S) → BeatsRead next a at values m → next m (ReadBeat (at + 8 * length values)) ≡ (n, value) → BeatsRead next a at (values ++ value ∷ []) n
  beats-read-more at [] value a m n made here =
      let P : S → Type 0 = λ s. next s (ReadBeat at) ≡ (n, value) in
      let e : at + 8 * 0 ≡ at = omega arith in
      (n, subst P made (subst (λ (k : ℕ). next m (ReadBeat k) ≡ (n, value)) e here), refl)
  beats-read-more at (x ∷ values) value a m n made here =
      let e : at + 8 * suc (length values) ≡ at + 8 + 8 * length values = omega arith in
      (made.0, made.1, beats-read-more (at + 8) values value made.0 m n made.2 (subst (λ (k : ℕ). next m (ReadBeat k) ≡ (n, value)) e here))

  beats-written-more : (at : ℕ) (values : List ℕ) (value : ℕ) (a m n : S) → BeatsWritten next a at values m → next m (WriteBeat (at + 8 * length values) value) ≡ (n, 0) → BeatsWritten next a at (values ++ value ∷ []) n
  beats-written-more at [] value a m n made here =
      let P : S → Type 0 = λ s. next s (WriteBeat at value) ≡ (n, 0) in
      let e : at + 8 * 0 ≡ at = omega arith in
      (n, subst P made (subst (λ (k : ℕ). next m (WriteBeat k value) ≡ (n, 0)) e here), refl)
  beats-written-more at (x ∷ values) value a m n made here =
      let e : at + 8 * suc (length values) ≡ at + 8 + 8 * length values = omega arith in
      (made.0, made.1, beats-written-more (at + 8) values value made.0 m n made.2 (subst (λ (k : ℕ). next m (WriteBeat k value) ≡ (n, 0)) e here))

  pub read-none : (at : ℕ) (bytes : List ℕ) (a : S) → ReadByBeats next at (take 0 bytes) a a
  read-none at bytes a = record { values = []; fit = tt; bytes_are = refl; made = refl }

  pub written-none : (at : ℕ) (bytes : List ℕ) (a : S) → WrittenByBeats next at (take 0 bytes) a a
  written-none at bytes a = record { values = []; fit = tt; bytes_are = refl; made = refl }

  -- one beat more
  pub read-one : (at done value : ℕ) (bytes rest : List ℕ) (a m n : S) → done + 8 ≤ length bytes → value < 2 ^ 64 → ReadByBeats next at (take done bytes) a m → next m (ReadBeat (at + done)) ≡ (n, value)
      → ReadByBeats next at (take (done + 8) (put_mid done (length bytes - done) bytes (little_bytes 8 value ++ rest))) a n
  read-one at done value bytes rest a m n room small so_far here =
      let word : List ℕ = to_le_bytes w64 value in
      let front : length (take done bytes) ≡ done = length-take-le done bytes (omega arith) in
      let count : done ≡ 8 * length so_far.values = sym front ∙ ap (λ (l : List ℕ). length l) so_far.bytes_are ∙ length-bytes_of so_far.values in
      let long : 8 ≤ length (word ++ rest) = omega (arith, length-append word rest, eight-of value) in
      let taken : take (done + 8) (put_mid done (length bytes - done) bytes (word ++ rest)) ≡ take done bytes ++ word =
      put-take bytes (word ++ rest) done 8 (omega arith) long ∙ ap (λ (l : List ℕ). take done bytes ++ l) (take_at word rest 8 (eight-of value)) in
      record {
        values = so_far.values ++ value ∷ [];
        fit = fit-append so_far.values (value ∷ []) so_far.fit (small, tt);
        bytes_are = taken ∙ ap (λ (l : List ℕ). l ++ word) so_far.bytes_are ∙ ap (λ (l : List ℕ). bytes_of so_far.values ++ l) (sym (append-nil word)) ∙ sym (bytes_of-append so_far.values (value ∷ []));
        made = beats-read-more at so_far.values value a m n so_far.made (subst (λ (k : ℕ). next m (ReadBeat (at + k)) ≡ (n, value)) count here);
      }

  pub written-one : (at done value : ℕ) (bytes : List ℕ) (a m n : S) → AreSmall bytes → done + 8 ≤ length bytes → value ≡ little_number 8 (drop done bytes) → WrittenByBeats next at (take done bytes) a m → next m (WriteBeat (at + done) value) ≡ (n, 0)
      → WrittenByBeats next at (take (done + 8) bytes) a n
  written-one at done value bytes a m n small room is so_far here =
      let tail : List ℕ = drop done bytes in
      let first = first-number tail (small-drop done bytes small) (omega (arith, length-drop done bytes)) in
      let front : length (take done bytes) ≡ done = length-take-le done bytes (omega arith) in
      let count : done ≡ 8 * length so_far.values = sym front ∙ ap (λ (l : List ℕ). length l) so_far.bytes_are ∙ length-bytes_of so_far.values in
      let word : to_le_bytes w64 value ≡ take 8 tail = ap (λ (n : ℕ). to_le_bytes w64 n) is ∙ first.1 in
      let taken : take (done + 8) bytes ≡ take done bytes ++ take 8 tail = take-add done 8 bytes in
      record {
        values = so_far.values ++ value ∷ [];
        fit = fit-append so_far.values (value ∷ []) so_far.fit (subst (λ (n : ℕ). n < 2 ^ 64) (sym is) first.0, tt);
        bytes_are = taken ∙ ap (λ (l : List ℕ). l ++ take 8 tail) so_far.bytes_are ∙ ap (λ (l : List ℕ). bytes_of so_far.values ++ l) (sym word ∙ sym (append-nil (to_le_bytes w64 value))) ∙ sym (bytes_of-append so_far.values (value ∷ []));
        made = beats-written-more at so_far.values value a m n so_far.made (subst (λ (k : ℕ). next m (WriteBeat (at + k) value) ≡ (n, 0)) count here);
      }

  -- all beats were made
  pub read-all : (at done : ℕ) (bytes : List ℕ) (a m : S) → length bytes ≤ done → ReadByBeats next at (take done bytes) a m → ReadByBeats next at bytes a m
  read-all at done bytes a m past so_far = subst (λ (l : List ℕ). ReadByBeats next at l a m) (take_all done bytes past) so_far

  pub written-all : (at done : ℕ) (bytes : List ℕ) (a m : S) → length bytes ≤ done → WrittenByBeats next at (take done bytes) a m → WrittenByBeats next at bytes a m
  written-all at done bytes a m past so_far = subst (λ (l : List ℕ). WrittenByBeats next at l a m) (take_all done bytes past) so_far

  module _ (lost : S → Beat → S × ℕ) where
    pub stopped-by : {T : Type 0} (ask : Beat) (reply : T → ℕ) (stop : WireStop) (m n : S) → Asked next lost ask reply (Err stop) m n → BeatStopped next lost ask (of_wire stop) m n
    stopped-by ask reply WireSpent m n asked = asked
    stopped-by ask reply Failed m n asked = asked

    -- a beat was refused
    pub read-refused : (at count done : ℕ) (bytes : List ℕ) (stop : WireStop) (a m n : S) → done ≤ length bytes → done < count → ReadByBeats next at (take done bytes) a m
        → Asked next lost (ReadBeat (at + done)) (λ (value : ℕ). value) (Err stop) m n → ReadByBeatsUntil next lost at count (of_wire stop) a n
    read-refused at count done bytes stop a m n within less so_far asked =
        let front : length (take done bytes) ≡ done = length-take-le done bytes within in
        let size : done ≡ 8 * length so_far.values = sym front ∙ ap (λ (l : List ℕ). length l) so_far.bytes_are ∙ length-bytes_of so_far.values in
        record {
          values = so_far.values;
          fit = so_far.fit;
          some_left = omega arith;
          between = m;
          made = so_far.made;
          stopped = subst (λ (k : ℕ). BeatStopped next lost (ReadBeat (at + k)) (of_wire stop) m n) size (stopped-by (ReadBeat (at + done)) (λ (value : ℕ). value) stop m n asked);
        }

    pub write-refused : (at done value : ℕ) (bytes : List ℕ) (stop : WireStop) (a m n : S) → AreSmall bytes → done + 8 ≤ length bytes → length bytes % 8 ≡ 0 → value ≡ little_number 8 (drop done bytes) → WrittenByBeats next at (take done bytes) a m
        → Asked next lost (WriteBeat (at + done) value) (λ (u : Unit {0}). 0) (Err stop) m n → WrittenByBeatsUntil next lost at bytes (of_wire stop) a n
    write-refused at done value bytes stop a m n small room whole is so_far asked =
        let tail : List ℕ = drop done bytes in
        let tail_small = small-drop done bytes small in
        let first = first-number tail tail_small (omega (arith, length-drop done bytes)) in
        let front : length (take done bytes) ≡ done = length-take-le done bytes (omega arith) in
        let size : done ≡ 8 * length so_far.values = sym front ∙ ap (λ (l : List ℕ). length l) so_far.bytes_are ∙ length-bytes_of so_far.values in
        let rest : List ℕ = drop 8 tail in
        let more : List ℕ = words (length rest / 8) rest in
        let rest_small = small-drop 8 tail tail_small in
        let rest_is : rest ≡ bytes_of more = words-bytes (length rest / 8) rest rest_small (omega (arith, length-drop 8 tail, length-drop done bytes)) in
        let word : to_le_bytes w64 value ≡ take 8 tail = ap (λ (n : ℕ). to_le_bytes w64 n) is ∙ first.1 in
        let tail_is : tail ≡ to_le_bytes w64 value ++ bytes_of more = sym (take-append-drop 8 tail) ∙ ap (λ (l : List ℕ). l ++ rest) (sym word) ∙ ap (λ (l : List ℕ). to_le_bytes w64 value ++ l) rest_is in
        record {
          values = so_far.values;
          value = value;
          more = more;
          fit = fit-append so_far.values (value ∷ more) so_far.fit (subst (λ (n : ℕ). n < 2 ^ 64) (sym is) first.0, words-fit (length rest / 8) rest rest_small);
          bytes_are = sym (take-append-drop done bytes) ∙ ap (λ (l : List ℕ). l ++ tail) so_far.bytes_are ∙ ap (λ (l : List ℕ). bytes_of so_far.values ++ l) tail_is ∙ sym (bytes_of-append so_far.values (value ∷ more));
          between = m;
          made = so_far.made;
          stopped = subst (λ (k : ℕ). BeatStopped next lost (WriteBeat (at + k) value) (of_wire stop) m n) size (stopped-by (WriteBeat (at + done) value) (λ (u : Unit {0}). 0) stop m n asked);
        }

-- ---- the counts
-- so many beats were made
pub record BeatsCount (done left left' faults faults' : ℕ) : Type 0 where
  pub whole : done % 8 ≡ 0
  pub fewer : left ≡ left' + done / 8
  pub later : faults ≤ faults'

pub count-one : {T : Type 0} (done left left' left'' faults faults' faults'' : ℕ) (value : T) → BeatsCount done left left' faults faults' → Lowers left' left'' (Ok value) → FailsBy faults' faults'' (Ok value) → BeatsCount (done + 8) left left'' faults faults''
count-one done left left' left'' faults faults' faults'' value count lowers fails =
    record { whole = omega (arith, count.whole); fewer = omega (arith, count.fewer, count.whole, lowers); later = omega (arith, count.later, fails) }

pub causes-ok : (done left left' faults faults' : ℕ) → BeatsCount done left left' faults faults' → PortCauses (wire_counts left faults) (wire_counts left' faults') None
causes-ok done left left' faults faults' count = record {
  fewer = omega (arith, count.fewer);
  later = count.later;
  higher = λ number. omega arith;
  spent = λ e. absurd (cc);
  failed = λ e. absurd (cc);
  command = λ number e. absurd (cc);
}

pub causes-err : (T : Type 0) (done left left' left'' faults faults' faults'' : ℕ) (stop : WireStop) → BeatsCount done left left' faults faults' → Lowers {T = T} left' left'' (Err stop) → FailsBy {T = T} faults' faults'' (Err stop)
    → PortCauses (wire_counts left faults) (wire_counts left'' faults'') (Some (of_wire stop))
causes-err T done left left' left'' faults faults' faults'' WireSpent count lowers fails = record {
  fewer = omega (arith, count.fewer, lowers.0, lowers.1);
  later = omega (arith, count.later, fails);
  higher = λ number. omega arith;
  spent = λ e. lowers.1;
  failed = λ e. absurd (cc);
  command = λ number e. absurd (cc);
}
causes-err T done left left' left'' faults faults' faults'' Failed count lowers fails = record {
  fewer = omega (arith, count.fewer, lowers);
  later = omega (arith, count.later, fails.0);
  higher = λ number. omega arith;
  spent = λ e. absurd (cc);
  failed = λ e. omega (arith, count.later, fails.1);
  command = λ number e. absurd (cc);
}

-- not more beats than the chunk has doublewords
pub most-ok : (done count left left' faults faults' : ℕ) → BeatsCount done left left' faults faults' → done ≤ count → left ≤ left' + count / 8
most-ok done count left left' faults faults' made less = omega (arith, made.fewer, made.whole)

pub most-err : (T : Type 0) (done count left left' left'' faults faults' : ℕ) (stop : WireStop) → BeatsCount done left left' faults faults' → Lowers {T = T} left' left'' (Err stop) → done + 8 ≤ count → left ≤ left'' + count / 8
most-err T done count left left' left'' faults faults' WireSpent made lowers room = omega (arith, made.fewer, made.whole, lowers.0, lowers.1)
most-err T done count left left' left'' faults faults' Failed made lowers room = omega (arith, made.fewer, made.whole, lowers)

-- a chunk that was made takes a beat for each of its doublewords, and one that was spent found fewer left
pub takes-ok : (done count left left' faults faults' : ℕ) → BeatsCount done left left' faults faults' → done ≤ count → count ≤ done → PortTakes (count / 8) (wire_counts left faults) (wire_counts left' faults') None
takes-ok done count left left' faults faults' made less past =
    let all : count ≡ done = omega arith in
    let number : count / 8 ≡ done / 8 = ap (λ (n : ℕ). n / 8) all in
    record { made = λ e. omega (arith, made.fewer, number); most = omega (arith, made.fewer, number); spent = λ e. absurd (cc) }

pub takes-err : (T : Type 0) (done count left left' left'' faults faults' faults'' : ℕ) (stop : WireStop) → BeatsCount done left left' faults faults' → Lowers {T = T} left' left'' (Err stop) → done + 8 ≤ count
    → PortTakes (count / 8) (wire_counts left faults) (wire_counts left'' faults'') (Some (of_wire stop))
takes-err T done count left left' left'' faults faults' faults'' WireSpent made lowers room = record {
  made = λ e. absurd (cc);
  most = omega (arith, made.fewer, made.whole, lowers.0, lowers.1);
  spent = λ e. omega (arith, made.fewer, made.whole, lowers.0, lowers.1);
}
takes-err T done count left left' left'' faults faults' faults'' Failed made lowers room = record {
  made = λ e. absurd (cc);
  most = omega (arith, made.fewer, made.whole, lowers);
  spent = λ e. absurd (cc);
}
