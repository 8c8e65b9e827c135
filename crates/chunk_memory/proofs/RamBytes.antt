-- Ranges of an area over a port to a bus, by the bytes of the area.
use Rattle.std.proofs.Common.{◌≡◌, ℕ, ◌+◌, ◌-◌, ◌%◌, ◌≤◌, List, length, take, drop, sym, ap, ◌∙◌, arith}
use Rattle.std.specs.Prelude.{Some}
use Rattle.fe_base.specs.Access.{Access, Loaded, Stored, StoredLow, StoredHigh}
use Rattle.guest_memory.proofs.PartLemmas.{store-is, length-with_part}
use Rattle.guest_memory.specs.Bus.{BusState, with_beat}
use Rattle.guest_memory.specs.Memory.{load, store, with_part}
use Rattle.chunk_memory.proofs.RamLemmas.{Area}
use Rattle.chunk_memory.proofs.Stays.{read-stays, write-stays}
use Rattle.chunk_memory.proofs.WordLemmas.{AreSmall, part-small, word-small}
use Rattle.chunk_memory.specs.BeatLaws.{direct_sizes}
use Rattle.chunk_memory.specs.RamTurns.{ram_ran, ram_touched}
use Rattle.chunk_memory.specs.Reached.{Reached}
use Rattle.chunk_memory.specs.Spelling.{ReadWhole, WriteWhole, place_of, stored_at, stored_bytes, StoredFits}

module _ (start end : ℕ) (even : start % 8 ≡ 0) (whole : end % 8 ≡ 0) (above : start ≤ end) (a : Area start end) (first : BusState) where
  -- the bus is as it was at first, but for these bytes of the area
  pub record Has (area : List ℕ) (bus : BusState) : Type 0 where
    pub is : bus ≡ a.put first area
    pub long : length area ≡ end - start
    pub small : AreSmall area

  has-bytes : (area : List ℕ) (bus : BusState) → Has area bus → a.bytes bus ≡ area
  has-bytes area bus h = ap (λ (b : BusState). a.bytes b) h.is ∙ a.put_bytes first area

  has-same : (area : List ℕ) (v w : BusState) → Has area v → w ≡ v → Has area w
  has-same area v w h same = record { is = same ∙ h.is; long = h.long; small = h.small }

  has-loads : (area : List ℕ) (v w : BusState) (p x : ℕ) → p % 8 ≡ 0 → start ≤ p → p + 8 ≤ start + (end - start) → Has area v → ram_touched v (Loaded p x) w → Has area w × (x ≡ load area (p - start) 8)
  has-loads area v w p x aligned low high h t =
      let known = a.loads v p aligned low (omega arith) in
      let both : Some x ≡ Some (load (a.bytes v) (p - start) 8) = sym t.1 ∙ known in
      let value : x ≡ load (a.bytes v) (p - start) 8 = cc in
      (has-same area v w h t.0, value ∙ ap (λ (l : List ℕ). load l (p - start) 8) (has-bytes area v h))

  has-stores : (area : List ℕ) (v w : BusState) (s : Access) → StoredFits s → place_of s % 8 ≡ 0 → start ≤ place_of s → place_of s + 8 ≤ start + (end - start) → Has area v → ram_touched v s w → Has (with_part area (stored_at s - start) (stored_bytes s)) w
  has-stores area v w (Loaded p x) fits aligned low high h t = absurd fits
  has-stores area v w (Stored p x) fits aligned low high h t =
      let put : with_beat v p x ≡ a.put v (store (a.bytes v) (p - start) 8 x) = a.stores v p x aligned low (omega arith) in
      let bytes : store (a.bytes v) (p - start) 8 x ≡ with_part area (p - start) (stored_bytes (Stored p x)) =
      ap (λ (l : List ℕ). store l (p - start) 8 x) (has-bytes area v h) ∙ store-is area (p - start) 8 x in
      let over : a.put v (store (a.bytes v) (p - start) 8 x) ≡ a.put first (with_part area (p - start) (stored_bytes (Stored p x))) =
      ap (λ (b : BusState). a.put b (store (a.bytes v) (p - start) 8 x)) h.is ∙ a.put_put first area (store (a.bytes v) (p - start) 8 x) ∙ ap (λ (l : List ℕ). a.put first l) bytes in
      record {
        is = t ∙ put ∙ over;
        long = length-with_part area (p - start) (stored_bytes (Stored p x)) (omega (arith, h.long)) ∙ h.long;
        small = part-small area (stored_bytes (Stored p x)) (p - start) h.small (word-small x);
      }
  has-stores area v w (StoredLow p x) fits aligned low high h t = absurd t
  has-stores area v w (StoredHigh p x) fits aligned low high h t = absurd t

  size_even : (end - start) % 8 ≡ 0
  size_even = omega arith

  -- a range that was read gives the area's bytes, and leaves the bus
  pub area-read : (at count : ℕ) (bytes : List ℕ) (area : List ℕ) (v w : BusState) → Has area v → start ≤ at → at + count ≤ end → ReadWhole (λ (s : BusState). s) (λ s u. s ≡ u) (λ _. Unit {0}) (λ _. ⊥) ram_ran (Reached ram_ran ram_touched) 8 at count bytes v w
      → Has area w × (bytes ≡ take count (drop (at - start) area))
  area-read at count bytes area v w h low high r =
      let got = read-stays ram_ran ram_touched start (end - start) even size_even Has (λ l b x. x.long) (λ l b x. x.small) (λ l b c n x same. has-same l b c x same) has-loads 8 r.accesses area at bytes v w h low (omega (arith, r.size)) r.spell r.path in
      (got.0, got.1 ∙ ap (λ (n : ℕ). take n (drop (at - start) area)) r.size)

  -- a range that was written stands in the area, and all else is as it was
  pub area-written : (at : ℕ) (bytes : List ℕ) (area : List ℕ) (v w : BusState) → Has area v → start ≤ at → at + length bytes ≤ end → WriteWhole (λ (s : BusState). s) (λ s u. s ≡ u) (λ _. Unit {0}) (λ _. ⊥) ram_ran (Reached ram_ran ram_touched) 8 at bytes v w
      → Has (with_part area (at - start) bytes) w
  area-written at bytes area v w h low high r =
      write-stays ram_ran ram_touched start (end - start) even size_even Has (λ l b x. x.long) (λ l b x. x.small) (λ l b c n x same. has-same l b c x same) has-loads 8 1024 direct_sizes has-stores 8 r.accesses area at bytes v w h low (omega arith) r.spell r.path
