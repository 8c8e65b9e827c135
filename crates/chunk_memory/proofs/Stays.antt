-- Ranges that are read and written of an area that nothing else changes, with steps before, between and after the accesses.
use Rattle.std.proofs.Common.{◌≡◌, ℕ, ◌+◌, ◌-◌, ◌%◌, ◌<◌, ◌≤◌, List, [], ◌∷◌, ◌++◌, length, take, drop, length-drop, take-append-drop, append_assoc, sym, ap, subst, ◌∙◌, arith}
use Rattle.std.specs.Int.{to_le_bytes, w64}
use Rattle.std.proofs.lemmas.List.{length-take-le, take-take, drop-take, drop-drop, take_all, nil_from_length}
use Rattle.std.proofs.lemmas.Nat.{le_bytes_8}
use Rattle.std.proofs.Math.Seq.{take-add}
use Rattle.fe_base.specs.Access.{Access, Loaded, Stored, StoredLow, StoredHigh}
use Rattle.guest_memory.proofs.MemoryLemmas.{load-take}
use Rattle.guest_memory.proofs.PartLemmas.{length-with_part}
use Rattle.guest_memory.specs.Memory.{load, with_part}
use Rattle.chunk_memory.proofs.PieceLemmas.{unit-place, part-of}
use Rattle.chunk_memory.proofs.RamLemmas.{part-joins, none-is}
use Rattle.chunk_memory.proofs.WordLemmas.{AreSmall, small-drop, small-take, number-of}
use Rattle.chunk_memory.specs.BeatLaws.{eight-of}
use Rattle.chunk_memory.specs.Ports.{ArePortSizes}
use Rattle.chunk_memory.specs.RangeLaws.{OneLoad, OneStore}
use Rattle.chunk_memory.specs.Reached.{Reached}
use Rattle.chunk_memory.specs.Spelling.{StoresPiece, MergesPiece, SpellsRead, SpellsWrite, place_of, stored_at, stored_bytes, StoredFits, IsOneAccess}

-- the bytes of a doubleword of an area
le-load : (area : List ℕ) (place : ℕ) → place + 8 ≤ length area → AreSmall area → to_le_bytes w64 (load area place 8) ≡ take 8 (drop place area)
le-load area place room small =
    let l : List ℕ = take 8 (drop place area) in
    le_bytes_8 l (load area place 8) (length-take-le 8 (drop place area) (omega (arith, length-drop place area))) (small-take 8 (drop place area) (small-drop place area small)) (load-take area place 8 ∙ number-of l)

-- a part in the place of the part of a part
pub part-merged : (area part : List ℕ) (q s m : ℕ) → q + m ≤ length area → s + length part ≤ m → with_part area q (with_part (take m (drop q area)) s part) ≡ with_part area (q + s) part
part-merged area part q s m room fits =
    let w : List ℕ = take m (drop q area) in
    let k : ℕ = length part in
    let long : length w ≡ m = length-take-le m (drop q area) (omega (arith, length-drop q area)) in
    let size : length (with_part w s part) ≡ m = length-with_part w s part (omega arith) ∙ long in
    let front : take q area ++ take s w ≡ take (q + s) area = ap (λ (l : List ℕ). take q area ++ l) (take-take s m (drop q area) (omega arith)) ∙ sym (take-add q s area) in
    let split : m ≡ s + k + (m - (s + k)) = omega arith in
    let cut : drop (s + k) w ≡ take (m - (s + k)) (drop (s + k) (drop q area)) = ap (λ (n : ℕ). drop (s + k) (take n (drop q area))) split ∙ drop-take (s + k) (m - (s + k)) (drop q area) in
    let past : q + m ≡ q + s + k + (m - (s + k)) = omega arith in
    let sum : q + (s + k) ≡ q + s + k = omega arith in
    let here : drop (s + k) (drop q area) ≡ drop (q + s + k) area = drop-drop (s + k) q area ∙ ap (λ (n : ℕ). drop n area) sum in
    let tail : drop (q + m) area ≡ drop (m - (s + k)) (drop (q + s + k) area) = ap (λ (n : ℕ). drop n area) past ∙ sym (drop-drop (m - (s + k)) (q + s + k) area) in
    let back : drop (s + k) w ++ drop (q + m) area ≡ drop (q + s + k) area =
    ap (λ (l : List ℕ). l ++ drop (q + m) area) (cut ∙ ap (λ (l : List ℕ). take (m - (s + k)) l) here) ∙ ap (λ (l : List ℕ). take (m - (s + k)) (drop (q + s + k) area) ++ l) tail
    ∙ take-append-drop (m - (s + k)) (drop (q + s + k) area) in
    ap (λ (n : ℕ). take q area ++ (with_part w s part ++ drop (q + n) area)) size
    ∙ ap (λ (l : List ℕ). take q area ++ l) (append_assoc (take s w) (part ++ drop (s + k) w) (drop (q + m) area))
    ∙ sym (append_assoc (take q area) (take s w) ((part ++ drop (s + k) w) ++ drop (q + m) area))
    ∙ ap (λ (l : List ℕ). l ++ ((part ++ drop (s + k) w) ++ drop (q + m) area)) front
    ∙ ap (λ (l : List ℕ). take (q + s) area ++ l) (append_assoc part (drop (s + k) w) (drop (q + m) area) ∙ ap (λ (l : List ℕ). part ++ l) back)

-- ---- a doubleword is one access
pub one-load : (cut at : ℕ) (bytes : List ℕ) (xs : List Access) → at % 8 ≡ 0 → length bytes ≡ 8 → IsOneAccess at (length bytes) xs → SpellsRead cut at bytes xs → OneLoad at bytes xs
one-load cut at bytes [] even eight one s = let e = one even eight in absurd (omega arith)
one-load cut at bytes (Loaded place value ∷ xs) even eight one s =
    let p = s.0 in
    let none : xs ≡ [] = nil_from_length xs (omega (arith, one even eight)) in
    let rest : drop p.size bytes ≡ [] = subst (λ (l : List Access). SpellsRead cut (at + p.size) (drop p.size bytes) l) none s.1 in
    let size : p.size ≡ 8 = omega (arith, p.piece.within, length-drop p.size bytes, ap (λ (l : List ℕ). length l) rest) in
    let word : List ℕ = to_le_bytes w64 value in
    let here : place ≡ at = p.place_is ∙ (let e : at - at % 8 ≡ at = omega arith in e) in
    let whole : take p.size bytes ≡ bytes = take_all p.size bytes (omega arith) in
    let all : take p.size (drop (at % 8) word) ≡ word = ap (λ (n : ℕ). take p.size (drop n word)) even ∙ take_all p.size word (omega (arith, eight-of value)) in
    record {
      value = value;
      is = ap (λ (l : List Access). Loaded place value ∷ l) none ∙ ap (λ (n : ℕ). Loaded n value ∷ []) here;
      fits = p.fits;
      bytes_are = sym whole ∙ p.bytes_are ∙ all;
    }
one-load cut at bytes (Stored place x ∷ xs) even eight one s = absurd s
one-load cut at bytes (StoredLow place x ∷ xs) even eight one s = absurd s
one-load cut at bytes (StoredHigh place x ∷ xs) even eight one s = absurd s

pub one-store : (unit cut at : ℕ) (bytes : List ℕ) (xs : List Access) → at % 8 ≡ 0 → length bytes ≡ 8 → IsOneAccess at (length bytes) xs → SpellsWrite unit cut at bytes xs → OneStore at bytes xs
one-store unit cut at bytes [] even eight one s = let e = one even eight in absurd (omega arith)
one-store unit cut at bytes (Loaded place old ∷ []) even eight one s = absurd s
one-store unit cut at bytes (Loaded place old ∷ store ∷ xs) even eight one s = let e = one even eight in absurd (omega arith)
one-store unit cut at bytes (Stored place value ∷ xs) even eight one s =
    let p = s.0 in
    let none : xs ≡ [] = nil_from_length xs (omega (arith, one even eight)) in
    let here : place ≡ at = p.here in
    record {
      value = value;
      is = ap (λ (l : List Access). Stored place value ∷ l) none ∙ ap (λ (n : ℕ). Stored n value ∷ []) here;
      fits = p.fits;
      bytes_are = sym (take_all 8 bytes (omega arith)) ∙ sym p.bytes_are;
    }
one-store unit cut at bytes (StoredLow place value ∷ xs) even eight one s =
    let none : xs ≡ [] = nil_from_length xs (omega (arith, one even eight)) in
    let rest : drop 4 bytes ≡ [] = subst (λ (l : List Access). SpellsWrite unit cut (at + 4) (drop 4 bytes) l) none s.1 in
    absurd (omega (arith, length-drop 4 bytes, ap (λ (l : List ℕ). length l) rest))
one-store unit cut at bytes (StoredHigh place value ∷ xs) even eight one s =
    let none : xs ≡ [] = nil_from_length xs (omega (arith, one even eight)) in
    let rest : drop 4 bytes ≡ [] = subst (λ (l : List Access). SpellsWrite unit cut (at + 4) (drop 4 bytes) l) none s.1 in
    absurd (omega (arith, length-drop 4 bytes, ap (λ (l : List ℕ). length l) rest))

module _ {V : Type 0} (ran : V → ℕ → V → Type 0) (touched : V → Access → V → Type 0) (base size : ℕ) (even : base % 8 ≡ 0) (whole : size % 8 ≡ 0) (Has : List ℕ → V → Type 0)
    (long : (area : List ℕ) (v : V) → Has area v → length area ≡ size)
    (small : (area : List ℕ) (v : V) → Has area v → AreSmall area)
    (runs : (area : List ℕ) (v w : V) (n : ℕ) → Has area v → ran v n w → Has area w)
    (loads : (area : List ℕ) (v w : V) (p x : ℕ) → p % 8 ≡ 0 → base ≤ p → p + 8 ≤ base + size → Has area v → touched v (Loaded p x) w → Has area w × (x ≡ load area (p - base) 8)) where
  -- the doubleword of an address stands in the area
  there : (at count : ℕ) → base ≤ at → 0 < count → at + count ≤ base + size → (base ≤ at - at % 8) × (at - at % 8 + 8 ≤ base + size)
  there at count low some high = (omega arith, omega arith)

  -- what one load gives of its area
  loaded : (area : List ℕ) (at size_of x : ℕ) (v w : V) → Has area v → base ≤ at → 0 < size_of → at % 8 + size_of ≤ 8 → at + size_of ≤ base + size → touched v (Loaded (at - at % 8) x) w
      → Has area w × (take size_of (drop (at % 8) (to_le_bytes w64 x)) ≡ take size_of (drop (at - base) area))
  loaded area at k x v w has low some inside high t =
      let p : ℕ = at - at % 8 in
      let in_area = there at k low some high in
      let got = loads area v w p x (omega arith) in_area.0 in_area.1 has t in
      let room : p - base + 8 ≤ length area = omega (arith, long area v has, in_area.0, in_area.1) in
      let word : to_le_bytes w64 x ≡ take 8 (drop (p - base) area) = ap (λ (n : ℕ). to_le_bytes w64 n) got.1 ∙ le-load area (p - base) room (small area v has) in
      let sum : p - base + at % 8 ≡ at - base = omega (arith, in_area.0) in
      (got.0, ap (λ (l : List ℕ). take k (drop (at % 8) l)) word ∙ part-of k (at % 8) 8 (p - base) area inside ∙ ap (λ (n : ℕ). take k (drop n area)) sum)

  -- a read gives the area's bytes
  pub read-stays : (cut : ℕ) (xs : List Access) (area : List ℕ) (at : ℕ) (bytes : List ℕ) (v w : V) → Has area v → base ≤ at → at + length bytes ≤ base + size → SpellsRead cut at bytes xs → Reached ran touched v xs w
      → Has area w × (bytes ≡ take (length bytes) (drop (at - base) area))
  read-stays cut [] area at bytes v w has low high s r = (runs area v w r.0 has r.1, s ∙ ap (λ (n : ℕ). take n (drop (at - base) area)) (sym (ap (λ (l : List ℕ). length l) s)))
  read-stays cut (Loaded place x ∷ xs) area at bytes v w has low high s r =
      let p = s.0 in
      let k : ℕ = p.size in
      let n : ℕ = length bytes in
      let within : k ≤ n = p.piece.within in
      let mid : Has area r.1 = runs area v r.1 r.0 has r.3 in
      let here : touched r.1 (Loaded (at - at % 8) x) r.2 = subst (λ (q : ℕ). touched r.1 (Loaded q x) r.2) p.place_is r.4 in
      let got = loaded area at k x r.1 r.2 mid low p.piece.some p.piece.inside (omega arith) here in
      let front : take k bytes ≡ take k (drop (at - base) area) = p.bytes_are ∙ got.1 in
      let left : length (drop k bytes) ≡ n - k = length-drop k bytes in
      let more = read-stays cut xs area (at + k) (drop k bytes) r.2 w got.0 (omega arith) (omega arith) s.1 r.5 in
      let next : at + k - base ≡ at - base + k = omega arith in
      let tail : drop k bytes ≡ take (n - k) (drop k (drop (at - base) area)) =
      more.1 ∙ ap (λ (j : ℕ). take j (drop (at + k - base) area)) left ∙ ap (λ (j : ℕ). take (n - k) (drop j area)) next ∙ ap (λ (l : List ℕ). take (n - k) l) (sym (drop-drop k (at - base) area)) in
      let all : k + (n - k) ≡ n = omega arith in (
        more.0,
        sym (take-append-drop k bytes) ∙ ap (λ (l : List ℕ). l ++ drop k bytes) front ∙ ap (λ (l : List ℕ). take k (drop (at - base) area) ++ l) tail
            ∙ sym (take-add k (n - k) (drop (at - base) area)) ∙ ap (λ (j : ℕ). take j (drop (at - base) area)) all,
      )
  read-stays cut (Stored place x ∷ xs) area at bytes v w has low high s r = absurd s
  read-stays cut (StoredLow place x ∷ xs) area at bytes v w has low high s r = absurd s
  read-stays cut (StoredHigh place x ∷ xs) area at bytes v w has low high s r = absurd s

  -- a read that was begun leaves the area
  pub read-begun-stays : (cut : ℕ) (xs more : List Access) (area : List ℕ) (at : ℕ) (bytes : List ℕ) (v w : V) → Has area v → base ≤ at → at + length bytes ≤ base + size → SpellsRead cut at bytes (xs ++ more) → Reached ran touched v xs w → Has area w
  read-begun-stays cut [] more area at bytes v w has low high s r = runs area v w r.0 has r.1
  read-begun-stays cut (Loaded place x ∷ xs) more area at bytes v w has low high s r =
      let p = s.0 in
      let k : ℕ = p.size in
      let within : k ≤ length bytes = p.piece.within in
      let here : touched r.1 (Loaded (at - at % 8) x) r.2 = subst (λ (q : ℕ). touched r.1 (Loaded q x) r.2) p.place_is r.4 in
      let got = loaded area at k x r.1 r.2 (runs area v r.1 r.0 has r.3) low p.piece.some p.piece.inside (omega arith) here in
      read-begun-stays cut xs more area (at + k) (drop k bytes) r.2 w got.0 (omega arith) (omega (arith, length-drop k bytes)) s.1 r.5
  read-begun-stays cut (Stored place x ∷ xs) more area at bytes v w has low high s r = absurd s
  read-begun-stays cut (StoredLow place x ∷ xs) more area at bytes v w has low high s r = absurd s
  read-begun-stays cut (StoredHigh place x ∷ xs) more area at bytes v w has low high s r = absurd s

  -- the rest of a part behind its front
  joined : (area bytes : List ℕ) (at k : ℕ) → base ≤ at → k ≤ length bytes → at - base + k ≤ length area → with_part (with_part area (at - base) (take k bytes)) (at + k - base) (drop k bytes) ≡ with_part area (at - base) bytes
  joined area bytes at k low fits room =
      let count : length (take k bytes) ≡ k = length-take-le k bytes fits in
      let place : at + k - base ≡ at - base + length (take k bytes) = omega arith in
      ap (λ (n : ℕ). with_part (with_part area (at - base) (take k bytes)) n (drop k bytes)) place ∙ part-joins area (take k bytes) (drop k bytes) (at - base) (omega arith)
      ∙ ap (λ (l : List ℕ). with_part area (at - base) l) (take-append-drop k bytes)

  module _ (unit most : ℕ) (sizes : ArePortSizes unit most)
      (stores : (area : List ℕ) (v w : V) (s : Access) → StoredFits s → place_of s % 8 ≡ 0 → base ≤ place_of s → place_of s + 8 ≤ base + size → Has area v → touched v s w → Has (with_part area (stored_at s - base) (stored_bytes s)) w) where
    -- a piece of whole units was stored
    stored : (area : List ℕ) (cut at : ℕ) (bytes : List ℕ) (s : Access) (v w : V) → Has area v → base ≤ at → at + length bytes ≤ base + size → StoresPiece unit cut at bytes s → touched v s w → Has (with_part area (at - base) (take (length (stored_bytes s)) bytes)) w
    stored area cut at bytes s v w has low high p t =
        let k : ℕ = length (stored_bytes s) in
        let in_area = there at k low p.piece.some (omega (arith, p.piece.within)) in
        let place : place_of s ≡ at - at % 8 = p.place_is in
        let put = stores area v w s p.fits (omega arith) (omega (arith, in_area.0)) (omega (arith, in_area.1)) has t in
        subst (λ (l : List ℕ). Has (with_part area (at - base) l) w) p.bytes_are (subst (λ (n : ℕ). Has (with_part area (n - base) (stored_bytes s)) w) p.here put)

    -- a part of a unit was stored, behind the load of its unit
    merged : (area : List ℕ) (cut at : ℕ) (bytes : List ℕ) (place old : ℕ) (s : Access) (v w : V) → Has area v → base ≤ at → at + length bytes ≤ base + size → (p : MergesPiece unit cut at bytes place old s) → old ≡ load area (at - at % 8 - base) 8 → touched v s w
        → Has (with_part area (at - base) (take p.size bytes)) w
    merged area cut at bytes place old s v w has low high p old_is t =
        let k : ℕ = p.size in
        let in_area = there at k low p.piece.some (omega (arith, p.piece.within)) in
        let here = unit-place unit most at sizes in
        let d : ℕ = at - at % 8 - base in
        let u : ℕ = at - at % unit - base in
        let q : ℕ = at % 8 - at % unit in
        let same : place_of s ≡ at - at % 8 = p.same_place ∙ p.place_is in
        let room : d + 8 ≤ length area = omega (arith, long area v has, in_area.0, in_area.1) in
        let word : to_le_bytes w64 old ≡ take 8 (drop d area) = ap (λ (n : ℕ). to_le_bytes w64 n) old_is ∙ le-load area d room (small area v has) in
        let sum : d + q ≡ u = omega (arith, here.offset, here.low, in_area.0) in
        let unit_is : take unit (drop q (to_le_bytes w64 old)) ≡ take unit (drop u area) =
        ap (λ (l : List ℕ). take unit (drop q l)) word ∙ part-of unit q 8 d area (omega (arith, here.offset, here.inside)) ∙ ap (λ (n : ℕ). take unit (drop n area)) sum in
        let bytes_is : stored_bytes s ≡ with_part (take unit (drop u area)) (at % unit) (take k bytes) = p.bytes_are ∙ ap (λ (l : List ℕ). with_part l (at % unit) (take k bytes)) unit_is in
        let count : length (take k bytes) ≡ k = length-take-le k bytes p.piece.within in
        let put = stores area v w s p.fits (omega arith) (omega (arith, in_area.0)) (omega (arith, in_area.1)) has t in
        let back : u + at % unit ≡ at - base = omega (arith, here.low, here.offset, in_area.0) in
        let all : with_part area u (with_part (take unit (drop u area)) (at % unit) (take k bytes)) ≡ with_part area (at - base) (take k bytes) =
        part-merged area (take k bytes) u (at % unit) unit (omega (arith, here.offset, here.inside, here.low)) (omega (arith, p.in_unit)) ∙ ap (λ (n : ℕ). with_part area n (take k bytes)) back in
        subst (λ (l : List ℕ). Has l w) (ap (λ (l : List ℕ). with_part area u l) bytes_is ∙ all) (subst (λ (n : ℕ). Has (with_part area (n - base) (stored_bytes s)) w) p.here put)

    abbrev pub SomeArea : V → Type 0
    SomeArea w = (area : List ℕ) × Has area w

    -- a store and the rest of a write
    rest-of : (area bytes : List ℕ) (at k : ℕ) (v w : V) → base ≤ at → k ≤ length bytes → at + length bytes ≤ base + size → Has area v → Has (with_part (with_part area (at - base) (take k bytes)) (at + k - base) (drop k bytes)) w → Has (with_part area (at - base) bytes) w
    rest-of area bytes at k v w low within high has next = subst (λ (l : List ℕ). Has l w) (joined area bytes at k low within (omega (arith, long area v has))) next

    -- a write puts its bytes in the area
    pub write-stays : (cut : ℕ) (xs : List Access) (area : List ℕ) (at : ℕ) (bytes : List ℕ) (v w : V) → Has area v → base ≤ at → at + length bytes ≤ base + size → SpellsWrite unit cut at bytes xs → Reached ran touched v xs w
        → Has (with_part area (at - base) bytes) w
    write-stays cut [] area at bytes v w has low high s r =
        subst (λ (l : List ℕ). Has (with_part area (at - base) l) w) (sym s) (subst (λ (l : List ℕ). Has l w) (none-is area (at - base)) (runs area v w r.0 has r.1))
    write-stays cut (Loaded place old ∷ []) area at bytes v w has low high s r = absurd s
    write-stays cut (Loaded place old ∷ store ∷ xs) area at bytes v w has low high s r =
        let p = s.0 in
        let k : ℕ = p.size in
        let within : k ≤ length bytes = p.piece.within in
        let in_area = there at k low p.piece.some (omega arith) in
        let mid : Has area r.1 = runs area v r.1 r.0 has r.3 in
        let first : touched r.1 (Loaded (at - at % 8) old) r.2 = subst (λ (q : ℕ). touched r.1 (Loaded q old) r.2) p.place_is r.4 in
        let got = loads area r.1 r.2 (at - at % 8) old (omega arith) in_area.0 in_area.1 mid first in
        let again : Has area r.5.1 = runs area r.2 r.5.1 r.5.0 got.0 r.5.3 in
        let put = merged area cut at bytes place old store r.5.1 r.5.2 again low high p got.1 r.5.4 in
        let next = write-stays cut xs (with_part area (at - base) (take k bytes)) (at + k) (drop k bytes) r.5.2 w put (omega arith) (omega (arith, length-drop k bytes)) s.1 r.5.5 in
        rest-of area bytes at k v w low within high has next
    write-stays cut (Stored place x ∷ xs) area at bytes v w has low high s r =
        let within : 8 ≤ length bytes = s.0.piece.within in
        let put = stored area cut at bytes (Stored place x) r.1 r.2 (runs area v r.1 r.0 has r.3) low high s.0 r.4 in
        let next = write-stays cut xs (with_part area (at - base) (take 8 bytes)) (at + 8) (drop 8 bytes) r.2 w put (omega arith) (omega (arith, length-drop 8 bytes)) s.1 r.5 in
        rest-of area bytes at 8 v w low within high has next
    write-stays cut (StoredLow place x ∷ xs) area at bytes v w has low high s r =
        let within : 4 ≤ length bytes = s.0.piece.within in
        let put = stored area cut at bytes (StoredLow place x) r.1 r.2 (runs area v r.1 r.0 has r.3) low high s.0 r.4 in
        let next = write-stays cut xs (with_part area (at - base) (take 4 bytes)) (at + 4) (drop 4 bytes) r.2 w put (omega arith) (omega (arith, length-drop 4 bytes)) s.1 r.5 in
        rest-of area bytes at 4 v w low within high has next
    write-stays cut (StoredHigh place x ∷ xs) area at bytes v w has low high s r =
        let within : 4 ≤ length bytes = s.0.piece.within in
        let put = stored area cut at bytes (StoredHigh place x) r.1 r.2 (runs area v r.1 r.0 has r.3) low high s.0 r.4 in
        let next = write-stays cut xs (with_part area (at - base) (take 4 bytes)) (at + 4) (drop 4 bytes) r.2 w put (omega arith) (omega (arith, length-drop 4 bytes)) s.1 r.5 in
        rest-of area bytes at 4 v w low within high has next

    -- a write that was begun leaves some area
    pub write-begun-stays : (cut : ℕ) (xs more : List Access) (area : List ℕ) (at : ℕ) (bytes : List ℕ) (v w : V) → Has area v → base ≤ at → at + length bytes ≤ base + size → SpellsWrite unit cut at bytes (xs ++ more) → Reached ran touched v xs w → SomeArea w
    write-begun-stays cut [] more area at bytes v w has low high s r = (area, runs area v w r.0 has r.1)
    write-begun-stays cut (Loaded place old ∷ []) [] area at bytes v w has low high s r = absurd s
    write-begun-stays cut (Loaded place old ∷ []) (store ∷ more) area at bytes v w has low high s r =
        let p = s.0 in
        let in_area = there at p.size low p.piece.some (omega (arith, p.piece.within)) in
        let first : touched r.1 (Loaded (at - at % 8) old) r.2 = subst (λ (q : ℕ). touched r.1 (Loaded q old) r.2) p.place_is r.4 in
        let got = loads area r.1 r.2 (at - at % 8) old (omega arith) in_area.0 in_area.1 (runs area v r.1 r.0 has r.3) first in
        (area, runs area r.2 w r.5.0 got.0 r.5.1)
    write-begun-stays cut (Loaded place old ∷ store ∷ xs) more area at bytes v w has low high s r =
        let p = s.0 in
        let k : ℕ = p.size in
        let within : k ≤ length bytes = p.piece.within in
        let in_area = there at k low p.piece.some (omega arith) in
        let mid : Has area r.1 = runs area v r.1 r.0 has r.3 in
        let first : touched r.1 (Loaded (at - at % 8) old) r.2 = subst (λ (q : ℕ). touched r.1 (Loaded q old) r.2) p.place_is r.4 in
        let got = loads area r.1 r.2 (at - at % 8) old (omega arith) in_area.0 in_area.1 mid first in
        let again : Has area r.5.1 = runs area r.2 r.5.1 r.5.0 got.0 r.5.3 in
        let put = merged area cut at bytes place old store r.5.1 r.5.2 again low high p got.1 r.5.4 in
        write-begun-stays cut xs more (with_part area (at - base) (take k bytes)) (at + k) (drop k bytes) r.5.2 w put (omega arith) (omega (arith, length-drop k bytes)) s.1 r.5.5
    write-begun-stays cut (Stored place x ∷ xs) more area at bytes v w has low high s r =
        let within : 8 ≤ length bytes = s.0.piece.within in
        let put = stored area cut at bytes (Stored place x) r.1 r.2 (runs area v r.1 r.0 has r.3) low high s.0 r.4 in
        write-begun-stays cut xs more (with_part area (at - base) (take 8 bytes)) (at + 8) (drop 8 bytes) r.2 w put (omega arith) (omega (arith, length-drop 8 bytes)) s.1 r.5
    write-begun-stays cut (StoredLow place x ∷ xs) more area at bytes v w has low high s r =
        let within : 4 ≤ length bytes = s.0.piece.within in
        let put = stored area cut at bytes (StoredLow place x) r.1 r.2 (runs area v r.1 r.0 has r.3) low high s.0 r.4 in
        write-begun-stays cut xs more (with_part area (at - base) (take 4 bytes)) (at + 4) (drop 4 bytes) r.2 w put (omega arith) (omega (arith, length-drop 4 bytes)) s.1 r.5
    write-begun-stays cut (StoredHigh place x ∷ xs) more area at bytes v w has low high s r =
        let within : 4 ≤ length bytes = s.0.piece.within in
        let put = stored area cut at bytes (StoredHigh place x) r.1 r.2 (runs area v r.1 r.0 has r.3) low high s.0 r.4 in
        write-begun-stays cut xs more (with_part area (at - base) (take 4 bytes)) (at + 4) (drop 4 bytes) r.2 w put (omega arith) (omega (arith, length-drop 4 bytes)) s.1 r.5
