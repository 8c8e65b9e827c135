-- The user area, and any doubleword that stays, over accesses while the kernel waits.
use Rattle.std.proofs.Common.{◌≡◌, ◌≢◌, ◌≤◌, ◌+◌, ◌-◌, ◌*◌, ◌%◌, ℕ, inl, inr, List, [], ◌∷◌, ◌++◌}
use Rattle.std.proofs.Common.{length, take, drop, length-drop, refl, sym, ap, subst, ◌∙◌, arith}
use Rattle.std.specs.Prelude.{⊤, Some, Ok, Err}
use Rattle.std.specs.Int.{to_le_bytes, w64}
use Rattle.std.proofs.lemmas.List.{length-take-le, take_all}
use Rattle.std.proofs.lemmas.Nat.{from_le_bytes-to_le_bytes_8}
use Rattle.byteorder.specs.Endian.{little_number}
use Rattle.chunk_memory.proofs.AreaRanges.{area_ranges}
use Rattle.chunk_memory.proofs.WordLemmas.{number-of}
use Rattle.chunk_memory.specs.BeatLaws.{eight-of}
use Rattle.chunk_memory.specs.RangeLaws.{KeepsArea, KeepsRanges}
use Rattle.chunk_memory.specs.Reached.{Reached}
use Rattle.chunk_memory.specs.Spelling.{IsPiece, MergesPiece, SpellsRead, SpellsWrite, StoredFits}
use Rattle.chunk_memory.specs.Spelling.{place_of, stored_at, stored_bytes}
use Rattle.chunk_memory.specs.declared.stops.MemStop.{MemStop}
use Rattle.chunk_memory.specs.declared.stops.MemStop.TheVariants.{Unmapped, Spent, WireFault, CmdErr}
use Rattle.fe_base.specs.Access.{Access, Loaded, Stored, StoredLow, StoredHigh}
use Rattle.fe_base.specs.MemoryMap.{user_start, start_word}
use Rattle.guest_memory.proofs.AreaLemmas.{is_ram-user, bus_load-user}
use Rattle.guest_memory.proofs.BusLemmas.{user_size-is, is_beat-ram, beat-ram}
use Rattle.guest_memory.proofs.MemoryLemmas.{load-take}
use Rattle.guest_memory.proofs.PartLemmas.{length-with_part, store-is}
use Rattle.guest_memory.specs.Bus.{beat, with_beat}
use Rattle.guest_memory.specs.Memory.{load, store, with_part, AreBytes}
use Rattle.kernel_sim.specs.Advance.{StepsAdvance, HostWritesHold}
use Rattle.rv_hart.specs.HartStep.{System, over}
use Rattle.syscall_proxy.specs.HostRow.{user_bytes}
use Rattle.syscall_proxy.specs.Request.{doublewords}
use Rattle.syscall_proxy.specs.RowShapes.{InUserArea}
use Rattle.target_box.specs.Turn.{ran, touched}
use Rattle.tether_base.proofs.Stayed.{stays-ran, takes_user_writes}
use Rattle.tether_base.specs.ToldActs.{SeenRead, SeenWritten}
use Rattle.tether_base.specs.Waiting.{CallState, Waiting}

-- ---- whole doublewords alone
-- an access to a whole doubleword
abbrev pub whole : System → Access → System → Type 0
whole s (Loaded place value) v = touched s (Loaded place value) v
whole s (Stored place value) v = touched s (Stored place value) v
whole s (StoredLow place value) v = ⊥
whole s (StoredHigh place value) v = ⊥

-- none of them is to a half
abbrev pub NoHalves : List Access → Type 0
NoHalves [] = ⊤
NoHalves (Loaded place value ∷ more) = NoHalves more
NoHalves (Stored place value ∷ more) = NoHalves more
NoHalves (StoredLow place value ∷ more) = ⊥
NoHalves (StoredHigh place value ∷ more) = ⊥

pub no-halves-front : (xs ys : List Access) → NoHalves (xs ++ ys) → NoHalves xs
no-halves-front [] ys h = tt
no-halves-front (Loaded place value ∷ xs) ys h = no-halves-front xs ys h
no-halves-front (Stored place value ∷ xs) ys h = no-halves-front xs ys h
no-halves-front (StoredLow place value ∷ xs) ys h = absurd h
no-halves-front (StoredHigh place value ∷ xs) ys h = absurd h

pub read-no-halves : (cut at : ℕ) (bytes : List ℕ) (xs : List Access) → SpellsRead cut at bytes xs → NoHalves xs
read-no-halves cut at bytes [] s = tt
read-no-halves cut at bytes (Loaded place value ∷ xs) s =
    read-no-halves cut (at + s.0.size) (drop s.0.size bytes) xs s.1
read-no-halves cut at bytes (Stored place value ∷ xs) s = absurd s
read-no-halves cut at bytes (StoredLow place value ∷ xs) s = absurd s
read-no-halves cut at bytes (StoredHigh place value ∷ xs) s = absurd s

-- a merged unit of 8 bytes has 8
merged-long : (cut at : ℕ) (bytes : List ℕ) (place old : ℕ) (store : Access)
    → MergesPiece 8 cut at bytes place old store → length (stored_bytes store) ≡ 8
merged-long cut at bytes place old store p =
    let word : List ℕ = to_le_bytes w64 old in
    let unit : List ℕ = take 8 (drop (at % 8 - at % 8) word) in
    let none : at % 8 - at % 8 ≡ 0 = omega arith in
    let long : length unit ≡ 8 = ap (λ (n : ℕ). length (take 8 (drop n word))) none
    ∙ ap (λ (l : List ℕ). length l) (take_all 8 word (omega (arith, eight-of old))) ∙ eight-of old in
    let part : length (take p.size bytes) ≡ p.size = length-take-le p.size bytes p.piece.within in
    ap (λ (l : List ℕ). length l) p.bytes_are
    ∙ length-with_part unit (at % 8) (take p.size bytes) (omega (arith, p.in_unit)) ∙ long

four-not-eight : ◌≡◌ {A = ℕ} 4 8 → ⊥
four-not-eight e = cc

pub write-no-halves : (cut at : ℕ) (bytes : List ℕ) (xs : List Access) → SpellsWrite 8 cut at bytes xs → NoHalves xs
write-no-halves cut at bytes [] s = tt
write-no-halves cut at bytes (Loaded place old ∷ []) s = absurd s
write-no-halves cut at bytes (Loaded place old ∷ Loaded place' value ∷ xs) s = let no : ⊥ = s.0.fits in absurd no
write-no-halves cut at bytes (Loaded place old ∷ Stored place' value ∷ xs) s =
    write-no-halves cut (at + s.0.size) (drop s.0.size bytes) xs s.1
write-no-halves cut at bytes (Loaded place old ∷ StoredLow place' value ∷ xs) s =
    let e : length (stored_bytes (StoredLow place' value)) ≡ 8 =
    merged-long cut at bytes place old (StoredLow place' value) s.0 in let no : ⊥ = four-not-eight e in absurd no
write-no-halves cut at bytes (Loaded place old ∷ StoredHigh place' value ∷ xs) s =
    let e : length (stored_bytes (StoredHigh place' value)) ≡ 8 =
    merged-long cut at bytes place old (StoredHigh place' value) s.0 in let no : ⊥ = four-not-eight e in absurd no
write-no-halves cut at bytes (Stored place value ∷ xs) s = write-no-halves cut (at + 8) (drop 8 bytes) xs s.1
write-no-halves cut at bytes (StoredLow place value ∷ xs) s = let e : ◌≡◌ {A = ℕ} 4 0 = s.0.whole in let no : ⊥ =
    cc in absurd no
write-no-halves cut at bytes (StoredHigh place value ∷ xs) s = let e : ◌≡◌ {A = ℕ} 4 0 = s.0.whole in let no : ⊥ =
    cc in absurd no

pub whole-path : (xs : List Access) (s v : System) → NoHalves xs → Reached ran touched s xs v → Reached ran whole s xs v
whole-path [] s v h r = r
whole-path (Loaded place value ∷ xs) s v h r = (r.0, r.1, r.2, r.3, r.4, whole-path xs r.2 v h r.5)
whole-path (Stored place value ∷ xs) s v h r = (r.0, r.1, r.2, r.3, r.4, whole-path xs r.2 v h r.5)
whole-path (StoredLow place value ∷ xs) s v h r = absurd h
whole-path (StoredHigh place value ∷ xs) s v h r = absurd h

-- ---- doublewords that stay, read one behind the other
front-number : (bytes : List ℕ) → little_number 8 bytes ≡ little_number 8 (take 8 bytes)
unfolding load
front-number bytes = load-take bytes 0 8

-- the piece of a read that begins at a doubleword, of some of them
whole-piece : (at count size n : ℕ) → at % 8 ≡ 0 → count ≡ 8 + 8 * n → IsPiece 8 at count size → size ≡ 8
whole-piece at count size n even long p = elim p.ends [
  | inl e ↦ omega (arith, p.some, p.inside)
  | inr e ↦ omega (arith, p.some, p.inside)
]

module _ (P : System → Type 0) (runs : (s v : System) (n : ℕ) → P s → ran s n v → P v) where
  -- a load keeps what holds of the system
  pub reads-keep : (cut at : ℕ) (bytes : List ℕ) (xs more : List Access) (s v : System)
      → SpellsRead cut at bytes (xs ++ more) → Reached ran touched s xs v → P s → P v
  reads-keep cut at bytes [] more s v spelled r h = runs s v r.0 h r.1
  reads-keep cut at bytes (Loaded place value ∷ xs) more s v spelled r h =
      reads-keep cut (at + spelled.0.size) (drop spelled.0.size bytes) xs more r.2 v spelled.1 r.5
      (subst P (sym r.4.0) (runs s r.1 r.0 h r.3))
  reads-keep cut at bytes (Stored place value ∷ xs) more s v spelled r h = absurd spelled
  reads-keep cut at bytes (StoredLow place value ∷ xs) more s v spelled r h = absurd spelled
  reads-keep cut at bytes (StoredHigh place value ∷ xs) more s v spelled r h = absurd spelled

  -- these doublewords stand from a place on
  abbrev pub Gives : ℕ → List ℕ → Type 0
  Gives at [] = ⊤
  Gives at (value ∷ more) = ((s : System) (found : ℕ) → P s → beat s.bus at ≡ Some found → found ≡ value)
      × Gives (at + 8) more

  pub words-read : (values : List ℕ) (at : ℕ) (bytes : List ℕ) (xs : List Access) (s v : System) → at % 8 ≡ 0
      → Gives at values → length bytes ≡ 8 * length values
      → SpellsRead 8 at bytes xs → Reached ran touched s xs v → P s → P v × (doublewords (length values) bytes ≡ values)
  words-read [] at bytes [] s v even gives size spelled r h = (runs s v r.0 h r.1, refl)
  words-read [] at bytes (Loaded place found ∷ xs) s v even gives size spelled r h =
      absurd (omega (arith, spelled.0.piece.some, spelled.0.piece.within))
  words-read (value ∷ more) at bytes [] s v even gives size spelled r h =
      let none : length bytes ≡ 0 = ap (λ (l : List ℕ). length l) spelled in
      absurd (omega arith)
  words-read (value ∷ more) at bytes (Loaded place found ∷ xs) s v even gives size spelled r h =
      let p = spelled.0 in
      let word : List ℕ = to_le_bytes w64 found in
      let eight : p.size ≡ 8 = whole-piece at (length bytes) p.size (length more) even (omega arith) p.piece in
      let here : place ≡ at = p.place_is ∙ (let e : at - at % 8 ≡ at = omega arith in e) in
      let mid : P r.1 = runs s r.1 r.0 h r.3 in
      let found_is : found ≡ value = gives.0 r.1 found mid
      (subst (λ (n : ℕ). beat r.1.bus n ≡ Some found) here r.4.1) in
      let part : take 8 bytes ≡ word =
      subst (λ (n : ℕ). take n bytes ≡ take n (drop (at % 8) word)) eight p.bytes_are
      ∙ ap (λ (n : ℕ). take 8 (drop n word)) even ∙ take_all 8 word (omega (arith, eight-of found)) in
      let number : little_number 8 bytes ≡ value =
      front-number bytes ∙ ap (λ (l : List ℕ). little_number 8 l) part ∙ number-of word
      ∙ from_le_bytes-to_le_bytes_8 found p.fits ∙ found_is in
      let tail : SpellsRead 8 (at + 8) (drop 8 bytes) xs =
      subst (λ (n : ℕ). SpellsRead 8 (at + n) (drop n bytes) xs) eight spelled.1 in
      let rest = words-read more (at + 8) (drop 8 bytes) xs r.2 v (omega arith) gives.1
      (omega (arith, length-drop 8 bytes)) tail r.5 (subst P (sym r.4.0) mid) in (
        rest.0,
        ap (λ (n : ℕ). n ∷ doublewords (length more) (drop 8 bytes)) number
            ∙ ap (λ (l : List ℕ). value ∷ l) rest.1,
      )
  words-read values at bytes (Stored place found ∷ xs) s v even gives size spelled r h = absurd spelled
  words-read values at bytes (StoredLow place found ∷ xs) s v even gives size spelled r h = absurd spelled
  words-read values at bytes (StoredHigh place found ∷ xs) s v even gives size spelled r h = absurd spelled

-- ---- the user area while the kernel waits
module _ (advance : StepsAdvance) (writes : HostWritesHold) (c : CallState) where
  user-load : (user : List ℕ) (s v : System) (place value : ℕ) → place % 8 ≡ 0 → user_start ≤ place → place
      + 8 ≤ user_start + 0x1000000 → Waiting c user s
      → whole s (Loaded place value) v → Waiting c user v × (value ≡ load user (place - user_start) 8)
  user-load user s v place value even low high w t =
      let other : place ≢ start_word = λ e. omega arith in
      let known : beat s.bus place ≡ Some (load s.bus.user (place - user_start) 8) =
      beat-ram s.bus place other (is_beat-ram place even (is_ram-user place 8 low (omega arith)))
      ∙ ap (λ (n : ℕ). Some n) (bus_load-user s.bus place 8 (omega arith)) in
      let both : Some value ≡ Some (load s.bus.user (place - user_start) 8) = sym t.1 ∙ known in
      let is : value ≡ load s.bus.user (place - user_start) 8 = cc in (
        subst (λ (z : System). Waiting c user z) (sym t.0) w,
        is
            ∙ ap (λ (l : List ℕ). load l (place - user_start) 8) w.user_is,
      )

  user-store : (user : List ℕ) (s v : System) (store : Access) → StoredFits store → place_of store % 8 ≡ 0
      → user_start ≤ place_of store → place_of store + 8 ≤ user_start + 0x1000000
      → Waiting c user s → whole s store v
      → Waiting c (with_part user (stored_at store - user_start) (stored_bytes store)) v
  user-store user s v (Stored place value) fits even low high w t =
      let put = takes_user_writes writes c user s place value even low (omega arith) fits w in
      let same : store user (place - user_start) 8 value ≡ with_part user (place - user_start) (to_le_bytes w64 value) =
      store-is user (place - user_start) 8 value in
      subst (λ (z : System). Waiting c (with_part user (place - user_start) (to_le_bytes w64 value)) z) (sym t)
      (subst (λ (l : List ℕ). Waiting c l (over (with_beat s.bus place value) s.hart)) same put)
  user-store user s v (Loaded place value) fits even low high w t = absurd fits
  user-store user s v (StoredLow place value) fits even low high w t = absurd t
  user-store user s v (StoredHigh place value) fits even low high w t = absurd t

  user-area : KeepsArea ran whole user_start 0x1000000 (λ user s. Waiting c user s)
  user-area = record {
    even = refl;
    whole = refl;
    long = λ user s w. sym (ap (λ (l : List ℕ). length l) w.user_is) ∙ w.fits.bus_fits.user_length ∙ user_size-is;
    are_bytes = λ user s w. subst AreBytes w.user_is w.fits.bus_fits.user_bytes;
    runs = λ user s v n w r. stays-ran advance c user s v n w r;
    loads = user-load;
    stores = user-store;
  }

  user-ranges : KeepsRanges ran whole user_start 0x1000000 (λ user s. Waiting c user s)
  user-ranges = area_ranges ran whole user_start 0x1000000 (λ user s. Waiting c user s) user-area

  -- it waits, over some user bytes
  abbrev pub StillWaits : System → Type 0
  StillWaits s = (user : List ℕ) × Waiting c user s

  pub on-read : (s v : System) (user : List ℕ) (at count : ℕ) (bytes : List ℕ) → InUserArea at count → Waiting c user s
      → SeenRead s at count (Ok bytes) v
      → Waiting c user v × (bytes ≡ user_bytes.get user at count) × (length bytes ≡ count)
  on-read s v user at count bytes inside w d =
      let path = whole-path d.accesses s v (read-no-halves 8 at bytes d.accesses d.spell) d.path in
      let got = user-ranges.read 8 at bytes user d.accesses s v w inside.0
      (omega (arith, d.size, inside.1)) d.spell path in
      (got.0, got.1 ∙ ap (λ (n : ℕ). take n (drop (at - user_start) user)) d.size, d.size)

  pub on-write : (s v : System) (user : List ℕ) (at : ℕ) (bytes : List ℕ) → InUserArea at (length bytes)
      → Waiting c user s → SeenWritten s at bytes (Ok tt) v
      → Waiting c (user_bytes.set user at bytes) v
  on-write s v user at bytes inside w d =
      let path = whole-path d.accesses s v (write-no-halves 8 at bytes d.accesses d.spell) d.path in
      user-ranges.written 8 8 at bytes user d.accesses s v (inr refl) w inside.0 (omega (arith, inside.1)) d.spell path

  pub off-read : (s v : System) (user : List ℕ) (at count : ℕ) (why : MemStop) → InUserArea at count → Waiting c user s
      → SeenRead s at count (Err why) v → StillWaits v
  off-read s v user at count (Unmapped place) inside w d = (user, subst (λ (z : System). Waiting c user z) (sym d) w)
  off-read s v user at count Spent inside w d = (
    user,
    subst (λ (z : System). Waiting c user z) (sym d.stands_so)
        (reads-keep (λ z. Waiting c user z)
        (λ a b n h r. stays-ran advance c user a b n h r) 8 at d.bytes d.accesses d.more s d.last d.spell d.path w),
  )
  off-read s v user at count WireFault inside w d = (
    user,
    subst (λ (z : System). Waiting c user z) (sym d.stands_so)
        (reads-keep (λ z. Waiting c user z)
        (λ a b n h r. stays-ran advance c user a b n h r) 8 at d.bytes d.accesses d.more s d.last d.spell d.path w),
  )
  off-read s v user at count (CmdErr number) inside w d = absurd d

  pub off-write : (s v : System) (user : List ℕ) (at : ℕ) (bytes : List ℕ) (why : MemStop)
      → InUserArea at (length bytes) → Waiting c user s → SeenWritten s at bytes (Err why) v → StillWaits v
  off-write s v user at bytes (Unmapped place) inside w d = (user, subst (λ (z : System). Waiting c user z) (sym d) w)
  off-write s v user at bytes Spent inside w d =
      let path = whole-path d.accesses s d.last
      (no-halves-front d.accesses d.more (write-no-halves 8 at bytes (d.accesses ++ d.more) d.spell)) d.path in
      let left = user-ranges.write_begun 8 8 at bytes user d.accesses d.more s d.last (inr refl) w inside.0
      (omega (arith, inside.1)) d.spell path in
      (left.0, subst (λ (z : System). Waiting c left.0 z) (sym d.stands_so) left.1)
  off-write s v user at bytes WireFault inside w d =
      let path = whole-path d.accesses s d.last
      (no-halves-front d.accesses d.more (write-no-halves 8 at bytes (d.accesses ++ d.more) d.spell)) d.path in
      let left = user-ranges.write_begun 8 8 at bytes user d.accesses d.more s d.last (inr refl) w inside.0
      (omega (arith, inside.1)) d.spell path in
      (left.0, subst (λ (z : System). Waiting c left.0 z) (sym d.stands_so) left.1)
  off-write s v user at bytes (CmdErr number) inside w d = absurd d
