-- Loading, while the hart is held.
use Rattle.std.proofs.Common.{◌≡◌, ◌≢◌, ◌≤◌, ◌+◌, ◌-◌, ◌==◌, ◌%◌, ℕ, zero, suc, inl, inr, List, [], ◌∷◌, ◌++◌}
use Rattle.std.proofs.Common.{refl, sym, ap, subst, ◌∙◌, arith}
use Rattle.std.specs.Prelude.{if◌then◌else◌, Some, Result, Ok, Err}
use Rattle.std.specs.Int.{to_le_bytes, w64}
use Rattle.chunk_memory.proofs.AreaRanges.{area_ranges}
use Rattle.chunk_memory.specs.RangeLaws.{KeepsArea, KeepsRanges}
use Rattle.chunk_memory.specs.Reached.{Reached}
use Rattle.chunk_memory.specs.Spelling.{SpellsWrite, StoredFits, place_of, stored_at, stored_bytes}
use Rattle.chunk_memory.specs.declared.stops.MemStop.{MemStop}
use Rattle.chunk_memory.specs.declared.stops.MemStop.TheVariants.{Unmapped, Spent, WireFault, CmdErr}
use Rattle.fe_base.specs.Access.{Access, Loaded, Stored, StoredLow, StoredHigh}
use Rattle.fe_base.specs.MemoryMap.{user_start, kernel_start, start_word}
use Rattle.guest_memory.proofs.AreaLemmas.{is_ram-user, is_ram-kernel, bus_load-user, bus_load-kernel, bus_store-kernel}
use Rattle.guest_memory.proofs.AreaLemmas.{with_bus_bytes-user, with_bus_bytes-kernel, IsBus-with_beat}
use Rattle.guest_memory.proofs.BusLemmas.{user_size-is, kernel_size-is, is_beat-ram, beat-ram, with_beat-ram}
use Rattle.guest_memory.proofs.BusLemmas.{with_beat-start}
use Rattle.guest_memory.proofs.PartLemmas.{store-is}
use Rattle.guest_memory.specs.Bus.{BusState, IsBus, beat, with_beat, with_bus_bytes}
use Rattle.guest_memory.specs.Memory.{load, store, with_part}
use Rattle.host_text.specs.Played.{Played, has_written, write_stopped}
use Rattle.host_text.specs.Text.{Write}
use Rattle.htif_mailbox.specs.Turns.{Mail}
use Rattle.htif_mailbox.specs.declared.answers.MailFault.{MailFault}
use Rattle.htif_mailbox.specs.declared.answers.MailFault.TheVariants.{Port}
use Rattle.htif_mailbox.specs.declared.answers.Turned.{Turned}
use Rattle.rv_hart.specs.HartStep.{System, over, hart_step, reset_hart}
use Rattle.rv_hart.specs.Walks.{hart_after}
use Rattle.rv_hart.specs.declared.debug.Run.TheVariants.{Running}
use Rattle.target_box.specs.Turn.{ran, touched}
use Rattle.tether_base.proofs.Areas.{whole, whole-path, no-halves-front, write-no-halves}
use Rattle.tether_base.proofs.MailWords.{store-word, stop-word}
use Rattle.tether_base.proofs.Stayed.{put-user}
use Rattle.tether_base.specs.Loading.{IsInside, AreInside, IsHeldOver, Loading, was_loaded, not_loaded}
use Rattle.tether_base.specs.Loading.{Starting, has_begun, not_begun, begun_and_cut, LoadsHold, StartsHart}
use Rattle.tether_base.specs.Serving.{Here}
use Rattle.tether_base.specs.Texts.{Range, load_text}
use Rattle.tether_base.specs.ToldActs.{SeenWritten, seen_acts}

-- ---- a held hart does nothing
held-step : (bus : BusState) → bus.start ≡ 0 → hart_step (over bus reset_hart) ≡ over bus reset_hart
held-step bus zero_start = ap (λ (n : ℕ). if n == 0 then over bus reset_hart else over bus
    (record reset_hart { run = Running })) zero_start

held-steps : (count : ℕ) (bus : BusState) → bus.start ≡ 0 → hart_after count (over bus reset_hart) ≡ over bus reset_hart
unfolding hart_after
held-steps zero bus zero_start = refl
held-steps (suc count) bus zero_start = ap hart_step (held-steps count bus zero_start) ∙ held-step bus zero_start

held-ran : (bus : BusState) (s v : System) (n : ℕ) → bus.start ≡ 0 → s ≡ over bus reset_hart → ran s n v → v
    ≡ over bus reset_hart
held-ran bus s v n zero_start is r = r ∙ ap (λ (z : System). hart_after n z) is ∙ held-steps n bus zero_start

-- ---- the areas of a held hart's bus
module _ (bus : BusState) (zero_start : bus.start ≡ 0) where
  user-load : (area : List ℕ) (s v : System) (place value : ℕ) → place % 8 ≡ 0 → user_start ≤ place → place
      + 8 ≤ user_start + 0x1000000
      → (s ≡ over (record bus { user = area }) reset_hart) × IsBus (record bus { user = area })
      → whole s (Loaded place value) v
      → ((v ≡ over (record bus { user = area }) reset_hart) × IsBus (record bus { user = area }))
      × (value ≡ load area (place - user_start) 8)
  user-load area s v place value even low high h t =
      let other : place ≢ start_word = λ e. omega arith in
      let known : beat s.bus place ≡ Some (load s.bus.user (place - user_start) 8) =
      beat-ram s.bus place other (is_beat-ram place even (is_ram-user place 8 low (omega arith)))
      ∙ ap (λ (n : ℕ). Some n) (bus_load-user s.bus place 8 (omega arith)) in
      let both : Some value ≡ Some (load s.bus.user (place - user_start) 8) = sym t.1 ∙ known in
      let is : value ≡ load s.bus.user (place - user_start) 8 = cc in
      ((t.0 ∙ h.0, h.1), is ∙ ap (λ (z : System). load z.bus.user (place - user_start) 8) h.0)

  user-store : (area : List ℕ) (s v : System) (store : Access) → StoredFits store → place_of store % 8 ≡ 0
      → user_start ≤ place_of store → place_of store + 8 ≤ user_start + 0x1000000
      → (s ≡ over (record bus { user = area }) reset_hart) × IsBus (record bus { user = area }) → whole s store v
      → (v ≡ over (record bus {
        user = with_part area (stored_at store - user_start)
            (stored_bytes store);
      }) reset_hart)
      × IsBus (record bus { user = with_part area (stored_at store - user_start) (stored_bytes store) })
  user-store area s v (Stored place value) fits even low high h t =
      let was : BusState = record bus { user = area } in
      let bytes : List ℕ = to_le_bytes w64 value in
      let part : store area (place - user_start) 8 value ≡ with_part area (place - user_start) bytes =
      store-is area (place - user_start) 8 value in
      let put : with_beat was place value ≡ (record bus { user = with_part area (place - user_start) bytes }) =
      put-user was place value even low (omega arith) ∙ ap (λ (l : List ℕ). record bus { user = l }) part in (
        t ∙ ap (λ (z : System). over (with_beat z.bus place value) z.hart) h.0
            ∙ ap (λ (b : BusState). over b reset_hart) put,
        subst IsBus put (IsBus-with_beat was place value fits h.1),
      )
  user-store area s v (Loaded place value) fits even low high h t = absurd fits
  user-store area s v (StoredLow place value) fits even low high h t = absurd t
  user-store area s v (StoredHigh place value) fits even low high h t = absurd t

  user-area : KeepsArea ran whole user_start 0x1000000
      (λ area s. (s ≡ over (record bus { user = area }) reset_hart) × IsBus (record bus { user = area }))
  user-area = record {
    even = refl;
    whole = refl;
    long = λ area s h. h.1.user_length ∙ user_size-is;
    are_bytes = λ area s h. h.1.user_bytes;
    runs = λ area s v n h r. (held-ran (record bus { user = area }) s v n zero_start h.0 r, h.1);
    loads = user-load;
    stores = user-store;
  }

  user-ranges : KeepsRanges ran whole user_start 0x1000000
      (λ area s. (s ≡ over (record bus { user = area }) reset_hart) × IsBus (record bus { user = area }))
  user-ranges = area_ranges ran whole user_start 0x1000000
      (λ area s. (s ≡ over (record bus { user = area }) reset_hart) × IsBus (record bus { user = area })) user-area

  kernel-load : (area : List ℕ) (s v : System) (place value : ℕ) → place % 8 ≡ 0 → kernel_start ≤ place → place
      + 8 ≤ kernel_start + 0x10000
      → (s ≡ over (record bus { kernel = area }) reset_hart) × IsBus (record bus { kernel = area })
      → whole s (Loaded place value) v
      → ((v ≡ over (record bus { kernel = area }) reset_hart) × IsBus (record bus { kernel = area }))
      × (value ≡ load area (place - kernel_start) 8)
  kernel-load area s v place value even low high h t =
      let other : place ≢ start_word = λ e. omega arith in
      let known : beat s.bus place ≡ Some (load s.bus.kernel (place - kernel_start) 8) =
      beat-ram s.bus place other (is_beat-ram place even (is_ram-kernel place 8 low (omega arith)))
      ∙ ap (λ (n : ℕ). Some n) (bus_load-kernel s.bus place 8 low) in
      let both : Some value ≡ Some (load s.bus.kernel (place - kernel_start) 8) = sym t.1 ∙ known in
      let is : value ≡ load s.bus.kernel (place - kernel_start) 8 = cc in
      ((t.0 ∙ h.0, h.1), is ∙ ap (λ (z : System). load z.bus.kernel (place - kernel_start) 8) h.0)

  kernel-store : (area : List ℕ) (s v : System) (store : Access) → StoredFits store → place_of store % 8 ≡ 0
      → kernel_start ≤ place_of store → place_of store + 8 ≤ kernel_start + 0x10000
      → (s ≡ over (record bus { kernel = area }) reset_hart) × IsBus (record bus { kernel = area }) → whole s store v
      → (v ≡ over (record bus {
        kernel = with_part area (stored_at store - kernel_start)
            (stored_bytes store);
      }) reset_hart)
      × IsBus (record bus { kernel = with_part area (stored_at store - kernel_start) (stored_bytes store) })
  kernel-store area s v (Stored place value) fits even low high h t =
      let was : BusState = record bus { kernel = area } in
      let bytes : List ℕ = to_le_bytes w64 value in
      let other : place ≢ start_word = λ e. omega arith in
      let part : store area (place - kernel_start) 8 value ≡ with_part area (place - kernel_start) bytes =
      store-is area (place - kernel_start) 8 value in
      let put : with_beat was place value ≡ (record bus { kernel = with_part area (place - kernel_start) bytes }) =
      with_beat-ram was place value other (is_beat-ram place even (is_ram-kernel place 8 low (omega arith)))
      ∙ bus_store-kernel was place 8 value low ∙ ap (λ (l : List ℕ). record bus { kernel = l }) part in (
        t ∙ ap (λ (z : System). over (with_beat z.bus place value) z.hart) h.0
            ∙ ap (λ (b : BusState). over b reset_hart) put,
        subst IsBus put (IsBus-with_beat was place value fits h.1),
      )
  kernel-store area s v (Loaded place value) fits even low high h t = absurd fits
  kernel-store area s v (StoredLow place value) fits even low high h t = absurd t
  kernel-store area s v (StoredHigh place value) fits even low high h t = absurd t

  kernel-area : KeepsArea ran whole kernel_start 0x10000
      (λ area s. (s ≡ over (record bus { kernel = area }) reset_hart) × IsBus (record bus { kernel = area }))
  kernel-area = record {
    even = refl;
    whole = refl;
    long = λ area s h. h.1.kernel_length ∙ kernel_size-is;
    are_bytes = λ area s h. h.1.kernel_bytes;
    runs = λ area s v n h r. (held-ran (record bus { kernel = area }) s v n zero_start h.0 r, h.1);
    loads = kernel-load;
    stores = kernel-store;
  }

  kernel-ranges : KeepsRanges ran whole kernel_start 0x10000
      (λ area s. (s ≡ over (record bus { kernel = area }) reset_hart) × IsBus (record bus { kernel = area }))
  kernel-ranges = area_ranges ran whole kernel_start 0x10000
      (λ area s. (s ≡ over (record bus { kernel = area }) reset_hart)
      × IsBus (record bus { kernel = area })) kernel-area

-- ---- a range that is written
range-written : (range : Range) (bus : BusState) (s v : System) → IsInside range → IsHeldOver bus s
    → SeenWritten s range.at range.bytes (Ok tt) v → IsHeldOver (with_bus_bytes bus range.at range.bytes) v
range-written range bus s v inside h d =
    let path = whole-path d.accesses s v (write-no-halves 8 range.at range.bytes d.accesses d.spell) d.path in
    elim inside [
      | inl i ↦
          let got = (user-ranges bus h.unstarted).written 8 8 range.at range.bytes bus.user d.accesses s v (inr refl)
          (h.is, h.fits) i.0 (omega (arith, i.1)) d.spell path in
          let same = with_bus_bytes-user bus range.at range.bytes (omega (arith, i.1)) in
          subst (λ (b : BusState). IsHeldOver b v) (sym same)
          (record { is = got.0; fits = got.1; unstarted = h.unstarted })
      | inr i ↦
          let got = (kernel-ranges bus h.unstarted).written 8 8 range.at range.bytes bus.kernel d.accesses s v
          (inr refl) (h.is, h.fits) i.0 (omega (arith, i.1)) d.spell path in
          let same = with_bus_bytes-kernel bus range.at range.bytes i.0 in
          subst (λ (b : BusState). IsHeldOver b v) (sym same)
          (record { is = got.0; fits = got.1; unstarted = h.unstarted })
    ]

abbrev Left : System → Type 0
Left v = (left : BusState) × IsHeldOver left v

-- a write that was only begun
range-begun : (range : Range) (bus : BusState) (s last v : System) (xs more : List Access) → IsInside range
    → IsHeldOver bus s → SpellsWrite 8 8 range.at range.bytes (xs ++ more)
    → Reached ran touched s xs last → v ≡ last → Left v
range-begun range bus s last v xs more inside h spelled r same =
    let path = whole-path xs s last
    (no-halves-front xs more (write-no-halves 8 range.at range.bytes (xs ++ more) spelled)) r in
    elim inside [
      | inl i ↦
          let got = (user-ranges bus h.unstarted).write_begun 8 8 range.at range.bytes bus.user xs more s last
          (inr refl) (h.is, h.fits) i.0 (omega (arith, i.1)) spelled path in
          (record bus { user = got.0 }, record { is = same ∙ got.1.0; fits = got.1.1; unstarted = h.unstarted })
      | inr i ↦
          let got = (kernel-ranges bus h.unstarted).write_begun 8 8 range.at range.bytes bus.kernel xs more s last
          (inr refl) (h.is, h.fits) i.0 (omega (arith, i.1)) spelled path in
          (record bus { kernel = got.0 }, record { is = same ∙ got.1.0; fits = got.1.1; unstarted = h.unstarted })
    ]

range-stopped : (range : Range) (bus : BusState) (s v : System) (why : MemStop) → IsInside range → IsHeldOver bus s
    → SeenWritten s range.at range.bytes (Err why) v → Left v
range-stopped range bus s v (Unmapped place) inside h d =
    (bus, record { is = d ∙ h.is; fits = h.fits; unstarted = h.unstarted })
range-stopped range bus s v Spent inside h d =
    range-begun range bus s d.last v d.accesses d.more inside h d.spell d.path d.stands_so
range-stopped range bus s v WireFault inside h d =
    range-begun range bus s d.last v d.accesses d.more inside h d.spell d.path d.stands_so
range-stopped range bus s v (CmdErr number) inside h d = absurd d

-- the same from a place at which only the port has moved
moved-on : (ranges : List Range) (next : Mail) (bus : BusState) (before mid : Here) (r : Result Turned MailFault)
    (now : Here) → mid ≡ record before { port = mid.port } → Loading ranges next bus mid r now
    → Loading ranges next bus before r now
moved-on ranges next bus before mid r now is (was_loaded there held left played) =
    was_loaded there held (record {
      folder_is = left.folder_is ∙ ap (λ (z : Here). z.folder) is;
      input_is = left.input_is ∙ ap (λ (z : Here). z.input) is;
      console_is = left.console_is ∙ ap (λ (z : Here). z.console) is;
      kept_is = left.kept_is ∙ ap (λ (z : Here). z.kept) is;
    }) played
moved-on ranges next bus before mid r now is (not_loaded why bus_left e held left) =
    not_loaded why bus_left e held (record {
      folder_is = left.folder_is ∙ ap (λ (z : Here). z.folder) is;
      input_is = left.input_is ∙ ap (λ (z : Here). z.input) is;
      console_is = left.console_is ∙ ap (λ (z : Here). z.console) is;
      kept_is = left.kept_is ∙ ap (λ (z : Here). z.kept) is;
    })

-- behind the first range
behind-first : (range : Range) (more : List Range) (next : Mail) (bus : BusState) (before : Here)
    (r : Result Turned MailFault) (now : Here)
    → Loading more next (with_bus_bytes bus range.at range.bytes) before r now
    → Loading (range ∷ more) next bus before r now
behind-first range more next bus before r now (was_loaded there held left played) = was_loaded there held left played
behind-first range more next bus before r now (not_loaded why bus_left e held left) =
    not_loaded why bus_left e held left

loads : (ranges : List Range) (next : Mail) (bus : BusState) {s s' : Here} {r : Result Turned MailFault}
    → AreInside ranges → IsHeldOver bus s.port → Played seen_acts (load_text ranges next) s r s'
    → Loading ranges next bus s r s'
loads [] next bus {s = s} inside h p =
    was_loaded s h (record { folder_is = refl; input_is = refl; console_is = refl; kept_is = refl }) p
loads (range ∷ more) next bus {s = s} {s' = s'} {r = r} inside h (has_written {x = x} d p) =
    let there = range-written range bus s.port x inside.0 h d in
    let rest = loads more next (with_bus_bytes bus range.at range.bytes) inside.1 there p in
    behind-first range more next bus s r s'
    (moved-on more next (with_bus_bytes bus range.at range.bytes) s (record s { port = x }) r s' refl rest)
loads (range ∷ more) next bus {s = s} {r = r} inside h (write_stopped {x = x} {why = why} d e same) =
    let left = range-stopped range bus s.port x why inside.0 h d in
    let P : Here → Type 0 = λ z. Loading (range ∷ more) next bus s r z in
    subst P (sym same) (not_loaded why left.0 e left.1
    (record { folder_is = refl; input_is = refl; console_is = refl; kept_is = refl }))

pub loads_hold : LoadsHold
loads_hold ranges next bus before now r inside h played = loads ranges next bus inside h played

-- ---- the start word
start-put : (bus : BusState) (s v : System) → IsHeldOver bus s → Reached ran touched s (Stored start_word 1 ∷ []) v
    → (mid : System) × (steps : ℕ) × (mid ≡ over (record bus { start = 1 }) reset_hart) × ran mid steps v
start-put bus s v h r =
    let still : r.1 ≡ over bus reset_hart = held-ran bus s r.1 r.0 h.unstarted h.is r.3 in
    let put : r.2 ≡ over (record bus { start = 1 }) reset_hart =
    r.4 ∙ ap (λ (z : System). over (with_beat z.bus start_word 1) z.hart) still
    ∙ ap (λ (b : BusState). over b reset_hart) (with_beat-start bus start_word 1 refl) in
    (r.2, r.5.0, put, r.5.1)

starts : (next : Mail) (bus : BusState) {s s' : Here} {r : Result Turned MailFault} → IsHeldOver bus s.port
    → Played seen_acts (Write start_word (to_le_bytes w64 1) Port next) s r s' → Starting next bus s r s'
starts next bus {s = s} {s' = s'} {r = r} h (has_written {x = x} d p) =
    let put = start-put bus s.port x h (store-word start_word 1 s.port x refl (omega arith) d) in
    has_begun put.0 put.1 (record s { port = x }) put.2 put.3
    (record { folder_is = refl; input_is = refl; console_is = refl; kept_is = refl }) p
starts next bus {s = s} {r = r} h (write_stopped {x = x} {why = why} d e same) =
    let P : Here → Type 0 = λ z. Starting next bus s r z in
    subst P (sym same) (elim (stop-word start_word 1 s.port x why refl (omega arith) d) [
      | inl k ↦ not_begun why e (record {
        is = held-ran bus s.port x k.0 h.unstarted h.is k.1;
        fits = h.fits;
        unstarted = h.unstarted;
      }) (record { folder_is = refl; input_is = refl; console_is = refl; kept_is = refl })
      | inr k ↦
          let put = start-put bus s.port x h k in
          begun_and_cut why put.0 put.1 e put.2 put.3
          (record { folder_is = refl; input_is = refl; console_is = refl; kept_is = refl })
    ])

pub starts_hart : StartsHart
starts_hart next bus before now r h played = starts next bus h played
