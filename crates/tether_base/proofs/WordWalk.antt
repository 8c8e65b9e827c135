-- Words of the kernel area at one moment, and the count of user steps, over what the host does.
use Rattle.std.proofs.Common.{◌≡◌, ◌⊎◌, ◌≤◌, ◌<◌, ◌+◌, ◌%◌, ◌^◌, ◌==◌, ℕ, zero, suc, Bool, true, false, inl, inr, List}
use Rattle.std.proofs.Common.{[]}
use Rattle.std.proofs.Common.{◌∷◌, ◌++◌, append-nil, drop, if◌then◌else◌, refl, sym, ap, subst, ◌∙◌, arith}
use Rattle.std.specs.Prelude.{Result, Ok, Err}
use Rattle.std.specs.Int.{to_le_bytes, from_le_bytes, w64}
use Rattle.std.proofs.lemmas.Nat.{from_le_bytes-to_le_bytes_8}
use Rattle.chunk_memory.proofs.BusRanges.{doublewords_loaded}
use Rattle.chunk_memory.specs.Reached.{Reached}
use Rattle.chunk_memory.specs.Spelling.{SpellsRead, SpellsWrite, IsOneAccess}
use Rattle.chunk_memory.specs.declared.stops.MemStop.{MemStop}
use Rattle.chunk_memory.specs.declared.stops.MemStop.TheVariants.{Unmapped, Spent, WireFault, CmdErr}
use Rattle.fe_base.specs.Access.{Access, Loaded, Stored, StoredLow, StoredHigh}
use Rattle.guest_memory.proofs.AreaLemmas.{IsBus-with_beat}
use Rattle.guest_memory.specs.Bus.{with_beat}
use Rattle.host_text.specs.Played.{Played, ended, failed, has_read, read_stopped, has_written, write_stopped}
use Rattle.host_text.specs.Played.{has_taken, take_stopped, has_put, put_stopped, has_asked, ask_stopped, noted, looked}
use Rattle.host_text.specs.Text.{Text}
use Rattle.rv_alu.specs.declared.causes.Cause.{Cause}
use Rattle.rv_csr.specs.declared.privilege.Mode.{Mode}
use Rattle.rv_csr.specs.declared.privilege.Mode.TheVariants.{User, Machine}
use Rattle.rv_hart.proofs.RangeLaws.{steps_keep_range}
use Rattle.rv_hart.proofs.WalkLaws.{counted_by-user, counted_by-machine, hart_after-one, walk-goes_on}
use Rattle.rv_hart.specs.HartStep.{System, HartState, SystemStep, next, trap, over, step_by, hart_step}
use Rattle.rv_hart.specs.HartStep.{instruction_step}
use Rattle.rv_hart.specs.HartStep.{after_step, counted_step, executing_step, trap_step}
use Rattle.rv_hart.specs.Laws.{IsSystem}
use Rattle.rv_hart.specs.Walks.{counted_by, hart_after, hart_after-zero, with_count}
use Rattle.rv_hart.specs.declared.debug.Run.{Run}
use Rattle.rv_hart.specs.declared.debug.Run.TheVariants.{Held, Running, Halted}
use Rattle.syscall_proxy.specs.Kept.{Kept as KeptByHost}
use Rattle.target_box.specs.StepLaws.{steps-more}
use Rattle.target_box.specs.Turn.{ran, touched}
use Rattle.tether_base.proofs.Areas.{NoHalves, write-no-halves}
use Rattle.tether_base.proofs.MailWords.{kernel-beat, store-word, stop-word}
use Rattle.tether_base.specs.SeenWords.{IsKernelWord, WordRead, WordPut, OnlyRan, WordsAreSeen, StepsKept}
use Rattle.tether_base.specs.SeenWords.{StepsNeverFall}
use Rattle.tether_base.specs.Serving.{Here}
use Rattle.tether_base.specs.ToldActs.{SeenRead, SeenWritten, seen_acts}

-- ---- reads
ran-none : (s now : System) → now ≡ s → OnlyRan s now
ran-none s now same = (0, same ∙ sym (hart_after-zero s))

ran-then : (s mid now : System) (n : ℕ) → ran s n mid → OnlyRan mid now → OnlyRan s now
ran-then s mid now n first rest = (n + rest.0, steps-more s mid now n rest.0 first rest.1)

-- loads only let the hart run
loads-run : (cut at : ℕ) (bytes : List ℕ) (xs more : List Access) (s now : System)
    → SpellsRead cut at bytes (xs ++ more) → Reached ran touched s xs now → OnlyRan s now
loads-run cut at bytes [] more s now spelled r = r
loads-run cut at bytes (Loaded place value ∷ xs) more s now spelled r =
    let rest = loads-run cut (at + spelled.0.size) (drop spelled.0.size bytes) xs more r.2 now spelled.1 r.5 in
    ran-then s r.1 now r.0 r.3 (subst (λ (z : System). OnlyRan z now) r.4.0 rest)
loads-run cut at bytes (Stored place value ∷ xs) more s now spelled r = absurd spelled
loads-run cut at bytes (StoredLow place value ∷ xs) more s now spelled r = absurd spelled
loads-run cut at bytes (StoredHigh place value ∷ xs) more s now spelled r = absurd spelled

read-runs : (at count : ℕ) (r : Result (List ℕ) MemStop) (s now : System) → SeenRead s at count r now → OnlyRan s now
read-runs at count (Ok bytes) s now d =
    let all : d.accesses ++ [] ≡ d.accesses = append-nil d.accesses in
    loads-run 8 at bytes d.accesses [] s now (subst (λ (l : List Access). SpellsRead 8 at bytes l) (sym all) d.spell)
    d.path
read-runs at count (Err (Unmapped place)) s now d = ran-none s now d
read-runs at count (Err Spent) s now d =
    subst (λ (z : System). OnlyRan s z) (sym d.stands_so)
    (loads-run 8 at d.bytes d.accesses d.more s d.last d.spell d.path)
read-runs at count (Err WireFault) s now d =
    subst (λ (z : System). OnlyRan s z) (sym d.stands_so)
    (loads-run 8 at d.bytes d.accesses d.more s d.last d.spell d.path)
read-runs at count (Err (CmdErr number)) s now d = absurd d

-- a doubleword that was read stood there
word-read : (at : ℕ) (bytes : List ℕ) (s now : System) → IsKernelWord at → SeenRead s at 8 (Ok bytes) now
    → WordRead at (from_le_bytes w64 bytes) s now
word-read at bytes s now is d =
    let one = doublewords_loaded 8 at bytes d.accesses is.even d.size
    (subst (λ (n : ℕ). IsOneAccess at n d.accesses) (sym d.size) d.is_one) d.spell in
    let r : Reached ran touched s (Loaded at one.value ∷ []) now =
    subst (λ (l : List Access). Reached ran touched s l now) one.is d.path in
    record {
      before = r.0;
      mid = r.1;
      ran_so = r.3;
      value_is = ap (λ (l : List ℕ). from_le_bytes w64 l) one.bytes_are ∙ from_le_bytes-to_le_bytes_8 one.value one.fits
          ∙ kernel-beat r.1.bus at one.value is.even is.low is.high r.4.1;
      behind = r.5.0;
      ran_on = subst (λ (z : System). ran z r.5.0 now) r.4.0 r.5.1;
    }

-- ---- writes
put-of : (at value : ℕ) (s now : System) → Reached ran touched s (Stored at value ∷ []) now → WordPut at value s now
put-of at value s now r = record {
  before = r.0;
  mid = r.1;
  ran_so = r.3;
  behind = r.5.0;
  ran_on = subst (λ (z : System). ran z r.5.0 now) r.4 r.5.1;
}

word-put : (at value : ℕ) (s now : System) → at % 8 ≡ 0 → value < 2 ^ 64
    → SeenWritten s at (to_le_bytes w64 value) (Ok tt) now → WordPut at value s now
word-put at value s now even small d = put-of at value s now (store-word at value s now even small d)

put-refused : (at value : ℕ) (why : MemStop) (s now : System) → at % 8 ≡ 0 → value < 2 ^ 64
    → SeenWritten s at (to_le_bytes w64 value) (Err why) now → OnlyRan s now ⊎ WordPut at value s now
put-refused at value why s now even small d = elim (stop-word at value s now why even small d) [
  | inl none ↦ inl none
  | inr made ↦ inr (put-of at value s now made)
]

pub words_are_seen : WordsAreSeen
words_are_seen =
    record { reads_run = read-runs; word_read = word-read; word_put = word-put; put_refused = put-refused }

-- ---- the count of user steps
one-more : (mode : Mode) (count : ℕ) → count < 2 ^ 64 → count ≤ counted_by mode 1 count
one-more User count small = omega (arith, counted_by-user 1 count small)
one-more Machine count small = omega (arith, counted_by-machine 1 count)

-- a hart whose step is counted is the same but for its count
counted-later : (mode : Mode) (hart : HartState) → hart.user_steps < 2 ^ 64
    → hart.user_steps ≤ (counted_step mode hart).user_steps
counted-later User hart small = omega (arith, small)
counted-later Machine hart small = omega arith

counted-run : (mode : Mode) (hart : HartState) → (counted_step mode hart).run ≡ hart.run
counted-run User hart = refl
counted-run Machine hart = refl

counted-mode : (mode : Mode) (hart : HartState) → (counted_step mode hart).mode ≡ hart.mode
counted-mode User hart = refl
counted-mode Machine hart = refl

counted-begins : (mode now : Mode) (s : System)
    → hart_after 0 s ≡ with_count (counted_by now 0 s.hart.user_steps) (over s.bus (counted_step mode s.hart))
unfolding counted_by
counted-begins User now s = hart_after-zero s
counted-begins Machine now s = hart_after-zero s

module _ (s : System) (small : s.hart.user_steps < 2 ^ 64) where
  abbrev Later : System → Type 0
  Later now = s.hart.user_steps ≤ now.hart.user_steps

  -- the system whose instruction a running hart executes
  abbrev counted_system : System
  counted_system = over s.bus (counted_step s.hart.mode s.hart)

  trap-later : (cause : Cause) (value : ℕ) → s.hart.run ≡ Running
      → instruction_step counted_system ≡ trap cause value → Later (hart_step s)
  unfolding trap_step
  trap-later cause value runs gave =
      let runs_on : hart_step s ≡ executing_step counted_system = ap (λ (r : Run). step_by r s) runs in
      let taken : executing_step counted_system ≡ after_step counted_system (trap cause value) =
      ap (λ (step : SystemStep). after_step counted_system step) gave in
      let count : (hart_step s).hart.user_steps ≡ (counted_step s.hart.mode s.hart).user_steps =
      ap (λ (z : System). z.hart.user_steps) (runs_on ∙ taken) in
      omega (arith, count, counted-later s.hart.mode s.hart small)

  next-later : (moved : System) → s.hart.run ≡ Running → instruction_step counted_system ≡ next moved
      → Later (hart_step s)
  next-later moved runs gave =
      let e = walk-goes_on s.hart.mode 0 s counted_system moved (counted-run s.hart.mode s.hart ∙ runs)
      (counted-mode s.hart.mode s.hart) (counted-begins s.hart.mode s.hart.mode s) gave in
      let count : (hart_step s).hart.user_steps ≡ counted_by s.hart.mode 1 s.hart.user_steps =
      ap (λ (z : System). z.hart.user_steps) (sym (hart_after-one s) ∙ e) in
      omega (arith, count, one-more s.hart.mode s.hart.user_steps small)

  step-later : (step : SystemStep) → s.hart.run ≡ Running → instruction_step counted_system ≡ step
      → Later (hart_step s)
  step-later (next moved) runs gave = next-later moved runs gave
  step-later (trap cause value) runs gave = trap-later cause value runs gave

  held-later : (waits : Bool)
      → Later (if waits then s else over s.bus (record s.hart { run = Running }))
  held-later true = omega arith
  held-later false = omega arith

  by-run : (run : Run) → s.hart.run ≡ run → Later (step_by run s)
  by-run Held same = held-later (s.bus.start == 0)
  by-run Running same =
      subst (λ (r : Run). Later (step_by r s)) same (step-later (instruction_step counted_system) same refl)
  by-run (Halted dpc prv held) same = omega arith

  pub later-step : Later (hart_step s)
  later-step = by-run s.hart.run refl

kept-none : (s now : System) → IsSystem s → now ≡ s → StepsKept s now
kept-none s now fits same =
    let here : StepsKept s s = record { fits = fits; later = omega arith } in
    subst (λ (z : System). StepsKept s z) (sym same) here

kept-then : (a b c : System) → StepsKept a b → StepsKept b c → StepsKept a c
kept-then a b c one two = record { fits = two.fits; later = omega (arith, one.later, two.later) }

kept-step : (s : System) → IsSystem s → StepsKept s (hart_step s)
kept-step s fits =
    record { fits = steps_keep_range s fits; later = later-step s fits.hart_fits.user_steps_fit }

kept-steps : (n : ℕ) (s : System) → IsSystem s → StepsKept s (hart_after n s)
unfolding hart_after
kept-steps zero s fits = record { fits = fits; later = omega arith }
kept-steps (suc n) s fits =
    let before = kept-steps n s fits in
    kept-then s (hart_after n s) (hart_after (suc n) s) before (kept-step (hart_after n s) before.fits)

kept-along : (s now : System) (n : ℕ) → IsSystem s → ran s n now → StepsKept s now
kept-along s now n fits r = subst (λ (z : System). StepsKept s z) (sym r) (kept-steps n s fits)

kept-put : (at value : ℕ) (s : System) → value < 2 ^ 64 → IsSystem s
    → StepsKept s (over (with_beat s.bus at value) s.hart)
kept-put at value s small fits = record {
  fits = record { hart_fits = fits.hart_fits; bus_fits = IsBus-with_beat s.bus at value small fits.bus_fits };
  later = omega arith;
}

kept-read : (at count : ℕ) (r : Result (List ℕ) MemStop) (s now : System) → IsSystem s → SeenRead s at count r now
    → StepsKept s now
kept-read at count r s now fits d = let all = read-runs at count r s now d in kept-along s now all.0 fits all.1

-- each store has a doubleword
abbrev Fit : Access → Type 0
Fit (Loaded place value) = Unit {0}
Fit (Stored place value) = value < 2 ^ 64
Fit (StoredLow place value) = ⊥
Fit (StoredHigh place value) = ⊥

abbrev AllFit : List Access → Type 0
AllFit [] = Unit {0}
AllFit (x ∷ xs) = Fit x × AllFit xs

fit-front : (xs ys : List Access) → AllFit (xs ++ ys) → AllFit xs
fit-front [] ys h = tt
fit-front (x ∷ xs) ys h = (h.0, fit-front xs ys h.1)

stores-fit : (cut at : ℕ) (bytes : List ℕ) (xs : List Access) → NoHalves xs → SpellsWrite 8 cut at bytes xs
    → AllFit xs
stores-fit cut at bytes [] none s = tt
stores-fit cut at bytes (Loaded place old ∷ []) none s = (tt, tt)
stores-fit cut at bytes (Loaded place old ∷ Loaded place' value ∷ xs) none s = let no : ⊥ = s.0.fits in absurd no
stores-fit cut at bytes (Loaded place old ∷ Stored place' value ∷ xs) none s =
    (tt, (s.0.fits, stores-fit cut (at + s.0.size) (drop s.0.size bytes) xs none s.1))
stores-fit cut at bytes (Loaded place old ∷ StoredLow place' value ∷ xs) none s = absurd none
stores-fit cut at bytes (Loaded place old ∷ StoredHigh place' value ∷ xs) none s = absurd none
stores-fit cut at bytes (Stored place value ∷ xs) none s =
    (s.0.fits, stores-fit cut (at + 8) (drop 8 bytes) xs none s.1)
stores-fit cut at bytes (StoredLow place value ∷ xs) none s = absurd none
stores-fit cut at bytes (StoredHigh place value ∷ xs) none s = absurd none

kept-touched : (x : Access) (s now : System) → Fit x → IsSystem s → touched s x now → StepsKept s now
kept-touched (Loaded place value) s now fit fits t = kept-none s now fits t.0
kept-touched (Stored place value) s now fit fits t =
    subst (λ (z : System). StepsKept s z) (sym t) (kept-put place value s fit fits)
kept-touched (StoredLow place value) s now fit fits t = absurd fit
kept-touched (StoredHigh place value) s now fit fits t = absurd fit

kept-path : (xs : List Access) (s now : System) → AllFit xs → IsSystem s → Reached ran touched s xs now
    → StepsKept s now
kept-path [] s now fit fits r = kept-along s now r.0 fits r.1
kept-path (x ∷ xs) s now fit fits r =
    let first = kept-along s r.1 r.0 fits r.3 in
    let second = kept-touched x r.1 r.2 fit.0 first.fits r.4 in
    kept-then s r.1 now first
    (kept-then r.1 r.2 now second (kept-path xs r.2 now fit.1 second.fits r.5))

kept-begun : (at : ℕ) (bytes : List ℕ) (xs more : List Access) (s now last : System)
    → SpellsWrite 8 8 at bytes (xs ++ more) → IsSystem s → Reached ran touched s xs last → now ≡ last
    → StepsKept s now
kept-begun at bytes xs more s now last spelled fits r same =
    let fit = stores-fit 8 at bytes (xs ++ more) (write-no-halves 8 at bytes (xs ++ more) spelled) spelled in
    subst (λ (z : System). StepsKept s z) (sym same) (kept-path xs s last (fit-front xs more fit) fits r)

kept-written : (at : ℕ) (bytes : List ℕ) (r : Result Unit MemStop) (s now : System) → IsSystem s
    → SeenWritten s at bytes r now → StepsKept s now
kept-written at bytes (Ok done) s now fits d =
    kept-path d.accesses s now
    (stores-fit 8 at bytes d.accesses (write-no-halves 8 at bytes d.accesses d.spell) d.spell) fits d.path
kept-written at bytes (Err (Unmapped place)) s now fits d = kept-none s now fits d
kept-written at bytes (Err Spent) s now fits d =
    kept-begun at bytes d.accesses d.more s now d.last d.spell fits d.path d.stands_so
kept-written at bytes (Err WireFault) s now fits d =
    kept-begun at bytes d.accesses d.more s now d.last d.spell fits d.path d.stands_so
kept-written at bytes (Err (CmdErr number)) s now fits d = absurd d

-- ---- texts
abbrev Kept : Here → Here → Type 0
Kept s now = StepsKept s.port now.port

kept-same : (s now : Here) → IsSystem s.port → now ≡ s → Kept s now
kept-same s now fits same = kept-none s.port now.port fits (ap (λ (z : Here). z.port) same)

kept-stopped : (s now : Here) (x : System) → StepsKept s.port x → now ≡ record s { port = x } → Kept s now
kept-stopped s now x kept same =
    subst (λ (z : System). StepsKept s.port z) (sym (ap (λ (z : Here). z.port) same)) kept

kept-followed : {A E : Type 0} {t : Text KeptByHost A E} {s now : Here} {r : Result A E} → IsSystem s.port
    → Played seen_acts t s r now → Kept s now
kept-followed {s = s} {now = now} fits (ended e same) = kept-same s now fits same
kept-followed {s = s} {now = now} fits (failed e same) = kept-same s now fits same
kept-followed {s = s} {now = now} fits (has_read {place = at} {count = count} {x = x} {bytes = bytes} d rest) =
    let first = kept-read at count (Ok bytes) s.port x fits d in
    kept-then s.port x now.port first (kept-followed first.fits rest)
kept-followed {s = s} {now = now} fits (read_stopped {place = at} {count = count} {x = x} {why = why} d e same) =
    kept-stopped s now x (kept-read at count (Err why) s.port x fits d) same
kept-followed {s = s} {now = now} fits (has_written {place = at} {bytes = bytes} {x = x} d rest) =
    let first = kept-written at bytes (Ok tt) s.port x fits d in
    kept-then s.port x now.port first (kept-followed first.fits rest)
kept-followed {s = s} {now = now} fits (write_stopped {place = at} {bytes = bytes} {x = x} {why = why} d e same) =
    kept-stopped s now x (kept-written at bytes (Err why) s.port x fits d) same
kept-followed fits (has_taken d rest) = kept-followed fits rest
kept-followed {s = s} {now = now} fits (take_stopped d e same) =
    kept-none s.port now.port fits (ap (λ (z : Here). z.port) same)
kept-followed fits (has_put d rest) = kept-followed fits rest
kept-followed {s = s} {now = now} fits (put_stopped d e same) =
    kept-none s.port now.port fits (ap (λ (z : Here). z.port) same)
kept-followed fits (has_asked d rest) = kept-followed fits rest
kept-followed {s = s} {now = now} fits (ask_stopped d e same) =
    kept-none s.port now.port fits (ap (λ (z : Here). z.port) same)
kept-followed fits (noted n rest) = kept-followed fits rest
kept-followed fits (looked rest) = kept-followed fits rest

pub steps_never_fall : StepsNeverFall
steps_never_fall = record {
  along = kept-along;
  put = kept-put;
  read = kept-read;
  written = kept-written;
  followed = λ t s now r fits played. kept-followed fits played;
}
