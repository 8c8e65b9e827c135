-- A small target behind a debug module, over which the tests speak, and its laws: a hart that does nothing of its own,
-- beside one doubleword that every mapped address names. Nothing but the tests cites it.
use Rattle.std.proofs.Common.{◌≡◌, ℕ, zero, suc, ◌+◌, ◌*◌, ◌/◌, ◌%◌, ◌^◌, ◌<◌, Bool, true, false, ◌==◌, ◌&&◌, ◌||◌}
use Rattle.std.proofs.Common.{if◌then◌else◌, List, [], ◌∷◌, length, ◌≤◌, refl, sym, ap, ◌∙◌, arith}
use Rattle.std.specs.List.{list_all}
use Rattle.std.specs.Prelude.{⊤, ◌-◌, min, not, slice_index, slice_set}
use Rattle.std.proofs.lemmas.Bool.{false≢true, and_parts}
use Rattle.std.proofs.lemmas.Bool.Decides.{nat_tests}
use Rattle.std.proofs.lemmas.List.{length-set, get_or-set_other}
use Rattle.std.proofs.lemmas.Grind.{common_steps, get_or-set_at}
use Rattle.fe_base.specs.Access.{Access, Loaded, Stored, StoredLow, StoredHigh}
use Rattle.fe_base.specs.MemoryMap.{is_beat}
use Rattle.fe_base.specs.DebugModule.{ModuleState, DebugJob, NoJob, MoveJob, BufferJob, IsModule, reset_module}
use Rattle.fe_base.specs.DebugModule.{HartSide, Free, Stopped, is_halted, AreSideRegisters, IsSide, is_busy, at_offset}
use Rattle.fe_base.specs.DebugModule.{with_register, BufferStep, BufferLoad, BufferStore, OtherStep, first_step}
use Rattle.fe_base.specs.DebugModule.{is_single, known_step, BufferDone, BufferRun, JobDone, SideStep, DmiAsk, DmiLaw}
use Rattle.fe_base.specs.DebugModule.{module_access, RaisesIf, reads_error}
use Rattle.fe_base.specs.ModuleLaws.{access-keeps, reply-fits, is-active, active-fits, reset-fits}
use Rattle.fe_base.specs.declared.wires.DmiOp.{DmiOp}
use Rattle.fe_base.specs.declared.wires.DmiOp.TheVariants.{Nop, Read, Write}

-- the module, whether the hart is halted, its registers, and the doubleword
pub record Bench : Type 0 where
  pub state : ModuleState
  pub halted : Bool
  pub registers : List ℕ
  pub word : ℕ

-- the hart as the module sees it; its view is the registers and the doubleword, which is the rest where it is halted
abbrev pub side_of : Bool → List ℕ → ℕ → HartSide (List ℕ × ℕ) ℕ
side_of true registers word = Stopped registers word
side_of false registers word = Free (registers, word)

abbrev pub bench_side : Bench → HartSide (List ℕ × ℕ) ℕ
bench_side b = side_of b.halted b.registers b.word

abbrev pub bench_resumed : List ℕ → ℕ → List ℕ × ℕ
bench_resumed registers word = (registers, word)

-- steps leave it
abbrev pub bench_ran : List ℕ × ℕ → ℕ → List ℕ × ℕ → Type 0
bench_ran v n w = w ≡ v

-- what an access does to the doubleword; a half of it is never stored
abbrev pub bench_touched : List ℕ × ℕ → Access → List ℕ × ℕ → Type 0
bench_touched v (Loaded at value) w = (w ≡ v) × (value ≡ v.1)
bench_touched v (Stored at value) w = w ≡ (v.0, value)
bench_touched v (StoredLow at value) w = ⊥
bench_touched v (StoredHigh at value) w = ⊥

-- ---- what it does
-- the buffer's step; what is not known ends by an exception
abbrev pub buffer_stepped : BufferStep → Bench → Bench
buffer_stepped (BufferLoad rd at) b = record b { registers = with_register b.registers rd b.word }
buffer_stepped (BufferStore at value) b = record b { word = value }
buffer_stepped OtherStep b = record b { state = record b.state { cmderr = 3 } }

abbrev pub buffer_ran : Bool → Bench → Bench
buffer_ran run b =
    if run
    then buffer_stepped (known_step (first_step (slice_index b.state.buffer 0) b.registers) (is_single b.state.buffer))
    b
    else b

-- a job without its buffer
abbrev pub moved : ℕ → Bool → Bench → Bench
moved n write b =
    if write
    then record b { state = record b.state { job = NoJob }; registers = with_register b.registers n b.state.value }
    else record b { state = record b.state { job = NoJob; value = slice_index b.registers n } }

-- the job
abbrev pub worked : DebugJob → Bench → Bench
worked NoJob b = b
worked (MoveJob n write then_run) b = buffer_ran then_run (moved n write b)
worked BufferJob b = buffer_ran true (record b { state = record b.state { job = NoJob } })

-- one step of the hart
unfoldable pub bench_step : Bench → Bench
bench_step b =
    if b.halted
    then (if b.state.resume then record b { state = record b.state { resume = false; acked = true }; halted = false }
    else worked b.state.job b)
    else (if b.state.haltreq then record b { halted = true } else b)

-- an access
abbrev pub bench_access : Bench → DmiAsk → Bench × ℕ
bench_access b ask = (
  record b { state = (module_access b.state b.halted ask.op ask.address ask.value).0 },
  (module_access b.state b.halted ask.op ask.address ask.value).1,
)

-- a turn: one step and then the access
abbrev pub bench_turn : Bench → DmiAsk → Bench × ℕ
bench_turn b ask = bench_access (bench_step b) ask

-- the job of a transfer, if there is one, and of the buffer, if it is to be run
abbrev pub job_from : Bool → ℕ → Bool → Bool → DebugJob
job_from transfer register write then_run =
    if transfer then MoveJob register write then_run else (if then_run then BufferJob else NoJob)

-- ---- its laws
-- each of its numbers fits
pub record IsBench (b : Bench) : Type 0 where
  pub state_fits : IsModule b.state
  pub registers_fit : AreSideRegisters b.registers
  pub word_fits : b.word < 2 ^ 64

if-bench : (condition : Bool) (x y : Bench) → (condition ≡ true → IsBench x) → (condition ≡ false → IsBench y)
    → IsBench (if condition then x else y)
if-bench true x y first second = first refl
if-bench false x y first second = second refl

set-fits : (registers : List ℕ) (rd value n : ℕ) → slice_index registers n < 2 ^ 64 → value < 2 ^ 64
    → slice_index (slice_set registers rd value) n < 2 ^ 64
set-fits registers rd value n old new = grind (arith, common_steps)

set-x0 : (registers : List ℕ) (rd value : ℕ) → (rd == 0) ≡ false
    → slice_index (slice_set registers rd value) 0 ≡ slice_index registers 0
set-x0 registers rd value other = grind (arith, common_steps, nat_tests)

with-by : (zeroth : Bool) (registers : List ℕ) (rd value : ℕ) → (rd == 0) ≡ zeroth → AreSideRegisters registers
    → value < 2 ^ 64
    → AreSideRegisters (if zeroth then registers else slice_set registers rd value)
with-by true registers rd value same all small = all
with-by false registers rd value other all small = record {
  count = length-set registers rd value ∙ all.count;
  x0_is_zero = set-x0 registers rd value other ∙ all.x0_is_zero;
  fit = λ n. set-fits registers rd value n (all.fit n) small;
}

-- the value that the buffer stores fits
abbrev StoresFit : BufferStep → Type 0
StoresFit (BufferLoad rd at) = ⊤
StoresFit (BufferStore at value) = value < 2 ^ 64
StoresFit OtherStep = ⊤

known-stores-fit : (step : BufferStep) (single : Bool) → StoresFit step → StoresFit (known_step step single)
known-stores-fit (BufferLoad rd at) single fits = go (single && is_beat at)
  where
    go : (known : Bool) → StoresFit (if known then BufferLoad rd at else OtherStep)
    go true = tt
    go false = tt
known-stores-fit (BufferStore at value) single fits = go (single && is_beat at)
  where
    go : (known : Bool) → StoresFit (if known then BufferStore at value else OtherStep)
    go true = fits
    go false = tt
known-stores-fit OtherStep single fits = tt

first-stores-fit : (word : ℕ) (registers : List ℕ) → AreSideRegisters registers → StoresFit (first_step word registers)
first-stores-fit word registers all =
    go (word % 128 == 0x03 && word / 2 ^ 12 % 8 == 3) (word % 128 == 0x23 && word / 2 ^ 12 % 8 == 3)
  where
    go : (loads stores : Bool) → StoresFit (if loads
        then BufferLoad (word / 2 ^ 7 % 32) (at_offset (slice_index registers (word / 2 ^ 15 % 32)) (word / 2 ^ 20))
        else (if stores
        then BufferStore (at_offset (slice_index registers (word / 2 ^ 15 % 32))
        (word / 2 ^ 25 * 32 + word / 2 ^ 7 % 32)) (slice_index registers (word / 2 ^ 20 % 32))
        else OtherStep))
    go true stores = tt
    go false true = all.fit (word / 2 ^ 20 % 32)
    go false false = tt

stepped-keeps : (step : BufferStep) (b : Bench) → b.state.active ≡ true → StoresFit step → IsBench b
    → IsBench (buffer_stepped step b)
stepped-keeps (BufferLoad rd at) b on stores ok = record {
  state_fits = ok.state_fits;
  registers_fit = with-by (rd == 0) b.registers rd b.word refl ok.registers_fit ok.word_fits;
  word_fits = ok.word_fits;
}
stepped-keeps (BufferStore at value) b on stores ok =
    record { state_fits = ok.state_fits; registers_fit = ok.registers_fit; word_fits = stores }
stepped-keeps OtherStep b on stores ok = record {
  state_fits = let fits = ok.state_fits in active-fits _ on fits.value_fits fits.buffer_length fits.words_fit
      (omega arith);
  registers_fit = ok.registers_fit;
  word_fits = ok.word_fits;
}

ran-keeps : (run : Bool) (b : Bench) → b.state.active ≡ true → IsBench b → IsBench (buffer_ran run b)
ran-keeps true b on ok =
    stepped-keeps (known_step (first_step (slice_index b.state.buffer 0) b.registers) (is_single b.state.buffer)) b on
    (known-stores-fit (first_step (slice_index b.state.buffer 0) b.registers) (is_single b.state.buffer)
    (first-stores-fit (slice_index b.state.buffer 0) b.registers ok.registers_fit)) ok
ran-keeps false b on ok = ok

moved-keeps : (n : ℕ) (write : Bool) (b : Bench) → b.state.active ≡ true → IsBench b → IsBench (moved n write b)
moved-keeps n true b on ok = record {
  state_fits = let fits = ok.state_fits in active-fits _ on fits.value_fits fits.buffer_length fits.words_fit
      fits.cmderr_fits;
  registers_fit = with-by (n == 0) b.registers n b.state.value refl ok.registers_fit ok.state_fits.value_fits;
  word_fits = ok.word_fits;
}
moved-keeps n false b on ok = record {
  state_fits = let fits = ok.state_fits in active-fits _ on
      (ok.registers_fit.fit n) fits.buffer_length fits.words_fit fits.cmderr_fits;
  registers_fit = ok.registers_fit;
  word_fits = ok.word_fits;
}

moved-active : (n : ℕ) (write : Bool) (b : Bench) → b.state.active ≡ true → (moved n write b).state.active ≡ true
moved-active n true b on = on
moved-active n false b on = on

busy-active : (b : Bench) → IsBench b → is_busy b.state.job ≡ true → b.state.active ≡ true
busy-active b ok busy = is-active b.state ok.state_fits (λ same. false≢true (sym (ap (λ m. is_busy m.job) same) ∙ busy))

idle-keeps : (b : Bench) → b.state.active ≡ true → IsBench b
    → IsBench (record b { state = record b.state { job = NoJob } })
idle-keeps b on ok = record {
  state_fits = let fits = ok.state_fits in active-fits _ on fits.value_fits fits.buffer_length fits.words_fit
      fits.cmderr_fits;
  registers_fit = ok.registers_fit;
  word_fits = ok.word_fits;
}

worked-keeps : (job : DebugJob) (b : Bench) → b.state.job ≡ job → IsBench b → IsBench (worked job b)
worked-keeps NoJob b same ok = ok
worked-keeps (MoveJob n write then_run) b same ok =
    let on = busy-active b ok (ap is_busy same) in
    ran-keeps then_run (moved n write b) (moved-active n write b on) (moved-keeps n write b on ok)
worked-keeps BufferJob b same ok =
    let on = busy-active b ok (ap is_busy same) in
    ran-keeps true (record b { state = record b.state { job = NoJob } }) on (idle-keeps b on ok)

resumed-keeps : (b : Bench) → b.state.resume ≡ true → IsBench b
    → IsBench (record b { state = record b.state { resume = false; acked = true }; halted = false })
resumed-keeps b asked ok =
    let on = is-active b.state ok.state_fits (λ same. false≢true (sym (ap (λ m. m.resume) same) ∙ asked)) in
    record {
      state_fits = let fits = ok.state_fits in active-fits _ on fits.value_fits fits.buffer_length fits.words_fit
          fits.cmderr_fits;
      registers_fit = ok.registers_fit;
      word_fits = ok.word_fits;
    }

-- a step keeps what fits
step-keeps : (b : Bench) → IsBench b → IsBench (bench_step b)
unfolding bench_step
step-keeps b ok =
    if-bench b.halted _ _
    (λ _. if-bench b.state.resume _ _ (λ asked. resumed-keeps b asked ok) (λ _. worked-keeps b.state.job b refl ok))
    (λ _. if-bench b.state.haltreq _ _
    (λ _. record { state_fits = ok.state_fits; registers_fit = ok.registers_fit; word_fits = ok.word_fits }) (λ _. ok))

-- ---- a step is one under the module's lines
abbrev IsStep : Bench → Type 0
IsStep b = SideStep bench_ran bench_touched bench_resumed b.state (bench_side b) (bench_step b).state
    (bench_side (bench_step b))

-- with its hart halted
abbrev stopped : Bench → Bench
stopped b = record b { halted = true }

buffer-done : (step : BufferStep) (b : Bench) → b.word < 2 ^ 64
    → BufferDone bench_ran bench_touched bench_resumed step b.state b.registers b.word
    (buffer_stepped step (stopped b)).state (bench_side (buffer_stepped step (stopped b)))
buffer-done (BufferLoad rd at) b small = (b.word, small, b.word, (λ registers. (refl, refl)), refl, refl)
buffer-done (BufferStore at value) b small = (value, (λ registers. refl), refl, refl)
buffer-done OtherStep b small = (3, b.registers, b.word, refl, refl)

buffer-run : (run : Bool) (b : Bench) → b.word < 2 ^ 64
    → BufferRun bench_ran bench_touched bench_resumed run b.state b.registers b.word
    (buffer_ran run (stopped b)).state (bench_side (buffer_ran run (stopped b)))
buffer-run true b small =
    buffer-done (known_step (first_step (slice_index b.state.buffer 0) b.registers) (is_single b.state.buffer)) b small
buffer-run false b small = (refl, refl)

job-done : (job : DebugJob) (b : Bench) → b.word < 2 ^ 64
    → JobDone bench_ran bench_touched bench_resumed job b.state b.registers b.word
    (worked job (stopped b)).state (bench_side (worked job (stopped b)))
job-done NoJob b small = (refl, refl)
job-done (MoveJob n true then_run) b small = buffer-run then_run (moved n true b) small
job-done (MoveJob n false then_run) b small = buffer-run then_run (moved n false b) small
job-done BufferJob b small = buffer-run true (record b { state = record b.state { job = NoJob } }) small

side-step : (halted resume haltreq active acked : Bool) (job : DebugJob) (value : ℕ) (buffer : List ℕ) (cmderr : ℕ)
    (registers : List ℕ) (word : ℕ) → word < 2 ^ 64
    → IsStep (record {
      state = record {
        active = active;
        haltreq = haltreq;
        resume = resume;
        acked = acked;
        job = job;
        value = value;
        buffer = buffer;
        cmderr = cmderr;
      };
      halted = halted;
      registers = registers;
      word = word;
    })
unfolding bench_step
side-step true true haltreq active acked job value buffer cmderr registers word small = (refl, refl)
side-step true false haltreq active acked job value buffer cmderr registers word small =
    job-done job (record {
      state = record {
        active = active;
        haltreq = haltreq;
        resume = false;
        acked = acked;
        job = job;
        value = value;
        buffer = buffer;
        cmderr = cmderr;
      };
      halted = true;
      registers = registers;
      word =
          word;
    }) small
side-step false resume true active acked job value buffer cmderr registers word small =
    (registers, word, refl, refl, refl)
side-step false resume false active acked job value buffer cmderr registers word small =
    ((registers, word), refl, refl, refl)

step-is : (b : Bench) → b.word < 2 ^ 64 → IsStep b
step-is b small =
    side-step b.halted b.state.resume b.state.haltreq b.state.active b.state.acked b.state.job b.state.value
    b.state.buffer b.state.cmderr
    b.registers b.word small

halted-is : (halted : Bool) (registers : List ℕ) (word : ℕ) → is_halted (side_of halted registers word) ≡ halted
halted-is true registers word = refl
halted-is false registers word = refl

-- a turn is one of a module access
pub bench-turns : DmiLaw bench_ran bench_touched bench_resumed IsBench (λ _. Unit {0})
    (λ b. b.state) bench_side bench_turn
bench-turns b ask ok small =
    let fits = step-keeps b ok in
    record {
      steps = 1;
      between = (bench_step b).state;
      paused = bench_side (bench_step b);
      pause = ((bench_step b).state, bench_side (bench_step b), step-is b ok.word_fits, (refl, refl));
      access = ap (λ halted. module_access (bench_step b).state halted ask.op ask.address ask.value)
          (halted-is (bench_step b).halted (bench_step b).registers (bench_step b).word);
      side_left = refl;
      reply_fits = reply-fits (bench_step b).state (bench_step b).halted ask.op ask.address ask.value fits.state_fits;
      still_valid = record {
        state_fits = access-keeps (bench_step b).state
            (bench_step b).halted ask.op ask.address ask.value small fits.state_fits;
        registers_fit = fits.registers_fit;
        word_fits = fits.word_fits;
      };
      some_step = λ _. omega arith;
      still_positive = λ h. h;
    }

side-fits : (halted : Bool) (registers : List ℕ) (word : ℕ) → AreSideRegisters registers
    → IsSide (side_of halted registers word)
side-fits true registers word all = all
side-fits false registers word all = tt

-- its hart's registers fit
pub bench-side-fits : (b : Bench) → IsBench b → IsSide (bench_side b)
bench-side-fits b ok = side-fits b.halted b.registers b.word ok.registers_fit

-- ---- two facts for its code
pub job-busy : (transfer : Bool) (register : ℕ) (write then_run : Bool)
    → is_busy (job_from transfer register write then_run) ≡ (transfer || then_run)
job-busy true register write then_run = refl
job-busy false register write true = refl
job-busy false register write false = refl

-- a write beyond the end changes nothing
pub set_beyond : (registers : List ℕ) (n value : ℕ) → length registers ≤ n → slice_set registers n value ≡ registers
set_beyond [] n value short = refl
set_beyond (x ∷ xs) zero value short = absurd (omega (arith, short))
set_beyond (x ∷ xs) (suc n) value short = ap (λ rest. x ∷ rest) (set_beyond xs n value (omega (arith, short)))

-- the target at reset, with this doubleword
abbrev pub reset_bench : ℕ → Bench
reset_bench word = record {
  state = reset_module;
  halted = false;
  registers =
      0 ∷ 0 ∷ 0 ∷ 0 ∷ 0 ∷ 0 ∷ 0 ∷ 0 ∷ 0 ∷ 0 ∷ 0 ∷ 0 ∷ 0 ∷ 0 ∷
      0 ∷ 0 ∷ 0 ∷ 0 ∷ 0 ∷ 0 ∷ 0 ∷ 0 ∷ 0 ∷ 0 ∷ 0 ∷ 0 ∷ 0 ∷ 0 ∷ 0 ∷ 0 ∷ 0 ∷ 0 ∷ [];
  word = word;
}

zeros-fit : (zeros : List ℕ) → list_all (λ (x : ℕ). x == 0) zeros ≡ true → (n : ℕ) → slice_index zeros n ≡ 0
zeros-fit [] all n = refl
zeros-fit (x ∷ xs) all zero = grind (arith, nat_tests, and_parts (x == 0) _ all)
zeros-fit (x ∷ xs) all (suc n) = zeros-fit xs (and_parts (x == 0) _ all).1 n

pub reset_bench_fits : (word : ℕ) → word < 2 ^ 64 → IsBench (reset_bench word)
reset_bench_fits word small = record {
  state_fits = reset-fits;
  registers_fit = record {
    count = refl;
    x0_is_zero = refl;
    fit = λ n. rw (zeros-fit (reset_bench word).registers refl n) (omega arith);
  };
  word_fits = small;
}

-- ---- command errors that were read
-- the command error that a reply tells
abbrev pub error_read : DmiOp → ℕ → ℕ → ℕ
error_read Nop address reply = 0
error_read Read address reply = if address == 0x16 then reply / 2 ^ 8 % 8 else 0
error_read Write address reply = 0

-- the counts of the errors, with this one counted where it is none
abbrev pub noted : ℕ → List ℕ → List ℕ
noted error counts =
    if error == 0 then counts else slice_set counts error (min (slice_index counts error + 1) (2 ^ 64 - 1))

counted-at : (found : Bool) (counts : List ℕ) (here error : ℕ) → (here == error) ≡ found → (here == 0) ≡ false
    → here < length counts
    → slice_index counts here < 2 ^ 64
    → RaisesIf (found && not (error == 0)) (slice_index counts error)
    (slice_index (slice_set counts here (min (slice_index counts here + 1) (2 ^ 64 - 1))) error)
counted-at true counts here error same some inside small =
    let are : here ≡ error = grind (arith, nat_tests) in
    let not_none : (error == 0) ≡ false = ap (λ n. n == 0) (sym are) ∙ some in
    let value = get_or-set_at counts here error (min (slice_index counts here + 1) (2 ^ 64 - 1)) 0 (sym are) inside in
    rw not_none (rw value (rw (sym are) (omega (arith, small), omega arith)))
counted-at false counts here error other some inside small =
    get_or-set_other counts here error _ 0 (λ same. absurd (grind (arith, nat_tests)))

none-counted : (here error : ℕ) → here ≡ 0 → (here == error && not (error == 0)) ≡ false
none-counted here error none = grind (arith, nat_tests)

read-raises : (none : Bool) (reply : ℕ) (counts : List ℕ) → (reply / 2 ^ 8 % 8 == 0) ≡ none → length counts ≡ 8
    → ((n : ℕ) → slice_index counts n < 2 ^ 64) → (error : ℕ)
    → RaisesIf (reply / 2 ^ 8 % 8 == error && not (error == 0)) (slice_index counts error)
    (slice_index (if none then counts else slice_set counts (reply / 2 ^ 8 % 8)
    (min (slice_index counts (reply / 2 ^ 8 % 8) + 1) (2 ^ 64 - 1))) error)
read-raises true reply counts none long all error =
    rw (none-counted (reply / 2 ^ 8 % 8) error (grind (arith, nat_tests))) refl
read-raises false reply counts some long all error =
    counted-at (reply / 2 ^ 8 % 8 == error) counts (reply / 2 ^ 8 % 8) error refl some (omega (arith, long))
    (all (reply / 2 ^ 8 % 8))

reads-raise : (there : Bool) (address reply : ℕ) (counts : List ℕ) → (address == 0x16) ≡ there → length counts ≡ 8
    → ((n : ℕ) → slice_index counts n < 2 ^ 64) → (error : ℕ)
    → RaisesIf (there && (reply / 2 ^ 8 % 8 == error && not (error == 0))) (slice_index counts error)
    (slice_index (noted (if there then reply / 2 ^ 8 % 8 else 0) counts) error)
reads-raise true address reply counts here long all error =
    read-raises (reply / 2 ^ 8 % 8 == 0) reply counts refl long all error
reads-raise false address reply counts other long all error = refl

-- the counts are raised as they have to be
pub noted_raises : (op : DmiOp) (address reply : ℕ) (counts : List ℕ) → length counts ≡ 8
    → ((n : ℕ) → slice_index counts n < 2 ^ 64) → (error : ℕ)
    → RaisesIf (reads_error op address reply error) (slice_index counts error)
    (slice_index (noted (error_read op address reply) counts) error)
noted_raises Nop address reply counts long all error = refl
noted_raises Read address reply counts long all error =
    reads-raise (address == 0x16) address reply counts refl long all error
noted_raises Write address reply counts long all error = refl

-- a turn keeps what fits
pub turn_keeps : (b : Bench) (ask : DmiAsk) → ask.value < 2 ^ 32 → IsBench b → IsBench (bench_turn b ask).0
turn_keeps b ask small ok = (bench-turns b ask ok small).still_valid
