-- What the host's call of a request over the user area of a bus comes to.
use Rattle.std.proofs.Common.{◌≡◌, ◌⊎◌, ◌+◌, ◌-◌, ◌^◌, ◌++◌, ℕ, false, List, [], length, take, drop, Some, Result, Ok, Err, refl, sym, ap, subst, ◌∙◌, inl, inr}
use Rattle.std.specs.Prelude.{OnErr, IfOk}
use Rattle.std.specs.Result.{result_err}
use Rattle.chunk_memory.specs.declared.port.ChunkPort as port
use Rattle.chunk_memory.specs.declared.stops.MemStop.{MemStop}
use Rattle.fe_base.specs.ErrorNumbers.{error_number}
use Rattle.fe_base.specs.MemoryMap.{user_start}
use Rattle.fe_base.specs.Outside.{Rose, capacity}
use Rattle.fe_base.specs.declared.error_numbers.ErrNo.TheVariants.{EFAULT}
use Rattle.fe_base.specs.declared.outside.Sink as sink
use Rattle.fe_base.specs.declared.outside.Source as source
use Rattle.folder_tree.specs.declared.folder.Folder as folder
use Rattle.guest_memory.specs.Bus.{BusState, IsBus}
use Rattle.guest_memory.specs.Memory.{with_part}
use Rattle.host_text.specs.Causes.{played-later}
use Rattle.host_text.specs.Outside.{HasRead, HasWritten, acts}
use Rattle.host_text.specs.Played.{at, Played}
use Rattle.host_text.specs.World.{Contents, World}
use Rattle.syscall_proxy.specs.CallLaws.{call_row-row}
use Rattle.syscall_proxy.specs.CallTable.{call_row}
use Rattle.syscall_proxy.specs.HostLaws.{Unmoved, Late, NeverFell}
use Rattle.syscall_proxy.specs.HostRow.{Tells as Told, begin, call-is-row, call-meets-no-port, call-stops}
use Rattle.syscall_proxy.specs.Kept.{Kept, HostState, kept}
use Rattle.syscall_proxy.specs.RowShapes.{InUserArea}
use Rattle.syscall_proxy.specs.declared.answers.CallAnswer.{CallAnswer}
use Rattle.syscall_proxy.specs.declared.answers.CallAnswer.TheVariants.{Result as Value}
use Rattle.syscall_proxy.specs.declared.answers.CallFault.{CallFault}
use Rattle.syscall_proxy.specs.declared.answers.CallFault.TheVariants.{Port, FileFault, InputFault, ConsoleFault, OutOfMemory}
use Rattle.plain_machine.specs.Asks.{needs_outside, row_asks, request_cuts}
use Rattle.plain_machine.specs.Outsides.{outside, Called, Asking}
use Rattle.plain_machine.specs.Rows.{IsInside, RowLed, RowRan, step_result}
use Rattle.plain_machine.specs.Stands.{Tells, Spares}
use Rattle.plain_machine.specs.declared.plain.PlainFault.{PlainFault}
use Rattle.plain_machine.specs.declared.plain.PlainFault.TheVariants.{FileFault as FileStop, InputFault as InputStop, ConsoleFault as ConsoleStop, OutOfMemory as MemoryStop}
use Rattle.plain_machine.proofs.BusRanges.{ReadOn, WrittenOn, got, no-read, no-write, written}
use Rattle.plain_machine.proofs.Followed.{Did, did}
use Rattle.plain_machine.proofs.Lone.{asks-none, lone-row}
use Rattle.plain_machine.proofs.OnlyCalls.{call_row-only}
use Rattle.plain_machine.proofs.Openings.{one-more}

-- ---- a call's outcome and its step's

abbrev R : Type 0
R = Result CallAnswer CallFault

abbrev Apart : CallFault → Type 0
Apart fault = (why : MemStop) → fault ≡ Port why → ⊥

on-err : (Q : Type 0) (o : R) → ((fault : CallFault) → o ≡ Err fault → Apart fault → Q) → OnErr (step_result o) Q
on-err Q (Ok answer) h = tt
on-err Q (Err (Port why)) h = tt
on-err Q (Err FileFault) h = h FileFault refl (λ why e. cc)
on-err Q (Err InputFault) h = h InputFault refl (λ why e. cc)
on-err Q (Err ConsoleFault) h = h ConsoleFault refl (λ why e. cc)
on-err Q (Err OutOfMemory) h = h OutOfMemory refl (λ why e. cc)

-- a step that was not made
pub on-error : (Q : Type 0) (o : R) (r : Result CallAnswer PlainFault) → r ≡ step_result o → ((fault : CallFault) → o ≡ Err fault → Apart fault → Q) → OnErr r Q
on-error Q o r e h = subst (λ z. OnErr z Q) (sym e) (on-err Q o h)

if-ok : (Q : CallAnswer → Type 0) (o : R) → ((answer : CallAnswer) → o ≡ Ok answer → Q answer) → ((why : MemStop) → o ≡ Err (Port why) → Q (Value (2 ^ 64 - error_number EFAULT))) → IfOk (step_result o) Q
if-ok Q (Ok answer) h k = h answer refl
if-ok Q (Err (Port why)) h k = k why refl
if-ok Q (Err FileFault) h k = tt
if-ok Q (Err InputFault) h k = tt
if-ok Q (Err ConsoleFault) h k = tt
if-ok Q (Err OutOfMemory) h k = tt

-- a step that was made
pub if-okay : (Q : CallAnswer → Type 0) (o : R) (r : Result CallAnswer PlainFault) → r ≡ step_result o → ((answer : CallAnswer) → o ≡ Ok answer → Q answer)
    → ((why : MemStop) → o ≡ Err (Port why) → Q (Value (2 ^ 64 - error_number EFAULT))) → IfOk r Q
if-okay Q o r e h k = subst (λ z. IfOk z Q) (sym e) (if-ok Q o h k)

is-file : (o : R) → result_err (step_result o) ≡ Some FileStop → o ≡ Err FileFault
is-file (Ok answer) e = cc
is-file (Err (Port why)) e = cc
is-file (Err FileFault) e = refl
is-file (Err InputFault) e = cc
is-file (Err ConsoleFault) e = cc
is-file (Err OutOfMemory) e = cc

is-input : (o : R) → result_err (step_result o) ≡ Some InputStop → o ≡ Err InputFault
is-input (Ok answer) e = cc
is-input (Err (Port why)) e = cc
is-input (Err FileFault) e = cc
is-input (Err InputFault) e = refl
is-input (Err ConsoleFault) e = cc
is-input (Err OutOfMemory) e = cc

is-console : (o : R) → result_err (step_result o) ≡ Some ConsoleStop → o ≡ Err ConsoleFault
is-console (Ok answer) e = cc
is-console (Err (Port why)) e = cc
is-console (Err FileFault) e = cc
is-console (Err InputFault) e = cc
is-console (Err ConsoleFault) e = refl
is-console (Err OutOfMemory) e = cc

is-memory : (o : R) → result_err (step_result o) ≡ Some MemoryStop → o ≡ Err OutOfMemory
is-memory (Ok answer) e = cc
is-memory (Err (Port why)) e = cc
is-memory (Err FileFault) e = cc
is-memory (Err InputFault) e = cc
is-memory (Err ConsoleFault) e = cc
is-memory (Err OutOfMemory) e = refl

console-is : (o : R) → o ≡ Err ConsoleFault → result_err (step_result o) ≡ Some ConsoleStop
console-is o e = ap (λ z. result_err (step_result z)) e

module _ {P F I C : Type 0} (p : port.Ghosts P) (f : folder.Ghosts F) (i : source.Ghosts I) (c : sink.Ghosts C)
    (old new : HostState) (request : List ℕ) (x x' : P) (folder folder' : F) (input input' : I) (console console' : C) (o : R)
    (played : Played (acts p f i c) (call_row old.given old.numbers request) (at x folder input console (kept old.numbers false [])) o (at x' folder' input' console' (kept new.numbers new.acted [])))
    (bus : P → BusState)
    (reads : (x x' : P) (at count : ℕ) (r : Result (List ℕ) MemStop) → HasRead p x x' at count r → ReadOn (bus x) (bus x') at count r)
    (writes : (x x' : P) (at : ℕ) (bytes : List ℕ) (r : Result Unit MemStop) → HasWritten p x x' at bytes r → WrittenOn (bus x) (bus x') at bytes r)
    (inside : IsInside old.given request) (fits : IsBus (bus x)) where
  -- the guest's bytes as they stand in the bus
  abbrev Memory : P → List ℕ → Type 0
  Memory y user = IsBus (bus y) × ((bus y).user ≡ user)

  on_read : (y y' : P) (t : List ℕ) (place count : ℕ) (bytes : List ℕ) → InUserArea place count → Memory y t → HasRead p y y' place count (Ok bytes)
      → Memory y' t × (bytes ≡ take count (drop (place - user_start) t))
  on_read y y' t place count bytes fit m d =
      let g = got (bus y) (bus y') place count bytes m.0 fit (reads y y' place count (Ok bytes) d) in
      ((subst IsBus (sym g.0) m.0, ap (λ (b : BusState). b.user) g.0 ∙ m.1), g.1 ∙ ap (λ (l : List ℕ). take count (drop (place - user_start) l)) m.1)

  on_write : (y y' : P) (t : List ℕ) (place : ℕ) (bytes : List ℕ) → InUserArea place (length bytes) → Memory y t → HasWritten p y y' place bytes (Ok tt)
      → Memory y' (take (place - user_start) t ++ (bytes ++ drop (place - user_start + length bytes) t))
  on_write y y' t place bytes fit m d =
      let w = written (bus y) (bus y') place bytes m.0 fit (writes y y' place bytes (Ok tt) d) in
      (w.0, w.1 ∙ ap (λ (l : List ℕ). with_part l (place - user_start) bytes) m.1)

  -- the port refuses no range of the user area
  never_read : (y y' : P) (place count : ℕ) (why : MemStop) → InUserArea place count → HasRead p y y' place count (Err why) → ⊥
  never_read y y' place count why fit d = no-read (bus y) (bus y') place count why fit (reads y y' place count (Err why) d)

  never_write : (y y' : P) (place : ℕ) (bytes : List ℕ) (why : MemStop) → InUserArea place (length bytes) → HasWritten p y y' place bytes (Err why) → ⊥
  never_write y y' place bytes why fit d = no-write (bus y) (bus y') place bytes why fit (writes y y' place bytes (Err why) d)

  -- where the call begins, over told contents
  abbrev Start : World → Type 0
  Start w = Told p f i c Memory on_read on_write (at x folder input console (kept old.numbers false [])) (begin w (bus x).user)

  starts : (contents : Contents) → Tells contents (i.left input) (c.held console) (f.tree folder) → Start (record { contents = contents; numbers = old.numbers })
  starts contents told = record { memory_is = (fits, refl); tree_is = told.tree_told; input_is = told.input_told; console_is = told.console_told; kept_is = refl }

  -- the port refuses the call nothing
  never-port : (why : MemStop) → o ≡ Err (Port why) → ⊥
  never-port why e = call-meets-no-port p f i c never_read never_write old.given old.numbers request why e inside played

  -- the row that was followed is the host's row
  pub row-ran : (contents : Contents) (answer : CallAnswer) → o ≡ Ok answer → Tells contents (i.left input) (c.held console) (f.tree folder)
      → RowRan old new request contents (bus x).user (bus x').user answer (i.left input') (c.held console') (f.tree folder')
  row-ran contents answer e told =
      let w : World = record { contents = contents; numbers = old.numbers } in
      let h = call-is-row p f i c Memory on_read on_write old.given request w (bus x).user answer e inside played
      (starts contents told) in
      record {
        after = h.0;
        row = h.1;
        user_is = h.2.memory_is.1;
        numbers_is = ap (λ (k : Kept). k.numbers) h.2.kept_is;
        told = record { input_told = h.2.input_is; console_told = h.2.console_is; tree_told = h.2.tree_is };
      }

  pub made-or-not : (r : Result CallAnswer PlainFault) → r ≡ step_result o
      → IfOk r (λ answer. (contents : Contents) → Tells contents (i.left input) (c.held console) (f.tree folder) → RowRan old new request contents (bus x).user (bus x').user answer (i.left input') (c.held console') (f.tree folder'))
  made-or-not r e =
      if-okay (λ answer. (contents : Contents) → Tells contents (i.left input) (c.held console) (f.tree folder) → RowRan old new request contents (bus x).user (bus x').user answer (i.left input') (c.held console') (f.tree folder'))
      o r e (λ answer h contents told. row-ran contents answer h told) (λ why h contents told. absurd (never-port why h))

  -- what a call that needs neither folder nor input comes to, whatever the objects tell
  pub lone-or-not : (r : Result CallAnswer PlainFault) → r ≡ step_result o
      → IfOk r (λ answer. needs_outside (row_asks old.numbers request (bus x).user) ≡ false → (contents : Contents) → RowLed old new request contents (bus x).user (bus x').user answer)
  lone-or-not r e =
      if-okay (λ answer. needs_outside (row_asks old.numbers request (bus x).user) ≡ false → (contents : Contents) → RowLed old new request contents (bus x).user (bus x').user answer) o r e
      (λ answer h none contents.
      let asks = asks-none old.numbers request (bus x).user none in
      let row = lone-row p f i c Memory on_read on_write old.given request (record { contents = contents; numbers = old.numbers }) (bus x).user answer asks.0 asks.1 inside played h (fits, refl) refl in
      record { after = row.0; row = row.1; user_is = row.2.1; numbers_is = ap (λ (k : Kept). k.numbers) row.3 })
      (λ why h none contents. absurd (never-port why h))

  -- what the call did to the objects
  pub did-row : Did p f i c bus reads writes (row_asks old.numbers request (bus x).user) (at x folder input console (kept old.numbers false [])) (at x' folder' input' console' (kept new.numbers new.acted [])) o
  did-row = did p f i c bus reads writes (row_asks old.numbers request (bus x).user) (call_row-row old.given old.numbers request)
      (call_row-only old.given old.numbers request (bus x).user inside) fits played

  module _ (unmoved : (fault : CallFault) → o ≡ Err fault
      → Unmoved f i c (at {H = Kept} x folder input console (kept old.numbers false [])) (at x' folder' input' console' (kept new.numbers new.acted []))
      ⊎ Late (at x folder input console (kept old.numbers false [])) (at x' folder' input' console' (kept new.numbers new.acted [])) fault) where
    -- a call that was not carried out moved nothing
    still : (fault : CallFault) → o ≡ Err fault → Apart fault → Unmoved f i c (at {H = Kept} x folder input console (kept old.numbers false [])) (at x' folder' input' console' (kept new.numbers new.acted []))
    still fault e apart = elim (unmoved fault e) [ inl u ↦ u | inr l ↦ absurd (apart l.port.0 l.port.1) ]

    pub same-numbers : (r : Result CallAnswer PlainFault) → r ≡ step_result o → OnErr r (new.numbers ≡ old.numbers)
    same-numbers r e = on-error (new.numbers ≡ old.numbers) o r e (λ fault h apart. ap (λ (k : Kept). k.numbers) (still fault h apart).kept)

  -- a call that was not carried out leaves what is told, but for one open more
  spared : (contents : Contents) → Tells contents (i.left input) (c.held console) (f.tree folder) → (fault : CallFault) → o ≡ Err fault
      → Spares (request_cuts request) old.given.root contents (i.left input') (c.held console') (f.tree folder')
  spared contents told fault e =
      let w : World = record { contents = contents; numbers = old.numbers } in
      let stops = call-stops p f i c Memory on_read on_write never_read never_write old.given request w (bus x).user fault e inside played (starts contents told) in
      record {
        input_told = stops.2.input_is;
        console_told = stops.2.console_is;
        tree_stays = one-more old.given request contents.tree stops.0 (f.tree folder') stops.2.tree_is stops.1;
      }

  pub spares : (r : Result CallAnswer PlainFault) → r ≡ step_result o
      → OnErr r ((contents : Contents) → Tells contents (i.left input) (c.held console) (f.tree folder) → Spares (request_cuts request) old.given.root contents (i.left input') (c.held console') (f.tree folder'))
  spares r e = on-error ((contents : Contents) → Tells contents (i.left input) (c.held console) (f.tree folder) → Spares (request_cuts request) old.given.root contents (i.left input') (c.held console') (f.tree folder'))
      o r e (λ fault h apart contents told. spared contents told fault h)

  pub same-user : (r : Result CallAnswer PlainFault) → r ≡ step_result o → OnErr r ((bus x').user ≡ (bus x).user)
  same-user r e = on-error ((bus x').user ≡ (bus x).user) o r e (λ fault h apart. ap (λ (b : BusState). b.user) (did-row.memory fault h apart))

  -- what stays while a row is followed
  later : ((i.steady input → (i.faults input' ≡ i.faults input) × i.steady input')) × (capacity (c.held console') (c.room console') ≡ capacity (c.held console) (c.room console))
  later =
      let l = played-later (acts p f i c) (λ y y'. Unit {0}) (λ y y'. Unit {0}) (λ y y'. i.steady y → (i.faults y' ≡ i.faults y) × i.steady y') (λ y y'. capacity (c.held y') (c.room y') ≡ capacity (c.held y) (c.room y))
      (λ y. tt) (λ y. tt) (λ y h. (refl, h)) (λ y. refl) (λ y z w a b. tt) (λ y z w a b. tt) (λ y z w a b h. let k = a h in let m = b k.1 in (m.0 ∙ k.0, m.1)) (λ y z w a b. b ∙ a)
      (λ y y' at count r d. tt) (λ y y' at bytes r d. tt) (λ q y y' r d. tt) (λ y y' count r d h. let k = d.steady h in (k.same, k.steady)) (λ y y' bytes r d. d.capacity) played in
      (l.input, l.console)

  module _ (counts : NeverFell p f i c (at x folder input console (kept old.numbers false [])) (at x' folder' input' console' (kept new.numbers new.acted [])))
      (file : o ≡ Err FileFault → Rose (f.faults folder) (f.faults folder')) (memory : o ≡ Err OutOfMemory → Rose (f.short folder) (f.short folder'))
      (taken : o ≡ Err InputFault → Rose (i.faults input) (i.faults input')) (put : o ≡ Err ConsoleFault → Rose (c.faults console) (c.faults console')) where
    by-outcome : Called f i c (outside folder input console) (outside folder' input' console') (result_err (step_result o))
    by-outcome = record {
      file_fault = λ e. file (is-file o e);
      out_of_memory = λ e. memory (is-memory o e);
      input_fault = λ e. taken (is-input o e);
      console_fault = λ e. put (is-console o e);
      folder_count = counts.folder;
      short_count = counts.short;
      input_count = counts.input;
      console_count = counts.console;
      input_calm = λ h e. did-row.input_calm h (is-input o e);
      input_steady = λ h. later.0 h;
      console_steady = λ h no. did-row.console_steady h (λ e. no (console-is o e));
      console_capacity = later.1;
    }

    pub has-called : (r : Result CallAnswer PlainFault) → r ≡ step_result o → Called f i c (outside folder input console) (outside folder' input' console') (result_err r)
    has-called r e = subst (λ z. Called f i c (outside folder input console) (outside folder' input' console') (result_err z)) (sym e) by-outcome

  asking-outcome : Asking f i c (row_asks old.numbers request (bus x).user) (outside folder input console) (outside folder' input' console') (result_err (step_result o))
  asking-outcome = record {
    folder_untouched = did-row.folder;
    input_untouched = did-row.input;
    console_untouched = did-row.console;
    file_asked = λ e. did-row.file_asked (is-file o e);
    memory_asked = λ e. did-row.memory_asked (is-memory o e);
    input_asked = λ e. did-row.input_asked (is-input o e);
    console_asked = λ e. did-row.console_asked (is-console o e);
    console_suits = λ h k e. did-row.console_suits h k (is-console o e);
  }

  pub has-asked : (r : Result CallAnswer PlainFault) → r ≡ step_result o → Asking f i c (row_asks old.numbers request (bus x).user) (outside folder input console) (outside folder' input' console') (result_err r)
  has-asked r e = subst (λ z. Asking f i c (row_asks old.numbers request (bus x).user) (outside folder input console) (outside folder' input' console') (result_err z)) (sym e) asking-outcome
