-- What it says of a row over the user area of a bus that it was followed.
use Rattle.std.proofs.Common.{◌≡◌, ◌≢◌, ◌-◌, ℕ, true, false, List, [], length, Option, Some, None, Result, Ok, Err, refl, sym, ap, subst, ◌∙◌}
use Rattle.std.proofs.lemmas.Bool.{false≢true}
use Rattle.chunk_memory.specs.declared.port.ChunkPort as port
use Rattle.chunk_memory.specs.declared.stops.MemStop.{MemStop}
use Rattle.fe_base.specs.Outside.{PutSuits, PutsRoom}
use Rattle.fe_base.specs.declared.outside.Failed.{Failed}
use Rattle.fe_base.specs.declared.outside.Sink as sink
use Rattle.fe_base.specs.declared.outside.Source as source
use Rattle.folder_tree.specs.declared.folder.Folder as folder
use Rattle.folder_tree.specs.declared.folder.FolderStop.{FolderStop}
use Rattle.folder_tree.specs.declared.folder.FolderStop.TheVariants.{Failed as Broken, NoMemory}
use Rattle.guest_memory.specs.Bus.{BusState, IsBus}
use Rattle.host_text.specs.Outside.{HasRead, HasWritten, acts}
use Rattle.host_text.specs.Played.{At, Played, ended, failed, has_read, read_stopped, has_written, write_stopped, has_taken, take_stopped, has_put, put_stopped, has_asked, ask_stopped, noted, looked}
use Rattle.host_text.specs.Shapes.{is_quiet, either, Ends, Closes, Shaped}
use Rattle.host_text.specs.Text.{Reply}
use Rattle.syscall_proxy.specs.HostRow.{user_bytes}
use Rattle.syscall_proxy.specs.Kept.{Kept}
use Rattle.syscall_proxy.specs.RowShapes.{stops, Marks, IsResult}
use Rattle.syscall_proxy.specs.Rows.{Row, folder_fault}
use Rattle.syscall_proxy.specs.declared.answers.CallAnswer.{CallAnswer}
use Rattle.syscall_proxy.specs.declared.answers.CallFault.{CallFault}
use Rattle.syscall_proxy.specs.declared.answers.CallFault.TheVariants.{Port, FileFault, InputFault, ConsoleFault, OutOfMemory}
use Rattle.plain_machine.specs.Asks.{Asked, the_folder, the_input, asks_folder, asks_input, puts_of}
use Rattle.plain_machine.proofs.BusRanges.{ReadOn, WrittenOn, got, no-read}
use Rattle.plain_machine.proofs.OnlyCalls.{OnlyCalls}

-- a row that ends in this way is refused by the port
abbrev pub PortStops : Result CallAnswer CallFault → Type 0
PortStops r = (fault : CallFault) → r ≡ Err fault → (why : MemStop) × (fault ≡ Port why)

-- a folder's refusal is no refusal of another
not_port : (why : FolderStop) (stop : MemStop) → folder_fault why ≡ Port stop → ⊥
not_port Broken stop e = cc
not_port NoMemory stop e = cc

not_input : (why : FolderStop) → folder_fault why ≡ InputFault → ⊥
not_input Broken e = cc
not_input NoMemory e = cc

not_console : (why : FolderStop) → folder_fault why ≡ ConsoleFault → ⊥
not_console Broken e = cc
not_console NoMemory e = cc

err-same : {a b : CallFault} {r : Result CallAnswer CallFault} → r ≡ Err a → r ≡ Err b → a ≡ b
err-same e h = cc

fault-apart : {a b : CallFault} {P : Type 0} → (a ≡ b → ⊥) → {r : Result CallAnswer CallFault} → r ≡ Err a → r ≡ Err b → P
fault-apart apart e h = absurd (apart (err-same e h))

input-port : (why : MemStop) → InputFault ≡ Port why → ⊥
input-port why e = cc

console-port : (why : MemStop) → ConsoleFault ≡ Port why → ⊥
console-port why e = cc

input-console : InputFault ≡ ConsoleFault → ⊥
input-console e = cc

console-input : ConsoleFault ≡ InputFault → ⊥
console-input e = cc

input-file : InputFault ≡ FileFault → ⊥
input-file e = cc

input-memory : InputFault ≡ OutOfMemory → ⊥
input-memory e = cc

console-file : ConsoleFault ≡ FileFault → ⊥
console-file e = cc

console-memory : ConsoleFault ≡ OutOfMemory → ⊥
console-memory e = cc

-- the port's own refusals blame no object
port-only : {P : Type 0} {r : Result CallAnswer CallFault} → PortStops r → (fault : CallFault) → r ≡ Err fault → ((why : MemStop) → fault ≡ Port why → ⊥) → P
port-only stop fault e apart = let s = stop fault e in absurd (apart s.0 s.1)

file-port : (why : MemStop) → FileFault ≡ Port why → ⊥
file-port why e = cc

memory-port : (why : MemStop) → OutOfMemory ≡ Port why → ⊥
memory-port why e = cc

-- a put that was made suited
pub put-suited : (before after : Option ℕ) (count : ℕ) → PutsRoom {E = Failed} before after count (Ok tt) → PutSuits before count
put-suited None after count h = tt
put-suited (Some room) after count h = (h room refl).0

module _ {P F I C : Type 0} (p : port.Ghosts P) (f : folder.Ghosts F) (i : source.Ghosts I) (c : sink.Ghosts C) (bus : P → BusState)
    (reads : (x x' : P) (at count : ℕ) (r : Result (List ℕ) MemStop) → HasRead p x x' at count r → ReadOn (bus x) (bus x') at count r)
    (writes : (x x' : P) (at : ℕ) (bytes : List ℕ) (r : Result Unit MemStop) → HasWritten p x x' at bytes r → WrittenOn (bus x) (bus x') at bytes r) where
  abbrev S : Type 0
  S = At P F I C Kept

  abbrev R : Type 0
  R = Result CallAnswer CallFault

  -- ---- behind the act

  -- no object but the memory is called any more, and a refusal is the port's
  record Behind (s s' : S) (r : R) : Type 0 where
    stop : PortStops r
    folder : s'.folder ≡ s.folder
    input : s'.input ≡ s.input
    console : s'.console ≡ s.console

  ends-behind : {t : Row} {s s' : S} {r : R} → Ends stops Marks IsResult t → Played (acts p f i c) t s r s' → Behind s s' r
  ends-behind shape (ended e same) = record { stop = λ fault h. let no : ⊥ = cc in absurd no; folder = ap (λ (m : S). m.folder) same; input = ap (λ (m : S). m.input) same; console = ap (λ (m : S). m.console) same }
  ends-behind shape (has_written d next) = let b = ends-behind shape.1 next in record { stop = b.stop; folder = b.folder; input = b.input; console = b.console }
  ends-behind shape (write_stopped {stop = stop} {why = why} d e same) = record {
    stop = λ fault h. (why, err-same h e ∙ ap (λ g. g why) shape.0);
    folder = ap (λ (m : S). m.folder) same;
    input = ap (λ (m : S). m.input) same;
    console = ap (λ (m : S). m.console) same;
  }
  ends-behind shape (failed _ _) = absurd shape
  ends-behind shape (has_read _ _) = absurd shape
  ends-behind shape (read_stopped _ _ _) = absurd shape
  ends-behind shape (has_taken _ _) = absurd shape
  ends-behind shape (take_stopped _ _ _) = absurd shape
  ends-behind shape (has_put _ _) = absurd shape
  ends-behind shape (put_stopped _ _ _) = absurd shape
  ends-behind shape (has_asked _ _) = absurd shape
  ends-behind shape (ask_stopped _ _ _) = absurd shape
  ends-behind shape (noted _ _) = absurd shape
  ends-behind shape (looked _) = absurd shape

  closes-behind : {t : Row} {s s' : S} {r : R} → Closes stops Marks IsResult t → Played (acts p f i c) t s r s' → Behind s s' r
  closes-behind shape (noted n next) = let b = ends-behind shape.1 next in record { stop = b.stop; folder = b.folder; input = b.input; console = b.console }
  closes-behind shape (ended _ _) = absurd shape
  closes-behind shape (failed _ _) = absurd shape
  closes-behind shape (has_read _ _) = absurd shape
  closes-behind shape (read_stopped _ _ _) = absurd shape
  closes-behind shape (has_written _ _) = absurd shape
  closes-behind shape (write_stopped _ _ _) = absurd shape
  closes-behind shape (has_taken _ _) = absurd shape
  closes-behind shape (take_stopped _ _ _) = absurd shape
  closes-behind shape (has_put _ _) = absurd shape
  closes-behind shape (put_stopped _ _ _) = absurd shape
  closes-behind shape (has_asked _ _) = absurd shape
  closes-behind shape (ask_stopped _ _ _) = absurd shape
  closes-behind shape (looked _) = absurd shape

  -- ---- a row that calls what is asked

  pub record Did (x : Asked) (s s' : S) (r : R) : Type 0 where
    pub folder : asks_folder x ≡ false → s'.folder ≡ s.folder
    pub input : asks_input x ≡ false → s'.input ≡ s.input
    pub console : puts_of x ≡ [] → s'.console ≡ s.console
    pub memory : (fault : CallFault) → r ≡ Err fault → ((why : MemStop) → fault ≡ Port why → ⊥) → bus s'.port ≡ bus s.port
    pub file_asked : r ≡ Err FileFault → asks_folder x ≡ true
    pub memory_asked : r ≡ Err OutOfMemory → asks_folder x ≡ true
    pub input_asked : r ≡ Err InputFault → asks_input x ≡ true
    pub console_asked : r ≡ Err ConsoleFault → puts_of x ≢ []
    pub input_calm : i.steady s.input → r ≡ Err InputFault → ⊥
    pub console_suits : c.steady s.console → PutSuits (c.room s.console) (length (puts_of x)) → r ≡ Err ConsoleFault → ⊥
    pub console_steady : c.steady s.console → (r ≡ Err ConsoleFault → ⊥) → (c.faults s'.console ≡ c.faults s.console) × c.steady s'.console

  -- a console that was not called
  kept-console : (s s' : S) → s'.console ≡ s.console → c.steady s.console → (c.faults s'.console ≡ c.faults s.console) × c.steady s'.console
  kept-console s s' same h = (ap (λ z. c.faults z) same, subst (λ z. c.steady z) (sym same) h)

  not-folder : {Q : Type 0} (x : Asked) → x ≡ the_folder → asks_folder x ≡ false → Q
  not-folder x is h = absurd (false≢true (sym h ∙ ap asks_folder is))

  not-input : {Q : Type 0} (x : Asked) → x ≡ the_input → asks_input x ≡ false → Q
  not-input x is h = absurd (false≢true (sym h ∙ ap asks_input is))

  -- behind the act, where one object was called
  acted : (x : Asked) (s m s' : S) (r : R) → Behind m s' r → (asks_folder x ≡ false → m.folder ≡ s.folder) → (asks_input x ≡ false → m.input ≡ s.input) → (puts_of x ≡ [] → m.console ≡ s.console)
      → (c.steady s.console → (c.faults m.console ≡ c.faults s.console) × c.steady m.console) → Did x s s' r
  acted x s m s' r b same_folder same_input same_console calm = record {
    folder = λ h. b.folder ∙ same_folder h;
    input = λ h. b.input ∙ same_input h;
    console = λ h. b.console ∙ same_console h;
    memory = λ fault e apart. port-only b.stop fault e apart;
    file_asked = λ e. port-only b.stop FileFault e file-port;
    memory_asked = λ e. port-only b.stop OutOfMemory e memory-port;
    input_asked = λ e. port-only b.stop InputFault e input-port;
    console_asked = λ e. port-only b.stop ConsoleFault e console-port;
    input_calm = λ h e. port-only b.stop InputFault e input-port;
    console_suits = λ h k e. port-only b.stop ConsoleFault e console-port;
    console_steady = λ h no. let k = calm h in (ap (λ z. c.faults z) b.console ∙ k.0, subst (λ z. c.steady z) (sym b.console) k.1);
  }

  -- what follows the call of an object that asks on
  went : (x : Asked) (s m s' : S) (r : R) → x ≡ the_folder → m.input ≡ s.input → m.console ≡ s.console → bus m.port ≡ bus s.port → Did x m s' r → Did x s s' r
  went x s m s' r is same_input same_console same_bus d = record {
    folder = λ h. not-folder x is h;
    input = λ h. d.input h ∙ same_input;
    console = λ h. d.console h ∙ same_console;
    memory = λ fault e apart. d.memory fault e apart ∙ same_bus;
    file_asked = d.file_asked;
    memory_asked = d.memory_asked;
    input_asked = d.input_asked;
    console_asked = d.console_asked;
    input_calm = λ h e. let no : ⊥ = d.input_calm (subst (λ z. i.steady z) (sym same_input) h) e in no;
    console_suits = λ h k e. d.console_suits (subst (λ z. c.steady z) (sym same_console) h) (subst (λ z. PutSuits (c.room z) (length (puts_of x))) (sym same_console) k) e;
    console_steady = λ h no. let k = d.console_steady (subst (λ z. c.steady z) (sym same_console) h) no in (k.0 ∙ ap (λ z. c.faults z) same_console, k.1);
  }

  pub did : (x : Asked) {t : Row} {s s' : S} {r : R} → Shaped stops Marks IsResult t → OnlyCalls x (bus s.port).user t → IsBus (bus s.port) → Played (acts p f i c) t s r s' → Did x s s' r
  did x shape only fits (has_read {place = place} {count = count} {k = k} {s = s} {s' = s'} {x = y} {bytes = bytes} d next) =
      let g = got (bus s.port) (bus y) place count bytes fits only.0 (reads s.port y place count (Ok bytes) d) in
      let size : length (user_bytes.get (bus s.port).user place count) ≡ count = ap (λ (l : List ℕ). length l) (sym g.1) ∙ d.bytes in
      let here : OnlyCalls x (bus s.port).user (k bytes) = subst (λ (l : List ℕ). OnlyCalls x (bus s.port).user (k l)) (sym g.1) (only.1 size) in
      let there : OnlyCalls x (bus y).user (k bytes) = subst (λ (m : BusState). OnlyCalls x m.user (k bytes)) (sym g.0) here in
      let rest = did x (shape.1 bytes) there (subst IsBus (sym g.0) fits) next in
      record {
        folder = rest.folder;
        input = rest.input;
        console = rest.console;
        memory = λ fault e apart. rest.memory fault e apart ∙ g.0;
        file_asked = rest.file_asked;
        memory_asked = rest.memory_asked;
        input_asked = rest.input_asked;
        console_asked = rest.console_asked;
        input_calm = rest.input_calm;
        console_suits = rest.console_suits;
        console_steady = rest.console_steady;
      }
  did x shape only fits (read_stopped {place = place} {count = count} {s = s} {x = y} {why = why} d e same) =
      absurd (no-read (bus s.port) (bus y) place count why only.0 (reads s.port y place count (Err why) d))
  did x shape only fits (has_taken {s = s} {s' = s'} {r = r} {i = j} {bytes = bytes} d next) =
      acted x s (record s { input = j }) s' r (closes-behind (shape.1 bytes) next) (λ h. refl) (λ h. not-input x only h) (λ h. refl) (λ h. (refl, h))
  did x shape only fits (take_stopped {count = count} {s = s} {s' = s'} {r = r} {i = j} {why = why} d e same) =
      let is : r ≡ Err InputFault = e ∙ ap (λ (z : CallFault). Err z) shape.0 in
      record {
        folder = λ h. ap (λ (m : S). m.folder) same;
        input = λ h. not-input x only h;
        console = λ h. ap (λ (m : S). m.console) same;
        memory = λ fault q apart. ap (λ (m : S). bus m.port) same;
        file_asked = λ h. fault-apart input-file is h;
        memory_asked = λ h. fault-apart input-memory is h;
        input_asked = λ h. ap asks_input only;
        console_asked = λ h. fault-apart input-console is h;
        input_calm = λ h q. false≢true (d.steady h).done;
        console_suits = λ h k q. fault-apart input-console is q;
        console_steady = λ h k. kept-console s s' (ap (λ (m : S). m.console) same) h;
      }
  did x shape only fits (has_put {bytes = bytes} {s = s} {s' = s'} {r = r} {c = z} d next) =
      acted x s (record s { console = z }) s' r (closes-behind shape.1 next) (λ h. refl) (λ h. refl) (λ h. absurd (only.1 (sym (ap puts_of only.0) ∙ h)))
      (λ h. let k = d.steady h (put-suited (c.room s.console) (c.room z) (length bytes) d.room) in (k.same, k.steady))
  did x shape only fits (put_stopped {bytes = bytes} {s = s} {s' = s'} {r = r} {c = z} {why = why} d e same) =
      let is : r ≡ Err ConsoleFault = e ∙ ap (λ (y : CallFault). Err y) shape.0 in
      record {
        folder = λ h. ap (λ (m : S). m.folder) same;
        input = λ h. ap (λ (m : S). m.input) same;
        console = λ h. absurd (only.1 (sym (ap puts_of only.0) ∙ h));
        memory = λ fault q apart. ap (λ (m : S). bus m.port) same;
        file_asked = λ h. fault-apart console-file is h;
        memory_asked = λ h. fault-apart console-memory is h;
        input_asked = λ h. fault-apart console-input is h;
        console_asked = λ h q. only.1 (sym (ap puts_of only.0) ∙ q);
        input_calm = λ h q. fault-apart console-input is q;
        console_suits = λ h k q. false≢true (d.steady h (subst (λ (y : Asked). PutSuits (c.room s.console) (length (puts_of y))) only.0 k)).done;
        console_steady = λ h k. absurd (k is);
      }
  did x shape only fits (has_asked {q = q} {k = k} {s = s} {s' = s'} {r = r} {f = g} {reply = reply} d next) =
      elim (is_quiet q) as (λ t. is_quiet q ≡ t → either t ((y : Reply q) → Shaped stops Marks IsResult (k y)) ((y : Reply q) → Closes stops Marks IsResult (k y)) → Did x s s' r) [
        | true ↦ λ quiet more. went x s (record s { folder = g }) s' r only.0 refl refl refl (did x (more reply) (only.1 reply quiet) fits next)
        | false ↦ λ loud more. acted x s (record s { folder = g }) s' r (closes-behind (more reply) next) (λ h. not-folder x only.0 h) (λ h. refl) (λ h. refl) (λ h. (refl, h))
      ] refl shape.1
  did x shape only fits (ask_stopped {q = q} {s = s} {s' = s'} {r = r} {f = g} {why = why} d e same) =
      let is : r ≡ Err (folder_fault why) = e ∙ ap (λ h. Err (h why)) shape.0 in
      record {
        folder = λ h. not-folder x only.0 h;
        input = λ h. ap (λ (m : S). m.input) same;
        console = λ h. ap (λ (m : S). m.console) same;
        memory = λ fault h apart. ap (λ (m : S). bus m.port) same;
        file_asked = λ h. ap asks_folder only.0;
        memory_asked = λ h. ap asks_folder only.0;
        input_asked = λ h. fault-apart (not_input why) is h;
        console_asked = λ h. fault-apart (not_console why) is h;
        input_calm = λ h k. fault-apart (not_input why) is k;
        console_suits = λ h k v. fault-apart (not_console why) is v;
        console_steady = λ h k. kept-console s s' (ap (λ (m : S). m.console) same) h;
      }
  did x shape only fits (noted {s = s} {s' = s'} {r = r} {h = h} n next) = acted x s (record s { kept = h }) s' r (ends-behind shape.1 next) (λ h. refl) (λ h. refl) (λ h. refl) (λ h. (refl, h))
  did x shape only fits (ended _ _) = absurd shape
  did x shape only fits (failed _ _) = absurd shape
  did x shape only fits (has_written _ _) = absurd shape
  did x shape only fits (write_stopped _ _ _) = absurd shape
  did x shape only fits (looked _) = absurd shape
