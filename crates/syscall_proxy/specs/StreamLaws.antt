-- What a call says of the input, of the console and of a folder that it asks nothing, by the laws of texts.
use Rattle.std.specs.Prelude.{◌≡◌, ⊤, ℕ, Bool, true, false, List, length, Option, Result, Ok, Err, IsOk, refl}
use Rattle.std.proofs.Common.{sym, subst, ap, ◌∙◌}
use Rattle.chunk_memory.specs.declared.port.ChunkPort as port
use Rattle.chunk_memory.specs.declared.stops.MemStop.{MemStop}
use Rattle.fe_base.specs.Outside.{PutSuits, StaysSteady, capacity}
use Rattle.fe_base.specs.declared.outside.Failed.{Failed}
use Rattle.fe_base.specs.declared.outside.Sink as sink
use Rattle.fe_base.specs.declared.outside.Source as source
use Rattle.folder_tree.specs.declared.folder.Folder as folder
use Rattle.folder_tree.specs.declared.folder.FolderStop.{FolderStop}
use Rattle.folder_tree.specs.declared.folder.FolderStop.TheVariants.{Failed as Broken, NoMemory}
use Rattle.host_text.specs.Blames.{Blames, port_to, folder_to, input_to, console_to, shaped-blame}
use Rattle.host_text.specs.Causes.{Later, played-later}
use Rattle.host_text.specs.Outside.{HasTaken, HasPut, acts}
use Rattle.host_text.specs.Played.{Acts, At, Played}
use Rattle.host_text.specs.Streams.{PutsSuited, only, only-played, suited_acts, fits-played, done-played, shaped-puts}
use Rattle.host_text.specs.declared.open_numbers.Open.{Open}
use Rattle.syscall_proxy.specs.CallLaws.{call_row-row}
use Rattle.syscall_proxy.specs.CallTable.{call_row}
use Rattle.syscall_proxy.specs.Kept.{Kept, Setting}
use Rattle.syscall_proxy.specs.RowShapes.{stops, Marks, IsResult}
use Rattle.syscall_proxy.specs.Rows.{folder_fault}
use Rattle.syscall_proxy.specs.StreamRows.{call_row-asks, call_row-fits, call_row-puts, call_row-takes}
use Rattle.syscall_proxy.specs.Streams.{call_asks, call_puts, call_takes}
use Rattle.syscall_proxy.specs.declared.answers.CallAnswer.{CallAnswer}
use Rattle.syscall_proxy.specs.declared.answers.CallFault.{CallFault}
use Rattle.syscall_proxy.specs.declared.answers.CallFault.TheVariants.{FileFault, InputFault, ConsoleFault, OutOfMemory}

-- what is done is not refused
refused-done : (T : Type 0) {E : Type 0} (r : Result T E) (why : E) → r ≡ Err why → IsOk r → ⊥
refused-done T (Ok done) why e h = cc
refused-done T (Err stop) why e h = cc

no_input : (why : FolderStop) → InputFault ≡ folder_fault why → ⊥
no_input Broken e = cc
no_input NoMemory e = cc

no_console : (why : FolderStop) → ConsoleFault ≡ folder_fault why → ⊥
no_console Broken e = cc
no_console NoMemory e = cc

module _ {P F I C : Type 0} (p : port.Ghosts P) (f : folder.Ghosts F) (i : source.Ghosts I) (c : sink.Ghosts C) where
  -- ---- the input

  -- a steady input stays so, and raises no fault
  abbrev InputStays : I → I → Type 0
  InputStays x x' = i.steady x → (i.faults x' ≡ i.faults x) × i.steady x'

  blames-steady-input : {s s' : At P F I C Kept} → i.steady s.input
      → Blames stops (λ why x x'. ⊤) (λ why x x'. ⊤) (λ x x'. i.steady x → ⊥) (λ x x'. ⊤) InputFault s s' → ⊥
  blames-steady-input h (port_to why e b) = let no : ⊥ = cc in no
  blames-steady-input h (folder_to why e b) = no_input why e
  blames-steady-input h (input_to e b) = b h
  blames-steady-input h (console_to e b) = let no : ⊥ = cc in no

  -- over a steady input no InputFault comes, and it stays steady
  pub call-steady-input : {s s' : At P F I C Kept} {r : Result CallAnswer CallFault} (given : Setting)
      (numbers : List Open) (request : List ℕ) → i.steady s.input
      → Played (acts p f i c) (call_row given numbers request) s r s'
      → (r ≡ Err InputFault → ⊥) × (i.faults s'.input ≡ i.faults s.input) × i.steady s'.input
  call-steady-input {s = s} {s' = s'} {r = r} given numbers request steady played =
      let later = played-later (acts p f i c) (λ x x'. ⊤) (λ x x'. ⊤) InputStays (λ x x'. ⊤)
      (λ x. tt) (λ x. tt) (λ x h. (refl, h)) (λ x. tt) (λ x y w a b. tt) (λ x y w a b. tt)
      (λ x y w a b h. let m = a h in let n = b m.1 in (n.0 ∙ m.0, n.1)) (λ x y w a b. tt)
      (λ x y at count q d. tt) (λ x y at bytes q d. tt) (λ q x y q' d. tt)
      (λ x y count q d h. let k = d.steady h in (k.same, k.steady)) (λ x y bytes q d. tt) played in
      let blame = λ (e : r ≡ Err InputFault). shaped-blame (acts p f i c) stops Marks IsResult (λ why x x'. ⊤)
      (λ why x x'. ⊤) (λ x x'. i.steady x → ⊥) (λ x x'. ⊤)
      (λ x y at count why d. tt) (λ x y at bytes why d. tt) (λ q x y why d. tt)
      (λ x y count why d h. refused-done (List ℕ) (Err why) why refl (d.steady h).done) (λ x y bytes why d. tt)
      (λ x y w at count bytes why d b. tt) (λ x y w at bytes why d b. tt) (λ q x y w reply why d b. tt)
      (λ x y w count bytes d b h. b (d.steady h).steady) (λ x y w bytes d b. tt)
      InputFault e (call_row-row given numbers request) played in
      let stays = later.input steady in
      (λ e. blames-steady-input steady (blame e), stays.0, stays.1)

  -- a call that asks the input for nothing leaves it, and has no InputFault
  pub call-untaken : {s s' : At P F I C Kept} {r : Result CallAnswer CallFault} (given : Setting) (numbers : List Open)
      (request : List ℕ) → call_takes numbers request ≡ 0
      → Played (acts p f i c) (call_row given numbers request) s r s'
      → (s'.input ≡ s.input) × (r ≡ Err InputFault → ⊥)
  call-untaken {s = s} {s' = s'} {r = r} given numbers request none played =
      let o = only (acts p f i c) (λ count. ⊥) (λ bytes. ⊤) (λ q. ⊤) in
      let narrow = only-played (acts p f i c) (λ count. ⊥) (λ bytes. ⊤) (λ q. ⊤) (λ x x' at count bytes d. d.bytes)
      (λ x x' count bytes d. d.bound) (call_row-takes given numbers request none) played in
      let later = played-later o (λ x x'. ⊤) (λ x x'. ⊤) (λ x x'. x' ≡ x) (λ x x'. ⊤) (λ x. tt) (λ x. tt) (λ x. refl)
      (λ x. tt) (λ x y w a b. tt) (λ x y w a b. tt) (λ x y w a b. b ∙ a) (λ x y w a b. tt)
      (λ x y at count q d. tt) (λ x y at bytes q d. tt) (λ q x y q' d. tt) (λ x y count q d. absurd d.0)
      (λ x y bytes q d. tt) narrow in
      let blame = λ (e : r ≡ Err InputFault). shaped-blame o stops Marks IsResult (λ why x x'. ⊤) (λ why x x'. ⊤)
      (λ x x'. ⊥) (λ x x'. ⊤) (λ x y at count why d. tt) (λ x y at bytes why d. tt) (λ q x y why d. tt)
      (λ x y count why d. d.0) (λ x y bytes why d. tt) (λ x y w at count bytes why d b. tt)
      (λ x y w at bytes why d b. tt) (λ q x y w reply why d b. tt) (λ x y w count bytes d b. b)
      (λ x y w bytes d b. tt) InputFault e (call_row-row given numbers request) narrow in
      (later.input, λ e. no-input-blame (blame e)) where
        no-input-blame : {X F I C : Type 0} {s s' : At X F I C Kept}
            → Blames stops (λ why x x'. ⊤) (λ why x x'. ⊤) (λ x x'. ⊥) (λ x x'. ⊤) InputFault s s' → ⊥
        no-input-blame (port_to why e b) = let no : ⊥ = cc in no
        no-input-blame (folder_to why e b) = no_input why e
        no-input-blame (input_to e b) = b
        no-input-blame (console_to e b) = let no : ⊥ = cc in no

  -- ---- the console

  -- a steady console stays so, and raises no fault
  abbrev ConsoleStays : C → C → Type 0
  ConsoleStays x x' = c.steady x → (c.faults x' ≡ c.faults x) × c.steady x'

  blames-steady-console : {s s' : At P F I C Kept} → c.steady s.console
      → Blames stops (λ why x x'. ⊤) (λ why x x'. ⊤) (λ x x'. ⊤) (λ x x'. c.steady x → ⊥) ConsoleFault s s' → ⊥
  blames-steady-console h (port_to why e b) = let no : ⊥ = cc in no
  blames-steady-console h (folder_to why e b) = no_console why e
  blames-steady-console h (input_to e b) = let no : ⊥ = cc in no
  blames-steady-console h (console_to e b) = b h

  -- where each put suits, a steady console raises no fault and stays steady
  suited-later : {s s' : At P F I C Kept} {r : Result CallAnswer CallFault} (given : Setting) (numbers : List Open)
      (request : List ℕ) → c.steady s.console → Played (suited_acts p f i c) (call_row given numbers request) s r s'
      → (c.faults s'.console ≡ c.faults s.console) × c.steady s'.console
  suited-later given numbers request steady played =
      let later = played-later (suited_acts p f i c) (λ x x'. ⊤) (λ x x'. ⊤) (λ x x'. ⊤) ConsoleStays
      (λ x. tt) (λ x. tt) (λ x. tt) (λ x h. (refl, h)) (λ x y w a b. tt) (λ x y w a b. tt) (λ x y w a b. tt)
      (λ x y w a b h. let m = a h in let n = b m.1 in (n.0 ∙ m.0, n.1))
      (λ x y at count q d. tt) (λ x y at bytes q d. tt) (λ q x y q' d. tt) (λ x y count q d. tt)
      (λ x y bytes q d h. let k = d.put.steady h d.suits in (k.same, k.steady)) played in
      later.console steady

  -- and does not fail
  suited-blames : {s s' : At P F I C Kept} {r : Result CallAnswer CallFault} (given : Setting) (numbers : List Open)
      (request : List ℕ) → c.steady s.console → Played (suited_acts p f i c) (call_row given numbers request) s r s'
      → r ≡ Err ConsoleFault → ⊥
  suited-blames given numbers request steady played e =
      let blame = shaped-blame (suited_acts p f i c) stops Marks IsResult (λ why x x'. ⊤) (λ why x x'. ⊤) (λ x x'. ⊤)
      (λ x x'. c.steady x → ⊥)
      (λ x y at count why d. tt) (λ x y at bytes why d. tt) (λ q x y why d. tt) (λ x y count why d. tt)
      (λ x y bytes why d h. refused-done Unit (Err why) why refl (d.put.steady h d.suits).done)
      (λ x y w at count bytes why d b. tt) (λ x y w at bytes why d b. tt) (λ q x y w reply why d b. tt)
      (λ x y w count bytes d b. tt) (λ x y w bytes d b h. b (d.put.steady h d.suits).steady)
      ConsoleFault e (call_row-row given numbers request) played in
      blames-steady-console steady blame

  -- over a steady console with room for the bytes that the call puts no ConsoleFault comes, and it stays steady
  pub call-steady-console : {s s' : At P F I C Kept} {r : Result CallAnswer CallFault} (given : Setting)
      (numbers : List Open) (request : List ℕ) → c.steady s.console
      → PutSuits (c.room s.console) (call_puts numbers request)
      → Played (acts p f i c) (call_row given numbers request) s r s' → (r ≡ Err ConsoleFault → ⊥)
      × (c.faults s'.console ≡ c.faults s.console) × c.steady s'.console
  call-steady-console {s = s} given numbers request steady suits played =
      let suited = fits-played p f i c (call_row-fits given numbers request (c.room s.console) suits) played in
      let later = suited-later given numbers request steady suited in
      (λ e. suited-blames given numbers request steady suited e, later.0, later.1)

  -- whatever its room, a steady console stays so where no ConsoleFault comes
  pub call-console-stays : {s s' : At P F I C Kept} {r : Result CallAnswer CallFault} (given : Setting)
      (numbers : List Open) (request : List ℕ) → c.steady s.console → (r ≡ Err ConsoleFault → ⊥)
      → Played (acts p f i c) (call_row given numbers request) s r s' → (c.faults s'.console ≡ c.faults s.console)
      × c.steady s'.console
  call-console-stays given numbers request steady none played =
      suited-later given numbers request steady
      (done-played p f i c ConsoleFault none
      (shaped-puts stops Marks IsResult (call_row given numbers request)
      (call_row-row given numbers request)) played)

  -- what the console holds and still takes, together, stays
  pub call-capacity : {s s' : At P F I C Kept} {r : Result CallAnswer CallFault} (given : Setting)
      (numbers : List Open) (request : List ℕ) → Played (acts p f i c) (call_row given numbers request) s r s'
      → capacity (c.held s'.console) (c.room s'.console) ≡ capacity (c.held s.console) (c.room s.console)
  call-capacity given numbers request played =
      let later = played-later (acts p f i c) (λ x x'. ⊤) (λ x x'. ⊤) (λ x x'. ⊤)
      (λ x x'. capacity (c.held x') (c.room x') ≡ capacity (c.held x) (c.room x))
      (λ x. tt) (λ x. tt) (λ x. tt) (λ x. refl) (λ x y w a b. tt) (λ x y w a b. tt) (λ x y w a b. tt)
      (λ x y w a b. b ∙ a)
      (λ x y at count q d. tt) (λ x y at bytes q d. tt) (λ q x y q' d. tt) (λ x y count q d. tt)
      (λ x y bytes q d. d.capacity) played in
      later.console

  -- a call that has no bytes for the console leaves it, and has no ConsoleFault
  pub call-unput : {s s' : At P F I C Kept} {r : Result CallAnswer CallFault} (given : Setting) (numbers : List Open)
      (request : List ℕ) → call_puts numbers request ≡ 0 → Played (acts p f i c) (call_row given numbers request) s r s'
      → (s'.console ≡ s.console) × (r ≡ Err ConsoleFault → ⊥)
  call-unput {s = s} {s' = s'} {r = r} given numbers request none played =
      let o = only (acts p f i c) (λ count. ⊤) (λ bytes. ⊥) (λ q. ⊤) in
      let narrow = only-played (acts p f i c) (λ count. ⊤) (λ bytes. ⊥) (λ q. ⊤) (λ x x' at count bytes d. d.bytes)
      (λ x x' count bytes d. d.bound) (call_row-puts given numbers request none) played in
      let later = played-later o (λ x x'. ⊤) (λ x x'. ⊤) (λ x x'. ⊤) (λ x x'. x' ≡ x) (λ x. tt) (λ x. tt) (λ x. tt)
      (λ x. refl) (λ x y w a b. tt) (λ x y w a b. tt) (λ x y w a b. tt) (λ x y w a b. b ∙ a)
      (λ x y at count q d. tt) (λ x y at bytes q d. tt) (λ q x y q' d. tt) (λ x y count q d. tt)
      (λ x y bytes q d. absurd d.0) narrow in
      let blame = λ (e : r ≡ Err ConsoleFault). shaped-blame o stops Marks IsResult (λ why x x'. ⊤) (λ why x x'. ⊤)
      (λ x x'. ⊤) (λ x x'. ⊥) (λ x y at count why d. tt) (λ x y at bytes why d. tt) (λ q x y why d. tt)
      (λ x y count why d. tt) (λ x y bytes why d. d.0) (λ x y w at count bytes why d b. tt)
      (λ x y w at bytes why d b. tt) (λ q x y w reply why d b. tt) (λ x y w count bytes d b. tt)
      (λ x y w bytes d b. b) ConsoleFault e (call_row-row given numbers request) narrow in
      (later.console, λ e. no-console-blame (blame e)) where
        no-console-blame : {X F I C : Type 0} {s s' : At X F I C Kept}
            → Blames stops (λ why x x'. ⊤) (λ why x x'. ⊤) (λ x x'. ⊤) (λ x x'. ⊥) ConsoleFault s s' → ⊥
        no-console-blame (port_to why e b) = let no : ⊥ = cc in no
        no-console-blame (folder_to why e b) = no_console why e
        no-console-blame (input_to e b) = let no : ⊥ = cc in no
        no-console-blame (console_to e b) = b

  -- ---- the folder

  -- a call that asks the folder nothing leaves it, and has neither FileFault nor OutOfMemory
  pub call-unasked : {s s' : At P F I C Kept} {r : Result CallAnswer CallFault} (given : Setting) (numbers : List Open)
      (request : List ℕ) → call_asks numbers request ≡ false
      → Played (acts p f i c) (call_row given numbers request) s r s'
      → (s'.folder ≡ s.folder) × (r ≡ Err FileFault → ⊥) × (r ≡ Err OutOfMemory → ⊥)
  call-unasked {s = s} {s' = s'} {r = r} given numbers request none played =
      let o = only (acts p f i c) (λ count. ⊤) (λ bytes. ⊤) (λ q. ⊥) in
      let narrow = only-played (acts p f i c) (λ count. ⊤) (λ bytes. ⊤) (λ q. ⊥) (λ x x' at count bytes d. d.bytes)
      (λ x x' count bytes d. d.bound) (call_row-asks given numbers request none) played in
      let later = played-later o (λ x x'. ⊤) (λ x x'. x' ≡ x) (λ x x'. ⊤) (λ x x'. ⊤) (λ x. tt) (λ x. refl) (λ x. tt)
      (λ x. tt) (λ x y w a b. tt) (λ x y w a b. b ∙ a) (λ x y w a b. tt) (λ x y w a b. tt)
      (λ x y at count q d. tt) (λ x y at bytes q d. tt) (λ q x y q' d. absurd d.0) (λ x y count q d. tt)
      (λ x y bytes q d. tt) narrow in
      let blame = λ (fault : CallFault) (e : r ≡ Err fault). shaped-blame o stops Marks IsResult (λ why x x'. ⊤)
      (λ why x x'. ⊥) (λ x x'. ⊤) (λ x x'. ⊤) (λ x y at count why d. tt) (λ x y at bytes why d. tt)
      (λ q x y why d. d.0) (λ x y count why d. tt) (λ x y bytes why d. tt) (λ x y w at count bytes why d b. tt)
      (λ x y w at bytes why d b. tt) (λ q x y w reply why d b. b) (λ x y w count bytes d b. tt)
      (λ x y w bytes d b. tt) fault e (call_row-row given numbers request) narrow in
      (later.folder, λ e. no-file-blame (blame FileFault e), λ e. no-memory-blame (blame OutOfMemory e)) where
        no-file-blame : {X F I C : Type 0} {s s' : At X F I C Kept}
            → Blames stops (λ why x x'. ⊤) (λ why x x'. ⊥) (λ x x'. ⊤) (λ x x'. ⊤) FileFault s s' → ⊥
        no-file-blame (port_to why e b) = let no : ⊥ = cc in no
        no-file-blame (folder_to why e b) = b
        no-file-blame (input_to e b) = let no : ⊥ = cc in no
        no-file-blame (console_to e b) = let no : ⊥ = cc in no

        no-memory-blame : {X F I C : Type 0} {s s' : At X F I C Kept}
            → Blames stops (λ why x x'. ⊤) (λ why x x'. ⊥) (λ x x'. ⊤) (λ x x'. ⊤) OutOfMemory s s' → ⊥
        no-memory-blame (port_to why e b) = let no : ⊥ = cc in no
        no-memory-blame (folder_to why e b) = b
        no-memory-blame (input_to e b) = let no : ⊥ = cc in no
        no-memory-blame (console_to e b) = let no : ⊥ = cc in no
