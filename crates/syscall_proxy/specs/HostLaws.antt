-- What it says of a call that its row was followed: by the laws of texts, once for all rows.
use Rattle.std.specs.Prelude.{◌≡◌, ◌≤◌, ◌⊎◌, ℕ, Bool, true, false, cond, nat_lt, List, Option, Some, None, Result, Ok}
use Rattle.std.specs.Prelude.{Err, refl}
use Rattle.std.proofs.Common.{sym, ap, ◌∙◌, subst, inl, inr, arith}
use Rattle.chunk_memory.specs.declared.port.ChunkPort as port
use Rattle.chunk_memory.specs.declared.stops.MemStop.{MemStop}
use Rattle.fe_base.specs.Outside.{Rose}
use Rattle.fe_base.specs.declared.outside.Sink as sink
use Rattle.fe_base.specs.declared.outside.Source as source
use Rattle.folder_tree.specs.Answers.{AnsweredBy}
use Rattle.folder_tree.specs.Laws.{open_row-Keeps}
use Rattle.folder_tree.specs.Paths.{Parts}
use Rattle.folder_tree.specs.Tree.{Tree, kind_of, number_at, opens_of, IsWellFormed}
use Rattle.folder_tree.specs.TreeOps.{After, opened, open_number}
use Rattle.folder_tree.specs.declared.folder.Folder as folder
use Rattle.folder_tree.specs.declared.folder.FolderStop.{FolderStop}
use Rattle.folder_tree.specs.declared.folder.FolderStop.TheVariants.{Failed as Broken, NoMemory}
use Rattle.host_text.specs.Blames.{Blames, port_to, folder_to, input_to, console_to, shaped-blame}
use Rattle.host_text.specs.Causes.{Later, played-later}
use Rattle.host_text.specs.LeadLaws.{IsGood, Leaves, leads-end, leads-refused}
use Rattle.host_text.specs.Leads.{Leads}
use Rattle.host_text.specs.Outside.{HasCalled, acts}
use Rattle.host_text.specs.Played.{At, Played}
use Rattle.host_text.specs.RunLaws.{some-same}
use Rattle.host_text.specs.Shapes.{is_quiet, Unchanged, Acted, shaped-fault}
use Rattle.host_text.specs.Steady.{HasCalmly, calm_acts, calm-played}
use Rattle.host_text.specs.Told.{SameFiles, quiet-asks, refused-asks, joined-files}
use Rattle.host_text.specs.Text.{Query, Reply, row_of, Kind, OpenFile, Create, Release, Size, ReadAt, WriteAt, SetSize}
use Rattle.host_text.specs.Text.{Remove, MakeDir, RemoveDir}
use Rattle.host_text.specs.declared.open_numbers.Open.{Open}
use Rattle.syscall_proxy.specs.CallLaws.{call_row-row, call_row-leads}
use Rattle.syscall_proxy.specs.CallTable.{call_row}
use Rattle.syscall_proxy.specs.Kept.{Kept, Setting, kept}
use Rattle.syscall_proxy.specs.RowShapes.{stops, Marks, IsResult}
use Rattle.syscall_proxy.specs.Rows.{folder_fault}
use Rattle.syscall_proxy.specs.WorldLaws.{opens_of-opened-at}
use Rattle.syscall_proxy.specs.Worlds.{IsWorldOf, IsSmall, EndsWell}
use Rattle.syscall_proxy.specs.declared.answers.CallAnswer.{CallAnswer}
use Rattle.syscall_proxy.specs.declared.answers.CallFault.{CallFault}
use Rattle.syscall_proxy.specs.declared.answers.CallFault.TheVariants.{Port, FileFault, InputFault, ConsoleFault}
use Rattle.syscall_proxy.specs.declared.answers.CallFault.TheVariants.{OutOfMemory}

-- ---- quiet calls in a world

opened-world : (numbers : List Open) (t : Tree) (number : ℕ) → IsWorldOf numbers t → IsWellFormed (opened t number)
    → IsWorldOf numbers (opened t number)
opened-world numbers t number w well = record {
  size = w.size;
  tree = well;
  opens = λ n. let a = w.opens n in let b = opens_of-opened-at t number n in omega (arith, a, b);
}

found-world : (numbers : List Open) (t : Tree) (path : Parts) (found : Option ℕ) (after : After ℕ) → number_at t path
    ≡ found → open_number t found ≡ Some after → IsWorldOf numbers t → IsWorldOf numbers after.tree
found-world numbers t path None after is e w = let no : ⊥ = cc in absurd no
found-world numbers t path (Some number) after is e w =
    let same : record { answer = number; tree = opened t number } ≡ after = some-same e in
    let well = open_row-Keeps path t number (opened t number) w.tree (ap (open_number t) is) in
    let Q : After ℕ → Type 0 = λ a. IsWorldOf numbers a.tree in
    subst Q same (opened-world numbers t number w well)

same-world : {A : Type 0} (b : Bool) (numbers : List Open) (t : Tree) (answer : A) (after : After A)
    → cond {A = Option (After A)} b (Some (record { answer = answer; tree = t })) None ≡ Some after
    → IsWorldOf numbers t → IsWorldOf numbers after.tree
same-world {A} true numbers t answer after e w = let Q : After A → Type 0 =
    λ a. IsWorldOf numbers a.tree in subst Q (some-same e) w
same-world false numbers t answer after e w = let no : ⊥ = cc in absurd no

-- a quiet call leaves a world
quiet-world : (q : Query) (t : Tree) (after : After (Reply q)) → is_quiet q ≡ true → row_of q t ≡ Some after
    → (numbers : List Open) → IsWorldOf numbers t → IsWorldOf numbers after.tree
quiet-world (Kind path) t after quiet e numbers w = same-world true numbers t (kind_of t path) after e w
quiet-world (OpenFile path) t after quiet e numbers w = found-world numbers t path (number_at t path) after refl e w
quiet-world (Create path) t after quiet e numbers w = let no : ⊥ = cc in absurd no
quiet-world (Release number) t after quiet e numbers w = let no : ⊥ = cc in absurd no
quiet-world (Size number) t after quiet e numbers w = same-world (nat_lt 0 (opens_of t number)) numbers t _ after e w
quiet-world (ReadAt number at count) t after quiet e numbers w =
    same-world (nat_lt 0 (opens_of t number)) numbers t _ after e w
quiet-world (WriteAt number at bytes) t after quiet e numbers w = let no : ⊥ = cc in absurd no
quiet-world (SetSize number size) t after quiet e numbers w = let no : ⊥ = cc in absurd no
quiet-world (Remove path) t after quiet e numbers w = let no : ⊥ = cc in absurd no
quiet-world (MakeDir path) t after quiet e numbers w = let no : ⊥ = cc in absurd no
quiet-world (RemoveDir path) t after quiet e numbers w = let no : ⊥ = cc in absurd no

refused-tree : {A : Type 0} (t : Tree) (after : Option Tree) (row : Option (After A)) (why : FolderStop)
    → AnsweredBy t after row (Err why) → after ≡ Some t
refused-tree t after row Broken h = h
refused-tree t after row NoMemory h = h.1

-- ---- what a refused call leaves

-- the told input stays
abbrev pub SameInput : {I : Type 0} → source.Ghosts I → I → I → Type 0
SameInput i x x' = (left : List ℕ) → i.left x ≡ Some left → i.left x' ≡ Some left

-- the told console stays
abbrev pub SameConsole : {C : Type 0} → sink.Ghosts C → C → C → Type 0
SameConsole c x x' = (held : List ℕ) → c.held x ≡ Some held → c.held x' ≡ Some held

-- the call has changed nothing that is told or kept: of a told tree, no file
pub record Unmoved {P F I C : Type 0} (f : folder.Ghosts F) (i : source.Ghosts I) (c : sink.Ghosts C)
    (s s' : At P F I C Kept) : Type 0 where
  pub folder : SameFiles f s.folder s'.folder
  pub input : SameInput i s.input s'.input
  pub console : SameConsole c s.console s'.console
  pub kept : s'.kept ≡ s.kept

-- the call had acted when the port refused a write of the guest
pub record Late {P F I C : Type 0} (s s' : At P F I C Kept) (fault : CallFault) : Type 0 where
  pub port : (why : MemStop) × (fault ≡ Port why)
  pub acted : s'.kept.acted ≡ true

-- a count that has risen later has risen
rose-before : (a b now : ℕ) → a ≤ b → Rose b now → Rose a now
rose-before a b now h r = omega arith

-- the count that goes with a folder's refusal has risen
pub record FolderRose {F : Type 0} (f : folder.Ghosts F) (why : FolderStop) (x x' : F) : Type 0 where
  pub failed : why ≡ Broken → Rose (f.faults x) (f.faults x')
  pub no_memory : why ≡ NoMemory → Rose (f.short x) (f.short x')

-- the counts of the objects never fall
pub record NeverFell {P F I C : Type 0} (p : port.Ghosts P) (f : folder.Ghosts F) (i : source.Ghosts I)
    (c : sink.Ghosts C) (s s' : At P F I C Kept) : Type 0 where
  pub left : (p.counts s'.port).left ≤ (p.counts s.port).left
  pub port : (p.counts s.port).faults ≤ (p.counts s'.port).faults
  pub folder : f.faults s.folder ≤ f.faults s'.folder
  pub short : f.short s.folder ≤ f.short s'.folder
  pub input : i.faults s.input ≤ i.faults s'.input
  pub console : c.faults s.console ≤ c.faults s'.console

module _ {P F I C : Type 0} (p : port.Ghosts P) (f : folder.Ghosts F) (i : source.Ghosts I) (c : sink.Ghosts C) where
  -- a call that was not carried out left all as it was, or had acted
  pub call-fault : {s s' : At P F I C Kept} {r : Result CallAnswer CallFault} (given : Setting) (numbers : List Open)
      (request : List ℕ) (fault : CallFault) → r ≡ Err fault
      → Played (acts p f i c) (call_row given numbers request) s r s' → Unmoved f i c s s' ⊎ Late s s' fault
  call-fault {s = s} {s' = s'} given numbers request fault e played =
      elim (shaped-fault (acts p f i c) stops Marks IsResult (SameFiles f) (λ x t told. (t, told, refl))
      (joined-files f) (λ q x x' r quiet d. quiet-asks f q x x' r quiet d) (λ q x x' why d. refused-asks f q x x' why d)
      (SameInput i) (λ x left told. told) (λ x x' count why d left told. d.bytes left told)
      (SameConsole c) (λ x held told. told) (λ x x' bytes why d held told. d.bytes held told) fault e
      (call_row-row given numbers request) played) [
        | inl u ↦ inl (record { folder = u.folder; input = u.input; console = u.console; kept = u.kept })
        | inr a ↦ inr (record {
          port = a.port;
          acted = ap (λ (k : Kept). k.acted) a.marked.2 ∙ a.marked.1.acted s.kept;
        })
      ]

  -- which object a fault blames, and that its count rose
  abbrev pub CallBlames : CallFault → At P F I C Kept → At P F I C Kept → Type 0
  CallBlames fault s s' = Blames stops (λ why x x'. Unit {0}) (FolderRose f) (λ x x'. Rose (i.faults x) (i.faults x'))
      (λ x x'. Rose (c.faults x) (c.faults x')) fault s s'

  pub call-blames : {s s' : At P F I C Kept} {r : Result CallAnswer CallFault} (given : Setting) (numbers : List Open)
      (request : List ℕ) (fault : CallFault) → r ≡ Err fault
      → Played (acts p f i c) (call_row given numbers request) s r s' → CallBlames fault s s'
  call-blames given numbers request fault e played =
      shaped-blame (acts p f i c) stops Marks IsResult (λ why x x'. Unit {0}) (FolderRose f)
      (λ x x'. Rose (i.faults x) (i.faults x')) (λ x x'. Rose (c.faults x) (c.faults x'))
      (λ x y at count why d. tt) (λ x y at bytes why d. tt)
      (λ q x y why d. record { failed = λ h. d.cause.failed (ap Err h); no_memory = λ h. d.cause.no_memory (ap Err h) })
      (λ x y count why d. d.cause.failed) (λ x y bytes why d. d.cause.failed)
      (λ x y w at count bytes why d b. tt) (λ x y w at bytes why d b. tt)
      (λ q x y w reply why d b. record {
        failed = λ h. rose-before (f.faults x) (f.faults y)
            (f.faults w) d.cause.faults_later (b.failed h);
        no_memory =
            λ h. rose-before (f.short x) (f.short y) (f.short w) d.cause.short_later (b.no_memory h);
      })
      (λ x y w count bytes d b. rose-before (i.faults x) (i.faults y) (i.faults w) d.cause.later b)
      (λ x y w bytes d b. rose-before (c.faults x) (c.faults y) (c.faults w) d.cause.later b)
      fault e (call_row-row given numbers request) played

  broken : (why : FolderStop) → FileFault ≡ folder_fault why → why ≡ Broken
  broken Broken e = refl
  broken NoMemory e = cc

  wanting : (why : FolderStop) → OutOfMemory ≡ folder_fault why → why ≡ NoMemory
  wanting Broken e = cc
  wanting NoMemory e = refl

  no_input : (why : FolderStop) → InputFault ≡ folder_fault why → ⊥
  no_input Broken e = cc
  no_input NoMemory e = cc

  no_console : (why : FolderStop) → ConsoleFault ≡ folder_fault why → ⊥
  no_console Broken e = cc
  no_console NoMemory e = cc

  -- FileFault comes only where the folder's count of faults rose
  pub blames-file : {s s' : At P F I C Kept} → CallBlames FileFault s s' → Rose (f.faults s.folder) (f.faults s'.folder)
  blames-file (port_to why e b) = let no : ⊥ = cc in absurd no
  blames-file (folder_to why e b) = b.failed (broken why e)
  blames-file (input_to e b) = let no : ⊥ = cc in absurd no
  blames-file (console_to e b) = let no : ⊥ = cc in absurd no

  -- OutOfMemory comes only where its count of want of memory rose
  pub blames-memory : {s s' : At P F I C Kept} → CallBlames OutOfMemory s s'
      → Rose (f.short s.folder) (f.short s'.folder)
  blames-memory (port_to why e b) = let no : ⊥ = cc in absurd no
  blames-memory (folder_to why e b) = b.no_memory (wanting why e)
  blames-memory (input_to e b) = let no : ⊥ = cc in absurd no
  blames-memory (console_to e b) = let no : ⊥ = cc in absurd no

  -- InputFault comes only where the input's count rose
  pub blames-input : {s s' : At P F I C Kept} → CallBlames InputFault s s' → Rose (i.faults s.input) (i.faults s'.input)
  blames-input (port_to why e b) = let no : ⊥ = cc in absurd no
  blames-input (folder_to why e b) = absurd (no_input why e)
  blames-input (input_to e b) = b
  blames-input (console_to e b) = let no : ⊥ = cc in absurd no

  -- ConsoleFault comes only where the console's count rose
  pub blames-console : {s s' : At P F I C Kept} → CallBlames ConsoleFault s s'
      → Rose (c.faults s.console) (c.faults s'.console)
  blames-console (port_to why e b) = let no : ⊥ = cc in absurd no
  blames-console (folder_to why e b) = absurd (no_console why e)
  blames-console (input_to e b) = let no : ⊥ = cc in absurd no
  blames-console (console_to e b) = b

  -- ---- the world

  asked : (x x' : F) (t : Tree) (q : Query) (reply : Reply q) → f.tree x ≡ Some t
      → HasCalled f x x' q (Ok reply) → (now : Tree)
      × (row_of q t ≡ Some (record { answer = reply; tree = now })) × (f.tree x' ≡ Some now)
  asked x x' t q reply told d = let h = d.tree t told in (h.0, h.1, h.2)

  -- a call that was carried out in a world leads to one, and its answer is small
  pub call-ends : {s s' : At P F I C Kept} {r : Result CallAnswer CallFault} (given : Setting) (numbers : List Open)
      (waiting : List ℕ) (request : List ℕ) (answer : CallAnswer) (t : Tree) → r ≡ Ok answer
      → s.kept ≡ kept numbers false waiting → f.tree s.folder ≡ Some t → IsWorldOf numbers t
      → Played (acts p f i c) (call_row given numbers request) s r s'
      → (now : Tree) × (f.tree s'.folder ≡ Some now) × IsSmall answer × IsWorldOf s'.kept.numbers now
  call-ends {s = s} given numbers waiting request answer t e is told world played =
      let Q : Kept → Type 0 = λ k. Leads EndsWell (call_row given numbers request) t k in
      let end = leads-end (acts p f i c) (λ x tree. f.tree x ≡ Some tree) EndsWell (λ x x' at count bytes d. d.bytes)
      (λ x x' count bytes d. d.bound) asked
      (λ x x' tree q why is d. refused-tree tree (f.tree x') (row_of q tree) why (d.tree tree is))
      answer t e told (subst Q (sym is) (call_row-leads given numbers request t false waiting world)) played in
      (end.0, end.1, end.2.0, end.2.1)

  -- as it leaves what a world needs of a tree
  abbrev Kinder : Tree → Tree → Type 0
  Kinder t u = (numbers : List Open) → IsWorldOf numbers t → IsWorldOf numbers u

  -- whatever a call comes to, what was a world is one afterwards
  pub call-world : {s s' : At P F I C Kept} {r : Result CallAnswer CallFault} (given : Setting) (numbers : List Open)
      (waiting : List ℕ) (request : List ℕ) (t : Tree)
      → s.kept ≡ kept numbers false waiting → f.tree s.folder ≡ Some t → IsWorldOf numbers t
      → Played (acts p f i c) (call_row given numbers request) s r s'
      → (now : Tree) × (f.tree s'.folder ≡ Some now) × IsWorldOf s'.kept.numbers now
  call-world {s = s} {s' = s'} {r = Ok answer} given numbers waiting request t is told world played =
      let end = call-ends given numbers waiting request answer t refl is told world played in (end.0, end.1, end.3)
  call-world {s = s} {s' = s'} {r = Err fault} given numbers waiting request t is told world played =
      let Q : Kept → Type 0 = λ k. Leads EndsWell (call_row given numbers request) t k in
      let end = leads-refused (acts p f i c) (λ x tree. f.tree x ≡ Some tree) EndsWell
      (λ x x' at count bytes d. d.bytes) (λ x x' count bytes d. d.bound) asked
      (λ x x' tree q why is d. refused-tree tree (f.tree x') (row_of q tree) why (d.tree tree is))
      stops Marks IsResult Kinder (λ tree numbers v. v) (λ a b d f g numbers v. g numbers (f numbers v))
      (λ q tree after silent e numbers v. quiet-world q tree after silent e numbers v)
      fault t refl told (call_row-row given numbers request)
      (subst Q (sym is) (call_row-leads given numbers request t false waiting world)) played in
      elim end as (λ _. (now : Tree) × (f.tree s'.folder ≡ Some now) × IsWorldOf s'.kept.numbers now) [
        | inl b ↦ let N : Kept → Type 0 =
            λ k. IsWorldOf k.numbers b.0 in (b.0, b.2, subst N (sym (b.3 ∙ is)) (b.1 numbers world))
        | inr g ↦ (g.1.0, g.1.1, g.1.2.1)
      ]

  -- over a steady folder in a world, the folder does not fail and raises no fault, and it is steady afterwards
  pub call-steady : {s s' : At P F I C Kept} {r : Result CallAnswer CallFault} (given : Setting) (numbers : List Open)
      (waiting : List ℕ) (request : List ℕ) (t : Tree)
      → s.kept ≡ kept numbers false waiting → f.tree s.folder ≡ Some t → IsWorldOf numbers t → f.steady s.folder
      → Played (acts p f i c) (call_row given numbers request) s r s'
      → (r ≡ Err FileFault → ⊥) × (f.faults s'.folder ≡ f.faults s.folder) × f.steady s'.folder
  call-steady {s = s} {s' = s'} {r = r} given numbers waiting request t is told world steady played =
      let Q : Kept → Type 0 = λ k. Leads EndsWell (call_row given numbers request) t k in
      let calm = calm-played p f i c EndsWell t told steady
      (subst Q (sym is) (call_row-leads given numbers request t false waiting world)) played in
      let later = played-later (calm_acts p f i c) (λ x x'. Unit {0})
      (λ x x'. (f.faults x' ≡ f.faults x) × (f.steady x → f.steady x')) (λ x x'. Unit {0}) (λ x x'. Unit {0})
      (λ x. tt) (λ x. (refl, λ h. h)) (λ x. tt) (λ x. tt) (λ x y w a b. tt)
      (λ x y w a b. (b.0 ∙ a.0, λ h. b.1 (a.1 h))) (λ x y w a b. tt) (λ x y w a b. tt)
      (λ x y at count q d. tt) (λ x y at bytes q d. tt) (λ q x y q' d. (d.same, λ h. d.steady)) (λ x y count q d. tt)
      (λ x y bytes q d. tt) calm in
      let blame = λ (e : r ≡ Err FileFault). shaped-blame (calm_acts p f i c) stops Marks IsResult
      (λ why x x'. Unit {0}) (λ why x x'. why ≡ Broken → ⊥) (λ x x'. Unit {0}) (λ x x'. Unit {0})
      (λ x y at count why d. tt) (λ x y at bytes why d. tt) (λ q x y why d same. d.not_failed (ap Err same))
      (λ x y count why d. tt) (λ x y bytes why d. tt)
      (λ x y w at count bytes why d b. tt) (λ x y w at bytes why d b. tt) (λ q x y w reply why d b. b)
      (λ x y w count bytes d b. tt) (λ x y w bytes d b. tt)
      FileFault e (call_row-row given numbers request) calm in
      (λ e. never (blame e), later.folder.0, later.folder.1 steady) where
        never : {X F I C : Type 0} {s s' : At X F I C Kept}
            → Blames stops (λ why x x'. Unit {0}) (λ why x x'. why ≡ Broken → ⊥) (λ x x'. Unit {0})
            (λ x x'. Unit {0}) FileFault s s' → ⊥
        never (port_to why e b) = let no : ⊥ = cc in no
        never (folder_to Broken e b) = b refl
        never (folder_to NoMemory e b) = let no : ⊥ = cc in no
        never (input_to e b) = let no : ⊥ = cc in no
        never (console_to e b) = let no : ⊥ = cc in no

  -- no count falls
  pub call-counts : {s s' : At P F I C Kept} {r : Result CallAnswer CallFault} (given : Setting) (numbers : List Open)
      (request : List ℕ) → Played (acts p f i c) (call_row given numbers request) s r s' → NeverFell p f i c s s'
  call-counts given numbers request played =
      let later = played-later (acts p f i c)
      (λ x x'. ((p.counts x').left ≤ (p.counts x).left) × ((p.counts x).faults ≤ (p.counts x').faults))
      (λ x x'. (f.faults x ≤ f.faults x') × (f.short x ≤ f.short x')) (λ x x'. i.faults x ≤ i.faults x')
      (λ x x'. c.faults x ≤ c.faults x')
      (λ x. (omega arith, omega arith)) (λ x. (omega arith, omega arith)) (λ x. omega arith) (λ x. omega arith)
      (λ x y w a b. (
        let d = a.0 in let e = b.0 in omega (arith, d, e),
        let d = a.1 in let e = b.1 in omega (arith, d, e),
      ))
      (λ x y w a b. (
        let d = a.0 in let e = b.0 in omega (arith, d, e),
        let d = a.1 in let e = b.1 in omega (arith, d, e),
      ))
      (λ x y w a b. omega (arith, a, b)) (λ x y w a b. omega (arith, a, b))
      (λ x y at count q d. (d.causes.fewer, d.causes.later)) (λ x y at bytes q d. (d.causes.fewer, d.causes.later))
      (λ q x y q' d. (d.cause.faults_later, d.cause.short_later)) (λ x y count q d. d.cause.later)
      (λ x y bytes q d. d.cause.later) played in
      record {
        left = later.port.0;
        port = later.port.1;
        folder = later.folder.0;
        short = later.folder.1;
        input = later.input;
        console = later.console;
      }
