-- The shape of a call's text, and what follows from it at every refusal.
use Rattle.std.specs.Prelude.{◌≡◌, ◌⊎◌, ⊤, ℕ, Bool, true, false, List, ◌++◌, take, drop, Option, Some, None, Result, Ok}
use Rattle.std.specs.Prelude.{Err, refl, if◌then◌else◌}
use Rattle.std.proofs.Common.{sym, subst, ap, ◌∙◌, inl, inr}
use Rattle.chunk_memory.specs.declared.stops.MemStop.{MemStop}
use Rattle.fe_base.specs.declared.outside.Failed.{Failed}
use Rattle.folder_tree.specs.declared.folder.FolderStop.{FolderStop}
use Rattle.folder_tree.specs.TreeOps.{Row}
use Rattle.folder_tree.specs.Tree.{Tree, files_of}
use Rattle.host_text.specs.Text.{Query, Reply, row_of, Kind, OpenFile, Create, Release, Size, ReadAt, WriteAt, SetSize}
use Rattle.host_text.specs.Text.{Remove, MakeDir, RemoveDir, Text, Done, Fail, Read, Write, Take, Put, Ask, Note, Look}
use Rattle.host_text.specs.Played.{Acts, At, Played, ended, failed, has_read, read_stopped, has_written, write_stopped}
use Rattle.host_text.specs.Played.{has_taken, take_stopped, has_put, put_stopped, has_asked, ask_stopped, noted, looked}

-- the faults of a host, by what was refused
pub record Stops (E : Type 0) : Type 0 where
  pub port : MemStop → E
  pub folder : FolderStop → E
  pub input : E
  pub console : E

-- what leaves the files of a tree as they are
abbrev pub is_quiet : Query → Bool
is_quiet (Kind path) = true
is_quiet (OpenFile path) = true
is_quiet (Create path) = false
is_quiet (Release number) = false
is_quiet (Size number) = true
is_quiet (ReadAt number at count) = true
is_quiet (WriteAt number at bytes) = false
is_quiet (SetSize number size) = false
is_quiet (Remove path) = false
is_quiet (MakeDir path) = false
is_quiet (RemoveDir path) = false

-- one of two, by a test
abbrev pub either : Bool → Type 0 → Type 0 → Type 0
either true P Q = P
either false P Q = Q

-- the answer behind the last write is one of these
abbrev pub EndsBy : {H A E : Type 0} → (A → Type 0) → Text H A E → Type 0
EndsBy answers (Done a) = answers a
EndsBy answers (Fail e) = ⊤
EndsBy answers (Read at count stop k) = ⊤
EndsBy answers (Write at bytes stop k) = EndsBy answers k
EndsBy answers (Take count stop k) = ⊤
EndsBy answers (Put bytes stop k) = ⊤
EndsBy answers (Ask q stop k) = ⊤
EndsBy answers (Note g k) = ⊤
EndsBy answers (Look k) = ⊤

module _ {H A E : Type 0} (z : Stops E) (marks : (H → H) → Type 0) (answers : A → Type 0) where
  -- only guest memory is still written, before an answer of these
  abbrev pub Ends : Text H A E → Type 0
  Ends (Done a) = Unit {0}
  Ends (Fail e) = ⊥
  Ends (Read at count stop k) = ⊥
  Ends (Write at bytes stop k) = (stop ≡ z.port) × Ends k × EndsBy answers k
  Ends (Take count stop k) = ⊥
  Ends (Put bytes stop k) = ⊥
  Ends (Ask q stop k) = ⊥
  Ends (Note g k) = ⊥
  Ends (Look k) = ⊥

  -- the call acts now: the host notes it, and then only guest memory is written
  abbrev pub Closes : Text H A E → Type 0
  Closes (Done a) = ⊥
  Closes (Fail e) = ⊥
  Closes (Read at count stop k) = ⊥
  Closes (Write at bytes stop k) = ⊥
  Closes (Take count stop k) = ⊥
  Closes (Put bytes stop k) = ⊥
  Closes (Ask q stop k) = ⊥
  Closes (Note g k) = marks g × Ends k
  Closes (Look k) = ⊥

  -- ranges are read and quiet calls are made; directly after the one call that changes something, or where the
  -- answer is decided, the call acts
  abbrev pub Shaped : Text H A E → Type 0
  Shaped (Done a) = ⊥
  Shaped (Fail e) = ⊥
  Shaped (Read at count stop k) = (stop ≡ z.port) × ((bytes : List ℕ) → Shaped (k bytes))
  Shaped (Write at bytes stop k) = ⊥
  Shaped (Take count stop k) = (stop ≡ z.input) × ((bytes : List ℕ) → Closes (k bytes))
  Shaped (Put bytes stop k) = (stop ≡ z.console) × Closes k
  Shaped (Ask q stop k) = (stop ≡ z.folder)
      × either (is_quiet q) ((reply : Reply q) → Shaped (k reply)) ((reply : Reply q) → Closes (k reply))
  Shaped (Note g k) = marks g × Ends k
  Shaped (Look k) = ⊥

module _ {X F I C H A E : Type 0} (o : Acts X F I C) (z : Stops E) (marks : (H → H) → Type 0) (answers : A → Type 0)
    (Quiet : F → F → Type 0)
    (still : (f : F) → Quiet f f)
    (joins : (f g h : F) → Quiet f g → Quiet g h → Quiet f h)
    (asks : (q : Query) (f f' : F) (r : Result (Reply q) FolderStop) → is_quiet q ≡ true → o.ask q f r f' → Quiet f f')
    (refuses : (q : Query) (f f' : F) (why : FolderStop) → o.ask q f (Err why) f' → Quiet f f')
    (Untaken : I → I → Type 0)
    (untaken : (i : I) → Untaken i i)
    (takes : (i i' : I) (count : ℕ) (why : Failed) → o.take i count (Err why) i' → Untaken i i')
    (Unput : C → C → Type 0)
    (unput : (c : C) → Unput c c)
    (puts : (c c' : C) (bytes : List ℕ) (why : Failed) → o.put c bytes (Err why) c' → Unput c c') where
  -- nothing that the host keeps or tells has changed
  pub record Unchanged (s s' : At X F I C H) : Type 0 where
    pub folder : Quiet s.folder s'.folder
    pub input : Untaken s.input s'.input
    pub console : Unput s.console s'.console
    pub kept : s'.kept ≡ s.kept

  -- the port refused a write of the guest after the call had acted
  pub record Acted (s s' : At X F I C H) (e : E) : Type 0 where
    pub port : (why : MemStop) × (e ≡ z.port why)
    pub marked : (g : H → H) × marks g × (s'.kept ≡ g s.kept)

  -- while only guest memory is written, a refusal is the port's and leaves all else
  ends-fault : {t : Text H A E} {s s' : At X F I C H} {r : Result A E} (e : E) → r ≡ Err e → Ends z marks answers t
      → Played o t s r s'
      → ((why : MemStop) × (e ≡ z.port why)) × (s'.kept ≡ s.kept)
  ends-fault e h shape (ended p same) = let no : ⊥ = cc in absurd no
  ends-fault e h shape (has_written d next) = ends-fault e h shape.1 next
  ends-fault e h shape (write_stopped {stop = stop} {why = why} d p same) =
      let here : e ≡ stop why = cc in
      ((why, here ∙ ap (λ f. f why) shape.0), ap (λ s. s.kept) same)
  ends-fault e h shape (failed _ _) = absurd shape
  ends-fault e h shape (has_read _ _) = absurd shape
  ends-fault e h shape (read_stopped _ _ _) = absurd shape
  ends-fault e h shape (has_taken _ _) = absurd shape
  ends-fault e h shape (take_stopped _ _ _) = absurd shape
  ends-fault e h shape (has_put _ _) = absurd shape
  ends-fault e h shape (put_stopped _ _ _) = absurd shape
  ends-fault e h shape (has_asked _ _) = absurd shape
  ends-fault e h shape (ask_stopped _ _ _) = absurd shape
  ends-fault e h shape (noted _ _) = absurd shape
  ends-fault e h shape (looked _) = absurd shape

  closes-fault : {t : Text H A E} {s s' : At X F I C H} {r : Result A E} (e : E) → r ≡ Err e → Closes z marks answers t
      → Played o t s r s' → Acted s s' e
  closes-fault e h shape (noted {g = g} n next) =
      let rest = ends-fault e h shape.1 next in
      record { port = rest.0; marked = (g, shape.0, rest.1 ∙ n) }
  closes-fault e h shape (ended _ _) = absurd shape
  closes-fault e h shape (failed _ _) = absurd shape
  closes-fault e h shape (has_read _ _) = absurd shape
  closes-fault e h shape (read_stopped _ _ _) = absurd shape
  closes-fault e h shape (has_written _ _) = absurd shape
  closes-fault e h shape (write_stopped _ _ _) = absurd shape
  closes-fault e h shape (has_taken _ _) = absurd shape
  closes-fault e h shape (take_stopped _ _ _) = absurd shape
  closes-fault e h shape (has_put _ _) = absurd shape
  closes-fault e h shape (put_stopped _ _ _) = absurd shape
  closes-fault e h shape (has_asked _ _) = absurd shape
  closes-fault e h shape (ask_stopped _ _ _) = absurd shape
  closes-fault e h shape (looked _) = absurd shape

  -- a refused call has changed nothing, or it had acted and the port refused a write of the guest
  pub shaped-fault : {t : Text H A E} {s s' : At X F I C H} {r : Result A E} (e : E) → r ≡ Err e
      → Shaped z marks answers t → Played o t s r s' → Unchanged s s' ⊎ Acted s s' e
  shaped-fault e h shape (has_read d next) = elim (shaped-fault e h (shape.1 _) next) [
    | inl u ↦ inl (record { folder = u.folder; input = u.input; console = u.console; kept = u.kept })
    | inr a ↦ inr (record { port = a.port; marked = a.marked })
  ]
  shaped-fault e h shape (read_stopped {s = s} d p same) =
      let P : At X F I C H → Type 0 = λ m. Unchanged s m in
      inl (subst P (sym same) (record { folder = still _; input = untaken _; console = unput _; kept = refl }))
  shaped-fault e h shape (has_taken d next) = let a =
      closes-fault e h (shape.1 _) next in inr (record { port = a.port; marked = a.marked })
  shaped-fault e h shape (take_stopped {count = count} {s = s} {i = i} {why = why} d p same) =
      let P : At X F I C H → Type 0 = λ m. Unchanged s m in
      inl (subst P (sym same) (record {
        folder = still _;
        input = takes s.input i count why d;
        console = unput _;
        kept = refl;
      }))
  shaped-fault e h shape (has_put d next) = let a =
      closes-fault e h shape.1 next in inr (record { port = a.port; marked = a.marked })
  shaped-fault e h shape (put_stopped {bytes = bytes} {s = s} {c = c} {why = why} d p same) =
      let P : At X F I C H → Type 0 = λ m. Unchanged s m in
      inl (subst P (sym same) (record {
        folder = still _;
        input = untaken _;
        console = puts s.console c bytes why d;
        kept = refl;
      }))
  shaped-fault e h shape (has_asked {q = q} {k = k} {s = s} {s' = s'} {f = f} {reply = reply} d next) =
      let there = record s { folder = f } in
      elim (is_quiet q) as (λ b. is_quiet q ≡ b
      → either b ((r : Reply q) → Shaped z marks answers (k r)) ((r : Reply q) → Closes z marks answers (k r))
      → Unchanged s s' ⊎ Acted s s' e) [
        | true ↦ λ quiet more. elim (shaped-fault e h (more reply) next) [
          | inl u ↦ inl (record {
            folder = joins _ _ _ (asks q s.folder f (Ok reply) quiet d) u.folder;
            input = u.input;
            console = u.console;
            kept = u.kept;
          })
          | inr a ↦ inr (record { port = a.port; marked = a.marked })
        ]
        | false ↦ λ loud more. let a = closes-fault e h (more reply) next in inr
            (record { port = a.port; marked = a.marked })
      ] refl shape.1
  shaped-fault e h shape (ask_stopped {q = q} {s = s} {f = f} {why = why} d p same) =
      let P : At X F I C H → Type 0 = λ m. Unchanged s m in
      inl (subst P (sym same) (record {
        folder = refuses q s.folder f why d;
        input = untaken _;
        console = unput _;
        kept = refl;
      }))
  shaped-fault e h shape (noted {g = g} n next) =
      let rest = ends-fault e h shape.1 next in
      inr (record { port = rest.0; marked = (g, shape.0, rest.1 ∙ n) })
  shaped-fault e h shape (ended _ _) = absurd shape
  shaped-fault e h shape (failed _ _) = absurd shape
  shaped-fault e h shape (has_written _ _) = absurd shape
  shaped-fault e h shape (write_stopped _ _ _) = absurd shape
  shaped-fault e h shape (looked _) = absurd shape
