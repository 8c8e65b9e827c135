-- What a fault of a shaped text tells of the object that it blames.
use Rattle.std.specs.Prelude.{◌≡◌, ◌⊎◌, ℕ, Bool, true, false, List, Result, Ok, Err, refl}
use Rattle.std.proofs.Common.{sym, subst, ap, ◌∙◌}
use Rattle.chunk_memory.specs.declared.stops.MemStop.{MemStop}
use Rattle.fe_base.specs.declared.outside.Failed.{Failed}
use Rattle.folder_tree.specs.declared.folder.FolderStop.{FolderStop}
use Rattle.host_text.specs.Text.{Query, Reply, Text, Done, Fail, Read, Write, Take, Put, Ask, Note, Look}
use Rattle.host_text.specs.Played.{Acts, At, Played, ended, failed, has_read, read_stopped, has_written, write_stopped}
use Rattle.host_text.specs.Played.{has_taken, take_stopped, has_put, put_stopped, has_asked, ask_stopped, noted, looked}
use Rattle.host_text.specs.Shapes.{Stops, is_quiet, either, Ends, Closes, Shaped}

-- a fault is that of one of the four, which is to blame
pub data Blames {X F I C H E : Type 0} (z : Stops E) (PortTo : MemStop → X → X → Type 0)
    (FolderTo : FolderStop → F → F → Type 0) (InputTo : I → I → Type 0) (ConsoleTo : C → C → Type 0) : E → At X F I C H
    → At X F I C H → Type 0 where
  port_to : {e : E} {s s' : At X F I C H} (why : MemStop) → e ≡ z.port why → PortTo why s.port s'.port
      → Blames z PortTo FolderTo InputTo ConsoleTo e s s'
  folder_to : {e : E} {s s' : At X F I C H} (why : FolderStop) → e ≡ z.folder why → FolderTo why s.folder s'.folder
      → Blames z PortTo FolderTo InputTo ConsoleTo e s s'
  input_to : {e : E} {s s' : At X F I C H} → e ≡ z.input → InputTo s.input s'.input
      → Blames z PortTo FolderTo InputTo ConsoleTo e s s'
  console_to : {e : E} {s s' : At X F I C H} → e ≡ z.console → ConsoleTo s.console s'.console
      → Blames z PortTo FolderTo InputTo ConsoleTo e s s'

module _ {X F I C H A E : Type 0} (o : Acts X F I C) (z : Stops E) (marks : (H → H) → Type 0) (answers : A → Type 0)
    (PortTo : MemStop → X → X → Type 0) (FolderTo : FolderStop → F → F → Type 0) (InputTo : I → I → Type 0)
    (ConsoleTo : C → C → Type 0)
    (reads : (x y : X) (at count : ℕ) (why : MemStop) → o.read x at count (Err why) y → PortTo why x y)
    (writes : (x y : X) (at : ℕ) (bytes : List ℕ) (why : MemStop) → o.write x at bytes (Err why) y → PortTo why x y)
    (asks : (q : Query) (x y : F) (why : FolderStop) → o.ask q x (Err why) y → FolderTo why x y)
    (takes : (x y : I) (count : ℕ) (why : Failed) → o.take x count (Err why) y → InputTo x y)
    (puts : (x y : C) (bytes : List ℕ) (why : Failed) → o.put x bytes (Err why) y → ConsoleTo x y)
    (read_before : (x y w : X) (at count : ℕ) (bytes : List ℕ) (why : MemStop) → o.read x at count (Ok bytes) y
    → PortTo why y w → PortTo why x w)
    (write_before : (x y w : X) (at : ℕ) (bytes : List ℕ) (why : MemStop) → o.write x at bytes (Ok tt) y
    → PortTo why y w → PortTo why x w)
    (ask_before : (q : Query) (x y w : F) (reply : Reply q) (why : FolderStop) → o.ask q x (Ok reply) y
    → FolderTo why y w → FolderTo why x w)
    (take_before : (x y w : I) (count : ℕ) (bytes : List ℕ) → o.take x count (Ok bytes) y → InputTo y w → InputTo x w)
    (put_before : (x y w : C) (bytes : List ℕ) → o.put x bytes (Ok tt) y → ConsoleTo y w → ConsoleTo x w) where
  abbrev pub Blame : E → At X F I C H → At X F I C H → Type 0
  Blame e s s' = Blames z PortTo FolderTo InputTo ConsoleTo e s s'

  moved-port : (s : At X F I C H) (x : X) (s' : At X F I C H) (e : E)
      → ((why : MemStop) → PortTo why x s'.port → PortTo why s.port s'.port) → Blame e (record s { port = x }) s'
      → Blame e s s'
  moved-port s x s' e f (port_to why h b) = port_to why h (f why b)
  moved-port s x s' e f (folder_to why h b) = folder_to why h b
  moved-port s x s' e f (input_to h b) = input_to h b
  moved-port s x s' e f (console_to h b) = console_to h b

  moved-folder : (s : At X F I C H) (x : F) (s' : At X F I C H) (e : E)
      → ((why : FolderStop) → FolderTo why x s'.folder → FolderTo why s.folder s'.folder)
      → Blame e (record s { folder = x }) s' → Blame e s s'
  moved-folder s x s' e f (port_to why h b) = port_to why h b
  moved-folder s x s' e f (folder_to why h b) = folder_to why h (f why b)
  moved-folder s x s' e f (input_to h b) = input_to h b
  moved-folder s x s' e f (console_to h b) = console_to h b

  moved-input : (s : At X F I C H) (x : I) (s' : At X F I C H) (e : E)
      → (InputTo x s'.input → InputTo s.input s'.input) → Blame e (record s { input = x }) s' → Blame e s s'
  moved-input s x s' e f (port_to why h b) = port_to why h b
  moved-input s x s' e f (folder_to why h b) = folder_to why h b
  moved-input s x s' e f (input_to h b) = input_to h (f b)
  moved-input s x s' e f (console_to h b) = console_to h b

  moved-console : (s : At X F I C H) (x : C) (s' : At X F I C H) (e : E)
      → (ConsoleTo x s'.console → ConsoleTo s.console s'.console) → Blame e (record s { console = x }) s' → Blame e s s'
  moved-console s x s' e f (port_to why h b) = port_to why h b
  moved-console s x s' e f (folder_to why h b) = folder_to why h b
  moved-console s x s' e f (input_to h b) = input_to h b
  moved-console s x s' e f (console_to h b) = console_to h (f b)

  moved-kept : (s : At X F I C H) (k : H) (s' : At X F I C H) (e : E) → Blame e (record s { kept = k }) s'
      → Blame e s s'
  moved-kept s k s' e (port_to why h b) = port_to why h b
  moved-kept s k s' e (folder_to why h b) = folder_to why h b
  moved-kept s k s' e (input_to h b) = input_to h b
  moved-kept s k s' e (console_to h b) = console_to h b

  ends-blame : {t : Text H A E} {s s' : At X F I C H} {r : Result A E} (e : E) → r ≡ Err e → Ends z marks answers t
      → Played o t s r s' → Blame e s s'
  ends-blame e h shape (ended p same) = let no : ⊥ = cc in absurd no
  ends-blame e h shape (failed _ _) = absurd shape
  ends-blame e h shape (has_read _ _) = absurd shape
  ends-blame e h shape (read_stopped _ _ _) = absurd shape
  ends-blame e h shape (has_written {place = at} {bytes = bytes} {s = s} {s' = s'} {x = x} d next) =
      moved-port s x s' e (λ why b. write_before s.port x s'.port at bytes why d b) (ends-blame e h shape.1 next)
  ends-blame e h shape (write_stopped {place = at} {bytes = bytes} {stop = stop} {s = s} {x = x} {why = why} d p same) =
      let here : e ≡ stop why = cc in let P : At X F I C H → Type 0 =
      λ m. Blame e s m in subst P (sym same)
      (port_to why (here ∙ ap (λ g. g why) shape.0) (writes s.port x at bytes why d))
  ends-blame e h shape (has_taken _ _) = absurd shape
  ends-blame e h shape (take_stopped _ _ _) = absurd shape
  ends-blame e h shape (has_put _ _) = absurd shape
  ends-blame e h shape (put_stopped _ _ _) = absurd shape
  ends-blame e h shape (has_asked _ _) = absurd shape
  ends-blame e h shape (ask_stopped _ _ _) = absurd shape
  ends-blame e h shape (noted _ _) = absurd shape
  ends-blame e h shape (looked _) = absurd shape

  closes-blame : {t : Text H A E} {s s' : At X F I C H} {r : Result A E} (e : E) → r ≡ Err e → Closes z marks answers t
      → Played o t s r s' → Blame e s s'
  closes-blame e h shape (ended _ _) = absurd shape
  closes-blame e h shape (failed _ _) = absurd shape
  closes-blame e h shape (has_read _ _) = absurd shape
  closes-blame e h shape (read_stopped _ _ _) = absurd shape
  closes-blame e h shape (has_written _ _) = absurd shape
  closes-blame e h shape (write_stopped _ _ _) = absurd shape
  closes-blame e h shape (has_taken _ _) = absurd shape
  closes-blame e h shape (take_stopped _ _ _) = absurd shape
  closes-blame e h shape (has_put _ _) = absurd shape
  closes-blame e h shape (put_stopped _ _ _) = absurd shape
  closes-blame e h shape (has_asked _ _) = absurd shape
  closes-blame e h shape (ask_stopped _ _ _) = absurd shape
  closes-blame e h shape (noted {s = s} {s' = s'} {h = k} n next) = moved-kept s k s' e (ends-blame e h shape.1 next)
  closes-blame e h shape (looked _) = absurd shape

  -- a fault of a shaped text blames the object that refused, over the whole call
  pub shaped-blame : {t : Text H A E} {s s' : At X F I C H} {r : Result A E} (e : E) → r ≡ Err e
      → Shaped z marks answers t → Played o t s r s' → Blame e s s'
  shaped-blame e h shape (ended _ _) = absurd shape
  shaped-blame e h shape (failed _ _) = absurd shape
  shaped-blame e h shape (has_read {place = at} {count = count} {s = s} {s' = s'} {x = x} {bytes = bytes} d next) =
      moved-port s x s' e (λ why b. read_before s.port x s'.port at count bytes why d b)
      (shaped-blame e h (shape.1 bytes) next)
  shaped-blame e h shape (read_stopped {place = at} {count = count} {stop = stop} {s = s} {x = x} {why = why} d p same)
      =
      let here : e ≡ stop why = cc in let P : At X F I C H → Type 0 =
      λ m. Blame e s m in subst P (sym same)
      (port_to why (here ∙ ap (λ g. g why) shape.0) (reads s.port x at count why d))
  shaped-blame e h shape (has_written _ _) = absurd shape
  shaped-blame e h shape (write_stopped _ _ _) = absurd shape
  shaped-blame e h shape (has_taken {count = count} {s = s} {s' = s'} {i = x} {bytes = bytes} d next) =
      moved-input s x s' e (λ b. take_before s.input x s'.input count bytes d b) (closes-blame e h (shape.1 bytes) next)
  shaped-blame e h shape (take_stopped {count = count} {stop = stop} {s = s} {i = x} {why = why} d p same) =
      let here : e ≡ stop = cc in let P : At X F I C H → Type 0 =
      λ m. Blame e s m in subst P (sym same) (input_to (here ∙ shape.0) (takes s.input x count why d))
  shaped-blame e h shape (has_put {bytes = bytes} {s = s} {s' = s'} {c = x} d next) =
      moved-console s x s' e (λ b. put_before s.console x s'.console bytes d b) (closes-blame e h shape.1 next)
  shaped-blame e h shape (put_stopped {bytes = bytes} {stop = stop} {s = s} {c = x} {why = why} d p same) =
      let here : e ≡ stop = cc in let P : At X F I C H → Type 0 =
      λ m. Blame e s m in subst P (sym same) (console_to (here ∙ shape.0) (puts s.console x bytes why d))
  shaped-blame e h shape (has_asked {q = q} {k = k} {s = s} {s' = s'} {f = x} {reply = reply} d next) =
      moved-folder s x s' e (λ why b. ask_before q s.folder x s'.folder reply why d b)
      (elim (is_quiet q) as (λ b. either b ((a : Reply q) → Shaped z marks answers (k a))
      ((a : Reply q) → Closes z marks answers (k a))
      → Blame e (record s { folder = x }) s') [
        | true ↦ λ more. shaped-blame e h
            (more reply) next
        | false ↦ λ more. closes-blame e h (more reply) next
      ] shape.1)
  shaped-blame e h shape (ask_stopped {q = q} {stop = stop} {s = s} {f = x} {why = why} d p same) =
      let here : e ≡ stop why = cc in let P : At X F I C H → Type 0 =
      λ m. Blame e s m in subst P (sym same)
      (folder_to why (here ∙ ap (λ g. g why) shape.0) (asks q s.folder x why d))
  shaped-blame e h shape (noted {s = s} {s' = s'} {h = k} n next) = moved-kept s k s' e (ends-blame e h shape.1 next)
  shaped-blame e h shape (looked _) = absurd shape
