-- Which calls a text makes: what it takes from the input, puts on the console and asks of the folder.
use Rattle.std.specs.Prelude.{◌≡◌, ◌≤◌, ◌-◌, ⊤, ℕ, Bool, true, false, List, length, Option, Some, None, Result, Ok, Err}
use Rattle.std.specs.Prelude.{refl}
use Rattle.std.proofs.Common.{sym, subst, ap, ◌∙◌}
use Rattle.chunk_memory.specs.declared.port.ChunkPort as port
use Rattle.fe_base.specs.Outside.{PutSuits, PutsInto}
use Rattle.fe_base.specs.declared.outside.Failed.{Failed}
use Rattle.fe_base.specs.declared.outside.Source as source
use Rattle.fe_base.specs.declared.outside.Sink as sink
use Rattle.folder_tree.specs.declared.folder.Folder as folder
use Rattle.folder_tree.specs.Paths.{Parts}
use Rattle.folder_tree.specs.declared.folder.FolderStop.{FolderStop}
use Rattle.host_text.specs.Text.{Query, Reply, row_of, Text, Done, Fail, Read, Write, Take, Put, Ask, Note, Look}
use Rattle.host_text.specs.Played.{Acts, At, Played, ended, failed, has_read, read_stopped, has_written, write_stopped}
use Rattle.host_text.specs.Played.{has_taken, take_stopped, has_put, put_stopped, has_asked, ask_stopped, noted, looked}
use Rattle.host_text.specs.Outside.{HasRead, HasWritten, HasCalled, HasTaken, HasPut, acts}
use Rattle.host_text.specs.Openings.{opens_at, by_path, ActsNext, OpensLast}
use Rattle.host_text.specs.Shapes.{Stops, is_quiet, either, Ends, Closes, Shaped}

-- told room, less what was put
abbrev pub less : Option ℕ → ℕ → Option ℕ
less None count = None
less (Some room) count = Some (room - count)

-- whatever it is answered, a sink with this room has room for all that the text puts
abbrev pub PutsFit : {H A E : Type 0} → Option ℕ → Text H A E → Type 0
PutsFit room (Done a) = ⊤
PutsFit room (Fail e) = ⊤
PutsFit room (Read at count stop k) = (bytes : List ℕ) → length bytes ≡ count → PutsFit room (k bytes)
PutsFit room (Write at bytes stop k) = PutsFit room k
PutsFit room (Take count stop k) = (bytes : List ℕ) → length bytes ≤ count → PutsFit room (k bytes)
PutsFit room (Put bytes stop k) = PutSuits room (length bytes) × PutsFit (less room (length bytes)) k
PutsFit room (Ask q stop k) = (reply : Reply q) → PutsFit room (k reply)
PutsFit room (Note g k) = PutsFit room k
PutsFit {H = H} room (Look k) = (h : H) → PutsFit room (k h)

-- whatever it is answered, each take of the text is of so many bytes, each put of such bytes, with such a fault, and the
-- folder is asked such a thing
abbrev pub EachCall : {H A E : Type 0} → (ℕ → Type 0) → (List ℕ → E → Type 0) → (Query → Type 0) → Text H A E → Type 0
EachCall takes puts asks (Done a) = ⊤
EachCall takes puts asks (Fail e) = ⊤
EachCall takes puts asks (Read at count stop k) =
    (bytes : List ℕ) → length bytes ≡ count → EachCall takes puts asks (k bytes)
EachCall takes puts asks (Write at bytes stop k) = EachCall takes puts asks k
EachCall takes puts asks (Take count stop k) =
    takes count × ((bytes : List ℕ) → length bytes ≤ count → EachCall takes puts asks (k bytes))
EachCall takes puts asks (Put bytes stop k) = puts bytes stop × EachCall takes puts asks k
EachCall takes puts asks (Ask q stop k) = asks q × ((reply : Reply q) → EachCall takes puts asks (k reply))
EachCall takes puts asks (Note g k) = EachCall takes puts asks k
EachCall {H = H} takes puts asks (Look k) = (h : H) → EachCall takes puts asks (k h)

-- the text puts nothing
abbrev pub PutsNothing : {H A E : Type 0} → Text H A E → Type 0
PutsNothing t = EachCall (λ count. ⊤) (λ bytes stop. ⊥) (λ q. ⊤) t

-- the text takes nothing
abbrev pub TakesNothing : {H A E : Type 0} → Text H A E → Type 0
TakesNothing t = EachCall (λ count. ⊥) (λ bytes stop. ⊤) (λ q. ⊤) t

-- the text asks the folder nothing
abbrev pub AsksNothing : {H A E : Type 0} → Text H A E → Type 0
AsksNothing t = EachCall (λ count. ⊤) (λ bytes stop. ⊤) (λ q. ⊥) t

-- the text opens no file that stands in the folder
abbrev pub OpensNothing : {H A E : Type 0} → Text H A E → Type 0
OpensNothing t = EachCall (λ count. ⊤) (λ bytes stop. ⊤) (λ q. opens_at q ≡ None) t

module _ {H A E : Type 0} (takes others : ℕ → Type 0) (puts more : List ℕ → E → Type 0) (asks most : Query → Type 0)
    (take : (count : ℕ) → takes count → others count)
    (put : (bytes : List ℕ) (stop : E) → puts bytes stop → more bytes stop)
    (ask : (q : Query) → asks q → most q) where
  -- what holds of each call of a text, and so something else
  pub each-also : (t : Text H A E) → EachCall takes puts asks t → EachCall others more most t
  each-also (Done a) h = tt
  each-also (Fail e) h = tt
  each-also (Read at count stop k) h = λ bytes size. each-also (k bytes) (h bytes size)
  each-also (Write at bytes stop k) h = each-also k h
  each-also (Take count stop k) h = (take count h.0, λ bytes size. each-also (k bytes) (h.1 bytes size))
  each-also (Put bytes stop k) h = (put bytes stop h.0, each-also k h.1)
  each-also (Ask q stop k) h = (ask q h.0, λ reply. each-also (k reply) (h.1 reply))
  each-also (Note g k) h = each-also k h
  each-also (Look k) h = λ kept. each-also (k kept) (h kept)

-- a text that opens nothing does so last
pub nothing-last : {H A E : Type 0} (may : Parts → Type 0) (t : Text H A E) → OpensNothing t → OpensLast may t
nothing-last may (Done a) h = tt
nothing-last may (Fail e) h = tt
nothing-last may (Read at count stop k) h = λ bytes size. nothing-last may (k bytes) (h bytes size)
nothing-last may (Write at bytes stop k) h = nothing-last may k h
nothing-last may (Take count stop k) h = λ bytes size. nothing-last may (k bytes) (h.1 bytes size)
nothing-last may (Put bytes stop k) h = nothing-last may k h.1
nothing-last {A = A} {E = E} may (Ask q stop k) h =
    let P : Option Parts → Type 0 = λ o. by_path o (λ path. (reply : Reply q) → ActsNext (may path) (k reply))
    ((reply : Reply q) → OpensLast may (k reply)) in
    subst P (sym h.0) (λ reply. nothing-last may (k reply) (h.1 reply))
nothing-last may (Note g k) h = nothing-last may k h
nothing-last may (Look k) h = λ kept. nothing-last may (k kept) (h kept)

-- what puts nothing has room
pub nothing-fits : {H A E : Type 0} (room : Option ℕ) (t : Text H A E) → PutsNothing t → PutsFit room t
nothing-fits room (Done a) h = tt
nothing-fits room (Fail e) h = tt
nothing-fits room (Read at count stop k) h = λ bytes size. nothing-fits room (k bytes) (h bytes size)
nothing-fits room (Write at bytes stop k) h = nothing-fits room k h
nothing-fits room (Take count stop k) h = λ bytes size. nothing-fits room (k bytes) (h.1 bytes size)
nothing-fits room (Put bytes stop k) h = absurd h.0
nothing-fits room (Ask q stop k) h = λ reply. nothing-fits room (k reply) (h.1 reply)
nothing-fits room (Note g k) h = nothing-fits room k h
nothing-fits room (Look k) h = λ kept. nothing-fits room (k kept) (h kept)

module _ {H A E : Type 0} (z : Stops E) (marks : (H → H) → Type 0) (answers : A → Type 0) where
  -- a put is refused by the fault of the console
  abbrev pub Named : Text H A E → Type 0
  Named t = EachCall (λ count. ⊤) (λ bytes stop. stop ≡ z.console) (λ q. ⊤) t

  ends-puts : (t : Text H A E) → Ends z marks answers t → Named t
  ends-puts (Done a) shape = tt
  ends-puts (Fail e) shape = absurd shape
  ends-puts (Read at count stop k) shape = absurd shape
  ends-puts (Write at bytes stop k) shape = ends-puts k shape.1
  ends-puts (Take count stop k) shape = absurd shape
  ends-puts (Put bytes stop k) shape = absurd shape
  ends-puts (Ask q stop k) shape = absurd shape
  ends-puts (Note g k) shape = absurd shape
  ends-puts (Look k) shape = absurd shape

  closes-puts : (t : Text H A E) → Closes z marks answers t → Named t
  closes-puts (Done a) shape = absurd shape
  closes-puts (Fail e) shape = absurd shape
  closes-puts (Read at count stop k) shape = absurd shape
  closes-puts (Write at bytes stop k) shape = absurd shape
  closes-puts (Take count stop k) shape = absurd shape
  closes-puts (Put bytes stop k) shape = absurd shape
  closes-puts (Ask q stop k) shape = absurd shape
  closes-puts (Note g k) shape = ends-puts k shape.1
  closes-puts (Look k) shape = absurd shape

  -- so are those of a shaped text
  pub shaped-puts : (t : Text H A E) → Shaped z marks answers t → Named t
  shaped-puts (Done a) shape = absurd shape
  shaped-puts (Fail e) shape = absurd shape
  shaped-puts (Read at count stop k) shape = λ bytes size. shaped-puts (k bytes) (shape.1 bytes)
  shaped-puts (Write at bytes stop k) shape = absurd shape
  shaped-puts (Take count stop k) shape = (tt, λ bytes size. closes-puts (k bytes) (shape.1 bytes))
  shaped-puts (Put bytes stop k) shape = (shape.0, closes-puts k shape.1)
  shaped-puts (Ask q stop k) shape = (
    tt,
    λ reply. elim (is_quiet q) as (λ b.
        either b ((a : Reply q) → Shaped z marks answers (k a)) ((a : Reply q) → Closes z marks answers (k a))
        → Named (k reply)) [
          | true ↦ λ more. shaped-puts (k reply) (more reply)
          | false ↦ λ more. closes-puts (k reply) (more reply)
        ] shape.1,
  )
  shaped-puts (Note g k) shape = ends-puts k shape.1
  shaped-puts (Look k) shape = absurd shape

-- the acts of a text whose takes, puts and questions are all of these
abbrev pub only : {X F I C : Type 0} → Acts X F I C → (ℕ → Type 0) → (List ℕ → Type 0) → (Query → Type 0) → Acts X F I C
only o takes puts asks = record {
  read = λ x place count r x'. o.read x place count r x';
  write = λ x place bytes r x'. o.write x place bytes r x';
  ask = λ q x r x'. asks q × o.ask q x r x';
  take = λ x count r x'. takes count × o.take x count r x';
  put = λ x bytes r x'. puts bytes × o.put x bytes r x';
}

-- a text with such calls is followed over such acts; a read gives as many bytes as were asked for, a take no more
module _ {X F I C H A E : Type 0} (o : Acts X F I C) (takes : ℕ → Type 0) (puts : List ℕ → Type 0)
    (asks : Query → Type 0)
    (on_read : (x x' : X) (place count : ℕ) (bytes : List ℕ) → o.read x place count (Ok bytes) x' → length bytes
    ≡ count)
    (on_take : (x x' : I) (count : ℕ) (bytes : List ℕ) → o.take x count (Ok bytes) x' → length bytes ≤ count) where
  abbrev pub Such : Text H A E → Type 0
  Such t = EachCall takes (λ bytes stop. puts bytes) asks t

  abbrev pub Kept : Text H A E → At X F I C H → Result A E → At X F I C H → Type 0
  Kept t s r s' = Played (only o takes puts asks) t s r s'

  pub only-played : {t : Text H A E} {s s' : At X F I C H} {r : Result A E} → Such t → Played o t s r s' → Kept t s r s'
  only-played h (ended e same) = ended e same
  only-played h (failed e same) = failed e same
  only-played h (has_read {place = at} {count = count} {s = s} {x = x} {bytes = bytes} d next) =
      has_read d (only-played (h bytes (on_read s.port x at count bytes d)) next)
  only-played h (read_stopped d e same) = read_stopped d e same
  only-played h (has_written d next) = has_written d (only-played h next)
  only-played h (write_stopped d e same) = write_stopped d e same
  only-played h (has_taken {count = count} {s = s} {i = x} {bytes = bytes} d next) =
      has_taken (h.0, d) (only-played (h.1 bytes (on_take s.input x count bytes d)) next)
  only-played h (take_stopped d e same) = take_stopped (h.0, d) e same
  only-played h (has_put d next) = has_put (h.0, d) (only-played h.1 next)
  only-played h (put_stopped d e same) = put_stopped (h.0, d) e same
  only-played h (has_asked {reply = reply} d next) = has_asked (h.0, d) (only-played (h.1 reply) next)
  only-played h (ask_stopped d e same) = ask_stopped (h.0, d) e same
  only-played h (noted n next) = noted n (only-played h next)
  only-played h (looked {s = s} next) = looked (only-played (h s.kept) next)

module _ {P F I C : Type 0} (p : port.Ghosts P) (f : folder.Ghosts F) (i : source.Ghosts I) (c : sink.Ghosts C) where
  -- a put that the console has room for
  pub record PutsSuited (x x' : C) (bytes : List ℕ) (r : Result Unit Failed) : Type 0 where
    pub put : HasPut c x x' bytes r
    pub suits : PutSuits (c.room x) (length bytes)

  -- the acts of these objects, where the console has room for each put
  abbrev pub suited_acts : Acts P F I C
  suited_acts = record {
    read = λ x place count r x'. HasRead p x x' place count r;
    write = λ x place bytes r x'. HasWritten p x x' place bytes r;
    ask = λ q x r x'. HasCalled f x x' q r;
    take = λ x count r x'. HasTaken i x x' count r;
    put = λ x bytes r x'. PutsSuited x x' bytes r;
  }

  -- the room that a put leaves
  left-room : (x x' : C) (bytes : List ℕ) (room : Option ℕ) → c.room x ≡ room → HasPut c x x' bytes (Ok tt) → c.room x'
      ≡ less room (length bytes)
  left-room x x' bytes None e d = d.no_room e
  left-room x x' bytes (Some room) e d = (d.room room e).1

  -- a put that is carried out had room
  had-room : (x x' : C) (bytes : List ℕ) (room : Option ℕ) → c.room x ≡ room → HasPut c x x' bytes (Ok tt)
      → PutSuits room (length bytes)
  had-room x x' bytes None e d = tt
  had-room x x' bytes (Some room) e d = (d.room room e).0

  -- where the console has room for all that a text puts, each put suits it
  pub fits-played : {H A E : Type 0} {t : Text H A E} {s s' : At P F I C H} {r : Result A E}
      → PutsFit (c.room s.console) t → Played (acts p f i c) t s r s' → Played suited_acts t s r s'
  fits-played h (ended e same) = ended e same
  fits-played h (failed e same) = failed e same
  fits-played h (has_read {bytes = bytes} d next) = has_read d (fits-played (h bytes d.bytes) next)
  fits-played h (read_stopped d e same) = read_stopped d e same
  fits-played h (has_written d next) = has_written d (fits-played h next)
  fits-played h (write_stopped d e same) = write_stopped d e same
  fits-played h (has_taken {bytes = bytes} d next) = has_taken d (fits-played (h bytes d.bound) next)
  fits-played h (take_stopped d e same) = take_stopped d e same
  fits-played h (has_put {bytes = bytes} {k = k} {s = s} {c = x} d next) =
      let here : PutsFit (c.room x) k = let Q : Option ℕ → Type 0 =
      λ room. PutsFit room k in subst Q (sym (left-room s.console x bytes (c.room s.console) refl d)) h.1 in
      has_put (record { put = d; suits = h.0 }) (fits-played here next)
  fits-played h (put_stopped d e same) = put_stopped (record { put = d; suits = h.0 }) e same
  fits-played h (has_asked {reply = reply} d next) = has_asked d (fits-played (h reply) next)
  fits-played h (ask_stopped d e same) = ask_stopped d e same
  fits-played h (noted n next) = noted n (fits-played h next)
  fits-played h (looked {s = s} next) = looked (fits-played (h s.kept) next)

  -- where a text's puts are refused by a fault that it did not end with, each put was carried out, and so suited
  pub done-played : {H A E : Type 0} (fault : E) {t : Text H A E} {s s' : At P F I C H} {r : Result A E}
      → (r ≡ Err fault → ⊥) → EachCall (λ count. ⊤) (λ bytes stop. stop ≡ fault) (λ q. ⊤) t
      → Played (acts p f i c) t s r s'
      → Played suited_acts t s r s'
  done-played fault spared h (ended e same) = ended e same
  done-played fault spared h (failed e same) = failed e same
  done-played fault spared h (has_read {bytes = bytes} d next) =
      has_read d (done-played fault spared (h bytes d.bytes) next)
  done-played fault spared h (read_stopped d e same) = read_stopped d e same
  done-played fault spared h (has_written d next) = has_written d (done-played fault spared h next)
  done-played fault spared h (write_stopped d e same) = write_stopped d e same
  done-played fault spared h (has_taken {bytes = bytes} d next) =
      has_taken d (done-played fault spared (h.1 bytes d.bound) next)
  done-played fault spared h (take_stopped d e same) = take_stopped d e same
  done-played fault spared h (has_put {bytes = bytes} {s = s} {c = x} d next) =
      has_put (record { put = d; suits = had-room s.console x bytes (c.room s.console) refl d })
      (done-played fault spared h.1 next)
  done-played fault spared h (put_stopped d e same) = absurd (spared (e ∙ ap Err h.0))
  done-played fault spared h (has_asked {reply = reply} d next) =
      has_asked d (done-played fault spared (h.1 reply) next)
  done-played fault spared h (ask_stopped d e same) = ask_stopped d e same
  done-played fault spared h (noted n next) = noted n (done-played fault spared h next)
  done-played fault spared h (looked {s = s} next) = looked (done-played fault spared (h s.kept) next)
