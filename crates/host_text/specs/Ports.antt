-- A text over a port is the same text over what its reads and writes mean: its chunks, its accesses, its memory.
use Rattle.std.specs.Prelude.{◌≡◌, ℕ, List, Result, Ok, Err, refl}
use Rattle.std.proofs.Common.{sym, subst, ap, ◌∙◌}
use Rattle.chunk_memory.specs.declared.stops.MemStop.{MemStop}
use Rattle.host_text.specs.Text.{Query, Reply, Text, Done, Fail, Read, Write, Take, Put, Ask, Note, Look}
use Rattle.host_text.specs.Played.{Acts, At, at, Played, ended, failed, has_read, read_stopped, has_written}
use Rattle.host_text.specs.Played.{write_stopped, has_taken, take_stopped, has_put, put_stopped, has_asked, ask_stopped}
use Rattle.host_text.specs.Played.{noted, looked}

-- the same with another port
abbrev pub over : {X Y F I C : Type 0} → Acts X F I C → (Y → ℕ → ℕ → Result (List ℕ) MemStop → Y → Type 0)
    → (Y → ℕ → List ℕ → Result Unit MemStop → Y → Type 0) → Acts Y F I C
over o read write = record {
  read = λ y at count r y'. read y at count r y';
  write = λ y at bytes r y'. write y at bytes r y';
  ask = λ q f r f'. o.ask q f r f';
  take =
      λ i count r i'. o.take i count r i';
  put = λ c bytes r c'. o.put c bytes r c';
}

abbrev pub moved : {X Y F I C H : Type 0} → Y → At X F I C H → At Y F I C H
moved y s = at y s.folder s.input s.console s.kept

module _ {X Y F I C H : Type 0} (o : Acts X F I C) (read : Y → ℕ → ℕ → Result (List ℕ) MemStop → Y → Type 0)
    (write : Y → ℕ → List ℕ → Result Unit MemStop → Y → Type 0)
    (Means : X → Y → Type 0)
    (on_read : (x x' : X) (y : Y) (at count : ℕ) (r : Result (List ℕ) MemStop) → Means x y → o.read x at count r x'
    → (y' : Y) × Means x' y' × read y at count r y')
    (on_write : (x x' : X) (y : Y) (at : ℕ) (bytes : List ℕ) (r : Result Unit MemStop) → Means x y
    → o.write x at bytes r x' → (y' : Y) × Means x' y' × write y at bytes r y') where
  -- where the text ends over the other port
  abbrev pub Over : {A E : Type 0} → Text H A E → Y → At X F I C H → Result A E → At X F I C H → Type 0
  Over t y s r s' = (y' : Y) × Means s'.port y' × Played (over o read write) t (moved y s) r (moved y' s')

  stays : {A E : Type 0} (t : Text H A E) (y : Y) (s s' : At X F I C H) (r : Result A E) → Means s.port y → s' ≡ s
      → ((same : moved y s' ≡ moved y s) → Played (over o read write) t (moved y s) r (moved y s')) → Over t y s r s'
  stays t y s s' r m same k = let P : At X F I C H → Type 0 =
      λ w. Means w.port y in (y, subst P (sym same) m, k (ap (moved y) same))

  pub played-over : {A E : Type 0} {t : Text H A E} {s s' : At X F I C H} {r : Result A E} (y : Y) → Means s.port y
      → Played o t s r s' → Over t y s r s'
  played-over {t = t} {s = s} {s' = s'} {r = r} y m (ended h same) = stays t y s s' r m same (λ e. ended h e)
  played-over {t = t} {s = s} {s' = s'} {r = r} y m (failed h same) = stays t y s s' r m same (λ e. failed h e)
  played-over y m (has_read {place = at} {count = count} {s = s} {x = x} {bytes = bytes} d p) =
      let one = on_read s.port x y at count (Ok bytes) m d in
      let rest = played-over one.0 one.1 p in
      (rest.0, rest.1, has_read one.2 rest.2)
  played-over y m (read_stopped {place = at} {count = count} {s = s} {s' = s'} {x = x} {why = why} d h same) =
      let one = on_read s.port x y at count (Err why) m d in
      let P : At X F I C H → Type 0 = λ w. Means w.port one.0 in
      (one.0, subst P (sym same) one.1, read_stopped one.2 h (ap (moved one.0) same))
  played-over y m (has_written {place = at} {bytes = bytes} {s = s} {x = x} d p) =
      let one = on_write s.port x y at bytes (Ok tt) m d in
      let rest = played-over one.0 one.1 p in
      (rest.0, rest.1, has_written one.2 rest.2)
  played-over y m (write_stopped {place = at} {bytes = bytes} {s = s} {s' = s'} {x = x} {why = why} d h same) =
      let one = on_write s.port x y at bytes (Err why) m d in
      let P : At X F I C H → Type 0 = λ w. Means w.port one.0 in
      (one.0, subst P (sym same) one.1, write_stopped one.2 h (ap (moved one.0) same))
  played-over y m (has_taken d p) = let rest = played-over y m p in (rest.0, rest.1, has_taken d rest.2)
  played-over y m (take_stopped {s = s} {s' = s'} {i = i} d h same) = let P : At X F I C H → Type 0 =
      λ w. Means w.port y in (y, subst P (sym same) m, take_stopped d h (ap (moved y) same))
  played-over y m (has_put d p) = let rest = played-over y m p in (rest.0, rest.1, has_put d rest.2)
  played-over y m (put_stopped {s = s} {s' = s'} {c = c} d h same) = let P : At X F I C H → Type 0 =
      λ w. Means w.port y in (y, subst P (sym same) m, put_stopped d h (ap (moved y) same))
  played-over y m (has_asked d p) = let rest = played-over y m p in (rest.0, rest.1, has_asked d rest.2)
  played-over y m (ask_stopped {s = s} {s' = s'} {f = f} d h same) = let P : At X F I C H → Type 0 =
      λ w. Means w.port y in (y, subst P (sym same) m, ask_stopped d h (ap (moved y) same))
  played-over y m (noted n p) = let rest = played-over y m p in (rest.0, rest.1, noted n rest.2)
  played-over y m (looked p) = let rest = played-over y m p in (rest.0, rest.1, looked rest.2)
