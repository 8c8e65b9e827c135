-- The laws of the call table.
use Rattle.std.proofs.Common.{◌≡◌, ◌≤◌, ◌+◌, ◌-◌, ◌++◌, ℕ, Bool, true, false, List, [], length, take, drop, Option}
use Rattle.std.proofs.Common.{Some, None, Result, Ok, Err, refl, sym, ap, ◌∙◌, subst, arith}
use Rattle.std.specs.Prelude.{⊤}
use Rattle.std.proofs.lemmas.List.{length-take-le, length-take, length-drop, length-append}
use Rattle.chunk_memory.specs.declared.port.ChunkPort as port
use Rattle.chunk_memory.specs.declared.stops.MemStop.{MemStop}
use Rattle.fe_base.specs.MemoryMap.{user_start, user_end}
use Rattle.fe_base.specs.declared.outside.Sink as sink
use Rattle.fe_base.specs.declared.outside.Source as source
use Rattle.folder_tree.specs.TreeOps.{After}
use Rattle.folder_tree.specs.declared.folder.Folder as folder
use Rattle.folder_tree.specs.declared.folder.FolderStop.TheVariants.{Failed as Broken, NoMemory}
use Rattle.host_text.specs.Blames.{Blames, port_to, folder_to, input_to, console_to, shaped-blame}
use Rattle.host_text.specs.LeadLaws.{leads-run}
use Rattle.host_text.specs.Outside.{HasRead, HasWritten, acts}
use Rattle.host_text.specs.Played.{At}
use Rattle.host_text.specs.RunLaws.{some-same}
use Rattle.host_text.specs.Runs.{Place, Bytes, End, on_row, run}
use Rattle.host_text.specs.Shapes.{Stops, is_quiet, either, EndsBy, Ends, Closes, Shaped}
use Rattle.host_text.specs.SurePorts.{IsUnmapped, NeverRefuses, never-reads, never-writes, reads-unmapped}
use Rattle.host_text.specs.SurePorts.{writes-unmapped}
use Rattle.host_text.specs.Text.{Query, Reply, row_of, Text, Done, Fail, Read, Write, Take, Put, Ask, Note, Look}
use Rattle.host_text.specs.World.{World}
use Rattle.syscall_proxy.specs.CallLaws.{call_row-inside, call_row-leads, call_row-row}
use Rattle.syscall_proxy.specs.CallTable.{call_row}
use Rattle.syscall_proxy.specs.HostRow.{begin, call-is-refused, call-is-row, call-meets-no-port, call-stops, host_row}
use Rattle.syscall_proxy.specs.HostRow.{user_bytes, world_after}
use Rattle.syscall_proxy.specs.Kept.{Kept, Setting}
use Rattle.syscall_proxy.specs.Laws.{RowsActOnce, RowsStayInside, ExitsWriteNothing, IsAsked, RowsEnd, ResultsAreSmall}
use Rattle.syscall_proxy.specs.Laws.{RowsKeepWorlds, RowsKeepSizes, ReadsUser, WritesUser, CallsAreRows, RefusalsLeave}
use Rattle.syscall_proxy.specs.Laws.{LeavesUser, PortsAreSure, PortsServe, RefusalsStand}
use Rattle.syscall_proxy.specs.RowShapes.{InUserArea, IsResult, Marks, stops}
use Rattle.syscall_proxy.specs.Worlds.{EndsWell, IsSmall, IsWorld}
use Rattle.syscall_proxy.specs.declared.answers.CallAnswer.{CallAnswer}
use Rattle.syscall_proxy.specs.declared.answers.CallAnswer.TheVariants.{Exit}
use Rattle.syscall_proxy.specs.declared.answers.CallFault.TheVariants.{Port}

pub rows_act_once : RowsActOnce
rows_act_once = call_row-row

pub rows_stay_inside : RowsStayInside
rows_stay_inside = call_row-inside

-- ---- an exit

module _ {M H A E : Type 0} (m : Bytes M) (z : Stops E) (marks : (H → H) → Type 0) (answers : A → Type 0) where
  -- behind a write the answer is one of these
  by-answer : (t : Text H A E) (p : Place M H) (e : End M H A) → Ends z marks answers t → EndsBy answers t
      → run m t p ≡ Some e → answers e.answer
  by-answer (Done a) p e shape by same =
      let is : record { answer = a; place = p } ≡ e = some-same same in
      subst (λ (x : End M H A). answers x.answer) is by
  by-answer (Write at bytes stop k) p e shape by same =
      by-answer k (record p { memory = m.set p.memory at bytes }) e shape.1 by same
  by-answer (Fail f) p e shape by same = absurd shape
  by-answer (Read at count stop k) p e shape by same = absurd shape
  by-answer (Take count stop k) p e shape by same = absurd shape
  by-answer (Put bytes stop k) p e shape by same = absurd shape
  by-answer (Ask q stop k) p e shape by same = absurd shape
  by-answer (Note g k) p e shape by same = absurd shape
  by-answer (Look k) p e shape by same = absurd shape

  ends-unwritten : (t : Text H A E) (p : Place M H) (e : End M H A) → (answers e.answer → ⊥) → Ends z marks answers t
      → run m t p ≡ Some e → e.place.memory ≡ p.memory
  ends-unwritten (Done a) p e other shape same =
      let is : record { answer = a; place = p } ≡ e = some-same same in
      sym (ap (λ (x : End M H A). x.place.memory) is)
  ends-unwritten (Write at bytes stop k) p e other shape same =
      absurd (other (by-answer k (record p { memory = m.set p.memory at bytes }) e shape.1 shape.2 same))
  ends-unwritten (Fail f) p e other shape same = absurd shape
  ends-unwritten (Read at count stop k) p e other shape same = absurd shape
  ends-unwritten (Take count stop k) p e other shape same = absurd shape
  ends-unwritten (Put bytes stop k) p e other shape same = absurd shape
  ends-unwritten (Ask q stop k) p e other shape same = absurd shape
  ends-unwritten (Note g k) p e other shape same = absurd shape
  ends-unwritten (Look k) p e other shape same = absurd shape

  closes-unwritten : (t : Text H A E) (p : Place M H) (e : End M H A) → (answers e.answer → ⊥)
      → Closes z marks answers t → run m t p ≡ Some e → e.place.memory ≡ p.memory
  closes-unwritten (Note g k) p e other shape same =
      ends-unwritten k (record p { kept = g p.kept }) e other shape.1 same
  closes-unwritten (Done a) p e other shape same = absurd shape
  closes-unwritten (Fail f) p e other shape same = absurd shape
  closes-unwritten (Read at count stop k) p e other shape same = absurd shape
  closes-unwritten (Write at bytes stop k) p e other shape same = absurd shape
  closes-unwritten (Take count stop k) p e other shape same = absurd shape
  closes-unwritten (Put bytes stop k) p e other shape same = absurd shape
  closes-unwritten (Ask q stop k) p e other shape same = absurd shape
  closes-unwritten (Look k) p e other shape same = absurd shape

  -- a shaped text whose answer is another one writes nothing
  shaped-unwritten : (t : Text H A E) (p : Place M H) (e : End M H A) → (answers e.answer → ⊥)
      → Shaped z marks answers t → run m t p ≡ Some e → e.place.memory ≡ p.memory
  shaped-unwritten (Read at count stop k) p e other shape same =
      shaped-unwritten (k (m.get p.memory at count)) p e other (shape.1 (m.get p.memory at count)) same
  shaped-unwritten (Take count stop k) p e other shape same =
      closes-unwritten (k (take count p.contents.input))
      (record p { contents = record p.contents { input = drop count p.contents.input } }) e other
      (shape.1 (take count p.contents.input)) same
  shaped-unwritten (Put bytes stop k) p e other shape same =
      closes-unwritten k (record p { contents = record p.contents { console = p.contents.console ++ bytes } }) e other
      shape.1 same
  shaped-unwritten (Ask q stop k) p e other shape same =
      elim (row_of q p.contents.tree) as (λ row. on_row row (λ reply tree. run m (k reply)
      (record p { contents = record p.contents { tree = tree } })) ≡ Some e → e.place.memory ≡ p.memory) [
        | None ↦ λ none. let no : ⊥ = cc in absurd no
        | Some after ↦ λ runs. elim (is_quiet q) as (λ b.
            either b ((a : Reply q) → Shaped z marks answers (k a)) ((a : Reply q) → Closes z marks answers (k a))
            → e.place.memory ≡ p.memory) [
              | true ↦ λ more. shaped-unwritten (k after.answer)
                  (record p { contents = record p.contents { tree = after.tree } }) e other (more after.answer) runs
              | false ↦ λ more. closes-unwritten (k after.answer)
                  (record p { contents = record p.contents { tree = after.tree } }) e other (more after.answer) runs
            ] shape.1
      ] same
  shaped-unwritten (Note g k) p e other shape same =
      ends-unwritten k (record p { kept = g p.kept }) e other shape.1 same
  shaped-unwritten (Done a) p e other shape same = absurd shape
  shaped-unwritten (Fail f) p e other shape same = absurd shape
  shaped-unwritten (Write at bytes stop k) p e other shape same = absurd shape
  shaped-unwritten (Look k) p e other shape same = absurd shape

pub exits_write_nothing : ExitsWriteNothing
exits_write_nothing given request w user status after same =
    shaped-unwritten user_bytes stops Marks IsResult (call_row given w.numbers request) (begin w user)
    (record { answer = Exit status; place = after }) (λ h. h) (call_row-row given w.numbers request) same

-- ---- in a world

-- as long as the user area of this program
abbrev As : List ℕ → List ℕ → Type 0
As user bytes = length bytes ≡ length user

got-length : (user bytes : List ℕ) (at count : ℕ) → user_start + length user ≡ user_end → InUserArea at count
    → As user bytes → length (take count (drop (at - user_start) bytes)) ≡ count
got-length user bytes at count size inside same =
    let low = inside.0 in
    let high = inside.1 in
    let enough : count ≤ length (drop (at - user_start) bytes) =
    omega (arith, size, low, high, same, length-drop (at - user_start) bytes) in
    length-take-le count (drop (at - user_start) bytes) enough

put-length : (user bytes : List ℕ) (at : ℕ) (part : List ℕ) → user_start + length user ≡ user_end
    → InUserArea at (length part) → As user bytes
    → As user (take (at - user_start) bytes ++ (part ++ drop (at - user_start + length part) bytes))
put-length user bytes at part size inside same =
    let low = inside.0 in
    let high = inside.1 in
    let front = take (at - user_start) bytes in
    let back = drop (at - user_start + length part) bytes in
    omega (
      arith,
      size,
      low,
      high,
      same,
      length-append front (part ++ back),
      length-append part back,
      length-take (at - user_start) bytes,
      length-drop (at - user_start + length part) bytes,
    )

ends : (given : Setting) (request : List ℕ) (w : World) (user : List ℕ) → IsAsked given request w user
    → (e : End (List ℕ) Kept CallAnswer) × (host_row given request w user ≡ Some e)
    × EndsWell e.answer e.place.contents.tree e.place.kept × As user e.place.memory
ends given request w user asked =
    leads-run user_bytes InUserArea (As user) EndsWell
    (λ bytes at count inside same. got-length user bytes at count asked.size inside same)
    (λ bytes at part inside same. put-length user bytes at part asked.size inside same)
    (call_row given w.numbers request) (begin w user) refl (call_row-inside given w.numbers request asked.inside)
    (call_row-leads given w.numbers request w.contents.tree false [] asked.world)

-- what holds of the row's end holds of this one
at-end : (Q : End (List ℕ) Kept CallAnswer → Type 0) (row : Option (End (List ℕ) Kept CallAnswer))
    (e end : End (List ℕ) Kept CallAnswer) → row ≡ Some e → row ≡ Some end → Q e → Q end
at-end Q row e end one other h = subst Q (some-same (sym one ∙ other)) h

pub rows_end : RowsEnd
rows_end given request w user asked = let h = ends given request w user asked in (h.0, h.1)

pub results_are_small : ResultsAreSmall
results_are_small given request w user end asked same =
    let h = ends given request w user asked in
    at-end (λ e. IsSmall e.answer) (host_row given request w user) h.0 end h.1 same h.2.0

pub rows_keep_worlds : RowsKeepWorlds
rows_keep_worlds given request w user end asked same =
    let h = ends given request w user asked in
    at-end (λ e. IsWorld (world_after e.place)) (host_row given request w user) h.0 end h.1 same h.2.1

pub rows_keep_sizes : RowsKeepSizes
rows_keep_sizes given request w user end asked same =
    let h = ends given request w user asked in
    at-end (λ e. As user e.place.memory) (host_row given request w user) h.0 end h.1 same h.3

-- ---- calls over objects

module _ {P F I C : Type 0} (p : port.Ghosts P) (f : folder.Ghosts F) (i : source.Ghosts I) (c : sink.Ghosts C)
    (holds : P → List ℕ → Type 0) (reads : ReadsUser p holds) (writes : WritesUser p holds) where
  pub calls_are_rows : CallsAreRows p f i c holds
  calls_are_rows s s' given request w user answer inside told played =
      call-is-row p f i c holds reads writes given request w user answer refl inside played told

  pub refusals_stand : (left : P → List ℕ → Type 0) → LeavesUser p holds left → RefusalsStand p f i c holds left
  refusals_stand left leaves s s' given request w user fault inside told played =
      call-is-refused p f i c holds reads writes left leaves.held leaves.reads leaves.writes given request w user fault
      refl inside played told

  pub refusals_leave : NeverRefuses p → RefusalsLeave p f i c holds
  refusals_leave sure s s' given request w user fault inside told played =
      call-stops p f i c holds reads writes
      (λ x x' at count why fit d. never-reads p sure x x' at count why fit.0 fit.1 d)
      (λ x x' at bytes why fit d. never-writes p sure x x' at bytes why fit.0 fit.1 d)
      given request w user fault refl inside played told

module _ {P F I C : Type 0} (p : port.Ghosts P) (f : folder.Ghosts F) (i : source.Ghosts I) (c : sink.Ghosts C)
    (sure : NeverRefuses p) where
  pub ports_serve : PortsServe p f i c
  ports_serve s s' given numbers request why inside played =
      call-meets-no-port p f i c (λ x x' at count why fit d. never-reads p sure x x' at count why fit.0 fit.1 d)
      (λ x x' at bytes why fit d. never-writes p sure x x' at bytes why fit.0 fit.1 d)
      given numbers request why refl inside played

  of-port : {X F I C : Type 0} {s s' : At X F I C Kept} (why : MemStop)
      → Blames stops (λ why x x'. IsUnmapped why) (λ why x x'. ⊤) (λ x x'. ⊤) (λ x x'. ⊤) (Port why) s s'
      → IsUnmapped why
  of-port why (port_to other e b) = let same : other ≡ why = cc in subst IsUnmapped same b
  of-port why (folder_to Broken e b) = let no : ⊥ = cc in absurd no
  of-port why (folder_to NoMemory e b) = let no : ⊥ = cc in absurd no
  of-port why (input_to e b) = let no : ⊥ = cc in absurd no
  of-port why (console_to e b) = let no : ⊥ = cc in absurd no

  pub ports_are_sure : PortsAreSure p f i c
  ports_are_sure s s' given numbers request why played =
      of-port why (shaped-blame (acts p f i c) stops Marks IsResult (λ why x x'. IsUnmapped why) (λ why x x'. ⊤)
      (λ x x'. ⊤) (λ x x'. ⊤) (λ x y at count why d. reads-unmapped p sure x y at count why d)
      (λ x y at bytes why d. writes-unmapped p sure x y at bytes why d) (λ q x y why d. tt) (λ x y count why d. tt)
      (λ x y bytes why d. tt) (λ x y v at count bytes why d b. b) (λ x y v at bytes why d b. b)
      (λ q x y v reply why d b. tt) (λ x y v count bytes d b. tt) (λ x y v bytes d b. tt) (Port why) refl
      (call_row-row given numbers request) played)
