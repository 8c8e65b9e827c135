-- A call of any row, walked by one proof: over the target its text is the run over the user bytes at which it was
-- asked.
use Rattle.std.proofs.Common.{◌≡◌, ◌⊎◌, ◌≤◌, ◌-◌, ℕ, inl, inr, true, false, List, [], ◌++◌, length}
use Rattle.std.proofs.Common.{take, drop, length-drop, refl, sym, ap, subst, ◌∙◌, arith}
use Rattle.std.specs.Prelude.{Option, Some, None, Result, Ok, Err}
use Rattle.std.proofs.lemmas.List.{length-take, length-take-le}
use Rattle.fe_base.specs.MemoryMap.{user_start}
use Rattle.folder_tree.specs.Paths.{Parts}
use Rattle.folder_tree.specs.Tree.{Tree}
use Rattle.folder_tree.specs.TreeOps.{After}
use Rattle.guest_memory.proofs.BusLemmas.{user_size-is}
use Rattle.guest_memory.proofs.PartLemmas.{length-with_part}
use Rattle.host_text.specs.LeadLaws.{leads-run}
use Rattle.host_text.specs.Openings.{AsBefore, OpensLast}
use Rattle.host_text.specs.Played.{Played}
use Rattle.host_text.specs.Refusals.{refused}
use Rattle.host_text.specs.RunLaws.{came, reply-fits, some-same}
use Rattle.host_text.specs.Runs.{Place, Bytes, End, on_row, run, Ties, ReplyFits, Within}
use Rattle.host_text.specs.Shapes.{is_quiet, either, Ends, Closes, Shaped}
use Rattle.host_text.specs.Text.{Query, Reply, row_of, Done, Fail, Read, Write, Take, Put, Ask, Note, Look}
use Rattle.host_text.specs.World.{World}
use Rattle.kernel_sim.specs.Advance.{StepsAdvance, HostWritesHold}
use Rattle.plain_machine.specs.Direct.{DirectState, after_answer, after_host, after_part, after_step, direct_step}
use Rattle.plain_machine.specs.Direct.{direct_after, direct_after-next}
use Rattle.plain_machine.specs.KernelPart.{Part}
use Rattle.plain_machine.specs.UserStep.{UserStep}
use Rattle.rv_hart.specs.HartStep.{System}
use Rattle.syscall_proxy.specs.CallLaws.{AsksInside, call_row-row, call_row-leads, call_row-inside}
use Rattle.syscall_proxy.specs.CallTable.{call_row, service_of}
use Rattle.syscall_proxy.specs.HostRow.{user_bytes, begin, host_row}
use Rattle.syscall_proxy.specs.Kept.{Kept, Setting, kept}
use Rattle.syscall_proxy.specs.RowShapes.{stops, Marks, IsResult, IsRow, InUserArea}
use Rattle.syscall_proxy.specs.Rows.{Row, word}
use Rattle.syscall_proxy.specs.StreamRows.{call_row-last}
use Rattle.syscall_proxy.specs.Streams.{MayOpen}
use Rattle.syscall_proxy.specs.Worlds.{IsWorld, EndsWell}
use Rattle.syscall_proxy.specs.declared.answers.CallAnswer.{CallAnswer}
use Rattle.syscall_proxy.specs.declared.answers.CallAnswer.TheVariants.{Result as Value, Exit}
use Rattle.syscall_proxy.specs.declared.answers.CallFault.{CallFault}
use Rattle.tether_base.proofs.Areas.{on-read, on-write, off-read, off-write, StillWaits}
use Rattle.tether_base.specs.Serving.{Here, with_waiting, TellsAll, Pending, Stepped, LeftWaiting}
use Rattle.tether_base.specs.ToldActs.{TreeAsked, InputTaken, seen_acts}
use Rattle.tether_base.specs.Waiting.{CallState, Waiting, process_of}

-- ---- a row knows nothing of the answers that wait
abbrev pub place_waiting : {M : Type 0} → List ℕ → Place M Kept → Place M Kept
place_waiting ws p = record p { kept = with_waiting ws p.kept }

abbrev pub end_waiting : {M A : Type 0} → List ℕ → Option (End M Kept A) → Option (End M Kept A)
end_waiting ws None = None
end_waiting ws (Some e) = Some (record e { place = place_waiting ws e.place })

row-blind : {A B M : Type 0} (ws : List ℕ) (row : Option (After A)) (g h : A → Tree → Option (End M Kept B))
    → ((a : A) (t : Tree) → h a t ≡ end_waiting ws (g a t)) → on_row row h ≡ end_waiting ws (on_row row g)
row-blind ws None g h e = refl
row-blind ws (Some after) g h e = e after.answer after.tree

ends-blind : {M : Type 0} (m : Bytes M) (ws : List ℕ) (t : Row) (p : Place M Kept) → Ends stops Marks IsResult t
    → run m t (place_waiting ws p) ≡ end_waiting ws (run m t p)
ends-blind m ws (Done a) p shape = refl
ends-blind m ws (Write at bytes stop k) p shape =
    ends-blind m ws k (record p { memory = m.set p.memory at bytes }) shape.1
ends-blind m ws (Fail e) p shape = absurd shape
ends-blind m ws (Read at count stop k) p shape = absurd shape
ends-blind m ws (Take count stop k) p shape = absurd shape
ends-blind m ws (Put bytes stop k) p shape = absurd shape
ends-blind m ws (Ask q stop k) p shape = absurd shape
ends-blind m ws (Note g k) p shape = absurd shape
ends-blind m ws (Look k) p shape = absurd shape

note-blind : {M : Type 0} (m : Bytes M) (ws : List ℕ) (g : Kept → Kept) (k : Row) (p : Place M Kept) → Marks g
    → Ends stops Marks IsResult k → run m (Note g k) (place_waiting ws p) ≡ end_waiting ws (run m (Note g k) p)
note-blind m ws g k p mark shape =
    ap (λ (h : Kept). run m k (record p { kept = h })) (mark.waiting p.kept ws)
    ∙ ends-blind m ws k (record p { kept = g p.kept }) shape

closes-blind : {M : Type 0} (m : Bytes M) (ws : List ℕ) (t : Row) (p : Place M Kept) → Closes stops Marks IsResult t
    → run m t (place_waiting ws p) ≡ end_waiting ws (run m t p)
closes-blind m ws (Note g k) p shape = note-blind m ws g k p shape.0 shape.1
closes-blind m ws (Done a) p shape = absurd shape
closes-blind m ws (Fail e) p shape = absurd shape
closes-blind m ws (Read at count stop k) p shape = absurd shape
closes-blind m ws (Write at bytes stop k) p shape = absurd shape
closes-blind m ws (Take count stop k) p shape = absurd shape
closes-blind m ws (Put bytes stop k) p shape = absurd shape
closes-blind m ws (Ask q stop k) p shape = absurd shape
closes-blind m ws (Look k) p shape = absurd shape

pub run-blind : {M : Type 0} (m : Bytes M) (ws : List ℕ) (t : Row) (p : Place M Kept) → IsRow t
    → run m t (place_waiting ws p) ≡ end_waiting ws (run m t p)
run-blind m ws (Read at count stop k) p shape =
    run-blind m ws (k (m.get p.memory at count)) p (shape.1 (m.get p.memory at count))
run-blind m ws (Take count stop k) p shape =
    closes-blind m ws (k (take count p.contents.input))
    (record p { contents = record p.contents { input = drop count p.contents.input } })
    (shape.1 (take count p.contents.input))
run-blind m ws (Put bytes stop k) p shape =
    closes-blind m ws k (record p { contents = record p.contents { console = p.contents.console ++ bytes } }) shape.1
run-blind {M} m ws (Ask q stop k) p shape =
    row-blind ws (row_of q p.contents.tree)
    (λ reply tree. run m (k reply) (record p { contents = record p.contents { tree = tree } }))
    (λ reply tree. run m (k reply) (place_waiting ws (record p { contents = record p.contents { tree = tree } })))
    (λ reply tree. elim (is_quiet q) as
    (λ b. either b ((r : Reply q) → Shaped stops Marks IsResult (k r))
    ((r : Reply q) → Closes stops Marks IsResult (k r))
    → run m (k reply) (place_waiting ws (record p { contents = record p.contents { tree = tree } }))
    ≡ end_waiting ws (run m (k reply) (record p { contents = record p.contents { tree = tree } }))) [
      | true ↦ λ more. run-blind m ws (k reply) (record p { contents = record p.contents { tree = tree } }) (more reply)
      | false ↦ λ more. closes-blind m ws (k reply) (record p { contents = record p.contents { tree = tree } })
          (more reply)
    ] shape.1)
run-blind m ws (Note g k) p shape = note-blind m ws g k p shape.0 shape.1
run-blind m ws (Done a) p shape = absurd shape
run-blind m ws (Fail e) p shape = absurd shape
run-blind m ws (Write at bytes stop k) p shape = absurd shape
run-blind m ws (Look k) p shape = absurd shape

-- ---- a row that came to its end has acted
ends-acted : {M : Type 0} (m : Bytes M) (t : Row) (p : Place M Kept) (e : End M Kept CallAnswer)
    → Ends stops Marks IsResult t → p.kept.acted ≡ true → run m t p ≡ Some e → e.place.kept.acted ≡ true
ends-acted {M} m (Done a) p e shape h r =
    let same : record { answer = a; place = p } ≡ e = cc in
    ap (λ (x : End M Kept CallAnswer). x.place.kept.acted) (sym same) ∙ h
ends-acted m (Write at bytes stop k) p e shape h r =
    ends-acted m k (record p { memory = m.set p.memory at bytes }) e shape.1 h r
ends-acted m (Fail f) p e shape h r = absurd shape
ends-acted m (Read at count stop k) p e shape h r = absurd shape
ends-acted m (Take count stop k) p e shape h r = absurd shape
ends-acted m (Put bytes stop k) p e shape h r = absurd shape
ends-acted m (Ask q stop k) p e shape h r = absurd shape
ends-acted m (Note g k) p e shape h r = absurd shape
ends-acted m (Look k) p e shape h r = absurd shape

closes-acted : {M : Type 0} (m : Bytes M) (t : Row) (p : Place M Kept) (e : End M Kept CallAnswer)
    → Closes stops Marks IsResult t → run m t p ≡ Some e → e.place.kept.acted ≡ true
closes-acted m (Note g k) p e shape r = ends-acted m k (record p { kept = g p.kept }) e shape.1 (shape.0.acted p.kept) r
closes-acted m (Done a) p e shape r = absurd shape
closes-acted m (Fail f) p e shape r = absurd shape
closes-acted m (Read at count stop k) p e shape r = absurd shape
closes-acted m (Write at bytes stop k) p e shape r = absurd shape
closes-acted m (Take count stop k) p e shape r = absurd shape
closes-acted m (Put bytes stop k) p e shape r = absurd shape
closes-acted m (Ask q stop k) p e shape r = absurd shape
closes-acted m (Look k) p e shape r = absurd shape

row-acted : {A M : Type 0} (row : Option (After A)) (g : A → Tree → Option (End M Kept CallAnswer))
    (e : End M Kept CallAnswer) → ((a : A) (t : Tree) → g a t ≡ Some e → e.place.kept.acted ≡ true) → on_row row g
    ≡ Some e → e.place.kept.acted ≡ true
row-acted None g e more h = let no : ⊥ = cc in absurd no
row-acted (Some after) g e more h = more after.answer after.tree h

pub run-acted : {M : Type 0} (m : Bytes M) (t : Row) (p : Place M Kept) (e : End M Kept CallAnswer) → IsRow t
    → run m t p ≡ Some e → e.place.kept.acted ≡ true
run-acted m (Read at count stop k) p e shape r =
    run-acted m (k (m.get p.memory at count)) p e (shape.1 (m.get p.memory at count)) r
run-acted m (Take count stop k) p e shape r =
    closes-acted m (k (take count p.contents.input))
    (record p { contents = record p.contents { input = drop count p.contents.input } }) e
    (shape.1 (take count p.contents.input)) r
run-acted m (Put bytes stop k) p e shape r =
    closes-acted m k (record p { contents = record p.contents { console = p.contents.console ++ bytes } }) e shape.1 r
run-acted m (Ask q stop k) p e shape r =
    row-acted (row_of q p.contents.tree)
    (λ reply tree. run m (k reply) (record p { contents = record p.contents { tree = tree } })) e
    (λ reply tree. elim (is_quiet q) as
    (λ b. either b ((x : Reply q) → Shaped stops Marks IsResult (k x))
    ((x : Reply q) → Closes stops Marks IsResult (k x))
    → run m (k reply) (record p { contents = record p.contents { tree = tree } }) ≡ Some e → e.place.kept.acted
    ≡ true) [
      | true ↦ λ more. run-acted m (k reply) (record p { contents = record p.contents { tree = tree } }) e (more reply)
      | false ↦ λ more. closes-acted m (k reply) (record p { contents = record p.contents { tree = tree } }) e
          (more reply)
    ] shape.1) r
run-acted m (Note g k) p e shape r = ends-acted m k (record p { kept = g p.kept }) e shape.1 (shape.0.acted p.kept) r
run-acted m (Done a) p e shape r = absurd shape
run-acted m (Fail f) p e shape r = absurd shape
run-acted m (Write at bytes stop k) p e shape r = absurd shape
run-acted m (Look k) p e shape r = absurd shape

-- ---- in a world a row has an end, which is a good one
area-read : (user : List ℕ) (at count : ℕ) → InUserArea at count → length user ≡ 0x1000000
    → length (user_bytes.get user at count) ≡ count
area-read user at count inside long =
    length-take-le count (drop (at - user_start) user)
    (omega (arith, length-drop (at - user_start) user, inside.0, inside.1))

area-written : (user : List ℕ) (at : ℕ) (bytes : List ℕ) → InUserArea at (length bytes) → length user ≡ 0x1000000
    → length (user_bytes.set user at bytes) ≡ 0x1000000
area-written user at bytes inside long =
    length-with_part user (at - user_start) bytes (omega (arith, inside.0, inside.1)) ∙ long

-- an answer that is a result
result-value : (a : CallAnswer) → IsResult a → (value : ℕ) × (a ≡ Value value)
result-value (Value value) is = (value, refl)
result-value (Exit status) is = absurd is

pub ends-well : (given : Setting) (request : List ℕ) (w : World) (user : List ℕ) (end : End (List ℕ) Kept CallAnswer)
    → AsksInside (service_of (word request 0)) given request → IsWorld w → length user ≡ 0x1000000
    → host_row given request w user ≡ Some end → EndsWell end.answer end.place.contents.tree end.place.kept
ends-well given request w user end inside world long is =
    let got = leads-run user_bytes InUserArea (λ (l : List ℕ). length l ≡ 0x1000000) EndsWell area-read area-written
    (call_row given w.numbers request) (begin w user) long
    (call_row-inside given w.numbers request inside)
    (call_row-leads given w.numbers request w.contents.tree false [] world) in
    let same : got.0 ≡ end = some-same (sym got.1 ∙ is) in
    subst (λ (e : End (List ℕ) Kept CallAnswer). EndsWell e.answer e.place.contents.tree e.place.kept) same got.2

-- ---- told objects
asks : (f f' t : Tree) (q : Query) (reply : Reply q) → f ≡ t → TreeAsked q f (Ok reply) f' → (now : Tree)
    × (row_of q t ≡ Some (record { answer = reply; tree = now })) × (f' ≡ now) × ReplyFits q reply
asks f f' t q reply e a =
    let row : row_of q t ≡ Some (record { answer = reply; tree = f' }) =
    subst (λ (z : Tree). row_of q z ≡ Some (record { answer = reply; tree = f' })) e a in
    (f', row, refl, reply-fits q t reply f' row)

taken-fits : (count : ℕ) (l bytes : List ℕ) → bytes ≡ take count l → length bytes ≤ count
taken-fits count l bytes e = subst (λ (k : List ℕ). length k ≤ count) (sym e) (omega (arith, length-take count l))

takes_off : (i i' left : List ℕ) (count : ℕ) (bytes : List ℕ) → i ≡ left → InputTaken i count (Ok bytes) i'
    → (bytes ≡ take count left) × (i' ≡ drop count left) × (length bytes ≤ count)
takes_off i i' left count bytes e a =
    (a.0 ∙ ap (λ (l : List ℕ). take count l) e, a.1 ∙ ap (λ (l : List ℕ). drop count l) e, taken-fits count i bytes a.0)

module _ (advance : StepsAdvance) (writes : HostWritesHold) (c : CallState) where
  abbrev pub TiesTo : Here → Place (List ℕ) Kept → Type 0
  TiesTo s p = Ties (λ x user. Waiting c user x) (λ f t. f ≡ t) (λ i l. i ≡ l) (λ o l. o ≡ l) s p

  pub told-of : (s : Here) (p : Place (List ℕ) Kept) → TiesTo s p → TellsAll p.contents p.kept s
  told-of s p ties = record {
    tree_is = ties.tree_is;
    input_is = ties.input_is;
    console_is = ties.console_is;
    kept_is = ties.kept_is;
  }

  row-came : {t : Row} {s s' : Here} {r : Result CallAnswer CallFault} (a : CallAnswer) (p : Place (List ℕ) Kept) → r
      ≡ Ok a → Within InUserArea t → Played seen_acts t s r s' → TiesTo s p
      → (p' : Place (List ℕ) Kept) × (run user_bytes t p ≡ Some (record { answer = a; place = p' })) × TiesTo s' p'
  row-came a p e inside played ties =
      came seen_acts user_bytes InUserArea (λ x user. Waiting c user x) (λ f t. f ≡ t) (λ i l. i ≡ l) (λ o l. o ≡ l)
      (λ x x' t place count bytes fits w d. on-read advance writes c x x' t place count bytes fits w d)
      (λ x x' t place bytes fits w d. on-write advance writes c x x' t place bytes fits w d)
      asks takes_off (λ o o' l bytes e d. d ∙ ap (λ (z : List ℕ). z ++ bytes) e)
      a p e inside played ties

  row-refused : {t : Row} {s s' : Here} {r : Result CallAnswer CallFault} (may : Parts → Type 0) (e : CallFault)
      (p : Place (List ℕ) Kept) → r ≡ Err e → IsRow t → OpensLast may t → Within InUserArea t → TiesTo s p
      → Played seen_acts t s r s'
      → ((now : Tree) × AsBefore may p.contents.tree now × StillWaits advance writes c s'.port
      × TellsAll (record p.contents { tree = now }) p.kept s')
      ⊎ ((end : End (List ℕ) Kept CallAnswer) × (run user_bytes t p ≡ Some end) × StillWaits advance writes c s'.port
      × TellsAll end.place.contents end.place.kept s' × IsResult end.answer)
  row-refused may e p h shape last inside ties played =
      elim (refused seen_acts user_bytes InUserArea (λ x user. Waiting c user x) (λ f t. f ≡ t) (λ i l. i ≡ l)
      (λ o l. o ≡ l)
      (λ x x' t place count bytes fits w d. on-read advance writes c x x' t place count bytes fits w d)
      (λ x x' t place bytes fits w d. on-write advance writes c x x' t place bytes fits w d)
      asks takes_off (λ o o' l bytes e d. d ∙ ap (λ (z : List ℕ). z ++ bytes) e)
      stops Marks IsResult (λ x t. StillWaits advance writes c x) may (λ x t w. (t, w))
      (λ x x' t place count why fits w d. off-read advance writes c x x' t place count why fits w d)
      (λ x x' t place bytes why fits w d. off-write advance writes c x x' t place bytes why fits w d)
      (λ f f' t q why is d. d ∙ is) (λ i i' l count why is d. d ∙ is) (λ o o' l bytes why is d. d ∙ is)
      e p h shape last inside ties played) [
        | inl b ↦ inl (
          b.now,
          b.as_before,
          b.stands.port,
          record {
            tree_is = b.stands.tree_is;
            input_is = b.stands.input_is;
            console_is = b.stands.console_is;
            kept_is = b.stands.kept_is;
          },
        )
        | inr l ↦ inr (
          l.last,
          l.runs,
          l.stands.port,
          record {
            tree_is = l.stands.tree_is;
            input_is = l.stands.input_is;
            console_is = l.stands.console_is;
            kept_is = l.stands.kept_is;
          },
          l.good,
        )
      ]

  -- ---- beside the direct run
  module _ (given : Setting) (start : DirectState) (user : List ℕ) (w : World) (pending : Pending given start c user w)
      (ws : List ℕ) where
    -- before the call: the user bytes, the world's contents and what the host keeps
    abbrev pub first_place : Place (List ℕ) Kept
    first_place = record { memory = user; contents = w.contents; kept = kept w.numbers false ws }

    -- the run of the row is the direct run's next step
    steps-by : (end : End (List ℕ) Kept CallAnswer) → length user ≡ 0x1000000 → host_row given c.request w user
        ≡ Some end → Stepped given start c user end
    steps-by end long row =
        let process = process_of c.program user in
        let direct : direct_after given c.steps start ≡ after_answer process end.answer end.place =
        ap (λ (n : ℕ). direct_after given n start) pending.counted ∙ direct_after-next given pending.before start
        ∙ ap (direct_step given) pending.stands
        ∙ ap (λ (u : UserStep). after_step given process w u) pending.calls
        ∙ ap (λ (q : Part). after_part given process w q) pending.posted
        ∙ ap (λ (o : Option (End (List ℕ) Kept CallAnswer)). after_host process w o) row in
        record {
          direct = direct;
          acts = run-acted user_bytes (call_row given w.numbers c.request) (begin w user) end
              (call_row-row given w.numbers c.request) row;
          well = ends-well given c.request w user end pending.inside pending.in_a_world long row;
        }

    -- a waiting system has a whole user area
    long-of : (s : System) → Waiting c user s → length user ≡ 0x1000000
    long-of s wait = sym (ap (λ (l : List ℕ). length l) wait.user_is) ∙ wait.fits.bus_fits.user_length ∙ user_size-is

    run-is : run user_bytes (call_row given w.numbers c.request) first_place
        ≡ end_waiting ws (host_row given c.request w user)
    run-is = run-blind user_bytes ws (call_row given w.numbers c.request) (begin w user)
        (call_row-row given w.numbers c.request)

    -- an end of the run is one of the host's row
    end-of : (o : Option (End (List ℕ) Kept CallAnswer)) (e : End (List ℕ) Kept CallAnswer) → end_waiting ws o ≡ Some e
        → (f : End (List ℕ) Kept CallAnswer) × (o ≡ Some f) × (record f { place = place_waiting ws f.place } ≡ e)
    end-of None e h = let no : ⊥ = cc in absurd no
    end-of (Some f) e h = (f, refl, let same : record f { place = place_waiting ws f.place } ≡ e = cc in same)

    -- a call that was carried out: the direct run has made its step, and contents, user bytes and numbers are its
    pub call-done : {s s' : Here} {r : Result CallAnswer CallFault} (a : CallAnswer) → r ≡ Ok a
        → Played seen_acts (call_row given w.numbers c.request) s r s' → TiesTo s first_place
        → (end : End (List ℕ) Kept CallAnswer) × (end.answer ≡ a) × Stepped given start c user end
        × TiesTo s' (place_waiting ws end.place)
    call-done {s = s} {s' = s'} a h played ties =
        let got = row-came a first_place h (call_row-inside given w.numbers c.request pending.inside) played ties in
        let f = end-of (host_row given c.request w user) (record { answer = a; place = got.0 })
        (sym run-is ∙ got.1) in (
          f.0,
          ap (λ (e : End (List ℕ) Kept CallAnswer). e.answer) f.2,
          steps-by f.0 (long-of s.port ties.memory_is) f.1,
          subst (λ (p : Place (List ℕ) Kept). TiesTo s' p)
              (sym (ap (λ (e : End (List ℕ) Kept CallAnswer). e.place) f.2)) got.2,
        )

    -- a refused call: contents are the direct run's before the call, but for one open more of a file that openat was to
    -- cut next, or those after it
    pub call-refused : {s s' : Here} {r : Result CallAnswer CallFault} (fault : CallFault) → r ≡ Err fault
        → Played seen_acts (call_row given w.numbers c.request) s r s' → TiesTo s first_place
        → ((now : Tree) × AsBefore (MayOpen given c.request) w.contents.tree now
        × LeftWaiting c (record w.contents { tree = now }) (kept w.numbers false ws) s')
        ⊎ ((end : End (List ℕ) Kept CallAnswer) × Stepped given start c user end
        × LeftWaiting c end.place.contents (with_waiting ws end.place.kept) s'
        × ((value : ℕ) × (end.answer ≡ Value value)))
    call-refused {s = s} {s' = s'} fault h played ties =
        elim (row-refused (MayOpen given c.request) fault first_place h (call_row-row given w.numbers c.request)
        (call_row-last given w.numbers c.request)
        (call_row-inside given w.numbers c.request pending.inside) ties played) [
          | inl b ↦ inl (
            b.0,
            b.1,
            record {
              call_now = c;
              same_steps = refl;
              user_now = b.2.0;
              waits = b.2.1;
              tells = b.3;
            },
          )
          | inr l ↦
              let f = end-of (host_row given c.request w user) l.0 (sym run-is ∙ l.1) in
              let P : End (List ℕ) Kept CallAnswer → Type 0 = λ e. TellsAll e.place.contents e.place.kept s' in
              inr (
                f.0,
                steps-by f.0 (long-of s.port ties.memory_is) f.1,
                record {
                  call_now = c;
                  same_steps = refl;
                  user_now = l.2.0;
                  waits = l.2.1;
                  tells = subst P (sym f.2) l.3;
                },
                result-value f.0.answer (subst (λ (e : End (List ℕ) Kept CallAnswer). IsResult e.answer) (sym f.2) l.4),
              )
        ]
