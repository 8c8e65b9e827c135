-- The part of a turn on tohost while the kernel waits with a request: TOHOST is read and cleared, the request is read,
-- the call is made, its result is written, and its answer waits.
use Rattle.std.proofs.Common.{◌≡◌, ◌<◌, ◌^◌, ℕ, inl, inr, Bool, false, List, [], refl, sym, ap, subst, ◌∙◌, arith}
use Rattle.std.specs.Prelude.{Result, Err, nat_lt, length}
use Rattle.std.specs.Int.{to_le_bytes, from_le_bytes, w64}
use Rattle.chunk_memory.specs.declared.stops.MemStop.{MemStop}
use Rattle.fe_base.specs.MemoryMap.{request, tohost}
use Rattle.host_text.specs.Laws.{both, first, then-split}
use Rattle.host_text.specs.Played.{Played, ended, noted, looked, has_read, read_stopped, has_written, write_stopped}
use Rattle.host_text.specs.Runs.{End}
use Rattle.host_text.specs.Text.{Read, then_do}
use Rattle.host_text.specs.World.{World}
use Rattle.host_text.specs.declared.open_numbers.Open.{Open}
use Rattle.htif_mailbox.specs.Commands.{command_of}
use Rattle.htif_mailbox.specs.Turns.{Mail, awaits, call_answer, call_text, command_text, finish, most_waiting}
use Rattle.htif_mailbox.specs.Turns.{request_text, room_text, serve_text, word_text}
use Rattle.htif_mailbox.specs.declared.answers.MailFault.{MailFault}
use Rattle.htif_mailbox.specs.declared.answers.MailFault.TheVariants.{Call, Port}
use Rattle.htif_mailbox.specs.declared.answers.Turned.{Turned}
use Rattle.kernel_sim.specs.Advance.{StepsAdvance, HostWritesHold}
use Rattle.plain_machine.specs.Direct.{DirectState}
use Rattle.rv_hart.specs.HartStep.{System}
use Rattle.syscall_proxy.specs.CallTable.{call_row}
use Rattle.syscall_proxy.specs.Kept.{Kept, Setting, kept, rests}
use Rattle.syscall_proxy.specs.Worlds.{IsSmall}
use Rattle.syscall_proxy.specs.declared.answers.CallAnswer.{CallAnswer}
use Rattle.syscall_proxy.specs.declared.answers.CallAnswer.TheVariants.{Result as Value, Exit}
use Rattle.tether_base.proofs.CallWalk.{TiesTo, first_place, place_waiting, call-done, call-refused}
use Rattle.tether_base.proofs.MailWords.{read-stopped, tohost-read, request-read, tohost-written, result-written}
use Rattle.tether_base.proofs.MailWords.{store-word, stop-word}
use Rattle.tether_base.proofs.Stayed.{stays-ran}
use Rattle.tether_base.specs.Serving.{Here, with_tohost, with_result, TellsAll, Pending}
use Rattle.tether_base.specs.Serving.{Stepped, Outcome, carried_out, has_exited, refused_before, refused_behind}
use Rattle.tether_base.specs.Serving.{ServesCalls, ServesWords}
use Rattle.tether_base.specs.ToldActs.{SeenWritten, seen_acts}
use Rattle.tether_base.specs.Waiting.{CallState, Waiting}

-- the word of a request asks for a call
request-command : (given : Setting) → command_text given request (command_of request) ≡ request_text given request
unfolding command_of
request-command given = refl

module _ (advance : StepsAdvance) (writes : HostWritesHold) (given : Setting) (start : DirectState) where
  module _ (c : CallState) (user : List ℕ) (w : World) (pending : Pending given start c user w) (ws : List ℕ) where
    abbrev Comes : Result Turned MailFault → Here → Type 0
    Comes r s = Outcome given start c user w pending ws r s

    -- the kernel waits, whether the result stands in the request or not
    unwritten : (end : End (List ℕ) Kept CallAnswer) (value : ℕ) (s now : System) (why : MemStop) → value < 2 ^ 64
        → Waiting c end.place.memory s → SeenWritten s request (to_le_bytes w64 value) (Err why) now
        → (d : CallState) × (d.steps ≡ c.steps) × Waiting d end.place.memory now
    unwritten end value s now why small wait d = elim (stop-word request value s now why refl small d) [
      | inl r ↦ (c, refl, stays-ran advance c end.place.memory s now r.0 wait r.1)
      | inr r ↦ (with_result value c, refl, result-written advance writes c end.place.memory s now wait value small r)
    ]

    -- a call that was carried out, and what is left to do
    finishes : (a : CallAnswer) {m s' : Here} {r : Result Turned MailFault} (end : End (List ℕ) Kept CallAnswer)
        → end.answer ≡ a → Stepped given start c user end → TiesTo advance writes c m (place_waiting ws end.place)
        → Played seen_acts (finish request a) m r s' → Comes r s'
    finishes (Value v) {m = m} {s' = s'} {r = r} end is st ties
        (has_written {x = y} d (noted {h = h} n (ended g same))) =
        let small : v < 2 ^ 64 = subst (λ (a : CallAnswer). IsSmall a) is st.well.0 in
        let put = result-written advance writes c end.place.memory m.port y ties.memory_is v small
        (store-word request v m.port y refl small d) in
        let P : Here → Type 0 = λ z. Comes r z in
        subst P (sym same) (carried_out end v g st is put
        (record {
          tree_is = ties.tree_is;
          input_is = ties.input_is;
          console_is = ties.console_is;
          kept_is = n ∙ ap (λ (k : Kept). awaits call_answer k) ties.kept_is;
        }))
    finishes (Value v) {m = m} {s' = s'} {r = r} end is st ties (write_stopped {x = y} {why = why} d g same) =
        let small : v < 2 ^ 64 = subst (λ (a : CallAnswer). IsSmall a) is st.well.0 in
        let left = unwritten end v m.port y why small ties.memory_is d in
        let P : Here → Type 0 = λ z. Comes r z in
        subst P (sym same) (refused_behind (Port why) end v g st is (record {
          call_now = left.0;
          same_steps = left.1;
          user_now = end.place.memory;
          waits = left.2;
          tells = record {
            tree_is = ties.tree_is;
            input_is = ties.input_is;
            console_is = ties.console_is;
            kept_is = ties.kept_is;
          };
        }))
    finishes (Exit status) {m = m} {r = r} end is st ties (ended g same) =
        let P : Here → Type 0 = λ z. Comes r z in
        subst P (sym same) (has_exited end status g st is (record {
          call_now = c;
          same_steps = refl;
          user_now = end.place.memory;
          waits = ties.memory_is;
          tells = record {
            tree_is = ties.tree_is;
            input_is = ties.input_is;
            console_is = ties.console_is;
            kept_is = ties.kept_is;
          };
        }))

    -- whatever the row is
    handled : {s s' : Here} {r : Result Turned MailFault}
        → TiesTo advance writes c s (first_place advance writes c given start user w pending ws)
        → Played seen_acts (call_text given request c.request) s r s' → Comes r s'
    handled {s = s} {s' = s'} {r = r} ties (looked p) =
        let numbers_are : s.kept.numbers ≡ w.numbers = ap (λ (k : Kept). k.numbers) ties.kept_is in
        let T : List Open → Type 0 = λ l. Played seen_acts
        (then_do Call (call_row given l c.request) (finish request)) s r s' in
        elim (then-split seen_acts Call (finish request) (call_row given w.numbers c.request) (subst T numbers_are p)) [
          | both a q m e l n ↦
              let done = call-done advance writes c given start user w pending ws a e l ties in
              finishes a done.0 done.1 done.2 done.3 n
          | first fault q e l is ↦ elim (call-refused advance writes c given start user w pending ws fault e l ties) [
            | inl b ↦ refused_before (Call fault) b.0 is b.1 b.2
            | inr b ↦ refused_behind (Call fault) b.0 b.3.0 is b.1 b.3.1 b.2
          ]
        ]

  module _ (c : CallState) (user : List ℕ) (w : World) (pending : Pending given start (with_tohost 0 c) user w)
      (ws : List ℕ) where
    abbrev Ends : Result Turned MailFault → Here → Type 0
    Ends r s = Outcome given start (with_tohost 0 c) user w pending ws r s

    abbrev Told : Here → Type 0
    Told s = TellsAll w.contents (kept w.numbers false ws) s

    -- the port refused before the call: nothing has changed
    stopped : (why : MemStop) (d : CallState) (s : Here) {r : Result Turned MailFault} → r ≡ Err (Port why) → d.steps
        ≡ c.steps → Waiting d user s.port → Told s → Ends r s
    stopped why d s e steps wait told =
        refused_before (Port why) w.contents.tree e (inl refl)
        (record {
          call_now = d;
          same_steps = steps;
          user_now = user;
          waits = wait;
          tells = record {
            tree_is = told.tree_is;
            input_is = told.input_is;
            console_is = told.console_is;
            kept_is = told.kept_is;
          };
        })

    requested : {s s' : Here} {r : Result Turned MailFault} → Waiting (with_tohost 0 c) user s.port → Told s
        → Played seen_acts (request_text given request) s r s' → Ends r s'
    requested {s = s} {s' = s'} {r = r} h told (has_read {x = x} {bytes = bytes} d next) =
        let got = request-read advance (with_tohost 0 c) user s.port x bytes h d in
        let T : List ℕ → Type 0 = λ l. Played seen_acts (call_text given request l) (record s { port = x }) r s' in
        handled (with_tohost 0 c) user w pending ws
        (record {
          memory_is = got.0;
          tree_is = told.tree_is;
          input_is = told.input_is;
          console_is = told.console_is;
          kept_is = told.kept_is;
        }) (subst T got.1 next)
    requested {s = s} {r = r} h told (read_stopped {x = x} {why = why} d g same) =
        let P : Here → Type 0 = λ z. Ends r z in
        let wait = read-stopped advance (with_tohost 0 c) user s.port x request 64 why h d in
        subst P (sym same) (stopped why (with_tohost 0 c) (record s { port = x }) g refl wait
        (record {
          tree_is = told.tree_is;
          input_is = told.input_is;
          console_is = told.console_is;
          kept_is = told.kept_is;
        }))

    -- the kernel waits, whether tohost is cleared or not
    uncleared : (s now : System) (why : MemStop) → Waiting c user s
        → SeenWritten s tohost (to_le_bytes w64 0) (Err why) now → (d : CallState) × (d.steps ≡ c.steps)
        × Waiting d user now
    uncleared s now why wait d = elim (stop-word tohost 0 s now why refl (omega arith) d) [
      | inl r ↦ (c, refl, stays-ran advance c user s now r.0 wait r.1)
      | inr r ↦ (with_tohost 0 c, refl, tohost-written advance writes c user s now wait r)
    ]

    pub clears : {s s' : Here} {r : Result Turned MailFault} → Waiting c user s.port → Told s
        → Played seen_acts (word_text given tohost request) s r s' → Ends r s'
    clears {s = s} {s' = s'} {r = r} h told (has_written {x = x} d next) =
        let wait = tohost-written advance writes c user s.port x h
        (store-word tohost 0 s.port x refl (omega arith) d) in
        let T : Mail → Type 0 = λ t. Played seen_acts t (record s { port = x }) r s' in
        requested wait (record {
          tree_is = told.tree_is;
          input_is = told.input_is;
          console_is = told.console_is;
          kept_is = told.kept_is;
        }) (subst T (request-command given) next)
    clears {s = s} {r = r} h told (write_stopped {x = x} {why = why} d g same) =
        let P : Here → Type 0 = λ z. Ends r z in
        let left = uncleared s.port x why h d in
        subst P (sym same) (stopped why left.0 (record s { port = x }) g left.1 left.2
        (record {
          tree_is = told.tree_is;
          input_is = told.input_is;
          console_is = told.console_is;
          kept_is = told.kept_is;
        }))

    pub reads : {s s' : Here} {r : Result Turned MailFault} → c.tohost ≡ request → Waiting c user s.port → Told s
        → Played seen_acts (Read tohost 8 Port (λ bytes. word_text given tohost (from_le_bytes w64 bytes))) s r s'
        → Ends r s'
    reads {s = s} {s' = s'} {r = r} asks h told (has_read {x = x} {bytes = bytes} d next) =
        let got = tohost-read advance c user s.port x bytes h d in
        let T : ℕ → Type 0 = λ n. Played seen_acts (word_text given tohost n) (record s { port = x }) r s' in
        clears got.0 (record {
          tree_is = told.tree_is;
          input_is = told.input_is;
          console_is = told.console_is;
          kept_is = told.kept_is;
        }) (subst T (got.1 ∙ asks) next)
    reads {s = s} {r = r} asks h told (read_stopped {x = x} {why = why} d g same) =
        let P : Here → Type 0 = λ z. Ends r z in
        let wait = read-stopped advance c user s.port x tohost 8 why h d in
        subst P (sym same) (stopped why c (record s { port = x }) g refl wait
        (record {
          tree_is = told.tree_is;
          input_is = told.input_is;
          console_is = told.console_is;
          kept_is = told.kept_is;
        }))

  module _ (c : CallState) (user : List ℕ) (w : World) (pending : Pending given start (with_tohost 0 c) user w) where
    -- the whole part of a turn on tohost
    pub serve-waits : {s s' : Here} {r : Result Turned MailFault} (was : Bool) → c.tohost ≡ request
        → Waiting c user s.port → TellsAll w.contents (kept w.numbers was []) s
        → Played seen_acts (serve_text given tohost) s r s'
        → Outcome given start (with_tohost 0 c) user w pending [] r s'
    serve-waits {s = s} {s' = s'} {r = r} was asks h told (noted {h = k} n (looked p)) =
        let kept_is : k ≡ kept w.numbers false [] = n ∙ ap rests told.kept_is in
        let T : List ℕ → Type 0 = λ l. Played seen_acts (room_text given tohost (nat_lt (length l) most_waiting))
        (record s { kept = k }) r s' in
        reads c user w pending [] asks h (record {
          tree_is = told.tree_is;
          input_is = told.input_is;
          console_is = told.console_is;
          kept_is = kept_is;
        }) (subst T (ap (λ (z : Kept). z.waiting) kept_is) p)

pub serves_calls : StepsAdvance → HostWritesHold → ServesCalls
serves_calls advance writes given start c user w pending was s now r asks wait told played =
    serve-waits advance writes given start c user w pending was asks wait told played

pub serves_words : StepsAdvance → HostWritesHold → ServesWords
serves_words advance writes given start c user w pending ws s now r wait told played =
    clears advance writes given start c user w pending ws wait told played
