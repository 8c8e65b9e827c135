-- A text that is followed over a line has one answer and one end, where that is no refusal but for want of
-- transactions.
use Rattle.std.proofs.Common.{◌≡◌, ◌≤◌, ◌+◌, ℕ, zero, suc, List, [], ◌∷◌}
use Rattle.std.proofs.Common.{refl, sym, ap, subst, ◌∙◌, arith}
use Rattle.std.specs.Prelude.{⊤, Some, Result, Ok, Err}
use Rattle.std.specs.Int.{to_le_bytes, w64}
use Rattle.chunk_memory.specs.declared.stops.MemStop.{MemStop}
use Rattle.chunk_memory.specs.declared.stops.MemStop.TheVariants.{Spent}
use Rattle.fe_base.specs.MemoryMap.{fromhost, start_word, tohost}
use Rattle.folder_tree.specs.Tree.{Tree}
use Rattle.folder_tree.specs.TreeOps.{After}
use Rattle.host_text.specs.Laws.{then-ok, then-err, then-split, both, first}
use Rattle.host_text.specs.Played.{Acts, At, Played, ended, failed, has_read, read_stopped, has_written, write_stopped}
use Rattle.host_text.specs.Played.{has_taken, take_stopped, has_put, put_stopped, has_asked, ask_stopped, noted, looked}
use Rattle.host_text.specs.Text.{Reply, Text, Done, Fail, Read, Write, Take, Put, Ask, Note, Look}
use Rattle.htif_mailbox.specs.Turns.{Mail, same_fault, turn_text}
use Rattle.htif_mailbox.specs.declared.answers.MailFault.{MailFault}
use Rattle.htif_mailbox.specs.declared.answers.MailFault.TheVariants.{Port}
use Rattle.htif_mailbox.specs.declared.answers.Turned.{Turned}
use Rattle.htif_mailbox.specs.declared.answers.Turned.TheVariants.{Idle, Answered, Served, Exited}
use Rattle.plain_machine.specs.Starts.{setting_of}
use Rattle.syscall_proxy.specs.Kept.{Kept, Setting}
use Rattle.target_box.specs.Lined.{Lined}
use Rattle.tether_base.proofs.RangeMoves.{read-once, read-or-spent, read-spent-once, write-once, write-or-spent}
use Rattle.tether_base.proofs.RangeMoves.{write-spent-once}
use Rattle.tether_base.proofs.SpentTexts.{TellsSpent, session-tells}
use Rattle.tether_base.specs.Tethered.{TetherState, TetherEnd, OnTheWay, Ended, IsSpent, EndsBy, TetheredOnce}
use Rattle.tether_base.specs.Tethered.{MoreTurns}
use Rattle.tether_base.specs.Tethered.{tether_start}
use Rattle.tether_base.specs.Texts.{Range, load_text, loads_of, session_text, turns_text, unless_exited}
use Rattle.tether_base.specs.ToldActs.{LineRead, LineWritten, line_acts}

-- a call of a told tree has one answer and leaves one tree
abbrev after_of : {T : Type 0} → T → Tree → After T
after_of answer tree = record { answer = answer; tree = tree }

some-same : {T : Type 0} (x y : T) → Some x ≡ Some y → x ≡ y
some-same x y e = let same : x ≡ y = cc in same

-- ---- acts
-- no more turns were made than may be
abbrev Within : TetherState → Type 0
Within s = s.port.target.turns ≤ s.port.target.limit

module _ {A E : Type 0} (spent : E → Type 0) where
  -- it came to its end, or no transaction was left
  abbrev Good : Result A E → Type 0
  Good (Ok a) = ⊤
  Good (Err e) = spent e

  spent-read : (at count : ℕ) (x y : Lined) (stop : MemStop → E) (why : MemStop) (r : Result A E)
      → ((other : MemStop) → spent (stop other) → other ≡ Spent) → Good r → r ≡ Err (stop why)
      → LineRead x at count (Err why) y → (why ≡ Spent) × LineRead x at count (Err Spent) y
  spent-read at count x y stop why r tells good is d =
      let e : why ≡ Spent = tells why (subst Good is good) in
      (e, subst (λ (w : MemStop). LineRead x at count (Err w) y) e d)

  spent-write : (at : ℕ) (bytes : List ℕ) (x y : Lined) (stop : MemStop → E) (why : MemStop) (r : Result A E)
      → ((other : MemStop) → spent (stop other) → other ≡ Spent) → Good r → r ≡ Err (stop why)
      → LineWritten x at bytes (Err why) y → (why ≡ Spent) × LineWritten x at bytes (Err Spent) y
  spent-write at bytes x y stop why r tells good is d =
      let e : why ≡ Spent = tells why (subst Good is good) in
      (e, subst (λ (w : MemStop). LineWritten x at bytes (Err w) y) e d)

  abbrev One : Result A E → Result A E → TetherState → TetherState → Type 0
  One r r' s s' = (r ≡ r') × (s ≡ s')

  once : (t : Text Kept A E) {s one other : TetherState} {r r' : Result A E} → TellsSpent spent t → Within s → Good r
      → Good r' → Played line_acts t s r one → Played line_acts t s r' other → One r r' one other
  once (Done a) told within good good' (ended h same) (ended h' same') = (h ∙ sym h', same ∙ sym same')
  once (Fail e) told within good good' (failed h same) (failed h' same') = (h ∙ sym h', same ∙ sym same')
  once (Read at count stop k) {s = s} {other = other} {r' = r'} told within good good'
      (has_read {x = x} {bytes = bytes} d next) (has_read {x = x'} {bytes = bytes'} d' next') =
      let same = read-once at count bytes bytes' s.port x x' d.made d'.made in
      let T : List ℕ → Lined → Type 0 = λ l z. Played line_acts (k l) (record s { port = z }) r' other in
      let here : T bytes x =
      subst (λ (z : Lined). T bytes z) (sym same.1) (subst (λ (l : List ℕ). T l x') (sym same.0) next') in
      once (k bytes) (told.1 bytes) (d.keeps.within within) good good' next here
  once (Read at count stop k) {s = s} {r' = r'} told within good good' (has_read {x = x} {bytes = bytes} d next)
      (read_stopped {x = x'} {why = why} d' h' same') =
      let cut = spent-read at count s.port x' stop why r' told.0 good' h' d' in
      absurd (read-or-spent at count bytes s.port x x' d.made (d.keeps.within within) cut.1.made
      (cut.1.keeps.spent refl))
  once (Read at count stop k) {s = s} {r = r} told within good good' (read_stopped {x = x} {why = why} d h same)
      (has_read {x = x'} {bytes = bytes} d' next') =
      let cut = spent-read at count s.port x stop why r told.0 good h d in
      absurd (read-or-spent at count bytes s.port x' x d'.made (d'.keeps.within within) cut.1.made
      (cut.1.keeps.spent refl))
  once (Read at count stop k) {s = s} {r = r} {r' = r'} told within good good'
      (read_stopped {x = x} {why = why} d h same) (read_stopped {x = x'} {why = why'} d' h' same') =
      let one = spent-read at count s.port x stop why r told.0 good h d in
      let two = spent-read at count s.port x' stop why' r' told.0 good' h' d' in
      let port : x ≡ x' = read-spent-once at count s.port x x' one.1.made two.1.made (one.1.keeps.spent refl)
      (two.1.keeps.spent refl) in (
        h ∙ ap (λ (w : MemStop). Err (stop w)) (one.0 ∙ sym two.0) ∙ sym h',
        same ∙ ap (λ (z : Lined). record s { port = z }) port ∙ sym same',
      )
  once (Write at bytes stop k) {s = s} {other = other} {r' = r'} told within good good' (has_written {x = x} d next)
      (has_written {x = x'} d' next') =
      let same : x ≡ x' = write-once at bytes s.port x x' d.made d'.made in
      let T : Lined → Type 0 = λ z. Played line_acts k (record s { port = z }) r' other in
      once k told.1 (d.keeps.within within) good good' next (subst T (sym same) next')
  once (Write at bytes stop k) {s = s} {r' = r'} told within good good' (has_written {x = x} d next)
      (write_stopped {x = x'} {why = why} d' h' same') =
      let cut = spent-write at bytes s.port x' stop why r' told.0 good' h' d' in
      absurd (write-or-spent at bytes s.port x x' d.made (d.keeps.within within) cut.1.made (cut.1.keeps.spent refl))
  once (Write at bytes stop k) {s = s} {r = r} told within good good' (write_stopped {x = x} {why = why} d h same)
      (has_written {x = x'} d' next') =
      let cut = spent-write at bytes s.port x stop why r told.0 good h d in
      absurd (write-or-spent at bytes s.port x' x d'.made (d'.keeps.within within) cut.1.made (cut.1.keeps.spent refl))
  once (Write at bytes stop k) {s = s} {r = r} {r' = r'} told within good good'
      (write_stopped {x = x} {why = why} d h same) (write_stopped {x = x'} {why = why'} d' h' same') =
      let one = spent-write at bytes s.port x stop why r told.0 good h d in
      let two = spent-write at bytes s.port x' stop why' r' told.0 good' h' d' in
      let port : x ≡ x' = write-spent-once at bytes s.port x x' one.1.made two.1.made (one.1.keeps.spent refl)
      (two.1.keeps.spent refl) in (
        h ∙ ap (λ (w : MemStop). Err (stop w)) (one.0 ∙ sym two.0) ∙ sym h',
        same ∙ ap (λ (z : Lined). record s { port = z }) port ∙ sym same',
      )
  once (Take count stop k) {s = s} {other = other} {r' = r'} told within good good'
      (has_taken {i = i} {bytes = bytes} d next) (has_taken {i = i'} {bytes = bytes'} d' next') =
      let T : List ℕ → List ℕ → Type 0 = λ l z. Played line_acts (k l) (record s { input = z }) r' other in
      let here : T bytes i =
      subst (λ (z : List ℕ). T bytes z) (d'.1 ∙ sym d.1) (subst (λ (l : List ℕ). T l i') (d'.0 ∙ sym d.0) next') in
      once (k bytes) (told.1 bytes) within good good' next here
  once (Take count stop k) told within good good' (has_taken d next) (take_stopped d' h' same') =
      absurd (told.0 (subst Good h' good'))
  once (Take count stop k) told within good good' (take_stopped d h same) other = absurd (told.0 (subst Good h good))
  once (Put bytes stop k) {s = s} {other = other} {r' = r'} told within good good' (has_put {c = c} d next)
      (has_put {c = c'} d' next') =
      let T : List ℕ → Type 0 = λ z. Played line_acts k (record s { console = z }) r' other in
      once k told.1 within good good' next (subst T (d' ∙ sym d) next')
  once (Put bytes stop k) told within good good' (has_put d next) (put_stopped d' h' same') =
      absurd (told.0 (subst Good h' good'))
  once (Put bytes stop k) told within good good' (put_stopped d h same) other = absurd (told.0 (subst Good h good))
  once (Ask q stop k) {s = s} {other = other} {r' = r'} told within good good'
      (has_asked {f = f} {reply = reply} d next) (has_asked {f = f'} {reply = reply'} d' next') =
      let T : After (Reply q) → Type 0 = λ z. Played line_acts (k z.answer) (record s { folder = z.tree }) r' other in
      let same : after_of reply' f' ≡ after_of reply f =
      some-same (after_of reply' f') (after_of reply f) (sym d' ∙ d) in
      once (k reply) (told.1 reply) within good good' next (subst T same next')
  once (Ask q stop k) told within good good' (has_asked d next) (ask_stopped {why = why} d' h' same') =
      absurd (told.0 why (subst Good h' good'))
  once (Ask q stop k) told within good good' (ask_stopped {why = why} d h same) other =
      absurd (told.0 why (subst Good h good))
  once (Note g k) {s = s} {other = other} {r' = r'} told within good good' (noted {h = kept} n next)
      (noted {h = kept'} n' next') =
      let T : Kept → Type 0 = λ z. Played line_acts k (record s { kept = z }) r' other in
      once k told within good good' next (subst T (n' ∙ sym n) next')
  once (Look k) {s = s} told within good good' (looked next) (looked next') =
      once (k s.kept) (told s.kept) within good good' next next'

-- ---- more host turns
module _ {X F I C : Type 0} (o : Acts X F I C) (given : Setting) where
  unless-more : (a : Turned) (t u : Mail) {s s' : At X F I C Kept} {r : Result Turned MailFault}
      → (Played o t s r s' → Played o u s r s') → Played o (unless_exited a t) s r s'
      → Played o (unless_exited a u) s r s'
  unless-more (Exited status) t u more p = p
  unless-more Idle t u more p = more p
  unless-more Answered t u more p = more p
  unless-more Served t u more p = more p

  pub more-turns : (n k : ℕ) {s s' : At X F I C Kept} {r : Result Turned MailFault} → (r ≡ Ok Idle → ⊥)
      → Played o (turns_text given n) s r s' → Played o (turns_text given (n + k)) s r s'
  unfolding turns_text
  more-turns zero k busy (ended h same) = absurd (busy h)
  more-turns (suc n) k {s = s} {s' = s'} {r = r} busy p =
      let K : Turned → Mail = λ turned. unless_exited turned (turns_text given n) in
      let K' : Turned → Mail = λ turned. unless_exited turned (turns_text given (n + k)) in
      let t : Mail = turn_text given tohost fromhost in
      let all : Played o (turns_text given (suc (n + k))) s r s' = elim (then-split o same_fault K t p) [
        | both a q m e l next ↦
            then-ok o same_fault K' a e l
            (unless-more a (turns_text given n) (turns_text given (n + k)) (λ z. more-turns n k busy z) next)
        | first why q e l is ↦
            subst (λ (z : Result Turned MailFault). Played o (turns_text given (suc (n + k))) s z s') (sym is)
            (then-err o same_fault K' why e l)
      ] in
      let count : suc (n + k) ≡ suc n + k = omega arith in
      subst (λ (j : ℕ). Played o (turns_text given j) s r s') count all

  more-loads : (ranges : List Range) (t u : Mail) {s s' : At X F I C Kept} {r : Result Turned MailFault}
      → ((m : At X F I C Kept) → Played o t m r s' → Played o u m r s') → Played o (load_text ranges t) s r s'
      → Played o (load_text ranges u) s r s'
  more-loads [] t u {s = s} more p = more s p
  more-loads (range ∷ ranges) t u more (has_written d next) = has_written d (more-loads ranges t u more next)
  more-loads (range ∷ ranges) t u more (write_stopped d h same) = write_stopped d h same

  begun-more : (n k : ℕ) {s s' : At X F I C Kept} {r : Result Turned MailFault} → (r ≡ Ok Idle → ⊥)
      → Played o (Write start_word (to_le_bytes w64 1) Port (turns_text given n)) s r s'
      → Played o (Write start_word (to_le_bytes w64 1) Port (turns_text given (n + k))) s r s'
  begun-more n k busy (has_written d next) = has_written d (more-turns n k busy next)
  begun-more n k busy (write_stopped d h same) = write_stopped d h same

  pub more-session : (ranges : List Range) (n k : ℕ) {s s' : At X F I C Kept} {r : Result Turned MailFault}
      → (r ≡ Ok Idle → ⊥) → Played o (session_text given ranges n) s r s'
      → Played o (session_text given ranges (n + k)) s r s'
  more-session ranges n k busy p =
      more-loads ranges (Write start_word (to_le_bytes w64 1) Port (turns_text given n))
      (Write start_word (to_le_bytes w64 1) Port (turns_text given (n + k))) (λ m q. begun-more n k busy q) p

pub more_turns : MoreTurns
more_turns given ranges turns more s now r busy p = more-session line_acts given ranges turns more busy p

-- ---- the tethered run
not-idle : (end : TetherEnd) (r : Result Turned MailFault) → EndsBy end r → r ≡ Ok Idle → ⊥
not-idle OnTheWay (Ok done) ends is = absurd ends
not-idle OnTheWay (Err fault) ends is = let never : ⊥ = cc in never
not-idle (Ended status) r ends is =
    let e : ◌≡◌ {A = Result Turned MailFault} (Ok (Exited status)) (Ok Idle) = sym ends ∙ is in
    let never : ⊥ = cc in
    never

is-good : (end : TetherEnd) (r : Result Turned MailFault) → EndsBy end r → Good IsSpent r
is-good OnTheWay (Ok done) ends = absurd ends
is-good OnTheWay (Err fault) ends = ends
is-good (Ended status) r ends = subst (λ (z : Result Turned MailFault). Good IsSpent z) (sym ends) tt

one-end : (end other : TetherEnd) (r : Result Turned MailFault) → EndsBy end r → EndsBy other r → end ≡ other
one-end OnTheWay OnTheWay r ends ends' = refl
one-end OnTheWay (Ended status) (Ok done) ends ends' = absurd ends
one-end OnTheWay (Ended status) (Err fault) ends ends' = let never : ⊥ = cc in absurd never
one-end (Ended status) OnTheWay (Ok done) ends ends' = absurd ends'
one-end (Ended status) OnTheWay (Err fault) ends ends' = let never : ⊥ = cc in absurd never
one-end (Ended status) (Ended status') r ends ends' =
    let e : ◌≡◌ {A = Result Turned MailFault} (Ok (Exited status)) (Ok (Exited status')) = sym ends ∙ ends' in
    let same : ◌≡◌ {A = ℕ} status status' = cc in
    ap Ended same

pub tethered_once : TetheredOnce
tethered_once kernel c pauses held count end other s now one two =
    let given : Setting = setting_of c in
    let ranges : List Range = loads_of kernel c.image in
    let start : TetherState = tether_start c pauses count held in
    let n : ℕ = one.run.0 in
    let m : ℕ = two.run.0 in
    let sum : m + n ≡ n + m = omega arith in
    let first_run = more-session line_acts given ranges n m (not-idle end one.answer one.ends) one.run.1 in
    let second_run = subst (λ (j : ℕ). Played line_acts (session_text given ranges j) start two.answer now) sum
    (more-session line_acts given ranges m n (not-idle other two.answer two.ends) two.run.1) in
    let same = once IsSpent (session_text given ranges (n + m)) (session-tells given ranges (n + m)) (omega arith)
    (is-good end one.answer one.ends) (is-good other two.answer two.ends) first_run second_run in (
      one-end end other two.answer (subst (λ (z : Result Turned MailFault). EndsBy end z) same.0 one.ends) two.ends,
      same.1,
    )
