-- What was followed of a session's text is a session: its ranges, the start word, and host turns.
use Rattle.std.proofs.Common.{◌≡◌, ℕ, zero, suc, Bool, true, false, List, [], ◌∷◌, refl, sym, subst}
use Rattle.std.proofs.Common.{◌∙◌}
use Rattle.std.specs.Prelude.{Result, Ok, Err}
use Rattle.std.specs.Int.{to_le_bytes, w64}
use Rattle.chunk_memory.specs.declared.stops.MemStop.{MemStop}
use Rattle.fe_base.specs.MemoryMap.{fromhost, start_word, tohost}
use Rattle.host_text.specs.Laws.{both, first, then-split}
use Rattle.host_text.specs.Played.{Acts, At, Played, ended, has_written, write_stopped}
use Rattle.host_text.specs.Text.{Done, Write, then_do}
use Rattle.htif_mailbox.specs.Turns.{Mail, after_text, gave, give_text}
use Rattle.htif_mailbox.specs.Turns.{same_fault, serve_text, turn_text}
use Rattle.htif_mailbox.specs.declared.answers.MailFault.{MailFault}
use Rattle.htif_mailbox.specs.declared.answers.MailFault.TheVariants.{Port}
use Rattle.htif_mailbox.specs.declared.answers.Turned.{Turned}
use Rattle.htif_mailbox.specs.declared.answers.Turned.TheVariants.{Idle, Answered, Served, Exited}
use Rattle.rv_hart.specs.HartStep.{HartState, System}
use Rattle.syscall_proxy.specs.Kept.{Kept, Setting}
use Rattle.tether_base.specs.Place.{Book, noted_in}
use Rattle.tether_base.specs.Texts.{Range, load_text, session_text, turns_text, unless_exited}
use Rattle.tether_base.specs.ToldActs.{seen_acts}
use Rattle.tether_run.specs.HostTurns.{GoesOn, HostTurns, idle, served, all_made, has_exited, serve_refused}
use Rattle.tether_run.specs.HostTurns.{give_refused, has_answered, goes_on}
use Rattle.tether_run.specs.Sessions.{SessionMade, TextsAreSessions, begin_text, first_book, has_begun, not_begun}

module _ {X F I C : Type 0} (o : Acts X F I C) (given : Setting) where
  abbrev There : Type 0
  There = At X F I C Kept

  -- ---- host turns
  module _ (hart : X → HartState) where
    abbrev Made : ℕ → Book → There → Result Turned MailFault → There → Type 0
    Made n book s r now = (last : Book) × HostTurns o hart given n book s r last now

    abbrev later : There → Book → Book
    later s book = noted_in s.kept.acted (hart s.port) book

    moved : {n : ℕ} {book : Book} {s now : There} {r q : Result Turned MailFault} → q ≡ r → Made n book s r now
        → Made n book s q now
    moved {n = n} {book = book} {s = s} {now = now} e made =
        subst (λ (z : Result Turned MailFault). Made n book s z now) (sym e) made

    -- the text behind a turn, by what it did
    behind : (n : ℕ) (turned other : Turned) {m now : There} {r : Result Turned MailFault}
        → ◌≡◌ {A = Result Turned MailFault} (Ok turned) (Ok other)
        → Played o (unless_exited turned (turns_text given n)) m r now
        → Played o (unless_exited other (turns_text given n)) m r now
    behind n turned other {m = m} {now = now} {r = r} e p =
        let same : turned ≡ other = cc in
        subst (λ (z : Turned). Played o (unless_exited z (turns_text given n)) m r now) same p

    gave-behind : (n : ℕ) (b : Bool) {m now : There} {r : Result Turned MailFault}
        → Played o (unless_exited (gave b) (turns_text given n)) m r now → Played o (turns_text given n) m r now
    gave-behind n true p = p
    gave-behind n false p = p

    abbrev Rest : ℕ → Type 0
    Rest n = (book : Book) (s now : There) (r : Result Turned MailFault) → Played o (turns_text given n) s r now
        → Made n book s r now

    -- a part on fromhost came to its end, and then the turns that are left
    goes : (n : ℕ) (rest : Rest n) (book : Book) (s mid next now : There) (turned : Turned) (given_one : Bool)
        (q : Result Bool MemStop) (r : Result Turned MailFault) → GoesOn turned
        → Played o (serve_text given tohost) s (Ok turned) mid → q ≡ Ok given_one
        → Played o (give_text fromhost) mid q next → Played o (turns_text given n) next r now
        → Made (suc n) book s r now
    goes n rest book s mid next now turned given_one q r on p e g t =
        let after = rest (later mid book) next now r t in
        let give = subst (λ (z : Result Bool MemStop). Played o (give_text fromhost) mid z next) e g in
        (after.0, goes_on turned mid given_one next on p give after.1)

    -- it was refused
    stops : (n : ℕ) (book : Book) (s mid now : There) (turned : Turned) (why : MemStop) (q : Result Bool MemStop)
        (r : Result Turned MailFault) → GoesOn turned → Played o (serve_text given tohost) s (Ok turned) mid
        → q ≡ Err why → Played o (give_text fromhost) mid q now → r ≡ Err (Port why) → Made (suc n) book s r now
    stops n book s mid now turned why q r on p e g is =
        let give = subst (λ (z : Result Bool MemStop). Played o (give_text fromhost) mid z now) e g in
        moved is (later mid book, give_refused turned mid why on p give)

    exit-ends : (n : ℕ) (book : Book) (s mid m now : There) (status : ℕ) (r : Result Turned MailFault)
        → Played o (serve_text given tohost) s (Ok (Exited status)) mid → m ≡ mid
        → Played o (unless_exited (Exited status) (turns_text given n)) m r now → Made (suc n) book s r now
    exit-ends n book s mid m now status r p same (ended e stays) =
        let P : There → Type 0 = λ z. Played o (serve_text given tohost) s (Ok (Exited status)) z in
        let there : Played o (serve_text given tohost) s (Ok (Exited status)) now = subst P (sym (stays ∙ same)) p in
        moved e (later now book, has_exited status there)

    -- an exit, behind which no turn comes
    exits : (n : ℕ) (book : Book) (s mid m now : There) (status : ℕ) (other : Turned) (r : Result Turned MailFault)
        → Played o (serve_text given tohost) s (Ok (Exited status)) mid
        → ◌≡◌ {A = Result Turned MailFault} (Ok other) (Ok (Exited status)) → m ≡ mid
        → Played o (unless_exited other (turns_text given n)) m r now → Made (suc n) book s r now
    exits n book s mid m now status other r p e same t = exit-ends n book s mid m now status r p same
        (behind n other (Exited status) e t)

    -- a refused part on fromhost
    gives-refused : (n : ℕ) (book : Book) (s mid now : There) (turned : Turned) (k : Bool → Turned) (fault : MailFault)
        (q r : Result Turned MailFault) → GoesOn turned → Played o (serve_text given tohost) s (Ok turned) mid
        → q ≡ Err fault → Played o (then_do Port (give_text fromhost) (λ b. Done (k b))) mid q now → r ≡ Err fault
        → Made (suc n) book s r now
    gives-refused n book s mid now turned k fault q r on p e l is =
        elim (then-split o Port (λ b. Done (k b)) (give_text fromhost) l) [
          | both b z next f g (ended done same) ↦
              let no : ⊥ = (let bad : Ok (k b) ≡ Err fault = sym done ∙ e in cc) in absurd no
          | first why z f g at ↦ stops n book s mid now turned why z r on p f g (is ∙ sym e ∙ at)
        ]

    -- a refused part on tohost
    serve-refused : (n : ℕ) (book : Book) (s now : There) (fault why : MailFault) (q z r : Result Turned MailFault)
        → q ≡ Err fault → z ≡ Err why → Played o (serve_text given tohost) s z now → q ≡ Err why → r ≡ Err fault
        → Made (suc n) book s r now
    serve-refused n book s now fault why q z r e f a at is =
        let serve = subst (λ (x : Result Turned MailFault). Played o (serve_text given tohost) s x now) f a in
        moved (is ∙ sym e ∙ at) (later now book, serve_refused why serve)

    none-made : (book : Book) (s now : There) (r : Result Turned MailFault) → r ≡ Ok Idle → now ≡ s
        → Made zero book s r now
    none-made book s now r e same =
        subst (λ (z : There). Made zero book s r z) (sym same) (moved e (book, all_made))

    -- behind a part on tohost that was no exit
    gives : (n : ℕ) (rest : Rest n) (book : Book) (s mid m now : There) (turned other : Turned)
        (k : Bool → Turned) (q r : Result Turned MailFault) → GoesOn turned
        → ((b : Bool) (z : There) → Played o (unless_exited (k b) (turns_text given n)) z r now
        → Played o (turns_text given n) z r now)
        → Played o (serve_text given tohost) s (Ok turned) mid → q ≡ Ok other
        → Played o (then_do Port (give_text fromhost) (λ b. Done (k b))) mid q m
        → Played o (unless_exited other (turns_text given n)) m r now → Made (suc n) book s r now
    gives n rest book s mid m now turned other k q r on rests p e l t =
        elim (then-split o Port (λ b. Done (k b)) (give_text fromhost) l) [
          | both b z next_at f g (ended done same) ↦
              let here = subst (λ (x : There). Played o (unless_exited other (turns_text given n)) x r now) same t in
              goes n rest book s mid next_at now turned b z r on p f g
              (rests b next_at (behind n other (k b) (sym e ∙ done) here))
          | first why z f g is ↦ let no : ⊥ = (let bad : Ok other ≡ Err (Port why) = sym e ∙ is in cc) in absurd no
        ]

    -- a turn that was made, and those behind it
    turn-made : (n : ℕ) (rest : Rest n) (book : Book) (s mid m now : There) (turned other : Turned)
        (q r : Result Turned MailFault) → Played o (serve_text given tohost) s (Ok turned) mid → q ≡ Ok other
        → Played o (after_text fromhost turned) mid q m
        → Played o (unless_exited other (turns_text given n)) m r now → Made (suc n) book s r now
    turn-made n rest book s mid m now Idle other q r p e l t =
        gives n rest book s mid m now Idle other gave q r idle (λ b z t. gave-behind n b t) p e l t
    turn-made n rest book s mid m now Served other q r p e l t =
        gives n rest book s mid m now Served other (λ b. Served) q r served (λ b z t. t) p e l t
    turn-made n rest book s mid m now Answered other q r p e (ended f same) t =
        let here : Played o (turns_text given n) mid r now =
        subst (λ (x : There). Played o (turns_text given n) x r now) same (behind n other Answered (sym e ∙ f) t) in
        let after = rest (later mid book) mid now r here in
        (after.0, has_answered mid p after.1)
    turn-made n rest book s mid m now (Exited status) other q r p e (ended f same) t =
        exits n book s mid m now status other r p (sym e ∙ f) same t

    turn-refused : (n : ℕ) (book : Book) (s mid now : There) (turned : Turned) (fault : MailFault)
        (q r : Result Turned MailFault) → Played o (serve_text given tohost) s (Ok turned) mid → q ≡ Err fault
        → Played o (after_text fromhost turned) mid q now → r ≡ Err fault → Made (suc n) book s r now
    turn-refused n book s mid now Idle fault q r p e l is =
        gives-refused n book s mid now Idle gave fault q r idle p e l is
    turn-refused n book s mid now Served fault q r p e l is =
        gives-refused n book s mid now Served (λ b. Served) fault q r served p e l is
    turn-refused n book s mid now Answered fault q r p e (ended f same) is =
        let no : ⊥ = (let bad : Ok Answered ≡ Err fault = sym f ∙ e in cc) in absurd no
    turn-refused n book s mid now (Exited status) fault q r p e (ended f same) is =
        let no : ⊥ = (let bad : Ok (Exited status) ≡ Err fault = sym f ∙ e in cc) in absurd no

    one-turn : (n : ℕ) (rest : Rest n) (book : Book) (s now : There) (r : Result Turned MailFault)
        → Played o (then_do same_fault (turn_text given tohost fromhost)
        (λ turned. unless_exited turned (turns_text given n))) s r now → Made (suc n) book s r now
    one-turn n rest book s now r p =
        elim (then-split o same_fault (λ turned. unless_exited turned (turns_text given n))
        (turn_text given tohost fromhost) p) [
          | both other q m e l t ↦ elim (then-split o same_fault (after_text fromhost) (serve_text given tohost) l) [
            | both turned z mid f a b ↦
                turn-made n rest book s mid m now turned other q r
                (subst (λ (x : Result Turned MailFault). Played o (serve_text given tohost) s x mid) f a) e b t
            | first fault z f a is ↦
                let no : ⊥ = (let bad : Ok other ≡ Err fault = sym e ∙ is in cc) in absurd no
          ]
          | first fault q e l is ↦ elim (then-split o same_fault (after_text fromhost) (serve_text given tohost) l) [
            | both turned z mid f a b ↦
                turn-refused n book s mid now turned fault q r
                (subst (λ (x : Result Turned MailFault). Played o (serve_text given tohost) s x mid) f a) e b is
            | first why z f a same ↦ serve-refused n book s now fault why q z r e f a same is
          ]
        ]

    turns-made : (n : ℕ) → Rest n
    unfolding turns_text
    turns-made zero book s now r (ended e same) = none-made book s now r e same
    turns-made (suc n) book s now r p = one-turn n (turns-made n) book s now r p

-- ---- what comes before the turns
module _ {X F I C : Type 0} (o : Acts X F I C) (next : Mail) where
  abbrev Here : Type 0
  Here = At X F I C Kept

  -- the session did not begin, or it did, and the next thing was done
  data Beginning (ranges : List Range) (s : Here) (r : Result Turned MailFault) (now : Here) : Type 0 where
    was_refused : (fault : MailFault) → r ≡ Err fault → Played o (begin_text ranges) s (Err fault) now
        → Beginning ranges s r now
    was_begun : (mid : Here) → Played o (begin_text ranges) s (Ok Idle) mid → Played o next mid r now
        → Beginning ranges s r now

  begun-by : (ranges : List Range) {s now : Here} {r : Result Turned MailFault}
      → Played o (load_text ranges (Write start_word (to_le_bytes w64 1) Port next)) s r now → Beginning ranges s r now
  begun-by [] {s = s} (has_written {x = x} d p) = was_begun (record s { port = x }) (has_written d (ended refl refl)) p
  begun-by [] (write_stopped {why = why} d e same) = was_refused (Port why) e (write_stopped d refl same)
  begun-by (range ∷ more) (has_written d p) = elim (begun-by more p) [
    | was_refused fault e q ↦ was_refused fault e (has_written d q)
    | was_begun mid q rest ↦ was_begun mid (has_written d q) rest
  ]
  begun-by (range ∷ more) (write_stopped {why = why} d e same) = was_refused (Port why) e (write_stopped d refl same)

pub text-session : {X F I C : Type 0} (o : Acts X F I C) (hart : X → HartState) (given : Setting) (ranges : List Range)
    (n : ℕ) (s now : At X F I C Kept) (r : Result Turned MailFault)
    → Played o (session_text given ranges n) s r now → (last : Book) × SessionMade o hart given ranges n s r last now
text-session o hart given ranges n s now r p =
    elim (begun-by o (turns_text given n) ranges p) [
      | was_refused fault e q ↦
          let S : Result Turned MailFault → Type 0 =
          λ z. (last : Book) × SessionMade o hart given ranges n s z last now in
          subst S (sym e) (first_book, not_begun fault q)
      | was_begun mid q rest ↦
          let made = turns-made o given hart n first_book mid now r rest in
          (made.0, has_begun mid q made.1)
    ]

pub texts_are_sessions : TextsAreSessions
texts_are_sessions given ranges n s now r p =
    text-session seen_acts (λ (sys : System). sys.hart) given ranges n s now r p
