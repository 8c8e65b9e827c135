-- A session over a target behind a line is one over what is seen of it.
use Rattle.std.proofs.Common.{◌≡◌, ℕ, Bool, true, false, List, refl, sym, subst}
use Rattle.std.specs.Prelude.{Result, Ok, Err}
use Rattle.chunk_memory.specs.declared.stops.MemStop.{MemStop}
use Rattle.fe_base.specs.MemoryMap.{fromhost, tohost}
use Rattle.host_text.specs.Laws.{both, first, then-ok, then-err, then-split}
use Rattle.host_text.specs.Played.{Played, ended}
use Rattle.host_text.specs.Text.{Done, then_do}
use Rattle.htif_mailbox.specs.Turns.{Mail, gave, give_text, serve_text}
use Rattle.htif_mailbox.specs.declared.answers.MailFault.{MailFault}
use Rattle.htif_mailbox.specs.declared.answers.MailFault.TheVariants.{Port}
use Rattle.htif_mailbox.specs.declared.answers.Turned.{Turned}
use Rattle.htif_mailbox.specs.declared.answers.Turned.TheVariants.{Idle, Answered, Exited}
use Rattle.rv_hart.specs.HartStep.{System}
use Rattle.syscall_proxy.specs.Kept.{Setting}
use Rattle.target_box.specs.Lined.{IsDirectLine}
use Rattle.tether_base.proofs.LineSeen.{lines_are_seen}
use Rattle.tether_base.specs.Place.{Book}
use Rattle.tether_base.specs.Seen.{seen_at}
use Rattle.tether_base.specs.Serving.{Here}
use Rattle.tether_base.specs.Tethered.{TetherState}
use Rattle.tether_base.specs.Texts.{Range}
use Rattle.tether_base.specs.ToldActs.{line_acts, seen_acts}
use Rattle.tether_run.specs.HostTurns.{HostTurns, all_made, has_exited, serve_refused, give_refused, has_answered}
use Rattle.tether_run.specs.HostTurns.{goes_on}
use Rattle.tether_run.specs.Sessions.{SessionMade, SessionsAreSeen, begin_text, has_begun, line_hart}
use Rattle.tether_run.specs.Sessions.{not_begun}

-- what was given is told by the answer
gave-once : (a b : Bool) → gave a ≡ gave b → a ≡ b
gave-once true true e = refl
gave-once true false e = let no : ⊥ = (let bad : Answered ≡ Idle = e in cc) in absurd no
gave-once false true e = let no : ⊥ = (let bad : Idle ≡ Answered = e in cc) in absurd no
gave-once false false e = refl

-- behind the part on fromhost
abbrev behind : Bool → Mail
behind b = Done (gave b)

abbrev GiveSeen : Here → Result Bool MemStop → Here → Type 0
GiveSeen s r now = Played seen_acts (give_text fromhost) s r now

-- the part on fromhost, out of the text that has it
gave-there : (s now : Here) (given_one : Bool)
    → Played seen_acts (then_do Port (give_text fromhost) behind) s (Ok (gave given_one)) now
    → GiveSeen s (Ok given_one) now
gave-there s now given_one p = elim (then-split seen_acts Port behind (give_text fromhost) p) [
  | both b q m e l (ended f same) ↦
      let turned : gave given_one ≡ gave b = cc in
      let is : q ≡ Ok given_one = subst (λ (z : Bool). q ≡ Ok z) (sym (gave-once given_one b turned)) e in
      subst (λ (z : Here). GiveSeen s (Ok given_one) z) (sym same)
      (subst (λ (z : Result Bool MemStop). GiveSeen s z m) is l)
  | first why q e l is ↦ let no : ⊥ = cc in absurd no
]

refused-there : (s now : Here) (why : MemStop)
    → Played seen_acts (then_do Port (give_text fromhost) behind) s (Err (Port why)) now → GiveSeen s (Err why) now
refused-there s now why p = elim (then-split seen_acts Port behind (give_text fromhost) p) [
  | both b q m e l (ended f same) ↦ let no : ⊥ = cc in absurd no
  | first other q e l is ↦
      let same : other ≡ why = cc in
      let is_why : q ≡ Err why = subst (λ (z : MemStop). q ≡ Err z) same e in
      subst (λ (z : Result Bool MemStop). GiveSeen s z now) is_why l
]

-- it is seen, and the line goes on
record LineGave (s : TetherState) (r : Result Bool MemStop) (now : TetherState) : Type 0 where
  valid : IsDirectLine now.port
  there : GiveSeen (seen_at s) r (seen_at now)

give-seen : (s now : TetherState) (r : Result Bool MemStop) → IsDirectLine s.port
    → Played line_acts (give_text fromhost) s r now → LineGave s r now
give-seen s now (Ok given_one) valid p =
    let text : Mail = then_do Port (give_text fromhost) behind in
    let all = lines_are_seen text s now (Ok (gave given_one)) valid
    (then-ok line_acts Port behind given_one refl p (ended refl refl)) in
    record { valid = all.0.valid; there = gave-there (seen_at s) (seen_at now) given_one all.1 }
give-seen s now (Err why) valid p =
    let text : Mail = then_do Port (give_text fromhost) behind in
    let all = lines_are_seen text s now (Err (Port why)) valid (then-err line_acts Port behind why refl p) in
    record { valid = all.0.valid; there = refused-there (seen_at s) (seen_at now) why all.1 }

module _ (given : Setting) where
  turns-seen : {n : ℕ} {book last : Book} {s now : TetherState} {r : Result Turned MailFault} → IsDirectLine s.port
      → HostTurns line_acts line_hart given n book s r last now
      → HostTurns seen_acts (λ (sys : System). sys.hart) given n book (seen_at s) r last (seen_at now)
  turns-seen valid all_made = all_made
  turns-seen {s = s} {now = now} valid (has_exited status p) =
      has_exited status (lines_are_seen (serve_text given tohost) s now (Ok (Exited status)) valid p).1
  turns-seen {s = s} {now = now} valid (serve_refused fault p) =
      serve_refused fault (lines_are_seen (serve_text given tohost) s now (Err fault) valid p).1
  turns-seen {s = s} {now = now} valid (give_refused turned mid why on p g) =
      let serve = lines_are_seen (serve_text given tohost) s mid (Ok turned) valid p in
      let second = give-seen mid now (Err why) serve.0.valid g in
      give_refused turned (seen_at mid) why on serve.1 second.there
  turns-seen {s = s} {now = now} valid (has_answered mid p rest) =
      let serve = lines_are_seen (serve_text given tohost) s mid (Ok Answered) valid p in
      has_answered (seen_at mid) serve.1 (turns-seen serve.0.valid rest)
  turns-seen {s = s} {now = now} valid (goes_on turned mid gave_one next on p g rest) =
      let serve = lines_are_seen (serve_text given tohost) s mid (Ok turned) valid p in
      let second = give-seen mid next (Ok gave_one) serve.0.valid g in
      goes_on turned (seen_at mid) gave_one (seen_at next) on serve.1 second.there
      (turns-seen second.valid rest)

  session-seen : {ranges : List Range} {n : ℕ} {last : Book} {s now : TetherState} {r : Result Turned MailFault}
      → IsDirectLine s.port → SessionMade line_acts line_hart given ranges n s r last now
      → SessionMade seen_acts (λ (sys : System). sys.hart) given ranges n (seen_at s) r last (seen_at now)
  session-seen {ranges = ranges} {s = s} {now = now} valid (not_begun fault p) =
      not_begun fault (lines_are_seen (begin_text ranges) s now (Err fault) valid p).1
  session-seen {ranges = ranges} {s = s} valid (has_begun mid p turns) =
      let begun = lines_are_seen (begin_text ranges) s mid (Ok Idle) valid p in
      has_begun (seen_at mid) begun.1 (turns-seen begun.0.valid turns)

pub sessions_are_seen : SessionsAreSeen
sessions_are_seen given ranges n s now r last valid made = session-seen given valid made
