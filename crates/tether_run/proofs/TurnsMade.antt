-- Host turns from where a session stands, one after the other.
use Rattle.std.proofs.Common.{ℕ, Bool, refl, arith}
use Rattle.std.specs.Prelude.{Result, Ok, Err}
use Rattle.chunk_memory.specs.declared.stops.MemStop.{MemStop}
use Rattle.fe_base.specs.MemoryMap.{fromhost, tohost}
use Rattle.host_text.specs.Laws.{then-ok, then-err}
use Rattle.host_text.specs.Played.{Played, ended as done}
use Rattle.host_text.specs.Text.{Done, then_do}
use Rattle.htif_mailbox.specs.Turns.{Mail, give_text, serve_text}
use Rattle.htif_mailbox.specs.declared.answers.MailFault.{MailFault}
use Rattle.htif_mailbox.specs.declared.answers.MailFault.TheVariants.{Port}
use Rattle.htif_mailbox.specs.declared.answers.Turned.{Turned}
use Rattle.htif_mailbox.specs.declared.answers.Turned.TheVariants.{Idle, Answered, Served, Exited}
use Rattle.plain_machine.specs.Starts.{Configuration, setting_of}
use Rattle.rv_hart.specs.HartStep.{System}
use Rattle.rv_hart.specs.Laws.{IsSystem}
use Rattle.syscall_proxy.specs.Kept.{Setting}
use Rattle.tether_base.proofs.WordWalk.{steps_never_fall}
use Rattle.tether_base.specs.Place.{Book, noted_in}
use Rattle.tether_base.specs.SeenWords.{StepsKept}
use Rattle.tether_base.specs.Serving.{Here}
use Rattle.tether_base.specs.ToldActs.{seen_acts}
use Rattle.tether_run.proofs.GiveHands.{gives_hands}
use Rattle.tether_run.proofs.HandSteps.{hand-fits}
use Rattle.tether_run.proofs.ServeHands.{serves_hands}
use Rattle.tether_run.specs.Hands.{Standing}
use Rattle.tether_run.specs.HostTurns.{ComesTo, CountsOn, FitsMainVars, GoesOn, HostTurns, TurnsAgree, idle, served}
use Rattle.tether_run.specs.HostTurns.{all_made, has_exited, serve_refused, give_refused, has_answered, goes_on}

-- ---- the count of user steps
pub kept-then : (a b c : System) → StepsKept a b → StepsKept b c → StepsKept a c
kept-then a b c one two = record { fits = two.fits; later = omega (arith, one.later, two.later) }

-- nothing comes behind
abbrev nothing : Bool → Mail
nothing gave = Done Idle

give-kept : (s now : Here) (r : Result Bool MemStop) → IsSystem s.port → Played seen_acts (give_text fromhost) s r now
    → StepsKept s.port now.port
give-kept s now (Ok gave) fits p =
    steps_never_fall.followed (then_do Port (give_text fromhost) nothing) s now (Ok Idle) fits
    (then-ok seen_acts Port nothing gave refl p (done refl refl))
give-kept s now (Err why) fits p =
    steps_never_fall.followed (then_do Port (give_text fromhost) nothing) s now (Err (Port why)) fits
    (then-err seen_acts Port nothing why refl p)

module _ (given : Setting) where
  abbrev Made : ℕ → Book → Here → Result Turned MailFault → Book → Here → Type 0
  Made n book s r last now = HostTurns seen_acts (λ (sys : System). sys.hart) given n book s r last now

  serve-kept : (s now : Here) (r : Result Turned MailFault) → IsSystem s.port
      → Played seen_acts (serve_text given tohost) s r now → StepsKept s.port now.port
  serve-kept s now r fits p = steps_never_fall.followed (serve_text given tohost) s now r fits p

  pub turns-kept : {n : ℕ} {book last : Book} {s now : Here} {r : Result Turned MailFault} → IsSystem s.port
      → Made n book s r last now → StepsKept s.port now.port
  turns-kept fits all_made = record { fits = fits; later = omega arith }
  turns-kept {s = s} {now = now} fits (has_exited status p) = serve-kept s now (Ok (Exited status)) fits p
  turns-kept {s = s} {now = now} fits (serve_refused fault p) = serve-kept s now (Err fault) fits p
  turns-kept {s = s} {now = now} fits (give_refused turned mid why on p g) =
      let first = serve-kept s mid (Ok turned) fits p in
      kept-then s.port mid.port now.port first (give-kept mid now (Err why) first.fits g)
  turns-kept {s = s} {now = now} fits (has_answered mid p rest) =
      let first = serve-kept s mid (Ok Answered) fits p in
      kept-then s.port mid.port now.port first (turns-kept first.fits rest)
  turns-kept {s = s} {now = now} fits (goes_on turned mid gave next on p g rest) =
      let first = serve-kept s mid (Ok turned) fits p in
      let second = give-kept mid next (Ok gave) first.fits g in
      kept-then s.port mid.port now.port first
      (kept-then mid.port next.port now.port second (turns-kept second.fits rest))

-- a part on tohost that was no exit leaves the session standing
stands-on : (c : Configuration) (turned : Turned) (book : Book) (s : Here) → GoesOn turned
    → ComesTo c (Ok turned) book s → Standing c book s
stands-on c Idle book s idle stands = stands
stands-on c Served book s served stands = stands
stands-on c Answered book s on stands = elim on [ ]
stands-on c (Exited status) book s on stands = elim on [ ]

module _ (c : Configuration) (fits : FitsMainVars c) where
  abbrev given : Setting
  given = setting_of c

  abbrev later : Here → Book → Book
  later s book = noted_in s.kept.acted s.port.hart book

  turns-come : {n : ℕ} {book last : Book} {s now : Here} {r : Result Turned MailFault} → CountsOn now
      → Standing c book s → Made given n book s r last now → ComesTo c r last now
  turns-come small stands all_made = stands
  turns-come {book = book} {s = s} {now = now} small stands (has_exited status p) =
      serves_hands c book s now (Ok (Exited status)) fits small stands p
  turns-come {book = book} {s = s} {now = now} small stands (serve_refused fault p) =
      serves_hands c book s now (Err fault) fits small stands p
  turns-come {book = book} {s = s} {now = now} small stands (give_refused turned mid why on p g) =
      let first = serve-kept given s mid (Ok turned) (hand-fits stands.hand) p in
      let second = give-kept mid now (Err why) first.fits g in
      let small_mid : CountsOn mid = omega (arith, small, second.later) in
      let there = stands-on c turned (later mid book) mid on
      (serves_hands c book s mid (Ok turned) fits small_mid stands p) in
      gives_hands c (later mid book) mid now (Err why) small there g
  turns-come {book = book} {s = s} {now = now} small stands (has_answered mid p rest) =
      let first = serve-kept given s mid (Ok Answered) (hand-fits stands.hand) p in
      let second = turns-kept given first.fits rest in
      let small_mid : CountsOn mid = omega (arith, small, second.later) in
      turns-come small (serves_hands c book s mid (Ok Answered) fits small_mid stands p) rest
  turns-come {book = book} {s = s} {now = now} small stands (goes_on turned mid gave next on p g rest) =
      let first = serve-kept given s mid (Ok turned) (hand-fits stands.hand) p in
      let second = give-kept mid next (Ok gave) first.fits g in
      let third = turns-kept given second.fits rest in
      let small_next : CountsOn next = omega (arith, small, third.later) in
      let small_mid : CountsOn mid = omega (arith, small_next, second.later) in
      let there = stands-on c turned (later mid book) mid on
      (serves_hands c book s mid (Ok turned) fits small_mid stands p) in
      turns-come small (gives_hands c (later mid book) mid next (Ok gave) small_next there g) rest

pub turns_agree : TurnsAgree
turns_agree c n book last s now r fits small stands made = turns-come c fits small stands made
