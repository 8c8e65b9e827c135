-- A session from reset: the ranges are written while the hart is held, the hart begins, and host turns are made.
use Rattle.std.proofs.Common.{◌≡◌, ◌+◌, ◌-◌, ℕ, false, List, [], refl, sym, ap, subst, ◌∙◌, arith}
use Rattle.std.specs.Prelude.{Some, None, Result, Ok, Err}
use Rattle.guest_memory.proofs.AreaLemmas.{IsBus-reset}
use Rattle.guest_memory.specs.Bus.{BusState, IsBus, reset_bus}
use Rattle.host_text.specs.Played.{Played, ended as done}
use Rattle.host_text.specs.Text.{Done}
use Rattle.host_text.specs.World.{World, first_numbers}
use Rattle.htif_mailbox.specs.declared.answers.MailFault.{MailFault}
use Rattle.htif_mailbox.specs.declared.answers.Turned.{Turned}
use Rattle.htif_mailbox.specs.declared.answers.Turned.TheVariants.{Idle, Answered, Served, Exited}
use Rattle.plain_machine.proofs.FirstWorld.{is_world}
use Rattle.plain_machine.specs.Direct.{ended, status_of}
use Rattle.plain_machine.specs.Starts.{Configuration, direct_start, first_world, setting_of, state_after}
use Rattle.rv_hart.specs.HartStep.{System, over, reset_hart}
use Rattle.rv_hart.specs.Laws.{IsSystem}
use Rattle.syscall_proxy.specs.Kept.{Kept, kept}
use Rattle.syscall_proxy.specs.Worlds.{IsWorld}
use Rattle.target_box.specs.Turn.{ran}
use Rattle.tether_base.proofs.Loaded.{loads_hold, starts_hart}
use Rattle.tether_base.proofs.WordWalk.{steps_never_fall}
use Rattle.tether_base.specs.Loading.{IsHeldOver, Loading, Starting, loaded_bus, was_loaded, not_loaded}
use Rattle.tether_base.specs.Loading.{has_begun as hart_begun, not_begun as hart_not_begun, begun_and_cut}
use Rattle.tether_base.specs.Place.{Book, place}
use Rattle.tether_base.specs.Serving.{GiveLeaves, Here, TellsAll}
use Rattle.tether_base.specs.Texts.{loads_of}
use Rattle.tether_base.specs.ToldActs.{seen_acts}
use Rattle.tether_boot.proofs.Images.{loads_stand_inside}
use Rattle.tether_boot.specs.Booting.{started_bus}
use Rattle.tether_run.proofs.HandSteps.{hands_stay, reset-fits}
use Rattle.tether_run.proofs.Placed.{hand-open, none-earlier, placed-first, placed-open, standing_is_open}
use Rattle.tether_run.proofs.TurnsMade.{turns-kept, turns_agree}
use Rattle.tether_run.specs.Hands.{Hand, Standing, starts}
use Rattle.tether_run.specs.HostTurns.{ComesTo, CountsOn, IsOpen, IsOver, at_place}
use Rattle.tether_run.specs.Sessions.{IsSessionOf, RanHere, SessionMade, SessionsAgree, begin_text, exits_with}
use Rattle.tether_run.specs.Sessions.{first_book, first_here, has_begun, not_begun}

-- ---- what is answered
-- no answer but an exit is one
abbrev NoExit : Result Turned MailFault → Type 0
NoExit r = (status : ℕ) → exits_with r status → ⊥

-- an open session agrees as a run
open-ran : (c : Configuration) (r : Result Turned MailFault) (book : Book) (s : Here) → NoExit r → IsOpen c book s
    → RanHere c r book s
open-ran c r book s none opens =
    let steps : ℕ = place s.port.hart book in
    let not_ended : (status : ℕ) → (at_place c book s).machine ≡ ended status → ⊥ =
    λ status e. let bad : None ≡ Some status = sym opens.goes_on ∙ ap status_of e in let no : ⊥ = cc in no in
    record {
      ran = record {
        contents = opens.agrees.contents;
        earlier = λ n less. none-earlier (setting_of c) (direct_start c) (steps - n) n
            (let same : n + (steps - n) ≡ steps = omega (arith, less) in
            ap (λ (k : ℕ). status_of (state_after k c).machine) same ∙ opens.goes_on);
        exited = λ status. ((λ e. absurd (none status e)), (λ e. absurd (not_ended status e)));
      };
      user = opens.agrees.user;
    }

-- so does one that is over
over-ran : (c : Configuration) (status : ℕ) (book : Book) (s : Here) → IsOver c book s status
    → RanHere c (Ok (Exited status)) book s
over-ran c status book s over_now =
    let before : ℕ = over_now.before in
    let same_status : (other : ℕ) → exits_with (Ok (Exited status)) other → status ≡ other = λ other e. cc in
    let same_end : (other : ℕ) → (at_place c book s).machine ≡ ended other → status ≡ other =
    λ other e. let both : ended status ≡ ended other = sym over_now.ends ∙ e in cc in
    record {
      ran = record {
        contents = over_now.agrees.contents;
        earlier = λ n less. none-earlier (setting_of c) (direct_start c) (before - n) n
            (let same : n + (before - n) ≡ before = omega (arith, less, over_now.counted) in
            ap (λ (k : ℕ). status_of (state_after k c).machine) same ∙ over_now.earlier);
        exited = λ other. (
          (λ e. over_now.ends ∙ ap ended (same_status other e)),
          (λ e. ap (λ (n : ℕ). Ok (Exited n)) (same_end other e)),
        );
      };
      user = over_now.agrees.user;
    }

comes-ran : (c : Configuration) (r : Result Turned MailFault) (book : Book) (s : Here) → ComesTo c r book s
    → RanHere c r book s
comes-ran c (Ok Idle) book s stands =
    open-ran c (Ok Idle) book s (λ status e. let no : ⊥ = cc in no) (standing_is_open c book s stands)
comes-ran c (Ok Answered) book s stands =
    open-ran c (Ok Answered) book s (λ status e. let no : ⊥ = cc in no) (standing_is_open c book s stands)
comes-ran c (Ok Served) book s stands =
    open-ran c (Ok Served) book s (λ status e. let no : ⊥ = cc in no) (standing_is_open c book s stands)
comes-ran c (Ok (Exited status)) book s over_now = over-ran c status book s over_now
comes-ran c (Err fault) book s opens = open-ran c (Err fault) book s (λ status e. let no : ⊥ = cc in no) opens

-- ---- before the first host turn
module _ (kernel : List ℕ) (c : Configuration) (is : IsSessionOf kernel c) where
  abbrev w : World
  w = first_world c.contents

  abbrev nothing : Kept
  nothing = kept first_numbers false []

  abbrev Told : Here → Type 0
  Told s = TellsAll w.contents nothing s

  in-world : IsWorld w
  in-world = is_world first_numbers refl c.contents.tree is.formed

  left-told : (before s : Here) → Told before → GiveLeaves before before.kept s → Told s
  left-told before s told left = record {
    tree_is = left.folder_is ∙ told.tree_is;
    input_is = left.input_is ∙ told.input_is;
    console_is = left.console_is ∙ told.console_is;
    kept_is = left.kept_is ∙ told.kept_is;
  }

  -- while the hart is held nothing of the program was done
  held-open : (bus : BusState) (s : Here) → IsHeldOver bus s.port → Told s → IsOpen c first_book s
  held-open bus s held told =
      placed-open c w first_book nothing s told
      (placed-first c w first_book nothing s refl (record {
        in_machine = ap (λ (z : System). z.hart.mode) held.is;
        no_steps = ap (λ (z : System). z.hart.user_steps) held.is;
        noted = refl;
        silent = refl;
      }) told)

  -- behind the write of the start word
  started-hand : (bus : BusState) (mid : System) → IsBus bus → bus ≡ loaded_bus (loads_of kernel c.image) reset_bus
      → mid ≡ over (record bus { start = 1 }) reset_hart → Hand c w first_book [] mid
  started-hand bus mid fits loaded same =
      let there : record bus { start = 1 } ≡ started_bus kernel c.image 1 =
      ap (λ (b : BusState). record b { start = 1 }) loaded in
      starts refl (record {
        kernel = kernel;
        is_kernel = is.is_kernel;
        is_fit = is.is_fit;
        is = same ∙ ap (λ (b : BusState). over b reset_hart) there;
        bus_fits = subst IsBus loaded fits;
        world_is = refl;
        noted = refl;
        silent = refl;
      })

  stands-there : (s : Here) → Told s → Hand c w first_book [] s.port → Standing c first_book s
  stands-there s told hand = record {
    world = w;
    in_a_world = in-world;
    waiting = [];
    acted = false;
    tells = told;
    hand = hand;
  }

  started : (bus : BusState) (s now : Here) (r : Result Turned MailFault) → CountsOn now → IsBus bus
      → bus ≡ loaded_bus (loads_of kernel c.image) reset_bus → Told s → Starting (Done Idle) bus s r now
      → ComesTo c r first_book now
  started bus s now r small fits loaded told (hart_begun mid steps after same on left (done e stays)) =
      let C : Result Turned MailFault → Type 0 = λ z. ComesTo c z first_book now in
      let on_now : ran mid steps now.port = subst (λ (z : Here). ran mid steps z.port) (sym stays) on in
      let told_now : Told now = subst Told (sym stays) (left-told s after told left) in
      subst C (sym e) (stands-there now told_now
      (hands_stay c w first_book [] mid now.port steps in-world small on_now (started-hand bus mid fits loaded same)))
  started bus s now r small fits loaded told (hart_not_begun why e held left) =
      let C : Result Turned MailFault → Type 0 = λ z. ComesTo c z first_book now in
      subst C (sym e) (held-open bus now held (left-told s now told left))
  started bus s now r small fits loaded told (begun_and_cut why mid steps e same on left) =
      let C : Result Turned MailFault → Type 0 = λ z. ComesTo c z first_book now in
      subst C (sym e) (hand-open c w first_book [] nothing now (left-told s now told left)
      (hands_stay c w first_book [] mid now.port steps in-world small on (started-hand bus mid fits loaded same)))

  loaded-comes : (s now : Here) (r : Result Turned MailFault) → CountsOn now → Told s
      → Loading (loads_of kernel c.image) (begin_text []) reset_bus s r now → ComesTo c r first_book now
  loaded-comes s now r small told (was_loaded mid held left p) =
      let bus : BusState = loaded_bus (loads_of kernel c.image) reset_bus in
      started bus mid now r small held.fits refl (left-told s mid told left)
      (starts_hart (Done Idle) bus mid now r held p)
  loaded-comes s now r small told (not_loaded why left_bus e held left) =
      let C : Result Turned MailFault → Type 0 = λ z. ComesTo c z first_book now in
      subst C (sym e) (held-open left_bus now held (left-told s now told left))

  begins : (now : Here) (r : Result Turned MailFault) → CountsOn now
      → Played seen_acts (begin_text (loads_of kernel c.image)) (first_here c) r now → ComesTo c r first_book now
  begins now r small p =
      let inside = loads_stand_inside kernel c.image is.is_kernel is.is_fit in
      let held : IsHeldOver reset_bus (first_here c).port =
      record { is = refl; fits = IsBus-reset; unstarted = refl } in
      loaded-comes (first_here c) now r small
      (record { tree_is = refl; input_is = refl; console_is = refl; kept_is = refl })
      (loads_hold (loads_of kernel c.image) (begin_text []) reset_bus (first_here c) now r inside held p)

  -- numbers fit behind it
  fits-behind : (mid : Here) → Played seen_acts (begin_text (loads_of kernel c.image)) (first_here c) (Ok Idle) mid
      → IsSystem mid.port
  fits-behind mid p =
      let fits : IsSystem (first_here c).port = record { hart_fits = reset-fits; bus_fits = IsBus-reset } in
      (steps_never_fall.followed (begin_text (loads_of kernel c.image)) (first_here c) mid (Ok Idle) fits p).fits

  -- ---- the session
  made : (n : ℕ) (now : Here) (r : Result Turned MailFault) (last : Book) → CountsOn now
      → SessionMade seen_acts (λ (sys : System). sys.hart) (setting_of c) (loads_of kernel c.image) n (first_here c) r
      last now → ComesTo c r last now
  made n now r last small (not_begun fault p) = begins now (Err fault) small p
  made n now r last small (has_begun mid p turns) =
      let fits = fits-behind mid p in
      let kept_on = turns-kept (setting_of c) fits turns in
      let small_mid : CountsOn mid = omega (arith, small, kept_on.later) in
      turns_agree c n first_book last mid now r is.fits small (begins mid (Ok Idle) small_mid p) turns

pub sessions_agree : SessionsAgree
sessions_agree kernel c n now r last is small session =
    comes-ran c r last now (made kernel c is n now r last small session)
