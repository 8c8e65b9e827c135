-- The host's part before the program runs: the main vars are written, and the answer to their call is given.
use Rattle.std.proofs.Common.{◌≡◌, ◌≢◌, ◌≤◌, ◌<◌, ◌+◌, ◌^◌, ◌%◌, ℕ, inl, inr, Bool, true, false, List, [], ◌∷◌}
use Rattle.std.proofs.Common.{refl, sym, ap, subst, ◌∙◌, arith}
use Rattle.std.specs.Prelude.{if◌then◌else◌, length, nat_lt, slice_set, Result, Err}
use Rattle.std.specs.Int.{to_le_bytes, w64}
use Rattle.std.proofs.lemmas.Bool.Decides.{nat_tests}
use Rattle.chunk_memory.specs.Reached.{Reached}
use Rattle.chunk_memory.specs.declared.stops.MemStop.{MemStop}
use Rattle.elf_loader.proofs.Texts.{length-main_vars_text}
use Rattle.elf_loader.specs.MainVars.{main_vars_text}
use Rattle.fe_base.specs.Access.{Stored}
use Rattle.fe_base.specs.Limits.{main_vars_limit, stack_top}
use Rattle.fe_base.specs.MemoryMap.{fromhost, request, tohost, user_end}
use Rattle.fe_base.specs.WordLists.{main_vars_length}
use Rattle.host_text.specs.Played.{Played, ended, noted, looked, has_read, read_stopped, has_written, write_stopped}
use Rattle.host_text.specs.Text.{then_do}
use Rattle.host_text.specs.World.{World}
use Rattle.host_text.specs.declared.open_numbers.Open.{Open}
use Rattle.htif_mailbox.specs.Commands.{command_of}
use Rattle.htif_mailbox.specs.Turns.{Mail, answer_text, awaits, call_answer, call_text, command_text, finish}
use Rattle.htif_mailbox.specs.Turns.{give_first, give_text, gone, request_text, word_text}
use Rattle.htif_mailbox.specs.declared.answers.MailFault.{MailFault}
use Rattle.htif_mailbox.specs.declared.answers.MailFault.TheVariants.{Call, Port as MailPort}
use Rattle.htif_mailbox.specs.declared.answers.Turned.{Turned}
use Rattle.kernel_sim.specs.Advance.{StepsAdvance, HostWritesHold}
use Rattle.kernel_sim.specs.Holds.{Holds}
use Rattle.kernel_sim.specs.Mail.{MailIs, mail_class}
use Rattle.kernel_sim.specs.Rows.{boot_request}
use Rattle.kernel_sim.specs.declared.phase.Phase.{Phase}
use Rattle.kernel_sim.specs.declared.phase.PhaseKind.{PhaseKind}
use Rattle.kernel_sim.specs.declared.phase.PhaseKind.TheVariants.{Boot, BootWait, BootTake, Leave, User, Save, Check}
use Rattle.kernel_sim.specs.declared.phase.PhaseKind.TheVariants.{Scan, Fill, Wait, Take, Local, Restore, Speak}
use Rattle.kernel_sim.specs.declared.phase.PhaseKind.TheVariants.{Closing}
use Rattle.plain_machine.specs.Starts.{Configuration, first_bytes, setting_of}
use Rattle.rv_hart.specs.HartStep.{System}
use Rattle.rv_hart.specs.Laws.{IsSystem}
use Rattle.syscall_proxy.specs.CallTable.{call_row, service_of}
use Rattle.syscall_proxy.specs.Kept.{Kept, Setting, acts, kept}
use Rattle.syscall_proxy.specs.RecordRows.{give_record, main_vars_row}
use Rattle.syscall_proxy.specs.Rows.{Row, refuse}
use Rattle.syscall_proxy.specs.declared.answers.CallAnswer.TheVariants.{Result as Value}
use Rattle.fe_base.specs.declared.error_numbers.ErrNo.TheVariants.{ENOMEM}
use Rattle.target_box.specs.Turn.{ran, touched}
use Rattle.tether_base.proofs.MailWords.{store-word, stop-word}
use Rattle.tether_base.specs.Place.{Book}
use Rattle.tether_base.specs.Serving.{GiveLeaves, Here, TellsAll}
use Rattle.tether_base.specs.ToldActs.{SeenWritten, seen_acts}
use Rattle.tether_boot.proofs.BootWaits.{BootHand, answer-written, boots-ran, fromhost-read, read-stopped}
use Rattle.tether_boot.proofs.BootWaits.{request-read, result-written, tohost-written, user-stopped, user-written}
use Rattle.tether_boot.specs.Booting.{is_answered, is_asked, is_carried_out, BehindBoot, IsBooting}
use Rattle.tether_boot.specs.Booting.{StartsUp, boots, asks, takes, leaves, image_bytes}
use Rattle.tether_boot.specs.Handing.{BootGiven, BootServed, GivesBoot, InBootWait, ServesBoot, given_and_cut}
use Rattle.tether_boot.specs.Handing.{has_handed, not_given, not_handed, was_given}

-- the word of a request asks for a call
request-command : (given : Setting) → command_text given request (command_of request) ≡ request_text given request
unfolding command_of
request-command given = refl

-- the kernel's first request asks for the main vars
boot-call : (given : Setting) (numbers : List Open) → call_row given numbers boot_request
    ≡ main_vars_row given.args 0x1000000 65536
unfolding service_of
boot-call given numbers = refl

-- the row of main vars that fit
boot-row : (given : Setting) (numbers : List Open) → main_vars_length given.args ≤ main_vars_limit
    → call_row given numbers boot_request ≡ give_record stack_top (main_vars_text given.args stack_top)
boot-row given numbers short =
    let fits : nat_lt 65536 (main_vars_length given.args) ≡ false = grind (arith, nat_tests) in
    boot-call given numbers
    ∙ ap (λ (b : Bool). if b then refuse ENOMEM else give_record stack_top (main_vars_text given.args stack_top)) fits

module _ (advance : StepsAdvance) (writes : HostWritesHold) (c : Configuration) (w : World) (book : Book) where
  -- ---- the call
  module _ (short : main_vars_length c.args ≤ main_vars_limit) where
    abbrev Comes : Result Turned MailFault → Here → Type 0
    Comes r s = BootServed c w book r s

    abbrev vars : List ℕ
    vars = main_vars_text c.args stack_top

    vars-inside : stack_top + length vars ≤ user_end
    vars-inside = omega (arith, length-main_vars_text c.args stack_top)

    abbrev Told : Bool → List ℕ → Here → Type 0
    Told acted ws s = TellsAll w.contents (kept w.numbers acted ws) s

    -- the port refused: nothing of the program was done, and nothing has changed outside
    stopped : (why : MemStop) (acted : Bool) (n : ℕ) (words user : List ℕ) (s : Here) {r : Result Turned MailFault}
        → r ≡ Err (MailPort why) → BootHand c w book n words user s.port → Told acted [] s → Comes r s
    stopped why acted n words user s e b told =
        not_handed (MailPort why) acted e b.set_up.booting told

    -- whether a word was written or not
    cut : (at value n m : ℕ) (words others user : List ℕ) (s now : System) (why : MemStop) → at % 8 ≡ 0
        → value < 2 ^ 64 → BootHand c w book n words user s
        → (Reached ran touched s (Stored at value ∷ []) now → BootHand c w book m others user now)
        → SeenWritten s at (to_le_bytes w64 value) (Err why) now → IsBooting c w book now
    cut at value n m words others user s now why even small b made d =
        elim (stop-word at value s now why even small d) [
          | inl k ↦ (boots-ran c w book advance n words user s now k.0 b k.1).set_up.booting
          | inr k ↦ (made k).set_up.booting
        ]

    -- the result is written, and the answer waits
    finishes : {s s' : Here} {r : Result Turned MailFault}
        → BootHand c w book 0 boot_request (first_bytes c.image c.args) s.port → Told true [] s
        → Played seen_acts (finish request (Value 0)) s r s' → Comes r s'
    finishes {s = s} {r = r} b told (has_written {x = x} d (noted {h = h} n (ended g same))) =
        let put = result-written c w book advance writes 0 boot_request (first_bytes c.image c.args) 0 s.port x
        (omega arith) b (store-word request 0 s.port x refl (omega arith) d) in
        let P : Here → Type 0 = λ z. Comes r z in
        subst P (sym same) (has_handed g
        (record {
          phase = put.phase;
          holds = put.holds;
          kind = put.kind;
          behind = (put.set_up, is_carried_out refl put.tohost_is put.unanswered put.user_is);
          fits = put.fits;
        })
        (record {
          tree_is = told.tree_is;
          input_is = told.input_is;
          console_is = told.console_is;
          kept_is = n ∙ ap (λ (k : Kept). awaits call_answer k) told.kept_is;
        }))
    finishes {s = s} {r = r} b told (write_stopped {x = x} {why = why} d g same) =
        let user : List ℕ = first_bytes c.image c.args in
        let P : Here → Type 0 = λ z. Comes r z in
        subst P (sym same) (not_handed (MailPort why) true g
        (cut request 0 0 0 boot_request (slice_set boot_request 0 0) user s.port x why refl (omega arith) b
        (λ k. result-written c w book advance writes 0 boot_request user 0 s.port x (omega arith) b k) d)
        (record {
          tree_is = told.tree_is;
          input_is = told.input_is;
          console_is = told.console_is;
          kept_is = told.kept_is;
        }))

    -- the main vars are written
    gives : {s s' : Here} {r : Result Turned MailFault} (acted : Bool)
        → BootHand c w book 0 boot_request (image_bytes c.image) s.port → Told acted [] s
        → Played seen_acts (then_do Call (give_record stack_top vars) (finish request)) s r s' → Comes r s'
    gives {s = s} {r = r} acted b told (noted {h = h} n (has_written {x = x} d p)) =
        let put = user-written c w book advance writes 0 boot_request s.port x (image_bytes c.image) stack_top vars
        (omega arith) vars-inside b d in
        finishes put (record {
          tree_is = told.tree_is;
          input_is = told.input_is;
          console_is = told.console_is;
          kept_is = n ∙ ap acts told.kept_is;
        }) p
    gives {s = s} {r = r} acted b told (noted {h = h} n (write_stopped {x = x} {why = why} d g same)) =
        let left = user-stopped c w book advance writes 0 boot_request s.port x (image_bytes c.image) stack_top vars why
        (omega arith) vars-inside b d in
        let P : Here → Type 0 = λ z. Comes r z in
        subst P (sym same) (not_handed _ true g left.1.set_up.booting
        (record {
          tree_is = told.tree_is;
          input_is = told.input_is;
          console_is = told.console_is;
          kept_is = n ∙ ap acts told.kept_is;
        }))

    handles : {s s' : Here} {r : Result Turned MailFault} (acted : Bool)
        → BootHand c w book 0 boot_request (image_bytes c.image) s.port → Told acted [] s
        → Played seen_acts (call_text (setting_of c) request boot_request) s r s' → Comes r s'
    handles {s = s} {s' = s'} {r = r} acted b told (looked p) =
        let T : Row → Type 0 = λ t. Played seen_acts (then_do Call t (finish request)) s r s' in
        gives acted b told (subst T (boot-row (setting_of c) s.kept.numbers short) p)

    -- the request is read
    requested : {s s' : Here} {r : Result Turned MailFault} (acted : Bool)
        → BootHand c w book 0 boot_request (image_bytes c.image) s.port → Told acted [] s
        → Played seen_acts (request_text (setting_of c) request) s r s' → Comes r s'
    requested {s = s} {s' = s'} {r = r} acted b told (has_read {x = x} {bytes = bytes} d next) =
        let got = request-read c w book advance 0 boot_request (image_bytes c.image) s.port x bytes b d in
        let T : List ℕ → Type 0 =
        λ l. Played seen_acts (call_text (setting_of c) request l) (record s { port = x }) r s' in
        handles acted got.0 (record {
          tree_is = told.tree_is;
          input_is = told.input_is;
          console_is = told.console_is;
          kept_is = told.kept_is;
        }) (subst T got.1 next)
    requested {s = s} {r = r} acted b told (read_stopped {x = x} {why = why} d g same) =
        let P : Here → Type 0 = λ z. Comes r z in
        let left = read-stopped c w book advance 0 boot_request (image_bytes c.image) s.port x request 64 why b d in
        subst P (sym same) (stopped why acted 0 boot_request (image_bytes c.image) (record s { port = x }) g left
        (record {
          tree_is = told.tree_is;
          input_is = told.input_is;
          console_is = told.console_is;
          kept_is = told.kept_is;
        }))

    -- TOHOST is cleared
    clears : {s s' : Here} {r : Result Turned MailFault} (acted : Bool)
        → BootHand c w book request boot_request (image_bytes c.image) s.port → Told acted [] s
        → Played seen_acts (word_text (setting_of c) tohost request) s r s' → Comes r s'
    clears {s = s} {s' = s'} {r = r} acted b told (has_written {x = x} d next) =
        let put = tohost-written c w book advance writes request boot_request (image_bytes c.image) s.port x b
        (store-word tohost 0 s.port x refl (omega arith) d) in
        let T : Mail → Type 0 = λ t. Played seen_acts t (record s { port = x }) r s' in
        requested acted put (record {
          tree_is = told.tree_is;
          input_is = told.input_is;
          console_is = told.console_is;
          kept_is = told.kept_is;
        }) (subst T (request-command (setting_of c)) next)
    clears {s = s} {r = r} acted b told (write_stopped {x = x} {why = why} d g same) =
        let user : List ℕ = image_bytes c.image in
        let P : Here → Type 0 = λ z. Comes r z in
        subst P (sym same) (not_handed (MailPort why) acted g
        (cut tohost 0 request 0 boot_request boot_request user s.port x why refl (omega arith) b
        (λ k. tohost-written c w book advance writes request boot_request user s.port x b k) d)
        (record {
          tree_is = told.tree_is;
          input_is = told.input_is;
          console_is = told.console_is;
          kept_is = told.kept_is;
        }))

  -- ---- the hand
  module _ (ws : List ℕ) (p : Phase) (sys : System) (held : Holds p sys) (fits : IsSystem sys) where
    -- a word in TOHOST is the request for the main vars
    pub record IsAsked : Type 0 where
      pub none_waits : ws ≡ []
      pub asked_is : p.tohost ≡ request
      pub hand : BootHand c w book request boot_request (image_bytes c.image) sys

    quiet : (k : PhaseKind) → p.kind ≡ k → MailIs (mail_class k) p.tohost p.fromhost
    quiet k e = subst (λ (z : PhaseKind). MailIs (mail_class z) p.tohost p.fromhost) e held.every.mailbox

    word-asked : (k : PhaseKind) → p.kind ≡ k → StartsUp k → p.tohost ≢ 0 → BehindBoot c w book ws k p sys → IsAsked
    word-asked Boot e boots some b = absurd (some (quiet Boot e).0)
    word-asked BootWait e asks some b = elim b.1 [
      | is_asked none there unanswered whole user ↦ record {
        none_waits = none;
        asked_is = there;
        hand = record {
          phase = p;
          holds = held;
          kind = e;
          set_up = b.0;
          tohost_is = there;
          unanswered = unanswered;
          request_is = whole;
          user_is = user;
          fits = fits;
        };
      }
      | is_carried_out one empty unanswered user ↦ absurd (some empty)
      | is_answered none given user ↦ absurd (some (quiet BootWait e given))
    ]
    word-asked BootTake e takes some b = absurd (some (quiet BootTake e))
    word-asked Leave e leaves some b = absurd (some (quiet Leave e).0)
    word-asked User e starts some b = elim starts [ ]
    word-asked Save e starts some b = elim starts [ ]
    word-asked Check e starts some b = elim starts [ ]
    word-asked Scan e starts some b = elim starts [ ]
    word-asked Fill e starts some b = elim starts [ ]
    word-asked Wait e starts some b = elim starts [ ]
    word-asked Take e starts some b = elim starts [ ]
    word-asked Local e starts some b = elim starts [ ]
    word-asked Restore e starts some b = elim starts [ ]
    word-asked Speak e starts some b = elim starts [ ]
    word-asked Closing e starts some b = elim starts [ ]

    -- an answer that waits is the one to that request
    pub record IsCarriedOut : Type 0 where
      pub one_waits : ws ≡ call_answer ∷ []
      pub words : List ℕ
      pub hand : BootHand c w book 0 words (first_bytes c.image c.args) sys

    answer-waits : (k : PhaseKind) → p.kind ≡ k → StartsUp k → ws ≢ [] → BehindBoot c w book ws k p sys → IsCarriedOut
    answer-waits Boot e boots some b = absurd (some b.0)
    answer-waits BootWait e asks some b = elim b.1 [
      | is_asked none there unanswered whole user ↦ absurd (some none)
      | is_carried_out one empty unanswered user ↦ record {
        one_waits = one;
        words = p.request;
        hand = record {
          phase = p;
          holds = held;
          kind = e;
          set_up = b.0;
          tohost_is = empty;
          unanswered = unanswered;
          request_is = refl;
          user_is = user;
          fits = fits;
        };
      }
      | is_answered none given user ↦ absurd (some none)
    ]
    answer-waits BootTake e takes some b = absurd (some b.none_waits)
    answer-waits Leave e leaves some b = absurd (some b.none_waits)
    answer-waits User e starts some b = elim starts [ ]
    answer-waits Save e starts some b = elim starts [ ]
    answer-waits Check e starts some b = elim starts [ ]
    answer-waits Scan e starts some b = elim starts [ ]
    answer-waits Fill e starts some b = elim starts [ ]
    answer-waits Wait e starts some b = elim starts [ ]
    answer-waits Take e starts some b = elim starts [ ]
    answer-waits Local e starts some b = elim starts [ ]
    answer-waits Restore e starts some b = elim starts [ ]
    answer-waits Speak e starts some b = elim starts [ ]
    answer-waits Closing e starts some b = elim starts [ ]

  -- ---- the answer
  module _ (words : List ℕ) where
    abbrev first : List ℕ
    first = first_bytes c.image c.args

    still : (s : System) → BootHand c w book 0 words first s → InBootWait c w book (call_answer ∷ []) s
    still s b = record {
      phase = b.phase;
      holds = b.holds;
      kind = b.kind;
      behind = (b.set_up, is_carried_out refl b.tohost_is b.unanswered b.user_is);
      fits = b.fits;
    }

    puts : {before s s' : Here} {r : Result Bool MemStop} → (s ≡ record before { port = s.port })
        → BootHand c w book 0 words first s.port
        → Played seen_acts (answer_text fromhost call_answer 0) s r s' → BootGiven c w book before r s'
    puts {before = before} {s = s} {r = r} is b (has_written {x = x} d (noted n (ended g same))) =
        let put = answer-written c w book advance writes 0 words s.port x refl b
        (store-word fromhost call_answer s.port x refl (omega arith) d) in
        let P : Here → Type 0 = λ z. BootGiven c w book before r z in
        subst P (sym same) (was_given put.0 put.1 g put.2 put.3 (record {
          folder_is = ap (λ (z : Here). z.folder) is;
          input_is = ap (λ (z : Here). z.input) is;
          console_is = ap (λ (z : Here). z.console) is;
          kept_is = n ∙ ap (λ (z : Here). gone z.kept) is;
        }))
    puts {before = before} {s = s} {r = r} is b (write_stopped {x = x} {why = why} d g same) =
        let P : Here → Type 0 = λ z. BootGiven c w book before r z in
        let left : GiveLeaves before before.kept (record s { port = x }) = record {
          folder_is = ap (λ (z : Here). z.folder) is;
          input_is = ap (λ (z : Here). z.input) is;
          console_is = ap (λ (z : Here). z.console) is;
          kept_is = ap (λ (z : Here). z.kept) is;
        } in
        subst P (sym same) (elim (stop-word fromhost call_answer s.port x why refl (omega arith) d) [
          | inl k ↦ not_given why g (still x (boots-ran c w book advance 0 words first s.port x k.0 b k.1)) left
          | inr k ↦
              let put = answer-written c w book advance writes 0 words s.port x refl b k in
              given_and_cut why put.0 put.1 g put.2 put.3 left
        ])

    reads : {s s' : Here} {r : Result Bool MemStop} → BootHand c w book 0 words first s.port
        → Played seen_acts (give_first fromhost (call_answer ∷ [])) s r s' → BootGiven c w book s r s'
    reads {s = s} {s' = s'} {r = r} b (has_read {x = x} {bytes = bytes} d next) =
        let got = fromhost-read c w book advance 0 words first s.port x bytes b d in
        let T : ℕ → Type 0 = λ n. Played seen_acts (answer_text fromhost call_answer n) (record s { port = x }) r s' in
        puts {before = s} refl got.0 (subst T got.1 next)
    reads {s = s} {r = r} b (read_stopped {x = x} {why = why} d g same) =
        let P : Here → Type 0 = λ z. BootGiven c w book s r z in
        let left = read-stopped c w book advance 0 words first s.port x fromhost 8 why b d in
        subst P (sym same) (not_given why g (still x left)
        (record { folder_is = refl; input_is = refl; console_is = refl; kept_is = refl }))

    gives-waiting : {s s' : Here} {r : Result Bool MemStop} → BootHand c w book 0 words first s.port
        → s.kept.waiting ≡ call_answer ∷ [] → Played seen_acts (give_text fromhost) s r s' → BootGiven c w book s r s'
    gives-waiting {s = s} {s' = s'} {r = r} b one (looked p) =
        let T : List ℕ → Type 0 = λ l. Played seen_acts (give_first fromhost l) s r s' in
        reads b (subst T one p)

pub serves_boot : StepsAdvance → HostWritesHold → ServesBoot
serves_boot advance writes c w book ws p n acted s now r short held fits starts b there some told played =
    let asked = word-asked advance writes c w book ws p s.port held fits p.kind refl starts
    (λ e. some (sym there ∙ e)) b in
    let T : ℕ → Type 0 = λ m. Played seen_acts (word_text (setting_of c) tohost m) s r now in
    let told_now : TellsAll w.contents (kept w.numbers acted []) s =
    subst (λ (l : List ℕ). TellsAll w.contents (kept w.numbers acted l) s) asked.none_waits told in
    clears advance writes c w book short acted asked.hand told_now (subst T (sym there ∙ asked.asked_is) played)

pub gives_boot : StepsAdvance → HostWritesHold → GivesBoot
gives_boot advance writes c w book ws p s now r held fits starts b some waiting played =
    let out = answer-waits advance writes c w book ws p s.port held fits p.kind refl starts some b in
    gives-waiting advance writes c w book out.words out.hand (waiting ∙ out.one_waits) played
