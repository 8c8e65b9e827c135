-- What the host writes keeps the phase.
use Rattle.std.proofs.Common.{◌≡◌, ◌≢◌, ℕ, ◌+◌, ◌-◌, ◌*◌, ◌^◌, ◌<◌, ◌≤◌, ◌==◌, Bool, true, false, ◌&&◌, ◌||◌, ◌⊎◌, inl, inr, List, get_or, length, refl, ap, sym, subst, ◌∙◌, arith}
use Rattle.std.proofs.lemmas.Bool.{false≢true, and_parts, ne_eqb}
use Rattle.std.proofs.lemmas.List.{set-get_or}
use Rattle.rv_csr.specs.CsrTable.{csr_of}
use Rattle.rv_hart.specs.HartStep.{System, over}
use Rattle.fe_base.specs.MemoryMap.{kernel_start, user_start, user_end, kernel_code_size, boot, tohost, request, fromhost, kernel_variables}
use Rattle.guest_memory.specs.Bus.{IsBus}
use Rattle.guest_memory.specs.Memory.{load, store}
use Rattle.guest_memory.proofs.MemoryLemmas.{stores_leave, length-store}
use Rattle.guest_memory.proofs.BusLemmas.{kernel_size-is}
use Rattle.guest_memory.proofs.AreaLemmas.{bus_load-kernel}
use Rattle.kernel_sim.specs.declared.phase.PhaseKind.{PhaseKind}
use Rattle.kernel_sim.specs.declared.phase.PhaseKind.TheVariants.{Boot, BootWait, BootTake, Leave, User, Save, Check, Scan, Fill, Wait, Take, Local, Restore, Speak, Closing}
use Rattle.kernel_sim.specs.declared.phase.Phase.{Phase}
use Rattle.kernel_steps.specs.Terms.{Term, Lit, Unknown, Is, CellsAre}
use Rattle.kernel_steps.specs.States.{State, Describes}
use Rattle.kernel_steps.specs.Blocks.{Here, same}
use Rattle.kernel_code.specs.Kernel.{kernel, blocks}
use Rattle.proxy_kernel.specs.KernelWords.{kernel_insns}
use Rattle.kernel_code.specs.Calls.{call_blocks}
use Rattle.kernel_code.specs.TrapWords.{trap_blocks}
use Rattle.kernel_code.specs.CounterWords.{counter_blocks}
use Rattle.kernel_code.specs.Shorthand.{cells_0, cells_1, cells_2, cells_3, cells_4, cells_5, cells_6, cells_7, cells_8, cells_9, csrs_0, csrs_1, csrs_2}
use Rattle.kernel_sim.specs.Phases.{dword, request_of}
use Rattle.kernel_sim.specs.Ready.{Need, Nothing, ZeroIfSeen, Zero, need, NeedIs}
use Rattle.kernel_sim.specs.Mail.{MailClass, Quiet, Asked, Given, Spoken, mail_class, MailIs}
use Rattle.std.proofs.lemmas.Bool.Decides.{nat_tests}
use Rattle.std.specs.Prelude.{nat_le, slice_set, slice_index}
use Rattle.fe_base.specs.MemoryMap.{start_word}
use Rattle.guest_memory.specs.Bus.{BusState, is_beat, with_beat}
use Rattle.guest_memory.proofs.BusLemmas.{with_beat-ram}
use Rattle.guest_memory.proofs.AreaLemmas.{bus_store-kernel, bus_store-user}
use Rattle.kernel_sim.specs.HostWrites.{HostWrite, Clears, Results, Answers, Fills, written}
use Rattle.kernel_sim.specs.Stages.{BreaksAre, Stage, Saving, Checking, Starting, Scanning, Looked, Past, Full, Found, Filling, Waiting, Tested, Taking, NoCall, Outside, Long, Breaking, Restoring, Choosing, base, Saying, Said, Ending, Ended, Booting, BootWaiting, BootTested, BootTaking, Leaving, BootSeen, stage_kind, stage_number, Extra, Links, BootStage, boot_number, boot_kind, BootBreak, InBoot, InKernel, InUser, Place, Known}
use Rattle.kernel_steps.proofs.Soundness.{CellsAre-set, CodeIs-store, stored-value}
use Rattle.kernel_steps.proofs.GraphLaws.{same-path}
use Rattle.kernel_steps.proofs.Tests.{blocks_all, blocks_all-at}
use Rattle.kernel_sim.proofs.Gates.{number_code}
use Rattle.kernel_sim.proofs.PlaceLaws.{high-code}
use Rattle.kernel_sim.proofs.MessageLaws.{base-low, base-top}
use Rattle.kernel_code.specs.Numbers.{store_gates, boot_waiting_blocks, waiting_blocks, tested_blocks, boot_tested_blocks, trap_words}
use Rattle.kernel_code.specs.Places.{tohost_cell, fromhost_cell, request_cell, tohost_place, first_break_place, break_place, fromhost_place, request_place}

-- the breaks over a write that leaves their doublewords
pub breaks-kept : (k : PhaseKind) (p q : Phase) (sys z : System) → q.user ≡ p.user → dword z.bus kernel_variables ≡ dword sys.bus kernel_variables → dword z.bus (boot + 8) ≡ dword sys.bus (boot + 8) → BreaksAre k p sys → BreaksAre k q z
breaks-kept Boot p q sys z u a c b = tt
breaks-kept k p q sys z u a c b = (ap (λ y. y.brk) u ∙ b.0 ∙ sym a, ap (λ y. y.first_break) u ∙ b.1 ∙ sym c)

-- of TOHOST nothing is known but that it may hold 0, and of the mailbox nothing while a request waits
abbrev free_ok : ℕ → State → Bool
free_ok k s = elim (nat_le store_gates k || number_code k == 99) [
  | true ↦ true
  | false ↦
      (same (get_or s.cells tohost_cell Unknown) Unknown || same (get_or s.cells tohost_cell Unknown) (Lit 0))
      && (elim (k == boot_waiting_blocks || k == waiting_blocks || k == tested_blocks || k == boot_tested_blocks) [ true ↦ same (get_or s.cells fromhost_cell Unknown) Unknown && same (get_or s.cells request_cell Unknown) Unknown | false ↦ true ])
]

free_right : blocks_all free_ok kernel blocks ≡ true
unfolding kernel kernel_insns blocks call_blocks trap_blocks counter_blocks cells_0 cells_1 cells_2 cells_3 cells_4 cells_5 cells_6 cells_7 cells_8 cells_9 csrs_0 csrs_1 csrs_2 csr_of
free_right = refl

orb : {P : Type 0} (a b : Bool) → (a || b) ≡ true → (a ≡ true → P) → (b ≡ true → P) → P
orb true b e f g = f refl
orb false b e f g = g e

module _ (sys : System) (b v : ℕ) (long : length sys.bus.kernel ≡ 0x10000) (low : tohost_place ≤ b) (room : b + 8 ≤ 0x10000) (fits : v < 2 ^ 64) where
  abbrev wrote : System
  wrote = over (record sys.bus { kernel = store sys.bus.kernel b 8 v }) sys.hart

  inside : b + 8 ≤ length sys.bus.kernel
  inside = omega arith

  same_word : (a : ℕ) → (a + 8 ≤ b) ⊎ (b + 8 ≤ a) → load wrote.bus.kernel a 8 ≡ load sys.bus.kernel a 8
  same_word a d = stores_leave sys.bus.kernel b 8 v a 8 inside d

  new_word : load wrote.bus.kernel b 8 ≡ v
  new_word = stored-value sys.bus.kernel b v inside fits

  same_dword : (at : ℕ) → kernel_start ≤ at → (at - kernel_start + 8 ≤ b) ⊎ (b + 8 ≤ at - kernel_start) → dword wrote.bus at ≡ dword sys.bus at
  same_dword at l d = bus_load-kernel wrote.bus at 8 l ∙ same_word (at - kernel_start) d ∙ sym (bus_load-kernel sys.bus at 8 l)

  new_dword : (at : ℕ) → kernel_start ≤ at → at - kernel_start ≡ b → dword wrote.bus at ≡ v
  new_dword at l e = bus_load-kernel wrote.bus at 8 l ∙ ap (λ z. load wrote.bus.kernel z 8) e ∙ new_word

  describes-write : (user : List ℕ) (env : ℕ → ℕ) (s : State) (c : ℕ) → b ≡ kernel_code_size + 8 * c → Is env (get_or s.cells c Unknown) v → Describes kernel user env s sys → Describes kernel user env s wrote
  describes-write user env s c e i m = record {
    run = m.run;
    mode = m.mode;
    at = m.at;
    regs = m.regs;
    csrs = m.csrs;
    memory = record {
      cells_are = subst (λ x. CellsAre env x wrote.bus.kernel kernel_code_size) (set-get_or s.cells c Unknown) (CellsAre-set env s.cells sys.bus.kernel kernel_code_size c b (get_or s.cells c Unknown) v e inside fits m.memory.cells_are i);
      long = length-store sys.bus.kernel b 8 v inside ∙ long;
      user_is = m.memory.user_is;
      code_is = CodeIs-store kernel sys.bus.kernel b v low inside m.memory.code_is;
    };
    facts = m.facts;
    small = m.small;
  }

  here-write : (user : List ℕ) (env : ℕ → ℕ) (k c : ℕ) (w : Here kernel user env blocks k sys) → b ≡ kernel_code_size + 8 * c → Is env (get_or w.state.cells c Unknown) v → Here kernel user env blocks k wrote
  here-write user env k c w e i = record { block = w.block; among = w.among; kind = w.kind; state = w.state; on = w.on; describes = describes-write user env w.state c e i w.describes }

-- what is free at a place
free-at : (user : List ℕ) (env : ℕ → ℕ) (k : ℕ) (sys : System) (w : Here kernel user env blocks k sys) → (nat_le store_gates k || number_code k == 99) ≡ false
    → ((same (get_or w.state.cells tohost_cell Unknown) Unknown || same (get_or w.state.cells tohost_cell Unknown) (Lit 0)) ≡ true) × ((elim (k == boot_waiting_blocks || k == waiting_blocks || k == tested_blocks || k == boot_tested_blocks) [ true ↦ same (get_or w.state.cells fromhost_cell Unknown) Unknown && same (get_or w.state.cells request_cell Unknown) Unknown | false ↦ true ]) ≡ true)
free-at user env k sys w shut = go (nat_le store_gates k || number_code k == 99) shut (subst (λ z. free_ok z w.state ≡ true) w.kind (blocks_all-at free_ok kernel blocks w.block w.state free_right w.among w.on))
  where
    go : (x : Bool) → x ≡ false → ◌≡◌ {A = Bool} (elim x [ true ↦ true | false ↦ (same (get_or w.state.cells tohost_cell Unknown) Unknown || same (get_or w.state.cells tohost_cell Unknown) (Lit 0)) && (elim (k == boot_waiting_blocks || k == waiting_blocks || k == tested_blocks || k == boot_tested_blocks) [ true ↦ same (get_or w.state.cells fromhost_cell Unknown) Unknown && same (get_or w.state.cells request_cell Unknown) Unknown | false ↦ true ]) ]) true
        → ((same (get_or w.state.cells tohost_cell Unknown) Unknown || same (get_or w.state.cells tohost_cell Unknown) (Lit 0)) ≡ true) × ((elim (k == boot_waiting_blocks || k == waiting_blocks || k == tested_blocks || k == boot_tested_blocks) [ true ↦ same (get_or w.state.cells fromhost_cell Unknown) Unknown && same (get_or w.state.cells request_cell Unknown) Unknown | false ↦ true ]) ≡ true)
    go true e h = absurd (false≢true (sym e))
    go false e h = and_parts (same (get_or w.state.cells tohost_cell Unknown) Unknown || same (get_or w.state.cells tohost_cell Unknown) (Lit 0)) _ h

any-is : (env : ℕ → ℕ) (s : Term) (v : ℕ) → same s Unknown ≡ true → Is env s v
any-is env s v e = subst (λ z. Is env z v) (sym (same-path s Unknown e)) tt

zero-is : (env : ℕ → ℕ) (s : Term) → (same s Unknown || same s (Lit 0)) ≡ true → Is env s 0
zero-is env s e = orb (same s Unknown) (same s (Lit 0)) e (any-is env s 0) (λ q. subst (λ z. Is env z 0) (sym (same-path s (Lit 0) q)) refl)

shut-big : (n : ℕ) → trap_words ≤ n → n < store_gates → (nat_le store_gates n || number_code n == 99) ≡ false
shut-big n l h =
    let a : nat_le store_gates n ≡ false = grind (arith, nat_tests) in
    rw (a, high-code n l) refl

-- a stage's number is no gate's
pub shut-of : (st : Stage) (p : Phase) (user : List ℕ) (env : ℕ → ℕ) → Extra st p user env → (nat_le store_gates (stage_number st) || number_code (stage_number st) == 99) ≡ false
shut-of Saving p user env x = refl
shut-of Checking p user env x = refl
shut-of Starting p user env x = refl
shut-of Scanning p user env x = refl
shut-of Looked p user env x = refl
shut-of Past p user env x = refl
shut-of Full p user env x = refl
shut-of Found p user env x = refl
shut-of Filling p user env x = refl
shut-of Waiting p user env x = refl
shut-of Tested p user env x = refl
shut-of Taking p user env x = refl
shut-of NoCall p user env x = refl
shut-of Outside p user env x = refl
shut-of Long p user env x = refl
shut-of Breaking p user env x = refl
shut-of Restoring p user env x = refl
shut-of Choosing p user env x = refl
shut-of (Saying c t) p user env x = shut-big (base c + 2 * t) (base-low c t) (let z = base-top c t x.3 in omega arith)
shut-of (Said c t) p user env x = shut-big (base c + 2 * t + 1) (let z = base-low c t in omega arith) (let z = base-top c (t + 1) x.3 in let e : base c + 2 * (t + 1) ≡ base c + 2 * t + 2 = omega arith in omega arith)
shut-of (Ending true) p user env x = refl
shut-of (Ending false) p user env x = refl
shut-of (Ended true) p user env x = refl
shut-of (Ended false) p user env x = refl

pub boot-shut : (st : BootStage) → (nat_le store_gates (boot_number st) || number_code (boot_number st) == 99) ≡ false
boot-shut Booting = refl
boot-shut BootWaiting = refl
boot-shut BootTested = refl
boot-shut BootTaking = refl
boot-shut Leaving = refl

-- the stages of the wait
asks : (st : Stage) → stage_kind st ≡ Wait → (stage_number st == boot_waiting_blocks || stage_number st == waiting_blocks || stage_number st == tested_blocks || stage_number st == boot_tested_blocks) ≡ true
asks Saving e = cc
asks Checking e = cc
asks Starting e = cc
asks Scanning e = cc
asks Looked e = cc
asks Past e = cc
asks Full e = cc
asks Found e = cc
asks Filling e = cc
asks Waiting e = refl
asks Tested e = refl
asks Taking e = cc
asks NoCall e = cc
asks Outside e = cc
asks Long e = cc
asks Breaking e = cc
asks Restoring e = cc
asks Choosing e = cc
asks (Saying c t) e = cc
asks (Said c t) e = cc
asks (Ending c) e = cc
asks (Ended c) e = cc

boot-asks : (st : BootStage) → boot_kind st ≡ BootWait → (boot_number st == boot_waiting_blocks || boot_number st == waiting_blocks || boot_number st == tested_blocks || boot_number st == boot_tested_blocks) ≡ true
boot-asks Booting e = cc
boot-asks BootWaiting e = refl
boot-asks BootTested e = refl
boot-asks BootTaking e = cc
boot-asks Leaving e = cc

taken : (b x y : Bool) → b ≡ true → ◌≡◌ {A = Bool} (elim b [ true ↦ x && y | false ↦ true ]) true → (x ≡ true) × (y ≡ true)
taken true x y e h = let p = and_parts x y h in (p.0, p.1)
taken false x y e h = absurd (false≢true e)

need-zero : (n : Need) (seen_word : ℕ) → NeedIs n seen_word 0
need-zero Nothing x = tt
need-zero ZeroIfSeen x = λ e. refl
need-zero Zero x = refl

-- ---- TOHOST is cleared
module _ (sys : System) (whole : IsBus sys.bus) where
  pub long_is : length sys.bus.kernel ≡ 0x10000
  long_is = whole.kernel_length ∙ kernel_size-is

  abbrev cleared : System
  cleared = wrote sys tohost_place 0 long_is (omega arith) (omega arith) (omega arith)

  beside : (at : ℕ) → (tohost + 8) ≤ at → dword cleared.bus at ≡ dword sys.bus at
  beside at l = same_dword sys tohost_place 0 long_is (omega arith) (omega arith) (omega arith) at (omega arith) (inr (omega arith))

  beside_word : (a : ℕ) → (tohost_place + 8) ≤ a → load cleared.bus.kernel a 8 ≡ load sys.bus.kernel a 8
  beside_word a l = same_word sys tohost_place 0 long_is (omega arith) (omega arith) (omega arith) a (inr l)

  cleared-here : (user : List ℕ) (env : ℕ → ℕ) (k : ℕ) → (nat_le store_gates k || number_code k == 99) ≡ false → Here kernel user env blocks k sys → Here kernel user env blocks k cleared
  cleared-here user env k shut w = here-write sys tohost_place 0 long_is (omega arith) (omega arith) (omega arith) user env k 0 w refl (zero-is env (get_or w.state.cells tohost_cell Unknown) (free-at user env k sys w shut).0)

  request-kept : request_of cleared.bus ≡ request_of sys.bus
  request-kept = rw (beside request (omega arith), beside (request + 8) (omega arith), beside (request + 16) (omega arith), beside (request + 24) (omega arith), beside (request + 32) (omega arith), beside (request + 40) (omega arith), beside (request + 48) (omega arith), beside (request + 56) (omega arith)) refl

  module _ (p : Phase) where
    abbrev clear : Phase
    clear = record p { tohost = 0 }

    in-kernel : (k : PhaseKind) → InKernel k p sys → InKernel k clear cleared
    in-kernel k i = record {
      user = i.user;
      env = i.env;
      stage = i.stage;
      staged = i.staged;
      here = cleared-here i.user i.env (stage_number i.stage) (shut-of i.stage p i.user i.env i.extra) i.here;
      links = i.links;
      extra = extra-clear i.stage i.user i.env i.extra;
    }
      where
        extra-clear : (st : Stage) (user : List ℕ) (env : ℕ → ℕ) → Extra st p user env → Extra st clear user env
        extra-clear Saving user env x = x
        extra-clear Checking user env x = x
        extra-clear Starting user env x = x
        extra-clear Scanning user env x = x
        extra-clear Looked user env x = x
        extra-clear Past user env x = x
        extra-clear Full user env x = x
        extra-clear Found user env x = x
        extra-clear Filling user env x = x
        extra-clear Waiting user env x = x
        extra-clear Tested user env x = x
        extra-clear Taking user env x = x
        extra-clear NoCall user env x = x
        extra-clear Outside user env x = x
        extra-clear Long user env x = x
        extra-clear Breaking user env x = x
        extra-clear Restoring user env x = x
        extra-clear Choosing user env x = x
        extra-clear (Saying c t) user env x = x
        extra-clear (Said c t) user env x = x
        extra-clear (Ending c) user env x = x
        extra-clear (Ended c) user env x = x

    in-boot : (k : PhaseKind) → InBoot k p sys → InBoot k clear cleared
    in-boot k i = record {
      user = i.user;
      env = i.env;
      stage = i.stage;
      staged = i.staged;
      here = cleared-here i.user i.env (boot_number i.stage) (boot-shut i.stage) i.here;
      break_is = i.break_is;
      seen = seen-clear i.stage i.env i.seen;
      entry_even = i.entry_even;
    }
      where
        seen-clear : (st : BootStage) (env : ℕ → ℕ) → BootSeen st p env → BootSeen st clear env
        seen-clear Booting env x = x
        seen-clear BootWaiting env x = x
        seen-clear BootTested env x = x
        seen-clear BootTaking env x = x
        seen-clear Leaving env x = x

    in-user : InUser p sys → InUser clear cleared
    in-user u = record {
      run = u.run;
      user_mode = u.user_mode;
      pc_is = u.pc_is;
      pc_even = u.pc_even;
      regs_are = u.regs_are;
      fenced = u.fenced;
      scratch_is = u.scratch_is;
      handler_is = u.handler_is;
      long = length-store sys.bus.kernel kernel_code_size 8 0 (let l = long_is in omega arith) ∙ u.long;
      code_is = CodeIs-store kernel sys.bus.kernel kernel_code_size 0 (omega arith) (let l = long_is in omega arith) u.code_is;
      first_is = beside_word first_break_place (omega arith) ∙ u.first_is;
      break_is = beside_word break_place (omega arith) ∙ u.break_is;
    }

    place-clear : (k : PhaseKind) → Place k p sys → Place k clear cleared
    place-clear User i = in-user i
    place-clear Boot i = in-boot Boot i
    place-clear BootWait i = in-boot BootWait i
    place-clear BootTake i = in-boot BootTake i
    place-clear Leave i = in-boot Leave i
    place-clear Save i = in-kernel Save i
    place-clear Check i = in-kernel Check i
    place-clear Scan i = in-kernel Scan i
    place-clear Fill i = in-kernel Fill i
    place-clear Wait i = in-kernel Wait i
    place-clear Take i = in-kernel Take i
    place-clear Local i = in-kernel Local i
    place-clear Restore i = in-kernel Restore i
    place-clear Speak i = in-kernel Speak i
    place-clear Closing i = in-kernel Closing i

    mail-clear : (c : MailClass) → MailIs c p.tohost p.fromhost → MailIs c 0 p.fromhost
    mail-clear Quiet m = (refl, m.1)
    mail-clear Asked m = λ ne. refl
    mail-clear Given m = refl
    mail-clear Spoken m = m

    -- a cleared TOHOST keeps each phase
    pub clear_law : Known p sys → Known clear cleared
    unfolding Known
    clear_law h = (
      record {
        tohost_is = sym (new_dword sys tohost_place 0 long_is (omega arith) (omega arith) (omega arith) tohost (omega arith) refl);
        fromhost_is = h.0.fromhost_is ∙ sym (beside fromhost (omega arith));
        request_is = h.0.request_is ∙ sym request-kept;
        place = place-clear p.kind h.0.place;
      },
      mail-clear (mail_class p.kind) h.1,
      need-zero (need sys.hart.mode sys.hart.pc) (slice_index sys.hart.registers 6),
      breaks-kept p.kind p clear sys cleared refl (beside kernel_variables (omega arith)) (beside (boot + 8) (omega arith)) h.3,
    )

-- ---- a waiting request's answer
module _ (sys : System) (whole : IsBus sys.bus) (b c v : ℕ) (b_is : b ≡ kernel_code_size + 8 * c) (which : (c ≡ 8) ⊎ (c ≡ 16)) (fits : v < 2 ^ 64) where
  pub low : tohost_place ≤ b
  low = omega arith

  pub room : b + 8 ≤ 0x10000
  room = by which
    where
      by : (c ≡ 8) ⊎ (c ≡ 16) → b + 8 ≤ 0x10000
      by (inl e) = omega arith
      by (inr e) = omega arith

  abbrev filled : System
  filled = wrote sys b v (long_is sys whole) low room fits

  cell-free : (env : ℕ → ℕ) (s : State) → (same (get_or s.cells fromhost_cell Unknown) Unknown ≡ true) × (same (get_or s.cells request_cell Unknown) Unknown ≡ true) → (c ≡ 8) ⊎ (c ≡ 16) → Is env (get_or s.cells c Unknown) v
  cell-free env s h (inl e) = subst (λ z. Is env (get_or s.cells z Unknown) v) (sym e) (any-is env (get_or s.cells fromhost_cell Unknown) v h.0)
  cell-free env s h (inr e) = subst (λ z. Is env (get_or s.cells z Unknown) v) (sym e) (any-is env (get_or s.cells request_cell Unknown) v h.1)

  filled-here : (user : List ℕ) (env : ℕ → ℕ) (k : ℕ) → (nat_le store_gates k || number_code k == 99) ≡ false → (k == boot_waiting_blocks || k == waiting_blocks || k == tested_blocks || k == boot_tested_blocks) ≡ true → Here kernel user env blocks k sys → Here kernel user env blocks k filled
  filled-here user env k shut asked w = here-write sys b v (long_is sys whole) low room fits user env k c w b_is
      (cell-free env w.state (taken (k == boot_waiting_blocks || k == waiting_blocks || k == tested_blocks || k == boot_tested_blocks) _ _ asked (free-at user env k sys w shut).1) which)

  wait-filled : (p q : Phase) → q.user ≡ p.user → InKernel Wait p sys → ((st : Stage) (user : List ℕ) (env : ℕ → ℕ) → Extra st p user env → Extra st q user env) → InKernel Wait q filled
  wait-filled p q u i f = record {
    user = i.user;
    env = i.env;
    stage = i.stage;
    staged = i.staged;
    here = filled-here i.user i.env (stage_number i.stage) (shut-of i.stage p i.user i.env i.extra) (asks i.stage i.staged) i.here;
    links = subst (λ z. Links i.stage z i.env) (sym u) i.links;
    extra = f i.stage i.user i.env i.extra;
  }

  boot-filled : (p q : Phase) → q.user ≡ p.user → InBoot BootWait p sys → ((st : BootStage) (env : ℕ → ℕ) → BootSeen st p env → BootSeen st q env) → InBoot BootWait q filled
  boot-filled p q u i f = record {
    user = i.user;
    env = i.env;
    stage = i.stage;
    staged = i.staged;
    here = filled-here i.user i.env (boot_number i.stage) (boot-shut i.stage) (boot-asks i.stage i.staged) i.here;
    break_is = subst (λ z. BootBreak i.stage z i.env) (sym u) i.break_is;
    seen = f i.stage i.env i.seen;
    entry_even = i.entry_even;
  }

-- FROMHOST gets an answer
module _ (sys : System) (whole : IsBus sys.bus) (v : ℕ) (fits : v < 2 ^ 64) (some : v ≢ 0) (p : Phase) where
  abbrev given : Phase
  given = record p { fromhost = v }

  given-extra : (st : Stage) (user : List ℕ) (env : ℕ → ℕ) → Extra st p user env → Extra st given user env
  given-extra Saving user env x = x
  given-extra Checking user env x = x
  given-extra Starting user env x = x
  given-extra Scanning user env x = x
  given-extra Looked user env x = x
  given-extra Past user env x = x
  given-extra Full user env x = x
  given-extra Found user env x = x
  given-extra Filling user env x = x
  given-extra Waiting user env x = x
  given-extra Tested user env x = (x.0, λ ne. some)
  given-extra Taking user env x = x
  given-extra NoCall user env x = x
  given-extra Outside user env x = x
  given-extra Long user env x = x
  given-extra Breaking user env x = x
  given-extra Restoring user env x = x
  given-extra Choosing user env x = x
  given-extra (Saying c t) user env x = x
  given-extra (Said c t) user env x = x
  given-extra (Ending c) user env x = x
  given-extra (Ended c) user env x = x

  given-seen : (st : BootStage) (env : ℕ → ℕ) → BootSeen st p env → BootSeen st given env
  given-seen Booting env x = x
  given-seen BootWaiting env x = x
  given-seen BootTested env x = λ ne. some
  given-seen BootTaking env x = x
  given-seen Leaving env x = x

  abbrev answered : System
  answered = filled sys whole fromhost_place 8 v refl (inl refl) fits

  given-place : (k : PhaseKind) → mail_class k ≡ Asked → Place k p sys → Place k given answered
  given-place Wait e i = wait-filled sys whole fromhost_place 8 v refl (inl refl) fits p given refl i given-extra
  given-place BootWait e i = boot-filled sys whole fromhost_place 8 v refl (inl refl) fits p given refl i given-seen
  given-place Boot e i = cc
  given-place BootTake e i = cc
  given-place Leave e i = cc
  given-place User e i = cc
  given-place Save e i = cc
  given-place Check e i = cc
  given-place Scan e i = cc
  given-place Fill e i = cc
  given-place Take e i = cc
  given-place Local e i = cc
  given-place Restore e i = cc
  given-place Speak e i = cc
  given-place Closing e i = cc

  given_beside : (at : ℕ) → (fromhost + 8) ≤ at → dword answered.bus at ≡ dword sys.bus at
  given_beside at l = same_dword sys fromhost_place v (long_is sys whole) (low sys whole fromhost_place 8 v refl (inl refl) fits) (room sys whole fromhost_place 8 v refl (inl refl) fits) fits at (omega arith) (inr (omega arith))

  given-request : request_of answered.bus ≡ request_of sys.bus
  given-request = rw (given_beside request (omega arith), given_beside (request + 8) (omega arith), given_beside (request + 16) (omega arith), given_beside (request + 24) (omega arith), given_beside (request + 32) (omega arith), given_beside (request + 40) (omega arith), given_beside (request + 48) (omega arith), given_beside (request + 56) (omega arith)) refl

  -- an answer in FROMHOST, which held 0 as TOHOST did, keeps the phase
  pub answer_law : mail_class p.kind ≡ Asked → p.tohost ≡ 0 → Known p sys → Known given answered
  unfolding Known
  answer_law e z h = (
    record {
      tohost_is = h.0.tohost_is ∙ sym (same_dword sys fromhost_place v (long_is sys whole) (low sys whole fromhost_place 8 v refl (inl refl) fits) (room sys whole fromhost_place 8 v refl (inl refl) fits) fits tohost (omega arith) (inl (omega arith)));
      fromhost_is = sym (new_dword sys fromhost_place v (long_is sys whole) (low sys whole fromhost_place 8 v refl (inl refl) fits) (room sys whole fromhost_place 8 v refl (inl refl) fits) fits fromhost (omega arith) refl);
      request_is = h.0.request_is ∙ sym given-request;
      place = given-place p.kind e h.0.place;
    },
    subst (λ c. MailIs c p.tohost v) (sym e) (λ ne. z),
    h.2,
    breaks-kept p.kind p given sys answered refl (given_beside kernel_variables (omega arith)) (given_beside (boot + 8) (omega arith)) h.3,
  )

-- REQUEST gets a result
module _ (sys : System) (whole : IsBus sys.bus) (v : ℕ) (fits : v < 2 ^ 64) (p : Phase) where
  abbrev resulted : Phase
  resulted = record p { request = slice_set p.request 0 v }

  result-extra : (st : Stage) (user : List ℕ) (env : ℕ → ℕ) → Extra st p user env → Extra st resulted user env
  result-extra Saving user env x = x
  result-extra Checking user env x = x
  result-extra Starting user env x = x
  result-extra Scanning user env x = x
  result-extra Looked user env x = x
  result-extra Past user env x = x
  result-extra Full user env x = x
  result-extra Found user env x = x
  result-extra Filling user env x = x
  result-extra Waiting user env x = x
  result-extra Tested user env x = x
  result-extra Taking user env x = x
  result-extra NoCall user env x = x
  result-extra Outside user env x = x
  result-extra Long user env x = x
  result-extra Breaking user env x = x
  result-extra Restoring user env x = x
  result-extra Choosing user env x = x
  result-extra (Saying c t) user env x = x
  result-extra (Said c t) user env x = x
  result-extra (Ending c) user env x = x
  result-extra (Ended c) user env x = x

  result-seen : (st : BootStage) (env : ℕ → ℕ) → BootSeen st p env → BootSeen st resulted env
  result-seen Booting env x = x
  result-seen BootWaiting env x = x
  result-seen BootTested env x = x
  result-seen BootTaking env x = x
  result-seen Leaving env x = x

  abbrev put_there : System
  put_there = filled sys whole request_place 16 v refl (inr refl) fits

  result-place : (k : PhaseKind) → mail_class k ≡ Asked → Place k p sys → Place k resulted put_there
  result-place Wait e i = wait-filled sys whole request_place 16 v refl (inr refl) fits p resulted refl i result-extra
  result-place BootWait e i = boot-filled sys whole request_place 16 v refl (inr refl) fits p resulted refl i result-seen
  result-place Boot e i = cc
  result-place BootTake e i = cc
  result-place Leave e i = cc
  result-place User e i = cc
  result-place Save e i = cc
  result-place Check e i = cc
  result-place Scan e i = cc
  result-place Fill e i = cc
  result-place Take e i = cc
  result-place Local e i = cc
  result-place Restore e i = cc
  result-place Speak e i = cc
  result-place Closing e i = cc

  result_below : (at : ℕ) → kernel_start ≤ at → at + 8 ≤ request → dword put_there.bus at ≡ dword sys.bus at
  result_below at k l = same_dword sys request_place v (long_is sys whole) (low sys whole request_place 16 v refl (inr refl) fits) (room sys whole request_place 16 v refl (inr refl) fits) fits at k (inl (omega arith))

  result_beside : (at : ℕ) → (request + 8) ≤ at → dword put_there.bus at ≡ dword sys.bus at
  result_beside at l = same_dword sys request_place v (long_is sys whole) (low sys whole request_place 16 v refl (inr refl) fits) (room sys whole request_place 16 v refl (inr refl) fits) fits at (omega arith) (inr (omega arith))

  result_word : dword put_there.bus request ≡ v
  result_word = new_dword sys request_place v (long_is sys whole) (low sys whole request_place 16 v refl (inr refl) fits) (room sys whole request_place 16 v refl (inr refl) fits) fits request (omega arith) refl

  result-request : slice_set (request_of sys.bus) 0 v ≡ request_of put_there.bus
  result-request = rw (result_word, result_beside (request + 8) (omega arith), result_beside (request + 16) (omega arith), result_beside (request + 24) (omega arith), result_beside (request + 32) (omega arith), result_beside (request + 40) (omega arith), result_beside (request + 48) (omega arith), result_beside (request + 56) (omega arith)) refl

  pub result_law : mail_class p.kind ≡ Asked → Known p sys → Known resulted put_there
  unfolding Known
  result_law e h = (
    record {
      tohost_is = h.0.tohost_is ∙ sym (result_below tohost (omega arith) (omega arith));
      fromhost_is = h.0.fromhost_is ∙ sym (result_below fromhost (omega arith) (omega arith));
      request_is = ap (λ z. slice_set z 0 v) h.0.request_is ∙ result-request;
      place = result-place p.kind e h.0.place;
    },
    h.1,
    h.2,
    breaks-kept p.kind p resulted sys put_there refl (result_beside kernel_variables (omega arith)) (result_beside (boot + 8) (omega arith)) h.3,
  )

-- ---- user bytes
module _ (p : Phase) (sys : System) (bytes : List ℕ) where
  abbrev lent : System
  lent = over (record sys.bus { user = bytes }) sys.hart

  describes-lent : (user : List ℕ) (env : ℕ → ℕ) (s : State) → Describes kernel user env s sys → Describes kernel bytes env s lent
  describes-lent user env s m = record {
    run = m.run;
    mode = m.mode;
    at = m.at;
    regs = m.regs;
    csrs = m.csrs;
    memory = record { cells_are = m.memory.cells_are; long = m.memory.long; user_is = refl; code_is = m.memory.code_is };
    facts = m.facts;
    small = m.small;
  }

  here-lent : (user : List ℕ) (env : ℕ → ℕ) (k : ℕ) → Here kernel user env blocks k sys → Here kernel bytes env blocks k lent
  here-lent user env k w = record { block = w.block; among = w.among; kind = w.kind; state = w.state; on = w.on; describes = describes-lent user env w.state w.describes }

  wait-lent : InKernel Wait p sys → InKernel Wait p lent
  wait-lent i = record {
    user = bytes;
    env = i.env;
    stage = i.stage;
    staged = i.staged;
    here = here-lent i.user i.env (stage_number i.stage) i.here;
    links = i.links;
    extra = go i.stage i.staged i.extra;
  }
    where
      go : (st : Stage) → stage_kind st ≡ Wait → Extra st p i.user i.env → Extra st p bytes i.env
      go Waiting e x = x
      go Tested e x = x
      go st e x = cc

  boot-lent : InBoot BootWait p sys → InBoot BootWait p lent
  boot-lent i = record { user = bytes; env = i.env; stage = i.stage; staged = i.staged; here = here-lent i.user i.env (boot_number i.stage) i.here; break_is = i.break_is; seen = i.seen; entry_even = i.entry_even }

  lent-place : (k : PhaseKind) → mail_class k ≡ Asked → Place k p sys → Place k p lent
  lent-place Wait e i = wait-lent i
  lent-place BootWait e i = boot-lent i
  lent-place Boot e i = cc
  lent-place BootTake e i = cc
  lent-place Leave e i = cc
  lent-place User e i = cc
  lent-place Save e i = cc
  lent-place Check e i = cc
  lent-place Scan e i = cc
  lent-place Fill e i = cc
  lent-place Take e i = cc
  lent-place Local e i = cc
  lent-place Restore e i = cc
  lent-place Speak e i = cc
  lent-place Closing e i = cc

  lent-dword : (at : ℕ) → kernel_start ≤ at → dword sys.bus at ≡ dword lent.bus at
  lent-dword at l = bus_load-kernel sys.bus at 8 l ∙ sym (bus_load-kernel lent.bus at 8 l)

  lent-request : request_of sys.bus ≡ request_of lent.bus
  lent-request = rw (lent-dword request (omega arith), lent-dword (request + 8) (omega arith), lent-dword (request + 16) (omega arith), lent-dword (request + 24) (omega arith), lent-dword (request + 32) (omega arith), lent-dword (request + 40) (omega arith), lent-dword (request + 48) (omega arith), lent-dword (request + 56) (omega arith)) refl

  -- other user bytes, while a request waits, keep the phase
  pub lent_law : mail_class p.kind ≡ Asked → Known p sys → Known p lent
  unfolding Known
  lent_law e h = (
    record {
      tohost_is = h.0.tohost_is ∙ lent-dword tohost (omega arith);
      fromhost_is = h.0.fromhost_is ∙ lent-dword fromhost (omega arith);
      request_is = h.0.request_is ∙ lent-request;
      place = lent-place p.kind e h.0.place;
    },
    h.1,
    h.2,
    breaks-kept p.kind p p sys lent refl (sym (lent-dword kernel_variables (omega arith))) (sym (lent-dword (boot + 8) (omega arith))) h.3,
  )

-- ---- a write of the host
no-beat : (bus : BusState) (at v : ℕ) → is_beat at ≡ false → with_beat bus at v ≡ bus
unfolding with_beat
no-beat bus at v e = rw e refl

user-beat : (p : Phase) (sys : System) (at v : ℕ) → at < user_end → mail_class p.kind ≡ Asked → Known p sys → Known p (over (with_beat sys.bus at v) sys.hart)
user-beat p sys at v l k h = go (is_beat at) refl
  where
    go : (b : Bool) → is_beat at ≡ b → Known p (over (with_beat sys.bus at v) sys.hart)
    go true e = subst (λ y. Known p (over y sys.hart)) (sym (with_beat-ram sys.bus at v (λ z. absurd (omega arith)) e ∙ bus_store-user sys.bus at 8 v (omega arith))) (lent_law p sys (store sys.bus.user (at - user_start) 8 v) k h)
    go false e = subst (λ y. Known p (over y sys.hart)) (sym (no-beat sys.bus at v e)) h

user-written : (p : Phase) (at v : ℕ) → at < user_end → written at v p ≡ p
user-written p at v l =
    let a : (at == tohost) ≡ false = ne_eqb _ _ (omega arith) in
    let b : (at == fromhost) ≡ false = ne_eqb _ _ (omega arith) in
    let c : (at == request) ≡ false = ne_eqb _ _ (omega arith) in
    rw (a, b, c) refl

beat-is : (sys : System) (at v : ℕ) → kernel_start ≤ at → at ≢ start_word → is_beat at ≡ true → over (with_beat sys.bus at v) sys.hart ≡ over (record sys.bus { kernel = store sys.bus.kernel (at - kernel_start) 8 v }) sys.hart
beat-is sys at v l n b = ap (λ z. over z sys.hart) (with_beat-ram sys.bus at v n b ∙ bus_store-kernel sys.bus at 8 v l)

pub host_law : (p : Phase) (sys : System) (at v : ℕ) → v < 2 ^ 64 → IsBus sys.bus → HostWrite at v p → Known p sys → Known (written at v p) (over (with_beat sys.bus at v) sys.hart)
host_law p sys at v fits whole (Clears e z) h =
    subst (λ y. Known (written y v p) (over (with_beat sys.bus y v) sys.hart)) (sym e)
    (subst (λ y. Known (record p { tohost = y }) (over (with_beat sys.bus tohost y) sys.hart)) (sym z)
    (subst (λ y. Known (record p { tohost = 0 }) y) (sym (beat-is sys tohost 0 (omega arith) (omega arith) refl)) (clear_law sys whole p h)))
host_law p sys at v fits whole (Results e k) h =
    subst (λ y. Known (written y v p) (over (with_beat sys.bus y v) sys.hart)) (sym e)
    (subst (λ y. Known (record p { request = slice_set p.request 0 v }) y) (sym (beat-is sys request v (omega arith) (omega arith) refl)) (result_law sys whole v fits p k h))
host_law p sys at v fits whole (Answers e n k t f) h =
    subst (λ y. Known (written y v p) (over (with_beat sys.bus y v) sys.hart)) (sym e)
    (subst (λ y. Known (record p { fromhost = v }) y) (sym (beat-is sys fromhost v (omega arith) (omega arith) refl)) (answer_law sys whole v fits n p k t h))
host_law p sys at v fits whole (Fills a l k) h = subst (λ y. Known y (over (with_beat sys.bus at v) sys.hart)) (sym (user-written p at v l)) (user-beat p sys at v l k h)

pub host_written : (p q : Phase) (sys : System) (at v : ℕ) (bus : BusState) → v < 2 ^ 64 → IsBus sys.bus → HostWrite at v p → Known p sys → bus ≡ with_beat sys.bus at v → q ≡ written at v p → Known q (over bus sys.hart)
host_written p q sys at v bus fits whole w h e f = subst (λ y. Known y (over bus sys.hart)) (sym f) (subst (λ y. Known (written at v p) (over y sys.hart)) (sym e) (host_law p sys at v fits whole w h))
