-- The steps of the kernel from its start to its program.
use Rattle.std.proofs.Common.{◌≡◌, ℕ, true, false, List, refl, sym, ap, subst, ◌∙◌, arith}
use Rattle.std.specs.Prelude.{slice_set}
use Rattle.fe_base.specs.Limits.{stack_top}
use Rattle.fe_base.specs.MemoryMap.{request, tohost, fromhost}
use Rattle.guest_memory.specs.Memory.{zeros}
use Rattle.host_text.specs.World.{World}
use Rattle.kernel_sim.specs.Advance.{Posted, StepsAdvance}
use Rattle.kernel_sim.specs.Changes.{UserAfter, StepsCounted, Waits, entry_registers}
use Rattle.kernel_sim.specs.Holds.{Holds}
use Rattle.kernel_sim.specs.Kept.{UserKept, BootBlockKept}
use Rattle.kernel_sim.specs.Mail.{MailIs, mail_class}
use Rattle.kernel_sim.specs.Mailbox.{MailboxKept}
use Rattle.kernel_sim.specs.Phases.{next_phase}
use Rattle.kernel_sim.specs.Rows.{mode_of}
use Rattle.kernel_sim.specs.Steps.{follows}
use Rattle.kernel_sim.specs.declared.phase.Phase.{Phase}
use Rattle.kernel_sim.specs.declared.phase.PhaseKind.{PhaseKind}
use Rattle.kernel_sim.specs.declared.phase.PhaseKind.TheVariants.{Boot, BootWait, BootTake, Leave, User, Save, Check}
use Rattle.kernel_sim.specs.declared.phase.PhaseKind.TheVariants.{Scan, Fill, Wait, Take, Local, Restore, Speak}
use Rattle.kernel_sim.specs.declared.phase.PhaseKind.TheVariants.{Closing}
use Rattle.kernel_sim.specs.declared.phase.UserState.{UserState as Program}
use Rattle.plain_machine.specs.Direct.{Machine, running, in_world, direct_after, direct_after-zero}
use Rattle.plain_machine.specs.Starts.{Configuration, direct_start, first_bytes, first_machine, first_world, setting_of}
use Rattle.rv_csr.specs.declared.privilege.Mode.TheVariants as mode
use Rattle.rv_hart.specs.HartStep.{System, hart_step}
use Rattle.rv_hart.specs.Laws.{IsSystem}
use Rattle.tether_base.specs.Place.{Book}
use Rattle.tether_base.specs.Waiting.{process_of}
use Rattle.tether_boot.specs.Booting.{is_asked, is_carried_out, is_answered, BehindBoot, BootStepsFollow}
use Rattle.tether_boot.specs.Booting.{IsBooting, IsReady, IsSetUp, StartsUp}
use Rattle.tether_boot.specs.Booting.{boots, asks, takes, leaves}

-- the registers with which the kernel begins a program are those of the direct start
entry-registers : entry_registers ≡ slice_set (zeros 32) 2 stack_top
unfolding zeros
entry-registers = refl

-- the program that begins is the direct start's
module _ (c : Configuration) where
  begins-there : (u : Program) (user : List ℕ) → u.pc ≡ c.image.entry → u.regs ≡ entry_registers
      → u.brk ≡ c.image.first_break → u.first_break ≡ c.image.first_break → user ≡ first_bytes c.image c.args
      → running (process_of u user) ≡ first_machine c.image c.args
  begins-there u user pc regs brk first bytes =
      let at : ℕ → List ℕ → ℕ → ℕ → List ℕ → Machine =
      λ n r b f l. running (process_of (record { pc = n; regs = r; brk = b; first_break = f }) l) in
      ap (λ (n : ℕ). at n u.regs u.brk u.first_break user) pc
      ∙ ap (λ (r : List ℕ). at c.image.entry r u.brk u.first_break user) (regs ∙ entry-registers)
      ∙ ap (λ (n : ℕ). at c.image.entry (slice_set (zeros 32) 2 stack_top) n u.first_break user) brk
      ∙ ap (λ (n : ℕ). at c.image.entry (slice_set (zeros 32) 2 stack_top) c.image.first_break n user) first
      ∙ ap (λ (l : List ℕ). at c.image.entry (slice_set (zeros 32) 2 stack_top) c.image.first_break
      c.image.first_break l) bytes

module _ (advance : StepsAdvance) (c : Configuration) (w : World) (book : Book) (ws : List ℕ) (p : Phase)
    (sys : System) (held : Holds p sys) (fits : IsSystem sys) where
  abbrev new : System
  new = hart_step sys

  abbrev q : Phase
  q = next_phase p new

  -- what the law of a step says, by the kinds
  record Facts (k j : PhaseKind) : Type 0 where
    user : UserAfter k j p sys new q.user
    bytes : UserKept k j sys.bus new.bus
    steps : StepsCounted k sys.hart new.hart
    mail : MailboxKept k j sys.bus new.bus
    mails : MailIs (mail_class k) p.tohost p.fromhost
    posted : Posted k j p sys new
    waits : Waits k p q
    block : BootBlockKept sys.bus new.bus
    goes_to : q.kind ≡ j
    mode_is : new.hart.mode ≡ mode_of j
    order : follows k j ≡ true

  facts : (k j : PhaseKind) → p.kind ≡ k → q.kind ≡ j → Facts k j
  facts k j e f =
      let step = advance p sys held fits in
      let a = step.1 in
      subst (λ (z : PhaseKind). Facts k z) f
      (subst (λ (z : PhaseKind). Facts z q.kind) e
      (record {
        user = a.user;
        bytes = a.user_bytes;
        steps = a.counted;
        mail = a.mailbox;
        mails = held.every.mailbox;
        posted = a.posted;
        waits = a.waits;
        block = a.boot_block;
        goes_to = refl;
        mode_is = step.0.every.mode_is;
        order = a.order;
      }))

  -- what the step keeps
  booting-on : new.hart.user_steps ≡ sys.hart.user_steps → new.hart.mode ≡ mode.Machine → BootBlockKept sys.bus new.bus
      → IsBooting c w book sys → IsBooting c w book new
  booting-on steps machine block b = record {
    world_is = b.world_is;
    unbegun = record {
      in_machine = machine;
      no_steps = steps ∙ b.unbegun.no_steps;
      noted = b.unbegun.noted;
      silent = b.unbegun.silent;
    };
    names = record { entry_is = block.0 ∙ b.names.entry_is; break_is = block.1 ∙ b.names.break_is };
  }

  set-up-on : q.user ≡ p.user → new.hart.user_steps ≡ sys.hart.user_steps → new.hart.mode ≡ mode.Machine
      → BootBlockKept sys.bus new.bus → IsSetUp c w book p sys → IsSetUp c w book q new
  set-up-on same steps machine block b = record {
    booting = booting-on steps machine block b.booting;
    program_break = ap (λ (u : Program). u.brk) same ∙ b.program_break;
    first_break = ap (λ (u : Program). u.first_break) same ∙ b.first_break;
  }

  ready-on : q.user ≡ p.user → new.bus.user ≡ sys.bus.user → new.hart.user_steps ≡ sys.hart.user_steps
      → new.hart.mode ≡ mode.Machine → BootBlockKept sys.bus new.bus → IsReady c w book ws p sys
      → IsReady c w book ws q new
  ready-on same bytes steps machine block b = record {
    set_up = set-up-on same steps machine block b.set_up;
    none_waits = b.none_waits;
    user_is = bytes ∙ b.user_is;
  }

  -- the kernel has set the break, and posted its request
  posts-there : Facts Boot BootWait → BehindBoot c w book ws Boot p sys → BehindBoot c w book ws BootWait q new
  posts-there x b =
      let booted = booting-on x.steps x.mode_is x.block b.1 in (
        record {
          booting = booted;
          program_break = ap (λ (u : Program). u.brk) x.user ∙ booted.names.break_is;
          first_break = ap (λ (u : Program). u.first_break) x.user ∙ booted.names.break_is;
        },
        is_asked b.0 x.posted.1 (x.mail.1 ∙ sym held.every.fromhost_is ∙ x.mails.1) x.posted.0 (x.bytes ∙ b.2),
      )

  -- the wait goes on
  waits-on : Facts BootWait BootWait → BehindBoot c w book ws BootWait p sys → BehindBoot c w book ws BootWait q new
  waits-on x b =
      let put : q.tohost ≡ p.tohost = x.mail.0 ∙ sym held.every.tohost_is in
      let got : q.fromhost ≡ p.fromhost = x.mail.1 ∙ sym held.every.fromhost_is in
      let asked : q.request ≡ p.request = x.mail.2 ∙ sym held.every.request_is in (
        set-up-on x.user x.steps x.mode_is x.block b.0,
        elim b.1 [
          | is_asked none word unanswered whole user ↦
              is_asked none (put ∙ word) (got ∙ unanswered) (asked ∙ whole) (x.bytes ∙ user)
          | is_carried_out one word unanswered user ↦
              is_carried_out one (put ∙ word) (got ∙ unanswered) (x.bytes ∙ user)
          | is_answered none some user ↦ is_answered none (λ e. some (sym got ∙ e)) (x.bytes ∙ user)
        ],
      )

  -- it ends where the answer is there alone
  taken-by : {P : Type 0} → Facts BootWait BootTake → p.fromhost ≡ 0 → P
  taken-by x unanswered =
      let no : BootTake ≡ BootWait = sym x.goes_to ∙ x.waits unanswered in
      let bad : ⊥ = cc in
      absurd bad

  takes-there : Facts BootWait BootTake → BehindBoot c w book ws BootWait p sys → IsReady c w book ws q new
  takes-there x b = elim b.1 [
    | is_asked none word unanswered whole user ↦ taken-by x unanswered
    | is_carried_out one word unanswered user ↦ taken-by x unanswered
    | is_answered none some user ↦ record {
      set_up = set-up-on x.user x.steps x.mode_is x.block b.0;
      none_waits = none;
      user_is = x.bytes ∙ user;
    }
  ]

  -- the program begins
  leaves-there : Facts Leave User → IsReady c w book ws p sys → BehindBoot c w book ws User q new
  leaves-there x b =
      let start = b.set_up.booting in
      let same = begins-there c q.user new.bus.user (ap (λ (u : Program). u.pc) x.user ∙ start.names.entry_is)
      (ap (λ (u : Program). u.regs) x.user) (ap (λ (u : Program). u.brk) x.user ∙ b.set_up.program_break)
      (ap (λ (u : Program). u.first_break) x.user ∙ b.set_up.first_break) (x.bytes ∙ b.user_is) in
      let none : new.hart.user_steps ≡ 0 = x.steps ∙ start.unbegun.no_steps in (
        b.none_waits,
        record {
          noted = (let e = start.unbegun.noted in omega arith);
          silent = start.unbegun.silent;
          stands = ap (λ (n : ℕ). direct_after (setting_of c) n (direct_start c)) none
              ∙ direct_after-zero (setting_of c) (direct_start c)
              ∙ ap (λ (m : Machine). in_world m (first_world c.contents)) (sym same)
              ∙ ap (λ (z : World). in_world (running (process_of q.user new.bus.user)) z) (sym start.world_is);
        },
      )

  going : (k j : PhaseKind) → StartsUp k → Facts k j → BehindBoot c w book ws k p sys
      → BehindBoot c w book ws j q new
  going Boot BootTake boots x b = let no : ⊥ = (let e : false ≡ true = x.order in cc) in absurd no
  going Boot Leave boots x b = let no : ⊥ = (let e : false ≡ true = x.order in cc) in absurd no
  going Boot User boots x b = let no : ⊥ = (let e : false ≡ true = x.order in cc) in absurd no
  going Boot Save boots x b = let no : ⊥ = (let e : false ≡ true = x.order in cc) in absurd no
  going Boot Check boots x b = let no : ⊥ = (let e : false ≡ true = x.order in cc) in absurd no
  going Boot Scan boots x b = let no : ⊥ = (let e : false ≡ true = x.order in cc) in absurd no
  going Boot Fill boots x b = let no : ⊥ = (let e : false ≡ true = x.order in cc) in absurd no
  going Boot Wait boots x b = let no : ⊥ = (let e : false ≡ true = x.order in cc) in absurd no
  going Boot Take boots x b = let no : ⊥ = (let e : false ≡ true = x.order in cc) in absurd no
  going Boot Local boots x b = let no : ⊥ = (let e : false ≡ true = x.order in cc) in absurd no
  going Boot Restore boots x b = let no : ⊥ = (let e : false ≡ true = x.order in cc) in absurd no
  going Boot Speak boots x b = let no : ⊥ = (let e : false ≡ true = x.order in cc) in absurd no
  going Boot Closing boots x b = let no : ⊥ = (let e : false ≡ true = x.order in cc) in absurd no
  going BootWait Boot asks x b = let no : ⊥ = (let e : false ≡ true = x.order in cc) in absurd no
  going BootWait Leave asks x b = let no : ⊥ = (let e : false ≡ true = x.order in cc) in absurd no
  going BootWait User asks x b = let no : ⊥ = (let e : false ≡ true = x.order in cc) in absurd no
  going BootWait Save asks x b = let no : ⊥ = (let e : false ≡ true = x.order in cc) in absurd no
  going BootWait Check asks x b = let no : ⊥ = (let e : false ≡ true = x.order in cc) in absurd no
  going BootWait Scan asks x b = let no : ⊥ = (let e : false ≡ true = x.order in cc) in absurd no
  going BootWait Fill asks x b = let no : ⊥ = (let e : false ≡ true = x.order in cc) in absurd no
  going BootWait Wait asks x b = let no : ⊥ = (let e : false ≡ true = x.order in cc) in absurd no
  going BootWait Take asks x b = let no : ⊥ = (let e : false ≡ true = x.order in cc) in absurd no
  going BootWait Local asks x b = let no : ⊥ = (let e : false ≡ true = x.order in cc) in absurd no
  going BootWait Restore asks x b = let no : ⊥ = (let e : false ≡ true = x.order in cc) in absurd no
  going BootWait Speak asks x b = let no : ⊥ = (let e : false ≡ true = x.order in cc) in absurd no
  going BootWait Closing asks x b = let no : ⊥ = (let e : false ≡ true = x.order in cc) in absurd no
  going BootTake Boot takes x b = let no : ⊥ = (let e : false ≡ true = x.order in cc) in absurd no
  going BootTake BootWait takes x b = let no : ⊥ = (let e : false ≡ true = x.order in cc) in absurd no
  going BootTake User takes x b = let no : ⊥ = (let e : false ≡ true = x.order in cc) in absurd no
  going BootTake Save takes x b = let no : ⊥ = (let e : false ≡ true = x.order in cc) in absurd no
  going BootTake Check takes x b = let no : ⊥ = (let e : false ≡ true = x.order in cc) in absurd no
  going BootTake Scan takes x b = let no : ⊥ = (let e : false ≡ true = x.order in cc) in absurd no
  going BootTake Fill takes x b = let no : ⊥ = (let e : false ≡ true = x.order in cc) in absurd no
  going BootTake Wait takes x b = let no : ⊥ = (let e : false ≡ true = x.order in cc) in absurd no
  going BootTake Take takes x b = let no : ⊥ = (let e : false ≡ true = x.order in cc) in absurd no
  going BootTake Local takes x b = let no : ⊥ = (let e : false ≡ true = x.order in cc) in absurd no
  going BootTake Restore takes x b = let no : ⊥ = (let e : false ≡ true = x.order in cc) in absurd no
  going BootTake Speak takes x b = let no : ⊥ = (let e : false ≡ true = x.order in cc) in absurd no
  going BootTake Closing takes x b = let no : ⊥ = (let e : false ≡ true = x.order in cc) in absurd no
  going Leave Boot leaves x b = let no : ⊥ = (let e : false ≡ true = x.order in cc) in absurd no
  going Leave BootWait leaves x b = let no : ⊥ = (let e : false ≡ true = x.order in cc) in absurd no
  going Leave BootTake leaves x b = let no : ⊥ = (let e : false ≡ true = x.order in cc) in absurd no
  going Leave Save leaves x b = let no : ⊥ = (let e : false ≡ true = x.order in cc) in absurd no
  going Leave Check leaves x b = let no : ⊥ = (let e : false ≡ true = x.order in cc) in absurd no
  going Leave Scan leaves x b = let no : ⊥ = (let e : false ≡ true = x.order in cc) in absurd no
  going Leave Fill leaves x b = let no : ⊥ = (let e : false ≡ true = x.order in cc) in absurd no
  going Leave Wait leaves x b = let no : ⊥ = (let e : false ≡ true = x.order in cc) in absurd no
  going Leave Take leaves x b = let no : ⊥ = (let e : false ≡ true = x.order in cc) in absurd no
  going Leave Local leaves x b = let no : ⊥ = (let e : false ≡ true = x.order in cc) in absurd no
  going Leave Restore leaves x b = let no : ⊥ = (let e : false ≡ true = x.order in cc) in absurd no
  going Leave Speak leaves x b = let no : ⊥ = (let e : false ≡ true = x.order in cc) in absurd no
  going Leave Closing leaves x b = let no : ⊥ = (let e : false ≡ true = x.order in cc) in absurd no
  going Boot Boot boots x b = (b.0, booting-on x.steps x.mode_is x.block b.1, x.bytes ∙ b.2)
  going Boot BootWait boots x b = posts-there x b
  going BootWait BootWait asks x b = waits-on x b
  going BootWait BootTake asks x b = takes-there x b
  going BootTake BootTake takes x b = ready-on x.user x.bytes x.steps x.mode_is x.block b
  going BootTake Leave takes x b = ready-on x.user x.bytes x.steps x.mode_is x.block b
  going Leave Leave leaves x b = ready-on x.user x.bytes x.steps x.mode_is x.block b
  going Leave User leaves x b = leaves-there x b
  going User j starts x b = elim starts [ ]
  going Save j starts x b = elim starts [ ]
  going Check j starts x b = elim starts [ ]
  going Scan j starts x b = elim starts [ ]
  going Fill j starts x b = elim starts [ ]
  going Wait j starts x b = elim starts [ ]
  going Take j starts x b = elim starts [ ]
  going Local j starts x b = elim starts [ ]
  going Restore j starts x b = elim starts [ ]
  going Speak j starts x b = elim starts [ ]
  going Closing j starts x b = elim starts [ ]

  boot-step : StartsUp p.kind → BehindBoot c w book ws p.kind p sys → BehindBoot c w book ws q.kind q new
  boot-step starts b = going p.kind q.kind starts (facts p.kind q.kind refl refl) b

pub boot_steps_follow : StepsAdvance → BootStepsFollow
boot_steps_follow advance c w book ws p sys held fits starts b =
    boot-step advance c w book ws p sys held fits starts b
