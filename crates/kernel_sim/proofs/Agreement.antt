-- A step of the hart in user mode is the user step.
use Rattle.std.proofs.Common.{◌≡◌, ℕ, zero, suc, ◌-◌, ◌%◌, ◌<◌, ◌≤◌, Bool, true, false, ◌&&◌, ◌||◌, ◌==◌, Option, Some, None, if◌then◌else◌, List, refl, ap, sym, ◌∙◌, arith}
use Rattle.std.specs.Prelude.{unwrap_or}
use Rattle.std.proofs.lemmas.Bool.{and_parts, false≢true}
use Rattle.std.proofs.lemmas.Bool.Decides.{nat_tests}
use Rattle.fe_base.specs.ByteRanges.{next_byte, every_byte, some_byte, first_failing}
use Rattle.fe_base.specs.MemoryMap.{user_start, user_end, start_word}
use Rattle.fe_base.proofs.RangeLemmas.{every-some, first-none, first-same}
use Rattle.guest_memory.specs.Bus.{BusState}
use Rattle.guest_memory.specs.Memory.{load, store}
use Rattle.guest_memory.proofs.AreaLemmas.{bus_load-user, bus_store-user}
use Rattle.rv_decode.specs.Alignment.{instruction_alignment}
use Rattle.rv_decode.specs.InsnTable.{insn_of}
use Rattle.rv_decode.specs.declared.instruction.Insn.{Insn}
use Rattle.rv_alu.specs.Effects.{loaded, put}
use Rattle.rv_alu.specs.declared.causes.Cause.{Cause}
use Rattle.rv_alu.specs.declared.causes.Cause.TheVariants.{Misaligned, FetchAccess, LoadAccess, StoreAccess}
use Rattle.rv_alu.specs.declared.effects.Effect.{Effect}
use Rattle.rv_alu.specs.declared.effects.Effect.TheVariants.{Pass, Set, Jump, Load, Store, Csr, Call, Break, Return, Wait}
use Rattle.rv_alu.specs.declared.effects.Size.TheVariants.{Byte, Half, Word, Double}
use Rattle.rv_csr.specs.CsrTable.{CsrState, csr_of, is_allowed}
use Rattle.rv_csr.specs.Pmp.{decision, pmp_allows}
use Rattle.rv_csr.specs.declared.privilege.Access.{Access}
use Rattle.rv_csr.specs.declared.privilege.Access.TheVariants.{Read, Write, Execute}
use Rattle.rv_csr.specs.declared.privilege.Mode.{Mode}
use Rattle.rv_csr.specs.declared.privilege.Mode.TheVariants.{User}
use Rattle.rv_hart.specs.Accesses.{is_ram_byte, is_permitted, first_refused, refused_byte, hart_load, hart_store}
use Rattle.rv_hart.specs.HartStep.{System, SystemStep, over, next_hart, csr_step, instruction_step, executing_step, after_step, hart_step, step_by, counted_step}
use Rattle.rv_hart.specs.HartStep as hart
use Rattle.rv_hart.specs.declared.debug.Run.{Run}
use Rattle.plain_machine.specs.UserStep.{UserState, UserStep, is_user, outside}
use Rattle.plain_machine.specs.UserStep as user
use Rattle.kernel_sim.specs.UserMode.{IsFenced, user_fence, user_of, seen, InstructionsAgree, UserStepsAgree, KernelFences}

-- ---- behind the fence user mode reaches the user area, and nothing else
and-true : (b : Bool) → (b && true) ≡ b
and-true true = refl
and-true false = refl

decided : (at count : ℕ) →
    unwrap_or (if some_byte is_user at (suc count) then Some (every_byte is_user at (suc count) && true) else None) false ≡ every_byte is_user at (suc count)
decided at count = go (some_byte is_user at (suc count)) refl
  where
    go : (some : Bool) → some_byte is_user at (suc count) ≡ some →
        unwrap_or (if some then Some (every_byte is_user at (suc count) && true) else None) false ≡ every_byte is_user at (suc count)
    go true met = and-true _
    go false missed = sym (every-some is_user at count missed)

fence-allows : (access : Access) (at count : ℕ) → pmp_allows user_fence access at (suc count) ≡ every_byte is_user at (suc count)
unfolding decision
fence-allows Read at count = decided at count
fence-allows Write at count = decided at count
fence-allows Execute at count = decided at count

or-left : (x y : Bool) → x ≡ true → (x || y) ≡ true
or-left true y is = refl
or-left false y is = absurd (false≢true is)

user-ram : (at : ℕ) → is_user at ≡ true → is_ram_byte at ≡ true
user-ram at inside = grind (arith, nat_tests)

ram-too : (at count : ℕ) → every_byte is_user at count ≡ true → every_byte is_ram_byte at count ≡ true
ram-too at zero all = refl
ram-too at (suc count) all =
    let both = and_parts (is_user at) (every_byte is_user (next_byte at) count) all in
    rw (user-ram at both.0, ram-too (next_byte at) count both.1) refl

both : (x y : Bool) → (y ≡ true → x ≡ true) → (x && y) ≡ y
both true y f = refl
both false true f = f refl
both false false f = refl

permitted-user : (csrs : CsrState) → IsFenced csrs → (access : Access) (at count : ℕ) → is_permitted csrs User access at (suc count) ≡ every_byte is_user at (suc count)
unfolding is_permitted is_allowed
permitted-user csrs fenced access at count =
    rw (fenced, fence-allows access at count)
    (both (every_byte is_ram_byte at (suc count)) (every_byte is_user at (suc count)) (ram-too at (suc count)))

first-default : (test : ℕ → Bool) (at count other : ℕ) → every_byte test at count ≡ false → Some (unwrap_or (first_failing test at count) other) ≡ first_failing test at count
first-default test at zero other some = absurd (false≢true (sym some))
first-default test at (suc count) other some = go (test at) some (first-default test (next_byte at) count other)
  where
    go : (here : Bool) → (here && every_byte test (next_byte at) count) ≡ false
        → (every_byte test (next_byte at) count ≡ false → Some (unwrap_or (first_failing test (next_byte at) count) other) ≡ first_failing test (next_byte at) count)
        → Some (unwrap_or (if here then first_failing test (next_byte at) count else Some at) other) ≡ (if here then first_failing test (next_byte at) count else Some at)
    go true fails rest = rest fails
    go false fails rest = refl

-- the byte that is told is the first outside the user area
refused-user : (csrs : CsrState) → IsFenced csrs → (access : Access) (at count : ℕ) → refused_byte csrs User access at (suc count) ≡ outside at (suc count)
unfolding refused_byte outside
refused-user csrs fenced access at count = go (every_byte is_user at (suc count)) refl
  where
    one : (byte : ℕ) → is_permitted csrs User access byte 1 ≡ is_user byte
    one byte = permitted-user csrs fenced access byte 0 ∙ and-true (is_user byte)

    go : (all : Bool) → every_byte is_user at (suc count) ≡ all
        → (if is_permitted csrs User access at (suc count) then None else Some (first_refused csrs User access at (suc count))) ≡ first_failing is_user at (suc count)
    go true inside = rw (permitted-user csrs fenced access at count, inside) (sym (first-none is_user at (suc count) inside))
    go false beyond =
        rw (permitted-user csrs fenced access at count, beyond)
        (ap (λ (found : Option ℕ). Some (unwrap_or found at)) (first-same (λ byte. is_permitted csrs User access byte 1) is_user one at (suc count)) ∙ first-default is_user at (suc count) at beyond)

-- where no byte is outside, the address is one of the user area
low-address : (at count : ℕ) → outside at (suc count) ≡ None → (user_start ≤ at) × (at < user_end)
unfolding outside
low-address at count none = go (is_user at) refl none
  where
    go : (here : Bool) → is_user at ≡ here → (if here then first_failing is_user (next_byte at) count else Some at) ≡ None → (user_start ≤ at) × (at < user_end)
    go true inside rest = grind (arith, nat_tests)
    go false beyond rest = cc

load-user : (bus : BusState) (at count : ℕ) → outside at (suc count) ≡ None → hart_load bus at (suc count) ≡ load bus.user (at - user_start) (suc count)
unfolding hart_load
load-user bus at count none =
    let place = low-address at count none in
    let other : (at == start_word) ≡ false = grind (arith, nat_tests) in
    rw other (bus_load-user bus at (suc count) (omega arith))

store-user : (bus : BusState) (at count value : ℕ) → outside at (suc count) ≡ None
    → hart_store bus at (suc count) value ≡ (record bus { user = store bus.user (at - user_start) (suc count) value })
unfolding hart_store
store-user bus at count value none =
    let place = low-address at count none in
    let other : (at == start_word) ≡ false = grind (arith, nat_tests) in
    rw other (bus_store-user bus at (suc count) value (omega arith))

-- ---- effects
unless-agrees : (refused out : Option ℕ) (cause : Cause) (system : System) (after : SystemStep) (step : UserStep) → refused ≡ out → (out ≡ None → after ≡ seen step system)
    → hart.unless refused cause after ≡ seen (user.unless out cause step) system
unless-agrees refused (Some byte) cause system after step same rest = rw same refl
unless-agrees refused None cause system after step same rest = rw same (rest refl)

jump-agrees : (even : Bool) (system : System) (target after rd : ℕ) →
    (if even then next_hart system.bus (record system.hart { pc = target; registers = put system.hart.registers rd after }) else hart.trap Misaligned target)
    ≡ seen (if even then user.next (record (user_of system) { pc = target; registers = put system.hart.registers rd after }) else user.trap Misaligned target) system
jump-agrees true system target after rd = refl
jump-agrees false system target after rd = refl

module _ (system : System) (mode : system.hart.mode ≡ User) (fenced : IsFenced system.hart.csrs) where
  refused-here : (access : Access) (at count : ℕ) → refused_byte system.hart.csrs system.hart.mode access at (suc count) ≡ outside at (suc count)
  refused-here access at count = rw mode (refused-user system.hart.csrs fenced access at count)

  load-agrees : (at count after : ℕ) (registers : ℕ → List ℕ) →
      hart.unless (refused_byte system.hart.csrs system.hart.mode Read at (suc count)) LoadAccess
      (next_hart system.bus (record system.hart { pc = after; registers = registers (hart_load system.bus at (suc count)) }))
      ≡ seen (user.unless (outside at (suc count)) LoadAccess (user.next (record (user_of system) { pc = after; registers = registers (load system.bus.user (at - user_start) (suc count)) }))) system
  load-agrees at count after registers =
      let loaded_system : SystemStep = next_hart system.bus (record system.hart { pc = after; registers = registers (hart_load system.bus at (suc count)) }) in
      let step : UserStep = user.next (record (user_of system) { pc = after; registers = registers (load system.bus.user (at - user_start) (suc count)) }) in
      let same : outside at (suc count) ≡ None → loaded_system ≡ seen step system = λ none. rw (load-user system.bus at count none) refl in
      unless-agrees _ (outside at (suc count)) LoadAccess system loaded_system step (refused-here Read at count) same

  store-agrees : (at count value after : ℕ) →
      hart.unless (refused_byte system.hart.csrs system.hart.mode Write at (suc count)) StoreAccess
      (next_hart (hart_store system.bus at (suc count) value) (record system.hart { pc = after }))
      ≡ seen (user.unless (outside at (suc count)) StoreAccess (user.next (record (user_of system) { pc = after; user = store system.bus.user (at - user_start) (suc count) value }))) system
  store-agrees at count value after =
      let stored : SystemStep = next_hart (hart_store system.bus at (suc count) value) (record system.hart { pc = after }) in
      let step : UserStep = user.next (record (user_of system) { pc = after; user = store system.bus.user (at - user_start) (suc count) value }) in
      let same : outside at (suc count) ≡ None → stored ≡ seen step system = λ none. rw (store-user system.bus at count value none) refl in
      unless-agrees _ (outside at (suc count)) StoreAccess system stored step (refused-here Write at count) same

  effect-agrees : (effect : Effect) (bits after : ℕ) → hart.effect_step effect bits after system ≡ seen (user.effect_step effect bits after (user_of system)) system
  unfolding hart.effect_step user.effect_step csr_step
  effect-agrees Pass bits after = refl
  effect-agrees (Set rd value) bits after = refl
  effect-agrees (Jump rd target) bits after = jump-agrees (target % instruction_alignment == 0) system target after rd
  effect-agrees (Load rd Byte extends at) bits after = load-agrees at 0 after (λ n. put system.hart.registers rd (loaded Byte extends n))
  effect-agrees (Load rd Half extends at) bits after = load-agrees at 1 after (λ n. put system.hart.registers rd (loaded Half extends n))
  effect-agrees (Load rd Word extends at) bits after = load-agrees at 3 after (λ n. put system.hart.registers rd (loaded Word extends n))
  effect-agrees (Load rd Double extends at) bits after = load-agrees at 7 after (λ n. put system.hart.registers rd (loaded Double extends n))
  effect-agrees (Store Byte at value) bits after = store-agrees at 0 value after
  effect-agrees (Store Half at value) bits after = store-agrees at 1 value after
  effect-agrees (Store Word at value) bits after = store-agrees at 3 value after
  effect-agrees (Store Double at value) bits after = store-agrees at 7 value after
  effect-agrees (Csr rd csr op value writes) bits after = rw mode refl
  effect-agrees Call bits after = rw mode refl
  effect-agrees Break bits after = refl
  effect-agrees Return bits after = rw mode refl
  effect-agrees Wait bits after = rw mode refl

  insn-agrees : (insn : Option Insn) (bits : ℕ) → hart.insn_step insn bits 4 system ≡ seen (user.insn_step insn bits 4 (user_of system)) system
  insn-agrees (Some insn) bits = effect-agrees _ bits _
  insn-agrees None bits = refl

  step-agrees : instruction_step system ≡ seen (user.user_step (user_of system)) system
  unfolding instruction_step
  step-agrees =
      let word : ℕ = load system.bus.user (system.hart.pc - user_start) 4 in
      let done : SystemStep = hart.insn_step (insn_of (hart_load system.bus system.hart.pc 4)) (hart_load system.bus system.hart.pc 4) 4 system in
      let step : UserStep = user.insn_step (insn_of word) word 4 (user_of system) in
      let same : outside system.hart.pc 4 ≡ None → done ≡ seen step system = λ none. rw (load-user system.bus system.hart.pc 3 none) (insn-agrees (insn_of word) word) in
      unless-agrees _ (outside system.hart.pc 4) FetchAccess system done step (refused-here Execute system.hart.pc 3) same

pub instructions_agree : InstructionsAgree
instructions_agree system mode fenced = step-agrees system mode fenced

pub user_steps_agree : UserStepsAgree
user_steps_agree system run mode fenced =
    let counted : System = over system.bus (counted_step User system.hart) in
    let begun : hart_step system ≡ executing_step counted =
    ap (λ (stands : Run). step_by stands system) run ∙ ap (λ (m : Mode). executing_step (over system.bus (counted_step m system.hart))) mode in
    begun ∙ ap (after_step counted) (step-agrees counted mode fenced)

pub kernel_fences : KernelFences
unfolding csr_of
kernel_fences csrs = refl
