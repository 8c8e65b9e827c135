-- An access keeps a debug module whose fields fit, and its reply fits.
use Rattle.std.proofs.Common.{◌≡◌, ℕ, ◌+◌, ◌-◌, ◌*◌, ◌/◌, ◌%◌, ◌^◌, ◌<◌, ◌≤◌, Bool, true, false, ◌==◌, ◌&&◌, not}
use Rattle.std.proofs.Common.{if◌then◌else◌, List, length, refl, sym, ◌∙◌, arith}
use Rattle.std.specs.Prelude.{slice_index, slice_set, bit_and}
use Rattle.std.proofs.lemmas.Bool.{false≢true, and_parts}
use Rattle.std.proofs.lemmas.List.{length-set}
use Rattle.std.proofs.lemmas.Nat.{and_le_l}
use Rattle.std.proofs.lemmas.Grind.{common_steps}
use Rattle.fe_base.specs.DebugModule.{ModuleState, IsModule, reset_module, bit}
use Rattle.fe_base.specs.DebugModule.{bits_if, is_busy, is_storage, storage, with_storage, dmstatus, abstractcs}
use Rattle.fe_base.specs.DebugModule.{register_of, failed_by, is_unsupported, commanded, controlled, wrote}
use Rattle.fe_base.specs.DebugModule.{after_write, after_read, module_access}
use Rattle.fe_base.specs.declared.wires.DmiOp.{DmiOp}
use Rattle.fe_base.specs.declared.wires.DmiOp.TheVariants.{Nop, Read, Write}

-- ---- replies
if-lt : (condition : Bool) (x y bound : ℕ) → x < bound → y < bound → (if condition then x else y) < bound
if-lt true x y bound first second = first
if-lt false x y bound first second = second

bits-le : (condition : Bool) (bits : ℕ) → bits_if condition bits ≤ bits
bits-le true bits = omega arith
bits-le false bits = omega arith

dmstatus-fits : (m : ModuleState) (halted : Bool) → dmstatus m halted < 2 ^ 32
dmstatus-fits m true = let few = bits-le m.acked 0x30000 in omega (arith, few)
dmstatus-fits m false = let few = bits-le m.acked 0x30000 in omega (arith, few)

abstractcs-fits : (m : ModuleState) → IsModule m → abstractcs m < 2 ^ 32
abstractcs-fits m ok = let few = bits-le (is_busy m.job) 0x1000 in let small = ok.cmderr_fits in
    omega (arith, few, small)

storage-fits : (m : ModuleState) (address : ℕ) → IsModule m → storage m address < 2 ^ 32
storage-fits m address ok =
    let small = ok.value_fits in
    if-lt (address == 0x04) _ _ (2 ^ 32) (omega arith)
    (if-lt (address == 0x05) _ _ (2 ^ 32) (omega (arith, small)) (ok.words_fit (address - 0x20)))

-- a register has 32 bits
pub register-fits : (m : ModuleState) (halted : Bool) (address : ℕ) → IsModule m → register_of m halted address < 2 ^ 32
register-fits m halted address ok =
    if-lt (address == 0x11) _ _ (2 ^ 32) (dmstatus-fits m halted)
    (if-lt (not m.active) _ _ (2 ^ 32) (omega arith)
    (if-lt (address == 0x10) _ _ (2 ^ 32) (omega arith)
    (if-lt (address == 0x16) _ _ (2 ^ 32) (abstractcs-fits m ok)
    (if-lt (is_storage address) _ _ (2 ^ 32) (storage-fits m address ok) (omega arith)))))

-- so has a reply
pub reply-fits : (m : ModuleState) (halted : Bool) (op : DmiOp) (address word : ℕ) → IsModule m
    → (module_access m halted op address word).1 < 2 ^ 32
unfolding module_access
reply-fits m halted Nop address word ok = omega arith
reply-fits m halted Read address word ok = register-fits m halted address ok
reply-fits m halted Write address word ok = omega arith

-- ---- modules
if-module : (condition : Bool) (x y : ModuleState) → (condition ≡ true → IsModule x) → (condition ≡ false → IsModule y)
    → IsModule (if condition then x else y)
if-module true x y first second = first refl
if-module false x y first second = second refl

by-activity : (m : ModuleState) (active : Bool) → m.active ≡ active → IsModule m → (m ≡ reset_module → ⊥)
    → m.active ≡ true
by-activity m true same ok differs = same
by-activity m false same ok differs = absurd (differs (ok.inactive same))

-- a module that is not as at reset is active
pub is-active : (m : ModuleState) → IsModule m → (m ≡ reset_module → ⊥) → m.active ≡ true
is-active m ok differs = by-activity m m.active refl ok differs

-- of an active module the fields have to fit, no more
pub active-fits : (m : ModuleState) → m.active ≡ true → m.value < 2 ^ 64 → length m.buffer ≡ 4
    → ((i : ℕ) → slice_index m.buffer i < 2 ^ 32) → m.cmderr < 8 → IsModule m
active-fits m on value buffer words error = record {
  inactive = λ off. absurd (false≢true (sym off ∙ on));
  value_fits = value;
  buffer_length = buffer;
  words_fit = words;
  cmderr_fits = error;
}

reset-words : (i : ℕ) → slice_index reset_module.buffer i < 2 ^ 32
reset-words i = grind (arith, common_steps)

pub reset-fits : IsModule reset_module
reset-fits = record {
  inactive = λ off. refl;
  value_fits = omega arith;
  buffer_length = refl;
  words_fit = reset-words;
  cmderr_fits = omega arith;
}

-- an error that is kept
failed-keeps : (error : ℕ) (m : ModuleState) → error < 8 → m.active ≡ true → IsModule m → IsModule (failed_by error m)
failed-keeps error m small on ok =
    if-module (m.cmderr == 0) _ _ (λ _. active-fits _ on ok.value_fits ok.buffer_length ok.words_fit small) (λ _. ok)

commanded-keeps : (m : ModuleState) (halted : Bool) (command : ℕ) → m.active ≡ true → IsModule m
    → IsModule (commanded m halted command)
commanded-keeps m halted command on ok =
    if-module (is_busy m.job) _ _ (λ _. failed-keeps 1 m (omega arith) on ok) (λ _.
    if-module (not (m.cmderr == 0)) _ _ (λ _. ok) (λ _.
    if-module (is_unsupported command) _ _ (λ _. active-fits _ on ok.value_fits ok.buffer_length ok.words_fit
    (omega arith)) (λ _.
    if-module (not halted) _ _ (λ _. active-fits _ on ok.value_fits ok.buffer_length ok.words_fit (omega arith)) (λ _.
    active-fits _ on ok.value_fits ok.buffer_length ok.words_fit ok.cmderr_fits))))

controlled-keeps : (m : ModuleState) (halted : Bool) (word : ℕ) → m.active ≡ true → IsModule m
    → IsModule (controlled m halted word)
controlled-keeps m halted word on ok =
    if-module (not (bit 0 word)) _ _ (λ _. reset-fits) (λ _.
    if-module ((bit 30 word && not (bit 31 word)) && halted) _ _
    (λ _. active-fits _ on ok.value_fits ok.buffer_length ok.words_fit ok.cmderr_fits)
    (λ _. active-fits _ on ok.value_fits ok.buffer_length ok.words_fit ok.cmderr_fits))

cleared-fits : (error mask : ℕ) → error < 8 → bit_and error mask < 8
cleared-fits error mask small = let less = and_le_l error mask in omega (arith, less, small)

set-word-fits : (words : List ℕ) (n value i : ℕ) → slice_index words i < 2 ^ 32 → value < 2 ^ 32
    → slice_index (slice_set words n value) i < 2 ^ 32
set-word-fits words n value i old new = grind (arith, common_steps)

low-fits : (value word : ℕ) → value < 2 ^ 64 → word < 2 ^ 32 → value - value % 2 ^ 32 + word < 2 ^ 64
low-fits value word big small = omega (arith, big, small)

high-fits : (value word : ℕ) → word < 2 ^ 32 → value % 2 ^ 32 + word * 2 ^ 32 < 2 ^ 64
high-fits value word small = omega (arith, small)

storage-keeps : (m : ModuleState) (address word : ℕ) → word < 2 ^ 32 → m.active ≡ true → IsModule m
    → IsModule (with_storage m address word)
storage-keeps m address word small on ok =
    if-module (address == 0x04) _ _
    (λ _. active-fits _ on (low-fits m.value word ok.value_fits small) ok.buffer_length ok.words_fit ok.cmderr_fits)
    (λ _.
    if-module (address == 0x05) _ _
    (λ _. active-fits _ on (high-fits m.value word small) ok.buffer_length ok.words_fit ok.cmderr_fits) (λ _.
    active-fits _ on ok.value_fits (length-set m.buffer (address - 0x20) word ∙ ok.buffer_length)
    (λ i. set-word-fits m.buffer (address - 0x20) word i (ok.words_fit i) small) ok.cmderr_fits))

wrote-keeps : (m : ModuleState) (halted : Bool) (address word : ℕ) → word < 2 ^ 32 → m.active ≡ true → IsModule m
    → IsModule (wrote m halted address word)
wrote-keeps m halted address word small on ok =
    if-module (address == 0x10) _ _ (λ _. controlled-keeps m halted word on ok) (λ _.
    if-module (address == 0x17) _ _ (λ _. commanded-keeps m halted word on ok) (λ _.
    if-module (address == 0x16) _ _ (λ _. if-module (is_busy m.job) _ _ (λ _. failed-keeps 1 m (omega arith) on ok)
    (λ _. active-fits _ on ok.value_fits ok.buffer_length ok.words_fit
    (cleared-fits m.cmderr (7 - word / 2 ^ 8 % 8) ok.cmderr_fits))) (λ _.
    if-module (is_storage address) _ _ (λ _. if-module (is_busy m.job) _ _ (λ _. failed-keeps 1 m (omega arith) on ok)
    (λ _. storage-keeps m address word small on ok)) (λ _. ok))))

after_write-keeps : (m : ModuleState) (halted : Bool) (address word : ℕ) → word < 2 ^ 32 → IsModule m
    → IsModule (after_write m halted address word)
after_write-keeps m halted address word small ok =
    if-module m.active _ _ (λ on. wrote-keeps m halted address word small on ok) (λ _.
    if-module (address == 0x10 && bit 0 word) _ _
    (λ _. active-fits _ refl ok.value_fits ok.buffer_length ok.words_fit ok.cmderr_fits) (λ _. ok))

after_read-keeps : (m : ModuleState) (address : ℕ) → IsModule m → IsModule (after_read m address)
after_read-keeps m address ok =
    if-module (m.active && (is_busy m.job && is_storage address)) _ _
    (λ both. failed-keeps 1 m (omega arith) (and_parts m.active _ both).0 ok) (λ _. ok)

-- an access keeps a module whose fields fit
pub access-keeps : (m : ModuleState) (halted : Bool) (op : DmiOp) (address word : ℕ) → word < 2 ^ 32 → IsModule m
    → IsModule (module_access m halted op address word).0
unfolding module_access
access-keeps m halted Nop address word small ok = ok
access-keeps m halted Read address word small ok = after_read-keeps m address ok
access-keeps m halted Write address word small ok = after_write-keeps m halted address word small ok
