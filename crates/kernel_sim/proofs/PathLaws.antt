-- What a scan of a path comes to, byte by byte.
use Rattle.std.proofs.Common.{◌≡◌, pos, drop, ℕ, zero, suc, ◌+◌, ◌-◌, ◌%◌, ◌^◌, ◌<◌, ◌≤◌, ◌==◌, Bool, true, false, ◌||◌, Some, None, List, refl, ap, sym, ◌∙◌, arith}
use Rattle.std.specs.Prelude.{slice_index, not}
use Rattle.rv_decode.specs.declared.instruction.Insn.TheVariants.{Lbu}
use Rattle.rv_csr.specs.CsrTable.{CsrState}
use Rattle.rv_csr.specs.declared.privilege.Access.TheVariants.{Read}
use Rattle.rv_csr.specs.declared.privilege.Mode.TheVariants.{Machine}
use Rattle.fe_base.specs.MemoryMap.{user_start, user_end}
use Rattle.guest_memory.proofs.AreaLemmas.{is_ram-user, bus_load-user}
use Rattle.rv_hart.specs.Accesses.{refused_byte, is_permitted, hart_load}
use Rattle.rv_hart.proofs.AccessLemmas.{every-ram, hart_load-ram}
use Rattle.std.proofs.lemmas.Grind.{common_steps}
use Rattle.guest_memory.specs.Memory.{load, AreBytes}
use Rattle.guest_memory.specs.Bus.{BusState}
use Rattle.byteorder.specs.Numbers.{little_from-lt}
use Rattle.kernel_steps.specs.Successors.{fetch}
use Rattle.kernel_code.specs.Kernel.{kernel}
use Rattle.proxy_kernel.specs.KernelWords.{kernel_insns}
use Rattle.plain_machine.specs.KernelPart.{Scanned, settled, scan, ends, leaves, is_long, user_byte}
use Rattle.plain_machine.specs.UserStep.{is_user}
use Rattle.kernel_sim.specs.Stages.{path_scan}
use Rattle.kernel_code.specs.Places.{pc_path_load}
use Rattle.kernel_sim.proofs.PlaceLaws.{high}

-- ---- paths
-- a byte that is not 0 is passed
pub scan-on : (user : List ℕ) (path from more : ℕ) → is_user ((path + from) % 2 ^ 64) ≡ true → (user_byte user ((path + from) % 2 ^ 64) == 0) ≡ false → scan user path from (suc more) ≡ scan user path (from + 1) more
unfolding scan
scan-on user path from more inside other = rw (inside, other) refl

pub scan-ends : (user : List ℕ) (path from more : ℕ) → is_user ((path + from) % 2 ^ 64) ≡ true → (user_byte user ((path + from) % 2 ^ 64) == 0) ≡ true → scan user path from (suc more) ≡ ends (from + 1)
unfolding scan
scan-ends user path from more inside other = rw (inside, other) refl

pub scan-leaves : (user : List ℕ) (path from more : ℕ) → is_user ((path + from) % 2 ^ 64) ≡ false → scan user path from (suc more) ≡ leaves
unfolding scan
scan-leaves user path from more outside = rw outside refl

pub scan-long : (user : List ℕ) (path from more : ℕ) → more ≡ 0 → scan user path from more ≡ is_long
unfolding scan
scan-long user path from zero e = refl
scan-long user path from (suc more) e = absurd (omega arith)

pub scan-leaves_at : (user : List ℕ) (path from : ℕ) → from < 4096 → is_user ((path + from) % 2 ^ 64) ≡ false → scan user path from (4096 - from) ≡ leaves
scan-leaves_at user path from l e = let k : 4096 - from ≡ suc (4095 - from) = omega arith in rw k (scan-leaves user path from (4095 - from) e)

pub scan-ends_at : (user : List ℕ) (path from : ℕ) → from < 4096 → is_user ((path + from) % 2 ^ 64) ≡ true → (user_byte user ((path + from) % 2 ^ 64) == 0) ≡ true → scan user path from (4096 - from) ≡ ends (from + 1)
scan-ends_at user path from l e f = let k : 4096 - from ≡ suc (4095 - from) = omega arith in rw k (scan-ends user path from (4095 - from) e f)

pub scan-on_at : (user : List ℕ) (path from : ℕ) → from < 4096 → is_user ((path + from) % 2 ^ 64) ≡ true → (user_byte user ((path + from) % 2 ^ 64) == 0) ≡ false → scan user path from (4096 - from) ≡ scan user path (from + 1) (4096 - (from + 1))
scan-on_at user path from l e f =
    let k : 4096 - from ≡ suc (4095 - from) = omega arith in
    let j : 4096 - (from + 1) ≡ 4095 - from = omega arith in
    rw (k, j) (scan-on user path from (4095 - from) e f)

-- the part, by what the scan comes to
pub scan-result : (env : ℕ → ℕ) (user : List ℕ) (r : Scanned) → scan user (env 11) 0 4096 ≡ r → path_scan env user 0 4096 ≡ settled r (env 17) (env 10) (env 11) (env 12) (env 13)
scan-result env user r e = ap (λ z. settled z (env 17) (env 10) (env 11) (env 12) (env 13)) e

pub or-elim : {P : Type 0} (a b : Bool) → (a || b) ≡ true → (a ≡ true → P) → (b ≡ true → P) → P
or-elim true b e f g = f refl
or-elim false b e f g = g e

-- a doubleword has 64 bits
pub eight-fits : (m : List ℕ) (place : ℕ) → AreBytes m → load m place 8 < 2 ^ 64
unfolding load
eight-fits m place all = little_from-lt 0 8 (drop place m) (λ k. let here = all (place + k) in grind (arith, common_steps))

-- ---- a byte of the user area
pub user-reach : (csrs : CsrState) (at : ℕ) → user_start ≤ at → at < user_end → refused_byte csrs Machine Read at 1 ≡ None
unfolding refused_byte is_permitted
user-reach csrs at low high = rw (every-ram at 1 (omega arith) (omega arith), is_ram-user at 1 low (omega arith)) refl

pub load-one : (m : List ℕ) (place : ℕ) → load m place 1 ≡ slice_index m place
unfolding load
load-one m place = grind (arith, common_steps)

pub user-load : (bus : BusState) (at : ℕ) → user_start ≤ at → at < user_end → hart_load bus at 1 ≡ user_byte bus.user at
user-load bus at low high = hart_load-ram bus at 1 (omega arith) (is_ram-user at 1 low (omega arith)) ∙ bus_load-user bus at 1 (omega arith) ∙ load-one bus.user (at - user_start)

pub lbu-there : fetch kernel pc_path_load ≡ Some (Lbu 5 5 (pos 0))
unfolding kernel kernel_insns
lbu-there = refl

pub not-false : (b : Bool) → not b ≡ true → b ≡ false
not-false true e = sym e
not-false false e = refl
