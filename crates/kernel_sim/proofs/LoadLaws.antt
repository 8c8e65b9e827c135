-- Memory that was loaded holds the image, and the first step after reset lets the hart run.
use Rattle.std.proofs.Common.{◌≡◌, ℕ, ◌+◌, ◌*◌, ◌<◌, ◌≤◌, ◌==◌, Bool, true, false, List, ◌++◌, take, drop, length, Some, if◌then◌else◌, refl, ap, sym, ◌∙◌, arith}
use Rattle.std.specs.Prelude.{slice_get}
use Rattle.std.specs.Int.{w32, from_le_bytes}
use Rattle.std.proofs.lemmas.Bool.{eqb-true}
use Rattle.std.proofs.lemmas.List.{length-drop, drop-append-le, take-append-le}
use Rattle.std.proofs.lemmas.Option.{slice_get_within, get_or_from_slice_get}
use Rattle.byteorder.specs.Endian.{little_number}
use Rattle.guest_memory.specs.Memory.{load}
use Rattle.guest_memory.proofs.MemoryLemmas.{load-take}
use Rattle.rv_decode.specs.InsnTable.{insn_of}
use Rattle.rv_decode.specs.declared.instruction.Insn.{Insn}
use Rattle.rv_hart.specs.HartStep.{reset_hart, over}
use Rattle.proxy_kernel.specs.Image.{word_at, HoldsInsns}
use Rattle.proxy_kernel.specs.KernelWords.{kernel_insns, kernel_count}
use Rattle.proxy_kernel.proofs.Computed.{kernel_length}
use Rattle.kernel_code.specs.Kernel.{kernel}
use Rattle.kernel_sim.specs.Begins.{begun_hart, ImageLoads, ResetBegins}

-- a word that a load of four bytes reads
little_word : (bytes : List ℕ) → little_number 4 bytes ≡ from_le_bytes w32 bytes
little_word bytes = omega arith

load_word : (bytes : List ℕ) (k : ℕ) → load bytes (4 * k) 4 ≡ word_at bytes k
unfolding load
load_word bytes k = little_word (drop (4 * k) bytes)

-- a word stands in the first bytes
load_first : (bytes rest : List ℕ) (k : ℕ) → 4 * k + 4 ≤ length bytes → load (bytes ++ rest) (4 * k) 4 ≡ word_at bytes k
load_first bytes rest k l =
    let left : 4 ≤ length (drop (4 * k) bytes) = let n = length-drop (4 * k) bytes in omega arith in
    let same : take 4 (drop (4 * k) (bytes ++ rest)) ≡ take 4 (drop (4 * k) bytes) =
    ap (λ (z : List ℕ). take 4 z) (drop-append-le (4 * k) bytes rest (omega arith)) ∙ take-append-le 4 (drop (4 * k) bytes) rest left in
    load-take (bytes ++ rest) (4 * k) 4 ∙ ap (λ (z : List ℕ). little_number 4 z) same ∙ sym (load-take bytes (4 * k) 4) ∙ load_word bytes k

image_words : (bytes rest : List ℕ) → HoldsInsns bytes kernel_insns → length bytes ≡ 4 * kernel_count → (k : ℕ) (insn : Insn) → slice_get kernel_insns k ≡ Some insn → insn_of (load (bytes ++ rest) (4 * k) 4) ≡ Some insn
image_words bytes rest h l k insn e =
    let n : k < length kernel_insns = slice_get_within kernel_insns k insn e in
    let within : 4 * k + 4 ≤ length bytes = let c = kernel_length in omega arith in
    ap insn_of (load_first bytes rest k within) ∙ h k insn n ∙ ap Some (get_or_from_slice_get kernel_insns k insn insn e)

pub image_loads : ImageLoads
unfolding kernel
image_loads bytes rest h l = record { short = let c = kernel_length in omega arith; words = image_words bytes rest h l }

pub reset_begins : ResetBegins
reset_begins bus n = go (bus.start == 0) refl
  where
    go : (b : Bool) → (bus.start == 0) ≡ b → (if b then over bus reset_hart else over bus begun_hart) ≡ over bus begun_hart
    go true e = absurd (n (eqb-true bus.start 0 e))
    go false e = refl
