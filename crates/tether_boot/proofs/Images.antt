-- What is loaded of a kernel and an image, in the two areas.
use Rattle.std.proofs.Common.{◌≡◌, ◌≤◌, ◌<◌, ◌+◌, ◌-◌, ◌%◌, ◌^◌, ◌||◌, ℕ, zero, suc, Bool}
use Rattle.std.proofs.Common.{true, false, inl, inr, List, [], ◌∷◌, ◌++◌, length, take, drop, map, length-append}
use Rattle.std.proofs.Common.{take-append-drop, refl, sym, ap, subst, ◌∙◌, arith}
use Rattle.std.specs.Prelude.{All, replicate, slice_index}
use Rattle.std.specs.Int.{to_le_bytes, w64}
use Rattle.std.specs.List.{list_any}
use Rattle.std.proofs.lemmas.Bool.Decides.{nat_tests}
use Rattle.std.proofs.lemmas.Grind.{common_steps}
use Rattle.std.proofs.lemmas.List.{append-nil, drop_at, length-take-le, take_at, take-append-le, take-take}
use Rattle.byteorder.specs.Endian.{little_from, little_number}
use Rattle.chunk_memory.proofs.RamLemmas.{part-joins}
use Rattle.chunk_memory.specs.BeatChunks.{bytes_of}
use Rattle.chunk_memory.specs.BeatLaws.{eight-of}
use Rattle.elf_loader.proofs.UserArea.{begin_inside, bytes_end_inside, end_inside, greatest_end-le}
use Rattle.elf_loader.specs.ElfFile.{IsFit}
use Rattle.elf_loader.specs.Rules.{user_rules}
use Rattle.elf_loader.specs.Segment.{Segment, end_of, greatest_end, holds}
use Rattle.elf_loader.specs.declared.image.Image.{Image}
use Rattle.fe_base.specs.Limits.{stack_top}
use Rattle.fe_base.specs.MemoryMap.{boot, fromhost, kernel_start, request, tohost, user_start}
use Rattle.guest_memory.proofs.AreaLemmas.{bus_load-kernel, with_bus_bytes-kernel, with_bus_bytes-user}
use Rattle.guest_memory.proofs.BusLemmas.{kernel_size-is}
use Rattle.guest_memory.proofs.MemoryLemmas.{length-zeros, load-rest, loads_give, stores_leave}
use Rattle.guest_memory.proofs.MemoryLemmas.{drop-zeros, length-store}
use Rattle.guest_memory.proofs.PartLemmas.{length-with_part, store-is}
use Rattle.guest_memory.specs.Bus.{BusState, kernel_size, reset_bus}
use Rattle.guest_memory.specs.Memory.{load, store, with_part, zeros}
use Rattle.kernel_code.specs.Kernel.{IsImage}
use Rattle.kernel_sim.specs.Phases.{dword, request_of}
use Rattle.kernel_sim.proofs.LoadLaws.{image_loads}
use Rattle.plain_machine.specs.Starts.{loaded, placed}
use Rattle.rv_decode.specs.Alignment.{instruction_alignment}
use Rattle.tether_base.specs.Loading.{AreInside, loaded_bus}
use Rattle.tether_base.specs.Tethered.{IsKernel}
use Rattle.tether_base.specs.Texts.{Range, boot_block, loads_of, segment_range}
use Rattle.tether_boot.specs.Booting.{HoldsImage, ImagesStand, LoadsStandInside, image_bytes, started_bus}

-- ---- the ranges
eight-eight : (a b : ℕ) → length (bytes_of (a ∷ b ∷ [])) ≡ 16
eight-eight a b =
    let front = eight-of a in
    let back = eight-of b in
    omega (arith, length-append (to_le_bytes w64 a) (to_le_bytes w64 b ++ []), length-append (to_le_bytes w64 b) [])

segments-inside : (segments : List Segment) (more : List Range) → All (λ s. user_start ≤ s.address) segments
    → All (λ s. s.address + length s.bytes ≤ stack_top) segments → AreInside more
    → AreInside (map segment_range segments ++ more)
segments-inside [] more begin end rest = rest
segments-inside (s ∷ segments) more begin end rest = (
  inl (begin 0 s (omega arith), (let e = end 0 s (omega arith) in omega arith)),
  segments-inside segments more (λ k d h. begin (suc k) d (omega arith)) (λ k d h. end (suc k) d (omega arith)) rest,
)

pub loads_stand_inside : LoadsStandInside
loads_stand_inside kernel image is_kernel fit = (
  inr ((omega arith), (let n = is_kernel.size in omega arith)),
  segments-inside image.segments (record { at = boot; bytes = boot_block image } ∷ [])
      (begin_inside image.segments fit.segments) (bytes_end_inside image.segments fit.segments)
      (inr ((omega arith), (let n = eight-eight image.entry image.first_break in omega arith)), tt),
)

-- ---- the user area
loaded-segments : (segments : List Segment) (more : List Range) (bus : BusState)
    → All (λ s. s.address + length s.bytes ≤ stack_top) segments
    → loaded_bus (map segment_range segments ++ more) bus
    ≡ loaded_bus more (record bus { user = loaded segments bus.user })
loaded-segments [] more bus end = refl
loaded-segments (s ∷ segments) more bus end =
    let low : s.address < kernel_start = (let e = end 0 s (omega arith) in omega arith) in
    let there : BusState = record bus { user = placed bus.user s.address s.bytes } in
    ap (λ (b : BusState). loaded_bus (map segment_range segments ++ more) b)
    (with_bus_bytes-user bus s.address s.bytes low)
    ∙ loaded-segments segments more there (λ k d h. end (suc k) d (omega arith))

-- ---- numbers
none-there : (size place : ℕ) → slice_index (replicate size 0) place ≡ 0
none-there zero place = grind (arith, common_steps)
none-there (suc size) zero = refl
none-there (suc size) (suc place) = none-there size place

zeros-number : (width i size : ℕ) → little_from i width (zeros size) ≡ 0
unfolding zeros
zeros-number zero i size = refl
zeros-number (suc width) i size =
    let here = none-there size i in
    let rest = zeros-number width (suc i) size in
    omega arith

load-zeros : (size place : ℕ) → load (zeros size) place 8 ≡ 0
unfolding load
load-zeros size place = ap (λ (l : List ℕ). little_number 8 l) (drop-zeros place size) ∙ zeros-number 8 0 (size - place)

-- ---- the kernel area: a kernel at its start, two doublewords at a place, and zeros
module _ (kernel : List ℕ) (entry break : ℕ) (short : length kernel ≤ 0x8000) where
  abbrev pub with_kernel : List ℕ
  with_kernel = with_part (zeros kernel_size) 0 kernel

  abbrev pub with_block : List ℕ
  with_block = with_part with_kernel 0x8200 (bytes_of (entry ∷ break ∷ []))

  long : length with_kernel ≡ 0x10000
  long = length-with_part (zeros kernel_size) 0 kernel (omega (arith, length-zeros kernel_size, kernel_size-is))
      ∙ length-zeros kernel_size ∙ kernel_size-is

  -- as two stores
  stored : with_block ≡ store (store with_kernel 0x8200 8 entry) 0x8208 8 break
  stored =
      let front : List ℕ = to_le_bytes w64 entry in
      let back : List ℕ = to_le_bytes w64 break in
      let eight : length front ≡ 8 = eight-of entry in
      ap (λ (l : List ℕ). with_part with_kernel 0x8200 (front ++ l)) (append-nil back)
      ∙ sym (part-joins with_kernel front back 0x8200 (omega (arith, long)))
      ∙ ap (λ (n : ℕ). with_part (with_part with_kernel 0x8200 front) (0x8200 + n) back) eight
      ∙ ap (λ (l : List ℕ). with_part l 0x8208 back) (sym (store-is with_kernel 0x8200 8 entry))
      ∙ sym (store-is (store with_kernel 0x8200 8 entry) 0x8208 8 break)

  inner-long : length (store with_kernel 0x8200 8 entry) ≡ 0x10000
  inner-long = length-store with_kernel 0x8200 8 entry (omega (arith, long)) ∙ long

  -- what stands behind the kernel
  rest-is : drop (length kernel) with_kernel ≡ drop (length kernel) (zeros kernel_size)
  rest-is =
      let none : 0 + length kernel ≡ length kernel = omega arith in
      drop_at kernel (drop (0 + length kernel) (zeros kernel_size)) (length kernel) refl
      ∙ ap (λ (n : ℕ). drop n (zeros kernel_size)) none

  load-behind : (place : ℕ) → length kernel ≤ place → load with_kernel place 8 ≡ 0
  load-behind place low =
      let more : ℕ = place - length kernel in
      let same : place ≡ length kernel + more = omega arith in
      ap (λ (n : ℕ). load with_kernel n 8) same ∙ sym (load-rest with_kernel (length kernel) more 8)
      ∙ ap (λ (l : List ℕ). load l more 8) rest-is ∙ load-rest (zeros kernel_size) (length kernel) more 8
      ∙ load-zeros kernel_size (length kernel + more)

  pub block-zero : (place : ℕ) → length kernel ≤ place → place + 8 ≤ 0x8200 → load with_block place 8 ≡ 0
  block-zero place low high =
      ap (λ (l : List ℕ). load l place 8) stored
      ∙ stores_leave (store with_kernel 0x8200 8 entry) 0x8208 8 break place 8 (omega (arith, inner-long))
      (inl (omega arith))
      ∙ stores_leave with_kernel 0x8200 8 entry place 8 (omega (arith, long)) (inl high)
      ∙ load-behind place low

  pub block-entry : entry < 2 ^ 64 → load with_block 0x8200 8 ≡ entry
  block-entry small =
      ap (λ (l : List ℕ). load l 0x8200 8) stored
      ∙ stores_leave (store with_kernel 0x8200 8 entry) 0x8208 8 break 0x8200 8 (omega (arith, inner-long))
      (inl (omega arith))
      ∙ loads_give with_kernel 0x8200 8 entry (omega (arith, long))
      ∙ (let e : entry % 256 ^ 8 ≡ entry = omega arith in e)

  pub block-break : break < 2 ^ 64 → load with_block 0x8208 8 ≡ break
  block-break small =
      ap (λ (l : List ℕ). load l 0x8208 8) stored
      ∙ loads_give (store with_kernel 0x8200 8 entry) 0x8208 8 break (omega (arith, inner-long))
      ∙ (let e : break % 256 ^ 8 ≡ break = omega arith in e)

  -- the kernel is what it begins with
  front-is : take (length kernel) with_block ≡ kernel
  front-is =
      let block : List ℕ = bytes_of (entry ∷ break ∷ []) in
      let behind : List ℕ = block ++ drop (0x8200 + length block) with_kernel in
      take-append-le (length kernel) (take 0x8200 with_kernel) behind
      (omega (arith, long, length-take-le 0x8200 with_kernel (omega (arith, long))))
      ∙ take-take (length kernel) 0x8200 with_kernel (omega arith)
      ∙ take_at kernel (drop (0 + length kernel) (zeros kernel_size)) (length kernel) refl

  pub begins-with : kernel ++ drop (length kernel) with_block ≡ with_block
  begins-with = ap (λ (l : List ℕ). l ++ drop (length kernel) with_block) (sym front-is)
      ∙ take-append-drop (length kernel) with_block

-- ---- where a fitting image begins
entry-by : (s : Segment) (entry : ℕ) (b : Bool) → end_of s ≤ stack_top → holds entry s ≡ b
    → (b ≡ false → entry < stack_top) → entry < stack_top
entry-by s entry true end inside rest = grind (arith, nat_tests)
entry-by s entry false end inside rest = rest refl

entry-low : (segments : List Segment) (entry : ℕ) → All (λ s. end_of s ≤ stack_top) segments
    → list_any (holds entry) segments ≡ true → entry < stack_top
entry-low [] entry end entered = let no : ⊥ = cc in absurd no
entry-low (s ∷ segments) entry end entered =
    entry-by s entry (holds entry s) (end 0 s (omega arith)) refl
    (λ none. entry-low segments entry (λ k d h. end (suc k) d (omega arith))
    (sym (ap (λ (b : Bool). b || list_any (holds entry) segments) none) ∙ entered))

break-low : (n : ℕ) → n ≤ stack_top → n + (16 - n % 16) % 16 < 2 ^ 64
break-low n low = omega arith

entry-even : (entry : ℕ) → user_rules.may_enter entry ≡ true → entry % instruction_alignment ≡ 0
unfolding user_rules
entry-even entry enters = grind (arith, nat_tests)

module _ (image : Image) (fit : IsFit user_rules image) where
  entry-small : image.entry < 2 ^ 64
  entry-small =
      let low = entry-low image.segments image.entry (end_inside image.segments fit.segments) fit.entered in
      omega arith

  break-small : image.first_break < 2 ^ 64
  break-small =
      let low = greatest_end-le image.segments (end_inside image.segments fit.segments) in
      subst (λ (n : ℕ). n < 2 ^ 64) (sym fit.first_break) (break-low (greatest_end image.segments) low)

-- ---- what memory holds
eight-zeros : (a b c d e f g h : ℕ) → a ≡ 0 → b ≡ 0 → c ≡ 0 → d ≡ 0 → e ≡ 0 → f ≡ 0 → g ≡ 0 → h ≡ 0
    → a ∷ b ∷ c ∷ d ∷ e ∷ f ∷ g ∷ h ∷ [] ≡ 0 ∷ 0 ∷ 0 ∷ 0 ∷ 0 ∷ 0 ∷ 0 ∷ 0 ∷ []
eight-zeros a b c d e f g h za zb zc zd ze zf zg zh = cc

module _ (kernel : List ℕ) (image : Image) (is_kernel : IsKernel kernel) (fit : IsFit user_rules image) where
  short : length kernel ≤ 0x8000
  short = let n = is_kernel.size in omega arith

  abbrev area : List ℕ
  area = with_block kernel image.entry image.first_break short

  abbrev behind_kernel : BusState
  behind_kernel = record reset_bus { kernel = with_kernel kernel image.entry image.first_break short }

  abbrev behind_segments : BusState
  behind_segments = record behind_kernel { user = image_bytes image }

  abbrev boot_ranges : List Range
  boot_ranges = record { at = boot; bytes = boot_block image } ∷ []

  bus-is : loaded_bus (loads_of kernel image) reset_bus ≡ record behind_segments { kernel = area }
  bus-is =
      ap (λ (b : BusState). loaded_bus (map segment_range image.segments ++ boot_ranges) b)
      (with_bus_bytes-kernel reset_bus kernel_start kernel (omega arith))
      ∙ loaded-segments image.segments boot_ranges behind_kernel (bytes_end_inside image.segments fit.segments)
      ∙ with_bus_bytes-kernel behind_segments boot (boot_block image) (omega arith)

  module _ (bus : BusState) (kernel_is : bus.kernel ≡ area) where
    doubleword : (at place : ℕ) → kernel_start ≤ at → at - kernel_start ≡ place → dword bus at ≡ load area place 8
    doubleword at place high there =
        bus_load-kernel bus at 8 high ∙ ap (λ (n : ℕ). load bus.kernel n 8) there
        ∙ ap (λ (l : List ℕ). load l place 8) kernel_is

    zero-at : (at place : ℕ) → kernel_start ≤ at → at - kernel_start ≡ place → 0x8000 ≤ place → place + 8 ≤ 0x8200
        → dword bus at ≡ 0
    zero-at at place high there low small =
        doubleword at place high there
        ∙ block-zero kernel image.entry image.first_break short place (let n = short in omega arith) small

    entry-at : dword bus boot ≡ image.entry
    entry-at = doubleword boot 0x8200 (omega arith) refl
        ∙ block-entry kernel image.entry image.first_break short (entry-small image fit)

    break-at : dword bus (boot + 8) ≡ image.first_break
    break-at = doubleword (boot + 8) 0x8208 (omega arith) refl
        ∙ block-break kernel image.entry image.first_break short (break-small image fit)

    request-at : request_of bus ≡ 0 ∷ 0 ∷ 0 ∷ 0 ∷ 0 ∷ 0 ∷ 0 ∷ 0 ∷ []
    request-at =
        eight-zeros (dword bus request) (dword bus (request + 8)) (dword bus (request + 16)) (dword bus (request + 24))
        (dword bus (request + 32)) (dword bus (request + 40)) (dword bus (request + 48)) (dword bus (request + 56))
        (zero-at request 0x8080 (omega arith) refl (omega arith) (omega arith))
        (zero-at (request + 8) 0x8088 (omega arith) refl (omega arith) (omega arith))
        (zero-at (request + 16) 0x8090 (omega arith) refl (omega arith) (omega arith))
        (zero-at (request + 24) 0x8098 (omega arith) refl (omega arith) (omega arith))
        (zero-at (request + 32) 0x80a0 (omega arith) refl (omega arith) (omega arith))
        (zero-at (request + 40) 0x80a8 (omega arith) refl (omega arith) (omega arith))
        (zero-at (request + 48) 0x80b0 (omega arith) refl (omega arith) (omega arith))
        (zero-at (request + 56) 0x80b8 (omega arith) refl (omega arith) (omega arith))

    code-at : IsImage bus.kernel
    code-at =
        subst (λ (l : List ℕ). IsImage l)
        (begins-with kernel image.entry image.first_break short ∙ sym kernel_is)
        (image_loads kernel (drop (length kernel) area) is_kernel.insns is_kernel.size)

    holds-image : bus.user ≡ image_bytes image → HoldsImage image bus
    holds-image user = record {
      kernel_is = record {
        code = code-at;
        entry = ap (λ (n : ℕ). n % instruction_alignment) entry-at ∙ entry-even image.entry fit.enters;
        tohost = zero-at tohost 0x8000 (omega arith) refl (omega arith) (omega arith);
        fromhost = zero-at fromhost 0x8040 (omega arith) refl (omega arith) (omega arith);
        request = request-at;
      };
      names = record { entry_is = entry-at; break_is = break-at };
      user_is = user;
    }

pub images_stand : ImagesStand
images_stand kernel image start is_kernel fit =
    let is = bus-is kernel image is_kernel fit in
    holds-image kernel image is_kernel fit (started_bus kernel image start) (ap (λ (b : BusState). b.kernel) is)
    (ap (λ (b : BusState). b.user) is)
