-- The kernel part: how a scan goes on, and that what is posted names a range of the user area.
use Rattle.std.proofs.Common.{◌≡◌, ◌≤◌, ◌<◌, ◌+◌, ◌-◌, ◌%◌, ◌^◌, ℕ, zero, suc, Bool, true, false, List, Option, Some, None, refl, sym, ap, subst, ◌∙◌, arith, nat_lt, if◌then◌else◌}
use Rattle.std.specs.Prelude.{◌==◌, min, slice_index}
use Rattle.std.proofs.lemmas.Bool.{eqb-true}
use Rattle.std.proofs.lemmas.Bool.Decides.{nat_tests}
use Rattle.fe_base.specs.Limits.{transfer_limit}
use Rattle.fe_base.specs.MemoryMap.{user_start, user_end}
use Rattle.fe_base.specs.declared.error_numbers.ErrNo.TheVariants.{EFAULT, ENOSYS}
use Rattle.syscall_proxy.specs.CallLaws.{AsksInside}
use Rattle.syscall_proxy.specs.CallTable.{service_of}
use Rattle.syscall_proxy.specs.Kept.{Setting}
use Rattle.syscall_proxy.specs.RowShapes.{InUserArea}
use Rattle.plain_machine.specs.KernelPart.{Part, gives, breaks, posts, scans, refused, request, in_area, lowered, break_after, direct_part, Scanned, ends, leaves, is_long, greatest_path, user_byte, scan, path_request, settled, with_path, path_part, first_part, kernel_part}
use Rattle.plain_machine.specs.Machines.{part_in}
use Rattle.plain_machine.specs.Rows.{IsInside}
use Rattle.plain_machine.specs.declared.kernel_part.Part.{Part as CodePart}
use Rattle.plain_machine.specs.declared.kernel_part.Part.TheVariants.{Gives, Breaks, Posts}
use Rattle.plain_machine.specs.UserStep.{is_user}

-- ---- the count

pub lowered-is : (count : ℕ) (f : ℕ → Part) → lowered count f ≡ f (min count transfer_limit)
lowered-is count f = go (nat_lt transfer_limit count) refl
  where
    go : (b : Bool) → nat_lt transfer_limit count ≡ b → lowered count f ≡ f (min count transfer_limit)
    go true e = let l : transfer_limit < count = grind (arith, nat_tests) in let m : transfer_limit ≡ min count transfer_limit = omega arith in rw e (ap f m)
    go false e = let l : count ≤ transfer_limit = grind (arith, nat_tests) in let m : count ≡ min count transfer_limit = omega arith in rw e (ap f m)

-- ---- a scan

pub scan-on : (user : List ℕ) (path from more : ℕ) → is_user ((path + from) % 2 ^ 64) ≡ true → (user_byte user ((path + from) % 2 ^ 64) == 0) ≡ false → scan user path from (suc more) ≡ scan user path (from + 1) more
unfolding scan
scan-on user path from more here some = rw (here, some) refl

pub scan-ends : (user : List ℕ) (path from more : ℕ) → is_user ((path + from) % 2 ^ 64) ≡ true → (user_byte user ((path + from) % 2 ^ 64) == 0) ≡ true → scan user path from (suc more) ≡ ends (from + 1)
unfolding scan
scan-ends user path from more here nul = rw (here, nul) refl

pub scan-leaves : (user : List ℕ) (path from more : ℕ) → is_user ((path + from) % 2 ^ 64) ≡ false → scan user path from (suc more) ≡ leaves
unfolding scan
scan-leaves user path from more away = rw away refl

pub scan-long : (user : List ℕ) (path from : ℕ) → scan user path from 0 ≡ is_long
unfolding scan
scan-long user path from = refl

-- the same by what stands at the byte that is looked at
module _ (user : List ℕ) (path from most at : ℕ) (low : from < most) (at_is : at ≡ (path + from) % 2 ^ 64) (so_far : scan user path from (most - from) ≡ scan user path 0 most)
    (found : Option ℕ) (outside : is_user at ≡ false → found ≡ None) (inside : is_user at ≡ true → found ≡ Some (user_byte user at)) where
  more : most - from ≡ suc (most - (from + 1))
  more = omega (arith, low)

  here : scan user path from (suc (most - (from + 1))) ≡ scan user path 0 most
  here = ap (λ n. scan user path from n) (sym more) ∙ so_far

  -- a byte that was found is one of the user area
  is_here : (t : Bool) → is_user at ≡ t → (byte : ℕ) → found ≡ Some byte → (is_user ((path + from) % 2 ^ 64) ≡ true) × (user_byte user ((path + from) % 2 ^ 64) ≡ byte)
  is_here true e byte h = let same : user_byte user at ≡ byte = let k = inside e in cc in (ap is_user (sym at_is) ∙ e, ap (user_byte user) (sym at_is) ∙ same)
  is_here false e byte h = let k = outside e in let no : ⊥ = cc in absurd no

  is_away : (t : Bool) → is_user at ≡ t → found ≡ None → is_user ((path + from) % 2 ^ 64) ≡ false
  is_away true e h = let k = inside e in let no : ⊥ = cc in absurd no
  is_away false e h = ap is_user (sym at_is) ∙ e

  pub leaves-at : found ≡ None → leaves ≡ scan user path 0 most
  leaves-at h = sym (scan-leaves user path from (most - (from + 1)) (is_away (is_user at) refl h)) ∙ here

  pub ends-at : found ≡ Some 0 → ends (from + 1) ≡ scan user path 0 most
  ends-at h = let k = is_here (is_user at) refl 0 h in sym (scan-ends user path from (most - (from + 1)) k.0 (ap (λ b. b == 0) k.1)) ∙ here

  pub on-at : (byte : ℕ) → found ≡ Some byte → (byte == 0) ≡ false → scan user path (from + 1) (most - (from + 1)) ≡ scan user path 0 most
  on-at byte h some = let k = is_here (is_user at) refl byte h in sym (scan-on user path from (most - (from + 1)) k.0 (ap (λ b. b == 0) k.1 ∙ some)) ∙ here

pub long-at : (user : List ℕ) (path from most : ℕ) → most ≤ from → scan user path from (most - from) ≡ scan user path 0 most → is_long ≡ scan user path 0 most
long-at user path from most past so_far =
    let none : most - from ≡ 0 = omega (arith, past) in
    sym (scan-long user path from) ∙ ap (λ n. scan user path from n) (sym none) ∙ so_far

-- a path that ends stands in the user area
abbrev Stands : ℕ → ℕ → ℕ → Type 0
Stands path from length = (user_start ≤ path + from) × (path + length ≤ user_end)

stands-go : (user : List ℕ) (path from more length : ℕ) (u z : Bool) → path + from < 2 ^ 64 → is_user ((path + from) % 2 ^ 64) ≡ u
    → (path + (from + 1) < 2 ^ 64 → scan user path (from + 1) more ≡ ends length → Stands path (from + 1) length)
    → (if u then (if z then ends (from + 1) else scan user path (from + 1) more) else leaves) ≡ ends length → Stands path from length
stands-go user path from more length true true low here rest e =
    let last : from + 1 ≡ length = cc in
    let same : (path + from) % 2 ^ 64 ≡ path + from = omega (arith, low) in
    let user_here : is_user (path + from) ≡ true = ap is_user (sym same) ∙ here in
    let from_start : user_start ≤ path + from = grind (arith, nat_tests) in
    let to_end : path + from < user_end = grind (arith, nat_tests) in
    (from_start, omega (arith, last, to_end))
stands-go user path from more length true false low here rest e =
    let same : (path + from) % 2 ^ 64 ≡ path + from = omega (arith, low) in
    let user_here : is_user (path + from) ≡ true = ap is_user (sym same) ∙ here in
    let from_start : user_start ≤ path + from = grind (arith, nat_tests) in
    let to_end : path + from < user_end = grind (arith, nat_tests) in
    (from_start, (rest (omega (arith, to_end)) e).1)
stands-go user path from more length false z low here rest e = let no : ⊥ = cc in absurd no

scan-stands : (user : List ℕ) (path from more length : ℕ) → path + from < 2 ^ 64 → scan user path from more ≡ ends length → Stands path from length
unfolding scan
scan-stands user path from zero length low e = let no : ⊥ = cc in absurd no
scan-stands user path from (suc more) length low e =
    stands-go user path from more length (is_user ((path + from) % 2 ^ 64)) (user_byte user ((path + from) % 2 ^ 64) == 0) low refl (λ k h. scan-stands user path (from + 1) more length k h) e

-- ---- what is posted

-- what a part posts names a range of the user area, if any
abbrev pub Fine : Part → Type 0
Fine (gives answer) = Unit {0}
Fine (breaks moved) = Unit {0}
Fine (posts words) = (given : Setting) → IsInside given words
Fine scans = Unit {0}

choose : (P : Part → Type 0) (t : Bool) (one other : Part) → (t ≡ true → P one) → (t ≡ false → P other) → P (if t then one else other)
choose P true one other p q = p refl
choose P false one other p q = q refl

area-by : (P : Part → Type 0) → P (refused EFAULT) → (buffer count : ℕ) (part : Part) → (InUserArea buffer count → P part) → P (in_area buffer count part)
area-by P refuses buffer count part good =
    choose P (nat_lt buffer user_start) (refused EFAULT) (if nat_lt user_end buffer then refused EFAULT else if nat_lt (user_end - buffer) count then refused EFAULT else part) (λ e. refuses) (λ a.
    choose P (nat_lt user_end buffer) (refused EFAULT) (if nat_lt (user_end - buffer) count then refused EFAULT else part) (λ e. refuses) (λ b.
    choose P (nat_lt (user_end - buffer) count) (refused EFAULT) part (λ e. refuses) (λ c.
    let low : user_start ≤ buffer = grind (arith, nat_tests) in
    let high : buffer ≤ user_end = grind (arith, nat_tests) in
    let room : count ≤ user_end - buffer = grind (arith, nat_tests) in
    good (low, omega (arith, high, room)))))

-- by its number, what a request asks stands inside
asks-by : (number literal : ℕ) (words : List ℕ) → number ≡ literal → ((given : Setting) → AsksInside (service_of literal) given words) → (given : Setting) → AsksInside (service_of number) given words
asks-by number literal words e h = subst (λ n. (given : Setting) → AsksInside (service_of n) given words) (sym e) h

shorter : (buffer count most : ℕ) → InUserArea buffer count → InUserArea buffer (min count most)
shorter buffer count most inside = (inside.0, let h = inside.1 in omega (arith, h))

module _ (a b c d program_break first_break : ℕ) (user : List ℕ) (fits : b < 2 ^ 64) where
  abbrev path : ℕ → Part
  path number = settled (scan user b 0 greatest_path) number a b c d

  -- a path that was scanned
  settled-fine : (number : ℕ) (s : Scanned) → scan user b 0 greatest_path ≡ s
      → ((length : ℕ) → InUserArea b length → (given : Setting) → AsksInside (service_of number) given (path_request number a b length c d)) → Fine (settled s number a b c d)
  settled-fine number (ends length) e h =
      let stands = scan-stands user b 0 greatest_path length (omega (arith, fits)) e in
      h length (let low = stands.0 in omega (arith, low), stands.1)
  settled-fine number leaves e h = tt
  settled-fine number is_long e h = tt

  path-by : (number : ℕ) → ((length : ℕ) → InUserArea b length → (given : Setting) → AsksInside (service_of number) given (path_request number a b length c d)) → Fine (path number)
  path-by number h = settled-fine number (scan user b 0 greatest_path) refl h

  module _ (number : ℕ) where
    abbrev Good : Part → Type 0
    Good part = Fine (with_path part (path number))

    -- a call that moves bytes of a buffer
    buffer-by : (literal place : ℕ) → ((given : Setting) → InUserArea b (min c transfer_limit) → AsksInside (service_of literal) given (request number a b (min c transfer_limit) place 0)) → (number == literal) ≡ true
        → Good (lowered c (λ count. in_area b count (posts (request number a b count place 0))))
    buffer-by literal place h e =
        subst Good (sym (lowered-is c (λ count. in_area b count (posts (request number a b count place 0)))))
        (area-by Good tt b (min c transfer_limit) (posts (request number a b (min c transfer_limit) place 0))
        (λ inside. asks-by number literal (request number a b (min c transfer_limit) place 0) (eqb-true number literal e) (λ given. h given inside)))

    abbrev rest14 : Part
    rest14 = if number == 214 then breaks (break_after a program_break first_break) else refused ENOSYS

    abbrev rest13 : Part
    rest13 = if number == 94 then posts (request number a 0 0 0 0) else rest14

    abbrev rest12 : Part
    rest12 = if number == 93 then posts (request number a 0 0 0 0) else rest13

    abbrev rest11 : Part
    rest11 = if number == 80 then in_area b 128 (posts (request number a b 0 0 0)) else rest12

    abbrev rest10 : Part
    rest10 = if number == 68 then lowered c (λ count. in_area b count (posts (request number a b count d 0))) else rest11

    abbrev rest9 : Part
    rest9 = if number == 67 then lowered c (λ count. in_area b count (posts (request number a b count d 0))) else rest10

    abbrev rest8 : Part
    rest8 = if number == 64 then lowered c (λ count. in_area b count (posts (request number a b count 0 0))) else rest9

    abbrev rest7 : Part
    rest7 = if number == 63 then lowered c (λ count. in_area b count (posts (request number a b count 0 0))) else rest8

    abbrev rest6 : Part
    rest6 = if number == 62 then posts (request number a b c 0 0) else rest7

    abbrev rest5 : Part
    rest5 = if number == 57 then posts (request number a 0 0 0 0) else rest6

    abbrev rest4 : Part
    rest4 = if number == 56 then scans else rest5

    abbrev rest3 : Part
    rest3 = if number == 48 then scans else rest4

    abbrev rest2 : Part
    rest2 = if number == 46 then posts (request number a b 0 0 0) else rest3

    abbrev rest1 : Part
    rest1 = if number == 35 then scans else rest2

    direct-fine : Good (direct_part number a b c d program_break first_break)
    unfolding service_of
    direct-fine =
        choose Good (number == 34) (scans) (rest1) (λ e. path-by number (λ length inside. asks-by number 34 (path_request number a b length c d) (eqb-true number 34 e) (λ given. inside))) (λ e34.
        choose Good (number == 35) (scans) (rest2) (λ e. path-by number (λ length inside. asks-by number 35 (path_request number a b length c d) (eqb-true number 35 e) (λ given. inside))) (λ e35.
        choose Good (number == 46) (posts (request number a b 0 0 0)) (rest3) (λ e. asks-by number 46 (request number a b 0 0 0) (eqb-true number 46 e) (λ given. tt)) (λ e46.
        choose Good (number == 48) (scans) (rest4) (λ e. path-by number (λ length inside. asks-by number 48 (path_request number a b length c d) (eqb-true number 48 e) (λ given. inside))) (λ e48.
        choose Good (number == 56) (scans) (rest5) (λ e. path-by number (λ length inside. asks-by number 56 (path_request number a b length c d) (eqb-true number 56 e) (λ given. inside))) (λ e56.
        choose Good (number == 57) (posts (request number a 0 0 0 0)) (rest6) (λ e. asks-by number 57 (request number a 0 0 0 0) (eqb-true number 57 e) (λ given. tt)) (λ e57.
        choose Good (number == 62) (posts (request number a b c 0 0)) (rest7) (λ e. asks-by number 62 (request number a b c 0 0) (eqb-true number 62 e) (λ given. tt)) (λ e62.
        choose Good (number == 63) (lowered c (λ count. in_area b count (posts (request number a b count 0 0)))) (rest8) (λ e. buffer-by 63 0 (λ given inside. shorter b (min c transfer_limit) transfer_limit inside) e) (λ e63.
        choose Good (number == 64) (lowered c (λ count. in_area b count (posts (request number a b count 0 0)))) (rest9) (λ e. buffer-by 64 0 (λ given inside. shorter b (min c transfer_limit) transfer_limit inside) e) (λ e64.
        choose Good (number == 67) (lowered c (λ count. in_area b count (posts (request number a b count d 0)))) (rest10) (λ e. buffer-by 67 d (λ given inside. shorter b (min c transfer_limit) transfer_limit inside) e) (λ e67.
        choose Good (number == 68) (lowered c (λ count. in_area b count (posts (request number a b count d 0)))) (rest11) (λ e. buffer-by 68 d (λ given inside. shorter b (min c transfer_limit) transfer_limit inside) e) (λ e68.
        choose Good (number == 80) (in_area b 128 (posts (request number a b 0 0 0))) (rest12) (λ e. area-by Good tt b 128 (posts (request number a b 0 0 0)) (λ inside. asks-by number 80 (request number a b 0 0 0) (eqb-true number 80 e) (λ given. inside))) (λ e80.
        choose Good (number == 93) (posts (request number a 0 0 0 0)) (rest13) (λ e. asks-by number 93 (request number a 0 0 0 0) (eqb-true number 93 e) (λ given. tt)) (λ e93.
        choose Good (number == 94) (posts (request number a 0 0 0 0)) (rest14) (λ e. asks-by number 94 (request number a 0 0 0 0) (eqb-true number 94 e) (λ given. tt)) (λ e94.
        choose Good (number == 214) (breaks (break_after a program_break first_break)) (refused ENOSYS) (λ e. tt) (λ e214.
        tt)))))))))))))))

-- the kernel part posts a range of the user area, if any
pub kernel-fine : (registers user : List ℕ) (program_break first_break : ℕ) → slice_index registers 11 < 2 ^ 64 → Fine (kernel_part registers user program_break first_break)
unfolding kernel_part
kernel-fine registers user program_break first_break fits =
    direct-fine (slice_index registers 10) (slice_index registers 11) (slice_index registers 12) (slice_index registers 13) program_break first_break user fits (slice_index registers 17)

-- so does a part that is it
pub posts-inside : (registers user : List ℕ) (program_break first_break : ℕ) (part : Part) → part ≡ kernel_part registers user program_break first_break → slice_index registers 11 < 2 ^ 64
    → (words : List ℕ) → part ≡ posts words → (given : Setting) → IsInside given words
posts-inside registers user program_break first_break part is fits words e = subst Fine (sym is ∙ e) (kernel-fine registers user program_break first_break fits)

-- what is posted names a range of the user area, said of what was posted
pub inside-of : (words : List ℕ) (given : Setting) (part : Part) → part ≡ posts words → (registers user : List ℕ) (program_break first_break : ℕ) → part ≡ kernel_part registers user program_break first_break
    → slice_index registers 11 < 2 ^ 64 → IsInside given words
inside-of words given part e registers user program_break first_break is fits = posts-inside registers user program_break first_break part is fits words e given

-- ---- the kernel part in the code

with-direct : (part : CodePart) (path : Part) → with_path (part_in part) path ≡ part_in part
with-direct (Gives answer) path = refl
with-direct (Breaks moved) path = refl
with-direct (Posts words) path = refl

-- a call with no path
pub kernel-some : (registers user : List ℕ) (program_break first_break : ℕ) (part : CodePart) → part_in part ≡ first_part registers program_break first_break → part_in part ≡ kernel_part registers user program_break first_break
unfolding kernel_part
kernel-some registers user program_break first_break part e = sym (with-direct part (path_part registers user)) ∙ ap (λ z. with_path z (path_part registers user)) e

-- a call with a path
pub kernel-none : (registers user : List ℕ) (program_break first_break : ℕ) (part : Part) → scans ≡ first_part registers program_break first_break → part ≡ path_part registers user → part ≡ kernel_part registers user program_break first_break
unfolding kernel_part
kernel-none registers user program_break first_break part e is = is ∙ ap (λ z. with_path z (path_part registers user)) e
