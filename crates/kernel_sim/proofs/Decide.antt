-- What the facts of the taken and untaken branches say of a call: the call table's kernel part as a tree, decided by them.
use Rattle.std.proofs.Common.{◌≡◌, ℕ, ◌+◌, ◌-◌, ◌%◌, ◌^◌, ◌≤◌, Bool, true, false, ◌==◌, ◌&&◌, Option, Some, None, List, [], ◌∷◌, refl, ap, subst, ◌∙◌, nat_lt, if◌then◌else◌, arith}
use Rattle.std.proofs.lemmas.Bool.{false≢true, eqb-true, and_parts}
use Rattle.std.proofs.lemmas.Bool.Decides.{nat_tests}
use Rattle.rv_alu.specs.declared.arithmetic.AluOp.TheVariants as op
use Rattle.kernel_steps.specs.Terms.{Term, Lit, Var, Bin, Aligned, Unknown, value, compared, Fact, FactsHold}
use Rattle.kernel_steps.specs.Blocks.{same, same_bool}
use Rattle.plain_machine.specs.KernelPart.{Part, gives, breaks, posts, scans, request, in_area, lowered, break_after, direct_part}
use Rattle.kernel_steps.proofs.GraphLaws.{same-path, same_bool-path}
use Rattle.kernel_code.specs.Numbers.{v_first_break, v_break}

pub data Answer : Type 0 where
  Gives : Term → Answer
  Breaks : Answer
  Posts : List Term → Answer
  Scans : Answer

pub data Tree : Type 0 where
  Leaf : Answer → Tree
  Ask : Bool → Term → Term → Tree → Tree → Tree

abbrev pub values : (ℕ → ℕ) → List Term → List ℕ
values env [] = []
values env (s ∷ ss) = value env s ∷ values env ss

abbrev pub part_of : (ℕ → ℕ) → Answer → Part
part_of env (Gives s) = gives (value env s)
part_of env Breaks = breaks (break_after (env 10) (env v_break) (env v_first_break))
part_of env (Posts ss) = posts (values env ss)
part_of env Scans = scans

-- what a tree comes to
abbrev pub run : (ℕ → ℕ) → Tree → Part
run env (Leaf x) = part_of env x
run env (Ask d a b y n) = if compared d (value env a) (value env b) then run env y else run env n

abbrev refuse : ℕ → Tree
refuse n = Leaf (Gives (Lit (2 ^ 64 - n)))

abbrev posted : Term → Term → Term → Term → Tree
posted b c d e = Leaf (Posts (Var 17 ∷ Var 10 ∷ b ∷ c ∷ d ∷ e ∷ Lit 0 ∷ Lit 0 ∷ []))

abbrev area : Term → Tree → Tree
area count t = Ask true (Var 11) (Lit 65536) (refuse 14) (Ask true (Lit 16842752) (Var 11) (refuse 14) (Ask true (Bin op.Sub (Lit 16842752) (Var 11)) count (refuse 14) t))

abbrev lower : (Term → Tree) → Tree
lower f = Ask true (Lit 1048576) (Var 12) (f (Lit 1048576)) (f (Var 12))

abbrev asks : ℕ → Tree → Tree → Tree
asks n y t = Ask false (Var 17) (Lit n) y t

abbrev pub call_tree : Tree
call_tree =
    asks 34 (Leaf Scans) (asks 35 (Leaf Scans) (asks 46 (posted (Var 11) (Lit 0) (Lit 0) (Lit 0)) (asks 48 (Leaf Scans) (asks 56 (Leaf Scans)
    (asks 57 (posted (Lit 0) (Lit 0) (Lit 0) (Lit 0)) (asks 62 (posted (Var 11) (Var 12) (Lit 0) (Lit 0))
    (asks 63 (lower (λ n. area n (posted (Var 11) n (Lit 0) (Lit 0)))) (asks 64 (lower (λ n. area n (posted (Var 11) n (Lit 0) (Lit 0))))
    (asks 67 (lower (λ n. area n (posted (Var 11) n (Var 13) (Lit 0)))) (asks 68 (lower (λ n. area n (posted (Var 11) n (Var 13) (Lit 0))))
    (asks 80 (area (Lit 128) (posted (Var 11) (Lit 0) (Lit 0) (Lit 0))) (asks 93 (posted (Lit 0) (Lit 0) (Lit 0) (Lit 0)) (asks 94 (posted (Lit 0) (Lit 0) (Lit 0) (Lit 0))
    (asks 214 (Leaf Breaks) (refuse 38)))))))))))))))

-- the room behind an address, as SUB gives it
room : (at : ℕ) → at ≤ 16842752 → (16842752 + (2 ^ 64 - at)) % 2 ^ 64 ≡ 16842752 - at
room at l = omega arith

area-run : (env : ℕ → ℕ) (count : Term) (t : Tree) → run env (area count t) ≡ in_area (env 11) (value env count) (run env t)
area-run env count t = go (nat_lt 16842752 (env 11)) refl
  where
    go : (b : Bool) → nat_lt 16842752 (env 11) ≡ b → run env (area count t) ≡ in_area (env 11) (value env count) (run env t)
    go true e = rw e refl
    go false e = let l : env 11 ≤ 16842752 = grind (arith, nat_tests) in rw (room (env 11) l) refl

lower-run : (env : ℕ → ℕ) (f : Term → Tree) (g : ℕ → Part) → ((s : Term) → run env (f s) ≡ g (value env s)) → run env (lower f) ≡ lowered (env 12) g
lower-run env f g same = rw (same (Lit 1048576), same (Var 12)) refl

abbrev shape : (ℕ → ℕ) → Part → Part → Part → Part → Part → Part
shape env x63 x64 x67 x68 x80 =
    if env 17 == 34 then scans
    else (if env 17 == 35 then scans
    else (if env 17 == 46 then posts (request (env 17) (env 10) (env 11) 0 0 0)
    else (if env 17 == 48 then scans
    else (if env 17 == 56 then scans
    else (if env 17 == 57 then posts (request (env 17) (env 10) 0 0 0 0)
    else (if env 17 == 62 then posts (request (env 17) (env 10) (env 11) (env 12) 0 0)
    else (if env 17 == 63 then x63
    else (if env 17 == 64 then x64
    else (if env 17 == 67 then x67
    else (if env 17 == 68 then x68
    else (if env 17 == 80 then x80
    else (if env 17 == 93 then posts (request (env 17) (env 10) 0 0 0 0)
    else (if env 17 == 94 then posts (request (env 17) (env 10) 0 0 0 0)
    else (if env 17 == 214 then breaks (break_after (env 10) (env v_break) (env v_first_break))
    else gives (2 ^ 64 - 38)))))))))))))))

shape-same : (env : ℕ → ℕ) (a b c d e v w x y z : Part) → a ≡ v → b ≡ w → c ≡ x → d ≡ y → e ≡ z → shape env a b c d e ≡ shape env v w x y z
shape-same env a b c d e v w x y z p q r s t = rw (p, q, r, s, t) refl

abbrev plain : Term → Tree
plain n = posted (Var 11) n (Lit 0) (Lit 0)

abbrev at_place : Term → Tree
at_place n = posted (Var 11) n (Var 13) (Lit 0)

-- the tree is the kernel part
pub tree-part : (env : ℕ → ℕ) → run env call_tree ≡ direct_part (env 17) (env 10) (env 11) (env 12) (env 13) (env v_break) (env v_first_break)
tree-part env =
    let reads = lower-run env (λ n. area n (plain n)) (λ n. in_area (env 11) n (posts (request (env 17) (env 10) (env 11) n 0 0))) (λ s. area-run env s (plain s)) in
    let places = lower-run env (λ n. area n (at_place n)) (λ n. in_area (env 11) n (posts (request (env 17) (env 10) (env 11) n (env 13) 0))) (λ s. area-run env s (at_place s)) in
    shape-same env _ _ _ _ _ _ _ _ _ _ reads reads places places (area-run env (Lit 128) (posted (Var 11) (Lit 0) (Lit 0) (Lit 0)))

-- ---- deciding
abbrev pub if_so : Bool → Bool → Option Bool → Option Bool
if_so true b o = Some b
if_so false b o = o

abbrev pub look : Bool → Term → Term → List Fact → Option Bool
look d a b [] = None
look d a b (f ∷ fs) = if_so (same_bool d f.below && same a f.left && same b f.right) f.truth (look d a b fs)

abbrev pub pick : Option Bool → Option Answer → Option Answer → Option Answer
pick (Some true) x y = x
pick (Some false) x y = y
pick None x y = None

-- a fact that the same left side equals a number tells it apart from others
abbrev pub told : Term → ℕ → Option Bool
told (Lit m) n = Some (m == n)
told (Var m) n = None
told (Bin o a b) n = None
told (Aligned a) n = None
told Unknown n = None

abbrev pub or_told : Bool → Term → ℕ → Option Bool → Option Bool
or_told true m n o = told m n
or_told false m n o = o

abbrev pub first : Option Bool → Option Bool → Option Bool
first (Some b) o = Some b
first None o = o

abbrev pub other : Term → ℕ → List Fact → Option Bool
other a n [] = None
other a n (f ∷ fs) = or_told (same a f.left && f.truth && same_bool f.below false) f.right n (other a n fs)

abbrev pub known : Bool → Term → Term → List Fact → Option Bool
known true a b fs = look true a b fs
known false a (Lit n) fs = first (other a n fs) (look false a (Lit n) fs)
known false a (Var n) fs = look false a (Var n) fs
known false a (Bin o x y) fs = look false a (Bin o x y) fs
known false a (Aligned x) fs = look false a (Aligned x) fs
known false a Unknown fs = look false a Unknown fs

abbrev pub decide : List Fact → Tree → Option Answer
decide fs (Leaf x) = Some x
decide fs (Ask d a b y n) = pick (known d a b fs) (decide fs y) (decide fs n)

look-right : (env : ℕ → ℕ) (d : Bool) (a b : Term) (fs : List Fact) (c : Bool) → FactsHold env fs → look d a b fs ≡ Some c → compared d (value env a) (value env b) ≡ c
look-right env d a b [] c h e = cc
look-right env d a b (f ∷ fs) c h e = go (same_bool d f.below && same a f.left && same b f.right) refl e (look-right env d a b fs c h.1)
  where
    go : (t : Bool) → (same_bool d f.below && same a f.left && same b f.right) ≡ t → if_so t f.truth (look d a b fs) ≡ Some c → (look d a b fs ≡ Some c → compared d (value env a) (value env b) ≡ c) → compared d (value env a) (value env b) ≡ c
    go false p q r = r q
    go true p q r =
        let u = and_parts _ _ p in
        let w = and_parts _ _ u.0 in
        let x = same_bool-path d f.below w.0 in
        let y = same-path a f.left w.1 in
        let z = same-path b f.right u.1 in
        let t : f.truth ≡ c = cc in
        rw (x, y, z) (h.0 ∙ t)

told-right : (env : ℕ → ℕ) (x : ℕ) (m : Term) (n : ℕ) (c : Bool) → (x == value env m) ≡ true → told m n ≡ Some c → (x == n) ≡ c
told-right env x (Lit m) n c h e = let t : (m == n) ≡ c = cc in rw (eqb-true x m h) t
told-right env x (Var m) n c h e = cc
told-right env x (Bin o a b) n c h e = cc
told-right env x (Aligned a) n c h e = cc
told-right env x Unknown n c h e = cc

other-right : (env : ℕ → ℕ) (a : Term) (n : ℕ) (fs : List Fact) (c : Bool) → FactsHold env fs → other a n fs ≡ Some c → (value env a == n) ≡ c
other-right env a n [] c h e = cc
other-right env a n (f ∷ fs) c h e = go (same a f.left && f.truth && same_bool f.below false) refl e (other-right env a n fs c h.1)
  where
    go : (t : Bool) → (same a f.left && f.truth && same_bool f.below false) ≡ t → or_told t f.right n (other a n fs) ≡ Some c → (other a n fs ≡ Some c → (value env a == n) ≡ c) → (value env a == n) ≡ c
    go false p q r = r q
    go true p q r =
        let u = and_parts _ _ p in
        let w = and_parts _ _ u.0 in
        let x = same_bool-path f.below false u.1 in
        let y = same-path a f.left w.0 in
        let k : compared false (value env a) (value env f.right) ≡ true = rw y (subst (λ z. compared z (value env f.left) (value env f.right) ≡ true) x (h.0 ∙ w.1)) in
        told-right env (value env a) f.right n c k q

known-right : (env : ℕ → ℕ) (d : Bool) (a b : Term) (fs : List Fact) (c : Bool) → FactsHold env fs → known d a b fs ≡ Some c → compared d (value env a) (value env b) ≡ c
known-right env true a b fs c h e = look-right env true a b fs c h e
known-right env false a (Lit n) fs c h e = go (other a n fs) refl e
  where
    go : (o : Option Bool) → other a n fs ≡ o → first o (look false a (Lit n) fs) ≡ Some c → compared false (value env a) n ≡ c
    go (Some x) p q = other-right env a n fs c h (p ∙ q)
    go None p q = look-right env false a (Lit n) fs c h q
known-right env false a (Var n) fs c h e = look-right env false a (Var n) fs c h e
known-right env false a (Bin o x y) fs c h e = look-right env false a (Bin o x y) fs c h e
known-right env false a (Aligned x) fs c h e = look-right env false a (Aligned x) fs c h e
known-right env false a Unknown fs c h e = look-right env false a Unknown fs c h e

-- what the facts decide is what the tree comes to
pub decide-right : (env : ℕ → ℕ) (fs : List Fact) (t : Tree) (x : Answer) → FactsHold env fs → decide fs t ≡ Some x → run env t ≡ part_of env x
decide-right env fs (Leaf y) x h e = let p : y ≡ x = cc in ap (part_of env) p
decide-right env fs (Ask d a b y n) x h e = go (known d a b fs) refl e (decide-right env fs y x h) (decide-right env fs n x h)
  where
    go : (o : Option Bool) → known d a b fs ≡ o → pick o (decide fs y) (decide fs n) ≡ Some x → (decide fs y ≡ Some x → run env y ≡ part_of env x) → (decide fs n ≡ Some x → run env n ≡ part_of env x)
        → run env (Ask d a b y n) ≡ part_of env x
    go (Some true) p q r s = rw (known-right env d a b fs true h p) (r q)
    go (Some false) p q r s = rw (known-right env d a b fs false h p) (s q)
    go None p q r s = cc

abbrev pub same_all : List Term → List Term → Bool
same_all [] [] = true
same_all (a ∷ as1) (b ∷ bs) = same a b && same_all as1 bs
same_all [] (b ∷ bs) = false
same_all (a ∷ as1) [] = false

abbrev pub same_answer : Option Answer → Answer → Bool
same_answer (Some (Gives a)) (Gives b) = same a b
same_answer (Some Breaks) Breaks = true
same_answer (Some Scans) Scans = true
same_answer (Some (Posts a)) (Posts b) = same_all a b
same_answer _ _ = false

all-path : (a b : List Term) → same_all a b ≡ true → a ≡ b
all-path [] [] e = refl
all-path (a ∷ as1) (b ∷ bs) e = let p = and_parts _ _ e in let q = same-path a b p.0 in let r = all-path as1 bs p.1 in cc
all-path [] (b ∷ bs) e = absurd (false≢true e)
all-path (a ∷ as1) [] e = absurd (false≢true e)

pub answer-path : (o : Option Answer) (x : Answer) → same_answer o x ≡ true → o ≡ Some x
answer-path (Some (Gives a)) (Gives b) e = ap (λ z. Some (Gives z)) (same-path a b e)
answer-path (Some Breaks) Breaks e = refl
answer-path (Some Scans) Scans e = refl
answer-path (Some (Posts a)) (Posts b) e = ap (λ z. Some (Posts z)) (all-path a b e)
answer-path o x e = absurd (false≢true e)
