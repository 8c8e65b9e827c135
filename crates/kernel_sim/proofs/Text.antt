-- The bytes of the messages as terms, and which message a trap has.
use Rattle.std.proofs.Common.{◌≡◌, ◌≢◌, ℕ, zero, suc, ◌+◌, ◌*◌, ◌/◌, ◌%◌, ◌^◌, ◌<◌, ◌≤◌, ◌==◌, ◌&&◌, Bool, true, false, List, [], ◌∷◌, ◌++◌, map, get_or, refl, ap, sym, ◌∙◌, arith, not, nat_lt, if◌then◌else◌}
use Rattle.std.specs.Prelude.{codes, bit_and, nat_le}
use Rattle.std.specs.Fmt.{digit_glyph}
use Rattle.std.proofs.lemmas.Bool.{eq-eqb, ne_eqb, eqb-true, eqb-false}
use Rattle.std.proofs.lemmas.Bool.Decides.{nat_tests}
use Rattle.std.proofs.lemmas.Nat.{and_mask, pow-add}
use Rattle.std.proofs.Math.Nat.{div-div-eq-div-mul}
use Rattle.rv_alu.specs.declared.arithmetic.AluOp.TheVariants as op
use Rattle.rv_alu.specs.Formulas.{alu}
use Rattle.rv_decode.specs.Fields.{opcode, funct3, csr_at}
use Rattle.fe_base.specs.Digits.{hexadecimal}
use Rattle.plain_machine.specs.Messages.{trap_text, counter_text, is_counter_access}
use Rattle.kernel_steps.specs.Terms.{Term, Lit, Var, Bin, Unknown, value}
use Rattle.kernel_sim.proofs.Decide.{values}
use Rattle.kernel_code.specs.Numbers.{v_cause, v_pc, v_value}

abbrev pub digit_term : Term → ℕ → Term
digit_term s k = let d = Bin op.And (Bin op.Srl s (Lit k)) (Lit 15) in Bin op.Add (Bin op.Add d (Bin op.And (Bin op.Add (Bin op.Sltu d (Lit 10)) (Lit 18446744073709551615)) (Lit 39))) (Lit 48)

-- so many digits, the lowest at bit k
abbrev pub hex_terms : ℕ → Term → ℕ → List Term
hex_terms zero s k = []
hex_terms (suc n) s k = hex_terms n s (k + 4) ++ (digit_term s k ∷ [])

abbrev pub trap_terms : List Term
trap_terms = map Lit (codes "pk: trap ") ++ (hex_terms 2 (Var v_cause) 0 ++ (map Lit (codes " at ") ++ (hex_terms 16 (Var v_pc) 0 ++ (map Lit (codes " value ") ++ (hex_terms 16 (Var v_value) 0 ++ map Lit (codes "\n"))))))

abbrev pub counter_terms : List Term
counter_terms = map Lit (codes "pk: counter read at ") ++ (hex_terms 16 (Var v_pc) 0 ++ map Lit (codes "\n"))

values-append : (env : ℕ → ℕ) (a b : List Term) → values env (a ++ b) ≡ values env a ++ values env b
values-append env [] b = refl
values-append env (s ∷ a) b = ap (λ z. value env s ∷ z) (values-append env a b)

values-lit : (env : ℕ → ℕ) (a : List ℕ) → values env (map Lit a) ≡ a
values-lit env [] = refl
values-lit env (s ∷ a) = ap (λ z. s ∷ z) (values-lit env a)

digit-small : (d : ℕ) → d < 16 → alu op.Add (alu op.Add d (alu op.And (alu op.Add (alu op.Sltu d 10) 18446744073709551615) 39)) 48 ≡ digit_glyph false d
digit-small d l = go (nat_lt d 10) refl
  where
    go : (b : Bool) → nat_lt d 10 ≡ b → alu op.Add (alu op.Add d (alu op.And (alu op.Add (if b then 1 else 0) 18446744073709551615) 39)) 48 ≡ (if b then 48 + d else (if false then 55 + d else 87 + d))
    go true e = omega arith
    go false e = omega arith

digit-value : (x k : ℕ) → k < 64 → (let d = alu op.And (alu op.Srl x k) 15 in alu op.Add (alu op.Add d (alu op.And (alu op.Add (alu op.Sltu d 10) 18446744073709551615) 39)) 48) ≡ digit_glyph false (x / 2 ^ k % 16)
digit-value x k l =
    let e : k % 64 ≡ k = omega arith in
    rw (e, and_mask (x / 2 ^ k) 4) (digit-small (x / 2 ^ k % 16) (omega arith))

shifted : (x k : ℕ) → x / 2 ^ k / 16 ≡ x / 2 ^ (k + 4)
shifted x k = div-div-eq-div-mul x (2 ^ k) 16 ∙ ap (λ z. x / z) (let e : 2 ^ (k + 4) ≡ 2 ^ k * 2 ^ 4 = pow-add 2 k 4 in sym e)

hex-values : (env : ℕ → ℕ) (n : ℕ) (s : Term) (k : ℕ) → 4 * n + k ≤ 64 → values env (hex_terms n s k) ≡ hexadecimal n (value env s / 2 ^ k)
unfolding hexadecimal
hex-values env zero s k l = refl
hex-values env (suc n) s k l =
    let p = hex-values env n s (k + 4) (omega arith) in
    let q = digit-value (value env s) k (omega arith) in
    values-append env (hex_terms n s (k + 4)) (digit_term s k ∷ []) ∙ rw (p, q, shifted (value env s) k) refl

whole : (env : ℕ → ℕ) (n : ℕ) (v : ℕ) → 4 * n ≤ 64 → values env (hex_terms n (Var v) 0) ≡ hexadecimal n (env v)
whole env n v l = hex-values env n (Var v) 0 (omega arith) ∙ ap (hexadecimal n) (omega arith)

joined : (env : ℕ → ℕ) (a b : List Term) (x y : List ℕ) → values env a ≡ x → values env b ≡ y → values env (a ++ b) ≡ x ++ y
joined env a b x y p q = values-append env a b ∙ (ap (λ z. z ++ values env b) p ∙ ap (λ z. x ++ z) q)

abbrev t6 : List Term
t6 = map Lit (codes "\n")

abbrev t5 : List Term
t5 = hex_terms 16 (Var v_value) 0 ++ t6

abbrev t4 : List Term
t4 = map Lit (codes " value ") ++ t5

abbrev t3 : List Term
t3 = hex_terms 16 (Var v_pc) 0 ++ t4

abbrev t2 : List Term
t2 = map Lit (codes " at ") ++ t3

abbrev t1 : List Term
t1 = hex_terms 2 (Var v_cause) 0 ++ t2

abbrev c1 : List Term
c1 = hex_terms 16 (Var v_pc) 0 ++ t6

-- the terms are the messages
pub trap-values : (env : ℕ → ℕ) → values env trap_terms ≡ trap_text (env v_cause) (env v_pc) (env v_value)
trap-values env =
    joined env (map Lit (codes "pk: trap ")) t1 _ _ (values-lit env (codes "pk: trap "))
    (joined env (hex_terms 2 (Var v_cause) 0) t2 _ _ (whole env 2 40 (omega arith))
    (joined env (map Lit (codes " at ")) t3 _ _ (values-lit env (codes " at "))
    (joined env (hex_terms 16 (Var v_pc) 0) t4 _ _ (whole env 16 32 (omega arith))
    (joined env (map Lit (codes " value ")) t5 _ _ (values-lit env (codes " value "))
    (joined env (hex_terms 16 (Var v_value) 0) t6 _ _ (whole env 16 42 (omega arith)) (values-lit env (codes "\n")))))))

pub counter-values : (env : ℕ → ℕ) → values env counter_terms ≡ counter_text (env v_pc)
counter-values env =
    joined env (map Lit (codes "pk: counter read at ")) c1 _ _ (values-lit env (codes "pk: counter read at "))
    (joined env (hex_terms 16 (Var v_pc) 0) t6 _ _ (whole env 16 32 (omega arith)) (values-lit env (codes "\n")))

pub values-get : (env : ℕ → ℕ) (ss : List Term) (n : ℕ) → value env (get_or ss n Unknown) ≡ get_or (values env ss) n 0
values-get env [] n = refl
values-get env (s ∷ ss) zero = refl
values-get env (s ∷ ss) (suc n) = values-get env ss n

-- ---- which message
masked : (w : ℕ) → bit_and w 127 ≡ w % 128
masked w = and_mask w 7

masked3 : (w : ℕ) → bit_and w 3 ≡ w % 4
masked3 w = and_mask w 2

pub is-counter : (w : ℕ) → w < 2 ^ 32 → (bit_and w 127 == 0x73) ≡ true → (bit_and (w / 2 ^ 12) 3 == 0) ≡ false → (w / 2 ^ 25 == 0x60) ≡ true → is_counter_access w ≡ true
is-counter w l a b c =
    let a2 : w % 128 ≡ 0x73 = sym (masked w) ∙ eqb-true _ _ a in
    let b2 : w / 2 ^ 12 % 4 ≢ 0 = λ z. eqb-false _ _ b (masked3 (w / 2 ^ 12) ∙ z) in
    let c2 : w / 2 ^ 25 ≡ 0x60 = eqb-true _ _ c in
    let o : (opcode w == 0x73) ≡ true = eq-eqb _ _ (omega arith) in
    let f0 : (funct3 w == 0) ≡ false = ne_eqb _ _ (omega arith) in
    let f4 : (funct3 w == 4) ≡ false = ne_eqb _ _ (omega arith) in
    let low : nat_le 0xc00 (csr_at w) ≡ true = grind (arith, nat_tests) in
    let high : nat_le (csr_at w) 0xc1f ≡ true = grind (arith, nat_tests) in
    rw (o, f0, f4, low, high) refl

pub no-opcode : (w : ℕ) → (bit_and w 127 == 0x73) ≡ false → is_counter_access w ≡ false
no-opcode w a =
    let a2 : w % 128 ≢ 0x73 = λ z. eqb-false _ _ a (masked w ∙ z) in
    let o : (opcode w == 0x73) ≡ false = ne_eqb _ _ (omega arith) in
    rw o refl

and-false : (x : Bool) → (x && false) ≡ false
and-false true = refl
and-false false = refl

drop-mid : (a b c : Bool) → b ≡ false → ((a && b) && c) ≡ false
drop-mid a b c e = rw e (ap (λ z. z && c) (and-false a))

drop-end : (a b : Bool) → b ≡ false → (a && b) ≡ false
drop-end a b e = rw e (and-false a)

pub no-funct3 : (w : ℕ) → (bit_and (w / 2 ^ 12) 3 == 0) ≡ true → is_counter_access w ≡ false
no-funct3 w b = drop-mid _ (not (funct3 w == 0) && not (funct3 w == 4)) _ (go (funct3 w == 0) refl)
  where
    b2 : w / 2 ^ 12 % 4 ≡ 0
    b2 = sym (masked3 (w / 2 ^ 12)) ∙ eqb-true _ _ b

    go : (z : Bool) → (funct3 w == 0) ≡ z → (not z && not (funct3 w == 4)) ≡ false
    go true e = refl
    go false e =
        let ne : w / 2 ^ 12 % 2 ^ 3 ≢ 0 = eqb-false _ _ e in
        let q = b2 in
        let f4 : (funct3 w == 4) ≡ true = eq-eqb _ _ (omega arith) in
        rw f4 refl

pub no-number : (w : ℕ) → w < 2 ^ 32 → (w / 2 ^ 25 == 0x60) ≡ false → is_counter_access w ≡ false
no-number w l c = drop-end _ (nat_le 0xc00 (csr_at w) && nat_le (csr_at w) 0xc1f) (go (nat_le 0xc00 (csr_at w)) (nat_le (csr_at w) 0xc1f) refl refl)
  where
    go : (x y : Bool) → nat_le 0xc00 (csr_at w) ≡ x → nat_le (csr_at w) 0xc1f ≡ y → (x && y) ≡ false
    go false y e f = refl
    go true false e f = refl
    go true true e f =
        let ne : w / 2 ^ 25 ≢ 0x60 = eqb-false _ _ c in
        let low : 0xc00 ≤ w / 2 ^ 20 % 2 ^ 12 = grind (arith, nat_tests) in
        let high : w / 2 ^ 20 % 2 ^ 12 ≤ 0xc1f = grind (arith, nat_tests) in
        absurd (ne (omega arith))
