-- The results of the operations on registers as whole-number formulas. Each operand and each result is a number below 2
-- ^ 64.
use Rattle.std.specs.Prelude.{ℕ, ◌+◌, ◌-◌, ◌*◌, ◌/◌, ◌%◌, ◌^◌, pos, ◌*ℤ◌, Bool, not, nat_lt, if◌then◌else◌, ◌==◌}
use Rattle.std.specs.Prelude.{bit_and, bit_or, bit_xor, int_lt, int_div, int_rem}
use Rattle.rv_alu.specs.Numbers.{signed, signed_word, register_of, word_of, floor_div, low_word, extended_word, bit}
use Rattle.rv_decode.specs.declared.instruction.Cond.{Cond}
use Rattle.rv_decode.specs.declared.instruction.Cond.TheVariants as when
use Rattle.rv_alu.specs.declared.arithmetic.AluOp.{AluOp}
use Rattle.rv_alu.specs.declared.arithmetic.AluOp.TheVariants as op
use Rattle.rv_alu.specs.declared.arithmetic.AluWOp.{AluWOp}
use Rattle.rv_alu.specs.declared.arithmetic.AluWOp.TheVariants as op_w
use Rattle.rv_alu.specs.declared.arithmetic.MulOp.{MulOp}
use Rattle.rv_alu.specs.declared.arithmetic.MulOp.TheVariants as mul

-- whether a branch is taken (Unprivileged ISA, RV32I, Conditional Branches)
abbrev pub taken : Cond → ℕ → ℕ → Bool
taken when.Eq a b = a == b
taken when.Ne a b = not (a == b)
taken when.Lt a b = int_lt (signed a) (signed b)
taken when.Ge a b = not (int_lt (signed a) (signed b))
taken when.Ltu a b = nat_lt a b
taken when.Geu a b = not (nat_lt a b)

-- sums and differences modulo 2 ^ 64, shifts by the low six bits of b (Unprivileged ISA, RV64I, Integer
-- Register-Register Operations)
abbrev pub alu : AluOp → ℕ → ℕ → ℕ
alu op.Add a b = (a + b) % 2 ^ 64
alu op.Sub a b = (a + (2 ^ 64 - b)) % 2 ^ 64
alu op.Sll a b = (a * 2 ^ (b % 64)) % 2 ^ 64
alu op.Slt a b = bit (int_lt (signed a) (signed b))
alu op.Sltu a b = bit (nat_lt a b)
alu op.Xor a b = bit_xor a b
alu op.Srl a b = a / 2 ^ (b % 64)
alu op.Sra a b = register_of (floor_div (signed a) (2 ^ (b % 64)))
alu op.Or a b = bit_or a b
alu op.And a b = bit_and a b

-- the same on low words, shifts by the low five bits of b, the result sign-extended (Unprivileged ISA, RV64I, Integer
-- Register-Register Operations)
abbrev pub alu_w : AluWOp → ℕ → ℕ → ℕ
alu_w op_w.Add a b = extended_word ((low_word a + low_word b) % 2 ^ 32)
alu_w op_w.Sub a b = extended_word ((low_word a + (2 ^ 32 - low_word b)) % 2 ^ 32)
alu_w op_w.Sll a b = extended_word ((low_word a * 2 ^ (b % 32)) % 2 ^ 32)
alu_w op_w.Srl a b = extended_word (low_word a / 2 ^ (b % 32))
alu_w op_w.Sra a b = extended_word (word_of (floor_div (signed_word (low_word a)) (2 ^ (b % 32))))

-- products, and quotients rounded toward zero with their remainders; by zero, all ones and the dividend; on overflow,
-- the dividend's bits and 0 (Unprivileged ISA, M extension, Multiplication Operations; Division Operations, table of
-- division by zero and overflow)
abbrev pub mul_div : MulOp → ℕ → ℕ → ℕ
mul_div mul.Mul a b = (a * b) % 2 ^ 64
mul_div mul.Mulh a b = register_of (floor_div (signed a *ℤ signed b) (2 ^ 64))
mul_div mul.Mulhsu a b = register_of (floor_div (signed a *ℤ pos b) (2 ^ 64))
mul_div mul.Mulhu a b = a * b / 2 ^ 64
mul_div mul.Div a b = if b == 0 then 2 ^ 64 - 1 else register_of (int_div (signed a) (signed b))
mul_div mul.Divu a b = if b == 0 then 2 ^ 64 - 1 else a / b
mul_div mul.Rem a b = if b == 0 then a else register_of (int_rem (signed a) (signed b))
mul_div mul.Remu a b = if b == 0 then a else a % b
mul_div mul.Mulw a b = extended_word ((low_word a * low_word b) % 2 ^ 32)
mul_div mul.Divw a b =
    if low_word b == 0 then 2 ^ 64 - 1
    else extended_word (word_of (int_div (signed_word (low_word a)) (signed_word (low_word b))))
mul_div mul.Divuw a b = if low_word b == 0 then 2 ^ 64 - 1 else extended_word (low_word a / low_word b)
mul_div mul.Remw a b =
    if low_word b == 0 then extended_word (low_word a)
    else extended_word (word_of (int_rem (signed_word (low_word a)) (signed_word (low_word b))))
mul_div mul.Remuw a b = if low_word b == 0 then extended_word (low_word a) else extended_word (low_word a % low_word b)
