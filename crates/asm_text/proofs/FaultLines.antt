-- A line's fault is the first of all its faults, and so is a text's.
use Rattle.std.proofs.Common.{◌≡◌, ℕ, ◌+◌, ◌-◌, ◌≤◌, pos, negsuc, Bool, true, false, cond, List, [], ◌∷◌, ◌++◌, length}
use Rattle.std.proofs.Common.{length-append, append_assoc, All, Option, Some, None, Result, Ok, Err, inl, inr, refl}
use Rattle.std.proofs.Common.{sym, ap, ◌∙◌, subst, arith}
use Rattle.std.proofs.lemmas.Bool.{false≢true}
use Rattle.std.proofs.lemmas.Bool.Decides.{nat_tests}
use Rattle.std.proofs.lemmas.List.Elements.{All-cons, All-nil}
use Rattle.std.specs.Int.{w64, cast_unsigned}
use Rattle.std.specs.List.{list_any}
use Rattle.asm_items.specs.declared.item.Item.{Item}
use Rattle.asm_items.specs.declared.item.Item.TheVariants as item
use Rattle.asm_table.specs.Cuts.{before, behind}
use Rattle.asm_table.specs.Made.{registers_insn, immediate_insn, shift_insn, short_shift_insn, load_insn, store_insn}
use Rattle.asm_table.specs.Made.{upper_insn, csr_insn, csr_immediate_insn, bare_insn}
use Rattle.asm_table.specs.Table.{op_of}
use Rattle.asm_table.specs.declared.mnemonics.Op.{Op}
use Rattle.asm_table.specs.declared.mnemonics.Op.TheVariants.{Registers, Immediate, Shift, ShortShift, Load, Store}
use Rattle.asm_table.specs.declared.mnemonics.Op.TheVariants.{Upper, Csr, CsrImmediate, Bare, Branch, Jump, Address}
use Rattle.asm_table.specs.declared.mnemonics.Op.TheVariants.{Dword, Ascii}
use Rattle.asm_text.specs.Faults.{number_of}
use Rattle.asm_text.specs.FirstFault.{bare_marks, Form, high_marks, IsFaultless, IsFirstFault, IsFirstOf, is_read}
use Rattle.asm_text.specs.FirstFault.{Label, Mark, marks, Nat, NoneEarlier, Num, operand_marks, op_marks, piece_marks}
use Rattle.asm_text.specs.FirstFault.{Place, Reg, text_marks, unless, word_marks}
use Rattle.asm_text.specs.Layout.{bare, before_rest, begins_comment, drop_while, ends_with, is_blank, lines_of}
use Rattle.asm_text.specs.Layout.{next_quote, without_comment, without_end, without_last}
use Rattle.asm_text.specs.Pieces.{◌>>=◌, fault_at, is_empty, name, natural, number, or_fault, place, register, short}
use Rattle.asm_text.specs.Pieces.{string_of, text}
use Rattle.asm_text.specs.Reading.{at_end, bare_item, is_high, is_space, item_named, item_of, labelled, last, line_item}
use Rattle.asm_text.specs.Reading.{more_of, one, operands_in, some_item, three, two, whole, worded}
use Rattle.asm_text.specs.Texts.{Found, lines_from, Refuses, text_items, with_line}
use Rattle.asm_text.specs.declared.fault.TextFault.{TextFault}
use Rattle.asm_text.specs.declared.fault.TextFault.TheVariants.{At, OutOfMemory}
use Rattle.asm_text.specs.declared.fault.TextKind.{TextKind}
use Rattle.asm_text.specs.declared.fault.TextKind.TheVariants.{BadLabel, BadLine, UnknownName}
use Rattle.asm_text.specs.declared.layout.At.{At as Quote}
use Rattle.asm_text.specs.declared.layout.At.TheVariants.{Outside, Inside, Escaped}
use Rattle.asm_text.proofs.FaultLow.{is-low, text-low, word-low}
use Rattle.asm_text.proofs.FaultOperands.{begins-before, bytes_of, ends-split, highs-behind, highs-more, highs-spaces}
use Rattle.asm_text.proofs.FaultOperands.{name-law, name-read, name-refused, natural-law, number-law, operands-at-most}
use Rattle.asm_text.proofs.FaultOperands.{or-some, PieceLaw, piece-at-most, place-law, register-law}
use Rattle.asm_text.proofs.FaultPlaces.{among-left, among-right, at-most-append, at-most-more, Begins, both-low}
use Rattle.asm_text.proofs.FaultPlaces.{by_choice, first-high, first-low, highs-append, highs-at-most, highs-front}
use Rattle.asm_text.proofs.FaultPlaces.{IsLow, IsTold, later-place, low-append, lowest-kind, no-high, none-append}
use Rattle.asm_text.proofs.FaultPlaces.{not-itself, start-bad, start-fault, Tells}

-- operands, one after another
step-tells : {X Y : Type 0} (read : List ℕ → Result X TextKind) (form : Form) (law : PieceLaw read form)
    (next : X → Option (List ℕ) → Result Y TextKind) (forms : List Form) (tail b : ℕ) (bs : List ℕ) →
    ((x : X) (more : Option (List ℕ)) →
    Tells tail (next x more) (operand_marks forms tail more ++ high_marks tail (bytes_of more))) →
    (r : Result X TextKind) → read (before 44 (b ∷ bs)) ≡ r →
    Tells tail (r >>= (λ x. next x (more_of (behind 44 (b ∷ bs)))))
    (operand_marks (form ∷ forms) tail (Some (b ∷ bs)) ++ high_marks tail (b ∷ bs))
step-tells read form law next forms tail b bs h (Err kind) e =
    law.refused tail b bs (operand_marks forms tail (more_of (behind 44 (b ∷ bs)))) kind e
    (operands-at-most forms tail (more_of (behind 44 (b ∷ bs))))
step-tells read form law next forms tail b bs h (Ok x) e =
    let same : operand_marks (form ∷ forms) tail (Some (b ∷ bs)) ++ high_marks tail (b ∷ bs)
    ≡ operand_marks forms tail (more_of (behind 44 (b ∷ bs))) ++ high_marks tail
    (bytes_of (more_of (behind 44 (b ∷ bs)))) =
    ap (λ (xs : List Mark). (xs ++ operand_marks forms tail (more_of (behind 44 (b ∷ bs)))) ++ high_marks tail (b ∷ bs))
    (law.fine (length (b ∷ bs) + tail) (before 44 (b ∷ bs)) x e)
    ∙ ap (λ (hs : List Mark). operand_marks forms tail (more_of (behind 44 (b ∷ bs))) ++ hs)
    (highs-more tail (b ∷ bs) (law.low (before 44 (b ∷ bs)) x e)) in
    subst (λ (ms : List Mark). Tells tail (next x (more_of (behind 44 (b ∷ bs)))) ms) (sym same)
    (h x (more_of (behind 44 (b ∷ bs))))

missing : (tail : ℕ) (form : Form) (forms : List Form) →
    IsTold tail BadLine (operand_marks (form ∷ forms) tail None ++ high_marks tail [])
missing tail form forms = record {
  place = tail;
  from = omega arith;
  among = inl refl;
  none = lowest-kind tail ((tail, BadLine) ∷ []) (omega arith, tt);
}

assoc-tells : {X Y : Type 0} (r : Result X TextKind) (more : Option (List ℕ))
    (next : X × Option (List ℕ) → Result Y TextKind) (tail : ℕ)
    (ms : List Mark) → Tells tail (r >>= (λ x. next (x, more))) ms →
    Tells tail ((r >>= (λ x. Ok (x, more))) >>= next) ms
assoc-tells (Ok x) more next tail ms h = h
assoc-tells (Err kind) more next tail ms h = h

empty-missing : (tail : ℕ) (form next_form : Form) (forms : List Form) →
    IsTold tail BadLine (operand_marks (form ∷ next_form ∷ forms) tail (Some []) ++ high_marks tail [])
empty-missing tail form next_form forms =
    record {
      place = tail;
      from = omega arith;
      among = among-left (tail, BadLine) (piece_marks form (length {A = ℕ} [] + tail) [] ++ ((tail, BadLine) ∷ [])) []
          (among-right (tail, BadLine) (piece_marks form (length {A = ℕ} [] + tail) []) ((tail, BadLine) ∷ [])
          (inl refl));
      none = lowest-kind tail ((piece_marks form (length {A = ℕ} [] + tail) [] ++ ((tail, BadLine) ∷ [])) ++ [])
          (at-most-append tail (piece_marks form (length {A = ℕ} [] + tail) [] ++ ((tail, BadLine) ∷ [])) []
          (at-most-append tail (piece_marks form (length {A = ℕ} [] + tail) []) ((tail, BadLine) ∷ [])
          (at-most-more (length {A = ℕ} [] + tail) tail (piece_marks form (length {A = ℕ} [] + tail) []) (omega arith)
          (piece-at-most form (length {A = ℕ} [] + tail) []))
          (omega arith, tt)) tt);
    }

one-tells : {X Y : Type 0} (read : List ℕ → Result X TextKind) (form : Form) (law : PieceLaw read form)
    (next : X × Option (List ℕ) → Result Y TextKind) (next_form : Form) (forms : List Form) (tail : ℕ)
    (rest : Option (List ℕ)) →
    ((x : X) (more : Option (List ℕ)) →
    Tells tail (next (x, more)) (operand_marks (next_form ∷ forms) tail more ++ high_marks tail (bytes_of more))) →
    Tells tail (one read rest >>= next)
    (operand_marks (form ∷ next_form ∷ forms) tail rest ++ high_marks tail (bytes_of rest))
one-tells read form law next next_form forms tail None h = missing tail form (next_form ∷ forms)
one-tells read form law next next_form forms tail (Some []) h = empty-missing tail form next_form forms
one-tells read form law next next_form forms tail (Some (b ∷ bs)) h =
    assoc-tells (read (before 44 (b ∷ bs))) (more_of (behind 44 (b ∷ bs))) next tail
    (operand_marks (form ∷ next_form ∷ forms) tail (Some (b ∷ bs)) ++ high_marks tail (b ∷ bs))
    (step-tells read form law (λ x more. next (x, more)) (next_form ∷ forms) tail b bs h
    (read (before 44 (b ∷ bs))) refl)

pub end-tells : {X : Type 0} (tail : ℕ) (x : X) (more : Option (List ℕ)) →
    Tells tail (at_end more x) (operand_marks [] tail more ++ high_marks tail (bytes_of more))
end-tells tail x None = refl
end-tells tail x (Some rest) = start-bad tail rest [] tt

empty-told : (tail place : ℕ) (kind : TextKind) (xs : List Mark) → tail ≤ place → xs ≡ (place, kind) ∷ [] →
    IsTold tail kind ((xs ++ []) ++ [])
empty-told tail place kind xs h e =
    subst (λ (ys : List Mark). IsTold tail kind ((ys ++ []) ++ [])) (sym e)
    (record { place = place; from = h; among = inl refl; none = (not-itself place (number_of kind), tt) })

empty-last : {X : Type 0} (read : List ℕ → Result X TextKind) (form : Form) (law : PieceLaw read form) (tail : ℕ)
    (r : Result X TextKind) →
    read [] ≡ r → Tells tail (r >>= (λ x. at_end None x)) ((piece_marks form (length {A = ℕ} [] + tail) [] ++ []) ++ [])
empty-last read form law tail (Err kind) e =
    empty-told tail (length {A = ℕ} [] + tail) kind (piece_marks form (length {A = ℕ} [] + tail) []) (omega arith)
    (law.empty (length {A = ℕ} [] + tail) kind e)
empty-last read form law tail (Ok x) e =
    ap (λ (xs : List Mark). (xs ++ []) ++ []) (law.fine (length {A = ℕ} [] + tail) [] x e)

last-tells : {X : Type 0} (read : List ℕ → Result X TextKind) (form : Form) (law : PieceLaw read form) (tail : ℕ)
    (rest : Option (List ℕ)) →
    Tells tail (last read rest) (operand_marks (form ∷ []) tail rest ++ high_marks tail (bytes_of rest))
last-tells read form law tail None = missing tail form []
last-tells read form law tail (Some []) = empty-last read form law tail (read []) refl
last-tells read form law tail (Some (b ∷ bs)) =
    step-tells read form law (λ x more. at_end more x) [] tail b bs (λ x more. end-tells tail x more)
    (read (before 44 (b ∷ bs))) refl

ok-tells : {A B : Type 0} (tail : ℕ) (r : Result A TextKind) (f : A → B) (ms : List Mark) → Tells tail r ms →
    Tells tail (r >>= (λ a. Ok (f a))) ms
ok-tells tail (Ok a) f ms h = h
ok-tells tail (Err kind) f ms h = h

two-tells : {X Y : Type 0} (first : List ℕ → Result X TextKind) (second : List ℕ → Result Y TextKind) (f g : Form)
    (a : PieceLaw first f) (b : PieceLaw second g) (tail : ℕ) (rest : Option (List ℕ)) →
    Tells tail (two first second rest) (operand_marks (f ∷ g ∷ []) tail rest ++ high_marks tail (bytes_of rest))
two-tells {X} {Y} first second f g a b tail rest =
    one-tells first f a (λ x. last second x.1 >>= (λ y. Ok (x.0, y))) g [] tail rest
    (λ x more. ok-tells tail (last second more) (λ (y : Y). (x, y))
    (operand_marks (g ∷ []) tail more ++ high_marks tail (bytes_of more))
    (last-tells second g b tail more))

three-tells : {X Y Z : Type 0} (first : List ℕ → Result X TextKind) (second : List ℕ → Result Y TextKind)
    (third : List ℕ → Result Z TextKind)
    (f g h : Form) (a : PieceLaw first f) (b : PieceLaw second g) (c : PieceLaw third h) (tail : ℕ)
    (rest : Option (List ℕ)) →
    Tells tail (three first second third rest)
    (operand_marks (f ∷ g ∷ h ∷ []) tail rest ++ high_marks tail (bytes_of rest))
three-tells {X} {Y} {Z} first second third f g h a b c tail rest =
    one-tells first f a (λ x. one second x.1 >>= (λ y. last third y.1 >>= (λ z. Ok (x.0, y.0, z)))) g (h ∷ []) tail rest
    (λ x more. one-tells second g b (λ y. last third y.1 >>= (λ z. Ok (x, y.0, z))) h [] tail more
    (λ y rest. ok-tells tail (last third rest) (λ (z : Z). (x, y, z))
    (operand_marks (h ∷ []) tail rest ++ high_marks tail (bytes_of rest))
    (last-tells third h c tail rest)))

-- texts between quotes
bad-at : (piece : List ℕ) → fault_at piece BadLine ≡ BadLine
bad-at [] = refl
bad-at (byte ∷ bytes) = by_choice (λ k. k ≡ BadLine) (is_high byte) BadLine BadLine (λ e. refl) (λ e. refl)

or-kind : {X : Type 0} (o : Option X) (piece : List ℕ) (kind : TextKind) → or_fault o piece BadLine ≡ Err kind →
    kind ≡ BadLine
or-kind None piece kind h = let k = bad-at piece in cc
or-kind (Some x) piece kind h = cc

short-some : (o : Option (List ℕ)) (t : List ℕ) (P : Type 0) → short o ≡ Some t → ((u : List ℕ) → o ≡ Some u → P) → P
short-some None t P h k = cc
short-some (Some u) t P h k = k u refl

text-tells : (tail : ℕ) (rest : List ℕ) (r : Result (List ℕ) TextKind) → text rest ≡ r →
    Tells tail r (unless (is_read r) (length rest + tail) BadLine ++ high_marks tail rest)
text-tells tail rest (Err kind) e =
    subst (λ (k : TextKind). IsTold tail k (((length rest + tail, BadLine) ∷ []) ++ high_marks tail rest))
    (sym (or-kind (short (string_of rest)) rest kind e)) (start-bad tail rest [] tt)
text-tells tail rest (Ok t) e =
    no-high tail rest (or-some (short (string_of rest)) rest BadLine t (IsLow rest) e
    (λ u k. short-some (string_of rest) u (IsLow rest) k (λ v m. text-low rest v m)))

ascii-tells : (tail : ℕ) (rest : Option (List ℕ)) →
    Tells tail (whole text rest) (text_marks tail rest ++ high_marks tail (bytes_of rest))
ascii-tells tail None = record {
  place = tail;
  from = omega arith;
  among = inl refl;
  none = lowest-kind tail ((tail, BadLine) ∷ []) (omega arith, tt);
}
ascii-tells tail (Some rest) = text-tells tail rest (text rest) refl

-- the operands of each mnemonic
abbrev OpGoal : Op → ℕ → Option (List ℕ) → Type 0
OpGoal of tail rest = Tells tail (item_of of rest) (op_marks of tail rest ++ high_marks tail (bytes_of rest))

item-tells : (of : Op) (tail : ℕ) (rest : Option (List ℕ)) → OpGoal of tail rest
unfolding item_of
item-tells (Registers of) tail rest =
    ok-tells tail (three register register register rest) (λ x. item.Plain (registers_insn of x.0 x.1 x.2)) _
    (three-tells register register register Reg Reg Reg register-law register-law register-law tail rest)
item-tells (Immediate of) tail rest =
    ok-tells tail (three register register (number (negsuc 2047) (pos 2047)) rest)
    (λ x. item.Plain (immediate_insn of x.0 x.1 x.2)) _
    (three-tells register register (number (negsuc 2047) (pos 2047)) Reg Reg
    (Num (negsuc 2047) (pos 2047)) register-law register-law
    (number-law (negsuc 2047) (pos 2047)) tail rest)
item-tells (Shift of) tail rest =
    ok-tells tail (three register register (natural 63) rest) (λ x. item.Plain (shift_insn of x.0 x.1 x.2)) _
    (three-tells register register (natural 63) Reg Reg (Nat 63) register-law register-law (natural-law 63) tail rest)
item-tells (ShortShift of) tail rest =
    ok-tells tail (three register register (natural 31) rest) (λ x. item.Plain (short_shift_insn of x.0 x.1 x.2)) _
    (three-tells register register (natural 31) Reg Reg (Nat 31) register-law register-law (natural-law 31) tail rest)
item-tells (Load of) tail rest =
    ok-tells tail (two register place rest) (λ x. item.Plain (load_insn of x.0 x.1.1 x.1.0)) _
    (two-tells register place Reg Place register-law place-law tail rest)
item-tells (Store of) tail rest =
    ok-tells tail (two register place rest) (λ x. item.Plain (store_insn of x.1.1 x.0 x.1.0)) _
    (two-tells register place Reg Place register-law place-law tail rest)
item-tells (Upper of) tail rest =
    ok-tells tail (two register (natural 0xfffff) rest) (λ x. item.Plain (upper_insn of x.0 x.1)) _
    (two-tells register (natural 0xfffff) Reg (Nat 0xfffff) register-law (natural-law 0xfffff) tail rest)
item-tells (Csr of) tail rest =
    ok-tells tail (three register (natural 4095) register rest) (λ x. item.Plain (csr_insn of x.0 x.2 x.1)) _
    (three-tells register (natural 4095) register Reg (Nat 4095) Reg register-law
    (natural-law 4095) register-law tail rest)
item-tells (CsrImmediate of) tail rest =
    ok-tells tail (three register (natural 4095) (natural 31) rest)
    (λ x. item.Plain (csr_immediate_insn of x.0 x.2 x.1)) _
    (three-tells register (natural 4095) (natural 31) Reg (Nat 4095) (Nat 31) register-law (natural-law 4095)
    (natural-law 31) tail rest)
item-tells (Bare of) tail rest = end-tells tail (item.Plain (bare_insn of)) rest
item-tells (Branch cond) tail rest =
    ok-tells tail (three register register name rest) (λ x. item.Branch cond x.0 x.1 x.2) _
    (three-tells register register name Reg Reg Label register-law register-law name-law tail rest)
item-tells Jump tail rest =
    ok-tells tail (two register name rest) (λ x. item.Jump x.0 x.1) _
    (two-tells register name Reg Label register-law name-law tail rest)
item-tells Address tail rest =
    ok-tells tail (two register name rest) (λ x. item.Address x.0 x.1) _
    (two-tells register name Reg Label register-law name-law tail rest)
item-tells Dword tail rest =
    ok-tells tail (last (number (negsuc 9223372036854775807) (pos 18446744073709551615)) rest)
    (λ x. item.Dword (cast_unsigned w64 x)) _
    (last-tells (number (negsuc 9223372036854775807) (pos 18446744073709551615))
    (Num (negsuc 9223372036854775807) (pos 18446744073709551615))
    (number-law (negsuc 9223372036854775807) (pos 18446744073709551615)) tail rest)
item-tells Ascii tail rest = ok-tells tail (whole text rest) (λ x. item.Ascii x) _ (ascii-tells tail rest)

-- a line of words
operands-step : (tail : ℕ) (rest : List ℕ) →
    high_marks tail rest ≡ high_marks tail (bytes_of (cond (is_empty rest) None (Some rest)))
operands-step tail [] = refl
operands-step tail (byte ∷ bytes) = refl

highs-operands : (tail : ℕ) (o : Option (List ℕ)) →
    high_marks tail (bytes_of o) ≡ high_marks tail (bytes_of (operands_in o))
highs-operands tail None = refl
highs-operands tail (Some rest) = highs-spaces tail rest ∙ operands-step tail (drop_while is_space rest)

word-begins : (stop b : ℕ) (bs : List ℕ) → is_high stop ≡ false → Begins (before stop (b ∷ bs)) b
word-begins stop b bs s = begins-before stop (b ∷ bs) b s refl

named-tells : (tail b : ℕ) (bs : List ℕ) (o : Option Op) → op_of (before 32 (b ∷ bs)) ≡ o →
    Tells tail (item_named (before 32 (b ∷ bs)) o (behind 32 (b ∷ bs)))
    (word_marks tail (b ∷ bs) o (operands_in (behind 32 (b ∷ bs))) ++ high_marks tail (b ∷ bs))
named-tells tail b bs None e = start-fault tail b bs UnknownName (before 32 (b ∷ bs)) [] (word-begins 32 b bs refl) tt
named-tells tail b bs (Some of) e =
    let highs : high_marks tail (b ∷ bs) ≡ high_marks tail (bytes_of (operands_in (behind 32 (b ∷ bs)))) =
    highs-behind tail 32 (b ∷ bs) refl (word-low (before 32 (b ∷ bs)) of e)
    ∙ highs-operands tail (behind 32 (b ∷ bs)) in
    subst (λ (hs : List Mark). Tells tail (item_of of (operands_in (behind 32 (b ∷ bs))))
    (op_marks of tail (operands_in (behind 32 (b ∷ bs))) ++ hs))
    (sym highs) (item-tells of tail (operands_in (behind 32 (b ∷ bs))))

-- a line with a colon at its end
begins-last : (w : List ℕ) (b : ℕ) (bs : List ℕ) → b ∷ bs ≡ w ++ 58 ∷ [] → Begins w b
begins-last [] b bs e = let first : b ≡ 58 = cc in ap (λ (x : ℕ). is_high x) first
begins-last (v ∷ vs) b bs e = cc

label-tells : (tail b : ℕ) (bs w : List ℕ) (r : Result (List ℕ) TextKind) → b ∷ bs ≡ w ++ 58 ∷ [] → name w ≡ r →
    Tells tail r (unless (is_read r) (length (b ∷ bs) + tail) BadLabel ++ high_marks tail (b ∷ bs))
label-tells tail b bs w (Err kind) is e =
    subst (λ (k : TextKind). IsTold tail k (((length (b ∷ bs) + tail, BadLabel) ∷ []) ++ high_marks tail (b ∷ bs)))
    (sym (name-refused w kind e)) (start-fault tail b bs BadLabel w [] (begins-last w b bs is) tt)
label-tells tail b bs w (Ok x) is e =
    no-high tail (b ∷ bs) (subst IsLow (sym is) (low-append w (58 ∷ []) (name-read w x e) refl))

colon-tells : (tail b : ℕ) (bs : List ℕ) (colon : Bool) → ends_with 58 (b ∷ bs) ≡ colon →
    Tells tail (cond colon (labelled (b ∷ bs)) (some_item (worded (b ∷ bs))))
    (cond colon (unless (is_read (name (without_last (b ∷ bs)))) (length (b ∷ bs) + tail) BadLabel)
    (word_marks tail (b ∷ bs) (op_of (before 32 (b ∷ bs))) (operands_in (behind 32 (b ∷ bs)))) ++ high_marks tail
    (b ∷ bs))
colon-tells tail b bs true e =
    ok-tells tail (name (without_last (b ∷ bs))) (λ (x : List ℕ). Some (item.Label x)) _
    (label-tells tail b bs (without_last (b ∷ bs)) (name (without_last (b ∷ bs))) (ends-split 58 (b ∷ bs) e) refl)
colon-tells tail b bs false e =
    ok-tells tail (worded (b ∷ bs)) (λ (x : Item). Some x) _ (named-tells tail b bs (op_of (before 32 (b ∷ bs))) refl)

bare-tells : (tail : ℕ) (line : List ℕ) → Tells tail (bare_item line) (bare_marks tail line ++ high_marks tail line)
bare-tells tail [] = refl
bare-tells tail (b ∷ bs) = colon-tells tail b bs (ends_with 58 (b ∷ bs)) refl

-- the parts of a line: blanks, what is left, and blanks and a comment
abbrev FirstLow : List ℕ → Type 0
FirstLow [] = Unit {0}
FirstLow (byte ∷ bytes) = is_high byte ≡ false

comment-low : (quote : Quote) (byte : ℕ) → begins_comment quote byte ≡ true → is_high byte ≡ false
comment-low Outside byte h = is-low 35 byte refl h
comment-low Inside byte h = absurd (false≢true h)
comment-low Escaped byte h = absurd (false≢true h)

record Comment (line left : List ℕ) : Type 0 where
  comment : List ℕ
  is : line ≡ left ++ comment
  low : FirstLow comment

comment-step : (begins : Bool) (quote : Quote) (byte : ℕ) (bytes left : List ℕ) → begins_comment quote byte ≡ begins →
    Comment bytes left →
    Comment (byte ∷ bytes) (cond begins [] (byte ∷ left))
comment-step true quote byte bytes left e c =
    record { comment = byte ∷ bytes; is = refl; low = comment-low quote byte e }
comment-step false quote byte bytes left e c =
    record { comment = c.comment; is = ap (λ (xs : List ℕ). byte ∷ xs) c.is; low = c.low }

comment-of : (quote : Quote) (line : List ℕ) → Comment line (without_comment quote line)
comment-of quote [] = record { comment = []; is = refl; low = tt }
comment-of quote (byte ∷ bytes) =
    comment-step (begins_comment quote byte) quote byte bytes (without_comment (next_quote quote byte) bytes) refl
    (comment-of (next_quote quote byte) bytes)

blank-low : (byte : ℕ) → is_blank byte ≡ true → is_high byte ≡ false
blank-low byte h = grind (arith, nat_tests)

record Lead (xs left : List ℕ) : Type 0 where
  lead : List ℕ
  is : xs ≡ lead ++ left
  low : IsLow lead

lead-step : (blank : Bool) (byte : ℕ) (bytes : List ℕ) → is_blank byte ≡ blank →
    Lead bytes (drop_while is_blank bytes) →
    Lead (byte ∷ bytes) (cond blank (drop_while is_blank bytes) (byte ∷ bytes))
lead-step true byte bytes e h = record {
  lead = byte ∷ h.lead;
  is = ap (λ (xs : List ℕ). byte ∷ xs) h.is;
  low = both-low (is_high byte) (list_any is_high h.lead) (blank-low byte e) h.low;
}
lead-step false byte bytes e h = record { lead = []; is = refl; low = refl }

lead-of : (xs : List ℕ) → Lead xs (drop_while is_blank xs)
lead-of [] = record { lead = []; is = refl; low = refl }
lead-of (byte ∷ bytes) = lead-step (is_blank byte) byte bytes refl (lead-of bytes)

record Ending (ys left : List ℕ) : Type 0 where
  blanks : List ℕ
  is : ys ≡ left ++ blanks
  low : IsLow blanks

ending-blank : (blank : Bool) (byte : ℕ) (bytes : List ℕ) → is_blank byte ≡ blank → Ending bytes [] →
    Ending (byte ∷ bytes) (cond blank [] (byte ∷ []))
ending-blank true byte bytes e h = record {
  blanks = byte ∷ h.blanks;
  is = ap (λ (xs : List ℕ). byte ∷ xs) h.is;
  low = both-low (is_high byte) (list_any is_high h.blanks) (blank-low byte e) h.low;
}
ending-blank false byte bytes e h = record { blanks = h.blanks; is = ap (λ (xs : List ℕ). byte ∷ xs) h.is; low = h.low }

ending-step : (byte : ℕ) (bytes left : List ℕ) → Ending bytes left → Ending (byte ∷ bytes) (before_rest byte left)
ending-step byte bytes [] h = ending-blank (is_blank byte) byte bytes refl h
ending-step byte bytes (next ∷ left) h =
    record { blanks = h.blanks; is = ap (λ (xs : List ℕ). byte ∷ xs) h.is; low = h.low }

ending-of : (ys : List ℕ) → Ending ys (without_end ys)
ending-of [] = record { blanks = []; is = refl; low = refl }
ending-of (byte ∷ bytes) = ending-step byte bytes (without_end bytes) (ending-of bytes)

-- blanks in front are the same with more behind
drop-step : (blank : Bool) (byte : ℕ) (bytes more d : List ℕ) (x : ℕ) (xs : List ℕ) → d ≡ x ∷ xs →
    (drop_while is_blank bytes ≡ d → drop_while is_blank (bytes ++ more) ≡ d ++ more) →
    cond blank (drop_while is_blank bytes) (byte ∷ bytes) ≡ d →
    cond blank (drop_while is_blank (bytes ++ more)) (byte ∷ bytes ++ more) ≡ d ++ more
drop-step true byte bytes more d x xs e h k = h k
drop-step false byte bytes more d x xs e h k = ap (λ (ys : List ℕ). ys ++ more) k

drop-more : (bytes more d : List ℕ) (x : ℕ) (xs : List ℕ) → d ≡ x ∷ xs → drop_while is_blank bytes ≡ d →
    drop_while is_blank (bytes ++ more) ≡ d ++ more
drop-more [] more d x xs e k = cc
drop-more (byte ∷ bytes) more d x xs e k =
    drop-step (is_blank byte) byte bytes more d x xs e (drop-more bytes more d x xs e) k

first-low-append : (xs ys : List ℕ) → IsLow xs → FirstLow ys → FirstLow (xs ++ ys)
first-low-append [] ys h k = k
first-low-append (x ∷ xs) ys h k = first-low (is_high x) (list_any is_high xs) h

-- a line around what is left of it
record Around (line left : List ℕ) : Type 0 where
  lead : List ℕ
  back : List ℕ
  is : line ≡ lead ++ (left ++ back)
  low : IsLow lead
  first : FirstLow back
  dropped : (x : ℕ) (xs : List ℕ) → left ≡ x ∷ xs → drop_while is_blank line ≡ left ++ back

around : (line : List ℕ) → Around line (bare line)
unfolding bare
around line =
    let c = comment-of Outside line in
    let l = lead-of (without_comment Outside line) in
    let e = ending-of (drop_while is_blank (without_comment Outside line)) in
    record {
      lead = l.lead;
      back = e.blanks ++ c.comment;
      is = c.is ∙ ap (λ (xs : List ℕ). xs ++ c.comment) l.is
          ∙ ap (λ (xs : List ℕ). (l.lead ++ xs) ++ c.comment) e.is
          ∙ append_assoc l.lead (without_end (drop_while is_blank (without_comment Outside line)) ++ e.blanks) c.comment
          ∙ ap (λ (xs : List ℕ). l.lead ++ xs)
          (append_assoc (without_end (drop_while is_blank (without_comment Outside line))) e.blanks c.comment);
      low = l.low;
      first = first-low-append e.blanks c.comment e.low c.low;
      dropped = λ x xs k.
          ap (λ (ys : List ℕ). drop_while is_blank ys) c.is
          ∙ drop-more (without_comment Outside line) c.comment (drop_while is_blank (without_comment Outside line)) x
          (xs ++ e.blanks)
          (e.is ∙ ap (λ (ys : List ℕ). ys ++ e.blanks) k) refl
          ∙ ap (λ (ys : List ℕ). ys ++ c.comment) e.is
          ∙ append_assoc (without_end (drop_while is_blank (without_comment Outside line))) e.blanks c.comment;
    }

left-nil : (xs ys : List Mark) → xs ++ ys ≡ [] → xs ≡ []
left-nil [] ys e = refl
left-nil (x ∷ xs) ys e = cc

back-none : (kind : TextKind) (back : List ℕ) (p : ℕ) → FirstLow back → length back + 0 ≤ p →
    NoneEarlier (p, kind) (high_marks 0 back)
back-none kind [] p first h = tt
back-none kind (byte ∷ bytes) p first h =
    subst (λ (b : Bool). NoneEarlier (p, kind)
    (cond b ((length (byte ∷ bytes) + 0, BadLine) ∷ high_marks 0 bytes) (high_marks 0 bytes))) (sym first)
    (later-place p (length bytes + 0) kind (high_marks 0 bytes) (highs-at-most 0 bytes) (omega (arith, h)))

widened : (kind : TextKind) (back : List ℕ) (ms hs : List Mark) → FirstLow back →
    IsTold (length back + 0) kind (ms ++ hs) →
    IsTold 0 kind (ms ++ (hs ++ high_marks 0 back))
widened kind back ms hs first t =
    subst (λ (xs : List Mark). IsTold 0 kind xs) (append_assoc ms hs (high_marks 0 back))
    (record {
      place = t.place;
      from = omega arith;
      among = among-left (t.place, kind) (ms ++ hs) (high_marks 0 back) t.among;
      none = none-append (t.place, kind) (ms ++ hs) (high_marks 0 back) t.none
          (back-none kind back t.place first t.from);
    })

finished : (high : Bool) (line : List ℕ) (x : Option Item) → list_any is_high line ≡ high →
    Tells 0 (cond high (Err BadLine) (Ok x)) (high_marks 0 line)
finished true line x e = first-high 0 line e
finished false line x e = no-high 0 line e

whole-tells : (line left : List ℕ) (a : Around line left) (r : Result (Option Item) TextKind) (ms : List Mark) →
    Tells (length a.back + 0) r (ms ++ high_marks (length a.back + 0) left) →
    Tells 0 (r >>= (λ x. cond (list_any is_high line) (Err BadLine) (Ok x))) (ms ++ high_marks 0 line)
whole-tells line left a (Err kind) ms t =
    let highs : high_marks 0 line ≡ high_marks (length a.back + 0) left ++ high_marks 0 a.back =
    ap (λ (xs : List ℕ). high_marks 0 xs) a.is ∙ highs-front 0 a.lead (left ++ a.back) a.low
    ∙ highs-append 0 left a.back in
    subst (λ (hs : List Mark). IsTold 0 kind (ms ++ hs)) (sym highs)
    (widened kind a.back ms (high_marks (length a.back + 0) left) a.first t)
whole-tells line left a (Ok x) ms t =
    subst (λ (xs : List Mark). Tells 0 (cond (list_any is_high line) (Err BadLine) (Ok x)) (xs ++ high_marks 0 line))
    (sym (left-nil ms (high_marks (length a.back + 0) left) t)) (finished (list_any is_high line) line x refl)

tail-is : (line left : List ℕ) (a : Around line left) →
    bare_marks (length (drop_while is_blank line) - length left) left ≡ bare_marks (length a.back + 0) left
tail-is line [] a = refl
tail-is line (x ∷ xs) a =
    let sum : length (drop_while is_blank line) ≡ length (x ∷ xs) + length a.back =
    ap (λ (ys : List ℕ). length ys) (a.dropped x xs refl) ∙ length-append (x ∷ xs) a.back in
    ap (λ (n : ℕ). bare_marks n (x ∷ xs)) (omega (arith, sum))

pub line-tells : (line : List ℕ) → Tells 0 (line_item line) (marks line)
unfolding line_item marks
line-tells line =
    let a = around line in
    subst (λ (ms : List Mark). Tells 0
    (bare_item (bare line) >>= (λ x. cond (list_any is_high line) (Err BadLine) (Ok x))) (ms ++ high_marks 0 line))
    (sym (tail-is line (bare line) a))
    (whole-tells line (bare line) a (bare_item (bare line)) (bare_marks (length a.back + 0) (bare line))
    (bare-tells (length a.back + 0) (bare line)))

-- texts
abbrev FoundTells : ℕ → List (List ℕ) → Found → Type 0
FoundTells number texts (Ok found) = All (λ line. marks line ≡ []) texts
FoundTells number texts (Err fault) = IsFirstOf fault.0 fault.1 number texts

line-step : (number : ℕ) (text : List ℕ) (texts : List (List ℕ)) (read : Result (Option Item) TextKind)
    (found : Found) →
    Tells 0 read (marks text) → FoundTells (number + 1) texts found →
    FoundTells number (text ∷ texts) (with_line number read found)
line-step number text texts (Err kind) found t h = inl (refl, (t.place, t.among, t.none))
line-step number text texts (Ok None) (Ok found) t h = All-cons (λ line. marks line ≡ []) text texts t h
line-step number text texts (Ok None) (Err fault) t h = inr (t, h)
line-step number text texts (Ok (Some it)) (Ok found) t h = All-cons (λ line. marks line ≡ []) text texts t h
line-step number text texts (Ok (Some it)) (Err fault) t h = inr (t, h)

lines-tell : (number : ℕ) (texts : List (List ℕ)) → FoundTells number texts (lines_from number texts)
lines-tell number [] = All-nil (λ line. marks line ≡ [])
lines-tell number (text ∷ texts) =
    line-step number text texts (line_item text) (lines_from (number + 1) texts) (line-tells text)
    (lines-tell (number + 1) texts)

pub text-faultless : (text : List ℕ) (items : List Item) (numbers : List ℕ) → text_items text ≡ Ok (items, numbers) →
    IsFaultless text
unfolding text_items
text-faultless text items numbers is = subst (λ (found : Found). FoundTells 1 (lines_of text) found) is
    (lines-tell 1 (lines_of text))

pub text-first : (text : List ℕ) (fault : TextFault) → Refuses fault (text_items text) → IsFirstFault fault text
unfolding text_items
text-first text (At line kind) is = subst (λ (found : Found). FoundTells 1 (lines_of text) found) is
    (lines-tell 1 (lines_of text))
text-first text OutOfMemory is = tt
