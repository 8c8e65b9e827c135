-- Lines behind lines.
use Rattle.std.proofs.Common.{◌≡◌, ◌+◌, ℕ, List, [], ◌∷◌, ◌++◌, length, length-append, Option, Some, None, refl, sym}
use Rattle.std.proofs.Common.{ap, subst, ◌∙◌, append_assoc, append-nil, arith}
use Rattle.std.specs.Prelude.{All}
use Rattle.core.specs.Option.{option_map}
use Rattle.fe_base.specs.Beats.{Beat, IsBeat}
use Rattle.target_box.proofs.TraceProofs.{entry_of, first-of, rest-of}
use Rattle.target_box.proofs.TurnProofs.{turns_keep}
use Rattle.target_box.specs.Lined.{Lined, next_line, lost_line}
use Rattle.target_box.specs.TargetLaws.{turn-target}
use Rattle.target_box.specs.Trace.{Entry, IsLegal, IsTurn, trace_text}
use Rattle.target_box.specs.TraceLine.{Exchange, BeatExchange}
use Rattle.target_box.specs.Turn.{TargetState, IsTarget, next_turn}
use Rattle.target_box.specs.TurnLaws.{AreLines, AreCutLines, LinesJoin, TurnKeeps, TurnsKept, all_lines}
use Rattle.target_box.specs.declared.target.Link.TheVariants.{Direct}

-- legal entries behind legal ones, and their text
legal-append : (target between last : TargetState) (xs ys : List Entry) → IsLegal target xs between
    → IsLegal between ys last → IsLegal target (xs ++ ys) last
legal-append target between last [] ys first second = subst (λ (t : TargetState). IsLegal t ys last) first second
legal-append target between last (x ∷ xs) ys first second =
    (first.0, first.1, first.2, legal-append first.0 between last xs ys first.3 second)

text-append : (xs ys : List Entry) → trace_text (xs ++ ys) ≡ trace_text xs ++ trace_text ys
text-append [] ys = refl
text-append (x ∷ xs) ys =
    ap (λ (l : List ℕ). Rattle.target_box.specs.TraceLine.line_of x.pause x.exchange ++ l) (text-append xs ys)
    ∙ sym (append_assoc (Rattle.target_box.specs.TraceLine.line_of x.pause x.exchange) (trace_text xs) (trace_text ys))

-- texts put behind what is held, if anything is told
put-nothing : (told : Option (List ℕ)) → told ≡ option_map (λ held. held ++ []) told
put-nothing None = refl
put-nothing (Some held) = ap (λ (l : List ℕ). Some l) (sym (append-nil held))

put-same : (told : Option (List ℕ)) (text other : List ℕ) → text ≡ other → option_map (λ held. held ++ text) told
    ≡ option_map (λ held. held ++ other) told
put-same told text other same = ap (λ (t : List ℕ). option_map (λ held. held ++ t) told) same

put-both : (told : Option (List ℕ)) (first second : List ℕ) →
    option_map (λ held. held ++ second) (option_map (λ held. held ++ first) told)
    ≡ option_map (λ held. held ++ (first ++ second)) told
put-both None first second = refl
put-both (Some held) first second = ap (λ (l : List ℕ). Some l) (append_assoc held first second)

put-joined : (a b c : Option (List ℕ)) (xs ys : List Entry) → b ≡ option_map (λ held. held ++ trace_text xs) a → c
    ≡ option_map (λ held. held ++ trace_text ys) b →
    c ≡ option_map (λ held. held ++ trace_text (xs ++ ys)) a
put-joined a b c xs ys first second =
    second ∙ ap (λ (told : Option (List ℕ)). option_map (λ held. held ++ trace_text ys) told) first
    ∙ put-both a (trace_text xs) (trace_text ys)
    ∙ put-same a (trace_text xs ++ trace_text ys) (trace_text (xs ++ ys)) (sym (text-append xs ys))

none : (line : Lined) → AreLines 0 line line
none line = record { entries = []; legal = refl; one_each = refl; text = put-nothing line.trace }

one : (line : Lined) (ask : Beat) → line.target.link ≡ Direct → IsBeat ask → AreLines 1 line (next_line line ask).0
one line ask direct allowed =
    record {
      entries = entry_of line.target ask ∷ [];
      legal = ((next_turn line.target ask).0, refl, (direct, allowed, refl), refl);
      one_each = refl;
      text = put-same line.trace (Rattle.target_box.specs.Lined.line_text line.target ask)
          (trace_text (entry_of line.target ask ∷ []))
          (sym (append-nil (Rattle.target_box.specs.Lined.line_text line.target ask)));
    }

one-lost : (line : Lined) (ask : Beat) → line.target.link ≡ Direct → IsBeat ask
    → AreCutLines 0 line (lost_line line ask).0
one-lost line ask direct allowed =
    record {
      entries = [];
      unput = entry_of line.target ask;
      legal = ((next_turn line.target ask).0, refl, (direct, allowed, refl), refl);
      one_each = refl;
      text = put-nothing line.trace;
    }

joined : (m n : ℕ) (a b c : Lined) → AreLines m a b → AreLines n b c → AreLines (m + n) a c
joined m n a b c first second =
    record {
      entries = first.entries ++ second.entries;
      legal = legal-append a.target b.target c.target first.entries second.entries first.legal second.legal;
      one_each = omega (arith, length-append first.entries second.entries, first.one_each, second.one_each);
      text = put-joined a.trace b.trace c.trace first.entries second.entries first.text second.text;
    }

joined-lost : (m n : ℕ) (a b c : Lined) → AreLines m a b → AreCutLines n b c → AreCutLines (m + n) a c
joined-lost m n a b c first second =
    record {
      entries = first.entries ++ second.entries;
      unput = second.unput;
      legal = subst (λ (l : List Entry). IsLegal a.target l c.target)
          (sym (append_assoc first.entries second.entries (second.unput ∷ [])))
          (legal-append a.target b.target c.target first.entries
          (second.entries ++ second.unput ∷ []) first.legal second.legal);
      one_each = omega (arith, length-append first.entries second.entries, first.one_each, second.one_each);
      text = put-joined a.trace b.trace c.trace first.entries second.entries first.text second.text;
    }

all : (line : Lined) (asks : List Beat) → line.target.link ≡ Direct → All IsBeat asks
    → AreLines (length asks) line (all_lines asks line)
all line [] direct allowed = none line
all line (ask ∷ more) direct allowed =
    let rest = joined 1 (length more) line (next_line line ask).0 (all_lines more (next_line line ask).0)
    (one line ask direct (first-of ask more allowed))
    (all (next_line line ask).0 more direct (rest-of ask more allowed)) in
    let count : 1 + length more ≡ length (ask ∷ more) = omega arith in
    subst (λ (n : ℕ). AreLines n line (all_lines (ask ∷ more) line)) count rest

-- what legal entries keep
record Kept (count : ℕ) (before after : TargetState) : Type 0 where
  target : IsTarget Direct after
  kept : TurnsKept count before after

kept-none : (target : TargetState) → IsTarget Direct target → Kept 0 target target
kept-none target is = record {
  target = is;
  kept = record { limit = refl; pauses = refl; link = refl; turns = omega arith; user_steps = omega arith };
}

kept-more : (count : ℕ) (a b c : TargetState) → TurnKeeps a b → Kept count b c → Kept (count + 1) a c
kept-more count a b c first more =
    record {
      target = more.target;
      kept = record {
        limit = more.kept.limit ∙ first.limit;
        pauses = more.kept.pauses ∙ first.pauses;
        link = more.kept.link ∙ first.link;
        turns = omega (arith, more.kept.turns, first.turns);
        user_steps = omega (arith, more.kept.user_steps, first.user_steps);
      };
    }

kept-turn : (count : ℕ) (a b c : TargetState) (exchange : Exchange) → IsTarget Direct a → IsTurn a exchange b
    → (IsTarget Direct b → Kept count b c) → Kept (count + 1) a c
kept-turn count a b c (BeatExchange ask reply) is turn more =
    let after : (next_turn a ask).0 ≡ b = ap (λ (r : TargetState × ℕ). r.0) turn.2 in
    kept-more count a b c (subst (λ (t : TargetState). TurnKeeps a t) after (turns_keep Direct a ask is))
    (more (subst (λ (t : TargetState). IsTarget Direct t) after (turn-target Direct a ask is turn.1)))

legal-keeps : (entries : List Entry) (target last : TargetState) → IsTarget Direct target → IsLegal target entries last
    → Kept (length entries) target last
legal-keeps [] target last is legal = subst (λ (t : TargetState). Kept 0 target t) (sym legal) (kept-none target is)
legal-keeps (entry ∷ more) target last is legal =
    let count : length more + 1 ≡ length (entry ∷ more) = omega arith in
    subst (λ (n : ℕ). Kept n target last) count
    (kept-turn (length more) target legal.0 last entry.exchange is legal.2
    (λ next. legal-keeps more legal.0 last next legal.3))

keep-as : (entries : List Entry) (n : ℕ) (a b : TargetState) → length entries ≡ n → IsTarget Direct a
    → IsLegal a entries b → IsTarget Direct b × TurnsKept n a b
keep-as entries n a b count is legal =
    let kept : Kept n a b = subst (λ (k : ℕ). Kept k a b) count (legal-keeps entries a b is legal) in
    (kept.target, kept.kept)

pub lines_join : LinesJoin
lines_join =
    record {
      none = none;
      one = one;
      one_lost = one-lost;
      all = all;
      joined = joined;
      joined_lost = joined-lost;
      keep = λ n a b is lines. keep-as lines.entries n a.target b.target lines.one_each is lines.legal;
      keep_lost = λ n a b is lines.
          keep-as (lines.entries ++ lines.unput ∷ []) (n + 1) a.target b.target
          (omega (arith, length-append lines.entries (lines.unput ∷ []), lines.one_each)) is lines.legal;
      from_reset = λ pauses limit n held last lines. record {
        entries = lines.entries;
        legal = lines.legal;
        one_each = lines.one_each;
        text = lines.text;
      };
      from_reset_lost = λ pauses limit n held last lines.
          record {
            entries = lines.entries;
            unput = lines.unput;
            legal = lines.legal;
            one_each = lines.one_each;
            text = lines.text;
          };
    }
