use Rattle.std.proofs.Common.{◌≡◌, ℕ, Some, sym, subst}
use Rattle.rv_decode.specs.InsnTable.{insn_of}
use Rattle.rv_decode.specs.declared.decoder.Decoded.{Decoded}
use Rattle.rv_decode.proofs.RowFits.{decoded-fits}
use Rattle.rv_decode.proofs.decoder.Decoder.decode.Goals as goal
use Rattle.rv_decode.proofs.decoder.Decoder.decode.Goals.{else-seen-word-via-then-seen-word+else-not-learn, else-seen-word-via-else-seen-word}

-- a word that is the kept one stands for the kept instruction
kept-stands : (seen : Decoded) (word : ℕ) → seen.word ≡ word → insn_of word ≡ Some seen.insn
kept-stands seen word same = let P : ℕ → Type 0 = λ kept. insn_of kept ≡ Some seen.insn in subst P same seen.stands

pub returns : goal.returns
returns c =
    let seen = c.else-seen-word.seen in
    let same : seen.word ≡ c.args.word = elim c.else-seen-word.branch [
      | else-seen-word-via-then-seen-word+else-not-learn w ↦ rw w.seen-is w.if-not-learn.ensures.learned
      | else-seen-word-via-else-seen-word w ↦ rw w.seen-is w.if-seen-word.false
    ] in
    let stands : insn_of c.args.word ≡ Some seen.insn = kept-stands seen c.args.word same in
    record {
      known = stands;
      unknown = λ none. cc;
      in_range = decoded-fits c.args.word (Some seen.insn) (sym stands);
    }
