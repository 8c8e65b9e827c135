use Rattle.std.proofs.Common.{◌∙◌, sym}
use Rattle.spike_front.proofs.Grammar.{command-asm, command-kernel, command-plain, command-unbuilt, command-unknown}
use Rattle.spike_front.proofs.words.read_command.Goals as goal

pub returns-then-eq-clause-value : goal.returns-then-eq-clause-value
returns-then-eq-clause-value c = c.plain_words.ensures.value ∙ sym (command-plain c.args.words.now _ c.word-name.ensures (sym c.eq.ensures ∙ c.if-eq.true))

pub returns-then-eq-2-clause-value : goal.returns-then-eq-2-clause-value
returns-then-eq-2-clause-value c =
    c.kernel_words.ensures.value ∙ sym (command-kernel c.args.words.now _ c.word-name.ensures (sym c.eq.ensures ∙ c.if-eq.false) (sym c.eq-2.ensures ∙ c.if-eq-2.true))

pub returns-then-eq-3-clause-value : goal.returns-then-eq-3-clause-value
returns-then-eq-3-clause-value c =
    c.asm_words.ensures.value
    ∙ sym (command-asm c.args.words.now _ c.word-name.ensures (sym c.eq.ensures ∙ c.if-eq.false) (sym c.eq-2.ensures ∙ c.if-eq-2.false) (sym c.eq-3.ensures ∙ c.if-eq-3.true))

pub returns-then-is_unbuilt_name-clause-value : goal.returns-then-is_unbuilt_name-clause-value
returns-then-is_unbuilt_name-clause-value c =
    sym (command-unbuilt c.args.words.now _ c.word-name.ensures (sym c.eq.ensures ∙ c.if-eq.false) (sym c.eq-2.ensures ∙ c.if-eq-2.false) (sym c.eq-3.ensures ∙ c.if-eq-3.false) (sym c.is_unbuilt_name.ensures ∙ c.if-is_unbuilt_name.true))

pub returns-clause-value : goal.returns-clause-value
returns-clause-value c =
    sym (command-unknown c.args.words.now _ c.word-name.ensures (sym c.eq.ensures ∙ c.if-eq.false) (sym c.eq-2.ensures ∙ c.if-eq-2.false) (sym c.eq-3.ensures ∙ c.if-eq-3.false) (sym c.is_unbuilt_name.ensures ∙ c.if-is_unbuilt_name.false))
