use Rattle.std.proofs.Common.{rules}
use Rattle.htif_mailbox.proofs.Leaves.{word_are_bytes}
use Rattle.htif_mailbox.proofs.outside.write_word.Goals as goal

pub returns-in-Ok-clause-ok : goal.returns-in-Ok-clause-ok
returns-in-Ok-clause-ok g c = record {
  usable = c.in-Ok.ensures.usable;
  are_bytes = word_are_bytes c.args.word;
  kept = c.in-Ok.ensures.kept;
  maps = c.in-Ok.ensures.maps;
  causes = c.in-Ok.ensures.causes;
  steady = c.in-Ok.ensures.steady;
  turns = c.in-Ok.ensures.turns;
  takes = c.in-Ok.ensures.takes;
  told = c.in-Ok.ensures.told;
  reached = c.in-Ok.ensures.reached;
  unmapped = λ a e. let no : ⊥ = cc in absurd no;
  empty = search rules;
  empty_done = search rules;
}
