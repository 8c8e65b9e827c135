use Rattle.std.proofs.Common.{arith}
use Rattle.spike_front.proofs.Lines.{line_step, lines_end}
use Rattle.spike_front.proofs.listing.word_lines.Goals as goal

pub words-preserved : goal.words-preserved
words-preserved c = record {
  within = omega arith;
  done = line_step c.args.bytes.now _ c.words.text c.push_word.new.text c.words.at c.word_at.result (omega arith) c.word_at.ensures c.in_ok-push_word.ensures c.words.invariant.done;
}

pub returns : goal.returns
returns c = lines_end c.args.bytes.now _ c.words.text c.words.at (omega arith) c.words.invariant.done
