use Rattle.std.proofs.Common.{ap, refl, rules}
use Rattle.std.specs.Result.{result_err}
use Rattle.target_box.specs.Lined.{lined}
use Rattle.tether_session.proofs.ToldLines.{at-limit}
use Rattle.tether_session.proofs.loading.put_range.Goals as goal

pub returns-clause-written : goal.returns-clause-written
returns-clause-written g c =
    record {
      made = c.write_range.ensures.told;
      keeps = record {
        maps = c.write_range.ensures.maps;
        spent = λ is. at-limit (lined c.write_range.new.target (g.R.Sink.held c.write_range.new.trace)) _ refl
            c.write_range.ensures.usable.within (c.write_range.ensures.causes.spent (ap (λ r. result_err r) is));
        within = λ less. c.write_range.ensures.usable.within;
      };
      are_bytes = search rules;
    }
