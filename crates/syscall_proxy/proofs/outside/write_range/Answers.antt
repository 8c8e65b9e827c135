use Rattle.std.proofs.Common.{refl, rules}
use Rattle.syscall_proxy.proofs.outside.write_range.Goals as goal

pub returns-in-Err-clause-err : goal.returns-in-Err-clause-err
returns-in-Err-clause-err g c = (
  c.in-Err.why,
  record {
    usable = c.in-Err.ensures.usable;
    are_bytes = search rules;
    kept = c.in-Err.ensures.kept;
    maps = c.in-Err.ensures.maps;
    causes = c.in-Err.ensures.causes;
    steady = c.in-Err.ensures.steady;
    turns = c.in-Err.ensures.turns;
    takes = c.in-Err.ensures.takes;
    told = c.in-Err.ensures.told;
    reached = c.in-Err.ensures.reached;
    unmapped = c.in-Err.ensures.unmapped;
    empty = c.in-Err.ensures.empty;
    empty_done = c.in-Err.ensures.empty_done;
  },
  refl,
)
