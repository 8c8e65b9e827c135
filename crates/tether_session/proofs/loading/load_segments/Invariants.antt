use Rattle.std.proofs.Common.{◌≤◌, length}
use Rattle.target_box.specs.Lined.{lined}
use Rattle.target_box.specs.Turn.{IsUsable}
use Rattle.target_box.specs.declared.target.Link.TheVariants.{Direct}
use Rattle.tether_session.proofs.Beginnings.{Written}
use Rattle.tether_session.proofs.loading.load_segments.Given as goal

abbrev pub invariant-loop-i : goal.invariant-loop-i
invariant-loop-i g l = record {
  within : l.i ≤ length l.image.segments;
  usable : IsUsable Direct l.target;
  written : Written l.image.segments l.i (lined l.fn.target (g.R.Sink.held l.fn.trace))
      (lined l.target (g.R.Sink.held l.trace));
}
