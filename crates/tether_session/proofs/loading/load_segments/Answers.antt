use Rattle.std.proofs.Common.{◌<◌, Err, ap, arith, length, map, rules, ◌∙◌}
use Rattle.std.proofs.lemmas.Result.{err_from_is_err_and}
use Rattle.target_box.specs.Lined.{lined}
use Rattle.tether_base.specs.Texts.{segment_range}
use Rattle.tether_session.proofs.Beginnings.{loads-as, segments-off, segments-on}
use Rattle.tether_session.proofs.loading.load_segments.Goals as goal

pub loop-i-preserved : goal.loop-i-preserved
loop-i-preserved g c =
    let less : c.loop-i.i < length c.args.image.now.segments = search rules in
    record {
      within = omega (arith, less);
      usable = c.put_range.ensures.usable;
      written = segments-on c.args.image.now.segments c.loop-i.i _ _ _ _ _ less c.address.ensures
          c.bytes.ensures c.loop-i.invariant.written c.in_ok-put_range.ensures.written;
    }

pub returns-in_err-put_range-clause-loads : goal.returns-in_err-put_range-clause-loads
returns-in_err-put_range-clause-loads g c =
    let less : c.loop-i.i < length c.args.image.now.segments = search rules in
    let failed = err_from_is_err_and c.from_residual.result c.from_residual.ensures.1 in
    loads-as (map segment_range c.args.image.now.segments) (lined c.args.target.now (g.R.Sink.held c.args.trace.now))
    (lined c.put_range.new.target (g.R.Sink.held c.put_range.new.trace)) c.in_err-put_range.field-0.0
    (failed.1 ∙ ap Err failed.2) (segments-off c.args.image.now.segments c.loop-i.i _ _ _ _ _ _ less
    c.address.ensures c.bytes.ensures c.loop-i.invariant.written c.in_err-put_range.ensures.written)
