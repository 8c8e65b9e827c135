use Rattle.std.proofs.Common.{Err, ap, ◌∙◌}
use Rattle.std.proofs.lemmas.Result.{err_from_is_err_and}
use Rattle.target_box.specs.Lined.{lined}
use Rattle.tether_base.specs.Texts.{loads_of}
use Rattle.tether_session.proofs.Beginnings.{begins, begins-as, boot-off, kernel-off, loads-off}
use Rattle.tether_session.proofs.loading.load.Goals as goal

pub returns-in_err-put_range-clause-begins : goal.returns-in_err-put_range-clause-begins
returns-in_err-put_range-clause-begins g c =
    let failed = err_from_is_err_and c.from_residual.result c.from_residual.ensures.1 in
    begins-as (loads_of c.args.kernel.now.bytes c.args.image.now)
    (lined c.args.target.now (g.R.Sink.held c.args.trace.now))
    (lined c.put_range.new.target (g.R.Sink.held c.put_range.new.trace)) c.in_err-put_range.field-0.0
    (failed.1 ∙ ap Err failed.2)
    (kernel-off c.args.kernel.now.bytes c.args.image.now _ c.args.kernel.now.base _ c.requires.base
    c.as_slice.ensures _ _ c.in_err-put_range.ensures.written)

pub returns-in_err-load_segments-clause-begins : goal.returns-in_err-load_segments-clause-begins
returns-in_err-load_segments-clause-begins g c =
    let at_segments = c.from_residual-in_err-load_segments in
    let failed = err_from_is_err_and at_segments.result at_segments.ensures.1 in
    begins-as (loads_of c.args.kernel.now.bytes c.args.image.now)
    (lined c.args.target.now (g.R.Sink.held c.args.trace.now))
    (lined c.load_segments.new.target (g.R.Sink.held c.load_segments.new.trace)) c.in_err-load_segments.field-0.0
    (failed.1 ∙ ap Err failed.2)
    (loads-off c.args.kernel.now.bytes c.args.image.now _ c.args.kernel.now.base _ c.requires.base
    c.as_slice.ensures _ _ _ c.in_ok-put_range.ensures.written c.in_err-load_segments.ensures.loads)

pub returns-in_err-put_range-2-clause-begins : goal.returns-in_err-put_range-2-clause-begins
returns-in_err-put_range-2-clause-begins g c =
    let at_boot = c.from_residual-in_err-put_range-2 in
    let failed = err_from_is_err_and at_boot.result at_boot.ensures.1 in
    begins-as (loads_of c.args.kernel.now.bytes c.args.image.now)
    (lined c.args.target.now (g.R.Sink.held c.args.trace.now))
    (lined c.put_range-2.new.target (g.R.Sink.held c.put_range-2.new.trace)) c.in_err-put_range-2.field-0.0
    (failed.1 ∙ ap Err failed.2)
    (boot-off c.args.kernel.now.bytes c.args.image.now _ c.args.kernel.now.base _ c.requires.base
    c.as_slice.ensures _ _ _ _ _ c.boot_block.ensures c.in_ok-put_range.ensures.written
    c.in_ok-load_segments.ensures.loads c.in_err-put_range-2.ensures.written)

pub returns-clause-begins : goal.returns-clause-begins
returns-clause-begins g c =
    begins c.args.kernel.now.bytes c.args.image.now _ c.args.kernel.now.base _ c.requires.base
    c.as_slice.ensures _ _ _ _ _ _ _
    c.boot_block.ensures c.to_le_bytes.ensures c.in_ok-put_range.ensures.written c.in_ok-load_segments.ensures.loads
    c.in_ok-put_range-2.ensures.written c.put_range-3.ensures.written
