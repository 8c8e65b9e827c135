use Rattle.fe_base.specs.SampleModule.{reset_bench_fits}
use Rattle.fe_base.proofs.module_tests.Bench.reset.Goals as goal

pub returns : goal.returns
returns c = reset_bench_fits c.args.word c.ranges.word.fits
