use Rattle.std.proofs.Common.{◌≡◌, ◌++◌, ◌∷◌, []}
use Rattle.syscall_proxy.proofs.MainVarsLemmas.{one_copied}
use Rattle.syscall_proxy.proofs.setting.copy_of.Goals as goal

pub loop-i-preserved : goal.loop-i-preserved
loop-i-preserved c = one_copied c.args.texts.now c.loop-i.i c.word.result.now c.loop-i.copy c.push.new.self
    c.word.ensures c.in_ok-push.ensures.ok c.loop-i.invariant
