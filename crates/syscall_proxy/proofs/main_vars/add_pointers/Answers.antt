use Rattle.std.proofs.Common.{◌≡◌, ℕ, ◌+◌, ◌++◌, length, arith, ap, refl}
use Rattle.syscall_proxy.proofs.MainVarsLemmas.{pointers_wrapped, dword-room}
use Rattle.syscall_proxy.proofs.main_vars.add_pointers.Goals as goal

pub loop-i-preserved : goal.loop-i-preserved
loop-i-preserved c = (
  pointers_wrapped c.args.args.now c.loop-i.i c.loop-i.at _ c.word.result.now c.loop-i.buffer c.add_dword.new.buffer _
      c.word.ensures refl c.add_dword.ensures c.loop-i.invariant.0,
  omega (
    arith,
    dword-room c.add_dword.new.buffer c.loop-i.buffer c.loop-i.at c.add_dword.ensures,
    c.loop-i.invariant.1,
  ),
)
