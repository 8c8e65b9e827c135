use Rattle.std.proofs.Common.{refl}
use Rattle.syscall_proxy.proofs.stat.stat_record.Goals as goal

pub returns : goal.returns
returns c = rw (
  c.put_u64-2.ensures,
  c.put_u32-3.ensures,
  c.put_u64.ensures,
  c.put_u32-2.ensures,
  c.put_u32.ensures,
  c.div_ceil.ensures,
) refl
