use Rattle.std.proofs.Common.{rules}
use Rattle.syscall_proxy.proofs.Doublewords.{read-all}
use Rattle.syscall_proxy.proofs.request.request_of.Goals as goal

pub returns : goal.returns
returns c = read-all 8 c.args.bytes.now c.read_u64_into.new.dst (search rules) c.read_u64_into.ensures
