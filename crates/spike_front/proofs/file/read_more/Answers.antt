use Rattle.std.proofs.Common.{◌≡◌, ◌-◌, ◌≤◌, ℕ, length, take, drop, arith, length-take, length-drop}
use Rattle.spike_front.proofs.FileReads.{read_told, read_on}
use Rattle.spike_front.proofs.file.read_more.Goals as goal

pub returns-clause-told : goal.returns-clause-told
returns-clause-told g c = λ t told same came.
    let room : ℕ = c.min-end.result - c.args.count in
    let buffer = take room (drop c.args.count c.args.bytes.now) in
    let asked : length buffer ≡ room = omega (arith, length-take room (drop c.args.count c.args.bytes.now), length-drop c.args.count c.args.bytes.now) in
    let read = read_told t _ _ _ _ _ (c.in_ok-read.ensures.tree t told) in
    let bound : c.in_ok-read.read ≤ length c.read_at.new.into = c.in_ok-read.ensures.bound in
    read_on c.args.count (length buffer) c.in_ok-read.read _ c.args.bytes.now c.read_at.new.into _ (omega arith) (omega arith) same (omega arith) bound came read.0
