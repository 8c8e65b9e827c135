use Rattle.std.proofs.Common.{◌≡◌, ℕ, List, length, take, sym, ap, subst, ◌∙◌, arith, rules}
use Rattle.std.proofs.lemmas.List.{take_all}
use Rattle.guest_memory.specs.Bus.{bus_bytes, with_bus_bytes}
use Rattle.chunk_memory.proofs.RamLemmas.{chunk-ram, ram-write, start-write}
use Rattle.chunk_memory.proofs.WordLemmas.{AreSmall}
use Rattle.chunk_memory.specs.BeatChunks.{WrittenByBeats}
use Rattle.chunk_memory.specs.RamTurns.{ram_turn}
use Rattle.chunk_memory.proofs.ram_port.write_bus.Goals as goal

pub returns-then-at-eq-START_WORD : goal.returns-then-at-eq-START_WORD
returns-then-at-eq-START_WORD c =
    let small : AreSmall c.args.from.now = search rules in
    start-write c.args.at c.read_u64.result c.args.bus.now c.write_beat-written.new.self c.args.from.now c.if-at-eq-START_WORD.true c.requires c.read_u64.ensures small c.write_beat-written.ensures.after

pub bytes_mut-requires : goal.bytes_mut-requires
bytes_mut-requires c = chunk-ram 1024 c.args.at (length c.args.from.now) c.requires c.if-at-eq-START_WORD.false

pub returns : goal.returns
returns c =
    let from : List ℕ = c.args.from.now in
    let small : AreSmall from = search rules in
    let same : take (length from) c.copy_from_slice.new.self ≡ from = ap (λ (l : List ℕ). take (length from) l) c.copy_from_slice.ensures.after ∙ take_all (length from) from (omega arith) in
    let room : length (bus_bytes c.args.bus.now c.args.at (length from)) ≡ length from = sym (ap (λ (l : List ℕ). length l) c.bytes_mut.ensures.value) ∙ c.bytes_mut.ensures.length in
    subst (λ (l : List ℕ). WrittenByBeats ram_turn c.args.at from c.args.bus.now (with_bus_bytes c.args.bus.now c.args.at l)) (sym same)
    (ram-write 1024 c.args.at c.args.bus.now from c.requires c.if-at-eq-START_WORD.false room small)
