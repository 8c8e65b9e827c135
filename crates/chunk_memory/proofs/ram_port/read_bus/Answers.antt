use Rattle.std.proofs.Common.{◌≡◌, ℕ, ◌<◌, ◌^◌, List, length, subst, sym, ap, ◌∙◌, rules}
use Rattle.std.specs.Prelude.{Option, unwrap_or}
use Rattle.guest_memory.specs.Bus.{bus_bytes}
use Rattle.chunk_memory.proofs.RamLemmas.{chunk-ram, ram-read, start-read}
use Rattle.chunk_memory.proofs.WordLemmas.{AreSmall}
use Rattle.chunk_memory.specs.Ports.{IsChunk}
use Rattle.chunk_memory.proofs.ram_port.read_bus.Goals as goal

pub returns-then-at-eq-START_WORD : goal.returns-then-at-eq-START_WORD
returns-then-at-eq-START_WORD c =
    let small : c.unwrap_or.result < 2 ^ 64 = search rules in
    start-read c.args.at c.unwrap_or.result c.args.bus.now c.args.into.now c.write_u64.new.buf c.if-at-eq-START_WORD.true c.requires
    (c.unwrap_or.ensures ∙ ap (λ (o : Option ℕ). unwrap_or o 0) c.read_beat.ensures.value) small c.write_u64.ensures

pub bytes-requires : goal.bytes-requires
bytes-requires c = chunk-ram 1024 c.args.at (length c.args.into.now) c.requires c.if-at-eq-START_WORD.false

pub returns : goal.returns
returns c =
    let new : List ℕ = c.copy_from_slice.new.self in
    let long : length c.args.into.now ≡ length new = sym c.copy_from_slice.ensures.len in
    let small : AreSmall new = search rules in
    let are : new ≡ bus_bytes c.args.bus.now c.args.at (length new) = c.copy_from_slice.ensures.after ∙ c.bytes.ensures.value ∙ ap (λ (n : ℕ). bus_bytes c.args.bus.now c.args.at n) long in
    ram-read 1024 c.args.at c.args.bus.now new (subst (λ (n : ℕ). IsChunk 8 1024 c.args.at n) long c.requires) c.if-at-eq-START_WORD.false are small
