use Rattle.std.proofs.Common.{◌≡◌, ◌++◌, ◌∷◌, []}
use Rattle.elf_loader.proofs.Texts.{texts_preserved}
use Rattle.elf_loader.proofs.arguments.push_texts.Goals as goal

pub loop-i-preserved : goal.loop-i-preserved
loop-i-preserved c =
    let e : c.push.new.self ≡ (c.loop-i.bytes ++ c.word.result.now) ++ 0 ∷ [] =
    cc (c.as_bytes.ensures.value, c.in_ok-push_all.ensures, c.in_ok-push.ensures.ok) in
    texts_preserved c.args.args.now c.loop-i.i c.word.result.now c.loop-i.bytes c.push.new.self _ c.word.ensures e
    c.loop-i.invariant
