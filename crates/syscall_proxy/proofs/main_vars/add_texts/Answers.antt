use Rattle.std.proofs.Common.{◌≡◌, ℕ, ◌+◌, ◌++◌, ◌∷◌, [], length, arith, ap, length-append}
use Rattle.elf_loader.proofs.Texts.{strings_length-drop, texts_preserved}
use Rattle.syscall_proxy.proofs.main_vars.add_texts.Goals as goal

pub add-requires : goal.add-requires
add-requires c = omega (
  arith,
  c.requires,
  c.loop-i.invariant.1,
  strings_length-drop c.args.args.now c.loop-i.i c.word.result.now c.word.ensures,
  ap length c.as_bytes.ensures.value,
)

pub add-requires-in-loop-i : goal.add-requires-in-loop-i
add-requires-in-loop-i c =
    omega (
      arith,
      c.requires,
      c.loop-i.invariant.1,
      strings_length-drop c.args.args.now c.loop-i.i c.word.result.now c.word.ensures,
      ap length c.as_bytes.ensures.value,
      ap length c.add.ensures,
      length-append c.loop-i.buffer c.as_bytes.result.now,
    )

pub loop-i-preserved : goal.loop-i-preserved
loop-i-preserved c =
    let e : c.add-in-loop-i.new.self ≡ (c.loop-i.buffer ++ c.word.result.now) ++ 0 ∷ [] =
    cc (c.as_bytes.ensures.value, c.add.ensures, c.add-in-loop-i.ensures) in
    let size : length c.add-in-loop-i.new.self ≡ length c.loop-i.buffer + length c.word.result.now + 1 =
    omega (
      arith,
      ap length e,
      length-append (c.loop-i.buffer ++ c.word.result.now) (0 ∷ []),
      length-append c.loop-i.buffer c.word.result.now,
    ) in (
      texts_preserved c.args.args.now c.loop-i.i c.word.result.now c.loop-i.buffer c.add-in-loop-i.new.self _
          c.word.ensures e c.loop-i.invariant.0,
      omega (
        arith,
        size,
        c.loop-i.invariant.1,
        strings_length-drop c.args.args.now c.loop-i.i c.word.result.now c.word.ensures,
      ),
    )
