use Rattle.std.proofs.Common.{◌≡◌, ℕ, ◌+◌, ◌*◌, length, arith, ap, ◌∙◌}
use Rattle.elf_loader.specs.MainVars.{dword}
use Rattle.syscall_proxy.proofs.MainVarsLemmas.{dword-room, pointers-room, vars-joined}
use Rattle.syscall_proxy.proofs.main_vars.hold_main_vars.Goals as goal

pub add_dword-requires : goal.add_dword-requires
add_dword-requires c =
    let a : length c.hold.new.self ≡ 8 = ap length (c.hold.ensures ∙ c.to_le_bytes.ensures) in
    omega (
      arith,
      c.requires,
      a,
      pointers-room c.add_pointers.new.buffer c.hold.new.self _ c.args.args.now
          c.add_pointers.ensures,
    )

pub add_dword-requires-2 : goal.add_dword-requires-2
add_dword-requires-2 c =
    let a : length c.hold.new.self ≡ 8 = ap length (c.hold.ensures ∙ c.to_le_bytes.ensures) in
    omega (
      arith,
      c.requires,
      a,
      pointers-room c.add_pointers.new.buffer c.hold.new.self _ c.args.args.now
          c.add_pointers.ensures,
      dword-room c.add_dword.new.buffer c.add_pointers.new.buffer 0 c.add_dword.ensures,
    )

pub add_texts-requires : goal.add_texts-requires
add_texts-requires c =
    let a : length c.hold.new.self ≡ 8 = ap length (c.hold.ensures ∙ c.to_le_bytes.ensures) in
    omega (
      arith,
      c.requires,
      a,
      pointers-room c.add_pointers.new.buffer c.hold.new.self _ c.args.args.now c.add_pointers.ensures,
      dword-room c.add_dword.new.buffer c.add_pointers.new.buffer 0 c.add_dword.ensures,
      dword-room c.add_dword-2.new.buffer c.add_dword.new.buffer 0 c.add_dword-2.ensures,
    )

pub returns : goal.returns
returns c =
    vars-joined c.hold.new.self c.add_pointers.new.buffer c.add_dword.new.buffer c.add_dword-2.new.buffer
    c.add_texts.new.buffer _ (c.args.base + 8 * (length c.args.args.now + 3)) c.args.args.now
    (c.hold.ensures ∙ c.to_le_bytes.ensures ∙ ap dword c.len-count.ensures.value) c.add_pointers.ensures
    (omega (arith, c.len-count.ensures.value)) c.add_dword.ensures c.add_dword-2.ensures c.add_texts.ensures
