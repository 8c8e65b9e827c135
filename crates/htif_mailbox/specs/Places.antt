-- Where a port may refuse a host turn with an address that is not mapped.
use Rattle.std.specs.Prelude.{◌≡◌, ◌≢◌, ℕ, List, Ok}
use Rattle.std.specs.Int.{from_le_bytes, w64}
use Rattle.chunk_memory.specs.Ranges.{IsFirstUnmapped}
use Rattle.chunk_memory.specs.declared.port.ChunkPort as port
use Rattle.host_text.specs.Outside.{HasRead}
use Rattle.htif_mailbox.specs.Commands.{command_of}
use Rattle.htif_mailbox.specs.declared.commands.Command.TheVariants.{Call}

-- over this memory a word was read from tohost that asks for a system call, and of its request's 64 bytes this
-- doubleword is the first that is not mapped
pub record IsOfRequest {P : Type 0} (d : port.Ghosts P) (tohost : ℕ) (memory : P) (doubleword : ℕ) : Type 0 where
  pub bytes : List ℕ
  pub behind : P
  pub read : HasRead d memory behind tohost 8 (Ok bytes)
  pub some : from_le_bytes w64 bytes ≢ 0
  pub place : ℕ
  pub asked : command_of (from_le_bytes w64 bytes) ≡ Call place
  pub first : IsFirstUnmapped place 64 doubleword
