-- What a word in tohost asks for, by its device, its command and its payload (riscv-isa-sim, fesvr/device.h).
use Rattle.std.specs.Prelude.{ℕ, ◌/◌, ◌%◌, ◌==◌, ◌&&◌, if◌then◌else◌}
use Rattle.fe_base.specs.HostWords.{device_of, command_of as command_number, payload_of}
use Rattle.htif_mailbox.specs.declared.commands.Command.{Command}
use Rattle.htif_mailbox.specs.declared.commands.Command.TheVariants.{Exit, Call, TakeByte, PutByte, Unknown}

-- device 0, command 0: an odd payload ends the program with the status above its lowest bit, any other is the place of a request
abbrev pub by_payload : ℕ → Command
by_payload payload = if payload % 2 == 1 then Exit (payload / 2 % 256) else Call payload

-- command 0 of device 0 is a system call or the exit; device 1 is the console, whose command 0 takes a byte and 1 puts one
abbrev pub by_device : ℕ → ℕ → ℕ → Command
by_device device command payload =
    if device == 0 && command == 0 then by_payload payload
    else if device == 1 && command == 0 then TakeByte
    else if device == 1 && command == 1 then PutByte (payload % 256)
    else Unknown

-- what a word asks for
unfoldable pub command_of : ℕ → Command
command_of word = by_device (device_of word) (command_number word) (payload_of word)
