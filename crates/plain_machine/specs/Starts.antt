-- Where a run begins.
use Rattle.std.specs.Prelude.{ℕ, ◌-◌, List, [], ◌∷◌, slice_set}
use Rattle.elf_loader.specs.MainVars.{main_vars_text}
use Rattle.elf_loader.specs.Segment.{Segment}
use Rattle.elf_loader.specs.declared.image.Image.{Image}
use Rattle.fe_base.specs.Limits.{stack_top}
use Rattle.fe_base.specs.MemoryMap.{user_start}
use Rattle.folder_tree.specs.Paths.{Parts}
use Rattle.guest_memory.specs.Bus.{user_size}
use Rattle.guest_memory.specs.Memory.{zeros, with_part}
use Rattle.host_text.specs.World.{Contents, World, first_numbers}
use Rattle.syscall_proxy.specs.Kept.{Setting}
use Rattle.plain_machine.specs.Direct.{Machine, running, DirectState, in_world, direct_after}
use Rattle.plain_machine.specs.UserStep.{UserState}

-- the user bytes with these in their place from an address
abbrev pub placed : List ℕ → ℕ → List ℕ → List ℕ
placed user at bytes = with_part user (at - user_start) bytes

-- the user bytes with each segment's bytes at its address
abbrev pub loaded : List Segment → List ℕ → List ℕ
loaded [] user = user
loaded (segment ∷ segments) user = loaded segments (placed user segment.address segment.bytes)

-- the user bytes at the start: zeros but for the segments, and the main vars of the arguments at the stack's top
abbrev pub first_bytes : Image → List (List ℕ) → List ℕ
first_bytes image args = placed (loaded image.segments (zeros user_size)) stack_top (main_vars_text args stack_top)

-- the user state at the start: pc is the entry, sp the stack's top, and every other register 0 (RISC-V ELF psABI, sp is
-- x2)
abbrev pub entry_state : Image → List (List ℕ) → UserState
entry_state image args =
    record { pc = image.entry; registers = slice_set (zeros 32) 2 stack_top; user = first_bytes image args }

-- the machine of an image and its arguments before its first step; its break is its first break
abbrev pub first_machine : Image → List (List ℕ) → Machine
first_machine image args =
    running (record {
      state = entry_state image args;
      program_break = image.first_break;
      first_break = image.first_break;
    })

-- what a run is of: the image of a program, its arguments, the path under which its paths stand, and what input,
-- console and folder hold as it begins
pub record Configuration : Type 0 where
  pub image : Image
  pub args : List (List ℕ)
  pub root : Parts
  pub contents : Contents

-- what the calls of a configuration's program are made with
abbrev pub setting_of : Configuration → Setting
setting_of c = record { args = c.args; root = c.root }

-- the world that it begins in
abbrev pub first_world : Contents → World
first_world contents = record { contents = contents; numbers = first_numbers }

-- the direct start of a configuration
abbrev pub direct_start : Configuration → DirectState
direct_start c = in_world (first_machine c.image c.args) (first_world c.contents)

-- where the direct run of a configuration stands after so many steps
abbrev pub state_after : ℕ → Configuration → DirectState
state_after steps c = direct_after (setting_of c) steps (direct_start c)
