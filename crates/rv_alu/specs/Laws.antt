-- Laws of the definitions, for the proofs of the crates above. A reader need not believe them: each is proved.
use Rattle.std.specs.Prelude.{ℕ, ◌<◌, ◌^◌, List, slice_index}
use Rattle.rv_decode.specs.Fits.{IsFit}
use Rattle.rv_decode.specs.declared.instruction.Insn.{Insn}
use Rattle.rv_alu.specs.Effects.{effect_of, IsInRange}

-- the effect of an instruction whose fields are in range is in range, over registers of 64 bits
abbrev pub EffectsInRange : Type 0
EffectsInRange = (insn : Insn) (pc : ℕ) (registers : List ℕ) → IsFit insn → ((n : ℕ) → slice_index registers n < 2 ^ 64)
    → IsInRange (effect_of insn pc registers)
