-- A walk over the headers that looks for two whose segments meet.
use Rattle.std.proofs.Common.{◌≡◌, ◌∙◌, ℕ, ◌+◌, List, drop, Some, None, ap}
use Rattle.std.specs.Prelude.{slice_get, option_map}
use Rattle.std.specs.Option.{option_or}
use Rattle.std.specs.List.{position_from}
use Rattle.elf_loader.specs.ProgramHeader.{segments_meet}
use Rattle.elf_loader.specs.ElfFile.{first_meeting}
use Rattle.elf_loader.specs.declared.header.ProgramHeader.{ProgramHeader}
use Rattle.elf_loader.proofs.Texts.{drop-got}

module _ (hs : List ProgramHeader) (i : ℕ) (h : ProgramHeader) (got : slice_get hs i ≡ Some h) where
  pub meeting-here : (j : ℕ) → position_from (segments_meet h) (i + 1) (drop (i + 1) hs) ≡ Some j
      → first_meeting i (drop i hs) ≡ Some (i, j)
  meeting-here j found =
      ap (first_meeting i) (drop-got hs i h got)
      ∙ ap (λ o. option_or (option_map (λ (k : ℕ). (i, k)) o) (first_meeting (i + 1) (drop (i + 1) hs))) found

  pub meeting-next : position_from (segments_meet h) (i + 1) (drop (i + 1) hs) ≡ None
      → first_meeting i (drop i hs) ≡ first_meeting (i + 1) (drop (i + 1) hs)
  meeting-next none =
      ap (first_meeting i) (drop-got hs i h got)
      ∙ ap (λ o. option_or (option_map (λ (k : ℕ). (i, k)) o) (first_meeting (i + 1) (drop (i + 1) hs))) none
