-- A text that was followed on memory alone was followed beside any folder, input and console, which it left.
use Rattle.std.proofs.Common.{◌≡◌, ℕ, List, Result, Ok, Err, refl, sym, ap, ◌∙◌}
use Rattle.chunk_memory.specs.declared.port.ChunkPort as port
use Rattle.fe_base.specs.declared.outside.Source as source
use Rattle.fe_base.specs.declared.outside.Sink as sink
use Rattle.folder_tree.specs.declared.folder.Folder as folder
use Rattle.host_text.specs.Text.{Text}
use Rattle.host_text.specs.Played.{Acts, At, at, Played, ended, failed, has_read, read_stopped, has_written, write_stopped, has_taken, take_stopped, has_put, put_stopped, has_asked, ask_stopped, noted, looked}
use Rattle.host_text.specs.Outside.{acts}
use Rattle.htif_mailbox.specs.Alone.{memory_alone}

module _ {P F I C : Type 0} (p : port.Ghosts P) (f : folder.Ghosts F) (i : source.Ghosts I) (c : sink.Ghosts C) (files : F) (input : I) (console : C) where
  -- the same place, with these beside it
  abbrev beside : {H : Type 0} → At P Unit Unit Unit H → At P F I C H
  beside s = at s.port files input console s.kept

  pub alone-beside : {H A E : Type 0} {t : Text H A E} {s s' : At P Unit Unit Unit H} {r : Result A E}
      → Played (memory_alone p) t s r s' → Played (acts p f i c) t (beside s) r (beside s')
  alone-beside (ended h same) = ended h (ap beside same)
  alone-beside (failed h same) = failed h (ap beside same)
  alone-beside (has_read d l) = has_read d (alone-beside l)
  alone-beside (read_stopped d h same) = read_stopped d h (ap beside same)
  alone-beside (has_written d l) = has_written d (alone-beside l)
  alone-beside (write_stopped d h same) = write_stopped d h (ap beside same)
  alone-beside (has_taken d l) = absurd d
  alone-beside (take_stopped d h same) = absurd d
  alone-beside (has_put d l) = absurd d
  alone-beside (put_stopped d h same) = absurd d
  alone-beside (has_asked d l) = absurd d
  alone-beside (ask_stopped d h same) = absurd d
  alone-beside (noted h l) = noted h (alone-beside l)
  alone-beside (looked l) = looked (alone-beside l)
