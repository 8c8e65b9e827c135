-- Whether a call acted, on each answer, whatever the objects tell.
use Rattle.std.specs.Prelude.{◌≡◌, ◌⊎◌, ⊤, ℕ, Bool, true, false, List, Result, Ok, Err, IfOk}
use Rattle.std.proofs.Common.{refl, sym, ap, ◌∙◌, inl, inr}
use Rattle.chunk_memory.specs.declared.port.ChunkPort as port
use Rattle.fe_base.specs.declared.outside.Sink as sink
use Rattle.fe_base.specs.declared.outside.Source as source
use Rattle.folder_tree.specs.declared.folder.Folder as folder
use Rattle.host_text.specs.Acting.{HasActed, HasNotActed, shaped-acted, shaped-done}
use Rattle.host_text.specs.Outside.{acts}
use Rattle.host_text.specs.Played.{At, Played}
use Rattle.host_text.specs.declared.open_numbers.Open.{Open}
use Rattle.syscall_proxy.specs.CallLaws.{call_row-row}
use Rattle.syscall_proxy.specs.CallTable.{call_row}
use Rattle.syscall_proxy.specs.Kept.{Kept, Setting}
use Rattle.syscall_proxy.specs.RowShapes.{stops, Marks, IsResult}
use Rattle.syscall_proxy.specs.declared.answers.CallAnswer.{CallAnswer}
use Rattle.syscall_proxy.specs.declared.answers.CallFault.{CallFault}

module _ {P F I C : Type 0} (p : port.Ghosts P) (f : folder.Ghosts F) (i : source.Ghosts I) (c : sink.Ghosts C)
    (given : Setting) (numbers : List Open) (request : List ℕ) where
  -- the refused call had not acted: it read ranges of the guest and asked the folder what leaves its files, no take, put
  -- or other call was carried out, nothing was written, and what the host keeps is as it was
  abbrev pub NotActed : At P F I C Kept → Result CallAnswer CallFault → At P F I C Kept → Type 0
  NotActed s r s' = HasNotActed (acts p f i c) (call_row given numbers request) s r s'

  -- the refused call had acted: its row is done up to a result, but for its writes of the guest, of which the port
  -- refused one
  abbrev pub ActedLate : At P F I C Kept → At P F I C Kept → CallFault → Type 0
  ActedLate s s' fault = HasActed (acts p f i c) stops IsResult (call_row given numbers request) s s' fault

  -- a call that is carried out acted
  pub call-acted : {s s' : At P F I C Kept} (r : Result CallAnswer CallFault)
      → Played (acts p f i c) (call_row given numbers request) s r s' → IfOk r (λ answer. s'.kept.acted ≡ true)
  call-acted {s = s} (Ok answer) played =
      let m = shaped-done (acts p f i c) stops Marks IsResult answer refl (call_row-row given numbers request) played in
      ap (λ (k : Kept). k.acted) m.2 ∙ m.1.acted s.kept
  call-acted (Err fault) played = tt

  -- which of the two a refusal is
  pub call-acts : {s s' : At P F I C Kept} {r : Result CallAnswer CallFault} (fault : CallFault) → r ≡ Err fault
      → Played (acts p f i c) (call_row given numbers request) s r s'
      → (NotActed s r s' × (s'.kept.acted ≡ s.kept.acted)) ⊎ (ActedLate s s' fault × (s'.kept.acted ≡ true))
  call-acts {s = s} fault e played =
      elim (shaped-acted (acts p f i c) stops Marks IsResult fault e (call_row-row given numbers request) played) [
        | inl u ↦ inl (u, ap (λ (k : Kept). k.acted) u.kept)
        | inr b ↦ inr (b.0, ap (λ (k : Kept). k.acted) b.1.2 ∙ b.1.1.acted s.kept)
      ]

  both : (b : Bool) → b ≡ true → b ≡ false → ⊥
  both b e d = let no : ⊥ = cc in no

  pub call-not-acted : {s s' : At P F I C Kept} {r : Result CallAnswer CallFault} (fault : CallFault) → r ≡ Err fault
      → s'.kept.acted ≡ false → Played (acts p f i c) (call_row given numbers request) s r s' → NotActed s r s'
  call-not-acted {s' = s'} fault e none played = elim (call-acts fault e played) [
    | inl u ↦ u.0
    | inr b ↦ absurd (both s'.kept.acted b.1 none)
  ]

  pub call-acted-late : {s s' : At P F I C Kept} {r : Result CallAnswer CallFault} (fault : CallFault) → r ≡ Err fault
      → s.kept.acted ≡ false → s'.kept.acted ≡ true
      → Played (acts p f i c) (call_row given numbers request) s r s' → ActedLate s s' fault
  call-acted-late {s' = s'} fault e none late played = elim (call-acts fault e played) [
    | inl u ↦ absurd (both s'.kept.acted late (u.1 ∙ none))
    | inr b ↦ b.0
  ]
