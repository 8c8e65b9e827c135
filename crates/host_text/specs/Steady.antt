-- Over a steady folder that tells its tree, a text that leads to a good end meets no failure of the folder.
use Rattle.std.specs.Prelude.{◌≡◌, ℕ, Bool, List, Option, Some, None, IsSome, IsErrOf, Result, Ok, Err, refl}
use Rattle.std.proofs.Common.{sym, subst, ap, ◌∙◌}
use Rattle.chunk_memory.specs.declared.port.ChunkPort as port
use Rattle.fe_base.specs.declared.outside.Source as source
use Rattle.fe_base.specs.declared.outside.Sink as sink
use Rattle.folder_tree.specs.Tree.{Tree}
use Rattle.folder_tree.specs.TreeOps.{After, Row}
use Rattle.folder_tree.specs.Answers.{Suits, StaysSteady}
use Rattle.folder_tree.specs.declared.folder.FolderStop.{FolderStop}
use Rattle.folder_tree.specs.declared.folder.FolderStop.TheVariants.{Failed as Broken}
use Rattle.folder_tree.specs.declared.folder.Folder as folder
use Rattle.host_text.specs.Text.{Query, Reply, row_of, Text, Done, Fail, Read, Write, Take, Put, Ask, Note, Look}
use Rattle.host_text.specs.Played.{Acts, At, Played, ended, failed, has_read, read_stopped, has_written, write_stopped}
use Rattle.host_text.specs.Played.{has_taken, take_stopped, has_put, put_stopped, has_asked, ask_stopped, noted, looked}
use Rattle.host_text.specs.Outside.{HasRead, HasWritten, HasCalled, HasTaken, HasPut, acts}
use Rattle.host_text.specs.RunLaws.{some-same}
use Rattle.host_text.specs.Leads.{Leads}

is-some : {X : Type 0} (o : Option X) (x : X) → o ≡ Some x → IsSome o
is-some o x e = subst (λ z. IsSome z) (sym e) refl

-- what a suiting call of a steady folder says
suited : {F : Type 0} (f : folder.Ghosts F) (q : Query) (x x' : F) (r : Result (Reply q) FolderStop) (t : Tree)
    (after : After (Reply q)) → f.tree x ≡ Some t → row_of q t ≡ Some after → f.steady x → HasCalled f x x' q r
    → StaysSteady (f.faults x) (f.faults x') r (f.steady x')
suited f q x x' r t after told row h d =
    let Q : Option Tree → Type 0 = λ o. Suits o (row_of q) in
    d.steady h (subst Q (sym told) (is-some (row_of q t) after row))

module _ {P F I C : Type 0} (p : port.Ghosts P) (f : folder.Ghosts F) (i : source.Ghosts I) (c : sink.Ghosts C) where
  -- a call of the folder that does not fail, and leaves it steady
  pub record HasCalmly (q : Query) (x x' : F) (r : Result (Reply q) FolderStop) : Type 0 where
    pub called : HasCalled f x x' q r
    pub not_failed : IsErrOf r Broken → ⊥
    pub same : f.faults x' ≡ f.faults x
    pub steady : f.steady x'

  -- the acts of these objects, where the folder's calls do not fail
  abbrev pub calm_acts : Acts P F I C
  calm_acts = record {
    read = λ x place count r x'. HasRead p x x' place count r;
    write = λ x place bytes r x'. HasWritten p x x' place bytes r;
    ask = λ q x r x'. HasCalmly q x x' r;
    take = λ x count r x'. HasTaken i x x' count r;
    put = λ x bytes r x'. HasPut c x x' bytes r;
  }

  -- over a steady folder, a text that leads to a good end is followed without a failure of the folder, whatever becomes
  -- of it
  pub calm-played : {H A E : Type 0}
      (good : A → Tree → H → Type 0) {t : Text H A E} {s s' : At P F I C H} {r : Result A E} (tree : Tree)
      → f.tree s.folder ≡ Some tree → f.steady s.folder → Leads good t tree s.kept
      → Played (acts p f i c) t s r s' → Played calm_acts t s r s'
  calm-played good tree told h leads (ended e same) = ended e same
  calm-played good tree told h leads (failed e same) = failed e same
  calm-played good tree told h leads (has_read {bytes = bytes} d next) =
      has_read d (calm-played good tree told h (leads bytes d.bytes) next)
  calm-played good tree told h leads (read_stopped d e same) = read_stopped d e same
  calm-played good tree told h leads (has_written d next) = has_written d (calm-played good tree told h leads next)
  calm-played good tree told h leads (write_stopped d e same) = write_stopped d e same
  calm-played good tree told h leads (has_taken {bytes = bytes} d next) =
      has_taken d (calm-played good tree told h (leads bytes d.bound) next)
  calm-played good tree told h leads (take_stopped d e same) = take_stopped d e same
  calm-played good tree told h leads (has_put d next) = has_put d (calm-played good tree told h leads next)
  calm-played good tree told h leads (put_stopped d e same) = put_stopped d e same
  calm-played good tree told h leads (has_asked {q = q} {k = k} {s = s} {s' = s'} {f = x} {reply = reply} d next) =
      let a = d.tree tree told in
      let one = suited f q s.folder x (Ok reply) tree leads.0 told leads.1 h d in
      let same : record { answer = reply; tree = a.0 } ≡ leads.0 = some-same (sym a.1 ∙ leads.1) in
      let here : Leads good (k reply) a.0 s.kept = let Q : After (Reply q) → Type 0 =
      λ z. Leads good (k z.answer) z.tree s.kept in subst Q (sym same) leads.2 in
      has_asked (record { called = d; not_failed = one.not_failed; same = one.same; steady = one.steady })
      (calm-played good a.0 a.2 one.steady here next)
  calm-played good tree told h leads (ask_stopped {q = q} {s = s} {s' = s'} {f = x} {why = why} d e same) =
      let one = suited f q s.folder x (Err why) tree leads.0 told leads.1 h d in
      ask_stopped (record { called = d; not_failed = one.not_failed; same = one.same; steady = one.steady }) e same
  calm-played {H = H} good tree told h leads (noted {k = k} {s = s} n next) = let Q : H → Type 0 =
      λ z. Leads good k tree z in noted n (calm-played good tree told h (subst Q (sym n) leads) next)
  calm-played good tree told h leads (looked {s = s} next) = looked (calm-played good tree told h leads next)
