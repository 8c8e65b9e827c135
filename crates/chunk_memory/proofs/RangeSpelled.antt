-- The accesses of a range, from what its chunks did.
use Rattle.std.proofs.Common.{◌≡◌, ℕ, ◌<◌, List, [], ◌∷◌, ◌++◌, length, append_assoc, sym, ap, subst, ◌∙◌}
use Rattle.std.specs.Prelude.{Err}
use Rattle.fe_base.specs.Access.{Access}
use Rattle.chunk_memory.proofs.ReadSpelled.{ReadBegun, read-made, read-begun}
use Rattle.chunk_memory.proofs.WordLemmas.{AreSmall}
use Rattle.chunk_memory.proofs.WriteSpelled.{WriteBegun, write-made, write-begun}
use Rattle.chunk_memory.specs.Ports.{ArePortSizes, of_port}
use Rattle.chunk_memory.specs.Ranges.{IsMappedRange}
use Rattle.chunk_memory.specs.Reached.{OneReaches, RefusedReaches}
use Rattle.chunk_memory.specs.Spelling.{ReadWhole, ReadUntil, ReadSpelled, WriteWhole, WriteUntil, WriteSpelled}
use Rattle.chunk_memory.specs.Transactions.{Chunk, ReadChunks, WriteChunks, WasRead, WasReadUntil, WasWritten, WasWrittenUntil}
use Rattle.chunk_memory.specs.declared.stops.PortStop.{PortStop}
use Rattle.chunk_memory.specs.declared.stops.PortStop.TheVariants.{Spent, WireFault, CmdErr}

module _ (unit most : ℕ) (sizes : ArePortSizes unit most) {S V : Type 0} (view : S → V) (stands : S → V → Type 0) (valid ready positive : S → Type 0) (ran : V → ℕ → V → Type 0) (reached : V → List Access → V → Type 0)
    (one : S → Chunk → S → Type 0) (refused : S → Chunk → PortStop → S → Type 0)
    (reached_none : (v : V) → reached v [] v) (reached_then : (u v w : V) (xs ys : List Access) → reached u xs v → reached v ys w → reached u (xs ++ ys) w)
    (one_reaches : OneReaches unit most view valid ready positive ran reached one) (refused_reaches : RefusedReaches unit most view stands valid ready reached refused) where
  pub read-spelled : (at count : ℕ) (bytes : List ℕ) (a b : S) → valid a → ready a → IsMappedRange at count → WasRead one refused unit most at count bytes a b → ReadWhole view stands ready positive ran reached unit at count bytes a b
  read-spelled at count bytes a b ok now mapped w =
      let made = read-made unit most sizes view stands valid ready positive ran reached one refused reached_none reached_then one_reaches refused_reaches w.chunks at bytes a b ok now (subst (λ (n : ℕ). IsMappedRange at n) (sym w.size) mapped) w.are_its w.made in
      record {
        size = w.size;
        accesses = made.accesses;
        spell = made.spell;
        is_one = λ even eight. made.is_one even (w.size ∙ eight);
        path = made.path;
        behind_a_step = λ pos some. made.behind_a_step pos (subst (λ (n : ℕ). 0 < n) (sym w.size) some);
        still = made.still_ready;
      }

  pub write-spelled : (at : ℕ) (bytes : List ℕ) (a b : S) → valid a → ready a → IsMappedRange at (length bytes) → WasWritten one refused unit most at bytes a b → WriteWhole view stands ready positive ran reached unit at bytes a b
  write-spelled at bytes a b ok now mapped w =
      let made = write-made unit most sizes view stands valid ready positive ran reached one refused reached_none reached_then one_reaches refused_reaches w.chunks at bytes a b ok now mapped w.are_its w.made in
      record { accesses = made.accesses; spell = made.spell; is_one = made.is_one; path = made.path; behind_a_step = made.behind_a_step; still = made.still_ready }

  read-cut : (at count : ℕ) (stop : PortStop) (a b : S) → valid a → ready a → IsMappedRange at count → (w : WasReadUntil one refused unit most at count stop a b) → ReadBegun unit most sizes view stands valid ready positive ran reached one refused reached_none reached_then one_reaches refused_reaches at (length w.bytes) stop a b
  read-cut at count stop a b ok now mapped w =
      let cut = w.made in
      let chunks : w.chunks ++ w.more ≡ cut.done ++ cut.last ∷ w.more = ap (λ (l : List Chunk). l ++ w.more) cut.all ∙ append_assoc cut.done (cut.last ∷ []) w.more in
      read-begun unit most sizes view stands valid ready positive ran reached one refused reached_none reached_then one_reaches refused_reaches cut.done cut.last w.more at w.bytes stop a cut.between b ok now
      (subst (λ (n : ℕ). IsMappedRange at n) (sym w.size) mapped) (subst (λ (l : List Chunk). ReadChunks unit most at w.bytes l) chunks w.are_its) cut.made cut.cut

  write-cut : (at : ℕ) (bytes : List ℕ) (stop : PortStop) (a b : S) → AreSmall bytes → valid a → ready a → IsMappedRange at (length bytes) → WasWrittenUntil one refused unit most at bytes stop a b
      → WriteBegun unit most sizes view stands valid ready positive ran reached one refused reached_none reached_then one_reaches refused_reaches at bytes stop a b
  write-cut at bytes stop a b small ok now mapped w =
      let cut = w.made in
      let chunks : w.chunks ++ w.more ≡ cut.done ++ cut.last ∷ w.more = ap (λ (l : List Chunk). l ++ w.more) cut.all ∙ append_assoc cut.done (cut.last ∷ []) w.more in
      write-begun unit most sizes view stands valid ready positive ran reached one refused reached_none reached_then one_reaches refused_reaches cut.done cut.last w.more at bytes stop a cut.between b small ok now mapped
      (subst (λ (l : List Chunk). WriteChunks unit most at bytes l) chunks w.are_its) cut.made cut.cut

  read-part : (at count : ℕ) (stop : PortStop) (a b : S) → valid a → ready a → IsMappedRange at count → WasReadUntil one refused unit most at count stop a b → ReadUntil view stands ready positive ran reached unit at count a b
  read-part at count stop a b ok now mapped w =
      let begun = read-cut at count stop a b ok now mapped w in
      record {
        bytes = begun.bytes;
        size = begun.size ∙ w.size;
        accesses = begun.accesses;
        more = begun.more;
        spell = begun.spell;
        is_one = λ even eight. begun.is_one even (w.size ∙ eight);
        last = begun.last;
        path = begun.path;
        stands_so = begun.stands_so;
      }

  write-part : (at : ℕ) (bytes : List ℕ) (stop : PortStop) (a b : S) → AreSmall bytes → valid a → ready a → IsMappedRange at (length bytes) → WasWrittenUntil one refused unit most at bytes stop a b → WriteUntil view stands ready positive ran reached unit at bytes a b
  write-part at bytes stop a b small ok now mapped w =
      let begun = write-cut at bytes stop a b small ok now mapped w in
      record { accesses = begun.accesses; more = begun.more; spell = begun.spell; is_one = begun.is_one; last = begun.last; path = begun.path; stands_so = begun.stands_so }

  pub read-refused-spelled : (at count : ℕ) (stop : PortStop) (a b : S) → valid a → ready a → IsMappedRange at count → WasReadUntil one refused unit most at count stop a b → ReadSpelled view stands ready positive ran reached unit at count (Err (of_port stop)) a b
  read-refused-spelled at count Spent a b ok now mapped w = read-part at count Spent a b ok now mapped w
  read-refused-spelled at count WireFault a b ok now mapped w = read-part at count WireFault a b ok now mapped w
  read-refused-spelled at count (CmdErr number) a b ok now mapped w = (read-cut at count (CmdErr number) a b ok now mapped w).no_command

  pub write-refused-spelled : (at : ℕ) (bytes : List ℕ) (stop : PortStop) (a b : S) → AreSmall bytes → valid a → ready a → IsMappedRange at (length bytes) → WasWrittenUntil one refused unit most at bytes stop a b → WriteSpelled view stands ready positive ran reached unit at bytes (Err (of_port stop)) a b
  write-refused-spelled at bytes Spent a b small ok now mapped w = write-part at bytes Spent a b small ok now mapped w
  write-refused-spelled at bytes WireFault a b small ok now mapped w = write-part at bytes WireFault a b small ok now mapped w
  write-refused-spelled at bytes (CmdErr number) a b small ok now mapped w = (write-cut at bytes (CmdErr number) a b small ok now mapped w).no_command
