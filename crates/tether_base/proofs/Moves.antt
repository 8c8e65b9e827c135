-- Beats that are asked of a line one after the other, each by the replies to those before it: they lead to one end, and
-- a number of them leads to one state.
use Rattle.std.proofs.Common.{◌≡◌, ◌⊎◌, ◌≤◌, ◌<◌, ◌+◌, ℕ, zero, suc, inl, inr, List, [], ◌∷◌, ◌++◌, length}
use Rattle.std.proofs.Common.{refl, sym, ap, subst, ◌∙◌, arith}
use Rattle.chunk_memory.specs.BeatChunks.{BeatsRead, BeatsWritten}
use Rattle.fe_base.specs.Beats.{Beat, ReadBeat, WriteBeat}
use Rattle.target_box.specs.Lined.{Lined, next_line}

-- what is asked, and what it gives in the end
pub data Moves (R : Type 0) : Type 0 where
  Gives : R → Moves R
  Asks : Beat → (ℕ → Moves R) → Moves R

-- where they lead
abbrev pub end_of : {R : Type 0} → Moves R → Lined → R × Lined
end_of (Gives r) line = (r, line)
end_of (Asks ask more) line = end_of (more (next_line line ask).1) (next_line line ask).0

-- some of them were made, and the next one was not
abbrev pub Stops : {R : Type 0} → Moves R → Lined → Lined → Type 0
Stops (Gives r) line now = ⊥
Stops (Asks ask more) line now =
    (now ≡ line) ⊎ Stops (more (next_line line ask).1) (next_line line ask).0 now

module _ {R : Type 0} where
  -- each is one turn more, under the same limit
  pub end-later : (p : Moves R) (line : Lined) → line.target.turns ≤ (end_of p line).1.target.turns
  end-later (Gives r) line = omega arith
  end-later (Asks ask more) line =
      let rest = end-later (more (next_line line ask).1) (next_line line ask).0 in
      let one : (next_line line ask).0.target.turns ≡ line.target.turns + 1 = refl in
      omega (arith, rest, one)

  pub end-limit : (p : Moves R) (line : Lined) → (end_of p line).1.target.limit ≡ line.target.limit
  end-limit (Gives r) line = refl
  end-limit (Asks ask more) line = end-limit (more (next_line line ask).1) (next_line line ask).0

  pub stop-later : (p : Moves R) (line now : Lined) → Stops p line now → line.target.turns ≤ now.target.turns
  stop-later (Gives r) line now s = absurd s
  stop-later (Asks ask more) line now (inl same) =
      let here : now.target.turns ≡ line.target.turns = ap (λ (l : Lined). l.target.turns) same in
      omega (arith, here)
  stop-later (Asks ask more) line now (inr s) =
      let rest = stop-later (more (next_line line ask).1) (next_line line ask).0 now s in
      let one : (next_line line ask).0.target.turns ≡ line.target.turns + 1 = refl in
      omega (arith, rest, one)

  pub stop-limit : (p : Moves R) (line now : Lined) → Stops p line now → now.target.limit ≡ line.target.limit
  stop-limit (Gives r) line now s = absurd s
  stop-limit (Asks ask more) line now (inl same) = ap (λ (l : Lined). l.target.limit) same
  stop-limit (Asks ask more) line now (inr s) =
      stop-limit (more (next_line line ask).1) (next_line line ask).0 now s

  -- fewer than all of them were made
  pub stop-before : (p : Moves R) (line now : Lined) → Stops p line now
      → now.target.turns < (end_of p line).1.target.turns
  stop-before (Gives r) line now s = absurd s
  stop-before (Asks ask more) line now (inl same) =
      let here : now.target.turns ≡ line.target.turns = ap (λ (l : Lined). l.target.turns) same in
      let rest = end-later (more (next_line line ask).1) (next_line line ask).0 in
      let one : (next_line line ask).0.target.turns ≡ line.target.turns + 1 = refl in
      omega (arith, here, rest, one)
  stop-before (Asks ask more) line now (inr s) =
      stop-before (more (next_line line ask).1) (next_line line ask).0 now s

  -- as many of them lead to one state
  pub stop-once : (p : Moves R) (line now other : Lined) → Stops p line now → Stops p line other
      → now.target.turns ≡ other.target.turns → now ≡ other
  stop-once (Gives r) line now other s t same = absurd s
  stop-once (Asks ask more) line now other (inl a) (inl b) same = a ∙ sym b
  stop-once (Asks ask more) line now other (inl a) (inr t) same =
      let here : now.target.turns ≡ line.target.turns = ap (λ (l : Lined). l.target.turns) a in
      let rest = stop-later (more (next_line line ask).1) (next_line line ask).0 other t in
      let one : (next_line line ask).0.target.turns ≡ line.target.turns + 1 = refl in
      absurd (omega (arith, here, rest, one, same))
  stop-once (Asks ask more) line now other (inr s) (inl b) same =
      let here : other.target.turns ≡ line.target.turns = ap (λ (l : Lined). l.target.turns) b in
      let rest = stop-later (more (next_line line ask).1) (next_line line ask).0 now s in
      let one : (next_line line ask).0.target.turns ≡ line.target.turns + 1 = refl in
      absurd (omega (arith, here, rest, one, same))
  stop-once (Asks ask more) line now other (inr s) (inr t) same =
      stop-once (more (next_line line ask).1) (next_line line ask).0 now other s t same

-- ---- doublewords from an address on
abbrev pub read_then : {R : Type 0} → ℕ → ℕ → (List ℕ → Moves R) → Moves R
read_then zero at k = k []
read_then (suc n) at k = Asks (ReadBeat at) (λ value. read_then n (at + 8) (λ values. k (value ∷ values)))

abbrev pub write_then : {R : Type 0} → List ℕ → ℕ → Moves R → Moves R
write_then [] at k = k
write_then (value ∷ more) at k = Asks (WriteBeat at value) (λ reply. write_then more (at + 8) k)

module _ {R : Type 0} where
  -- they were read
  pub read-ends : (values : List ℕ) (at : ℕ) (k : List ℕ → Moves R) (a b : Lined) → BeatsRead next_line a at values b
      → end_of (read_then (length values) at k) a ≡ end_of (k values) b
  read-ends [] at k a b made = ap (λ (l : Lined). end_of (k []) l) (sym made)
  read-ends (value ∷ more) at k a b made =
      ap (λ (p : Lined × ℕ). end_of (read_then (length more) (at + 8) (λ values. k (p.1 ∷ values))) p.0) made.1
      ∙ read-ends more (at + 8) (λ values. k (value ∷ values)) made.0 b made.2

  pub read-goes-on : (values : List ℕ) (at : ℕ) (k : List ℕ → Moves R) (a m b : Lined)
      → BeatsRead next_line a at values m → Stops (k values) m b → Stops (read_then (length values) at k) a b
  read-goes-on [] at k a m b made s = subst (λ (l : Lined). Stops (k []) l b) made s
  read-goes-on (value ∷ more) at k a m b made s =
      inr (subst (λ (p : Lined × ℕ). Stops (read_then (length more) (at + 8) (λ values. k (p.1 ∷ values))) p.0 b)
      (sym made.1) (read-goes-on more (at + 8) (λ values. k (value ∷ values)) made.0 m b made.2 s))

  -- fewer of them were read
  pub read-stops : (values : List ℕ) (n at : ℕ) (k : List ℕ → Moves R) (a b : Lined) → length values < n
      → BeatsRead next_line a at values b → Stops (read_then n at k) a b
  read-stops values zero at k a b less made = absurd (omega (arith, less))
  read-stops [] (suc n) at k a b less made = inl made
  read-stops (value ∷ more) (suc n) at k a b less made =
      inr (subst (λ (p : Lined × ℕ). Stops (read_then n (at + 8) (λ values. k (p.1 ∷ values))) p.0 b) (sym made.1)
      (read-stops more n (at + 8) (λ values. k (value ∷ values)) made.0 b (omega (arith, less)) made.2))

  -- they were written
  pub write-ends : (values : List ℕ) (at : ℕ) (k : Moves R) (a b : Lined) → BeatsWritten next_line a at values b
      → end_of (write_then values at k) a ≡ end_of k b
  write-ends [] at k a b made = ap (λ (l : Lined). end_of k l) (sym made)
  write-ends (value ∷ more) at k a b made =
      ap (λ (p : Lined × ℕ). end_of (write_then more (at + 8) k) p.0) made.1
      ∙ write-ends more (at + 8) k made.0 b made.2

  pub write-goes-on : (values : List ℕ) (at : ℕ) (k : Moves R) (a m b : Lined) → BeatsWritten next_line a at values m
      → Stops k m b → Stops (write_then values at k) a b
  write-goes-on [] at k a m b made s = subst (λ (l : Lined). Stops k l b) made s
  write-goes-on (value ∷ more) at k a m b made s =
      inr (subst (λ (p : Lined × ℕ). Stops (write_then more (at + 8) k) p.0 b) (sym made.1)
      (write-goes-on more (at + 8) k made.0 m b made.2 s))

  -- the first ones of them were written
  pub write-stops : (values more : List ℕ) (value at : ℕ) (k : Moves R) (a b : Lined)
      → BeatsWritten next_line a at values b → Stops (write_then (values ++ value ∷ more) at k) a b
  write-stops [] more value at k a b made = inl made
  write-stops (first ∷ values) more value at k a b made =
      inr (subst (λ (p : Lined × ℕ). Stops (write_then (values ++ value ∷ more) (at + 8) k) p.0 b) (sym made.1)
      (write-stops values more value (at + 8) k made.0 b made.2))
