-- How many transactions are taken exactly, over one call after another.
use Rattle.std.proofs.Common.{◌≡◌, ℕ, zero, suc, ◌+◌, ◌-◌, ◌<◌, ◌≤◌, Option, Some, None, refl, sym, ap, subst, ◌∙◌, arith}
use Rattle.chunk_memory.proofs.TurnLemmas.{turns-step}
use Rattle.chunk_memory.specs.Ports.{ArePortSizes, Counts, IfExact, PortTakes, MemTakes, of_port}
use Rattle.chunk_memory.specs.Transactions.{step_size}
use Rattle.chunk_memory.specs.Turns.{range_turns}
use Rattle.chunk_memory.specs.declared.stops.PortStop.{PortStop}
use Rattle.chunk_memory.specs.declared.stops.PortStop.TheVariants.{Spent as PortSpent, WireFault as PortFault, CmdErr as PortError}
use Rattle.chunk_memory.specs.declared.stops.MemStop.TheVariants.{Unmapped}

-- what holds of each function that is the exact one
pub exact-by : (exact : Option (ℕ → ℕ)) (R : (ℕ → ℕ) → Type 0) → ((turns : ℕ → ℕ) → exact ≡ Some turns → R turns) → IfExact exact R
exact-by (Some turns) R so = so turns refl
exact-by None R so = tt

pub exact-at : (exact : Option (ℕ → ℕ)) (R : (ℕ → ℕ) → Type 0) (turns : ℕ → ℕ) → exact ≡ Some turns → IfExact exact R → R turns
exact-at (Some other) R turns is given = let same : other ≡ turns = cc in subst (λ (t : ℕ → ℕ). R t) same given
exact-at None R turns is given = absurd (cc)

pub exact-as : (exact : Option (ℕ → ℕ)) (R Q : (ℕ → ℕ) → Type 0) → ((turns : ℕ → ℕ) → R turns → Q turns) → IfExact exact R → IfExact exact Q
exact-as (Some turns) R Q so given = so turns given
exact-as None R Q so given = tt

pub exact-then : (exact : Option (ℕ → ℕ)) (R Q T : (ℕ → ℕ) → Type 0) → ((turns : ℕ → ℕ) → R turns → Q turns → T turns) → IfExact exact R → IfExact exact Q → IfExact exact T
exact-then (Some turns) R Q T so one two = so turns one two
exact-then None R Q T so one two = tt

-- the same number, from the same counts
pub takes-as : (exact : Option (ℕ → ℕ)) (n m : (ℕ → ℕ) → ℕ) (before other now : Counts) (stop : Option PortStop) → ((turns : ℕ → ℕ) → n turns ≡ m turns) → other ≡ before
    → IfExact exact (λ (turns : ℕ → ℕ). PortTakes (n turns) before now stop) → IfExact exact (λ (turns : ℕ → ℕ). PortTakes (m turns) other now stop)
takes-as (Some turns) n m before other now stop number same given =
    subst (λ (k : ℕ). PortTakes k other now stop) (number turns) (subst (λ (c : Counts). PortTakes (n turns) c now stop) (sym same) given)
takes-as None n m before other now stop number same given = tt

-- a refused call takes no more than more
pub takes-less : (n m : ℕ) (before now : Counts) (stop : PortStop) → n ≤ m → PortTakes n before now (Some stop) → PortTakes m before now (Some stop)
takes-less n m before now stop less here = record { made = λ e. absurd (cc); most = omega (arith, here.most); spent = λ e. omega (arith, here.spent e) }

-- a call behind one that was made
pub takes-then : (n m : ℕ) (first middle last : Counts) (stop : Option PortStop) → PortTakes n first middle None → PortTakes m middle last stop → PortTakes (n + m) first last stop
takes-then n m first middle last stop one two = record {
  made = λ e. omega (arith, one.made refl, two.made e);
  most = omega (arith, one.made refl, two.most);
  spent = λ e. omega (arith, one.made refl, two.spent e);
}

-- what a port takes, memory over it takes
pub takes-done : (n : ℕ) (before now : Counts) → PortTakes n before now None → MemTakes n before now None
takes-done n before now here = record { made = λ e. here.made refl; most = here.most; spent = λ e. absurd (cc) }

pub takes-stop : (n : ℕ) (before now : Counts) (stop : PortStop) → PortTakes n before now (Some stop) → MemTakes n before now (Some (of_port stop))
takes-stop n before now PortSpent here = record { made = λ e. absurd (cc); most = here.most; spent = λ e. here.spent refl }
takes-stop n before now PortFault here = record { made = λ e. absurd (cc); most = here.most; spent = λ e. absurd (cc) }
takes-stop n before now (PortError number) here = record { made = λ e. absurd (cc); most = here.most; spent = λ e. absurd (cc) }

-- an unmapped range takes none
pub takes-unmapped : (n : ℕ) (counts : Counts) (place : ℕ) → MemTakes n counts counts (Some (Unmapped place))
takes-unmapped n counts place = record { made = λ e. absurd (cc); most = omega arith; spent = λ e. absurd (cc) }

-- ---- the steps of a range
module _ (step : ℕ → ℕ → ℕ) (unit most : ℕ) where
  none-left : (at count : ℕ) → count ≡ 0 → range_turns step unit most count at count ≡ 0
  none-left at zero e = refl
  none-left at (suc count) e = absurd (omega arith)

  -- what the rest takes, behind what was taken so far
  abbrev pub TakenSoFar : ℕ → ℕ → ℕ → ℕ → ℕ → Type 0
  TakenSoFar at count done first now =
      first + range_turns step unit most (count - done) (at + done) (count - done) ≡ now + range_turns step unit most count at count

  -- all of it
  pub taken-end : (at count done : ℕ) (first now : Counts) → count ≤ done → TakenSoFar at count done first.left now.left → PortTakes (range_turns step unit most count at count) first now None
  taken-end at count done first now past so_far =
      let none = none-left (at + done) (count - done) (omega arith) in
      record { made = λ e. omega (arith, so_far, none); most = omega (arith, so_far, none); spent = λ e. absurd (cc) }

  module _ (sizes : ArePortSizes unit most) where
    -- one step more
    pub taken-on : (at count done size given first now later : ℕ) → done < count → given ≡ count - done → size ≡ step_size unit most (at + done) given → size ≤ given
        → TakenSoFar at count done first now → now ≡ later + step (at + done) given → TakenSoFar at count (done + size) first later
    taken-on at count done size given first now later less given_is size_is within so_far here =
        let k : ℕ = step_size unit most (at + done) (count - done) in
        let all = turns-step step unit most sizes (at + done) (count - done) (omega arith) in
        let k_is : k ≡ size = ap (λ (n : ℕ). step_size unit most (at + done) n) (sym given_is) ∙ sym size_is in
        let cost : step (at + done) given ≡ step (at + done) (count - done) = ap (λ (n : ℕ). step (at + done) n) given_is in
        let rest : range_turns step unit most (count - done - k) (at + done + k) (count - done - k) ≡ range_turns step unit most (count - done - size) (at + done + size) (count - done - size) =
        ap (λ (j : ℕ). range_turns step unit most (count - done - j) (at + done + j) (count - done - j)) k_is in
        let place : at + done + size ≡ at + (done + size) = omega arith in
        let left : count - done - size ≡ count - (done + size) = omega arith in
        let next : range_turns step unit most (count - done - size) (at + done + size) (count - done - size) ≡ range_turns step unit most (count - (done + size)) (at + (done + size)) (count - (done + size)) =
        ap (λ (a : ℕ). range_turns step unit most (count - done - size) a (count - done - size)) place
        ∙ ap (λ (n : ℕ). range_turns step unit most n (at + (done + size)) n) left in
        omega (arith, so_far, here, all, cost, rest, next)

    -- a step that was refused
    pub taken-off : (at count done given : ℕ) (first now later : Counts) (stop : PortStop) → done < count → given ≡ count - done
        → TakenSoFar at count done first.left now.left → PortTakes (step (at + done) given) now later (Some stop) → PortTakes (range_turns step unit most count at count) first later (Some stop)
    taken-off at count done given first now later stop less given_is so_far here =
        let all = turns-step step unit most sizes (at + done) (count - done) (omega arith) in
        let cost : step (at + done) given ≡ step (at + done) (count - done) = ap (λ (n : ℕ). step (at + done) n) given_is in
        record {
          made = λ e. absurd (cc);
          most = omega (arith, so_far, all, cost, here.most);
          spent = λ e. omega (arith, so_far, all, cost, here.spent e);
        }
