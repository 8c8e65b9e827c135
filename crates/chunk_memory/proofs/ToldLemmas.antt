-- What is told and what is counted, over one call after another.
use Rattle.std.proofs.Common.{◌≡◌, ℕ, ◌≤◌, Option, Some, None, refl, ap, subst, ◌∙◌, arith}
use Rattle.fe_base.specs.Outside.{Rose}
use Rattle.fe_base.specs.Wires.{OnTold, IfTold}
use Rattle.chunk_memory.specs.Ports.{Counts, PortCauses, MemCauses, StaysUnfaulted, MemUnfaulted, of_port}
use Rattle.chunk_memory.specs.declared.stops.PortStop.{PortStop}
use Rattle.chunk_memory.specs.declared.stops.PortStop.TheVariants.{Spent as PortSpent, WireFault as PortFault, CmdErr as PortError}
use Rattle.chunk_memory.specs.declared.stops.MemStop.TheVariants.{Unmapped}

module _ {S : Type 0} where
  pub told-as : (before after : Option S) (R Q : S → S → Type 0) → ((a b : S) → R a b → Q a b) → OnTold before after R → OnTold before after Q
  told-as (Some a) (Some b) R Q so told = so a b told
  told-as (Some a) None R Q so told = absurd told
  told-as None (Some b) R Q so told = absurd told
  told-as None None R Q so told = tt

  pub told-same : (before : Option S) (R : S → S → Type 0) → ((a : S) → R a a) → OnTold before before R
  told-same (Some a) R so = so a
  told-same None R so = tt

  pub told-then : (first middle last : Option S) (R Q T : S → S → Type 0) → ((a b c : S) → R a b → Q b c → T a c) → OnTold first middle R → OnTold middle last Q → OnTold first last T
  told-then (Some a) (Some b) (Some c) R Q T so one two = so a b c one two
  told-then (Some a) (Some b) None R Q T so one two = absurd two
  told-then (Some a) None last R Q T so one two = absurd one
  told-then None (Some b) last R Q T so one two = absurd one
  told-then None None (Some c) R Q T so one two = absurd two
  told-then None None None R Q T so one two = tt

  -- of a state that is valid before
  pub told-valid : (before after : Option S) (V : S → Type 0) (R Q : S → S → Type 0) → IfTold before V → ((a b : S) → V a → R a b → Q a b) → OnTold before after R → OnTold before after Q
  told-valid (Some a) (Some b) V R Q ok so told = so a b ok told
  told-valid (Some a) None V R Q ok so told = absurd told
  told-valid None (Some b) V R Q ok so told = absurd told
  told-valid None None V R Q ok so told = tt

  -- what is told after, where it was told before
  pub record ToldNext (after : Option S) (R : S → Type 0) : Type 0 where
    pub state : S
    pub is : after ≡ Some state
    pub holds : R state

  pub told-next : (before after : Option S) (R : S → S → Type 0) (a : S) → before ≡ Some a → OnTold before after R → ToldNext after (λ b. R a b)
  told-next (Some x) (Some y) R a e told = let same : x ≡ a = cc in record { state = y; is = refl; holds = subst (λ (s : S). R s y) same told }
  told-next (Some x) None R a e told = absurd told
  told-next None after R a e told = absurd (cc)

  pub if-told : (before : Option S) (V : S → Type 0) (a : S) → before ≡ Some a → IfTold before V → V a
  if-told (Some x) V a e v = let same : x ≡ a = cc in subst (λ (s : S). V s) same v
  if-told None V a e v = absurd (cc)

-- no call moves no count
pub no-causes : (counts : Counts) → PortCauses counts counts None
no-causes counts = record { fewer = omega arith; later = omega arith; higher = λ number. omega arith; spent = λ e. absurd (cc); failed = λ e. absurd (cc); command = λ number e. absurd (cc) }

rose-later : (a b c : ℕ) → a ≤ b → Rose b c → Rose a c
rose-later a b c less rose = omega arith

-- a call behind one that was not refused
pub causes-then : (first middle last : Counts) (stop : Option PortStop) → PortCauses first middle None → PortCauses middle last stop → PortCauses first last stop
causes-then first middle last stop one two = record {
  fewer = omega (arith, one.fewer, two.fewer);
  later = omega (arith, one.later, two.later);
  higher = λ number. omega (arith, one.higher number, two.higher number);
  spent = two.spent;
  failed = λ e. rose-later first.faults middle.faults last.faults one.later (two.failed e);
  command = λ number e. rose-later (first.raised number) (middle.raised number) (last.raised number) (one.higher number) (two.command number e);
}

-- a port's causes are those of memory over it
pub causes-done : (before now : Counts) → PortCauses before now None → MemCauses before now None
causes-done before now c = record { fewer = c.fewer; later = c.later; higher = c.higher; spent = λ e. absurd (cc); failed = λ e. absurd (cc); command = λ number e. absurd (cc) }

pub causes-stop : (before now : Counts) (stop : PortStop) → PortCauses before now (Some stop) → MemCauses before now (Some (of_port stop))
causes-stop before now PortSpent c = record { fewer = c.fewer; later = c.later; higher = c.higher; spent = λ e. c.spent refl; failed = λ e. absurd (cc); command = λ number e. absurd (cc) }
causes-stop before now PortFault c = record { fewer = c.fewer; later = c.later; higher = c.higher; spent = λ e. absurd (cc); failed = λ e. c.failed refl; command = λ number e. absurd (cc) }
causes-stop before now (PortError number) c = record {
  fewer = c.fewer;
  later = c.later;
  higher = c.higher;
  spent = λ e. absurd (cc);
  failed = λ e. absurd (cc);
  command = λ other e. c.command other (let same : ◌≡◌ {A = ℕ} number other = cc in ap (λ (n : ℕ). Some (PortError n)) same);
}

-- an unmapped range leaves the counts
pub causes-unmapped : (counts : Counts) (place : ℕ) → MemCauses counts counts (Some (Unmapped place))
causes-unmapped counts place = record { fewer = omega arith; later = omega arith; higher = λ number. omega arith; spent = λ e. absurd (cc); failed = λ e. absurd (cc); command = λ number e. absurd (cc) }

-- a steady call behind a steady one
pub steady-then : (first middle last : Counts) (stop : Option PortStop) (A B C : Type 0) → (A → StaysUnfaulted first middle None B) → (B → StaysUnfaulted middle last stop C) → A → StaysUnfaulted first last stop C
steady-then first middle last stop A B C one two a =
    let x = one a in
    let y = two x.steady in
    record { unfaulted = y.unfaulted; same = y.same ∙ x.same; steady = y.steady }

-- a steady port makes a steady memory
pub steady-done : (before now : Counts) (A : Type 0) → StaysUnfaulted before now None A → MemUnfaulted before now None A
steady-done before now A s = record { unfaulted = λ e. absurd (cc); same = s.same; steady = s.steady }

pub steady-stop : (before now : Counts) (stop : PortStop) (A : Type 0) → StaysUnfaulted before now (Some stop) A → MemUnfaulted before now (Some (of_port stop)) A
steady-stop before now PortSpent A s = record { unfaulted = λ e. absurd (cc); same = s.same; steady = s.steady }
steady-stop before now PortFault A s = absurd (s.unfaulted refl)
steady-stop before now (PortError number) A s = record { unfaulted = λ e. absurd (cc); same = s.same; steady = s.steady }
