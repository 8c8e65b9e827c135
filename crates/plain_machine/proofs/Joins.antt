-- One step after others, as to what they do to the objects.
use Rattle.std.proofs.Common.{◌≡◌, ◌≤◌, ◌-◌, ℕ, List, Option, None, false, refl, sym, ap, subst, ◌∙◌, arith}
use Rattle.std.proofs.lemmas.Bool.{false≢true}
use Rattle.fe_base.specs.Outside.{Rose}
use Rattle.fe_base.specs.declared.outside.Sink as sink
use Rattle.fe_base.specs.declared.outside.Source as source
use Rattle.folder_tree.specs.Tree.{Tree}
use Rattle.folder_tree.specs.declared.folder.Folder as folder
use Rattle.host_text.specs.declared.open_numbers.Open.{Open}
use Rattle.plain_machine.specs.Asks.{Asked, asks_folder, asks_input, needs_outside, nothing, step_asks, the_console, the_folder, the_input}
use Rattle.plain_machine.specs.Direct.{Machine, DirectState, direct_after}
use Rattle.plain_machine.specs.Outsides.{Outside, Called, InWorld}
use Rattle.plain_machine.specs.Stands.{PlainState, asks, made}
use Rattle.plain_machine.specs.declared.plain.PlainFault.{PlainFault}
use Rattle.plain_machine.proofs.Runs.{StandsAt}

rose-before : (a b now : ℕ) → a ≤ b → Rose b now → Rose a now
rose-before a b now h r = omega arith

module _ {F I C : Type 0} (f : folder.Ghosts F) (i : source.Ghosts I) (c : sink.Ghosts C) where
  pub called-none : (a : Outside F I C) → Called f i c a a None
  called-none a = record {
    file_fault = λ e. cc;
    out_of_memory = λ e. cc;
    input_fault = λ e. cc;
    console_fault = λ e. cc;
    folder_count = omega arith;
    short_count = omega arith;
    input_count = omega arith;
    console_count = omega arith;
    input_calm = λ h e. cc;
    input_steady = λ h. (refl, h);
    console_steady = λ h no. (refl, h);
    console_capacity = refl;
  }

  pub called-then : (a b d : Outside F I C) (fault : Option PlainFault) → Called f i c a b None → Called f i c b d fault → Called f i c a d fault
  called-then a b d fault first second = record {
    file_fault = λ e. rose-before (f.faults a.folder) (f.faults b.folder) (f.faults d.folder) first.folder_count (second.file_fault e);
    out_of_memory = λ e. rose-before (f.short a.folder) (f.short b.folder) (f.short d.folder) first.short_count (second.out_of_memory e);
    input_fault = λ e. rose-before (i.faults a.input) (i.faults b.input) (i.faults d.input) first.input_count (second.input_fault e);
    console_fault = λ e. rose-before (c.faults a.console) (c.faults b.console) (c.faults d.console) first.console_count (second.console_fault e);
    folder_count = let h = first.folder_count in let k = second.folder_count in omega (arith, h, k);
    short_count = let h = first.short_count in let k = second.short_count in omega (arith, h, k);
    input_count = let h = first.input_count in let k = second.input_count in omega (arith, h, k);
    console_count = let h = first.console_count in let k = second.console_count in omega (arith, h, k);
    input_calm = λ h e. second.input_calm (first.input_steady h).1 e;
    input_steady = λ h. let k = first.input_steady h in let m = second.input_steady k.1 in (m.0 ∙ k.0, m.1);
    console_steady = λ h no. let k = first.console_steady h (λ e. cc) in let m = second.console_steady k.1 no in (m.0 ∙ k.0, m.1);
    console_capacity = second.console_capacity ∙ first.console_capacity;
  }

  pub world-none : (numbers : List Open) (a : Outside F I C) → InWorld f i c numbers numbers a a None
  world-none numbers a = record {
    world = λ t told w. (t, told, w);
    folder_calm = λ t told w h e. cc;
    folder_steady = λ t told w h. (refl, h);
  }

  pub world-then : (one two three : List Open) (a b d : Outside F I C) (fault : Option PlainFault) → InWorld f i c one two a b None → InWorld f i c two three b d fault → InWorld f i c one three a d fault
  world-then one two three a b d fault first second = record {
    world = λ t told w. let h = first.world t told w in second.world h.0 h.1 h.2;
    folder_calm = λ t told w s e. let h = first.world t told w in second.folder_calm h.0 h.1 h.2 (first.folder_steady t told w s).1 e;
    folder_steady = λ t told w s. let h = first.world t told w in let k = first.folder_steady t told w s in let m = second.folder_steady h.0 h.1 h.2 k.1 in (m.0 ∙ k.0, m.1);
  }

-- what is said of the step of the state where a run stands is said of the machine's next step
pub asks-here : (Q : Asked → Type 0) (old : PlainState) (first : DirectState) (mid : PlainState) {input console : Option (List ℕ)} {tree : Option Tree} → StandsAt old first mid input console tree
    → Q (step_asks (direct_after old.given (made old mid) first).world.numbers (direct_after old.given (made old mid) first).machine) → Q (asks mid)
asks-here Q old first mid stands here =
    let s : DirectState = direct_after old.given (made old mid) first in
    let same : step_asks s.world.numbers s.machine ≡ asks mid = ap (λ (l : List Open). step_asks l s.machine) (sym stands.at.numbers_is) ∙ ap (λ (k : Machine). step_asks mid.numbers k) (sym stands.at.machine_is) in
    subst Q same here

-- what needs neither folder nor input asks neither
pub asks-neither : (x : Asked) → needs_outside x ≡ false → (asks_folder x ≡ false) × (asks_input x ≡ false)
asks-neither nothing h = (refl, refl)
asks-neither the_folder h = absurd (false≢true (sym h))
asks-neither the_input h = absurd (false≢true (sym h))
asks-neither (the_console bytes) h = (refl, refl)
