use Rattle.std.proofs.Common.{◌≡◌, ◌≤◌, ◌-◌, max}
use Rattle.std.specs.Prelude.{None}
use Rattle.host_text.specs.World.{Contents}
use Rattle.plain_machine.specs.Asks.{asks_folder, asks_input, needs_outside}
use Rattle.plain_machine.specs.Direct.{DirectState}
use Rattle.plain_machine.specs.Outsides.{Called, InWorld, outside}
use Rattle.plain_machine.specs.Stands.{IsAt, NeverAsks, NeverPuts, direct_of, made}
use Rattle.plain_machine.proofs.Runs.{StandsAt, StandsLone}
use Rattle.plain_machine.proofs.plain.Plain.run.Given as goal

abbrev pub invariant-steps : goal.invariant-steps
invariant-steps g l = record {
  stands : (first : DirectState) → IsAt first l.fn.self (g.I.Source.left l.fn.input) (g.C.Sink.held l.fn.console) (g.F.Folder.tree l.fn.folder)
      → StandsAt l.fn.self first l.self (g.I.Source.left l.input) (g.C.Sink.held l.console) (g.F.Folder.tree l.folder);
  given : l.self.given ≡ l.fn.self.given;
  later : l.fn.self.steps ≤ l.self.steps;
  within : l.self.steps ≤ max l.limit l.fn.self.steps;
  called : Called g.F.Folder g.I.Source g.C.Sink (outside l.fn.folder l.fn.input l.fn.console) (outside l.folder l.input l.console) None;
  in_world : InWorld g.F.Folder g.I.Source g.C.Sink l.fn.self.numbers l.self.numbers (outside l.fn.folder l.fn.input l.fn.console) (outside l.folder l.input l.console) None;
  lone : (contents : Contents) → NeverAsks needs_outside l.fn.self.given (direct_of l.fn.self contents) (made l.fn.self l.self)
      → StandsLone l.fn.self (direct_of l.fn.self contents) l.self × (l.folder ≡ l.fn.folder) × (l.input ≡ l.fn.input);
  folder_untouched : (first : DirectState) → IsAt first l.fn.self (g.I.Source.left l.fn.input) (g.C.Sink.held l.fn.console) (g.F.Folder.tree l.fn.folder)
      → NeverAsks asks_folder l.fn.self.given first (made l.fn.self l.self) → l.folder ≡ l.fn.folder;
  input_untouched : (first : DirectState) → IsAt first l.fn.self (g.I.Source.left l.fn.input) (g.C.Sink.held l.fn.console) (g.F.Folder.tree l.fn.folder)
      → NeverAsks asks_input l.fn.self.given first (made l.fn.self l.self) → l.input ≡ l.fn.input;
  console_untouched : (first : DirectState) → IsAt first l.fn.self (g.I.Source.left l.fn.input) (g.C.Sink.held l.fn.console) (g.F.Folder.tree l.fn.folder)
      → NeverPuts l.fn.self.given first (made l.fn.self l.self) → l.console ≡ l.fn.console;
}

abbrev pub decreases-steps : goal.decreases-steps
decreases-steps g l = l.limit - l.self.steps
