use Rattle.std.proofs.Common.{◌≡◌, ℕ, List, rules, subst, sym, ap}
use Rattle.std.specs.Prelude.{IfOk, OnErr, false}
use Rattle.std.specs.Result.{result_err}
use Rattle.guest_memory.specs.Bus.{BusState, IsBus}
use Rattle.host_text.specs.World.{Contents}
use Rattle.plain_machine.specs.Asks.{needs_outside, row_asks}
use Rattle.plain_machine.specs.Outsides.{Asking, outside}
use Rattle.plain_machine.specs.Rows.{RowLed, RowRan}
use Rattle.plain_machine.specs.Stands.{Tells}
use Rattle.plain_machine.proofs.Served.{lone-or-not, made-or-not, same-numbers, spares, same-user, has-called, has-asked}
use Rattle.plain_machine.proofs.host_calls.call_on.Goals as goal

pub returns-clause-kept : goal.returns-clause-kept
returns-clause-kept g c =
    let h : OnErr c.result_of.result (c.call_over-port.result.bus.now.user ≡ c.over.result.bus.now.user) = same-user _ g.F.Folder g.I.Source g.C.Sink c.args.host.now c.call_over-port.new.host c.args.request c.over.result c.call_over-port.result c.args.folder.now c.call_over-port.new.folder
    c.args.input.now c.call_over-port.new.input c.args.console.now c.call_over-port.new.console c.call_over-port.new.outcome c.call_over-port.ensures.played (λ y. y.bus.now)
    (λ y y' place count r d. record { maps = d.maps; told = d.told; spelled = d.reached tt }) (λ y y' place bytes r d. record { maps = d.maps; told = d.told; spelled = d.reached tt })
    c.requires (subst IsBus (sym c.over.ensures.bus) c.tell_sizes.ensures) c.result_of.result c.result_of.ensures in
    let k : OnErr c.result_of.result (c.call_over-port.result.bus.now.user ≡ c.args.bus.now.user) = subst (λ (l : List ℕ). OnErr c.result_of.result (c.call_over-port.result.bus.now.user ≡ l)) (ap (λ (b : BusState). b.user) c.over.ensures.bus) h in
    subst (λ (l : List ℕ). OnErr c.result_of.result (l ≡ c.args.bus.now.user)) (search rules) k

pub returns-clause-row : goal.returns-clause-row
returns-clause-row g c =
    let h = made-or-not _ g.F.Folder g.I.Source g.C.Sink c.args.host.now c.call_over-port.new.host c.args.request c.over.result c.call_over-port.result c.args.folder.now c.call_over-port.new.folder
    c.args.input.now c.call_over-port.new.input c.args.console.now c.call_over-port.new.console c.call_over-port.new.outcome c.call_over-port.ensures.played (λ y. y.bus.now)
    (λ y y' place count r d. record { maps = d.maps; told = d.told; spelled = d.reached tt }) (λ y y' place bytes r d. record { maps = d.maps; told = d.told; spelled = d.reached tt })
    c.requires (subst IsBus (sym c.over.ensures.bus) c.tell_sizes.ensures) c.result_of.result c.result_of.ensures in
    let k = subst (λ (l : List ℕ). IfOk c.result_of.result (λ answer. (contents : Contents) → Tells contents (g.I.Source.left c.args.input.now) (g.C.Sink.held c.args.console.now) (g.F.Folder.tree c.args.folder.now)
    → RowRan c.args.host.now c.call_over-port.new.host c.args.request contents l c.call_over-port.result.bus.now.user answer (g.I.Source.left c.call_over-port.new.input) (g.C.Sink.held c.call_over-port.new.console) (g.F.Folder.tree c.call_over-port.new.folder))) (ap (λ (b : BusState). b.user) c.over.ensures.bus) h in
    subst (λ (l : List ℕ). IfOk c.result_of.result (λ answer. (contents : Contents) → Tells contents (g.I.Source.left c.args.input.now) (g.C.Sink.held c.args.console.now) (g.F.Folder.tree c.args.folder.now)
    → RowRan c.args.host.now c.call_over-port.new.host c.args.request contents c.args.bus.now.user l answer (g.I.Source.left c.call_over-port.new.input) (g.C.Sink.held c.call_over-port.new.console) (g.F.Folder.tree c.call_over-port.new.folder))) (search rules) k

pub returns-clause-lone : goal.returns-clause-lone
returns-clause-lone g c =
    let h = lone-or-not _ g.F.Folder g.I.Source g.C.Sink c.args.host.now c.call_over-port.new.host c.args.request c.over.result c.call_over-port.result c.args.folder.now c.call_over-port.new.folder
    c.args.input.now c.call_over-port.new.input c.args.console.now c.call_over-port.new.console c.call_over-port.new.outcome c.call_over-port.ensures.played (λ y. y.bus.now)
    (λ y y' place count r d. record { maps = d.maps; told = d.told; spelled = d.reached tt }) (λ y y' place bytes r d. record { maps = d.maps; told = d.told; spelled = d.reached tt })
    c.requires (subst IsBus (sym c.over.ensures.bus) c.tell_sizes.ensures) c.result_of.result c.result_of.ensures in
    let k = subst (λ (l : List ℕ). IfOk c.result_of.result (λ answer. needs_outside (row_asks c.args.host.now.numbers c.args.request l) ≡ false → (contents : Contents)
    → RowLed c.args.host.now c.call_over-port.new.host c.args.request contents l c.call_over-port.result.bus.now.user answer)) (ap (λ (b : BusState). b.user) c.over.ensures.bus) h in
    subst (λ (l : List ℕ). IfOk c.result_of.result (λ answer. needs_outside (row_asks c.args.host.now.numbers c.args.request c.args.bus.now.user) ≡ false → (contents : Contents)
    → RowLed c.args.host.now c.call_over-port.new.host c.args.request contents c.args.bus.now.user l answer)) (search rules) k

pub returns-clause-numbers : goal.returns-clause-numbers
returns-clause-numbers g c = same-numbers _ g.F.Folder g.I.Source g.C.Sink c.args.host.now c.call_over-port.new.host c.args.request c.over.result c.call_over-port.result c.args.folder.now c.call_over-port.new.folder
    c.args.input.now c.call_over-port.new.input c.args.console.now c.call_over-port.new.console c.call_over-port.new.outcome c.call_over-port.ensures.played (λ y. y.bus.now)
    (λ y y' place count r d. record { maps = d.maps; told = d.told; spelled = d.reached tt }) (λ y y' place bytes r d. record { maps = d.maps; told = d.told; spelled = d.reached tt })
    c.requires (subst IsBus (sym c.over.ensures.bus) c.tell_sizes.ensures) c.call_over-port.ensures.fault c.result_of.result c.result_of.ensures

pub returns-clause-spared : goal.returns-clause-spared
returns-clause-spared g c = spares _ g.F.Folder g.I.Source g.C.Sink c.args.host.now c.call_over-port.new.host c.args.request c.over.result c.call_over-port.result c.args.folder.now c.call_over-port.new.folder
    c.args.input.now c.call_over-port.new.input c.args.console.now c.call_over-port.new.console c.call_over-port.new.outcome c.call_over-port.ensures.played (λ y. y.bus.now)
    (λ y y' place count r d. record { maps = d.maps; told = d.told; spelled = d.reached tt }) (λ y y' place bytes r d. record { maps = d.maps; told = d.told; spelled = d.reached tt })
    c.requires (subst IsBus (sym c.over.ensures.bus) c.tell_sizes.ensures) c.result_of.result c.result_of.ensures

pub returns-clause-called : goal.returns-clause-called
returns-clause-called g c =
    has-called _ g.F.Folder g.I.Source g.C.Sink c.args.host.now c.call_over-port.new.host c.args.request c.over.result c.call_over-port.result c.args.folder.now c.call_over-port.new.folder
    c.args.input.now c.call_over-port.new.input c.args.console.now c.call_over-port.new.console c.call_over-port.new.outcome c.call_over-port.ensures.played (λ y. y.bus.now)
    (λ y y' place count r d. record { maps = d.maps; told = d.told; spelled = d.reached tt }) (λ y y' place bytes r d. record { maps = d.maps; told = d.told; spelled = d.reached tt })
    c.requires (subst IsBus (sym c.over.ensures.bus) c.tell_sizes.ensures) c.call_over-port.ensures.counts c.call_over-port.ensures.file_fault c.call_over-port.ensures.out_of_memory c.call_over-port.ensures.input_fault c.call_over-port.ensures.console_fault
    c.result_of.result c.result_of.ensures

pub returns-clause-asking : goal.returns-clause-asking
returns-clause-asking g c =
    let h = has-asked _ g.F.Folder g.I.Source g.C.Sink c.args.host.now c.call_over-port.new.host c.args.request c.over.result c.call_over-port.result c.args.folder.now c.call_over-port.new.folder
    c.args.input.now c.call_over-port.new.input c.args.console.now c.call_over-port.new.console c.call_over-port.new.outcome c.call_over-port.ensures.played (λ y. y.bus.now)
    (λ y y' place count r d. record { maps = d.maps; told = d.told; spelled = d.reached tt }) (λ y y' place bytes r d. record { maps = d.maps; told = d.told; spelled = d.reached tt })
    c.requires (subst IsBus (sym c.over.ensures.bus) c.tell_sizes.ensures) c.result_of.result c.result_of.ensures in
    subst (λ (l : List ℕ). Asking g.F.Folder g.I.Source g.C.Sink (row_asks c.args.host.now.numbers c.args.request l) (outside c.args.folder.now c.args.input.now c.args.console.now)
    (outside c.call_over-port.new.folder c.call_over-port.new.input c.call_over-port.new.console) (result_err c.result_of.result))
    (ap (λ (b : BusState). b.user) c.over.ensures.bus) h
