use Rattle.std.proofs.Common.{◌≡◌, ℕ, List, [], false, refl, subst}
use Rattle.host_text.specs.Outside.{acts}
use Rattle.host_text.specs.Played.{Played, at}
use Rattle.syscall_proxy.specs.Acted.{call-acted, call-acted-late, call-not-acted}
use Rattle.syscall_proxy.specs.CallTable.{call_row}
use Rattle.syscall_proxy.specs.HostLaws.{call-fault, call-blames, blames-file, blames-memory, blames-input}
use Rattle.syscall_proxy.specs.HostLaws.{blames-console, call-counts, call-world, call-steady}
use Rattle.syscall_proxy.specs.Kept.{HostState, kept}
use Rattle.syscall_proxy.specs.StreamLaws.{call-steady-input, call-steady-console, call-console-stays, call-capacity}
use Rattle.syscall_proxy.specs.StreamLaws.{call-untaken, call-unput, call-unasked}
use Rattle.syscall_proxy.specs.declared.answers.CallFault.TheVariants.{FileFault, OutOfMemory, InputFault, ConsoleFault}
use Rattle.syscall_proxy.proofs.host.Host.call.Given as given
use Rattle.syscall_proxy.proofs.host.Host.call.Goals as goal

-- the row was followed, in terms of what the host shows
followed : (g : given.Over) (c : goal.After-carry_out g) → (waiting : List ℕ)
    → Played (acts g.P.ChunkPort g.F.Folder g.I.Source g.C.Sink)
    (call_row c.args.self.now.given c.args.self.now.numbers c.args.request)
    (at c.args.mem.now c.args.folder.now c.args.input.now c.args.console.now
    (kept c.args.self.now.numbers false waiting)) c.carry_out.result
    (at c.carry_out.new.mem c.carry_out.new.folder c.carry_out.new.input c.carry_out.new.console
    (kept c.carry_out.new.calls.numbers c.carry_out.new.calls.acted waiting))
followed g c =
    let P : HostState → Type 0 = λ h. (waiting : List ℕ)
    → Played (acts g.P.ChunkPort g.F.Folder g.I.Source g.C.Sink) (call_row h.given h.numbers c.args.request)
    (at c.args.mem.now c.args.folder.now c.args.input.now c.args.console.now
    (kept h.numbers false waiting)) c.carry_out.result
    (at c.carry_out.new.mem c.carry_out.new.folder c.carry_out.new.input c.carry_out.new.console
    (kept c.carry_out.new.calls.numbers c.carry_out.new.calls.acted waiting)) in
    subst P c.self.view_is c.carry_out.ensures.played

pub returns-clause-fault : goal.returns-clause-fault
returns-clause-fault g c = λ fault e. call-fault g.P.ChunkPort g.F.Folder g.I.Source g.C.Sink c.args.self.now.given
    c.args.self.now.numbers c.args.request fault e (followed g c [])

pub returns-clause-acted : goal.returns-clause-acted
returns-clause-acted g c = call-acted g.P.ChunkPort g.F.Folder g.I.Source g.C.Sink c.args.self.now.given
    c.args.self.now.numbers c.args.request c.carry_out.result (followed g c [])

pub returns-clause-not_acted : goal.returns-clause-not_acted
returns-clause-not_acted g c =
    λ fault e none. call-not-acted g.P.ChunkPort g.F.Folder g.I.Source g.C.Sink c.args.self.now.given
    c.args.self.now.numbers c.args.request fault e none (followed g c [])

pub returns-clause-acted_late : goal.returns-clause-acted_late
returns-clause-acted_late g c =
    λ fault e late. call-acted-late g.P.ChunkPort g.F.Folder g.I.Source g.C.Sink c.args.self.now.given
    c.args.self.now.numbers c.args.request fault e refl late (followed g c [])

pub returns-clause-file_fault : goal.returns-clause-file_fault
returns-clause-file_fault g c = λ e. blames-file g.P.ChunkPort g.F.Folder g.I.Source g.C.Sink
    (call-blames g.P.ChunkPort g.F.Folder g.I.Source g.C.Sink c.args.self.now.given c.args.self.now.numbers
    c.args.request FileFault e (followed g c []))

pub returns-clause-out_of_memory : goal.returns-clause-out_of_memory
returns-clause-out_of_memory g c =
    λ e. blames-memory g.P.ChunkPort g.F.Folder g.I.Source g.C.Sink
    (call-blames g.P.ChunkPort g.F.Folder g.I.Source g.C.Sink c.args.self.now.given c.args.self.now.numbers
    c.args.request OutOfMemory e (followed g c []))

pub returns-clause-input_fault : goal.returns-clause-input_fault
returns-clause-input_fault g c =
    λ e. blames-input g.P.ChunkPort g.F.Folder g.I.Source g.C.Sink
    (call-blames g.P.ChunkPort g.F.Folder g.I.Source g.C.Sink c.args.self.now.given c.args.self.now.numbers
    c.args.request InputFault e (followed g c []))

pub returns-clause-console_fault : goal.returns-clause-console_fault
returns-clause-console_fault g c =
    λ e. blames-console g.P.ChunkPort g.F.Folder g.I.Source g.C.Sink
    (call-blames g.P.ChunkPort g.F.Folder g.I.Source g.C.Sink c.args.self.now.given c.args.self.now.numbers
    c.args.request ConsoleFault e (followed g c []))

pub returns-clause-counts : goal.returns-clause-counts
returns-clause-counts g c = call-counts g.P.ChunkPort g.F.Folder g.I.Source g.C.Sink c.args.self.now.given
    c.args.self.now.numbers c.args.request (followed g c [])

pub returns-clause-world : goal.returns-clause-world
returns-clause-world g c = λ t told w. call-world g.P.ChunkPort g.F.Folder g.I.Source g.C.Sink c.args.self.now.given
    c.args.self.now.numbers [] c.args.request t refl told w (followed g c [])

pub returns-clause-steady : goal.returns-clause-steady
returns-clause-steady g c = λ t told w calm. call-steady g.P.ChunkPort g.F.Folder g.I.Source g.C.Sink
    c.args.self.now.given c.args.self.now.numbers [] c.args.request t refl told w calm (followed g c [])

pub returns-clause-steady_input : goal.returns-clause-steady_input
returns-clause-steady_input g c =
    λ steady. call-steady-input g.P.ChunkPort g.F.Folder g.I.Source g.C.Sink c.args.self.now.given
    c.args.self.now.numbers c.args.request steady (followed g c [])

pub returns-clause-steady_console : goal.returns-clause-steady_console
returns-clause-steady_console g c =
    λ steady suits. call-steady-console g.P.ChunkPort g.F.Folder g.I.Source g.C.Sink c.args.self.now.given
    c.args.self.now.numbers c.args.request steady suits (followed g c [])

pub returns-clause-console_stays : goal.returns-clause-console_stays
returns-clause-console_stays g c =
    λ steady none. call-console-stays g.P.ChunkPort g.F.Folder g.I.Source g.C.Sink c.args.self.now.given
    c.args.self.now.numbers c.args.request steady none (followed g c [])

pub returns-clause-capacity : goal.returns-clause-capacity
returns-clause-capacity g c = call-capacity g.P.ChunkPort g.F.Folder g.I.Source g.C.Sink c.args.self.now.given
    c.args.self.now.numbers c.args.request (followed g c [])

pub returns-clause-input_untouched : goal.returns-clause-input_untouched
returns-clause-input_untouched g c =
    λ none. (call-untaken g.P.ChunkPort g.F.Folder g.I.Source g.C.Sink c.args.self.now.given c.args.self.now.numbers
    c.args.request none (followed g c [])).0

pub returns-clause-console_untouched : goal.returns-clause-console_untouched
returns-clause-console_untouched g c =
    λ none. (call-unput g.P.ChunkPort g.F.Folder g.I.Source g.C.Sink c.args.self.now.given c.args.self.now.numbers
    c.args.request none (followed g c [])).0

pub returns-clause-folder_untouched : goal.returns-clause-folder_untouched
returns-clause-folder_untouched g c =
    λ none. (call-unasked g.P.ChunkPort g.F.Folder g.I.Source g.C.Sink c.args.self.now.given c.args.self.now.numbers
    c.args.request none (followed g c [])).0

pub returns-clause-input_asked : goal.returns-clause-input_asked
returns-clause-input_asked g c =
    λ none e. (call-untaken g.P.ChunkPort g.F.Folder g.I.Source g.C.Sink c.args.self.now.given c.args.self.now.numbers
    c.args.request none (followed g c [])).1 e

pub returns-clause-console_asked : goal.returns-clause-console_asked
returns-clause-console_asked g c =
    λ none e. (call-unput g.P.ChunkPort g.F.Folder g.I.Source g.C.Sink c.args.self.now.given c.args.self.now.numbers
    c.args.request none (followed g c [])).1 e

pub returns-clause-file_asked : goal.returns-clause-file_asked
returns-clause-file_asked g c = λ none e.
    (call-unasked g.P.ChunkPort g.F.Folder g.I.Source g.C.Sink c.args.self.now.given c.args.self.now.numbers
    c.args.request none (followed g c [])).1 e

pub returns-clause-memory_asked : goal.returns-clause-memory_asked
returns-clause-memory_asked g c =
    λ none e. (call-unasked g.P.ChunkPort g.F.Folder g.I.Source g.C.Sink c.args.self.now.given c.args.self.now.numbers
    c.args.request none (followed g c [])).2 e
