-- What never falls while a text is followed, and what a fault of a shaped text tells.
use Rattle.std.specs.Prelude.{◌≡◌, ℕ, Bool, true, false, List, Result, Ok, Err, refl}
use Rattle.std.proofs.Common.{sym, subst, ap, ◌∙◌}
use Rattle.chunk_memory.specs.declared.stops.MemStop.{MemStop}
use Rattle.fe_base.specs.declared.outside.Failed.{Failed}
use Rattle.folder_tree.specs.declared.folder.FolderStop.{FolderStop}
use Rattle.host_text.specs.Text.{Query, Reply, Text, Done, Fail, Read, Write, Take, Put, Ask, Note, Look}
use Rattle.host_text.specs.Played.{Acts, At, Played, ended, failed, has_read, read_stopped, has_written, write_stopped}
use Rattle.host_text.specs.Played.{has_taken, take_stopped, has_put, put_stopped, has_asked, ask_stopped, noted, looked}

-- what each act keeps of the object that it calls
module _ {X F I C H : Type 0} (o : Acts X F I C)
    (PortLater : X → X → Type 0) (FolderLater : F → F → Type 0) (InputLater : I → I → Type 0)
    (ConsoleLater : C → C → Type 0)
    (port_still : (x : X) → PortLater x x) (folder_still : (x : F) → FolderLater x x)
    (input_still : (x : I) → InputLater x x) (console_still : (x : C) → ConsoleLater x x)
    (port_joins : (x y z : X) → PortLater x y → PortLater y z → PortLater x z)
    (folder_joins : (x y z : F) → FolderLater x y → FolderLater y z → FolderLater x z)
    (input_joins : (x y z : I) → InputLater x y → InputLater y z → InputLater x z)
    (console_joins : (x y z : C) → ConsoleLater x y → ConsoleLater y z → ConsoleLater x z)
    (reads : (x y : X) (at count : ℕ) (r : Result (List ℕ) MemStop) → o.read x at count r y → PortLater x y)
    (writes : (x y : X) (at : ℕ) (bytes : List ℕ) (r : Result Unit MemStop) → o.write x at bytes r y → PortLater x y)
    (asks : (q : Query) (x y : F) (r : Result (Reply q) FolderStop) → o.ask q x r y → FolderLater x y)
    (takes : (x y : I) (count : ℕ) (r : Result (List ℕ) Failed) → o.take x count r y → InputLater x y)
    (puts : (x y : C) (bytes : List ℕ) (r : Result Unit Failed) → o.put x bytes r y → ConsoleLater x y) where
  pub record Later (s s' : At X F I C H) : Type 0 where
    pub port : PortLater s.port s'.port
    pub folder : FolderLater s.folder s'.folder
    pub input : InputLater s.input s'.input
    pub console : ConsoleLater s.console s'.console

  same-later : (s s' : At X F I C H) → s' ≡ s → Later s s'
  same-later s s' e =
      let P : At X F I C H → Type 0 = λ m. Later s m in
      subst P (sym e) (record {
        port = port_still _;
        folder = folder_still _;
        input = input_still _;
        console = console_still _;
      })

  -- whatever the text and its end, the objects are later ones
  pub played-later : {A E : Type 0} {t : Text H A E} {s s' : At X F I C H} {r : Result A E} → Played o t s r s'
      → Later s s'
  played-later (ended {s = s} {s' = s'} h same) = same-later s s' same
  played-later (failed {s = s} {s' = s'} h same) = same-later s s' same
  played-later (has_read {place = at} {count = count} {s = s} {s' = s'} {x = x} {bytes = bytes} d p) =
      let l = played-later p in record {
        port = port_joins s.port x s'.port
            (reads s.port x at count (Ok bytes) d) l.port;
        folder = l.folder;
        input = l.input;
        console = l.console;
      }
  played-later (read_stopped {place = at} {count = count} {s = s} {s' = s'} {x = x} {why = why} d h same) =
      let l = same-later (record s { port = x }) s' same in record {
        port = port_joins s.port x s'.port
            (reads s.port x at count (Err why) d) l.port;
        folder = l.folder;
        input = l.input;
        console = l.console;
      }
  played-later (has_written {place = at} {bytes = bytes} {s = s} {s' = s'} {x = x} d p) =
      let l = played-later p in record {
        port = port_joins s.port x s'.port (writes s.port x at bytes (Ok tt) d) l.port;
        folder = l.folder;
        input = l.input;
        console = l.console;
      }
  played-later (write_stopped {place = at} {bytes = bytes} {s = s} {s' = s'} {x = x} {why = why} d h same) =
      let l = same-later (record s { port = x }) s' same in record {
        port = port_joins s.port x s'.port
            (writes s.port x at bytes (Err why) d) l.port;
        folder = l.folder;
        input = l.input;
        console = l.console;
      }
  played-later (has_taken {count = count} {s = s} {s' = s'} {i = i} {bytes = bytes} d p) =
      let l = played-later p in record {
        port = l.port;
        folder = l.folder;
        input = input_joins s.input i s'.input (takes s.input i count (Ok bytes) d) l.input;
        console = l.console;
      }
  played-later (take_stopped {count = count} {s = s} {s' = s'} {i = i} {why = why} d h same) =
      let l = same-later (record s { input = i }) s' same in record {
        port = l.port;
        folder = l.folder;
        input = input_joins s.input i s'.input (takes s.input i count (Err why) d) l.input;
        console = l.console;
      }
  played-later (has_put {bytes = bytes} {s = s} {s' = s'} {c = c} d p) =
      let l = played-later p in record {
        port = l.port;
        folder = l.folder;
        input = l.input;
        console = console_joins s.console c s'.console (puts s.console c bytes (Ok tt) d) l.console;
      }
  played-later (put_stopped {bytes = bytes} {s = s} {s' = s'} {c = c} {why = why} d h same) =
      let l = same-later (record s { console = c }) s' same in record {
        port = l.port;
        folder = l.folder;
        input = l.input;
        console = console_joins s.console c s'.console
            (puts s.console c bytes (Err why) d) l.console;
      }
  played-later (has_asked {q = q} {s = s} {s' = s'} {f = f} {reply = reply} d p) =
      let l = played-later p in record {
        port = l.port;
        folder = folder_joins s.folder f s'.folder (asks q s.folder f (Ok reply) d) l.folder;
        input =
            l.input;
        console = l.console;
      }
  played-later (ask_stopped {q = q} {s = s} {s' = s'} {f = f} {why = why} d h same) =
      let l = same-later (record s { folder = f }) s' same in record {
        port = l.port;
        folder = folder_joins s.folder f s'.folder (asks q s.folder f (Err why) d) l.folder;
        input =
            l.input;
        console = l.console;
      }
  played-later (noted n p) = let l =
      played-later p in record { port = l.port; folder = l.folder; input = l.input; console = l.console }
  played-later (looked p) = played-later p
