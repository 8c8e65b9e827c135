-- What is written before the first host turn, over a target behind a line.
use Rattle.std.specs.Prelude.{List, Result, Ok, Err}
use Rattle.chunk_memory.specs.declared.stops.MemStop.{MemStop}
use Rattle.host_text.specs.Played.{Played}
use Rattle.htif_mailbox.specs.Turns.{Mail}
use Rattle.htif_mailbox.specs.declared.answers.MailFault.{MailFault}
use Rattle.htif_mailbox.specs.declared.answers.MailFault.TheVariants.{Port}
use Rattle.htif_mailbox.specs.declared.answers.Turned.{Turned}
use Rattle.htif_mailbox.specs.declared.answers.Turned.TheVariants.{Idle}
use Rattle.target_box.specs.Lined.{Lined}
use Rattle.tether_base.specs.Tethered.{TetherState}
use Rattle.tether_base.specs.Texts.{Range, load_text}
use Rattle.tether_base.specs.ToldActs.{line_acts}
use Rattle.tether_run.specs.Sessions.{begin_text}

-- whatever follows the second text from one line follows the first from another
abbrev pub Leads : Mail → Lined → Mail → Lined → Type 0
Leads all start rest line =
    (s now : TetherState) (r : Result Turned MailFault) → Played line_acts rest (record s { port = line }) r now
    → Played line_acts all (record s { port = start }) r now

-- the text ends there with this refusal of the port
abbrev pub Refuses : Mail → Lined → MemStop → Lined → Type 0
Refuses text start why line =
    (s : TetherState) → Played line_acts text (record s { port = start }) (Err (Port why)) (record s { port = line })

-- the ranges were written, and whatever comes behind them may follow; or the port refused
abbrev pub Loads : List Range → Lined → Result Unit MemStop → Lined → Type 0
Loads ranges start (Ok done) line = (rest : Mail) → Leads (load_text ranges rest) start rest line
Loads ranges start (Err why) line = (rest : Mail) → Refuses (load_text ranges rest) start why line

-- the ranges and the start word were written, or the port refused
abbrev pub Begins : List Range → Lined → Result Unit MemStop → Lined → Type 0
Begins ranges start (Ok done) line =
    (s : TetherState)
    → Played line_acts (begin_text ranges) (record s { port = start }) (Ok Idle) (record s { port = line })
Begins ranges start (Err why) line = Refuses (begin_text ranges) start why line
