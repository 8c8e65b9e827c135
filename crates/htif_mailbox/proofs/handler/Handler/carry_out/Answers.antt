use Rattle.std.proofs.Common.{refl, sym, ◌∙◌}
use Rattle.host_text.specs.Played.{ended, failed, noted}
use Rattle.htif_mailbox.proofs.Leaves.{for-command, gave-out, took}
use Rattle.htif_mailbox.specs.declared.commands.Command.TheVariants.{Exit, Call, TakeByte, PutByte, Unknown}
use Rattle.htif_mailbox.proofs.handler.Handler.carry_out.Goals as goal

pub returns-in-Exit-clause-played : goal.returns-in-Exit-clause-played
returns-in-Exit-clause-played g c = for-command c.args.self.now.host.given c.args.word (Exit c.in-Exit.status) (sym c.command_of.ensures ∙ c.in-Exit.is) (noted refl (ended refl refl))

pub returns-in-Call-clause-played : goal.returns-in-Call-clause-played
returns-in-Call-clause-played g c = for-command c.args.self.now.host.given c.args.word (Call c.in-Call.place) (sym c.command_of.ensures ∙ c.in-Call.is) c.call.ensures.played

pub returns-in-TakeByte-clause-played : goal.returns-in-TakeByte-clause-played
returns-in-TakeByte-clause-played g c = for-command c.args.self.now.host.given c.args.word TakeByte (sym c.command_of.ensures ∙ c.in-TakeByte.is)
    (took g.P.ChunkPort g.F.Folder g.I.Source g.C.Sink c.args.self.now.host.given c.args.word _ c.take_byte.ensures.ok c.take_byte.ensures.err)

pub returns-in-PutByte-clause-played : goal.returns-in-PutByte-clause-played
returns-in-PutByte-clause-played g c = for-command c.args.self.now.host.given c.args.word (PutByte c.in-PutByte.byte) (sym c.command_of.ensures ∙ c.in-PutByte.is)
    (gave-out g.P.ChunkPort g.F.Folder g.I.Source g.C.Sink c.args.self.now.host.given c.args.word c.in-PutByte.byte _ c.put_byte.ensures.ok c.put_byte.ensures.err)

pub returns-in-Unknown-clause-played : goal.returns-in-Unknown-clause-played
returns-in-Unknown-clause-played g c = for-command c.args.self.now.host.given c.args.word Unknown (sym c.command_of.ensures ∙ c.in-Unknown.is) (failed refl refl)
