use Rattle.std.proofs.Common.{rules}
use Rattle.fl_base.specs.declared.stream.SinkFailed.{SinkFailed}
use Rattle.fl_script.specs.CommandView.{command_view}
use Rattle.fl_shell.proofs.LeadingLines.{adds, adds-not}
use Rattle.fl_shell.proofs.begin.add_line.Goals as goal

pub returns-in-Some-clause-leads : goal.returns-in-Some-clause-leads
returns-in-Some-clause-leads g c =
    adds-not c.args.config.now c.refusal_of.new.config (command_view c.args.command.now c.args.room.now) c.refusal_of.result c.in-Some.reason (g.K.Sink.written c.args.out.now) (g.K.Sink.written c.refuse.new.out) c.refuse.result c.in-Some.is c.refusal_of.ensures.takes c.refuse.ensures.text

pub returns-in-Device-clause-leads : goal.returns-in-Device-clause-leads
returns-in-Device-clause-leads g c = adds SinkFailed c.args.config.now c.refusal_of.new.config (command_view c.args.command.now c.args.room.now) c.refusal_of.result (g.K.Sink.written c.args.out.now) c.in_default.is c.refusal_of.ensures.takes

pub returns-in_default-command : goal.returns-in_default-command
returns-in_default-command g c = record {
  leads = adds SinkFailed c.args.config.now c.refusal_of.new.config (command_view c.args.command.now c.args.room.now) c.refusal_of.result (g.K.Sink.written c.args.out.now) c.in_default.is c.refusal_of.ensures.takes;
  cause = search rules;
}
