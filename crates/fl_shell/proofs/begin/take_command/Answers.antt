use Rattle.std.proofs.Common.{Ok, sym, subst}
use Rattle.fl_base.specs.declared.stream.SinkFailed.{SinkFailed}
use Rattle.fl_script.specs.CommandView.{command_view}
use Rattle.fl_shell.specs.Begin.{LeadsBy, step_command}
use Rattle.fl_shell.specs.Leading.{TakesBy}
use Rattle.fl_shell.proofs.LeadingLines.{caused-on, command-other, device-step, nothing-step, table-step, takes-on}
use Rattle.fl_shell.proofs.begin.take_command.Goals as goal

pub returns-in-Nothing-clause-takes : goal.returns-in-Nothing-clause-takes
returns-in-Nothing-clause-takes g c = nothing-step SinkFailed c.args.config.now c.args.command.now c.args.room.now (g.K.Sink.written c.args.out.now) c.in-Nothing.is

pub returns-in-Device : goal.returns-in-Device
returns-in-Device g c =
    let K = g.K.Sink in
    let lines = c.args.config.now in
    let read = command_view c.args.command.now c.args.room.now in
    let x = c.add_line.new in
    record {
      takes = takes-on lines x.config (step_command lines (Ok read)) (K.written c.args.out.now) (K.written x.out) c.add_line.result c.goes_on.result c.goes_on.ensures
          (subst (λ step. LeadsBy {E = SinkFailed} lines step x.config (K.written c.args.out.now) (K.written x.out) c.add_line.result) (device-step lines c.args.command.now c.args.room.now c.in-Device.is) c.add_line.ensures.leads);
      cause = caused-on (K.faults c.args.out.now) (K.faults x.out) c.add_line.result c.goes_on.result c.goes_on.ensures c.add_line.ensures.cause;
    }

pub returns-in-Table : goal.returns-in-Table
returns-in-Table g c =
    let K = g.K.Sink in
    let lines = c.args.config.now in
    let read = command_view c.args.command.now c.args.room.now in
    let x = c.add_line-in-Table.new in
    record {
      takes = takes-on lines x.config (step_command lines (Ok read)) (K.written c.args.out.now) (K.written x.out) c.add_line-in-Table.result c.goes_on-in-Table.result c.goes_on-in-Table.ensures
          (subst (λ step. LeadsBy {E = SinkFailed} lines step x.config (K.written c.args.out.now) (K.written x.out) c.add_line-in-Table.result) (table-step lines c.args.command.now c.args.room.now c.in-Table.is) c.add_line-in-Table.ensures.leads);
      cause = caused-on (K.faults c.args.out.now) (K.faults x.out) c.add_line-in-Table.result c.goes_on-in-Table.result c.goes_on-in-Table.ensures c.add_line-in-Table.ensures.cause;
    }

pub returns-in_default : goal.returns-in_default
returns-in_default g c =
    let lines = c.args.config.now in
    record {
      takes = subst (λ step. TakesBy lines step c.end_with.result lines (g.K.Sink.written c.args.out.now) (g.K.Sink.written c.end_with.new.out))
          (sym (command-other lines c.args.command.now c.args.room.now c.in_default.not-Nothing (λ page block e. c.in_default.not-Device page block e) (λ name key rows index var bits base width error blob full log e. c.in_default.not-Table name key rows index var bits base width error blob full log e)))
          c.end_with.ensures.takes;
      cause = c.end_with.ensures.cause;
    }
