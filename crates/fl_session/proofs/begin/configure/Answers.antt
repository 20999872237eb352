use Rattle.fl_script.specs.CommandView.{command_view}
use Rattle.fl_session.proofs.ConfigSteps.{configured-goes_on, takes-ok}
use Rattle.fl_session.proofs.begin.configure.Goals as goal

pub returns : goal.returns
returns c =
    let view = command_view c.args.command.now c.args.room.now in
    configured-goes_on c.args.config.now c.add.new.self view (cc (c.is_config.ensures c.args.room.now)) (takes-ok c.args.config.now c.add.new.self view c.add.result (cc) c.add.ensures)
