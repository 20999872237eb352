use Rattle.std.proofs.Common.{◌≡◌, true, Ok, refl, sym, ◌∙◌, ap}
use Rattle.fl_words.specs.Grammar.{command_of}
use Rattle.fl_script.specs.CommandView.{command_view}
use Rattle.fl_session.proofs.Bounded.{command-within}
use Rattle.fl_session.proofs.next.next_command.Goals as goal

pub returns-in-Ok : goal.returns-in-Ok
returns-in-Ok g c =
    let line = c.advance.new.self.line in
    let command = command_view c.in-Ok.command c.read_line.new.into in
    let reads : command_of line ≡ Ok command = ap command_of (sym c.line.ensures) ∙ sym c.in-Ok.ensures.command in
    record {
      given = Ok true;
      advances = rw c.in-Ok-true.field-0-test at c.in-Ok-true.ensures.advances;
      next = (refl, record { reads = reads; within = command-within line command reads });
    }
