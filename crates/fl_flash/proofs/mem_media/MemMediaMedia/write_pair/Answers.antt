use Rattle.std.proofs.Common.{sym, ◌∙◌, ap, arith}
use Rattle.std.specs.Result.{is_err}
use Rattle.fl_flash.proofs.Writes.{reaches, both_written, second_failed, each_first, each_done, each_second}
use Rattle.fl_flash.specs.MemState.{media_state}
use Rattle.fl_flash.proofs.mem_media.MemMediaMedia.write_pair.Goals as goal

pub overflow_add-at : goal.overflow_add-at
overflow_add-at c =
    let end = reaches (media_state c.args.self.now) (media_state c.write_at.new.self) c.args.at c.args.split c.args.bytes.now c.split_at.result.0.now c.split_at.result.1.now c.requires.split c.split_at.ensures.front c.split_at.ensures.back
    c.write_at.result c.write_at.ensures.write (sym c.is_err.ensures.value ∙ c.if-is_err.false) in
    omega (arith, end, c.len-len.ensures, c.len-len.type_inv)

pub returns-in-Ok-clause-pair : goal.returns-in-Ok-clause-pair
returns-in-Ok-clause-pair c =
    both_written (media_state c.args.self.now) (media_state c.write_at.new.self) c.args.at c.args.split c.args.bytes.now c.split_at.result.0.now c.split_at.result.1.now c.requires.split c.split_at.ensures.front c.split_at.ensures.back
    c.write_at.result c.write_at.ensures.write (sym c.is_err.ensures.value ∙ c.if-is_err.false) (media_state c.write_at-2.new.self) c.write_at-2.result c.write_at-2.ensures.write (ap is_err c.in-Ok.is)

pub returns-in-Err-clause-pair : goal.returns-in-Err-clause-pair
returns-in-Err-clause-pair c =
    second_failed (media_state c.args.self.now) (media_state c.write_at.new.self) c.args.at c.args.split c.args.bytes.now c.split_at.result.0.now c.split_at.result.1.now c.requires.split c.split_at.ensures.front c.split_at.ensures.back
    c.write_at.result c.write_at.ensures.write (sym c.is_err.ensures.value ∙ c.if-is_err.false) (media_state c.write_at-2.new.self) c.write_at-2.result c.write_at-2.ensures.write (ap is_err c.in-Err.is)

pub returns-in-Ok-clause-each : goal.returns-in-Ok-clause-each
returns-in-Ok-clause-each c =
    each_done c.args.self.now c.write_at.new.self c.args.at c.args.split c.args.bytes.now c.split_at.result.0.now c.split_at.result.1.now c.requires.split c.split_at.ensures.front c.split_at.ensures.back
    c.write_at.result (record { write = c.write_at.ensures.write; fails = c.write_at.ensures.fails; counts = c.write_at.ensures.counts; unchanged = c.write_at.ensures.unchanged }) (sym c.is_err.ensures.value ∙ c.if-is_err.false)
    c.write_at-2.new.self c.write_at-2.result (record { write = c.write_at-2.ensures.write; fails = c.write_at-2.ensures.fails; counts = c.write_at-2.ensures.counts; unchanged = c.write_at-2.ensures.unchanged }) (ap is_err c.in-Ok.is)

pub returns-in-Err-clause-each : goal.returns-in-Err-clause-each
returns-in-Err-clause-each c =
    each_second c.args.self.now c.write_at.new.self c.args.at c.args.split c.args.bytes.now c.split_at.result.0.now c.split_at.result.1.now c.requires.split c.split_at.ensures.front c.split_at.ensures.back
    c.write_at.result (record { write = c.write_at.ensures.write; fails = c.write_at.ensures.fails; counts = c.write_at.ensures.counts; unchanged = c.write_at.ensures.unchanged }) (sym c.is_err.ensures.value ∙ c.if-is_err.false)
    c.write_at-2.new.self c.write_at-2.result (record { write = c.write_at-2.ensures.write; fails = c.write_at-2.ensures.fails; counts = c.write_at-2.ensures.counts; unchanged = c.write_at-2.ensures.unchanged }) (ap is_err c.in-Err.is)

pub returns-then-is_err-clause-each : goal.returns-then-is_err-clause-each
returns-then-is_err-clause-each c =
    each_first c.args.self.now c.write_at.new.self c.args.at c.args.split c.args.bytes.now c.split_at.result.0.now c.split_at.result.1.now c.requires.split c.split_at.ensures.front c.split_at.ensures.back
    c.write_at.result (record { write = c.write_at.ensures.write; fails = c.write_at.ensures.fails; counts = c.write_at.ensures.counts; unchanged = c.write_at.ensures.unchanged }) (sym c.is_err.ensures.value ∙ c.if-is_err.true)
