use Rattle.std.proofs.Common.{sym, ◌∙◌, ap}
use Rattle.std.specs.Result.{is_err}
use Rattle.fl_flash.proofs.Writes.{both_written, second_failed}
use Rattle.fl_edge.proofs.Pairs.{untold}
use Rattle.fl_edge.proofs.synced_media.SyncedMediaMedia.write_pair.Goals as goal

pub returns-in-Ok : goal.returns-in-Ok
returns-in-Ok g c =
    let old = c.args.self.now.media in
    let mid = c.write_at.new.self.media in
    let new = c.write_at-2.new.self.media in
    both_written (untold old.len old.faults old.reads) (untold mid.len mid.faults mid.reads) c.args.at c.args.split c.args.bytes.now c.split_at.result.0.now c.split_at.result.1.now c.requires.split c.split_at.ensures.front c.split_at.ensures.back
    c.write_at.result c.write_at.ensures (sym c.is_err.ensures.value ∙ c.if-is_err.false) (untold new.len new.faults new.reads) c.write_at-2.result c.write_at-2.ensures (ap is_err c.in-Ok.is)

pub returns-in-Err : goal.returns-in-Err
returns-in-Err g c =
    let old = c.args.self.now.media in
    let mid = c.write_at.new.self.media in
    let new = c.write_at-2.new.self.media in
    second_failed (untold old.len old.faults old.reads) (untold mid.len mid.faults mid.reads) c.args.at c.args.split c.args.bytes.now c.split_at.result.0.now c.split_at.result.1.now c.requires.split c.split_at.ensures.front c.split_at.ensures.back
    c.write_at.result c.write_at.ensures (sym c.is_err.ensures.value ∙ c.if-is_err.false) (untold new.len new.faults new.reads) c.write_at-2.result c.write_at-2.ensures (ap is_err c.in-Err.is)
