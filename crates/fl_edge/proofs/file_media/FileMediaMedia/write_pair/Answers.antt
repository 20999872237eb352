use Rattle.std.proofs.Common.{◌≡◌, ◌+◌, ◌-◌, max, length, take, drop, sym, ◌∙◌, ap, arith}
use Rattle.std.proofs.lemmas.List.{length-take, length-drop}
use Rattle.fl_edge.specs.declared.file_media.FileMedia.{FileMedia}
use Rattle.fl_edge.proofs.Pairs.{both_done, second_lost, end_of, ends_within, ok_of}
use Rattle.fl_edge.proofs.file_media.FileMediaMedia.write_pair.Goals as goal

pub returns-in-Ok : goal.returns-in-Ok
returns-in-Ok g c =
    let self = c.args.self.now in
    let mid = c.write_up_to.new.self in
    let new = c.write_at.new.self in
    let count = c.write_front-count.result in
    let bytes = c.args.bytes.now in
    let front = c.write_front-count.ensures.len in
    let front_len : c.write_front-count.new.self.len ≡ max self.len (c.args.at + count) = ap (λ (m : FileMedia g.row.F.Denot). m.len) front in
    let front_faults : c.write_front-count.new.self.faults ≡ self.faults = ap (λ (m : FileMedia g.row.F.Denot). m.faults) front in
    let done : mid.len ≡ max c.write_front-count.new.self.len (c.args.at + c.args.split) = ok_of c.write_up_to.result (sym c.is_err.ensures.value ∙ c.if-is_err.false) c.write_up_to.ensures.done in
    let end = end_of mid.reads new.reads mid.faults new.faults mid.len new.len (c.args.at + c.max-begun.result) (take (length bytes - c.max-begun.result) (drop c.max-begun.result bytes)) c.in-Ok.field-0 c.in-Ok.ensures in
    let reads = c.write_at.ensures.reads ∙ c.write_up_to.ensures.reads ∙ ap (λ (m : FileMedia g.row.F.Denot). m.reads) front in
    rw reads (both_done self.reads self.faults self.len c.args.at c.args.split count bytes c.requires.split c.write_front-count.ensures.count mid.faults mid.len (omega (arith, c.write_up_to.ensures.cause.later, front_faults))
    (omega (arith, done, front_len)) new.faults new.len c.write_at.ensures.cause.later (omega (arith, end, length-take (length bytes - c.max-begun.result) (drop c.max-begun.result bytes), length-drop c.max-begun.result bytes, c.max-begun.ensures, c.requires.split, c.write_front-count.ensures.count)))

pub returns-in-Err : goal.returns-in-Err
returns-in-Err g c =
    let self = c.args.self.now in
    let mid = c.write_up_to.new.self in
    let new = c.write_at.new.self in
    let count = c.write_front-count.result in
    let bytes = c.args.bytes.now in
    let front = c.write_front-count.ensures.len in
    let front_len : c.write_front-count.new.self.len ≡ max self.len (c.args.at + count) = ap (λ (m : FileMedia g.row.F.Denot). m.len) front in
    let front_faults : c.write_front-count.new.self.faults ≡ self.faults = ap (λ (m : FileMedia g.row.F.Denot). m.faults) front in
    let done : mid.len ≡ max c.write_front-count.new.self.len (c.args.at + c.args.split) = ok_of c.write_up_to.result (sym c.is_err.ensures.value ∙ c.if-is_err.false) c.write_up_to.ensures.done in
    let end = ends_within mid.reads new.reads mid.faults new.faults mid.len new.len (c.args.at + c.max-begun.result) (take (length bytes - c.max-begun.result) (drop c.max-begun.result bytes)) c.in-Err.field-0 c.in-Err.ensures in
    let reads = c.write_at.ensures.reads ∙ c.write_up_to.ensures.reads ∙ ap (λ (m : FileMedia g.row.F.Denot). m.reads) front in
    rw reads (second_lost self.reads self.faults self.len c.args.at c.args.split count bytes c.requires.split c.write_front-count.ensures.count mid.faults mid.len (omega (arith, c.write_up_to.ensures.cause.later, front_faults))
    (omega (arith, done, front_len)) new.faults new.len c.write_at.ensures.cause.later end.0 (omega (arith, end.1, length-take (length bytes - c.max-begun.result) (drop c.max-begun.result bytes), length-drop c.max-begun.result bytes, c.max-begun.ensures, c.requires.split, c.write_front-count.ensures.count)) c.in-Err.ensures.cause.failed)
