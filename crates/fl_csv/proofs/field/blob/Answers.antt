use Rattle.std.proofs.Common.{sym, ◌∙◌, rules, ◌<◌, ◌∷◌, [], length}
use Rattle.fl_model.proofs.Names.{bytes_equal-is}
use Rattle.fl_csv.proofs.Blobs.{refused, taken}
use Rattle.fl_csv.proofs.field.blob.Goals as goal

pub returns-in-Ok : goal.returns-in-Ok
returns-in-Ok c =
    let some : 0 < length c.args.field.now = search rules in
    taken c.args.place c.args.field.now c.in-Ok.bytes.items _ some (sym (bytes_equal-is c.args.field.now (45 ∷ [])) ∙ rw c.as_slice.ensures at (sym c.eq.ensures ∙ c.if-eq.false)) c.in-Ok.ensures.ok c.of-in-Ok.ensures

pub returns-in-Err : goal.returns-in-Err
returns-in-Err c =
    let some : 0 < length c.args.field.now = search rules in
    refused c.args.place c.args.field.now c.in-Err.why _ some (sym (bytes_equal-is c.args.field.now (45 ∷ [])) ∙ rw c.as_slice.ensures at (sym c.eq.ensures ∙ c.if-eq.false)) c.in-Err.ensures.err
    c.refusal.ensures.memory c.refusal.ensures.form
