use Rattle.std.proofs.Common.{◌+◌, ◌*◌, take, drop, ◌∙◌, ap, subst, sym}
use Rattle.std.specs.Prelude.{◌≤◌, length}
use Rattle.fl_model.specs.Row.{number_of}
use Rattle.fl_index.proofs.Bytes.{entry-read}
use Rattle.fl_index.proofs.WaitingEntries.{entry-within}
use Rattle.fl_index.proofs.page.bitmap_in.Goals as goal

pub returns : goal.returns
returns c =
    let form = c.args.form in
    let page = c.args.page.now in
    c.read_uint.ensures
    ∙ (entry-read form.width (16 + c.args.entry * c.entry_len.result) page
    (subst (λ n. 16 + c.args.entry * n + form.width ≤ length page) (sym c.entry_len.ensures) (entry-within form c.args.entry (length page) c.requires.room))
    ∙ ap (λ n. number_of (take form.width (drop (16 + c.args.entry * n) page))) c.entry_len.ensures)
