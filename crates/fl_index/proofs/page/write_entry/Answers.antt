use Rattle.std.proofs.Common.{◌≡◌, ◌+◌, ◌*◌, List, ℕ, ◌∙◌, ap}
use Rattle.fl_base.specs.Bytes.{splice}
use Rattle.fl_model.specs.Layout.{full_bytes}
use Rattle.fl_model.specs.Row.{le}
use Rattle.fl_index.specs.Page.{form_len, full_view}
use Rattle.fl_index.proofs.WaitingEntries.{whole-written, short-written}
use Rattle.fl_index.proofs.page.write_entry.Goals as goal

pub returns-then-form : goal.returns-then-form
returns-then-form c =
    let at : 16 + c.args.entry * c.entry_len.result ≡ 16 + c.args.entry * form_len c.args.form = ap (λ n. 16 + c.args.entry * n) c.entry_len.ensures in
    whole-written c.args.form (16 + c.args.entry * form_len c.args.form) c.args.body.now _ _ c.if-form.true c.requires.room
    (c.write_full.ensures ∙ (ap (λ n. splice c.write_bitmap.new.body (n + c.args.form.width) (full_bytes (full_view c.args.full))) at
    ∙ ap (λ (l : List ℕ). splice l (16 + c.args.entry * form_len c.args.form + c.args.form.width) (full_bytes (full_view c.args.full)))
    (c.write_bitmap.ensures ∙ ap (λ n. splice c.args.body.now n (le c.args.form.width c.args.bitmap)) at)))

pub returns-else-form : goal.returns-else-form
returns-else-form c =
    let at : 16 + c.args.entry * c.entry_len.result ≡ 16 + c.args.entry * form_len c.args.form = ap (λ n. 16 + c.args.entry * n) c.entry_len.ensures in
    short-written c.args.form (16 + c.args.entry * form_len c.args.form) c.args.body.now _ _ c.if-form.false
    (c.write_bitmap.ensures ∙ ap (λ n. splice c.args.body.now n (le c.args.form.width c.args.bitmap)) at)
