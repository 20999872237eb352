use Rattle.std.proofs.Common.{◌+◌, List, ℕ, ◌∙◌, ap}
use Rattle.fl_base.specs.Bytes.{splice}
use Rattle.fl_model.specs.Row.{le}
use Rattle.fl_index.specs.Page.{full_view}
use Rattle.fl_index.proofs.WaitingEntries.{full-written}
use Rattle.fl_index.proofs.page.write_full.Goals as goal

pub returns : goal.returns
returns c =
    c.put_u32.ensures
    ∙ (ap (λ (l : List ℕ). splice l (c.args.at + 10) (le 4 c.args.full.blob_end)) (c.put_u16.ensures ∙ ap (λ (l : List ℕ). splice l (c.args.at + 8) (le 2 c.args.full.count)) c.put_u64.ensures)
    ∙ full-written c.args.at c.args.body.now (full_view c.args.full) c.requires.room)
