use Rattle.std.proofs.Common.{◌≡◌, Some, length, refl, sym, subst, slice_get}
use Rattle.std.proofs.lemmas.Option.{slice_get_read}
use Rattle.fl_model.specs.Bare.{bare}
use Rattle.fl_table.specs.Memory.{IsPlanned}
use Rattle.fl_table.specs.declared.table.Table.{Table}
use Rattle.fl_store.specs.Tables.{first_of}
use Rattle.fl_import.proofs.ImageEnds.{formed}
use Rattle.fl_import.proofs.import.form_at.Goals as goal

pub returns-clause-form : goal.returns-clause-form
returns-clause-form c = λ config new plan p.
    let entries = c.args.tables.now.entries.items in
    let here : slice_get c.args.tables.now.entries.items c.args.at ≡ Some c.index.result.now = slice_get_read entries (length entries) c.args.at c.index.result.now refl c.requires.at c.index.ensures in
    let planned = subst (λ (t : Table 64 64). IsPlanned t (first_of config.plans c.args.at) (bare plan)) (sym c.table-table.ensures) (new.each c.args.at plan c.index.result.now p here).planned.table in
    formed c.table-table.result.now (first_of config.plans c.args.at) plan c.columns.result c.has_blobs.result planned c.columns.ensures.exact c.has_blobs.ensures
