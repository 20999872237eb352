use Rattle.std.proofs.Common.{arith, ◌++◌, ◌∷◌, [], sym, subst}
use Rattle.std.proofs.lemmas.Grind.{common_steps}
use Rattle.fl_model.specs.Row.{Row}
use Rattle.fl_schema.specs.Schema.{types_of, layout_of}
use Rattle.fl_page.specs.Writer.{Gathers}
use Rattle.fl_page.specs.WriterState.{WriterState}
use Rattle.fl_page.proofs.WriterSteps.{Gathers-push}
use Rattle.fl_page.proofs.writer.PageWriter.push_row.Goals as goal

pub returns-clause-exact : goal.returns-clause-exact
returns-clause-exact g c = grind (arith, common_steps)

pub returns-clause-rows : goal.returns-clause-rows
returns-clause-rows g c = λ rows is.
    let schema = c.args.schema.now in
    let row : Row = record { key = c.args.key; values = c.args.values.now; blob = c.args.blob } in
    let P : WriterState → Type 0 = λ w. Gathers (layout_of schema) (rows ++ row ∷ []) w in
    subst P (sym (returns-clause-exact g c)) (Gathers-push schema.key (types_of schema) schema.blobs rows row c.args.self.now c.encode.ensures.storable c.requires.room is)
