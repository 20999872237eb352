use Rattle.std.proofs.Common.{IfErr, map, refl, ◌∙◌, ap, subst}
use Rattle.fl_model.specs.Row.{stored_row}
use Rattle.fl_frame.specs.Contents.{contents_of}
use Rattle.fl_cursor.specs.Cursor.{IfBad, MayBeBad}
use Rattle.fl_cursor.proofs.Selected.{all-selected}
use Rattle.fl_store.proofs.TablesOnlyRead.{is-standing}
use Rattle.fl_table.specs.declared.table.Table.{Table}
use Rattle.fl_table.proofs.Entries.{few-keys}
use Rattle.fl_ship.proofs.missing.first_key.Goals as goal

pub returns-clause-first : goal.returns-clause-first
returns-clause-first g c = λ first plan t tells stands.
    let f = g.A.Flash.state c.args.from.now in
    let reaches = g.met.A.Flash.reaches c.args.from.now in
    let told = c.begin-cursor.ensures.told (contents_of f) (is-standing c.args.source.now f first plan t tells reaches c.requires.lies stands) in
    let are = c.begin-cursor.ensures.left f first plan t tells reaches c.requires.lies stands in
    let all = all-selected plan t.entries 0 refl (few-keys c.args.source.now first plan stands.planned) stands.facts.fit in
    c.next_key-key.ensures.next t.entries told (are ∙ ap (map stored_row) all)

pub returns-clause-bad_page : goal.returns-clause-bad_page
returns-clause-bad_page g c =
    subst (λ (t : Table 64 64). IfErr c.next_key-key.result (IfBad (MayBeBad t (contents_of (g.A.Flash.state c.args.from.now))))) c.begin-cursor.ensures.table c.next_key-key.ensures.bad_page
