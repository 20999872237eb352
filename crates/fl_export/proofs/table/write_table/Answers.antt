use Rattle.std.proofs.Common.{◌≡◌, None, ℕ, List, length, ◌∙◌, ap, subst}
use Rattle.fl_base.specs.Causes.{Appends, AppendsFront}
use Rattle.fl_base.proofs.Appended.{front-more}
use Rattle.fl_csv.specs.Text.{header_text}
use Rattle.fl_model.specs.Query.{matches, selected}
use Rattle.fl_model.specs.Record.{has_var}
use Rattle.fl_model.specs.Table.{Entry}
use Rattle.fl_frame.specs.Contents.{contents_of}
use Rattle.fl_table.proofs.PlannedLayout.{blobs-as, columns-as}
use Rattle.fl_store.proofs.Called.{err-is}
use Rattle.fl_export.proofs.Lines.{lines, writes-behind, picked-among}
use Rattle.fl_store.proofs.TablesOnlyRead.{is-standing}
use Rattle.fl_export.proofs.table.write_table.Goals as goal

pub returns-in_err-header_line-clause-writes : goal.returns-in_err-header_line-clause-writes
returns-in_err-header_line-clause-writes g c = λ first plan t tells stands.
    let f = g.F.Flash.state c.args.flash.now in
    let columns = c.columns.ensures.exact ∙ columns-as c.args.table.now first plan stands.planned in
    let blobs = c.has_blobs.ensures ∙ blobs-as c.args.table.now first plan stands.planned in
    let head : header_text c.columns.result c.has_blobs.result ≡ header_text (length plan.columns) (has_var plan) = ap (λ n. header_text n c.has_blobs.result) columns ∙ ap (header_text (length plan.columns)) blobs in
    rw (err-is c.from_residual.result _ c.from_residual.ensures.1) (
      tt,
      front-more (g.K.Sink.written c.args.out.now) (g.K.Sink.written c.header_line.new.out) (header_text (length plan.columns) (has_var plan)) (lines plan t (selected c.args.range None t.entries))
          (subst (λ (l : List ℕ). AppendsFront (g.K.Sink.written c.args.out.now) (g.K.Sink.written c.header_line.new.out) l) head c.in_err-header_line.ensures.text),
    )

pub returns-clause-writes : goal.returns-clause-writes
returns-clause-writes g c = λ first plan t tells stands.
    let f = g.F.Flash.state c.args.flash.now in
    let reaches = g.met.F.Flash.reaches c.args.flash.now in
    let told = c.begin-cursor.ensures.told (contents_of (g.F.Flash.state c.args.flash.now)) (is-standing c.args.table.now (g.F.Flash.state c.args.flash.now) first plan t tells reaches c.requires.lies stands) in
    let are = c.begin-cursor.ensures.left f first plan t tells reaches c.requires.lies stands in
    let columns = c.columns.ensures.exact ∙ columns-as c.args.table.now first plan stands.planned in
    let blobs = c.has_blobs.ensures ∙ blobs-as c.args.table.now first plan stands.planned in
    let head : header_text c.columns.result c.has_blobs.result ≡ header_text (length plan.columns) (has_var plan) = ap (λ n. header_text n c.has_blobs.result) columns ∙ ap (header_text (length plan.columns)) blobs in
    let writes = c.write_rows-written.ensures.writes first plan t (selected c.args.range None t.entries) tells stands told are (picked-among (λ (entry : Entry). matches c.args.range None entry.kept) t.entries) in
    writes-behind (g.K.Sink.written c.args.out.now) (g.K.Sink.written c.header_line.new.out) (g.K.Sink.written c.write_rows-written.new.out) (header_text (length plan.columns) (has_var plan)) (lines plan t (selected c.args.range None t.entries)) c.write_rows-written.result
    (subst (λ (l : List ℕ). Appends (g.K.Sink.written c.args.out.now) (g.K.Sink.written c.header_line.new.out) l) head c.in_ok-header_line.ensures.text) writes
