use Rattle.std.proofs.Common.{◌≡◌, ◌∙◌, Err, List, ℕ, ◌+◌, take, sym, subst}
use Rattle.std.specs.Prelude.{IfSome, slice_get, sum_by}
use Rattle.std.proofs.lemmas.Result.{err_from_is_err_and}
use Rattle.fl_base.specs.declared.stream.SinkFailed.{SinkFailed}
use Rattle.fl_model.specs.Record.{blocks_of}
use Rattle.fl_words.specs.Medium.{table_text}
use Rattle.fl_shell.proofs.DescribedImage.{table-failed, figures-failed, table-written}
use Rattle.fl_shell.proofs.LookedState.{looks-same, some-then}
use Rattle.fl_shell.proofs.describe.write_table.Goals as goal

pub returns-in_err-write_all-clause-text : goal.returns-in_err-write_all-clause-text
returns-in_err-write_all-clause-text g c = λ configured m here.
    let p = err_from_is_err_and c.from_residual.result c.from_residual.ensures.1 in
    let o = slice_get c.args.config.now.plans c.args.at in
    let line = subst (λ (l : List ℕ). IfSome o (λ plan. l ≡ table_text plan)) (sym c.bytes.ensures.text) c.table_line.ensures in
    rw p.1 (table-failed configured m o _ _ c.bytes.result.now (g.K.Sink.written c.args.out.now) (g.K.Sink.written c.write_all.new.out) _ here line c.in_err-write_all.ensures.text)

pub returns-in_err-write_all-2-clause-text : goal.returns-in_err-write_all-2-clause-text
returns-in_err-write_all-2-clause-text g c = λ configured m here.
    let p = err_from_is_err_and c.from_residual-in_err-write_all-2.result c.from_residual-in_err-write_all-2.ensures.1 in
    let o = slice_get c.args.config.now.plans c.args.at in
    let line = subst (λ (l : List ℕ). IfSome o (λ plan. l ≡ table_text plan)) (sym c.bytes.ensures.text) c.table_line.ensures in
    rw p.1 (figures-failed configured m o c.table-table.result.now _ _ c.bytes.result.now c.name-name.result c.bytes-2.result.now (g.K.Sink.written c.args.out.now) (g.K.Sink.written c.write_all.new.out) (g.K.Sink.written c.write_all-2.new.out) _ here
    line c.name-name.ensures c.table-table.ensures.plan (λ label. c.bytes-2.ensures ∙ c.held-figures.ensures label configured m here) c.in_ok-write_all.ensures.text c.in_err-write_all-2.ensures.text)

pub returns-clause-text : goal.returns-clause-text
returns-clause-text g c = λ configured m here.
    let o = slice_get c.args.config.now.plans c.args.at in
    let line = subst (λ (l : List ℕ). IfSome o (λ plan. l ≡ table_text plan)) (sym c.bytes.ensures.text) c.table_line.ensures in
    table-written configured m o c.table-table.result.now c.log.result c.blocks_in-log_blocks.result (λ plan. sum_by blocks_of (take c.args.at c.args.config.now.plans) + plan.data_blocks + plan.index_blocks + plan.var_blocks) _ _ _
    c.bytes.result.now c.name-name.result c.bytes-2.result.now c.bytes-3.result.now (g.K.Sink.written c.args.out.now) (g.K.Sink.written c.write_all.new.out) (g.K.Sink.written c.write_all-2.new.out) (g.K.Sink.written c.write_all-3.new.out) c.write_all-3.result
    line c.name-name.ensures c.table-table.ensures.plan c.log.ensures.place c.blocks_in-log_blocks.ensures (λ label. c.bytes-2.ensures ∙ c.held-figures.ensures label configured m here)
    (λ label. rw c.bytes-3.ensures (c.beside-rings.ensures.tells label configured m here)) c.in_ok-write_all.ensures.text c.in_ok-write_all-2.ensures.text c.write_all-3.ensures.text

pub returns-in_err-write_all-clause-looks : goal.returns-in_err-write_all-clause-looks
returns-in_err-write_all-clause-looks g c = looks-same _

pub returns-in_err-write_all-2-clause-looks : goal.returns-in_err-write_all-2-clause-looks
returns-in_err-write_all-2-clause-looks g c = looks-same _

pub returns-clause-looks : goal.returns-clause-looks
returns-clause-looks g c = c.beside-rings.ensures.looks

pub returns-in_err-write_all-clause-told : goal.returns-in_err-write_all-clause-told
returns-in_err-write_all-clause-told g c =
    let p = err_from_is_err_and c.from_residual.result c.from_residual.ensures.1 in
    rw p.1 (c.bytes.result.now, c.in_err-write_all.ensures.text)

pub returns-in_err-write_all-2-clause-told : goal.returns-in_err-write_all-2-clause-told
returns-in_err-write_all-2-clause-told g c =
    let p = err_from_is_err_and c.from_residual-in_err-write_all-2.result c.from_residual-in_err-write_all-2.ensures.1 in
    rw p.1 (some-then {E = SinkFailed} (g.K.Sink.written c.args.out.now) (g.K.Sink.written c.write_all.new.out) (g.K.Sink.written c.write_all-2.new.out) (Err p.0) (c.bytes.result.now, c.in_ok-write_all.ensures.text) (c.bytes-2.result.now, c.in_err-write_all-2.ensures.text))

pub returns-clause-told : goal.returns-clause-told
returns-clause-told g c =
    some-then {E = SinkFailed} (g.K.Sink.written c.args.out.now) (g.K.Sink.written c.write_all.new.out) (g.K.Sink.written c.write_all-3.new.out) c.write_all-3.result (c.bytes.result.now, c.in_ok-write_all.ensures.text)
    (some-then {E = SinkFailed} (g.K.Sink.written c.write_all.new.out) (g.K.Sink.written c.write_all-2.new.out) (g.K.Sink.written c.write_all-3.new.out) c.write_all-3.result (c.bytes-2.result.now, c.in_ok-write_all-2.ensures.text) (c.bytes-3.result.now, c.write_all-3.ensures.text))
