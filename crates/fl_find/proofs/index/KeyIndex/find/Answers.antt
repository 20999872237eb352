use Rattle.std.proofs.Common.{◌≡◌, ℕ, List, sym, subst}
use Rattle.fl_mark.specs.Mark.{state_of_page}
use Rattle.fl_mark.specs.declared.page_state.PageState.TheVariants.{Committed}
use Rattle.fl_page.specs.Page.{IsGoodPage}
use Rattle.fl_find.specs.Index.{window_end}
use Rattle.fl_ring.specs.Place.{next_of}
use Rattle.std.proofs.lemmas.Result.{err_from_is_err_and}
use Rattle.fl_schema.specs.Schema.{layout_of}
use Rattle.fl_find.specs.Pages.{rows_on}
use Rattle.fl_find.specs.Rows.{RowsRise, HasKey, LacksKey}
use Rattle.fl_find.proofs.Lookups.{on-none, on-lacks, on-has, looks-err, looks-none, looks-lacks, looks-has}
use Rattle.fl_find.proofs.index.KeyIndex.find.Goals as goal

pub returns-in_err-number-clause-entry : goal.returns-in_err-number-clause-entry
returns-in_err-number-clause-entry g c = λ plan table holds points index.
    let p = err_from_is_err_and c.from_residual.result c.from_residual.ensures.1 in
    rw (p.1, p.2) (looks-err g.row.KNOTS plan (layout_of c.args.schema.now) table c.args.key (g.F.Flash.state c.args.flash.now).work.reads (g.F.Flash.state c.page_of.new.flash).work.reads c.in_err-number.field-0.0 c.page_of.new.buf (c.in_err-number.ensures.found plan table holds points index))

pub returns-in_default-clause-entry : goal.returns-in_default-clause-entry
returns-in_default-clause-entry g c = λ plan table holds points index.
    looks-none (layout_of c.args.schema.now) c.args.ring.now (g.F.Flash.state c.args.flash.now) plan table holds g.row.KNOTS c.args.key _ _ _ (rw c.in_default.is at c.in_ok-number.ensures.found plan table holds points index)

pub returns-in_default-row_of-clause-entry : goal.returns-in_default-row_of-clause-entry
returns-in_default-row_of-clause-entry g c = λ plan table holds points index.
    let bytes = c.bytes.ensures in
    looks-lacks (layout_of c.args.schema.now) c.args.ring.now (g.F.Flash.state c.args.flash.now) plan table holds g.row.KNOTS c.args.key _ _ c.in-Some.number (g.F.Flash.state c.page_of.new.flash) c.page_of.new.buf
    (rw c.in-Some.is at c.in_ok-number.ensures.found plan table holds points index) c.page_of.ensures.looks (rw c.in-Some.is at c.in_ok-number.ensures.holds)
    (subst (λ (l : List _). RowsRise (rows_on (layout_of c.args.schema.now) l) → LacksKey (rows_on (layout_of c.args.schema.now) l) c.args.key) bytes c.in_default-row_of.ensures.found)

pub returns-clause-entry : goal.returns-clause-entry
returns-clause-entry g c = λ plan table holds points index.
    let bytes = c.bytes.ensures in
    looks-has (layout_of c.args.schema.now) c.args.ring.now (g.F.Flash.state c.args.flash.now) plan table holds g.row.KNOTS c.args.key _ _ c.in-Some.number (g.F.Flash.state c.page_of.new.flash) c.page_of.new.buf
    (record { number = c.in-Some.number; row = c.in-Some-row_of.row })
    (rw c.in-Some.is at c.in_ok-number.ensures.found plan table holds points index) c.page_of.ensures.looks (rw c.in-Some.is at c.in_ok-number.ensures.holds)
    (subst (λ (l : List _). HasKey (rows_on (layout_of c.args.schema.now) l) c.args.key c.in-Some-row_of.row) bytes c.in-Some-row_of.ensures.found)

pub returns-in_default-clause-near : goal.returns-in_default-clause-near
returns-in_default-clause-near g c = λ page covered told is. on-none (layout_of c.args.schema.now) c.args.ring.now (g.F.Flash.state c.args.flash.now) told (window_end c.args.self.now (next_of c.args.ring.now) c.args.key) c.args.key page is (rw c.in_default.is at c.in_ok-number.ensures.near covered told)

pub returns-in_default-row_of-clause-near : goal.returns-in_default-row_of-clause-near
returns-in_default-row_of-clause-near g c = λ page covered told is.
    on-lacks (layout_of c.args.schema.now) c.args.ring.now (g.F.Flash.state c.args.flash.now) told (window_end c.args.self.now (next_of c.args.ring.now) c.args.key) c.args.key page is (g.F.Flash.state c.page_of.new.flash) c.in-Some.number c.page_of.new.buf
    (rw c.in-Some.is at c.in_ok-number.ensures.near covered told) c.page_of.ensures.looks (rw c.in-Some.is at c.in_ok-number.ensures.holds)
    (subst (λ (l : List _). RowsRise (rows_on (layout_of c.args.schema.now) l) → LacksKey (rows_on (layout_of c.args.schema.now) l) c.args.key) c.bytes.ensures c.in_default-row_of.ensures.found)

pub returns-clause-near : goal.returns-clause-near
returns-clause-near g c = λ page covered told is. on-has (layout_of c.args.schema.now) c.args.ring.now (g.F.Flash.state c.args.flash.now) told (window_end c.args.self.now (next_of c.args.ring.now) c.args.key) c.args.key page is c.in-Some.number c.in-Some-row_of.row (rw c.in-Some.is at c.in_ok-number.ensures.near covered told)

pub returns-in_default-clause-far : goal.returns-in_default-clause-far
returns-in_default-clause-far g c = λ page covered told up is. on-none (layout_of c.args.schema.now) c.args.ring.now (g.F.Flash.state c.args.flash.now) told (next_of c.args.ring.now) c.args.key page is (rw c.in_default.is at c.in_ok-number.ensures.far covered told up)

pub returns-in_default-row_of-clause-far : goal.returns-in_default-row_of-clause-far
returns-in_default-row_of-clause-far g c = λ page covered told up is.
    on-lacks (layout_of c.args.schema.now) c.args.ring.now (g.F.Flash.state c.args.flash.now) told (next_of c.args.ring.now) c.args.key page is (g.F.Flash.state c.page_of.new.flash) c.in-Some.number c.page_of.new.buf
    (rw c.in-Some.is at c.in_ok-number.ensures.far covered told up) c.page_of.ensures.looks (rw c.in-Some.is at c.in_ok-number.ensures.holds)
    (subst (λ (l : List _). RowsRise (rows_on (layout_of c.args.schema.now) l) → LacksKey (rows_on (layout_of c.args.schema.now) l) c.args.key) c.bytes.ensures c.in_default-row_of.ensures.found)

pub returns-clause-far : goal.returns-clause-far
returns-clause-far g c = λ page covered told up is. on-has (layout_of c.args.schema.now) c.args.ring.now (g.F.Flash.state c.args.flash.now) told (next_of c.args.ring.now) c.args.key page is c.in-Some.number c.in-Some-row_of.row (rw c.in-Some.is at c.in_ok-number.ensures.far covered told up)

pub returns-in_err-number-clause-blames : goal.returns-in_err-number-clause-blames
returns-in_err-number-clause-blames g c = λ covered.
    let p = err_from_is_err_and c.from_residual.result c.from_residual.ensures.1 in
    rw (p.1, p.2) (c.in_err-number.ensures.blames covered)

pub returns-in_err-number-clause-looks : goal.returns-in_err-number-clause-looks
returns-in_err-number-clause-looks g c = c.page_of.ensures.looks

pub returns-in_err-number-clause-lies : goal.returns-in_err-number-clause-lies
returns-in_err-number-clause-lies g c = c.page_of.ensures.lies

pub returns-in_err-number-clause-room : goal.returns-in_err-number-clause-room
returns-in_err-number-clause-room g c = c.page_of.ensures.room

pub returns-in_err-number-clause-reads : goal.returns-in_err-number-clause-reads
returns-in_err-number-clause-reads g c = c.page_of.ensures.reads

pub returns-in_err-number-clause-most : goal.returns-in_err-number-clause-most
returns-in_err-number-clause-most g c = c.page_of.ensures.most

pub returns-in_err-number-clause-fresh : goal.returns-in_err-number-clause-fresh
returns-in_err-number-clause-fresh g c = c.page_of.ensures.fresh

pub returns-in_err-number-clause-later : goal.returns-in_err-number-clause-later
returns-in_err-number-clause-later g c = c.page_of.ensures.later

pub returns-in_err-number-clause-comparisons : goal.returns-in_err-number-clause-comparisons
returns-in_err-number-clause-comparisons g c = c.page_of.ensures.comparisons

pub returns-in_default-clause-looks : goal.returns-in_default-clause-looks
returns-in_default-clause-looks g c = c.page_of.ensures.looks

pub returns-in_default-clause-lies : goal.returns-in_default-clause-lies
returns-in_default-clause-lies g c = c.page_of.ensures.lies

pub returns-in_default-clause-room : goal.returns-in_default-clause-room
returns-in_default-clause-room g c = c.page_of.ensures.room

pub returns-in_default-clause-reads : goal.returns-in_default-clause-reads
returns-in_default-clause-reads g c = c.page_of.ensures.reads

pub returns-in_default-clause-most : goal.returns-in_default-clause-most
returns-in_default-clause-most g c = c.page_of.ensures.most

pub returns-in_default-clause-fresh : goal.returns-in_default-clause-fresh
returns-in_default-clause-fresh g c = c.page_of.ensures.fresh

pub returns-in_default-clause-later : goal.returns-in_default-clause-later
returns-in_default-clause-later g c = c.page_of.ensures.later

pub returns-in_default-clause-comparisons : goal.returns-in_default-clause-comparisons
returns-in_default-clause-comparisons g c = c.page_of.ensures.comparisons

pub returns-in_default-row_of-clause-looks : goal.returns-in_default-row_of-clause-looks
returns-in_default-row_of-clause-looks g c = c.page_of.ensures.looks

pub returns-in_default-row_of-clause-lies : goal.returns-in_default-row_of-clause-lies
returns-in_default-row_of-clause-lies g c = c.page_of.ensures.lies

pub returns-in_default-row_of-clause-room : goal.returns-in_default-row_of-clause-room
returns-in_default-row_of-clause-room g c = c.page_of.ensures.room

pub returns-in_default-row_of-clause-reads : goal.returns-in_default-row_of-clause-reads
returns-in_default-row_of-clause-reads g c = c.page_of.ensures.reads

pub returns-in_default-row_of-clause-most : goal.returns-in_default-row_of-clause-most
returns-in_default-row_of-clause-most g c = c.page_of.ensures.most

pub returns-in_default-row_of-clause-fresh : goal.returns-in_default-row_of-clause-fresh
returns-in_default-row_of-clause-fresh g c = c.page_of.ensures.fresh

pub returns-in_default-row_of-clause-later : goal.returns-in_default-row_of-clause-later
returns-in_default-row_of-clause-later g c = c.page_of.ensures.later

pub returns-in_default-row_of-clause-comparisons : goal.returns-in_default-row_of-clause-comparisons
returns-in_default-row_of-clause-comparisons g c = c.page_of.ensures.comparisons

pub returns-clause-looks : goal.returns-clause-looks
returns-clause-looks g c = c.page_of.ensures.looks

pub returns-clause-lies : goal.returns-clause-lies
returns-clause-lies g c = c.page_of.ensures.lies

pub returns-clause-room : goal.returns-clause-room
returns-clause-room g c = c.page_of.ensures.room

pub returns-clause-reads : goal.returns-clause-reads
returns-clause-reads g c = c.page_of.ensures.reads

pub returns-clause-most : goal.returns-clause-most
returns-clause-most g c = c.page_of.ensures.most

pub returns-clause-fresh : goal.returns-clause-fresh
returns-clause-fresh g c = c.page_of.ensures.fresh

pub returns-clause-later : goal.returns-clause-later
returns-clause-later g c = c.page_of.ensures.later

pub returns-clause-comparisons : goal.returns-clause-comparisons
returns-clause-comparisons g c = c.page_of.ensures.comparisons

pub returns-in_err-number-clause-sound : goal.returns-in_err-number-clause-sound
returns-in_err-number-clause-sound g c =
    λ page covered told is.
    let p = err_from_is_err_and c.from_residual.result c.from_residual.ensures.1 in
    rw p.1 tt

pub returns-in_err-number-clause-near : goal.returns-in_err-number-clause-near
returns-in_err-number-clause-near g c =
    λ page covered told is.
    let p = err_from_is_err_and c.from_residual.result c.from_residual.ensures.1 in
    rw p.1 tt

pub returns-in_err-number-clause-far : goal.returns-in_err-number-clause-far
returns-in_err-number-clause-far g c =
    λ page covered told up is.
    let p = err_from_is_err_and c.from_residual.result c.from_residual.ensures.1 in
    rw p.1 tt

pub returns-in_err-number-clause-holds : goal.returns-in_err-number-clause-holds
returns-in_err-number-clause-holds g c =
    let p = err_from_is_err_and c.from_residual.result c.from_residual.ensures.1 in
    rw p.1 tt

pub returns-in_err-number-clause-within : goal.returns-in_err-number-clause-within
returns-in_err-number-clause-within g c =
    let p = err_from_is_err_and c.from_residual.result c.from_residual.ensures.1 in
    rw p.1 tt

pub returns-in_err-number-clause-row : goal.returns-in_err-number-clause-row
returns-in_err-number-clause-row g c =
    let p = err_from_is_err_and c.from_residual.result c.from_residual.ensures.1 in
    rw p.1 tt

pub returns-in_err-number-clause-fails : goal.returns-in_err-number-clause-fails
returns-in_err-number-clause-fails g c =
    let p = err_from_is_err_and c.from_residual.result c.from_residual.ensures.1 in
    rw (p.1, p.2) c.in_err-number.ensures.fails

pub returns-in_default-clause-sound : goal.returns-in_default-clause-sound
returns-in_default-clause-sound g c = λ page covered told is. c.in_ok-number.ensures.sound page covered told is

pub returns-in_default-row_of-clause-sound : goal.returns-in_default-row_of-clause-sound
returns-in_default-row_of-clause-sound g c = λ page covered told is. c.in_ok-number.ensures.sound page covered told is

pub returns-clause-sound : goal.returns-clause-sound
returns-clause-sound g c = λ page covered told is. c.in_ok-number.ensures.sound page covered told is

pub returns-clause-holds : goal.returns-clause-holds
returns-clause-holds g c = rw c.in-Some.is at c.in_ok-number.ensures.holds

pub returns-clause-within : goal.returns-clause-within
returns-clause-within g c = rw c.in-Some.is at c.in_ok-number.ensures.within

pub returns-clause-row : goal.returns-clause-row
returns-clause-row g c = subst (λ (l : List ℕ). HasKey (rows_on (layout_of c.args.schema.now) l) c.args.key c.in-Some-row_of.row) c.bytes.ensures c.in-Some-row_of.ensures.found

pub row_of-requires-clause-good : goal.row_of-requires-clause-good
row_of-requires-clause-good g c =
    let holds = rw c.in-Some.is at c.in_ok-number.ensures.holds in
    subst (λ (l : List ℕ). IsGoodPage (layout_of c.args.schema.now) c.in-Some.number l) (sym c.bytes.ensures) holds.good

pub row_of-requires-clause-committed : goal.row_of-requires-clause-committed
row_of-requires-clause-committed g c =
    let holds = rw c.in-Some.is at c.in_ok-number.ensures.holds in
    subst (λ (l : List ℕ). state_of_page l ≡ Committed) (sym c.bytes.ensures) holds.committed
