use Rattle.std.proofs.Common.{◌≡◌, true, Err, refl, sym, ◌∙◌, ap, subst}
use Rattle.std.specs.Option.{option_map}
use Rattle.std.proofs.lemmas.Result.{err_from_is_err_and}
use Rattle.fl_store.proofs.TablesOnlyRead.{is-standing, lies-read, page-read, stands-read, tells-read}
use Rattle.fl_model.specs.Bare.{bare, bare_table}
use Rattle.fl_model.specs.Ship.{records_in}
use Rattle.fl_model.specs.Table.{Entry, last_entry, lose}
use Rattle.fl_frame.specs.Contents.{Contents, contents_of}
use Rattle.fl_page.specs.declared.fault.ReadFault.TheVariants as read
use Rattle.fl_frame.proofs.CallsInTurn.{goes-same}
use Rattle.fl_frame.proofs.ContentsInTurn.{OnlyReads-then}
use Rattle.fl_rlc.specs.Table.{table_in}
use Rattle.fl_table.specs.Look.{layout_in}
use Rattle.fl_store.proofs.CallsInTurn.{same-plan}
use Rattle.fl_store.proofs.TablesChanged.{off-rests}
use Rattle.fl_ship.specs.declared.fault.ShipFault.{ShipFault}
use Rattle.fl_ship.specs.declared.fault.ShipFault.TheVariants.{Put, Read}
use Rattle.fl_ship.specs.declared.stop.Stop.{Stop}
use Rattle.fl_ship.specs.declared.stop.Stop.TheVariants as stop
use Rattle.fl_ship.specs.Missing.{LookCausedBy}
use Rattle.fl_ship.proofs.Faults.{done-not-failed, flush-caused, flush-good, flush-not-put, look-caused, none-shipped, ship-no-gap}
use Rattle.fl_ship.proofs.OneTable.{caused-later, flush-rests, leaves-gap, leaves-none, leaves-shipped, leaves-stopped, leaves-unflushed, look-good, same-fault, same-stop, source-plain, table-stands, wanted-are}
use Rattle.fl_cursor.specs.Cursor.{MayBeBad}
use Rattle.fl_table.specs.declared.faults.PutRefusal.TheVariants as put
use Rattle.fl_table.specs.declared.table.Table.{Table}
use Rattle.fl_ship.proofs.tables.ship_table.Goals as goal

pub returns-in_err-look_for_gap-clause-ships : goal.returns-in_err-look_for_gap-clause-ships
returns-in_err-look_for_gap-clause-ships g c = λ source_first first source_plan plan s t tells stands works.
    let last_is : c.last_key-last.result ≡ option_map (λ (entry : Entry). entry.kept.key) (last_entry t) =
    c.last_key-last.ensures.stands (g.B.Flash.state c.args.onto.now) first (bare plan) (bare_table t) (table-stands c.table.result.now c.args.copy.now (g.B.Flash.state c.args.onto.now) first plan t c.table.ensures works) in
    let p = err_from_is_err_and c.from_residual.result c.from_residual.ensures.1 in
    rw (p.1, p.2) (leaves-gap first plan s t c.args.count c.last_key-last.result last_is c.args.copy.now (g.B.Flash.state c.args.onto.now) works c.in_err-look_for_gap.field-0.0 (c.in_err-look_for_gap.ensures.looks source_first source_plan s tells stands))

pub returns-in_err-look_for_gap-clause-copy_stands : goal.returns-in_err-look_for_gap-clause-copy_stands
returns-in_err-look_for_gap-clause-copy_stands g c = λ first plan t works. (lose t, off-rests c.args.copy.now (g.B.Flash.state c.args.onto.now) first plan t true works.stands)

pub returns-in_err-look_for_gap-clause-none_bad : goal.returns-in_err-look_for_gap-clause-none_bad
returns-in_err-look_for_gap-clause-none_bad g c = λ first plan s tells stands bad is.
    let p = err_from_is_err_and c.from_residual.result c.from_residual.ensures.1 in
    look-good (records_in s) c.last_key-last.result c.in_err-look_for_gap.field-0.0 bad (same-stop c.in_err-look_for_gap.field-0.0 (stop.Ship (Read (read.BadPage bad))) (rw (p.1, p.2) at is)) (c.in_err-look_for_gap.ensures.looks first plan s tells stands)

pub returns-in_err-flush_copy-clause-ships : goal.returns-in_err-flush_copy-clause-ships
returns-in_err-flush_copy-clause-ships g c = λ source_first first source_plan plan s t tells stands works.
    let last_is : c.last_key-last.result ≡ option_map (λ (entry : Entry). entry.kept.key) (last_entry t) =
    c.last_key-last.ensures.stands (g.B.Flash.state c.args.onto.now) first (bare plan) (bare_table t) (table-stands c.table.result.now c.args.copy.now (g.B.Flash.state c.args.onto.now) first plan t c.table.ensures works) in
    let plain = source-plain c.args.source.now (g.A.Flash.state c.args.from.now) source_first source_plan s (layout_in (table_in c.args.copy.now)) stands c.requires.form c.requires.no_blobs in
    let follows = c.in_ok-look_for_gap.ensures.looks source_first source_plan s tells stands in
    let p = err_from_is_err_and c.from_residual-in_err-flush_copy.result c.from_residual-in_err-flush_copy.ensures.1 in
    rw (p.1, p.2) (leaves-unflushed first plan s t c.args.count c.last_key-last.result last_is follows (sym c.keys_above.ensures ∙ c.in_default.is) plain c.flush_copy.new.to (g.B.Flash.state c.flush_copy.new.onto) c.in_err-flush_copy.field-0.0
    (c.in_err-flush_copy.ensures.flushes first plan t works))

pub returns-in_err-flush_copy-clause-copy_stands : goal.returns-in_err-flush_copy-clause-copy_stands
returns-in_err-flush_copy-clause-copy_stands g c = λ first plan t works. flush-rests first plan t c.flush_copy.new.to (g.B.Flash.state c.flush_copy.new.onto) c.flush_copy.result (c.flush_copy.ensures.flushes first plan t works)

pub returns-in_default-clause-ships : goal.returns-in_default-clause-ships
returns-in_default-clause-ships g c = λ source_first first source_plan plan s t tells stands works.
    let last_is : c.last_key-last.result ≡ option_map (λ (entry : Entry). entry.kept.key) (last_entry t) =
    c.last_key-last.ensures.stands (g.B.Flash.state c.args.onto.now) first (bare plan) (bare_table t) (table-stands c.table.result.now c.args.copy.now (g.B.Flash.state c.args.onto.now) first plan t c.table.ensures works) in
    let plain = source-plain c.args.source.now (g.A.Flash.state c.args.from.now) source_first source_plan s (layout_in (table_in c.args.copy.now)) stands c.requires.form c.requires.no_blobs in
    let follows = c.in_ok-look_for_gap.ensures.looks source_first source_plan s tells stands in
    leaves-none first plan s t c.args.count c.last_key-last.result last_is follows (sym c.keys_above.ensures ∙ c.in_default.is) plain c.flush_copy.new.to (g.B.Flash.state c.flush_copy.new.onto) (c.in_ok-flush_copy.ensures.flushes first plan t works)

pub returns-in_default-clause-copy_stands : goal.returns-in_default-clause-copy_stands
returns-in_default-clause-copy_stands g c = λ first plan t works. flush-rests first plan t c.flush_copy.new.to (g.B.Flash.state c.flush_copy.new.onto) c.flush_copy.result (c.flush_copy.ensures.flushes first plan t works)

pub returns-in_err-shipped-clause-ships : goal.returns-in_err-shipped-clause-ships
returns-in_err-shipped-clause-ships g c = λ source_first first source_plan plan s t tells stands works.
    let last_is : c.last_key-last.result ≡ option_map (λ (entry : Entry). entry.kept.key) (last_entry t) =
    c.last_key-last.ensures.stands (g.B.Flash.state c.args.onto.now) first (bare plan) (bare_table t) (table-stands c.table.result.now c.args.copy.now (g.B.Flash.state c.args.onto.now) first plan t c.table.ensures works) in
    let plain = source-plain c.args.source.now (g.A.Flash.state c.args.from.now) source_first source_plan s (layout_in (table_in c.args.copy.now)) stands c.requires.form c.requires.no_blobs in
    let follows = c.in_ok-look_for_gap.ensures.looks source_first source_plan s tells stands in
    let f = g.A.Flash.state c.args.from.now in
    let m = g.A.Flash.state c.look_for_gap.new.from in
    let only = c.look_for_gap.ensures.reads_only in
    let told = c.begin-cursor.ensures.told (contents_of (g.A.Flash.state c.look_for_gap.new.from)) (is-standing c.args.source.now (g.A.Flash.state c.look_for_gap.new.from) source_first source_plan s
    (tells-read f m only tells) (g.met.A.Flash.reaches c.look_for_gap.new.from) (lies-read f m only c.args.source.now c.requires.lies) (stands-read f m only c.args.source.now source_first source_plan s stands)) in
    let left = c.begin-cursor.ensures.left m source_first source_plan s (tells-read f m only tells) (g.met.A.Flash.reaches c.look_for_gap.new.from) (lies-read f m only c.args.source.now c.requires.lies) (stands-read f m only c.args.source.now source_first source_plan s stands) in
    let are = wanted-are c.args.count s t c.last_key-last.result c.in-Some.range _ last_is (sym c.keys_above.ensures ∙ c.in-Some.is) plain left in
    let p = err_from_is_err_and c.from_residual-in_err-shipped.result c.from_residual-in_err-shipped.ensures.1 in
    rw (p.1, p.2) (leaves-stopped first plan s t c.args.count c.last_key-last.result last_is follows _ told _ are c.ship_rows-shipped.new.to (g.B.Flash.state c.ship_rows-shipped.new.onto) c.in_err-shipped.field-0.0
    (λ bad is. c.in_err-shipped.ensures.none_bad told bad (ap (λ (fault : ShipFault). Err fault) is)) (c.in_err-shipped.ensures.ships first plan t works))

pub returns-in_err-shipped-clause-copy_stands : goal.returns-in_err-shipped-clause-copy_stands
returns-in_err-shipped-clause-copy_stands g c = λ first plan t works. let rows = c.in_err-shipped.ensures.ships first plan t works in (lose rows.after, rows.rests)

pub returns-in_err-shipped-clause-none_bad : goal.returns-in_err-shipped-clause-none_bad
returns-in_err-shipped-clause-none_bad g c = λ source_first source_plan s tells stands bad is.
    let f = g.A.Flash.state c.args.from.now in
    let m = g.A.Flash.state c.look_for_gap.new.from in
    let only = c.look_for_gap.ensures.reads_only in
    let told = c.begin-cursor.ensures.told (contents_of (g.A.Flash.state c.look_for_gap.new.from)) (is-standing c.args.source.now (g.A.Flash.state c.look_for_gap.new.from) source_first source_plan s
    (tells-read f m only tells) (g.met.A.Flash.reaches c.look_for_gap.new.from) (lies-read f m only c.args.source.now c.requires.lies) (stands-read f m only c.args.source.now source_first source_plan s stands)) in
    let p = err_from_is_err_and c.from_residual-in_err-shipped.result c.from_residual-in_err-shipped.ensures.1 in
    c.in_err-shipped.ensures.none_bad told bad (same-fault c.in_err-shipped.field-0.0 (Read (read.BadPage bad)) (rw (p.1, p.2) at is))

pub returns-in_err-shipped-clause-cause : goal.returns-in_err-shipped-clause-cause
returns-in_err-shipped-clause-cause g c =
    let p = err_from_is_err_and c.from_residual-in_err-shipped.result c.from_residual-in_err-shipped.ensures.1 in
    rw (p.1, p.2) (caused-later (g.A.Flash.state c.args.from.now) (g.A.Flash.state c.look_for_gap.new.from) (g.A.Flash.state c.ship_rows-shipped.new.from) (g.B.Flash.state c.args.onto.now) (g.B.Flash.state c.ship_rows-shipped.new.onto) c.in_err-shipped.field-0.0
    c.look_for_gap.ensures.reads_only c.in_err-shipped.ensures.cause)

pub returns-in_err-shipped-clause-reads_only : goal.returns-in_err-shipped-clause-reads_only
returns-in_err-shipped-clause-reads_only g c = OnlyReads-then _ _ _ c.look_for_gap.ensures.reads_only c.ship_rows-shipped.ensures.reads_only

pub returns-clause-ships : goal.returns-clause-ships
returns-clause-ships g c = λ source_first first source_plan plan s t tells stands works.
    let last_is : c.last_key-last.result ≡ option_map (λ (entry : Entry). entry.kept.key) (last_entry t) =
    c.last_key-last.ensures.stands (g.B.Flash.state c.args.onto.now) first (bare plan) (bare_table t) (table-stands c.table.result.now c.args.copy.now (g.B.Flash.state c.args.onto.now) first plan t c.table.ensures works) in
    let plain = source-plain c.args.source.now (g.A.Flash.state c.args.from.now) source_first source_plan s (layout_in (table_in c.args.copy.now)) stands c.requires.form c.requires.no_blobs in
    let follows = c.in_ok-look_for_gap.ensures.looks source_first source_plan s tells stands in
    let f = g.A.Flash.state c.args.from.now in
    let m = g.A.Flash.state c.look_for_gap.new.from in
    let only = c.look_for_gap.ensures.reads_only in
    let told = c.begin-cursor.ensures.told (contents_of (g.A.Flash.state c.look_for_gap.new.from)) (is-standing c.args.source.now (g.A.Flash.state c.look_for_gap.new.from) source_first source_plan s
    (tells-read f m only tells) (g.met.A.Flash.reaches c.look_for_gap.new.from) (lies-read f m only c.args.source.now c.requires.lies) (stands-read f m only c.args.source.now source_first source_plan s stands)) in
    let left = c.begin-cursor.ensures.left m source_first source_plan s (tells-read f m only tells) (g.met.A.Flash.reaches c.look_for_gap.new.from) (lies-read f m only c.args.source.now c.requires.lies) (stands-read f m only c.args.source.now source_first source_plan s stands) in
    let are = wanted-are c.args.count s t c.last_key-last.result c.in-Some.range _ last_is (sym c.keys_above.ensures ∙ c.in-Some.is) plain left in
    leaves-shipped first plan s t c.args.count c.last_key-last.result last_is follows _ told _ are c.ship_rows-shipped.new.to (g.B.Flash.state c.ship_rows-shipped.new.onto) c.in_ok-shipped.field-0 (c.in_ok-shipped.ensures.ships first plan t works)

pub returns-clause-copy_stands : goal.returns-clause-copy_stands
returns-clause-copy_stands g c = λ first plan t works. let rows = c.in_ok-shipped.ensures.ships first plan t works in (lose rows.after, rows.rests)

pub returns-clause-reads_only : goal.returns-clause-reads_only
returns-clause-reads_only g c = OnlyReads-then _ _ _ c.look_for_gap.ensures.reads_only c.ship_rows-shipped.ensures.reads_only

pub returns-in_err-look_for_gap-clause-bad_page : goal.returns-in_err-look_for_gap-clause-bad_page
returns-in_err-look_for_gap-clause-bad_page g c = λ bad is.
    let p = err_from_is_err_and c.from_residual.result c.from_residual.ensures.1 in
    let same = same-stop c.in_err-look_for_gap.field-0.0 (stop.Ship (Read (read.BadPage bad))) (rw (p.1, p.2) at is) in
    c.look_for_gap.ensures.bad_page bad (c.in_err-look_for_gap.was ∙ ap (λ (s : Stop). Err s) same)

pub returns-in_err-shipped-clause-bad_page : goal.returns-in_err-shipped-clause-bad_page
returns-in_err-shipped-clause-bad_page g c = λ bad is.
    let p = err_from_is_err_and c.from_residual-in_err-shipped.result c.from_residual-in_err-shipped.ensures.1 in
    let same = same-fault c.in_err-shipped.field-0.0 (Read (read.BadPage bad)) (rw (p.1, p.2) at is) in
    subst (λ (k : Contents). MayBeBad c.args.source.now k bad) c.look_for_gap.ensures.reads_only.contents
    (subst (λ (t : Table 64 64). MayBeBad t (contents_of (g.A.Flash.state c.look_for_gap.new.from)) bad) c.begin-cursor.ensures.table (c.in_err-shipped.ensures.bad_page bad same))

-- ---- there is a gap, or it wasn't seen

pub returns-in_err-look_for_gap-clause-cause : goal.returns-in_err-look_for_gap-clause-cause
returns-in_err-look_for_gap-clause-cause g c =
    let p = err_from_is_err_and c.from_residual.result c.from_residual.ensures.1 in
    rw (p.1, p.2) (look-caused (g.A.Flash.state c.args.from.now) (g.A.Flash.state c.look_for_gap.new.from) (g.B.Flash.state c.args.onto.now) c.in_err-look_for_gap.field-0.0 c.in_err-look_for_gap.ensures.cause)

pub returns-in_err-look_for_gap-clause-gap_leaves : goal.returns-in_err-look_for_gap-clause-gap_leaves
returns-in_err-look_for_gap-clause-gap_leaves g c = λ last oldest is. refl

pub returns-in_err-look_for_gap-clause-numbers : goal.returns-in_err-look_for_gap-clause-numbers
returns-in_err-look_for_gap-clause-numbers g c = λ is.
    let p = err_from_is_err_and c.from_residual.result c.from_residual.ensures.1 in
    absurd (subst (LookCausedBy (g.A.Flash.state c.args.from.now) (g.A.Flash.state c.look_for_gap.new.from)) (same-stop c.in_err-look_for_gap.field-0.0 (stop.Ship (Put put.Spent)) (rw (p.1, p.2) at is)) c.in_err-look_for_gap.ensures.cause)

pub returns-in_err-look_for_gap-clause-few : goal.returns-in_err-look_for_gap-clause-few
returns-in_err-look_for_gap-clause-few g c = let p = err_from_is_err_and c.from_residual.result c.from_residual.ensures.1 in rw p.1 tt

pub returns-in_err-look_for_gap-clause-reads_only : goal.returns-in_err-look_for_gap-clause-reads_only
returns-in_err-look_for_gap-clause-reads_only g c = c.look_for_gap.ensures.reads_only

pub returns-in_err-look_for_gap-clause-goes : goal.returns-in_err-look_for_gap-clause-goes
returns-in_err-look_for_gap-clause-goes g c = goes-same _

pub returns-in_err-look_for_gap-clause-outside : goal.returns-in_err-look_for_gap-clause-outside
returns-in_err-look_for_gap-clause-outside g c = λ tells page rows index blobs log. refl

pub returns-in_err-look_for_gap-clause-same : goal.returns-in_err-look_for_gap-clause-same
returns-in_err-look_for_gap-clause-same g c = same-plan c.args.copy.now

pub returns-in_err-look_for_gap-clause-lies : goal.returns-in_err-look_for_gap-clause-lies
returns-in_err-look_for_gap-clause-lies g c = c.requires.copy_lies

-- ---- no key is left, and the flush failed

pub returns-in_err-flush_copy-clause-none_bad : goal.returns-in_err-flush_copy-clause-none_bad
returns-in_err-flush_copy-clause-none_bad g c = λ first plan s tells stands bad is.
    let p = err_from_is_err_and c.from_residual-in_err-flush_copy.result c.from_residual-in_err-flush_copy.ensures.1 in
    flush-good (g.A.Flash.state c.args.from.now) (g.A.Flash.state c.look_for_gap.new.from) (g.B.Flash.state c.args.onto.now) (g.B.Flash.state c.flush_copy.new.onto) c.in_err-flush_copy.field-0.0 c.in_err-flush_copy.ensures.cause bad (rw (p.1, p.2) at is)

pub returns-in_err-flush_copy-clause-cause : goal.returns-in_err-flush_copy-clause-cause
returns-in_err-flush_copy-clause-cause g c =
    let p = err_from_is_err_and c.from_residual-in_err-flush_copy.result c.from_residual-in_err-flush_copy.ensures.1 in
    rw (p.1, p.2) (flush-caused (g.A.Flash.state c.args.from.now) (g.A.Flash.state c.look_for_gap.new.from) (g.B.Flash.state c.args.onto.now) (g.B.Flash.state c.flush_copy.new.onto) c.in_err-flush_copy.field-0.0 c.in_err-flush_copy.ensures.cause)

pub returns-in_err-flush_copy-clause-gap : goal.returns-in_err-flush_copy-clause-gap
returns-in_err-flush_copy-clause-gap g c = λ last oldest is.
    let p = err_from_is_err_and c.from_residual-in_err-flush_copy.result c.from_residual-in_err-flush_copy.ensures.1 in
    absurd (ship-no-gap c.in_err-flush_copy.field-0.0 last oldest (rw (p.1, p.2) at is))

pub returns-in_err-flush_copy-clause-gap_leaves : goal.returns-in_err-flush_copy-clause-gap_leaves
returns-in_err-flush_copy-clause-gap_leaves g c = λ last oldest is.
    let p = err_from_is_err_and c.from_residual-in_err-flush_copy.result c.from_residual-in_err-flush_copy.ensures.1 in
    absurd (ship-no-gap c.in_err-flush_copy.field-0.0 last oldest (rw (p.1, p.2) at is))

pub returns-in_err-flush_copy-clause-bad_page : goal.returns-in_err-flush_copy-clause-bad_page
returns-in_err-flush_copy-clause-bad_page g c = λ bad is.
    let p = err_from_is_err_and c.from_residual-in_err-flush_copy.result c.from_residual-in_err-flush_copy.ensures.1 in
    absurd (flush-good (g.A.Flash.state c.args.from.now) (g.A.Flash.state c.look_for_gap.new.from) (g.B.Flash.state c.args.onto.now) (g.B.Flash.state c.flush_copy.new.onto) c.in_err-flush_copy.field-0.0 c.in_err-flush_copy.ensures.cause bad (rw (p.1, p.2) at is))

pub returns-in_err-flush_copy-clause-numbers : goal.returns-in_err-flush_copy-clause-numbers
returns-in_err-flush_copy-clause-numbers g c = λ is.
    let p = err_from_is_err_and c.from_residual-in_err-flush_copy.result c.from_residual-in_err-flush_copy.ensures.1 in
    absurd (flush-not-put (g.A.Flash.state c.args.from.now) (g.A.Flash.state c.look_for_gap.new.from) (g.B.Flash.state c.args.onto.now) (g.B.Flash.state c.flush_copy.new.onto) c.in_err-flush_copy.field-0.0 c.in_err-flush_copy.ensures.cause put.Spent
    (same-fault c.in_err-flush_copy.field-0.0 (Put put.Spent) (rw (p.1, p.2) at is)))

pub returns-in_err-flush_copy-clause-few : goal.returns-in_err-flush_copy-clause-few
returns-in_err-flush_copy-clause-few g c = let p = err_from_is_err_and c.from_residual-in_err-flush_copy.result c.from_residual-in_err-flush_copy.ensures.1 in rw p.1 tt

pub returns-in_err-flush_copy-clause-reads_only : goal.returns-in_err-flush_copy-clause-reads_only
returns-in_err-flush_copy-clause-reads_only g c = c.look_for_gap.ensures.reads_only

pub returns-in_err-flush_copy-clause-goes : goal.returns-in_err-flush_copy-clause-goes
returns-in_err-flush_copy-clause-goes g c = c.flush_copy.ensures.goes

pub returns-in_err-flush_copy-clause-outside : goal.returns-in_err-flush_copy-clause-outside
returns-in_err-flush_copy-clause-outside g c = c.flush_copy.ensures.outside

pub returns-in_err-flush_copy-clause-same : goal.returns-in_err-flush_copy-clause-same
returns-in_err-flush_copy-clause-same g c = c.flush_copy.ensures.same

pub returns-in_err-flush_copy-clause-lies : goal.returns-in_err-flush_copy-clause-lies
returns-in_err-flush_copy-clause-lies g c = c.flush_copy.ensures.lies

-- ---- .. or it is flushed

pub returns-in_default-clause-none_bad : goal.returns-in_default-clause-none_bad
returns-in_default-clause-none_bad g c = λ first plan s tells stands bad is. done-not-failed 0 (stop.Ship (Read (read.BadPage bad))) is

pub returns-in_default-clause-gap : goal.returns-in_default-clause-gap
returns-in_default-clause-gap g c = λ last oldest is. absurd (done-not-failed 0 (stop.Gap last oldest) is)

pub returns-in_default-clause-gap_leaves : goal.returns-in_default-clause-gap_leaves
returns-in_default-clause-gap_leaves g c = λ last oldest is. absurd (done-not-failed 0 (stop.Gap last oldest) is)

pub returns-in_default-clause-bad_page : goal.returns-in_default-clause-bad_page
returns-in_default-clause-bad_page g c = λ bad is. absurd (done-not-failed 0 (stop.Ship (Read (read.BadPage bad))) is)

pub returns-in_default-clause-numbers : goal.returns-in_default-clause-numbers
returns-in_default-clause-numbers g c = λ is. absurd (done-not-failed 0 (stop.Ship (Put put.Spent)) is)

pub returns-in_default-clause-few : goal.returns-in_default-clause-few
returns-in_default-clause-few g c = none-shipped c.args.count

pub returns-in_default-clause-reads_only : goal.returns-in_default-clause-reads_only
returns-in_default-clause-reads_only g c = c.look_for_gap.ensures.reads_only

pub returns-in_default-clause-goes : goal.returns-in_default-clause-goes
returns-in_default-clause-goes g c = c.flush_copy.ensures.goes

pub returns-in_default-clause-outside : goal.returns-in_default-clause-outside
returns-in_default-clause-outside g c = c.flush_copy.ensures.outside

pub returns-in_default-clause-same : goal.returns-in_default-clause-same
returns-in_default-clause-same g c = c.flush_copy.ensures.same

pub returns-in_default-clause-lies : goal.returns-in_default-clause-lies
returns-in_default-clause-lies g c = c.flush_copy.ensures.lies

-- ---- the rows weren't shipped

pub returns-in_err-shipped-clause-gap : goal.returns-in_err-shipped-clause-gap
returns-in_err-shipped-clause-gap g c = λ last oldest is.
    let p = err_from_is_err_and c.from_residual-in_err-shipped.result c.from_residual-in_err-shipped.ensures.1 in
    absurd (ship-no-gap c.in_err-shipped.field-0.0 last oldest (rw (p.1, p.2) at is))

pub returns-in_err-shipped-clause-gap_leaves : goal.returns-in_err-shipped-clause-gap_leaves
returns-in_err-shipped-clause-gap_leaves g c = λ last oldest is.
    let p = err_from_is_err_and c.from_residual-in_err-shipped.result c.from_residual-in_err-shipped.ensures.1 in
    absurd (ship-no-gap c.in_err-shipped.field-0.0 last oldest (rw (p.1, p.2) at is))

pub returns-in_err-shipped-clause-numbers : goal.returns-in_err-shipped-clause-numbers
returns-in_err-shipped-clause-numbers g c = λ is.
    let p = err_from_is_err_and c.from_residual-in_err-shipped.result c.from_residual-in_err-shipped.ensures.1 in
    c.in_err-shipped.ensures.numbers (same-fault c.in_err-shipped.field-0.0 (Put put.Spent) (rw (p.1, p.2) at is))

pub returns-in_err-shipped-clause-few : goal.returns-in_err-shipped-clause-few
returns-in_err-shipped-clause-few g c = let p = err_from_is_err_and c.from_residual-in_err-shipped.result c.from_residual-in_err-shipped.ensures.1 in rw p.1 tt

pub returns-in_err-shipped-clause-goes : goal.returns-in_err-shipped-clause-goes
returns-in_err-shipped-clause-goes g c = c.ship_rows-shipped.ensures.goes

pub returns-in_err-shipped-clause-outside : goal.returns-in_err-shipped-clause-outside
returns-in_err-shipped-clause-outside g c = c.ship_rows-shipped.ensures.outside

pub returns-in_err-shipped-clause-same : goal.returns-in_err-shipped-clause-same
returns-in_err-shipped-clause-same g c = c.ship_rows-shipped.ensures.same

pub returns-in_err-shipped-clause-lies : goal.returns-in_err-shipped-clause-lies
returns-in_err-shipped-clause-lies g c = c.ship_rows-shipped.ensures.lies

-- ---- .. or they were

pub returns-clause-none_bad : goal.returns-clause-none_bad
returns-clause-none_bad g c = λ first plan s tells stands bad is. done-not-failed c.in_ok-shipped.field-0 (stop.Ship (Read (read.BadPage bad))) is

pub returns-clause-gap : goal.returns-clause-gap
returns-clause-gap g c = λ last oldest is. absurd (done-not-failed c.in_ok-shipped.field-0 (stop.Gap last oldest) is)

pub returns-clause-gap_leaves : goal.returns-clause-gap_leaves
returns-clause-gap_leaves g c = λ last oldest is. absurd (done-not-failed c.in_ok-shipped.field-0 (stop.Gap last oldest) is)

pub returns-clause-bad_page : goal.returns-clause-bad_page
returns-clause-bad_page g c = λ bad is. absurd (done-not-failed c.in_ok-shipped.field-0 (stop.Ship (Read (read.BadPage bad))) is)

pub returns-clause-numbers : goal.returns-clause-numbers
returns-clause-numbers g c = λ is. absurd (done-not-failed c.in_ok-shipped.field-0 (stop.Ship (Put put.Spent)) is)

pub returns-clause-few : goal.returns-clause-few
returns-clause-few g c = c.in_ok-shipped.ensures.few

pub returns-clause-goes : goal.returns-clause-goes
returns-clause-goes g c = c.ship_rows-shipped.ensures.goes

pub returns-clause-outside : goal.returns-clause-outside
returns-clause-outside g c = c.ship_rows-shipped.ensures.outside

pub returns-clause-same : goal.returns-clause-same
returns-clause-same g c = c.ship_rows-shipped.ensures.same

pub returns-clause-lies : goal.returns-clause-lies
returns-clause-lies g c = c.ship_rows-shipped.ensures.lies

-- ---- what the calls ask for

pub look_for_gap-requires-clause-running : goal.look_for_gap-requires-clause-running
look_for_gap-requires-clause-running g c = c.requires.running

pub look_for_gap-requires-clause-lies : goal.look_for_gap-requires-clause-lies
look_for_gap-requires-clause-lies g c = c.requires.lies

pub look_for_gap-requires-clause-rows : goal.look_for_gap-requires-clause-rows
look_for_gap-requires-clause-rows g c = c.requires.rows

pub look_for_gap-requires-clause-index : goal.look_for_gap-requires-clause-index
look_for_gap-requires-clause-index g c = c.requires.index

pub flush_copy-requires-clause-running : goal.flush_copy-requires-clause-running
flush_copy-requires-clause-running g c = c.requires.copy_running

pub flush_copy-requires-clause-lies : goal.flush_copy-requires-clause-lies
flush_copy-requires-clause-lies g c = c.requires.copy_lies

pub ship_rows-shipped-requires-clause-ready : goal.ship_rows-shipped-requires-clause-ready
ship_rows-shipped-requires-clause-ready g c =
    c.begin-cursor.ensures.ready (g.A.Flash.state c.look_for_gap.new.from) (lies-read (g.A.Flash.state c.args.from.now) (g.A.Flash.state c.look_for_gap.new.from) c.look_for_gap.ensures.reads_only c.args.source.now c.requires.lies) (c.look_for_gap.ensures.rows ∙ (c.requires.rows ∙ sym (page-read (g.A.Flash.state c.args.from.now) (g.A.Flash.state c.look_for_gap.new.from) c.look_for_gap.ensures.reads_only))) (c.look_for_gap.ensures.index ∙ (c.requires.index ∙ sym (page-read (g.A.Flash.state c.args.from.now) (g.A.Flash.state c.look_for_gap.new.from) c.look_for_gap.ensures.reads_only)))

pub ship_rows-shipped-requires-clause-form : goal.ship_rows-shipped-requires-clause-form
ship_rows-shipped-requires-clause-form g c = ap (λ (t : Table 64 64). layout_in t) c.begin-cursor.ensures.table ∙ c.requires.form

pub ship_rows-shipped-requires-clause-no_blobs : goal.ship_rows-shipped-requires-clause-no_blobs
ship_rows-shipped-requires-clause-no_blobs g c = c.requires.no_blobs

pub ship_rows-shipped-requires-clause-running : goal.ship_rows-shipped-requires-clause-running
ship_rows-shipped-requires-clause-running g c = c.requires.copy_running

pub ship_rows-shipped-requires-clause-lies : goal.ship_rows-shipped-requires-clause-lies
ship_rows-shipped-requires-clause-lies g c = c.requires.copy_lies
