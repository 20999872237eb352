use Rattle.std.proofs.Common.{◌≡◌, ◌<◌, Some, length, refl, sym, arith, slice_get}
use Rattle.std.proofs.lemmas.Option.{slice_get_read}
use Rattle.fl_session.proofs.ToldOfTable.{none-off, none-past, pending-off, pending-some, pending-zero, rows-are, rows-none, pending-past}
use Rattle.fl_session.proofs.session.Session.pending_at.Goals as goal

pub returns-then-not-self-clause-holds : goal.returns-then-not-self-clause-holds
returns-then-not-self-clause-holds g c = λ config m h. sym (pending-off config m c.args.self.now.tables.entries.items c.args.self.now.notes _ c.args.self.now.mounted c.args.at h c.if-not-self.true)

pub returns-then-rows-eq0-clause-holds : goal.returns-then-rows-eq0-clause-holds
returns-then-rows-eq0-clause-holds g c = λ config m h.
    let entries = c.args.self.now.tables.entries.items in
    let within : c.args.at < length entries = omega (arith, c.len.ensures, c.if-at-len.false) in
    let here : slice_get entries c.args.at ≡ Some c.index-entry.result.now = slice_get_read entries (length entries) c.args.at c.index-entry.result.now refl within c.index-entry.ensures in
    sym (pending-zero config m entries c.args.self.now.notes _ c.args.self.now.mounted c.args.at h c.index-entry.result.now c.table.result.now c.pending_rows-rows.result c.if-not-self.false here c.table.ensures c.pending_rows-rows.ensures.stands c.if-rows-eq0.true)

pub returns-clause-holds : goal.returns-clause-holds
returns-clause-holds g c = λ config m h.
    let entries = c.args.self.now.tables.entries.items in
    let within : c.args.at < length entries = omega (arith, c.len.ensures, c.if-at-len.false) in
    let here : slice_get entries c.args.at ≡ Some c.index-entry.result.now = slice_get_read entries (length entries) c.args.at c.index-entry.result.now refl within c.index-entry.ensures in
    sym (pending-some config m entries c.args.self.now.notes _ c.args.self.now.mounted c.args.at h c.index-entry.result.now c.table.result.now c.pending_rows-rows.result c.if-not-self.false here c.table.ensures c.pending_rows-rows.ensures.stands c.if-rows-eq0.false)

pub returns-then-not-self-clause-cause : goal.returns-then-not-self-clause-cause
returns-then-not-self-clause-cause g c = none-off c.args.self.now.tables.entries.items c.args.self.now.mounted c.args.at c.if-not-self.true

pub returns-then-at-len-clause-cause : goal.returns-then-at-len-clause-cause
returns-then-at-len-clause-cause g c = none-past c.args.self.now.tables.entries.items c.args.self.now.mounted c.args.at (omega (arith, c.len.ensures, c.if-at-len.true))

pub returns-then-rows-eq0-clause-cause : goal.returns-then-rows-eq0-clause-cause
returns-then-rows-eq0-clause-cause g c =
    let entries = c.args.self.now.tables.entries.items in
    let within : c.args.at < length entries = omega (arith, c.len.ensures, c.if-at-len.false) in
    let here : slice_get entries c.args.at ≡ Some c.index-entry.result.now = slice_get_read entries (length entries) c.args.at c.index-entry.result.now refl within c.index-entry.ensures in
    rows-none c.args.self.now.tables.entries.items c.args.self.now.mounted c.args.at c.index-entry.result.now c.table.result.now c.pending_rows-rows.result c.if-not-self.false here c.table.ensures c.pending_rows-rows.ensures.exact c.if-rows-eq0.true

pub returns-clause-cause : goal.returns-clause-cause
returns-clause-cause g c =
    let entries = c.args.self.now.tables.entries.items in
    let within : c.args.at < length entries = omega (arith, c.len.ensures, c.if-at-len.false) in
    let here : slice_get entries c.args.at ≡ Some c.index-entry.result.now = slice_get_read entries (length entries) c.args.at c.index-entry.result.now refl within c.index-entry.ensures in
    rows-are c.args.self.now.tables.entries.items c.args.self.now.mounted c.args.at c.index-entry.result.now c.table.result.now c.pending_rows-rows.result c.if-not-self.false here c.table.ensures c.pending_rows-rows.ensures.exact c.if-rows-eq0.false

pub returns-then-at-len-clause-holds : goal.returns-then-at-len-clause-holds
returns-then-at-len-clause-holds g c = λ config m h. sym (pending-past config m c.args.self.now.tables.entries.items c.args.self.now.notes _ c.args.self.now.mounted c.args.at h (omega (arith, c.len.ensures, c.if-at-len.true)))
