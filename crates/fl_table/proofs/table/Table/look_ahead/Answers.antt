use Rattle.std.proofs.Common.{◌+◌, Option, Result, Ok, Err, sym, ap, subst, ◌≡◌, [], ◌∙◌, refl, length, le-add_right}
use Rattle.fl_base.specs.declared.types.Span.{Span}
use Rattle.fl_flash.specs.Buffer.{BufferState}
use Rattle.fl_flash.specs.Flash.{page_at}
use Rattle.fl_index.specs.declared.index.BitmapIndex.{BitmapIndex}
use Rattle.fl_index.specs.declared.page.Found.{Found}
use Rattle.fl_index.specs.Looking.{ShowsEntry, next_to_read}
use Rattle.fl_model.specs.Image.{rows_at}
use Rattle.fl_model.specs.Query.{selected}
use Rattle.fl_index.proofs.LookupsOfTable.{told-some}
use Rattle.fl_page.specs.declared.fault.ReadFault.{ReadFault}
use Rattle.fl_parts.specs.declared.ahead.Ahead.{Ahead}
use Rattle.fl_parts.specs.declared.ahead.Ahead.TheVariants.{Wanted, Missed}
use Rattle.fl_parts.specs.Skipping.{AreFresh, AreScanning, LooksOn, ShowsPage}
use Rattle.fl_parts.proofs.Skipping.{fresh-still, looks-none, looks-plain, looks-found, looks-failed, bad-index, looked-up, unasked-up, unindexed-up, shows-none, shows-unindexed, shows-some, shows-fault, told-by}
use Rattle.fl_table.proofs.IndexStands.{index-stands, some-bits}
use Rattle.fl_table.proofs.Entries.{first-few}
use Rattle.fl_parts.proofs.IndexOfTable.{none-there}
use Rattle.fl_frame.proofs.ContentsInTurn.{OnlyReads-same}
use Rattle.fl_table.proofs.table.Table.look_ahead.Goals as goal

pub returns-in_default-bitmaps-clause-shows : goal.returns-in_default-bitmaps-clause-shows
returns-in_default-bitmaps-clause-shows g c = λ first plan table n rows told stands fresh at here some.
    subst (λ (s : Option Span). ShowsPage plan table s c.args.top c.args.number (rows_at table n rows) (Ok Wanted)) (sym c.in-Some.is)
    (shows-unindexed c.args.self.now.bitmaps (first + plan.data_blocks) plan table c.in-Some.span c.args.top c.args.number (rows_at table n rows) c.in_default-bitmaps.not-Some stands.planned.index)

pub returns-in-Ok-None-clause-shows : goal.returns-in-Ok-None-clause-shows
returns-in-Ok-None-clause-shows g c = λ first plan table n rows told stands fresh at here some.
    let t = c.args.self.now in
    let f = g.F.Flash.state c.args.flash.now in
    let is = c.in-Some-bitmaps.is in
    let index = c.in-Some-bitmaps.index in
    let shown = c.in-Ok-None.ensures.stands (first + plan.data_blocks) plan table told (index-stands t f first plan table stands index is)
    (subst (λ (o : Option BitmapIndex). AreFresh o (g.F.Flash.state c.args.flash.now) c.args.buf.now) is fresh) in
    let none = subst (λ (o : Option Found). ShowsEntry plan table c.args.number (Ok o)) c.in-Ok-None.field-0-is shown in
    subst (λ (s : Option Span). ShowsPage plan table s c.args.top c.args.number (rows_at table n rows) (Ok Wanted)) (sym c.in-Some.is)
    (shows-none plan table c.in-Some.span c.args.top c.args.number (rows_at table n rows) none.0)

pub returns-in-Ok-Some-clause-shows : goal.returns-in-Ok-Some-clause-shows
returns-in-Ok-Some-clause-shows g c = λ first plan table n rows told stands fresh at here some.
    let t = c.args.self.now in
    let f = g.F.Flash.state c.args.flash.now in
    let is = c.in-Some-bitmaps.is in
    let index = c.in-Some-bitmaps.index in
    let shown = c.in-Ok-Some.ensures.stands (first + plan.data_blocks) plan table told (index-stands t f first plan table stands index is)
    (subst (λ (o : Option BitmapIndex). AreFresh o (g.F.Flash.state c.args.flash.now) c.args.buf.now) is fresh) in
    let found = subst (λ (o : Option Found). ShowsEntry plan table c.args.number (Ok o)) c.in-Ok-Some.field-0-is shown in
    let tells = found.1 n rows at here (told-some plan rows some) in
    subst (λ (s : Option Span). ShowsPage plan table s c.args.top c.args.number (rows_at table n rows) (Ok c.ahead_by.result)) (sym c.in-Some.is)
    (c.ahead_by.ensures.exact plan stands.planned.buckets (some-bits t f first plan table stands index is)
    ∙ shows-some plan table c.in-Some.span c.args.top c.args.number c.in-Ok-Some.found (rows_at table n rows) found.0 tells (first-few t first plan table stands.planned stands.facts.fit n rows))

pub returns-in-Err-clause-shows : goal.returns-in-Err-clause-shows
returns-in-Err-clause-shows g c = λ first plan table n rows told stands fresh at here some.
    let t = c.args.self.now in
    let f = g.F.Flash.state c.args.flash.now in
    let is = c.in-Some-bitmaps.is in
    let index = c.in-Some-bitmaps.index in
    let shown = c.in-Err.ensures.stands (first + plan.data_blocks) plan table told (index-stands t f first plan table stands index is)
    (subst (λ (o : Option BitmapIndex). AreFresh o (g.F.Flash.state c.args.flash.now) c.args.buf.now) is fresh) in
    shows-fault plan table c.args.span c.args.top c.args.number (rows_at table n rows) c.in-Err.fault shown

pub returns-in-Ok-None-clause-looks : goal.returns-in-Ok-None-clause-looks
returns-in-Ok-None-clause-looks g c = λ first plan table told stands fresh scanning.
    let t = c.args.self.now in
    let f = g.F.Flash.state c.args.flash.now in
    let is = c.in-Some-bitmaps.is in
    let index = c.in-Some-bitmaps.index in
    let indexed = index-stands t f first plan table stands index is in
    let known = subst (λ (o : Option BitmapIndex). AreFresh o (g.F.Flash.state c.args.flash.now) c.args.buf.now) is fresh in
    let scans = subst (λ (o : Option BitmapIndex). AreScanning o c.args.number c.args.buf.now) is scanning in
    subst (λ (s : Option Span). LooksOn c.args.self.now.bitmaps s c.args.number c.args.buf.now (g.F.Flash.state c.args.flash.now).work.reads (Ok Wanted) (g.F.Flash.state c.entry_of.new.flash).work.reads c.entry_of.new.buf) (sym c.in-Some.is)
    (looks-found t.bitmaps index is c.in-Some.span c.args.number c.args.buf.now f (g.F.Flash.state c.entry_of.new.flash) c.entry_of.new.buf Wanted
    (c.in-Ok-None.ensures.scans (first + plan.data_blocks) plan table (next_to_read index c.args.buf.now) told indexed known scans)
    (c.in-Ok-None.ensures.most (first + plan.data_blocks) plan table (next_to_read index c.args.buf.now) told indexed known scans)
    (λ numbers later lt. c.in-Ok-None.ensures.least (first + plan.data_blocks) plan table (next_to_read index c.args.buf.now) numbers told indexed known scans later lt))

pub returns-in-Ok-Some-clause-looks : goal.returns-in-Ok-Some-clause-looks
returns-in-Ok-Some-clause-looks g c = λ first plan table told stands fresh scanning.
    let t = c.args.self.now in
    let f = g.F.Flash.state c.args.flash.now in
    let is = c.in-Some-bitmaps.is in
    let index = c.in-Some-bitmaps.index in
    let indexed = index-stands t f first plan table stands index is in
    let known = subst (λ (o : Option BitmapIndex). AreFresh o (g.F.Flash.state c.args.flash.now) c.args.buf.now) is fresh in
    let scans = subst (λ (o : Option BitmapIndex). AreScanning o c.args.number c.args.buf.now) is scanning in
    subst (λ (s : Option Span). LooksOn c.args.self.now.bitmaps s c.args.number c.args.buf.now (g.F.Flash.state c.args.flash.now).work.reads (Ok c.ahead_by.result) (g.F.Flash.state c.entry_of.new.flash).work.reads c.entry_of.new.buf) (sym c.in-Some.is)
    (looks-found t.bitmaps index is c.in-Some.span c.args.number c.args.buf.now f (g.F.Flash.state c.entry_of.new.flash) c.entry_of.new.buf c.ahead_by.result
    (c.in-Ok-Some.ensures.scans (first + plan.data_blocks) plan table (next_to_read index c.args.buf.now) told indexed known scans)
    (c.in-Ok-Some.ensures.most (first + plan.data_blocks) plan table (next_to_read index c.args.buf.now) told indexed known scans)
    (λ numbers later lt. c.in-Ok-Some.ensures.least (first + plan.data_blocks) plan table (next_to_read index c.args.buf.now) numbers told indexed known scans later lt))

pub returns-in-Err-clause-looks : goal.returns-in-Err-clause-looks
returns-in-Err-clause-looks g c = λ first plan table told stands fresh scanning.
    let t = c.args.self.now in
    let f = g.F.Flash.state c.args.flash.now in
    let is = c.in-Some-bitmaps.is in
    let index = c.in-Some-bitmaps.index in
    let indexed = index-stands t f first plan table stands index is in
    let known = subst (λ (o : Option BitmapIndex). AreFresh o (g.F.Flash.state c.args.flash.now) c.args.buf.now) is fresh in
    let scans = subst (λ (o : Option BitmapIndex). AreScanning o c.args.number c.args.buf.now) is scanning in
    subst (λ (s : Option Span). LooksOn {X = Ahead} c.args.self.now.bitmaps s c.args.number c.args.buf.now (g.F.Flash.state c.args.flash.now).work.reads (Err c.in-Err.fault) (g.F.Flash.state c.entry_of.new.flash).work.reads c.forget.new.self) (sym c.in-Some.is)
    (looks-failed t.bitmaps index is c.in-Some.span c.args.number c.args.buf.now f (g.F.Flash.state c.entry_of.new.flash) c.forget.new.self c.in-Err.fault
    (c.in-Err.ensures.most (first + plan.data_blocks) plan table (next_to_read index c.args.buf.now) told indexed known scans)
    (c.in-Err.ensures.again (first + plan.data_blocks) plan table (next_to_read index c.args.buf.now) told indexed known scans)
    (ap (λ (b : BufferState). b.holds) c.forget.ensures))

pub returns-in-Err-clause-bad : goal.returns-in-Err-clause-bad
returns-in-Err-clause-bad g c = bad-index c.args.self.now.bitmaps c.in-Some-bitmaps.index c.in-Some-bitmaps.is (g.F.Flash.state c.args.flash.now) c.args.buf.now c.in-Err.fault c.in-Err.ensures.bad

pub returns-in-Ok-Some-clause-misses : goal.returns-in-Ok-Some-clause-misses
returns-in-Ok-Some-clause-misses g c = λ first plan table n rows range told stands fresh at here some missed.
    let t = c.args.self.now in
    let f = g.F.Flash.state c.args.flash.now in
    let is = c.in-Some-bitmaps.is in
    let index = c.in-Some-bitmaps.index in
    let shown = c.in-Ok-Some.ensures.stands (first + plan.data_blocks) plan table told (index-stands t f first plan table stands index is)
    (subst (λ (o : Option BitmapIndex). AreFresh o (g.F.Flash.state c.args.flash.now) c.args.buf.now) is fresh) in
    let found = subst (λ (o : Option Found). ShowsEntry plan table c.args.number (Ok o)) c.in-Ok-Some.field-0-is shown in
    subst (λ (s : Option Span). selected range s (rows_at table n rows) ≡ []) (sym c.in-Some.is)
    (c.ahead_by.ensures.misses plan (rows_at table n rows) range stands.planned.buckets (some-bits t f first plan table stands index is)
    (found.1 n rows at here (told-some plan rows some)).bitmap (ok-same c.ahead_by.result missed))
  where
    ok-same : (a : Ahead) → ◌≡◌ {A = Result Ahead ReadFault} (Ok a) (Ok Missed) → a ≡ Missed
    ok-same a e = cc

pub returns-in_default-clause-looks : goal.returns-in_default-clause-looks
returns-in_default-clause-looks g c = λ first plan table told stands fresh scanning.
    let t = c.args.self.now in
    let reads = (g.F.Flash.state c.args.flash.now).work.reads in
    subst (λ (s : Option Span). LooksOn c.args.self.now.bitmaps s c.args.number c.args.buf.now (g.F.Flash.state c.args.flash.now).work.reads (Ok Wanted) (g.F.Flash.state c.args.flash.now).work.reads c.args.buf.now) (sym c.in_default.is)
    (looks-none Wanted t.bitmaps c.args.number reads c.args.buf.now scanning)

pub returns-in_default-bitmaps-clause-looks : goal.returns-in_default-bitmaps-clause-looks
returns-in_default-bitmaps-clause-looks g c = λ first plan table told stands fresh scanning.
    looks-plain Wanted c.args.self.now.bitmaps c.in_default-bitmaps.is c.args.span c.args.number (g.F.Flash.state c.args.flash.now).work.reads c.args.buf.now

pub returns-in-Ok-None-clause-fresh : goal.returns-in-Ok-None-clause-fresh
returns-in-Ok-None-clause-fresh g c = λ told.
    fresh-still c.args.self.now.bitmaps c.in-Some-bitmaps.index c.in-Some-bitmaps.is (g.F.Flash.state c.args.flash.now) (g.F.Flash.state c.entry_of.new.flash) c.args.buf.now c.entry_of.new.buf (c.in-Ok-None.ensures.fresh told)

pub returns-in-Ok-Some-clause-fresh : goal.returns-in-Ok-Some-clause-fresh
returns-in-Ok-Some-clause-fresh g c = λ told.
    fresh-still c.args.self.now.bitmaps c.in-Some-bitmaps.index c.in-Some-bitmaps.is (g.F.Flash.state c.args.flash.now) (g.F.Flash.state c.entry_of.new.flash) c.args.buf.now c.entry_of.new.buf (c.in-Ok-Some.ensures.fresh told)

pub returns-in_default-clause-one : goal.returns-in_default-clause-one
returns-in_default-clause-one g c = le-add_right _ 1

pub returns-in_default-clause-room : goal.returns-in_default-clause-room
returns-in_default-clause-room g c = refl

pub returns-in_default-clause-none : goal.returns-in_default-clause-none
returns-in_default-clause-none g c = tt

pub returns-in_default-clause-fresh : goal.returns-in_default-clause-fresh
returns-in_default-clause-fresh g c = λ told fresh. fresh

pub returns-in_default-clause-unasked : goal.returns-in_default-clause-unasked
returns-in_default-clause-unasked g c = λ e. (refl, refl, refl)

pub returns-in_default-clause-unindexed : goal.returns-in_default-clause-unindexed
returns-in_default-clause-unindexed g c = λ e. (refl, refl, refl)

pub returns-in_default-clause-good : goal.returns-in_default-clause-good
returns-in_default-clause-good g c = λ h. h

pub returns-in_default-clause-bad : goal.returns-in_default-clause-bad
returns-in_default-clause-bad g c = tt

pub returns-in_default-clause-cause : goal.returns-in_default-clause-cause
returns-in_default-clause-cause g c = tt

pub returns-in_default-bitmaps-clause-one : goal.returns-in_default-bitmaps-clause-one
returns-in_default-bitmaps-clause-one g c = le-add_right _ 1

pub returns-in_default-bitmaps-clause-room : goal.returns-in_default-bitmaps-clause-room
returns-in_default-bitmaps-clause-room g c = refl

pub returns-in_default-bitmaps-clause-none : goal.returns-in_default-bitmaps-clause-none
returns-in_default-bitmaps-clause-none g c = tt

pub returns-in_default-bitmaps-clause-fresh : goal.returns-in_default-bitmaps-clause-fresh
returns-in_default-bitmaps-clause-fresh g c = λ told fresh. fresh

pub returns-in_default-bitmaps-clause-unasked : goal.returns-in_default-bitmaps-clause-unasked
returns-in_default-bitmaps-clause-unasked g c = λ e. (refl, refl, refl)

pub returns-in_default-bitmaps-clause-unindexed : goal.returns-in_default-bitmaps-clause-unindexed
returns-in_default-bitmaps-clause-unindexed g c = λ e. (refl, refl, refl)

pub returns-in_default-bitmaps-clause-good : goal.returns-in_default-bitmaps-clause-good
returns-in_default-bitmaps-clause-good g c = λ h. h

pub returns-in_default-bitmaps-clause-bad : goal.returns-in_default-bitmaps-clause-bad
returns-in_default-bitmaps-clause-bad g c = tt

pub returns-in_default-bitmaps-clause-cause : goal.returns-in_default-bitmaps-clause-cause
returns-in_default-bitmaps-clause-cause g c = tt

pub returns-in-Ok-None-clause-counts : goal.returns-in-Ok-None-clause-counts
returns-in-Ok-None-clause-counts g c = c.in-Ok-None.ensures.counts

pub returns-in-Ok-None-clause-one : goal.returns-in-Ok-None-clause-one
returns-in-Ok-None-clause-one g c = c.in-Ok-None.ensures.reads.reads

pub returns-in-Ok-None-clause-room : goal.returns-in-Ok-None-clause-room
returns-in-Ok-None-clause-room g c = c.in-Ok-None.ensures.room

pub returns-in-Ok-None-clause-none : goal.returns-in-Ok-None-clause-none
returns-in-Ok-None-clause-none g c = tt

pub returns-in-Ok-None-clause-bad : goal.returns-in-Ok-None-clause-bad
returns-in-Ok-None-clause-bad g c = tt

pub returns-in-Ok-None-clause-cause : goal.returns-in-Ok-None-clause-cause
returns-in-Ok-None-clause-cause g c = tt

pub returns-in-Ok-Some-clause-counts : goal.returns-in-Ok-Some-clause-counts
returns-in-Ok-Some-clause-counts g c = c.in-Ok-Some.ensures.counts

pub returns-in-Ok-Some-clause-one : goal.returns-in-Ok-Some-clause-one
returns-in-Ok-Some-clause-one g c = c.in-Ok-Some.ensures.reads.reads

pub returns-in-Ok-Some-clause-room : goal.returns-in-Ok-Some-clause-room
returns-in-Ok-Some-clause-room g c = c.in-Ok-Some.ensures.room

pub returns-in-Ok-Some-clause-none : goal.returns-in-Ok-Some-clause-none
returns-in-Ok-Some-clause-none g c = tt

pub returns-in-Ok-Some-clause-bad : goal.returns-in-Ok-Some-clause-bad
returns-in-Ok-Some-clause-bad g c = tt

pub returns-in-Ok-Some-clause-cause : goal.returns-in-Ok-Some-clause-cause
returns-in-Ok-Some-clause-cause g c = tt

pub returns-in-Err-clause-counts : goal.returns-in-Err-clause-counts
returns-in-Err-clause-counts g c = c.in-Err.ensures.counts

pub returns-in-Err-clause-one : goal.returns-in-Err-clause-one
returns-in-Err-clause-one g c = c.in-Err.ensures.reads.reads

pub returns-in-Err-clause-cause : goal.returns-in-Err-clause-cause
returns-in-Err-clause-cause g c = c.in-Err.ensures.cause

pub returns-in-Err-clause-none : goal.returns-in-Err-clause-none
returns-in-Err-clause-none g c = ap (λ (b : BufferState). b.holds) c.forget.ensures

not-missed : ◌≡◌ {A = Result Ahead ReadFault} (Ok Wanted) (Ok Missed) → ⊥
not-missed e = cc

not-failed : (fault : ReadFault) → ◌≡◌ {A = Result Ahead ReadFault} (Err fault) (Ok Missed) → ⊥
not-failed fault e = cc

pub returns-in_default-clause-counts : goal.returns-in_default-clause-counts
returns-in_default-clause-counts g c = OnlyReads-same (g.F.Flash.state c.args.flash.now)

pub returns-in_default-bitmaps-clause-counts : goal.returns-in_default-bitmaps-clause-counts
returns-in_default-bitmaps-clause-counts g c = OnlyReads-same (g.F.Flash.state c.args.flash.now)

pub returns-in-Ok-None-clause-unasked : goal.returns-in-Ok-None-clause-unasked
returns-in-Ok-None-clause-unasked g c = λ none. absurd (none-there c.args.span _ none c.in-Some.is)

pub returns-in-Ok-None-clause-unindexed : goal.returns-in-Ok-None-clause-unindexed
returns-in-Ok-None-clause-unindexed g c = λ none. absurd (none-there c.args.self.now.bitmaps c.in-Some-bitmaps.index none c.in-Some-bitmaps.is)

pub returns-in-Ok-Some-clause-unasked : goal.returns-in-Ok-Some-clause-unasked
returns-in-Ok-Some-clause-unasked g c = λ none. absurd (none-there c.args.span _ none c.in-Some.is)

pub returns-in-Ok-Some-clause-unindexed : goal.returns-in-Ok-Some-clause-unindexed
returns-in-Ok-Some-clause-unindexed g c = λ none. absurd (none-there c.args.self.now.bitmaps c.in-Some-bitmaps.index none c.in-Some-bitmaps.is)

pub returns-in-Err-clause-unasked : goal.returns-in-Err-clause-unasked
returns-in-Err-clause-unasked g c = λ none. absurd (none-there c.args.span _ none c.in-Some.is)

pub returns-in-Err-clause-unindexed : goal.returns-in-Err-clause-unindexed
returns-in-Err-clause-unindexed g c = λ none. absurd (none-there c.args.self.now.bitmaps c.in-Some-bitmaps.index none c.in-Some-bitmaps.is)

pub returns-in_default-clause-misses : goal.returns-in_default-clause-misses
returns-in_default-clause-misses g c = λ first plan table n rows range told stands fresh at here some missed. absurd (not-missed missed)

pub returns-in_default-bitmaps-clause-misses : goal.returns-in_default-bitmaps-clause-misses
returns-in_default-bitmaps-clause-misses g c = λ first plan table n rows range told stands fresh at here some missed. absurd (not-missed missed)

pub returns-in-Ok-None-clause-misses : goal.returns-in-Ok-None-clause-misses
returns-in-Ok-None-clause-misses g c = λ first plan table n rows range told stands fresh at here some missed. absurd (not-missed missed)

pub returns-in-Err-clause-misses : goal.returns-in-Err-clause-misses
returns-in-Err-clause-misses g c = λ first plan table n rows range told stands fresh at here some missed. absurd (not-failed c.in-Err.fault missed)

pub returns-in-Err-clause-room : goal.returns-in-Err-clause-room
returns-in-Err-clause-room g c = ap (λ (b : BufferState). length b.bytes) c.forget.ensures ∙ c.in-Err.ensures.room

pub returns-in_default-clause-told : goal.returns-in_default-clause-told
returns-in_default-clause-told g c = λ told fresh other. absurd (other refl)

pub returns-in_default-bitmaps-clause-told : goal.returns-in_default-bitmaps-clause-told
returns-in_default-bitmaps-clause-told g c = λ told fresh other. absurd (other refl)

pub returns-in-Ok-None-clause-told : goal.returns-in-Ok-None-clause-told
returns-in-Ok-None-clause-told g c = λ told fresh other. absurd (other refl)

pub returns-in-Err-clause-told : goal.returns-in-Err-clause-told
returns-in-Err-clause-told g c = λ told fresh. tt

pub returns-in-Ok-Some-clause-told : goal.returns-in-Ok-Some-clause-told
returns-in-Ok-Some-clause-told g c = λ told fresh other.
    let e = c.in-Ok-Some.ensures in
    told-by c.args.self.now.bitmaps c.args.self.now.buckets c.args.span c.in-Some-bitmaps.index c.in-Some.span c.in-Some-bitmaps.is c.in-Some.is (g.F.Flash.state c.args.flash.now) c.args.top c.args.number c.args.buf.now
    (g.F.Flash.state c.entry_of.new.flash) c.entry_of.new.buf _ c.in-Ok-Some.found c.in-Ok-Some.field-0-is c.ahead_by.result told fresh e.memory e.found e.page c.ahead_by.ensures.told

pub returns-in_default-clause-looked_up : goal.returns-in_default-clause-looked_up
returns-in_default-clause-looked_up g c = λ told fresh. unasked-up c.args.self.now.bitmaps (page_at (g.F.Flash.state c.args.flash.now)) c.args.span c.args.number c.args.buf.now c.in_default.is

pub returns-in_default-bitmaps-clause-looked_up : goal.returns-in_default-bitmaps-clause-looked_up
returns-in_default-bitmaps-clause-looked_up g c = λ told fresh. unindexed-up c.args.self.now.bitmaps (page_at (g.F.Flash.state c.args.flash.now)) c.args.span c.args.number c.args.buf.now c.in_default-bitmaps.is

pub returns-in-Ok-None-clause-looked_up : goal.returns-in-Ok-None-clause-looked_up
returns-in-Ok-None-clause-looked_up g c = λ told fresh.
    let e = c.in-Ok-None.ensures in
    looked-up c.args.self.now.bitmaps c.args.span c.in-Some-bitmaps.index c.in-Some.span c.in-Some-bitmaps.is c.in-Some.is (g.F.Flash.state c.args.flash.now) c.args.number c.args.buf.now c.entry_of.new.buf _ told fresh e.found e.page

pub returns-in-Ok-Some-clause-looked_up : goal.returns-in-Ok-Some-clause-looked_up
returns-in-Ok-Some-clause-looked_up g c = λ told fresh.
    let e = c.in-Ok-Some.ensures in
    looked-up c.args.self.now.bitmaps c.args.span c.in-Some-bitmaps.index c.in-Some.span c.in-Some-bitmaps.is c.in-Some.is (g.F.Flash.state c.args.flash.now) c.args.number c.args.buf.now c.entry_of.new.buf _ told fresh e.found e.page

pub returns-in-Err-clause-looked_up : goal.returns-in-Err-clause-looked_up
returns-in-Err-clause-looked_up g c = λ told fresh. tt
