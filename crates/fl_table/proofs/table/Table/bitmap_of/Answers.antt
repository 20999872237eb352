use Rattle.std.proofs.Common.{◌+◌, Option, subst, refl, le-add_right}
use Rattle.fl_index.specs.Looking.{bitmap_alone}
use Rattle.fl_index.specs.declared.index.BitmapIndex.{BitmapIndex}
use Rattle.fl_parts.specs.Skipping.{AreFresh}
use Rattle.fl_parts.proofs.Skipping.{bad-answer, looks-from, looks-up, fresh-still}
use Rattle.fl_table.proofs.IndexStands.{index-stands}
use Rattle.fl_frame.proofs.ContentsInTurn.{OnlyReads-same}
use Rattle.fl_table.proofs.table.Table.bitmap_of.Goals as goal

pub returns-in-Some-clause-stands : goal.returns-in-Some-clause-stands
returns-in-Some-clause-stands g c = λ first plan table told stands fresh.
    let f = g.F.Flash.state c.args.flash.now in
    let known = subst (λ (o : Option BitmapIndex). AreFresh o (g.F.Flash.state c.args.flash.now) c.args.buf.now) c.in-Some.is fresh in
    c.bitmap_of.ensures.stands (first + plan.data_blocks) plan table told (index-stands c.args.self.now f first plan table stands c.in-Some.index c.in-Some.is) known

pub returns-in-Some-clause-scans : goal.returns-in-Some-clause-scans
returns-in-Some-clause-scans g c = λ first plan table told stands fresh.
    let f = g.F.Flash.state c.args.flash.now in
    let indexed = index-stands c.args.self.now f first plan table stands c.in-Some.index c.in-Some.is in
    let begin = first + plan.data_blocks in
    looks-from c.args.self.now.bitmaps c.in-Some.index c.in-Some.is c.args.number f c.args.buf.now c.bitmap_of.result (g.F.Flash.state c.bitmap_of.new.flash) c.bitmap_of.new.buf (λ known. record {
      scans = λ from scanning. c.bitmap_of.ensures.scans begin plan table from told indexed known scanning;
      most = λ from scanning. c.bitmap_of.ensures.most begin plan table from told indexed known scanning;
      least = λ from numbers scanning later lt. c.bitmap_of.ensures.least begin plan table from numbers told indexed known scanning later lt;
      again = λ from scanning. c.bitmap_of.ensures.again begin plan table from told indexed known scanning;
    }) fresh

pub returns-in-Some-clause-looks : goal.returns-in-Some-clause-looks
returns-in-Some-clause-looks g c =
    let e = c.bitmap_of.ensures in
    looks-up c.args.self.now.bitmaps c.in-Some.index c.in-Some.is bitmap_alone c.args.number (g.F.Flash.state c.args.flash.now) c.args.buf.now c.bitmap_of.result (g.F.Flash.state c.bitmap_of.new.flash) c.bitmap_of.new.buf
    (record { memory = e.memory; found = e.found; page = e.page; holds = e.holds; held = e.held; read = e.read; unread = e.unread })

pub returns-in-Some-clause-fresh : goal.returns-in-Some-clause-fresh
returns-in-Some-clause-fresh g c = λ told.
    fresh-still c.args.self.now.bitmaps c.in-Some.index c.in-Some.is (g.F.Flash.state c.args.flash.now) (g.F.Flash.state c.bitmap_of.new.flash) c.args.buf.now c.bitmap_of.new.buf (c.bitmap_of.ensures.fresh told)

pub returns-in-Some-clause-bad : goal.returns-in-Some-clause-bad
returns-in-Some-clause-bad g c =
    bad-answer c.args.self.now.bitmaps c.in-Some.index c.in-Some.is (g.F.Flash.state c.args.flash.now) c.args.buf.now c.bitmap_of.result c.bitmap_of.ensures.bad

pub returns-in-Some-clause-counts : goal.returns-in-Some-clause-counts
returns-in-Some-clause-counts g c = c.bitmap_of.ensures.counts

pub returns-in-Some-clause-one : goal.returns-in-Some-clause-one
returns-in-Some-clause-one g c = c.bitmap_of.ensures.reads.reads

pub returns-in-Some-clause-room : goal.returns-in-Some-clause-room
returns-in-Some-clause-room g c = c.bitmap_of.ensures.room

pub returns-in-Some-clause-cause : goal.returns-in-Some-clause-cause
returns-in-Some-clause-cause g c = c.bitmap_of.ensures.cause

pub returns-in-None-clause-one : goal.returns-in-None-clause-one
returns-in-None-clause-one g c = le-add_right _ 1

pub returns-in-None-clause-room : goal.returns-in-None-clause-room
returns-in-None-clause-room g c = refl

pub returns-in-None-clause-bad : goal.returns-in-None-clause-bad
returns-in-None-clause-bad g c = tt

pub returns-in-None-clause-cause : goal.returns-in-None-clause-cause
returns-in-None-clause-cause g c = tt

pub returns-in-None-clause-good : goal.returns-in-None-clause-good
returns-in-None-clause-good g c = λ h. h

pub returns-in-None-clause-fresh : goal.returns-in-None-clause-fresh
returns-in-None-clause-fresh g c = λ told fresh. fresh

pub returns-in-None-clause-counts : goal.returns-in-None-clause-counts
returns-in-None-clause-counts g c = OnlyReads-same (g.F.Flash.state c.args.flash.now)
