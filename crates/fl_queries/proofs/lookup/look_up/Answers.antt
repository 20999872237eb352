use Rattle.std.proofs.Common.{◌∙◌, refl}
use Rattle.fl_schema.specs.Schema.{row_of}
use Rattle.fl_queries.proofs.Lookups.{looks-absent, looks-found, looks-unread, tells-row}
use Rattle.fl_queries.specs.Rows.{row_reply}
use Rattle.fl_words.specs.Reply as reply
use Rattle.fl_table.proofs.PlannedLayout.{blobs-as}
use Rattle.fl_queries.proofs.lookup.look_up.Goals as goal

pub returns-in-Ok-None-clause-looks : goal.returns-in-Ok-None-clause-looks
returns-in-Ok-None-clause-looks g c = λ first plan t told on stands.
    let found = rw c.in-Ok-None.field-0-is at (c.in-Ok-None.ensures.find.finds first plan t told stands) in
    looks-absent plan t c.args.key _ _ _ _ _ _ found (c.in-Ok-None.ensures.find.reads first plan t told stands) found.entry refl

pub returns-in-Ok-Some-clause-looks : goal.returns-in-Ok-Some-clause-looks
returns-in-Ok-Some-clause-looks g c = λ first plan t told on stands.
    let found = rw c.in-Ok-Some.field-0-is at (c.in-Ok-Some.ensures.find.finds first plan t told stands) in
    looks-found plan t c.args.key _ _ _ _ c.find.new.buf c.in-Ok-Some.place (row_of c.row_at.result) c.form_of-form.result.blobs _ (c.form_of-form.ensures.blobs ∙ blobs-as c.args.table.now first plan stands.planned) stands.facts found (c.in-Ok-Some.ensures.find.reads first plan t told stands) found.entry (c.row_at.ensures.stands _ first plan t stands) c.line_of.ensures

pub returns-in-Err-Flash-clause-looks : goal.returns-in-Err-Flash-clause-looks
returns-in-Err-Flash-clause-looks g c = λ first plan t told on stands.
    looks-unread plan t c.args.key c.args.table.now (g.F.Flash.state c.args.flash.now) (g.F.Flash.state c.find.new.flash) c.in-Err-Flash.field-0-0 _ on (rw c.in-Err-Flash.field-0-is at c.in-Err-Flash.ensures.row.fails) (c.in-Err-Flash.ensures.find.reads first plan t told stands) refl

pub returns-in-Err-BadPage-clause-looks : goal.returns-in-Err-BadPage-clause-looks
returns-in-Err-BadPage-clause-looks g c = λ first plan t told on stands. absurd (rw c.in-Err-BadPage.field-0-is at (c.in-Err-BadPage.ensures.find.finds first plan t told stands))

pub returns-in-Ok-None-clause-cause : goal.returns-in-Ok-None-clause-cause
returns-in-Ok-None-clause-cause g c = record { reply = reply.Absent; said_is = refl; holds = rw c.in-Ok-None.field-0-is at c.in-Ok-None.ensures.row.answers }

pub returns-in-Ok-Some-clause-cause : goal.returns-in-Ok-Some-clause-cause
returns-in-Ok-Some-clause-cause g c = record {
  reply = row_reply c.form_of-form.result.blobs (row_of c.row_at.result);
  said_is = c.line_of.ensures;
  holds = tells-row c.args.table.now c.args.key (g.F.Flash.state c.args.flash.now) (g.F.Flash.state c.find.new.flash) c.find.new.buf c.in-Ok-Some.place (row_of c.row_at.result) c.form_of-form.result.blobs c.form_of-form.ensures.blobs
      c.find.ensures.flash.counts (rw c.in-Ok-Some.field-0-is at c.in-Ok-Some.ensures.row.holds) c.row_at.ensures.row (rw c.in-Ok-Some.field-0-is at c.in-Ok-Some.ensures.row.key) (rw c.in-Ok-Some.field-0-is at c.in-Ok-Some.ensures.row.answers);
}

pub returns-in-Err-Flash-clause-cause : goal.returns-in-Err-Flash-clause-cause
returns-in-Err-Flash-clause-cause g c = record { reply = reply.ReadFault; said_is = refl; holds = (c.in-Err-Flash.field-0-0, rw c.in-Err-Flash.field-0-is at c.in-Err-Flash.ensures.row.fails) }

pub returns-in-Err-BadPage-clause-cause : goal.returns-in-Err-BadPage-clause-cause
returns-in-Err-BadPage-clause-cause g c = rw c.in-Err-BadPage.field-0-is (record {
  reply = reply.BadPage c.in-Err-BadPage.bad.wanted;
  said_is = refl;
  holds = (c.in-Err-BadPage.bad, refl, rw c.in-Err-BadPage.field-0-is at c.in-Err-BadPage.ensures.row.fails, λ covered. rw c.in-Err-BadPage.field-0-is at c.in-Err-BadPage.ensures.row.blames covered);
})

pub returns-in-Ok-None-clause-few : goal.returns-in-Ok-None-clause-few
returns-in-Ok-None-clause-few g c = c.find.ensures.flash.most

pub returns-in-Ok-None-clause-counts : goal.returns-in-Ok-None-clause-counts
returns-in-Ok-None-clause-counts g c = c.find.ensures.flash.counts

pub returns-in-Ok-None-clause-lies : goal.returns-in-Ok-None-clause-lies
returns-in-Ok-None-clause-lies g c = c.find.ensures.flash.lies

pub returns-in-Ok-None-clause-room : goal.returns-in-Ok-None-clause-room
returns-in-Ok-None-clause-room g c = c.find.ensures.flash.room

pub returns-in-Ok-Some-clause-few : goal.returns-in-Ok-Some-clause-few
returns-in-Ok-Some-clause-few g c = c.find.ensures.flash.most

pub returns-in-Ok-Some-clause-counts : goal.returns-in-Ok-Some-clause-counts
returns-in-Ok-Some-clause-counts g c = c.find.ensures.flash.counts

pub returns-in-Ok-Some-clause-lies : goal.returns-in-Ok-Some-clause-lies
returns-in-Ok-Some-clause-lies g c = c.find.ensures.flash.lies

pub returns-in-Ok-Some-clause-room : goal.returns-in-Ok-Some-clause-room
returns-in-Ok-Some-clause-room g c = c.find.ensures.flash.room

pub returns-in-Err-Flash-clause-few : goal.returns-in-Err-Flash-clause-few
returns-in-Err-Flash-clause-few g c = c.find.ensures.flash.most

pub returns-in-Err-Flash-clause-counts : goal.returns-in-Err-Flash-clause-counts
returns-in-Err-Flash-clause-counts g c = c.find.ensures.flash.counts

pub returns-in-Err-Flash-clause-lies : goal.returns-in-Err-Flash-clause-lies
returns-in-Err-Flash-clause-lies g c = c.find.ensures.flash.lies

pub returns-in-Err-Flash-clause-room : goal.returns-in-Err-Flash-clause-room
returns-in-Err-Flash-clause-room g c = c.find.ensures.flash.room

pub returns-in-Err-BadPage-clause-few : goal.returns-in-Err-BadPage-clause-few
returns-in-Err-BadPage-clause-few g c = c.find.ensures.flash.most

pub returns-in-Err-BadPage-clause-counts : goal.returns-in-Err-BadPage-clause-counts
returns-in-Err-BadPage-clause-counts g c = c.find.ensures.flash.counts

pub returns-in-Err-BadPage-clause-lies : goal.returns-in-Err-BadPage-clause-lies
returns-in-Err-BadPage-clause-lies g c = c.find.ensures.flash.lies

pub returns-in-Err-BadPage-clause-room : goal.returns-in-Err-BadPage-clause-room
returns-in-Err-BadPage-clause-room g c = c.find.ensures.flash.room
