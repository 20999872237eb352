use Rattle.std.proofs.Common.{◌-◌, ◌^◌, ◌<◌, None, length, refl, sym, ◌∙◌, ap, subst, arith}
use Rattle.fl_cursor.specs.Cursor.{MayBeBad, left_of}
use Rattle.fl_frame.specs.Contents.{contents_of}
use Rattle.fl_frame.proofs.ContentsInTurn.{OnlyReads-same}
use Rattle.fl_table.specs.declared.table.Table.{Table}
use Rattle.fl_queries.specs.Keys.{all_keys}
use Rattle.fl_queries.specs.OldestBlob.{first_kept}
use Rattle.fl_queries.proofs.OldestBlobs.{all-rows, first-oldest, none-oldest}
use Rattle.fl_queries.proofs.Ranged.{ranged}
use Rattle.fl_queries.proofs.Resumed.{rose-read}
use Rattle.fl_queries.proofs.oldest.oldest_blob.Goals as goal

pub first_of-requires : goal.first_of-requires
first_of-requires g c = c.begin-cursor.ensures.ready (g.F.Flash.state c.args.flash.now) c.requires.lies c.requires.room.0 c.requires.room.1

pub returns-in_default-clause-counts : goal.returns-in_default-clause-counts
returns-in_default-clause-counts g c = OnlyReads-same _

pub returns-in_default-clause-finds : goal.returns-in_default-clause-finds
returns-in_default-clause-finds g c = λ first plan t tells on stands.
    let f = g.F.Flash.state c.args.flash.now in
    sym (none-oldest c.args.table.now f first plan t stands (sym (c.oldest_blob_page.ensures.stands f first plan t stands) ∙ c.in_default.is))

pub returns-in_default-clause-reads : goal.returns-in_default-clause-reads
returns-in_default-clause-reads g c = λ first plan t tells stands. omega arith

pub returns-in-Ok-clause-finds : goal.returns-in-Ok-clause-finds
returns-in-Ok-clause-finds g c = λ first plan t tells on stands.
    let over = ranged c.begin-cursor.result c.begin-cursor.result c.args.table.now (g.F.Flash.state c.args.flash.now) first plan t all_keys None refl tells (g.met.F.Flash.reaches c.args.flash.now) c.requires.lies stands c.begin-cursor.ensures.told c.begin-cursor.ensures.left c.begin-cursor.ensures.limit c.begin-cursor.ensures.least in
    let few : length (left_of c.begin-cursor.result (contents_of (g.F.Flash.state c.args.flash.now))) < 2 ^ 64 - 1 = omega (arith, over.few) in
    let found = c.in-Ok.ensures.finds over.told few in
    found ∙ (ap (first_kept c.in-Some.oldest) (over.left ∙ all-rows c.args.table.now (g.F.Flash.state c.args.flash.now) first plan t stands)
    ∙ first-oldest c.args.table.now (g.F.Flash.state c.args.flash.now) first plan t stands c.in-Some.oldest (sym c.in-Some.is ∙ c.oldest_blob_page.ensures.stands (g.F.Flash.state c.args.flash.now) first plan t stands))

pub returns-in-Ok-clause-reads : goal.returns-in-Ok-clause-reads
returns-in-Ok-clause-reads g c = λ first plan t tells stands.
    let over = ranged c.begin-cursor.result c.begin-cursor.result c.args.table.now (g.F.Flash.state c.args.flash.now) first plan t all_keys None refl tells (g.met.F.Flash.reaches c.args.flash.now) c.requires.lies stands c.begin-cursor.ensures.told c.begin-cursor.ensures.left c.begin-cursor.ensures.limit c.begin-cursor.ensures.least in
    let reads = c.in-Ok.ensures.reads over.told in
    omega (arith, over.limit, reads)

pub returns-in-Err-Flash-clause-finds : goal.returns-in-Err-Flash-clause-finds
returns-in-Err-Flash-clause-finds g c = λ first plan t tells on stands.
    rose-read (g.F.Flash.state c.args.flash.now) (g.F.Flash.state c.first_of.new.flash) c.in-Err-Flash.field-0-0 on (rw c.in-Err-Flash.field-0-is at c.in-Err-Flash.ensures.cause)

pub returns-in-Err-Flash-clause-reads : goal.returns-in-Err-Flash-clause-reads
returns-in-Err-Flash-clause-reads g c = λ first plan t tells stands.
    let over = ranged c.begin-cursor.result c.begin-cursor.result c.args.table.now (g.F.Flash.state c.args.flash.now) first plan t all_keys None refl tells (g.met.F.Flash.reaches c.args.flash.now) c.requires.lies stands c.begin-cursor.ensures.told c.begin-cursor.ensures.left c.begin-cursor.ensures.limit c.begin-cursor.ensures.least in
    let reads = c.in-Err-Flash.ensures.reads over.told in
    omega (arith, over.limit, reads)

pub returns-in-Err-BadPage-clause-finds : goal.returns-in-Err-BadPage-clause-finds
returns-in-Err-BadPage-clause-finds g c = λ first plan t tells on stands.
    let over = ranged c.begin-cursor.result c.begin-cursor.result c.args.table.now (g.F.Flash.state c.args.flash.now) first plan t all_keys None refl tells (g.met.F.Flash.reaches c.args.flash.now) c.requires.lies stands c.begin-cursor.ensures.told c.begin-cursor.ensures.left c.begin-cursor.ensures.limit c.begin-cursor.ensures.least in
    let few : length (left_of c.begin-cursor.result (contents_of (g.F.Flash.state c.args.flash.now))) < 2 ^ 64 - 1 = omega (arith, over.few) in
    absurd (rw c.in-Err-BadPage.field-0-is at (c.in-Err-BadPage.ensures.finds over.told few))

pub returns-in-Err-BadPage-clause-reads : goal.returns-in-Err-BadPage-clause-reads
returns-in-Err-BadPage-clause-reads g c = λ first plan t tells stands.
    let over = ranged c.begin-cursor.result c.begin-cursor.result c.args.table.now (g.F.Flash.state c.args.flash.now) first plan t all_keys None refl tells (g.met.F.Flash.reaches c.args.flash.now) c.requires.lies stands c.begin-cursor.ensures.told c.begin-cursor.ensures.left c.begin-cursor.ensures.limit c.begin-cursor.ensures.least in
    let reads = c.in-Err-BadPage.ensures.reads over.told in
    omega (arith, over.limit, reads)

pub returns-in-Err-Flash-clause-cause : goal.returns-in-Err-Flash-clause-cause
returns-in-Err-Flash-clause-cause g c = (c.in-Err-Flash.field-0-0, rw c.in-Err-Flash.field-0-is at c.in-Err-Flash.ensures.cause)

pub returns-in-Err-BadPage-clause-cause : goal.returns-in-Err-BadPage-clause-cause
returns-in-Err-BadPage-clause-cause g c = (
  c.in-Err-BadPage.bad,
  refl,
  subst (λ (t : Table 64 64). MayBeBad t (contents_of (g.F.Flash.state c.args.flash.now)) c.in-Err-BadPage.bad) c.begin-cursor.ensures.table (rw c.in-Err-BadPage.field-0-is at c.in-Err-BadPage.ensures.bad_page),
)
