use Rattle.std.proofs.Common.{rules, ◌<◌, ◌≤◌, Err, inr, refl, sym, ◌∙◌, arith, ◌+◌, ◌/◌, ap, drop, pos_of_ne-zero, not-le_of_lt}
use Rattle.fl_var.specs.Blobs.{Begins, contents_in}
use Rattle.fl_var.specs.Memory.{room_in, image_in, present}
use Rattle.fl_var.proofs.Found.{found-none, found-some, found-err, found-empty}
use Rattle.fl_var.proofs.SealsInTable.{pages-size}
use Rattle.fl_var.proofs.Stored.{content-size}
use Rattle.fl_var.proofs.Wholes.{pages-few}
use Rattle.std.proofs.Math.Nat.{le_refl, le_trans, le_of_lt}
use Rattle.std.proofs.lemmas.Bool.{false≢true, lt-ltb}
use Rattle.fl_frame.proofs.ContentsInTurn.{OnlyReads-same}
use Rattle.fl_frame.proofs.ReadsInTurn.{none_read}
use Rattle.fl_var.proofs.Readers.{least, none-and-some, no-slice, present-still, opens-err, same-ok, err-ok}
use Rattle.fl_base.specs.declared.types.BlobRef.{BlobRef}
use Rattle.fl_var.proofs.reader.BlobReader.open.Goals as goal

pub returns-in-Err-clause-finds : goal.returns-in-Err-clause-finds
returns-in-Err-clause-finds g c = λ plan table entry bytes told stands blob_is at_is holds.
    let v = c.args.self.now.var.now in
    let f = g.F.Flash.state c.args.flash.now in
    let some : 1 ≤ c.args.at.length = search rules in
    let sizes = pages-size v f (g.met.F.Flash.reaches c.args.flash.now) c.requires.lies.geometry c.requires.lies.within in
    found-err v f plan table stands sizes c.args.at entry bytes blob_is at_is some holds (Err c.in-Err.fault) c.in-Err.fault refl (c.in-Err.ensures.bad told)

pub returns-in-Ok-None-clause-finds : goal.returns-in-Ok-None-clause-finds
returns-in-Ok-None-clause-finds g c = λ plan table entry bytes told stands blob_is at_is holds.
    let v = c.args.self.now.var.now in
    let f = g.F.Flash.state c.args.flash.now in
    let some : 1 ≤ c.args.at.length = search rules in
    let sizes = pages-size v f (g.met.F.Flash.reaches c.args.flash.now) c.requires.lies.geometry c.requires.lies.within in
    found-none v f plan table stands sizes c.args.at entry bytes blob_is at_is some holds (c.in-Ok-None.ensures.gone told c.in-Ok-None.field-0-is)

pub returns-in-Ok-Some-clause-finds : goal.returns-in-Ok-Some-clause-finds
returns-in-Ok-Some-clause-finds g c = λ plan table entry bytes told stands blob_is at_is holds.
    let v = c.args.self.now.var.now in
    let f = g.F.Flash.state c.args.flash.now in
    let some : 1 ≤ c.args.at.length = search rules in
    let sizes = pages-size v f (g.met.F.Flash.reaches c.args.flash.now) c.requires.lies.geometry c.requires.lies.within in
    let here = rw c.in-Ok-Some.field-0-is at (c.in-Ok-Some.ensures.stands told) in
    let h = found-some v f plan table stands sizes c.args.at entry bytes blob_is at_is some holds here.0 in
    (h.0, h.1, λ left. h.2)

pub returns-in-Ok-Some-clause-few : goal.returns-in-Ok-Some-clause-few
returns-in-Ok-Some-clause-few g c =
    let within = rw c.in-Ok-Some.field-0-is at c.in-Ok-Some.ensures.within in
    let inside : c.args.at.offset < room_in c.args.self.now.var.now = omega (arith, within.1, within.3) in
    pages-few c.args.at.length c.args.at.offset (room_in c.args.self.now.var.now) inside

pub returns-then-at-eq0-clause-opens : goal.returns-then-at-eq0-clause-opens
returns-then-at-eq0-clause-opens g c = λ told. record {
  not_gone = search rules;
  reads = search rules;
  reads_of = search rules;
  left = search rules;
  there = λ some. absurd (omega (arith, some, c.if-at-eq0.true));
  ahead = λ some. absurd (omega (arith, some, c.if-at-eq0.true));
}

pub returns-in-Ok-Some-clause-opens : goal.returns-in-Ok-Some-clause-opens
returns-in-Ok-Some-clause-opens g c = λ told.
    let v = c.args.self.now.var.now in
    let f = g.F.Flash.state c.args.flash.now in
    let here = rw c.in-Ok-Some.field-0-is at (c.in-Ok-Some.ensures.stands told) in
    let within = rw c.in-Ok-Some.field-0-is at c.in-Ok-Some.ensures.within in
    let begins : Begins v f c.args.at = record { first = (within.0, here.2); inside = omega (arith, within.1, here.1) } in
    record {
      not_gone = here.0;
      reads = record {
        told = told;
        within = within.0;
        used = λ some. here.1;
        size = λ some. content-size (image_in v f c.args.at.page) here.2.room ∙ sym here.1;
        bytes = λ more lt. rw c.in-Ok-Some.field-0-is at (c.in-Ok-Some.ensures.holds told lt);
      };
      reads_of = search rules;
      left = search rules;
      there = λ some behind. record { begins = begins; behind = behind some };
      ahead = λ some bad ahead. (here.0, inr (begins, ahead));
    }

pub returns-then-at-eq0-clause-reads : goal.returns-then-at-eq0-clause-reads
returns-then-at-eq0-clause-reads g c = none_read (g.F.Flash.state c.args.flash.now) 1

pub returns-then-at-eq0-clause-counts : goal.returns-then-at-eq0-clause-counts
returns-then-at-eq0-clause-counts g c = OnlyReads-same (g.F.Flash.state c.args.flash.now)

pub returns-then-at-eq0-clause-empty : goal.returns-then-at-eq0-clause-empty
returns-then-at-eq0-clause-empty g c = λ none. (refl, refl)

pub returns-then-at-eq0-clause-pending : goal.returns-then-at-eq0-clause-pending
returns-then-at-eq0-clause-pending g c = λ le. (refl, tt)

pub returns-then-at-eq0-clause-lies : goal.returns-then-at-eq0-clause-lies
returns-then-at-eq0-clause-lies g c = c.requires.lies

pub returns-then-at-eq0-clause-data : goal.returns-then-at-eq0-clause-data
returns-then-at-eq0-clause-data g c = refl

pub returns-then-at-eq0-clause-buffer : goal.returns-then-at-eq0-clause-buffer
returns-then-at-eq0-clause-buffer g c = refl

pub returns-then-at-eq0-clause-left : goal.returns-then-at-eq0-clause-left
returns-then-at-eq0-clause-left g c = sym c.if-at-eq0.true

pub returns-then-at-eq0-clause-here : goal.returns-then-at-eq0-clause-here
returns-then-at-eq0-clause-here g c = λ ok some. absurd (none-and-some c.args.at.length c.if-at-eq0.true some)

pub returns-then-at-eq0-clause-none : goal.returns-then-at-eq0-clause-none
returns-then-at-eq0-clause-none g c = no-slice (present c.args.self.now.var.now c.args.self.now.page c.args.self.now.buf.now.bytes) c.args.self.now.end c.args.self.now.end refl

pub returns-then-at-eq0-clause-few : goal.returns-then-at-eq0-clause-few
returns-then-at-eq0-clause-few g c = least (c.args.at.length / room_in c.args.self.now.var.now + 1)

pub returns-in-Ok-Some-clause-reads : goal.returns-in-Ok-Some-clause-reads
returns-in-Ok-Some-clause-reads g c = c.find_first.ensures.reads

pub returns-in-Ok-Some-clause-counts : goal.returns-in-Ok-Some-clause-counts
returns-in-Ok-Some-clause-counts g c = c.find_first.ensures.counts

pub returns-in-Ok-Some-clause-lies : goal.returns-in-Ok-Some-clause-lies
returns-in-Ok-Some-clause-lies g c = c.find_first.ensures.lies

pub returns-in-Ok-Some-clause-empty : goal.returns-in-Ok-Some-clause-empty
returns-in-Ok-Some-clause-empty g c = λ none. absurd (c.if-at-eq0.false none)

pub returns-in-Ok-Some-clause-data : goal.returns-in-Ok-Some-clause-data
returns-in-Ok-Some-clause-data g c = refl

pub returns-in-Ok-Some-clause-buffer : goal.returns-in-Ok-Some-clause-buffer
returns-in-Ok-Some-clause-buffer g c = refl

pub returns-in-Ok-None-clause-reads : goal.returns-in-Ok-None-clause-reads
returns-in-Ok-None-clause-reads g c = c.find_first.ensures.reads

pub returns-in-Ok-None-clause-counts : goal.returns-in-Ok-None-clause-counts
returns-in-Ok-None-clause-counts g c = c.find_first.ensures.counts

pub returns-in-Ok-None-clause-lies : goal.returns-in-Ok-None-clause-lies
returns-in-Ok-None-clause-lies g c = c.find_first.ensures.lies

pub returns-in-Ok-None-clause-empty : goal.returns-in-Ok-None-clause-empty
returns-in-Ok-None-clause-empty g c = λ none. absurd (c.if-at-eq0.false none)

pub returns-in-Ok-None-clause-data : goal.returns-in-Ok-None-clause-data
returns-in-Ok-None-clause-data g c = refl

pub returns-in-Ok-None-clause-buffer : goal.returns-in-Ok-None-clause-buffer
returns-in-Ok-None-clause-buffer g c = refl

pub returns-in-Err-clause-reads : goal.returns-in-Err-clause-reads
returns-in-Err-clause-reads g c = c.find_first.ensures.reads

pub returns-in-Err-clause-counts : goal.returns-in-Err-clause-counts
returns-in-Err-clause-counts g c = c.find_first.ensures.counts

pub returns-in-Err-clause-lies : goal.returns-in-Err-clause-lies
returns-in-Err-clause-lies g c = c.find_first.ensures.lies

pub returns-in-Err-clause-empty : goal.returns-in-Err-clause-empty
returns-in-Err-clause-empty g c = λ none. absurd (c.if-at-eq0.false none)

pub returns-in-Err-clause-data : goal.returns-in-Err-clause-data
returns-in-Err-clause-data g c = refl

pub returns-in-Err-clause-buffer : goal.returns-in-Err-clause-buffer
returns-in-Err-clause-buffer g c = refl

pub returns-in-Ok-Some-clause-pending : goal.returns-in-Ok-Some-clause-pending
returns-in-Ok-Some-clause-pending g c = λ le. ((c.find_first.ensures.pending le).0, tt)

pub returns-in-Ok-None-clause-pending : goal.returns-in-Ok-None-clause-pending
returns-in-Ok-None-clause-pending g c = λ le. ((c.find_first.ensures.pending le).0, tt)

pub returns-in-Err-clause-pending : goal.returns-in-Err-clause-pending
returns-in-Err-clause-pending g c = λ le. c.in-Err.ensures.pending le

pub returns-in-Ok-Some-clause-left : goal.returns-in-Ok-Some-clause-left
returns-in-Ok-Some-clause-left g c = refl

pub returns-in-Ok-None-clause-left : goal.returns-in-Ok-None-clause-left
returns-in-Ok-None-clause-left g c = refl

pub returns-in-Err-clause-no_more : goal.returns-in-Err-clause-no_more
returns-in-Err-clause-no_more g c = refl

pub returns-in-Ok-Some-clause-here : goal.returns-in-Ok-Some-clause-here
returns-in-Ok-Some-clause-here g c =
    λ ok some.
    let within = rw c.in-Ok-Some.field-0-is at c.in-Ok-Some.ensures.within in
    lt-ltb _ _ within.1

pub returns-in-Ok-None-clause-here : goal.returns-in-Ok-None-clause-here
returns-in-Ok-None-clause-here g c = λ ok some. absurd (false≢true (same-ok ok))

pub returns-in-Err-clause-here : goal.returns-in-Err-clause-here
returns-in-Err-clause-here g c = λ ok some. absurd (err-ok _ ok)

pub returns-in-Ok-Some-clause-none : goal.returns-in-Ok-Some-clause-none
returns-in-Ok-Some-clause-none g c = no-slice (present c.args.self.now.var.now c.args.at.page c.find_first.new.buf.bytes) c.args.at.offset c.args.at.offset refl

pub returns-in-Ok-None-clause-none : goal.returns-in-Ok-None-clause-none
returns-in-Ok-None-clause-none g c = no-slice (present c.args.self.now.var.now c.args.self.now.page c.find_first.new.buf.bytes) c.args.self.now.end c.args.self.now.end refl

pub returns-in-Ok-None-clause-few : goal.returns-in-Ok-None-clause-few
returns-in-Ok-None-clause-few g c = least (c.args.at.length / room_in c.args.self.now.var.now + 1)

pub returns-in-Err-clause-none : goal.returns-in-Err-clause-none
returns-in-Err-clause-none g c = no-slice (present c.args.self.now.var.now c.args.self.now.page c.find_first.new.buf.bytes) c.args.self.now.end c.args.self.now.end refl

pub returns-in-Err-clause-few : goal.returns-in-Err-clause-few
returns-in-Err-clause-few g c = least (c.args.at.length / room_in c.args.self.now.var.now + 1)

pub returns-in-Ok-None-clause-opens : goal.returns-in-Ok-None-clause-opens
returns-in-Ok-None-clause-opens g c = λ told. c.in-Ok-None.ensures.gone told c.in-Ok-None.field-0-is

pub returns-in-Err-clause-opens : goal.returns-in-Err-clause-opens
returns-in-Err-clause-opens g c = λ told. opens-err c.args.self.now.var.now (g.F.Flash.state c.args.flash.now) c.args.at c.in-Err.fault (c.in-Err.ensures.bad told)

pub returns-in-Err-clause-fails : goal.returns-in-Err-clause-fails
returns-in-Err-clause-fails g c = c.in-Err.ensures.fails

pub find_first-requires-clause-mounted : goal.find_first-requires-clause-mounted
find_first-requires-clause-mounted g c = c.args.self.now.mounted

pub find_first-requires-clause-lies : goal.find_first-requires-clause-lies
find_first-requires-clause-lies g c = c.requires.lies

pub find_first-requires-clause-room : goal.find_first-requires-clause-room
find_first-requires-clause-room g c = c.args.self.now.size

pub find_first-requires-clause-some : goal.find_first-requires-clause-some
find_first-requires-clause-some g c = pos_of_ne-zero c.if-at-eq0.false

pub invariant_of-self : goal.invariant_of-self
invariant_of-self g c = record { mounted = c.args.self.now.mounted; ordered = le_refl c.args.self.now.end; before = le_refl c.args.self.now.end; within = c.args.self.now.within; size = c.args.self.now.size; known = c.args.self.now.known; fits = le_trans c.args.self.now.before c.args.self.now.fits; all = c.args.self.now.within }

pub invariant_of-self-in-Ok-None : goal.invariant_of-self-in-Ok-None
invariant_of-self-in-Ok-None g c = record { mounted = c.args.self.now.mounted; ordered = le_refl c.args.self.now.end; before = le_refl c.args.self.now.end; within = (present-still c.args.self.now.var.now c.args.self.now.page c.args.self.now.end c.args.self.now.buf.now.bytes c.find_first.new.buf.bytes c.find_first.ensures.room c.args.self.now.within); size = c.find_first.ensures.room ∙ c.args.self.now.size; known = c.args.self.now.known; fits = le_trans c.args.self.now.before c.args.self.now.fits; all = (present-still c.args.self.now.var.now c.args.self.now.page c.args.self.now.end c.args.self.now.buf.now.bytes c.find_first.new.buf.bytes c.find_first.ensures.room c.args.self.now.within) }

pub invariant_of-self-in-Err-1 : goal.invariant_of-self-in-Err-1
invariant_of-self-in-Err-1 g c = record { mounted = c.args.self.now.mounted; ordered = le_refl c.args.self.now.end; before = le_refl c.args.self.now.end; within = (present-still c.args.self.now.var.now c.args.self.now.page c.args.self.now.end c.args.self.now.buf.now.bytes c.find_first.new.buf.bytes c.find_first.ensures.room c.args.self.now.within); size = c.find_first.ensures.room ∙ c.args.self.now.size; known = c.args.self.now.known; fits = le_trans c.args.self.now.before c.args.self.now.fits; all = (present-still c.args.self.now.var.now c.args.self.now.page c.args.self.now.end c.args.self.now.buf.now.bytes c.find_first.new.buf.bytes c.find_first.ensures.room c.args.self.now.within) }

pub invariant_of-self-in-Ok-Some : goal.invariant_of-self-in-Ok-Some
invariant_of-self-in-Ok-Some g c =
    let within = rw c.in-Ok-Some.field-0-is at c.in-Ok-Some.ensures.within in
    record {
      mounted = c.args.self.now.mounted;
      ordered = le_refl c.args.at.offset;
      before = le_of_lt within.1;
      within = le_trans (le_of_lt within.1) within.2;
      size = c.find_first.ensures.room ∙ c.args.self.now.size;
      known = within.0;
      fits = within.3;
      all = within.2;
    }

pub returns-then-at-eq0-clause-finds : goal.returns-then-at-eq0-clause-finds
returns-then-at-eq0-clause-finds g c =
    λ plan table entry bytes told stands blob_is at_is holds.
    let r = c.args.self.now in
    let none = sym (ap (λ (x : BlobRef). x.length) at_is) ∙ c.if-at-eq0.true in
    let h = found-empty table stands.ring.ring entry bytes stands.ring.ring_is blob_is none (drop r.end (contents_in r.var.now (g.F.Flash.state c.args.flash.now) r.page)) in
    (h.0, h.1, λ left. absurd (not-le_of_lt left (least 0)))
