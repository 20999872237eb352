use Rattle.std.proofs.Common.{length, refl, ◌∙◌, ap}
use Rattle.fl_flash.specs.Buffer.{BufferState}
use Rattle.fl_frame.specs.Contents.{contents_of}
use Rattle.fl_cursor.specs.Asked.{asked_by}
use Rattle.fl_cursor.specs.Cursor.{IsStanding}
use Rattle.fl_cursor.proofs.Indexed.{fresh-none, good-none, looking-none}
use Rattle.fl_cursor.proofs.Limited.{begun-limit}
use Rattle.fl_cursor.proofs.Stood.{standing-ascends}
use Rattle.fl_cursor.proofs.SoundPages.{sound-begun}
use Rattle.fl_cursor.proofs.cursor.Cursor.resume.Goals as goal

pub returns-clause-ready : goal.returns-clause-ready
returns-clause-ready g c = λ f lies rows_room index_room. record {
  flash = f;
  same = refl;
  lies = lies;
  rows_room = rows_room;
  index_room = ap (λ (b : BufferState). length b.bytes) c.forget.ensures ∙ index_room;
  placed = c.first_place.ensures.placed c.args.rows_buf.now.bytes;
  index_good = good-none c.args.table.now.bitmaps c.forget.new.self (ap (λ (b : BufferState). b.holds) c.forget.ensures);
}

pub returns-clause-told : goal.returns-clause-told
returns-clause-told g c = λ contents standing. record {
  standing = standing;
  ascends = standing-ascends c.args.table.now contents standing;
  passes = c.first_place.ensures.passes contents c.args.rows_buf.now.bytes standing;
  fresh = fresh-none c.args.table.now.bitmaps contents c.forget.new.self (ap (λ (b : BufferState). b.holds) c.forget.ensures);
  looking = looking-none c.args.table.now.bitmaps c.first_place.result c.forget.new.self (ap (λ (b : BufferState). b.holds) c.forget.ensures);
}

pub returns-clause-limit : goal.returns-clause-limit
returns-clause-limit g c = λ f first plan t tells reaches lies stands bounded.
    let h : IsStanding c.args.table.now (contents_of f) = record { flash = f; same = refl; tells = tells; reaches = reaches; lies = lies; first = first; plan = plan; table = t; stands = stands } in
    begun-limit c.args.table.now (contents_of f) h (asked_by c.args.mark) c.forget.new.self c.args.rows_buf.now.bytes c.first_place.result (ap (λ (b : BufferState). b.holds) c.forget.ensures) bounded c.first_place.ensures.begun

pub returns-clause-sound : goal.returns-clause-sound
returns-clause-sound g c = λ contents s.
    sound-begun c.args.table.now contents (asked_by c.args.mark) c.forget.new.self c.args.rows_buf.now.bytes c.first_place.result (ap (λ (b : BufferState). b.holds) c.forget.ensures) c.first_place.ensures.begun s
