use Rattle.std.proofs.Common.{refl, ◌∙◌, ap, filter}
use Rattle.fl_frame.specs.Contents.{contents_of}
use Rattle.fl_cursor.specs.Asked.{is_left}
use Rattle.fl_cursor.specs.Cursor.{table_of, asked_of}
use Rattle.fl_cursor.proofs.Stood.{standing-rows, left-entries}
use Rattle.fl_cursor.proofs.laws.cursor_is_the_models.Goals as goal

pub returns : goal.returns
returns g c = record {
  left = λ f first plan t tells reaches lies stands.
      ap (filter (is_left (asked_of c.args.cursor.now)))
      (standing-rows (table_of c.args.cursor.now) (contents_of f) (record { flash = f; same = refl; tells = tells; reaches = reaches; lies = lies; first = first; plan = plan; table = t; stands = stands }))
      ∙ left-entries (asked_of c.args.cursor.now) t.entries;
}
