-- A cursor that is resumed over a flash that stands for its table.
use Rattle.std.proofs.Common.{◌≡◌, ℕ, ◌+◌, ◌≤◌, true, IsTrue, Option, Result, List, length, map, filter, refl, sym, ◌∙◌, ap, subst, true≢false}
use Rattle.fl_base.specs.Causes.{Rose}
use Rattle.fl_cursor.specs.Asked.{asked_by, is_left}
use Rattle.fl_cursor.specs.Cursor.{table_of, mark_of, asked_of, left_of, IsStanding}
use Rattle.fl_cursor.specs.Listed.{rows_of}
use Rattle.fl_cursor.specs.declared.bookmark.Bookmark.{Bookmark}
use Rattle.fl_cursor.specs.declared.cursor.Cursor.{Cursor}
use Rattle.fl_cursor.proofs.Stood.{standing-rows, left-entries}
use Rattle.fl_flash.specs.Flash.{FlashState}
use Rattle.fl_flash.specs.Places.{extent}
use Rattle.fl_flash.specs.declared.flash.FlashFault.{FlashFault}
use Rattle.fl_flash.specs.declared.flash.FlashFault.TheVariants.{PowerLost, Media}
use Rattle.fl_model.specs.Query as query
use Rattle.fl_model.specs.Record.{Plan}
use Rattle.fl_model.specs.Row.{stored_row}
use Rattle.fl_model.specs.Table as model
use Rattle.fl_frame.specs.Contents.{contents_of}
use Rattle.fl_page.specs.Causes.{IsCaused}
use Rattle.fl_page.specs.declared.fault.ReadFault.TheVariants.{Flash}
use Rattle.fl_search.specs.Search.{RoseSome}
use Rattle.fl_table.specs.Memory.{LiesOn}
use Rattle.fl_table.specs.Standing.{Stands}
use Rattle.fl_table.specs.declared.table.Table.{Table}
use Rattle.fl_queries.specs.Nexts.{Nexts}

module _ (t : Table 64 64) (f : FlashState) (first : ℕ) (plan : Plan) (table : model.Table) (tells : IsTrue f.media.tells) (reaches : f.start + extent f.geometry f.blocks ≤ length f.media.content) (lies : LiesOn t f) (stands : Stands t f first plan table) where
  abbrev pub is-standing : IsStanding t (contents_of f)
  is-standing = record { flash = f; same = refl; tells = tells; reaches = reaches; lies = lies; first = first; plan = plan; table = table; stands = stands }

  -- it has left what the model's cursor has left
  pub left-there : (cursor : Cursor 64 64) → table_of cursor ≡ t → left_of cursor (contents_of f) ≡ map stored_row (query.left_of (asked_by (mark_of cursor)) table.entries)
  left-there cursor is =
      ap (λ (x : Table 64 64). filter (is_left (asked_of cursor)) (rows_of x (contents_of f))) is
      ∙ (ap (filter (is_left (asked_of cursor))) (standing-rows t (contents_of f) is-standing) ∙ left-entries (asked_of cursor) table.entries)

-- a read failed with the power on, so the medium did
pub rose-read : (f g : FlashState) (e : FlashFault) → f.is_on ≡ true → IsCaused f (Flash e) g → Rose f.media.faults g.media.faults
rose-read f g PowerLost on off = absurd (true≢false (sym on ∙ off))
rose-read f g Media on cause = cause.0

-- .. in a read that is counted
pub read-counted : (f g : FlashState) (e : FlashFault) → f.is_on ≡ true → IsCaused f (Flash e) g → RoseSome f.work.reads g.work.reads
read-counted f g PowerLost on off = absurd (true≢false (sym on ∙ off))
read-counted f g Media on cause = cause.1

-- the same bookmarks by other names
pub nexts-by : {E : Type 0} {plan : Plan} {table : model.Table} {count : ℕ} {a b old new : Bookmark} {told now : Option (List ℕ)} {faults faults_now reads reads_now : ℕ} {result : Result (Unit {0}) E} → a ≡ old → b ≡ new →
    Nexts plan table count a b told now faults faults_now reads reads_now result → Nexts plan table count old new told now faults faults_now reads reads_now result
nexts-by {E} {plan} {table} {count} {a} {b} {old} {new} {told} {now} {faults} {faults_now} {reads} {reads_now} {result} is new_is h =
    subst (λ m. Nexts plan table count m new told now faults faults_now reads reads_now result) is (subst (λ m. Nexts plan table count a m told now faults faults_now reads reads_now result) new_is h)
