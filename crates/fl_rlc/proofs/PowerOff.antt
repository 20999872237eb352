-- Puts with the power off, and puts that need no operation.
use Rattle.std.proofs.Common.{◌≡◌, ◌⊎◌, inl, inr, ℕ, ◌+◌, ◌<◌, ◌≤◌, false, Result, Ok, Err, Option, List, length, arith}
use Rattle.std.proofs.lemmas.Bool.{cases_lt}
use Rattle.fl_flash.specs.Flash.{FlashState}
use Rattle.fl_flash.specs.declared.flash.FlashFault.TheVariants.{PowerLost}
use Rattle.fl_model.specs.Record.{layout_len}
use Rattle.fl_schema.specs.Schema.{layout_of}
use Rattle.fl_parts.specs.Blobs.{pages_for}
use Rattle.fl_table.specs.Memory.{HasRoom}
use Rattle.fl_table.specs.declared.faults.PutRefusal.{PutRefusal}
use Rattle.fl_table.specs.declared.faults.PutRefusal.TheVariants as put
use Rattle.fl_table.specs.declared.table.Table.{Table}

-- a table's put that is done with the power off had room for its row, and no page of a blob to write
pub idle-put : {KNOTS SLOTS : ℕ} (t : Table KNOTS SLOTS) (blob : Option (List ℕ)) (f g : FlashState) (u : Unit {0}) → (HasRoom t → pages_for t.blobs blob ≡ 0 → (◌≡◌ {A = Result (Unit {0}) PutRefusal} (Ok u) (Ok tt)) × (g ≡ f)) →
    ((HasRoom t → pages_for t.blobs blob ≡ 0 → ⊥) → f.is_on ≡ false → (◌≡◌ {A = Result (Unit {0}) PutRefusal} (Ok u) (Err (put.Flash PowerLost))) × (g ≡ f)) →
    f.is_on ≡ false → HasRoom t × (pages_for t.blobs blob ≡ 0) × (g ≡ f)
idle-put t blob f g u quiet off down = by-room (cases_lt (length t.writer.body) (t.writer.end + layout_len (layout_of t.schema)))
  where
    no : ◌≡◌ {A = Result (Unit {0}) PutRefusal} (Ok u) (Err (put.Flash PowerLost)) → ⊥
    no e = cc

    by-pages : HasRoom t → (0 < pages_for t.blobs blob) ⊎ (pages_for t.blobs blob ≤ 0) → HasRoom t × (pages_for t.blobs blob ≡ 0) × (g ≡ f)
    by-pages room (inl some) = absurd (no (off (λ r zero. omega (arith, some, zero)) down).0)
    by-pages room (inr none) = let zero : pages_for t.blobs blob ≡ 0 = omega (arith, none) in (room, zero, (quiet room zero).1)

    by-room : (length t.writer.body < t.writer.end + layout_len (layout_of t.schema)) ⊎ HasRoom t → HasRoom t × (pages_for t.blobs blob ≡ 0) × (g ≡ f)
    by-room (inl full) = absurd (no (off (λ room zero. omega (arith, full, room)) down).0)
    by-room (inr room) = by-pages room (cases_lt 0 (pages_for t.blobs blob))
