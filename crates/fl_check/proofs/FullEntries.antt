-- What a full entry tells of rows, field by field.
use Rattle.std.proofs.Common.{◌≡◌, Option, Some, List, [], ◌∷◌, length, map, refl, ap, sym, ◌∙◌}
use Rattle.std.specs.List.{slice_get}
use Rattle.std.specs.Option.{option_map, unwrap_or}
use Rattle.std.proofs.lemmas.List.{length-map}
use Rattle.fl_index.specs.Page.{full_view}
use Rattle.fl_index.specs.declared.page.Full as code
use Rattle.fl_model.specs.Entry.{Entry, first_key}
use Rattle.fl_model.specs.Layout.{Full, full_of}
use Rattle.fl_model.specs.Row.{Row, stored_row}
use Rattle.fl_model.specs.BlobEnds.{blobs_end}
use Rattle.fl_model.proofs.BlobEnds.{ends-of}
use Rattle.fl_rules.specs.Told.{full_in}

module _ (rows : List Row) (row : Row) (full : code.Full) (first : slice_get rows 0 ≡ Some row) where
  key-is : unwrap_or (option_map (λ (row : Row). row.key) (slice_get rows 0)) 0 ≡ row.key
  key-is = ap (λ (o : Option Row). unwrap_or (option_map (λ (row : Row). row.key) o) 0) first

  pub full-told : full.first_key ≡ row.key → full.count ≡ length rows → full.blob_end ≡ blobs_end 0 rows → full_view full ≡ full_in rows
  full-told key count end = rw (key ∙ sym key-is, count, end) refl

  pub key-told : full_view full ≡ full_in rows → full.first_key ≡ row.key
  key-told is = ap (λ (f : Full). f.first_key) is ∙ key-is

  pub count-told : full_view full ≡ full_in rows → full.count ≡ length rows
  count-told is = ap (λ (f : Full). f.count) is

  pub end-told : full_view full ≡ full_in rows → full.blob_end ≡ blobs_end 0 rows
  end-told is = ap (λ (f : Full). f.blob_end) is

-- of rows that are stored it tells what it does of their entries
module _ (entries : List Entry) where
  key-stored : unwrap_or (option_map (λ (row : Row). row.key) (slice_get (map stored_row entries) 0)) 0 ≡ first_key entries
  key-stored = first entries
    where
      first : (entries : List Entry) → unwrap_or (option_map (λ (row : Row). row.key) (slice_get (map stored_row entries) 0)) 0 ≡ first_key entries
      first [] = refl
      first (entry ∷ entries) = refl

  pub full-stored : full_in (map stored_row entries) ≡ full_of entries
  full-stored = rw (key-stored, length-map entries stored_row, ends-of entries) refl
