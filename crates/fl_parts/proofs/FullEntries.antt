-- What a full index entry tells of a page beside its bitmap.
use Rattle.std.proofs.Common.{◌≡◌, ℕ, Option, Some, option_map, unwrap_or, List, [], ◌∷◌, length, map, refl, sym, ◌∙◌, ap}
use Rattle.std.proofs.lemmas.List.{length-map}
use Rattle.std.specs.List.{slice_get}
use Rattle.fl_find.specs.Pages.{first_key, rows_on}
use Rattle.fl_index.specs.Page.{full_view}
use Rattle.fl_index.specs.declared.page.Full as code
use Rattle.fl_model.specs.Entry as model
use Rattle.fl_model.specs.Entry.{Entry, end_of_blobs}
use Rattle.fl_model.specs.Layout.{Full, full_of}
use Rattle.fl_model.specs.Record.{RowLayout}
use Rattle.fl_model.specs.Row.{Row, stored_row}
use Rattle.fl_model.specs.BlobEnds.{blobs_end}
use Rattle.fl_model.proofs.BlobEnds.{ends-of, AreNumbered, ends-few}
use Rattle.fl_parts.specs.BlobEnds.{least_of}
use Rattle.fl_parts.specs.Reading.{full_on}
use Rattle.fl_parts.proofs.BlobEnds.{least-few}

first-of : (entries : List Entry) → unwrap_or (first_key (map stored_row entries)) 0 ≡ model.first_key entries
first-of [] = refl
first-of (x ∷ xs) = refl

full-is : (keys keys' counts counts' ends ends' : ℕ) → keys ≡ keys' → counts ≡ counts' → ends ≡ ends' →
    ◌≡◌ {A = Full} (record { first_key = keys; count = counts; blob_end = ends }) (record { first_key = keys'; count = counts'; blob_end = ends' })
full-is keys keys' counts counts' ends ends' key count end = rw (key, count, end) refl

-- that of records, by their rows
pub full-on : (layout : RowLayout) (page : List ℕ) (entries : List Entry) → rows_on layout page ≡ map stored_row entries → AreNumbered entries → full_view (full_on layout page) ≡ full_of entries
full-on layout page entries rows numbered =
    full-is _ _ _ _ _ _ (ap (λ (rs : List Row). unwrap_or (first_key rs) 0) rows ∙ first-of entries)
    (ap (λ (rs : List Row). length rs) rows ∙ length-map entries stored_row)
    (ap (λ (rs : List Row). least_of (blobs_end 0 rs)) rows ∙ (ap least_of (ends-of entries) ∙ least-few (end_of_blobs entries) (ends-few entries numbered)))

-- that of a page whose rows were read
pub full-read : (layout : RowLayout) (bytes : List ℕ) (first : Option ℕ) (count end : ℕ) → first ≡ first_key (rows_on layout bytes) → count ≡ length (rows_on layout bytes) → end ≡ blobs_end 0 (rows_on layout bytes) →
    ◌≡◌ {A = code.Full} (record { first_key = unwrap_or first 0; count = count; blob_end = least_of end }) (full_on layout bytes)
full-read layout bytes first count end f c e = rw (f, c, e) refl

-- that of the pending rows
pub full-pending : (full : code.Full) (entries : List Entry) (key : ℕ) → option_map (λ (e : Entry). e.kept.key) (slice_get entries 0) ≡ Some key → full.first_key ≡ key → full.count ≡ length entries → full.blob_end ≡ end_of_blobs entries →
    full_view full ≡ full_of entries
full-pending full entries key some first count end = full-is _ _ _ _ _ _ (first ∙ sym (ap (λ (o : Option ℕ). unwrap_or o 0) some)) count end
