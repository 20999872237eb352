-- What the fields of a record mean, by how far they have their forms.
use Rattle.std.proofs.Common.{◌≡◌, ℕ, ℤ, ◌+◌, ◌<◌, ◌⊎◌, inl, inr, Bool, true, false, Option, None, Ok, Err, List, [], get_or, refl, arith}
use Rattle.fl_words.specs.Grammar as grammar
use Rattle.fl_csv.specs.Lines.{blob_of, fields_put, is_left_out, values_from, wanted_fields}
use Rattle.fl_csv.specs.declared.record.CsvRefusal.{CsvRefusal}
use Rattle.fl_csv.specs.declared.record.CsvRefusal.TheVariants as refusal
use Rattle.fl_csv.specs.declared.record.GoneBlobs.{GoneBlobs}
use Rattle.fl_csv.proofs.Fields.{behind}

-- there are as many as are wanted: a key, each value, and a blob where there are blobs
pub columns-within : (n columns : ℕ) (blobs : Bool) → n ≡ wanted_fields columns blobs → columns < n
columns-within n columns true all = omega (arith, all)
columns-within n columns false all = omega (arith, all)

pub key-within : (n columns : ℕ) (blobs : Bool) → n ≡ wanted_fields columns blobs → 0 < n
key-within n columns blobs all = omega (arith, columns-within n columns blobs all)

pub blob-within : (n columns : ℕ) → n ≡ wanted_fields columns true → columns + 1 < n
blob-within n columns all = omega (arith, all)

-- a field without its form takes no memory
pub unformed-memory : (place : ℕ) → refusal.Number place ≡ refusal.NoMemory → ⊥
unformed-memory place is = cc

module _ (gone : GoneBlobs) (columns : ℕ) (fields : List (List ℕ)) where
  pub key-bad : (blobs : Bool) → grammar.number (get_or fields 0 []) ≡ Err grammar.Number → fields_put gone columns blobs fields ≡ Err (refusal.Number 1)
  key-bad blobs bad = rw bad refl

  module _ (key : ℕ) (key_is : grammar.number (get_or fields 0 []) ≡ Ok key) where
    pub values-bad : (blobs : Bool) (why : CsvRefusal) → values_from 2 (behind columns fields) ≡ Err why → fields_put gone columns blobs fields ≡ Err why
    values-bad blobs why bad = rw (key_is, bad) refl

    module _ (values : List ℤ) (values_are : values_from 2 (behind columns fields) ≡ Ok values) where
      pub put-plain : fields_put gone columns false fields ≡ Ok (record { key = key; values = values; blob = None })
      put-plain = rw (key_is, values_are) refl

      pub put-left_out : is_left_out gone (get_or fields (columns + 1) []) ≡ true → fields_put gone columns true fields ≡ Ok (record { key = key; values = values; blob = None })
      put-left_out out = rw (key_is, values_are, out) refl

      module _ (stays : is_left_out gone (get_or fields (columns + 1) []) ≡ false) where
        pub put-whole : (blob : Option (List ℕ)) → blob_of (columns + 2) (get_or fields (columns + 1) []) ≡ Ok blob → fields_put gone columns true fields ≡ Ok (record { key = key; values = values; blob = blob })
        put-whole blob is = rw (key_is, values_are, stays, is) refl

        pub blob-bad : (why : CsvRefusal) → (why ≡ refusal.NoMemory) ⊎ (blob_of (columns + 2) (get_or fields (columns + 1) []) ≡ Err why) → (why ≡ refusal.NoMemory) ⊎ (fields_put gone columns true fields ≡ Err why)
        blob-bad why (inl memory) = inl memory
        blob-bad why (inr bad) = inr (rw (key_is, values_are, stays, bad) refl)
