-- The fields of an index entry have room for what the rows of a page tell.
use Rattle.std.proofs.Common.{◌≡◌, ◌^◌, ◌<◌, List, [], ◌∷◌, length, refl, arith}
use Rattle.std.specs.List.{AllByRecursion}
use Rattle.std.proofs.Math.Nat.{mod-eq_of_lt}
use Rattle.fl_index.specs.Page.{full_view, fields_of}
use Rattle.fl_model.specs.Entry.{Entry, first_key}
use Rattle.fl_model.specs.Facts.{FitsPlan}
use Rattle.fl_model.specs.Layout.{full_of}
use Rattle.fl_model.specs.Record.{Plan, key_limit}
use Rattle.fl_model.proofs.BlobEnds.{AreNumbered, ends-few}

module _ (plan : Plan) (rows : List Entry) (fit : AllByRecursion (FitsPlan plan) rows) (keys : key_limit plan < 2 ^ 64) (few : length rows < 2 ^ 16) (numbered : AreNumbered rows) where
  key-few : (rows : List Entry) → AllByRecursion (FitsPlan plan) rows → first_key rows < 2 ^ 64
  key-few [] h = omega arith
  key-few (entry ∷ rows) h = let le = h.0.key in omega (arith, le, keys)

  pub fields-fit : full_view (fields_of (full_of rows)) ≡ full_of rows
  fields-fit = rw (mod-eq_of_lt (key-few rows fit), mod-eq_of_lt few, mod-eq_of_lt (ends-few rows numbered)) refl
