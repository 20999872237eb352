-- An image has a table with a name, or it has none.
use Rattle.std.proofs.Common.{true, false, None, List, ℕ, arith}
use Rattle.std.proofs.lemmas.Option.{slice_get_within}
use Rattle.fl_image.specs.Header.{IsAccepted}
use Rattle.fl_image.specs.Image.{IsImageOf}
use Rattle.fl_model.proofs.Lists.{slice_get-some}
use Rattle.fl_words.specs.Config.{Lines}
use Rattle.fl_store.specs.Named.{IsImageWith}
use Rattle.fl_store.specs.Tables.{AreNewTables, IsNamed, Names}
use Rattle.fl_store.specs.declared.tables.Entry.{Entry}
use Rattle.fl_store.proofs.TableByName.{new-named, first-named, none-named, name-there, name-none}

module _ (bytes : List ℕ) (name : List ℕ) (lines : Lines) (entries : List Entry) (accepted : IsAccepted lines) (image : IsImageOf bytes lines) (new : AreNewTables entries lines) where
  pub image-without : Names entries name None → IsImageWith bytes name false
  image-without none = record { lines = lines; accepted = accepted; image = image; named = name-none lines.plans name (none-named lines.plans entries (new-named entries lines new) name none) }

  abbrev pub image-with : (at : ℕ) → IsNamed entries name at → IsImageWith bytes name true
  image-with at named =
      let plan = slice_get-some lines.plans at (omega (arith, slice_get_within entries at named.entry named.here, new.as_many)) in
      record { lines = lines; accepted = accepted; image = image; named = name-there lines.plans at name plan.0 plan.1 (first-named lines.plans entries (new-named entries lines new) name at named plan.0 plan.1).0 }
