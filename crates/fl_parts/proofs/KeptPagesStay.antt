-- The pages that calls keep: where nothing changed, and where one call follows another.
use Rattle.std.proofs.Common.{◌≡◌, ℕ, Option, Some, None, List, refl, sym, ◌∙◌, ap, subst, arith}
use Rattle.std.proofs.lemmas.Bool.{false≢true}
use Rattle.std.proofs.lemmas.Option.{same_Some}
use Rattle.fl_model.specs.Facts.{IsTable, is_some_ring}
use Rattle.fl_model.specs.Record.{Plan}
use Rattle.fl_model.specs.Ring.{Ring}
use Rattle.fl_model.specs.Table.{Table, RingName, DataRing, IndexRing, VarRing}
use Rattle.fl_ring.specs.Kept.{PagesStand}
use Rattle.fl_parts.specs.Pages.{KeptStand, bytes_in}
use Rattle.fl_var.proofs.Joins.{stands-then}

-- a ring that no operation touched
pub pages-same : (ring after : Ring) (old new : ℕ → List ℕ) → after ≡ ring → ((n : ℕ) → new n ≡ old n) → PagesStand ring old after new
pages-same ring after old new is same = subst (λ (r : Ring). PagesStand ring old r new) (sym is) (record { later = omega arith; further = omega arith; bytes = λ n low high. same n })

-- .. where a table has it
pub ring-same : (before after : Option Ring) (old new : ℕ → List ℕ) → after ≡ before → ((ring : Ring) → before ≡ Some ring → (n : ℕ) → new n ≡ old n) → (a b : Ring) → before ≡ Some a → after ≡ Some b → PagesStand a old b new
ring-same before after old new is same a b before_is after_is = pages-same a b old new (same_Some b a (sym after_is ∙ (is ∙ before_is))) (same a before_is)

pub kept-same : (first : ℕ) (plan : Plan) (table after : Table) (old new : ℕ → List ℕ) → after.rows ≡ table.rows → after.index ≡ table.index → after.var ≡ table.var →
    ((ring : RingName) (n : ℕ) → bytes_in new first plan ring n ≡ bytes_in old first plan ring n) → KeptStand first plan table after old new
kept-same first plan table after old new rows index var same = record {
  rows = pages-same table.rows after.rows (bytes_in old first plan DataRing) (bytes_in new first plan DataRing) rows (same DataRing);
  index = ring-same table.index after.index (bytes_in old first plan IndexRing) (bytes_in new first plan IndexRing) index (λ ring is. same IndexRing);
  var = ring-same table.var after.var (bytes_in old first plan VarRing) (bytes_in new first plan VarRing) var (λ ring is. same VarRing);
}

-- a table has the rings of its plan
middle : (m n : Option Ring) (ring : Ring) → is_some_ring m ≡ is_some_ring n → n ≡ Some ring → (r : Ring) × (m ≡ Some r)
middle (Some r) n ring same is = (r, refl)
middle None n ring same is = absurd (false≢true (same ∙ ap is_some_ring is))

pub kept-then : (first : ℕ) (plan : Plan) (a b c : Table) (x y z : ℕ → List ℕ) → IsTable plan b → IsTable plan c → KeptStand first plan a b x y → KeptStand first plan b c y z → KeptStand first plan a c x z
kept-then first plan a b c x y z mid last h k = record {
  rows = stands-then a.rows b.rows c.rows (bytes_in x first plan DataRing) (bytes_in y first plan DataRing) (bytes_in z first plan DataRing) h.rows k.rows;
  index = λ r t r_is t_is.
      let m = middle b.index c.index t (mid.has_rings.0 ∙ sym (last.has_rings.0)) t_is in
      stands-then r m.0 t (bytes_in x first plan IndexRing) (bytes_in y first plan IndexRing) (bytes_in z first plan IndexRing) (h.index r m.0 r_is m.1) (k.index m.0 t m.1 t_is);
  var = λ r t r_is t_is.
      let m = middle b.var c.var t (mid.has_rings.1 ∙ sym (last.has_rings.1)) t_is in
      stands-then r m.0 t (bytes_in x first plan VarRing) (bytes_in y first plan VarRing) (bytes_in z first plan VarRing) (h.var r m.0 r_is m.1) (k.var m.0 t m.1 t_is);
}
