-- Facts of searched pages, after the search and at other names of the same values.
use Rattle.std.proofs.Common.{◌≡◌, ℕ, true, false, Option, Some, None, List, refl, sym, ap, subst, ◌∙◌, arith, length}
use Rattle.std.specs.Prelude.{IfSome, is_some}
use Rattle.std.proofs.lemmas.Bool.{false≢true}
use Rattle.fl_flash.specs.Buffer.{BufferState}
use Rattle.fl_flash.specs.Flash.{FlashState}
use Rattle.fl_model.specs.Record.{RowLayout}
use Rattle.fl_frame.specs.Contents.{Contents}
use Rattle.fl_ring.specs.Place.{LiesOn, shape_of}
use Rattle.fl_ring.specs.Ring.{Shape, place}
use Rattle.fl_ring.specs.declared.ring.Ring.{Ring}
use Rattle.fl_search.specs.Search.{IsPageOf, Ascends, starts_by}
use Rattle.fl_find.specs.Pages.{Holds, rows_on, first_key, first_on}
use Rattle.fl_find.specs.Looking.{OnlyLooks}
use Rattle.fl_find.proofs.PageLooks.{looks-pages}

pub lies-looked : (ring : Ring) (old new : FlashState) → LiesOn ring old → OnlyLooks old new → LiesOn ring new
lies-looked ring old new lies looks = record {
  page = ap (λ (c : Contents). c.geometry.page) looks.reads.contents ∙ lies.page;
  block = ap (λ (c : Contents). c.geometry.block) looks.reads.contents ∙ lies.block;
  within = let same = ap (λ (c : Contents). c.blocks) looks.reads.contents in omega (arith, same, lies.within);
}

pub room-looked : (old new : FlashState) (before after : BufferState) → OnlyLooks old new → length before.bytes ≡ old.geometry.page → length after.bytes ≡ new.geometry.page → length after.bytes ≡ length before.bytes
room-looked old new before after looks first second = second ∙ (ap (λ (c : Contents). c.geometry.page) looks.reads.contents ∙ sym first)

pub holds-moved : (layout layout_now : RowLayout) (ring ring_now : Ring) (f now : FlashState) (buf buf_now : BufferState) (n : ℕ) → layout_now ≡ layout → ring_now ≡ ring → now ≡ f → buf_now ≡ buf →
    Holds layout_now (shape_of ring_now) now n buf_now → Holds layout (shape_of ring) f n buf
holds-moved layout layout_now ring ring_now f now buf buf_now n l r e b h =
    subst (λ (x : RowLayout). Holds x (shape_of ring) f n buf) l
    (subst (λ (x : Ring). Holds layout_now (shape_of x) f n buf) r
    (subst (λ (x : FlashState). Holds layout_now (shape_of ring_now) x n buf) e
    (subst (λ (x : BufferState). Holds layout_now (shape_of ring_now) now n x) b h)))

-- the page of a key begins with at most the key
pub page-starts : (first : ℕ → Option ℕ) (oldest end key : ℕ) (page : Option ℕ) → IsPageOf first oldest end key page → IfSome page (λ n. starts_by first key n ≡ true)
page-starts first oldest end key None is = tt
page-starts first oldest end key (Some n) is = is.here

pub page-moved : (first : ℕ → Option ℕ) (oldest oldest_now end end_now key : ℕ) (page : Option ℕ) → oldest_now ≡ oldest → end_now ≡ end → IsPageOf first oldest_now end_now key page → IsPageOf first oldest end key page
page-moved first oldest oldest_now end end_now key page o e h =
    subst (λ (n : ℕ). IsPageOf first n end key page) o (subst (λ (n : ℕ). IsPageOf first oldest_now n key page) e h)

pub ascends-moved : (first : ℕ → Option ℕ) (oldest oldest_now end end_now : ℕ) → oldest_now ≡ oldest → end_now ≡ end → Ascends first oldest end → Ascends first oldest_now end_now
ascends-moved first oldest oldest_now end end_now o e up i j x y from less before = up i j x y (omega (arith, o, from)) less (omega (arith, e, before))

-- first keys stay as they are
pub first-looked : (layout : RowLayout) (shape : Shape) (old new : FlashState) (n : ℕ) → OnlyLooks old new → first_on layout shape new n ≡ first_on layout shape old n
first-looked layout shape old new n looks = ap (λ (page : ℕ → List ℕ). first_key (rows_on layout (page (place shape n)))) (looks-pages old new looks)

-- a page that starts by a key isn't void when it is read again
pub starts-none : (layout : RowLayout) (shape : Shape) (old new : FlashState) (n key : ℕ) (now : Option ℕ) → OnlyLooks old new → starts_by (first_on layout shape old) key n ≡ true →
    now ≡ first_on layout shape new n → is_some now ≡ false → ⊥
starts-none layout shape old new n key now looks starts is none = by_first (first_on layout shape old n) refl
  where
    by_first : (first : Option ℕ) → first_on layout shape old n ≡ first → ⊥
    by_first None e = false≢true (sym (starts-at (first_on layout shape old) key n e) ∙ starts)
      where
        starts-at : (first : ℕ → Option ℕ) (key n : ℕ) → first n ≡ None → starts_by first key n ≡ false
        starts-at first key n e = rw e refl
    by_first (Some x) e = false≢true (sym none ∙ ap is_some (is ∙ (first-looked layout shape old new n looks ∙ e)))
