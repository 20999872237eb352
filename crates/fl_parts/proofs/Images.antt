-- A table at rest on a flash, and its image on the flash's medium.
use Rattle.std.proofs.Common.{◌≡◌, ℕ, ◌+◌, ◌-◌, ◌*◌, Bool, true, false, cond, Option, Some, None, IfSome, List, take, drop, refl, sym, ◌∙◌, ap, subst, arith, sum_by}
use Rattle.std.proofs.Math.Path.{fun_ext}
use Rattle.std.proofs.lemmas.Bool.{false≢true}
use Rattle.std.proofs.lemmas.Option.{none-some}
use Rattle.fl_flash.specs.Flash.{FlashState, page_at}
use Rattle.fl_model.specs.Record.{Plan, Config, blocks_of, has_index, has_var}
use Rattle.fl_model.specs.Ring.{Shape, Ring, fresh}
use Rattle.fl_model.specs.Table.{Table, RingName, DataRing, IndexRing, VarRing, LogRing, shape_of, fresh_table}
use Rattle.fl_model.specs.Layout.{is_blank}
use Rattle.fl_model.specs.Image.{IsTableImage, IsRingImage, HoldsRows, HoldsEntries, HoldsContent, HoldsLogged, page_bytes, bytes_at}
use Rattle.fl_model.proofs.Fresh.{new-stand}
use Rattle.fl_parts.proofs.Bare.{bare-table}
use Rattle.fl_parts.specs.Pages.{HoldsTable, Rests, bytes_in, place_in}

-- the pages of a medium whose flash begins behind its header
pub pages-medium : (config : Config) (f : FlashState) → f.start ≡ 1024 → f.geometry ≡ config.geometry → page_bytes config f.media.content ≡ page_at f
pages-medium config f start geometry = fun_ext (λ p. one p)
  where
    one : (p : ℕ) → page_bytes config f.media.content p ≡ page_at f p
    one p =
        let size : f.geometry.page ≡ config.geometry.page = ap (λ g. g.page) geometry in
        let at : 1024 + p * config.geometry.page ≡ f.start + p * f.geometry.page = rw (size, start) refl in
        let len : config.geometry.page ≡ f.start + p * f.geometry.page + f.geometry.page - (f.start + p * f.geometry.page) = omega (arith, size) in
        ap (λ n. take n (drop (1024 + p * config.geometry.page) f.media.content)) len
        ∙ ap (λ n. take (f.start + p * f.geometry.page + f.geometry.page - (f.start + p * f.geometry.page)) (drop n f.media.content)) at

pub image-rests : (config : Config) (place : ℕ) (plan : Plan) (table : Table) (f : FlashState) → f.start ≡ 1024 → f.geometry ≡ config.geometry →
    IsTableImage config f.media.content place plan table → Rests f (sum_by blocks_of (take place config.plans)) plan table
image-rests config place plan table f start geometry h = record {
  settled = h.settled;
  pages = subst (λ (page : ℕ → List ℕ). HoldsTable page (sum_by blocks_of (take place config.plans)) plan table) (pages-medium config f start geometry)
      (record { rows = h.rows; index = h.index; var = h.var });
}

-- .. where it has no log
pub rests-image : (config : Config) (place : ℕ) (plan : Plan) (table : Table) (f : FlashState) → plan.log_blocks ≡ 0 → f.start ≡ 1024 → f.geometry ≡ config.geometry →
    Rests f (sum_by blocks_of (take place config.plans)) plan table → IsTableImage config f.media.content place plan table
rests-image config place plan table f unlogged start geometry h =
    let k = subst (λ (page : ℕ → List ℕ). HoldsTable page (sum_by blocks_of (take place config.plans)) plan table) (sym (pages-medium config f start geometry)) h.pages in
    record {
      settled = h.settled;
      rows = k.rows;
      index = k.index;
      var = k.var;
      log = subst (λ (o : Option Ring). IfSome o (λ ring. IsRingImage (shape_of plan LogRing) ring (bytes_at config f.media.content place plan LogRing) (HoldsLogged plan table ring))) (sym (bare-table plan table unlogged h.settled.facts).0) tt;
    }

-- a table whose pages stand goes on to rest, whatever becomes of other pages
pub holds-same : (old new : ℕ → List ℕ) (first : ℕ) (plan : Plan) (table : Table) → ((ring : RingName) (n : ℕ) → new (place_in first plan ring n) ≡ old (place_in first plan ring n)) →
    HoldsTable old first plan table → HoldsTable new first plan table
holds-same old new first plan table same h = record {
  rows = subst (λ (at : ℕ → List ℕ). IsRingImage (shape_of plan DataRing) table.rows at (HoldsRows plan table)) (sym (equal DataRing)) h.rows;
  index = subst (λ (at : ℕ → List ℕ). IfSome table.index (λ ring. IsRingImage (shape_of plan IndexRing) ring at (HoldsEntries plan table ring))) (sym (equal IndexRing)) h.index;
  var = subst (λ (at : ℕ → List ℕ). IfSome table.var (λ ring. IsRingImage (shape_of plan VarRing) ring at (HoldsContent table ring))) (sym (equal VarRing)) h.var;
}
  where
    equal : (ring : RingName) → bytes_in new first plan ring ≡ bytes_in old first plan ring
    equal ring = fun_ext (λ n. same ring n)

-- the pages of an empty ring
fresh_image : (shape : Shape) (at : ℕ → List ℕ) (Holds : ℕ → ℕ → List ℕ → Type 0) → ((n : ℕ) → is_blank (at n) ≡ true) → IsRingImage shape fresh at Holds
fresh_image shape at Holds blank = record {
  void = λ i e. absurd (none-some _ e);
  kept = λ i count e some. absurd (none-some _ e);
  blank_next = λ e. blank 0;
  torn_next = λ e. absurd (false≢true e);
  dirty = λ e. absurd (false≢true e);
  others = λ k some few clear. blank (0 + k);
}

-- an empty table rests on blank pages
pub blank-rests : (f : FlashState) (first : ℕ) (plan : Plan) → ((ring : RingName) (n : ℕ) → is_blank (page_at f (place_in first plan ring n)) ≡ true) → Rests f first plan (fresh_table plan)
blank-rests f first plan blank = record {
  settled = new-stand plan;
  pages = record {
    rows = fresh_image (shape_of plan DataRing) (bytes_in (page_at f) first plan DataRing) (HoldsRows plan (fresh_table plan)) (blank DataRing);
    index = by_index (has_index plan);
    var = by_var (has_var plan);
  };
}
  where
    by_var : (b : Bool) → IfSome (cond b (Some fresh) None) (λ ring. IsRingImage (shape_of plan VarRing) ring (bytes_in (page_at f) first plan VarRing) (HoldsContent (fresh_table plan) ring))
    by_var true = fresh_image (shape_of plan VarRing) (bytes_in (page_at f) first plan VarRing) (HoldsContent (fresh_table plan) fresh) (blank VarRing)
    by_var false = tt

    by_index : (b : Bool) → IfSome (cond b (Some fresh) None) (λ ring. IsRingImage (shape_of plan IndexRing) ring (bytes_in (page_at f) first plan IndexRing) (HoldsEntries plan (fresh_table plan) ring))
    by_index true = fresh_image (shape_of plan IndexRing) (bytes_in (page_at f) first plan IndexRing) (HoldsEntries plan (fresh_table plan) fresh) (blank IndexRing)
    by_index false = tt
