-- A table with its log at rest on a flash, and its image on the flash's medium.
use Rattle.std.proofs.Common.{◌≡◌, ℕ, ◌+◌, Bool, true, false, cond, Some, None, IfSome, List, take, sym, subst, sum_by}
use Rattle.std.proofs.lemmas.Bool.{false≢true}
use Rattle.std.proofs.lemmas.Option.{none-some}
use Rattle.fl_flash.specs.Flash.{FlashState, page_at}
use Rattle.fl_model.specs.Image.{IsTableImage, IsRingImage, HoldsLogged, page_bytes}
use Rattle.fl_model.specs.Layout.{is_blank}
use Rattle.fl_model.specs.Record.{Plan, Config, blocks_of, has_log}
use Rattle.fl_model.specs.Ring.{fresh}
use Rattle.fl_model.specs.Table.{Table, RingName, LogRing, shape_of, fresh_table}
use Rattle.fl_parts.proofs.Images as without_log
use Rattle.fl_parts.proofs.Images.{pages-medium}
use Rattle.fl_parts.specs.Pages.{HoldsTable, bytes_in, place_in}
use Rattle.fl_rlc.specs.Logged.{Rests}

abbrev HoldsLog : (ℕ → List ℕ) → ℕ → Plan → Table → Type 0
HoldsLog page first plan table = IfSome table.log (λ ring. IsRingImage (shape_of plan LogRing) ring (bytes_in page first plan LogRing) (HoldsLogged plan table ring))

pub image-rests : (config : Config) (place : ℕ) (plan : Plan) (table : Table) (f : FlashState) → f.start ≡ 1024 → f.geometry ≡ config.geometry →
    IsTableImage config f.media.content place plan table → Rests f (sum_by blocks_of (take place config.plans)) plan table
image-rests config place plan table f start geometry h =
    let same = pages-medium config f start geometry in
    record {
      settled = h.settled;
      pages = subst (λ (page : ℕ → List ℕ). HoldsTable page (sum_by blocks_of (take place config.plans)) plan table) same (record { rows = h.rows; index = h.index; var = h.var });
      log = subst (λ (page : ℕ → List ℕ). HoldsLog page (sum_by blocks_of (take place config.plans)) plan table) same h.log;
    }

pub rests-image : (config : Config) (place : ℕ) (plan : Plan) (table : Table) (f : FlashState) → f.start ≡ 1024 → f.geometry ≡ config.geometry →
    Rests f (sum_by blocks_of (take place config.plans)) plan table → IsTableImage config f.media.content place plan table
rests-image config place plan table f start geometry h =
    let same : page_at f ≡ page_bytes config f.media.content = sym (pages-medium config f start geometry) in
    let k = subst (λ (page : ℕ → List ℕ). HoldsTable page (sum_by blocks_of (take place config.plans)) plan table) same h.pages in
    record {
      settled = h.settled;
      rows = k.rows;
      index = k.index;
      var = k.var;
      log = subst (λ (page : ℕ → List ℕ). HoldsLog page (sum_by blocks_of (take place config.plans)) plan table) same h.log;
    }

-- an empty table rests on blank pages
pub blank-rests : (f : FlashState) (first : ℕ) (plan : Plan) → ((ring : RingName) (n : ℕ) → is_blank (page_at f (place_in first plan ring n)) ≡ true) → Rests f first plan (fresh_table plan)
blank-rests f first plan blank =
    let rests = without_log.blank-rests f first plan blank in
    record { settled = rests.settled; pages = rests.pages; log = by_log (has_log plan) }
  where
    by_log : (b : Bool) → IfSome (cond b (Some fresh) None) (λ ring. IsRingImage (shape_of plan LogRing) ring (bytes_in (page_at f) first plan LogRing) (HoldsLogged plan (fresh_table plan) ring))
    by_log true = record {
      void = λ i e. absurd (none-some _ e);
      kept = λ i count e some. absurd (none-some _ e);
      blank_next = λ e. blank LogRing 0;
      torn_next = λ e. absurd (false≢true e);
      dirty = λ e. absurd (false≢true e);
      others = λ k some few clear. blank LogRing (0 + k);
    }
    by_log false = tt
