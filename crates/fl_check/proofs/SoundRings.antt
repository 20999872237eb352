-- Each ring of a sound table stands for a state of it.
use Rattle.std.proofs.Common.{◌≡◌, ℕ, ◌+◌, ◌-◌, ◌*◌, ◌≤◌, ◌++◌, IsTrue, IfSome, Option, Some, None, List, length, drop, replicate, append_assoc, length-append, sym, ◌∙◌, ap, arith}
use Rattle.std.proofs.Math.Nat.{mul-le-mul_right, add-mul}
use Rattle.std.proofs.lemmas.List.{drop_at}
use Rattle.fl_base.specs.declared.types.Geometry.{Geometry}
use Rattle.fl_base.specs.declared.types.RingPlace.{RingPlace}
use Rattle.fl_flash.specs.Flash.{FlashState, page_at, pages}
use Rattle.fl_flash.specs.Places.{extent}
use Rattle.fl_model.specs.Layout.{committed, index_body, rows_body}
use Rattle.fl_bitmap.specs.Bucket.{bitmap_in}
use Rattle.fl_plan.specs.Limits.{IsRingSize}
use Rattle.fl_plan.specs.Plan.{plan_of_table}
use Rattle.fl_plan.specs.Refusal.{nameless}
use Rattle.fl_plan.specs.declared.table_config.TableConfig.{TableConfig}
use Rattle.fl_ring.proofs.Lengths.{page_length}
use Rattle.fl_rules.specs.Endings.{IsEnded}
use Rattle.fl_rules.specs.RingRules.{KeyOrder, NoRows, IsRingSound}
use Rattle.fl_check.specs.StandingRings.{HaveSize, EndsCommitted, IsSortedLogForm, StandsRuled, SoundRingsStand}
use Rattle.fl_check.specs.Whole.{Fits, OfRing, IsIndexForm, IsRowsForm, IsVarForm, IsLogSound, layout_in, shape_in}
use Rattle.fl_rules.specs.declared.numbering.Numbering.{Numbering}
use Rattle.fl_rules.specs.declared.tally.Tally.{Tally}
use Rattle.fl_check.proofs.RulesStand.{rules-stand}

-- ---- the forms

committed_ended : (page body : List ℕ) → page ≡ committed body → IsEnded page
committed_ended page body is =
    let end : List ℕ = replicate 4 0 ++ replicate 4 255 in
    let parts : page ≡ body ++ end = is ∙ append_assoc body (replicate 4 0) (replicate 4 255) in
    let size : length page ≡ length body + 8 = ap length parts ∙ length-append body end in
    ap (λ (l : List ℕ). drop (length page - 8) l) parts ∙ drop_at body end (length page - 8) (omega (arith, size))

index_ends : (config : TableConfig) → EndsCommitted (IsIndexForm config) config.geometry.page
index_ends config number page size form = committed_ended page (index_body (plan_of_table nameless config) number form.1.first form.1.entries) form.1.bytes

rows_end : (config : TableConfig) → EndsCommitted (IsRowsForm config) config.geometry.page
rows_end config number page size form = committed_ended page (rows_body (length page - 8) (layout_in config) number (bitmap_in config.buckets form.rows) form.rows) form.bytes

var_ends : (config : TableConfig) → EndsCommitted IsVarForm config.geometry.page
var_ends config number page size form = form.marks

log_ends : (config : TableConfig) → EndsCommitted (IsSortedLogForm config) config.geometry.page
log_ends config number page size (form, ascends) = committed_ended page (rows_body (length page - 8) (layout_in config) number (bitmap_in None form.rows) form.rows) form.bytes

-- ---- the rings

module _ (config : TableConfig) (f : FlashState) (fits : Fits config f) (reaches : f.start + extent f.geometry f.blocks ≤ length f.media.content) (told : IsTrue f.media.tells) where
  page_same : config.geometry.page ≡ f.geometry.page
  page_same = ap (λ (g : Geometry). g.page) fits.geometry

  block_same : config.geometry.block ≡ f.geometry.block
  block_same = ap (λ (g : Geometry). g.block) fits.geometry

  pub have_size : (place : RingPlace) → place.first_block + place.blocks ≤ f.blocks → HaveSize (page_at f) (shape_in config place)
  have_size place within p low high =
      let ring : (place.first_block + place.blocks) * config.geometry.block ≡ place.first_block * config.geometry.block + place.blocks * config.geometry.block = add-mul place.first_block place.blocks config.geometry.block in
      let up : (place.first_block + place.blocks) * config.geometry.block ≤ f.blocks * config.geometry.block = mul-le-mul_right config.geometry.block within in
      let all : f.blocks * config.geometry.block ≡ pages f = ap (λ (k : ℕ). f.blocks * k) block_same in
      page_length f p reaches (omega (arith, high, ring, up, all)) ∙ sym page_same

  ring-stands : (Form : ℕ → List ℕ → Type 0) (order : KeyOrder) (place : RingPlace) (at_least : ℕ) (n : Numbering) → IsRingSize place → place.first_block + place.blocks ≤ f.blocks → EndsCommitted Form config.geometry.page →
      IsRingSound Form order (page_at f) (shape_in config place) at_least n → StandsRuled Form f (shape_in config place) at_least n
  ring-stands Form order place at_least n size within ends is =
      rules-stand Form f (shape_in config place) at_least n (record { blocks = size.0; per_block = fits.limits.geometry.block_low; size = fits.limits.geometry.page_low })
      (have_size place within) told ends is.formed.numbered is.formed.bodies is.rest

  of-ring : (Form : ℕ → List ℕ → Type 0) (order : KeyOrder) (o : Option RingPlace) (at_least : ℕ) (n : Option Numbering) → IfSome o IsRingSize → IfSome o (λ place. place.first_block + place.blocks ≤ f.blocks) → EndsCommitted Form config.geometry.page →
      OfRing (λ place n. IsRingSound Form order (page_at f) (shape_in config place) at_least n) o n → OfRing (λ place n. StandsRuled Form f (shape_in config place) at_least n) o n
  of-ring Form order None at_least None size within ends is = tt
  of-ring Form order None at_least (Some n) size within ends is = is
  of-ring Form order (Some place) at_least None size within ends is = is
  of-ring Form order (Some place) at_least (Some n) size within ends is = ring-stands Form order place at_least n size within ends is

-- the rule on keys is one on the form of each page of a log
sorted : (config : TableConfig) (page : ℕ → List ℕ) (log : Option RingPlace) (n : Option Numbering) → IsLogSound config log page n → OfRing (λ place n. IsRingSound (IsSortedLogForm config) NoRows page (shape_in config place) 0 n) log n
sorted config page None None is = tt
sorted config page None (Some n) is = is
sorted config page (Some place) None is = is
sorted config page (Some place) (Some n) is = record {
  formed = record { numbered = is.formed.numbered; bodies = λ i lt number at committed. (is.formed.bodies i lt number at committed, is.keys i lt number at committed) };
  keys = tt;
  rest = is.rest;
}

pub log-sizes : (log : Option RingPlace) (f : FlashState) → IfSome log (λ place. IsRingSize place × (place.first_block + place.blocks ≤ f.blocks)) → IfSome log IsRingSize × IfSome log (λ place. place.first_block + place.blocks ≤ f.blocks)
log-sizes None f h = (tt, tt)
log-sizes (Some place) f h = h

pub rings-stand : SoundRingsStand
rings-stand config log f rows pages voids fits logs reaches told (blob_end, is) =
    let sizes = log-sizes log f logs in
    let stand = ring-stands config f fits reaches told _ _ config.rows _ is.t.rows fits.limits.rows fits.rows (rows_end config) is.sound.rings.rows in
    record {
      t = is.t;
      sound = is.sound;
      index = of-ring config f fits reaches told _ _ config.index 0 is.t.index fits.limits.index fits.index (index_ends config) is.sound.rings.index;
      rows = stand;
      var = of-ring config f fits reaches told _ _ config.var _ is.t.var fits.limits.var fits.var (var_ends config) is.sound.rings.var;
      logged = of-ring config f fits reaches told _ _ log 0 is.t.log sizes.0 sizes.1 (log_ends config) (sorted config (page_at f) log is.t.log is.sound.rings.logged);
      kept = stand.kept ∙ sym is.kept_is;
      records_is = ap (λ (t : Tally). t.rows) (sym is.tally_is);
      voids_is = ap (λ (t : Tally). t.voids) (sym is.tally_is);
    }
