-- Variable data among the parts of a table: its facts, and its pages on a flash.
use Rattle.std.proofs.Common.{◌≡◌, ℕ, ◌+◌, ◌-◌, ◌*◌, ◌%◌, ◌<◌, ◌≤◌, ◌⊎◌, Bool, true, false, cond, nat_lt, Option, Some, None, IfSome, List, [], length, refl, sym, ◌∙◌, ap, subst, arith}
use Rattle.std.specs.Prelude.{option_map}
use Rattle.std.specs.List.{slice_get, list_any, AllByRecursion}
use Rattle.std.proofs.Math.Path.{fun_ext}
use Rattle.std.proofs.Math.Nat.{mul-le-mul_right, mod-le}
use Rattle.std.proofs.lemmas.Bool.{lt-ltb, false≢true}
use Rattle.std.proofs.lemmas.List.{take_all}
use Rattle.std.proofs.lemmas.Option.{same_Some}
use Rattle.fl_flash.specs.Flash.{FlashState, page_at}
use Rattle.fl_model.specs.Agrees.{reach_of, BlobsOf}
use Rattle.fl_model.specs.Facts.{IsTable, IsContent, is_some_ring, counts_in}
use Rattle.fl_model.specs.Image.{IsRingImage, HoldsContent}
use Rattle.fl_model.specs.Content.{ContentPage}
use Rattle.fl_model.specs.Mount.{renumber, renumbered, blob_end, least_alike}
use Rattle.fl_model.specs.Record.{Plan, has_var, content_per_page}
use Rattle.fl_model.specs.Ring.{Ring, IsRing, IsShape, oldest}
use Rattle.fl_model.specs.Table.{Table, Entry, VarRing, shape_of, fill, full_pages, written, spent_from}
use Rattle.fl_model.proofs.Renumber.{least-alike}
use Rattle.fl_parts.specs.Blobs.{AreIn, AreLed, ArePlaced, IsPlanned, IsStanding}
use Rattle.fl_parts.specs.BlobMount.{Rests}
use Rattle.fl_parts.specs.Mountable.{BlobsBefore}
use Rattle.fl_parts.specs.Pages.{bytes_in}
use Rattle.fl_parts.proofs.VarFacts.{HasVar, in-led}
use Rattle.fl_var.specs.Memory.{next_in, page_in, var_shape}
use Rattle.fl_var.specs.Standing.{IsVarRing}
use Rattle.fl_var.specs.declared.var_data.VarData.{VarData}
use Rattle.fl_var.proofs.PageImages.{waiting-room}

-- Variable data stand where other parts of their table changed.
pub stand-moved : (v : VarData) (f g : FlashState) (first : ℕ) (plan : Plan) (table new : Table) → (stands : IsStanding v f first plan table) → page_in v g ≡ page_in v f → new.var ≡ table.var → new.var_pages ≡ table.var_pages → new.buffered ≡ table.buffered →
    ArePlaced stands.in_pages.ring.ring new.entries → IsStanding v g first plan new
stand-moved v f g first plan table new stands pages var var_pages buffered placed = record {
  planned = stands.planned;
  in_pages = record {
    ring = record {
      planned = stands.in_pages.ring.planned;
      mounted = stands.in_pages.ring.mounted;
      ring = stands.in_pages.ring.ring;
      ring_is = var ∙ stands.in_pages.ring.ring_is;
      pages = subst (λ (at : ℕ → List ℕ). IsVarRing plan new.var_pages stands.in_pages.ring.ring at) (sym pages)
          (subst (λ (ps : List ContentPage). IsVarRing plan ps stands.in_pages.ring.ring (page_in v f)) (sym var_pages) stands.in_pages.ring.pages);
      whole = stands.in_pages.ring.whole;
      clean = stands.in_pages.ring.clean;
      next = stands.in_pages.ring.next;
      oldest_is = stands.in_pages.ring.oldest_is;
    };
    buffered = buffered ∙ stands.in_pages.buffered;
  };
  placed = placed;
}

-- ---- facts

-- each blob of these records is in the pages of a table, or was given up
abbrev pub AreInPages : Plan → Table → List Entry → Type 0
AreInPages plan table entries =
    (i : ℕ) (entry : Entry) (blob : List ℕ) → slice_get entries i ≡ Some entry → entry.kept.blob ≡ Some blob → 0 < length blob →
    IfSome table.var (λ ring. (entry.page < oldest ring)
    ⊎ ((oldest ring ≤ entry.page) × (slice_get ring.counts (entry.page - oldest ring) ≡ Some 1) × (entry.page + reach_of plan entry blob < ring.next)))

-- the facts of the variable data of a table
pub record IsBlobbed (plan : Plan) (table : Table) : Type 0 where
  pub has : is_some_ring table.var ≡ has_var plan
  pub ring : IfSome table.var (IsRing (shape_of plan VarRing))
  pub counts : AllByRecursion (λ count. (count ≡ 0) ⊎ (count ≡ 1)) (counts_in table.var)
  pub each : length table.var_pages ≡ full_pages (counts_in table.var)
  pub fit : AllByRecursion (IsContent plan) table.var_pages
  pub fill : fill table ≤ content_per_page plan
  pub blobs : AreInPages plan table (written table)
  pub stand : IfSome table.var (BlobsOf plan table)
  pub number : IfSome table.var (λ ring. ring.next + (cond ring.torn 1 0) ≤ 4294967292)
  pub number_pending : (table.pending ≡ 0 → ⊥) → IfSome table.var (λ ring. ring.next ≤ spent_from + 64)

-- .. and less: its numbers fit, and a blob may begin on a void page
pub record IsLed (plan : Plan) (table : Table) : Type 0 where
  pub has : is_some_ring table.var ≡ has_var plan
  pub ring : IfSome table.var (IsRing (shape_of plan VarRing))
  pub counts : AllByRecursion (λ count. (count ≡ 0) ⊎ (count ≡ 1)) (counts_in table.var)
  pub each : length table.var_pages ≡ full_pages (counts_in table.var)
  pub fit : AllByRecursion (IsContent plan) table.var_pages
  pub fill : fill table ≤ content_per_page plan
  pub led : IfSome table.var (λ ring. AreLed plan ring (written table))
  pub stand : IfSome table.var (BlobsOf plan table)
  pub number : IfSome table.var (λ ring. ring.next + (cond ring.torn 1 0) ≤ 4294967295)

pub blobbed-led : (plan : Plan) (table : Table) → IsBlobbed plan table → IsLed plan table
blobbed-led plan table h = record {
  has = h.has;
  ring = h.ring;
  counts = h.counts;
  each = h.each;
  fit = h.fit;
  fill = h.fill;
  led = by_ring table.var h.ring h.blobs;
  stand = h.stand;
  number = at_most table.var h.number;
}
  where
    by_ring : (o : Option Ring) → IfSome o (IsRing (shape_of plan VarRing)) →
        ((i : ℕ) (entry : Entry) (blob : List ℕ) → slice_get (written table) i ≡ Some entry → entry.kept.blob ≡ Some blob → 0 < length blob →
        IfSome o (λ r. (entry.page < oldest r) ⊎ ((oldest r ≤ entry.page) × (slice_get r.counts (entry.page - oldest r) ≡ Some 1) × (entry.page + reach_of plan entry blob < r.next)))) →
        IfSome o (λ r. AreLed plan r (written table))
    by_ring None is inside = tt
    by_ring (Some r) is inside = in-led plan r (written table) is.not_negative inside

    at_most : (o : Option Ring) → IfSome o (λ r. r.next + (cond r.torn 1 0) ≤ 4294967292) → IfSome o (λ r. r.next + (cond r.torn 1 0) ≤ 4294967295)
    at_most None le = tt
    at_most (Some r) le = omega (arith, le)

pub facts-blobbed : (plan : Plan) (table : Table) → IsTable plan table → IsBlobbed plan table
facts-blobbed plan table h = record {
  has = h.has_rings.1;
  ring = h.var;
  counts = h.var_counts;
  each = h.var_each;
  fit = h.var_fit;
  fill = h.fill;
  blobs = h.blobs;
  stand = h.agrees.blobs;
  number = h.numbers VarRing;
  number_pending = λ p. (h.numbers_pending p).2;
}

-- .. by its ring
pub blobbed-in : (plan : Plan) (table : Table) (ring : Ring) (entries : List Entry) → table.var ≡ Some ring → AreInPages plan table entries → AreIn plan ring entries
blobbed-in plan table ring entries is h = λ i entry blob e k some.
    subst (λ (o : Option Ring). IfSome o (λ r. (entry.page < oldest r) ⊎ ((oldest r ≤ entry.page) × (slice_get r.counts (entry.page - oldest r) ≡ Some 1) × (entry.page + reach_of plan entry blob < r.next)))) is (h i entry blob e k some)

pub in-blobbed : (plan : Plan) (table : Table) (ring : Ring) (entries : List Entry) → table.var ≡ Some ring → AreIn plan ring entries → AreInPages plan table entries
in-blobbed plan table ring entries is h = λ i entry blob e k some.
    subst (λ (o : Option Ring). IfSome o (λ r. (entry.page < oldest r) ⊎ ((oldest r ≤ entry.page) × (slice_get r.counts (entry.page - oldest r) ≡ Some 1) × (entry.page + reach_of plan entry blob < r.next)))) (sym is) (h i entry blob e k some)

pub blobbed-stand : (plan : Plan) (table : Table) (ring : Ring) → table.var ≡ Some ring → IsBlobbed plan table → BlobsOf plan table ring
blobbed-stand plan table ring is h = subst (λ (o : Option Ring). IfSome o (BlobsOf plan table)) is h.stand

-- what a standing ring has
pub standing-has : (v : VarData) (f : FlashState) (first : ℕ) (plan : Plan) (table : Table) → (s : IsStanding v f first plan table) → IsBlobbed plan table → HasVar plan table s.in_pages.ring.ring
standing-has v f first plan table s h =
    let ring = s.in_pages.ring in
    record {
      is = ring.ring_is;
      numbered = ring.pages.facts.not_negative;
      each = ring.pages.each;
      stand = blobbed-stand plan table ring.ring ring.ring_is h;
      placed = s.placed;
      written = blobbed-in plan table ring.ring (written table) ring.ring_is h.blobs;
    }

-- a plan with variable data
pub planned-var : (v : VarData) (first : ℕ) (plan : Plan) → IsPlanned v first plan → has_var plan ≡ true
planned-var v first plan h = lt-ltb 0 plan.var_blocks (omega (arith, h.planned.blocks, v.some_blocks))

pub var-shape : (v : VarData) (first : ℕ) (plan : Plan) → IsPlanned v first plan → IsShape (shape_of plan VarRing)
var-shape v first plan h = record { blocks = omega (arith, h.planned.blocks, v.some_blocks); pages = omega (arith, v.served.block_least, ap (λ g. g.block) h.planned.geometry) }

-- those of a ring, by its pages
pub ring-blobbed : (plan : Plan) (table : Table) (ring : Ring) (at : ℕ → List ℕ) → table.var ≡ Some ring → has_var plan ≡ true → IsVarRing plan table.var_pages ring at → AreIn plan ring (written table) → BlobsOf plan table ring → fill table ≤ content_per_page plan →
    ring.next + (cond ring.torn 1 0) ≤ 4294967292 → ((table.pending ≡ 0 → ⊥) → ring.next ≤ spent_from + 64) → IsBlobbed plan table
ring-blobbed plan table ring at is some pages inside stand few number pending = record {
  has = ap is_some_ring is ∙ sym some;
  ring = subst (λ (o : Option Ring). IfSome o (IsRing (shape_of plan VarRing))) (sym is) pages.facts;
  counts = subst (λ (o : Option Ring). AllByRecursion (λ count. (count ≡ 0) ⊎ (count ≡ 1)) (counts_in o)) (sym is) pages.counts;
  each = pages.each ∙ ap (λ (o : Option Ring). full_pages (counts_in o)) (sym is);
  fit = pages.fit;
  fill = few;
  blobs = in-blobbed plan table ring (written table) is inside;
  stand = subst (λ (o : Option Ring). IfSome o (BlobsOf plan table)) (sym is) stand;
  number = subst (λ (o : Option Ring). IfSome o (λ r. r.next + (cond r.torn 1 0) ≤ 4294967292)) (sym is) number;
  number_pending = λ p. subst (λ (o : Option Ring). IfSome o (λ r. r.next ≤ spent_from + 64)) (sym is) (pending p);
}

pub ring-led : (plan : Plan) (table : Table) (ring : Ring) (at : ℕ → List ℕ) → table.var ≡ Some ring → has_var plan ≡ true → IsVarRing plan table.var_pages ring at → AreLed plan ring (written table) → BlobsOf plan table ring → fill table ≤ content_per_page plan →
    ring.next + (cond ring.torn 1 0) ≤ 4294967295 → IsLed plan table
ring-led plan table ring at is some pages led stand few number = record {
  has = ap is_some_ring is ∙ sym some;
  ring = subst (λ (o : Option Ring). IfSome o (IsRing (shape_of plan VarRing))) (sym is) pages.facts;
  counts = subst (λ (o : Option Ring). AllByRecursion (λ count. (count ≡ 0) ⊎ (count ≡ 1)) (counts_in o)) (sym is) pages.counts;
  each = pages.each ∙ ap (λ (o : Option Ring). full_pages (counts_in o)) (sym is);
  fit = pages.fit;
  fill = few;
  led = subst (λ (o : Option Ring). IfSome o (λ r. AreLed plan r (written table))) (sym is) led;
  stand = subst (λ (o : Option Ring). IfSome o (BlobsOf plan table)) (sym is) stand;
  number = subst (λ (o : Option Ring). IfSome o (λ r. r.next + (cond r.torn 1 0) ≤ 4294967295)) (sym is) number;
}

-- .. where it stands
pub standing-blobbed : (v : VarData) (f : FlashState) (first : ℕ) (plan : Plan) (table : Table) (s : IsStanding v f first plan table) → HasVar plan table s.in_pages.ring.ring → next_in v ≤ 4294967292 → ((table.pending ≡ 0 → ⊥) → next_in v ≤ spent_from + 64) → IsBlobbed plan table
standing-blobbed v f first plan table s h number pending =
    let ring = s.in_pages.ring in
    let torn : ◌≡◌ {A = ℕ} (cond s.in_pages.ring.ring.torn 1 0) 0 = ap {B = ℕ} (λ b. cond b 1 0) ring.whole in
    ring-blobbed plan table ring.ring (page_in v f) ring.ring_is (planned-var v first plan s.planned) ring.pages h.written h.stand
    (omega (arith, ap length s.in_pages.buffered, waiting-room v, ap (λ g. g.page) s.planned.planned.geometry)) (omega (arith, ring.next, number, torn)) (λ p. let le = pending p in omega (arith, le, ring.next))

-- ---- pages

-- the pages of the ring, in the words of the table's image
pub var-pages : (v : VarData) (f : FlashState) (first : ℕ) (plan : Plan) → IsPlanned v (first + plan.data_blocks + plan.index_blocks) plan → bytes_in (page_at f) first plan VarRing ≡ page_in v f
var-pages v f first plan h = fun_ext (λ n. at n)
  where
    at : (n : ℕ) → bytes_in (page_at f) first plan VarRing n ≡ page_in v f n
    at n =
        ap (λ k. page_at f (k + n % (plan.var_blocks * plan.geometry.block))) (sym h.begins)
        ∙ (ap (λ b. page_at f ((var_shape v).first + n % (b * plan.geometry.block))) h.planned.blocks
        ∙ ap (λ g. page_at f ((var_shape v).first + n % (v.place.blocks * g.block))) h.planned.geometry)

-- what a flash holds of a table's variable data
abbrev pub HoldsVar : (ℕ → List ℕ) → ℕ → Plan → Table → Type 0
HoldsVar page first plan table = IfSome table.var (λ ring. IsRingImage (shape_of plan VarRing) ring (bytes_in page first plan VarRing) (HoldsContent table ring))

pub ring-holds : (v : VarData) (f : FlashState) (first : ℕ) (plan : Plan) (table : Table) (ring : Ring) → IsPlanned v (first + plan.data_blocks + plan.index_blocks) plan → table.var ≡ Some ring → IsVarRing plan table.var_pages ring (page_in v f) → HoldsVar (page_at f) first plan table
ring-holds v f first plan table ring planned is pages =
    subst (λ (o : Option Ring). IfSome o (λ r. IsRingImage (shape_of plan VarRing) r (bytes_in (page_at f) first plan VarRing) (HoldsContent table r))) (sym is)
    (subst (λ (at : ℕ → List ℕ). IsRingImage (shape_of plan VarRing) ring at (HoldsContent table ring)) (sym (var-pages v f first plan planned)) pages.image)

-- .. where the table runs
pub standing-holds : (v : VarData) (f : FlashState) (first : ℕ) (plan : Plan) (table : Table) → IsStanding v f (first + plan.data_blocks + plan.index_blocks) plan table → HoldsVar (page_at f) first plan table
standing-holds v f first plan table stands =
    let ring = stands.in_pages.ring in
    ring-holds v f first plan table ring.ring stands.planned ring.ring_is ring.pages

-- ---- a table at rest

-- a ring whose numbers are behind all blobs keeps its number or a lower one
pub low-number : (plan : Plan) (ring : Ring) (least : ℕ) → 0 < plan.var_blocks * plan.geometry.block → least ≤ ring.next → least_alike (plan.var_blocks * plan.geometry.block) ring.next least ≤ ring.next
low-number plan ring least some le =
    let rest : (ring.next - least) % (plan.var_blocks * plan.geometry.block) ≤ ring.next - least = mod-le (ring.next - least) (plan.var_blocks * plan.geometry.block) in
    omega (arith, least-alike (plan.var_blocks * plan.geometry.block) ring.next least some le, rest, le)

-- variable data at rest on a flash, for their mount
module _ (v : VarData) (f : FlashState) (first : ℕ) (plan : Plan) (table : Table) (planned : IsPlanned v (first + plan.data_blocks + plan.index_blocks) plan) (facts : IsLed plan table) (before : BlobsBefore table) (holds : HoldsVar (page_at f) first plan table)
    (idle : table.pending ≡ 0) (empty : table.buffered ≡ []) where
  some-pages : 0 < plan.var_blocks * plan.geometry.block
  some-pages =
      let k : 3 * plan.geometry.block ≤ plan.var_blocks * plan.geometry.block = mul-le-mul_right plan.geometry.block (omega (arith, planned.planned.blocks, v.some_blocks)) in
      omega (arith, k, v.served.block_least, ap (λ g. g.block) planned.planned.geometry)

  rests-at : (ring : Ring) → table.var ≡ Some ring → Rests v f (first + plan.data_blocks + plan.index_blocks) plan table
  rests-at ring is = record {
    planned = planned;
    in_pages = record { planned = planned.planned; ring = ring; ring_is = is; pages = pages; empty = empty; fits = fits };
    led = inside;
    void = void;
    stand = subst (λ (o : Option Ring). IfSome o (BlobsOf plan table)) is facts.stand;
  }
    where
      same : bytes_in (page_at f) first plan VarRing ≡ page_in v f
      same = var-pages v f first plan planned

      number : ring.next + (cond ring.torn 1 0) ≤ 4294967295
      number = subst (λ (o : Option Ring). IfSome o (λ r. r.next + (cond r.torn 1 0) ≤ 4294967295)) is facts.number

      void : list_any (nat_lt 0) ring.counts ≡ false → blob_end table ≤ oldest ring
      void = subst (λ (o : Option Ring). IfSome o (λ r. list_any (nat_lt 0) r.counts ≡ false → blob_end table ≤ oldest r)) is before

      pages : IsVarRing plan table.var_pages ring (page_in v f)
      pages = record {
        facts = subst (λ (o : Option Ring). IfSome o (IsRing (shape_of plan VarRing))) is facts.ring;
        counts = subst (λ (o : Option Ring). AllByRecursion (λ count. (count ≡ 0) ⊎ (count ≡ 1)) (counts_in o)) is facts.counts;
        number = omega (arith, number);
        each = facts.each ∙ ap (λ (o : Option Ring). full_pages (counts_in o)) is;
        fit = facts.fit;
        image = subst (λ (at : ℕ → List ℕ). IsRingImage (shape_of plan VarRing) ring at (HoldsContent table ring)) same
            (subst (λ (o : Option Ring). IfSome o (λ r. IsRingImage (shape_of plan VarRing) r (bytes_in (page_at f) first plan VarRing) (HoldsContent table r))) is holds);
      }

      all : written table ≡ table.entries
      all = take_all (length table.entries - table.pending) table.entries (omega (arith, idle))

      inside : AreLed plan ring table.entries
      inside = subst (λ (es : List Entry). AreLed plan ring es) all (subst (λ (o : Option Ring). IfSome o (λ r. AreLed plan r (written table))) is facts.led)

      numbered_is : (renumber plan VarRing table).var ≡ Some (renumbered (shape_of plan VarRing) (blob_end table) ring)
      numbered_is = ap (option_map (renumbered (shape_of plan VarRing) (blob_end table))) is

      low : (renumbered (shape_of plan VarRing) (blob_end table) ring).next ≤ ring.next
      low = by_any (list_any (nat_lt 0) ring.counts) refl
        where
          by_any : (b : Bool) → list_any (nat_lt 0) ring.counts ≡ b → (cond b ring (record ring { next = least_alike (plan.var_blocks * plan.geometry.block) ring.next (blob_end table + length ring.counts) })).next ≤ ring.next
          by_any true e = omega arith
          by_any false e =
              let old = void e in
              low-number plan ring (blob_end table + length ring.counts) some-pages (omega (arith, old, pages.facts.not_negative))

      fits : (numbered : Ring) → (renumber plan VarRing table).var ≡ Some numbered → numbered.next + (cond ring.torn 1 0) < 4294967296
      fits numbered e =
          let here = ap (λ (r : Ring). r.next) (same_Some (renumbered (shape_of plan VarRing) (blob_end table) ring) numbered (sym numbered_is ∙ e)) in
          omega (arith, here, low, number)

  pub rests-var : Rests v f (first + plan.data_blocks + plan.index_blocks) plan table
  rests-var = by_ring table.var refl
    where
      by_ring : (o : Option Ring) → table.var ≡ o → Rests v f (first + plan.data_blocks + plan.index_blocks) plan table
      by_ring (Some ring) e = rests-at ring e
      by_ring None e = absurd (false≢true (ap is_some_ring (sym e) ∙ (facts.has ∙ planned-var v (first + plan.data_blocks + plan.index_blocks) plan planned)))
