-- The kept index pages are read one after another, each as soon as the data pages below the ends of those before it came.
use Rattle.std.proofs.Common.{◌≡◌, ℕ, suc, ◌+◌, ◌-◌, ◌*◌, ◌<◌, ◌≤◌, Bool, true, false, max, min, Option, Some, None, List, refl, sym, ◌∙◌, ap, subst, arith}
use Rattle.std.specs.Prelude.{◌/◌, ◌%◌, Result, Ok, Err, OnOk, option_map, unwrap_or, slice_index_or, vec_len}
use Rattle.fl_find.specs.declared.index.KeyIndex.{KeyIndex}
use Rattle.fl_flash.specs.Flash.{FlashState, page_at}
use Rattle.fl_index.specs.Memory.{first_in, form_in, oldest_in, next_in, place_in, ring_shape, IsSamePlan, IsSameRing, LiesOn as IndexLies}
use Rattle.fl_index.specs.Standing.{StandsBelow, HoldsIndex}
use Rattle.fl_index.specs.declared.index.BitmapIndex.{BitmapIndex}
use Rattle.fl_model.specs.Record.{Plan, RowLayout}
use Rattle.fl_model.specs.Table as model
use Rattle.fl_flash.specs.declared.flash.FlashFault.TheVariants.{PowerLost, Media}
use Rattle.fl_frame.specs.Reads.{OnlyReads}
use Rattle.fl_frame.specs.Causes.{ReadFails}
use Rattle.fl_ring.specs.Mounting.{shape_at}
use Rattle.fl_ring.specs.Place.{shape_of, next_of, oldest_of}
use Rattle.fl_ring.specs.Ring as rings
use Rattle.fl_ring.specs.Ring.{Shape, room}
use Rattle.fl_ring.specs.declared.ring.Ring.{Ring}
use Rattle.fl_ring.proofs.CutPages.{same_content}
use Rattle.fl_frame.proofs.ReadsInTurn.{same_page}
use Rattle.fl_index.proofs.Memories.{planned-same, ring-same}
use Rattle.fl_model.specs.Ring.{oldest as model_oldest}
use Rattle.fl_model.specs.Table.{first_of}
use Rattle.fl_index.proofs.MountCalls.{same-entries}
use Rattle.fl_parts.specs.ByEntries.{Come, end_before, listing_among, told_at, page_check, seen_before, unlisted_of}
use Rattle.fl_parts.specs.Faults.{IfFlash}
use Rattle.fl_parts.specs.declared.mount_fault.MountFault.{MountFault}
use Rattle.fl_parts.specs.declared.mount_fault.MountFault.TheVariants as mount
use Rattle.fl_parts.specs.Coming.{AreRowsOf, ComesBy, ComesTo, IsComeTo, AreLoaded, AreNext, AreListedBefore, StandFound, StandsFoundBy}
use Rattle.fl_parts.specs.Bitmaps.{AreSamePlan, AreSameRing, StandForRing}
use Rattle.fl_parts.specs.Knowing.{left, KnowsWith}
use Rattle.fl_parts.specs.declared.known.Known.{Known}
use Rattle.fl_parts.proofs.PageChecks.{left-page, left-tail}
use Rattle.fl_parts.proofs.MountProgress.{rows-still}
use Rattle.fl_parts.proofs.IndexOfTable.{lies-goes}
use Rattle.fl_parts.proofs.ListingPage.{end-next, unlisted}

-- when k index pages were read, and the data pages below a number came
pub record HasPassed {KNOTS SLOTS : ℕ} (error : ℕ) (t : Come) (k number end before reads : ℕ) (known : Known) (counts : List ℕ) (index : KeyIndex KNOTS SLOTS) (bitmaps : BitmapIndex) : Type 0 where
  pub end_is : end ≡ end_before t k
  pub seen : number ≤ max t.oldest (min end (t.oldest + t.pages))
  pub loaded : AreLoaded t number end bitmaps
  pub knows : KnowsWith error t k (number - t.oldest) known counts index
  pub few : reads ≤ before + k + unlisted_of t t.oldest (number - t.oldest)

-- at first
pub passed-none : {KNOTS SLOTS : ℕ} (error : ℕ) (t : Come) (before : ℕ) (known : Known) (counts : List ℕ) (index : KeyIndex KNOTS SLOTS) (bitmaps : BitmapIndex) → KnowsWith error t 0 0 known counts index → HasPassed error t 0 t.oldest 0 before before known counts index bitmaps
passed-none error t before known counts index bitmaps h = record {
  end_is = refl;
  seen = omega arith;
  loaded = λ number low high. absurd (omega (arith, low, high));
  knows = subst (λ n. KnowsWith error t 0 n known counts index) (let e : 0 ≡ t.oldest - t.oldest = omega arith in e) h;
  few = omega arith;
}

-- the data pages below the end are the next ones, before an index page and behind them all
pub next-before : (t : Come) (k number end : ℕ) → k < t.index_pages → end ≡ end_before t k → AreNext t k number end
next-before t k number end lt is = λ n low high within. left-page t k n lt (let e : n < seen_before t k = omega (arith, is, high, within) in e)

pub next-behind : (t : Come) (k number end : ℕ) → k ≡ t.index_pages → AreNext t k number end
next-behind t k number end all = λ n low high within. subst (λ k. left t k n ≡ first_of (page_check t n) (left t k (suc n))) (sym all) (left-tail t n within)

-- .. and none is listed behind the end of them all
pub listed-before : (t : Come) (k number end to : ℕ) → k ≡ t.index_pages → end ≡ end_before t k → number ≤ max t.oldest (min end (t.oldest + t.pages)) → to ≡ max number (min end (t.oldest + t.pages)) → AreListedBefore t to
listed-before t k number end to all is seen to_is =
    let ends : end ≡ end_before t t.index_pages = is ∙ ap (end_before t) all in
    record {
      unlisted = λ later low high. unlisted t later (omega (arith, ends, to_is, low, high));
      near = omega (arith, ends, to_is, seen);
    }

-- where a mount comes to no index page, none is
pub no-page-lists : (t : Come) → t.index_pages ≡ 0 → AreListedBefore t t.oldest
no-page-lists t none = record {
  unlisted = λ number low high. ap (λ n. option_map (told_at t number) (listing_among t number n)) none;
  near = omega arith;
}

-- ---- what reads leave

-- an index that stands below a number does so still
pub below-same : (old new : BitmapIndex) (f g : FlashState) (number first : ℕ) (plan : Plan) (table : model.Table) → IsSamePlan old new → IsSameRing old new → page_at g ≡ page_at f → StandsBelow number old f first plan table → StandsBelow number new g first plan table
below-same old new f g number first plan table same still pages h = record {
  planned = planned-same old new first plan h.planned same;
  ring = h.ring;
  facts = h.facts;
  whole = h.whole;
  clean = h.clean;
  pages = subst (λ (page : ℕ → List ℕ). HoldsIndex page first plan table h.ring) (sym pages) h.pages;
  in_memory = h.in_memory;
  memory_is = still.ring ∙ h.memory_is;
  next = h.next;
  oldest_is = h.oldest_is;
  first_of = λ i count below e. remembered (model_oldest h.ring + i) ∙ h.first_of i count below e;
}
  where
    remembered : (n : ℕ) → first_in new n ≡ first_in old n
    remembered n = ap (λ firsts. slice_index_or firsts.items (n % vec_len firsts) None) still.firsts

pub below-read : (bitmaps : BitmapIndex) (f g : FlashState) (n number first : ℕ) (plan : Plan) (table : model.Table) → OnlyReads f n g → StandsBelow number bitmaps f first plan table → StandsBelow number bitmaps g first plan table
below-read bitmaps f g n number first plan table reads h =
    below-same bitmaps bitmaps f g number first plan table (record { geometry = refl; place = refl; bits = refl; full = refl }) (record { ring = refl; firsts = refl }) (same_content f g reads.goes reads.same) h

pub ring-read : (bitmaps : Option BitmapIndex) (f g : FlashState) (n first : ℕ) (plan : Plan) (table : model.Table) → OnlyReads f n g → StandForRing bitmaps f first plan table → StandForRing bitmaps g first plan table
ring-read None f g n first plan table reads h = tt
ring-read (Some index) f g n first plan table reads h = record {
  planned = h.planned;
  ring = h.ring;
  facts = h.facts;
  whole = h.whole;
  clean = h.clean;
  pages = subst (λ (page : ℕ → List ℕ). HoldsIndex page first plan table h.ring) (sym (same_content f g reads.goes reads.same)) h.pages;
  in_memory = h.in_memory;
  memory_is = h.memory_is;
  next = h.next;
  oldest_is = h.oldest_is;
  first_of = h.first_of;
}

-- .. and so does one whose ring is the same
pub ring-stays : (old new : Option BitmapIndex) (f : FlashState) (first : ℕ) (plan : Plan) (table : model.Table) → AreSamePlan old new → AreSameRing old new → StandForRing old f first plan table → StandForRing new f first plan table
ring-stays None None f first plan table same still h = tt
ring-stays None (Some new) f first plan table same still h = absurd same
ring-stays (Some old) None f first plan table same still h = absurd same
ring-stays (Some old) (Some new) f first plan table same still h = ring-same old new f first plan table same still h

pub index-lies-read : (bitmaps : BitmapIndex) (f g : FlashState) (n : ℕ) → OnlyReads f n g → IndexLies bitmaps f → IndexLies bitmaps g
index-lies-read bitmaps f g n reads h = lies-goes (Some bitmaps) f g reads.goes h

-- what a mount comes to stays what it comes to
pub come-still : (t : Come) (layout : RowLayout) (most : ℕ) (old new : BitmapIndex) (ring : Ring) (f g : FlashState) (n : ℕ) → IsSamePlan old new → oldest_in new ≡ oldest_in old → next_in new ≡ next_in old → OnlyReads f n g → IsComeTo t layout most old ring f → IsComeTo t layout most new ring g
come-still t layout most old new ring f g n same oldest next reads is = record {
  rows_are = rows-still t layout ring f g n reads is.rows_are;
  most_is = is.most_is;
  form = is.form ∙ sym form;
  full_is = is.full_is;
  per = is.per ∙ sym (same-entries old new same);
  index_oldest = is.index_oldest ∙ sym oldest;
  index_pages = is.index_pages ∙ omega (arith, oldest, next);
  index = λ number. is.index number ∙ sym (ap (λ (s : Shape). page_at g (rings.place s number)) shape ∙ same_page f g n (place_in old number) reads);
}
  where
    form : form_in new ≡ form_in old
    form = ap (λ bits. record { width = bits / 8; full = new.full }) same.bits ∙ ap (λ full. record { width = old.bits / 8; full = full }) same.full

    shape : ring_shape new ≡ ring_shape old
    shape = ap (λ p. shape_at p new.geometry) same.place ∙ ap (shape_at old.place) same.geometry

-- ---- a step

module _ {KNOTS SLOTS : ℕ} (error : ℕ) (t : Come) (k number end to after before reads mid more : ℕ) (known known' : Known) (counts counts' : List ℕ) (index index' : KeyIndex KNOTS SLOTS) (old new : BitmapIndex) (h : HasPassed error t k number end before reads known counts index old)
    (low : t.oldest ≤ number) (high : number ≤ t.oldest + t.pages) (to_is : to ≡ max number (min end (t.oldest + t.pages))) where
  -- the data pages below the end came
  pub seen-is : to - t.oldest ≡ seen_before t k
  seen-is = omega (arith, h.end_is, h.seen, low, high, to_is)

  -- .. and the index page
  pub passed-page : after ≡ end_before t (suc k) → KnowsWith error t (suc k) (to - t.oldest) known' counts' index' → AreLoaded t end after new → mid + unlisted_of t t.oldest (number - t.oldest) ≤ reads + unlisted_of t t.oldest (to - t.oldest) → more ≤ mid + 1 →
      HasPassed error t (suc k) to after before more known' counts' index' new
  passed-page end_is knows loaded few one = record {
    end_is = end_is;
    seen = omega (arith, h.end_is, end_is, end-next t k, h.seen, to_is);
    loaded = λ number' from below above within. loaded number' (omega (arith, to_is, from, within)) below above within;
    knows = knows;
    few = omega (arith, h.few, few, one);
  }

-- why a later read failed
pub fails-later : (a b c : FlashState) (n : ℕ) (e : MountFault) → OnlyReads a n b → IfFlash (λ fault. ReadFails b fault c) e → IfFlash (λ fault. ReadFails a fault c) e
fails-later a b c n (mount.Flash PowerLost) reads h = sym reads.power ∙ h
fails-later a b c n (mount.Flash Media) reads h = omega (arith, reads.goes.faults, h)
fails-later a b c n (mount.Ring fault) reads h = tt
fails-later a b c n (mount.BadPage bad) reads h = tt
fails-later a b c n (mount.BadKeys page last first) reads h = tt
fails-later a b c n (mount.BadIndex end next) reads h = tt
fails-later a b c n (mount.BadBlob page next) reads h = tt
fails-later a b c n (mount.BadEntry page count limit) reads h = tt

-- a ring has room for a page
pub some-room : (ring : Ring) → 1 ≤ room (shape_of ring)
some-room ring = some ring.blocks ring.per_block ring.served.blocks ring.served.per_block
  where
    some : (a b : ℕ) → 3 ≤ a → 2 ≤ b → 1 ≤ a * b
    some a b x y = grind (arith, x, y)

-- the oldest kept index page is no later than the next
pub in-order : (bitmaps : BitmapIndex) → oldest_in bitmaps ≤ next_in bitmaps
in-order bitmaps = by_ring bitmaps.ring
  where
    by_ring : (o : Option Ring) → unwrap_or (option_map (λ ring. oldest_of ring) o) 0 ≤ unwrap_or (option_map (λ ring. next_of ring) o) 0
    by_ring None = omega arith
    by_ring (Some ring) = ring.ordered

pub any-ok : {T E P : Type 0} (r : Result T E) → P → OnOk r P
any-ok (Ok x) p = p
any-ok (Err e) p = tt

-- ---- a table whose entries aren't full, or that has no index

abbrev pub are-full : Option BitmapIndex → Bool
are-full bitmaps = unwrap_or (option_map (λ index. (form_in index).full) bitmaps) false

pub comes-bare : (t : Come) (layout : RowLayout) (most : ℕ) (bitmaps : Option BitmapIndex) (ring : Ring) (f : FlashState) → are-full bitmaps ≡ false → ComesTo t layout most bitmaps ring f → AreRowsOf t layout ring f × (t.index_pages ≡ 0)
comes-bare t layout most None ring f bare h = h
comes-bare t layout most (Some index) ring f bare h = subst (λ full. ComesBy full t layout most index ring f) bare h

pub knows-bare : {KNOTS SLOTS : ℕ} (error : ℕ) (t : Come) (known : Known) (counts : List ℕ) (index : KeyIndex KNOTS SLOTS) (from : ℕ) → t.index_pages ≡ 0 → from ≡ t.oldest → KnowsWith error t 0 0 known counts index → KnowsWith error t t.index_pages (from - t.oldest) known counts index
knows-bare error t known counts index from none is h =
    subst (λ k. KnowsWith error t k (from - t.oldest) known counts index) (sym none) (subst (λ n. KnowsWith error t 0 n known counts index) (let e : 0 ≡ from - t.oldest = omega (arith, is) in e) h)

pub stands-bare : (bitmaps : Option BitmapIndex) (f : FlashState) (first : ℕ) (plan : Plan) (table : model.Table) → are-full bitmaps ≡ false → StandFound bitmaps f first plan table → StandForRing bitmaps f first plan table
stands-bare None f first plan table bare h = tt
stands-bare (Some index) f first plan table bare h = subst (λ full. StandsFoundBy full index f first plan table) bare h

-- .. and one whose entries are
pub comes-full : (t : Come) (layout : RowLayout) (most : ℕ) (index : BitmapIndex) (ring : Ring) (f : FlashState) → (form_in index).full ≡ true → ComesBy (form_in index).full t layout most index ring f → IsComeTo t layout most index ring f
comes-full t layout most index ring f full h = subst (λ full. ComesBy full t layout most index ring f) full h

pub stands-full : (index : BitmapIndex) (f : FlashState) (first : ℕ) (plan : Plan) (table : model.Table) → (form_in index).full ≡ true → StandsFoundBy (form_in index).full index f first plan table → StandsBelow (oldest_in index) index f first plan table
stands-full index f first plan table full h = subst (λ full. StandsFoundBy full index f first plan table) full h
