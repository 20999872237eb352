-- The kept index pages are taken one after another, each when the data pages came that those before it say to list.
use Rattle.std.proofs.Common.{◌≡◌, ℕ, suc, true, cond, Option, Some, sym, ap, ◌+◌, ◌-◌, ◌^◌, ◌<◌, ◌≤◌, max, min, IsTrue, List, length, ◌∙◌, subst, arith}
use Rattle.std.proofs.lemmas.Option.{same_Some}
use Rattle.fl_find.specs.declared.index.KeyIndex.{KeyIndex}
use Rattle.fl_flash.specs.Flash.{FlashState}
use Rattle.fl_frame.specs.Reads.{OnlyReads}
use Rattle.fl_frame.proofs.ReadsInTurn.{more_reads, told_still, none_read}
use Rattle.fl_index.specs.Memory.{form_in, is_running, next_in, oldest_in}
use Rattle.fl_index.specs.declared.index.BitmapIndex.{BitmapIndex}
use Rattle.fl_model.specs.Record.{RowLayout}
use Rattle.fl_ring.specs.Place.{next_of, oldest_of}
use Rattle.fl_ring.specs.declared.ring.Ring.{Ring}
use Rattle.fl_parts.specs.Bitmaps.{AreRunning, LieOn, StaysFound}
use Rattle.fl_parts.specs.ByEntries.{Come, unlisted_of}
use Rattle.fl_parts.specs.Coming.{AreListedBefore, IsComeTo}
use Rattle.fl_parts.specs.KeptRead.{LeavesKept}
use Rattle.fl_parts.specs.KeptSteps.{AreNextPages, HasCome, IsNextIndexPage, KnowsListed, KnowsTaken, LeavesIndex, LeavesRing}
use Rattle.fl_parts.specs.Knowing.{KnowsWith}
use Rattle.fl_parts.specs.declared.known.Known.{Known}
use Rattle.fl_parts.proofs.IndexOfTable.{found-same, plan-same, still-lies, still-next, still-oldest}
use Rattle.fl_parts.proofs.IndexTaken.{running-same}
use Rattle.fl_parts.proofs.KeptParts.{reads-then}
use Rattle.fl_parts.proofs.ListedPages.{HasPassed, come-still, index-lies-read, knows-bare, listed-before, next-before, next-behind, no-page-lists, passed-page, seen-is}
use Rattle.fl_parts.proofs.MountProgress.{rows-still, unlisted-rises}

-- ---- what is left of the index

pub leaves-read : {start bitmaps : BitmapIndex} {old f g : FlashState} {n m : ℕ} (all : ℕ) → n + m ≤ all → LeavesIndex start old n bitmaps f → OnlyReads f m g → LeavesIndex start old all bitmaps g
leaves-read {bitmaps = bitmaps} {f = f} {g = g} {m = m} all le left reads = record {
  same = left.same;
  running = left.running;
  oldest = left.oldest;
  next = left.next;
  lies = index-lies-read bitmaps f g m reads left.lies;
  reads = reads-then all le left.reads reads;
}

pub leaves-then : {a b c : BitmapIndex} {old f g : FlashState} {n m : ℕ} (all : ℕ) → n + m ≤ all → LeavesIndex a old n b f → LeavesIndex b f m c g → LeavesIndex a old all c g
leaves-then all le x y = record {
  same = record { geometry = y.same.geometry ∙ x.same.geometry; place = y.same.place ∙ x.same.place; bits = y.same.bits ∙ x.same.bits; full = y.same.full ∙ x.same.full };
  running = y.running ∙ x.running;
  oldest = y.oldest ∙ x.oldest;
  next = y.next ∙ x.next;
  lies = y.lies;
  reads = reads-then all le x.reads y.reads;
}

-- ---- numbers of pages

pub begin-is : (next pages low high : ℕ) → next ≡ high → pages ≡ high - low → low ≤ high → next - pages ≡ low
begin-is next pages low high is many le = omega (arith, is, many, le)

pub nothing-is : (a b : ℕ) → a ≡ b → 0 ≡ a - b
nothing-is a b is = omega (arith, is)

pub none-before : (begin low number : ℕ) → begin ≡ low → low ≤ number → number < begin → ⊥
none-before begin low number is le lt = omega (arith, is, le, lt)

pub le-by : (a b : ℕ) → b ≡ a → a ≤ b
le-by a b is = omega (arith, is)

pub lt-by : (a b c : ℕ) → a < b → c ≡ b → a < c
lt-by a b c lt is = omega (arith, lt, is)

pub le-on : (a b : ℕ) → a ≤ b → a ≤ b + 1
le-on a b le = omega (arith, le)

pub le-behind : (a b c : ℕ) → a < b → b ≡ c → a + 1 ≤ c
le-behind a b c lt is = omega (arith, lt, is)

-- behind the last page there is the next number
pub at-end : (page next to : ℕ) → to ≡ next → page ≤ next → to ≤ page → page ≡ next
at-end page next to is most past = omega (arith, is, most, past)

pub data-more : (page first number oldest to end next : ℕ) → oldest ≤ number → to ≡ max number (min end next) → page - first + (number - oldest) + (to - number) ≤ page - first + (to - oldest)
data-more page first number oldest to end next low is = omega (arith, low, is)

pub index-more : (page first number oldest : ℕ) → first ≤ page → page - first + (number - oldest) + 1 ≤ page + 1 - first + (number - oldest)
index-more page first number oldest from = omega (arith, from)

pub data-within : (page first last number oldest end next : ℕ) → page ≤ last → oldest ≤ number → number ≤ next → page - first + (number - oldest) + (max number (min end next) - number) ≤ last - first + (next - oldest)
data-within page first last number oldest end next le low high = omega (arith, le, low, high)

pub index-within : (page first last number oldest next : ℕ) → first ≤ page → page < last → oldest ≤ number → number ≤ next → page - first + (number - oldest) + 1 ≤ last - first + (next - oldest)
index-within page first last number oldest next from lt low high = omega (arith, from, lt, low, high)

pub data-last : (page first last number oldest to end next : ℕ) → page ≡ last → oldest ≤ number → to ≡ max number (min end next) → page - first + (number - oldest) + (to - number) ≤ last - first + (to - oldest)
data-last page first last number oldest to end next last_is low is = omega (arith, last_is, low, is)

pub few-rows : (ring : Ring) (number : ℕ) (known : Known) → HasCome ring number known → number < 4294967296 → known.rows + 65536 < 2 ^ 64
few-rows ring number known come small = omega (arith, come.within.rows, small)

-- ---- what is known

module _ {KNOTS SLOTS : ℕ} (error : ℕ) (t : Come) (layout : RowLayout) (limit : ℕ) (ring : Ring) (start : BitmapIndex) (old : FlashState) (counts_old : List ℕ) (told : IsTrue old.media.tells) (few : next_of ring - oldest_of ring ≤ length counts_old)
    (is : IsComeTo t layout limit start ring old) (page number end n : ℕ) (f : FlashState) (known : Known) (counts : List ℕ) (index : KeyIndex KNOTS SLOTS) (bitmaps : BitmapIndex) (left : LeavesIndex start old n bitmaps f) (size : length counts ≡ length counts_old)
    (from : oldest_in start ≤ page) (low : oldest_of ring ≤ number) (high : number ≤ next_of ring) (h : HasPassed error t (page - oldest_in start) number end old.work.reads f.work.reads known counts index bitmaps) where
  ends : t.oldest + t.pages ≡ next_of ring
  ends = omega (arith, is.rows_are.oldest, is.rows_are.pages, low, high)

  fits : t.pages ≤ length counts
  fits = omega (arith, is.rows_are.pages, few, size)

  -- the data pages below the end are next, before an index page and behind them all
  pub pages-before : page < next_in start → AreNextPages t (page - oldest_in start) number end layout ring f bitmaps counts
  pages-before lt = record {
    told = told_still old f n left.reads told;
    rows = rows-still t layout ring old f n left.reads is.rows_are;
    fits = fits;
    loaded = h.loaded;
    next = next-before t (page - oldest_in start) number end (omega (arith, from, lt, is.index_pages)) h.end_is;
  }

  pub pages-behind : page ≡ next_in start → AreNextPages t (page - oldest_in start) number end layout ring f bitmaps counts
  pages-behind last = record {
    told = told_still old f n left.reads told;
    rows = rows-still t layout ring old f n left.reads is.rows_are;
    fits = fits;
    loaded = h.loaded;
    next = next-behind t (page - oldest_in start) number end (omega (arith, last, is.index_pages));
  }

  module _ (mid : FlashState) (seen : mid.work.reads + unlisted_of t t.oldest (number - t.oldest) ≤ f.work.reads + unlisted_of t t.oldest (max number (min end (next_of ring)) - t.oldest)) where
    -- not more was read than in all
    rest : unlisted_of t t.oldest (max number (min end (next_of ring)) - t.oldest) ≤ unlisted_of t t.oldest t.pages
    rest = unlisted-rises t (max number (min end (next_of ring)) - t.oldest) t.pages (omega (arith, is.rows_are.oldest, is.rows_are.pages, high))

    pub few-seen : page ≤ next_in start → mid.work.reads ≤ old.work.reads + t.index_pages + unlisted_of t t.oldest t.pages
    few-seen le = omega (arith, seen, h.few, rest, from, le, is.index_pages)

    pub few-taken : (reads : ℕ) → page < next_in start → reads ≤ mid.work.reads + 1 → reads ≤ old.work.reads + t.index_pages + unlisted_of t t.oldest t.pages
    few-taken reads lt one = omega (arith, seen, h.few, rest, from, lt, one, is.index_pages)

    module _ (to : ℕ) (to_is : to ≡ max number (min end (next_of ring))) where
      below : to ≡ max number (min end (t.oldest + t.pages))
      below = omega (arith, to_is, ends)

      -- the index page is next
      pub page-next : (m : ℕ) (counts_now : List ℕ) → OnlyReads f m mid → length counts_now ≡ length counts → page < next_in start → IsNextIndexPage t (page - oldest_in start) (to - t.oldest) page end layout limit ring mid bitmaps counts_now
      page-next m counts_now reads same lt = record {
        is = come-still t layout limit start bitmaps ring old mid (n + m) left.same left.oldest left.next (more_reads old f mid n m left.reads reads) is;
        at = omega (arith, is.index_oldest, from);
        lt = omega (arith, from, lt, is.index_pages);
        end_is = h.end_is;
        seen = seen-is error t (page - oldest_in start) number end to 0 old.work.reads f.work.reads mid.work.reads 0 known known counts counts index index bitmaps bitmaps h (omega (arith, is.rows_are.oldest, low)) (omega (arith, ends, high)) below;
        within = omega (arith, below, ends, high);
        fits = omega (arith, fits, same);
      }

      -- .. and was taken
      pub page-passed : (after reads : ℕ) (known_now : Known) (counts_now : List ℕ) (index_now : KeyIndex KNOTS SLOTS) (now : BitmapIndex) → KnowsTaken error t (page - oldest_in start) (to - t.oldest) end after known_now counts_now index_now now → reads ≤ mid.work.reads + 1 →
          HasPassed error t (page + 1 - oldest_in start) to after old.work.reads reads known_now counts_now index_now now
      page-passed after reads known_now counts_now index_now now took one =
          let k = page - oldest_in start in
          let seen' = subst (λ x. mid.work.reads + unlisted_of t t.oldest (number - t.oldest) ≤ f.work.reads + unlisted_of t t.oldest (x - t.oldest)) (let e : max number (min end (next_of ring)) ≡ to = omega (arith, to_is) in e) seen in
          subst (λ k. HasPassed error t k to after old.work.reads reads known_now counts_now index_now now) (let e : suc k ≡ page + 1 - oldest_in start = omega (arith, from) in e)
          (passed-page error t k number end to after old.work.reads f.work.reads mid.work.reads reads known known_now counts counts_now index index_now bitmaps now h (omega (arith, is.rows_are.oldest, low)) (omega (arith, ends, high)) below took.end_is took.knows took.loaded seen' one)

      -- behind them all no index page lists one
      pub all-listed : page ≡ next_in start → (known_now : Known) (counts_now : List ℕ) (index_now : KeyIndex KNOTS SLOTS) → KnowsWith error t (page - oldest_in start) (to - t.oldest) known_now counts_now index_now →
          KnowsListed error t to old.work.reads mid.work.reads known_now counts_now index_now
      all-listed last known_now counts_now index_now knows =
          let all : page - oldest_in start ≡ t.index_pages = omega (arith, last, is.index_pages) in
          let seen' = subst (λ x. mid.work.reads + unlisted_of t t.oldest (number - t.oldest) ≤ f.work.reads + unlisted_of t t.oldest (x - t.oldest)) (let e : max number (min end (next_of ring)) ≡ to = omega (arith, to_is) in e) seen in
          record {
            knows = subst (λ k. KnowsWith error t k (to - t.oldest) known_now counts_now index_now) all knows;
            listed = listed-before t (page - oldest_in start) number end to all h.end_is h.seen below;
            few = omega (arith, seen', h.few, all);
          }

-- ---- the index of a table

-- where entries are full, its pages were read, and then none is loaded
pub kept-full : (entries read now : BitmapIndex) (ring : Ring) (old new : FlashState) → (form_in entries).full ≡ true → is_running entries ≡ true → LeavesIndex entries old (next_in entries - oldest_in entries + (next_of ring - oldest_of ring)) read new → LeavesRing read now →
    LeavesKept (Some entries) ring old (Some now) new
kept-full entries read now ring old new full running left ring-left =
    let pages = sym (ap (λ b. cond b (next_in entries - oldest_in entries) 0) full) in
    record {
      same = record { geometry = ring-left.same.geometry ∙ left.same.geometry; place = ring-left.same.place ∙ left.same.place; bits = ring-left.same.bits ∙ left.same.bits; full = ring-left.same.full ∙ left.same.full };
      still = subst (λ b. StaysFound b entries now) (sym full) (running-same read now ring-left.still ∙ left.running, still-oldest (Some read) (Some now) ring-left.still ∙ left.oldest, still-next (Some read) (Some now) ring-left.still ∙ left.next);
      running = λ index e. subst (λ (i : BitmapIndex). is_running i ≡ true) (same_Some now index e) (running-same read now ring-left.still ∙ (left.running ∙ running));
      lies = still-lies (Some read) (Some now) new ring-left.same ring-left.still left.lies;
      reads = subst (λ n. OnlyReads old (n + (next_of ring - oldest_of ring)) new) pages left.reads;
    }

-- .. and where they aren't, none is read
pub kept-same : (bitmaps : Option BitmapIndex) (ring : Ring) (f : FlashState) → AreRunning bitmaps → LieOn bitmaps f → LeavesKept bitmaps ring f bitmaps f
kept-same bitmaps ring f running lies = record { same = plan-same bitmaps; still = found-same bitmaps; running = running; lies = lies; reads = none_read f _ }

pub bare-listed : {KNOTS SLOTS : ℕ} (error : ℕ) (t : Come) (reads : ℕ) (known : Known) (counts : List ℕ) (index : KeyIndex KNOTS SLOTS) (from : ℕ) → t.index_pages ≡ 0 → from ≡ t.oldest → KnowsWith error t 0 0 known counts index → KnowsListed error t from reads reads known counts index
bare-listed error t reads known counts index from none is h = record {
  knows = knows-bare error t known counts index from none is h;
  listed = subst (AreListedBefore t) (sym is) (no-page-lists t none);
  few = omega arith;
}
