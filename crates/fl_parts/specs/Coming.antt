-- What a mount comes to on a flash: the kept pages of the data ring, and those of an index whose entries are full.
use Rattle.std.specs.Prelude.{◌≡◌, ℕ, suc, ◌+◌, ◌-◌, ◌/◌, ◌<◌, ◌≤◌, max, Bool, true, false, Option, Some, None, option_map, unwrap_or, List, [], if◌then◌else◌}
use Rattle.fl_flash.specs.Flash.{FlashState}
use Rattle.fl_index.specs.declared.index.BitmapIndex.{BitmapIndex}
use Rattle.fl_index.specs.Finding as finding
use Rattle.fl_index.specs.Memory.{form_in, per_page, oldest_in, next_in, is_waiting, found_waiting, first_in, first_waiting, waiting_in, ring_shape}
use Rattle.fl_index.specs.Page.{first_on, full_view, IsGoodPage}
use Rattle.fl_index.specs.declared.page.Full as code
use Rattle.fl_index.specs.Standing.{StandsWith}
use Rattle.fl_mark.specs.Mark.{state_of_page}
use Rattle.fl_mark.specs.declared.page_state.PageState.TheVariants.{Committed}
use Rattle.fl_model.specs.Record.{Plan, RowLayout, layout_len}
use Rattle.fl_model.specs.Table.{Table, first_of}
use Rattle.fl_ring.specs.Place.{next_of, oldest_of}
use Rattle.fl_ring.specs.Ring.{room}
use Rattle.fl_ring.specs.declared.ring.Ring.{Ring}
use Rattle.fl_parts.specs.Bitmaps.{RemembersFound, first_to_wait}
use Rattle.fl_parts.specs.ByEntries.{Come, entry, end_before, page_check}
use Rattle.fl_parts.specs.Knowing.{left}
use Rattle.fl_parts.specs.Reading.{pages_of, WaitFrom}

-- how many rows a data page holds
abbrev pub most_in : ℕ → RowLayout → ℕ
most_in size layout = (size - 24) / layout_len layout

-- the kept pages of the data ring
pub record AreRowsOf (t : Come) (layout : RowLayout) (ring : Ring) (f : FlashState) : Type 0 where
  pub layout_is : t.layout ≡ layout
  pub rows : (number : ℕ) → t.rows number ≡ pages_of ring f number
  pub oldest : t.oldest ≡ oldest_of ring
  pub pages : t.pages ≡ next_of ring - oldest_of ring

-- .. and those of an index
pub record IsComeTo (t : Come) (layout : RowLayout) (most : ℕ) (bitmaps : BitmapIndex) (ring : Ring) (f : FlashState) : Type 0 where
  pub rows_are : AreRowsOf t layout ring f
  pub most_is : t.most ≡ most
  pub form : t.form ≡ form_in bitmaps
  pub full_is : t.form.full ≡ true
  pub per : t.per_page ≡ per_page bitmaps
  pub index_oldest : t.index_oldest ≡ oldest_in bitmaps
  pub index_pages : t.index_pages ≡ next_in bitmaps - oldest_in bitmaps
  pub index : (number : ℕ) → t.index number ≡ finding.pages_of bitmaps f number

-- what a mount comes to, where the index has full entries, and else no index page
abbrev pub ComesBy : Bool → Come → RowLayout → ℕ → BitmapIndex → Ring → FlashState → Type 0
ComesBy true t layout most index ring f = IsComeTo t layout most index ring f
ComesBy false t layout most index ring f = AreRowsOf t layout ring f × (t.index_pages ≡ 0)

abbrev pub ComesTo : Come → RowLayout → ℕ → Option BitmapIndex → Ring → FlashState → Type 0
ComesTo t layout most None ring f = AreRowsOf t layout ring f × (t.index_pages ≡ 0)
ComesTo t layout most (Some index) ring f = ComesBy (form_in index).full t layout most index ring f

-- what the entry of a data page tells beside its bitmap, where the index page that was loaded last lists it
abbrev pub loaded_full : BitmapIndex → ℕ → Option code.Full
loaded_full index number = if is_waiting index number then (found_waiting index (number - first_waiting index)).full else None

-- the entries that are loaded are those of the kept data pages from one number on below another
abbrev pub AreLoaded : Come → ℕ → ℕ → BitmapIndex → Type 0
AreLoaded t from to index =
    (number : ℕ) → from ≤ number → number < to → t.oldest ≤ number → number < t.oldest + t.pages → entry t number ≡ option_map full_view (loaded_full index number)

-- the data pages from one number on below another are the next ones to be checked, when k index pages were read
abbrev pub AreNext : Come → ℕ → ℕ → ℕ → Type 0
AreNext t k from to = (n : ℕ) → from ≤ t.oldest + n → t.oldest + n < to → n < t.pages → left t k n ≡ first_of (page_check t n) (left t k (suc n))

-- no index page lists a kept data page from a number on
abbrev pub AreUnlisted : Come → ℕ → Type 0
AreUnlisted t from = (number : ℕ) → from ≤ number → number < t.oldest + t.pages → entry t number ≡ None

-- .. so it is where the data pages end that index pages list, and no later
pub record AreListedBefore (t : Come) (from : ℕ) : Type 0 where
  pub unlisted : AreUnlisted t from
  pub near : from ≤ max t.oldest (end_before t t.index_pages)

-- as many entries wait as there are data pages from one number on below another, the first of which is the first one's
abbrev pub WaitBetween : ℕ → ℕ → Option BitmapIndex → Type 0
WaitBetween first next None = Unit {0}
WaitBetween first next (Some index) = (first_waiting index ≡ first) × (waiting_in index ≡ next - first)

-- Of the data pages that no index page lists the entries of the last ones wait, as many as an index page holds, and as the bytes of
-- each page tell it.
pub record WaitUnlisted (t : Come) (page : ℕ → List ℕ) (old : Option BitmapIndex) (end next : ℕ) (new : Option BitmapIndex) : Type 0 where
  pub from : ℕ
  pub low : t.oldest ≤ from
  pub listed : AreListedBefore t from
  pub many : WaitBetween (first_to_wait old end from next) next new
  pub waits : WaitFrom t.layout page (first_to_wait old end from next) next new

-- a kept index page that is committed has its number and its count
abbrev pub IsFineListing : BitmapIndex → FlashState → ℕ → Type 0
IsFineListing index f number =
    state_of_page (finding.pages_of index f number) ≡ Committed → IsGoodPage (per_page index) number (finding.pages_of index f number)

-- The first data page of each index page from one number on below another is remembered, but for those that are bad, and for those
-- whose place a later one has taken.
abbrev pub AreRemembered : BitmapIndex → FlashState → ℕ → ℕ → BitmapIndex → Type 0
AreRemembered index f from to now =
    (number : ℕ) → from ≤ number → number < to → to ≤ number + room (ring_shape index) → IsFineListing index f number →
    first_in now number ≡ first_on (finding.pages_of index f number)

-- .. of an index whose entries are full
abbrev pub RememberedBy : Bool → BitmapIndex → FlashState → BitmapIndex → Type 0
RememberedBy true index f now = AreRemembered index f (oldest_in index) (next_in index) now
RememberedBy false index f now = Unit {0}

abbrev pub FirstsKnown : Option BitmapIndex → FlashState → Option BitmapIndex → Type 0
FirstsKnown None f now = Unit {0}
FirstsKnown (Some index) f None = ⊥
FirstsKnown (Some index) f (Some now) = RememberedBy (form_in index).full index f now

-- how many index pages a mount reads beside the data pages
abbrev pub index_pages_of : Option BitmapIndex → ℕ
index_pages_of bitmaps = unwrap_or (option_map (λ index. if (form_in index).full then next_in index - oldest_in index else 0) bitmaps) 0

-- The index stands for that of a table as the first part of a mount leaves it: where entries are full, the first data page of no
-- index page is known yet.
abbrev pub StandsFoundBy : Bool → BitmapIndex → FlashState → ℕ → Plan → Table → Type 0
StandsFoundBy full index f first plan table = StandsWith (RemembersFound full index) index f first plan table

abbrev pub StandFound : Option BitmapIndex → FlashState → ℕ → Plan → Table → Type 0
StandFound None f first plan table = Unit {0}
StandFound (Some index) f first plan table = StandsFoundBy (form_in index).full index f first plan table

-- what a mount comes to on this flash, where the index was found so, and a page holds at most so many rows
abbrev pub come_of : RowLayout → ℕ → Option BitmapIndex → Ring → FlashState → Come
come_of layout most None ring f = record {
  form = record { width = 0; full = false };
  per_page = 0;
  most = most;
  layout = layout;
  index = λ number. [];
  index_oldest = 0;
  index_pages = 0;
  rows = pages_of ring f;
  oldest = oldest_of ring;
  pages = next_of ring - oldest_of ring;
}
come_of layout most (Some index) ring f = record {
  form = form_in index;
  per_page = per_page index;
  most = most;
  layout = layout;
  index = finding.pages_of index f;
  index_oldest = oldest_in index;
  index_pages = index_pages_of (Some index);
  rows = pages_of ring f;
  oldest = oldest_of ring;
  pages = next_of ring - oldest_of ring;
}

-- .. as many as a page of this flash has room for
abbrev pub come_on : RowLayout → Option BitmapIndex → Ring → FlashState → Come
come_on layout bitmaps ring f = come_of layout (most_in f.geometry.page layout) bitmaps ring f
