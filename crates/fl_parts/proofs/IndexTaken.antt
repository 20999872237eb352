-- What is known when the next index page was taken.
use Rattle.std.proofs.Common.{◌≡◌, ℕ, suc, true, false, is_some, ◌+◌, ◌-◌, ◌^◌, ◌<◌, ◌≤◌, max, min, Option, Some, None, Result, Ok, Err, IsTrue, List, length, sym, ◌∙◌, ap, subst, arith}
use Rattle.std.specs.Prelude.{IfErr, IfOk, IfSome, OnOk, ◌&&◌, option_map}
use Rattle.fl_find.specs.declared.index.KeyIndex.{KeyIndex}
use Rattle.fl_flash.specs.Flash.{FlashState}
use Rattle.fl_index.specs.Finding.{pages_of}
use Rattle.fl_index.specs.Loading.{HoldsEntriesOf, IsLoaded}
use Rattle.fl_index.specs.Memory.{first_in, is_running, per_page, place_in, waiting_in, IsSameRing}
use Rattle.fl_index.specs.Page.{first_on, full_view}
use Rattle.fl_index.specs.Standing.{StandsBelow}
use Rattle.fl_index.specs.declared.index.BitmapIndex.{BitmapIndex}
use Rattle.fl_index.specs.declared.load.Loaded.TheVariants.{Nothing, Bad}
use Rattle.fl_index.specs.declared.page.Full as code
use Rattle.fl_model.specs.Record.{Plan, RowLayout}
use Rattle.fl_model.specs.Table.{Table, first_of}
use Rattle.fl_page.specs.declared.fault.BadPage.{BadPage as Refusal}
use Rattle.fl_ring.specs.Place.{next_of, oldest_of}
use Rattle.fl_ring.specs.declared.ring.Ring.{Ring}
use Rattle.fl_parts.specs.ByEntries.{Come, end_before, has_rows, index_check, is_fit, is_good, mount_fault, told_at}
use Rattle.fl_parts.specs.Coming.{AreLoaded, IsFineListing, loaded_full}
use Rattle.fl_parts.specs.Faults.{is_refused}
use Rattle.fl_parts.specs.KeptSteps.{IsNextIndexPage, KeepsKnown, KnowsTaken, TakesPage}
use Rattle.fl_parts.specs.Knowing.{IsWithin, KnowsWith, is_waiting}
use Rattle.fl_parts.specs.declared.known.Known.{Known}
use Rattle.fl_parts.specs.declared.mount_fault.MountFault.{MountFault}
use Rattle.fl_parts.specs.declared.mount_fault.MountFault.TheVariants.{BadPage, BadEntry}
use Rattle.fl_parts.proofs.IndexPages.{bad-page, bare-check, bare-end, counts-bad, counts-fine, good-end, good-loaded, index-bad, index-blamed, index-passes, listed-some, low-page, none-loaded, nothing-bare, unfit-lists}

-- a page with rows behind n that came
pub record IsLaterPage (t : Come) (n later : ℕ) (counts : List ℕ) : Type 0 where
  pub behind : n ≤ later
  pub within : later < t.pages
  pub fits : n ≤ length counts
  pub rows : has_rows t (t.oldest + later) ≡ true

module _ {KNOTS SLOTS : ℕ} (error : ℕ) (t : Come) (k n page end : ℕ) (layout : RowLayout) (limit : ℕ) (ring : Ring) (f : FlashState) (before : BitmapIndex) (known : Known) (counts : List ℕ) (index : KeyIndex KNOTS SLOTS)
    (next : IsNextIndexPage t k n page end layout limit ring f before counts) (h : KnowsWith error t k n known counts index) where
  -- it isn't committed
  pub nothing-taken : (now : BitmapIndex) → IsLoaded before page (pages_of before f page) Nothing now → KnowsTaken error t k n end end known counts index now
  nothing-taken now loaded =
      let bare = nothing-bare t layout limit before now ring f next.is k page next.at loaded in
      record {
        end_is = next.end_is ∙ sym (bare-end t k bare);
        knows = index-passes error t k n next.lt (omega (arith, next.seen)) known counts index h (bare-check t k bare);
        loaded = λ number low high. absurd (omega (arith, low, high));
      }

  -- nothing is loaded where it is bad
  unlisted : (now : BitmapIndex) (after : ℕ) → waiting_in now ≡ 0 → after ≡ end_before t (suc k) → is_good t k ≡ false → AreLoaded t end after now
  unlisted now after none ends bad number low high from to =
      unfit-lists t k number next.lt bad (omega (arith, low, next.end_is)) (omega (arith, high, ends)) ∙ sym (ap (λ (o : Option code.Full). option_map full_view o) (none-loaded now number none))

  module _ (now : BitmapIndex) (first : ℕ) (bad : Refusal) (loaded : IsLoaded before page (pages_of before f page) (Bad first bad) now) where
    pub bad-refused : known.newest ≡ None → mount_fault t ≡ Some (BadPage bad)
    bad-refused none =
        let b = bad-page t layout limit before now ring f next.is k page next.at first bad loaded in
        index-bad error t k n next.lt (omega (arith, next.seen)) known counts index h (BadPage bad) none b.check

    pub bad-taken : (after : ℕ) (later : Known) → after ≡ max end (first + bad.count) → later ≡ record known { fault = first_of known.fault (Some bad) } → (known.newest ≡ None → ⊥) → KnowsTaken error t k n end after later counts index now
    bad-taken after later is blamed some =
        let b = bad-page t layout limit before now ring f next.is k page next.at first bad loaded in
        let ends = is ∙ (ap (λ e. max e (first + bad.count)) next.end_is ∙ sym b.end) in
        record {
          end_is = ends;
          knows = index-blamed error t k n next.lt (omega (arith, next.seen)) known counts index h bad later some b.check blamed;
          loaded = unlisted now after b.none ends (ap (λ x. x && is_fit t k) b.committed ∙ b.unfit);
        }

  module _ (listing : BitmapIndex) (first : ℕ) (loaded : HoldsEntriesOf before page (pages_of before f page) first listing) where
    -- it begins before the end of those before it
    module _ (capacity : ℕ) (all : capacity ≡ per_page before) (low : first < end) where
      pub low-refused : known.newest ≡ None → mount_fault t ≡ Some (BadPage (record { wanted = page; found = page; count = capacity }))
      low-refused none =
          let b = low-page t layout limit before listing ring f next.is k page next.at first capacity loaded all (omega (arith, low, next.end_is)) in
          index-bad error t k n next.lt (omega (arith, next.seen)) known counts index h (BadPage (record { wanted = page; found = page; count = capacity })) none b.check

      pub low-taken : (now : BitmapIndex) (after : ℕ) (later : Known) → waiting_in now ≡ 0 → after ≡ max end (first + capacity) →
          later ≡ record known { fault = first_of known.fault (Some (record { wanted = page; found = page; count = capacity })) } → (known.newest ≡ None → ⊥) → KnowsTaken error t k n end after later counts index now
      low-taken now after later none is blamed some =
          let b = low-page t layout limit before listing ring f next.is k page next.at first capacity loaded all (omega (arith, low, next.end_is)) in
          let ends = is ∙ (ap (λ e. max e (first + capacity)) next.end_is ∙ sym b.end) in
          record {
            end_is = ends;
            knows = index-blamed error t k n next.lt (omega (arith, next.seen)) known counts index h (record { wanted = page; found = page; count = capacity }) later some b.check blamed;
            loaded = unlisted now after none ends (ap (λ x. x && is_fit t k) b.committed ∙ b.unfit);
          }

    -- .. or behind them
    module _ (after from to : ℕ) (order : oldest_of ring ≤ next_of ring) (small : next_of ring < 4294967296) (above : end ≤ first) (after_is : after ≡ first + per_page before) (from_is : from ≡ max first (oldest_of ring)) (to_is : to ≡ min after (next_of ring)) where
      ends : t.oldest + t.pages ≡ next_of ring
      ends = omega (arith, next.is.rows_are.oldest, next.is.rows_are.pages, order)

      fits : t.oldest + t.pages < 2 ^ 32
      fits = omega (arith, ends, small)

      behind : end_before t k ≤ first
      behind = omega (arith, above, next.end_is)

      all : after ≡ first + t.per_page
      all = omega (arith, after_is, next.is.per)

      pub good-taken : ((number : ℕ) → from ≤ number → number < to → IfSome (loaded_full listing number) (λ full. full.count ≤ limit)) → KnowsTaken error t k n end after known counts index listing
      good-taken fine =
          let check = counts-fine t layout limit before listing ring f next.is k page next.at first loaded behind from to (omega (arith, from_is, next.is.rows_are.oldest)) (omega (arith, to_is, all, ends)) fits
          (subst (λ most. (number : ℕ) → from ≤ number → number < to → IfSome (loaded_full listing number) (λ full. full.count ≤ most)) (sym next.is.most_is) fine) in
          record {
            end_is = all ∙ sym (good-end t layout limit before listing ring f next.is k page next.at first loaded behind);
            knows = index-passes error t k n next.lt (omega (arith, next.seen)) known counts index h check;
            loaded = λ number low high begun to. good-loaded t layout limit before listing ring f next.is k page next.at first loaded behind number next.lt (omega (arith, low, next.end_is)) (omega (arith, high, all)) (omega (arith, to, fits));
          }

      -- an entry tells more rows than a page holds
      module _ (number count : ℕ) (low : from ≤ number) (high : number < to) (more : limit < count) (here : IfSome (loaded_full listing number) (λ full. full.count ≡ count))
          (fine : (other : ℕ) → from ≤ other → other < number → IfSome (loaded_full listing other) (λ full. full.count ≤ limit)) where
        begins : from ≡ max first t.oldest
        begins = omega (arith, from_is, next.is.rows_are.oldest)

        within : number < min (first + t.per_page) (t.oldest + t.pages)
        within = omega (arith, high, to_is, all, ends)

        abbrev found : (index_check t k ≡ Some (BadEntry number count t.most)) × ((told_at t number k).count ≡ count)
        found = counts-bad t layout limit before listing ring f next.is k page next.at first loaded behind from number count begins low within fits (omega (arith, more, next.is.most_is)) here
            (subst (λ most. (other : ℕ) → from ≤ other → other < number → IfSome (loaded_full listing other) (λ full. full.count ≤ most)) (sym next.is.most_is) fine)

        later-is : number ≡ t.oldest + (number - t.oldest)
        later-is = omega (arith, begins, low)

        -- then it has rows
        pub later-page : IsLaterPage t n (number - t.oldest) counts
        later-page = record {
          behind = omega (arith, next.seen, behind, begins, low);
          within = omega (arith, within, begins, low);
          fits = omega (arith, next.within, next.fits);
          rows =
              ap (has_rows t) (sym later-is) ∙ listed-some t layout limit before listing ring f next.is k page next.at first loaded behind number next.lt behind (omega (arith, begins, low)) (omega (arith, within)) (omega (arith, within, fits)) (omega (arith, found.1, more));
        }

        -- .. and is the first fault where nothing waits
        pub entry-refused : (settled : Known) (counts' : List ℕ) (index' : KeyIndex KNOTS SLOTS) → KnowsWith error t k n settled counts' index' → settled.newest ≡ None → mount_fault t ≡ Some (BadEntry number count limit)
        entry-refused settled counts' index' settles none =
            index-bad error t k n next.lt (omega (arith, next.seen)) settled counts' index' settles (BadEntry number count t.most) none found.0 ∙ ap (λ (e : MountFault). Some e) (ap (BadEntry number count) next.is.most_is)

-- what a ring that stays has stays
pub running-same : (old new : BitmapIndex) → IsSameRing old new → is_running new ≡ is_running old
running-same old new still = ap (λ (o : Option Ring). is_some o) still.ring

-- ---- a bad index page

-- a page that waits goes on waiting
pub bad-keeps : (Is : ℕ → Type 0) (known now : Known) (bad : Refusal) (result : Result ℕ MountFault) → ((oldest n : ℕ) → IsWithin oldest n known → IsWithin oldest n now) →
    IfOk result (λ after. Is after × (now ≡ record known { fault = first_of known.fault (Some bad) }) × (known.newest ≡ None → ⊥)) → OnOk result (KeepsKnown known now)
bad-keeps Is known now bad (Ok after) within h = record { within = within; waits = waits (is_waiting now.newest) (is_waiting known.newest) (ap (λ (k : Known). is_waiting k.newest) h.1) }
  where
    waits : (n m : ℕ) → n ≡ m → n ≤ m
    waits n m is = omega (arith, is)
bad-keeps Is known now bad (Err fault) within h = tt

-- it is refused as a page
pub bad-only : (bad : Refusal) (result : Result ℕ MountFault) (Waits : Type 0) → IfErr result (λ e. Waits × (e ≡ BadPage bad)) → IfErr result (λ e. is_refused e ≡ true)
bad-only bad (Ok after) Waits h = tt
bad-only bad (Err fault) Waits h = ap is_refused h.1

-- ---- an index page was taken

pub taken-by : {T : Type 0} (page : ℕ) (index : BitmapIndex) (old : FlashState) (known : Known) (index_now : BitmapIndex) (known_now : Known) (new : FlashState) (result : Result T MountFault) → OnOk result (KeepsKnown known known_now) →
    (IsTrue old.media.tells → IsFineListing index old page → first_in index_now page ≡ first_on (pages_of index old page)) → ((n : ℕ) → (place_in index n ≡ place_in index page → ⊥) → first_in index_now n ≡ first_in index n) →
    ((first : ℕ) → (plan : Plan) → (table : Table) → IsTrue old.media.tells → StandsBelow page index old first plan table → StandsBelow (page + 1) index_now new first plan table) →
    OnOk result (TakesPage page index old known index_now known_now new)
taken-by page index old known index_now known_now new (Ok x) h remembers others stands = record { remembers = remembers; others = others; stands = stands; within = h.within; newest = h.waits }
taken-by page index old known index_now known_now new (Err fault) h remembers others stands = tt
