-- No page that a cursor goes past is bad.
use Rattle.std.proofs.Common.{◌≡◌, inl, inr, ℕ, zero, suc, ◌+◌, ◌-◌, ◌<◌, ◌≤◌, Bool, true, false, ◌||◌, cond, Option, Some, None, IsTrue, List, [], ◌∷◌, ◌++◌, drop, refl, sym, ◌∙◌, ap, subst, arith}
use Rattle.std.specs.Bool.{OnFalse}
use Rattle.std.specs.Borrow.{Bor}
use Rattle.std.specs.List.{list_any, slice_get}
use Rattle.std.proofs.lemmas.Bool.{true≢false, or_parts}
use Rattle.std.proofs.lemmas.Option.{none-some, same_Some}
use Rattle.fl_base.specs.declared.types.Span.{Span}
use Rattle.fl_find.specs.Pages as pages
use Rattle.fl_flash.specs.Buffer.{BufferState}
use Rattle.fl_flash.specs.Flash.{FlashState, page_at}
use Rattle.fl_frame.specs.Contents.{Contents, contents_of, OnlyReads}
use Rattle.fl_mark.specs.Mark.{state_of_page}
use Rattle.fl_mark.specs.declared.page_state.PageState.{PageState}
use Rattle.fl_mark.specs.declared.page_state.PageState.TheVariants.{Committed}
use Rattle.fl_model.specs.Query as model
use Rattle.fl_model.specs.Query.{is_up_to}
use Rattle.fl_model.specs.Row.{Row}
use Rattle.fl_model.proofs.Lists.{any-drop}
use Rattle.fl_page.specs.Page.{IsGoodPage, rows_in}
use Rattle.fl_parts.proofs.Skipping.{looked-any}
use Rattle.fl_table.specs.Finding.{IsPageFor}
use Rattle.fl_table.specs.Look.{buckets_in, buffered_rows, layout_in, oldest_in, rows_noted, index_in}
use Rattle.fl_parts.specs.Skipping.{AreFresh, IsLookedUpBy, IsToldBy}
use Rattle.fl_parts.specs.declared.ahead.Ahead.{Ahead}
use Rattle.fl_parts.specs.declared.ahead.Ahead.TheVariants.{Wanted, Missed, Beyond}
use Rattle.fl_table.specs.declared.table.Table.{Table}
use Rattle.fl_cursor.specs.Asked.{is_last, is_left, lowest_of}
use Rattle.fl_cursor.specs.Cursor.{AreFreshIn, asked_of, buffer_of, has_ended, is_end, mark_of, table_of}
use Rattle.fl_cursor.specs.Going.{Keeps, took}
use Rattle.fl_cursor.specs.Listed.{bytes_at}
use Rattle.fl_cursor.specs.Reads.{IsBegun, begins_by, has_last}
use Rattle.fl_cursor.specs.Sought.{first_left}
use Rattle.fl_cursor.specs.Sound.{IsAhead, IsLookedUpIn, IsSoundAhead, IsSoundAt, IsSoundBehind, IsSoundFor, IsSoundFrom, IsSoundOver, PagesSound, pages_end, pages_in, rows_told}
use Rattle.fl_cursor.specs.declared.bookmark.Bookmark.{Bookmark}
use Rattle.fl_cursor.specs.declared.cursor.Cursor.{Cursor}
use Rattle.fl_cursor.specs.declared.place.Here.{Here}
use Rattle.fl_cursor.specs.declared.place.Place.{Place}
use Rattle.fl_cursor.specs.declared.place.Place.TheVariants.{Start, Pages, InPage, Pending, Ended}
use Rattle.fl_cursor.specs.declared.search.Sought.TheVariants.{Row as At, Behind, Nowhere}
use Rattle.fl_cursor.proofs.InPage.{drop-same, same-row}
use Rattle.fl_cursor.proofs.Indexed.{fresh-in, fresh-none, fresh-on}
use Rattle.fl_cursor.proofs.PassedRows.{passes-all}
use Rattle.fl_cursor.proofs.Walks.{reached}

-- ---- rows behind which none may be given

none-at : (test : Row → Bool) (rows : List Row) (j : ℕ) (row : Row) → slice_get rows j ≡ Some row → list_any test rows ≡ false → test row ≡ false
none-at test [] j row at e = absurd (none-some row at)
none-at test (x ∷ rows) zero row at e = subst (λ (r : Row). test r ≡ false) (same_Some x row at) (or_parts (test x) (list_any test rows) e).0
none-at test (x ∷ rows) (suc j) row at e = none-at test rows j row at (or_parts (test x) (list_any test rows) e).1

-- a search that ends before the others met one
stopped-last : (asked : model.Cursor) (rows : List Row) (i : ℕ) → Nowhere ≡ first_left asked rows i → has_last asked.top rows ≡ true
stopped-last asked [] i e = absurd (other e)
  where
    other : Nowhere ≡ Behind → ⊥
    other e = cc
stopped-last asked (row ∷ rows) i e = by_left (λ later. stopped-last asked rows (i + 1) later) (is_left asked row) e
  where
    other : Nowhere ≡ At i → ⊥
    other e = cc

    by_last : (Nowhere ≡ first_left asked rows (i + 1) → has_last asked.top rows ≡ true) → (b : Bool) → Nowhere ≡ cond b Nowhere (first_left asked rows (i + 1)) → (b || has_last asked.top rows) ≡ true
    by_last behind true e = refl
    by_last behind false e = behind e

    by_left : (Nowhere ≡ first_left asked rows (i + 1) → has_last asked.top rows ≡ true) → (b : Bool) → Nowhere ≡ cond b (At i) (cond (is_last asked.top row.key) Nowhere (first_left asked rows (i + 1))) →
        has_last asked.top (row ∷ rows) ≡ true
    by_left behind true e = absurd (other e)
    by_left behind false e = by_last behind (is_last asked.top row.key) e

-- ---- pages

-- a page that was read and is good isn't bad, and one that isn't committed neither
module _ {KNOTS SLOTS : ℕ} (t : Table KNOTS SLOTS) (contents : Contents) (number : ℕ) (page : List ℕ) (same : page ≡ bytes_at t contents number) where
  pub sound-good : IsGoodPage (layout_in t) number page → IsSoundAt t contents number
  sound-good good bad is_bad = is_bad.not_good (subst (IsGoodPage (layout_in t) number) same good)

  pub sound-void : (state_of_page page ≡ Committed → ⊥) → IsSoundAt t contents number
  sound-void other bad is_bad = other (ap state_of_page same ∙ is_bad.committed)

  -- its rows are those in the buffer
  pub rows-same : state_of_page page ≡ Committed → rows_told t contents number ≡ rows_in (layout_in t) page
  rows-same committed =
      ap (λ (s : PageState). pages.rows_where s (layout_in t) (bytes_at t contents number)) (sym (ap state_of_page same) ∙ committed)
      ∙ ap (rows_in (layout_in t)) (sym same)

-- what the buffer of index pages holds after a look, over the same bytes
pub fresh-then : {KNOTS SLOTS : ℕ} (t : Table KNOTS SLOTS) (f new : FlashState) (before after : BufferState) → OnlyReads f new → (IsTrue f.media.tells → AreFresh (index_in t) f before → AreFresh (index_in t) new after) →
    IsTrue f.media.tells → AreFreshIn (index_in t) (contents_of f) before → AreFreshIn (index_in t) (contents_of f) after
fresh-then t f new before after reads fresh tells held =
    subst (λ (k : Contents). AreFreshIn (index_in t) k after) reads.contents (fresh-in (index_in t) new after (fresh tells (fresh-on (index_in t) f before held)))

-- what a look told of a page that isn't read
pub ahead-told : {KNOTS SLOTS : ℕ} (t : Table KNOTS SLOTS) (f : FlashState) (span : Option Span) (top : Option ℕ) (number : ℕ) (before : BufferState) (ahead said : Ahead) →
    (IsTrue f.media.tells → AreFresh (index_in t) f before → (ahead ≡ Wanted → ⊥) → IsToldBy (index_in t) (buckets_in t) (page_at f) span top number ahead) →
    ahead ≡ said → (said ≡ Wanted → ⊥) → IsTrue f.media.tells → AreFreshIn (index_in t) (contents_of f) before → IsAhead t (contents_of f) span top number said
ahead-told t f span top number before ahead said told is other tells held =
    subst (λ (a : Ahead). IsToldBy (index_in t) (buckets_in t) (page_at f) span top number a) is (told tells (fresh-on (index_in t) f before held) (λ e. other (sym is ∙ e)))

-- .. and of the index page that was looked at
pub looked-told : {KNOTS SLOTS : ℕ} (t : Table KNOTS SLOTS) (f : FlashState) (span : Option Span) (number : ℕ) (before : BufferState) → (IsTrue f.media.tells → AreFresh (index_in t) f before → IsLookedUpBy (index_in t) (page_at f) span number before) →
    IsTrue f.media.tells → AreFreshIn (index_in t) (contents_of f) before → IsLookedUpIn t (contents_of f) span number
looked-told t f span number before looked tells held = looked-any (index_in t) (page_at f) span number before (looked tells (fresh-on (index_in t) f before held))

pub missed-other : Missed ≡ Wanted → ⊥
missed-other e = cc

pub beyond-other : Beyond ≡ Wanted → ⊥
beyond-other e = cc

-- ---- from the pages on

module _ {KNOTS SLOTS : ℕ} (old : Cursor KNOTS SLOTS) (next end : ℕ) (here_is : old.place ≡ Pages next) (end_is : end ≡ pages_end (table_of old) (mark_of old).top) (contents : Contents) where
  abbrev rest : Type 0
  rest = IsSoundFrom old.table.now contents (asked_of old) (next + 1)

  here : IsSoundFrom (table_of old) contents (asked_of old) next → IsSoundFor (table_of old) contents (asked_of old) (buffer_of old) old.place
  here s = subst (IsSoundFor (table_of old) contents (asked_of old) (buffer_of old)) (sym here_is) s

  from-next : next < end → PagesSound (table_of old) contents (mark_of old).span (mark_of old).top next (suc (pages_end (table_of old) (mark_of old).top - (next + 1))) →
      IsSoundFor (table_of old) contents (asked_of old) (buffer_of old) old.place
  from-next lt s =
      let one : suc (pages_end (table_of old) (mark_of old).top - (next + 1)) ≡ pages_end (table_of old) (mark_of old).top - next = omega (arith, lt, end_is) in
      here (subst (PagesSound (table_of old) contents (mark_of old).span (mark_of old).top next) one s)

  -- the last one is done
  pub sound-done : end ≤ next → IsSoundFor (table_of old) contents (asked_of old) (buffer_of old) old.place
  sound-done le =
      let none : 0 ≡ pages_end (table_of old) (mark_of old).top - next = omega (arith, le, end_is) in
      here (subst (PagesSound (table_of old) contents (mark_of old).span (mark_of old).top next) none tt)

  -- this one has no rows, or is missed, or lies beyond the last key, or was read
  pub sound-skipped : next < end → rows_noted (table_of old) next ≡ 0 → rest → IsSoundFor (table_of old) contents (asked_of old) (buffer_of old) old.place
  sound-skipped lt none s = from-next lt (inl (none, s))

  pub sound-missed : next < end → IsAhead (table_of old) contents (mark_of old).span (mark_of old).top next Missed → rest → IsSoundFor (table_of old) contents (asked_of old) (buffer_of old) old.place
  sound-missed lt told s = from-next lt (inr (inl (told, s)))

  pub sound-beyond : next < end → IsAhead (table_of old) contents (mark_of old).span (mark_of old).top next Beyond → IsSoundFor (table_of old) contents (asked_of old) (buffer_of old) old.place
  sound-beyond lt told = from-next lt (inr (inr (inl told)))

  pub sound-read : next < end → IsSoundAt (table_of old) contents next → IsLookedUpIn (table_of old) contents (mark_of old).span next → IsSoundBehind (table_of old) contents (asked_of old) next (rows_told (table_of old) contents next) →
      IsSoundFor (table_of old) contents (asked_of old) (buffer_of old) old.place
  sound-read lt sound looked behind = from-next lt (inr (inr (inr (sound, looked, behind))))

-- the pages end where they ended
pub end-kept : {KNOTS SLOTS : ℕ} (old new : Cursor KNOTS SLOTS) (end : ℕ) → Keeps old new → mark_of new ≡ mark_of old → end ≡ pages_end (table_of old) (mark_of old).top → end ≡ pages_end (table_of new) (mark_of new).top
end-kept {KNOTS} {SLOTS} old new end keeps mark is =
    subst (λ (t : Bor (Table KNOTS SLOTS)). end ≡ pages_end t.now (mark_of new).top) (sym keeps.table) (subst (λ (m : Bookmark). end ≡ pages_end (table_of old) m.top) (sym mark) is)

-- ---- from the page of the lowest key on

module _ {KNOTS SLOTS : ℕ} (old : Cursor KNOTS SLOTS) (here_is : old.place ≡ Start) (contents : Contents) where
  begun : IsSoundFor (table_of old) contents (asked_of old) (buffer_of old) Start → IsSoundFor (table_of old) contents (asked_of old) (buffer_of old) old.place
  begun s = subst (IsSoundFor (table_of old) contents (asked_of old) (buffer_of old)) (sym here_is) s

  -- there is none, and the oldest one comes next
  pub sound-oldest : (key first : ℕ) → key ≡ lowest_of (asked_of old) → first ≡ oldest_in (table_of old) → IsPageFor (table_of old) (pages_in contents) key None → IsSoundFrom (table_of old) contents (asked_of old) first →
      IsSoundFor (table_of old) contents (asked_of old) (buffer_of old) old.place
  sound-oldest key first low is_oldest is s = begun (record {
    page = None;
    is_page = subst (λ k. IsPageFor (table_of old) (pages_in contents) k None) low is;
    ahead = subst (IsSoundFrom (table_of old) contents (asked_of old)) is_oldest s;
  })

  pub sound-found : (key number : ℕ) (page : List ℕ) → key ≡ lowest_of (asked_of old) → page ≡ bytes_at (table_of old) contents number → state_of_page page ≡ Committed → IsGoodPage (layout_in (table_of old)) number page →
      IsPageFor (table_of old) (pages_in contents) key (Some number) → IsSoundBehind (table_of old) contents (asked_of old) number (rows_in (layout_in (table_of old)) page) →
      IsSoundFor (table_of old) contents (asked_of old) (buffer_of old) old.place
  sound-found key number page low same committed good is s = begun (record {
    page = Some number;
    is_page = subst (λ k. IsPageFor (table_of old) (pages_in contents) k (Some number)) low is;
    ahead = (
      sound-good (table_of old) contents number page same good,
      λ last. s (ap (has_last (asked_of old).top) (sym (rows-same (table_of old) contents number page same committed)) ∙ last),
    );
  })

-- ---- in a page

module _ {KNOTS SLOTS : ℕ} (old : Cursor KNOTS SLOTS) (number row : ℕ) (here_is : old.place ≡ InPage number row) (contents : Contents) where
  abbrev rows : List Row
  rows = rows_in (layout_in old.table.now) old.rows_buf.now.bytes

  in-page : IsSoundBehind (table_of old) contents (asked_of old) number (drop row rows) → IsSoundFor (table_of old) contents (asked_of old) (buffer_of old) old.place
  in-page s = subst (IsSoundFor (table_of old) contents (asked_of old) (buffer_of old)) (sym here_is) s

  -- a row is taken
  pub sound-taken : (k : ℕ) (found : Row) (here : Here) → slice_get rows k ≡ Some found → At k ≡ first_left (asked_of old) (drop row rows) row →
      IsSoundAhead (took found.key here (InPage number (k + 1)) old) contents → IsSoundAhead old contents
  sound-taken k found here at search s = λ tells fresh. in-page (λ none.
      let free = reached (asked_of old) (drop row rows ++ []) (drop row rows) [] row k (passes-all (asked_of old) (drop row rows ++ [])) search in
      let other : is_last (asked_of old).top found.key ≡ false =
      subst (λ (r : Row). is_last (asked_of old).top r.key ≡ false) (same-row rows row free.j k free.row found free.at free.here at) (none-at (λ r. is_last (asked_of old).top r.key) (drop row rows) free.j free.row free.here none) in
      let later : has_last (asked_of old).top (drop (k + 1) rows) ≡ false =
      subst (λ (xs : List Row). has_last (asked_of old).top xs ≡ false) (drop-same rows row free.j k free.at) (any-drop (λ (r : Row). is_last (asked_of old).top r.key) (suc free.j) (drop row rows) none) in
      by_last (is_last (asked_of old).top found.key) other later (s tells fresh))
    where
      by_last : (b : Bool) → b ≡ false → has_last (asked_of old).top (drop (k + 1) rows) ≡ false →
          IsSoundFor (table_of old) contents (asked_of (took found.key here (InPage number (k + 1)) old)) (buffer_of old) (cond b Ended (InPage number (k + 1))) → IsSoundFrom (table_of old) contents (asked_of old) (number + 1)
      by_last true e later s = absurd (true≢false e)
      by_last false e later s = s later

  -- none is, and the next page comes
  pub sound-behind : IsSoundAhead (record old { place = Pages (number + 1) }) contents → IsSoundAhead old contents
  sound-behind s = λ tells fresh. in-page (λ none. s tells fresh)

  -- .. or the last one was met
  pub sound-nowhere : Nowhere ≡ first_left (asked_of old) (drop row rows) row → IsSoundAhead old contents
  sound-nowhere search = λ tells fresh. in-page (λ none. absurd (true≢false (sym (stopped-last (asked_of old) (drop row rows) row search) ∙ none)))

-- ---- behind the pages

pub sound-pending : {KNOTS SLOTS : ℕ} (old : Cursor KNOTS SLOTS) (row : ℕ) (contents : Contents) → old.place ≡ Pending row → IsSoundAhead old contents
sound-pending old row contents is = λ tells fresh. subst (IsSoundFor (table_of old) contents (asked_of old) (buffer_of old)) (sym is) tt

ended-sound : {KNOTS SLOTS : ℕ} (t : Table KNOTS SLOTS) (contents : Contents) (asked : model.Cursor) (page : List ℕ) (place : Place) → is_end place ≡ true → IsSoundFor t contents asked page place
ended-sound t contents asked page Ended e = tt
ended-sound t contents asked page (Pending row) e = tt
ended-sound t contents asked page Start e = absurd (true≢false (sym e))
ended-sound t contents asked page (Pages next) e = absurd (true≢false (sym e))
ended-sound t contents asked page (InPage number row) e = absurd (true≢false (sym e))

-- a step that came to the end
pub all-sound : {KNOTS SLOTS : ℕ} (more : Bool) (old new : Cursor KNOTS SLOTS) (contents : Contents) → OnFalse more (has_ended new ≡ true) → (IsSoundAhead new contents → IsSoundAhead old contents) →
    OnFalse more (IsSoundAhead old contents)
all-sound true old new contents end back = tt
all-sound false old new contents end back = back (λ tells fresh. ended-sound (table_of new) contents (asked_of new) (buffer_of new) new.place end)

-- ---- where it begins

pub sound-begun : {KNOTS SLOTS : ℕ} (t : Table KNOTS SLOTS) (contents : Contents) (asked : model.Cursor) (index : BufferState) (page : List ℕ) (place : Place) → index.holds ≡ None → IsBegun asked t place →
    (IsTrue contents.tells → AreFreshIn (index_in t) contents index → IsSoundFor t contents asked page place) → IsSoundOver t contents asked
sound-begun t contents asked index page place none begun s = λ tells up begins. by_place place begun (s tells (fresh-none (index_in t) contents index none)) up begins
  where
    by_place : (place : Place) → IsBegun asked t place → IsSoundFor t contents asked page place → is_up_to asked.top (lowest_of asked) ≡ true → begins_by (lowest_of asked) (buffered_rows t) ≡ false →
        IsSoundFor t contents asked page Start
    by_place Start begun s up begins = s
    by_place (Pending row) begun s up begins = absurd (true≢false (sym begun ∙ begins))
    by_place Ended begun s up begins = absurd (true≢false (sym up ∙ begun))
    by_place (Pages next) begun s up begins = absurd begun
    by_place (InPage number row) begun s up begins = absurd begun
