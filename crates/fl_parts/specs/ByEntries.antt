-- What a mount knows of the kept data pages, and why it is refused, over any bytes. Where index entries are full it reads the
-- kept index pages, and of the data pages those that none lists and the newest with rows; else it reads each data page.
use Rattle.std.specs.Prelude.{ℕ, zero, suc, ◌+◌, ◌-◌, max, min, Bool, true, not, ◌&&◌, ◌||◌, nat_lt, nat_le, ◌==◌, Option, Some, None, is_none, option_map, unwrap_or, List, [], ◌∷◌, ◌++◌, length, map, if◌then◌else◌}
use Rattle.fl_find.specs.Pages.{first_key, rows_on}
use Rattle.fl_index.specs.Page.{page_first, page_entries, found_at, full_view}
use Rattle.fl_index.specs.declared.page.EntryForm.{EntryForm}
use Rattle.fl_index.specs.declared.page.Found.{Found}
use Rattle.fl_mark.specs.Mark.{state_of_page}
use Rattle.fl_model.specs.Layout.{Full}
use Rattle.fl_model.specs.Limits.{numbers_from}
use Rattle.fl_model.specs.Record.{RowLayout}
use Rattle.fl_model.specs.Row.{Row}
use Rattle.fl_model.specs.Table.{first_of}
use Rattle.fl_model.specs.BlobEnds.{blobs_end}
use Rattle.fl_page.specs.Header.{page_number}
use Rattle.fl_page.specs.Page.{bad_page, has_form}
use Rattle.fl_ring.specs.Newest.{commits}
use Rattle.fl_parts.specs.Reading.{rises, last_in, keys_fault}
use Rattle.fl_parts.specs.declared.mount_fault.MountFault.{MountFault}
use Rattle.fl_parts.specs.declared.mount_fault.MountFault.TheVariants.{BadPage, BadKeys, BadEntry}

-- What a mount comes to: the bytes of the kept pages of both rings by their numbers, after the repairs. Where index entries
-- aren't full it comes to no index page here.
pub record Come : Type 0 where
  -- the form of an index entry, how many of them an index page holds, and how many rows a data page
  pub form : EntryForm
  pub per_page : ℕ
  pub most : ℕ
  pub layout : RowLayout
  pub index : ℕ → List ℕ
  pub index_oldest : ℕ
  pub index_pages : ℕ
  pub rows : ℕ → List ℕ
  pub oldest : ℕ
  pub pages : ℕ

-- ---- which entry tells of a data page

abbrev pub is_committed : List ℕ → Bool
is_committed page = commits (state_of_page page)

-- the k-th kept index page
abbrev pub index_page : Come → ℕ → List ℕ
index_page t k = t.index (t.index_oldest + k)

-- the greatest end of the committed ones of the first k
abbrev pub end_before : Come → ℕ → ℕ
end_before t zero = 0
end_before t (suc k) =
    let page = index_page t k in
    if is_committed page then max (end_before t k) (page_first page + page_entries page) else end_before t k

-- it has its number and its count, and lists no data page that one before it may list
abbrev pub is_fit : Come → ℕ → Bool
is_fit t k =
    let page = index_page t k in
    (page_number page == t.index_oldest + k) && (page_entries page == t.per_page) && nat_le (end_before t k) (page_first page)

abbrev pub is_good : Come → ℕ → Bool
is_good t k = is_committed (index_page t k) && is_fit t k

-- a good one of the first k lists a data page
abbrev pub lists : Come → ℕ → ℕ → Bool
lists t number k =
    let first = page_first (index_page t k) in is_good t k && nat_le first number && nat_lt number (first + t.per_page)

abbrev pub listing_among : Come → ℕ → ℕ → Option ℕ
listing_among t number zero = None
listing_among t number (suc k) = if lists t number k then Some k else listing_among t number k

-- what an entry tells of a data page beside its bitmap
abbrev pub no_rows : Full
no_rows = record { first_key = 0; count = 0; blob_end = 0 }

abbrev pub told : Found → Full
told found = unwrap_or (option_map full_view found.full) no_rows

abbrev pub told_at : Come → ℕ → ℕ → Full
told_at t number k = told (found_at t.form (index_page t k) (number - page_first (index_page t k)))

abbrev pub entry : Come → ℕ → Option Full
entry t number = option_map (told_at t number) (listing_among t number t.index_pages)

-- ---- which data pages are read, and what is known of each

-- a kept data page has rows: as its entry says, or where it is committed
abbrev pub has_rows : Come → ℕ → Bool
has_rows t number = unwrap_or (option_map (λ (full : Full). nat_lt 0 full.count) (entry t number)) (is_committed (t.rows number))

-- of so many pages from one on none has rows
abbrev pub are_void : Come → ℕ → ℕ → Bool
are_void t number zero = true
are_void t number (suc n) = are_void t number n && not (has_rows t (number + n))

-- it is the newest of them
abbrev pub is_newest : Come → ℕ → Bool
is_newest t number = has_rows t number && are_void t (number + 1) (t.oldest + t.pages - (number + 1))

-- the mount reads it
abbrev pub is_read : Come → ℕ → Bool
is_read t number = is_none (entry t number) || is_newest t number

-- what the rows of a page tell
abbrev pub by_rows : List Row → Full
by_rows rows = record { first_key = unwrap_or (first_key rows) 0; count = length rows; blob_end = blobs_end 0 rows }

abbrev pub by_page : Come → ℕ → Full
by_page t number = by_rows (rows_on t.layout (t.rows number))

-- what is known of a page: by its rows where it is read, and else by its entry
abbrev pub facts_on : Come → ℕ → Full
facts_on t number = if is_read t number then by_page t number else unwrap_or (entry t number) no_rows

-- ---- the totals of what is known of so many pages from one on

abbrev pub rows_of : (ℕ → Full) → ℕ → ℕ → ℕ
rows_of facts number zero = 0
rows_of facts number (suc n) = rows_of facts number n + (facts (number + n)).count

abbrev pub voids_of : (ℕ → Full) → ℕ → ℕ → ℕ
voids_of facts number zero = 0
voids_of facts number (suc n) = voids_of facts number n + (if (facts (number + n)).count == 0 then 1 else 0)

abbrev pub points_of : (ℕ → Full) → ℕ → ℕ → List (ℕ × ℕ)
points_of facts number zero = []
points_of facts number (suc n) =
    points_of facts number n ++ (if (facts (number + n)).count == 0 then [] else ((facts (number + n)).first_key, number + n) ∷ [])

abbrev pub end_of : (ℕ → Full) → ℕ → ℕ → ℕ
end_of facts number zero = 0
end_of facts number (suc n) = max (end_of facts number n) (facts (number + n)).blob_end

-- the greatest key known after the first n kept data pages
abbrev pub known_after : Come → ℕ → Option ℕ
known_after t zero = None
known_after t (suc n) =
    let number = t.oldest + n in
    if is_read t number then last_in (known_after t n) (rows_on t.layout (t.rows number))
    else if (facts_on t number).count == 0 then known_after t n else Some (facts_on t number).first_key

-- how many of so many pages from one on no index page lists
abbrev pub unlisted_of : Come → ℕ → ℕ → ℕ
unlisted_of t number zero = 0
unlisted_of t number (suc n) = unlisted_of t number n + (if is_none (entry t (number + n)) then 1 else 0)

-- ---- what may be wrong, in the order in which it is checked

-- a page that is read, by its bytes; `rows` says whether its entry tells rows
abbrev pub read_fault : RowLayout → ℕ → List ℕ → Bool → Option ℕ → Option MountFault
read_fault layout number page rows before =
    if is_committed page
    then (if has_form layout number page then keys_fault number before (rows_on layout page) else Some (BadPage (bad_page number page)))
    else if rows then Some (BadPage (bad_page number page)) else None

-- one that isn't, by its entry
abbrev pub entry_fault : ℕ → Full → Option ℕ → Option MountFault
entry_fault number full before =
    if full.count == 0 then None
    else if rises before full.first_key then None else Some (BadKeys number (unwrap_or before 0) full.first_key)

-- the n-th kept data page
abbrev pub page_check : Come → ℕ → Option MountFault
page_check t n =
    let number = t.oldest + n in
    if is_read t number then read_fault t.layout number (t.rows number) (has_rows t number) (known_after t n)
    else entry_fault number (facts_on t number) (known_after t n)

-- the first that there is
abbrev pub first_some : {X : Type 0} → List (Option X) → Option X
first_some [] = None
first_some (one ∷ others) = first_of one (first_some others)

-- the entry at a place of an index page, of a kept data page, has no count that a page has
abbrev pub count_fault : Come → ℕ → ℕ → Option MountFault
count_fault t k j =
    let number = page_first (index_page t k) + j in
    let count = (told_at t number k).count in
    if nat_le t.oldest number && nat_lt number (t.oldest + t.pages) && nat_lt t.most count then Some (BadEntry number count t.most) else None

abbrev pub bad_index_page : ℕ → List ℕ → MountFault
bad_index_page number page = BadPage (record { wanted = number; found = page_number page; count = page_entries page })

-- the k-th kept index page
abbrev pub index_check : Come → ℕ → Option MountFault
index_check t k =
    let page = index_page t k in
    if not (is_committed page) then None
    else if is_fit t k then first_some (map (count_fault t k) (numbers_from 0 t.per_page))
    else Some (bad_index_page (t.index_oldest + k) page)

-- how many data pages are checked before the k-th index page is read
abbrev pub seen_before : Come → ℕ → ℕ
seen_before t k = min (end_before t k) (t.oldest + t.pages) - t.oldest

-- the checks of the data pages from the n-th on, before the m-th
abbrev pub page_checks : Come → ℕ → ℕ → List (Option MountFault)
page_checks t n m = map (page_check t) (numbers_from n (m - n))

-- All checks in their order: each index page is read as soon as the data pages below the ends of those before it are checked.
abbrev pub checks_from : Come → ℕ → ℕ → ℕ → List (Option MountFault)
checks_from t k done zero = page_checks t done t.pages
checks_from t k done (suc left) =
    let seen = max done (seen_before t k) in
    page_checks t done seen ++ index_check t k ∷ checks_from t (k + 1) seen left

-- why the mount is refused, if it is, where both rings were found and the end of the index is no greater than the next number
abbrev pub mount_fault : Come → Option MountFault
mount_fault t = first_some (checks_from t 0 0 t.index_pages)
