-- The greatest numbers of reads of scans.
use Rattle.std.specs.Prelude.{ℕ, zero, suc, ◌+◌, ◌-◌, ◌^◌, Bool, true, false, not, ◌&&◌, ◌||◌, nat_lt, nat_le, ◌==◌, Option, Some, None, option_map, unwrap_or, List, [], ◌∷◌, length, filter, count_by, bit_and, slice_get, if◌then◌else◌, int_le}
use Rattle.std.specs.List.{list_any}
use Rattle.fl_base.specs.declared.types.KeyRange.{KeyRange}
use Rattle.fl_base.specs.declared.types.Span.{Span}
use Rattle.fl_model.specs.Record.{Plan, has_index, entries_per_page}
use Rattle.fl_model.specs.Ring.{Ring, oldest}
use Rattle.fl_model.specs.Table.{Table, Entry, full_pages, firsts}
use Rattle.fl_model.specs.Spline.{lookup_limit, voids_of, is_pending_key, pages_of, page_at, page_key}
use Rattle.fl_model.specs.Layout.{bitmap_of, bucket_of}
use Rattle.fl_model.specs.Query.{matches}

-- the buckets from one to another
abbrev pub bits_from : ℕ → ℕ → ℕ
bits_from low zero = 0
bits_from low (suc n) = 2 ^ low + bits_from (low + 1) n

abbrev pub mask_of : Plan → Span → ℕ
mask_of plan span =
    if int_le span.low span.high
    then bits_from (bucket_of plan span.low) (bucket_of plan span.high + 1 - bucket_of plan span.low) else 0

-- an index page lists a data page
abbrev pub is_listed : Plan → Table → ℕ → Bool
is_listed plan table number = list_any (λ first. nat_le first number && nat_lt number (first + entries_per_page plan)) (firsts table)

-- .. or its entry waits, as it does of the last data pages
abbrev pub waits : Table → ℕ → Bool
waits table number = nat_le (table.rows.next - length table.waiting) number && nat_lt number table.rows.next

abbrev pub is_indexed : Plan → Table → ℕ → Bool
is_indexed plan table number = has_index plan && (waits table number || is_listed plan table number)

-- the rows of a kept page; a void page has none
abbrev pub rows_of_page : Table → ℕ → List Entry
rows_of_page table number =
    unwrap_or (option_map (λ (page : ℕ × List Entry). page.1) (slice_get (filter (λ page. page.0 == number) (pages_of table)) 0)) []

-- whether a scan with this span has to read a data page
abbrev pub is_wanted : Plan → Table → Option Span → ℕ → Bool
is_wanted plan table None number = true
is_wanted plan table (Some span) number =
    not (is_indexed plan table number) || nat_lt 0 (bit_and (bitmap_of plan (rows_of_page table number)) (mask_of plan span))

-- the numbers of the kept data pages
abbrev pub numbers_from : ℕ → ℕ → List ℕ
numbers_from first zero = []
numbers_from first (suc n) = first ∷ numbers_from (first + 1) n

abbrev pub numbers_of : Table → List ℕ
numbers_of table = numbers_from (oldest table.rows) (length table.rows.counts)

-- the pages from that of the lowest key wanted to the last whose first key is at most the high key
abbrev pub first_page : Table → ℕ → ℕ
first_page table key = unwrap_or (page_at table key) (oldest table.rows)

abbrev pub last_page : Table → ℕ → Option ℕ
last_page table high = page_at table high

abbrev pub in_pages : ℕ → Option ℕ → ℕ → Bool
in_pages first None number = false
in_pages first (Some last) number = nat_le first number && nat_le number last

abbrev pub is_spanned : Option Span → Bool
is_spanned None = false
is_spanned (Some span) = true

-- the first page with rows behind those whose first key is at most the high key
abbrev pub page_behind : Table → ℕ → Option ℕ
page_behind table high = option_map (λ page. page.0) (slice_get (filter (λ page. nat_lt high (page_key page)) (pages_of table)) 0)

-- the page behind the range, which is read for its first key; a full index entry tells that, and there may be no such page
abbrev pub past : Plan → Table → KeyRange → Option Span → ℕ
past plan table range span =
    if plan.full_index && is_spanned span && unwrap_or (option_map (is_indexed plan table) (page_behind table range.high)) true then 0 else 1

-- the greatest number of reads from the lowest key wanted on
abbrev pub scan_limit : ℕ → Plan → Table → KeyRange → Option Span → ℕ → ℕ
scan_limit knots plan table range span lowest =
    if is_pending_key table lowest then 0
    else
    lookup_limit knots plan table lowest + 1 + past plan table range span + voids_of table
    + (if has_index plan && is_spanned span then unwrap_or (option_map (λ (ring : Ring). full_pages ring.counts) table.index) 0 else 0)
    + count_by (λ number. in_pages (first_page table lowest) (last_page table range.high) number && is_wanted plan table span number) (numbers_of table)

-- whether a span asks for values
abbrev pub asks_values : Option Span → Bool
asks_values None = false
asks_values (Some span) = int_le span.low span.high

-- the least number of reads of a scan: the pages with a record that it gives, and the index pages that list a page after the first
abbrev pub least_reads : Plan → Table → KeyRange → Option Span → ℕ
least_reads plan table range span =
    count_by (λ (page : ℕ × List Entry). list_any (λ entry. matches range span entry.kept) page.1) (pages_of table)
    + (if asks_values span
    then count_by (λ first. list_any (λ (page : ℕ × List Entry).
    nat_le first page.0 && nat_lt page.0 (first + entries_per_page plan)
    && nat_lt (first_page table range.low) page.0 && in_pages (first_page table range.low) (last_page table range.high) page.0) (pages_of table)) (firsts table)
    else 0)
