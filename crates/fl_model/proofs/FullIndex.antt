-- What full index entries tell, and how many pages a mount by them reads.
use Rattle.std.proofs.Common.{◌≡◌, ℕ, zero, suc, ◌+◌, ◌-◌, ◌*◌, ◌%◌, ◌<◌, ◌≤◌, Bool, true, false, cond, ◌&&◌, ◌||◌, not, nat_lt, nat_le, ◌==◌, Option, Some, None, List, [], ◌∷◌, ◌++◌, length, map, max, fold, take, drop, if◌then◌else◌, refl, sym, ◌∙◌, ap, arith, IsTrue, IfSome, ◌⊎◌, inl, inr, option_map, unwrap_or}
use Rattle.std.specs.List.{AllByRecursion, list_any, last_or, slice_get, sum}
use Rattle.std.proofs.lemmas.Bool.{cases_lt, le-ltb, false≢true, true≢false}
use Rattle.std.proofs.lemmas.Bool.Decides.{nat_tests}
use Rattle.std.proofs.lemmas.List.{take-append-drop, map-append, length-drop}
use Rattle.std.proofs.lemmas.List.Sums.{sum_by-cons, fold-append, count_by-le-length}
use Rattle.std.proofs.lemmas.Nat.{mod_below}
use Rattle.std.proofs.Math.Nat.{add-mul, mul-le-mul_right, mul-le-mul_left}
use Rattle.std.proofs.lemmas.Option.{none-some}
use Rattle.fl_model.specs.Record.{Plan, has_index, has_var, has_log, blocks_of, entries_per_page}
use Rattle.fl_model.specs.Ring.{Shape, IsShape, Ring, IsRing, oldest}
use Rattle.fl_model.specs.Table.{Table, Entry, DataRing, IndexRing, VarRing, LogRing, shape_of, end_of_blobs, blob_len, firsts}
use Rattle.fl_model.specs.Index.{IndexPage}
use Rattle.fl_model.specs.Spline.{pages_from, pages_of}
use Rattle.fl_model.specs.Agrees.{TellPages}
use Rattle.fl_model.specs.Limits.{is_indexed, is_listed, numbers_of}
use Rattle.fl_model.specs.MountLimit.{voids_at_end, ring_mount_limit, part_mount_limit, log_mount_limit, kept_in, full_mount_limit}
use Rattle.fl_model.specs.Mount.{index_end, blob_end, renumber, least_alike}
use Rattle.fl_model.specs.Facts.{IsTable, is_some_ring}
use Rattle.fl_model.proofs.Lists.{slice_get-some, slice_get-short, last_or-get, any-at}
use Rattle.fl_model.proofs.EntriesStayTold.{numbers-length}

-- ---- which data pages are listed

-- each first data page with those that its index page lists ends at the end of the index, or before it
first-ends : (x i a : ℕ) (firsts : List ℕ) →
    ((i j a b : ℕ) → i < j → slice_get firsts i ≡ Some a → slice_get firsts j ≡ Some b → a + x ≤ b) →
    slice_get firsts i ≡ Some a → a + x ≤ unwrap_or (option_map (λ page. page + x) (last_or None firsts)) 0
first-ends x i a [] rising e = absurd (none-some a e)
first-ends x i a (f ∷ fs) rising e =
    let last = slice_get-some (f ∷ fs) (length fs) (omega arith) in
    let is : last_or None (f ∷ fs) ≡ Some last.0 = last_or-get None f fs ∙ last.1 in
    let end : unwrap_or (option_map (λ page. page + x) (last_or None (f ∷ fs))) 0 ≡ last.0 + x = ap (λ (o : Option ℕ). unwrap_or (option_map (λ page. page + x) o) 0) is in
    let short = slice_get-short (f ∷ fs) i a e in
    ends last.0 last.1 end (by_place (cases_lt i (length fs)) short)
  where
    by_place : (i < length fs) ⊎ (length fs ≤ i) → i < suc (length fs) → (i < length fs) ⊎ (i ≡ length fs)
    by_place (inl lt) short = inl lt
    by_place (inr ge) short = inr (omega (arith, ge, short))

    ends : (l : ℕ) → slice_get (f ∷ fs) (length fs) ≡ Some l → unwrap_or (option_map (λ page. page + x) (last_or None (f ∷ fs))) 0 ≡ l + x →
        (i < length fs) ⊎ (i ≡ length fs) → a + x ≤ unwrap_or (option_map (λ page. page + x) (last_or None (f ∷ fs))) 0
    ends l is end (inl lt) = let le = rising i (length fs) a l lt e is in omega (arith, le, end)
    ends l is end (inr same) =
        let at : slice_get (f ∷ fs) (length fs) ≡ Some a = ap (slice_get (f ∷ fs)) (sym same) ∙ e in
        let one : Some a ≡ Some l = sym at ∙ is in
        let k : a ≡ l = cc in
        omega (arith, k, end)

-- no page from there on is listed
none-listed : (x number : ℕ) (firsts : List ℕ) → ((i a : ℕ) → slice_get firsts i ≡ Some a → a + x ≤ number) →
    list_any (λ first. nat_le first number && nat_lt number (first + x)) firsts ≡ false
none-listed x number [] h = refl
none-listed x number (f ∷ fs) h = by_first (h 0 f refl) (none-listed x number fs (λ i a e. h (suc i) a e))
  where
    by_first : f + x ≤ number → list_any (λ first. nat_le first number && nat_lt number (first + x)) fs ≡ false →
        list_any (λ first. nat_le first number && nat_lt number (first + x)) (f ∷ fs) ≡ false
    by_first le rest = grind (arith, le, rest)

pub listed-behind : (plan : Plan) (table : Table) (number : ℕ) → IsTable plan table → index_end plan table ≤ number → is_listed plan table number ≡ false
listed-behind plan table number is le =
    none-listed (entries_per_page plan) number (firsts table)
    (λ i a e. let ends = first-ends (entries_per_page plan) i a (firsts table) is.firsts e in let k : a + entries_per_page plan ≤ number = omega (arith, ends, le) in k)

-- what is indexed ends before the page that is sealed next
pub indexed-below : (plan : Plan) (table : Table) (number : ℕ) → IsTable plan table → table.rows.next ≤ number → is_indexed plan table number ≡ false
indexed-below plan table number is le =
    both (has_index plan) (nat_le (table.rows.next - length table.waiting) number) (nat_lt number table.rows.next) (is_listed plan table number)
    (le-ltb number table.rows.next le) (listed-behind plan table number is (omega (arith, le, is.listed)))
  where
    both : (has from to listed : Bool) → to ≡ false → listed ≡ false → (has && (from && to || listed)) ≡ false
    both false from to listed t l = refl
    both true false to listed t l = l
    both true true to listed t l = rw (t, l) refl

-- the numbers of a data ring whose pages are all void begin at the end of the index, or behind it
pub listed-renumbered : (plan : Plan) (table : Table) (number : ℕ) → IsTable plan table → list_any (nat_lt 0) table.rows.counts ≡ false →
    oldest (renumber plan DataRing table).rows ≤ number → is_listed plan (renumber plan DataRing table) number ≡ false
listed-renumbered plan table number is void le = listed-behind plan table number is (begins (list_any (nat_lt 0) table.rows.counts) void le)
  where
    m : ℕ
    m = plan.data_blocks * plan.geometry.block

    end : ℕ
    end = index_end plan table

    next : ℕ
    next = least_alike m table.rows.next (end + length table.rows.counts)

    begins : (b : Bool) → b ≡ false → oldest (cond b table.rows (record table.rows { next = next })) ≤ number → end ≤ number
    begins true e h = absurd (true≢false e)
    begins false e h = omega (arith, h)

is-listed : (plan : Plan) (table : Table) (k first j : ℕ) → slice_get (firsts table) k ≡ Some first → j < entries_per_page plan → is_listed plan table (first + j) ≡ true
is-listed plan table k first j e lt =
    any-at (λ f. nat_le f (first + j) && nat_lt (first + j) (f + entries_per_page plan)) (firsts table) k first e (grind (arith, nat_tests, lt))

pub first-at : (pages : List IndexPage) (k : ℕ) (page : IndexPage) → slice_get pages k ≡ Some page → slice_get (map (λ (p : IndexPage). p.first) pages) k ≡ Some page.first
first-at [] k page e = absurd (none-some page e)
first-at (p ∷ ps) zero page e = let same : p ≡ page = cc in rw same refl
first-at (p ∷ ps) (suc k) page e = first-at ps k page e

-- each of these lists has so many entries
long-at : (n : ℕ) (pages : List IndexPage) (k : ℕ) (page : IndexPage) → AllByRecursion (λ (p : IndexPage). length p.entries ≡ n) pages → slice_get pages k ≡ Some page → length page.entries ≡ n
long-at n [] k page h e = absurd (none-some page e)
long-at n (p ∷ ps) zero page h e = let same : p ≡ page = cc in ap (λ (x : IndexPage). length x.entries) (sym same) ∙ h.0
long-at n (p ∷ ps) (suc k) page h e = long-at n ps k page h.1 e

pub entries-stand : (plan : Plan) (table : Table) (k : ℕ) (page : IndexPage) → IsTable plan table → slice_get table.index_pages k ≡ Some page →
    TellPages plan table page.first page.entries → TellPages plan (renumber plan DataRing table) page.first page.entries
entries-stand plan table k page is at tell = by_rows (list_any (nat_lt 0) table.rows.counts) refl (λ number void le. listed-renumbered plan table number is void le)
  where
    next : ℕ
    next = least_alike (plan.data_blocks * plan.geometry.block) table.rows.next (index_end plan table + length table.rows.counts)

    now : Bool → Table
    now b = record table { rows = cond b table.rows (record table.rows { next = next }) }

    long : length page.entries ≡ entries_per_page plan
    long = long-at (entries_per_page plan) table.index_pages k page is.index_fit at

    by_rows : (b : Bool) → list_any (nat_lt 0) table.rows.counts ≡ b →
        ((number : ℕ) → list_any (nat_lt 0) table.rows.counts ≡ false → oldest (renumber plan DataRing table).rows ≤ number → is_listed plan (renumber plan DataRing table) number ≡ false) →
        TellPages plan (now b) page.first page.entries
    by_rows true e unlisted = tell
    by_rows false e unlisted = λ j n lt number. absurd (wrong j n lt number)
      where
        wrong : (j n : ℕ) → j < length page.entries → page.first + j ≡ next - length table.rows.counts + n → ⊥
        wrong j n lt number =
            let listed = is-listed plan table k page.first j (first-at table.index_pages k page at) (omega (arith, lt, long)) in
            let rows : (renumber plan DataRing table).rows ≡ record table.rows { next = next } = ap (λ b. cond b table.rows (record table.rows { next = next })) e in
            let old : oldest (renumber plan DataRing table).rows ≡ next - length table.rows.counts = ap oldest rows in
            let not_listed = unlisted (page.first + j) e (omega (arith, old, number)) in
            let k : true ≡ false = sym listed ∙ not_listed in
            true≢false k

-- ---- the blobs that they tell

fold-max : (n : ℕ) (xs : List ℕ) → fold max n xs ≡ max n (fold max 0 xs)
fold-max n [] = omega arith
fold-max n (x ∷ xs) =
    let a : fold max (max n x) xs ≡ max (max n x) (fold max 0 xs) = fold-max (max n x) xs in
    let b : fold max (max 0 x) xs ≡ max (max 0 x) (fold max 0 xs) = fold-max (max 0 x) xs in
    omega (arith, a, b)

abbrev blob_page : Entry → ℕ
blob_page entry = if blob_len entry.kept == 0 then 0 else entry.page + 1

pub blobs-append : (xs ys : List Entry) → end_of_blobs (xs ++ ys) ≡ max (end_of_blobs xs) (end_of_blobs ys)
blobs-append xs ys =
    ap (fold max 0) (map-append blob_page xs ys)
    ∙ (fold-append max 0 (map blob_page xs) (map blob_page ys) ∙ fold-max (end_of_blobs xs) (map blob_page ys))

abbrev ends_of : List (ℕ × List Entry) → ℕ
ends_of pages = fold max 0 (map (λ (page : ℕ × List Entry). end_of_blobs page.1) pages)

pages-end : (number : ℕ) (counts : List ℕ) (entries : List Entry) → sum counts ≡ length entries →
    fold max 0 (map (λ (page : ℕ × List Entry). end_of_blobs page.1) (pages_from number counts entries)) ≡ end_of_blobs entries
pages-end number [] [] all = refl
pages-end number [] (e ∷ es) all = absurd (omega (arith, all))
pages-end number (c ∷ cs) entries all =
    by_count (c == 0) refl (λ rest. pages-end (number + 1) cs entries rest) (λ rest. pages-end (number + 1) cs (drop c entries) rest)
  where
    total : c + sum cs ≡ length entries
    total = let k = sum_by-cons (λ (n : ℕ). n) c cs in omega (arith, k, all)

    by_count : (b : Bool) → (c == 0) ≡ b →
        (sum cs ≡ length entries → ends_of (pages_from (number + 1) cs entries) ≡ end_of_blobs entries) →
        (sum cs ≡ length (drop c entries) → ends_of (pages_from (number + 1) cs (drop c entries)) ≡ end_of_blobs (drop c entries)) →
        ends_of (cond b (pages_from (number + 1) cs entries) ((number, take c entries) ∷ pages_from (number + 1) cs (drop c entries))) ≡ end_of_blobs entries
    by_count true e void rows = void (let none : c ≡ 0 = grind (arith, e) in omega (arith, total, none))
    by_count false e void rows =
        let later = rows (let k = length-drop c entries in omega (arith, total, k)) in
        let first = fold-max (max 0 (end_of_blobs (take c entries))) (map (λ (page : ℕ × List Entry). end_of_blobs page.1) (pages_from (number + 1) cs (drop c entries))) in
        let joined : end_of_blobs entries ≡ max (end_of_blobs (take c entries)) (end_of_blobs (drop c entries)) = ap end_of_blobs (sym (take-append-drop c entries)) ∙ blobs-append (take c entries) (drop c entries) in
        omega (arith, first, later, joined)

pub pages-tell : (table : Table) → sum table.rows.counts ≡ length table.entries →
    fold max 0 (map (λ (page : ℕ × List Entry). end_of_blobs page.1) (pages_of table)) ≡ blob_end table
pages-tell table all = pages-end (oldest table.rows) table.rows.counts table.entries all

-- ---- how many pages a mount reads

-- a ring keeps no more pages than it has
kept-short : (shape : Shape) (ring : Ring) → IsShape shape → IsRing shape ring → length ring.counts ≤ shape.blocks * shape.pages
kept-short shape ring is h =
    let below : ring.next % shape.pages < shape.pages = mod_below ring.next shape.pages (omega (arith, is.pages)) in
    let all : shape.blocks * shape.pages ≡ (shape.blocks - 1) * shape.pages + shape.pages =
    ap (λ n. n * shape.pages) (let e : shape.blocks ≡ (shape.blocks - 1) + 1 = omega (arith, is.blocks) in e) ∙ (add-mul (shape.blocks - 1) 1 shape.pages ∙ omega arith) in
    omega (arith, h.kept, below, all)

-- its blocks, and the pages of one, are few beside its pages
shape-few : (shape : Shape) → IsShape shape → (2 * shape.blocks ≤ shape.blocks * shape.pages) × (3 * shape.pages ≤ shape.blocks * shape.pages) × (6 ≤ shape.blocks * shape.pages)
shape-few shape is =
    let pages : shape.blocks * 2 ≤ shape.blocks * shape.pages = mul-le-mul_left shape.blocks is.pages in
    let blocks : 3 * shape.pages ≤ shape.blocks * shape.pages = mul-le-mul_right shape.pages is.blocks in
    (omega (arith, pages), blocks, omega (arith, blocks, is.pages))

voids-within : (n : ℕ) (xs : List ℕ) → fold (λ k count. if count == 0 then k + 1 else 0) n xs ≤ n + length xs
voids-within n [] = omega arith
voids-within n (x ∷ xs) = by_count (x == 0) (voids-within (n + 1) xs) (voids-within 0 xs)
  where
    by_count : (b : Bool) → fold (λ k count. if count == 0 then k + 1 else 0) (n + 1) xs ≤ n + 1 + length xs → fold (λ k count. if count == 0 then k + 1 else 0) 0 xs ≤ 0 + length xs →
        fold (λ k count. if count == 0 then k + 1 else 0) (cond b (n + 1) 0) xs ≤ n + suc (length xs)
    by_count true void rows = omega (arith, void)
    by_count false void rows = omega (arith, rows)

voids-short : (counts : List ℕ) → voids_at_end counts ≤ length counts
voids-short counts = let k = voids-within 0 counts in omega (arith, k)

ring-mounts : (shape : Shape) (ring : Ring) → IsShape shape → IsRing shape ring → ring_mount_limit shape ring + 2 ≤ 3 * (shape.blocks * shape.pages)
ring-mounts shape ring is h =
    let few = shape-few shape is in
    let kept = kept-short shape ring is h in
    let voids = voids-short ring.counts in
    omega (arith, few.0, few.1, few.2, kept, voids)

part-mounts : (shape : Shape) (before after : Option Ring) (has : Bool) → is_some_ring before ≡ has → is_some_ring after ≡ has → (IsTrue has → IsShape shape) → IfSome before (IsRing shape) → IfSome after (IsRing shape) →
    part_mount_limit shape before + kept_in after ≤ 4 * (shape.blocks * shape.pages)
part-mounts shape None None has b a is h k = omega arith
part-mounts shape None (Some after) has b a is h k = absurd (false≢true (b ∙ sym a))
part-mounts shape (Some before) None has b a is h k = absurd (true≢false (b ∙ sym a))
part-mounts shape (Some before) (Some after) has b a is h k =
    let there : IsTrue has = sym b in
    let reads = ring-mounts shape before (is there) h in
    let kept = kept-short shape after (is there) k in
    omega (arith, reads, kept)

log-mounts : (shape : Shape) (ring : Option Ring) (has : Bool) → is_some_ring ring ≡ has → (IsTrue has → IsShape shape) → IfSome ring (IsRing shape) →
    log_mount_limit shape ring ≤ 4 * (shape.blocks * shape.pages)
log-mounts shape None has e is h = omega arith
log-mounts shape (Some ring) has e is h = let reads = ring-mounts shape ring (is (sym e)) h in omega (arith, reads)

pub mounts-short : (plan : Plan) (before after : Table) → IsTable plan before → IsTable plan after →
    IsShape (shape_of plan DataRing) → (IsTrue (has_index plan) → IsShape (shape_of plan IndexRing)) → (IsTrue (has_var plan) → IsShape (shape_of plan VarRing)) →
    (IsTrue (has_log plan) → IsShape (shape_of plan LogRing)) → full_mount_limit plan before after ≤ 4 * (blocks_of plan * plan.geometry.block)
mounts-short plan before after b a main index var log =
    let rows = ring-mounts (shape_of plan DataRing) before.rows main b.rows in
    let kept = kept-short (shape_of plan DataRing) after.rows main a.rows in
    let unlisted = count_by-le-length (λ number. not (is_listed plan after number)) (numbers_of after) in
    let all = numbers-length (oldest after.rows) (length after.rows.counts) in
    let listed = part-mounts (shape_of plan IndexRing) before.index after.index (has_index plan) b.has_rings.0 a.has_rings.0 index b.index a.index in
    let blobs = part-mounts (shape_of plan VarRing) before.var after.var (has_var plan) b.has_rings.1 a.has_rings.1 var b.var a.var in
    let logs = log-mounts (shape_of plan LogRing) before.log (has_log plan) b.has_rings.2 log b.log in
    let last = add-mul (plan.data_blocks + plan.index_blocks + plan.var_blocks) plan.log_blocks plan.geometry.block in
    let first = add-mul (plan.data_blocks + plan.index_blocks) plan.var_blocks plan.geometry.block in
    let second = add-mul plan.data_blocks plan.index_blocks plan.geometry.block in
    omega (arith, rows, kept, unlisted, all, listed, blobs, logs, last, first, second)
