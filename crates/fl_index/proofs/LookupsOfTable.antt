-- A lookup in an index that stands for that of a table.
use Rattle.std.proofs.Common.{◌≡◌, ◌⊎◌, inl, inr, ℕ, suc, ◌+◌, ◌-◌, ◌*◌, ◌/◌, ◌%◌, ◌^◌, ◌<◌, ◌≤◌, Bool, true, false, cond, ◌&&◌, ◌||◌, ◌==◌, nat_le, nat_lt, Option, Some, None, IfSome, IsTrue, Result, Ok, Err, List, [], ◌∷◌, ◌++◌, length, take, drop, replicate, refl, sym, ◌∙◌, ap, subst, arith, length-append, append_assoc}
use Rattle.std.proofs.lemmas.Bool.{cases_lt, ltb-true, leb-true, lt-ltb, le-leb, and_from, and_parts}
use Rattle.std.proofs.lemmas.List.{take_at}
use Rattle.std.proofs.Math.Nat.{add-mul, div-le_self}
use Rattle.std.specs.List.{slice_get, list_any, flat_map}
use Rattle.std.specs.Option.{option_map, unwrap_or}
use Rattle.std.proofs.lemmas.Option.{same_Some}
use Rattle.std.proofs.Math.Bool.{or-true}
use Rattle.fl_base.proofs.Tests.{not_zero, zero_case}
use Rattle.fl_flash.specs.Flash.{FlashState, page_at}
use Rattle.fl_mark.specs.Mark.{state_of_page}
use Rattle.fl_mark.specs.declared.page_state.PageState.TheVariants.{Committed}
use Rattle.fl_model.specs.Record.{Plan, entry_len, entries_per_page}
use Rattle.fl_model.specs.Ring as model
use Rattle.fl_model.specs.Table.{Table, Entry, full_pages, firsts}
use Rattle.fl_model.specs.Layout.{IndexEntry, index_body, committed, full_of, IndexPage}
use Rattle.fl_model.specs.Limits.{is_indexed, is_listed, waits}
use Rattle.fl_model.specs.Image.{rows_at}
use Rattle.fl_model.specs.Agrees.{TellsAt, is_told}
use Rattle.fl_model.proofs.Lists.{slice_get-some, slice_get-short, each-at, any-at}
use Rattle.fl_page.specs.declared.fault.ReadFault.{ReadFault}
use Rattle.fl_page.specs.declared.fault.ReadFault.TheVariants.{Flash, BadPage}
use Rattle.fl_ring.specs.Place as place
use Rattle.fl_ring.specs.Ring.{Shape}
use Rattle.fl_ring.specs.Ring.{place as place_at}
use Rattle.fl_ring.specs.declared.ring.Ring.{Ring}
use Rattle.fl_ring.proofs.Found.{committed_state}
use Rattle.fl_ring.proofs.Images.{committed_is}
use Rattle.fl_schema.proofs.Numbers.{number_of-le}
use Rattle.fl_index.specs.declared.index.BitmapIndex.{BitmapIndex}
use Rattle.fl_index.specs.Looking.{entry_of, entire, IsFound, ShowsEntry, TellsRows}
use Rattle.fl_index.specs.Memory.{first_in, first_waiting, waiting_in, found_waiting, is_waiting, form_in, per_page, next_in, oldest_in, lists, listing_in, place_in}
use Rattle.fl_index.specs.Page.{page_first, form_len, bytes_of, bitmap_at, full_at, found_at, fields_of, IsGoodPage}
use Rattle.fl_index.specs.declared.page.Found.{Found}
use Rattle.fl_index.specs.declared.page.Full as code
use Rattle.fl_index.specs.declared.page.EntryForm.{EntryForm}
use Rattle.fl_bitmap.specs.Widths.{is_bits}
use Rattle.fl_index.specs.Standing.{StandsForRing, Stands, bytes_in}
use Rattle.fl_model.proofs.FullPages.{full-page}
use Rattle.fl_model.proofs.FullIndex.{first-at}
use Rattle.fl_index.proofs.WaitingEntries.{InFront, plan_form, length-entry, read-at, full-at, bitmap-small}
use Rattle.fl_index.proofs.Lists.{below-end, firsts-length}
use Rattle.fl_index.proofs.ListingPages.{listing-is, listing-no}
use Rattle.fl_index.proofs.SealEnds.{planned-page, planned-form, planned-bits, planned-ring, planned-shape}

-- ---- the bytes of an index page

-- the entries stand behind its header
front-entries : (plan : Plan) (number first : ℕ) (entries : List IndexEntry) → InFront (plan_form plan) (drop 16 (committed (index_body plan number first entries))) entries
front-entries plan number first entries = behind (flat_map (bytes_of (plan_form plan)) entries) _ (length entries * entry_len plan) (flat-length (plan_form plan) entries)
  where
    flat-length : (form : EntryForm) (xs : List IndexEntry) → length (flat_map (bytes_of form) xs) ≡ length xs * form_len form
    flat-length form [] = omega arith
    flat-length form (x ∷ xs) = let k = flat-length form xs in omega (arith, length-append (bytes_of form x) (flat_map (bytes_of form) xs), length-entry form x, k, add-mul 1 (length xs) (form_len form))

    behind : (flat rep : List ℕ) (n : ℕ) → length flat ≡ n → take n (((flat ++ rep) ++ replicate 4 0) ++ replicate 4 255) ≡ flat
    behind flat rep n h =
        ap (take n) (append_assoc (flat ++ rep) (replicate 4 0) (replicate 4 255) ∙ append_assoc flat rep (replicate 4 0 ++ replicate 4 255))
        ∙ take_at flat (rep ++ (replicate 4 0 ++ replicate 4 255)) n h

page-committed : (body : List ℕ) → state_of_page (committed body) ≡ Committed
page-committed body = ap state_of_page (committed_is body) ∙ committed_state body

-- an entry that is read at a place
pub record IsAt (form : EntryForm) (page : List ℕ) (j : ℕ) (b : IndexEntry) : Type 0 where
  pub bitmap : bitmap_at form page j ≡ b.bitmap % 256 ^ form.width
  pub full : form.full ≡ true → full_at form page j ≡ fields_of b.full

is-at : (form : EntryForm) (page : List ℕ) (entries : List IndexEntry) (j : ℕ) (b : IndexEntry) → InFront form (drop 16 page) entries → slice_get entries j ≡ Some b → IsAt form page j b
is-at form page entries j b h e = record { bitmap = read-at form page entries j b h e; full = λ full. full-at form page entries j b h e full }

-- a kept index page is good, and its entries are read
pub record IsIndexPage (plan : Plan) (number first : ℕ) (entries : List IndexEntry) (page : List ℕ) : Type 0 where
  pub committed_is : state_of_page page ≡ Committed
  pub good : IsGoodPage (entries_per_page plan) number page
  pub first_is : page_first page ≡ first
  pub at : (j : ℕ) (b : IndexEntry) → slice_get entries j ≡ Some b → IsAt (plan_form plan) page j b

pub index-page : (plan : Plan) (number first : ℕ) (entries : List IndexEntry) (page : List ℕ) → number < 2 ^ 32 → first < 2 ^ 32 → length entries ≡ entries_per_page plan → entries_per_page plan < 2 ^ 16 →
    page ≡ committed (index_body plan number first entries) → IsIndexPage plan number first entries page
index-page plan number first entries page small small_first len few is =
    subst (λ (p : List ℕ). IsIndexPage plan number first entries p) (sym is) (record {
      committed_is = page-committed (index_body plan number first entries);
      good = record {
        number_is = number_of-le 4 number small;
        full = number_of-le 2 (length entries) (omega (arith, len, few)) ∙ len;
      };
      first_is = number_of-le 4 first small_first;
      at = λ j b e. is-at (plan_form plan) (committed (index_body plan number first entries)) entries j b (front-entries plan number first entries) e;
    })

-- an entry that tells of a page with rows has its bitmap
pub told-some : (plan : Plan) (rows : ℕ) → 0 < rows → IsTrue (is_told plan rows)
told-some plan rows some = ap (λ b. plan.full_index || b) (lt-ltb 0 rows some) ∙ or-true plan.full_index

pub told-found : (plan : Plan) (rows : List Entry) (entries : List IndexEntry) (j : ℕ) (page : List ℕ) (k : ℕ) → ((b : IndexEntry) → slice_get entries j ≡ Some b → IsAt (plan_form plan) page k b) →
    TellsAt plan rows (slice_get entries j) → IsTrue (is_bits plan.bits) → TellsRows plan rows (found_at (plan_form plan) page k)
told-found plan rows entries j page k at tells bits = by_entry (slice_get entries j) refl tells
  where
    by_full : (b : IndexEntry) (t : Bool) → plan.full_index ≡ t → IsAt (plan_form plan) page k b → (plan.full_index ≡ true → b.full ≡ full_of rows) →
        ◌≡◌ {A = Option code.Full} (cond t (Some (full_at (plan_form plan) page k)) None) (cond t (Some (fields_of (full_of rows))) None)
    by_full b true e is full = ap (λ (f : code.Full). Some f) (is.full e ∙ ap fields_of (full e))
    by_full b false e is full = refl

    by_entry : (o : Option IndexEntry) → slice_get entries j ≡ o → TellsAt plan rows o → TellsRows plan rows (found_at (plan_form plan) page k)
    by_entry None e h = absurd h
    by_entry (Some b) e h =
        let is = at b e in
        record {
          bitmap = is.bitmap ∙ (ap (λ n. n % 256 ^ (plan.bits / 8)) h.bitmap ∙ bitmap-small plan rows bits);
          full = by_full b plan.full_index refl is h.full;
        }

-- ---- where the firsts of the table are found

any-none : (p : ℕ → Bool) (xs : List ℕ) → ((k x : ℕ) → slice_get xs k ≡ Some x → p x ≡ false) → list_any p xs ≡ false
any-none p [] h = refl
any-none p (x ∷ xs) h = ap (λ b. b || list_any p xs) (h 0 x refl) ∙ any-none p xs (λ k y e. h (suc k) y e)

module _ (t : BitmapIndex) (f : FlashState) (first : ℕ) (plan : Plan) (table : Table) (stands : Stands t f first plan table) where
  abbrev in_ring : StandsForRing t f first plan table
  in_ring = stands.in_ring

  abbrev ring : model.Ring
  ring = stands.in_ring.ring

  pub X_is : per_page t ≡ entries_per_page plan
  X_is = planned-page t first plan stands.in_ring.planned

  pub some_index : nat_lt 0 plan.index_blocks ≡ true
  some_index = lt-ltb 0 plan.index_blocks (let k = planned-shape t first plan stands.in_ring.planned in omega (arith, k.blocks))

  pub number_next : next_in t ≡ ring.next
  number_next = ap (λ (o : Option Ring). unwrap_or (option_map (λ r. place.next_of r) o) 0) stands.in_ring.memory_is ∙ stands.in_ring.next

  pub number_old : oldest_in t ≡ model.oldest ring
  number_old = ap (λ (o : Option Ring). unwrap_or (option_map (λ r. place.oldest_of r) o) 0) stands.in_ring.memory_is ∙ stands.in_ring.oldest_is

  pub kept_len : next_in t - oldest_in t ≡ length ring.counts
  kept_len = omega (arith, number_next, number_old, stands.in_ring.facts.is_ring.not_negative)

  pub firsts_from : first_waiting t + waiting_in t ≡ table.rows.next
  firsts_from = omega (arith, stands.waits.first_is, stands.waits.count_is, stands.in_ring.facts.listed)

  -- the kept index page with a number, and what is remembered of it
  pub record KeptPage (number : ℕ) : Type 0 where
    pub i : ℕ
    pub c : ℕ
    pub at : number ≡ model.oldest ring + i
    pub here : slice_get ring.counts i ≡ Some c
    pub memory : first_in t number ≡ cond (c == 0) None (slice_get (firsts table) (full_pages (take i ring.counts)))

  pub kept-page : (number : ℕ) → oldest_in t ≤ number → number < next_in t → KeptPage number
  kept-page number low high =
      let i = number - oldest_in t in
      let c = slice_get-some ring.counts i (omega (arith, kept_len, low, high)) in
      let at : number ≡ model.oldest ring + i = omega (arith, number_old, low) in
      record { i = i; c = c.0; at = at; here = c.1; memory = ap (first_in t) at ∙ stands.in_ring.first_of i c.0 c.1 }

  -- it lists some data page only where it isn't void
  pub record ListingPage (number page : ℕ) : Type 0 where
    pub kept : KeptPage page
    pub first_page : ℕ
    pub memory : first_in t page ≡ Some first_page
    pub listed : slice_get (firsts table) (full_pages (take kept.i ring.counts)) ≡ Some first_page
    pub some : 0 < kept.c
    pub low : first_page ≤ number
    pub high : number < first_page + entries_per_page plan

  pub listing-page : (number page : ℕ) → oldest_in t ≤ page → page < next_in t → lists (per_page t) number (first_in t page) ≡ true → ListingPage number page
  listing-page number page low high h =
      let k = kept-page page low high in
      by_count k (cases_lt 0 k.c)
    where
      no_page : lists (per_page t) number None ≡ true → ⊥
      no_page e = cc

      by_first : (k : KeptPage page) → 0 < k.c → (x : Option ℕ) → slice_get (firsts table) (full_pages (take k.i ring.counts)) ≡ x → first_in t page ≡ x → ListingPage number page
      by_first k some None e m = absurd (no_page (ap (lists (per_page t) number) (sym m) ∙ h))
      by_first k some (Some p) e m =
          let b = and_parts (nat_le p number) (nat_lt number (p + per_page t)) (ap (lists (per_page t) number) (sym m) ∙ h) in
          record { kept = k; first_page = p; memory = m; listed = e; some = some; low = leb-true p number b.0; high = omega (arith, ltb-true number (p + per_page t) b.1, X_is) }

      by_count : (k : KeptPage page) → (0 < k.c) ⊎ (k.c ≤ 0) → ListingPage number page
      by_count k (inl some) =
          by_first k some (slice_get (firsts table) (full_pages (take k.i ring.counts))) refl
          (k.memory ∙ ap (λ b. cond b None (slice_get (firsts table) (full_pages (take k.i ring.counts)))) (not_zero k.c some))
      by_count k (inr none) =
          let z : k.c ≡ 0 = omega (arith, none) in
          absurd (no_page (ap (lists (per_page t) number) (sym (k.memory ∙ ap (λ c. cond (c == 0) None (slice_get (firsts table) (full_pages (take k.i ring.counts)))) z)) ∙ h))

  -- an entry waits in memory where it does in the model
  waits-is : (number : ℕ) → is_waiting t number ≡ waits table number
  waits-is number = ap (λ a. nat_le a number && nat_lt number (first_waiting t + waiting_in t)) stands.waits.first_is ∙ ap (λ b. nat_le (table.rows.next - length table.waiting) number && nat_lt number b) firsts_from

  -- a data page that the index lists, or whose bitmap waits, is indexed
  pub listed-indexed : (number page : ℕ) → ListingPage number page → is_indexed plan table number ≡ true
  listed-indexed number page l =
      and_from (nat_lt 0 plan.index_blocks) _ some_index
      (ap (λ b. waits table number || b) (any-at (λ first. nat_le first number && nat_lt number (first + entries_per_page plan)) (firsts table) _ l.first_page l.listed
      (and_from _ _ (le-leb l.first_page number l.low) (lt-ltb number (l.first_page + entries_per_page plan) l.high))) ∙ or-true (waits table number))

  pub waits-indexed : (number : ℕ) → is_waiting t number ≡ true → is_indexed plan table number ≡ true
  waits-indexed number h =
      and_from (nat_lt 0 plan.index_blocks) _ some_index
      (ap (λ (x : Bool). x || is_listed plan table number) (sym (waits-is number) ∙ h))

  -- the entry of a page that waits
  pub waits-shows : (number : ℕ) (entry : Found) → is_waiting t number ≡ true → entry ≡ found_waiting t (number - first_waiting t) → ShowsEntry plan table number (Ok (Some entry))
  waits-shows number entry h is = (sym (waits-indexed number h), λ n rows e c told. right n rows e c told)
    where
      right : (n rows : ℕ) → number ≡ model.oldest table.rows + n → slice_get table.rows.counts n ≡ Some rows → IsTrue (is_told plan rows) → TellsRows plan (rows_at table n rows) entry
      right n rows e c told =
          let b = and_parts (nat_le (first_waiting t) number) (nat_lt number (first_waiting t + waiting_in t)) h in
          let low = leb-true (first_waiting t) number b.0 in
          let high = ltb-true number (first_waiting t + waiting_in t) b.1 in
          let j = number - first_waiting t in
          let each = subst (λ (o : Option ℕ). IfSome o (λ rows. IsTrue (is_told plan rows) → TellsAt plan (rows_at table n rows) (slice_get table.waiting (number - first_waiting t)))) c
          (stands.in_ring.facts.wait j n (omega (arith, low, high, stands.waits.count_is)) (omega (arith, low, e, stands.waits.first_is))) told in
          let form : form_in t ≡ plan_form plan = planned-form t first plan stands.in_ring.planned in
          subst (TellsRows plan (rows_at table n rows)) (sym (is ∙ ap (λ (f : EntryForm). found_at f t.body.items (number - first_waiting t)) form))
          (told-found plan (rows_at table n rows) table.waiting j t.body.items j
          (λ b at. subst (λ (f : EntryForm). IsAt f t.body.items j b) form (is-at (form_in t) t.body.items table.waiting j b stands.waits.gathered at))
          each (planned-bits t first plan stands.in_ring.planned))

  -- a page that neither waits nor is listed
  pub none-shows : (number : ℕ) → is_waiting t number ≡ false → listing_in t number ≡ None → ShowsEntry plan table number (Ok None)
  none-shows number h none = (sym (both_false (nat_lt 0 plan.index_blocks) (sym (waits-is number) ∙ h) not_listed), λ n rows e c some. tt)
    where
      both_false : (a : Bool) {b c : Bool} → b ≡ false → c ≡ false → (a && (b || c)) ≡ false
      both_false true {b} {c} x y = ap (λ z. z || c) x ∙ y
      both_false false x y = refl

      not_listed : is_listed plan table number ≡ false
      not_listed = any-none (λ first. nat_le first number && nat_lt number (first + entries_per_page plan)) (firsts table) (λ k x e. one k x e)
        where
          one : (k x : ℕ) → slice_get (firsts table) k ≡ Some x → (nat_le x number && nat_lt number (x + entries_per_page plan)) ≡ false
          one k x e =
              let p = full-page ring.counts k (omega (arith, slice_get-short (firsts table) k x e, firsts-length table.index_pages, stands.in_ring.facts.index_each)) in
              let lt_i = slice_get-short ring.counts p.i p.c p.here in
              let memory : first_in t (model.oldest ring + p.i) ≡ Some x =
              stands.in_ring.first_of p.i p.c p.here ∙ (zero_case p.c p.some (slice_get (firsts table) (full_pages (take p.i ring.counts))) ∙ (ap (slice_get (firsts table)) p.before ∙ e)) in
              let no = listing-no (per_page t) (first_in t) number (next_in t - oldest_in t) (oldest_in t) (model.oldest ring + p.i) none (omega (arith, number_old)) (omega (arith, number_old, kept_len, lt_i)) in
              ap (λ n. nat_le x number && nat_lt number (x + n)) (sym X_is) ∙ (ap (lists (per_page t) number) (sym memory) ∙ no)

  -- the page that lists a data page holds its bitmap
  pub record PageIs (number page : ℕ) (bytes : List ℕ) : Type 0 where
    pub l : ListingPage number page
    pub entries : List IndexEntry
    pub is : IsIndexPage plan page l.first_page entries bytes
    pub each : (n rows : ℕ) → number ≡ model.oldest table.rows + n → slice_get table.rows.counts n ≡ Some rows → IsTrue (is_told plan rows) → TellsAt plan (rows_at table n rows) (slice_get entries (number - l.first_page))

  pub page-is : (number page : ℕ) → listing_in t number ≡ Some page → (bytes : List ℕ) → bytes ≡ page_at f (place_in t page) → PageIs number page bytes
  page-is number page h bytes is =
      let at = listing-is (per_page t) (first_in t) number (next_in t - oldest_in t) (oldest_in t) page h in
      let l = listing-page number page at.low (omega (arith, at.high)) at.here in
      let held = stands.in_ring.pages.kept l.kept.i l.kept.c l.kept.here l.some in
      let k = full_pages (take l.kept.i ring.counts) in
      let same : held.holds.first ≡ l.first_page = same_Some _ _ (sym (first-at table.index_pages k held.holds held.is) ∙ l.listed) in
      let many = each-at (λ (p : IndexPage). length p.entries ≡ entries_per_page plan) table.index_pages k held.holds stands.in_ring.facts.index_fit held.is in
      let place_is : bytes ≡ bytes_in (page_at f) first plan (model.oldest ring + l.kept.i) =
      is ∙ (ap (λ (r : Shape). page_at f (place_at r page)) (planned-ring t first plan stands.in_ring.planned) ∙ ap (bytes_in (page_at f) first plan) l.kept.at) in
      let short = slice_get-short ring.counts l.kept.i l.kept.c l.kept.here in
      record {
        l = l;
        entries = held.holds.entries;
        is = index-page plan page l.first_page held.holds.entries bytes (omega (arith, l.kept.at, short, stands.in_ring.facts.is_ring.not_negative, number_small)) (omega (arith, first_small l.first_page _ l.listed)) many (few_entries)
            (place_is ∙ (held.bytes ∙ (ap (λ n. committed (index_body plan n held.holds.first held.holds.entries)) (sym l.kept.at) ∙ ap (λ n. committed (index_body plan page n held.holds.entries)) same)));
        each = λ n rows e c some.
            subst (λ (o : Option ℕ). IfSome o (λ rows. IsTrue (is_told plan rows) → TellsAt plan (rows_at table n rows) (slice_get held.holds.entries (number - l.first_page)))) c
            (stands.in_ring.facts.tell k held.holds held.is (number - l.first_page) n (omega (arith, l.low, l.high, many)) (omega (arith, same, l.low, e))) some;
      }
    where
      number_small : ring.next < 2 ^ 32
      number_small = omega (arith, stands.in_ring.facts.number)

      first_small : (x k : ℕ) → slice_get (firsts table) k ≡ Some x → x + entries_per_page plan < 2 ^ 32
      first_small x k e = omega (arith, below-end (entries_per_page plan) (firsts table) k x stands.in_ring.facts.firsts e, stands.in_ring.facts.listed, stands.in_ring.facts.rows_number)

      few_entries : entries_per_page plan < 2 ^ 16
      few_entries =
          let p = stands.in_ring.planned in
          let size = ap (λ g. g.page) p.geometry in
          omega (arith, div-le_self (plan.geometry.page - 24) (entry_len plan), size, t.served.page_greatest)

  -- what the page says is right
  pub found-shows : (number page : ℕ) (bytes : List ℕ) (result : Result (Option Found) ReadFault) → PageIs number page bytes → IsFound entire t page number bytes result → ShowsEntry plan table number result
  found-shows number page bytes (Ok None) p found = absurd (found p.is.committed_is)
  found-shows number page bytes (Ok (Some entry)) p found = (
    sym (listed-indexed number page p.l),
    λ n rows e c told.
        subst (TellsRows plan (rows_at table n rows)) (sym (found.2
        ∙ (ap (λ (form : EntryForm). found_at form bytes (entry_of t page number)) (planned-form t first plan stands.in_ring.planned)
        ∙ ap (λ (o : Option ℕ). found_at (plan_form plan) bytes (number - unwrap_or o 0)) p.l.memory)))
        (told-found plan (rows_at table n rows) p.entries (number - p.l.first_page) bytes (number - p.l.first_page) (p.is.at (number - p.l.first_page)) (p.each n rows e c told) (planned-bits t first plan stands.in_ring.planned)),
  )
  found-shows number page bytes (Err (Flash fault)) p found = tt
  found-shows number page bytes (Err (BadPage bad)) p found = absurd (found.1 (subst (λ n. IsGoodPage n page bytes) (sym X_is) p.is.good))
