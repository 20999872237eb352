-- Blobs stand where a record joins with its blob, and where a table is lost.
use Rattle.std.proofs.Common.{◌≡◌, ℕ, ◌+◌, ◌-◌, ◌*◌, ◌/◌, ◌%◌, ◌<◌, ◌≤◌, ◌⊎◌, inl, inr, Bool, true, false, cond, ◌||◌, ◌==◌, min, Option, Some, None, IfSome, option_map, unwrap_or, List, [], ◌++◌, length, take, drop, replicate, refl, sym, ◌∙◌, ap, subst, arith, length-append, length-drop, length-take, if◌then◌else◌}
use Rattle.std.specs.List.{slice_get, sum}
use Rattle.std.proofs.lemmas.Bool.{cases_lt, lt-ltb, le-ltb, eq-eqb, ne_eqb, eqb-true, true≢false, false≢true}
use Rattle.std.proofs.lemmas.List.{drop-append-le}
use Rattle.std.proofs.lemmas.Nat.{le-div}
use Rattle.std.proofs.Math.Nat.{add-mul, mul-le-mul_right, mod-lt, mod-add-div', div-mul-le_self}
use Rattle.std.proofs.lemmas.Option.{same_Some}
use Rattle.std.proofs.Math.Seq.{drop-length}
use Rattle.fl_model.specs.Record.{Record, Plan, content_per_page}
use Rattle.fl_model.specs.Content.{ContentPage, content_page}
use Rattle.fl_model.specs.Ring.{Ring, oldest, given_up}
use Rattle.fl_model.specs.Table.{Table, Entry, DataRing, shape_of, seal_page, full_pages, blob_len, fill, with_record, start_page, start_offset, lose}
use Rattle.fl_model.specs.Query.{page_stands}
use Rattle.fl_model.specs.Agrees.{content_at, reach_of, HoldsBlob, BlobsOf}
use Rattle.fl_model.specs.Facts.{IsTable}
use Rattle.fl_model.proofs.Lists.{slice_get-drop, slice_get-take, slice_get-left, slice_get-push, slice_get-short, slice_get-front}
use Rattle.fl_model.proofs.StandingPages.{stands-not}

-- the content of a page by whether its number is before the next one
abbrev content_by : Plan → Table → Ring → ℕ → Bool → Option ContentPage
content_by plan table ring number before =
    if before
    then (if page_stands ring number then slice_get table.var_pages (full_pages (take (number - oldest ring) ring.counts)) else None)
    else Some (content_page plan (take (content_per_page plan) (drop ((number - ring.next) * content_per_page plan) table.buffered)))

-- a byte of the page that waits from a place on
wait-byte : (plan : Plan) (d i : ℕ) (bytes : List ℕ) → i < content_per_page plan → d + i < length bytes →
    slice_get (content_page plan (take (content_per_page plan) (drop d bytes))).bytes i ≡ slice_get bytes (d + i)
wait-byte plan d i bytes room within =
    let R = content_per_page plan in
    let a = length-take R (drop d bytes) in
    let b = length-drop d bytes in
    slice_get-left (take R (drop d bytes)) (replicate (R - length (take R (drop d bytes))) 255) i (omega (arith, a, b, room, within))
    ∙ (slice_get-take R (drop d bytes) i room ∙ slice_get-drop d bytes i)

module _ (plan : Plan) (item : Record) (table : Table) (ring : Ring) (some_room : 0 < content_per_page plan) (few : fill table ≤ content_per_page plan) (is : table.var ≡ Some ring) where
  abbrev R : ℕ
  R = content_per_page plan

  abbrev more : List ℕ
  more = unwrap_or item.blob []

  abbrev after : Table
  after = with_record plan item table

  long : length after.buffered ≡ length table.buffered + length more
  long = length-append table.buffered more

  -- a page has what it had, and perhaps more
  record Grown (number : ℕ) (page : ContentPage) : Type 0 where
    now : ContentPage
    is_now : content_at plan after ring number ≡ Some now
    more_used : page.used ≤ now.used
    full : page.used ≡ R → now.used ≡ R
    same : (i : ℕ) → i < page.used → i < R → slice_get now.bytes i ≡ slice_get page.bytes i

  grown : (number : ℕ) (page : ContentPage) → content_at plan table ring number ≡ Some page → Grown number page
  grown number page e = elim (cases_lt number ring.next) [
    | inl lt ↦ record {
      now = page;
      is_now = ap (content_by plan after ring number) (lt-ltb number ring.next lt) ∙ (sym (ap (content_by plan table ring number) (lt-ltb number ring.next lt)) ∙ e);
      more_used = omega arith;
      full = λ f. f;
      same = λ i a b. refl;
    }
    | inr ge ↦ by_waiting ge (same_Some old page (sym (ap (content_by plan table ring number) (le-ltb number ring.next ge)) ∙ e))
  ]
    where
      d : ℕ
      d = (number - ring.next) * R

      old : ContentPage
      old = content_page plan (take R (drop d table.buffered))

      new : ContentPage
      new = content_page plan (take R (drop d after.buffered))

      by_waiting : ring.next ≤ number → old ≡ page → Grown number page
      by_waiting ge e =
          let a = length-take R (drop d table.buffered) in
          let b = length-drop d table.buffered in
          let a' = length-take R (drop d after.buffered) in
          let b' = length-drop d after.buffered in
          subst (Grown number) e (record {
            now = new;
            is_now = ap (content_by plan after ring number) (le-ltb number ring.next ge);
            more_used = omega (arith, a, b, a', b', long);
            full = λ f. omega (arith, a, b, a', b', long, f);
            same = λ i used room.
                let within : d + i < length table.buffered = omega (arith, a, b, used) in
                wait-byte plan d i after.buffered room (omega (arith, within, long)) ∙ (slice_get-left table.buffered more (d + i) within ∙ sym (wait-byte plan d i table.buffered room within));
          })

  -- a blob that stood stands
  holds-grown : (entry : Entry) (bytes : List ℕ) → HoldsBlob plan table ring entry bytes → HoldsBlob plan after ring entry bytes
  holds-grown entry bytes held = record {
    pages = pages;
    there = λ j le. there j le;
    within = let g = at 0 (omega arith) in omega (arith, held.within, g.more_used, used_is 0 (omega arith));
    full = λ j lt. used_is j (omega (arith, lt)) ∙ (at j (omega (arith, lt))).full (held.full j lt);
    ends = let g = at reach (omega arith) in omega (arith, held.ends, g.more_used, used_is reach (omega arith));
    stored = λ j byte e. stored j byte e;
  }
    where
      reach : ℕ
      reach = reach_of plan entry bytes

      at : (j : ℕ) → j ≤ reach → Grown (entry.page + j) (held.pages j)
      at j le = grown (entry.page + j) (held.pages j) (held.there j le)

      pages : ℕ → ContentPage
      pages j = unwrap_or (content_at plan after ring (entry.page + j)) (held.pages j)

      page_is : (j : ℕ) (le : j ≤ reach) → pages j ≡ (at j le).now
      page_is j le = ap (λ (o : Option ContentPage). unwrap_or o (held.pages j)) (at j le).is_now

      there : (j : ℕ) → j ≤ reach → content_at plan after ring (entry.page + j) ≡ Some (pages j)
      there j le = (at j le).is_now ∙ ap (λ (p : ContentPage). Some p) (sym (page_is j le))

      used_is : (j : ℕ) (le : j ≤ reach) → (pages j).used ≡ (at j le).now.used
      used_is j le = ap (λ (p : ContentPage). p.used) (page_is j le)

      stored : (j byte : ℕ) → slice_get bytes j ≡ Some byte → slice_get (pages ((entry.offset + j) / R)).bytes ((entry.offset + j) % R) ≡ Some byte
      stored j byte e =
          let short = slice_get-short bytes j byte e in
          let r = (entry.offset + j) / R in
          let i = (entry.offset + j) % R in
          let last = entry.offset + length bytes - 1 in
          let le : r ≤ reach = le-div r last R some_room (omega (arith, div-mul-le_self (entry.offset + j) R, short)) in
          let room : i < R = mod-lt (entry.offset + j) some_room in
          let one : r * R + i ≡ entry.offset + j = omega (arith, mod-add-div' (entry.offset + j) R) in
          let two : reach * R + last % R ≡ last = omega (arith, mod-add-div' last R) in
          let used : i < (held.pages r).used = by_place (cases_lt r reach) le room one two short in
          ap (λ (p : ContentPage). slice_get p.bytes i) (page_is r le) ∙ ((at r le).same i used room ∙ held.stored j byte e)
        where
          by_place : ((entry.offset + j) / R < reach) ⊎ (reach ≤ (entry.offset + j) / R) → (entry.offset + j) / R ≤ reach → (entry.offset + j) % R < R →
              (entry.offset + j) / R * R + (entry.offset + j) % R ≡ entry.offset + j → reach * R + (entry.offset + length bytes - 1) % R ≡ entry.offset + length bytes - 1 → j < length bytes →
              (entry.offset + j) % R < (held.pages ((entry.offset + j) / R)).used
          by_place (inl lt) le room one two short = let f = held.full ((entry.offset + j) / R) lt in omega (arith, f, room)
          by_place (inr ge) le room one two short =
              let same : (entry.offset + j) / R ≡ reach = omega (arith, ge, le) in
              let product : (entry.offset + j) / R * R ≡ reach * R = ap (λ n. n * R) same in
              let used = ap (λ n. (held.pages n).used) same in
              omega (arith, held.ends, product, one, two, short, used)

  -- the blob that joins stands
  abbrev new_entry : Entry
  new_entry = record { kept = item; page = start_page plan (blob_len item) table; offset = start_offset plan (blob_len item) table }

  record Begins : Type 0 where
    q : ℕ
    page_is : new_entry.page ≡ ring.next + q
    whole : q * R + new_entry.offset ≡ length table.buffered
    small : new_entry.offset < R

  begins : (bytes : List ℕ) → item.blob ≡ Some bytes → 0 < length bytes → Begins
  begins bytes has some = by_full (fill table == R) refl
    where
      len : blob_len item ≡ length bytes
      len = ap (λ (o : Option (List ℕ)). unwrap_or (option_map (λ (bs : List ℕ). length bs) o) 0) has

      some_len : (blob_len item == 0) ≡ false
      some_len = ne_eqb (blob_len item) 0 (λ e. omega (arith, e, len, some))

      next_is : unwrap_or (option_map (λ (r : Ring). r.next) table.var) 0 ≡ ring.next
      next_is = ap (λ (o : Option Ring). unwrap_or (option_map (λ (r : Ring). r.next) o) 0) is

      page-by : (b : Bool) → (fill table == R) ≡ b → new_entry.page ≡ ring.next + cond b 1 0
      page-by b e = ap (λ z. cond z 0 (unwrap_or (option_map (λ (r : Ring). r.next) table.var) 0 + cond (fill table == R) 1 0)) some_len ∙ (ap (λ x. unwrap_or (option_map (λ (r : Ring). r.next) table.var) 0 + cond x 1 0) e ∙ ap (λ n. n + cond b 1 0) next_is)

      offset-by : (b : Bool) → (fill table == R) ≡ b → new_entry.offset ≡ cond b 0 (fill table)
      offset-by b e = ap (λ z. cond (z || (fill table == R)) 0 (fill table)) some_len ∙ ap (λ x. cond x 0 (fill table)) e

      by_full : (b : Bool) → (fill table == R) ≡ b → Begins
      by_full true e =
          let full = eqb-true (fill table) R e in
          let o = offset-by true e in
          let one : 1 * R ≡ R = omega arith in
          record { q = 1; page_is = page-by true e; whole = omega (arith, o, full, one); small = omega (arith, o, some_room) }
      by_full false e =
          let o = offset-by false e in
          let none : 0 * R ≡ 0 = omega arith in
          let other : fill table ≡ R → ⊥ = λ f. true≢false (sym (eq-eqb (fill table) R f) ∙ e) in
          record { q = 0; page_is = page-by false e; whole = omega (arith, o, none); small = omega (arith, o, few, other) }

  holds-joined : (bytes : List ℕ) → item.blob ≡ Some bytes → 0 < length bytes → HoldsBlob plan after ring new_entry bytes
  holds-joined bytes has some = record {
    pages = pages;
    there = λ j le. there j;
    within = let u = used_is 0 in let z : (b.q + 0) * R ≡ b.q * R = ap (λ n. n * R) (let k : b.q + 0 ≡ b.q = omega arith in k) in omega (arith, u, z, b.whole, b.small, all, some);
    full = λ j lt.
        let u = used_is j in
        let up : (j + 1) * R ≤ reach * R = mul-le-mul_right R (let k : j + 1 ≤ reach = omega (arith, lt) in k) in
        let s = add-mul j 1 R in
        let t = add-mul b.q j R in
        omega (arith, u, up, s, t, b.whole, all, last_is);
    ends = let u = used_is reach in let t = add-mul b.q reach R in omega (arith, u, t, b.whole, all, last_is, mod-lt (new_entry.offset + length bytes - 1) some_room, some);
    stored = λ j byte e. stored j byte e;
  }
    where
      b : Begins
      b = begins bytes has some

      reach : ℕ
      reach = reach_of plan new_entry bytes

      more_is : more ≡ bytes
      more_is = ap (λ (o : Option (List ℕ)). unwrap_or o []) has

      all : length after.buffered ≡ length table.buffered + length bytes
      all = let l = ap length more_is in omega (arith, long, l)

      last_is : reach * R + (new_entry.offset + length bytes - 1) % R ≡ new_entry.offset + length bytes - 1
      last_is = omega (arith, mod-add-div' (new_entry.offset + length bytes - 1) R)

      pages : ℕ → ContentPage
      pages j = content_page plan (take R (drop ((b.q + j) * R) after.buffered))

      there : (j : ℕ) → content_at plan after ring (new_entry.page + j) ≡ Some (pages j)
      there j =
          let at : new_entry.page + j - ring.next ≡ b.q + j = omega (arith, b.page_is) in
          ap (content_by plan after ring (new_entry.page + j)) (le-ltb (new_entry.page + j) ring.next (omega (arith, b.page_is)))
          ∙ ap (λ n. Some (content_page plan (take R (drop (n * R) after.buffered)))) at

      used_is : (j : ℕ) → (pages j).used ≡ min R (length after.buffered - (b.q + j) * R)
      used_is j = length-take R (drop ((b.q + j) * R) after.buffered) ∙ ap (min R) (length-drop ((b.q + j) * R) after.buffered)

      stored : (j byte : ℕ) → slice_get bytes j ≡ Some byte → slice_get (pages ((new_entry.offset + j) / R)).bytes ((new_entry.offset + j) % R) ≡ Some byte
      stored j byte e =
          let short = slice_get-short bytes j byte e in
          let r = (new_entry.offset + j) / R in
          let i = (new_entry.offset + j) % R in
          let one : r * R + i ≡ new_entry.offset + j = omega (arith, mod-add-div' (new_entry.offset + j) R) in
          let t = add-mul b.q r R in
          let place : (b.q + r) * R + i ≡ length table.buffered + j = omega (arith, one, t, b.whole) in
          wait-byte plan ((b.q + r) * R) i after.buffered (mod-lt (new_entry.offset + j) some_room) (omega (arith, place, all, short))
          ∙ (ap (slice_get after.buffered) place
          ∙ (sym (slice_get-drop (length table.buffered) after.buffered j)
          ∙ (ap (λ (bs : List ℕ). slice_get bs j) (drop-append-le (length table.buffered) table.buffered more (omega arith) ∙ (ap (λ (bs : List ℕ). bs ++ more) (drop-length table.buffered) ∙ more_is)) ∙ e)))

  pub blobs-joined : BlobsOf plan table ring → BlobsOf plan after ring
  blobs-joined blobs i e blob at has some stands = by_place (slice_get-push table.entries new_entry i e at)
    where
      by_place : (slice_get table.entries i ≡ Some e) ⊎ ((i ≡ length table.entries) × (new_entry ≡ e)) → HoldsBlob plan after ring e blob
      by_place (inl old) = holds-grown e blob (blobs i e blob old has some stands)
      by_place (inr new) = subst (λ (x : Entry). HoldsBlob plan after ring x blob) new.1 (holds-joined blob (ap (λ (x : Entry). x.kept.blob) new.1 ∙ has) some)

-- ---- records that are given up

pub blobs-given_up : (plan : Plan) (table : Table) (ring : Ring) (count : ℕ) → BlobsOf plan table ring → BlobsOf plan (seal_page plan DataRing count table) ring
blobs-given_up plan table ring count blobs i entry blob at is_blob some stands =
    let gone = sum (given_up (shape_of plan DataRing) count table.rows) in
    let held = blobs (gone + i) entry blob (sym (slice_get-drop gone table.entries i) ∙ at) is_blob some stands in
    record { pages = held.pages; there = held.there; within = held.within; full = held.full; ends = held.ends; stored = held.stored }

-- ---- what is lost

pub blobs-lost : (plan : Plan) (table : Table) (ring : Ring) → IsTable plan table → table.var ≡ Some ring → BlobsOf plan table ring → BlobsOf plan (lose table) ring
blobs-lost plan table ring is has blobs i entry blob at is_blob some stands =
    let held = blobs i entry blob (slice_get-front (length table.entries - table.pending) table.entries i entry at) is_blob some stands in
    record {
      pages = held.pages;
      there = λ j le. kept (entry.page + j) (held.pages j) (before j le) (held.there j le);
      within = held.within;
      full = held.full;
      ends = held.ends;
      stored = held.stored;
    }
  where
    -- its pages are all kept
    sealed : (entry.page < oldest ring) ⊎ ((oldest ring ≤ entry.page) × (slice_get ring.counts (entry.page - oldest ring) ≡ Some 1) × (entry.page + reach_of plan entry blob < ring.next))
    sealed = subst (λ (o : Option Ring). IfSome o (λ ring. (entry.page < oldest ring)
        ⊎ ((oldest ring ≤ entry.page) × (slice_get ring.counts (entry.page - oldest ring) ≡ Some 1) × (entry.page + reach_of plan entry blob < ring.next)))) has (is.blobs i entry blob at is_blob some)

    before : (j : ℕ) → j ≤ reach_of plan entry blob → entry.page + j < ring.next
    before j le = elim sealed [
      | inl gone ↦ absurd (not_gone gone)
      | inr kept ↦ let k = kept.2 in omega (arith, k, le)
    ]
      where
        not_gone : entry.page < oldest ring → ⊥
        not_gone lt = false≢true (sym (stands-not ring entry.page lt) ∙ stands)

    kept : (number : ℕ) (page : ContentPage) → number < ring.next → content_at plan table ring number ≡ Some page → content_at plan (lose table) ring number ≡ Some page
    kept number page lt e =
        ap (content_by plan (lose table) ring number) (lt-ltb number ring.next lt)
        ∙ (sym (ap (content_by plan table ring number) (lt-ltb number ring.next lt)) ∙ e)
