-- Blobs stand where a page of variable data is sealed: each page from the oldest kept one on has the content that it had, and the
-- bytes that wait are those of the pages to come.
use Rattle.std.proofs.Common.{◌≡◌, ℕ, ◌+◌, ◌-◌, ◌*◌, ◌%◌, ◌<◌, ◌≤◌, ◌⊎◌, inl, inr, Bool, true, false, cond, ◌&&◌, ◌==◌, nat_le, Option, Some, None, option_map, unwrap_or, List, [], ◌∷◌, ◌++◌, length, take, drop, refl, sym, ◌∙◌, ap, subst, arith, length-append, length-drop}
use Rattle.std.specs.List.{slice_get}
use Rattle.std.proofs.lemmas.Bool.{cases_lt, lt-ltb, le-ltb, le-leb, lt-leb, ltb-true, eqb-true}
use Rattle.std.proofs.lemmas.List.{drop-drop, take_all}
use Rattle.std.proofs.Math.Nat.{add-mul, mul-le-mul_right}
use Rattle.fl_model.specs.Record.{Plan, content_per_page}
use Rattle.fl_model.specs.Content.{ContentPage, content_page}
use Rattle.fl_model.specs.Ring.{IsShape, Ring, oldest, extended, is_full, sealed}
use Rattle.fl_model.specs.Table.{Table, VarRing, shape_of, full_pages, seal_buffer}
use Rattle.fl_model.specs.Query.{page_stands}
use Rattle.fl_model.specs.Agrees.{content_at, BlobsOf}
use Rattle.fl_model.proofs.FullPages.{full-dropped, full-pushed, full-within}
use Rattle.fl_model.proofs.Lists.{slice_get-drop, slice_get-left, slice_get-last, drop_none, take_none, and_right}

-- the ring with one page more, and so many of the oldest given up
abbrev shifted : ℕ → Bool → Ring → Ring
shifted gone dirty ring = record (extended 1 ring) { counts = drop gone (ring.counts ++ 1 ∷ []); dirty = dirty }

-- .. and its table
abbrev page_waited : Plan → Table → ContentPage
page_waited plan table = content_page plan (take (content_per_page plan) table.buffered)

abbrev table_shifted : Plan → ℕ → Bool → Ring → Table → Table
table_shifted plan gone dirty ring table =
    record table {
      var_pages = drop (full_pages (take gone (ring.counts ++ 1 ∷ []))) table.var_pages ++ page_waited plan table ∷ [];
      var = Some (shifted gone dirty ring);
      buffered = drop (content_per_page plan) table.buffered;
    }

module _ (plan : Plan) (table : Table) (ring : Ring) (numbered : length ring.counts ≤ ring.next) (each : length table.var_pages ≡ full_pages ring.counts) (gone : ℕ) (dirty : Bool) (few : gone ≤ length ring.counts) where
  abbrev all : List ℕ
  all = ring.counts ++ 1 ∷ []

  abbrev now : Ring
  now = shifted gone dirty ring

  abbrev after : Table
  after = table_shifted plan gone dirty ring table

  abbrev room : ℕ
  room = content_per_page plan

  abbrev went : ℕ
  went = full_pages (take gone all)

  long : length all ≡ length ring.counts + 1
  long = length-append ring.counts (1 ∷ [])

  old_is : oldest now ≡ oldest ring + gone
  old_is = omega (arith, length-drop gone all, long, few, numbered)

  went-few : went ≤ length table.var_pages
  went-few = let a = full-pushed ring.counts (1 ∷ []) gone few in let b = full-dropped gone (length ring.counts - gone) ring.counts in let c = ap full_pages (take_all (length ring.counts) ring.counts (omega arith)) in
      let d = ap (λ n. full_pages (take n ring.counts)) (let e : gone + (length ring.counts - gone) ≡ length ring.counts = omega (arith, few) in e) in omega (arith, a, b, c, d, each)

  -- the place of a page in the new list
  place-is : (number m : ℕ) → number ≡ oldest now + m → m + gone ≤ length ring.counts → went + full_pages (take m (drop gone all)) ≡ full_pages (take (gone + m) ring.counts)
  place-is number m e le = sym (full-dropped gone m all) ∙ full-pushed ring.counts (1 ∷ []) (gone + m) (omega (arith, le))

  count-is : (m : ℕ) → m + gone < length ring.counts → slice_get (drop gone all) m ≡ slice_get ring.counts (gone + m)
  count-is m lt = slice_get-drop gone all m ∙ slice_get-left ring.counts (1 ∷ []) (gone + m) (omega (arith, lt))

  -- a kept page stands where it stood
  abbrev stands_by : Option ℕ → Bool
  stands_by count = unwrap_or (option_map (λ c. c == 1) count) false

  stands-old : (number : ℕ) → oldest ring ≤ number → number < ring.next → page_stands ring number ≡ stands_by (slice_get ring.counts (number - oldest ring))
  stands-old number low high =
      ap (λ b. cond b true (nat_le (oldest ring) number && stands_by (slice_get ring.counts (number - oldest ring)))) (lt-leb ring.next number high)
      ∙ ap (λ b. b && stands_by (slice_get ring.counts (number - oldest ring))) (le-leb (oldest ring) number low)

  stands-now : (number : ℕ) → oldest now ≤ number → number < ring.next + 1 → page_stands now number ≡ stands_by (slice_get (drop gone all) (number - oldest now))
  stands-now number low high =
      ap (λ b. cond b true (nat_le (oldest now) number && stands_by (slice_get (drop gone all) (number - oldest now)))) (lt-leb (ring.next + 1) number high)
      ∙ ap (λ b. b && stands_by (slice_get (drop gone all) (number - oldest now))) (le-leb (oldest now) number low)

  content-kept : (number : ℕ) → oldest now ≤ number → number < ring.next → content_at plan after now number ≡ content_at plan table ring number
  content-kept number low high =
      ap (λ b. cond b (cond (page_stands now number) (slice_get after.var_pages (full_pages (take (number - oldest now) now.counts))) None) (Some (content_page plan (take room (drop ((number - (ring.next + 1)) * room) after.buffered))))) (lt-ltb number (ring.next + 1) (omega (arith, high)))
      ∙ (by_stands (stands_by (slice_get ring.counts (number - oldest ring))) refl
      ∙ sym (ap (λ b. cond b (cond (page_stands ring number) (slice_get table.var_pages (full_pages (take (number - oldest ring) ring.counts))) None) (Some (content_page plan (take room (drop ((number - ring.next) * room) table.buffered))))) (lt-ltb number ring.next high)))
    where
      m : ℕ
      m = number - oldest now

      inside : m + gone < length ring.counts
      inside = omega (arith, old_is, low, high, numbered)

      same : gone + m ≡ number - oldest ring
      same = omega (arith, old_is, low)

      here : slice_get (drop gone all) m ≡ slice_get ring.counts (number - oldest ring)
      here = count-is m inside ∙ ap (slice_get ring.counts) same

      full : (o : Option ℕ) → slice_get ring.counts (number - oldest ring) ≡ o → stands_by o ≡ true → full_pages (take (number - oldest ring) ring.counts) < length table.var_pages
      full None e h = cc
      full (Some c) e h =
          let one = eqb-true c 1 h in
          let within = full-within ring.counts (number - oldest ring) c (omega (arith, same, inside)) e (omega (arith, one)) in
          omega (arith, within, each)

      by_stands : (b : Bool) → stands_by (slice_get ring.counts (number - oldest ring)) ≡ b →
          cond (page_stands now number) (slice_get after.var_pages (full_pages (take m now.counts))) None ≡ cond (page_stands ring number) (slice_get table.var_pages (full_pages (take (number - oldest ring) ring.counts))) None
      by_stands b e =
          ap (λ s. cond s (slice_get after.var_pages (full_pages (take m now.counts))) None) (stands-now number low (omega (arith, high)) ∙ (ap stands_by here ∙ e))
          ∙ (by_bool b e
          ∙ sym (ap (λ s. cond s (slice_get table.var_pages (full_pages (take (number - oldest ring) ring.counts))) None) (stands-old number (omega (arith, old_is, low)) high ∙ e)))
        where
          by_bool : (b : Bool) → stands_by (slice_get ring.counts (number - oldest ring)) ≡ b →
              cond b (slice_get after.var_pages (full_pages (take m now.counts))) None ≡ cond b (slice_get table.var_pages (full_pages (take (number - oldest ring) ring.counts))) None
          by_bool false e = refl
          by_bool true e =
              let lt = full (slice_get ring.counts (number - oldest ring)) refl e in
              let place = place-is number m (omega (arith, low)) (omega (arith, inside)) in
              let at = ap (λ n. full_pages (take n ring.counts)) same in
              slice_get-left (drop went table.var_pages) (page_waited plan table ∷ []) (full_pages (take m (drop gone all))) (let d = length-drop went table.var_pages in omega (arith, lt, place, at, d))
              ∙ (slice_get-drop went table.var_pages (full_pages (take m (drop gone all))) ∙ ap (slice_get table.var_pages) (place ∙ at))

  content-next : content_at plan after now ring.next ≡ content_at plan table ring ring.next
  content-next =
      ap (λ b. cond b (cond (page_stands now ring.next) (slice_get after.var_pages (full_pages (take (ring.next - oldest now) now.counts))) None) (Some (content_page plan (take room (drop ((ring.next - (ring.next + 1)) * room) after.buffered))))) (lt-ltb ring.next (ring.next + 1) (omega arith))
      ∙ (ap (λ s. cond s (slice_get after.var_pages (full_pages (take (ring.next - oldest now) now.counts))) None) (stands-now ring.next (omega (arith, old_is, few, numbered)) (omega arith) ∙ ap stands_by last)
      ∙ (here
      ∙ sym (ap (λ b. cond b (cond (page_stands ring ring.next) (slice_get table.var_pages (full_pages (take (ring.next - oldest ring) ring.counts))) None) (Some (content_page plan (take room (drop ((ring.next - ring.next) * room) table.buffered))))) (le-ltb ring.next ring.next (omega arith))
      ∙ ap (λ (bs : List ℕ). Some (content_page plan (take room bs))) (ap (λ n. drop n table.buffered) none ∙ drop_none table.buffered))))
    where
      m : ℕ
      m = ring.next - oldest now

      none : (ring.next - ring.next) * room ≡ 0
      none = let z : ring.next - ring.next ≡ 0 = omega arith in ap (λ n. n * room) z ∙ omega arith

      same : gone + m ≡ length ring.counts
      same = omega (arith, old_is, few, numbered)

      last : slice_get (drop gone all) m ≡ Some 1
      last = slice_get-drop gone all m ∙ (ap (slice_get all) same ∙ slice_get-last ring.counts 1)

      here : slice_get after.var_pages (full_pages (take m now.counts)) ≡ Some (page_waited plan table)
      here =
          let place = place-is ring.next m (omega (arith, old_is, few, numbered)) (omega (arith, same)) in
          let whole = ap (λ n. full_pages (take n ring.counts)) same ∙ ap full_pages (take_all (length ring.counts) ring.counts (omega arith)) in
          let d = length-drop went table.var_pages in
          ap (slice_get after.var_pages) (let e : full_pages (take m (drop gone all)) ≡ length (drop went table.var_pages) = omega (arith, place, whole, d, each, went-few) in e)
          ∙ slice_get-last (drop went table.var_pages) (page_waited plan table)

  content-later : (number : ℕ) → ring.next < number → content_at plan after now number ≡ content_at plan table ring number
  content-later number lt =
      ap (λ b. cond b (cond (page_stands now number) (slice_get after.var_pages (full_pages (take (number - oldest now) now.counts))) None) (Some (content_page plan (take room (drop ((number - (ring.next + 1)) * room) after.buffered))))) (le-ltb number (ring.next + 1) (omega (arith, lt)))
      ∙ (ap (λ (bs : List ℕ). Some (content_page plan (take room bs))) (drop-drop ((number - (ring.next + 1)) * room) room table.buffered ∙ ap (λ n. drop n table.buffered) whole)
      ∙ sym (ap (λ b. cond b (cond (page_stands ring number) (slice_get table.var_pages (full_pages (take (number - oldest ring) ring.counts))) None) (Some (content_page plan (take room (drop ((number - ring.next) * room) table.buffered))))) (le-ltb number ring.next (omega (arith, lt)))))
    where
      whole : room + (number - (ring.next + 1)) * room ≡ (number - ring.next) * room
      whole = let e : 1 + (number - (ring.next + 1)) ≡ number - ring.next = omega (arith, lt) in let f = add-mul 1 (number - (ring.next + 1)) room in let g = ap (λ n. n * room) e in omega (arith, f, g)

  content-stays : (number : ℕ) → oldest now ≤ number → content_at plan after now number ≡ content_at plan table ring number
  content-stays number low = elim (cases_lt number ring.next) [
    | inl lt ↦ content-kept number low lt
    | inr ge ↦ by_next (cases_lt ring.next number) ge
  ]
    where
      by_next : (ring.next < number) ⊎ (number ≤ ring.next) → ring.next ≤ number → content_at plan after now number ≡ content_at plan table ring number
      by_next (inl lt) ge = content-later number lt
      by_next (inr le) ge =
          let e : ring.next ≡ number = omega (arith, le, ge) in
          subst (λ n. content_at plan after now n ≡ content_at plan table ring n) e content-next

  -- a page that stands stood before
  stood : (number : ℕ) → page_stands now number ≡ true → (oldest now ≤ number) × (page_stands ring number ≡ true)
  stood number h = elim (cases_lt number (oldest now)) [
    | inl lt ↦ absurd (gone_page (nat_le (ring.next + 1) number) (nat_le (oldest now) number) (lt-leb (ring.next + 1) number (omega (arith, lt, numbered, old_is, few))) (lt-leb (oldest now) number lt) h)
    | inr ge ↦ (ge, by_place ge (cases_lt number ring.next))
  ]
    where
      gone_page : (a b : Bool) → a ≡ false → b ≡ false → cond a true (b && stands_by (slice_get now.counts (number - oldest now))) ≡ true → ⊥
      gone_page true b e f h = cc
      gone_page false true e f h = cc
      gone_page false false e f h = cc

      by_place : oldest now ≤ number → (number < ring.next) ⊎ (ring.next ≤ number) → page_stands ring number ≡ true
      by_place ge (inr le) = ap (λ b. cond b true (nat_le (oldest ring) number && stands_by (slice_get ring.counts (number - oldest ring)))) (le-leb ring.next number le)
      by_place ge (inl lt) =
          let m = number - oldest now in
          let inside : m + gone < length ring.counts = omega (arith, old_is, ge, lt, numbered) in
          let same : gone + m ≡ number - oldest ring = omega (arith, old_is, ge) in
          stands-old number (omega (arith, old_is, ge)) lt ∙ (ap stands_by (sym (count-is m inside ∙ ap (slice_get ring.counts) same)) ∙ (sym (stands-now number ge (omega (arith, lt))) ∙ h))

  blobs-shifted : BlobsOf plan table ring → BlobsOf plan after now
  blobs-shifted blobs i entry blob at is some h =
      let s = stood entry.page h in
      let held = blobs i entry blob at is some s.1 in
      record {
        pages = held.pages;
        there = λ j le. content-stays (entry.page + j) (omega (arith, s.0)) ∙ held.there j le;
        within = held.within;
        full = held.full;
        ends = held.ends;
        stored = held.stored;
      }

pub blobs-sealed : (plan : Plan) (table : Table) (ring : Ring) → IsShape (shape_of plan VarRing) → table.var ≡ Some ring → length ring.counts ≤ ring.next → length table.var_pages ≡ full_pages ring.counts →
    BlobsOf plan table ring → BlobsOf plan (seal_buffer plan VarRing table) (sealed (shape_of plan VarRing) 1 ring)
blobs-sealed plan table ring shape is numbered each blobs =
    subst (λ (t : Table). BlobsOf plan t (sealed (shape_of plan VarRing) 1 ring)) table_is (by_full (is_full (shape_of plan VarRing) (extended 1 ring)) refl)
  where
    all : List ℕ
    all = ring.counts ++ 1 ∷ []

    P : ℕ
    P = plan.geometry.block

    by : Option Ring → Table
    by o = record table {
      var_pages = drop (full_pages (unwrap_or (option_map (λ r. cond (is_full (shape_of plan VarRing) (extended 1 r)) (take P (r.counts ++ 1 ∷ [])) []) o) [])) table.var_pages ++ page_waited plan table ∷ [];
      var = option_map (sealed (shape_of plan VarRing) 1) o;
      buffered = drop (content_per_page plan) table.buffered;
    }

    table_is : by (Some ring) ≡ seal_buffer plan VarRing table
    table_is = ap by (sym is)

    by_full : (b : Bool) → is_full (shape_of plan VarRing) (extended 1 ring) ≡ b →
        BlobsOf plan (record table {
          var_pages = drop (full_pages (cond (is_full (shape_of plan VarRing) (extended 1 ring)) (take P all) [])) table.var_pages ++ page_waited plan table ∷ [];
          var = Some (sealed (shape_of plan VarRing) 1 ring);
          buffered = drop (content_per_page plan) table.buffered;
        }) (sealed (shape_of plan VarRing) 1 ring)
    by_full b e = subst (λ (x : Bool). BlobsOf plan (record table {
      var_pages = drop (full_pages (cond x (take P all) [])) table.var_pages ++ page_waited plan table ∷ [];
      var = Some (cond x (record (extended 1 ring) { counts = drop P all; dirty = true }) (extended 1 ring));
      buffered = drop (content_per_page plan) table.buffered;
    }) (cond x (record (extended 1 ring) { counts = drop P all; dirty = true }) (extended 1 ring))) (sym e) (by_bool b e)
      where
        by_bool : (b : Bool) → is_full (shape_of plan VarRing) (extended 1 ring) ≡ b → BlobsOf plan (record table {
          var_pages = drop (full_pages (cond b (take P all) [])) table.var_pages ++ page_waited plan table ∷ [];
          var = Some (cond b (record (extended 1 ring) { counts = drop P all; dirty = true }) (extended 1 ring));
          buffered = drop (content_per_page plan) table.buffered;
        }) (cond b (record (extended 1 ring) { counts = drop P all; dirty = true }) (extended 1 ring))
        by_bool true e =
            let lt = ltb-true ((plan.var_blocks - 1) * P - 1) (length all) (and_right ((ring.next + 1) % P == P - 1) _ e) in
            let two : 2 * P ≤ (plan.var_blocks - 1) * P = mul-le-mul_right P (let k : 2 ≤ plan.var_blocks - 1 = omega (arith, shape.blocks) in k) in
            blobs-shifted plan table ring numbered each P true (omega (arith, lt, two, shape.pages, length-append ring.counts (1 ∷ []))) blobs
        by_bool false e =
            subst (λ (cs : List ℕ). BlobsOf plan (record table { var_pages = drop (full_pages cs) table.var_pages ++ page_waited plan table ∷ []; var = Some (extended 1 ring); buffered = drop (content_per_page plan) table.buffered }) (extended 1 ring)) (take_none all)
            (subst (λ (cs : List ℕ). BlobsOf plan (record table { var_pages = drop (full_pages (take 0 all)) table.var_pages ++ page_waited plan table ∷ []; var = Some (record (extended 1 ring) { counts = cs }); buffered = drop (content_per_page plan) table.buffered }) (record (extended 1 ring) { counts = cs })) (drop_none all)
            (blobs-shifted plan table ring numbered each 0 ring.dirty (omega arith) blobs))
