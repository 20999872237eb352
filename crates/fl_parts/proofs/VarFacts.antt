-- Blobs in the pages of a ring of variable data, while its operations go on.
use Rattle.std.proofs.Common.{◌≡◌, ℕ, ◌+◌, ◌-◌, ◌*◌, ◌%◌, ◌<◌, ◌≤◌, ◌⊎◌, inl, inr, Bool, true, false, cond, ◌==◌, nat_lt, Option, Some, None, option_map, unwrap_or, List, [], ◌∷◌, ◌++◌, length, take, drop, refl, sym, ◌∙◌, ap, subst, arith, length-append, length-drop}
use Rattle.std.proofs.Common.{length-take}
use Rattle.std.specs.List.{slice_get}
use Rattle.std.proofs.Math.Nat.{mul-le-mul_right}
use Rattle.std.proofs.lemmas.Bool.{cases_lt, le-ltb, lt-ltb, ltb-true, ne_eqb, and_parts, false≢true}
use Rattle.std.proofs.lemmas.Option.{same_Some}
use Rattle.fl_model.specs.Agrees.{content_at, reach_of, HoldsBlob, BlobsOf}
use Rattle.fl_model.specs.Content.{ContentPage, content_page}
use Rattle.fl_model.specs.Query.{page_stands}
use Rattle.fl_model.specs.Record.{Record, Plan, content_per_page}
use Rattle.fl_model.specs.Ring.{Shape, IsShape, Ring, oldest, extended, is_full, sealed, given_up, begun, erased}
use Rattle.fl_model.specs.Table.{Table, Entry, VarRing, shape_of, full_pages, fill, pages_given_up, seal_page, seal_buffer, with_ring, with_record, start_page, start_offset, blob_len, written}
use Rattle.fl_model.proofs.BlobsJoined.{blobs-joined}
use Rattle.fl_model.proofs.BlobsStay.{blobs-sealed}
use Rattle.fl_model.proofs.FullPages.{full-append, full-one, full-split, full-dropped, full-pushed}
use Rattle.fl_model.proofs.Lists.{slice_get-drop, slice_get-left, slice_get-last, slice_get-front, slice_get-push, drop_none, take_none}
use Rattle.fl_model.proofs.StandingPages.{is_one, stands-behind, stands-not, stands-count, stands-kept, kept-stands}
use Rattle.fl_model.proofs.TableSeals.{written-push}
use Rattle.fl_parts.specs.Blobs.{AreIn, AreLed, ArePlaced}

-- ---- blobs that a table holds

-- where pages have the same contents
held-as : (plan : Plan) (a b : Table) (r s : Ring) (entry : Entry) (bytes : List ℕ) → ((j : ℕ) → j ≤ reach_of plan entry bytes → content_at plan b s (entry.page + j) ≡ content_at plan a r (entry.page + j)) →
    HoldsBlob plan a r entry bytes → HoldsBlob plan b s entry bytes
held-as plan a b r s entry bytes same h = record {
  pages = h.pages;
  there = λ j le. same j le ∙ h.there j le;
  within = h.within;
  full = h.full;
  ends = h.ends;
  stored = h.stored;
}

-- .. and stand where they stood, for some of the records
pub blobs-as : (plan : Plan) (a b : Table) (r s : Ring) → ((i : ℕ) (entry : Entry) → slice_get b.entries i ≡ Some entry → (j : ℕ) × (slice_get a.entries j ≡ Some entry)) →
    ((page : ℕ) → page_stands s page ≡ page_stands r page) → ((number : ℕ) → content_at plan b s number ≡ content_at plan a r number) → BlobsOf plan a r → BlobsOf plan b s
blobs-as plan a b r s within stand same blobs = λ i entry blob e k some here.
    let w = within i entry e in
    held-as plan a b r s entry blob (λ j le. same (entry.page + j)) (blobs w.0 entry blob w.1 k some (sym (stand entry.page) ∙ here))

-- the content of a page by whether its number is before the next one
abbrev content_by : Plan → Table → Ring → ℕ → Bool → Option ContentPage
content_by plan table ring number before =
    cond before (cond (page_stands ring number) (slice_get table.var_pages (full_pages (take (number - oldest ring) ring.counts))) None)
    (Some (content_page plan (take (content_per_page plan) (drop ((number - ring.next) * content_per_page plan) table.buffered))))

-- in the pages alone they stand whatever waits
pub blobs-in : (plan : Plan) (table new : Table) (ring : Ring) → ((i : ℕ) (entry : Entry) → slice_get new.entries i ≡ Some entry → (j : ℕ) × (slice_get table.entries j ≡ Some entry)) → new.var_pages ≡ table.var_pages →
    AreIn plan ring new.entries → BlobsOf plan table ring → BlobsOf plan new ring
blobs-in plan table new ring within pages inside blobs = λ i entry blob e k some here. by_place entry blob here (λ stands. let w = within i entry e in blobs w.0 entry blob w.1 k some stands) (inside i entry blob e k some)
  where
    by_place : (entry : Entry) (blob : List ℕ) → page_stands ring entry.page ≡ true → (page_stands ring entry.page ≡ true → HoldsBlob plan table ring entry blob) →
        (entry.page < oldest ring) ⊎ ((oldest ring ≤ entry.page) × (slice_get ring.counts (entry.page - oldest ring) ≡ Some 1) × (entry.page + reach_of plan entry blob < ring.next)) → HoldsBlob plan new ring entry blob
    by_place entry blob here held (inl lt) = absurd (false≢true (sym (stands-not ring entry.page lt) ∙ here))
    by_place entry blob here held (inr w) = held-as plan table new ring ring entry blob (λ j le. same (entry.page + j) (omega (arith, le, w.2))) (held here)
      where
        same : (number : ℕ) → number < ring.next → content_at plan new ring number ≡ content_at plan table ring number
        same number lt =
            ap (content_by plan new ring number) (lt-ltb number ring.next lt)
            ∙ (ap (λ (ps : List ContentPage). cond (page_stands ring number) (slice_get ps (full_pages (take (number - oldest ring) ring.counts))) None) pages
            ∙ sym (ap (content_by plan table ring number) (lt-ltb number ring.next lt)))

-- ---- a page more, and the oldest given up

module _ (ring : Ring) (c gone : ℕ) (numbered : length ring.counts ≤ ring.next) (few : gone ≤ length ring.counts) (after : Ring) (counts : after.counts ≡ drop gone (ring.counts ++ c ∷ [])) (next : after.next ≡ ring.next + 1) where
  len : length after.counts ≡ length ring.counts + 1 - gone
  len = ap length counts ∙ (length-drop gone (ring.counts ++ c ∷ []) ∙ ap (λ n. n - gone) (length-append ring.counts (c ∷ [])))

  old_is : oldest after ≡ oldest ring + gone
  old_is = omega (arith, len, next, few, numbered)

  count-same : (page : ℕ) → oldest after ≤ page → page < ring.next → slice_get after.counts (page - oldest after) ≡ slice_get ring.counts (page - oldest ring)
  count-same page low high =
      let place : gone + (page - oldest after) ≡ page - oldest ring = omega (arith, old_is, low) in
      ap (λ (cs : List ℕ). slice_get cs (page - oldest after)) counts
      ∙ (slice_get-drop gone (ring.counts ++ c ∷ []) (page - oldest after)
      ∙ (ap (slice_get (ring.counts ++ c ∷ [])) place
      ∙ slice_get-left ring.counts (c ∷ []) (page - oldest ring) (omega (arith, high, low, old_is, numbered))))

  last-is : slice_get after.counts (ring.next - oldest after) ≡ Some c
  last-is =
      let place : gone + (ring.next - oldest after) ≡ length ring.counts = omega (arith, old_is, few, numbered) in
      ap (λ (cs : List ℕ). slice_get cs (ring.next - oldest after)) counts
      ∙ (slice_get-drop gone (ring.counts ++ c ∷ []) (ring.next - oldest after) ∙ (ap (slice_get (ring.counts ++ c ∷ [])) place ∙ slice_get-last ring.counts c))

  stands-same : (page : ℕ) → oldest after ≤ page → page < ring.next → page_stands after page ≡ page_stands ring page
  stands-same page low high =
      stands-count after page low (omega (arith, high, next)) ∙ (ap is_one (count-same page low high) ∙ sym (stands-count ring page (omega (arith, low, old_is)) high))

  numbered-after : length after.counts ≤ after.next
  numbered-after = omega (arith, len, next, numbered)

  in-after : (plan : Plan) (entries : List Entry) → AreIn plan ring entries → AreIn plan after entries
  in-after plan entries h = λ i entry blob e k some. by_page entry blob (cases_lt entry.page (oldest after)) (h i entry blob e k some)
    where
      by_page : (entry : Entry) (blob : List ℕ) → (entry.page < oldest after) ⊎ (oldest after ≤ entry.page) →
          (entry.page < oldest ring) ⊎ ((oldest ring ≤ entry.page) × (slice_get ring.counts (entry.page - oldest ring) ≡ Some 1) × (entry.page + reach_of plan entry blob < ring.next)) →
          (entry.page < oldest after) ⊎ ((oldest after ≤ entry.page) × (slice_get after.counts (entry.page - oldest after) ≡ Some 1) × (entry.page + reach_of plan entry blob < after.next))
      by_page entry blob (inl lt) was = inl lt
      by_page entry blob (inr ge) (inl lt) = absurd (omega (arith, ge, lt, old_is))
      by_page entry blob (inr ge) (inr was) = inr (ge, count-same entry.page ge (omega (arith, was.2)) ∙ was.1, omega (arith, was.2, next))

  led-after : (plan : Plan) (entries : List Entry) → AreLed plan ring entries → AreLed plan after entries
  led-after plan entries h = λ i entry blob e k some.
      let w = h i entry blob e k some in
      (omega (arith, w.0, next), λ here. by_page entry blob w here (cases_lt entry.page (oldest after)))
    where
      by_page : (entry : Entry) (blob : List ℕ) → (entry.page < ring.next) × (page_stands ring entry.page ≡ true → entry.page + reach_of plan entry blob < ring.next) → page_stands after entry.page ≡ true →
          (entry.page < oldest after) ⊎ (oldest after ≤ entry.page) → entry.page + reach_of plan entry blob < after.next
      by_page entry blob w here (inl lt) = absurd (false≢true (sym (stands-not after entry.page lt) ∙ here))
      by_page entry blob w here (inr ge) = let reach = w.1 (sym (stands-same entry.page ge w.0) ∙ here) in omega (arith, reach, next)

  -- .. where the new page isn't void
  placed-after : c ≡ 1 → (entries : List Entry) → ArePlaced ring entries → ArePlaced after entries
  placed-after one entries h = λ i entry blob e k some. by_page entry (cases_lt entry.page (oldest after)) (h i entry blob e k some)
    where
      by_number : (page : ℕ) → oldest after ≤ page → page_stands ring page ≡ true → (page < ring.next) ⊎ (ring.next ≤ page) → page_stands after page ≡ true
      by_number page ge stands (inl lt) = stands-same page ge lt ∙ stands
      by_number page ge stands (inr le) = elim (cases_lt ring.next page) [
        | inl lt ↦ stands-behind after page (omega (arith, lt, next))
        | inr same ↦
            let here : ring.next ≡ page = omega (arith, le, same) in
            stands-kept after page ge (ap (λ n. slice_get after.counts (n - oldest after)) (sym here) ∙ (last-is ∙ ap Some one))
      ]

      by_page : (entry : Entry) → (entry.page < oldest after) ⊎ (oldest after ≤ entry.page) → (entry.page < oldest ring) ⊎ (page_stands ring entry.page ≡ true) → (entry.page < oldest after) ⊎ (page_stands after entry.page ≡ true)
      by_page entry (inl lt) was = inl lt
      by_page entry (inr ge) (inl lt) = absurd (omega (arith, ge, lt, old_is))
      by_page entry (inr ge) (inr stands) = inr (by_number entry.page ge stands (cases_lt entry.page ring.next))

  -- what stands in the pages goes on to stand there, where those of the oldest ones go
  blobs-after : (plan : Plan) (table new : Table) → new.entries ≡ table.entries → new.var_pages ≡ drop (full_pages (take gone (ring.counts ++ c ∷ []))) table.var_pages → AreLed plan ring table.entries →
      BlobsOf plan table ring → BlobsOf plan new after
  blobs-after plan table new entries pages led blobs = λ i entry blob e k some here.
      let at : slice_get table.entries i ≡ Some entry = ap (λ (es : List Entry). slice_get es i) (sym entries) ∙ e in
      by_place entry blob here (blobs i entry blob at k some) (led i entry blob at k some) (cases_lt entry.page (oldest after))
    where
      same : (number : ℕ) → oldest after ≤ number → number < ring.next → content_at plan new after number ≡ content_at plan table ring number
      same number low high =
          let m = number - oldest after in
          let all = ring.counts ++ c ∷ [] in
          let place : gone + m ≡ number - oldest ring = omega (arith, old_is, low) in
          let counted : full_pages (take gone all) + full_pages (take m after.counts) ≡ full_pages (take (number - oldest ring) ring.counts) =
          ap (λ (cs : List ℕ). full_pages (take gone all) + full_pages (take m cs)) counts
          ∙ (sym (full-dropped gone m all) ∙ (full-pushed ring.counts (c ∷ []) (gone + m) (omega (arith, place, high, numbered)) ∙ ap (λ n. full_pages (take n ring.counts)) place)) in
          ap (content_by plan new after number) (lt-ltb number after.next (omega (arith, high, next)))
          ∙ (ap (λ (b : Bool). cond b (slice_get new.var_pages (full_pages (take m after.counts))) None) (stands-same number low high)
          ∙ (ap (λ (o : Option ContentPage). cond (page_stands ring number) o None)
          (ap (λ (ps : List ContentPage). slice_get ps (full_pages (take m after.counts))) pages
          ∙ (slice_get-drop (full_pages (take gone all)) table.var_pages (full_pages (take m after.counts)) ∙ ap (slice_get table.var_pages) counted))
          ∙ sym (ap (content_by plan table ring number) (lt-ltb number ring.next high))))

      by_place : (entry : Entry) (blob : List ℕ) → page_stands after entry.page ≡ true → (page_stands ring entry.page ≡ true → HoldsBlob plan table ring entry blob) →
          (entry.page < ring.next) × (page_stands ring entry.page ≡ true → entry.page + reach_of plan entry blob < ring.next) → (entry.page < oldest after) ⊎ (oldest after ≤ entry.page) → HoldsBlob plan new after entry blob
      by_place entry blob here held w (inl lt) = absurd (false≢true (sym (stands-not after entry.page lt) ∙ here))
      by_place entry blob here held w (inr ge) =
          let stands : page_stands ring entry.page ≡ true = sym (stands-same entry.page ge w.0) ∙ here in
          let reach = w.1 stands in
          held-as plan table new ring after entry blob (λ j le. same (entry.page + j) (omega (arith, ge)) (omega (arith, le, reach))) (held stands)

-- so many pages go where one is sealed
pub record Goes (shape : Shape) (c : ℕ) (ring : Ring) : Type 0 where
  pub gone : ℕ
  pub few : gone ≤ length ring.counts
  pub counts : (sealed shape c ring).counts ≡ drop gone (ring.counts ++ c ∷ [])
  pub next : (sealed shape c ring).next ≡ ring.next + 1
  pub given : full_pages (given_up shape c ring) ≡ full_pages (take gone (ring.counts ++ c ∷ []))

abbrev trimmed : Shape → ℕ → Ring → Bool → Ring
trimmed shape c ring b = cond b (record (extended c ring) { counts = drop shape.pages (ring.counts ++ c ∷ []); dirty = true }) (extended c ring)

pub goes-sealed : (shape : Shape) (c : ℕ) (ring : Ring) → IsShape shape → Goes shape c ring
goes-sealed shape c ring is = by_full (is_full shape (extended c ring)) refl
  where
    by_full : (b : Bool) → is_full shape (extended c ring) ≡ b → Goes shape c ring
    by_full true e =
        let both = and_parts ((ring.next + 1) % shape.pages == shape.pages - 1) (nat_lt ((shape.blocks - 1) * shape.pages - 1) (length (ring.counts ++ c ∷ []))) e in
        let lt = ltb-true ((shape.blocks - 1) * shape.pages - 1) (length (ring.counts ++ c ∷ [])) both.1 in
        let two : 2 * shape.pages ≤ (shape.blocks - 1) * shape.pages = mul-le-mul_right shape.pages (let k : 2 ≤ shape.blocks - 1 = omega (arith, is.blocks) in k) in
        record {
          gone = shape.pages;
          few = omega (arith, lt, two, is.pages, length-append ring.counts (c ∷ []));
          counts = ap (λ (b : Bool). (trimmed shape c ring b).counts) e;
          next = ap (λ (b : Bool). (trimmed shape c ring b).next) e;
          given = ap (λ (b : Bool). full_pages (cond b (take shape.pages (ring.counts ++ c ∷ [])) [])) e;
        }
    by_full false e = record {
      gone = 0;
      few = omega arith;
      counts = ap (λ (b : Bool). (trimmed shape c ring b).counts) e ∙ sym (drop_none (ring.counts ++ c ∷ []));
      next = ap (λ (b : Bool). (trimmed shape c ring b).next) e;
      given = ap (λ (b : Bool). full_pages (cond b (take shape.pages (ring.counts ++ c ∷ [])) [])) e ∙ ap full_pages (sym (take_none (ring.counts ++ c ∷ [])));
    }

-- ---- what each operation of the ring keeps

pub record HasVar (plan : Plan) (table : Table) (ring : Ring) : Type 0 where
  pub is : table.var ≡ Some ring
  pub numbered : length ring.counts ≤ ring.next
  pub each : length table.var_pages ≡ full_pages ring.counts
  pub stand : BlobsOf plan table ring
  pub placed : ArePlaced ring table.entries
  pub written : AreIn plan ring (written table)

same_entries : (table : Table) (i : ℕ) (entry : Entry) → slice_get table.entries i ≡ Some entry → (j : ℕ) × (slice_get table.entries j ≡ Some entry)
same_entries table i entry e = (i, e)

pub var-begun : (plan : Plan) (table : Table) (ring : Ring) → HasVar plan table ring → HasVar plan (with_ring VarRing begun table) (begun ring)
var-begun plan table ring h = record {
  is = ap (option_map begun) h.is;
  numbered = h.numbered;
  each = h.each;
  stand = blobs-as plan table (with_ring VarRing begun table) ring (begun ring) (same_entries table) (λ page. refl) (λ number. refl) h.stand;
  placed = h.placed;
  written = h.written;
}

pub var-erased : (plan : Plan) (table : Table) (ring : Ring) → HasVar plan table ring → HasVar plan (with_ring VarRing erased table) (erased ring)
var-erased plan table ring h = record {
  is = ap (option_map erased) h.is;
  numbered = h.numbered;
  each = h.each;
  stand = blobs-as plan table (with_ring VarRing erased table) ring (erased ring) (same_entries table) (λ page. refl) (λ number. refl) h.stand;
  placed = h.placed;
  written = h.written;
}

pub var-sealed : (plan : Plan) (table : Table) (ring : Ring) → IsShape (shape_of plan VarRing) → HasVar plan table ring → HasVar plan (seal_buffer plan VarRing table) (sealed (shape_of plan VarRing) 1 ring)
var-sealed plan table ring shape h = record {
  is = ap (option_map (sealed (shape_of plan VarRing) 1)) h.is;
  numbered = numbered-after ring 1 g.gone h.numbered g.few (sealed (shape_of plan VarRing) 1 ring) g.counts g.next;
  each = each;
  stand = blobs-sealed plan table ring shape h.is h.numbered h.each h.stand;
  placed = placed-after ring 1 g.gone h.numbered g.few (sealed (shape_of plan VarRing) 1 ring) g.counts g.next refl table.entries h.placed;
  written = in-after ring 1 g.gone h.numbered g.few (sealed (shape_of plan VarRing) 1 ring) g.counts g.next plan (written table) h.written;
}
  where
    g : Goes (shape_of plan VarRing) 1 ring
    g = goes-sealed (shape_of plan VarRing) 1 ring shape

    all : List ℕ
    all = ring.counts ++ 1 ∷ []

    went : ℕ
    went = pages_given_up plan VarRing 1 table

    page : ContentPage
    page = content_page plan (take (content_per_page plan) table.buffered)

    went_is : pages_given_up plan VarRing 1 table ≡ full_pages (take g.gone (ring.counts ++ 1 ∷ []))
    went_is = ap (λ (o : Option Ring). full_pages (unwrap_or (option_map (given_up (shape_of plan VarRing) 1) o) [])) h.is ∙ g.given

    each : length (drop (pages_given_up plan VarRing 1 table) table.var_pages ++ page ∷ []) ≡ full_pages (sealed (shape_of plan VarRing) 1 ring).counts
    each =
        let long : length (drop (pages_given_up plan VarRing 1 table) table.var_pages ++ page ∷ []) ≡ length (drop (pages_given_up plan VarRing 1 table) table.var_pages) + 1 = length-append (drop (pages_given_up plan VarRing 1 table) table.var_pages) (page ∷ []) in
        let left = length-drop (pages_given_up plan VarRing 1 table) table.var_pages in
        let split = full-split g.gone (ring.counts ++ 1 ∷ []) in
        let old = full-split g.gone ring.counts in
        let front = full-pushed ring.counts (1 ∷ []) g.gone g.few in
        let whole = full-append ring.counts (1 ∷ []) in
        let one = full-one 1 (omega arith) in
        omega (arith, long, left, split, old, front, whole, one, went_is, h.each, ap full_pages g.counts)

-- a torn page is voided, where no byte waits
pub var-voided : (plan : Plan) (table : Table) (ring : Ring) → IsShape (shape_of plan VarRing) → table.var ≡ Some ring → length ring.counts ≤ ring.next → AreLed plan ring table.entries → BlobsOf plan table ring →
    BlobsOf plan (seal_page plan VarRing 0 table) (sealed (shape_of plan VarRing) 0 ring)
var-voided plan table ring shape is numbered led blobs =
    let g = goes-sealed (shape_of plan VarRing) 0 ring shape in
    blobs-after ring 0 g.gone numbered g.few (sealed (shape_of plan VarRing) 0 ring) g.counts g.next plan table (seal_page plan VarRing 0 table) refl
    (ap (λ n. drop n table.var_pages) (ap (λ (o : Option Ring). full_pages (unwrap_or (option_map (given_up (shape_of plan VarRing) 0) o) [])) is ∙ g.given)) led blobs

pub in-voided : (plan : Plan) (ring : Ring) (entries : List Entry) → IsShape (shape_of plan VarRing) → length ring.counts ≤ ring.next → AreIn plan ring entries → AreIn plan (sealed (shape_of plan VarRing) 0 ring) entries
in-voided plan ring entries shape numbered inside =
    let g = goes-sealed (shape_of plan VarRing) 0 ring shape in
    in-after ring 0 g.gone numbered g.few (sealed (shape_of plan VarRing) 0 ring) g.counts g.next plan entries inside

pub led-voided : (plan : Plan) (ring : Ring) (entries : List Entry) → IsShape (shape_of plan VarRing) → length ring.counts ≤ ring.next → AreLed plan ring entries → AreLed plan (sealed (shape_of plan VarRing) 0 ring) entries
led-voided plan ring entries shape numbered led =
    let g = goes-sealed (shape_of plan VarRing) 0 ring shape in
    led-after ring 0 g.gone numbered g.few (sealed (shape_of plan VarRing) 0 ring) g.counts g.next plan entries led

pub numbered-sealed : (shape : Shape) (c : ℕ) (ring : Ring) → IsShape shape → length ring.counts ≤ ring.next → length (sealed shape c ring).counts ≤ (sealed shape c ring).next
numbered-sealed shape c ring is numbered = let g = goes-sealed shape c ring is in numbered-after ring c g.gone numbered g.few (sealed shape c ring) g.counts g.next

pub placed-sealed : (shape : Shape) (ring : Ring) (entries : List Entry) → IsShape shape → length ring.counts ≤ ring.next → ArePlaced ring entries → ArePlaced (sealed shape 1 ring) entries
placed-sealed shape ring entries is numbered placed = let g = goes-sealed shape 1 ring is in placed-after ring 1 g.gone numbered g.few (sealed shape 1 ring) g.counts g.next refl entries placed

-- a record that joins begins its blob on a page to come
pub placed-joined : (plan : Plan) (item : Record) (table : Table) (ring : Ring) → table.var ≡ Some ring → ArePlaced ring table.entries → ArePlaced ring (with_record plan item table).entries
placed-joined plan item table ring is placed = λ i entry blob e k some. by_place entry blob k some (slice_get-push table.entries last i entry e) (λ at. placed i entry blob at k some)
  where
    last : Entry
    last = record { kept = item; page = start_page plan (blob_len item) table; offset = start_offset plan (blob_len item) table }

    here : (blob : List ℕ) → item.blob ≡ Some blob → 0 < length blob → page_stands ring (start_page plan (blob_len item) table) ≡ true
    here blob k some =
        let len : blob_len item ≡ length blob = ap (λ (o : Option (List ℕ)). unwrap_or (option_map (λ (b : List ℕ). length b) o) 0) k in
        let begins = ap (λ (b : Bool). cond b 0 (unwrap_or (option_map (λ (r : Ring). r.next) table.var) 0 + (cond (fill table == content_per_page plan) 1 0))) (ne_eqb (blob_len item) 0 (λ z. omega (arith, z, len, some))) in
        let at = ap (λ (o : Option Ring). unwrap_or (option_map (λ (r : Ring). r.next) o) 0) is in
        stands-behind ring (start_page plan (blob_len item) table) (omega (arith, begins, at))

    by_place : {i : ℕ} (entry : Entry) (blob : List ℕ) → entry.kept.blob ≡ Some blob → 0 < length blob → (slice_get table.entries i ≡ Some entry) ⊎ ((i ≡ length table.entries) × (last ≡ entry)) →
        (slice_get table.entries i ≡ Some entry → (entry.page < oldest ring) ⊎ (page_stands ring entry.page ≡ true)) → (entry.page < oldest ring) ⊎ (page_stands ring entry.page ≡ true)
    by_place entry blob k some (inl at) old = old at
    by_place entry blob k some (inr new) old = inr (subst (λ (x : Entry). page_stands ring x.page ≡ true) new.1 (here blob (ap (λ (x : Entry). x.kept.blob) new.1 ∙ k) some))

-- .. and all that a ring of variable data keeps
pub has-joined : (plan : Plan) (item : Record) (table : Table) (ring : Ring) → 0 < content_per_page plan → fill table ≤ content_per_page plan → HasVar plan table ring → HasVar plan (with_record plan item table) ring
has-joined plan item table ring some few h = record {
  is = h.is;
  numbered = h.numbered;
  each = h.each;
  stand = blobs-joined plan item table ring some few h.is h.stand;
  placed = placed-joined plan item table ring h.is h.placed;
  written = subst (λ (es : List Entry). AreIn plan ring es) (sym (written-push table last)) h.written;
}
  where
    last : Entry
    last = record { kept = item; page = start_page plan (blob_len item) table; offset = start_offset plan (blob_len item) table }

-- where all were given up, none stands
pub blobs-none : (plan : Plan) (table : Table) (ring : Ring) → ((i : ℕ) (entry : Entry) (blob : List ℕ) → slice_get table.entries i ≡ Some entry → entry.kept.blob ≡ Some blob → 0 < length blob → entry.page < oldest ring) → BlobsOf plan table ring
blobs-none plan table ring old = λ i entry blob e k some here. absurd (false≢true (sym (stands-not ring entry.page (old i entry blob e k some)) ∙ here))

-- blobs in the pages begin on pages that stand
pub placed-in : (plan : Plan) (ring : Ring) (entries : List Entry) → AreIn plan ring entries → ArePlaced ring entries
placed-in plan ring entries h = λ i entry blob e k some. elim (h i entry blob e k some) [
  | inl lt ↦ inl lt
  | inr w ↦ inr (stands-kept ring entry.page w.0 w.1)
]

-- where no byte waits, each blob is in the pages
pub in-placed : (plan : Plan) (table : Table) (ring : Ring) → table.buffered ≡ [] → ArePlaced ring table.entries → BlobsOf plan table ring → AreIn plan ring table.entries
in-placed plan table ring empty placed blobs = λ i entry blob e k some. by_place entry blob some (blobs i entry blob e k some) (placed i entry blob e k some)
  where
    R : ℕ
    R = content_per_page plan

    -- a page that holds bytes has a number
    before : (number : ℕ) (page : ContentPage) → content_at plan table ring number ≡ Some page → 0 < page.used → number < ring.next
    before number page e some = elim (cases_lt number ring.next) [
      | inl lt ↦ lt
      | inr ge ↦
          let waits : Some (content_page plan (take (content_per_page plan) (drop ((number - ring.next) * content_per_page plan) table.buffered))) ≡ Some page = sym (ap (content_by plan table ring number) (le-ltb number ring.next ge)) ∙ e in
          let used : length (take (content_per_page plan) (drop ((number - ring.next) * content_per_page plan) table.buffered)) ≡ page.used = ap (λ (p : ContentPage). p.used) (same_Some _ _ waits) in
          let long = length-take (content_per_page plan) (drop ((number - ring.next) * content_per_page plan) table.buffered) in
          let rest = length-drop ((number - ring.next) * content_per_page plan) table.buffered in
          absurd (omega (arith, used, long, rest, ap length empty, some))
    ]

    by_place : (entry : Entry) (blob : List ℕ) → 0 < length blob → (page_stands ring entry.page ≡ true → HoldsBlob plan table ring entry blob) → (entry.page < oldest ring) ⊎ (page_stands ring entry.page ≡ true) →
        (entry.page < oldest ring) ⊎ ((oldest ring ≤ entry.page) × (slice_get ring.counts (entry.page - oldest ring) ≡ Some 1) × (entry.page + reach_of plan entry blob < ring.next))
    by_place entry blob some held (inl lt) = inl lt
    by_place entry blob some held (inr stands) =
        let h = held stands in
        let last = before (entry.page + reach_of plan entry blob) (h.pages (reach_of plan entry blob)) (h.there (reach_of plan entry blob) (omega arith)) (omega (arith, h.ends)) in
        let first = kept-stands ring entry.page (omega (arith, last)) stands in
        inr (first.0, first.1, last)

-- .. and begins on one that was written
pub in-led : (plan : Plan) (ring : Ring) (entries : List Entry) → length ring.counts ≤ ring.next → AreIn plan ring entries → AreLed plan ring entries
in-led plan ring entries numbered h = λ i entry blob e k some. by_place entry blob (h i entry blob e k some)
  where
    by_place : (entry : Entry) (blob : List ℕ) → (entry.page < oldest ring) ⊎ ((oldest ring ≤ entry.page) × (slice_get ring.counts (entry.page - oldest ring) ≡ Some 1) × (entry.page + reach_of plan entry blob < ring.next)) →
        (entry.page < ring.next) × (page_stands ring entry.page ≡ true → entry.page + reach_of plan entry blob < ring.next)
    by_place entry blob (inl lt) = (omega (arith, lt), λ here. absurd (false≢true (sym (stands-not ring entry.page lt) ∙ here)))
    by_place entry blob (inr w) = (omega (arith, w.2), λ here. w.2)

-- some of the records
pub in-some : (plan : Plan) (ring : Ring) (entries others : List Entry) → ((i : ℕ) (entry : Entry) → slice_get others i ≡ Some entry → (j : ℕ) × (slice_get entries j ≡ Some entry)) → AreIn plan ring entries → AreIn plan ring others
in-some plan ring entries others within h = λ i entry blob e k some. let w = within i entry e in h w.0 entry blob w.1 k some

pub led-some : (plan : Plan) (ring : Ring) (entries others : List Entry) → ((i : ℕ) (entry : Entry) → slice_get others i ≡ Some entry → (j : ℕ) × (slice_get entries j ≡ Some entry)) → AreLed plan ring entries → AreLed plan ring others
led-some plan ring entries others within h = λ i entry blob e k some. let w = within i entry e in h w.0 entry blob w.1 k some

pub placed-some : (ring : Ring) (entries others : List Entry) → ((i : ℕ) (entry : Entry) → slice_get others i ≡ Some entry → (j : ℕ) × (slice_get entries j ≡ Some entry)) → ArePlaced ring entries → ArePlaced ring others
placed-some ring entries others within h = λ i entry blob e k some. let w = within i entry e in h w.0 entry blob w.1 k some

pub front-of : (n : ℕ) (entries : List Entry) (i : ℕ) (entry : Entry) → slice_get (take n entries) i ≡ Some entry → (j : ℕ) × (slice_get entries j ≡ Some entry)
front-of n entries i entry e = (i, slice_get-front n entries i entry e)

pub rest-of : (n : ℕ) (entries : List Entry) (i : ℕ) (entry : Entry) → slice_get (drop n entries) i ≡ Some entry → (j : ℕ) × (slice_get entries j ≡ Some entry)
rest-of n entries i entry e = (n + i, sym (slice_get-drop n entries i) ∙ e)
