-- The load of an index page: its entries in memory, and what it says of the index of a table.
use Rattle.std.proofs.Common.{◌≡◌, ◌⊎◌, inl, inr, ℕ, ◌+◌, ◌-◌, ◌*◌, ◌^◌, ◌<◌, ◌≤◌, min, Bool, true, false, cond, IsTrue, Option, Some, None, IfSome, List, ◌++◌, length, take, drop, replicate, refl, sym, ◌∙◌, ap, subst, arith, length-append, length-drop}
use Rattle.std.proofs.Math.Nat.{mul-le-mul_right, add-mul, div-add-mod'}
use Rattle.std.proofs.lemmas.Bool.{cases_lt}
use Rattle.std.proofs.lemmas.List.{take_at, drop_at, drop-drop, take-take, drop-take, length-take-le}
use Rattle.std.specs.List.{slice_get}
use Rattle.std.specs.Option.{option_map, unwrap_or}
use Rattle.std.proofs.lemmas.Option.{same_Some}
use Rattle.fl_base.specs.Bytes.{splice}
use borrow.Rule.Slice.PartMut.{put_mid}
use Rattle.fl_flash.specs.Flash.{FlashState, page_at}
use Rattle.fl_mark.specs.Mark.{state_of_page}
use Rattle.fl_mark.specs.declared.page_state.PageState.{PageState}
use Rattle.fl_mark.specs.declared.page_state.PageState.TheVariants.{Committed, Void}
use Rattle.fl_model.specs.Agrees.{is_told, TellsAt}
use Rattle.fl_model.specs.Image.{rows_at}
use Rattle.fl_model.specs.Record.{Plan, entries_per_page}
use Rattle.fl_model.specs.Ring as model
use Rattle.fl_model.specs.Row.{number_of}
use Rattle.fl_model.specs.Table.{Table, IndexRing, shape_of, firsts}
use Rattle.fl_model.proofs.Lists.{slice_get-some, slice_get-short}
use Rattle.fl_ring.specs.Place.{next_of, oldest_of}
use Rattle.fl_ring.specs.Ring as rings
use Rattle.fl_ring.specs.Ring.{Shape}
use Rattle.fl_ring.specs.declared.ring.Ring.{Ring}
use Rattle.fl_ring.proofs.Modulo.{apart}
use Rattle.fl_index.specs.declared.index.BitmapIndex.{BitmapIndex}
use Rattle.fl_index.specs.declared.load.Loaded.{Loaded}
use Rattle.fl_index.specs.declared.load.Loaded.TheVariants.{Nothing, Listing, Bad}
use Rattle.fl_index.specs.declared.page.EntryForm.{EntryForm}
use Rattle.fl_index.specs.declared.page.Full as code
use Rattle.fl_index.specs.declared.page.Found.{Found}
use Rattle.fl_index.specs.Finding.{pages_of}
use Rattle.fl_index.specs.Loading.{IsLoaded, Loads}
use Rattle.fl_index.specs.Looking.{TellsRows}
use Rattle.fl_index.specs.Memory.{IsSamePlan, first_in, form_in, len_in, next_in, oldest_in, per_page, place_in, waiting_in}
use Rattle.fl_index.specs.Page.{page_first, form_len, bitmap_at, full_at, found_at, first_on, IsGoodPage}
use Rattle.fl_index.specs.Standing.{first_told, HoldsIndex, StandsForRing, StandsBelow, bytes_in}
use Rattle.fl_index.proofs.WaitingEntries.{plan_form}
use Rattle.fl_index.proofs.HeaderPages.{first-on, no-first-on}
use Rattle.fl_index.proofs.Memories.{planned-same}
use Rattle.fl_index.proofs.MountPages.{IsListed, is-listed, first-there, void-none}
use Rattle.fl_index.proofs.SealEnds.{planned-shape, planned-large, planned-ring, planned-bits, planned-form, planned-page, few-kept}
use Rattle.fl_index.proofs.LookupsOfTable.{told-found}
use Rattle.fl_index.proofs.State.{HaveSize}

-- ---- the bytes

-- what stands in a common part of two pages
part-same : (a b : List ℕ) (m at k : ℕ) → take m (drop 16 a) ≡ take m (drop 16 b) → 16 ≤ at → at + k ≤ 16 + m → take k (drop at a) ≡ take k (drop at b)
part-same a b m at k same low high = one a ∙ (ap (λ (l : List ℕ). drop (at - 16) (take (at - 16 + k) l)) same ∙ sym (one b))
  where
    one : (l : List ℕ) → take k (drop at l) ≡ drop (at - 16) (take (at - 16 + k) (take m (drop 16 l)))
    one l =
        let e : 16 + (at - 16) ≡ at = omega (arith, low) in
        ap (λ (n : ℕ). take k (drop n l)) (sym e)
        ∙ (ap (take k) (sym (drop-drop (at - 16) 16 l ∙ ap (λ (n : ℕ). drop n l) (let f : 16 + (at - 16) ≡ 16 + (at - 16) = refl in f)))
        ∙ (sym (drop-take (at - 16) k (drop 16 l)) ∙ ap (drop (at - 16)) (sym (take-take (at - 16 + k) m (drop 16 l) (omega (arith, high, low))))))

module _ (form : EntryForm) (a b : List ℕ) (most j : ℕ) (same : take (most * form_len form) (drop 16 a) ≡ take (most * form_len form) (drop 16 b)) (lt : j < most) where
  fits : 16 + j * form_len form + form_len form ≤ 16 + most * form_len form
  fits =
      let up : (j + 1) * form_len form ≤ most * form_len form = mul-le-mul_right (form_len form) (let le : j + 1 ≤ most = omega (arith, lt) in le) in
      omega (arith, up, add-mul j 1 (form_len form))

  by-full : (t : Bool) → form.full ≡ t → ◌≡◌ {A = Option code.Full} (cond t (Some (full_at form a j)) None) (cond t (Some (full_at form b j)) None)
  by-full false is = refl
  by-full true is =
      let at = 16 + j * form_len form + form.width in
      let wide : form_len form ≡ form.width + 14 = ap (λ (t : Bool). form.width + cond t 14 0) is in
      let part : (from k : ℕ) → at ≤ from → from + k ≤ at + 14 → number_of (take k (drop from a)) ≡ number_of (take k (drop from b)) = λ from k low high.
      ap number_of (part-same a b (most * form_len form) from k same (omega (arith, low)) (omega (arith, high, fits, wide))) in
      ap (λ (n : ℕ). Some (fields n (number_of (take 2 (drop (at + 8) a))) (number_of (take 4 (drop (at + 10) a))))) (part at 8 (omega arith) (omega arith))
      ∙ (ap (λ (n : ℕ). Some (fields (number_of (take 8 (drop at b))) n (number_of (take 4 (drop (at + 10) a))))) (part (at + 8) 2 (omega arith) (omega arith))
      ∙ ap (λ (n : ℕ). Some (fields (number_of (take 8 (drop at b))) (number_of (take 2 (drop (at + 8) b))) n)) (part (at + 10) 4 (omega arith) (omega arith)))
    where
      fields : ℕ → ℕ → ℕ → code.Full
      fields key count end = record { first_key = key; count = count; blob_end = end }

  with_full : ℕ → Option code.Full → Found
  with_full bitmap full = record { bitmap = bitmap; full = full }

  short : (t : Bool) → form.width ≤ form.width + cond t 14 0
  short true = omega arith
  short false = omega arith

  -- an entry of a common part is the same
  pub found-same : found_at form a j ≡ found_at form b j
  unfolding with_full
  found-same =
      ap (λ (n : ℕ). with_full n (cond form.full (Some (full_at form a j)) None)) (ap number_of (part-same a b (most * form_len form) (16 + j * form_len form) form.width same (omega arith) (omega (arith, fits, short form.full))))
      ∙ ap (with_full (bitmap_at form b j)) (by-full form.full refl)

-- a range of a page replaces that of a body
pub copied : (n : ℕ) (body page part : List ℕ) → 16 + n ≤ length page → part ≡ take (16 + n - 16) (drop 16 page) → put_mid 16 (16 + n - 16) body part ≡ splice body 16 (take n (drop 16 page))
copied n body page part size is =
    let same : 16 + n - 16 ≡ n = omega arith in
    let here : part ≡ take n (drop 16 page) = is ∙ ap (λ (k : ℕ). take k (drop 16 page)) same in
    let len : length (take n (drop 16 page)) ≡ n = length-take-le n (drop 16 page) (omega (arith, length-drop 16 page, size)) in
    ap (λ (l : List ℕ). take 16 body ++ (l ++ drop (16 + n - 16) (drop 16 body))) here
    ∙ ap (λ (l : List ℕ). take 16 body ++ (take n (drop 16 page) ++ l)) (drop-drop (16 + n - 16) 16 body ∙ ap (λ (k : ℕ). drop k body) (let k : 16 + (16 + n - 16) ≡ 16 + length (take n (drop 16 page)) = omega (arith, len) in k))

-- the entries of a page were copied to a body
module _ (body page : List ℕ) (n : ℕ) (room : 16 + n ≤ length body) (size : 16 + n ≤ length page) where
  copied-len : length (take n (drop 16 page)) ≡ n
  copied-len = length-take-le n (drop 16 page) (omega (arith, length-drop 16 page, size))

  front-len : length (take 16 body) ≡ 16
  front-len = length-take-le 16 body (omega (arith, room))

  pub copied-entries : take n (drop 16 (splice body 16 (take n (drop 16 page)))) ≡ take n (drop 16 page)
  copied-entries =
      ap (take n) (drop_at (take 16 body) (take n (drop 16 page) ++ drop (16 + length (take n (drop 16 page))) body) 16 front-len)
      ∙ take_at (take n (drop 16 page)) (drop (16 + length (take n (drop 16 page))) body) n copied-len

  pub copied-rest : drop (16 + n) (splice body 16 (take n (drop 16 page))) ≡ drop (16 + n) body
  copied-rest =
      sym (drop-drop n 16 (splice body 16 (take n (drop 16 page))))
      ∙ (ap (drop n) (drop_at (take 16 body) (take n (drop 16 page) ++ drop (16 + length (take n (drop 16 page))) body) 16 front-len)
      ∙ (drop_at (take n (drop 16 page)) (drop (16 + length (take n (drop 16 page))) body) n copied-len ∙ ap (λ (k : ℕ). drop (16 + k) body) copied-len))

  pub copied-length : length (splice body 16 (take n (drop 16 page))) ≡ length body
  copied-length =
      omega (
        arith,
        length-append (take 16 body) (take n (drop 16 page) ++ drop (16 + length (take n (drop 16 page))) body),
        length-append (take n (drop 16 page)) (drop (16 + length (take n (drop 16 page))) body),
        length-drop (16 + length (take n (drop 16 page))) body,
        copied-len,
        front-len,
        room,
      )

-- the body and a page have room for the entries of a page
pub body-room : (t : BitmapIndex) → 16 + per_page t * len_in t ≤ length t.body.items
body-room t = omega (arith, div-add-mod' (t.geometry.page - 24) (len_in t), t.page, t.served.page_least)

pub copied-blank : (t : BitmapIndex) (page new : List ℕ) → length page ≡ t.geometry.page → new ≡ splice t.body.items 16 (take (per_page t * len_in t) (drop 16 page)) →
    drop (16 + per_page t * len_in t) new ≡ replicate (length new - (16 + per_page t * len_in t)) 255
copied-blank t page new size is =
    let n = per_page t * len_in t in
    let room = body-room t in
    let whole : 16 + n ≤ length page = omega (arith, room, size, t.page) in
    ap (drop (16 + n)) is ∙ (copied-rest t.body.items page n room whole ∙ (t.blank_rest ∙ ap (λ (k : ℕ). replicate (k - (16 + n)) 255) (sym (ap length is ∙ copied-length t.body.items page n room whole))))

-- a load of an index speaks of its pages alone
pub loaded-from : (a b : BitmapIndex) (number : ℕ) (page : List ℕ) (l : Loaded) (now : BitmapIndex) → per_page a ≡ per_page b → form_in a ≡ form_in b → IsLoaded a number page l now → IsLoaded b number page l now
loaded-from a b number page Nothing now most form h = h
loaded-from a b number page (Listing first) now most form h = record {
  committed = h.committed;
  good = subst (λ (k : ℕ). IsGoodPage k number page) most h.good;
  first_is = h.first_is;
  remembered = h.remembered;
  begin = h.begin;
  many = h.many ∙ ap (λ (k : ℕ). min k (2 ^ 32 - 1 - first)) most;
  each = λ j lt. h.each j lt ∙ ap (λ (f : EntryForm). found_at f page j) form;
}
loaded-from a b number page (Bad first bad) now most form h = (h.0, (λ good. h.1 (subst (λ (k : ℕ). IsGoodPage k number page) (sym most) good)), h.2, h.3, h.4)

-- ---- the index of a table

module _ (old now : BitmapIndex) (f g : FlashState) (first : ℕ) (plan : Plan) (table : Table) (number : ℕ) (stands : StandsBelow number old f first plan table)
    (sizes : HaveSize first plan (page_at f)) (low : oldest_in old ≤ number) (high : number < next_in old) (same : IsSamePlan old now) (ring-same : now.ring ≡ old.ring) (pages : page_at g ≡ page_at f)
    (others : (n : ℕ) → (place_in old n ≡ place_in old number → ⊥) → first_in now n ≡ first_in old n) where
  abbrev ring : model.Ring
  ring = stands.ring

  abbrev i : ℕ
  i = number - model.oldest ring

  large : 64 ≤ plan.geometry.page
  large = planned-large old first plan stands.planned

  few : plan.geometry.page ≤ 4096
  few = omega (arith, ap (λ g. g.page) stands.planned.geometry, old.served.page_greatest)

  old-is : oldest_in old ≡ model.oldest ring
  old-is = ap (λ (o : Option Ring). unwrap_or (option_map (λ r. oldest_of r) o) 0) stands.memory_is ∙ stands.oldest_is

  next-is : next_in old ≡ ring.next
  next-is = ap (λ (o : Option Ring). unwrap_or (option_map (λ r. next_of r) o) 0) stands.memory_is ∙ stands.next

  at : model.oldest ring + i ≡ number
  at = omega (arith, low, old-is)

  within : i < length ring.counts
  within = omega (arith, high, next-is, low, old-is, stands.facts.is_ring.not_negative)

  there : (c : ℕ) × (slice_get ring.counts i ≡ Some c)
  there = slice_get-some ring.counts i within

  few-pages : length ring.counts < plan.index_blocks * plan.geometry.block
  few-pages = few-kept (shape_of plan IndexRing) ring (planned-shape old first plan stands.planned) stands.facts.is_ring

  abbrev bytes : List ℕ
  bytes = pages_of old f number

  bytes-is : bytes ≡ bytes_in (page_at f) first plan (model.oldest ring + i)
  bytes-is = ap (λ (r : Shape). page_at f (rings.place r number)) (planned-ring old first plan stands.planned) ∙ ap (bytes_in (page_at f) first plan) (sym at)

  -- the first data page of the page
  told-first : first_on bytes ≡ first_told plan table ring i there.0
  told-first = ap first_on bytes-is ∙ first-there (page_at f) first plan table ring stands.facts stands.pages sizes large few i there.0 there.1

  apart-places : (k : ℕ) → model.oldest ring + k < number → place_in old (model.oldest ring + k) ≡ place_in old number → ⊥
  apart-places k lt e =
      let shape : Shape → ℕ = λ r. r.blocks * r.per_block in
      let rooms : old.place.blocks * old.geometry.block ≡ plan.index_blocks * plan.geometry.block = ap shape (planned-ring old first plan stands.planned) in
      apart (old.place.blocks * old.geometry.block) (model.oldest ring + k) number lt (omega (arith, rooms, few-pages, at, within)) (omega (arith, e))

  -- it is known then
  pub known-then : first_in now number ≡ first_on bytes → StandsBelow (number + 1) now g first plan table
  known-then is = record {
    planned = planned-same old now first plan stands.planned same;
    ring = ring;
    facts = stands.facts;
    whole = stands.whole;
    clean = stands.clean;
    pages = subst (λ (pg : ℕ → List ℕ). Holds pg) (sym pages) stands.pages;
    in_memory = stands.in_memory;
    memory_is = ring-same ∙ stands.memory_is;
    next = stands.next;
    oldest_is = stands.oldest_is;
    first_of = λ k c below e. by_place k c e (cases_lt (model.oldest ring + k) number) below;
  }
    where
      Holds : (ℕ → List ℕ) → Type 0
      Holds pg = HoldsIndex pg first plan table ring

      by_place : (k c : ℕ) → slice_get ring.counts k ≡ Some c → (model.oldest ring + k < number) ⊎ (number ≤ model.oldest ring + k) → model.oldest ring + k < number + 1 → first_in now (model.oldest ring + k) ≡ first_told plan table ring k c
      by_place k c e (inl lt) below = others (model.oldest ring + k) (apart-places k lt) ∙ stands.first_of k c lt e
      by_place k c e (inr ge) below =
          let here : k ≡ i = omega (arith, ge, below, at) in
          let count : there.0 ≡ c = same_Some _ _ (sym there.1 ∙ (ap (slice_get ring.counts) (sym here) ∙ e)) in
          ap (first_in now) (let n : model.oldest ring + k ≡ number = omega (arith, ge, below) in n)
          ∙ (is ∙ (told-first ∙ (ap (first_told plan table ring i) count ∙ ap (λ (m : ℕ). first_told plan table ring m c) (sym here))))

  -- a committed page lists data pages
  listed-here : state_of_page bytes ≡ Committed → IsListed (page_at f) first plan table ring stands.facts stands.pages sizes large few i
  listed-here committed = elim (cases_lt 0 there.0) [
    | inl some ↦ is-listed (page_at f) first plan table ring stands.facts stands.pages sizes large few i there.0 there.1 some
    | inr none ↦
        let zero : there.0 ≡ 0 = omega (arith, none) in
        absurd (not_both (ap state_of_page (sym bytes-is) ∙ committed) (void-none (page_at f) first plan table ring stands.facts stands.pages sizes large few i (there.1 ∙ ap (λ (n : ℕ). Some n) zero)))
  ]
    where
      not_both : {s : PageState} → s ≡ Committed → s ≡ Void → ⊥
      not_both a b = cc

  per-page : per_page old ≡ entries_per_page plan
  per-page = planned-page old first plan stands.planned

  pub loads-well : (l : Loaded) → IsLoaded old number bytes l now → Loads first plan table number l now g
  loads-well Nothing h = known-then (h.1.remembered ∙ sym (no-first-on bytes h.0))
  loads-well (Bad begin bad) h =
      let l = listed-here h.0 in
      absurd (h.1 (subst (λ (k : ℕ). IsGoodPage k number bytes) (sym per-page)
      (subst (λ (n : ℕ). IsGoodPage (entries_per_page plan) n bytes) at (subst (λ (page : List ℕ). IsGoodPage (entries_per_page plan) (model.oldest ring + i) page) (sym bytes-is) l.is.good))))
  loads-well (Listing begin) h =
      let l = listed-here h.committed in
      let begins : begin ≡ l.first_page = h.first_is ∙ (ap page_first bytes-is ∙ l.is.first_is) in
      let many : waiting_in now ≡ entries_per_page plan = omega (arith, h.many, per-page, begins, l.small) in
      let now-page : per_page now ≡ per_page old = omega (arith, planned-page now first plan (planned-same old now first plan stands.planned same), per-page) in (
        known-then (h.remembered ∙ (ap (λ (n : ℕ). Some n) h.first_is ∙ sym (first-on bytes h.committed))),
        (record {
          begin = h.begin;
          many = many;
          ends = omega (arith, l.before_end, begins);
          each = λ n rows from below e told.
              let j = model.oldest table.rows + n - begin in
              let lt : j < entries_per_page plan = omega (arith, from, below) in
              subst (TellsRows plan (rows_at table n rows)) (sym (h.each j (omega (arith, lt, many)) ∙ (ap (λ (form : EntryForm). found_at form bytes j) (planned-form old first plan stands.planned) ∙ ap (λ (page : List ℕ). found_at (plan_form plan) page j) bytes-is)))
              (told-found plan (rows_at table n rows) l.entries j (bytes_in (page_at f) first plan (model.oldest ring + i)) j (l.is.at j)
              (subst (λ (o : Option ℕ). IfSome o (λ rows. IsTrue (is_told plan rows) → TellsAt plan (rows_at table n rows) (slice_get l.entries j))) e
              (l.tell j n (omega (arith, lt, l.many)) (omega (arith, begins, from))) told)
              (planned-bits old first plan stands.planned));
        }),
      )

-- each index page was loaded
pub all-known : (old now : BitmapIndex) (f : FlashState) (first : ℕ) (plan : Plan) (table : Table) → IsSamePlan old now → now.ring ≡ old.ring → ((n : ℕ) → first_in now n ≡ first_in old n) → StandsBelow (next_in old) old f first plan table → StandsForRing now f first plan table
all-known old now f first plan table same ring-same firsts stands = record {
  planned = planned-same old now first plan stands.planned same;
  ring = stands.ring;
  facts = stands.facts;
  whole = stands.whole;
  clean = stands.clean;
  pages = stands.pages;
  in_memory = stands.in_memory;
  memory_is = ring-same ∙ stands.memory_is;
  next = stands.next;
  oldest_is = stands.oldest_is;
  first_of = λ k c e.
      let short = slice_get-short stands.ring.counts k c e in
      let next = ap (λ (o : Option Ring). unwrap_or (option_map (λ r. next_of r) o) 0) stands.memory_is ∙ stands.next in
      firsts (stands.ring.next - length stands.ring.counts + k) ∙ stands.first_of k c (omega (arith, short, next, stands.facts.is_ring.not_negative)) e;
}
