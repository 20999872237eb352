-- The pages of variable data of a table that an image stands for: the content of each that is kept, and no content of one that isn't.
use Rattle.std.proofs.Common.{◌≡◌, ◌⊎◌, inl, inr, ℕ, ◌+◌, ◌-◌, ◌*◌, ◌%◌, ◌^◌, ◌<◌, ◌≤◌, Bool, true, false, cond, ◌&&◌, ◌==◌, nat_lt, Option, Some, None, IfSome, option_map, unwrap_or, List, ◌++◌, length, take, drop, replicate, slice_range, refl, sym, ◌∙◌, ap, subst, arith, length-append}
use Rattle.std.specs.Prelude.{nat_le}
use Rattle.std.specs.List.{AllByRecursion, slice_get}
use Rattle.std.proofs.Math.Nat.{mul-le-mul_right}
use Rattle.std.proofs.lemmas.Bool.{and_parts, eq-eqb, eqb-true, le-leb, leb-true, lt-leb, lt-ltb, le-ltb, ltb-true, ne_eqb, false≢true}
use Rattle.std.proofs.lemmas.List.{take-append-le}
use Rattle.std.proofs.lemmas.Nat.{mod_below}
use Rattle.std.proofs.lemmas.Option.{none-some, same_Some}
use Rattle.fl_mark.specs.Mark.{state_of_page}
use Rattle.fl_model.specs.Agrees.{content_at as kept_content}
use Rattle.fl_model.specs.Content.{ContentPage, content_page}
use Rattle.fl_model.specs.Facts.{IsContent, counts_in}
use Rattle.fl_model.specs.Image.{IsRingImage, HoldsContent, bytes_at}
use Rattle.fl_model.specs.Layout.{committed, content_body}
use Rattle.fl_model.specs.Query.{page_stands}
use Rattle.fl_model.specs.Record.{Plan, Config, content_per_page, has_var}
use Rattle.fl_model.specs.Ring.{Ring, IsRing, oldest}
use Rattle.fl_model.specs.Table.{Table, VarRing, shape_of, full_pages}
use Rattle.fl_model.proofs.Lists.{slice_get-short, each-at}
use Rattle.fl_page.specs.Header.{page_number, page_count}
use Rattle.fl_schema.proofs.Numbers.{number_of-le}
use Rattle.fl_rules.proofs.ContentPages.{content_used}
use Rattle.fl_salvage.specs.Blobs.{content_at, content_in}
use Rattle.fl_salvage.specs.Ends.{form_at}
use Rattle.fl_salvage.specs.Pages.{numbered, page_of}
use Rattle.fl_saved.proofs.Gathered.{number-of-place}
use Rattle.fl_saved.proofs.Places.{IsKept, IsOther, placed, uncommitted, no-content}
use Rattle.fl_saved.proofs.RingsOfImage.{IsHere, facts, var-at, var-size, pages_is, size_is}
use Rattle.fl_saved.proofs.RowPages.{state-committed}

-- the bytes of content that a page uses
abbrev pub used_of : ContentPage → List ℕ
used_of content = take content.used content.bytes

-- ---- one page

module _ (page : List ℕ) (number : ℕ) (plan : Plan) (content : ContentPage) (is : IsContent plan content) (bytes : page ≡ committed (content_body number content)) (size : length page ≡ plan.geometry.page)
    (high : plan.geometry.page ≤ 4096) (small : number < 2 ^ 32) where
  number-is : page_number page ≡ number
  number-is = ap page_number bytes ∙ number_of-le 4 number (omega (arith, small))

  count-is : page_count page ≡ content.used
  count-is = content_used page number plan content is bytes (omega (arith, size, high))

  part : slice_range page 8 (8 + content.used) ≡ take content.used content.bytes
  part =
      let e : 8 + content.used - 8 ≡ content.used = omega arith in
      let fits : content.used ≤ length content.bytes = omega (arith, is.most, is.length) in
      ap (λ n. take n (drop 8 page)) e
      ∙ ap (λ l. take content.used (drop 8 l)) bytes
      ∙ take-append-le content.used (content.bytes ++ replicate 4 0) (replicate 4 255) (let k = long in omega (arith, fits, k))
      ∙ take-append-le content.used content.bytes (replicate 4 0) fits
    where
      long : length content.bytes ≤ length (content.bytes ++ replicate 4 0)
      long = let e : length (content.bytes ++ replicate 4 0) ≡ length content.bytes + 4 = length-append content.bytes (replicate 4 0) in omega (arith, e)

  -- the content of the page with this number
  pub own-content : content_in number page ≡ Some (take content.used content.bytes)
  own-content =
      let state = state-committed (content_body number content) page bytes in
      let own : (page_number page == number) ≡ true = eq-eqb (page_number page) number number-is in
      let fits : nat_le (page_count page) (length page - 16) ≡ true = le-leb (page_count page) (length page - 16) (omega (arith, count-is, is.most, size)) in
      let found : content_in number page ≡ Some (slice_range page 8 (8 + page_count page)) = rw (state, own, fits) refl in
      found ∙ ap (λ n. Some (slice_range page 8 (8 + n))) count-is ∙ ap (λ l. Some l) part

  -- .. and none of any other
  pub no-other : (wanted : ℕ) → (wanted ≡ number → ⊥) → content_in wanted page ≡ None
  no-other wanted other =
      let state = state-committed (content_body number content) page bytes in
      let apart : (page_number page == wanted) ≡ false = ne_eqb (page_number page) wanted (λ e. other (sym e ∙ number-is)) in
      rw (state, apart) refl

-- ---- the pages of a ring

module _ (config : Config) (bytes : List ℕ) (place : ℕ) (plan : Plan) (table : Table) (is : IsHere config bytes place plan table)
    (ring : _) (ring_is : (form_at config.plans place plan).var ≡ Some ring) (has : has_var plan ≡ true)
    (kept : Ring) (kept_is : table.var ≡ Some kept) (clean : kept.dirty ≡ false) where
  some_blocks : 0 < plan.var_blocks
  some_blocks = ltb-true 0 plan.var_blocks has

  many : ring.pages ≡ plan.var_blocks * plan.geometry.block
  many = pages_is config bytes place plan table is ring ring_is has

  in_ring : (P : Option Ring → Type 0) → P table.var → P (Some kept)
  in_ring P h = subst P kept_is h

  ring-facts : IsRing (shape_of plan VarRing) kept
  ring-facts = let f = facts config bytes place plan table is in in_ring (λ (o : Option Ring). IfSome o (IsRing (shape_of plan VarRing))) f.var

  small : kept.next + (cond kept.torn 1 0) ≤ 4294967292
  small = let f = facts config bytes place plan table is in in_ring (λ (o : Option Ring). IfSome o (λ x. x.next + (cond x.torn 1 0) ≤ 4294967292)) (f.numbers VarRing)

  counts : AllByRecursion (λ c. (c ≡ 0) ⊎ (c ≡ 1)) kept.counts
  counts = let f = facts config bytes place plan table is in subst (λ (o : Option Ring). AllByRecursion (λ c. (c ≡ 0) ⊎ (c ≡ 1)) (counts_in o)) kept_is f.var_counts

  some-pages : 0 < plan.var_blocks * plan.geometry.block
  some-pages = let m = is.made in let k : 1 * plan.geometry.block ≤ plan.var_blocks * plan.geometry.block = mul-le-mul_right plan.geometry.block (omega (arith, some_blocks)) in omega (arith, k, m.block_some)

  abbrev at : ℕ → List ℕ
  at number = numbered ring bytes number

  size : (number : ℕ) → length (numbered ring bytes number) ≡ plan.geometry.page
  size number = var-size config bytes place plan table is ring ring_is has (number % ring.pages) (omega (arith, mod_below number ring.pages (omega (arith, many, some-pages)), many))

  there : (number : ℕ) → content_at ring bytes number ≡ content_in number (numbered ring bytes number)
  there number =
      let full : nat_lt (length (numbered ring bytes number)) ring.size ≡ false = le-ltb (length (numbered ring bytes number)) ring.size (omega (arith, size number, size_is config bytes place plan table is ring ring_is has)) in
      ap (λ (b : Bool). cond b None (content_in number (numbered ring bytes number))) full

  here : (number : ℕ) → oldest kept ≤ number → number < oldest kept + plan.var_blocks * plan.geometry.block → IsKept kept (HoldsContent table kept) number (at number) ⊎ IsOther kept number (at number)
  here number low high =
      subst (λ page. IsKept kept (HoldsContent table kept) number page ⊎ IsOther kept number page) (var-at config bytes place plan table is ring ring_is has number)
      (placed (shape_of plan VarRing) kept (bytes_at config bytes place plan VarRing) (HoldsContent table kept) ring-facts clean (in_ring (λ (o : Option Ring). IfSome o (λ x. IsRingImage (shape_of plan VarRing) x (bytes_at config bytes place plan VarRing) (HoldsContent table x))) is.image.var) number low high)

  module _ (number : ℕ) (k : IsKept kept (HoldsContent table kept) number (at number)) where
    number-small : number < 2 ^ 32
    number-small = omega (arith, k.at, slice_get-short kept.counts k.i k.count k.counted, ring-facts.not_negative, small)

    held : IsContent plan k.holds.holds
    held = let f = facts config bytes place plan table is in each-at (IsContent plan) table.var_pages (full_pages (take k.i kept.counts)) k.holds.holds f.var_fit k.holds.is

    bytes-are : at number ≡ committed (content_body number k.holds.holds)
    bytes-are = k.holds.bytes ∙ ap (λ n. committed (content_body n k.holds.holds)) k.at

    kept-content : content_at ring bytes number ≡ Some (used_of k.holds.holds)
    kept-content = there number ∙ own-content (at number) number plan k.holds.holds held bytes-are (size number) (let m = is.made in m.page_high) number-small

    other-content : (wanted : ℕ) → (wanted ≡ number → ⊥) → content_in wanted (at number) ≡ None
    other-content wanted other = no-other (at number) number plan k.holds.holds held bytes-are (size number) (let m = is.made in m.page_high) number-small wanted other

  long-page : (number : ℕ) → 8 ≤ length (numbered ring bytes number)
  long-page number = let m = is.made in omega (arith, size number, m.page_low)

  -- no more pages are kept than a round has
  kept-round : length kept.counts ≤ plan.var_blocks * plan.geometry.block
  kept-round =
      let m = is.made in
      let below : kept.next % plan.geometry.block < plan.geometry.block = mod_below kept.next plan.geometry.block m.block_some in
      let all : plan.var_blocks * plan.geometry.block ≡ (plan.var_blocks - 1) * plan.geometry.block + plan.geometry.block = let e : plan.var_blocks ≡ (plan.var_blocks - 1) + 1 = omega (arith, some_blocks) in ap (λ n. n * plan.geometry.block) e ∙ omega arith in
      omega (arith, below, all, ring-facts.kept)

  -- ---- a page that is given up

  -- a number of the same place in the round of the kept pages
  pub gone-content : (wanted : ℕ) → wanted < oldest kept → content_at ring bytes wanted ≡ None
  gone-content wanted before =
      let n = number-of-place (oldest kept) (plan.var_blocks * plan.geometry.block) (wanted % (plan.var_blocks * plan.geometry.block)) (mod_below wanted (plan.var_blocks * plan.geometry.block) some-pages) in
      let same : at n.number ≡ at wanted = ap (λ p. page_of ring bytes p) (ap (λ p. n.number % p) many ∙ n.placed ∙ sym (ap (λ p. wanted % p) many)) in
      there wanted ∙ ap (content_in wanted) (sym same) ∙ by_case n.number (λ e. let no : ⊥ = omega (arith, e, n.low, before) in no) (here n.number n.low n.high)
    where
      by_case : (number : ℕ) → (wanted ≡ number → ⊥) → IsKept kept (HoldsContent table kept) number (at number) ⊎ IsOther kept number (at number) → content_in wanted (at number) ≡ None
      by_case number apart (inl k) = other-content number k wanted apart
      by_case number apart (inr o) = no-content (state_of_page (at number)) _ (uncommitted (at number) (long-page number) o.state)

  -- ---- a page that stands

  stands-kept : (number : ℕ) → number < kept.next → page_stands kept number ≡ true → (oldest kept ≤ number) × (slice_get kept.counts (number - oldest kept) ≡ Some 1)
  stands-kept number lt stands =
      let not_next : nat_le kept.next number ≡ false = lt-leb kept.next number lt in
      let e : (nat_le (oldest kept) number && unwrap_or (option_map (λ count. count == 1) (slice_get kept.counts (number - oldest kept))) false) ≡ true =
      sym (ap (λ (b : Bool). cond b true (nat_le (oldest kept) number && unwrap_or (option_map (λ count. count == 1) (slice_get kept.counts (number - oldest kept))) false)) not_next) ∙ stands in
      let parts = and_parts (nat_le (oldest kept) number) (unwrap_or (option_map (λ count. count == 1) (slice_get kept.counts (number - oldest kept))) false) e in
      (leb-true (oldest kept) number parts.0, by_count (slice_get kept.counts (number - oldest kept)) parts.1)
    where
      by_count : (o : Option ℕ) → unwrap_or (option_map (λ count. count == 1) o) false ≡ true → o ≡ Some 1
      by_count None e = absurd (false≢true e)
      by_count (Some count) e = ap (λ n. Some n) (eqb-true count 1 e)

  -- the content that the table knows of it is what is found
  pub known-content : (number : ℕ) (content : ContentPage) → number < kept.next → kept_content plan table kept number ≡ Some content → (content_at ring bytes number ≡ Some (used_of content)) × IsContent plan content
  known-content number content lt known =
      let before : nat_lt number kept.next ≡ true = lt-ltb number kept.next lt in
      let e : cond (page_stands kept number) (slice_get table.var_pages (full_pages (take (number - oldest kept) kept.counts))) None ≡ Some content =
      sym (ap (λ (b : Bool). cond b (cond (page_stands kept number) (slice_get table.var_pages (full_pages (take (number - oldest kept) kept.counts))) None) (Some (content_page plan (take (content_per_page plan) (drop ((number - kept.next) * content_per_page plan) table.buffered))))) before) ∙ known in
      by_stands (page_stands kept number) refl e
    where
      by_case : slice_get table.var_pages (full_pages (take (number - oldest kept) kept.counts)) ≡ Some content → slice_get kept.counts (number - oldest kept) ≡ Some 1
          → IsKept kept (HoldsContent table kept) number (at number) ⊎ IsOther kept number (at number) → (content_at ring bytes number ≡ Some (used_of content)) × IsContent plan content
      by_case page one (inl k) =
          let i_is : number - oldest kept ≡ k.i = omega (arith, k.at) in
          let same : k.holds.holds ≡ content = same_Some _ _ (sym k.holds.is ∙ ap (λ i. slice_get table.var_pages (full_pages (take i kept.counts))) (sym i_is) ∙ page) in
          (kept-content number k ∙ ap (λ c. Some (used_of c)) same, subst (IsContent plan) same (held number k))
      by_case page one (inr o) = absurd (let none : 1 ≡ 0 = sym (ap (λ x. unwrap_or x 0) one) ∙ o.none in omega (arith, none))

      by_stands : (b : Bool) → page_stands kept number ≡ b → cond b (slice_get table.var_pages (full_pages (take (number - oldest kept) kept.counts))) None ≡ Some content
          → (content_at ring bytes number ≡ Some (used_of content)) × IsContent plan content
      by_stands true stands page =
          let s = stands-kept number lt stands in
          let whole = ring-facts.not_negative in
          let round = kept-round in
          by_case page s.1 (here number s.0 (omega (arith, lt, round, whole)))
      by_stands false stands page = absurd (none-some content page)
