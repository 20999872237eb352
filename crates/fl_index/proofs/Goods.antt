-- A kept index page that is committed is a good one.
use Rattle.std.proofs.Common.{◌≡◌, ◌⊎◌, inl, inr, ℕ, ◌+◌, ◌-◌, ◌*◌, ◌^◌, ◌<◌, ◌≤◌, Some, length, take, sym, ◌∙◌, ap, subst, arith}
use Rattle.std.proofs.lemmas.Bool.{cases_lt}
use Rattle.std.proofs.Math.Nat.{div-le_self}
use Rattle.std.specs.List.{slice_get}
use Rattle.fl_flash.specs.Flash.{FlashState, page_at}
use Rattle.fl_mark.specs.Mark.{state_of_page}
use Rattle.fl_mark.specs.declared.page_state.PageState.TheVariants.{Committed, Void}
use Rattle.fl_mark.proofs.InModel.{model_state}
use Rattle.fl_model.specs.Layout.{IndexPage, committed, index_body, is_void}
use Rattle.fl_model.specs.Record.{Plan, entry_len, entries_per_page}
use Rattle.fl_model.specs.Ring as model
use Rattle.fl_model.specs.Table.{Table, firsts, full_pages}
use Rattle.fl_model.proofs.Lists.{slice_get-short, each-at}
use Rattle.fl_base.specs.declared.types.Geometry.{Geometry}
use Rattle.fl_flash.specs.Places.{extent}
use Rattle.fl_ring.specs.Place.{shape_of}
use Rattle.fl_ring.specs.Ring.{Shape}
use Rattle.fl_ring.specs.declared.ring.Ring.{Ring}
use Rattle.fl_ring.proofs.Exists.{lies_exists}
use Rattle.fl_ring.proofs.Lengths.{page_length}
use Rattle.std.proofs.Math.Nat.{mod-lt}
use Rattle.fl_model.proofs.FullIndex.{first-at}
use Rattle.fl_ring.specs.Ring.{place as place_at}
use Rattle.fl_index.specs.declared.index.BitmapIndex.{BitmapIndex}
use Rattle.fl_index.specs.Memory.{next_in, oldest_in, per_page, place_in, LiesOn}
use Rattle.fl_index.specs.Page.{IsGoodPage}
use Rattle.fl_index.specs.Standing.{Stands, bytes_in}
use Rattle.fl_index.proofs.Lists.{below-end}
use Rattle.fl_index.proofs.Lookups.{place-same}
use Rattle.fl_index.proofs.SealEnds.{planned-ring}
use Rattle.fl_index.proofs.LookupsOfTable.{KeptPage, kept-page, index-page, X_is}

-- a page of the ring has the page size
page-size : (t : BitmapIndex) (f : FlashState) (ring : Ring) → t.ring ≡ Some ring → LiesOn t f → f.start + extent f.geometry f.blocks ≤ length f.media.content → (number : ℕ) → length (page_at f (place_in t number)) ≡ t.geometry.page
page-size t f ring has lies reaches number =
    let on = lies.ring ring has in
    let lt = mod-lt number (some_room ring.blocks ring.per_block ring.served.blocks ring.served.per_block) in
    let within : place_at (shape_of ring) number < (ring.first_block + ring.blocks) * ring.per_block = grind (arith, lt) in
    let exists = lies_exists ring f (place_in t number) on (omega (arith, within, place-same t ring has number)) in
    page_length f (place_in t number) reaches exists ∙ ap (λ (g : Geometry). g.page) lies.geometry
  where
    some_room : (a b : ℕ) → 3 ≤ a → 2 ≤ b → 0 < a * b
    some_room a b x y = grind (arith, x, y)

module _ (t : BitmapIndex) (f : FlashState) (first : ℕ) (plan : Plan) (table : Table) (stands : Stands t f first plan table) (lies : LiesOn t f) (reaches : f.start + extent f.geometry f.blocks ≤ length f.media.content) where
  pub kept-good : (number : ℕ) → oldest_in t ≤ number → number < next_in t → state_of_page (page_at f (place_in t number)) ≡ Committed → IsGoodPage (per_page t) number (page_at f (place_in t number))
  kept-good number low high is = by_count (kept-page t f first plan table stands number low high)
    where
      place_is : (k : KeptPage t f first plan table stands number) → page_at f (place_in t number) ≡ bytes_in (page_at f) first plan (model.oldest stands.in_ring.ring + k.i)
      place_is k = ap (λ (r : Shape). page_at f (place_at r number)) (planned-ring t first plan stands.in_ring.planned) ∙ ap (bytes_in (page_at f) first plan) k.at

      few_entries : entries_per_page plan < 2 ^ 16
      few_entries =
          let size = ap (λ g. g.page) stands.in_ring.planned.geometry in
          omega (arith, div-le_self (plan.geometry.page - 24) (entry_len plan), size, t.served.page_greatest)

      first_small : (x k : ℕ) → slice_get (firsts table) k ≡ Some x → x < 2 ^ 32
      first_small x k e = omega (arith, below-end (entries_per_page plan) (firsts table) k x stands.in_ring.facts.firsts e, stands.in_ring.facts.listed, stands.in_ring.facts.rows_number)

      long : (number : ℕ) → 8 ≤ length (page_at f (place_in t number))
      long number = omega (arith, page-size t f stands.in_ring.in_memory stands.in_ring.memory_is lies reaches number, t.served.page_least)

      not_void : Void ≡ Committed → ⊥
      not_void e = cc

      by_some : (k : KeptPage t f first plan table stands number) → (0 < k.c) ⊎ (k.c ≤ 0) → IsGoodPage (per_page t) number (page_at f (place_in t number))
      by_some k (inl some) =
          let held = stands.in_ring.pages.kept k.i k.c k.here some in
          let short = slice_get-short stands.in_ring.ring.counts k.i k.c k.here in
          let small : number < 2 ^ 32 = omega (arith, k.at, short, stands.in_ring.facts.is_ring.not_negative, stands.in_ring.facts.number) in
          let at = full_pages (take k.i stands.in_ring.ring.counts) in
          let many = each-at (λ (p : IndexPage). length p.entries ≡ entries_per_page plan) table.index_pages at held.holds stands.in_ring.facts.index_fit held.is in
          let page = index-page plan number held.holds.first held.holds.entries (page_at f (place_in t number)) small (first_small held.holds.first at (first-at table.index_pages at held.holds held.is)) many few_entries
          (place_is k ∙ (held.bytes ∙ ap (λ n. committed (index_body plan n held.holds.first held.holds.entries)) (sym k.at))) in
          subst (λ n. IsGoodPage n number (page_at f (place_in t number))) (sym (X_is t f first plan table stands)) page.good
      by_some k (inr none) =
          let z : k.c ≡ 0 = omega (arith, none) in
          let void = stands.in_ring.pages.void k.i (k.here ∙ ap (λ (n : ℕ). Some n) z) in
          let state = (model_state (page_at f (place_in t number)) (omega (arith, long number))).void in
          absurd (not_void (sym (state.1 (ap is_void (place_is k) ∙ void)) ∙ is))

      by_count : KeptPage t f first plan table stands number → IsGoodPage (per_page t) number (page_at f (place_in t number))
      by_count k = by_some k (cases_lt 0 k.c)
