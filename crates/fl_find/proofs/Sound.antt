-- Pages that a search downwards passed aren't bad, whether it finds a page or fails at one: of a bad page any first key is
-- told, and the search would not have gone on over each of them.
use Rattle.std.proofs.Common.{◌≡◌, ℕ, ◌<◌, ◌≤◌, Bool, true, false, Option, Some, None, List, IsTrue, refl, sym, ap, subst, ◌∙◌, arith, Result, Ok, Err, inl, inr}
use Rattle.std.specs.Prelude.{IfOk, OnOk, option_map, unwrap_or, nat_le, ◌==◌, if◌then◌else◌}
use Rattle.std.proofs.lemmas.Bool.{cases_lt, eq-eqb, ne_eqb, le-leb, false≢true}
use Rattle.fl_flash.specs.Flash.{FlashState}
use Rattle.fl_model.specs.Record.{RowLayout}
use Rattle.fl_page.specs.declared.fault.BadPage.{BadPage}
use Rattle.fl_page.specs.declared.fault.ReadFault.{ReadFault}
use Rattle.fl_page.specs.declared.fault.ReadFault.TheVariants as fault
use Rattle.fl_ring.specs.Place.{oldest_of, shape_of}
use Rattle.fl_ring.specs.Ring.{place}
use Rattle.fl_ring.specs.declared.ring.Ring.{Ring}
use Rattle.fl_search.specs.Search.{FailsBelow, IsPageOf, starts_by}
use Rattle.fl_find.specs.Pages.{bytes_at, rows_on, first_key, first_on, IsBadPage}
use Rattle.fl_find.specs.Looking.{BlamesBelow, BlamesThis, OnlyLooks, LookFails, IsKept, IsSound, NoneIsBad, Tells}
use Rattle.fl_find.proofs.PageLooks.{looks-pages, looks-tell}

-- a read that is Ok gives what each function tells
pub key-told : (layout : RowLayout) (ring : Ring) (f : FlashState) (first : ℕ → Option ℕ) (number : ℕ) (result : Result (Option ℕ) ReadFault) → IsKept ring number →
    (IsTrue f.media.tells → IfOk result (λ key. key ≡ first_on layout (shape_of ring) f number)) →
    (IsTrue f.media.tells → OnOk result (IsSound layout number (bytes_at (shape_of ring) f number))) →
    Tells layout ring f first → IfOk result (λ key. key ≡ first number)
key-told layout ring f first number (Ok key) kept is sound tells = is tells.told ∙ sym (tells.each number kept (sound tells.told))
key-told layout ring f first number (Err e) kept is sound tells = tt

-- pages are told alike after looks
pub tells-looked : (layout : RowLayout) (ring : Ring) (old new : FlashState) (first : ℕ → Option ℕ) → OnlyLooks old new → Tells layout ring old first → Tells layout ring new first
tells-looked layout ring old new first looks tells = record {
  told = subst (λ t. IsTrue t) (sym (looks-tell old new looks)) tells.told;
  each = subst (λ (pages : ℕ → List ℕ). (n : ℕ) → IsKept ring n → IsSound layout n (pages (place (shape_of ring) n)) → first n ≡ first_key (rows_on layout (pages (place (shape_of ring) n)))) (sym (looks-pages old new looks)) tells.each;
}

-- a function with another value at one place
abbrev changed : (ℕ → Option ℕ) → ℕ → Option ℕ → ℕ → Option ℕ
changed first n value m = if m == n then value else first m

starts-changed : (first : ℕ → Option ℕ) (n key : ℕ) (value : Option ℕ) → starts_by (changed first n value) key n ≡ unwrap_or (option_map (λ x. nat_le x key) value) false
starts-changed first n key value =
    ap (λ (b : Bool). unwrap_or (option_map (λ x. nat_le x key) (if b then value else first n)) false) (eq-eqb n n refl)

starts-at_zero : (first : ℕ → Option ℕ) (n key : ℕ) → starts_by (changed first n (Some 0)) key n ≡ true
starts-at_zero first n key = starts-changed first n key (Some 0) ∙ le-leb 0 key (omega arith)

module _ (layout : RowLayout) (ring : Ring) (f : FlashState) (told : IsTrue f.media.tells) (n : ℕ) (bad : BadPage) (is_bad : IsBadPage layout n (bytes_at (shape_of ring) f n) bad) where
  abbrev firsts : ℕ → Option ℕ
  firsts = first_on layout (shape_of ring) f

  tells-changed : (value : Option ℕ) → Tells layout ring f (changed firsts n value)
  tells-changed value = record {
    told = told;
    each = λ m kept sound. ap (λ (b : Bool). if b then value else firsts m) (ne_eqb m n (λ e.
        sound bad (subst (λ (k : ℕ). IsBadPage layout k (bytes_at (shape_of ring) f k) bad) (sym e) is_bad)));
  }

  module _ (oldest end key : ℕ) (before : n < end) where
    not-passed : (page : Option ℕ) → IsPageOf firsts oldest end key page → unwrap_or page oldest ≤ n →
        (found : Option ℕ) → ((first : ℕ → Option ℕ) → Tells layout ring f first → IsPageOf first oldest end key found) → ⊥
    not-passed page is from None finds =
        false≢true (sym (finds (changed firsts n (Some 0)) (tells-changed (Some 0)) n (least page is from) before) ∙ starts-at_zero firsts n key)
      where
        least : (page : Option ℕ) → IsPageOf firsts oldest end key page → unwrap_or page oldest ≤ n → oldest ≤ n
        least None is from = from
        least (Some p) is from = omega (arith, is.from, from)
    not-passed page is from (Some q) finds =
        elim (cases_lt q n) [
          | inl lower ↦ false≢true (sym ((finds (changed firsts n (Some 0)) (tells-changed (Some 0))).later n lower before) ∙ starts-at_zero firsts n key)
          | inr rest ↦ elim (cases_lt n q) [
            | inl higher ↦ above page is from higher
            | inr same ↦ false≢true (sym (starts-changed firsts n key None) ∙ (ap (starts_by (changed firsts n None) key) (omega (arith, rest, same)) ∙ (finds (changed firsts n None) (tells-changed None)).here))
          ]
        ]
      where
        here : starts_by firsts key q ≡ true
        here = (finds firsts (record { told = told; each = λ m kept sound. refl })).here

        above : (page : Option ℕ) → IsPageOf firsts oldest end key page → unwrap_or page oldest ≤ n → n < q → ⊥
        above None is from higher = false≢true (sym (is q (omega (arith, from, higher)) (finds firsts (record { told = told; each = λ m kept sound. refl })).before) ∙ here)
        above (Some p) is from higher = false≢true (sym (is.later q (omega (arith, from, higher)) (finds firsts (record { told = told; each = λ m kept sound. refl })).before) ∙ here)

pub none-bad : (layout : RowLayout) (ring : Ring) (f : FlashState) (oldest end key : ℕ) (result : Result (Option ℕ) ReadFault) (page : Option ℕ) → IsTrue f.media.tells →
    ((first : ℕ → Option ℕ) → Tells layout ring f first → IfOk result (λ found. IsPageOf first oldest end key found)) →
    IsPageOf (first_on layout (shape_of ring) f) oldest end key page → OnOk result (NoneIsBad layout ring f (unwrap_or page oldest) end)
none-bad layout ring f oldest end key (Err e) page told finds is = tt
none-bad layout ring f oldest end key (Ok found) page told finds is = λ n from before bad is_bad.
    not-passed layout ring f told n bad is_bad oldest end key before page is from found finds

-- where no page is searched
pub none-searched : (layout : RowLayout) (ring : Ring) (f : FlashState) (oldest end key : ℕ) (page : Option ℕ) → end ≤ oldest →
    IsPageOf (first_on layout (shape_of ring) f) oldest end key page → NoneIsBad layout ring f (unwrap_or page oldest) end
none-searched layout ring f oldest end key None none is = λ n from before bad is_bad. absurd (omega (arith, none, from, before))
none-searched layout ring f oldest end key (Some p) none is = λ n from before bad is_bad. absurd (omega (arith, none, is.from, is.before))

-- the page at which a search downwards fails is the newest bad one
pub blames-below : (layout : RowLayout) (ring : Ring) (f g : FlashState) (oldest end_now end key : ℕ) (e : ReadFault) → oldest ≡ oldest_of ring → end_now ≡ end →
    FailsBelow (λ told. Tells layout ring f told) (λ number. LookFails layout ring f e g × BlamesThis layout ring f number e) oldest end_now key → BlamesBelow layout ring f end key e
blames-below layout ring f g oldest end_now end key (fault.Flash x) from to h = tt
blames-below layout ring f g oldest end_now end key (fault.BadPage bad) from to h = λ told.
    let least = h.within.0 in
    let below = h.within.1 in
    let page = h.fails in
    record {
      number = h.number;
      within = (omega (arith, from, least), omega (arith, to, below));
      is_bad = page.1 told;
      later = λ n after before. h.later (first_on layout (shape_of ring) f) (record { told = told; each = λ m kept sound. refl }) n after (omega (arith, to, before));
      sound = λ n after before other is_bad.
          let passed = h.later (changed (first_on layout (shape_of ring) f) n (Some 0)) (tells-changed layout ring f told n other is_bad (Some 0)) n (omega (arith, after)) (omega (arith, to, before)) in
          false≢true (sym passed ∙ starts-at_zero (first_on layout (shape_of ring) f) n key);
    }
