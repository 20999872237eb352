-- What a lookup of a scan reads, at most and at least.
use Rattle.std.proofs.Common.{◌≡◌, ◌⊎◌, inl, inr, ℕ, suc, ◌+◌, ◌-◌, ◌<◌, ◌≤◌, Bool, true, false, cond, ◌||◌, ◌==◌, nat_le, nat_lt, Option, Some, None, IfErr, OnErr, IsTrue, Result, Ok, Err, List, [], ◌∷◌, refl, sym, ◌∙◌, ap, subst, arith}
use Rattle.std.proofs.lemmas.Bool.{cases_lt, ltb-true, lt-ltb, eqb-true, false≢true, false_from_ne_true, and_parts}
use Rattle.std.specs.List.{list_any, range_with_len, count_by, AllByRecursion}
use Rattle.std.proofs.lemmas.Option.{none-some}
use Rattle.fl_base.proofs.Tests.{one_at_most}
use Rattle.fl_flash.specs.Buffer.{BufferState}
use Rattle.fl_flash.specs.Flash.{FlashState, page_at}
use Rattle.fl_mark.specs.Mark.{state_of_page}
use Rattle.fl_model.specs.Record.{Plan}
use Rattle.fl_model.specs.Table.{Table}
use Rattle.fl_page.specs.Causes.{IsCaused}
use Rattle.fl_page.specs.declared.fault.ReadFault.{ReadFault}
use Rattle.fl_page.specs.declared.fault.ReadFault.TheVariants.{Flash, BadPage}
use Rattle.fl_index.specs.declared.index.BitmapIndex.{BitmapIndex}
use Rattle.fl_index.specs.Looking.{bad_page, HoldsGood, IsBadPage, IfBad, IfUnread, entire, IsFound, listing_of, IsHeld, ends_above, unread, IsScanning, after_held, next_to_read, is_page, is_looked_at, due}
use Rattle.fl_index.specs.Memory.{first_in, is_waiting, next_in, oldest_in, per_page, lists, listing_in, place_in}
use Rattle.fl_index.specs.Page.{page_number, IsGoodPage}
use Rattle.fl_index.specs.declared.page.Found.{Found}
use Rattle.fl_index.specs.Standing.{Stands}
use Rattle.fl_index.proofs.Counts.{count-cons, count-split, count-none, count-fewer}
use Rattle.fl_index.proofs.ListingPages.{listing-is}
use Rattle.fl_index.proofs.Lookups.{within, ends, before-it, unread-later}
use Rattle.fl_index.proofs.Held.{page-some}

-- the index page from which a scan may still read
pub scanning-from : (t : BitmapIndex) (number from : ℕ) (buf : BufferState) → IsScanning t number from buf → from ≡ next_to_read t buf
scanning-from t number from buf (inl h) = h.1 ∙ sym (ap (after_held (oldest_in t) (page_number buf.bytes)) h.0)
scanning-from t number from buf (inr h) = h.1 ∙ (ap (λ n. n + 1) (sym h.2.is_held.number_is) ∙ sym (ap (after_held (oldest_in t) (page_number buf.bytes)) h.2.is_held.place))

ends-later : (most number later : ℕ) (first : Option ℕ) → number ≤ later → ends_above most later first ≡ true → ends_above most number first ≡ true
ends-later most number later None le e = e
ends-later most number later (Some first) le e = let lt = ltb-true later (first + most) e in lt-ltb number (first + most) (omega (arith, lt, le))

-- .. and so on for greater numbers
pub scanning-later : (t : BitmapIndex) (number later from : ℕ) (buf : BufferState) → number ≤ later → IsScanning t number from buf → IsScanning t later from buf
scanning-later t number later from buf le (inl h) = inl h
scanning-later t number later from buf le (inr h) = inr (
  h.0,
  h.1,
  record {
    is_held = h.2.is_held;
    before = λ k low high. false_from_ne_true (ends_above (per_page t) later (first_in t k)) (λ e. false≢true (sym (h.2.before k low high) ∙ ends-later (per_page t) number later (first_in t k) le e));
  },
)

pub unread-fewer : (t : BitmapIndex) (number later from : ℕ) → number ≤ later → unread t later from ≤ unread t number from
unread-fewer t number later from le =
    count-fewer (λ n. ends_above (per_page t) later (first_in t n)) (λ n. ends_above (per_page t) number (first_in t n)) (next_in t - from) from
    (λ k low high e. ends-later (per_page t) number later (first_in t k) le e)

-- ---- index pages to be looked at

lists-ends : (most number later : ℕ) (first : Option ℕ) → number ≤ later → lists most later first ≡ true → ends_above most number first ≡ true
lists-ends most number later None le e = e
lists-ends most number later (Some first) le e =
    let b = and_parts (nat_le first later) (nat_lt later (first + most)) e in
    let lt = ltb-true later (first + most) b.1 in
    lt-ltb number (first + most) (omega (arith, lt, le))

looked-listed : (b : Bool) (o : Option ℕ) (page : ℕ) → cond b None o ≡ Some page → o ≡ Some page
looked-listed true o page e = absurd (none-some page e)
looked-listed false o page e = e

looked-lists : (t : BitmapIndex) (listing number : ℕ) → is_looked_at t listing number ≡ true → lists (per_page t) number (first_in t listing) ≡ true
looked-lists t listing number e =
    let h = looked-listed (is_waiting t number) (listing_in t number) listing (page-some listing (listing_of t number) e) in
    (listing-is (per_page t) (first_in t) number (next_in t - oldest_in t) (oldest_in t) listing h).here

none-looked : (t : BitmapIndex) (listing number : ℕ) (numbers : List ℕ) → ends_above (per_page t) number (first_in t listing) ≡ false → AllByRecursion (λ n. number ≤ n) numbers → list_any (is_looked_at t listing) numbers ≡ false
none-looked t listing number [] ended later = refl
none-looked t listing number (n ∷ numbers) ended later =
    let here : is_looked_at t listing n ≡ false = false_from_ne_true (is_looked_at t listing n) (λ e. false≢true (sym ended ∙ lists-ends (per_page t) number n (first_in t listing) later.0 (looked-lists t listing n e))) in
    ap (λ b. b || list_any (is_looked_at t listing) numbers) here ∙ none-looked t listing number numbers ended later.1

abbrev looked-by : BitmapIndex → List ℕ → ℕ → Bool
looked-by t numbers n = list_any (is_looked_at t n) numbers

-- a data page that is looked up in another index page adds nothing
pub due-same : (t : BitmapIndex) (number from : ℕ) (numbers : List ℕ) → ((k : ℕ) → from ≤ k → is_looked_at t k number ≡ false) → due t (number ∷ numbers) from ≤ due t numbers from
due-same t number from numbers other =
    count-fewer (λ n. list_any (is_looked_at t n) (number ∷ numbers)) (λ n. list_any (is_looked_at t n) numbers) (next_in t - from) from
    (λ k low high e. sym (ap (λ b. b || list_any (is_looked_at t k) numbers) (other k low)) ∙ e)

pub none-at : (t : BitmapIndex) (number : ℕ) → listing_of t number ≡ None → (k : ℕ) → is_looked_at t k number ≡ false
none-at t number none k = ap (is_page k) none

-- without a look nothing is read
pub memory-least : (t : BitmapIndex) (number from reads : ℕ) (numbers : List ℕ) (buf : BufferState) → listing_of t number ≡ None → IsScanning t number from buf → reads + due t (number ∷ numbers) from ≤ reads + due t numbers (next_to_read t buf)
memory-least t number from reads numbers buf none scanning =
    let few = due-same t number from numbers (λ k low. none-at t number none k) in
    let moved = ap (due t numbers) (scanning-from t number from buf scanning) in
    omega (arith, few, moved)

-- what is found in a good page is no fault
pub good-found : (t : BitmapIndex) (page number : ℕ) (bytes : List ℕ) (result : Result (Option Found) ReadFault) (P : Type 0) → IsGoodPage (per_page t) page bytes → IsFound entire t page number bytes result → IfErr result (IfUnread (λ e. ⊥)) → OnErr result P
good-found t page number bytes (Ok found) P good is none = tt
good-found t page number bytes (Err (Flash fault)) P good is none = absurd none
good-found t page number bytes (Err (BadPage bad)) P good is none = absurd (is.1 good)

-- a fault that isn't one of the flash needs no cause
pub caused-none : (f g : FlashState) (result : Result (Option Found) ReadFault) → IfErr result (IfUnread (λ e. ⊥)) → IfErr result (λ fault. IsCaused f fault g)
caused-none f g (Ok found) none = tt
caused-none f g (Err (Flash fault)) none = absurd none
caused-none f g (Err (BadPage bad)) none = tt

-- a bad page stands on the flash, where none is held
pub bad-page : (t : BitmapIndex) (f : FlashState) (number page : ℕ) (old new : BufferState) (result : Result (Option Found) ReadFault) → (oldest_in t ≤ page) × (page < next_in t) → IsFound entire t page number new.bytes result →
    (IsTrue f.media.tells → (new.bytes ≡ page_at f (place_in t page)) ⊎ (IsHeld t page old × (new ≡ old))) → IfErr result (IfBad (λ bad. IsTrue f.media.tells → HoldsGood t old → IsBadPage t f bad))
bad-page t f number page old new (Ok found) kept is bytes = tt
bad-page t f number page old new (Err (Flash fault)) kept is bytes = tt
bad-page t f number page old new (Err (BadPage bad)) kept is bytes = λ tells good. by_bytes good (bytes tells)
  where
    by_bytes : HoldsGood t old → (new.bytes ≡ page_at f (place_in t page)) ⊎ (IsHeld t page old × (new ≡ old)) → IsBadPage t f bad
    by_bytes good (inl e) = subst (IsBadPage t f) (sym is.2) (record {
      from = kept.0;
      before = kept.1;
      committed = ap state_of_page (sym e) ∙ is.0;
      not_good = λ g. is.1 (subst (IsGoodPage (per_page t) page) (sym e) g);
      told = ap (bad_page page) e;
    })
    by_bytes good (inr h) =
        let same = ap (λ (b : BufferState). b.bytes) h.1 in
        absurd (is.1 (subst (IsGoodPage (per_page t) page) (sym same) (good page h.0 (ap state_of_page (sym same) ∙ is.0))))

module _ (t : BitmapIndex) (f : FlashState) (first : ℕ) (plan : Plan) (table : Table) (stands : Stands t f first plan table) (number page : ℕ) (listing : listing_in t number ≡ Some page) where
  abbrev here : (oldest_in t ≤ page) × (page < next_in t)
  here = within t f first plan table stands number page listing

  where-page : (from : ℕ) (old : BufferState) → IsScanning t number from old → (oldest_in t ≤ from) × (((from ≤ page) × (IsHeld t page old → ⊥)) ⊎ (IsHeld t page old × (from ≡ page + 1)))
  where-page from old (inl h) = (omega (arith, h.1), inl (omega (arith, h.1, here.0), λ held. none (sym h.0 ∙ held.place)))
    where
      none : ◌≡◌ {A = Option ℕ} None (Some (place_in t page)) → ⊥
      none e = cc
  where-page from old (inr h) = (
    omega (arith, h.1, h.2.is_held.kept.0),
    elim (cases_lt page h.0) [
      | inl below ↦ absurd (false≢true (sym (h.2.before page here.0 below) ∙ ends t f first plan table stands number page listing))
      | inr above ↦ elim (cases_lt h.0 page) [
        | inl more ↦ inl (omega (arith, h.1, more), λ held. omega (arith, held.number_is, h.2.is_held.number_is, more))
        | inr last ↦ let same : h.0 ≡ page = omega (arith, above, last) in inr (subst (λ n. IsHeld t n old) same h.2.is_held, omega (arith, h.1, same))
      ]
    ],
  )

  -- at most it reads what is unread
  pub scan-most : (from : ℕ) (old : BufferState) (a b : FlashState) → IsScanning t number from old → b.work.reads ≤ a.work.reads + 1 → (IsHeld t page old → b ≡ a) → b.work.reads ≤ a.work.reads + unread t number from
  scan-most from old a b scanning reads held = elim ((where-page from old scanning).1) [
    | inl h ↦ omega (arith, reads, unread-later t number from page h.0 here.1 (ends t f first plan table stands number page listing))
    | inr h ↦ let r = ap (λ (x : FlashState). x.work.reads) (held h.0) in omega (arith, r)
  ]

  -- where the page isn't held, the index pages before those that may be read end at or below the number
  pub unread-again : (from : ℕ) (old : BufferState) → IsScanning t number from old → (IsHeld t page old → ⊥) → unread t number (oldest_in t) ≤ unread t number from
  unread-again from old scanning unheld = let w = where-page from old scanning in elim w.1 [ inl h ↦ behind_oldest w.0 h.0 | inr h ↦ absurd (unheld h.0) ]
    where
      behind_oldest : oldest_in t ≤ from → from ≤ page → unread t number (oldest_in t) ≤ unread t number from
      behind_oldest low le =
          let k = from - oldest_in t in
          let n = next_in t - from in
          let parts : next_in t - oldest_in t ≡ k + n = omega (arith, low, le, here.1) in
          let at : oldest_in t + k ≡ from = omega (arith, low) in
          let split = ap (λ m. count_by (λ n. ends_above (per_page t) number (first_in t n)) (range_with_len (oldest_in t) m)) parts ∙ count-split (λ n. ends_above (per_page t) number (first_in t n)) k n (oldest_in t) in
          let moved = ap (λ a. count_by (λ n. ends_above (per_page t) number (first_in t n)) (range_with_len a n)) at in
          let front = count-none (λ n. ends_above (per_page t) number (first_in t n)) k (oldest_in t) (λ j from_j to_j. before-it t f first plan table stands number page listing j from_j (omega (arith, to_j, at, le))) in
          omega (arith, split, moved, front)

  behind : (looked : listing_of t number ≡ Some page) (k : ℕ) → page + 1 ≤ k → is_looked_at t k number ≡ false
  behind looked k low = ap (is_page k) looked ∙ false_from_ne_true (page == k) (λ e. let same = eqb-true page k e in omega (arith, same, low))

  due-read : (from : ℕ) (numbers : List ℕ) → oldest_in t ≤ from → from ≤ page → listing_of t number ≡ Some page → AllByRecursion (λ n. number ≤ n) numbers → due t (number ∷ numbers) from ≤ 1 + due t numbers (page + 1)
  due-read from numbers low le looked later =
      let k = page - from in
      let n = next_in t - (page + 1) in
      let parts : next_in t - from ≡ k + suc n = omega (arith, le, here.1) in
      let at : from + k ≡ page = omega (arith, le) in
      let split = ap (λ m. count_by (looked-by t (number ∷ numbers)) (range_with_len from m)) parts ∙ count-split (looked-by t (number ∷ numbers)) k (suc n) from in
      let moved = ap (λ a. count_by (looked-by t (number ∷ numbers)) (range_with_len a (suc n))) at in
      let front = count-none (looked-by t (number ∷ numbers)) k from (λ j from_j to_j. none-looked t j number (number ∷ numbers) (before-it t f first plan table stands number page listing j (omega (arith, from_j, low)) (omega (arith, to_j, at))) (omega arith, later)) in
      let others = due-same t number (page + 1) numbers (behind looked) in
      omega (arith, split, moved, front, count-cons (looked-by t (number ∷ numbers)) n page, one_at_most (looked-by t (number ∷ numbers) page), others)

  -- at least it reads the page where that isn't held
  pub scan-least : (from : ℕ) (old after : BufferState) (a b : FlashState) (numbers : List ℕ) → IsScanning t number from old → listing_of t number ≡ Some page → AllByRecursion (λ n. number ≤ n) numbers →
      ((IsHeld t page old → ⊥) → a.work.reads + 1 ≤ b.work.reads) → (IsHeld t page old → (b ≡ a) × (after ≡ old)) → after.holds ≡ Some (place_in t page) → page_number after.bytes ≡ page →
      a.work.reads + due t (number ∷ numbers) from ≤ b.work.reads + due t numbers (next_to_read t after)
  scan-least from old after a b numbers scanning looked later read held holds number_is =
      let w = where-page from old scanning in
      let next : next_to_read t after ≡ page + 1 = ap (after_held (oldest_in t) (page_number after.bytes)) holds ∙ ap (λ n. n + 1) number_is in
      let same = ap (due t numbers) next in
      elim w.1 [
        | inl h ↦ let one = read h.1 in let few = due-read from numbers w.0 h.0 looked later in omega (arith, one, few, same)
        | inr h ↦
            let r = ap (λ (x : FlashState). x.work.reads) (held h.0).0 in
            let few = due-same t number (page + 1) numbers (behind looked) in
            let moved = ap (due t (number ∷ numbers)) h.1 in
            omega (arith, r, few, moved, same)
      ]
