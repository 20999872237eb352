-- The headers of the pages of an index: the newest one, and one first data page more of those that a mount reads.
use Rattle.std.proofs.Common.{◌≡◌, ◌≢◌, ◌⊎◌, inl, inr, ℕ, zero, suc, ◌+◌, ◌-◌, ◌%◌, ◌<◌, ◌≤◌, false, cond, ◌==◌, Option, Some, None, List, length, take, get_or, set, refl, sym, ◌∙◌, ap, subst, arith, eq-eqb, length-set, get_or-set_other, get_or-set_same}
use Rattle.std.proofs.Math.Nat.{mod-lt}
use Rattle.std.proofs.lemmas.Bool.{cases_lt, ne_eqb, true≢false}
use Rattle.std.specs.Option.{option_map}
use Rattle.fl_mark.specs.Mark.{state_of_page}
use Rattle.fl_mark.specs.declared.page_state.PageState.{PageState}
use Rattle.fl_mark.specs.declared.page_state.PageState.TheVariants.{Blank, Torn, Committed, Void}
use Rattle.fl_model.specs.Row.{number_of}
use Rattle.fl_model.proofs.Lists.{take-drop-take}
use Rattle.fl_ring.specs.Newest.{commits, NewestAmong}
use Rattle.fl_ring.specs.Ring.{Shape, place}
use Rattle.fl_ring.specs.declared.newest.NewestPage.{NewestPage}
use Rattle.fl_ring.proofs.Modulo.{apart}
use Rattle.fl_ring.proofs.PageStates.{committed-is}
use Rattle.fl_index.specs.declared.mount.Newest.{Newest}
use Rattle.fl_index.specs.Headers.{header_of, IsNewest, AreRemembered}
use Rattle.fl_index.specs.Page.{page_first, page_entries, first_on, first_where, newest_of, newest_where}

no-first : (state : PageState) (first : ℕ) → (state ≡ Committed → ⊥) → first_where state first ≡ None
no-first Committed first h = absurd (h refl)
no-first Blank first h = refl
no-first Torn first h = refl
no-first Void first h = refl

no-newest : (state : PageState) (number : ℕ) (older : Option ℕ) → (state ≡ Committed → ⊥) → newest_where state number older ≡ older
no-newest Committed number older h = absurd (h refl)
no-newest Blank number older h = refl
no-newest Torn number older h = refl
no-newest Void number older h = refl

-- the first data page of a page that is committed, or isn't
pub no-first-on : (page : List ℕ) → (state_of_page page ≡ Committed → ⊥) → first_on page ≡ None
no-first-on page h = no-first (state_of_page page) (page_first page) h

pub first-on : (page : List ℕ) → state_of_page page ≡ Committed → first_on page ≡ Some (page_first page)
first-on page e = ap (λ (s : PageState). first_where s (page_first page)) e

abbrev header_with : ℕ → ℕ → ℕ → Newest
header_with at first count = record { page = at; first = first; count = count }

pub header-same : (at : ℕ) (page : List ℕ) → header_of at (take 16 page) ≡ header_of at page
header-same at page =
    ap (λ (k : ℕ). header_with at k (page_entries (take 16 page))) (ap number_of (take-drop-take 4 4 16 page (omega arith)))
    ∙ ap (header_with at (page_first page)) (ap number_of (take-drop-take 2 8 16 page (omega arith)))

not-committed : (s : PageState) → commits s ≡ false → s ≡ Committed → ⊥
not-committed s e is = true≢false (ap commits (sym is) ∙ e)

-- the newest of so many pages, as a search backwards finds it
module _ (page : ℕ → List ℕ) (from : ℕ) where
  -- the pages from a number on aren't committed
  older : (n k : ℕ) → n ≤ k → ((number : ℕ) → from + n ≤ number → number < from + k → commits (state_of_page (page number)) ≡ false) → newest_of page from k ≡ newest_of page from n
  older n zero le none = ap (newest_of page from) (let e : zero ≡ n = omega (arith, le) in e)
  older n (suc k) le none = by_place (cases_lt k n) (λ below. older n k below (λ number low high. none number low (omega (arith, high))))
    where
      by_place : (k < n) ⊎ (n ≤ k) → (n ≤ k → newest_of page from k ≡ newest_of page from n) → newest_of page from (suc k) ≡ newest_of page from n
      by_place (inl lt) rest = ap (newest_of page from) (let e : suc k ≡ n = omega (arith, le, lt) in e)
      by_place (inr below) rest =
          no-newest (state_of_page (page (from + k))) (from + k) (newest_of page from k) (not-committed (state_of_page (page (from + k))) (none (from + k) (omega (arith, below)) (omega arith)))
          ∙ rest below

pub newest-header : (pages : ℕ → List ℕ) (r : Shape) (from to : ℕ) (newest : Option NewestPage) → from ≤ to → NewestAmong pages r from to newest →
    IsNewest (place r) (λ number. pages (place r number)) (newest_of (λ number. pages (place r number)) from (to - from)) (option_map (λ n. header_of (place r n.number) n.header) newest)
newest-header pages r from to None le none =
    let at : ℕ → List ℕ = λ number. pages (place r number) in
    let nothing : newest_of at from (to - from) ≡ None = older at from 0 (to - from) (omega arith) (λ number low high. none number (omega (arith, low)) (omega (arith, high, le))) in
    subst (λ (o : Option ℕ). IsNewest (place r) at o None) (sym nothing) refl
newest-header pages r from to (Some n) le is =
    let at : ℕ → List ℕ = λ number. pages (place r number) in
    let k = n.number - from in
    let number : from + k ≡ n.number = omega (arith, is.within) in
    let here : state_of_page (at (from + k)) ≡ Committed = ap (λ (m : ℕ). state_of_page (at m)) number ∙ committed-is (state_of_page (at n.number)) is.committed in
    let last : newest_of at from (to - from) ≡ Some n.number =
    older at from (suc k) (to - from) (omega (arith, is.within)) (λ m low high. is.later m (omega (arith, low, number)) (omega (arith, high, le)))
    ∙ (ap (λ (s : PageState). newest_where s (from + k) (newest_of at from k)) here ∙ ap (λ (m : ℕ). Some m) number) in
    subst (λ (o : Option ℕ). IsNewest (place r) at o (Some (header_of (place r n.number) n.header))) (sym last)
    (ap (λ (l : List ℕ). Some (header_of (place r n.number) l)) is.header ∙ ap (λ (h : Newest). Some h) (header-same (place r n.number) (at n.number)))

-- `number` is that of the page after n pages, and m the pages with it
module _ (page : ℕ → List ℕ) (from n number m : ℕ) (here : number ≡ from + n) (more : m ≡ suc n) where
  pub remembered-more : (firsts : List (Option ℕ)) (first : Option ℕ) → m ≤ length firsts → first ≡ first_on (page number) → AreRemembered page from n firsts → AreRemembered page from m (set firsts (number % length firsts) first)
  remembered-more firsts first fits is were i lt =
      ap (λ k. get_or (set firsts (number % length firsts) first) ((from + i) % k) None) (length-set firsts (number % length firsts) first) ∙ by_place (cases_lt i n)
    where
      by_place : (i < n) ⊎ (n ≤ i) → get_or (set firsts (number % length firsts) first) ((from + i) % length firsts) None ≡ first_on (page (from + i))
      by_place (inl less) =
          let ne : (from + i) % length firsts ≢ number % length firsts = apart (length firsts) (from + i) number (omega (arith, here, less)) (omega (arith, here, less, fits, more)) in
          get_or-set_other firsts (number % length firsts) ((from + i) % length firsts) first None ne ∙ were i less
      by_place (inr equal) =
          let e : n ≡ i = omega (arith, equal, lt, more) in
          let k : from + i ≡ number = omega (arith, here, e) in
          let some : number % length firsts < length firsts = mod-lt number (omega (arith, fits, more)) in
          ap (λ j. get_or (set firsts (number % length firsts) first) (j % length firsts) None) k
          ∙ (get_or-set_same firsts (number % length firsts) first None some ∙ (is ∙ ap (λ j. first_on (page j)) (sym k)))

-- the first data page of the next index page is remembered, and those of the pages before it stay that have other places
pub remembered-behind : (firsts : List (Option ℕ)) (next number : ℕ) (first : Option ℕ) → number < next + 1 → next + 1 ≤ number + length firsts →
    get_or (set firsts (next % length firsts) first) (number % length firsts) None ≡ cond (number == next) first (get_or firsts (number % length firsts) None)
remembered-behind firsts next number first low fits = by_place (cases_lt number next)
  where
    by_place : (number < next) ⊎ (next ≤ number) → get_or (set firsts (next % length firsts) first) (number % length firsts) None ≡ cond (number == next) first (get_or firsts (number % length firsts) None)
    by_place (inl less) =
        let ne : number % length firsts ≢ next % length firsts = apart (length firsts) number next less (omega (arith, fits)) in
        get_or-set_other firsts (next % length firsts) (number % length firsts) first None ne
        ∙ sym (ap (λ b. cond b first (get_or firsts (number % length firsts) None)) (ne_eqb number next (λ e. omega (arith, e, less))))
    by_place (inr most) =
        let same : number ≡ next = omega (arith, most, low) in
        let some : next % length firsts < length firsts = mod-lt next (omega (arith, low, fits)) in
        ap (λ n. get_or (set firsts (next % length firsts) first) (n % length firsts) None) same
        ∙ (get_or-set_same firsts (next % length firsts) first None some ∙ sym (ap (λ b. cond b first (get_or firsts (number % length firsts) None)) (eq-eqb number next same)))
