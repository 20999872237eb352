-- The rule on the keys of a data ring: they ascend over its committed pages.
use Rattle.std.specs.Prelude.{◌≡◌, ℕ, zero, suc, true, if◌then◌else◌, Option, Some, None, List, [], ◌∷◌}
use Rattle.fl_mark.specs.Mark.{state_of_page}
use Rattle.fl_model.specs.Record.{RowLayout}
use Rattle.fl_model.specs.Row.{Row}
use Rattle.fl_page.specs.Header.{page_number}
use Rattle.fl_page.specs.Page.{rows_in, IsGoodPage}
use Rattle.fl_page.specs.Steps.{Ascends}
use Rattle.fl_ring.specs.Newest.{commits}
use Rattle.fl_ring.specs.Ring.{Shape}
use Rattle.fl_rules.specs.Claims.{AllBelow}
use Rattle.fl_rules.specs.Marks.{kept_page, IsFirstKept}
use Rattle.fl_rules.specs.declared.marks.Marks.{Marks}

-- the last key of rows, or the one before them where there are none
abbrev pub last_in : Option ℕ → List Row → Option ℕ
last_in before [] = before
last_in before (row ∷ rows) = last_in (Some row.key) rows

-- the last key after a page, whose rows count where it is committed
abbrev pub last_after : RowLayout → List ℕ → Option ℕ → Option ℕ
last_after layout page before = if commits (state_of_page page) then last_in before (rows_in layout page) else before

-- a committed page has from one row on as many as it has room for
abbrev pub HasRows : RowLayout → List ℕ → Type 0
HasRows layout page = commits (state_of_page page) ≡ true → IsGoodPage layout (page_number page) page

-- the keys of a committed page ascend, the first above the last one before it
abbrev pub RisesFrom : RowLayout → Option ℕ → List ℕ → Type 0
RisesFrom layout before page = commits (state_of_page page) ≡ true → Ascends before (rows_in layout page)

-- the last key of the first i kept pages
abbrev pub last_key : RowLayout → (ℕ → List ℕ) → Shape → Marks → ℕ → Option ℕ
last_key layout page r m zero = None
last_key layout page r m (suc i) = last_after layout (page (kept_page r m i)) (last_key layout page r m i)

-- the keys of the i-th kept page ascend from those of the pages before it on
abbrev pub Rises : RowLayout → (ℕ → List ℕ) → Shape → Marks → ℕ → Type 0
Rises layout page r m i = RisesFrom layout (last_key layout page r m i) (page (kept_page r m i))

abbrev pub KeysAscend : RowLayout → (ℕ → List ℕ) → Shape → Marks → Type 0
KeysAscend layout page r m = AllBelow (Rises layout page r m) m.kept

abbrev pub HaveRows : RowLayout → (ℕ → List ℕ) → Shape → Marks → Type 0
HaveRows layout page r m = AllBelow (λ i. HasRows layout (page (kept_page r m i))) m.kept

-- the oldest kept page whose keys don't
abbrev pub KeysBreak : RowLayout → (ℕ → List ℕ) → Shape → Marks → ℕ → Type 0
KeysBreak layout page r m p = IsFirstKept (Rises layout page r m) r m p
