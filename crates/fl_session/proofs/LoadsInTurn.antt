-- The records of a load, put one after another, and what became of the next one.
use Rattle.std.proofs.Common.{◌≡◌, ℕ, suc, ◌+◌, true, false, Option, None, Some, Result, Ok, Err, IfErr, List, refl, ◌∙◌, ap, subst, arith, is_err, OnOk, ℤ}
use Rattle.fl_base.specs.Generator.{next_random}
use Rattle.fl_flash.specs.Flash.{FlashState, Goes}
use Rattle.fl_model.specs.Row.{Row}
use Rattle.fl_frame.proofs.WatchedInTurn.{cause-later}
use Rattle.fl_rlc.specs.Paged.{HasMadePage, PutLogged}
use Rattle.fl_rlc.specs.Refusal.{NeedsNoOperation, RefusedSame, put_refusal}
use Rattle.fl_rlc.specs.Rows.{HaveLogged}
use Rattle.fl_rlc.specs.Table.{IsSamePlan, is_running, log_in, table_in}
use Rattle.fl_rlc.specs.declared.table.LoggedTable.{LoggedTable}
use Rattle.fl_table.specs.Causes.{PutCausedBy}
use Rattle.fl_table.specs.Look.{last_key_in, layout_in}
use Rattle.fl_table.specs.Memory.{HasRoom}
use Rattle.fl_table.specs.Refusal.{RefusesAs}
use Rattle.fl_table.specs.Stored.{Stores}
use Rattle.fl_table.specs.declared.faults.PutRefusal.{PutRefusal}
use Rattle.fl_table.specs.declared.faults.PutRefusal.TheVariants as put
use Rattle.fl_session.proofs.RunningPuts.{runs-on}
use Rattle.fl_session.specs.LoadSays.{LoadEnds, LoadFails, Loads, LoadsNext, WritesOne, next_row, random_at}

-- ---- the next record

abbrev row_of : ℕ → List ℤ → Row
row_of key values = record { key = key; values = values; blob = None }

module _ (step seed n : ℕ) (t u : LoggedTable 64 64) (m g : FlashState) (key : ℕ) (values : List ℤ) (k : key ≡ (next_row t step seed n).key) (v : values ≡ (next_row t step seed n).values) where
  row-is : row_of key values ≡ next_row t step seed n
  row-is = ap (λ (x : ℕ). row_of x values) k ∙ ap (λ (vs : List ℤ). row_of (next_row t step seed n).key vs) v

  -- it was put
  pub loads-next : (outcome : Result (Unit {0}) PutRefusal) → is_err outcome ≡ false → RefusesAs (put_refusal t key values None) outcome → OnOk outcome (last_key_in (table_in u) ≡ Some key) →
      OnOk outcome (Stores (table_in t) key values None (table_in u)) →
      OnOk outcome (HaveLogged (layout_in (table_in t)) (row_of key values) (log_in t) (log_in u)) → (put_refusal t key values None ≡ None → NeedsNoOperation t None → (outcome ≡ Ok tt) × (g ≡ m)) →
      OnOk outcome (m.is_on ≡ true → g.is_on ≡ true) → OnOk outcome (PutLogged t (row_of key values) m g) → OnOk outcome ((HasRoom (table_in t) → ⊥) → HasMadePage t None m g) → WritesOne t m g → IsSamePlan t u → LoadsNext step seed n t m u g
  loads-next (Err e) ok exact last stores logs quiet power logged sealed writes same = absurd (cc ok)
  loads-next (Ok done) ok exact last stores logs quiet power logged sealed writes same =
      let accepted : put_refusal t key values None ≡ None = accepts (put_refusal t key values None) exact in
      record {
        accepted = subst (λ (r : Row). put_refusal t r.key r.values None ≡ None) row-is accepted;
        last = subst (λ (r : Row). last_key_in (table_in u) ≡ Some r.key) row-is last;
        stores = subst (λ (r : Row). Stores (table_in t) r.key r.values None (table_in u)) row-is stores;
        logs = subst (λ (r : Row). HaveLogged (layout_in (table_in t)) r (log_in t) (log_in u)) row-is logs;
        quiet = λ none. (quiet accepted none).1;
        power = power;
        log_page = subst (λ (r : Row). PutLogged t r m g) row-is logged;
        sealed = sealed;
        writes = writes;
        same = same;
      }
    where
      accepts : (o : Option PutRefusal) → RefusesAs o (Ok tt) → o ≡ None
      accepts None is = refl
      accepts (Some refusal) is = absurd (cc is)

  -- it wasn't
  pub load-ends : (outcome : Result (Unit {0}) PutRefusal) → is_err outcome ≡ true → RefusesAs (put_refusal t key values None) outcome → IfErr outcome (λ e. RefusedSame t m e u g) → WritesOne t m g → LoadEnds step seed n t m outcome u g
  load-ends (Ok done) err exact same writes = absurd (cc err)
  load-ends (Err refusal) err exact same writes = (subst (λ (r : Row). RefusesAs (put_refusal t r.key r.values None) (Err refusal)) row-is exact, same, writes)

-- ---- so many of them

pub loads-more : (step seed n : ℕ) (t mid u : LoggedTable 64 64) (f m g : FlashState) → Loads step seed n t f mid m → LoadsNext step seed n mid m u g → Loads step seed (n + 1) t f u g
loads-more step seed n t mid u f m g puts one = subst (λ k. Loads step seed k t f u g) (let s : suc n ≡ n + 1 = omega arith in s) (mid, m, puts, one)

-- the pseudo-random number of one more
pub random-more : (seed n was now : ℕ) → now ≡ next_random was → was ≡ random_at seed n → now ≡ random_at seed (n + 1)
random-more seed n was now next is = next ∙ (ap (λ (r : ℕ). next_random r) is ∙ ap (random_at seed) (let s : suc n ≡ n + 1 = omega arith in s))

-- ---- why a load failed

pub load-fails : (t : LoggedTable 64 64) (key : ℕ) (values : List ℤ) (f m n : FlashState) (outcome : Result (Unit {0}) PutRefusal) → is_running t ≡ true → RefusesAs (put_refusal t key values None) outcome → (f.is_on ≡ true → m.is_on ≡ true) → Goes f m →
    IfErr outcome (λ e. PutCausedBy m e n) → IfErr outcome (LoadFails f n)
load-fails t key values f m n (Ok done) runs exact on goes cause = tt
load-fails t key values f m n (Err (put.Flash fault)) runs exact on goes cause = cause-later f m n goes on fault cause
load-fails t key values f m n (Err (put.Key last)) runs exact on goes cause = tt
load-fails t key values f m n (Err (put.Columns wanted)) runs exact on goes cause = tt
load-fails t key values f m n (Err (put.Value column)) runs exact on goes cause = tt
load-fails t key values f m n (Err (put.Blob limit)) runs exact on goes cause = tt
load-fails t key values f m n (Err put.Spent) runs exact on goes cause = tt
load-fails t key values f m n (Err put.Stopped) runs exact on goes cause = runs-on t key values None runs exact
