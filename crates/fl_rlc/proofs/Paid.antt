-- After the replay of a log, whatever records it has, none of them is above the last of the table, while page numbers are left.
use Rattle.std.proofs.Common.{◌≡◌, ℕ, ◌<◌, ◌≤◌, Bool, true, false, cond, ◌==◌, ◌&&◌, nat_lt, Option, Some, None, List, [], ◌∷◌, ◌++◌, length, take, drop, filter, refl, sym, ◌∙◌, ap, subst, arith, ◌⊎◌, inl, inr, eq-eqb}
use Rattle.std.specs.List.{AllByRecursion, last_or, sum}
use Rattle.std.specs.Option.{option_map, unwrap_or}
use Rattle.std.proofs.lemmas.Bool.{eqb-true, ltb-false, false≢true, true≢false, le-ltb}
use Rattle.std.proofs.lemmas.List.{drop-append-le}
use Rattle.std.proofs.lemmas.List.Sums.{sum_by-take-le}
use Rattle.std.proofs.lemmas.Option.{none-some, same_Some}
use Rattle.fl_base.proofs.Tests.{some_from}
use Rattle.fl_model.specs.Bare.{bare, bare_table, log_of, beside}
use Rattle.fl_model.specs.Facts.{IsLogPage}
use Rattle.fl_model.specs.Mount.{joined}
use Rattle.fl_model.specs.Record.{Plan, has_index, entries_per_page}
use Rattle.fl_model.specs.Ring.{IsShape}
use Rattle.fl_model.specs.Table.{Table, Entry, DataRing, IndexRing, VarRing, shape_of, after_seal, after_seals, table_seals, fill, has_rows, is_after, is_rows_spent, log_pages, owed}
use Rattle.fl_model.proofs.Lists.{each-back, each-weaker, last_or-back}
use Rattle.fl_machine.specs.Found.{HasRoom}
use Rattle.fl_machine.proofs.Logs.{core, front_of, Tops, filter_none, front-all}
use Rattle.fl_machine.proofs.LogSeals.{is_last, last-key, ascending-tops}
use Rattle.fl_machine.proofs.LogReplays.{replayed-owed}
use Rattle.fl_machine.proofs.LogOperations.{marked-by}
use Rattle.fl_machine.proofs.LogTables.{seals_by}

-- ---- lists

-- the last of some that passes a test is the last of those that do
last-kept : (test : Entry → Bool) (xs : List Entry) (w : Entry) (o : Option Entry) → last_or None xs ≡ Some w → test w ≡ true → last_or o (filter test xs) ≡ Some w
last-kept test [] w o e k = absurd (none-some w e)
last-kept test (x ∷ []) w o e k =
    let same : x ≡ w = same_Some _ _ e in
    let passes : test x ≡ true = ap test same ∙ k in
    ap (λ (b : Bool). last_or o (cond b (x ∷ []) [])) passes ∙ e
last-kept test (x ∷ y ∷ ys) w o e k = by-test (test x) (last-kept test (y ∷ ys) w (Some x) e k) (last-kept test (y ∷ ys) w o e k)
  where
    by-test : (b : Bool) → last_or (Some x) (filter test (y ∷ ys)) ≡ Some w → last_or o (filter test (y ∷ ys)) ≡ Some w → last_or o (cond b (x ∷ filter test (y ∷ ys)) (filter test (y ∷ ys))) ≡ Some w
    by-test true here rest = here
    by-test false here rest = rest

-- where the last of them, which has the greatest key, isn't above others, none of them is
below-all : (others es : List Entry) (w : Entry) → last_or None es ≡ Some w → Tops es → is_after others w ≡ false → filter (λ e. is_after others e) es ≡ []
below-all others es w e tops below = filter_none (λ x. is_after others x) es (each-weaker (λ x. x.kept.key ≤ last_key_of) (λ x. is_after others x ≡ false) (λ x le. by-last x le (last_or None others) refl below) es tops)
  where
    last_key_of : ℕ
    last_key_of = unwrap_or (option_map (λ (x : Entry). x.kept.key) (last_or None es)) 0

    by-last : (x : Entry) → x.kept.key ≤ last_key_of → (o : Option Entry) → last_or None others ≡ o → unwrap_or (option_map (λ (l : Entry). nat_lt l.kept.key w.kept.key) o) true ≡ false → is_after others x ≡ false
    by-last x le None q k = absurd (true≢false k)
    by-last x le (Some l) q k =
        let more = ltb-false l.kept.key w.kept.key k in
        let key = last-key es w e in
        ap (λ (o : Option Entry). unwrap_or (option_map (λ (l : Entry). nat_lt l.kept.key x.kept.key) o) true) q ∙ le-ltb l.kept.key x.kept.key (omega (arith, le, key, more))

-- behind those of them that are above others none of them is
above-none : (others es front : List Entry) → Tops es → 0 < length (filter (λ e. is_after others e) es) → filter (λ e. is_after (front ++ filter (λ e. is_after others e) es) e) es ≡ []
above-none others es front tops some = by-last (is_last es)
  where
    none-kept : filter (λ e. is_after others e) es ≡ [] → ⊥
    none-kept z = let n : length (filter (λ e. is_after others e) es) ≡ 0 = ap (λ (xs : List Entry). length xs) z in omega (arith, n, some)

    by-last : (es ≡ []) ⊎ ((w : Entry) × (last_or None es ≡ Some w)) → filter (λ e. is_after (front ++ filter (λ e. is_after others e) es) e) es ≡ []
    by-last (inl z) = absurd (none-kept (ap (filter (λ e. is_after others e)) z))
    by-last (inr (w, e)) = by-test (is_after others w) refl
      where
        by-test : (b : Bool) → is_after others w ≡ b → filter (λ e. is_after (front ++ filter (λ e. is_after others e) es) e) es ≡ []
        by-test false k = absurd (none-kept (below-all others es w e tops k))
        by-test true k =
            let last : last_or None (front ++ filter (λ e. is_after others e) es) ≡ Some w = last_or-back None front (filter (λ e. is_after others e) es) some ∙ last-kept (λ e. is_after others e) es w None e k in
            filter_none (λ e. is_after (front ++ filter (λ e. is_after others e) es) e) es
            (each-weaker (λ x. x.kept.key ≤ unwrap_or (option_map (λ (y : Entry). y.kept.key) (last_or None es)) 0) (λ x. is_after (front ++ filter (λ e. is_after others e) es) x ≡ false)
            (λ x le. let key = last-key es w e in ap (λ (o : Option Entry). unwrap_or (option_map (λ (l : Entry). nat_lt l.kept.key x.kept.key) o) true) last ∙ le-ltb w.kept.key x.kept.key (omega (arith, le, key)))
            es tops)

-- ---- the records of a log

-- their keys ascend
pub logged-tops : (plan : Plan) (table : Table) → AllByRecursion (IsLogPage plan) (log_pages table) → (has_rows table.log ≡ false → table.logged ≡ []) → Tops table.logged
logged-tops plan table fit some = by-rows (has_rows table.log) refl fit
  where
    by-rows : (b : Bool) → has_rows table.log ≡ b → AllByRecursion (IsLogPage plan) (table.logged_before ++ cond b (table.logged ∷ []) []) → Tops table.logged
    by-rows true e h = ascending-tops table.logged (each-back (IsLogPage plan) table.logged_before (table.logged ∷ []) h).0.ascending
    by-rows false e h = subst Tops (sym (some e)) tt

-- ---- the seals of what joined

-- what a table has after its seals: what joined, and the end of what was there
record Sealed (before more : List Entry) (after : Table) : Type 0 where
  gone : ℕ
  entries : after.entries ≡ drop gone before ++ more
  none : after.pending ≡ 0

module _ (plan : Plan) (shape : IsShape (shape_of (bare plan) DataRing)) where
  -- without its log a table has room for what is said of tables with one
  room : HasRoom (bare plan)
  room = record { blocks = shape.blocks; pages = shape.pages; log_blocks = λ some. absurd (false≢true some); no_var = λ some. absurd (false≢true some) }

  seals-leave : (t : Table) (before more : List Entry) → t.entries ≡ before ++ more → sum t.rows.counts ≡ length before → length t.rows.counts ≤ t.rows.next → (a b : Bool) → Sealed before more (after_seals (bare plan) (seals_by false a b) t)
  seals-leave t before more is counted numbered a b = by-rings a b
    where
      last : (u : Table) → core u ≡ core t → Sealed before more (after_seal (bare plan) DataRing u)
      last u e =
          let counts : u.rows.counts ≡ t.rows.counts = ap (λ c. c.counts) e in
          let next : u.rows.next ≡ t.rows.next = ap (λ c. c.next) e in
          let long : length u.rows.counts ≡ length t.rows.counts = ap (λ (xs : List ℕ). length xs) counts in
          let m = (marked-by (bare plan) u room (omega (arith, long, next, numbered))).0 in
          let all : sum u.rows.counts ≡ length before = ap sum counts ∙ counted in
          let few : sum (take m.gone u.rows.counts) ≤ sum u.rows.counts = sum_by-take-le (λ (n : ℕ). n) u.rows.counts m.gone in
          record {
            gone = sum (take m.gone u.rows.counts);
            entries = m.entries ∙ (ap (drop (sum (take m.gone u.rows.counts))) (ap (λ c. c.entries) e ∙ is) ∙ drop-append-le (sum (take m.gone u.rows.counts)) before more (omega (arith, few, all)));
            none = m.pending;
          }

      by-rings : (a b : Bool) → Sealed before more (after_seals (bare plan) (seals_by false a b) t)
      by-rings true true = last (after_seal (bare plan) VarRing (after_seal (bare plan) IndexRing t)) refl
      by-rings true false = last (after_seal (bare plan) IndexRing t) refl
      by-rings false true = last (after_seal (bare plan) VarRing t) refl
      by-rings false false = last t refl

  module _ (y : Table) (none : y.pending ≡ 0) (counted : sum y.rows.counts ≡ length y.entries) (numbered : length y.rows.counts ≤ y.rows.next) (tops : Tops y.logged) where
    -- the table with its log beside it, after these seals
    abbrev sealed_by : Table → Bool → Bool → Bool → Table
    sealed_by t z a b = beside (log_of t) (after_seals (bare plan) (seals_by z a b) (bare_table t))

    abbrev with_owed : Table
    with_owed = record y { entries = y.entries ++ owed y; pending = length (owed y) }

    nothing : (es : List Entry) → (length es == 0) ≡ true → es ≡ []
    nothing [] e = refl
    nothing (x ∷ xs) e = absurd (let none = eqb-true (length (x ∷ xs)) 0 e in omega (arith, none))

    -- no page can be sealed, so none was
    spent : (z a b : Bool) → (y.pending == 0) ≡ z → is_rows_spent y ≡ true → is_rows_spent (sealed_by y z a b) ≡ false → owed (sealed_by y z a b) ≡ []
    spent true a b e s left = absurd (true≢false (sym s ∙ left))
    spent false a b e s left = absurd (true≢false (sym (eq-eqb y.pending 0 none) ∙ e))

    joins : (z a b : Bool) → (length (owed y) == 0) ≡ z → owed (sealed_by with_owed z a b) ≡ []
    joins true a b e = replayed-owed (core y) none ∙ nothing (owed y) e
    joins false a b e =
        let s = seals-leave (bare_table with_owed) y.entries (owed y) refl counted numbered a b in
        let last = sealed_by with_owed false a b in
        let front : front_of (core (sealed_by with_owed false a b)) ≡ drop s.gone y.entries ++ owed y = front-all (core last) s.none ∙ s.entries in
        let whole : front_of (core y) ≡ y.entries = front-all (core y) none in
        ap (λ (es : List Entry). filter (λ e. is_after es e) y.logged) front ∙ above-none (front_of (core y)) y.logged (drop s.gone y.entries) tops (some_from (length (owed y)) e)

    pub sealed-paid : is_rows_spent (beside (log_of (joined y)) (after_seals (bare plan) (table_seals (bare plan) (bare_table (joined y))) (bare_table (joined y)))) ≡ false →
        owed (beside (log_of (joined y)) (after_seals (bare plan) (table_seals (bare plan) (bare_table (joined y))) (bare_table (joined y)))) ≡ []
    sealed-paid = by-spent (is_rows_spent y) refl
      where
        by-spent : (s : Bool) → is_rows_spent y ≡ s → let t = cond s y with_owed in let last = beside (log_of t) (after_seals (bare plan) (table_seals (bare plan) (bare_table t)) (bare_table t)) in is_rows_spent last ≡ false → owed last ≡ []
        by-spent true e = spent (y.pending == 0) (has_index (bare plan) && (length y.waiting == entries_per_page (bare plan))) (nat_lt 0 (fill y)) refl e
        by-spent false e = λ left. joins (length (owed y) == 0) (has_index (bare plan) && (length y.waiting == entries_per_page (bare plan))) (nat_lt 0 (fill y)) refl
