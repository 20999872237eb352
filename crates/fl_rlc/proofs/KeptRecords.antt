-- What the log of a mounted table has, as the laws on logs speak of it.
use Rattle.std.proofs.Common.{◌≡◌, ℕ, ◌+◌, ◌-◌, ◌<◌, inl, inr, Bool, false, Option, Some, None, IfSome, IsTrue, List, [], ◌∷◌, ◌++◌, length, take, drop, slice_get, sym, ◌∙◌, ap, subst, arith, length-take}
use Rattle.std.specs.List.{last_or}
use Rattle.std.proofs.lemmas.Option.{none-some}
use Rattle.fl_model.specs.Facts.{IsTable}
use Rattle.fl_model.specs.Log.{IsLog, IsSafe}
use Rattle.fl_model.specs.Record.{Plan}
use Rattle.fl_model.specs.Ring.{Ring}
use Rattle.fl_model.specs.Table.{Table, is_after}
use Rattle.fl_model.proofs.Lists.{slice_get-drop, slice_get-front, last_or-get}
use Rattle.fl_machine.proofs.RecordsChange.{Any, adds-all, sure_in}
use Rattle.fl_machine.proofs.Logs.{core, log_in, IsFine, IsThere, IsSafePage, AreAbove, front_of, rest_of}
use Rattle.fl_machine.proofs.LogSeals.{ascending-tops}
use Rattle.fl_machine.proofs.LogTables.{Between, Resting, Pending}
use Rattle.fl_machine.proofs.LogJoins.{after-above}
use Rattle.fl_parts.proofs.EntriesFit.{each-from}
use Rattle.fl_rlc.specs.Logged.{IsKept}

-- where a list ends
last-at : {X : Type 0} (xs : List X) (w : X) → last_or None xs ≡ Some w → (i : ℕ) × (i < length xs) × (slice_get xs i ≡ Some w)
last-at [] w e = absurd (none-some w e)
last-at (x ∷ xs) w e = (length xs, omega arith, sym (last_or-get None x xs) ∙ e)

-- pending records are above those of data pages
pub pending-above : (plan : Plan) (table : Table) → IsTable plan table → AreAbove (front_of (core table)) (rest_of (core table))
pending-above plan table facts =
    let n = length table.entries - table.pending in
    each-from (λ e. IsTrue (is_after (take n table.entries) e)) (drop n table.entries)
    (λ j e at. after-above (take n table.entries) e (λ w last.
    let k = last-at (take n table.entries) w last in
    facts.ascending k.0 (length table.entries - table.pending + j) w e (omega (arith, k.1, length-take n table.entries)) (slice_get-front n table.entries k.0 w k.2) (sym (slice_get-drop n table.entries j) ∙ at)))

-- the facts of a table with a log, and those of its core
pub fine-of : (plan : Plan) (table : Table) (ring : Ring) → table.log ≡ Some ring → IsTable plan table → IsFine (core table)
fine-of plan table ring is facts = record {
  counted = facts.counted;
  numbered = facts.rows.not_negative;
  has_log = subst (λ (o : Option Ring). IsThere (log_in o)) (sym is) tt;
  greatest = let n = length table.entries - table.pending in ascending-tops (take n table.entries) (λ i j a b less p q. facts.ascending i j a b less (slice_get-front n table.entries i a p) (slice_get-front n table.entries j b q));
  ascending = facts.logged.ascending;
  whole = facts.logged.whole;
  safe = λ some. subst (λ (o : Option Ring). IfSome (log_in o) IsSafePage) (sym is) (subst (λ (o : Option Ring). IfSome o IsSafe) is (facts.logged.safe some));
}

pub log-of : (table : Table) (ring : Ring) → table.log ≡ Some ring → IsFine (core table) → IsLog table
log-of table ring is fine = record {
  ascending = fine.ascending;
  whole = fine.whole;
  safe = λ some. subst (λ (o : Option Ring). IfSome o IsSafe) (sym is) (subst (λ (o : Option Ring). IfSome (log_in o) IsSafePage) is (fine.safe some));
}

pub between-of : (plan : Plan) (table : Table) (ring : Ring) → table.log ≡ Some ring → ring.torn ≡ false → table.rows.torn ≡ false → IsTable plan table → IsKept table → Between Any table
between-of plan table ring is calm whole facts (inl h) =
    let last = subst (λ (o : Option Ring). IfSome o (λ r. (others : List ℕ) × (count : ℕ) × (0 < count) × (r.counts ≡ others ++ count ∷ []))) is h.last in
    Pending (fine-of plan table ring is facts) (record { some = h.some; same = h.same; above = pending-above plan table facts })
    (last.0, last.1, last.2, ap log_in is ∙ (ap (λ (cs : List ℕ). Some (cs, ring.torn)) last.3 ∙ ap (λ (b : Bool). Some (last.0 ++ last.1 ∷ [], b)) calm)) (adds-all (sure_in (core table)))
between-of plan table ring is calm whole facts (inr h) = Resting (fine-of plan table ring is facts) (record { none = h.none; calm = whole }) h.paid (adds-all (sure_in (core table)))

pub kept-of : (table : Table) (ring : Ring) → table.log ≡ Some ring → Between Any table → IsKept table
kept-of table ring is (Resting fine idle paid added) = inr (record { none = idle.none; paid = paid })
kept-of table ring is (Pending fine ready ends added) =
    inl (record {
      some = ready.some;
      same = ready.same;
      last = subst (λ (o : Option Ring). IfSome o (λ r. (others : List ℕ) × (count : ℕ) × (0 < count) × (r.counts ≡ others ++ count ∷ []))) (sym is) (ends.0, ends.1, ends.2, counts-are);
    })
  where
    same : {x y : List ℕ × Bool} → ◌≡◌ {A = Option (List ℕ × Bool)} (Some x) (Some y) → x ≡ y
    same e = cc

    counts-are : ring.counts ≡ ends.0 ++ ends.1 ∷ []
    counts-are = ap (λ (p : List ℕ × Bool). p.0) (same (ap log_in (sym is) ∙ ends.3))
