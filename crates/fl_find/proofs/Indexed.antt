-- A learned index of points, and what it tells of keys.
use Rattle.std.proofs.Common.{◌≡◌, ℕ, ◌+◌, ◌-◌, ◌≤◌, min, Bool, true, false, cond, List, sym, ◌∙◌, ap, arith}
use Rattle.std.proofs.Math.Nat.{min-le_right}
use Rattle.fl_model.specs.Record.{Plan}
use Rattle.fl_model.specs.Table.{Table}
use Rattle.fl_model.specs.Spline.{retained, is_covered, estimate}
use Rattle.fl_find.specs.declared.index.KeyIndex.{KeyIndex}
use Rattle.fl_find.specs.Finding.{pages_end}
use Rattle.fl_find.specs.Index.{IndexOf, knots_in, error_in, window_end}
use Rattle.fl_find.proofs.Modelled.{end_of}

pub index-covered : {KNOTS SLOTS : ℕ} (index : KeyIndex KNOTS SLOTS) (error key : ℕ) (points : List (ℕ × ℕ)) (covered : Bool) → IndexOf error points index →
    is_covered (knots_in index) key ≡ covered → is_covered (retained KNOTS error points) key ≡ covered
index-covered {KNOTS} {SLOTS} index error key points covered of is = ap (λ (l : List (ℕ × ℕ)). is_covered l key) (sym of.knots) ∙ is

pub index-end : {KNOTS SLOTS : ℕ} (index : KeyIndex KNOTS SLOTS) (plan : Plan) (table : Table) (key next end : ℕ) → IndexOf plan.error table.points index → next ≡ table.rows.next →
    end ≡ window_end index next key → end ≡ end_of KNOTS plan table key
index-end {KNOTS} {SLOTS} index plan table key next end of at is =
    is ∙ (ap (λ n. min (estimate (knots_in index) key + error_in index + 1) n) at
    ∙ (ap (λ n. min (estimate (knots_in index) key + n + 1) table.rows.next) (sym index.same ∙ of.bound)
    ∙ ap (λ (l : List (ℕ × ℕ)). min (estimate l key + plan.error + 1) table.rows.next) of.knots))

-- where the pages end that may have a row with at most a key
pub index-ends : {KNOTS SLOTS : ℕ} (index : KeyIndex KNOTS SLOTS) (plan : Plan) (table : Table) (key next end : ℕ) (covered : Bool) → IndexOf plan.error table.points index → next ≡ table.rows.next →
    is_covered (knots_in index) key ≡ covered → end ≡ cond covered (window_end index next key) next → end ≡ pages_end KNOTS plan table key
index-ends {KNOTS} {SLOTS} index plan table key next end true of at covered is =
    index-end index plan table key next end of at is
    ∙ sym (ap (λ b. cond b (end_of KNOTS plan table key) table.rows.next) (index-covered index plan.error key table.points true of covered))
index-ends {KNOTS} {SLOTS} index plan table key next end false of at covered is =
    is ∙ (at ∙ sym (ap (λ b. cond b (end_of KNOTS plan table key) table.rows.next) (index-covered index plan.error key table.points false of covered)))

-- no page behind the next one is in a window, so that its pages are some of all
pub window-before : {KNOTS SLOTS : ℕ} (index : KeyIndex KNOTS SLOTS) (next key : ℕ) → window_end index next key ≤ next
window-before {KNOTS} {SLOTS} index next key = min-le_right (estimate (knots_in index) key + error_in index + 1) next

pub reads-window : (oldest next end before now : ℕ) → end ≤ next → now ≤ before + (end - oldest) → now ≤ before + (next - oldest) + 1
reads-window oldest next end before now kept most = omega (arith, kept, most)
