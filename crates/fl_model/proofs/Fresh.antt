-- An empty table has the facts of a table.
use Rattle.std.proofs.Common.{◌≡◌, ℕ, ◌+◌, ◌≤◌, Bool, true, false, cond, Option, Some, None, IfSome, [], refl, arith, inl, not-suc-le-zero}
use Rattle.std.specs.List.{slice_get}
use Rattle.std.proofs.lemmas.Nat.Gcd.{dvd-zero}
use Rattle.std.proofs.lemmas.Bool.{false≢true}
use Rattle.fl_model.specs.Record.{has_index, has_var, has_log}
use Rattle.fl_model.specs.Ring.{Shape, Ring, IsRing, fresh}
use Rattle.fl_model.specs.Table.{RingName, DataRing, IndexRing, VarRing, LogRing, fresh_table, ring_of, shape_of, has_rows}
use Rattle.fl_model.specs.Facts.{is_some_ring, counts_in}
use Rattle.fl_model.specs.Agrees.{BlobsOf}
use Rattle.fl_model.specs.Fresh.{NewTablesStand}

pub ring-fresh : (shape : Shape) → IsRing shape fresh
ring-fresh shape = record {
  not_negative = omega arith;
  whole_blocks = dvd-zero shape.pages;
  whole_rounds = λ few. dvd-zero _;
  kept = omega arith;
  kept_at_end = λ e. omega arith;
  dirty_at_end = λ d. absurd (false≢true d);
  not_both = λ d. false≢true d;
}

-- a ring that may be missing
abbrev maybe : Bool → Option Ring
maybe some = cond some (Some fresh) None

maybe-ring : (shape : Shape) (b : Bool) → IfSome (maybe b) (IsRing shape)
maybe-ring shape true = ring-fresh shape
maybe-ring shape false = tt

maybe-some : (b : Bool) → is_some_ring (maybe b) ≡ b
maybe-some true = refl
maybe-some false = refl

maybe-counts : (b : Bool) → counts_in (maybe b) ≡ []
maybe-counts true = refl
maybe-counts false = refl

maybe-rows : (b : Bool) → has_rows (maybe b) ≡ false
maybe-rows true = refl
maybe-rows false = refl

maybe-number : (b : Bool) → IfSome (maybe b) (λ ring. ring.next + (cond ring.torn 1 0) ≤ 4294967292)
maybe-number true = omega arith
maybe-number false = tt

maybe-any : (P : Ring → Type 0) → P fresh → (b : Bool) → IfSome (maybe b) P
maybe-any P h true = h
maybe-any P h false = tt

nothing : {X : Type 0} (i : ℕ) (x : X) → slice_get [] i ≡ Some x → ⊥
nothing i x e = cc

pub new-stand : NewTablesStand
new-stand plan = record {
  facts = record {
    rows = ring-fresh (shape_of plan DataRing);
    index = maybe-ring (shape_of plan IndexRing) (has_index plan);
    var = maybe-ring (shape_of plan VarRing) (has_var plan);
    log = maybe-ring (shape_of plan LogRing) (has_log plan);
    has_rings = (maybe-some (has_index plan), maybe-some (has_var plan), maybe-some (has_log plan));
    index_counts = rw (maybe-counts (has_index plan)) tt;
    var_counts = rw (maybe-counts (has_var plan)) tt;
    log_counts = rw (maybe-counts (has_log plan)) tt;
    index_each = rw (maybe-counts (has_index plan)) refl;
    var_each = rw (maybe-counts (has_var plan)) refl;
    log_each = rw (maybe-counts (has_log plan), maybe-rows (has_log plan)) refl;
    index_fit = tt;
    var_fit = tt;
    log_fit = rw (maybe-rows (has_log plan)) tt;
    logged_some = λ none. refl;
    logged = record { ascending = tt; whole = inl refl; safe = λ some. absurd (some refl) };
    fit = tt;
    counted = refl;
    few_pending = omega arith;
    few_rows = tt;
    ascending = λ i j a b lt e f. absurd (nothing i a e);
    fill = omega arith;
    waiting = λ some. omega arith;
    firsts = λ i j a b lt e f. absurd (nothing i a e);
    listed = omega arith;
    blobs = λ i entry blob e k some. absurd (nothing i entry e);
    numbers = numbers;
    numbers_pending = λ some. absurd (some refl);
    numbers_listed = λ lt. absurd (not-suc-le-zero lt);
    agrees = record {
      listed = λ k page e. absurd (nothing k page e);
      waiting = λ j n lt. absurd (not-suc-le-zero lt);
      blobs = maybe-any (BlobsOf plan (fresh_table plan)) (λ i entry blob e. absurd (nothing i entry e)) (has_var plan);
    };
  };
  lost = refl;
}
  where
    numbers : (name : RingName) → IfSome (ring_of name (fresh_table plan)) (λ ring. ring.next + (cond ring.torn 1 0) ≤ 4294967292)
    numbers DataRing = omega arith
    numbers IndexRing = maybe-number (has_index plan)
    numbers VarRing = maybe-number (has_var plan)
    numbers LogRing = maybe-number (has_log plan)
