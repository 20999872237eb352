-- The operations of a log are those of its table.
use Rattle.std.proofs.Common.{◌≡◌, ℕ, zero, suc, ◌+◌, ◌≤◌, Bool, true, false, cond, ◌||◌, nat_lt, Option, Some, None, List, [], ◌∷◌, ◌++◌, drop, length, refl, sym, ◌∙◌, ap, subst, arith}
use Rattle.std.specs.Prelude.{option_map, unwrap_or}
use Rattle.std.specs.List.{list_any}
use Rattle.std.proofs.lemmas.Bool.{lt-ltb, false≢true, true≢false}
use Rattle.std.proofs.lemmas.List.{append-nil}
use Rattle.fl_model.specs.Bare.{bare_table}
use Rattle.fl_model.specs.Record.{Plan}
use Rattle.fl_model.specs.Ring as model
use Rattle.fl_model.specs.Table.{Table, Entry, LogRing, shape_of, full_pages, pages_given_up, pending_entries, has_rows, log_pages}
use Rattle.fl_model.specs.Work.{Kind, Body, Mark, VoidMark, Erase, effect}
use Rattle.fl_ring.specs.Counts.{model_shape}
use Rattle.fl_ring.specs.Operations.{change}
use Rattle.fl_ring.specs.Ring.{Shape, RingState, IsShape, count, oldest, sealed, voided}
use Rattle.fl_ring.proofs.Bodies.{HoldBodies, kept-known, kept-next, kept-torn, sealed-bodies, voided-bodies}
use Rattle.fl_ring.proofs.Counts.{counts_sealed, counts_voided}
use Rattle.fl_ring.proofs.InTable.{AreErases, BeginsMark}
use Rattle.fl_rlc.proofs.Bodies.{counted, counts_of, rows_of, IsBody, some-rows}

-- the number of the page after the kept ones is small enough
abbrev pub IsSmall : RingState → Type 0
IsSmall s = s.next + (cond s.torn 1 0) ≤ 4294967292

-- the body is that of the next page, which has the pending records of a table
pub record IsNext (plan : Plan) (body : List ℕ) (bare : Table) (s : RingState) : Type 0 where
  pub body_is : IsBody plan s.next body (pending_entries bare)
  pub as_many : length (pending_entries bare) ≡ bare.pending
  pub small : s.next + 1 ≤ 4294967291

abbrev pub HasCome : Plan → List ℕ → Table → List Kind → RingState → Type 0
HasCome plan body bare [] s = IsSmall s
HasCome plan body bare (Body ∷ kinds) s = IsNext plan body bare s × BeginsMark kinds
HasCome plan body bare (Mark ∷ kinds) s = IsNext plan body bare s × AreErases kinds
HasCome plan body bare (VoidMark ∷ kinds) s = (s.next + 1 ≤ 4294967292) × AreErases kinds
HasCome plan body bare (Erase ∷ kinds) s = IsSmall s × AreErases kinds

-- the ring's state is that of the table's log, of which these operations are left; without its log the table is this one
pub record IsRingOf (plan : Plan) (body : List ℕ) (bare : Table) (kinds : List Kind) (s : RingState) (table : Table) : Type 0 where
  pub log_is : table.log ≡ Some (counted s)
  pub bodies : HoldBodies (IsBody plan) (oldest s) s.kept (log_pages table)
  pub logged_some : has_rows table.log ≡ false → table.logged ≡ []
  pub rest : bare_table table ≡ bare
  pub known : count s ≤ s.next
  pub come : HasCome plan body bare kinds s

pub come-small : (plan : Plan) (body : List ℕ) (bare : Table) (kinds : List Kind) (s : RingState) → HasCome plan body bare kinds s → IsSmall s
come-small plan body bare kinds s h = by_torn s.torn kinds h
  where
    by_torn : (b : Bool) (kinds : List Kind) → HasCome plan body bare kinds (record s { torn = b }) → s.next + (cond b 1 0) ≤ 4294967292
    by_torn b [] h = h
    by_torn true (Body ∷ kinds) h = let k = h.0.small in omega (arith, k)
    by_torn true (Mark ∷ kinds) h = let k = h.0.small in omega (arith, k)
    by_torn true (VoidMark ∷ kinds) h = h.0
    by_torn false (Body ∷ kinds) h = let k = h.0.small in omega (arith, k)
    by_torn false (Mark ∷ kinds) h = let k = h.0.small in omega (arith, k)
    by_torn false (VoidMark ∷ kinds) h = omega (arith, h.0)
    by_torn b (Erase ∷ kinds) h = h.0

erases-come : (plan : Plan) (body : List ℕ) (bare : Table) (kinds : List Kind) (s : RingState) → IsSmall s → AreErases kinds → HasCome plan body bare kinds s
erases-come plan body bare [] s small h = small
erases-come plan body bare (Erase ∷ kinds) s small h = (small, h)
erases-come plan body bare (Body ∷ kinds) s small h = absurd h
erases-come plan body bare (Mark ∷ kinds) s small h = absurd h
erases-come plan body bare (VoidMark ∷ kinds) s small h = absurd h

mark-comes : (plan : Plan) (body : List ℕ) (bare : Table) (kinds : List Kind) (s : RingState) → IsNext plan body bare s → BeginsMark kinds → HasCome plan body bare kinds (record s { torn = true })
mark-comes plan body bare [] s m h = let k = m.small in omega (arith, k)
mark-comes plan body bare (Mark ∷ kinds) s m h = (record { body_is = m.body_is; as_many = m.as_many; small = m.small }, h)
mark-comes plan body bare (Body ∷ kinds) s m h = absurd h
mark-comes plan body bare (VoidMark ∷ kinds) s m h = absurd h
mark-comes plan body bare (Erase ∷ kinds) s m h = absurd h

small-by : (s : RingState) → s.torn ≡ false → s.next ≤ 4294967292 → IsSmall s
small-by s calm few = subst (λ (b : Bool). s.next + (cond b 1 0) ≤ 4294967292) (sym calm) (omega (arith, few))

-- ---- the lists of records of a log's pages

abbrev is_more : {X : Type 0} → List X → Bool
is_more [] = false
is_more (x ∷ xs) = true

-- there are records where there is a page with some
any-pages : (plan : Plan) (n : ℕ) (kept : List (Option (List ℕ))) (pages : List (List Entry)) → HoldBodies (IsBody plan) n kept pages → list_any (nat_lt 0) (counts_of kept) ≡ is_more pages
any-pages plan n [] [] h = refl
any-pages plan n [] (p ∷ pages) h = absurd h
any-pages plan n (None ∷ kept) pages h = any-pages plan (n + 1) kept pages h
any-pages plan n (Some body ∷ kept) [] h = absurd h
any-pages plan n (Some body ∷ kept) (p ∷ pages) h =
    ap (λ (b : Bool). b || list_any (nat_lt 0) (counts_of kept)) (lt-ltb 0 (rows_of body) (omega (arith, h.0.count, h.0.good.some)))

pub has-pages : (plan : Plan) (s : RingState) (pages : List (List Entry)) → HoldBodies (IsBody plan) (oldest s) s.kept pages → has_rows (Some (counted s)) ≡ is_more pages
has-pages plan s pages h = any-pages plan (oldest s) s.kept pages h

more-pushed : {X : Type 0} (xs : List X) (x : X) → is_more (xs ++ x ∷ []) ≡ true
more-pushed [] x = refl
more-pushed (y ∷ xs) x = refl

drop-nothing : (g : ℕ) → ◌≡◌ {A = List (List Entry)} (drop g []) []
drop-nothing zero = refl
drop-nothing (suc g) = refl

pages-dropped : (g : ℕ) (before : List (List Entry)) (last : List Entry) → drop g before ++ cond (is_more (drop g (before ++ last ∷ []))) (last ∷ []) [] ≡ drop g (before ++ last ∷ [])
pages-dropped zero [] last = refl
pages-dropped (suc g) [] last = ap (λ (xs : List (List Entry)). cond (is_more xs) (last ∷ []) []) (drop-nothing g) ∙ sym (drop-nothing g)
pages-dropped zero (x ∷ before) last = refl
pages-dropped (suc g) (x ∷ before) last = pages-dropped g before last

rows-begun : (o : Option model.Ring) → has_rows (option_map model.begun o) ≡ has_rows o
rows-begun None = refl
rows-begun (Some ring) = refl

rows-erased : (o : Option model.Ring) → has_rows (option_map model.erased o) ≡ has_rows o
rows-erased None = refl
rows-erased (Some ring) = refl

cond-none : {X : Type 0} (b : Bool) (xs : List X) → b ≡ false → cond b xs [] ≡ []
cond-none true xs e = absurd (true≢false e)
cond-none false xs e = refl

module _ (r : Shape) (plan : Plan) (body : List ℕ) (bare : Table) (shape : IsShape r) (here : model_shape r ≡ shape_of plan LogRing) where
  -- the pages that the model gives up
  gone-is : (c : ℕ) (s : RingState) (table : Table) → table.log ≡ Some (counted s) → full_pages (model.given_up (model_shape r) c (counted s)) ≡ pages_given_up plan LogRing c table
  gone-is c s table e =
      ap (λ (m : model.Shape). full_pages (model.given_up m c (counted s))) here
      ∙ ap (λ (o : Option model.Ring). full_pages (unwrap_or (option_map (model.given_up (shape_of plan LogRing) c) o) [])) (sym e)

  -- a page is sealed
  module _ (s : RingState) (table : Table) (kinds : List Kind) (h : IsRingOf plan body bare (Mark ∷ kinds) s table) where
    m : IsNext plan body bare s
    m = h.come.0

    pending-is : pending_entries bare ≡ pending_entries table
    pending-is = ap (λ (t : Table). pending_entries t) (sym h.rest)

    count-is : rows_of body ≡ table.pending
    count-is = m.body_is.count ∙ (m.as_many ∙ ap (λ (t : Table). t.pending) (sym h.rest))

    log-now : option_map (model.sealed (shape_of plan LogRing) table.pending) table.log ≡ Some (counted (sealed r s body))
    log-now =
        ap (option_map (model.sealed (shape_of plan LogRing) table.pending)) h.log_is
        ∙ ap (λ (ring : model.Ring). Some ring)
        (ap (λ (c : ℕ). model.sealed (shape_of plan LogRing) c (counted s)) (sym count-is) ∙ (ap (λ (x : model.Shape). model.sealed x (rows_of body) (counted s)) (sym here) ∙ sym (counts_sealed rows_of r s body)))

    gone : ℕ
    gone = full_pages (model.given_up (model_shape r) (rows_of body) (counted s))

    gone-same : full_pages (model.given_up (model_shape r) (rows_of body) (counted s)) ≡ pages_given_up plan LogRing table.pending table
    gone-same = gone-is (rows_of body) s table h.log_is ∙ ap (λ (c : ℕ). pages_given_up plan LogRing c table) count-is

    all : HoldBodies (IsBody plan) (oldest (sealed r s body)) (sealed r s body).kept (drop (full_pages (model.given_up (model_shape r) (rows_of body) (counted s))) (log_pages table) ++ pending_entries bare ∷ [])
    all = sealed-bodies (IsBody plan) rows_of (some-rows plan) r s shape h.known (log_pages table) body (pending_entries bare) m.body_is h.bodies

    some-now : has_rows (option_map (model.sealed (shape_of plan LogRing) table.pending) table.log) ≡ true
    some-now =
        ap has_rows log-now
        ∙ (has-pages plan (sealed r s body) (drop (full_pages (model.given_up (model_shape r) (rows_of body) (counted s))) (log_pages table) ++ pending_entries bare ∷ []) all
        ∙ more-pushed (drop (full_pages (model.given_up (model_shape r) (rows_of body) (counted s))) (log_pages table)) (pending_entries bare))

    pages-now : log_pages (effect plan LogRing Mark table) ≡ drop (full_pages (model.given_up (model_shape r) (rows_of body) (counted s))) (log_pages table) ++ pending_entries bare ∷ []
    pages-now =
        ap (λ (b : Bool). drop (pages_given_up plan LogRing table.pending table) (log_pages table) ++ cond b (cond b (pending_entries table) [] ∷ []) []) some-now
        ∙ (ap (λ (g : ℕ). drop g (log_pages table) ++ pending_entries table ∷ []) (sym gone-same)
        ∙ ap (λ (rows : List Entry). drop (full_pages (model.given_up (model_shape r) (rows_of body) (counted s))) (log_pages table) ++ rows ∷ []) (sym pending-is))

    marked : IsRingOf plan body bare kinds (sealed r s body) (effect plan LogRing Mark table)
    marked = record {
      log_is = log-now;
      bodies = subst (λ (ps : List (List Entry)). HoldBodies (IsBody plan) (oldest (sealed r s body)) (sealed r s body).kept ps) (sym pages-now) all;
      logged_some = λ none. cond-none (has_rows (option_map (model.sealed (shape_of plan LogRing) table.pending) table.log)) (pending_entries table) none;
      rest = h.rest;
      known = kept-known r s (Some body) h.known;
      come = erases-come plan body bare kinds (sealed r s body)
          (small-by (sealed r s body) (kept-torn r s (Some body)) (let k = m.small in omega (arith, kept-next r s (Some body), k))) h.come.1;
    }

  -- a torn page is given up
  module _ (s : RingState) (table : Table) (kinds : List Kind) (h : IsRingOf plan body bare (VoidMark ∷ kinds) s table) where
    abbrev g : ℕ
    g = pages_given_up plan LogRing 0 table

    void-now : option_map (model.sealed (shape_of plan LogRing) 0) table.log ≡ Some (counted (voided r s))
    void-now =
        ap (option_map (model.sealed (shape_of plan LogRing) 0)) h.log_is
        ∙ ap (λ (ring : model.Ring). Some ring) (ap (λ (x : model.Shape). model.sealed x 0 (counted s)) (sym here) ∙ sym (counts_voided rows_of r s))

    left : HoldBodies (IsBody plan) (oldest (voided r s)) (voided r s).kept (drop (pages_given_up plan LogRing 0 table) (log_pages table))
    left =
        subst (λ (ps : List (List Entry)). HoldBodies (IsBody plan) (oldest (voided r s)) (voided r s).kept ps)
        (append-nil (drop (full_pages (model.given_up (model_shape r) 0 (counted s))) (log_pages table)) ∙ ap (λ n. drop n (log_pages table)) (gone-is 0 s table h.log_is))
        (voided-bodies (IsBody plan) rows_of (some-rows plan) r s shape h.known (log_pages table) h.bodies)

    some-left : has_rows (option_map (model.sealed (shape_of plan LogRing) 0) table.log) ≡ is_more (drop (pages_given_up plan LogRing 0 table) (log_pages table))
    some-left = ap has_rows void-now ∙ has-pages plan (voided r s) (drop (pages_given_up plan LogRing 0 table) (log_pages table)) left

    had : has_rows table.log ≡ is_more (log_pages table)
    had = ap has_rows h.log_is ∙ has-pages plan s (log_pages table) h.bodies

    pages-left : log_pages (effect plan LogRing VoidMark table) ≡ drop (pages_given_up plan LogRing 0 table) (log_pages table)
    pages-left =
        ap (λ (b : Bool). drop g table.logged_before ++ cond b (cond b table.logged [] ∷ []) []) some-left
        ∙ by_rows (has_rows table.log) had
      where
        none-before : (before : List (List Entry)) → false ≡ is_more (before ++ []) → before ≡ []
        none-before [] e = refl
        none-before (x ∷ before) e = absurd (false≢true e)

        picks : (b : Bool) → cond b (cond b table.logged [] ∷ []) [] ≡ cond b (table.logged ∷ []) []
        picks true = refl
        picks false = refl

        by_rows : (b : Bool) → b ≡ is_more (table.logged_before ++ cond b (table.logged ∷ []) []) →
            (let more = is_more (drop g (table.logged_before ++ cond b (table.logged ∷ []) [])) in drop g table.logged_before ++ cond more (cond more table.logged [] ∷ []) []) ≡ drop g (table.logged_before ++ cond b (table.logged ∷ []) [])
        by_rows true e =
            ap (λ (ps : List (List Entry)). drop g table.logged_before ++ ps) (picks (is_more (drop g (table.logged_before ++ table.logged ∷ []))))
            ∙ pages-dropped g table.logged_before table.logged
        by_rows false e =
            let none : table.logged_before ≡ [] = none-before table.logged_before e in
            subst (λ (before : List (List Entry)). (let more = is_more (drop g (before ++ [])) in drop g before ++ cond more (cond more table.logged [] ∷ []) []) ≡ drop g (before ++ [])) (sym none)
            (ap (λ (xs : List (List Entry)). xs ++ cond (is_more xs) (cond (is_more xs) table.logged [] ∷ []) []) (drop-nothing g) ∙ sym (drop-nothing g))

    gave-up : IsRingOf plan body bare kinds (voided r s) (effect plan LogRing VoidMark table)
    gave-up = record {
      log_is = void-now;
      bodies = subst (λ (ps : List (List Entry)). HoldBodies (IsBody plan) (oldest (voided r s)) (voided r s).kept ps) (sym pages-left) left;
      logged_some = λ none. cond-none (has_rows (option_map (model.sealed (shape_of plan LogRing) 0) table.log)) table.logged none;
      rest = h.rest;
      known = kept-known r s None h.known;
      come = erases-come plan body bare kinds (voided r s)
          (small-by (voided r s) (kept-torn r s None) (omega (arith, kept-next r s None, h.come.0))) h.come.1;
    }

  -- each operation keeps it
  pub step-along : (kind : Kind) (kinds : List Kind) (s : RingState) (table : Table) → IsRingOf plan body bare (kind ∷ kinds) s table → IsRingOf plan body bare kinds (change r body kind s) (effect plan LogRing kind table)
  step-along Body kinds s table h = record {
    log_is = ap (option_map model.begun) h.log_is;
    bodies = subst (λ (ps : List (List Entry)). HoldBodies (IsBody plan) (oldest s) s.kept ps) (ap (λ (b : Bool). table.logged_before ++ cond b (table.logged ∷ []) []) (sym (rows-begun table.log))) h.bodies;
    logged_some = λ none. h.logged_some (sym (rows-begun table.log) ∙ none);
    rest = h.rest;
    known = h.known;
    come = mark-comes plan body bare kinds s h.come.0 h.come.1;
  }
  step-along Mark kinds s table h = marked s table kinds h
  step-along VoidMark kinds s table h = gave-up s table kinds h
  step-along Erase kinds s table h = record {
    log_is = ap (option_map model.erased) h.log_is;
    bodies = subst (λ (ps : List (List Entry)). HoldBodies (IsBody plan) (oldest s) s.kept ps) (ap (λ (b : Bool). table.logged_before ++ cond b (table.logged ∷ []) []) (sym (rows-erased table.log))) h.bodies;
    logged_some = λ none. h.logged_some (sym (rows-erased table.log) ∙ none);
    rest = h.rest;
    known = h.known;
    come = erases-come plan body bare kinds (record s { dirty = false }) h.come.0 h.come.1;
  }
