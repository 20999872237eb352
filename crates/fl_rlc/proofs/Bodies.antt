-- The bodies of a log's pages, and the records that they hold.
use Rattle.std.proofs.Common.{◌≡◌, ℕ, ◌+◌, ◌<◌, ◌≤◌, Bool, cond, nat_lt, Option, Some, None, List, [], ◌∷◌, map, length, filter, refl, sym, ◌∙◌, ap, arith}
use Rattle.std.specs.List.{AllByRecursion}
use Rattle.std.proofs.lemmas.Bool.{lt-ltb}
use Rattle.std.proofs.lemmas.List.{length-map}
use Rattle.fl_model.specs.Record.{Plan, rows_per_page}
use Rattle.fl_model.specs.Ring as model
use Rattle.fl_model.specs.Row.{stored_row}
use Rattle.fl_model.specs.Table.{Entry}
use Rattle.fl_page.specs.Header as header
use Rattle.fl_ring.specs.Counts.{page_count, ring_counts}
use Rattle.fl_ring.specs.Ring.{RingState}
use Rattle.fl_ring.proofs.Bodies.{HoldBodies}
use Rattle.fl_schema.proofs.Numbers.{number_of-le}
use Rattle.fl_rlc.specs.Pages.{log_body, IsPage}

-- how many rows a body has, by its header
abbrev pub rows_of : List ℕ → ℕ
rows_of body = header.page_count body

abbrev pub counted : RingState → model.Ring
counted s = ring_counts rows_of s

abbrev pub counts_of : List (Option (List ℕ)) → List ℕ
counts_of kept = map (page_count rows_of) kept

-- the body of the page with this number and these records
pub record IsBody (plan : Plan) (n : ℕ) (body : List ℕ) (rows : List Entry) : Type 0 where
  pub is : body ≡ log_body plan n rows
  pub count : header.page_count body ≡ length rows
  pub good : IsPage plan rows

pub body-of : (plan : Plan) (n : ℕ) (rows : List Entry) → rows_per_page plan < 65536 → IsPage plan rows → IsBody plan n (log_body plan n rows) rows
body-of plan n rows small good =
    let same : length (map stored_row rows) ≡ length rows = length-map rows stored_row in
    let few : length (map stored_row rows) < 65536 = omega (arith, same, good.few, small) in
    let count : header.page_count (log_body plan n rows) ≡ length (map stored_row rows) = number_of-le 2 (length (map stored_row rows)) few in
    record { is = refl; count = count ∙ same; good = good }

pub filter-some : (c : ℕ) (counts : List ℕ) → 0 < c → filter (nat_lt 0) (c ∷ counts) ≡ c ∷ filter (nat_lt 0) counts
filter-some c counts some = ap (λ (b : Bool). cond b (c ∷ filter (nat_lt 0) counts) (filter (nat_lt 0) counts)) (lt-ltb 0 c some)

pub some-rows : (plan : Plan) (n : ℕ) (body : List ℕ) (rows : List Entry) → IsBody plan n body rows → 0 < rows_of body
some-rows plan n body rows h = omega (arith, h.count, h.good.some)

pub bodies-each : (plan : Plan) (n : ℕ) (kept : List (Option (List ℕ))) (pages : List (List Entry)) → HoldBodies (IsBody plan) n kept pages → map (λ rows. length rows) pages ≡ filter (nat_lt 0) (counts_of kept)
bodies-each plan n [] [] h = refl
bodies-each plan n [] (p ∷ pages) h = absurd h
bodies-each plan n (None ∷ kept) pages h = bodies-each plan (n + 1) kept pages h
bodies-each plan n (Some body ∷ kept) [] h = absurd h
bodies-each plan n (Some body ∷ kept) (p ∷ pages) h =
    ap (λ (l : List ℕ). length p ∷ l) (bodies-each plan (n + 1) kept pages h.1)
    ∙ (ap (λ (c : ℕ). c ∷ filter (nat_lt 0) (counts_of kept)) (sym h.0.count) ∙ sym (filter-some (header.page_count body) (counts_of kept) (some-rows plan n body p h.0)))

pub bodies-few : (plan : Plan) (n : ℕ) (kept : List (Option (List ℕ))) (pages : List (List Entry)) → HoldBodies (IsBody plan) n kept pages → AllByRecursion (λ count. count ≤ rows_per_page plan) (counts_of kept)
bodies-few plan n [] [] h = tt
bodies-few plan n [] (p ∷ pages) h = absurd h
bodies-few plan n (None ∷ kept) pages h = (omega arith, bodies-few plan (n + 1) kept pages h)
bodies-few plan n (Some body ∷ kept) [] h = absurd h
bodies-few plan n (Some body ∷ kept) (p ∷ pages) h = (omega (arith, h.0.count, h.0.good.few), bodies-few plan (n + 1) kept pages h.1)
