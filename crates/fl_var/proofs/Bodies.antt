-- The bodies of the pages of variable data, and what they hold.
use Rattle.std.proofs.Common.{◌≡◌, ℕ, suc, ◌+◌, ◌<◌, Option, Some, None, List, [], ◌∷◌, map, length, refl, sym, ◌∙◌, ap, arith}
use Rattle.fl_model.specs.Facts.{IsContent}
use Rattle.fl_model.specs.Layout.{ContentPage, content_body}
use Rattle.fl_model.specs.Record.{Plan}
use Rattle.fl_model.specs.Ring as model
use Rattle.fl_model.specs.Table.{full_pages}
use Rattle.fl_ring.specs.Counts.{page_count, ring_counts}
use Rattle.fl_ring.specs.Ring.{RingState}
use Rattle.fl_ring.proofs.Bodies.{HoldBodies, full-none, full-some}

-- each committed page counts once
abbrev pub once : List ℕ → ℕ
once body = 1

abbrev pub counted : RingState → model.Ring
counted s = ring_counts once s

abbrev pub counts_of : List (Option (List ℕ)) → List ℕ
counts_of kept = map (page_count once) kept

-- the body of the page with this number and this content
abbrev pub IsBody : Plan → ℕ → List ℕ → ContentPage → Type 0
IsBody plan n body p = (body ≡ content_body n p) × IsContent plan p

pub some-once : (plan : Plan) (n : ℕ) (body : List ℕ) (p : ContentPage) → IsBody plan n body p → 0 < once body
some-once plan n body p is = omega arith

pub bodies-each : (plan : Plan) (n : ℕ) (kept : List (Option (List ℕ))) (pages : List ContentPage) → HoldBodies (IsBody plan) n kept pages → length pages ≡ full_pages (counts_of kept)
bodies-each plan n [] [] h = refl
bodies-each plan n [] (p ∷ pages) h = absurd h
bodies-each plan n (None ∷ kept) pages h = bodies-each plan (n + 1) kept pages h ∙ sym (full-none (counts_of kept))
bodies-each plan n (Some body ∷ kept) [] h = absurd h
bodies-each plan n (Some body ∷ kept) (p ∷ pages) h = ap suc (bodies-each plan (n + 1) kept pages h.1) ∙ sym (full-some 1 (counts_of kept) (omega arith))
