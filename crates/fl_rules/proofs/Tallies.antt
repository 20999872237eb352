-- What pages tell, one after another.
use Rattle.std.proofs.Common.{◌≡◌, ℕ, suc, ◌+◌, true, List, length, ap, ◌∙◌, arith}
use Rattle.fl_mark.specs.Mark.{state_of_page}
use Rattle.fl_model.specs.Record.{RowLayout}
use Rattle.fl_model.specs.BlobEnds.{blobs_end}
use Rattle.fl_page.specs.Page.{rows_in}
use Rattle.fl_ring.specs.Newest.{commits}
use Rattle.fl_ring.specs.Ring.{Shape}
use Rattle.fl_rules.specs.Marks.{kept_page}
use Rattle.fl_rules.specs.Tally.{listed_after, listed_to, with_page, tally_of}
use Rattle.fl_rules.specs.declared.marks.Marks.{Marks}
use Rattle.fl_rules.specs.declared.tally.Tally.{Tally}

pub listed_next : (per_page : ℕ) (page : ℕ → List ℕ) (r : Shape) (m : Marks) (i : ℕ) → listed_to per_page page r m (i + 1) ≡ listed_after per_page (page (kept_page r m i)) (listed_to per_page page r m i)
listed_next per_page page r m i = ap (listed_to per_page page r m) (let k : i + 1 ≡ suc i = omega arith in k)

pub tally_next : (layout : RowLayout) (page : ℕ → List ℕ) (r : Shape) (m : Marks) (i : ℕ) → tally_of layout page r m (i + 1) ≡ with_page layout (page (kept_page r m i)) (tally_of layout page r m i)
tally_next layout page r m i = ap (tally_of layout page r m) (let k : i + 1 ≡ suc i = omega arith in k)

abbrev more : Tally → ℕ → ℕ → Tally
more tally k e = record { rows = tally.rows + k; voids = tally.voids; blob_end = e }

-- a committed page more
pub more_page : (layout : RowLayout) (page : List ℕ) (tally : Tally) (k e : ℕ) → commits (state_of_page page) ≡ true → k ≡ length (rows_in layout page) → e ≡ blobs_end tally.blob_end (rows_in layout page)
    → more tally k e ≡ with_page layout page tally
more_page layout page tally k e committed count end = rw committed (ap (λ (n : ℕ). more tally n e) count ∙ ap (λ (n : ℕ). more tally (length (rows_in layout page)) n) end)
