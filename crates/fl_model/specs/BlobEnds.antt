-- Where the blobs of rows end.
use Rattle.std.specs.Prelude.{ℕ, ◌+◌, max, ◌==◌, Option, Some, None, List, map, if◌then◌else◌}
use Rattle.std.specs.List.{fold}
use Rattle.fl_base.specs.declared.types.BlobRef.{BlobRef}
use Rattle.fl_model.specs.Row.{Row}

-- one more than the page at which a blob begins, and 0 where it has no page
abbrev pub reference_end : Option BlobRef → ℕ
reference_end None = 0
reference_end (Some at) = if at.length == 0 then 0 else at.page + 1

-- the greatest of them, or `so_far`
abbrev pub blobs_end : ℕ → List Row → ℕ
blobs_end so_far rows = fold max so_far (map (λ row. reference_end row.blob) rows)
