-- How often a medium is read while the records of a load are put.
use Rattle.std.proofs.Common.{◌≡◌, ℕ, ◌+◌, ◌*◌, ◌≤◌, is_some, if◌then◌else◌, Bool, Option, None, Some, refl, ap, arith, add-mul}
use Rattle.fl_rlc.specs.Table.{AreSameLog, IsSamePlan, rings_in, table_in}
use Rattle.fl_rlc.specs.declared.log.RecordLog.{RecordLog}
use Rattle.fl_rlc.specs.declared.table.LoggedTable.{LoggedTable}
use Rattle.fl_table.specs.BlobAt.{data_in}
use Rattle.fl_parts.specs.Blobs.{most_pages}
use Rattle.fl_parts.proofs.IndexOfTable.{same-index}
use Rattle.fl_parts.proofs.BlobsOfTable.{same-some}
use Rattle.fl_var.specs.declared.var_data.VarData.{VarData}

-- a record without a blob takes no page of one
no-pages : (blobs : Option VarData) → most_pages blobs None ≡ 0
no-pages None = refl
no-pages (Some var) = refl

-- a table of the same plan has the same rings
log-same : (old new : Option RecordLog) → AreSameLog old new → is_some new ≡ is_some old
log-same None None same = refl
log-same None (Some new) same = absurd same
log-same (Some old) None same = absurd same
log-same (Some old) (Some new) same = refl

abbrev one_if : Bool → ℕ
one_if b = if b then 1 else 0

rings-same : (t u : LoggedTable 64 64) → IsSamePlan t u → rings_in u ≡ rings_in t
rings-same t u same =
    let index = ap one_if (same-index t.table.bitmaps u.table.bitmaps same.table.bitmaps) in
    let blobs = ap one_if (same-some t.table.blobs u.table.blobs same.table.blobs) in
    let log = ap one_if (log-same t.log u.log same.log) in
    omega (arith, index, blobs, log)

-- one record more
pub media-more : (t u : LoggedTable 64 64) (before mid now n : ℕ) → IsSamePlan t u → mid ≤ before + n * rings_in t → now ≤ mid + rings_in u + most_pages (data_in (table_in u)) None → now ≤ before + (n + 1) * rings_in t
media-more t u before mid now n same so_far one = omega (arith, so_far, one, no-pages (data_in (table_in u)), rings-same t u same, add-mul n 1 (rings_in t))

-- all of them
pub media-all : (rings before now n count : ℕ) → n ≡ count → now ≤ before + n * rings → now ≤ before + (count + 1) * rings
media-all rings before now n count all so_far = omega (arith, so_far, add-mul count 1 rings, ap (λ k. k * rings) all)
