-- How many reads the mount of a table with full index entries makes.
use Rattle.std.proofs.Common.{◌≡◌, ◌+◌, ◌≤◌, Bool, cond, ◌&&◌, not, Option, Some, None, IfSome, IsTrue, sym, ◌∙◌, ap, subst, arith}
use Rattle.std.specs.Prelude.{count_by, if◌then◌else◌}
use Rattle.std.proofs.lemmas.Bool.{false≢true, true≢false}
use Rattle.fl_model.specs.Facts.{IsTable, is_some_ring}
use Rattle.fl_model.specs.Limits.{is_listed, numbers_of}
use Rattle.fl_model.specs.MountLimit.{voids_at_end, part_mount_limit, log_mount_limit, kept_in, full_mount_limit}
use Rattle.fl_model.specs.Record.{Plan, has_index, has_var, has_log}
use Rattle.fl_model.specs.Ring.{Shape, IsShape, Ring, IsRing}
use Rattle.fl_model.specs.Table.{Table, DataRing, IndexRing, VarRing, LogRing, shape_of}
use Rattle.fl_sizing.specs.Laws.{HasNoVoidsAtEnd}
use Rattle.fl_sizing.specs.Rings.{most_pages, end_reads}
use Rattle.fl_sizing.specs.Sizes.{unlisted_pages, rows_read, full_reads}
use Rattle.fl_sizing.proofs.KeptRows.{kept-most}

-- the end of a ring that may be missing
end-most : (shape : Shape) (ring : Option Ring) (has : Bool) → is_some_ring ring ≡ has → IfSome ring (λ r. voids_at_end r.counts ≡ 0) → part_mount_limit shape ring ≤ cond has (end_reads shape) 0
end-most shape None has is none = omega arith
end-most shape (Some ring) has is none = subst (λ b. part_mount_limit shape (Some ring) ≤ cond b (end_reads shape) 0) is (omega (arith, none))

-- .. that of a log, whose newest page is read then
log-most : (shape : Shape) (ring : Option Ring) (has : Bool) → is_some_ring ring ≡ has → IfSome ring (λ r. voids_at_end r.counts ≡ 0) → log_mount_limit shape ring ≤ cond has (end_reads shape + 1) 0
log-most shape None has is none = omega arith
log-most shape (Some ring) has is none = subst (λ b. log_mount_limit shape (Some ring) ≤ cond b (end_reads shape + 1) 0) is (omega (arith, none))

-- .. and its kept pages
ring-most : (shape : Shape) (before after : Option Ring) (has : Bool) → IsShape shape → is_some_ring before ≡ has → is_some_ring after ≡ has → IfSome before (λ r. voids_at_end r.counts ≡ 0) → IfSome after (IsRing shape) →
    part_mount_limit shape before + kept_in after ≤ cond has (most_pages shape + end_reads shape) 0
ring-most shape None None has is b a none h = omega arith
ring-most shape None (Some after) has is b a none h = absurd (false≢true (b ∙ sym a))
ring-most shape (Some before) None has is b a none h = absurd (true≢false (b ∙ sym a))
ring-most shape (Some before) (Some after) has is b a none h =
    let kept = kept-most shape after is h in
    subst (λ x. part_mount_limit shape (Some before) + kept_in (Some after) ≤ cond x (most_pages shape + end_reads shape) 0) b (omega (arith, none, kept))

pub full-entries : (plan : Plan) (before after : Table) → IsTable plan before → IsTable plan after → IsTrue (plan.full_index && has_index plan) → IsShape (shape_of plan DataRing) → IsShape (shape_of plan IndexRing) → HasNoVoidsAtEnd before →
    count_by (λ number. not (is_listed plan after number)) (numbers_of after) ≤ unlisted_pages plan → full_mount_limit plan before after ≤ full_reads plan
full-entries plan before after b a full main index none few =
    let rows : rows_read plan ≡ unlisted_pages plan + 1 = ap (λ (x : Bool). if x then unlisted_pages plan + 1 else most_pages (shape_of plan DataRing)) full in
    let listed = ring-most (shape_of plan IndexRing) before.index after.index (has_index plan) index b.has_rings.0 a.has_rings.0 none.index a.index in
    let blobs = end-most (shape_of plan VarRing) before.var (has_var plan) b.has_rings.1 none.var in
    let log = log-most (shape_of plan LogRing) before.log (has_log plan) b.has_rings.2 none.log in
    omega (arith, none.rows, rows, listed, blobs, log, few)
