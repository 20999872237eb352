use Rattle.std.proofs.Common.{ℕ, Bool, Bor, List, length, Option, option_map, not, ◌||◌, nat_lt, sym, ◌∙◌, ap}
use Rattle.std.specs.Prelude.{if◌then◌else◌}
use Rattle.fl_table.specs.Refusal.{blob_refused, refused_if}
use Rattle.fl_table.specs.declared.faults.PutRefusal.{PutRefusal}
use Rattle.fl_table.specs.declared.faults.PutRefusal.TheVariants.{Blob}
use Rattle.fl_table.specs.declared.table.Table.{Table}
use Rattle.fl_table.proofs.Refusing.{then-refused}
use Rattle.fl_table.proofs.table.Table.blob_refused.Goals as goal

-- the refusal of a blob of this length, in a table that keeps blobs or none
abbrev refuses : ℕ → ℕ → Bool → Option PutRefusal
refuses limit len keeps = refused_if (not keeps || nat_lt (if keeps then limit else 0) len) (Blob (if keeps then limit else 0))

abbrev of_blob : {KNOTS SLOTS : ℕ} → Table KNOTS SLOTS → Option (Bor (List ℕ)) → Option PutRefusal
of_blob t blob = blob_refused t (option_map (λ (b : Bor (List ℕ)). length b.now) blob)

pub returns-in_err-bytes : goal.returns-in_err-bytes
returns-in_err-bytes g c = c.from_residual.ensures ∙ ap (of_blob c.args.self.now) (sym c.in_err-bytes.was)

pub returns-then-is_none : goal.returns-then-is_none
returns-then-is_none g c = ap (refuses c.args.self.now.blob_limit (length c.in_ok-bytes.bytes.now)) (sym c.if-is_none.ensures) ∙ ap (of_blob c.args.self.now) (sym c.in_ok-bytes.was)

pub returns : goal.returns
returns g c =
    let limit = c.args.self.now.blob_limit in
    let len = length c.in_ok-bytes.bytes.now in
    c.then_some.ensures ∙ (then-refused (nat_lt limit len) (Blob limit) ∙ (ap (refuses limit len) (sym c.if-is_none.ensures) ∙ ap (of_blob c.args.self.now) (sym c.in_ok-bytes.was)))
