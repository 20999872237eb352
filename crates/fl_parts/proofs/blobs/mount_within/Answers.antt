use Rattle.std.proofs.Common.{◌≡◌, ◌-◌, Option, Some, Ok, ◌∙◌, ap, subst, arith, inr}
use Rattle.std.proofs.lemmas.Result.{err_from_is_err_and}
use Rattle.fl_parts.specs.BlobEnds.{least_of}
use Rattle.fl_parts.specs.BlobMount.{FindsBlobs, MountEndsOf}
use Rattle.fl_parts.specs.Blobs.{AreEmpty}
use Rattle.fl_parts.specs.declared.mount_fault.MountFault.TheVariants.{BadBlob}
use Rattle.fl_parts.proofs.BlobsWithin.{within-fails, within-ends, within-beyond}
use Rattle.fl_parts.proofs.blobs.mount_within.Goals as goal
use Rattle.fl_var.specs.declared.var_data.VarData.{VarData}

pub returns-in_err-mount-clause-ends : goal.returns-in_err-mount-clause-ends
returns-in_err-mount-clause-ends g c = λ first plan table rose device there.
    let p = err_from_is_err_and c.from_residual.result c.from_residual.ensures.1 in
    rw (p.1, p.2) (within-fails (g.F.Flash.state c.args.flash.now) (g.F.Flash.state c.mount.new.flash) first plan table rose device c.args.end c.least_of-at_least.result c.least_of-at_least.ensures there c.args.blobs.now c.mount.new.blobs
    c.in_err-mount.field-0.0 (c.in_err-mount.ensures.ends first plan table rose device) c.in_err-mount.ensures.refused c.in_err-mount.ensures.same)

pub returns-then-end-from-clause-ends : goal.returns-then-end-from-clause-ends
returns-then-end-from-clause-ends g c = λ first plan table rose device there.
    let f = g.F.Flash.state c.args.flash.now in
    let new = g.F.Flash.state c.mount.new.flash in
    let is : c.mount.new.blobs ≡ Some c.in-Some.var = c.in-Some.is in
    within-beyond f new first plan table rose device c.args.end c.least_of-at_least.result c.least_of-at_least.ensures there c.args.blobs.now c.in-Some.var c.in_ok-mount.field-0 c.least_of-page.result c.next_number-next.result
    (λ least. subst (λ (o : Option VarData). MountEndsOf c.args.blobs.now f first plan table rose device (Ok c.in_ok-mount.field-0) o new) is (c.in_ok-mount.ensures.ends first plan table rose device least))
    (subst (λ (o : Option VarData). FindsBlobs c.args.blobs.now f c.least_of-at_least.result o new) is c.in_ok-mount.ensures.found) (omega (arith, c.if-end-from.true, c.from.ensures, c.next_number-next.ensures))

pub returns-then-end-from-clause-empty : goal.returns-then-end-from-clause-empty
returns-then-end-from-clause-empty g c =
    let is : c.mount.new.blobs ≡ Some c.in-Some.var = c.in-Some.is in
    subst (λ (o : Option VarData). AreEmpty o) is c.in_ok-mount.ensures.empty

pub returns-clause-empty : goal.returns-clause-empty
returns-clause-empty g c =
    let is : c.mount.new.blobs ≡ Some c.in-Some.var = c.in-Some.is in
    subst (λ (o : Option VarData). AreEmpty o) is c.in_ok-mount.ensures.empty

pub returns-then-end-from-clause-refused : goal.returns-then-end-from-clause-refused
returns-then-end-from-clause-refused g c =
    let f = g.F.Flash.state c.args.flash.now in
    let new = g.F.Flash.state c.mount.new.flash in
    let is : c.mount.new.blobs ≡ Some c.in-Some.var = c.in-Some.is in
    inr (record {
      now = c.in-Some.var;
      finds = subst (λ n. FindsBlobs c.args.blobs.now f n (Some c.in-Some.var) new) c.least_of-at_least.ensures (subst (λ (o : Option VarData). FindsBlobs c.args.blobs.now f c.least_of-at_least.result o new) is c.in_ok-mount.ensures.found);
      beyond = omega (arith, c.if-end-from.true, c.from.ensures, c.next_number-next.ensures);
      fault_is = ap (λ n. BadBlob n c.next_number-next.result) c.least_of-page.ensures ∙ ap (λ n. BadBlob (least_of (c.args.end - 1)) n) c.next_number-next.ensures;
    })

pub returns-clause-ends : goal.returns-clause-ends
returns-clause-ends g c = λ first plan table rose device there.
    let f = g.F.Flash.state c.args.flash.now in
    let new = g.F.Flash.state c.mount.new.flash in
    let is : c.mount.new.blobs ≡ Some c.in-Some.var = c.in-Some.is in
    within-ends f new first plan table rose device c.args.end c.least_of-at_least.result c.least_of-at_least.ensures there c.args.blobs.now (Some c.in-Some.var) c.in_ok-mount.field-0
    (λ least. subst (λ (o : Option VarData). MountEndsOf c.args.blobs.now f first plan table rose device (Ok c.in_ok-mount.field-0) o new) is (c.in_ok-mount.ensures.ends first plan table rose device least))
    (subst (λ (o : Option VarData). FindsBlobs c.args.blobs.now f c.least_of-at_least.result o new) is c.in_ok-mount.ensures.found)
