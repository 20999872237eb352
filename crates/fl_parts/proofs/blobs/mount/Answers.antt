use Rattle.std.proofs.Common.{◌≡◌, ◌*◌, Option, Some, sym, subst}
use Rattle.fl_frame.specs.Reads.{FewReads}
use Rattle.fl_parts.specs.BlobMount.{MountEndsOf}
use Rattle.fl_parts.specs.Blobs.{LieOn, room_of}
use Rattle.fl_parts.specs.MountLimits.{IsVarLimited}
use Rattle.fl_parts.proofs.BlobMount.{mount-ends, few-reads}
use Rattle.fl_parts.proofs.blobs.mount.Goals as goal
use Rattle.fl_var.specs.declared.var_data.VarData.{VarData}

pub returns-in-Some-clause-ends : goal.returns-in-Some-clause-ends
returns-in-Some-clause-ends g c = λ first plan table rose device least.
    let f = g.F.Flash.state c.args.flash.now in
    let h = g.F.Flash.state c.mount.new.flash in
    let e = c.mount.ensures in
    let is : c.args.blobs.now ≡ Some c.in-Some.var = c.in-Some.is in
    subst (λ (o : Option VarData). MountEndsOf o f first plan table rose device c.mount.result (Some c.mount.new.self) h) (sym is)
    (λ watched rests. mount-ends c.in-Some.var c.mount.new.self f h first plan table rose device e.same rests c.mount.result (e.ends plan table rose device watched rests.in_pages least))

pub returns-in-Some-clause-reads : goal.returns-in-Some-clause-reads
returns-in-Some-clause-reads g c =
    let f = g.F.Flash.state c.args.flash.now in
    let h = g.F.Flash.state c.mount.new.flash in
    let is : c.args.blobs.now ≡ Some c.in-Some.var = c.in-Some.is in
    let lies : LieOn (Some c.in-Some.var) (g.F.Flash.state c.args.flash.now) = subst (λ (o : Option VarData). LieOn o (g.F.Flash.state c.args.flash.now)) is c.requires.lies in
    subst (λ (o : Option VarData). FewReads (4 * room_of o) f h) (sym is) (few-reads c.in-Some.var f h lies c.mount.ensures.beside)

pub returns-in-Some-clause-limit : goal.returns-in-Some-clause-limit
returns-in-Some-clause-limit g c = λ first plan table told.
    let f = g.F.Flash.state c.args.flash.now in
    let h = g.F.Flash.state c.mount.new.flash in
    let is : c.args.blobs.now ≡ Some c.in-Some.var = c.in-Some.is in
    subst (λ (o : Option VarData). IsVarLimited o f first plan table h) (sym is) (λ rests. c.mount.ensures.reads plan table told rests.in_pages)
