use Rattle.std.proofs.Common.{◌≡◌, ◌*◌, ◌-◌, true, false, cond, Option, Some, IsTrue, sym, ◌∙◌, ap, subst}
use Rattle.std.proofs.lemmas.Bool.{true≢false}
use Rattle.fl_frame.specs.Reads.{FewReads}
use Rattle.fl_index.specs.declared.index.BitmapIndex.{BitmapIndex}
use Rattle.fl_index.specs.Finding.{FindsEnd}
use Rattle.fl_index.specs.Memory.{form_in, next_in, oldest_in}
use Rattle.fl_index.specs.Outcomes.{EndsAs}
use Rattle.fl_parts.specs.Bitmaps.{MountEndsOf, RemembersFound, room_of}
use Rattle.fl_parts.specs.MountLimits.{IsIndexLimited}
use Rattle.fl_index.specs.declared.page.EntryForm.{EntryForm}
use Rattle.fl_index.proofs.SealEnds.{planned-form}
use Rattle.fl_parts.proofs.FoundReads.{found-few, found-spared, ok-then}
use Rattle.fl_parts.proofs.bitmaps.mount_bitmaps.Goals as goal

pub returns-in-Some-clause-ends : goal.returns-in-Some-clause-ends
returns-in-Some-clause-ends g c = λ first plan table rose device.
    let old = g.F.Flash.state c.args.flash.now in
    let new = g.F.Flash.state c.find.new.flash in
    let now = c.find.new.self in
    let full : (form_in c.in-Some.index).full ≡ true = sym c.is_full.ensures ∙ c.if-is_full.true in
    subst (λ (o : Option BitmapIndex). MountEndsOf o old first plan table rose device c.find.result (Some now) new) (sym c.in-Some.is)
    (λ watched planned rests. subst (λ full. EndsAs (RemembersFound full now) first plan table rose device c.find.result now new) (sym full) (c.find.ensures.ends first plan table rose device watched planned rests))

pub returns-in-Some-clause-reads : goal.returns-in-Some-clause-reads
returns-in-Some-clause-reads g c = λ told.
    let old = g.F.Flash.state c.args.flash.now in
    let new = g.F.Flash.state c.find.new.flash in
    subst (λ (o : Option BitmapIndex). FewReads (4 * room_of o) old new) (sym c.in-Some.is) (found-few c.in-Some.index c.find.new.self old new c.find.ensures.beside)

pub returns-in-Some-clause-spared : goal.returns-in-Some-clause-spared
returns-in-Some-clause-spared g c =
    let old = g.F.Flash.state c.args.flash.now in
    let new = g.F.Flash.state c.find.new.flash in
    let now = c.find.new.self in
    ok-then c.find.result (λ end. IsTrue old.media.tells → FindsEnd c.in-Some.index old end now new) c.find.ensures.found (λ end found told.
    subst (λ (o : Option BitmapIndex). FewReads (4 * room_of o - cond now.full (next_in now - oldest_in now) 0) old new) (sym c.in-Some.is) (found-spared c.in-Some.index now old new c.find.ensures.beside end (found told) told))

pub returns-in-Some-2-clause-ends : goal.returns-in-Some-2-clause-ends
returns-in-Some-2-clause-ends g c = λ first plan table rose device.
    let old = g.F.Flash.state c.args.flash.now in
    let new = g.F.Flash.state c.mount.new.flash in
    let now = c.mount.new.self in
    let full : (form_in c.in-Some.index).full ≡ false = sym c.is_full.ensures ∙ c.if-is_full.false in
    subst (λ (o : Option BitmapIndex). MountEndsOf o old first plan table rose device c.mount.result (Some now) new) (sym c.in-Some.is)
    (λ watched planned rests. subst (λ full. EndsAs (RemembersFound full now) first plan table rose device c.mount.result now new) (sym full) (c.mount.ensures.ends first plan table rose device watched planned rests))

pub returns-in-Some-clause-limit : goal.returns-in-Some-clause-limit
returns-in-Some-clause-limit g c = λ first plan table told.
    let old = g.F.Flash.state c.args.flash.now in
    let new = g.F.Flash.state c.find.new.flash in
    subst (λ (o : Option BitmapIndex). IsIndexLimited o old first plan table new) (sym c.in-Some.is) (λ planned rests full. c.find.ensures.reads first plan table told planned rests)

pub returns-in-Some-2-clause-limit : goal.returns-in-Some-2-clause-limit
returns-in-Some-2-clause-limit g c = λ first plan table told.
    let old = g.F.Flash.state c.args.flash.now in
    let new = g.F.Flash.state c.mount.new.flash in
    let bare : (form_in c.in-Some.index).full ≡ false = sym c.is_full.ensures ∙ c.if-is_full.false in
    subst (λ (o : Option BitmapIndex). IsIndexLimited o old first plan table new) (sym c.in-Some.is)
    (λ planned rests full. absurd (true≢false (sym full ∙ (sym (ap (λ (form : EntryForm). form.full) (planned-form c.in-Some.index first plan planned)) ∙ bare))))
