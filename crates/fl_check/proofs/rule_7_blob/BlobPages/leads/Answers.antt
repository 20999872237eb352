use Rattle.std.proofs.Common.{◌+◌, ◌-◌, ◌<◌, ◌≤◌, sym, ◌∙◌, arith}
use Rattle.std.proofs.lemmas.Bool.{leb-true, leb-false}
use Rattle.fl_ring.specs.Place.{shape_of}
use Rattle.fl_rules.specs.Reaches.{reach}
use Rattle.fl_rules.specs.References.{content_room}
use Rattle.fl_rules.proofs.BlobReaches.{listed_reach, gone, whole, late, short}
use Rattle.fl_check.proofs.rule_7_blob.BlobPages.leads.Goals as goal

pub returns-then-self-at-clause-no : goal.returns-then-self-at-clause-no
returns-then-self-at-clause-no c = λ no page measured leads. omega (arith, leads.sealed, c.if-self-at.true)

pub returns-then-self-back-clause-yes : goal.returns-then-self-back-clause-yes
returns-then-self-back-clause-yes c = λ yes page measured. record {
  sealed = omega (arith, c.if-self-at.false);
  whole = λ there. absurd (omega (arith, there.kept, c.if-self-back.true, c.if-self-at.false));
}

pub returns-then-reach-eq0-clause-yes : goal.returns-then-reach-eq0-clause-yes
returns-then-reach-eq0-clause-yes c = λ yes page measured.
    let self = c.args.self.now in
    let back = self.numbering.next - c.args.at.page in
    let kept : back ≤ self.numbering.marks.kept = c.if-self-back.false in
    let some : 1 ≤ back = omega (arith, c.if-self-at.false) in
    let is = listed_reach page (shape_of self.ring.now) self.numbering.marks.at self.numbering.marks.kept self.reaches.now measured back some kept in
    gone page (shape_of self.ring.now) self.numbering measured.content c.args.at back kept (omega (arith, c.if-self-at.false)) some (sym is ∙ c.if-reach-eq0.true)

pub returns-then-self-from-clause-no : goal.returns-then-self-from-clause-no
returns-then-self-from-clause-no c = λ no page measured.
    let self = c.args.self.now in
    let back = self.numbering.next - c.args.at.page in
    let kept : back ≤ self.numbering.marks.kept = c.if-self-back.false in
    let some : 1 ≤ back = omega (arith, c.if-self-at.false) in
    let is = listed_reach page (shape_of self.ring.now) self.numbering.marks.at self.numbering.marks.kept self.reaches.now measured back some kept in
    let far : 0 < reach page (shape_of self.ring.now) self.numbering.marks.at back = (let other = c.if-reach-eq0.false in omega (arith, is, other)) in
    let begins : content_room (shape_of self.ring.now) ≤ c.args.at.offset = omega (arith, c.if-self-from.true, c.from.ensures, self.content_is) in
    late page (shape_of self.ring.now) self.numbering measured.content c.args.at back kept (omega (arith, c.if-self-at.false)) some far begins

pub returns-clause-yes : goal.returns-clause-yes
returns-clause-yes c = λ yes page measured.
    let self = c.args.self.now in
    let back = self.numbering.next - c.args.at.page in
    let kept : back ≤ self.numbering.marks.kept = c.if-self-back.false in
    let some : 1 ≤ back = omega (arith, c.if-self-at.false) in
    let is = listed_reach page (shape_of self.ring.now) self.numbering.marks.at self.numbering.marks.kept self.reaches.now measured back some kept in
    let begins : c.args.at.offset < content_room (shape_of self.ring.now) = omega (arith, c.if-self-from.false, c.from.ensures, self.content_is) in
    let le = leb-true _ _ yes in
    let ends : c.args.at.offset + c.args.at.length ≤ reach page (shape_of self.ring.now) self.numbering.marks.at back = omega (arith, is, le, c.from-2.ensures, c.from-3.ensures) in
    whole page (shape_of self.ring.now) self.numbering measured.content c.args.at back kept (omega (arith, c.if-self-at.false)) some (omega (arith, begins)) c.requires begins ends

pub returns-clause-no : goal.returns-clause-no
returns-clause-no c = λ no page measured.
    let self = c.args.self.now in
    let back = self.numbering.next - c.args.at.page in
    let kept : back ≤ self.numbering.marks.kept = c.if-self-back.false in
    let some : 1 ≤ back = omega (arith, c.if-self-at.false) in
    let is = listed_reach page (shape_of self.ring.now) self.numbering.marks.at self.numbering.marks.kept self.reaches.now measured back some kept in
    let far : 0 < reach page (shape_of self.ring.now) self.numbering.marks.at back = (let other = c.if-reach-eq0.false in omega (arith, is, other)) in
    let begins : c.args.at.offset < content_room (shape_of self.ring.now) = omega (arith, c.if-self-from.false, c.from.ensures, self.content_is) in
    let lt = leb-false _ _ no in
    let ends : reach page (shape_of self.ring.now) self.numbering.marks.at back < c.args.at.offset + c.args.at.length = omega (arith, is, lt, c.from-2.ensures, c.from-3.ensures) in
    short page (shape_of self.ring.now) self.numbering measured.content c.args.at back kept (omega (arith, c.if-self-at.false)) some c.requires far ends
