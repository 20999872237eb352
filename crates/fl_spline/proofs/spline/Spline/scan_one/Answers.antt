use Rattle.std.proofs.Common.{◌∙◌, ℕ, List, [], ◌∷◌, ◌++◌, sym, ap, subst, lit≤, le_refl, le_trans, le_of_lt, lt_of_le_of_lt}
use Rattle.fl_spline.specs.Points.{IsPast, last_of}
use Rattle.fl_spline.proofs.Ends.{none-are, one-more, ends-with, rises-one}
use Rattle.fl_spline.proofs.Lists.{last_of-push}
use Rattle.fl_spline.proofs.MovedPoints.{moved-push, moved-replace}
use Rattle.fl_spline.proofs.Scans.{scan-first, scan-break, scan-second, scan-more}
use Rattle.fl_spline.proofs.spline.Spline.scan_one.Goals as goal

-- the first point

pub invariant_of-self : goal.invariant_of-self
invariant_of-self g c =
    let alone = c.push.ensures.items ∙ ap (λ (points : List (ℕ × ℕ)). points ++ c.args.point ∷ []) (none-are c.args.self.now.knots.items (sym c.last_knot.ensures ∙ c.in_default.is)) in
    let end = ends-with c.push.new.self.items c.args.point c.args.point _ (sym c.from-self.ensures.base) (ap last_of alone) (le_refl _, le_refl _) in
    record {
      two = c.args.self.now.two;
      rises = rw alone (rises-one c.args.point);
      base_key = λ x is. (end x is).0;
      base_page = λ x is. (end x is).1;
    }

pub returns-in_default-clause-last : goal.returns-in_default-clause-last
returns-in_default-clause-last g c = ap last_of c.push.ensures.items ∙ last_of-push c.args.self.now.knots.items c.args.point

pub returns-in_default-clause-moved : goal.returns-in_default-clause-moved
returns-in_default-clause-moved g c = λ count oldest.
    absurd (one-more _ c.args.point _ c.push.ensures.items count)

pub returns-in_default-clause-scans : goal.returns-in_default-clause-scans
returns-in_default-clause-scans g c = λ s h.
    scan-first _ _ s _ _ _ _ _ (le_trans (lit≤ tt) c.args.self.now.two) (sym c.last_knot.ensures ∙ c.in_default.is) h c.push.ensures.items c.from-self.ensures.base (c.from-self.ensures.covers c.args.self.now.error)

-- a point after the last knot

pub admits-requires : goal.admits-requires
admits-requires g c =
    let further : IsPast c.in-Some.end c.args.point = rw (sym c.in-Some.ensures) at c.requires in
    (lt_of_le_of_lt (c.args.self.now.base_key _ (sym c.in-Some.ensures)) further.0, lt_of_le_of_lt (c.args.self.now.base_page _ (sym c.in-Some.ensures)) further.1)

pub narrow-requires : goal.narrow-requires
narrow-requires g c =
    let further : IsPast c.in-Some.end c.args.point = rw (sym c.in-Some.ensures) at c.requires in
    subst (λ (base : ℕ × ℕ). IsPast base c.args.point) (sym c.from-self-then-not-admits.ensures.base) further

pub narrow-requires-2 : goal.narrow-requires-2
narrow-requires-2 g c =
    let further : IsPast c.in-Some.end c.args.point = rw (sym c.in-Some.ensures) at c.requires in
    (lt_of_le_of_lt (c.args.self.now.base_key _ (sym c.in-Some.ensures)) further.0, lt_of_le_of_lt (c.args.self.now.base_page _ (sym c.in-Some.ensures)) further.1)

pub returns-then-not-admits-clause-last : goal.returns-then-not-admits-clause-last
returns-then-not-admits-clause-last g c = c.push_newest.ensures.last

pub returns-then-len-gt1-clause-last : goal.returns-then-len-gt1-clause-last
returns-then-len-gt1-clause-last g c = c.replace_last.ensures.last

pub returns-else-len-gt1-clause-last : goal.returns-else-len-gt1-clause-last
returns-else-len-gt1-clause-last g c = c.push_newest-else-len-gt1.ensures.last

pub returns-then-not-admits-clause-scans : goal.returns-then-not-admits-clause-scans
returns-then-not-admits-clause-scans g c = λ s h.
    scan-break _ _ s _ _ _ _ _ _ (le_trans (lit≤ tt) c.args.self.now.two) (sym c.in-Some.ensures) h
    (λ points covered. sym (c.admits.ensures c.args.self.now.error points covered) ∙ c.if-not-admits.true) c.push_newest.ensures.items (c.narrow.ensures.base ∙ c.from-self-then-not-admits.ensures.base) (c.narrow.ensures.covers _ (c.from-self-then-not-admits.ensures.covers c.args.self.now.error))

pub returns-then-len-gt1-clause-scans : goal.returns-then-len-gt1-clause-scans
returns-then-len-gt1-clause-scans g c = λ s h.
    scan-more _ _ s _ _ _ _ _ _ c.args.self.now.two (sym c.in-Some.ensures) (rw c.len.ensures.value at c.if-len-gt1.true) h
    (λ points covered. sym (c.admits.ensures c.args.self.now.error points covered) ∙ c.if-not-admits.false) c.replace_last.ensures.items c.narrow-2.ensures.base c.narrow-2.ensures.covers

pub returns-else-len-gt1-clause-scans : goal.returns-else-len-gt1-clause-scans
returns-else-len-gt1-clause-scans g c = λ s h.
    scan-second _ _ s _ _ _ _ _ _ c.args.self.now.two (sym c.in-Some.ensures) (rw c.len.ensures.value at c.if-len-gt1.false) h
    (λ points covered. sym (c.admits.ensures c.args.self.now.error points covered) ∙ c.if-not-admits.false) c.push_newest-else-len-gt1.ensures.items c.narrow-2.ensures.base c.narrow-2.ensures.covers

pub invariant_of-self-then-not-admits : goal.invariant_of-self-then-not-admits
invariant_of-self-then-not-admits g c =
    let further : IsPast c.in-Some.end c.args.point = rw (sym c.in-Some.ensures) at c.requires in
    let end = ends-with c.push_newest.new.knots.items c.args.point c.in-Some.end _ (sym (c.narrow.ensures.base ∙ c.from-self-then-not-admits.ensures.base)) c.push_newest.ensures.last (le_of_lt further.0, le_of_lt further.1) in
    record {
      two = c.args.self.now.two;
      rises = c.push_newest.ensures.rises c.args.self.now.rises c.requires;
      base_key = λ x is. (end x is).0;
      base_page = λ x is. (end x is).1;
    }

pub invariant_of-self-then-len-gt1 : goal.invariant_of-self-then-len-gt1
invariant_of-self-then-len-gt1 g c =
    let further : IsPast c.in-Some.end c.args.point = rw (sym c.in-Some.ensures) at c.requires in
    let end = ends-with c.replace_last.new.knots.items c.args.point c.args.self.now.corridor.base _ (sym c.narrow-2.ensures.base) c.replace_last.ensures.last (le_of_lt (lt_of_le_of_lt (c.args.self.now.base_key _ (sym c.in-Some.ensures)) further.0), le_of_lt (lt_of_le_of_lt (c.args.self.now.base_page _ (sym c.in-Some.ensures)) further.1)) in
    record {
      two = c.args.self.now.two;
      rises = c.replace_last.ensures.rises c.args.self.now.rises c.requires;
      base_key = λ x is. (end x is).0;
      base_page = λ x is. (end x is).1;
    }

pub invariant_of-self-else-len-gt1 : goal.invariant_of-self-else-len-gt1
invariant_of-self-else-len-gt1 g c =
    let further : IsPast c.in-Some.end c.args.point = rw (sym c.in-Some.ensures) at c.requires in
    let end = ends-with c.push_newest-else-len-gt1.new.knots.items c.args.point c.args.self.now.corridor.base _ (sym c.narrow-2.ensures.base) c.push_newest-else-len-gt1.ensures.last (le_of_lt (lt_of_le_of_lt (c.args.self.now.base_key _ (sym c.in-Some.ensures)) further.0), le_of_lt (lt_of_le_of_lt (c.args.self.now.base_page _ (sym c.in-Some.ensures)) further.1)) in
    record {
      two = c.args.self.now.two;
      rises = c.push_newest-else-len-gt1.ensures.rises c.args.self.now.rises c.requires;
      base_key = λ x is. (end x is).0;
      base_page = λ x is. (end x is).1;
    }

pub returns-then-not-admits-clause-moved : goal.returns-then-not-admits-clause-moved
returns-then-not-admits-clause-moved g c = λ count oldest.
    let new = c.push_newest.ensures.items in
    rw new (moved-push g.row.KNOTS c.args.self.now.knots.items c.args.point c.args.self.now.two c.args.self.now.rises (rw new at count) (rw new at oldest))

pub returns-else-len-gt1-clause-moved : goal.returns-else-len-gt1-clause-moved
returns-else-len-gt1-clause-moved g c = λ count oldest.
    let new = c.push_newest-else-len-gt1.ensures.items in
    rw new (moved-push g.row.KNOTS c.args.self.now.knots.items c.args.point c.args.self.now.two c.args.self.now.rises (rw new at count) (rw new at oldest))

pub returns-then-len-gt1-clause-moved : goal.returns-then-len-gt1-clause-moved
returns-then-len-gt1-clause-moved g c = λ count oldest.
    rw c.replace_last.ensures.items (moved-replace c.args.self.now.knots.items c.args.point c.requires (rw c.len.ensures.value at c.if-len-gt1.true))
