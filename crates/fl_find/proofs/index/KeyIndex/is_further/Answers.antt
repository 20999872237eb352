use Rattle.std.proofs.Common.{Bool, ◌&&◌, nat_lt, Some, None, sym, ◌∙◌, ap}
use Rattle.std.proofs.lemmas.Bool.{lt-ltb, le-ltb}
use Rattle.fl_spline.specs.Points.{last_of}
use Rattle.fl_find.specs.Index.{knots_in}
use Rattle.fl_find.proofs.Further.{further-by}
use Rattle.fl_find.proofs.index.KeyIndex.is_further.Goals as goal

pub returns-then-key-first_key : goal.returns-then-key-first_key
returns-then-key-first_key g c =
    let test = lt-ltb c.in-Some.key c.args.first_key c.if-key-first_key.true in
    sym (further-by (knots_in c.args.self.now) (c.args.first_key, c.args.number) (Some (c.in-Some.key, c.in-Some.page)) (sym (c.copied.ensures ∙ (c.last.ensures.value ∙ ap last_of c.as_slice.ensures.knots)) ∙ c.in-Some.is) ∙ ap (λ (b : Bool). b && nat_lt c.in-Some.page c.args.number) test)

pub returns-else-key-first_key : goal.returns-else-key-first_key
returns-else-key-first_key g c =
    let test = le-ltb c.in-Some.key c.args.first_key c.if-key-first_key.false in
    test ∙ sym (further-by (knots_in c.args.self.now) (c.args.first_key, c.args.number) (Some (c.in-Some.key, c.in-Some.page)) (sym (c.copied.ensures ∙ (c.last.ensures.value ∙ ap last_of c.as_slice.ensures.knots)) ∙ c.in-Some.is) ∙ ap (λ (b : Bool). b && nat_lt c.in-Some.page c.args.number) test)

pub returns-in-None : goal.returns-in-None
returns-in-None g c = sym (further-by (knots_in c.args.self.now) (c.args.first_key, c.args.number) None (sym (c.copied.ensures ∙ (c.last.ensures.value ∙ ap last_of c.as_slice.ensures.knots)) ∙ c.in-None.is))
