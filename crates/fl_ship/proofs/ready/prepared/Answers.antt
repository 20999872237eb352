use Rattle.std.proofs.Common.{sym, refl, ◌∙◌, ap, arith}
use Rattle.std.proofs.lemmas.Option.{slice_get_within}
use Rattle.fl_base.specs.declared.types.Geometry.{Geometry}
use Rattle.fl_store.proofs.TablesChanged.{some-is}
use Rattle.fl_ship.proofs.ready.prepared.Goals as goal

pub is_shipped-requires : goal.is_shipped-requires
is_shipped-requires c = omega (arith, slice_get_within c.args.found.layout.tables.entries.items c.in-Some.at c.in-Some.ensures.entry c.in-Some.ensures.here, c.requires.layout.tables.as_many)

pub returns-in_default-find-clause-refused : goal.returns-in_default-find-clause-refused
returns-in_default-find-clause-refused c = c.in_default-find.ensures

pub returns-then-not-is_shipped-clause-refused : goal.returns-then-not-is_shipped-clause-refused
returns-then-not-is_shipped-clause-refused c = (c.in-Some.at, c.in-Some.ensures, λ plan e. sym (c.is_shipped.ensures plan e) ∙ c.if-not-is_shipped.true)

pub returns-clause-ready : goal.returns-clause-ready
returns-clause-ready c = record {
  config = refl;
  source = refl;
  copy = c.in-Ok.ensures;
  rows = λ geometry device. c.in-Ok-new.ensures.rows ∙ ap (λ (x : Geometry). x.page) (some-is c.args.found.config.device _ geometry c.geometry.ensures.device device);
  index = λ geometry device. c.in-Ok-new.ensures.index ∙ ap (λ (x : Geometry). x.page) (some-is c.args.found.config.device _ geometry c.geometry.ensures.device device);
  named = c.in-Some.ensures;
  shipped = λ plan e. sym (c.is_shipped.ensures plan e) ∙ c.if-not-is_shipped.false;
}
