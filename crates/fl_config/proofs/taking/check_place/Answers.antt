use Rattle.std.proofs.Common.{◌≡◌, true, false, map, nat_le, length, arith, rules, refl, ◌∙◌}
use Rattle.std.specs.List.{list_any}
use Rattle.std.proofs.lemmas.List.{length-map}
use Rattle.std.proofs.lemmas.Bool.Decides.{nat_tests}
use Rattle.fl_model.specs.Record.{bytes_equal}
use Rattle.fl_config.specs.Entry.{plan_in}
use Rattle.fl_config.proofs.Takes.{any-map}
use Rattle.fl_config.proofs.taking.check_place.Goals as goal

pub returns-then-has_name : goal.returns-then-has_name
returns-then-has_name c =
    let few : nat_le 4 (length (map plan_in c.args.tables.now.items)) ≡ false = grind (arith, nat_tests, length-map) in
    let named : list_any (λ p. bytes_equal p.name c.args.words.now.name) (map plan_in c.args.tables.now.items) ≡ true =
    any-map (λ p. bytes_equal p.name c.args.words.now.name) c.args.tables.now.items ∙ search (rules, c.if-has_name.true, c.if-has_name.ensures) in
    rw few (rw named refl)

pub returns : goal.returns
returns c =
    let few : nat_le 4 (length (map plan_in c.args.tables.now.items)) ≡ false = grind (arith, nat_tests, length-map) in
    let named : list_any (λ p. bytes_equal p.name c.args.words.now.name) (map plan_in c.args.tables.now.items) ≡ false =
    any-map (λ p. bytes_equal p.name c.args.words.now.name) c.args.tables.now.items ∙ search (rules, c.if-has_name.false, c.if-has_name.ensures) in
    rw few (rw named refl)
