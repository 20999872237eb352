use Rattle.std.proofs.Common.{rules, ◌≡◌, ℕ, Option, Some, None, option_map, sym, ◌∙◌, ap}
use Rattle.std.specs.Prelude.{min}
use Rattle.fl_model.specs.Table.{Entry, last_entry}
use Rattle.fl_parts.proofs.Sizes.{table-fits}
use Rattle.fl_cursor.proofs.cursor.last_wanted.Goals as goal

-- the lesser of a number and the last key
least-last : (high : ℕ) (o : Option Entry) (key : Option ℕ) → key ≡ option_map (λ entry. entry.kept.key) o → option_map (λ last. min high last) key ≡ option_map (λ last. min high last.kept.key) o
least-last high None key is = ap (λ (k : Option ℕ). option_map (λ last. min high last) k) is
least-last high (Some entry) key is = ap (λ (k : Option ℕ). option_map (λ last. min high last) k) is

pub returns-in-Some-clause-stands : goal.returns-in-Some-clause-stands
returns-in-Some-clause-stands g c = λ f first plan t stands.
    let least : c.min.result ≡ min c.args.range.high c.in-Some.last = search rules in
    ap (λ (n : ℕ). Some n) least
    ∙ (ap (λ (k : Option ℕ). option_map (λ last. min c.args.range.high last) k) (sym c.in-Some.is) ∙ least-last c.args.range.high (last_entry t) c.last_key.result (c.last_key.ensures.stands f first plan t stands))

pub returns-in-None-clause-stands : goal.returns-in-None-clause-stands
returns-in-None-clause-stands g c = λ f first plan t stands.
    ap (λ (k : Option ℕ). option_map (λ last. min c.args.range.high last) k) (sym c.in-None.is) ∙ least-last c.args.range.high (last_entry t) c.last_key.result (c.last_key.ensures.stands f first plan t stands)

pub returns-in-Some-clause-exact : goal.returns-in-Some-clause-exact
returns-in-Some-clause-exact g c =
    let least : c.min.result ≡ min c.args.range.high c.in-Some.last = search rules in
    ap (λ (n : ℕ). Some n) least ∙ ap (λ (k : Option ℕ). option_map (λ last. min c.args.range.high last) k) (sym c.in-Some.is ∙ c.last_key.ensures.exact)

pub returns-in-None-clause-exact : goal.returns-in-None-clause-exact
returns-in-None-clause-exact g c = ap (λ (k : Option ℕ). option_map (λ last. min c.args.range.high last) k) (sym c.in-None.is ∙ c.last_key.ensures.exact)

pub last_key-requires : goal.last_key-requires
last_key-requires g c = table-fits g.row.KNOTS g.row.SLOTS c.args.table.now.few_knots c.args.table.now.few_slots
