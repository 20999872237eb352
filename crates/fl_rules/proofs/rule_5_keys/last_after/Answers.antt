use Rattle.std.proofs.Common.{◌≡◌, true, sym, ◌∙◌, ap, rules, false, refl, subst, ℕ}
use Rattle.fl_mark.specs.Mark.{state_of_page}
use Rattle.fl_page.specs.View.{page_of, layout_of_page, count_of, rows_of}
use Rattle.fl_ring.specs.Newest.{commits}
use Rattle.fl_schema.specs.Schema.{layout_of}
use Rattle.fl_rules.proofs.DataPages.{rows_seen}
use Rattle.fl_rules.proofs.LastKeys.{after_committed, after_other}
use Rattle.std.proofs.lemmas.Bool.{false≢true, true≢false}
use Rattle.fl_rules.proofs.Rooms.{view-fits, has_marks}
use Rattle.fl_page.specs.Steps.{Ascends}
use Rattle.fl_page.specs.Page.{IsGoodPage}
use Rattle.fl_rules.proofs.rule_5_keys.last_after.Goals as goal

pub returns-else-not-keys_ascend-clause-last : goal.returns-else-not-keys_ascend-clause-last
returns-else-not-keys_ascend-clause-last g c =
    let layout = layout_of c.args.schema.now in
    let view = c.in-Ok.view in
    let committed : commits (state_of_page c.args.bytes.now) ≡ true = ap commits (sym c.state_of.ensures) ∙ sym c.is_committed.ensures ∙ c.if-not-is_committed.false in
    let rows = rows_seen layout (layout_of_page view) c.args.bytes.now (page_of view) (count_of view) c.in-Ok.ensures.0 c.in-Ok.ensures.1 c.in-Ok.ensures.2 in
    after_committed layout c.args.bytes.now c.args.before (rows_of view) c.last_of.result committed rows (c.last_of.ensures c.args.before)

pub state_of-requires : goal.state_of-requires
state_of-requires g c = has_marks c.requires.size

pub returns-then-not-is_committed-clause-last : goal.returns-then-not-is_committed-clause-last
returns-then-not-is_committed-clause-last g c =
    let other : commits (state_of_page c.args.bytes.now) ≡ false = ap commits (sym c.state_of.ensures) ∙ sym c.is_committed.ensures ∙ c.if-not-is_committed.true in
    after_other (layout_of c.args.schema.now) c.args.bytes.now c.args.before other

pub returns-then-not-is_committed-clause-rises : goal.returns-then-not-is_committed-clause-rises
returns-then-not-is_committed-clause-rises g c =
    let other : commits (state_of_page c.args.bytes.now) ≡ false = ap commits (sym c.state_of.ensures) ∙ sym c.is_committed.ensures ∙ c.if-not-is_committed.true in
    λ is. absurd (true≢false (sym is ∙ other))

pub number_in-requires : goal.number_in-requires
number_in-requires g c = c.requires.size

pub of-requires : goal.of-requires
of-requires g c = (search rules, (view-fits, c.requires.size))

pub keys_ascend-requires : goal.keys_ascend-requires
keys_ascend-requires g c = view-fits

pub returns-then-not-keys_ascend-clause-broken : goal.returns-then-not-keys_ascend-clause-broken
returns-then-not-keys_ascend-clause-broken g c = refl

pub returns-then-not-keys_ascend-clause-falls : goal.returns-then-not-keys_ascend-clause-falls
returns-then-not-keys_ascend-clause-falls g c =
    let view = c.in-Ok.view in
    let rows = rows_seen (layout_of c.args.schema.now) (layout_of_page view) c.args.bytes.now (page_of view) (count_of view) c.in-Ok.ensures.0 c.in-Ok.ensures.1 c.in-Ok.ensures.2 in
    λ has rises. false≢true (sym c.if-not-keys_ascend.true ∙ c.keys_ascend.ensures.1 (subst (Ascends c.args.before) (sym rows) (rises (ap commits (sym c.state_of.ensures) ∙ sym c.is_committed.ensures ∙ c.if-not-is_committed.false))))

pub last_of-requires : goal.last_of-requires
last_of-requires g c = view-fits

pub returns-in-Err-clause-broken : goal.returns-in-Err-clause-broken
returns-in-Err-clause-broken g c = refl

pub returns-in-Err-clause-falls : goal.returns-in-Err-clause-falls
returns-in-Err-clause-falls g c = λ has rises. c.in-Err.ensures.1 (subst (λ (k : ℕ). IsGoodPage (layout_of c.args.schema.now) k c.args.bytes.now) (sym c.number_in.ensures) (has (ap commits (sym c.state_of.ensures) ∙ sym c.is_committed.ensures ∙ c.if-not-is_committed.false)))

pub returns-else-not-keys_ascend-clause-rises : goal.returns-else-not-keys_ascend-clause-rises
returns-else-not-keys_ascend-clause-rises g c =
    let view = c.in-Ok.view in
    let rows = rows_seen (layout_of c.args.schema.now) (layout_of_page view) c.args.bytes.now (page_of view) (count_of view) c.in-Ok.ensures.0 c.in-Ok.ensures.1 c.in-Ok.ensures.2 in
    λ is. subst (Ascends c.args.before) rows (c.keys_ascend.ensures.0 c.if-not-keys_ascend.false)
