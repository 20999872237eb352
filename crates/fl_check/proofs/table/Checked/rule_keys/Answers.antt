use Rattle.std.proofs.Common.{◌≡◌, ℕ, IsTrue, MatchOption, Option, None, refl, sym, ◌∙◌, ap, subst}
use Rattle.fl_base.specs.declared.types.Geometry.{Geometry}
use Rattle.fl_flash.specs.Flash.{page_at}
use Rattle.fl_model.specs.Record.{RowLayout}
use Rattle.fl_ring.specs.Mounting.{shape_at}
use Rattle.fl_ring.specs.Place.{shape_of}
use Rattle.fl_ring.specs.Ring.{Shape}
use Rattle.fl_schema.specs.Schema.{layout_of}
use Rattle.fl_rules.specs.Rising.{KeysAscend, KeysBreak, HaveRows}
use Rattle.fl_check.specs.Whole.{rows_shape, layout_in}
use Rattle.fl_rules.specs.declared.rule.Rule.TheVariants.{Keys}
use Rattle.fl_check.proofs.RulesTold.{if_told, fails_told}
use Rattle.fl_check.proofs.TableTold.{keys_at}
use Rattle.fl_rules.specs.declared.numbering.Numbering.{Numbering}
use Rattle.fl_check.proofs.TableRings.{room_back, room_in, within}
use Rattle.fl_frame.proofs.ReadsInTurn.{looks_none, looks_by}
use Rattle.fl_rules.specs.RingRules.{OverPages}
use Rattle.fl_check.specs.Ruled.{KeysTold}
use Rattle.fl_check.proofs.PowersOff.{schema-fits}
use Rattle.std.proofs.lemmas.Option.{MatchOption-at_some}
use Rattle.std.proofs.lemmas.Result.{IfOk-weaker}
use Rattle.fl_check.proofs.table.Checked.rule_keys.Goals as goal

pub returns-clause-keys : goal.returns-clause-keys
returns-clause-keys g c =
    let f = g.F.Flash.state c.args.flash.now in
    let page = page_at f in
    let config = c.args.self.now.config.now in
    let m = c.in-Some.n.marks in
    let layout = layout_of c.args.self.now.schema in
    let r = shape_of c.unnumbered-ring.result in
    let before : r ≡ rows_shape config = c.unnumbered-ring.ensures.shape ∙ ap (λ (x : Geometry). shape_at config.rows x) (sym c.requires.fits.geometry) in
    let Is : RowLayout → Shape → Option ℕ → Type 0 = λ l s keys. HaveRows l page s m → MatchOption keys (KeysAscend l page s m) (λ p. KeysBreak l page s m p) in
    IfOk-weaker c.first_page.result _ _
    (λ keys is told. keys_at (layout_in config) page (rows_shape config) c.args.rows c.in-Some.n keys c.in-Some.is
    (subst (λ (s : Shape). Is (layout_in config) s keys) before (subst (λ (l : RowLayout). Is l r keys) c.args.self.now.layout (is told))))
    (if_told c.check_keys.result c.first_page.result (IsTrue f.media.tells) (HaveRows layout page r m) (KeysAscend layout page r m) Keys (λ p. KeysBreak layout page r m p) c.first_page.ensures c.check_keys.ensures.keys
    c.check_keys.ensures.broken)

pub unnumbered-ring-requires-clause-blocks : goal.unnumbered-ring-requires-clause-blocks
unnumbered-ring-requires-clause-blocks g c = c.requires.fits.limits.rows.0

pub unnumbered-ring-requires-clause-lies : goal.unnumbered-ring-requires-clause-lies
unnumbered-ring-requires-clause-lies g c = c.requires.fits.rows

pub unnumbered-ring-requires-clause-few : goal.unnumbered-ring-requires-clause-few
unnumbered-ring-requires-clause-few g c = c.requires.fits.few

pub returns-in_default-clause-looks : goal.returns-in_default-clause-looks
returns-in_default-clause-looks g c = looks_none (g.F.Flash.state c.args.flash.now)

pub returns-in_default-clause-room : goal.returns-in_default-clause-room
returns-in_default-clause-room g c = c.requires.room

pub returns-in_default-clause-keys : goal.returns-in_default-clause-keys
returns-in_default-clause-keys g c = λ told have. subst (λ (x : Option Numbering). KeysTold (OverPages (layout_in c.args.self.now.config.now)) (page_at (g.F.Flash.state c.args.flash.now)) (rows_shape c.args.self.now.config.now) x None) (sym c.in_default.is) refl

pub returns-clause-looks : goal.returns-clause-looks
returns-clause-looks g c = looks_by (g.F.Flash.state c.args.flash.now) (g.F.Flash.state c.check_keys.new.flash) _ c.check_keys.ensures.reads

pub returns-clause-room : goal.returns-clause-room
returns-clause-room g c = room_back c.args.self.now.config.now (g.F.Flash.state c.args.flash.now) c.requires.fits c.args.self.now.config.now.rows (shape_of c.unnumbered-ring.result) c.unnumbered-ring.ensures.shape c.check_keys.ensures.room

pub returns-clause-fails : goal.returns-clause-fails
returns-clause-fails g c = fails_told c.check_keys.result c.first_page.result _ c.first_page.ensures c.check_keys.ensures.fails

pub check_keys-requires : goal.check_keys-requires
check_keys-requires g c =
    let config = c.args.self.now.config.now in (
      schema-fits,
      (
        c.unnumbered-ring.ensures.lies,
        (
          room_in config (g.F.Flash.state c.args.flash.now) c.requires.fits config.rows (shape_of c.unnumbered-ring.result) c.unnumbered-ring.ensures.shape c.requires.room,
          within config (g.F.Flash.state c.args.flash.now) c.requires.fits config.rows (shape_of c.unnumbered-ring.result) c.unnumbered-ring.ensures.shape c.in-Some.n.marks (MatchOption-at_some _ _ c.in-Some.n c.in-Some.is c.requires.within),
        ),
      ),
    )
