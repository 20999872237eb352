-- What a table's rings are known to be, while its check goes from ring to ring.
use Rattle.std.proofs.Common.{◌≡◌, ℕ, ◌+◌, ◌-◌, ◌<◌, nat_lt, true, IsTrue, Option, length, ap, subst, arith}
use Rattle.fl_base.specs.declared.types.Geometry.{Geometry}
use Rattle.fl_base.specs.declared.types.RingPlace.{RingPlace}
use Rattle.fl_flash.specs.Flash.{FlashState, page_at}
use Rattle.fl_mark.specs.Mark.{state_of_page}
use Rattle.fl_plan.specs.Plan.{blocks_in}
use Rattle.fl_plan.specs.declared.table_config.TableConfig.{TableConfig}
use Rattle.fl_ring.specs.Newest.{commits, page_back}
use Rattle.fl_rules.specs.Bodies.{HaveBodies}
use Rattle.fl_rules.specs.Claims.{AllBelow}
use Rattle.fl_rules.specs.ContentPage.{IsContentPage}
use Rattle.fl_frame.specs.Reads.{OnlyLooks}
use Rattle.fl_rules.specs.Numbers.{HaveNumbers}
use Rattle.fl_rules.specs.Reaches.{HasContent}
use Rattle.fl_rules.specs.Rising.{HaveRows}
use Rattle.fl_rules.specs.RingRules.{NoRows, OverPages, IsRingSound}
use Rattle.fl_check.specs.Whole.{Fits, shape_in, rows_shape, layout_in, index_end, tally_in, IsRowsForm, IsVarForm, AreRowsSound}
use Rattle.fl_rules.specs.declared.numbering.Numbering.{Numbering}
use Rattle.fl_rules.specs.declared.tally.Tally.{Tally}
use Rattle.fl_rules.proofs.ContentPages.{content_count}
use Rattle.fl_rules.proofs.FormedRows.{rows_of, page_short}
use Rattle.fl_frame.proofs.ReadsInTurn.{looks_more}
use Rattle.fl_rules.proofs.LooksChangeNothing.{seen}

-- no page of a table is long
pages_short : (config : TableConfig) (f : FlashState) → Fits config f → (p : ℕ) → length (page_at f p) < 65536
pages_short config f fits p =
    let few = page_short f p in
    let high = fits.limits.geometry.page_high in
    let same : config.geometry.page ≡ f.geometry.page = ap (λ (g : Geometry). g.page) fits.geometry in
    omega (arith, few, high, same)

-- the pages of a data ring that have their numbers and bodies have rows
pub rows_there : (config : TableConfig) (f : FlashState) (at_least : ℕ) (n : Numbering) → Fits config f → HaveNumbers (page_at f) (rows_shape config) n.marks at_least n.next
    → HaveBodies (IsRowsForm config) (page_at f) (rows_shape config) n → HaveRows (layout_in config) (page_at f) (rows_shape config) n.marks
rows_there config f at_least n fits numbers bodies =
    rows_of config.key config.columns.items (nat_lt 0 (blocks_in config.var)) config.buckets (page_at f) (rows_shape config) at_least n (pages_short config f fits) numbers bodies

-- .. and so of a sound one
pub sound_rows : (config : TableConfig) (f : FlashState) (at_least : ℕ) (n : Numbering) → Fits config f
    → IsRingSound (IsRowsForm config) (OverPages (layout_in config)) (page_at f) (rows_shape config) at_least n → HaveRows (layout_in config) (page_at f) (rows_shape config) n.marks
sound_rows config f at_least n fits is = rows_there config f at_least n fits is.formed.numbered.numbers is.formed.bodies

-- the committed pages of a ring of variable data that have their numbers and bodies have content
pub content_there : (config : TableConfig) (f : FlashState) (place : RingPlace) (at_least : ℕ) (n : Numbering) → Fits config f
    → HaveNumbers (page_at f) (shape_in config place) n.marks at_least n.next → HaveBodies IsVarForm (page_at f) (shape_in config place) n
    → AllBelow (HasContent (page_at f) (shape_in config place) n.marks.at) n.marks.kept
content_there config f place at_least n fits numbers bodies i lt committed =
    let r = shape_in config place in
    let j = n.marks.kept - (i + 1) in
    let bytes = page_at f (page_back r n.marks.at (i + 1)) in
    let number = n.next - (i + 1) in
    let before : j < n.marks.kept = omega (arith, lt) in
    let back : n.marks.kept - j ≡ i + 1 = omega (arith, lt) in
    let own = (numbers.each j before).not_negative in
    let left = numbers.left in
    let form = subst
    (λ (b : ℕ). (number : ℕ) → number + b ≡ n.next → commits (state_of_page (page_at f (page_back r n.marks.at b))) ≡ true → IsContentPage number (page_at f (page_back r n.marks.at b)))
    back (bodies j before) in
    let good : IsContentPage number bytes = form number (omega (arith, own, back)) committed in
    let few = page_short f (page_back r n.marks.at (i + 1)) in
    let high = fits.limits.geometry.page_high in
    let same : config.geometry.page ≡ f.geometry.page = ap (λ (g : Geometry). g.page) fits.geometry in
    let count = content_count bytes number good (omega (arith, few, high, same)) in
    (omega (arith, count, good.some), omega (arith, count, good.most, few, same))

-- .. and so of a sound one
pub sound_content : (config : TableConfig) (f : FlashState) (place : RingPlace) (at_least : ℕ) (n : Numbering) → Fits config f
    → IsRingSound IsVarForm NoRows (page_at f) (shape_in config place) at_least n → AllBelow (HasContent (page_at f) (shape_in config place) n.marks.at) n.marks.kept
sound_content config f place at_least n fits is = content_there config f place at_least n fits is.formed.numbered.numbers is.formed.bodies

-- the numbers of the data ring begin after those that the index lists
pub rows_known : (config : TableConfig) (a b c : FlashState) (index : Option Numbering) (end : ℕ) (rows : Numbering) → OnlyLooks a b → OnlyLooks b c
    → (IsTrue b.media.tells → end ≡ index_end config (page_at b) index)
    → (IsTrue c.media.tells → IsRingSound (IsRowsForm config) (OverPages (layout_in config)) (page_at c) (rows_shape config) end rows)
    → IsTrue a.media.tells → AreRowsSound config (page_at a) index rows
rows_known config a b c index end rows x y end_is sound told =
    let here = seen a b (λ page. end ≡ index_end config page index) x end_is told in
    subst (λ (k : ℕ). IsRingSound (IsRowsForm config) (OverPages (layout_in config)) (page_at a) (rows_shape config) k rows) here
    (seen a c (λ page. IsRingSound (IsRowsForm config) (OverPages (layout_in config)) page (rows_shape config) end rows) (looks_more a b c x y) sound told)

-- .. and what its pages tell
pub tally_known : (config : TableConfig) (a b : FlashState) (index : Option Numbering) (rows : Numbering) (tally : Tally) → Fits config a → OnlyLooks a b
    → (IsTrue b.media.tells → HaveRows (layout_in config) (page_at b) (rows_shape config) rows.marks → tally ≡ tally_in config (page_at b) rows)
    → AreRowsSound config (page_at a) index rows → IsTrue a.media.tells → tally ≡ tally_in config (page_at a) rows
tally_known config a b index rows tally fits x is sound told =
    seen a b (λ page. HaveRows (layout_in config) page (rows_shape config) rows.marks → tally ≡ tally_in config page rows) x is told
    (sound_rows config a (index_end config (page_at a) index) rows fits sound)
