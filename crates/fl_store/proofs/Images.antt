-- The tables of an image, over a flash on its medium.
use Rattle.std.proofs.Common.{◌≡◌, ℕ, suc, ◌+◌, ◌*◌, ◌^◌, ◌<◌, ◌≤◌, true, false, nat_lt, Some, None, IfSome, List, [], ◌∷◌, length, take, refl, sym, ◌∙◌, ap, subst, le_trans, arith, sum_by, slice_get, ltb-false}
use Rattle.std.proofs.lemmas.List.Sums.{sum_by-take-le}
use Rattle.std.proofs.lemmas.Option.{slice_get_within}
use Rattle.std.proofs.lemmas.Bool.{or_parts}
use Rattle.fl_base.specs.declared.types.Geometry.{Geometry}
use Rattle.fl_config.specs.Whole.{Makes}
use base.Fml.{GName}
use Rattle.fl_flash.specs.Flash.{FlashState, pages}
use Rattle.fl_flash.specs.Media.{MediaState}
use Rattle.fl_flash.specs.Sim.{on_medium}
use Rattle.fl_flash.specs.declared.flash.Work.{Work}
use Rattle.fl_image.proofs.Made.{HasMade, made-by}
use Rattle.fl_model.specs.Image.{medium_len, IsTableImage, AreTableImages}
use Rattle.fl_model.specs.Record.{Plan, Config, blocks_of}
use Rattle.fl_model.specs.Table.{Table}
use Rattle.fl_model.proofs.Lists.{slice_get-some}
use Rattle.fl_model.proofs.TableImages.{images-at, images-many}
use Rattle.fl_rlc.specs.Table.{IsPlanned}
use Rattle.fl_rlc.proofs.Images.{image-rests, rests-image}
use Rattle.fl_store.specs.Tables.{first_of, AreNewTables, EntryStands, TablesStand, LieOn}
use Rattle.fl_store.specs.declared.tables.Entry.{Entry}
use Rattle.fl_store.proofs.Apart.{blocks-apart}
use Rattle.fl_store.proofs.TablesChanged.{some-is}
use Rattle.fl_words.specs.Config.{Lines, too_large}
use Rattle.fl_words.specs.Medium.{header, IsImage}

-- ---- the images of tables, each at its place

images-of : (config : Config) (content : List ℕ) (place : ℕ) (plans : List Plan) (tables : List Table) → length tables ≡ length plans →
    ((i : ℕ) (plan : Plan) (table : Table) → slice_get plans i ≡ Some plan → slice_get tables i ≡ Some table → IsTableImage config content (place + i) plan table) → AreTableImages config content place plans tables
images-of config content place [] [] n each = tt
images-of config content place [] (table ∷ tables) n each = absurd (omega (arith, n))
images-of config content place (plan ∷ plans) [] n each = absurd (omega (arith, n))
images-of config content place (plan ∷ plans) (table ∷ tables) n each = (
  subst (λ p. IsTableImage config content p plan table) (let e : place + 0 ≡ place = omega arith in e) (each 0 plan table refl refl),
  images-of config content (place + 1) plans tables (omega (arith, n)) (λ i p t e k.
      subst (λ q. IsTableImage config content q p t) (let m : place + suc i ≡ place + 1 + i = omega arith in m) (each (suc i) p t e k)),
)

-- ---- tables that were planned for the lines of an image, over a flash on its medium

pub image-tables : (config : Config) (lines : Lines) (entries : List Entry) (f : FlashState) (tables : List Table) → f.start ≡ 1024 → f.geometry ≡ config.geometry → Makes lines config → AreNewTables entries lines → IsImage config f.media.content tables →
    TablesStand f (λ i. false) config.plans entries tables
image-tables config lines entries f tables start geometry makes new h = record {
  as_many = new.as_many ∙ ap length made.plans_are;
  all = images-many config f.media.content 0 config.plans tables h.tables_are;
  each = each;
}
  where
    made : HasMade lines.device lines.plans config
    made = made-by lines config makes

    each : (i : ℕ) (plan : Plan) (entry : Entry) (table : Table) → slice_get config.plans i ≡ Some plan → slice_get entries i ≡ Some entry → slice_get tables i ≡ Some table → EntryStands entry f false (first_of config.plans i) plan table
    each i plan entry table p q r =
        let one = new.each i plan entry (ap (λ (ps : List Plan). slice_get ps i) made.plans_are ∙ p) q in
        let planned : IsPlanned entry.table (first_of config.plans i) plan = subst (λ (ps : List Plan). IsPlanned entry.table (first_of ps i) plan) made.plans_are one.planned in
        let own : plan.geometry ≡ config.geometry = some-is lines.device plan.geometry config.geometry one.device made.device_is in
        let image = subst (λ n. IsTableImage config f.media.content n plan table) (let m : 0 + i ≡ i = omega arith in m) (images-at config f.media.content 0 config.plans tables h.tables_are i plan table p r) in
        record { named = one.named; geometry = own ∙ sym geometry; planned = planned; on_flash = image-rests config i plan table f start geometry image }

-- .. and the medium of a flash on which tables rest
pub tables-image : (config : Config) (entries : List Entry) (f : FlashState) (tables : List Table) → length f.media.content ≡ medium_len config → take 1024 f.media.content ≡ header config → f.start ≡ 1024 → f.geometry ≡ config.geometry →
    TablesStand f (λ i. false) config.plans entries tables → IsImage config f.media.content tables
tables-image config entries f tables len head start geometry h = record {
  len = len;
  head = head;
  tables_are = images-of config f.media.content 0 config.plans tables h.all (λ i plan table p r.
      let entry = slice_get-some entries i (omega (arith, slice_get_within config.plans i plan p, h.as_many)) in
      subst (λ n. IsTableImage config f.media.content n plan table) (let m : i ≡ 0 + i = omega arith in m)
      (rests-image config i plan table f start geometry (h.each i plan entry.0 table p entry.1 r).on_flash));
}

-- ---- new tables lie on a flash of their configuration

blocks-within : (plans : List Plan) (i : ℕ) (plan : Plan) → slice_get plans i ≡ Some plan → first_of plans i + blocks_of plan ≤ sum_by blocks_of plans
blocks-within plans i plan e =
    le_trans (blocks-apart plans i (length plans) plan e (slice_get_within plans i plan e)) (sum_by-take-le blocks_of plans (length plans))

few-pages : (f : FlashState) (plans : List Plan) → f.blocks ≡ sum_by blocks_of plans → too_large f.geometry plans ≡ false → pages f < 2 ^ 32
few-pages f plans e fits =
    let few = ltb-false 65536 (sum_by blocks_of plans * f.geometry.block) (or_parts (nat_lt 65536 (sum_by blocks_of plans * f.geometry.block)) (nat_lt 67108864 (sum_by blocks_of plans * f.geometry.block * f.geometry.page)) fits).0 in
    subst (λ blocks. blocks * f.geometry.block < 2 ^ 32) (sym e) (omega (arith, few))

new-lie : (entries : List Entry) (lines : Lines) (f : FlashState) → AreNewTables entries lines → lines.device ≡ Some f.geometry → f.blocks ≡ sum_by blocks_of lines.plans →
    IfSome lines.device (λ geometry. too_large geometry lines.plans ≡ false) → LieOn entries f
new-lie entries lines f new device blocks small i entry e =
    let fits : too_large f.geometry lines.plans ≡ false = subst (λ d. IfSome d (λ geometry. too_large geometry lines.plans ≡ false)) device small in
    let plan = slice_get-some lines.plans i (omega (arith, slice_get_within entries i entry e, new.as_many)) in
    let made = new.each i plan.0 entry plan.1 e in
    made.lies f (some-is lines.device f.geometry plan.0.geometry device made.device) (omega (arith, blocks, blocks-within lines.plans i plan.0 plan.1)) (few-pages f lines.plans blocks fits)

pub lie-medium : (entries : List Entry) (lines : Lines) (f : FlashState) (geometry : Geometry) (blocks : ℕ) (origin : GName) (work : Work) (medium : MediaState) → f ≡ on_medium geometry blocks 1024 origin true None 0 work medium → AreNewTables entries lines → lines.device ≡ Some geometry →
    blocks ≡ sum_by blocks_of lines.plans → IfSome lines.device (λ g. too_large g lines.plans ≡ false) → LieOn entries f
lie-medium entries lines f geometry blocks origin work medium is new device all small =
    subst (λ (x : FlashState). LieOn entries x) (sym is) (new-lie entries lines (on_medium geometry blocks 1024 origin true None 0 work medium) new device all small)
