-- All rules hold where a flash stands for a table, and so it is found sound.
use Rattle.std.proofs.Common.{◌≡◌, ℕ, ◌+◌, ◌*◌, ◌≤◌, true, IsTrue, nat_lt, Option, Some, None, IfSome, List, length, map, take, refl, sym, ◌∙◌, ap, subst, arith}
use Rattle.std.specs.List.{slice_get, sum, sum_by}
use Rattle.std.specs.Option.{option_map}
use Rattle.std.proofs.lemmas.Option.{slice_get-map, same_Some}
use Rattle.fl_base.specs.declared.types.Geometry.{Geometry}
use Rattle.fl_base.specs.declared.types.RingPlace.{RingPlace}
use Rattle.fl_flash.specs.Flash.{FlashState, page_at}
use Rattle.fl_flash.specs.Places.{extent}
use Rattle.fl_image_check.specs.Checking.{IsFound}
use Rattle.fl_image_check.proofs.Ringed.{fits, log-fits}
use Rattle.fl_machine.specs.Machine.{Machine}
use Rattle.fl_machine.specs.Script.{StandsAfter}
use Rattle.fl_model.specs.Bare.{bare, bare_table}
use Rattle.fl_model.specs.Facts.{IsTable}
use Rattle.fl_model.specs.Image.{IsTableImage, IsRingImage, HoldsLogged, medium_len}
use Rattle.fl_model.specs.Mount as mount
use Rattle.fl_model.specs.Record.{Plan, Config, has_var, blocks_of}
use Rattle.fl_model.specs.Table.{Table, LogRing, shape_of, lose}
use Rattle.fl_model.proofs.TableImages.{images-at}
use Rattle.fl_plan.specs.Plan.{Label, label_of, plan_of_table, with_log}
use Rattle.fl_plan.specs.declared.table_config.TableConfig.{TableConfig}
use Rattle.fl_ring.specs.Ring.{Shape}
use Rattle.fl_ring.proofs.Images.{bytes_of}
use Rattle.fl_parts.specs.Pages.{Rests}
use Rattle.fl_rlc.specs.Logged as with_log_ring
use Rattle.fl_rlc.proofs.BareFacts.{bare-facts}
use Rattle.fl_rlc.proofs.Images.{image-rests}
use Rattle.fl_words.specs.Config.{Lines}
use Rattle.fl_words.specs.Medium.{IsImage}
use Rattle.fl_rules.specs.RingRules.{NoRows, OverPages, IsRingSound}
use Rattle.fl_check.specs.Whole.{OfRing, Fits, shape_in, rows_shape, layout_in, tally_in, IsRowsForm, IsVarForm, IsLogSound, AreRingsSound, IsSound, IsFinding, Finds}
use Rattle.fl_check.specs.declared.finding.Finding.{Finding}
use Rattle.fl_check.specs.declared.finding.Finding.TheVariants.{Sound}
use Rattle.fl_rules.specs.declared.numbering.Numbering.{Numbering}
use Rattle.fl_check.specs.declared.table.TableNumbers.{TableNumbers}
use Rattle.fl_check.proofs.OneFinding.{one_finding}
use Rattle.fl_sound.specs.Sound.{sound_table, LiesIn, FindsAlone}
use Rattle.fl_sound.specs.Sound as law
use Rattle.fl_sound.proofs.DataPart.{StandsOn, counted, rows-of, data-sound}
use Rattle.fl_sound.proofs.DataPages.{rows-are, voids-are, blobs-are}
use Rattle.fl_sound.proofs.IndexPart.{IndexPart, index-part}
use Rattle.fl_sound.proofs.LogPart.{log-part}
use Rattle.fl_sound.proofs.RingSound.{SoundRing}
use Rattle.fl_sound.proofs.VarPart.{VarPart, var-part}

module _ (label : Label) (config : TableConfig) (log : Option RingPlace) (f : FlashState) (table : Table) (is : StandsOn label config f table) (index : IndexPart label config f table) (var : VarPart label config f table)
    (logged : (n : Option Numbering) × IsLogSound config log (page_at f) n) where
  rows : SoundRing (IsRowsForm config) (OverPages (layout_in config)) (page_at f) (rows_shape config) (mount.index_end (plan_of_table label config) table) table.rows
  rows = data-sound label config f table is

  abbrev t : TableNumbers
  t = record { index = index.n; rows = rows.n; var = var.n; log = logged.0 }

  rings : AreRingsSound config log (page_at f) t
  rings = record {
    index = index.sound;
    rows = subst (λ (k : ℕ). IsRingSound (IsRowsForm config) (OverPages (layout_in config)) (page_at f) (rows_shape config) k rows.n) (sym index.end) rows.sound;
    var = subst (λ (k : ℕ). OfRing (λ place n. IsRingSound IsVarForm NoRows (page_at f) (shape_in config place) k n) config.var var.n)
        (sym (blobs-are (layout_in config) (page_at f) (rows_shape config) (mount.index_end (plan_of_table label config) table) table rows.n rows.reads (counted label config f table is) (rows-of label config f table is rows.n rows.reads)))
        var.sound;
    logged = logged.1;
  }

  sound : IsSound config log (page_at f) t
  sound = record { rings = rings; entries = index.entries rows.n rows.reads; references = var.leads rows.n rows.reads }

  told : IsFinding config log (page_at f) (Sound (tally_in config (page_at f) rows.n).rows rows.n.marks.kept (tally_in config (page_at f) rows.n).voids)
  told = ((tally_in config (page_at f) rows.n).blob_end, record { t = t; sound = sound; tally_is = refl; kept_is = refl })

  finding : IsFinding config log (page_at f) (sound_table table)
  finding =
      let all = counted label config f table is in
      let lines = rows-of label config f table is rows.n rows.reads in
      let end = mount.index_end (plan_of_table label config) table in
      subst (λ (k : ℕ). IsFinding config log (page_at f) (Sound (sum table.rows.counts) (length table.rows.counts) k)) (voids-are (layout_in config) (page_at f) (rows_shape config) end table rows.n rows.reads all lines)
      (subst (λ (k : ℕ). IsFinding config log (page_at f) (Sound (sum table.rows.counts) k (tally_in config (page_at f) rows.n).voids)) rows.reads.kept
      (subst (λ (k : ℕ). IsFinding config log (page_at f) (Sound k rows.n.marks.kept (tally_in config (page_at f) rows.n).voids)) (rows-are (layout_in config) (page_at f) (rows_shape config) end table rows.n rows.reads all lines) told))

  pub alone : FindsAlone config log f (sound_table table)
  alone = record { found = finding; alone = λ other is_other. one_finding config log (page_at f) other (sound_table table) is_other finding }

-- the log of a plan whose first block is this one
abbrev ring_shape : Plan → ℕ → Shape
ring_shape plan first = record { first = first * plan.geometry.block; blocks = plan.log_blocks; per_block = plan.geometry.block; size = plan.geometry.page }

-- the log of a table by its plan
logged-part : (config : TableConfig) (log : Option RingPlace) (f : FlashState) (plan : Plan) (table : Table) → law.StandsOn config log f plan table → IsTrue f.media.tells → (n : Option Numbering) × IsLogSound config log (page_at f) n
logged-part config None f plan table h tells = (None, tt)
logged-part config (Some place) f plan table h tells =
    let own : plan_of_table (label_of (bare plan)) config ≡ bare plan = h.config_is.is in
    let at = h.log_stands.at in
    let same : with_log place.blocks (plan_of_table (label_of (bare plan)) config) ≡ plan = ap (with_log place.blocks) own ∙ ap (λ (n : ℕ). with_log n plan) at.1 in
    let shape_is : shape_in config place ≡ ring_shape plan (config.rows.first_block + plan.data_blocks + plan.index_blocks + plan.var_blocks) =
    ap (λ (k : ℕ). record { first = k * config.geometry.block; blocks = place.blocks; per_block = config.geometry.block; size = config.geometry.page }) at.0
    ∙ ap (λ (p : Plan). ring_shape (with_log place.blocks p) (config.rows.first_block + plan.data_blocks + plan.index_blocks + plan.var_blocks)) own
    ∙ ap (λ (n : ℕ). ring_shape (with_log n plan) (config.rows.first_block + plan.data_blocks + plan.index_blocks + plan.var_blocks)) at.1 in
    let image = subst (λ (r : Shape). IfSome table.log (λ ring. IsRingImage (shape_of plan LogRing) ring (bytes_of r (page_at f)) (HoldsLogged plan table ring))) (sym shape_is) h.rests.log in
    let part = log-part (label_of (bare plan)) config place f table (record {
      fits = h.fits;
      size = h.log_stands.fits.0;
      within = h.log_stands.fits.1;
      reaches = h.reaches;
      told = tells;
      no_var = ap has_var own ∙ ap (nat_lt 0) h.log_stands.alone;
      facts = subst (λ (p : Plan). IsTable p table) (sym same) h.rests.settled.facts;
      image = subst (λ (p : Plan). IfSome table.log (λ ring. IsRingImage (shape_of p LogRing) ring (bytes_of (shape_in config place) (page_at f)) (HoldsLogged p table ring))) (sym same) image;
    }) in
    (Some part.0, part.1)

-- a table by its plan: the pages of a flash are the same whether its medium tells them or not
pub table-sound : (config : TableConfig) (log : Option RingPlace) (f : FlashState) (plan : Plan) (table : Table) → law.StandsOn config log f plan table → FindsAlone config log f (sound_table table)
table-sound config log f plan table h =
    let same : plan_of_table (label_of (bare plan)) config ≡ bare plan = h.config_is.is in
    let here = alone (label_of (bare plan)) config log (record f { media = record f.media { tells = true } }) (bare_table table) (is same)
    (index-part (label_of (bare plan)) config (record f { media = record f.media { tells = true } }) (bare_table table) (is same)
    (subst (λ (k : ℕ). IfSome config.index (λ place. place.first_block ≡ config.rows.first_block + k)) (sym (ap (λ (p : Plan). p.data_blocks) same)) h.config_is.index))
    (var-part (label_of (bare plan)) config (record f { media = record f.media { tells = true } }) (bare_table table) (is same)
    (subst (λ (k : ℕ). IfSome config.var (λ place. place.first_block ≡ config.rows.first_block + config.rows.blocks + k)) (sym (ap (λ (p : Plan). p.index_blocks) same))
    (subst (λ (k : ℕ). IfSome config.var (λ place. place.first_block ≡ config.rows.first_block + k + plan.index_blocks)) (sym (ap (λ (p : Plan). p.data_blocks) same)) h.config_is.var)))
    (logged-part config log (record f { media = record f.media { tells = true } }) plan table stands refl) in
    record { found = here.found; alone = here.alone }
  where
    fits_told : Fits config (record f { media = record f.media { tells = true } })
    fits_told = record {
      geometry = h.fits.geometry;
      limits = h.fits.limits;
      passes = h.fits.passes;
      rows = h.fits.rows;
      index = h.fits.index;
      var = h.fits.var;
      few = h.fits.few;
    }

    stands : law.StandsOn config log (record f { media = record f.media { tells = true } }) plan table
    stands = record {
      fits = fits_told;
      reaches = h.reaches;
      config_is = h.config_is;
      log_stands = record { at = h.log_stands.at; fits = h.log_stands.fits; alone = h.log_stands.alone };
      rests = record { settled = h.rests.settled; pages = h.rests.pages; log = h.rests.log };
    }

    is : plan_of_table (label_of (bare plan)) config ≡ bare plan → StandsOn (label_of (bare plan)) config (record f { media = record f.media { tells = true } }) (bare_table table)
    is same =
        let rests : Rests f config.rows.first_block (bare plan) (bare_table table) = record {
          settled = record { facts = bare-facts plan table h.rests.settled.facts; lost = ap bare_table h.rests.settled.lost };
          pages = record { rows = h.rests.pages.rows; index = h.rests.pages.index; var = h.rests.pages.var };
        } in
        let moved = subst (λ (p : Plan). Rests f config.rows.first_block p (bare_table table)) (sym same) rests in
        record {
          fits = fits_told;
          reaches = h.reaches;
          told = refl;
          rests = record { settled = moved.settled; pages = moved.pages };
        }

-- the flash ends where the image does
image-reaches : (config : Config) (bytes : List ℕ) (i : ℕ) (plan : Plan) (c : TableConfig) (log : Option RingPlace) (f : FlashState) → length bytes ≡ medium_len config → LiesIn config bytes i plan c log f → f.start + extent f.geometry f.blocks ≤ length f.media.content
image-reaches config bytes i plan c log f len h =
    let all : extent f.geometry f.blocks ≡ extent config.geometry (sum_by blocks_of config.plans) = ap (λ (g : Geometry). extent g f.blocks) h.geometry ∙ ap (extent config.geometry) h.blocks in
    omega (arith, len, all, h.start, ap (λ (l : List ℕ). length l) h.content)

pub image-sound : (config : Config) (bytes : List ℕ) (tables : List Table) (i : ℕ) (plan : Plan) (table : Table) (c : TableConfig) (log : Option RingPlace) (f : FlashState) → IsImage config bytes tables → slice_get tables i ≡ Some table
    → LiesIn config bytes i plan c log f → FindsAlone c log f (sound_table table)
image-sound config bytes tables i plan table c log f image table_is h =
    let one = images-at config bytes 0 config.plans tables image.tables_are i plan table h.plan_is table_is in
    let here : IsTableImage config f.media.content i plan table =
    subst (λ (n : ℕ). IsTableImage config f.media.content n plan table) (let q : 0 + i ≡ i = omega arith in q) (subst (λ (l : List ℕ). IsTableImage config l (0 + i) plan table) (sym h.content) one) in
    let rests = image-rests config i plan table f h.start h.geometry here in
    table-sound c log f plan table (record {
      fits = h.fits;
      reaches = image-reaches config bytes i plan c log f image.len h;
      config_is = h.config_is;
      log_stands = h.log_stands;
      rests = subst (λ (k : ℕ). with_log_ring.Rests f k plan table) (sym h.first) rests;
    })

-- a table of a run's end, of which what is in memory is lost
pub run-sound : (config : Config) (bytes : List ℕ) (machine : Machine) (i : ℕ) (plan : Plan) (table : Table) (c : TableConfig) (log : Option RingPlace) (f : FlashState) → StandsAfter config (Some bytes) machine → slice_get machine.tables i ≡ Some table
    → LiesIn config bytes i plan c log f → FindsAlone c log f (sound_table table)
run-sound config bytes machine i plan table c log f stands table_is h =
    let here = image-sound config bytes (map lose machine.tables) i plan (lose table) c log f stands (slice_get-map lose machine.tables i ∙ ap (option_map lose) table_is) h in
    record { found = here.found; alone = here.alone }

-- what a check finds of a table of an image
pub check-sound : (config : Config) (lines : Lines) (bytes : List ℕ) (tables : List Table) (i : ℕ) (table : Table) (finding : Finding) → lines.device ≡ Some config.geometry → lines.plans ≡ config.plans
    → IsImage config bytes tables → slice_get tables i ≡ Some table → IsFound Finds lines bytes i finding → finding ≡ sound_table table
check-sound config lines bytes tables i table finding device plans image table_is h =
    let here = image-sound config bytes tables i h.plan table h.config h.log h.flash image table_is (record {
      plan_is = ap (λ (l : List Plan). slice_get l i) (sym plans) ∙ h.plan_is;
      config_is = h.config_is;
      log_stands = record { at = h.log_is; fits = log-fits h.config h.log h.flash h.log_lies; alone = h.log_alone };
      first = h.first ∙ ap (λ (l : List Plan). sum_by blocks_of (take i l)) plans;
      fits = fits h.config h.flash h.lies;
      content = h.content;
      start = h.over.start;
      geometry = same_Some _ _ (sym h.over.device ∙ device);
      blocks = h.over.blocks ∙ ap (sum_by blocks_of) plans;
    }) in
    here.alone finding h.finds
