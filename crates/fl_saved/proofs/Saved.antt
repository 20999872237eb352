-- What a salvage writes of a table that an image stands for is the export of all its records.
use Rattle.std.proofs.Common.{◌≡◌, inl, inr, ℕ, ◌+◌, true, Option, Some, None, List, [], ◌∷◌, length, map, refl, sym, ◌∙◌, ap, subst, arith}
use Rattle.std.specs.Prelude.{nat_le}
use Rattle.std.specs.List.{AllByRecursion, slice_get}
use Rattle.std.proofs.lemmas.Bool.{le-leb}
use Rattle.fl_base.specs.Causes.{Appends}
use Rattle.fl_base.specs.declared.types.KeyRange.{KeyRange}
use Rattle.fl_csv.specs.Text.{csv_text}
use Rattle.fl_model.specs.Facts.{FitsPlan}
use Rattle.fl_model.specs.Query.{matches, selected}
use Rattle.fl_model.specs.Record.{Plan, Config, has_var}
use Rattle.fl_model.specs.Table.{Table, Entry}
use Rattle.fl_model.specs.Image.{IsTableImage}
use Rattle.fl_model.proofs.Lists.{slice_get-some, slice_get-short}
use Rattle.fl_model.proofs.TableImages.{images-at, images-many}
use Rattle.fl_config.specs.Whole.{Makes}
use Rattle.fl_image.specs.Header.{IsAccepted, IsMade}
use Rattle.fl_image.specs.declared.status.ToolStatus.TheVariants.{Done}
use Rattle.fl_store.proofs.Opened.{made-image, same-lines}
use Rattle.fl_image.proofs.Made.{made-by}
use Rattle.fl_words.specs.Medium.{IsImage}
use Rattle.fl_salvage.specs.Given.{IsConfigured}
use Rattle.fl_salvage.specs.declared.passed_over.PassedOver.{PassedOver}
use Rattle.fl_salvage.specs.Ends.{SalvageEnds, form_at}
use Rattle.fl_salvage.specs.Pages.{IsInOrder, numbers_at, passed_at}
use Rattle.fl_salvage.specs.Text.{salvaged_text}
use Rattle.fl_words.specs.Config.{Lines}
use Rattle.fl_saved.specs.Passed.{passed_of}
use Rattle.fl_saved.specs.Saved.{HasAllKeys, IsErased, IsSaved, IsUndamaged, SavedAsExported, StandsFor}
use Rattle.fl_saved.specs.ShortBlobs.{HasShortBlobs}
use Rattle.fl_export.specs.Text.{said_of, table_text}
use Rattle.fl_saved.proofs.FromLines.{here-from}
use Rattle.fl_saved.proofs.PassedPages.{passed}
use Rattle.fl_saved.proofs.RingsOfImage.{IsHere, facts}
use Rattle.fl_saved.proofs.Texts.{saved}

-- a range of all keys selects all records
all-selected : (plan : Plan) (range : KeyRange) (entries : List Entry) → HasAllKeys plan range → AllByRecursion (FitsPlan plan) entries → selected range None entries ≡ entries
all-selected plan range [] all fit = refl
all-selected plan range (entry ∷ entries) all fit =
    let low : nat_le range.low entry.kept.key ≡ true = le-leb range.low entry.kept.key (omega (arith, all.0)) in
    let f = fit.0 in
    let high : nat_le entry.kept.key range.high ≡ true = le-leb entry.kept.key range.high (omega (arith, all.1, f.key)) in
    let here : matches range None entry.kept ≡ true = rw (low, high) refl in
    rw here (ap (λ l. entry ∷ l) (all-selected plan range entries all fit.1))

module _ (lines : Lines) (bytes : List ℕ) (place : ℕ) (plan : Plan) (table : Table) (stands : StandsFor lines bytes place plan table) (erased : IsErased table) where
  here : IsHere stands.config bytes place plan table
  here =
      here-from lines stands.config bytes place plan table stands.accepted stands.device_is stands.plans_are
      (sym (ap (λ l. slice_get l place) stands.plans_are) ∙ stands.plan_is) stands.size stands.image

  text : (range : KeyRange) (numbers : List ℕ) → HasShortBlobs plan.blob_limit table → HasAllKeys plan range
      → IsInOrder (numbers_at (form_at lines.plans place plan).layout (form_at lines.plans place plan).rows bytes (form_at lines.plans place plan).rows.pages) numbers
      → salvaged_text (form_at lines.plans place plan) bytes numbers ≡ table_text plan table range
  text range numbers short all ordered =
      let f = facts stands.config bytes place plan table here in
      let in_order = subst (λ l. IsInOrder (numbers_at (form_at l place plan).layout (form_at l place plan).rows bytes (form_at l place plan).rows.pages) numbers) stands.plans_are ordered in
      ap (λ l. salvaged_text (form_at l place plan) bytes numbers) stands.plans_are
      ∙ saved stands.config bytes place plan table here erased.rows erased.var short.records numbers in_order
      ∙ ap (λ l. csv_text (length plan.columns) (has_var plan) (map (said_of plan table) l)) (sym (all-selected plan range table.entries all f.fit))

  passed-over : passed_at (form_at lines.plans place plan).layout (form_at lines.plans place plan).rows bytes (form_at lines.plans place plan).rows.pages ≡ passed_of table.rows
  passed-over =
      ap (λ l. passed_at (form_at l place plan).layout (form_at l place plan).rows bytes (form_at l place plan).rows.pages) stands.plans_are
      ∙ passed stands.config bytes place plan table here erased.rows

-- ---- over the image of tables

module _ (config : Config) (bytes : List ℕ) (tables : List Table) (given : Option (List ℕ)) (name : List ℕ) (told told_now : Option (List ℕ)) (counted : PassedOver)
    (made : IsMade config) (image : IsImage config bytes tables) (undamaged : IsUndamaged config tables name) (ends : SalvageEnds bytes given name told told_now counted Done) where
  -- the configuration that the salvage found is that of the image
  found : IsAccepted ends.lines × Makes ends.lines config
  found = by_config ends.configured
    where
      by_config : IsConfigured bytes given ends.lines → IsAccepted ends.lines × Makes ends.lines config
      by_config (inl own) = (own.0, same-lines config made bytes tables ends.lines image own.0 own.1)
      by_config (inr other) = absurd (other.0 made.lines made.accepted (made-image config made bytes tables image))

  plan-is : slice_get config.plans ends.place ≡ Some ends.plan
  plan-is = let by = made-by ends.lines config found.1 in sym (ap (λ l. slice_get l ends.place) by.plans_are) ∙ ends.plan_is

  table-there : (table : Table) × (slice_get tables ends.place ≡ Some table)
  table-there = slice_get-some tables ends.place (omega (arith, images-many config bytes 0 config.plans tables image.tables_are, slice_get-short config.plans ends.place ends.plan plan-is))

  stands-there : StandsFor ends.lines bytes ends.place ends.plan table-there.0
  stands-there =
      let by = made-by ends.lines config found.1 in
      record {
        config = config;
        accepted = found.0;
        device_is = by.device_is;
        plans_are = by.plans_are;
        plan_is = ends.plan_is;
        size = image.len;
        image = subst (λ n. IsTableImage config bytes n ends.plan table-there.0) (let e : 0 + ends.place ≡ ends.place = omega arith in e) (images-at config bytes 0 config.plans tables image.tables_are ends.place ends.plan table-there.0 plan-is table-there.1);
      }

  is-saved : IsSaved config tables name told told_now counted
  is-saved =
      let did = ends.holds in
      let wrote = did.1 in
      let fine = undamaged ends.place ends.plan table-there.0 plan-is table-there.1 ends.named in
      record {
        place = ends.place;
        plan = ends.plan;
        table = table-there.0;
        plan_is = plan-is;
        table_is = table-there.1;
        named = ends.named;
        wrote = λ range all. subst (Appends told told_now) (text ends.lines bytes ends.place ends.plan table-there.0 stands-there fine.0 range wrote.numbers fine.1 all wrote.ordered) wrote.wrote;
        counted = did.0 ∙ passed-over ends.lines bytes ends.place ends.plan table-there.0 stands-there fine.0;
      }

pub saved-as-exported : SavedAsExported
saved-as-exported = record {
  text = λ lines bytes place plan table range numbers stands erased. text lines bytes place plan table stands erased range numbers;
  passed = λ lines bytes place plan table stands erased. passed-over lines bytes place plan table stands erased;
  done = λ config bytes tables given name told told_now counted made image undamaged ends. is-saved config bytes tables given name told told_now counted made image undamaged ends;
}
