-- The statuses of a ship of an image have their causes, over any bytes, and what stays of the two media.
use Rattle.std.proofs.Common.{◌≡◌, ℕ, ◌<◌, ◌≤◌, ◌⊎◌, inl, inr, Bool, true, Some, None, List, [], length, refl, sym, ◌∙◌, ap, subst, arith}
use Rattle.std.specs.List.{slice_get}
use Rattle.std.proofs.lemmas.Option.{slice_get_within}
use Rattle.fl_flash.specs.Media.{MediaState}
use Rattle.fl_image.specs.Header.{IsAccepted}
use Rattle.fl_image.specs.Image.{IsImageOf, OnlyLooksAt}
use Rattle.fl_image.specs.declared.status.ToolStatus.{ToolStatus}
use Rattle.fl_image.specs.declared.status.ToolStatus.TheVariants as job
use Rattle.fl_store.proofs.TableByName.{find-first}
use Rattle.fl_model.specs.Record.{Plan}
use Rattle.fl_model.proofs.Lists.{slice_get-some}
use Rattle.fl_store.specs.MountEnds.{Keeps}
use Rattle.fl_store.proofs.Opened.{keeps-then, looks-keeps}
use Rattle.fl_store.proofs.TableByName.{first-named, name-none, new-named, none-named}
use Rattle.fl_store.specs.Tables.{AreNewTables, IsNamed, Names}
use Rattle.fl_store.specs.declared.tables.Entry.{Entry}
use Rattle.fl_words.specs.Config.{Lines}
use Rattle.fl_ship.specs.Ends.{is_shipped}
use Rattle.fl_ship.specs.Fits.{AreImages, AreImagesFor, AreImagesWithout, CopyKeeps, StatusFits}
use Rattle.fl_ship.specs.Media.{source_status}
use Rattle.fl_ship.specs.Tables.{IsOfTables}
use Rattle.fl_ship.specs.declared.side.Side.{Side}
use Rattle.fl_ship.specs.declared.side.Side.TheVariants.{Copy}
use Rattle.fl_ship.specs.declared.status.ShipStatus.{ShipStatus}
use Rattle.fl_ship.specs.declared.status.ShipStatus.TheVariants.{Done, OutWrite, NoMemory, NotImage, Device, BadImage, NoTable, Gap, OtherForm, Spent}

-- ---- causes

pub fits-source : (bytes copy name : List ℕ) (status : ToolStatus) → (status ≡ job.NotImage) ⊎ (status ≡ job.Device) ⊎ (status ≡ job.NoMemory) → (status ≡ job.NotImage → (lines : Lines) → IsAccepted lines → IsImageOf bytes lines → ⊥) → StatusFits bytes copy name (source_status status)
fits-source bytes copy name status (inl is) none = subst (λ (s : ToolStatus). StatusFits bytes copy name (source_status s)) (sym is) (none is)
fits-source bytes copy name status (inr (inl is)) none = subst (λ (s : ToolStatus). StatusFits bytes copy name (source_status s)) (sym is) tt
fits-source bytes copy name status (inr (inr is)) none = subst (λ (s : ToolStatus). StatusFits bytes copy name (source_status s)) (sym is) tt

pub fits-look : (bytes copy name : List ℕ) (lines : Lines) → IsAccepted lines → IsImageOf bytes lines → (status : ShipStatus) → (status ≡ NotImage Copy) ⊎ (status ≡ Device Copy) → (status ≡ NotImage Copy → (copy ≡ [] → ⊥) × (IsImageOf copy lines → ⊥)) → StatusFits bytes copy name status
fits-look bytes copy name lines accepted is status (inl e) other =
    let no = other e in
    subst (StatusFits bytes copy name) (sym e) (record { lines = lines; accepted = accepted; source = is; some = no.0; other = no.1 })
fits-look bytes copy name lines accepted is status (inr e) other = subst (StatusFits bytes copy name) (sym e) tt

module _ (bytes copy name : List ℕ) (lines : Lines) (entries : List Entry) (accepted : IsAccepted lines) (image : IsImageOf bytes lines) (copy_is : (copy ≡ []) ⊎ IsImageOf copy lines) (new : AreNewTables entries lines) where
  abbrev images : AreImages bytes copy lines
  images = record { accepted = accepted; source = image; copy_is = copy_is }

  pub images-without : Names entries name None → AreImagesWithout bytes copy name
  images-without none = record {
    without = record { lines = lines; accepted = accepted; image = image; named = name-none lines.plans name (none-named lines.plans entries (new-named entries lines new) name none) };
    images = images;
  }

  abbrev pub images-for : (at : ℕ) → IsNamed entries name at → (shipped : Bool) → ((plan : Plan) → slice_get lines.plans at ≡ Some plan → is_shipped plan ≡ shipped) → AreImagesFor bytes copy name shipped
  images-for at named shipped form =
      let plan = slice_get-some lines.plans at (omega (arith, slice_get_within entries at named.entry named.here, new.as_many)) in
      let own = first-named lines.plans entries (new-named entries lines new) name at named plan.0 plan.1 in
      record {
        lines = lines;
        images = images;
        plan = plan.0;
        named = find-first lines.plans at name plan.0 plan.1 own.0 (λ i other lt e k. own.1 i other lt e k);
        form = form plan.0 plan.1;
      }

  pub fits-table : (at : ℕ) → IsNamed entries name at → ((plan : Plan) → slice_get lines.plans at ≡ Some plan → is_shipped plan ≡ true) → (status : ShipStatus) → IsOfTables status → ((side : Side) (table : ℕ) → status ≡ BadImage side table → table < length lines.plans) → StatusFits bytes copy name status
  fits-table at named form (Done shipped) of bad = images-for at named true form
  fits-table at named form OutWrite of bad = images-for at named true form
  fits-table at named form (Gap last oldest) of bad = images-for at named true form
  fits-table at named form Spent of bad = images-for at named true form
  fits-table at named form (BadImage side table) of bad = (images-for at named true form, bad side table refl)
  fits-table at named form NoMemory of bad = tt
  fits-table at named form (Device side) of bad = tt
  fits-table at named form (NotImage side) of bad = absurd of
  fits-table at named form NoTable of bad = absurd of
  fits-table at named form OtherForm of bad = absurd of

-- ---- what stays of the copy

-- it was looked at
pub looks-copy : (source : List ℕ) (old new : MediaState) → OnlyLooksAt old new → CopyKeeps source old new
looks-copy source old new looks = record {
  some = λ some. looks-keeps old new looks;
  tells = looks.tells;
  later = looks.later;
  none = λ empty. omega (arith, ap (λ (l : List ℕ). length l) looks.content, ap (λ (l : List ℕ). length l) empty);
}

-- an empty one was made in part
pub half-keeps : (source : List ℕ) (old mid new : MediaState) → OnlyLooksAt old mid → mid.content ≡ [] → new.tells ≡ mid.tells → mid.faults ≤ new.faults → length new.content ≤ length source → CopyKeeps source old new
half-keeps source old mid new looks empty tells later part = record {
  some = λ some. absurd (some (sym looks.content ∙ empty));
  tells = tells ∙ looks.tells;
  later = omega (arith, looks.later, later);
  none = λ none. part;
}

-- or it is an image, and was mounted
pub copy-keeps : (source : List ℕ) (old mid made new : MediaState) → OnlyLooksAt old mid → ((mid.content ≡ [] → ⊥) → OnlyLooksAt mid made) → made.tells ≡ mid.tells → mid.faults ≤ made.faults → (mid.content ≡ [] → length made.content ≤ length source) → Keeps made new → CopyKeeps source old new
copy-keeps source old mid made new looks kept tells later part keeps = record {
  some = λ some. keeps-then old mid new looks (keeps-then mid made new (kept (λ empty. some (sym looks.content ∙ empty))) keeps);
  tells = keeps.tells ∙ (tells ∙ looks.tells);
  later = omega (arith, looks.later, later, keeps.later);
  none = λ empty. omega (arith, keeps.len, part (looks.content ∙ empty));
}
