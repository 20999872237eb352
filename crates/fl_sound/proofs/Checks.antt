-- How a check of an image ends whose tables are sound.
use Rattle.std.proofs.Common.{◌≡◌, ℕ, suc, ◌+◌, inl, inr, true, Option, Some, List, [], ◌∷◌, ◌++◌, length, map, take, length-take, refl, sym, ◌∙◌, ap, subst, arith}
use Rattle.std.specs.List.{slice_get}
use Rattle.std.proofs.lemmas.List.{length-map}
use Rattle.std.proofs.lemmas.Bool.{true≢false}
use Rattle.std.proofs.lemmas.Option.{same_Some}
use Rattle.fl_base.specs.Causes.{IsFront, Appends, AppendsFront}
use Rattle.fl_base.specs.declared.types.Geometry.{Geometry}
use Rattle.fl_base.proofs.Appended.{front-longer}
use Rattle.fl_config.specs.Whole.{Makes}
use Rattle.fl_image_check.specs.Checking.{IsFound, AreFound, ImageEnds, CheckEnds, TellsSound as Tells}
use Rattle.fl_image.specs.Header.{IsAccepted}
use Rattle.fl_image.specs.Image.{IsImageOf}
use Rattle.fl_image_check.specs.Report.{is_sound, report_text}
use Rattle.fl_image.specs.declared.status.ToolStatus.{ToolStatus}
use Rattle.fl_image.specs.declared.status.ToolStatus.TheVariants.{Done, InputRead, OutWrite, InputLong, NoMemory, NotImage, Device, BadImage, NoTable, BadInput, Unsound}
use Rattle.fl_image.proofs.ReadBack.{one-header}
use Rattle.fl_model.specs.Image.{AreTableImages, medium_len}
use Rattle.fl_model.specs.Record.{Plan, Config}
use Rattle.fl_model.specs.Table.{Table}
use Rattle.fl_model.proofs.Lists.{slice_get-some, slice_get-short}
use Rattle.fl_words.specs.Config.{Lines}
use Rattle.fl_words.specs.Medium.{IsImage, header}
use Rattle.fl_check.specs.declared.finding.Finding.{Finding}
use Rattle.fl_sound.specs.Sound.{sound_table, sound_text, TablesAreSound}
use Rattle.fl_sound.specs.Sound as law
use Rattle.fl_sound.proofs.Fronts.{all-of, report-front, front-nothing, front-all}
use Rattle.fl_image.proofs.Made.{made-by}
use Rattle.fl_check.specs.Whole.{Finds}
use Rattle.fl_sound.proofs.Scripts.{made}
use Rattle.fl_sound.proofs.Whole.{table-sound, image-sound, run-sound, check-sound}

-- the same lines make the same header and the same length
module _ (lines : Lines) (a b : Config) (makes_a : Makes lines a) (makes_b : Makes lines b) where
  one-geometry : a.geometry ≡ b.geometry
  one-geometry = same_Some _ _ (sym (made-by lines a makes_a).device_is ∙ (made-by lines b makes_b).device_is)

  one-plans : a.plans ≡ b.plans
  one-plans = sym (made-by lines a makes_a).plans_are ∙ (made-by lines b makes_b).plans_are

  same-header : header a ≡ header b
  same-header =
      ap (λ (g : Geometry). header (record { geometry = g; plans = a.plans; knots = 0 })) one-geometry
      ∙ ap (λ (l : List Plan). header (record { geometry = b.geometry; plans = l; knots = 0 })) one-plans

  same-length : medium_len a ≡ medium_len b
  same-length =
      ap (λ (g : Geometry). medium_len (record { geometry = g; plans = a.plans; knots = 0 })) one-geometry
      ∙ ap (λ (l : List Plan). medium_len (record { geometry = b.geometry; plans = l; knots = 0 })) one-plans

-- ---- the tables of an image

as-many : (config : Config) (bytes : List ℕ) (start : ℕ) (plans : List Plan) (tables : List Table) → AreTableImages config bytes start plans tables → length plans ≡ length tables
as-many config bytes start [] [] h = refl
as-many config bytes start [] (x ∷ tables) h = absurd h
as-many config bytes start (p ∷ plans) [] h = absurd h
as-many config bytes start (p ∷ plans) (x ∷ tables) h = ap suc (as-many config bytes (start + 1) plans tables h.1)

-- ---- what was found

found-last : (lines : Lines) (bytes : List ℕ) (i : ℕ) (findings : List Finding) (last : Finding) → AreFound Finds lines bytes i (findings ++ last ∷ []) → IsFound Finds lines bytes (i + length findings) last
found-last lines bytes i [] last h = subst (λ (n : ℕ). IsFound Finds lines bytes n last) (let q : i ≡ i + 0 = omega arith in q) h.0
found-last lines bytes i (x ∷ findings) last h =
    subst (λ (n : ℕ). IsFound Finds lines bytes n last) (let q : i + 1 + length findings ≡ i + suc (length findings) = omega arith in q) (found-last lines bytes (i + 1) findings last h.1)

module _ (lines : Lines) (config : Config) (bytes : List ℕ) (tables : List Table) (accepted : IsAccepted lines) (makes : Makes lines config) (image : IsImage config bytes tables) where
  is-image : IsImageOf bytes lines
  is-image = record {
    head = record {
      whole = (made-by lines config makes).whole;
      text = λ other makes_other. image.head ∙ same-header lines config other makes makes_other;
    };
    size = λ other makes_other. image.len ∙ same-length lines config other makes makes_other;
  }

  one : (found : Lines) → IsAccepted found → IsImageOf bytes found → found ≡ lines
  one found accepted_found is =
      one-header (take 1024 bytes) found lines (let k = length-take 1024 bytes in omega (arith, k)) accepted_found is.head accepted is-image.head

  finds : (i : ℕ) (table : Table) (finding : Finding) → slice_get tables i ≡ Some table → IsFound Finds lines bytes i finding → finding ≡ sound_table table
  finds i table finding there found = check-sound config lines bytes tables i table finding (made-by lines config makes).device_is (made-by lines config makes).plans_are image there found

  -- one that was found of some table is sound
  all-good : (i : ℕ) (finding : Finding) → IsFound Finds lines bytes i finding → is_sound finding ≡ true
  all-good i finding found =
      let lt = slice_get-short lines.plans i found.plan found.plan_is in
      let count = as-many config bytes 0 config.plans tables image.tables_are in
      let there = slice_get-some tables i (omega (arith, lt, count, ap (λ (l : List Plan). length l) (made-by lines config makes).plans_are)) in
      ap is_sound (finds i there.0 finding there.1 found)

  -- what was found is a front of what is found of all tables
  findings-front : (i : ℕ) (findings : List Finding) (rest : List Table) → ((j : ℕ) (table : Table) → slice_get rest j ≡ Some table → slice_get tables (i + j) ≡ Some table) → i + length rest ≡ length tables
      → AreFound Finds lines bytes i findings → (others : List Finding) × (findings ++ others ≡ map sound_table rest)
  findings-front i [] rest at len h = (map sound_table rest, refl)
  findings-front i (f ∷ findings) [] at len h =
      let lt = slice_get-short lines.plans i h.0.plan h.0.plan_is in
      let count = as-many config bytes 0 config.plans tables image.tables_are in
      absurd (omega (arith, len, lt, count, ap (λ (l : List Plan). length l) (made-by lines config makes).plans_are))
  findings-front i (f ∷ findings) (x ∷ rest) at len h =
      let here : slice_get tables i ≡ Some x = ap (slice_get tables) (let q : i ≡ i + 0 = omega arith in q) ∙ at 0 x refl in
      let later = findings-front (i + 1) findings rest
      (λ j table e. ap (slice_get tables) (let q : i + 1 + j ≡ i + suc j = omega arith in q) ∙ at (suc j) table e) (omega (arith, len)) h.1 in
      (later.0, ap (λ (y : Finding). y ∷ (findings ++ later.0)) (finds i x f here h.0) ∙ ap (λ (l : List Finding). sound_table x ∷ l) later.1)

  all-front : (findings : List Finding) → AreFound Finds lines bytes 0 findings → (others : List Finding) × (findings ++ others ≡ map sound_table tables)
  all-front findings h = findings-front 0 findings tables (λ j table k. ap (slice_get tables) (let q : 0 + j ≡ j = omega arith in q) ∙ k) (omega arith) h

  module _ (told told_now : Option (List ℕ)) where
    unsound : ImageEnds Finds bytes told told_now Unsound → ⊥
    unsound e =
        let fault = e.ends in
        let found = subst (λ (l : Lines). AreFound Finds l bytes 0 (fault.findings ++ fault.fault ∷ [])) (one e.lines e.accepted e.image) fault.are in
        true≢false (sym (all-good (0 + length fault.findings) fault.fault (found-last lines bytes 0 fault.findings fault.fault found)) ∙ fault.unsound)

    done : ImageEnds Finds bytes told told_now Done → Appends told told_now (sound_text config tables)
    done e =
        let same = one e.lines e.accepted e.image in
        let all = e.ends in
        let front = all-front all.findings (subst (λ (l : Lines). AreFound Finds l bytes 0 all.findings) same all.are) in
        let plans_are : e.lines.plans ≡ config.plans = ap (λ (l : Lines). l.plans) same ∙ (made-by lines config makes).plans_are in
        let len : length all.findings ≡ length tables = all.count ∙ ap (λ (l : List Plan). length l) plans_are ∙ as-many config bytes 0 config.plans tables image.tables_are in
        let findings_are = all-of all.findings front.0 (map sound_table tables) front.1 (len ∙ sym (length-map tables sound_table)) in
        subst (λ (l : List Finding). Appends told told_now (report_text config.plans l)) findings_are (subst (λ (l : List Plan). Appends told told_now (report_text l all.findings)) plans_are all.text)

    -- the lines of what was found, or a front of them
    part : (found : Lines) → found ≡ lines → (findings : List Finding) → AreFound Finds found bytes 0 findings → AppendsFront told told_now (report_text found.plans findings) → AppendsFront told told_now (sound_text config tables)
    part found same findings are text =
        let front = all-front findings (subst (λ (l : Lines). AreFound Finds l bytes 0 findings) same are) in
        let plans_are : found.plans ≡ config.plans = ap (λ (l : Lines). l.plans) same ∙ (made-by lines config makes).plans_are in
        front-longer told told_now (report_text config.plans findings) (sound_text config tables)
        (subst (λ (l : List Finding). IsFront (report_text config.plans findings) (report_text config.plans l)) front.1 (report-front config.plans findings front.0))
        (subst (λ (l : List Plan). AppendsFront told told_now (report_text l findings)) plans_are text)

    some : (found : Lines) → found ≡ lines → (n : ℕ) → Tells Finds found bytes told told_now n → AppendsFront told told_now (sound_text config tables)
    some found same n h = part found same h.findings h.are (front-all told told_now (report_text found.plans h.findings) h.text)

    front-told : (status : ToolStatus) → CheckEnds Finds bytes told told_now status → AppendsFront told told_now (sound_text config tables)
    front-told Done h = front-all told told_now (sound_text config tables) (done h)
    front-told OutWrite h = part h.lines (one h.lines h.accepted h.image) (h.ends.findings ++ h.ends.next ∷ []) h.ends.are h.ends.text
    front-told NoMemory (inl h) = front-nothing told told_now (sound_text config tables) h
    front-told NoMemory (inr h) = some h.lines (one h.lines h.accepted h.image) h.ends.0 h.ends.2
    front-told NotImage h = absurd (h.0 lines accepted is-image)
    front-told Device (inl h) = front-nothing told told_now (sound_text config tables) h
    front-told Device (inr h) = some h.lines (one h.lines h.accepted h.image) h.ends.0 h.ends.2
    front-told Unsound h = absurd (unsound h)
    front-told (BadImage table) h = absurd h.ends
    front-told NoTable h = absurd h.ends
    front-told InputRead h = absurd h.ends
    front-told InputLong h = absurd h.ends
    front-told (BadInput number) h = absurd h.ends

    ends-sound : (status : ToolStatus) → CheckEnds Finds bytes told told_now status → law.TellsSound config tables told told_now status
    ends-sound status h = record {
      image = λ e. (subst (CheckEnds Finds bytes told told_now) e h).0 lines accepted is-image;
      sound = λ e. unsound (subst (CheckEnds Finds bytes told told_now) e h);
      front = front-told status h;
      lines = λ e. done (subst (CheckEnds Finds bytes told told_now) e h);
    }

pub all-sound : TablesAreSound
all-sound = record {
  tables = table-sound;
  images = image-sound;
  runs = run-sound;
  checks = check-sound;
  ends = λ config bytes tables told told_now status is_made image h. ends-sound is_made.lines config bytes tables is_made.accepted is_made.makes image told told_now status h;
  scripts = made;
}
