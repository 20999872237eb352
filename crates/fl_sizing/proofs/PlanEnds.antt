-- How a plan ends.
use Rattle.std.proofs.Common.{◌≡◌, ◌⊎◌, inl, inr, ℕ, ◌<◌, Option, Some, None, Err, IsTrue, List, [], ◌∷◌, length, refl, sym, ◌∙◌, ap, subst}
use Rattle.fl_base.specs.declared.types.Geometry.{Geometry}
use Rattle.fl_config.specs.Whole.{is_whole, is_whole_of}
use Rattle.fl_machine.specs.Script.{Start, Ready, Unended, BadLine, BadConfig, start_of}
use Rattle.fl_model.specs.Record.{Plan}
use Rattle.fl_words.specs.Config.{Lines, whole_of}
use Rattle.fl_words.specs.Grammar.{lines_of}
use Rattle.fl_sizing.specs.Ends.{EndsAs, IsPlanOf, PlanEnds, Refuses, RefusesAs, Writes}
use Rattle.fl_sizing.specs.Lines.{IsEnded, RefusesText, configured_in, told_by, told_of}
use Rattle.fl_sizing.specs.Text.{plan_text}
use Rattle.fl_sizing.specs.declared.end.PlanEnd.{PlanEnd}
use Rattle.fl_sizing.specs.declared.end.PlanStatus.{PlanStatus}
use Rattle.fl_sizing.specs.declared.end.PlanStatus.TheVariants.{Done, Line, Config, InputRead, OutWrite, InputLong, NoMemory}

-- a status that a line has
abbrev pub IsOfLine : PlanStatus → Type 0
IsOfLine (Line n) = Unit {0}
IsOfLine (Config n) = Unit {0}
IsOfLine other = ⊥

only-lines : (start : Start) (status : PlanStatus) → told_by start ≡ Err status → IsOfLine status
only-lines (Ready config n lines) status e = cc
only-lines (Unended None n) status e = let same : Config 0 ≡ status = cc in subst IsOfLine same tt
only-lines (Unended (Some config) n) status e = cc
only-lines (BadLine n) status e = let same : Line n ≡ status = cc in subst IsOfLine same tt
only-lines (BadConfig n) status e = let same : Config n ≡ status = cc in subst IsOfLine same tt

-- a text is refused by a line of it, and by nothing else
pub has-status : (text : List ℕ) (end : PlanEnd) (status : PlanStatus) → RefusesText text end → end.status ≡ status → IsOfLine status
has-status text end status r e = subst IsOfLine e (only-lines (start_of 0 (lines_of text)) end.status (r.0 0))

pub text-refused : (text : List ℕ) (end : PlanEnd) → RefusesText text end → Refuses text end
text-refused text end r = by_status end.status (has-status text end end.status r refl)
  where
    by_status : (status : PlanStatus) → IsOfLine status → RefusesAs text end status
    by_status (Line n) s = r
    by_status (Config n) s = r
    by_status Done s = absurd s
    by_status InputRead s = absurd s
    by_status OutWrite s = absurd s
    by_status InputLong s = absurd s
    by_status NoMemory s = absurd s

-- it wasn't read
pub unread-refused : (text : List ℕ) (status : PlanStatus) (end : PlanEnd) → end ≡ record { status = status; reason = None } → (status ≡ InputLong) ⊎ (status ≡ InputRead) → (status ≡ InputLong → 65536 < length text) → Refuses text end
unread-refused text status end is (inl e) long = subst (λ (x : PlanEnd). Refuses text x) (sym is) (subst (λ (s : PlanStatus). RefusesAs text (record { status = status; reason = None }) s) (sym e) (long e))
unread-refused text status end is (inr e) long = subst (λ (x : PlanEnd). Refuses text x) (sym is) (subst (λ (s : PlanStatus). RefusesAs text (record { status = status; reason = None }) s) (sym e) tt)

pub unread-statuses : (status : PlanStatus) (end : PlanEnd) → end ≡ record { status = status; reason = None } → (status ≡ InputLong) ⊎ (status ≡ InputRead) → (end.status ≡ Done → ⊥) × (end.status ≡ OutWrite → ⊥)
unread-statuses status end is (inl e) = let same : end.status ≡ InputLong = ap (λ (x : PlanEnd). x.status) is ∙ e in (λ d. one (sym same ∙ d), λ d. other (sym same ∙ d))
  where
    one : InputLong ≡ Done → ⊥
    one d = cc

    other : InputLong ≡ OutWrite → ⊥
    other d = cc
unread-statuses status end is (inr e) = let same : end.status ≡ InputRead = ap (λ (x : PlanEnd). x.status) is ∙ e in (λ d. one (sym same ∙ d), λ d. other (sym same ∙ d))
  where
    one : InputRead ≡ Done → ⊥
    one d = cc

    other : InputRead ≡ OutWrite → ⊥
    other d = cc

-- the figures are those of the configuration that a run has
pub planned : (knots : ℕ) (interval : Option ℕ) (text : List ℕ) (lines : Lines) (told told_now : Option (List ℕ)) (status : PlanStatus) (end : PlanEnd) → IsTrue (is_whole lines) → IsEnded text lines →
    ((geometry : Geometry) → lines.device ≡ Some geometry → Writes (plan_text interval geometry lines.plans) told told_now status) → end ≡ record { status = status; reason = None } → PlanEnds knots interval text told told_now end
planned knots interval text lines told told_now status end is_whole ended writes is =
    subst (λ (e : PlanEnd). PlanEnds knots interval text told told_now e) (sym is) (by_fields lines.device lines.plans is_whole (ended knots) writes)
  where
    by_status : (status : PlanStatus) (figures : List ℕ) → IsPlanOf knots interval text figures → Writes figures told told_now status → EndsAs knots interval text told told_now (record { status = status; reason = None }) status
    by_status Done figures plan w = (figures, plan, w)
    by_status OutWrite figures plan w = (figures, plan, w)
    by_status NoMemory figures plan w = w
    by_status (Line n) figures plan w = absurd w
    by_status (Config n) figures plan w = absurd w
    by_status InputRead figures plan w = absurd w
    by_status InputLong figures plan w = absurd w

    by_fields : (device : Option Geometry) (plans : List Plan) → IsTrue (is_whole_of device plans) → configured_in knots text ≡ told_of (whole_of knots device plans) →
        ((geometry : Geometry) → device ≡ Some geometry → Writes (plan_text interval geometry plans) told told_now status) → EndsAs knots interval text told told_now (record { status = status; reason = None }) status
    by_fields None plans is_whole e w = cc
    by_fields (Some geometry) [] is_whole e w = cc
    by_fields (Some geometry) (plan ∷ plans) is_whole e w =
        by_status status (plan_text interval geometry (plan ∷ plans)) (record {
          config = record { geometry = geometry; plans = plan ∷ plans; knots = knots };
          configured = e;
          figures = refl;
        }) (w geometry refl)
