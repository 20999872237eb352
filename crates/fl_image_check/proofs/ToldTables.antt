-- What a check tells, table by table.
use Rattle.std.proofs.Common.{◌≡◌, ℕ, zero, suc, ◌+◌, ◌*◌, ◌^◌, ◌<◌, ◌≤◌, ◌&&◌, ◌⊎◌, inl, inr, Bool, true, false, if◌then◌else◌, Option, Some, None, IfSome, Err, List, [], ◌∷◌, ◌++◌, length, take, refl, sym, ◌∙◌, ap, subst, append_assoc, append-nil, length-append, arith}
use Rattle.std.specs.Prelude.{sum_by, slice_get}
use Rattle.std.specs.List.{list_all}
use Rattle.std.proofs.lemmas.List.Sums.{sum_by-cons}
use Rattle.std.proofs.lemmas.List.Folds.{list_all-append}
use Rattle.std.proofs.lemmas.Bool.{false≢true}
use Rattle.std.proofs.Math.Bool.{and-false, and-true}
use Rattle.fl_base.specs.Causes.{Appends, AppendsFront}
use Rattle.fl_base.specs.declared.types.RingPlace.{RingPlace}
use Rattle.fl_base.proofs.Appended.{appends-append, appends-none, front-behind}
use Rattle.fl_flash.specs.Flash.{FlashState}
use Rattle.fl_flash.specs.Places.{extent}
use Rattle.fl_model.specs.Bare.{bare}
use Rattle.fl_model.specs.Record.{Plan, blocks_of}
use Rattle.fl_words.specs.Config.{Lines}
use Rattle.fl_plan.specs.declared.table_config.TableConfig.{TableConfig}
use Rattle.fl_plan.specs.Limits.{IsRingSize, IsWithinLimits}
use Rattle.fl_plan.specs.Plan.{IsConfigOf, IsRingAt, blocks_in}
use Rattle.fl_plan.specs.Refusal.{config_fault}
use Rattle.fl_image_check.specs.Report.{FoundBy, found_text, found_sound, report_lines}
use Rattle.fl_frame.specs.Reads.{OnlyLooks}
use Rattle.fl_image_check.specs.Checking.{LiesOn, LogLies, IsOver, IsFound, AreFound, FindsBy, Tells, TellsNext, TellsOne, TableEnds, IsCheckStatus, TablesEndBy}
use Rattle.fl_image_check.specs.declared.extent.Extent.{Extent}
use Rattle.fl_image_check.specs.declared.extent.Extent.TheVariants.{FirstFault, AllTables}
use Rattle.fl_image.specs.declared.status.ToolStatus.{ToolStatus}
use Rattle.fl_image.specs.declared.status.ToolStatus.TheVariants.{Done, OutWrite, NoMemory, Device, Unsound}
use Rattle.fl_check.specs.declared.faults.TableRules.{TableRules}
use Rattle.fl_check.specs.declared.finding.Finding.{Finding}

-- ---- a table and its place

sum-within : (plans : List Plan) (i : ℕ) (plan : Plan) → slice_get plans i ≡ Some plan → sum_by blocks_of (take i plans) + blocks_of plan ≤ sum_by blocks_of plans
sum-within [] i plan h = let none : None ≡ Some plan = h in cc
sum-within (first ∷ plans) zero plan h =
    let here : Some first ≡ Some plan = h in
    let same : first ≡ plan = cc in
    omega (arith, ap blocks_of same, sum_by-cons blocks_of first plans)
sum-within (first ∷ plans) (suc i) plan h = omega (arith, sum-within plans i plan h, sum_by-cons blocks_of first plans, sum_by-cons blocks_of first (take i plans))

pub config-there : (plans : List Plan) (i : ℕ) (plan : Plan) (config : TableConfig) → slice_get plans i ≡ Some plan → IfSome (slice_get plans i) (λ p. IsConfigOf config (bare p)) → IsConfigOf config (bare plan)
config-there plans i plan config is h = subst (λ (o : Option Plan). IfSome o (λ p. IsConfigOf config (bare p))) is h

pub lies-at : (lines : Lines) (f : FlashState) (i : ℕ) (plan : Plan) (config : TableConfig) → IsOver lines f → slice_get lines.plans i ≡ Some plan → IsConfigOf config (bare plan)
    → config.rows.first_block ≡ sum_by blocks_of (take i lines.plans) → lines.device ≡ Some config.geometry → IsWithinLimits config → config_fault config ≡ None → LiesOn config f
lies-at lines f i plan config over plan_is config_is first device limits passes =
    let rows : config.rows.blocks ≡ plan.data_blocks = ap (λ (p : Plan). p.data_blocks) config_is.is in
    let index : blocks_in config.index ≡ plan.index_blocks = ap (λ (p : Plan). p.index_blocks) config_is.is in
    let var : blocks_in config.var ≡ plan.var_blocks = ap (λ (p : Plan). p.var_blocks) config_is.is in
    record {
      geometry = cc (device, over.device);
      limits = limits;
      passes = passes;
      index = subst (λ (n : ℕ). IfSome config.index (λ place. place.first_block ≡ config.rows.first_block + n)) (sym rows) config_is.index;
      var = subst (λ (m : ℕ). IfSome config.var (λ place. place.first_block ≡ config.rows.first_block + config.rows.blocks + m)) (sym index)
          (subst (λ (n : ℕ). IfSome config.var (λ place. place.first_block ≡ config.rows.first_block + n + plan.index_blocks)) (sym rows) config_is.var);
      within = omega (arith, sum-within lines.plans i plan plan_is, first, over.blocks, rows, index, var);
      few = over.few;
    }

-- .. and its log
pub log-there : (lines : Lines) (i : ℕ) (plan : Plan) (config : TableConfig) (log : Option RingPlace) → slice_get lines.plans i ≡ Some plan → config.rows.first_block ≡ sum_by blocks_of (take i lines.plans)
    → IfSome (slice_get lines.plans i) (λ p. IsRingAt log (sum_by blocks_of (take i lines.plans) + p.data_blocks + p.index_blocks + p.var_blocks) p.log_blocks)
    → IsRingAt log (config.rows.first_block + plan.data_blocks + plan.index_blocks + plan.var_blocks) plan.log_blocks
log-there lines i plan config log is first at =
    subst (λ (n : ℕ). IsRingAt log (n + plan.data_blocks + plan.index_blocks + plan.var_blocks) plan.log_blocks) (sym first)
    (subst (λ (o : Option Plan). IfSome o (λ p. IsRingAt log (sum_by blocks_of (take i lines.plans) + p.data_blocks + p.index_blocks + p.var_blocks) p.log_blocks)) is at)

pub log-alone : (plans : List Plan) (i : ℕ) (plan : Plan) (log : Option RingPlace) → slice_get plans i ≡ Some plan → IfSome (slice_get plans i) (λ p. IfSome log (λ place. p.var_blocks ≡ 0)) → IfSome log (λ place. plan.var_blocks ≡ 0)
log-alone plans i plan log is h = subst (λ (o : Option Plan). IfSome o (λ p. IfSome log (λ place. p.var_blocks ≡ 0))) is h

pub log-lies-at : (lines : Lines) (f : FlashState) (i : ℕ) (plan : Plan) (config : TableConfig) (log : Option RingPlace) → IsOver lines f → slice_get lines.plans i ≡ Some plan → IsConfigOf config (bare plan)
    → config.rows.first_block ≡ sum_by blocks_of (take i lines.plans) → IfSome log IsRingSize → IsRingAt log (config.rows.first_block + plan.data_blocks + plan.index_blocks + plan.var_blocks) plan.log_blocks → LogLies config log f
log-lies-at lines f i plan config None over plan_is config_is first size at = tt
log-lies-at lines f i plan config (Some place) over plan_is config_is first size at =
    let rows : config.rows.blocks ≡ plan.data_blocks = ap (λ (p : Plan). p.data_blocks) config_is.is in
    let index : blocks_in config.index ≡ plan.index_blocks = ap (λ (p : Plan). p.index_blocks) config_is.is in
    let var : blocks_in config.var ≡ plan.var_blocks = ap (λ (p : Plan). p.var_blocks) config_is.is in
    (size, omega (arith, at.0, rows, index, var), omega (arith, at.0, at.1, sum-within lines.plans i plan plan_is, first, over.blocks))

-- ---- a flash that is only looked at

pub over-on : (lines : Lines) (old new : FlashState) → IsOver lines old → OnlyLooks old new → IsOver lines new
over-on lines old new over looks = record {
  device = over.device ∙ ap (λ g. Some g) (sym looks.goes.geometry);
  blocks = looks.goes.blocks ∙ over.blocks;
  few = let few : old.blocks * old.geometry.block < 2 ^ 32 = over.few in rw (looks.goes.blocks, looks.goes.geometry) few;
  start = looks.goes.start ∙ over.start;
  on = looks.power ∙ over.on;
}

-- what holds of its name
pub named : (o : Option Plan) (name : List ℕ) (P : List ℕ → Type 0) → IfSome o (λ plan. name ≡ plan.name) → P name → IfSome o (λ plan. P plan.name)
named None name P is p = tt
named (Some plan) name P is p = subst P is p

-- ---- the lines so far

report-none : (extent : Extent) (plans : List Plan) → report_lines extent plans [] ≡ []
report-none extent [] = refl
report-none extent (plan ∷ plans) = refl

report-push : (extent : Extent) (plans : List Plan) (findings : List (FoundBy extent)) (plan : Plan) (found : FoundBy extent) → slice_get plans (length findings) ≡ Some plan →
    report_lines extent plans (findings ++ found ∷ []) ≡ report_lines extent plans findings ++ found_text extent plan.name found
report-push extent [] findings plan found h = let none : None ≡ Some plan = h in cc
report-push extent (first ∷ plans) [] plan found h =
    let here : Some first ≡ Some plan = h in
    let same : first ≡ plan = cc in
    ap (λ l. found_text extent first.name found ++ l) (report-none extent plans) ∙ append-nil (found_text extent first.name found) ∙ ap (λ (p : Plan). found_text extent p.name found) same
report-push extent (first ∷ plans) (one ∷ findings) plan found h =
    ap (λ l. found_text extent first.name one ++ l) (report-push extent plans findings plan found h)
    ∙ sym (append_assoc (found_text extent first.name one) (report_lines extent plans findings) (found_text extent plan.name found))

found-push : (Found : Type 0) (Finds : TableConfig → Option RingPlace → FlashState → Found → Type 0) (lines : Lines) (bytes : List ℕ) (i : ℕ) (findings : List Found) (found : Found) →
    AreFound Finds lines bytes i findings → IsFound Finds lines bytes (i + length findings) found → AreFound Finds lines bytes i (findings ++ found ∷ [])
found-push Found Finds lines bytes i [] found h k = let same : i + length {A = Found} [] ≡ i = omega arith in (subst (λ n. IsFound Finds lines bytes n found) same k, tt)
found-push Found Finds lines bytes i (first ∷ findings) found h k =
    let same : i + length (first ∷ findings) ≡ (i + 1) + length findings = omega arith in
    (h.0, found-push Found Finds lines bytes (i + 1) findings found h.1 (subst (λ n. IsFound Finds lines bytes n found) same k))

all-push : (Found : Type 0) (sound : Found → Bool) (findings : List Found) (found : Found) (all is : Bool) → list_all sound findings ≡ all → sound found ≡ is → list_all sound (findings ++ found ∷ []) ≡ (all && is)
all-push Found sound findings found all is h k =
    let both : (list_all sound findings && list_all sound (found ∷ [])) ≡ (all && is) = rw (h, k) (and-last all is) in
    list_all-append sound findings (found ∷ []) ∙ both
  where
    and-last : (a b : Bool) → (a && (b && true)) ≡ (a && b)
    and-last true true = refl
    and-last true false = refl
    and-last false b = refl

pub sound-none : (extent : Extent) (Finds : TableConfig → Option RingPlace → FlashState → FoundBy extent → Type 0) (lines : Lines) (bytes : List ℕ) (told : Option (List ℕ)) → Tells extent Finds lines bytes told told 0 true
sound-none extent Finds lines bytes told =
    record { findings = []; count = refl; are = tt; sound = refl; text = subst (λ (l : List ℕ). Appends told told l) (sym (report-none extent lines.plans)) (appends-none told) }

-- one more finding, and its lines
module _ (extent : Extent) (Finds : TableConfig → Option RingPlace → FlashState → FoundBy extent → Type 0) (lines : Lines) (bytes : List ℕ) (before mid now : Option (List ℕ)) (n : ℕ) (all : Bool) (s : Tells extent Finds lines bytes before mid n all) where
  module _ (found : FoundBy extent) (is : IsFound Finds lines bytes n found) where
    pub are-next : AreFound Finds lines bytes 0 (s.findings ++ found ∷ [])
    are-next =
        let place : n ≡ 0 + length s.findings = omega (arith, s.count) in
        found-push (FoundBy extent) Finds lines bytes 0 s.findings found s.are (subst (λ k. IsFound Finds lines bytes k found) place is)

    text-next : report_lines extent lines.plans (s.findings ++ found ∷ []) ≡ report_lines extent lines.plans s.findings ++ found_text extent is.plan.name found
    text-next = report-push extent lines.plans s.findings is.plan found (subst (λ k. slice_get lines.plans k ≡ Some is.plan) (sym s.count) is.plan_is)

    pub all-next : IfSome (slice_get lines.plans n) (λ plan. Appends mid now (found_text extent plan.name found)) → Appends before now (report_lines extent lines.plans (s.findings ++ found ∷ []))
    all-next wrote =
        subst (λ (l : List ℕ). Appends before now l) (sym text-next)
        (appends-append before mid now (report_lines extent lines.plans s.findings) (found_text extent is.plan.name found) s.text
        (subst (λ (o : Option Plan). IfSome o (λ p. Appends mid now (found_text extent p.name found))) is.plan_is wrote))

  -- where its lines were written whole
  pub next-told : (sound : Bool) (one : TellsOne extent Finds lines bytes n sound (λ text. Appends mid now text)) → Tells extent Finds lines bytes before now (n + 1) (all && sound)
  next-told sound one = record {
    findings = s.findings ++ one.found ∷ [];
    count = omega (arith, s.count, length-append s.findings (one.found ∷ []));
    are = are-next one.found one.is;
    sound = all-push (FoundBy extent) (found_sound extent) s.findings one.found all sound s.sound one.sound_is;
    text = all-next one.found one.is one.text;
  }

  -- .. or a front of them
  pub part-next : (sound : Bool) → TellsOne extent Finds lines bytes n sound (λ text. AppendsFront mid now text) → TellsNext extent Finds lines bytes before now all
  part-next sound one =
      let so_far = report_lines extent lines.plans s.findings in
      let line = found_text extent one.is.plan.name one.found in
      let front : AppendsFront mid now line = subst (λ (o : Option Plan). IfSome o (λ p. AppendsFront mid now (found_text extent p.name one.found))) one.is.plan_is one.text in
      record {
        findings = s.findings;
        next = one.found;
        are = are-next one.found one.is;
        sound = s.sound;
        text = subst (λ (l : List ℕ). AppendsFront before now l) (sym (text-next one.found one.is))
            (front-behind before mid now so_far line s.text front);
      }

  pub sound-next : TellsOne extent Finds lines bytes n true (λ text. Appends mid now text) → Tells extent Finds lines bytes before now (n + 1) all
  sound-next one = subst (λ (b : Bool). Tells extent Finds lines bytes before now (n + 1) b) (and-true all) (next-told true one)

  -- one that isn't sound
  pub unsound-next : TellsOne extent Finds lines bytes n false (λ text. Appends mid now text) → Tells extent Finds lines bytes before now (n + 1) false
  unsound-next one = subst (λ (b : Bool). Tells extent Finds lines bytes before now (n + 1) b) (and-false all) (next-told false one)

pub not-first : (extent : Extent) → extent ≡ AllTables → extent ≡ FirstFault → ⊥
not-first extent all first = two (sym all ∙ first)
  where
    two : AllTables ≡ FirstFault → ⊥
    two e = cc

-- ---- how the check of the tables ends

module _ (Finds : TableConfig → Option RingPlace → FlashState → Finding → Type 0) (Rules : TableConfig → Option RingPlace → FlashState → TableRules → Type 0) (lines : Lines) (bytes : List ℕ) where
  pub ends-all : (told now : Option (List ℕ)) (extent : Extent) (all : Bool) → (extent ≡ FirstFault → all ≡ true) → Tells extent (FindsBy extent Finds Rules) lines bytes told now (length lines.plans) all →
      TablesEndBy extent Finds Rules lines bytes told now (if all then Done else Unsound)
  ends-all told now FirstFault true none h = h
  ends-all told now FirstFault false none h = absurd (false≢true (none refl))
  ends-all told now AllTables true none h = h
  ends-all told now AllTables false none h = h

  module _ (told mid now : Option (List ℕ)) (n : ℕ) (all : Bool) where
    ends-part : (extent : Extent) → (extent ≡ FirstFault → all ≡ true) → TellsNext extent (FindsBy extent Finds Rules) lines bytes told now all → TablesEndBy extent Finds Rules lines bytes told now OutWrite
    ends-part FirstFault none h = subst (λ (b : Bool). TellsNext FirstFault Finds lines bytes told now b) (none refl) h
    ends-part AllTables none h = (all, h)

    -- nothing was found of the next one
    ends-few : (extent : Extent) (status : ToolStatus) → (extent ≡ FirstFault → all ≡ true) → n < length lines.plans → (status ≡ NoMemory) ⊎ (status ≡ Device)
        → Tells extent (FindsBy extent Finds Rules) lines bytes told now n all → TablesEndBy extent Finds Rules lines bytes told now status
    ends-few extent status none lt (inl is) h = subst (λ (s : ToolStatus). TablesEndBy extent Finds Rules lines bytes told now s) (sym is) (few extent none h)
      where
        few : (extent : Extent) → (extent ≡ FirstFault → all ≡ true) → Tells extent (FindsBy extent Finds Rules) lines bytes told now n all → TablesEndBy extent Finds Rules lines bytes told now NoMemory
        few FirstFault none h = (n, lt, subst (λ (b : Bool). Tells FirstFault Finds lines bytes told now n b) (none refl) h)
        few AllTables none h = (n, lt, (all, h))
    ends-few extent status none lt (inr is) h = subst (λ (s : ToolStatus). TablesEndBy extent Finds Rules lines bytes told now s) (sym is) (few extent none h)
      where
        few : (extent : Extent) → (extent ≡ FirstFault → all ≡ true) → Tells extent (FindsBy extent Finds Rules) lines bytes told now n all → TablesEndBy extent Finds Rules lines bytes told now Device
        few FirstFault none h = (n, lt, subst (λ (b : Bool). Tells FirstFault Finds lines bytes told now n b) (none refl) h)
        few AllTables none h = (n, lt, (all, h))

    -- the check of the next one failed
    pub ends-failed : (extent : Extent) (status : ToolStatus) → (extent ≡ FirstFault → all ≡ true) → n < length lines.plans → Tells extent (FindsBy extent Finds Rules) lines bytes told mid n all → IsCheckStatus status
        → TableEnds extent (FindsBy extent Finds Rules) lines bytes n mid now (Err status) → TablesEndBy extent Finds Rules lines bytes told now status
    ends-failed extent status none lt h (inl is) ends = subst (λ (s : ToolStatus). TablesEndBy extent Finds Rules lines bytes told now s) (sym is) (ends-part extent none part)
      where
        here : TableEnds extent (FindsBy extent Finds Rules) lines bytes n mid now (Err OutWrite)
        here = subst (λ (s : ToolStatus). TableEnds extent (FindsBy extent Finds Rules) lines bytes n mid now (Err s)) is ends

        part : TellsNext extent (FindsBy extent Finds Rules) lines bytes told now all
        part = part-next extent (FindsBy extent Finds Rules) lines bytes told mid now n all h here.0 here.1
    ends-failed extent status none lt h (inr (inl is)) ends =
        ends-few extent status none lt (inl is) (subst (λ (o : Option (List ℕ)). Tells extent (FindsBy extent Finds Rules) lines bytes told o n all)
        (sym (subst (λ (s : ToolStatus). TableEnds extent (FindsBy extent Finds Rules) lines bytes n mid now (Err s)) is ends)) h)
    ends-failed extent status none lt h (inr (inr is)) ends =
        ends-few extent status none lt (inr is) (subst (λ (o : Option (List ℕ)). Tells extent (FindsBy extent Finds Rules) lines bytes told o n all)
        (sym (subst (λ (s : ToolStatus). TableEnds extent (FindsBy extent Finds Rules) lines bytes n mid now (Err s)) is ends)) h)

    -- the next one isn't sound, and the check ends at it
    pub ends-fault : (extent : Extent) → extent ≡ FirstFault → (extent ≡ FirstFault → all ≡ true) → Tells extent (FindsBy extent Finds Rules) lines bytes told mid n all
        → TellsOne extent (FindsBy extent Finds Rules) lines bytes n false (λ text. Appends mid now text) → TablesEndBy extent Finds Rules lines bytes told now Unsound
    ends-fault FirstFault first none h one = record {
      findings = h.findings;
      fault = one.found;
      are = are-next FirstFault Finds lines bytes told mid now n all h one.found one.is;
      sound = h.sound ∙ none refl;
      unsound = one.sound_is;
      text = all-next FirstFault Finds lines bytes told mid now n all h one.found one.is one.text;
    }
    ends-fault AllTables first none h one = absurd (not-first AllTables refl first)
