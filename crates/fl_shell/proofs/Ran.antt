-- A run of some moments goes on.
use Rattle.std.proofs.Common.{◌≡◌, ℕ, ◌+◌, ◌-◌, ◌*◌, ◌^◌, ◌<◌, ◌≤◌, Bool, IsTrue, None, Ok, Option, Some, List, [], ◌∷◌, ◌++◌, length, refl, sym, ◌∙◌, ap, subst, arith}
use Rattle.std.specs.Prelude.{IfSome, option_map, unwrap_or}
use Rattle.std.proofs.lemmas.List.{map-append}
use Rattle.std.proofs.Math.Nat.{mul-le-mul_right}
use Rattle.fl_base.specs.Causes.{Rose}
use Rattle.fl_flash.specs.Flash.{FlashState}
use Rattle.fl_model.specs.Limits.{scan_limit}
use Rattle.fl_model.specs.Record.{Config}
use Rattle.fl_words.specs.Command.{Command}
use Rattle.fl_machine.specs.Machine.{Machine}
use Rattle.fl_machine.specs.Run.{end_of, commands_of, risen_in}
use Rattle.fl_machine.specs.Script.{KeepsReads, Ran}
use Rattle.fl_machine.specs.Small.{AreTables}
use Rattle.fl_machine.specs.Stays.{MomentStays}
use Rattle.fl_machine.specs.Step.{Moment, Step, Located, located}
use Rattle.fl_machine.proofs.BytesStay.{stays-more}
use Rattle.fl_machine.proofs.FewReads.{most_of_a_scan, scan-of-name}
use Rattle.fl_machine.proofs.KeptPuts.{keeps-puts}
use Rattle.fl_machine.proofs.Steps.{finds}
use Rattle.fl_session.specs.Execute.{Executes, IsReady, StandsAlike}
use Rattle.fl_queries.specs.Keys.{all_keys}
use Rattle.fl_session.specs.Oldest.{reads_of}
use Rattle.fl_session.proofs.NextCommand.{at_end, end_of-more, ran-none, ran-further, ran-further_moments, risen-more, rose-more, run-more}
use Rattle.fl_session.proofs.RunEnds.{rose-earlier}
use Rattle.fl_session.proofs.ExecutedCommand.{alike-same}
use Rattle.fl_shell.specs.Flushing.{RanThese}
use Rattle.fl_shell.specs.Talk.{RanOver}
use Rattle.fl_shell.specs.Turning.{Looked}

none-of : (moments : List Moment) → commands_of moments ≡ [] → moments ≡ []
none-of [] e = refl
none-of (m ∷ moments) e = cc

-- before any command
pub ran-begins : (config : Config) (old : Machine) (stands : Machine → Type 0) (flash : FlashState) → flash.work.reads ≡ 0 → stands old → RanThese config old 0 [] stands flash.media.content flash.media.faults flash
ran-begins config old stands flash unread here =
    let ran = ran-none config old stands flash.media.content flash.media.faults None here in
    record { ran = ran; are = none-of ran.moments ran.commands_are; counted = omega (arith, unread) }

-- where the session stands after it
pub ran-stands : (config : Config) (old : Machine) (lines : ℕ) (moments : List Moment) (stands : Machine → Type 0) (content : List ℕ) (faults : ℕ) (flash : FlashState) → RanThese config old lines moments stands content faults flash → stands (end_of old moments)
ran-stands config old lines moments stands content faults flash h = subst (λ ms. stands (end_of old ms)) h.are h.ran.stands_after

-- the same run, where the session stands for the same state and the medium failed more often
pub restood : (config : Config) (old : Machine) (commands : List Command) (stands stands_now : Machine → Type 0) (content content_now : List ℕ) (faults mid now : ℕ) →
    (h : Ran config old commands stands content content_now faults mid None None) → mid ≤ now → stands_now (end_of old h.moments) →
    (ran : Ran config old commands stands_now content content_now faults now None None) × (ran.moments ≡ h.moments)
restood config old commands stands stands_now content content_now faults mid now h later here = (
  record {
    moments = h.moments;
    commands_are = h.commands_are;
    run = h.run;
    stands_after = here;
    reads = h.reads;
    stays = h.stays;
    rose = at_end _ faults mid now h.rose later;
    found = h.found;
    kept = h.kept;
    told_all = h.told_all;
  },
  refl,
)

-- what executes nothing leaves a run
pub ran-kept : (config : Config) (old : Machine) (lines : ℕ) (moments : List Moment) (stands stands_now : Machine → Type 0) (content : List ℕ) (faults : ℕ) (flash flash_now : FlashState) → RanThese config old lines moments stands content faults flash → stands_now (end_of old moments) →
    flash_now ≡ flash → RanThese config old lines moments stands_now content faults flash_now
ran-kept config old lines moments stands stands_now content faults flash flash_now h here same =
    let here' : stands_now (end_of old h.ran.moments) = subst (λ ms. stands_now (end_of old ms)) (sym h.are) here in
    let r = restood config old (commands_of moments) stands stands_now content flash.media.content faults flash.media.faults flash.media.faults h.ran (omega arith) here' in
    subst (λ f. RanThese config old lines moments stands_now content faults f) (sym same) (record { ran = r.0; are = r.1 ∙ h.are; counted = h.counted })

-- ---- what a run says without its count of reads

pub ran-over : (config : Config) (old : Machine) (lines : ℕ) (moments : List Moment) (stands : Machine → Type 0) (content : List ℕ) (faults : ℕ) (flash : FlashState) → RanThese config old lines moments stands content faults flash →
    RanOver config old moments (StandsAlike stands) content flash.media.content faults flash.media.faults
ran-over config old lines moments stands content faults flash h =
    let end = end_of old h.ran.moments in
    let over : RanOver config old h.ran.moments (StandsAlike stands) content flash.media.content faults flash.media.faults =
    record { run = h.ran.run; stands_after = (end, h.ran.stands_after, alike-same end); stays = h.ran.stays; rose = h.ran.rose; found = h.ran.found; kept = h.ran.kept } in
    subst (λ ms. RanOver config old ms (StandsAlike stands) content flash.media.content faults flash.media.faults) h.are over

pub ran-reads : (config : Config) (old : Machine) (lines : ℕ) (moments : List Moment) (stands : Machine → Type 0) (content : List ℕ) (faults : ℕ) (flash : FlashState) → RanThese config old lines moments stands content faults flash → KeepsReads config old moments
ran-reads config old lines moments stands content faults flash h = subst (λ ms. KeepsReads config old ms) h.are h.ran.reads

-- it goes on by a moment
pub over-more : (config : Config) (old : Machine) (moments : List Moment) (moment : Moment) (stands stands_now : Machine → Type 0) (content mid content_now : List ℕ) (faults before now : ℕ) → IsReady config old →
    RanOver config old moments stands content mid faults before → Step config (end_of old moments) moment → MomentStays config (end_of old moments) moment mid content_now → before ≤ now → (IsTrue moment.rose → Rose before now) → stands_now moment.after →
    RanOver config old (moments ++ moment ∷ []) stands_now content content_now faults now
over-more config old moments moment stands stands_now content mid content_now faults before now ready h step stays later rose here =
    let run = run-more config old moments moment h.run step in
    record {
      run = run;
      stands_after = subst stands_now (sym (end_of-more old moments moment)) here;
      stays = stays-more config old moments moment content mid content_now h.stays stays;
      rose = rw risen-more (rose-more (risen_in moments) faults before now moment.rose h.rose later rose);
      found = λ place. finds config old (moments ++ moment ∷ []) place ready.room ready.off ready.rest (ready.logs place) run;
      kept = λ place. keeps-puts config old (moments ++ moment ∷ []) place ready.room ready.off ready.rest (ready.logs place) run;
    }

-- .. and is seen through another relation to the state after it, and the faults are counted from before
pub over-seen : (config : Config) (old : Machine) (moments : List Moment) (stands stands_now : Machine → Type 0) (content content_now : List ℕ) (before mid now : ℕ) → ((m : Machine) → stands m → stands_now m) → before ≤ mid →
    RanOver config old moments stands content content_now mid now → RanOver config old moments stands_now content content_now before now
over-seen config old moments stands stands_now content content_now before mid now seen later h = record {
  run = h.run;
  stands_after = seen (end_of old moments) h.stands_after;
  stays = h.stays;
  rose = rose-earlier (risen_in moments) before mid now later h.rose;
  found = h.found;
  kept = h.kept;
}

-- ---- reads beside the commands

-- the oldest blob of no table takes more reads than a scan
few-of-name : (config : Config) (old m : Machine) → IsReady config old → AreTables config.plans m.tables → (name : List ℕ) → reads_of config m name ≤ most_of_a_scan
few-of-name config old m ready tables name = by-place (located config m name) (scan-of-name config m ready.small ready.room tables name all_keys None 0)
  where
    by-place : (o : Option Located) → IfSome o (λ at. scan_limit config.knots at.plan at.table all_keys None 0 ≤ most_of_a_scan) → unwrap_or (option_map (λ (at : Located). scan_limit config.knots at.plan at.table all_keys None 0) o) 0 ≤ most_of_a_scan
    by-place None h = omega arith
    by-place (Some at) h = h

-- a run to which nothing is added but reads
pub ran-looked : (config : Config) (old : Machine) (lines : ℕ) (moments : List Moment) (unread : List Bool) (stands stands_now : Machine → Type 0) (content : List ℕ) (faults : ℕ) (flash flash_now : FlashState) → IsReady config old → ((m : Machine) → stands m → AreTables config.plans m.tables) →
    flash.media.faults ≤ flash_now.media.faults → RanThese config old lines moments stands content faults flash → length unread ≤ 4 → Looked config (end_of old moments) unread stands_now flash flash_now →
    RanThese config old (lines + 1) moments stands_now content faults flash_now
ran-looked config old lines moments unread stands stands_now content faults flash flash_now ready hold later h few looked =
    let here : stands_now (end_of old h.ran.moments) = subst (λ ms. stands_now (end_of old ms)) (sym h.are) looked.stays in
    let r = restood config old (commands_of moments) stands stands_now content flash.media.content faults flash.media.faults flash_now.media.faults h.ran later here in
    let tables = hold (end_of old moments) (ran-stands config old lines moments stands content faults flash h) in
    let reads = looked.reads most_of_a_scan (few-of-name config old (end_of old moments) ready tables) in
    let most : length unread * most_of_a_scan ≤ 4 * most_of_a_scan = mul-le-mul_right most_of_a_scan few in
    let both = subst (λ (c : List ℕ). (ran : Ran config old (commands_of moments) stands_now content c faults flash_now.media.faults None None) × (ran.moments ≡ moments)) (sym looked.content) (r.0, r.1 ∙ h.are) in
    record { ran = both.0; are = both.1; counted = omega (arith, h.counted, reads, most) }

-- it goes on by a command
pub ran-goes_on : {E : Type 0} (config : Config) (old : Machine) (lines : ℕ) (moments : List Moment) (c : Command) (stands stands_now : Machine → Type 0) (content : List ℕ) (faults : ℕ) (flash flash_now : FlashState) (P : Moment → Type 0) →
    IsReady config old → lines < 2 ^ 44 + 2 ^ 10 → ((m : Machine) → stands m → AreTables config.plans m.tables) → flash.media.faults ≤ flash_now.media.faults → RanThese config old lines moments stands content faults flash →
    (executes : (m : Machine) → stands m → Executes {E = E} config m c stands_now flash flash_now None None (Ok tt)) → ((m : Machine) → (here : stands m) → m ≡ end_of old moments → P (executes m here).moment) →
    (moment : Moment) × P moment × (moment.command ≡ c) × RanThese config old (lines + 1) (moments ++ moment ∷ []) stands_now content faults flash_now
ran-goes_on {E} config old lines moments c stands stands_now content faults flash flash_now P ready few hold later h executes facts =
    let room : flash.work.reads + 2 ^ 19 < 2 ^ 64 - 1 = omega (arith, h.counted, few) in
    let e = executes (end_of old h.ran.moments) h.ran.stands_after in
    let moment = e.moment in
    let more = ran-further {E = E} config old (commands_of moments) c stands stands_now content faults flash flash_now None None None ready hold h.ran room later executes in
    let which : more.0.moments ≡ h.ran.moments ++ moment ∷ [] =
    ran-further_moments {E = E} config old (commands_of moments) c stands stands_now content faults flash flash_now None None None ready hold h.ran room later executes in
    let are : more.0.moments ≡ moments ++ moment ∷ [] = which ∙ ap (λ ms. ms ++ moment ∷ []) h.are in
    let commands : commands_of (moments ++ moment ∷ []) ≡ commands_of moments ++ c ∷ [] =
    map-append (λ (m : Moment). m.command) moments (moment ∷ []) ∙ ap (λ x. commands_of moments ++ x ∷ []) e.command_is in
    let both = subst (λ cs. (ran : Ran config old cs stands_now content flash_now.media.content faults flash_now.media.faults None None) × (ran.moments ≡ moments ++ moment ∷ [])) (sym commands) (more.0, are) in (
      moment,
      facts (end_of old h.ran.moments) h.ran.stands_after (ap (end_of old) h.are),
      e.command_is,
      record { ran = both.0; are = both.1; counted = omega (arith, h.counted, more.1, more.2) },
    )
