-- A run goes on by one command.
use Rattle.std.proofs.Common.{◌≡◌, ℕ, ◌+◌, ◌-◌, ◌*◌, ◌^◌, ◌<◌, ◌≤◌, Bool, true, false, inl, inr, IsTrue, Option, Some, None, Result, Ok, Err, List, [], ◌∷◌, ◌++◌, cond, refl, sym, ◌∙◌, ap, subst, length, append-nil, add-zero, arith, IfSome, MatchBool, MatchOption, slice_get}
use Rattle.std.proofs.lemmas.List.{length-map, map-append}
use Rattle.std.specs.List.{AllByRecursion}
use Rattle.std.proofs.lemmas.Grind.{flat_map-append}
use Rattle.std.proofs.lemmas.Bool.{cases_lt}
use Rattle.fl_base.specs.Causes.{Rose}
use Rattle.fl_base.proofs.Appended.{appends-append, appends-none}
use Rattle.fl_flash.specs.Flash.{FlashState}
use Rattle.fl_model.specs.Record.{Plan, Config, has_log}
use Rattle.fl_model.specs.Spline.{lookup_limit}
use Rattle.fl_model.proofs.Lists.{each-push}
use Rattle.fl_words.specs.Command as command
use Rattle.fl_words.specs.Command.{Command}
use Rattle.fl_words.specs.Reply.{texts}
use Rattle.fl_machine.specs.Machine.{Machine}
use Rattle.fl_machine.specs.Found.{Finds, FindsAt, FindsOf, LoggedFinds, logged_stop_at, stop_at}
use Rattle.fl_machine.specs.OpenCursors.{AreWithin}
use Rattle.fl_machine.proofs.OpenCursors.{run-within}
use Rattle.fl_machine.specs.Reads.{none_read, OnTable, OnColumns, WithinScan, GetExact, ScanExact, LimitOf, RunLimits, ExactOf, RunExact}
use Rattle.fl_machine.specs.Small.{AreTables, most_of_a_command}
use Rattle.fl_machine.proofs.FewReads.{limit-few}
use Rattle.fl_machine.specs.Step.{Moment, Step, Located, no_column}
use Rattle.fl_machine.specs.Run.{Run, end_of, commands_of, written_by, risen_in}
use Rattle.fl_machine.specs.Script.{Ran, RanInto, RoseBy}
use Rattle.fl_machine.specs.WholeReads.{reads_in, RanReading, RanIntoReading}
use Rattle.fl_machine.proofs.BytesStay.{stays-more}
use Rattle.fl_machine.specs.Keeping.{KeepsPuts, KeepsPutsAt, standing, sure_at}
use Rattle.fl_machine.proofs.KeptPuts.{keeps-puts}
use Rattle.fl_machine.proofs.Steps.{finds}
use Rattle.fl_machine.proofs.Costs.{on-table-weaker}
use Rattle.fl_session.specs.Cost.{CountsReads, ReadsGet, ReadsScan, ReadsAsStated}
use Rattle.fl_session.specs.Execute.{Executes, IsAlike, IsReady, StandsAlike}

-- a run and one more step
pub run-more : (config : Config) (old : Machine) (moments : List Moment) (moment : Moment) → Run config old moments → Step config (end_of old moments) moment → Run config old (moments ++ moment ∷ [])
run-more config old [] moment run step = (step, tt)
run-more config old (m ∷ moments) moment run step = (run.0, run-more config m.after moments moment run.1 step)

pub end_of-more : (old : Machine) (moments : List Moment) (moment : Moment) → end_of old (moments ++ moment ∷ []) ≡ moment.after
end_of-more old [] moment = refl
end_of-more old (m ∷ moments) moment = end_of-more m.after moments moment

pub written-more : (moments : List Moment) (moment : Moment) → written_by (moments ++ moment ∷ []) ≡ written_by moments ++ texts moment.replies
written-more moments moment =
    flat_map-append (λ (m : Moment). texts m.replies) moments (moment ∷ []) ∙ ap (λ ys. written_by moments ++ ys) (append-nil (texts moment.replies))

pub risen-more : (moments : List Moment) (moment : Moment) → risen_in (moments ++ moment ∷ []) ≡ risen_in moments + cond moment.rose 1 0
risen-more [] moment = omega arith
risen-more (m ∷ moments) moment = omega (arith, risen-more moments moment)

-- counts go on
pub at_end : (n before mid now : ℕ) → RoseBy n before mid → mid ≤ now → RoseBy n before now
at_end n before mid now h later = elim h [ inl a ↦ inl (omega arith) | inr a ↦ inr (omega arith) ]

one_more : (n before mid now : ℕ) → RoseBy n before mid → mid ≤ now → Rose mid now → RoseBy (n + 1) before now
one_more n before mid now h later rose =
    elim h [ inl a ↦ elim (cases_lt now (2 ^ 64 - 1)) [ inl b ↦ inl (omega arith) | inr b ↦ inr b ] | inr a ↦ inr (omega arith) ]

pub rose-more : (n before mid now : ℕ) (b : Bool) → RoseBy n before mid → mid ≤ now → (IsTrue b → Rose mid now) → RoseBy (n + cond b 1 0) before now
rose-more n before mid now true h later rose = one_more n before mid now h later (rose refl)
rose-more n before mid now false h later rose = rw add-zero (at_end n before mid now h later)

-- ---- the limits of the reads

-- what is so of a command over columns
columns-weaker : (moment : Moment) (columns : List ℕ) (P Q : Located → Type 0) → ((at : Located) → P at → Q at) → (at : Located) → OnColumns moment columns P at → OnColumns moment columns Q at
columns-weaker moment columns P Q f at h = by_lacked (no_column at.plan columns) h
  where
    by_lacked : (lacked : Option ℕ) → MatchOption lacked (P at) (λ column. none_read moment) → MatchOption lacked (Q at) (λ column. none_read moment)
    by_lacked None h = f at h
    by_lacked (Some column) h = h

on-columns-weaker : (config : Config) (old : Machine) (moment : Moment) (name columns : List ℕ) (P Q : Located → Type 0) → ((at : Located) → P at → Q at) → OnTable config old moment name (OnColumns moment columns P) → OnTable config old moment name (OnColumns moment columns Q)
on-columns-weaker config old moment name columns P Q f h = on-table-weaker config old moment name (OnColumns moment columns P) (OnColumns moment columns Q) (columns-weaker moment columns P Q f) h

limit-by : {E : Type 0} (config : Config) (old : Machine) (moment : Moment) (before now : FlashState) (result : Result (Unit {0}) E) (c : Command) → AreWithin old.cursors → CountsReads before moment now c → ReadsAsStated config old moment now result c → LimitOf config old moment c
limit-by config old moment before now result command.Mount within h k = k
limit-by config old moment before now result (command.Get name key) within h k =
    on-table-weaker config old moment name (ReadsGet config moment key now) (λ at. moment.reads ≤ lookup_limit config.knots at.plan at.table key) (λ at p. p.within) k
limit-by config old moment before now result (command.Blob name key) within h k = k.0
limit-by config old moment before now result (command.Scan name range span) within h k =
    on-table-weaker config old moment name (ReadsScan config moment range span now result) (WithinScan config moment range span) (λ at p. p.within) k
limit-by config old moment before now result (command.Next cursor count) within h k = k.0 within
limit-by config old moment before now result (command.Select name range column op value) within h k =
    on-columns-weaker config old moment name (column ∷ []) (ReadsScan config moment range None now result) (WithinScan config moment range None) (λ at p. p.within) k
limit-by config old moment before now result (command.Project name range columns) within h k =
    on-columns-weaker config old moment name columns (ReadsScan config moment range None now result) (WithinScan config moment range None) (λ at p. p.within) k
limit-by config old moment before now result (command.Agg name range column width) within h k =
    on-columns-weaker config old moment name (column ∷ []) (ReadsScan config moment range None now result) (WithinScan config moment range None) (λ at p. p.within) k
limit-by config old moment before now result (command.Join left right range) within h k = k.0
limit-by config old moment before now result c within h k = h.0

limit : {E : Type 0} (config : Config) (old : Machine) (moment : Moment) (before now : FlashState) (result : Result (Unit {0}) E) (c : Command) → moment.command ≡ c → AreWithin old.cursors → CountsReads before moment now c → ReadsAsStated config old moment now result c → LimitOf config old moment moment.command
limit config old moment before now result c is within h k = subst (λ x. LimitOf config old moment x) (sym is) (limit-by config old moment before now result c within h k)

limits-more : (config : Config) (old : Machine) (moments : List Moment) (moment : Moment) → RunLimits config old moments → LimitOf config (end_of old moments) moment moment.command → RunLimits config old (moments ++ moment ∷ [])
limits-more config old [] moment run reads = (reads, tt)
limits-more config old (m ∷ moments) moment run reads = (run.0, limits-more config m.after moments moment run.1 reads)

-- ---- the exact reads, and the flash's count

exact-by : (E : Type 0) (config : Config) (old : Machine) (moment : Moment) (now : FlashState) (c : Command) → now.work.reads < 2 ^ 64 - 1 → ReadsAsStated {E = E} config old moment now (Ok tt) c → ExactOf config old moment c
exact-by E config old moment now (command.Get name key) below k =
    on-table-weaker config old moment name (ReadsGet config moment key now) (GetExact config moment key) (λ at p. p.exact below) k
exact-by E config old moment now (command.Blob name key) below k = k.1 below
exact-by E config old moment now (command.Scan name range span) below k =
    on-table-weaker config old moment name (ReadsScan {E = E} config moment range span now (Ok tt)) (ScanExact moment range span) (λ at p. record { least = p.least below; failed = p.failed below }) k
exact-by E config old moment now (command.Next cursor count) below k = k.1 below
exact-by E config old moment now (command.Select name range column op value) below k =
    on-columns-weaker config old moment name (column ∷ []) (ReadsScan {E = E} config moment range None now (Ok tt)) (ScanExact moment range None) (λ at p. record { least = p.least below; failed = p.failed below }) k
exact-by E config old moment now (command.Project name range columns) below k =
    on-columns-weaker config old moment name columns (ReadsScan {E = E} config moment range None now (Ok tt)) (ScanExact moment range None) (λ at p. record { least = p.least below; failed = p.failed below }) k
exact-by E config old moment now (command.Agg name range column width) below k =
    on-columns-weaker config old moment name (column ∷ []) (ReadsScan {E = E} config moment range None now (Ok tt)) (ScanExact moment range None) (λ at p. record { least = p.least below; failed = p.failed below }) k
exact-by E config old moment now (command.Join left right range) below k = k.1 below
exact-by E config old moment now c below k = tt

counted-by : (before : FlashState) (moment : Moment) (now : FlashState) (c : Command) → CountsReads before moment now c → now.work.reads ≤ before.work.reads + moment.reads
counted-by before moment now command.Mount h = omega (arith, h)
counted-by before moment now (command.Get name key) h = omega (arith, h.flash)
counted-by before moment now (command.Blob name key) h = omega (arith, h.flash)
counted-by before moment now (command.Scan name range span) h = omega (arith, h.flash)
counted-by before moment now (command.Next cursor count) h = omega (arith, h.flash)
counted-by before moment now (command.Select name range column op value) h = omega (arith, h.flash)
counted-by before moment now (command.Project name range columns) h = omega (arith, h.flash)
counted-by before moment now (command.Agg name range column width) h = omega (arith, h.flash)
counted-by before moment now (command.Join left right range) h = omega (arith, h.flash)
counted-by before moment now c h = omega (arith, h.1)

reads-more : (moments : List Moment) (moment : Moment) → reads_in (moments ++ moment ∷ []) ≡ reads_in moments + moment.reads
reads-more [] moment = omega arith
reads-more (m ∷ moments) moment = omega (arith, reads-more moments moment)

exact-more : (config : Config) (old : Machine) (moments : List Moment) (moment : Moment) → RunExact config old moments → ExactOf config (end_of old moments) moment moment.command → RunExact config old (moments ++ moment ∷ [])
exact-more config old [] moment run exact = (exact, tt)
exact-more config old (m ∷ moments) moment run exact = (run.0, exact-more config m.after moments moment run.1 exact)

-- ---- no command reads many pages, and so the count doesn't reach its end

abbrev IsFew : Moment → Type 0
IsFew moment = moment.reads ≤ most_of_a_command

few-in : (moments : List Moment) → AllByRecursion IsFew moments → reads_in moments ≤ length moments * 2 ^ 19
few-in [] few = omega arith
few-in (m ∷ moments) few = omega (arith, few.0, few-in moments few.1)

counted-below : (moments : List Moment) (commands : List Command) (reads : ℕ) → commands_of moments ≡ commands → length commands < 2 ^ 44 + 2 ^ 10 → AllByRecursion IsFew moments → reads ≤ reads_in moments + 2 ^ 19 → reads < 2 ^ 64 - 1
counted-below moments commands reads are lines few counted =
    let as_many : length moments ≡ length commands = sym (length-map moments (λ (m : Moment). m.command)) ∙ ap length are in
    omega (arith, as_many, lines, few-in moments few, counted)

-- a run, and the flash counts no more reads than it made
abbrev pub RanSoFar : Config → Machine → List Command → (Machine → Type 0) → List ℕ → List ℕ → ℕ → ℕ → ℕ → Option (List ℕ) → Option (List ℕ) → Type 0
RanSoFar config old commands stands content content_now faults now reads told told_now =
    (ran : Ran config old commands stands content content_now faults now told told_now) × (reads ≤ reads_in ran.moments)

-- a run without a moment has no mount that could find anything
finds-none : (config : Config) (place : ℕ) (old : Machine) → FindsAt config place old []
finds-none config place old = by_plan (slice_get config.plans place)
  where
    by_log : (l : Bool) → MatchBool l (LoggedFinds place (logged_stop_at place old.tables) old []) (Finds place (stop_at place old.tables) old [])
    by_log true = tt
    by_log false = tt

    by_plan : (o : Option Plan) → IfSome o (λ plan. FindsOf plan place old [])
    by_plan None = tt
    by_plan (Some plan) = by_log (has_log plan)

-- .. and so none to which anything could be lost
keeps-none : (config : Config) (place : ℕ) (old : Machine) → KeepsPutsAt config place old []
keeps-none config place old = by_plan (slice_get config.plans place)
  where
    by_plan : (o : Option Plan) → IfSome o (λ plan. IsTrue (has_log plan) → KeepsPuts place (standing (sure_at place old.tables)) old [])
    by_plan None = tt
    by_plan (Some plan) = λ logged. tt

-- before any command
pub ran-none : (config : Config) (old : Machine) (stands : Machine → Type 0) (content : List ℕ) (faults : ℕ) (told : Option (List ℕ)) → stands old → Ran config old [] stands content content faults faults told told
ran-none config old stands content faults told h = record {
  moments = [];
  commands_are = refl;
  run = tt;
  stands_after = h;
  reads = record { limits = tt; few = tt; exact = tt };
  stays = refl;
  rose = inl (omega arith);
  found = λ place. finds-none config place old;
  kept = λ place. keeps-none config place old;
  told_all = appends-none told;
}

-- .. which a flash counts that was never read
pub none-counted : (config : Config) (old : Machine) (stands : Machine → Type 0) (content : List ℕ) (faults reads : ℕ) (told : Option (List ℕ)) → reads ≡ 0 → stands old → RanSoFar config old [] stands content content faults faults reads told told
none-counted config old stands content faults reads told unread h = (ran-none config old stands content faults told h, omega (arith, unread))

-- the next command keeps its limit, which is never a great one
next-limit : {E : Type 0} (config : Config) (old : Machine) (moments : List Moment) (command : Command) (stands : Machine → Type 0) (mid now : FlashState) (result : Result (Unit {0}) E) (moment : Moment) →
    IsReady config old → Run config old moments → stands (end_of old moments) → ((m : Machine) → stands m → AreTables config.plans m.tables) → moment.command ≡ command →
    CountsReads mid moment now command → ReadsAsStated config (end_of old moments) moment now result command → LimitOf config (end_of old moments) moment moment.command × (moment.reads ≤ most_of_a_command)
next-limit config old moments command stands mid now result moment ready run here hold is reads stated =
    let within = limit config (end_of old moments) moment mid now result command is (run-within config old moments ready.cursors run) reads stated in
    (within, limit-few config (end_of old moments) moment ready.small ready.room (hold (end_of old moments) here) moment.command within)

-- the commands before, and one more, which the flash can count
pub ran-further : {E : Type 0} (config : Config) (old : Machine) (commands : List Command) (command : Command) (stands stands_now : Machine → Type 0) (content : List ℕ) (faults : ℕ) (mid now : FlashState) (told told_mid told_now : Option (List ℕ)) →
    IsReady config old → ((m : Machine) → stands m → AreTables config.plans m.tables) →
    (h : Ran config old commands stands content mid.media.content faults mid.media.faults told told_mid) → mid.work.reads + most_of_a_command < 2 ^ 64 - 1 → mid.media.faults ≤ now.media.faults →
    (executes : (m : Machine) → stands m → Executes {E = E} config m command stands_now mid now told_mid told_now (Ok tt)) →
    (ran : Ran config old (commands ++ command ∷ []) stands_now content now.media.content faults now.media.faults told told_now)
    × (now.work.reads ≤ mid.work.reads + (executes (end_of old h.moments) h.stands_after).moment.reads) × ((executes (end_of old h.moments) h.stands_after).moment.reads ≤ most_of_a_command)
ran-further {E} config old commands command stands stands_now content faults mid now told told_mid told_now ready hold h room later executes =
    let e = executes (end_of old h.moments) h.stands_after in
    let run = run-more config old h.moments e.moment h.run e.step in
    let more = counted-by mid e.moment now command e.reads in
    let limited = next-limit config old h.moments command stands mid now (Ok tt) e.moment ready h.run h.stands_after hold e.command_is e.reads e.stated in
    let below : now.work.reads < 2 ^ 64 - 1 = omega (arith, room, more, limited.1) in (
      record {
        moments = h.moments ++ e.moment ∷ [];
        commands_are = map-append (λ (m : Moment). m.command) h.moments (e.moment ∷ []) ∙ (ap (λ cs. cs ++ e.moment.command ∷ []) h.commands_are ∙ ap (λ c. commands ++ c ∷ []) e.command_is);
        run = run;
        stands_after = subst stands_now (e.same ∙ sym (end_of-more old h.moments e.moment)) e.stands_after;
        reads = record {
          limits = limits-more config old h.moments e.moment h.reads.limits limited.0;
          few = each-push IsFew h.moments e.moment h.reads.few limited.1;
          exact = exact-more config old h.moments e.moment h.reads.exact
              (subst (λ x. ExactOf config (end_of old h.moments) e.moment x) (sym e.command_is) (exact-by E config (end_of old h.moments) e.moment now command below e.stated));
        };
        stays = stays-more config old h.moments e.moment content mid.media.content now.media.content h.stays e.stays;
        rose = rw risen-more (rose-more (risen_in h.moments) faults mid.media.faults now.media.faults e.moment.rose h.rose later e.rose);
        found = λ place. finds config old (h.moments ++ e.moment ∷ []) place ready.room ready.off ready.rest (ready.logs place) run;
        kept = λ place. keeps-puts config old (h.moments ++ e.moment ∷ []) place ready.room ready.off ready.rest (ready.logs place) run;
        told_all = rw written-more (appends-append told told_mid told_now (written_by h.moments) (texts e.moment.replies) h.told_all e.told_all);
      },
      more,
      limited.1,
    )

-- .. of which the last moment is that of the command
pub ran-further_moments : {E : Type 0} (config : Config) (old : Machine) (commands : List Command) (command : Command) (stands stands_now : Machine → Type 0) (content : List ℕ) (faults : ℕ) (mid now : FlashState) (told told_mid told_now : Option (List ℕ)) →
    (ready : IsReady config old) → (hold : (m : Machine) → stands m → AreTables config.plans m.tables) →
    (h : Ran config old commands stands content mid.media.content faults mid.media.faults told told_mid) → (room : mid.work.reads + most_of_a_command < 2 ^ 64 - 1) → (later : mid.media.faults ≤ now.media.faults) →
    (executes : (m : Machine) → stands m → Executes {E = E} config m command stands_now mid now told_mid told_now (Ok tt)) →
    (ran-further config old commands command stands stands_now content faults mid now told told_mid told_now ready hold h room later executes).0.moments ≡ h.moments ++ (executes (end_of old h.moments) h.stands_after).moment ∷ []
unfolding ran-further
ran-further_moments config old commands command stands stands_now content faults mid now told told_mid told_now ready hold h room later executes = refl

-- the commands before, and one more
pub ran-more : {E : Type 0} (config : Config) (old : Machine) (commands : List Command) (command : Command) (stands stands_now : Machine → Type 0) (content : List ℕ) (faults : ℕ) (mid now : FlashState) (told told_mid told_now : Option (List ℕ)) →
    IsReady config old → length commands < 2 ^ 44 + 2 ^ 10 → ((m : Machine) → stands m → AreTables config.plans m.tables) →
    RanSoFar config old commands stands content mid.media.content faults mid.media.faults mid.work.reads told told_mid → mid.media.faults ≤ now.media.faults →
    ((m : Machine) → stands m → Executes {E = E} config m command stands_now mid now told_mid told_now (Ok tt)) →
    RanSoFar config old (commands ++ command ∷ []) stands_now content now.media.content faults now.media.faults now.work.reads told told_now
ran-more {E} config old commands command stands stands_now content faults mid now told told_mid told_now ready lines hold (h, counted) later executes =
    let e = executes (end_of old h.moments) h.stands_after in
    let room : mid.work.reads + most_of_a_command < 2 ^ 64 - 1 = counted-below h.moments commands (mid.work.reads + most_of_a_command) h.commands_are lines h.reads.few (omega (arith, counted)) in
    let further = ran-further {E = E} config old commands command stands stands_now content faults mid now told told_mid told_now ready hold h room later executes in
    let which : further.0.moments ≡ h.moments ++ e.moment ∷ [] = ran-further_moments {E = E} config old commands command stands stands_now content faults mid now told told_mid told_now ready hold h room later executes in
    (further.0, omega (arith, ap reads_in which, reads-more h.moments e.moment, counted, further.1))

-- .. and into the reply of one more
pub ran-into : {E : Type 0} (config : Config) (old : Machine) (commands : List Command) (command : Command) (stands stands_now : Machine → Type 0) (content : List ℕ) (faults : ℕ) (mid now : FlashState) (told told_mid told_now : Option (List ℕ)) (error : E) →
    IsReady config old → ((m : Machine) → stands m → AreTables config.plans m.tables) →
    RanSoFar config old commands stands content mid.media.content faults mid.media.faults mid.work.reads told told_mid → mid.media.faults ≤ now.media.faults →
    ((m : Machine) → stands m → Executes {E = E} config m command stands_now mid now told_mid told_now (Err error)) →
    (ran : RanInto config old (commands ++ command ∷ []) (StandsAlike stands_now) content now.media.content faults now.media.faults told told_now) × (now.work.reads ≤ reads_in ran.moments)
ran-into config old commands command stands stands_now content faults mid now told told_mid told_now error ready hold (h, counted) later executes =
    let e = executes (end_of old h.moments) h.stands_after in
    let run = run-more config old h.moments e.moment h.run e.step in
    let limited = next-limit config old h.moments command stands mid now (Err error) e.moment ready h.run h.stands_after hold e.command_is e.reads e.stated in (
      record {
        moments = h.moments ++ e.moment ∷ [];
        commands_are = map-append (λ (m : Moment). m.command) h.moments (e.moment ∷ []) ∙ (ap (λ cs. cs ++ e.moment.command ∷ []) h.commands_are ∙ ap (λ c. commands ++ c ∷ []) e.command_is);
        run = run;
        stands_after = (e.after, e.stands_after, subst (λ m. IsAlike m e.after) (sym (end_of-more old h.moments e.moment)) e.alike);
        limits = limits-more config old h.moments e.moment h.reads.limits limited.0;
        few = each-push IsFew h.moments e.moment h.reads.few limited.1;
        stays = stays-more config old h.moments e.moment content mid.media.content now.media.content h.stays e.stays;
        rose = rw risen-more (rose-more (risen_in h.moments) faults mid.media.faults now.media.faults e.moment.rose h.rose later e.rose);
        found = λ place. finds config old (h.moments ++ e.moment ∷ []) place ready.room ready.off ready.rest (ready.logs place) run;
        kept = λ place. keeps-puts config old (h.moments ++ e.moment ∷ []) place ready.room ready.off ready.rest (ready.logs place) run;
        before = h.moments;
        last = e.moment;
        split = refl;
        exact = h.reads.exact;
        front = e.told_front.0;
        is_front = e.told_front.1;
        told_front = appends-append told told_mid told_now (written_by h.moments) e.told_front.0 h.told_all e.told_front.2;
      },
      omega (arith, reads-more h.moments e.moment, counted, counted-by mid e.moment now command e.reads),
    )

-- the same run, seen through another relation to the state after it
pub ran-seen : (config : Config) (old : Machine) (commands : List Command) (stands stands_now : Machine → Type 0) (content content_now : List ℕ) (faults now reads reads_now : ℕ) (told told_now : Option (List ℕ)) →
    ((m : Machine) → stands m → stands_now m) → RanReading config old commands stands content content_now faults now reads reads_now told told_now → RanReading config old commands stands_now content content_now faults now reads reads_now told told_now
ran-seen config old commands stands stands_now content content_now faults now reads reads_now told told_now f (h, within) = (
  record {
    moments = h.moments;
    commands_are = h.commands_are;
    run = h.run;
    stands_after = f (end_of old h.moments) h.stands_after;
    reads = h.reads;
    stays = h.stays;
    rose = h.rose;
    found = h.found;
    kept = h.kept;
    told_all = h.told_all;
  },
  within,
)

pub ran_into-seen : (config : Config) (old : Machine) (commands : List Command) (stands stands_now : Machine → Type 0) (content content_now : List ℕ) (faults now reads reads_now : ℕ) (told told_now : Option (List ℕ)) →
    ((m : Machine) → stands m → stands_now m) → RanIntoReading config old commands stands content content_now faults now reads reads_now told told_now → RanIntoReading config old commands stands_now content content_now faults now reads reads_now told told_now
ran_into-seen config old commands stands stands_now content content_now faults now reads reads_now told told_now f (h, within) = (
  record {
    moments = h.moments;
    commands_are = h.commands_are;
    run = h.run;
    stands_after = f (end_of old h.moments) h.stands_after;
    limits = h.limits;
    few = h.few;
    stays = h.stays;
    rose = h.rose;
    found = h.found;
    kept = h.kept;
    before = h.before;
    last = h.last;
    split = h.split;
    exact = h.exact;
    front = h.front;
    is_front = h.is_front;
    told_front = h.told_front;
  },
  within,
)
