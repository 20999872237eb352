-- Commands that leave a table with a log, or fail on it, keep what is known of it.
use Rattle.std.proofs.Common.{◌≡◌, ◌≢◌, ℕ, ◌+◌, Bool, true, cond, Option, Some, None, List, map, refl, sym, ◌∙◌, ap, subst, zero-add}
use Rattle.std.specs.List.{slice_get}
use Rattle.std.specs.Option.{option_map, unwrap_or}
use Rattle.std.proofs.lemmas.Option.{slice_get-map}
use Rattle.std.proofs.lemmas.Bool.{false≢true, true≢false}
use Rattle.fl_model.specs.Table.{Table, lose}
use Rattle.fl_model.specs.Work.{Progress}
use Rattle.fl_words.specs.Command as command
use Rattle.fl_words.specs.Command.{Command}
use Rattle.fl_words.specs.Reply.{Reply}
use Rattle.fl_machine.specs.Machine.{Machine}
use Rattle.fl_machine.specs.Step.{Moment, Stops}
use Rattle.fl_machine.specs.Found.{trimmed, ring_at, LoggedPast, nothing_held, past_of, logged_stop_at, logged_passing, logged_past_on}
use Rattle.fl_machine.specs.Keeping.{unsure, sure_at, tables_of}
use Rattle.fl_machine.proofs.Logs.{core, RestsAs}
use Rattle.fl_machine.proofs.RecordsChange.{GoesFrom, Any}
use Rattle.fl_machine.proofs.LogOperations as sealing
use Rattle.fl_machine.proofs.LogOperations.{trimmed_in}
use Rattle.fl_machine.proofs.LogTables.{between-kept}
use Rattle.fl_machine.proofs.LogMoves.{HaltsAt}
use Rattle.fl_machine.proofs.LoggedStates.{Stands, Rests, IsLogKept, rows_at, LogKeeps, LogKeepsAll, trimmed-there, rows-there, tables-none, same-session, stands-any, pass-same}

pub log-pass : (p : ℕ) (past : LoggedPast) (old : Machine) (moment : Moment) (c : Command) → c ≢ command.Mount → logged_past_on p past old moment None c ≡ logged_passing p past old.tables moment.after.tables →
    moment.last ≡ None → moment.after.tables ≡ old.tables → moment.after.mounted ≡ old.mounted → IsLogKept p past old → LogKeepsAll p past old moment c
log-pass p past old moment c other is last same mounted kept =
    subst (λ (l : Option (List Table)). LogKeeps p past (logged_past_on p past old moment l c) old moment c) (sym last)
    (subst (λ (q : LoggedPast). LogKeeps p past q old moment c) (sym is) (record {
      kept = record {
        session = λ m. subst (λ (list : List Table). Stands Any p list) (sym same) (kept.session (sym mounted ∙ m));
        resting = λ m. subst (λ (list : List Table). Rests p (logged_passing p past old.tables list) list) (sym same)
            (let r = kept.resting (sym mounted ∙ m) in record { table = r.table; is = r.is; rests = pass-same p past old.tables r.table r.is r.rests });
      };
      session = same-session p _ old moment last same mounted;
      passes = λ off. refl;
      finds = λ e r. absurd (other e);
    }))

-- a command within a session
pub log-working : (p : ℕ) (past : LoggedPast) (old : Machine) (moment : Moment) (c : Command) (new : List Table) → c ≢ command.Mount → moment.last ≡ None → moment.after.tables ≡ new → old.mounted ≡ true →
    moment.after.mounted ≡ true → Stands (GoesFrom (rows_at p old.tables)) p new → LogKeepsAll p past old moment c
log-working p past old moment c new other last same was mounted stands = record {
  kept = record {
    session = λ m. subst (λ (list : List Table). Stands Any p list) (sym same) (stands-any (GoesFrom (rows_at p old.tables)) p new stands);
    resting = λ m. absurd (true≢false (sym mounted ∙ m));
  };
  session = λ m. record {
    goes = subst (λ (list : List Table). GoesFrom (rows_at p old.tables) (rows_at p list)) (sym (tables-none moment last ∙ same))
        (subst (GoesFrom (rows_at p old.tables)) (sym (rows-there p new stands.table stands.is)) (between-kept stands.table stands.between));
    last = λ e. last;
    stops = λ off. absurd (true≢false (sym mounted ∙ off));
  };
  passes = λ off. absurd (true≢false (sym was ∙ off));
  finds = λ e r. absurd (other e);
}

-- an operation of a session failed
pub log-stopped : (p : ℕ) (past : LoggedPast) (old : Machine) (moment : Moment) (c : Command) (end : Progress) (last : List Table) (replies : List Reply) → c ≢ command.Mount → old.mounted ≡ true →
    HaltsAt p (sealing.Stops (GoesFrom (rows_at p old.tables))) last end.tables → Stops old moment end last replies → LogKeepsAll p past old moment c
log-stopped p past old moment c end last replies other mounted halts stops =
    let same : moment.after.tables ≡ map lose end.tables = ap (λ (m : Machine). m.tables) stops.after_is in
    let now : tables_of moment ≡ last = ap (λ (o : Option (List Table)). unwrap_or o moment.after.tables) stops.last_is in
    let is : logged_past_on p past old moment (Some last) c ≡ logged_passing p (logged_stop_at p last) last moment.after.tables =
    ap (λ (b : Bool). cond b (logged_passing p (logged_stop_at p last) last moment.after.tables) (logged_passing p past old.tables moment.after.tables)) mounted in
    let there : slice_get (map lose end.tables) p ≡ Some (lose halts.after) = slice_get-map lose end.tables p ∙ ap (option_map lose) halts.after_is in
    let begins : logged_stop_at p last ≡ past_of halts.before = ap (λ (o : Option Table). unwrap_or (option_map past_of o) nothing_held) halts.before_is in
    let trims = trimmed-there p last (map lose end.tables) halts.before (lose halts.after) halts.before_is there in
    let passed : record (past_of halts.before) { given_up = 0 + trimmed_in (core halts.before) (core (lose halts.after)) } ≡ logged_passing p (logged_stop_at p last) last (map lose end.tables) =
    ap (λ (g : ℕ). record (past_of halts.before) { given_up = 0 + g }) (sym trims) ∙ ap (λ (q : LoggedPast). record q { given_up = q.given_up + trimmed (ring_at p last) (ring_at p (map lose end.tables)) }) (sym begins) in
    let rests : RestsAs (logged_passing p (logged_stop_at p last) last (map lose end.tables)) (core (lose halts.after)) = subst (λ (q : LoggedPast). RestsAs q (core (lose halts.after))) passed halts.stops.0 in
    subst (λ (l : Option (List Table)). LogKeeps p past (logged_past_on p past old moment l c) old moment c) (sym stops.last_is)
    (subst (λ (q : LoggedPast). LogKeeps p past q old moment c) (sym is) (record {
      kept = record {
        session = λ m. absurd (false≢true (sym (ap (λ (m : Machine). m.mounted) stops.after_is) ∙ m));
        resting = λ m. subst (λ (list : List Table). Rests p (logged_passing p (logged_stop_at p last) last list) list) (sym same) (record { table = lose halts.after; is = there; rests = rests });
      };
      session = λ m. record {
        goes = subst (λ (list : List Table). GoesFrom (rows_at p old.tables) (rows_at p list)) (sym now) (subst (GoesFrom (rows_at p old.tables)) (sym (rows-there p last halts.before halts.before_is)) halts.stops.1);
        last = λ on. absurd (false≢true (sym (ap (λ (m : Machine). m.mounted) stops.after_is) ∙ on));
        stops = λ off. record {
          sure = ap (sure_at p) now;
          unsure = ap (λ (list : List Table). unsure (logged_stop_at p list)) now;
          pending = ap (λ (list : List Table). (logged_stop_at p list).pending) now;
          given_up =
              ap (λ (q : LoggedPast). q.given_up + trimmed (ring_at p last) (ring_at p moment.after.tables)) begins
              ∙ (zero-add (trimmed (ring_at p last) (ring_at p moment.after.tables)) ∙ ap (λ (list : List Table). trimmed (ring_at p list) (ring_at p moment.after.tables)) (sym now));
        };
      };
      passes = λ off. absurd (true≢false (sym mounted ∙ off));
      finds = λ e r. absurd (other e);
    }))
