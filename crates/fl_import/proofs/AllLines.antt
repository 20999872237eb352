-- The lines of an import, one after another.
use Rattle.std.proofs.Common.{◌≡◌, ℕ, ◌+◌, ◌<◌, ◌≤◌, Bool, true, false, Option, Result, Ok, Err, List, [], ◌∷◌, ◌++◌, length, drop, refl, sym, ◌∙◌, ap, subst, append-nil, length-append, arith, if◌then◌else◌}
use Rattle.fl_base.specs.Causes.{Appends, AppendsFront}
use Rattle.fl_base.proofs.Appended.{appends-append, appends-none}
use Rattle.fl_csv.specs.declared.record.GoneBlobs.{GoneBlobs}
use Rattle.fl_csv.specs.declared.record.LineForm.{LineForm}
use Rattle.fl_csv.specs.declared.record.CsvRefusal.{CsvRefusal}
use Rattle.fl_flash.specs.Flash.{FlashState}
use Rattle.fl_import.specs.Taken.{none_taken}
use Rattle.fl_import.specs.declared.job_end.LinesTaken.{LinesTaken}
use Rattle.fl_image.specs.declared.status.ToolStatus.{ToolStatus}
use Rattle.fl_image.specs.declared.status.ToolStatus.TheVariants.{Done, InputRead, OutWrite, InputLong, NoMemory, Device, BadInput}
use Rattle.fl_lines.specs.Stream.{LinesState, Advances}
use Rattle.fl_lines.specs.Taken.{TakesFew}
use Rattle.fl_model.specs.Record.{Record, Plan, has_var}
use Rattle.fl_model.specs.Table as model
use Rattle.fl_rlc.specs.declared.table.LoggedTable.{LoggedTable}
use Rattle.fl_import.specs.Ends.{Reports, puts_of, table_after, told_of_lines}
use Rattle.fl_import.specs.Counting.{after_end, counts_of, end_of, gone_count, put_end}
use Rattle.fl_import.specs.Lines.{lacks, meaning, Takes}
use Rattle.fl_import.specs.Puts.{is_put, after_put, after_puts, put_count}
use Rattle.fl_import.specs.Report.{told_line, told_lines}
use Rattle.fl_import.specs.Reading.{Stops, TakesUntil}
use Rattle.fl_import.specs.Steps.{AllEnds, LineEnds, LinesEnd, IsFormOf, IsOfLine}
use Rattle.fl_store.specs.Works.{Works}
use Rattle.fl_import.specs.Taking.{Ended, IsOfNames, NextOf, NextLine, TakesSoFar, TakesThese}
use Rattle.fl_import.specs.declared.line_end.LineEnd.{LineEnd}
use Rattle.fl_import.specs.declared.line_end.LineEnd.TheVariants.{Refused}
use Rattle.fl_import.proofs.NextPut.{after-more, told-more, count-more, gone-more, means-behind, means-length}
use Rattle.fl_import.proofs.Taken.{Shows, taken-next, shows-next, stops-done, stops-next}

pub as-plan : (P : ℕ → Bool → Type 0) (form : LineForm) (plan : Plan) → IsFormOf form plan → P form.columns form.blobs → P (length plan.columns) (has_var plan)
as-plan P form plan is h = subst (λ b. P (length plan.columns) b) is.blobs (subst (λ n. P n form.blobs) is.columns h)

-- the lines that were taken were put and told
pub record PutSoFar (gone : GoneBlobs) (counts : LinesTaken) (first : ℕ) (plan : Plan) (table : model.Table) (taken : List (List ℕ)) (u : LoggedTable 64 64) (g : FlashState) (told told_now : Option (List ℕ)) : Type 0 where
  pub works : Works u g first plan (table_after gone plan table taken)
  pub reports : Appends told told_now (told_of_lines gone plan table taken)
  pub counted : counts ≡ counts_of gone plan table taken

pub record SoFar (gone : GoneBlobs) (counts : LinesTaken) (form : LineForm) (text : List ℕ) (t : LoggedTable 64 64) (f : FlashState) (u : LoggedTable 64 64) (g : FlashState) (told told_now : Option (List ℕ)) (state : LinesState) (left : Option (List ℕ)) : Type 0 where
  pub taken : List (List ℕ)
  pub some : 1 ≤ length taken
  pub number : length taken ≡ counts.line
  pub takes : TakesSoFar form.columns form.blobs text taken state left
  pub puts : (first : ℕ) (plan : Plan) (table : model.Table) → IsFormOf form plan → Works t f first plan table → PutSoFar gone counts first plan table taken u g told told_now

pub so_far-first : (gone : GoneBlobs) (form : LineForm) (text names : List ℕ) (t : LoggedTable 64 64) (f : FlashState) (told : Option (List ℕ)) (state : LinesState) (left : Option (List ℕ)) → TakesSoFar form.columns form.blobs text (names ∷ []) state left →
    SoFar gone (record { line = 1; rows = 0; gone = 0 }) form text t f t f told told state left
so_far-first gone form text names t f told state left takes = record {
  taken = names ∷ [];
  some = omega arith;
  number = refl;
  takes = takes;
  puts = λ first plan table is works. record { works = works; reports = appends-none told; counted = refl };
}

-- no more lines are taken than these, and nothing more is told
lines-end : (gone : GoneBlobs) (counts : LinesTaken) (form : LineForm) (text : List ℕ) (taken : List (List ℕ)) (u : LoggedTable 64 64) (g : FlashState) (told told_now rest : Option (List ℕ)) (status : ToolStatus) → TakesThese form.columns form.blobs text taken rest status →
    (first : ℕ) (plan : Plan) (table : model.Table) → IsFormOf form plan → PutSoFar gone counts first plan table taken u g told told_now →
    ((left : List (List ℕ)) → Reports gone plan table taken status left told told_now ≡ Appends told told_now (told_of_lines gone plan table taken)) → LinesEnd gone counts first plan table text u g told told_now rest status
lines-end gone counts form text taken u g told told_now rest status these first plan table is puts same = record {
  puts = record {
    taken = taken;
    left = these.left;
    takes = as-plan (λ n b. Takes n b text taken these.left) form plan is these.takes;
    few = these.few;
    stops = as-plan (λ n b. Stops n b text taken these.left rest status) form plan is these.stops;
    reports = subst (λ (P : Type 0). P) (sym (same these.left)) puts.reports;
    counted = puts.counted;
  };
  works = puts.works;
}

-- ---- one more line

abbrev counts_at : ℕ → ℕ → ℕ → LinesTaken
counts_at line rows lost = record { line = line; rows = rows; gone = lost }

-- each record that is put is that of a line, and each that lacks its blob is one that is put
pub counts-on : (counts : LinesTaken) (end : LineEnd) (now : LinesTaken) → now ≡ after_end counts end → counts.rows < counts.line → counts.gone ≤ counts.rows →
    (now.line ≡ counts.line + 1) × (now.rows < now.line) × (now.gone ≤ now.rows)
counts-on counts Refused now is rows gone = rw is (refl, omega (arith, rows), gone)
counts-on counts end now is rows gone = rw is (refl, omega (arith, rows), omega (arith, gone))

behind-first : (taken : List (List ℕ)) (line : List ℕ) → 1 ≤ length taken → drop 1 (taken ++ line ∷ []) ≡ drop 1 taken ++ line ∷ []
behind-first [] line some = absurd (omega (arith, some))
behind-first (first ∷ taken) line some = refl

module _ (gone : GoneBlobs) (counts : LinesTaken) (first : ℕ) (plan : Plan) (table : model.Table) (taken : List (List ℕ)) (form : LineForm) (is : IsFormOf form plan) (u v : LoggedTable 64 64) (g h : FlashState) (told told_mid told_now : Option (List ℕ)) (number : ℕ) (line : List ℕ)
    (some : 1 ≤ length taken) (number_is : number ≡ length taken + 1) (puts : PutSoFar gone counts first plan table taken u g told told_mid) where
  abbrev put : Result Record CsvRefusal
  put = meaning gone (length plan.columns) (has_var plan) line

  meant : meaning gone form.columns form.blobs line ≡ put
  meant = ap (λ n. meaning gone n form.blobs line) is.columns ∙ ap (λ b. meaning gone (length plan.columns) b line) is.blobs

  abbrev lacking : Bool
  lacking = lacks gone (length plan.columns) (has_var plan) line

  lacked : lacks gone form.columns form.blobs line ≡ lacking
  lacked = ap (λ n. lacks gone n form.blobs line) is.columns ∙ ap (λ b. lacks gone (length plan.columns) b line) is.blobs

  more : puts_of gone plan (taken ++ line ∷ []) ≡ puts_of gone plan taken ++ put ∷ []
  more = means-behind gone (length plan.columns) (has_var plan) taken line some

  table-more : table_after gone plan table (taken ++ line ∷ []) ≡ after_put plan (table_after gone plan table taken) put
  table-more = ap (after_puts plan table) more ∙ after-more plan put table (puts_of gone plan taken)

  told-so : told_of_lines gone plan table (taken ++ line ∷ []) ≡ told_of_lines gone plan table taken ++ told_line plan number (table_after gone plan table taken) put
  told-so =
      let n : 2 + length (puts_of gone plan taken) ≡ number = omega (arith, number_is, means-length gone (length plan.columns) (has_var plan) taken some) in
      ap (told_lines plan 2 table) more ∙ (told-more plan put 2 table (puts_of gone plan taken) ∙ ap (λ k. told_of_lines gone plan table taken ++ told_line plan k (table_after gone plan table taken) put) n)

  abbrev pub LineSo : Result LineEnd ToolStatus → Type 0
  LineSo result = LineEnds lacking first plan (table_after gone plan table taken) number put v h told_mid told_now result

  pub line-so : (result : Result LineEnd ToolStatus) → LineEnds (lacks gone form.columns form.blobs line) first plan (table_after gone plan table taken) number (meaning gone form.columns form.blobs line) v h told_mid told_now result → LineSo result
  line-so result ends =
      subst (λ b. LineEnds b first plan (table_after gone plan table taken) number put v h told_mid told_now result) lacked
      (subst (λ p. LineEnds (lacks gone form.columns form.blobs line) first plan (table_after gone plan table taken) number p v h told_mid told_now result) meant ends)

  abbrev passes : Bool
  passes = is_put plan (table_after gone plan table taken) put

  rows-more : put_count plan table (puts_of gone plan (taken ++ line ∷ [])) ≡ put_count plan table (puts_of gone plan taken) + (if passes then 1 else 0)
  rows-more = ap (put_count plan table) more ∙ count-more plan put table (puts_of gone plan taken)

  gone-so : gone_count gone plan table (drop 1 (taken ++ line ∷ [])) ≡ gone_count gone plan table (drop 1 taken) + (if passes then (if lacking then 1 else 0) else 0)
  gone-so = ap (gone_count gone plan table) (behind-first taken line some) ∙ gone-more gone plan line table (drop 1 taken)

  -- the counts, by whether it was put, and whether its blob was left out
  counts-more : (p l : Bool) (rows lost : ℕ) → rows ≡ put_count plan table (puts_of gone plan taken) + (if p then 1 else 0) → lost ≡ gone_count gone plan table (drop 1 taken) + (if p then (if l then 1 else 0) else 0)
      → after_end (counts_of gone plan table taken) (if p then put_end l else Refused) ≡ counts_at (length taken + 1) rows lost
  counts-more true true rows lost e k = rw (e, k) refl
  counts-more true false rows lost e k = let same : lost ≡ gone_count gone plan table (drop 1 taken) = omega (arith, k) in rw (e, same) refl
  counts-more false l rows lost e k =
      let one : rows ≡ put_count plan table (puts_of gone plan taken) = omega (arith, e) in
      let other : lost ≡ gone_count gone plan table (drop 1 taken) = omega (arith, k) in
      rw (one, other) refl

  counted-more : after_end (counts_of gone plan table taken) (end_of plan (table_after gone plan table taken) put lacking) ≡ counts_of gone plan table (taken ++ line ∷ [])
  counted-more =
      let len : length taken + 1 ≡ length (taken ++ line ∷ []) = sym (length-append taken (line ∷ [])) in
      counts-more passes lacking (put_count plan table (puts_of gone plan (taken ++ line ∷ []))) (gone_count gone plan table (drop 1 (taken ++ line ∷ []))) rows-more gone-so
      ∙ ap (λ (n : ℕ). counts_at n (put_count plan table (puts_of gone plan (taken ++ line ∷ []))) (gone_count gone plan table (drop 1 (taken ++ line ∷ [])))) len

  pub put-more : (end : LineEnd) → LineSo (Ok end) → PutSoFar gone (after_end counts end) first plan table (taken ++ line ∷ []) v h told told_now
  put-more end ends = record {
    works = subst (λ x. Works v h first plan x) (sym table-more) ends.1;
    reports = subst (λ l. Appends told told_now l) (sym told-so) (appends-append told told_mid told_now (told_of_lines gone plan table taken) (told_line plan number (table_after gone plan table taken) put) puts.reports ends.2);
    counted = ap (λ c. after_end c end) puts.counted ∙ (ap (after_end (counts_of gone plan table taken)) ends.0 ∙ counted-more);
  }

  -- it isn't passed
  pub line-stops : (text : List ℕ) (rest : Option (List ℕ)) (others : List (List ℕ)) → Takes (length plan.columns) (has_var plan) text taken (line ∷ others) → TakesFew text taken rest → (status : ToolStatus) → LineSo (Err status) →
      AllEnds gone counts first plan table text v h told told_now rest (Err status)
  line-stops text rest others takes few OutWrite ends = record {
    puts = record {
      taken = taken;
      left = line ∷ others;
      takes = takes;
      few = few;
      stops = (some, omega arith);
      reports =
          let n : number ≡ length taken + 1 = number_is in
          let front = subst (λ k. AppendsFront told_mid told_now (told_line plan k (table_after gone plan table taken) put)) n ends.1 in
          (front.0, front.1, appends-append told told_mid told_now (told_of_lines gone plan table taken) front.0 puts.reports front.2);
      counted = puts.counted;
    };
    works = ends.0;
  }
  line-stops text rest others takes few NoMemory ends = record {
    puts = record {
      taken = taken;
      left = line ∷ others;
      takes = takes;
      few = few;
      stops = omega arith;
      counted = puts.counted;
      reports = subst (λ l. Appends told told_now l) (append-nil (told_of_lines gone plan table taken)) (appends-append told told_mid told_now (told_of_lines gone plan table taken) [] puts.reports ends.1);
    };
    works = ends.0;
  }
  line-stops text rest others takes few Device ends = record {
    after = ends.1.3.0;
    fails = record {
      taken = taken;
      line = line;
      left = others;
      takes = takes;
      few = few;
      some = some;
      item = ends.1.0;
      means = ends.1.1;
      accepted = ends.1.2;
      fails = ends.1.3.1;
      counted = puts.counted;
      reports = subst (λ l. Appends told told_now l) (append-nil (told_of_lines gone plan table taken)) (appends-append told told_mid told_now (told_of_lines gone plan table taken) [] puts.reports ends.0);
    };
    rests = ends.1.3.2;
  }
  line-stops text rest others takes few status ends = absurd ends

-- ---- the lines after some

module _ (gone : GoneBlobs) (counts : LinesTaken) (form : LineForm) (text : List ℕ) (t : LoggedTable 64 64) (f : FlashState) (u : LoggedTable 64 64) (g : FlashState) (told told_mid : Option (List ℕ)) (old new : LinesState) (left left_now : Option (List ℕ)) (faults faults_now : ℕ)
    (far : SoFar gone counts form text t f u g told told_mid old left) where
  number-is : counts.line + 1 ≡ length far.taken + 1
  number-is = omega (arith, far.number)

  not-none : {P : Type 0} → far.taken ≡ [] → P
  not-none e = absurd (omega (arith, far.some, ap length e))

  -- a line was given, and put or refused
  pub far-next : (v : LoggedTable 64 64) (h : FlashState) (told_now : Option (List ℕ)) (end : LineEnd) (now : LinesTaken) → NextLine old left faults (counts.line + 1) (Ok true) new left_now faults_now →
      now ≡ after_end counts end → now.line ≡ counts.line + 1 →
      ((first : ℕ) (plan : Plan) (table : model.Table) → IsFormOf form plan → Works u g first plan table →
      LineEnds (lacks gone form.columns form.blobs new.line) first plan table (counts.line + 1) (meaning gone form.columns form.blobs new.line) v h told_mid told_now (Ok end)) → SoFar gone now form text t f v h told told_now new left_now
  far-next v h told_now end now next now_is line_is ends = record {
    taken = far.taken ++ new.line ∷ [];
    some = omega (arith, length-append far.taken (new.line ∷ []));
    number = omega (arith, length-append far.taken (new.line ∷ []), far.number, line_is);
    takes = taken-next form.columns form.blobs text far.taken old new left left_now faults faults_now far.takes
        (subst (λ r. Advances old left faults r new left_now faults_now) next.next.0 next.advances) (next.next.1 refl) (λ e. not-none e);
    puts = λ first plan table is works.
        let p = far.puts first plan table is works in
        subst (λ c. PutSoFar gone c first plan table (far.taken ++ new.line ∷ []) v h told told_now) (sym now_is)
        (put-more gone counts first plan table far.taken form is u v g h told told_mid told_now (counts.line + 1) new.line far.some number-is p end
        (line-so gone counts first plan table far.taken form is u v g h told told_mid told_now (counts.line + 1) new.line far.some number-is p (Ok end) (ends first plan (table_after gone plan table far.taken) is p.works)));
  }

  -- .. or it isn't passed
  pub far-stops : (v : LoggedTable 64 64) (h : FlashState) (told_now : Option (List ℕ)) (status : ToolStatus) → NextLine old left faults (counts.line + 1) (Ok true) new left_now faults_now →
      ((first : ℕ) (plan : Plan) (table : model.Table) → IsFormOf form plan → Works u g first plan table →
      LineEnds (lacks gone form.columns form.blobs new.line) first plan table (counts.line + 1) (meaning gone form.columns form.blobs new.line) v h told_mid told_now (Err status)) →
      (first : ℕ) (plan : Plan) (table : model.Table) → IsFormOf form plan → Works t f first plan table → AllEnds gone counts first plan table text v h told told_now left_now (Err status)
  far-stops v h told_now status next ends first plan table is works =
      let p = far.puts first plan table is works in
      let shows = shows-next form.columns form.blobs text far.taken old new left left_now faults faults_now far.takes (subst (λ r. Advances old left faults r new left_now faults_now) next.next.0 next.advances) (next.next.1 refl) in
      line-stops gone counts first plan table far.taken form is u v g h told told_mid told_now (counts.line + 1) new.line far.some number-is p text left_now shows.others
      (as-plan (λ n b. Takes n b text far.taken (new.line ∷ shows.others)) form plan is shows.takes_not) shows.few status
      (line-so gone counts first plan table far.taken form is u v g h told told_mid told_now (counts.line + 1) new.line far.some number-is p (Err status) (ends first plan (table_after gone plan table far.taken) is p.works))

  pub ended-stops : (status : ToolStatus) → NextLine old left faults (counts.line + 1) (Ok true) new left_now faults_now → IsOfLine status → Ended form.columns form.blobs text left_now status
  ended-stops status next of = by-status status of
    where
      advances : Advances old left faults (Ok true) new left_now faults_now
      advances = subst (λ r. Advances old left faults r new left_now faults_now) next.next.0 next.advances

      shows : Shows form.columns form.blobs text far.taken old new left left_now faults faults_now far.takes new.line
      shows = shows-next form.columns form.blobs text far.taken old new left left_now faults faults_now far.takes advances (next.next.1 refl)

      by-status : (status : ToolStatus) → IsOfLine status → Ended form.columns form.blobs text left_now status
      by-status OutWrite of = record { taken = far.taken; left = new.line ∷ shows.others; takes = shows.takes_not; few = shows.few; stops = (far.some, omega arith) }
      by-status NoMemory of = record { taken = far.taken; left = new.line ∷ shows.others; takes = shows.takes_not; few = shows.few }
      by-status Device of = record { taken = far.taken; left = new.line ∷ shows.others; takes = shows.takes_not; few = shows.few }
      by-status status of = absurd of

  -- ---- no line was given

  until : (status : ToolStatus) → TakesThese form.columns form.blobs text far.taken left_now status → TakesUntil form.columns form.blobs text left_now status
  until status these = record { taken = far.taken; left = these.left; takes = these.takes; few = these.few; stops = these.stops }

  puts-until : (status : ToolStatus) → TakesThese form.columns form.blobs text far.taken left_now status → (first : ℕ) (plan : Plan) (table : model.Table) → IsFormOf form plan → Works t f first plan table →
      ((left : List (List ℕ)) → Reports gone plan table far.taken status left told told_mid ≡ Appends told told_mid (told_of_lines gone plan table far.taken)) → LinesEnd gone counts first plan table text u g told told_mid left_now status
  puts-until status these first plan table is works same = lines-end gone counts form text far.taken u g told told_mid left_now status these first plan table is (far.puts first plan table is works) same

  pub ended-done : NextLine old left faults (counts.line + 1) (Ok false) new left_now faults_now → TakesUntil form.columns form.blobs text left_now Done
  ended-done next = until Done (stops-done form.columns form.blobs text far.taken old new left left_now faults faults_now far.takes (subst (λ r. Advances old left faults r new left_now faults_now) next.next.0 next.advances) far.some)

  pub far-done : NextLine old left faults (counts.line + 1) (Ok false) new left_now faults_now → (first : ℕ) (plan : Plan) (table : model.Table) → IsFormOf form plan → Works t f first plan table →
      LinesEnd gone counts first plan table text u g told told_mid left_now Done
  far-done next first plan table is works =
      let these = stops-done form.columns form.blobs text far.taken old new left left_now faults faults_now far.takes (subst (λ r. Advances old left faults r new left_now faults_now) next.next.0 next.advances) far.some in
      puts-until Done these first plan table is works (λ _. refl)

  these-next : (status : ToolStatus) → NextLine old left faults (counts.line + 1) (Err status) new left_now faults_now → TakesThese form.columns form.blobs text far.taken left_now status
  these-next status next = stops-next form.columns form.blobs text far.taken old new left left_now faults faults_now far.takes (counts.line + 1) number-is next.given status next.advances next.next

  pub ended-next : (status : ToolStatus) → NextLine old left faults (counts.line + 1) (Err status) new left_now faults_now → Ended form.columns form.blobs text left_now status
  ended-next status next = by-status status next.next (until status (these-next status next))
    where
      by-status : (status : ToolStatus) → NextOf next.given new.line (counts.line + 1) (Err status) → TakesUntil form.columns form.blobs text left_now status → Ended form.columns form.blobs text left_now status
      by-status InputRead of h = h
      by-status InputLong of h = h
      by-status (BadInput n) of h = h
      by-status status of h = absurd of

  pub far-ended : (status : ToolStatus) → NextLine old left faults (counts.line + 1) (Err status) new left_now faults_now → (first : ℕ) (plan : Plan) (table : model.Table) → IsFormOf form plan → Works t f first plan table →
      AllEnds gone counts first plan table text u g told told_mid left_now (Err status)
  far-ended status next first plan table is works = by-status status next.next (these-next status next)
    where
      by-status : (status : ToolStatus) → NextOf next.given new.line (counts.line + 1) (Err status) → TakesThese form.columns form.blobs text far.taken left_now status → AllEnds gone counts first plan table text u g told told_mid left_now (Err status)
      by-status InputRead of h = puts-until InputRead h first plan table is works (λ _. refl)
      by-status InputLong of h = puts-until InputLong h first plan table is works (λ _. refl)
      by-status (BadInput n) of h = puts-until (BadInput n) h first plan table is works (λ _. refl)
      by-status status of h = absurd of

-- ---- the line of the names wasn't taken

pub names-ended : (columns : ℕ) (blobs : Bool) (text : List ℕ) (rest : Option (List ℕ)) (status : ToolStatus) → IsOfNames status → TakesThese columns blobs text [] rest status → Ended columns blobs text rest status
names-ended columns blobs text rest status of these = by-status status of (record { taken = []; left = these.left; takes = these.takes; few = these.few; stops = these.stops })
  where
    by-status : (status : ToolStatus) → IsOfNames status → TakesUntil columns blobs text rest status → Ended columns blobs text rest status
    by-status InputRead of h = h
    by-status InputLong of h = h
    by-status (BadInput n) of h = h
    by-status NoMemory of h = record { taken = h.taken; left = h.left; takes = h.takes; few = h.few }
    by-status status of h = absurd of

pub names-ends : (gone : GoneBlobs) (counts : LinesTaken) → counts ≡ none_taken → (form : LineForm) (text : List ℕ) (t : LoggedTable 64 64) (f : FlashState) (told rest : Option (List ℕ)) (first : ℕ) (plan : Plan) (table : model.Table) (status : ToolStatus) → IsOfNames status → TakesThese form.columns form.blobs text [] rest status → IsFormOf form plan → Works t f first plan table →
    AllEnds gone counts first plan table text t f told told rest (Err status)
names-ends gone counts none form text t f told rest first plan table status of these is works =
    subst (λ (c : LinesTaken). AllEnds gone c first plan table text t f told told rest (Err status)) (sym none) (by-status status of these)
  where
    ends : (status : ToolStatus) → TakesThese form.columns form.blobs text [] rest status → ((left : List (List ℕ)) → Reports gone plan table [] status left told told ≡ Appends told told []) → LinesEnd gone none_taken first plan table text t f told told rest status
    ends status these same = lines-end gone none_taken form text [] t f told told rest status these first plan table is (record { works = works; reports = appends-none told; counted = refl }) same

    by-status : (status : ToolStatus) → IsOfNames status → TakesThese form.columns form.blobs text [] rest status → AllEnds gone none_taken first plan table text t f told told rest (Err status)
    by-status InputRead of these = ends InputRead these (λ _. refl)
    by-status InputLong of these = ends InputLong these (λ _. refl)
    by-status (BadInput n) of these = ends (BadInput n) these (λ _. refl)
    by-status NoMemory of these = ends NoMemory these (λ _. refl)
    by-status status of these = absurd of
