-- One more line that is put.
use Rattle.std.proofs.Common.{◌≡◌, ℕ, suc, ◌+◌, ◌≤◌, Bool, Result, List, [], ◌∷◌, ◌++◌, length, map, refl, sym, ◌∙◌, ap, append_assoc, append-nil, arith, if◌then◌else◌}
use Rattle.std.proofs.lemmas.List.{length-map}
use Rattle.fl_csv.specs.declared.record.GoneBlobs.{GoneBlobs}
use Rattle.fl_csv.specs.declared.record.CsvRefusal.{CsvRefusal}
use Rattle.fl_model.specs.Record.{Record, Plan, has_var}
use Rattle.fl_model.specs.Table.{Table}
use Rattle.fl_import.specs.Counting.{gone_count}
use Rattle.fl_import.specs.Lines.{lacks, meaning, meanings}
use Rattle.fl_import.specs.Puts.{is_put, after_put, after_puts, put_count}
use Rattle.fl_import.specs.Report.{told_line, told_lines}

module _ (plan : Plan) (put : Result Record CsvRefusal) where
  pub after-more : (table : Table) (puts : List (Result Record CsvRefusal)) → after_puts plan table (puts ++ put ∷ []) ≡ after_put plan (after_puts plan table puts) put
  after-more table [] = refl
  after-more table (first ∷ puts) = after-more (after_put plan table first) puts

  pub told-more : (number : ℕ) (table : Table) (puts : List (Result Record CsvRefusal)) →
      told_lines plan number table (puts ++ put ∷ []) ≡ told_lines plan number table puts ++ told_line plan (number + length puts) (after_puts plan table puts) put
  told-more number table [] =
      let here : number + 0 ≡ number = omega arith in
      append-nil (told_line plan number table put) ∙ ap (λ n. told_line plan n table put) (sym here)
  told-more number table (first ∷ puts) =
      let there : number + 1 + length puts ≡ number + suc (length puts) = omega arith in
      ap (λ l. told_line plan number table first ++ l) (told-more (number + 1) (after_put plan table first) puts)
      ∙ (ap (λ n. told_line plan number table first ++ (told_lines plan (number + 1) (after_put plan table first) puts ++ told_line plan n (after_puts plan (after_put plan table first) puts) put)) there
      ∙ sym (append_assoc (told_line plan number table first) (told_lines plan (number + 1) (after_put plan table first) puts) (told_line plan (number + suc (length puts)) (after_puts plan (after_put plan table first) puts) put)))

  pub count-more : (table : Table) (puts : List (Result Record CsvRefusal)) →
      put_count plan table (puts ++ put ∷ []) ≡ put_count plan table puts + (if is_put plan (after_puts plan table puts) put then 1 else 0)
  count-more table [] = omega arith
  count-more table (first ∷ puts) =
      let more = count-more (after_put plan table first) puts in
      let one = if is_put plan table first then 1 else 0 in
      let rest = put_count plan (after_put plan table first) puts in
      let last = if is_put plan (after_puts plan (after_put plan table first) puts) put then 1 else 0 in
      let assoc : one + (rest + last) ≡ one + rest + last = omega arith in
      ap (λ n. one + n) more ∙ assoc

-- .. whose blob may be left out
pub gone-more : (gone : GoneBlobs) (plan : Plan) (line : List ℕ) (table : Table) (lines : List (List ℕ)) →
    gone_count gone plan table (lines ++ line ∷ [])
    ≡ gone_count gone plan table lines
    + (if is_put plan (after_puts plan table (map (meaning gone (length plan.columns) (has_var plan)) lines)) (meaning gone (length plan.columns) (has_var plan) line)
    then (if lacks gone (length plan.columns) (has_var plan) line then 1 else 0) else 0)
gone-more gone plan line table [] = omega arith
gone-more gone plan line table (first ∷ lines) =
    let put = meaning gone (length plan.columns) (has_var plan) first in
    let last = meaning gone (length plan.columns) (has_var plan) line in
    let next = after_put plan table put in
    let more = gone-more gone plan line next lines in
    let one = if is_put plan table put then (if lacks gone (length plan.columns) (has_var plan) first then 1 else 0) else 0 in
    let rest = gone_count gone plan next lines in
    let end = if is_put plan (after_puts plan next (map (meaning gone (length plan.columns) (has_var plan)) lines)) last then (if lacks gone (length plan.columns) (has_var plan) line then 1 else 0) else 0 in
    let assoc : one + (rest + end) ≡ one + rest + end = omega arith in
    ap (λ n. one + n) more ∙ assoc

-- the meaning of one more line
pub means-more : (gone : GoneBlobs) (columns : ℕ) (blobs : Bool) (names line : List ℕ) (lines : List (List ℕ)) →
    meanings gone columns blobs ((names ∷ lines) ++ line ∷ []) ≡ meanings gone columns blobs (names ∷ lines) ++ meaning gone columns blobs line ∷ []
means-more gone columns blobs names line [] = refl
means-more gone columns blobs names line (first ∷ lines) = ap (λ l. meaning gone columns blobs first ∷ l) (means-more gone columns blobs names line lines)

pub means-count : (gone : GoneBlobs) (columns : ℕ) (blobs : Bool) (names : List ℕ) (lines : List (List ℕ)) → length (meanings gone columns blobs (names ∷ lines)) ≡ length lines
means-count gone columns blobs names lines = length-map lines (meaning gone columns blobs)

pub means-behind : (gone : GoneBlobs) (columns : ℕ) (blobs : Bool) (taken : List (List ℕ)) (line : List ℕ) → 1 ≤ length taken →
    meanings gone columns blobs (taken ++ line ∷ []) ≡ meanings gone columns blobs taken ++ meaning gone columns blobs line ∷ []
means-behind gone columns blobs [] line some = absurd (omega (arith, some))
means-behind gone columns blobs (names ∷ lines) line some = means-more gone columns blobs names line lines

pub means-length : (gone : GoneBlobs) (columns : ℕ) (blobs : Bool) (taken : List (List ℕ)) → 1 ≤ length taken → length (meanings gone columns blobs taken) + 1 ≡ length taken
means-length gone columns blobs [] some = absurd (omega (arith, some))
means-length gone columns blobs (names ∷ lines) some = omega (arith, means-count gone columns blobs names lines)
