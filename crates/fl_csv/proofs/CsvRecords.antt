-- The records that the crate csv reads, from its reads of one record.
use Rattle.std.proofs.Common.{◌≡◌, ℕ, suc, List, [], ◌∷◌, length, Some, None, refl, sym, ◌∙◌, ap, arith}
use Rattle.std.proofs.lemmas.Option.{none-some}
use Rattle.csv.specs.Machine.{Read, next_record}
use Rattle.csv.specs.Reading.{default_config, records, records_from, Reached}
use Rattle.csv.specs.declared.parser.State.{State}
use Rattle.csv.specs.declared.parser.State.TheVariants as st
use Rattle.fl_csv.specs.Lines.{only_record}

-- a text without a record, with one, and with more
from-none : (n : ℕ) (s : State) (xs : List ℕ) → next_record default_config s [] [] xs ≡ None → records_from default_config (suc n) s xs ≡ []
unfolding records_from
from-none n s xs e = rw e refl

from-some : (n : ℕ) (s : State) (xs : List ℕ) (p : Read) → next_record default_config s [] [] xs ≡ Some p
    → records_from default_config (suc n) s xs ≡ p.0 ∷ records_from default_config n p.1 p.2
unfolding records_from
from-some n s xs p e = rw e refl

-- a text from which a record is read isn't empty
pub empty-none : next_record default_config st.StartRecord [] [] [] ≡ None
unfolding next_record
empty-none = refl

records-suc : (xs : List ℕ) → records default_config xs ≡ records_from default_config (suc (length xs)) st.StartRecord xs
records-suc xs = ap (λ n. records_from default_config n st.StartRecord xs) (omega arith)

pub no-record : (xs : List ℕ) → next_record default_config st.StartRecord [] [] xs ≡ None → only_record (records default_config xs) ≡ None
no-record xs e = ap only_record (records-suc xs ∙ from-none (length xs) st.StartRecord xs e)

pub one-record : (xs : List ℕ) (fields : List (List ℕ)) (s : State) (ys : List ℕ) → Reached default_config st.StartRecord xs (fields ∷ []) s ys
    → next_record default_config s [] [] ys ≡ None → only_record (records default_config xs) ≡ Some fields
unfolding Reached
one-record [] fields s ys h e = absurd (none-some _ (sym empty-none ∙ h.1))
one-record (x ∷ xs) fields s ys h e =
    let last : next_record default_config h.0.1 [] [] h.0.2 ≡ None = rw (h.3.0, h.3.1) e in
    let rows = records-suc (x ∷ xs) ∙ from-some (length (x ∷ xs)) st.StartRecord (x ∷ xs) h.0 h.1
    ∙ ap (λ l. h.0.0 ∷ l) (from-none (length xs) h.0.1 h.0.2 last) in
    ap only_record rows ∙ ap (λ f. Some f) (sym h.2)

pub two-records : (xs : List ℕ) (fields next : List (List ℕ)) (s : State) (ys : List ℕ) → Reached default_config st.StartRecord xs (fields ∷ next ∷ []) s ys
    → only_record (records default_config xs) ≡ None
unfolding Reached
two-records [] fields next s ys h = absurd (none-some _ (sym empty-none ∙ h.1))
two-records (x ∷ xs) fields next s ys h =
    let rows = records-suc (x ∷ xs) ∙ from-some (length (x ∷ xs)) st.StartRecord (x ∷ xs) h.0 h.1
    ∙ ap (λ l. h.0.0 ∷ l) (from-some (length xs) h.0.1 h.0.2 h.3.0 h.3.1) in
    ap only_record rows

pub none-of : (s t : State) (xs : List ℕ) → s ≡ t → next_record default_config s [] [] xs ≡ None → next_record default_config t [] [] xs ≡ None
none-of s t xs e h = rw (← e) h

pub reached-start : (s : State) (xs : List ℕ) → s ≡ st.StartRecord → Reached default_config st.StartRecord xs [] s xs
unfolding Reached
reached-start s xs e = (sym e, refl)

pub reached-one : (xs : List ℕ) (fields : List (List ℕ)) (s : State) (ys : List ℕ) → next_record default_config st.StartRecord [] [] xs ≡ Some (fields, s, ys)
    → Reached default_config st.StartRecord xs (fields ∷ []) s ys
unfolding Reached
reached-one xs fields s ys e = ((fields, s, ys), e, refl, (refl, refl))
