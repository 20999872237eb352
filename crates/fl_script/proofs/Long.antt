-- A line of more than twenty words behind the first one has no form.
use Rattle.std.proofs.Common.{◌≡◌, ℕ, ◌+◌, ◌<◌, ◌≤◌, Bool, true, false, ◌&&◌, nat_le, List, [], ◌∷◌, length, take, Option, Some, None, Result, Ok, Err, codes, refl, ap, ◌∙◌, arith, cond, length-take}
use Rattle.std.proofs.lemmas.Bool.Decides.{nat_tests}
use Rattle.std.proofs.lemmas.List.{take_all}
use Rattle.fl_base.specs.declared.types.KeyRange.{KeyRange}
use Rattle.fl_base.specs.declared.types.Span.{Span}
use Rattle.fl_model.specs.Record.{bytes_equal}
use Rattle.fl_words.specs.Command.{Command}
use Rattle.fl_words.specs.Command as command
use Rattle.fl_words.specs.Grammar.{LineFault, Form, form, part, is_name, cursor_of, blob_split, put_blob, with_range, device_line, log_word, table_line, cut_line, put_line, name_line, key_line, bare_line, scan_line, open_line, next_line, close_line, select_line, project_line, agg_line, join_line, load_line, line_of}

never : {A : Type 0} (b : Bool) → form {A = A} b (Err Form) ≡ Err Form
never true = refl
never false = refl

pub no-form : {A : Type 0} (b : Bool) (r : Result A LineFault) → form (b && false) r ≡ Err Form
no-form true r = refl
no-form false r = refl

long-bare : (made : Command) (words : List (List ℕ)) → 20 < length words → bare_line made words ≡ Err Form
long-bare made [] long = absurd (omega (arith, long))
long-bare made (a ∷ words) long = refl

long-name : (make : List ℕ → Command) (words : List (List ℕ)) → 20 < length words → name_line make words ≡ Err Form
long-name make [] long = absurd (omega (arith, long))
long-name make (a ∷ []) long = absurd (omega (arith, long))
long-name make (a ∷ b ∷ words) long = refl

long-key : (make : List ℕ → ℕ → Command) (words : List (List ℕ)) → 20 < length words → key_line make words ≡ Err Form
long-key make [] long = absurd (omega (arith, long))
long-key make (a ∷ []) long = absurd (omega (arith, long))
long-key make (a ∷ b ∷ []) long = absurd (omega (arith, long))
long-key make (a ∷ b ∷ c ∷ words) long = refl

long-device : (words : List (List ℕ)) → 20 < length words → device_line words ≡ Err Form
long-device [] long = absurd (omega (arith, long))
long-device (a ∷ []) long = absurd (omega (arith, long))
long-device (a ∷ b ∷ []) long = absurd (omega (arith, long))
long-device (a ∷ b ∷ c ∷ words) long = refl

-- with the word for full entries or without it, too many words are behind it
long_log : (full : Bool) (l m n o : List ℕ) (words : List (List ℕ)) → log_word (cond full (m ∷ n ∷ o ∷ words) (l ∷ m ∷ n ∷ o ∷ words)) ≡ None
long_log true l m n o words = refl
long_log false l m n o words = refl

long-table : (words : List (List ℕ)) → 20 < length words → table_line words ≡ Err Form
long-table [] long = absurd (omega (arith, long))
long-table (a ∷ []) long = absurd (omega (arith, long))
long-table (a ∷ b ∷ []) long = absurd (omega (arith, long))
long-table (a ∷ b ∷ c ∷ []) long = absurd (omega (arith, long))
long-table (a ∷ b ∷ c ∷ d ∷ []) long = absurd (omega (arith, long))
long-table (a ∷ b ∷ c ∷ d ∷ e ∷ []) long = absurd (omega (arith, long))
long-table (a ∷ b ∷ c ∷ d ∷ e ∷ f ∷ []) long = absurd (omega (arith, long))
long-table (a ∷ b ∷ c ∷ d ∷ e ∷ f ∷ g ∷ []) long = absurd (omega (arith, long))
long-table (a ∷ b ∷ c ∷ d ∷ e ∷ f ∷ g ∷ h ∷ []) long = absurd (omega (arith, long))
long-table (a ∷ b ∷ c ∷ d ∷ e ∷ f ∷ g ∷ h ∷ i ∷ []) long = absurd (omega (arith, long))
long-table (a ∷ b ∷ c ∷ d ∷ e ∷ f ∷ g ∷ h ∷ i ∷ j ∷ []) long = absurd (omega (arith, long))
long-table (a ∷ b ∷ c ∷ d ∷ e ∷ f ∷ g ∷ h ∷ i ∷ j ∷ k ∷ []) long = absurd (omega (arith, long))
long-table (a ∷ b ∷ c ∷ d ∷ e ∷ f ∷ g ∷ h ∷ i ∷ j ∷ k ∷ l ∷ []) long = absurd (omega (arith, long))
long-table (a ∷ b ∷ c ∷ d ∷ e ∷ f ∷ g ∷ h ∷ i ∷ j ∷ k ∷ l ∷ m ∷ []) long = absurd (omega (arith, long))
long-table (a ∷ b ∷ c ∷ d ∷ e ∷ f ∷ g ∷ h ∷ i ∷ j ∷ k ∷ l ∷ m ∷ n ∷ []) long = absurd (omega (arith, long))
long-table (a ∷ b ∷ c ∷ d ∷ e ∷ f ∷ g ∷ h ∷ i ∷ j ∷ k ∷ l ∷ m ∷ n ∷ o ∷ words) long = rw (long_log (bytes_equal l (codes "index2")) l m n o words) (never (is_name a))

long-cut : (words : List (List ℕ)) → 20 < length words → cut_line words ≡ Err Form
long-cut [] long = absurd (omega (arith, long))
long-cut (a ∷ []) long = absurd (omega (arith, long))
long-cut (a ∷ b ∷ []) long = absurd (omega (arith, long))
long-cut (a ∷ b ∷ c ∷ []) long = absurd (omega (arith, long))
long-cut (a ∷ b ∷ c ∷ d ∷ words) long = refl

long-next : (words : List (List ℕ)) → 20 < length words → next_line words ≡ Err Form
long-next [] long = absurd (omega (arith, long))
long-next (a ∷ []) long = absurd (omega (arith, long))
long-next (a ∷ b ∷ []) long = absurd (omega (arith, long))
long-next (a ∷ b ∷ c ∷ words) long = refl

long-close : (words : List (List ℕ)) → 20 < length words → close_line words ≡ Err Form
long-close [] long = absurd (omega (arith, long))
long-close (a ∷ []) long = absurd (omega (arith, long))
long-close (a ∷ b ∷ words) long = refl

long-select : (words : List (List ℕ)) → 20 < length words → select_line words ≡ Err Form
long-select [] long = absurd (omega (arith, long))
long-select (a ∷ []) long = absurd (omega (arith, long))
long-select (a ∷ b ∷ []) long = absurd (omega (arith, long))
long-select (a ∷ b ∷ c ∷ []) long = absurd (omega (arith, long))
long-select (a ∷ b ∷ c ∷ d ∷ []) long = absurd (omega (arith, long))
long-select (a ∷ b ∷ c ∷ d ∷ e ∷ []) long = absurd (omega (arith, long))
long-select (a ∷ b ∷ c ∷ d ∷ e ∷ f ∷ []) long = absurd (omega (arith, long))
long-select (a ∷ b ∷ c ∷ d ∷ e ∷ f ∷ g ∷ words) long = refl

long-project : (words : List (List ℕ)) → 20 < length words → project_line words ≡ Err Form
long-project [] long = absurd (omega (arith, long))
long-project (a ∷ []) long = absurd (omega (arith, long))
long-project (a ∷ b ∷ []) long = absurd (omega (arith, long))
long-project (a ∷ b ∷ c ∷ []) long = absurd (omega (arith, long))
long-project (a ∷ b ∷ c ∷ d ∷ []) long = absurd (omega (arith, long))
long-project (a ∷ b ∷ c ∷ d ∷ e ∷ words) long = refl

long-agg : (words : List (List ℕ)) → 20 < length words → agg_line words ≡ Err Form
long-agg [] long = absurd (omega (arith, long))
long-agg (a ∷ []) long = absurd (omega (arith, long))
long-agg (a ∷ b ∷ []) long = absurd (omega (arith, long))
long-agg (a ∷ b ∷ c ∷ []) long = absurd (omega (arith, long))
long-agg (a ∷ b ∷ c ∷ d ∷ []) long = absurd (omega (arith, long))
long-agg (a ∷ b ∷ c ∷ d ∷ e ∷ []) long = absurd (omega (arith, long))
long-agg (a ∷ b ∷ c ∷ d ∷ e ∷ f ∷ words) long = refl

long-join : (words : List (List ℕ)) → 20 < length words → join_line words ≡ Err Form
long-join [] long = absurd (omega (arith, long))
long-join (a ∷ []) long = absurd (omega (arith, long))
long-join (a ∷ b ∷ []) long = absurd (omega (arith, long))
long-join (a ∷ b ∷ c ∷ []) long = absurd (omega (arith, long))
long-join (a ∷ b ∷ c ∷ d ∷ []) long = absurd (omega (arith, long))
long-join (a ∷ b ∷ c ∷ d ∷ e ∷ words) long = refl

long-load : (words : List (List ℕ)) → 20 < length words → load_line words ≡ Err Form
long-load [] long = absurd (omega (arith, long))
long-load (a ∷ []) long = absurd (omega (arith, long))
long-load (a ∷ b ∷ []) long = absurd (omega (arith, long))
long-load (a ∷ b ∷ c ∷ []) long = absurd (omega (arith, long))
long-load (a ∷ b ∷ c ∷ d ∷ []) long = absurd (omega (arith, long))
long-load (a ∷ b ∷ c ∷ d ∷ e ∷ words) long = refl

long-range : (f : KeyRange → Option Span → Result Command LineFault) (words : List (List ℕ)) → 4 < length words → with_range words f ≡ Err Form
long-range f [] long = absurd (omega (arith, long))
long-range f (a ∷ []) long = absurd (omega (arith, long))
long-range f (a ∷ b ∷ []) long = absurd (omega (arith, long))
long-range f (a ∷ b ∷ c ∷ []) long = absurd (omega (arith, long))
long-range f (a ∷ b ∷ c ∷ d ∷ []) long = absurd (omega (arith, long))
long-range f (a ∷ b ∷ c ∷ d ∷ e ∷ words) long = refl

long-scan : (words : List (List ℕ)) → 20 < length words → scan_line words ≡ Err Form
long-scan [] long = absurd (omega (arith, long))
long-scan (a ∷ words) long = ap (form (is_name a)) (long-range _ words (omega (arith, long))) ∙ never (is_name a)

long-open : (words : List (List ℕ)) → 20 < length words → open_line words ≡ Err Form
long-open [] long = absurd (omega (arith, long))
long-open (a ∷ []) long = absurd (omega (arith, long))
long-open (a ∷ b ∷ words) long =
    let any : (c : ℕ) → form (is_name b) (with_range words (λ range span. Ok (command.Open c b range span))) ≡ Err Form =
    λ c. ap (form (is_name b)) (long-range (λ range span. Ok (command.Open c b range span)) words (omega (arith, long))) ∙ never (is_name b) in
    opened (cursor_of a) any
  where
    opened : {f : ℕ → Result Command LineFault} (cursor : Option ℕ) → ((c : ℕ) → f c ≡ Err Form) → part cursor f ≡ Err Form
    opened None any = refl
    opened (Some c) any = any c

values : (words : List (List ℕ)) → length words ≤ length (blob_split words).0 + 2
values [] = omega arith
values (a ∷ []) = omega arith
values (a ∷ b ∷ []) =
    elim (bytes_equal a (codes "blob")) as (λ t. 2 ≤ length (cond {A = List (List ℕ) × Option (List ℕ)} t ([], Some b) (a ∷ b ∷ [], None)).0 + 2) [ true ↦ omega arith | false ↦ omega arith ]
values (a ∷ b ∷ c ∷ words) = omega (arith, values (b ∷ c ∷ words))

long-put : (words : List (List ℕ)) → 20 < length words → put_line words ≡ Err Form
long-put [] long = absurd (omega (arith, long))
long-put (a ∷ []) long = absurd (omega (arith, long))
long-put (a ∷ b ∷ words) long =
    let most = values words in
    let size : nat_le (length (blob_split words).0) 16 ≡ false = grind (arith, nat_tests, most, long) in
    ap (λ t. form (is_name a && t) (put_blob a b (blob_split words).0 (blob_split words).1)) size ∙ no-form (is_name a) (put_blob a b (blob_split words).0 (blob_split words).1)

-- so the first 21 words tell what the line is
pub by_first : (word : List ℕ) (words : List (List ℕ)) → line_of word (take 21 words) ≡ line_of word words
by_first word words = by (nat_le (length words) 21) refl
  where
    by : (t : Bool) → nat_le (length words) 21 ≡ t → line_of word (take 21 words) ≡ line_of word words
    by true h = ap (line_of word) (take_all 21 words (grind (arith, nat_tests, h)))
    by false h =
        let long : 21 < length words = grind (arith, nat_tests, h) in
        let l : 20 < length words = omega (arith, long) in
        let m : 20 < length (take 21 words) = omega (arith, long, length-take 21 words) in
        rw (long-device words l, long-device (take 21 words) m, long-table words l, long-table (take 21 words) m, long-cut words l, long-cut (take 21 words) m, long-put words l, long-put (take 21 words) m, long-scan words l, long-scan (take 21 words) m, long-open words l, long-open (take 21 words) m, long-next words l, long-next (take 21 words) m, long-close words l, long-close (take 21 words) m, long-select words l, long-select (take 21 words) m, long-project words l, long-project (take 21 words) m, long-agg words l, long-agg (take 21 words) m, long-join words l, long-join (take 21 words) m, long-load words l, long-load (take 21 words) m, long-bare command.Mount words l, long-bare command.Mount (take 21 words) m, long-bare command.Off words l, long-bare command.Off (take 21 words) m, long-bare command.Cost words l, long-bare command.Cost (take 21 words) m, long-name (λ n. command.Flush n) words l, long-name (λ n. command.Flush n) (take 21 words) m, long-name (λ n. command.Stat n) words l, long-name (λ n. command.Stat n) (take 21 words) m, long-key (λ n k. command.Get n k) words l, long-key (λ n k. command.Get n k) (take 21 words) m, long-key (λ n k. command.Blob n k) words l, long-key (λ n k. command.Blob n k) (take 21 words) m) refl
