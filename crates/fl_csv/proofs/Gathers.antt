-- The line of a record, gathered and written piece by piece.
use Rattle.std.proofs.Common.{◌≡◌, ℕ, ◌+◌, ◌<◌, ◌≤◌, ℤ, Option, List, [], ◌∷◌, ◌++◌, length, drop, get_or, map, sym, subst, ◌∙◌, ap, append_assoc}
use Rattle.std.specs.Fmt.{signed_decimal}
use Rattle.std.specs.List.{flat_map}
use Rattle.std.proofs.lemmas.List.{at_drop_more, at_drop_all}
use Rattle.fl_base.specs.Causes.{Appends}
use Rattle.fl_script.proofs.SinkPieces.{Sent, sent-piece}
use Rattle.fl_csv.specs.Text.{Blob, blob_digits, blob_mark}

abbrev behind : List (List ℕ) → List ℕ
behind fields = flat_map (λ f. 44 ∷ f) fields

abbrev values_text : List ℤ → List ℕ
values_text values = behind (map signed_decimal values)

-- what stands behind the values
abbrev pub tail_text : Blob → List ℕ
tail_text blob = blob_mark blob ++ (blob_digits blob ++ 10 ∷ [])

-- what is left behind so many values
abbrev pub left_at : List ℤ → Blob → ℕ → List ℕ
left_at values blob i = values_text (drop i values) ++ tail_text blob

-- a piece of what is left was written
pub flushed : (before mid now : Option (List ℕ)) (bytes line left piece : List ℕ) → piece ≡ line → Sent before mid bytes (line ++ left) → Appends mid now piece → Sent before now bytes left
flushed before mid now bytes line left piece is sent wrote = sent-piece before mid now bytes (line ++ left) left piece sent wrote (ap (λ l. l ++ left) is)

-- a value behind a comma
pub value-added : (before now : Option (List ℕ)) (bytes line longer : List ℕ) (values : List ℤ) (blob : Blob) (i : ℕ) (d : ℤ) → i < length values
    → Sent before now bytes (line ++ left_at values blob i) → longer ≡ line ++ 44 ∷ signed_decimal (get_or values i d)
    → Sent before now bytes (longer ++ left_at values blob (i + 1))
value-added before now bytes line longer values blob i d lt sent added =
    let value = 44 ∷ signed_decimal (get_or values i d) in
    let next : left_at values blob i ≡ value ++ left_at values blob (i + 1) =
    at_drop_more (λ l. values_text l ++ tail_text blob) values i d lt
    ∙ append_assoc value (values_text (drop (i + 1) values)) (tail_text blob) in
    let parts : line ++ left_at values blob i ≡ longer ++ left_at values blob (i + 1) =
    ap (λ l. line ++ l) next ∙ sym (append_assoc line value (left_at values blob (i + 1))) ∙ ap (λ l. l ++ left_at values blob (i + 1)) (sym added) in
    subst (λ (left : List ℕ). Sent before now bytes left) parts sent

-- the line behind the values, up to the digits of the blob
pub mark-added : (before now : Option (List ℕ)) (bytes line longer digits : List ℕ) (values : List ℤ) (blob : Blob) (i : ℕ) → length values ≤ i
    → Sent before now bytes (line ++ left_at values blob i) → longer ≡ line ++ blob_mark blob → digits ≡ blob_digits blob
    → Sent before now bytes (longer ++ (digits ++ 10 ∷ []))
mark-added before now bytes line longer digits values blob i le sent added is =
    let parts : line ++ left_at values blob i ≡ longer ++ (digits ++ 10 ∷ []) =
    ap (λ l. line ++ l) (at_drop_all (λ l. values_text l ++ tail_text blob) values i le)
    ∙ sym (append_assoc line (blob_mark blob) (blob_digits blob ++ 10 ∷ []))
    ∙ ap (λ l. l ++ (blob_digits blob ++ 10 ∷ [])) (sym added)
    ∙ ap (λ l. longer ++ (l ++ 10 ∷ [])) (sym is) in
    subst (λ (left : List ℕ). Sent before now bytes left) parts sent
