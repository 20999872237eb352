-- The line of the names, written piece by piece.
use Rattle.std.proofs.Common.{◌≡◌, ℕ, ◌+◌, ◌-◌, ◌<◌, suc, Bool, true, false, Option, Result, Ok, Err, List, [], ◌∷◌, ◌++◌, refl, sym, ◌∙◌, ap, arith, codes, decimal, append_assoc, if◌then◌else◌}
use Rattle.std.specs.List.{flat_map}
use Rattle.std.proofs.lemmas.Grind.{flat_map-append}
use Rattle.std.proofs.lemmas.List.{append-nil}
use Rattle.fl_script.specs.Written.{Written}
use Rattle.fl_script.proofs.SinkPieces.{Sent, sent-piece, sent-failed, sent-all}
use Rattle.fl_csv.specs.Text.{column_names, header_text}

abbrev pub last_text : Bool → List ℕ
last_text blobs = if blobs then codes ",blob\n" else codes "\n"

abbrev names_text : List (List ℕ) → List ℕ
names_text names = flat_map (λ f. 44 ∷ f) names

-- what is left to be written after the names of so many columns
abbrev pub left_of : ℕ → Bool → ℕ → List ℕ
left_of columns blobs i = names_text (column_names (i + 1) (columns - i)) ++ last_text blobs

last-parts : (names : List (List ℕ)) (blobs : Bool)
    → names_text names ++ last_text blobs ≡ names_text (names ++ (if blobs then codes "blob" ∷ [] else [])) ++ 10 ∷ []
last-parts names true = rw (flat_map-append (λ f. 44 ∷ f) names (codes "blob" ∷ [])) (sym (append_assoc (names_text names) (codes ",blob") (10 ∷ [])))
last-parts names false = rw (append-nil names) refl

pub header-parts : (columns : ℕ) (blobs : Bool) → codes "key" ++ left_of columns blobs 0 ≡ header_text columns blobs
header-parts columns blobs =
    let all : columns - 0 ≡ columns = omega arith in
    rw all (ap (λ l. codes "key" ++ l) (last-parts (column_names 1 columns) blobs))

pub header-next : (columns : ℕ) (blobs : Bool) (i : ℕ) → i < columns
    → (44 ∷ codes "c" ++ decimal (i + 1)) ++ left_of columns blobs (i + 1) ≡ left_of columns blobs i
header-next columns blobs i lt =
    let e : columns - i ≡ suc (columns - (i + 1)) = omega (arith, lt) in
    rw e (sym (append_assoc (44 ∷ codes "c" ++ decimal (i + 1)) (names_text (column_names (i + 1 + 1) (columns - (i + 1)))) (last_text blobs)))

pub header-end : (columns : ℕ) (blobs : Bool) (i : ℕ) → columns ≡ i → left_of columns blobs i ≡ last_text blobs
header-end columns blobs i is =
    let e : columns - i ≡ 0 = omega (arith, is) in
    rw e refl

pub sent-last : {E : Type 0} (before mid now : Option (List ℕ)) (bytes left piece : List ℕ) (result : Result (Unit {0}) E) → Sent before mid bytes left
    → Written mid now result piece → piece ≡ left → Written before now result bytes
sent-last before mid now bytes left piece (Ok done) sent wrote is =
    sent-all before now bytes (sent-piece before mid now bytes left [] piece sent wrote (append-nil piece ∙ is))
sent-last before mid now bytes left piece (Err e) sent wrote is =
    sent-failed before mid now bytes left [] piece sent wrote (append-nil piece ∙ is)
