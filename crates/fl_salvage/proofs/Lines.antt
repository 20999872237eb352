-- Texts of one item after another.
use Rattle.std.proofs.Common.{◌≡◌, ℕ, ℤ, zero, suc, ◌+◌, ◌≤◌, Option, Some, List, [], ◌∷◌, ◌++◌, length, drop, refl, sym, ◌∙◌, ap, subst, arith}
use Rattle.std.specs.List.{flat_map, slice_get}
use Rattle.std.proofs.lemmas.Option.{none-some}
use Rattle.fl_base.specs.Causes.{Appends, AppendsFront}
use Rattle.fl_csv.specs.Text.{Blob, entry_text}
use Rattle.fl_model.specs.Row.{Row}
use Rattle.fl_script.proofs.SinkPieces.{Sent, sent-piece, sent-failed, sent-all}
use Rattle.fl_salvage.specs.Text.{Form, blob_told, row_text}

-- the text of the items from a place on is that of the one there, and that of the others
pub flat-next : {X : Type 0} (f : X → List ℕ) (xs : List X) (i : ℕ) (x : X) → slice_get xs i ≡ Some x → f x ++ flat_map f (drop (i + 1) xs) ≡ flat_map f (drop i xs)
flat-next f [] i x is = absurd (none-some x is)
flat-next f (y ∷ ys) zero x is =
    let same : y ≡ x = cc in
    ap (λ z. f z ++ flat_map f ys) (sym same)
flat-next f (y ∷ ys) (suc i) x is =
    let e : suc i + 1 ≡ suc (i + 1) = omega arith in
    rw e (flat-next f ys i x is)

-- the lines of items: those before a place were written, and a front of the next; that one too; and all of them
pub item-failed : {X : Type 0} (f : X → List ℕ) (xs : List X) (i : ℕ) (x : X) (a b c : Option (List ℕ)) → slice_get xs i ≡ Some x → Sent a b (flat_map f xs) (flat_map f (drop i xs)) → AppendsFront b c (f x) → AppendsFront a c (flat_map f xs)
item-failed f xs i x a b c is sent wrote = sent-failed a b c (flat_map f xs) (flat_map f (drop i xs)) (flat_map f (drop (i + 1) xs)) (f x) sent wrote (flat-next f xs i x is)

pub item-sent : {X : Type 0} (f : X → List ℕ) (xs : List X) (i : ℕ) (x : X) (a b c : Option (List ℕ)) → slice_get xs i ≡ Some x → Sent a b (flat_map f xs) (flat_map f (drop i xs)) → Appends b c (f x) → Sent a c (flat_map f xs) (flat_map f (drop (i + 1) xs))
item-sent f xs i x a b c is sent wrote = sent-piece a b c (flat_map f xs) (flat_map f (drop i xs)) (flat_map f (drop (i + 1) xs)) (f x) sent wrote (flat-next f xs i x is)

flat-end : {X : Type 0} (f : X → List ℕ) (xs : List X) (i : ℕ) → length xs ≤ i → flat_map f (drop i xs) ≡ []
flat-end f [] zero le = refl
flat-end f [] (suc i) le = refl
flat-end f (x ∷ xs) zero le = absurd (let no : suc (length xs) ≤ 0 = le in omega (arith, no))
flat-end f (x ∷ xs) (suc i) le = flat-end f xs i (omega (arith, le))

pub all-sent : {X : Type 0} (f : X → List ℕ) (xs : List X) (i : ℕ) (a b : Option (List ℕ)) → length xs ≤ i → Sent a b (flat_map f xs) (flat_map f (drop i xs)) → Appends a b (flat_map f xs)
all-sent f xs i a b le sent = sent-all a b (flat_map f xs) (subst (λ (l : List ℕ). Sent a b (flat_map f xs) l) (flat-end f xs i le) sent)

-- the line of a row
pub line-is : (form : Form) (bytes : List ℕ) (row : Row) (key : ℕ) (values : List ℤ) (blob : Blob) → key ≡ row.key → values ≡ row.values → blob ≡ blob_told form bytes row.blob
    → entry_text (record { key = key; values = values; blob = blob }) ≡ row_text form bytes row
line-is form bytes row key values blob k v b =
    ap (λ (n : ℕ). entry_text (record { key = n; values = values; blob = blob })) k
    ∙ ap (λ (l : List ℤ). entry_text (record { key = row.key; values = l; blob = blob })) v
    ∙ ap (λ (o : Blob). entry_text (record { key = row.key; values = row.values; blob = o })) b
