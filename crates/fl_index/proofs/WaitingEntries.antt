-- Entries one after another behind the header of a page.
use Rattle.std.proofs.Common.{◌≡◌, ℕ, zero, suc, ◌+◌, ◌-◌, ◌*◌, ◌/◌, ◌%◌, ◌^◌, ◌<◌, ◌≤◌, ◌⊎◌, inl, inr, Bool, true, false, cond, ◌==◌, ◌||◌, IsTrue, Some, ℤ, pos, negsuc, ◌-ℤ◌, List, [], ◌∷◌, ◌++◌, length, take, drop, replicate, bit_or, refl, sym, ◌∙◌, ap, subst, arith, length-append, length-drop, append_assoc, if◌then◌else◌}
use Rattle.std.specs.Int.{int_div_euclid, w64, to_le_bytes, bytes_low_first}
use borrow.Rule.Slice.PartMut.{put_mid}
use Rattle.std.specs.List.{slice_get, flat_map}
use Rattle.std.proofs.lemmas.Bool.{eqb-true}
use Rattle.std.proofs.lemmas.Grind.{flat_map-append}
use Rattle.std.proofs.lemmas.List.{take_at, take_all, drop-take, drop-drop, drop-append-le, take-append-drop, take-append-le, length-take-le, append-nil, take-take, drop_at}
use Rattle.std.proofs.lemmas.Nat.{or_lt}
use Rattle.std.proofs.Math.Nat.{add-mul, mod-eq_of_lt, mul-le-mul_right, one-le-pow}
use Rattle.std.proofs.Math.Pow.{pow-lt}
use Rattle.std.proofs.lemmas.Option.{none-some}
use Rattle.fl_model.proofs.Lists.{drop_none, take_none}
use Rattle.fl_base.specs.Bytes.{splice}
use Rattle.fl_base.proofs.Ranges.{length-splice, drop-splice}
use Rattle.fl_bitmap.specs.Widths.{is_bits}
use Rattle.fl_model.specs.Record.{Plan, entry_len}
use Rattle.fl_model.specs.Row.{le, number_of}
use Rattle.fl_model.specs.Table.{Entry}
use Rattle.fl_model.specs.Layout.{Full, IndexEntry, full_bytes, entry_bytes, index_body, bitmap_of, bucket_of, clamped}
use Rattle.fl_schema.proofs.Numbers.{length-le}
use Rattle.fl_bitmap.proofs.Pages.{onto, first_value}
use Rattle.fl_schema.proofs.References.{splice-splice}
use Rattle.fl_schema.proofs.RowColumns.{take-splice_end}
use Rattle.fl_index.specs.Page.{form_len, bytes_of, bitmap_at, full_at, fields_of, header_bytes}
use Rattle.fl_index.specs.declared.page.EntryForm.{EntryForm}
use Rattle.fl_index.proofs.Bytes.{number_of-low, take-low}

-- the bytes of an entry are as many as its form says
full-length : (full : Full) → length (full_bytes full) ≡ 14
full-length full =
    omega (arith, length-append (le 8 full.first_key ++ le 2 full.count) (le 4 full.blob_end), length-append (le 8 full.first_key) (le 2 full.count), length-le 8 full.first_key, length-le 2 full.count, length-le 4 full.blob_end)

pub length-entry : (form : EntryForm) (entry : IndexEntry) → length (bytes_of form entry) ≡ form_len form
length-entry form entry = by_full form.full
  where
    by_full : (b : Bool) → length (le form.width entry.bitmap ++ cond b (full_bytes entry.full) []) ≡ form.width + cond b 14 0
    by_full true = omega (arith, length-append (le form.width entry.bitmap) (full_bytes entry.full), length-le form.width entry.bitmap, full-length entry.full)
    by_full false = omega (arith, length-append (le form.width entry.bitmap) [], length-le form.width entry.bitmap)

-- two entries that tell the same have the same bytes; only a full one tells more than its bitmap
pub bytes-same : (form : EntryForm) (a b : IndexEntry) → a.bitmap ≡ b.bitmap → (form.full ≡ true → a.full ≡ b.full) → bytes_of form a ≡ bytes_of form b
bytes-same form a b bitmap full =
    ap (λ (n : ℕ). le form.width n ++ (if form.full then full_bytes a.full else [])) bitmap ∙ ap (λ (xs : List ℕ). le form.width b.bitmap ++ xs) (by_full form.full refl)
  where
    by_full : (t : Bool) → form.full ≡ t → cond t (full_bytes a.full) [] ≡ cond t (full_bytes b.full) []
    by_full true h = ap full_bytes (full h)
    by_full false h = refl

pub width-le : (form : EntryForm) → form.width ≤ form_len form
width-le form = by_full form.full
  where
    by_full : (b : Bool) → form.width ≤ form.width + cond b 14 0
    by_full true = omega arith
    by_full false = omega arith

pub width-le22 : (form : EntryForm) → form.width ≤ 8 → form_len form ≤ 22
width-le22 form few = by_full form.full
  where
    by_full : (b : Bool) → form.width + cond b 14 0 ≤ 22
    by_full true = omega (arith, few)
    by_full false = omega (arith, few)

-- these entries stand at the front of a list
abbrev pub InFront : EntryForm → List ℕ → List IndexEntry → Type 0
InFront form xs entries = take (length entries * form_len form) xs ≡ flat_map (bytes_of form) entries

one_more : (n w : ℕ) → suc n * w ≡ w + n * w
one_more n w = let e : suc n ≡ 1 + n = omega arith in ap (λ k. k * w) e ∙ (add-mul 1 n w ∙ omega arith)

pub none-in : (form : EntryForm) (xs : List ℕ) → InFront form xs []
none-in form xs = ap (λ n. take n xs) (let e : 0 * form_len form ≡ 0 = omega arith in e) ∙ take_none xs

module _ (form : EntryForm) (xs : List ℕ) (x : IndexEntry) (entries : List IndexEntry) (h : InFront form xs (x ∷ entries)) where
  all : take (form_len form + length entries * form_len form) xs ≡ bytes_of form x ++ flat_map (bytes_of form) entries
  all = ap (λ n. take n xs) (sym (one_more (length entries) (form_len form))) ∙ h

  first-in : take (form_len form) xs ≡ bytes_of form x
  first-in =
      sym (take-take (form_len form) (form_len form + length entries * form_len form) xs (omega arith))
      ∙ (ap (take (form_len form)) all ∙ take_at (bytes_of form x) (flat_map (bytes_of form) entries) (form_len form) (length-entry form x))

  others-in : InFront form (drop (form_len form) xs) entries
  others-in =
      sym (drop-take (form_len form) (length entries * form_len form) xs)
      ∙ (ap (drop (form_len form)) all ∙ drop_at (bytes_of form x) (flat_map (bytes_of form) entries) (form_len form) (length-entry form x))

-- the j-th of them
pub entry-at : (form : EntryForm) (xs : List ℕ) (entries : List IndexEntry) (j : ℕ) (b : IndexEntry) → InFront form xs entries → slice_get entries j ≡ Some b → take (form_len form) (drop (j * form_len form) xs) ≡ bytes_of form b
entry-at form xs [] j b h e = absurd (none-some b e)
entry-at form xs (x ∷ entries) zero b h e =
    let same : x ≡ b = cc in
    ap (λ n. take (form_len form) (drop n xs)) (let k : 0 * form_len form ≡ 0 = omega arith in k) ∙ (ap (take (form_len form)) (drop_none xs) ∙ (first-in form xs x entries h ∙ ap (bytes_of form) same))
entry-at form xs (x ∷ entries) (suc j) b h e =
    ap (λ n. take (form_len form) (drop n xs)) (one_more j (form_len form)) ∙ (ap (take (form_len form)) (sym (drop-drop (j * form_len form) (form_len form) xs)) ∙ entry-at form (drop (form_len form) xs) entries j b (others-in form xs x entries h) e)

-- the bitmap of an entry that is read there
pub read-at : (form : EntryForm) (page : List ℕ) (entries : List IndexEntry) (j : ℕ) (b : IndexEntry) → InFront form (drop 16 page) entries → slice_get entries j ≡ Some b → bitmap_at form page j ≡ b.bitmap % 256 ^ form.width
read-at form page entries j b h e =
    ap (λ (xs : List ℕ). number_of (take form.width xs)) (sym (drop-drop (j * form_len form) 16 page))
    ∙ (ap number_of (sym (take-take form.width (form_len form) (drop (j * form_len form) (drop 16 page)) (width-le form))
    ∙ (ap (take form.width) (entry-at form (drop 16 page) entries j b h e)
    ∙ take_at (le form.width b.bitmap) (if form.full then full_bytes b.full else []) form.width (length-le form.width b.bitmap)))
    ∙ number_of-low form.width b.bitmap)

-- a part of an entry
part-at : (form : EntryForm) (page : List ℕ) (entries : List IndexEntry) (j : ℕ) (b : IndexEntry) (at m : ℕ) → InFront form (drop 16 page) entries → slice_get entries j ≡ Some b → at + m ≤ form_len form →
    take m (drop (16 + j * form_len form + at) page) ≡ take m (drop at (bytes_of form b))
part-at form page entries j b at m h e room =
    let w = form_len form in
    let whole : take w (drop (16 + j * w) page) ≡ bytes_of form b = ap (take w) (sym (drop-drop (j * w) 16 page)) ∙ entry-at form (drop 16 page) entries j b h e in
    let n : w ≡ at + (w - at) = omega (arith, room) in
    ap (λ (xs : List ℕ). take m xs) (let k : 16 + j * w + at ≡ 16 + j * w + at = refl in sym (drop-drop at (16 + j * w) page))
    ∙ (sym (take-take m (w - at) (drop at (drop (16 + j * w) page)) (omega (arith, room)))
    ∙ ap (take m) (sym (drop-take at (w - at) (drop (16 + j * w) page)) ∙ (ap (λ k. drop at (take k (drop (16 + j * w) page))) (sym n) ∙ ap (drop at) whole)))

-- what a full entry tells beside its bitmap, where it is read
pub full-at : (form : EntryForm) (page : List ℕ) (entries : List IndexEntry) (j : ℕ) (b : IndexEntry) → InFront form (drop 16 page) entries → slice_get entries j ≡ Some b → form.full ≡ true → full_at form page j ≡ fields_of b.full
full-at form page entries j b h e full =
    let long : form_len form ≡ form.width + 14 = ap (λ t. form.width + cond t 14 0) full in
    let bytes : bytes_of form b ≡ le form.width b.bitmap ++ full_bytes b.full = ap (λ t. le form.width b.bitmap ++ cond t (full_bytes b.full) []) full in
    let w = length-le form.width b.bitmap in
    let k = le 8 b.full.first_key in
    let c = le 2 b.full.count in
    let f = le 4 b.full.blob_end in
    let fields : drop form.width (bytes_of form b) ≡ full_bytes b.full = ap (drop form.width) bytes ∙ drop_at (le form.width b.bitmap) (full_bytes b.full) form.width w in
    let later : (n : ℕ) → drop (form.width + n) (bytes_of form b) ≡ drop n (full_bytes b.full) = λ n. sym (drop-drop n form.width (bytes_of form b)) ∙ ap (drop n) fields in
    let key : take 8 (drop (16 + j * form_len form + form.width) page) ≡ k =
    part-at form page entries j b form.width 8 h e (omega (arith, long)) ∙ (ap (take 8) (fields ∙ append_assoc k c f) ∙ take_at k (c ++ f) 8 (length-le 8 b.full.first_key)) in
    let count : take 2 (drop (16 + j * form_len form + form.width + 8) page) ≡ c =
    ap (λ n. take 2 (drop n page)) (let s : 16 + j * form_len form + form.width + 8 ≡ 16 + j * form_len form + (form.width + 8) = omega arith in s)
    ∙ (part-at form page entries j b (form.width + 8) 2 h e (omega (arith, long))
    ∙ (ap (take 2) (later 8 ∙ (ap (drop 8) (append_assoc k c f) ∙ drop_at k (c ++ f) 8 (length-le 8 b.full.first_key))) ∙ take_at c f 2 (length-le 2 b.full.count))) in
    let end : take 4 (drop (16 + j * form_len form + form.width + 10) page) ≡ f =
    ap (λ n. take 4 (drop n page)) (let s : 16 + j * form_len form + form.width + 10 ≡ 16 + j * form_len form + (form.width + 10) = omega arith in s)
    ∙ (part-at form page entries j b (form.width + 10) 4 h e (omega (arith, long))
    ∙ (ap (take 4) (later 10 ∙ drop_at (k ++ c) f 10 (omega (arith, length-append k c, length-le 8 b.full.first_key, length-le 2 b.full.count))) ∙ take_all 4 f (omega (arith, length-le 4 b.full.blob_end)))) in
    rw (key, count, end, number_of-low 8 b.full.first_key, number_of-low 2 b.full.count, number_of-low 4 b.full.blob_end) refl

-- the low bytes of a number that were copied to a part
pub low-written : (w at b : ℕ) (old new : List ℕ) → w ≤ 8 → new ≡ take w (to_le_bytes w64 b) → put_mid at (at + w - at) old new ≡ splice old at (le w b)
low-written w at b old new few is =
    let low : new ≡ le w b = is ∙ (ap (λ n. take w (bytes_low_first 0 n b)) (let k : 8 ≡ w + (8 - w) = omega (arith, few) in k) ∙ take-low w (8 - w) 0 b) in
    ap (λ (l : List ℕ). take at old ++ (l ++ drop (at + w - at) (drop at old))) low
    ∙ ap (λ (l : List ℕ). take at old ++ (le w b ++ l)) (drop-drop (at + w - at) at old ∙ ap (λ (k : ℕ). drop k old) (let k : at + (at + w - at) ≡ at + length (le w b) = omega (arith, length-le w b) in k))

-- one more is written behind the others
pub push-in : (form : EntryForm) (n : ℕ) (page : List ℕ) (entries : List IndexEntry) (b : IndexEntry) → length entries ≡ n → 16 + n * form_len form + form_len form ≤ length page → InFront form (drop 16 page) entries →
    InFront form (drop 16 (splice page (16 + n * form_len form) (bytes_of form b))) (entries ++ b ∷ [])
push-in form n page entries b len room h =
    let w = form_len form in
    ap (λ k. take k (drop 16 (splice page (16 + n * w) (bytes_of form b)))) (ap (λ m. m * w) (length-append entries (b ∷ []) ∙ (omega (arith, len))) ∙ one_more n w)
    ∙ (sym (drop-take 16 (w + n * w) (splice page (16 + n * w) (bytes_of form b)))
    ∙ (ap (drop 16) (take-splice_end page (16 + n * w) (16 + (w + n * w)) (bytes_of form b) (omega (arith, room)) (omega (arith, length-entry form b)))
    ∙ (drop-append-le 16 (take (16 + n * w) page) (bytes_of form b) (omega (arith, length-take-le (16 + n * w) page (omega (arith, room))))
    ∙ (ap (λ (xs : List ℕ). xs ++ bytes_of form b) (drop-take 16 (n * w) page ∙ (ap (λ m. take (m * w) (drop 16 page)) (sym len) ∙ h))
    ∙ (ap (λ (xs : List ℕ). flat_map (bytes_of form) entries ++ xs) (sym (append-nil (bytes_of form b))) ∙ sym (flat_map-append (bytes_of form) entries (b ∷ [])))))))

-- another place keeps its bitmap
pub other-kept : (form : EntryForm) (n j : ℕ) (page : List ℕ) (b : IndexEntry) → j < n → 16 + n * form_len form + form_len form ≤ length page → bitmap_at form (splice page (16 + n * form_len form) (bytes_of form b)) j ≡ bitmap_at form page j
other-kept form n j page b lt room =
    let w = form_len form in
    let up : (j + 1) * w ≤ n * w = mul-le-mul_right w (let k : j + 1 ≤ n = omega (arith, lt) in k) in
    let split : (j + 1) * w ≡ j * w + 1 * w = add-mul j 1 w in
    let few = width-le form in
    ap number_of (sym (drop-take (16 + j * w) form.width (splice page (16 + n * w) (bytes_of form b)))
    ∙ (ap (drop (16 + j * w)) (front (16 + j * w + form.width) (omega (arith, up, split, few))) ∙ drop-take (16 + j * w) form.width page))
  where
    front : (k : ℕ) → k ≤ 16 + n * form_len form → take k (splice page (16 + n * form_len form) (bytes_of form b)) ≡ take k page
    front k le_at =
        take-append-le k (take (16 + n * form_len form) page) (bytes_of form b ++ drop (16 + n * form_len form + length (bytes_of form b)) page) (omega (arith, le_at, length-take-le (16 + n * form_len form) page (omega (arith, room))))
        ∙ take-take k (16 + n * form_len form) page le_at

-- the form of the entries of a plan
abbrev pub plan_form : Plan → EntryForm
plan_form plan = record { width = plan.bits / 8; full = plan.full_index }

pub header-length : (a b c : ℕ) → length (header_bytes a b c) ≡ 16
header-length a b c =
    omega (arith, length-append (le 4 a ++ le 4 b ++ le 2 c) (le 6 0), length-append (le 4 a ++ le 4 b) (le 2 c), length-append (le 4 a) (le 4 b), length-le 4 a, length-le 4 b, length-le 2 c, length-le 6 0)

-- the body with a full list of entries, whose header was written
pub body-is : (plan : Plan) (number first : ℕ) (body : List ℕ) (entries : List IndexEntry) (n : ℕ) → length entries ≡ n → length body + 8 ≡ plan.geometry.page → 16 + n * entry_len plan ≤ length body →
    InFront (plan_form plan) (drop 16 body) entries →
    drop (16 + n * entry_len plan) body ≡ replicate (length body - (16 + n * entry_len plan)) 255 →
    splice body 0 (header_bytes number first n) ≡ index_body plan number first entries
body-is plan number first body entries n len size room h blank =
    let w = entry_len plan in
    let header = header_bytes number first n in
    let flat = flat_map (entry_bytes plan) entries in
    let head_len : length (header_bytes number first n) ≡ 16 = header-length number first n in
    let flat_len : length flat ≡ n * w = ap length (sym h) ∙ (length-take-le (length entries * w) (drop 16 body) (let e = ap (λ m. m * w) len in omega (arith, e, room, length-drop 16 body)) ∙ ap (λ m. m * w) len) in
    let rest : drop (n * w) (drop 16 body) ≡ replicate (plan.geometry.page - 8 - length (header ++ flat)) 255 =
    drop-drop (n * w) 16 body ∙ (blank
    ∙ ap (λ k. replicate k 255) (let k : length body - (16 + n * w) ≡ plan.geometry.page - 8 - length (header ++ flat) = omega (arith, size, length-append header flat, head_len, flat_len) in k)) in
    ap (λ (xs : List ℕ). xs ++ (header ++ drop (0 + length header) body)) (take_none body)
    ∙ (ap (λ k. header ++ drop k body) (let k : 0 + length header ≡ 16 = omega (arith, head_len) in k)
    ∙ (ap (λ (xs : List ℕ). header ++ xs) (sym (take-append-drop (n * w) (drop 16 body)) ∙ (ap (λ (xs : List ℕ). xs ++ drop (n * w) (drop 16 body)) (ap (λ m. take (m * w) (drop 16 body)) (sym len) ∙ h) ∙ ap (λ (xs : List ℕ). flat ++ xs) rest))
    ∙ (sym (append_assoc header flat (replicate (plan.geometry.page - 8 - length (header ++ flat)) 255))
    ∙ ap (λ m. (header_bytes number first m ++ flat) ++ replicate (plan.geometry.page - 8 - length (header_bytes number first m ++ flat)) 255) (sym len))))

onto-small : (plan : Plan) (n : ℕ) → ((v : ℤ) → bucket_of plan v < n) → (b : ℕ) (es : List Entry) → b < 2 ^ n → onto plan b es < 2 ^ n
onto-small plan n within b [] lt = lt
onto-small plan n within b (entry ∷ es) lt =
    onto-small plan n within (bit_or b (2 ^ bucket_of plan (first_value entry))) es (or_lt n b (2 ^ bucket_of plan (first_value entry)) lt (pow-lt (within (first_value entry))))

-- a bitmap has room in its bits
pub bitmap-small : (plan : Plan) (entries : List Entry) → IsTrue (is_bits plan.bits) → bitmap_of plan entries % 256 ^ (plan.bits / 8) ≡ bitmap_of plan entries
bitmap-small plan entries bits =
    let which = cases plan.bits bits in
    let lt : bitmap_of plan entries < 2 ^ plan.bits = by_none (plan.bits == 0) (onto-small plan plan.bits (λ v. within v (int_div_euclid (v -ℤ plan.base) (pos plan.width)) (some plan.bits which)) 0 entries (one-le-pow plan.bits 2 (omega arith))) in
    mod-eq_of_lt (subst (λ n. bitmap_of plan entries < n) (powers plan.bits which) lt)
  where
    cases : (n : ℕ) → IsTrue (is_bits n) → (n ≡ 8) ⊎ ((n ≡ 16) ⊎ (n ≡ 64))
    cases n h = by_tests (n == 8) (n == 16) (n == 64) refl refl refl h
      where
        by_tests : (a b c : Bool) → (n == 8) ≡ a → (n == 16) ≡ b → (n == 64) ≡ c → (a || b || c) ≡ true → (n ≡ 8) ⊎ ((n ≡ 16) ⊎ (n ≡ 64))
        by_tests true b c x y z h = inl (eqb-true n 8 x)
        by_tests false true c x y z h = inr (inl (eqb-true n 16 y))
        by_tests false false true x y z h = inr (inr (eqb-true n 64 z))
        by_tests false false false x y z h = cc

    some : (n : ℕ) → (n ≡ 8) ⊎ ((n ≡ 16) ⊎ (n ≡ 64)) → 1 ≤ n
    some n (inl e) = omega arith
    some n (inr (inl e)) = omega arith
    some n (inr (inr e)) = omega arith

    powers : (n : ℕ) → (n ≡ 8) ⊎ ((n ≡ 16) ⊎ (n ≡ 64)) → 2 ^ n ≡ 256 ^ (n / 8)
    powers n (inl e) = subst (λ k. 2 ^ k ≡ 256 ^ (k / 8)) (sym e) refl
    powers n (inr (inl e)) = subst (λ k. 2 ^ k ≡ 256 ^ (k / 8)) (sym e) refl
    powers n (inr (inr e)) = subst (λ k. 2 ^ k ≡ 256 ^ (k / 8)) (sym e) refl

    within : (v z : ℤ) → 1 ≤ plan.bits → clamped z (plan.bits - 1) < plan.bits
    within v (pos n) h = omega (arith, h)
    within v (negsuc n) h = omega (arith, h)

    by_none : (b : Bool) → onto plan 0 entries < 2 ^ plan.bits → cond b 0 (onto plan 0 entries) < 2 ^ plan.bits
    by_none true h = one-le-pow plan.bits 2 (omega arith)
    by_none false h = h

-- an entry that was written in parts
pub full-written : (at : ℕ) (old : List ℕ) (full : Full) → at + 14 ≤ length old →
    splice (splice (splice old at (le 8 full.first_key)) (at + 8) (le 2 full.count)) (at + 10) (le 4 full.blob_end) ≡ splice old at (full_bytes full)
full-written at old full room =
    let k = length-le 8 full.first_key in
    let c = length-le 2 full.count in
    let e = length-le 4 full.blob_end in
    let kc = length-append (le 8 full.first_key) (le 2 full.count) in
    ap (λ (l : List ℕ). splice l (at + 10) (le 4 full.blob_end)) (splice-splice old at (at + 8) (le 8 full.first_key) (le 2 full.count) (omega (arith, k)) (omega (arith, k, c, room)))
    ∙ splice-splice old at (at + 10) (le 8 full.first_key ++ le 2 full.count) (le 4 full.blob_end) (omega (arith, k, c, kc)) (omega (arith, k, c, e, kc, room))

pub whole-written : (form : EntryForm) (at : ℕ) (old new : List ℕ) (entry : IndexEntry) → form.full ≡ true → at + form_len form ≤ length old →
    new ≡ splice (splice old at (le form.width entry.bitmap)) (at + form.width) (full_bytes entry.full) → new ≡ splice old at (bytes_of form entry)
whole-written form at old new entry full room is =
    let long : form_len form ≡ form.width + 14 = ap (λ b. form.width + cond b 14 0) full in
    let w = length-le form.width entry.bitmap in
    let f = full-length entry.full in
    is ∙ (splice-splice old at (at + form.width) (le form.width entry.bitmap) (full_bytes entry.full) (omega (arith, w)) (omega (arith, w, f, long, room))
    ∙ ap (λ b. splice old at (le form.width entry.bitmap ++ cond b (full_bytes entry.full) [])) (sym full))

pub short-written : (form : EntryForm) (at : ℕ) (old new : List ℕ) (entry : IndexEntry) → form.full ≡ false →
    new ≡ splice old at (le form.width entry.bitmap) → new ≡ splice old at (bytes_of form entry)
short-written form at old new entry full is =
    is ∙ (ap (splice old at) (sym (append-nil (le form.width entry.bitmap))) ∙ ap (λ b. splice old at (le form.width entry.bitmap ++ cond b (full_bytes entry.full) [])) (sym full))

pub entry-within : (form : EntryForm) (j n : ℕ) → 16 + (j + 1) * form_len form ≤ n → 16 + j * form_len form + form.width ≤ n
entry-within form j n room = omega (arith, room, add-mul j 1 (form_len form), width-le form)

-- what stands behind all places of entries stands when one is written, and when the header is
behind-kept : (at k : ℕ) (page bs new : List ℕ) → at + length bs ≤ k → at + length bs ≤ length page → new ≡ splice page at bs →
    drop k page ≡ replicate (length page - k) 255 → drop k new ≡ replicate (length new - k) 255
behind-kept at k page bs new le room is blank =
    let end = at + length bs in
    let split : k ≡ end + (k - end) = omega (arith, le) in
    let same : length new ≡ length page = ap length is ∙ length-splice page at bs room in
    ap (drop k) is
    ∙ (ap (λ n. drop n (splice page at bs)) split ∙ (sym (drop-drop (k - end) end (splice page at bs))
    ∙ (ap (drop (k - end)) (drop-splice page at bs (omega (arith, room)))
    ∙ (drop-drop (k - end) end page ∙ (ap (λ n. drop n page) (sym split) ∙ (blank ∙ ap (λ n. replicate (n - k) 255) (sym same)))))))

pub rest-kept : (form : EntryForm) (n m : ℕ) (page : List ℕ) (b : IndexEntry) (new : List ℕ) → n < m → 16 + n * form_len form + form_len form ≤ length page → new ≡ splice page (16 + n * form_len form) (bytes_of form b) →
    drop (16 + m * form_len form) page ≡ replicate (length page - (16 + m * form_len form)) 255 → drop (16 + m * form_len form) new ≡ replicate (length new - (16 + m * form_len form)) 255
rest-kept form n m page b new lt room is blank =
    let w = form_len form in
    let up : (n + 1) * w ≤ m * w = mul-le-mul_right w (let k : n + 1 ≤ m = omega (arith, lt) in k) in
    let split : (n + 1) * w ≡ n * w + 1 * w = add-mul n 1 w in
    let len = length-entry form b in
    behind-kept (16 + n * w) (16 + m * w) page (bytes_of form b) new (omega (arith, up, split, len)) (omega (arith, room, len)) is blank

-- what was written to a whole list stands in its place
pub written-back : {X : Type 0} (n : ℕ) (old new is : List X) → new ≡ is → length is ≡ length old → n ≡ length old → take n (new ++ drop (length new) old) ≡ is
written-back n old new is e same len =
    let k = ap length e in
    take-append-le n new (drop (length new) old) (omega (arith, same, len, k)) ∙ (take_all n new (omega (arith, same, len, k)) ∙ e)

pub entry-length : (form : EntryForm) (n : ℕ) (page : List ℕ) (b : IndexEntry) → 16 + n * form_len form + form_len form ≤ length page → length (splice page (16 + n * form_len form) (bytes_of form b)) ≡ length page
entry-length form n page b room = length-splice page (16 + n * form_len form) (bytes_of form b) (omega (arith, room, length-entry form b))

pub headed-length : (a b c : ℕ) (page : List ℕ) → 16 ≤ length page → length (splice page 0 (header_bytes a b c)) ≡ length page
headed-length a b c page room = length-splice page 0 (header_bytes a b c) (omega (arith, room, header-length a b c))

pub rest-headed : (a b c k : ℕ) (page new : List ℕ) → 16 ≤ length page → new ≡ splice page 0 (header_bytes a b c) → drop (16 + k) page ≡ replicate (length page - (16 + k)) 255 → drop (16 + k) new ≡ replicate (length new - (16 + k)) 255
rest-headed a b c k page new room is blank =
    let len = header-length a b c in
    behind-kept 0 (16 + k) page (header_bytes a b c) new (omega (arith, len)) (omega (arith, len, room)) is blank
