-- References to blobs in ten bytes.
use Rattle.std.proofs.Common.{◌≡◌, ℕ, suc, ◌+◌, ◌-◌, ◌*◌, ◌^◌, ◌<◌, ◌≤◌, Bool, ◌&&◌, ◌==◌, if◌then◌else◌, inl, inr, Some, None, List, [], ◌∷◌, ◌++◌, length, take, drop, get_or, slice_range, refl, sym, ap, ◌∙◌, arith, append_assoc, length-append, length-take, length-drop}
use Rattle.std.proofs.Math.Seq.{take-add}
use Rattle.std.proofs.Math.Nat.{one-le-pow, pow-suc}
use Rattle.std.proofs.lemmas.Bool.{cases_lt}
use Rattle.std.proofs.lemmas.Bool.Decides.{nat_tests}
use Rattle.std.proofs.lemmas.List.{drop-drop, length-take-le, get_or-take, get_or-drop, get_or_past}
use Rattle.std.proofs.lemmas.List.Folds.{list_all-append}
use Rattle.std.specs.List.{list_all}
use Rattle.std.specs.Int.{w16, w32, from_le_bytes}
use Rattle.fl_base.specs.Bytes.{splice}
use Rattle.fl_base.proofs.Ranges.{drop-splice}
use Rattle.fl_schema.proofs.RowColumns.{take-splice_end}
use Rattle.fl_base.specs.declared.types.BlobRef.{BlobRef}
use Rattle.fl_model.specs.Row.{number_of, reference_in}

abbrev pub all_255 : List ℕ → Bool
all_255 bytes = list_all (λ byte. byte == 255) bytes

-- bytes are all 255 where their number is the greatest
pub all_255_is : (bytes : List ℕ) → ((k : ℕ) → get_or bytes k 0 < 256) → all_255 bytes ≡ (number_of bytes == 256 ^ length bytes - 1)
all_255_is [] each = refl
all_255_is (b ∷ bs) each = top_byte b (number_of bs) (256 ^ length bs) (256 ^ suc (length bs)) (all_255 bs) (each 0) (one-le-pow (length bs) 256 (omega arith)) (pow-suc 256 (length bs)) (all_255_is bs (λ k. each (suc k)))
  where
    top_byte : (b n p q : ℕ) (all : Bool) → b < 256 → 1 ≤ p → q ≡ p * 256 → all ≡ (n == p - 1) → ((b == 255) && all) ≡ (b + 256 * n == q - 1)
    top_byte b n p q all byte some power rest = grind (arith, nat_tests)

pub from_le_bytes_2 : (bytes : List ℕ) → length bytes ≡ 2 → from_le_bytes w16 bytes ≡ number_of bytes
from_le_bytes_2 [] h = absurd (omega arith)
from_le_bytes_2 (a ∷ []) h = absurd (omega arith)
from_le_bytes_2 (a ∷ b ∷ []) h = omega arith
from_le_bytes_2 (a ∷ b ∷ c ∷ others) h = absurd (omega arith)

pub from_le_bytes_4 : (bytes : List ℕ) → length bytes ≡ 4 → from_le_bytes w32 bytes ≡ number_of bytes
from_le_bytes_4 [] h = absurd (omega arith)
from_le_bytes_4 (a ∷ []) h = absurd (omega arith)
from_le_bytes_4 (a ∷ b ∷ []) h = absurd (omega arith)
from_le_bytes_4 (a ∷ b ∷ c ∷ []) h = absurd (omega arith)
from_le_bytes_4 (a ∷ b ∷ c ∷ d ∷ []) h = omega arith
from_le_bytes_4 (a ∷ b ∷ c ∷ d ∷ e ∷ others) h = absurd (omega arith)

-- two splices, one behind the other
pub splice-splice : (xs : List ℕ) (at at' : ℕ) (bs cs : List ℕ) → at' ≡ at + length bs → at + length bs + length cs ≤ length xs → splice (splice xs at bs) at' cs ≡ splice xs at (bs ++ cs)
splice-splice xs at at' bs cs is room =
    let whole = length-append bs cs in
    let rest : drop (at' + length cs) (splice xs at bs) ≡ drop (at + length (bs ++ cs)) xs =
    ap (λ (k : ℕ). drop k (splice xs at bs)) (ap (λ (k : ℕ). k + length cs) is) ∙ sym (drop-drop (length cs) (at + length bs) (splice xs at bs))
    ∙ ap (λ (l : List ℕ). drop (length cs) l) (drop-splice xs at bs (omega arith)) ∙ drop-drop (length cs) (at + length bs) xs ∙ ap (λ (k : ℕ). drop k xs) (omega (arith, whole)) in
    ap (λ (l : List ℕ). l ++ (cs ++ drop (at' + length cs) (splice xs at bs))) (take-splice_end xs at at' bs (omega arith) is)
    ∙ append_assoc (take at xs) bs (cs ++ drop (at' + length cs) (splice xs at bs))
    ∙ ap (λ (l : List ℕ). take at xs ++ l) (sym (append_assoc bs cs (drop (at' + length cs) (splice xs at bs))) ∙ ap (λ (l : List ℕ). bs ++ cs ++ l) rest)

-- ---- what is read

each_taken : (n k : ℕ) (bytes : List ℕ) → ((k : ℕ) → get_or bytes k 0 < 256) → get_or (take n bytes) k 0 < 256
each_taken n k bytes each = elim (cases_lt k n) [
  | inl within ↦ rw (get_or-take n bytes k 0 within) (each k)
  | inr past ↦ rw (get_or_past (take n bytes) k 0 (omega (arith, length-take n bytes))) (omega arith)
]

-- ten bytes are all 255 where the three numbers in them are the greatest
pub ten_255 : (bytes : List ℕ) → 10 ≤ length bytes → ((k : ℕ) → get_or bytes k 0 < 256)
    → all_255 (take 10 bytes) ≡ ((number_of (take 4 bytes) == 4294967295) && ((number_of (take 2 (drop 4 bytes)) == 65535) && (number_of (take 4 (drop 6 bytes)) == 4294967295)))
ten_255 bytes room each =
    let a = take 4 bytes in
    let b = take 2 (drop 4 bytes) in
    let c = take 4 (drop 6 bytes) in
    let each_b : (k : ℕ) → get_or (drop 4 bytes) k 0 < 256 = λ k. rw (get_or-drop 4 bytes k 0) (each (4 + k)) in
    let each_c : (k : ℕ) → get_or (drop 6 bytes) k 0 < 256 = λ k. rw (get_or-drop 6 bytes k 0) (each (6 + k)) in
    let la : length (take 4 bytes) ≡ 4 = length-take-le 4 bytes (omega arith) in
    let lb : length (take 2 (drop 4 bytes)) ≡ 2 = length-take-le 2 (drop 4 bytes) (omega (arith, length-drop 4 bytes)) in
    let lc : length (take 4 (drop 6 bytes)) ≡ 4 = length-take-le 4 (drop 6 bytes) (omega (arith, length-drop 6 bytes)) in
    let whole : take 10 bytes ≡ a ++ (b ++ c) = take-add 4 6 bytes ∙ ap (λ (l : List ℕ). a ++ l) (take-add 2 4 (drop 4 bytes) ∙ ap (λ (l : List ℕ). b ++ take 4 l) (drop-drop 2 4 bytes)) in
    ap all_255 whole ∙ list_all-append (λ byte. byte == 255) a (b ++ c) ∙ ap (λ (t : Bool). all_255 a && t) (list_all-append (λ byte. byte == 255) b c)
    ∙ ap (λ (t : Bool). t && (all_255 b && all_255 c)) (all_255_is a (λ k. each_taken 4 k bytes each) ∙ ap (λ (n : ℕ). number_of a == 256 ^ n - 1) la)
    ∙ ap (λ (t : Bool). (number_of a == 4294967295) && (t && all_255 c)) (all_255_is b (λ k. each_taken 2 k (drop 4 bytes) each_b) ∙ ap (λ (n : ℕ). number_of b == 256 ^ n - 1) lb)
    ∙ ap (λ (t : Bool). (number_of a == 4294967295) && ((number_of b == 65535) && t)) (all_255_is c (λ k. each_taken 4 k (drop 6 bytes) each_c) ∙ ap (λ (n : ℕ). number_of c == 256 ^ n - 1) lc)

-- the numbers of the fields from `at` on
pub field_4 : (bytes : List ℕ) (at more from end : ℕ) → from ≡ at + more → end ≡ from + 4 → end ≤ length bytes → from_le_bytes w32 (slice_range bytes from end) ≡ number_of (take 4 (drop more (drop at bytes)))
field_4 bytes at more from end is to room =
    let four : end - from ≡ 4 = omega arith in
    let part : slice_range bytes from end ≡ take 4 (drop more (drop at bytes)) = ap (λ (k : ℕ). take k (drop from bytes)) four ∙ ap (λ (k : ℕ). take 4 (drop k bytes)) is ∙ ap (λ (l : List ℕ). take 4 l) (sym (drop-drop more at bytes)) in
    from_le_bytes_4 (slice_range bytes from end) (length-take-le (end - from) (drop from bytes) (omega (arith, length-drop from bytes)) ∙ four) ∙ ap number_of part

pub field_2 : (bytes : List ℕ) (at more from end : ℕ) → from ≡ at + more → end ≡ from + 2 → end ≤ length bytes → from_le_bytes w16 (slice_range bytes from end) ≡ number_of (take 2 (drop more (drop at bytes)))
field_2 bytes at more from end is to room =
    let two : end - from ≡ 2 = omega arith in
    let part : slice_range bytes from end ≡ take 2 (drop more (drop at bytes)) = ap (λ (k : ℕ). take k (drop from bytes)) two ∙ ap (λ (k : ℕ). take 2 (drop k bytes)) is ∙ ap (λ (l : List ℕ). take 2 l) (sym (drop-drop more at bytes)) in
    from_le_bytes_2 (slice_range bytes from end) (length-take-le (end - from) (drop from bytes) (omega (arith, length-drop from bytes)) ∙ two) ∙ ap number_of part

pub reference_read : (bytes : List ℕ) (blob : BlobRef) (none : Bool) → 10 ≤ length bytes → ((k : ℕ) → get_or bytes k 0 < 256)
    → blob.page ≡ number_of (take 4 bytes) → blob.offset ≡ number_of (take 2 (drop 4 bytes)) → blob.length ≡ number_of (take 4 (drop 6 bytes))
    → none ≡ ((blob.page == 4294967295) && ((blob.offset == 65535) && (blob.length == 4294967295))) → (if none then None else Some blob) ≡ reference_in bytes
reference_read bytes blob none room each page offset len test =
    let read : BlobRef = record { page = number_of (take 4 bytes); offset = number_of (take 2 (drop 4 bytes)); length = number_of (take 4 (drop 6 bytes)) } in
    let same : blob ≡ read =
    ap (λ (p : ℕ). record { page = p; offset = blob.offset; length = blob.length }) page
    ∙ ap (λ (o : ℕ). record { page = number_of (take 4 bytes); offset = o; length = blob.length }) offset
    ∙ ap (λ (l : ℕ). record { page = number_of (take 4 bytes); offset = number_of (take 2 (drop 4 bytes)); length = l }) len in
    let is : none ≡ all_255 (take 10 bytes) =
    test ∙ ap (λ (b : BlobRef). (b.page == 4294967295) && ((b.offset == 65535) && (b.length == 4294967295))) same ∙ sym (ten_255 bytes room each) in
    ap (λ (b : BlobRef). if none then None else Some b) same ∙ ap (λ (t : Bool). if t then None else Some read) is
