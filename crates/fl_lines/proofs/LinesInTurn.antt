-- A text of which lines are read one after another.
use Rattle.std.proofs.Common.{◌≡◌, ℕ, ◌+◌, ◌-◌, ◌<◌, ◌≤◌, Bool, true, false, nat_lt, ◌==◌, List, [], ◌∷◌, ◌++◌, length, take, drop, refl, sym, ◌∙◌, ap, subst, arith, append_assoc, append-nil, length-append}
use Rattle.std.specs.Prelude.{if◌then◌else◌, min, unwrap_or, Some, None, Ok, Err}
use Rattle.std.proofs.lemmas.List.Sums.{sum_by-append, sum_by-cons}
use Rattle.std.proofs.lemmas.Bool.{lt-ltb, le-ltb, ltb-true, ltb-false, ne_eqb}
use Rattle.std.proofs.Math.Seq.{take-append-add, take-append_seam, drop-append-add, drop-append_seam}
use Rattle.std.specs.List.{onto_first, last_or}
use Rattle.std.proofs.lemmas.List.Elements.{All-head, All-tail}
use Rattle.std.proofs.lemmas.List.Splits.{slice_split-cons_no}
use Rattle.fl_words.specs.Grammar.{lines_of, no_empty_last}
use Rattle.fl_words.specs.Parts.{line_parts}
use Rattle.fl_lines.specs.Given.{Given}
use Rattle.fl_lines.specs.Taken.{HasTaken, TakesWithin, begin_behind}
use Rattle.fl_lines.specs.Stream.{LinesState, TakesAhead}
use Rattle.fl_lines.specs.declared.lines.LinesFault.TheVariants.{Long}
use Rattle.fl_lines.specs.Texts.{all_but_last, whole_lines, rest_of, long_rest, lines_within}
use Rattle.fl_lines.proofs.Parts.{OneLine, within-line, whole-line, whole-rest, rest-line, rest-rest, lines-rest, parts-some, same_test}

-- the next line begins behind one more
pub behind-more : (given : List (List ℕ)) (line : List ℕ) → begin_behind (given ++ line ∷ []) ≡ begin_behind given + (length line + 1)
behind-more given line = sum_by-append (λ (l : List ℕ). length l + 1) given (line ∷ []) ∙ ap (λ n. begin_behind given + n) (sum_by-cons (λ (l : List ℕ). length l + 1) line [] ∙ omega arith)

pub given-none : (most : ℕ) (text : List ℕ) (closed : Bool) → (closed ≡ true → text ≡ []) → Given most text [] closed most text
given-none most text closed ended = record {
  ended = ended;
  lines = refl;
  long = refl;
  begin = [];
  parts = refl;
  size = omega arith;
  front = [];
  split = λ _. refl;
  bytes = λ _. omega arith;
  whole = λ _ xs. refl;
  behind = λ _ xs. refl;
}

-- a whole line is given
pub given-line : (most : ℕ) (text : List ℕ) (given : List (List ℕ)) (most_now : ℕ) (rest line rest_now : List ℕ) →
    Given most text given false most_now rest → rest ≡ line ++ 10 ∷ rest_now → OneLine line → length line < most_now →
    Given most text (given ++ line ∷ []) false (most_now - (length line + 1)) rest_now
given-line most text given most_now rest line rest_now g e h short =
    let count : length rest ≡ length line + (length rest_now + 1) = ap length e ∙ (length-append line (10 ∷ rest_now) ∙ omega arith) in
    let joined : (xs : List ℕ) → (g.front ++ (line ++ 10 ∷ [])) ++ xs ≡ g.front ++ (line ++ 10 ∷ xs) =
    λ xs. append_assoc g.front (line ++ 10 ∷ []) xs ∙ ap (λ ys. g.front ++ ys) (append_assoc line (10 ∷ []) xs) in
    record {
      lines = g.lines ∙ (ap (λ r. given ++ lines_within most_now r) e
          ∙ (ap (λ r. given ++ r) (within-line line rest_now most_now h short)
          ∙ sym (append_assoc given (line ∷ []) (lines_within (most_now - (length line + 1)) rest_now))));
      long = g.long ∙ same_test most_now (length rest) (most_now - (length line + 1)) (length rest_now) (λ k. omega arith) (λ k. omega arith);
      ended = λ c. cc;
      begin = g.begin ++ (line ++ 10 ∷ []);
      parts = g.parts ∙ (ap (λ r. g.begin ++ r) e ∙ sym (append_assoc g.begin (line ++ 10 ∷ []) rest_now ∙ ap (λ ys. g.begin ++ ys) (append_assoc line (10 ∷ []) rest_now)));
      size = omega (arith, g.size, length-append g.begin (line ++ 10 ∷ []), length-append line (10 ∷ []), behind-more given line);
      front = g.front ++ (line ++ 10 ∷ []);
      split = λ c. g.split c ∙ (ap (λ r. g.front ++ r) e ∙ sym (joined rest_now));
      bytes = λ c. omega (arith, g.bytes c, length-append g.front (line ++ 10 ∷ []), length-append line (10 ∷ []));
      whole = λ c xs.
          ap whole_lines (joined xs)
          ∙ (g.whole c (line ++ 10 ∷ xs)
          ∙ (ap (λ r. given ++ r) (whole-line line xs h) ∙ sym (append_assoc given (line ∷ []) (whole_lines xs))));
      behind = λ c xs. ap rest_of (joined xs) ∙ (g.behind c (line ++ 10 ∷ xs) ∙ rest-line line xs h);
    }

all_within : (most : ℕ) (text : List ℕ) → length text ≤ most → lines_within most text ≡ lines_of text
all_within most text h = ap (λ b. if b then whole_lines (take most text) ++ long_rest (take most text) else lines_of text) (le-ltb most (length text) h)

-- the last line is given, which has no newline
pub given-last : (most : ℕ) (text : List ℕ) (given : List (List ℕ)) (most_now most_then : ℕ) (rest line rest_now : List ℕ) →
    Given most text given false most_now rest → rest ≡ line → rest_now ≡ [] → OneLine line → 0 < length line → length line ≤ most_now →
    Given most text (given ++ line ∷ []) true most_then rest_now
given-last most text given most_now most_then rest line rest_now g e none h some short =
    let count : length rest ≡ length line = ap length e in
    let nothing : lines_within most_then rest_now ≡ [] = ap (lines_within most_then) none ∙ all_within most_then [] (omega arith) in
    record {
      lines = g.lines ∙ (ap (λ r. given ++ lines_within most_now r) e
          ∙ (ap (λ r. given ++ r) (all_within most_now line short ∙ lines-rest line h some)
          ∙ (sym (append-nil (given ++ line ∷ [])) ∙ ap (λ r. (given ++ line ∷ []) ++ r) (sym nothing))));
      long = g.long ∙ (le-ltb most_now (length rest) (omega arith) ∙ sym (le-ltb most_then (length rest_now) (omega (arith, ap length none))));
      ended = λ c. none;
      begin = g.begin ++ line;
      parts = g.parts ∙ (ap (λ r. g.begin ++ r) e ∙ (sym (append-nil (g.begin ++ line)) ∙ ap (λ r. (g.begin ++ line) ++ r) (sym none)));
      size = omega (arith, g.size, length-append g.begin line, behind-more given line);
      front = [];
      split = λ c. cc;
      bytes = λ c. cc;
      whole = λ c. cc;
      behind = λ c. cc;
    }

-- all lines are given
pub given-all : (most : ℕ) (text : List ℕ) (given : List (List ℕ)) (closed : Bool) (most_now : ℕ) (rest : List ℕ) →
    Given most text given closed most_now rest → rest ≡ [] → (lines_within most text ≡ given) × (nat_lt most (length text) ≡ false)
given-all most text given closed most_now rest g e = (
  g.lines ∙ (ap (λ r. given ++ lines_within most_now r) e ∙ (ap (λ r. given ++ r) (all_within most_now [] (omega arith)) ∙ append-nil given)),
  g.long ∙ (ap (λ r. nat_lt most_now (length r)) e ∙ le-ltb most_now 0 (omega arith)),
)

-- of what is left of a text a part was taken
pub given-part : (most : ℕ) (text : List ℕ) (given : List (List ℕ)) (closed : Bool) (most_now : ℕ) (rest part left : List ℕ) (limit : ℕ) →
    (g : Given most text given closed most_now rest) → rest ≡ part ++ left → length g.begin + length part ≤ limit → HasTaken text limit (Some left)
given-part most text given closed most_now rest part left limit g e few =
    let whole : text ≡ (g.begin ++ part) ++ left = g.parts ∙ (ap (λ r. g.begin ++ r) e ∙ sym (append_assoc g.begin part left)) in
    record {
      taken = length (g.begin ++ part);
      within = omega (arith, ap length whole, length-append (g.begin ++ part) left);
      few = omega (arith, few, length-append g.begin part);
      left = ap Some (sym (ap (drop (length (g.begin ++ part))) whole ∙ drop-append_seam (g.begin ++ part) left));
    }

-- where no more is taken of what is left than is read, and one byte, no more is of the text
pub begin-fits : (most : ℕ) (text : List ℕ) (given : List (List ℕ)) (closed : Bool) (most_now : ℕ) (rest : List ℕ) (n : ℕ) →
    (g : Given most text given closed most_now rest) → n ≤ length rest → n ≤ most_now + 1 → length g.begin + n ≤ most + 1
begin-fits most text given true most_now rest n g within few =
    omega (arith, within, ap length (g.ended refl), ap length g.parts, length-append g.begin rest, ltb-false most (length text) (given-all most text given true most_now rest g (g.ended refl)).1)
begin-fits most text given false most_now rest n g within few =
    omega (arith, few, g.bytes refl, ap length g.parts, length-append g.begin rest, ap length (g.split refl), length-append g.front rest)

-- .. and so much is within the line that comes next
pub given-within : (most : ℕ) (text : List ℕ) (given : List (List ℕ)) (closed : Bool) (most_now : ℕ) (rest part left : List ℕ) →
    Given most text given closed most_now rest → rest ≡ part ++ left → length part ≤ 4097 → length part ≤ most_now + 1 → TakesWithin most text given (Some left)
given-within most text given closed most_now rest part left g e small few =
    let fits : length g.begin + length part ≤ most + 1 = begin-fits most text given closed most_now rest (length part) g (omega (arith, ap length e, length-append part left)) few in
    given-part most text given closed most_now rest part left (min (begin_behind given + 4097) (most + 1)) g e (omega (arith, g.size, small, fits))

-- .. with a line
pub given-few : (most : ℕ) (text : List ℕ) (given : List (List ℕ)) (old : LinesState) (left left_now : List ℕ) →
    Given most text given old.closed old.most (old.ahead ++ left) → TakesAhead old (old.ahead ++ left) (Ok true) left_now → TakesWithin most text given (Some left_now)
given-few most text given old left left_now g t = given-within most text given old.closed old.most (old.ahead ++ left) t.0 left_now g t.1 t.2 (omega (arith, t.3))

-- .. or one byte more than is read
pub given-over : (most : ℕ) (text : List ℕ) (given : List (List ℕ)) (old : LinesState) (left left_now : List ℕ) →
    (g : Given most text given old.closed old.most (old.ahead ++ left)) → old.closed ≡ false → TakesAhead old (old.ahead ++ left) (Err Long) left_now → HasTaken text (most + 1) (Some left_now)
given-over most text given old left left_now g o t =
    let rest = old.ahead ++ left in
    let same : length g.begin ≡ length g.front = omega (arith, ap length g.parts, length-append g.begin rest, ap length (g.split o), length-append g.front rest) in
    given-part most text given old.closed old.most rest t.0 left_now (most + 1) g t.1 (omega (arith, g.bytes o, t.2, same))

-- the source was read up to a part of a line
pub record IsTaken (text : List ℕ) (most : ℕ) (given : List (List ℕ)) (left : List ℕ) : Type 0 where
  pub taken : ℕ
  pub within : taken ≤ length text
  pub few : taken ≤ most
  pub short : length (rest_of (take taken text)) ≤ 4096
  pub left_is : drop taken text ≡ left
  pub whole : whole_lines (take taken text) ≡ given

pub given-taken : (most : ℕ) (text : List ℕ) (given : List (List ℕ)) (most_now : ℕ) (rest ahead left : List ℕ) →
    Given most text given false most_now rest → rest ≡ ahead ++ left → OneLine ahead → length ahead ≤ most_now → length ahead ≤ 4096 → IsTaken text most given left
given-taken most text given most_now rest ahead left g e h fits short =
    let split : text ≡ g.front ++ (ahead ++ left) = g.split refl ∙ ap (λ r. g.front ++ r) e in
    let cut : take (length g.front + length ahead) text ≡ g.front ++ ahead =
    ap (take (length g.front + length ahead)) split
    ∙ (take-append-add g.front (ahead ++ left) (length ahead) ∙ ap (λ r. g.front ++ r) (take-append_seam ahead left)) in
    let rest_is : rest_of (take (length g.front + length ahead) text) ≡ ahead = ap rest_of cut ∙ (g.behind refl ahead ∙ rest-rest ahead h) in
    record {
      taken = length g.front + length ahead;
      within = omega (arith, ap length split, length-append g.front (ahead ++ left), length-append ahead left);
      few = omega (arith, g.bytes refl);
      short = omega (arith, ap length rest_is);
      left_is = ap (drop (length g.front + length ahead)) split ∙ (drop-append-add g.front (ahead ++ left) (length ahead) ∙ drop-append_seam ahead left);
      whole = ap whole_lines cut ∙ (g.whole refl ahead ∙ (ap (λ r. given ++ r) (whole-rest ahead h) ∙ append-nil given));
    }

-- so many bytes were read as are at most, up to a part of a line
pub given-most : (most : ℕ) (text : List ℕ) (given : List (List ℕ)) (most_now : ℕ) (rest ahead left : List ℕ) →
    Given most text given false most_now rest → rest ≡ ahead ++ left → OneLine ahead → length ahead ≡ most_now → length ahead ≤ 4096 → 0 < length left →
    (lines_within most text ≡ given) × (most < length text)
given-most most text given most_now rest ahead left g e h full short more =
    let count : length rest ≡ length ahead + length left = ap length e ∙ length-append ahead left in
    let is_long : nat_lt most_now (length rest) ≡ true = lt-ltb most_now (length rest) (omega arith) in
    let cut : take most_now rest ≡ ahead = ap (take most_now) e ∙ (ap (λ n. take n (ahead ++ left)) (sym full) ∙ take-append_seam ahead left) in
    let rest_is : rest_of (take most_now rest) ≡ ahead = ap rest_of cut ∙ rest-rest ahead h in
    let no_long : long_rest (take most_now rest) ≡ [] =
    ap (λ r. if nat_lt 4096 (length r) then r ∷ [] else []) rest_is ∙ ap (λ b. if b then ahead ∷ [] else []) (le-ltb 4096 (length ahead) short) in
    let none : lines_within most_now rest ≡ [] =
    ap (λ b. if b then whole_lines (take most_now rest) ++ long_rest (take most_now rest) else lines_of rest) is_long
    ∙ (ap (λ ls. ls ++ long_rest (take most_now rest)) (ap whole_lines cut ∙ whole-rest ahead h) ∙ no_long) in (
      g.lines ∙ (ap (λ r. given ++ r) none ∙ append-nil given),
      ltb-true most (length text) (g.long ∙ is_long),
    )

-- a line that is too long
pub record IsTooLong (most : ℕ) (text : List ℕ) (given : List (List ℕ)) : Type 0 where
  pub line : List ℕ
  pub others : List (List ℕ)
  pub lines : lines_within most text ≡ given ++ line ∷ others
  pub long : 4096 < length line

-- the first part of a text begins with a front that has no newline
record BeginsWith (front : List ℕ) (parts : List (List ℕ)) : Type 0 where
  first : List ℕ
  others : List (List ℕ)
  parts_are : parts ≡ (front ++ first) ∷ others

first-none : (parts : List (List ℕ)) → 0 < length parts → BeginsWith [] parts
first-none [] h = absurd (omega arith)
first-none (part ∷ parts) h = record { first = part; others = parts; parts_are = refl }

first-part : (front rest : List ℕ) → OneLine front → BeginsWith front (line_parts (front ++ rest))
first-part [] rest h = first-none (line_parts rest) (parts-some rest)
first-part (byte ∷ bytes) rest h =
    let b = first-part bytes rest (All-tail (λ b. (b == 10) ≡ false) byte bytes h) in
    record {
      first = b.first;
      others = b.others;
      parts_are = slice_split-cons_no (λ b. b == 10) byte (bytes ++ rest) (All-head (λ b. (b == 10) ≡ false) byte bytes h) ∙ ap (onto_first byte) b.parts_are;
    }

-- the first of lines is longer than this
record FirstLong (lines : List (List ℕ)) : Type 0 where
  line : List ℕ
  others : List (List ℕ)
  lines_are : lines ≡ line ∷ others
  long : 4096 < length line

lines-long : (line : List ℕ) (parts : List (List ℕ)) → 4096 < length line → FirstLong (no_empty_last (line ∷ parts))
lines-long line [] h = record {
  line = line;
  others = [];
  lines_are = ap (λ b. if b then [] else line ∷ []) (ne_eqb (length line) 0 (λ e. omega arith));
  long = h;
}
lines-long line (part ∷ parts) h = record { line = line; others = no_empty_last (part ∷ parts); lines_are = refl; long = h }

whole-long : (line : List ℕ) (parts : List (List ℕ)) → 4096 < length line →
    FirstLong (all_but_last (line ∷ parts) ++ (if nat_lt 4096 (length (unwrap_or (last_or None (line ∷ parts)) [])) then unwrap_or (last_or None (line ∷ parts)) [] ∷ [] else []))
whole-long line [] h = record {
  line = line;
  others = [];
  lines_are = ap (λ b. if b then line ∷ [] else []) (lt-ltb 4096 (length line) h);
  long = h;
}
whole-long line (part ∷ parts) h = record { line = line; others = _; lines_are = refl; long = h }

long_cases : (most : ℕ) (rest front others : List ℕ) (b : Bool) → rest ≡ front ++ others → OneLine front → 4096 < length front → length front ≤ most →
    FirstLong (if b then whole_lines (take most rest) ++ long_rest (take most rest) else lines_of rest)
long_cases most rest front others true e h long few =
    let cut : take most rest ≡ front ++ take (most - length front) others =
    ap (take most) e
    ∙ (ap (λ n. take n (front ++ others)) (let k : most ≡ length front + (most - length front) = omega arith in k) ∙ take-append-add front others (most - length front)) in
    let b = first-part front (take (most - length front) others) h in
    let parts : line_parts (take most rest) ≡ (front ++ b.first) ∷ b.others = ap line_parts cut ∙ b.parts_are in
    subst
    (λ ps. FirstLong (all_but_last ps ++ (if nat_lt 4096 (length (unwrap_or (last_or None ps) [])) then unwrap_or (last_or None ps) [] ∷ [] else [])))
    (sym parts)
    (whole-long (front ++ b.first) b.others (omega (arith, length-append front b.first)))
long_cases most rest front others false e h long few =
    let b = first-part front others h in
    let parts : line_parts rest ≡ (front ++ b.first) ∷ b.others = ap line_parts e ∙ b.parts_are in
    subst (λ ps. FirstLong (no_empty_last ps)) (sym parts) (lines-long (front ++ b.first) b.others (omega (arith, length-append front b.first)))

pub given-too_long : (most : ℕ) (text : List ℕ) (given : List (List ℕ)) (closed : Bool) (most_now : ℕ) (rest front others : List ℕ) →
    Given most text given closed most_now rest → rest ≡ front ++ others → OneLine front → 4096 < length front → length front ≤ most_now →
    IsTooLong most text given
given-too_long most text given closed most_now rest front others g e h long few =
    let f = long_cases most_now rest front others (nat_lt most_now (length rest)) e h long few in
    record { line = f.line; others = f.others; lines = g.lines ∙ ap (λ r. given ++ r) f.lines_are; long = f.long }
