-- A line ends between quotes where the machine of the crate csv does.
use Rattle.std.proofs.Common.{◌≡◌, ℕ, Bool, true, false, eqb, eqb-true, List, [], ◌∷◌, Option, Some, None, Bor, length, take, drop, ◌+◌, ◌≤◌, refl, sym, subst, ◌∙◌, ap}
use Rattle.std.specs.Prelude.{⊤, MatchOption, unwrap_or}
use lib.Pointwise.{pointwise}
use Rattle.std.proofs.lemmas.List.{take_all}
use Rattle.std.specs.List.{fold}
use Rattle.std.proofs.lemmas.Bool.{false≢true, true≢false}
use Rattle.csv.specs.Machine.{in_field, start_field, start_record, step}
use Rattle.csv.specs.Reading.{default_config, strip_bom}
use Rattle.csv.specs.declared.parser.Action.{Action}
use Rattle.csv.specs.declared.parser.State.{State}
use Rattle.csv.specs.declared.parser.State.TheVariants as st
use Rattle.fl_csv.specs.declared.quotes.Place.{Place}
use Rattle.fl_csv.specs.declared.quotes.Place.TheVariants.{Edge, Bare, Quoted}
use Rattle.fl_csv.specs.Laws.{QuotesAsCsv, is_quoted}
use Rattle.fl_csv.specs.Lines.{is_between, is_open, place_after, place_outside}

-- without escapes and comments two states are never reached
abbrev IsReached : State → Type 0
IsReached st.StartRecord = ⊤
IsReached st.StartField = ⊤
IsReached st.InField = ⊤
IsReached st.InQuoted = ⊤
IsReached st.AfterQuote = ⊤
IsReached st.InEscape = ⊥
IsReached st.InComment = ⊥
IsReached st.AfterCr = ⊤

abbrev place_of : State → Place
place_of st.StartRecord = Edge
place_of st.StartField = Edge
place_of st.InField = Bare
place_of st.InQuoted = Quoted
place_of st.AfterQuote = Edge
place_of st.InEscape = Bare
place_of st.InComment = Bare
place_of st.AfterCr = Edge

abbrev Is : State → Place → Type 0
Is s p = (place_of s ≡ p) × IsReached s

outside : (c : ℕ) → Is (in_field default_config c).0 (place_outside c)
outside c = by (eqb c 44) refl (eqb c 13) refl (eqb c 10) refl
  where
    by : (d : Bool) → eqb c 44 ≡ d → (r : Bool) → eqb c 13 ≡ r → (n : Bool) → eqb c 10 ≡ n → Is (in_field default_config c).0 (place_outside c)
    by true d r f n g = rw d (refl, tt)
    by false d true f n g = rw (d, f) (refl, tt)
    by false d false f true g = rw (d, f, g) (refl, tt)
    by false d false f false g = rw (d, f, g) (refl, tt)

at-field : (c : ℕ) → Is (start_field default_config c).0 (place_after Edge c)
at-field c = by (eqb c 34) refl
  where
    by : (q : Bool) → eqb c 34 ≡ q → Is (start_field default_config c).0 (place_after Edge c)
    by true q = rw q (refl, tt)
    by false q = rw q (outside c)

record-start : (c : ℕ) → eqb c 13 ≡ false → eqb c 10 ≡ false → start_record default_config c ≡ start_field default_config c
record-start c f g = rw (f, g) refl

at-record : (c : ℕ) → Is (start_record default_config c).0 (place_after Edge c)
at-record c = by (eqb c 13) refl (eqb c 10) refl
  where
    by : (r : Bool) → eqb c 13 ≡ r → (n : Bool) → eqb c 10 ≡ n → Is (start_record default_config c).0 (place_after Edge c)
    by true f n g = rw (eqb-true c 13 f) (refl, tt)
    by false f true g = rw (eqb-true c 10 g) (refl, tt)
    by false f false g = subst (λ (m : State × Action). Is m.0 (place_after Edge c)) (sym (record-start c f g)) (at-field c)

after-start : (c : ℕ) → eqb c 10 ≡ false → step default_config st.AfterCr c ≡ start_record default_config c
after-start c g = rw g refl

one-byte : (s : State) (c : ℕ) → IsReached s → Is (step default_config s c).0 (place_after (place_of s) c)
one-byte st.StartRecord c h = at-record c
one-byte st.StartField c h = at-field c
one-byte st.InField c h = outside c
one-byte st.InQuoted c h = by (eqb c 34) refl
  where
    by : (q : Bool) → eqb c 34 ≡ q → Is (step default_config st.InQuoted c).0 (place_after Quoted c)
    by true q = rw q (refl, tt)
    by false q = rw q (refl, tt)
one-byte st.AfterQuote c h = by (eqb c 34) refl
  where
    by : (q : Bool) → eqb c 34 ≡ q → Is (step default_config st.AfterQuote c).0 (place_after Edge c)
    by true q = rw q (refl, tt)
    by false q = rw q (outside c)
one-byte st.InEscape c h = absurd h
one-byte st.InComment c h = absurd h
one-byte st.AfterCr c h = by (eqb c 10) refl
  where
    by : (n : Bool) → eqb c 10 ≡ n → Is (step default_config st.AfterCr c).0 (place_after Edge c)
    by true g = rw (eqb-true c 10 g) (refl, tt)
    by false g = subst (λ (m : State × Action). Is m.0 (place_after Edge c)) (sym (after-start c g)) (at-record c)

between : (s : State) → IsReached s → is_between (place_of s) ≡ is_quoted s
between st.StartRecord h = refl
between st.StartField h = refl
between st.InField h = refl
between st.InQuoted h = refl
between st.AfterQuote h = refl
between st.InEscape h = absurd h
between st.InComment h = absurd h
between st.AfterCr h = refl

all-bytes : (bytes : List ℕ) (s : State) → IsReached s
    → is_between (fold place_after (place_of s) bytes) ≡ is_quoted (fold (λ state byte. (step default_config state byte).0) s bytes)
all-bytes [] s h = between s h
all-bytes (byte ∷ bytes) s h =
    let next = one-byte s byte h in
    ap (λ place. is_between (fold place_after place bytes)) (sym next.0) ∙ all-bytes bytes (step default_config s byte).0 next.1

pub quotes-same : QuotesAsCsv
quotes-same line = all-bytes (strip_bom line) st.StartRecord tt

-- ---- the code's way over the bytes

abbrev mark : List ℕ
mark = 239 ∷ 187 ∷ 191 ∷ []

unmarked : (line : List ℕ) → pointwise eqb (take 3 line) mark ≡ false → line ≡ strip_bom line
unfolding strip_bom
unmarked [] h = refl
unmarked (a ∷ []) h = refl
unmarked (a ∷ b ∷ []) h = refl
unmarked (a ∷ b ∷ c ∷ rest) h = by (eqb a 239) refl (eqb b 187) refl (eqb c 191) refl
  where
    by : (p : Bool) → eqb a 239 ≡ p → (q : Bool) → eqb b 187 ≡ q → (r : Bool) → eqb c 191 ≡ r → a ∷ b ∷ c ∷ rest ≡ strip_bom (a ∷ b ∷ c ∷ rest)
    by false e q f r g = rw e refl
    by true e false f r g = rw (e, f) refl
    by true e true f false g = rw (e, f, g) refl
    by true e true f true g = absurd (true≢false (rw (e, f, g) at h))

marked : (line : List ℕ) → pointwise eqb (take 3 line) mark ≡ true → drop 3 line ≡ strip_bom line
unfolding strip_bom
marked [] h = absurd (false≢true h)
marked (a ∷ []) h = by (eqb a 239) refl
  where
    by : (p : Bool) → eqb a 239 ≡ p → drop 3 (a ∷ []) ≡ strip_bom (a ∷ [])
    by false e = cc (rw e at h)
    by true e = cc (rw e at h)
marked (a ∷ b ∷ []) h = by (eqb a 239) refl (eqb b 187) refl
  where
    by : (p : Bool) → eqb a 239 ≡ p → (q : Bool) → eqb b 187 ≡ q → drop 3 (a ∷ b ∷ []) ≡ strip_bom (a ∷ b ∷ [])
    by false e q f = cc (rw e at h)
    by true e false f = cc (rw (e, f) at h)
    by true e true f = cc (rw (e, f) at h)
marked (a ∷ b ∷ c ∷ rest) h = by (eqb a 239) refl (eqb b 187) refl (eqb c 191) refl
  where
    by : (p : Bool) → eqb a 239 ≡ p → (q : Bool) → eqb b 187 ≡ q → (r : Bool) → eqb c 191 ≡ r → rest ≡ strip_bom (a ∷ b ∷ c ∷ rest)
    by false e q f r g = cc (rw e at h)
    by true e false f r g = cc (rw (e, f) at h)
    by true e true f false g = cc (rw (e, f, g) at h)
    by true e true f true g = rw (e, f, g) refl

pub without : (line : List ℕ) (found : Option (Bor (List ℕ))) (other : Bor (List ℕ))
    → MatchOption found (pointwise eqb (take 3 line) mark ≡ false) (λ x. (pointwise eqb (take 3 line) mark ≡ true) × (x.now ≡ drop 3 line) × (length x.now + 3 ≡ length line))
    → other.now ≡ line → (unwrap_or found other).now ≡ strip_bom line
without line None other h e = e ∙ unmarked line h
without line (Some x) other h e = h.1 ∙ marked line h.0

pub ends-open : (line text : List ℕ) (place : Place) (i : ℕ) → text ≡ strip_bom line → length text ≤ i → place ≡ fold place_after Edge (take i text)
    → is_between place ≡ is_open line
ends-open line text place i is le walked =
    ap is_between (walked ∙ ap (fold place_after Edge) (take_all i text le ∙ is))
