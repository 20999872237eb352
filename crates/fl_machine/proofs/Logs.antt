-- A table with a log: what holds of it in each state.
use Rattle.std.proofs.Common.{◌≡◌, ℕ, ◌+◌, ◌-◌, ◌<◌, ◌≤◌, Bool, true, false, cond, not, ◌&&◌, ◌==◌, Option, Some, None, IfSome, List, [], ◌∷◌, ◌++◌, length, take, drop, filter, refl, sym, ◌∙◌, ap, subst, arith, ◌⊎◌, inl, inr, length-append, length-drop, length-take, IsTrue}
use Rattle.std.specs.List.{AllByRecursion, last_or, sum}
use Rattle.std.specs.Option.{option_map, unwrap_or}
use Rattle.std.proofs.lemmas.List.{take-append-drop, append-nil}
use Rattle.std.proofs.Math.Seq.{take-append_seam, drop-append_seam}
use Rattle.fl_model.specs.Ring.{Ring}
use Rattle.fl_model.specs.Table.{Table, Entry, is_after}
use Rattle.fl_model.specs.Log.{last_key}
use Rattle.fl_machine.specs.Found.{LoggedPast}

-- what of a table its log is about
pub record Core : Type 0 where
  pub entries : List Entry
  pub pending : ℕ
  pub counts : List ℕ
  pub next : ℕ
  pub torn : Bool
  pub logged : List Entry
  pub log : Option (List ℕ × Bool)

-- the pages of the log, and whether the one after them is torn
abbrev pub log_in : Option Ring → Option (List ℕ × Bool)
log_in None = None
log_in (Some ring) = Some (ring.counts, ring.torn)

abbrev pub core : Table → Core
core t = record {
  entries = t.entries;
  pending = t.pending;
  counts = t.rows.counts;
  next = t.rows.next;
  torn = t.rows.torn;
  logged = t.logged;
  log = log_in t.log;
}

-- the entries in data pages, and the others
abbrev pub front_of : Core → List Entry
front_of c = take (length c.entries - c.pending) c.entries

abbrev pub rest_of : Core → List Entry
rest_of c = drop (length c.entries - c.pending) c.entries

abbrev pub owed_of : Core → List Entry
owed_of c = filter (λ e. is_after (front_of c) e) c.logged

abbrev pub AreAbove : List Entry → List Entry → Type 0
AreAbove others es = AllByRecursion (λ e. IsTrue (is_after others e)) es

abbrev pub IsSafePage : List ℕ × Bool → Type 0
IsSafePage log =
    (others : List ℕ) × (count : ℕ) × (0 < count) × ((log.0 ≡ others ++ count ∷ []) ⊎ ((log.0 ≡ others ++ count ∷ 0 ∷ []) × (log.1 ≡ false)))

abbrev pub IsThere : Option (List ℕ × Bool) → Type 0
IsThere None = ⊥
IsThere (Some log) = Unit {0}

-- the last of some entries has the greatest key
abbrev pub Tops : List Entry → Type 0
Tops es = AllByRecursion (λ e. e.kept.key ≤ last_key es) es

-- what holds in each state
pub record IsFine (c : Core) : Type 0 where
  pub counted : sum c.counts + c.pending ≡ length c.entries
  pub numbered : length c.counts ≤ c.next
  pub has_log : IsThere c.log
  pub greatest : Tops (front_of c)
  pub ascending : Tops c.logged
  pub whole : (owed_of c ≡ c.logged) ⊎ ((owed_of c ≡ []) × (c.torn ≡ false))
  pub safe : (owed_of c ≡ [] → ⊥) → IfSome c.log IsSafePage

-- the log ends with a page that has records
abbrev pub EndsFull : Core → Type 0
EndsFull c = (others : List ℕ) × (count : ℕ) × (torn : Bool) × (0 < count) × (c.log ≡ Some (others ++ count ∷ [], torn))

-- nothing is pending
pub record IsIdle (c : Core) : Type 0 where
  pub none : c.pending ≡ 0
  pub calm : c.torn ≡ false

-- .. by a put: no torn page comes after it
abbrev pub EndsWhole : Core → Type 0
EndsWhole c = (others : List ℕ) × (count : ℕ) × (0 < count) × (c.log ≡ Some (others ++ count ∷ [], false))

-- the log has what is pending
pub record IsReady (c : Core) : Type 0 where
  pub some : 0 < c.pending
  pub same : c.logged ≡ rest_of c
  pub above : AreAbove (front_of c) (rest_of c)

-- the log has what is pending but for the last record
pub record IsJoining (c : Core) : Type 0 where
  pub front : List Entry
  pub new : Entry
  pub is : rest_of c ≡ front ++ new ∷ []
  pub above : AreAbove (front_of c) (front ++ new ∷ [])
  pub least : AllByRecursion (λ e. e.kept.key < new.kept.key) front
  pub behind : AllByRecursion (λ e. e.kept.key < new.kept.key) c.logged
  pub logged : ((c.logged ≡ front) × EndsFull c) ⊎ ((front ≡ []) × (owed_of c ≡ []) × (c.torn ≡ false))

pub data Phase (c : Core) : Type 0 where
  Idle : (h : IsIdle c) → Phase c
  Ready : (h : IsReady c) → Phase c
  Joining : (h : IsJoining c) → Phase c

-- the past of a table that stops here
abbrev pub past_in : Core → ℕ → LoggedPast
past_in c given_up = record {
  held = cond (c.pending == 0) (c.entries ++ owed_of c) c.entries;
  pending = cond (c.pending == 0) (length (owed_of c)) c.pending;
  unlogged = not (c.pending == 0) && not (unwrap_or (option_map (λ (last : Entry). last.kept.key == last_key c.entries) (last_or None c.logged)) false);
  given_up = given_up;
}

-- what is in memory alone is lost
abbrev pub lost : Core → Core
lost c = record c { entries = front_of c; pending = 0 }

-- what stands where no session is, and what a mount will find of it
abbrev pub IsOwedFound : LoggedPast → Core → Type 0
IsOwedFound past c =
    ((c.entries ≡ drop past.given_up past.held) × (owed_of c ≡ []))
    ⊎ (((c.entries ≡ drop past.given_up (take (length past.held - past.pending) past.held))
    × ((c.entries ++ owed_of c ≡ drop past.given_up past.held)
    ⊎ (IsTrue past.unlogged × (c.entries ++ owed_of c ≡ drop past.given_up (take (length past.held - 1) past.held)))))
    ⊎ (IsTrue past.unlogged × (c.entries ≡ drop past.given_up (take (length past.held - 1) past.held)) × (owed_of c ≡ [])))

pub record RestsAs (past : LoggedPast) (c : Core) : Type 0 where
  pub fine : IsFine c
  pub none : c.pending ≡ 0
  pub found : IsOwedFound past c

-- ---- lists

pub filter_all : {X : Type 0} (test : X → Bool) (xs : List X) → AllByRecursion (λ x. IsTrue (test x)) xs → filter test xs ≡ xs
filter_all test [] h = refl
filter_all test (x ∷ xs) h = rw (h.0, filter_all test xs h.1) refl

pub filter_none : {X : Type 0} (test : X → Bool) (xs : List X) → AllByRecursion (λ x. test x ≡ false) xs → filter test xs ≡ []
filter_none test [] h = refl
filter_none test (x ∷ xs) h = rw (h.0, filter_none test xs h.1) refl

pub filter_empty : {X : Type 0} (test : X → Bool) (xs : List X) → filter test xs ≡ [] → AllByRecursion (λ x. test x ≡ false) xs
filter_empty test [] h = tt
filter_empty {X} test (x ∷ xs) h = by_test (test x) refl h (λ k. filter_empty test xs k)
  where
    by_test : (b : Bool) → test x ≡ b → cond b (x ∷ filter test xs) (filter test xs) ≡ [] → (filter test xs ≡ [] → AllByRecursion (λ x. test x ≡ false) xs) →
        (test x ≡ false) × AllByRecursion (λ x. test x ≡ false) xs
    by_test true e h go = absurd (some h)
      where
        some : x ∷ filter test xs ≡ [] → ⊥
        some e = cc
    by_test false e h go = (e, go h)

-- the entries are those in data pages and the others
pub splits : (c : Core) → front_of c ++ rest_of c ≡ c.entries
splits c = take-append-drop (length c.entries - c.pending) c.entries

pub front-is : (c : Core) (xs ys : List Entry) → c.entries ≡ xs ++ ys → length ys ≡ c.pending → front_of c ≡ xs
front-is c xs ys e n =
    let len : length c.entries - c.pending ≡ length xs = let l = length-append xs ys in let m : length c.entries ≡ length (xs ++ ys) = ap (λ (zs : List Entry). length zs) e in omega (arith, l, m, n) in
    ap (λ k. take k c.entries) len ∙ (ap (take (length xs)) e ∙ take-append_seam xs ys)

pub rest-is : (c : Core) (xs ys : List Entry) → c.entries ≡ xs ++ ys → length ys ≡ c.pending → rest_of c ≡ ys
rest-is c xs ys e n =
    let len : length c.entries - c.pending ≡ length xs = let l = length-append xs ys in let m : length c.entries ≡ length (xs ++ ys) = ap (λ (zs : List Entry). length zs) e in omega (arith, l, m, n) in
    ap (λ k. drop k c.entries) len ∙ (ap (drop (length xs)) e ∙ drop-append_seam xs ys)

pub front-all : (c : Core) → c.pending ≡ 0 → front_of c ≡ c.entries
front-all c z = front-is c c.entries [] (sym (append-nil c.entries)) (sym z)

pub rest-length : (c : Core) → IsFine c → length (rest_of c) ≡ c.pending
rest-length c h = let few : c.pending ≤ length c.entries = omega (arith, h.counted) in length-drop (length c.entries - c.pending) c.entries ∙ (omega (arith, few))

pub front-lost : (c : Core) → front_of (lost c) ≡ front_of c
front-lost c = front-all (lost c) refl

pub owed-lost : (c : Core) → owed_of (lost c) ≡ owed_of c
owed-lost c = ap (λ (es : List Entry). filter (λ e. is_after es e) c.logged) (front-lost c)

pub fine-lost : (c : Core) → IsFine c → IsFine (lost c)
fine-lost c h = record {
  counted = let few : c.pending ≤ length c.entries = omega (arith, h.counted) in omega (arith, h.counted, length-take (length c.entries - c.pending) c.entries);
  numbered = h.numbered;
  has_log = h.has_log;
  greatest = subst Tops (sym (front-lost c)) h.greatest;
  ascending = h.ascending;
  whole = elim h.whole [ inl e ↦ inl (owed-lost c ∙ e) | inr e ↦ inr (owed-lost c ∙ e.0, e.1) ];
  safe = λ some. h.safe (λ e. some (owed-lost c ∙ e));
}
