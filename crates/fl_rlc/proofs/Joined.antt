-- The records of a log join a table one after another, as many as it takes.
use Rattle.std.proofs.Common.{◌≡◌, ℕ, suc, ◌+◌, ◌-◌, ◌/◌, ◌<◌, ◌≤◌, Bool, true, false, cond, ◌==◌, nat_lt, nat_le, Option, Some, None, List, [], ◌∷◌, ◌++◌, length, take, filter, replicate, refl, sym, ◌∙◌, ap, arith, IsTrue, append_assoc, eq-eqb}
use Rattle.std.specs.List.{AllByRecursion, last_or, slice_get}
use Rattle.std.specs.Option.{option_map, unwrap_or}
use Rattle.std.proofs.Math.Nat.{lt_trans, zero-div}
use Rattle.std.proofs.Math.Seq.{take-length}
use Rattle.std.proofs.lemmas.Bool.{le-ltb, lt-leb, ltb-true, eqb-true, lt-ltb}
use Rattle.std.proofs.lemmas.List.{append-nil}
use Rattle.std.proofs.lemmas.Option.{none-some}
use Rattle.fl_model.specs.Bare.{bare_table}
use Rattle.fl_model.specs.Facts.{FitsPlan, IsLogPage}
use Rattle.fl_model.specs.Mount.{joined}
use Rattle.fl_model.specs.Record.{Plan, has_var, key_limit, rows_per_page, content_per_page}
use Rattle.fl_model.specs.Table.{Table, Entry, RingName, VarRing, LogRing, Refusal, BadKey, after_seals, is_after, is_rows_spent, owed, written, refusal_of, put_joined, put_record, with_room, with_record, join_seals, log_seals, table_seals, refuse_if}
use Rattle.fl_model.proofs.Lists.{last_or-push}
use Rattle.fl_machine.proofs.Logs.{filter_all}
use Rattle.fl_machine.proofs.LogTables.{takes}
use Rattle.fl_rlc.specs.Joining.{more, taken, all_taken}
use Rattle.fl_rlc.proofs.NewestRows.{fits-plain}

-- all of these, and the last one
pub taken-push : (t : Table) (es : List Entry) (e : Entry) → all_taken t (es ++ e ∷ []) ≡ taken (all_taken t es) e
taken-push t [] e = refl
taken-push t (x ∷ es) e = taken-push (taken t x) es e

-- ---- of records that ascend

abbrev AreAfter : ℕ → List Entry → Type 0
AreAfter key es = AllByRecursion (λ e. key < e.kept.key) es

abbrev Ascend : List Entry → Type 0
Ascend [] = Unit {0}
Ascend (e ∷ es) = AreAfter e.kept.key es × Ascend es

ascend-of : (es : List Entry) → ((i j : ℕ) (a b : Entry) → i < j → slice_get es i ≡ Some a → slice_get es j ≡ Some b → a.kept.key < b.kept.key) → Ascend es
ascend-of [] h = tt
ascend-of (e ∷ es) h = (after es (λ j b k. h 0 (suc j) e b (omega arith) refl k), ascend-of es (λ i j a b lt k m. h (suc i) (suc j) a b (omega (arith, lt)) k m))
  where
    after : (xs : List Entry) → ((j : ℕ) (b : Entry) → slice_get xs j ≡ Some b → e.kept.key < b.kept.key) → AreAfter e.kept.key xs
    after [] k = tt
    after (x ∷ xs) k = (k 0 x refl, after xs (λ j b m. k (suc j) b m))

above-one : (others : List Entry) (e x : Entry) → e.kept.key < x.kept.key → is_after (others ++ e ∷ []) x ≡ true
above-one others e x lt = ap (λ (o : Option Entry). unwrap_or (option_map (λ last. nat_lt last.kept.key x.kept.key) o) true) (last_or-push None others e) ∙ lt-ltb e.kept.key x.kept.key lt

above-later : (others : List Entry) (e x : Entry) → is_after others e ≡ true → e.kept.key < x.kept.key → is_after others x ≡ true
above-later others e x h lt = by-last (last_or None others) h
  where
    by-last : (o : Option Entry) → unwrap_or (option_map (λ last. nat_lt last.kept.key e.kept.key) o) true ≡ true → unwrap_or (option_map (λ last. nat_lt last.kept.key x.kept.key) o) true ≡ true
    by-last None k = refl
    by-last (Some w) k = lt-ltb w.kept.key x.kept.key (lt_trans (ltb-true w.kept.key e.kept.key k) lt)

all-above : (others : List Entry) (e : Entry) (es : List Entry) → is_after others e ≡ true → AreAfter e.kept.key es → AllByRecursion (λ x. IsTrue (is_after others x)) es
all-above others e [] h k = tt
all-above others e (x ∷ es) h k = (above-later others e x h k.0, all-above others e es h k.1)

-- none is taken where no page number is left
spent-none : (t : Table) (es : List Entry) → is_rows_spent t ≡ true → all_taken t es ≡ t
spent-none t [] s = refl
spent-none t (e ∷ es) s = ap (λ (b : Bool). all_taken (cond b t (cond (is_after t.entries e) (more t e) t)) es) s ∙ spent-none t es s

-- behind the last one all are taken
rest-taken : (t : Table) (es : List Entry) → is_rows_spent t ≡ false → AllByRecursion (λ x. IsTrue (is_after t.entries x)) es → Ascend es → all_taken t es ≡ record t { entries = t.entries ++ es; pending = t.pending + length es }
rest-taken t [] s above up = ap (λ (xs : List Entry). record t { entries = xs }) (sym (append-nil t.entries)) ∙ ap (λ (n : ℕ). record t { entries = t.entries ++ []; pending = n }) (let e : t.pending ≡ t.pending + 0 = omega arith in e)
rest-taken t (e ∷ es) s above up =
    let u = more t e in
    let one : taken t e ≡ more t e = ap (λ (b : Bool). cond b t (cond (is_after t.entries e) (more t e) t)) s ∙ ap (λ (b : Bool). cond b (more t e) t) above.0 in
    ap (λ (x : Table). all_taken x es) one
    ∙ (rest-taken (more t e) es s (behind es up.0) up.1
    ∙ (ap (λ (xs : List Entry). record t { entries = xs; pending = t.pending + 1 + length es }) (append_assoc t.entries (e ∷ []) es)
    ∙ ap (λ (n : ℕ). record t { entries = t.entries ++ (e ∷ es); pending = n }) (let k : t.pending + 1 + length es ≡ t.pending + suc (length es) = omega arith in k)))
  where
    behind : (es : List Entry) → AreAfter e.kept.key es → AllByRecursion (λ x. IsTrue (is_after (t.entries ++ e ∷ []) x)) es
    behind [] k = tt
    behind (x ∷ es) k = (above-one t.entries e x k.0, behind es k.1)

-- those above the others are
some-taken : (t : Table) (es : List Entry) → is_rows_spent t ≡ false → Ascend es →
    all_taken t es ≡ record t { entries = t.entries ++ filter (λ e. is_after t.entries e) es; pending = t.pending + length (filter (λ e. is_after t.entries e) es) }
some-taken t [] s up = ap (λ (xs : List Entry). record t { entries = xs }) (sym (append-nil t.entries)) ∙ ap (λ (n : ℕ). record t { entries = t.entries ++ []; pending = n }) (let e : t.pending ≡ t.pending + 0 = omega arith in e)
some-taken t (e ∷ es) s up = by-above (is_after t.entries e) refl (some-taken t es s up.1)
  where
    by-above : (b : Bool) → is_after t.entries e ≡ b → all_taken t es ≡ record t { entries = t.entries ++ filter (λ e. is_after t.entries e) es; pending = t.pending + length (filter (λ e. is_after t.entries e) es) } →
        all_taken (cond (is_rows_spent t) t (cond b (more t e) t)) es
        ≡ record t { entries = t.entries ++ cond b (e ∷ filter (λ e. is_after t.entries e) es) (filter (λ e. is_after t.entries e) es); pending = t.pending + length (cond b (e ∷ filter (λ e. is_after t.entries e) es) (filter (λ e. is_after t.entries e) es)) }
    by-above true k ih =
        let rest = all-above t.entries e es k up.0 in
        let all = filter_all (λ x. is_after t.entries x) es rest in
        let whole = rest-taken t (e ∷ es) s (k, rest) up in
        ap (λ (b : Bool). all_taken (cond (is_rows_spent t) t (cond b (more t e) t)) es) (sym k)
        ∙ (whole ∙ ap (λ (xs : List Entry). record t { entries = t.entries ++ e ∷ xs; pending = t.pending + length (e ∷ xs) }) (sym all))
    by-above false k ih = ap (λ (b : Bool). all_taken (cond b t t) es) s ∙ ih

-- what joins a table without pending records
pub joined-is : (plan : Plan) (t : Table) → t.pending ≡ 0 → IsLogPage plan t.logged → bare_table (joined t) ≡ all_taken (bare_table t) t.logged
joined-is plan t none page = by-spent (is_rows_spent t) refl
  where
    up : Ascend t.logged
    up = ascend-of t.logged page.ascending

    all : written t ≡ t.entries
    all = ap (λ (n : ℕ). take n t.entries) (let e : length t.entries - t.pending ≡ length t.entries = omega (arith, none) in e) ∙ take-length t.entries

    owed-is : owed t ≡ filter (λ e. is_after t.entries e) t.logged
    owed-is = ap (λ (xs : List Entry). filter (λ e. is_after xs e) t.logged) all

    by-spent : (b : Bool) → is_rows_spent t ≡ b → bare_table (cond b t (record t { entries = t.entries ++ owed t; pending = length (owed t) })) ≡ all_taken (bare_table t) t.logged
    by-spent true s = sym (spent-none (bare_table t) t.logged s)
    by-spent false s =
        ap (λ (es : List Entry). record (bare_table t) { entries = t.entries ++ es; pending = length es }) owed-is
        ∙ (ap (λ (n : ℕ). record (bare_table t) { entries = t.entries ++ filter (λ e. is_after t.entries e) t.logged; pending = n }) (let k : length (filter (λ e. is_after t.entries e) t.logged) ≡ t.pending + length (filter (λ e. is_after t.entries e) t.logged) = omega (arith, none) in k)
        ∙ sym (some-taken (bare_table t) t.logged s up))

-- nothing joins where the log has no records
pub nothing-joins : (t : Table) → t.pending ≡ 0 → t.logged ≡ [] → joined t ≡ t
nothing-joins t none empty = by-spent (is_rows_spent t)
  where
    owes : owed t ≡ []
    owes = ap (λ (es : List Entry). filter (λ e. is_after (written t) e) es) empty

    by-spent : (b : Bool) → cond b t (record t { entries = t.entries ++ owed t; pending = length (owed t) }) ≡ t
    by-spent true = refl
    by-spent false =
        ap (λ (es : List Entry). record t { entries = t.entries ++ es; pending = length es }) owes
        ∙ (ap (λ (es : List Entry). record t { entries = es; pending = 0 }) (append-nil t.entries) ∙ ap (λ (n : ℕ). record t { pending = n }) (sym none))

-- ---- one record

-- a table without variable data and without a log
pub record IsPlain (plan : Plan) (t : Table) : Type 0 where
  pub log_blocks : plan.log_blocks ≡ 0
  pub no_var : has_var plan ≡ false
  pub var : t.var ≡ None
  pub log : t.log ≡ None
  pub buffered : t.buffered ≡ []

-- a put that finds room in its page has no operation
pub put-more : (plan : Plan) (t : Table) (e : Entry) → IsPlain plan t → t.pending < rows_per_page plan → e.kept.blob ≡ None → e.page ≡ 0 → e.offset ≡ 0 → put_record plan e.kept t ≡ more t e
put-more plan t e plain room blob page offset = ap (λ (w : Table). after_seals plan (join_seals plan w) w) joins ∙ ap (λ (rings : List RingName). after_seals plan rings (more t e)) none
  where
    has-room : (b : Bool) → (t.pending == rows_per_page plan) ≡ b → b ≡ false
    has-room true k = let same = eqb-true t.pending (rows_per_page plan) k in absurd (omega (arith, same, room))
    has-room false k = refl

    same-room : with_room plan t ≡ t
    same-room = ap (λ (b : Bool). after_seals plan (cond b (table_seals plan t) []) t) (has-room (t.pending == rows_per_page plan) refl)

    entry : record { kept = record e.kept { blob = None }; page = 0; offset = 0 } ≡ e
    entry =
        ap (λ (n : ℕ). record { kept = record e.kept { blob = None }; page = 0; offset = n }) (sym offset)
        ∙ (ap (λ (n : ℕ). record e { kept = record e.kept { blob = None }; page = n }) (sym page) ∙ ap (λ (o : Option (List ℕ)). record e { kept = record e.kept { blob = o } }) (sym blob))

    joins : put_joined plan e.kept t ≡ more t e
    joins =
        ap (λ (x : Table). with_record plan e.kept x) same-room
        ∙ (ap (λ (o : Option (List ℕ)). with_record plan (record e.kept { blob = o }) t) blob
        ∙ (ap (λ (x : Entry). record t { entries = t.entries ++ x ∷ []; pending = t.pending + 1; buffered = t.buffered ++ [] }) entry
        ∙ ap (λ (xs : List ℕ). record t { entries = t.entries ++ e ∷ []; pending = t.pending + 1; buffered = xs }) (append-nil t.buffered)))

    none : join_seals plan (more t e) ≡ []
    none =
        ap (λ (xs : List ℕ). replicate ((length xs - 1) / content_per_page plan) VarRing ++ log_seals plan) plain.buffered
        ∙ (ap (λ (n : ℕ). replicate n VarRing ++ log_seals plan) (zero-div (content_per_page plan)) ∙ ap (λ (n : ℕ). cond (nat_lt 0 n) (LogRing ∷ []) []) plain.log_blocks)

-- a table takes a record that fits it, is above its others and finds a page number left
pub fits-taken : (plan : Plan) (t : Table) (e : Entry) → IsPlain plan t → FitsPlan plan e → is_rows_spent t ≡ false → is_after t.entries e ≡ true → refusal_of plan t e.kept ≡ None
fits-taken plan t e plain fits left above =
    rw (by-last (last_or None t.entries) above, eq-eqb (length e.kept.values) (length plan.columns) fits.as_many, le-ltb (key_limit plan) e.kept.key fits.key, fits.values, (fits-plain plan e plain.no_var fits).0, left, plain.var, plain.log) refl
  where
    by-last : (o : Option Entry) → unwrap_or (option_map (λ last. nat_lt last.kept.key e.kept.key) o) true ≡ true →
        unwrap_or (option_map (λ last. refuse_if (nat_le e.kept.key last.kept.key) (BadKey last.kept.key)) o) None ≡ None
    by-last None k = refl
    by-last (Some w) k = ap (λ (b : Bool). refuse_if b (BadKey w.kept.key)) (lt-leb e.kept.key w.kept.key (ltb-true w.kept.key e.kept.key k))

-- what it doesn't take leaves it
pub refused-same : (plan : Plan) (t : Table) (e : Entry) (r : Refusal) → IsPlain plan t → FitsPlan plan e → refusal_of plan t e.kept ≡ Some r → taken t e ≡ t
refused-same plan t e r plain fits refused = by-spent (is_rows_spent t) refl
  where
    by-above : (b : Bool) → is_rows_spent t ≡ false → is_after t.entries e ≡ b → cond b (more t e) t ≡ t
    by-above true s k = absurd (none-some r (sym (fits-taken plan t e plain fits s k) ∙ refused))
    by-above false s k = refl

    by-spent : (b : Bool) → is_rows_spent t ≡ b → cond b t (cond (is_after t.entries e) (more t e) t) ≡ t
    by-spent true s = refl
    by-spent false s = by-above (is_after t.entries e) s refl

-- .. and what it takes joins it
pub accepted-more : (plan : Plan) (t : Table) (e : Entry) → refusal_of plan t e.kept ≡ None → taken t e ≡ more t e
accepted-more plan t e ok =
    let k = takes plan t e.kept ok in
    ap (λ (b : Bool). cond b t (cond (is_after t.entries e) (more t e) t)) k.1 ∙ ap (λ (b : Bool). cond b (more t e) t) (by-last (last_or None t.entries) k.0)
  where
    by-last : (o : Option Entry) → ((w : Entry) → o ≡ Some w → w.kept.key < e.kept.key) → unwrap_or (option_map (λ last. nat_lt last.kept.key e.kept.key) o) true ≡ true
    by-last None k = refl
    by-last (Some w) k = lt-ltb w.kept.key e.kept.key (k w refl)

-- it stays without variable data
pub plain-taken : (plan : Plan) (t : Table) (e : Entry) → IsPlain plan t → IsPlain plan (taken t e)
plain-taken plan t e h = by-tests (is_rows_spent t) (is_after t.entries e)
  where
    by-tests : (a b : Bool) → IsPlain plan (cond a t (cond b (more t e) t))
    by-tests true b = h
    by-tests false true = record { log_blocks = h.log_blocks; no_var = h.no_var; var = h.var; log = h.log; buffered = h.buffered }
    by-tests false false = h

pub plain-all : (plan : Plan) (t : Table) (es : List Entry) → IsPlain plan t → IsPlain plan (all_taken t es)
plain-all plan t [] h = h
plain-all plan t (e ∷ es) h = plain-all plan (taken t e) es (plain-taken plan t e h)

-- at most one more is pending
pub taken-few : (t : Table) (es : List Entry) → (all_taken t es).pending ≤ t.pending + length es
taken-few t [] = omega arith
taken-few t (e ∷ es) = let k = taken-few (taken t e) es in let m = one (is_rows_spent t) (is_after t.entries e) in omega (arith, k, m)
  where
    one : (a b : Bool) → (cond a t (cond b (more t e) t)).pending ≤ t.pending + 1
    one true b = omega arith
    one false true = omega arith
    one false false = omega arith
