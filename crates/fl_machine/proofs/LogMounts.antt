-- The mount of a table with a log, turn by turn: what stands wherever it stops, and what it ends with.
use Rattle.std.proofs.Common.{◌≡◌, ℕ, ◌+◌, ◌-◌, ◌<◌, ◌≤◌, Bool, true, false, cond, ◌&&◌, ◌==◌, nat_lt, Option, Some, None, List, [], ◌∷◌, ◌++◌, length, take, drop, refl, sym, ◌∙◌, ap, subst, arith, ◌⊎◌, inl, inr, length-append, length-drop, IsTrue, eq-eqb}
use Rattle.std.specs.List.{list_any, sum}
use Rattle.std.specs.Option.{option_map}
use Rattle.std.proofs.lemmas.List.{drop-append-le, append-nil, take-append-le, take_all, nil_from_length}
use Rattle.std.proofs.lemmas.List.Sums.{sum_by_push}
use Rattle.std.proofs.lemmas.Bool.{cases_lt, eqb-true, false≢true, true≢false}
use Rattle.fl_base.proofs.Tests.{some_from}
use Rattle.fl_model.specs.Record.{Plan, has_index, has_log, entries_per_page}
use Rattle.fl_model.specs.Ring.{Shape, Ring, sealed, erased}
use Rattle.fl_model.specs.Table.{Table, Entry, RingName, DataRing, IndexRing, VarRing, LogRing, shape_of, with_ring, is_dirty, is_torn, seal_buffer, seal_page, after_seal, after_seals, table_seals, owed, is_rows_spent}
use Rattle.fl_model.specs.Work.{Kind, VoidMark, Erase}
use Rattle.fl_model.specs.Within.{seal_within, seals_within, repair_within, turn_within, effect_within, all_done}
use Rattle.fl_model.specs.Mount.{Of, Replay, turned, renumber, renumbered, at_least_of, ready}
use Rattle.fl_model.proofs.Among.{seals-all_done}
use Rattle.fl_model.proofs.Lists.{sum_take_more, any-drop}
use Rattle.fl_machine.specs.Found.{HasRoom, LoggedPast}
use Rattle.fl_machine.proofs.Trimmed.{trimmed-sealed, Renumbers, renumbers-renumbered, sum_void, more_zeros}
use Rattle.fl_machine.proofs.Effects.{shape_ok}
use Rattle.fl_machine.proofs.Logs.{Core, core, log_in, owed_of, IsFine, lost, RestsAs, IsOwedFound, IsThere, front-all, owed-lost, fine-lost}
use Rattle.fl_machine.proofs.LogSeals.{IsMarked, sealed-at, trimmed-seals}
use Rattle.fl_machine.proofs.LogRepairs.{IsVoided, IsWhole, found-same, numbers-fine, torn-whole, voided-rests, KeepsLogged, log-voided-rests}
use Rattle.fl_machine.proofs.LogReplays.{replayed, replayed-owed, replayed-fine, replayed-rests, replayed-marked, whole-owed}
use Rattle.fl_machine.proofs.LogOperations.{trimmed_in, Goes, goes-seals, index-goes, var-goes, data-goes, marked-by, core-erased, trimmed-same}
use Rattle.fl_machine.proofs.LogTables.{log_shape_ok, seals_by}

-- the past of a table that a mount has brought this far
abbrev pub pass : LoggedPast → Core → Core → LoggedPast
pass past x d = record past { given_up = past.given_up + trimmed_in x d }

-- a mount that stops
abbrev pub Halts : LoggedPast → Core → Core → Core → Type 0
Halts past x c d = RestsAs (pass past x d) (lost d)

pub rests-lost : (past : LoggedPast) (c : Core) → RestsAs past c → RestsAs past (lost c)
rests-lost past c h = record { fine = fine-lost c h.fine; none = refl; found = found-same past c (lost c) (front-all c h.none) (owed-lost c) h.found }

-- pages go with a seal
pub record CountsGo (count : ℕ) (a b : Core) : Type 0 where
  pub gone : ℕ
  pub few : gone ≤ length a.counts
  pub counts : b.counts ≡ drop gone (a.counts ++ count ∷ [])
  pub next : b.next ≡ a.next + 1

trimmed-go : (count : ℕ) (a b : Core) → (h : CountsGo count a b) → length a.counts ≤ a.next → trimmed_in a b ≡ sum (take h.gone a.counts)
trimmed-go count a b h n =
    let len : length b.counts ≡ length a.counts + 1 - h.gone = ap (λ (xs : List ℕ). length xs) h.counts ∙ (length-drop h.gone (a.counts ++ count ∷ []) ∙ ap (λ m. m - h.gone) (length-append a.counts (count ∷ []))) in
    let up : (b.next - length b.counts) - (a.next - length a.counts) ≡ h.gone = omega (arith, len, h.next, h.few, n) in
    ap (λ m. sum (take m a.counts)) up

-- what is trimmed by the next seal adds up
abbrev pub Steady : Core → Core → Type 0
Steady a b = (count : ℕ) (d : Core) → CountsGo count b d → trimmed_in a d ≡ trimmed_in a b + trimmed_in b d

trimmed-from : (a b d : Core) → b.counts ≡ a.counts → b.next ≡ a.next → trimmed_in a d ≡ trimmed_in b d
trimmed-from a b d e n = rw (e, n) refl

pub steady-same : (a b : Core) → b.counts ≡ a.counts → b.next ≡ a.next → Steady a b
steady-same a b e n count d go = let z = trimmed-same a b e n in let f = trimmed-from a b d e n in omega (arith, z, f)

-- void pages have no rows
pub steady-void : (a b : Core) → list_any (nat_lt 0) a.counts ≡ false → list_any (nat_lt 0) b.counts ≡ false → Steady a b
steady-void a b va vb count d go =
    let ad : trimmed_in a d ≡ 0 = sum_void ((d.next - length d.counts) - (a.next - length a.counts)) a.counts va in
    let ab : trimmed_in a b ≡ 0 = sum_void ((b.next - length b.counts) - (a.next - length a.counts)) a.counts va in
    let bd : trimmed_in b d ≡ 0 = sum_void ((d.next - length d.counts) - (b.next - length b.counts)) b.counts vb in
    omega (arith, ad, ab, bd)

-- two seals, of which the first has a void page
sum_zero_end : (n : ℕ) (xs : List ℕ) → sum (take n (xs ++ 0 ∷ [])) ≡ sum (take n xs)
sum_zero_end n xs = by_order (cases_lt n (length xs + 1))
  where
    by_order : (n < length xs + 1) ⊎ (length xs + 1 ≤ n) → sum (take n (xs ++ 0 ∷ [])) ≡ sum (take n xs)
    by_order (inl lt) = ap sum (take-append-le n xs (0 ∷ []) (omega (arith, lt)))
    by_order (inr le) =
        let all : take n (xs ++ 0 ∷ []) ≡ xs ++ 0 ∷ [] = take_all n (xs ++ 0 ∷ []) (omega (arith, le, length-append xs (0 ∷ []))) in
        ap sum all ∙ (sum_by_push (λ (m : ℕ). m) xs 0 ∙ (let z : sum xs + 0 ≡ sum xs = omega arith in z ∙ ap sum (sym (take_all n xs (omega (arith, le))))))

pub steady-voided : (a b : Core) → length a.counts ≤ a.next → CountsGo 0 a b → length b.counts ≤ b.next → Steady a b
steady-voided a b n h nb count d go =
    let len : length b.counts ≡ length a.counts + 1 - h.gone = ap (λ (xs : List ℕ). length xs) h.counts ∙ (length-drop h.gone (a.counts ++ 0 ∷ []) ∙ ap (λ m. m - h.gone) (length-append a.counts (0 ∷ []))) in
    let len_d : length d.counts ≡ length b.counts + 1 - go.gone = ap (λ (xs : List ℕ). length xs) go.counts ∙ (length-drop go.gone (b.counts ++ count ∷ []) ∙ ap (λ m. m - go.gone) (length-append b.counts (count ∷ []))) in
    let up : (d.next - length d.counts) - (a.next - length a.counts) ≡ h.gone + go.gone = omega (arith, len, len_d, h.next, go.next, h.few, go.few, n, nb) in
    let second : sum (take go.gone b.counts) ≡ sum (take go.gone (drop h.gone a.counts)) =
    ap (λ (xs : List ℕ). sum (take go.gone xs)) (h.counts ∙ drop-append-le h.gone a.counts (0 ∷ []) h.few) ∙ sum_zero_end go.gone (drop h.gone a.counts) in
    ap (λ k. sum (take k a.counts)) up
    ∙ (sum_take_more h.gone go.gone a.counts
    ∙ (ap (λ k. sum (take h.gone a.counts) + k) (sym (trimmed-go count b d go nb ∙ second)) ∙ ap (λ k. k + trimmed_in b d) (sym (trimmed-go 0 a b h n))))

-- ---- the turn of the data ring

-- how far a mount has come: the data ring has had its turn
pub record IsMid (past : LoggedPast) (x c : Core) : Type 0 where
  pub rests : RestsAs (pass past x c) c
  pub steady : Steady x c

-- it begins at a table that rests
pub start-mid : (past : LoggedPast) (x : Core) → RestsAs past x → IsMid past x x
start-mid past x h = record {
  rests = record { fine = h.fine; none = h.none; found = subst (λ (g : ℕ). IsOwedFound (record past { given_up = g }) x) (sym (let z = trimmed-same x x refl refl in let e : past.given_up + trimmed_in x x ≡ past.given_up = omega (arith, z) in e)) h.found };
  steady = steady-same x x refl refl;
}

-- the ring gets its numbers back
renumber-mid : (plan : Plan) (past : LoggedPast) (t : Table) → RestsAs past (core t) → IsMid past (core t) (core (renumber plan DataRing t))
renumber-mid plan past t h = by_numbers (renumbers-renumbered (shape_of plan DataRing) (at_least_of plan DataRing t) t.rows)
  where
    by_numbers : Renumbers t.rows (renumber plan DataRing t).rows → IsMid past (core t) (core (renumber plan DataRing t))
    by_numbers r =
        let x : Core = core t in
        let d : Core = core (renumber plan DataRing t) in
        let none : trimmed_in x d ≡ 0 = elim r.kept [
          | inl same ↦ trimmed-same x d r.counts same
          | inr void ↦ sum_void ((d.next - length d.counts) - (x.next - length x.counts)) x.counts void
        ] in
        record {
          rests = record {
            fine = numbers-fine x d.counts d.next d.torn r.counts r.torn (r.numbered h.fine.numbered) h.fine;
            none = h.none;
            found = subst (λ (g : ℕ). IsOwedFound (record past { given_up = g }) d) (sym (let e : past.given_up + trimmed_in x d ≡ past.given_up = omega (arith, none) in e)) (found-same past x d refl refl h.found);
          };
          steady = elim r.kept [
            | inl same ↦ steady-same x d r.counts same
            | inr void ↦ steady-void x d void (ap (list_any (nat_lt 0)) r.counts ∙ void)
          ];
        }

-- .. and its torn page becomes void
voided-by : (plan : Plan) (t : Table) → HasRoom plan → length t.rows.counts ≤ t.rows.next →
    (h : IsVoided (core t) (core (seal_page plan DataRing 0 t))) × (trimmed_in (core t) (core (seal_page plan DataRing 0 t)) ≡ sum (take h.gone t.rows.counts))
voided-by plan t room n =
    let s = sealed-at (shape_of plan DataRing) 0 t.rows (shape_ok plan room) in
    let trims = trimmed-seals 0 t.rows (sealed (shape_of plan DataRing) 0 t.rows) s n in (
      record {
        gone = s.gone;
        few = s.few;
        counts = s.counts;
        next = s.next;
        torn = s.torn;
        entries = ap (λ (g : ℕ). drop g t.entries) (sym (trimmed-sealed (shape_of plan DataRing) 0 t.rows (shape_ok plan room) n) ∙ trims);
        pending = refl;
        logged = refl;
        log = refl;
      },
      trims,
    )

void_end : (gone : ℕ) (xs : List ℕ) → list_any (nat_lt 0) xs ≡ false → list_any (nat_lt 0) (drop gone (xs ++ 0 ∷ [])) ≡ false
void_end gone xs h = any-drop (nat_lt 0) gone (xs ++ 0 ∷ []) (more_zeros xs h)

-- the pages of the ring are those from which the mount began, or all of them are void
pub record IsStart (x c : Core) : Type 0 where
  pub counts : c.counts ≡ x.counts
  pub kept : (c.next ≡ x.next) ⊎ (list_any (nat_lt 0) x.counts ≡ false)

void-mid : (plan : Plan) (past : LoggedPast) (x : Core) (t : Table) → HasRoom plan → length x.counts ≤ x.next → t.rows.torn ≡ true → IsStart x (core t) → IsMid past x (core t) →
    IsMid past x (core (seal_page plan DataRing 0 t))
void-mid plan past x t room n torn start mid =
    let c : Core = core t in
    let d : Core = core (seal_page plan DataRing 0 t) in
    let v = voided-by plan t room mid.rests.fine.numbered in
    let whole : IsWhole c = torn-whole c torn mid.rests.fine in
    let rests = voided-rests (pass past x c) c d (trimmed_in c d) whole mid.rests v.0 v.1 in
    let adds : trimmed_in x d ≡ trimmed_in x c + trimmed_in c d = mid.steady 0 d (record { gone = v.0.gone; few = v.0.few; counts = v.0.counts; next = v.0.next }) in
    let all : (past.given_up + trimmed_in x c) + trimmed_in c d ≡ past.given_up + trimmed_in x d = omega (arith, adds) in
    record {
      rests = subst (λ (g : ℕ). RestsAs (record past { given_up = g }) d) all rests;
      steady = by_kept d v.0 rests.fine start.kept;
    }
  where
    by_kept : (d : Core) → (v : IsVoided (core t) d) → IsFine d → ((core t).next ≡ x.next) ⊎ (list_any (nat_lt 0) x.counts ≡ false) → Steady x d
    by_kept d v fine (inl same) =
        steady-voided x d n
        (record {
          gone = v.gone;
          few = subst (λ (xs : List ℕ). v.gone ≤ length xs) start.counts v.few;
          counts = v.counts ∙ ap (λ (xs : List ℕ). drop v.gone (xs ++ 0 ∷ [])) start.counts;
          next = v.next ∙ ap (λ k. k + 1) same;
        }) fine.numbered
    by_kept d v fine (inr void) =
        steady-void x d void (ap (list_any (nat_lt 0)) (v.counts ∙ ap (λ (xs : List ℕ). drop v.gone (xs ++ 0 ∷ [])) start.counts) ∙ void_end v.gone x.counts void)

-- the whole turn: the data ring isn't torn after it
pub record IsAfter (past : LoggedPast) (x c : Core) : Type 0 where
  pub mid : IsMid past x c
  pub calm : c.torn ≡ false

-- what a turn does, and what it leaves
pub record TurnGoes (plan : Plan) (Stop : Core → Core → Type 0) (After : Table → Type 0) (operations : List (RingName × Kind)) (t : Table) : Type 0 where
  pub goes : Goes plan Stop operations t
  pub after : After (all_done (effect_within plan) operations t)

pub mid-halts : (past : LoggedPast) (x c d : Core) → IsMid past x d → Halts past x c d
mid-halts past x c d h = rests-lost (pass past x d) d h.rests

repair-goes : (plan : Plan) (past : LoggedPast) (x : Core) (t : Table) → HasRoom plan → length x.counts ≤ x.next → IsStart x (core t) → IsMid past x (core t) →
    TurnGoes plan (Halts past x) (λ u. IsAfter past x (core u)) (repair_within plan DataRing t) t
repair-goes plan past x t room n start mid = by_tests t.rows.torn refl (is_dirty DataRing (cond t.rows.torn (seal_page plan DataRing 0 t) t))
  where
    v : Table
    v = seal_page plan DataRing 0 t

    here : Halts past x (core t) (core t)
    here = mid-halts past x (core t) (core t) mid

    by_tests : (torn : Bool) → t.rows.torn ≡ torn → (dirty : Bool) →
        TurnGoes plan (Halts past x) (λ u. IsAfter past x (core u)) ((cond torn ((DataRing, VoidMark) ∷ []) []) ++ (cond dirty ((DataRing, Erase) ∷ []) [])) t
    by_tests true e dirty = by_dirty dirty
      where
        mid_v : IsMid past x (core v)
        mid_v = void-mid plan past x t room n e start mid

        halts : (c : Core) → Halts past x c (core v)
        halts c = mid-halts past x c (core v) mid_v

        calm : (core v).torn ≡ false
        calm = (voided-by plan t room mid.rests.fine.numbered).0.torn

        by_dirty : (dirty : Bool) → TurnGoes plan (Halts past x) (λ u. IsAfter past x (core u)) ((DataRing, VoidMark) ∷ (cond dirty ((DataRing, Erase) ∷ []) [])) t
        by_dirty true = record { goes = (here, halts (core t), (halts (core v), halts (core v), tt)); after = record { mid = mid_v; calm = calm } }
        by_dirty false = record { goes = (here, halts (core t), tt); after = record { mid = mid_v; calm = calm } }
    by_tests false e true = record { goes = (here, here, tt); after = record { mid = mid; calm = e } }
    by_tests false e false = record { goes = tt; after = record { mid = mid; calm = e } }

pub data-turn : (plan : Plan) (past : LoggedPast) (t : Table) → HasRoom plan → RestsAs past (core t) →
    TurnGoes plan (Halts past (core t)) (λ u. IsAfter past (core t) (core u)) (turn_within plan (Of DataRing) (turned plan (Of DataRing) t)) (turned plan (Of DataRing) t)
data-turn plan past t room h =
    let r = renumbers-renumbered (shape_of plan DataRing) (at_least_of plan DataRing t) t.rows in
    repair-goes plan past (core t) (renumber plan DataRing t) room h.fine.numbered (record { counts = r.counts; kept = r.kept }) (renumber-mid plan past t h)

-- ---- the turns of the other rings

-- of the index and of variable data
pub calm-index : (plan : Plan) (Stop : Core → Core → Type 0) (After : Table → Type 0) (t : Table) → Stop (core t) (core t) → ((u : Table) → core u ≡ core t → After u) →
    TurnGoes plan Stop After (repair_within plan IndexRing t) t
calm-index plan Stop After t h all = by_tests (is_torn IndexRing t) (is_dirty IndexRing (cond (is_torn IndexRing t) (seal_page plan IndexRing 0 t) t))
  where
    by_tests : (torn dirty : Bool) → TurnGoes plan Stop After ((cond torn ((IndexRing, VoidMark) ∷ []) []) ++ (cond dirty ((IndexRing, Erase) ∷ []) [])) t
    by_tests true true = record { goes = (h, h, (h, h, tt)); after = all _ refl }
    by_tests true false = record { goes = (h, h, tt); after = all _ refl }
    by_tests false true = record { goes = (h, h, tt); after = all _ refl }
    by_tests false false = record { goes = tt; after = all _ refl }

pub calm-var : (plan : Plan) (Stop : Core → Core → Type 0) (After : Table → Type 0) (t : Table) → Stop (core t) (core t) → ((u : Table) → core u ≡ core t → After u) →
    TurnGoes plan Stop After (repair_within plan VarRing t) t
calm-var plan Stop After t h all = by_tests (is_torn VarRing t) (is_dirty VarRing (cond (is_torn VarRing t) (seal_page plan VarRing 0 t) t))
  where
    by_tests : (torn dirty : Bool) → TurnGoes plan Stop After ((cond torn ((VarRing, VoidMark) ∷ []) []) ++ (cond dirty ((VarRing, Erase) ∷ []) [])) t
    by_tests true true = record { goes = (h, h, (h, h, tt)); after = all _ refl }
    by_tests true false = record { goes = (h, h, tt); after = all _ refl }
    by_tests false true = record { goes = (h, h, tt); after = all _ refl }
    by_tests false false = record { goes = tt; after = all _ refl }

-- of the log
log-numbers : (shape : Shape) (n : ℕ) (o : Option Ring) → log_in (option_map (renumbered shape n) o) ≡ log_in o
log-numbers shape n None = refl
log-numbers shape n (Some r) =
    let s = renumbers-renumbered shape n r in
    ap (λ (xs : List ℕ). Some (xs, (renumbered shape n r).torn)) s.counts ∙ ap (λ (b : Bool). Some (r.counts, b)) s.torn

renumber-log-core : (plan : Plan) (t : Table) → core (renumber plan LogRing t) ≡ core t
renumber-log-core plan t = ap (λ (l : Option (List ℕ × Bool)). record (core t) { log = l }) (log-numbers (shape_of plan LogRing) 0 t.log)

steady-other : (x c d : Core) → d.counts ≡ c.counts → d.next ≡ c.next → Steady x c → Steady x d
steady-other x c d e n h count f go =
    let same : CountsGo count c f = record {
      gone = go.gone;
      few = subst (λ (xs : List ℕ). go.gone ≤ length xs) e go.few;
      counts = go.counts ∙ ap (λ (xs : List ℕ). drop go.gone (xs ++ count ∷ [])) e;
      next = go.next ∙ ap (λ k. k + 1) n;
    } in
    let adds = h count f same in
    let from = trimmed-from d c f (sym e) (sym n) in
    let to = by_to in
    omega (arith, adds, from, to)
  where
    by_to : trimmed_in x d ≡ trimmed_in x c
    by_to = rw (e, n) refl

-- the log changes alone
after-log : (past : LoggedPast) (x c : Core) (logged : List Entry) (log : Option (List ℕ × Bool)) → IsAfter past x c → RestsAs (pass past x c) (record c { logged = logged; log = log }) → IsAfter past x (record c { logged = logged; log = log })
after-log past x c logged log h rests = record { mid = record { rests = rests; steady = steady-other x c (record c { logged = logged; log = log }) refl refl h.mid.steady }; calm = h.calm }

log-void : (plan : Plan) (past : LoggedPast) (x : Core) (t : Table) (r : Ring) → HasRoom plan → IsTrue (has_log plan) → r.torn ≡ true → let u : Table = record t { log = Some r } in IsAfter past x (core u) →
    IsAfter past x (core (seal_page plan LogRing 0 u))
log-void plan past x t r room logged torn h =
    let u : Table = record t { log = Some r } in
    let v : Core = core (seal_page plan LogRing 0 u) in
    let shape = shape_of plan LogRing in
    let s = sealed-at shape 0 r (log_shape_ok plan room logged) in
    let is : (core u).log ≡ Some (r.counts, true) = ap (λ (b : Bool). Some (r.counts, b)) torn in
    let log_is : v.log ≡ Some (drop s.gone (r.counts ++ 0 ∷ []), false) = ap (λ (xs : List ℕ). Some (xs, (sealed shape 0 r).torn)) s.counts ∙ ap (λ (b : Bool). Some (drop s.gone (r.counts ++ 0 ∷ []), b)) s.torn in
    let keeps : KeepsLogged (drop s.gone (r.counts ++ 0 ∷ [])) t.logged v.logged =
    by_any (list_any (nat_lt 0) (sealed shape 0 r).counts) (list_any (nat_lt 0) (drop s.gone (r.counts ++ 0 ∷ []))) (sym (ap (list_any (nat_lt 0)) s.counts)) refl in
    after-log past x (core u) v.logged v.log h
    (subst (λ (l : Option (List ℕ × Bool)). RestsAs (pass past x (core u)) (record (core u) { logged = v.logged; log = l })) (sym log_is)
    (log-voided-rests (pass past x (core u)) (core u) r.counts s.gone v.logged is s.few s.fewer keeps h.mid.rests))
  where
    by_any : (a b : Bool) → b ≡ a → {c : Bool} → c ≡ b → ((c ≡ true) × (cond a t.logged [] ≡ t.logged)) ⊎ ((c ≡ false) × (cond a t.logged [] ≡ []))
    by_any true b e {c} k = inl (k ∙ e, refl)
    by_any false b e {c} k = inr (k ∙ e, refl)

log-repair : (plan : Plan) (past : LoggedPast) (x : Core) (t : Table) → HasRoom plan → IsTrue (has_log plan) → IsAfter past x (core t) →
    TurnGoes plan (Halts past x) (λ u. IsAfter past x (core u)) (repair_within plan LogRing t) t
log-repair plan past x t room logged h = by_log t.log refl
  where
    halts : (c d : Core) → IsAfter past x d → Halts past x c d
    halts c d k = mid-halts past x c d k.mid

    with_log : (r : Ring) → let u : Table = record t { log = Some r } in IsAfter past x (core u) → TurnGoes plan (Halts past x) (λ u. IsAfter past x (core u)) (repair_within plan LogRing u) u
    with_log r k = by_tests r.torn refl (is_dirty LogRing (cond r.torn (seal_page plan LogRing 0 u) u))
      where
        u : Table
        u = record t { log = Some r }

        v : Table
        v = seal_page plan LogRing 0 u

        erased_after : (w : Table) → IsAfter past x (core w) → IsAfter past x (core (with_ring LogRing erased w))
        erased_after w a = subst (IsAfter past x) (sym (core-erased w)) a

        by_tests : (torn : Bool) → r.torn ≡ torn → (dirty : Bool) → TurnGoes plan (Halts past x) (λ u. IsAfter past x (core u)) ((cond torn ((LogRing, VoidMark) ∷ []) []) ++ (cond dirty ((LogRing, Erase) ∷ []) [])) u
        by_tests true e true =
            let a = log-void plan past x t r room logged e k in
            let b = erased_after v a in
            record { goes = (halts (core u) (core u) k, halts (core u) (core v) a, (halts (core v) (core v) a, halts (core v) _ b, tt)); after = b }
        by_tests true e false = let a = log-void plan past x t r room logged e k in record { goes = (halts (core u) (core u) k, halts (core u) (core v) a, tt); after = a }
        by_tests false e true = let b = erased_after u k in record { goes = (halts (core u) (core u) k, halts (core u) _ b, tt); after = b }
        by_tests false e false = record { goes = tt; after = k }

    by_log : (o : Option Ring) → t.log ≡ o → TurnGoes plan (Halts past x) (λ u. IsAfter past x (core u)) (repair_within plan LogRing t) t
    by_log None e = absurd (subst (λ (o : Option Ring). IsThere (log_in o)) e h.mid.rests.fine.has_log)
    by_log (Some r) e =
        subst (λ (o : Option Ring). let u : Table = record t { log = o } in TurnGoes plan (Halts past x) (λ u. IsAfter past x (core u)) (repair_within plan LogRing u) u) (sym e)
        (with_log r (subst (λ (o : Option Ring). IsAfter past x (core (record t { log = o }))) e h))

pub log-turn : (plan : Plan) (past : LoggedPast) (x : Core) (t : Table) → HasRoom plan → IsTrue (has_log plan) → IsAfter past x (core t) →
    TurnGoes plan (Halts past x) (λ u. IsAfter past x (core u)) (turn_within plan (Of LogRing) (turned plan (Of LogRing) t)) (turned plan (Of LogRing) t)
log-turn plan past x t room logged h = log-repair plan past x (renumber plan LogRing t) room logged (subst (IsAfter past x) (sym (renumber-log-core plan t)) h)

-- ---- the replay

-- the mount is done: no data page is torn, and the log owes nothing, or no page can be sealed
pub record IsDone (past : LoggedPast) (x : Core) (t : Table) : Type 0 where
  pub rests : RestsAs (pass past x (core t)) (core t)
  pub calm : (core t).torn ≡ false
  pub paid : (owed_of (core t) ≡ []) ⊎ IsTrue (is_rows_spent t)

pub done-halts : (past : LoggedPast) (x c : Core) (t : Table) → IsDone past x t → Halts past x c (core t)
done-halts past x c t h = rests-lost (pass past x (core t)) (core t) h.rests

pub after-halts : (past : LoggedPast) (x c : Core) (d : Core) → IsAfter past x d → Halts past x c d
after-halts past x c d h = mid-halts past x c d h.mid

-- what owes nothing joins as nothing
nothing-joins : (past : LoggedPast) (x c : Core) (t : Table) → core t ≡ replayed c → IsAfter past x c → owed_of c ≡ [] → IsDone past x t
nothing-joins past x c t is h paid =
    let d : Core = replayed c in
    let owes : owed_of d ≡ [] = replayed-owed c h.mid.rests.none ∙ paid in
    let entries : c.entries ++ owed_of c ≡ c.entries = ap (λ (es : List Entry). c.entries ++ es) paid ∙ append-nil c.entries in
    let rests : RestsAs (pass past x d) d = record {
      fine = replayed-fine c h.mid.rests.none h.mid.rests.fine;
      none = ap (λ (es : List Entry). length es) paid;
      found = found-same (pass past x c) c d entries (owes ∙ sym paid) h.mid.rests.found;
    } in
    record {
      rests = subst (λ (e : Core). RestsAs (pass past x e) e) (sym is) rests;
      calm = subst (λ (e : Core). e.torn ≡ false) (sym is) h.calm;
      paid = inl (subst (λ (e : Core). owed_of e ≡ []) (sym is) owes);
    }

-- a data page of what joined
joined-data : (plan : Plan) (past : LoggedPast) (x c : Core) (t : Table) → HasRoom plan → core t ≡ replayed c → IsAfter past x c → 0 < length (owed_of c) →
    Goes plan (Halts past x) (seal_within plan DataRing t) t × IsDone past x (seal_buffer plan DataRing t)
joined-data plan past x c t room is h some =
    let e : Core = replayed c in
    let d : Core = core (seal_buffer plan DataRing t) in
    let fine : IsFine (core t) = subst IsFine (sym is) (replayed-fine c h.mid.rests.none h.mid.rests.fine) in
    let m = marked-by plan t room fine.numbered in
    let marked : IsMarked e d = record {
      gone = m.0.gone;
      few = subst (λ (k : Core). m.0.gone ≤ length k.counts) is m.0.few;
      counts = subst (λ (k : Core). d.counts ≡ drop m.0.gone (k.counts ++ k.pending ∷ [])) is m.0.counts;
      next = m.0.next ∙ ap (λ (k : Core). k.next + 1) is;
      torn = m.0.torn;
      entries = m.0.entries ∙ ap (λ (k : Core). drop (sum (take m.0.gone k.counts)) k.entries) is;
      pending = m.0.pending;
      logged = m.0.logged ∙ ap (λ (k : Core). k.logged) is;
      log = m.0.log ∙ ap (λ (k : Core). k.log) is;
    } in
    let trims : trimmed_in c d ≡ sum (take m.0.gone c.counts) = trimmed-go e.pending c d (record { gone = marked.gone; few = marked.few; counts = marked.counts; next = marked.next }) h.mid.rests.fine.numbered in
    let both = replayed-marked (pass past x c) c d (trimmed_in c d) h.mid.rests some marked trims in
    let adds : trimmed_in x d ≡ trimmed_in x c + trimmed_in c d = h.mid.steady e.pending d (record { gone = marked.gone; few = marked.few; counts = marked.counts; next = marked.next }) in
    let all : (past.given_up + trimmed_in x c) + trimmed_in c d ≡ past.given_up + trimmed_in x d = omega (arith, adds) in
    let done : IsDone past x (seal_buffer plan DataRing t) = record { rests = subst (λ (g : ℕ). RestsAs (record past { given_up = g }) d) all both.0; calm = marked.torn; paid = inl both.1 } in
    let torn : Core = record (core t) { torn = true } in
    let here : (k : Core) → Halts past x k (core t) = λ k.
    subst (λ (f : Core). Halts past x k f) (sym is) (replayed-rests (pass past x c) c c.torn h.mid.rests (λ t. absurd (false≢true (sym h.calm ∙ t))) (λ t. t)) in
    let begins : (k : Core) → Halts past x k torn = λ k.
    subst (λ (f : Core). Halts past x k (record f { torn = true })) (sym is) (replayed-rests (pass past x c) c true h.mid.rests (λ t. whole) (λ t. absurd (false≢true (sym t)))) in
    let marks : (k : Core) → Halts past x k d = λ k. rests-lost (pass past x d) d done.rests in
    (data-goes plan (Halts past x) t (here (core t)) (begins (core t)) (begins torn) (marks torn) (marks d), done)
  where
    whole : IsWhole c
    whole = whole-owed c h.mid.rests.fine some

-- the block ahead is erased after it
done-erased : (plan : Plan) (past : LoggedPast) (x : Core) (t : Table) → IsDone past x (seal_buffer plan DataRing t) → IsDone past x (after_seal plan DataRing t)
done-erased plan past x t h = record { rests = h.rests; calm = h.calm; paid = h.paid }

joined-seals : (plan : Plan) (past : LoggedPast) (x c : Core) (t : Table) (a b : Bool) → HasRoom plan → core t ≡ replayed c → IsAfter past x c → 0 < length (owed_of c) →
    Goes plan (Halts past x) (seals_within plan (seals_by false a b) t) t × IsDone past x (after_seals plan (seals_by false a b) t)
joined-seals plan past x c t a b room is h some = by_rings a b
  where
    halts : (u : Table) → core u ≡ core t → Halts past x (core u) (core u)
    halts u e =
        subst (λ (f : Core). Halts past x f f) (sym (e ∙ is)) (replayed-rests (pass past x c) c c.torn h.mid.rests (λ t. absurd (false≢true (sym h.calm ∙ t))) (λ t. t))

    last : (u : Table) → core u ≡ core t → Goes plan (Halts past x) (seals_within plan (DataRing ∷ []) u) u × IsDone past x (after_seal plan DataRing u)
    last u e = let d = joined-data plan past x c u room (e ∙ is) h some in (goes-seals plan (Halts past x) DataRing [] u d.0 tt, done-erased plan past x u d.1)

    by_rings : (a b : Bool) → Goes plan (Halts past x) (seals_within plan (seals_by false a b) t) t × IsDone past x (after_seals plan (seals_by false a b) t)
    by_rings true true =
        let i = after_seal plan IndexRing t in
        let v = after_seal plan VarRing i in
        let l = last v refl in
        (goes-seals plan (Halts past x) IndexRing (VarRing ∷ DataRing ∷ []) t (index-goes plan (Halts past x) t (halts t refl)) (goes-seals plan (Halts past x) VarRing (DataRing ∷ []) i (var-goes plan (Halts past x) i (halts i refl)) l.0), l.1)
    by_rings true false = let i = after_seal plan IndexRing t in let l = last i refl in (goes-seals plan (Halts past x) IndexRing (DataRing ∷ []) t (index-goes plan (Halts past x) t (halts t refl)) l.0, l.1)
    by_rings false true = let v = after_seal plan VarRing t in let l = last v refl in (goes-seals plan (Halts past x) VarRing (DataRing ∷ []) t (var-goes plan (Halts past x) t (halts t refl)) l.0, l.1)
    by_rings false false = last t refl

replay-joined : (plan : Plan) (past : LoggedPast) (x c : Core) (t : Table) (z a b : Bool) → HasRoom plan → core t ≡ replayed c → IsAfter past x c → (length (owed_of c) == 0) ≡ z →
    Goes plan (Halts past x) (seals_within plan (seals_by z a b) t) t × IsDone past x (after_seals plan (seals_by z a b) t)
replay-joined plan past x c t true a b room is h e = (tt, nothing-joins past x c t is h (nil_from_length (owed_of c) (eqb-true (length (owed_of c)) 0 e)))
replay-joined plan past x c t false a b room is h e = joined-seals plan past x c t a b room is h (some_from (length (owed_of c)) e)

pub replay-turn : (plan : Plan) (past : LoggedPast) (x : Core) (t : Table) → HasRoom plan → IsAfter past x (core t) →
    TurnGoes plan (Halts past x) (IsDone past x) (turn_within plan Replay (turned plan Replay t)) (turned plan Replay t)
replay-turn plan past x t room h = by_spent (is_rows_spent y) refl
  where
    y : Table
    y = ready plan t

    j : Table
    j = record y { entries = y.entries ++ owed y; pending = length (owed y) }

    goes-with : (u : Table) → Goes plan (Halts past x) (seals_within plan (table_seals plan u) u) u × IsDone past x (after_seals plan (table_seals plan u) u) →
        TurnGoes plan (Halts past x) (IsDone past x) (seals_within plan (table_seals plan u) u) u
    goes-with u g = record { goes = g.0; after = subst (IsDone past x) (sym (seals-all_done plan (table_seals plan u) u)) g.1 }

    idle : (z a b : Bool) → (t.pending == 0) ≡ z → IsTrue (is_rows_spent y) → Goes plan (Halts past x) (seals_within plan (seals_by z a b) y) y × IsDone past x (after_seals plan (seals_by z a b) y)
    idle true a b e spent = (tt, record { rests = h.mid.rests; calm = h.calm; paid = inr spent })
    idle false a b e spent = absurd (true≢false (sym (eq-eqb t.pending 0 h.mid.rests.none) ∙ e))

    by_spent : (s : Bool) → is_rows_spent y ≡ s →
        let u = cond s y j in TurnGoes plan (Halts past x) (IsDone past x) (seals_within plan (table_seals plan u) u) u
    by_spent true e = goes-with y (idle (t.pending == 0) (has_index plan && (length y.waiting == entries_per_page plan)) (nat_lt 0 (length y.buffered)) refl e)
    by_spent false e =
        goes-with j (replay-joined plan past x (core t) j (length (owed_of (core t)) == 0) (has_index plan && (length j.waiting == entries_per_page plan)) (nat_lt 0 (length j.buffered)) room refl h refl)
