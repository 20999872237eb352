-- The points of a table, as pages come and go.
use Rattle.std.proofs.Common.{◌≡◌, ℕ, zero, suc, ◌+◌, ◌-◌, ◌*◌, ◌%◌, ◌<◌, ◌≤◌, Bool, true, false, nat_lt, ◌==◌, ◌&&◌, Option, Some, None, option_map, List, [], ◌∷◌, ◌++◌, length, map, take, drop, refl, sym, ◌∙◌, ap, subst, arith, append_assoc, length-append}
use Rattle.std.specs.Prelude.{unwrap_or, if◌then◌else◌, IfSome}
use Rattle.std.specs.List.{slice_get, sum}
use Rattle.std.proofs.Math.Dec.{eqb-suc-zero}
use Rattle.std.proofs.Math.Nat.{mul-le-mul_right}
use Rattle.std.proofs.lemmas.Bool.{ltb-true}
use Rattle.std.proofs.lemmas.List.{drop-drop, take-append-drop, length-drop, length-take-le}
use Rattle.std.proofs.lemmas.Option.{none-some}
use Rattle.fl_model.specs.Record.{Plan}
use Rattle.fl_model.specs.Ring.{IsShape, oldest, is_full, extended}
use Rattle.fl_model.specs.Table.{Table, Entry, DataRing, shape_of, pending_entries, first_pending, seal_buffer}
use Rattle.fl_model.specs.Facts.{IsTable}
use Rattle.fl_model.specs.Spline.{pages_from, page_key, points_of}
use Rattle.fl_model.proofs.Lists.{slice_get-drop, slice_get-some, drop_none, and_right}
use Rattle.fl_spline.specs.Points.{IsFurther, IsPast, last_of}
use Rattle.fl_spline.proofs.Lists.{last_of-push}
use Rattle.fl_find.specs.Standing.{HasPoints}
use Rattle.fl_find.specs.Laws.{MountsHavePoints}
use Rattle.fl_find.proofs.Firsts.{points_from, sum-cons}

-- a page with rows, and the points after it
points-suc : (number c : ℕ) (counts : List ℕ) (entries : List Entry) →
    points_from number (suc c ∷ counts) entries ≡ (page_key (number, take (suc c) entries), number) ∷ points_from (number + 1) counts (drop (suc c) entries)
points-suc number c counts entries =
    ap (λ (b : Bool). map (λ page. (page_key page, page.0)) (if b then pages_from (number + 1) counts entries else (number, take (suc c) entries) ∷ pages_from (number + 1) counts (drop (suc c) entries))) (eqb-suc-zero c)

pub points-append : (number : ℕ) (xs ys : List ℕ) (entries : List Entry) → points_from number (xs ++ ys) entries ≡ points_from number xs entries ++ points_from (number + length xs) ys (drop (sum xs) entries)
points-append number [] ys entries = ap (λ n. points_from n ys entries) (omega arith) ∙ ap (λ (l : List Entry). points_from (number + 0) ys l) (sym (drop_none entries))
points-append number (zero ∷ xs) ys entries =
    let total = sum-cons 0 xs in
    points-append (number + 1) xs ys entries
    ∙ ap (λ (l : List (ℕ × ℕ)). points_from (number + 1) xs entries ++ l)
    (ap (λ n. points_from n ys (drop (sum xs) entries)) (omega arith) ∙ ap (λ n. points_from (number + length (zero ∷ xs)) ys (drop n entries)) (omega (arith, total)))
points-append number (suc c ∷ xs) ys entries =
    let total = sum-cons (suc c) xs in
    let head : ℕ × ℕ = (page_key (number, take (suc c) entries), number) in
    points-suc number c (xs ++ ys) entries
    ∙ (ap (λ (l : List (ℕ × ℕ)). (page_key (number, take (suc c) entries), number) ∷ l) (points-append (number + 1) xs ys (drop (suc c) entries))
    ∙ (ap (λ (l : List (ℕ × ℕ)). (page_key (number, take (suc c) entries), number) ∷ points_from (number + 1) xs (drop (suc c) entries) ++ l)
    (ap (λ n. points_from n ys (drop (sum xs) (drop (suc c) entries))) (omega arith)
    ∙ ap (λ (l : List Entry). points_from (number + length (suc c ∷ xs)) ys l) (drop-drop (sum xs) (suc c) entries ∙ ap (λ n. drop n entries) (sym total)))
    ∙ ap (λ (l : List (ℕ × ℕ)). l ++ points_from (number + length (suc c ∷ xs)) ys (drop (sum (suc c ∷ xs)) entries)) (sym (points-suc number c xs entries))))

-- where a point of pages comes from: a page before the last number, and an entry that is written
record IsBounded (number : ℕ) (counts : List ℕ) (entries : List Entry) (p : ℕ × ℕ) : Type 0 where
  before : p.1 < number + length counts
  index : ℕ
  within : index < sum counts
  entry : Entry
  here : slice_get entries index ≡ Some entry
  key_is : entry.kept.key ≡ p.0

bounded : (number : ℕ) (counts : List ℕ) (entries : List Entry) (k : ℕ) (p : ℕ × ℕ) → sum counts ≤ length entries → slice_get (points_from number counts entries) k ≡ Some p → IsBounded number counts entries p
bounded number [] entries k p enough e = absurd (none k e)
  where
    none : (k : ℕ) → ◌≡◌ {A = Option (ℕ × ℕ)} (slice_get [] k) (Some p) → ⊥
    none zero e = cc
    none (suc k) e = cc
bounded number (zero ∷ counts) entries k p enough e =
    let total = sum-cons 0 counts in
    let b = bounded (number + 1) counts entries k p (omega (arith, total, enough)) e in
    record { before = omega (arith, b.before); index = b.index; within = omega (arith, b.within, total); entry = b.entry; here = b.here; key_is = b.key_is }
bounded number (suc c ∷ counts) [] k p enough e = let total = sum-cons (suc c) counts in absurd (omega (arith, total, enough))
bounded number (suc c ∷ counts) (x ∷ entries) zero p enough e =
    let total = sum-cons (suc c) counts in
    let point : ◌≡◌ {A = Option (ℕ × ℕ)} (Some (x.kept.key, number)) (Some p) = sym (ap (λ (l : List (ℕ × ℕ)). slice_get l 0) (points-suc number c counts (x ∷ entries))) ∙ e in
    let same : (x.kept.key, number) ≡ p = cc in
    record { before = omega (arith, ap (λ (q : ℕ × ℕ). q.1) same); index = 0; within = omega (arith, total); entry = x; here = refl; key_is = ap (λ (q : ℕ × ℕ). q.0) same }
bounded number (suc c ∷ counts) (x ∷ entries) (suc k) p enough e =
    let total = sum-cons (suc c) counts in
    let b = bounded (number + 1) counts (drop c entries) k p (omega (arith, total, enough, length-drop c entries)) (sym (ap (λ (l : List (ℕ × ℕ)). slice_get l (suc k)) (points-suc number c counts (x ∷ entries))) ∙ e) in
    record { before = omega (arith, b.before); index = suc c + b.index; within = omega (arith, b.within, total); entry = b.entry; here = ap (slice_get (x ∷ entries)) (omega arith) ∙ (sym (slice_get-drop (suc c) (x ∷ entries) b.index) ∙ b.here); key_is = b.key_is }

drop-push : (n : ℕ) (xs : List ℕ) (y : ℕ) → n ≤ length xs → drop n (xs ++ y ∷ []) ≡ drop n xs ++ y ∷ []
drop-push zero [] y le = refl
drop-push zero (x ∷ xs) y le = refl
drop-push (suc n) [] y le = absurd (omega (arith, le))
drop-push (suc n) (x ∷ xs) y le = drop-push n xs y (omega (arith, le))

-- pages whose last one has rows end by its point
ends-by : (m : ℕ) (xs : List ℕ) (y : ℕ) (entries : List Entry) → 0 < y → (cs : List ℕ) → cs ≡ xs ++ y ∷ [] → (l : List (ℕ × ℕ)) × ((p : ℕ × ℕ) × (points_from m cs entries ≡ l ++ p ∷ []))
ends-by m xs zero entries some cs e = absurd (omega (arith, some))
ends-by m xs (suc c) entries some cs e = (
  points_from m xs entries,
  (
    (page_key (m + length xs, take (suc c) (drop (sum xs) entries)), m + length xs),
    ap (λ (l : List ℕ). points_from m l entries) e ∙ (points-append m xs (suc c ∷ []) entries ∙ ap (λ (l : List (ℕ × ℕ)). points_from m xs entries ++ l) (points-suc (m + length xs) c [] (drop (sum xs) entries))),
  ),
)

last-same : (front l points : List (ℕ × ℕ)) (p q : ℕ × ℕ) → front ++ (l ++ p ∷ []) ≡ points ++ q ∷ [] → p ≡ q
last-same front l points p q e =
    let some : ◌≡◌ {A = Option (ℕ × ℕ)} (Some p) (Some q) =
    sym (last_of-push (front ++ l) p) ∙ (ap last_of (append_assoc front l (p ∷ [])) ∙ (ap last_of e ∙ last_of-push points q)) in
    cc

full-long : (blocks pages next count : ℕ) → IsShape (record { blocks = blocks; pages = pages }) → ((next % pages == pages - 1) && nat_lt ((blocks - 1) * pages - 1) count) ≡ true → pages < count
full-long blocks pages next count shape full =
    let more : 2 * pages ≤ (blocks - 1) * pages = mul-le-mul_right pages (omega (arith, shape.blocks)) in
    let lt = ltb-true ((blocks - 1) * pages - 1) count (and_right (next % pages == pages - 1) (nat_lt ((blocks - 1) * pages - 1) count) full) in
    omega (arith, more, lt, shape.pages)

-- after a mount the points are those of the pages
pub mounts-points : (plan : Plan) (table : Table) → MountsHavePoints plan table
mounts-points plan table = record { older = []; points = refl; last = refl }

module _ (plan : Plan) (table : Table) (facts : IsTable plan table) where
  fits : length table.rows.counts ≤ table.rows.next
  fits = facts.rows.not_negative

  written_is : length table.entries - table.pending ≡ sum table.rows.counts
  written_is = omega (arith, facts.counted)

  -- the pending rows, as the next page
  next-point : (e : Entry) → slice_get (pending_entries table) 0 ≡ Some e → 0 < table.pending →
      points_from table.rows.next (table.pending ∷ []) (drop (sum table.rows.counts) table.entries) ≡ (e.kept.key, table.rows.next) ∷ []
  next-point e first some = by_count table.pending refl
    where
      here : slice_get (drop (sum table.rows.counts) table.entries) 0 ≡ Some e
      here = ap (λ n. slice_get (drop n table.entries) 0) (sym written_is) ∙ first

      key_is : (c : ℕ) (l : List Entry) → slice_get l 0 ≡ Some e → page_key (table.rows.next, take (suc c) l) ≡ e.kept.key
      key_is c [] h = absurd (none-some e h)
      key_is c (x ∷ l) h = let same : x ≡ e = cc in ap (λ (y : Entry). y.kept.key) same

      by_count : (n : ℕ) → table.pending ≡ n → points_from table.rows.next (table.pending ∷ []) (drop (sum table.rows.counts) table.entries) ≡ (e.kept.key, table.rows.next) ∷ []
      by_count zero z = absurd (omega (arith, z, some))
      by_count (suc c) z =
          ap (λ n. points_from table.rows.next (n ∷ []) (drop (sum table.rows.counts) table.entries)) z
          ∙ (points-suc table.rows.next c [] (drop (sum table.rows.counts) table.entries)
          ∙ ap (λ k. (k, table.rows.next) ∷ []) (key_is c (drop (sum table.rows.counts) table.entries) here))

  first-pending : 0 < table.pending → (e : Entry) × (slice_get (pending_entries table) 0 ≡ Some e)
  first-pending some = slice_get-some (pending_entries table) 0 (omega (arith, some, facts.counted, length-drop (length table.entries - table.pending) table.entries))

  -- the points with the next one
  more-points : (e : Entry) → slice_get (pending_entries table) 0 ≡ Some e → 0 < table.pending →
      points_from (oldest table.rows) (table.rows.counts ++ table.pending ∷ []) table.entries ≡ points_of table ++ (e.kept.key, table.rows.next) ∷ []
  more-points e first some =
      points-append (oldest table.rows) table.rows.counts (table.pending ∷ []) table.entries
      ∙ ap (λ (l : List (ℕ × ℕ)). points_of table ++ l)
      (ap (λ n. points_from n (table.pending ∷ []) (drop (sum table.rows.counts) table.entries)) (omega (arith, fits)) ∙ next-point e first some)

  -- a point of the pages comes before the next page
  last-before : (l : List (ℕ × ℕ)) (end : ℕ × ℕ) (key next : ℕ) → ((k : ℕ) (p : ℕ × ℕ) → slice_get l k ≡ Some p → IsPast p (key, next)) → last_of l ≡ Some end → IsPast end (key, next)
  last-before l end key next each e = each (length l - 1) end e

  pub further : HasPoints table → (key : ℕ) → first_pending table ≡ Some key → IsFurther table.points (key, table.rows.next)
  further points key first = by_last (last_of (points_of table)) refl
    where
      by_pending : (o : Option Entry) → slice_get (pending_entries table) 0 ≡ o → option_map (λ (entry : Entry). entry.kept.key) o ≡ Some key → (e : Entry) × (slice_get (pending_entries table) 0 ≡ Some e) × (e.kept.key ≡ key)
      by_pending None h k = absurd (none-some key k)
      by_pending (Some e) h k = (e, h, let same : e.kept.key ≡ key = cc in same)

      by_last : (o : Option (ℕ × ℕ)) → last_of (points_of table) ≡ o → IsFurther table.points (key, table.rows.next)
      by_last None e = subst (λ (o : Option (ℕ × ℕ)). IfSome o (λ end. IsPast end (key, table.rows.next))) (sym (points.last ∙ e)) tt
      by_last (Some end) e =
          let p = by_pending (slice_get (pending_entries table) 0) refl first in
          let at : slice_get table.entries (length table.entries - table.pending) ≡ Some p.0 =
          ap (slice_get table.entries) (omega arith) ∙ (sym (slice_get-drop (length table.entries - table.pending) table.entries 0) ∙ p.1) in
          let b = bounded (oldest table.rows) table.rows.counts table.entries (length (points_of table) - 1) end (omega (arith, facts.counted)) e in
          let up = facts.ascending b.index (length table.entries - table.pending) b.entry p.0 (omega (arith, b.within, written_is)) b.here at in
          subst (λ (o : Option (ℕ × ℕ)). IfSome o (λ end. IsPast end (key, table.rows.next))) (sym (points.last ∙ e))
          (omega (arith, up, b.key_is, p.2), omega (arith, b.before, fits))

  -- the points after a seal, by whether the oldest block is given up
  abbrev after : Bool → List (ℕ × ℕ)
  after full =
      let ring = if full then record (extended table.pending table.rows) { counts = drop plan.geometry.block (table.rows.counts ++ table.pending ∷ []); dirty = true } else extended table.pending table.rows in
      points_from (oldest ring) ring.counts (drop (sum (if full then take plan.geometry.block (table.rows.counts ++ table.pending ∷ []) else [])) table.entries)

  many : length (table.rows.counts ++ table.pending ∷ []) ≡ length table.rows.counts + 1
  many = length-append table.rows.counts (table.pending ∷ [])

  no : true ≡ false → ⊥
  no e = cc

  pub seals : IsShape (shape_of plan DataRing) → HasPoints table → 0 < table.pending → HasPoints (seal_buffer plan DataRing table)
  seals shape points some = by_full (is_full (shape_of plan DataRing) (extended table.pending table.rows)) refl
    where
      e : Entry
      e = (first-pending some).0

      first_is : first_pending table ≡ Some e.kept.key
      first_is = ap (option_map (λ (entry : Entry). entry.kept.key)) (first-pending some).1

      joined : (seal_buffer plan DataRing table).points ≡ table.points ++ (e.kept.key, table.rows.next) ∷ []
      joined = ap (λ (o : Option ℕ). table.points ++ unwrap_or (option_map (λ key. (key, table.rows.next) ∷ []) o) []) first_is

      whole : points_from (oldest table.rows) (table.rows.counts ++ table.pending ∷ []) table.entries ≡ points_of table ++ (e.kept.key, table.rows.next) ∷ []
      whole = more-points e (first-pending some).1 some

      by_full : (full : Bool) → is_full (shape_of plan DataRing) (extended table.pending table.rows) ≡ full → HasPoints (seal_buffer plan DataRing table)
      by_full false f =
          let now : points_of (seal_buffer plan DataRing table) ≡ points_of table ++ (e.kept.key, table.rows.next) ∷ [] =
          ap after f ∙ (ap (λ n. points_from n (table.rows.counts ++ table.pending ∷ []) (drop 0 table.entries)) (omega (arith, many, fits))
          ∙ (ap (λ (l : List Entry). points_from (oldest table.rows) (table.rows.counts ++ table.pending ∷ []) l) (drop_none table.entries) ∙ whole)) in
          record {
            older = points.older;
            points = joined ∙ (ap (λ (l : List (ℕ × ℕ)). l ++ (e.kept.key, table.rows.next) ∷ []) points.points ∙ (append_assoc points.older (points_of table) ((e.kept.key, table.rows.next) ∷ []) ∙ ap (λ (l : List (ℕ × ℕ)). points.older ++ l) (sym now)));
            last = ap last_of joined ∙ (last_of-push table.points (e.kept.key, table.rows.next) ∙ sym (ap last_of now ∙ last_of-push (points_of table) (e.kept.key, table.rows.next)));
          }
      by_full true f =
          let long = full-long (plan.data_blocks) (plan.geometry.block) (table.rows.next + 1) (length (table.rows.counts ++ table.pending ∷ [])) shape f in
          let cs : List ℕ = table.rows.counts ++ table.pending ∷ [] in
          let taken : length (take plan.geometry.block (table.rows.counts ++ table.pending ∷ [])) ≡ plan.geometry.block = length-take-le plan.geometry.block (table.rows.counts ++ table.pending ∷ []) (omega (arith, long)) in
          let left = length-drop plan.geometry.block (table.rows.counts ++ table.pending ∷ []) in
          let front : List (ℕ × ℕ) = points_from (oldest table.rows) (take plan.geometry.block (table.rows.counts ++ table.pending ∷ [])) table.entries in
          let split : points_from (oldest table.rows) (table.rows.counts ++ table.pending ∷ []) table.entries
          ≡ points_from (oldest table.rows) (take plan.geometry.block (table.rows.counts ++ table.pending ∷ [])) table.entries ++ after true =
          ap (λ (l : List ℕ). points_from (oldest table.rows) l table.entries) (sym (take-append-drop plan.geometry.block (table.rows.counts ++ table.pending ∷ [])))
          ∙ (points-append (oldest table.rows) (take plan.geometry.block (table.rows.counts ++ table.pending ∷ [])) (drop plan.geometry.block (table.rows.counts ++ table.pending ∷ [])) table.entries
          ∙ ap (λ n. points_from (oldest table.rows) (take plan.geometry.block (table.rows.counts ++ table.pending ∷ [])) table.entries
          ++ points_from n (drop plan.geometry.block (table.rows.counts ++ table.pending ∷ [])) (drop (sum (take plan.geometry.block (table.rows.counts ++ table.pending ∷ []))) table.entries)) (omega (arith, taken, left, many, long, fits))) in
          let now : points_of (seal_buffer plan DataRing table) ≡ after true = ap after f in
          let ends = ends-at plan.geometry.block (omega (arith, long, many)) in
          let same : ends.1.0 ≡ (e.kept.key, table.rows.next) =
          last-same (points_from (oldest table.rows) (take plan.geometry.block (table.rows.counts ++ table.pending ∷ [])) table.entries) ends.0 (points_of table) ends.1.0 (e.kept.key, table.rows.next)
          (ap (λ (l : List (ℕ × ℕ)). points_from (oldest table.rows) (take plan.geometry.block (table.rows.counts ++ table.pending ∷ [])) table.entries ++ l) (sym ends.1.1) ∙ (sym split ∙ whole)) in
          record {
            older = points.older ++ points_from (oldest table.rows) (take plan.geometry.block (table.rows.counts ++ table.pending ∷ [])) table.entries;
            points = joined ∙ (ap (λ (l : List (ℕ × ℕ)). l ++ (e.kept.key, table.rows.next) ∷ []) points.points
                ∙ (append_assoc points.older (points_of table) ((e.kept.key, table.rows.next) ∷ [])
                ∙ (ap (λ (l : List (ℕ × ℕ)). points.older ++ l) (sym whole ∙ split)
                ∙ (sym (append_assoc points.older (points_from (oldest table.rows) (take plan.geometry.block (table.rows.counts ++ table.pending ∷ [])) table.entries) (after true))
                ∙ ap (λ (l : List (ℕ × ℕ)). (points.older ++ points_from (oldest table.rows) (take plan.geometry.block (table.rows.counts ++ table.pending ∷ [])) table.entries) ++ l) (sym now)))));
            last = ap last_of joined ∙ (last_of-push table.points (e.kept.key, table.rows.next)
                ∙ sym (ap last_of (now ∙ ends.1.1) ∙ (last_of-push ends.0 ends.1.0 ∙ ap (λ (p : ℕ × ℕ). Some p) same)));
          }
        where
          -- the last of the points after a seal
          ends-at : (n : ℕ) → n ≤ length table.rows.counts → (l : List (ℕ × ℕ)) × ((p : ℕ × ℕ) × (points_from (table.rows.next + 1 - length (drop n (table.rows.counts ++ table.pending ∷ []))) (drop n (table.rows.counts ++ table.pending ∷ [])) (drop (sum (take n (table.rows.counts ++ table.pending ∷ []))) table.entries) ≡ l ++ p ∷ []))
          ends-at n le =
              let m = table.rows.next + 1 - length (drop n (table.rows.counts ++ table.pending ∷ [])) in
              let entries = drop (sum (take n (table.rows.counts ++ table.pending ∷ []))) table.entries in
              ends-by m (drop n table.rows.counts) table.pending entries some (drop n (table.rows.counts ++ table.pending ∷ [])) (drop-push n table.rows.counts table.pending le)
