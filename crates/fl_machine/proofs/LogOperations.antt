-- A table with a log: a list of operations stops well, and what each seal leaves.
use Rattle.std.proofs.Common.{◌≡◌, ℕ, ◌+◌, ◌-◌, ◌≤◌, Bool, true, false, cond, Option, Some, None, List, [], ◌∷◌, ◌++◌, length, take, drop, refl, sym, ◌∙◌, ap, subst, arith, inl}
use Rattle.std.specs.List.{sum}
use Rattle.std.specs.Option.{option_map}
use Rattle.fl_model.specs.Record.{Plan}
use Rattle.fl_model.specs.Ring.{Ring, sealed, begun, erased}
use Rattle.fl_model.specs.Table.{Table, RingName, DataRing, IndexRing, VarRing, LogRing, shape_of, with_ring, is_dirty, seal_buffer, after_seal}
use Rattle.fl_model.specs.Work.{Kind, Body, Mark, Erase}
use Rattle.fl_model.specs.Within.{seal_within, seals_within, effect_within, all_done}
use Rattle.fl_model.proofs.Among.{seal-all_done}
use Rattle.fl_model.proofs.Lists.{take_none}
use Rattle.fl_machine.specs.Found.{HasRoom}
use Rattle.fl_machine.proofs.Trimmed.{trimmed-sealed}
use Rattle.fl_machine.proofs.Effects.{shape_ok}
use Rattle.fl_machine.proofs.RecordsChange.{Rows, rows_in}
use Rattle.fl_machine.proofs.Logs.{Core, core, log_in, IsFine, IsReady, past_in, lost, RestsAs}
use Rattle.fl_machine.proofs.LogStops.{ready-owed}
use Rattle.fl_machine.proofs.LogSeals.{IsMarked, sealed-at, trimmed-seals}

-- what was trimmed between two states
abbrev pub trimmed_in : Core → Core → ℕ
trimmed_in c d = sum (take ((d.next - length d.counts) - (c.next - length c.counts)) c.counts)

-- the operations of a list stop well: before each and after each the table rests as it should
abbrev pub Goes : Plan → (Core → Core → Type 0) → List (RingName × Kind) → Table → Type 0
Goes plan Stop [] t = Unit {0}
Goes plan Stop (operation ∷ operations) t =
    Stop (core t) (core t) × Stop (core t) (core (effect_within plan operation t)) × Goes plan Stop operations (effect_within plan operation t)

pub goes-append : (plan : Plan) (Stop : Core → Core → Type 0) (xs ys : List (RingName × Kind)) (t : Table) → Goes plan Stop xs t → Goes plan Stop ys (all_done (effect_within plan) xs t) → Goes plan Stop (xs ++ ys) t
goes-append plan Stop [] ys t h k = k
goes-append plan Stop (x ∷ xs) ys t h k = (h.0, h.1, goes-append plan Stop xs ys (effect_within plan x t) h.2 k)

-- seals, one after another
pub goes-seals : (plan : Plan) (Stop : Core → Core → Type 0) (ring : RingName) (rings : List RingName) (t : Table) → Goes plan Stop (seal_within plan ring t) t → Goes plan Stop (seals_within plan rings (after_seal plan ring t)) (after_seal plan ring t) →
    Goes plan Stop (seals_within plan (ring ∷ rings) t) t
goes-seals plan Stop ring rings t h k =
    goes-append plan Stop (seal_within plan ring t) (seals_within plan rings (after_seal plan ring t)) t h
    (subst (λ (u : Table). Goes plan Stop (seals_within plan rings (after_seal plan ring t)) u) (sym (seal-all_done plan ring t)) k)

-- a seal of an index page, or of variable data
pub index-goes : (plan : Plan) (Stop : Core → Core → Type 0) (t : Table) → Stop (core t) (core t) → Goes plan Stop (seal_within plan IndexRing t) t
index-goes plan Stop t h = by_dirty (is_dirty IndexRing (seal_buffer plan IndexRing t))
  where
    by_dirty : (b : Bool) → Goes plan Stop ((IndexRing, Body) ∷ (IndexRing, Mark) ∷ (cond b ((IndexRing, Erase) ∷ []) [])) t
    by_dirty true = (h, h, (h, h, (h, h, tt)))
    by_dirty false = (h, h, (h, h, tt))

pub var-goes : (plan : Plan) (Stop : Core → Core → Type 0) (t : Table) → Stop (core t) (core t) → Goes plan Stop (seal_within plan VarRing t) t
var-goes plan Stop t h = by_dirty (is_dirty VarRing (seal_buffer plan VarRing t))
  where
    by_dirty : (b : Bool) → Goes plan Stop ((VarRing, Body) ∷ (VarRing, Mark) ∷ (cond b ((VarRing, Erase) ∷ []) [])) t
    by_dirty true = (h, h, (h, h, (h, h, tt)))
    by_dirty false = (h, h, (h, h, tt))

-- a seal of a data page
pub data-goes : (plan : Plan) (Stop : Core → Core → Type 0) (t : Table) →
    let b = record (core t) { torn = true } in
    let m = core (seal_buffer plan DataRing t) in
    Stop (core t) (core t) → Stop (core t) b → Stop b b → Stop b m → Stop m m → Goes plan Stop (seal_within plan DataRing t) t
data-goes plan Stop t here begins torn marks there = by_dirty (is_dirty DataRing (seal_buffer plan DataRing t))
  where
    by_dirty : (b : Bool) → Goes plan Stop ((DataRing, Body) ∷ (DataRing, Mark) ∷ (cond b ((DataRing, Erase) ∷ []) [])) t
    by_dirty true = (here, begins, (torn, marks, (there, there, tt)))
    by_dirty false = (here, begins, (torn, marks, tt))

-- a seal of a page of the log
pub core-erased : (t : Table) → core (with_ring LogRing erased t) ≡ core t
core-erased t = ap (λ (l : Option (List ℕ × Bool)). record (core t) { log = l }) (by_log t.log)
  where
    by_log : (o : Option Ring) → log_in (option_map erased o) ≡ log_in o
    by_log None = refl
    by_log (Some r) = refl

pub log-goes : (plan : Plan) (Stop : Core → Core → Type 0) (t : Table) →
    let b = core (with_ring LogRing begun t) in
    let m = core (seal_buffer plan LogRing (with_ring LogRing begun t)) in
    Stop (core t) (core t) → Stop (core t) b → Stop b b → Stop b m → Stop m m → Goes plan Stop (seal_within plan LogRing t) t
log-goes plan Stop t here begins torn marks there = by_dirty (is_dirty LogRing (seal_buffer plan LogRing t))
  where
    m : Table
    m = seal_buffer plan LogRing (with_ring LogRing begun t)

    by_dirty : (b : Bool) → Goes plan Stop ((LogRing, Body) ∷ (LogRing, Mark) ∷ (cond b ((LogRing, Erase) ∷ []) [])) t
    by_dirty true = (here, begins, (torn, marks, (there, subst (λ (d : Core). Stop (core m) d) (sym (core-erased m)) there, tt)))
    by_dirty false = (here, begins, (torn, marks, tt))

-- ---- what the seals of a table leave

-- a data page is marked
pub marked-by : (plan : Plan) (t : Table) → HasRoom plan → length t.rows.counts ≤ t.rows.next →
    (h : IsMarked (core t) (core (seal_buffer plan DataRing t))) × (trimmed_in (core t) (core (seal_buffer plan DataRing t)) ≡ sum (take h.gone t.rows.counts))
marked-by plan t room n =
    let s = sealed-at (shape_of plan DataRing) t.pending t.rows (shape_ok plan room) in
    let trims = trimmed-seals t.pending t.rows (sealed (shape_of plan DataRing) t.pending t.rows) s n in (
      record {
        gone = s.gone;
        few = s.few;
        counts = s.counts;
        next = s.next;
        torn = s.torn;
        entries = ap (λ (g : ℕ). drop g t.entries) (sym (trimmed-sealed (shape_of plan DataRing) t.pending t.rows (shape_ok plan room) n) ∙ trims);
        pending = refl;
        logged = refl;
        log = refl;
      },
      trims,
    )

-- a session that stops: the table rests with the past that began just before, and so much is known of its sure records
abbrev pub Stops : (Rows → Type 0) → Core → Core → Type 0
Stops Q c d = RestsAs (past_in c (0 + trimmed_in c d)) (lost d) × Q (rows_in c)

pub trimmed-same : (c d : Core) → d.counts ≡ c.counts → d.next ≡ c.next → trimmed_in c d ≡ 0
trimmed-same c d e n =
    let z : (d.next - length d.counts) - (c.next - length c.counts) ≡ 0 = rw (e, n) (omega arith) in
    ap (λ k. sum (take k c.counts)) z ∙ ap sum (take_none c.counts)

pub trimmed-none : (c d : Core) → d.counts ≡ c.counts → d.next ≡ c.next → 0 + trimmed_in c d ≡ 0
trimmed-none c d e n = ap (λ k. 0 + k) (trimmed-same c d e n)

-- the body of the data page: the log has all that is pending, so it may be torn
pub torn-fine : (c : Core) → IsFine c → IsReady c → IsFine (record c { torn = true })
torn-fine c fine h = record {
  counted = fine.counted;
  numbered = fine.numbered;
  has_log = fine.has_log;
  greatest = fine.greatest;
  ascending = fine.ascending;
  whole = inl (ready-owed c h ∙ sym h.same);
  safe = fine.safe;
}

pub torn-ready : (c : Core) → IsReady c → IsReady (record c { torn = true })
torn-ready c h = record { some = h.some; same = h.same; above = h.above }
