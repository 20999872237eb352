-- A table with a log, operation by operation: what stands wherever one of them fails.
use Rattle.std.proofs.Common.{◌≡◌, ℕ, zero, suc, ◌+◌, ◌-◌, ◌/◌, ◌<◌, Bool, true, false, cond, ◌&&◌, ◌==◌, nat_lt, Option, Some, None, List, [], ◌∷◌, ◌++◌, length, length-take, take, drop, replicate, refl, sym, ◌∙◌, ap, subst, arith, ◌⊎◌, inl, inr, IsTrue, eq-eqb, zero-add}
use Rattle.std.specs.List.{AllByRecursion, last_or, list_any, sum}
use Rattle.std.proofs.lemmas.List.{append-nil, drop-append-le}
use Rattle.std.proofs.lemmas.Bool.{false≢true, true≢false}
use Rattle.fl_model.specs.Record.{Record, Plan, has_index, has_log, rows_per_page, entries_per_page, content_per_page}
use Rattle.fl_model.specs.Ring.{IsShape, Ring, sealed, begun}
use Rattle.fl_model.specs.Table.{Table, Entry, RingName, DataRing, IndexRing, VarRing, LogRing, shape_of, with_ring, seal_buffer, after_seal, after_seals, table_seals, make_room_seals, fill, fill_seals, join_seals, put_joined, log_seals, blob_len, start_page, start_offset, flushed, is_rows_spent, refusal_of}
use Rattle.fl_model.specs.Work.{Kind}
use Rattle.fl_model.specs.Within.{seal_within, seals_within}
use Rattle.fl_model.proofs.Among.{after_seals-append, seals-all_done, within-append}
use Rattle.fl_model.proofs.Accepted.{accepted}
use Rattle.fl_machine.specs.Found.{HasRoom}
use Rattle.fl_machine.proofs.RecordsChange.{IsGreatest, IsLasting, Rows, marked_rows, rows_in, rows_with, sure_in, sure-idle, sure-ready, sure-joining}
use Rattle.fl_machine.proofs.Logs.{Core, core, log_in, rest_of, owed_of, IsFine, front_of, EndsWhole, IsIdle, IsReady, IsJoining, Phase, Idle, Ready, Joining, IsThere}
use Rattle.fl_machine.proofs.LogStops.{rests-here, joining-some}
use Rattle.fl_machine.proofs.LogSeals.{IsMarked, sealed-at, marked-rests, marked-fine, marked-owed, marked-few, last-drop}
use Rattle.fl_machine.proofs.LogWrites.{begun-fine, begun-joining, logged-ready, logged-fine, logged-rests}
use Rattle.fl_machine.proofs.LogJoins.{joins, joins-fine, joins-ready, joins-idle}
use Rattle.fl_machine.proofs.LogRepairs.{any-end}
use Rattle.fl_machine.proofs.LogOperations.{trimmed_in, Goes, goes-append, goes-seals, index-goes, var-goes, data-goes, core-erased, log-goes, marked-by, Stops, trimmed-none, torn-fine, torn-ready}

-- sealing the table
abbrev pub seals_by : Bool → Bool → Bool → List RingName
seals_by z a b = cond z [] ((cond a (IndexRing ∷ []) []) ++ (cond b (VarRing ∷ []) []) ++ DataRing ∷ [])

-- a table with nothing pending whose log owes nothing
pub record IsPaid (Q : Rows → Type 0) (c : Core) : Type 0 where
  pub fine : IsFine c
  pub idle : IsIdle c
  pub paid : owed_of c ≡ []
  pub kept : Q (rows_in c)

-- ---- between two commands of a session

pub data Between (Q : Rows → Type 0) (t : Table) : Type 0 where
  Resting : (fine : IsFine (core t)) (idle : IsIdle (core t)) (paid : (owed_of (core t) ≡ []) ⊎ IsTrue (is_rows_spent t)) (kept : Q (rows_in (core t))) → Between Q t
  Pending : (fine : IsFine (core t)) (ready : IsReady (core t)) (ends : EndsWhole (core t)) (kept : Q (rows_in (core t))) → Between Q t

pub between-fine : {Q : Rows → Type 0} (t : Table) → Between Q t → IsFine (core t)
between-fine t (Resting fine idle paid kept) = fine
between-fine t (Pending fine ready ends kept) = fine

pub between-phase : {Q : Rows → Type 0} (t : Table) → Between Q t → Phase (core t)
between-phase t (Resting fine idle paid kept) = Idle idle
between-phase t (Pending fine ready ends kept) = Ready ready

pub between-kept : {Q : Rows → Type 0} (t : Table) → Between Q t → Q (rows_in (core t))
between-kept t (Resting fine idle paid kept) = kept
between-kept t (Pending fine ready ends kept) = kept

pub between-as : {Q R : Rows → Type 0} (t : Table) → Between Q t → R (rows_in (core t)) → Between R t
between-as t (Resting fine idle paid kept) now = Resting fine idle paid now
between-as t (Pending fine ready ends kept) now = Pending fine ready ends now

paid-between : {Q : Rows → Type 0} (t : Table) → IsPaid Q (core t) → Between Q t
paid-between t h = Resting h.fine h.idle (inl h.paid) h.kept

some-pending : {Q : Rows → Type 0} (t : Table) → Between Q t → (t.pending == 0) ≡ false → IsReady (core t)
some-pending t (Resting fine idle paid kept) e = absurd (true≢false (sym (eq-eqb t.pending 0 idle.none) ∙ e))
some-pending t (Pending fine ready ends kept) e = ready

-- room for a record: the log owes nothing, or has just what is pending
pub data Open (Q : Rows → Type 0) (c : Core) : Type 0 where
  Paid : (h : IsPaid Q c) → Open Q c
  Filling : (fine : IsFine c) (ready : IsReady c) (ends : EndsWhole c) (kept : Q (rows_in c)) → Open Q c

open-fine : {Q : Rows → Type 0} (c : Core) → Open Q c → IsFine c
open-fine c (Paid h) = h.fine
open-fine c (Filling fine ready ends kept) = fine

open-kept : {Q : Rows → Type 0} (c : Core) → Open Q c → Q (rows_with c c.entries)
open-kept {Q} c (Paid h) = subst (λ (es : List Entry). Q (rows_with c es)) (sure-idle c h.idle.none ∙ (ap (λ (os : List Entry). c.entries ++ os) h.paid ∙ append-nil c.entries)) h.kept
open-kept {Q} c (Filling fine ready ends kept) = subst (λ (es : List Entry). Q (rows_with c es)) (sure-ready c fine ready) kept

between-open : {Q : Rows → Type 0} (t : Table) → is_rows_spent t ≡ false → Between Q t → Open Q (core t)
between-open t e (Resting fine idle (inl paid) kept) = Paid (record { fine = fine; idle = idle; paid = paid; kept = kept })
between-open t e (Resting fine idle (inr spent) kept) = absurd (false≢true (sym e ∙ spent))
between-open t e (Pending fine ready ends kept) = Filling fine ready ends kept

open-between : {Q : Rows → Type 0} (t : Table) → Open Q (core t) → Between Q t
open-between t (Paid h) = paid-between t h
open-between t (Filling fine ready ends kept) = Pending fine ready ends kept

abbrev pub IsGreater : Record → List Entry → Type 0
IsGreater item entries = (w : Entry) → last_or None entries ≡ Some w → w.kept.key < item.key

pub takes : (plan : Plan) (t : Table) (item : Record) → refusal_of plan t item ≡ None → IsGreater item t.entries × (is_rows_spent t ≡ false)
takes plan t item h = let a = accepted plan t item h in (a.above, a.unspent)

greater-drop : (item : Record) (n : ℕ) (xs : List Entry) → IsGreater item xs → IsGreater item (drop n xs)
greater-drop item n xs h w e = h w (last-drop n xs w e)

-- the blob's pages leave what the log is about
abbrev AllVar : List RingName → Type 0
AllVar rings = AllByRecursion (λ ring. ring ≡ VarRing) rings

vars-core : (plan : Plan) (rings : List RingName) (t : Table) → AllVar rings → core (after_seals plan rings t) ≡ core t
vars-core plan [] t h = refl
vars-core plan (ring ∷ rings) t h =
    vars-core plan rings (after_seal plan ring t) h.1 ∙ ap (λ (r : RingName). core (after_seal plan r t)) h.0

replicate-var : (n : ℕ) → AllVar (replicate n VarRing)
replicate-var zero = tt
replicate-var (suc n) = (refl, replicate-var n)

-- the record joins
abbrev new_entry : Plan → Table → Record → Entry
new_entry plan t item =
    let before = after_seals plan (make_room_seals plan t) t in
    record { kept = item; page = start_page plan (blob_len item) before; offset = start_offset plan (blob_len item) before }

pub record IsJoined (Q : Rows → Type 0) (c : Core) : Type 0 where
  pub fine : IsFine c
  pub joining : IsJoining c
  pub kept : Q (rows_in c)
  -- .. and of all its records, when the log has the new one
  pub grown : Q (rows_with c c.entries)

-- ---- the page of the log

-- a log of at least three blocks
abbrev pub log_shape_ok : (plan : Plan) → HasRoom plan → IsTrue (has_log plan) → IsShape (shape_of plan LogRing)
log_shape_ok plan room h = record { blocks = room.log_blocks h; pages = room.pages }

-- its pages and records after its seal
pub record IsLogSealed (c : Core) (logged : List Entry) (log : Option (List ℕ × Bool)) : Type 0 where
  pub others : List ℕ
  pub same : logged ≡ rest_of c
  pub is : log ≡ Some (others ++ c.pending ∷ [], false)

log-sealed : (plan : Plan) (t : Table) (r : Ring) → HasRoom plan → IsTrue (has_log plan) → 0 < t.pending →
    let u : Table = record t { log = Some r } in
    let m = core (seal_buffer plan LogRing (with_ring LogRing begun u)) in IsLogSealed (core u) m.logged m.log
log-sealed plan t r room logged some =
    let shape = shape_of plan LogRing in
    let b : Ring = begun r in
    let s = sealed-at shape t.pending b (log_shape_ok plan room logged) in
    let ends : (sealed shape t.pending b).counts ≡ drop s.gone r.counts ++ t.pending ∷ [] = s.counts ∙ drop-append-le s.gone r.counts (t.pending ∷ []) s.few in
    record {
      others = drop s.gone r.counts;
      same = by_any (list_any (nat_lt 0) (sealed shape t.pending b).counts) (ap (list_any (nat_lt 0)) ends ∙ any-end (drop s.gone r.counts) t.pending [] some);
      is = ap (λ (xs : List ℕ). Some (xs, (sealed shape t.pending b).torn)) ends ∙ ap (λ (x : Bool). Some (drop s.gone r.counts ++ t.pending ∷ [], x)) s.torn;
    }
  where
    by_any : (x : Bool) → x ≡ true → cond x (drop (length t.entries - t.pending) t.entries) [] ≡ drop (length t.entries - t.pending) t.entries
    by_any true e = refl
    by_any false e = cc

-- ---- what is known of the sure records stays known

module _ (Q : Rows → Type 0) (lasting : IsLasting Q) where
  pub stops-here : (c : Core) → IsFine c → Phase c → Q (rows_in c) → Stops Q c c
  stops-here c fine phase kept = (rests-here c (0 + trimmed_in c c) (trimmed-none c c refl refl) fine phase, kept)

  marked-kept : (c d : Core) → IsFine c → IsReady c → IsMarked c d → Q (rows_in c) → Q (rows_in d)
  marked-kept c d fine ready h kept =
      let g = sum (take h.gone c.counts) in
      let len : length (front_of c) ≡ length c.entries - c.pending = length-take (length c.entries - c.pending) c.entries ∙ (omega arith) in
      let few : g < length c.entries = let most = marked-few c d fine h in let some = ready.some in let all = fine.counted in omega (arith, most, len, some, all) in
      let left : sure_in d ≡ drop g c.entries = sure-idle d h.pending ∙ (ap (λ (os : List Entry). d.entries ++ os) (marked-owed c d fine ready h) ∙ (append-nil d.entries ∙ h.entries)) in
      let same : rows_in d ≡ marked_rows h.gone c.pending (rows_with c c.entries) =
      ap (λ (n : ℕ). record (rows_in d) { next = n }) h.next
      ∙ (ap (λ (cs : List ℕ). record (rows_in d) { next = c.next + 1; counts = cs }) h.counts
      ∙ ap (λ (es : List Entry). record { next = c.next + 1; counts = drop h.gone (c.counts ++ c.pending ∷ []); sure = es }) left) in
      subst Q (sym same)
      (lasting.less (rows_with c c.entries) h.gone c.pending h.few fine.numbered few (subst (λ (es : List Entry). Q (rows_with c es)) (sure-ready c fine ready) kept))

  pub ready-data-goes : (plan : Plan) (t : Table) → HasRoom plan → IsFine (core t) → IsReady (core t) → Q (rows_in (core t)) → Goes plan (Stops Q) (seal_within plan DataRing t) t
  ready-data-goes plan t room fine h kept =
      let b : Core = record (core t) { torn = true } in
      let marked = marked-by plan t room fine.numbered in
      let bm : IsMarked b (core (seal_buffer plan DataRing t)) = record {
        gone = marked.0.gone;
        few = marked.0.few;
        counts = marked.0.counts;
        next = marked.0.next;
        torn = marked.0.torn;
        entries = marked.0.entries;
        pending = marked.0.pending;
        logged = marked.0.logged;
        log = marked.0.log;
      } in
      let idle : Phase (core (seal_buffer plan DataRing t)) = Idle (record { none = marked.0.pending; calm = marked.0.torn }) in
      data-goes plan (Stops Q) t (stops-here (core t) fine (Ready h) kept)
      (rests-here b (0 + trimmed_in (core t) b) (trimmed-none (core t) b refl refl) (torn-fine (core t) fine h) (Ready (torn-ready (core t) h)), kept)
      (stops-here b (torn-fine (core t) fine h) (Ready (torn-ready (core t) h)) kept)
      (marked-rests b (core (seal_buffer plan DataRing t)) (0 + trimmed_in b (core (seal_buffer plan DataRing t))) (torn-fine (core t) fine h) (torn-ready (core t) h) bm (zero-add (trimmed_in (core t) (core (seal_buffer plan DataRing t))) ∙ marked.1), kept)
      (stops-here (core (seal_buffer plan DataRing t)) (marked-fine (core t) (core (seal_buffer plan DataRing t)) fine h marked.0) idle (marked-kept (core t) (core (seal_buffer plan DataRing t)) fine h marked.0 kept))

  nothing-goes : (plan : Plan) (Stop : Core → Core → Type 0) (t : Table) → Goes plan Stop (seals_within plan [] t) t
  nothing-goes plan Stop t = tt

  pub seals-go : (plan : Plan) (t : Table) (z a b : Bool) → HasRoom plan → IsFine (core t) → (z ≡ false → IsReady (core t)) → Q (rows_in (core t)) → Goes plan (Stops Q) (seals_within plan (seals_by z a b) t) t
  seals-go plan t true a b room fine h kept = tt
  seals-go plan t false true true room fine h kept =
      let here = stops-here (core t) fine (Ready (h refl)) kept in
      let i = after_seal plan IndexRing t in
      let v = after_seal plan VarRing i in
      goes-seals plan (Stops Q) IndexRing (VarRing ∷ DataRing ∷ []) t (index-goes plan (Stops Q) t here)
      (goes-seals plan (Stops Q) VarRing (DataRing ∷ []) i (var-goes plan (Stops Q) i here)
      (goes-seals plan (Stops Q) DataRing [] v (ready-data-goes plan v room fine (h refl) kept) tt))
  seals-go plan t false true false room fine h kept =
      let here = stops-here (core t) fine (Ready (h refl)) kept in
      let i = after_seal plan IndexRing t in
      goes-seals plan (Stops Q) IndexRing (DataRing ∷ []) t (index-goes plan (Stops Q) t here)
      (goes-seals plan (Stops Q) DataRing [] i (ready-data-goes plan i room fine (h refl) kept) tt)
  seals-go plan t false false true room fine h kept =
      let here = stops-here (core t) fine (Ready (h refl)) kept in
      let v = after_seal plan VarRing t in
      goes-seals plan (Stops Q) VarRing (DataRing ∷ []) t (var-goes plan (Stops Q) t here)
      (goes-seals plan (Stops Q) DataRing [] v (ready-data-goes plan v room fine (h refl) kept) tt)
  seals-go plan t false false false room fine h kept = goes-seals plan (Stops Q) DataRing [] t (ready-data-goes plan t room fine (h refl) kept) tt

  marked-paid : (plan : Plan) (t : Table) → HasRoom plan → IsFine (core t) → IsReady (core t) → Q (rows_in (core t)) → IsPaid Q (core (seal_buffer plan DataRing t))
  marked-paid plan t room fine h kept =
      let marked = marked-by plan t room fine.numbered in
      let m = core (seal_buffer plan DataRing t) in
      record { fine = marked-fine (core t) m fine h marked.0; idle = record { none = marked.0.pending; calm = marked.0.torn }; paid = marked-owed (core t) m fine h marked.0; kept = marked-kept (core t) m fine h marked.0 kept }

  pub sealed-paid : (plan : Plan) (t : Table) (a b : Bool) → HasRoom plan → IsFine (core t) → IsReady (core t) → Q (rows_in (core t)) → IsPaid Q (core (after_seals plan (seals_by false a b) t))
  sealed-paid plan t true true room fine h kept = let u = after_seal plan VarRing (after_seal plan IndexRing t) in marked-paid plan u room fine h kept
  sealed-paid plan t true false room fine h kept = let u = after_seal plan IndexRing t in marked-paid plan u room fine h kept
  sealed-paid plan t false true room fine h kept = let u = after_seal plan VarRing t in marked-paid plan u room fine h kept
  sealed-paid plan t false false room fine h kept = marked-paid plan t room fine h kept

  -- a flush
  pub flush-goes : (plan : Plan) (t : Table) → HasRoom plan → Between Q t → Goes plan (Stops Q) (seals_within plan (table_seals plan t) t) t
  flush-goes plan t room h =
      seals-go plan t (t.pending == 0) (has_index plan && (length t.waiting == entries_per_page plan)) (nat_lt 0 (length t.buffered)) room (between-fine t h) (some-pending t h) (between-kept t h)

  seals-between : (plan : Plan) (t : Table) (z a b : Bool) → (t.pending == 0) ≡ z → HasRoom plan → Between Q t → Between Q (after_seals plan (seals_by z a b) t)
  seals-between plan t true a b e room h = h
  seals-between plan t false a b e room h = let u = after_seals plan (seals_by false a b) t in paid-between u (sealed-paid plan t a b room (between-fine t h) (some-pending t h e) (between-kept t h))

  pub flush-between : (plan : Plan) (t : Table) → HasRoom plan → Between Q t → Between Q (flushed plan t)
  flush-between plan t room h = seals-between plan t (t.pending == 0) (has_index plan && (length t.waiting == entries_per_page plan)) (nat_lt 0 (length t.buffered)) refl room h

  -- ---- a put

  -- room is made
  record HasSpace (item : Record) (t : Table) : Type 0 where
    opens : Open Q (core t)
    greater : IsGreater item t.entries

  sealed-greater : (plan : Plan) (t : Table) (z a b : Bool) (item : Record) → IsGreater item t.entries → IsGreater item (after_seals plan (seals_by z a b) t).entries
  sealed-greater plan t true a b item h = h
  sealed-greater plan t false true true item h = greater-drop item _ t.entries h
  sealed-greater plan t false true false item h = greater-drop item _ t.entries h
  sealed-greater plan t false false true item h = greater-drop item _ t.entries h
  sealed-greater plan t false false false item h = greater-drop item _ t.entries h

  sealed-open : (plan : Plan) (t : Table) (z a b : Bool) → (t.pending == 0) ≡ z → HasRoom plan → Open Q (core t) → Open Q (core (after_seals plan (seals_by z a b) t))
  sealed-open plan t true a b e room h = h
  sealed-open plan t false a b e room h = let k = open-between t h in Paid (sealed-paid plan t a b room (open-fine (core t) h) (some-pending t k e) (between-kept t k))

  room-space : (plan : Plan) (t : Table) (full : Bool) (item : Record) → HasRoom plan → Open Q (core t) → IsGreater item t.entries → HasSpace item (after_seals plan (cond full (table_seals plan t) []) t)
  room-space plan t true item room h greater = record {
    opens = sealed-open plan t (t.pending == 0) (has_index plan && (length t.waiting == entries_per_page plan)) (nat_lt 0 (length t.buffered)) refl room h;
    greater = sealed-greater plan t (t.pending == 0) (has_index plan && (length t.waiting == entries_per_page plan)) (nat_lt 0 (length t.buffered)) item greater;
  }
  room-space plan t false item room h greater = record { opens = h; greater = greater }

  vars-go : (plan : Plan) (rings : List RingName) (t : Table) → AllVar rings → Stops Q (core t) (core t) → Goes plan (Stops Q) (seals_within plan rings t) t
  vars-go plan [] t h stops = tt
  vars-go plan (ring ∷ rings) t h stops =
      let one : Goes plan (Stops Q) (seal_within plan ring t) t = subst (λ (r : RingName). Goes plan (Stops Q) (seal_within plan r t) t) (sym h.0) (var-goes plan (Stops Q) t stops) in
      let same : core (after_seal plan ring t) ≡ core t = ap (λ (r : RingName). core (after_seal plan r t)) h.0 in
      goes-seals plan (Stops Q) ring rings t one (vars-go plan rings (after_seal plan ring t) h.1 (subst (λ (c : Core). Stops Q c c) (sym same) stops))

  -- seals of two lists
  seals-append : (plan : Plan) (xs ys : List RingName) (t : Table) → Goes plan (Stops Q) (seals_within plan xs t) t → Goes plan (Stops Q) (seals_within plan ys (after_seals plan xs t)) (after_seals plan xs t) →
      Goes plan (Stops Q) (seals_within plan (xs ++ ys) t) t
  seals-append plan xs ys t h k =
      subst (λ (ops : List (RingName × Kind)). Goes plan (Stops Q) ops t) (sym (within-append plan xs ys t))
      (goes-append plan (Stops Q) (seals_within plan xs t) (seals_within plan ys (after_seals plan xs t)) t h
      (subst (λ (u : Table). Goes plan (Stops Q) (seals_within plan ys (after_seals plan xs t)) u) (sym (seals-all_done plan xs t)) k))

  room-goes : (plan : Plan) (t : Table) (full : Bool) → HasRoom plan → Between Q t → Goes plan (Stops Q) (seals_within plan (cond full (table_seals plan t) []) t) t
  room-goes plan t true room h = flush-goes plan t room h
  room-goes plan t false room h = tt

  pub put-goes : (plan : Plan) (t : Table) (item : Record) → HasRoom plan → Between Q t → refusal_of plan t item ≡ None → Goes plan (Stops Q) (seals_within plan (make_room_seals plan t) t) t
  put-goes plan t item room h ok = room-goes plan t (t.pending == rows_per_page plan) room h

  open-joins : (c : Core) (new : Entry) → Open Q c → IsGreatest new c.entries → IsJoined Q (joins new c)
  open-joins c new h greatest = by_open h (open-kept c h)
    where
      joined : IsFine c → IsJoining (joins new c) → Q (rows_with c c.entries) → IsJoined Q (joins new c)
      joined fine joining kept = record {
        fine = joins-fine new c fine;
        joining = joining;
        kept = subst (λ (es : List Entry). Q (rows_with c es)) (sym (sure-joining (joins new c) c.entries new (joins-fine new c fine) joining refl)) kept;
        grown = lasting.more (rows_with c c.entries) new greatest kept;
      }

      by_open : Open Q c → Q (rows_with c c.entries) → IsJoined Q (joins new c)
      by_open (Paid h) kept = joined h.fine (joins-idle new c h.fine h.idle h.paid greatest) kept
      by_open (Filling fine ready ends q) kept = joined fine (joins-ready new c fine ready ends greatest) kept

  pub put-joined : (plan : Plan) (t : Table) (item : Record) → HasRoom plan → Between Q t → refusal_of plan t item ≡ None → IsJoined Q (core (put_joined plan item t))
  put-joined plan t item room h ok =
      let took = takes plan t item ok in
      let before = after_seals plan (make_room_seals plan t) t in
      let space : HasSpace item before = room-space plan t (t.pending == rows_per_page plan) item room (between-open t took.1 h) took.0 in
      open-joins (core before) (new_entry plan t item) space.opens space.greater

  log-page : (plan : Plan) (t : Table) (r : Ring) → HasRoom plan → IsTrue (has_log plan) → let u : Table = record t { log = Some r } in IsJoined Q (core u) →
      Goes plan (Stops Q) (seal_within plan LogRing u) u × Between Q (after_seal plan LogRing u)
  log-page plan t r room logged joined =
      let u : Table = record t { log = Some r } in
      let c : Core = core u in
      let b : Core = core (with_ring LogRing begun u) in
      let m : Core = core (seal_buffer plan LogRing (with_ring LogRing begun u)) in
      let some = joining-some c joined.fine joined.joining in
      let s = log-sealed plan t r room logged some in
      let fine_b : IsFine b = begun-fine c (Some (r.counts, true)) refl joined.fine joined.joining in
      let joining_b : IsJoining b = begun-joining c (Some (r.counts, true)) refl joined.joining in
      let fine_m : IsFine m = logged-fine b m.logged m.log s.others s.same s.is fine_b joining_b in
      let ready_m : IsReady m = logged-ready b m.logged m.log s.others s.same s.is fine_b joining_b in
      let ends_m : EndsWhole m = (s.others, t.pending, some, s.is) in
      let kept_m : Q (rows_in m) = subst (λ (es : List Entry). Q (rows_with m es)) (sym (sure-ready m fine_m ready_m)) joined.grown in
      let same : core (after_seal plan LogRing u) ≡ m = core-erased (seal_buffer plan LogRing u) in (
        log-goes plan (Stops Q) u (stops-here c joined.fine (Joining joined.joining) joined.kept) (rests-here b (0 + trimmed_in c b) (trimmed-none c b refl refl) fine_b (Joining joining_b), joined.kept)
            (stops-here b fine_b (Joining joining_b) joined.kept)
            (logged-rests b m.logged m.log s.others (0 + trimmed_in b m) (trimmed-none b m refl refl) s.same s.is fine_b joining_b, joined.kept)
            (stops-here m fine_m (Ready ready_m) kept_m),
        Pending (subst IsFine (sym same) fine_m) (subst IsReady (sym same) ready_m) (subst EndsWhole (sym same) ends_m) (subst (λ (d : Core). Q (rows_in d)) (sym same) kept_m),
      )

  pub log-goes-on : (plan : Plan) (t : Table) → HasRoom plan → IsTrue (has_log plan) → IsJoined Q (core t) → Goes plan (Stops Q) (seals_within plan (log_seals plan) t) t × Between Q (after_seals plan (log_seals plan) t)
  log-goes-on plan t room logged joined = by_log t.log refl
    where
      whole : (rings : List RingName) → rings ≡ LogRing ∷ [] → Goes plan (Stops Q) (seal_within plan LogRing t) t × Between Q (after_seal plan LogRing t) → Goes plan (Stops Q) (seals_within plan rings t) t × Between Q (after_seals plan rings t)
      whole rings e h = subst (λ (rs : List RingName). Goes plan (Stops Q) (seals_within plan rs t) t × Between Q (after_seals plan rs t)) (sym e) (goes-seals plan (Stops Q) LogRing [] t h.0 tt, h.1)

      by_log : (o : Option Ring) → t.log ≡ o → Goes plan (Stops Q) (seals_within plan (log_seals plan) t) t × Between Q (after_seals plan (log_seals plan) t)
      by_log None e = absurd (subst (λ (o : Option Ring). IsThere (log_in o)) e joined.fine.has_log)
      by_log (Some r) e =
          whole (log_seals plan) (ap (λ (b : Bool). cond b (LogRing ∷ []) []) logged)
          (subst (λ (o : Option Ring). let u : Table = record t { log = o } in Goes plan (Stops Q) (seal_within plan LogRing u) u × Between Q (after_seal plan LogRing u)) (sym e)
          (log-page plan t r room logged (subst (λ (o : Option Ring). IsJoined Q (core (record t { log = o }))) e joined)))

  -- .. after those that the blob fills
  pub join-goes-on : (plan : Plan) (t : Table) → HasRoom plan → IsTrue (has_log plan) → IsJoined Q (core t) →
      Goes plan (Stops Q) (seals_within plan (join_seals plan t) t) t × Between Q (after_seals plan (join_seals plan t) t)
  join-goes-on plan t room logged joined =
      let fills = fill_seals plan t in
      let vars : AllVar fills = replicate-var ((fill t - 1) / content_per_page plan) in
      let full = after_seals plan fills t in
      let same : core full ≡ core t = vars-core plan fills t vars in
      let on = log-goes-on plan full room logged (subst (IsJoined Q) (sym same) joined) in (
        seals-append plan fills (log_seals plan) t (vars-go plan fills t vars (stops-here (core t) joined.fine (Joining joined.joining) joined.kept)) on.0,
        subst (Between Q) (sym (after_seals-append plan fills (log_seals plan) t)) on.1,
      )
