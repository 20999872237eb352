-- Bytes that are written into the buffer, page by page.
use Rattle.std.proofs.Common.{◌≡◌, ℕ, ◌+◌, ◌-◌, ◌*◌, ◌/◌, ◌<◌, ◌≤◌, min, Bool, true, Option, unwrap_or, ◌⊎◌, inl, inr, false, Result, Ok, Err, List, [], ◌∷◌, ◌++◌, length, take, drop, replicate, append_assoc, refl, sym, ◌∙◌, ap, subst, arith, IsTrue, IsErr}
use Rattle.std.proofs.Math.Nat.{mul-add-div_right, div-eq_of_lt}
use Rattle.std.proofs.lemmas.Nat.{le-div}
use Rattle.std.proofs.lemmas.List.{append-nil, drop-drop, drop_at, length-drop, take_all, take_at, take-append-drop, drop_all}
use Rattle.std.specs.Prelude.{option_map, is_some, IfErr, IfSome, IfNone, IsErrOf, Some, None}
use Rattle.std.specs.Option.{ForSome}
use Rattle.fl_base.specs.declared.types.Geometry.{Geometry}
use Rattle.fl_base.specs.declared.types.RingPlace.{RingPlace}
use Rattle.fl_flash.specs.Flash.{FlashState, Goes, OffChangesNothing, Cuts, Tears, page_at}
use Rattle.fl_flash.specs.Tear.{torn_now, torn_front}
use Rattle.fl_flash.specs.declared.tear.Tear.{Tear}
use Rattle.fl_flash.specs.declared.flash.FlashFault.{FlashFault}
use Rattle.fl_flash.specs.declared.flash.FlashFault.TheVariants.{PowerLost}
use Rattle.fl_frame.proofs.CallsInTurn.{goes-same, goes-then}
use Rattle.fl_model.specs.Record.{Plan, content_per_page}
use Rattle.fl_model.specs.Table.{Table, RingName, VarRing, after_seals}
use Rattle.fl_model.specs.Work.{Device}
use Rattle.fl_model.proofs.Lists.{drop_none}
use Rattle.fl_ring.specs.Place as place_words
use Rattle.fl_ring.specs.Ring as rings
use Rattle.fl_ring.specs.Ring.{Shape, OutsideStands}
use Rattle.fl_ring.specs.declared.ring.Ring.{Ring}
use Rattle.fl_frame.specs.Causes.{CausedBy}
use Rattle.fl_ring.specs.Sealing.{SealCalls}
use Rattle.fl_ring.specs.Written as written
use Rattle.fl_ring.proofs.Written.{writes-none, writes-wider}
use Rattle.fl_frame.specs.Watched.{IsWatched}
use Rattle.fl_var.specs.Memory.{is_mounted, next_in, oldest_in, oldest_after, waiting_in, room_in, var_shape, IsOnRing, IsSamePlan, LiesOn}
use Rattle.fl_var.specs.Placing.{Seals, Breaks, EndsWith, pages_placed}
use Rattle.fl_var.specs.Standing.{HasRing}
use Rattle.fl_var.specs.declared.var_data.VarData.{VarData}
use Rattle.fl_var.proofs.ByMemory.{plan-then}
use Rattle.fl_var.proofs.PageImages.{waiting-length}
use Rattle.fl_var.proofs.SealsInTable.{room-planned, seal-err}
use Rattle.fl_var.proofs.Joins.{seals-none, seals-refilled, seals-join, breaks-join, breaks-front, buffered-after, replicate-push, replicate-split, same-shape}
use Rattle.fl_var.proofs.OldestKept.{after-then, oldest-same}
use Rattle.fl_var.proofs.Written.{writes-both}
use Rattle.fl_frame.proofs.WatchedInTurn.{watched-first, watched-then, cause-later}

-- so many of these bytes were written since `first`, and as many pages sealed as they filled
pub record Writes (first : VarData) (first_f : FlashState) (bytes : List ℕ) (done : ℕ) (v : VarData) (f : FlashState) : Type 0 where
  pub goes : Goes first_f f
  pub same : IsSamePlan first v
  pub lies : LiesOn v f
  pub mounted : is_mounted v ≡ true
  pub later : next_in first ≤ next_in v
  pub oldest : oldest_in v ≡ oldest_after first (next_in v - next_in first)
  pub sum : length (waiting_in first) + done ≡ (next_in v - next_in first) * room_in first + length (waiting_in v)
  pub some : 1 ≤ length (waiting_in v)
  pub most : length (waiting_in v) ≤ room_in first
  pub within : done ≤ length bytes
  pub full : done < length bytes → length (waiting_in v) ≡ room_in first
  -- what the sealed pages leave waits, and what comes yet
  pub left : drop ((next_in v - next_in first) * room_in first) (waiting_in first ++ bytes) ≡ waiting_in v ++ drop done bytes
  pub outside : IsTrue first_f.media.tells → OutsideStands (var_shape first) (page_at first_f) (page_at f)
  pub reads : f.work.reads ≡ first_f.work.reads
  pub media_reads : f.media.reads ≤ first_f.media.reads + (next_in v - next_in first)
  pub tried : written.Writes (IsOnRing first) 0 (next_in v - next_in first) first_f f
  pub quiet : next_in v ≡ next_in first → f ≡ first_f
  pub power : (f ≡ first_f) ⊎ (f.is_on ≡ true)
  pub off : first_f.is_on ≡ false → next_in v ≡ next_in first
  pub seals : (plan : Plan) (table : Table) (rose : Bool) (device : Device) → IsWatched first_f f rose device → HasRing first first_f plan table → table.buffered ≡ waiting_in first ++ bytes →
      Seals plan (replicate (next_in v - next_in first) VarRing) table rose device first first_f v f

-- a ring with another buffer lies where it lay
pub lies-refilled : (v w : VarData) (f : FlashState) → w.ring ≡ v.ring → IsSamePlan v w → LiesOn v f → LiesOn w f
lies-refilled v w f ring same lies = record {
  geometry = lies.geometry ∙ sym same.geometry;
  within = subst (λ (p : RingPlace). p.first_block + p.blocks ≤ f.blocks) (sym same.place) lies.within;
  few = lies.few;
  ring = subst (λ (o : Option Ring). ForSome o (λ r. place_words.LiesOn r f)) (sym ring) lies.ring;
}

room-same : (a b : VarData) → IsSamePlan a b → room_in b ≡ room_in a
room-same a b same = ap (λ (g : Geometry). g.page - 16) same.geometry

pub next-same : (a b : VarData) → b.ring ≡ a.ring → next_in b ≡ next_in a
next-same a b e = ap (λ (o : Option Ring). unwrap_or (option_map (λ r. place_words.next_of r) o) 0) e

-- the pages that bytes fill
pub pages-of : (fill len n left room : ℕ) → fill + len ≡ n * room + left → 1 ≤ left → left ≤ room → (fill + len - 1) / room ≡ n
pages-of fill len n left room sum some most =
    let split : fill + len - 1 ≡ n * room + (left - 1) = omega (arith, sum, some) in
    let wide : 0 < room = omega (arith, some, most) in
    let none : (left - 1) / room ≡ 0 = div-eq_of_lt (omega (arith, some, most)) in
    ap (λ k. k / room) split ∙ (mul-add-div_right wide n (left - 1) ∙ omega (arith, none))

pub pages-more : (fill done len n room : ℕ) → 0 < room → fill + done ≡ n * room + room → done < len → n + 1 ≤ (fill + len - 1) / room
pages-more fill done len n room wide sum less =
    let all : (n + 1) * room ≡ n * room + room = omega arith in
    le-div (n + 1) (fill + len - 1) room wide (omega (arith, all, sum, less))

-- at first as many bytes are put as have room
module _ (v w : VarData) (f : FlashState) (bytes : List ℕ) (n : ℕ) (ring : w.ring ≡ v.ring) (same : IsSamePlan v w) (lies : LiesOn v f) (mounted : is_mounted v ≡ true)
    (room : length (waiting_in v) < room_in v) (some : 1 ≤ length bytes) (counted : n ≡ min (length bytes) (length v.waiting.body - (8 + v.waiting.fill))) (filled : w.waiting.fill ≡ v.waiting.fill + n)
    (put : waiting_in w ≡ waiting_in v ++ take n bytes) where
  count : n ≡ min (length bytes) (room_in v - length (waiting_in v))
  count = counted ∙ ap (min (length bytes)) (omega (arith, v.page, waiting-length v))

  fill : length (waiting_in w) ≡ length (waiting_in v) + n
  fill = waiting-length w ∙ (filled ∙ ap (λ k. k + n) (sym (waiting-length v)))

  pub writes-first : Writes v f bytes n w f
  writes-first =
      let next = next-same v w ring in
      let none : next_in w - next_in v ≡ 0 = omega (arith, next) in
      record {
        goes = goes-same f;
        same = same;
        lies = lies-refilled v w f ring same lies;
        mounted = ap is_some ring ∙ mounted;
        later = omega (arith, next);
        oldest = oldest-same v w ring ∙ ap (oldest_after v) (sym none);
        sum = subst (λ k. length (waiting_in v) + n ≡ k * room_in v + length (waiting_in w)) (sym none) (omega (arith, fill));
        some = omega (arith, fill, count, some, room);
        most = omega (arith, fill, count, room);
        within = omega (arith, count);
        full = λ less. omega (arith, fill, count, less, room);
        left =
            let nothing : (next_in w - next_in v) * room_in v ≡ 0 = ap (λ k. k * room_in v) none ∙ (let e : 0 * room_in v ≡ 0 = omega arith in e) in
            ap (λ k. drop k (waiting_in v ++ bytes)) nothing
            ∙ (drop_none (waiting_in v ++ bytes)
            ∙ (ap (λ (l : List ℕ). waiting_in v ++ l) (sym (take-append-drop n bytes)) ∙ (sym (append_assoc (waiting_in v) (take n bytes) (drop n bytes)) ∙ ap (λ (l : List ℕ). l ++ drop n bytes) (sym put))));
        outside = λ told q far. refl;
        reads = refl;
        media_reads = omega arith;
        tried = writes-none (IsOnRing v) (next_in w - next_in v) f;
        quiet = λ e. refl;
        power = inl refl;
        off = λ down. next;
        seals = λ plan table rose device watched has waits.
            subst (λ k. Seals plan (replicate k VarRing) table rose device v f w f) (sym none) (seals-none plan table rose device v w f ring same has watched);
      }

-- the bytes of the next page are those in the full buffer
module _ (first v : VarData) (first_f f : FlashState) (bytes : List ℕ) (done : ℕ) (is : Writes first first_f bytes done v f) (less : done < length bytes) where
  waits-next : (plan : Plan) (table : Table) → HasRing first first_f plan table → table.buffered ≡ waiting_in first ++ bytes →
      take (content_per_page plan) (after_seals plan (replicate (next_in v - next_in first) VarRing) table).buffered ≡ waiting_in v
  waits-next plan table has waits =
      let n = next_in v - next_in first in
      let room = room-planned first plan has.planned in
      let count : (next_in v - next_in first) * content_per_page plan ≡ (next_in v - next_in first) * room_in first = ap (λ k. n * k) room in
      let left : (after_seals plan (replicate (next_in v - next_in first) VarRing) table).buffered ≡ waiting_in v ++ drop done bytes =
      buffered-after plan n table ∙ (ap (λ k. drop k table.buffered) count ∙ (ap (λ (l : List ℕ). drop (n * room_in first) l) waits ∙ is.left)) in
      ap (take (content_per_page plan)) left ∙ take_at (waiting_in v) (drop done bytes) (content_per_page plan) (is.full less ∙ sym room)

-- what a seal does, by its contract
abbrev pub SealsNext : VarData → FlashState → Result (Unit {0}) FlashFault → VarData → FlashState → Type 0
SealsNext v f result mid g =
    (plan : Plan) (table : Table) (rose : Bool) (device : Device) → IsWatched f g rose device → HasRing v f plan table → take (content_per_page plan) table.buffered ≡ waiting_in v →
    EndsWith plan (VarRing ∷ []) table rose device v f result mid g

-- the full buffer was sealed, and then bytes put
module _ (first v mid w : VarData) (first_f f g : FlashState) (bytes : List ℕ) (done n : ℕ) (is : Writes first first_f bytes done v f) (less : done < length bytes)
    (goes : Goes f g) (same : IsSamePlan v mid) (lies : LiesOn mid g) (mounted : is_mounted mid ≡ true) (next : next_in mid ≡ next_in v + 1) (kept : oldest_in mid ≡ oldest_after v 1) (empty : waiting_in mid ≡ [])
    (ends : SealsNext v f (Ok tt) mid g)
    (outside : IsTrue f.media.tells → OutsideStands (var_shape v) (page_at f) (page_at g)) (reads : g.work.reads ≡ f.work.reads) (media_reads : g.media.reads ≤ f.media.reads + 1) (tries : written.Writes (IsOnRing v) 0 1 f g)
    (ring : w.ring ≡ mid.ring) (refilled : IsSamePlan mid w) (power : g.is_on ≡ true) (sealed_on : f.is_on ≡ false → ⊥) (some_len : ℕ) (len_is : some_len ≡ length bytes - done) (counted : n ≡ min some_len (length mid.waiting.body - (8 + mid.waiting.fill))) (filled : w.waiting.fill ≡ mid.waiting.fill + n)
    (put : waiting_in w ≡ waiting_in mid ++ take n (take (length bytes - done) (drop done bytes))) where
  count_there : n ≡ min (length bytes - done) (room_in mid - length (waiting_in mid))
  count_there = counted ∙ (ap (λ k. min k (length mid.waiting.body - (8 + mid.waiting.fill))) len_is ∙ ap (min (length bytes - done)) (omega (arith, mid.page, waiting-length mid)))

  fill_there : length (waiting_in w) ≡ length (waiting_in mid) + n
  fill_there = waiting-length w ∙ (filled ∙ ap (λ k. k + n) (sym (waiting-length mid)))

  at : next_in w ≡ next_in v + 1
  at = next-same mid w ring ∙ next

  pages : next_in w - next_in first ≡ next_in v - next_in first + 1
  pages = omega (arith, at, is.later)

  put_there : waiting_in w ≡ take n (drop done bytes)
  put_there =
      put ∙ (ap (λ (l : List ℕ). l ++ take n (take (length bytes - done) (drop done bytes))) empty
      ∙ ap (take n) (take_all (length bytes - done) (drop done bytes) (omega (arith, length-drop done bytes))))

  left_there : drop ((next_in w - next_in first) * room_in first) (waiting_in first ++ bytes) ≡ waiting_in w ++ drop (done + n) bytes
  left_there =
      let more : (next_in w - next_in first) * room_in first ≡ (next_in v - next_in first) * room_in first + room_in first =
      ap (λ k. k * room_in first) pages ∙ (let e : (next_in v - next_in first + 1) * room_in first ≡ (next_in v - next_in first) * room_in first + room_in first = omega arith in e) in
      ap (λ k. drop k (waiting_in first ++ bytes)) more
      ∙ (sym (drop-drop (room_in first) ((next_in v - next_in first) * room_in first) (waiting_in first ++ bytes))
      ∙ (ap (drop (room_in first)) is.left
      ∙ (drop_at (waiting_in v) (drop done bytes) (room_in first) (is.full less)
      ∙ (sym (take-append-drop n (drop done bytes))
      ∙ (ap (λ (l : List ℕ). l ++ drop n (drop done bytes)) (sym put_there) ∙ ap (λ (l : List ℕ). waiting_in w ++ l) (drop-drop n done bytes))))))

  pub writes-next : Writes first first_f bytes (done + n) w g
  writes-next =
      let none : length (waiting_in mid) ≡ 0 = ap length empty in
      let wide : room_in mid ≡ room_in first = room-same v mid same ∙ room-same first v is.same in
      let before = is.full less in
      record {
        goes = goes-then first_f f g is.goes goes;
        same = plan-then first v w is.same (plan-then v mid w same refilled);
        lies = lies-refilled mid w g ring refilled lies;
        mounted = ap is_some ring ∙ mounted;
        later = omega (arith, at, is.later);
        oldest = oldest-same mid w ring ∙ (after-then first v mid (next_in v - next_in first) 1 is.same (omega (arith, is.later)) is.oldest kept ∙ ap (oldest_after first) (sym pages));
        sum =
            let more : (next_in v - next_in first + 1) * room_in first ≡ (next_in v - next_in first) * room_in first + room_in first = omega arith in
            subst (λ k. length (waiting_in first) + (done + n) ≡ k * room_in first + length (waiting_in w)) (sym pages) (omega (arith, more, is.sum, before, fill_there, none));
        some = omega (arith, fill_there, none, count_there, less, wide, is.some, before);
        most = omega (arith, fill_there, none, count_there, wide);
        within = omega (arith, count_there, is.within, less);
        full = λ fewer. omega (arith, fill_there, none, count_there, fewer, wide, less);
        left = left_there;
        outside = λ told q far.
            outside (subst IsTrue (sym is.goes.tells) told) q (subst (λ (r : Shape). (q < r.first) ⊎ (r.first + rings.room r ≤ q)) (sym (same-shape first v is.same)) far) ∙ is.outside told q far;
        reads = reads ∙ is.reads;
        media_reads = omega (arith, media_reads, is.media_reads, pages);
        tried = subst (λ k. written.Writes (IsOnRing first) 0 k first_f g) (sym pages) (writes-both first v (next_in v - next_in first) 1 first_f f g is.same is.goes.tells is.tried tries);
        quiet = λ e. absurd (omega (arith, e, at, is.later));
        power = inr power;
        off = λ down. absurd (sealed_on (ap (λ (x : FlashState). x.is_on) (is.quiet (is.off down)) ∙ down));
        seals = λ plan table rose device watched has waits.
            let a = is.seals plan table rose device (watched-first first_f f g rose device watched goes) has waits in
            let b = ends plan (after_seals plan (replicate (next_in v - next_in first) VarRing) table) rose a.now.device (watched-then first_f f g rose device a.now.device watched is.goes a.power a.counts) a.has
            (waits-next first v first_f f bytes done is less plan table has waits) in
            let joined = seals-join plan (replicate (next_in v - next_in first) VarRing) (VarRing ∷ []) table rose device first v first_f f a mid g b in
            seals-refilled plan (replicate (next_in w - next_in first) VarRing) table rose device first mid w first_f g ring refilled
            (subst (λ (xs : List RingName). Seals plan xs table rose device first first_f mid g) (replicate-push (next_in v - next_in first) ∙ ap (λ k. replicate k VarRing) (sym pages)) joined);
      }

-- how bytes are written
abbrev pub WritesEnd : VarData → FlashState → List ℕ → Result (Unit {0}) FlashFault → VarData → FlashState → Type 0
WritesEnd first first_f bytes result v f =
    (plan : Plan) (table : Table) (rose : Bool) (device : Device) → IsWatched first_f f rose device → HasRing first first_f plan table → table.buffered ≡ waiting_in first ++ bytes →
    EndsWith plan (replicate (pages_placed first (length bytes)) VarRing) table rose device first first_f result v f

-- the next page is one of those that the bytes fill
pub pages-next : (first v : VarData) (first_f f : FlashState) (bytes : List ℕ) (done : ℕ) → Writes first first_f bytes done v f → done < length bytes → 0 < room_in first → next_in v - next_in first + 1 ≤ pages_placed first (length bytes)
pages-next first v first_f f bytes done is less wide =
    pages-more (length (waiting_in first)) done (length bytes) (next_in v - next_in first) (room_in first) wide (is.sum ∙ ap (λ k. (next_in v - next_in first) * room_in first + k) (is.full less)) less

-- a seal failed
module _ (first v w mid : VarData) (first_f f g : FlashState) (bytes : List ℕ) (done : ℕ) (fault : FlashFault) (is : Writes first first_f bytes done v f) (less : done < length bytes) (wide : 0 < room_in first)
    (goes : Goes f g) (ends : SealsNext v f (Err fault) mid g)
    (result : Result (Unit {0}) FlashFault) (result_is : result ≡ Err fault) where
  pub writes-fail : WritesEnd first first_f bytes result w g
  writes-fail plan table rose device watched has waits =
      let a = is.seals plan table rose device (watched-first first_f f g rose device watched goes) has waits in
      let b = ends plan (after_seals plan (replicate (next_in v - next_in first) VarRing) table) rose a.now.device (watched-then first_f f g rose device a.now.device watched is.goes a.power a.counts) a.has
      (waits-next first v first_f f bytes done is less plan table has waits) in
      let joined = breaks-join plan (replicate (next_in v - next_in first) VarRing) (VarRing ∷ []) table rose device first v first_f f a fault g is.same b in
      let fewer : next_in v - next_in first + 1 ≤ pages_placed first (length bytes) = pages-next first v first_f f bytes done is less wide in
      let whole = breaks-front plan (replicate (next_in v - next_in first + 1) VarRing) (replicate (pages_placed first (length bytes) - (next_in v - next_in first + 1)) VarRing) table rose device fault first g
      (subst (λ (xs : List RingName). Breaks plan xs table rose device fault first g) (replicate-push (next_in v - next_in first)) joined) in
      let all : replicate (next_in v - next_in first + 1) VarRing ++ replicate (pages_placed first (length bytes) - (next_in v - next_in first + 1)) VarRing ≡ replicate (pages_placed first (length bytes)) VarRing =
      replicate-split (next_in v - next_in first + 1) (pages_placed first (length bytes) - (next_in v - next_in first + 1)) ∙ ap (λ k. replicate k VarRing) (omega (arith, fewer)) in
      seal-err plan (replicate (pages_placed first (length bytes)) VarRing) table rose device first first_f w g result fault result_is
      (subst (λ (xs : List RingName). Breaks plan xs table rose device fault first g) all whole)

-- .. and no more seals were tried than pages are filled
pub tried-fail : (first v : VarData) (first_f f g : FlashState) (bytes : List ℕ) (done : ℕ) → Writes first first_f bytes done v f → done < length bytes → 0 < room_in first → written.Writes (IsOnRing v) 0 1 f g →
    written.Writes (IsOnRing first) 0 (pages_placed first (length bytes)) first_f g
tried-fail first v first_f f g bytes done is less wide tries =
    let fewer : next_in v - next_in first + 1 ≤ pages_placed first (length bytes) = pages-next first v first_f f bytes done is less wide in
    writes-wider (IsOnRing first) (IsOnRing first) 0 0 (next_in v - next_in first + 1) (pages_placed first (length bytes)) first_f g (λ page may. may) (omega arith) fewer
    (writes-both first v (next_in v - next_in first) 1 first_f f g is.same is.goes.tells is.tried tries)

-- all bytes were written
module _ (first v : VarData) (first_f f : FlashState) (bytes : List ℕ) (done : ℕ) (is : Writes first first_f bytes done v f) (all : length bytes ≤ done) where
  pub writes-pages : pages_placed first (length bytes) ≡ next_in v - next_in first
  writes-pages =
      pages-of (length (waiting_in first)) (length bytes) (next_in v - next_in first) (length (waiting_in v)) (room_in first) (ap (λ k. length (waiting_in first) + k) (omega (arith, all, is.within)) ∙ is.sum) is.some is.most

  pub writes-tried : written.Writes (IsOnRing first) 0 (pages_placed first (length bytes)) first_f f
  writes-tried = subst (λ k. written.Writes (IsOnRing first) 0 k first_f f) (sym writes-pages) is.tried

  pub writes-oldest : oldest_in v ≡ oldest_after first (pages_placed first (length bytes))
  writes-oldest = is.oldest ∙ ap (oldest_after first) (sym writes-pages)

  pub writes-waits : waiting_in v ≡ drop (pages_placed first (length bytes) * room_in first) (waiting_in first ++ bytes)
  writes-waits =
      sym (ap (λ k. drop (k * room_in first) (waiting_in first ++ bytes)) writes-pages
      ∙ (is.left ∙ (ap (λ (l : List ℕ). waiting_in v ++ l) (drop_all done bytes all) ∙ append-nil (waiting_in v))))

  pub writes-quiet : pages_placed first (length bytes) ≡ 0 → f ≡ first_f
  writes-quiet none = is.quiet (omega (arith, none, writes-pages, is.later))

  pub writes-end : (plan : Plan) (table : Table) (rose : Bool) (device : Device) → IsWatched first_f f rose device → HasRing first first_f plan table → table.buffered ≡ waiting_in first ++ bytes →
      Seals plan (replicate (pages_placed first (length bytes)) VarRing) table rose device first first_f v f
  writes-end plan table rose device watched has waits =
      subst (λ k. Seals plan (replicate k VarRing) table rose device first first_f v f) (sym writes-pages) (is.seals plan table rose device watched has waits)

-- a cause of a later failure is one in all of them
still-on : (old mid : FlashState) → (mid ≡ old) ⊎ (mid.is_on ≡ true) → old.is_on ≡ true → mid.is_on ≡ true
still-on old mid (inl same) on = ap (λ (f : FlashState). f.is_on) same ∙ on
still-on old mid (inr on) was = on

pub cause-err : {T : Type 0} (old mid new : FlashState) (result : Result T FlashFault) (e : FlashFault) → result ≡ Err e → Goes old mid → (mid ≡ old) ⊎ (mid.is_on ≡ true) → CausedBy mid e new → IfErr result (λ fault. CausedBy old fault new)
cause-err {T} old mid new result e is goes power cause = subst (λ (x : Result T FlashFault). IfErr x (λ fault. CausedBy old fault new)) (sym is) (cause-later old mid new goes (still-on old mid power) e cause)

-- the power after a seal that was done
pub seal-power : (r : Shape) (next : ℕ) (due : Bool) (body : List ℕ) (old new : FlashState) (u : Unit {0}) → SealCalls r next due body old (Ok u) new → new.is_on ≡ true
seal-power r next true body old new u (inl s) = s.erase_last.erases.cause.on
seal-power r next false body old new u (inl s) = ap (λ (f : FlashState). f.is_on) s.erase_last.1 ∙ s.mark_then.cause.on
seal-power r next due body old new u (inr (inl m)) = absurd (not_err m.fails)
  where
    not_err : IsErr {T = Unit {0}} {E = FlashFault} (Ok u) → ⊥
    not_err e = cc
seal-power r next due body old new u (inr (inr b)) = absurd (not_err b.fails)
  where
    not_err : IsErr {T = Unit {0}} {E = FlashFault} (Ok u) → ⊥
    not_err e = cc

-- .. and after an operation that lost it
operation-lost : (old : FlashState) (at : ℕ) (whole : List ℕ) (result : Result (Unit {0}) FlashFault) (new : FlashState) → OffChangesNothing old result new → (old.is_on ≡ true → Cuts old at whole result new) → IsErrOf result PowerLost → new.is_on ≡ false
operation-lost old at whole result new off cut lost = by_power old.is_on refl
  where
    by_tear : (tear : Option Tear) → IfSome tear (λ t. Tears old at (torn_front t whole) result new) → IfNone tear (IsErrOf result PowerLost → ⊥) → new.is_on ≡ false
    by_tear None torn none = absurd (none lost)
    by_tear (Some t) torn none = torn.off

    by_power : (b : Bool) → old.is_on ≡ b → new.is_on ≡ false
    by_power false e = ap (λ (f : FlashState). f.is_on) (off e).1 ∙ e
    by_power true e = by_tear (torn_now old.armed) (cut e).torn (cut e).whole_op

pub seal-lost : (r : Shape) (next : ℕ) (due : Bool) (body : List ℕ) (old new : FlashState) (result : Result (Unit {0}) FlashFault) → SealCalls r next due body old result new → IsErrOf result PowerLost → new.is_on ≡ false
seal-lost r next true body old new result (inl s) lost = operation-lost s.marked _ _ result new s.erase_last.erases.off s.erase_last.erases.cut lost
seal-lost r next false body old new result (inl s) lost = absurd (not_ok (sym s.erase_last.0 ∙ lost))
  where
    not_ok : ◌≡◌ {A = Result (Unit {0}) FlashFault} (Ok tt) (Err PowerLost) → ⊥
    not_ok e = cc
seal-lost r next due body old new result (inr (inl m)) lost = operation-lost m.begun _ _ result new m.mark_then.off m.mark_then.cut lost
seal-lost r next due body old new result (inr (inr b)) lost = operation-lost old _ _ result new b.body_first.off b.body_first.cut lost

-- a fault that is passed on
pub lost-on : {T U : Type 0} (x : Result T FlashFault) (y : Result U FlashFault) (e : FlashFault) → x ≡ Err e → y ≡ Err e → IsErrOf y PowerLost → IsErrOf x PowerLost
lost-on {T} {U} x y e x_is y_is lost = x_is ∙ ap (λ k. Err k) (same (sym y_is ∙ lost))
  where
    same : ◌≡◌ {A = Result U FlashFault} (Err e) (Err PowerLost) → e ≡ PowerLost
    same q = cc

-- nothing is sealed where the power is off
pub ok-on : (f g : FlashState) (u : Unit {0}) → OffChangesNothing f (Ok u) g → f.is_on ≡ false → ⊥
ok-on f g u off down = no (off down).0
  where
    no : ◌≡◌ {A = Result (Unit {0}) FlashFault} (Ok u) (Err PowerLost) → ⊥
    no e = cc

pub off-err : {T U : Type 0} (f g : FlashState) (x : Result T FlashFault) (y : Result U FlashFault) (e : FlashFault) → x ≡ Err e → y ≡ Err e → OffChangesNothing f x g → OffChangesNothing f y g
off-err {T} {U} f g x y e x_is y_is off = λ down. let h = off down in (y_is ∙ ap (λ k. Err k) (same e (sym x_is ∙ h.0)), h.1)
  where
    same : (k : FlashFault) → ◌≡◌ {A = Result T FlashFault} (Err k) (Err PowerLost) → k ≡ PowerLost
    same k q = cc

-- a later seal failed
pub writes-off : (first v : VarData) (first_f f g : FlashState) (bytes : List ℕ) (done : ℕ) (e : FlashFault) (result : Result (Unit {0}) FlashFault) → Writes first first_f bytes done v f → OffChangesNothing {T = Unit {0}} f (Err e) g → result ≡ Err e → OffChangesNothing first_f result g
writes-off first v first_f f g bytes done e result is off result_is = λ down.
    let same : f ≡ first_f = is.quiet (is.off down) in
    off-err first_f g (Err e) result e refl result_is (subst (λ (x : FlashState). OffChangesNothing {T = Unit {0}} x (Err e) g) same off) down

-- all was written, some of it in pages
pub wrote-on : (first v : VarData) (first_f f : FlashState) (bytes : List ℕ) (done : ℕ) (is : Writes first first_f bytes done v f) → length bytes ≤ done → 1 ≤ pages_placed first (length bytes) → first_f.is_on ≡ false → ⊥
wrote-on first v first_f f bytes done is all some down = omega (arith, writes-pages first v first_f f bytes done is all, is.off down, some)
