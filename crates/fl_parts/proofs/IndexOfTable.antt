-- The index of a table, where it has one.
use Rattle.std.proofs.Common.{◌≡◌, ℕ, ◌+◌, ◌-◌, ◌%◌, ◌^◌, ◌<◌, ◌≤◌, Bool, true, false, cond, nat_le, nat_lt, ◌==◌, is_some, option_map, unwrap_or, Option, Some, None, IfSome, List, [], ◌∷◌, ◌++◌, length, refl, sym, ◌∙◌, ap, subst, arith, IsTrue, length-append}
use Rattle.std.proofs.lemmas.Bool.{lt-ltb, ne_eqb, false≢true}
use Rattle.std.specs.Prelude.{slice_index_or, vec_len}
use Rattle.std.specs.Option.{ForSome}
use Rattle.std.proofs.lemmas.Option.{none-some}
use Rattle.fl_base.specs.declared.types.RingPlace.{RingPlace}
use Rattle.fl_flash.specs.Flash.{FlashState, page_at, pages, StaysWith}
use Rattle.fl_index.specs.declared.index.BitmapIndex.{BitmapIndex}
use Rattle.fl_index.specs.declared.page.Full.{Full}
use Rattle.fl_index.specs.Memory as memory
use Rattle.fl_index.specs.Memory.{waiting_in, first_waiting, per_page}
use Rattle.fl_index.specs.Page.{full_view}
use Rattle.fl_index.specs.Standing.{Stands, Waits}
use Rattle.fl_index.proofs.Memories as memories
use Rattle.fl_index.proofs.SealEnds.{planned-page}
use Rattle.fl_model.specs.Layout.{IndexEntry, bitmap_of, full_of, index_entry}
use Rattle.fl_model.specs.Record.{Plan, has_index, entries_per_page}
use Rattle.fl_model.specs.Ring as model
use Rattle.fl_model.specs.Table.{Table, DataRing, IndexRing, shape_of, pending_entries, after_seal, spent_from}
use Rattle.fl_model.proofs.Sealed.{sealed-next}
use Rattle.fl_model.proofs.SomeRing.{no-ring}
use Rattle.fl_frame.proofs.CallsInTurn.{few-goes}
use Rattle.fl_ring.specs.Place.{next_of, oldest_of}
use Rattle.fl_ring.specs.declared.ring.Ring.{Ring}
use Rattle.fl_ring.proofs.Exists.{lies_still}
use Rattle.fl_parts.specs.Bitmaps as numbers
use Rattle.fl_parts.specs.Bitmaps.{AreStillFound, StaysFound, ArePlanned, AreSamePlan, AreSameRing, AreRunning, AreBroken, EndAt, FirstsGoOn, RingGoesOn, RoomMade, LieOn, Stand, HaveRoom, NumberLeft, AreNoted}
use Rattle.fl_parts.specs.Pages.{bytes_in}
use Rattle.fl_parts.proofs.ListsStay.{has-index, ring-moved}
use Rattle.fl_parts.proofs.Plain.{IsPlainTable, IsIndexed}

-- nothing is there
pub none-there : {X : Type 0} (o : Option X) (x : X) → o ≡ None → o ≡ Some x → ⊥
none-there None x e k = none-some _ k
none-there (Some y) x e k = cc

pub none-is : {X : Type 0} (o : Option X) → o ≡ None → is_some o ≡ true → ⊥
none-is None e k = cc
none-is (Some y) e k = cc

-- as planned
pub still-planned : (old new : Option BitmapIndex) (first : ℕ) (plan : Plan) → ArePlanned old first plan → AreSamePlan old new → ArePlanned new first plan
still-planned None None first plan h same = h
still-planned None (Some new) first plan h same = absurd same
still-planned (Some old) None first plan h same = absurd same
still-planned (Some old) (Some new) first plan h same = memories.planned-same old new first plan h same

pub plan-same : (bitmaps : Option BitmapIndex) → AreSamePlan bitmaps bitmaps
plan-same None = tt
plan-same (Some index) = record { geometry = refl; place = refl; bits = refl; full = refl }

pub plan-then : (a b c : Option BitmapIndex) → AreSamePlan a b → AreSamePlan b c → AreSamePlan a c
plan-then None None None h k = tt
plan-then None None (Some z) h k = absurd k
plan-then None (Some y) c h k = absurd h
plan-then (Some x) None c h k = absurd h
plan-then (Some x) (Some y) None h k = absurd k
plan-then (Some x) (Some y) (Some z) h k = record { geometry = k.geometry ∙ h.geometry; place = k.place ∙ h.place; bits = k.bits ∙ h.bits; full = k.full ∙ h.full }

pub same-index : (a b : Option BitmapIndex) → AreSamePlan a b → is_some b ≡ is_some a
same-index None None h = refl
same-index None (Some y) h = absurd h
same-index (Some x) None h = absurd h
same-index (Some x) (Some y) h = refl

pub ring-same : (bitmaps : Option BitmapIndex) → AreSameRing bitmaps bitmaps
ring-same None = tt
ring-same (Some index) = record { ring = refl; firsts = refl }

pub ring-then : (a b c : Option BitmapIndex) → AreSameRing a b → AreSameRing b c → AreSameRing a c
ring-then None None None h k = tt
ring-then None None (Some z) h k = absurd k
ring-then None (Some y) c h k = absurd h
ring-then (Some x) None c h k = absurd h
ring-then (Some x) (Some y) None h k = absurd k
ring-then (Some x) (Some y) (Some z) h k = record { ring = k.ring ∙ h.ring; firsts = k.firsts ∙ h.firsts }

pub planned-some : (index : BitmapIndex) (first : ℕ) (plan : Plan) → ArePlanned (Some index) first plan → has_index plan ≡ true
planned-some index first plan h = lt-ltb 0 plan.index_blocks (omega (arith, h.blocks, index.some_blocks))

pub planned-none : (first : ℕ) (plan : Plan) → ArePlanned None first plan → has_index plan ≡ false
planned-none first plan h = ap (nat_lt 0) h.0

-- it lies where it lay
pub lies-goes : {Power : Type 0} (bitmaps : Option BitmapIndex) (f g : FlashState) → StaysWith Power f g → LieOn bitmaps f → LieOn bitmaps g
lies-goes None f g goes h = tt
lies-goes (Some index) f g goes h = record {
  geometry = goes.geometry ∙ h.geometry;
  within = omega (arith, h.within, goes.blocks);
  few = few-goes f g goes h.few;
  ring = λ ring is. lies_still ring f g (h.ring ring is) goes;
}

-- what stays where the ring does
pub still-lies : (old new : Option BitmapIndex) (f : FlashState) → AreSamePlan old new → AreSameRing old new → LieOn old f → LieOn new f
still-lies None None f same still h = tt
still-lies None (Some new) f same still h = absurd same
still-lies (Some old) None f same still h = absurd same
still-lies (Some old) (Some new) f same still h = record {
  geometry = h.geometry ∙ sym same.geometry;
  within = omega (arith, h.within, ap (λ (p : RingPlace). p.first_block) same.place, ap (λ (p : RingPlace). p.blocks) same.place);
  few = h.few;
  ring = λ ring is. h.ring ring (sym still.ring ∙ is);
}

-- the ring is the one that was found
pub found-same : (bitmaps : Option BitmapIndex) → AreStillFound bitmaps bitmaps
found-same None = tt
found-same (Some index) = by_form (memory.form_in index).full
  where
    by_form : (full : Bool) → StaysFound full index index
    by_form true = (refl, refl, refl)
    by_form false = record { ring = refl; firsts = refl }

pub found-then : (a b c : Option BitmapIndex) → AreStillFound a b → AreSameRing b c → AreStillFound a c
found-then None None None h k = tt
found-then None None (Some z) h k = absurd k
found-then None (Some y) c h k = absurd h
found-then (Some x) None c h k = absurd h
found-then (Some x) (Some y) None h k = absurd k
found-then (Some x) (Some y) (Some z) h k = by_form (memory.form_in x).full h
  where
    by_form : (full : Bool) → StaysFound full x y → StaysFound full x z
    by_form true h = (
      ap (λ (o : Option Ring). is_some o) k.ring ∙ h.0,
      ap (λ (o : Option Ring). unwrap_or (option_map (λ ring. oldest_of ring) o) 0) k.ring ∙ h.1,
      ap (λ (o : Option Ring). unwrap_or (option_map (λ ring. next_of ring) o) 0) k.ring ∙ h.2,
    )
    by_form false h = record { ring = k.ring ∙ h.ring; firsts = k.firsts ∙ h.firsts }

pub still-running : (old new : Option BitmapIndex) → AreSameRing old new → AreRunning old → AreRunning new
still-running None None same h = λ index e. absurd (none-some index e)
still-running None (Some new) same h = absurd same
still-running (Some old) None same h = absurd same
still-running (Some old) (Some new) same h = λ index e.
    subst (λ (o : Option BitmapIndex). IfSome o (λ x. memory.is_running x ≡ true)) e (ap (λ (o : Option Ring). is_some o) same.ring ∙ h old refl)

pub still-next : (old new : Option BitmapIndex) → AreSameRing old new → numbers.next_of new ≡ numbers.next_of old
still-next None None same = refl
still-next None (Some new) same = absurd same
still-next (Some old) None same = absurd same
still-next (Some old) (Some new) same = ap (λ (o : Option Ring). unwrap_or (option_map (λ ring. next_of ring) o) 0) same.ring

pub still-oldest : (old new : Option BitmapIndex) → AreSameRing old new → numbers.oldest_of new ≡ numbers.oldest_of old
still-oldest None None same = refl
still-oldest None (Some new) same = absurd same
still-oldest (Some old) None same = absurd same
still-oldest (Some old) (Some new) same = ap (λ (o : Option Ring). unwrap_or (option_map (λ ring. oldest_of ring) o) 0) same.ring

firsts-stay : (old mid new : Option BitmapIndex) → FirstsGoOn old mid → AreSameRing mid new → FirstsGoOn old new
firsts-stay None mid new h still = tt
firsts-stay (Some old) None new h still = absurd h
firsts-stay (Some old) (Some mid) None h still = absurd still
firsts-stay (Some old) (Some mid) (Some new) h still = λ number low high fits.
    let next : memory.next_in new ≡ memory.next_in mid = ap (λ (o : Option Ring). unwrap_or (option_map (λ ring. next_of ring) o) 0) still.ring in
    let oldest : memory.oldest_in new ≡ memory.oldest_in mid = ap (λ (o : Option Ring). unwrap_or (option_map (λ ring. oldest_of ring) o) 0) still.ring in
    let len : vec_len new.firsts ≡ vec_len mid.firsts = ap (λ v. vec_len v) still.firsts in
    ap (λ v. slice_index_or v.items (number % vec_len v) None) still.firsts ∙ h number (omega (arith, oldest, low)) (omega (arith, next, high)) (omega (arith, next, len, fits))

-- a seal of the index, and then calls that leave its ring
pub ring-stays : (old mid before new : Option BitmapIndex) → RingGoesOn old mid → before ≡ mid → AreSameRing before new → RingGoesOn old new
ring-stays old mid before new h same still = record {
  next = still-next before new still ∙ (ap numbers.next_of same ∙ h.next);
  oldest = still-oldest before new still ∙ (ap numbers.oldest_of same ∙ h.oldest);
  firsts = firsts-stay old mid new h.firsts (subst (λ (o : Option BitmapIndex). AreSameRing o new) same still);
}

pub still-few : (n : ℕ) (old new : Option BitmapIndex) → AreSamePlan old new → ForSome old (λ index. n ≤ 65536) → ForSome new (λ index. n ≤ 65536)
still-few n None None same h = h
still-few n None (Some new) same h = absurd same
still-few n (Some old) None same h = absurd same
still-few n (Some old) (Some new) same h = λ index e. h old refl

-- where room was made
pub made-running : (old new : Option BitmapIndex) → RoomMade old new → AreRunning new
made-running None new made = λ index e. absurd (none-some index (sym made ∙ e))
made-running (Some old) None made = absurd made
made-running (Some old) (Some new) made = λ index e. subst (λ (o : Option BitmapIndex). IfSome o (λ x. memory.is_running x ≡ true)) e made.running

pub made-end : (old new : Option BitmapIndex) (n : ℕ) → RoomMade old new → EndAt old n → EndAt new n
made-end None new n made h = λ index e. absurd (none-some index (sym made ∙ e))
made-end (Some old) None n made h = absurd made
made-end (Some old) (Some new) n made h = λ index e. subst (λ (o : Option BitmapIndex). IfSome o (λ x. first_waiting x + waiting_in x ≡ n)) e (made.same ∙ h old refl)

pub made-room : (old new : Option BitmapIndex) → RoomMade old new → HaveRoom new
made-room None new made = λ index e. absurd (none-some index (sym made ∙ e))
made-room (Some old) None made = absurd made
made-room (Some old) (Some new) made = λ index e. subst (λ (o : Option BitmapIndex). IfSome o (λ x. waiting_in x < per_page x)) e made.room

pub made-next : (old new : Option BitmapIndex) → RoomMade old new → numbers.next_of new ≤ numbers.next_of old + 1
made-next None new made = let e : numbers.next_of new ≡ 0 = ap numbers.next_of made in omega (arith, e)
made-next (Some old) None made = absurd made
made-next (Some old) (Some new) made = by_full (waiting_in old == per_page old) made.number
  where
    by_full : (b : Bool) → memory.next_in new ≡ cond b (memory.next_in old + 1) (memory.next_in old) → memory.next_in new ≤ memory.next_in old + 1
    by_full true e = omega (arith, e)
    by_full false e = omega (arith, e)

pub made-sealed : (old new : Option BitmapIndex) → RoomMade old new → RingGoesOn old new
made-sealed None new made = record { next = ap numbers.next_of made; oldest = ap numbers.oldest_of made; firsts = tt }
made-sealed (Some old) None made = absurd made
made-sealed (Some old) (Some new) made = record { next = by_full (waiting_in old == per_page old) made.number; oldest = made.oldest; firsts = made.firsts }
  where
    by_full : (b : Bool) → memory.next_in new ≡ cond b (memory.next_in old + 1) (memory.next_in old) → memory.next_in new ≡ memory.next_in old + (cond b 1 0)
    by_full true e = e
    by_full false e = omega (arith, e)

-- where the waiting bitmaps have a number, a page of them has one
pub number-left : (bitmaps : Option BitmapIndex) → numbers.next_after bitmaps ≤ spent_from + 1 → NumberLeft bitmaps
number-left bitmaps h = λ index e. few index (subst (λ (o : Option BitmapIndex). numbers.next_after o ≤ spent_from + 1) e h)
  where
    few : (index : BitmapIndex) → numbers.next_after (Some index) ≤ spent_from + 1 → memory.next_in index + 1 < 2 ^ 32
    few index h = omega (arith, h)

pub made-after : (old new : Option BitmapIndex) → RoomMade old new → numbers.next_after new ≤ numbers.next_after old
made-after None new made = let e : numbers.next_after new ≡ 0 = ap numbers.next_after made in omega (arith, e)
made-after (Some old) None made = absurd made
made-after (Some old) (Some new) made =
    let room : (waiting_in new == per_page new) ≡ false = ne_eqb (waiting_in new) (per_page new) (λ e. omega (arith, e, made.room)) in
    let last : memory.next_in new + (cond (waiting_in new == per_page new) 1 0) ≡ memory.next_in new + 0 = ap (λ b. memory.next_in new + (cond b 1 0)) room in
    let up : memory.next_in new ≤ memory.next_in old + (cond (waiting_in old == per_page old) 1 0) = by_full (waiting_in old == per_page old) made.number in
    omega (arith, last, up)
  where
    by_full : (b : Bool) → memory.next_in new ≡ cond b (memory.next_in old + 1) (memory.next_in old) → memory.next_in new ≤ memory.next_in old + (cond b 1 0)
    by_full true e = omega (arith, e)
    by_full false e = omega (arith, e)

-- an index that isn't running has no number
pub broken-after : (bitmaps : Option BitmapIndex) → AreBroken bitmaps → numbers.next_after bitmaps ≤ 1
broken-after None h = omega arith
broken-after (Some index) h =
    let none : memory.next_in index ≡ 0 = by_ring index.ring (h index refl) in
    by_full (waiting_in index == per_page index) none
  where
    by_ring : (o : Option Ring) → is_some o ≡ false → unwrap_or (option_map (λ ring. next_of ring) o) 0 ≡ 0
    by_ring None e = refl
    by_ring (Some ring) e = cc

    by_full : (b : Bool) → memory.next_in index ≡ 0 → memory.next_in index + (cond b 1 0) ≤ 1
    by_full true e = omega (arith, e)
    by_full false e = omega (arith, e)

-- the next page's entry was noted
pub noted-end : (old new : Option BitmapIndex) (number bitmap : ℕ) (full : Full) → AreNoted old number bitmap full new → EndAt old number → EndAt new (number + 1)
noted-end None new number bitmap full noted h = λ index e. absurd (none-some index (sym noted ∙ e))
noted-end (Some old) None number bitmap full noted h = absurd noted
noted-end (Some old) (Some new) number bitmap full noted h = λ index e.
    let n = noted.0 (h old refl) in
    let now : first_waiting new + waiting_in new ≡ number + 1 = omega (arith, n.first, n.one, h old refl) in
    subst (λ (o : Option BitmapIndex). IfSome o (λ x. first_waiting x + waiting_in x ≡ number + 1)) e now

-- a bitmap more has room
pub room-left : (bitmaps : Option BitmapIndex) (f : FlashState) (first : ℕ) (plan : Plan) (table : Table) → ArePlanned bitmaps first plan → Stand bitmaps f first plan table → HaveRoom bitmaps → IsTrue (has_index plan) → length table.waiting < entries_per_page plan
room-left None f first plan table h s room t = absurd (false≢true (sym (planned-none first plan h) ∙ t))
room-left (Some index) f first plan table h s room t = omega (arith, room index refl, s.waits.count_is, planned-page index first plan h)

-- the number of the next index page
pub index-next : (index : BitmapIndex) (f : FlashState) (first : ℕ) (plan : Plan) (table : Table) (s : Stands index f first plan table) → memory.next_in index ≡ s.in_ring.ring.next
index-next index f first plan table s = ap (λ (o : Option Ring). unwrap_or (option_map (λ ring. next_of ring) o) 0) s.in_ring.memory_is ∙ s.in_ring.next

pub index-number : (bitmaps : Option BitmapIndex) (f : FlashState) (first : ℕ) (plan : Plan) (table : Table) (n : ℕ) → ArePlanned bitmaps first plan → IsIndexed plan table → Stand bitmaps f first plan table → numbers.next_of bitmaps ≤ n →
    IfSome table.index (λ ring. ring.next ≤ n)
index-number None f first plan table n planned facts s le = rw (no-ring table.index (facts.has ∙ planned-none first plan planned)) tt
index-number (Some index) f first plan table n planned facts s le =
    subst (λ (o : Option model.Ring). IfSome o (λ ring. ring.next ≤ n)) (sym s.in_ring.facts.ring_is) (omega (arith, index-next index f first plan table s, le))

-- no number is left just where the table's index has none
pub index-spent : (bitmaps : Option BitmapIndex) (f : FlashState) (first : ℕ) (plan : Plan) (table : Table) → ArePlanned bitmaps first plan → IsIndexed plan table → Stand bitmaps f first plan table →
    nat_le spent_from (numbers.next_of bitmaps) ≡ unwrap_or (option_map (λ ring. nat_le spent_from ring.next) table.index) false
index-spent None f first plan table planned facts s = rw (no-ring table.index (facts.has ∙ planned-none first plan planned)) refl
index-spent (Some index) f first plan table planned facts s =
    ap (nat_le spent_from) (index-next index f first plan table s) ∙ ap (λ (o : Option model.Ring). unwrap_or (option_map (λ ring. nat_le spent_from ring.next) o) false) (sym s.in_ring.facts.ring_is)

-- as many bitmaps wait as an index page holds, or fewer
pub few-waiting : (index : BitmapIndex) (f : FlashState) (first : ℕ) (plan : Plan) (table : Table) → Stands index f first plan table → length table.waiting ≤ entries_per_page plan
few-waiting index f first plan table s = omega (arith, s.waits.count_is, index.few, planned-page index first plan s.in_ring.planned)

-- the entry of the page that was sealed waits
pub stand-sealed : (old new : Option BitmapIndex) (f g : FlashState) (first : ℕ) (plan : Plan) (table : Table) (number bitmap : ℕ) (full : Full) → ArePlanned old (first + plan.data_blocks) plan → IsPlainTable plan table →
    IsPlainTable plan (after_seal plan DataRing table) → ((n : ℕ) → bytes_in (page_at g) first plan IndexRing n ≡ bytes_in (page_at f) first plan IndexRing n) →
    number ≡ table.rows.next → bitmap ≡ bitmap_of plan (pending_entries table) → full_view full ≡ full_of (pending_entries table) → AreNoted old number bitmap full new → Stand old f (first + plan.data_blocks) plan table → Stand new g (first + plan.data_blocks) plan (after_seal plan DataRing table)
stand-sealed None new f g first plan table number bitmap full planned facts after same at bits rest noted s =
    subst (λ (o : Option BitmapIndex). Stand o g (first + plan.data_blocks) plan (after_seal plan DataRing table)) (sym noted)
    (ap (λ b. cond b (table.waiting ++ index_entry plan (pending_entries table) ∷ []) []) (planned-none (first + plan.data_blocks) plan planned))
stand-sealed (Some old) None f g first plan table number bitmap full planned facts after same at bits rest noted s = absurd noted
stand-sealed (Some old) (Some new) f g first plan table number bitmap full planned facts after same at bits rest noted s =
    let some = planned-some old (first + plan.data_blocks) plan planned in
    let later = after_seal plan DataRing table in
    let all = table.waiting ++ index_entry plan (pending_entries table) ∷ [] in
    let one : later.waiting ≡ table.waiting ++ index_entry plan (pending_entries table) ∷ [] = ap (λ b. cond b (table.waiting ++ index_entry plan (pending_entries table) ∷ []) []) some in
    let next : later.rows.next ≡ table.rows.next + 1 = sealed-next (shape_of plan DataRing) table.pending table.rows in
    let within = facts.index.listed in
    let n = noted.0 (omega (arith, s.waits.first_is, s.waits.count_is, at, within)) in
    let ring = memories.ring-same old new f (first + plan.data_blocks) plan table n.same n.still s.in_ring in
    let waits : Waits new (table.rows.next - length table.waiting) (table.waiting ++ index_entry plan (pending_entries table) ∷ []) =
    n.waits (table.rows.next - length table.waiting) table.waiting (index_entry plan (pending_entries table)) s.waits (sym bits) (λ t. sym rest) in
    let long : length later.waiting ≡ length table.waiting + 1 = ap length one ∙ length-append table.waiting (index_entry plan (pending_entries table) ∷ []) in
    let first_is : table.rows.next - length table.waiting ≡ later.rows.next - length later.waiting = omega (arith, long, next, within) in
    record {
      in_ring = ring-moved new f g (first + plan.data_blocks) plan table later ring refl (has-index plan later ring.ring ring.facts.ring_is after (after.index.waiting some)) same;
      waits = subst (λ k. Waits new k later.waiting) first_is (subst (λ (ws : List IndexEntry). Waits new (table.rows.next - length table.waiting) ws) (sym one) waits);
    }

-- the index stands where other parts of its table changed
pub stand-moved : (bitmaps : Option BitmapIndex) (f g : FlashState) (first : ℕ) (plan : Plan) (table new : Table) → new.index ≡ table.index → new.index_pages ≡ table.index_pages → new.waiting ≡ table.waiting → new.rows.next ≡ table.rows.next →
    IsPlainTable plan new → ((n : ℕ) → bytes_in (page_at g) first plan IndexRing n ≡ bytes_in (page_at f) first plan IndexRing n) → Stand bitmaps f (first + plan.data_blocks) plan table → Stand bitmaps g (first + plan.data_blocks) plan new
stand-moved None f g first plan table new index pages waiting next after same s = waiting ∙ s
stand-moved (Some bitmaps) f g first plan table new index pages waiting next after same s =
    let few = few-waiting bitmaps f (first + plan.data_blocks) plan table s in
    record {
      in_ring = ring-moved bitmaps f g (first + plan.data_blocks) plan table new s.in_ring pages (has-index plan new s.in_ring.ring (index ∙ s.in_ring.facts.ring_is) after (omega (arith, few, ap length waiting))) same;
      waits = subst (λ k. Waits bitmaps (k - length new.waiting) new.waiting) (sym next) (subst (λ (ws : List IndexEntry). Waits bitmaps (table.rows.next - length ws) ws) (sym waiting) s.waits);
    }
