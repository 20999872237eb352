-- The variable data of a table, where it has any.
use Rattle.std.proofs.Common.{◌≡◌, ℕ, ◌+◌, ◌-◌, ◌*◌, ◌/◌, ◌^◌, ◌<◌, ◌≤◌, Bool, true, false, cond, nat_le, ◌==◌, is_some, option_map, unwrap_or, Option, Some, None, IfSome, List, length, refl, sym, ◌∙◌, ap, subst, arith, inr}
use Rattle.std.proofs.Math.Path.{fun_ext}
use Rattle.std.proofs.Math.Nat.{add-mul, div-lt_iff_lt-mul}
use Rattle.std.specs.List.{slice_get}
use Rattle.fl_flash.specs.Flash.{FlashState, page_at, pages, StaysWith}
use Rattle.fl_model.specs.Layout.{ContentPage, content_body}
use Rattle.fl_model.specs.Record.{Plan, has_var}
use Rattle.fl_model.specs.Ring.{Ring}
use Rattle.fl_model.specs.Table.{Table, Entry, VarRing, shape_of, spent_from}
use Rattle.fl_model.specs.Image.{IsRingImage, HoldsContent, HoldsPage}
use Rattle.fl_model.proofs.SomeRing.{no-ring}
use Rattle.fl_frame.proofs.CallsInTurn.{few-goes}
use Rattle.fl_ring.specs.Ring.{Shape, OutsideStands, room}
use Rattle.fl_ring.proofs.Exists.{lies_still}
use Rattle.fl_parts.specs.Blobs.{IsStanding, ArePlanned, AreSamePlan, LieOn, AreEmpty, NumbersLeft, HasFew, Stand, IsPlanned, next_of, next_after, pages_for, most_pages}
use Rattle.fl_parts.specs.Pages.{bytes_in, place_in}
use Rattle.fl_parts.proofs.BlobTables.{IsBlobbed, HoldsVar, planned-var, var-pages}
use Rattle.fl_parts.proofs.BlobTables as tables
use Rattle.fl_parts.proofs.VarFacts.{placed-some}
use Rattle.fl_parts.proofs.States.{shape_in}
use Rattle.fl_var.specs.Memory.{next_in, waiting_in, room_in, page_in}
use Rattle.fl_var.specs.Placing.{pages_placed}
use Rattle.fl_var.proofs.PageImages.{waiting-room}
use Rattle.fl_var.specs.declared.var_data.VarData.{VarData}
use Rattle.fl_var.proofs.Joins.{same-shape}

-- as planned
pub still-planned : (old new : Option VarData) (first : ℕ) (plan : Plan) → ArePlanned old first plan → AreSamePlan old new → ArePlanned new first plan
still-planned None None first plan h same = h
still-planned None (Some new) first plan h same = absurd same
still-planned (Some old) None first plan h same = absurd same
still-planned (Some old) (Some new) first plan h same = record {
  planned = record { geometry = h.planned.geometry ∙ sym (same.geometry); blocks = h.planned.blocks ∙ sym (ap (λ p. p.blocks) same.place) };
  begins = ap (λ (r : Shape). r.first) (same-shape old new same) ∙ h.begins;
}

pub plan-same : (blobs : Option VarData) → AreSamePlan blobs blobs
plan-same None = tt
plan-same (Some var) = record { geometry = refl; place = refl }

pub plan-then : (a b c : Option VarData) → AreSamePlan a b → AreSamePlan b c → AreSamePlan a c
plan-then None None None h k = tt
plan-then None None (Some z) h k = absurd k
plan-then None (Some y) c h k = absurd h
plan-then (Some x) None c h k = absurd h
plan-then (Some x) (Some y) None h k = absurd k
plan-then (Some x) (Some y) (Some z) h k = record { geometry = k.geometry ∙ h.geometry; place = k.place ∙ h.place }

pub same-some : (a b : Option VarData) → AreSamePlan a b → is_some b ≡ is_some a
same-some None None h = refl
same-some None (Some y) h = absurd h
same-some (Some x) None h = absurd h
same-some (Some x) (Some y) h = refl

pub planned-some : (var : VarData) (first : ℕ) (plan : Plan) → ArePlanned (Some var) first plan → has_var plan ≡ true
planned-some var first plan h = planned-var var first plan h

pub planned-none : (first : ℕ) (plan : Plan) → ArePlanned None first plan → has_var plan ≡ false
planned-none first plan h = rw h refl

-- a table without variable data has no ring for them
pub none-var : (first : ℕ) (plan : Plan) (table : Table) → ArePlanned None first plan → IsBlobbed plan table → table.var ≡ None
none-var first plan table h facts = no-ring table.var (facts.has ∙ planned-none first plan h)

-- they lie where they lay
pub lies-goes : {Power : Type 0} (blobs : Option VarData) (f g : FlashState) → StaysWith Power f g → LieOn blobs f → LieOn blobs g
lies-goes None f g goes h = tt
lies-goes (Some var) f g goes h = record {
  geometry = goes.geometry ∙ h.geometry;
  within = omega (arith, h.within, goes.blocks);
  few = few-goes f g goes h.few;
  ring = λ ring is. lies_still ring f g (h.ring ring is) goes;
}

-- pages of a put and of its seal have numbers
pub numbers-left : (blobs : Option VarData) → next_after blobs ≤ spent_from + 64 → NumbersLeft blobs
numbers-left None h = tt
numbers-left (Some var) h = by_fill (length (waiting_in var) == 0) h
  where
    by_fill : (b : Bool) → cond b (next_in var) (next_in var + 1) ≤ spent_from + 64 → next_in var + 64 < 2 ^ 32
    by_fill true h = omega (arith, h)
    by_fill false h = omega (arith, h)

pub after-most : (blobs : Option VarData) → next_after blobs ≤ next_of blobs + 1
after-most None = omega arith
after-most (Some var) = by_fill (length (waiting_in var) == 0)
  where
    by_fill : (b : Bool) → cond b (next_in var) (next_in var + 1) ≤ next_in var + 1
    by_fill true = omega arith
    by_fill false = omega arith

-- where no byte waits
pub after-empty : (blobs : Option VarData) → AreEmpty blobs → next_after blobs ≡ next_of blobs
after-empty None h = refl
after-empty (Some var) h = ap (λ (xs : List ℕ). cond (length xs == 0) (next_in var) (next_in var + 1)) h

-- the pages of variable data lie behind the data ring
pub var-stands : (old new : ℕ → List ℕ) (first : ℕ) (plan : Plan) → OutsideStands (shape_in first plan) old new → (n : ℕ) → bytes_in new first plan VarRing n ≡ bytes_in old first plan VarRing n
var-stands old new first plan stands n =
    let all : (first + plan.data_blocks + plan.index_blocks) * plan.geometry.block ≡ first * plan.geometry.block + plan.data_blocks * plan.geometry.block + plan.index_blocks * plan.geometry.block =
    add-mul (first + plan.data_blocks) plan.index_blocks plan.geometry.block ∙ ap (λ k. k + plan.index_blocks * plan.geometry.block) (add-mul first plan.data_blocks plan.geometry.block) in
    stands (place_in first plan VarRing n) (inr (omega (arith, all)))

-- the same pages for variable data in memory
pub pages-stand : (v : VarData) (f g : FlashState) (first : ℕ) (plan : Plan) → IsPlanned v (first + plan.data_blocks + plan.index_blocks) plan → ((n : ℕ) → bytes_in (page_at g) first plan VarRing n ≡ bytes_in (page_at f) first plan VarRing n) → page_in v g ≡ page_in v f
pages-stand v f g first plan planned same =
    sym (var-pages v g first plan planned) ∙ (fun_ext (λ n. same n) ∙ var-pages v f first plan planned)

-- .. and behind the index ring
pub var-behind : (old new : ℕ → List ℕ) (first : ℕ) (plan : Plan) (shape : Shape) → shape.first ≡ (first + plan.data_blocks) * plan.geometry.block → room shape ≡ plan.index_blocks * plan.geometry.block → OutsideStands shape old new → (n : ℕ) →
    bytes_in new first plan VarRing n ≡ bytes_in old first plan VarRing n
var-behind old new first plan shape begins size stands n =
    let all : (first + plan.data_blocks + plan.index_blocks) * plan.geometry.block ≡ (first + plan.data_blocks) * plan.geometry.block + plan.index_blocks * plan.geometry.block = add-mul (first + plan.data_blocks) plan.index_blocks plan.geometry.block in
    stands (place_in first plan VarRing n) (inr (omega (arith, all, begins, size)))

-- what a flash holds of a table's variable data, on another flash with the same pages
pub var-same : (old new : ℕ → List ℕ) (first : ℕ) (plan : Plan) (table : Table) → ((n : ℕ) → bytes_in new first plan VarRing n ≡ bytes_in old first plan VarRing n) → HoldsVar old first plan table → HoldsVar new first plan table
var-same old new first plan table same h =
    subst (λ (at : ℕ → List ℕ). IfSome table.var (λ ring. IsRingImage (shape_of plan VarRing) ring at (HoldsContent table ring))) (sym (fun_ext (λ n. same n))) h

-- .. and of another table with the same variable data
pub var-as : (page : ℕ → List ℕ) (first : ℕ) (plan : Plan) (table new : Table) → new.var ≡ table.var → new.var_pages ≡ table.var_pages → HoldsVar page first plan table → HoldsVar page first plan new
var-as page first plan table new var pages h =
    subst (λ (o : Option Ring). IfSome o (λ ring. IsRingImage (shape_of plan VarRing) ring (bytes_in page first plan VarRing) (HoldsContent new ring))) (sym var)
    (subst (λ (ps : List ContentPage). IfSome table.var (λ ring. IsRingImage (shape_of plan VarRing) ring (bytes_in page first plan VarRing) (λ i count bytes. HoldsPage ps content_body ring i count bytes))) (sym pages) h)

-- ---- variable data in memory stand where other parts of their table changed, of whose records some are kept

pub stand-moved : (blobs : Option VarData) (f g : FlashState) (first : ℕ) (plan : Plan) (table new : Table) → ((n : ℕ) → bytes_in (page_at g) first plan VarRing n ≡ bytes_in (page_at f) first plan VarRing n) →
    new.var ≡ table.var → new.var_pages ≡ table.var_pages → new.buffered ≡ table.buffered → ((i : ℕ) (entry : Entry) → slice_get new.entries i ≡ Some entry → (j : ℕ) × (slice_get table.entries j ≡ Some entry)) →
    Stand blobs f (first + plan.data_blocks + plan.index_blocks) plan table → Stand blobs g (first + plan.data_blocks + plan.index_blocks) plan new
stand-moved None f g first plan table new same var pages buffered within s = buffered ∙ s
stand-moved (Some v) f g first plan table new same var pages buffered within s =
    tables.stand-moved v f g (first + plan.data_blocks + plan.index_blocks) plan table new s (pages-stand v f g first plan s.planned same) var pages buffered
    (placed-some s.in_pages.ring.ring table.entries new.entries within s.placed)

-- ---- numbers

pub next-is : (v : VarData) (f : FlashState) (first : ℕ) (plan : Plan) (table : Table) (s : IsStanding v f first plan table) → next_in v ≡ s.in_pages.ring.ring.next
next-is v f first plan table s = s.in_pages.ring.next

pub var-number : (blobs : Option VarData) (f : FlashState) (first : ℕ) (plan : Plan) (table : Table) (n : ℕ) → ArePlanned blobs first plan → IsBlobbed plan table → Stand blobs f first plan table → next_of blobs ≤ n → IfSome table.var (λ ring. ring.next ≤ n)
var-number None f first plan table n planned facts s le = rw (none-var first plan table planned facts) tt
var-number (Some v) f first plan table n planned facts s le =
    subst (λ (o : Option Ring). IfSome o (λ ring. ring.next ≤ n)) (sym s.in_pages.ring.ring_is) (omega (arith, next-is v f first plan table s, le))

pub var-spent : (blobs : Option VarData) (f : FlashState) (first : ℕ) (plan : Plan) (table : Table) → ArePlanned blobs first plan → IsBlobbed plan table → Stand blobs f first plan table →
    nat_le spent_from (next_of blobs) ≡ unwrap_or (option_map (λ ring. nat_le spent_from ring.next) table.var) false
var-spent None f first plan table planned facts s = rw (none-var first plan table planned facts) refl
var-spent (Some v) f first plan table planned facts s =
    ap (nat_le spent_from) (next-is v f first plan table s) ∙ ap (λ (o : Option Ring). unwrap_or (option_map (λ ring. nat_le spent_from ring.next) o) false) (sym s.in_pages.ring.ring_is)

-- ---- pages of a blob

-- as many as its bytes fill, and one more at most
pub pages-most : (old new : Option VarData) (blob : Option (List ℕ)) → AreSamePlan old new → pages_for new blob ≤ most_pages old blob
pages-most None None blob same = omega arith
pages-most None (Some new) blob same = absurd same
pages-most (Some old) None blob same = absurd same
pages-most (Some old) (Some new) None same = omega arith
pages-most (Some old) (Some new) (Some bytes) same =
    subst (λ k. pages_placed new (length bytes) ≤ length bytes / k + 1) (ap (λ g. g.page - 16) (same.geometry)) (filled (waiting-room new))
  where
    some : 0 < room_in new
    some = omega (arith, new.served.page_least)

    whole : length bytes < (length bytes / room_in new + 1) * room_in new
    whole = (div-lt_iff_lt-mul {x = length bytes} {y = length bytes / room_in new + 1} some).0 (omega arith)

    filled : length (waiting_in new) ≤ room_in new → (length (waiting_in new) + length bytes - 1) / room_in new ≤ length bytes / room_in new + 1
    filled le =
        let more : (length bytes / room_in new + 1 + 1) * room_in new ≡ (length bytes / room_in new + 1) * room_in new + 1 * room_in new = add-mul (length bytes / room_in new + 1) 1 (room_in new) in
        let lt = (div-lt_iff_lt-mul {x = length (waiting_in new) + length bytes - 1} {y = length bytes / room_in new + 1 + 1} some).1 (omega (arith, le, whole, more, some)) in
        omega (arith, lt)

pub pages-few : (blobs : Option VarData) (blob : Option (List ℕ)) → HasFew blob → pages_for blobs blob ≤ 33
pages-few None blob few = omega arith
pages-few (Some var) None few = omega arith
pages-few (Some var) (Some bytes) few =
    let most = pages-most (Some var) (Some var) (Some bytes) (record { geometry = refl; place = refl }) in
    let lt = (div-lt_iff_lt-mul {x = length bytes} {y = 32} (let some : 0 < room_in var = omega (arith, var.served.page_least) in some)).1 (omega (arith, few, var.served.page_least)) in
    omega (arith, most, lt)
