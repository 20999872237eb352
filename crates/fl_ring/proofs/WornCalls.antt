-- The blocks of a ring wear alike over the calls on it.
use Rattle.std.proofs.Common.{◌≡◌, ℕ, suc, ◌+◌, ◌-◌, ◌*◌, ◌/◌, ◌%◌, ◌<◌, Bool, true, false, ◌==◌, List, [], ◌∷◌, ◌++◌, length, length-append, Ok, Some, IsTrue, if◌then◌else◌, inl, inr, refl, sym, ◌∙◌, ap, subst, arith}
use Rattle.std.proofs.lemmas.Bool.{cases_eq}
use Rattle.std.proofs.Math.Nat.{add-div_right, zero-div}
use Rattle.fl_flash.specs.Flash.{FlashState, page_at}
use Rattle.fl_model.specs.Work.{PartEnd, Whole, CutIn, FailedIn}
use Rattle.fl_ring.specs.Head.{one}
use Rattle.fl_ring.specs.Numbers.{renumbered}
use Rattle.fl_ring.specs.Place.{shape_of, next_of, oldest_of}
use Rattle.fl_ring.specs.Repairing.{ahead_first, ErasesAhead, CleansAhead, VoidsNext}
use Rattle.fl_ring.specs.Ring.{Shape, RingState, fresh, count, oldest, place, IsShape, IsRing, OnRing, is_due_at, sealed, erased, voided, repaired}
use Rattle.fl_ring.specs.Sealing.{AnswersEnd, ErasesWhere, SealCalls}
use Rattle.fl_ring.specs.Wear.{turns}
use Rattle.fl_ring.specs.Worn.{SealsWell, MountsWell, erased_next, erased_calls, erased_ahead, erased_by_seal, erased_by_mount, Call, Seal, Mount, GoWell, times_among, erases_in, CallsWearAlike, QuietMountsEraseNothing}
use Rattle.fl_ring.proofs.Clean.{ahead_place}
use Rattle.fl_ring.proofs.Facts.{Due, due_true, sizes, two_blocks}
use Rattle.fl_ring.proofs.Founds.{same_pages}
use Rattle.fl_ring.proofs.GoodNumbers.{good_found}
use Rattle.fl_ring.proofs.Modulo.{parts, place_in_block}
use Rattle.fl_ring.proofs.SamePlaces.{alike_add, renumbered_on, renumbered_same, renumbered_oldest, renumbered_dirty}
use Rattle.fl_ring.proofs.EvenWear.{one_yes, one_no, quotients, worn_alike, due_block, oldest_not, oldest_due}
use Rattle.fl_ring.proofs.Whole.{whole_seal, whole_repair, erased_clean, trimmed_torn}

-- all was done where the call ended well
ended_whole : (end : PartEnd RingState) (new : FlashState) → AnswersEnd end (Ok tt) new → end ≡ Whole
ended_whole Whole new answer = refl
ended_whole (CutIn before) new answer = absurd (cc answer.0)
ended_whole (FailedIn before) new answer = absurd (cc answer.0)

-- pages alike in a ring are in blocks alike
turn_alike : (B P a b : ℕ) → 0 < B → 0 < P → a % P ≡ 0 → b % P ≡ 0 → a % (B * P) ≡ b % (B * P) → a / P % B ≡ b / P % B
turn_alike B P a b some_b some_p whole_a whole_b alike =
    let x = turn a whole_a in
    let y = turn b whole_b in
    quotients P (a / P % B) (b / P % B) (omega (arith, x, y, alike)) some_p
  where
    turn : (n : ℕ) → n % P ≡ 0 → n % (B * P) ≡ n / P % B * P + 0
    turn n whole = let e : n ≡ n / P * P + 0 = omega (arith, parts P n, whole) in ap (λ (k : ℕ). k % (B * P)) e ∙ place_in_block B P (n / P) 0 some_b some_p

-- what a call makes of the turn of the blocks: so many erases of this one, and so many of any
abbrev pub Turned : Shape → ℕ → ℕ → ℕ → ℕ → RingState → Type 0
Turned r q block here more t = (here + turns r.blocks q block ≡ turns r.blocks (q + more) block) × (oldest t / r.per_block % r.blocks ≡ (q + more) % r.blocks)

none_more : (r : Shape) (q block : ℕ) (s t : RingState) → oldest s / r.per_block % r.blocks ≡ q % r.blocks → oldest t / r.per_block % r.blocks ≡ oldest s / r.per_block % r.blocks → Turned r q block 0 0 t
none_more r q block s t turned same =
    let e : q ≡ q + 0 = omega arith in
    (omega (arith, ap (λ (k : ℕ). turns r.blocks k block) e), same ∙ turned ∙ ap (λ (k : ℕ). k % r.blocks) e)

module _ (r : Shape) (s : RingState) (body : List ℕ) (shape : IsShape r) (ring : IsRing r s) (q block : ℕ) (turned : oldest s / r.per_block % r.blocks ≡ q % r.blocks) where
  some_p : 0 < r.per_block
  some_p = omega (arith, shape.per_block)

  kept_len : length (s.kept ++ Some body ∷ []) ≡ count s + 1
  kept_len = length-append s.kept (Some body ∷ [])

  -- the block that is erased has its turn
  one_more : (b : ℕ) → b * r.per_block ≡ r.first + q % r.blocks * r.per_block → one (b * r.per_block == r.first + block * r.per_block) ≡ one (q % r.blocks == block)
  one_more b at = elim (cases_eq (q % r.blocks) block) [
    | inl same ↦ one_yes (b * r.per_block) (r.first + block * r.per_block) (at ∙ ap (λ (k : ℕ). r.first + k * r.per_block) same) ∙ sym (one_yes (q % r.blocks) block same)
    | inr other ↦ one_no (b * r.per_block) (r.first + block * r.per_block) (λ e. other (quotients r.per_block (q % r.blocks) block (omega (arith, at, e)) some_p)) ∙ sym (one_no (q % r.blocks) block other)
  ]

  pub seal_turned : (next : ℕ) (due : Bool) (old new : FlashState) → is_due_at r (s.next + 1) (length (s.kept ++ Some body ∷ [])) ≡ due → next ≡ s.next → (e : ErasesWhere r next due old (Ok tt) new)
      → Turned r q block (times_among r block (erased_next r next due old new e)) (length (erased_next r next due old new e)) (erased (sealed r s body))
  seal_turned next false old new due at e = none_more r q block s (erased (sealed r s body)) turned (ap (λ (k : ℕ). k / r.per_block % r.blocks) (oldest_not r s body shape ring due))
  seal_turned next true old new due at e =
      let goes = subst (λ (n : ℕ). Due r (s.next + 1) n) kept_len (due_true r (s.next + 1) (length (s.kept ++ Some body ∷ [])) shape due) in
      let where_is : e.block * r.per_block ≡ r.first + q % r.blocks * r.per_block =
      e.at ∙ ap (λ (n : ℕ). r.first + ((n + 1) / r.per_block + 1) % r.blocks * r.per_block) at ∙ ap (λ (k : ℕ). r.first + k * r.per_block) (due_block r s shape ring goes ∙ turned) in
      let step : q + 1 ≡ suc q = omega arith in
      let hit = one_more e.block where_is in
      let quotient : (oldest s + r.per_block) / r.per_block ≡ oldest s / r.per_block + 1 = omega (arith, add-div_right (oldest s) {k = r.per_block} some_p) in (
        omega (arith, hit, ap (λ (k : ℕ). turns r.blocks k block) step),
        ap (λ (k : ℕ). k / r.per_block % r.blocks) (oldest_due r s body shape ring due) ∙ ap (λ (k : ℕ). k % r.blocks) quotient ∙ alike_add r.blocks (oldest s / r.per_block) q 1 turned,
      )

  pub calls_turned : (next : ℕ) (due : Bool) (old new : FlashState) → is_due_at r (s.next + 1) (length (s.kept ++ Some body ∷ [])) ≡ due → next ≡ s.next → (calls : SealCalls r next due body old (Ok tt) new)
      → Turned r q block (times_among r block (erased_calls r next due body old new calls)) (length (erased_calls r next due body old new calls)) (erased (sealed r s body))
  calls_turned next due old new is at (inl all) = seal_turned next due all.marked new is at all.erase_last
  calls_turned next due old new is at (inr (inl failed)) = absurd (cc failed.fails)
  calls_turned next due old new is at (inr (inr failed)) = absurd (cc failed.fails)

-- no page is torn, and no block waits
abbrev pub IsQuiet : RingState → Type 0
IsQuiet s = (s.torn ≡ false) × (s.dirty ≡ false)

seal_well : (r : Shape) (s : RingState) (w : SealsWell r s) (q block : ℕ) → IsShape r → oldest s / r.per_block % r.blocks ≡ q % r.blocks
    → Turned r q block (times_among r block (erased_by_seal r s w)) (length (erased_by_seal r s w)) w.seals.performed.now.state × IsQuiet w.seals.performed.now.state
seal_well r s w q block shape turned = (subst (λ (x : Shape). Turned x q block (times_among x block erases) (length erases) after) w.shape here, (ap (λ (t : RingState). t.torn) after_is ∙ trimmed_torn R _, ap (λ (t : RingState). t.dirty) after_is))
  where
    R : Shape
    R = shape_of w.before

    erases : List ℕ
    erases = erased_by_seal r s w

    after : RingState
    after = w.seals.performed.now.state

    after_is : after ≡ erased (sealed R s w.body)
    after_is = whole_seal R s w.body w.rose w.device w.seals.performed.now w.seals.performed.did (ended_whole w.seals.performed.now.end w.new w.seals.performed.answer)

    ring : IsRing R s
    ring = w.ready.on.ring

    next : next_of w.before + 1 ≡ s.next + 1
    next = ap (λ (n : ℕ). n + 1) w.ready.stands.next

    kept : next_of w.before + 1 - oldest_of w.before ≡ length (s.kept ++ Some w.body ∷ [])
    kept = omega (arith, w.ready.stands.next, w.ready.stands.oldest, length-append s.kept (Some w.body ∷ []), ring.not_negative)

    due : is_due_at R (s.next + 1) (length (s.kept ++ Some w.body ∷ [])) ≡ is_due_at R (next_of w.before + 1) (next_of w.before + 1 - oldest_of w.before)
    due = sym (ap (λ (n : ℕ). is_due_at R n (next_of w.before + 1 - oldest_of w.before)) next ∙ ap (λ (k : ℕ). is_due_at R (s.next + 1) k) kept)

    here : Turned R q block (times_among R block erases) (length erases) after
    here = subst (λ (t : RingState). Turned R q block (times_among R block erases) (length erases) t) (sym after_is)
        (calls_turned R s w.body (subst IsShape (sym w.shape) shape) ring q block (subst (λ (x : Shape). oldest s / x.per_block % x.blocks ≡ q % x.blocks) (sym w.shape) turned) (next_of w.before) _ w.old w.new due w.ready.stands.next w.calls)

-- the repair of a ring that needs none
quiet_repair : (r : Shape) (s : RingState) → IsQuiet s → repaired r s ≡ s
quiet_repair r s quiet = ap (λ (b : Bool). erased (if b then voided r s else s)) quiet.0 ∙ erased_clean s quiet.1

module _ (r : Shape) (s : RingState) (w : MountsWell r s) (shape : IsShape r) (quiet : IsQuiet s) where
  quiet_0 : IsQuiet (renumbered r w.at_least s)
  quiet_0 = (renumbered_same r s w.at_least ∙ quiet.0, renumbered_dirty r s w.at_least ∙ quiet.1)

  on_0 : OnRing r (page_at w.old) (renumbered r w.at_least s)
  on_0 = renumbered_on r (page_at w.old) s w.at_least shape w.good.on

  numbers : (w.found.numbers.next ≡ (renumbered r w.at_least s).next) × (w.found.numbers.torn ≡ false)
  numbers = let found = good_found w.old r s w.at_least shape w.good.on w.found.numbers w.good.numbered (w.found.is_found w.good.told) in (found.0, found.2 ∙ quiet.0)

  same_flash : w.found.repairs.voided ≡ w.found.found
  same_flash = subst (λ (b : Bool). VoidsNext r w.found.numbers.next b w.found.found w.found.repairs.voided) numbers.1 w.found.repairs.voids

  told : IsTrue w.found.repairs.voided.media.tells
  told = subst (λ (f : FlashState). IsTrue f.media.tells) (sym same_flash) (subst (λ (b : Bool). IsTrue b) (sym w.found.looks.goes.tells) w.good.told)

  pages : page_at w.found.repairs.voided ≡ page_at w.old
  pages = ap page_at same_flash ∙ same_pages w.old w.found.found _ w.found.looks

  next_is : w.found.numbers.next + one w.found.numbers.torn ≡ (renumbered r w.at_least s).next
  next_is = omega (arith, numbers.0, ap one numbers.1)

  never : ErasesAhead r (w.found.numbers.next + one w.found.numbers.torn) w.found.repairs.voided (Ok tt) w.new → ⊥
  never erases = erases.some told (λ k lt.
      let last : (renumbered r w.at_least s).next % r.per_block ≡ r.per_block - 1 = ap (λ (n : ℕ). n % r.per_block) (sym next_is) ∙ erases.last in
      let few = on_0.ring.most_ahead last in
      let all = sizes r shape in
      let at : ahead_first r (w.found.numbers.next + one w.found.numbers.torn) + k ≡ place r ((renumbered r w.at_least s).next + (1 + k)) =
      ap (λ (n : ℕ). ahead_first r n + k) next_is ∙ sym (ahead_place r (renumbered r w.at_least s).next k shape (omega (arith, last, shape.per_block)) lt)
      ∙ (let e : (renumbered r w.at_least s).next + 1 + k ≡ (renumbered r w.at_least s).next + (1 + k) = omega arith in ap (λ (n : ℕ). place r n) e) in
      ap (λ (page : ℕ → List ℕ). page (ahead_first r (w.found.numbers.next + one w.found.numbers.torn) + k)) pages ∙ ap (page_at w.old) at ∙ on_0.ahead quiet_0.1 (1 + k) (omega arith) (omega (arith, few, all, lt, two_blocks r shape, shape.per_block)))

  nothing : (cleans : CleansAhead r (w.found.numbers.next + one w.found.numbers.torn) w.found.repairs.voided (Ok tt) w.new) → erased_ahead r (w.found.numbers.next + one w.found.numbers.torn) w.found.repairs.voided w.new cleans ≡ []
  nothing (inl leaves) = refl
  nothing (inr erases) = absurd (never erases)

  pub mount_quiet : erased_by_mount r s w ≡ []
  mount_quiet = nothing w.found.repairs.cleans

  mounted_is : w.ends.performed.now.state ≡ renumbered r w.at_least s
  mounted_is = whole_repair r (renumbered r w.at_least s) [] w.rose w.device w.ends.performed.now w.ends.performed.did (ended_whole w.ends.performed.now.end w.new w.ends.performed.answer) ∙ quiet_repair r (renumbered r w.at_least s) quiet_0

  mount_well : (q block : ℕ) → oldest s / r.per_block % r.blocks ≡ q % r.blocks
      → Turned r q block (times_among r block (erased_by_mount r s w)) (length (erased_by_mount r s w)) w.ends.performed.now.state × IsQuiet w.ends.performed.now.state
  mount_well q block turned = (
    subst (λ (l : List ℕ). Turned r q block (times_among r block l) (length l) w.ends.performed.now.state) (sym mount_quiet)
        (none_more r q block s w.ends.performed.now.state turned
        (ap (λ (t : RingState). oldest t / r.per_block % r.blocks) mounted_is
        ∙ turn_alike r.blocks r.per_block (oldest (renumbered r w.at_least s)) (oldest s) (omega (arith, shape.blocks)) (omega (arith, shape.per_block)) on_0.ring.whole_blocks w.good.on.ring.whole_blocks
        (renumbered_oldest r s w.at_least shape w.good.on.ring))),
    (ap (λ (t : RingState). t.torn) mounted_is ∙ quiet_0.0, ap (λ (t : RingState). t.dirty) mounted_is ∙ quiet_0.1),
  )

-- how many erases all the calls make
abbrev total : (r : Shape) (calls : List Call) (s : RingState) → GoWell r calls s → ℕ
total r [] s went = 0
total r (Seal ∷ calls) s went = length (erased_by_seal r s went.0) + total r calls went.0.seals.performed.now.state went.1
total r (Mount ∷ calls) s went = length (erased_by_mount r s went.0) + total r calls went.0.ends.performed.now.state went.1

all_turned : (r : Shape) (calls : List Call) (s : RingState) (went : GoWell r calls s) (q block : ℕ) → IsShape r → IsQuiet s → oldest s / r.per_block % r.blocks ≡ q % r.blocks
    → erases_in r block calls s went + turns r.blocks q block ≡ turns r.blocks (q + total r calls s went) block
all_turned r [] s went q block shape quiet turned = let e : q ≡ q + 0 = omega arith in omega (arith, ap (λ (k : ℕ). turns r.blocks k block) e)
all_turned r (Seal ∷ calls) s went q block shape quiet turned =
    let here = seal_well r s went.0 q block shape turned in
    let more = length (erased_by_seal r s went.0) in
    let rest = all_turned r calls went.0.seals.performed.now.state went.1 (q + more) block shape here.1 here.0.1 in
    let e : q + more + total r calls went.0.seals.performed.now.state went.1 ≡ q + (more + total r calls went.0.seals.performed.now.state went.1) = omega arith in
    omega (arith, here.0.0, rest, ap (λ (k : ℕ). turns r.blocks k block) e)
all_turned r (Mount ∷ calls) s went q block shape quiet turned =
    let here = mount_well r s went.0 shape quiet q block turned in
    let more = length (erased_by_mount r s went.0) in
    let rest = all_turned r calls went.0.ends.performed.now.state went.1 (q + more) block shape here.1 here.0.1 in
    let e : q + more + total r calls went.0.ends.performed.now.state went.1 ≡ q + (more + total r calls went.0.ends.performed.now.state went.1) = omega arith in
    omega (arith, here.0.0, rest, ap (λ (k : ℕ). turns r.blocks k block) e)

pub calls_alike : CallsWearAlike
calls_alike r calls went a b shape in_a in_b =
    let some : 0 < r.blocks = omega (arith, shape.blocks) in
    let first : oldest fresh / r.per_block % r.blocks ≡ 0 % r.blocks = let e : oldest fresh ≡ 0 = omega arith in ap (λ (n : ℕ). n / r.per_block % r.blocks) e ∙ ap (λ (n : ℕ). n % r.blocks) (zero-div r.per_block) in
    let x = all_turned r calls fresh went 0 a shape (refl, refl) first in
    let y = all_turned r calls fresh went 0 b shape (refl, refl) first in
    let alike = worn_alike r.blocks (0 + total r calls fresh went) a b some in_a in_b in
    omega (arith, x, y, alike)

pub mounts_quiet : QuietMountsEraseNothing
mounts_quiet r s mount shape whole clean = mount_quiet r s mount shape (whole, clean)
