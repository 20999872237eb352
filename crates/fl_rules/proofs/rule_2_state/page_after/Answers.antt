use Rattle.std.proofs.Common.{◌≡◌, ℕ, ◌+◌, ◌-◌, ◌%◌, ◌^◌, ◌<◌, ◌≤◌, sym, ap, ◌∙◌, arith}
use Rattle.std.proofs.Math.Nat.{mod-eq_of_lt, mod-eq-sub-mod}
use Rattle.fl_ring.specs.Ring.{room}
use Rattle.fl_ring.specs.Place.{shape_of}
use Rattle.fl_rules.proofs.rule_2_state.page_after.Goals as goal

-- ---- a page before the ring's end

module _ (first all at j room got : ℕ) where
  low-place : room ≡ all → at < all → at ≤ room
  low-place room_is lt = omega (arith, room_is, lt)

  near-small : first + room < 2 ^ 32 → j < room - at → at + j < 2 ^ 32
  near-small fits near = omega (arith, fits, near)

  near-fits : got ≡ first → first + room < 2 ^ 32 → j < room - at → got + (at + j) < 2 ^ 32
  near-fits first_is fits near = omega (arith, first_is, fits, near)

  near-within : got ≡ first → room ≡ all → j < room - at → got + (at + j) < first + all
  near-within first_is room_is near = omega (arith, first_is, room_is, near)

  -- .. and one from its begin on

  far-within : got ≡ first → room ≡ all → at < all → j ≤ all → got + (j - (room - at)) < first + all
  far-within first_is room_is lt few = omega (arith, first_is, room_is, lt, few)

  far-fits : got ≡ first → room ≡ all → first + room < 2 ^ 32 → at < all → j ≤ all → got + (j - (room - at)) < 2 ^ 32
  far-fits first_is room_is fits lt few = omega (arith, first_is, room_is, fits, lt, few)

near-page : (first all at j room got : ℕ) → got ≡ first → room ≡ all → j < room - at → got + (at + j) ≡ first + (at + j) % all
near-page first all at j room got first_is room_is near =
    let within : at + j < all = omega (arith, room_is, near) in
    ap (λ (k : ℕ). k + (at + j)) first_is ∙ ap (λ (k : ℕ). first + k) (sym (mod-eq_of_lt within))

far-page : (first all at j room got : ℕ) → got ≡ first → room ≡ all → at < all → j ≤ all → room - at ≤ j → got + (j - (room - at)) ≡ first + (at + j) % all
far-page first all at j room got first_is room_is lt few far =
    let past : all ≤ at + j = omega (arith, room_is, lt, far) in
    let within : at + j - all < all = omega (arith, lt, few, past) in
    let here : j - (room - at) ≡ at + j - all = omega (arith, room_is, lt, far) in
    ap (λ (k : ℕ). k + (j - (room - at))) first_is ∙ ap (λ (k : ℕ). first + k) (here ∙ sym (mod-eq-sub-mod past ∙ mod-eq_of_lt within))

pub overflow_sub-left : goal.overflow_sub-left
overflow_sub-left c = low-place (shape_of c.args.ring.now).first (room (shape_of c.args.ring.now)) c.args.at c.args.j c.room.result c.room.result c.room.ensures.pages c.requires.place

pub overflow_add-result : goal.overflow_add-result
overflow_add-result c = record { fits = near-small (shape_of c.args.ring.now).first (room (shape_of c.args.ring.now)) c.args.at c.args.j c.room.result c.room.result c.room.ensures.fits c.if-j-left.true }

pub overflow_add-result-then-j-left : goal.overflow_add-result-then-j-left
overflow_add-result-then-j-left c = record { fits = near-fits (shape_of c.args.ring.now).first (room (shape_of c.args.ring.now)) c.args.at c.args.j c.room.result c.first_page.result c.first_page.ensures c.room.ensures.fits c.if-j-left.true }

pub returns-then-j-left-clause-page : goal.returns-then-j-left-clause-page
returns-then-j-left-clause-page c = near-page _ (room (shape_of c.args.ring.now)) c.args.at c.args.j c.room.result c.first_page.result c.first_page.ensures c.room.ensures.pages c.if-j-left.true

pub returns-then-j-left-clause-within : goal.returns-then-j-left-clause-within
returns-then-j-left-clause-within c = near-within (shape_of c.args.ring.now).first (room (shape_of c.args.ring.now)) c.args.at c.args.j c.room.result c.first_page.result c.first_page.ensures c.room.ensures.pages c.if-j-left.true

pub overflow_add-result-2 : goal.overflow_add-result-2
overflow_add-result-2 c = record { fits = far-fits (shape_of c.args.ring.now).first (room (shape_of c.args.ring.now)) c.args.at c.args.j c.room.result c.first_page-2.result c.first_page-2.ensures c.room.ensures.pages c.room.ensures.fits c.requires.place c.requires.few }

pub returns-clause-page : goal.returns-clause-page
returns-clause-page c = far-page _ (room (shape_of c.args.ring.now)) c.args.at c.args.j c.room.result c.first_page-2.result c.first_page-2.ensures c.room.ensures.pages c.requires.place c.requires.few c.if-j-left.false

pub returns-clause-within : goal.returns-clause-within
returns-clause-within c = far-within (shape_of c.args.ring.now).first (room (shape_of c.args.ring.now)) c.args.at c.args.j c.room.result c.first_page-2.result c.first_page-2.ensures c.room.ensures.pages c.requires.place c.requires.few
