-- What the repairs of a ring leave of the pages of a flash.
use Rattle.std.proofs.Common.{◌≡◌, ℕ, ◌+◌, ◌-◌, ◌*◌, ◌/◌, ◌%◌, ◌<◌, ◌≤◌, ◌⊎◌, inl, inr, Bool, true, false, IsTrue, List, replicate, Ok, refl, sym, ◌∙◌, ap, subst, arith}
use Rattle.std.proofs.Math.Nat.{mod-lt, mul-le-mul_right, add-mul}
use Rattle.std.proofs.lemmas.Bool.{cases_lt}
use Rattle.std.proofs.lemmas.Bool.Decides.{eqb_tells}
use Rattle.std.proofs.Math.Dec.{eqb}
use Rattle.fl_base.specs.declared.types.Geometry.{Geometry}
use Rattle.fl_flash.specs.Flash.{FlashState, Goes, page_at, Programmed, Erased, programmed, blank}
use Rattle.fl_frame.proofs.CallsInTurn.{goes-then, goes-same}
use Rattle.fl_mark.specs.Mark.{state_of_page}
use Rattle.fl_mark.specs.declared.page_state.PageState.TheVariants.{Torn}
use Rattle.fl_ring.specs.Head.{one}
use Rattle.fl_ring.specs.Looking.{state_at}
use Rattle.fl_ring.specs.Mounting.{HasNumbers}
use Rattle.fl_ring.specs.Repairing.{ahead_first, VoidsNext, CleansAhead}
use Rattle.fl_ring.specs.Ring.{Shape, place, room}
use Rattle.fl_ring.specs.declared.ring.Ring.{Ring}
use Rattle.fl_ring.proofs.Founds.{same_pages}
use Rattle.fl_ring.proofs.TornPages.{torn_there}
use Rattle.fl_rlc.specs.Left.{IsRepaired}

-- each page is repaired, and the pages before `begin` and from `end` on stand
pub record Repairs (size begin end : ℕ) (old new : ℕ → List ℕ) : Type 0 where
  pub each : (q : ℕ) → IsRepaired size (old q) (new q)
  pub before : (q : ℕ) → q < begin → new q ≡ old q
  pub behind : (q : ℕ) → end ≤ q → new q ≡ old q

pub repairs-none : (size begin end : ℕ) (page : ℕ → List ℕ) → Repairs size begin end page page
repairs-none size begin end page = record { each = λ q. inl refl; before = λ q lt. refl; behind = λ q le. refl }

-- the pages behind, after those before
pub repairs-then : (size begin mid end : ℕ) (a b c : ℕ → List ℕ) → begin ≤ mid → mid ≤ end → Repairs size begin mid a b → Repairs size mid end b c → Repairs size begin end a c
repairs-then size begin mid end a b c low high x y = record {
  each = λ q. by-place q (cases_lt q mid);
  before = λ q lt. y.before q (omega (arith, lt, low)) ∙ x.before q lt;
  behind = λ q le. y.behind q le ∙ x.behind q (omega (arith, le, high));
}
  where
    by-place : (q : ℕ) → (q < mid) ⊎ (mid ≤ q) → IsRepaired size (a q) (c q)
    by-place q (inl lt) = subst (λ (page : List ℕ). IsRepaired size (a q) page) (sym (y.before q lt)) (x.each q)
    by-place q (inr le) = subst (λ (page : List ℕ). IsRepaired size page (c q)) (x.behind q le) (y.each q)

-- .. and before them
pub repairs-first : (size begin mid end : ℕ) (a b c : ℕ → List ℕ) → begin ≤ mid → mid ≤ end → Repairs size mid end a b → Repairs size begin mid b c → Repairs size begin end a c
repairs-first size begin mid end a b c low high x y = record {
  each = λ q. by-place q (cases_lt q mid);
  before = λ q lt. y.before q lt ∙ x.before q (omega (arith, lt, low));
  behind = λ q le. y.behind q (omega (arith, le, high)) ∙ x.behind q le;
}
  where
    by-place : (q : ℕ) → (q < mid) ⊎ (mid ≤ q) → IsRepaired size (a q) (c q)
    by-place q (inl lt) = subst (λ (page : List ℕ). IsRepaired size page (c q)) (x.before q lt) (y.each q)
    by-place q (inr le) = subst (λ (page : List ℕ). IsRepaired size (a q) page) (sym (y.behind q le)) (x.each q)

-- a torn page is given up
voids-page : (size begin end p : ℕ) (old new : ℕ → List ℕ) → begin ≤ p → p < end → state_of_page (old p) ≡ Torn → Programmed old p (size - 4) (replicate 4 0) new → Repairs size begin end old new
voids-page size begin end p old new low high torn h = record {
  each = λ q. by-place q (eqb_tells q p);
  before = λ q lt. h.others q (λ is. absurd (omega (arith, is, lt, low)));
  behind = λ q le. h.others q (λ is. absurd (omega (arith, is, le, high)));
}
  where
    by-place : (q : ℕ) → ((eqb q p ≡ true) × (q ≡ p)) ⊎ ((eqb q p ≡ false) × (q ≡ p → ⊥)) → IsRepaired size (old q) (new q)
    by-place q (inl is) = inr (inl (subst (λ (k : ℕ). (state_of_page (old k) ≡ Torn) × (new k ≡ programmed (old k) (size - 4) (replicate 4 0))) (sym is.1) (torn, h.here)))
    by-place q (inr other) = inl (h.others q other.1)

-- a block is erased after repairs
erases-block : (size begin end first count : ℕ) (a b c : ℕ → List ℕ) → begin ≤ first → first + count ≤ end → Repairs size begin end a b → Erased b first count size c → Repairs size begin end a c
erases-block size begin end first count a b c low high x h = record {
  each = λ q. by-place q (cases_lt q first) (cases_lt q (first + count));
  before = λ q lt. h.below q (omega (arith, lt, low)) ∙ x.before q lt;
  behind = λ q le. h.above q (omega (arith, le, high)) ∙ x.behind q le;
}
  where
    by-place : (q : ℕ) → (q < first) ⊎ (first ≤ q) → (q < first + count) ⊎ (first + count ≤ q) → IsRepaired size (a q) (c q)
    by-place q (inl lt) others = subst (λ (page : List ℕ). IsRepaired size (a q) page) (sym (h.below q lt)) (x.each q)
    by-place q (inr le) (inr above) = subst (λ (page : List ℕ). IsRepaired size (a q) page) (sym (h.above q above)) (x.each q)
    by-place q (inr le) (inl lt) =
        let at : first + (q - first) ≡ q = omega (arith, le) in
        inr (inr (subst (λ (k : ℕ). c k ≡ blank size) at (h.here (q - first) (omega (arith, lt, le)))))

-- the pages of a ring are repaired, and all others stand
abbrev pub AreRepaired : Shape → FlashState → FlashState → Type 0
AreRepaired r old new = Goes old new × Repairs r.size r.first (r.first + room r) (page_at old) (page_at new)

-- the repairs of one ring
module _ (r : Shape) (some : 0 < r.blocks) (some-pages : 0 < r.per_block) where
  place-within : (n : ℕ) → place r n < r.first + room r
  place-within n =
      let all : 1 * r.per_block ≤ r.blocks * r.per_block = mul-le-mul_right r.per_block some in
      let small : n % (r.blocks * r.per_block) < r.blocks * r.per_block = mod-lt n (omega (arith, all, some-pages)) in
      omega (arith, small)

  ahead-within : (n : ℕ) → ahead_first r n + r.per_block ≤ r.first + room r
  ahead-within n =
      let at = (n / r.per_block + 1) % r.blocks in
      let small : at < r.blocks = mod-lt (n / r.per_block + 1) some in
      let all : (at + 1) * r.per_block ≤ r.blocks * r.per_block = mul-le-mul_right r.per_block (let le : at + 1 ≤ r.blocks = omega (arith, small) in le) in
      omega (arith, all, add-mul at 1 r.per_block)

  -- where a torn page is given up
  voids-next : (next : ℕ) (torn : Bool) (old new : FlashState) → IsTrue old.media.tells → (torn ≡ true → state_at old (place r next) ≡ Torn) → VoidsNext r next torn old new → AreRepaired r old new
  voids-next next true old new told is_torn h = (h.goes, voids-page r.size r.first (r.first + room r) (place r next) (page_at old) (page_at new) (omega arith) (place-within next) (is_torn refl) (h.ok told))
  voids-next next false old new told is_torn h = (
    subst (λ (f : FlashState). Goes old f) (sym h) (goes-same old),
    subst (λ (f : FlashState). Repairs r.size r.first (r.first + room r) (page_at old) (page_at f)) (sym h) (repairs-none r.size r.first (r.first + room r) (page_at old)),
  )

  -- where the block ahead is erased then
  cleans-ahead : (next : ℕ) (old mid new : FlashState) → IsTrue old.media.tells → old.geometry.block ≡ r.per_block → old.geometry.page ≡ r.size → AreRepaired r old mid → CleansAhead r next mid (Ok tt) new → AreRepaired r old new
  cleans-ahead next old mid new told block page h (inl leaves) = (
    goes-then old mid new h.0 leaves.looks.goes,
    subst (λ (at : ℕ → List ℕ). Repairs r.size r.first (r.first + room r) (page_at old) at) (sym (same_pages mid new r.per_block leaves.looks)) h.1,
  )
  cleans-ahead next old mid new told block page h (inr erase) =
      let seen = erase.seen in
      let goes = goes-then old mid seen h.0 erase.looks.goes in
      let erased = erase.erases.ok (subst IsTrue (sym goes.tells) told) in
      let block' : seen.geometry.block ≡ r.per_block = ap (λ (g : Geometry). g.block) goes.geometry ∙ block in
      let page' : seen.geometry.page ≡ r.size = ap (λ (g : Geometry). g.page) goes.geometry ∙ page in
      let there : Erased (page_at seen) (ahead_first r next) r.per_block r.size (page_at new) =
      subst (λ (k : ℕ). Erased (page_at seen) k r.per_block r.size (page_at new)) erase.at
      (subst (λ (k : ℕ). Erased (page_at seen) (erase.block * k) k r.size (page_at new)) block'
      (subst (λ (z : ℕ). Erased (page_at seen) (erase.block * seen.geometry.block) seen.geometry.block z (page_at new)) page' erased)) in (
        goes-then old seen new goes erase.erases.goes,
        erases-block r.size r.first (r.first + room r) (ahead_first r next) r.per_block (page_at old) (page_at seen) (page_at new) (omega arith) (ahead-within next)
            (subst (λ (at : ℕ → List ℕ). Repairs r.size r.first (r.first + room r) (page_at old) at) (sym (same_pages mid seen r.per_block erase.looks)) h.1) there,
      )

  pub ring-repairs : (least : ℕ) (ring : Ring) (old new : FlashState) → IsTrue old.media.tells → old.geometry.block ≡ r.per_block → old.geometry.page ≡ r.size → HasNumbers old r least ring new → AreRepaired r old new
  ring-repairs least ring old new told block page h =
      let found = h.found in
      let told' = subst IsTrue (sym h.looks.goes.tells) told in
      let is_torn = torn_there old r least some h.numbers (h.is_found told) in
      let voided = voids-next h.numbers.next h.numbers.torn found h.repairs.voided told' (λ e. ap (λ (pages : ℕ → List ℕ). state_of_page (pages (place r h.numbers.next))) (same_pages old found _ h.looks) ∙ is_torn e) h.repairs.voids in
      let all = cleans-ahead (h.numbers.next + one h.numbers.torn) found h.repairs.voided new told' (ap (λ (g : Geometry). g.block) h.looks.goes.geometry ∙ block) (ap (λ (g : Geometry). g.page) h.looks.goes.geometry ∙ page) voided h.repairs.cleans in (
        goes-then old found new h.looks.goes all.0,
        subst (λ (at : ℕ → List ℕ). Repairs r.size r.first (r.first + room r) at (page_at new)) (same_pages old found _ h.looks) all.1,
      )
