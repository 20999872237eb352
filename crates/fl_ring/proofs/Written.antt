-- What seals change of a flash, call by call.
use Rattle.std.proofs.Common.{◌≡◌, ℕ, zero, suc, ◌+◌, ◌-◌, ◌*◌, ◌<◌, ◌≤◌, Bool, true, false, IsTrue, Option, Some, Result, Ok, Err, List, replicate, inl, inr, refl, sym, ◌∙◌, ap, subst, arith}
use Rattle.std.specs.Prelude.{IsErr}
use Rattle.std.proofs.lemmas.Bool.{cases_lt, false≢true}
use Rattle.fl_base.specs.declared.types.Geometry.{Geometry}
use Rattle.fl_flash.specs.Flash.{FlashState, page_at, OffChangesNothing, ProgramsPage, ErasesBlock}
use Rattle.fl_flash.specs.Media.{next_count}
use Rattle.fl_flash.specs.Tear.{armed_after}
use Rattle.fl_flash.specs.declared.flash.FlashFault.{FlashFault}
use Rattle.fl_flash.specs.declared.flash.FlashFault.TheVariants.{PowerLost}
use Rattle.fl_flash.specs.declared.flash.Work.{Work}
use Rattle.fl_ring.specs.Repairing.{ahead_first}
use Rattle.fl_ring.specs.Place.{shape_of, next_of, oldest_of, LiesOn}
use Rattle.fl_ring.specs.Ring.{Shape, place, is_due_at}
use Rattle.fl_ring.specs.declared.ring.Ring.{Ring}
use Rattle.fl_ring.specs.Sealing.{ErasesWhere, SealsLast, MarkFails, BodyFails, SealCalls}
use Rattle.fl_ring.specs.Written.{times, Tries, Writes, done, sealed_over, IsSealedBy, MaySeal, MaySealIn}

times-add : {A : Type 0} (step : A → A) (m n : ℕ) (x : A) → times step (m + n) x ≡ times step n (times step m x)
times-add step zero n x = ap (λ k. times step k x) (let e : 0 + n ≡ n = omega arith in e)
times-add step (suc m) n x = ap (λ k. times step k x) (let e : suc m + n ≡ suc (m + n) = omega arith in e) ∙ times-add step m n (step x)

no-more : (x : ℕ) → x ≤ x + 0
no-more x = omega arith

one-more : (x n m : ℕ) → m ≤ next_count x + n → m ≤ x + suc n
one-more x n m le = omega (arith, le)

-- a count rises by one at most each time
times-few : (n x : ℕ) → times next_count n x ≤ x + n
times-few zero x = no-more x
times-few (suc n) x = one-more x n (times next_count n (next_count x)) (times-few n (next_count x))

pub tries-none : (May : ℕ → Type 0) (f : FlashState) → Tries May 0 0 f f
tries-none May f = record { work = refl; armed = refl; stands = λ told page may. refl }

pub tries-wider : (May Might : ℕ → Type 0) (programs erases : ℕ) (f g : FlashState) → ((page : ℕ) → May page → Might page) → Tries May programs erases f g → Tries Might programs erases f g
tries-wider May Might programs erases f g wider h = record { work = h.work; armed = h.armed; stands = λ told page not. h.stands told page (λ may. not (wider page may)) }

pub tries-then : (May : ℕ → Type 0) (p e q d : ℕ) (a b c : FlashState) → b.media.tells ≡ a.media.tells → Tries May p e a b → Tries May q d b c → Tries May (p + q) (e + d) a c
tries-then May p e q d a b c tells first second = record {
  work =
      second.work
      ∙ (ap (λ (w : Work). record w { programs = times next_count q w.programs; erases = times next_count d w.erases }) first.work
      ∙ (ap (λ n. record a.work { programs = n; erases = times next_count d (times next_count e a.work.erases) }) (sym (times-add next_count p q a.work.programs))
      ∙ ap (λ n. record a.work { programs = times next_count (p + q) a.work.programs; erases = n }) (sym (times-add next_count e d a.work.erases))));
  armed =
      second.armed
      ∙ (ap (times armed_after (q + d)) first.armed
      ∙ (sym (times-add armed_after (p + e) (q + d) a.armed)
      ∙ ap (λ n. times armed_after n a.armed) (let s : p + e + (q + d) ≡ p + q + (e + d) = omega arith in s)));
  stands = λ told page not. second.stands (subst IsTrue (sym tells) told) page not ∙ first.stands told page not;
}

-- ---- one call

pub program-tries : (f : FlashState) (p at : ℕ) (from : List ℕ) (result : Result (Unit {0}) FlashFault) (g : FlashState) → f.is_on ≡ true → ProgramsPage f p at from result g → Tries (λ page. page ≡ p) 1 0 f g
program-tries f p at from result g on h = record { work = h.counted on; armed = (h.cut on).armed; stands = by_result result h }
  where
    by_result : (result : Result (Unit {0}) FlashFault) → ProgramsPage f p at from result g → IsTrue f.media.tells → (page : ℕ) → (page ≡ p → ⊥) → page_at g page ≡ page_at f page
    by_result (Ok u) h told page not = (h.ok told).others page not
    by_result (Err e) h told page not = (h.err told).others page not

pub erase-tries : (f : FlashState) (block first : ℕ) (result : Result (Unit {0}) FlashFault) (g : FlashState) → f.is_on ≡ true → block * f.geometry.block ≡ first → ErasesBlock f block result g →
    Tries (λ page. (first ≤ page) × (page < first + f.geometry.block)) 0 1 f g
erase-tries f block first result g on at h = record { work = h.counted on; armed = (h.cut on).armed; stands = by_result result h }
  where
    by_result : (result : Result (Unit {0}) FlashFault) → ErasesBlock f block result g → IsTrue f.media.tells → (page : ℕ) → ((first ≤ page) × (page < first + f.geometry.block) → ⊥) → page_at g page ≡ page_at f page
    by_result (Ok u) h told page not =
        elim (cases_lt page first) [
          | inl below ↦ (h.ok told).below page (omega (arith, below, at))
          | inr from ↦ elim (cases_lt page (first + f.geometry.block)) [
            | inl before ↦ absurd (not (omega (arith, from), before))
            | inr above ↦ (h.ok told).above page (omega (arith, above, at))
          ]
        ]
    by_result (Err e) h told page not =
        elim (cases_lt page first) [
          | inl below ↦ (h.err told).below page (omega (arith, below, at))
          | inr from ↦ elim (cases_lt page (first + f.geometry.block)) [
            | inl before ↦ absurd (not (omega (arith, from), before))
            | inr above ↦ (h.err told).above page (omega (arith, above, at))
          ]
        ]

-- ---- the calls of a seal

module _ (r : Shape) (next : ℕ) (due : Bool) (body : List ℕ) (old : FlashState) (block_is : old.geometry.block ≡ r.per_block) where
  on-page : (page : ℕ) → page ≡ place r next → IsSealedBy r next due page
  on-page page e = inl e

  ok-on : (f g : FlashState) → OffChangesNothing {T = Unit {0}} f (Ok tt) g → f.is_on ≡ true
  ok-on f g off = by_power f.is_on refl
    where
      never : ◌≡◌ {A = Result (Unit {0}) FlashFault} (Ok tt) (Err PowerLost) → ⊥
      never k = cc

      by_power : (b : Bool) → f.is_on ≡ b → b ≡ true
      by_power true e = refl
      by_power false e = absurd (never (off e).0)

  few : (result : Result (Unit {0}) FlashFault) → done result ≤ 1
  few (Ok u) = omega arith
  few (Err e) = omega arith

  none-done : (result : Result (Unit {0}) FlashFault) → IsErr result → done result ≡ 0
  none-done (Ok u) fails = absurd (false≢true fails)
  none-done (Err e) fails = refl

  -- a body and a mark, of which the first one was done
  both-tried : (begun marked : FlashState) (result : Result (Unit {0}) FlashFault) → ProgramsPage old (place r next) 0 body (Ok tt) begun → ProgramsPage begun (place r next) (r.size - 8) (replicate 4 0) result marked →
      Tries (IsSealedBy r next due) 2 0 old marked
  both-tried begun marked result first then = tries-then (IsSealedBy r next due) 1 0 1 0 old begun marked first.goes.tells
      (tries-wider (λ page. page ≡ place r next) (IsSealedBy r next due) 1 0 old begun on-page (program-tries old (place r next) 0 body (Ok tt) begun (ok-on old begun first.off) first))
      (tries-wider (λ page. page ≡ place r next) (IsSealedBy r next due) 1 0 begun marked on-page (program-tries begun (place r next) (r.size - 8) (replicate 4 0) result marked first.cause.on then))

  seal-last : (result : Result (Unit {0}) FlashFault) (new : FlashState) → SealsLast r next due body old result new → Writes (IsSealedBy r next due) (done result) 1 old new
  seal-last result new h = by_due due refl h.erase_last
    where
      both : Tries (IsSealedBy r next due) 2 0 old h.marked
      both = both-tried h.begun h.marked (Ok tt) h.body_first h.mark_then

      per_block : h.marked.geometry.block ≡ r.per_block
      per_block = ap (λ (g : Geometry). g.block) (h.mark_then.goes.geometry ∙ h.body_first.goes.geometry) ∙ block_is

      by_due : (b : Bool) → due ≡ b → ErasesWhere r next b h.marked result new → Writes (IsSealedBy r next due) (done result) 1 old new
      by_due true is e = record {
        programs = 2;
        erases = 1;
        least_programs = omega (arith, few result);
        most_programs = omega arith;
        most_erases = omega arith;
        tries = tries-then (IsSealedBy r next due) 2 0 0 1 old h.marked new (h.mark_then.goes.tells ∙ h.body_first.goes.tells) both
            (tries-wider (λ page. (ahead_first r (next + 1) ≤ page) × (page < ahead_first r (next + 1) + h.marked.geometry.block)) (IsSealedBy r next due) 0 1 h.marked new
            (λ page k. inr (is, k.0, subst (λ n. page < ahead_first r (next + 1) + n) per_block k.1))
            (erase-tries h.marked e.block (ahead_first r (next + 1)) result new h.mark_then.cause.on (ap (λ n. e.block * n) per_block ∙ e.at) e.erases));
      }
      by_due false is e = record {
        programs = 2;
        erases = 0;
        least_programs = omega (arith, few result);
        most_programs = omega arith;
        most_erases = omega arith;
        tries = subst (λ (f : FlashState). Tries (IsSealedBy r next due) 2 0 old f) (sym e.1) both;
      }

  seal-mark_fails : (result : Result (Unit {0}) FlashFault) (new : FlashState) → MarkFails r next body old result new → Writes (IsSealedBy r next due) (done result) 1 old new
  seal-mark_fails result new h = record {
    programs = 2;
    erases = 0;
    least_programs = omega (arith, few result);
    most_programs = omega arith;
    most_erases = omega arith;
    tries = both-tried h.begun new result h.body_first h.mark_then;
  }

  seal-body_fails : (result : Result (Unit {0}) FlashFault) (new : FlashState) → BodyFails r next body old result new → Writes (IsSealedBy r next due) (done result) 1 old new
  seal-body_fails result new h = by_power old.is_on refl
    where
      by_power : (b : Bool) → old.is_on ≡ b → Writes (IsSealedBy r next due) (done result) 1 old new
      by_power true on = record {
        programs = 1;
        erases = 0;
        least_programs = omega (arith, none-done result h.fails);
        most_programs = omega arith;
        most_erases = omega arith;
        tries = tries-wider (λ page. page ≡ place r next) (IsSealedBy r next due) 1 0 old new on-page (program-tries old (place r next) 0 body result new on h.body_first);
      }
      by_power false off = record {
        programs = 0;
        erases = 0;
        least_programs = omega (arith, none-done result h.fails);
        most_programs = omega arith;
        most_erases = omega arith;
        tries = subst (λ (f : FlashState). Tries (IsSealedBy r next due) 0 0 old f) (sym (h.body_first.off off).1) (tries-none (IsSealedBy r next due) old);
      }

  pub seal-writes : (result : Result (Unit {0}) FlashFault) (new : FlashState) → SealCalls r next due body old result new → Writes (IsSealedBy r next due) (done result) 1 old new
  seal-writes result new (inl h) = seal-last result new h
  seal-writes result new (inr (inl h)) = seal-mark_fails result new h
  seal-writes result new (inr (inr h)) = seal-body_fails result new h

-- ---- seals one after another

pub writes-none : (May : ℕ → Type 0) (most : ℕ) (f : FlashState) → Writes May 0 most f f
writes-none May most f = record { programs = 0; erases = 0; least_programs = omega arith; most_programs = omega arith; most_erases = omega arith; tries = tries-none May f }

pub writes-wider : (May Might : ℕ → Type 0) (least few most many : ℕ) (f g : FlashState) → ((page : ℕ) → May page → Might page) → few ≤ least → most ≤ many → Writes May least most f g → Writes Might few many f g
writes-wider May Might least few most many f g wider le ge h = record {
  programs = h.programs;
  erases = h.erases;
  least_programs = omega (arith, le, h.least_programs);
  most_programs = omega (arith, ge, h.most_programs);
  most_erases = omega (arith, ge, h.most_erases);
  tries = tries-wider May Might h.programs h.erases f g wider h.tries;
}

pub writes-fewer : (May : ℕ → Type 0) (least most : ℕ) (f g : FlashState) → Writes May least most f g → Writes May 0 most f g
writes-fewer May least most f g h = writes-wider May May least 0 most most f g (λ page may. may) (omega arith) (omega arith) h

pub writes-then : (May : ℕ → Type 0) (l m n k : ℕ) (a b c : FlashState) → b.media.tells ≡ a.media.tells → Writes May l m a b → Writes May n k b c → Writes May (l + n) (m + k) a c
writes-then May l m n k a b c tells first second = record {
  programs = first.programs + second.programs;
  erases = first.erases + second.erases;
  least_programs = omega (arith, first.least_programs, second.least_programs);
  most_programs = omega (arith, first.most_programs, second.most_programs);
  most_erases = omega (arith, first.most_erases, second.most_erases);
  tries = tries-then May first.programs first.erases second.programs second.erases a b c tells first.tries second.tries;
}

-- ---- a ring

pub ring-writes : (ring : Ring) (body : List ℕ) (old : FlashState) → LiesOn ring old → (result : Result (Unit {0}) FlashFault) (new : FlashState) →
    SealCalls (shape_of ring) (next_of ring) (is_due_at (shape_of ring) (next_of ring + 1) (next_of ring + 1 - oldest_of ring)) body old result new → Writes (MaySeal ring) (done result) 1 old new
ring-writes ring body old lies result new calls = seal-writes (shape_of ring) (next_of ring) (is_due_at (shape_of ring) (next_of ring + 1) (next_of ring + 1 - oldest_of ring)) body old lies.block result new calls

-- .. that may not be mounted
pub held-writes : (held : Option Ring) (ring : Ring) (least many : ℕ) (old new : FlashState) → held ≡ Some ring → many ≤ least → Writes (MaySeal ring) least 1 old new → Writes (MaySealIn held) many 1 old new
held-writes held ring least many old new has few h =
    writes-wider (MaySeal ring) (MaySealIn held) least many 1 1 old new (λ page may. subst (λ (o : Option Ring). MaySealIn o page) (sym has) may) few (omega arith) h

-- so often seals program and erase at most
pub few-writes : (May : ℕ → Type 0) (least most : ℕ) (f g : FlashState) → Writes May least most f g → (g.work.programs ≤ f.work.programs + 2 * most) × (g.work.erases ≤ f.work.erases + most)
few-writes May least most f g h =
    let programs : g.work.programs ≡ times next_count h.programs f.work.programs = ap (λ (w : Work). w.programs) h.tries.work in
    let erases : g.work.erases ≡ times next_count h.erases f.work.erases = ap (λ (w : Work). w.erases) h.tries.work in
    (omega (arith, programs, times-few h.programs f.work.programs, h.most_programs), omega (arith, erases, times-few h.erases f.work.erases, h.most_erases))

-- the same page of the same ring, with the same body
pub page-as : (r s : Shape) (number next : ℕ) (body rows : List ℕ) (old new : ℕ → List ℕ) → r ≡ s → number ≡ next → body ≡ rows → new (place r number) ≡ sealed_over r body (old (place r number)) →
    new (place s next) ≡ sealed_over s rows (old (place s next))
page-as r s number next body rows old new shape at is h =
    subst (λ (x : Shape). new (place x next) ≡ sealed_over x rows (old (place x next))) shape
    (subst (λ (n : ℕ). new (place r n) ≡ sealed_over r rows (old (place r n))) at
    (subst (λ (b : List ℕ). new (place r number) ≡ sealed_over r b (old (place r number))) is h))
