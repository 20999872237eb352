-- What the parts of a read of all kept pages come to, one after another.
use Rattle.std.proofs.Common.{◌≡◌, ℕ, ◌+◌, ◌-◌, ◌/◌, ◌≤◌, Option, Some, None, Result, Ok, Err, IsTrue, List, [], sym, ap, subst, arith}
use Rattle.std.specs.Prelude.{IfErr, IfOk}
use Rattle.fl_find.specs.Index.{IndexOf}
use Rattle.fl_find.specs.declared.index.KeyIndex.{KeyIndex}
use Rattle.fl_flash.specs.Flash.{FlashState}
use Rattle.fl_frame.specs.Reads.{OnlyReads}
use Rattle.fl_index.specs.declared.index.BitmapIndex.{BitmapIndex}
use Rattle.fl_model.specs.Record.{RowLayout, layout_len}
use Rattle.fl_ring.proofs.Founds.{same_pages}
use Rattle.fl_ring.specs.Place.{next_of, oldest_of, shape_of}
use Rattle.fl_ring.specs.Ring.{place}
use Rattle.fl_ring.specs.declared.ring.Ring.{Ring}
use Rattle.fl_parts.specs.Bitmaps.{AreSamePlan, first_to_wait}
use Rattle.fl_parts.specs.ByEntries.{Come, mount_fault, unlisted_of}
use Rattle.fl_parts.specs.Coming.{AreListedBefore, AreRowsOf, AreUnlisted, ComesTo, WaitBetween, WaitUnlisted, come_on, index_pages_of, most_in}
use Rattle.fl_parts.specs.Faults.{IfPage}
use Rattle.fl_parts.specs.KeptRead.{FindsKept, LeavesKept, RefusesKept}
use Rattle.fl_parts.specs.KeptSteps.{FailsReading, FindsPages, HasCome, HasComeBy, LeavesNoted}
use Rattle.fl_parts.specs.Knowing.{IsWithin, KnowsWith, is_waiting}
use Rattle.fl_parts.specs.Reading.{WaitFrom, pages_of}
use Rattle.fl_parts.specs.declared.known.Known.{Known}
use Rattle.fl_parts.specs.declared.mount_fault.MountFault.{MountFault}
use Rattle.fl_parts.proofs.IndexOfTable.{found-then, lies-goes, plan-then, still-lies, still-running}
use Rattle.fl_parts.proofs.KeptParts.{reads-then}
use Rattle.fl_parts.proofs.MountProgress.{comes-of, knows-nothing, nothing-within, unlisted-behind}
use Rattle.fl_parts.proofs.NotedEntries.{first-same}
use Rattle.fl_parts.proofs.SparedReads.{waiting-few}

-- how many rows a page holds is told by its size and a row's length
pub comes-at : (layout : RowLayout) (page len : ℕ) (bitmaps : Option BitmapIndex) (ring : Ring) (f : FlashState) → page ≡ f.geometry.page → len ≡ layout_len layout →
    ComesTo (come_on layout bitmaps ring f) layout ((page - 24) / len) bitmaps ring f
comes-at layout page len bitmaps ring f size is =
    subst (λ p. ComesTo (come_on layout bitmaps ring f) layout ((p - 24) / len) bitmaps ring f) (sym size)
    (subst (λ n. ComesTo (come_on layout bitmaps ring f) layout ((f.geometry.page - 24) / n) bitmaps ring f) (sym is) (comes-of layout (most_in f.geometry.page layout) bitmaps ring f))

-- nothing is known before any page came
pub begins : {KNOTS SLOTS : ℕ} (error : ℕ) (t : Come) (known : Known) (counts : List ℕ) (index : KeyIndex KNOTS SLOTS) →
    known ≡ record { rows = 0; voids = 0; last = None; blob_end = 0; newest = None; fault = None } → IndexOf error [] index → KnowsWith error t 0 0 known counts index
begins error t known counts index nothing empty = subst (λ (k : Known). KnowsWith error t 0 0 k counts index) (sym nothing) (knows-nothing error t counts index empty)

pub none-yet : (ring : Ring) (known : Known) → known ≡ record { rows = 0; voids = 0; last = None; blob_end = 0; newest = None; fault = None } → HasCome ring (oldest_of ring) known
none-yet ring known nothing = record {
  low = omega arith;
  high = ring.ordered;
  within = subst (IsWithin (oldest_of ring) (oldest_of ring - oldest_of ring)) (sym nothing)
      (subst (λ n. IsWithin (oldest_of ring) n (record { rows = 0; voids = 0; last = None; blob_end = 0; newest = None; fault = None })) (let e : 0 ≡ oldest_of ring - oldest_of ring = omega arith in e) (nothing-within (oldest_of ring)));
}

-- the index was read, its entries begin anew, and then they were noted
pub kept-then : (a b d : Option BitmapIndex) (ring : Ring) (old first new : FlashState) (from : ℕ) (nothing known : Known) → nothing ≡ record { rows = 0; voids = 0; last = None; blob_end = 0; newest = None; fault = None } → LeavesKept a ring old b first →
    HasComeBy ring from (index_pages_of a + (from - oldest_of ring)) old nothing known first → LeavesNoted b first (next_of ring - from + is_waiting known.newest) d new → LeavesKept a ring old d new
kept-then a b d ring old first new from nothing known is left came noted =
    let none : is_waiting nothing.newest ≡ 0 = ap (λ (k : Known). is_waiting k.newest) is in
    record {
      same = plan-then a b d left.same noted.same;
      still = found-then a b d left.still noted.still;
      running = still-running b d noted.still left.running;
      lies = still-lies b d new noted.same noted.still (lies-goes b first new noted.reads.goes left.lies);
      reads = reads-then _ (omega (arith, came.spared.few, none, came.come.low, came.come.high)) came.spared.reads noted.reads;
    }

-- the pages were read that no index page lists
pub few-unlisted : (t : Come) (layout : RowLayout) (ring : Ring) (f : FlashState) (from reads first then : ℕ) → AreRowsOf t layout ring f → AreUnlisted t from → oldest_of ring ≤ from → from ≤ next_of ring →
    first ≤ reads + t.index_pages + unlisted_of t t.oldest (from - t.oldest) → then ≤ first + (next_of ring - from) → then ≤ reads + t.index_pages + unlisted_of t t.oldest t.pages
few-unlisted t layout ring f from reads first then rows unlisted low high before more =
    let behind = unlisted-behind t from (next_of ring) unlisted (omega (arith, rows.oldest, low)) high (omega (arith, rows.oldest, rows.pages, low, high)) in
    omega (arith, before, more, behind)

-- .. and then the one that waited
pub few-first : (reads all : ℕ) → reads ≤ all → reads ≤ all + 1
few-first reads all le = omega (arith, le)

pub few-rest : (t : Come) (layout : RowLayout) (ring : Ring) (f first new : FlashState) (from : ℕ) (known : Known) → AreRowsOf t layout ring f → AreUnlisted t from → HasCome ring from known → first.work.reads ≤ f.work.reads + t.index_pages + unlisted_of t t.oldest (from - t.oldest) →
    new.work.reads ≤ first.work.reads + (next_of ring - from + is_waiting known.newest) → new.work.reads ≤ f.work.reads + t.index_pages + unlisted_of t t.oldest t.pages + 1
few-rest t layout ring f first new from known rows unlisted come few more =
    let all = few-unlisted t layout ring f from f.work.reads first.work.reads (first.work.reads + (next_of ring - from)) rows unlisted come.low come.high few (omega arith) in
    omega (arith, all, more, waiting-few known.newest)

-- the entries of those that no index page lists wait
pub wait-unlisted : (t : Come) (layout : RowLayout) (ring : Ring) (f first : FlashState) (end from : ℕ) (a b d : Option BitmapIndex) (n : ℕ) → AreRowsOf t layout ring f → AreSamePlan a b → OnlyReads f n first → AreListedBefore t from → oldest_of ring ≤ from →
    WaitBetween (first_to_wait b end from (next_of ring)) (next_of ring) d → WaitFrom layout (pages_of ring first) (first_to_wait b end from (next_of ring)) (next_of ring) d → WaitUnlisted t (pages_of ring f) a end (next_of ring) d
wait-unlisted t layout ring f first end from a b d n rows same reads listed low many waits =
    let at = first-same a b end from (next_of ring) same in
    record {
      from = from;
      low = omega (arith, low, rows.oldest);
      listed = listed;
      many = subst (λ k. WaitBetween k (next_of ring) d) at many;
      waits =
          subst (λ (l : RowLayout). WaitFrom l (pages_of ring f) (first_to_wait a end from (next_of ring)) (next_of ring) d) (sym rows.layout_is)
          (subst (λ n. WaitFrom layout (pages_of ring f) n (next_of ring) d) at
          (subst (λ (page : ℕ → List ℕ). WaitFrom layout (λ number. page (place (shape_of ring) number)) (first_to_wait b end from (next_of ring)) (next_of ring) d) (same_pages f first n reads) waits));
    }

-- ---- what the read answers

pub ok-knows : {T E A : Type 0} (P Q : T → Type 0) (r : Result T E) → (A → IfOk r (λ x. P x × Q x)) → IfOk r (λ x. A → P x)
ok-knows P Q (Ok x) h = λ a. (h a).0
ok-knows P Q (Err e) h = tt

pub ok-finds : (t : Come) (P : Known → Type 0) (bitmaps : Option BitmapIndex) (ring : Ring) (old new : FlashState) (end : ℕ) (now : Option BitmapIndex) (r : Result Known MountFault) → IfOk r (λ known. FindsPages bitmaps ring old known now new) →
    (IsTrue old.media.tells → IfOk r (λ known. P known × WaitUnlisted t (pages_of ring old) bitmaps end (next_of ring) now)) → IfOk r (λ known. FindsKept t bitmaps ring old end known now new)
ok-finds t P bitmaps ring old new end now (Ok known) found knows = record { counted = found.counted; follow = found.follow; waits = λ told. (knows told).1; remembers = found.remembers; stands = found.stands }
ok-finds t P bitmaps ring old new end now (Err e) found knows = tt

pub err-refuses : {T : Type 0} (t : Come) (old new : FlashState) (r : Result T MountFault) → IfErr r (λ e. FailsReading old e new) → (IsTrue old.media.tells → IfErr r (IfPage (λ e. mount_fault t ≡ Some e))) → IfErr r (λ e. RefusesKept t old e new)
err-refuses t old new (Ok x) fails knows = tt
err-refuses t old new (Err e) fails knows = record { only = fails.only; fails = fails.fails; refused = knows }
