-- What the parts of a read of all kept pages ask for and leave, one after another.
use Rattle.std.proofs.Common.{inr, [], drop, ◌≡◌, ℕ, suc, ◌+◌, ◌-◌, ◌<◌, ◌≤◌, cond, true, Option, Some, None, Result, Ok, Err, List, length, refl, sym, ◌∙◌, ap, subst, arith}
use Rattle.std.specs.Option.{is_none}
use Rattle.std.specs.Prelude.{◌^◌, IfErr}
use Rattle.fl_base.specs.declared.types.Geometry.{Geometry}
use Rattle.fl_find.specs.Pages.{first_key, rows_on, rows_where}
use Rattle.fl_find.specs.declared.index.KeyIndex.{KeyIndex}
use Rattle.fl_flash.specs.Buffer.{BufferState}
use Rattle.fl_flash.specs.Flash.{FlashState}
use Rattle.fl_frame.specs.Reads.{OnlyReads}
use Rattle.fl_frame.proofs.ReadsInTurn.{more_reads}
use Rattle.fl_mark.specs.Mark.{state_of_page}
use Rattle.fl_mark.specs.declared.page_state.PageState.{PageState}
use Rattle.fl_mark.specs.declared.page_state.PageState.TheVariants.{Blank, Torn, Committed, Void}
use Rattle.fl_model.specs.BlobEnds.{blobs_end}
use Rattle.fl_model.specs.Layout.{Full}
use Rattle.fl_model.specs.Record.{RowLayout, layout_len}
use Rattle.fl_model.specs.Row.{Row}
use Rattle.fl_page.specs.Header.{page_bitmap, page_count}
use Rattle.fl_page.specs.Page.{IsGoodPage, rows_from}
use Rattle.fl_ring.specs.Place.{next_of, oldest_of}
use Rattle.fl_ring.specs.declared.ring.Ring.{Ring}
use Rattle.fl_ring.proofs.ReadsInTurn.{fewer_reads}
use Rattle.fl_ring.proofs.Exists.{lies_still}
use Rattle.fl_parts.specs.Faults.{IfPage, is_refused}
use Rattle.fl_parts.specs.KeptSteps.{AreFew, CountsOne, FailsReading, HasCome, HasComeBy, HasRows, Keeps, MayRead}
use Rattle.fl_parts.specs.Knowing.{IsWithin, is_waiting}
use Rattle.fl_parts.specs.Reading.{IsRead, IsRefused, bitmap_on, bitmap_where, keys_fault, last_in}
use Rattle.fl_parts.specs.declared.known.Known.{Known}
use Rattle.fl_parts.specs.declared.load.PageRows.{PageRows}
use Rattle.fl_parts.specs.declared.mount_fault.MountFault.{MountFault}
use Rattle.fl_parts.proofs.KeyRows.{good-few, page-length}
use Rattle.fl_parts.proofs.ListedPages.{fails-later, some-room}
use Rattle.fl_parts.proofs.Refused.{page-no_flash, page-page, page-pages}
use Rattle.fl_parts.proofs.SparedReads.{spared-more, spared-none, spared-reads, spared-within, waiting-few}

-- ---- what stays

pub keeps-none : {KNOTS SLOTS : ℕ} (counts : List ℕ) (index : KeyIndex KNOTS SLOTS) (buf : BufferState) → buf.holds ≡ None → Keeps counts index buf counts index buf
keeps-none counts index buf none = record { size = refl; error = refl; room = refl; none = none }

pub keeps-then : {KNOTS SLOTS : ℕ} {counts counts' counts'' : List ℕ} {index index' index'' : KeyIndex KNOTS SLOTS} {buf buf' buf'' : BufferState} → Keeps counts index buf counts' index' buf' → Keeps counts' index' buf' counts'' index'' buf'' →
    Keeps counts index buf counts'' index'' buf''
keeps-then x y = record { size = y.size ∙ x.size; error = y.error ∙ x.error; room = y.room ∙ x.room; none = y.none }

pub may-still : {KNOTS SLOTS : ℕ} {layout : RowLayout} {ring : Ring} {f g : FlashState} {n : ℕ} {counts counts' : List ℕ} {index index' : KeyIndex KNOTS SLOTS} {buf buf' : BufferState} →
    MayRead layout ring f counts buf → OnlyReads f n g → Keeps counts index buf counts' index' buf' → MayRead layout ring g counts' buf'
may-still {ring = ring} {f = f} {g = g} may reads keeps = record {
  row = may.row;
  lies = lies_still ring f g may.lies reads.goes;
  places = keeps.size ∙ may.places;
  room = keeps.room ∙ (may.room ∙ sym (ap (λ (x : Geometry). x.page) reads.goes.geometry));
  none = keeps.none;
}

pub some-places : {layout : RowLayout} {ring : Ring} {f : FlashState} {counts : List ℕ} {buf : BufferState} → MayRead layout ring f counts buf → 1 ≤ length counts
some-places {ring = ring} may = omega (arith, may.places, some-room ring)

pub few-still : (n : ℕ) {KNOTS SLOTS : ℕ} {counts counts' : List ℕ} {index index' : KeyIndex KNOTS SLOTS} {buf buf' : BufferState} → n ≤ length counts → Keeps counts index buf counts' index' buf' → n ≤ length counts'
few-still n few keeps = omega (arith, few, keeps.size)

-- ---- why it failed

pub fails-then : {old mid new : FlashState} {n : ℕ} {fault : MountFault} → OnlyReads old n mid → FailsReading mid fault new → FailsReading old fault new
fails-then {old = old} {mid = mid} {new = new} {n = n} {fault = fault} reads h = record { only = h.only; fails = fails-later old mid new n fault reads h.fails }

pub fails-refused : (old new : FlashState) (fault : MountFault) → is_refused fault ≡ true → FailsReading old fault new
fails-refused old new fault h = record { only = page-pages fault h; fails = page-no_flash fault _ h }

pub err-refused : {T : Type 0} (old new : FlashState) (result : Result T MountFault) → IfErr result (λ e. is_refused e ≡ true) → IfErr result (λ e. FailsReading old e new)
err-refused old new (Ok x) h = tt
err-refused old new (Err fault) h = fails-refused old new fault h

pub err-page : {T : Type 0} (P : MountFault → Type 0) (result : Result T MountFault) → IfErr result P → IfErr result (IfPage P)
err-page P (Ok x) h = tt
err-page P (Err fault) h = page-page fault P h

-- ---- the data pages that came

pub at-place : (oldest number : ℕ) → oldest ≤ number → number ≡ oldest + (number - oldest)
at-place oldest number low = omega (arith, low)

pub few-come : {ring : Ring} {number : ℕ} {known : Known} → HasCome ring number known → number < next_of ring → next_of ring < 4294967296 → AreFew known
few-come come lt small = record { rows = omega (arith, come.within.rows, come.low, lt, small); voids = omega (arith, come.within.voids, come.low, lt, small) }

pub few-rest : (rows : ℕ) → rows + 131072 < 2 ^ 64 → rows + 65536 < 2 ^ 64
few-rest rows few = omega (arith, few)

pub few-at : {ring : Ring} {number : ℕ} {known : Known} → HasCome ring number known → next_of ring < 4294967296 → known.rows + 65536 < 2 ^ 64
few-at come small = omega (arith, come.within.rows, come.high, small)

pub come-one : (ring : Ring) (number : ℕ) (known now : Known) → HasCome ring number known → number < next_of ring → IsWithin (oldest_of ring) (suc (number - oldest_of ring)) now → HasCome ring (number + 1) now
come-one ring number known now come lt within = record {
  low = omega (arith, come.low);
  high = omega (arith, lt);
  within = subst (λ k. IsWithin (oldest_of ring) k now) (let e : suc (number - oldest_of ring) ≡ number + 1 - oldest_of ring = omega (arith, come.low) in e) within;
}

-- one that an index page lists, and one that none lists
pub one-listed : (ring : Ring) (number : ℕ) (f : FlashState) (known now : Known) → HasCome ring number known → number < next_of ring → IsWithin (oldest_of ring) (suc (number - oldest_of ring)) now → HasComeBy ring (number + 1) 1 f known now f
one-listed ring number f known now come lt within = record {
  come = come-one ring number known now come lt within;
  spared = spared-none f (1 + is_waiting known.newest) now (omega (arith, waiting-few now.newest));
}

pub one-read : (ring : Ring) (number : ℕ) (f g : FlashState) (known now : Known) → HasCome ring number known → number < next_of ring → CountsOne known now → OnlyReads f 1 g → HasComeBy ring (number + 1) 1 f known now g
one-read ring number f g known now come lt counted reads = record {
  come = come-one ring number known now come lt (counted.within (oldest_of ring) (number - oldest_of ring) come.within);
  spared = spared-reads f g 1 known now reads counted.waits;
}

pub few-read : (o : Option Full) (before reads : ℕ) → o ≡ None → reads ≤ before + 1 → reads ≤ before + cond (is_none o) 1 0
few-read o before reads none le = let one : ◌≡◌ {A = ℕ} (cond (is_none o) 1 0) 1 = ap (λ (x : Option Full). cond (is_none x) 1 0) none in omega (arith, one, le)

-- none yet, and some after others
pub come-none : (ring : Ring) (number n : ℕ) (f : FlashState) (known : Known) → HasCome ring number known → HasComeBy ring number n f known known f
come-none ring number n f known come = record { come = come; spared = spared-none f (n + is_waiting known.newest) known (omega arith) }

pub come-then : {ring : Ring} {number to n m : ℕ} {a b c : FlashState} {known mid now : Known} (all : ℕ) → n + m ≤ all → HasComeBy ring number n a known mid b → HasComeBy ring to m b mid now c → HasComeBy ring to all a known now c
come-then {n = n} {m = m} {a = a} {b = b} {c = c} {known = known} {mid = mid} {now = now} all le x y = record {
  come = y.come;
  spared = spared-within a c (n + is_waiting known.newest + m) (all + is_waiting known.newest) now (omega (arith, le)) (spared-more a b c (n + is_waiting known.newest) m mid now x.spared y.spared);
}

-- .. when what is known stays as much
pub come-keeps : {ring : Ring} {number n m : ℕ} {a b c : FlashState} {known mid now : Known} (all : ℕ) → n + m ≤ all → HasComeBy ring number n a known mid b → ((oldest n : ℕ) → IsWithin oldest n mid → IsWithin oldest n now) →
    is_waiting now.newest ≤ is_waiting mid.newest → OnlyReads b m c → HasComeBy ring number all a known now c
come-keeps {ring = ring} {number = number} {m = m} {b = b} {c = c} {mid = mid} {now = now} all le x within waits reads =
    come-then all le x (record { come = record { low = x.come.low; high = x.come.high; within = within (oldest_of ring) (number - oldest_of ring) x.come.within }; spared = spared-reads b c m mid now reads waits })

pub reads-then : {a b c : FlashState} {n m : ℕ} (all : ℕ) → n + m ≤ all → OnlyReads a n b → OnlyReads b m c → OnlyReads a all c
reads-then {a = a} {b = b} {c = c} {n = n} {m = m} all le x y = fewer_reads a c (n + m) all (more_reads a b c n m x y) le

pub more-waiting : {a b : FlashState} {n : ℕ} (w : ℕ) → OnlyReads a n b → OnlyReads a (n + w) b
more-waiting {a = a} {b = b} {n = n} w x = fewer_reads a b n (n + w) x (omega arith)

pub waits-on : (n later known : ℕ) → later ≤ known → n + later ≤ n + known
waits-on n later known le = omega (arith, le)

-- ---- the rows of a page

module _ (layout : RowLayout) (number : ℕ) (bytes : List ℕ) (last : Option ℕ) where
  -- a page that isn't committed has none
  module _ (bare : state_of_page bytes ≡ Committed → ⊥) where
    no-rows : rows_on layout bytes ≡ []
    no-rows = by_state (state_of_page bytes) bare
      where
        by_state : (s : PageState) → (s ≡ Committed → ⊥) → rows_where s layout bytes ≡ []
        by_state Blank e = refl
        by_state Torn e = refl
        by_state Void e = refl
        by_state Committed e = absurd (e refl)

    no-bits : bitmap_on bytes ≡ 0
    no-bits = by_state (state_of_page bytes) bare
      where
        by_state : (s : PageState) → (s ≡ Committed → ⊥) → bitmap_where s (page_bitmap bytes) ≡ 0
        by_state Blank e = refl
        by_state Torn e = refl
        by_state Void e = refl
        by_state Committed e = absurd (e refl)

    pub bare-rows : HasRows layout bytes (record { rows = 0; bitmap = 0; first = None; last = last; blob_end = 0 })
    bare-rows = record { rows = sym (ap length no-rows); few = omega arith; first = sym (ap first_key no-rows); bitmap = sym no-bits; blob_end = sym (ap (blobs_end 0) no-rows) }

    pub bare-read : IsRead layout number bytes last
    bare-read = record { good = λ is. absurd (bare is); keys = ap (keys_fault number last) no-rows }

    pub bare-last : last ≡ last_in last (rows_on layout bytes)
    bare-last = sym (ap (last_in last) no-rows)

  -- those of a view of a page that is good
  module _ (is : state_of_page bytes ≡ Committed) (good : IsGoodPage layout number bytes) (rows : List Row) (rows_are : rows ≡ rows_on layout bytes) where
    pub view-rows : (count : ℕ) (page : PageRows) → count ≡ page_count bytes → 24 ≤ length bytes → length bytes ≤ 4096 → 1 ≤ layout_len layout → page.rows ≡ count → page.first ≡ first_key rows → page.bitmap ≡ page_bitmap bytes → page.blob_end ≡ blobs_end 0 rows →
        HasRows layout bytes page
    view-rows count page many least most row counted first bitmap end = record {
      rows = counted ∙ (many ∙ sym (page-length layout bytes is));
      few = omega (arith, counted, many, good-few layout number bytes good least most row);
      first = first ∙ ap first_key rows_are;
      bitmap = bitmap ∙ sym (ap (λ s. bitmap_where s (page_bitmap bytes)) is);
      blob_end = end ∙ ap (blobs_end 0) rows_are;
    }

    pub view-read : keys_fault number last rows ≡ None → IsRead layout number bytes last
    view-read keys = record { good = λ is. good; keys = sym (ap (keys_fault number last) rows_are) ∙ keys }

    pub view-refused : (fault : MountFault) → keys_fault number last rows ≡ Some fault → IsRefused layout number bytes last fault
    view-refused fault keys = record { committed = is; why = inr (good, sym (ap (keys_fault number last) (rows_are ∙ ap (λ s. rows_where s layout bytes) is)) ∙ keys) }

-- the rows of a view are those of its page
pub rows-viewed : (layout of-view : RowLayout) (bytes of-page : List ℕ) (count : ℕ) → state_of_page bytes ≡ Committed → of-page ≡ bytes → of-view ≡ layout → count ≡ page_count bytes → rows_from count of-view (drop 16 of-page) ≡ rows_on layout bytes
rows-viewed layout of-view bytes of-page count is page view many = rw (page, view, many) (sym (ap (λ s. rows_where s layout bytes) is))
