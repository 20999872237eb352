-- One data page after another is seen.
use Rattle.std.proofs.Common.{◌≡◌, ℕ, suc, ◌+◌, ◌-◌, ◌<◌, ◌≤◌, cond, None, List, length, subst, arith}
use Rattle.std.specs.Prelude.{option_map}
use Rattle.std.specs.Option.{is_none}
use Rattle.fl_find.specs.declared.index.KeyIndex.{KeyIndex}
use Rattle.fl_flash.specs.Flash.{FlashState}
use Rattle.fl_index.specs.Page.{full_view}
use Rattle.fl_index.specs.declared.index.BitmapIndex.{BitmapIndex}
use Rattle.fl_model.specs.Record.{RowLayout}
use Rattle.fl_ring.specs.Place.{next_of, oldest_of}
use Rattle.fl_ring.specs.declared.ring.Ring.{Ring}
use Rattle.fl_parts.specs.ByEntries.{Come, entry, unlisted_of}
use Rattle.fl_parts.specs.Coming.{AreRowsOf, AreUnlisted, loaded_full}
use Rattle.fl_parts.specs.KeptSteps.{AreNextPages, IsNextPage}
use Rattle.fl_parts.specs.Knowing.{KnowsWith}
use Rattle.fl_parts.specs.declared.known.Known.{Known}
use Rattle.fl_parts.proofs.MountProgress.{more-unlisted, unlisted-rises}
use Rattle.fl_parts.proofs.PageChecks.{left-tail}

-- one of those that are next is the next one
pub is-next : (t : Come) (k number from end : ℕ) (layout : RowLayout) (ring : Ring) (f : FlashState) (index : BitmapIndex) (counts now : List ℕ) → AreNextPages t k from end layout ring f index counts →
    from ≤ number → oldest_of ring ≤ number → number < end → number < next_of ring → length now ≡ length counts → IsNextPage t k (number - t.oldest) number now
is-next t k number from end layout ring f index counts now is above low below high size =
    let at : number ≡ t.oldest + (number - t.oldest) = omega (arith, low, is.rows.oldest) in
    let lt : number - t.oldest < t.pages = omega (arith, low, high, is.rows.oldest, is.rows.pages) in
    record { lt = lt; fits = omega (arith, is.fits, size); at = at; next = is.next (number - t.oldest) (omega (arith, above, at)) (omega (arith, below, at)) lt }

-- .. and its entry is the one that is loaded
pub tells-next : (t : Come) (k number from end : ℕ) (layout : RowLayout) (ring : Ring) (f : FlashState) (index : BitmapIndex) (counts : List ℕ) → AreNextPages t k from end layout ring f index counts →
    from ≤ number → number < end → number ≡ t.oldest + (number - t.oldest) → number - t.oldest < t.pages → entry t number ≡ option_map full_view (loaded_full index number)
tells-next t k number from end layout ring f index counts is above below at lt = is.loaded number above below (omega (arith, at)) (omega (arith, at, lt))

pub one-more : {KNOTS SLOTS : ℕ} (error : ℕ) (t : Come) (k number : ℕ) (known : Known) (counts : List ℕ) (index : KeyIndex KNOTS SLOTS) → number ≡ t.oldest + (number - t.oldest) → KnowsWith error t k (suc (number - t.oldest)) known counts index →
    KnowsWith error t k (number + 1 - t.oldest) known counts index
one-more error t k number known counts index at h = subst (λ n. KnowsWith error t k n known counts index) (let e : suc (number - t.oldest) ≡ number + 1 - t.oldest = omega (arith, at) in e) h

-- where no index page lists it, it is read
pub seen-few : (t : Come) (number first to before reads now : ℕ) → number ≡ t.oldest + (number - t.oldest) → number + 1 ≤ to → reads + unlisted_of t t.oldest first ≤ before + unlisted_of t t.oldest (number - t.oldest) →
    now ≤ reads + cond (is_none (entry t number)) 1 0 → now + unlisted_of t t.oldest first ≤ before + unlisted_of t t.oldest (to - t.oldest)
seen-few t number first to before reads now at le few one =
    let more = more-unlisted t (number - t.oldest) number (number + 1 - t.oldest) at (omega (arith, at)) in
    let rest = unlisted-rises t (number + 1 - t.oldest) (to - t.oldest) (omega (arith, le)) in
    omega (arith, few, one, more, rest)

-- ---- those that no index page lists

pub unlisted-next : (t : Come) (number : ℕ) (layout : RowLayout) (ring : Ring) (f : FlashState) (counts now : List ℕ) → AreRowsOf t layout ring f → oldest_of ring ≤ number → number < next_of ring → next_of ring - oldest_of ring ≤ length counts → length now ≡ length counts →
    IsNextPage t t.index_pages (number - t.oldest) number now
unlisted-next t number layout ring f counts now rows low high few size =
    let lt : number - t.oldest < t.pages = omega (arith, low, high, rows.oldest, rows.pages) in
    record { lt = lt; fits = omega (arith, rows.pages, few, size); at = omega (arith, low, rows.oldest); next = left-tail t (number - t.oldest) lt }

pub none-listed : (t : Come) (from number : ℕ) {counts : List ℕ} → AreUnlisted t from → from ≤ number → IsNextPage t t.index_pages (number - t.oldest) number counts → entry t number ≡ None
none-listed t from number end above next = end number above (omega (arith, next.at, next.lt))

pub all-seen : (t : Come) (number : ℕ) (layout : RowLayout) (ring : Ring) (f : FlashState) → AreRowsOf t layout ring f → number ≡ next_of ring → number - t.oldest ≡ t.pages
all-seen t number layout ring f rows last = omega (arith, rows.oldest, rows.pages, last)
