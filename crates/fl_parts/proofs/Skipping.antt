-- What is known of a data page before it is read, and what was read to know it.
use Rattle.std.proofs.Common.{◌≡◌, inl, inr, ℕ, ◌+◌, ◌-◌, ◌^◌, ◌<◌, ◌≤◌, Bool, true, false, not, ◌==◌, nat_lt, cond, Option, Some, None, Result, Ok, Err, IfSome, IsTrue, List, [], ◌∷◌, sym, ◌∙◌, ap, subst, arith, refl, IfErr, ◌&&◌, ◌||◌, bit_and}
use Rattle.std.proofs.lemmas.Bool.{cases_lt, lt-ltb, and_right}
use Rattle.std.specs.List.{list_any, AllByRecursion}
use Rattle.std.proofs.lemmas.Option.{none-some}
use Rattle.fl_base.specs.declared.types.Span.{Span}
use Rattle.fl_flash.specs.Buffer.{BufferState}
use Rattle.fl_flash.specs.Flash.{FlashState, page_at}
use Rattle.fl_index.specs.Looking as looking
use Rattle.fl_index.specs.Looking.{ByMemory, IfBad, IfRead, HoldsGood, IsFresh, IsScanning, ScansOn, entire, entry_of, is_looked_at, listing_by, looked_at, next_to_read, unread, due, TellsRows, ShowsEntry}
use Rattle.fl_index.specs.Memory.{first_waiting, form_in, found_waiting, is_waiting, listing_in, next_in, oldest_in, per_page, place_in}
use Rattle.fl_index.specs.Page.{IsGoodPage, found_at, page_number, fields_of}
use Rattle.fl_index.specs.declared.index.BitmapIndex.{BitmapIndex}
use Rattle.fl_index.specs.declared.page.Found.{Found}
use Rattle.fl_index.proofs.Counts.{count-none}
use Rattle.fl_index.proofs.Held.{listed-by}
use Rattle.fl_index.proofs.Scans.{scanning-from}
use Rattle.fl_mark.specs.Mark.{state_of_page}
use Rattle.fl_mark.specs.declared.page_state.PageState.TheVariants.{Committed}
use Rattle.fl_model.specs.Limits.{asks_values, waits, is_listed, is_indexed, mask_of}
use Rattle.fl_page.specs.declared.fault.ReadFault.{ReadFault}
use Rattle.std.proofs.Math.Nat.{mod-eq_of_lt}
use Rattle.fl_base.proofs.Tests.{not_zero}
use Rattle.fl_bitmap.specs.declared.buckets.Buckets.{Buckets}
use Rattle.fl_index.specs.declared.page.Full.{Full}
use Rattle.fl_model.specs.Layout.{bitmap_of, full_of}
use Rattle.fl_model.specs.Record.{Plan}
use Rattle.fl_model.specs.Query.{is_up_to}
use Rattle.fl_model.specs.Table as model
use Rattle.fl_model.specs.Table.{first_key}
use Rattle.fl_page.specs.declared.fault.ReadFault.TheVariants.{Flash, BadPage}
use Rattle.fl_parts.specs.Skipping.{AreFresh, AreScanning, HoldGood, IsBadIndex, IsEntryOf, IsLookedUp, IsLookedUpBy, LooksOn, due_of, begins_above, mask_for, IsToldBy, ShowsPage, ahead_by, ahead_of}
use Rattle.fl_parts.specs.Entries.{LookFrom, LookUp, LooksFrom, LooksUp}
use Rattle.fl_parts.specs.Bitmaps.{ArePlanned}
use Rattle.fl_parts.specs.declared.ahead.Ahead.{Ahead}
use Rattle.fl_parts.specs.declared.ahead.Ahead.TheVariants.{Wanted, Missed, Beyond}

-- without a span, or without an index, nothing is read
pub looks-none : {X : Type 0} (x : X) (bitmaps : Option BitmapIndex) (number reads : ℕ) (buf : BufferState) → AreScanning bitmaps number buf → LooksOn bitmaps None number buf reads (Ok x) reads buf
looks-none x bitmaps number reads buf scanning = record { scanning = scanning; once = omega arith; most = omega arith; fewer = omega arith; least = λ numbers later lt. omega arith }

pub looks-plain : {X : Type 0} (x : X) (bitmaps : Option BitmapIndex) (is : bitmaps ≡ None) (span : Option Span) (number reads : ℕ) (buf : BufferState) → LooksOn bitmaps span number buf reads (Ok x) reads buf
looks-plain x None is span number reads buf = record {
  scanning = tt;
  once = omega arith;
  most = omega arith;
  fewer = omega arith;
  least = λ numbers later lt. by_span span numbers;
}
  where
    by_span : (span : Option Span) (numbers : List ℕ) → reads + due_of span None (number ∷ numbers) buf ≤ reads + due_of span None numbers buf
    by_span None numbers = omega arith
    by_span (Some span) numbers = omega arith
looks-plain x (Some index) is span number reads buf = cc

-- index pages are due where the span has a value
due-asked : (b : Bool) (reads reads_now before after : ℕ) → reads + before ≤ reads_now + after → reads ≤ reads_now → reads + cond b before 0 ≤ reads_now + cond b after 0
due-asked true reads reads_now before after due later = due
due-asked false reads reads_now before after due later = omega (arith, later)

module _ (bitmaps : Option BitmapIndex) (index : BitmapIndex) (is : bitmaps ≡ Some index) (span : Span) (number : ℕ) (before : BufferState) where
  -- the index page was read, or held
  pub looks-found : {X : Type 0} (old new : FlashState) (after : BufferState) (x : X) → ScansOn index number (next_to_read index before) old new after → new.work.reads ≤ old.work.reads + unread index number (next_to_read index before) →
      ((numbers : List ℕ) → AllByRecursion (λ n. number ≤ n) numbers → new.work.reads < 2 ^ 64 - 1 → old.work.reads + due index (number ∷ numbers) (next_to_read index before) ≤ new.work.reads + due index numbers (next_to_read index after)) →
      LooksOn bitmaps (Some span) number before old.work.reads (Ok x) new.work.reads after
  looks-found {X} old new after x scans most least =
      let next = scanning-from index number scans.next after scans.scanning in
      subst (λ (o : Option BitmapIndex). LooksOn {X = X} o (Some span) number before old.work.reads (Ok x) new.work.reads after) (sym is) (record {
        scanning = subst (λ n. IsScanning index number n after) next scans.scanning;
        once = let same = ap (unread index number) next in omega (arith, scans.once, same);
        most = most;
        fewer = let same = ap (unread index number) next in omega (arith, scans.fewer, same);
        least = λ numbers later lt.
            let none : due index [] (next_to_read index after) ≡ 0 =
            count-none (λ n. list_any (is_looked_at index n) []) (next_in index - next_to_read index after) (next_to_read index after) (λ k low high. refl) in
            let one = least [] tt lt in
            due-asked (asks_values (Some span)) old.work.reads new.work.reads (due index (number ∷ numbers) (next_to_read index before)) (due index numbers (next_to_read index after))
            (least numbers later lt) (omega (arith, one, none));
      })

  -- the read failed
  pub looks-failed : {X : Type 0} (old new : FlashState) (after : BufferState) (fault : ReadFault) → new.work.reads ≤ old.work.reads + unread index number (next_to_read index before) →
      unread index number (oldest_in index) ≤ unread index number (next_to_read index before) → after.holds ≡ None →
      LooksOn {X = X} bitmaps (Some span) number before old.work.reads (Err fault) new.work.reads after
  looks-failed {X} old new after fault most again none =
      subst (λ (o : Option BitmapIndex). LooksOn {X = X} o (Some span) number before old.work.reads (Err fault) new.work.reads after) (sym is) (record {
        scanning = inl (none, ap (looking.after_held _ _) none);
        once = tt;
        most = most;
        fewer = let same : next_to_read index after ≡ oldest_in index = ap (looking.after_held _ _) none in let moved = ap (unread index number) same in omega (arith, again, moved);
        least = λ numbers later lt. tt;
      })

-- ---- what an entry tells

pub mask-meets : (n : ℕ) → not (n == 0) ≡ nat_lt 0 n
mask-meets n = elim (cases_lt 0 n) [
  | inl some ↦ ap not (not_zero n some) ∙ sym (lt-ltb 0 n some)
  | inr none ↦ let z : n ≡ 0 = omega (arith, none) in ap (λ k. not (k == 0)) z ∙ sym (ap (nat_lt 0) z)
]

-- a page that isn't indexed is wanted
pub shows-none : (plan : Plan) (table : model.Table) (span : Span) (top : Option ℕ) (number : ℕ) (entries : List model.Entry) → false ≡ is_indexed plan table number → ShowsPage plan table (Some span) top number entries (Ok Wanted)
shows-none plan table span top number entries e =
    sym (ap (λ b. cond (b && not (is_up_to top (first_key entries))) Beyond (cond (not (is_indexed plan table number) || nat_lt 0 (bit_and (bitmap_of plan entries) (mask_of plan span))) Wanted Missed)) (and_right plan.full_index (is_indexed plan table number) (sym e))
    ∙ ap (λ b. cond (not b || nat_lt 0 (bit_and (bitmap_of plan entries) (mask_of plan span))) Wanted Missed) (sym e))

-- .. and without an index none is
pub shows-unindexed : (bitmaps : Option BitmapIndex) (start : ℕ) (plan : Plan) (table : model.Table) (span : Span) (top : Option ℕ) (number : ℕ) (entries : List model.Entry) → ((index : BitmapIndex) → bitmaps ≡ Some index → ⊥) → ArePlanned bitmaps start plan → ShowsPage plan table (Some span) top number entries (Ok Wanted)
shows-unindexed None start plan table span top number entries none planned =
    shows-none plan table span top number entries (sym (ap (λ n. nat_lt 0 n && (waits table number || is_listed plan table number)) planned.0))
shows-unindexed (Some index) start plan table span top number entries none planned = absurd (none index refl)

-- what is told of an indexed page is what its entry tells
pub shows-some : (plan : Plan) (table : model.Table) (span : Span) (top : Option ℕ) (number : ℕ) (found : Found) (entries : List model.Entry) → true ≡ is_indexed plan table number → TellsRows plan entries found → first_key entries < 2 ^ 64 →
    ahead_by (mask_of plan span) top found ≡ ahead_of plan table (Some span) top number entries
shows-some plan table span top number found entries indexed tells few =
    ap (λ (o : Option Full). cond (begins_above top o) Beyond (cond (bit_and found.bitmap (mask_of plan span) == 0) Missed Wanted)) tells.full
    ∙ (ap (λ b. cond b Beyond (cond (bit_and found.bitmap (mask_of plan span) == 0) Missed Wanted)) (by_form plan.full_index)
    ∙ (ap (λ bits. cond ((plan.full_index && true) && not (is_up_to top (first_key entries))) Beyond (cond (bit_and bits (mask_of plan span) == 0) Missed Wanted)) tells.bitmap
    ∙ (ap (λ (ahead : Ahead). cond ((plan.full_index && true) && not (is_up_to top (first_key entries))) Beyond ahead) (swapped (bit_and (bitmap_of plan entries) (mask_of plan span) == 0) (nat_lt 0 (bit_and (bitmap_of plan entries) (mask_of plan span))) (mask-meets (bit_and (bitmap_of plan entries) (mask_of plan span))))
    ∙ ap (λ b. cond ((plan.full_index && b) && not (is_up_to top (first_key entries))) Beyond (cond (not b || nat_lt 0 (bit_and (bitmap_of plan entries) (mask_of plan span))) Wanted Missed)) indexed)))
  where
    by_form : (full : Bool) → begins_above top (cond full (Some (fields_of (full_of entries))) None) ≡ ((full && true) && not (is_up_to top (first_key entries)))
    by_form true = ap (λ k. not (is_up_to top k)) (mod-eq_of_lt few)
    by_form false = refl

    swapped : (none some : Bool) → not none ≡ some → cond none Missed Wanted ≡ cond some Wanted Missed
    swapped true some e = ap (λ b. cond b Wanted Missed) e
    swapped false some e = ap (λ b. cond b Wanted Missed) e

pub shows-fault : (plan : Plan) (table : model.Table) (span : Option Span) (top : Option ℕ) (number : ℕ) (entries : List model.Entry) (fault : ReadFault) → ShowsEntry plan table number (Err fault) → ShowsPage plan table span top number entries (Err fault)
shows-fault plan table span top number entries (Flash fault) h = tt
shows-fault plan table span top number entries (BadPage bad) h = absurd h

-- a buffer stays fresh where it does for the index
pub fresh-still : (bitmaps : Option BitmapIndex) (index : BitmapIndex) → bitmaps ≡ Some index → (f g : FlashState) (old new : BufferState) → (IsFresh index f old → IsFresh index g new) → AreFresh bitmaps f old → AreFresh bitmaps g new
fresh-still bitmaps index is f g old new still fresh =
    subst (λ (o : Option BitmapIndex). AreFresh o g new) (sym is) (still (subst (λ (o : Option BitmapIndex). AreFresh o f old) is fresh))

-- a bad page that the index answers
pub bad-index : (bitmaps : Option BitmapIndex) (index : BitmapIndex) → bitmaps ≡ Some index → (f : FlashState) (buf : BufferState) (fault : ReadFault) → IfBad (λ bad. IsTrue f.media.tells → HoldsGood index buf → looking.IsBadPage index f bad) fault →
    IfBad (λ bad. IsTrue f.media.tells → HoldGood bitmaps buf → IsBadIndex bitmaps f bad) fault
bad-index bitmaps index is f buf fault h =
    subst (λ (o : Option BitmapIndex). IfBad (λ bad. IsTrue f.media.tells → HoldGood o buf → IsBadIndex o f bad) fault) (sym is) h

-- ---- over any bytes

-- The entry that was found waits, or stands on an index page that lists it.
module _ (index : BitmapIndex) (f : FlashState) (number : ℕ) (before : BufferState) (new : FlashState) (after : BufferState) (found : Found) (told : IsTrue f.media.tells) (fresh : IsFresh index f before) where
  abbrev Memory : Option ℕ → Type 0
  Memory o = o ≡ None → ByMemory entire index number f before (Ok (Some found)) new after

  abbrev Tells : Option ℕ → Type 0
  Tells o = IfSome o (λ listing. looking.IsFound entire index listing number after.bytes (Ok (Some found)))

  abbrev Reads : Option ℕ → Type 0
  Reads o = IfSome o (λ listing. IsTrue f.media.tells → IsFresh index f before → IfRead {X = Option Found} (Ok (Some found)) (after.bytes ≡ page_at f (place_in index listing)))

  pub entry-is : Memory (looked_at index number before) → Tells (looked_at index number before) → Reads (looked_at index number before) → IsEntryOf index (page_at f) number found
  entry-is memory tells reads = by_look (looked_at index number before) refl memory tells reads
    where
      some-found : (a : Found) → ◌≡◌ {A = Result (Option Found) ReadFault} (Ok (Some found)) (Ok (Some a)) → found ≡ a
      some-found a e = cc

      none-found : ◌≡◌ {A = Result (Option Found) ReadFault} (Ok (Some found)) (Ok None) → ⊥
      none-found e = cc

      by_waiting : (b : Bool) → is_waiting index number ≡ b → ◌≡◌ {A = Result (Option Found) ReadFault} (Ok (Some found)) (Ok (cond b (Some (found_waiting index (number - first_waiting index))) None)) →
          IsEntryOf index (page_at f) number found
      by_waiting true is e = inl (is, some-found (found_waiting index (number - first_waiting index)) e)
      by_waiting false is e = absurd (none-found e)

      listed : (listing : ℕ) (b : Bool) → cond b None (listing_by index number before) ≡ Some listing → listing_by index number before ≡ Some listing
      listed listing true e = absurd (none-some listing e)
      listed listing false e = e

      by_look : (o : Option ℕ) → looked_at index number before ≡ o → Memory o → Tells o → Reads o → IsEntryOf index (page_at f) number found
      by_look None is memory tells reads = by_waiting (is_waiting index number) refl (memory refl).answer
      by_look (Some listing) is memory tells reads =
          let bytes = reads told fresh in
          let at = listed-by index number listing before (listed listing (is_waiting index number) is) in
          inr (
            listing,
            record {
              kept = at.kept;
              lists_it = at.here;
              committed = ap state_of_page (sym bytes) ∙ tells.0;
              good = subst (IsGoodPage (per_page index) listing) bytes tells.1;
              found_is = tells.2 ∙ ap (λ (page : List ℕ). found_at (form_in index) page (entry_of index listing number)) bytes;
            },
          )

-- what was answered is told by it
pub told-by : (bitmaps : Option BitmapIndex) (buckets : Option Buckets) (asked : Option Span) (index : BitmapIndex) (span : Span) (is : bitmaps ≡ Some index) (is_span : asked ≡ Some span) (f : FlashState) (top : Option ℕ) (number : ℕ)
    (before : BufferState) (new : FlashState) (after : BufferState) (answer : Option Found) (found : Found) (is_found : answer ≡ Some found) (ahead : Ahead) → IsTrue f.media.tells → AreFresh bitmaps f before →
    (looked_at index number before ≡ None → ByMemory entire index number f before (Ok answer) new after) → IfSome (looked_at index number before) (λ listing. looking.IsFound entire index listing number after.bytes (Ok answer)) →
    IfSome (looked_at index number before) (λ listing. IsTrue f.media.tells → IsFresh index f before → IfRead {X = Option Found} (Ok answer) (after.bytes ≡ page_at f (place_in index listing))) →
    ahead ≡ ahead_by (mask_for buckets span) top found → IsToldBy bitmaps buckets (page_at f) asked top number ahead
told-by bitmaps buckets asked index span is is_span f top number before new after answer found is_found ahead told fresh memory tells reads by =
    subst (λ (s : Option Span). IsToldBy bitmaps buckets (page_at f) s top number ahead) (sym is_span)
    (subst (λ (o : Option BitmapIndex). IsToldBy o buckets (page_at f) (Some span) top number ahead) (sym is) (
      found,
      entry-is index f number before new after found told (subst (λ (o : Option BitmapIndex). AreFresh o f before) is fresh)
          (subst (λ (a : Option Found). looked_at index number before ≡ None → ByMemory entire index number f before (Ok a) new after) is_found memory)
          (subst (λ (a : Option Found). IfSome (looked_at index number before) (λ listing. looking.IsFound entire index listing number after.bytes (Ok a))) is_found tells)
          reads,
      by,
    ))

-- nothing is looked up where no value is asked for, or where there is no index
pub unasked-up : (bitmaps : Option BitmapIndex) (page : ℕ → List ℕ) (asked : Option Span) (number : ℕ) (buf : BufferState) → asked ≡ None → IsLookedUpBy bitmaps page asked number buf
unasked-up None page None number buf is = tt
unasked-up (Some index) page None number buf is = tt
unasked-up bitmaps page (Some span) number buf is = absurd (some is)
  where
    some : Some span ≡ None → ⊥
    some e = cc

pub unindexed-up : (bitmaps : Option BitmapIndex) (page : ℕ → List ℕ) (asked : Option Span) (number : ℕ) (buf : BufferState) → bitmaps ≡ None → IsLookedUpBy bitmaps page asked number buf
unindexed-up None page None number buf is = tt
unindexed-up None page (Some span) number buf is = tt
unindexed-up (Some index) page asked number buf is = absurd (some is)
  where
    some : Some index ≡ None → ⊥
    some e = cc

-- an index page that was looked at isn't bad
module _ (index : BitmapIndex) (f : FlashState) (number : ℕ) (before : BufferState) (after : BufferState) (told : IsTrue f.media.tells) (fresh : IsFresh index f before) where
  not-bad : (answer : Option Found) (listing : ℕ) → looking.IsFound entire index listing number after.bytes (Ok answer) → after.bytes ≡ page_at f (place_in index listing) → state_of_page (page_at f (place_in index listing)) ≡ Committed →
      IsGoodPage (per_page index) listing (page_at f (place_in index listing))
  not-bad None listing tells bytes committed = absurd (tells (ap state_of_page bytes ∙ committed))
  not-bad (Some found) listing tells bytes committed = subst (IsGoodPage (per_page index) listing) bytes tells.1

  up-is : (answer : Option Found) (span : Span) → IfSome (looked_at index number before) (λ listing. looking.IsFound entire index listing number after.bytes (Ok answer)) →
      IfSome (looked_at index number before) (λ listing. IsTrue f.media.tells → IsFresh index f before → IfRead {X = Option Found} (Ok answer) (after.bytes ≡ page_at f (place_in index listing))) → IsLookedUpBy (Some index) (page_at f) (Some span) number before
  up-is answer span tells reads = by_waiting (is_waiting index number) refl
    where
      by_listing : (o : Option ℕ) → looked_at index number before ≡ listing_by index number before → listing_by index number before ≡ o → IfSome o (λ listing. looking.IsFound entire index listing number after.bytes (Ok answer)) →
          IfSome o (λ listing. IsTrue f.media.tells → IsFresh index f before → IfRead {X = Option Found} (Ok answer) (after.bytes ≡ page_at f (place_in index listing))) → IsLookedUpBy (Some index) (page_at f) (Some span) number before
      by_listing None same is tells reads = inr (inl (by_held (looking.held_lists index number before) is))
        where
          by_held : (b : Bool) → cond b (Some (page_number before.bytes)) (listing_in index number) ≡ None → listing_in index number ≡ None
          by_held true e = absurd (some e)
            where
              some : Some (page_number before.bytes) ≡ None → ⊥
              some e = cc
          by_held false e = e
      by_listing (Some listing) same is tells reads =
          let at = listed-by index number listing before is in
          inr (inr (listing, same ∙ is, record { kept = at.kept; lists_it = at.here; sound = not-bad answer listing tells (reads told fresh) }))

      by_waiting : (b : Bool) → is_waiting index number ≡ b → IsLookedUpBy (Some index) (page_at f) (Some span) number before
      by_waiting true is = inl is
      by_waiting false is =
          let same : looked_at index number before ≡ listing_by index number before = ap (λ (b : Bool). cond b None (listing_by index number before)) is in
          by_listing (listing_by index number before) same refl (subst (λ (o : Option ℕ). IfSome o (λ listing. looking.IsFound entire index listing number after.bytes (Ok answer))) same tells)
          (subst (λ (o : Option ℕ). IfSome o (λ listing. IsTrue f.media.tells → IsFresh index f before → IfRead {X = Option Found} (Ok answer) (after.bytes ≡ page_at f (place_in index listing)))) same reads)

-- .. nor is that of the entry that was answered, or of none
pub looked-up : (bitmaps : Option BitmapIndex) (asked : Option Span) (index : BitmapIndex) (span : Span) (is : bitmaps ≡ Some index) (is_span : asked ≡ Some span) (f : FlashState) (number : ℕ) (before : BufferState) (after : BufferState)
    (answer : Option Found) → IsTrue f.media.tells → AreFresh bitmaps f before → IfSome (looked_at index number before) (λ listing. looking.IsFound entire index listing number after.bytes (Ok answer)) →
    IfSome (looked_at index number before) (λ listing. IsTrue f.media.tells → IsFresh index f before → IfRead {X = Option Found} (Ok answer) (after.bytes ≡ page_at f (place_in index listing))) → IsLookedUpBy bitmaps (page_at f) asked number before
looked-up bitmaps asked index span is is_span f number before after answer told fresh tells reads =
    subst (λ (s : Option Span). IsLookedUpBy bitmaps (page_at f) s number before) (sym is_span)
    (subst (λ (o : Option BitmapIndex). IsLookedUpBy o (page_at f) (Some span) number before) (sym is)
    (up-is index f number before after told (subst (λ (o : Option BitmapIndex). AreFresh o f before) is fresh) answer span tells reads))

-- .. so one that lists the page isn't, whatever was in the buffer
pub looked-any : (bitmaps : Option BitmapIndex) (page : ℕ → List ℕ) (asked : Option Span) (number : ℕ) (buf : BufferState) → IsLookedUpBy bitmaps page asked number buf → IsLookedUp bitmaps page asked number
looked-any None page None number buf h = tt
looked-any (Some index) page None number buf h = tt
looked-any None page (Some span) number buf h = tt
looked-any (Some index) page (Some span) number buf (inl waits) = inl waits
looked-any (Some index) page (Some span) number buf (inr (inl none)) = inr (inl none)
looked-any (Some index) page (Some span) number buf (inr (inr listed)) = inr (inr (listed.0, listed.2))

-- ---- a lookup in the index of a table

module _ (bitmaps : Option BitmapIndex) (index : BitmapIndex) (is : bitmaps ≡ Some index) where
  pub bad-answer : {X : Type 0} (f : FlashState) (buf : BufferState) (result : Result X ReadFault) → IfErr result (IfBad (λ bad. IsTrue f.media.tells → HoldsGood index buf → looking.IsBadPage index f bad)) →
      IfErr result (IfBad (λ bad. IsTrue f.media.tells → HoldGood bitmaps buf → IsBadIndex bitmaps f bad))
  bad-answer f buf (Ok x) h = tt
  bad-answer f buf (Err fault) h = bad-index bitmaps index is f buf fault h

  pub looks-up : {X : Type 0} (asked : Found → X) (number : ℕ) (old : FlashState) (before : BufferState) (result : Result (Option X) ReadFault) (new : FlashState) (after : BufferState) → LooksUp asked index number old before result new after →
      LookUp asked bitmaps number old before result new after
  looks-up asked number old before result new after h = subst (λ (o : Option BitmapIndex). LookUp asked o number old before result new after) (sym is) h

  pub looks-from : {X : Type 0} (number : ℕ) (old : FlashState) (before : BufferState) (result : Result X ReadFault) (new : FlashState) (after : BufferState) → (IsFresh index old before → LooksFrom index number old before result new after) →
      AreFresh bitmaps old before → LookFrom bitmaps number old before result new after
  looks-from number old before result new after h fresh =
      subst (λ (o : Option BitmapIndex). LookFrom o number old before result new after) (sym is) (h (subst (λ (o : Option BitmapIndex). AreFresh o old before) is fresh))
