-- Lines that are listed over any bytes.
use Rattle.std.proofs.Common.{◌≡◌, ◌⊎◌, ℕ, ◌+◌, ◌-◌, ◌^◌, ◌<◌, Bool, true, inl, inr, Option, None, Result, Ok, Err, IfOk, IfErr, List, [], ◌∷◌, ◌++◌, length, refl, sym, ◌∙◌, ap, subst, arith, length-append, is_ok}
use Rattle.std.specs.List.{AllByRecursion}
use Rattle.std.proofs.lemmas.Bool.{false≢true}
use Rattle.fl_base.specs.Causes.{Appends, AppendsFront}
use Rattle.fl_base.specs.declared.stream.SinkFailed.{SinkFailed}
use Rattle.fl_base.specs.declared.types.KeyRange.{KeyRange}
use Rattle.fl_base.proofs.Appended.{appends-append, appends-none, front-behind}
use Rattle.fl_cursor.specs.Asked.{asked_by}
use Rattle.fl_cursor.specs.Cursor.{IfBad, MayBeBad, asked_of, mark_of, table_of}
use Rattle.fl_cursor.specs.Sound.{IsSoundAhead, IsSoundOver}
use Rattle.fl_cursor.specs.declared.bookmark.Bookmark.{Bookmark}
use Rattle.fl_cursor.specs.declared.cursor.Cursor.{Cursor}
use Rattle.fl_flash.specs.Flash.{FlashState}
use Rattle.fl_frame.specs.Contents.{Contents, contents_of}
use Rattle.fl_page.specs.declared.fault.BadPage.{BadPage}
use Rattle.fl_page.specs.declared.fault.ReadFault.{ReadFault}
use Rattle.fl_page.specs.declared.fault.ReadFault.TheVariants as fault
use Rattle.fl_script.specs.Written.{Written}
use Rattle.fl_table.specs.declared.table.Table.{Table}
use Rattle.fl_words.specs.Reply as reply
use Rattle.fl_words.specs.Reply.{Reply, text, texts}
use Rattle.fl_queries.specs.ListSays.{EndsAt, EndsAtBoth, EndsBy, EndsCounted, EndsOnBoth, EndsRange, EndsScan, IsUnread, PassesNoBad, GivesLines, IsPair, ListSays, SaysEnd, WroteInto, WroteLines, mark_on}
use Rattle.fl_queries.specs.Listed.{IfUnread, SaysFault}
use Rattle.fl_queries.specs.declared.listing.ListFault.{ListFault}
use Rattle.fl_queries.specs.declared.listing.ListFault.TheVariants.{Sink, Read}
use Rattle.fl_queries.proofs.RowLines.{front-last, texts-last, written-last}

pub wrote-none : (AreLines : List Reply → Type 0) (most : ℕ) (told : Option (List ℕ)) → AreLines [] → WroteLines AreLines most told told 0
wrote-none AreLines most told none = record { lines = []; are_lines = none; many = refl; upto = omega arith; wrote = appends-none told }

module _ (WereLines AreLines : List Reply → Type 0) (most : ℕ) (told mid : Option (List ℕ)) (count : ℕ) (h : WroteLines WereLines most told mid count) where
  -- the same lines, of which something else holds
  pub wrote-as : AreLines h.lines → WroteLines AreLines most told mid count
  wrote-as are = record { lines = h.lines; are_lines = are; many = h.many; upto = h.upto; wrote = h.wrote }

  module _ (now : Option (List ℕ)) (less : count < most) (line : Reply) (are : AreLines (h.lines ++ line ∷ [])) where
    one-more : length (h.lines ++ line ∷ []) ≡ count + 1
    one-more = length-append h.lines (line ∷ []) ∙ ap (λ n. n + 1) h.many

    -- one line more
    pub wrote-more : Appends mid now (text line) → WroteLines AreLines most told now (count + 1)
    wrote-more wrote = record {
      lines = h.lines ++ line ∷ [];
      are_lines = are;
      many = one-more;
      upto = omega (arith, less);
      wrote = subst (λ (l : List ℕ). Appends told now l) (texts-last h.lines line) (appends-append told mid now (texts h.lines) (text line) h.wrote wrote);
    }

    -- the sink fails in it
    pub wrote-into : AppendsFront mid now (text line) → WroteInto AreLines most told now
    wrote-into wrote = record {
      lines = h.lines ++ line ∷ [];
      are_lines = are;
      upto = omega (arith, one-more, less);
      wrote = subst (λ (l : List ℕ). AppendsFront told now l) (texts-last h.lines line) (front-behind told mid now (texts h.lines) (text line) h.wrote wrote);
    }

-- a line that ends a list
ended : {E : Type 0} (AreLines : List Reply → Type 0) (Ends : Bool → ℕ → Reply → Type 0) (most : ℕ) (told mid now : Option (List ℕ)) (count : ℕ) (result : Result (Unit {0}) E) (last : Reply) → WroteLines AreLines most told mid count → Ends (is_ok result) count last → Written mid now result (text last) →
    ListSays AreLines Ends told now result
ended AreLines Ends most told mid now count result last h ends wrote = record {
  lines = h.lines;
  are_lines = h.are_lines;
  last = last;
  ends = subst (λ n. Ends (is_ok result) n last) (sym h.many) ends;
  written = written-last h.lines last told mid now result h.wrote wrote;
}

module _ (AreLines : List Reply → Type 0) (ending : ℕ → Reply) (most : ℕ) (Sound : Type 0) (IsBad : BadPage → Type 0) (f g : FlashState) (told mid now : Option (List ℕ)) (result : Result (Unit {0}) SinkFailed) where
  -- all were given
  pub list-ends : (count : ℕ) → (count < most → Sound) → GivesLines AreLines IsBad most told mid (Ok count) → Written mid now result (text (ending count)) → ListSays AreLines (EndsBy ending most Sound IsBad f g) told now result
  list-ends count sound h wrote = ended AreLines (EndsBy ending most Sound IsBad f g) most told mid now count result (ending count) h (record { upto = h.upto; either = inl (refl, λ taken. sound) }) wrote

  -- .. or the sink failed, or a page wasn't read
  pub list-fails : (why : ListFault) → GivesLines AreLines IsBad most told mid (Err why) → IfUnread f g why → SaysFault why mid now result → ListSays AreLines (EndsBy ending most Sound IsBad f g) told now result
  list-fails (Sink failed) h caused said =
      subst (λ (r : Result (Unit {0}) SinkFailed). ListSays AreLines (EndsBy ending most Sound IsBad f g) told now r) (sym said.0)
      (subst (λ (o : Option (List ℕ)). ListSays {E = SinkFailed} AreLines (EndsBy ending most Sound IsBad f g) told o (Err failed)) (sym said.1)
      (record {
        lines = h.lines;
        are_lines = h.are_lines;
        last = ending (length h.lines);
        ends = record { upto = h.upto; either = inl (refl, λ taken. absurd (false≢true taken)) };
        written = front-last h.lines (ending (length h.lines)) told mid h.wrote;
      }))
  list-fails (Read (fault.Flash e)) h caused said = ended AreLines (EndsBy ending most Sound IsBad f g) most told mid now h.0.0 result reply.ReadFault h.0.2 (record { upto = h.0.2.upto; either = inr (e, caused) }) said
  list-fails (Read (fault.BadPage bad)) h caused said = ended AreLines (EndsBy ending most Sound IsBad f g) most told mid now h.0.0 result (reply.BadPage bad.wanted) h.0.2 (record { upto = h.0.2.upto; either = inr (bad, refl, h.1) }) said

-- .. and it is said how many they are
pub list-ended : (AreLines : List Reply → Type 0) (Sound : Type 0) (IsBad : BadPage → Type 0) (f g : FlashState) (told mid now : Option (List ℕ)) (result : Result (Unit {0}) SinkFailed) (listed : Result ℕ ListFault) → IfOk listed (λ count. count < 2 ^ 64 - 1 → Sound) → GivesLines AreLines IsBad (2 ^ 64 - 1) told mid listed → IfErr listed (IfUnread f g) → SaysEnd listed mid now result →
    ListSays AreLines (EndsCounted Sound IsBad f g) told now result
list-ended AreLines Sound IsBad f g told mid now result (Ok count) sound h unread said = list-ends AreLines reply.EndCount (2 ^ 64 - 1) Sound IsBad f g told mid now result count sound h said
list-ended AreLines Sound IsBad f g told mid now result (Err why) sound h unread said = list-fails AreLines reply.EndCount (2 ^ 64 - 1) Sound IsBad f g told mid now result why h unread said

-- a fault that is about a page says that of it which the call says
pub bad-by : {X : Type 0} (IsBad Was : BadPage → Type 0) (e : ReadFault) → ((bad : BadPage) → ◌≡◌ {A = Result X ReadFault} (Err e) (Err (fault.BadPage bad)) → IsBad bad) → ((bad : BadPage) → IsBad bad → Was bad) → IfBad Was e
bad-by IsBad Was (fault.Flash x) h k = tt
bad-by IsBad Was (fault.BadPage bad) h k = k bad (h bad refl)

-- lines of which something else holds too
pub given-as : (WereLines AreLines : List Reply → Type 0) (IsBad : BadPage → Type 0) (most : ℕ) (told now : Option (List ℕ)) (listed : Result ℕ ListFault) → ((lines : List Reply) → WereLines lines → AreLines lines) →
    GivesLines WereLines IsBad most told now listed → GivesLines AreLines IsBad most told now listed
given-as WereLines AreLines IsBad most told now (Ok count) are h = wrote-as WereLines AreLines most told now count h (are h.lines h.are_lines)
given-as WereLines AreLines IsBad most told now (Err (Sink failed)) are h = record { lines = h.lines; are_lines = are h.lines h.are_lines; upto = h.upto; wrote = h.wrote }
given-as WereLines AreLines IsBad most told now (Err (Read fault)) are h = ((h.0.0, h.0.1, wrote-as WereLines AreLines most told now h.0.0 h.0.2 (are h.0.2.lines h.0.2.are_lines)), h.1)

pub lists-as : {E : Type 0} (WereLines AreLines : List Reply → Type 0) (Ends : Bool → ℕ → Reply → Type 0) (told now : Option (List ℕ)) (result : Result (Unit {0}) E) →
    ListSays WereLines Ends told now result → ((lines : List Reply) → WereLines lines → AreLines lines) → ListSays AreLines Ends told now result
lists-as WereLines AreLines Ends told now result h are = record { lines = h.lines; are_lines = are h.lines h.are_lines; last = h.last; ends = h.ends; written = h.written }

-- what a cursor's list ends with, by its mark
module _ (cursor : Cursor 64 64) (mark : Bookmark) (t : Table 64 64) (f g : FlashState) (same : table_of cursor ≡ t) (turn : IsSoundAhead cursor (contents_of f) → PassesNoBad mark t f) where
  scan-ends : (taken : Bool) (count : ℕ) (last : Reply) → EndsAt cursor f g taken count last → EndsScan mark t f g taken count last
  scan-ends taken count last ended = record { upto = ended.upto; either = by_end ended.either }
    where
      by_end : ((last ≡ reply.EndCount count) × (taken ≡ true → count < 2 ^ 64 - 1 → IsSoundAhead cursor (contents_of f))) ⊎ IsUnread (MayBeBad (table_of cursor) (contents_of f)) f g last →
          ((last ≡ reply.EndCount count) × (taken ≡ true → count < 2 ^ 64 - 1 → PassesNoBad mark t f)) ⊎ IsUnread (MayBeBad t (contents_of f)) f g last
      by_end (inl (is, sound)) = inl (is, λ took less. turn (sound took less))
      by_end (inr unread) = inr (subst (λ (x : Table 64 64). IsUnread (MayBeBad x (contents_of f)) f g last) same unread)

  pub lists-scan : (AreLines : List Reply → Type 0) (told now : Option (List ℕ)) (result : Result (Unit {0}) SinkFailed) → ListSays AreLines (EndsAt cursor f g) told now result → ListSays AreLines (EndsScan mark t f g) told now result
  lists-scan AreLines told now result h = record { lines = h.lines; are_lines = h.are_lines; last = h.last; ends = scan-ends (is_ok result) (length h.lines) h.last h.ends; written = h.written }

-- .. of one that began over a range, by whichever name
pub lists-range : (input cursor : Cursor 64 64) (t : Table 64 64) (range : KeyRange) (f g : FlashState) → input ≡ cursor → table_of cursor ≡ t → mark_of cursor ≡ mark_on t range None → ((contents : Contents) → IsSoundAhead cursor contents → IsSoundOver t contents (asked_of cursor)) →
    (AreLines : List Reply → Type 0) (told now : Option (List ℕ)) (result : Result (Unit {0}) SinkFailed) → ListSays AreLines (EndsAt input f g) told now result → ListSays AreLines (EndsRange range t f g) told now result
lists-range input cursor t range f g same table mark sound AreLines told now result h =
    lists-scan cursor (mark_on t range None) t f g table (λ s. subst (λ (m : Bookmark). IsSoundOver t (contents_of f) (asked_by m)) mark (sound (contents_of f) s)) AreLines told now result
    (subst (λ (k : Cursor 64 64). ListSays AreLines (EndsAt k f g) told now result) same h)

-- .. and that of two
module _ (left right : Cursor 64 64) (a b : Bookmark) (t u : Table 64 64) (f g : FlashState) (left_is : table_of left ≡ t) (right_is : table_of right ≡ u)
    (left_turn : IsSoundAhead left (contents_of f) → PassesNoBad a t f) (right_turn : IsSoundAhead right (contents_of f) → PassesNoBad b u f) where
  one_sound : IsSoundAhead left (contents_of f) ⊎ IsSoundAhead right (contents_of f) → PassesNoBad a t f ⊎ PassesNoBad b u f
  one_sound (inl s) = inl (left_turn s)
  one_sound (inr s) = inr (right_turn s)

  pair-ends : (taken : Bool) (count : ℕ) (last : Reply) → EndsAtBoth left right f g taken count last → EndsOnBoth a b t u f g taken count last
  pair-ends taken count last ended = record { upto = ended.upto; either = by_end ended.either }
    where
      by_end : ((last ≡ reply.EndCount count) × (taken ≡ true → count < 2 ^ 64 - 1 → IsSoundAhead left (contents_of f) ⊎ IsSoundAhead right (contents_of f))) ⊎ IsUnread (λ bad. MayBeBad (table_of left) (contents_of f) bad ⊎ MayBeBad (table_of right) (contents_of f) bad) f g last →
          ((last ≡ reply.EndCount count) × (taken ≡ true → count < 2 ^ 64 - 1 → PassesNoBad a t f ⊎ PassesNoBad b u f)) ⊎ IsUnread (λ bad. MayBeBad t (contents_of f) bad ⊎ MayBeBad u (contents_of f) bad) f g last
      by_end (inl (is, sound)) = inl (is, λ took less. one_sound (sound took less))
      by_end (inr unread) =
          inr
          (subst (λ (x : Table 64 64). IsUnread (λ bad. MayBeBad t (contents_of f) bad ⊎ MayBeBad x (contents_of f) bad) f g last) right_is
          (subst (λ (x : Table 64 64). IsUnread (λ bad. MayBeBad x (contents_of f) bad ⊎ MayBeBad (table_of right) (contents_of f) bad) f g last) left_is unread))

  pub lists-pairs : (told now : Option (List ℕ)) (result : Result (Unit {0}) SinkFailed) → ListSays (AllByRecursion IsPair) (EndsAtBoth left right f g) told now result → ListSays (AllByRecursion IsPair) (EndsOnBoth a b t u f g) told now result
  lists-pairs told now result h = record { lines = h.lines; are_lines = h.are_lines; last = h.last; ends = pair-ends (is_ok result) (length h.lines) h.last h.ends; written = h.written }
