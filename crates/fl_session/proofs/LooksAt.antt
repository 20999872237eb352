-- A table of a session was looked at, and what was told of it.
use Rattle.std.proofs.Common.{◌≡◌, ℕ, Bool, Option, Some, Result, List, subst}
use Rattle.std.specs.List.{AllByRecursion, slice_get}
use Rattle.fl_base.specs.declared.stream.SinkFailed.{SinkFailed}
use Rattle.fl_base.specs.declared.types.KeyRange.{KeyRange}
use Rattle.fl_cursor.specs.declared.bookmark.Bookmark.{Bookmark}
use Rattle.fl_flash.specs.Flash.{FlashState}
use Rattle.fl_frame.specs.Contents.{OnlyReads}
use Rattle.fl_table.specs.BlobAt.{has_blobs}
use Rattle.fl_table.specs.declared.table.Table.{Table}
use Rattle.fl_words.specs.Reply.{Reply}
use Rattle.fl_store.specs.declared.tables.Entry.{Entry}
use Rattle.fl_rlc.specs.Table.{table_in}
use Rattle.fl_queries.specs.ListSays.{EndsPairs, EndsNext, IsPair, ListSays}
use Rattle.fl_queries.specs.RowsGiven.{MovesOver}
use Rattle.fl_queries.specs.BlobSays.{AnswersBlob, BlobSays, IsBadNamed, MayBeBadFor}
use Rattle.fl_session.specs.Caused.{IsOpen, NextMoves, OnlyLooks, state_of}
use Rattle.fl_session.specs.Notes.{with_cursor}
use Rattle.fl_session.specs.declared.notes.Notes.{Notes}
use Rattle.fl_session.specs.declared.notes.TableCursor.{TableCursor}
use Rattle.fl_session.proofs.ReplyCauses.{only-looks}

-- lines of the table, by whichever name
pub lists-of : (AreLines : Table 64 64 → List Reply → Type 0) (Ends : Table 64 64 → FlashState → FlashState → Bool → ℕ → Reply → Type 0) (t u : Table 64 64) (f g : FlashState) (told told_now : Option (List ℕ)) (result : Result (Unit {0}) SinkFailed) → t ≡ u →
    ListSays (AreLines t) (Ends t f g) told told_now result → ListSays (AreLines u) (Ends u f g) told told_now result
lists-of AreLines Ends t u f g told told_now result same h = subst (λ (x : Table 64 64). ListSays (AreLines x) (Ends x f g) told told_now result) same h

pub lists-of_both : (range : KeyRange) (t u v w : Table 64 64) (f g : FlashState) (told told_now : Option (List ℕ)) (result : Result (Unit {0}) SinkFailed) → t ≡ v → u ≡ w → ListSays (AllByRecursion IsPair) (EndsPairs range t u f g) told told_now result →
    ListSays (AllByRecursion IsPair) (EndsPairs range v w f g) told told_now result
lists-of_both range t u v w f g told told_now result left right h =
    subst (λ (x : Table 64 64). ListSays (AllByRecursion IsPair) (EndsPairs range v x f g) told told_now result) right (subst (λ (x : Table 64 64). ListSays (AllByRecursion IsPair) (EndsPairs range x u f g) told told_now result) left h)

-- a table of a session was looked at, and lines of it were listed
pub looks-lists : (entries : List Entry) (mounted : Bool) (a b c : Notes) (AreLines : Table 64 64 → List Reply → Type 0) (Ends : Table 64 64 → FlashState → FlashState → Bool → ℕ → Reply → Type 0) (t u : Table 64 64) (f g : FlashState) (told told_now : Option (List ℕ)) (result : Result (Unit {0}) SinkFailed) →
    b ≡ c → OnlyReads f g → t ≡ u → ListSays (AreLines t) (Ends t f g) told told_now result → OnlyLooks (state_of entries mounted a f) (state_of entries mounted b g) c × ListSays (AreLines u) (Ends u f g) told told_now result
looks-lists entries mounted a b c AreLines Ends t u f g told told_now result noted reads same h = (only-looks entries mounted a b c f g noted reads, lists-of AreLines Ends t u f g told told_now result same h)

-- .. by a cursor, which moved
pub next-moves : (entries : List Entry) (mounted : Bool) (a b : Notes) (n count : ℕ) (held : TableCursor) (entry : Entry) (t : Table 64 64) (mark : Bookmark) (f g : FlashState) (told told_now : Option (List ℕ)) (result : Result (Unit {0}) SinkFailed) →
    IsOpen (state_of entries mounted a f) n held → slice_get entries held.table ≡ Some entry → b ≡ with_cursor a n (Some (record held { mark = mark })) → OnlyReads f g → t ≡ table_in entry.table →
    ListSays (MovesOver (has_blobs t) held.mark mark) (EndsNext count held.mark t f g) told told_now result → NextMoves (state_of entries mounted a f) (state_of entries mounted b g) n count told told_now result
next-moves entries mounted a b n count held entry t mark f g told told_now result is_open here moved reads same h =
    let both = looks-lists entries mounted a b (with_cursor a n (Some (record held { mark = mark }))) (λ (x : Table 64 64). MovesOver (has_blobs x) held.mark mark) (EndsNext count held.mark) t (table_in entry.table) f g told told_now result moved reads same h in
    record { held = held; is_open = is_open; entry = entry; here = here; mark = mark; lists = both.1; looks = both.0 }

-- two tables of a session were looked at, and pairs of their rows were listed
pub looks-pairs : (entries : List Entry) (mounted : Bool) (a b c : Notes) (range : KeyRange) (t u v w : Table 64 64) (f g : FlashState) (told told_now : Option (List ℕ)) (result : Result (Unit {0}) SinkFailed) → b ≡ c → OnlyReads f g → t ≡ v → u ≡ w →
    ListSays (AllByRecursion IsPair) (EndsPairs range t u f g) told told_now result → OnlyLooks (state_of entries mounted a f) (state_of entries mounted b g) c × ListSays (AllByRecursion IsPair) (EndsPairs range v w f g) told told_now result
looks-pairs entries mounted a b c range t u v w f g told told_now result noted reads left right h = (only-looks entries mounted a b c f g noted reads, lists-of_both range t u v w f g told told_now result left right h)

-- a table of a session was looked at, and a blob of it was told
pub looks-blob : (entries : List Entry) (mounted : Bool) (a b c : Notes) (key : ℕ) (t u : Table 64 64) (f g : FlashState) (told now : Option (List ℕ)) (result : Result (Unit {0}) SinkFailed) → b ≡ c → OnlyReads f g → t ≡ u →
    BlobSays (AnswersBlob t key f) (MayBeBadFor t key f) (IsBadNamed t key f) f g told now result → OnlyLooks (state_of entries mounted a f) (state_of entries mounted b g) c × BlobSays (AnswersBlob u key f) (MayBeBadFor u key f) (IsBadNamed u key f) f g told now result
looks-blob entries mounted a b c key t u f g told now result noted reads same h =
    (only-looks entries mounted a b c f g noted reads, subst (λ (x : Table 64 64). BlobSays (AnswersBlob x key f) (MayBeBadFor x key f) (IsBadNamed x key f) f g told now result) same h)
