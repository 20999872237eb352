-- What the next rows of a cursor are in the model.
use Rattle.std.proofs.Common.{◌≡◌, ℕ, ◌+◌, ◌-◌, ◌<◌, ◌≤◌, Bool, true, false, Option, Result, Ok, Err, List, [], ◌∷◌, ◌++◌, length, length-append, map, take, drop, refl, sym, ◌∙◌, ap, subst, arith, inl, inr, if◌then◌else◌, ◌==◌}
use Rattle.std.specs.List.{last_or}
use Rattle.std.proofs.lemmas.Bool.{eq-eqb, ne_eqb, cases_lt, false≢true}
use Rattle.std.proofs.Math.Seq.{take-append-add}
use Rattle.std.proofs.lemmas.List.{take-map, length-map, take_all, take-take, take-append-drop}
use Rattle.fl_base.specs.Causes.{Rose, Appends, AppendsFront}
use Rattle.fl_base.specs.declared.stream.SinkFailed.{SinkFailed}
use Rattle.fl_cursor.specs.Asked.{asked_by, lowest_of}
use Rattle.fl_cursor.specs.Reads.{most_of, IsBounded}
use Rattle.fl_cursor.specs.Cursor.{mark_of}
use Rattle.fl_cursor.specs.declared.bookmark.Bookmark.{Bookmark}
use Rattle.fl_cursor.specs.declared.cursor.Cursor.{Cursor}
use Rattle.fl_flash.specs.Flash.{FlashState}
use Rattle.fl_machine.specs.Reads.{is_read_fault}
use Rattle.fl_machine.specs.Step.{row_of, rows_of}
use Rattle.fl_model.specs.Limits.{scan_limit}
use Rattle.fl_model.specs.Query as query
use Rattle.fl_model.specs.Query.{moved}
use Rattle.fl_model.specs.Record.{Plan}
use Rattle.fl_model.specs.Row.{Row}
use Rattle.fl_model.specs.Table as model
use Rattle.fl_model.specs.Table.{Entry}
use Rattle.fl_frame.specs.Contents.{Contents}
use Rattle.fl_script.specs.Written.{Written}
use Rattle.fl_search.specs.Search.{RoseSome}
use Rattle.fl_words.specs.Reply as words
use Rattle.fl_words.specs.Reply.{Reply, text, texts}
use Rattle.fl_page.specs.declared.fault.BadPage.{BadPage as BadPageOf}
use Rattle.fl_page.specs.declared.fault.ReadFault.TheVariants.{Flash, BadPage}
use Rattle.fl_parts.proofs.ListedPages.{any-ok}
use Rattle.fl_queries.specs.Lines.{AreMade, IsNoBadPage}
use Rattle.fl_queries.specs.Listed.{SaysFault, IfUnread}
use Rattle.fl_queries.specs.ListSays.{GivesLines}
use Rattle.fl_queries.specs.declared.listing.ListFault.{ListFault}
use Rattle.fl_queries.specs.declared.listing.ListFault.TheVariants.{Sink, Read}
use Rattle.fl_queries.specs.Nexts.{Nexts, given_of, ending_of}
use Rattle.fl_queries.specs.Rows.{row_reply}
use Rattle.fl_queries.specs.RowsGiven.{MovesOver}
use Rattle.fl_queries.proofs.CountedLines.{front-taken, front-written, none-unread}
use Rattle.fl_queries.proofs.Resumed.{rose-read, read-counted}
use Rattle.fl_queries.proofs.RowLines.{written-last, front-last}

-- the keys of lines of rows
abbrev key_in : Reply → ℕ
key_in (words.Row key values note) = key
key_in _ = 0

keys-of : (blobs : Bool) (rows : List Row) → map key_in (map (row_reply blobs) rows) ≡ map (λ (r : Row). r.key) rows
keys-of blobs [] = refl
keys-of blobs (r ∷ rows) = ap (λ (l : List ℕ). r.key ∷ l) (keys-of blobs rows)

keys-stored : (plan : Plan) (es : List Entry) → map key_in (rows_of plan es) ≡ map (λ (e : Entry). e.kept.key) es
keys-stored plan [] = refl
keys-stored plan (e ∷ es) = ap (λ (l : List ℕ). e.kept.key ∷ l) (keys-stored plan es)

keys-same : (plan : Plan) (blobs : Bool) (rows : List Row) (es : List Entry) → map (row_reply blobs) rows ≡ rows_of plan es → map (λ (r : Row). r.key) rows ≡ map (λ (e : Entry). e.kept.key) es
keys-same plan blobs rows es same = sym (keys-of blobs rows) ∙ (ap (map key_in) same ∙ keys-stored plan es)

-- the reply behind the rows is no read fault
ending-read : (count given : ℕ) → is_read_fault (ending_of count given) ≡ false
ending-read count given = by_test (given == count)
  where
    by_test : (full : Bool) → is_read_fault (if full then words.More else words.CursorEnd) ≡ false
    by_test true = refl
    by_test false = refl

module _ (plan : Plan) (blobs : Bool) (table : model.Table) (count : ℕ) (mark new : Bookmark) (Told : Type 0) (IsBad : BadPageOf → Type 0) (all : List Reply) (told mid now : Option (List ℕ)) (f g : FlashState) (result : Result (Unit {0}) SinkFailed) (t : Told)
    (are : all ≡ rows_of plan (query.left_of (asked_by mark) table.entries))
    (within : IsBounded mark.top mark.range.high → g.work.reads ≤ f.work.reads + scan_limit 64 plan table mark.range mark.span (lowest_of (asked_by mark))) where
  many-are : length all ≡ length (query.left_of (asked_by mark) table.entries)
  many-are = ap (λ (l : List Reply). length l) are ∙ length-map (query.left_of (asked_by mark) table.entries) (row_of plan)

  -- these lines were written
  module _ (lines : List Reply) (h : AreMade (MovesOver blobs mark new) Told all lines) (gave : Appends told mid (texts lines)) where
    lines-are : lines ≡ rows_of plan (take (length lines) (query.left_of (asked_by mark) table.entries))
    lines-are = front-taken lines (h.front t).0 all (h.front t).1 ∙ (ap (take (length lines)) are ∙ take-map (row_of plan) (length lines) (query.left_of (asked_by mark) table.entries))

    many-lines : length (take (length lines) (query.left_of (asked_by mark) table.entries)) ≡ length lines
    many-lines = sym (length-map (take (length lines) (query.left_of (asked_by mark) table.entries)) (row_of plan)) ∙ sym (ap (λ (l : List Reply). length l) lines-are)

    moved-are : asked_by new ≡ moved (asked_by mark) (take (length lines) (query.left_of (asked_by mark) table.entries))
    moved-are = ap asked_by h.made.mark_is
        ∙ ap (λ (ks : List ℕ). asked_by (record mark { after = last_or mark.after ks })) (keys-same plan blobs h.made.are_rows.rows (take (length lines) (query.left_of (asked_by mark) table.entries)) (sym h.made.are_rows.lines_are ∙ lines-are))

    -- all that were wanted were given, or all that were left
    nexts-whole : (last : Reply) → take (length lines) (query.left_of (asked_by mark) table.entries) ≡ given_of count mark table → ending_of count (length (given_of count mark table)) ≡ last → Written mid now result (text last) → Nexts plan table count mark new told now f.media.faults g.media.faults f.work.reads g.work.reads result
    nexts-whole last same ends wrote = record {
      rose = false;
      risen = λ t. absurd (false≢true t);
      given = length (given_of count mark table);
      some = omega arith;
      replies = rows_of plan (given_of count mark table) ++ ending_of count (length (given_of count mark table)) ∷ [];
      replied = inl (refl, refl);
      moved_to = any-ok result (moved-are ∙ ap (moved (asked_by mark)) (same ∙ sym (take_all (length (given_of count mark table)) (given_of count mark table) (omega arith))));
      wrote = subst (λ (r : Reply). Written told now result (texts (rows_of plan (given_of count mark table) ++ r ∷ []))) (sym ends)
          (subst (λ (l : List Reply). Written told now result (texts (l ++ last ∷ []))) (lines-are ∙ ap (rows_of plan) same) (written-last lines last told mid now result gave wrote));
      within = within;
      failed = none-unread (rows_of plan (given_of count mark table)) (ending_of count (length (given_of count mark table))) (ending-read count (length (given_of count mark table)));
    }

    nexts-more : length lines ≡ count → Written mid now result (text words.More) → Nexts plan table count mark new told now f.media.faults g.media.faults f.work.reads g.work.reads result
    nexts-more full wrote =
        let same = ap (λ n. take n (query.left_of (asked_by mark) table.entries)) full in
        let many : length (given_of count mark table) ≡ length lines = ap length (sym same) ∙ many-lines in
        nexts-whole words.More same (ap (λ (b : Bool). if b then words.More else words.CursorEnd) (eq-eqb (length (given_of count mark table)) count (many ∙ full))) wrote

    nexts-end : length lines < count → length all ≡ length lines → Written mid now result (text words.CursorEnd) → Nexts plan table count mark new told now f.media.faults g.media.faults f.work.reads g.work.reads result
    nexts-end less whole wrote =
        let long : length (query.left_of (asked_by mark) table.entries) ≡ length lines = sym many-are ∙ whole in
        let same : take (length lines) (query.left_of (asked_by mark) table.entries) ≡ given_of count mark table =
        take_all (length lines) (query.left_of (asked_by mark) table.entries) (omega (arith, long)) ∙ sym (take_all count (query.left_of (asked_by mark) table.entries) (omega (arith, long, less))) in
        let many : length (given_of count mark table) ≡ length lines = ap length (sym same) ∙ many-lines in
        nexts-whole words.CursorEnd same (ap (λ (b : Bool). if b then words.More else words.CursorEnd) (ne_eqb (length (given_of count mark table)) count (λ e. omega (arith, e, many, less)))) wrote

    nexts-unread : length lines < count → Rose f.media.faults g.media.faults → RoseSome f.work.reads g.work.reads → Written mid now result (text words.ReadFault) → Nexts plan table count mark new told now f.media.faults g.media.faults f.work.reads g.work.reads result
    nexts-unread less rises counted wrote =
        let same = take-take (length lines) count (query.left_of (asked_by mark) table.entries) (omega (arith, less)) in
        let many : length (take (length lines) (given_of count mark table)) ≡ length lines = ap length same ∙ many-lines in
        record {
          rose = true;
          risen = λ t. rises;
          given = length lines;
          some = omega (arith, many, ap (λ (l : List Entry). length l) (take-append-drop (length lines) (given_of count mark table)), length-append (take (length lines) (given_of count mark table)) (drop (length lines) (given_of count mark table)));
          replies = rows_of plan (take (length lines) (given_of count mark table)) ++ words.ReadFault ∷ [];
          replied = inr (refl, less, refl);
          moved_to = any-ok result (moved-are ∙ ap (moved (asked_by mark)) (sym same));
          wrote = subst (λ (l : List Reply). Written told now result (texts (l ++ words.ReadFault ∷ []))) (lines-are ∙ ap (rows_of plan) (sym same)) (written-last lines words.ReadFault told mid now result gave wrote);
          within = within;
          failed = λ unread. counted;
        }

  -- the sink failed in one of them
  nexts-failed : (lines : List Reply) → AreMade (MovesOver blobs mark new) Told all lines → length lines ≤ count → AppendsFront told mid (texts lines) → (failed : SinkFailed) → Nexts plan table count mark new told mid f.media.faults g.media.faults f.work.reads g.work.reads (Err failed)
  nexts-failed lines h upto front failed =
      let rest = (h.front t).0 in
      let whole : length lines + (count - length lines) ≡ count = omega (arith, upto) in
      let parts : lines ++ take (count - length lines) (h.front t).0 ≡ take count all = sym (take-append-add lines rest (count - length lines)) ∙ (ap (λ n. take n (lines ++ rest)) whole ∙ ap (take count) (h.front t).1) in
      let are_given : take count all ≡ rows_of plan (given_of count mark table) = ap (take count) are ∙ take-map (row_of plan) count (query.left_of (asked_by mark) table.entries) in
      record {
        rose = false;
        risen = λ t. absurd (false≢true t);
        given = length (given_of count mark table);
        some = omega arith;
        replies = rows_of plan (given_of count mark table) ++ ending_of count (length (given_of count mark table)) ∷ [];
        replied = inl (refl, refl);
        moved_to = tt;
        wrote = front-last (rows_of plan (given_of count mark table)) (ending_of count (length (given_of count mark table))) told mid
            (subst (λ (l : List Reply). AppendsFront told mid (texts l)) are_given (front-written lines (take (count - length lines) rest) (take count all) parts told mid front));
        within = within;
        failed = none-unread (rows_of plan (given_of count mark table)) (ending_of count (length (given_of count mark table))) (ending-read count (length (given_of count mark table)));
      }

  -- so many were given, and that there may be more or that none is left was said
  pub nexts-given : (given : ℕ) → GivesLines (AreMade (MovesOver blobs mark new) Told all) IsBad count told mid (Ok given) → (given < count → length all ≡ given) → Written mid now result (text (ending_of count given)) → Nexts plan table count mark new told now f.media.faults g.media.faults f.work.reads g.work.reads result
  nexts-given given h whole wrote = elim (cases_lt given count) [
    | inl less ↦
        let said : ending_of count given ≡ words.CursorEnd = ap (λ (b : Bool). if b then words.More else words.CursorEnd) (ne_eqb given count (λ e. omega (arith, e, less))) in
        nexts-end h.lines h.are_lines h.wrote (omega (arith, h.many, less)) (whole less ∙ sym h.many) (subst (λ r. Written mid now result (text r)) said wrote)
    | inr more ↦
        let full : given ≡ count = omega (arith, more, h.upto) in
        let said : ending_of count given ≡ words.More = ap (λ (b : Bool). if b then words.More else words.CursorEnd) (eq-eqb given count full) in
        nexts-more h.lines h.are_lines h.wrote (h.many ∙ full) (subst (λ r. Written mid now result (text r)) said wrote)
  ]

  -- .. or why not
  pub nexts-fault : (fault : ListFault) → GivesLines (AreMade (MovesOver blobs mark new) Told all) IsBad count told mid (Err fault) → IsNoBadPage fault → f.is_on ≡ true → IfUnread f g fault → SaysFault fault mid now result → Nexts plan table count mark new told now f.media.faults g.media.faults f.work.reads g.work.reads result
  nexts-fault (Sink failed) h good on why says = rw (says.0, says.1) (nexts-failed h.lines h.are_lines h.upto h.wrote failed)
  nexts-fault (Read (Flash fault)) h good on why says = nexts-unread h.0.2.lines h.0.2.are_lines h.0.2.wrote (omega (arith, h.0.1, h.0.2.many)) (rose-read f g fault on why) (read-counted f g fault on why) says
  nexts-fault (Read (BadPage bad)) h good on why says = absurd good

-- the reads of a cursor that is resumed
pub reads-within : (plan : Plan) (table : model.Table) (first : Cursor 64 64) (contents : Contents) (reads reads_now : ℕ) {mark : Bookmark} → mark_of first ≡ mark →
    (IsBounded mark.top mark.range.high → most_of first contents ≤ scan_limit 64 plan table mark.range mark.span (lowest_of (asked_by mark))) → reads_now ≤ reads + most_of first contents →
    IsBounded (mark_of first).top (mark_of first).range.high → reads_now ≤ reads + scan_limit 64 plan table (mark_of first).range (mark_of first).span (lowest_of (asked_by (mark_of first)))
reads-within plan table first contents reads reads_now {mark} is limit most =
    subst (λ (m : Bookmark). IsBounded m.top m.range.high → reads_now ≤ reads + scan_limit 64 plan table m.range m.span (lowest_of (asked_by m))) (sym is)
    (λ bounded. let few = limit bounded in omega (arith, few, most))
