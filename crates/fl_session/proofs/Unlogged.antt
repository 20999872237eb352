-- What is asked of a table is asked of it without its log.
use Rattle.std.proofs.Common.{◌≡◌, ◌⊎◌, ℕ, ◌+◌, ◌/◌, inl, inr, IsTrue, Option, None, Some, Result, List, [], ◌∷◌, ◌++◌, refl, ◌∙◌, ap, subst, arith, MatchOption, length, option_map, take, unwrap_or}
use Rattle.std.proofs.Math.Path.{fun_ext}
use Rattle.fl_base.specs.declared.types.KeyRange.{KeyRange}
use Rattle.fl_base.specs.declared.types.Span.{Span}
use Rattle.fl_cursor.specs.Asked.{asked_by, lowest_of}
use Rattle.fl_cursor.specs.declared.bookmark.Bookmark.{Bookmark}
use Rattle.fl_machine.specs.Reads.{blob_limit, length_of}
use Rattle.fl_machine.specs.Step.{BlobReplies, Lists, found_reply, note_of, row_note, row_of, rows_of}
use Rattle.fl_model.specs.Bare.{bare, bare_table}
use Rattle.fl_model.specs.Limits.{scan_limit}
use Rattle.fl_model.specs.Query.{BlobState, entry_at, selected}
use Rattle.fl_model.specs.Record.{Plan, Record, content_per_page}
use Rattle.fl_model.specs.Spline.{lookup_limit}
use Rattle.fl_model.specs.Table.{Entry, Table}
use Rattle.fl_words.specs.Reply as reply
use Rattle.fl_words.specs.Reply.{Reply}
use Rattle.fl_store.proofs.Queried.{blobs-bare}
use Rattle.fl_queries.specs.BlobShown.{ShowsBlob}
use Rattle.fl_queries.specs.Lines.{Scans}
use Rattle.fl_queries.specs.Looked.{Looks}
use Rattle.fl_queries.specs.Nexts.{Nexts, ending_of, given_of}

-- ---- replies

note-bare : (plan : Plan) (blob : Option (List ℕ)) → row_note (bare plan) blob ≡ row_note plan blob
note-bare plan None = refl
note-bare plan (Some bytes) = refl

row-bare : (plan : Plan) (entry : Entry) → row_of (bare plan) entry ≡ row_of plan entry
row-bare plan entry = ap (λ note. reply.Row entry.kept.key entry.kept.values note) (note-bare plan entry.kept.blob)

rows-bare : (plan : Plan) (entries : List Entry) → rows_of (bare plan) entries ≡ rows_of plan entries
rows-bare plan [] = refl
rows-bare plan (entry ∷ entries) = rw (row-bare plan entry, rows-bare plan entries) refl

pub notes-bare : (plan : Plan) → note_of (bare plan) ≡ note_of plan
notes-bare plan = fun_ext (λ (item : Record). row-bare plan (record { kept = item; page = 0; offset = 0 }))

found-bare : (plan : Plan) (found : Option Entry) → found_reply (bare plan) found ≡ found_reply plan found
found-bare plan None = refl
found-bare plan (Some entry) = row-bare plan entry

-- ---- limits

limit-bare : (plan : Plan) (table : Table) (range : KeyRange) (span : Option Span) (lowest : ℕ) → scan_limit 64 (bare plan) (bare_table table) range span lowest ≡ scan_limit 64 plan table range span lowest
limit-bare plan table range None lowest = refl
limit-bare plan table range (Some span) lowest = refl

blob_limit-bare : (plan : Plan) (table : Table) (key : ℕ) → blob_limit 64 (bare plan) (bare_table table) key ≡ blob_limit 64 plan table key
blob_limit-bare plan table key =
    ap (λ (left : Entry → BlobState). lookup_limit 64 plan table key + unwrap_or (option_map (λ entry. length_of (left entry)) (entry_at key table.entries)) 0 / content_per_page plan + 2) (blobs-bare table)

-- ---- what commands answer

module _ (plan : Plan) (table : Table) where
  pub looks-unlogged : {key faults faults_now reads reads_now : ℕ} {said : List ℕ} → Looks (bare plan) (bare_table table) key faults faults_now reads reads_now said → Looks plan table key faults faults_now reads reads_now said
  looks-unlogged {key} h = record {
    rose = h.rose;
    risen = h.risen;
    reply = h.reply;
    reply_is = subst (λ (found : Reply). (h.reply ≡ found) ⊎ (IsTrue h.rose × (h.reply ≡ reply.ReadFault))) (found-bare plan (entry_at key table.entries)) h.reply_is;
    said_is = h.said_is;
    within = h.within;
    exact = h.exact;
    found = h.found;
    failed = h.failed;
  }

  module _ {E : Type 0} {told told_now : Option (List ℕ)} {faults faults_now reads reads_now : ℕ} {result : Result (Unit {0}) E} where
    pub shows-unlogged : {key : ℕ} → ShowsBlob (bare plan) (bare_table table) key told told_now faults faults_now reads reads_now result → ShowsBlob plan table key told told_now faults faults_now reads reads_now result
    shows-unlogged {key} h = record {
      rose = h.rose;
      risen = h.risen;
      replies = h.replies;
      replied = subst (λ (left : Entry → BlobState). MatchOption (entry_at key table.entries) (h.replies ≡ reply.Absent ∷ []) (λ entry. BlobReplies h.rose (left entry) h.replies) ⊎ (IsTrue h.rose × (h.replies ≡ reply.ReadFault ∷ []))) (blobs-bare table) h.replied;
      wrote = h.wrote;
      within = omega (arith, h.within, blob_limit-bare plan table key);
      failed = h.failed;
    }

    pub scans-unlogged : (range : KeyRange) (span : Option Span) → Scans (bare plan) (bare_table table) range span told told_now faults faults_now reads reads_now result → Scans plan table range span told told_now faults faults_now reads reads_now result
    scans-unlogged range span h = record {
      rose = h.rose;
      risen = h.risen;
      replies = h.replies;
      lists = subst (λ (lines : List Reply). Lists h.rose lines (reply.EndCount (length lines)) h.replies) (rows-bare plan (selected range span table.entries)) h.lists;
      wrote = h.wrote;
      within = omega (arith, h.within, limit-bare plan table range span range.low);
      some = h.some;
      failed = h.failed;
    }

    pub nexts-unlogged : {count : ℕ} {mark new : Bookmark} → Nexts (bare plan) (bare_table table) count mark new told told_now faults faults_now reads reads_now result → Nexts plan table count mark new told told_now faults faults_now reads reads_now result
    nexts-unlogged {count} {mark} h = record {
      rose = h.rose;
      risen = h.risen;
      given = h.given;
      some = h.some;
      replies = h.replies;
      replied = elim h.replied [
        | inl all ↦ inl (all.0, all.1 ∙ ap (λ (rows : List Reply). rows ++ ending_of count (length (given_of count mark table)) ∷ []) (rows-bare plan (given_of count mark table)))
        | inr part ↦ inr (part.0, part.1, part.2 ∙ ap (λ (rows : List Reply). rows ++ reply.ReadFault ∷ []) (rows-bare plan (take h.given (given_of count mark table))))
      ];
      moved_to = h.moved_to;
      wrote = h.wrote;
      within = λ bounded. let most = h.within bounded in omega (arith, most, limit-bare plan table mark.range mark.span (lowest_of (asked_by mark)));
      failed = h.failed;
    }
