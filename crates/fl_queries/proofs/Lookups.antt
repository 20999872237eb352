-- The replies to a lookup.
use Rattle.std.proofs.Common.{◌≡◌, ℕ, suc, ◌+◌, ◌-◌, ◌<◌, ◌≤◌, Bool, true, false, IsTrue, Option, Some, None, option_map, List, [], ◌∷◌, length, map, refl, sym, ◌∙◌, ap, subst, inl, inr, arith, is_some, ◌==◌, eqb-true, true≢false, length-take, slice_get}
use Rattle.std.proofs.lemmas.Option.{none-some, same_Some}
use Rattle.fl_find.proofs.Entries.{row-entry}
use Rattle.fl_find.proofs.PageLooks.{looks-pages, looks-tell}
use Rattle.fl_find.specs.Looking.{OnlyLooks}
use Rattle.fl_find.specs.Pages.{rows_on}
use Rattle.fl_flash.specs.Buffer.{BufferState}
use Rattle.fl_flash.specs.Flash.{FlashState, page_at}
use Rattle.fl_flash.specs.declared.flash.FlashFault.{FlashFault}
use Rattle.fl_flash.specs.declared.flash.FlashFault.TheVariants.{PowerLost, Media}
use Rattle.fl_model.specs.Facts.{IsTable}
use Rattle.fl_model.specs.Query.{entry_at}
use Rattle.fl_model.specs.Record.{Plan, has_var}
use Rattle.fl_model.specs.Row.{Row, stored_row}
use Rattle.fl_model.specs.Table as model
use Rattle.fl_model.specs.Table.{Entry, pending_entries, written}
use Rattle.fl_model.proofs.Lists.{slice_get-drop, slice_get-front, slice_get-short}
use Rattle.fl_frame.specs.Contents.{OnlyReads}
use Rattle.fl_page.specs.declared.fault.ReadFault.TheVariants as fault
use Rattle.fl_search.specs.Search.{RoseSome}
use Rattle.fl_words.specs.Reply as reply
use Rattle.fl_words.specs.Reply.{text}
use Rattle.fl_machine.specs.Step.{row_of, found_reply}
use Rattle.fl_model.specs.Spline.{lookup_limit}
use Rattle.fl_table.specs.BlobAt.{has_blobs}
use Rattle.fl_table.specs.Finding.{HasKeyAt, HoldsIts, IsAnswered, IsFound, ShowsEntry, TookReads, LookupFails, row_in, row_of_place}
use Rattle.fl_table.specs.Look.{layout_in, place_of}
use Rattle.fl_table.specs.declared.find.RowAt.{RowAt}
use Rattle.fl_table.specs.declared.find.RowAt.TheVariants as at
use Rattle.fl_table.specs.declared.table.Table.{Table}
use Rattle.fl_parts.proofs.PendingRows.{entry-front}
use Rattle.fl_queries.specs.LookSays.{TellsRow}
use Rattle.fl_queries.specs.Found.{FindsRow, StandsAt}
use Rattle.fl_queries.specs.Looked.{Looks}
use Rattle.fl_queries.specs.Rows.{row_reply}
use Rattle.fl_queries.proofs.RowLines.{row-line}

never : {P : Type 0} → false ≡ true → P
never e = cc

-- ---- a record that was found in memory isn't written

the-entry : (o : Option Entry) → IsTrue (is_some o) → (entry : Entry) × (o ≡ Some entry)
the-entry None some = never some
the-entry (Some entry) some = (entry, refl)

-- the record that is found has the key, and a place
pub found-place : (key : ℕ) (entries : List Entry) (entry : Entry) → entry_at key entries ≡ Some entry → (i : ℕ) × (slice_get entries i ≡ Some entry) × (entry.kept.key ≡ key)
found-place key [] entry e = absurd (none-some entry e)
found-place key (x ∷ entries) entry e = by_key (x.kept.key == key) refl (found-place key entries entry)
  where
    by_key : (b : Bool) → (x.kept.key == key) ≡ b → (entry_at key entries ≡ Some entry → (i : ℕ) × (slice_get entries i ≡ Some entry) × (entry.kept.key ≡ key)) → (i : ℕ) × (slice_get (x ∷ entries) i ≡ Some entry) × (entry.kept.key ≡ key)
    by_key true t later =
        let same : x ≡ entry = same_Some x entry (rw t at e) in
        (0, ap (λ (y : Entry). Some y) same, ap (λ (y : Entry). y.kept.key) (sym same) ∙ eqb-true x.kept.key key t)
    by_key false t later =
        let rest = later (rw t at e) in
        (suc rest.0, rest.1, rest.2)

pending-unwritten : (plan : Plan) (table : model.Table) (key i : ℕ) (entry : Entry) → IsTable plan table → entry.kept.key ≡ key → slice_get (map stored_row (pending_entries table)) i ≡ Some (stored_row entry) → IsTrue (is_some (entry_at key (written table))) → ⊥
pending-unwritten plan table key i entry facts has there some =
    let n = length table.entries - table.pending in
    let w = the-entry (entry_at key (written table)) some in
    let first = found-place key (written table) w.0 w.1 in
    let x = row-entry (pending_entries table) i (stored_row entry) there in
    let same : x.0.kept.key ≡ key = ap (λ (r : Row). r.key) x.2 ∙ has in
    let before : first.0 < length (written table) = slice_get-short (written table) first.0 w.0 first.1 in
    let up = facts.ascending first.0 (length table.entries - table.pending + i) w.0 x.0 (omega (arith, before, length-take (length table.entries - table.pending) table.entries))
    (slice_get-front (length table.entries - table.pending) table.entries first.0 w.0 first.1) (sym (slice_get-drop (length table.entries - table.pending) table.entries i) ∙ x.1) in
    omega (arith, up, first.2, same)

-- a written record took a read
took-reads : (plan : Plan) (table : model.Table) (key reads reads_now : ℕ) (buf : BufferState) (place : RowAt) → IsTable plan table → ShowsEntry plan table key buf place → TookReads reads reads_now (Some place) → IsTrue (is_some (entry_at key (written table))) → RoseSome reads reads_now
took-reads plan table key reads reads_now buf (at.Pending i) facts shows took some =
    let here = found-place key table.entries shows.entry shows.found in
    absurd (pending-unwritten plan table key i shows.entry facts here.2 shows.row some)
took-reads plan table key reads reads_now buf (at.InPage place) facts shows took some = took

-- no record has the key
pub looks-absent : (plan : Plan) (table : model.Table) (key faults faults_now reads reads_now : ℕ) (said : List ℕ) (buf : BufferState) → IsFound 64 plan table key reads reads_now buf None → reads_now ≤ reads + lookup_limit 64 plan table key → entry_at key table.entries ≡ None → said ≡ text reply.Absent → Looks plan table key faults faults_now reads reads_now said
looks-absent plan table key faults faults_now reads reads_now said buf found within none is = record {
  rose = false;
  risen = λ t. never t;
  reply = reply.Absent;
  reply_is = inl (ap (found_reply plan) (sym none));
  said_is = is;
  within = within;
  exact = λ unread. found.exact;
  found = λ unread some.
      let w = the-entry (entry_at key (written table)) some in
      absurd (none-some w.0 (sym none ∙ entry-front key (length table.entries - table.pending) table.entries w.0 w.1));
  failed = λ t. never t;
}

-- one has it, and this is its row
pub looks-found : (plan : Plan) (table : model.Table) (key faults faults_now reads reads_now : ℕ) (buf : BufferState) (place : RowAt) (row : Row) (blobs : Bool) (said : List ℕ) → blobs ≡ has_var plan → IsTable plan table → IsFound 64 plan table key reads reads_now buf (Some place) → reads_now ≤ reads + lookup_limit 64 plan table key →
    ShowsEntry plan table key buf place → row_of_place plan table buf place ≡ Some row → said ≡ text (row_reply blobs row) → Looks plan table key faults faults_now reads reads_now said
looks-found plan table key faults faults_now reads reads_now buf place row blobs said noted facts found within shows at is =
    let same : row ≡ stored_row shows.entry = same_Some row (stored_row shows.entry) (sym at ∙ shows.row) in
    record {
      rose = false;
      risen = λ t. never t;
      reply = row_of plan shows.entry;
      reply_is = inl (ap (found_reply plan) (sym shows.found));
      said_is = is ∙ ap text (ap (row_reply blobs) same ∙ row-line plan blobs shows.entry noted);
      within = within;
      exact = λ unread. found.exact;
      found = λ unread some. took-reads plan table key reads reads_now buf place facts shows found.some some;
      failed = λ t. never t;
    }

-- a page wasn't read
pub looks-unread : (plan : Plan) (table : model.Table) (key : ℕ) (t : Table 64 64) (old new : FlashState) (e : FlashFault) (said : List ℕ) → old.is_on ≡ true → LookupFails t old (fault.Flash e) new → new.work.reads ≤ old.work.reads + lookup_limit 64 plan table key → said ≡ text reply.ReadFault →
    Looks plan table key old.media.faults new.media.faults old.work.reads new.work.reads said
looks-unread plan table key t old new PowerLost said on fails within is = never (sym fails.0 ∙ on)
looks-unread plan table key t old new Media said on fails within is = record {
  rose = true;
  risen = λ t. fails.0;
  reply = reply.ReadFault;
  reply_is = inr (refl, refl);
  said_is = is;
  within = within;
  exact = λ unread. absurd (true≢false unread);
  found = λ unread. absurd (true≢false unread);
  failed = λ t. fails.1;
}

-- ---- over any bytes

-- the row in the buffer is the one of the flash
row-stands : (t : Table 64 64) (f g : FlashState) (buf : BufferState) (place : RowAt) (row : Row) → OnlyLooks f g → HoldsIts t g buf place → row_in t buf place ≡ Some row → StandsAt t f place row
row-stands t f g buf (at.Pending i) row looks holds here = here
row-stands t f g buf (at.InPage place) row looks holds here = (
  holds.kept.0,
  holds.kept.1,
  λ told.
      let same : buf.bytes ≡ page_at f (place_of t place.number) = holds.bytes (subst IsTrue (sym (looks-tell f g looks)) told) ∙ ap (λ (pages : ℕ → List ℕ). pages (place_of t place.number)) (looks-pages f g looks) in
      ap (λ (bytes : List ℕ). slice_get (rows_on (layout_in t) bytes) place.row) (sym same) ∙ here,
)

pub finds-row : (t : Table 64 64) (key : ℕ) (f g : FlashState) (buf : BufferState) (place : RowAt) (row : Row) (Holds : Row → Type 0) → Holds row → OnlyReads f g → HoldsIts t g buf place → row_in t buf place ≡ Some row →
    HasKeyAt t buf key place → IsAnswered t f key (Some place) → FindsRow t key f Holds
finds-row t key f g buf place row Holds so reads holds here has answers = record {
  row = row;
  holds = so;
  key_is = same_Some row.key key (sym (ap (option_map (λ (r : Row). r.key)) here) ∙ has);
  place = place;
  here = row-stands t f g buf place row (record { reads = reads; power = reads.power; cuts = reads.cuts }) holds here;
  answers = answers;
}

pub tells-row : (t : Table 64 64) (key : ℕ) (f g : FlashState) (buf : BufferState) (place : RowAt) (row : Row) (blobs : Bool) → blobs ≡ has_blobs t → OnlyReads f g → HoldsIts t g buf place → row_in t buf place ≡ Some row →
    HasKeyAt t buf key place → IsAnswered t f key (Some place) → TellsRow t key f (row_reply blobs row)
tells-row t key f g buf place row blobs noted reads holds here has answers =
    finds-row t key f g buf place row (λ (r : Row). row_reply blobs row ≡ row_reply (has_blobs t) r) (ap (λ b. row_reply b row) noted) reads holds here has answers
