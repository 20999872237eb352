-- What is said of the blob of a record.
use Rattle.std.proofs.Common.{◌≡◌, ◌⊎◌, ℕ, ◌+◌, ◌-◌, ◌/◌, ◌^◌, ◌<◌, ◌≤◌, Bool, true, false, cond, inl, inr, IsTrue, Option, Some, None, Result, Ok, Err, List, [], ◌∷◌, length, take, drop, refl, sym, ◌∙◌, ap, subst, arith, IfOk, IfSome, OnErr, MatchOption, if◌then◌else◌, ◌==◌, option_map, unwrap_or, slice_get}
use Rattle.std.proofs.lemmas.Bool.{eq-eqb, false≢true}
use Rattle.std.proofs.lemmas.Option.{same_Some}
use Rattle.fl_base.specs.Causes.{Rose}
use Rattle.fl_base.specs.declared.types.BlobRef.{BlobRef}
use Rattle.fl_base.specs.declared.types.Geometry.{Geometry}
use Rattle.fl_flash.specs.Buffer.{BufferState}
use Rattle.fl_flash.specs.Flash.{FlashState}
use Rattle.fl_flash.specs.declared.flash.FlashFault.TheVariants.{PowerLost, Media}
use Rattle.fl_machine.specs.Reads.{is_read_fault, length_of, length_of_blob}
use Rattle.fl_machine.specs.Step.{BlobReplies}
use Rattle.fl_model.specs.Agrees.{HoldsBlob, BlobsOf}
use Rattle.fl_model.specs.Facts.{IsTable}
use Rattle.fl_model.specs.Query.{BlobState, Lost, Stands as StandsWith, blob_in, blob_of, page_stands, entry_at}
use Rattle.fl_model.specs.Record.{Plan, RowLayout, columns_len, content_per_page}
use Rattle.fl_model.specs.Row.{Row, stored_row, reference_in}
use Rattle.fl_model.specs.Spline.{lookup_limit}
use Rattle.fl_model.specs.Table as model
use Rattle.fl_model.specs.Ring.{Ring}
use Rattle.fl_model.specs.Table.{Entry}
use Rattle.fl_page.specs.Causes.{IsCaused}
use Rattle.fl_page.specs.declared.fault.ReadFault.{ReadFault}
use Rattle.fl_page.specs.declared.fault.ReadFault.TheVariants.{Flash, BadPage}
use Rattle.fl_ring.specs.Ring.{place}
use Rattle.fl_schema.specs.Schema.{row_of, layout_of_row, bytes_of}
use Rattle.fl_schema.specs.declared.row.RowRef.{RowRef}
use Rattle.fl_script.specs.Written.{Written}
use Rattle.fl_search.specs.Search.{RoseSome}
use Rattle.fl_search.proofs.Pages.{rose-after}
use Rattle.fl_table.specs.BlobAt.{has_blobs, content_in}
use Rattle.fl_table.specs.Finding.{Finds, ShowsEntry, row_of_place}
use Rattle.fl_table.specs.Look.{layout_in}
use Rattle.fl_table.specs.Standing.{Stands}
use Rattle.fl_table.specs.declared.find.RowAt.{RowAt}
use Rattle.fl_table.specs.declared.table.Table.{Table}
use Rattle.fl_var.specs.Memory.{room_in}
use Rattle.fl_var.specs.Reading as reading
use Rattle.fl_var.specs.Reading.{count_left, pages_left}
use Rattle.fl_var.specs.declared.reader.BlobReader.{BlobReader}
use Rattle.fl_words.specs.Reply as words
use Rattle.fl_words.specs.Reply.{text}
use Rattle.fl_queries.specs.BlobLine.{ShowsBytes, read_reply}
use Rattle.fl_queries.specs.BlobShown.{found_in, IfNamed, FindsBlob, NamesBlob, SaysBlob, ShowsBlob}
use Rattle.fl_queries.proofs.RowLines.{one-text}
use Rattle.fl_queries.proofs.Lookups.{found-place}

-- ---- where a blob starts

-- a row names a blob only in a table that has blobs
named-in : (blobs : Bool) (bytes : List ℕ) → IfNamed (blobs ≡ true) (found_in (cond blobs (reference_in bytes) None))
named-in false bytes = tt
named-in true bytes = by_blob (reference_in bytes)
  where
    by_blob : (o : Option BlobRef) → IfNamed (true ≡ true) (found_in o)
    by_blob None = tt
    by_blob (Some at) = refl

pub named-has : (t : Table 64 64) (row : RowRef) → layout_of_row row ≡ layout_in t → IfNamed (has_blobs t ≡ true) (found_in (row_of row).blob)
named-has t row layout =
    let same : (layout_of_row row).blobs ≡ has_blobs t = ap (λ (l : RowLayout). l.blobs) layout ∙ t.has_blobs in
    subst (λ b. IfNamed (b ≡ true) (found_in (row_of row).blob)) same (named-in (layout_of_row row).blobs (drop ((layout_of_row row).key_bytes + columns_len (layout_of_row row).columns) (bytes_of row)))

-- what the row of the entry with the key tells
pub finds-row : (plan : Plan) (table : model.Table) (key : ℕ) (buf : BufferState) (place : RowAt) (row : Row) → ShowsEntry plan table key buf place → row_of_place plan table buf place ≡ Some row → FindsBlob table key (Ok (found_in row.blob))
finds-row plan table key buf place row shows at =
    let same : row ≡ stored_row shows.entry = same_Some row (stored_row shows.entry) (sym at ∙ shows.row) in
    subst (λ (r : Row). FindsBlob table key (Ok (found_in r.blob))) (sym same) (by_blob shows.entry.kept.blob refl)
  where
    here : (i : ℕ) × (slice_get table.entries i ≡ Some shows.entry) × (shows.entry.kept.key ≡ key)
    here = found-place key table.entries shows.entry shows.found

    by_blob : (o : Option (List ℕ)) → shows.entry.kept.blob ≡ o →
        FindsBlob table key (Ok (found_in (option_map (λ bytes. record { page = shows.entry.page; offset = shows.entry.offset; length = length bytes }) o)))
    by_blob None e = (shows.entry, shows.found, e)
    by_blob (Some bytes) e = record { entry = shows.entry; found = shows.found; slot = here.0; here = here.1; bytes = bytes; blob_is = e; at_is = refl }

-- .. with no bad page
pub finds-unread : (knots : ℕ) (plan : Plan) (table : model.Table) (key before now : ℕ) (buf : BufferState) (e : ReadFault) → Finds knots plan table key before now buf (Err e) → FindsBlob table key (Err e)
finds-unread knots plan table key before now buf (Flash fault) h = tt
finds-unread knots plan table key before now buf (BadPage bad) h = h

-- ---- a reader after its opening

-- the pages on which its bytes stand, which are none where it wasn't opened
none-left : (r : BlobReader) → count_left r ≡ 0 → pages_left r ≡ 0
none-left r e = ap (λ (n : ℕ). if n == 0 then 0 else (r.end + n - 1) / room_in r.var.now) e

pub few-left : (stands : Result Bool ReadFault) (r : BlobReader) (table : model.Table) (entry : Entry) (bytes : List ℕ) (f : FlashState) (len room : ℕ) → reading.Finds table entry bytes f (reading.turned stands r) → length bytes ≡ len → pages_left r ≤ len / room + 1 →
    IfOk stands (λ stands. count_left r ≡ (if stands then len else 0)) → OnErr stands (count_left r ≡ 0) → pages_left r ≤ length_of (blob_of table entry) / room + 1
few-left (Ok true) r table entry bytes f len room finds size few left none =
    let same : len / room ≡ length_of (blob_of table entry) / room = ap (λ n. n / room) (sym size ∙ sym (ap length_of finds.0)) in
    omega (arith, few, same)
few-left (Ok false) r table entry bytes f len room finds size few left none = omega (arith, none-left r left)
few-left (Err e) r table entry bytes f len room finds size few left none = omega (arith, none-left r none)

-- the blobs of a table in its ring
blobs-of : (plan : Plan) (table : model.Table) (ring : Ring) → IsTable plan table → table.var ≡ Some ring → BlobsOf plan table ring
blobs-of plan table ring facts e = subst (λ (o : Option Ring). IfSome o (BlobsOf plan table)) e facts.agrees.blobs

pub holds-blob : (plan : Plan) (table : model.Table) (i : ℕ) (entry : Entry) (bytes : List ℕ) → IsTable plan table → slice_get table.entries i ≡ Some entry → entry.kept.blob ≡ Some bytes →
    (ring : Ring) → table.var ≡ Some ring → page_stands ring entry.page ≡ true → 0 < length bytes → HoldsBlob plan table ring entry bytes
holds-blob plan table i entry bytes facts slot blob ring is kept some = blobs-of plan table ring facts is i entry bytes slot blob some kept

-- ---- what is said of it

module _ {E : Type 0} (told now : Option (List ℕ)) (faults faults_now reads reads_now : ℕ) (result : Result (Unit {0}) E) where
  -- one reply
  pub says-one : (state : BlobState) (reply : words.Reply) → is_read_fault reply ≡ false → BlobReplies false state (reply ∷ []) → Written told now result (text reply) → SaysBlob state told now faults faults_now reads reads_now result
  says-one state reply other is wrote = record {
    rose = false;
    risen = λ t. absurd (false≢true t);
    replies = reply ∷ [];
    replied = inl is;
    wrote = subst (λ (l : List ℕ). Written told now result l) (sym (one-text reply)) wrote;
    failed = λ t. absurd (false≢true (sym other ∙ t));
  }

  pub says-gone : (state : BlobState) → state ≡ Lost → Written told now result (text words.Gone) → SaysBlob state told now faults faults_now reads reads_now result
  says-gone state is wrote = says-one state words.Gone refl (subst (λ s. BlobReplies false s (words.Gone ∷ [])) (sym is) refl) wrote

  -- the empty blob
  pub says-empty : (table : model.Table) (entry : Entry) (bytes : List ℕ) → entry.kept.blob ≡ Some bytes → length bytes ≡ 0 → Written told now result (text words.BytesEmpty) → SaysBlob (blob_of table entry) told now faults faults_now reads reads_now result
  says-empty table entry bytes blob_is none wrote = says-one (blob_of table entry) words.BytesEmpty refl (subst (λ s. BlobReplies false s (words.BytesEmpty ∷ [])) (sym is) refl) wrote
    where
      is : blob_of table entry ≡ StandsWith []
      is = ap (blob_in table entry) blob_is
          ∙ ap (λ (b : Bool). cond b (StandsWith []) (cond (unwrap_or (option_map (λ (ring : Ring). page_stands ring entry.page) table.var) false) (StandsWith bytes) Lost)) (eq-eqb (length bytes) 0 none)

  -- a page wasn't read
  pub says-unread : (state : BlobState) → Rose faults faults_now → RoseSome reads reads_now → Written told now result (text words.ReadFault) → SaysBlob state told now faults faults_now reads reads_now result
  says-unread state rose counted wrote = record {
    rose = true;
    risen = λ t. rose;
    replies = words.ReadFault ∷ [];
    replied = inr (refl, refl);
    wrote = subst (λ (l : List ℕ). Written told now result l) (sym (one-text words.ReadFault)) wrote;
    failed = λ unread. counted;
  }

  -- its bytes, which were shown since the counts of faults and reads were at these
  pub says-bytes : (state : BlobState) (bytes : List ℕ) (mid count : ℕ) → state ≡ StandsWith bytes → 1 ≤ length bytes → faults ≤ mid → (count < 2 ^ 64 - 1 → reads ≤ count) → ShowsBytes bytes told now mid faults_now count reads_now result → SaysBlob state told now faults faults_now reads reads_now result
  says-bytes state bytes mid count is some later before shows = record {
    rose = shows.rose;
    risen = λ t. let rose : Rose mid faults_now = shows.risen t in omega (arith, later, rose);
    replies = shows.replies;
    replied = inl (subst (λ s. BlobReplies shows.rose s shows.replies) (sym is) (by_bytes bytes some shows.replied));
    wrote = shows.wrote;
    failed = λ unread. rose-after reads count reads_now before (shows.failed unread);
  }
    where
      by_bytes : (bytes : List ℕ) → 1 ≤ length bytes →
          (shows.replies ≡ words.Bytes bytes ∷ []) ⊎ (IsTrue shows.rose × ((n : ℕ) × (1 ≤ n) × (n < length bytes) × (shows.replies ≡ words.Bytes (take n bytes) ∷ words.ReadFault ∷ []))) →
          BlobReplies shows.rose (StandsWith bytes) shows.replies
      by_bytes [] some h = absurd (omega (arith, some))
      by_bytes (byte ∷ bytes) some h = h

-- why the opening failed: the medium's faults rose in a read of it that is counted
pub unread-rose : (f g : FlashState) (e : ReadFault) (table : model.Table) (entry : Entry) (bytes : List ℕ) → f.is_on ≡ true → reading.IfUnread f e g → reading.Finds table entry bytes f (Err e) → Rose f.media.faults g.media.faults × RoseSome f.work.reads g.work.reads × (read_reply e ≡ words.ReadFault)
unread-rose f g (Flash PowerLost) table entry bytes on fails finds = absurd (false≢true (sym fails ∙ on))
unread-rose f g (Flash Media) table entry bytes on fails finds = (fails.0, fails.1, refl)
unread-rose f g (BadPage bad) table entry bytes on fails finds = absurd finds

-- ---- the whole reply

-- a flash that stands for a table has pages with the content of the plan's
pub content-same : (t : Table 64 64) (f : FlashState) (first : ℕ) (plan : Plan) (table : model.Table) → Stands t f first plan table → content_in t ≡ content_per_page plan
content-same t f first plan table h = ap (λ (g : Geometry). g.page - 16) (sym h.planned.geometry)

module _ {E : Type 0} (plan : Plan) (table : model.Table) (key : ℕ) (told now : Option (List ℕ)) (faults faults_now reads reads_now : ℕ) (result : Result (Unit {0}) E) where
  -- no record has the key
  pub shows-absent : entry_at key table.entries ≡ None → Written told now result (text words.Absent) → reads_now ≤ reads + lookup_limit 64 plan table key → ShowsBlob plan table key told now faults faults_now reads reads_now result
  shows-absent none wrote most = record {
    rose = false;
    risen = λ t. absurd (false≢true t);
    replies = words.Absent ∷ [];
    replied = inl (subst (λ (o : Option Entry). MatchOption o (words.Absent ∷ [] ≡ words.Absent ∷ []) (λ entry. BlobReplies false (blob_of table entry) (words.Absent ∷ []))) (sym none) refl);
    wrote = subst (λ (l : List ℕ). Written told now result l) (sym (one-text words.Absent)) wrote;
    within = omega (arith, most);
    failed = λ t. absurd (false≢true t);
  }

  -- the record has none
  pub shows-none : (entry : Entry) → entry_at key table.entries ≡ Some entry → entry.kept.blob ≡ None → Written told now result (text words.NoBlob) → reads_now ≤ reads + lookup_limit 64 plan table key → ShowsBlob plan table key told now faults faults_now reads reads_now result
  shows-none entry found none wrote most = record {
    rose = false;
    risen = λ t. absurd (false≢true t);
    replies = words.NoBlob ∷ [];
    replied = inl (subst (λ (o : Option Entry). MatchOption o (words.NoBlob ∷ [] ≡ words.Absent ∷ []) (λ entry. BlobReplies false (blob_of table entry) (words.NoBlob ∷ []))) (sym found)
        (subst (λ s. BlobReplies false s (words.NoBlob ∷ [])) (sym (ap (blob_in table entry) none)) refl));
    wrote = subst (λ (l : List ℕ). Written told now result l) (sym (one-text words.NoBlob)) wrote;
    within = omega (arith, most);
    failed = λ t. absurd (false≢true t);
  }

  -- what is left of it was said
  pub shows-said : (at : BlobRef) (names : NamesBlob table key at) (content mid before : ℕ) → content ≡ content_per_page plan → SaysBlob (blob_of table names.entry) told now before faults_now mid reads_now result → faults ≤ before → (mid < 2 ^ 64 - 1 → reads ≤ mid) →
      mid ≤ reads + lookup_limit 64 plan table key → reads_now ≤ mid + length_of (blob_of table names.entry) / content + 2 → ShowsBlob plan table key told now faults faults_now reads reads_now result
  shows-said at names content mid before content_is says later begun first second =
      let same : length_of (blob_of table names.entry) / content ≡ length_of_blob table (entry_at key table.entries) / content_per_page plan =
      ap (λ n. n / content) (sym (ap (length_of_blob table) names.found)) ∙ ap (λ n. length_of_blob table (entry_at key table.entries) / n) content_is in
      record {
        rose = says.rose;
        risen = λ t. let rose : Rose before faults_now = says.risen t in omega (arith, later, rose);
        replies = says.replies;
        replied = elim says.replied [
          | inl is ↦ inl (subst (λ (o : Option Entry). MatchOption o (says.replies ≡ words.Absent ∷ []) (λ entry. BlobReplies says.rose (blob_of table entry) says.replies)) (sym names.found) is)
          | inr is ↦ inr is
        ];
        wrote = says.wrote;
        within = omega (arith, first, second, same);
        failed = λ unread. rose-after reads mid reads_now begun (says.failed unread);
      }

  -- a page wasn't read in the lookup
  pub shows-unread : (f g : FlashState) (e : ReadFault) → faults ≡ f.media.faults → faults_now ≡ g.media.faults → reads ≡ f.work.reads → reads_now ≡ g.work.reads → f.is_on ≡ true → IsCaused f e g → FindsBlob table key (Err e) → Written told now result (text (read_reply e)) → reads_now ≤ reads + lookup_limit 64 plan table key → ShowsBlob plan table key told now faults faults_now reads reads_now result
  shows-unread f g (Flash PowerLost) a b read read_now on cause finds wrote most = absurd (false≢true (sym cause ∙ on))
  shows-unread f g (Flash Media) a b read read_now on cause finds wrote most = record {
    rose = true;
    risen = λ t. rw (a, b) cause.0;
    replies = words.ReadFault ∷ [];
    replied = inr (refl, refl);
    wrote = subst (λ (l : List ℕ). Written told now result l) (sym (one-text words.ReadFault)) wrote;
    within = omega (arith, most);
    failed = λ unread. rw (read, read_now) cause.1;
  }
  shows-unread f g (BadPage bad) a b read read_now on cause finds wrote most = absurd finds
