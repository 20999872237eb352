-- One line of an import over a table that is mounted.
use Rattle.std.proofs.Common.{None, ◌≡◌, ℕ, ◌⊎◌, inl, inr, Bool, false, IsErr, IfErr, Option, Some, Result, Ok, Err, List, [], ◌++◌, refl, sym, ◌∙◌, ap, subst, true≢false}
use Rattle.std.proofs.lemmas.Option.{none-some}
use Rattle.fl_base.specs.Causes.{Rose, Appends, AppendsFront}
use Rattle.fl_base.specs.declared.stream.SinkFailed.{SinkFailed}
use Rattle.fl_base.proofs.Appended.{appends-none, front-more}
use Rattle.fl_csv.specs.declared.record.GoneBlobs.{GoneBlobs}
use Rattle.fl_csv.specs.declared.record.CsvRefusal.{CsvRefusal}
use Rattle.fl_csv.specs.declared.record.CsvRefusal.TheVariants as unread
use Rattle.fl_frame.proofs.WatchedInTurn.{never-lost}
use Rattle.fl_store.proofs.Risen.{has_risen}
use Rattle.fl_flash.specs.Flash.{FlashState, Goes}
use Rattle.fl_flash.specs.declared.flash.FlashFault.{FlashFault}
use Rattle.fl_flash.specs.declared.flash.FlashFault.TheVariants.{PowerLost, Media}
use Rattle.fl_frame.specs.Causes.{IsUnarmed}
use Rattle.fl_image.specs.declared.status.ToolStatus.{ToolStatus}
use Rattle.fl_image.specs.declared.status.ToolStatus.TheVariants.{OutWrite, NoMemory, Device}
use Rattle.fl_machine.specs.Step.{refused}
use Rattle.fl_model.specs.Record.{Record, Plan}
use Rattle.fl_model.specs.Table as model
use Rattle.fl_model.specs.Table.{refusal_of, put_record, Refusal, BadKey, BadColumns, BadValue, BadBlob, Spent}
use Rattle.fl_model.specs.Puts.{TablePuts}
use Rattle.fl_model.specs.Work as work
use Rattle.fl_model.specs.Work.{PartProgress}
use Rattle.fl_script.specs.Written.{Written}
use Rattle.fl_script.proofs.SinkPieces.{written-err, written-behind}
use Rattle.fl_rlc.specs.Outcomes.{PutEnds, Breaks}
use Rattle.fl_rlc.specs.Refusal.{RefusedSame}
use Rattle.fl_table.specs.Causes.{PutCausedBy}
use Rattle.fl_rlc.specs.declared.table.LoggedTable.{LoggedTable}
use Rattle.fl_table.specs.declared.faults.PutRefusal.{PutRefusal}
use Rattle.fl_table.specs.declared.faults.PutRefusal.TheVariants as refusal
use Rattle.fl_store.specs.Replies.{put_reply}
use Rattle.fl_words.specs.Reply.{Reply, text}
use Rattle.fl_words.specs.Grammar.{without_return}
use Rattle.fl_csv.specs.Lines.{line_put}
use Rattle.fl_import.specs.Counting.{put_end}
use Rattle.fl_import.specs.Lines.{meaning}
use Rattle.fl_import.specs.Report.{number_text, reason_line}
use Rattle.fl_import.specs.Steps.{LineEnds, by_told, fault_in, is_unread}
use Rattle.fl_import.specs.declared.line_end.LineEnd.{LineEnd}
use Rattle.fl_store.specs.Works.{Works}
use Rattle.fl_store.proofs.Failing.{put-work}
use Rattle.fl_store.proofs.Works.{works-broken, works-done, works-uncut}

pub not-device : NoMemory ≡ Device → ⊥
not-device e = cc

pub not-written : Device ≡ OutWrite → ⊥
not-written e = cc

-- the medium failed in a put that is told so
pub put-rose : (f g : FlashState) (outcome : Result (Unit {0}) PutRefusal) (fault : FlashFault) → IsUnarmed f → fault_in outcome ≡ Some fault → IfErr outcome (λ e. PutCausedBy f e g) → Rose f.media.faults g.media.faults
put-rose f g (Err (refusal.Flash Media)) fault unarmed breaks cause = cause
put-rose f g (Err (refusal.Flash PowerLost)) fault unarmed breaks cause = absurd (never-lost f g unarmed cause)
put-rose f g outcome fault unarmed breaks cause = absurd (none-some fault breaks)

pub one-status : (a b : ToolStatus) → ◌≡◌ {A = Result LineEnd ToolStatus} (Err a) (Err b) → a ≡ b
one-status a b e = cc

-- ---- two texts, one behind the other

pub told-front : {E : Type 0} (a b : Option (List ℕ)) (result : Result (Unit {0}) E) (first then written : List ℕ) → IsErr result → written ≡ first → AppendsFront a b written → Written a b result (first ++ then)
told-front a b result first then written err is front = written-err a b result (first ++ then) err (front-more a b first then (subst (λ l. AppendsFront a b l) is front))

pub told-behind : {E : Type 0} (a b c : Option (List ℕ)) (result : Result (Unit {0}) E) (first then written reply : List ℕ) → written ≡ first → Appends a b written → reply ≡ then → Written b c result reply → Written a c result (first ++ then)
told-behind a b c result first then written reply is wrote same more = written-behind a b c first then result (subst (λ l. Appends a b l) is wrote) (subst (λ l. Written b c result l) same more)

-- ---- a line that is refused

pub means-either : (gone : GoneBlobs) (columns : ℕ) (blobs : Bool) (line read : List ℕ) (why : CsvRefusal) → read ≡ without_return line → (why ≡ unread.NoMemory) ⊎ (line_put gone columns blobs read ≡ Err why) → (why ≡ unread.NoMemory) ⊎ (meaning gone columns blobs line ≡ Err why)
means-either gone columns blobs line read why is (inl none) = inl none
means-either gone columns blobs line read why is (inr means) = inr (ap (line_put gone columns blobs) (sym is) ∙ means)

pub told-device : {P : Type 0} (told : Result (Unit {0}) SinkFailed) → by_told told ≡ Err Device → P
told-device (Ok done) is = absurd (cc is)
told-device (Err failed) is = absurd (cc is)

module _ (first : ℕ) (plan : Plan) (table : model.Table) (t u : LoggedTable 64 64) (f g : FlashState) (works : Works t f first plan table) where
  works-same : u ≡ t → g ≡ f → Works u g first plan table
  works-same e k = subst (λ (x : FlashState). Works u x first plan table) (sym k) (subst (λ (x : LoggedTable 64 64). Works x f first plan table) (sym e) works)

  module _ (lacking : Bool) (number : ℕ) (told told_now : Option (List ℕ)) where
    -- the line is no record
    pub ends-reason : (put : Result Record CsvRefusal) (why : CsvRefusal) → is_unread why ≡ false → (why ≡ unread.NoMemory) ⊎ (put ≡ Err why) → u ≡ t → g ≡ f → (wrote : Result (Unit {0}) SinkFailed) → Written told told_now wrote (reason_line number why) → LineEnds lacking first plan table number put u g told told_now (by_told wrote)
    ends-reason put why other (inl none) e k wrote written = absurd (true≢false (sym (ap is_unread none) ∙ other))
    ends-reason put why other (inr is) e k (Ok done) written =
        rw is (refl, works-same e k, written)
    ends-reason put why other (inr is) e k (Err fault) written =
        rw is (works-same e k, written)

    pub ends-memory : (put : Result Record CsvRefusal) → u ≡ t → g ≡ f → told_now ≡ told → LineEnds lacking first plan table number put u g told told_now (Err NoMemory)
    ends-memory put e k same = (works-same e k, subst (λ (o : Option (List ℕ)). Appends told o []) (sym same) (appends-none told))

    -- the table refuses it
    ends-refused : (put : Result Record CsvRefusal) (item : Record) (why : Refusal) (reply : Reply) → put ≡ Ok item → refusal_of plan table item ≡ Some why → reply ≡ refused why → u ≡ t → g ≡ f → (wrote : Result (Unit {0}) SinkFailed) →
        Written told told_now wrote (number_text number ++ text reply) → LineEnds lacking first plan table number put u g told told_now (by_told wrote)
    ends-refused put item why reply is by same e k (Ok done) written =
        rw (is, by) (refl, works-same e k, subst (λ (r : Reply). Appends told told_now (number_text number ++ text r)) same written)
    ends-refused put item why reply is by same e k (Err fault) written =
        rw (is, by) (works-same e k, subst (λ (r : Reply). AppendsFront told told_now (number_text number ++ text r)) same written)

    module _ (put : Result Record CsvRefusal) (item : Record) (is : put ≡ Ok item) where
      abbrev DidPut : Bool → work.Device → PartProgress model.Table → Type 0
      DidPut rose device now = TablePuts plan rose item device table now

      pub ends-put : Goes f g → told_now ≡ told → PutEnds first plan item table (has_risen f g) works.device (Ok tt) u f g → LineEnds lacking first plan table number put u g told told_now (Ok (put_end lacking))
      ends-put goes same ends =
          rw (is, ends.0) (refl, works-done first plan table t u f g works DidPut (put-work plan item table) goes (put_record plan item table) ends.1, subst (λ (o : Option (List ℕ)). Appends told o []) (sym same) (appends-none told))

      broken-by : (fault : FlashFault) → told_now ≡ told → refusal_of plan table item ≡ None → Breaks first plan (DidPut (has_risen f g) works.device) fault g →
          LineEnds lacking first plan table number put u g told told_now (Err Device)
      broken-by Media same accepted ends =
          let b = works-broken first plan table t u f g works DidPut (put-work plan item table) Media ends in
          (subst (λ (o : Option (List ℕ)). Appends told o []) (sym same) (appends-none told), (item, is, accepted, (b.after, b.fails, b.rests)))
      broken-by PowerLost same accepted ends = absurd (works-uncut first plan table t u f g works DidPut (put-work plan item table) ends)

      pub ends-broken : (outcome : Result (Unit {0}) PutRefusal) (fault : FlashFault) → fault_in outcome ≡ Some fault → told_now ≡ told → PutEnds first plan item table (has_risen f g) works.device outcome u f g →
          LineEnds lacking first plan table number put u g told told_now (Err Device)
      ends-broken (Err (refusal.Flash own)) fault breaks same ends = broken-by own same ends.0 ends.1
      ends-broken outcome fault breaks same ends = absurd (none-some fault breaks)

      pub ends-told : (why : PutRefusal) → fault_in (Err why) ≡ None → PutEnds first plan item table (has_risen f g) works.device (Err why) u f g → RefusedSame t f why u g →
          (wrote : Result (Unit {0}) SinkFailed) → Written told told_now wrote (number_text number ++ text (put_reply (Err why))) → LineEnds lacking first plan table number put u g told told_now (by_told wrote)
      ends-told (refusal.Flash fault) other ends same wrote written = absurd (none-some fault (sym other))
      ends-told (refusal.Key last) other ends same wrote written = ends-refused put item (BadKey last) (put_reply (Err (refusal.Key last))) is ends refl same.0 same.1 wrote written
      ends-told (refusal.Columns wanted) other ends same wrote written = ends-refused put item (BadColumns wanted) (put_reply (Err (refusal.Columns wanted))) is ends refl same.0 same.1 wrote written
      ends-told (refusal.Value column) other ends same wrote written = ends-refused put item (BadValue column) (put_reply (Err (refusal.Value column))) is ends refl same.0 same.1 wrote written
      ends-told (refusal.Blob limit) other ends same wrote written = ends-refused put item (BadBlob limit) (put_reply (Err (refusal.Blob limit))) is ends refl same.0 same.1 wrote written
      ends-told refusal.Spent other ends same wrote written = ends-refused put item Spent (put_reply (Err refusal.Spent)) is ends refl same.0 same.1 wrote written
      ends-told refusal.Stopped other ends same wrote written = absurd ends
