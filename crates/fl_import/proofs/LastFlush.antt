-- The flush behind the lines of an import.
use Rattle.std.proofs.Common.{◌≡◌, ℕ, ◌-◌, ◌≤◌, ◌==◌, ◌&&◌, inl, inr, Bool, true, false, nat_lt, if◌then◌else◌, IfOk, IfErr, Option, Result, Ok, Err, List, [], ◌∷◌, ◌++◌, length, length-take, refl, sym, ◌∙◌, ap, subst, arith}
use Rattle.std.proofs.lemmas.Bool.{eqb-true, true≢false, false≢true}
use Rattle.fl_base.specs.Causes.{Rose, Appends, AppendsFront}
use Rattle.fl_base.proofs.Risen.{rose-back}
use Rattle.fl_csv.specs.declared.record.GoneBlobs.{GoneBlobs}
use Rattle.fl_import.specs.declared.job_end.LinesTaken.{LinesTaken}
use Rattle.fl_store.proofs.Risen.{has_risen}
use Rattle.fl_flash.specs.Flash.{FlashState, Goes}
use Rattle.fl_flash.specs.declared.flash.FlashFault.TheVariants.{PowerLost, Media}
use Rattle.fl_frame.proofs.WatchedInTurn.{never-lost}
use Rattle.fl_frame.specs.Causes.{IsUnarmed}
use Rattle.fl_image.specs.declared.status.ToolStatus.{ToolStatus}
use Rattle.fl_image.specs.declared.status.ToolStatus.TheVariants.{Done, InputRead, OutWrite, InputLong, NoMemory, Device, BadInput}
use Rattle.fl_model.specs.Record.{Plan}
use Rattle.fl_model.specs.Table as model
use Rattle.fl_model.specs.Work as work
use Rattle.fl_model.specs.Work.{PartProgress}
use Rattle.fl_model.specs.Record.{entries_per_page, has_index}
use Rattle.fl_model.specs.Table.{RingName, DataRing, IndexRing, VarRing, after_seal, after_seals, fill, table_seals, flushed, lose}
use Rattle.fl_table.specs.Causes.{FlushCausedBy}
use Rattle.fl_parts.specs.Failing.{BySeals}
use Rattle.fl_rlc.specs.Logged.{Rests, Stands}
use Rattle.fl_rlc.specs.Outcomes.{FlushEnds}
use Rattle.fl_rlc.specs.declared.table.LoggedTable.{LoggedTable}
use Rattle.fl_table.specs.declared.faults.FlushFault.{FlushFault}
use Rattle.fl_table.specs.declared.faults.FlushFault.TheVariants as flush
use Rattle.fl_store.proofs.TablesChanged.{off-rests}
use Rattle.fl_import.specs.Counting.{count_text}
use Rattle.fl_import.specs.Ends.{Leaves, Flushes, table_after}
use Rattle.fl_import.specs.Images.{told_of}
use Rattle.fl_import.specs.Reading.{TakesSome, TakesUntil}
use Rattle.fl_import.specs.Steps.{AllEnds, LinesEnd, IsOfLines, IsOfTable, TableEnds, TellsCounts, flush_status, is_broken, status_of}
use Rattle.fl_import.specs.Taking.{Ended, EndedAs}
use Rattle.fl_store.proofs.Failing.{seals-work}
use Rattle.fl_store.proofs.Works.{works-broken, works-done, works-uncut}
use Rattle.fl_import.proofs.OneLine.{not-device}

-- ---- what holds of each of the statuses

-- of lines that aren't taken to their end
by-lines : (P : ToolStatus → Type 0) (status : ToolStatus) → IsOfLines status → P InputRead → P OutWrite → P InputLong → P NoMemory → P Device → ((number : ℕ) → P (BadInput number)) → P status
by-lines P InputRead of read write long memory device bad = read
by-lines P OutWrite of read write long memory device bad = write
by-lines P InputLong of read write long memory device bad = long
by-lines P NoMemory of read write long memory device bad = memory
by-lines P Device of read write long memory device bad = device
by-lines P (BadInput number) of read write long memory device bad = bad number
by-lines P status of read write long memory device bad = absurd of

-- .. and once it is told how many were put
module _ (gone : GoneBlobs) (counts : LinesTaken) (told told_now : Option (List ℕ)) (faults faults_now : ℕ) where
  abbrev Tells : ToolStatus → Type 0
  Tells status = TellsCounts gone counts told told_now faults faults_now status

  by-counts : (P : ToolStatus → Type 0) (status : ToolStatus) → Tells status → (Tells Done → P Done) → (Tells OutWrite → P OutWrite) → P status
  by-counts P Done tells done write = done tells
  by-counts P OutWrite tells done write = write tells
  by-counts P status tells done write = absurd tells

-- ---- nothing is pending after a flush

sealed-idle : (plan : Plan) (names : List RingName) (table : model.Table) → (after_seals plan (names ++ DataRing ∷ []) table).pending ≡ 0
sealed-idle plan [] table = refl
sealed-idle plan (name ∷ names) table = sealed-idle plan names (after_seal plan name table)

flushed-idle : (plan : Plan) (table : model.Table) → (flushed plan table).pending ≡ 0
flushed-idle plan table = by-test (table.pending == 0) refl
  where
    bitmaps : List RingName
    bitmaps = if has_index plan && (length table.waiting == entries_per_page plan) then IndexRing ∷ [] else []

    blobs : List RingName
    blobs = if nat_lt 0 (fill table) then VarRing ∷ [] else []

    by-test : (b : Bool) → (table.pending == 0) ≡ b → (after_seals plan (if b then [] else bitmaps ++ blobs ++ DataRing ∷ []) table).pending ≡ 0
    by-test true is = eqb-true table.pending 0 is
    by-test false is = sealed-idle plan (bitmaps ++ blobs) table

-- .. so that the medium holds all of its records
pub flushed-whole : (plan : Plan) (table : model.Table) → length (lose (flushed plan table)).entries ≡ length (flushed plan table).entries
flushed-whole plan table =
    let entries = (flushed plan table).entries in
    length-take (length entries - (flushed plan table).pending) entries ∙ omega (arith, flushed-idle plan table)

-- ---- a put that failed stops the import

pub failed-ends : (gone : GoneBlobs) (counts : LinesTaken) (first : ℕ) (plan : Plan) (table : model.Table) (text : List ℕ) (u : LoggedTable 64 64) (g : FlashState) (told told_now rest : Option (List ℕ)) → AllEnds gone counts first plan table text u g told told_now rest (Err Device) →
    TableEnds first plan table text u g (told_of gone counts told told_now rest) Device
failed-ends gone counts first plan table text u g told told_now rest fails = record { after = fails.after; leaves = inl fails.fails; rests = fails.rests; stands = λ e. absurd (subst IsOfLines e tt) }

module _ (gone : GoneBlobs) (counts : LinesTaken) (first : ℕ) (plan : Plan) (table : model.Table) (text : List ℕ) (u v : LoggedTable 64 64) (g h : FlashState) (told told_mid told_now rest : Option (List ℕ)) where
  -- the table goes on behind the lines
  abbrev pub goes-on : (taken : Result (Unit {0}) ToolStatus) → is_broken taken ≡ false → AllEnds gone counts first plan table text u g told told_mid rest taken → LinesEnd gone counts first plan table text u g told told_mid rest (status_of taken)
  goes-on (Err Device) other ends = absurd (true≢false other)
  goes-on taken other ends = ends

  module _ (taken : Result (Unit {0}) ToolStatus) (other : is_broken taken ≡ false) (ends : AllEnds gone counts first plan table text u g told told_mid rest taken) where
    abbrev pub lines : LinesEnd gone counts first plan table text u g told told_mid rest (status_of taken)
    lines = goes-on taken other ends

    abbrev pub then_table : model.Table
    then_table = table_after gone plan table lines.puts.taken

    abbrev DidFlush : Bool → work.Device → PartProgress model.Table → Type 0
    DidFlush rose device now = BySeals plan (table_seals plan then_table) then_table rose device now

    pub flush-broken : (fault : FlushFault) → FlushEnds first plan then_table (has_risen g h) lines.works.device (Err fault) v g h → TableEnds first plan table text v h (told_of gone counts told told_mid rest) (flush_status fault)
    flush-broken (flush.Flash Media) flushes =
        let b = works-broken first plan then_table u v g h lines.works DidFlush (seals-work plan (table_seals plan then_table) then_table) Media flushes in
        record { after = b.after; leaves = inr (record { status = status_of taken; puts = lines.puts; fails = b.fails }); rests = b.rests; stands = λ e. absurd (subst IsOfLines e tt) }
    flush-broken (flush.Flash PowerLost) flushes = absurd (works-uncut first plan then_table u v g h lines.works DidFlush (seals-work plan (table_seals plan then_table) then_table) flushes)
    flush-broken flush.Stopped flushes = absurd flushes

    abbrev pub after : model.Table
    after = flushed plan then_table

    pub stood : Goes g h → FlushEnds first plan then_table (has_risen g h) lines.works.device (Ok tt) v g h → Stands v h first plan after
    stood goes flushes = (works-done first plan then_table u v g h lines.works DidFlush (seals-work plan (table_seals plan then_table) then_table) goes after flushes).stands

    pub rested : Goes g h → FlushEnds first plan then_table (has_risen g h) lines.works.device (Ok tt) v g h → Rests h first plan (lose after)
    rested goes flushes = off-rests v h first plan after true (stood goes flushes)

  pub flush-told : (done : Unit {0}) (d : AllEnds gone counts first plan table text u g told told_mid rest (Ok done)) → Goes g h → FlushEnds first plan (then_table (Ok done) refl d) (has_risen g h) (lines (Ok done) refl d).works.device (Ok tt) v g h →
      (faults faults_now : ℕ) (status : ToolStatus) → TellsCounts gone counts told_mid told_now faults faults_now status → TableEnds first plan table text v h (told_of gone counts told told_now rest) status
  flush-told done d goes flushes faults faults_now status tells =
      by-counts gone counts told_mid told_now faults faults_now (TableEnds first plan table text v h (told_of gone counts told told_now rest)) status tells
      (λ t. record {
        after = after (Ok done) refl d;
        leaves = record { written_then = told_mid; puts = d.puts; after_is = refl; counts = subst (λ c. Appends told_mid told_now (count_text gone c)) d.puts.counted t };
        rests = rested (Ok done) refl d goes flushes;
        stands = λ e. stood (Ok done) refl d goes flushes;
      })
      (λ t. record {
        after = after (Ok done) refl d;
        leaves = inr (record { written_then = told_mid; puts = d.puts; after_is = refl; counts = subst (λ c. AppendsFront told_mid told_now (count_text gone c)) d.puts.counted t.0 });
        rests = rested (Ok done) refl d goes flushes;
        stands = λ e. absurd (subst IsOfLines e tt);
      })

-- the lines weren't taken to their end
pub flush-status : (gone : GoneBlobs) (counts : LinesTaken) (first : ℕ) (plan : Plan) (table : model.Table) (text : List ℕ) (u v : LoggedTable 64 64) (g h : FlashState) (told told_now rest : Option (List ℕ)) (status : ToolStatus) → IsOfLines status → (other : is_broken (Err status) ≡ false) →
    (ends : AllEnds gone counts first plan table text u g told told_now rest (Err status)) → Goes g h →
    FlushEnds first plan (then_table gone counts first plan table text u v g h told told_now told_now rest (Err status) other ends) (has_risen g h) (lines gone counts first plan table text u v g h told told_now told_now rest (Err status) other ends).works.device (Ok tt) v g h →
    TableEnds first plan table text v h (told_of gone counts told told_now rest) status
flush-status gone counts first plan table text u v g h told told_now rest status of other ends goes flushes = record {
  after = after gone counts first plan table text u v g h told told_now told_now rest (Err status) other ends;
  leaves = by-status status of (λ e. not-broken e) (record { puts = (lines gone counts first plan table text u v g h told told_now told_now rest (Err status) other ends).puts; after_is = refl });
  rests = rested gone counts first plan table text u v g h told told_now told_now rest (Err status) other ends goes flushes;
  stands = λ e. absurd (subst IsOfLines e of);
}
  where
    not-broken : status ≡ Device → ⊥
    not-broken e = let no = sym other ∙ ap (λ (s : ToolStatus). is_broken (Err s)) e in cc

    by-status : (status : ToolStatus) {x : model.Table} → IsOfLines status → (status ≡ Device → ⊥) → Flushes plan table text (told_of gone counts told told_now rest) x status → Leaves plan table text (told_of gone counts told told_now rest) x status
    by-status status {x} of =
        by-lines (λ s. (s ≡ Device → ⊥) → Flushes plan table text (told_of gone counts told told_now rest) x s → Leaves plan table text (told_of gone counts told told_now rest) x s) status of
        (λ other l. l) (λ other l. inl l) (λ other l. l) (λ other l. l) (λ other l. absurd (other refl)) (λ n other l. l)

-- the lines of the import, by its status
pub ended-as : (columns : ℕ) (blobs : Bool) (text : List ℕ) (rest : Option (List ℕ)) (status : ToolStatus) → IsOfLines status → Ended columns blobs text rest status → EndedAs columns blobs text rest status
ended-as columns blobs text rest status of =
    by-lines (λ s. Ended columns blobs text rest s → EndedAs columns blobs text rest s) status of (λ h. h) (λ h. inl h) (λ h. h) (λ h. h) (λ h. h) (λ n h. h)

-- .. and where the flush fails
some-until : (columns : ℕ) (blobs : Bool) (text : List ℕ) (rest : Option (List ℕ)) (status : ToolStatus) → TakesUntil columns blobs text rest status → TakesSome columns blobs text rest
some-until columns blobs text rest status h = record { taken = h.taken; left = h.left; takes = h.takes; few = h.few }

some-taken : (columns : ℕ) (blobs : Bool) (text : List ℕ) (rest : Option (List ℕ)) (status : ToolStatus) → Ended columns blobs text rest status → TakesSome columns blobs text rest
some-taken columns blobs text rest Device h = h
some-taken columns blobs text rest NoMemory h = h
some-taken columns blobs text rest status h = some-until columns blobs text rest status h

pub flush-ended : (columns : ℕ) (blobs : Bool) (text : List ℕ) (rest : Option (List ℕ)) (taken : Result (Unit {0}) ToolStatus) (fault : FlushFault) → Ended columns blobs text rest (status_of taken) → EndedAs columns blobs text rest (flush_status fault)
flush-ended columns blobs text rest taken (flush.Flash fault) h = some-taken columns blobs text rest (status_of taken) h
flush-ended columns blobs text rest taken flush.Stopped h = some-taken columns blobs text rest (status_of taken) h

-- a flush that fails
pub flush-of : (fault : FlushFault) → IsOfTable (flush_status fault)
flush-of (flush.Flash fault) = tt
flush-of flush.Stopped = tt

pub flush-rose : (g h : FlashState) (fault : FlushFault) → IsUnarmed g → FlushCausedBy g fault h → flush_status fault ≡ Device → Rose g.media.faults h.media.faults
flush-rose g h (flush.Flash Media) unarmed cause is = cause
flush-rose g h (flush.Flash PowerLost) unarmed cause is = absurd (never-lost g h unarmed cause)
flush-rose g h flush.Stopped unarmed cause is = absurd (not-device is)

pub flush-read : (fault : FlushFault) → flush_status fault ≡ InputRead → ⊥
flush-read (flush.Flash fault) is = cc is
flush-read flush.Stopped is = cc is

pub flush-write : (fault : FlushFault) → flush_status fault ≡ OutWrite → ⊥
flush-write (flush.Flash fault) is = cc is
flush-write flush.Stopped is = cc is

pub broken-is : (taken : Result (Unit {0}) ToolStatus) → is_broken taken ≡ true → taken ≡ Err Device
broken-is (Err Device) is = refl
broken-is taken is = cc

-- ---- the table was flushed, and it was told how many lines were put, where they were taken to their end

module _ {X : Type 0} (gone : GoneBlobs) (counts : LinesTaken) (written : X → Option (List ℕ)) (faults : X → ℕ) (start mid now : X) (result : ToolStatus) where
  abbrev pub Untold : ToolStatus → Type 0
  Untold status = (result ≡ status) × (now ≡ mid)

  abbrev pub Told? : Unit {0} → Type 0
  Told? all = TellsCounts gone counts (written mid) (written now) (faults mid) (faults now) result

  pub all-ends : (first : ℕ) (plan : Plan) (table : model.Table) (text : List ℕ) (u v : LoggedTable 64 64) (g h : FlashState) (rest : Option (List ℕ)) (taken : Result (Unit {0}) ToolStatus) (other : is_broken taken ≡ false) (ends : AllEnds gone counts first plan table text u g (written start) (written mid) rest taken) →
      IfErr taken IsOfLines → IfErr taken Untold → IfOk taken Told? → Goes g h →
      FlushEnds first plan (then_table gone counts first plan table text u v g h (written start) (written mid) (written now) rest taken other ends) (has_risen g h) (lines gone counts first plan table text u v g h (written start) (written mid) (written now) rest taken other ends).works.device (Ok tt) v g h →
      TableEnds first plan table text v h (told_of gone counts (written start) (written now) rest) result
  all-ends first plan table text u v g h rest (Ok done) other ends of none tells goes flushes =
      flush-told gone counts first plan table text u v g h (written start) (written mid) (written now) rest done ends goes flushes (faults mid) (faults now) result tells
  all-ends first plan table text u v g h rest (Err status) other ends of none tells goes flushes =
      subst (λ (s : ToolStatus). TableEnds first plan table text v h (told_of gone counts (written start) (written now) rest) s) (sym none.0)
      (subst (λ (x : X). TableEnds first plan table text v h (told_of gone counts (written start) (written x) rest) status) (sym none.1)
      (flush-status gone counts first plan table text u v g h (written start) (written mid) rest status of other ends goes flushes))

  pub all-ended : (columns : ℕ) (blobs : Bool) (text : List ℕ) (rest : Option (List ℕ)) (taken : Result (Unit {0}) ToolStatus) → IfErr taken IsOfLines → IfErr taken Untold → IfOk taken Told? → Ended columns blobs text rest (status_of taken) → EndedAs columns blobs text rest result
  all-ended columns blobs text rest (Ok all) of none tells ended = by-counts gone counts (written mid) (written now) (faults mid) (faults now) (EndedAs columns blobs text rest) result tells (λ t. ended) (λ t. inr ended)
  all-ended columns blobs text rest (Err status) of none tells ended = subst (λ (s : ToolStatus). EndedAs columns blobs text rest s) (sym none.0) (ended-as columns blobs text rest status of ended)

  pub all-of : (taken : Result (Unit {0}) ToolStatus) → IfErr taken IsOfLines → IfErr taken Untold → IfOk taken Told? → IsOfTable result
  all-of (Ok all) of none tells = by-counts gone counts (written mid) (written now) (faults mid) (faults now) IsOfTable result tells (λ t. tt) (λ t. tt)
  all-of (Err status) of none tells = subst IsOfTable (sym none.0) (by-lines IsOfTable status of tt tt tt tt tt (λ n. tt))

  pub all-rose : (f g : ℕ) → (taken : Result (Unit {0}) ToolStatus) → IfErr taken Untold → IfOk taken Told? → is_broken taken ≡ false → result ≡ Device → Rose f g
  all-rose f g (Ok all) none tells other is = absurd (subst (λ (s : ToolStatus). TellsCounts gone counts (written mid) (written now) (faults mid) (faults now) s) is tells)
  all-rose f g (Err status) none tells other is = let no = sym other ∙ ap (λ (s : ToolStatus). is_broken (Err s)) (sym none.0 ∙ is) in absurd (false≢true no)

  pub all-read : {P : Type 0} (taken : Result (Unit {0}) ToolStatus) → IfErr taken Untold → IfOk taken Told? → (taken ≡ Err InputRead → P) → result ≡ InputRead → P
  all-read (Ok all) none tells read is = absurd (subst (λ (s : ToolStatus). TellsCounts gone counts (written mid) (written now) (faults mid) (faults now) s) is tells)
  all-read (Err status) none tells read is = read (ap (λ (s : ToolStatus). Err s) (sym none.0 ∙ is))

  pub all-write : (taken : Result (Unit {0}) ToolStatus) → IfErr taken Untold → IfOk taken Told? → faults start ≤ faults mid → (taken ≡ Err OutWrite → Rose (faults start) (faults mid)) → result ≡ OutWrite → Rose (faults start) (faults now)
  all-write (Ok all) none tells later write is =
      rose-back (faults start) (faults mid) (faults now) later (subst (λ (s : ToolStatus). TellsCounts gone counts (written mid) (written now) (faults mid) (faults now) s) is tells).1
  all-write (Err status) none tells later write is = subst (λ (x : X). Rose (faults start) (faults x)) (sym none.1) (write (ap (λ (s : ToolStatus). Err s) (sym none.0 ∙ is)))
