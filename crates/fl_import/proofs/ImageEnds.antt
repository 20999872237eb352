-- How an import of an image ends, from how one over its flash does.
use Rattle.std.proofs.Common.{◌≡◌, ℕ, ◌<◌, ◌⊎◌, inl, inr, Bool, false, IsTrue, IfSome, Option, Some, None, List, length, refl, sym, ◌∙◌, subst, arith, find, slice_get}
use Rattle.std.proofs.lemmas.Option.{slice_get_within, none-some}
use Rattle.fl_base.specs.Causes.{Rose}
use Rattle.fl_base.proofs.Appended.{appends-none}
use Rattle.fl_base.proofs.Risen.{rose-back}
use Rattle.fl_csv.specs.declared.record.GoneBlobs.{GoneBlobs}
use Rattle.fl_csv.specs.declared.record.LineForm.{LineForm}
use Rattle.fl_flash.specs.Flash.{FlashState}
use Rattle.fl_flash.specs.Media.{MediaState}
use Rattle.fl_frame.specs.Causes.{IsUnarmed}
use Rattle.fl_image.specs.Header.{IsAccepted, IsMade}
use Rattle.fl_image.specs.Image.{IsImageOf, OnlyLooksAt}
use Rattle.fl_image.specs.Status.{is_done}
use Rattle.fl_image.specs.declared.status.ToolStatus.{ToolStatus}
use Rattle.fl_image.specs.declared.status.ToolStatus.TheVariants.{Done, InputRead, OutWrite, InputLong, NoMemory, NotImage, Device, BadImage, NoTable, BadInput, Unsound}
use Rattle.fl_model.specs.Bare.{bare}
use Rattle.fl_model.specs.Record.{Plan, Config, bytes_equal, has_var}
use Rattle.fl_model.specs.Table.{Table}
use Rattle.fl_model.proofs.Lists.{slice_get-some}
use Rattle.fl_table.specs.BlobAt.{has_blobs}
use Rattle.fl_parts.specs.Faults.{MountCausedBy}
use Rattle.fl_table.specs.Look.{layout_in}
use Rattle.fl_table.specs.Memory.{IsPlanned}
use Rattle.fl_parts.specs.declared.mount_fault.MountFault.{MountFault}
use Rattle.fl_table.specs.declared.table.Table.{Table as CodeTable}
use Rattle.fl_table.proofs.PlannedLayout.{blobs-as, columns-as}
use Rattle.fl_words.specs.Config.{Lines}
use Rattle.fl_words.specs.Medium.{IsImage}
use Rattle.fl_store.specs.FoundTable.{FindsNone}
use Rattle.fl_store.specs.Status.{mount_status}
use Rattle.fl_store.specs.Store.{IsOnMedium}
use Rattle.fl_store.specs.Tables.{AreNewTables, IsNamed, TablesStand}
use Rattle.fl_store.specs.declared.tables.Entry.{Entry}
use Rattle.fl_store.proofs.FoundTables.{by-none, nameless, not-none}
use Rattle.fl_store.proofs.TableByName.{find-first, first-named, new-named}
use Rattle.fl_store.proofs.MountEnds.{fails-seen}
use Rattle.fl_store.proofs.MountStatuses.{by-mount, mount-place, mount-rose}
use Rattle.fl_store.proofs.Named.{image-with}
use Rattle.fl_store.proofs.TablesChanged.{some-is}
use Rattle.fl_store.proofs.Worked.{Worked, worked-image, worked-rose}
use Rattle.fl_import.specs.Ends.{Told, Imports, ImportEnds, IsFormIn, IsImageFor, IsUnbegun, MayTake, StatusFits}
use Rattle.fl_import.specs.Images.{EndsOn, FormsAt, HasCauses, IsOfMounted, told_of}
use Rattle.fl_import.specs.Reading.{TakesSome}
use Rattle.fl_import.specs.Steps.{IsOfTable, IsFormOf}
use Rattle.fl_import.specs.Taken.{end_of, none_taken}
use Rattle.fl_import.specs.Taking.{EndedAs, EndedOver}
use Rattle.fl_import.specs.declared.job_end.JobEnd.{JobEnd}

-- an end of which nothing is counted
pub as-end : (P : JobEnd → Type 0) (end : JobEnd) (given status : ToolStatus) → end ≡ end_of given → given ≡ status → P (end_of status) → P end
as-end P end given status is same h = subst P (sym is) (subst (λ (s : ToolStatus). P (end_of s)) (sym same) h)

-- ---- a store was opened on the medium, which had been looked at, and closed

module _ (config : Config) (tables : List Table) (name text : List ℕ) (told : Told) (lines : Lines) (old mid new : MediaState) (f g : FlashState) (now : List Entry) (looks : OnlyLooksAt old mid) (worked : Worked lines mid new f g) (on : IsOnMedium config f) where
  rises : Rose f.media.faults g.media.faults → Rose old.faults new.faults
  rises rose = rose-back old.faults mid.faults new.faults looks.later (worked-rose lines mid new f g worked rose)

  seen : (ts : List Table) → TablesStand g (λ i. false) config.plans now ts → IsImage config new.content ts
  seen = worked-image lines mid new f g worked config on now

  imports-seen : (Left : Plan → Table → Table → Type 0) → Imports config.plans tables name told f.media.faults g.media.faults (TablesStand g (λ i. false) config.plans now) Left →
      Imports config.plans tables name told old.faults new.faults (IsImage config new.content) Left
  imports-seen Left h = record { rose = h.rose; risen = λ r. rises (h.risen r); end = h.end; did = h.did; at = h.at; found = h.found; after = h.after; left = h.left; holds = seen _ h.holds }

  pub ends-seen : (kept : Option ℕ) (status : ToolStatus) → EndsOn config.plans tables name text told f g now kept status → ImportEnds config tables name text told old.faults new.faults old.content new.content kept status
  ends-seen kept Device (rose, inl h) = inr (rises rose, inl (fails-seen config.plans tables name told.written told.written_now f.media.faults g.media.faults old.faults new.faults _ _ rises seen h.0, h.1))
  ends-seen kept Device (rose, inr h) = inr (rises rose, inr (imports-seen _ h))
  ends-seen kept NoMemory h = inr (imports-seen _ h)
  ends-seen kept NoTable h = absurd h.left
  ends-seen kept status h = imports-seen _ h

-- ---- no table was found

module _ (old new : MediaState) (name : List ℕ) (status : ToolStatus) (none : FindsNone old new name status) where
  pub early-ends : (config : Config) (tables : List Table) (text : List ℕ) (gone : GoneBlobs) (told rest : Option (List ℕ)) → IsMade config → IsTrue old.tells → IsImage config old.content tables → OnlyLooksAt old new → rest ≡ Some text →
      ImportEnds config tables name text (told_of gone none_taken told told rest) old.faults new.faults old.content new.content None status
  early-ends config tables text gone told rest made tells image looks is =
      by-none old new name (λ s. ImportEnds config tables name text (told_of gone none_taken told told rest) old.faults new.faults old.content new.content None s) status none
      (λ h. absurd (not-none old new name config made tables tells image h)) (λ h. (nameless old new name config made tables tells image h, unbegun)) (λ rose. inl (rose, unbegun)) (inl unbegun)
    where
      unbegun : IsUnbegun old.content new.content text (told_of gone none_taken told told rest) old.faults new.faults
      unbegun = (record { same = looks.content; nothing = appends-none told }, (is, refl))

  pub early-fits : (text : Option (List ℕ)) → IsTrue old.tells → StatusFits old.content name text text status
  early-fits text tells = by-none old new name (StatusFits old.content name text text) status none (λ h. h tells) (λ h. h tells) (λ rose. inl refl) (inl refl)

  pub early-undone : false ≡ is_done status
  early-undone = by-none old new name (λ s. false ≡ is_done s) status none (λ h. refl) (λ h. refl) (λ rose. refl) refl

pub form-then : (o : Option LineForm) (form : LineForm) (P : LineForm → Type 0) → IfSome o (λ given. given ≡ form) → P form → IfSome o P
form-then None form P is h = tt
form-then (Some given) form P is h = subst P (sym is) h

-- ---- over any bytes

-- a status of the table isn't one of those before it
pub not-early : {P : Type 0} (status : ToolStatus) → IsOfMounted status → (status ≡ NotImage) ⊎ (status ≡ NoTable) → P
not-early status h (inl is) = absurd (subst IsOfMounted is h)
not-early status h (inr is) = absurd (subst IsOfMounted is h)

module _ (bytes name : List ℕ) (text rest : Option (List ℕ)) (lines : Lines) (entries : List Entry) (accepted : IsAccepted lines) (image : IsImageOf bytes lines) (new : AreNewTables entries lines) (at : ℕ) (named : IsNamed entries name at) where
  abbrev At : Type 0
  At = (plan : Plan) × (slice_get lines.plans at ≡ Some plan)

  at-plan : At
  at-plan = slice_get-some lines.plans at (omega (arith, slice_get_within entries at named.entry named.here, new.as_many))

  named-own : find (λ p. bytes_equal p.name name) lines.plans ≡ Some at-plan.0
  named-own =
      let own = first-named lines.plans entries (new-named entries lines new) name at named at-plan.0 at-plan.1 in
      find-first lines.plans at name at-plan.0 at-plan.1 own.0 (λ i other lt e k. own.1 i other lt e k)

  for-own : (Until : ℕ → Bool → List ℕ → Type 0) → ((l : List ℕ) → text ≡ Some l → Until (length at-plan.0.columns) (has_var at-plan.0) l) → IsImageFor bytes name text Until
  for-own Until h = record { lines = lines; accepted = accepted; image = image; plan = at-plan.0; named = named-own; takes = h }

  pub form-own : (o : Option LineForm) → IfSome o (λ form. FormsAt form lines.plans at) → IfSome o (λ form. IsFormIn bytes name form)
  form-own None h = tt
  form-own (Some form) h =
      let is = h at-plan.0 at-plan.1 in
      record { lines = lines; accepted = accepted; image = image; plan = at-plan.0; named = named-own; columns = is.columns; blobs = is.blobs }

  -- some lines were taken, or none
  may-take : ((l : List ℕ) → text ≡ Some l → (rest ≡ Some l) ⊎ TakesSome (length at-plan.0.columns) (has_var at-plan.0) l rest) → MayTake bytes name text rest
  may-take h = by-text text refl
    where
      by-end : (l : List ℕ) → text ≡ Some l → (rest ≡ Some l) ⊎ TakesSome (length at-plan.0.columns) (has_var at-plan.0) l rest → MayTake bytes name text rest
      by-end l e (inl none) = inl (none ∙ sym e)
      by-end l e (inr some) = inr (for-own (λ columns blobs l. TakesSome columns blobs l rest) (λ k is. subst (λ (x : List ℕ). TakesSome (length at-plan.0.columns) (has_var at-plan.0) x rest) (some-is text l k e is) some))

      by-text : (t : Option (List ℕ)) → text ≡ t → MayTake bytes name text rest
      by-text None e = inr (for-own (λ columns blobs l. TakesSome columns blobs l rest) (λ l is. absurd (none-some l (sym e ∙ is))))
      by-text (Some l) e = by-end l e (h l e)

  pub fits-table : (status : ToolStatus) → IsOfMounted status → ((table : ℕ) → status ≡ BadImage table → table < length lines.plans) → ((table : ℕ) → status ≡ BadImage table → rest ≡ text) →
      ((plan : Plan) (l : List ℕ) → slice_get lines.plans at ≡ Some plan → text ≡ Some l → EndedOver (length plan.columns) (has_var plan) l rest status) → StatusFits bytes name text rest status
  fits-table (BadImage n) of bad same h = ((image-with bytes name lines entries accepted image new at named, bad n refl), same n refl)
  fits-table NoMemory of bad same h = may-take (λ l is. h at-plan.0 l at-plan.1 is)
  fits-table Device of bad same h = may-take (λ l is. h at-plan.0 l at-plan.1 is)
  fits-table NotImage of bad same h = absurd of
  fits-table NoTable of bad same h = absurd of
  fits-table Unsound of bad same h = absurd of
  fits-table status of bad same h = for-own _ (λ l is. h at-plan.0 l at-plan.1 is)

-- ---- statuses

-- the tables aren't mounted
pub mount-ended : (columns : ℕ) (blobs : Bool) (text : List ℕ) (rest : Option (List ℕ)) (bad : MountFault) (at : ℕ) → rest ≡ Some text → EndedOver columns blobs text rest (mount_status bad at)
mount-ended columns blobs text rest bad at is = by-mount (EndedOver columns blobs text rest) bad at (inl is) is

pub mount-causes : (f g : FlashState) (tables source sink : ℕ) (bad : MountFault) (at : ℕ) → IsUnarmed f → at < tables → MountCausedBy f bad g → HasCauses tables f.media.faults g.media.faults source source sink sink None (mount_status bad at)
mount-causes f g tables source sink bad at unarmed few cause = record {
  known = by-mount IsOfMounted bad at tt tt;
  device = λ is. mount-rose f g bad at unarmed is cause;
  bad = λ table is. subst (λ (n : ℕ). n < tables) (mount-place bad at table is) few;
  read = by-mount (λ s. s ≡ InputRead → Rose source source) bad at (λ is. absurd (cc is)) (λ is. absurd (cc is));
  write = by-mount (λ s. s ≡ OutWrite → Rose sink sink) bad at (λ is. absurd (cc is)) (λ is. absurd (cc is));
  later = (omega arith, omega arith);
  kept_is = by-mount (λ s. false ≡ is_done s) bad at refl refl;
}

pub mount-unread : (bad : MountFault) (at line : ℕ) → mount_status bad at ≡ BadInput line → ⊥
mount-unread bad at line = by-mount (λ s. s ≡ BadInput line → ⊥) bad at (λ is. cc is) (λ is. cc is)

-- the lines of the table were taken
pub table-bad : (status : ToolStatus) (table : ℕ) → IsOfTable status → status ≡ BadImage table → ⊥
table-bad status table of is = subst IsOfTable is of

by-table : (P : ToolStatus → Type 0) (status : ToolStatus) → IsOfTable status → P Done → P InputRead → P OutWrite → P InputLong → P NoMemory → P Device → ((n : ℕ) → P (BadInput n)) → P status
by-table P Done of done read write long memory device bad = done
by-table P InputRead of done read write long memory device bad = read
by-table P OutWrite of done read write long memory device bad = write
by-table P InputLong of done read write long memory device bad = long
by-table P NoMemory of done read write long memory device bad = memory
by-table P Device of done read write long memory device bad = device
by-table P (BadInput n) of done read write long memory device bad = bad n
by-table P status of done read write long memory device bad = absurd of

pub table-ended : (columns : ℕ) (blobs : Bool) (text : List ℕ) (rest : Option (List ℕ)) (status : ToolStatus) → IsOfTable status → EndedAs columns blobs text rest status → EndedOver columns blobs text rest status
table-ended columns blobs text rest status of =
    by-table (λ s. EndedAs columns blobs text rest s → EndedOver columns blobs text rest s) status of (λ h. h) (λ h. h) (λ h. h) (λ h. h) (λ h. inr h) (λ h. inr h) (λ n h. h)

pub of-mounted : (status : ToolStatus) → IsOfTable status → IsOfMounted status
of-mounted status of = by-table IsOfMounted status of tt tt tt tt tt tt (λ n. tt)

-- the form of the lines of a table that was made for a plan, beside its log
pub formed : (t : CodeTable 64 64) (first : ℕ) (plan : Plan) (columns : ℕ) (blobs : Bool) → IsPlanned t first (bare plan) → columns ≡ length (layout_in t).columns → blobs ≡ has_blobs t → IsFormOf (record { columns = columns; blobs = blobs }) plan
formed t first plan columns blobs planned many has = record {
  columns = many ∙ columns-as t first (bare plan) planned;
  blobs = has ∙ blobs-as t first (bare plan) planned;
}
