-- The replies to a question for the blob of a record.
use Rattle.std.specs.Prelude.{◌≡◌, ◌⊎◌, ℕ, ◌+◌, ◌≤◌, Bool, true, IsTrue, IfErr, MatchOption, Option, Some, None, Result, Ok, Err, List, [], ◌∷◌, length, slice_get}
use Rattle.fl_base.specs.Causes.{Rose}
use Rattle.fl_base.specs.declared.types.BlobRef.{BlobRef}
use Rattle.fl_flash.specs.Flash.{FlashState}
use Rattle.fl_machine.specs.Reads.{blob_limit}
use Rattle.fl_machine.specs.Step.{BlobReplies}
use Rattle.fl_model.specs.Query.{BlobState, blob_of, entry_at}
use Rattle.fl_model.specs.Record.{Plan}
use Rattle.fl_model.specs.Table as model
use Rattle.fl_frame.specs.Contents.{OnlyReads}
use Rattle.fl_page.specs.declared.fault.ReadFault.{ReadFault}
use Rattle.fl_page.specs.declared.fault.ReadFault.TheVariants.{Flash, BadPage}
use Rattle.fl_frame.specs.Reads as looking
use Rattle.fl_script.specs.Written.{Written}
use Rattle.fl_search.specs.Search.{RoseSome}
use Rattle.fl_var.specs.Reading as reading
use Rattle.fl_var.specs.Reading.{has_here, count_left, turned, Reads, IfUnread}
use Rattle.fl_var.specs.declared.reader.BlobReader.{BlobReader}
use Rattle.fl_words.specs.Reply as words
use Rattle.fl_words.specs.Reply.{texts}
use Rattle.fl_queries.specs.Listed.{ends_unread}
use Rattle.fl_queries.specs.declared.blob.BlobFound.{BlobFound}
use Rattle.fl_queries.specs.declared.blob.BlobFound.TheVariants.{NoRecord, NoBlob, At}

-- what a row tells of its blob
abbrev pub found_in : Option BlobRef → BlobFound
found_in None = NoBlob
found_in (Some at) = At at

-- where a blob is named this holds
abbrev pub IfNamed : Type 0 → BlobFound → Type 0
IfNamed P NoRecord = Unit {0}
IfNamed P NoBlob = Unit {0}
IfNamed P (At at) = P

-- the record with the key has a blob, and it starts there
pub record NamesBlob (table : model.Table) (key : ℕ) (at : BlobRef) : Type 0 where
  pub entry : model.Entry
  pub found : entry_at key table.entries ≡ Some entry
  pub slot : ℕ
  pub here : slice_get table.entries slot ≡ Some entry
  pub bytes : List ℕ
  pub blob_is : entry.kept.blob ≡ Some bytes
  pub at_is : at ≡ record { page = entry.page; offset = entry.offset; length = length bytes }

-- what a lookup finds of the blob of the record with the key; no page is bad
abbrev pub FindsBlob : model.Table → ℕ → Result BlobFound ReadFault → Type 0
FindsBlob table key (Ok NoRecord) = entry_at key table.entries ≡ None
FindsBlob table key (Ok NoBlob) = (entry : model.Entry) × (entry_at key table.entries ≡ Some entry) × (entry.kept.blob ≡ None)
FindsBlob table key (Ok (At at)) = NamesBlob table key at
FindsBlob table key (Err (Flash fault)) = Unit {0}
FindsBlob table key (Err (BadPage bad)) = ⊥

-- What is left of a blob was said, or that a page wasn't read, which is said only where the medium's faults rose. A read that
-- failed is counted.
pub record SaysBlob {E : Type 0} (state : BlobState) (told told_now : Option (List ℕ)) (faults faults_now reads reads_now : ℕ) (result : Result (Unit {0}) E) : Type 0 where
  pub rose : Bool
  pub risen : IsTrue rose → Rose faults faults_now
  pub replies : List words.Reply
  pub replied : BlobReplies rose state replies ⊎ (IsTrue rose × (replies ≡ words.ReadFault ∷ []))
  pub wrote : Written told told_now result (texts replies)
  pub failed : IsTrue (ends_unread replies) → RoseSome reads reads_now

-- The blob of an entry, which has bytes, was opened so over a flash in a state, and the flash is in another one now.
pub record WasOpened (table : model.Table) (entry : model.Entry) (bytes : List ℕ) (f g : FlashState) (stands : Result Bool ReadFault) (reader : BlobReader) : Type 0 where
  pub some : 1 ≤ length bytes
  pub only : looking.OnlyReads f 1 g
  pub counts : OnlyReads f g
  pub ready : stands ≡ Ok true → Reads reader f
  pub here : stands ≡ Ok true → has_here reader ≡ true
  pub counted : stands ≡ Ok true → count_left reader ≡ length bytes
  pub finds : reading.Finds table entry bytes f (turned stands reader)
  pub fails : IfErr stands (λ e. IfUnread f e g)

-- What is left of the blob of the record with the key was said, or that there is none, or that a page wasn't read. The count of
-- reads rose by no more than the limit, and a read that failed is counted.
pub record ShowsBlob {E : Type 0} (plan : Plan) (table : model.Table) (key : ℕ) (told told_now : Option (List ℕ)) (faults faults_now reads reads_now : ℕ) (result : Result (Unit {0}) E) : Type 0 where
  pub rose : Bool
  pub risen : IsTrue rose → Rose faults faults_now
  pub replies : List words.Reply
  pub replied : MatchOption (entry_at key table.entries) (replies ≡ words.Absent ∷ []) (λ entry. BlobReplies rose (blob_of table entry) replies) ⊎ (IsTrue rose × (replies ≡ words.ReadFault ∷ []))
  pub wrote : Written told told_now result (texts replies)
  pub within : reads_now ≤ reads + blob_limit 64 plan table key
  pub failed : IsTrue (ends_unread replies) → RoseSome reads reads_now
