-- Readers of a table's blobs, over a flash on which the table lies.
use Rattle.std.proofs.Common.{◌≡◌, ℕ, ◌+◌, ◌-◌, Bool, true, IsTrue, Option, Some, None, Result, Ok, List, length, take, drop, sym, ◌∙◌, ap, subst, IfOk, IfSome, is_some, option_map, unwrap_or}
use Rattle.std.proofs.lemmas.Bool.{false≢true}
use Rattle.fl_base.specs.declared.types.BlobRef.{BlobRef}
use Rattle.fl_base.specs.declared.types.Geometry.{Geometry}
use Rattle.fl_flash.specs.Flash.{FlashState}
use Rattle.fl_model.specs.Bare.{bare_table}
use Rattle.fl_model.specs.Query.{BlobState}
use Rattle.fl_model.specs.Record.{Plan}
use Rattle.fl_model.specs.Table as model
use Rattle.fl_model.specs.Table.{Entry}
use Rattle.fl_page.specs.Header.{page_count}
use Rattle.fl_page.specs.declared.fault.ReadFault.{ReadFault}
use Rattle.fl_frame.specs.Reads as looking
use Rattle.fl_ring.specs.Ring.{place}
use Rattle.fl_ring.proofs.Founds.{same_pages}
use Rattle.fl_table.specs.BlobAt.{data_in, has_blobs, blob_page_len, content_in}
use Rattle.fl_parts.specs.Blobs as variable
use Rattle.fl_table.specs.Memory.{LiesOn as LiesAll}
use Rattle.fl_table.specs.Standing.{Stands}
use Rattle.fl_table.specs.declared.table.Table.{Table}
use Rattle.fl_var.specs.Blobs.{IsWhole, contents_from}
use Rattle.fl_var.specs.Content.{content_of}
use Rattle.fl_var.specs.Memory.{LiesOn, next_in, room_in, var_shape, image_in}
use Rattle.fl_var.specs.Reading as reading
use Rattle.fl_var.specs.Reading.{bytes_left, Reads, IsWholeIn}
use Rattle.fl_var.specs.declared.reader.BlobReader.{BlobReader}
use Rattle.fl_var.specs.declared.var_data.VarData.{VarData}
use Rattle.fl_var.proofs.Wholes.{images-same}
use Rattle.fl_store.proofs.Queried.{blobs-bare}

module _ (t : Table 64 64) (f : FlashState) (lies : LiesAll t f) where
  pub buffer-fits : has_blobs t ≡ true → f.geometry.page ≡ blob_page_len t
  buffer-fits some = by_blobs t.blobs some lies.blobs
    where
      by_blobs : (o : Option VarData) → is_some o ≡ true → variable.LieOn o f → f.geometry.page ≡ unwrap_or (option_map (λ (v : VarData). v.geometry.page) o) 0
      by_blobs None e h = absurd (false≢true e)
      by_blobs (Some v) e h = ap (λ (g : Geometry). g.page) h.geometry

  module _ (v : VarData) (is : Some v ≡ data_in t) where
    pub data-lies : LiesOn v f
    data-lies = subst (λ (o : Option VarData). variable.LieOn o f) (sym is) lies.blobs

    pub room-same : room_in v ≡ content_in t
    room-same = ap (λ (g : Geometry). g.page - 16) (sym data-lies.geometry ∙ lies.geometry)

    pub data-stands : (first : ℕ) (plan : Plan) (table : model.Table) → Stands t f first plan table → variable.IsStanding v f (first + plan.data_blocks + plan.index_blocks) plan table
    data-stands first plan table h = subst (λ (o : Option VarData). variable.Stand o f (first + plan.data_blocks + plan.index_blocks) plan table) (sym is) h.blobs

-- ---- a reader after its opening

module _ (r : BlobReader) (f g : FlashState) (n : ℕ) (only : looking.OnlyReads f n g) where
  image : image_in r.var.now g ≡ image_in r.var.now f
  image = images-same r.var.now f g n only

  pub reads-kept : Reads r f → Reads r g
  reads-kept h = record {
    told = subst IsTrue (sym only.goes.tells) h.told;
    within = h.within;
    used = λ some. h.used some ∙ ap (λ (at : ℕ → List ℕ). page_count (at r.page)) (sym image);
    size = λ some. ap (λ (at : ℕ → List ℕ). length (content_of (at r.page))) image ∙ h.size some;
    bytes = λ more sealed. h.bytes more sealed ∙ ap (λ (at : ℕ → List ℕ). at (place (var_shape r.var.now) r.page)) (sym (same_pages f g n only));
  }

  pub bytes-kept : bytes_left r g ≡ bytes_left r f
  bytes-kept = ap (λ (at : ℕ → List ℕ). take r.left (drop r.end (contents_from at r.page (next_in r.var.now + 1 - r.page)))) image

  pub whole-kept : IsWholeIn r f → IsWholeIn r g
  whole-kept h = λ some. subst (λ (at : ℕ → List ℕ). IsWhole at (next_in r.var.now) (room_in r.var.now) r.page r.end r.left) (sym image) (h some)

-- .. where it stands
pub opened-ready : (v : VarData) (f : FlashState) (at : BlobRef) (stands : Result Bool ReadFault) (r : BlobReader) → reading.Opens v f at (reading.turned stands r) → stands ≡ Ok true → Reads r f
opened-ready v f at stands r opens is = let o = rw is at opens in o.reads

-- What is found of an entry's blob in a table without its log, is so of the table, and after reads too.
pub finds-held : (table : model.Table) (entry : Entry) (bytes : List ℕ) (f g : FlashState) (n : ℕ) → looking.OnlyReads f n g → (result : Result (Option BlobReader) ReadFault) → reading.Finds (bare_table table) entry bytes f result → reading.Finds table entry bytes g result
finds-held table entry bytes f g n only (Ok None) h = ap (λ (left : Entry → BlobState). left entry) (sym (blobs-bare table)) ∙ h
finds-held table entry bytes f g n only (Ok (Some r)) h = (ap (λ (left : Entry → BlobState). left entry) (sym (blobs-bare table)) ∙ h.0, bytes-kept r f g n only ∙ h.1, whole-kept r f g n only h.2)
finds-held table entry bytes f g n only result h = h

-- .. and a reader that was made over any bytes reads on
pub ready-kept : (var : Option VarData) (f g : FlashState) (n : ℕ) (at : BlobRef) → looking.OnlyReads f n g → is_some var ≡ true → (result : Result (Option BlobReader) ReadFault) → IfSome var (λ v. reading.Opens v f at result) → IfOk result (λ reader. IfSome reader (λ r. Reads r g))
ready-kept None f g n at only some result h = absurd (false≢true some)
ready-kept (Some v) f g n at only some (Ok (Some r)) h = reads-kept r f g n only h.reads
ready-kept (Some v) f g n at only some result h = tt

-- what holds of a reader that was made
pub made-so : (P Q : BlobReader → Type 0) → ((r : BlobReader) → P r → Q r) → (result : Result (Option BlobReader) ReadFault) → IfOk result (λ reader. IfSome reader P) → IfOk result (λ reader. IfSome reader Q)
made-so P Q so (Ok (Some r)) h = so r h
made-so P Q so result h = tt
