-- Bad pages of a blob, and of the lookup of its record, seen from an earlier flash.
use Rattle.std.proofs.Common.{◌≡◌, ◌⊎◌, ◌+◌, ◌-◌, ◌<◌, true, false, take, drop, refl, ◌∙◌, ℕ, ◌≤◌, Bool, inl, inr, IfErr, IsTrue, Option, Some, None, Result, Ok, Err, List, ap, subst, sym, if◌then◌else◌, ◌==◌, nat_lt, IsSomeAnd}
use Rattle.std.proofs.lemmas.Bool.{lt-ltb, false≢true}
use Rattle.fl_base.specs.declared.types.BlobRef.{BlobRef}
use Rattle.fl_flash.specs.Flash.{FlashState}
use Rattle.fl_mark.specs.Mark.{state_of_page}
use Rattle.fl_mark.specs.declared.page_state.PageState.TheVariants.{Committed}
use Rattle.fl_model.specs.Layout.{committed}
use Rattle.fl_page.specs.Causes.{IsCaused}
use Rattle.fl_frame.specs.Contents.{OnlyReads}
use Rattle.fl_page.specs.Header.{page_count}
use Rattle.fl_page.specs.Page.{bad_page}
use Rattle.fl_page.specs.declared.fault.BadPage.{BadPage}
use Rattle.fl_page.specs.declared.fault.ReadFault.{ReadFault}
use Rattle.fl_page.specs.declared.fault.ReadFault.TheVariants as fault
use Rattle.fl_ring.specs.Ring.{place}
use Rattle.fl_table.specs.BlobAt.{data_in}
use Rattle.fl_table.specs.Finding.{BlamesFor, LookupFails, is_covered_in}
use Rattle.fl_table.specs.declared.table.Table.{Table}
use Rattle.fl_var.specs.Blobs.{AreThere, Begins, IsBadFirst, IsBadLater, IsBadOf, IsGone, IsReadable, IsThere, bytes_of, contents_from}
use Rattle.fl_var.specs.Content.{HasContent, content_body}
use Rattle.fl_var.specs.Memory.{image_in, next_in, oldest_in, room_in, var_shape, waiting_in}
use Rattle.fl_var.specs.Reading.{count_left, data_of, has_here, page_of, turned, IfBad, IsBadAhead, IsThereBehind, Opened, Opens, Reads}
use Rattle.fl_var.proofs.PagesBehind.{bad-seen, next-bad}
use Rattle.fl_var.proofs.Wholes.{images-same}
use Rattle.fl_var.specs.declared.reader.BlobReader.{BlobReader}
use Rattle.fl_var.specs.declared.var_data.VarData.{VarData}
use Rattle.fl_store.proofs.Readers.{bytes-kept, reads-kept}
use Rattle.fl_frame.specs.Reads as looking
use Rattle.fl_model.specs.Row.{Row}
use Rattle.fl_words.specs.Reply as reply
use Rattle.fl_words.specs.Reply.{Reply}
use Rattle.fl_queries.specs.BlobSays.{AnswersBlob, FindsNamed, IsBadIn, IsBadNamed, IsLeft, MayBeBadAhead, MayBeBadFor, NamesFor, TellsBlob, TellsLeft}
use Rattle.fl_store.proofs.TablesOnlyRead.{pages-read, tells-read}
use Rattle.fl_queries.specs.BlobShown.{found_in}
use Rattle.fl_queries.specs.Found.{FindsRow}

-- a row that names a blob of which something holds
names : (t : Table 64 64) (key : ℕ) (f : FlashState) (at : BlobRef) → FindsRow t key f (λ row. row.blob ≡ Some at) → (Holds : BlobRef → Type 0) → Holds at → FindsNamed t key f Holds
names t key f at h Holds holds = record { row = h.row; holds = (at, h.holds, holds); key_is = h.key_is; place = h.place; here = h.here; answers = h.answers }

module _ (f g : FlashState) (only : OnlyReads f g) where
  images : (v : VarData) → image_in v g ≡ image_in v f
  images v = ap {B = ℕ → List ℕ} (λ (page : ℕ → List ℕ). λ (number : ℕ). if number == next_in v then committed (content_body (room_in v) number (waiting_in v)) else page (place (var_shape v) number)) (pages-read f g only)

  -- where a blob is gone
  module _ (v : VarData) (at : BlobRef) where
    abbrev is_lost : (ℕ → List ℕ) → Type 0
    is_lost page = (at.page < oldest_in v) ⊎ (state_of_page (page (place (var_shape v) at.page)) ≡ Committed → ⊥)

    gone-held : IsGone v g at → IsGone v f at
    gone-held h = record { some = h.some; sealed = h.sealed; lost = subst is_lost (pages-read f g only) h.lost }

    gone-seen : IsGone v f at → IsGone v g at
    gone-seen h = record { some = h.some; sealed = h.sealed; lost = subst is_lost (sym (pages-read f g only)) h.lost }

    -- .. and where it is there
    begins-held : Begins v g at → Begins v f at
    begins-held h = record {
      first = subst (λ (image : ℕ → List ℕ). IsReadable image (next_in v) at.page) (images v) h.first;
      inside = subst (λ (image : ℕ → List ℕ). at.offset < page_count (image at.page)) (images v) h.inside;
    }

    there-held : IsThere v g at → IsThere v f at
    there-held h = record { begins = begins-held h.begins; behind = subst (λ (image : ℕ → List ℕ). AreThere image (next_in v) at.page (at.offset + at.length)) (images v) h.behind }

    bytes-held : bytes_of v g at ≡ bytes_of v f at
    bytes-held = ap (λ (image : ℕ → List ℕ). take at.length (drop at.offset (contents_from image at.page (next_in v + 1 - at.page)))) (images v)

    -- .. and its bad pages
    first-held : (bad : BadPage) → IsBadFirst v g at bad → IsBadFirst v f at bad
    first-held bad h = record {
      some = h.some;
      behind = h.behind;
      here = λ within. subst (λ (image : ℕ → List ℕ). (state_of_page (image at.page) ≡ Committed) × (bad ≡ bad_page at.page (image at.page)) × (HasContent at.page (image at.page) → page_count (image at.page) ≤ at.offset)) (images v) (h.here within);
    }

  of-held : (v : VarData) (at : BlobRef) (bad : BadPage) → IsBadOf v g at bad → IsBadOf v f at bad
  of-held v at bad (stands, inl h) = ((λ gone. stands (gone-seen v at gone)), inl (first-held v at bad h))
  of-held v at bad (stands, inr (begins, h)) = ((λ gone. stands (gone-seen v at gone)), inr (begins-held v at begins, bad-seen v f g (images v) at.page (at.offset + at.length) bad h))

  in-held : (at : BlobRef) (bad : BadPage) (var : Option VarData) → IsSomeAnd var (λ v. IsBadOf v g at bad) → IsSomeAnd var (λ v. IsBadOf v f at bad)
  in-held at bad None h = h
  in-held at bad (Some v) h = of-held v at bad h

  -- a bad page of the blob that the row of a record names
  pub named-bad : (t : Table 64 64) (key : ℕ) (at : BlobRef) → FindsRow t key f (λ row. row.blob ≡ Some at) → (bad : BadPage) → IsBadIn t g at bad → IsBadNamed t key f bad
  named-bad t key at found bad h = names t key f at found (λ x. IsBadIn t f x bad) (λ told. in-held at bad (data_in t) (h (tells-read f g only told)))

-- .. on which the bytes go on that a reader has left, which is another one now
pub ahead-held : (f g : FlashState) (first mid : BlobReader) (e : ReadFault) → (Reads first f → Reads mid g) → (Reads first f → (bad : BadPage) → IsBadAhead mid g bad → IsBadAhead first f bad) → 1 ≤ count_left mid → (has_here mid ≡ true → ⊥) →
    (Reads mid g → IfBad (IsBadLater (data_of mid) g (page_of mid + 1)) e) → IfBad (MayBeBadAhead first f) e
ahead-held f g first mid (fault.Flash x) ready ahead some given h = tt
ahead-held f g first mid (fault.BadPage bad) ready ahead some given h = λ reads. ahead reads bad (next-bad mid g bad (ready reads) some given (h (ready reads)))

-- no page is behind where no byte is left
pub none-behind : (r : BlobReader) (f : FlashState) → false ≡ nat_lt 0 (count_left r) → IsThereBehind r f
none-behind r f none = λ some. absurd (false≢true (none ∙ lt-ltb 0 r.left some))

-- what was told of a blob, seen from an earlier flash
module _ (t : Table 64 64) (key : ℕ) (f g : FlashState) (only : OnlyReads f g) (at : BlobRef) where
  gone-in : (var : Option VarData) → IsSomeAnd var (λ v. IsGone v g at) → IsSomeAnd var (λ v. IsGone v f at)
  gone-in None h = h
  gone-in (Some v) h = gone-held f g only v at h

  bytes-in : (bytes : List ℕ) (var : Option VarData) → IsSomeAnd var (λ v. (IsGone v g at → ⊥) × IsThere v g at × (bytes ≡ bytes_of v g at)) → IsSomeAnd var (λ v. (IsGone v f at → ⊥) × IsThere v f at × (bytes ≡ bytes_of v f at))
  bytes-in bytes None h = h
  bytes-in bytes (Some v) h = ((λ gone. h.0 (gone-seen f g only v at gone)), there-held f g only v at h.1, h.2 ∙ bytes-held f g only v at)

  pub answers-held : FindsRow t key f (λ row. row.blob ≡ Some at) → (said : Reply) → TellsBlob t g at said → AnswersBlob t key f said
  answers-held h reply.Gone tells = names t key f at h (λ x. TellsBlob t f x reply.Gone) (λ told. gone-in (data_in t) (tells (tells-read f g only told)))
  answers-held h reply.BytesEmpty tells = names t key f at h (λ x. TellsBlob t f x reply.BytesEmpty) tells
  answers-held h (reply.Bytes bytes) tells = names t key f at h (λ x. TellsBlob t f x (reply.Bytes bytes)) (tells.0, λ told. bytes-in bytes (data_in t) (tells.1 (tells-read f g only told)))
  answers-held h said tells = absurd tells

-- what a row tells of its blob
pub names-row : (t : Table 64 64) (key : ℕ) (f : FlashState) (row : Row) → FindsRow t key f (λ r. r ≡ row) → NamesFor t key f (found_in row.blob)
names-row t key f row h = by_blob row.blob refl
  where
    found : (blob : Option BlobRef) → row.blob ≡ blob → FindsRow t key f (λ r. r.blob ≡ blob)
    found blob is = record { row = h.row; holds = ap (λ (r : Row). r.blob) h.holds ∙ is; key_is = h.key_is; place = h.place; here = h.here; answers = h.answers }

    by_blob : (blob : Option BlobRef) → row.blob ≡ blob → NamesFor t key f (found_in blob)
    by_blob None is = found None is
    by_blob (Some at) is = found (Some at) is

-- what is told of the bytes that a reader has left is told of the blob
pub left-told : (t : Table 64 64) (at : BlobRef) (f : FlashState) (r : BlobReader) (g : FlashState) → ((bytes : List ℕ) → IsLeft r g bytes → TellsBlob t f at (reply.Bytes bytes)) → (said : Reply) → TellsLeft r g said → TellsBlob t f at said
left-told t at f r g left (reply.Bytes bytes) tells = left bytes tells
left-told t at f r g left said tells = absurd tells

-- a blob was opened, or is gone, or a page of it is bad
module _ (t : Table 64 64) (f g : FlashState) (only : looking.OnlyReads f 1 g) (v : VarData) (at : BlobRef) (stands : Result Bool ReadFault) (r : BlobReader) (is : Some v ≡ data_in t) (opens : IsTrue f.media.tells → Opens v f at (turned stands r)) where
  pub opened-gone : stands ≡ Ok false → TellsBlob t f at reply.Gone
  opened-gone e = λ told. subst (λ (var : Option VarData). IsSomeAnd var (λ x. IsGone x f at)) is (subst (λ (s : Result Bool ReadFault). Opens v f at (turned s r)) e (opens told))

  module _ (e : stands ≡ Ok true) (some : 0 < at.length) where
    opened : IsTrue f.media.tells → Opened v f at r
    opened told = subst (λ (s : Result Bool ReadFault). Opens v f at (turned s r)) e (opens told)

    pub opened-left : (bytes : List ℕ) → IsLeft r g bytes → TellsBlob t f at (reply.Bytes bytes)
    opened-left bytes left = (
      some,
      λ told.
          let o = opened told in
          let all = left (reads-kept r f g 1 only o.reads) in
          let there : IsThereBehind r f = subst (λ (image : ℕ → List ℕ). 0 < r.left → AreThere image (next_in r.var.now) r.page (r.end + r.left)) (images-same r.var.now f g 1 only) all.0 in
          let same : bytes ≡ bytes_of v f at = all.1 ∙ (bytes-kept r f g 1 only ∙ o.left) in
          subst (λ (var : Option VarData). IsSomeAnd var (λ x. (IsGone x f at → ⊥) × IsThere x f at × (bytes ≡ bytes_of x f at))) is (o.not_gone, o.there some there, same),
    )

    pub opened-ahead : (bad : BadPage) → MayBeBadAhead r g bad → IsBadIn t f at bad
    opened-ahead bad ahead = λ told.
        let o = opened told in
        let here = bad-seen r.var.now f g (images-same r.var.now f g 1 only) r.page (r.end + r.left) bad (ahead (reads-kept r f g 1 only o.reads)) in
        subst (λ (var : Option VarData). IsSomeAnd var (λ x. IsBadOf x f at bad)) is (o.ahead some bad here)

-- a lookup that fails so
pub looked-bad : (t : Table 64 64) (key : ℕ) (f g : FlashState) (e : ReadFault) → LookupFails t f e g → (is_covered_in t key ≡ true → BlamesFor t f key e) → IfBad (MayBeBadFor t key f) e
looked-bad t key f g (fault.Flash x) h blames = tt
looked-bad t key f g (fault.BadPage bad) h blames = inl (h.0, blames)

-- .. and an opening
pub opened-bad : (t : Table 64 64) (f g : FlashState) (v : VarData) (at : BlobRef) (stands : Result Bool ReadFault) (r : BlobReader) → Some v ≡ data_in t → (IsTrue f.media.tells → Opens v f at (turned stands r)) → IfErr stands (λ e. IsCaused f e g) → IfErr stands (λ e. IsCaused f e g × IfBad (IsBadIn t f at) e)
opened-bad t f g v at (Ok stood) r is opens caused = tt
opened-bad t f g v at (Err (fault.Flash e)) r is opens caused = (caused, tt)
opened-bad t f g v at (Err (fault.BadPage bad)) r is opens caused = (caused, λ told. let o = opens told in subst (λ (var : Option VarData). IsSomeAnd var (λ x. IsBadOf x f at bad)) is (o.0, inl o.1))
