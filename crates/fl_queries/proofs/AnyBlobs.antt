-- The replies to a question for a blob, over any bytes.
use Rattle.std.proofs.Common.{◌≡◌, ℕ, zero, suc, Bool, true, inl, inr, Option, Result, Err, List, [], ◌∷◌, ◌++◌, length, codes, refl, sym, ap, subst, append_assoc, is_ok}
use Rattle.std.proofs.lemmas.Bool.{false≢true}
use Rattle.fl_base.specs.Causes.{Appends, AppendsFront}
use Rattle.fl_base.proofs.Appended.{appends-append, front-behind, front-more}
use Rattle.fl_flash.specs.Flash.{FlashState}
use Rattle.fl_page.specs.Causes.{IsCaused}
use Rattle.fl_frame.specs.Contents.{OnlyReads}
use Rattle.fl_page.specs.declared.fault.BadPage.{BadPage}
use Rattle.fl_page.specs.declared.fault.ReadFault.{ReadFault}
use Rattle.fl_page.specs.declared.fault.ReadFault.TheVariants as fault
use Rattle.fl_page.proofs.ReadsInTurn.{IsCaused-later}
use Rattle.fl_script.specs.Written.{Written}
use Rattle.fl_script.proofs.SinkPieces.{written-behind}
use Rattle.fl_var.specs.Reading.{IfBad}
use Rattle.fl_words.specs.Reply as reply
use Rattle.fl_words.specs.Reply.{Reply, hex_text, text}
use Rattle.fl_queries.specs.BlobLine.{read_reply}
use Rattle.fl_queries.specs.BlobSays.{BlobSays, EndsBlob, IsBlob, TellsTaken}
use Rattle.fl_queries.specs.ListSays.{IsUnread}
use Rattle.fl_queries.proofs.BlobLines.{hex-append}
use Rattle.fl_queries.proofs.RowLines.{one-text}

-- what is said of a page that wasn't read
unread-said : (IsBad : BadPage → Type 0) (f g : FlashState) (e : ReadFault) → IsCaused f e g → IfBad IsBad e → IsUnread IsBad f g (read_reply e)
unread-said IsBad f g (fault.Flash x) caused is_bad = (x, caused)
unread-said IsBad f g (fault.BadPage bad) caused is_bad = (bad, refl, is_bad)

module _ {E : Type 0} (Tells : Reply → Type 0) (IsBad IsBadOn : BadPage → Type 0) (f g : FlashState) (told now : Option (List ℕ)) (result : Result (Unit {0}) E) where
  -- one line
  pub says-one : (line : Reply) → IsBlob line → TellsTaken Tells (is_ok result) line → Written told now result (text line) → BlobSays Tells IsBad IsBadOn f g told now result
  says-one line is tells wrote = record { lines = []; are_lines = tt; last = line; ends = inl (is, tells); written = subst (λ (l : List ℕ). Written told now result l) (sym (one-text line)) wrote }

  pub says-none_read : (e : ReadFault) → IsCaused f e g → IfBad IsBad e → Written told now result (text (read_reply e)) → BlobSays Tells IsBad IsBadOn f g told now result
  says-none_read e caused is_bad wrote =
      record { lines = []; are_lines = tt; last = read_reply e; ends = inr (unread-said IsBad f g e caused is_bad); written = subst (λ (l : List ℕ). Written told now result l) (sym (one-text (read_reply e))) wrote }

  -- a line of bytes, in its parts
  pub says-parts : (bytes : List ℕ) (begun given : Option (List ℕ)) → Appends told begun (codes "bytes ") → Appends begun given (hex_text bytes) → Written given now result (10 ∷ []) → (is_ok result ≡ true → Tells (reply.Bytes bytes)) → BlobSays Tells IsBad IsBadOn f g told now result
  says-parts bytes begun given first digits wrote tells =
      says-one (reply.Bytes bytes) tt tells
      (subst (λ (l : List ℕ). Written told now result l) (sym (append_assoc (codes "bytes ") (hex_text bytes) (10 ∷ [])))
      (written-behind told begun now (codes "bytes ") (hex_text bytes ++ 10 ∷ []) result first (written-behind begun given now (hex_text bytes) (10 ∷ []) result digits wrote)))

  -- .. behind which a page wasn't read
  pub says-cut : (bytes : List ℕ) (begun given ended : Option (List ℕ)) (e : ReadFault) → IsCaused f e g → IfBad IsBadOn e → Appends told begun (codes "bytes ") → Appends begun given (hex_text bytes) → Appends given ended (10 ∷ []) → Written ended now result (text (read_reply e)) →
      BlobSays Tells IsBad IsBadOn f g told now result
  says-cut bytes begun given ended e caused is_bad first digits line wrote =
      let all : Appends told ended (text (reply.Bytes bytes)) =
      subst (λ (l : List ℕ). Appends told ended l) (sym (append_assoc (codes "bytes ") (hex_text bytes) (10 ∷ [])))
      (appends-append told begun ended (codes "bytes ") (hex_text bytes ++ 10 ∷ []) first (appends-append begun given ended (hex_text bytes) (10 ∷ []) digits line)) in
      record {
        lines = reply.Bytes bytes ∷ [];
        are_lines = (tt, tt);
        last = read_reply e;
        ends = unread-said IsBadOn f g e caused is_bad;
        written = subst (λ (l : List ℕ). Written told now result l) (ap (λ (l : List ℕ). text (reply.Bytes bytes) ++ l) (sym (one-text (read_reply e)))) (written-behind told ended now (text (reply.Bytes bytes)) (text (read_reply e)) result all wrote);
      }

-- the sink failed in the line of bytes
module _ {E : Type 0} (Tells : Reply → Type 0) (IsBad IsBadOn : BadPage → Type 0) (f g : FlashState) (told now : Option (List ℕ)) (failed : E) where
  pub says-failed : (bytes : List ℕ) → AppendsFront told now (text (reply.Bytes bytes)) → BlobSays Tells IsBad IsBadOn f g told now (Err failed)
  says-failed bytes front = says-one Tells IsBad IsBadOn f g told now (Err failed) (reply.Bytes bytes) tt (λ taken. absurd (false≢true taken)) front

  pub says-begun : AppendsFront told now (codes "bytes ") → BlobSays Tells IsBad IsBadOn f g told now (Err failed)
  says-begun front = says-failed [] (front-more told now (codes "bytes ") (10 ∷ []) front)

  pub says-sunk : (bytes : List ℕ) (begun : Option (List ℕ)) → Appends told begun (codes "bytes ") → AppendsFront begun now (hex_text bytes) → BlobSays Tells IsBad IsBadOn f g told now (Err failed)
  says-sunk bytes begun first front = says-failed bytes (front-more told now (codes "bytes " ++ hex_text bytes) (10 ∷ []) (front-behind told begun now (codes "bytes ") (hex_text bytes) first front))

-- seen from an earlier flash, of which no less is said
later-unread : (Was IsBad : BadPage → Type 0) (a b c : FlashState) → OnlyReads a b → ((bad : BadPage) → Was bad → IsBad bad) → (last : Reply) → IsUnread Was b c last → IsUnread IsBad a c last
later-unread Was IsBad a b c only so reply.ReadFault h = (h.0, IsCaused-later a b c (fault.Flash h.0) only h.1)
later-unread Was IsBad a b c only so (reply.BadPage number) h = (h.0, h.1, so h.0 h.2)
later-unread Was IsBad a b c only so last h = absurd h

later-taken : (Told Tells : Reply → Type 0) → ((last : Reply) → Told last → Tells last) → (taken : Bool) (last : Reply) → TellsTaken Told taken last → TellsTaken Tells taken last
later-taken Told Tells same taken (reply.Bytes bytes) tells = λ took. same (reply.Bytes bytes) (tells took)
later-taken Told Tells same taken last tells = same last tells

module _ (Told Tells : Reply → Type 0) (Was WasOn IsBad IsBadOn : BadPage → Type 0) (a b c : FlashState) (only : OnlyReads a b) (same : (last : Reply) → Told last → Tells last) (so : (bad : BadPage) → Was bad → IsBad bad)
    (so_on : (bad : BadPage) → WasOn bad → IsBadOn bad) where
  later-ends : (taken : Bool) (n : ℕ) (last : Reply) → EndsBlob Told Was WasOn b c taken n last → EndsBlob Tells IsBad IsBadOn a c taken n last
  later-ends taken zero last (inl (is, tells)) = inl (is, later-taken Told Tells same taken last tells)
  later-ends taken zero last (inr unread) = inr (later-unread Was IsBad a b c only so last unread)
  later-ends taken (suc zero) last h = later-unread WasOn IsBadOn a b c only so_on last h
  later-ends taken (suc (suc n)) last h = h

  pub says-later : {E : Type 0} (told now : Option (List ℕ)) (result : Result (Unit {0}) E) → BlobSays Told Was WasOn b c told now result → BlobSays Tells IsBad IsBadOn a c told now result
  says-later told now result h = record { lines = h.lines; are_lines = h.are_lines; last = h.last; ends = later-ends (is_ok result) (length h.lines) h.last h.ends; written = h.written }

-- the digits of one more chunk
pub digits-more : (told mid now : Option (List ℕ)) (bytes chunk : List ℕ) → Appends told mid (hex_text bytes) → Appends mid now (hex_text chunk) → Appends told now (hex_text (bytes ++ chunk))
digits-more told mid now bytes chunk a b = subst (λ (l : List ℕ). Appends told now l) (sym (hex-append bytes chunk)) (appends-append told mid now (hex_text bytes) (hex_text chunk) a b)

pub digits-into : (told mid now : Option (List ℕ)) (bytes chunk : List ℕ) → Appends told mid (hex_text bytes) → AppendsFront mid now (hex_text chunk) → AppendsFront told now (hex_text (bytes ++ chunk))
digits-into told mid now bytes chunk a b = subst (λ (l : List ℕ). AppendsFront told now l) (sym (hex-append bytes chunk)) (front-behind told mid now (hex_text bytes) (hex_text chunk) a b)
