-- Bytes that are taken from a reader, chunk by chunk.
use Rattle.std.proofs.Common.{◌≡◌, ℕ, Err, List, [], ◌++◌, refl, sym, ◌∙◌, ap, append_assoc, append-nil}
use Rattle.fl_flash.specs.Flash.{FlashState}
use Rattle.fl_page.specs.declared.fault.ReadFault.{ReadFault}
use Rattle.fl_page.specs.declared.fault.ReadFault.TheVariants.{Flash, BadPage}
use Rattle.fl_var.specs.Reading.{bytes_left, Reads, IsWholeIn, NoneBad as NonePageBad}
use Rattle.fl_var.specs.declared.reader.BlobReader.{BlobReader}
use Rattle.fl_export.specs.Writing.{NoneBad}
use Rattle.fl_export.specs.declared.fault.ExportFault.TheVariants.{Read}

-- so much of a blob was taken behind the bytes that were there
pub record Took (first : BlobReader) (f : FlashState) (bytes : List ℕ) (mid : BlobReader) (g : FlashState) (now : List ℕ) : Type 0 where
  pub front : List ℕ
  pub are : now ≡ bytes ++ front
  pub split : bytes_left first f ≡ front ++ bytes_left mid g
  pub ready : Reads mid g
  pub whole : IsWholeIn mid g

pub took-none : (first : BlobReader) (f : FlashState) (bytes : List ℕ) → Reads first f → IsWholeIn first f → Took first f bytes first f bytes
took-none first f bytes ready whole = record { front = []; are = sym (append-nil bytes); split = refl; ready = ready; whole = whole }

module _ (first mid : BlobReader) (f g : FlashState) (bytes now : List ℕ) (took : Took first f bytes mid g now) where
  pub took-more : (next : BlobReader) (h : FlashState) (chunk more : List ℕ) → bytes_left mid g ≡ chunk ++ bytes_left next h → Reads next h → IsWholeIn next h → more ≡ now ++ chunk → Took first f bytes next h more
  took-more next h chunk more split ready whole is = record {
    front = took.front ++ chunk;
    are = is ∙ (ap (λ (l : List ℕ). l ++ chunk) took.are ∙ append_assoc bytes took.front chunk);
    split = took.split ∙ (ap (λ (l : List ℕ). took.front ++ l) split ∙ sym (append_assoc took.front chunk (bytes_left next h)));
    ready = ready;
    whole = whole;
  }

  pub took-all : bytes_left mid g ≡ [] → now ≡ bytes ++ bytes_left first f
  took-all none = took.are ∙ ap (λ (l : List ℕ). bytes ++ l) (sym (took.split ∙ (ap (λ (l : List ℕ). took.front ++ l) none ∙ append-nil took.front)))

-- a page that isn't read isn't bad
pub read-good : (T : Type 0) (e : ReadFault) → NonePageBad {T = T} (Err e) → NoneBad (Read e)
read-good T (Flash fault) h = tt
read-good T (BadPage bad) h = h
