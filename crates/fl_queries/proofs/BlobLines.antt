-- The digits of a blob, chunk by chunk.
use Rattle.std.proofs.Common.{◌≡◌, ℕ, ◌+◌, ◌/◌, ◌%◌, ◌<◌, ◌≤◌, Bool, true, false, inl, inr, IsErr, Option, Result, Err, List, [], ◌∷◌, ◌++◌, length, take, refl, sym, ◌∙◌, ap, subst, arith, append_assoc, append-nil, length-append, codes, take_at, pos_of_ne-zero}
use Rattle.std.proofs.lemmas.Grind.{flat_map-append}
use Rattle.std.proofs.lemmas.Bool.{false≢true}
use Rattle.fl_base.specs.Causes.{Rose, Appends, AppendsFront}
use Rattle.fl_base.proofs.Appended.{appends-append, appends-none, front-more}
use Rattle.fl_flash.specs.Flash.{FlashState}
use Rattle.fl_page.specs.Causes.{IsCaused}
use Rattle.fl_page.specs.declared.fault.ReadFault.{ReadFault}
use Rattle.fl_page.specs.declared.fault.ReadFault.TheVariants.{Flash, BadPage}
use Rattle.fl_script.proofs.SinkPieces.{sent-failed, written-err, written-behind}
use Rattle.fl_script.specs.Written.{Written}
use Rattle.fl_search.specs.Search.{RoseSome}
use Rattle.fl_var.specs.Reading.{count_left, pages_left, has_here, bytes_left, Reads, IsWholeIn, NoneBad}
use Rattle.fl_var.specs.declared.reader.BlobReader.{BlobReader}
use Rattle.fl_words.specs.Reply as words
use Rattle.fl_words.specs.Reply.{hex_digit, hex_text, text, texts}
use Rattle.fl_queries.specs.BlobLine.{GivesDigits, IsTurned, ShowsBytes, read_reply}
use Rattle.fl_queries.specs.declared.listing.ListFault.TheVariants.{Read}
use Rattle.fl_queries.proofs.Resumed.{rose-read, read-counted}

pub hex-append : (xs ys : List ℕ) → hex_text (xs ++ ys) ≡ hex_text xs ++ hex_text ys
hex-append xs ys = flat_map-append (λ x. hex_digit (x / 16) ∷ hex_digit (x % 16) ∷ []) xs ys

-- Some bytes were given, and their digits written; the others are left.
pub record Gave (first : BlobReader) (first_f : FlashState) (told : Option (List ℕ)) (reader : BlobReader) (f : FlashState) (told_now : Option (List ℕ)) : Type 0 where
  pub given : List ℕ
  pub left : bytes_left first first_f ≡ given ++ bytes_left reader f
  pub wrote : Appends told told_now (hex_text given)
  pub ready : Reads reader f
  pub whole : IsWholeIn reader f
  pub few : f.work.reads + pages_left reader ≤ first_f.work.reads + pages_left first
  pub count : count_left first ≡ length given + count_left reader
  pub begun : length given ≡ 0 → has_here reader ≡ has_here first

pub gave-none : (reader : BlobReader) (f : FlashState) (told : Option (List ℕ)) → Reads reader f → IsWholeIn reader f → Gave reader f told reader f told
gave-none reader f told ready whole = record { given = []; left = refl; wrote = appends-none told; ready = ready; whole = whole; few = omega arith; count = omega arith; begun = λ none. refl }

module _ (first mid new : BlobReader) (first_f f g : FlashState) (told told_mid : Option (List ℕ)) (gave : Gave first first_f told mid f told_mid) where
  -- one more chunk
  pub gave-chunk : (chunk : List ℕ) (told_now : Option (List ℕ)) → bytes_left mid f ≡ chunk ++ bytes_left new g → Appends told_mid told_now (hex_text chunk) → Reads new g → IsWholeIn new g → g.work.reads + pages_left new ≤ f.work.reads + pages_left mid →
      count_left mid ≡ length chunk + count_left new → 1 ≤ length chunk → Gave first first_f told new g told_now
  gave-chunk chunk told_now left wrote ready whole few counted some = record {
    given = gave.given ++ chunk;
    left = gave.left ∙ (ap (λ (l : List ℕ). gave.given ++ l) left ∙ sym (append_assoc gave.given chunk (bytes_left new g)));
    wrote = subst (λ (l : List ℕ). Appends told told_now l) (sym (hex-append gave.given chunk)) (appends-append told told_mid told_now (hex_text gave.given) (hex_text chunk) gave.wrote wrote);
    ready = ready;
    whole = whole;
    few = omega (arith, few, gave.few);
    count = omega (arith, gave.count, counted, length-append gave.given chunk);
    begun = λ none. absurd (omega (arith, none, some, length-append gave.given chunk));
  }

  -- the sink failed in a chunk
  pub gave-failed : (chunk : List ℕ) (told_now : Option (List ℕ)) → bytes_left mid f ≡ chunk ++ bytes_left new g → AppendsFront told_mid told_now (hex_text chunk) → AppendsFront told told_now (hex_text (bytes_left first first_f))
  gave-failed chunk told_now left wrote =
      sent-failed told told_mid told_now (hex_text (bytes_left first first_f)) (hex_text (bytes_left mid f)) (hex_text (bytes_left new g)) (hex_text chunk)
      (record { front = hex_text gave.given; parts = sym (ap hex_text gave.left ∙ hex-append gave.given (bytes_left mid f)); appended = gave.wrote }) wrote
      (sym (ap hex_text left ∙ hex-append chunk (bytes_left new g)))

  -- none is left
  pub gave-all : bytes_left mid f ≡ [] → Appends told told_mid (hex_text (bytes_left first first_f))
  gave-all none = subst (λ (l : List ℕ). Appends told told_mid (hex_text l)) (sym (gave.left ∙ (ap (λ (l : List ℕ). gave.given ++ l) none ∙ append-nil gave.given))) gave.wrote

  -- a read failed, though a byte was left: so it wasn't the first step
  pub gave-unread : (e : ReadFault) → NoneBad {T = Bool} (Err e) → IsTurned first first_f → 1 ≤ count_left mid → (has_here mid ≡ true → ⊥) → GivesDigits (bytes_left first first_f) told told_mid (Err (Read e))
  gave-unread (BadPage bad) none turned left unheld = none
  gave-unread (Flash fault) none turned left unheld =
      let all : take (length gave.given) (bytes_left first first_f) ≡ gave.given = ap (take (length gave.given)) gave.left ∙ take_at gave.given (bytes_left mid f) (length gave.given) refl in
      let some : 1 ≤ length gave.given = pos_of_ne-zero (λ none. unheld (gave.begun none ∙ turned.here)) in
      (length gave.given, some, omega (arith, turned.count, gave.count, left), subst (λ (l : List ℕ). Appends told told_mid (hex_text l)) (sym all) gave.wrote)

-- ---- the line

bytes-line : (bytes : List ℕ) → texts (words.Bytes bytes ∷ []) ≡ codes "bytes " ++ (hex_text bytes ++ 10 ∷ [])
bytes-line bytes = append-nil (text (words.Bytes bytes)) ∙ append_assoc (codes "bytes ") (hex_text bytes) (10 ∷ [])

fault-lines : (bytes : List ℕ) → texts (words.Bytes bytes ∷ words.ReadFault ∷ []) ≡ codes "bytes " ++ (hex_text bytes ++ (10 ∷ [] ++ text words.ReadFault))
fault-lines bytes =
    ap (λ (l : List ℕ). text (words.Bytes bytes) ++ l) (append-nil (text words.ReadFault))
    ∙ (append_assoc (codes "bytes " ++ hex_text bytes) (10 ∷ []) (text words.ReadFault) ∙ append_assoc (codes "bytes ") (hex_text bytes) (10 ∷ [] ++ text words.ReadFault))

-- the medium failed in a read that failed with the power on, and it is counted
abbrev pub RoseWith : ReadFault → ℕ → ℕ → ℕ → ℕ → Type 0
RoseWith (Flash fault) faults faults_now reads reads_now = Rose faults faults_now × RoseSome reads reads_now
RoseWith (BadPage bad) faults faults_now reads reads_now = Unit {0}

pub rose-with : (f g : FlashState) (e : ReadFault) → f.is_on ≡ true → IsCaused f e g → RoseWith e f.media.faults g.media.faults f.work.reads g.work.reads
rose-with f g (Flash fault) on caused = (rose-read f g fault on caused, read-counted f g fault on caused)
rose-with f g (BadPage bad) on caused = tt

module _ {E : Type 0} (bytes : List ℕ) (told now : Option (List ℕ)) (faults faults_now reads reads_now : ℕ) (result : Result (Unit {0}) E) where
  -- all of the line, or a front of it
  pub shows-line : Written told now result (codes "bytes " ++ (hex_text bytes ++ 10 ∷ [])) → ShowsBytes bytes told now faults faults_now reads reads_now result
  shows-line wrote = record {
    rose = false;
    risen = λ t. absurd (false≢true t);
    replies = words.Bytes bytes ∷ [];
    replied = inl refl;
    wrote = subst (λ (l : List ℕ). Written told now result l) (sym (bytes-line bytes)) wrote;
    failed = λ t. absurd (false≢true t);
  }

  -- a front of it, and then the fault
  pub shows-fault : (n : ℕ) → 1 ≤ n → n < length bytes → Rose faults faults_now → RoseSome reads reads_now → Written told now result (codes "bytes " ++ (hex_text (take n bytes) ++ (10 ∷ [] ++ text words.ReadFault))) → ShowsBytes bytes told now faults faults_now reads reads_now result
  shows-fault n some lt rose counted wrote = record {
    rose = true;
    risen = λ t. rose;
    replies = words.Bytes (take n bytes) ∷ words.ReadFault ∷ [];
    replied = inr (refl, (n, some, lt, refl));
    wrote = subst (λ (l : List ℕ). Written told now result l) (sym (fault-lines (take n bytes))) wrote;
    failed = λ unread. counted;
  }

  -- a read failed in it
  pub shows-unread : (e : ReadFault) (begun given ended : Option (List ℕ)) → GivesDigits bytes begun given (Err (Read e)) → RoseWith e faults faults_now reads reads_now → Appends told begun (codes "bytes ") → Appends given ended (10 ∷ []) → Written ended now result (text (read_reply e)) →
      ShowsBytes bytes told now faults faults_now reads reads_now result
  shows-unread (BadPage bad) begun given ended gives rose first line wrote = absurd gives
  shows-unread (Flash fault) begun given ended gives rose first line wrote =
      let front = take gives.0 bytes in
      shows-fault gives.0 gives.1 gives.2 rose.0 rose.1
      (written-behind told begun now (codes "bytes ") (hex_text front ++ (10 ∷ [] ++ text words.ReadFault)) result first
      (written-behind begun given now (hex_text front) (10 ∷ [] ++ text words.ReadFault) result gives.3
      (written-behind given ended now (10 ∷ []) (text words.ReadFault) result line wrote)))

  -- the sink failed behind it
  pub shows-unended : (e : ReadFault) (begun given : Option (List ℕ)) → GivesDigits bytes begun given (Err (Read e)) → RoseWith e faults faults_now reads reads_now → Appends told begun (codes "bytes ") → AppendsFront given now (10 ∷ []) → IsErr result → ShowsBytes bytes told now faults faults_now reads reads_now result
  shows-unended (BadPage bad) begun given gives rose first line failed = absurd gives
  shows-unended (Flash fault) begun given gives rose first line failed =
      let front = take gives.0 bytes in
      shows-fault gives.0 gives.1 gives.2 rose.0 rose.1
      (written-behind told begun now (codes "bytes ") (hex_text front ++ (10 ∷ [] ++ text words.ReadFault)) result first
      (written-behind begun given now (hex_text front) (10 ∷ [] ++ text words.ReadFault) result gives.3
      (written-err given now result (10 ∷ [] ++ text words.ReadFault) failed (front-more given now (10 ∷ []) (text words.ReadFault) line))))
