-- The lines of rows, and a reply behind them.
use Rattle.std.proofs.Common.{◌≡◌, ℕ, Bool, Option, Result, List, [], ◌∷◌, ◌++◌, map, refl, sym, ◌∙◌, ap, subst, append-nil, append_assoc}
use Rattle.fl_base.specs.Causes.{Appends, AppendsFront}
use Rattle.fl_base.proofs.Appended.{front-more}
use Rattle.fl_model.specs.Record.{Plan, has_var}
use Rattle.fl_model.specs.Row.{stored_row}
use Rattle.fl_model.specs.Table.{Entry}
use Rattle.fl_machine.specs.Step.{rows_of, row_of}
use Rattle.fl_script.specs.Written.{Written}
use Rattle.fl_script.proofs.SinkPieces.{written-behind}
use Rattle.fl_words.specs.Reply as reply
use Rattle.fl_words.specs.Reply.{Reply, text, texts}
use Rattle.fl_queries.specs.BlobNotes.{note_of}
use Rattle.fl_queries.specs.Rows.{row_reply}
use Rattle.fl_queries.proofs.BlobNotes.{note-record}

-- the line of an entry
pub row-line : (plan : Plan) (blobs : Bool) (entry : Entry) → blobs ≡ has_var plan → row_reply blobs (stored_row entry) ≡ row_of plan entry
row-line plan blobs entry noted =
    ap (λ n. reply.Row entry.kept.key entry.kept.values n) (ap (λ b. note_of b (stored_row entry).blob) noted ∙ note-record plan entry)

pub lines-stored : (plan : Plan) (blobs : Bool) (es : List Entry) → blobs ≡ has_var plan → map (row_reply blobs) (map stored_row es) ≡ rows_of plan es
lines-stored plan blobs [] noted = refl
lines-stored plan blobs (e ∷ es) noted =
    ap (λ (r : Reply). r ∷ map (row_reply blobs) (map stored_row es)) (row-line plan blobs e noted) ∙ ap (λ (l : List Reply). row_of plan e ∷ l) (lines-stored plan blobs es noted)

-- one reply
pub one-text : (reply : Reply) → texts (reply ∷ []) ≡ text reply
one-text reply = append-nil (text reply)

-- a last reply behind lines
pub texts-last : (lines : List Reply) (last : Reply) → texts lines ++ text last ≡ texts (lines ++ last ∷ [])
texts-last [] last = sym (append-nil (text last))
texts-last (line ∷ lines) last = append_assoc (text line) (texts lines) (text last) ∙ ap (λ (l : List ℕ). text line ++ l) (texts-last lines last)

pub written-last : {E : Type 0} (lines : List Reply) (last : Reply) (told mid now : Option (List ℕ)) (result : Result (Unit {0}) E) → Appends told mid (texts lines) → Written mid now result (text last) → Written told now result (texts (lines ++ last ∷ []))
written-last lines last told mid now result lines_are wrote = subst (λ (l : List ℕ). Written told now result l) (texts-last lines last) (written-behind told mid now (texts lines) (text last) result lines_are wrote)

pub front-last : (lines : List Reply) (last : Reply) (told now : Option (List ℕ)) → AppendsFront told now (texts lines) → AppendsFront told now (texts (lines ++ last ∷ []))
front-last lines last told now front = subst (λ (l : List ℕ). AppendsFront told now l) (texts-last lines last) (front-more told now (texts lines) (text last) front)
