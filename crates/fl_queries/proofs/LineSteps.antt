-- A step of lines, by the step of what they show.
use Rattle.std.proofs.Common.{◌≡◌, ◌⊎◌, ℕ, ◌<◌, ◌^◌, Bool, true, false, inl, inr, Option, Some, Result, Ok, Err, IfOk, List, [], ◌∷◌, ◌++◌, map, refl, ◌∙◌, ap, OnOk, OnErr}
use Rattle.std.specs.Bool.{OnTrue, OnFalse}
use Rattle.std.proofs.lemmas.Bool.{OnTrue_from}
use Rattle.std.proofs.lemmas.Result.{IfOk-weaker}
use Rattle.fl_cursor.specs.Cursor.{mark_of, present_of}
use Rattle.fl_cursor.specs.Going.{Goes, Fails}
use Rattle.fl_cursor.specs.declared.bookmark.Bookmark.{Bookmark}
use Rattle.fl_cursor.specs.declared.cursor.Cursor.{Cursor}
use Rattle.fl_frame.specs.Contents.{Contents}
use Rattle.fl_model.specs.Query.{is_above}
use Rattle.fl_model.specs.Row.{Row}
use Rattle.fl_ops.specs.Inputs.{StepsOver}
use Rattle.fl_page.specs.Steps.{Steps}
use Rattle.fl_page.specs.declared.fault.ReadFault.{ReadFault}
use Rattle.fl_page.specs.declared.fault.ReadFault.TheVariants.{Flash, BadPage}
use Rattle.fl_words.specs.Reply.{Reply}
use Rattle.fl_queries.specs.Lines.{MakesLine}
use Rattle.fl_queries.specs.Rising.{IsRow, RiseTo}
use Rattle.fl_queries.specs.Rows.{row_reply}
use Rattle.fl_queries.specs.RowsGiven.{MovesOver}
use Rattle.fl_queries.proofs.RisingLines.{rise-more, rise-on}
use Rattle.fl_queries.proofs.RowsInTurn.{over-more, over-same}

-- lines of items
pub steps-map : {X : Type 0} (line : X → Reply) (result : Result Bool ReadFault) (before : List X) (item : X) (after : List X) → StepsOver result before item after → StepsOver result (map line before) (line item) (map line after)
steps-map line (Ok true) before item after step = ap (map line) step
steps-map line (Ok false) before item after step = (ap (map line) step.0, ap (map line) step.1)
steps-map line (Err (Flash fault)) before item after step = tt
steps-map line (Err (BadPage bad)) before item after step = step

-- .. of rows
pub steps-rows : (line : Row → Reply) (result : Result Bool ReadFault) (before : List Row) (row : Row) (after : List Row) → Steps result before row after → StepsOver result (map line before) (line row) (map line after)
steps-rows line (Ok true) before row after step = ap (map line) step
steps-rows line (Ok false) before row after step = (ap (map line) step.0, ap (map line) step.1)
steps-rows line (Err (Flash fault)) before row after step = tt
steps-rows line (Err (BadPage bad)) before row after step = step

-- there is a row where a step says so
pub here-true : (result : Result Bool ReadFault) (here : Bool) → IfOk result (λ more. here ≡ more) → IfOk result (λ more. OnTrue more (here ≡ true))
here-true result here = IfOk-weaker result (λ more. here ≡ more) (λ more. OnTrue more (here ≡ true)) (λ more is. OnTrue_from more (here ≡ true) (λ t. is ∙ t))

-- ---- what is made

-- the same with the line and without it
pub makes-line : (Made : List Reply → Type 0) (result : Result Bool ReadFault) (before : List Reply) (line : Reply) → Made before → Made (before ++ line ∷ []) → MakesLine Made result before line
makes-line Made (Ok true) before line none one = one
makes-line Made (Ok false) before line none one = none
makes-line Made (Err fault) before line none one = none

-- rows whose keys rise
pub rises-line : (above mid now : Option ℕ) (before : List Reply) (line : Reply) (key : ℕ) (result : Result Bool ReadFault) → IsRow key line → IfOk result (λ more. OnTrue more ((now ≡ Some key) × (is_above mid key ≡ true) × (key < 2 ^ 64))) →
    ((number : ℕ) → is_above now number ≡ true → is_above mid number ≡ true) → RiseTo IsRow above mid before → MakesLine (RiseTo IsRow above now) result before line
rises-line above mid now before line key (Ok true) is keyed falls h = rise-more IsRow above mid now before line key is keyed.1 keyed.0 h
rises-line above mid now before line key (Ok false) is keyed falls h = rise-on IsRow above mid now before falls h
rises-line above mid now before line key (Err fault) is keyed falls h = rise-on IsRow above mid now before falls h

-- rows that a cursor gives
pub moves-line : (blobs : Bool) (first : Bookmark) (old new : Cursor 64 64) (before : List Reply) (contents : Contents) (reads reads_now : ℕ) (result : Result Bool ReadFault) → IfOk result (λ more. Goes more contents reads old reads_now new) →
    OnErr result (Fails contents reads old reads_now new) → MovesOver blobs first (mark_of old) before → MakesLine (MovesOver blobs first (mark_of new)) result before (row_reply blobs (present_of new))
moves-line blobs first old new before contents reads reads_now (Ok true) goes fails over = over-more blobs first (mark_of old) (mark_of new) before over (present_of new) goes.notes.0 goes.notes.1
moves-line blobs first old new before contents reads reads_now (Ok false) goes fails over = over-same blobs first (mark_of old) (mark_of new) before over goes.notes
moves-line blobs first old new before contents reads reads_now (Err fault) goes fails over = over-same blobs first (mark_of old) (mark_of new) before over fails.notes

-- ---- two inputs

pub either-sound : (A B C D : Type 0) (result : Result Bool ReadFault) → OnOk result (A → C) → OnOk result (B → D) → OnOk result (A ⊎ B → C ⊎ D)
either-sound A B C D (Ok more) f g = λ s. elim s [ inl a ↦ inl (f a) | inr b ↦ inr (g b) ]
either-sound A B C D (Err fault) f g = tt

-- no least number of reads is said of them
pub no-least : (result : Result Bool ReadFault) → IfOk result (λ more. OnFalse more (◌≡◌ {A = ℕ} 0 0))
no-least (Ok true) = tt
no-least (Ok false) = refl
no-least (Err fault) = tt
