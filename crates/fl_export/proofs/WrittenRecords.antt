-- The records of a table that a cursor gives, written one after another.
use Rattle.std.proofs.Common.{◌≡◌, ℕ, ◌-◌, ◌^◌, ◌<◌, true, ◌&&◌, Option, Some, None, Err, List, [], ◌∷◌, ◌++◌, map, refl, sym, ◌∙◌, ap, subst, append_assoc, append-nil, arith, slice_get}
use Rattle.std.proofs.lemmas.Bool.{and_parts, ltb-true}
use Rattle.fl_base.specs.Causes.{Appends, AppendsFront}
use Rattle.fl_base.proofs.Appended.{appends-append, appends-none, front-behind, front-more}
use Rattle.fl_csv.specs.Text.{entry_text}
use Rattle.fl_cursor.specs.Asked.{row_matches}
use Rattle.fl_cursor.specs.Cursor.{asked_of, mark_of, present_of, left_of, IsTold}
use Rattle.fl_cursor.specs.Going.{Notes}
use Rattle.fl_cursor.specs.declared.bookmark.Bookmark.{Bookmark}
use Rattle.fl_cursor.specs.declared.cursor.Cursor.{Cursor}
use Rattle.fl_model.specs.Query.{is_above, is_up_to}
use Rattle.fl_model.specs.Record.{Plan}
use Rattle.fl_model.specs.Row.{Row, stored_row}
use Rattle.fl_model.specs.Table.{Table, Entry}
use Rattle.fl_frame.specs.Contents.{Contents}
use Rattle.fl_page.specs.Steps.{Steps}
use Rattle.fl_page.specs.declared.fault.ReadFault.{ReadFault}
use Rattle.fl_page.specs.declared.fault.ReadFault.TheVariants.{Flash, BadPage}
use Rattle.fl_export.specs.Text.{said_of, AreAmong}
use Rattle.fl_export.specs.Writing.{NoneBad, Writes}
use Rattle.fl_export.specs.declared.fault.ExportFault.{ExportFault}
use Rattle.fl_export.specs.declared.fault.ExportFault.TheVariants.{Read}
use Rattle.fl_export.proofs.Lines.{lines, lines-more}

-- ---- each row has a greater key

-- how many keys lie behind the one that was given last
abbrev pub room : Option ℕ → ℕ
room None = 2 ^ 64
room (Some key) = 2 ^ 64 - 1 - key

above-smaller : (after : Option ℕ) (key : ℕ) → key < 2 ^ 64 → is_above after key ≡ true → room (Some key) < room after
above-smaller None key small above = omega (arith, small)
above-smaller (Some last) key small above = omega (arith, small, ltb-true last key above)

pub row-smaller : (old new : Cursor 64 64) → Notes true old new → room (mark_of new).after < room (mark_of old).after
row-smaller old new notes =
    let row = present_of new in
    let asked = asked_of old in
    let above = and_parts (row_matches asked.range asked.span row) (is_above asked.after row.key) (and_parts (row_matches asked.range asked.span row && is_above asked.after row.key) (is_up_to asked.top row.key) notes.1).0 in
    let after : (mark_of new).after ≡ Some row.key = ap (λ (m : Bookmark). m.after) notes.0 in
    subst (λ (o : Option ℕ). room o < room (mark_of old).after) (sym after) (above-smaller (mark_of old).after row.key notes.3 above.1)

-- ---- what was written so far

pub record SoFar (plan : Plan) (table : Table) (entries : List Entry) (cursor : Cursor 64 64) (contents : Contents) (told told_now : Option (List ℕ)) : Type 0 where
  pub given : List Entry
  pub left : List Entry
  pub split : entries ≡ given ++ left
  pub left_is : left_of cursor contents ≡ map stored_row left
  pub among : AreAmong table.entries left
  pub ready : IsTold cursor contents
  pub wrote : Appends told told_now (lines plan table given)

pub far-none : (plan : Plan) (table : Table) (entries : List Entry) (cursor : Cursor 64 64) (contents : Contents) (told : Option (List ℕ)) → IsTold cursor contents → left_of cursor contents ≡ map stored_row entries → AreAmong table.entries entries →
    SoFar plan table entries cursor contents told told
far-none plan table entries cursor contents told is left among = record { given = []; left = entries; split = refl; left_is = left; among = among; ready = is; wrote = appends-none told }

-- a row that is left is that of the next record
pub record Next (plan : Plan) (table : Table) (entries : List Entry) (cursor : Cursor 64 64) (contents : Contents) (given : List Entry) (row : Row) : Type 0 where
  pub entry : Entry
  pub others : List Entry
  pub split : entries ≡ given ++ entry ∷ others
  pub place : ℕ
  pub here : slice_get table.entries place ≡ Some entry
  pub row_is : row ≡ stored_row entry
  pub left_is : left_of cursor contents ≡ map stored_row others
  pub among : AreAmong table.entries others

same-head : {a b : Row} {xs ys : List Row} → a ∷ xs ≡ b ∷ ys → a ≡ b
same-head e = cc

same-tail : {a b : Row} {xs ys : List Row} → a ∷ xs ≡ b ∷ ys → xs ≡ ys
same-tail e = cc

module _ (plan : Plan) (table : Table) (entries : List Entry) (mid new : Cursor 64 64) (contents : Contents) (told told_mid : Option (List ℕ)) (far : SoFar plan table entries mid contents told told_mid) where
  next : (row : Row) → left_of mid contents ≡ row ∷ left_of new contents → Next plan table entries new contents far.given row
  next row gives = by_left far.left far.split far.among (sym far.left_is ∙ gives)
    where
      by_left : (left : List Entry) → entries ≡ far.given ++ left → AreAmong table.entries left → map stored_row left ≡ row ∷ left_of new contents → Next plan table entries new contents far.given row
      by_left [] split among e = absurd (cc e)
      by_left (entry ∷ others) split among e = record {
        entry = entry;
        others = others;
        split = split;
        place = among.0.0;
        here = among.0.1;
        row_is = sym (same-head e);
        left_is = sym (same-tail e);
        among = among.1;
      }

  module _ (row : Row) (n : Next plan table entries new contents far.given row) (now : Option (List ℕ)) where
    -- its line was written
    far-more : IsTold new contents → Appends told_mid now (entry_text (said_of plan table n.entry)) → SoFar plan table entries new contents told now
    far-more is wrote = record {
      given = far.given ++ n.entry ∷ [];
      left = n.others;
      split = n.split ∙ sym (append_assoc far.given (n.entry ∷ []) n.others);
      left_is = n.left_is;
      among = n.among;
      ready = is;
      wrote = subst (λ (l : List ℕ). Appends told now l) (sym (lines-more plan table far.given n.entry [] ∙ ap (λ (l : List ℕ). lines plan table far.given ++ l) (append-nil (entry_text (said_of plan table n.entry)))))
          (appends-append told told_mid now (lines plan table far.given) (entry_text (said_of plan table n.entry)) far.wrote wrote);
    }

    -- .. or a front of it
    far-failed : (fault : ExportFault) → Writes (entry_text (said_of plan table n.entry)) told_mid now (Err fault) → Writes (lines plan table entries) told now (Err fault)
    far-failed fault writes =
        let all : lines plan table entries ≡ lines plan table far.given ++ (entry_text (said_of plan table n.entry) ++ lines plan table n.others) =
        ap (lines plan table) n.split ∙ lines-more plan table far.given n.entry n.others in (
          writes.0,
          subst (λ (l : List ℕ). AppendsFront told now l) (sym all)
              (front-behind told told_mid now (lines plan table far.given) (entry_text (said_of plan table n.entry) ++ lines plan table n.others) far.wrote
              (front-more told_mid now (entry_text (said_of plan table n.entry)) (lines plan table n.others) writes.1)),
        )

  -- the line of the next row was written
  pub far-next : (row present : Row) (now : Option (List ℕ)) → row ≡ present → left_of mid contents ≡ present ∷ left_of new contents → IsTold new contents →
      ((place : ℕ) (entry : Entry) → slice_get table.entries place ≡ Some entry → row ≡ stored_row entry → Appends told_mid now (entry_text (said_of plan table entry))) → SoFar plan table entries new contents told now
  far-next row present now is gives ready wrote = let n = next present gives in far-more present n now ready (wrote n.place n.entry n.here (is ∙ n.row_is))

  -- .. or a front of it
  pub far-stopped : (row present : Row) (now : Option (List ℕ)) (fault : ExportFault) → row ≡ present → left_of mid contents ≡ present ∷ left_of new contents →
      ((place : ℕ) (entry : Entry) → slice_get table.entries place ≡ Some entry → row ≡ stored_row entry → Writes (entry_text (said_of plan table entry)) told_mid now (Err fault)) → Writes (lines plan table entries) told now (Err fault)
  far-stopped row present now fault is gives writes = let n = next present gives in far-failed present n now fault (writes n.place n.entry n.here (is ∙ n.row_is))

  -- a page wasn't read
  pub far-unread : (row : Row) (e : ReadFault) → Steps (Err e) (left_of mid contents) row (left_of new contents) → Writes (lines plan table entries) told told_mid (Err (Read e))
  far-unread row e steps = (good e steps, front)
    where
      good : (e : ReadFault) → Steps (Err e) (left_of mid contents) row (left_of new contents) → NoneBad (Read e)
      good (Flash fault) h = tt
      good (BadPage bad) h = h

      all : lines plan table entries ≡ lines plan table far.given ++ lines plan table far.left
      all = ap (lines plan table) far.split ∙ by_left far.left
        where
          by_left : (left : List Entry) → lines plan table (far.given ++ left) ≡ lines plan table far.given ++ lines plan table left
          by_left [] = ap (lines plan table) (append-nil far.given) ∙ sym (append-nil (lines plan table far.given))
          by_left (entry ∷ others) = lines-more plan table far.given entry others

      front : AppendsFront told told_mid (lines plan table entries)
      front = (lines plan table far.given, (lines plan table far.left, sym all), far.wrote)

  -- no row is left
  pub far-all : left_of mid contents ≡ [] → Appends told told_mid (lines plan table entries)
  far-all end = by_left far.left far.split (sym far.left_is ∙ end)
    where
      by_left : (left : List Entry) → entries ≡ far.given ++ left → map stored_row left ≡ [] → Appends told told_mid (lines plan table entries)
      by_left [] split e = subst (λ (es : List Entry). Appends told told_mid (lines plan table es)) (sym (split ∙ append-nil far.given)) far.wrote
      by_left (entry ∷ others) split e = absurd (cc e)
