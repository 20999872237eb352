-- The cursors of a session, opened and closed.
use Rattle.std.proofs.Common.{◌≡◌, ℕ, zero, suc, Bool, true, false, Option, Some, None, option_map, List, [], ◌∷◌, set, refl, sym, ◌∙◌, ap, subst, unwrap_or, MatchBool, MatchOption, slice_get, is_none}
use Rattle.std.proofs.lemmas.List.{map-set}
use Rattle.std.proofs.lemmas.Bool.{false≢true, true≢false}
use Rattle.std.proofs.lemmas.Option.{none-some}
use Rattle.fl_base.specs.declared.types.KeyRange.{KeyRange}
use Rattle.fl_base.specs.declared.types.Span.{Span}
use Rattle.fl_cursor.specs.Asked.{asked_by}
use Rattle.fl_cursor.specs.declared.bookmark.Bookmark.{Bookmark}
use Rattle.fl_flash.specs.Flash.{FlashState}
use Rattle.fl_model.specs.Bare.{bare, bare_table}
use Rattle.fl_model.specs.Query.{begin}
use Rattle.fl_model.specs.Record.{Config, Plan}
use Rattle.fl_model.specs.Table as model
use Rattle.fl_words.specs.Command as command
use Rattle.fl_words.specs.Reply as reply
use Rattle.fl_words.specs.Reply.{text}
use Rattle.fl_machine.specs.Machine.{Machine, OpenCursor}
use Rattle.fl_machine.specs.Step.{Moment, Says, Located, OpenStep, cursor_at}
use Rattle.fl_rlc.specs.Table.{table_in}
use Rattle.fl_script.specs.ReplyView.{reply_text}
use Rattle.fl_script.specs.declared.reply.Reply as code
use Rattle.fl_table.specs.Standing.{Stands}
use Rattle.fl_table.specs.declared.table.Table.{Table}
use Rattle.fl_store.specs.declared.tables.Entry.{Entry}
use Rattle.fl_store.specs.Tables.{first_of}
use Rattle.fl_session.specs.Answer.{Answers, Refusal, IsReached}
use Rattle.fl_session.specs.Notes.{cursor_of, cursors_of}
use Rattle.fl_session.specs.declared.notes.Notes.{Notes}
use Rattle.fl_session.specs.declared.notes.TableCursor.{TableCursor}
use Rattle.fl_session.specs.Standing.{SessionStands}
use Rattle.fl_session.proofs.CommandReplies.{answers-saying, saying, says, step-is, table-step}
use Rattle.fl_session.proofs.NamedTable.{own-of}
use Rattle.fl_session.proofs.RefusedCommands.{answers-refused}
use Rattle.fl_store.proofs.Queried.{stands-unlogged}

-- the cursor with a number
pub cursor-told : (marks : List (Option TableCursor)) (n : ℕ) (mark : Option TableCursor) → slice_get marks n ≡ Some mark → unwrap_or (slice_get (cursors_of marks) n) None ≡ option_map cursor_of mark
cursor-told [] n mark e = absurd (none-some mark e)
cursor-told (x ∷ marks) zero mark e = let same : x ≡ mark = cc in ap (option_map cursor_of) same
cursor-told (x ∷ marks) (suc n) mark e = cursor-told marks n mark e

-- the session after a cursor was set
pub stands-set : (config : Config) (entries : List Entry) (notes : Notes) (f : FlashState) (n : ℕ) (mark : Option TableCursor) (m : Machine) → SessionStands config entries f true notes m →
    SessionStands config entries f true (record notes { cursors = set notes.cursors n mark }) (record m { cursors = set m.cursors n (option_map cursor_of mark) })
stands-set config entries notes f n mark m h = record {
  knots = h.knots;
  medium = h.medium;
  tables = h.tables;
  is_mounted = h.is_mounted;
  cursors = ap (λ (cs : List (Option OpenCursor)). set cs n (option_map cursor_of mark)) h.cursors ∙ sym (map-set (option_map cursor_of) notes.cursors n mark);
  device = h.device;
  cost_is = h.cost_is;
  power = h.power;
}

pub open-call : (config : Config) (old : Machine) (entries : List Entry) (at : ℕ) (entry : Entry) (t : Table 64 64) (asked : List ℕ) (notes : Notes) (f : FlashState) (mounted : Bool) (n : ℕ) (range : KeyRange) (span : Option Span) (mark : Bookmark) →
    SessionStands config entries f mounted notes old → IsReached entries mounted asked at → slice_get entries at ≡ Some entry → t ≡ table_in entry.table →
    ((f : FlashState) (first : ℕ) (plan : Plan) (table : model.Table) → Stands t f first plan table → asked_by mark ≡ begin range span table) →
    Answers config old (command.Open n asked range span) (SessionStands config entries f mounted (record notes { cursors = set notes.cursors n (Some (record { table = at; mark = mark })) })) f f (text reply.Done)
open-call config old entries at entry t asked notes f mounted n range span mark h r here table_is begins =
    let h' = subst (λ m. SessionStands config entries f m notes old) r.mounted_is h in
    let own = own-of config old entries f notes asked at entry h' here r.named in
    let cursor : TableCursor = record { table = at; mark = mark } in
    let notes' : Notes = record notes { cursors = set notes.cursors n (Some cursor) } in
    let c = command.Open n asked range span in
    let is : asked_by mark ≡ begin range span own.table = begins f (first_of config.plans at) (bare own.plan) (bare_table own.table) (stands-unlogged t entry table_is own.stands) in
    let after : Machine = record old { cursors = set old.cursors n (Some (cursor_of cursor)) } in
    let place : Located = record { place = at; plan = own.plan; table = own.table } in
    let opened : OpenStep old (saying c (reply.Done ∷ []) after) n range span place =
    subst (λ q. Says (saying c (reply.Done ∷ []) after) (reply.Done ∷ []) (record old { cursors = set old.cursors n (Some (record { table = at; cursor = q })) })) is (says c (reply.Done ∷ []) after) in
    let step = table-step config old (saying c (reply.Done ∷ []) after) asked (OpenStep old (saying c (reply.Done ∷ []) after) n range span) place h'.is_mounted own.found opened in
    subst (λ m. Answers config old c (SessionStands config entries f m notes') f f (text reply.Done)) (sym r.mounted_is)
    (answers-saying config old c reply.Done after entries notes' f f true refl step (stands-set config entries notes f n (Some cursor) old h'))

pub open-refused : (config : Config) (old : Machine) (entries : List Entry) (notes : Notes) (f : FlashState) (mounted : Bool) (asked : List ℕ) (n : ℕ) (range : KeyRange) (span : Option Span) (said : code.Reply) →
    SessionStands config entries f mounted notes old → Refusal entries mounted asked said → Answers config old (command.Open n asked range span) (SessionStands config entries f mounted notes) f f (reply_text said)
open-refused config old entries notes f mounted asked n range span said h r =
    answers-refused config old entries notes f mounted (command.Open n asked range span) asked (λ moment. OpenStep old moment n range span) said h r (λ moment is w. step-is config old moment (command.Open n asked range span) is w)

-- ---- closed

close-of : (config : Config) (old : Machine) (n : ℕ) (moment : Moment) (mounted : Bool) (at : Option OpenCursor) → old.mounted ≡ mounted → cursor_at old n ≡ at →
    MatchBool mounted (MatchOption at (Says moment (reply.NoCursor ∷ []) old) (λ _. Says moment (reply.Done ∷ []) (record old { cursors = set old.cursors n None }))) (Says moment (reply.NotMounted ∷ []) old) →
    MatchBool old.mounted (MatchOption (cursor_at old n) (Says moment (reply.NoCursor ∷ []) old) (λ _. Says moment (reply.Done ∷ []) (record old { cursors = set old.cursors n None }))) (Says moment (reply.NotMounted ∷ []) old)
close-of config old n moment mounted at m o h =
    subst (λ b. MatchBool b (MatchOption (cursor_at old n) (Says moment (reply.NoCursor ∷ []) old) (λ _. Says moment (reply.Done ∷ []) (record old { cursors = set old.cursors n None }))) (Says moment (reply.NotMounted ∷ []) old)) (sym m)
    (subst (λ (x : Option OpenCursor). MatchBool mounted (MatchOption x (Says moment (reply.NoCursor ∷ []) old) (λ _. Says moment (reply.Done ∷ []) (record old { cursors = set old.cursors n None }))) (Says moment (reply.NotMounted ∷ []) old)) (sym o) h)

module _ (config : Config) (old : Machine) (entries : List Entry) (notes : Notes) (f : FlashState) (n : ℕ) where
  pub close-off : (mounted : Bool) → mounted ≡ false → SessionStands config entries f mounted notes old → Answers config old (command.Close n) (SessionStands config entries f mounted notes) f f (text reply.NotMounted)
  close-off mounted off h =
      let c = command.Close n in
      answers-saying config old c reply.NotMounted old entries notes f f mounted refl
      (close-of config old n (saying c (reply.NotMounted ∷ []) old) false (cursor_at old n) (h.is_mounted ∙ off) refl (says c (reply.NotMounted ∷ []) old)) h

  pub close-none : (mounted : Bool) (mark : Option TableCursor) → mounted ≡ true → slice_get notes.cursors n ≡ Some mark → is_none mark ≡ true → SessionStands config entries f mounted notes old →
      Answers config old (command.Close n) (SessionStands config entries f mounted notes) f f (text reply.NoCursor)
  close-none mounted None on e none h =
      let c = command.Close n in
      let h' = subst (λ m. SessionStands config entries f m notes old) on h in
      let at : cursor_at old n ≡ None = ap (λ (cs : List (Option OpenCursor)). unwrap_or (slice_get cs n) None) h'.cursors ∙ cursor-told notes.cursors n None e in
      answers-saying config old c reply.NoCursor old entries notes f f mounted refl
      (close-of config old n (saying c (reply.NoCursor ∷ []) old) true None h'.is_mounted at (says c (reply.NoCursor ∷ []) old)) h
  close-none mounted (Some mark) on e none h = absurd (false≢true none)

  pub close-open : (mounted : Bool) (mark : Option TableCursor) → mounted ≡ true → slice_get notes.cursors n ≡ Some mark → is_none mark ≡ false → SessionStands config entries f mounted notes old →
      Answers config old (command.Close n) (SessionStands config entries f mounted (record notes { cursors = set notes.cursors n None })) f f (text reply.Done)
  close-open mounted None on e some h = absurd (true≢false some)
  close-open mounted (Some mark) on e some h =
      let c = command.Close n in
      let h' = subst (λ m. SessionStands config entries f m notes old) on h in
      let after : Machine = record old { cursors = set old.cursors n None } in
      let at : cursor_at old n ≡ Some (cursor_of mark) = ap (λ (cs : List (Option OpenCursor)). unwrap_or (slice_get cs n) None) h'.cursors ∙ cursor-told notes.cursors n (Some mark) e in
      answers-saying config old c reply.Done after entries (record notes { cursors = set notes.cursors n None }) f f mounted refl
      (close-of config old n (saying c (reply.Done ∷ []) after) true (Some (cursor_of mark)) h'.is_mounted at (says c (reply.Done ∷ []) after))
      (subst (λ m. SessionStands config entries f m (record notes { cursors = set notes.cursors n None }) (record old { cursors = set old.cursors n None })) (sym on) (stands-set config entries notes f n None old h'))
