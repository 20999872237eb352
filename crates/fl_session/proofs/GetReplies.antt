-- The get of a session.
use Rattle.std.proofs.Common.{◌≡◌, ℕ, Bool, true, false, ◌-◌, IsTrue, Option, Some, None, Result, ◌⊎◌, List, [], ◌∷◌, inl, inr, refl, sym, ◌∙◌, ap, subst, arith, slice_get, MatchBool, MatchOption, not, ◌&&◌}
use Rattle.fl_flash.specs.Flash.{FlashState}
use Rattle.fl_flash.specs.declared.armed.Armed.{Armed}
use Rattle.fl_flash.specs.declared.flash.Work.{Work}
use Rattle.fl_model.specs.Bare.{bare, bare_table}
use Rattle.fl_model.specs.Query.{entry_at}
use Rattle.fl_model.specs.Record.{Config, Plan}
use Rattle.fl_model.specs.Spline.{retained, is_covered, is_pending_key, lookup_limit, lookup_reads}
use Rattle.fl_model.specs.Table as model
use Rattle.fl_frame.proofs.ContentsInTurn.{OnlyReads-goes}
use Rattle.fl_frame.specs.Contents.{OnlyReads}
use Rattle.fl_words.specs.Command as command
use Rattle.fl_words.specs.Reply as reply
use Rattle.fl_words.specs.Reply.{Reply, texts}
use Rattle.fl_machine.specs.Machine.{Machine, OfGet}
use Rattle.fl_machine.specs.Reads.{OnTable, none_read}
use Rattle.fl_machine.specs.Step.{Moment, Located, located, GetStep, found_reply}
use Rattle.fl_frame.specs.Device.{ArmsAs}
use Rattle.fl_rlc.specs.Table.{table_in}
use Rattle.fl_script.specs.ReplyView.{reply_text}
use Rattle.fl_script.specs.Written.{Written}
use Rattle.fl_script.specs.declared.reply.Reply as code
use Rattle.fl_table.specs.Standing.{Stands}
use Rattle.fl_table.specs.declared.table.Table.{Table}
use Rattle.fl_store.specs.declared.tables.Entry.{Entry}
use Rattle.fl_store.specs.Tables.{first_of}
use Rattle.fl_store.proofs.Queried.{stands-unlogged}
use Rattle.fl_store.proofs.TablesOnlyRead.{tables-read}
use Rattle.fl_store.proofs.Worked.{medium-goes}
use Rattle.fl_queries.specs.LookSays.{LookSays, ReadsFew}
use Rattle.fl_queries.specs.Looked.{Looks}
use Rattle.fl_queries.proofs.RowLines.{one-text}
use Rattle.fl_session.specs.Answer.{Refusal, IsReached}
use Rattle.fl_session.specs.Execute.{Executes}
use Rattle.fl_session.specs.Cost.{cost_of, HasRead, ReadsGet}
use Rattle.fl_session.specs.declared.notes.Notes.{Notes}
use Rattle.fl_session.specs.declared.cost.Cost.{Cost}
use Rattle.fl_session.specs.declared.cost.Cost.TheVariants as code_cost
use Rattle.fl_session.specs.Standing.{SessionStands}
use Rattle.fl_session.proofs.CommandReplies.{executes-answered, executes-read, step-is, table-step}
use Rattle.fl_session.proofs.NamedTable.{own-of, own-none}
use Rattle.fl_session.proofs.CountedReads.{read-none}
use Rattle.fl_session.proofs.RefusedCommands.{answers-refused}
use Rattle.fl_session.proofs.Unlogged.{looks-unlogged}

-- what reads leave of a session
module _ (f g : FlashState) (only : OnlyReads f g) where
  -- the session still stands, for a machine that knows what was read
  pub session-read : (config : Config) (entries : List Entry) (notes : Notes) (cost : Cost) (m : Machine) → SessionStands config entries f true notes m →
      SessionStands config entries g true (record notes { cost = cost }) (record m { cost = cost_of cost })
  session-read config entries notes cost m h = record {
    knots = h.knots;
    medium = medium-goes config f g (OnlyReads-goes f g only) h.medium;
    tables = tables-read f g only config.plans entries m.tables h.tables;
    is_mounted = h.is_mounted;
    cursors = h.cursors;
    device = record {
      armed = subst (λ (a : Option Armed). ArmsAs m.device.armed a) (sym only.armed) h.device.armed;
      programs = h.device.programs ∙ sym (ap (λ (w : Work). w.programs) only.work);
      erases = h.device.erases ∙ sym (ap (λ (w : Work). w.erases) only.work);
    };
    cost_is = refl;
    power = λ mounted. only.power ∙ h.power mounted;
  }

-- a command on a table is executed
pub on-table : (config : Config) (old : Machine) (moment : Moment) (name : List ℕ) (P : Located → Type 0) (at : Located) → old.mounted ≡ true → located config old name ≡ Some at → P at → OnTable config old moment name P
on-table config old moment name P at e k p =
    subst (λ b. MatchBool b (MatchOption (located config old name) (none_read moment) P) (none_read moment)) (sym e)
    (subst (λ (x : Option Located). MatchOption x (none_read moment) P) (sym k) p)

-- .. or it isn't
pub off-table : (config : Config) (old : Machine) (entries : List Entry) (notes : Notes) (f : FlashState) (mounted : Bool) (moment : Moment) (asked : List ℕ) (P : Located → Type 0) (said : code.Reply) →
    SessionStands config entries f mounted notes old → Refusal entries mounted asked said → none_read moment → OnTable config old moment asked P
off-table config old entries notes f mounted moment asked P code.TheVariants.NotMounted h r none =
    subst (λ b. MatchBool b (MatchOption (located config old asked) (none_read moment) P) (none_read moment)) (sym (h.is_mounted ∙ r)) none
off-table config old entries notes f mounted moment asked P code.TheVariants.NoTable h r none =
    subst (λ b. MatchBool b (MatchOption (located config old asked) (none_read moment) P) (none_read moment)) (sym (h.is_mounted ∙ r.0))
    (subst (λ (x : Option Located). MatchOption x (none_read moment) P) (sym (own-none config old entries f mounted notes asked h r.1)) none)
off-table config old entries notes f mounted moment asked P said h r none = absurd r

has-parts : (pending covered : Bool) → IsTrue (not pending && covered) → (pending ≡ false) × (covered ≡ true)
has-parts true covered e = cc
has-parts false covered e = (refl, e)

-- why the row isn't told
pub look-said : (t : Table 64 64) (entry : Entry) (key : ℕ) (f g : FlashState) (said : Reply) → t ≡ table_in entry.table → LookSays t key f g said → LookSays (table_in entry.table) key f g said
look-said t entry key f g said is h = subst (λ (x : Table 64 64). LookSays x key f g said) is h

pub reads-few : (t : Table 64 64) (entry : Entry) (f g : FlashState) → t ≡ table_in entry.table → OnlyReads f g → ReadsFew t f g → ReadsFew (table_in entry.table) f g
reads-few t entry f g is only few = subst (λ (x : Table 64 64). ReadsFew x f g) is few

-- a get that is executed
pub get-executes : (E : Type 0) (config : Config) (old : Machine) (entries : List Entry) (at : ℕ) (entry : Entry) (t : Table 64 64) (asked : List ℕ) (notes : Notes) (f g : FlashState) (reads limit key : ℕ) (mounted : Bool) (said : code.Reply) (told told_now : Option (List ℕ)) (result : Result (Unit {0}) E) →
    SessionStands config entries f mounted notes old → IsReached entries mounted asked at → slice_get entries at ≡ Some entry → t ≡ table_in entry.table → OnlyReads f g → HasRead f reads g → reads ≡ g.work.reads - f.work.reads →
    ((f : FlashState) (first : ℕ) (plan : Plan) (table : model.Table) → Stands t f first plan table → limit ≡ lookup_limit 64 plan table key) →
    ((first : ℕ) (plan : Plan) (table : model.Table) → IsTrue f.media.tells → f.is_on ≡ true → Stands t f first plan table → Looks plan table key f.media.faults g.media.faults f.work.reads g.work.reads (reply_text said)) →
    Written told told_now result (reply_text said) →
    Executes config old (command.Get asked key) (SessionStands config entries g mounted (record notes { cost = code_cost.OfGet reads limit })) f g told told_now result
get-executes E config old entries at entry t asked notes f g reads limit key mounted said told told_now result h r here table_is only counted reads_are limits looks wrote =
    let h' = subst (λ m. SessionStands config entries f m notes old) r.mounted_is h in
    let own = own-of config old entries f notes asked at entry h' here r.named in
    let first = first_of config.plans at in
    let stands = stands-unlogged t entry table_is own.stands in
    let s = looks-unlogged own.plan own.table (looks first (bare own.plan) (bare_table own.table) h'.medium.told (h'.power refl) stands) in
    let is : limit ≡ lookup_limit config.knots own.plan own.table key = limits f first (bare own.plan) (bare_table own.table) stands ∙ ap (λ n. lookup_limit n own.plan own.table key) (sym h'.knots) in
    let moment : Moment = record { command = command.Get asked key; rose = s.rose; reads = reads; last = None; replies = s.reply ∷ []; after = record old { cost = OfGet reads (lookup_limit config.knots own.plan own.table key) } } in
    let place : Located = record { place = at; plan = own.plan; table = own.table } in
    let replied : (moment.replies ≡ found_reply own.plan (entry_at key own.table.entries) ∷ []) ⊎ (IsTrue moment.rose × (moment.replies ≡ reply.ReadFault ∷ [])) = elim s.reply_is [ inl e ↦ inl (ap (λ (x : Reply). x ∷ []) e) | inr e ↦ inr (e.0, ap (λ (x : Reply). x ∷ []) e.1) ] in
    let step = table-step config old moment asked (GetStep config old moment key) place h'.is_mounted own.found (refl, refl, replied) in
    let stated : ReadsGet config moment key g place = record {
      within = omega (arith, s.within, reads_are, ap (λ n. lookup_limit n own.plan own.table key) h'.knots);
      exact = λ below. record {
        covered = λ unread has.
            let both = has-parts (is_pending_key own.table key) (is_covered (retained config.knots own.plan.error own.table.points) key) has in
            let covered : is_covered (retained 64 own.plan.error own.table.points) key ≡ true = ap (λ n. is_covered (retained n own.plan.error own.table.points) key) (sym h'.knots) ∙ both.1 in
            omega (arith, s.exact unread both.0 covered below, reads_are, ap (λ n. lookup_reads n own.plan own.table key) h'.knots);
        found = λ unread some. omega (arith, s.found unread some below, reads_are);
        failed = λ unread. omega (arith, s.failed unread below, reads_are);
      };
    } in
    let keeps : OnTable config old moment asked (ReadsGet config moment key g) = on-table config old moment asked (ReadsGet config moment key g) place h'.is_mounted own.found stated in
    let written : Written told told_now result (texts (s.reply ∷ [])) = subst (λ (l : List ℕ). Written told told_now result l) (s.said_is ∙ sym (one-text s.reply)) wrote in
    let notes' : Notes = record notes { cost = code_cost.OfGet reads limit } in
    subst (λ m. Executes config old (command.Get asked key) (SessionStands config entries g m notes') f g told told_now result) (sym r.mounted_is)
    (executes-read E config old (command.Get asked key) entries notes' f g true told told_now result moment only refl step
    (subst (λ n. SessionStands config entries g true notes' (record old { cost = OfGet reads n })) is (session-read f g only config entries notes (code_cost.OfGet reads limit) old h')) counted keeps s.risen written)

-- .. and one that isn't
pub get-refused : (E : Type 0) (config : Config) (old : Machine) (entries : List Entry) (notes : Notes) (f : FlashState) (mounted : Bool) (asked : List ℕ) (key : ℕ) (said : code.Reply) (told told_now : Option (List ℕ)) (result : Result (Unit {0}) E) →
    SessionStands config entries f mounted notes old → Refusal entries mounted asked said → Written told told_now result (reply_text said) →
    Executes config old (command.Get asked key) (SessionStands config entries f mounted notes) f f told told_now result
get-refused E config old entries notes f mounted asked key said told told_now result h r wrote =
    executes-answered E config old (command.Get asked key) (SessionStands config entries f mounted notes) f f (reply_text said) told told_now result
    (answers-refused config old entries notes f mounted (command.Get asked key) asked (λ moment. GetStep config old moment key) said h r (λ moment is w. step-is config old moment (command.Get asked key) is w)) (λ moment none. read-none f moment.reads none) (λ moment none. off-table config old entries notes f mounted moment asked (ReadsGet config moment key f) said h r none) wrote
