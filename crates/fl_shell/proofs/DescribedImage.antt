-- What a shell tells of its image, line by line.
use Rattle.std.proofs.Common.{◌≡◌, ◌⊎◌, ℕ, zero, suc, ◌+◌, ◌*◌, ◌<◌, ◌≤◌, Bool, true, false, cond, inl, inr, Option, Some, None, Result, Ok, Err, List, [], ◌∷◌, ◌++◌, length, take, refl, sym, ◌∙◌, ap, subst, append_assoc, append-nil, length-append, arith, pos_of_ne-zero}
use Rattle.std.specs.Prelude.{IfSome, IsSomeAnd, nat_lt, slice_get}
use Rattle.std.specs.List.{list_any}
use Rattle.std.proofs.Math.Nat.{add-mul}
use Rattle.std.proofs.lemmas.Bool.{lt-ltb}
use Rattle.fl_base.specs.Causes.{Appends, AppendsFront, Rose}
use Rattle.fl_base.specs.declared.types.RingPlace.{RingPlace}
use Rattle.fl_base.proofs.Appended.{appends-append, front-behind, front-more}
use Rattle.fl_flash.specs.Flash.{FlashState}
use Rattle.fl_model.specs.Bare.{bare}
use Rattle.fl_model.specs.Record.{Config, Plan}
use Rattle.fl_model.specs.Table.{Table}
use Rattle.fl_machine.specs.Machine.{Machine}
use Rattle.fl_machine.specs.Step.{Located, located}
use Rattle.fl_plan.specs.Plan.{IsConfigOf, IsRingAt, Label, blocks_in, label_of, plan_of_table, with_log}
use Rattle.fl_plan.specs.declared.table_config.TableConfig.{TableConfig}
use Rattle.fl_plan.proofs.RingPlaces.{ring-blocks}
use Rattle.fl_rlc.specs.Rings.{rings_of}
use Rattle.fl_rlc.specs.declared.rings.RingCounts.{RingCounts}
use Rattle.fl_script.specs.Written.{Written}
use Rattle.fl_script.specs.declared.reply.Reply as code
use Rattle.fl_script.proofs.SinkPieces.{written-behind}
use Rattle.fl_session.specs.Held.{TellsTable, TellsCounts, TellsRings, TellsLast}
use Rattle.fl_queries.specs.OldestBlob.{oldest_blob, FindsOldest}
use Rattle.fl_session.specs.Oldest.{FindsOf, LooksFor}
use Rattle.fl_table.specs.Look.{counts_of}
use Rattle.fl_table.specs.declared.counts.TableCounts.{TableCounts}
use Rattle.fl_words.specs.Medium.{device_text, table_text}
use Rattle.fl_words.specs.Reply as reply
use Rattle.fl_words.specs.Reply.{text}
use Rattle.fl_shell.specs.Beside.{AddsBlobs, TellsBeside, WritesTable}
use Rattle.fl_shell.specs.Talk.{beside_in, beside_of, blobs_text, counts_text, described, described_each, description, held_in, held_of, key_line, oldest_line, rings_text, sizes_text}
use Rattle.fl_shell.specs.Turning.{Describes, Looked}
use Rattle.fl_shell.proofs.LineAnswer.{looked-none}

-- ---- what a table holds

-- nothing is mounted, or no table has the name
pub held-not : (config : Config) (m : Machine) (plan : Plan) (name : List ℕ) (refusal : code.Reply) (told sizes : List ℕ) → told ≡ sizes → TellsTable config m name TellsCounts (Err refusal) → told ≡ sizes ++ held_in config m plan name
held-not config m plan name code.TheVariants.NotMounted told sizes is h = rw h (is ∙ sym (append-nil sizes))
held-not config m plan name code.TheVariants.NoTable told sizes is h = rw (h.0, h.1) (is ∙ sym (append-nil sizes))
held-not config m plan name refusal told sizes is h = absurd h

-- both figures are told of a table, or none
pub held-both : (config : Config) (m : Machine) (name : List ℕ) (counts : TableCounts) (refusal : code.Reply) → TellsTable config m name TellsCounts (Ok counts) → TellsTable config m name TellsLast (Err refusal) → ⊥
held-both config m name counts code.TheVariants.NotMounted h k = let odd : true ≡ false = sym h.0 ∙ k in cc
held-both config m name counts code.TheVariants.NoTable h k = subst (λ o. IsSomeAnd o (λ at. TellsCounts at counts)) k.1 h.1
held-both config m name counts refusal h k = absurd k

pub held-is : (config : Config) (m : Machine) (plan : Plan) (name : List ℕ) (counts : TableCounts) (key : Option ℕ) (told mid sizes : List ℕ) → mid ≡ sizes ++ counts_text counts (plan.data_blocks * plan.geometry.block) → told ≡ mid ++ key_line key →
    TellsTable config m name TellsCounts (Ok counts) → TellsTable config m name TellsLast (Ok key) → told ≡ sizes ++ held_in config m plan name
held-is config m plan name counts key told mid sizes counted last h k =
    rw h.0 (by_place (located config m name) h.1 k.1)
  where
    by_place : (o : Option Located) → IsSomeAnd o (λ at. TellsCounts at counts) → IsSomeAnd o (λ at. TellsLast at key) → told ≡ sizes ++ held_of plan o
    by_place None a b = absurd a
    by_place (Some at) a b =
        last ∙ (ap (λ l. l ++ key_line key) counted ∙ (append_assoc sizes (counts_text counts (plan.data_blocks * plan.geometry.block)) (key_line key)
        ∙ (ap (λ (c : TableCounts). sizes ++ (counts_text c (plan.data_blocks * plan.geometry.block) ++ key_line key)) a ∙ ap (λ k. sizes ++ (counts_text (counts_of at.table) (plan.data_blocks * plan.geometry.block) ++ key_line k)) b)))

-- ---- what was read for it

list-any-last : (unread : List Bool) (failed : Bool) → list_any (λ u. u) (unread ++ failed ∷ []) ≡ true → (list_any (λ u. u) unread ≡ true) ⊎ (failed ≡ true)
list-any-last [] true e = inr refl
list-any-last [] false e = cc
list-any-last (true ∷ unread) failed e = inl refl
list-any-last (false ∷ unread) failed e = list-any-last unread failed e

-- nothing was read of a table
pub looked-one : (config : Config) (m : Machine) (stands : Machine → Type 0) (flash : FlashState) → stands m → Looked config m (false ∷ []) stands flash flash
looked-one config m stands flash here = record { stays = here; content = refl; reads = λ most few. omega arith; cause = λ e. cc }

-- one table more was read
pub looked-more : (config : Config) (m : Machine) (unread : List Bool) (failed : Bool) (mid_stands stands : Machine → Type 0) (flash mid now : FlashState) → flash.media.faults ≤ mid.media.faults → mid.media.faults ≤ now.media.faults →
    Looked config m unread mid_stands flash mid → Looked config m (failed ∷ []) stands mid now → Looked config m (unread ++ failed ∷ []) stands flash now
looked-more config m unread failed mid_stands stands flash mid now first later a b = record {
  stays = b.stays;
  content = b.content ∙ a.content;
  reads = λ most few.
      let many : length (unread ++ failed ∷ []) * most ≡ length unread * most + 1 * most = ap (λ n. n * most) (length-append unread (failed ∷ [])) ∙ add-mul (length unread) 1 most in
      omega (arith, a.reads most few, b.reads most few, many);
  cause = λ e. elim (list-any-last unread failed e) [
    | inl x ↦ let rose = a.cause x in omega (arith, rose, later)
    | inr x ↦ let rose = b.cause (ap (λ (u : Bool). list_any (λ u. u) (u ∷ [])) x) in omega (arith, rose, first)
  ];
}

-- ---- what its other rings keep

-- nothing is mounted, or no table has the name
pub beside-not : (config : Config) (m : Machine) (plan : Plan) (name : List ℕ) (refusal : code.Reply) (stands : Machine → Type 0) (flash : FlashState) (told : List ℕ) → stands m → told ≡ [] → TellsTable config m name TellsRings (Err refusal) →
    TellsBeside config m plan name stands flash flash told
beside-not config m plan name refusal stands flash told here is h = record { unread = false; looked = looked-one config m stands flash here; text_is = by-reply refusal h }
  where
    by-reply : (refusal : code.Reply) → TellsTable config m name TellsRings (Err refusal) → told ≡ beside_in config m false plan name
    by-reply code.TheVariants.NotMounted h = rw h is
    by-reply code.TheVariants.NoTable h = rw (h.0, h.1) is
    by-reply refusal h = absurd h

-- .. or they are told, and then the oldest blob
pub beside-is : (config : Config) (m : Machine) (plan : Plan) (name : List ℕ) (rings : RingCounts) (stands : Machine → Type 0) (flash flash_now : FlashState) (told first : List ℕ) → first ≡ rings_text plan rings → TellsTable config m name TellsRings (Ok rings) →
    ((at : Located) → m.mounted ≡ true → located config m name ≡ Some at → AddsBlobs config m plan at.table stands flash flash_now first told) → TellsBeside config m plan name stands flash flash_now told
beside-is config m plan name rings stands flash flash_now told first ringed h adds = by-place (located config m name) refl h.1
  where
    by-place : (o : Option Located) → located config m name ≡ o → IsSomeAnd o (λ at. TellsRings at rings) → TellsBeside config m plan name stands flash flash_now told
    by-place None here a = absurd a
    by-place (Some at) here a =
        let blobs = adds at h.0 here in
        let own : told ≡ rings_text plan (rings_of at.table) ++ blobs_text blobs.unread plan at.table = blobs.text_is ∙ ap (λ l. l ++ blobs_text blobs.unread plan at.table) (ringed ∙ ap (λ (r : RingCounts). rings_text plan r) a) in
        let in_place : beside_in config m blobs.unread plan name ≡ rings_text plan (rings_of at.table) ++ blobs_text blobs.unread plan at.table =
        ap (λ (b : Bool). cond b (beside_of blobs.unread plan (located config m name)) []) h.0 ∙ ap (beside_of blobs.unread plan) here in
        record { unread = blobs.unread; looked = blobs.looked; text_is = own ∙ sym in_place }

-- ---- the oldest blob

-- the table keeps none
pub blobs-none : (config : Config) (m : Machine) (plan : Plan) (table : Table) (stands : Machine → Type 0) (flash : FlashState) (told : List ℕ) → stands m → plan.var_blocks ≡ 0 → AddsBlobs config m plan table stands flash flash told told
blobs-none config m plan table stands flash told here none = record {
  unread = false;
  looked = looked-one config m stands flash here;
  text_is = sym (append-nil told) ∙ ap (λ l. told ++ l) (sym (ap (λ (n : ℕ). cond (nat_lt 0 n) (oldest_line false (oldest_blob table)) []) none));
}

-- .. or it is told, by what was answered
module _ (config : Config) (m : Machine) (plan : Plan) (name : List ℕ) (at : Located) (stands : Machine → Type 0) (flash flash_now : FlashState) (told told_now : List ℕ) (some : (plan.var_blocks ≡ 0 → ⊥)) (on : m.mounted ≡ true) (here : located config m name ≡ Some at) where
  has-blobs : (unread : Bool) → blobs_text unread plan at.table ≡ oldest_line unread (oldest_blob at.table)
  has-blobs unread = ap (λ (b : Bool). cond b (oldest_line unread (oldest_blob at.table)) []) (lt-ltb 0 plan.var_blocks (pos_of_ne-zero some))

  pub blobs-told : (key : Option ℕ) → told_now ≡ told ++ oldest_line false key → LooksFor config m name stands flash flash_now (Ok key) → AddsBlobs config m plan at.table stands flash flash_now told told_now
  blobs-told key is looks =
      let found : key ≡ oldest_blob at.table = subst (λ o. IsSomeAnd o (λ at. FindsOldest at.table flash.media.faults flash_now.media.faults (Ok key))) here looks.finds.1 in
      record {
        unread = false;
        looked = record { stays = looks.stays; content = looks.content; reads = λ most few. let mine = few name in let more = looks.reads in omega (arith, mine, more); cause = λ e. cc };
        text_is = is ∙ ap (λ l. told ++ l) (ap (oldest_line false) found ∙ sym (has-blobs false));
      }

  pub blobs-unread : (reply : code.Reply) → told_now ≡ told ++ oldest_line true None → LooksFor config m name stands flash flash_now (Err reply) → AddsBlobs config m plan at.table stands flash flash_now told told_now
  blobs-unread reply is looks = record {
    unread = true;
    looked = record { stays = looks.stays; content = looks.content; reads = λ most few. let mine = few name in let more = looks.reads in omega (arith, mine, more); cause = λ e. by-reply reply looks.finds };
    text_is = is ∙ ap (λ l. told ++ l) (sym (has-blobs true));
  }
    where
      by-reply : (reply : code.Reply) → FindsOf config m name flash.media.faults flash_now.media.faults (Err reply) → Rose flash.media.faults flash_now.media.faults
      by-reply code.TheVariants.NotMounted h = let odd : true ≡ false = sym on ∙ h in cc
      by-reply code.TheVariants.NoTable h = let odd : Some at ≡ None = sym here ∙ h.1 in cc
      by-reply code.TheVariants.ReadFault h = subst (λ o. IsSomeAnd o (λ at. FindsOldest at.table flash.media.faults flash_now.media.faults (Err code.TheVariants.ReadFault))) here h.1
      by-reply reply h = absurd (subst (λ o. IsSomeAnd o (λ at. FindsOldest at.table flash.media.faults flash_now.media.faults (Err reply))) here h.1)

-- ---- a table

-- its line wasn't written whole
pub table-failed : {E : Type 0} (config : Config) (m : Machine) (o : Option Plan) (stands : Machine → Type 0) (flash : FlashState) (line : List ℕ) (told told_now : Option (List ℕ)) (error : E) → stands m → IfSome o (λ plan. line ≡ table_text plan) → AppendsFront told told_now line →
    IfSome o (λ plan. WritesTable {E = E} config m plan stands flash flash told told_now (Err error))
table-failed config m None stands flash line told told_now error here is wrote = tt
table-failed config m (Some plan) stands flash line told told_now error here is wrote = record {
  unread = false;
  looked = looked-one config m stands flash here;
  written = front-more told told_now (table_text plan ++ sizes_text plan ++ held_in config m plan plan.name) (beside_in config m false plan plan.name)
      (front-more told told_now (table_text plan ++ sizes_text plan) (held_in config m plan plan.name) (front-more told told_now (table_text plan) (sizes_text plan) (subst (λ l. AppendsFront told told_now l) is wrote)));
}

-- the figures behind its line
own-figures : (config : Config) (m : Machine) (plan : Plan) (table : TableConfig) (name figures : List ℕ) → name ≡ plan.name → IsConfigOf table (bare plan) →
    ((label : Label) → figures ≡ sizes_text (plan_of_table label table) ++ held_in config m (plan_of_table label table) name) → figures ≡ sizes_text plan ++ held_in config m plan plan.name
own-figures config m plan table name figures named of held =
    let own : figures ≡ sizes_text plan ++ held_in config m plan name = subst (λ p. figures ≡ sizes_text p ++ held_in config m p name) of.is (held (label_of (bare plan))) in
    subst (λ n. figures ≡ sizes_text plan ++ held_in config m plan n) named own

-- .. weren't
pub figures-failed : {E : Type 0} (config : Config) (m : Machine) (o : Option Plan) (table : TableConfig) (stands : Machine → Type 0) (flash : FlashState) (line name figures : List ℕ) (told mid told_now : Option (List ℕ)) (error : E) → stands m →
    IfSome o (λ plan. line ≡ table_text plan) → IfSome o (λ plan. name ≡ plan.name) → IfSome o (λ plan. IsConfigOf table (bare plan)) →
    ((label : Label) → figures ≡ sizes_text (plan_of_table label table) ++ held_in config m (plan_of_table label table) name) → Appends told mid line → AppendsFront mid told_now figures →
    IfSome o (λ plan. WritesTable {E = E} config m plan stands flash flash told told_now (Err error))
figures-failed config m None table stands flash line name figures told mid told_now error here is named of held wrote wrote_now = tt
figures-failed config m (Some plan) table stands flash line name figures told mid told_now error here is named of held wrote wrote_now = record {
  unread = false;
  looked = looked-one config m stands flash here;
  written = front-more told told_now (table_text plan ++ sizes_text plan ++ held_in config m plan plan.name) (beside_in config m false plan plan.name)
      (subst (λ l. AppendsFront told told_now l) (sym (append_assoc (table_text plan) (sizes_text plan) (held_in config m plan plan.name)))
      (front-behind told mid told_now (table_text plan) (sizes_text plan ++ held_in config m plan plan.name) (subst (λ l. Appends told mid l) is wrote) (subst (λ l. AppendsFront mid told_now l) (own-figures config m plan table name figures named of held) wrote_now)));
}

-- .. and what its other rings keep comes behind them
pub table-written : {E : Type 0} (config : Config) (m : Machine) (o : Option Plan) (table : TableConfig) (log : Option RingPlace) (log_blocks : ℕ) (first : Plan → ℕ) (stands : Machine → Type 0) (flash flash_now : FlashState) (line name figures rings : List ℕ) (told mid behind told_now : Option (List ℕ)) (result : Result (Unit {0}) E) →
    IfSome o (λ plan. line ≡ table_text plan) → IfSome o (λ plan. name ≡ plan.name) → IfSome o (λ plan. IsConfigOf table (bare plan)) → IfSome o (λ plan. IsRingAt log (first plan) plan.log_blocks) → log_blocks ≡ blocks_in log →
    ((label : Label) → figures ≡ sizes_text (plan_of_table label table) ++ held_in config m (plan_of_table label table) name) →
    ((label : Label) → TellsBeside config m (with_log log_blocks (plan_of_table label table)) name stands flash flash_now rings) → Appends told mid line → Appends mid behind figures → Written behind told_now result rings →
    IfSome o (λ plan. WritesTable {E = E} config m plan stands flash flash_now told told_now result)
table-written config m None table log log_blocks first stands flash flash_now line name figures rings told mid behind told_now result is named of logged blocks held tells wrote wrote_figures wrote_now = tt
table-written config m (Some plan) table log log_blocks first stands flash flash_now line name figures rings told mid behind told_now result is named of logged blocks held tells wrote wrote_figures wrote_now =
    let without_log : TellsBeside config m (with_log log_blocks (bare plan)) name stands flash flash_now rings = subst (λ p. TellsBeside config m (with_log log_blocks p) name stands flash flash_now rings) of.is (tells (label_of (bare plan))) in
    let own : TellsBeside config m plan name stands flash flash_now rings = subst (λ n. TellsBeside config m (with_log n (bare plan)) name stands flash flash_now rings) (blocks ∙ ring-blocks log (first plan) plan.log_blocks logged) without_log in
    let h : TellsBeside config m plan plan.name stands flash flash_now rings = subst (λ n. TellsBeside config m plan n stands flash flash_now rings) named own in
    let figures_are = own-figures config m plan table name figures named of held in
    let so_far : Appends told behind (table_text plan ++ sizes_text plan ++ held_in config m plan plan.name) =
    subst (λ l. Appends told behind l) (sym (append_assoc (table_text plan) (sizes_text plan) (held_in config m plan plan.name)))
    (appends-append told mid behind (table_text plan) (sizes_text plan ++ held_in config m plan plan.name) (subst (λ l. Appends told mid l) is wrote) (subst (λ l. Appends mid behind l) figures_are wrote_figures)) in
    record {
      unread = h.unread;
      looked = h.looked;
      written = written-behind told behind told_now (table_text plan ++ sizes_text plan ++ held_in config m plan plan.name) (beside_in config m h.unread plan plan.name) result so_far (subst (λ l. Written behind told_now result l) h.text_is wrote_now);
    }

-- ---- all of them

-- the table with this number among the others
record IsAt (plans : List Plan) (at : ℕ) : Type 0 where
  pub plan : Plan
  pub others : List Plan
  pub here : slice_get plans at ≡ Some plan
  pub split : plans ≡ take at plans ++ plan ∷ others
  pub more : take (at + 1) plans ≡ take at plans ++ plan ∷ []
  pub many : length (take at plans) ≡ at

plan-at : (plans : List Plan) (at : ℕ) → at < length plans → IsAt plans at
plan-at [] at lt = absurd (omega (arith, lt))
plan-at (p ∷ plans) zero lt = record { plan = p; others = plans; here = refl; split = refl; more = refl; many = refl }
plan-at (p ∷ plans) (suc at) lt =
    let r = plan-at plans at (omega (arith, lt)) in
    let e : suc at + 1 ≡ suc (at + 1) = omega arith in
    record { plan = r.plan; others = r.others; here = r.here; split = ap (λ ps. p ∷ ps) r.split; more = ap (λ k. take k (p ∷ plans)) e ∙ ap (λ ps. p ∷ ps) r.more; many = ap suc r.many }

-- what is described of some tables and of others
each-append : (config : Config) (m : Machine) (unread others_unread : List Bool) (plans others : List Plan) → length unread ≡ length plans →
    described_each config m (unread ++ others_unread) (plans ++ others) ≡ described_each config m unread plans ++ described_each config m others_unread others
each-append config m [] us [] others e = refl
each-append config m [] us (p ∷ plans) others e = absurd (omega (arith, e))
each-append config m (u ∷ unread) us [] others e = absurd (omega (arith, e))
each-append config m (u ∷ unread) us (p ∷ plans) others e =
    ap (λ l. described config m u p ++ l) (each-append config m unread us plans others (omega (arith, e))) ∙ sym (append_assoc (described config m u p) (described_each config m unread plans) (described_each config m us others))

-- the lines of the device and of these tables
abbrev pub so_far : Config → Machine → List Bool → List Plan → List ℕ
so_far config m unread plans = device_text config.geometry ++ described_each config m unread plans

pub record SentSoFar (config : Config) (m : Machine) (plans : List Plan) (stands : Machine → Type 0) (flash flash_now : FlashState) (told told_now : Option (List ℕ)) : Type 0 where
  pub unread : List Bool
  pub many : length unread ≡ length plans
  pub looked : Looked config m unread stands flash flash_now
  pub sent : Appends told told_now (so_far config m unread plans)

pub sent-first : (config : Config) (m : Machine) (plans : List Plan) (stands : Machine → Type 0) (flash : FlashState) (line : List ℕ) (told told_now : Option (List ℕ)) → stands m → line ≡ device_text config.geometry → Appends told told_now line →
    SentSoFar config m (take 0 plans) stands flash flash told told_now
sent-first config m plans stands flash line told told_now here is wrote =
    record { unread = []; many = refl; looked = looked-none config m stands flash here; sent = subst (λ l. Appends told told_now l) (is ∙ sym (append-nil (device_text config.geometry))) wrote }

pub sent-more : (E : Type 0) (config : Config) (m : Machine) (plans : List Plan) (at : ℕ) (mid_stands stands : Machine → Type 0) (flash flash_mid flash_now : FlashState) (told mid told_now : Option (List ℕ)) → at < length plans →
    flash.media.faults ≤ flash_mid.media.faults → flash_mid.media.faults ≤ flash_now.media.faults → SentSoFar config m (take at plans) mid_stands flash flash_mid told mid →
    IfSome (slice_get plans at) (λ plan. WritesTable {E = E} config m plan stands flash_mid flash_now mid told_now (Ok tt)) → SentSoFar config m (take (at + 1) plans) stands flash flash_now told told_now
sent-more E config m plans at mid_stands stands flash flash_mid flash_now told mid told_now lt first later h wrote =
    let r = plan-at plans at lt in
    let w = subst (λ o. IfSome o (λ plan. WritesTable {E = E} config m plan stands flash_mid flash_now mid told_now (Ok tt))) r.here wrote in
    let device = device_text config.geometry in
    let tables : described_each config m (h.unread ++ w.unread ∷ []) (take (at + 1) plans) ≡ described_each config m h.unread (take at plans) ++ described config m w.unread r.plan =
    ap (described_each config m (h.unread ++ w.unread ∷ [])) r.more ∙ (each-append config m h.unread (w.unread ∷ []) (take at plans) (r.plan ∷ []) h.many
    ∙ ap (λ l. described_each config m h.unread (take at plans) ++ l) (append-nil (described config m w.unread r.plan))) in
    let all : so_far config m h.unread (take at plans) ++ described config m w.unread r.plan ≡ so_far config m (h.unread ++ w.unread ∷ []) (take (at + 1) plans) =
    append_assoc device (described_each config m h.unread (take at plans)) (described config m w.unread r.plan) ∙ ap (λ l. device ++ l) (sym tables) in
    record {
      unread = h.unread ++ w.unread ∷ [];
      many = omega (arith, length-append h.unread (w.unread ∷ []), h.many, ap (λ (ps : List Plan). length ps) r.more, length-append (take at plans) (r.plan ∷ []));
      looked = looked-more config m h.unread w.unread mid_stands stands flash flash_mid flash_now first later h.looked w.looked;
      sent = subst (λ l. Appends told told_now l) all (appends-append told mid told_now (so_far config m h.unread (take at plans)) (described config m w.unread r.plan) h.sent w.written);
    }

-- the sink fails in the line of the device
pub device-failed : {E : Type 0} (config : Config) (m : Machine) (stands : Machine → Type 0) (flash : FlashState) (line : List ℕ) (told told_now : Option (List ℕ)) (error : E) → stands m → line ≡ device_text config.geometry → AppendsFront told told_now line →
    Describes {E = E} config m stands flash flash told told_now (Err error)
device-failed config m stands flash line told told_now error here is wrote = record {
  unread = [];
  few = omega arith;
  looked = looked-none config m stands flash here;
  written = front-more told told_now (device_text config.geometry ++ described_each config m [] config.plans) (text (reply.EndCount (length config.plans)))
      (front-more told told_now (device_text config.geometry) (described_each config m [] config.plans) (subst (λ l. AppendsFront told told_now l) is wrote));
}

regroup : (a b c d e : List ℕ) → ((a ++ b) ++ c) ++ (d ++ e) ≡ (a ++ (b ++ (c ++ d))) ++ e
regroup a b c d e = simp append_assoc

-- .. or in those of a table
pub sent-into : {E : Type 0} (config : Config) (m : Machine) (plans : List Plan) (at : ℕ) (mid_stands stands : Machine → Type 0) (flash flash_mid flash_now : FlashState) (told mid told_now : Option (List ℕ)) (error : E) → config.plans ≡ plans → length plans ≤ 4 → at < length plans →
    flash.media.faults ≤ flash_mid.media.faults → flash_mid.media.faults ≤ flash_now.media.faults → SentSoFar config m (take at plans) mid_stands flash flash_mid told mid →
    IfSome (slice_get plans at) (λ plan. WritesTable {E = E} config m plan stands flash_mid flash_now mid told_now (Err error)) → Describes {E = E} config m stands flash flash_now told told_now (Err error)
sent-into {E} config m plans at mid_stands stands flash flash_mid flash_now told mid told_now error are few lt first later h wrote =
    let r = plan-at plans at lt in
    let w = subst (λ o. IfSome o (λ plan. WritesTable {E = E} config m plan stands flash_mid flash_now mid told_now (Err error))) r.here wrote in
    let unread = h.unread ++ w.unread ∷ [] in
    let device = device_text config.geometry in
    let before = described_each config m h.unread (take at plans) in
    let own = described config m w.unread r.plan in
    let behind = described_each config m [] r.others in
    let end = text (reply.EndCount (length config.plans)) in
    let tables : described_each config m unread config.plans ≡ before ++ (own ++ behind) =
    ap (described_each config m unread) (are ∙ r.split) ∙ each-append config m h.unread (w.unread ∷ []) (take at plans) (r.plan ∷ r.others) h.many in
    let all : ((device ++ before) ++ own) ++ (behind ++ end) ≡ description config m unread = regroup device before own behind end ∙ ap (λ l. (device ++ l) ++ end) (sym tables) in
    record {
      unread = unread;
      few = omega (arith, length-append h.unread (w.unread ∷ []), h.many, r.many, lt, few);
      looked = looked-more config m h.unread w.unread mid_stands stands flash flash_mid flash_now first later h.looked w.looked;
      written = subst (λ l. AppendsFront told told_now l) all (front-more told told_now ((device ++ before) ++ own) (behind ++ end) (front-behind told mid told_now (device ++ before) own h.sent w.written));
    }

-- .. or all of them are written, and their number comes
pub sent-all : {E : Type 0} (config : Config) (m : Machine) (plans : List Plan) (count : ℕ) (stands : Machine → Type 0) (flash flash_now : FlashState) (last : List ℕ) (told mid told_now : Option (List ℕ)) (result : Result (Unit {0}) E) → config.plans ≡ plans → length plans ≤ 4 → count ≡ length plans →
    last ≡ text (reply.EndCount count) → SentSoFar config m plans stands flash flash_now told mid → Written mid told_now result last → Describes {E = E} config m stands flash flash_now told told_now result
sent-all config m plans count stands flash flash_now last told mid told_now result are few counted is h wrote =
    let n : count ≡ length config.plans = counted ∙ ap (λ (ps : List Plan). length ps) (sym are) in
    let end : last ≡ text (reply.EndCount (length config.plans)) = is ∙ ap (λ k. text (reply.EndCount k)) n in
    let sent : Appends told mid (so_far config m h.unread config.plans) = subst (λ ps. Appends told mid (so_far config m h.unread ps)) (sym are) h.sent in
    record {
      unread = h.unread;
      few = omega (arith, h.many, few);
      looked = h.looked;
      written = written-behind told mid told_now (so_far config m h.unread config.plans) (text (reply.EndCount (length config.plans))) result sent (subst (λ l. Written mid told_now result l) end wrote);
    }
