-- What a session tells of the oldest blob of a table, and what it leaves.
use Rattle.std.proofs.Common.{◌≡◌, ℕ, ◌+◌, ◌≤◌, Bool, true, IsTrue, Option, Some, None, Result, Ok, Err, List, refl, sym, ◌∙◌, ap, subst, arith, IsSomeAnd, option_map, unwrap_or, find, slice_get}
use Rattle.fl_flash.specs.Flash.{FlashState}
use Rattle.fl_machine.specs.Machine.{Machine}
use Rattle.fl_machine.specs.Step.{Located, located}
use Rattle.fl_model.specs.Bare.{bare, bare_table}
use Rattle.fl_model.specs.Limits.{scan_limit}
use Rattle.fl_model.specs.Query.{BlobState}
use Rattle.fl_model.specs.Record.{Config, Plan}
use Rattle.fl_model.specs.Table as model
use Rattle.fl_model.specs.Table.{Entry as Record}
use Rattle.fl_frame.specs.Contents.{Contents, OnlyReads}
use Rattle.fl_rlc.specs.Table.{table_in}
use Rattle.fl_script.specs.declared.reply.Reply as code
use Rattle.fl_table.specs.Standing.{Stands}
use Rattle.fl_table.specs.declared.table.Table.{Table}
use Rattle.fl_store.specs.Tables.{first_of}
use Rattle.fl_store.specs.declared.tables.Entry.{Entry}
use Rattle.fl_session.specs.Answer.{IsReached, Refusal}
use Rattle.fl_queries.specs.Keys.{all_keys}
use Rattle.fl_queries.specs.OldestBlob.{is_left, oldest_blob, FindsOldest}
use Rattle.fl_session.specs.Oldest.{reads_of, FindsOf, LooksFor}
use Rattle.fl_session.specs.Standing.{SessionStands}
use Rattle.fl_session.specs.declared.notes.Notes.{Notes}
use Rattle.fl_session.proofs.Operations.{session-still}
use Rattle.fl_session.proofs.NamedTable.{own-none, own-of}
use Rattle.fl_store.proofs.Queried.{blobs-bare, stands-unlogged}

-- a log changes no blob
oldest-bare : (table : model.Table) → oldest_blob (bare_table table) ≡ oldest_blob table
oldest-bare table = ap (λ (left : Record → BlobState). option_map (λ (e : Record). e.kept.key) (find (λ (e : Record). is_left (left e)) table.entries)) (blobs-bare table)

finds-bare : (table : model.Table) (faults faults_now : ℕ) (result : Result (Option ℕ) code.Reply) → FindsOldest (bare_table table) faults faults_now result → FindsOldest table faults faults_now result
finds-bare table faults faults_now (Ok key) h = h ∙ oldest-bare table
finds-bare table faults faults_now (Err code.TheVariants.ReadFault) h = h
finds-bare table faults faults_now (Err reply) h = absurd h

-- it is told of the table with the name
finds-there : (config : Config) (m : Machine) (name : List ℕ) (at : Located) (faults faults_now : ℕ) (result : Result (Option ℕ) code.Reply) → m.mounted ≡ true → located config m name ≡ Some at → FindsOldest at.table faults faults_now result →
    FindsOf config m name faults faults_now result
finds-there config m name at faults faults_now (Ok key) on here h = (on, subst (λ o. IsSomeAnd o (λ at. FindsOldest at.table faults faults_now (Ok key))) (sym here) h)
finds-there config m name at faults faults_now (Err code.TheVariants.ReadFault) on here h =
    (on, subst (λ o. IsSomeAnd o (λ at. FindsOldest at.table faults faults_now (Err code.TheVariants.ReadFault))) (sym here) h)
finds-there config m name at faults faults_now (Err reply) on here h = absurd h

-- why it isn't told
finds-refused : (config : Config) (m : Machine) (entries : List Entry) (notes : Notes) (f : FlashState) (mounted : Bool) (asked : List ℕ) (said : code.Reply) → SessionStands config entries f mounted notes m → Refusal entries mounted asked said →
    FindsOf config m asked f.media.faults f.media.faults (Err said)
finds-refused config m entries notes f mounted asked code.TheVariants.NotMounted h r = h.is_mounted ∙ r
finds-refused config m entries notes f mounted asked code.TheVariants.NoTable h r = (h.is_mounted ∙ r.0, own-none config m entries f mounted notes asked h r.1)
finds-refused config m entries notes f mounted asked said h r = absurd r

pub looks-refused : (config : Config) (m : Machine) (entries : List Entry) (notes : Notes) (f : FlashState) (mounted : Bool) (asked : List ℕ) (said : code.Reply) → SessionStands config entries f mounted notes m → Refusal entries mounted asked said →
    LooksFor config m asked (SessionStands config entries f mounted notes) f f (Err said)
looks-refused config m entries notes f mounted asked said h r = record { finds = finds-refused config m entries notes f mounted asked said h r; stays = h; content = refl; reads = omega arith }

pub looks-there : (config : Config) (m : Machine) (entries : List Entry) (notes : Notes) (f g : FlashState) (mounted : Bool) (asked : List ℕ) (at : ℕ) (entry : Entry) (t : Table 64 64) (result : Result (Option ℕ) code.Reply) →
    SessionStands config entries f mounted notes m → IsReached entries mounted asked at → slice_get entries at ≡ Some entry → t ≡ table_in entry.table → OnlyReads f g →
    ((first : ℕ) (plan : Plan) (table : model.Table) → IsTrue f.media.tells → f.is_on ≡ true → Stands t f first plan table → FindsOldest table f.media.faults g.media.faults result) →
    ((first : ℕ) (plan : Plan) (table : model.Table) → IsTrue f.media.tells → Stands t f first plan table → g.work.reads ≤ f.work.reads + scan_limit 64 plan table all_keys None 0) →
    LooksFor config m asked (SessionStands config entries g mounted notes) f g result
looks-there config m entries notes f g mounted asked at entry t result h r here table_is only finds reads =
    let h' = subst (λ b. SessionStands config entries f b notes m) r.mounted_is h in
    let own = own-of config m entries f notes asked at entry h' here r.named in
    let first = first_of config.plans at in
    let stands = stands-unlogged t entry table_is own.stands in
    let place : Located = record { place = at; plan = own.plan; table = own.table } in
    let found = finds-bare own.table f.media.faults g.media.faults result (finds first (bare own.plan) (bare_table own.table) h'.medium.told (h'.power refl) stands) in
    let most : g.work.reads ≤ f.work.reads + scan_limit 64 own.plan own.table all_keys None 0 = reads first (bare own.plan) (bare_table own.table) h'.medium.told stands in
    let limit : reads_of config m asked ≡ scan_limit config.knots own.plan own.table all_keys None 0 =
    ap (λ (o : Option Located). unwrap_or (option_map (λ (at : Located). scan_limit config.knots at.plan at.table all_keys None 0) o) 0) own.found in
    record {
      finds = finds-there config m asked place f.media.faults g.media.faults result h'.is_mounted own.found found;
      stays = subst (λ b. SessionStands config entries g b notes m) (sym r.mounted_is) (session-still config entries notes f g m only h');
      content = ap (λ (c : Contents). c.bytes) only.contents;
      reads = omega (arith, most, limit, ap (λ n. scan_limit n own.plan own.table all_keys None 0) h'.knots);
    }
