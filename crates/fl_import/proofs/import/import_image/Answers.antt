use Rattle.std.proofs.Common.{◌≡◌, ◌<◌, ◌≤◌, inl, inr, rules, List, length, refl, sym, ◌∙◌, ap, subst, arith}
use Rattle.std.proofs.Math.Nat.{le_refl}
use Rattle.std.proofs.lemmas.Option.{slice_get_within}
use Rattle.fl_base.proofs.Risen.{rose-back}
use Rattle.fl_store.proofs.Unarmed.{opened-unarmed}
use Rattle.fl_image.proofs.Made.{made-by}
use Rattle.fl_model.specs.Record.{Plan}
use Rattle.fl_store.specs.FoundTable.{FindsNone}
use Rattle.fl_store.specs.Tables.{IsNamed}
use Rattle.fl_store.specs.declared.tables.Tables.{Tables}
use Rattle.fl_store.proofs.FoundTables.{found-holds}
use Rattle.fl_store.proofs.Jobs.{job-over, unopened}
use Rattle.fl_store.proofs.Named.{image-with}
use Rattle.fl_store.proofs.Opened.{looks-keeps, keeps-then, same-lines}
use Rattle.fl_store.proofs.ImageRepairs.{others-after, others-still}
use Rattle.fl_store.proofs.Worked.{worked-by, worked-keeps, worked-others, worked-rose}
use Rattle.fl_import.specs.Images.{FormsAt, IsOfMounted, told_of}
use Rattle.fl_import.specs.Over.{ImportsOver}
use Rattle.fl_import.specs.Taking.{EndedOver}
use Rattle.fl_import.proofs.AllLines.{as-plan}
use Rattle.fl_import.proofs.ImageEnds.{early-ends, early-fits, early-undone, ends-seen, fits-table, form-own, form-then, not-early}
use Rattle.fl_import.proofs.import.import_image.Goals as goal

-- ---- no table was found

pub returns-in-Err-clause-ends : goal.returns-in-Err-clause-ends
returns-in-Err-clause-ends g c = λ config tables text tells made image is.
    rw c.of.ensures (early-ends (g.M.Media.state c.args.media.now) (g.M.Media.state c.begin.new.media) c.args.name c.in-Err.status c.in-Err.ensures.none config tables text c.args.gone (g.K.Sink.written c.args.out.now) (g.S.Source.left c.args.input.now) made tells image c.in-Err.ensures.looks is)

pub returns-in-Err-clause-repairs : goal.returns-in-Err-clause-repairs
returns-in-Err-clause-repairs g c = λ config tables tells made image well. others-still config c.args.name _ _ c.in-Err.ensures.looks.content

pub returns-in-Err-clause-kept : goal.returns-in-Err-clause-kept
returns-in-Err-clause-kept g c = rw c.of.ensures (early-undone (g.M.Media.state c.args.media.now) (g.M.Media.state c.begin.new.media) c.args.name c.in-Err.status c.in-Err.ensures.none)

pub returns-in-Err-clause-form : goal.returns-in-Err-clause-form
returns-in-Err-clause-form g c = rw c.of.ensures (λ tells. tt)

pub returns-in-Err-clause-formed : goal.returns-in-Err-clause-formed
returns-in-Err-clause-formed g c = rw c.of.ensures (λ line is. absurd (subst (FindsNone (g.M.Media.state c.args.media.now) (g.M.Media.state c.begin.new.media) c.args.name) is c.in-Err.ensures.none))

pub returns-in-Err-clause-fits : goal.returns-in-Err-clause-fits
returns-in-Err-clause-fits g c = rw c.of.ensures (λ tells. early-fits (g.M.Media.state c.args.media.now) (g.M.Media.state c.begin.new.media) c.args.name c.in-Err.status c.in-Err.ensures.none (g.S.Source.left c.args.input.now) tells)

pub returns-in-Err-clause-device : goal.returns-in-Err-clause-device
returns-in-Err-clause-device g c = rw c.of.ensures (λ is. subst (FindsNone (g.M.Media.state c.args.media.now) (g.M.Media.state c.begin.new.media) c.args.name) is c.in-Err.ensures.none)

pub returns-in-Err-clause-known : goal.returns-in-Err-clause-known
returns-in-Err-clause-known g c = rw c.of.ensures (λ is. subst (FindsNone (g.M.Media.state c.args.media.now) (g.M.Media.state c.begin.new.media) c.args.name) is c.in-Err.ensures.none)

pub returns-in-Err-clause-changes : goal.returns-in-Err-clause-changes
returns-in-Err-clause-changes g c = λ tells. inr c.in-Err.ensures.looks.content

pub returns-in-Err-clause-read : goal.returns-in-Err-clause-read
returns-in-Err-clause-read g c = rw c.of.ensures (λ is. absurd (subst (FindsNone (g.M.Media.state c.args.media.now) (g.M.Media.state c.begin.new.media) c.args.name) is c.in-Err.ensures.none))

pub returns-in-Err-clause-write : goal.returns-in-Err-clause-write
returns-in-Err-clause-write g c = rw c.of.ensures (λ is. absurd (subst (FindsNone (g.M.Media.state c.args.media.now) (g.M.Media.state c.begin.new.media) c.args.name) is c.in-Err.ensures.none))

pub returns-in-Err-clause-keeps : goal.returns-in-Err-clause-keeps
returns-in-Err-clause-keeps g c = looks-keeps _ _ c.in-Err.ensures.looks

pub returns-in-Err-clause-over : goal.returns-in-Err-clause-over
returns-in-Err-clause-over g c = rw c.of.ensures (inl (unopened (g.M.Media.state c.args.media.now) (g.M.Media.state c.begin.new.media) c.args.name c.in-Err.status c.in-Err.ensures.none, c.in-Err.ensures.looks, (refl, refl, refl)))

-- ---- it was found, and imported into

pub import_on-end-requires-clause-room : goal.import_on-end-requires-clause-room
import_on-end-requires-clause-room g c = c.in-Ok.ensures.page _ c.over-flash.ensures.opened.device

pub import_on-end-requires-clause-at : goal.import_on-end-requires-clause-at
import_on-end-requires-clause-at g c =
    let named = c.in-Ok.ensures.table.named in
    subst (λ (t : Tables). c.in-Ok.begun.found.at < length t.entries.items) (sym c.over-flash.ensures.tables) (slice_get_within c.in-Ok.begun.found.layout.tables.entries.items c.in-Ok.begun.found.at named.entry named.here)

pub import_on-end-requires-clause-unarmed : goal.import_on-end-requires-clause-unarmed
import_on-end-requires-clause-unarmed g c = opened-unarmed _ _ _ c.over-flash.ensures.opened

pub import_on-end-requires-clause-few : goal.import_on-end-requires-clause-few
import_on-end-requires-clause-few g c = subst (λ (t : Tables). length t.entries.items ≤ 4) (sym c.over-flash.ensures.tables) c.in-Ok.ensures.table.few

pub returns-clause-ends : goal.returns-clause-ends
returns-clause-ends g c = λ config tables text tells made image is.
    let looks = c.in-Ok.ensures.looks in
    let holds = found-holds (g.M.Media.state c.args.media.now) (g.M.Media.state c.begin.new.media) c.args.name config made tables tells image looks c.in-Ok.begun.found c.in-Ok.ensures.table _ _ c.over-flash.ensures.holds in
    let opened = c.over-flash.ensures.opened in
    let e : g.M.Media.state c.media-1.given.0 ≡ g.M.Media.state c.close-media.result.now = search rules in
    let worked = worked-by opened c.import_on-end.ensures.goes (e ∙ c.close-media.ensures.state) in
    let lines = c.in-Ok.begun.found.config in
    let is_image = c.in-Ok.ensures.table.image tells in
    let made_is = made-by lines config (same-lines config made (g.M.Media.state c.args.media.now).content tables lines image is_image.0 is_image.1) in
    let forms = subst (λ (plans : List Plan). FormsAt c.form_at-form.result plans c.in-Ok.begun.found.at) made_is.plans_are (c.form_at-form.ensures.form lines c.in-Ok.ensures.table.layout.tables) in
    ends-seen config tables c.args.name text (told_of c.args.gone c.import_on-end.result.taken (g.K.Sink.written c.args.out.now) (g.K.Sink.written c.import_on-end.new.out) (g.S.Source.left c.import_on-end.new.input)) _ (g.M.Media.state c.args.media.now) _ _ _ _ c.import_on-end.new.tables.entries.items looks worked holds.medium
    c.import_on-end.result.kept c.import_on-end.result.status
    (c.import_on-end.ensures.ends config.plans tables c.args.name text holds.medium.told opened.on opened.calm holds.stand (subst (λ (t : Tables). IsNamed t.entries.items c.args.name c.in-Ok.begun.found.at) (sym c.over-flash.ensures.tables) c.in-Ok.ensures.table.named) forms is)

pub returns-clause-repairs : goal.returns-clause-repairs
returns-clause-repairs g c = λ config tables tells made image well.
    let looks = c.in-Ok.ensures.looks in
    let holds = found-holds (g.M.Media.state c.args.media.now) (g.M.Media.state c.begin.new.media) c.args.name config made tables tells image looks c.in-Ok.begun.found c.in-Ok.ensures.table _ _ c.over-flash.ensures.holds in
    let opened = c.over-flash.ensures.opened in
    let e : g.M.Media.state c.media-1.given.0 ≡ g.M.Media.state c.close-media.result.now = search rules in
    others-after config c.args.name _ _ _ looks.content (worked-others _ _ _ _ _ (worked-by opened c.import_on-end.ensures.goes (e ∙ c.close-media.ensures.state)) config holds.medium c.args.name
    (c.import_on-end.ensures.repairs config.plans tables c.args.name holds.medium.told opened.on opened.calm holds.stand (subst (λ (t : Tables). IsNamed t.entries.items c.args.name c.in-Ok.begun.found.at) (sym c.over-flash.ensures.tables) c.in-Ok.ensures.table.named) well))

pub returns-clause-form : goal.returns-clause-form
returns-clause-form g c = λ tells.
    let table = c.in-Ok.ensures.table in
    let image = table.image tells in
    form-own _ c.args.name (g.S.Source.left c.args.input.now) (g.S.Source.left c.args.input.now) c.in-Ok.begun.found.config c.in-Ok.begun.found.layout.tables.entries.items image.0 image.1 table.layout.tables c.in-Ok.begun.found.at table.named c.import_on-end.result.form
    (form-then c.import_on-end.result.form c.form_at-form.result (λ form. FormsAt form c.in-Ok.begun.found.config.plans c.in-Ok.begun.found.at) c.import_on-end.ensures.form (c.form_at-form.ensures.form c.in-Ok.begun.found.config table.layout.tables))

pub returns-clause-fits : goal.returns-clause-fits
returns-clause-fits g c = λ tells.
    let table = c.in-Ok.ensures.table in
    let image = table.image tells in
    fits-table _ c.args.name (g.S.Source.left c.args.input.now) (g.S.Source.left c.import_on-end.new.input) c.in-Ok.begun.found.config c.in-Ok.begun.found.layout.tables.entries.items image.0 image.1 table.layout.tables c.in-Ok.begun.found.at table.named c.import_on-end.result.status c.import_on-end.ensures.causes.known
    (λ at bad. let lt : at < length c.in-Ok.begun.found.config.plans = omega (arith, c.import_on-end.ensures.causes.bad at bad, ap (λ (t : Tables). length t.entries.items) c.over-flash.ensures.tables, table.layout.tables.as_many) in lt)
    (λ at bad. ap g.S.Source.left (c.import_on-end.ensures.unread at bad).0)
    (λ plan text p is. as-plan (λ n b. EndedOver n b text (g.S.Source.left c.import_on-end.new.input) c.import_on-end.result.status) c.form_at-form.result plan (c.form_at-form.ensures.form c.in-Ok.begun.found.config table.layout.tables plan p) (c.import_on-end.ensures.ended text is))

pub returns-clause-device : goal.returns-clause-device
returns-clause-device g c = λ is.
    let e : g.M.Media.state c.media-1.given.0 ≡ g.M.Media.state c.close-media.result.now = search rules in
    rose-back _ _ _ c.in-Ok.ensures.looks.later (worked-rose _ _ _ _ _ (worked-by c.over-flash.ensures.opened c.import_on-end.ensures.goes (e ∙ c.close-media.ensures.state)) (c.import_on-end.ensures.causes.device is))

pub returns-clause-known : goal.returns-clause-known
returns-clause-known g c = λ is. subst IsOfMounted is c.import_on-end.ensures.causes.known

pub returns-clause-untouched : goal.returns-clause-untouched
returns-clause-untouched g c = not-early c.import_on-end.result.status c.import_on-end.ensures.causes.known

pub returns-clause-changes : goal.returns-clause-changes
returns-clause-changes g c = λ tells.
    let table = c.in-Ok.ensures.table in
    let image = table.image tells in
    inl (image-with _ c.args.name c.in-Ok.begun.found.config c.in-Ok.begun.found.layout.tables.entries.items image.0 image.1 table.layout.tables c.in-Ok.begun.found.at table.named)

pub returns-clause-keeps : goal.returns-clause-keeps
returns-clause-keeps g c =
    let e : g.M.Media.state c.media-1.given.0 ≡ g.M.Media.state c.close-media.result.now = search rules in
    keeps-then _ _ _ c.in-Ok.ensures.looks (worked-keeps _ _ _ _ _ (worked-by c.over-flash.ensures.opened c.import_on-end.ensures.goes (e ∙ c.close-media.ensures.state)))

pub returns-clause-over : goal.returns-clause-over
returns-clause-over g c =
    let e : g.M.Media.state c.media-1.given.0 ≡ g.M.Media.state c.close-media.result.now = search rules in
    inr (job-over c.args.name (g.M.Media.state c.args.media.now) (g.M.Media.state c.begin.new.media) _ c.in-Ok.begun.found _ _ _ (ImportsOver c.import_on-end.result c.args.input.now c.import_on-end.new.input c.args.out.now c.import_on-end.new.out)
    c.in-Ok.ensures.table c.in-Ok.ensures.looks c.over-flash.ensures.tables c.over-flash.ensures.opened c.import_on-end.ensures.goes (e ∙ c.close-media.ensures.state) c.import_on-end.ensures.over)

pub returns-in-Err-clause-untouched : goal.returns-in-Err-clause-untouched
returns-in-Err-clause-untouched g c = λ early. (c.in-Err.ensures.looks, refl, refl)

pub returns-in-Err-clause-unread : goal.returns-in-Err-clause-unread
returns-in-Err-clause-unread g c = λ table is. (refl, refl)

pub returns-in-Err-clause-later : goal.returns-in-Err-clause-later
returns-in-Err-clause-later g c = (le_refl (g.S.Source.faults c.args.input.now), le_refl (g.K.Sink.faults c.args.out.now))

pub returns-clause-kept : goal.returns-clause-kept
returns-clause-kept g c = c.import_on-end.ensures.causes.kept_is

pub returns-clause-formed : goal.returns-clause-formed
returns-clause-formed g c = c.import_on-end.ensures.formed

pub returns-clause-unread : goal.returns-clause-unread
returns-clause-unread g c = c.import_on-end.ensures.unread

pub returns-clause-read : goal.returns-clause-read
returns-clause-read g c = c.import_on-end.ensures.causes.read

pub returns-clause-write : goal.returns-clause-write
returns-clause-write g c = c.import_on-end.ensures.causes.write

pub returns-clause-later : goal.returns-clause-later
returns-clause-later g c = c.import_on-end.ensures.causes.later
