use Rattle.std.proofs.Common.{◌≡◌, ℕ, inl, inr, Err, true, false, IsTrue, List, [], refl, sym, ◌∙◌, ap, subst, arith, rules}
use Rattle.fl_base.specs.declared.types.Geometry.{Geometry}
use Rattle.fl_flash.specs.Media.{MediaState}
use Rattle.fl_store.proofs.Unarmed.{opened-unarmed}
use Rattle.fl_image.specs.Image.{OnlyLooksAt}
use Rattle.fl_image.proofs.Made.{made}
use Rattle.fl_image.proofs.Reach.{reach}
use Rattle.fl_image.proofs.MediaLooks.{looks-then}
use Rattle.fl_store.specs.Store.{IsLayoutOf}
use Rattle.fl_store.specs.Tables.{AreNewTables, IsNamed}
use Rattle.fl_store.specs.declared.layout.Layout.{Layout}
use Rattle.fl_store.specs.declared.tables.Tables.{Tables}
use Rattle.fl_store.proofs.Opened.{keeps-then, looks-keeps}
use Rattle.fl_store.proofs.ImageRepairs.{others-after, others-still, repaired-after, still-repaired}
use Rattle.fl_store.proofs.TablesChanged.{some-is}
use Rattle.fl_store.proofs.Worked.{held-since, worked-by, worked-image, worked-keeps, worked-others, worked-repaired, worked-rose}
use Rattle.fl_words.specs.Config.{Lines}
use Rattle.fl_words.specs.Medium.{IsImage}
use Rattle.fl_store.specs.NewImage.{made_image}
use Rattle.fl_ship.specs.Ends.{ShipEnds}
use Rattle.fl_ship.specs.Fits.{StatusFits, is_refused}
use Rattle.fl_ship.specs.Media.{bytes_of}
use Rattle.fl_ship.specs.Ready.{IsEarly}
use Rattle.fl_ship.specs.Tables.{told_of}
use Rattle.fl_ship.specs.declared.side.Side.{Side}
use Rattle.fl_ship.specs.declared.side.Side.TheVariants.{Source, Copy}
use Rattle.fl_ship.specs.declared.status.ShipStatus.{ShipStatus}
use Rattle.fl_ship.specs.declared.status.ShipStatus.TheVariants.{OutWrite, Device, BadImage}
use Rattle.fl_ship.proofs.Causes.{copy-keeps, fits-table, half-keeps, images-for, looks-copy}
use Rattle.fl_ship.proofs.ImageEnds.{copy-known, copy-made, copy-makes, formed, half-made, image-some, made-length, table-ends}
use Rattle.fl_ship.proofs.MediaEnds.{store-ends}
use Rattle.fl_ship.proofs.Forms.{one-form}
use Rattle.fl_ship.specs.Over.{WritesLine}
use Rattle.fl_ship.proofs.Statuses.{early-line, not-refused}
use Rattle.fl_ship.proofs.ship.ship_image.Given.{Over}
use Rattle.fl_ship.proofs.ship.ship_image.Goals as goal

-- each medium is the one that its store gives back
source-back : (g : Over) (c : goal.After-drop-rooms-3 g) → g.M.Media.state c.media-1.given.0 ≡ g.M.Media.state c.into_media-media.result.now
source-back g c = search rules

copy-back : (g : Over) (c : goal.After-drop-rooms-3 g) → g.C.Media.state c.copy-1.given.0 ≡ g.C.Media.state c.into_media-copy.result.now
copy-back g c = search rules

good-image : (side : Side) (table : ℕ) → Device Copy ≡ BadImage side table → ⊥
good-image side table e = cc e

no-source : Device Copy ≡ Device Source → ⊥
no-source e = cc e

no-write : Device Copy ≡ OutWrite → ⊥
no-write e = cc e

no-refusal : (status : ShipStatus) → status ≡ Device Copy → is_refused status ≡ true → ⊥
no-refusal status is refused = let e : false ≡ true = subst (λ (s : ShipStatus). is_refused s ≡ true) is refused in cc e

-- the tables of a store are those of its layout
laid : (tables : Tables) (layout : Layout) (lines : Lines) → tables ≡ layout.tables → IsLayoutOf layout lines → AreNewTables tables.entries.items lines
laid tables layout lines is own = subst (λ (t : Tables). AreNewTables t.entries.items lines) (sym is) own.tables

named-in : (tables own : Tables) (name : List ℕ) (at : ℕ) → tables ≡ own → IsNamed own.entries.items name at → IsNamed tables.entries.items name at
named-in tables own name at is named = subst (λ (t : Tables). IsNamed t.entries.items name at) (sym is) named

-- a copy that holds bytes was only looked at
looks-kept : (old mid new : MediaState) → (old.content ≡ [] → ⊥) → OnlyLooksAt old mid → ((mid.content ≡ [] → ⊥) → OnlyLooksAt mid new) → OnlyLooksAt old new
looks-kept old mid new some looks kept = looks-then old mid new looks (kept (λ empty. some (sym looks.content ∙ empty)))

-- ---- neither medium was begun with

pub returns-in-Err-clause-ends : goal.returns-in-Err-clause-ends
returns-in-Err-clause-ends g c = λ config sources copies tells copy_tells made_so image stands. c.in-Err.ensures.ends config sources copies c.args.count (g.K.Sink.written c.args.out.now) tells copy_tells made_so image stands

pub returns-in-Err-clause-stands : goal.returns-in-Err-clause-stands
returns-in-Err-clause-stands g c = λ config tables tells made_so image. (tables, subst (λ (l : List ℕ). IsImage config l tables) (sym c.in-Err.ensures.looks.content) image)

pub returns-in-Err-clause-copy_stands : goal.returns-in-Err-clause-copy_stands
returns-in-Err-clause-copy_stands g c = λ config copies tells copy_tells made_so image. (copies, subst (λ (l : List ℕ). IsImage config l copies) (sym c.in-Err.ensures.copy_looks.content) image)

pub returns-in-Err-clause-good : goal.returns-in-Err-clause-good
returns-in-Err-clause-good g c = λ config tables table tells made_so image is. subst IsEarly is c.in-Err.ensures.early

pub returns-in-Err-clause-good_copy : goal.returns-in-Err-clause-good_copy
returns-in-Err-clause-good_copy g c = λ config copies table tells copy_tells made_so stands is. subst IsEarly is c.in-Err.ensures.early

pub returns-in-Err-clause-repairs : goal.returns-in-Err-clause-repairs
returns-in-Err-clause-repairs g c = λ config sources tells made_so image well. still-repaired config _ _ c.in-Err.ensures.looks.content

pub returns-in-Err-clause-others : goal.returns-in-Err-clause-others
returns-in-Err-clause-others g c = λ config copies tells copy_tells made_so image well. others-still config c.args.name _ _ c.in-Err.ensures.copy_looks.content

pub returns-in-Err-clause-fits : goal.returns-in-Err-clause-fits
returns-in-Err-clause-fits g c = c.in-Err.ensures.fits

pub returns-in-Err-clause-device : goal.returns-in-Err-clause-device
returns-in-Err-clause-device g c = λ is. c.in-Err.ensures.device (ap (λ (s : ShipStatus). Err s) is)

pub returns-in-Err-clause-copy_device : goal.returns-in-Err-clause-copy_device
returns-in-Err-clause-copy_device g c = λ is. c.in-Err.ensures.copy_device (ap (λ (s : ShipStatus). Err s) is)

pub returns-in-Err-clause-write : goal.returns-in-Err-clause-write
returns-in-Err-clause-write g c = λ is. absurd (subst IsEarly is c.in-Err.ensures.early)

pub returns-in-Err-clause-changes : goal.returns-in-Err-clause-changes
returns-in-Err-clause-changes g c = λ tells copy_tells. inr (c.in-Err.ensures.looks.content, c.in-Err.ensures.copy_looks.content)

pub returns-in-Err-clause-untouched : goal.returns-in-Err-clause-untouched
returns-in-Err-clause-untouched g c = λ refused. (c.in-Err.ensures.looks, c.in-Err.ensures.copy_looks, refl)

pub returns-in-Err-clause-line : goal.returns-in-Err-clause-line
returns-in-Err-clause-line g c = early-line c.args.count c.args.out.now (g.K.Sink.written c.args.out.now) c.in-Err.status c.in-Err.ensures.early

pub returns-in-Err-clause-keeps : goal.returns-in-Err-clause-keeps
returns-in-Err-clause-keeps g c = looks-keeps _ _ c.in-Err.ensures.looks

pub returns-in-Err-clause-copy_keeps : goal.returns-in-Err-clause-copy_keeps
returns-in-Err-clause-copy_keeps g c = looks-copy _ _ _ c.in-Err.ensures.copy_looks

-- ---- an empty copy wasn't made

pub returns-in-Err-make_copy-clause-ends : goal.returns-in-Err-make_copy-clause-ends
returns-in-Err-make_copy-clause-ends g c = λ config sources copies tells copy_tells made_so image stands.
    let makes = c.in-Ok.ensures.ready.makes config sources tells made_so image in
    let failed = c.in-Err-make_copy.ensures.failed in
    let empty : (g.C.Media.state c.args.copy.now).content ≡ [] = sym c.in-Ok.ensures.copy_looks.content ∙ failed.1 in
    subst (λ (s : ShipStatus). ShipEnds config sources copies c.args.name c.args.count (told_of (g.M.Media.state c.args.media.now) (g.M.Media.state c.make_ready.new.media) (g.C.Media.state c.args.copy.now) (g.C.Media.state c.make_copy.new.copy) (g.K.Sink.written c.args.out.now) (g.K.Sink.written c.args.out.now)) (bytes_of (g.M.Media.state c.args.media.now) (g.M.Media.state c.make_ready.new.media) (g.C.Media.state c.args.copy.now) (g.C.Media.state c.make_copy.new.copy)) s) (sym failed.0)
    (half-made config sources copies c.args.name c.args.count (g.M.Media.state c.args.media.now) (g.M.Media.state c.make_ready.new.media) (g.C.Media.state c.args.copy.now) (g.C.Media.state c.make_copy.new.copy) (g.K.Sink.written c.args.out.now) image stands c.in-Ok.ensures.looks empty (c.make_copy.ensures.part config makes failed.1)
    (failed.2 ∙ c.in-Ok.ensures.copy_unread empty) (omega (arith, c.in-Ok.ensures.copy_looks.later, failed.3)))

pub returns-in-Err-make_copy-clause-stands : goal.returns-in-Err-make_copy-clause-stands
returns-in-Err-make_copy-clause-stands g c = λ config tables tells made_so image. (tables, subst (λ (l : List ℕ). IsImage config l tables) (sym c.in-Ok.ensures.looks.content) image)

pub returns-in-Err-make_copy-clause-copy_stands : goal.returns-in-Err-make_copy-clause-copy_stands
returns-in-Err-make_copy-clause-copy_stands g c = λ config copies tells copy_tells made_so image. absurd (image-some config (g.C.Media.state c.args.copy.now).content copies image (sym c.in-Ok.ensures.copy_looks.content ∙ c.in-Err-make_copy.ensures.failed.1))

pub returns-in-Err-make_copy-clause-good : goal.returns-in-Err-make_copy-clause-good
returns-in-Err-make_copy-clause-good g c = λ config tables table tells made_so image is. good-image Source table (sym c.in-Err-make_copy.ensures.failed.0 ∙ is)

pub returns-in-Err-make_copy-clause-good_copy : goal.returns-in-Err-make_copy-clause-good_copy
returns-in-Err-make_copy-clause-good_copy g c = λ config copies table tells copy_tells made_so stands is. good-image Copy table (sym c.in-Err-make_copy.ensures.failed.0 ∙ is)

pub returns-in-Err-make_copy-clause-repairs : goal.returns-in-Err-make_copy-clause-repairs
returns-in-Err-make_copy-clause-repairs g c = λ config sources tells made_so image well. still-repaired config _ _ c.in-Ok.ensures.looks.content

pub returns-in-Err-make_copy-clause-others : goal.returns-in-Err-make_copy-clause-others
returns-in-Err-make_copy-clause-others g c = λ config copies tells copy_tells made_so image well. absurd (image-some config (g.C.Media.state c.args.copy.now).content copies image (sym c.in-Ok.ensures.copy_looks.content ∙ c.in-Err-make_copy.ensures.failed.1))

pub returns-in-Err-make_copy-clause-fits : goal.returns-in-Err-make_copy-clause-fits
returns-in-Err-make_copy-clause-fits g c = λ tells copy_tells. subst (StatusFits (g.M.Media.state c.args.media.now).content (g.C.Media.state c.args.copy.now).content c.args.name) (sym c.in-Err-make_copy.ensures.failed.0) tt

pub returns-in-Err-make_copy-clause-device : goal.returns-in-Err-make_copy-clause-device
returns-in-Err-make_copy-clause-device g c = λ is. absurd (no-source (sym c.in-Err-make_copy.ensures.failed.0 ∙ is))

pub returns-in-Err-make_copy-clause-copy_device : goal.returns-in-Err-make_copy-clause-copy_device
returns-in-Err-make_copy-clause-copy_device g c = λ is. omega (arith, c.in-Ok.ensures.copy_looks.later, c.in-Err-make_copy.ensures.failed.3)

pub returns-in-Err-make_copy-clause-write : goal.returns-in-Err-make_copy-clause-write
returns-in-Err-make_copy-clause-write g c = λ is. absurd (no-write (sym c.in-Err-make_copy.ensures.failed.0 ∙ is))

pub returns-in-Err-make_copy-clause-changes : goal.returns-in-Err-make_copy-clause-changes
returns-in-Err-make_copy-clause-changes g c = λ tells copy_tells.
    let is = c.in-Ok.ensures.ready.image tells in
    inl (images-for (g.M.Media.state c.args.media.now).content (g.C.Media.state c.args.copy.now).content c.args.name c.in-Ok.ready.config c.in-Ok.ready.source.tables.entries.items is.0 is.1 (c.in-Ok.ensures.ready.own copy_tells) c.in-Ok.ensures.ready.source_layout.tables c.in-Ok.ready.at c.in-Ok.ensures.ready.named true c.in-Ok.ensures.ready.shipped)

pub returns-in-Err-make_copy-clause-untouched : goal.returns-in-Err-make_copy-clause-untouched
returns-in-Err-make_copy-clause-untouched g c = λ refused. absurd (no-refusal _ c.in-Err-make_copy.ensures.failed.0 refused)

pub returns-in-Err-make_copy-clause-line : goal.returns-in-Err-make_copy-clause-line
returns-in-Err-make_copy-clause-line g c = subst (WritesLine c.args.count c.args.out.now c.args.out.now (g.K.Sink.written c.args.out.now) (g.K.Sink.written c.args.out.now)) (sym c.in-Err-make_copy.ensures.failed.0) refl

pub returns-in-Err-make_copy-clause-keeps : goal.returns-in-Err-make_copy-clause-keeps
returns-in-Err-make_copy-clause-keeps g c = looks-keeps _ _ c.in-Ok.ensures.looks

pub returns-in-Err-make_copy-clause-copy_keeps : goal.returns-in-Err-make_copy-clause-copy_keeps
returns-in-Err-make_copy-clause-copy_keeps g c =
    let own = made c.in-Ok.ready.config c.in-Ok.ensures.ready.whole in
    half-keeps (g.M.Media.state c.args.media.now).content (g.C.Media.state c.args.copy.now) (g.C.Media.state c.make_ready.new.copy) (g.C.Media.state c.make_copy.new.copy) c.in-Ok.ensures.copy_looks c.in-Err-make_copy.ensures.failed.1 c.make_copy.ensures.tells c.make_copy.ensures.later
    (omega (arith, c.make_copy.ensures.part own.0 own.1 c.in-Err-make_copy.ensures.failed.1, c.in-Ok.ensures.ready.size own.0 own.1))

-- ---- both are images

pub over-from-requires-clause-layout : goal.over-from-requires-clause-layout
over-from-requires-clause-layout g c = c.in-Ok.ensures.ready.source_layout

pub over-from-requires-clause-reach : goal.over-from-requires-clause-reach
over-from-requires-clause-reach g c = λ geometry device.
    reach c.in-Ok.ready.config geometry _ (g.M.Media.state c.args.media.now).content (g.M.Media.state c.make_ready.new.media).content c.in-Ok.ensures.ready.whole device refl c.in-Ok.ensures.ready.size c.in-Ok.ensures.looks.content

pub over-onto-requires-clause-layout : goal.over-onto-requires-clause-layout
over-onto-requires-clause-layout g c = c.in-Ok.ensures.ready.copy_layout

pub over-onto-requires-clause-reach : goal.over-onto-requires-clause-reach
over-onto-requires-clause-reach g c = λ geometry device.
    let copy = (g.C.Media.state c.args.copy.now).content in
    let now = (g.C.Media.state c.make_copy.new.copy).content in
    let looks = c.in-Ok.ensures.copy_looks.content in
    reach c.in-Ok.ready.config geometry _ now now c.in-Ok.ensures.ready.whole device refl
    (made-length c.in-Ok.ready.config copy now (λ some. (c.make_copy.ensures.kept (λ empty. some (sym looks ∙ empty))).0.content ∙ looks) (λ config makes empty. c.in_default.ensures.size config makes (looks ∙ empty)) c.in-Ok.ensures.ready.copy_size) refl

pub ship_on-status-requires-clause-lie : goal.ship_on-status-requires-clause-lie
ship_on-status-requires-clause-lie g c = c.over-from.ensures.lie

pub ship_on-status-requires-clause-copies_lie : goal.ship_on-status-requires-clause-copies_lie
ship_on-status-requires-clause-copies_lie g c = c.over-onto.ensures.lie

pub ship_on-status-requires-clause-unarmed : goal.ship_on-status-requires-clause-unarmed
ship_on-status-requires-clause-unarmed g c = opened-unarmed _ _ _ c.over-from.ensures.opened

pub ship_on-status-requires-clause-copy_unarmed : goal.ship_on-status-requires-clause-copy_unarmed
ship_on-status-requires-clause-copy_unarmed g c = opened-unarmed _ _ _ c.over-onto.ensures.opened

pub ship_on-status-requires-clause-at : goal.ship_on-status-requires-clause-at
ship_on-status-requires-clause-at g c = omega (arith, c.in-Ok.ensures.ready.at, (laid _ _ _ c.over-from.ensures.tables c.in-Ok.ensures.ready.source_layout).as_many)

pub ship_on-status-requires-clause-few : goal.ship_on-status-requires-clause-few
ship_on-status-requires-clause-few g c = omega (arith, (laid _ _ _ c.over-from.ensures.tables c.in-Ok.ensures.ready.source_layout).as_many, c.tables-tables.ensures.exact, c.tables-tables.ensures.few)

pub ship_on-status-requires-clause-as_many : goal.ship_on-status-requires-clause-as_many
ship_on-status-requires-clause-as_many g c = (laid _ _ _ c.over-onto.ensures.tables c.in-Ok.ensures.ready.copy_layout).as_many ∙ sym (laid _ _ _ c.over-from.ensures.tables c.in-Ok.ensures.ready.source_layout).as_many

pub ship_on-status-requires-clause-form : goal.ship_on-status-requires-clause-form
ship_on-status-requires-clause-form g c =
    one-form c.over-from.result.tables.entries.items c.over-onto.result.tables.entries.items c.in-Ok.ready.config (laid _ _ _ c.over-from.ensures.tables c.in-Ok.ensures.ready.source_layout) (laid _ _ _ c.over-onto.ensures.tables c.in-Ok.ensures.ready.copy_layout) c.in-Ok.ready.at c.in-Ok.ensures.ready.shipped

pub ship_on-status-requires-clause-rows : goal.ship_on-status-requires-clause-rows
ship_on-status-requires-clause-rows g c = c.in-Ok.ensures.ready.rows _ c.over-from.ensures.opened.device

pub ship_on-status-requires-clause-index : goal.ship_on-status-requires-clause-index
ship_on-status-requires-clause-index g c = c.in-Ok.ensures.ready.index _ c.over-from.ensures.opened.device

pub ship_on-status-requires-clause-pages : goal.ship_on-status-requires-clause-pages
ship_on-status-requires-clause-pages g c = ap (λ (x : Geometry). x.page) (some-is c.in-Ok.ready.config.device _ _ c.over-onto.ensures.opened.device c.over-from.ensures.opened.device)

pub returns-clause-ends : goal.returns-clause-ends
returns-clause-ends g c = λ config sources copies tells copy_tells made_so image stands.
    let ready = c.in-Ok.ensures.ready in
    let copy_looks = c.in-Ok.ensures.copy_looks in
    let makes = ready.makes config sources tells made_so image in
    let content : (g.C.Media.state c.make_copy.new.copy).content ≡ made_image config (g.C.Media.state c.args.copy.now).content = c.in_default.ensures.made config makes (subst IsTrue (sym copy_looks.tells) copy_tells) ∙ ap (made_image config) copy_looks.content in
    let copy = subst (λ (l : List ℕ). IsImage config l copies) (sym content) (copy-made config (g.C.Media.state c.args.copy.now).content copies made_so stands) in
    let from = held-since config sources c.in-Ok.ready.config (g.M.Media.state c.args.media.now) (g.M.Media.state c.make_ready.new.media) _ _ tells makes image c.in-Ok.ensures.looks c.over-from.ensures.holds in
    let onto = c.over-onto.ensures.holds config copies (subst IsTrue (sym (c.make_copy.ensures.tells ∙ copy_looks.tells)) copy_tells) makes copy in
    let e = source-back g c in
    let k = copy-back g c in
    table-ends config sources copies c.args.name c.args.count _ _ c.ship_on-status.result
    (formed config sources c.args.name (g.M.Media.state c.args.media.now).content image c.in-Ok.ready.config c.in-Ok.ready.source.tables.entries.items makes ready.source_layout.tables c.in-Ok.ready.at ready.named true ready.shipped) c.ship_on-status.ensures.statuses
    (store-ends config sources copies c.args.name c.args.count c.in-Ok.ready.config (g.M.Media.state c.args.media.now) _ _ (g.C.Media.state c.args.copy.now) _ _ _ _ _ _ (g.K.Sink.written c.args.out.now) (g.K.Sink.written c.ship_on-status.new.out) c.ship_on-status.new.sources.entries.items c.ship_on-status.new.copies.entries.items c.ship_on-status.result
    (worked-by c.over-from.ensures.opened c.ship_on-status.ensures.goes (e ∙ c.into_media-media.ensures.state)) (worked-by c.over-onto.ensures.opened c.ship_on-status.ensures.copy_goes (k ∙ c.into_media-copy.ensures.state))
    from.medium onto.medium c.in-Ok.ensures.looks.later (omega (arith, copy_looks.later, c.make_copy.ensures.later))
    (c.ship_on-status.ensures.ends config.plans sources copies c.args.name from.medium.told onto.medium.told c.over-from.ensures.opened.on c.over-onto.ensures.opened.on c.over-from.ensures.opened.calm c.over-onto.ensures.opened.calm from.stand onto.stand
    (named-in _ _ _ _ c.over-from.ensures.tables ready.named) (named-in _ _ _ _ c.over-onto.ensures.tables ready.copy_named)))

pub returns-clause-stands : goal.returns-clause-stands
returns-clause-stands g c = λ config tables tells made_so image.
    let ready = c.in-Ok.ensures.ready in
    let from = held-since config tables c.in-Ok.ready.config (g.M.Media.state c.args.media.now) (g.M.Media.state c.make_ready.new.media) _ _ tells (ready.makes config tables tells made_so image) image c.in-Ok.ensures.looks c.over-from.ensures.holds in
    let now = c.ship_on-status.ensures.stands config.plans tables c.args.name from.medium.told c.over-from.ensures.opened.on c.over-from.ensures.opened.calm from.stand (named-in _ _ _ _ c.over-from.ensures.tables ready.named) in
    let e = source-back g c in
    (now.0, worked-image _ _ _ _ _ (worked-by c.over-from.ensures.opened c.ship_on-status.ensures.goes (e ∙ c.into_media-media.ensures.state)) config from.medium _ now.0 now.1)

pub returns-clause-copy_stands : goal.returns-clause-copy_stands
returns-clause-copy_stands g c = λ config copies tells copy_tells made_so image.
    let ready = c.in-Ok.ensures.ready in
    let makes = copy-makes config made_so (g.C.Media.state c.args.copy.now).content copies c.in-Ok.ready.config image (ready.image tells).0 (ready.own copy_tells) in
    let onto = held-since config copies c.in-Ok.ready.config (g.C.Media.state c.args.copy.now) (g.C.Media.state c.make_copy.new.copy) _ _ copy_tells makes image (looks-kept (g.C.Media.state c.args.copy.now) (g.C.Media.state c.make_ready.new.copy) (g.C.Media.state c.make_copy.new.copy) (image-some config (g.C.Media.state c.args.copy.now).content copies image) c.in-Ok.ensures.copy_looks (λ some. (c.make_copy.ensures.kept some).0)) c.over-onto.ensures.holds in
    let now = c.ship_on-status.ensures.copy_stands config.plans copies c.args.name onto.medium.told c.over-onto.ensures.opened.on c.over-onto.ensures.opened.calm onto.stand (named-in _ _ _ _ c.over-onto.ensures.tables ready.copy_named) in
    let k = copy-back g c in
    (now.0, worked-image _ _ _ _ _ (worked-by c.over-onto.ensures.opened c.ship_on-status.ensures.copy_goes (k ∙ c.into_media-copy.ensures.state)) config onto.medium _ now.0 now.1)

pub returns-clause-good : goal.returns-clause-good
returns-clause-good g c = λ config tables table tells made_so image is_bad.
    let ready = c.in-Ok.ensures.ready in
    let from = held-since config tables c.in-Ok.ready.config (g.M.Media.state c.args.media.now) (g.M.Media.state c.make_ready.new.media) _ _ tells (ready.makes config tables tells made_so image) image c.in-Ok.ensures.looks c.over-from.ensures.holds in
    c.ship_on-status.ensures.good config.plans tables c.args.name table from.medium.told c.over-from.ensures.opened.on c.over-from.ensures.opened.calm from.stand (named-in _ _ _ _ c.over-from.ensures.tables ready.named) is_bad

pub returns-clause-good_copy : goal.returns-clause-good_copy
returns-clause-good_copy g c = λ config copies table tells copy_tells made_so stands is_bad.
    let ready = c.in-Ok.ensures.ready in
    let looks = c.in-Ok.ensures.copy_looks in
    let known = copy-known config made_so (g.C.Media.state c.args.copy.now).content (g.C.Media.state c.make_copy.new.copy).content copies c.in-Ok.ready.config ready.whole (ready.image tells).0 (ready.own copy_tells) stands
    (λ configured makes. c.in_default.ensures.made configured makes (subst IsTrue (sym looks.tells) copy_tells) ∙ ap (made_image configured) looks.content) in
    let onto = c.over-onto.ensures.holds known.0 known.1 (subst IsTrue (sym (c.make_copy.ensures.tells ∙ looks.tells)) copy_tells) known.2 known.3 in
    c.ship_on-status.ensures.good_copy known.0.plans known.1 c.args.name table onto.medium.told c.over-onto.ensures.opened.on c.over-onto.ensures.opened.calm onto.stand (named-in _ _ _ _ c.over-onto.ensures.tables ready.copy_named) is_bad

pub returns-clause-repairs : goal.returns-clause-repairs
returns-clause-repairs g c = λ config sources tells made_so image well.
    let ready = c.in-Ok.ensures.ready in
    let from = held-since config sources c.in-Ok.ready.config (g.M.Media.state c.args.media.now) (g.M.Media.state c.make_ready.new.media) _ _ tells (ready.makes config sources tells made_so image) image c.in-Ok.ensures.looks c.over-from.ensures.holds in
    let e = source-back g c in
    repaired-after config _ _ _ c.in-Ok.ensures.looks.content
    (worked-repaired _ _ _ _ _ (worked-by c.over-from.ensures.opened c.ship_on-status.ensures.goes (e ∙ c.into_media-media.ensures.state)) config from.medium
    (c.ship_on-status.ensures.repairs config.plans sources c.args.name from.medium.told c.over-from.ensures.opened.on c.over-from.ensures.opened.calm from.stand (named-in _ _ _ _ c.over-from.ensures.tables ready.named) well))

pub returns-clause-others : goal.returns-clause-others
returns-clause-others g c = λ config copies tells copy_tells made_so image well.
    let ready = c.in-Ok.ensures.ready in
    let makes = copy-makes config made_so (g.C.Media.state c.args.copy.now).content copies c.in-Ok.ready.config image (ready.image tells).0 (ready.own copy_tells) in
    let looks = looks-kept (g.C.Media.state c.args.copy.now) (g.C.Media.state c.make_ready.new.copy) (g.C.Media.state c.make_copy.new.copy) (image-some config (g.C.Media.state c.args.copy.now).content copies image) c.in-Ok.ensures.copy_looks (λ some. (c.make_copy.ensures.kept some).0) in
    let onto = held-since config copies c.in-Ok.ready.config (g.C.Media.state c.args.copy.now) (g.C.Media.state c.make_copy.new.copy) _ _ copy_tells makes image looks c.over-onto.ensures.holds in
    let k = copy-back g c in
    others-after config c.args.name _ _ _ looks.content
    (worked-others _ _ _ _ _ (worked-by c.over-onto.ensures.opened c.ship_on-status.ensures.copy_goes (k ∙ c.into_media-copy.ensures.state)) config onto.medium c.args.name
    (c.ship_on-status.ensures.others config.plans copies c.args.name onto.medium.told c.over-onto.ensures.opened.on c.over-onto.ensures.opened.calm onto.stand (named-in _ _ _ _ c.over-onto.ensures.tables ready.copy_named) well))

pub returns-clause-fits : goal.returns-clause-fits
returns-clause-fits g c = λ tells copy_tells.
    let ready = c.in-Ok.ensures.ready in
    let is = ready.image tells in
    fits-table (g.M.Media.state c.args.media.now).content (g.C.Media.state c.args.copy.now).content c.args.name c.in-Ok.ready.config c.in-Ok.ready.source.tables.entries.items is.0 is.1 (ready.own copy_tells) ready.source_layout.tables c.in-Ok.ready.at ready.named ready.shipped c.ship_on-status.result c.ship_on-status.ensures.statuses
    (λ side table bad. omega (arith, c.ship_on-status.ensures.bad side table bad, (laid _ _ _ c.over-from.ensures.tables ready.source_layout).as_many))

pub returns-clause-device : goal.returns-clause-device
returns-clause-device g c = λ is.
    let e = source-back g c in
    let rose = worked-rose _ _ _ _ _ (worked-by c.over-from.ensures.opened c.ship_on-status.ensures.goes (e ∙ c.into_media-media.ensures.state)) (c.ship_on-status.ensures.device is) in
    omega (arith, c.in-Ok.ensures.looks.later, rose)

pub returns-clause-copy_device : goal.returns-clause-copy_device
returns-clause-copy_device g c = λ is.
    let k = copy-back g c in
    let rose = worked-rose _ _ _ _ _ (worked-by c.over-onto.ensures.opened c.ship_on-status.ensures.copy_goes (k ∙ c.into_media-copy.ensures.state)) (c.ship_on-status.ensures.copy_device is) in
    omega (arith, c.in-Ok.ensures.copy_looks.later, c.make_copy.ensures.later, rose)

pub returns-clause-write : goal.returns-clause-write
returns-clause-write g c = c.ship_on-status.ensures.write

pub returns-clause-changes : goal.returns-clause-changes
returns-clause-changes g c = λ tells copy_tells.
    let ready = c.in-Ok.ensures.ready in
    let is = ready.image tells in
    inl (images-for (g.M.Media.state c.args.media.now).content (g.C.Media.state c.args.copy.now).content c.args.name c.in-Ok.ready.config c.in-Ok.ready.source.tables.entries.items is.0 is.1 (ready.own copy_tells) ready.source_layout.tables c.in-Ok.ready.at ready.named true ready.shipped)

pub returns-clause-untouched : goal.returns-clause-untouched
returns-clause-untouched g c = λ refused. absurd (not-refused c.ship_on-status.result c.ship_on-status.ensures.statuses refused)

pub returns-clause-line : goal.returns-clause-line
returns-clause-line g c = c.ship_on-status.ensures.line

pub returns-clause-keeps : goal.returns-clause-keeps
returns-clause-keeps g c =
    let e = source-back g c in
    keeps-then _ _ _ c.in-Ok.ensures.looks (worked-keeps _ _ _ _ _ (worked-by c.over-from.ensures.opened c.ship_on-status.ensures.goes (e ∙ c.into_media-media.ensures.state)))

pub returns-clause-copy_keeps : goal.returns-clause-copy_keeps
returns-clause-copy_keeps g c =
    let own = made c.in-Ok.ready.config c.in-Ok.ensures.ready.whole in
    let k = copy-back g c in
    copy-keeps (g.M.Media.state c.args.media.now).content (g.C.Media.state c.args.copy.now) (g.C.Media.state c.make_ready.new.copy) (g.C.Media.state c.make_copy.new.copy) _ c.in-Ok.ensures.copy_looks (λ some. (c.make_copy.ensures.kept some).0) c.make_copy.ensures.tells c.make_copy.ensures.later
    (λ empty. omega (arith, c.make_copy.ensures.part own.0 own.1 empty, c.in-Ok.ensures.ready.size own.0 own.1))
    (worked-keeps _ _ _ _ _ (worked-by c.over-onto.ensures.opened c.ship_on-status.ensures.copy_goes (k ∙ c.into_media-copy.ensures.state)))

-- ---- over any bytes

pub returns-in-Err-clause-over : goal.returns-in-Err-clause-over
returns-in-Err-clause-over g c = inl (c.in-Err.ensures.early, c.in-Err.ensures.looks, c.in-Err.ensures.copy_looks)

pub returns-in-Err-make_copy-clause-over : goal.returns-in-Err-make_copy-clause-over
returns-in-Err-make_copy-clause-over g c =
    let failed = c.in-Err-make_copy.ensures.failed in
    let empty : (g.C.Media.state c.args.copy.now).content ≡ [] = sym c.in-Ok.ensures.copy_looks.content ∙ failed.1 in
    inr (inl (record { told = failed.0; empty = empty; unread = failed.2 ∙ c.in-Ok.ensures.copy_unread empty; looks = c.in-Ok.ensures.looks }))

pub returns-clause-over : goal.returns-clause-over
returns-clause-over g c =
    let ready = c.in-Ok.ensures.ready in
    let copy_looks = c.in-Ok.ensures.copy_looks in
    let e = source-back g c in
    let k = copy-back g c in
    inr (inr (record {
      lines = c.in-Ok.ready.config;
      image = ready.image;
      own = ready.own;
      sources = c.over-from.result.tables.entries.items;
      copies = c.over-onto.result.tables.entries.items;
      made = (laid _ _ _ c.over-from.ensures.tables ready.source_layout, laid _ _ _ c.over-onto.ensures.tables ready.copy_layout);
      at = c.in-Ok.ready.at;
      named = named-in _ _ _ _ c.over-from.ensures.tables ready.named;
      looked = g.M.Media.state c.make_ready.new.media;
      looks = c.in-Ok.ensures.looks;
      begun = g.C.Media.state c.make_copy.new.copy;
      keeps = λ some. looks-kept (g.C.Media.state c.args.copy.now) (g.C.Media.state c.make_ready.new.copy) (g.C.Media.state c.make_copy.new.copy) some copy_looks (λ held. (c.make_copy.ensures.kept held).0);
      makes = λ config makes tells. c.in_default.ensures.made config makes (subst IsTrue (sym copy_looks.tells) tells) ∙ ap (made_image config) copy_looks.content;
      from = _;
      onto = _;
      opened = (c.over-from.ensures.opened, c.over-onto.ensures.opened);
      from_now = _;
      onto_now = _;
      ships = c.ship_on-status.ensures.over;
      goes = (c.ship_on-status.ensures.goes, c.ship_on-status.ensures.copy_goes);
      left = (e ∙ c.into_media-media.ensures.state, k ∙ c.into_media-copy.ensures.state);
    }))
