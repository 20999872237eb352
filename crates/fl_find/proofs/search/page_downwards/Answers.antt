use Rattle.std.proofs.Common.{rules, ◌≡◌, ◌+◌, ◌-◌, refl, sym, subst, arith}
use Rattle.std.proofs.lemmas.Result.{IfOk-weaker, IfErr-weaker}
use Rattle.std.proofs.lemmas.Option.{IfSome_then}
use Rattle.fl_flash.specs.Buffer.{BufferState}
use Rattle.fl_flash.specs.Flash.{FlashState}
use Rattle.fl_ring.specs.Place.{shape_of, oldest_of}
use Rattle.fl_schema.specs.Schema.{layout_of}
use Rattle.fl_find.specs.Pages.{first_on, IsFresh}
use Rattle.fl_find.specs.Looking.{OnlyLooks, LookFails}
use Rattle.fl_find.proofs.PageLooks.{since-same}
use Rattle.fl_find.proofs.Moves.{lies-looked, room-looked, holds-moved, page-moved}
use Rattle.fl_find.proofs.Sound.{blames-below, none-bad, none-searched}
use Rattle.fl_find.proofs.search.page_downwards.Goals as goal

pub returns-clause-looks : goal.returns-clause-looks
returns-clause-looks g c =
    let since = c.near.ensures.since (record { ring = c.args.ring; schema = c.args.schema; flash = c.args.flash; buf = c.args.buf; faults = 0; lies = c.requires.lies; room = c.requires.room }) (since-same _ _ _ _) in
    let same : g.F.Flash.state c.flash-1.given.0 ≡ g.F.Flash.state c.near.new.keys.flash.now = search rules in
    let looks : OnlyLooks (g.F.Flash.state c.args.flash.now) (g.F.Flash.state c.flash-1.given.0) = subst (λ (f : FlashState). OnlyLooks (g.F.Flash.state c.args.flash.now) f) (sym same) since.looks in
    looks

pub returns-clause-lies : goal.returns-clause-lies
returns-clause-lies g c =
    let since = c.near.ensures.since (record { ring = c.args.ring; schema = c.args.schema; flash = c.args.flash; buf = c.args.buf; faults = 0; lies = c.requires.lies; room = c.requires.room }) (since-same _ _ _ _) in
    let same : g.F.Flash.state c.flash-1.given.0 ≡ g.F.Flash.state c.near.new.keys.flash.now = search rules in
    let looks : OnlyLooks (g.F.Flash.state c.args.flash.now) (g.F.Flash.state c.flash-1.given.0) = subst (λ (f : FlashState). OnlyLooks (g.F.Flash.state c.args.flash.now) f) (sym same) since.looks in
    lies-looked _ _ _ c.requires.lies looks

pub returns-clause-room : goal.returns-clause-room
returns-clause-room g c =
    let since = c.near.ensures.since (record { ring = c.args.ring; schema = c.args.schema; flash = c.args.flash; buf = c.args.buf; faults = 0; lies = c.requires.lies; room = c.requires.room }) (since-same _ _ _ _) in
    let same : g.F.Flash.state c.flash-1.given.0 ≡ g.F.Flash.state c.near.new.keys.flash.now = search rules in
    let looks : OnlyLooks (g.F.Flash.state c.args.flash.now) (g.F.Flash.state c.flash-1.given.0) = subst (λ (f : FlashState). OnlyLooks (g.F.Flash.state c.args.flash.now) f) (sym same) since.looks in
    let here : c.buf-1.given.0 ≡ c.near.new.keys.buf.now = search rules in
    rw here (room-looked _ _ c.args.buf.now c.near.new.keys.buf.now since.looks c.requires.room c.near.new.keys.room)

pub returns-clause-page : goal.returns-clause-page
returns-clause-page g c = λ told.
    let some = c.if-end-oldest.false in
    IfOk-weaker c.near.result _ _
    (λ page h. page-moved (first_on (layout_of c.args.schema.now) (shape_of c.args.ring.now) (g.F.Flash.state c.args.flash.now)) (oldest_of c.args.ring.now) c.oldest-oldest.result c.args.end (c.args.end - 1 + 1) c.args.key page c.oldest-oldest.ensures (omega (arith, some)) h)
    (c.near.ensures.page (first_on (layout_of c.args.schema.now) (shape_of c.args.ring.now) (g.F.Flash.state c.args.flash.now)) (record { told = told; each = λ n kept sound. refl }))

pub returns-clause-holds : goal.returns-clause-holds
returns-clause-holds g c =
    let since = c.near.ensures.since (record { ring = c.args.ring; schema = c.args.schema; flash = c.args.flash; buf = c.args.buf; faults = 0; lies = c.requires.lies; room = c.requires.room }) (since-same _ _ _ _) in
    let same : g.F.Flash.state c.flash-1.given.0 ≡ g.F.Flash.state c.near.new.keys.flash.now = search rules in
    let looks : OnlyLooks (g.F.Flash.state c.args.flash.now) (g.F.Flash.state c.flash-1.given.0) = subst (λ (f : FlashState). OnlyLooks (g.F.Flash.state c.args.flash.now) f) (sym same) since.looks in
    let here : c.buf-1.given.0 ≡ c.near.new.keys.buf.now = search rules in
    IfOk-weaker c.near.result _ _ (λ page h. IfSome_then page h (λ n k. holds-moved _ _ _ _ _ _ _ _ n since.layout_is since.ring_is (sym same) (sym here) k)) c.near.ensures.here

pub returns-clause-fails : goal.returns-clause-fails
returns-clause-fails g c =
    let fails = c.near.ensures.fails (record { ring = c.args.ring; schema = c.args.schema; flash = c.args.flash; buf = c.args.buf; faults = 0; lies = c.requires.lies; room = c.requires.room }) (since-same _ _ _ _) in
    let same : g.F.Flash.state c.flash-1.given.0 ≡ g.F.Flash.state c.near.new.keys.flash.now = search rules in
    IfErr-weaker c.near.result _ _ (λ e h. let failed = h.fails in subst (λ (f : FlashState). LookFails (layout_of c.args.schema.now) c.args.ring.now (g.F.Flash.state c.args.flash.now) e f) (sym same) failed.0) fails

pub returns-clause-blames : goal.returns-clause-blames
returns-clause-blames g c =
    let some = c.if-end-oldest.false in
    let fails = c.near.ensures.fails (record { ring = c.args.ring; schema = c.args.schema; flash = c.args.flash; buf = c.args.buf; faults = 0; lies = c.requires.lies; room = c.requires.room }) (since-same _ _ _ _) in
    IfErr-weaker c.near.result _ _
    (λ e h. blames-below (layout_of c.args.schema.now) c.args.ring.now (g.F.Flash.state c.args.flash.now) (g.F.Flash.state c.near.new.keys.flash.now) c.oldest-oldest.result (c.args.end - 1 + 1) c.args.end c.args.key e c.oldest-oldest.ensures (omega (arith, some)) h) fails

pub returns-clause-fresh : goal.returns-clause-fresh
returns-clause-fresh g c = λ fresh.
    let since = c.near.ensures.since (record { ring = c.args.ring; schema = c.args.schema; flash = c.args.flash; buf = c.args.buf; faults = 0; lies = c.requires.lies; room = c.requires.room }) (since-same _ _ _ _) in
    let same : g.F.Flash.state c.flash-1.given.0 ≡ g.F.Flash.state c.near.new.keys.flash.now = search rules in
    let here : c.buf-1.given.0 ≡ c.near.new.keys.buf.now = search rules in
    subst (λ (f : FlashState). IsFresh f c.buf-1.given.0) (sym same) (subst (λ (b : BufferState). IsFresh (g.F.Flash.state c.near.new.keys.flash.now) b) (sym here) (since.fresh fresh))

pub returns-then-end-oldest-clause-sound : goal.returns-then-end-oldest-clause-sound
returns-then-end-oldest-clause-sound g c = λ page told is.
    none-searched (layout_of c.args.schema.now) c.args.ring.now (g.F.Flash.state c.args.flash.now) (oldest_of c.args.ring.now) c.args.end c.args.key page
    (let some = c.if-end-oldest.true in let oldest = c.oldest-oldest.ensures in omega (arith, some, oldest)) is

pub returns-clause-sound : goal.returns-clause-sound
returns-clause-sound g c = λ page told is.
    let some = c.if-end-oldest.false in
    none-bad (layout_of c.args.schema.now) c.args.ring.now (g.F.Flash.state c.args.flash.now) (oldest_of c.args.ring.now) c.args.end c.args.key c.near.result page told
    (λ first tells. IfOk-weaker c.near.result _ _
    (λ found h. page-moved first (oldest_of c.args.ring.now) c.oldest-oldest.result c.args.end (c.args.end - 1 + 1) c.args.key found c.oldest-oldest.ensures (omega (arith, some)) h)
    (c.near.ensures.page first tells))
    is
