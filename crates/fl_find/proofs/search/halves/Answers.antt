use Rattle.std.proofs.Common.{rules, ◌≡◌, refl, sym, subst}
use Rattle.std.proofs.lemmas.Result.{IfOk-weaker, IfErr-weaker}
use Rattle.fl_flash.specs.Buffer.{BufferState}
use Rattle.fl_flash.specs.Flash.{FlashState}
use Rattle.fl_ring.specs.Place.{shape_of, oldest_of, next_of}
use Rattle.fl_schema.specs.Schema.{layout_of}
use Rattle.fl_find.specs.Pages.{first_on, IsFresh}
use Rattle.fl_find.specs.Looking.{OnlyLooks, LookFails}
use Rattle.fl_find.proofs.PageLooks.{since-same}
use Rattle.fl_find.proofs.Moves.{lies-looked, room-looked, page-moved, ascends-moved}
use Rattle.fl_find.proofs.search.halves.Goals as goal

pub returns-clause-looks : goal.returns-clause-looks
returns-clause-looks g c =
    let since = c.bisect.ensures.since (record { ring = c.args.ring; schema = c.args.schema; flash = c.args.flash; buf = c.args.buf; faults = 0; lies = c.requires.lies; room = c.requires.room }) (since-same _ _ _ _) in
    let same : g.F.Flash.state c.flash-1.given.0 ≡ g.F.Flash.state c.bisect.new.keys.flash.now = search rules in
    let looks : OnlyLooks (g.F.Flash.state c.args.flash.now) (g.F.Flash.state c.flash-1.given.0) = subst (λ (f : FlashState). OnlyLooks (g.F.Flash.state c.args.flash.now) f) (sym same) since.looks in
    looks

pub returns-clause-lies : goal.returns-clause-lies
returns-clause-lies g c =
    let since = c.bisect.ensures.since (record { ring = c.args.ring; schema = c.args.schema; flash = c.args.flash; buf = c.args.buf; faults = 0; lies = c.requires.lies; room = c.requires.room }) (since-same _ _ _ _) in
    let same : g.F.Flash.state c.flash-1.given.0 ≡ g.F.Flash.state c.bisect.new.keys.flash.now = search rules in
    let looks : OnlyLooks (g.F.Flash.state c.args.flash.now) (g.F.Flash.state c.flash-1.given.0) = subst (λ (f : FlashState). OnlyLooks (g.F.Flash.state c.args.flash.now) f) (sym same) since.looks in
    lies-looked _ _ _ c.requires.lies looks

pub returns-clause-room : goal.returns-clause-room
returns-clause-room g c =
    let since = c.bisect.ensures.since (record { ring = c.args.ring; schema = c.args.schema; flash = c.args.flash; buf = c.args.buf; faults = 0; lies = c.requires.lies; room = c.requires.room }) (since-same _ _ _ _) in
    let same : g.F.Flash.state c.flash-1.given.0 ≡ g.F.Flash.state c.bisect.new.keys.flash.now = search rules in
    let looks : OnlyLooks (g.F.Flash.state c.args.flash.now) (g.F.Flash.state c.flash-1.given.0) = subst (λ (f : FlashState). OnlyLooks (g.F.Flash.state c.args.flash.now) f) (sym same) since.looks in
    let here : c.buf-1.given.0 ≡ c.bisect.new.keys.buf.now = search rules in
    rw here (room-looked _ _ c.args.buf.now c.bisect.new.keys.buf.now since.looks c.requires.room c.bisect.new.keys.room)

pub returns-clause-page : goal.returns-clause-page
returns-clause-page g c = λ told up.
    IfOk-weaker c.bisect.result _ _
    (λ page h. page-moved (first_on (layout_of c.args.schema.now) (shape_of c.args.ring.now) (g.F.Flash.state c.args.flash.now)) (oldest_of c.args.ring.now) c.oldest.result (next_of c.args.ring.now) c.next_number.result c.args.key page c.oldest.ensures c.next_number.ensures h)
    (c.bisect.ensures.page (first_on (layout_of c.args.schema.now) (shape_of c.args.ring.now) (g.F.Flash.state c.args.flash.now)) (record { told = told; each = λ n kept sound. refl }) (ascends-moved (first_on (layout_of c.args.schema.now) (shape_of c.args.ring.now) (g.F.Flash.state c.args.flash.now)) (oldest_of c.args.ring.now) c.oldest.result (next_of c.args.ring.now) c.next_number.result c.oldest.ensures c.next_number.ensures up))

pub returns-clause-fails : goal.returns-clause-fails
returns-clause-fails g c =
    let fails = c.bisect.ensures.fails (record { ring = c.args.ring; schema = c.args.schema; flash = c.args.flash; buf = c.args.buf; faults = 0; lies = c.requires.lies; room = c.requires.room }) (since-same _ _ _ _) in
    let same : g.F.Flash.state c.flash-1.given.0 ≡ g.F.Flash.state c.bisect.new.keys.flash.now = search rules in
    IfErr-weaker c.bisect.result _ _ (λ e h. let failed = h.fails in subst (λ (f : FlashState). LookFails (layout_of c.args.schema.now) c.args.ring.now (g.F.Flash.state c.args.flash.now) e f) (sym same) failed.0) fails

pub returns-clause-starts : goal.returns-clause-starts
returns-clause-starts g c = λ told.
    c.bisect.ensures.starts (first_on (layout_of c.args.schema.now) (shape_of c.args.ring.now) (g.F.Flash.state c.args.flash.now)) (record { told = told; each = λ n kept sound. refl })

pub returns-clause-fresh : goal.returns-clause-fresh
returns-clause-fresh g c = λ fresh.
    let since = c.bisect.ensures.since (record { ring = c.args.ring; schema = c.args.schema; flash = c.args.flash; buf = c.args.buf; faults = 0; lies = c.requires.lies; room = c.requires.room }) (since-same _ _ _ _) in
    let same : g.F.Flash.state c.flash-1.given.0 ≡ g.F.Flash.state c.bisect.new.keys.flash.now = search rules in
    let here : c.buf-1.given.0 ≡ c.bisect.new.keys.buf.now = search rules in
    subst (λ (f : FlashState). IsFresh f c.buf-1.given.0) (sym same) (subst (λ (b : BufferState). IsFresh (g.F.Flash.state c.bisect.new.keys.flash.now) b) (sym here) (since.fresh fresh))
