use Rattle.std.proofs.Common.{rules, ap, arith}
use Rattle.fl_base.specs.declared.types.Geometry.{Geometry}
use Rattle.fl_schema.specs.Schema.{layout_of}
use Rattle.fl_parts.specs.Coming.{come_on}
use Rattle.fl_parts.proofs.KeptSteps.{comes-at, err-refuses, ok-finds, ok-knows}
use Rattle.fl_parts.proofs.Sizes.{schema-fits}
use Rattle.fl_parts.proofs.kept.read_kept.Goals as goal

pub row_len-requires : goal.row_len-requires
row_len-requires g c = schema-fits

pub overflow_sub-limit : goal.overflow_sub-limit
overflow_sub-limit g c =
    let least = (g.met.F.Flash.serves c.args.flash.now).page_least in
    let page = ap (λ (x : Geometry). x.page) c.geometry-page.ensures in
    omega (arith, least, page)

pub read_within-requires : goal.read_within-requires
read_within-requires g c =
    let r = c.requires in
    (search (rules, arith), (record { row = r.row; lies = r.lies; places = r.counts; room = r.room; none = r.none }, (r.bitmaps_lie, (r.running, (r.idle, (r.end, r.empty))))))

pub returns-clause-knows : goal.returns-clause-knows
returns-clause-knows g c =
    let layout = layout_of c.args.schema.now in
    let f = g.F.Flash.state c.args.flash.now in
    let comes = comes-at layout c.geometry-page.result.page c.row_len.result c.args.bitmaps.now c.args.ring.now f (ap (λ (x : Geometry). x.page) c.geometry-page.ensures) c.row_len.ensures in
    let t = come_on layout c.args.bitmaps.now c.args.ring.now f in
    ok-knows _ _ c.read_within.result (λ told. (c.read_within.ensures.knows told (c.requires.few told) t comes).0)

pub returns-clause-found : goal.returns-clause-found
returns-clause-found g c =
    let layout = layout_of c.args.schema.now in
    let f = g.F.Flash.state c.args.flash.now in
    let comes = comes-at layout c.geometry-page.result.page c.row_len.result c.args.bitmaps.now c.args.ring.now f (ap (λ (x : Geometry). x.page) c.geometry-page.ensures) c.row_len.ensures in
    let t = come_on layout c.args.bitmaps.now c.args.ring.now f in
    ok-finds t _ c.args.bitmaps.now c.args.ring.now f (g.F.Flash.state c.read_within.new.flash) c.args.end c.read_within.new.bitmaps c.read_within.result c.read_within.ensures.found
    (λ told. (c.read_within.ensures.knows told (c.requires.few told) t comes).0)

pub returns-clause-refused : goal.returns-clause-refused
returns-clause-refused g c =
    let layout = layout_of c.args.schema.now in
    let f = g.F.Flash.state c.args.flash.now in
    let comes = comes-at layout c.geometry-page.result.page c.row_len.result c.args.bitmaps.now c.args.ring.now f (ap (λ (x : Geometry). x.page) c.geometry-page.ensures) c.row_len.ensures in
    let t = come_on layout c.args.bitmaps.now c.args.ring.now f in
    err-refuses t f (g.F.Flash.state c.read_within.new.flash) c.read_within.result c.read_within.ensures.fails
    (λ told. (c.read_within.ensures.knows told (c.requires.few told) t comes).1)

pub returns-clause-leaves : goal.returns-clause-leaves
returns-clause-leaves g c = c.read_within.ensures.leaves

pub returns-clause-few_reads : goal.returns-clause-few_reads
returns-clause-few_reads g c = λ told.
    let layout = layout_of c.args.schema.now in
    let f = g.F.Flash.state c.args.flash.now in
    let comes = comes-at layout c.geometry-page.result.page c.row_len.result c.args.bitmaps.now c.args.ring.now f (ap (λ (x : Geometry). x.page) c.geometry-page.ensures) c.row_len.ensures in
    (c.read_within.ensures.knows told (c.requires.few told) (come_on layout c.args.bitmaps.now c.args.ring.now f) comes).2

pub returns-clause-size : goal.returns-clause-size
returns-clause-size g c = c.read_within.ensures.keeps.size

pub returns-clause-error : goal.returns-clause-error
returns-clause-error g c = c.read_within.ensures.keeps.error

pub returns-clause-room : goal.returns-clause-room
returns-clause-room g c = c.read_within.ensures.keeps.room

pub returns-clause-none : goal.returns-clause-none
returns-clause-none g c = c.read_within.ensures.keeps.none
