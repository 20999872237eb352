use Rattle.std.proofs.Common.{◌≡◌, ◌≤◌, ◌<◌, ℕ, min, false, Option, None, Some, option_map, Ok, length, refl, sym, ◌∙◌, ap, subst, arith, le-add_right}
use Rattle.std.specs.Prelude.{IfSome, MatchOption}
use Rattle.std.specs.Option.{IsSomeAnd}
use Rattle.std.proofs.lemmas.Bool.{false≢true}
use Rattle.fl_model.specs.Spline.{is_pending_key}
use Rattle.fl_base.specs.declared.types.Geometry.{Geometry}
use Rattle.fl_table.specs.Finding.{Finds, FindsPending, HasKeyAt, IsAnswered, IsRowAt, HoldsIts}
use Rattle.fl_table.specs.declared.find.RowAt.{RowAt}
use Rattle.fl_table.specs.declared.find.RowAt.TheVariants as at
use Rattle.fl_table.proofs.Finds.{answers-in_pages, answers-pending, key-in_page, key-pending, lookup-blames, lookup-fails, holds-pages, finds-page, finds-fault, finds-pending, here-page, holds-page}
use Rattle.fl_table.proofs.PendingKey.{found-stored}
use Rattle.fl_table.proofs.Slots.{steps-model}
use Rattle.fl_flash.specs.Buffer.{BufferState}
use Rattle.fl_flash.specs.Flash.{FlashState}
use Rattle.fl_frame.proofs.ContentsInTurn.{OnlyReads-same}
use Rattle.fl_table.specs.Memory.{pending_in}
use Rattle.fl_table.specs.declared.table.Table.{Table}
use Rattle.fl_parts.proofs.IndexOfTable.{none-is}
use Rattle.fl_table.proofs.ReadsKeepTable.{lies-read, most-kept}
use Rattle.fl_parts.proofs.Sizes.{table-fits, index-fits}
use Rattle.fl_parts.proofs.Untouched.{at-most-two}
use Rattle.fl_table.proofs.table.Table.find.Goals as goal

-- each answer of a look is a place
mapped : {A : Type 0} (f : A → RowAt) (o : Option A) (r : Option RowAt) → MatchOption o (r ≡ None) (λ x. IsSomeAnd r (λ place. place ≡ f x)) → r ≡ option_map f o
mapped f None r h = h
mapped f (Some x) None h = absurd h
mapped f (Some x) (Some place) h = ap (λ (p : RowAt). Some p) h

-- a pending row stands in no page
here-pending : {KNOTS SLOTS : ℕ} (t : Table KNOTS SLOTS) (buf : BufferState) (o : Option ℕ) → IfSome o (λ i. i < pending_in t) → IfSome (option_map at.Pending o) (IsRowAt t buf)
here-pending t buf None h = tt
here-pending t buf (Some i) h = h

holds-pending : {KNOTS SLOTS : ℕ} (t : Table KNOTS SLOTS) (f : FlashState) (buf : BufferState) (o : Option ℕ) → IfSome (option_map at.Pending o) (HoldsIts t f buf)
holds-pending t f buf None = tt
holds-pending t f buf (Some i) = tt

least : (n k : ℕ) → min n k ≤ n
least n k = omega arith

-- ---- the key is pending

pub returns-then-is_pending_key-clause-find : goal.returns-then-is_pending_key-clause-find
returns-then-is_pending_key-clause-find g c = record {
  finds = λ first plan table tells stands.
      let f = g.F.Flash.state c.args.flash.now in
      let e : c.map.result ≡ option_map at.Pending c.pending_place.result = mapped at.Pending c.pending_place.result c.map.result c.map.ensures.cases in
      subst (λ (o : Option RowAt). Finds g.row.KNOTS plan table c.args.key f.work.reads f.work.reads c.args.buf.now (Ok o)) (sym e)
      (finds-pending c.args.self.now f first plan table stands c.args.key f.work.reads f.work.reads c.args.buf.now c.pending_place.result
      (sym (c.is_pending_key.ensures.stands f first plan table stands) ∙ c.if-is_pending_key.true) (found-stored c.args.self.now f first plan table stands c.args.key c.pending_place.result c.pending_place.ensures.found));
  reads = λ first plan table told stands. le-add_right _ _;
  pending = λ first plan table stands is.
      let f = g.F.Flash.state c.args.flash.now in
      let e : c.map.result ≡ option_map at.Pending c.pending_place.result = mapped at.Pending c.pending_place.result c.map.result c.map.ensures.cases in (
        refl,
        refl,
        subst (λ (o : Option RowAt). FindsPending plan table c.args.key c.args.buf.now (Ok o)) (sym e)
            (finds-pending c.args.self.now f first plan table stands c.args.key 0 0 c.args.buf.now c.pending_place.result is (found-stored c.args.self.now f first plan table stands c.args.key c.pending_place.result c.pending_place.ensures.found)).entry,
      );
  slot = λ first plan table count stands is. at-most-two _ _ 2;
}

pub returns-then-is_pending_key-clause-row : goal.returns-then-is_pending_key-clause-row
returns-then-is_pending_key-clause-row g c = record {
  key =
      let e : c.map.result ≡ option_map at.Pending c.pending_place.result = mapped at.Pending c.pending_place.result c.map.result c.map.ensures.cases in
      subst (λ (o : Option RowAt). IfSome o (HasKeyAt c.args.self.now c.args.buf.now c.args.key)) (sym e) (key-pending c.args.self.now c.args.buf.now c.args.key c.pending_place.result c.pending_place.ensures.found);
  answers =
      let e : c.map.result ≡ option_map at.Pending c.pending_place.result = mapped at.Pending c.pending_place.result c.map.result c.map.ensures.cases in
      subst (λ (o : Option RowAt). IsAnswered c.args.self.now (g.F.Flash.state c.args.flash.now) c.args.key o) (sym e)
      (record {
        pending = λ is. answers-pending c.args.self.now c.args.buf.now c.args.key c.pending_place.result c.pending_place.ensures.found;
        kept = λ is. absurd (false≢true (sym is ∙ (sym c.is_pending_key.ensures.exact ∙ c.if-is_pending_key.true)));
      });
  unread = λ is. (refl, refl, refl);
  here =
      subst (λ (o : Option RowAt). IfSome o (IsRowAt c.args.self.now c.args.buf.now)) (sym (mapped at.Pending c.pending_place.result c.map.result c.map.ensures.cases))
      (here-pending c.args.self.now c.args.buf.now c.pending_place.result c.pending_place.ensures.within);
  holds =
      subst (λ (o : Option RowAt). IfSome o (HoldsIts c.args.self.now (g.F.Flash.state c.args.flash.now) c.args.buf.now)) (sym (mapped at.Pending c.pending_place.result c.map.result c.map.ensures.cases))
      (holds-pending c.args.self.now (g.F.Flash.state c.args.flash.now) c.args.buf.now c.pending_place.result);
  fails = tt;
  blames = λ covered. tt;
}

pub returns-then-is_pending_key-clause-flash : goal.returns-then-is_pending_key-clause-flash
returns-then-is_pending_key-clause-flash g c = record {
  counts = OnlyReads-same (g.F.Flash.state c.args.flash.now);
  most = at-most-two _ _ 1;
  lies = c.requires.lies;
  room = refl;
  fresh = λ fresh. fresh;
}

pub returns-then-is_pending_key-clause-steps : goal.returns-then-is_pending_key-clause-steps
returns-then-is_pending_key-clause-steps g c = record {
  later = least _ _;
  comparisons = at-most-two _ _ 2;
}

-- ---- pages were read

pub returns-in-Ok-clause-find : goal.returns-in-Ok-clause-find
returns-in-Ok-clause-find g c = record {
  finds = λ first plan table tells stands.
      let f = g.F.Flash.state c.args.flash.now in
      let pending : is_pending_key table c.args.key ≡ false = sym (c.is_pending_key.ensures.stands f first plan table stands) ∙ c.if-is_pending_key.false in
      let holds = holds-pages c.args.self.now f first plan table c.in-Some.ring stands c.requires.lies (g.met.F.Flash.reaches c.args.flash.now) c.in-Some.is tells in
      let e : c.map-in-Ok.result ≡ option_map at.InPage c.in-Ok.found = mapped at.InPage c.in-Ok.found c.map-in-Ok.result c.map-in-Ok.ensures.cases in
      subst (λ (o : Option RowAt). Finds g.row.KNOTS plan table c.args.key f.work.reads (g.F.Flash.state c.find.new.flash).work.reads c.find.new.buf (Ok o)) (sym e)
      (finds-page c.args.self.now f first plan table stands c.args.key f.work.reads (g.F.Flash.state c.find.new.flash).work.reads c.find.new.buf c.in-Ok.found pending
      (c.in-Ok.ensures.entry plan table holds stands.points stands.memory.index));
  reads = λ first plan table tells stands.
      let f = g.F.Flash.state c.args.flash.now in
      let holds = holds-pages c.args.self.now f first plan table c.in-Some.ring stands c.requires.lies (g.met.F.Flash.reaches c.args.flash.now) c.in-Some.is tells in
      c.find.ensures.reads plan table holds stands.points stands.memory.index (sym (c.is_pending_key.ensures.stands f first plan table stands) ∙ c.if-is_pending_key.false);
  pending = λ first plan table stands is.
      absurd (false≢true (sym c.if-is_pending_key.false ∙ (c.is_pending_key.ensures.stands (g.F.Flash.state c.args.flash.now) first plan table stands ∙ is)));
  slot = λ first plan table count stands is.
      steps-model c.args.self.now (g.F.Flash.state c.args.flash.now) first plan table c.args.key count _ _ stands is c.find.ensures.comparisons;
}

pub returns-in-Ok-clause-row : goal.returns-in-Ok-clause-row
returns-in-Ok-clause-row g c = record {
  key =
      let e : c.map-in-Ok.result ≡ option_map at.InPage c.in-Ok.found = mapped at.InPage c.in-Ok.found c.map-in-Ok.result c.map-in-Ok.ensures.cases in
      subst (λ (o : Option RowAt). IfSome o (HasKeyAt c.args.self.now c.find.new.buf c.args.key)) (sym e) (key-in_page c.args.self.now c.find.new.buf c.args.key c.in-Ok.found c.in-Ok.ensures.row);
  answers =
      let e : c.map-in-Ok.result ≡ option_map at.InPage c.in-Ok.found = mapped at.InPage c.in-Ok.found c.map-in-Ok.result c.map-in-Ok.ensures.cases in
      subst (λ (o : Option RowAt). IsAnswered c.args.self.now (g.F.Flash.state c.args.flash.now) c.args.key o) (sym e)
      (record {
        pending = λ is. absurd (false≢true (sym c.if-is_pending_key.false ∙ (c.is_pending_key.ensures.exact ∙ is)));
        kept = λ is. answers-in_pages c.args.self.now c.in-Some.ring (g.F.Flash.state c.args.flash.now) c.args.key c.in-Some.is c.in-Ok.found c.in-Ok.ensures.sound c.in-Ok.ensures.near c.in-Ok.ensures.far;
      });
  unread = λ is. absurd (false≢true (sym c.if-is_pending_key.false ∙ (c.is_pending_key.ensures.exact ∙ is)));
  here =
      let e : c.map-in-Ok.result ≡ option_map at.InPage c.in-Ok.found = mapped at.InPage c.in-Ok.found c.map-in-Ok.result c.map-in-Ok.ensures.cases in
      let few : length c.find.new.buf.bytes ≤ 4096 = omega (arith, c.in-Ok.ensures.room, c.requires.room, ap (λ (s : Geometry). s.page) c.requires.lies.geometry, c.args.self.now.served.page_greatest) in
      subst (λ (o : Option RowAt). IfSome o (IsRowAt c.args.self.now c.find.new.buf)) (sym e)
      (here-page c.args.self.now (g.F.Flash.state c.find.new.flash) c.in-Some.ring c.args.key c.find.new.buf c.in-Ok.found few c.in-Ok.ensures.holds c.in-Ok.ensures.row);
  holds =
      let e : c.map-in-Ok.result ≡ option_map at.InPage c.in-Ok.found = mapped at.InPage c.in-Ok.found c.map-in-Ok.result c.map-in-Ok.ensures.cases in
      subst (λ (o : Option RowAt). IfSome o (HoldsIts c.args.self.now (g.F.Flash.state c.find.new.flash) c.find.new.buf)) (sym e)
      (holds-page c.args.self.now (g.F.Flash.state c.find.new.flash) c.in-Some.ring c.find.new.buf c.in-Ok.found c.in-Some.is c.in-Ok.ensures.within c.in-Ok.ensures.holds);
  fails = tt;
  blames = λ covered. tt;
}

pub returns-in-Ok-clause-flash : goal.returns-in-Ok-clause-flash
returns-in-Ok-clause-flash g c = record {
  counts = c.find.ensures.looks.reads;
  most = most-kept c.args.self.now (g.F.Flash.state c.args.flash.now) (g.F.Flash.state c.find.new.flash) c.in-Some.ring c.in-Some.is c.find.ensures.most;
  lies = lies-read c.args.self.now (g.F.Flash.state c.args.flash.now) (g.F.Flash.state c.find.new.flash) c.find.ensures.looks.reads c.requires.lies;
  room = c.in-Ok.ensures.room;
  fresh = c.find.ensures.fresh;
}

pub returns-in-Ok-clause-steps : goal.returns-in-Ok-clause-steps
returns-in-Ok-clause-steps g c = record {
  later = c.find.ensures.later;
  comparisons = c.find.ensures.comparisons;
}

-- ---- a page could not be read

pub returns-in-Err-clause-find : goal.returns-in-Err-clause-find
returns-in-Err-clause-find g c = record {
  finds = λ first plan table tells stands.
      let f = g.F.Flash.state c.args.flash.now in
      let pending : is_pending_key table c.args.key ≡ false = sym (c.is_pending_key.ensures.stands f first plan table stands) ∙ c.if-is_pending_key.false in
      let holds = holds-pages c.args.self.now f first plan table c.in-Some.ring stands c.requires.lies (g.met.F.Flash.reaches c.args.flash.now) c.in-Some.is tells in
      finds-fault c.args.self.now f first plan table stands c.args.key f.work.reads (g.F.Flash.state c.find.new.flash).work.reads c.find.new.buf c.in-Err.fault pending (c.in-Err.ensures.entry plan table holds stands.points stands.memory.index);
  reads = λ first plan table tells stands.
      let f = g.F.Flash.state c.args.flash.now in
      let holds = holds-pages c.args.self.now f first plan table c.in-Some.ring stands c.requires.lies (g.met.F.Flash.reaches c.args.flash.now) c.in-Some.is tells in
      c.find.ensures.reads plan table holds stands.points stands.memory.index (sym (c.is_pending_key.ensures.stands f first plan table stands) ∙ c.if-is_pending_key.false);
  pending = λ first plan table stands is.
      absurd (false≢true (sym c.if-is_pending_key.false ∙ (c.is_pending_key.ensures.stands (g.F.Flash.state c.args.flash.now) first plan table stands ∙ is)));
  slot = λ first plan table count stands is.
      steps-model c.args.self.now (g.F.Flash.state c.args.flash.now) first plan table c.args.key count _ _ stands is c.find.ensures.comparisons;
}

pub returns-in-Err-clause-row : goal.returns-in-Err-clause-row
returns-in-Err-clause-row g c = record {
  key = tt;
  answers = tt;
  unread = λ is. absurd (false≢true (sym c.if-is_pending_key.false ∙ (c.is_pending_key.ensures.exact ∙ is)));
  here = tt;
  holds = tt;
  fails = lookup-fails c.args.self.now c.in-Some.ring (g.F.Flash.state c.args.flash.now) c.in-Err.fault (g.F.Flash.state c.find.new.flash) c.in-Some.is c.in-Err.ensures.fails;
  blames = λ covered.
      lookup-blames c.args.self.now c.in-Some.ring (g.F.Flash.state c.args.flash.now) c.args.key c.in-Err.fault c.in-Some.is (c.in-Err.ensures.blames covered);
}

pub returns-in-Err-clause-flash : goal.returns-in-Err-clause-flash
returns-in-Err-clause-flash g c = record {
  counts = c.find.ensures.looks.reads;
  most = most-kept c.args.self.now (g.F.Flash.state c.args.flash.now) (g.F.Flash.state c.find.new.flash) c.in-Some.ring c.in-Some.is c.find.ensures.most;
  lies = lies-read c.args.self.now (g.F.Flash.state c.args.flash.now) (g.F.Flash.state c.find.new.flash) c.find.ensures.looks.reads c.requires.lies;
  room = c.in-Err.ensures.room;
  fresh = c.find.ensures.fresh;
}

pub returns-in-Err-clause-steps : goal.returns-in-Err-clause-steps
returns-in-Err-clause-steps g c = record {
  later = c.find.ensures.later;
  comparisons = c.find.ensures.comparisons;
}

pub is_pending_key-requires : goal.is_pending_key-requires
is_pending_key-requires g c = table-fits g.row.KNOTS g.row.SLOTS c.args.self.now.few_knots c.args.self.now.few_slots

pub pending_place-requires : goal.pending_place-requires
pending_place-requires g c = table-fits g.row.KNOTS g.row.SLOTS c.args.self.now.few_knots c.args.self.now.few_slots

pub unreachable-requires : goal.unreachable-requires
unreachable-requires g c = none-is c.args.self.now.ring c.in_default.is c.requires.running

pub unreachable-unreachable : goal.unreachable-unreachable
unreachable-unreachable g c = c.unreachable.type_inv

pub find-requires : goal.find-requires
find-requires g c = (index-fits g.row.KNOTS g.row.SLOTS c.args.self.now.few_knots c.args.self.now.few_slots, (c.requires.lies.ring c.in-Some.ring c.in-Some.is, c.requires.room))
