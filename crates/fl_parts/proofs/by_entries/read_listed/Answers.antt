use Rattle.std.proofs.Common.{rules, ◌≡◌, ◌+◌, ◌-◌, cond, arith, false, true, Option, Some, sym, ◌∙◌, ap, subst, refl}
use Rattle.std.proofs.lemmas.Result.{err_from_is_err_and}
use Rattle.fl_index.specs.declared.index.BitmapIndex.{BitmapIndex}
use Rattle.fl_index.specs.Memory.{form_in, next_in, oldest_in}
use Rattle.fl_index.specs.Standing.{StandsBelow}
use Rattle.fl_ring.specs.Place.{oldest_of}
use Rattle.fl_schema.specs.Schema.{layout_of}
use Rattle.fl_parts.specs.Bitmaps.{LieOn}
use Rattle.fl_parts.specs.Coming.{ComesTo, FirstsKnown, StandFound, index_pages_of}
use Rattle.fl_parts.specs.KeptRead.{LeavesKept}
use Rattle.fl_parts.specs.KeptSteps.{HasCome, HasComeBy, LoadsFull}
use Rattle.fl_parts.proofs.Firsts.{bare-firsts, full-firsts}
use Rattle.fl_parts.proofs.IndexOfTable.{plan-same}
use Rattle.fl_parts.proofs.IndexRounds.{bare-listed, kept-full, kept-same}
use Rattle.fl_parts.proofs.KeptParts.{come-none, keeps-none}
use Rattle.fl_parts.proofs.ListedPages.{are-full, comes-bare, comes-full, stands-bare, stands-full}
use Rattle.fl_parts.proofs.by_entries.read_listed.Goals.{in_default-via-in-Some+else-is_full, in_default-via-in_default}
use Rattle.fl_parts.proofs.Untouched.{no-success}
use Rattle.fl_parts.proofs.by_entries.read_listed.Goals as goal

pub see_listed-requires : goal.see_listed-requires
see_listed-requires g c = (search (rules, arith), (c.requires.may, (subst (λ (o : Option BitmapIndex). LieOn o (g.F.Flash.state c.args.flash.now)) c.in-Some.is c.requires.bitmaps_lie, c.requires.come)))

pub returns-in_err-from-in-Some-clause-knows : goal.returns-in_err-from-in-Some-clause-knows
returns-in_err-from-in-Some-clause-knows g c = λ told few error t comes h.
    let p = err_from_is_err_and c.from_residual.result c.from_residual.ensures.1 in
    let f = g.F.Flash.state c.args.flash.now in
    let layout = layout_of c.args.schema.now in
    let full : (form_in c.in-Some.entries).full ≡ true = sym c.is_full.ensures ∙ c.if-is_full.true in
    let comes' = comes-full t layout c.args.limit c.in-Some.entries c.args.ring.now f full (subst (λ (o : Option BitmapIndex). ComesTo t layout c.args.limit o c.args.ring.now f) c.in-Some.is comes) in
    rw (p.1, p.2) (tt, (c.in_err-from-in-Some.ensures.knows told few error t comes' h).1)

pub returns-in_err-from-in-Some-clause-come : goal.returns-in_err-from-in-Some-clause-come
returns-in_err-from-in-Some-clause-come g c = no-success _ _ c.from_residual.result c.from_residual.ensures.1

pub returns-in_err-from-in-Some-clause-index : goal.returns-in_err-from-in-Some-clause-index
returns-in_err-from-in-Some-clause-index g c = no-success _ _ c.from_residual.result c.from_residual.ensures.1

pub returns-in_err-from-in-Some-clause-leaves : goal.returns-in_err-from-in-Some-clause-leaves
returns-in_err-from-in-Some-clause-leaves g c =
    let f = g.F.Flash.state c.args.flash.now in
    let new = g.F.Flash.state c.see_listed.new.flash in
    let full : (form_in c.in-Some.entries).full ≡ true = sym c.is_full.ensures ∙ c.if-is_full.true in
    subst (λ (o : Option BitmapIndex). LeavesKept o c.args.ring.now f (Some c.see_listed.new.bitmaps) new) (sym c.in-Some.is)
    (kept-full c.in-Some.entries c.see_listed.new.bitmaps c.see_listed.new.bitmaps c.args.ring.now f new full (c.requires.running c.in-Some.entries c.in-Some.is) c.in_err-from-in-Some.ensures.leaves
    (record { same = record { geometry = refl; place = refl; bits = refl; full = refl }; still = record { ring = refl; firsts = refl } }))

pub returns-in_err-from-in-Some-clause-keeps : goal.returns-in_err-from-in-Some-clause-keeps
returns-in_err-from-in-Some-clause-keeps g c = c.in_err-from-in-Some.ensures.keeps

pub returns-in_err-from-in-Some-clause-fails : goal.returns-in_err-from-in-Some-clause-fails
returns-in_err-from-in-Some-clause-fails g c =
    let p = err_from_is_err_and c.from_residual.result c.from_residual.ensures.1 in
    rw (p.1, p.2) c.in_err-from-in-Some.ensures.fails

-- ---- entries are full

pub returns-in_ok-from-in-Some-clause-knows : goal.returns-in_ok-from-in-Some-clause-knows
returns-in_ok-from-in-Some-clause-knows g c = λ told few error t comes h.
    let f = g.F.Flash.state c.args.flash.now in
    let layout = layout_of c.args.schema.now in
    let full : (form_in c.in-Some.entries).full ≡ true = sym c.is_full.ensures ∙ c.if-is_full.true in
    let comes' = comes-full t layout c.args.limit c.in-Some.entries c.args.ring.now f full (subst (λ (o : Option BitmapIndex). ComesTo t layout c.args.limit o c.args.ring.now f) c.in-Some.is comes) in
    ((c.in_ok-from-in-Some.ensures.knows told few error t comes' h).0, tt)

pub returns-in_ok-from-in-Some-clause-come : goal.returns-in_ok-from-in-Some-clause-come
returns-in_ok-from-in-Some-clause-come g c =
    let entries = c.in-Some.entries in
    let full : (form_in entries).full ≡ true = sym c.is_full.ensures ∙ c.if-is_full.true in
    let pages = sym (ap index_pages_of c.in-Some.is ∙ ap (λ b. cond b (next_in entries - oldest_in entries) 0) full) in
    subst (λ n. HasComeBy c.args.ring.now c.in_ok-from-in-Some.from (n + (c.in_ok-from-in-Some.from - oldest_of c.args.ring.now)) (g.F.Flash.state c.args.flash.now) c.args.known.now c.see_listed.new.known (g.F.Flash.state c.see_listed.new.flash)) pages
    c.in_ok-from-in-Some.ensures.come

pub returns-in_ok-from-in-Some-clause-index : goal.returns-in_ok-from-in-Some-clause-index
returns-in_ok-from-in-Some-clause-index g c =
    let f = g.F.Flash.state c.args.flash.now in
    let new = g.F.Flash.state c.see_listed.new.flash in
    let entries = c.in-Some.entries in
    let saw = c.in_ok-from-in-Some.ensures in
    let full : (form_in entries).full ≡ true = sym c.is_full.ensures ∙ c.if-is_full.true in
    record {
      idle = c.unload.ensures.none;
      remembers = λ told. subst (λ (o : Option BitmapIndex). FirstsKnown o f (Some c.unload.new.self)) (sym c.in-Some.is) (full-firsts entries c.see_listed.new.bitmaps c.unload.new.self f full c.unload.ensures.still (saw.index.remembers told));
      stands = λ first plan table told stands.
          let below = saw.index.stands first plan table told (stands-full entries f first plan table full (subst (λ (o : Option BitmapIndex). StandFound o f first plan table) c.in-Some.is stands)) in
          c.unload.ensures.ring new first plan table (subst (λ k. StandsBelow k c.see_listed.new.bitmaps new first plan table) (sym saw.leaves.next) below);
    }

pub returns-in_ok-from-in-Some-clause-leaves : goal.returns-in_ok-from-in-Some-clause-leaves
returns-in_ok-from-in-Some-clause-leaves g c =
    let f = g.F.Flash.state c.args.flash.now in
    let new = g.F.Flash.state c.see_listed.new.flash in
    let full : (form_in c.in-Some.entries).full ≡ true = sym c.is_full.ensures ∙ c.if-is_full.true in
    subst (λ (o : Option BitmapIndex). LeavesKept o c.args.ring.now f (Some c.unload.new.self) new) (sym c.in-Some.is)
    (kept-full c.in-Some.entries c.see_listed.new.bitmaps c.unload.new.self c.args.ring.now f new full (c.requires.running c.in-Some.entries c.in-Some.is) c.in_ok-from-in-Some.ensures.leaves
    (record { same = c.unload.ensures.same; still = c.unload.ensures.still }))

pub returns-in_ok-from-in-Some-clause-keeps : goal.returns-in_ok-from-in-Some-clause-keeps
returns-in_ok-from-in-Some-clause-keeps g c = c.in_ok-from-in-Some.ensures.keeps

pub returns-in_ok-from-in-Some-clause-fails : goal.returns-in_ok-from-in-Some-clause-fails
returns-in_ok-from-in-Some-clause-fails g c = tt

-- ---- they aren't, or there is no index

pub returns-in_default-clause-knows : goal.returns-in_default-clause-knows
returns-in_default-clause-knows g c = λ told few error t comes h.
    let bare : are-full c.args.bitmaps.now ≡ false = elim c.in_default.branch [
      | in_default-via-in-Some+else-is_full w ↦ ap are-full w.in-Some.is ∙ (sym w.is_full.ensures ∙ w.if-is_full.false)
      | in_default-via-in_default w ↦ ap are-full w.in_default.is
    ] in
    let is = comes-bare t (layout_of c.args.schema.now) c.args.limit c.args.bitmaps.now c.args.ring.now (g.F.Flash.state c.args.flash.now) bare comes in
    (bare-listed error t (g.F.Flash.state c.args.flash.now).work.reads c.args.known.now c.args.counts.now c.args.index.now c.oldest.result is.1 (c.oldest.ensures ∙ sym is.0.oldest) h, tt)

pub returns-in_default-clause-come : goal.returns-in_default-clause-come
returns-in_default-clause-come g c =
    come-none c.args.ring.now c.oldest.result _ (g.F.Flash.state c.args.flash.now) c.args.known.now (subst (λ n. HasCome c.args.ring.now n c.args.known.now) (sym c.oldest.ensures) c.requires.come)

pub returns-in_default-clause-index : goal.returns-in_default-clause-index
returns-in_default-clause-index g c =
    let is : c.in_default.bitmaps ≡ c.args.bitmaps.now = elim c.in_default.branch [
      | in_default-via-in-Some+else-is_full w ↦ w.bitmaps-is ∙ sym w.in-Some.is
      | in_default-via-in_default w ↦ w.bitmaps-is
    ] in
    let bare : are-full c.args.bitmaps.now ≡ false = elim c.in_default.branch [
      | in_default-via-in-Some+else-is_full w ↦ ap are-full w.in-Some.is ∙ (sym w.is_full.ensures ∙ w.if-is_full.false)
      | in_default-via-in_default w ↦ ap are-full w.in_default.is
    ] in
    let f = g.F.Flash.state c.args.flash.now in
    subst (λ (o : Option BitmapIndex). LoadsFull c.args.bitmaps.now f o f) (sym is) (record {
      idle = c.requires.idle;
      remembers = λ told. bare-firsts c.args.bitmaps.now c.args.bitmaps.now f bare (plan-same c.args.bitmaps.now);
      stands = λ first plan table told h. stands-bare c.args.bitmaps.now f first plan table bare h;
    })

pub returns-in_default-clause-leaves : goal.returns-in_default-clause-leaves
returns-in_default-clause-leaves g c =
    let is : c.in_default.bitmaps ≡ c.args.bitmaps.now = elim c.in_default.branch [
      | in_default-via-in-Some+else-is_full w ↦ w.bitmaps-is ∙ sym w.in-Some.is
      | in_default-via-in_default w ↦ w.bitmaps-is
    ] in
    let f = g.F.Flash.state c.args.flash.now in
    subst (λ (o : Option BitmapIndex). LeavesKept c.args.bitmaps.now c.args.ring.now f o f) (sym is) (kept-same c.args.bitmaps.now c.args.ring.now f c.requires.running c.requires.bitmaps_lie)

pub returns-in_default-clause-keeps : goal.returns-in_default-clause-keeps
returns-in_default-clause-keeps g c = keeps-none c.args.counts.now c.args.index.now c.args.buf.now c.requires.may.none

pub returns-in_default-clause-fails : goal.returns-in_default-clause-fails
returns-in_default-clause-fails g c = tt
