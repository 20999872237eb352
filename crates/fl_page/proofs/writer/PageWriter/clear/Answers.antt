use Rattle.std.proofs.Common.{◌≡◌, ℕ, ◌-◌, List, [], replicate, length, ap, ◌∙◌, rules, sym, subst, arith}
use Rattle.std.proofs.lemmas.List.{with_items_is, length-replicate}
use Rattle.fl_base.specs.Bytes.{splice}
use Rattle.fl_base.proofs.Ranges.{length-splice}
use Rattle.fl_page.specs.Writer.{Gathers}
use Rattle.fl_page.specs.WriterState.{WriterState}
use Rattle.fl_page.proofs.WriterSteps.{cleared, Gathers-cleared}
use Rattle.fl_page.proofs.writer.PageWriter.clear.Goals as goal

pub returns-clause-exact : goal.returns-clause-exact
returns-clause-exact c =
    let d = c.deref_mut.result.now in
    let end = c.self.inside.end in
    let fill : List ℕ = replicate (c.self.inside.end - 16) 255 in
    let bytes = cleared c.deref_mut.result.now c.fill.new.self c.self.inside.end (search rules) (omega (arith, c.deref_mut.ensures.len, c.self.invariant)) (c.fill.ensures.after (λ y h. h)) in
    let size : length (splice c.deref_mut.result.now 16 fill) ≡ length c.deref_mut.result.now =
    length-splice d 16 fill (omega (arith, length-replicate {A = ℕ} (c.self.inside.end - 16) 255, c.deref_mut.ensures.len, c.self.invariant)) in
    ap (λ (l : List ℕ). record { body = l; count = 0; end = 16 }) (with_items_is c.self.inside.page _ (ap length bytes ∙ size ∙ c.deref_mut.ensures.len) ∙ bytes ∙ ap (λ (l : List ℕ). splice l 16 fill) c.deref_mut.ensures.value)
    ∙ ap (λ (w : WriterState). record { body = splice w.body 16 (replicate (w.end - 16) 255); count = 0; end = 16 }) c.self.view_is

pub returns-clause-empty : goal.returns-clause-empty
returns-clause-empty c = λ layout rows is other.
    let P : WriterState → Type 0 = λ w. Gathers other [] w in
    subst P (sym (returns-clause-exact c)) (Gathers-cleared layout other rows c.args.self.now (search rules) (search rules) is)
