use Rattle.std.proofs.Common.{arith, ap, ◌∙◌, ◌++◌, ◌+◌, List, ℕ, refl}
use Rattle.fl_base.specs.Bytes.{splice}
use Rattle.fl_model.specs.Row.{le}
use Rattle.fl_schema.proofs.References.{splice-splice}
use Rattle.fl_schema.proofs.reference.write_fields.Goals as goal

pub returns-clause-bytes : goal.returns-clause-bytes
returns-clause-bytes c =
    let blob = c.args.blob in
    let into = c.args.into.now in
    let at = c.args.at in
    c.put_u32-2.ensures
    ∙ ap (λ (l : List ℕ). splice l (at + 6) (le 4 blob.length))
    (c.put_u16.ensures ∙ ap (λ (l : List ℕ). splice l (at + 4) (le 2 blob.offset)) c.put_u32.ensures ∙ splice-splice into at (at + 4) (le 4 blob.page) (le 2 blob.offset) refl (omega (arith, c.requires)))
    ∙ splice-splice into at (at + 6) (le 4 blob.page ++ le 2 blob.offset) (le 4 blob.length) refl (omega (arith, c.requires))
