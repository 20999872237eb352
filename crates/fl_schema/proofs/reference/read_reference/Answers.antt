use Rattle.std.proofs.Common.{◌+◌, Bool, if◌then◌else◌, None, Some, arith, ap, sym, ◌∙◌, length-drop, get_or-drop, refl, drop}
use Rattle.fl_base.specs.declared.types.BlobRef.{BlobRef}
use Rattle.fl_schema.proofs.References.{reference_read, field_4, field_2}
use Rattle.fl_schema.proofs.reference.read_reference.Goals as goal

pub returns-then-eq : goal.returns-then-eq
returns-then-eq c =
    let at = c.args.at in
    let from = c.args.from.now in
    let blob : BlobRef = record { page = c.get_u32.result; offset = c.get_u16.result; length = c.get_u32-2.result } in
    sym (ap (λ (t : Bool). if t then None else Some blob) c.if-eq.true)
    ∙ reference_read (drop at from) blob c.eq.result (omega (arith, length-drop at from, c.requires)) (λ k. rw (get_or-drop at from k 0) (let f = c.type_inv.from (at + k) in omega arith))
    (c.get_u32.ensures ∙ field_4 from at 0 at (at + 4) (omega arith) refl (omega (arith, c.requires)))
    (c.get_u16.ensures ∙ field_2 from at 4 (at + 4) (at + 4 + 2) refl refl (omega (arith, c.requires)))
    (c.get_u32-2.ensures ∙ field_4 from at 6 (at + 6) (at + 6 + 4) refl refl (omega (arith, c.requires)))
    c.eq.ensures

pub returns-else-eq : goal.returns-else-eq
returns-else-eq c =
    let at = c.args.at in
    let from = c.args.from.now in
    let blob : BlobRef = record { page = c.get_u32.result; offset = c.get_u16.result; length = c.get_u32-2.result } in
    sym (ap (λ (t : Bool). if t then None else Some blob) c.if-eq.false)
    ∙ reference_read (drop at from) blob c.eq.result (omega (arith, length-drop at from, c.requires)) (λ k. rw (get_or-drop at from k 0) (let f = c.type_inv.from (at + k) in omega arith))
    (c.get_u32.ensures ∙ field_4 from at 0 at (at + 4) (omega arith) refl (omega (arith, c.requires)))
    (c.get_u16.ensures ∙ field_2 from at 4 (at + 4) (at + 4 + 2) refl refl (omega (arith, c.requires)))
    (c.get_u32-2.ensures ∙ field_4 from at 6 (at + 6) (at + 6 + 4) refl refl (omega (arith, c.requires)))
    c.eq.ensures
