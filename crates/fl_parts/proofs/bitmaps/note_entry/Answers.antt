use Rattle.std.proofs.Common.{◌≡◌, ◌+◌, Option, Some, sym, subst, arith}
use Rattle.fl_index.specs.declared.index.BitmapIndex.{BitmapIndex}
use Rattle.fl_index.specs.Memory.{first_waiting, waiting_in}
use Rattle.fl_parts.specs.Bitmaps.{AreNoted, IsNoted}
use Rattle.fl_parts.proofs.bitmaps.note_entry.Goals as goal

pub returns-in-Some-clause-noted : goal.returns-in-Some-clause-noted
returns-in-Some-clause-noted c =
    let index = c.in-Some.index in
    let next : first_waiting index + waiting_in index ≡ c.args.number = omega (arith, c.next_page.ensures.exact, c.if-next_page-number.true) in
    let noted : IsNoted index c.args.bitmap c.args.full c.note.new.self = record {
      same = c.note.ensures.same;
      still = c.note.ensures.still;
      first = c.note.ensures.first;
      one = c.note.ensures.one;
      waits = c.note.ensures.waits;
    } in
    subst (λ (o : Option BitmapIndex). AreNoted o c.args.number c.args.bitmap c.args.full (Some c.note.new.self)) (sym c.in-Some.is) ((λ e. noted), (λ other. absurd (other next)))
