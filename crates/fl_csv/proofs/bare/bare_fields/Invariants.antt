use Rattle.std.proofs.Common.{◌≡◌, ◌++◌, length, drop, map}
use Rattle.fl_words.specs.Parts.{comma_parts}
use Rattle.fl_csv.proofs.bare.bare_fields.Given as goal

abbrev pub invariant-loop-field : goal.invariant-loop-field
invariant-loop-field l = record {
  can_next : (goal.iterator-loop-field).can_next l.field-iterator;
  finite : (goal.iterator-loop-field).is_finite l.field-iterator;
  fields : map (λ field. field.now) l.fields.items ++ drop (length l.yielded) (comma_parts l.line) ≡ comma_parts l.line;
}
