use Rattle.std.proofs.Common.{◌+◌, ◌-◌, ◌≤◌, ◌<◌, length, sym, ◌∙◌, ap, subst, arith}
use Rattle.std.specs.List.{slice_range}
use Rattle.fl_lines.specs.Stream.{LinesState, after_line}
use Rattle.fl_lines.proofs.Pieces.{line-given, slice-short}
use Rattle.fl_lines.proofs.lines.Lines.give_line.Goals as goal

pub returns : goal.returns
returns c =
    let s = c.self.inside in
    let short : c.args.len < length (slice_range s.buf.items s.from s.to) = subst (λ (x : LinesState). c.args.len < length x.ahead) (sym c.self.view_is) c.requires in
    let fits : s.from + (c.args.len + 1) ≤ s.to = omega (arith, short, slice-short s.buf.items s.from s.to) in
    line-given s.buf.items s.from s.to c.args.len (s.most - (c.args.len + 1)) s.closed fits ∙ ap (after_line c.args.len) c.self.view_is
