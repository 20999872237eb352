use Rattle.std.proofs.Common.{sym, subst, ◌∙◌}
use Rattle.std.proofs.lemmas.List.{nil_from_length}
use Rattle.fl_words.specs.Grammar.{lines_of}
use Rattle.fl_shell.specs.Leading.{BeginsAs}
use Rattle.fl_shell.specs.Reading.{rest_in}
use Rattle.fl_shell.proofs.Header.{header-begins, some-at}
use Rattle.fl_shell.proofs.InputEnds.{header-input, leads-input}
use Rattle.fl_shell.proofs.begin.begin.Goals as goal

pub returns-then-len-eq0-clause-begins : goal.returns-then-len-eq0-clause-begins
returns-then-len-eq0-clause-begins g c = λ left total tells told within short.
    let empty = nil_from_length (g.M.Media.state c.args.media.now).content (sym c.len.ensures ∙ c.if-len-eq0.true) in
    subst (λ content. BeginsAs content (lines_of (rest_in c.args.lines.now left)) total c.of_lines.result c.of_lines.new.lines (g.S.Source.left c.of_lines.new.input) (g.K.Sink.written c.args.out.now) (g.K.Sink.written c.of_lines.new.out)) (sym empty)
    (c.of_lines.ensures.leads left total told within)

pub returns-else-len-eq0-clause-begins : goal.returns-else-len-eq0-clause-begins
returns-else-len-eq0-clause-begins g c = λ left total tells told within short.
    let old = g.M.Media.state c.args.media.now in
    header-begins old.content c.args.lines.now total left (g.S.Source.left c.args.input.now) (g.K.Sink.written c.args.out.now) old.faults (g.M.Media.state c.of_header.new.media).faults old.tells c.of_header.result tells
    (some-at old.content c.len.result c.len.ensures (λ none. c.if-len-eq0.false none)) told within c.of_header.ensures.image c.of_header.ensures.next c.of_header.ensures.none c.of_header.ensures.statuses

pub returns-then-len-eq0-clause-input : goal.returns-then-len-eq0-clause-input
returns-then-len-eq0-clause-input g c = λ left total told within.
    leads-input (lines_of (rest_in c.args.lines.now left)) total c.of_lines.result c.of_lines.new.lines (g.S.Source.left c.of_lines.new.input) (g.K.Sink.written c.args.out.now) (g.K.Sink.written c.of_lines.new.out) (c.of_lines.ensures.leads left total told within)

pub returns-else-len-eq0-clause-input : goal.returns-else-len-eq0-clause-input
returns-else-len-eq0-clause-input g c = λ left total told within.
    header-input total left c.args.lines.now (g.S.Source.left c.args.input.now) c.of_header.result (g.M.Media.state c.args.media.now).faults (g.M.Media.state c.of_header.new.media).faults told within c.of_header.ensures.next c.of_header.ensures.statuses
