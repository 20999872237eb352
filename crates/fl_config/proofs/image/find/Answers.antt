use Rattle.std.proofs.Common.{◌≡◌, ◌+◌, ◌∙◌, length, slice_range, ap, rules}
use Rattle.fl_config.proofs.Opened.{find-opens, range-front}
use Rattle.fl_config.proofs.image.find.Goals as goal

pub returns : goal.returns
returns g c =
    let read = c.in_ok-read_at.ensures in
    let old = g.M.Media.state c.args.media.now in
    let size : length c.read_at.new.into ≡ 1024 = search rules in
    find-opens c.args.len c.args.head.now c.read_at.new.into c.compare.result old (g.M.Media.state c.read_at.new.self) c.requires.some
    (search (rules, c.len-found.ensures, c.if-found-len.false)) read.tells read.content read.reads read.cause.later
    (λ t. read.bytes t ∙ ap (λ n. slice_range old.content 0 (0 + n)) size ∙ range-front old.content 1024) c.compare.ensures
