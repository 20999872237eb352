use Rattle.std.proofs.Common.{◌∙◌, sym}
use Rattle.std.specs.Cmp.Lexicographic.{bytes_decides}
use Rattle.std.proofs.lemmas.Bool.{OnFalse_from, false≢true}
use Rattle.fl_image.proofs.Made.{made}
use Rattle.fl_image.proofs.header.is_header_of.Goals as goal

pub returns-clause-no : goal.returns-clause-no
returns-clause-no c =
    OnFalse_from c.eq.result _ (λ other is.
    let m = made c.args.config.now c.requires.whole in
    false≢true (sym other ∙ c.eq.ensures ∙ (bytes_decides c.args.header.now c.header.new.into).1 (is.text m.0 m.1 ∙ sym (c.header.ensures m.0 m.1))))
