use Rattle.std.proofs.Common.{map, ap, ◌∙◌}
use Rattle.fl_words.specs.Grammar as grammar
use Rattle.fl_script.proofs.Few.{two, four, bad_range, bad_span, word_at}
use Rattle.fl_script.proofs.Steps.{on, told}
use Rattle.fl_script.specs.Lines.{HasNoRange}
use Rattle.fl_script.proofs.queries.with_range.Goals as goal

pub returns-in_err-key_range-in-len2 : goal.returns-in_err-key_range-in-len2
returns-in_err-key_range-in-len2 c =
    told _ _ _ _ (HasNoRange (map (λ word. word.now) c.args.words.now)) c.from_residual.ensures.1 c.in_err-key_range-in-len2.ensures.1
    (λ f. ap (λ words. grammar.with_range words f) (two c.args.words.now c.in-len2.len_at_least c.in-len2.len_below) ∙ bad_range (word_at c.args.words.now 0) (word_at c.args.words.now 1) c.in_err-key_range-in-len2.ensures.0 _)

pub returns-in_err-range-in-len4 : goal.returns-in_err-range-in-len4
returns-in_err-range-in-len4 c =
    told _ _ _ _ (HasNoRange (map (λ word. word.now) c.args.words.now)) c.from_residual-in_err-range-in-len4.ensures.1 c.in_err-range-in-len4.ensures.1
    (λ f. ap (λ words. grammar.with_range words f) (four c.args.words.now c.in-len4.len_at_least c.in-len4.len_below) ∙ bad_range (word_at c.args.words.now 0) (word_at c.args.words.now 1) c.in_err-range-in-len4.ensures.0 _)

pub returns-in_err-span-in-len4 : goal.returns-in_err-span-in-len4
returns-in_err-span-in-len4 c =
    told _ _ _ _ (HasNoRange (map (λ word. word.now) c.args.words.now)) c.from_residual-in_err-span-in-len4.ensures.1 c.in_err-span-in-len4.ensures.1
    (λ f. ap (λ words. grammar.with_range words f) (four c.args.words.now c.in-len4.len_at_least c.in-len4.len_below) ∙ on _ c.in_ok-range-in-len4.ensures.0 ∙ on _ c.in_ok-range-in-len4.ensures.1 ∙ bad_span (word_at c.args.words.now 2) (word_at c.args.words.now 3) c.in_err-span-in-len4.ensures.0 _)

pub returns-in_ok-key_range-in-len2 : goal.returns-in_ok-key_range-in-len2
returns-in_ok-key_range-in-len2 c = λ f. ap (λ words. grammar.with_range words f) (two c.args.words.now c.in-len2.len_at_least c.in-len2.len_below) ∙ on _ c.in_ok-key_range-in-len2.ensures.0 ∙ on _ c.in_ok-key_range-in-len2.ensures.1

pub returns-in_ok-span-in-len4 : goal.returns-in_ok-span-in-len4
returns-in_ok-span-in-len4 c = λ f.
    ap (λ words. grammar.with_range words f) (four c.args.words.now c.in-len4.len_at_least c.in-len4.len_below)
    ∙ on _ c.in_ok-range-in-len4.ensures.0 ∙ on _ c.in_ok-range-in-len4.ensures.1 ∙ on _ c.in_ok-span-in-len4.ensures.0 ∙ on _ c.in_ok-span-in-len4.ensures.1
