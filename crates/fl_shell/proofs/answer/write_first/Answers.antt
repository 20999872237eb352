use Rattle.std.proofs.Common.{◌≡◌, true, false, Some, None, codes, eqb, option_map, slice_get, ◌∙◌, sym, ap, subst, rules}
use Rattle.std.specs.List.{starts_with}
use Rattle.fl_script.specs.Written.{Written}
use Rattle.fl_words.specs.Grammar.{words_in}
use Rattle.fl_shell.proofs.FirstKey.{group-first, group-some}
use Rattle.fl_shell.proofs.FirstSaid.{said-end, said-group, said-wordless}
use Rattle.fl_shell.proofs.answer.write_first.Goals as goal

pub returns-in-Some-clause-text : goal.returns-in-Some-clause-text
returns-in-Some-clause-text g c = λ said short same.
    let replies = c.args.replies.now in
    let begins : starts_with eqb replies (codes "group ") ≡ true = search rules in
    let word : Some c.in-Some.least.now ≡ slice_get (words_in replies) 5 = sym (ap (option_map (λ word. word.now)) c.in-Some.is) ∙ c.least_in.ensures in
    subst (λ l. Written (g.K.Sink.written c.args.out.now) (g.K.Sink.written c.write_line.new.out) c.write_line.result l)
    (sym (group-first said c.in-Some.least.now short (subst (λ l. starts_with eqb l (codes "group ") ≡ true) same begins) (subst (λ l. Some c.in-Some.least.now ≡ slice_get (words_in l) 5) same word))) c.write_line.ensures.text

pub returns-in-None-clause-text : goal.returns-in-None-clause-text
returns-in-None-clause-text g c = λ said short same.
    let replies = c.args.replies.now in
    let begins : starts_with eqb replies (codes "group ") ≡ true = search rules in
    let word : None ≡ slice_get (words_in replies) 5 = sym (ap (option_map (λ word. word.now)) c.in-None.is) ∙ c.least_in.ensures in
    absurd (group-some said short (subst (λ l. starts_with eqb l (codes "group ") ≡ true) same begins) (subst (λ l. None ≡ slice_get (words_in l) 5) same word))

pub returns-then-starts_with-clause-exact : goal.returns-then-starts_with-clause-exact
returns-then-starts_with-clause-exact g c =
    let replies = c.args.replies.now in
    let ends : starts_with eqb replies (codes "end ") ≡ true = search rules in
    subst (λ l. Written (g.K.Sink.written c.args.out.now) (g.K.Sink.written c.write_reply.new.out) c.write_reply.result l) (sym (said-end replies ends)) c.write_reply.ensures.text

pub returns-in-Some-clause-exact : goal.returns-in-Some-clause-exact
returns-in-Some-clause-exact g c =
    let replies = c.args.replies.now in
    let not : starts_with eqb replies (codes "end ") ≡ false = search rules in
    let begins : starts_with eqb replies (codes "group ") ≡ true = search rules in
    let word : Some c.in-Some.least.now ≡ slice_get (words_in replies) 5 = sym (ap (option_map (λ word. word.now)) c.in-Some.is) ∙ c.least_in.ensures in
    subst (λ l. Written (g.K.Sink.written c.args.out.now) (g.K.Sink.written c.write_line.new.out) c.write_line.result l) (sym (said-group replies not c.in-Some.least.now begins word)) c.write_line.ensures.text

pub returns-in-None-clause-exact : goal.returns-in-None-clause-exact
returns-in-None-clause-exact g c =
    let replies = c.args.replies.now in
    let not : starts_with eqb replies (codes "end ") ≡ false = search rules in
    let begins : starts_with eqb replies (codes "group ") ≡ true = search rules in
    let word : None ≡ slice_get (words_in replies) 5 = sym (ap (option_map (λ word. word.now)) c.in-None.is) ∙ c.least_in.ensures in
    subst (λ l. Written (g.K.Sink.written c.args.out.now) (g.K.Sink.written c.write_all-in-None.new.out) c.write_all-in-None.result l) (sym (said-wordless replies not begins word)) c.write_all-in-None.ensures.text
