use Rattle.std.proofs.Common.{◌≤◌, ◌-◌, drop, ℕ, List, length, Bor, refl, sym, ap, ◌∙◌}
use Rattle.std.proofs.lemmas.List.Elements.{All-take, All-drop}
use Rattle.std.proofs.lemmas.Bool.{and_left}
use Rattle.fl_words.specs.Grammar as grammar
use Rattle.fl_script.proofs.Puts.{put_as, too_many, two_and_more}
use Rattle.fl_script.proofs.Steps.{no_form, with_part, no_part, on, stops, fails}
use Rattle.fl_script.proofs.put.put_line.Goals as goal

abbrev IsShort : Bor (List ℕ) → Type 0
IsShort word = length word.now ≤ 4096

pub decode_blob-requires-clause-short : goal.decode_blob-requires-clause-short
decode_blob-requires-clause-short c = c.blob_split.ensures.short (All-take IsShort (length c.args.words.now - 2) (drop 2 c.args.words.now) (All-drop IsShort 2 c.args.words.now c.requires.short))

pub returns-in_err-name-clause-command : goal.returns-in_err-name-clause-command
returns-in_err-name-clause-command c =
    fails _ _ _ _ c.from_residual.ensures.1 c.in_err-name.ensures.1
    (ap grammar.put_line (two_and_more c.args.words.now c.in-len2-up.len_at_least) ∙ no_form _ (and_left _ _ c.in_err-name.ensures.0))

pub returns-then-values-gt16-clause-command : goal.returns-then-values-gt16-clause-command
returns-then-values-gt16-clause-command c = sym (too_many c.args.words.now c.blob_split.result.0.now _ c.in-len2-up.len_at_least c.blob_split.ensures.split c.if-values-gt16.true)

pub returns-in_err-blob-clause-command : goal.returns-in_err-blob-clause-command
returns-in_err-blob-clause-command c =
    fails _ _ _ _ c.from_residual-in_err-blob.ensures.1 c.in_err-blob.ensures.1
    (put_as c.args.words.now c.blob_split.result.0.now _ c.in-len2-up.len_at_least c.in_ok-name.ensures.0 c.blob_split.ensures.split c.if-values-gt16.false ∙ no_part _ c.in_err-blob.ensures.0)

pub returns-in_err-number-clause-command : goal.returns-in_err-number-clause-command
returns-in_err-number-clause-command c =
    fails _ _ _ _ c.from_residual-in_err-number.ensures.1 c.in_err-number.ensures.1
    (put_as c.args.words.now c.blob_split.result.0.now _ c.in-len2-up.len_at_least c.in_ok-name.ensures.0 c.blob_split.ensures.split c.if-values-gt16.false ∙ with_part _ c.in_ok-blob.ensures.0 ∙ stops _ c.in_err-number.ensures.0)

pub returns-in_err-each_signed-clause-command : goal.returns-in_err-each_signed-clause-command
returns-in_err-each_signed-clause-command c =
    fails _ _ _ _ c.from_residual-in_err-each_signed.ensures.1 c.in_err-each_signed.ensures.1
    (put_as c.args.words.now c.blob_split.result.0.now _ c.in-len2-up.len_at_least c.in_ok-name.ensures.0 c.blob_split.ensures.split c.if-values-gt16.false ∙ with_part _ c.in_ok-blob.ensures.0 ∙ on _ c.in_ok-number.ensures ∙ stops _ c.in_err-each_signed.ensures.0)

pub returns-clause-command : goal.returns-clause-command
returns-clause-command c =
    rw (
      put_as c.args.words.now c.blob_split.result.0.now _ c.in-len2-up.len_at_least c.in_ok-name.ensures.0 c.blob_split.ensures.split c.if-values-gt16.false,
      c.in_ok-blob.ensures.0,
      c.in_ok-number.ensures,
      c.in_ok-each_signed.ensures,
      c.in_ok-name.ensures.1,
    ) refl
