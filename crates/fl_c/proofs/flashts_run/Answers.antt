use Rattle.std.proofs.Common.{refl, sym, ap, take, ℕ, Some, inl, inr}
use Rattle.fl_ends.specs.declared.run.Status.TheVariants.{NoMemory}
use Rattle.fl_c.specs.Ran.{medium_of}
use Rattle.fl_c.proofs.flashts_run.Goals as goal

pub returns-in_default-run_copy-clause-ran : goal.returns-in_default-run_copy-clause-ran
returns-in_default-run_copy-clause-ran c =
    let silent = ap (λ (n : ℕ). Some (take n c.args.replies.now)) c.none_ran.ensures.replies in
    inr (record {
      status = NoMemory;
      number_is = sym c.none_ran.ensures.number;
      line_is = sym c.none_ran.ensures.line;
      ran = record {
        medium = medium_of (take c.args.image_len.now c.args.image.now);
        left = c.args.script.now;
        ends = ((silent, inl refl), inl refl);
        causes = ((refl, silent), inl refl);
        after = refl;
        tells = refl;
        words = λ usage. cc;
        read = λ failed. cc;
      };
    })
