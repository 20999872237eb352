use Rattle.std.proofs.Common.{refl, sym, ◌∙◌, arith}
use Rattle.fl_script.proofs.Blobs.{few, uneven}
use Rattle.fl_script.proofs.room.decode_front.Goals.{then-count-eq0-via-then-count-eq0, then-count-eq0-via-else-count-eq0+then-word-ne0}
use Rattle.fl_script.proofs.room.decode_front.Goals as goal

pub returns-then-count-eq0 : goal.returns-then-count-eq0
returns-then-count-eq0 c =
    let dash = sym c.is.ensures ∙ c.if-is.false in (
      elim c.then-count-eq0.branch [
        | then-count-eq0-via-then-count-eq0 w ↦ few c.args.word.now dash (omega (arith, w.if-count-eq0.true))
        | then-count-eq0-via-else-count-eq0+then-word-ne0 w ↦ uneven c.args.word.now dash (omega (arith, w.if-word-ne0.true))
      ],
      refl,
    )
