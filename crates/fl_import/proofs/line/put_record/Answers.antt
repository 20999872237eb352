use Rattle.std.proofs.Common.{◌≡◌, ℕ, Option, Some, List, sym, ◌∙◌, ap, option_map}
use denote.Bor.{Bor}
use Rattle.fl_import.proofs.line.put_record.Goals as goal
use Rattle.fl_import.proofs.line.put_record.Goals.{in-None, in-Some}

pub returns-clause-ends : goal.returns-clause-ends
returns-clause-ends g c = λ first plan t rose device watched stands.
    let pointed : Option (Bor (List ℕ)) → Option (List ℕ) = λ blob. option_map (λ b. b.now) blob in
    let blob : pointed c.match-put.blob ≡ c.args.put.now.blob =
    elim c.match-put.branch [
      | in-None w ↦ ap pointed w.blob-is ∙ sym w.in-None.is
      | in-Some w ↦ ap pointed w.blob-is ∙ (ap Some w.bytes.ensures ∙ sym w.in-Some.is)
    ] in
    rw (c.as_slice.ensures.value, blob) at (c.put.ensures.put first plan t rose device watched stands)
