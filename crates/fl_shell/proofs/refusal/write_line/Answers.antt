use Rattle.std.proofs.Common.{[], ◌==◌, false, ◌≡◌, refl}
use Rattle.std.proofs.lemmas.List.Elements.{All-nil}
use Rattle.fl_shell.proofs.refusal.write_line.Goals as goal

pub returns-in-Err-clause-text : goal.returns-in-Err-clause-text
returns-in-Err-clause-text g c = (_, record { reason = []; is = refl; one = All-nil (λ byte. (byte == 10) ≡ false) }, c.write_all-in-Err.ensures.text)
