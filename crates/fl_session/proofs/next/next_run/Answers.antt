use Rattle.fl_session.proofs.Nexts.{ends-refused}
use Rattle.fl_session.proofs.next.next_run.Goals as goal

pub returns-in_default-3 : goal.returns-in_default-3
returns-in_default-3 g c =
    let h = c.next_command-next.ensures in
    rw c.in_default.is (record { given = h.given; advances = h.advances; next = ends-refused h.given _ _ _ (rw c.in_default.is at h.next) })
