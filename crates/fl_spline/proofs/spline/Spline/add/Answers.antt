use Rattle.fl_spline.proofs.Retained.{SplineOf-push}
use Rattle.fl_spline.proofs.spline.Spline.add.Goals as goal

pub returns-clause-spline : goal.returns-clause-spline
returns-clause-spline g c = λ error points h. SplineOf-push _ _ error points _ c.scan_one.ensures.error c.scan_one.ensures.last c.requires c.scan_one.ensures.scans h
