use Rattle.std.proofs.Common.{◌≡◌, rules, ◌∙◌}
use Rattle.fl_session.proofs.CausesInTurn.{over-session}
use Rattle.fl_session.proofs.Over.{session-runs, flash-keeps}
use Rattle.fl_session.proofs.whole_run.run_session.Goals as goal

pub returns-clause-runs : goal.returns-clause-runs
returns-clause-runs g c = λ configured w.
    let e : g.M.Media.state c.media-1.given.0 ≡ g.M.Media.state c.end-media.result.now = search rules in
    session-runs configured _ _ _ _ _ _ _ _ _ _ c.over-session.ensures.medium (e ∙ c.end-media.ensures.state) (λ m rests. c.over-session.ensures.begins configured m w rests)
    _ _ _ _ _ _ _ _
    (c.run_first-status.ensures.tells configured) (c.run_first-status.ensures.runs configured)

pub returns-clause-causes : goal.returns-clause-causes
returns-clause-causes g c =
    let e : g.M.Media.state c.media-1.given.0 ≡ g.M.Media.state c.end-media.result.now = search rules in
    over-session _ _ _ _ _ _ _ _ _ _ _ _ _ c.over-session.ensures.fresh c.run_first-status.ensures.goes (e ∙ c.end-media.ensures.state) c.run_first-status.ensures.rows c.run_first-status.ensures.causes

pub returns-clause-form : goal.returns-clause-form
returns-clause-form g c =
    let e : g.M.Media.state c.media-1.given.0 ≡ g.M.Media.state c.end-media.result.now = search rules in
    flash-keeps _ _ _ _ c.over-session.ensures.medium (e ∙ c.end-media.ensures.state) c.over-session.ensures.start c.run_first-status.ensures.goes

pub returns-clause-read : goal.returns-clause-read
returns-clause-read g c = c.run_first-status.ensures.read

pub returns-clause-write : goal.returns-clause-write
returns-clause-write g c = c.run_first-status.ensures.write

pub returns-clause-statuses : goal.returns-clause-statuses
returns-clause-statuses g c = c.run_first-status.ensures.statuses

pub returns-clause-later : goal.returns-clause-later
returns-clause-later g c = c.run_first-status.ensures.later

pub run_first-status-requires-clause-in_hand : goal.run_first-status-requires-clause-in_hand
run_first-status-requires-clause-in_hand g c = c.requires.in_hand
