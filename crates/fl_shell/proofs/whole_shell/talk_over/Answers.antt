use Rattle.std.proofs.Common.{◌≡◌, Some, rules, ◌∙◌, sym, subst}
use Rattle.fl_flash.specs.Media.{MediaState}
use Rattle.fl_machine.specs.Script.{StandsAfter}
use Rattle.fl_image.proofs.Made.{makes-of}
use Rattle.fl_session.proofs.Over.{flash-keeps}
use Rattle.fl_shell.proofs.CausedEnds.{session-ends}
use Rattle.fl_shell.proofs.ShellEnds.{over-medium, over-goes}
use Rattle.fl_shell.proofs.whole_shell.talk_over.Goals as goal

pub returns : goal.returns
returns g c =
    let before = g.M.Media.state c.args.media.now in
    let after = g.M.Media.state c.media-1.given.0 in
    let e : g.M.Media.state c.media-1.given.0 ≡ g.M.Media.state c.into_media-media.result.now = search rules in
    record {
      ends = λ configured old left hand total w ready rests most told ended within is.
          over-medium configured old _ total _ _ _ before after _ _ _ _ _ c.over-session.ensures.medium (e ∙ c.into_media-media.ensures.state)
          (λ m stood. subst (λ (x : MediaState). StandsAfter configured (Some x.content) m) (sym e) (c.into_media-media.ensures.rests configured m stood))
          (c.talk_and_flush-end.ensures.ends configured old left hand total (makes-of 64 c.args.begun.now.config configured w) ready (c.over-session.ensures.begins configured old w rests) c.over-session.ensures.unread most told ended within is);
      told = λ left hand total told ended within is.
          session-ends c.args.begun.now.config before after _ _ _ total _ _ _ _ _ c.over-session.ensures.fresh c.talk_and_flush-end.ensures.goes (e ∙ c.into_media-media.ensures.state) (c.talk_and_flush-end.ensures.told left hand total told ended within is);
      input = c.talk_and_flush-end.ensures.input;
      statuses = c.talk_and_flush-end.ensures.statuses;
      keeps = flash-keeps _ _ before after c.over-session.ensures.medium (e ∙ c.into_media-media.ensures.state) c.over-session.ensures.start c.talk_and_flush-end.ensures.goes;
      goes = over-goes _ _ before after c.over-session.ensures.medium (e ∙ c.into_media-media.ensures.state) c.talk_and_flush-end.ensures.goes;
      read = c.talk_and_flush-end.ensures.read;
      write = c.talk_and_flush-end.ensures.write;
      later = c.talk_and_flush-end.ensures.later;
    }

pub over-session-requires : goal.over-session-requires
over-session-requires g c = record { whole = c.requires.whole; rooms = c.requires.rooms; reach = c.requires.reach; blank = c.requires.blank }

pub talk_and_flush-end-requires : goal.talk_and_flush-end-requires
talk_and_flush-end-requires g c = record { sound = c.over-session.ensures.sound; whole = c.requires.whole }
