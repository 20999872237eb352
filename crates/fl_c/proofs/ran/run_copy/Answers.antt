use Rattle.std.proofs.Common.{refl, sym, subst, Some, [], Option, ℕ, List, String, Global, map, string_bytes, ap, ◌≡◌, ◌∙◌, arith}
use Rattle.fl_session.specs.Words.{image_named}
use Rattle.fl_base.specs.Memory.{SinkState}
use Rattle.fl_flash.specs.Media.{MediaState}
use Rattle.fl_flash.specs.MemState.{media_state}
use Rattle.fl_session.specs.CausedEach.{EndsCaused}
use Rattle.fl_session.specs.Ends.{Ends, told_of}
use Rattle.fl_c.specs.Ran.{medium_of}
use Rattle.fl_c.proofs.ran.run_copy.Goals as goal

pub returns : goal.returns
returns c =
    let script = c.args.script.now in
    let old = media_state c.in_ok-media.media in
    let new = media_state c.run-status.new.media in
    let left = Some c.run-status.new.script.left.now in
    let replies = Some c.run-status.new.out.written in
    let status = c.run-status.result in
    let begins : old ≡ medium_of c.args.image.now = ap media_state c.in_ok-media.ensures ∙ ap medium_of c.in_ok-copy_of.ensures in
    let unsaid : Some c.in_ok-out.out.written ≡ Some [] = ap (λ (s : SinkState). Some s.written) c.in_ok-out.ensures in
    record {
      medium = new;
      left = c.run-status.new.script.left.now;
      ends = subst (λ (m : MediaState). Ends 64 script (told_of m new left (Some []) replies) status) begins
          (subst (λ (w : Option (List ℕ)). Ends 64 script (told_of old new left w replies) status) unsaid (c.run-status.ensures.run script refl refl));
      causes = subst (λ (m : MediaState). EndsCaused 64 script m new left (Some []) replies status) begins
          (subst (λ (w : Option (List ℕ)). EndsCaused 64 script old new left w replies status) unsaid (c.run-status.ensures.causes script refl));
      after = refl;
      tells = refl;
      words = λ usage. c.in_ok-words.ensures (ap (λ (ws : List (String Global)). image_named (map (λ word. string_bytes word) ws)) (sym c.deref.ensures.value) ∙ c.run-status.ensures.usage.0 usage);
      read = λ failed. absurd (omega (arith, c.run-status.ensures.read failed));
    }
