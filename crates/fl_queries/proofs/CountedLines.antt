-- The replies to lines that were listed.
use Rattle.std.proofs.Common.{◌≡◌, ℕ, ◌+◌, ◌-◌, ◌^◌, ◌<◌, ◌≤◌, true, false, Option, Result, Ok, Err, IfOk, IfErr, List, [], ◌∷◌, ◌++◌, length, take, refl, sym, ◌∙◌, ap, subst, inl, inr, length-append, arith, take_all, IsTrue, None, option_map, unwrap_or}
use Rattle.std.proofs.Math.Seq.{take-append_seam}
use Rattle.std.proofs.lemmas.Bool.{false≢true}
use Rattle.std.proofs.lemmas.Grind.{flat_map-append}
use Rattle.std.proofs.lemmas.Result.{on_ok_weaker}
use Rattle.fl_base.specs.Causes.{Appends, AppendsFront}
use Rattle.fl_base.specs.declared.stream.SinkFailed.{SinkFailed}
use Rattle.fl_base.proofs.Appended.{front-more}
use Rattle.fl_flash.specs.Flash.{FlashState}
use Rattle.fl_machine.specs.Reads.{is_read_fault}
use Rattle.fl_model.proofs.Lists.{last_or-push}
use Rattle.fl_page.specs.declared.fault.BadPage.{BadPage as BadPageOf}
use Rattle.fl_page.specs.declared.fault.ReadFault.TheVariants.{Flash, BadPage}
use Rattle.fl_parts.proofs.ListedPages.{any-ok}
use Rattle.fl_script.specs.Written.{Written}
use Rattle.fl_words.specs.Reply as reply
use Rattle.fl_words.specs.Reply.{Reply, text, texts}
use Rattle.fl_queries.specs.Lines.{AreMade, Counted, IsNoBadPage, ReadsLines}
use Rattle.fl_queries.specs.Listed.{IfUnread, ends_unread}
use Rattle.fl_queries.specs.ListSays.{GivesLines, SaysEnd}
use Rattle.fl_queries.specs.declared.listing.ListFault.{ListFault}
use Rattle.fl_queries.specs.declared.listing.ListFault.TheVariants.{Sink, Read}
use Rattle.fl_queries.proofs.Resumed.{rose-read, read-counted}
use Rattle.fl_queries.proofs.RowLines.{written-last, front-last}

-- ---- a front of lines

module _ (lines rest all : List Reply) (parts : lines ++ rest ≡ all) where
  pub front-length : length lines ≤ length all
  front-length = omega (arith, ap (λ (l : List Reply). length l) parts, length-append lines rest)

  -- it is as many of them as it has
  pub front-taken : lines ≡ take (length lines) all
  front-taken = sym (take-append_seam lines rest) ∙ ap (take (length lines)) parts

  -- it is all of them
  pub front-whole : length all ≡ length lines → lines ≡ all
  front-whole many = front-taken ∙ take_all (length lines) all (omega (arith, many))

  -- what was written of it is a front of the text of all
  pub front-written : (told now : Option (List ℕ)) → AppendsFront told now (texts lines) → AppendsFront told now (texts all)
  front-written told now front =
      subst (λ (l : List ℕ). AppendsFront told now l) (sym (flat_map-append text lines rest) ∙ ap texts parts) (front-more told now (texts lines) (texts rest) front)

-- ---- the replies

-- what ends with a read fault
unread-last : (lines : List Reply) → ends_unread (lines ++ reply.ReadFault ∷ []) ≡ true
unread-last lines = ap (λ (last : Option Reply). unwrap_or (option_map is_read_fault last) false) (last_or-push None lines reply.ReadFault)

-- .. and what doesn't
pub none-unread : {P : Type 0} (lines : List Reply) (last : Reply) → is_read_fault last ≡ false → IsTrue (ends_unread (lines ++ last ∷ [])) → P
none-unread lines last other unread =
    let is : ends_unread (lines ++ last ∷ []) ≡ false = ap (λ (end : Option Reply). unwrap_or (option_map is_read_fault end) false) (last_or-push None lines last) ∙ other in
    absurd (false≢true (sym is ∙ unread))

-- the sink failed
counted-failed : {E : Type 0} (all : List Reply) (most least : ℕ) (told now : Option (List ℕ)) (faults faults_now reads reads_now : ℕ) (e : E) → AppendsFront told now (texts all) → reads_now ≤ reads + most →
    Counted all most least told now faults faults_now reads reads_now (Err e)
counted-failed all most least told now faults faults_now reads reads_now e front within = record {
  rose = false;
  risen = λ t. absurd (false≢true t);
  replies = all ++ reply.EndCount (length all) ∷ [];
  lists = inl refl;
  wrote = front-last all (reply.EndCount (length all)) told now front;
  within = within;
  some = tt;
  failed = none-unread all (reply.EndCount (length all)) refl;
}

module _ (Made : List Reply → Type 0) (Told : Type 0) (IsBad : BadPageOf → Type 0) (all : List Reply) (most least : ℕ) (told mid now : Option (List ℕ)) (f g : FlashState) (result : Result (Unit {0}) SinkFailed) (t : Told) (on : f.is_on ≡ true) (few : length all < 2 ^ 64 - 1) where
  -- all lines were listed, and their number is said; or the sink failed, or a page wasn't read
  pub counted-listed : (listed : Result ℕ ListFault) → GivesLines (AreMade Made Told all) IsBad (2 ^ 64 - 1) told mid listed → IfOk listed (λ count. count < 2 ^ 64 - 1 → length all ≡ count) → IfErr listed IsNoBadPage →
      ReadsLines (2 ^ 64 - 1) most least f.work.reads g.work.reads listed → IfErr listed (IfUnread f g) → SaysEnd listed mid now result → Counted all most least told now f.media.faults g.media.faults f.work.reads g.work.reads result
  counted-listed (Ok count) h whole good rises caused said =
      let front = h.are_lines.front t in
      let upto : length h.lines ≤ length all = front-length h.lines front.0 all front.1 in
      let less : count < 2 ^ 64 - 1 = omega (arith, few, h.many, upto) in
      let many : length all ≡ count = whole less in
      let is : h.lines ≡ all = front-whole h.lines front.0 all front.1 (many ∙ sym h.many) in
      record {
        rose = false;
        risen = λ t. absurd (false≢true t);
        replies = all ++ reply.EndCount (length all) ∷ [];
        lists = inl refl;
        wrote = written-last all (reply.EndCount (length all)) told mid now result (subst (λ (l : List Reply). Appends told mid (texts l)) is h.wrote)
            (subst (λ n. Written mid now result (text (reply.EndCount n))) (sym many) said);
        within = rises.within;
        some = any-ok result (λ unread below. rises.some less below);
        failed = none-unread all (reply.EndCount (length all)) refl;
      }
  counted-listed (Err (Sink failed)) h whole good rises caused said =
      let front = h.are_lines.front t in
      rw (said.0, said.1) (counted-failed all most least told mid f.media.faults g.media.faults f.work.reads g.work.reads failed (front-written h.lines front.0 all front.1 told mid h.wrote) rises.within)
  counted-listed (Err (Read (Flash fault))) h whole good rises caused said =
      let shown = h.0.2 in
      let front = shown.are_lines.front t in
      record {
        rose = true;
        risen = λ t. rose-read f g fault on caused;
        replies = take (length shown.lines) all ++ reply.ReadFault ∷ [];
        lists = inr (refl, (length shown.lines, front-length shown.lines front.0 all front.1, refl));
        wrote = written-last (take (length shown.lines) all) reply.ReadFault told mid now result
            (subst (λ (l : List Reply). Appends told mid (texts l)) (front-taken shown.lines front.0 all front.1) shown.wrote) said;
        within = rises.within;
        some = any-ok result (λ unread. absurd (false≢true (sym unread ∙ unread-last (take (length shown.lines) all))));
        failed = λ unread. read-counted f g fault on caused;
      }
  counted-listed (Err (Read (BadPage bad))) h whole good rises caused said = absurd good

-- the same within wider bounds
pub counted-wider : {E : Type 0} (lines : List Reply) (most least wider fewer : ℕ) (told now : Option (List ℕ)) (faults faults_now reads reads_now : ℕ) (result : Result (Unit {0}) E) → most ≤ wider → fewer ≤ least → Counted lines most least told now faults faults_now reads reads_now result →
    Counted lines wider fewer told now faults faults_now reads reads_now result
counted-wider lines most least wider fewer told now faults faults_now reads reads_now result more less h = record {
  rose = h.rose;
  risen = h.risen;
  replies = h.replies;
  lists = h.lists;
  wrote = h.wrote;
  within = omega (arith, h.within, more);
  some = on_ok_weaker result (λ rises unread below. let rise = rises unread below in omega (arith, rise, less)) h.some;
  failed = h.failed;
}
