-- The reads of a mount.
use Rattle.std.proofs.Common.{◌≡◌, ℕ, suc, ◌+◌, ◌*◌, ◌-◌, ◌≤◌, Bool, true, false, Option, Some, Result, List, [], ◌∷◌, length, sum_by, refl, sym, ◌∙◌, ap, subst, arith, MatchBool, slice_get, add-mul}
use Rattle.std.proofs.lemmas.List.Sums.{sum_by-cons}
use Rattle.std.proofs.lemmas.Option.{slice_get_within}
use Rattle.fl_model.proofs.Lists.{slice_get-some}
use Rattle.fl_base.specs.declared.types.Geometry.{Geometry}
use Rattle.fl_flash.specs.Flash.{FlashState}
use Rattle.fl_model.specs.Record.{Config, Plan, blocks_of}
use Rattle.fl_model.specs.Mount.{Mounts, MountEnd, Mounted, Stopped, Unread, turns_from}
use Rattle.fl_model.specs.Table.{Table}
use Rattle.fl_model.specs.Work.{Device, Outcome, Progress, Finished, CutShort, Failed}
use Rattle.fl_words.specs.Command as command
use Rattle.fl_words.specs.Reply as reply
use Rattle.fl_words.specs.Reply.{Reply}
use Rattle.fl_machine.specs.Machine.{Machine}
use Rattle.fl_machine.specs.Reads as machine
use Rattle.fl_machine.specs.Reads.{none_read, mounts_limit, WithinMount, LimitOf}
use Rattle.fl_machine.specs.Step.{Moment, Step, StepOf, Says, EndsAs, EndsMount}
use Rattle.fl_frame.specs.Watched.{IsWatched}
use Rattle.fl_script.specs.Written.{Written}
use Rattle.fl_rlc.specs.Mounting.{pages_in}
use Rattle.fl_store.specs.Tables.{TablesStand, pages_of, first_of}
use Rattle.fl_store.specs.declared.tables.Entry.{Entry}
use Rattle.fl_store.proofs.TablesReads.{planned-pages}
use Rattle.fl_session.specs.Answer.{Answers}
use Rattle.fl_session.specs.Cost.{ReadsMount}
use Rattle.fl_session.specs.Execute.{Executes}
use Rattle.fl_session.specs.Standing.{SessionStands}
use Rattle.fl_session.specs.declared.notes.Notes.{Notes}
use Rattle.fl_session.proofs.CommandReplies.{step-is}
use Rattle.fl_session.proofs.ExecutedCommand.{executes-by}
use Rattle.fl_session.proofs.MountsOf.{stands-powered, mount-watched}
use Rattle.fl_store.proofs.Risen.{has_risen}

-- the same moment, with so many reads
abbrev again : Moment → ℕ → Moment
again moment n = record moment { reads = n }

says-again : (moment : Moment) (n : ℕ) (replies : List Reply) (new : Machine) → Says moment replies new → Says (again moment n) replies new
says-again moment n replies new h = record { replies_are = h.replies_are; after_is = h.after_is; last_is = h.last_is }

ends-again : (outcome : Outcome) (old : Machine) (moment : Moment) (n : ℕ) (end : Progress) → EndsAs outcome old moment end [] [] old → EndsAs outcome old (again moment n) end [] [] old
ends-again Finished old moment n end h = says-again moment n [] old h
ends-again (CutShort last) old moment n end h = record { replies_are = h.replies_are; after_is = h.after_is; last_is = h.last_is }
ends-again (Failed last) old moment n end h = record { replies_are = h.replies_are; after_is = h.after_is; last_is = h.last_is }

end-again : (config : Config) (old : Machine) (moment : Moment) (n : ℕ) (how : MountEnd) → EndsMount config old moment how → EndsMount config old (again moment n) how
end-again config old moment n (Mounted end) h = says-again moment n _ _ h
end-again config old moment n (Stopped end) h = ends-again end.outcome old moment n end h
end-again config old moment n (Unread end) h = says-again moment n _ _ h

-- a step of a mount is one whatever it reads
mount-again : (config : Config) (old : Machine) (moment : Moment) (n : ℕ) → StepOf config old moment command.Mount → StepOf config old (again moment n) command.Mount
mount-again config old moment n h = by_mounted old.mounted h
  where
    by_mounted : (b : Bool) → MatchBool b (Says moment (reply.AlreadyMounted ∷ []) old) ((how : MountEnd) × Mounts config.plans moment.rose (turns_from 0 config.plans) old.device old.tables how × EndsMount config old moment how) →
        MatchBool b (Says (again moment n) (reply.AlreadyMounted ∷ []) old) ((how : MountEnd) × Mounts config.plans moment.rose (turns_from 0 config.plans) old.device old.tables how × EndsMount config old (again moment n) how)
    by_mounted true h = says-again moment n _ _ h
    by_mounted false (how, did, ends) = (how, did, end-again config old moment n how ends)

-- a mount of a session that isn't mounted, once the power is on
pub limit-call : (config : Config) (old : Machine) (entries : List Entry) (notes : Notes) (f on g : FlashState) (mounted : Bool) → SessionStands config entries f mounted notes old → mounted ≡ false → on ≡ record f { is_on = true } →
    ((plans : List Plan) (tables : List Table) (rose : Bool) (device : Device) → IsWatched on g rose device → TablesStand on (λ i. false) plans entries tables → g.work.reads ≤ on.work.reads + mounts_limit plans tables) →
    ReadsMount mounted f g (mounts_limit config.plans old.tables)
limit-call config old entries notes f on g mounted h off is limit =
    let h' = stands-powered config old entries notes f on mounted h off is in
    let few = limit config.plans old.tables (has_risen on g) old.device (mount-watched config entries notes on g old h' (ap (λ (x : FlashState). x.is_on) is)) h'.tables in
    let same : on.work.reads ≡ f.work.reads = ap (λ (x : FlashState). x.work.reads) is in
    rw off (omega (arith, few, same))

-- the rings of the tables are a part of the pages
pages-within : (plans : List Plan) (entries : List Entry) (block : ℕ) → length entries ≡ length plans →
    ((i : ℕ) (plan : Plan) (entry : Entry) → slice_get plans i ≡ Some plan → slice_get entries i ≡ Some entry → pages_in entry.table ≤ blocks_of plan * block) → pages_of entries ≤ sum_by blocks_of plans * block
pages-within [] [] block n each = omega arith
pages-within [] (entry ∷ entries) block n each = absurd (omega (arith, n))
pages-within (plan ∷ plans) [] block n each = absurd (omega (arith, n))
pages-within (plan ∷ plans) (entry ∷ entries) block n each =
    let first = each 0 plan entry refl refl in
    let others = pages-within plans entries block (omega (arith, n)) (λ i p e x y. each (suc i) p e x y) in
    let all : sum_by blocks_of (plan ∷ plans) * block ≡ blocks_of plan * block + sum_by blocks_of plans * block = ap (λ k. k * block) (sum_by-cons blocks_of plan plans) ∙ add-mul (blocks_of plan) (sum_by blocks_of plans) block in
    omega (arith, first, others, all, sum_by-cons (λ (e : Entry). pages_in e.table) entry entries)

module _ (config : Config) (old : Machine) (entries : List Entry) (notes : Notes) (f g : FlashState) (mounted : Bool) (h : SessionStands config entries f mounted notes old) where
  few-pages : pages_of entries ≤ machine.pages_in config
  few-pages = pages-within config.plans entries config.geometry.block h.tables.as_many (λ i plan entry p e.
      let table = slice_get-some old.tables i (omega (arith, slice_get_within config.plans i plan p, h.tables.all)) in
      let s = h.tables.each i plan entry table.0 p e table.1 in
      subst (λ (k : Geometry). pages_in entry.table ≤ blocks_of plan * k.block) (s.geometry ∙ h.medium.geometry) (planned-pages entry.table (first_of config.plans i) plan s.planned))

  mount-limit : (moment : Moment) → ReadsMount mounted f g (4 * pages_of entries) → ReadsMount mounted f g (mounts_limit config.plans old.tables) → moment.reads ≡ g.work.reads - f.work.reads → LimitOf config old moment command.Mount
  mount-limit moment few limited is = subst (λ b. MatchBool b (none_read moment) (WithinMount config old moment)) (sym h.is_mounted) (by_mounted mounted few limited)
    where
      by_mounted : (b : Bool) → ReadsMount b f g (4 * pages_of entries) → ReadsMount b f g (mounts_limit config.plans old.tables) → MatchBool b (none_read moment) (WithinMount config old moment)
      by_mounted true same limited = omega (arith, is, same)
      by_mounted false few limited = record { by_pages = omega (arith, is, few, few-pages); by_tables = omega (arith, is, limited) }

  pub executes-mounted : (E : Type 0) (stands : Machine → Type 0) (said : List ℕ) (told told_now : Option (List ℕ)) (result : Result (Unit {0}) E) → Answers config old command.Mount stands f g said →
      ReadsMount mounted f g (4 * pages_of entries) → ReadsMount mounted f g (mounts_limit config.plans old.tables) → Written {E = E} told told_now result said → Executes config old command.Mount stands f g told told_now result
  executes-mounted E stands said told told_now result a few limited w =
      let n = g.work.reads - f.work.reads in
      let before : StepOf config old a.moment command.Mount = subst (λ x. StepOf config old a.moment x) a.command_is a.step in
      let step : Step config old (again a.moment n) = step-is config old (again a.moment n) command.Mount a.command_is (mount-again config old a.moment n before) in
      executes-by E config old command.Mount stands f g told told_now result (again a.moment n) a.command_is step a.stands_after (record { image = a.stays.image; idle = a.stays.idle; stays = a.stays.stays }) refl (mount-limit (again a.moment n) few limited refl) a.rose
      (subst (λ t. Written {E = E} told told_now result t) (sym a.said_is) w)
