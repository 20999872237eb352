use Rattle.std.proofs.Common.{◌≡◌, ℕ, List, ◌++◌, length, take, drop, IsTrue, ◌∙◌, subst}
use Rattle.std.proofs.lemmas.List.{take_at, drop_at}
use Rattle.fl_flash.specs.Media.{MediaState, WritesPair}
use Rattle.fl_flash.specs.Programs.{left_at}
use Rattle.fl_flash.proofs.PairWrites.{both_end, pair_reads}
use Rattle.fl_flash.proofs.RangeOperations.{left_is, left_length}
use Rattle.fl_flash.proofs.programs.program_both.Goals as goal

pub returns : goal.returns
returns g c = record {
  both = both_end old c.args.at first second left size left_first c.requires.within c.requires.zeros c.write_pair.result new pair;
  no_read = pair_reads old c.args.at first second left size left_first c.requires.within c.requires.zeros c.write_pair.result new pair;
}
  where
    old : MediaState
    old = g.M.Media.state c.args.media.now

    new : MediaState
    new = g.M.Media.state c.write_pair.new.self

    first : List ℕ
    first = c.args.first.now

    second : List ℕ
    second = c.args.second.now

    left : List ℕ
    left = c.left_by.new.room

    size : length left ≡ length first
    size = left_length first _ left c.args.is_exact c.left_by.ensures c.split_at_mut-front.ensures.front_len

    left_first : IsTrue old.tells → left ≡ left_at old c.args.at first
    left_first t = left_is old c.args.at first _ left c.args.is_exact c.left_by.ensures (λ e. c.requires.exact e t) (λ e. c.split_at_mut-front.ensures.front ∙ c.requires.read e t)

    pair : WritesPair old c.args.at left second c.write_pair.result new
    pair =
        subst (λ (l : List ℕ). WritesPair old c.args.at l second c.write_pair.result new) (take_at left second (length first) size)
        (subst (λ (l : List ℕ). WritesPair old c.args.at (take (length first) (left ++ second)) l c.write_pair.result new) (drop_at left second (length first) size)
        (subst (λ (l : List ℕ). WritesPair old c.args.at (take (length first) (left ++ l)) (drop (length first) (left ++ l)) c.write_pair.result new) c.copy_from_slice.ensures.after c.write_pair.ensures))
