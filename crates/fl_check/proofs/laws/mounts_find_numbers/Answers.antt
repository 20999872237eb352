use Rattle.fl_check.specs.MountLaw.{numbers_of}
use Rattle.fl_check.proofs.FoundBy.{found_by}
use Rattle.fl_check.proofs.OneFound.{same_numbers, flash_alone}
use Rattle.fl_check.proofs.laws.mounts_find_numbers.Goals as goal

pub returns : goal.returns
returns c = λ f r at_least m next is.
    let found = found_by f r at_least m next is in
    record {
      found = found;
      alone = same_numbers f r at_least (numbers_of m next) found;
      no_fault = flash_alone f r at_least (numbers_of m next) found;
    }
