-- What a shell tells of a table that takes reads, and what these leave.
use Rattle.std.specs.Prelude.{◌≡◌, ℕ, Bool, Option, Result, List, [], ◌∷◌, ◌++◌}
use Rattle.fl_flash.specs.Flash.{FlashState}
use Rattle.fl_machine.specs.Machine.{Machine}
use Rattle.fl_model.specs.Record.{Config, Plan}
use Rattle.fl_model.specs.Table.{Table}
use Rattle.fl_script.specs.Written.{Written}
use Rattle.fl_shell.specs.Talk.{beside_in, blobs_text, described}
use Rattle.fl_shell.specs.Turning.{Looked}

-- of a table it is asked which is its oldest blob, where it may have any, and that is told behind a text
pub record AddsBlobs (config : Config) (m : Machine) (plan : Plan) (table : Table) (stands : Machine → Type 0) (flash flash_now : FlashState) (told told_now : List ℕ) : Type 0 where
  pub unread : Bool
  pub looked : Looked config m (unread ∷ []) stands flash flash_now
  pub text_is : told_now ≡ told ++ blobs_text unread plan table

-- it is asked what the other rings of a table keep too, and that is told
pub record TellsBeside (config : Config) (m : Machine) (plan : Plan) (name : List ℕ) (stands : Machine → Type 0) (flash flash_now : FlashState) (told : List ℕ) : Type 0 where
  pub unread : Bool
  pub looked : Looked config m (unread ∷ []) stands flash flash_now
  pub text_is : told ≡ beside_in config m unread plan name

-- .. and written behind the table's line and its figures
pub record WritesTable {E : Type 0} (config : Config) (m : Machine) (plan : Plan) (stands : Machine → Type 0) (flash flash_now : FlashState) (told told_now : Option (List ℕ)) (result : Result (Unit {0}) E) : Type 0 where
  pub unread : Bool
  pub looked : Looked config m (unread ∷ []) stands flash flash_now
  pub written : Written told told_now result (described config m unread plan)
