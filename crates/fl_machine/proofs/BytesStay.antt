-- What commands leave of the bytes of a medium.
use Rattle.std.proofs.Common.{◌≡◌, ℕ, Bool, true, false, inl, List, [], ◌∷◌, ◌++◌, map, refl, ap, subst}
use Rattle.std.specs.Prelude.{MatchBool}
use Rattle.fl_model.specs.Image.{bytes_at, page_bytes}
use Rattle.fl_model.specs.Record.{Config}
use Rattle.fl_model.specs.Table.{Table, DataRing, IndexRing, VarRing, LogRing, lose}
use Rattle.fl_words.specs.Command as command
use Rattle.fl_words.specs.Command.{Command}
use Rattle.fl_words.specs.Medium.{IsImage}
use Rattle.fl_machine.specs.Machine.{Machine}
use Rattle.fl_machine.specs.Run.{end_of}
use Rattle.fl_machine.specs.Stays.{TablesStay, PagesAreRepaired, CommandStays, MomentStays, StaysEach}
use Rattle.fl_machine.specs.Step.{Moment}

-- one more moment at the end
pub stays-more : (config : Config) (old : Machine) (moments : List Moment) (moment : Moment) (bytes mid now : List ℕ) → StaysEach config old moments bytes mid → MomentStays config (end_of old moments) moment mid now →
    StaysEach config old (moments ++ moment ∷ []) bytes now
stays-more config old [] moment bytes mid now h s = (now, subst (λ b. MomentStays config old moment b now) h s, refl)
stays-more config old (m ∷ moments) moment bytes mid now h s = (h.0, h.1, stays-more config m.after moments moment h.0 mid now h.2 s)

-- a medium that is as it was keeps all
pub tables-same : (config : Config) (bytes now : List ℕ) (tables after : List Table) → now ≡ bytes → TablesStay config bytes now tables after
tables-same config bytes now tables after e = λ place plan old new p b a. record {
  rows = λ number from below. ap (λ c. bytes_at config c place plan DataRing number) e;
  index = λ before later i j number from below. ap (λ c. bytes_at config c place plan IndexRing number) e;
  var = λ before later i j number from below. ap (λ c. bytes_at config c place plan VarRing number) e;
  log = λ before later i j number from below. ap (λ c. bytes_at config c place plan LogRing number) e;
}

mount-same : (config : Config) (mounted : Bool) (bytes now : List ℕ) → now ≡ bytes → MatchBool mounted (now ≡ bytes) (PagesAreRepaired config bytes now)
mount-same config true bytes now e = e
mount-same config false bytes now e = λ page within. inl (inl (ap (λ c. page_bytes config c page) e))

mounted-same : (config : Config) (mounted : Bool) (bytes now : List ℕ) (tables after : List Table) → now ≡ bytes → MatchBool mounted (TablesStay config bytes now tables after) (now ≡ bytes)
mounted-same config true bytes now tables after e = tables-same config bytes now tables after e
mounted-same config false bytes now tables after e = e

pub command-same : (config : Config) (old : Machine) (c : Command) (after : Machine) (bytes now : List ℕ) → now ≡ bytes → CommandStays config old c after bytes now
command-same config old command.Mount after bytes now e = mount-same config old.mounted bytes now e
command-same config old (command.Put name key values blob) after bytes now e = mounted-same config old.mounted bytes now old.tables after.tables e
command-same config old (command.Flush name) after bytes now e = mounted-same config old.mounted bytes now old.tables after.tables e
command-same config old (command.Load name count step seed) after bytes now e = mounted-same config old.mounted bytes now old.tables after.tables e
command-same config old c after bytes now e = e

pub moment-same : (config : Config) (old : Machine) (moment : Moment) (bytes now : List ℕ) → IsImage config now (map lose moment.after.tables) → now ≡ bytes → MomentStays config old moment bytes now
moment-same config old moment bytes now image e = record { image = image; idle = λ idle. e; stays = λ calm whole. command-same config old moment.command moment.after bytes now e }
