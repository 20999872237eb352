-- Lines that are written one after another.
use Rattle.std.proofs.Common.{◌≡◌, ℕ, suc, ◌+◌, Bool, true, false, Option, Some, Result, Ok, Err, List, [], ◌∷◌, ◌++◌, map, filter, refl, ◌∙◌, ap, arith, if◌then◌else◌, flat_map, slice_get}
use Rattle.std.proofs.lemmas.Grind.{flat_map-append}
use Rattle.std.proofs.lemmas.List.{map-append}
use Rattle.fl_base.specs.Causes.{Appends}
use Rattle.fl_base.proofs.Appended.{appends-append, front-behind, front-none}
use Rattle.fl_csv.specs.Text.{entry_text}
use Rattle.fl_csv.specs.declared.record.CsvFault.{CsvFault}
use Rattle.fl_csv.specs.declared.record.CsvFault.TheVariants as line
use Rattle.fl_model.specs.Record.{Plan}
use Rattle.fl_model.specs.Table.{Table, Entry}
use Rattle.fl_export.specs.Text.{said_of, AreAmong}
use Rattle.fl_export.specs.Writing.{of_line, NoneBad, Writes}
use Rattle.fl_export.specs.declared.fault.ExportFault.{ExportFault}

pub writes-none : (o : Option (List ℕ)) (text : List ℕ) (fault : ExportFault) → NoneBad fault → Writes text o o (Err fault)
writes-none o text fault good = (good, front-none o text)

-- a text behind one that was written
pub writes-behind : (a b c : Option (List ℕ)) (before text : List ℕ) (result : Result (Unit {0}) ExportFault) → Appends a b before → Writes text b c result → Writes (before ++ text) a c result
writes-behind a b c before text (Ok done) wrote writes = appends-append a b c before text wrote writes
writes-behind a b c before text (Err fault) wrote writes = (writes.0, front-behind a b c before text wrote writes.1)

-- why a line isn't written tells of no page
pub line-good : (fault : CsvFault) → NoneBad (of_line fault)
line-good (line.Sink failed) = tt
line-good line.NoMemory = tt

-- the lines of records
abbrev pub lines : Plan → Table → List Entry → List ℕ
lines plan table entries = flat_map entry_text (map (said_of plan table) entries)

pub lines-more : (plan : Plan) (table : Table) (given : List Entry) (entry : Entry) (left : List Entry) →
    lines plan table (given ++ entry ∷ left) ≡ lines plan table given ++ (entry_text (said_of plan table entry) ++ lines plan table left)
lines-more plan table given entry left =
    ap (flat_map entry_text) (map-append (said_of plan table) given (entry ∷ left)) ∙ flat_map-append entry_text (map (said_of plan table) given) (map (said_of plan table) (entry ∷ left))

-- the records that a test picks are among all
among-filter : {X : Type 0} (p : X → Bool) (all xs : List X) (offset : ℕ) → ((i : ℕ) (x : X) → slice_get xs i ≡ Some x → slice_get all (offset + i) ≡ Some x) → AreAmong all (filter p xs)
among-filter p all [] offset at = tt
among-filter {X} p all (x ∷ xs) offset at = by_test (p x) (among-filter p all xs (offset + 1) (λ i y e. ap (slice_get all) (let m : offset + 1 + i ≡ offset + suc i = omega arith in m) ∙ at (suc i) y e))
  where
    by_test : (b : Bool) → AreAmong all (filter p xs) → AreAmong all (if b then x ∷ filter p xs else filter p xs)
    by_test true others = ((offset, ap (slice_get all) (let m : offset ≡ offset + 0 = omega arith in m) ∙ at 0 x refl), others)
    by_test false others = others

pub picked-among : {X : Type 0} (p : X → Bool) (all : List X) → AreAmong all (filter p all)
picked-among p all = among-filter p all all 0 (λ i x e. ap (slice_get all) (let m : 0 + i ≡ i = omega arith in m) ∙ e)
