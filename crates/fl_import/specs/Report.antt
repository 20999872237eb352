-- The lines that an import writes.
use Rattle.std.specs.Prelude.{ℕ, ◌+◌, Result, Ok, Err, List, [], ◌∷◌, ◌++◌, codes, decimal, option_map, unwrap_or}
use Rattle.fl_csv.specs.declared.record.CsvRefusal.{CsvRefusal}
use Rattle.fl_csv.specs.declared.record.CsvRefusal.TheVariants.{Csv, Fields, Number, NoMemory}
use Rattle.fl_machine.specs.Step.{refused}
use Rattle.fl_model.specs.Record.{Record, Plan}
use Rattle.fl_model.specs.Table.{Table, Refusal, refusal_of}
use Rattle.fl_words.specs.Reply.{text}
use Rattle.fl_import.specs.Puts.{after_put}

-- why a line is no record; want of memory is no reason
abbrev pub reason : CsvRefusal → List ℕ
reason Csv = codes "csv"
reason (Fields wanted) = codes "fields " ++ decimal wanted
reason (Number field) = codes "number " ++ decimal field
reason NoMemory = []

abbrev pub number_text : ℕ → List ℕ
number_text number = codes "line " ++ decimal number ++ codes " "

-- what is told of the line of a number: why it is no record, or the reply to the put that is refused
abbrev pub reason_line : ℕ → CsvRefusal → List ℕ
reason_line number refusal = number_text number ++ (reason refusal ++ 10 ∷ [])

abbrev pub refused_line : ℕ → Refusal → List ℕ
refused_line number refusal = number_text number ++ text (refused refusal)

abbrev pub told_line : Plan → ℕ → Table → Result Record CsvRefusal → List ℕ
told_line plan number table (Err refusal) = reason_line number refusal
told_line plan number table (Ok item) = unwrap_or (option_map (refused_line number) (refusal_of plan table item)) []

-- .. and of lines from a number on, in turn
abbrev pub told_lines : Plan → ℕ → Table → List (Result Record CsvRefusal) → List ℕ
told_lines plan number table [] = []
told_lines plan number table (put ∷ puts) = told_line plan number table put ++ told_lines plan (number + 1) (after_put plan table put) puts
