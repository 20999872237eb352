-- The commands of a script.
use Rattle.std.specs.Prelude.{ℕ, Bool, ℤ, Option, List}
use Rattle.fl_base.specs.declared.types.CutKind.{CutKind}
use Rattle.fl_base.specs.declared.types.KeyRange.{KeyRange}
use Rattle.fl_base.specs.declared.types.Span.{Span}
use Rattle.fl_base.specs.declared.types.Op.{Op}

-- the words of a table line; `columns` is the word as it stands
pub record TableLine : Type 0 where
  pub name : List ℕ
  pub key : ℕ
  pub columns : List ℕ
  pub data_blocks : ℕ
  pub index_blocks : ℕ
  pub var_blocks : ℕ
  pub bits : ℕ
  pub base : ℤ
  pub width : ℕ
  pub error : ℕ
  pub blob_limit : ℕ
  -- whether the word for full index entries is there, and then the blocks of the log, where the line ends with them
  pub full_index : Bool
  pub log_blocks : Option ℕ

pub data Command : Type 0 where
  -- an empty line or a comment
  Nothing : Command
  Device : (page block : ℕ) → Command
  Table : (line : TableLine) → Command
  Mount : Command
  Off : Command
  Cut : (n : ℕ) (kind : CutKind) → Command
  Put : (name : List ℕ) (key : ℕ) (values : List ℤ) (blob : Option (List ℕ)) → Command
  Flush : (name : List ℕ) → Command
  Get : (name : List ℕ) (key : ℕ) → Command
  Blob : (name : List ℕ) (key : ℕ) → Command
  Scan : (name : List ℕ) (range : KeyRange) (span : Option Span) → Command
  Open : (cursor : ℕ) (name : List ℕ) (range : KeyRange) (span : Option Span) → Command
  Next : (cursor count : ℕ) → Command
  Close : (cursor : ℕ) → Command
  Select : (name : List ℕ) (range : KeyRange) (column : ℕ) (op : Op) (value : ℤ) → Command
  Project : (name : List ℕ) (range : KeyRange) (columns : List ℕ) → Command
  Agg : (name : List ℕ) (range : KeyRange) (column width : ℕ) → Command
  Join : (left right : List ℕ) (range : KeyRange) → Command
  Stat : (name : List ℕ) → Command
  Cost : Command
  Load : (name : List ℕ) (count step seed : ℕ) → Command
