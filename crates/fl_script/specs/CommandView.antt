-- Commands and faults as the grammar has them.
use Rattle.std.specs.Prelude.{ℕ, Some, None, List, if◌then◌else◌}
use Rattle.fl_words.specs.Command as words
use Rattle.fl_words.specs.Grammar as grammar
use Rattle.fl_script.specs.declared.command.Command.{Command}
use Rattle.fl_script.specs.declared.command.Command.TheVariants.{Nothing, Device, Table, Mount, Off, Cut, Put, Flush, Get, Blob, Scan, Open, Next, Close, Select, Project, Agg, Join, Stat, Cost, Load}
use Rattle.fl_script.specs.declared.command.LineFault.{LineFault}
use Rattle.fl_script.specs.declared.command.LineFault.TheVariants.{Unknown, Form, Number, TooLong}

abbrev pub fault_view : LineFault → grammar.LineFault
fault_view Unknown = grammar.Unknown
fault_view Form = grammar.Form
fault_view Number = grammar.Number
fault_view TooLong = grammar.TooLong

-- a command, with the bytes of the room
abbrev pub command_view : Command → List ℕ → words.Command
command_view Nothing room = words.Nothing
command_view (Device page block) room = words.Device page block
command_view (Table name key rows index var bits base width error blob full log) room =
    words.Table (record { name = name; key = key; columns = room; data_blocks = rows; index_blocks = index; var_blocks = var; bits = bits; base = base; width = width; error = error; blob_limit = blob; full_index = full; log_blocks = log })
command_view Mount room = words.Mount
command_view Off room = words.Off
command_view (Cut n kind) room = words.Cut n kind
command_view (Put name key values blob) room = words.Put name key values.items (if blob then Some room else None)
command_view (Flush name) room = words.Flush name
command_view (Get name key) room = words.Get name key
command_view (Blob name key) room = words.Blob name key
command_view (Scan name range span) room = words.Scan name range span
command_view (Open cursor name range span) room = words.Open cursor name range span
command_view (Next cursor count) room = words.Next cursor count
command_view (Close cursor) room = words.Close cursor
command_view (Select name range column op value) room = words.Select name range column op value
command_view (Project name range columns) room = words.Project name range columns.items
command_view (Agg name range column width) room = words.Agg name range column width
command_view (Join left right range) room = words.Join left right range
command_view (Stat name) room = words.Stat name
command_view Cost room = words.Cost
command_view (Load name count step seed) room = words.Load name count step seed
