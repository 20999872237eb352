-- What is told of the tables of a configuration, a figure on each line.
use Rattle.std.specs.Prelude.{ℕ, ◌*◌, ◌/◌, ◌%◌, Option, Some, None, List, [], ◌∷◌, ◌++◌, sum_by, codes, decimal}
use Rattle.std.specs.List.{flat_map}
use Rattle.fl_base.specs.declared.types.Geometry.{Geometry}
use Rattle.fl_model.specs.Record.{Plan, blocks_of}
use Rattle.fl_sizing.specs.declared.sizes.TableSizes.{TableSizes}
use Rattle.fl_sizing.specs.Sizes.{sizes_of, blocks_wanted, device_memory}

-- a figure behind what it is
abbrev pub figure_line : List ℕ → ℕ → List ℕ
figure_line what n = what ++ decimal n ++ 10 ∷ []

-- a line of words
abbrev pub words_line : List ℕ → List ℕ
words_line words = words ++ 10 ∷ []

-- how many tenths of a day so many rows take, of which one comes each so many seconds
abbrev pub tenths_of_days : ℕ → ℕ → ℕ
tenths_of_days rows interval = rows * interval / 8640

abbrev pub days_line : ℕ → List ℕ
days_line tenths = codes "  days kept of full pages " ++ decimal (tenths / 10) ++ codes "." ++ decimal (tenths % 10) ++ 10 ∷ []

-- .. where the seconds between two rows are told
abbrev pub days_text : Option ℕ → ℕ → List ℕ
days_text None rows = []
days_text (Some interval) rows = days_line (tenths_of_days rows interval)

-- the figures of rows
abbrev pub rows_text : Option ℕ → TableSizes → List ℕ
rows_text interval s =
    figure_line (codes "  bytes a row ") s.row_bytes ++ figure_line (codes "  rows a page ") s.rows_per_page
    ++ figure_line (codes "  pages always kept ") s.pages_kept ++ figure_line (codes "  rows kept of full pages ") s.rows_kept ++ days_text interval s.rows_kept

-- .. of the other rings
abbrev pub rings_text : TableSizes → List ℕ
rings_text s =
    figure_line (codes "  index pages wanted ") s.index_pages ++ figure_line (codes "  index blocks wanted ") s.index_blocks
    ++ figure_line (codes "  bytes kept of full blob pages ") s.blob_bytes

-- .. and of memory and mounts
abbrev pub costs_text : TableSizes → List ℕ
costs_text s =
    figure_line (codes "  bytes of memory ") s.memory ++ figure_line (codes "  reads of a mount without void pages ") s.full_reads
    ++ figure_line (codes "  reads of a mount at most ") s.most_reads

-- the figures of a table with this name
abbrev pub named_text : Option ℕ → List ℕ → TableSizes → List ℕ
named_text interval name s = words_line (codes "table " ++ name) ++ rows_text interval s ++ rings_text s ++ costs_text s

abbrev pub table_text : Option ℕ → Plan → List ℕ
table_text interval plan = named_text interval plan.name (sizes_of plan)

-- the figures of a device with so many blocks and bytes of memory
abbrev pub device_figures : ℕ → ℕ → ℕ → List ℕ
device_figures blocks wanted memory =
    words_line (codes "device") ++ figure_line (codes "  blocks ") blocks ++ figure_line (codes "  blocks wanted ") wanted ++ figure_line (codes "  bytes of memory ") memory

abbrev pub device_text : Geometry → List Plan → List ℕ
device_text geometry plans = device_figures (sum_by blocks_of plans) (sum_by blocks_wanted plans) (device_memory geometry plans)

-- all of it
abbrev pub plan_text : Option ℕ → Geometry → List Plan → List ℕ
plan_text interval geometry plans = flat_map (table_text interval) plans ++ device_text geometry plans
