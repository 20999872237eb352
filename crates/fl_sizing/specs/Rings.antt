-- How many pages a ring keeps, and how many a mount reads of it, by its size alone.
use Rattle.std.specs.Prelude.{ℕ, ◌+◌, ◌-◌, ◌*◌, ◌/◌}
use Rattle.fl_model.specs.Ring.{Shape, fresh}
use Rattle.fl_model.specs.MountLimit.{ring_mount_limit}

-- a quotient, rounded up
abbrev pub rounded_up : ℕ → ℕ → ℕ
rounded_up n by = (n + (by - 1)) / by

-- the pages that are always kept, once the ring was full: those right after its oldest block was given up
abbrev pub least_pages : Shape → ℕ
least_pages shape = (shape.blocks - 1) * shape.pages - 1

-- the pages that are kept at most: those right before that
abbrev pub most_pages : Shape → ℕ
most_pages shape = shape.blocks * shape.pages - 2

-- the blocks in which so many pages are always kept
abbrev pub blocks_for : ℕ → ℕ → ℕ
blocks_for pages per_block = 1 + rounded_up (pages + 1) per_block

-- the reads by which a mount finds the end of a ring that has no void page there
abbrev pub end_reads : Shape → ℕ
end_reads shape = ring_mount_limit shape fresh
