-- What holds of the records and counts of each table, computed in each state of worked runs.
use Rattle.std.proofs.Common.{◌≡◌, ℕ, zero, suc, ◌+◌, ◌-◌, ◌^◌, Bool, true, false, not, ◌&&◌, ◌||◌, ◌==◌, nat_lt, nat_le, pos, Option, Some, None, List, [], ◌∷◌, ◌++◌, length, map, filter, take, drop, replicate, refl, codes}
use Rattle.std.specs.List.{list_all, flat_map, slice_get}
use Rattle.std.specs.Option.{is_some, option_map, unwrap_or}
use Rattle.fl_base.specs.declared.types.CutKind.TheVariants.{Half}
use Rattle.fl_model.specs.Record.{Plan, bytes_equal, has_var, entries_per_page, content_per_page, key_limit, first_misfit, Config}
use Rattle.fl_model.specs.Ring.{Ring, oldest}
use Rattle.fl_model.specs.Table.{Table, Entry, full_pages, log_pages, first_key, end_of_blobs}
use Rattle.fl_model.specs.Layout.{IndexEntry, IndexPage, ContentPage, bitmap_of}
use Rattle.fl_model.specs.Query.{page_stands}
use Rattle.fl_model.specs.Limits.{rows_of_page, numbers_of, numbers_from}
use Rattle.fl_model.specs.Agrees.{content_at, reach_of}
use Rattle.fl_model.specs.Facts.{counts_in}
use Rattle.fl_words.specs.Command as command
use Rattle.fl_words.specs.Command.{Command}
use Rattle.fl_machine.specs.Machine.{begins, fresh_tables}
use Rattle.fl_machine.specs.Run.{end_of}
use Rattle.fl_machine.specs.Plain.{plain_run}
use Rattle.fl_machine.proofs.Rows.{config1, config2, config3, put, puts, some300, put2, put3, again, small_full_config, all_void}

abbrev blob_fits : Plan → Entry → Option (List ℕ) → Bool
blob_fits plan entry None = (entry.page == 0) && (entry.offset == 0)
blob_fits plan entry (Some bytes) =
    has_var plan && nat_lt (length bytes) (2 ^ 32) && nat_lt entry.offset (2 ^ 16)
    && (nat_lt 0 (length bytes) || ((entry.page == 0) && (entry.offset == 0)))

abbrev fits_plan : Plan → Entry → Bool
fits_plan plan entry =
    nat_le entry.kept.key (key_limit plan) && (length entry.kept.values == length plan.columns)
    && not (is_some (first_misfit 1 plan.columns entry.kept.values)) && blob_fits plan entry entry.kept.blob

-- the entries of the data pages from one on tell of those that are kept
abbrev is_entry : Plan → List Entry → Option IndexEntry → Bool
is_entry plan rows None = false
is_entry plan rows (Some entry) =
    (entry.bitmap == bitmap_of plan rows) && (entry.full.first_key == first_key rows) && (entry.full.count == length rows) && (entry.full.blob_end == end_of_blobs rows)

abbrev tell : Plan → Table → ℕ → List IndexEntry → Bool
tell plan table first entries =
    list_all (λ number. not (nat_le first number && nat_lt number (first + length entries)) || is_entry plan (rows_of_page table number) (slice_get entries (number - first)))
    (numbers_of table)

-- the pages of a blob have its bytes
abbrev used_bytes : Option ContentPage → List ℕ
used_bytes None = []
used_bytes (Some page) = take page.used page.bytes

abbrev blob_there : Plan → Table → Entry → Option Ring → Option (List ℕ) → Bool
blob_there plan table entry (Some ring) (Some bytes) =
    (length bytes == 0) || not (page_stands ring entry.page)
    || bytes_equal (take (length bytes) (drop entry.offset (flat_map (λ number. used_bytes (content_at plan table ring number)) (numbers_from entry.page (reach_of plan entry bytes + 1))))) bytes
blob_there plan table entry ring blob = true

abbrev agrees : Plan → Table → Bool
agrees plan table =
    list_all (λ (page : IndexPage). tell plan table page.first page.entries) table.index_pages
    && tell plan table (table.rows.next - length table.waiting) table.waiting
    && list_all (λ entry. blob_there plan table entry table.var entry.kept.blob) table.entries

-- .. and the log's pages have as many records as they say
abbrev log_counts : Table → Bool
log_counts table = bytes_equal (map (λ rows. length rows) (log_pages table)) (filter (nat_lt 0) (counts_in table.log))

abbrev keeps : Plan → Table → Bool
keeps plan table =
    log_counts table &&
    list_all (λ count. (count == 0) || (count == entries_per_page plan)) (counts_in table.index)
    && list_all (λ count. (count == 0) || (count == 1)) (counts_in table.var)
    && (length table.index_pages == full_pages (counts_in table.index))
    && (length table.var_pages == full_pages (counts_in table.var))
    && list_all (λ (page : IndexPage). length page.entries == entries_per_page plan) table.index_pages
    && list_all (λ (page : ContentPage). nat_lt 0 page.used && nat_le page.used (content_per_page plan) && (length page.bytes == content_per_page plan)) table.var_pages
    && list_all (fits_plan plan) table.entries

abbrev all_keep : (Plan → Table → Bool) → List Plan → List Table → Bool
all_keep holds (plan ∷ plans) (table ∷ tables) = holds plan table && all_keep holds plans tables
all_keep holds [] [] = true
all_keep holds plans tables = false

abbrev kept_by : (Plan → Table → Bool) → Config → List Command → Bool
kept_by holds config commands = list_all (λ m. all_keep holds config.plans m.after.tables) (plain_run config (begins (fresh_tables config)) commands)

abbrev kept_in : Config → List Command → Bool
kept_in config commands = kept_by (λ plan table. keeps plan table && agrees plan table) config commands

ring_round : kept_in config1 (command.Mount ∷ puts 1 97) ≡ true
ring_round = refl

blobs_round : kept_in config2 (command.Mount ∷ some300 1 ∷ put2 2 (Some []) ∷ put2 3 None ∷ some300 4 ∷ some300 5 ∷ some300 6 ∷ some300 7 ∷ some300 8 ∷ command.Flush (codes "s") ∷ command.Off ∷ command.Mount ∷ []) ≡ true
blobs_round = refl

void_blobs : kept_in config3 (command.Mount ∷ put3 1 (replicate 224 1) ∷ put3 2 (replicate 224 2) ∷ put3 3 (replicate 224 3) ∷ put3 4 (replicate 224 4) ∷ command.Flush (codes "u")
    ∷ again ++ again ++ again ++ command.Off ∷ command.Mount ∷ put3 5 (5 ∷ []) ∷ command.Flush (codes "u") ∷ []) ≡ true
void_blobs = refl

-- an index ring that comes round
abbrev small : Plan
small = record {
  geometry = record { page = 64; block = 2 };
  name = codes "s";
  key_bytes = 4;
  columns = record { width = 2; signed = true } ∷ [];
  data_blocks = 30;
  index_blocks = 3;
  var_blocks = 4;
  log_blocks = 0;
  bits = 64;
  base = pos 0;
  width = 100;
  error = 1;
  blob_limit = 60;
  full_index = false;
}

abbrev small_config : Config
small_config = record { geometry = record { page = 64; block = 2 }; plans = small ∷ []; knots = 64 }

abbrev blob_puts : ℕ → ℕ → List Command
blob_puts first zero = []
blob_puts first (suc n) = put2 first (Some (replicate 9 first)) ∷ blob_puts (first + 1) n

abbrev index_run : List Command
index_run = command.Mount ∷ blob_puts 1 90 ++ command.Cut 1 Half ∷ command.Flush (codes "s") ∷ command.Mount ∷ blob_puts 91 5

abbrev given_up_in : Option Ring → Bool
given_up_in ring = unwrap_or (option_map (λ r. nat_lt 0 (oldest r)) ring) false

-- both rings gave up pages in it
rounds : map {B = Bool × Bool} (λ (t : Table). (given_up_in t.index, given_up_in t.var)) (end_of (begins (fresh_tables small_config)) (plain_run small_config (begins (fresh_tables small_config)) index_run)).tables ≡ (true, true) ∷ []
rounds = refl

index_round : kept_by keeps small_config index_run ≡ true
index_round = refl

-- full entries, with void pages among those that are listed, and a log
full_void : kept_in small_full_config (all_void ++ put 8 ∷ command.Flush (codes "t") ∷ command.Off ∷ command.Mount ∷ []) ≡ true
full_void = refl
