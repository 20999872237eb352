use Rattle.std.proofs.Common.{map, refl, arith}
use Rattle.std.proofs.lemmas.List.{length-map}
use Rattle.fl_schema.specs.Types.{column_of}
use Rattle.fl_plan.specs.declared.table_config.TableConfig.{TableConfig}
use Rattle.fl_plan.proofs.RingPlaces.{ring-first, ring-blocks}
use Rattle.fl_config.specs.Words.{line_of}
use Rattle.fl_config.proofs.Made.{same-plan, ring-size, ring-buckets, some-columns}
use Rattle.fl_config.proofs.words.TableWords.config.Goals as goal

pub returns : goal.returns
returns c =
    let limits = c.requires.limits in
    let some = some-columns c.args.self.now.columns.now (map column_of c.args.columns.items) c.requires.columns in
    let made : TableConfig = record {
      geometry = c.args.geometry;
      key = c.args.key;
      columns = c.args.columns;
      rows = record { first_block = c.args.first_block; blocks = c.args.self.now.rows };
      index = c.ring_at.result;
      var = c.ring_at-2.result;
      buckets = c.buckets.result;
      error = c.args.self.now.error;
      blob_limit = c.args.self.now.blob;
      full_index = c.args.self.now.full;
    } in
    record {
      plan = same-plan c.args.geometry (line_of c.args.self.now) made _ _ refl c.requires.key c.requires.columns refl c.ring_at.ensures c.ring_at-2.ensures c.buckets.ensures refl refl refl;
      stands = record {
        rows = refl;
        index = ring-first c.ring_at.result _ _ c.ring_at.ensures;
        var = rw (ring-blocks c.ring_at.result _ _ c.ring_at.ensures) (ring-first c.ring_at-2.result _ _ c.ring_at-2.ensures);
      };
      limits = record {
        geometry = c.requires.within;
        some_columns = omega (arith, some, length-map c.args.columns.items column_of);
        rows = limits.rows;
        index = ring-size c.ring_at.result _ _ c.ring_at.ensures limits.index;
        var = ring-size c.ring_at-2.result _ _ c.ring_at-2.ensures limits.var;
        buckets = ring-buckets c.ring_at.result c.buckets.result (line_of c.args.self.now) _ c.ring_at.ensures c.buckets.ensures limits.indexed;
        error = limits.error;
      };
      blob = limits.room;
    }
