use Rattle.std.proofs.Common.{List, ℕ, ◌++◌, ◌∙◌, ap}
use Rattle.std.specs.List.{flat_map, sum_by}
use Rattle.fl_model.specs.Record.{blocks_of}
use Rattle.fl_sizing.specs.Sizes.{blocks_wanted}
use Rattle.fl_sizing.specs.Text.{device_figures, table_text}
use Rattle.fl_sizing.proofs.figures.text_of.Goals as goal

pub returns : goal.returns
returns c = λ geometry is.
    let plans = c.args.config.now.plans in
    let flat = flat_map (table_text c.args.interval) plans in
    let blocks = c.from.ensures ∙ c.blocks-2.ensures.exact in
    c.in_ok-add_device.ensures
    ∙ ap (λ (t : List ℕ). t ++ device_figures c.from.result c.device_blocks.result c.device_bytes.result) (c.in_ok-add_tables.ensures ∙ ap (λ (l : List ℕ). l ++ flat) c.new-text.ensures.items)
    ∙ ap (λ (b : ℕ). flat ++ device_figures b c.device_blocks.result c.device_bytes.result) blocks
    ∙ ap (λ (w : ℕ). flat ++ device_figures (sum_by blocks_of plans) w c.device_bytes.result) c.device_blocks.ensures
    ∙ ap (λ (m : ℕ). flat ++ device_figures (sum_by blocks_of plans) (sum_by blocks_wanted plans) m) (c.device_bytes.ensures geometry is)
