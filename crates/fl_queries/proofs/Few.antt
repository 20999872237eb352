-- How many records a table holds at most.
use Rattle.std.proofs.Common.{ℕ, ◌*◌, ◌-◌, ◌/◌, ◌^◌, ◌<◌, ◌≤◌, Option, List, [], ◌∷◌, length, ap, arith, div-le_self, suc-mul}
use Rattle.std.proofs.lemmas.List.Sums.{sum_by-cons}
use Rattle.std.proofs.lemmas.Nat.{mul-le}
use Rattle.std.specs.List.{AllByRecursion, sum}
use Rattle.fl_flash.specs.Flash.{FlashState}
use Rattle.fl_base.specs.declared.types.Geometry.{Geometry}
use Rattle.fl_model.specs.Record.{Plan, rows_per_page, row_len}
use Rattle.fl_model.specs.Table as model
use Rattle.fl_model.specs.Table.{Entry, DataRing}
use Rattle.fl_model.specs.Query.{selected, matches}
use Rattle.fl_base.specs.declared.types.KeyRange.{KeyRange}
use Rattle.fl_base.specs.declared.types.Span.{Span}
use Rattle.fl_model.proofs.Lists.{length-filter-le}
use Rattle.fl_table.specs.Standing.{Stands}
use Rattle.fl_table.specs.declared.table.Table.{Table}

-- a list of numbers that are all at most this
sum-most : (most : ℕ) (xs : List ℕ) → AllByRecursion (λ x. x ≤ most) xs → sum xs ≤ length xs * most
sum-most most [] all = omega arith
sum-most most (x ∷ xs) all =
    omega (arith, all.0, sum-most most xs all.1, sum_by-cons (λ n. n) x xs, suc-mul (length xs) most)

module _ (t : Table 64 64) (f : FlashState) (first : ℕ) (plan : Plan) (table : model.Table) (stands : Stands t f first plan table) where
  few-in-page : rows_per_page plan ≤ 4096
  few-in-page =
      let page : plan.geometry.page ≤ 4096 = omega (arith, t.served.page_greatest, ap (λ (g : Geometry). g.page) stands.planned.geometry) in
      let quotient : (plan.geometry.page - 24) / row_len plan ≤ plan.geometry.page - 24 = div-le_self (plan.geometry.page - 24) (row_len plan) in
      omega (arith, page, quotient)

  pub few-pages : length table.rows.counts ≤ 4294967292
  few-pages =
      let next = stands.facts.numbers DataRing in
      omega (arith, next, stands.facts.rows.not_negative)

  pub few-entries : length table.entries < 2 ^ 63
  few-entries =
      let rows = sum-most (rows_per_page plan) table.rows.counts stands.facts.few_rows in
      let most : length table.rows.counts * rows_per_page plan ≤ 4294967292 * 4096 = mul-le (length table.rows.counts) (rows_per_page plan) 4294967292 4096 few-pages few-in-page in
      omega (arith, rows, most, stands.facts.counted, stands.facts.few_pending, few-in-page)

  pub few-selected : (range : KeyRange) (span : Option Span) → length (selected range span table.entries) < 2 ^ 63
  few-selected range span =
      let few = length-filter-le (λ (entry : Entry). matches range span entry.kept) table.entries in
      omega (arith, few, few-entries)
