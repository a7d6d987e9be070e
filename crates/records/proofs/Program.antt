-- The table and the records of a program whose length is what its two counts say, as views of two parts of its bytes.
-- A part `&p[a..e]` of a slice is `take (e - a) (drop a p)`, and `&p[a..]` is that with e the length. Assumes nothing.
use Prim.Native.Nat.{ℕ, ◌+◌, ◌*◌, ◌-◌}
use native.Mathlib.Omega.{arith}
use mathlib.Core.Path.{◌≡◌, sym, ap, ap₂, ◌∙◌}
use mathlib.Core.List.{List}
use lib.ListN.{length, take, drop}
use Rattle.rules.specs.Format.{type_count, record_count, table_of, records_of}
use Rattle.records.specs.View.{entries_in, records_in}
use Rattle.records.proofs.Fields.{entry_form, record_form}
use Rattle.records.proofs.Views.{viewed_part}

module _ (p : List ℕ) (whole : length p ≡ 4 + 6 * type_count p + 16 * record_count p) where
  table_part_lem : table_of p ≡ entries_in (take (6 * type_count p) (drop 4 p))
  unfolding table_of entries_in
  table_part_lem = viewed_part entry_form p 4 (type_count p) (omega arith)

  records_part : records_of p ≡ records_in (take (16 * record_count p) (drop (4 + 6 * type_count p) p))
  unfolding records_of records_in
  records_part = viewed_part record_form p (4 + 6 * type_count p) (record_count p) (omega arith)

  -- The same of `&p[4..e]` and `&p[e..]`, with e the end of the table.
  pub program_table_slice : (e : ℕ) → e ≡ 4 + 6 * type_count p → table_of p ≡ entries_in (take (e - 4) (drop 4 p))
  program_table_slice e h =
      let n : 6 * type_count p ≡ e - 4 = omega arith in
      table_part_lem ∙ ap (λ m. entries_in (take m (drop 4 p))) n

  pub program_records_slice : (e : ℕ) → e ≡ 4 + 6 * type_count p → records_of p ≡ records_in (take (length p - e) (drop e p))
  program_records_slice e h =
      let n : 16 * record_count p ≡ length p - e = omega arith in
      records_part ∙ ap₂ (λ m k. records_in (take m (drop k p))) n (sym h)
