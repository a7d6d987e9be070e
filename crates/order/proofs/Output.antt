-- What is written for a typed term: it is passed, reads back as that term but for the numbers of types, needs each entry of its table, and is written again
-- as it is.
use Prim.Native.Nat.{ℕ, ◌+◌, ◌*◌, ◌≤◌}
use native.Mathlib.Omega.{arith}
use mathlib.Core.List.{List, [], ◌∷◌, map}
use mathlib.Core.Logic.{inl, inr}
use mathlib.Core.Path.{◌≡◌, ap₂, sym, ◌∙◌, subst}
use lib.ListN.{length}
use Rattle.rules.specs.Lists.{All}
use Rattle.order.specs.Lists.{Any}
use Rattle.rules.specs.Editions.{Edition, HasEveryKind}
use Rattle.rules.specs.Terms.{Term, size}
use Rattle.rules.specs.Types.{Table}
use Rattle.rules.specs.Typing.{Typed}
use Rattle.rules.specs.Format.{most_records, table_of}
use Rattle.rules.specs.Links.{first_term, laid}
use Rattle.rules.specs.Meets.{Meets}
use Rattle.order.specs.FullTypes.{NamesType, GoodEntries, in_full, PartOf}
use Rattle.order.specs.Order.{types_named, written_table, written_term}
use Rattle.order.specs.Alike.{SameTerm}
use Rattle.order.specs.RunInOrder.{output_in_order}
use Rattle.order.specs.WholeRun.{WrittenInOrder}
use Rattle.rules.proofs.Laid.{length_laid}
use Rattle.rules.proofs.Bytes.{Back}
use Rattle.rules.proofs.Written.{GoodTable, back, read_back, written_meets, term_passed}
use Rattle.order.proofs.Used.{named_entries, used_good, used_few, used_needed, written_same}
use Rattle.order.proofs.Same.{same_named, same_full, same_output}
use Rattle.order.proofs.Retyped.{root_same, retyped}
use Rattle.order.proofs.Alike.{size_alike}

any_map : {A B : Type 0} (P : B → Type 0) (g : A → B) (xs : List A) → Any P (map g xs) → Any (λ x. P (g x)) xs
any_map P g [] h = h
any_map P g (x ∷ xs) (inl h) = inl h
any_map P g (x ∷ xs) (inr h) = inr (any_map P g xs h)

module _ (types : Table) (table : GoodTable types) (t : Term) (typed : Typed types [] 0 t) where
  good : GoodEntries types
  good = table.entries

  named : All (NamesType types) (types_named t)
  named = named_entries types [] 0 t typed

  pub output_same : SameTerm types (written_table types t) t (written_term types t)
  output_same = written_same types good t named

  pub output_table : GoodTable (written_table types t)
  output_table = record {
    some = omega (arith, (root_same output_same).there);
    few = omega (arith, table.few, used_few types good t named);
    entries = used_good types good t named;
  }

  pub output_typed : Typed (written_table types t) [] 0 (written_term types t)
  output_typed = retyped types (written_table types t) good output_table.entries output_same [] [] 0 tt typed

  -- Written once more, nothing changes.
  pub output_again : output_in_order (written_table types t) (written_term types t) ≡ output_in_order types t
  output_again = sym (same_output types (written_table types t) good output_table.entries output_same)

  needs_each : (n : ℕ) → NamesType (written_table types t) n → Any (λ x. PartOf (in_full (written_table types t) n) (in_full (written_table types t) x)) (types_named (written_term types t))
  needs_each n h = any_map (PartOf (in_full (written_table types t) n)) (in_full (written_table types t)) (types_named (written_term types t))
      (subst (Any (PartOf (in_full (written_table types t) n))) (same_full types (written_table types t) (same_named types (written_table types t) output_same)) (used_needed types good t named n h))

  module _ (small : size t ≤ most_records) where
    output_small : size (written_term types t) ≤ most_records
    output_small = omega (arith, size_alike output_same)

    pub output_back : Back (written_table types t) (laid 1 0 (written_term types t))
    output_back = back (written_table types t) (written_term types t) output_table output_typed output_small

    pub records_counted : length (laid 1 0 (written_term types t)) ≡ size t
    records_counted = length_laid 1 0 (written_term types t) ∙ sym (size_alike output_same)

    -- As long as its counts say, and no longer than with the table that it was made from.
    pub output_length : length (output_in_order types t) ≡ 4 + 6 * length (written_table types t) + 16 * size t
    output_length = omega (arith, output_back.length_back, records_counted)

    pub output_short_lem : length (output_in_order types t) ≤ 4 + 6 * length types + 16 * size t
    output_short_lem = omega (arith, output_length, used_few types good t named)

    pub table_back : table_of (output_in_order types t) ≡ written_table types t
    table_back = output_back.table_back

    pub term_back : first_term (output_in_order types t) ≡ written_term types t
    term_back = read_back (written_table types t) (written_term types t) output_table output_typed output_small

    -- A written file's own output is the file.
    pub file_again : output_in_order (table_of (output_in_order types t)) (first_term (output_in_order types t)) ≡ output_in_order types t
    file_again = ap₂ output_in_order table_back term_back ∙ output_again

    module _ (edition : Edition) (all : HasEveryKind edition) where
      pub output_meets : Meets edition (output_in_order types t)
      output_meets = written_meets (written_table types t) (written_term types t) output_table output_typed output_small edition all

      -- What is written is passed, is the same term in full, and has only types that are needed.
      pub written_in_order : WrittenInOrder edition types t
      written_in_order = record {
        passed = term_passed (written_table types t) (written_term types t) output_table output_typed output_small edition all;
        same = output_same;
        needs_each = needs_each;
      }
