-- The tree at the front of a buffer stands in the part of the buffer that is just its records. Assumes nothing.
use Prim.Native.Nat.{ℕ, ◌+◌, ◌*◌, ◌≤◌}
use native.Mathlib.Omega.{arith}
use mathlib.Core.List.{List}
use mathlib.Core.Path.{◌≡◌, sym, ap, ◌∙◌}
use lib.ListN.{length, take}
use lib.Seq.{length-take-le, take-take}
use Rattle.rules.specs.Terms.{Term, size}
use Rattle.rules.specs.Format.{most_types, most_records}
use Rattle.rules.proofs.Laid.{size_some}
use Rattle.records.specs.View.{entries_in, records_in}
use Rattle.records.proofs.Records.{records_length, records_front}
use Rattle.terms.specs.Preorder.{preorder, At}
use Rattle.terms.proofs.Trees.{at_within, length_preorder}
use Rattle.writing.specs.Program.{ProgramFits}

module _ (w : List ℕ) (n : ℕ) (t : Term) (e : size t ≡ n) (h : At (records_in w) 0 t) where
  enough : n ≤ length (records_in w)
  enough = omega (arith, at_within (records_in w) 0 t h)

  pub front_within : 16 * n ≤ length w
  front_within = omega (arith, enough, records_length w)

  front_counted : length (records_in (take (16 * n) w)) ≡ n
  front_counted = ap length (records_front w n front_within) ∙ length-take-le n (records_in w) enough

  front_at : At (records_in (take (16 * n) w)) 0 t
  front_at =
      let l = length_preorder t in
      record {
        there = record {
          within = omega (arith, front_counted);
          is = ap (take (length (preorder t))) (records_front w n front_within) ∙ (take-take (length (preorder t)) n (records_in w) (omega arith) ∙ h.there.is);
        };
      }

  -- It can be written.
  pub front_fits : {table s : List ℕ} → length table ≡ 6 * length (entries_in table) → 1 ≤ length (entries_in table) → length (entries_in table) ≤ most_types → n ≤ most_records
      → 4 + 6 * length (entries_in table) + 16 * n ≤ length s → ProgramFits table (records_in (take (16 * n) w)) s t
  front_fits entries some_types few_types few room = record {
    entries = entries;
    some_types = some_types;
    few_types = few_types;
    there = front_at;
    size_is = e ∙ sym front_counted;
    some = omega (arith, front_counted, size_some t);
    few = omega (arith, front_counted);
    room = omega (arith, front_counted);
  }

-- The front of a list is as long as is asked.
pub front_long : (n : ℕ) (s : List ℕ) → n ≤ length s → n ≡ length (take n s)
front_long n s h = sym (length-take-le n s h)
