-- The parts of a program as slices of it: `parting` for search.
use Prim.Native.Nat.{ℕ, ◌+◌, ◌*◌, ◌-◌, ◌≤◌, ◌<◌}
use native.Mathlib.Omega.{arith}
use mathlib.Core.List.{List}
use mathlib.Core.Path.{◌≡◌, sym, ap, ◌∙◌}
use lib.ListN.{length, take, drop, length-drop}
use lib.Seq.{length-take-le, take_all}
use Rattle.rules.specs.Format.{type_count, record_count, table_of, records_of}
use Rattle.rules.proofs.Meaning.{types_counted, records_counted}
use Rattle.records.specs.View.{entries_in, records_in}
use Rattle.records.proofs.Form.{AreBytes}
use Rattle.records.proofs.Fields.{u16_fits}
use Rattle.records.proofs.Program.{program_table_slice, program_records_slice}
use Rattle.parts.specs.declared.Parts.{Parts}
use Rattle.parts.specs.Layout.{IsLaidOut, ArePartsOf}

module _ (p : List ℕ) (h : IsLaidOut p) where
  pub types_there : 0 + 1 < length p
  types_there = omega (arith, h.exact)

  module _ (T : ℕ) (eT : T ≡ type_count p) where
    pub table_there : 4 + 6 * T ≤ length p
    table_there = omega (arith, h.exact, eT)

    end : 4 + 6 * T ≡ 4 + 6 * type_count p
    end = omega (arith, eT)

    -- Any two such slices are the program's parts.
    pub parts_are : AreBytes p → (r : Parts) → r.table.now ≡ take (4 + 6 * T - 4) (drop 4 p) → r.records.now ≡ take (length p - (4 + 6 * T)) (drop (4 + 6 * T) p) → ArePartsOf p r
    parts_are bytes r table records =
        let entries_are : entries_in r.table.now ≡ table_of p = ap entries_in table ∙ sym (program_table_slice p h.exact (4 + 6 * T) end) in
        let records_are : records_in r.records.now ≡ records_of p = ap records_in records ∙ sym (program_records_slice p h.exact (4 + 6 * T) end) in
        let entries_counted : length (entries_in r.table.now) ≡ type_count p = ap length entries_are ∙ types_counted p in
        let records_counted : length (records_in r.records.now) ≡ record_count p = ap length records_are ∙ records_counted p in
        let six_each : 4 + 6 * T - 4 ≡ 6 * T = omega arith in
        let within : 6 * T ≤ length (drop 4 p) = omega (arith, length-drop 4 p, h.exact, eT) in
        record {
          table = table ∙ ap (λ n. take n (drop 4 p)) (six_each ∙ ap (λ n. 6 * n) eT);
          records = records ∙ take_all _ (drop (4 + 6 * T) p) (omega (arith, length-drop (4 + 6 * T) p)) ∙ ap (λ n. drop n p) end;
          entries_are = entries_are;
          records_are = records_are;
          table_long = ap length table ∙ ap (λ n. length (take n (drop 4 p))) six_each ∙ length-take-le (6 * T) (drop 4 p) within ∙ ap (λ n. 6 * n) eT;
          entries_counted = entries_counted;
          records_counted = records_counted;
          entries_few = omega (arith, entries_counted, u16_fits p bytes 0);
          records_few = omega (arith, records_counted, u16_fits p bytes 2);
        }

pub ruleset parting = (types_there, table_there)
