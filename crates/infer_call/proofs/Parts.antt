-- The parts of a program of good layout that inference is given: its records make a tree, and its table stands at the front of the buffer in which it
-- grows.
use Prim.Native.Nat.{ℕ, suc, ◌+◌, ◌*◌, ◌/◌, ◌≤◌}
use native.Mathlib.Omega.{arith}
use mathlib.Core.List.{List, []}
use mathlib.Core.Path.{◌≡◌, ap, sym, ◌∙◌}
use lib.ListN.{length, take}
use lib.Seq.{length-take-le, take_at}
use Rattle.std.specs.Borrow.{MutBor}
use Rattle.rules.specs.Editions.{first_edition}
use Rattle.rules.specs.FieldUses.{omitted}
use Rattle.rules.specs.Format.{most_types, table_of, records_of}
use Rattle.rules.specs.Refusals.{bad_link, bad_children}
use Rattle.rules.specs.Meets.{MeetsLayout}
use Rattle.rules.proofs.Tests.{lowest_holds}
use Rattle.rules.proofs.Meaning.{records_counted}
use Rattle.rules.proofs.Written.{layout_table}
use Rattle.inference.proofs.Growing.{begins_itself}
use Rattle.records.specs.Overwritten.{overwritten}
use Rattle.records.specs.View.{entries_in, records_in}
use Rattle.records.proofs.Entries.{entries_length, entries_front}
use Rattle.records.proofs.Overwriting.{overwritten_length}
use Rattle.parts.specs.declared.Parts.{Parts}
use Rattle.parts.specs.Layout.{ArePartsOf}
use Rattle.typing.specs.Walking.{MakeTree}
use Rattle.tables.specs.declared.Table.{Table as TypeTable}
use Rattle.tables.specs.Having.{buffer_of, entries_of, IsOf, HasBytes}
use Rattle.filling.specs.Filling.{CanInfer, CanFillAll}
use Rattle.infer_call.specs.Answers.{CanTypeWith}

module _ (p out work bytes given : List ℕ) (h : CanTypeWith p out work bytes given) where
  abbrev m : MeetsLayout omitted first_edition p
  m = h.can.layout

  module _ (parts : Parts) (a : ArePartsOf p parts) where
    -- The table fits the buffer in which it grows.
    pub part_fits : 0 + length parts.table.now ≤ length bytes
    part_fits = omega (arith, a.table_long, m.counts.0, h.entries)

    whole : MakeTree (records_in parts.records.now)
    whole = rw a.records_are (record {
      linked = lowest_holds _ bad_link 1 (length (records_of p)) m.form.linked;
      chained = lowest_holds _ bad_children 1 (length (records_of p)) m.form.chained;
      real = omega (arith, records_counted p, m.counts.1.0);
      most = omega (arith, records_counted p, m.counts.1.0);
    })

    module _ (count : ℕ) (k : count ≡ length (records_in parts.records.now)) where
      pub types_fit : count ≤ length given
      types_fit = omega (arith, m.counts.1.0, h.types, a.records_counted)

      pub given_long : count ≡ length (take count given)
      given_long = sym (length-take-le count given types_fit)

    -- The table begins as the program's, at the front of the buffer in which it grows.
    module _ (lent : MutBor (List ℕ)) (written : lent.now ≡ overwritten bytes 0 parts.table.now) (types : ℕ) (told : types ≡ length (entries_in parts.table.now))
        (t : TypeTable) (made : IsOf lent types t) where
      copied : t.bytes.now ≡ overwritten bytes 0 parts.table.now
      copied = made.bytes ∙ written

      counted : t.types ≡ length (entries_in parts.table.now)
      counted = made.types ∙ told

      buffer_long : length (buffer_of t) ≡ suc most_types
      buffer_long =
          let l : length t.bytes.now ≡ 6 * suc most_types = ap length copied ∙ overwritten_length bytes 0 parts.table.now part_fits ∙ h.entries in
          entries_length t.bytes.now ∙ ap (λ n. n / 6) l

      types_few : t.types ≤ most_types
      types_few = omega (arith, m.counts.0, a.entries_counted, counted)

      pub table_front : entries_of t ≡ table_of p
      unfolding overwritten
      table_front =
          let long : length parts.table.now ≡ 6 * t.types = omega (arith, a.table_long, a.entries_counted, counted) in
          let front : take (6 * t.types) t.bytes.now ≡ parts.table.now = ap (take (6 * t.types)) copied ∙ take_at parts.table.now _ (6 * t.types) long in
          let fits : 6 * t.types ≤ length t.bytes.now = omega (arith, entries_length t.bytes.now, buffer_long, types_few) in
          sym (entries_front t.bytes.now t.types fits) ∙ ap entries_in front ∙ a.entries_are

      infers : CanInfer (records_in parts.records.now) (entries_of t) []
      infers =
          let good = layout_table omitted first_edition p m in
          rw (a.records_are, table_front) (record {
            first = table_of p;
            begins = begins_itself (table_of p);
            some = good.some;
            few = good.few;
            entries = good.entries;
            fielded = λ n i j. (m.form.fielded n i j).1.1;
            bound = tt;
          })

      pub fill_asked : (count : ℕ) → count ≡ length (records_in parts.records.now) → CanFillAll (records_in parts.records.now) t (take count given)
      fill_asked count k = record { tree = whole; table = omega (arith, buffer_long); few = types_few; given = sym (given_long count k) ∙ k; infers = infers }

      -- There is room for the table as the walk leaves it.
      pub table_stands : (t' : TypeTable) → t'.types ≤ most_types → length (buffer_of t') ≡ length (buffer_of t) → HasBytes t'
      table_stands t' few room = record { room = omega (arith, buffer_long) }
