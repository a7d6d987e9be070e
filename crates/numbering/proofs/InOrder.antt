-- `write_with` and `write_in_order`: the records get their numbers, the table its order, and what is there then is written. `in_order` for search. Assumes
-- nothing.
use Prim.Native.Nat.{ℕ, ◌*◌, ◌≤◌, ◌<◌}
use native.Mathlib.Omega.{arith}
use mathlib.Core.List.{List, []}
use mathlib.Core.Path.{◌≡◌, ap, ap₂, sym, ◌∙◌, subst}
use lib.ListN.{length, get_or, take, replicate, length-replicate}
use lib.Seq.{length-take-le}
use Rattle.rules.specs.Lists.{All}
use Rattle.rules.specs.Terms.{Term, leaf, unary, binary, ternary, type_of, size}
use Rattle.rules.specs.Types.{Table}
use Rattle.rules.specs.Format.{Record, no_record}
use Rattle.order.specs.FullTypes.{NamesType}
use Rattle.rules.specs.Links.{written}
use Rattle.order.specs.Numbers.{equality}
use Rattle.order.specs.Order.{types_named, new_number, need_all, used, written_table, written_term}
use Rattle.rules.specs.Run.{written_over}
use Rattle.records.specs.View.{entries_in}
use Rattle.records.proofs.Entries.{entries_length, entries_front}
use Rattle.order.proofs.Numbers.{number_bound}
use Rattle.terms.specs.Preorder.{At}
use Rattle.terms.proofs.Trees.{at_first, at_head}
use Rattle.writing.specs.Program.{ProgramFits, CanWriteProgram, WritesProgram}
use Rattle.writing.proofs.Fronts.{front_long}
use Rattle.numbering.specs.Numbering.{Numbering}
use Rattle.numbering.specs.Renumbering.{renumbered_front, front_names, front_uses, CanRenumber, Renumbers}
use Rattle.numbering.specs.Tables.{CanOrderTable, OrdersTable}
use Rattle.numbering.specs.InOrder.{OrderFits, CanWriteInOrder, CanWriteWith, WroteInOrder, WritesInOrder}
use Rattle.numbering.proofs.Fronts.{front_length}
use Rattle.numbering.proofs.Needing.{seen_nothing, seen_few, all_numbered, numbering_start}
use Rattle.numbering.proofs.Tables.{table_ordered}
use Rattle.numbering.proofs.Terms.{tree_names, size_renumbered, renumbered_at}

-- A term names its own type.
names_own : (P : ℕ → Type 0) (t : Term) → All P (types_named t) → P (type_of t)
unfolding types_named
names_own P (leaf k f) h = h.0
names_own P (unary k f t) h = h.0
names_own P (binary k f t u) h = h.0
names_own P (ternary k f t s e) h = h.0

module _ (table : List ℕ) (rs : List Record) (s : List ℕ) where
  abbrev given : Table
  given = entries_in table

  -- What is known of a term that is written.
  module _ (t : Term) (h : OrderFits table rs s t) where
    names : front_names (length rs) rs ≡ types_named t
    names = ap (λ n. front_names n rs) (sym h.fits.size_is) ∙ tree_names rs t h.fits.there

    uses : front_uses given (length rs) rs ≡ used given t
    unfolding used
    uses = ap (λ xs. need_all given xs []) names

    renumbers : (new : List ℕ) → Numbering given new 0 [] → CanRenumber given rs new
    renumbers new n = record {
      good = h.good;
      few = omega (arith, h.fits.few_types);
      short = omega (arith, h.fits.few);
      entries = subst (All (NamesType given)) (sym names) h.named;
      numbering = n;
    }

    module _ (rs' : List Record) (new : List ℕ) (n : ℕ) (m : Renumbers given rs (length rs) rs' new n) where
      numbers : Numbering given new n (used given t)
      numbers = subst (Numbering given new n) uses m.numbering

      few : n ≤ length given
      few = omega (arith, numbers.counted, seen_few given h.good (used given t) numbers.seen_is)

      some : 1 ≤ n
      unfolding used
      some =
          let own = names_own (λ x. NamesType given x × (0 < new_number (used given t) x)) t (all_numbered given h.good (types_named t) [] h.named (seen_nothing given h.good)) in
          omega (arith, own.1, number_bound equality (type_of t) (used given t), numbers.counted)

      as_many : length rs' ≡ length rs
      as_many = ap length m.records ∙ front_length (new_number (front_uses given (length rs) rs)) (length rs) rs

      there : At rs' 0 (written_term given t)
      there =
          let e : rs' ≡ renumbered_front (new_number (used given t)) (size t) rs = m.records ∙ ap₂ (λ seen k. renumbered_front (new_number seen) k rs) uses (sym h.fits.size_is) in
          subst (λ xs. At xs 0 (written_term given t)) (sym e) (renumbered_at (new_number (used given t)) rs t h.fits.there)

      orders : (es : Table) → length given ≤ length es → CanOrderTable given new es
      orders es r = record {
        few = omega (arith, h.fits.few_types);
        good = h.good;
        room = numbers.room;
        fits = λ x i. omega (arith, numbers.each x i, number_bound equality x (used given t), numbers.counted, few);
      }

      module _ (o o' : List ℕ) (r : length table ≤ length o) (k : length o' ≡ length o) (p : OrdersTable given (length given) new (entries_in o) (entries_in o')) where
        long : length (take (6 * n) o') ≡ 6 * n
        long = length-take-le (6 * n) o' (omega (arith, few, k, h.fits.entries))

        table_is : entries_in (take (6 * n) o') ≡ written_table given t
        table_is =
            entries_front o' n (omega (arith, few, k, h.fits.entries))
            ∙ (ap (take n) p.is ∙ table_ordered given h.good new n (used given t) numbers (entries_in o) (omega (arith, few, entries_length o, h.fits.entries)))

        program_fits : ProgramFits (take (6 * n) o') rs' s (written_term given t)
        program_fits =
            let e = entries_length (take (6 * n) o') in
            record {
              entries = omega (arith, e, long);
              some_types = omega (arith, e, long, some);
              few_types = omega (arith, e, long, few, h.fits.few_types);
              there = there;
              size_is = size_renumbered (new_number (used given t)) t ∙ h.fits.size_is ∙ sym as_many;
              some = omega (arith, as_many, h.fits.some);
              few = omega (arith, as_many, h.fits.few);
              room = omega (arith, e, long, as_many, few, h.fits.room);
            }

        wrote : (s' : List ℕ) (l : ℕ) → WritesProgram (take (6 * n) o') rs' s s' l → (x : ℕ) → x ≡ (get_or rs' 0 no_record).fields.type → WroteInOrder table s s' t (record { length = l; root = x })
        wrote s' l w x e =
            let q = w.does (written_term given t) program_fits in
            let out = ap (λ xs. written xs (written_term given t)) table_is in
            record {
              bytes = q.bytes ∙ ap (written_over s) out;
              end = q.end ∙ ap length out;
              root = e ∙ ap (λ r. r.fields.type) (at_head rs' 0 (written_term given t) there);
              short = omega (arith, q.long, few, entries_length (take (6 * n) o'), long, size_renumbered (new_number (used given t)) t);
            }

  module _ (new o : List ℕ) (h : CanWriteWith table rs new o s) where
    pub can_renumber : CanRenumber given rs new
    can_renumber = renumbers h.fits.tree h.fits.can new h.numbering

    module _ (rs' : List Record) (new' : List ℕ) (n : ℕ) (m : Renumbers given rs (length rs) rs' new' n) where
      pub can_order : CanOrderTable given new' (entries_in o)
      can_order = orders h.fits.tree h.fits.can rs' new' n m (entries_in o) (omega (arith, entries_length o, entries_length table, h.room))

      pub front_within : (o' : List ℕ) → length o' ≡ length o → 6 * n ≤ length o'
      front_within o' k = omega (arith, k, h.room, h.fits.can.fits.entries, few h.fits.tree h.fits.can rs' new' n m)

      pub root_within : 0 < length rs'
      root_within = at_first rs' 0 (written_term given h.fits.tree) (there h.fits.tree h.fits.can rs' new' n m)

      module _ (o' : List ℕ) (k : length o' ≡ length o) (p : OrdersTable given (length given) new' (entries_in o) (entries_in o')) where
        pub can_write : CanWriteProgram (take (6 * n) o') rs' s
        can_write = record { tree = written_term given h.fits.tree; can = program_fits h.fits.tree h.fits.can rs' new' n m o o' h.room k p }

        pub all_written : (s' : List ℕ) (l : ℕ) → WritesProgram (take (6 * n) o') rs' s s' l → (kind type a b value first next : ℕ)
            → record { kind = kind; fields = record { type = type; a = a; b = b; value = value }; first = first; next = next } ≡ get_or rs' 0 no_record
            → WritesInOrder table rs s s' (record { length = l; root = type })
        all_written s' l w kind type a b value first next e = record { does = λ t f. wrote t f rs' new' n m o o' h.room k p s' l w type (ap (λ r. r.fields.type) e) }

  -- The arrays.
  pub can_write_with : CanWriteInOrder table rs s → CanWriteWith table rs (replicate 257 0) (replicate 1536 0) s
  can_write_with h = record {
    fits = h;
    numbering = numbering_start given h.can.good 257 (omega (arith, h.can.fits.few_types));
    room = omega (arith, length-replicate {A = ℕ} 1536 0, h.can.fits.entries, h.can.fits.few_types);
  }

pub ruleset in_order = (can_renumber, can_order, front_within, front_long, root_within)
