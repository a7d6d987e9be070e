-- `write_typed`: the tree is loaded, gets its types and is written. `loading` for search.
use Prim.Native.Nat.{ℕ, ◌*◌, ◌≤◌}
use native.Mathlib.Omega.{arith}
use mathlib.Core.List.{List, []}
use mathlib.Core.Path.{◌≡◌, sym, ap, ◌∙◌}
use lib.ListN.{length, take}
use Rattle.rules.specs.Terms.{Term, size}
use Rattle.rules.specs.FreeBounds.{free_bound}
use Rattle.rules.specs.Format.{Record}
use Rattle.rules.specs.Links.{tree_of}
use Rattle.rules.proofs.FreeBounds.{typed_bound}
use Rattle.inference.specs.Inference.{cleared}
use Rattle.inference.proofs.Cleared.{size_cleared}
use Rattle.records.specs.View.{records_in}
use Rattle.terms.specs.Preorder.{preorder, At, Stored}
use Rattle.terms.specs.Loads.{CanLoad}
use Rattle.terms.proofs.Storing.{stored_length, stored_at}
use Rattle.writing.specs.Program.{ProgramFits, CanWriteProgram, WritesProgram}
use Rattle.writing.proofs.Fronts.{front_within, front_fits, front_long}
use Rattle.retyping.specs.Retyping.{PutsTypes, TypedFits, CanWriteTyped, WritesTyped}
use Rattle.retyping.proofs.Types.{length_types, bound_cleared}
use Rattle.retyping.proofs.Putting.{typed_at}

module _ {rs : List Record} {ts table : List ℕ} {ws : List Record} {s : List ℕ} {count : ℕ} (c : count ≡ length rs) where
  module _ (t : Term) (h : TypedFits rs ts table ws s t) where
    -- The tree that is loaded is t but for its types.
    cleared_loaded : tree_of count rs 1 ≡ cleared t
    cleared_loaded = ap (λ n. tree_of n rs 1) c ∙ sym h.back

    loaded_size : size (tree_of count rs 1) ≡ count
    loaded_size = ap size cleared_loaded ∙ size_cleared t ∙ h.size_is ∙ sym c

    loaded_bound : free_bound (tree_of count rs 1) ≤ 0
    loaded_bound = omega (arith, ap free_bound cleared_loaded, bound_cleared t, typed_bound h.ruled [] 0 t h.typed)

    module _ (ws₁ : List Record) (e : ℕ) (l : Stored ws ws₁ 0 (preorder (tree_of count rs 1)) e) (w : List ℕ) (p : PutsTypes ws₁ ts (records_in w)) where
      there : At (records_in w) 0 t
      there =
          let loaded : At ws₁ 0 (tree_of count rs 1) = stored_at (tree_of count rs 1) l (omega (arith, loaded_size, h.slots)) in
          typed_at t ws₁ (records_in w) (rw cleared_loaded at loaded) (rw h.given p)

      size_is : size t ≡ count
      size_is = h.size_is ∙ sym c

      program_fits : ProgramFits table (records_in (take (16 * count) w)) s t
      program_fits = front_fits w count t size_is there h.entries h.some_types h.few_types (omega (arith, h.few)) (omega (arith, h.room))

  module _ (h : CanWriteTyped rs ts table ws s) where
    pub typed_loads : CanLoad rs 1 count ws 0
    typed_loads =
        let f = h.can in
        record {
          linked = f.linked;
          within = record { some = omega arith; most = omega (arith, f.some) };
          enough = omega arith;
          room = omega (arith, loaded_size h.tree f, f.slots);
          small = omega (arith, loaded_size h.tree f, loaded_bound h.tree f, f.few);
        }

    module _ {ws₁ : List Record} {e : ℕ} (l : Stored ws ws₁ 0 (preorder (tree_of count rs 1)) e) where
      pub types_fit : length ts ≤ length ws₁
      types_fit = omega (arith, stored_length l, length_types h.tree, ap length h.can.given, h.can.size_is, h.can.slots)

      module _ (w : List ℕ) (p : PutsTypes ws₁ ts (records_in w)) where
        pub tree_within : 16 * count ≤ length w
        tree_within = front_within w count h.tree (size_is h.tree h.can ws₁ e l w p) (there h.tree h.can ws₁ e l w p)

        pub typed_fits : CanWriteProgram table (records_in (take (16 * count) w)) s
        typed_fits = record { tree = h.tree; can = program_fits h.tree h.can ws₁ e l w p }

  pub typed_written : {s' : List ℕ} {r : ℕ} (w : List ℕ) → WritesProgram table (records_in (take (16 * count) w)) s s' r → {ws₁ : List Record} → PutsTypes ws₁ ts (records_in w)
      → {e : ℕ} → Stored ws ws₁ 0 (preorder (tree_of count rs 1)) e → WritesTyped rs ts table ws s s' r
  typed_written w p {ws₁} q {e} l = record { does = λ t h. p.does t (program_fits t h ws₁ e l w q) }

pub ruleset loading = (typed_loads, types_fit, tree_within, front_long)
