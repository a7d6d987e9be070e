-- The walk from the root: its tree has all the records.
use Prim.Native.Nat.{ℕ, ◌-◌, ◌*◌, ◌≤◌}
use native.Mathlib.Omega.{arith}
use mathlib.Core.Path.{◌≡◌, refl, ap, sym, ◌∙◌}
use mathlib.Core.List.{List, [], ◌++◌}
use lib.ListN.{length, take}
use lib.Seq.{take-length}
use Rattle.std.specs.Prelude.{Result, Ok, Err, IfOk}
use Rattle.rules.specs.Terms.{Term}
use Rattle.rules.specs.Format.{Record}
use Rattle.rules.specs.Refusals.{bad_link, bad_children}
use Rattle.rules.proofs.Tests.{holds_lowest}
use Rattle.rules.proofs.Tree.{whole_size}
use Rattle.rules.proofs.Meaning.{no_bad_link}
use Rattle.inference.specs.Inference.{types_of, inferred_from}
use Rattle.refusals.specs.declared.reasons.Refusal.{Refusal}
use Rattle.judging.specs.Stack.{capacity}
use Rattle.typing.specs.Walking.{tree_size}
use Rattle.tables.specs.declared.Table.{Table as TypeTable}
use Rattle.tables.specs.Having.{buffer_of, entries_of}
use Rattle.filling.specs.declared.Filler.{Filler}
use Rattle.filling.specs.Filling.{fault_of, firsts, types_at, size_at, records_of, env_of, inference_at, CanFill, Filled, Fills, CanFillAll, FilledAll, FillsAll}

module _ {rs : List Record} {t : TypeTable} {gs : List ℕ} (h : CanFillAll rs t gs) where
  whole : tree_size rs 1 ≡ length rs
  whole = whole_size rs (holds_lowest _ bad_children 1 (length rs) h.tree.chained) (holds_lowest _ bad_link 1 (length rs) h.tree.linked) h.tree.real

  -- The walk begins at the root, with no binders.
  module _ (f : Filler) (records : records_of f ≡ rs) (table : f.table.now ≡ t) (given : f.given.now ≡ gs) (binders : env_of f ≡ []) (left : f.left ≡ length rs) where
    pub root_asked : 2 * length rs ≤ capacity f.binders → CanFill f 1
    root_asked room = record {
      here = rw records (record { linked = no_bad_link rs h.tree.linked; real = omega arith; within = h.tree.real });
      chained = rw records h.tree.chained;
      enough = rw records (omega (arith, whole, left));
      most = omega (arith, h.tree.most, left);
      binders = omega (arith, ap length binders, left);
      table = rw table h.table;
      few = rw table h.few;
      given = rw given (omega (arith, h.given, left));
      infers = rw (records, table, binders) h.infers;
    }

    -- The types before none are none, and those before the last are all.
    all_types : (gs' : List ℕ) (q : ℕ) (u : Term) → q ≡ 0 → firsts gs' q ≡ firsts f.given.now f.left ++ types_at 1 u → gs' ≡ types_of u
    unfolding firsts types_at
    all_types gs' q u z e =
        let front : length f.given.now - f.left ≡ 0 = omega (arith, ap length given, h.given, left) in
        let back : length gs' - q ≡ length gs' = omega arith in
        sym (ap (λ n. take n gs') back ∙ take-length gs') ∙ e ∙ ap (λ n. take n f.given.now ++ types_of u) front

    root_inference : inference_at f 0 1 ≡ inferred_from (length rs) (entries_of t) rs [] 0 1
    root_inference = rw (records, table, binders) refl

    by_result : (q : Filler) (r : Result ℕ Refusal) → IfOk r (Filled f q 1 (inference_at f 0 1)) → IfOk r (FilledAll q.table.now q.given.now (inferred_from (length rs) (entries_of t) rs [] 0 1))
    unfolding size_at
    by_result q (Ok ty) d = record {
      term = d.term;
      is = sym root_inference ∙ d.is;
      few = d.few;
      type = d.type;
      types = all_types q.given.now q.left d.term (omega (arith, d.counted, whole, ap (λ rs. tree_size rs 1) records, left)) d.types;
    }
    by_result q (Err e) d = tt

    -- What the lent table and places then have.
    pub root_filled : (q : Filler) (t' : TypeTable) (gs' : List ℕ) {r : Result ℕ Refusal} → t' ≡ q.table.now → gs' ≡ q.given.now → Fills f q 0 1 r → FillsAll rs t t' gs' r
    root_filled q t' gs' {r} ends stands fills = rw (ends, stands) (record {
      reports = fills.reports ∙ ap fault_of root_inference;
      done = by_result q r fills.done;
      same = fills.continues.bytes ∙ ap (λ t. t.bytes.ghost_name) table;
      room = fills.continues.room ∙ ap (λ t. length (buffer_of t)) table;
    })
