-- The parts of a copy that wrapping and replacing have in common: a block, and whether a root gives way. `parts` for search.
use Prim.Native.Nat.{ℕ, ◌+◌, ◌^◌, ◌<◌}
use native.Mathlib.Omega.{arith}
use mathlib.Core.List.{List}
use mathlib.Core.Bool.{Bool, false}
use mathlib.Core.Logic.{◌≢◌}
use mathlib.Core.Path.{◌≡◌, ap, ◌∙◌}
use lib.ListN.{length, get_or, set}
use borrow.Author.Tests.{ne_eqb}
use mir.Syntax.{w64}
use mir.Val.{Fits}
use Rattle.rules.specs.Kinds.{Kind, kind_of}
use Rattle.rules.specs.Terms.{Term, root_kind}
use Rattle.rules.specs.Indices.{with_index, names_removed}
use Rattle.rules.specs.Format.{Record, no_record}
use Rattle.rules.proofs.KindTable.{kind_range}
use Rattle.kinds.specs.Named.{IsKind}
use Rattle.records.specs.View.{records_in}
use Rattle.records.proofs.Records.{records_length}
use Rattle.terms.specs.Moves.{CanMove}
use Rattle.terms.specs.Preorder.{At, HasTree}
use Rattle.terms.proofs.Trees.{at_first, at_head, size_read}
use Rattle.copies.specs.Roots.{moved_field}
use Rattle.copies.specs.Copying.{is_named, TreeSize, MovesRoot, PutsIndexed}

-- `copy_block`
pub block_fits : (s : List ℕ) (src dst n : ℕ) → CanMove (records_in s) src dst n → length s < 2 ^ 64 → Fits w64 (dst + n)
block_fits s src dst n h b = omega (arith, h.to, records_length s)

-- `tree_size`
pub tree_in : (rs : List Record) (i : ℕ) → HasTree rs i → i < length rs
tree_in rs i h = at_first rs i h.tree h.there

pub tree_read : (rs : List Record) (i : ℕ) (r : Record) → r ≡ get_or rs i no_record → TreeSize rs i r.first
tree_read rs i r e = record { is = λ t h. ap (λ q. q.first) e ∙ size_read rs i t h }

-- The kind of a tree's root is known.
pub root_known : (rs : List Record) (i : ℕ) (r : Record) → r ≡ get_or rs i no_record → (t : Term) → At rs i t → IsKind r.kind
root_known rs i r e t h = rw (ap (λ q. q.kind) (e ∙ at_head rs i t h)) (kind_range (root_kind t))

-- `gives_way`
pub named_leaf : (c m d i : ℕ) (x : Bool) → c ≡ 0 → x ≡ names_removed m d i → x ≡ is_named c m d i
unfolding is_named
named_leaf c m d i x e h = rw e h

pub named_other : (c m d i : ℕ) → c ≢ 0 → false ≡ is_named c m d i
unfolding is_named
named_other c m d i e = rw (ne_eqb c 0 e)

-- A root whose index is moved.
pub root_moves : (moved : ℕ → ℕ) (rs rs' : List Record) (dst : ℕ) (r : Record) (k : Kind) → k ≡ kind_of r.kind → (a : ℕ) → a ≡ moved_field moved k r.fields.a → PutsIndexed rs rs' dst r a → MovesRoot moved rs rs' dst r
root_moves moved rs rs' dst r k o a e w = record { is = w.is ∙ ap (λ x. set rs dst (record { kind = r.kind; fields = with_index r.fields x; first = r.first; next = r.next })) (e ∙ ap (λ k. moved_field moved k r.fields.a) o) }

pub ruleset parts = (block_fits, tree_in, tree_read, named_leaf, named_other, root_moves)
