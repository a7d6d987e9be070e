-- The records of a tree and of the chain of its children's trees, of records that 9 passes.
use Prim.Native.Nat.{ℕ, ◌+◌, ◌≤◌, ◌<◌}
use native.Mathlib.Omega.{arith}
use mathlib.Core.Option.{none}
use mathlib.Core.Path.{◌≡◌, ap, ◌∙◌}
use mathlib.Core.List.{List}
use lib.ListN.{length}
use Rattle.rules.specs.Kinds.{Kind, leaf₀, unary₁, binary₂, ternary₃, kind_of}
use Rattle.rules.specs.Conditions.{Holds}
use Rattle.rules.specs.Format.{Record, record_no}
use Rattle.rules.specs.Links.{first_of, next_of}
use Rattle.rules.specs.Refusals.{bad_children, lowest}
use Rattle.rules.specs.Check.{children, children_rule}
use Rattle.rules.proofs.Tests.{holds_lowest}
use Rattle.rules.proofs.Tree.{chain_size, chain_none, chain_step, tree_size_lem}
use Rattle.typing.specs.Reading.{third_of}
use Rattle.typing.specs.Walking.{tree_size}

-- A chain of children that a kind allows ends after the third.
chain_ends : (rs : List Record) (k : Kind) (c : ℕ) → let s = next_of rs c in let e = next_of rs s in Holds (children k c s e (next_of rs e)) → next_of rs e ≡ 0
chain_ends rs (leaf₀ k) c (h, _) = rw h
chain_ends rs (unary₁ k) c (_, (h, _)) = rw h
chain_ends rs (binary₂ k) c (_, (_, (h, _))) = rw h
chain_ends rs (ternary₃ k) c (_, (_, (_, (h, _)))) = h

module _ (rs : List Record) (chained : lowest (children_rule rs) bad_children 1 (length rs) ≡ none) (n : ℕ) (real : 1 ≤ n) (within : n ≤ length rs) where
  rule : (m : ℕ) → 1 ≤ m → m < 1 + length rs → Holds (children_rule rs m)
  rule = holds_lowest (children_rule rs) bad_children 1 (length rs) chained

  -- The chain from record n on: its tree, then the siblings after it.
  pub tree_then_chain : tree_size rs n + chain_size rs (next_of rs n) ≡ chain_size rs n
  tree_then_chain = tree_size_lem rs rule (length rs) n real within (omega arith)

  -- The tree of record n: itself, then the chain of its children.
  pub record_then_chain : tree_size rs n ≡ 1 + chain_size rs (first_of rs n)
  record_then_chain = omega (arith, tree_then_chain, chain_step rs n real within)

  pub none_after_third : chain_size rs (next_of rs (third_of rs n)) ≡ 0
  none_after_third = ap (chain_size rs) (chain_ends rs (kind_of (record_no rs n).kind) (first_of rs n) (rule n real (omega arith))) ∙ chain_none rs
