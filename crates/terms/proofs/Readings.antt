-- `root_kind`, `skip`, `bound_at`, `is_plain_at`: the laws of what is read at a tree's root.
use Prim.Native.Nat.{ℕ, ◌+◌, ◌*◌, ◌/◌, ◌%◌, ◌^◌, ◌<◌}
use native.Mathlib.Omega.{arith}
use mathlib.Core.List.{List}
use mathlib.Core.Bool.{Bool, true, false}
use mathlib.Core.Path.{◌≡◌, ap, ◌∙◌}
use lib.Dec.{eqb}
use lib.ListN.{length, get_or}
use mir.Syntax.{w64}
use mir.Val.{Fits}
use Rattle.rules.specs.Lists.{pick}
use Rattle.rules.specs.Terms.{root_kind}
use Rattle.rules.specs.FreeBounds.{free_bound}
use Rattle.rules.specs.Values.{plain}
use Rattle.rules.specs.Format.{Record, no_record}
use Rattle.rules.proofs.KindTable.{kind_range}
use Rattle.records.specs.View.{records_in}
use Rattle.records.proofs.Records.{records_length}
use Rattle.terms.specs.Preorder.{HasTree, Skips}
use Rattle.terms.specs.Measuring.{HasKind, BoundIs, PlainIs}
use Rattle.terms.proofs.Trees.{at_first, kind_read, size_read, measure_read, at_within}

pub tree_first : (rs : List Record) (i : ℕ) → HasTree rs i → i < length rs
tree_first rs i h = at_first rs i h.tree h.there

-- A tree's root has a known kind.
pub tree_kind : (rs : List Record) (i : ℕ) → HasTree rs i → HasKind rs i
tree_kind rs i h = record { within = tree_first rs i h; known = rw (kind_read rs i h.tree h.there) (kind_range (root_kind h.tree)) }

pub skip_fits : (s : List ℕ) (i : ℕ) (r : Record) → HasTree (records_in s) i → r ≡ get_or (records_in s) i no_record → length s < 2 ^ 64 → Fits w64 (i + r.first)
skip_fits s i r h e b = omega (arith, ap (λ x. x.first) e, size_read _ i h.tree h.there, at_within _ i h.tree h.there, records_length s)

module _ (rs : List Record) (i : ℕ) (r : Record) (e : r ≡ get_or rs i no_record) where
  pub skip_reads : Skips rs i (i + r.first)
  skip_reads = record { is = λ t h. omega (arith, ap (λ x. x.first) e, size_read rs i t h) }

  -- The two halves of `bound_and_plain`.
  half : (b : ℕ) (p : Bool) → (2 * b + pick p 1 0) / 2 ≡ b
  half b true = omega arith
  half b false = omega arith

  bit : (b : ℕ) (p : Bool) → eqb ((2 * b + pick p 1 0) % 2) 1 ≡ p
  bit b true = let q : (2 * b + 1) % 2 ≡ 1 = omega arith in rw q
  bit b false = let q : (2 * b + 0) % 2 ≡ 0 = omega arith in rw q

  pub bound_reads : BoundIs rs i (r.next / 2)
  bound_reads = record { is = λ t h. ap (λ n. n / 2) (ap (λ x. x.next) e ∙ measure_read rs i t h) ∙ half (free_bound t) (plain t) }

  pub plain_reads : PlainIs rs i (eqb (r.next % 2) 1)
  plain_reads = record { is = λ t h. ap (λ n. eqb (n % 2) 1) (ap (λ x. x.next) e ∙ measure_read rs i t h) ∙ bit (free_bound t) (plain t) }
