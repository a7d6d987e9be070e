-- A program's linked records read as a term: the tree that the links make from a record, written in preorder with measures in place of links.
use Rattle.std.specs.Prelude.{ℕ, ◌+◌, ◌≤◌, ◌<◌, List, ◌≡◌, length, set}
use Rattle.rules.specs.Kinds.{highest_kind}
use Rattle.rules.specs.Terms.{size}
use Rattle.rules.specs.Conditions.{Holds}
use Rattle.rules.specs.Format.{Record, record_no}
use Rattle.rules.specs.Links.{NoBadLink, tree_of}
use Rattle.rules.specs.Check.{children_rule}
use Rattle.records.specs.Places.{Within}
use Rattle.terms.specs.Measuring.{Low}

-- The links of a program's records make trees: each kind is known, no link is bad, and each record has as many children as its kind.
pub record WellLinked (program : List Record) : Type 0 where
  pub kinds : (n : ℕ) → 1 ≤ n → n ≤ length program → (1 ≤ (record_no program n).kind) × ((record_no program n).kind ≤ highest_kind)
  pub links : NoBadLink program
  pub chained : (n : ℕ) → 1 ≤ n → n ≤ length program → Holds (children_rule program n)

-- The tree of record n can be written to dst of rs. Links go up, so that `left` generations are enough. Its measures fit.
pub record CanLoad (program : List Record) (n left : ℕ) (rs : List Record) (dst : ℕ) : Type 0 where
  pub linked : WellLinked program
  pub within : Within program n
  pub enough : length program < n + left
  pub room : dst + size (tree_of left program n) ≤ length rs
  pub small : Low 32767 (tree_of left program n)

-- Record n can be written to dst of rs.
pub record CanPutRoot (program : List Record) (n : ℕ) (rs : List Record) (dst : ℕ) : Type 0 where
  pub within : Within program n
  pub room : dst < length rs

-- rs' is rs with record n written to dst, and r the first of its links.
pub record PutsRoot (program : List Record) (n : ℕ) (rs : List Record) (dst : ℕ) (rs' : List Record) (r : ℕ) : Type 0 where
  pub written : rs' ≡ set rs dst (record_no program n)
  pub first : r ≡ (record_no program n).first
