-- Links: the tree that the records of a program make, and how a term is written as linked records.
use Rattle.std.specs.Prelude.{ℕ, zero, suc, ◌+◌, ◌≤◌, List, [], ◌∷◌, ◌++◌, ◌&&◌, ◌≡◌, length, ltb, leb, eqb}
use Rattle.rules.specs.Lists.{pick}
use Rattle.rules.specs.Kinds.{number, Kind, leaf₀, unary₁, binary₂, ternary₃, kind_number, kind_of}
use Rattle.rules.specs.Terms.{Fields, Term, leaf, unary, binary, ternary, size}
use Rattle.rules.specs.Types.{Table}
use Rattle.rules.specs.Format.{Record, no_record, record_no, records_of, program_bytes}

-- "First names its first child, next its following sibling; zero ends the chain. A nonzero link is above its record's own number and at most
-- R. Record 1 is the root and has no sibling .. A nonzero link outside that range, or any nonzero next of the root, is bad and names nothing."
-- What link l of record n names: 0 where it names nothing.
abbrev pub named : ℕ → ℕ → ℕ → ℕ
named R n l = pick (ltb n l && leb l R) l 0

abbrev pub first_of : List Record → ℕ → ℕ
first_of rs n = named (length rs) n (record_no rs n).first

abbrev pub next_of : List Record → ℕ → ℕ
next_of rs n = pick (eqb n 1) 0 (named (length rs) n (record_no rs n).next)

-- No link is bad: each names what it says.
pub record NoBadLink (rs : List Record) : Type 0 where
  pub first : (n : ℕ) → 1 ≤ n → n ≤ length rs → (record_no rs n).first ≡ first_of rs n
  pub next : (n : ℕ) → 1 ≤ n → n ≤ length rs → (record_no rs n).next ≡ next_of rs n

-- The term whose root has kind k and fields f, with as many of the children c, s and e as the kind has.
abbrev pub node : Kind → Fields → Term → Term → Term → Term
node (leaf₀ k) f c s e = leaf k f
node (unary₁ k) f c s e = unary k f c
node (binary₂ k) f c s e = binary k f c s
node (ternary₃ k) f c s e = ternary k f c s e

-- The tree of record n, of `left` generations at most: links go up, so that R generations are all.
unfoldable pub tree_of : ℕ → List Record → ℕ → Term
tree_of zero rs n = leaf number (record_no rs n).fields
tree_of (suc left) rs zero = leaf number no_record.fields
tree_of (suc left) rs (suc n) =
    let r = record_no rs (suc n) in
    let c = first_of rs (suc n) in
    let s = next_of rs c in
    let e = next_of rs s in
    node (kind_of r.kind) r.fields (tree_of left rs c) (tree_of left rs s) (tree_of left rs e)

-- "A program's first term is its root's tree."
abbrev pub root_tree : List Record → Term
root_tree rs = tree_of (length rs) rs 1

abbrev pub first_term : List ℕ → Term
first_term bytes = root_tree (records_of bytes)

-- "Records are written in preorder and numbered as they are written": those of a term whose root is record n and has the sibling `next`.
abbrev pub linked : Kind → Fields → ℕ → ℕ → Record
linked k f first next = record { kind = kind_number k; fields = f; first = first; next = next }

unfoldable pub laid : ℕ → ℕ → Term → List Record
laid n next (leaf k f) = linked (leaf₀ k) f 0 next ∷ []
laid n next (unary k f t) = linked (unary₁ k) f (n + 1) next ∷ laid (n + 1) 0 t
laid n next (binary k f t u) =
    let m = n + 1 + size t in
    linked (binary₂ k) f (n + 1) next ∷ (laid (n + 1) m t ++ laid m 0 u)
laid n next (ternary k f t s e) =
    let m = n + 1 + size t in
    let o = m + size s in
    linked (ternary₃ k) f (n + 1) next ∷ (laid (n + 1) m t ++ (laid m o s ++ laid o 0 e))

-- A term written in preorder with a type table.
abbrev pub written : Table → Term → List ℕ
written types t = program_bytes types (laid 1 0 t)
