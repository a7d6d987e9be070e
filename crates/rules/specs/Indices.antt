-- How indices move: "A tree put under more binders has its free indices raised by their number; indices that pointed beyond removed
-- binders fall by theirs. The index of kind 10 moves likewise and is never replaced." Each change has worked examples and small theorems in
-- proofs/Moving.
use Rattle.std.specs.Prelude.{ℕ, ◌+◌, ◌-◌, List, Bool, false, length, get_or, ltb, eqb}
use Rattle.rules.specs.Lists.{pick}
use Rattle.rules.specs.Kinds.{number, variable, splice, Ternary, match_variable, match_shape, match}
use Rattle.rules.specs.Terms.{Fields, Term, leaf, unary, binary, ternary, only_type}
use Rattle.rules.specs.Binders.{binds₁, binds₃}

-- One walk serves raising, replacing and wrapping. A change says what becomes of a variable record under d binders of the tree's own, and
-- of the index that a match of kind 10 names there.
pub record Change : Type 0 where
  pub on_variable : ℕ → Fields → Term
  pub on_index : ℕ → ℕ → ℕ

abbrev pub with_index : Fields → ℕ → Fields
with_index f i = record { type = f.type; a = i; b = f.b; value = f.value }

abbrev pub on_fields : Change → ℕ → Ternary → Fields → Fields
on_fields c d (match match_variable) f = with_index f (c.on_index d f.a)
on_fields c d (match (match_shape k)) f = f

unfoldable pub changed : Change → ℕ → Term → Term
changed c d (leaf number f) = leaf number f
changed c d (leaf variable f) = c.on_variable d f
changed c d (unary k f t) = unary k f (changed c (length (binds₁ k f) + d) t)
changed c d (binary k f t u) = binary k f (changed c d t) (changed c d u)
changed c d (ternary k f t s e) = ternary k (on_fields c d k f) (changed c d t) (changed c (length (binds₃ k f) + d) s) (changed c d e)

-- Raising: a tree put under n more binders. An index below the tree's own d binders is not free and stays (theorems `raised_bound`,
-- `raised_free`).
abbrev pub raised_index : ℕ → ℕ → ℕ → ℕ
raised_index n d i = pick (ltb i d) i (i + n)

abbrev pub raising : ℕ → Change
raising n = record { on_variable = λ d f. leaf variable (with_index f (raised_index n d f.a)); on_index = raised_index n }

unfoldable pub raised : ℕ → Term → Term
raised n t = changed (raising n) 0 t

-- Replacing: the variables of the removed binders, "both together": the list's first term stands for index 0. Under d binders of the tree's own,
-- an index below d stays, one from d to d + m - 1, where m binders are removed, is replaced by its term, raised by d, and one beyond falls by m
-- (theorems `replaced_bound`, `replaced_removed`, `replaced_beyond`).
abbrev pub replacement : List Term → ℕ → Fields → Term
replacement ts d f =
    pick (ltb f.a d) (leaf variable f)
    (pick (ltb f.a (d + length ts)) (raised d (get_or ts (f.a - d) (leaf variable f)))
    (leaf variable (with_index f (f.a - length ts))))

abbrev pub lowered_index : ℕ → ℕ → ℕ → ℕ
lowered_index m d i = pick (ltb i d) i (i - m)

abbrev pub replacing : List Term → Change
replacing ts = record { on_variable = replacement ts; on_index = lowered_index (length ts) }

unfoldable pub replaced : List Term → Term → Term
replaced ts t = changed (replacing ts) 0 t

-- Wrapping: "each use of the variable that e binds is wrapped in a splice, keeping its index; other variables aren't wrapped". The tree is
-- e's body, so that under d binders of its own this variable has index d. Its type becomes `code`.
abbrev pub wrapping : ℕ → Change
wrapping code = record {
  on_variable = λ d f. pick (eqb f.a d) (unary splice (only_type f.type) (leaf variable (record { type = code; a = f.a; b = f.b; value = f.value }))) (leaf variable f);
  on_index = λ d i. i;
}

unfoldable pub wrapped : ℕ → Term → Term
wrapped code t = changed (wrapping code) 0 t

-- Index i under d binders of the tree's own names one of the m binders next to them.
abbrev pub names_removed : ℕ → ℕ → ℕ → Bool
names_removed m d i = pick (ltb i d) false (ltb i (d + m))

-- The sum over the term's records: `variables d i` for a variable with index i under d binders of the term's own, `others` for every other.
unfoldable pub summed : (ℕ → ℕ → ℕ) → ℕ → ℕ → Term → ℕ
summed variables others d (leaf number f) = others
summed variables others d (leaf variable f) = variables d f.a
summed variables others d (unary k f t) = others + summed variables others (length (binds₁ k f) + d) t
summed variables others d (binary k f t u) = others + summed variables others d t + summed variables others d u
summed variables others d (ternary k f t s e) =
    others + summed variables others d t + summed variables others (length (binds₃ k f) + d) s + summed variables others d e

-- "How many variable records gave way", where m binders are removed. The index of kind 10 is never replaced.
abbrev pub gives : ℕ → ℕ → ℕ → ℕ
gives m d i = pick (names_removed m d i) 1 0

unfoldable pub gave_way : ℕ → ℕ → Term → ℕ
gave_way m d t = summed (gives m) 0 d t
