-- The types of a tree: its measures don't look at them, so that its records are those of the cleared tree with its types.
use Prim.Native.Nat.{ℕ, ◌+◌, ◌*◌}
use native.Mathlib.Omega.{arith}
use mathlib.Core.Bool.{◌&&◌}
use mathlib.Core.List.{List, [], ◌∷◌, ◌++◌}
use mathlib.Core.Path.{◌≡◌, refl, sym, ap, ap₂, ◌∙◌}
use lib.ListN.{length, length-append}
use Rattle.rules.specs.Lists.{pick}
use Rattle.rules.specs.Kinds.{Kind, leaf₀, unary₁, binary₂, ternary₃}
use Rattle.rules.specs.Terms.{Fields, Term, leaf, unary, binary, ternary, size}
use Rattle.rules.specs.FreeBounds.{own_bound, root_bound, free_bound}
use Rattle.rules.specs.Values.{plain_kind, plain}
use Rattle.rules.specs.Format.{Record}
use Rattle.rules.specs.Links.{linked}
use Rattle.rules.proofs.KindTable.{each_kind}
use Rattle.inference.specs.Inference.{retyped, retyped_record, cleared, types_of}
use Rattle.inference.proofs.Cleared.{size_cleared}
use Rattle.terms.specs.Preorder.{bound_and_plain, preorder}
use Rattle.terms.proofs.Trees.{length_preorder}
use Rattle.terms.proofs.Joined.{first_over, second_over}
use Rattle.retyping.specs.Retyping.{with_types}

-- How many types a term has.
pub length_types : (t : Term) → length (types_of t) ≡ size t
unfolding types_of size
length_types (leaf k f) = refl
length_types (unary k f t) = omega (arith, length_types t)
length_types (binary k f t u) = omega (arith, length-append (types_of t) (types_of u), length_types t, length_types u)
length_types (ternary k f t s e) =
    omega (arith, length-append (types_of t) (types_of s ++ types_of e), length-append (types_of s) (types_of e), length_types t, length_types s, length_types e)

-- The measures.
own_cleared : (f : Fields) (k : Kind) → own_bound k (retyped 0 f) ≡ own_bound k f
own_cleared f = each_kind (λ k. own_bound k (retyped 0 f) ≡ own_bound k f) (omega arith)

root_cleared : (k : Kind) (f : Fields) (x y z : ℕ) → root_bound k (retyped 0 f) x y z ≡ root_bound k f x y z
root_cleared k f x y z = rw (own_cleared f k, first_over (retyped 0 f) k, first_over f k, second_over (retyped 0 f) k, second_over f k)

pub bound_cleared : (t : Term) → free_bound (cleared t) ≡ free_bound t
unfolding free_bound cleared
bound_cleared (leaf k f) = root_cleared (leaf₀ k) f 0 0 0
bound_cleared (unary k f t) = root_cleared (unary₁ k) f (free_bound (cleared t)) 0 0 ∙ ap (λ x. root_bound (unary₁ k) f x 0 0) (bound_cleared t)
bound_cleared (binary k f t u) =
    root_cleared (binary₂ k) f (free_bound (cleared t)) (free_bound (cleared u)) 0 ∙ ap₂ (λ x y. root_bound (binary₂ k) f x y 0) (bound_cleared t) (bound_cleared u)
bound_cleared (ternary k f t s e) =
    let p = bound_cleared t in
    let q = bound_cleared s in
    let r = bound_cleared e in
    root_cleared (ternary₃ k) f (free_bound (cleared t)) (free_bound (cleared s)) (free_bound (cleared e)) ∙ (λ i. root_bound (ternary₃ k) f (p i) (q i) (r i))

plain_cleared : (t : Term) → plain (cleared t) ≡ plain t
unfolding plain cleared
plain_cleared (leaf k f) = refl
plain_cleared (unary k f t) = ap (λ x. plain_kind (unary₁ k) && x) (plain_cleared t)
plain_cleared (binary k f t u) = ap₂ (λ x y. plain_kind (binary₂ k) && (x && y)) (plain_cleared t) (plain_cleared u)
plain_cleared (ternary k f t s e) =
    let p = plain_cleared t in
    let q = plain_cleared s in
    let r = plain_cleared e in
    λ i. plain_kind (ternary₃ k) && (p i && (q i && r i))

measured_alike : (t : Term) → bound_and_plain (cleared t) ≡ bound_and_plain t
measured_alike t = ap₂ (λ x y. 2 * x + pick y 1 0) (bound_cleared t) (plain_cleared t)

-- Types that are put into records one part after another.
pub types_append : (ts us : List ℕ) (rs qs : List Record) → length ts ≡ length rs → with_types (ts ++ us) (rs ++ qs) ≡ with_types ts rs ++ with_types us qs
unfolding with_types
types_append [] us [] qs e = refl
types_append [] us (r ∷ rs) qs e = absurd (omega arith)
types_append (n ∷ ts) us [] qs e = absurd (omega arith)
types_append (n ∷ ts) us (r ∷ rs) qs e = ap (◌∷◌ (retyped_record n r)) (types_append ts us rs qs (omega arith))

pub as_many : (t : Term) → length (types_of t) ≡ length (preorder (cleared t))
as_many t = length_types t ∙ sym (length_preorder (cleared t) ∙ size_cleared t)

-- The records of a tree are those of the cleared tree, with its types.
pub preorder_typed : (t : Term) → with_types (types_of t) (preorder (cleared t)) ≡ preorder t
unfolding with_types types_of preorder cleared
preorder_typed (leaf k f) =
    let t = leaf k f in
    λ i. linked (leaf₀ k) f (size_cleared t i) (measured_alike t i) ∷ []
preorder_typed (unary k f t) =
    let u = unary k f t in
    λ i. linked (unary₁ k) f (size_cleared u i) (measured_alike u i) ∷ preorder_typed t i
preorder_typed (binary k f t u) =
    let v = binary k f t u in
    let rest = types_append (types_of t) (types_of u) (preorder (cleared t)) (preorder (cleared u)) (as_many t) ∙ ap₂ ◌++◌ (preorder_typed t) (preorder_typed u) in
    λ i. linked (binary₂ k) f (size_cleared v i) (measured_alike v i) ∷ rest i
preorder_typed (ternary k f t s e) =
    let v = ternary k f t s e in
    let last = types_append (types_of s) (types_of e) (preorder (cleared s)) (preorder (cleared e)) (as_many s) ∙ ap₂ ◌++◌ (preorder_typed s) (preorder_typed e) in
    let rest =
    types_append (types_of t) (types_of s ++ types_of e) (preorder (cleared t)) (preorder (cleared s) ++ preorder (cleared e)) (as_many t) ∙ ap₂ ◌++◌ (preorder_typed t) last in
    λ i. linked (ternary₃ k) f (size_cleared v i) (measured_alike v i) ∷ rest i
