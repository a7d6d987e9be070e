-- The table of kinds: a kind is known by its number, and a number of the table by its kind; what holds of all.
use Prim.Native.Nat.{◌≤◌}
use native.Mathlib.Omega.{arith}
use mathlib.Core.Path.{◌≡◌, refl}
use Rattle.rules.specs.Lists.{All}
use Rattle.rules.specs.Kinds.{number, variable, function, fix, lift, quote, splice, application, match_number, match_application, match_lift, match_function, match_fix, match_variable, match_shape, Kind, leaf₀, unary₁, binary₂, ternary₃, kind_number, highest_kind, kinds, numbered, kind_of, child_count, match}
use Rattle.rules.proofs.General.{◌&◌}

-- What holds of the listed kinds holds of every kind; so a kind is known by its number.
pub each_kind : (P : Kind → Type 0) → All P kinds → (k : Kind) → P k
each_kind P h (leaf₀ number) = h.0
each_kind P h (leaf₀ variable) = h.1.0
each_kind P h (unary₁ function) = h.1.1.0
each_kind P h (binary₂ application) = h.1.1.1.0
each_kind P h (unary₁ fix) = h.1.1.1.1.0
each_kind P h (unary₁ lift) = h.1.1.1.1.1.0
each_kind P h (unary₁ quote) = h.1.1.1.1.1.1.0
each_kind P h (unary₁ splice) = h.1.1.1.1.1.1.1.0
each_kind P h (ternary₃ (match (match_shape match_number))) = h.1.1.1.1.1.1.1.1.0
each_kind P h (ternary₃ (match match_variable)) = h.1.1.1.1.1.1.1.1.1.0
each_kind P h (ternary₃ (match (match_shape match_application))) = h.1.1.1.1.1.1.1.1.1.1.0
each_kind P h (ternary₃ (match (match_shape match_lift))) = h.1.1.1.1.1.1.1.1.1.1.1.0
each_kind P h (ternary₃ (match (match_shape match_function))) = h.1.1.1.1.1.1.1.1.1.1.1.1.0
each_kind P h (ternary₃ (match (match_shape match_fix))) = h.1.1.1.1.1.1.1.1.1.1.1.1.1.0

pub kind_back : (k : Kind) → kind_of (kind_number k) ≡ k
unfolding kind_of numbered
kind_back = each_kind (λ k. kind_of (kind_number k) ≡ k) (refl & refl & refl & refl & refl & refl & refl & refl & refl & refl & refl & refl & refl & refl & tt)

pub kind_range : (k : Kind) → (1 ≤ kind_number k) × (kind_number k ≤ highest_kind)
kind_range = each_kind (λ k. (1 ≤ kind_number k) × (kind_number k ≤ highest_kind)) (omega arith)

pub few_children : (k : Kind) → child_count k ≤ 3
few_children = each_kind (λ k. child_count k ≤ 3) (omega arith)
