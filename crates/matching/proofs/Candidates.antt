-- Code of the kind that a match looks for: by the name of the match's kind, what such code is.
use mathlib.Core.Bool.{Bool, true, false, not}
use mathlib.Core.Path.{◌≡◌}
use Rattle.std.specs.Prelude.{Option, Some}
use Rattle.std.specs.Option.{option_eq}
use Rattle.kinds.specs.contracts.names.KindPartialEq.TheImpl.{eq-value}
use Rattle.rules.specs.Kinds.{Leaf, Unary, Binary, Ternary, number, variable, function, fix, application, Match, match_number, match_variable, match_application, match_lift, match_function, match_fix, match_shape, match, Kind, leaf₀, unary₁, binary₂, ternary₃}
use Rattle.rules.specs.Terms.{Fields, Term, leaf, unary, binary, ternary, root_kind}
use Rattle.rules.specs.Matching.{sought}
use Rattle.std.proofs.lemmas.Grind.{common_steps}
use native.Mathlib.Omega.{arith}
use Rattle.kinds.specs.Named.{kind_meant}
use Rattle.kinds.specs.declared.names.Kind.{Kind as NamedKind}
use Rattle.kinds.specs.declared.names.Kind.TheVariants.{MatchNumber, MatchVariable, MatchApplication, MatchLift, MatchFunction, MatchFix}

-- A term by the kind of its root.
data Kinded : Kind → Term → Type 0 where
  a_leaf : (k : Leaf) (f : Fields) → Kinded (leaf₀ k) (leaf k f)
  a_unary : (k : Unary) (f : Fields) (t : Term) → Kinded (unary₁ k) (unary k f t)
  a_binary : (k : Binary) (f : Fields) (t u : Term) → Kinded (binary₂ k) (binary k f t u)
  a_ternary : (k : Ternary) (f : Fields) (t s e : Term) → Kinded (ternary₃ k) (ternary k f t s e)

kinded : (t : Term) → Kinded (root_kind t) t
kinded (leaf k f) = a_leaf k f
kinded (unary k f t) = a_unary k f t
kinded (binary k f t u) = a_binary k f t u
kinded (ternary k f t s e) = a_ternary k f t s e

-- A name that stands for a kind is the only one.
pub named_once : (j k : NamedKind) → kind_meant j ≡ kind_meant k → j ≡ k
named_once j k e = grind (arith, common_steps)

-- What the code's test of the kind that a match looks for says.
pub is_sought : (n : Option NamedKind) (k : NamedKind) (b : Bool) → b ≡ not (option_eq (eq-value.it) n (Some k)) → b ≡ false → n ≡ Some k
is_sought n k b e f = grind (arith, common_steps)

pub is_unsought : (n : Option NamedKind) (k : NamedKind) (b : Bool) → b ≡ not (option_eq (eq-value.it) n (Some k)) → b ≡ true → n ≡ Some k → ⊥
is_unsought n k b e f q = grind (arith, common_steps)

-- Code c of the kind that a match of kind k looks for, by the name of k.
pub data Candidate : NamedKind → Match → Term → Type 0 where
  same_number : (g : Fields) → Candidate MatchNumber (match_shape match_number) (leaf number g)
  same_variable : (g : Fields) → Candidate MatchVariable match_variable (leaf variable g)
  an_application : (g : Fields) (t u : Term) → Candidate MatchApplication (match_shape match_application) (binary application g t u)
  a_number_lem : (g : Fields) → Candidate MatchLift (match_shape match_lift) (leaf number g)
  a_function : (g : Fields) (t : Term) → Candidate MatchFunction (match_shape match_function) (unary function g t)
  a_fix : (g : Fields) (t : Term) → Candidate MatchFix (match_shape match_fix) (unary fix g t)

candidate_of : (n : NamedKind) (k : Match) {c : Term} → kind_meant n ≡ ternary₃ (match k) → Kinded (sought k) c → Candidate n k c
candidate_of n match_variable e (a_leaf variable g) = rw (named_once n MatchVariable e) (same_variable g)
candidate_of n (match_shape match_number) e (a_leaf number g) = rw (named_once n MatchNumber e) (same_number g)
candidate_of n (match_shape match_application) e (a_binary application g t u) = rw (named_once n MatchApplication e) (an_application g t u)
candidate_of n (match_shape match_lift) e (a_leaf number g) = rw (named_once n MatchLift e) (a_number_lem g)
candidate_of n (match_shape match_function) e (a_unary function g t) = rw (named_once n MatchFunction e) (a_function g t)
candidate_of n (match_shape match_fix) e (a_unary fix g t) = rw (named_once n MatchFix e) (a_fix g t)

pub candidate : (n : NamedKind) (k : Match) (c : Term) → kind_meant n ≡ ternary₃ (match k) → root_kind c ≡ sought k → Candidate n k c
candidate n k c q e = candidate_of n k q (rw e at (kinded c))
