-- The code's names of kinds and of uses of fields stand for the rules' kinds and uses.
use Rattle.std.specs.Prelude.{ℕ, Bool, true, false, Option, None, Some, ◌≡◌, ◌≤◌}
use Rattle.rules.specs.Kinds.{number, variable, function, application, fix, lift, quote, splice, match_number, match_variable, match_application, match_lift, match_function, match_fix, match, match_shape, leaf₀, unary₁, binary₂, ternary₃, highest_kind}
use Rattle.rules.specs.Kinds.{Kind as MeantKind}
use Rattle.rules.specs.FieldUses.{unused, an_index, a_type, a_number}
use Rattle.rules.specs.FieldUses.{Use as MeantUse}
use Rattle.rules.specs.Matching.{sought}
use Rattle.kinds.specs.declared.names.Kind.{Kind}
use Rattle.kinds.specs.declared.names.Kind.TheVariants.{Number, Variable, Function, Application, Fix, Lift, Quote, Splice, MatchNumber, MatchVariable, MatchApplication, MatchLift, MatchFunction, MatchFix}
use Rattle.kinds.specs.declared.uses.Use.{Use}
use Rattle.kinds.specs.declared.uses.Use.TheVariants.{Unused, Index, Entry, Value}

abbrev pub kind_meant : Kind → MeantKind
kind_meant Number = leaf₀ number
kind_meant Variable = leaf₀ variable
kind_meant Function = unary₁ function
kind_meant Application = binary₂ application
kind_meant Fix = unary₁ fix
kind_meant Lift = unary₁ lift
kind_meant Quote = unary₁ quote
kind_meant Splice = unary₁ splice
kind_meant MatchNumber = ternary₃ (match (match_shape match_number))
kind_meant MatchVariable = ternary₃ (match match_variable)
kind_meant MatchApplication = ternary₃ (match (match_shape match_application))
kind_meant MatchLift = ternary₃ (match (match_shape match_lift))
kind_meant MatchFunction = ternary₃ (match (match_shape match_function))
kind_meant MatchFix = ternary₃ (match (match_shape match_fix))

abbrev pub use_meant : Use → MeantUse
use_meant Unused = unused
use_meant Index = an_index
use_meant Entry = a_type
use_meant Value = a_number

-- n is the number of a kind.
abbrev pub IsKind : ℕ → Type 0
IsKind n = (1 ≤ n) × (n ≤ highest_kind)

-- "A match" is of one of the kinds with three children.
abbrev pub is_match : MeantKind → Bool
is_match (leaf₀ k) = false
is_match (unary₁ k) = false
is_match (binary₂ k) = false
is_match (ternary₃ k) = true

-- A match looks for code of its `sought` kind; another kind looks for none.
abbrev pub Seeks : MeantKind → Option Kind → Type 0
Seeks (leaf₀ k) r = r ≡ None
Seeks (unary₁ k) r = r ≡ None
Seeks (binary₂ k) r = r ≡ None
Seeks (ternary₃ (match k)) None = ⊥
Seeks (ternary₃ (match k)) (Some r) = kind_meant r ≡ sought k
