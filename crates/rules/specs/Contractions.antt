-- Contractions: "Then:", the rules by which a record is rewritten itself once the children that it steps are done.
use Rattle.std.specs.Prelude.{ℕ, suc, List, [], ◌∷◌, Bool, false, ◌≡◌, T, eqb, length}
use Rattle.std.proofs.Math.Option.{none, some}
use Rattle.rules.specs.Kinds.{number, function, fix, lift, quote, splice, application, Match, match_variable, match_shape, match_number, match_application, match_lift, match_function, match_fix, match, Kind, leaf₀, unary₁, binary₂, ternary₃}
use Rattle.rules.specs.Terms.{Fields, Term, leaf, unary, binary, ternary}
use Rattle.rules.specs.Indices.{replaced, gave_way}
use Rattle.rules.specs.Types.{Table}
use Rattle.rules.specs.Values.{plain, value}
use Rattle.rules.specs.Matching.{quoted, matched}

-- The rules, by what they rewrite; a match has one for its success and one for its failure.
pub data StepRule : Type 0 where
  on_application on_fix on_lift on_splice : StepRule
  on_success on_failure : Match → StepRule

-- Their numbers, the one table of them: "1 application, 2 fix, 3 lift, 4 splice, 5 to 16 the kinds 9 to 14, success before failure".
abbrev pub success_number : Match → ℕ
success_number (match_shape match_number) = 5
success_number match_variable = 7
success_number (match_shape match_application) = 9
success_number (match_shape match_lift) = 11
success_number (match_shape match_function) = 13
success_number (match_shape match_fix) = 15

abbrev pub rule_number : StepRule → ℕ
rule_number on_application = 1
rule_number on_fix = 2
rule_number on_lift = 3
rule_number on_splice = 4
rule_number (on_success k) = success_number k
rule_number (on_failure k) = suc (success_number k)

-- t is rewritten to u, at level l, by this rule, and n variable records of t give way to what replaces them. "The wrapping inside a matched function doesn't
-- count; its later replacement does": a match counts the uses in its success, and what is wrapped is a variable still.
pub data Contraction (types : Table) : ℕ → StepRule → ℕ → Term → Term → Type 0 where
  -- "Application: the argument replaces the function's variable in its body."
  apply : (f g : Fields) (b v : Term) → T (value v) → Contraction types 0 on_application (gave_way 1 0 b) (binary application f (unary function g b) v) (replaced (v ∷ []) b)
  -- "Fix: the whole fix replaces the variable of its function in that body."
  unroll : (f g : Fields) (b : Term) → Contraction types 0 on_fix (gave_way 1 0 b) (unary fix f (unary function g b)) (replaced (unary fix f (unary function g b) ∷ []) b)
  -- "Lift of a number: quote of that number."
  lifted : (f g : Fields) → Contraction types 0 on_lift 0 (unary lift f (leaf number g)) (quoted f.type (leaf number g))
  -- "Splice of a quote: the quoted tree."
  spliced : (f g : Fields) (c : Term) → T (plain c) → Contraction types 1 on_splice 0 (unary splice f (unary quote g c)) c
  -- "A match becomes success, with its variables replaced, or failure."
  succeeds : (k : Match) (f g : Fields) (c s e : Term) (ts : List Term) → T (plain c) → matched types k f c ≡ some ts
      → Contraction types 0 (on_success k) (gave_way (length ts) 0 s) (ternary (match k) f (unary quote g c) s e) (replaced ts s)
  fails : (k : Match) (f g : Fields) (c s e : Term) → T (plain c) → matched types k f c ≡ none
      → Contraction types 0 (on_failure k) 0 (ternary (match k) f (unary quote g c) s e) e

-- Which kinds a contraction rewrites at their level (theorem `contracts_kind`): at level 0 "application", "fix", "lift" and "a match"; at level 1 "splice".
abbrev pub contracts : ℕ → Kind → Bool
contracts l (leaf₀ k) = false
contracts l (unary₁ function) = false
contracts l (unary₁ fix) = eqb l 0
contracts l (unary₁ lift) = eqb l 0
contracts l (unary₁ quote) = false
contracts l (unary₁ splice) = eqb l 1
contracts l (binary₂ application) = eqb l 0
contracts l (ternary₃ (match k)) = eqb l 0
