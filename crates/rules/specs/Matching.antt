-- What a match makes of the code that it is given: whether it succeeds, and what its variables then stand for.
use Rattle.std.specs.Prelude.{ℕ, List, [], ◌∷◌, Bool, true, ◌&&◌, eqb}
use Rattle.std.proofs.Math.Option.{Option, none, some}
use Rattle.rules.specs.Lists.{pick}
use Rattle.rules.specs.Kinds.{number, variable, function, fix, lift, quote, splice, application, Match, match_variable, match_shape, match_number, match_application, match_lift, match_function, match_fix, match, Kind, leaf₀, unary₁, binary₂, ternary₃, kind_number}
use Rattle.rules.specs.Terms.{Fields, Term, leaf, unary, binary, ternary, type_of, only_type, number_held}
use Rattle.rules.specs.Indices.{wrapped}
use Rattle.rules.specs.Types.{Table, part_a, part_b}

-- A made quote, of type n.
abbrev pub quoted : ℕ → Term → Term
quoted n t = unary quote (only_type n) t

-- "13: .. bound is a function from Code(p) to the quote of e's body, where each use of the variable that e binds is wrapped": t is e's body, n
-- the type bound, Fn(Code(p), Code(q)).
abbrev pub opened : Table → ℕ → Term → Term
opened types n t = unary function (record { type = n; a = part_a types n; b = 0; value = 0 }) (quoted (part_b types n) (wrapped (part_a types n) t))

-- If the match is of kind n and the test holds, it succeeds and its variables stand for ts; else it is as `other` says.
abbrev pub if_of_kind : Match → ℕ → Bool → List Term → Option (List Term) → Option (List Term)
if_of_kind k n test ts other = pick (eqb (kind_number (ternary₃ (match k))) n && test) (some ts) other

-- "Success holds for": a match of kind k with fields f is given this code. What its variables stand for, index 0 first, where it succeeds; `none`
-- where it fails. A form of code is looked for by the kinds that its line names, and by no others.
unfoldable pub matched : Table → Match → Fields → Term → Option (List Term)
-- "9: the same number", which binds nothing. "12: a number, which is bound."
matched types k f (leaf number g) = if_of_kind k 9 (eqb (number_held g) (number_held f)) [] (if_of_kind k 12 true (leaf number g ∷ []) none)
-- "10: a variable with that index", which binds nothing.
matched types k f (leaf variable g) = if_of_kind k 10 (eqb g.a f.a) [] none
-- "13: a function e; bound is a function from Code(p) to the quote of e's body."
matched types k f (unary function g t) = if_of_kind k 13 true (opened types f.a t ∷ []) none
-- "14: a fix; its quoted child is bound."
matched types k f (unary fix g t) = if_of_kind k 14 true (quoted f.a t ∷ []) none
-- "11: an application whose argument has the type p; a gets the quoted function, b the quoted argument": b is index 0.
matched types k f (binary application g t u) = if_of_kind k 11 (eqb (type_of u) (part_a types f.b)) (quoted f.b u ∷ quoted f.a t ∷ []) none
-- Code that is plain has no other form.
matched types k f (unary lift g t) = none
matched types k f (unary quote g t) = none
matched types k f (unary splice g t) = none
matched types k f (ternary j g t s e) = none

-- The kind of code that a match looks for, the same by the kind of the match (theorem `seeks`).
abbrev pub sought : Match → Kind
sought match_variable = leaf₀ variable
sought (match_shape match_number) = leaf₀ number
sought (match_shape match_application) = binary₂ application
sought (match_shape match_lift) = leaf₀ number
sought (match_shape match_function) = unary₁ function
sought (match_shape match_fix) = unary₁ fix
