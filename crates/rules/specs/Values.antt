-- Plain trees and values: where a term makes no more steps at its level.
use Rattle.std.specs.Prelude.{ℕ, zero, suc, Bool, true, false, ◌&&◌}
use Rattle.rules.specs.Kinds.{number, variable, function, fix, lift, quote, splice, match, Kind, leaf₀, unary₁, binary₂, ternary₃}
use Rattle.rules.specs.Terms.{Term, leaf, unary, binary, ternary}

-- "Plain: kinds 1 to 5 throughout."
abbrev pub plain_kind : Kind → Bool
plain_kind (leaf₀ k) = true
plain_kind (unary₁ function) = true
plain_kind (unary₁ fix) = true
plain_kind (unary₁ lift) = false
plain_kind (unary₁ quote) = false
plain_kind (unary₁ splice) = false
plain_kind (binary₂ k) = true
plain_kind (ternary₃ (match k)) = false

unfoldable pub plain : Term → Bool
plain (leaf k f) = plain_kind (leaf₀ k)
plain (unary k f t) = plain_kind (unary₁ k) && plain t
plain (binary k f t u) = plain_kind (binary₂ k) && (plain t && plain u)
plain (ternary k f t s e) = plain_kind (ternary₃ k) && (plain t && (plain s && plain e))

-- "Value: a number, a function, or a quote of a plain tree."
unfoldable pub value : Term → Bool
value (leaf number f) = true
value (leaf variable f) = false
value (unary function f t) = true
value (unary fix f t) = false
value (unary lift f t) = false
value (unary quote f t) = plain t
value (unary splice f t) = false
value (binary k f t u) = false
value (ternary k f t s e) = false

-- A tree that is stepped no more at its level: a value at level 0, a plain tree at level 1.
abbrev pub done : ℕ → Term → Bool
done zero t = value t
done (suc l) t = plain t
