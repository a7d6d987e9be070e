-- What a record binds over its children, inside the binders over it.
use Rattle.std.specs.Prelude.{ℕ, ◌≡◌}
use Rattle.rules.specs.Terms.{Fields}
use Rattle.rules.specs.Binders.{over_first, over_second}
use Rattle.rules.specs.Typing.{under}
use Rattle.kinds.specs.declared.names.Kind.{Kind}
use Rattle.kinds.specs.Named.{kind_meant}
use Rattle.judging.specs.declared.Binders.{Binders}
use Rattle.judging.specs.Stack.{binders_of, Rebinds}

-- What a record of this kind, at level l and with this a, binds over its first child.
pub record PushesFirst (kind : Kind) (l a : ℕ) (b b' : Binders) : Type 0 where
  pub binds : (f : Fields) → f.a ≡ a → Rebinds b b' (under l (over_first (kind_meant kind) f) (binders_of b))

-- What a record of this kind, with this a and b, binds over its second child.
pub record PushesSecond (kind : Kind) (a b : ℕ) (bs bs' : Binders) : Type 0 where
  pub binds : (f : Fields) → f.a ≡ a → f.b ≡ b → Rebinds bs bs' (under 0 (over_second (kind_meant kind) f) (binders_of bs))
