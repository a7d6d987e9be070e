-- The field a of a root whose index moves.
use Rattle.std.specs.Prelude.{ℕ, eqb}
use Rattle.rules.specs.Lists.{pick}
use Rattle.rules.specs.Kinds.{Kind}
use Rattle.rules.specs.FieldUses.{uses, use_number}

-- The field a of a record of kind k, moved where it is an index.
unfoldable pub moved_field : (ℕ → ℕ) → Kind → ℕ → ℕ
moved_field moved k a = pick (eqb (use_number (uses k).a) 1) (moved a) a
