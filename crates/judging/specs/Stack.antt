-- The binders over a record as a stack in a list: the innermost, index 0, stands at depth - 1. The code's struct holds such a list, lent.
use Rattle.std.specs.Prelude.{ℕ, zero, suc, ◌-◌, ◌≡◌, List, [], ◌∷◌, get_or, length, drop}
use Rattle.rules.specs.Typing.{Binder, Env, bind}
use Rattle.judging.specs.declared.Binder.{Binder as Held}
use Rattle.judging.specs.declared.Binders.{Binders}

-- The binder that the code's stands for; a place past the list has none.
abbrev pub binder_meant : Held → Binder
binder_meant b = bind b.level b.ty

abbrev pub no_binder : Held
no_binder = record { level = 0; ty = 0 }

unfoldable pub stack : List Held → ℕ → Env
stack bs zero = []
stack bs (suc d) = binder_meant (get_or bs d no_binder) ∷ stack bs d

-- The binders that the struct stands for, and for how many it has room.
abbrev pub binders_of : Binders → Env
binders_of b = stack b.slots.now b.depth

abbrev pub capacity : Binders → ℕ
capacity b = length b.slots.now

-- The outermost n of the binders Γ.
unfoldable pub outermost : ℕ → Env → Env
outermost n Γ = drop (length Γ - n) Γ

-- b' has the binders Γ, and as much room as b.
pub record Rebinds (b b' : Binders) (Γ : Env) : Type 0 where
  pub are : binders_of b' ≡ Γ
  pub room : capacity b' ≡ capacity b
