-- What a state tells of the term that it holds: whether it is a value, and that it has at most 2,048 records.
use Prim.Native.Nat.{◌≤◌}
use mathlib.Core.Bool.{true, false}
use mathlib.Core.List.{List}
use mathlib.Core.Path.{◌≡◌, refl, sym, subst}
use Rattle.rules.specs.Terms.{Term, size}
use Rattle.rules.specs.Types.{Table}
use Rattle.rules.specs.Values.{value}
use Rattle.rules.specs.Format.{Record, most_records}
use Rattle.rules.proofs.General.{is_true}
use Rattle.zipper.specs.declared.focus.Focus.{Focus}
use Rattle.navigation.specs.declared.ascending.Turn.{Turn}
use Rattle.navigation.specs.declared.ascending.Turn.TheVariants.{Next, Value, Redex, Match}
use Rattle.navigation.specs.Ascending.{Sought, valued, redex, matched}
use Rattle.zipper.proofs.Places.{laid_few}
use Rattle.steps.specs.declared.state.State.{State}
use Rattle.steps.specs.Stepping.{Runs, TellsValue}
use Rattle.steps.proofs.Reducible.{whole_reducible, open_reducible, no_value}

sought_few : (types : Table) (rs : List Record) (t : Term) (x : Turn) → Sought types rs t x → size t ≤ most_records
sought_few types rs t _ (valued z v h) = rw h.same at (laid_few rs _ _ _ _ _ _ h.laid)
sought_few types rs t _ (redex z level C u h r c n) = rw h.same at (laid_few rs _ _ _ _ _ _ h.laid)
sought_few types rs t _ (matched z k f s e C q h l r c) = rw h.same at (laid_few rs _ _ _ _ _ _ h.laid)

pub runs_few : (types : Table) (rs : List Record) (s : State) (t : Term) → Runs types rs s t → size t ≤ most_records
runs_few types rs s t h = sought_few types rs t s.turn h.found

-- At a value the term is one, and at a redex it is none.
pub sought_value : (types : Table) (rs : List Record) (t : Term) (z : Focus) → Sought types rs t (Value z) → value t ≡ true
sought_value types rs t z (valued _ v h) = is_true (value t) v

abbrev NoValue : Turn → Type 0
NoValue (Next a) = Unit {0}
NoValue (Value z) = ⊥
NoValue (Redex z level) = Unit {0}
NoValue (Match z) = Unit {0}

sought_redex : (types : Table) (rs : List Record) (t : Term) (x : Turn) → NoValue x → Sought types rs t x → value t ≡ false
sought_redex types rs t _ n (valued z v h) = absurd n
sought_redex types rs t _ n (redex z level C u h r c b) = no_value types C u t (whole_reducible types rs z level C u t h r c)
sought_redex types rs t _ n (matched z k f s e C q h l r c) = no_value types C _ t (open_reducible types rs z k f s e C q t h l r c)

module _ (s : State) where
  -- A state at no value holds none.
  pub tells_other : ((z : Focus) → s.turn ≡ Value z → ⊥) → TellsValue s false
  tells_other h = go s.turn refl
    where
      none : (x : Turn) → NoValue x → s.turn ≡ x → TellsValue s false
      none x n e = record { is = λ types rs t h. sym (sought_redex types rs t x n (subst (Sought types rs t) e h.found)) }

      go : (x : Turn) → s.turn ≡ x → TellsValue s false
      go (Value z) e = absurd (h z e)
      go (Next a) e = none (Next a) tt e
      go (Redex z level) e = none (Redex z level) tt e
      go (Match z) e = none (Match z) tt e
