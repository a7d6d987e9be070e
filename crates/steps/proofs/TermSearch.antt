-- `State::seek`: where the state is at a focus that is to be searched, the search is made; elsewhere it is over. `term_seeking` for search.
use Prim.Native.Nat.{ℕ}
use mathlib.Core.List.{List}
use mathlib.Core.Path.{◌≡◌, refl, sym, subst}
use Rattle.rules.specs.Terms.{Term}
use Rattle.rules.specs.Types.{Table}
use Rattle.rules.specs.Format.{Record}
use Rattle.zipper.specs.declared.focus.Focus.{Focus}
use Rattle.zipper.specs.declared.focus.Ahead.{Ahead}
use Rattle.navigation.specs.declared.ascending.Turn.{Turn}
use Rattle.navigation.specs.declared.ascending.Turn.TheVariants.{Next, Value, Redex, Match}
use Rattle.navigation.specs.Ascending.{Sought, Turned, next, sought}
use Rattle.steps.specs.declared.state.State.{State}
use Rattle.seeking.specs.Seeking.{CanSeek, Seeks}
use Rattle.steps.specs.Stepping.{HoldsTerm, HasTerm, SeeksTerm}
use Rattle.seeking.proofs.SearchLoop.{NoNext, sought_over}

module _ (rs : List Record) (s : State) where
  at_turn : (x : Turn) → s.turn ≡ x → (types : Table) (t : Term) → HoldsTerm types rs s t → Turned types rs 0 t x
  at_turn x e types t h = subst (Turned types rs 0 t) e h.turned

  module _ (a : Ahead) (e : s.turn ≡ Next a) where
    pub seek_from_next : HasTerm rs s → CanSeek rs a
    seek_from_next h = go h.types h.term (at_turn (Next a) e h.types h.term h.holds)
      where
        go : (types : Table) (t : Term) → Turned types rs 0 t (Next a) → CanSeek rs a
        go types t (next _ C u k l) = record { types = types; context = C; focus = u; whole = t; held = k }
        go types t (sought _ k) = absurd (sought_over types rs t (Next a) k)

    pub seek_found : (rs' : List Record) (x : Turn) → Seeks rs rs' a x → SeeksTerm rs rs' s (record { turn = x; steps = s.steps })
    seek_found rs' x d = record { does = λ types t h. record { found = go types t (at_turn (Next a) e types t h) }; steps = refl }
      where
        go : (types : Table) (t : Term) → Turned types rs 0 t (Next a) → Sought types rs' t x
        go types t (next _ C u k l) = d.does types C u t k
        go types t (sought _ k) = absurd (sought_over types rs t (Next a) k)

  -- It is over.
  over : (x : Turn) → NoNext x → s.turn ≡ x → SeeksTerm rs rs s s
  over x n e = record { does = λ types t h. record { found = subst (Sought types rs t) (sym e) (go types t x n (at_turn x e types t h)) }; steps = refl }
    where
      go : (types : Table) (t : Term) (x : Turn) → NoNext x → Turned types rs 0 t x → Sought types rs t x
      go types t _ n (next b C u k l) = absurd n
      go types t x n (sought _ k) = k

  pub seek_value : (z : Focus) → s.turn ≡ Value z → SeeksTerm rs rs s s
  seek_value z = over (Value z) tt

  pub seek_redex : (z : Focus) (level : ℕ) → s.turn ≡ Redex z level → SeeksTerm rs rs s s
  seek_redex z level = over (Redex z level) tt

  pub seek_match : (z : Focus) → s.turn ≡ Match z → SeeksTerm rs rs s s
  seek_match z = over (Match z) tt

pub ruleset term_seeking = (seek_from_next, seek_found, seek_value, seek_redex, seek_match)
