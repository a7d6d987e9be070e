-- The order of use over types in full. It knows no table: so what is written depends on types in full only.
use Rattle.std.specs.Prelude.{ℕ, ◌<◌, Bool, true, false, ◌&&◌, List, [], ◌∷◌, ◌++◌, ◌≡◌, refl, T, eqb}
use Rattle.rules.specs.Types.{Entry, Table, no_entry, Nat, Fn, Code}
use mir.Facts.{and_yes, yes_and}
use Rattle.inference.specs.FullTypes.{Full, nat, fn, code, cut}
use Rattle.order.specs.Numbers.{Equality, number_among}

-- The same type in full.
unfoldable pub same_full : Full → Full → Bool
same_full nat nat = true
same_full nat (fn f g) = false
same_full nat (code f) = false
same_full nat cut = false
same_full (fn f g) nat = false
same_full (fn f g) (fn f' g') = same_full f f' && same_full g g'
same_full (fn f g) (code f') = false
same_full (fn f g) cut = false
same_full (code f) nat = false
same_full (code f) (fn f' g') = false
same_full (code f) (code f') = same_full f f'
same_full (code f) cut = false
same_full cut nat = false
same_full cut (fn f g) = false
same_full cut (code f) = false
same_full cut cut = true

full_equal : (f g : Full) → T (same_full f g) → f ≡ g
unfolding same_full
full_equal nat nat t = refl
full_equal nat (fn f g) t = absurd t
full_equal nat (code f) t = absurd t
full_equal nat cut t = absurd t
full_equal (fn f g) nat t = absurd t
full_equal (fn f g) (fn f' g') t = let (p, q) = and_yes (same_full f f') (same_full g g') t in λ i. fn (full_equal f f' p i) (full_equal g g' q i)
full_equal (fn f g) (code f') t = absurd t
full_equal (fn f g) cut t = absurd t
full_equal (code f) nat t = absurd t
full_equal (code f) (fn f' g') t = absurd t
full_equal (code f) (code f') t = λ i. code (full_equal f f' t i)
full_equal (code f) cut t = absurd t
full_equal cut nat t = absurd t
full_equal cut (fn f g) t = absurd t
full_equal cut (code f) t = absurd t
full_equal cut cut t = refl

full_itself : (f : Full) → T (same_full f f)
unfolding same_full
full_itself nat = tt
full_itself (fn f g) = yes_and (same_full f f) (same_full g g) (full_itself f) (full_itself g)
full_itself (code f) = full_itself f
full_itself cut = tt

pub full_equality : Equality Full
full_equality = record { same = same_full; equal = full_equal; itself = full_itself }

abbrev pub full_number : List Full → Full → ℕ
full_number seen f = number_among full_equality f seen

-- The order of use of types in full. What is cut, which no entry of a good table is, needs nothing and has no entry.
unfoldable pub need_full : Full → List Full → List Full
need_full nat seen = elim (eqb (full_number seen nat) 0) [ true ↦ nat ∷ seen | false ↦ seen ]
need_full (fn f g) seen = elim (eqb (full_number seen (fn f g)) 0) [ true ↦ fn f g ∷ need_full g (need_full f seen) | false ↦ seen ]
need_full (code f) seen = elim (eqb (full_number seen (code f)) 0) [ true ↦ code f ∷ need_full f seen | false ↦ seen ]
need_full cut seen = seen

unfoldable pub need_all_full : List Full → List Full → List Full
need_all_full [] seen = seen
need_all_full (f ∷ fs) seen = need_all_full fs (need_full f seen)

abbrev pub entry_full : List Full → Full → Entry
entry_full seen nat = Nat
entry_full seen (fn f g) = Fn (full_number seen f) (full_number seen g)
entry_full seen (code f) = Code (full_number seen f)
entry_full seen cut = no_entry

unfoldable pub table_of_full : List Full → Table
table_of_full [] = []
table_of_full (f ∷ fs) = table_of_full fs ++ (entry_full fs f ∷ [])

-- f has a number.
abbrev pub In : List Full → Full → Type 0
In fs f = 0 < full_number fs f

-- The parts of a type have numbers. What is cut has none.
abbrev pub Parts : List Full → Full → Type 0
Parts fs nat = Unit {0}
Parts fs (fn f g) = In fs f × In fs g
Parts fs (code f) = In fs f
Parts fs cut = ⊥

-- None stands twice, and each is after its parts.
abbrev pub Listed : List Full → Type 0
Listed [] = Unit {0}
Listed (f ∷ fs) = (full_number fs f ≡ 0) × Parts fs f × Listed fs
