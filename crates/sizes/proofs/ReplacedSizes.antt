-- `replaced_fits`: whether a tree has room once its variables are replaced, by a bound or by a count. `fitting` for search.
use Prim.Native.Nat.{ℕ, zero, suc, ◌+◌, ◌-◌, ◌*◌, ◌≤◌, ◌<◌, max}
use native.Mathlib.Nat.{mul_comm}
use native.Mathlib.Omega.{arith}
use native.Mathlib.Decide.{dec_lt}
use mathlib.Core.List.{List, [], ◌∷◌}
use mathlib.Core.Bool.{Bool, true, false}
use mathlib.Core.Path.{◌≡◌, refl, sym, ap, ◌∙◌}
use lib.Dec.{T, eqb, leb, leb→le}
use lib.ListN.{length, get_or}
use borrow.Author.Tests.{lt-ltb, le-ltb, lt-leb, le-leb}
use Rattle.std.specs.Prelude.{Option, None, Some}
use Rattle.rules.specs.Lists.{pick}
use Rattle.rules.specs.Kinds.{variable}
use Rattle.rules.specs.Terms.{Term, leaf, size}
use Rattle.rules.specs.Indices.{raised, replacing, replaced}
use Rattle.rules.specs.Format.{Record}
use Rattle.rules.proofs.Laid.{size_some}
use Rattle.substitution.specs.declared.arguments.Argument.{Argument}
use Rattle.substitution.specs.declared.arguments.Arguments.{Arguments}
use Rattle.substitution.specs.Arguments.{count_of, argument_of, StandForAll}
use Rattle.copies.specs.Copying.{TreeSize}
use Rattle.sizes.specs.Counting.{weight, size_after, CountsSize, HasArgument, Measures, CanFit, MeasuresSecond, TellsRoom, TellsSurely}
use Rattle.copies.proofs.RaisedRoots.{size_raised}
use Rattle.sizes.proofs.Weights.{Weighs, changed_size, summed_more, weight_more, summed_most, weight_most}
use Rattle.substitution.proofs.ReplacedCopies.{innermost}

-- Replacing makes of each variable what is counted for it.
replacing_weighs : (m first second : ℕ) (ts : List Term) → length ts ≡ m → ((j : ℕ) (z : Term) → j < m → size (get_or ts j z) ≡ pick (eqb j 0) first second) → Weighs (replacing ts) (weight m first second)
unfolding size raised
replacing_weighs m first second ts c s d f = elim (dec_lt f.a d) [
  | yes l ↦ rw (lt-ltb f.a d l)
  | no n ↦ elim (dec_lt f.a (d + m)) [
    | yes l ↦
        rw (c, le-ltb f.a d (omega arith), lt-ltb f.a (d + m) l)
        (size_raised d 0 (get_or ts (f.a - d) (leaf variable f)) ∙ s (f.a - d) (leaf variable f) (omega arith) ∙ ap (λ b. pick b first second) (innermost d f.a (omega arith)))
    | no k ↦ rw (c, le-ltb f.a d (omega arith), le-ltb f.a (d + m) (omega arith))
  ]
]

-- A member of a list is the same, whatever stands in for one that is not there.
given_any : (ts : List Term) (j : ℕ) (y z : Term) → j < length ts → get_or ts j y ≡ get_or ts j z
given_any [] j y z l = absurd (omega arith)
given_any (t ∷ ts) zero y z l = refl
given_any (t ∷ ts) (suc j) y z l = given_any ts j y z (omega arith)

-- There are one or two arguments, and the innermost variable gives way to the first.
record OneOrTwo (g : Arguments) : Type 0 where
  some : 1 ≤ count_of g
  most : count_of g ≤ 2
  first_is : argument_of g true ≡ g.first

one_or_two : (g : Arguments) → OneOrTwo g
unfolding count_of argument_of
one_or_two g = go g.first g.second
  where
    go : (first : Argument) (second : Option Argument) → OneOrTwo (record { first = first; second = second })
    go first None = record { some = omega arith; most = omega arith; first_is = refl }
    go first (Some second) = record { some = omega arith; most = omega arith; first_is = refl }

module _ (rs : List Record) (at : ℕ) (g : Arguments) where
  abbrev counted : OneOrTwo g
  counted = one_or_two g

  pub first_there : CanFit rs at g → HasArgument rs g.first
  first_there h = rw (← counted.first_is) (record { lo = h.lo; hi = h.hi; term = _; stands = h.stand.each 0 h.tree counted.some; small = h.small 0 h.tree counted.some })

  -- A second argument is there, and is that for another variable.
  module _ (second : Argument) (e : g.second ≡ Some second) where
    second_is : (1 < count_of g) × (argument_of g false ≡ second)
    unfolding count_of argument_of
    second_is = rw e (omega arith, refl)

    pub second_there : CanFit rs at g → HasArgument rs second
    second_there h =
        let (l, y) = second_is in
        rw (← y) (record { lo = h.lo; hi = h.hi; term = _; stands = h.stand.each 1 h.tree l; small = h.small 1 h.tree l })

    pub second_measured : (x : Bool) (n : ℕ) → Measures rs second x n → MeasuresSecond rs g x n
    second_measured x n m = let (l, y) = second_is in record { there = λ _. rw y m; none = λ q. absurd (omega (arith, l)) }

  pub none_measured : g.second ≡ None → (x : Bool) → MeasuresSecond rs g x 0
  unfolding count_of
  none_measured e x = record { there = λ l. let q : 1 < 1 = rw e at l in absurd (omega arith); none = λ _. refl }

  -- What measures the arguments measures the copy.
  module _ (x : Bool) (n k : ℕ) (first : Measures rs g.first x n) (second : MeasuresSecond rs g x k) where
    module _ (lo hi : ℕ) (t : Term) (ts : List Term) (s : StandForAll rs lo hi g ts) where
      -- The sizes of what the arguments stand for; what would stand for index 1 where one variable is replaced counts 0.
      abbrev first_size : ℕ
      first_size = size (get_or ts 0 t)

      abbrev second_size : ℕ
      second_size = pick (leb (count_of g) 1) 0 (size (get_or ts 1 t))

      first_less : first_size ≤ n
      first_less = first.most lo hi _ (rw counted.first_is at (s.each 0 t counted.some))

      second_less : second_size ≤ k
      second_less = elim (dec_lt 1 (count_of g)) [
        | yes l ↦ rw (lt-leb (count_of g) 1 l) ((second.there l).most lo hi _ (s.each 1 t l))
        | no l ↦ rw (le-leb (count_of g) 1 (omega arith)) (omega arith)
      ]

      sizes : (j : ℕ) (z : Term) → j < count_of g → size (get_or ts j z) ≡ pick (eqb j 0) first_size second_size
      sizes zero z q = ap size (given_any ts 0 z t (omega (arith, s.count)))
      sizes (suc zero) z q = rw (lt-leb (count_of g) 1 q) (ap size (given_any ts 1 z t (omega (arith, s.count))))
      sizes (suc (suc j)) z q = absurd (omega (arith, counted.most))

      weighed : size (replaced ts t) ≡ size_after (count_of g) first_size second_size 0 t
      unfolding replaced size_after
      weighed = changed_size (replacing ts) (weight (count_of g) first_size second_size) (replacing_weighs (count_of g) first_size second_size ts s.count sizes) 0 t

      bounded : size (replaced ts t) ≤ size_after (count_of g) n k 0 t
      unfolding size_after
      bounded =
          omega (arith, weighed, summed_more (weight (count_of g) first_size second_size) (weight (count_of g) n k) 1 (weight_more (count_of g) first_size second_size n k first_less second_less) 0 t)

      second_exactly : T x → k ≡ second_size
      second_exactly y = elim (dec_lt 1 (count_of g)) [
        | yes l ↦ rw (lt-leb (count_of g) 1 l) ((second.there l).is y lo hi _ (s.each 1 t l))
        | no l ↦ rw (le-leb (count_of g) 1 (omega arith)) (second.none (omega arith))
      ]

      weighed_exactly : T x → size (replaced ts t) ≡ size_after (count_of g) n k 0 t
      weighed_exactly y = rw (first.is y lo hi _ (rw counted.first_is at (s.each 0 t counted.some)), second_exactly y) weighed

      most_each : (l : ℕ) → l ≡ max n k → size_after (count_of g) n k 0 t ≤ l * size t
      unfolding size_after
      most_each l e =
          let o : 1 ≤ l = omega (arith, first_less, size_some (get_or ts 0 t)) in
          summed_most (weight (count_of g) n k) 1 l o (weight_most (count_of g) n k l o (omega arith) (omega arith)) 0 t

    pub bound_tells : (b l room : ℕ) → TreeSize rs at b → l ≡ max n k → TellsSurely rs at g room (leb (b * l) room)
    bound_tells b l room w e = record {
      fits = λ lo hi t ts h s y. omega (arith, leb→le (b * l) room y, bounded lo hi t ts s, most_each lo hi t ts s l e, mul_comm l (size t), ap (λ x. x * l) (w.is t h));
    }

    pub bounds_tell : (room c : ℕ) → CountsSize rs at 0 (count_of g) n k c → TellsSurely rs at g room (leb c room)
    bounds_tell room c w = record { fits = λ lo hi t ts h s y. omega (arith, bounded lo hi t ts s, w.is t h, leb→le c room y) }

  pub count_tells : (n k : ℕ) → Measures rs g.first true n → MeasuresSecond rs g true k → (room c : ℕ) → CountsSize rs at 0 (count_of g) n k c → TellsRoom rs at g room (leb c room)
  count_tells n k first second room c w = record { is = λ lo hi t ts h s. ap (λ m. leb m room) (w.is t h ∙ sym (weighed_exactly true n k first second lo hi t ts s tt)) }

  pub surely_tells : (room : ℕ) (b : Bool) → TellsSurely rs at g room b → T b → TellsRoom rs at g room true
  surely_tells room b w y = record { is = λ lo hi t ts h s. sym (le-leb (size (replaced ts t)) room (w.fits lo hi t ts h s y)) }

pub ruleset fitting = (first_there, second_there, second_measured, none_measured, bound_tells, bounds_tell, surely_tells, count_tells)
