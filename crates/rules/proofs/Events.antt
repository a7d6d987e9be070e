-- What the event of a step can be.
use Prim.Native.Nat.{ℕ, suc, ◌+◌, ◌≤◌}
use native.Mathlib.Omega.{arith}
use lib.ListN.{length}
use Rattle.rules.specs.Kinds.{number, variable, Match}
use Rattle.rules.specs.Terms.{Term, leaf, unary, binary, ternary, size}
use Rattle.rules.specs.Binders.{binds₁, binds₃}
use Rattle.rules.specs.Indices.{names_removed, summed, gives, gave_way}
use Rattle.rules.specs.Types.{Table}
use Rattle.rules.specs.Contractions.{StepRule, success_number, rule_number, Contraction, apply, unroll, lifted, spliced, succeeds, fails}
use Rattle.rules.specs.Steps.{Event, StepWhere, here, in_child, in_first, in_second, in_first₃, in_second₃, in_third₃}
use Rattle.rules.proofs.General.{picked}
use Rattle.rules.proofs.RuleKinds.{match_range, success_number_lem}

-- No more variables give way than the tree has records.
gave_some : (m d : ℕ) (t : Term) → summed (gives m) 0 d t ≤ size t
unfolding summed size
gave_some m d (leaf number f) = omega arith
gave_some m d (leaf variable f) = picked (λ n. n ≤ 1) (names_removed m d f.a) (λ _. omega arith) (λ _. omega arith)
gave_some m d (unary k f t) = omega (arith, gave_some m (length (binds₁ k f) + d) t)
gave_some m d (binary k f t u) = omega (arith, gave_some m d t, gave_some m d u)
gave_some m d (ternary k f t s e) = omega (arith, gave_some m d t, gave_some m (length (binds₃ k f) + d) s, gave_some m d e)

pub gave_most : (m d : ℕ) (t : Term) → gave_way m d t ≤ size t
unfolding gave_way
gave_most m d t = gave_some m d t

success_range : (k : Match) → (5 ≤ success_number k) × (suc (success_number k) ≤ 16)
success_range k = omega (arith, success_number_lem k, match_range k)

-- The event of a step of t: its place is a record's, its rule one of 16, and what gives way are records of t.
pub record Within (t : Term) (e : Event) : Type 0 where
  pub first : 1 ≤ e.place
  pub last : e.place ≤ size t
  pub rule_first : 1 ≤ rule_number e.rule
  pub rule_last : rule_number e.rule ≤ 16
  pub few : e.replaced ≤ size t

module _ {types : Table} where
  contraction_within : {l n : ℕ} {r : StepRule} {t u : Term} → Contraction types l r n t u → (1 ≤ rule_number r) × (rule_number r ≤ 16) × (n ≤ size t) × (1 ≤ size t)
  unfolding size
  contraction_within (apply f g b v p) = omega (arith, gave_most 1 0 b)
  contraction_within (unroll f g b) = omega (arith, gave_most 1 0 b)
  contraction_within (lifted f g) = omega arith
  contraction_within (spliced f g c p) = omega arith
  contraction_within (succeeds k f g c s e ts p m) = omega (arith, success_range k, gave_most (length ts) 0 s)
  contraction_within (fails k f g c s e p m) = omega (arith, success_range k)

  pub within : {ready : ℕ → Term → Type 0} {l : ℕ} {e : Event} {t u : Term} → StepWhere types ready l e t u → Within t e
  unfolding size
  within (here c) = let (a, b, d, f) = contraction_within c in record { first = omega arith; last = f; rule_first = a; rule_last = b; few = d }
  within (in_child l k f s d) = let w = within d in record { first = omega arith; last = omega (arith, w.last); rule_first = w.rule_first; rule_last = w.rule_last; few = omega (arith, w.few) }
  within (in_first l k f u s d) = let w = within d in record { first = omega arith; last = omega (arith, w.last); rule_first = w.rule_first; rule_last = w.rule_last; few = omega (arith, w.few) }
  within (in_second l k f t s r d) = let w = within d in record { first = omega arith; last = omega (arith, w.last); rule_first = w.rule_first; rule_last = w.rule_last; few = omega (arith, w.few) }
  within (in_first₃ l k f u v s d) = let w = within d in record { first = omega arith; last = omega (arith, w.last); rule_first = w.rule_first; rule_last = w.rule_last; few = omega (arith, w.few) }
  within (in_second₃ l k f t v s r d) = let w = within d in record { first = omega arith; last = omega (arith, w.last); rule_first = w.rule_first; rule_last = w.rule_last; few = omega (arith, w.few) }
  within (in_third₃ l k f t u s r q d) = let w = within d in record { first = omega arith; last = omega (arith, w.last); rule_first = w.rule_first; rule_last = w.rule_last; few = omega (arith, w.few) }
