-- `body_with`, `body_with_one` and `body_with_tree`: the laws of a body whose variables give way.
use Prim.Native.Nat.{ℕ}
use native.Mathlib.Omega.{arith}
use mathlib.Core.List.{List, [], ◌∷◌}
use mathlib.Core.Logic.{inl, inr, ⊎_elim}
use mathlib.Core.Bool.{Bool, true}
use mathlib.Core.Path.{◌≡◌, refl, sym, ap, ◌∙◌}
use lib.Dec.{eqb→eq}
use lib.ListN.{length, get_or}
use Rattle.rules.specs.Kinds.{number, variable, leaf₀, child_count, kind_of}
use Rattle.rules.specs.Terms.{Term, leaf, unary, binary, ternary, root_kind}
use Rattle.rules.specs.Indices.{changed, replaced, summed, gave_way}
use Rattle.rules.specs.FreeBounds.{free_bound}
use Rattle.rules.specs.Format.{Record, no_record}
use Rattle.rules.proofs.KindTable.{kind_back}
use Rattle.rules.proofs.FreeBounds.{replaced_closed}
use Rattle.rules.proofs.Shifts.{raised_none}
use Rattle.kinds.specs.declared.names.Kind.TheVariants.{Variable}
use Rattle.kinds.proofs.Named.{named}
use Rattle.terms.specs.Measuring.{RootIs, BoundIs}
use Rattle.terms.proofs.Trees.{kind_read}
use Rattle.substitution.specs.declared.arguments.Argument.TheVariants.{Tree as TreeAt}
use Rattle.substitution.specs.declared.arguments.Arguments.{Arguments}
use Rattle.contraction.specs.declared.plans.Plan.{Plan}
use Rattle.contraction.specs.declared.plans.Plan.TheVariants.{Tree, Body}
use Rattle.contraction.specs.Plans.{only_one, itself, from_body, PlansBody, PlansTree}
use Rattle.contraction.proofs.Arguments.{tree_stands, one_stands}
use Rattle.contraction.proofs.Unchanged.{closed_replaced}

module _ (rs : List Record) (at : ℕ) (g : Arguments) where
  pub closed_planned : (b : ℕ) → BoundIs rs at b → b ≡ 0 → PlansBody rs at g (Tree at 0)
  closed_planned b h e = record {
    is = λ lo hi end body ts there clear low given.
        let z : free_bound body ≡ 0 = sym (h.is body there) ∙ e in
        rw (replaced_closed ts body z, closed_replaced (length ts) body z) (itself at 0 body there clear);
  }

  pub body_planned : PlansBody rs at g (Body at g)
  body_planned = record { is = λ lo hi end body ts there clear low given. from_body at g body ts there (⊎_elim (λ l. inl l) (λ r. inr r.0) clear) low given }

-- A body that is the variable itself.
itself_replaced : (t body : Term) → child_count (root_kind body) ≡ 0 → free_bound body ≡ 1 → (replaced (t ∷ []) body ≡ t) × (gave_way 1 0 body ≡ 1)
unfolding replaced changed free_bound gave_way summed
itself_replaced t (leaf number f) c b = absurd (omega arith)
itself_replaced t (leaf variable f) c b = let z : f.a ≡ 0 = omega arith in (rw z (raised_none t), rw z)
itself_replaced t (unary k f u) c b = absurd (omega arith)
itself_replaced t (binary k f u v) c b = absurd (omega arith)
itself_replaced t (ternary k f u v w) c b = absurd (omega arith)

module _ (rs : List Record) (at arg : ℕ) where
  pub variable_planned : (b : ℕ) → BoundIs rs at b → b ≡ 1 → (m : Bool) → RootIs rs at Variable m → m ≡ true → PlansTree rs at arg (Tree arg 1)
  variable_planned b h e m q z = record {
    is = λ lo hi end body t there clear low given before _.
        let two : (get_or rs at no_record).kind ≡ 2 = eqb→eq _ 2 (rw (sym q.is ∙ z) tt) in
        let none : child_count (root_kind body) ≡ 0 = ap child_count (sym (kind_back (root_kind body)) ∙ ap kind_of (sym (kind_read rs at body there) ∙ two) ∙ sym (named (leaf₀ variable) 2 refl)) in
        let (r, g) = itself_replaced t body none (sym (h.is body there) ∙ e) in
        rw (r, g) (itself arg 1 t given (inl before));
  }

  pub tree_planned : (plan : Plan) → PlansBody rs at (only_one (TreeAt arg)) plan → PlansTree rs at arg plan
  tree_planned plan p = record {
    is = λ lo hi end body t there clear low given before small.
        p.is lo hi end body (t ∷ []) there clear low (one_stands (tree_stands (record { there = given; upto = before; low = small }) hi));
  }

pub ruleset bodies = (closed_planned, body_planned, variable_planned, tree_planned)
