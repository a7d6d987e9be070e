-- `make`: a law for each thing that its body asks. `making` for search.
use Prim.Native.Nat.{ℕ, ◌-◌, ◌≤◌}
use native.Mathlib.Omega.{arith}
use mathlib.Core.List.{List}
use mathlib.Core.Logic.{inl, inr, ⊎_elim}
use mathlib.Core.Path.{◌≡◌, refl, ap, sym, ◌∙◌}
use Rattle.rules.specs.Terms.{Term, size}
use Rattle.rules.specs.Indices.{replacing, replaced, gave_way}
use Rattle.rules.specs.Format.{Record}
use Rattle.rules.proofs.Shifts.{raised_none}
use Rattle.terms.specs.Preorder.{preorder}
use Rattle.terms.proofs.There.{there_put, there_stays}
use Rattle.terms.proofs.Trees.{length_preorder}
use Rattle.substitution.specs.declared.arguments.Argument.{Argument}
use Rattle.substitution.specs.declared.arguments.Arguments.{Arguments}
use Rattle.substitution.specs.declared.replacing.Copied.{Copied}
use Rattle.copies.specs.Copying.{CopyAt, CanCopy, Written}
use Rattle.substitution.specs.Making.{MakingAt, CanCopyArgument, CopiesArgument}
use Rattle.substitution.specs.Replacing.{Replacing, Replaces}
use Rattle.contraction.specs.declared.plans.Plan.{Plan}
use Rattle.contraction.specs.declared.plans.Plan.TheVariants.{Body, Made as MadeOf}
use Rattle.contraction.specs.Making.{Makes, CanMake, Made, MakesBlock}
use Rattle.contraction.proofs.PlannedForms.{FromBody, planned_body, planned_anew}

-- A contractum that was written to the free records.
written_made : {rs : List Record} {plan : Plan} {dst hi end n : ℕ} {u : Term} → Makes rs plan dst hi end n u → (rs' : List Record) (e k : ℕ) → Written rs rs' dst u e → k ≡ n
    → Made rs rs' dst hi end n u (record { at = dst; size = e - dst; replaced = k })
written_made {rs} {dst = dst} {u = u} h rs' e k w c =
    let l = length_preorder u in
    record {
      there = record { there = rw w.records (there_put rs dst (preorder u) (omega (arith, h.room, h.within))) };
      long = omega (arith, w.end);
      counted = c;
      clear = inl h.room;
      others = λ i xs t o. rw w.records (there_stays rs dst (preorder u) i xs (⊎_elim (λ x. inl x) (λ x. inr (omega (arith, h.room))) o) t);
    }

module _ (rs : List Record) (plan : Plan) where
  -- A body with its variables replaced.
  module _ (at : ℕ) (g : Arguments) (e : plan ≡ Body at g) (dst : ℕ) where
    module _ {hi end n : ℕ} {u : Term} (h : Makes rs plan dst hi end n u) where
      body_of : FromBody rs dst hi end n u at g
      body_of = planned_body at g e h.planned

      body_meant : Replacing g rs dst hi (replacing body_of.terms) 8192
      body_meant = record {
        terms = body_of.terms;
        change = refl;
        given = body_of.given;
      }

      copying_body : CopyAt (replacing body_of.terms) 8192 rs dst hi at dst 0 body_of.body
      unfolding replaced
      copying_body = record {
        there = body_of.there;
        fits = record {
          outside = body_of.outside;
          start = omega arith;
          room = omega (arith, ap size body_of.is, h.room);
          within = h.within;
          few = h.few;
          low = omega (arith, body_of.low);
        };
      }

    pub body_asks : CanMake rs plan dst → CanCopy (Replacing g) rs at dst 0
    body_asks v = record { lo = dst; hi = v.hi; reach = 8192; change = replacing (body_of v.makes).terms; tree = (body_of v.makes).body; meant = body_meant v.makes; copy = copying_body v.makes }

    module _ (rs' : List Record) (c : Copied) (k : Replaces rs rs' at dst 0 g c) where
      body_written : {hi end n : ℕ} {u : Term} → Makes rs plan dst hi end n u → Written rs rs' dst u c.end
      unfolding replaced
      body_written {hi} h = rw (body_of h).is at (k.copies.does dst hi 8192 _ _ (body_meant h) (copying_body h))

      body_counted : {hi end n : ℕ} {u : Term} → Makes rs plan dst hi end n u → c.replaced ≡ n
      body_counted {hi} h =
          k.counts.is dst hi 8192 _ _ (body_meant h) (copying_body h) ∙ ap (λ m. gave_way m 0 (body_of h).body) (sym (body_of h).given.stand.count) ∙ (body_of h).counted

      pub body_up : CanMake rs plan dst → dst ≤ c.end
      body_up v = omega (arith, (body_written v.makes).end)

      pub body_made : MakesBlock rs rs' plan dst (record { at = dst; size = c.end - dst; replaced = c.replaced })
      body_made = record { does = λ hi end n u h. written_made h rs' c.end c.replaced (body_written h) (body_counted h) }

  -- An argument alone.
  module _ (g : Argument) (e : plan ≡ MadeOf g) (dst : ℕ) where
    making_anew : {hi end n : ℕ} {u : Term} → Makes rs plan dst hi end n u → MakingAt rs dst hi g dst 0 u
    making_anew h =
        let v = (planned_anew g e h.planned).given in
        record { stands = v.stands; start = omega arith; room = h.room; within = h.within; few = h.few; low = omega (arith, v.low) }

    pub anew_asks : CanMake rs plan dst → CanCopyArgument rs g dst 0
    anew_asks v = record { lo = dst; hi = v.hi; term = v.contractum; makes = making_anew v.makes }

    module _ (rs' : List Record) (a : ℕ) (k : CopiesArgument rs rs' g dst 0 a) where
      anew_written : {hi end n : ℕ} {u : Term} → Makes rs plan dst hi end n u → Written rs rs' dst u a
      anew_written {hi} {u = u} h = rw (raised_none u) at (k.does dst hi u (making_anew h))

      pub anew_up : CanMake rs plan dst → dst ≤ a
      anew_up v = omega (arith, (anew_written v.makes).end)

      pub anew_made : MakesBlock rs rs' plan dst (record { at = dst; size = a - dst; replaced = 0 })
      anew_made = record { does = λ hi end n u h. written_made h rs' a 0 (anew_written h) (planned_anew g e h.planned).none }

pub ruleset making = (body_asks, body_up, body_made, anew_asks, anew_up, anew_made)
