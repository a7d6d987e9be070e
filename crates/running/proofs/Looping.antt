-- The loop of steps: `looping` for search.
use Prim.Native.Nat.{ℕ, ◌+◌, ◌*◌, ◌-◌, ◌^◌, ◌≤◌, ◌<◌}
use native.Mathlib.Omega.{arith}
use mathlib.Core.Bool.{Bool, true, false}
use mathlib.Core.List.{List, [], ◌∷◌}
use mathlib.Core.Path.{◌≡◌, refl, sym, ap, ◌∙◌}
use lib.ListN.{length}
use Rattle.rules.specs.Terms.{Term}
use Rattle.rules.specs.Types.{Table, NoTwins}
use Rattle.rules.specs.Values.{value}
use Rattle.rules.specs.Steps.{Event}
use Rattle.rules.specs.Format.{Record, most_records}
use Rattle.rules.specs.Traces.{total_of, replaced_total}
use Rattle.rules.specs.Run.{course}
use Rattle.rules.proofs.Agree.{agree}
use Rattle.rules.proofs.Events.{within}
use Rattle.rules.proofs.Traces.{total_append}
use Rattle.steps.specs.declared.state.State.{State}
use Rattle.steps.specs.declared.state.Step.{Step}
use Rattle.steps.specs.Stepping.{HoldsTerm, Runs, HasTerm, SeeksTerm, CanStep, After, running, too_large, Stepped, TellsValue}
use Rattle.steps.proofs.Values.{runs_few}
use Rattle.running.specs.Running.{ended_after, Running}
use Rattle.std.specs.Prelude.{Some, None}
use Rattle.running.specs.declared.Ending.{Ending}
use Rattle.running.specs.declared.Ending.TheVariants.{Value, Spent, Full}
use Rattle.running.specs.Endings.{ending_meant}
use Rattle.running.specs.Looping.{CanRun, Halts, RunsOut}
use Rattle.running.proofs.Stepping.{extended, one_longer, run_starts, ends_value, ends_spent, ends_full, goes_on}

-- What gives way in one step more.
added : (es : List Event) (e : Event) → replaced_total (extended es e) ≡ replaced_total es + e.replaced
unfolding total_of
added es e = omega (arith, total_append (λ x. x.replaced) es (e ∷ []))

-- The run of the first term stands where the state is: the state has counted the events so far, and m variables gave way in them.
pub record StandsAt (types : Table) (fuel : ℕ) (first : Term) (rs : List Record) (s : State) (m : ℕ) : Type 0 where
  pub term : Term
  pub holds : HoldsTerm types rs s term
  pub trace : List Event
  pub stands : Running types fuel first trace term
  pub counted : s.steps ≡ length trace
  pub total : m ≡ replaced_total trace

-- The loop, which began with the state s₀ and the records rs₀, is at s and rs, and m variables gave way. There is a first term.
pub record Going (types : Table) (fuel : ℕ) (rs₀ rs : List Record) (s₀ s : State) (m : ℕ) : Type 0 where
  pub unlike : NoTwins types
  pub counts : fuel < 2 ^ 32
  pub few : m ≤ most_records * s.steps
  pub first : Term
  pub holds : HoldsTerm types rs₀ s₀ first
  pub each : (first : Term) → HoldsTerm types rs₀ s₀ first → StandsAt types fuel first rs s m

pub going_starts : (types : Table) (fuel : ℕ) (rs : List Record) (s : State) → CanRun types rs s → fuel < 2 ^ 32 → Going types fuel rs rs s s 0
unfolding total_of
going_starts types fuel rs s h l = record {
  unlike = h.unlike;
  counts = l;
  few = omega arith;
  first = h.term;
  holds = h.holds;
  each = λ first k. record { term = first; holds = k; trace = []; stands = run_starts types fuel first; counted = h.none; total = refl };
}

module _ (types : Table) (fuel : ℕ) (rs₀ rs : List Record) (s₀ s : State) (m : ℕ) (g : Going types fuel rs₀ rs s₀ s m) where
  pub going_seeks : HasTerm rs s
  going_seeks = let a = g.each g.first g.holds in record { types = types; term = a.term; holds = a.holds }

  -- After the search.
  module _ (rs₁ : List Record) (q : State) (f : SeeksTerm rs rs₁ s q) where
    -- The term is at its redex, or a value.
    at_redex : (first : Term) (k : HoldsTerm types rs₀ s₀ first) → Runs types rs₁ q (g.each first k).term
    at_redex first k = let a = g.each first k in f.does types a.term a.holds

    counted : (first : Term) (k : HoldsTerm types rs₀ s₀ first) → q.steps ≡ length (g.each first k).trace
    counted first k = f.steps ∙ (g.each first k).counted

    halts : (e : Ending) → ((first : Term) (k : HoldsTerm types rs₀ s₀ first) → course types fuel first ≡ ended_after (g.each first k).trace (ending_meant e) (g.each first k).term)
        → RunsOut types fuel rs₀ rs₁ s₀ (record { state = q; ending = e; replaced = m })
    halts e is = record {
      does = λ first k. record {
        trace = (g.each first k).trace;
        last = (g.each first k).term;
        runs = at_redex first k;
        counted = counted first k;
        is = is first k;
        total = (g.each first k).total;
      };
    }

    module _ (b : Bool) (v : TellsValue q b) where
      valued_at : (first : Term) (k : HoldsTerm types rs₀ s₀ first) → value (g.each first k).term ≡ b
      valued_at first k = sym (v.is types rs₁ (g.each first k).term (at_redex first k))

      pub going_value : b ≡ true → RunsOut types fuel rs₀ rs₁ s₀ (record { state = q; ending = Value; replaced = m })
      going_value y = halts Value (λ first k. let a = g.each first k in ends_value types fuel first a.trace a.term a.stands (valued_at first k ∙ y))

      pub going_spent : b ≡ false → fuel ≤ q.steps → RunsOut types fuel rs₀ rs₁ s₀ (record { state = q; ending = Spent; replaced = m })
      going_spent y l = halts Spent (λ first k. let a = g.each first k in ends_spent types fuel first a.trace a.term a.stands (omega (arith, counted first k)) (valued_at first k ∙ y))

      pub going_steps : b ≡ false → q.steps < fuel → CanStep types rs₁ q
      going_steps y l = record {
        term = (g.each g.first g.holds).term;
        runs = at_redex g.first g.holds;
        no_value = valued_at g.first g.holds ∙ y;
        unlike = g.unlike;
        counts = omega (arith, g.counts);
      }

    -- After the step.
    module _ (l : q.steps < fuel) (rs₂ : List Record) where
      -- It is made.
      module _ (r : Step) (d : Stepped types rs₁ rs₂ q (Some r)) where
        made : (first : Term) (k : HoldsTerm types rs₀ s₀ first) → After types rs₂ q (g.each first k).term (Some r)
        made first k = d.does (g.each first k).term (at_redex first k)

        -- A step more is counted, and what gave way in it are records of its term.
        one_more : (r.state.steps ≡ s.steps + 1) × (r.event.replaced ≤ most_records)
        one_more = go (g.each g.first g.holds).term (at_redex g.first g.holds) (made g.first g.holds)
          where
            go : (t : Term) → Runs types rs₁ q t → After types rs₂ q t (Some r) → (r.state.steps ≡ s.steps + 1) × (r.event.replaced ≤ most_records)
            go t h (running _ u c _ _ e v) =
                (omega (arith, e, f.steps), omega (arith, ap (λ x. x.replaced) v, (within ((agree types 0 c.event t u).0 c.is_next)).few, runs_few types rs₁ q t h))

        few_more : m + r.event.replaced ≤ most_records * r.state.steps
        few_more = omega (arith, g.few, one_more.0, one_more.1)

        pub going_fits : m + r.event.replaced < 2 ^ 64
        going_fits = omega (arith, few_more, one_more.0, f.steps, g.counts)

        pub going_less : fuel - r.state.steps < fuel - s.steps
        going_less = omega (arith, one_more.0, f.steps)

        pub going_on : Going types fuel rs₀ rs₂ s₀ r.state (m + r.event.replaced)
        going_on = record {
          unlike = g.unlike;
          counts = g.counts;
          few = few_more;
          first = g.first;
          holds = g.holds;
          each = λ first k. step first k (made first k);
        }
          where
            step : (first : Term) (k : HoldsTerm types rs₀ s₀ first) → After types rs₂ q (g.each first k).term (Some r) → StandsAt types fuel first rs₂ r.state (m + r.event.replaced)
            step first k (running _ u c small w e v) =
                let a = g.each first k in
                record {
                  term = u;
                  holds = w;
                  trace = extended a.trace c.event;
                  stands = goes_on types fuel first a.trace a.term a.stands c.event u (omega (arith, counted first k)) c.no_value c.is_next small;
                  counted = omega (arith, e, counted first k, one_longer a.trace c.event);
                  total = omega (arith, a.total, ap (λ x. x.replaced) v, added a.trace c.event);
                }

      -- It is not: the table is full.
      pub going_full : Stepped types rs₁ rs₂ q None → RunsOut types fuel rs₀ rs₂ s₀ (record { state = q; ending = Full; replaced = m })
      going_full d = record { does = λ first k. stop first k (d.does (g.each first k).term (at_redex first k)) }
        where
          stop : (first : Term) (k : HoldsTerm types rs₀ s₀ first) → After types rs₂ q (g.each first k).term None → Halts types fuel first rs₂ (record { state = q; ending = Full; replaced = m })
          stop first k (too_large u c large w) =
              let a = g.each first k in
              record {
                trace = a.trace;
                last = a.term;
                runs = w;
                counted = counted first k;
                is = ends_full types fuel first a.trace a.term a.stands c.event u (omega (arith, counted first k)) c.no_value c.is_next large;
                total = a.total;
              }

pub ruleset looping = (going_starts, going_seeks, going_value, going_spent, going_steps, going_fits, going_on, going_less, going_full)
