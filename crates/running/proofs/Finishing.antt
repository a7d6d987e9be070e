-- `finish`: the run from its first state, and the last term's bytes. `finishing` for search.
use Prim.Native.Nat.{ℕ}
use mathlib.Core.List.{List}
use mathlib.Core.Path.{refl, sym, subst}
use Rattle.rules.specs.Terms.{Term}
use Rattle.rules.specs.Format.{Record}
use Rattle.rules.specs.Run.{outcome_of, run}
use Rattle.records.specs.View.{entries_in}
use Rattle.steps.specs.declared.state.State.{State}
use Rattle.steps.specs.Output.{CanWriteOut, WritesOut}
use Rattle.running.specs.declared.Completion.{Completion}
use Rattle.running.specs.declared.Halted.{Halted}
use Rattle.running.specs.Looping.{Halts, RunsOut}
use Rattle.running.specs.Finishing.{CanFinish, Finished, Finishes}

module _ (table : List ℕ) (rs : List Record) (s : State) (out : List ℕ) (h : CanFinish table rs s out) (fuel : ℕ) (rs₁ : List Record) (q : Halted)
    (ro : RunsOut (entries_in table) fuel rs rs₁ s q) where
  pub finish_writes : CanWriteOut table rs₁ q.state out
  finish_writes =
      let halted = ro.does h.run.term h.run.holds in
      record {
        rules = entries_in table;
        term = halted.last;
        runs = halted.runs;
        entries = h.entries;
        some_types = h.some_types;
        few_types = h.few_types;
        room = h.room;
      }

  module _ (out' : List ℕ) (w : ℕ) (wo : WritesOut table rs₁ q.state out out' w) where
    abbrev completion : Completion
    completion = record { ending = q.ending; steps = q.state.steps; replaced = q.replaced; written = w }

    pub finish_done : Finishes table fuel rs s out out' completion
    finish_done = record { does = λ first k. go first (ro.does first k) }
      where
        go : (first : Term) → Halts (entries_in table) fuel first rs₁ q → Finished (entries_in table) out out' (run (entries_in table) fuel first) completion
        go first d =
            let b = wo.does (entries_in table) d.last d.runs in
            subst (λ x. Finished (entries_in table) out out' (outcome_of x) completion) (sym d.is)
            (record { ending = refl; steps = d.counted; replaced = d.total; written = b.end; bytes = b.bytes })

pub ruleset finishing = (finish_writes, finish_done)
