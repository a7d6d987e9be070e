-- `run_program`: a passed program from its bytes to the bytes that are written. `running_programs` for search.
use Prim.Native.Nat.{ℕ}
use native.Mathlib.Omega.{arith}
use mathlib.Core.List.{List, []}
use mathlib.Core.Path.{ap}
use Rattle.rules.specs.Editions.{Edition}
use Rattle.rules.specs.Terms.{Term, size}
use Rattle.rules.specs.FieldUses.{given}
use Rattle.rules.specs.Format.{Record, table_of}
use Rattle.rules.specs.Links.{root_tree}
use Rattle.rules.specs.Typing.{Typed}
use Rattle.rules.specs.Meets.{Meets}
use Rattle.rules.proofs.Meaning.{root_size, unlike}
use Rattle.records.specs.View.{entries_in, records_in}
use Rattle.records.proofs.Records.{records_length}
use Rattle.parts.specs.declared.Parts.{Parts}
use Rattle.parts.specs.Layout.{ArePartsOf}
use Rattle.terms.proofs.Loaded.{form_linked}
use Rattle.steps.specs.declared.state.State.{State}
use Rattle.steps.specs.Starting.{CanStart, Starts}
use Rattle.steps.specs.Stepping.{HoldsTerm}
use Rattle.running.specs.declared.Completion.{Completion}
use Rattle.running.specs.Finishing.{CanFinish, Finishes}
use Rattle.running.specs.Programs.{CanRunProgram, RunsProgram}

module _ (edition : Edition) (p out work : List ℕ) (h : CanRunProgram edition p out work) where
  m : Meets edition p
  m = h.meets

  module _ (parts : Parts) (a : ArePartsOf p parts) where
    first_typed : Typed (entries_in parts.table.now) [] 0 (root_tree (records_in parts.records.now))
    first_typed = rw (a.entries_are, a.records_are) m.typed

    pub program_starts : CanStart (records_in parts.records.now) (records_in work)
    program_starts = record {
      types = entries_in parts.table.now;
      typed = first_typed;
      linked = form_linked given edition h.known (table_of p) (records_in parts.records.now) (rw a.records_are m.layout.form);
      whole = omega (arith, ap (λ rs. size (root_tree rs)) a.records_are, root_size edition p m, a.records_counted);
      some = omega (arith, a.records_counted, m.layout.counts.1.0);
      few = omega (arith, a.records_counted, m.layout.counts.1.0);
      room = omega (arith, records_length work, h.long);
    }

    module _ (rs₁ : List Record) (s : State) (st : Starts (records_in parts.records.now) rs₁ s) where
      abbrev first : Term
      first = root_tree (records_in parts.records.now)

      holds : HoldsTerm (entries_in parts.table.now) rs₁ s first
      holds = st.holds (entries_in parts.table.now) first_typed

      pub program_finishes : CanFinish parts.table.now rs₁ s out
      program_finishes = record {
        run = record {
          term = first;
          holds = holds;
          none = st.steps;
          unlike = rw a.entries_are (unlike (table_of p) m.layout.form.entries);
        };
        entries = omega (arith, a.table_long, a.entries_counted);
        some_types = omega (arith, a.entries_counted, m.layout.counts.0);
        few_types = omega (arith, a.entries_counted, m.layout.counts.0);
        room = h.room;
      }

      pub program_runs : (fuel : ℕ) (out' : List ℕ) (r : Completion) → Finishes parts.table.now fuel rs₁ s out out' r → RunsProgram p fuel out out' r
      program_runs fuel out' r fi = record { does = rw (← a.entries_are, ← a.records_are) (fi.does first holds) }

pub ruleset running_programs = (program_starts, program_finishes, program_runs)
