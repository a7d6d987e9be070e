-- The answer of an accepted run.
use Prim.Native.Nat.{ℕ}
use native.Mathlib.Omega.{arith}
use mathlib.Core.List.{List}
use mathlib.Core.Path.{◌≡◌, sym, ap, ◌∙◌}
use lib.ListN.{length}
use Rattle.rules.specs.Editions.{first_edition}
use Rattle.rules.specs.Terms.{type_of}
use Rattle.rules.specs.Format.{records_of}
use Rattle.rules.specs.Check.{type_no}
use Rattle.rules.specs.Run.{ending_number, program_course}
use Rattle.rules.proofs.Tree.{tree_type}
use Rattle.rules.proofs.Whole.{last_type}
use Rattle.running.specs.declared.Completion.{Completion}
use Rattle.running.specs.Endings.{ending_meant}
use Rattle.running.specs.Programs.{CanRunProgram, RunsProgram}
use Rattle.run_call.specs.Answers.{Accepted}

module _ (p out work : List ℕ) (h : CanRunProgram first_edition p out work) where
  root_kept : (fuel : ℕ) → type_no (records_of p) 1 ≡ type_of (program_course p fuel).last
  root_kept fuel = sym (tree_type (records_of p) (length (records_of p)) 1) ∙ sym (last_type first_edition (omega arith) p h.meets fuel)

  pub accept_done : (fuel : ℕ) (out' : List ℕ) (c : Completion) → RunsProgram p fuel out out' c → (ending : ℕ) → ending ≡ ending_number (ending_meant c.ending) → (root : ℕ) → root ≡ type_no (records_of p) 1
      → Accepted p fuel out out' (record { number = 0; place = 0; ending = ending; steps = c.steps; root_type = root; written = c.written; replaced = c.replaced })
  accept_done fuel out' c done ending g root e = record {
    answer = λ i. record {
      number = 0;
      place = 0;
      ending = (g ∙ ap ending_number done.does.ending) i;
      steps = done.does.steps i;
      root_type = (e ∙ root_kept fuel) i;
      written = done.does.written i;
      replaced = done.does.replaced i;
    };
    output = done.does.bytes;
  }
