-- The small inputs are refused as document 01 says.
use mathlib.Core.Path.{refl}
use Rattle.rules.specs.Lists.{All, listed, joined, total}
use Rattle.rules.specs.Kinds.{kind_of, numbered}
use Rattle.rules.specs.Format.{table_of, records_of, program_bytes}
use Rattle.rules.specs.Refusals.{unless, ◌then◌, lowest}
use Rattle.rules.specs.Check.{judged, walked, form_refusal, size_refusal, layout_refusal, refusal, check_answer}
use Rattle.rules.specs.Run.{run_answer}
use Rattle.rules.specs.SmallInputs.{short_buffers, BuffersRefused, small_programs, ProgramRefused}
use Rattle.rules.proofs.General.{◌&◌}

pub buffers_refused : All BuffersRefused short_buffers
unfolding unless ◌then◌ run_answer
buffers_refused = (λ program fuel. refl) & (λ program fuel. refl) & (λ program fuel. refl) & tt

pub small_refused : All ProgramRefused small_programs
unfolding listed table_of records_of joined program_bytes unless ◌then◌ lowest total judged walked form_refusal size_refusal layout_refusal refusal check_answer run_answer kind_of numbered
small_refused =
    record { check = refl; run = λ fuel. refl }
    & record { check = refl; run = λ fuel. refl }
    & record { check = refl; run = λ fuel. refl }
    & record { check = refl; run = λ fuel. refl }
    & record { check = refl; run = λ fuel. refl }
    & record { check = refl; run = λ fuel. refl }
    & record { check = refl; run = λ fuel. refl }
    & record { check = refl; run = λ fuel. refl }
    & record { check = refl; run = λ fuel. refl }
    & record { check = refl; run = λ fuel. refl }
    & record { check = refl; run = λ fuel. refl }
    & record { check = refl; run = λ fuel. refl }
    & record { check = refl; run = λ fuel. refl }
    & record { check = refl; run = λ fuel. refl }
    & record { check = refl; run = λ fuel. refl }
    & record { check = refl; run = λ fuel. refl }
    & record { check = refl; run = λ fuel. refl }
    & record { check = refl; run = λ fuel. refl }
    & record { check = refl; run = λ fuel. refl }
    & record { check = refl; run = λ fuel. refl }
    & record { check = refl; run = λ fuel. refl }
    & record { check = refl; run = λ fuel. refl }
    & record { check = refl; run = λ fuel. refl }
    & tt
