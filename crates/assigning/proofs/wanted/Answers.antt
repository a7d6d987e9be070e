-- Each arm is what is wanted for its kind.
use Rattle.std.proofs.Common.{ap, refl, inl, inr}
use Rattle.inference.specs.Inference.{known, made}
use Rattle.judging.proofs.TypeRule.{a_match}
use Rattle.assigning.specs.Assigning.{wanted_meant}
use Rattle.assigning.proofs.Candidates.{kind_wants, match_wants}
use Rattle.assigning.proofs.wanted.Goals as goal

pub returns-in-Number : goal.returns-in-Number
unfolding wanted_meant
returns-in-Number c = kind_wants _ _ _ _ _ _ c.of.ensures _ c.in-Number.is (ap made c.nat.ensures)

pub returns-in-Variable : goal.returns-in-Variable
unfolding wanted_meant
returns-in-Variable c = kind_wants _ _ _ _ _ _ c.of.ensures _ c.in-Variable.is (ap (λ b. known b.type) c.at-b.ensures.is)

pub returns-in-Function : goal.returns-in-Function
unfolding wanted_meant
returns-in-Function c = kind_wants _ _ _ _ _ _ c.of.ensures _ c.in-Function.is (ap made c.function.ensures)

pub returns-in-Application : goal.returns-in-Application
unfolding wanted_meant
returns-in-Application c = kind_wants _ _ _ _ _ _ c.of.ensures _ c.in-Application.is (ap (λ e. known e.b) c.entry_if_any-e.ensures.is)

pub returns-in-Fix : goal.returns-in-Fix
unfolding wanted_meant
returns-in-Fix c =
    let e = ap (λ e. known e.a) c.entry_if_any-e-in-Fix.ensures.is in
    elim c.in-Fix.is [ inl h ↦ kind_wants _ _ _ _ _ _ c.of.ensures _ h e | inr h ↦ kind_wants _ _ _ _ _ _ c.of.ensures _ h e ]

pub returns-in-Lift : goal.returns-in-Lift
unfolding wanted_meant
returns-in-Lift c = elim c.in-Lift.is [ inl h ↦ kind_wants _ _ _ _ _ _ c.of.ensures _ h (ap made c.code.ensures) | inr h ↦ kind_wants _ _ _ _ _ _ c.of.ensures _ h (ap made c.code.ensures) ]

pub returns-in_default : goal.returns-in_default
unfolding wanted_meant
returns-in_default c =
    let o = c.in_default in
    match_wants _ _ _ _ _ _ c.of.ensures (a_match _ o.not-Number o.not-Variable o.not-Function o.not-Application o.not-Fix o.not-Lift o.not-Quote o.not-Splice) refl
