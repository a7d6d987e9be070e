use Rattle.std.proofs.Common.{refl, sym, ◌∙◌, arith}
use Rattle.refusals.proofs.Reporting.{none_lowest, one_lowest}
use Rattle.fields.proofs.NoteLaws.{noted_none}
use Rattle.fields.proofs.set_refusal.Goals as goal

pub loop-i-init : goal.loop-i-init
loop-i-init g c = record { noted = noted_none _ g.row.N _ refl; passed = λ n p q. absurd (omega arith) }

pub whole_as_slice-note : goal.whole_as_slice-note
whole_as_slice-note g c = omega (arith, c.requires.most)

pub returns-then-not-note : goal.returns-then-not-note
returns-then-not-note g c = rw (← c.entry_count-types.ensures) (one_lowest _ _ 1 _ _ (omega arith) (omega arith) (sym c.note.ensures.told ∙ c.if-not-note.true) (λ n p q. c.loop-i.invariant.passed n p (omega arith)))

pub returns : goal.returns
returns g c = rw (← c.entry_count-types.ensures) (none_lowest _ _ 1 _ (λ n p q. c.loop-i.invariant.passed n p (omega arith)))
