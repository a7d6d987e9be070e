-- One law of Reading or Telling for each need.
use borrow.Author.Rules.{rules}
use Rattle.matching.proofs.Candidates.{is_sought, is_unsought}
use Rattle.matching.proofs.Reading.{code_known, second_bound, reading}
use Rattle.matching.proofs.Telling.{told_other, application_there, told_number, told_variable, told_application, told_always}
use Rattle.matching.proofs.matches.Goals as goal

pub overflow_add-p : goal.overflow_add-p
overflow_add-p c = search (reading, rules)

pub get-code-requires : goal.get-code-requires
get-code-requires c = search (reading, rules)

pub known-requires : goal.known-requires
known-requires c = code_known _ _ _ _ _ c.requires.there _ c.get-code.ensures

pub returns-then-ne : goal.returns-then-ne
returns-then-ne c =
    told_other _ _ _ _ _ c.get-r.ensures c.get-code.ensures _ c.known-kind.ensures _ c.sought.ensures _ c.known.ensures (is_unsought _ _ _
    c.ne.ensures c.if-ne.true)

pub entry_no-b-requires : goal.entry_no-b-requires
entry_no-b-requires c = second_bound _ _ _ _ _ c.requires.there _ c.get-r.ensures _ c.known-kind.ensures c.in-MatchApplication.is

pub overflow_add-p-in-MatchApplication : goal.overflow_add-p-in-MatchApplication
overflow_add-p-in-MatchApplication c = search (reading, rules)

pub second_type-requires : goal.second_type-requires
second_type-requires c =
    application_there _ _ _ _ _ c.get-r.ensures c.get-code.ensures _ c.known-kind.ensures _ c.sought.ensures _ c.known.ensures (is_sought _ _ _
    c.ne.ensures c.if-ne.false) c.requires c.in-MatchApplication.is

pub returns-in-MatchNumber : goal.returns-in-MatchNumber
returns-in-MatchNumber c =
    told_number _ _ _ _ _ c.get-r.ensures c.get-code.ensures _ c.known-kind.ensures _ c.sought.ensures _ c.known.ensures (is_sought _ _ _
    c.ne.ensures c.if-ne.false) _ _ c.in-MatchNumber.is c.number_held.ensures c.number_held-in-MatchNumber.ensures

pub returns-in-MatchVariable : goal.returns-in-MatchVariable
returns-in-MatchVariable c =
    told_variable _ _ _ _ _ c.get-r.ensures c.get-code.ensures _ c.known-kind.ensures _ c.sought.ensures _ c.known.ensures (is_sought _ _ _
    c.ne.ensures c.if-ne.false) c.in-MatchVariable.is

pub returns-in-MatchApplication : goal.returns-in-MatchApplication
returns-in-MatchApplication c =
    told_application _ _ _ _ _ c.get-r.ensures c.get-code.ensures _ c.known-kind.ensures _ c.sought.ensures _ c.known.ensures (is_sought _ _ _
    c.ne.ensures c.if-ne.false) _ _ c.in-MatchApplication.is c.second_type.ensures c.entry_no-b.ensures

pub returns-in_default : goal.returns-in_default
returns-in_default c =
    told_always _ _ _ _ _ c.get-r.ensures c.get-code.ensures _ c.known-kind.ensures _ c.sought.ensures _ c.known.ensures (is_sought _ _ _
    c.ne.ensures c.if-ne.false) c.in_default.not-MatchNumber c.in_default.not-MatchVariable c.in_default.not-MatchApplication
