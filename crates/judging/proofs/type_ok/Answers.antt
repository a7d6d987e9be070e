-- The arm of the matches.
use Rattle.judging.proofs.TypeRule.{a_match, match_type}
use Rattle.judging.proofs.type_ok.Goals as goal

pub pattern_ok-requires : goal.pattern_ok-requires
pattern_ok-requires c =
    let o = c.in_default in
    a_match _ o.not-Number o.not-Variable o.not-Function o.not-Application o.not-Fix o.not-Lift o.not-Quote o.not-Splice

pub returns-in_default : goal.returns-in_default
returns-in_default c =
    let o = c.in_default in
    match_type _ _ _ _ _ (a_match _ o.not-Number o.not-Variable o.not-Function o.not-Application o.not-Fix o.not-Lift o.not-Quote o.not-Splice)
    _ _ _ c.entry_if_any-e.ensures c.match_children_ok.ensures c.pattern_ok.ensures
