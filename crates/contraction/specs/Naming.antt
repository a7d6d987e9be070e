-- The code's names of the rules' step rules.
use Rattle.rules.specs.Kinds.{Match, match_variable, match_shape, match_number, match_application, match_lift, match_function, match_fix}
use Rattle.rules.specs.Contractions.{StepRule, on_application, on_fix, on_lift, on_splice, on_success, on_failure}
use Rattle.kinds.specs.declared.names.Kind.{Kind}
use Rattle.kinds.specs.declared.names.Kind.TheVariants.{MatchNumber, MatchVariable, MatchApplication, MatchLift, MatchFunction, MatchFix}
use Rattle.contraction.specs.declared.rule.Rule.{Rule}
use Rattle.contraction.specs.declared.rule.Rule.TheVariants.{Application, Fix, Lift, Splice, Success, Failure}

abbrev pub match_named : Match → Kind
match_named (match_shape match_number) = MatchNumber
match_named match_variable = MatchVariable
match_named (match_shape match_application) = MatchApplication
match_named (match_shape match_lift) = MatchLift
match_named (match_shape match_function) = MatchFunction
match_named (match_shape match_fix) = MatchFix

abbrev pub rule_named : StepRule → Rule
rule_named on_application = Application
rule_named on_fix = Fix
rule_named on_lift = Lift
rule_named on_splice = Splice
rule_named (on_success k) = Success (match_named k)
rule_named (on_failure k) = Failure (match_named k)
