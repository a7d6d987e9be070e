-- The answer of check as document 01's, field by field.
use Rattle.rules.specs.Check.{CheckAnswer as MeantCheckAnswer}
use Rattle.check_call.specs.declared.CheckAnswer.{CheckAnswer}

abbrev pub check_meant : CheckAnswer → MeantCheckAnswer
check_meant r = record { number = r.number; place = r.place; root_type = r.root_type; records = r.records }
