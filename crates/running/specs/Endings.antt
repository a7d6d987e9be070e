-- How a run ends, in the code and in the rules.
use Rattle.rules.specs.Run.{valued, spent, full}
use Rattle.rules.specs.Run.{Ending as MeantEnding}
use Rattle.running.specs.declared.Ending.{Ending}
use Rattle.running.specs.declared.Ending.TheVariants.{Value, Spent, Full}

abbrev pub ending_meant : Ending → MeantEnding
ending_meant Value = valued
ending_meant Spent = spent
ending_meant Full = full
