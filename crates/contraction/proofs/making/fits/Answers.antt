-- Each need is one law of Room.
use borrow.Author.Rules.{rules}
use Rattle.contraction.proofs.Room.{measuring}
use Rattle.contraction.proofs.making.fits.Goals as goal

pub replaced_fits-requires : goal.replaced_fits-requires
replaced_fits-requires c = search (measuring, rules)

pub argument_size-requires : goal.argument_size-requires
argument_size-requires c = search (measuring, rules)

pub returns-in-Body : goal.returns-in-Body
returns-in-Body c = search (measuring, rules)

pub returns-in-Made : goal.returns-in-Made
returns-in-Made c = search (measuring, rules)
