-- What the look-up of an entry shows, from the laws of looking.
use borrow.Author.Rules.{rules}
use Rattle.tables.proofs.Lookup.{lookup_finds, lookup_goes_on, looking}
use Rattle.tables.proofs.Table.count_before.Goals as goal

pub loop-i-init : goal.loop-i-init
loop-i-init c = search (looking, rules)

pub returns-then-eq : goal.returns-then-eq
returns-then-eq c = lookup_finds _ _ c.requires.room _ c.loop-i.invariant c.loop-i-test.true _ _ c.get_entry.ensures c.eq.ensures c.if-eq.true

pub loop-i-preserved : goal.loop-i-preserved
loop-i-preserved c = lookup_goes_on _ _ c.requires.room _ c.loop-i.invariant c.loop-i-test.true _ _ c.get_entry.ensures c.eq.ensures c.if-eq.false

pub returns : goal.returns
returns c = search (looking, rules)
