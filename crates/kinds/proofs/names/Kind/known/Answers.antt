-- `Kind::known` answers by the table of the kinds' numbers.
use Rattle.kinds.proofs.Named.{named}
use Rattle.kinds.proofs.names.Kind.known.Goals as goal

pub returns-in-1 : goal.returns-in-1
returns-in-1 c = named _ _ c.in-1.is

pub returns-in-2 : goal.returns-in-2
returns-in-2 c = named _ _ c.in-2.is

pub returns-in-3 : goal.returns-in-3
returns-in-3 c = named _ _ c.in-3.is

pub returns-in-4 : goal.returns-in-4
returns-in-4 c = named _ _ c.in-4.is

pub returns-in-5 : goal.returns-in-5
returns-in-5 c = named _ _ c.in-5.is

pub returns-in-6 : goal.returns-in-6
returns-in-6 c = named _ _ c.in-6.is

pub returns-in-7 : goal.returns-in-7
returns-in-7 c = named _ _ c.in-7.is

pub returns-in-8 : goal.returns-in-8
returns-in-8 c = named _ _ c.in-8.is

pub returns-in-9 : goal.returns-in-9
returns-in-9 c = named _ _ c.in-9.is

pub returns-in-10 : goal.returns-in-10
returns-in-10 c = named _ _ c.in-10.is

pub returns-in-11 : goal.returns-in-11
returns-in-11 c = named _ _ c.in-11.is

pub returns-in-12 : goal.returns-in-12
returns-in-12 c = named _ _ c.in-12.is

pub returns-in-13 : goal.returns-in-13
returns-in-13 c = named _ _ c.in-13.is

pub returns-in-14 : goal.returns-in-14
returns-in-14 c = named _ _ c.in-14.is
