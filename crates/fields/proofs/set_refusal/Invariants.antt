-- The invariant: the first i entries keep the rule, and their parts are noted.
use Rattle.std.proofs.Common.{ℕ, true, ◌≡◌, ◌≤◌}
use Rattle.rules.specs.Conditions.{holds}
use Rattle.rules.specs.Check.{entry_rule}
use Rattle.records.specs.View.{entries_in}
use Rattle.fields.specs.Noting.{Noted}
use Rattle.fields.proofs.set_refusal.Given as goal

abbrev pub invariant-loop-i : goal.invariant-loop-i
invariant-loop-i g l = record {
  noted : Noted (entries_in l.table) l.seen l.i;
  passed : (n : ℕ) → 1 ≤ n → n ≤ l.i → holds (entry_rule (entries_in l.table) n) ≡ true;
}
