-- The invariant: the links of the first i records are counted, and each of these keeps the rule.
use Rattle.std.proofs.Common.{ℕ, true, ◌≡◌, ◌≤◌}
use Rattle.rules.specs.Conditions.{holds}
use Rattle.rules.specs.Check.{links_rule}
use Rattle.records.specs.View.{records_in}
use Rattle.links.proofs.Counting.{Counting}
use Rattle.links.proofs.naming.links_refusal.Given as goal

abbrev pub invariant-loop-i : goal.invariant-loop-i
invariant-loop-i l = record {
  counting : Counting (records_in l.records) l.i l.counts;
  passed : (n : ℕ) → 1 ≤ n → n ≤ l.i → holds (links_rule (records_in l.records) n) ≡ true;
}
