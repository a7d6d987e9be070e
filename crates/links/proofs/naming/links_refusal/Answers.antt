use native.Mathlib.Decide.{dec_lt}
use Rattle.std.proofs.Common.{rules, sym, ◌≡◌, ◌+◌, ◌∙◌, arith}
use Rattle.refusals.proofs.Reporting.{none_lowest, one_lowest}
use Rattle.links.proofs.Counting.{counting, count_starts}
use Rattle.links.proofs.naming.links_refusal.Goals as goal

pub loop-i-init : goal.loop-i-init
loop-i-init c = record { counting = count_starts _ c.requires; passed = λ n p q. absurd (omega arith) }

pub links_ok-requires : goal.links_ok-requires
links_ok-requires c = search (counting, rules)

pub bump-requires : goal.bump-requires
bump-requires c = search (counting, rules)

pub bump-requires-in-loop-i : goal.bump-requires-in-loop-i
bump-requires-in-loop-i c = search (counting, rules)

pub loop-i-preserved : goal.loop-i-preserved
loop-i-preserved c = record {
  counting = search (counting, rules);
  passed = λ n p q. elim (dec_lt c.loop-i.i n) [
    | yes l ↦ let e : n ≡ c.loop-i.i + 1 = omega arith in rw e (sym c.links_ok.ensures ∙ c.if-not-links_ok.false)
    | no l ↦ c.loop-i.invariant.passed n p (omega arith)
  ];
}

pub returns-then-not-links_ok : goal.returns-then-not-links_ok
returns-then-not-links_ok c = rw (← c.record_count-count.ensures) (one_lowest _ _ 1 _ _ (omega arith) (omega arith) (sym c.links_ok.ensures ∙ c.if-not-links_ok.true) (λ n p q. c.loop-i.invariant.passed n p (omega arith)))

pub returns : goal.returns
returns c = rw (← c.record_count-count.ensures) (none_lowest _ _ 1 _ (λ n p q. c.loop-i.invariant.passed n p (omega arith)))
