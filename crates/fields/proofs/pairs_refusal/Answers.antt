-- What the closure ensures of each entry's test is handed to `lowest_found`.
use Rattle.std.proofs.Common.{◌≡◌}
use Rattle.rules.specs.Conditions.{holds}
use Rattle.rules.specs.Check.{entry_rule}
use Rattle.records.specs.View.{entries_in}
use Rattle.refusals.proofs.Reporting.{lowest_found}
use Rattle.fields.proofs.pairs_refusal.Goals as goal

pub returns : goal.returns
returns c = rw (← c.entry_count-types.ensures) (lowest_found _ (λ n b. b ≡ holds (entry_rule (entries_in c.args.table.now) n)) _ _ _ (λ n b p q h. h) c.lowest_refusal.ensures)
