-- What the closure ensures of each record's test is handed to `lowest_found`.
use Rattle.std.proofs.Common.{◌≡◌}
use Rattle.rules.specs.Conditions.{holds}
use Rattle.rules.specs.FieldUses.{omitted}
use Rattle.rules.specs.Check.{omitted_rule}
use Rattle.records.specs.View.{records_in}
use Rattle.refusals.proofs.Reporting.{lowest_found}
use Rattle.fields.proofs.omitted_refusal.Goals as goal

pub returns : goal.returns
returns c = rw (← c.record_count-count.ensures) (lowest_found _ (λ n b. b ≡ holds (omitted_rule omitted (records_in c.args.records.now) n)) _ _ _ (λ n b p q h. h) c.lowest_refusal.ensures)
