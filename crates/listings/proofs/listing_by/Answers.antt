-- `listings::listing_by`: fuel cut short, the run's refusal, or the records of its last term. Assumes nothing.
use Rattle.std.proofs.Common.{rules, ◌∙◌}
use Rattle.listings.proofs.Showing.{showing}
use Rattle.listings.proofs.listing_by.Goals as goal

pub returns-then-input-lt4 : goal.returns-then-input-lt4
returns-then-input-lt4 c = let number = c.from.ensures ∙ c.number.ensures in search (showing, rules)

pub returns-then-number-ne0 : goal.returns-then-number-ne0
returns-then-number-ne0 c = search showing

pub slice_bounds-parts_of-end : goal.slice_bounds-parts_of-end
slice_bounds-parts_of-end c = search showing

pub slice_bounds-parts_of-end-2 : goal.slice_bounds-parts_of-end-2
slice_bounds-parts_of-end-2 c = search showing

pub parts_of-parts-requires : goal.parts_of-parts-requires
parts_of-parts-requires c = search showing

pub accepted_text-requires : goal.accepted_text-requires
accepted_text-requires c = search showing

pub returns : goal.returns
returns c = search showing
