-- The buffers that a listing is made in: a run's two, and the text's.
use Rattle.std.specs.Prelude.{ℕ, ◌≤◌, List, length}
use Rattle.rules.specs.Run.{output_needed, work_needed}
use Rattle.listings.specs.Listing.{text_length}

pub record Lent (output work text : List ℕ) : Type 0 where
  pub output_long : output_needed ≤ length output
  pub work_long : work_needed ≤ length work
  pub text_long : text_length ≤ length text
