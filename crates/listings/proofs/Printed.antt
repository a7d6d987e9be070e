-- What has been printed stands within its buffer, for callers that lend the text on.
use Prim.Native.Nat.{ℕ, ◌≤◌}
use native.Mathlib.Omega.{arith}
use mathlib.Core.List.{List}
use mathlib.Core.Path.{◌≡◌, sym, ap}
use lib.ListN.{length, take, drop, length-append}
use lib.Seq.{length-take-le}
use Rattle.listing_text.specs.Buffers.{Prints}

module _ (s text s' : List ℕ) (n : ℕ) (h : Prints s text s' n) where
  pub printed_within : n ≤ length s'
  printed_within = omega (arith, h.counts, ap length h.bytes, length-append text (drop (length text) s))

  pub printed_long : n ≡ length (take n s')
  printed_long = sym (length-take-le n s' printed_within)
