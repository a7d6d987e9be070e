-- A list of bytes seen as a list of things of one width: type entries of 6 bytes, records of 16.
-- Bytes past the last whole thing are no part of the view. Contracts speak of the view; its laws stand in proofs/.
use Rattle.std.specs.Prelude.{ℕ, ◌*◌, ◌/◌, ◌<◌, ◌≡◌, List, length, drop, set}
use Rattle.rules.specs.Lists.{listed}
use Rattle.rules.specs.Types.{Entry}
use Rattle.rules.specs.Format.{Record, entry_of, entry_bytes, record_of, record_bytes}
use Rattle.records.specs.Overwritten.{overwritten}

-- Thing i is what `of` reads at byte `width * i`.
unfoldable pub viewed : {A : Type 0} → (List ℕ → A) → ℕ → List ℕ → List A
viewed of width s = listed (λ i. of (drop (width * i) s)) 0 (length s / width)

unfoldable pub entries_in : List ℕ → List Entry
entries_in s = viewed entry_of 6 s

unfoldable pub records_in : List ℕ → List Record
records_in s = viewed record_of 16 s

-- s' is what a write of x as thing i makes of the bytes s: it fixes every byte, and the view differs at i alone.
pub record Put {A : Type 0} (view : List ℕ → List A) (to : A → List ℕ) (width : ℕ) (s : List ℕ) (i : ℕ) (x : A) (s' : List ℕ) : Type 0 where
  pub within : i < length (view s)
  pub bytes : s' ≡ overwritten s (width * i) (to x)
  pub things : view s' ≡ set (view s) i x

abbrev pub EntryPut : List ℕ → ℕ → Entry → List ℕ → Type 0
EntryPut = Put entries_in entry_bytes 6

abbrev pub RecordPut : List ℕ → ℕ → Record → List ℕ → Type 0
RecordPut = Put records_in record_bytes 16
