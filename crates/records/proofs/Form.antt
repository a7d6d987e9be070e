-- What the laws of a view ask of the form of its things: `of` reads one from the front of the bytes, `to` writes one. Assumes nothing.
use Prim.Native.Nat.{ℕ, ◌+◌, ◌≤◌, ◌<◌}
use mathlib.Core.Path.{◌≡◌}
use mathlib.Core.List.{List, ◌++◌}
use lib.ListN.{length, get_or, take, drop}
use lib.Seq.{get_or-drop}

-- Each number is below 256; past the end `get_or` reads 0.
abbrev pub AreBytes : List ℕ → Type 0
AreBytes s = (k : ℕ) → get_or s k 0 < 256

pub bytes_drop : (s : List ℕ) (n : ℕ) → AreBytes s → AreBytes (drop n s)
bytes_drop s n b k = rw get_or-drop (b (n + k))

pub record Form {A : Type 0} (of : List ℕ → A) (to : A → List ℕ) (width : ℕ) (Fits : A → Type 0) : Type 0 where
  pub wide : 0 < width
  -- A thing takes `width` bytes, and is read from no more.
  pub long : (x : A) → length (to x) ≡ width
  pub front : (s : List ℕ) → of (take width s) ≡ of s
  -- What is written is read back, and what is read is written back.
  pub back : (x : A) (rest : List ℕ) → Fits x → of (to x ++ rest) ≡ x
  pub forth : (s : List ℕ) → AreBytes s → width ≤ length s → to (of s) ≡ take width s
  pub fits : (s : List ℕ) → AreBytes s → Fits (of s)
