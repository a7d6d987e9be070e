-- Where a definition says a thing in a form of its own, it says what document 01 says.
use Prim.Native.Nat.{ℕ, ◌+◌, ◌≤◌, ◌<◌}
use native.Mathlib.Omega.{arith}
use mathlib.Core.List.{List}
use mathlib.Core.Bool.{Bool, true, false, ◌&&◌}
use mathlib.Core.Logic.{◌⊎◌, ◌↔◌, inl, inr, ⊎_elim}
use mathlib.Core.Path.{◌≡◌, refl}
use lib.Dec.{T, leb, ltb, ltb→lt, lt→ltb, leb→le, le→leb}
use mir.Facts.{and_yes, yes_and}
use lib.ListN.{get_or, drop}
use lib.Seq.{get_or-drop}
use Rattle.rules.specs.Kinds.{Kind, kind_number}
use Rattle.rules.specs.Values.{plain_kind}
use Rattle.rules.specs.Lists.{pick}
use Rattle.rules.specs.Format.{record_of}
use Rattle.rules.specs.Links.{named}
use Rattle.rules.proofs.General.{◌&◌, is_true, picked}
use Rattle.rules.proofs.KindTable.{each_kind}

-- "Plain: kinds 1 to 5".
pub plain_one_to_five : (k : Kind) → plain_kind k ≡ leb (kind_number k) 5
plain_one_to_five = each_kind (λ k. plain_kind k ≡ leb (kind_number k) 5) (refl & refl & refl & refl & refl & refl & refl & refl & refl & refl & refl & refl & refl & refl & tt)

-- 7: four bytes hold a number of 32 bits, so that the bound on a value refuses nothing.
pub number_fits : (bytes : List ℕ) (at : ℕ) → ((i : ℕ) → get_or bytes i 0 < 256) → (record_of (drop at bytes)).fields.value < 4294967296
number_fits bytes at h = rw (get_or-drop at bytes 12, get_or-drop at bytes 13, get_or-drop at bytes 14, get_or-drop at bytes 15) (omega (arith, h (at + 12), h (at + 13), h (at + 14), h (at + 15)))

-- 8: "A nonzero link is above its record's own number and at most R": link l of record n is good, that is names what it says, exactly when it is 0
-- or in that range.
pub good_link : (R n l : ℕ) → l ≡ named R n l ↔ (l ≡ 0) ⊎ ((n < l) × (l ≤ R))
good_link R n l = (λ e. go (ltb n l && leb l R) (λ t. and_yes (ltb n l) (leb l R) t) e, ⊎_elim zero_names range_names)
  where
    go : (b : Bool) → (T b → T (ltb n l) × T (leb l R)) → l ≡ pick b l 0 → (l ≡ 0) ⊎ ((n < l) × (l ≤ R))
    go true t e = let (h, k) = t tt in inr (ltb→lt n l h, leb→le l R k)
    go false t e = inl e

    zero_names : l ≡ 0 → l ≡ named R n l
    zero_names z = picked (λ x. l ≡ x) (ltb n l && leb l R) (λ _. refl) (λ _. z)

    range_names : (n < l) × (l ≤ R) → l ≡ named R n l
    range_names (h, k) = rw (is_true (ltb n l && leb l R) (yes_and (ltb n l) (leb l R) (lt→ltb n l h) (le→leb l R k)))
