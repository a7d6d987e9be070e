-- `raised_index`, `raised_field`: an index is raised by a product of the amount and 0 or 1.
use Prim.Native.Nat.{ℕ, ◌+◌, ◌*◌, ◌≤◌}
use native.Mathlib.Omega.{arith}
use native.Mathlib.Decide.{dec_lt}
use mathlib.Core.Bool.{Bool, true, false}
use mathlib.Core.Path.{◌≡◌, refl, ap, subst, ◌∙◌}
use lib.Dec.{leb, eqb}
use denote.Enum.Bare.{sameb}
use borrow.Author.Tests.{lt-ltb, le-ltb, lt-leb, le-leb, ne_eqb}
use mir.Val.{bool_byte}
use Rattle.rules.specs.Lists.{pick, listed}
use Rattle.rules.specs.Kinds.{kind_number, kind_of, numbered}
use Rattle.rules.specs.FieldUses.{uses, use_number}
use Rattle.rules.specs.Indices.{raised_index}
use Rattle.rules.proofs.KindTable.{kind_back}
use Rattle.kinds.specs.Named.{kind_meant}
use Rattle.kinds.proofs.Named.{in_range, unknown_kind}
use Rattle.kinds.specs.contracts.names.Kind.{the_type}
use Rattle.kinds.specs.declared.names.Kind.{Kind}
use Rattle.kinds.specs.declared.names.Kind.TheVariants.{Number, Variable, Function, Application, Fix, Lift, Quote, Splice, MatchNumber, MatchVariable, MatchApplication, MatchLift, MatchFunction, MatchFix}
use Rattle.copies.specs.Roots.{moved_field}

-- The product is the amount at most.
pub product_low : (n : ℕ) (b : Bool) → n * bool_byte b ≤ n
product_low n true = omega arith
product_low n false = omega arith

pub index_sum : (n d i : ℕ) → i + n * bool_byte (leb d i) ≡ raised_index n d i
index_sum n d i = elim (dec_lt i d) [
  | yes l ↦ rw (lt-leb d i l, lt-ltb i d l) (omega arith)
  | no l ↦ rw (le-leb d i (omega arith), le-ltb i d (omega arith)) (omega arith)
]

-- Kinds 2 and 10 use their field a for an index: of a number, and of a kind by name.
abbrev index_bit : ℕ → ℕ
index_bit k = bool_byte (eqb k 2) + bool_byte (eqb k 10)

index_bit_lem : (k : ℕ) → index_bit k ≡ bool_byte (eqb (use_number (uses (kind_of k)).a) 1)
unfolding kind_of numbered listed
index_bit_lem k = elim (dec_lt k 15) [
  | yes l ↦ in_range (λ k. index_bit k ≡ bool_byte (eqb (use_number (uses (kind_of k)).a) 1)) 0 15 (omega arith) k (omega arith) l
  | no l ↦ rw (unknown_kind k (λ p q. omega arith), ne_eqb k 2 (λ e. omega arith), ne_eqb k 10 (λ e. omega arith)) refl
]

-- A kind by name has the bits of its number.
name_bits : (k : Kind) → bool_byte (sameb the_type k Variable) + bool_byte (sameb the_type k MatchVariable) ≡ index_bit (kind_number (kind_meant k))
name_bits Number = refl
name_bits Variable = refl
name_bits Function = refl
name_bits Application = refl
name_bits Fix = refl
name_bits Lift = refl
name_bits Quote = refl
name_bits Splice = refl
name_bits MatchNumber = refl
name_bits MatchVariable = refl
name_bits MatchApplication = refl
name_bits MatchLift = refl
name_bits MatchFunction = refl
name_bits MatchFix = refl

module _ (k : ℕ) where
  module _ (n : ℕ) where
    module _ (d a : ℕ) where
      field_sum : (b : Bool) → raised_index (n * bool_byte b) d a ≡ pick b (raised_index n d a) a
      field_sum true = ap (λ m. raised_index m d a) (omega arith)
      field_sum false = elim (dec_lt a d) [ yes l ↦ rw (lt-ltb a d l) | no l ↦ rw (le-ltb a d (omega arith)) (omega arith) ]

      pub field_raised : raised_index (n * index_bit k) d a ≡ moved_field (raised_index n d) (kind_of k) a
      unfolding moved_field
      field_raised = ap (λ x. raised_index (n * x) d a) (index_bit_lem k) ∙ field_sum (eqb (use_number (uses (kind_of k)).a) 1)

-- The same of a kind by name.
pub named_raised : (n d a : ℕ) (k : Kind) (x y : Bool) → x ≡ sameb the_type k Variable → y ≡ sameb the_type k MatchVariable → raised_index (n * (bool_byte x + bool_byte y)) d a ≡ moved_field (raised_index n d) (kind_meant k) a
named_raised n d a k x y p q = rw (p, q, name_bits k) (subst (λ m. raised_index (n * index_bit (kind_number (kind_meant k))) d a ≡ moved_field (raised_index n d) m a) (kind_back (kind_meant k)) (field_raised (kind_number (kind_meant k)) n d a))
