-- The type table: "A type entry has 16-bit kind, a, b. Kind 1 is Nat (a = b = 0). Kind 2 is Fn(a,b), from a to b. Kind 3 is Code(a), with b = 0."
use Rattle.std.specs.Prelude.{ℕ, ◌<◌, List, ◌∷◌, ◌≡◌, get_or}

pub record Entry : Type 0 where
  pub kind : ℕ
  pub a : ℕ
  pub b : ℕ

abbrev pub Nat : Entry
Nat = record { kind = 1; a = 0; b = 0 }

abbrev pub Fn : ℕ → ℕ → Entry
Fn p q = record { kind = 2; a = p; b = q }

abbrev pub Code : ℕ → Entry
Code c = record { kind = 3; a = c; b = 0 }

abbrev pub Table : Type 0
Table = List Entry

-- Entry n, "counted from 1". Number 0 and a number past the table are no entries: what stands there has no kind.
abbrev pub no_entry : Entry
no_entry = record { kind = 0; a = 0; b = 0 }

abbrev pub entry : Table → ℕ → Entry
entry types n = get_or (no_entry ∷ types) n no_entry

-- "No entry is like an earlier one, so equal types have equal numbers": two numbers with the same entry, which has a kind, are one number.
abbrev pub NoTwins : Table → Type 0
NoTwins types = (m n : ℕ) (x : Entry) → 0 < x.kind → entry types m ≡ x → entry types n ≡ x → m ≡ n

-- The parts of type n: p and q of Fn(p,q), c of Code(c).
abbrev pub part_a : Table → ℕ → ℕ
part_a types n = (entry types n).a

abbrev pub part_b : Table → ℕ → ℕ
part_b types n = (entry types n).b
