-- A tree that is stored.
use Prim.Native.Nat.{ℕ, ◌+◌, ◌≤◌}
use native.Mathlib.Omega.{arith}
use mathlib.Core.Path.{◌≡◌, ap, ◌∙◌}
use mathlib.Core.List.{List}
use lib.ListN.{length}
use Rattle.rules.specs.Terms.{Term, size}
use Rattle.rules.specs.Format.{Record}
use Rattle.terms.specs.Preorder.{preorder, At, Stored}
use Rattle.terms.proofs.Trees.{length_preorder, puts_at}
use Rattle.terms.proofs.Puts.{length_puts}

pub stored_length : {rs rs' : List Record} {dst r : ℕ} {vs : List Record} → Stored rs rs' dst vs r → length rs' ≡ length rs
stored_length {rs} {rs'} {dst} {r} {vs} h = ap length h.records ∙ length_puts rs dst vs

-- A tree is there then, and the place after it is behind its records.
module _ {rs rs' : List Record} {dst r : ℕ} (t : Term) (h : Stored rs rs' dst (preorder t) r) where
  pub stored_end : r ≡ dst + size t
  stored_end = omega (arith, h.end, length_preorder t)

  pub stored_at : dst + size t ≤ length rs → At rs' dst t
  stored_at l = rw h.records (puts_at rs dst t l)
