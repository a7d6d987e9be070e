-- Records that are written into slots one after another. Assumes nothing.
use Prim.Native.Nat.{ℕ, ◌+◌, ◌-◌, ◌*◌}
use native.Mathlib.Omega.{arith}
use mathlib.Core.Path.{◌≡◌, refl, sym, ap, subst, ◌∙◌}
use mathlib.Core.List.{List, [], ◌∷◌, ◌++◌}
use lib.ListN.{length, get_or, length-append}
use Rattle.rules.specs.Kinds.{child_count, kind_of}
use Rattle.rules.specs.Format.{Record as MeantRecord, no_record}
use Rattle.records.specs.declared.Record.{Record}
use Rattle.records.specs.Meant.{record_meant}
use Rattle.records.specs.View.{records_in, RecordPut}
use Rattle.records.proofs.Lists.{agree_beyond}
use Rattle.records.proofs.Puts.{record_put_after}
use Rattle.terms.specs.Preorder.{puts}
use Rattle.terms.proofs.Puts.{length_puts, puts_append}
use Rattle.writing.specs.Slots.{Filled, link_to, headed, Heads}

module _ (s : List ℕ) (k : ℕ) where
  pub filled_length : (vs : List MeantRecord) (s' : List ℕ) → Filled s k vs s' → length (records_in s') ≡ length (records_in s)
  filled_length vs s' p = ap length p.slots ∙ length_puts (records_in s) k vs

  -- One record.
  pub filled_one : (x : MeantRecord) (s' : List ℕ) → RecordPut s k x s' → Filled s k (x ∷ []) s'
  unfolding puts
  filled_one x s' p =
      let e : 16 * k + 16 ≡ 16 * (k + 1) = omega arith in
      record { slots = p.things; beyond = rw e at (record_put_after p) }

  -- Records after others.
  pub filled_then : (xs ys : List MeantRecord) (s₁ s₂ : List ℕ) → Filled s k xs s₁ → Filled s₁ (k + length xs) ys s₂ → Filled s k (xs ++ ys) s₂
  filled_then xs ys s₁ s₂ p q =
      let e : k + length xs + length ys ≡ k + length (xs ++ ys) = omega (arith, length-append xs ys) in
      record {
        slots = q.slots ∙ ap (λ l. puts l (k + length xs) ys) p.slots ∙ sym (puts_append (records_in s) k xs ys);
        beyond = rw e at (q.beyond ∙ agree_beyond (16 * (k + length xs)) (16 * (k + length xs + length ys)) s₁ s (omega arith) p.beyond);
      }

  -- No record.
  pub filled_none : Filled s k [] s
  unfolding puts
  filled_none = record { slots = refl; beyond = refl }

-- What is read, and written with other links, is what the contract of `write_head` says.
pub heads : (ws : List MeantRecord) (i : ℕ) (s : List ℕ) (n next : ℕ) (s' : List ℕ) (children first : ℕ) (r : Record)
    → RecordPut s (n - 1) (record { kind = r.kind; fields = (record_meant r).fields; first = first; next = next }) s'
    → record_meant r ≡ get_or ws i no_record → children ≡ child_count (kind_of r.kind) → first ≡ link_to children (n + 1) → Heads ws i s n next s' children
unfolding headed
heads ws i s n next s' children first r p e k f =
    let g : first ≡ link_to (child_count (kind_of r.kind)) (n + 1) = f ∙ ap (λ c. link_to c (n + 1)) k in
    record {
      put = subst (λ x. RecordPut s (n - 1) (headed x n next) s') e (subst (λ x. RecordPut s (n - 1) (record { kind = r.kind; fields = (record_meant r).fields; first = x; next = next }) s') g p);
      count = k ∙ ap (λ x. child_count (kind_of x.kind)) e;
    }
