-- `put_types`: the laws of its loop, which puts a type a turn, and the tree that is there then. `putting` for search.
use Prim.Native.Nat.{ℕ, zero, suc, ◌+◌, ◌≤◌, ◌<◌}
use native.Mathlib.Omega.{arith}
use native.Mathlib.Numerals.{add-one}
use mathlib.Core.List.{List, [], ◌∷◌, ◌++◌, append-nil}
use mathlib.Core.Path.{◌≡◌, refl, sym, ap, ap₂, ◌∙◌}
use lib.ListN.{length, get_or, set, take, drop, take-append-drop}
use lib.Seq.{take_all, take_at}
use Rattle.rules.specs.Terms.{Term}
use Rattle.rules.specs.Format.{Record as MeantRecord, no_record}
use Rattle.inference.specs.Inference.{retyped_record, cleared, types_of}
use Rattle.records.specs.declared.Record.{Record}
use Rattle.records.specs.Meant.{record_meant}
use Rattle.records.specs.View.{records_in, RecordPut}
use Rattle.terms.specs.Preorder.{preorder, At}
use Rattle.retyping.specs.Retyping.{with_types, PutsTypes}
use Rattle.retyping.proofs.Types.{types_append, as_many, preorder_typed}

length_with : (ts : List ℕ) (rs : List MeantRecord) → length (with_types ts rs) ≡ length rs
unfolding with_types
length_with [] rs = refl
length_with (n ∷ ts) [] = refl
length_with (n ∷ ts) (r ∷ rs) = ap suc (length_with ts rs)

-- One type more.
type_more : (ts : List ℕ) (rs : List MeantRecord) (i : ℕ) → i < length ts → i < length rs
    → set (with_types (take i ts) rs) i (retyped_record (get_or ts i 0) (get_or (with_types (take i ts) rs) i no_record)) ≡ with_types (take (suc i) ts) rs
unfolding with_types
type_more [] rs i p q = absurd (omega arith)
type_more (n ∷ ts) [] i p q = absurd (omega arith)
type_more (n ∷ ts) (r ∷ rs) zero p q = refl
type_more (n ∷ ts) (r ∷ rs) (suc i) p q = ap (◌∷◌ (retyped_record n r)) (type_more ts rs i (omega arith) (omega arith))

-- The first i of the types are put.
pub record Putting (rs : List MeantRecord) (ts : List ℕ) (rs' : List MeantRecord) (i : ℕ) : Type 0 where
  pub is : rs' ≡ with_types (take i ts) rs
  pub most : i ≤ length ts

module _ (rs : List MeantRecord) (ts : List ℕ) where
  pub put_starts : Putting rs ts rs 0
  unfolding with_types
  put_starts = record { is = refl; most = omega arith }

  module _ (rs' : List MeantRecord) (i : ℕ) (m : Putting rs ts rs' i) where
    same_long : length rs' ≡ length rs
    same_long = ap length m.is ∙ length_with (take i ts) rs

    pub put_within : i < length ts → length ts ≤ length rs → i < length rs'
    put_within l h = omega (arith, same_long)

    pub put_ends : length ts ≤ i → PutsTypes rs ts rs'
    put_ends l = record { is = m.is ∙ ap (λ x. with_types x rs) (take_all i ts l) }

pub put_goes_on : (s ts s' : List ℕ) (i : ℕ) → Putting (records_in s) ts (records_in s') i → i < length ts → length ts ≤ length (records_in s)
    → (r : Record) → record_meant r ≡ get_or (records_in s') i no_record
    → (s'' : List ℕ) → RecordPut s' i (record { kind = r.kind; fields = record { type = get_or ts i 0; a = r.a; b = r.b; value = r.value }; first = r.first; next = r.next }) s''
    → Putting (records_in s) ts (records_in s'') (i + 1)
put_goes_on s ts s' i m l h r e s'' p = record {
  is = p.things ∙ ap₂ (λ rs x. set rs i (retyped_record (get_or ts i 0) x)) m.is (e ∙ ap (λ rs. get_or rs i no_record) m.is)
      ∙ type_more ts (records_in s) i l (omega arith)
      ∙ ap (λ k. with_types (take k ts) (records_in s)) (sym (add-one i));
  most = omega arith;
}

pub ruleset putting = (put_starts, put_within, put_ends)

-- The tree is there then: the cleared tree stands at the front, and its types are put into it.
pub typed_at : (t : Term) (rs rs' : List MeantRecord) → At rs 0 (cleared t) → PutsTypes rs (types_of t) rs' → At rs' 0 t
unfolding with_types
typed_at t rs rs' h p =
    let xs = preorder (cleared t) in
    let n = length xs in
    let e : n ≡ length (preorder t) = sym (length_with (types_of t) xs) ∙ ap length (preorder_typed t) in
    let front : take n rs ≡ xs = h.there.is in
    let split : rs ≡ xs ++ drop n rs = sym (take-append-drop n rs) ∙ ap (λ x. x ++ drop n rs) front in
    let put : rs' ≡ preorder t ++ drop n rs =
    p.is ∙ ap₂ with_types (sym (append-nil (types_of t))) split ∙ types_append (types_of t) [] xs (drop n rs) (as_many t) ∙ ap (λ x. x ++ drop n rs) (preorder_typed t) in
    record {
      there = record {
        within = omega (arith, e, h.there.within, ap length p.is ∙ length_with (types_of t) rs);
        is = ap (take (length (preorder t))) put ∙ take_at (preorder t) (drop n rs) (length (preorder t)) refl;
      };
    }
