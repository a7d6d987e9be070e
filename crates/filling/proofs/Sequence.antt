-- What the inference of a record comes to by those of its three children, one after another.
use Prim.Native.Nat.{ℕ, ◌≤◌}
use mathlib.Core.Path.{◌≡◌, refl, ◌∙◌}
use mathlib.Core.List.{List, ◌++◌}
use lib.ListN.{length}
use Rattle.std.specs.Prelude.{Err}
use Rattle.rules.specs.Terms.{Term, type_of}
use Rattle.rules.specs.Types.{Table}
use Rattle.rules.specs.Binders.{over_first, over_second}
use Rattle.rules.specs.Typing.{Env, under, first_level}
use Rattle.rules.specs.Format.{Record}
use Rattle.rules.specs.Links.{first_of}
use Rattle.inference.specs.Inference.{Inference, filled, ◌and_then◌, assigned, inferred_from}
use Rattle.inference.proofs.Generations.{inferred_node}
use Rattle.refusals.specs.declared.reasons.Refusal.{Refusal}
use Rattle.refusals.specs.Reports.{Reports}
use Rattle.typing.specs.Reading.{second_of, third_of, kind_no, fields_no}
use Rattle.filling.specs.declared.Filler.{Filler}
use Rattle.filling.specs.Filling.{fault_of, firsts, types_at, table_of}
use Rattle.filling.proofs.FaultLaws.{fault_stays}

-- The inference of child m of a record, at level k under Γ, from a table on.
abbrev pub child_from : List Record → Env → ℕ → ℕ → Table → Inference
child_from rs Γ k m A = inferred_from (length rs) A rs Γ k m

-- The binders over the first and over the second child of record n, which stands at level l under Γ.
abbrev pub first_env : List Record → Env → ℕ → ℕ → Env
first_env rs Γ l n = under l (over_first (kind_no rs n) (fields_no rs n)) Γ

abbrev pub second_env : List Record → Env → ℕ → Env
second_env rs Γ n = under 0 (over_second (kind_no rs n) (fields_no rs n)) Γ

-- The inference of a child comes to a term from f to g: y is the type of its root, and its types stand after those that stood before.
pub record Went (rs : List Record) (Γ : Env) (k m : ℕ) (f g : Filler) (y : ℕ) : Type 0 where
  pub term : Term
  pub is : child_from rs Γ k m (table_of f) ≡ filled (table_of g) term
  pub type : y ≡ type_of term
  pub types : firsts g.given.now g.left ≡ firsts f.given.now f.left ++ types_at m term

-- The three children of record n, which stands at level l under Γ.
module _ (rs : List Record) (Γ : Env) (l n : ℕ) where
  abbrev pub First : Filler → Filler → ℕ → Type 0
  First f g x = Went rs (first_env rs Γ l n) (first_level (kind_no rs n) l) (first_of rs n) f g x

  abbrev pub Second : Filler → Filler → ℕ → Type 0
  Second g h y = Went rs (second_env rs Γ n) l (second_of rs n) g h y

  abbrev pub Third : Filler → Filler → ℕ → Type 0
  Third h i z = Went rs Γ l (third_of rs n) h i z

  module _ (real : 1 ≤ n) (within : n ≤ length rs) (f : Filler) where
    abbrev Whole : Inference
    Whole = inferred_from (length rs) (table_of f) rs Γ l n

    abbrev Own : Table → Term → Term → Term → Inference
    Own A c s e = assigned A Γ l (kind_no rs n) (fields_no rs n) n c s e

    whole : Whole
        ≡ (child_from rs (first_env rs Γ l n) (first_level (kind_no rs n) l) (first_of rs n) (table_of f) and_then λ A₁ c.
        child_from rs (second_env rs Γ n) l (second_of rs n) A₁ and_then λ A₂ s.
        child_from rs Γ l (third_of rs n) A₂ and_then λ A₃ e. Own A₃ c s e)
    whole = inferred_node rs n (table_of f) Γ l real within

    -- The first fault is the record's.
    pub stopped_first : (r : Refusal) → Reports {X = ℕ} (Err r) (fault_of (child_from rs (first_env rs Γ l n) (first_level (kind_no rs n) l) (first_of rs n) (table_of f)))
        → Reports {X = ℕ} (Err r) (fault_of Whole)
    stopped_first r t = rw whole (fault_stays _ _ _ t)

    module _ {g : Filler} {x : ℕ} (first : First f g x) where
      pub stopped_second : (r : Refusal) → Reports {X = ℕ} (Err r) (fault_of (child_from rs (second_env rs Γ n) l (second_of rs n) (table_of g)))
          → Reports {X = ℕ} (Err r) (fault_of Whole)
      unfolding ◌and_then◌
      stopped_second r t = rw (whole, first.is) (fault_stays _ _ _ t)

      module _ {h : Filler} {y : ℕ} (second : Second g h y) where
        pub stopped_third : (r : Refusal) → Reports {X = ℕ} (Err r) (fault_of (child_from rs Γ l (third_of rs n) (table_of h))) → Reports {X = ℕ} (Err r) (fault_of Whole)
        unfolding ◌and_then◌
        stopped_third r t = rw (whole, first.is, second.is) (fault_stays _ _ _ t)

        -- Where none is faulty the record itself is next.
        pub all_three : {i : Filler} {z : ℕ} (third : Third h i z) → Whole ≡ Own (table_of i) first.term second.term third.term
        unfolding ◌and_then◌
        all_three third = whole ∙ rw first.is (rw second.is (rw third.is refl))
