-- Types in order of use, in full: none twice, each after its parts, and only what is needed. The table of such a list keeps rule 6, and its types
-- are those of the list.
use Prim.Native.Nat.{ℕ, ◌+◌, ◌≤◌, ◌<◌}
use native.Mathlib.Omega.{arith}
use native.Mathlib.Decide.{dec_lt}
use mathlib.Core.Bool.{not}
use mathlib.Core.List.{List, [], ◌∷◌}
use mathlib.Core.Logic.{◌⊎◌, inl, inr}
use mathlib.Core.Path.{◌≡◌, refl}
use lib.Dec.{T, T_not, eqb, eqb→eq}
use Rattle.rules.specs.Lists.{All}
use Rattle.order.specs.Lists.{Any}
use Rattle.rules.proofs.General.{tested}
use Rattle.inference.specs.FullTypes.{Full, nat, fn, code, cut, Whole}
use Rattle.order.specs.FullTypes.{PartOf, itself, in_argument, in_result, in_code}
use Rattle.order.specs.OrderInFull.{In, Parts, Listed, full_equality, full_number, need_full, need_all_full}
use Rattle.order.proofs.Numbers.{decide, Kept, number_here, number_other, kept_new, kept_kept, kept_has}

abbrev pub Keeps : List Full → List Full → Type 0
Keeps = Kept full_equality

weight : Full → ℕ
weight nat = 1
weight (fn f g) = 1 + weight f + weight g
weight (code f) = 1 + weight f
weight cut = 1

part_weight : {x f : Full} → PartOf x f → weight x ≤ weight f
unfolding weight
part_weight itself = omega arith
part_weight (in_argument p) = omega (arith, part_weight p)
part_weight (in_result p) = omega (arith, part_weight p)
part_weight (in_code p) = omega (arith, part_weight p)

-- Only parts are numbered.
here_or : (x f : Full) (fs : List Full) {P : Type 0} → In (f ∷ fs) x → (x ≡ f → P) → (In fs x → P) → P
here_or x f fs h p q = elim (decide full_equality x f) [ yes e ↦ p e | no e ↦ q (omega (arith, number_other full_equality x f fs e)) ]

pub only_parts : (f : Full) (fs : List Full) (x : Full) → In (need_full f fs) x → In fs x ⊎ PartOf x f
unfolding need_full
only_parts nat fs x = tested (λ gs. In gs x → In fs x ⊎ PartOf x nat) (eqb (full_number fs nat) 0) _ _
    (λ _ h. here_or x nat fs h (λ e. rw e (inr itself)) inl) (λ _. inl)
only_parts (fn f g) fs x = tested (λ gs. In gs x → In fs x ⊎ PartOf x (fn f g)) (eqb (full_number fs (fn f g)) 0) _ _
    (λ _ h. here_or x (fn f g) (need_full g (need_full f fs)) h (λ e. rw e (inr itself)) (λ i. elim (only_parts g (need_full f fs) x i) [
      | inl j ↦ elim (only_parts f fs x j) [ inl k ↦ inl k | inr k ↦ inr (in_argument k) ]
      | inr j ↦ inr (in_result j)
    ])) (λ _. inl)
only_parts (code f) fs x = tested (λ gs. In gs x → In fs x ⊎ PartOf x (code f)) (eqb (full_number fs (code f)) 0) _ _
    (λ _ h. here_or x (code f) (need_full f fs) h (λ e. rw e (inr itself)) (λ i. elim (only_parts f fs x i) [ inl k ↦ inl k | inr k ↦ inr (in_code k) ])) (λ _. inl)
only_parts cut fs x = inl

-- So the whole is not numbered with its parts.
fresh : (x f : Full) (fs : List Full) → weight f < weight x → full_number fs x ≡ 0 → full_number (need_full f fs) x ≡ 0
fresh x f fs l e = elim (dec_lt 0 (full_number (need_full f fs) x)) [
  | yes h ↦ elim (only_parts f fs x h) [ inl k ↦ absurd (omega arith) | inr k ↦ absurd (omega (arith, part_weight k)) ]
  | no h ↦ omega arith
]

-- What a need makes of a list.
pub record Grows (fs gs : List Full) (f : Full) : Type 0 where
  pub listed : Listed gs
  pub kept : Keeps fs gs
  pub numbered : In gs f

grows_here : (f : Full) (fs gs : List Full) → Keeps fs gs → Listed gs → Parts gs f → full_number gs f ≡ 0 → Grows fs (f ∷ gs) f
grows_here f fs gs k l p n = record {
  listed = (n, p, l);
  kept = kept_kept full_equality fs gs (f ∷ gs) k (kept_new full_equality f gs n);
  numbered = omega (arith, number_here full_equality f f gs refl);
}

grown_already : (f : Full) (fs : List Full) → Listed fs → T (not (eqb (full_number fs f) 0)) → Grows fs fs f
grown_already f fs l n = record { listed = l; kept = λ _ _. refl; numbered = elim (dec_lt 0 (full_number fs f)) [ yes h ↦ h | no h ↦ absurd (T_not (eqb (full_number fs f) 0) n (let z : full_number fs f ≡ 0 = omega arith in rw z tt)) ] }

pub grows : (f : Full) (fs : List Full) → Whole f → Listed fs → Grows fs (need_full f fs) f
unfolding need_full weight Whole
grows nat fs w l = tested (λ gs. Grows fs gs nat) (eqb (full_number fs nat) 0) _ _
    (λ t. grows_here nat fs fs (λ _ _. refl) l tt (eqb→eq _ _ t)) (grown_already nat fs l)
grows (fn f g) fs (v, w) l = tested (λ gs. Grows fs gs (fn f g)) (eqb (full_number fs (fn f g)) 0) _ _
    (λ t. let F = need_full f fs in
    let a = grows f fs v l in
    let b = grows g F w a.listed in
    grows_here (fn f g) fs (need_full g F) (kept_kept full_equality fs F (need_full g F) a.kept b.kept) b.listed
    (kept_has full_equality F (need_full g F) f b.kept a.numbered, b.numbered)
    (fresh (fn f g) g F (omega arith) (fresh (fn f g) f fs (omega arith) (eqb→eq _ _ t)))) (grown_already (fn f g) fs l)
grows (code f) fs w l = tested (λ gs. Grows fs gs (code f)) (eqb (full_number fs (code f)) 0) _ _
    (λ t. let a = grows f fs w l in
    grows_here (code f) fs (need_full f fs) a.kept a.listed a.numbered (fresh (code f) f fs (omega arith) (eqb→eq _ _ t))) (grown_already (code f) fs l)
grows cut fs w l = absurd w

-- The same for a list of needs.
pub record GrowsAll (fs gs xs : List Full) : Type 0 where
  pub listed : Listed gs
  pub kept : Keeps fs gs
  pub numbered : All (In gs) xs

pub grows_all : (xs fs : List Full) → All Whole xs → Listed fs → GrowsAll fs (need_all_full xs fs) xs
unfolding need_all_full
grows_all [] fs w l = record { listed = l; kept = λ _ _. refl; numbered = tt }
grows_all (x ∷ xs) fs (v, w) l =
    let a = grows x fs v l in
    let b = grows_all xs (need_full x fs) w a.listed in
    record {
      listed = b.listed;
      kept = kept_kept full_equality fs (need_full x fs) (need_all_full xs (need_full x fs)) a.kept b.kept;
      numbered = (kept_has full_equality (need_full x fs) (need_all_full xs (need_full x fs)) x b.kept a.numbered, b.numbered);
    }

pub only_needed : (xs fs : List Full) (x : Full) → In (need_all_full xs fs) x → In fs x ⊎ Any (PartOf x) xs
unfolding need_all_full
only_needed [] fs x h = inl h
only_needed (y ∷ ys) fs x h = elim (only_needed ys (need_full y fs) x h) [
  | inl i ↦ elim (only_parts y fs x i) [ inl j ↦ inl j | inr j ↦ inr (inl j) ]
  | inr i ↦ inr (inr i)
]
