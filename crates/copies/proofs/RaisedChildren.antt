-- `copy_raised`: the root of a tree is copied. Where it binds nothing its children are left to the loop; a child over which it binds, and one before
-- that, is copied by a call.
use Prim.Native.Nat.{ℕ, zero, suc, ◌+◌, ◌-◌, ◌/◌, ◌^◌, ◌≤◌, ◌<◌}
use native.Mathlib.Omega.{arith}
use mathlib.Core.List.{List, [], ◌∷◌}
use mathlib.Core.Logic.{◌≢◌}
use mathlib.Core.Path.{◌≡◌, refl, sym, ap}
use lib.ListN.{length}
use mir.Syntax.{w64}
use mir.Val.{Fits}
use Rattle.rules.specs.Kinds.{Kind, child_count, kind_of}
use Rattle.rules.specs.Terms.{Term}
use Rattle.rules.specs.Binders.{binders_first, binders_second}
use Rattle.rules.specs.Format.{Record}
use Rattle.rules.proofs.KindTable.{each_kind}
use Rattle.records.specs.View.{records_in}
use Rattle.records.proofs.Records.{records_length}
use Rattle.terms.specs.Preorder.{HasTree}
use Rattle.terms.specs.Measuring.{binders_over}
use Rattle.terms.proofs.Trees.{at_within, first_tree}
use Rattle.terms.proofs.Joined.{over_others, binds_few}
use Rattle.copies.specs.Copying.{TreeSize}
use Rattle.copies.specs.Raising.{RaisingAt, CanRaise, Raises, RaisesRoot}
use Rattle.copies.proofs.RaisedRows.{Uncopied, Remaining, NextTree, Pending, first_left, first_raises, first_copied, Overs}
use Rattle.copies.proofs.RaisedCopies.{raise_in, turn_opened, TreeRead, read_fits}

-- The children of a root that binds, one after another.
module _ (rs₀ : List Record) (src dst n d : ℕ) (rs : List Record) (i e : ℕ) (es : List ℕ) (p : Pending rs₀ src dst n d rs i (e ∷ es)) where
  opened_next : (t : Term) (h : RaisingAt rs₀ src dst n d t) → NextTree rs₀ src dst n d rs i (e ∷ es) t
  opened_next t h = some_tree (p.all t h).trees (p.all t h).left
    where
      some_tree : (vs : List Term) → Uncopied rs₀ src dst n d rs i (e ∷ es) t vs → NextTree rs₀ src dst n d rs i (e ∷ es) t
      some_tree [] r = absurd (omega (arith, r.enough))
      some_tree (v ∷ vs) r = record { first = v; later = vs; left = r }

  opened_tree : HasTree rs (src + i)
  opened_tree = let x = opened_next p.tree p.raises in record { tree = x.first; there = first_tree rs (src + i) x.first x.later x.left.there }

  module _ (q : 0 < i) (u : e ≤ d + 2) where
    opened_raises : (t : Term) (h : RaisingAt rs₀ src dst n d t) → RaisingAt rs (src + i) (dst + i) n e (opened_next t h).first
    opened_raises t h =
        let x = opened_next t h in
        first_raises rs₀ src dst n d t h rs i (e ∷ es) x.first x.later x.left (omega (arith, first_left rs₀ src dst n d t h rs i (e ∷ es) x.first x.later x.left))

    opened_can : CanRaise rs (src + i) (dst + i) n e
    opened_can = record { tree = (opened_next p.tree p.raises).first; raises = opened_raises p.tree p.raises }

    module _ (z : ℕ) (m : TreeSize rs (src + i) z) where
      opened_copied : (rs' : List Record) → Raises rs rs' (src + i) (dst + i) n e → Pending rs₀ src dst n d rs' (i + z) es
      opened_copied rs' w = record { all = λ t h. copied t h (opened_next t h) (opened_raises t h); tree = p.tree; raises = p.raises }
        where
          copied : (t : Term) (h : RaisingAt rs₀ src dst n d t) (x : NextTree rs₀ src dst n d rs i (e ∷ es) t) → RaisingAt rs (src + i) (dst + i) n e x.first → Remaining rs₀ src dst n d rs' (i + z) es t
          copied t h x g = record {
            trees = x.later;
            left = first_copied rs₀ src dst n d t h rs i (e ∷ es) x.first x.later x.left rs' (w.does x.first g) (i + z) (ap (λ y. i + y) (m.is x.first g.there));
          }

      -- No more is copied than there is.
      opened_within : (src + (i + z) ≤ length rs₀) × (dst + (i + z) ≤ length rs₀)
      opened_within =
          let x = opened_next p.tree p.raises in
          let y = first_left rs₀ src dst n d p.tree p.raises rs i (e ∷ es) x.first x.later x.left in
          let o = m.is x.first (opened_raises p.tree p.raises).there in
          (omega (arith, at_within rs₀ src p.tree p.raises.there), omega (arith, p.raises.room))

-- A kind that binds over its first child has no other, and one that binds over its second has three.
first_alone : (k : Kind) → binders_first k ≡ 1 → (child_count k ≡ 1) × (binders_second k ≡ 0)
first_alone = each_kind (λ k. binders_first k ≡ 1 → (child_count k ≡ 1) × (binders_second k ≡ 0)) (omega arith)

second_of_three : (k : Kind) → binders_second k ≢ 0 → (child_count k ≡ 3) × (binders_first k ≡ 0)
second_of_three = each_kind (λ k. binders_second k ≢ 0 → (child_count k ≡ 3) × (binders_first k ≡ 0)) (omega arith)

first_none : (k : Kind) → binders_first k ≢ 1 → binders_first k ≡ 0
first_none = each_kind (λ k. binders_first k ≢ 1 → binders_first k ≡ 0) (omega arith)

-- What is known once the root of a tree with a free index, of kind k, is copied: of the bytes s₀ at the start, s at this turn and s₁ now.
pub record RootCopied (q : ℕ) (s₀ s s₁ : List ℕ) (src dst n d all i : ℕ) (r : Record) (k : Kind) : Type 0 where
  pub measure : length (records_in s₀) - src ≡ q
  pub tree : TreeRead s₀ s src dst n d all i r
  pub free : d < r.next / 2
  pub root : RaisesRoot (records_in s) (records_in s₁) (src + i) (dst + i) n d
  pub same : length s₁ ≡ length s₀
  pub known : k ≡ kind_of r.kind

module _ {q : ℕ} {s₀ s s₁ : List ℕ} {src dst n d all i : ℕ} {r : Record} {k : Kind} (o : RootCopied q s₀ s s₁ src dst n d all i r k) where
  abbrev Opened : List ℕ → ℕ → List ℕ → Type 0
  Opened s j fs = Pending (records_in s₀) src dst n d (records_in s) j fs

  opens : (fs : List ℕ) → length fs ≤ child_count k → Overs d k 0 fs → Opened s₁ (i + 1) fs
  opens = turn_opened (records_in s₀) src dst n d all o.tree.whole (records_in s) i o.tree.row o.tree.going (records_in s₁) r o.tree.read k o.known o.root o.free

  pub flat_opened : binders_first k ≢ 1 → binders_second k ≡ 0 → Opened s₁ (i + 1) []
  flat_opened u v = opens [] (omega arith) over
    where
      over : (j : ℕ) → 0 ≤ j → binders_over k j ≡ 0
      over zero _ = first_none k u
      over (suc zero) _ = v
      over (suc (suc j)) _ = refl

  pub next_from_fits : Fits w64 (src + (i + 1))
  next_from_fits = omega (arith, read_fits o.tree, o.tree.going)

  pub next_to_fits : Fits w64 (dst + (i + 1))
  next_to_fits = omega (arith, read_fits o.tree, o.tree.going)

  falls : (s' : List ℕ) (a b e : ℕ) → length s' ≡ length s₀ → src < a → CanRaise (records_in s') a b n e → length (records_in s') - a < q
  falls s' a b e m l h = omega (arith, raise_in (records_in s') a b n e h, o.measure, records_length s₀, records_length s')

  -- A function: over its child there is one variable more.
  module _ (b : binders_first k ≡ 1) where
    function_opened : Opened s₁ (i + 1) ((d + 1) ∷ [])
    function_opened = let h = first_alone k b in opens ((d + 1) ∷ []) (omega arith) (omega arith, over h.1)
      where
        over : binders_second k ≡ 0 → (j : ℕ) → 1 ≤ j → binders_over k j ≡ 0
        over e zero l = absurd (omega arith)
        over e (suc zero) l = e
        over e (suc (suc j)) l = refl

    pub function_tree : HasTree (records_in s₁) (src + (i + 1))
    function_tree = opened_tree (records_in s₀) src dst n d (records_in s₁) (i + 1) (d + 1) [] function_opened

    pub function_can : CanRaise (records_in s₁) (src + (i + 1)) (dst + (i + 1)) n (d + 1)
    function_can = opened_can (records_in s₀) src dst n d (records_in s₁) (i + 1) (d + 1) [] function_opened (omega arith) (omega arith)

    pub function_falls : length (records_in s₁) - (src + (i + 1)) < q
    function_falls = falls s₁ _ _ _ o.same (omega arith) function_can

    module _ (z : ℕ) (t : TreeSize (records_in s₁) (src + (i + 1)) z) where
      pub function_fits : Fits w64 (i + 1 + z)
      function_fits = omega (arith, opened_within (records_in s₀) src dst n d (records_in s₁) (i + 1) (d + 1) [] function_opened (omega arith) (omega arith) z t, o.tree.short, records_length s₀)

      pub function_copied : (s' : List ℕ) → Raises (records_in s₁) (records_in s') (src + (i + 1)) (dst + (i + 1)) n (d + 1) → Opened s' (i + 1 + z) []
      function_copied s' = opened_copied (records_in s₀) src dst n d (records_in s₁) (i + 1) (d + 1) [] function_opened (omega arith) (omega arith) z t (records_in s')

  -- A match that binds: its code stands under no more variables.
  module _ (b : binders_second k ≢ 0) where
    match_opened : Opened s₁ (i + 1) (d ∷ (d + binders_second k) ∷ [])
    match_opened =
        let h = second_of_three k b in
        opens (d ∷ (d + binders_second k) ∷ []) (omega arith) (omega arith, (refl, (λ j l. over_others k j (λ e. omega arith) (λ e. omega arith))))

    pub code_tree : HasTree (records_in s₁) (src + (i + 1))
    code_tree = opened_tree (records_in s₀) src dst n d (records_in s₁) (i + 1) d _ match_opened

    pub code_can : CanRaise (records_in s₁) (src + (i + 1)) (dst + (i + 1)) n d
    code_can = opened_can (records_in s₀) src dst n d (records_in s₁) (i + 1) d _ match_opened (omega arith) (omega arith)

    pub code_falls : length (records_in s₁) - (src + (i + 1)) < q
    code_falls = falls s₁ _ _ _ o.same (omega arith) code_can

-- What is known once the code of a match that binds is copied too: of the bytes s₂ now.
pub record CodeCopied (q : ℕ) (s₀ s s₁ s₂ : List ℕ) (src dst n d all i : ℕ) (r : Record) (k : Kind) (z : ℕ) : Type 0 where
  pub match : RootCopied q s₀ s s₁ src dst n d all i r k
  pub binds : binders_second k ≢ 0
  pub size : TreeSize (records_in s₁) (src + (i + 1)) z
  pub copy : Raises (records_in s₁) (records_in s₂) (src + (i + 1)) (dst + (i + 1)) n d
  pub same : length s₂ ≡ length s₀

-- Its success is the next tree. What the code computes of the binders over it is an equation.
module _ {q : ℕ} {s₀ s s₁ s₂ : List ℕ} {src dst n d all i : ℕ} {r : Record} {k : Kind} {z : ℕ} (o : CodeCopied q s₀ s s₁ s₂ src dst n d all i r k z) where
  code_opened : Pending (records_in s₀) src dst n d (records_in s₁) (i + 1) (d ∷ (d + binders_second k) ∷ [])
  code_opened = match_opened o.match o.binds

  code_copied : Pending (records_in s₀) src dst n d (records_in s₂) (i + 1 + z) ((d + binders_second k) ∷ [])
  code_copied = opened_copied (records_in s₀) src dst n d (records_in s₁) (i + 1) d _ code_opened (omega arith) (omega arith) z o.size (records_in s₂) o.copy

  code_within : (src + (i + 1 + z) < 2 ^ 64) × (dst + (i + 1 + z) < 2 ^ 64)
  code_within =
      let w = opened_within (records_in s₀) src dst n d (records_in s₁) (i + 1) d _ code_opened (omega arith) (omega arith) z o.size in
      (omega (arith, o.match.tree.short, records_length s₀), omega (arith, o.match.tree.short, records_length s₀))

  pub code_fits : Fits w64 (i + 1 + z)
  code_fits = omega (arith, code_within)

  pub success_from_fits : Fits w64 (src + (i + 1 + z))
  success_from_fits = omega (arith, code_within)

  pub success_to_fits : Fits w64 (dst + (i + 1 + z))
  success_to_fits = omega (arith, code_within)

  pub success_tree : HasTree (records_in s₂) (src + (i + 1 + z))
  success_tree = opened_tree (records_in s₀) src dst n d (records_in s₂) (i + 1 + z) _ [] code_copied

  module _ (x : ℕ) (y : x ≡ binders_second k) where
    success_opened : Pending (records_in s₀) src dst n d (records_in s₂) (i + 1 + z) ((d + x) ∷ [])
    success_opened = rw (sym y) at code_copied

    few : d + x ≤ d + 2
    few = omega (arith, binds_few k 1)

    pub success_can : CanRaise (records_in s₂) (src + (i + 1 + z)) (dst + (i + 1 + z)) n (d + x)
    success_can = opened_can (records_in s₀) src dst n d (records_in s₂) (i + 1 + z) (d + x) [] success_opened (omega arith) few

    pub success_falls : length (records_in s₂) - (src + (i + 1 + z)) < q
    success_falls = falls o.match s₂ _ _ _ o.same (omega arith) success_can

    module _ (z' : ℕ) (t : TreeSize (records_in s₂) (src + (i + 1 + z)) z') where
      pub success_fits : Fits w64 (i + 1 + z + z')
      success_fits = omega (arith, opened_within (records_in s₀) src dst n d (records_in s₂) (i + 1 + z) (d + x) [] success_opened (omega arith) few z' t, o.match.tree.short, records_length s₀)

      pub success_copied : (s' : List ℕ) → Raises (records_in s₂) (records_in s') (src + (i + 1 + z)) (dst + (i + 1 + z)) n (d + x) → Pending (records_in s₀) src dst n d (records_in s') (i + 1 + z + z') []
      success_copied s' = opened_copied (records_in s₀) src dst n d (records_in s₂) (i + 1 + z) (d + x) [] success_opened (omega arith) few z' t (records_in s')
