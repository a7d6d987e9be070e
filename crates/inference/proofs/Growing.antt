-- A table that grows by the entries it lacks keeps rule 6.
use Prim.Native.Nat.{ℕ, zero, suc, ◌+◌, ◌-◌, ◌≤◌, ◌<◌}
use native.Mathlib.Omega.{arith}
use native.Mathlib.Decide.{dec_lt}
use mathlib.Core.List.{[], ◌∷◌, ◌++◌, append_assoc, append-nil}
use mathlib.Core.Bool.{Bool, true, false}
use mathlib.Core.Logic.{◌⊎◌, inl, inr}
use mathlib.Core.Path.{◌≡◌, refl, ap, ap₂, sym, ◌∙◌}
use lib.Dec.{T, eqb, eqb→eq}
use lib.ListN.{length, get_or, length-append, get_or-append, get_or-eq_default}
use lib.Seq.{get_or-append_seam}
use Rattle.rules.specs.Lists.{pick}
use Rattle.rules.specs.Types.{Entry, Table, entry, no_entry, Nat, Fn, Code, part_a, part_b}
use Rattle.rules.specs.Conditions.{Met, between, same, same_entry, Holds}
use Rattle.rules.specs.FieldUses.{is_entry}
use Rattle.rules.specs.Check.{kind_rule, entry_rule}
use Rattle.inference.specs.Inference.{Begins, having, before}
use Rattle.rules.proofs.General.{is_false, picked}
use Rattle.rules.proofs.Tests.{meets, passes}
use Rattle.rules.proofs.Sums.{total_ext, total_none}

pub begins_itself : (A : Table) → Begins A A
begins_itself A = record { more = []; whole = sym (append-nil A) }

pub begins_then : {A B C : Table} → Begins A B → Begins B C → Begins A C
begins_then {A} p q = record { more = p.more ++ q.more; whole = q.whole ∙ ap (λ t. t ++ q.more) p.whole ∙ append_assoc A p.more q.more }

pub longer : {A B : Table} → Begins A B → length A ≤ length B
longer {A} p = omega (arith, ap length p.whole, length-append A p.more)

pub same_entry_lem : {A B : Table} → Begins A B → (n : ℕ) → n ≤ length A → entry B n ≡ entry A n
same_entry_lem p zero h = refl
same_entry_lem {A} p (suc n) h = ap (λ t. get_or t n no_entry) p.whole ∙ get_or-append A p.more no_entry n (omega arith)

pub past : (A : Table) (n : ℕ) → length A < n → entry A n ≡ no_entry
past A zero h = absurd (omega arith)
past A (suc n) h = let le : length A ≤ n = omega arith in get_or-eq_default A no_entry le

-- Entry x is had, or appended.
abbrev pub Missing : Table → Entry → Type 0
Missing A x = (n : ℕ) → n < length A → get_or A n no_entry ≡ x → ⊥

abbrev pub Had : Table → Entry → Table → ℕ → Type 0
Had A x B n = ((B ≡ A) × (get_or A n no_entry ≡ x)) ⊎ ((B ≡ A ++ (x ∷ [])) × (n ≡ length A) × Missing A x)

pub had : (A : Table) (x : Entry) → Had A x (having A x) (before A x)
unfolding having before
had [] x = inr (refl, refl, λ n h e. omega arith)
had (y ∷ ys) x = go (same_entry y x) (meets (same y x)) (passes (same y x)) (had ys x)
  where
    go : (b : Bool) → (T b → y ≡ x) → (y ≡ x → T b) → Had ys x (having ys x) (before ys x)
        → Had (y ∷ ys) x (pick b (y ∷ ys) (y ∷ having ys x)) (pick b 0 (suc (before ys x)))
    go true p q h = inl (refl, p tt)
    go false p q (inl (e, d)) = inl (ap (λ t. y ∷ t) e, d)
    go false p q (inr (e, d, m)) = inr (ap (λ t. y ∷ t) e, ap suc d, missing m)
      where
        missing : Missing ys x → Missing (y ∷ ys) x
        missing m zero i e = q e
        missing m (suc n) i e = m n (omega arith) e

-- Rule 6
abbrev pub Entries : Table → Type 0
Entries A = (n : ℕ) → 1 ≤ n → n < 1 + length A → Holds (entry_rule A n)

pub appended : (A : Table) (x : Entry) → Entries A → Missing A x → Holds (kind_rule (suc (length A)) x) → Entries (A ++ (x ∷ []))
appended A x good missing k n lo hi =
    let B = A ++ (x ∷ []) in
    let b : Begins A B = record { more = x ∷ []; whole = refl } in
    let len = length-append A (x ∷ []) in
    elim (dec_lt n (1 + length A)) [
      | yes h ↦
          let e = same_entry_lem b n (omega arith) in (
            total_ext _ _ 1 (n - 1) (λ m i j. ap₂ (λ y z. pick {A = ℕ} (same_entry y z) 1 0) (same_entry_lem b m (omega arith)) e) ∙ (good n lo h).0,
            rw e (good n lo h).1,
          )
      | no h ↦
          let d : n ≡ suc (length A) = omega arith in
          let e : entry B (suc (length A)) ≡ x = get_or-append_seam A x [] no_entry in
          rw d (
            total_ext _ (λ _. 0) 1 (suc (length A) - 1) (λ m i j. unlike b e m i (omega arith)) ∙ total_none _ 1 (suc (length A) - 1) (λ m i. refl),
            rw e k,
          )
    ]
  where
    unlike : Begins A (A ++ (x ∷ [])) → entry (A ++ (x ∷ [])) (suc (length A)) ≡ x → (m : ℕ) → 1 ≤ m → m ≤ length A
        → pick {A = ℕ} (same_entry (entry (A ++ (x ∷ [])) m) (entry (A ++ (x ∷ [])) (suc (length A)))) 1 0 ≡ 0
    unlike b e zero i j = absurd (omega arith)
    unlike b e (suc m) i j =
        let y = entry (A ++ (x ∷ [])) (suc m) in
        let z = entry (A ++ (x ∷ [])) (suc (length A)) in
        ap (λ c. pick {A = ℕ} c 1 0) (is_false (same_entry y z) (λ t. missing m (omega arith) (sym (same_entry_lem b (suc m) (omega arith)) ∙ meets (same y z) t ∙ e)))

-- What rule 6 says of entry n.
abbrev pub Cases : ℕ → Entry → Type 0
Cases n x = (x ≡ Nat) ⊎ ((x.kind ≡ 2) × Met (between 1 x.a (n - 1)) × Met (between 1 x.b (n - 1))) ⊎ ((x.kind ≡ 3) × Met (between 1 x.a (n - 1)) × (x.b ≡ 0))

pub cases : (n : ℕ) (x : Entry) → Holds (kind_rule n x) → Cases n x
cases n x = picked (λ r. Holds r → Cases n x) (eqb x.kind 1)
    (λ t h. inl h.0)
    (λ t. picked (λ r. Holds r → Cases n x) (eqb x.kind 2) (λ t h. inr (inl (eqb→eq x.kind 2 t, h.0, h.1.0))) (λ t h. inr (inr (h.0, h.1.0, h.1.1.0))))

-- An entry that may follow a table of n entries.
pub follows : (n : ℕ) (x : Entry) → Holds (kind_rule (suc n) x) → (0 < x.kind) × (x.a ≤ n) × (x.b ≤ n)
follows n x h = go (cases (suc n) x h)
  where
    go : Cases (suc n) x → (0 < x.kind) × (x.a ≤ n) × (x.b ≤ n)
    go (inl e) = (omega (arith, ap (λ x. x.kind) e), omega (arith, ap (λ x. x.a) e), omega (arith, ap (λ x. x.b) e))
    go (inr (inl (e, p, q))) = (omega arith, omega arith, omega arith)
    go (inr (inr (e, p, q))) = (omega arith, omega arith, omega arith)

module _ (A : Table) (good : Entries A) where
  pub has_kind : (n : ℕ) → Met (is_entry A n) → 0 < (entry A n).kind
  has_kind n (i, j) = go (cases n (entry A n) (good n i (omega arith)).1)
    where
      go : Cases n (entry A n) → 0 < (entry A n).kind
      go (inl e) = omega (arith, ap (λ x. x.kind) e)
      go (inr (inl (e, _, _))) = omega arith
      go (inr (inr (e, _, _))) = omega arith

  -- The parts of an entry are numbers of the table, or 0.
  pub closed : (n : ℕ) → (part_a A n ≤ length A) × (part_b A n ≤ length A)
  closed n = elim (dec_lt (length A) n) [
    | yes h ↦ (omega (arith, ap (λ x. x.a) (past A n h)), omega (arith, ap (λ x. x.b) (past A n h)))
    | no h ↦ low n (omega arith)
  ]
    where
      go : (n : ℕ) → n ≤ length A → Cases n (entry A n) → (part_a A n ≤ length A) × (part_b A n ≤ length A)
      go n h (inl e) = (omega (arith, ap (λ x. x.a) e), omega (arith, ap (λ x. x.b) e))
      go n h (inr (inl (e, p, q))) = (omega arith, omega arith)
      go n h (inr (inr (e, p, q))) = (omega arith, omega arith)

      low : (n : ℕ) → n ≤ length A → (part_a A n ≤ length A) × (part_b A n ≤ length A)
      low zero h = (omega arith, omega arith)
      low (suc n) h = go (suc n) h (cases (suc n) (entry A (suc n)) (good (suc n) (omega arith) (omega arith)).1)

  -- The parts of a function and of code are entries.
  pub fn_parts : (n p q : ℕ) → Met (is_entry A n) → entry A n ≡ Fn p q → Met (is_entry A p) × Met (is_entry A q)
  fn_parts n p q (i, j) e = go (rw e at (cases n (entry A n) (good n i (omega arith)).1))
    where
      go : Cases n (Fn p q) → Met (is_entry A p) × Met (is_entry A q)
      go (inl e) = absurd (omega (arith, ap (λ x. x.kind) e))
      go (inr (inl (_, h, k))) = (omega arith, omega arith)
      go (inr (inr (e, _, _))) = absurd (omega arith)

  pub code_part : (n c : ℕ) → Met (is_entry A n) → entry A n ≡ Code c → Met (is_entry A c)
  code_part n c (i, j) e = go (rw e at (cases n (entry A n) (good n i (omega arith)).1))
    where
      go : Cases n (Code c) → Met (is_entry A c)
      go (inl e) = absurd (omega (arith, ap (λ x. x.kind) e))
      go (inr (inl (e, _, _))) = absurd (omega arith)
      go (inr (inr (_, h, _))) = (omega arith, omega arith)

  -- Nothing stands before the first entry, so that it has no parts: it is Nat.
  pub first_nat : 0 < length A → entry A 1 ≡ Nat
  first_nat z = go (cases 1 (entry A 1) (good 1 (omega arith) (omega arith)).1)
    where
      go : Cases 1 (entry A 1) → entry A 1 ≡ Nat
      go (inl e) = e
      go (inr (inl (_, (p, q), _))) = absurd (omega arith)
      go (inr (inr (_, (p, q), _))) = absurd (omega arith)
