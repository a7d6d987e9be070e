-- Numbers of one table sent to numbers of another, so that entries are kept: the type rules hold on the one side as on the other.
use Prim.Native.Nat.{ℕ, zero, suc, ◌+◌, ◌≤◌, ◌<◌}
use native.Mathlib.Omega.{arith}
use native.Mathlib.Decide.{dec_lt, ℕ_discrete}
use mathlib.Core.List.{[], ◌∷◌, ◌++◌, map}
use mathlib.Core.Logic.{inl, inr}
use mathlib.Core.Path.{◌≡◌, refl, ap, sym, subst, ◌∙◌}
use lib.Dec.{eqb, ltb, lt→ltb, ltb→lt, eqb→eq, eqb_refl}
use lib.ListN.{length, get_or, length-append}
use lib.Seq.{get_or-append_seam}
use Rattle.rules.specs.Lists.{pick}
use Rattle.rules.specs.Kinds.{number, variable, function, fix, lift, quote, splice, application, Shape, match_number, match_application, match_lift, match_function, match_fix, Match, match_variable, match_shape, match, Kind, leaf₀, unary₁, binary₂, ternary₃}
use Rattle.rules.specs.Terms.{Fields}
use Rattle.rules.specs.Types.{Entry, Table, entry, no_entry, Nat, Fn, Code, NoTwins, part_a, part_b}
use Rattle.rules.specs.Conditions.{Condition, anything, below, equal, between, same, Met, Rule, Holds}
use Rattle.rules.specs.FieldUses.{Use, unused, an_index, a_type, a_number, uses}
use Rattle.rules.specs.Typing.{Env, binder, shape, pattern, typed}
use Rattle.inference.specs.Inference.{Begins, retyped, having, before, Wanted, known, made, wanted}
use Rattle.rules.proofs.General.{is_true, is_false}
use Rattle.rules.proofs.Tables.{in_table}
use Rattle.inference.proofs.Growing.{longer, same_entry_lem, past, Missing, Had, had, Entries, closed}

abbrev pub renamed : (ℕ → ℕ) → Entry → Entry
renamed φ x = record { kind = x.kind; a = φ x.a; b = φ x.b }

-- φ sends the numbers of A to numbers of B with the same entry, and no two to one.
pub record Into (A B : Table) (φ : ℕ → ℕ) : Type 0 where
  pub none : φ 0 ≡ 0
  pub apart : (m n : ℕ) → φ m ≡ φ n → m ≡ n
  pub keeps : (n : ℕ) → entry B (φ n) ≡ renamed φ (entry A n)

-- A field that names a type names the same one.
abbrev pub Fixes : (ℕ → ℕ) → Use → ℕ → Type 0
Fixes φ unused n = Unit {0}
Fixes φ an_index n = Unit {0}
Fixes φ a_type n = φ n ≡ n
Fixes φ a_number n = Unit {0}

abbrev renaming : (ℕ → ℕ) → Condition → Condition
renaming φ anything = anything
renaming φ (below m n) = below m n
renaming φ (between m x n) = between m x n
renaming φ (equal m n) = equal (φ m) (φ n)
renaming φ (same x y) = same (renamed φ x) (renamed φ y)

-- Number r of B is the type that is wanted in A.
abbrev pub Forced : Table → (ℕ → ℕ) → ℕ → Wanted → Type 0
Forced B φ r (known n) = r ≡ φ n
Forced B φ r (made x) = entry B r ≡ renamed φ x

module _ (A B : Table) (φ : ℕ → ℕ) (into : Into A B φ) where
  renamed_apart : (x y : Entry) → renamed φ x ≡ renamed φ y → x ≡ y
  renamed_apart x y e =
      let k = ap (λ r. r.kind) e in
      let a = into.apart x.a y.a (ap (λ r. r.a) e) in
      let b = into.apart x.b y.b (ap (λ r. r.b) e) in
      λ i. record { kind = k i; a = a i; b = b i }

  forth : (r : Rule) → Holds r → Holds (map (renaming φ) r)
  forth [] h = tt
  forth (c ∷ r) (h, k) = (one c h, forth r k)
    where
      one : (c : Condition) → Met c → Met (renaming φ c)
      one anything h = h
      one (below m n) h = h
      one (between m x n) h = h
      one (equal m n) h = ap φ h
      one (same x y) h = ap (renamed φ) h

  back : (r : Rule) → Holds (map (renaming φ) r) → Holds r
  back [] h = tt
  back (c ∷ r) (h, k) = (one c h, back r k)
    where
      one : (c : Condition) → Met (renaming φ c) → Met c
      one anything h = h
      one (below m n) h = h
      one (between m x n) h = h
      one (equal m n) h = into.apart m n h
      one (same x y) h = renamed_apart x y h

  nat : Nat ≡ renamed φ Nat
  nat = λ i. record { kind = 1; a = sym into.none i; b = sym into.none i }

  code : (c d : ℕ) → d ≡ φ c → Code d ≡ renamed φ (Code c)
  code c d e = λ i. record { kind = 3; a = e i; b = sym into.none i }

  fn : (p q p' q' : ℕ) → p' ≡ φ p → q' ≡ φ q → Fn p' q' ≡ renamed φ (Fn p q)
  fn p q p' q' e d = λ i. Fn (e i) (d i)

  -- The entry of number n on both sides.
  at : (n m : ℕ) → m ≡ φ n → entry B m ≡ renamed φ (entry A n)
  at n m e = ap (entry B) e ∙ into.keeps n

  part : (n m : ℕ) → m ≡ φ n → part_a B m ≡ φ (part_a A n)
  part n m e = ap (λ x. x.a) (at n m e)

  partᵇ : (n m : ℕ) → m ≡ φ n → part_b B m ≡ φ (part_b A n)
  partᵇ n m e = ap (λ x. x.b) (at n m e)

  abbrev alike : {x y x' y' : Entry} → x' ≡ renamed φ x → y' ≡ renamed φ y → same x' y' ≡ renaming φ (same x y)
  alike e d = λ i. same (e i) (d i)

  shape_renamed : (k : Shape) (f : Fields) (m n C D : ℕ) → D ≡ φ C → Fixes φ (uses (ternary₃ (match (match_shape k)))).a f.a
      → Fixes φ (uses (ternary₃ (match (match_shape k)))).b f.b
      → shape B k (retyped m f) D ≡ map (renaming φ) (shape A k (retyped n f) C)
  shape_renamed match_number f m n C D e a b = λ i. alike (at C D e) nat i ∷ []
  shape_renamed match_application f m n C D e a b =
      let x = sym a in
      let y = sym b in
      let p = part f.b f.b y in
      let q = part f.a f.a x in
      λ i. alike (at f.b f.b y) (code _ _ p) i ∷ alike (at f.a f.a x) (code _ _ q) i ∷ alike (at _ _ q) (fn _ _ _ _ p e) i ∷ []
  shape_renamed match_lift f m n C D e a b = λ i. alike (at C D e) nat i ∷ alike (at f.a f.a (sym a)) nat i ∷ []
  shape_renamed match_function f m n C D e a b =
      let x = sym a in
      let p = part C D e in
      let q = partᵇ C D e in
      let v = part f.a f.a x in
      let w = partᵇ f.a f.a x in
      λ i. alike (at C D e) (fn _ _ _ _ p q) i ∷ alike (at f.a f.a x) (fn _ _ _ _ v w) i ∷ alike (at _ _ v) (code _ _ p) i ∷ alike (at _ _ w) (code _ _ q) i ∷ []
  shape_renamed match_fix f m n C D e a b =
      let x = sym a in
      let v = part f.a f.a x in
      λ i. alike (at f.a f.a x) (code _ _ v) i ∷ alike (at _ _ v) (fn _ _ _ _ e e) i ∷ []

  module _ (Γ : Env) (fixed : (i : ℕ) → φ (binder Γ i).type ≡ (binder Γ i).type) where
    pattern_renamed : (k : Match) (f : Fields) (m n C D : ℕ) → D ≡ φ C → Fixes φ (uses (ternary₃ (match k))).a f.a → Fixes φ (uses (ternary₃ (match k))).b f.b
        → pattern B Γ k (retyped m f) D ≡ map (renaming φ) (pattern A Γ k (retyped n f) C)
    pattern_renamed match_variable f m n C D e a b = λ i. equal (sym (fixed f.a) i) (e i) ∷ []
    pattern_renamed (match_shape k) f m n C D e a b = shape_renamed k f m n C D e a b

    -- The type rules in B, of what φ makes of a record's types, are those in A.
    typed_renamed : (k : Kind) (f : Fields) (r x y z : ℕ) → Fixes φ (uses k).a f.a → Fixes φ (uses k).b f.b
        → typed B Γ k (retyped (φ r) f) (φ x) (φ y) (φ z) ≡ map (renaming φ) (typed A Γ k (retyped r f) x y z)
    typed_renamed (leaf₀ number) f r x y z a b = λ i. alike (at r (φ r) refl) nat i ∷ []
    typed_renamed (leaf₀ variable) f r x y z a b = λ i. equal (sym (fixed f.a) i) (φ r) ∷ []
    typed_renamed (unary₁ function) f r x y z a b = λ i. alike (at r (φ r) refl) (fn f.a x f.a (φ x) (sym a) refl) i ∷ []
    typed_renamed (unary₁ fix) f r x y z a b = λ i. alike (at x (φ x) refl) (fn r r (φ r) (φ r) refl refl) i ∷ []
    typed_renamed (unary₁ lift) f r x y z a b = λ i. alike (at x (φ x) refl) nat i ∷ alike (at r (φ r) refl) (code x (φ x) refl) i ∷ []
    typed_renamed (unary₁ quote) f r x y z a b = λ i. alike (at r (φ r) refl) (code x (φ x) refl) i ∷ []
    typed_renamed (unary₁ splice) f r x y z a b = λ i. alike (at x (φ x) refl) (code r (φ r) refl) i ∷ []
    typed_renamed (binary₂ application) f r x y z a b = λ i. alike (at x (φ x) refl) (fn y r (φ y) (φ r) refl refl) i ∷ []
    typed_renamed (ternary₃ (match k)) f r x y z a b =
        let p = part x (φ x) refl in
        let rest = pattern_renamed k f (φ r) r (part_a A x) (part_a B (φ x)) p a b in
        λ i. equal (φ y) (φ r) ∷ equal (φ z) (φ r) ∷ alike (at x (φ x) refl) (code _ _ p) i ∷ rest i

    module _ (k : Kind) (f : Fields) (a : Fixes φ (uses k).a f.a) (b : Fixes φ (uses k).b f.b) where
      pub typed_forth : (r x y z : ℕ) → Holds (typed A Γ k (retyped r f) x y z) → Holds (typed B Γ k (retyped (φ r) f) (φ x) (φ y) (φ z))
      typed_forth r x y z h = subst Holds (sym (typed_renamed k f r x y z a b)) (forth (typed A Γ k (retyped r f) x y z) h)

      pub typed_back : (r x y z : ℕ) → Holds (typed B Γ k (retyped (φ r) f) (φ x) (φ y) (φ z)) → Holds (typed A Γ k (retyped r f) x y z)
      typed_back r x y z h = back (typed A Γ k (retyped r f) x y z) (subst Holds (typed_renamed k f r x y z a b) h)

    -- A record's type r in B, where its children's are φ x, φ y and φ z, is the one that is wanted in A.
    pub forced : (k : Kind) (f : Fields) (r x y z : ℕ) → Fixes φ (uses k).a f.a → Holds (typed B Γ k (retyped r f) (φ x) (φ y) (φ z))
        → Forced B φ r (wanted A Γ k f x y)
    forced (leaf₀ number) f r x y z a (h, _) = h ∙ nat
    forced (leaf₀ variable) f r x y z a (h, _) = sym h ∙ sym (fixed f.a)
    forced (unary₁ function) f r x y z a (h, _) = h ∙ fn f.a x f.a (φ x) (sym a) refl
    forced (unary₁ fix) f r x y z a (h, _) = ap (λ e. e.a) (sym h ∙ into.keeps x)
    forced (unary₁ lift) f r x y z a (_, (h, _)) = h ∙ code x (φ x) refl
    forced (unary₁ quote) f r x y z a (h, _) = h ∙ code x (φ x) refl
    forced (unary₁ splice) f r x y z a (h, _) = ap (λ e. e.a) (sym h ∙ into.keeps x)
    forced (binary₂ application) f r x y z a (h, _) = ap (λ e. e.b) (sym h ∙ into.keeps x)
    forced (ternary₃ (match k)) f r x y z a (h, _) = sym h

-- A table that begins with A has A's numbers; a number that A has no entry for goes beyond B.
abbrev pub over : Table → Table → ℕ → ℕ
over A B n = pick (ltb n (suc (length A))) n (n + length B)

module _ {A B : Table} (b : Begins A B) where
  pub over_low : (n : ℕ) → n ≤ length A → over A B n ≡ n
  over_low n h = rw (is_true (ltb n (suc (length A))) (lt→ltb n (suc (length A)) (omega arith)))

  over_high : (n : ℕ) → length A < n → over A B n ≡ n + length B
  over_high n h = rw (is_false (ltb n (suc (length A))) (λ t. omega (arith, ltb→lt n (suc (length A)) t)))

  pub over_into : Entries A → Into A B (over A B)
  over_into good = record {
    none = over_low 0 (omega arith);
    apart = λ m n e. let l = longer b in elim (dec_lt (length A) m) [
      | yes h ↦ elim (dec_lt (length A) n) [
        | yes k ↦ omega (arith, over_high m h, over_high n k)
        | no k ↦ absurd (omega (arith, over_high m h, over_low n (omega arith)))
      ]
      | no h ↦ elim (dec_lt (length A) n) [
        | yes k ↦ absurd (omega (arith, over_low m (omega arith), over_high n k))
        | no k ↦ omega (arith, over_low m (omega arith), over_low n (omega arith))
      ]
    ];
    keeps = λ n. elim (dec_lt (length A) n) [
      | yes h ↦
          let u = sym (over_low 0 (omega arith)) in
          ap (entry B) (over_high n h) ∙ past B (n + length B) (omega arith) ∙ (λ i. record { kind = 0; a = u i; b = u i }) ∙ ap (renamed (over A B)) (sym (past A n h))
      | no h ↦
          let (p, q) = closed A good n in
          let u = sym (over_low (part_a A n) p) in
          let v = sym (over_low (part_b A n) q) in
          ap (entry B) (over_low n (omega arith)) ∙ same_entry_lem b n (omega arith) ∙ (λ i. record { kind = (entry A n).kind; a = u i; b = v i })
    ];
  }

-- A new entry of A goes to the number m that has its like in B.
abbrev sending : (ℕ → ℕ) → ℕ → ℕ → ℕ → ℕ
sending φ N m n = pick (eqb n N) m (φ n)

sent : (φ : ℕ → ℕ) (N m : ℕ) → sending φ N m N ≡ m
sent φ N m = rw (is_true (eqb N N) (eqb_refl N))

unsent : (φ : ℕ → ℕ) (N m n : ℕ) → (n ≡ N → ⊥) → sending φ N m n ≡ φ n
unsent φ N m n h = rw (is_false (eqb n N) (λ t. h (eqb→eq n N t)))

-- A, with entry x had, still goes into B, which has the like of x at m.
pub record Goes (A : Table) (φ : ℕ → ℕ) (A' B : Table) (n m : ℕ) : Type 0 where
  pub to : ℕ → ℕ
  pub into : Into A' B to
  pub agrees : (i : ℕ) → i ≤ length A → to i ≡ φ i
  pub number : to n ≡ m

module _ (A B : Table) (φ : ℕ → ℕ) (into : Into A B φ) (good : Entries A) (twins : NoTwins B)
    (x : Entry) (kind : 0 < x.kind) (parts : (x.a ≤ length A) × (x.b ≤ length A)) (m : ℕ) (like : entry B m ≡ renamed φ x) where
  found : (n : ℕ) → get_or A n no_entry ≡ x → Goes A φ A B (suc n) m
  found n e = record { to = φ; into = into; agrees = λ i h. refl; number = twins (φ (suc n)) m (renamed φ x) kind (into.keeps (suc n) ∙ ap (renamed φ) e) like }

  module _ (missing : Missing A x) where
    abbrev N : ℕ
    N = suc (length A)

    abbrev ψ : ℕ → ℕ
    ψ = sending φ N m

    low : (n : ℕ) → n ≤ length A → ψ n ≡ φ n
    low n h = unsent φ N m n (λ e. omega arith)

    new : (n : ℕ) → φ n ≡ m → ⊥
    new n e = absent n (renamed_apart A B φ into (entry A n) x (sym (into.keeps n) ∙ ap (entry B) e ∙ like))
      where
        absent : (n : ℕ) → entry A n ≡ x → ⊥
        absent zero e = omega (arith, ap (λ r. r.kind) e)
        absent (suc n) e = missing n (in_table A n x kind e) e

    same_after : (n : ℕ) → (n ≡ N → ⊥) → entry (A ++ (x ∷ [])) n ≡ entry A n
    same_after n h =
        let b : Begins A (A ++ (x ∷ [])) = record { more = x ∷ []; whole = refl } in
        elim (dec_lt n N) [
          | yes k ↦ same_entry_lem b n (omega arith)
          | no k ↦ past (A ++ (x ∷ [])) n (omega (arith, length-append A (x ∷ []))) ∙ sym (past A n (omega arith))
        ]

    with_new : Into (A ++ (x ∷ [])) B ψ
    with_new = record {
      none = low 0 (omega arith) ∙ into.none;
      apart = λ i j e. elim (ℕ_discrete i N) [
        | yes p ↦ elim (ℕ_discrete j N) [
          | yes q ↦ p ∙ sym q
          | no q ↦ absurd (new j (sym (unsent φ N m j q) ∙ sym e ∙ ap ψ p ∙ sent φ N m))
        ]
        | no p ↦ elim (ℕ_discrete j N) [
          | yes q ↦ absurd (new i (sym (unsent φ N m i p) ∙ e ∙ ap ψ q ∙ sent φ N m))
          | no q ↦ into.apart i j (sym (unsent φ N m i p) ∙ e ∙ unsent φ N m j q)
        ]
      ];
      keeps = λ n. elim (ℕ_discrete n N) [
        | yes p ↦
            let u = sym (low x.a parts.0) in
            let v = sym (low x.b parts.1) in
            ap (entry B) (ap ψ p ∙ sent φ N m) ∙ like ∙ (λ i. record { kind = x.kind; a = u i; b = v i })
            ∙ ap (renamed ψ) (sym (ap (entry (A ++ (x ∷ []))) p ∙ get_or-append_seam A x [] no_entry))
        | no p ↦
            let (c, d) = closed A good n in
            let u = sym (low (part_a A n) c) in
            let v = sym (low (part_b A n) d) in
            ap (entry B) (unsent φ N m n p) ∙ into.keeps n ∙ (λ i. record { kind = (entry A n).kind; a = u i; b = v i }) ∙ ap (renamed ψ) (sym (same_after n p))
      ];
    }

  pub goes : Goes A φ (having A x) B (suc (before A x)) m
  goes = go (having A x) (before A x) (had A x)
    where
      go : (A' : Table) (n : ℕ) → Had A x A' n → Goes A φ A' B (suc n) m
      go A' n (inl (e, d)) = rw e (found n d)
      go A' n (inr (e, d, h)) = rw (e, d) record { to = sending φ (suc (length A)) m; into = with_new h; agrees = low h; number = sent φ (suc (length A)) m }
