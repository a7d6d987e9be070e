-- Alike terms are as large, are plain, values and done together, and are changed alike, whatever their fields may differ in.
use Prim.Native.Nat.{ℕ, zero, suc, ◌+◌}
use mathlib.Core.Bool.{◌&&◌}
use mathlib.Core.Path.{◌≡◌, refl, ap, ap₂, subst}
use lib.ListN.{length}
use Rattle.rules.specs.Kinds.{number, variable, Unary, function, fix, lift, quote, splice, Ternary, match, match_variable, match_shape, match_number, match_application, match_lift, match_function, match_fix, Kind, leaf₀, unary₁, binary₂, ternary₃}
use Rattle.rules.specs.Terms.{Fields, Term, size}
use Rattle.rules.specs.Binders.{binds₁, binds₃}
use Rattle.rules.specs.Indices.{Change, with_index, on_fields, changed}
use Rattle.rules.specs.Values.{plain_kind, plain, value, done}
use Rattle.order.specs.Alike.{Alike, leaves, unaries, binaries, ternaries}

-- How many variables a record binds depends on its kind only.
pub binders₁ : (k : Unary) (f g : Fields) → length (binds₁ k f) ≡ length (binds₁ k g)
binders₁ function f g = refl
binders₁ fix f g = refl
binders₁ lift f g = refl
binders₁ quote f g = refl
binders₁ splice f g = refl

pub binders₃ : (k : Ternary) (f g : Fields) → length (binds₃ k f) ≡ length (binds₃ k g)
binders₃ (match match_variable) f g = refl
binders₃ (match (match_shape match_number)) f g = refl
binders₃ (match (match_shape match_application)) f g = refl
binders₃ (match (match_shape match_lift)) f g = refl
binders₃ (match (match_shape match_function)) f g = refl
binders₃ (match (match_shape match_fix)) f g = refl

module _ {R : Kind → Fields → Fields → Type 0} where
  pub size_alike : {t t' : Term} → Alike R t t' → size t ≡ size t'
  unfolding size
  size_alike (leaves k f g r) = refl
  size_alike (unaries k f g r h) = ap (λ n. 1 + n) (size_alike h)
  size_alike (binaries k f g r h i) = ap₂ (λ n m. 1 + n + m) (size_alike h) (size_alike i)
  size_alike (ternaries k f g r h i j) = λ d. 1 + size_alike h d + size_alike i d + size_alike j d

  pub plain_alike : {t t' : Term} → Alike R t t' → plain t ≡ plain t'
  unfolding plain
  plain_alike (leaves k f g r) = refl
  plain_alike (unaries k f g r h) = ap (λ b. plain_kind (unary₁ k) && b) (plain_alike h)
  plain_alike (binaries k f g r h i) = ap₂ (λ b c. plain_kind (binary₂ k) && (b && c)) (plain_alike h) (plain_alike i)
  plain_alike (ternaries k f g r h i j) = λ d. plain_kind (ternary₃ k) && (plain_alike h d && (plain_alike i d && plain_alike j d))

  pub value_alike : {t t' : Term} → Alike R t t' → value t ≡ value t'
  unfolding value
  value_alike (leaves number f g r) = refl
  value_alike (leaves variable f g r) = refl
  value_alike (unaries function f g r h) = refl
  value_alike (unaries fix f g r h) = refl
  value_alike (unaries lift f g r h) = refl
  value_alike (unaries quote f g r h) = plain_alike h
  value_alike (unaries splice f g r h) = refl
  value_alike (binaries k f g r h i) = refl
  value_alike (ternaries k f g r h i j) = refl

  pub done_alike : (l : ℕ) {t t' : Term} → Alike R t t' → done l t ≡ done l t'
  done_alike zero h = value_alike h
  done_alike (suc l) h = plain_alike h

  -- Two changes that change alike variables and indices alike.
  module _ (c c' : Change)
      (variables : (d : ℕ) (f g : Fields) → R (leaf₀ variable) f g → Alike R (c.on_variable d f) (c'.on_variable d g))
      (indices : (d : ℕ) (f g : Fields) → R (ternary₃ (match match_variable)) f g → R (ternary₃ (match match_variable)) (with_index f (c.on_index d f.a)) (with_index g (c'.on_index d g.a))) where
    fields_changed : (d : ℕ) (k : Ternary) (f g : Fields) → R (ternary₃ k) f g → R (ternary₃ k) (on_fields c d k f) (on_fields c' d k g)
    fields_changed d (match match_variable) f g r = indices d f g r
    fields_changed d (match (match_shape k)) f g r = r

    inside : (t t' : Term) (n m d : ℕ) → n ≡ m → Alike R (changed c (n + d) t) (changed c' (n + d) t') → Alike R (changed c (n + d) t) (changed c' (m + d) t')
    inside t t' n m d e = subst (λ m. Alike R (changed c (n + d) t) (changed c' (m + d) t')) e

    pub changed_alike : {t t' : Term} → Alike R t t' → (d : ℕ) → Alike R (changed c d t) (changed c' d t')
    unfolding changed
    changed_alike (leaves number f g r) d = leaves number f g r
    changed_alike (leaves variable f g r) d = variables d f g r
    changed_alike (unaries k f g {t = t} {t' = t'} r h) d = unaries k f g r (inside t t' _ _ d (binders₁ k f g) (changed_alike h (length (binds₁ k f) + d)))
    changed_alike (binaries k f g r h i) d = binaries k f g r (changed_alike h d) (changed_alike i d)
    changed_alike (ternaries k f g {s = s} {s' = s'} r h i j) d =
        ternaries k _ _ (fields_changed d k f g r) (changed_alike h d) (inside s s' _ _ d (binders₃ k f g) (changed_alike i (length (binds₃ k f) + d))) (changed_alike j d)

-- What may differ in the fields, made weaker, turned round and joined.
module _ {R Q : Kind → Fields → Fields → Type 0} where
  pub alike_with : ((k : Kind) (f g : Fields) → R k f g → Q k f g) → {t t' : Term} → Alike R t t' → Alike Q t t'
  alike_with i (leaves k f g r) = leaves k f g (i _ f g r)
  alike_with i (unaries k f g r h) = unaries k f g (i _ f g r) (alike_with i h)
  alike_with i (binaries k f g r h h₂) = binaries k f g (i _ f g r) (alike_with i h) (alike_with i h₂)
  alike_with i (ternaries k f g r h h₂ h₃) = ternaries k f g (i _ f g r) (alike_with i h) (alike_with i h₂) (alike_with i h₃)

  pub alike_turned : ((k : Kind) (f g : Fields) → R k f g → Q k g f) → {t t' : Term} → Alike R t t' → Alike Q t' t
  alike_turned i (leaves k f g r) = leaves k g f (i _ f g r)
  alike_turned i (unaries k f g r h) = unaries k g f (i _ f g r) (alike_turned i h)
  alike_turned i (binaries k f g r h h₂) = binaries k g f (i _ f g r) (alike_turned i h) (alike_turned i h₂)
  alike_turned i (ternaries k f g r h h₂ h₃) = ternaries k g f (i _ f g r) (alike_turned i h) (alike_turned i h₂) (alike_turned i h₃)

  pub alike_joined : {S : Kind → Fields → Fields → Type 0} → ((k : Kind) (f g h : Fields) → R k f g → Q k g h → S k f h) → {t t' t'' : Term} → Alike R t t' → Alike Q t' t'' → Alike S t t''
  alike_joined i (leaves k f g r) (leaves _ _ e q) = leaves k f e (i _ f g e r q)
  alike_joined i (unaries k f g r h) (unaries _ _ e q j) = unaries k f e (i _ f g e r q) (alike_joined i h j)
  alike_joined i (binaries k f g r h h₂) (binaries _ _ e q j j₂) = binaries k f e (i _ f g e r q) (alike_joined i h j) (alike_joined i h₂ j₂)
  alike_joined i (ternaries k f g r h h₂ h₃) (ternaries _ _ e q j j₂ j₃) = ternaries k f e (i _ f g e r q) (alike_joined i h j) (alike_joined i h₂ j₂) (alike_joined i h₃ j₃)
