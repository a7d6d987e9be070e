-- What is written depends on types in full only: two terms that are the same up to types equal in full write alike.
use Prim.Native.Nat.{ℕ}
use mathlib.Core.List.{List, [], ◌∷◌, map}
use mathlib.Core.Path.{◌≡◌, refl, ap, ap₂, sym, ◌∙◌}
use Rattle.rules.specs.Lists.{All}
use Rattle.rules.specs.Kinds.{Kind, leaf₀, unary₁, binary₂, ternary₃}
use Rattle.rules.specs.Terms.{Fields, Term, leaf, unary, binary, ternary}
use Rattle.rules.specs.Types.{Table}
use Rattle.rules.specs.FieldUses.{Use, unused, an_index, a_type, a_number, uses, given}
use Rattle.rules.specs.Links.{written}
use Rattle.order.specs.FullTypes.{NamesType, GoodEntries, in_full, SameType}
use Rattle.order.specs.Order.{types_in, field_types, types_named, new_number, used, written_table, renumbered_in, renumbered_fields, renumbered_term, written_term}
use Rattle.order.specs.RunInOrder.{output_in_order}
use Rattle.order.specs.OrderInFull.{full_number, need_all_full, table_of_full}
use Rattle.order.specs.Alike.{leaves, unaries, binaries, ternaries, SameIn, SameFields, SameTerm}
use Rattle.order.proofs.Lists.{Each, nothing, also, each_append}
use Rattle.order.proofs.Used.{table_is, new_is}

module _ (types types' : Table) where
  abbrev pub SameTypes : List ℕ → List ℕ → Type 0
  SameTypes = Each ℕ ℕ (SameType types types')

  -- The two terms name the same types, in the same order.
  same_in : (u : Use) (x y : ℕ) → SameIn types types' u x y → SameTypes (types_in u x) (types_in u y)
  same_in unused x y h = nothing
  same_in an_index x y h = nothing
  same_in a_type x y h = also h nothing
  same_in a_number x y h = nothing

  same_at : (k : Kind) (f g : Fields) → SameFields given types types' k f g → SameTypes (field_types k f) (field_types k g)
  same_at k f g h = also h.type (each_append (same_in (uses k).a f.a g.a h.a) (same_in (uses k).b f.b g.b h.b))

  pub same_named : {t t' : Term} → SameTerm types types' t t' → SameTypes (types_named t) (types_named t')
  unfolding types_named
  same_named (leaves k f g r) = same_at (leaf₀ k) f g r
  same_named (unaries k f g r h) = each_append (same_at (unary₁ k) f g r) (same_named h)
  same_named (binaries k f g r h i) = each_append (same_at (binary₂ k) f g r) (each_append (same_named h) (same_named i))
  same_named (ternaries k f g r h i j) = each_append (same_at (ternary₃ k) f g r) (each_append (same_named h) (each_append (same_named i) (same_named j)))

  all_here : {xs ys : List ℕ} → SameTypes xs ys → All (NamesType types) xs
  all_here nothing = tt
  all_here (also r h) = (r.here, all_here h)

  all_there : {xs ys : List ℕ} → SameTypes xs ys → All (NamesType types') ys
  all_there nothing = tt
  all_there (also r h) = (r.there, all_there h)

  pub same_full : {xs ys : List ℕ} → SameTypes xs ys → map (in_full types) xs ≡ map (in_full types') ys
  same_full nothing = refl
  same_full (also r h) = ap₂ ◌∷◌ r.same (same_full h)

  -- With one numbering of types the two become one term.
  module _ (new new' : ℕ → ℕ) (one : (x y : ℕ) → SameType types types' x y → new x ≡ new' y) where
    one_in : (u : Use) (x y : ℕ) → SameIn types types' u x y → renumbered_in new u x ≡ renumbered_in new' u y
    one_in unused x y h = h
    one_in an_index x y h = h
    one_in a_type x y h = one x y h
    one_in a_number x y h = h

    one_at : (k : Kind) (f g : Fields) → SameFields given types types' k f g → renumbered_fields new k f ≡ renumbered_fields new' k g
    one_at k f g h = λ d. record {
      type = one f.type g.type h.type d;
      a = one_in (uses k).a f.a g.a h.a d;
      b = one_in (uses k).b f.b g.b h.b d;
      value = h.value d;
    }

    one_term : {t t' : Term} → SameTerm types types' t t' → renumbered_term new t ≡ renumbered_term new' t'
    unfolding renumbered_term
    one_term (leaves k f g r) = ap (leaf k) (one_at (leaf₀ k) f g r)
    one_term (unaries k f g r h) = ap₂ (unary k) (one_at (unary₁ k) f g r) (one_term h)
    one_term (binaries k f g r h i) = λ d. binary k (one_at (binary₂ k) f g r d) (one_term h d) (one_term i d)
    one_term (ternaries k f g r h i j) = λ d. ternary k (one_at (ternary₃ k) f g r d) (one_term h d) (one_term i d) (one_term j d)

  -- Outputs depend on types in full only.
  module _ (good : GoodEntries types) (good' : GoodEntries types') {t t' : Term} (h : SameTerm types types' t t') where
    entries : All (NamesType types) (types_named t)
    entries = all_here (same_named h)

    entries' : All (NamesType types') (types_named t')
    entries' = all_there (same_named h)

    pub same_table : written_table types t ≡ written_table types' t'
    same_table = table_is types good t entries ∙ (ap (λ xs. table_of_full (need_all_full xs [])) (same_full (same_named h)) ∙ sym (table_is types' good' t' entries'))

    pub same_written : written_term types t ≡ written_term types' t'
    same_written = one_term (new_number (used types t)) (new_number (used types' t'))
        (λ x y s. new_is types good t entries x s.here ∙ (ap₂ (λ xs f. full_number (need_all_full xs []) f) (same_full (same_named h)) s.same ∙ sym (new_is types' good' t' entries' y s.there))) h

    pub same_output : output_in_order types t ≡ output_in_order types' t'
    same_output = ap₂ written same_table same_written
