-- The written table: it keeps rule 6, has no more entries than the file's and only what is needed, and its types in full are the term's own.
use Prim.Native.Nat.{ℕ, ◌≤◌}
use native.Mathlib.Omega.{arith}
use mathlib.Core.List.{List, [], ◌∷◌, ◌++◌, map}
use mathlib.Core.Logic.{inl, inr}
use mathlib.Core.Path.{◌≡◌, refl, ap, ap₂, sym, ◌∙◌, subst}
use lib.ListN.{length, length-map}
use Rattle.rules.specs.Lists.{All}
use Rattle.order.specs.Lists.{Any}
use Rattle.rules.specs.Kinds.{Kind, leaf₀, unary₁, binary₂, ternary₃}
use Rattle.rules.specs.Terms.{Fields, Term, leaf, unary, binary, ternary}
use Rattle.rules.specs.Types.{Table}
use Rattle.rules.specs.Conditions.{Met, Holds}
use Rattle.rules.specs.FieldUses.{Use, unused, an_index, a_type, a_number, uses, field, formed, given}
use Rattle.rules.specs.Typing.{Env, Typed}
use Rattle.rules.proofs.General.{all_append}
use Rattle.inference.specs.FullTypes.{Full, Whole}
use Rattle.order.specs.FullTypes.{NamesType, GoodEntries, in_full, SameType, PartOf}
use Rattle.order.specs.Order.{types_in, field_types, types_named, new_number, used, written_table, renumbered_in, renumbered_fields, renumbered_term, written_term}
use Rattle.order.specs.OrderInFull.{full_equality, full_number, need_all_full, table_of_full, In, Listed}
use Rattle.order.specs.Alike.{leaves, unaries, binaries, ternaries, SameIn, SameFields, SameTerm}
use Rattle.order.proofs.Lists.{all_with, all_split}
use Rattle.order.proofs.Numbers.{number_none}
use Rattle.order.proofs.Full.{whole_lem}
use Rattle.order.proofs.InFull.{same_number, need_all_full_lem, table_full_lem}
use Rattle.order.proofs.Listed.{GrowsAll, grows_all, only_needed}
use Rattle.order.proofs.TableInFull.{length_table, numbered, table_good, is_entry_lem, full_back}
use Rattle.order.proofs.Few.{Different, few}

-- The types that a typed term names are entries.
module _ (types : Table) where
  field_types_lem : (u : Use) (x : ℕ) → Met (field types u x) → All (NamesType types) (types_in u x)
  field_types_lem unused x h = tt
  field_types_lem an_index x h = tt
  field_types_lem a_type x h = (h, tt)
  field_types_lem a_number x h = tt

  pub record_types : (k : Kind) (f : Fields) → Holds (formed types k f) → All (NamesType types) (field_types k f)
  record_types k f (h, (a, (b, _))) = (h, all_append (NamesType types) (types_in (uses k).a f.a) (types_in (uses k).b f.b) (field_types_lem (uses k).a f.a a) (field_types_lem (uses k).b f.b b))

  pub named_entries : (Γ : Env) (l : ℕ) (t : Term) → Typed types Γ l t → All (NamesType types) (types_named t)
  unfolding Typed types_named
  named_entries Γ l (leaf k f) (o, _, _, _) = record_types (leaf₀ k) f o
  named_entries Γ l (unary k f t) ((o, _, _, _), h) = all_append (NamesType types) (field_types (unary₁ k) f) (types_named t) (record_types (unary₁ k) f o) (named_entries _ _ t h)
  named_entries Γ l (binary k f t u) ((o, _, _, _), h, j) = all_append (NamesType types) (field_types (binary₂ k) f) (types_named t ++ types_named u) (record_types (binary₂ k) f o)
      (all_append (NamesType types) (types_named t) (types_named u) (named_entries _ _ t h) (named_entries _ _ u j))
  named_entries Γ l (ternary k f t s e) ((o, _, _, _), h, j, m) = all_append (NamesType types) (field_types (ternary₃ k) f) (types_named t ++ (types_named s ++ types_named e)) (record_types (ternary₃ k) f o)
      (all_append (NamesType types) (types_named t) (types_named s ++ types_named e) (named_entries _ _ t h)
      (all_append (NamesType types) (types_named s) (types_named e) (named_entries _ _ s j) (named_entries _ _ e m)))

  -- A list of entries whose types in full are listed has none twice.
  pub different : GoodEntries types → (xs : List ℕ) → All (NamesType types) xs → Listed (map (in_full types) xs) → Different xs
  different good [] h l = tt
  different good (x ∷ xs) (h, k) (n, _, l) = (same_number types good x xs h k ∙ n, different good xs k l)

  -- Nothing of the entries' types is cut.
  pub wholes : GoodEntries types → (xs : List ℕ) → All (NamesType types) xs → All Whole (map (in_full types) xs)
  wholes good [] h = tt
  wholes good (x ∷ xs) (h, k) = (whole_lem types good x h, wholes good xs k)

in_map : {A B : Type 0} (P : A → Type 0) (Q : B → Type 0) (g : A → B) (xs : List A) → All P xs → All Q (map g xs) → All (λ x. P x × Q (g x)) xs
in_map P Q g [] h k = tt
in_map P Q g (x ∷ xs) (h, hs) (k, ks) = ((h, k), in_map P Q g xs hs ks)

-- Other numbers, the same types in full.
module _ (types types' : Table) (new : ℕ → ℕ) where
  abbrev Moves : ℕ → Type 0
  Moves x = SameType types types' x (new x)

  field_renumbered : (u : Use) (x : ℕ) → All Moves (types_in u x) → SameIn types types' u x (renumbered_in new u x)
  field_renumbered unused x h = refl
  field_renumbered an_index x h = refl
  field_renumbered a_type x (h, _) = h
  field_renumbered a_number x h = refl

  fields_renumbered : (k : Kind) (f : Fields) → All Moves (field_types k f) → SameFields given types types' k f (renumbered_fields new k f)
  fields_renumbered k f (h, r) =
      let (a, b) = all_split Moves (types_in (uses k).a f.a) (types_in (uses k).b f.b) r in
      record { type = h; a = field_renumbered (uses k).a f.a a; b = field_renumbered (uses k).b f.b b; value = refl }

  pub renumbered_same : (t : Term) → All Moves (types_named t) → SameTerm types types' t (renumbered_term new t)
  unfolding types_named renumbered_term
  renumbered_same (leaf k f) h = leaves k f _ (fields_renumbered (leaf₀ k) f h)
  renumbered_same (unary k f t) h = let (o, i) = all_split Moves (field_types (unary₁ k) f) (types_named t) h in unaries k f _ (fields_renumbered (unary₁ k) f o) (renumbered_same t i)
  renumbered_same (binary k f t u) h =
      let (o, r) = all_split Moves (field_types (binary₂ k) f) (types_named t ++ types_named u) h in
      let (i, j) = all_split Moves (types_named t) (types_named u) r in
      binaries k f _ (fields_renumbered (binary₂ k) f o) (renumbered_same t i) (renumbered_same u j)
  renumbered_same (ternary k f t s e) h =
      let (o, r) = all_split Moves (field_types (ternary₃ k) f) (types_named t ++ (types_named s ++ types_named e)) h in
      let (i, q) = all_split Moves (types_named t) (types_named s ++ types_named e) r in
      let (j, m) = all_split Moves (types_named s) (types_named e) q in
      ternaries k f _ (fields_renumbered (ternary₃ k) f o) (renumbered_same t i) (renumbered_same s j) (renumbered_same e m)

-- What is written for t.
module _ (types : Table) (good : GoodEntries types) (t : Term) (entries : All (NamesType types) (types_named t)) where
  -- The term's types in full, in their order.
  abbrev pub in_order : List Full
  in_order = need_all_full (map (in_full types) (types_named t)) []

  needs : All (NamesType types) (used types t) × (map (in_full types) (used types t) ≡ in_order)
  unfolding used
  needs = need_all_full_lem types good (types_named t) [] entries tt

  pub used_entries : All (NamesType types) (used types t)
  used_entries = needs.0

  grown : GrowsAll [] in_order (map (in_full types) (types_named t))
  grown = grows_all (map (in_full types) (types_named t)) [] (wholes types good (types_named t) entries) tt

  pub table_is : written_table types t ≡ table_of_full in_order
  table_is = table_full_lem types good (used types t) used_entries ∙ ap table_of_full needs.1

  pub new_is : (x : ℕ) → NamesType types x → new_number (used types t) x ≡ full_number in_order (in_full types x)
  new_is x h = same_number types good x (used types t) h used_entries ∙ ap (λ fs. full_number fs (in_full types x)) needs.1

  pub used_good : GoodEntries (written_table types t)
  used_good = subst GoodEntries (sym table_is) (table_good in_order grown.listed)

  pub used_few : length (written_table types t) ≤ length types
  used_few = omega (
    arith,
    ap length table_is,
    length_table in_order,
    ap length needs.1,
    length-map (used types t) (in_full types),
    few (used types t) (length types) used_entries (different types good (used types t) used_entries (subst Listed (sym needs.1) grown.listed)),
  )

  -- Every entry is a type of a record of t, or a part of one.
  pub used_needed : (n : ℕ) → NamesType (written_table types t) n → Any (PartOf (in_full (written_table types t) n)) (map (in_full types) (types_named t))
  used_needed n (h, k) =
      let r = numbered in_order n grown.listed h (omega (arith, ap length table_is, length_table in_order)) in
      let e : in_full (written_table types t) n ≡ r.type = ap₂ in_full table_is (sym r.numbers) ∙ full_back in_order grown.listed r.type r.has in
      rw e (elim (only_needed (map (in_full types) (types_named t)) [] r.type r.has) [
        | inl i ↦ absurd (omega (arith, number_none full_equality r.type))
        | inr i ↦ i
      ])

  -- A type that t names has its new number in the table, and is the same type there.
  new_same : (x : ℕ) → NamesType types x × In in_order (in_full types x) → SameType types (written_table types t) x (new_number (used types t) x)
  new_same x (h, i) = record {
    here = h;
    there = rw (table_is, new_is x h) (is_entry_lem in_order grown.listed (in_full types x) i);
    same = rw (table_is, new_is x h) (sym (full_back in_order grown.listed (in_full types x) i));
  }

  pub written_same : SameTerm types (written_table types t) t (written_term types t)
  written_same = renumbered_same types (written_table types t) (new_number (used types t)) t (all_with _ (types_named t) new_same (in_map (NamesType types) (In in_order) (in_full types) (types_named t) entries grown.numbered))
