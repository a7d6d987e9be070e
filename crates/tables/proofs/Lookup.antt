-- The look-up of an entry in a table, and the write of one that is missing: `looking` for search.
use Prim.Native.Nat.{ℕ, zero, suc, ◌+◌, ◌*◌, ◌≤◌, ◌<◌}
use native.Mathlib.Omega.{arith}
use native.Mathlib.Numerals.{add-one}
use mathlib.Core.Bool.{Bool, true, false}
use mathlib.Core.List.{[], ◌∷◌, ◌++◌}
use mathlib.Core.Path.{◌≡◌, refl, ap, sym, ◌∙◌}
use lib.ListN.{length, get_or, take, drop, length-set}
use lib.Seq.{length-take-le, drop-cons, drop-length, get_or-take, take-suc-set}
use Rattle.rules.specs.Lists.{pick}
use Rattle.rules.specs.Types.{Entry, Table, no_entry}
use Rattle.rules.specs.Conditions.{same, same_entry}
use Rattle.rules.proofs.General.{is_false}
use Rattle.rules.proofs.Tests.{meets}
use Rattle.inference.specs.Inference.{having, before}
use Rattle.records.specs.View.{EntryPut}
use Rattle.records.proofs.Entries.{entries_length, entries_front}
use Rattle.tables.specs.declared.Table.{Table as TypeTable}
use Rattle.tables.specs.Having.{buffer_of, entries_of, HasBytes, AreEntries, CanGrow, CanLookUp, Has}

-- From entry i on.
before_from : (A : Table) (x : Entry) (i : ℕ) → i < length A → before (drop i A) x ≡ pick (same_entry (get_or A i no_entry) x) 0 (suc (before (drop (suc i) A) x))
unfolding before
before_from A x i h = rw (drop-cons A i no_entry h)

-- After i entries of which none is x.
before_past : (A : Table) (x : Entry) (i : ℕ) → i ≤ length A → ((n : ℕ) → n < i → get_or A n no_entry ≡ x → ⊥) → before A x ≡ i + before (drop i A) x
before_past A x zero h past = omega arith
before_past A x (suc i) h past =
    let y = get_or A i no_entry in
    let unlike : same_entry y x ≡ false = is_false (same_entry y x) (λ t. past i (omega arith) (meets (same y x) t)) in
    let next : before (drop i A) x ≡ suc (before (drop (suc i) A) x) = before_from A x i (omega arith) ∙ rw unlike in
    omega (arith, next, before_past A x i (omega arith) (λ n l. past n (omega arith)))

-- None of the first i of the table's entries is x.
pub record Passed (t : TypeTable) (x : Entry) (i : ℕ) : Type 0 where
  pub most : i ≤ t.types
  pub left : before (entries_of t) x ≡ i + before (drop i (entries_of t)) x

pub lookup_starts : (t : TypeTable) (from : ℕ) (x : Entry) → CanLookUp t from x → Passed t x from
lookup_starts t from x can = record {
  most = can.most;
  left = before_past (entries_of t) x from (omega (arith, length-take-le t.types (buffer_of t) can.room, can.most))
      (λ n h e. can.past n h (sym (get_or-take t.types (buffer_of t) n no_entry (omega (arith, can.most))) ∙ e));
}

module _ (t : TypeTable) (x : Entry) (room : t.types ≤ length (buffer_of t)) where
  module _ (i : ℕ) (p : Passed t x i) where
    pub lookup_ends : t.types ≤ i → i ≡ before (entries_of t) x
    unfolding before
    lookup_ends h =
        let e : i ≡ length (entries_of t) = omega (arith, length-take-le t.types (buffer_of t) room, p.most) in
        let none : before (drop i (entries_of t)) x ≡ 0 = rw (e, drop-length) in
        omega (arith, p.left, none)

    module _ (h : i < t.types) (y : Entry) (b : Bool) (read : y ≡ get_or (buffer_of t) i no_entry) (test : b ≡ same_entry y x) where
      here : before (drop i (entries_of t)) x ≡ pick b 0 (suc (before (drop (suc i) (entries_of t)) x))
      here = before_from (entries_of t) x i (omega (arith, length-take-le t.types (buffer_of t) room))
          ∙ ap (λ c. pick c 0 (suc (before (drop (suc i) (entries_of t)) x))) (ap (λ z. same_entry z x) (get_or-take t.types (buffer_of t) i no_entry h ∙ sym read) ∙ sym test)

      pub lookup_finds : b ≡ true → i ≡ before (entries_of t) x
      lookup_finds e = let z : before (drop i (entries_of t)) x ≡ 0 = here ∙ rw e in omega (arith, p.left, z)

      pub lookup_goes_on : b ≡ false → Passed t x (i + 1)
      lookup_goes_on e = record {
        most = omega arith;
        left = let s : before (drop i (entries_of t)) x ≡ suc (before (drop (suc i) (entries_of t)) x) = here ∙ rw e in rw (add-one i) (omega (arith, p.left, s));
      }

-- An entry that stands in the table, and one that is missing.
found_kept : (A : Table) (x : Entry) → before A x < length A → having A x ≡ A
unfolding having before
found_kept [] x h = absurd (omega arith)
found_kept (y ∷ ys) x h = go (same_entry y x) h (found_kept ys x)
  where
    go : (b : Bool) → pick b 0 (suc (before ys x)) < suc (length ys) → (before ys x < length ys → having ys x ≡ ys) → pick b (y ∷ ys) (y ∷ having ys x) ≡ y ∷ ys
    go true h k = refl
    go false h k = ap (λ t. y ∷ t) (k (omega arith))

missing_appended : (A : Table) (x : Entry) → length A ≤ before A x → having A x ≡ A ++ (x ∷ [])
unfolding having before
missing_appended [] x h = refl
missing_appended (y ∷ ys) x h = go (same_entry y x) h (missing_appended ys x)
  where
    go : (b : Bool) → suc (length ys) ≤ pick b 0 (suc (before ys x)) → (length ys ≤ before ys x → having ys x ≡ ys ++ (x ∷ [])) → pick b (y ∷ ys) (y ∷ having ys x) ≡ y ∷ (ys ++ (x ∷ []))
    go true h k = absurd (omega arith)
    go false h k = ap (λ t. y ∷ t) (k (omega arith))

before_most : (A : Table) (x : Entry) → before A x ≤ length A
unfolding before
before_most [] x = omega arith
before_most (y ∷ ys) x = go (same_entry y x) (before_most ys x)
  where
    go : (b : Bool) → before ys x ≤ length ys → pick b 0 (suc (before ys x)) ≤ suc (length ys)
    go true h = omega arith
    go false h = omega arith

module _ (t : TypeTable) (x : Entry) (can : CanGrow t) (found : ℕ) (told : found ≡ before (entries_of t) x) where
  long : length (entries_of t) ≡ t.types
  long = length-take-le t.types (buffer_of t) (omega (arith, can.room))

  pub found_fits : found ≤ t.types
  found_fits = omega (arith, long, before_most (entries_of t) x)

  pub has_found : (found ≡ t.types → ⊥) → Has t t x (found + 1)
  has_found h = record {
    same = refl;
    table = sym (found_kept (entries_of t) x (omega (arith, long, found_fits)));
    number = omega arith;
    fits = omega arith;
    room = refl;
  }

  pub has_appended : (t' : TypeTable) → found ≡ t.types → t'.bytes.ghost_name ≡ t.bytes.ghost_name → t'.types ≡ t.types + 1 → EntryPut t.bytes.now t.types x t'.bytes.now
      → Has t t' x (found + 1)
  has_appended t' h kept more put = record {
    same = kept;
    table = rw (more, add-one t.types, put.things) (take-suc-set (buffer_of t) t.types x can.room ∙ sym (missing_appended (entries_of t) x (omega (arith, long))));
    number = omega arith;
    fits = omega arith;
    room = ap length put.things ∙ length-set (buffer_of t) t.types x;
  }

-- The bytes of the table's entries.
module _ (t : TypeTable) (h : HasBytes t) where
  pub bytes_there : 6 * t.types ≤ length t.bytes.now
  bytes_there = omega (arith, h.room, entries_length t.bytes.now)

  pub bytes_long : 6 * t.types ≡ length (take (6 * t.types) t.bytes.now)
  bytes_long = sym (length-take-le (6 * t.types) t.bytes.now bytes_there)

  pub are_entries : AreEntries t (take (6 * t.types) t.bytes.now)
  are_entries = record { long = sym bytes_long; are = entries_front t.bytes.now t.types bytes_there }

pub ruleset looking = (lookup_starts, lookup_ends)
