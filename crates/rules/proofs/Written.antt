-- A typed term that fits, written with a good table, is passed, and is read back.
use Prim.Native.Nat.{ℕ, suc, ◌+◌, ◌-◌, ◌*◌, ◌≤◌, ◌<◌}
use native.Mathlib.Omega.{arith}
use mathlib.Core.List.{List, [], ◌∷◌, ◌++◌, append-nil}
use mathlib.Core.Bool.{Bool, true, false}
use mathlib.Core.Path.{◌≡◌, refl, sym}
use mathlib.Core.Logic.{inl}
use lib.Dec.{T, eqb, eqb→eq}
use lib.ListN.{length, get_or, length-append, length-map}
use Rattle.rules.specs.Lists.{All, pick}
use Rattle.rules.specs.Kinds.{number, variable, function, fix, lift, quote, splice, application, match_number, match_application, match_lift, match_function, match_fix, Unary, Ternary, match_variable, match_shape, Kind, leaf₀, unary₁, binary₂, ternary₃, match}
use Rattle.rules.specs.Terms.{Fields, Term, leaf, unary, binary, ternary, size}
use Rattle.rules.specs.Editions.{Edition, HasEveryKind}
use Rattle.rules.specs.Binders.{binds₁, binds₃}
use Rattle.rules.specs.Types.{Table, Entry, no_entry, Nat}
use Rattle.rules.specs.Conditions.{equal, Holds, same, between}
use Rattle.rules.specs.FieldUses.{TypeFields, given, formed}
use Rattle.rules.specs.Typing.{Env, under, bound, Typed}
use Rattle.rules.specs.Format.{Record, most_types, most_records, table_of}
use Rattle.rules.specs.Links.{linked, laid, written, root_tree, first_term}
use Rattle.rules.specs.Check.{kind_rule, entry_rule, naming}
use Rattle.rules.specs.Meets.{MeetsForm, MeetsLayout, Meets}
use Rattle.rules.specs.WholeRun.{Passed}
use Rattle.rules.proofs.General.{all_append}
use Rattle.rules.proofs.KindTable.{kind_range}
use Rattle.rules.proofs.Meaning.{check_answers, types_counted}
use Rattle.rules.proofs.Laid.{size_some, length_laid, Laid, laid_at, tree_back, each_good, named_once}
use Rattle.rules.proofs.Bytes.{EntryFits, RecordFits, Back, bytes_back}

-- The numbers of a good table and of a typed term fit their fields.
pub kind_cases : {P : Type 0} (n : ℕ) (x : Entry) → Holds (kind_rule n x) → (x ≡ Nat → P) → (x.kind ≡ 2 → x.a < n → x.b < n → P) → (x.kind ≡ 3 → x.a < n → x.b ≡ 0 → P) → P
kind_cases {P} n x h nat fn code = go (eqb x.kind 1) (eqb x.kind 2) (eqb→eq x.kind 2) h
  where
    go : (c d : Bool) → (T d → x.kind ≡ 2) → Holds (pick c (same x Nat ∷ []) (pick d (between 1 x.a (n - 1) ∷ between 1 x.b (n - 1) ∷ []) (equal x.kind 3 ∷ between 1 x.a (n - 1) ∷ equal x.b 0 ∷ []))) → P
    go true d k (e, _) = nat e
    go false true k (p, (q, _)) = fn (k tt) (omega arith) (omega arith)
    go false false k (e, (p, (q, _))) = code e (omega arith) q

kind_fits : (n : ℕ) (x : Entry) → n ≤ most_types → Holds (kind_rule n x) → EntryFits x
kind_fits n x b h = kind_cases n x h (λ e. rw e (omega arith)) (λ k p q. omega arith) (λ k p q. omega arith)

entries_fit : (xs types : Table) (m : ℕ) → length types ≤ most_types → ((i : ℕ) → i < length xs → Holds (kind_rule (suc (m + i)) (get_or xs i no_entry))) → m + length xs ≤ length types → All EntryFits xs
entries_fit [] types m b h k = tt
entries_fit (x ∷ xs) types m b h k = (kind_fits (suc (m + 0)) x (omega arith) (h 0 (omega arith)), entries_fit xs types (suc m) b (λ i j. let e : m + suc i ≡ suc m + i = omega arith in rw e at (h (suc i) (omega arith))) (omega arith))

fields_fit : (types : Table) (Γ : Env) (k : Kind) (f : Fields) → length types ≤ most_types → length Γ ≤ 4096 → Holds (formed types k f) → Holds (bound Γ k f)
    → (f.type < 65536) × (f.a < 65536) × (f.b < 65536) × (f.value < 4294967296)
fields_fit types Γ (leaf₀ number) f few low (t, (a, (b, (v, _)))) i = omega arith
fields_fit types Γ (leaf₀ variable) f few low (t, (a, (b, (v, _)))) (i, _) = omega arith
fields_fit types Γ (unary₁ function) f few low (t, (a, (b, (v, _)))) i = omega arith
fields_fit types Γ (unary₁ fix) f few low (t, (a, (b, (v, _)))) i = omega arith
fields_fit types Γ (unary₁ lift) f few low (t, (a, (b, (v, _)))) i = omega arith
fields_fit types Γ (unary₁ quote) f few low (t, (a, (b, (v, _)))) i = omega arith
fields_fit types Γ (unary₁ splice) f few low (t, (a, (b, (v, _)))) i = omega arith
fields_fit types Γ (binary₂ application) f few low (t, (a, (b, (v, _)))) i = omega arith
fields_fit types Γ (ternary₃ (match match_variable)) f few low (t, (a, (b, (v, _)))) (i, _) = omega arith
fields_fit types Γ (ternary₃ (match (match_shape match_number))) f few low (t, (a, (b, (v, _)))) i = omega arith
fields_fit types Γ (ternary₃ (match (match_shape match_application))) f few low (t, (a, (b, (v, _)))) i = omega arith
fields_fit types Γ (ternary₃ (match (match_shape match_lift))) f few low (t, (a, (b, (v, _)))) i = omega arith
fields_fit types Γ (ternary₃ (match (match_shape match_function))) f few low (t, (a, (b, (v, _)))) i = omega arith
fields_fit types Γ (ternary₃ (match (match_shape match_fix))) f few low (t, (a, (b, (v, _)))) i = omega arith

-- A node binds one variable at most in its only child, and two in a match's success branch.
pub binds_one : (k : Unary) (f : Fields) → length (binds₁ k f) ≤ 1
binds_one function f = omega arith
binds_one fix f = omega arith
binds_one lift f = omega arith
binds_one quote f = omega arith
binds_one splice f = omega arith

pub binds_two : (k : Ternary) (f : Fields) → length (binds₃ k f) ≤ 2
binds_two (match match_variable) f = omega arith
binds_two (match (match_shape match_number)) f = omega arith
binds_two (match (match_shape match_application)) f = omega arith
binds_two (match (match_shape match_lift)) f = omega arith
binds_two (match (match_shape match_function)) f = omega arith
binds_two (match (match_shape match_fix)) f = omega arith

pub under_length : (l : ℕ) (ns : List ℕ) (Γ : Env) → length (under l ns Γ) ≡ length ns + length Γ
under_length l ns Γ = rw (length-append, length-map)

module _ (types : Table) (few : length types ≤ most_types) where
  node_fits : (Γ : Env) (k : Kind) (f : Fields) (first next : ℕ) → length Γ ≤ 4096 → first < 65536 → next < 65536 → Holds (formed types k f) → Holds (bound Γ k f) → RecordFits (linked k f first next)
  node_fits Γ k f first next low p q o i =
      let (t, a, b, v) = fields_fit types Γ k f few low o i in
      record { kind = omega (arith, kind_range k); type = t; a = a; b = b; value = v; first = p; next = q }

  -- A term of 2,048 records stands under at most twice as many binders.
  laid_fits : (t : Term) (n next : ℕ) (Γ : Env) (l : ℕ) → Typed types Γ l t → length Γ + 2 * size t ≤ 4096 → n + size t ≤ 4096 → next < 65536 → All RecordFits (laid n next t)
  unfolding Typed size laid
  laid_fits (leaf k f) n next Γ l (o, i, _, _) low b q = (node_fits Γ (leaf₀ k) f 0 next (omega arith) (omega arith) q o i, tt)
  laid_fits (unary k f t) n next Γ l ((o, i, _, _), h) low b q =
      (node_fits Γ (unary₁ k) f (n + 1) next (omega arith) (omega arith) q o i, laid_fits t (n + 1) 0 _ _ h (omega (arith, under_length l (binds₁ k f) Γ, binds_one k f)) (omega arith) (omega arith))
  laid_fits (binary k f t u) n next Γ l ((o, i, _, _), h, j) low b q =
      let m = n + 1 + size t in (
        node_fits Γ (binary₂ k) f (n + 1) next (omega arith) (omega arith) q o i,
        all_append RecordFits (laid (n + 1) m t) (laid m 0 u) (laid_fits t (n + 1) m _ _ h (omega arith) (omega arith) (omega arith)) (laid_fits u m 0 _ _ j (omega arith) (omega arith) (omega arith)),
      )
  laid_fits (ternary k f t s e) n next Γ l ((o, i, _, _), h, j, y) low b q =
      let m = n + 1 + size t in
      let r = m + size s in (
        node_fits Γ (ternary₃ k) f (n + 1) next (omega arith) (omega arith) q o i,
        all_append RecordFits (laid (n + 1) m t) (laid m r s ++ laid r 0 e) (laid_fits t (n + 1) m _ _ h (omega arith) (omega arith) (omega arith))
            (all_append RecordFits (laid m r s) (laid r 0 e) (laid_fits s m r _ _ j (omega (arith, under_length 0 (binds₃ k f) Γ, binds_two k f)) (omega arith) (omega arith)) (laid_fits e r 0 _ _ y (omega arith) (omega arith) (omega arith))),
      )

-- A table of 1 to 256 good entries.
pub record GoodTable (types : Table) : Type 0 where
  pub some : 0 < length types
  pub few : length types ≤ most_types
  pub entries : (n : ℕ) → 1 ≤ n → n < 1 + length types → Holds (entry_rule types n)

-- The table of a program of good layout is one.
pub layout_table : (fields : TypeFields) (edition : Edition) (program : List ℕ) → MeetsLayout fields edition program → GoodTable (table_of program)
layout_table fields edition program m = let T = types_counted program in record { some = omega (arith, m.counts.0); few = omega (arith, m.counts.0); entries = m.form.entries }

once_named : (rs : List Record) (m : ℕ) → naming rs m ≡ pick (eqb m 1) 0 1 → Holds (pick (eqb m 1) [] (equal (naming rs m) 1 ∷ []))
once_named rs m h = go (eqb m 1) h
  where
    go : (b : Bool) → naming rs m ≡ pick b 0 1 → Holds (pick b [] (equal (naming rs m) 1 ∷ []))
    go true h = tt
    go false h = (h, tt)

-- Written and checked again.
module _ (types : Table) (t : Term) (table : GoodTable types) (typed : Typed types [] 0 t) (small : size t ≤ most_records) where
  abbrev rs : List Record
  rs = laid 1 0 t

  laid_whole : Laid rs 1 0 t
  laid_whole = laid_at rs t 1 0 [] (sym (append-nil rs)) (omega arith) (omega (arith, length_laid 1 0 t)) (inl refl)

  root_back : root_tree rs ≡ t
  root_back = tree_back rs (length rs) t 1 0 (omega arith) (omega (arith, length_laid 1 0 t)) laid_whole

  records_meet : (edition : Edition) → HasEveryKind edition → MeetsForm given edition types rs
  records_meet edition all =
      let R : length rs ≡ size t = length_laid 1 0 t in
      let good = each_good rs edition all types t 1 0 [] 0 laid_whole typed in
      record {
        entries = table.entries;
        fielded = λ m a b. (good m a (omega arith)).fielded;
        unwritten = λ m a b. tt;
        linked = λ m a b. ((good m a (omega arith)).first_good, ((good m a (omega arith)).next_good, once_named rs m (named_once rs t laid_whole (sym R) m a b)));
        chained = λ m a b. (good m a (omega arith)).chained;
      }

  pub back : Back types (laid 1 0 t)
  back = bytes_back types rs (omega arith) (omega (arith, length_laid 1 0 t))
      (entries_fit types types 0 table.few (λ i h. let e : 0 + i ≡ i = omega arith in rw e (table.entries (suc i) (omega arith) (omega arith)).1) (omega arith))
      (laid_fits types table.few t 1 0 [] 0 typed (omega arith) (omega arith) (omega arith))

  pub read_back : first_term (written types t) ≡ t
  read_back = rw back.records_back root_back

  pub written_meets : (edition : Edition) → HasEveryKind edition → Meets edition (written types t)
  written_meets edition all = record {
    layout = record {
      counts = rw (back.type_count_back, back.record_count_back, length_laid) (omega (arith, size_some t));
      exact = rw (back.type_count_back, back.record_count_back) back.length_back;
      form = rw (back.table_back, back.records_back) (records_meet edition all);
    };
    typed = rw (back.table_back, read_back) typed;
  }

  pub term_passed : (edition : Edition) → HasEveryKind edition → Passed edition types t
  term_passed edition all = record {
    checked = rw read_back at (check_answers edition (written types t) (written_meets edition all));
    table_back = back.table_back;
    term_back = read_back;
  }
