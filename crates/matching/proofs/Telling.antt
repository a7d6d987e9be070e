-- `matches` and `second_type`: a law for each thing that their bodies ask. `telling` for search.
use Prim.Native.Nat.{ℕ, ◌+◌, ◌^◌, ◌<◌}
use native.Mathlib.Omega.{arith}
use mathlib.Core.List.{List, [], ◌∷◌}
use mathlib.Core.Bool.{Bool, true, false}
use mathlib.Core.Option.{none, some}
use Rattle.std.specs.Prelude.{Option, None, Some}
use mathlib.Core.Path.{◌≡◌, refl, ap, ap₂, sym, subst, ◌∙◌}
use lib.Dec.{eqb}
use lib.ListN.{length, get_or}
use mir.Syntax.{w64}
use mir.Val.{Fits}
use Rattle.rules.specs.Lists.{pick}
use Rattle.rules.specs.Kinds.{application, Match, match, ternary₃, kind_of}
use Rattle.rules.specs.Terms.{Fields, Term, binary, root_kind, fields_of, type_of, number_held}
use Rattle.rules.specs.Types.{Table, part_a}
use Rattle.rules.specs.Matching.{quoted, matched, sought}
use Rattle.rules.specs.Format.{Record, no_record}
use Rattle.rules.proofs.KindTable.{kind_back}
use Rattle.rules.proofs.RuleKinds.{fails_unsought}
use Rattle.kinds.specs.Named.{kind_meant, Seeks}
use Rattle.kinds.specs.declared.names.Kind.{Kind as NamedKind}
use Rattle.kinds.specs.declared.names.Kind.TheVariants.{MatchNumber, MatchVariable, MatchApplication}
use Rattle.records.specs.declared.Record.{Record as Read}
use Rattle.records.specs.declared.Entry.{Entry as ReadEntry}
use Rattle.records.specs.Meant.{record_meant}
use Rattle.records.specs.Places.{IsEntry}
use Rattle.records.specs.View.{records_in}
use Rattle.records.proofs.Records.{records_length}
use Rattle.terms.specs.Preorder.{head, At, HasTree, Skips}
use Rattle.terms.proofs.Trees.{at_first, at_head}
use Rattle.matching.specs.Matches.{MatchRedex, is_some, CodeAt, HasCode, TellsMatch, HasApplication, SecondType}
use Rattle.contraction.proofs.Places.{first_child, second_child}
use Rattle.matching.proofs.Candidates.{Candidate, same_number, same_variable, an_application, a_number_lem, a_function, a_fix, named_once, candidate}
use Rattle.matching.proofs.Reading.{code_before, fields_read, kind_known}

-- The argument of an application stands behind its function.
pub first_fits : (s : List ℕ) (i : ℕ) → HasApplication (records_in s) i → length s < 2 ^ 64 → Fits w64 (i + 1)
first_fits s i h l = omega (arith, at_first (records_in s) i (binary application h.fields h.first h.second) h.there, records_length s)

module _ (rs : List Record) (i : ℕ) where
  pub first_there : HasApplication rs i → HasTree rs (i + 1)
  first_there h = record { tree = h.first; there = first_child rs i application h.fields h.first h.second h.there }

  module _ (at : ℕ) (k : Skips rs (i + 1) at) where
    second_at : (f : Fields) (t u : Term) → At rs i (binary application f t u) → At rs at u
    second_at f t u h = rw (k.is t (first_child rs i application f t u h)) (second_child rs i application f t u h)

    pub second_in : HasApplication rs i → at < length rs
    second_in h = at_first rs at h.second (second_at h.fields h.first h.second h.there)

    pub second_typed : (x : Read) → record_meant x ≡ get_or rs at no_record → SecondType rs i x.ty
    second_typed x ex = record { is = λ f t u h. ap (λ y. y.fields.type) (ex ∙ at_head rs at u (second_at f t u h)) }

-- A test that gives something or nothing.
test_told : (b : Bool) (ts : List Term) → b ≡ is_some (pick b (some ts) none)
test_told true ts = refl
test_told false ts = refl

-- The kind that is looked for.
seeks_this : (k : Match) (n : Option NamedKind) → Seeks (ternary₃ (match k)) n → (s : NamedKind) × (n ≡ Some s) × (kind_meant s ≡ sought k)
seeks_this k None h = absurd h
seeks_this k (Some s) h = (s, refl, h)

-- The records x and y of the match and of its code are read, of kinds k and d, and n is the kind that it looks for.
module _ (types : Table) (rs : List Record) (p : ℕ) (x y : Read) (ex : record_meant x ≡ get_or rs p no_record) (ey : record_meant y ≡ get_or rs (p + 2) no_record) (k : NamedKind)
    (ek : kind_meant k ≡ kind_of x.kind) (n : Option NamedKind) (en : Seeks (kind_meant k) n) (d : NamedKind) (ed : kind_meant d ≡ kind_of y.kind) where
  module _ (lo : ℕ) (m : MatchRedex) (h : CodeAt types rs p lo m) where
    code_at : At rs (p + 2) m.code
    code_at = (code_before types p lo m rs h).there

    code_read : record_meant y ≡ head m.code
    code_read = ey ∙ at_head rs (p + 2) m.code code_at

    code_kind : kind_meant d ≡ root_kind m.code
    code_kind = ed ∙ ap (λ r. kind_of r.kind) code_read ∙ kind_back (root_kind m.code)

    match_kind : kind_meant k ≡ ternary₃ (match m.kind)
    match_kind = ek ∙ kind_known types rs p lo m h x ex

    seeks_read : Seeks (ternary₃ (match m.kind)) n
    seeks_read = subst (λ k. Seeks k n) match_kind en

    code_unsought : (n ≡ Some d → ⊥) → root_kind m.code ≡ sought m.kind → ⊥
    code_unsought z q = let (s, e, w) = seeks_this m.kind n seeks_read in z (e ∙ ap (λ s. Some s) (named_once s d (w ∙ sym q ∙ sym code_kind)))

    code_candidate : n ≡ Some d → Candidate k m.kind m.code
    code_candidate q = candidate k m.kind m.code match_kind (sym code_kind ∙ subst (Seeks (ternary₃ (match m.kind))) q seeks_read)

  pub told_other : (n ≡ Some d → ⊥) → TellsMatch types rs p false
  told_other z = record { is = λ lo m h. sym (ap is_some (fails_unsought types m.kind m.fields m.code (code_unsought lo m h z))) }

  module _ (q : n ≡ Some d) where
    candidate_by : (i : NamedKind) → k ≡ i → (lo : ℕ) (m : MatchRedex) → CodeAt types rs p lo m → Candidate i m.kind m.code
    candidate_by i w lo m h = subst (λ i. Candidate i m.kind m.code) w (code_candidate lo m h q)

    pub application_there : HasCode types rs p → k ≡ MatchApplication → HasApplication rs (p + 2)
    application_there v w = go (candidate_by MatchApplication w v.lo v.found v.there) (code_at v.lo v.found v.there)
      where
        go : {j : Match} {c : Term} → Candidate MatchApplication j c → At rs (p + 2) c → HasApplication rs (p + 2)
        go (an_application g t u) h = record { fields = g; first = t; second = u; there = h }

    -- b is right of code that a match of kind i looks for.
    abbrev Told : NamedKind → Bool → Type 0
    Told i b = (j : Match) (c : Term) → Candidate i j c → (record_meant y).fields ≡ fields_of c → At rs (p + 2) c → b ≡ is_some (matched types j (record_meant x).fields c)

    told_by : (i : NamedKind) (b : Bool) → k ≡ i → Told i b → TellsMatch types rs p b
    told_by i b w told = record {
      is = λ lo m h.
          told m.kind m.code (candidate_by i w lo m h) (ap (λ r. r.fields) (code_read lo m h)) (code_at lo m h)
          ∙ ap (λ f. is_some (matched types m.kind f m.code)) (fields_read types rs p lo m h x ex);
    }

    pub told_number : (a b : ℕ) → k ≡ MatchNumber → a ≡ number_held (record_meant y).fields → b ≡ number_held (record_meant x).fields → TellsMatch types rs p (eqb a b)
    unfolding matched
    told_number a b w ea eb = told_by MatchNumber (eqb a b) w go
      where
        go : Told MatchNumber (eqb a b)
        go j c (same_number g) e h =
            ap₂ eqb (ea ∙ ap (λ f. number_held f) e) eb ∙ test_told (eqb (number_held g) (number_held (record_meant x).fields)) []

    pub told_variable : k ≡ MatchVariable → TellsMatch types rs p (eqb y.a x.a)
    unfolding matched
    told_variable w = told_by MatchVariable (eqb y.a x.a) w go
      where
        go : Told MatchVariable (eqb y.a x.a)
        go j c (same_variable g) e h = ap (λ f. eqb f.a x.a) e ∙ test_told (eqb g.a x.a) []

    pub told_application : (t : ℕ) (b : ReadEntry) → k ≡ MatchApplication → SecondType rs (p + 2) t → IsEntry types x.b b → TellsMatch types rs p (eqb t b.a)
    unfolding matched
    told_application t b w s i = told_by MatchApplication (eqb t b.a) w go
      where
        go : Told MatchApplication (eqb t b.a)
        go j c (an_application g v u) e h =
            ap₂ eqb (s.is g v u h) (ap (λ r. r.a) i.is) ∙ test_told (eqb (type_of u) (part_a types x.b)) (quoted x.b u ∷ quoted x.a v ∷ [])

    pub told_always : (k ≡ MatchNumber → ⊥) → (k ≡ MatchVariable → ⊥) → (k ≡ MatchApplication → ⊥) → TellsMatch types rs p true
    unfolding matched
    told_always a b e = told_by k true refl (λ j c. go k j c a b e)
      where
        go : (i : NamedKind) (j : Match) (c : Term) → (i ≡ MatchNumber → ⊥) → (i ≡ MatchVariable → ⊥) → (i ≡ MatchApplication → ⊥) → Candidate i j c → (record_meant y).fields ≡ fields_of c → At rs (p + 2) c → true ≡ is_some (matched types j (record_meant x).fields c)
        go i j c a b f (same_number g) e h = absurd (a refl)
        go i j c a b f (same_variable g) e h = absurd (b refl)
        go i j c a b f (an_application g v u) e h = absurd (f refl)
        go i j c a b f (a_number_lem g) e h = refl
        go i j c a b f (a_function g v) e h = refl
        go i j c a b f (a_fix g v) e h = refl

pub ruleset telling = (first_fits, first_there, second_in, second_typed)
