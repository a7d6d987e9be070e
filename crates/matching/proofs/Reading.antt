-- What the record x that is read at the place p of a match says of it, and where its code stands. `reading` for search.
use Prim.Native.Nat.{ℕ, ◌+◌, ◌^◌, ◌<◌}
use native.Mathlib.Omega.{arith}
use mathlib.Core.List.{List}
use mathlib.Core.Path.{◌≡◌, ap, sym, subst, ◌∙◌}
use lib.ListN.{length, get_or}
use mir.Syntax.{w64}
use mir.Val.{Fits}
use Rattle.rules.specs.Kinds.{quote, match, ternary₃, kind_of}
use Rattle.rules.specs.Types.{Table}
use Rattle.rules.specs.Conditions.{Holds}
use Rattle.rules.specs.FieldUses.{formed}
use Rattle.rules.specs.Format.{Record, no_record}
use Rattle.rules.proofs.KindTable.{kind_back}
use Rattle.kinds.specs.Named.{kind_meant, IsKind}
use Rattle.kinds.specs.declared.names.Kind.{Kind}
use Rattle.kinds.specs.declared.names.Kind.TheVariants.{MatchApplication, MatchFunction}
use Rattle.records.specs.declared.Record.{Record as Read}
use Rattle.records.specs.Meant.{record_meant}
use Rattle.records.specs.Places.{Within}
use Rattle.records.specs.View.{records_in}
use Rattle.records.proofs.Records.{records_length}
use Rattle.terms.proofs.Readings.{tree_kind}
use Rattle.terms.proofs.Trees.{at_first}
use Rattle.matching.specs.Matches.{MatchRedex, CodeAt}
use Rattle.contraction.proofs.Places.{Before, before_has, only_child}

-- Its place, that of its code, and the next: they are in the slice, or fit.
module _ (types : Table) (p lo : ℕ) (m : MatchRedex) where
  module _ (rs : List Record) (h : CodeAt types rs p lo m) where
    pub code_before : Before rs lo (p + 2) m.code
    code_before = only_child rs lo (p + 1) (p + 2) quote m.fields_of_quote m.code (omega arith) (record { there = h.there; upto = h.before; low = h.low })

    pub code_in : p + 2 < length rs
    code_in = at_first rs (p + 2) m.code code_before.there

    pub code_known : (y : Read) → record_meant y ≡ get_or rs (p + 2) no_record → IsKind y.kind
    code_known y ey = rw (ap (λ r. r.kind) ey) (tree_kind rs (p + 2) (before_has code_before)).known

  module _ (s : List ℕ) (h : CodeAt types (records_in s) p lo m) (l : length s < 2 ^ 64) where
    pub code_fits : Fits w64 (p + 2)
    code_fits = omega (arith, code_in (records_in s) h, records_length s)

    pub below_code_fits : Fits w64 (p + 3)
    below_code_fits = omega (arith, code_in (records_in s) h, records_length s)

-- Its kind and its fields; the types that it binds are entries.
module _ (types : Table) (rs : List Record) (p lo : ℕ) (m : MatchRedex) (h : CodeAt types rs p lo m) (x : Read) (ex : record_meant x ≡ get_or rs p no_record) where
  pub fields_read : (record_meant x).fields ≡ m.fields
  fields_read = ap (λ y. y.fields) ex ∙ h.fields_held

  pub kind_known : kind_of x.kind ≡ ternary₃ (match m.kind)
  kind_known = ap (λ y. kind_of y.kind) ex ∙ ap kind_of h.kind_held ∙ kind_back (ternary₃ (match m.kind))

  module _ (k : Kind) (e : kind_meant k ≡ kind_of x.kind) where
    good_fields : Holds (formed types (kind_meant k) (record_meant x).fields)
    good_fields = subst (λ f. Holds (formed types (kind_meant k) f)) (sym fields_read) (subst (λ k. Holds (formed types k m.fields)) (sym (e ∙ kind_known)) h.good)

    pub second_bound : k ≡ MatchApplication → Within types x.b
    second_bound q = let g = subst (λ k. Holds (formed types (kind_meant k) (record_meant x).fields)) q good_fields in record { some = g.1.1.0.0; most = g.1.1.0.1 }

    pub first_bound : k ≡ MatchFunction → Within types x.a
    first_bound q = let g = subst (λ k. Holds (formed types (kind_meant k) (record_meant x).fields)) q good_fields in record { some = g.1.0.0; most = g.1.0.1 }

pub ruleset reading = (code_in, code_fits, below_code_fits, first_bound)
