-- A record is judged by what is read of it and of its children.
use Prim.Native.Nat.{ℕ}
use mathlib.Core.Path.{◌≡◌}
use mathlib.Core.List.{List, [], ◌∷◌}
use Rattle.std.specs.Prelude.{Result}
use Rattle.rules.specs.Kinds.{kind_of}
use Rattle.rules.specs.Kinds.{Kind as MeantKind}
use Rattle.rules.specs.Types.{Table}
use Rattle.rules.specs.Typing.{Env}
use Rattle.rules.specs.Format.{Record, record_no}
use Rattle.rules.specs.Links.{first_of}
use Rattle.rules.specs.Check.{type_no, judged}
use Rattle.kinds.specs.declared.names.Kind.{Kind}
use Rattle.kinds.specs.Named.{kind_meant}
use Rattle.records.specs.declared.Record.{Record as Read}
use Rattle.records.specs.Meant.{record_meant}
use Rattle.records.specs.Places.{Follows}
use Rattle.refusals.specs.declared.reasons.Reason.{Reason}
use Rattle.judging.specs.Tests.{Judges}
use Rattle.typing.specs.Reading.{IsType, second_of, third_of}
use Rattle.typing.specs.Walking.{judged_at, JudgesRead}
use Rattle.typing.proofs.RecordLaws.{first_link, second_link, third_link}

judged_by : (types : Table) (rs : List Record) (Γ : Env) (l n : ℕ) (k : MeantKind) (r : Record) (c s e x y z : ℕ) → k ≡ kind_of r.kind → r ≡ record_no rs n → c ≡ first_of rs n
    → s ≡ second_of rs n → e ≡ third_of rs n → x ≡ type_no rs c → y ≡ type_no rs s → z ≡ type_no rs e → judged types Γ l n k r.fields x y z ≡ judged_at types rs Γ l n
unfolding judged_at
judged_by types rs Γ l n k r c s e x y z hk hr hc hs he hx hy hz = rw (hz, hy, hx, he, hs, hc, hk, hr)

pub own_told : (types : Table) (rs : List Record) (Γ : Env) (l : ℕ) (kind : Kind) (r : Read) (q : Result Unit Reason) (s e x y z : ℕ) → Follows rs r.first s → Follows rs s e → IsType rs r.first x
    → IsType rs s y → IsType rs e z → Judges types Γ l kind r (x ∷ y ∷ z ∷ []) q → JudgesRead types rs Γ l kind r q
own_told types rs Γ l kind r q s e x y z hs he hx hy hz j = record {
  tells = λ n here own is.
      rw (
      ← judged_by types rs Γ l n (kind_meant kind) (record_meant r) r.first s e x y z is own.is (first_link rs n r own here) (second_link rs n r own here s hs)
      (third_link rs n r own here s e hs he) hx.is hy.is hz.is
      ) (j.tells n);
}
