-- What is wanted for a record, by its kind.
use Prim.Native.Nat.{ℕ}
use mathlib.Core.List.{List}
use mathlib.Core.Path.{◌≡◌, sym, ap, ◌∙◌}
use Rattle.std.specs.Prelude.{slice_index}
use Rattle.rules.specs.Kinds.{kind_of}
use Rattle.rules.specs.Types.{Table}
use Rattle.rules.specs.Typing.{Env}
use Rattle.kinds.specs.declared.names.Kind.{Kind}
use Rattle.kinds.specs.Named.{kind_meant}
use Rattle.inference.specs.Inference.{known, wanted}
use Rattle.records.specs.declared.Record.{Record}
use Rattle.judging.specs.Tests.{fields_meant, IsMatch}
use Rattle.assigning.specs.declared.Candidate.{Candidate}
use Rattle.assigning.specs.Assigning.{wanted_meant, Wants}

module _ (types : Table) (Γ : Env) (r : Record) (children : List ℕ) (w : Candidate) (kind : Kind) (named : kind_meant kind ≡ kind_of r.kind) where
  pub kind_wants : (k : Kind) → kind ≡ k → wanted_meant w ≡ wanted types Γ (kind_meant k) (fields_meant r) (slice_index children 0) (slice_index children 1) → Wants types Γ r children w
  kind_wants k e h = record { is = h ∙ ap (λ k. wanted types Γ k (fields_meant r) (slice_index children 0) (slice_index children 1)) (sym (ap kind_meant e) ∙ named) }

  -- A match wants the type of its success.
  pub match_wants : IsMatch kind → wanted_meant w ≡ known (slice_index children 1) → Wants types Γ r children w
  match_wants m h = record { is = h ∙ ap (λ k. wanted types Γ k (fields_meant r) (slice_index children 0) (slice_index children 1)) (sym m.is ∙ named) }
