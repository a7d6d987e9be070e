-- What is read of a record, by its number, and of its children.
use Prim.Native.Nat.{ℕ}
use mathlib.Core.Path.{◌≡◌, ap, ◌∙◌}
use mathlib.Core.List.{List}
use Rattle.rules.specs.Format.{Record}
use Rattle.rules.specs.Links.{first_of, next_of}
use Rattle.records.specs.declared.Record.{Record as Read}
use Rattle.records.specs.Places.{IsRecord, Follows}
use Rattle.typing.specs.Reading.{CanRead, second_of, third_of}

-- Its first child, its second and its third.
module _ (rs : List Record) (n : ℕ) (r : Read) (own : IsRecord rs n r) (can : CanRead rs n) where
  pub first_link : r.first ≡ first_of rs n
  first_link = ap (λ x. x.first) own.is ∙ can.linked.first n can.real can.within

  pub second_link : (s : ℕ) → Follows rs r.first s → s ≡ second_of rs n
  second_link s h = h.is ∙ ap (next_of rs) first_link

  pub third_link : (s e : ℕ) → Follows rs r.first s → Follows rs s e → e ≡ third_of rs n
  third_link s e h k = k.is ∙ ap (next_of rs) (second_link s h)
