-- Evaluation contexts: "application steps its first child until that is a value, then its second; fix, lift and matches step the first child".
-- A context is a term with a hole in place of one of its trees, the focus; it is an evaluation context where the rules step that tree.
use Rattle.std.specs.Prelude.{ℕ, ◌+◌, List, [], ◌∷◌, T, length}
use Rattle.rules.specs.Lists.{All}
use Rattle.rules.specs.Kinds.{Unary, function, fix, lift, quote, splice, Binary, Ternary, Kind, leaf₀, unary₁, binary₂, ternary₃}
use Rattle.rules.specs.Terms.{Fields, Term, unary, binary, ternary}
use Rattle.rules.specs.Binders.{binds₁, binds₃}
use Rattle.rules.specs.Typing.{Env, under, first_level}
use Rattle.rules.specs.Steps.{steps_child, Finished}
use Rattle.terms.specs.Children.{sizes}

-- A frame is a record with a hole in place of one of its children: the only child; the first or the second of two; the first, the second or the
-- third of three. It has the record's kind and fields, and the other children in their order.
pub data Frame : Type 0 where
  only : Unary → Fields → Frame
  first second : Binary → Fields → Term → Frame
  first₃ second₃ third₃ : Ternary → Fields → Term → Term → Frame

-- The frame's tree, with t in the hole.
abbrev pub fill : Frame → Term → Term
fill (only k f) t = unary k f t
fill (first k f u) t = binary k f t u
fill (second k f s) t = binary k f s t
fill (first₃ k f u v) t = ternary k f t u v
fill (second₃ k f s v) t = ternary k f s t v
fill (third₃ k f s u) t = ternary k f s u t

-- The kind and the fields of its record.
abbrev pub frame_kind : Frame → Kind
frame_kind (only k f) = unary₁ k
frame_kind (first k f u) = binary₂ k
frame_kind (second k f s) = binary₂ k
frame_kind (first₃ k f u v) = ternary₃ k
frame_kind (second₃ k f s v) = ternary₃ k
frame_kind (third₃ k f s u) = ternary₃ k

abbrev pub frame_fields : Frame → Fields
frame_fields (only k f) = f
frame_fields (first k f u) = f
frame_fields (second k f s) = f
frame_fields (first₃ k f u v) = f
frame_fields (second₃ k f s v) = f
frame_fields (third₃ k f s u) = f

-- The children before the hole and after it.
abbrev pub children_before : Frame → List Term
children_before (only k f) = []
children_before (first k f u) = []
children_before (second k f s) = s ∷ []
children_before (first₃ k f u v) = []
children_before (second₃ k f s v) = s ∷ []
children_before (third₃ k f s u) = s ∷ u ∷ []

abbrev pub children_after : Frame → List Term
children_after (only k f) = []
children_after (first k f u) = u ∷ []
children_after (second k f s) = []
children_after (first₃ k f u v) = u ∷ v ∷ []
children_after (second₃ k f s v) = v ∷ []
children_after (third₃ k f s u) = []

-- Which child the hole is, the first being 0.
abbrev pub hole_number : Frame → ℕ
hole_number F = length (children_before F)

-- The hole's level, where the frame's record stands at level l: "a quote's child is at level 1, a splice's at level 0, other children at their
-- parent's level".
abbrev pub hole_level : Frame → ℕ → ℕ
hole_level F l = first_level (frame_kind F) l

-- The other way round: the level of a record that steps its hole at level l. A quote does so at level 0 only, and a splice at level 1.
abbrev pub outer_level : Kind → ℕ → ℕ
outer_level (leaf₀ k) l = l
outer_level (unary₁ function) l = l
outer_level (unary₁ fix) l = l
outer_level (unary₁ lift) l = l
outer_level (unary₁ quote) l = 0
outer_level (unary₁ splice) l = 1
outer_level (binary₂ k) l = l
outer_level (ternary₃ k) l = l

-- The hole's binders, where the record stands at level l under Γ: "a function binds over its child at its own level", and kinds 11 to 14 bind
-- "over success only", at level 0.
abbrev pub over_hole : ℕ → Frame → Env → Env
over_hole l (only k f) Γ = under l (binds₁ k f) Γ
over_hole l (first k f u) Γ = Γ
over_hole l (second k f s) Γ = Γ
over_hole l (first₃ k f u v) Γ = Γ
over_hole l (second₃ k f s v) Γ = under 0 (binds₃ k f) Γ
over_hole l (third₃ k f s u) Γ = Γ

-- A record at level l steps the child in the hole, and it is that child's turn: the children before it are done.
abbrev pub StepsHole : ℕ → Frame → Type 0
StepsHole l F = T (steps_child l (frame_kind F) (hole_number F)) × All (Finished l) (children_before F)

-- A context is the frames around its hole, the innermost first.
abbrev pub Context : Type 0
Context = List Frame

-- The whole term, with t in the hole.
unfoldable pub plug : Context → Term → Term
plug [] t = t
plug (F ∷ C) t = plug C (fill F t)

-- The hole's level, where the whole term stands at level l.
unfoldable pub level_at : ℕ → Context → ℕ
level_at l [] = l
level_at l (F ∷ C) = hole_level F (level_at l C)

-- The hole's binders, where the whole term stands at level l under Γ.
unfoldable pub binders_at : ℕ → Env → Context → Env
binders_at l Γ [] = Γ
binders_at l Γ (F ∷ C) = over_hole (level_at l C) F (binders_at l Γ C)

-- How many records of the whole term stand before the hole: record n of what fills it is record `left_size C + n` of the whole, in preorder.
unfoldable pub left_size : Context → ℕ
left_size [] = 0
left_size (F ∷ C) = left_size C + (1 + sizes (children_before F))

-- An evaluation context for a term at level l: each frame's record steps the child in its hole.
unfoldable pub Evaluation : ℕ → Context → Type 0
Evaluation l [] = Unit {0}
Evaluation l (F ∷ C) = StepsHole (level_at l C) F × Evaluation l C
