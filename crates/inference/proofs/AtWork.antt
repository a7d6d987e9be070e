-- Inference at work, by computing: 13 and 14, the lowest number of a record, levels below a fault, and the order in which types are appended.
use Prim.Native.Nat.{ℕ}
use mathlib.Core.List.{[], ◌∷◌}
use mathlib.Core.Path.{◌≡◌, refl}
use lib.ListN.{length}
use Rattle.rules.specs.Lists.{listed, total, joined}
use Rattle.rules.specs.Kinds.{number, variable, function, lift, quote, splice, application, match_number, match_shape, match, kind_of, numbered}
use Rattle.rules.specs.Editions.{first_edition}
use Rattle.rules.specs.Terms.{Fields, Term, leaf, unary, binary, ternary, size}
use Rattle.rules.specs.Types.{Table, Nat, Fn, Code}
use Rattle.rules.specs.Format.{table_of, records_of, program_bytes}
use Rattle.rules.specs.Links.{laid, written}
use Rattle.rules.specs.Refusals.{bad_level, bad_type, type_written, table_full, unless, ◌then◌, lowest}
use Rattle.rules.specs.Check.{judged, form_refusal, size_refusal, layout_refusal}
use Rattle.rules.specs.Limits.{codes}
use Rattle.inference.specs.Inference.{retyped, having, before, Inference, faulty, filled, unless_refused, ◌and_then◌, assigned, inferred_from}
use Rattle.inference.specs.Infer.{inference}

-- Inference of a term whose records stand in preorder, so that places are preorder numbers.
abbrev in_preorder : Table → Term → Inference
in_preorder types t = inferred_from (length (laid 1 0 t)) types (laid 1 0 t) [] 0 1

-- A record's fields with the type a, or the value v.
abbrev binding : ℕ → Fields
binding a = record { type = 0; a = a; b = 0; value = 0 }

abbrev literal : ℕ → Fields
literal v = record { type = 0; a = 0; b = 0; value = v }

-- 13: the one record of this program has its type written.
pub type_written_lem : inference first_edition (written (Nat ∷ []) (leaf number (retyped 1 (literal 42)))) ≡ faulty (record { number = type_written; place = 1 })
unfolding total listed joined size table_of records_of program_bytes laid kind_of numbered unless ◌then◌ lowest form_refusal size_refusal layout_refusal unless_refused inference
type_written_lem = refl

-- `codes` has 256 entries: Nat, Code(1), Code(2), .. 14: Fn(1,1) would be a 257th.
pub a_257th : in_preorder codes (unary function (binding 1) (leaf number (literal 5))) ≡ faulty (record { number = table_full; place = 1 })
unfolding listed size laid kind_of numbered having before unless ◌then◌ judged unless_refused ◌and_then◌ assigned inferred_from
a_257th = refl

-- "Its lowest of 10, 11, 12 and 14": so would Code(256), and 256 isn't Nat.
pub twelve_first : in_preorder codes (unary function (binding 256) (unary lift (binding 0) (leaf variable (binding 0)))) ≡ faulty (record { number = bad_type; place = 2 })
unfolding listed size laid kind_of numbered having before unless ◌then◌ judged unless_refused ◌and_then◌ assigned inferred_from
twelve_first = refl

-- "A quote's child is at level 1" also where the quote itself may not stand: the splice and the lift below it are no fault, the inner quote is.
pub below_a_fault : in_preorder (Nat ∷ []) (unary quote (binding 0) (unary quote (binding 0) (unary splice (binding 0) (unary lift (binding 0) (leaf number (literal 5))))))
    ≡ faulty (record { number = bad_level; place = 2 })
unfolding size laid kind_of numbered having before unless ◌then◌ judged unless_refused ◌and_then◌ assigned inferred_from
below_a_fault = refl

-- (function Nat: 0) 42: Fn(1,1) is appended once, after Nat; the types are 1, 2, 1 and 1.
pub appended_once : in_preorder (Nat ∷ []) (binary application (binding 0) (unary function (binding 1) (leaf variable (binding 0))) (leaf number (literal 42)))
    ≡ filled (Nat ∷ Fn 1 1 ∷ []) (binary application (retyped 1 (binding 0))
    (unary function (retyped 2 (binding 1)) (leaf variable (retyped 1 (binding 0)))) (leaf number (retyped 1 (literal 42))))
unfolding size laid kind_of numbered having before unless ◌then◌ judged unless_refused ◌and_then◌ assigned inferred_from
appended_once = refl

-- "Children first, in chain order": the function's Fn(1,1) before the argument's Code(1), which its quote makes.
pub appended_in_order : in_preorder (Nat ∷ []) (binary application (binding 0) (unary function (binding 1) (leaf variable (binding 0)))
    (ternary (match (match_shape match_number)) (literal 5) (unary quote (binding 0) (leaf number (literal 5))) (leaf number (literal 6)) (leaf number (literal 7))))
    ≡ filled (Nat ∷ Fn 1 1 ∷ Code 1 ∷ []) (binary application (retyped 1 (binding 0)) (unary function (retyped 2 (binding 1)) (leaf variable (retyped 1 (binding 0))))
    (ternary (match (match_shape match_number)) (retyped 1 (literal 5)) (unary quote (retyped 3 (binding 0)) (leaf number (retyped 1 (literal 5))))
    (leaf number (retyped 1 (literal 6))) (leaf number (retyped 1 (literal 7)))))
unfolding size laid kind_of numbered having before unless ◌then◌ judged unless_refused ◌and_then◌ assigned inferred_from
appended_in_order = refl
