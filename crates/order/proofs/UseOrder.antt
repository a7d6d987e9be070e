-- Tables in order of use, worked out for small terms. The types are those of the bench sheet's one table.
use mathlib.Core.List.{[], ◌∷◌}
use mathlib.Core.Path.{◌≡◌, refl}
use Rattle.rules.specs.Kinds.{match, match_shape, match_application}
use Rattle.rules.specs.Terms.{Term, ternary}
use Rattle.rules.specs.Types.{Table, Nat, Fn, Code}
use Rattle.rules.specs.BenchSheet.{fields, table, num, var, fun, app, quo, identity}
use Rattle.inference.specs.FullTypes.{fn, code, nat, full}
use Rattle.order.specs.FullTypes.{in_full}
use Rattle.order.specs.Numbers.{number_among}
use Rattle.order.specs.Order.{types_named, need, need_all, used, table_by, renumbered_term, written_table, written_term}
use Rattle.rules.specs.Traces.{total_of}
use Rattle.rules.specs.Run.{valued, ended}
use Rattle.order.specs.RunInOrder.{output_in_order, accepted_in_order}

-- Type 9 in full, and its table: "parts before the whole".
in_full_lem : in_full table 9 ≡ fn (code nat) (fn nat (code nat))
unfolding in_full full
in_full_lem = refl

parts_first : written_table table (var 9 0) ≡ Nat ∷ Code 1 ∷ Fn 1 2 ∷ Fn 2 3 ∷ []
unfolding used need_all need number_among table_by types_named
parts_first = refl

-- Fn(Fn(Nat,Nat),Code(Nat)) of a table in which the code comes first: "left first".
left_first : written_table (Nat ∷ Code 1 ∷ Fn 1 1 ∷ Fn 3 2 ∷ []) (var 4 0) ≡ Nat ∷ Fn 1 1 ∷ Code 1 ∷ Fn 2 3 ∷ []
unfolding used need_all need number_among table_by types_named
left_first = refl

-- "Type, then a and b where they name types": a match of an application, of type Code(Nat), with a Code(Fn(Nat,Nat)) and b Code(Nat).
abbrev matching : Term
matching = ternary (match (match_shape match_application)) (fields 3 4 3 0) (quo 3 (app 1 identity (num 10))) (var 3 0) (quo 3 (num 2))

type_first : written_table table matching ≡ Nat ∷ Code 1 ∷ Fn 1 1 ∷ Code 3 ∷ []
unfolding used need_all need number_among table_by types_named
type_first = refl

new_numbers : written_term table matching ≡ ternary (match (match_shape match_application)) (fields 2 4 2 0) (quo 2 (app 1 (fun 3 1 (var 1 0)) (num 10))) (var 2 0) (quo 2 (num 2))
unfolding used need_all need number_among types_named renumbered_term
new_numbers = refl

-- The same program over a table in another order, with entries that it does not use.
abbrev other : Table
other = Nat ∷ Fn 1 1 ∷ Fn 2 1 ∷ Code 2 ∷ Code 3 ∷ Code 1 ∷ []

abbrev matching' : Term
matching' = ternary (match (match_shape match_application)) (fields 6 4 6 0) (quo 6 (app 1 identity (num 10))) (var 6 0) (quo 6 (num 2))

written_alike : output_in_order table matching ≡ output_in_order other matching'
unfolding used need_all need number_among table_by types_named renumbered_term
written_alike = refl

-- "The root type that a run .. returns is a number in the written table", whatever its number in the input's.
root_in_written_table : (accepted_in_order other (ended valued matching')).root_type ≡ 2
unfolding used need_all need number_among types_named renumbered_term total_of
root_in_written_table = refl

-- An index is no type: it stays.
index_stays : written_term other (fun 2 1 (var 1 5)) ≡ fun 2 1 (var 1 5)
unfolding used need_all need number_among types_named renumbered_term
index_stays = refl
