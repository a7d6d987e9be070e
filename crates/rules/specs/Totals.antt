-- Cases for the total of the replaced variables, which document 02 asks for in N2, beside those of the bench sheet and the slips. They have the sheet's form
-- and its table.
use Rattle.std.specs.Prelude.{List, [], ◌∷◌, ◌++◌}
use Rattle.rules.specs.Kinds.{match_shape, match_number, match_fix, match}
use Rattle.rules.specs.Terms.{Term, ternary}
use Rattle.rules.specs.Run.{valued, spent}
use Rattle.rules.specs.BenchSheet.{nat, nat_to_nat, nat_code, nat_to_nat_code, fn_to_fn, fields, num, var, fun, app, fixed, quo, spl, identity, Bench, bench}

-- fix(function Nat: (function Nat: 1) 0): both uses of the variable are of the fix's function.
abbrev pub doubled : Term
doubled = fixed nat (fun nat_to_nat nat (app nat (fun nat_to_nat nat (var nat 1)) (var nat 0)))

-- Quote(fix(function: 0)) matched as a fix, success: the bound one under a fix again.
abbrev pub refixed : Term
refixed = ternary (match (match_shape match_fix)) (fields nat_code nat_to_nat_code 0 0) (quo nat_code (fixed nat identity)) (quo nat_code (fixed nat (spl nat_to_nat (var nat_to_nat_code 0)))) (quo nat_code (num 0))

-- (fix(function Fn(Nat,Nat): function Nat: quote 0 matched with number 1, success: four uses of 0, failure: 1 0)) 0. In three steps it is itself again: one
-- variable gives way to the fix, five to the number, and none in the match, which fails.
abbrev pub cycling : Term
cycling = app nat
    (fixed nat_to_nat (fun fn_to_fn nat_to_nat (fun nat_to_nat nat (ternary (match (match_shape match_number)) (fields nat 0 0 1)
    (quo nat_code (num 0))
    (app nat (fun nat_to_nat nat (app nat (fun nat_to_nat nat (var nat 2)) (var nat 1))) (app nat (fun nat_to_nat nat (var nat 1)) (var nat 0)))
    (app nat (var nat_to_nat 1) (var nat 0))))))
    (num 0)

abbrev pub short_totals : List Bench
short_totals = bench doubled 1 spent 1 2 (app nat (fun nat_to_nat nat doubled) doubled) 14 ∷ bench refixed 100 valued 2 1 (quo nat_code (fixed nat identity)) 4 ∷ []

-- "The total for all its steps" has to hold more than 32 bits: with the most fuel that there is, twice as many variables give way.
abbrev pub long_totals : List Bench
long_totals = bench cycling 4294967295 spent 4294967295 8589934590 cycling 21 ∷ []

abbrev pub totals : List Bench
totals = short_totals ++ long_totals
