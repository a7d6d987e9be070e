-- Cases beyond the bench sheet, for slips at the binder that it does not catch. They have its form and its table.
use Rattle.std.specs.Prelude.{List, [], ◌∷◌}
use Rattle.rules.specs.Run.{valued}
use Rattle.rules.specs.BenchSheet.{nat, nat_to_nat, nat_code, nat_to_nat_code, code_to_code, nat_to_code, code_to_nat_to_code, fn_to_fn, fn_to_fn_code, num, var, fun, app, quo, spl, as_application, as_function, as_lift, as_variable, Bench, bench}

abbrev pub slips : List Bench
slips =
    -- quote(function: splice(((function Code(Nat): function Nat: 1) (quote 0)) 5)): the open quote moves under a function and out again, so its
    -- index is raised and lowered: quote(function: 0)
    bench (quo nat_to_nat_code (fun nat_to_nat nat (spl nat (app nat_code (app nat_to_code (fun code_to_nat_to_code nat_code (fun nat_to_code nat (var nat_code 1))) (quo nat_code (var nat 0))) (num 5))))) 100 valued 3 1 (quo nat_to_nat_code (fun nat_to_nat nat (var nat 0))) 3
    -- quote(function: function: splice(quote(1 0) matched as an application, success quote((splice a) (splice b)))): both bound trees have a free
    -- index and are put in together: the application again
    ∷ bench (quo fn_to_fn_code (fun fn_to_fn nat_to_nat (fun nat_to_nat nat (spl nat (as_application nat_code nat_to_nat_code nat_code (quo nat_code (app nat (var nat_to_nat 1) (var nat 0))) (quo nat_code (app nat (spl nat_to_nat (var nat_to_nat_code 1)) (spl nat (var nat_code 0)))) (quo nat_code (num 0))))))) 100 valued 4 2 (quo fn_to_fn_code (fun fn_to_fn nat_to_nat (fun nat_to_nat nat (app nat (var nat_to_nat 1) (var nat 0))))) 6
    -- quote((function: 5) 0) match lift: code is not evaluated, so this is no number: failure
    ∷ bench (as_lift nat (quo nat_code (app nat (fun nat_to_nat nat (num 5)) (num 0))) (var nat 0) (num 7)) 100 valued 1 0 (num 7) 1
    -- quote(function: splice(quote(function: 1) matched as a function, success: the bound one applied to quote 7)): the variable of another binder
    -- isn't wrapped: quote(function: 0)
    ∷ bench (quo nat_to_nat_code (fun nat_to_nat nat (spl nat (as_function nat_code code_to_code (quo nat_to_nat_code (fun nat_to_nat nat (var nat 1))) (app nat_code (var code_to_code 0) (quo nat_code (num 7))) (quo nat_code (num 0)))))) 100 valued 3 1 (quo nat_to_nat_code (fun nat_to_nat nat (var nat 0))) 3
    -- quote(function: (function: 1) 3) matched as a function, success: the bound one applied to quote 7: the use under a binder of the body's own is
    -- wrapped: quote((function: 7) 3)
    ∷ bench (as_function nat_code code_to_code (quo nat_to_nat_code (fun nat_to_nat nat (app nat (fun nat_to_nat nat (var nat 1)) (num 3)))) (app nat_code (var code_to_code 0) (quo nat_code (num 7))) (quo nat_code (num 0))) 100 valued 3 2 (quo nat_code (app nat (fun nat_to_nat nat (num 7)) (num 3))) 5
    -- quote(function: splice((function Nat: quote 1 matched with variable 1, success quote 1, failure quote 2) 5)): the index of kind 10 falls with
    -- the variable's: quote(function: 1)
    ∷ bench (quo nat_to_nat_code (fun nat_to_nat nat (spl nat (app nat_code (fun nat_to_code nat (as_variable nat_code 1 (quo nat_code (var nat 1)) (quo nat_code (num 1)) (quo nat_code (num 2)))) (num 5))))) 100 valued 3 0 (quo nat_to_nat_code (fun nat_to_nat nat (num 1))) 3
    ∷ []
