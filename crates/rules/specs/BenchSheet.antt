-- The bench sheet, K1 to K11: "Each is proved of the rules, as one list and a statement that covers it. Fuel is 100 where none is given."
use Rattle.std.specs.Prelude.{ℕ, zero, suc, List, [], ◌∷◌, ◌++◌, ◌≡◌}
use Rattle.rules.specs.Editions.{first_edition}
use Rattle.rules.specs.Kinds.{number, variable, function, fix, quote, splice, application, match_variable, match_shape, match_application, match_lift, match_function, match}
use Rattle.rules.specs.Terms.{Fields, Term, leaf, unary, binary, ternary, size}
use Rattle.rules.specs.Types.{Table, Nat, Fn, Code}
use Rattle.rules.specs.Run.{Ending, valued, spent, full, Course, Outcome, outcome_of}
use Rattle.rules.specs.WholeRun.{Passed, WholeRun}

-- One table for all the cases, and its numbers by name.
abbrev pub table : Table
table = Nat ∷ Fn 1 1 ∷ Code 1 ∷ Code 2 ∷ Fn 3 3 ∷ Fn 2 1 ∷ Code 6 ∷ Fn 1 3 ∷ Fn 3 8 ∷ Fn 2 2 ∷ Code 10 ∷ []

-- Nat, Fn(Nat,Nat), and the codes of both.
abbrev pub nat : ℕ
nat = 1

abbrev pub nat_to_nat : ℕ
nat_to_nat = 2

abbrev pub nat_code : ℕ
nat_code = 3

abbrev pub nat_to_nat_code : ℕ
nat_to_nat_code = 4

-- Fn(Code(Nat),Code(Nat)).
abbrev pub code_to_code : ℕ
code_to_code = 5

-- Code(Fn(Fn(Nat,Nat),Nat)).
abbrev pub fn_to_nat_code : ℕ
fn_to_nat_code = 7

-- Fn(Nat,Code(Nat)), and the functions from Code(Nat) to it.
abbrev pub nat_to_code : ℕ
nat_to_code = 8

abbrev pub code_to_nat_to_code : ℕ
code_to_nat_to_code = 9

-- Fn(Fn(Nat,Nat),Fn(Nat,Nat)) and its code.
abbrev pub fn_to_fn : ℕ
fn_to_fn = 10

abbrev pub fn_to_fn_code : ℕ
fn_to_fn_code = 11

-- Records of the kinds that the cases use; the type comes first.
abbrev pub fields : ℕ → ℕ → ℕ → ℕ → Fields
fields t a b v = record { type = t; a = a; b = b; value = v }

abbrev pub num : ℕ → Term
num n = leaf number (fields nat 0 0 n)

abbrev pub var : ℕ → ℕ → Term
var t i = leaf variable (fields t i 0 0)

abbrev pub fun : ℕ → ℕ → Term → Term
fun t a b = unary function (fields t a 0 0) b

abbrev pub app : ℕ → Term → Term → Term
app t f x = binary application (fields t 0 0 0) f x

abbrev pub fixed : ℕ → Term → Term
fixed t f = unary fix (fields t 0 0 0) f

abbrev pub quo : ℕ → Term → Term
quo t c = unary quote (fields t 0 0 0) c

abbrev pub spl : ℕ → Term → Term
spl t c = unary splice (fields t 0 0 0) c

-- A match: its type, then the types that it binds, then code, success and failure.
abbrev pub as_application : ℕ → ℕ → ℕ → Term → Term → Term → Term
as_application t a b c s e = ternary (match (match_shape match_application)) (fields t a b 0) c s e

abbrev pub as_function : ℕ → ℕ → Term → Term → Term → Term
as_function t a c s e = ternary (match (match_shape match_function)) (fields t a 0 0) c s e

abbrev pub as_lift : ℕ → Term → Term → Term → Term
as_lift t c s e = ternary (match (match_shape match_lift)) (fields t nat 0 0) c s e

-- The match with variable i.
abbrev pub as_variable : ℕ → ℕ → Term → Term → Term → Term
as_variable t i c s e = ternary (match match_variable) (fields t i 0 0) c s e

-- "function Nat: 0"
abbrev pub identity : Term
identity = fun nat_to_nat nat (var nat 0)

-- "A function of Code(Nat) that matches an application and gives quote(splice f 42), f the bound function, else its argument."
abbrev swap : Term
swap = fun code_to_code nat_code (as_application nat_code nat_to_nat_code nat_code (var nat_code 0) (quo nat_code (app nat (spl nat_to_nat (var nat_to_nat_code 1)) (num 42))) (var nat_code 0))

-- "fix(function Nat: (function Nat: 0) 0)", and the term after n steps (theorem `grown_steps`).
abbrev pub grow : Term
grow = fixed nat (fun nat_to_nat nat (app nat identity (var nat 0)))

abbrev pub grown : ℕ → Term
grown zero = grow
grown (suc n) = app nat identity (grown n)

-- A case: a first term and the fuel; the outcome, and the records of its last term. How many variables gave way is not of document 01: N2 asks for it.
pub record Bench : Type 0 where
  pub first : Term
  pub fuel : ℕ
  pub outcome : Outcome
  pub records : ℕ

abbrev pub bench : Term → ℕ → Ending → ℕ → ℕ → Term → ℕ → Bench
bench t fuel e n m u r = record { first = t; fuel = fuel; outcome = record { ending = e; steps = n; replaced = m; last = u }; records = r }

abbrev pub short : List Bench
short =
    -- "K1. (function Nat: 0) 42, fuel 5: value, 1 step."
    bench (app nat identity (num 42)) 5 valued 1 1 (num 42) 1
    -- "K2. Same, fuel 0: spent, 0."
    ∷ bench (app nat identity (num 42)) 0 spent 0 0 (app nat identity (num 42)) 4
    -- "K3. .. applied to quote((function: 0) 10): 3 steps, quote((function: 0) 42)."
    ∷ bench (app nat_code swap (quo nat_code (app nat identity (num 10)))) 100 valued 3 3 (quo nat_code (app nat identity (num 42))) 5
    -- "K4. Applied to quote 10: 2 steps, quote 10."
    ∷ bench (app nat_code swap (quo nat_code (num 10))) 100 valued 2 2 (quo nat_code (num 10)) 2
    -- "K5. Quote((function Nat: 0) 10) matched as an application with argument type Fn(Nat,Nat), success quote 1, failure quote 2: 1 step, quote 2."
    ∷ bench (as_application nat_code fn_to_nat_code nat_to_nat_code (quo nat_code (app nat identity (num 10))) (quo nat_code (num 1)) (quo nat_code (num 2))) 100 valued 1 0 (quo nat_code (num 2)) 2
    -- "K6. Quote(function Nat: 0) matched as a function, success: the bound one applied to quote 7: 3 steps, quote 7."
    ∷ bench (as_function nat_code code_to_code (quo nat_to_nat_code identity) (app nat_code (var code_to_code 0) (quo nat_code (num 7))) (quo nat_code (num 1))) 100 valued 3 2 (quo nat_code (num 7)) 2
    -- "K7. Quote(function: splice(quote 0 matched with variable 0, quote 1, quote 2)), where quote 0 quotes the variable: 2 steps, quote(function: 1)."
    ∷ bench (quo nat_to_nat_code (fun nat_to_nat nat (spl nat (as_variable nat_code 0 (quo nat_code (var nat 0)) (quo nat_code (num 1)) (quo nat_code (num 2)))))) 100 valued 2 0 (quo nat_to_nat_code (fun nat_to_nat nat (num 1))) 3
    -- "K8. Quote 5 match lift, success the bound variable: 5, 1 step."
    ∷ bench (as_lift nat (quo nat_code (num 5)) (var nat 0) (num 0)) 100 valued 1 1 (num 5) 1
    ∷ []

abbrev pub long : List Bench
long =
    -- "K9. fix(function Nat: 0), fuel 1,000: spent, 1,000, same term."
    bench (fixed nat identity) 1000 spent 1000 1000 (fixed nat identity) 3
    -- "K10. fix(function Nat: (function Nat: 0) 0): 6 records, 3 more each step. Fuel 680: spent, 680."
    ∷ bench grow 680 spent 680 680 (grown 680) 2046
    -- "K11. Fuel 681: full, 680, 2,046 records."
    ∷ bench grow 681 full 680 680 (grown 680) 2046
    ∷ []

abbrev pub sheet : List Bench
sheet = short ++ long

-- The first term is passed, and its whole run by the rules, which demand 3 is about, is as the case says.
pub record Kept (b : Bench) : Type 0 where
  pub passed : Passed first_edition table b.first
  pub course : Course
  pub whole : WholeRun first_edition table b.first b.fuel course
  pub comes_to : outcome_of course ≡ b.outcome
  pub counted : size b.outcome.last ≡ b.records
