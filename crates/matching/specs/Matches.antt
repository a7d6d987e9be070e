-- A match that is rewritten while it is open: whether it matches its code, and what it becomes.
use Rattle.std.specs.Prelude.{ℕ, ◌+◌, ◌*◌, ◌≤◌, List, Bool, true, false, ◌≡◌, length, get_or}
use Rattle.std.proofs.Math.Option.{Option, none, some}
use Rattle.rules.specs.Kinds.{quote, application, Match, match, ternary₃, kind_number}
use Rattle.rules.specs.Terms.{Fields, Term, unary, binary, ternary, type_of, size}
use Rattle.rules.specs.Indices.{replaced, gave_way}
use Rattle.rules.specs.Types.{Table, part_a, part_b}
use Rattle.rules.specs.Typing.{Env, Typed}
use Rattle.rules.specs.Conditions.{Holds}
use Rattle.rules.specs.FieldUses.{formed}
use Rattle.rules.specs.Matching.{matched}
use Rattle.rules.specs.Contractions.{StepRule, Contraction}
use Rattle.rules.specs.Format.{Record, no_record}
use Rattle.terms.specs.Preorder.{At}
use Rattle.terms.specs.Measuring.{Low}
use Rattle.substitution.specs.declared.arguments.Argument.{Argument}
use Rattle.substitution.specs.declared.arguments.Argument.TheVariants.{Opened}
use Rattle.contraction.specs.declared.plans.Plan.{Plan}
use Rattle.contraction.specs.declared.rule.Rule.{Rule}
use Rattle.contraction.specs.Plans.{Planned}
use Rattle.contraction.specs.Naming.{rule_named}

-- A match is open at p: the record there has its kind and its fields, and its code stands behind that, before lo. Its success stands at hi, and its
-- failure after that and before `end`. It is typed under few binders, it is rewritten to u, and n variables give way.
pub record OpenMatch (types : Table) (rs : List Record) (p lo hi end n : ℕ) (u : Term) : Type 0 where
  pub kind : Match
  pub fields : Fields
  pub code : Term
  pub success : Term
  pub failure : Term
  pub binders : Env
  pub level : ℕ
  pub rule : StepRule
  pub contraction : Contraction types level rule n (ternary (match kind) fields code success failure) u
  pub typed : Typed types binders level (ternary (match kind) fields code success failure)
  pub few : length binders + 2 * size (ternary (match kind) fields code success failure) ≤ 4096
  pub kind_held : (get_or rs p no_record).kind ≡ kind_number (ternary₃ (match kind))
  pub fields_held : (get_or rs p no_record).fields ≡ fields
  pub code_there : At rs (p + 1) code
  pub before : p + 1 + size code ≤ lo
  pub success_there : At rs hi success
  pub failure_there : At rs (hi + size success) failure
  pub upto : hi + size success + size failure ≤ end

-- There is such a match; r is the rule of every one.
pub record HasMatch (types : Table) (rs : List Record) (p hi : ℕ) : Type 0 where
  pub lo : ℕ
  pub end : ℕ
  pub replaced : ℕ
  pub contractum : Term
  pub found : OpenMatch types rs p lo hi end replaced contractum

pub record TellsMatchRule (types : Table) (rs : List Record) (p hi : ℕ) (r : Rule) : Type 0 where
  pub is : (lo end n : ℕ) (u : Term) (h : OpenMatch types rs p lo hi end n u) → r ≡ rule_named h.rule

-- There is one by the rule r; the plan is right of every one by that rule.
pub record CanPlanMatch (types : Table) (rs : List Record) (p hi : ℕ) (r : Rule) : Type 0 where
  pub has : HasMatch types rs p hi
  pub ruled : r ≡ rule_named has.found.rule

pub record PlansMatch (types : Table) (rs : List Record) (p hi : ℕ) (r : Rule) (plan : Plan) : Type 0 where
  pub is : (lo end n : ℕ) (u : Term) (h : OpenMatch types rs p lo hi end n u) → r ≡ rule_named h.rule → Planned rs lo hi end plan n u

-- A match with its code, which is quoted.
pub record MatchRedex : Type 0 where
  pub kind : Match
  pub fields : Fields
  pub fields_of_quote : Fields
  pub code : Term

-- What its variables are replaced by, where it matches its code.
abbrev pub taken : Table → MatchRedex → Option (List Term)
taken types m = matched types m.kind m.fields m.code

abbrev pub is_some : Option (List Term) → Bool
is_some none = false
is_some (some ts) = true

-- The record at p has its kind and its fields, which are good, and its code stands behind it, before lo.
pub record CodeAt (types : Table) (rs : List Record) (p lo : ℕ) (m : MatchRedex) : Type 0 where
  pub kind_held : (get_or rs p no_record).kind ≡ kind_number (ternary₃ (match m.kind))
  pub fields_held : (get_or rs p no_record).fields ≡ m.fields
  pub good : Holds (formed types (ternary₃ (match m.kind)) m.fields)
  pub there : At rs (p + 1) (unary quote m.fields_of_quote m.code)
  pub before : p + 1 + size (unary quote m.fields_of_quote m.code) ≤ lo
  pub low : Low 4096 (unary quote m.fields_of_quote m.code)

-- There is such a match; b tells whether it matches its code.
pub record HasCode (types : Table) (rs : List Record) (p : ℕ) : Type 0 where
  pub lo : ℕ
  pub found : MatchRedex
  pub there : CodeAt types rs p lo found

pub record TellsMatch (types : Table) (rs : List Record) (p : ℕ) (b : Bool) : Type 0 where
  pub is : (lo : ℕ) (m : MatchRedex) → CodeAt types rs p lo m → b ≡ is_some (taken types m)

-- It matches its code, binding ts, and its success stands at hi, before `end`.
pub record SuccessAt (types : Table) (rs : List Record) (p lo hi end : ℕ) (m : MatchRedex) (ts : List Term) (success : Term) : Type 0 where
  pub code : CodeAt types rs p lo m
  pub matches : taken types m ≡ some ts
  pub there : At rs hi success
  pub before : hi + size success ≤ end
  pub low : Low 4096 success

-- There is such a match; the plan is right of the success of every one, with its variables replaced.
pub record CanSucceed (types : Table) (rs : List Record) (p hi : ℕ) : Type 0 where
  pub lo : ℕ
  pub end : ℕ
  pub found : MatchRedex
  pub bound : List Term
  pub success : Term
  pub there : SuccessAt types rs p lo hi end found bound success

pub record PlansSuccess (types : Table) (rs : List Record) (p hi : ℕ) (plan : Plan) : Type 0 where
  pub is : (lo end : ℕ) (m : MatchRedex) (ts : List Term) (success : Term) → SuccessAt types rs p lo hi end m ts success
      → Planned rs lo hi end plan (gave_way (length ts) 0 success) (replaced ts success)

-- An application stands at i; n is the type of its argument.
pub record HasApplication (rs : List Record) (i : ℕ) : Type 0 where
  pub fields : Fields
  pub first : Term
  pub second : Term
  pub there : At rs i (binary application fields first second)

pub record SecondType (rs : List Record) (i n : ℕ) : Type 0 where
  pub is : (f : Fields) (t u : Term) → At rs i (binary application f t u) → n ≡ type_of u

-- The argument is the function of type n that `opened` makes of the tree at i.
pub record IsOpened (types : Table) (i n : ℕ) (g : Argument) : Type 0 where
  pub is : g ≡ Opened i n (part_a types n) (part_b types n)
