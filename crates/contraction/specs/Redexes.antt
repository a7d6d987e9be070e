-- A redex that stands whole in the list of records: an application, a fix, a lift or a splice.
use Rattle.std.specs.Prelude.{ℕ, ◌+◌, ◌*◌, ◌<◌, ◌≤◌, List, ◌≡◌, length}
use Rattle.rules.specs.Kinds.{kind_number}
use Rattle.rules.specs.Terms.{Term, root_kind, size}
use Rattle.rules.specs.Types.{Table}
use Rattle.rules.specs.Typing.{Env, Typed}
use Rattle.rules.specs.Contractions.{StepRule, Contraction}
use Rattle.rules.specs.Format.{Record}
use Rattle.terms.specs.Preorder.{At}
use Rattle.contraction.specs.declared.plans.Plan.{Plan}
use Rattle.contraction.specs.declared.rule.Rule.{Rule}
use Rattle.contraction.specs.Plans.{Planned}
use Rattle.contraction.specs.Naming.{rule_named}

-- A redex stands at s, before lo. It is typed under few binders, this rule rewrites it to u, and n variables give way.
pub record RedexAt (types : Table) (rs : List Record) (s lo : ℕ) (rule : StepRule) (n : ℕ) (u : Term) : Type 0 where
  pub binders : Env
  pub level : ℕ
  pub redex : Term
  pub contraction : Contraction types level rule n redex u
  pub typed : Typed types binders level redex
  pub few : length binders + 2 * size redex ≤ 4096
  pub there : At rs s redex
  pub before : s + size redex ≤ lo

-- There is such a redex; the plan is right of every one.
pub record HasRedex (rs : List Record) (s : ℕ) (rule : StepRule) : Type 0 where
  pub types : Table
  pub lo : ℕ
  pub replaced : ℕ
  pub contractum : Term
  pub found : RedexAt types rs s lo rule replaced contractum

pub record PlansRedex (rs : List Record) (s : ℕ) (rule : StepRule) (plan : Plan) : Type 0 where
  pub is : (types : Table) (lo hi end n : ℕ) (u : Term) → RedexAt types rs s lo rule n u → Planned rs lo hi end plan n u

-- The same of a redex by any rule, where it is no match: "the kinds 9 to 14".
pub record CanPlanWhole (rs : List Record) (s : ℕ) : Type 0 where
  pub rule : StepRule
  pub has : HasRedex rs s rule
  pub whole : kind_number (root_kind has.found.redex) < 9

-- r is its rule.
pub record TellsRule (rs : List Record) (s : ℕ) (r : Rule) : Type 0 where
  pub is : (types : Table) (lo : ℕ) (rule : StepRule) (n : ℕ) (u : Term) (h : RedexAt types rs s lo rule n u) → kind_number (root_kind h.redex) < 9 → r ≡ rule_named rule

pub record PlansWhole (rs : List Record) (s : ℕ) (plan : Plan) : Type 0 where
  pub is : (types : Table) (lo hi end : ℕ) (rule : StepRule) (n : ℕ) (u : Term) (h : RedexAt types rs s lo rule n u) → kind_number (root_kind h.redex) < 9
      → Planned rs lo hi end plan n u
