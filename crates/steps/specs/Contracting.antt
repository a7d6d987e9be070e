-- The redex is contracted, once its plan is known: what stands around the hole that it leaves, and what fills it.
use Rattle.std.specs.Prelude.{ℕ, ◌+◌, ◌^◌, ◌≤◌, ◌<◌, List, [], ◌≡◌, Some}
use Rattle.rules.specs.Terms.{Term, size}
use Rattle.rules.specs.Types.{Table}
use Rattle.rules.specs.Typing.{Typed}
use Rattle.rules.specs.Format.{Record, most_records}
use Rattle.contexts.specs.Contexts.{Context, plug, level_at, Evaluation}
use Rattle.zipper.specs.Layout.{Around}
use Rattle.contraction.specs.Plans.{Planned}
use Rattle.contraction.specs.Naming.{rule_named}
use Rattle.steps.specs.declared.state.State.{State}
use Rattle.steps.specs.declared.state.Aim.{Aim}
use Rattle.steps.specs.declared.state.Advance.{Advance}
use Rattle.navigation.specs.declared.ascending.Turn.TheVariants.{Next}
use Rattle.steps.specs.Stepping.{Runs, Becomes, After}

-- The state holds the term `whole`, whose next term is u in the context C. The context stands around the hole. The plan says where the parts of u
-- are read; the records from `free` on and before `end` are free. The event of the step has the aim's rule, the hole's place, and as many variables as
-- give way.
pub record Contracting (types : Table) (rs : List Record) (s : State) (a : Aim) (whole : Term) : Type 0 where
  pub runs : Runs types rs s whole
  pub context : Context
  pub contractum : Term
  pub becomes : Becomes types whole (plug context contractum)
  pub typed : Typed types [] 0 (plug context contractum)
  pub around : Around rs context a.hole.l a.hole.r a.hole.top
  pub evaluation : Evaluation 0 context
  pub at_level : a.hole.level ≡ level_at 0 context
  pub end : ℕ
  pub planned : Planned rs a.free end a.hole.r a.plan becomes.event.replaced contractum
  pub ruled : a.rule ≡ rule_named becomes.event.rule
  pub placed : becomes.event.place ≡ a.hole.l + 1
  pub after_hole : a.hole.l ≤ a.free
  pub gap : a.free + most_records ≤ end
  pub before_right : end ≤ a.hole.r

-- So it is of what becomes of the focus of a state that is at a redex.
pub record Aims (types : Table) (rs : List Record) (s : State) (a : Aim) : Type 0 where
  pub does : (t : Term) → Runs types rs s t → Contracting types rs s a t

-- The next term has room.
abbrev pub Roomy : {types : Table} {rs : List Record} {s : State} {a : Aim} {whole : Term} → Contracting types rs s a whole → Type 0
Roomy {a = a} k = a.hole.l + most_records + size k.contractum ≤ a.hole.r

pub record CanProceed (rs : List Record) (s : State) (a : Aim) : Type 0 where
  pub types : Table
  pub whole : Term
  pub contracting : Contracting types rs s a whole
  pub room : Roomy contracting
  pub counts : s.steps + 1 < 2 ^ 32

pub record Proceeds (rs rs' : List Record) (s : State) (a : Aim) (r : Advance) : Type 0 where
  pub does : (types : Table) (whole : Term) (k : Contracting types rs s a whole) → Roomy k → After types rs' s whole (Some (record { state = record { turn = Next r.next; steps = s.steps + 1 }; event = r.event }))
