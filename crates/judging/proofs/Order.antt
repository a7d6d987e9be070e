-- The three rules of a record in their order: the first that is broken is the answer. `ordering` for search.
use Prim.Native.Nat.{ℕ}
use mathlib.Core.Path.{◌≡◌, refl, sym, ap}
use mathlib.Core.List.{List}
use mathlib.Core.Bool.{Bool, true, false, not}
use Rattle.std.specs.Prelude.{slice_index, Result, Ok, Err}
use Rattle.rules.specs.Types.{Table}
use Rattle.rules.specs.Conditions.{holds}
use Rattle.rules.specs.Refusals.{bad_index, bad_level, bad_type, ◌then◌}
use Rattle.rules.specs.Typing.{bound, placed, typed}
use Rattle.rules.specs.Check.{judged}
use Rattle.records.specs.declared.Record.{Record}
use Rattle.kinds.specs.declared.names.Kind.{Kind}
use Rattle.kinds.specs.Named.{kind_meant}
use Rattle.refusals.specs.declared.reasons.Reason.{Reason}
use Rattle.refusals.specs.declared.reasons.Reason.TheVariants.{BadIndex, BadLevel, BadType}
use Rattle.refusals.proofs.Laws.{kept_by_test, broken_by_test}
use Rattle.judging.specs.declared.Binder.{Binder}
use Rattle.judging.specs.declared.Binders.{Binders}
use Rattle.judging.specs.Stack.{binders_of}
use Rattle.judging.specs.Tests.{fields_meant, IsBinder, IndexTest, LevelTest, TypeTest, Judges}
use Rattle.judging.proofs.Stacking.{depth_is}

module _ (types : Table) (b : Binders) (l : ℕ) (kind : Kind) (r : Record) (cs : List ℕ) (p : Bool) (hp : IndexTest kind r.a b.depth p) where
  abbrev Answers : Result Unit Reason → Type 0
  Answers = Judges types (binders_of b) l kind r cs

  p_is : p ≡ holds (bound (binders_of b) (kind_meant kind) (fields_meant r))
  p_is = hp.is (binders_of b) (fields_meant r) refl (depth_is b)

  pub index_refused : not p ≡ true → Answers (Err BadIndex)
  unfolding judged ◌then◌
  index_refused e = record { tells = λ n. rw (broken_by_test _ bad_index n p p_is e) }

  module _ (ep : not p ≡ false) (bound_by : Binder) (i : IsBinder (binders_of b) r.a bound_by) (s : Bool) (hs : LevelTest kind l bound_by.level s) where
    s_is : s ≡ holds (placed (binders_of b) l (kind_meant kind) (fields_meant r))
    s_is = hs.is (binders_of b) (fields_meant r) (sym (ap (λ m. m.level) i.is))

    pub level_refused : not s ≡ true → Answers (Err BadLevel)
    unfolding judged ◌then◌
    level_refused e = record { tells = λ n. rw (kept_by_test _ bad_index n p p_is ep, broken_by_test _ bad_level n s s_is e) }

    module _ (es : not s ≡ false) (q : Bool) (hq : TypeTest types bound_by.ty kind r cs q) where
      q_is : q ≡ holds (typed types (binders_of b) (kind_meant kind) (fields_meant r) (slice_index cs 0) (slice_index cs 1) (slice_index cs 2))
      q_is = hq.is (binders_of b) (sym (ap (λ m. m.type) i.is))

      pub type_refused : not q ≡ true → Answers (Err BadType)
      unfolding judged ◌then◌
      type_refused e = record {
        tells = λ n. rw (kept_by_test _ bad_index n p p_is ep, kept_by_test _ bad_level n s s_is es, broken_by_test _ bad_type n q q_is e);
      }

      pub none_refused : not q ≡ false → Answers (Ok tt)
      unfolding judged ◌then◌
      none_refused e = record {
        tells = λ n. rw (kept_by_test _ bad_index n p p_is ep, kept_by_test _ bad_level n s s_is es, kept_by_test _ bad_type n q q_is e);
      }

pub ruleset ordering = (index_refused, level_refused, type_refused, none_refused)
