-- 6, 7, 13, 8 and 9 in their order, of a table and records within the limits. Each check is made when those before it have
-- passed.
use mathlib.Core.Bool.{Bool, true, false}
use mathlib.Core.List.{List}
use mathlib.Core.Option.{Option, none, some}
use mathlib.Core.Path.{◌≡◌, sym}
use lib.ListN.{length}
use Rattle.rules.specs.Editions.{Edition}
use Rattle.rules.specs.Types.{Table}
use Rattle.rules.specs.FieldUses.{TypeFields, omitted}
use Rattle.rules.specs.Format.{Record, record_no}
use Rattle.rules.specs.Links.{NoBadLink}
use Rattle.rules.specs.Refusals.{Refusal, bad_entry, bad_field, bad_link, bad_children, type_written, lowest}
use Rattle.rules.specs.Check.{entry_rule, fields_rule, omitted_rule, links_rule, children_rule, form_refusal}
use Rattle.rules.proofs.Tests.{lowest_holds}
use Rattle.rules.proofs.Meaning.{no_bad_link}
use Rattle.kinds.specs.Meant.{type_fields_meant}
use Rattle.refusals.proofs.Reporting.{reports_first, reports_next}

-- 13: nothing is refused where types are given.
module _ (b : Bool) (rs : List Record) where
  pub given_told : b ≡ true → none ≡ lowest (omitted_rule (type_fields_meant b) rs) type_written 1 (length rs)
  unfolding type_fields_meant
  given_told e = rw e (sym (lowest_holds (λ n. omitted_rule (type_fields_meant true) rs n) type_written 1 (length rs) (λ n p q. tt)))

  pub omitted_told : b ≡ false → (q : Option Refusal) → q ≡ lowest (omitted_rule omitted rs) type_written 1 (length rs)
      → q ≡ lowest (omitted_rule (type_fields_meant b) rs) type_written 1 (length rs)
  unfolding type_fields_meant
  omitted_told e q t = rw e t

module _ (fields : TypeFields) (edition : Edition) (types : Table) (rs : List Record) where
  pub entry_refused : (m : Refusal) → some m ≡ lowest (entry_rule types) bad_entry 1 (length types) → some m ≡ form_refusal fields edition types rs
  unfolding form_refusal
  entry_refused m t = reports_first m _ _ t

  module _ (te : none ≡ lowest (entry_rule types) bad_entry 1 (length types)) where
    pub field_refused : (m : Refusal) → some m ≡ lowest (λ n. fields_rule fields edition types (record_no rs n)) bad_field 1 (length rs) → some m ≡ form_refusal fields edition types rs
    unfolding form_refusal
    field_refused m t = reports_next _ _ _ te (reports_first m _ _ t)

    module _ (tf : none ≡ lowest (λ n. fields_rule fields edition types (record_no rs n)) bad_field 1 (length rs)) where
      pub type_refused : (m : Refusal) → some m ≡ lowest (omitted_rule fields rs) type_written 1 (length rs) → some m ≡ form_refusal fields edition types rs
      unfolding form_refusal
      type_refused m t = reports_next _ _ _ te (reports_next _ _ _ tf (reports_first m _ _ t))

      module _ (to : none ≡ lowest (omitted_rule fields rs) type_written 1 (length rs)) where
        pub link_refused : (m : Refusal) → some m ≡ lowest (links_rule rs) bad_link 1 (length rs) → some m ≡ form_refusal fields edition types rs
        unfolding form_refusal
        link_refused m t = reports_next _ _ _ te (reports_next _ _ _ tf (reports_next _ _ _ to (reports_first m _ _ t)))

        pub children_told : none ≡ lowest (links_rule rs) bad_link 1 (length rs) → (q : Option Refusal) → q ≡ lowest (children_rule rs) bad_children 1 (length rs)
            → q ≡ form_refusal fields edition types rs
        unfolding form_refusal
        children_told tl q t = reports_next _ _ _ te (reports_next _ _ _ tf (reports_next _ _ _ to (reports_next _ _ _ tl t)))

-- What the last check asks: records that 8 passes have no bad link.
pub links_good : (rs : List Record) → none ≡ lowest (links_rule rs) bad_link 1 (length rs) → NoBadLink rs
links_good rs tl = no_bad_link rs (sym tl)

pub ruleset ordering = (entry_refused, field_refused, type_refused, link_refused, children_told, links_good)
