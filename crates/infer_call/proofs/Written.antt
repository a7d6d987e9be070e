-- The program that is written with what is filled.
use Prim.Native.Nat.{ℕ}
use native.Mathlib.Omega.{arith}
use mathlib.Core.List.{List}
use mathlib.Core.Path.{◌≡◌, ap, sym, subst, ◌∙◌}
use mir.Val.{Fits}
use mir.Syntax.{w32}
use Rattle.rules.specs.Editions.{first_edition}
use Rattle.rules.specs.FieldUses.{omitted}
use Rattle.rules.specs.Format.{table_of, records_of}
use Rattle.rules.specs.Links.{root_tree}
use Rattle.rules.specs.Meets.{MeetsLayout}
use Rattle.rules.proofs.Meaning.{types_counted}
use Rattle.inference.specs.Infer.{answer_of, output_of, Answered}
use Rattle.inference.proofs.Outcomes.{Fills}
use Rattle.inference.proofs.Calls.{inference_answered}
use Rattle.inference.proofs.Growing.{longer}
use Rattle.records.specs.View.{entries_in, records_in}
use Rattle.parts.specs.declared.Parts.{Parts}
use Rattle.parts.specs.Layout.{ArePartsOf}
use Rattle.records.proofs.Records.{records_length}
use Rattle.terms.proofs.Loaded.{form_linked}
use Rattle.writing.specs.Program.{WroteProgram}
use Rattle.retyping.specs.Retyping.{TypedFits, CanWriteTyped, WritesTyped}
use Rattle.infer_call.specs.Answers.{CanWriteFilled, Types}

module _ (p out work table given : List ℕ) (root : ℕ) (h : CanWriteFilled p out work table given root) (parts : Parts) (a : ArePartsOf p parts) where
  m : MeetsLayout omitted first_edition p
  m = h.can.layout

  answered : Answered first_edition p (entries_in table) h.term
  answered = subst (Fills (Answered first_edition p)) h.is (inference_answered first_edition (omega arith) p)

  fits : TypedFits (records_in parts.records.now) given table (records_in work) out h.term
  fits =
      let c = m.counts in
      let f = answered.filling in
      record {
        ruled = entries_in table;
        typed = f.typed;
        back = f.back ∙ ap root_tree (sym a.records_are);
        given = sym h.types;
        linked = rw a.records_are (form_linked omitted first_edition (omega arith) (table_of p) (records_of p) m.form);
        size_is = answered.records ∙ sym a.records_counted;
        some = omega (arith, c.1.0, a.records_counted);
        few = omega (arith, c.1.0, a.records_counted);
        entries = h.entries;
        some_types = omega (arith, longer f.begins, types_counted p, c.0);
        few_types = h.few;
        slots = omega (arith, records_length work, h.can.long, c.1.0, a.records_counted);
        room = omega (arith, h.can.room, h.few, c.1.0, a.records_counted);
      }

  pub write_asked : CanWriteTyped (records_in parts.records.now) given table (records_in work) out
  write_asked = record { tree = h.term; can = fits }

  module _ (out' : List ℕ) (n : ℕ) (writes : WritesTyped (records_in parts.records.now) given table (records_in work) out out' n) where
    wrote : WroteProgram table out out' h.term n
    wrote = writes.does h.term fits

    pub length_short : Fits w32 n
    length_short = omega (arith, wrote.long, fits.few_types, fits.size_is, fits.few)

    pub type_written_lem : (work' : List ℕ) → Types p out out' work work' (record { number = 0; place = 0; root_type = root; written = n })
    type_written_lem work' = record {
      answer = (λ i. record { number = 0; place = 0; root_type = h.type i; written = wrote.end i }) ∙ ap answer_of (sym h.is);
      output = wrote.bytes ∙ ap (λ o. output_of o out) (sym h.is);
      faulted = λ q e. let z : ◌≡◌ {A = ℕ} 0 1 = cc (sym h.is ∙ e) in absurd (omega arith);
    }
