-- 1 and 2, then those of the layout.
use Rattle.std.proofs.Common.{ap, ◌∙◌}
use Rattle.std.proofs.lemmas.Result.{err_from_is_err_and}
use Rattle.rules.specs.FieldUses.{omitted}
use Rattle.rules.specs.Check.{layout_refusal}
use Rattle.refusals.proofs.Reporting.{reports_first, reports_next}
use Rattle.infer_call.proofs.call_refusal.Goals as goal

pub returns-in_err-buffers_refusal : goal.returns-in_err-buffers_refusal
returns-in_err-buffers_refusal c =
    let p = err_from_is_err_and c.from_residual.result c.from_residual.ensures.1 in
    rw (p.1, p.2) (reports_first _ _ _ c.in_err-buffers_refusal.ensures)

pub returns : goal.returns
returns c =
    reports_next _ _ _ c.in_ok-buffers_refusal.ensures (c.layout_refusal.ensures ∙ ap (λ e. layout_refusal omitted e c.args.program.now) c.first_edition.ensures)
