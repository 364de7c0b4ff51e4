use Rattle.std.proofs.Common.{sym, ◌∙◌, arith}
use Rattle.procedure_lookup.proofs.LookupLaws.{stretch_some, stretch_none}
use Rattle.procedure_lookup.proofs.block.Goals as goal

pub slice_bounds-result-count : goal.slice_bounds-result-count
slice_bounds-result-count c =
    (stretch_some c.args.file.now c.args.f c.args.label (λ i. omega (arith, c.type_inv.file i)) _ _ (sym c.place_of.ensures ∙ c.in-Ok.is)).order

pub slice_bounds-result-start : goal.slice_bounds-result-start
slice_bounds-result-start c =
    (stretch_some c.args.file.now c.args.f c.args.label (λ i. omega (arith, c.type_inv.file i)) _ _ (sym c.place_of.ensures ∙ c.in-Ok.is)).order

pub slice_bounds-result-end : goal.slice_bounds-result-end
slice_bounds-result-end c =
    (stretch_some c.args.file.now c.args.f c.args.label (λ i. omega (arith, c.type_inv.file i)) _ _ (sym c.place_of.ensures ∙ c.in-Ok.is)).inside

pub returns-in-Ok-clause-result_value_2 : goal.returns-in-Ok-clause-result_value_2
returns-in-Ok-clause-result_value_2 c =
    (stretch_some c.args.file.now c.args.f c.args.label (λ i. omega (arith, c.type_inv.file i)) _ _ (sym c.place_of.ensures ∙ c.in-Ok.is)).bytes.1

pub returns-in-Err-clause-result_value_2 : goal.returns-in-Err-clause-result_value_2
returns-in-Err-clause-result_value_2 c = (stretch_none c.args.file.now c.args.f c.args.label _ (sym c.place_of.ensures ∙ c.in-Err.is)).1
