use Rattle.std.proofs.Common.{refl, sym, ◌∙◌, ap}
use Rattle.sb_schema.specs.Table as spec
use Rattle.sb_schema.proofs.attributes.begin.Goals as goal

pub returns-then-is_one_of : goal.returns-then-is_one_of
returns-then-is_one_of c = record {
  number = refl;
  keyword =
      ap (spec.is_one_of _) (sym c.in-Some.ensures.keyword) ∙ sym c.is_one_of.ensures
      ∙ c.if-is_one_of.true;
  are = c.in-Some.ensures.parameters;
  only = λ others has. c.one_list_of_parameters.ensures.unique c.args.file.now c.args.number
      others c.in-Some.instance.parameters has c.in-Some.ensures.parameters;
}
