use Rattle.std.proofs.Common.{rules}
use Rattle.forms.proofs.Passing.{few_operands}
use Rattle.forms.proofs.description.Description.operands.Goals as goal

pub slice_bounds-result-end : goal.slice_bounds-result-end
slice_bounds-result-end c = let few = few_operands c.args.self.now.form c.args.self.now.passed in search rules
