use Rattle.std.proofs.Common.{refl}
use Rattle.forms.proofs.Passing.{few_operands}
use Rattle.forms.proofs.description.Description.form.Goals as goal

pub returns : goal.returns
returns c = record { value = refl; few = few_operands c.args.self.now.form c.args.self.now.passed }
