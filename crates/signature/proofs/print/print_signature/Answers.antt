use Rattle.forms.proofs.Passing.{few_operands}
use Rattle.forms.specs.Made.{form_in, name_in}
use Rattle.signature.proofs.Differ.{numbers_differ}
use Rattle.signature.proofs.WalkLengths.{Line-signature_text}
use Rattle.signature.proofs.print.print_signature.Goals as goal

pub returns : goal.returns
returns c =
    let d = c.args.description.now in
    let n = c.args.naming.now in
    let line = Line-signature_text (form_in d) (name_in n) (few_operands (form_in d) d.passed) n.passed in
    record {
      wrote = c.print_text.ensures;
      differ = numbers_differ (form_in d) (name_in n);
      line = line.0;
      some = line.1;
    }
