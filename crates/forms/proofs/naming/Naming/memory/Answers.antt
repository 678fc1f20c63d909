use Rattle.std.proofs.Common.{take, refl}
use Rattle.forms.proofs.PassingNames.{small_memory}
use Rattle.forms.proofs.naming.Naming.memory.Goals as goal

pub returns : goal.returns
returns c =
    let n = c.args.self.now in
    record { value = refl; small = small_memory (take n.used n.text) n.memory n.broadcast n.passed }
