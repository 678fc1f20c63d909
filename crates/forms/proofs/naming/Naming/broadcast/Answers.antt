use Rattle.std.proofs.Common.{take, refl}
use Rattle.forms.proofs.PassingNames.{small_broadcast}
use Rattle.forms.proofs.naming.Naming.broadcast.Goals as goal

pub returns : goal.returns
returns c =
    let n = c.args.self.now in
    record { value = refl; small = small_broadcast (take n.used n.text) n.memory n.broadcast n.passed }
