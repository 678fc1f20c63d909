use Rattle.std.proofs.Common.{rules}
use Rattle.sources.proofs.Layers.{length-cut}
use Rattle.sources.proofs.window.WindowSource.count.Goals as goal

pub returns : goal.returns
returns g c = search (rules, length-cut)
