use Rattle.std.proofs.Common.{◌+◌, ap, ◌∙◌}
use Rattle.std.specs.Result.{result_unwrap_or}
use Rattle.sources.specs.JoinedAll.{total_of}
use Rattle.sources.proofs.Layers.{total_chained}
use Rattle.sources.proofs.joined.JoinedSource.count.Goals as goal

pub returns : goal.returns
returns g c =
    c.unwrap_or.ensures
    ∙ ap (λ r. result_unwrap_or r 0) c.total.ensures
    ∙ (λ i. result_unwrap_or (total_of (c.count.ensures i + c.count-2.ensures i)) 0)
    ∙ total_chained (g.A.Source.list c.args.self.now.first) (g.B.Source.list c.args.self.now.second)
