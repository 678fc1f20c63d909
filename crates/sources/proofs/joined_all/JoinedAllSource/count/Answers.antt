use Rattle.std.proofs.Common.{ap, ◌∙◌}
use Rattle.std.specs.Result.{result_unwrap_or}
use Rattle.sources.proofs.AllJoined.{counted}
use Rattle.sources.proofs.joined_all.JoinedAllSource.count.Goals as goal

pub returns : goal.returns
returns g c =
    c.unwrap_or.ensures ∙ ap (λ r. result_unwrap_or r 0) c.total.ensures ∙ counted g.S.Source.list c.args.self.now.sources.now
