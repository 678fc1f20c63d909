use Rattle.std.proofs.Common.{ap, ◌∙◌}
use Rattle.std.specs.Result.{result_unwrap_or}
use Rattle.sources.proofs.AllJoined.{counted}
use Rattle.sources.proofs.joined_all.JoinedAllNamingSource.naming_count.Goals as goal

pub returns : goal.returns
returns g c =
    record {
      named =
          c.unwrap_or.ensures
          ∙ ap (λ r. result_unwrap_or r 0) c.naming_total.ensures.named
          ∙ counted g.S.NamingSource.names c.args.self.now.sources.now;
      listed =
          c.unwrap_or.ensures
          ∙ ap (λ r. result_unwrap_or r 0) c.naming_total.ensures.listed
          ∙ counted g.S.Source.list c.args.self.now.sources.now;
    }
