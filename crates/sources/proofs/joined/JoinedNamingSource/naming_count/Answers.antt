use Rattle.std.proofs.Common.{◌+◌, ap, ◌∙◌}
use Rattle.std.specs.Result.{result_unwrap_or}
use Rattle.sources.specs.JoinedAll.{total_of}
use Rattle.sources.proofs.Layers.{total_chained}
use Rattle.sources.proofs.joined.JoinedNamingSource.naming_count.Goals as goal

pub returns : goal.returns
returns g c =
    let total = c.unwrap_or.ensures ∙ ap (λ r. result_unwrap_or r 0) c.total.ensures in
    let m = c.naming_count.ensures in
    let n = c.naming_count-2.ensures in
    record {
      named =
          total
          ∙ (λ i. result_unwrap_or (total_of (m.named i + n.named i)) 0)
          ∙ total_chained (g.A.NamingSource.names c.args.self.now.first) (g.B.NamingSource.names c.args.self.now.second);
      listed =
          total
          ∙ (λ i. result_unwrap_or (total_of (m.listed i + n.listed i)) 0)
          ∙ total_chained (g.A.Source.list c.args.self.now.first) (g.B.Source.list c.args.self.now.second);
    }
