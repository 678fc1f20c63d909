use Rattle.std.proofs.Common.{◌∙◌}
use Rattle.std.proofs.lemmas.Result.{err_from_is_err_and}
use Rattle.sources.proofs.AllJoined.{placed, not_placed}
use Rattle.sources.proofs.joined_all.JoinedAllSource.fetch.Goals as goal

pub returns-in_err-source : goal.returns-in_err-source
returns-in_err-source g c =
    let p = err_from_is_err_and c.from_residual.result c.from_residual.ensures.1 in
    rw (p.1, p.2) (not_placed g.S.Source.list c.args.self.now.sources.now c.args.n c.in_err-source.ensures)

pub returns : goal.returns
returns g c =
    c.fetch.ensures ∙ placed g.S.Source.list c.args.self.now.sources.now c.args.n c.in_ok-source.ensures
