use Rattle.std.proofs.Common.{◌∙◌}
use Rattle.std.proofs.lemmas.Result.{err_from_is_err_and}
use Rattle.sources.proofs.AllJoined.{placed, not_placed}
use Rattle.sources.proofs.Fetched.{named_within, name_refused}
use Rattle.sources.proofs.joined_all.JoinedAllNamingSource.fetch_naming.Goals as goal

pub returns-in_err-source : goal.returns-in_err-source
returns-in_err-source g c =
    let p = err_from_is_err_and c.from_residual.result c.from_residual.ensures.1 in
    let got = name_refused _ p.1 p.2 (not_placed g.S.NamingSource.names c.args.self.now.sources.now c.args.n c.in_err-source.ensures.place) in
    record { got = got; within = named_within c.from_residual.result _ _ _ got c.naming_place.ensures.even }

pub returns : goal.returns
returns g c =
    let got = c.fetch_naming.ensures.got ∙ placed g.S.NamingSource.names c.args.self.now.sources.now c.args.n c.in_ok-source.ensures.place in
    record { got = got; within = named_within c.fetch_naming.result _ _ _ got c.naming_place.ensures.even }
