use Rattle.std.proofs.Common.{rules}
use Rattle.std.proofs.lemmas.Result.{err_from_is_err_and}
use Rattle.sources.proofs.Layers.{fetched_first, fetched_second, not_in_chained}
use Rattle.sources.proofs.joined.JoinedSource.fetch.Goals as goal

pub returns-in_err-k : goal.returns-in_err-k
returns-in_err-k g c =
    let p = err_from_is_err_and c.from_residual.result c.from_residual.ensures.1 in
    rw (p.1, p.2) (not_in_chained _ _ _ _ _ c.count.ensures c.count-2.ensures c.in_err-k.ensures)

pub returns-in-First : goal.returns-in-First
returns-in-First g c = search (rules, fetched_first)

pub returns-in-Second : goal.returns-in-Second
returns-in-Second g c = search (rules, fetched_second)
