use Rattle.std.proofs.Common.{rules}
use Rattle.std.proofs.lemmas.Result.{err_from_is_err_and}
use Rattle.sources.proofs.Layers.{fetched-cut, not_in_cut}
use Rattle.sources.proofs.window.WindowSource.fetch.Goals as goal

pub returns-in_err-place : goal.returns-in_err-place
returns-in_err-place g c =
    let p = err_from_is_err_and c.from_residual.result c.from_residual.ensures.1 in
    rw (p.1, p.2) (not_in_cut _ _ _ _ _ c.count.ensures c.in_err-place.ensures)

pub returns : goal.returns
returns g c = search (rules, fetched-cut)
