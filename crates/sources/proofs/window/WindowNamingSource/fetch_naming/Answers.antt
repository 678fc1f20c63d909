use Rattle.std.proofs.Common.{sym, ◌∙◌}
use Rattle.std.proofs.lemmas.Result.{err_from_is_err_and}
use Rattle.sources.specs.Lengths.{cuts_as_long}
use Rattle.sources.proofs.Fetched.{named_within, name_refused}
use Rattle.sources.proofs.Layers.{fetched-cut, not_in_cut}
use Rattle.sources.proofs.window.WindowNamingSource.fetch_naming.Goals as goal

pub returns-in_err-place : goal.returns-in_err-place
returns-in_err-place g c =
    let p = err_from_is_err_and c.from_residual.result c.from_residual.ensures.1 in
    let got = name_refused _ p.1 p.2 (not_in_cut _ _ _ _ _ c.naming_count.ensures.named c.in_err-place.ensures) in
    let even = cuts_as_long _ _ _ _ (sym c.naming_count.ensures.named ∙ c.naming_count.ensures.listed) in
    record { got = got; within = named_within c.from_residual.result _ _ _ got even }

pub returns : goal.returns
returns g c =
    let got = c.fetch_naming.ensures.got ∙ fetched-cut _ _ _ _ _ c.naming_count.ensures.named c.in_ok-place.ensures in
    let even = cuts_as_long _ _ _ _ (sym c.naming_count.ensures.named ∙ c.naming_count.ensures.listed) in
    record { got = got; within = named_within c.fetch_naming.result _ _ _ got even }
