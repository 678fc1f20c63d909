use Rattle.std.proofs.Common.{Ok, sym, ap, ◌∙◌}
use Rattle.std.proofs.lemmas.Result.{err_from_is_err_and}
use Rattle.sources.specs.Lengths.{chains_as_long}
use Rattle.sources.proofs.Fetched.{named_within, name_refused}
use Rattle.sources.proofs.Layers.{fetched_first, fetched_second, not_in_chained}
use Rattle.sources.proofs.joined.JoinedNamingSource.fetch_naming.Goals as goal

pub returns-in_err-k : goal.returns-in_err-k
returns-in_err-k g c =
    let m = c.naming_count.ensures in
    let n = c.naming_count-2.ensures in
    let p = err_from_is_err_and c.from_residual.result c.from_residual.ensures.1 in
    let got = name_refused _ p.1 p.2 (not_in_chained _ _ _ _ _ m.named n.named c.in_err-k.ensures) in
    let even = chains_as_long _ _ _ _ (sym m.named ∙ m.listed) (sym n.named ∙ n.listed) in
    record { got = got; within = named_within c.from_residual.result _ _ _ got even }

pub returns-in-First : goal.returns-in-First
returns-in-First g c =
    let m = c.naming_count.ensures in
    let n = c.naming_count-2.ensures in
    let got = c.fetch_naming.ensures.got ∙ fetched_first _ _ _ _ _ m.named n.named (ap Ok (sym c.in-First.is) ∙ c.in_ok-k.ensures) in
    let even = chains_as_long _ _ _ _ (sym m.named ∙ m.listed) (sym n.named ∙ n.listed) in
    record { got = got; within = named_within c.fetch_naming.result _ _ _ got even }

pub returns-in-Second : goal.returns-in-Second
returns-in-Second g c =
    let m = c.naming_count.ensures in
    let n = c.naming_count-2.ensures in
    let got = c.fetch_naming-in-Second.ensures.got ∙ fetched_second _ _ _ _ _ m.named n.named (ap Ok (sym c.in-Second.is) ∙ c.in_ok-k.ensures) in
    let even = chains_as_long _ _ _ _ (sym m.named ∙ m.listed) (sym n.named ∙ n.listed) in
    record { got = got; within = named_within c.fetch_naming-in-Second.result _ _ _ got even }
