use Rattle.std.proofs.Common.{◌≡◌, ◌+◌, ◌≤◌, drop}
use Rattle.sources.specs.JoinedAll.{entries}
use Rattle.sources.specs.Sources.{most}
use Rattle.sources.proofs.joined_all.JoinedAll.naming_total.Given as goal

-- What is counted and what is left give the whole, of the names and of the forms.
abbrev pub invariant-loop-source : goal.invariant-loop-source
invariant-loop-source g l =
    (l.names ≤ most)
    × (l.names + entries g.S.NamingSource.names (drop l.source-index l.self.sources.now) ≡ entries g.S.NamingSource.names l.self.sources.now)
    × (l.names + entries g.S.Source.list (drop l.source-index l.self.sources.now) ≡ entries g.S.Source.list l.self.sources.now)
