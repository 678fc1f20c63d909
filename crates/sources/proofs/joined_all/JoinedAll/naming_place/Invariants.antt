use Rattle.std.proofs.Common.{◌≡◌, drop}
use Rattle.sources.specs.JoinedAll.{place_among}
use Rattle.sources.proofs.joined_all.JoinedAll.naming_place.Given as goal

-- The place is where what is left has it.
abbrev pub invariant-loop-source : goal.invariant-loop-source
invariant-loop-source g l =
    place_among g.S.NamingSource.names l.self.sources.now l.n
    ≡ place_among g.S.NamingSource.names (drop l.source-index l.self.sources.now) l.name
