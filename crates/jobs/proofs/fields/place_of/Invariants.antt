use Rattle.std.proofs.Common.{◌≡◌, ◌+◌, ◌==◌, not, drop}
use Rattle.std.specs.List.{position_or_len, prefix_len}
use Rattle.jobs.proofs.fields.place_of.Given as goal

-- No byte so far is the one that is looked for.
abbrev pub invariant-loop-place : goal.invariant-loop-place
invariant-loop-place l = l.place + prefix_len (λ b. not (b == l.at)) (drop l.place l.text) ≡ position_or_len (λ b. b == l.at) l.text
