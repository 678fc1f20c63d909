use Rattle.std.proofs.Common.{◌≡◌, ◌++◌, ◌≤◌, length}
use Rattle.jobs.specs.Fields.{split, split_rest, texts_in}
use Rattle.jobs.proofs.fields.stretches.Given as goal

-- The stretches of the text are those found, and then those of the rest.
abbrev pub invariant-loop-rest : goal.invariant-loop-rest
invariant-loop-rest g l = record {
  all : split l.at l.text ≡ texts_in l.found.items ++ split_rest l.at l.rest;
  few : length l.found.items ≤ g.row.MOST;
}

abbrev pub decreases-loop-rest : goal.decreases-loop-rest
decreases-loop-rest g l = length (split_rest l.at l.rest)
