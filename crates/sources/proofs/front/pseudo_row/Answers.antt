use Rattle.std.proofs.Common.{◌≡◌, false, ltb, arith}
use Rattle.std.proofs.lemmas.Bool.{le-ltb}
use Rattle.kinds.specs.Kinds.{kind_at}
use Rattle.sources.proofs.front.pseudo_row.Goals as goal

pub returns : goal.returns
unfolding kind_at
returns c = let h : ltb 16 c.args.tag ≡ false = le-ltb 16 c.args.tag (omega arith) in rw h
