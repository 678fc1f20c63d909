use Rattle.std.proofs.Common.{◌+◌, drop, ap, arith}
use Rattle.std.proofs.lemmas.List.{drop_more, drop_all}
use Rattle.text.specs.Texts.{upper_text}
use Rattle.text.proofs.Writes.{begun, Begun_more, Begun_stop, Begun_all}
use Rattle.text.proofs.writer.Writer.upper.Goals as goal

pub loop-b-init : goal.loop-b-init
loop-b-init c = begun

pub returns-in_err-byte : goal.returns-in_err-byte
returns-in_err-byte c =
    let next = ap upper_text (drop_more c.args.t.now c.loop-b.b-index 0 (omega arith)) in
    Begun_stop (upper_text (drop (c.loop-b.b-index + 1) c.args.t.now)) c.loop-b.invariant c.in_err-byte.ensures c.from_residual.ensures.1 (cc)

pub loop-b-preserved : goal.loop-b-preserved
loop-b-preserved c =
    let next = ap upper_text (drop_more c.args.t.now c.loop-b.b-index 0 (omega arith)) in
    Begun_more _ c.loop-b.invariant c.in_ok-byte.ensures (cc)

pub returns : goal.returns
returns c = Begun_all c.loop-b.invariant (ap upper_text (drop_all c.loop-b.b-index c.args.t.now (omega arith)))
