use Rattle.std.proofs.Common.{◌≡◌, ap, ◌∙◌}
use Rattle.kinds.specs.Counters.{counter_of}
use Rattle.numbering.specs.Counts.{moved_on, next_label, next_mask}
use Rattle.numbering.specs.Plans.{counter_at}
use Rattle.text.proofs.Writes.{Wrote_as}
use Rattle.signature.specs.Walk.{masked_at}
use Rattle.signature.proofs.OperandTexts.{as_printed, mask_as}
use Rattle.signature.proofs.operand.Walk.print_operand.Goals as goal

pub returns-clause-wrote : goal.returns-clause-wrote
returns-clause-wrote c =
    let s = c.args.self.now.setting in
    let n = c.args.self.now.numbering in
    let counter : c.counter.result ≡ counter_at c.args.kind = c.counter.ensures ∙ ap counter_of c.class-class.ensures in
    Wrote_as _ c.print.ensures
    (as_printed s _ _ c.args.self.now.follows c.args.place c.args.kind c.class-class.ensures
    (c.next_labels-label.ensures.label ∙ ap (λ k. next_label n k c.args.place) counter)
    (rw (c.next_labels-label.ensures.mask, c.masked_at-masked.ensures, counter) (mask_as (masked_at s c.args.place) s.flags.zeroing (next_mask (moved_on (counter_at c.args.kind) n))))
    c.last_at-last.ensures)
