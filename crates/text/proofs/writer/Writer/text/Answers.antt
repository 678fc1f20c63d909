use Rattle.std.proofs.Common.{◌-◌, ◌+◌, take, drop, length, get_or, arith, sym, ◌∙◌, ap, ◌++◌}
use lib.Seq.{length-take-le}
use Rattle.std.proofs.lemmas.List.{drop_more, take-append-drop}
use Rattle.text.proofs.Writes.{same_length, placed, no_place, then_as}
use Rattle.text.proofs.writer.Writer.text.Goals as goal

pub returns-else-t-left : goal.returns-else-t-left
returns-else-t-left c =
    let t = c.args.t.now in
    let left = length c.args.self.now.out.now - c.args.self.now.at in
    let front = placed c.args.self.now c.place-else-t-left.new.self (take left t) c.place-else-t-left.ensures.lent c.place-else-t-left.ensures.bytes c.place-else-t-left.ensures.place (omega (arith, length-take-le left t (omega arith))) in
    let room = same_length front in
    let taken = length-take-le left t (omega arith) in
    then_as t front (no_place c.place-else-t-left.new.self (get_or t left 0) (drop (left + 1) t) (omega arith)) (sym (take-append-drop left t) ∙ ap (λ l. take left t ++ l) (drop_more t left 0 (omega arith)))
