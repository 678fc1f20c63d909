use Rattle.std.proofs.Common.{◌≡◌, ◌+◌, add-zero, arith}
use Rattle.signature.proofs.Walks.{Walked_start, Walked_here, Walked_more, Walked_stop, Walked_all, Walked_end}
use Rattle.signature.proofs.walk.print_operands.Goals as goal

pub loop-i-init : goal.loop-i-init
loop-i-init c = rw (c.new-walk.ensures, add-zero) (Walked_start c.args.setting c.args.w.now c.args.first c.args.kinds.now)

pub returns-in_err-print_operand : goal.returns-in_err-print_operand
returns-in_err-print_operand c =
    let place : c.after.result ≡ c.args.first + c.loop-i.i = omega arith in
    let wrote = c.in_err-print_operand.ensures.wrote in
    Walked_stop (omega arith) (Walked_here c.args.kinds.now c.loop-i.i _ (omega arith) c.loop-i.invariant)
    (rw place at wrote) c.from_residual.ensures.1

pub loop-i-preserved : goal.loop-i-preserved
loop-i-preserved c =
    let place : c.after.result ≡ c.args.first + c.loop-i.i = omega arith in
    let wrote = c.in_ok-print_operand.ensures.wrote in
    let moved = c.in_ok-print_operand.ensures.moved in
    let on : c.args.first + (c.loop-i.i + 1) ≡ (c.args.first + c.loop-i.i) + 1 = omega arith in
    rw on (Walked_more (omega arith) (Walked_here c.args.kinds.now c.loop-i.i _ (omega arith) c.loop-i.invariant) (rw place at wrote) (rw place at moved))

pub returns : goal.returns
returns c = Walked_all (Walked_end c.args.kinds.now c.loop-i.i (omega arith) c.loop-i.invariant) (rw (← c.implied.ensures) c.print.ensures)
