use Rattle.std.proofs.Common.{sym, arith}
use Rattle.sources.proofs.Shelves.{shelf_count, shelf_none}
use Rattle.sources.proofs.shelf.Shelf.new.Goals as goal
use Rattle.sources.proofs.shelf.Shelf.new.Goals.{in-Ok, in-Err}

pub invariant_of-result : goal.invariant_of-result
invariant_of-result c =
    elim c.match-check_shelf.branch [
      | in-Ok w ↦ record { counted = omega (arith, shelf_count c.args.rows.now c.args.namings.now (sym w.in-Ok.ensures)) }
      | in-Err w ↦ record { counted = omega (arith, shelf_none c.args.rows.now c.args.namings.now (sym w.in-Err.ensures)) }
    ]
