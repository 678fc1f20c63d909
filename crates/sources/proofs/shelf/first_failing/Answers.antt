use Rattle.std.proofs.Common.{[], ◌∷◌, length, drop, sym, ap, ◌∙◌, length-append}
use Rattle.std.specs.Iterator.Adapters.{enumerate_source, zip_first, zip_second}
use Rattle.std.specs.List.{enumerate_from, zip}
use Rattle.std.specs.Slice.Iter.{iter_rest}
use Rattle.std.proofs.lemmas.Iterator.Consumers.{YieldsList-turn, YieldsList-end}
use Rattle.sources.proofs.Shelves.{refused_among, refused_from_pairs, pairs_listed, refused_here, refused_later, refused_none}
use Rattle.sources.proofs.shelf.first_failing.Goals as goal

pub loop-place-init : goal.loop-place-init
loop-place-init c =
    refused_from_pairs 0 (iter_rest (zip_first (enumerate_source c.args.placed))) (iter_rest (zip_second (enumerate_source c.args.placed)))

pub returns-in-Some-check_pair : goal.returns-in-Some-check_pair
returns-in-Some-check_pair c =
    let rows = iter_rest (zip_first (enumerate_source c.args.placed)) in
    let namings = iter_rest (zip_second (enumerate_source c.args.placed)) in
    let listed = pairs_listed {s = c.into_iter-place-iterator.result} rows namings (cc) (cc) (cc) in
    let turn = YieldsList-turn listed c.loop-place.yielded _ c.loop-place.yielded_by _ c.next.new.self (c.in-Some.place, (c.in-Some.row, c.in-Some.naming)) c.in-Some.is c.next.ensures.steps in
    sym (c.loop-place.invariant ∙ refused_here (enumerate_from 0 (zip rows namings)) (length c.loop-place.yielded) _ turn.0 turn.1 c.in-Some-check_pair.ensures)

pub loop-place-preserved : goal.loop-place-preserved
loop-place-preserved c =
    let rows = iter_rest (zip_first (enumerate_source c.args.placed)) in
    let namings = iter_rest (zip_second (enumerate_source c.args.placed)) in
    let listed = pairs_listed {s = c.into_iter-place-iterator.result} rows namings (cc) (cc) (cc) in
    let turn = YieldsList-turn listed c.loop-place.yielded _ c.loop-place.yielded_by _ c.next.new.self (c.in-Some.place, (c.in-Some.row, c.in-Some.naming)) c.in-Some.is c.next.ensures.steps in
    c.loop-place.invariant
    ∙ refused_later (enumerate_from 0 (zip rows namings)) (length c.loop-place.yielded) _ turn.0 turn.1 c.in_default.ensures
    ∙ ap
    (λ n. refused_among (drop n (enumerate_from 0 (zip rows namings))))
    (sym (length-append c.loop-place.yielded ((c.in-Some.place, (c.in-Some.row, c.in-Some.naming)) ∷ [])))

pub returns : goal.returns
returns c =
    let rows = iter_rest (zip_first (enumerate_source c.args.placed)) in
    let namings = iter_rest (zip_second (enumerate_source c.args.placed)) in
    let listed = pairs_listed {s = c.into_iter-place-iterator.result} rows namings (cc) (cc) (cc) in
    let all = YieldsList-end listed c.loop-place.yielded _ c.loop-place.yielded_by _ c.next.new.self c.in-None.is c.next.ensures.steps in
    sym (c.loop-place.invariant ∙ refused_none (enumerate_from 0 (zip rows namings)) (length c.loop-place.yielded) all.1)
