use Rattle.std.proofs.Common.{rules, arith, ◌≡◌, ◌∷◌, ◌<◌, map, length, sym, ap, ◌∙◌, subst}
use Rattle.std.proofs.lemmas.Iterator.Adapters.{YieldsList-from_vec}
use Rattle.std.proofs.lemmas.Iterator.Consumers.{YieldsList-so_far, YieldsList-turn}
use lib.ListN.{length-map}
use Rattle.tied_cells.specs.Opening.{asked_by, opened_event, IsOpening}
use Rattle.tied_cells.proofs.Starts.{goes_on, next_cell, opens_more, opens_no_more}
use Rattle.tied_cells.proofs.opening.open_all.Goals as goal

pub open_at-requires-clause-home : goal.open_at-requires-clause-home
open_at-requires-clause-home g c =
    let all = YieldsList-from_vec {s = c.into_iter-asked-iterator.result} c.args.opening.items (search rules) (search rules) in
    let so_far = YieldsList-so_far all c.inputs.yielded c.inputs.asked-iterator c.inputs.yielded_by in
    let turn = YieldsList-turn all c.inputs.yielded c.inputs.asked-iterator c.inputs.yielded_by c.next.result c.next.new.self c.in-Some.asked c.in-Some.is c.next.ensures.steps in
    let split = goes_on c.inputs.yielded c.args.opening.items c.in-Some.asked so_far turn.0 turn.1 in
    next_cell g.M.Machine.state g.M.Machine.meanings (map g.M.Machine.state c.args.starts.now.value.items) c.args.opening.items c.inputs.yielded split.0 c.in-Some.asked
    c.inputs.slots.items c.inputs.made.items c.requires.may split.1 c.inputs.invariant

pub open_at-requires-clause-few : goal.open_at-requires-clause-few
open_at-requires-clause-few g c =
    let all = YieldsList-from_vec {s = c.into_iter-asked-iterator.result} c.args.opening.items (search rules) (search rules) in
    let turn = YieldsList-turn all c.inputs.yielded c.inputs.asked-iterator c.inputs.yielded_by c.next.result c.next.new.self c.in-Some.asked c.in-Some.is c.next.ensures.steps in
    let below : length c.inputs.yielded < length c.args.opening.items = turn.0 in
    let many : length c.inputs.yielded ≡ length c.inputs.made.items = ap length c.inputs.invariant.asked
    ∙ (length-map (map opened_event c.inputs.made.items) (asked_by g.M.Machine.meanings) ∙ length-map c.inputs.made.items opened_event) in
    let few = c.requires.few in
    omega arith

pub inputs-preserved : goal.inputs-preserved
inputs-preserved g c =
    let all = YieldsList-from_vec {s = c.into_iter-asked-iterator.result} c.args.opening.items (search rules) (search rules) in
    let so_far = YieldsList-so_far all c.inputs.yielded c.inputs.asked-iterator c.inputs.yielded_by in
    let turn = YieldsList-turn all c.inputs.yielded c.inputs.asked-iterator c.inputs.yielded_by c.next.result c.next.new.self c.in-Some.asked c.in-Some.is c.next.ensures.steps in
    let split = goes_on c.inputs.yielded c.args.opening.items c.in-Some.asked so_far turn.0 turn.1 in
    opens_more g.M.Machine.state g.M.Machine.meanings (map g.M.Machine.state c.args.starts.now.value.items) c.args.opening.items c.inputs.yielded split.0 c.in-Some.asked
    c.inputs.slots.items c.open_at.new.slots.items c.inputs.made.items c.open_at.new.made.items c.requires.may split.1 c.inputs.invariant c.in-Ok.ensures.ok

pub returns-in-Err-clause-err : goal.returns-in-Err-clause-err
returns-in-Err-clause-err g c =
    let all = YieldsList-from_vec {s = c.into_iter-asked-iterator.result} c.args.opening.items (search rules) (search rules) in
    let so_far = YieldsList-so_far all c.inputs.yielded c.inputs.asked-iterator c.inputs.yielded_by in
    let turn = YieldsList-turn all c.inputs.yielded c.inputs.asked-iterator c.inputs.yielded_by c.next.result c.next.new.self c.in-Some.asked c.in-Some.is c.next.ensures.steps in
    let split = goes_on c.inputs.yielded c.args.opening.items c.in-Some.asked so_far turn.0 turn.1 in
    let starts = map g.M.Machine.state c.args.starts.now.value.items in (
      c.inputs.yielded,
      c.in-Some.asked ∷ split.0,
      split.1,
      subst (λ made. IsOpening g.M.Machine.state g.M.Machine.meanings starts c.inputs.yielded c.open_at.new.slots.items made) (sym c.in-Err.ensures.made)
          (opens_no_more g.M.Machine.state g.M.Machine.meanings starts c.args.opening.items c.inputs.yielded split.0 c.in-Some.asked
          c.inputs.slots.items c.open_at.new.slots.items c.inputs.made.items c.requires.may split.1 c.inputs.invariant c.in-Err.ensures.err),
    )
