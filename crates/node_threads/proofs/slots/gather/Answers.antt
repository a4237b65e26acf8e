use Rattle.std.proofs.Common.{◌≢◌, None, length, arith, ap}
use Rattle.std.proofs.lemmas.List.Elements.{All-rest}
use Rattle.node_threads.proofs.Ran.{moved}
use Rattle.node_threads.proofs.slots.gather.Goals as goal

pub loop-slot-preserved : goal.loop-slot-preserved
loop-slot-preserved g c =
    let step = c.in-Some.ensures.steps.0 in
    let was = c.loop-slot.invariant in
    let put = c.put.ensures in
    record {
      tokens = moved (λ s. s.token) _ _ c.in-Some.slot _ _ _ was.tokens step put.tokens;
      answers = moved (λ s. s.answer) _ _ c.in-Some.slot _ _ _ was.answers step put.answers;
      ended = All-rest (λ s. s.answer ≢ None) c.in-Some.slot _ _ step was.ended;
      token_room = omega (arith, was.token_room, put.len.0, put.capacity.0, ap length step);
      answer_room = omega (arith, was.answer_room, put.len.1, put.capacity.1, ap length step);
    }
