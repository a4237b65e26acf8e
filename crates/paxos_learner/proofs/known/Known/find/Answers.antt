use Rattle.std.proofs.Common.{ap, sym, ℕ, arith, Option}
use Rattle.std.specs.Option.{option_map}
use Rattle.paxos_learner.specs.Learning.{to_slot}
use Rattle.paxos_learner.proofs.Finding.{found_here, found_nowhere, never, one_passed}
use Rattle.paxos_learner.proofs.known.Known.find.Goals as goal

pub returns-then-holds : goal.returns-then-holds
returns-then-holds c =
    let found = found_here c.args.self.now.known c.args.value.now c.args.from.0 c.loop-at.at c.loop-at.invariant.reached c.loop-at.invariant.none
    (c.holds.ensures.0 c.if-holds.true) in
    sym (ap (λ (o : Option ℕ). option_map to_slot o) found)

pub loop-at-preserved : goal.loop-at-preserved
loop-at-preserved c =
    let reach = c.loop-at.invariant.reached in
    record {
      reached = omega (arith, reach);
      none = one_passed c.args.self.now.known c.args.value.now c.args.from.0 c.loop-at.at c.loop-at.invariant.none
          (λ same. never c.holds.result (c.holds.ensures.1 same) c.if-holds.false);
    }

pub returns : goal.returns
returns c =
    let past = c.loop-at-test.false in
    let none = found_nowhere c.args.self.now.known c.args.value.now c.args.from.0 c.loop-at.at (omega (arith, past, c.len-at-end.ensures.count)) c.loop-at.invariant.none in
    sym (ap (λ (o : Option ℕ). option_map to_slot o) none)
