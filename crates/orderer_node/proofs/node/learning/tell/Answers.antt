use Rattle.std.proofs.Common.{◌≡◌, suc, ◌+◌, ◌-◌, ◌≤◌, length, get_or, ◌∙◌, arith}
use Rattle.message_frame.specs.Spelling.{IsMessage}
use Rattle.node_model.specs.Messages.{decide_message}
use Rattle.record_frame.specs.declared.values.Value.TheVariants.{Noop}
use Rattle.record_frame.specs.Values.{IsValue}
use Rattle.orderer_node.proofs.Sending.{decide_rest, decide_space, decides-push, decides-small, decides_posted-push, each_at}
use Rattle.orderer_node.proofs.node.learning.tell.Goals as goal

pub send-requires-clause-message : goal.send-requires-clause-message
send-requires-clause-message c =
    let slot : c.loop-value.slot ≤ 16383 = omega (arith, c.loop-value.invariant.slot, c.loop-value-test.true, c.requires.slots) in
    (slot, each_at IsValue c.args.values.now c.loop-value.value-index Noop c.requires.values c.loop-value-test.true)

pub send-requires-clause-space : goal.send-requires-clause-space
send-requires-clause-space c =
    let slot : c.loop-value.slot ≤ 16383 = omega (arith, c.loop-value.invariant.slot, c.loop-value-test.true, c.requires.slots) in
    decide_space _ _ c.loop-value.slot (get_or c.args.values.now c.loop-value.value-index Noop) (length c.args.values.now - c.loop-value.value-index)
    (slot, each_at IsValue c.args.values.now c.loop-value.value-index Noop c.requires.values c.loop-value-test.true) (omega (arith, c.loop-value-test.true)) c.loop-value.invariant.space

pub loop-value-preserved : goal.loop-value-preserved
loop-value-preserved c =
    let slot : c.loop-value.slot ≤ 16383 = omega (arith, c.loop-value.invariant.slot, c.loop-value-test.true, c.requires.slots) in
    let i = c.loop-value.value-index in
    let value = get_or c.args.values.now i Noop in
    let is : IsMessage (decide_message c.loop-value.slot value) = (slot, each_at IsValue c.args.values.now i Noop c.requires.values c.loop-value-test.true) in
    let left : length c.args.values.now - i ≡ suc (length c.args.values.now - (i + 1)) = omega (arith, c.loop-value-test.true) in
    record {
      slot = omega (arith, c.loop-value.invariant.slot);
      sent = c.send.ensures.sent ∙ decides-push c.args.node.0 c.args.from.0 c.loop-value.slot c.args.values.now i Noop _ _ c.loop-value-test.true c.loop-value.invariant.slot c.loop-value.invariant.sent;
      posted = c.send.ensures.letters ∙ decides_posted-push c.args.node.0 c.args.from.0 c.loop-value.slot c.args.values.now i Noop _ _ c.loop-value-test.true c.loop-value.invariant.slot c.loop-value.invariant.posted;
      space = decide_rest c.loop-value.letters c.send.new.self c.loop-value.out.rooms c.send.new.out.rooms c.loop-value.slot value _ _ is left c.send.ensures.space c.loop-value.invariant.space;
    }

pub returns-clause-small : goal.returns-clause-small
returns-clause-small c = decides-small c.args.node.0 c.args.from.0 c.args.values.now c.requires.values c.requires.slots
