use Rattle.std.proofs.Common.{◌≡◌, ℕ, ◌+◌, ◌<◌, List, length, get_or, ap, ◌∙◌, max, arith}
use Rattle.std.proofs.Math.ListN.{set}
use Rattle.paxos_model.specs.Learner.{raised_from}
use Rattle.orderer_node.proofs.Orderers.{raised_more, raised_none}
use Rattle.orderer_node.proofs.memory.learning.raise.Goals as goal

pub loop-segment-init : goal.loop-segment-init
loop-segment-init c = raised_none 0 c.args.first c.args.given.now c.args.heard.now

pub loop-segment-preserved : goal.loop-segment-preserved
loop-segment-preserved c =
    let fits : c.args.first + c.loop-segment.segment < length c.args.heard.now = omega (arith, c.told-heard) in
    let place = c.args.first + c.loop-segment.segment in
    let raised : c.max.result ≡ max (get_or (raised_from 0 c.args.first c.loop-segment.segment c.args.given.now c.args.heard.now) place 0) (get_or c.args.given.now c.loop-segment.segment 0) =
    c.max.ensures ∙ ap (λ (l : List ℕ). max (get_or l place 0) (get_or c.args.given.now c.loop-segment.segment 0)) c.loop-segment.invariant in
    ap (λ (l : List ℕ). set l place c.max.result) c.loop-segment.invariant
    ∙ raised_more c.args.first c.loop-segment.segment c.args.given.now c.args.heard.now c.max.result fits raised

pub returns : goal.returns
returns c =
    let all : c.loop-segment.segment ≡ c.args.count = omega (arith, c.loop-segment-test.false, c.loop-segment.auto.segment-end, c.from-segment-end.ensures) in
    c.loop-segment.invariant ∙ ap (λ (n : ℕ). raised_from 0 c.args.first n c.args.given.now c.args.heard.now) all
