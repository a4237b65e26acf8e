use Rattle.std.proofs.Common.{◌≡◌, ◌≢◌, ◌∙◌, ap, arith}
use Rattle.cut_chain.specs.Known.{Known}
use Rattle.log_model.specs.Learning.{known_after}
use Rattle.shard_replica.specs.Replica.{Replicated, member_of, knowledge_in}
use Rattle.shard_replica.proofs.Knowing.{learn-other, learn-next, with_known, IsReplica-learned}
use Rattle.shard_replica.proofs.replica.ShardReplica.learn.Goals as goal

pub returns-then-slot-next-clause-state : goal.returns-then-slot-next-clause-state
returns-then-slot-next-clause-state g c =
    let s = c.args.self.now.state in
    let same : c.self.inside.chain.known.count ≡ s.known.count = ap (λ (r : Replicated). r.state.known.count) c.self.view_is in
    let other : c.args.slot.0 ≢ s.known.count = omega (arith, same, c.len-next.ensures, c.if-slot-next.true) in
    ap (with_known s) (learn-other (member_of s) s.known c.args.slot.0 c.args.value.now other)

pub returns-then-slot-next-2-clause-state : goal.returns-then-slot-next-2-clause-state
returns-then-slot-next-2-clause-state g c =
    let s = c.args.self.now.state in
    let same : c.self.inside.chain.known.count ≡ s.known.count = ap (λ (r : Replicated). r.state.known.count) c.self.view_is in
    let other : c.args.slot.0 ≢ s.known.count = omega (arith, same, c.len-next.ensures, c.if-slot-next-2.true) in
    ap (with_known s) (learn-other (member_of s) s.known c.args.slot.0 c.args.value.now other)

pub returns-clause-state : goal.returns-clause-state
returns-clause-state g c =
    let known = c.self.inside.chain.known in
    let before = λ (r : Replicated). r.state in
    let next : c.args.slot.0 ≡ known.count = omega (arith, c.len-next.ensures, c.if-slot-next.false, c.if-slot-next-2.false) in
    let same : known.config.replicas ≡ (member_of c.args.self.now.state).replicas =
    ap (λ (k : Known). k.config.replicas) c.self.invariant.known_is ∙ ap (λ (r : Replicated). r.state.config.replicas) c.self.view_is in
    let learned_now : knowledge_in c.apply.new.self.known ≡ known_after (member_of c.args.self.now.state) (knowledge_in known) c.args.slot.0 c.args.value.now =
    ap knowledge_in c.apply.ensures ∙ learn-next (member_of c.args.self.now.state) known c.args.slot.0 c.args.value.now same next in
    let after : knowledge_in c.apply.new.self.known ≡ known_after (member_of c.args.self.now.state) c.args.self.now.state.known c.args.slot.0 c.args.value.now =
    learned_now ∙ ap (λ (r : Replicated). known_after (member_of c.args.self.now.state) r.state.known c.args.slot.0 c.args.value.now) c.self.view_is in
    ap (λ (r : Replicated). with_known r.state (knowledge_in c.apply.new.self.known)) c.self.view_is ∙ ap (with_known c.args.self.now.state) after

pub invariant_of-self : goal.invariant_of-self
invariant_of-self g c =
    IsReplica-learned _ _ _ _ c.self.inside.chain.known _ _ c.args.value.now c.apply.ensures c.self.invariant
