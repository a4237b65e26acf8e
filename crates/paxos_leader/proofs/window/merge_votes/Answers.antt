use Rattle.std.proofs.Common.{sym, ◌∙◌}
use Rattle.record_frame.specs.declared.values.Value.TheVariants.{Noop}
use Rattle.paxos_model.specs.Votes.{vote_of}
use Rattle.paxos_model.proofs.Merging.{merge-nil, merge_more}
use Rattle.paxos_leader.proofs.window.merge_votes.Goals as goal

pub loop-vote-init : goal.loop-vote-init
loop-vote-init c = sym (merge-nil c.args.from.0 c.args.best.now)

pub loop-vote-preserved : goal.loop-vote-preserved
loop-vote-preserved c =
    c.merge_vote.ensures
    ∙ merge_more c.args.from.0 c.args.best.now c.loop-vote.best c.args.votes.now c.loop-vote.vote-index (vote_of 0 0 Noop) c.loop-vote-test.true c.loop-vote.invariant
