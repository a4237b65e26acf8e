-- The history of two leaders is legal, by computation.
use Rattle.std.proofs.Common.{◌≡◌, [], ◌∷◌, refl, arith}
use Rattle.message_frame.specs.Spelling.{AreVotes}
use Rattle.record_frame.specs.declared.values.Value.TheVariants.{Add}
use Rattle.paxos_model.specs.Acceptor.{accept, prepare}
use Rattle.paxos_model.specs.Leader.{advance, merge, no_votes}
use Rattle.paxos_model.specs.Learner.{cut_wish, learn, left_wishes, nothing_heard}
use Rattle.paxos_model.specs.Majority.{is_majority, no_marks}
use Rattle.paxos_model.specs.Votes.{reports, vote_of}
use Rattle.node_model.specs.Chosen.{chosen_value, decided}
use Rattle.node_model.specs.Histories.{durable_after, orderer_after}
use Rattle.node_model.specs.Legal.{AreNext, IsLegal}
use Rattle.node_model.specs.Nodes.{to_learners, to_orderers}
use Rattle.node_model.specs.OrdererNode.{known_of}
use Rattle.node_model.specs.OrdererRow.{learned, on_accept, on_accepted, on_lead, on_prepare, on_promised, on_request, outcome}
use Rattle.node_model.proofs.Checking.{computed, follows}
use Rattle.core_step.specs.TwoLeaders.{three_orderers, two_leaders, wanted}

no_votes_told : AreVotes 0 []
no_votes_told = record { few = omega arith; each = tt; rise = tt }

one_vote_told : AreVotes 0 (vote_of 3 0 wanted ∷ [])
one_vote_told = record {
  few = omega arith;
  each = (record { start = omega arith; window = omega arith; slot = omega arith; ballot = omega arith; value = omega arith }, tt);
  rise = (omega arith, tt);
}

two_leaders_follow : AreNext three_orderers 1 (λ disk. []) [] two_leaders
unfolding outcome on_lead on_prepare on_promised on_accept on_accepted on_request learned prepare accept advance merge no_votes no_marks is_majority reports to_orderers to_learners learn left_wishes cut_wish nothing_heard
two_leaders_follow = (
  follows _ _ _ _ _ refl (computed _ _ _ _ refl (omega arith) refl refl refl refl tt tt),
  (
    follows _ _ _ _ _ refl (computed _ _ _ _ refl (omega arith) refl refl refl refl tt tt),
    (
      follows _ _ _ _ _ refl (computed _ _ _ _ refl (omega arith) refl refl refl refl tt tt),
      (
        follows _ _ _ _ _ refl (computed _ _ _ _ refl (omega arith) refl refl refl refl tt tt),
        (
          follows _ _ _ _ _ refl (computed _ _ _ _ refl (omega arith) refl refl refl refl (tt, omega arith, omega arith) tt),
          (
            follows _ _ _ _ _ refl (computed _ _ _ _ refl (omega arith) refl refl refl refl (omega arith, tt) (record { event = _; at = refl; output = refl })),
            (
              follows _ _ _ _ _ refl (computed _ _ _ _ refl (omega arith) refl refl refl refl (omega arith, tt) (record { event = _; at = refl; output = refl })),
              (
                follows _ _ _ _ _ refl (computed _ _ _ _ refl (omega arith) refl refl refl refl ((omega arith, omega arith, omega arith, no_votes_told), (omega arith, tt)) (record { event = _; at = refl; output = refl })),
                (
                  follows _ _ _ _ _ refl (computed _ _ _ _ refl (omega arith) refl refl refl refl ((omega arith, omega arith, omega arith, no_votes_told), (omega arith, tt)) (record { event = _; at = refl; output = refl })),
                  (
                    follows _ _ _ _ _ refl (computed _ _ _ _ refl (omega arith) refl refl refl refl (omega arith, omega arith) (record { event = _; at = refl; output = refl })),
                    (
                      follows _ _ _ _ _ refl (computed _ _ _ _ refl (omega arith) refl refl refl refl tt tt),
                      (
                        follows _ _ _ _ _ refl (computed _ _ _ _ refl (omega arith) refl refl refl refl tt tt),
                        (
                          follows _ _ _ _ _ refl (computed _ _ _ _ refl (omega arith) refl refl refl refl (omega arith, tt) (record { event = _; at = refl; output = refl })),
                          (
                            follows _ _ _ _ _ refl (computed _ _ _ _ refl (omega arith) refl refl refl refl (omega arith, tt) (record { event = _; at = refl; output = refl })),
                            (
                              follows _ _ _ _ _ refl (computed _ _ _ _ refl (omega arith) refl refl refl refl ((omega arith, omega arith, omega arith, one_vote_told), (omega arith, (omega arith, tt))) (record { event = _; at = refl; output = refl })),
                              (
                                follows _ _ _ _ _ refl (computed _ _ _ _ refl (omega arith) refl refl refl refl ((omega arith, omega arith, omega arith, no_votes_told), (omega arith, tt)) (record { event = _; at = refl; output = refl })),
                                (
                                  follows _ _ _ _ _ refl (computed _ _ _ _ refl (omega arith) refl refl refl refl (omega arith, omega arith) (record { event = _; at = refl; output = refl })),
                                  (
                                    follows _ _ _ _ _ refl (computed _ _ _ _ refl (omega arith) refl refl refl refl (omega arith, omega arith) (record { event = _; at = refl; output = refl })),
                                    (
                                      follows _ _ _ _ _ refl (computed _ _ _ _ refl (omega arith) refl refl refl refl (omega arith, omega arith) (record { event = _; at = refl; output = refl })),
                                      (
                                        follows _ _ _ _ _ refl (computed _ _ _ _ refl (omega arith) refl refl refl refl (omega arith, omega arith) (record { event = _; at = refl; output = refl })),
                                        tt,
                                      ),
                                    ),
                                  ),
                                ),
                              ),
                            ),
                          ),
                        ),
                      ),
                    ),
                  ),
                ),
              ),
            ),
          ),
        ),
      ),
    ),
  ),
)

pub two_leaders_legal : IsLegal three_orderers 1 (λ disk. []) two_leaders
two_leaders_legal = record {
  config_in_range = record { some_replica = omega arith; replicas = omega arith; some_shard = omega arith; shards = omega arith; segments = omega arith; odd = refl; orderers = omega arith; some_gatherer = omega arith; gatherers = omega arith };
  sound = λ disk offset payload e. absurd (cc);
  follow = two_leaders_follow;
}

pub two_leaders_decided : decided 3 (durable_after three_orderers (λ i. []) two_leaders) ≡ Add (record { 0 = 0 }) ∷ []
unfolding outcome on_lead on_prepare on_promised on_accept on_accepted on_request learned prepare accept advance merge no_votes no_marks is_majority reports to_orderers to_learners learn left_wishes cut_wish nothing_heard decided chosen_value
two_leaders_decided = refl

pub two_leaders_known : known_of (orderer_after three_orderers (λ i. []) two_leaders 2).mode ≡ Add (record { 0 = 0 }) ∷ []
unfolding outcome on_lead on_prepare on_promised on_accept on_accepted on_request learned prepare accept advance merge no_votes no_marks is_majority reports to_orderers to_learners learn left_wishes cut_wish nothing_heard
two_leaders_known = refl
