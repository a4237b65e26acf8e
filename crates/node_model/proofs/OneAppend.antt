-- The history of one append is legal, by computation.
use Rattle.std.proofs.Common.{◌≡◌, ℕ, zero, suc, ◌/◌, ◌^◌, ◌<◌, ◌≤◌, [], ◌∷◌, Some, replicate, refl, subst, arith, slice_index}
use Rattle.log_base.specs.Wide.{IsBytes}
use Rattle.record_frame.specs.declared.entries.Entry.{Entry}
use Rattle.record_frame.specs.Entries.{IsEntry}
use Rattle.record_frame.specs.Values.{IsLengths}
use Rattle.message_frame.specs.Spelling.{AreVotes}
use Rattle.paxos_model.specs.Acceptor.{accept, prepare}
use Rattle.paxos_model.specs.Leader.{advance, merge, no_votes}
use Rattle.paxos_model.specs.Learner.{cut_wish, learn, left_wishes, nothing_heard, raise}
use Rattle.paxos_model.specs.Majority.{is_majority, no_marks}
use Rattle.paxos_model.specs.Votes.{reports}
use Rattle.log_model.specs.Asking.{ask}
use Rattle.log_model.specs.Learning.{known_after}
use Rattle.log_model.specs.Pairs.{held}
use Rattle.log_model.specs.Reading.{read}
use Rattle.log_model.specs.Storage.{report_of}
use Rattle.log_model.specs.Submitting.{submit}
use Rattle.node_model.specs.Chosen.{chosen_value, decided}
use Rattle.node_model.specs.GathererRow.{on_report, on_tick as gatherer_tick, outcome as gatherer_outcome}
use Rattle.node_model.specs.Legal.{AreNext, IsLegal}
use Rattle.node_model.specs.Nodes.{to_learners, to_orderers}
use Rattle.node_model.specs.OneAppend.{added, cut, one_append, one_held, one_of_each, record_a}
use Rattle.node_model.specs.OrdererRow.{learned, on_accept, on_accepted, on_lead, on_least, on_prepare, on_promised, on_request, on_settled, on_tick as orderer_tick, outcome as orderer_outcome}
use Rattle.node_model.specs.Sequence.{HasSeen, decided_by, sequence}
use Rattle.node_model.specs.StorageRow.{on_ask, on_decide, on_read, on_submit, on_tick as storage_tick, outcome as storage_outcome}
use Rattle.node_model.proofs.Checking.{computed, follows, submits_first}

zeros : (count k : ℕ) → slice_index (replicate count 0) k ≡ 0
zeros zero k = refl
zeros (suc count) zero = refl
zeros (suc count) (suc k) = zeros count k

-- one length, and no more of them
pub IsLengths-one : (limit count : ℕ) → 1 ≤ limit → count ≤ 16384 → IsLengths limit (record { count = 1; length = count ∷ replicate 31 0 })
IsLengths-one limit count some few = record { some = omega arith; count = some; cells = refl; small = small; rest = rest }
  where
    small : (k : ℕ) → k < 1 → slice_index (count ∷ replicate 31 0) k ≤ 16384
    small zero h = few
    small (suc k) h = absurd (omega arith)

    rest : (k : ℕ) → 1 ≤ k → slice_index (count ∷ replicate 31 0) k ≡ 0
    rest zero h = absurd (omega arith)
    rest (suc k) h = zeros 31 k

one_length : (limit : ℕ) → 1 ≤ limit → IsLengths limit one_held
one_length limit some = IsLengths-one limit 1 some (omega arith)

a_bytes : IsBytes (97 ∷ [])
a_bytes zero = omega arith
a_bytes (suc k) = omega arith

a_entry : IsEntry record_a
a_entry = record { client = omega arith; number = omega arith; size = omega arith; bytes = a_bytes }

no_votes_told : AreVotes 0 []
no_votes_told = record { few = omega arith; each = tt; rise = tt }

run_one : (entry : Entry) → Some record_a ≡ Some entry → entry.number.0 / 2 ^ 32 ≡ 1
run_one entry e =
    let same : record_a ≡ entry = cc in
    subst (λ (x : Entry). x.number.0 / 2 ^ 32 ≡ 1) same refl

pub one_append_follows : AreNext one_of_each 1 (λ disk. []) [] one_append
unfolding storage_outcome gatherer_outcome orderer_outcome on_lead on_prepare on_promised on_accept on_accepted on_request on_settled on_least orderer_tick on_ask on_decide on_read on_submit storage_tick on_report gatherer_tick learned prepare accept advance merge no_votes no_marks is_majority reports to_orderers to_learners learn left_wishes cut_wish nothing_heard raise ask held read submit known_after report_of
one_append_follows = (
  follows _ _ _ _ _ refl (computed _ _ _ _ refl (omega arith) refl refl refl refl tt tt),
  (
    follows _ _ _ _ _ refl (computed _ _ _ _ refl (omega arith) refl refl refl refl tt tt),
    (
      follows _ _ _ _ _ refl (computed _ _ _ _ refl (omega arith) refl refl refl refl tt tt),
      (
        follows _ _ _ _ _ refl (computed _ _ _ _ refl (omega arith) refl refl refl refl tt tt),
        (
          follows _ _ _ _ _ refl (computed _ _ _ _ refl (omega arith) refl refl refl refl (omega arith, tt) (record { event = _; at = refl; output = refl })),
          (
            follows _ _ _ _ _ refl (computed _ _ _ _ refl (omega arith) refl refl refl refl ((omega arith, omega arith, omega arith, no_votes_told), (omega arith, tt)) (record { event = _; at = refl; output = refl })),
            (
              follows _ _ _ _ _ refl (computed _ _ _ _ refl (omega arith) refl refl refl refl (tt, omega arith, omega arith) tt),
              (
                follows _ _ _ _ _ refl (computed _ _ _ _ refl (omega arith) refl refl refl refl tt tt),
                (
                  follows _ _ _ _ _ refl (computed _ _ _ _ refl (omega arith) refl refl refl refl (omega arith, omega arith) (record { event = _; at = refl; output = refl })),
                  (
                    follows _ _ _ _ _ refl (computed _ _ _ _ refl (omega arith) refl refl refl refl (omega arith, omega arith) (record { event = _; at = refl; output = refl })),
                    (
                      follows _ _ _ _ _ refl (computed _ _ _ _ refl (omega arith) refl refl refl refl (omega arith, omega arith) (record { event = _; at = refl; output = refl })),
                      (
                        submits_first _ _ _ _ _ (λ entry e. run_one entry e) refl (computed _ _ _ _ refl (omega arith) refl refl refl refl a_entry tt),
                        (
                          follows _ _ _ _ _ refl (computed _ _ _ _ refl (omega arith) refl refl refl refl tt tt),
                          (
                            follows _ _ _ _ _ refl (computed _ _ _ _ refl (omega arith) refl refl refl refl ((omega arith, omega arith, one_length 5 (omega arith)), (omega arith, omega arith, refl)) (record { event = _; at = refl; output = refl })),
                            (
                              follows _ _ _ _ _ refl (computed _ _ _ _ refl (omega arith) refl refl refl refl tt tt),
                              (
                                follows _ _ _ _ _ refl (computed _ _ _ _ refl (omega arith) refl refl refl refl ((omega arith, one_length 5 (omega arith)), (omega arith, refl)) (record { event = _; at = refl; output = refl })),
                                (
                                  follows _ _ _ _ _ refl (computed _ _ _ _ refl (omega arith) refl refl refl refl tt tt),
                                  (
                                    follows _ _ _ _ _ refl (computed _ _ _ _ refl (omega arith) refl refl refl refl ((omega arith, omega arith, one_length 32 (omega arith)), refl) (record { event = _; at = refl; output = refl })),
                                    (
                                      follows _ _ _ _ _ refl (computed _ _ _ _ refl (omega arith) refl refl refl refl (omega arith, omega arith) (record { event = _; at = refl; output = refl })),
                                      (
                                        follows _ _ _ _ _ refl (computed _ _ _ _ refl (omega arith) refl refl refl refl ((omega arith, one_length 32 (omega arith)), refl) (record { event = _; at = refl; output = refl })),
                                        (
                                          follows _ _ _ _ _ refl (computed _ _ _ _ refl (omega arith) refl refl refl refl tt tt),
                                          (
                                            follows _ _ _ _ _ refl (computed _ _ _ _ refl (omega arith) refl refl refl refl tt tt),
                                            (
                                              follows _ _ _ _ _ refl (computed _ _ _ _ refl (omega arith) refl refl refl refl omega arith tt),
                                              tt,
                                            ),
                                          ),
                                        ),
                                      ),
                                    ),
                                  ),
                                ),
                              ),
                            ),
                          ),
                        ),
                      ),
                    ),
                  ),
                ),
              ),
            ),
          ),
        ),
      ),
    ),
  ),
)

pub one_append_legal : IsLegal one_of_each 1 (λ disk. []) one_append
one_append_legal = record {
  config_in_range = record { some_replica = omega arith; replicas = omega arith; some_shard = omega arith; shards = omega arith; segments = omega arith; odd = refl; orderers = omega arith; some_gatherer = omega arith; gatherers = omega arith };
  sound = λ disk offset payload e. absurd (cc);
  follow = one_append_follows;
}

pub one_append_decided : decided_by one_of_each (λ disk. []) one_append ≡ added ∷ cut ∷ []
unfolding storage_outcome gatherer_outcome orderer_outcome on_lead on_prepare on_promised on_accept on_accepted on_request on_settled on_least orderer_tick on_ask on_decide on_read on_submit storage_tick on_report gatherer_tick learned prepare accept advance merge no_votes no_marks is_majority reports to_orderers to_learners learn left_wishes cut_wish nothing_heard raise ask held read submit known_after report_of decided chosen_value
one_append_decided = refl

pub one_append_sequence : sequence one_of_each (λ disk. []) one_append ≡ Some record_a ∷ []
unfolding storage_outcome gatherer_outcome orderer_outcome on_lead on_prepare on_promised on_accept on_accepted on_request on_settled on_least orderer_tick on_ask on_decide on_read on_submit storage_tick on_report gatherer_tick learned prepare accept advance merge no_votes no_marks is_majority reports to_orderers to_learners learn left_wishes cut_wish nothing_heard raise ask held read submit known_after report_of decided chosen_value sequence
one_append_sequence = refl

pub one_append_seen : HasSeen one_append 7 0
one_append_seen = record { place = 20; event = _; at = refl; is_told = record { called = refl; told = refl } }
