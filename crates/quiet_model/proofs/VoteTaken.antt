-- Letters of a decision that leave the leader's memory: proposals, prepares, wants and decisions.
use Rattle.std.proofs.Common.{◌≡◌, ◌⊎◌, ◌<◌, ℕ, suc, ◌==◌, List, [], ◌∷◌, ◌++◌, length, slice_get, Option, Some, None, refl, sym, ap, subst, inl, inr, arith, append-nil, length-append, eq-eqb, ◌∙◌}
use Rattle.std.proofs.lemmas.Bool.{cond-false, cond-true, ne_eqb}
use Rattle.reply_frame.specs.declared.replies.Reply.{Nothing}
use Rattle.history_frame.specs.declared.events.Sent.{Sent}
use Rattle.history_frame.specs.declared.inputs.Input.TheVariants.{Deliver}
use Rattle.history_frame.specs.declared.inputs.Mark.TheVariants.{Done}
use Rattle.log_base.specs.ClusterShape.{Shape}
use Rattle.log_base.specs.declared.numbers.Ballot.{Ballot}
use Rattle.log_base.specs.declared.numbers.NodeId.{NodeId}
use Rattle.log_base.specs.declared.numbers.Place.{Place}
use Rattle.log_base.specs.declared.numbers.Slot.{Slot}
use Rattle.log_model.specs.Chain.{chain_of, covered_by}
use Rattle.log_model.specs.Learning.{known_after, knowing}
use Rattle.log_model.specs.Spelling.{spell}
use Rattle.log_model.specs.Storage.{Knowledge, Member, knowledge_of}
use Rattle.log_model.proofs.Appending.{chain_of-append, spell-append}
use Rattle.message_frame.specs.declared.messages.Message.{Message}
use Rattle.message_frame.specs.declared.messages.Message.TheVariants.{Prepare, Accept, Decide, Want}
use Rattle.node_table.specs.declared.role.Role.{Role}
use Rattle.node_table.specs.declared.role.Role.TheVariants.{Orderer}
use Rattle.node_table.specs.Numbering.{node_of, orderer_node}
use Rattle.paxos_model.specs.Learner.{Wish, learn, left_wishes}
use Rattle.paxos_model.specs.Leader.{Leader}
use Rattle.paxos_model.specs.Votes.{Payload}
use Rattle.record_frame.specs.declared.values.Value.{Value}
use Rattle.node_model.specs.Marks.{Running, stored_with}
use Rattle.node_model.specs.Messages.{accepted_message, decide_message, promised_message}
use Rattle.node_model.specs.Nodes.{letter}
use Rattle.node_model.specs.NodeState.{NodeOutcome, NodeState, Storing, Ordering, node_outcome}
use Rattle.node_model.specs.OrdererNode.{Change, Mode as OrdererMode, Node, Orderer as OrdererMemory, with_put}
use Rattle.node_model.specs.OrdererRow.{decide_letter, decide_letters, leader_after, learned, on_accept, on_prepare, on_want, orderer_role, quiet, told}
use Rattle.node_model.specs.StorageNode.{Replica, StorageNode, member_of}
use Rattle.node_model.specs.StorageRow.{on_decide, told as storage_told}
use Rattle.quiet_model.specs.Settled.{IsAcceptor}
use Rattle.quiet_model.proofs.Decision.{Decision, AcceptedFrom, AreVotingLetters, IsAccept, IsAcceptedBy, IsDecide, IsDecision, IsFollower, IsLearning, IsPrepare, IsPromisedBy, IsVoter, IsVoting, PromisedFrom, ToLearner, count_in, known_of, memory_by, memory_in, slot_of, values_of}
use Rattle.quiet_model.proofs.Outcomes.{orderer_takes, replica_takes}
use Rattle.quiet_model.proofs.Rows.{last_entry, none_decided}
use Rattle.quiet_model.proofs.Voting.{Accepts, accepts, promises}
use Rattle.quiet_model.proofs.Waiting.{Waits}
use Rattle.quiet_model.proofs.Follows.{as_role}

pub record IsVoted (d : Decision) (m : Message) (outs : List Sent) (role : Role) (old new : NodeState) : Type 0 where
  pub fine : IsVoting d role new
  pub memory : role ≡ Orderer 0 → memory_in new ≡ memory_in old
  pub knows : count_in old ≡ suc (slot_of d) → count_in new ≡ suc (slot_of d)
  pub accept : (j : ℕ) → role ≡ Orderer j → IsAccept m → Waits (AcceptedFrom j) outs
  pub decide : IsDecide m → count_in new ≡ suc (slot_of d)
  pub prepare : (j : ℕ) → role ≡ Orderer j → IsPrepare m → Waits (PromisedFrom j) outs
  pub accepted : (j : ℕ) → IsAcceptedBy j m → ⊥
  pub promised : (j : ℕ) → IsPromisedBy j m → ⊥
  pub letters : AreVotingLetters d outs

pub record VoteTaken (d : Decision) (m : Message) (role : Role) (old : NodeState) (place index : ℕ) : Type 0 where
  pub made : NodeOutcome
  pub rule : node_outcome d.config (node_of d.config role) old (Deliver place index (Some m)) Done ≡ Some made
  pub handled : IsVoted d m made.outputs role old made.state

pub same_index : (i j : ℕ) → Orderer i ≡ Orderer j → i ≡ j
same_index i j e = cc

stored_is : (config : Shape) (i : ℕ) (list : List Payload) (put : Option Payload) → stored_with (orderer_role config i) list put ≡ with_put list put
stored_is config i list None = refl
stored_is config i list (Some payload) = refl

pub longer : (d : Decision) → length (values_of d) ≡ suc (slot_of d)
longer d = omega (arith, length-append d.agreed.values (d.value ∷ []))

-- ---- at an orderer

module _ (d : Decision) (can : IsDecision d) (i : ℕ) (within : i < d.config.orderers) (node : Node) (h : IsVoter d i node) where
  memory_is : memory_by node.mode ≡ Some h.orderer
  memory_is = ap (λ (mode : OrdererMode). memory_by mode) h.runs

  same_count : count_in (Ordering node) ≡ length h.orderer.known
  same_count = ap known_of memory_is

  -- the same memory, with a list of this kind
  same_voter : (list : List Payload) → IsAcceptor d.agreed.ballot (suc (slot_of d)) list → IsVoter d i (record { durable = list; mode = Running h.orderer })
  same_voter list cast = record { orderer = h.orderer; runs = refl; cast = cast; knows = h.knows; follows = h.follows }

  pub accept_taken : (ballot : Ballot) (slot : Slot) (value : Value) → ballot.0 ≡ d.agreed.ballot → slot.0 ≡ slot_of d → value ≡ d.value → (place index : ℕ)
      → VoteTaken d (Accept ballot slot value) (Orderer i) (Ordering node) place index
  accept_taken ballot slot value e f g place index =
      let a : Accepts d.config i d.agreed.ballot (slot_of d) d.value node.durable h.orderer = accepts d.config d.agreed.ballot can.owner i node.durable h.orderer (slot_of d) d.value h.cast in
      let change : Change = record { put = a.put; after = h.orderer; outputs = letter (orderer_node d.config 0) (accepted_message d.agreed.ballot (slot_of d) i) ∷ []; reply = Nothing } in
      let row : on_accept d.config i node.durable h.orderer ballot.0 slot.0 value ≡ change =
      ap (λ (n : ℕ). on_accept d.config i node.durable h.orderer n slot.0 value) e
      ∙ ap (λ (n : ℕ). on_accept d.config i node.durable h.orderer d.agreed.ballot n value) f
      ∙ ap (λ (v : Value). on_accept d.config i node.durable h.orderer d.agreed.ballot (slot_of d) v) g
      ∙ a.row in
      record {
        made = record { state = Ordering (record { durable = stored_with (orderer_role d.config i) node.durable a.put; mode = Running h.orderer }); outputs = change.outputs; reply = Nothing };
        rule = orderer_takes d.config i within node h.orderer change h.runs (Deliver place index (Some (Accept ballot slot value))) refl (ap Some row);
        handled = record {
          fine = same_voter (stored_with (orderer_role d.config i) node.durable a.put)
              (subst (IsAcceptor d.agreed.ballot (suc (slot_of d))) (sym (stored_is d.config i node.durable a.put)) a.fine);
          memory = λ zero_is. sym memory_is;
          knows = λ had. sym same_count ∙ had;
          accept = λ j same is. inl (same_index i j same);
          decide = λ is. absurd is;
          prepare = λ j same is. absurd is;
          accepted = λ j is. is;
          promised = λ j is. is;
          letters = ((refl, refl, refl, within), tt);
        };
      }

  pub prepare_taken : (ballot : Ballot) (slot : Slot) → ballot.0 ≡ d.agreed.ballot → slot.0 ≡ suc (slot_of d) → (place index : ℕ)
      → VoteTaken d (Prepare ballot slot) (Orderer i) (Ordering node) place index
  prepare_taken ballot slot e f place index =
      let change : Change = record { put = None; after = h.orderer; outputs = letter (orderer_node d.config 0) (promised_message d.agreed.ballot (suc (slot_of d)) i []) ∷ []; reply = Nothing } in
      let row : on_prepare d.config i node.durable h.orderer ballot.0 slot.0 ≡ change =
      ap (λ (n : ℕ). on_prepare d.config i node.durable h.orderer n slot.0) e
      ∙ ap (λ (n : ℕ). on_prepare d.config i node.durable h.orderer d.agreed.ballot n) f
      ∙ promises d.config d.agreed.ballot can.owner i node.durable h.orderer (suc (slot_of d)) (suc (slot_of d)) h.cast in
      record {
        made = record { state = Ordering (record { durable = node.durable; mode = Running h.orderer }); outputs = change.outputs; reply = Nothing };
        rule = orderer_takes d.config i within node h.orderer change h.runs (Deliver place index (Some (Prepare ballot slot))) refl (ap Some row);
        handled = record {
          fine = same_voter node.durable h.cast;
          memory = λ zero_is. sym memory_is;
          knows = λ had. sym same_count ∙ had;
          accept = λ j same is. absurd is;
          decide = λ is. absurd is;
          prepare = λ j same is. inl (same_index i j same);
          accepted = λ j is. is;
          promised = λ j is. is;
          letters = ((refl, refl, refl, within, refl), tt);
        };
      }

  -- what one who wants the slot's value is told
  told_after : (asker : ℕ) → ToLearner d asker → (known : List Value) → (known ≡ d.agreed.values) ⊎ (known ≡ values_of d) → AreVotingLetters d (decide_letters asker known (slot_of d) 16)
  told_after asker learner known (inl e) =
      subst (AreVotingLetters d) (sym (none_decided asker known (slot_of d) 16 (omega (arith, ap length e)))) tt
  told_after asker learner known (inr e) =
      subst (AreVotingLetters d) (sym (one_told 15)) ((learner, refl, refl), tt)
    where
      found : slice_get known (slot_of d) ≡ Some d.value
      found = ap (λ (list : List Value). slice_get list (slot_of d)) e ∙ last_entry d.agreed.values d.value

      one_told : (count : ℕ) → decide_letters asker known (slot_of d) (suc count) ≡ letter asker (decide_message (slot_of d) d.value) ∷ []
      one_told count =
          ap (λ (o : Option Value). decide_letter asker (slot_of d) o ++ decide_letters asker known (suc (slot_of d)) count) found
          ∙ ap (λ outs. letter asker (decide_message (slot_of d) d.value) ∷ outs)
          (none_decided asker known (suc (slot_of d)) count (omega (arith, ap length e, longer d)))

  want_row : (from asking : ℕ) → on_want h.orderer from asking ≡ told h.orderer (decide_letters asking h.orderer.known from 16)
  unfolding on_want
  want_row from asking = refl

  pub want_taken : (slot : Slot) (asker : NodeId) → ToLearner d asker.0 → slot.0 ≡ slot_of d → (place index : ℕ) → VoteTaken d (Want slot asker) (Orderer i) (Ordering node) place index
  want_taken slot asker learner e place index =
      let change : Change = told h.orderer (decide_letters asker.0 h.orderer.known slot.0 16) in
      record {
        made = record { state = Ordering (record { durable = node.durable; mode = Running h.orderer }); outputs = change.outputs; reply = Nothing };
        rule = orderer_takes d.config i within node h.orderer change h.runs (Deliver place index (Some (Want slot asker))) refl (ap Some (want_row slot.0 asker.0));
        handled = record {
          fine = same_voter node.durable h.cast;
          memory = λ zero_is. sym memory_is;
          knows = λ had. sym same_count ∙ had;
          accept = λ j same is. absurd is;
          decide = λ is. absurd is;
          prepare = λ j same is. absurd is;
          accepted = λ j is. is;
          promised = λ j is. is;
          letters = subst (λ (n : ℕ). AreVotingLetters d (decide_letters asker.0 h.orderer.known n 16)) (sym e) (told_after asker.0 learner h.orderer.known h.knows);
        };
      }

-- ---- at a learner

-- values that are learned once
pub learn_once : (d : Decision) (known : List Value) → (known ≡ d.agreed.values) ⊎ (known ≡ values_of d) → learn known (slot_of d) d.value ≡ values_of d
unfolding learn
learn_once d known (inl e) =
    cond-true (slot_of d == length known) (known ++ d.value ∷ []) known (eq-eqb (slot_of d) (length known) (sym (ap length e)))
    ∙ ap (λ (list : List Value). list ++ d.value ∷ []) e
learn_once d known (inr e) =
    cond-false (slot_of d == length known) (known ++ d.value ∷ []) known
    (ne_eqb (slot_of d) (length known) (λ same. absurd (omega (arith, ap length e, longer d, same))))
    ∙ e

-- what is known after one value more
knowing_values : (member : Member) (values : List Value) (v : Value) → knowing member (knowledge_of member values) v ≡ knowledge_of member (values ++ v ∷ [])
knowing_values member values v = λ i. record {
  chain = sym (chain_of-append member.replicas values (v ∷ [])) i;
  places = sym (spell-append member.replicas values (v ∷ []) ∙ ap (λ (l : List Place). spell member.replicas values ++ l) (append-nil (covered_by member.replicas (chain_of member.replicas values) v))) i;
  count = size i;
}
  where
    size : suc (length values) ≡ length (values ++ v ∷ [])
    size = omega (arith, length-append values (v ∷ []))

know_once : (d : Decision) (member : Member) (known : Knowledge) → (known ≡ knowledge_of member d.agreed.values) ⊎ (known ≡ knowledge_of member (values_of d))
    → known_after member known (slot_of d) d.value ≡ knowledge_of member (values_of d)
unfolding known_after
know_once d member known (inl e) =
    cond-true (slot_of d == known.count) (knowing member known d.value) known (eq-eqb (slot_of d) known.count (sym (ap (λ (k : Knowledge). k.count) e)))
    ∙ ap (λ (k : Knowledge). knowing member k d.value) e
    ∙ knowing_values member d.agreed.values d.value
know_once d member known (inr e) =
    cond-false (slot_of d == known.count) (knowing member known d.value) known
    (ne_eqb (slot_of d) known.count (λ same. absurd (let n = ap (λ (k : Knowledge). k.count) e in omega (arith, longer d, same))))
    ∙ e

module _ (d : Decision) (slot : Slot) (value : Value) (e : slot.0 ≡ slot_of d) (f : value ≡ d.value) (place index : ℕ) where
  module _ (s r : ℕ) (a : s < d.config.shards) (b : r < d.config.replicas) (node : StorageNode) (h : IsLearning d s r node) where
    abbrev learned_replica : Replica
    learned_replica = record h.memory { known = known_after (member_of d.config s r) h.memory.known slot.0 value }

    known_is : known_after (member_of d.config s r) h.memory.known slot.0 value ≡ knowledge_of (member_of d.config s r) (values_of d)
    known_is =
        ap (λ (n : ℕ). known_after (member_of d.config s r) h.memory.known n value) e
        ∙ ap (λ (v : Value). known_after (member_of d.config s r) h.memory.known (slot_of d) v) f
        ∙ know_once d (member_of d.config s r) h.memory.known h.knows

    count_is : (known_after (member_of d.config s r) h.memory.known slot.0 value).count ≡ suc (slot_of d)
    count_is = ap (λ (k : Knowledge). k.count) known_is ∙ longer d

    decide_row : on_decide (member_of d.config s r) h.memory slot.0 value ≡ storage_told learned_replica []
    unfolding on_decide
    decide_row = refl

    pub replica_learns : VoteTaken d (Decide slot value) (as_role s r) (Storing node) place index
    replica_learns = record {
      made = record { state = Storing (record { durable = node.durable; mode = Running learned_replica }); outputs = []; reply = Nothing };
      rule = replica_takes d.config s r a b node h.memory (storage_told learned_replica []) h.runs (Deliver place index (Some (Decide slot value))) refl (ap Some decide_row);
      handled = record {
        fine = record { memory = learned_replica; runs = refl; holds = h.holds; knows = inr known_is; peers = h.peers; acks = h.acks };
        memory = λ same. absurd (cc);
        knows = λ had. count_is;
        accept = λ j same is. absurd is;
        decide = λ is. count_is;
        prepare = λ j same is. absurd is;
        accepted = λ j is. is;
        promised = λ j is. is;
        letters = tt;
      };
    }

  module _ (i : ℕ) (within : suc i < d.config.orderers) (node : Node) (h : IsVoter d (suc i) node) where
    abbrev learned_memory : OrdererMemory
    learned_memory = learned h.orderer slot.0 value

    values_are : (learned h.orderer slot.0 value).known ≡ values_of d
    unfolding learned
    values_are =
        ap (λ (n : ℕ). learn h.orderer.known n value) e
        ∙ ap (λ (v : Value). learn h.orderer.known (slot_of d) v) f
        ∙ learn_once d h.orderer.known h.knows

    none_left : left_wishes [] slot.0 value ≡ []
    unfolding left_wishes
    none_left = refl

    follows_on : IsFollower d (learned h.orderer slot.0 value)
    unfolding learned
    follows_on = record {
      no_wish = ap (λ (wishes : List Wish). left_wishes wishes slot.0 value) h.follows.no_wish ∙ none_left;
      heard = h.follows.heard;
      no_leader = ap (λ (leader : Option Leader). leader_after leader slot.0) h.follows.no_leader;
    }

    count_now : length (learned h.orderer slot.0 value).known ≡ suc (slot_of d)
    count_now = ap length values_are ∙ longer d

    pub orderer_learns : VoteTaken d (Decide slot value) (Orderer (suc i)) (Ordering node) place index
    orderer_learns = record {
      made = record { state = Ordering (record { durable = node.durable; mode = Running learned_memory }); outputs = []; reply = Nothing };
      rule = orderer_takes d.config (suc i) within node h.orderer (quiet learned_memory) h.runs (Deliver place index (Some (Decide slot value))) refl refl;
      handled = record {
        fine = record { orderer = learned_memory; runs = refl; cast = h.cast; knows = inr values_are; follows = follows_on };
        memory = λ same. absurd (cc);
        knows = λ had. count_now;
        accept = λ j same is. absurd is;
        decide = λ is. count_now;
        prepare = λ j same is. absurd is;
        accepted = λ j is. is;
        promised = λ j is. is;
        letters = tt;
      };
    }
