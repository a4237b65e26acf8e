-- The letters of an orderer: each is for a node that takes it, and its ballots and slots are in range.
use Rattle.std.proofs.Common.{◌≡◌, ◌+◌, ◌-◌, ◌%◌, ◌<◌, ◌≤◌, ℕ, zero, suc, true, List, [], ◌∷◌, ◌++◌, length, slice_get, Option, Some, None, refl, sym, subst, inl, inr, ⊎_elim, arith, lt-ltb}
use Rattle.std.proofs.lemmas.Bool.{cond-true}
use Rattle.std.proofs.lemmas.Option.{slice_get_within}
use Rattle.history_frame.specs.declared.events.Sent.{Sent}
use Rattle.log_base.specs.ClusterShape.{InRange, Shape}
use Rattle.message_frame.specs.declared.messages.Message.{Message}
use Rattle.message_frame.specs.declared.messages.Message.TheVariants.{Copy, CopyAck, Report, Least, Prepare, Promised, Lower, Accept, Accepted, Decide, Want}
use Rattle.message_frame.specs.Spelling.{IsBallot}
use Rattle.node_table.specs.declared.role.Role.{Role}
use Rattle.node_table.specs.declared.role.Role.TheVariants.{Storage, Gatherer, Orderer}
use Rattle.node_table.specs.Numbering.{nodes_of, orderer_node, role_at}
use Rattle.node_table.proofs.Roles.{role_at-node_of}
use Rattle.record_frame.specs.declared.values.Value.{Value}
use Rattle.node_model.specs.Fits.{IsVoteOf, names_of}
use Rattle.node_model.specs.Messages.{decide_message}
use Rattle.node_model.specs.Nodes.{before_orderers, letter, storage_nodes, to_learners, to_nodes, to_orderers}
use Rattle.node_model.specs.OrdererRow.{decide_letter, decide_letters, is_message, to_owner}
use Rattle.agreement_law.specs.Elements.{In}
use Rattle.agreement_law.specs.Fine.{IsFineMessage}
use Rattle.agreement_law.proofs.Elements.{in_append}
use Rattle.safety_law.specs.Letters.{IsGoodMessage, IsLearner}
use Rattle.safety_law.specs.Lists.{IsSafeValue, Lists}
use Rattle.safety_law.proofs.Reported.{AreNumberedVotes, all_of, as_votes}
use Rattle.safety_law.proofs.StorageSends.{orderer_below}

-- the numbers of a message that orderers send, but for its values
abbrev pub IsNumberedMessage : Shape → Message → Type 0
IsNumberedMessage config (Prepare b f) = IsBallot b.0 × (f.0 ≤ 16384)
IsNumberedMessage config (Promised b f who vs) = IsBallot b.0 × (f.0 ≤ 16384) × (who < config.orderers) × AreNumberedVotes f.0 vs
IsNumberedMessage config (Lower b p) = IsBallot b.0 × IsBallot p.0
IsNumberedMessage config (Accept b k v) = IsBallot b.0 × (k.0 ≤ 16383)
IsNumberedMessage config (Accepted b k who) = IsBallot b.0 × (k.0 ≤ 16383) × (who < config.orderers)
IsNumberedMessage config (Decide k v) = k.0 ≤ 16383
IsNumberedMessage config (Want from node) = (from.0 ≤ 16384) × (node.0 < nodes_of config) × IsLearner (role_at config node.0)
IsNumberedMessage config (Copy segment offset entry) = ⊥
IsNumberedMessage config (CopyAck peer held) = ⊥
IsNumberedMessage config (Report shard replica lengths) = ⊥
IsNumberedMessage config (Least shard lengths) = ⊥

pub record IsNumberedLetter (config : Shape) (sent : Sent) : Type 0 where
  pub within : sent.to.0 < nodes_of config
  pub named : (names_of (role_at config sent.to.0)).message sent.message ≡ true
  pub numbers : IsNumberedMessage config sent.message

abbrev pub AreNumberedLetters : Shape → List Sent → Type 0
AreNumberedLetters config letters = (sent : Sent) → In sent letters → IsNumberedLetter config sent

module _ (config : Shape) (range : InRange config) (lists : Lists) where
  few_orderers : (who : ℕ) → who < config.orderers → who ≤ 6
  few_orderers who h = omega (arith, range.orderers)

  few_nodes : (node : ℕ) → node < nodes_of config → node ≤ 42
  few_nodes node h = omega (arith, h, range.segments, range.gatherers, range.orderers)

  -- with safe values they are good
  pub as_good : (role : Role) (m : Message) → (names_of role).message m ≡ true → IsNumberedMessage config m → IsFineMessage config (IsSafeValue config lists) m
      → IsGoodMessage config lists role m
  as_good role (Prepare b f) named h g = record { named = named; range = h; of_config = tt; truth = tt }
  as_good role (Promised b f who vs) named h g = record {
    named = named;
    range = (h.0, h.1, few_orderers who h.2, as_votes f.0 vs h.3 (λ x a. (g x a).range));
    of_config = (h.2, all_of (IsVoteOf config) vs (λ x a. (g x a).of_config));
    truth = λ x a. (g x a).held;
  }
  as_good role (Lower b p) named h g = record { named = named; range = h; of_config = tt; truth = tt }
  as_good role (Accept b k v) named h g = record { named = named; range = (h.0, h.1, g.range); of_config = g.of_config; truth = g.held }
  as_good role (Accepted b k who) named h g = record { named = named; range = (h.0, h.1, few_orderers who h.2); of_config = h.2; truth = tt }
  as_good role (Decide k v) named h g = record { named = named; range = (h, g.range); of_config = g.of_config; truth = g.held }
  as_good role (Want from node) named h g = record { named = named; range = (h.0, few_nodes node.0 h.1); of_config = h.1; truth = h.2 }
  as_good role (Copy segment offset entry) named h g = absurd h
  as_good role (CopyAck peer held) named h g = absurd h
  as_good role (Report shard replica lengths) named h g = absurd h
  as_good role (Least shard lengths) named h g = absurd h

module _ (config : Shape) where
  pub none_numbered : AreNumberedLetters config []
  none_numbered s a = absurd a

  pub one_numbered : (t : Sent) → IsNumberedLetter config t → AreNumberedLetters config (t ∷ [])
  one_numbered t h s (inl e) = subst (IsNumberedLetter config) (sym e) h
  one_numbered t h s (inr a) = absurd a

  pub both_numbered : (xs ys : List Sent) → AreNumberedLetters config xs → AreNumberedLetters config ys → AreNumberedLetters config (xs ++ ys)
  both_numbered xs ys f g s a = ⊎_elim (λ b. f s b) (λ b. g s b) (in_append s xs ys a)

  pub many_numbered : (node count : ℕ) (m : Message) → ((n : ℕ) → node ≤ n → n < node + count → IsNumberedLetter config (letter n m)) → AreNumberedLetters config (to_nodes node count m)
  many_numbered node zero m f s a = absurd a
  many_numbered node (suc count) m f s (inl e) = subst (IsNumberedLetter config) (sym e) (f node (omega arith) (omega arith))
  many_numbered node (suc count) m f s (inr a) = many_numbered (suc node) count m (λ n low high. f n (omega arith) (omega arith)) s a

  -- to orderers
  orderer_at : (n : ℕ) → before_orderers config ≤ n → n < nodes_of config → role_at config n ≡ Orderer (n - before_orderers config)
  orderer_at n low high =
      let same : orderer_node config (n - before_orderers config) ≡ n = omega arith in
      subst (λ (k : ℕ). role_at config k ≡ Orderer (n - before_orderers config)) same
      (role_at-node_of config (Orderer (n - before_orderers config)) (omega arith))

  pub orderer_letter : (n : ℕ) (m : Message) → before_orderers config ≤ n → n < nodes_of config → is_message m ≡ true → IsNumberedMessage config m → IsNumberedLetter config (letter n m)
  orderer_letter n m low high named h = record {
    within = high;
    named = subst (λ (x : Role). (names_of x).message m ≡ true) (sym (orderer_at n low high)) named;
    numbers = h;
  }

  pub to_one : (i : ℕ) (m : Message) → i < config.orderers → is_message m ≡ true → IsNumberedMessage config m → IsNumberedLetter config (letter (orderer_node config i) m)
  to_one i m below named h = orderer_letter (orderer_node config i) m (omega arith) (omega arith) named h

  pub to_all : (m : Message) → is_message m ≡ true → IsNumberedMessage config m → AreNumberedLetters config (to_orderers config m)
  unfolding to_orderers
  to_all m named h = many_numbered (before_orderers config) config.orderers m (λ n low high. orderer_letter n m low (omega arith) named h)

  pub to_the_owner : InRange config → (b : ℕ) (m : Message) → is_message m ≡ true → IsNumberedMessage config m → AreNumberedLetters config (to_owner config b m)
  to_the_owner range b m named h = one_numbered (letter (orderer_node config (b % config.orderers)) m) (to_one (b % config.orderers) m (orderer_below config b range) named h)

  -- decided values, to those who learn them
  learner_named : (role : Role) (k : ℕ) (v : Value) → IsLearner role → (names_of role).message (decide_message k v) ≡ true
  learner_named (Storage shard replica) k v h = refl
  learner_named (Gatherer index) k v h = absurd h
  learner_named (Orderer index) k v h = refl

  pub to_learner : (n k : ℕ) (v : Value) → n < nodes_of config → IsLearner (role_at config n) → k ≤ 16383 → IsNumberedLetter config (letter n (decide_message k v))
  to_learner n k v within learns few = record { within = within; named = learner_named (role_at config n) k v learns; numbers = few }

  pub orderer_learns : (n : ℕ) → before_orderers config ≤ n → n < nodes_of config → IsLearner (role_at config n)
  orderer_learns n low high = subst IsLearner (sym (orderer_at n low high)) tt

  storage_learns : (n : ℕ) → n < storage_nodes config → IsLearner (role_at config n)
  storage_learns n h = subst IsLearner (sym (cond-true _ _ _ (lt-ltb n (storage_nodes config) h))) tt

  pub to_all_learners : (i k : ℕ) (v : Value) → i < config.orderers → k ≤ 16383 → AreNumberedLetters config (to_learners config i (decide_message k v))
  unfolding to_learners
  to_all_learners i k v below few =
      both_numbered (to_nodes 0 (storage_nodes config) (decide_message k v) ++ to_nodes (before_orderers config) i (decide_message k v))
      (to_nodes (orderer_node config (suc i)) (config.orderers - suc i) (decide_message k v))
      (both_numbered (to_nodes 0 (storage_nodes config) (decide_message k v)) (to_nodes (before_orderers config) i (decide_message k v))
      (many_numbered 0 (storage_nodes config) (decide_message k v) (λ n low high. to_learner n k v (omega arith) (storage_learns n (omega arith)) few))
      (many_numbered (before_orderers config) i (decide_message k v) (λ n low high. to_learner n k v (omega arith) (orderer_learns n low (omega arith)) few)))
      (many_numbered (orderer_node config (suc i)) (config.orderers - suc i) (decide_message k v)
      (λ n low high. to_learner n k v (omega arith) (orderer_learns n (omega arith) (omega arith)) few))

  module _ (n : ℕ) (within : n < nodes_of config) (learns : IsLearner (role_at config n)) (known : List Value) (few : length known ≤ 16384) where
    told_one : (k : ℕ) (o : Option Value) → slice_get known k ≡ o → AreNumberedLetters config (decide_letter n k o)
    told_one k None e = none_numbered
    told_one k (Some v) e =
        let below = slice_get_within known k v e in
        one_numbered (letter n (decide_message k v)) (to_learner n k v within learns (omega arith))

    pub told_many : (k count : ℕ) → AreNumberedLetters config (decide_letters n known k count)
    told_many k zero = none_numbered
    told_many k (suc count) =
        both_numbered (decide_letter n k (slice_get known k)) (decide_letters n known (suc k) count) (told_one k (slice_get known k) refl) (told_many (suc k) count)
