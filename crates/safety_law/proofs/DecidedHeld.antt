-- What is decided, and what orderers know, covers no more than every replica holds.
use Rattle.std.proofs.Common.{◌≡◌, ◌<◌, ◌≤◌, ◌*◌, ℕ, zero, suc, List, [], ◌∷◌, length, Some, None, refl, inl, inr, sym, ap, subst, arith, nat_lt, lt-ltb}
use Rattle.std.proofs.lemmas.Bool.{cond-true}
use Rattle.history_frame.specs.declared.events.Event.{Event}
use Rattle.log_base.specs.ClusterShape.{InRange, Shape}
use Rattle.log_model.specs.Chain.{ChainState, apply, apply_all, chain_of, covered_of, no_values}
use Rattle.node_table.specs.declared.role.Role.{Role}
use Rattle.node_table.specs.declared.role.Role.TheVariants.{Orderer}
use Rattle.node_table.specs.Numbering.{node_of, orderer_node, role_at}
use Rattle.node_table.proofs.Roles.{node_of-lt, role_at-node_of}
use Rattle.paxos_model.specs.Votes.{Payload, vote_of, votes}
use Rattle.record_frame.specs.declared.values.Value.{Value}
use Rattle.node_model.specs.Histories.{sent_in}
use Rattle.node_model.specs.Legal.{IsLegal}
use Rattle.node_model.specs.Marks.{Running, Stopped}
use Rattle.node_model.specs.NodeState.{Gathering, KeptLists, NodeState, Ordering, Storing, node_after}
use Rattle.node_model.specs.OrdererNode.{Mode, known_of}
use Rattle.node_model.specs.Sequence.{decided_by, orderer_list, promises_of}
use Rattle.agreement_law.specs.Elements.{In, IsIn}
use Rattle.agreement_law.specs.Fine.{AreFine, AreFineVotes, IsFineMode}
use Rattle.agreement_law.proofs.Decided.{decided_voted}
use Rattle.safety_law.specs.Fit.{Fit, IsGoodNode}
use Rattle.safety_law.specs.Lists.{IsHeldValue, IsSafeValue, IsSegment, Lists, lists_at}
use Rattle.safety_law.specs.Statements.{DecidedIsHeld, lists_after}
use Rattle.safety_law.proofs.Covers.{apply_below}
use Rattle.safety_law.proofs.History.{history_fits}
use Rattle.safety_law.proofs.StorageRows.{below_held}

in_place : (xs : List Value) (v : Value) → In v xs → (k : ℕ) × IsIn xs k v
in_place [] v a = absurd a
in_place (x ∷ xs) v (inl e) = (zero, sym e)
in_place (x ∷ xs) v (inr a) = let rest = in_place xs v a in (suc rest.0, rest.1)

-- values that are held cover no more than is held
module _ (config : Shape) (lists : Lists) (s r j : ℕ) (inside : IsSegment config s r j) where
  pub chain_below : (chain : ChainState) (values : List Value) → covered_of chain s j ≤ length (lists s r j) → ((v : Value) → In v values → IsHeldValue config lists v)
      → covered_of (apply_all config.replicas chain values) s j ≤ length (lists s r j)
  chain_below chain [] h f = h
  chain_below chain (v ∷ values) h f =
      chain_below (apply config.replicas chain v) values
      (apply_below config.replicas chain v s j (length (lists s r j)) h
      (below_held config lists s r j v inside.shard_below inside.replica_below inside.segment_below (f v (inl refl))))
      (λ u a. f u (inr a))

  pub values_below : (values : List Value) → AreFine (IsSafeValue config lists) values → covered_of (chain_of config.replicas values) s j ≤ length (lists s r j)
  values_below values f = chain_below no_values values (omega arith) (λ v a. (f v a).held)

known_safe : (F : Value → Type 0) (m : Mode) → IsFineMode F m → AreFine F (known_of m)
known_safe F (Stopped flight known) h = h.1
known_safe F (Running o) h = h.knows

votes_safe : (config : Shape) (lists : Lists) (i : ℕ) (x : NodeState) → IsGoodNode config lists (Orderer i) x → AreFineVotes (IsSafeValue config lists) (votes (promises_of x))
votes_safe config lists i (Ordering node) h = h.values.kept
votes_safe config lists i (Storing node) h = absurd h
votes_safe config lists i (Gathering node) h = absurd h

module _ (config : Shape) (run : ℕ) (kept : KeptLists) (events : List Event) (legal : IsLegal config run kept events) where
  all : Fit config (node_after config kept events) (sent_in events)
  all = history_fits config run kept events legal

  orderer_is : (i : ℕ) → i < config.orderers → IsGoodNode config (lists_after config kept events) (Orderer i) (node_after config kept events (orderer_node config i))
  orderer_is i inside =
      subst (λ (y : Role). IsGoodNode config (lists_after config kept events) y (node_after config kept events (orderer_node config i))) (role_at-node_of config (Orderer i) inside)
      (all.nodes (orderer_node config i) (node_of-lt config (Orderer i) inside))

  list_is : (i : ℕ) → i < config.orderers → orderer_list config kept events i ≡ promises_of (node_after config kept events (orderer_node config i))
  list_is i inside = cond-true (nat_lt i config.orderers) _ _ (lt-ltb i config.orderers inside)

  decided_safe : AreFine (IsSafeValue config (lists_after config kept events)) (decided_by config kept events)
  decided_safe v a =
      let place = in_place (decided_by config kept events) v a in
      let vote = decided_voted config.orderers (orderer_list config kept events) place.0 v place.1 in
      votes_safe config (lists_after config kept events) vote.1 (node_after config kept events (orderer_node config vote.1)) (orderer_is vote.1 vote.2) (vote_of vote.0 place.0 v)
      (subst (λ (l : List Payload). In (vote_of vote.0 place.0 v) (votes l)) (list_is vote.1 vote.2) vote.3)

  pub decided_is_held : DecidedIsHeld config kept events
  decided_is_held = record {
    decided = λ s r j inside. values_below config (lists_after config kept events) s r j inside (decided_by config kept events) decided_safe;
    known = λ i node below e s r j inside. values_below config (lists_after config kept events) s r j inside (known_of node.mode)
        (known_safe (IsSafeValue config (lists_after config kept events)) node.mode
        (subst (λ (x : NodeState). IsGoodNode config (lists_after config kept events) (Orderer i) x) e (orderer_is i below)).values.mode);
  }
