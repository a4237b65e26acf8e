-- One decided list: at each moment what every node knows is the beginning of it.
use Rattle.std.proofs.Common.{◌≡◌, ℕ, List, ◌++◌, sym, subst}
use Rattle.history_frame.specs.declared.events.Event.{Event}
use Rattle.log_base.specs.ClusterShape.{Shape}
use Rattle.node_table.specs.Numbering.{orderer_node}
use Rattle.record_frame.specs.declared.values.Value.{Value}
use Rattle.node_model.specs.Durable.{IsFounded}
use Rattle.node_model.specs.Histories.{orderer_after}
use Rattle.node_model.specs.Legal.{IsLegal}
use Rattle.node_model.specs.Messages.{decide_message}
use Rattle.node_model.specs.NodeState.{KeptLists, NodeState, Ordering, node_after, orderers_kept}
use Rattle.node_model.specs.OrdererNode.{Node, known_of}
use Rattle.node_model.specs.Sequence.{decided_by}
use Rattle.node_model.proofs.Orderers.{legal_at_orderers, orderer_state}
use Rattle.agreement_law.specs.Elements.{IsIn, IsPrefix}
use Rattle.agreement_law.proofs.Conclude.{answers_of, history_holds}
use Rattle.agreement_law.proofs.Whole.{founded_orderers, whole_agreed, whole_chosen, whole_stays}
use Rattle.sequence_law.specs.Known.{DecidedIsKnown, OneDecidedList}
use Rattle.sequence_law.proofs.Covered.{decided_is}
use Rattle.sequence_law.proofs.Knows.{AreDecided, all_know}
use Rattle.sequence_law.proofs.Moments.{legal_part}

module _ (config : Shape) (run : ℕ) (kept : KeptLists) (founded : IsFounded config run kept) where
  -- each decision that was sent is a slot of the decided list
  decides : (events : List Event) → IsLegal config run kept events → AreDecided (decided_by config kept events) events
  decides events legal slot v sent =
      subst (λ (d : List Value). IsIn d slot v) (sym (decided_is config run kept events legal))
      (answers_of config (orderers_kept config kept) events
      (history_holds config (orderers_kept config kept) events (founded_orderers config run kept founded) (legal_at_orderers config run kept events legal))
      (decide_message slot v) sent)

  ordering_is : (x : NodeState) (one other : Node) → x ≡ Ordering one → x ≡ Ordering other → one ≡ other
  ordering_is x one other a b = cc

  pub decided_known : (events : List Event) → IsLegal config run kept events → DecidedIsKnown config kept events
  decided_known events legal = record {
    storage = λ s r node a b state. all_know config run kept events legal (decided_by config kept events) (decides events legal) s r node a b state;
    orderers = λ i node inside state.
        subst (λ (x : Node × List Value). IsPrefix (known_of x.0.mode) x.1)
        (λ j. (ordering_is (node_after config kept events (orderer_node config i)) (orderer_after config (orderers_kept config kept) events i) node (orderer_state config kept events i inside) state j, sym (decided_is config run kept events legal) j))
        ((whole_agreed config run kept events founded legal).known i);
  }

  pub decided_stays : (before more events : List Event) → before ++ more ≡ events → IsLegal config run kept events
      → IsPrefix (decided_by config kept before) (decided_by config kept events)
  decided_stays before more events is legal =
      subst (λ (es : List Event). IsPrefix (decided_by config kept before) (decided_by config kept es)) is
      (whole_stays config run kept before more founded (subst (IsLegal config run kept) (sym is) legal))

  pub one_list : (events : List Event) → IsLegal config run kept events → OneDecidedList config kept events
  one_list events legal = record {
    one_value = whole_chosen config run kept events founded legal;
    stays = λ before more is. decided_stays before more events is legal;
    known = λ before more is. decided_known before (legal_part config run kept before more events is legal);
  }
