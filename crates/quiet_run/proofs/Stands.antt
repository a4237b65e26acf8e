-- The nodes after one event more.
use Rattle.std.proofs.Common.{◌≡◌, ◌<◌, ℕ, List, [], ◌∷◌, ◌++◌, slice_get, Some, sym, ap, subst, inl, inr, arith, ◌∙◌}
use Rattle.std.proofs.Math.ListN.{set}
use Rattle.std.proofs.lemmas.Bool.{cases_eq}
use Rattle.std.proofs.lemmas.List.{length-set}
use Rattle.history_frame.specs.declared.events.Event.{Event}
use Rattle.node_model.specs.Machine.{ClusterNode}
use Rattle.node_model.specs.NodeState.{NodeState, node_after, state_after}
use Rattle.node_model.proofs.Following.{node_here, node_there}
use Rattle.node_table.specs.Numbering.{nodes_of}
use Rattle.quiet_run.specs.Standing.{Job, StandAfter, node_of}
use Rattle.quiet_run.proofs.Fronts.{get_set_other, get_set_same}

module _ (job : Job) (events : List Event) (nodes : List ClusterNode) (stand : StandAfter job events nodes) (event : Event) (within : event.node.0 < nodes_of job.config) where
  -- the node of an event, as it stands after it
  abbrev pub turned : ClusterNode
  turned = record {
    config = job.config;
    number = event.node.0;
    state = state_after job.config event.node.0 (node_after job.config job.kept events event.node.0) event.happened;
  }

  here_is : turned ≡ node_of job (events ++ event ∷ []) event.node.0
  here_is = ap (λ (s : NodeState). record { config = job.config; number = event.node.0; state = s }) (sym (node_here job.config job.kept events event))

  there_is : (n : ℕ) → (event.node.0 ≡ n → ⊥) → node_of job events n ≡ node_of job (events ++ event ∷ []) n
  there_is n other = ap (λ (s : NodeState). record { config = job.config; number = n; state = s }) (sym (node_there job.config job.kept events event n other))

  pub stand_push : StandAfter job (events ++ event ∷ []) (set nodes event.node.0 turned)
  stand_push = record {
    all = length-set nodes event.node.0 turned ∙ stand.all;
    each = λ n inside. elim (cases_eq event.node.0 n) [
      | inl same ↦
          subst (λ (k : ℕ). slice_get (set nodes event.node.0 turned) k ≡ Some (node_of job (events ++ event ∷ []) k)) same
          (get_set_same nodes event.node.0 turned (omega (arith, within, stand.all)) ∙ ap (λ (x : ClusterNode). Some x) here_is)
      | inr other ↦ get_set_other nodes event.node.0 n turned other ∙ stand.each n inside ∙ ap (λ (x : ClusterNode). Some x) (there_is n other)
    ];
  }
