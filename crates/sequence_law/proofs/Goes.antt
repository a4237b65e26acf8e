-- The next run goes on where the history ended: its decided list and its sequence begin with those of the history.
use Rattle.std.proofs.Common.{◌≡◌, ℕ, List, [], slice_get, Option, Some, sym, subst, ◌∙◌}
use Rattle.history_frame.specs.declared.events.Event.{Event}
use Rattle.log_base.specs.ClusterShape.{Shape}
use Rattle.log_base.specs.declared.numbers.Place.{Place}
use Rattle.log_model.specs.Spelling.{spell}
use Rattle.record_frame.specs.declared.entries.Entry.{Entry}
use Rattle.node_model.specs.Durable.{IsFounded, IsLeft}
use Rattle.node_model.specs.Legal.{IsLegal}
use Rattle.node_model.specs.NodeState.{KeptLists}
use Rattle.node_model.specs.Sequence.{decided_by}
use Rattle.agreement_law.specs.Elements.{IsPrefix}
use Rattle.agreement_law.proofs.Whole.{whole_runs}
use Rattle.safety_law.specs.Statements.{lists_after}
use Rattle.sequence_law.specs.Known.{SequenceGoesOn}
use Rattle.sequence_law.proofs.Covered.{decided_safe, place_held, place_inside}
use Rattle.sequence_law.proofs.Founded.{entry_left}
use Rattle.sequence_law.proofs.Spelled.{entry_in_lists, has_entry, sequence_is, spelled_prefix}

pub goes_on : (config : Shape) (run : ℕ) (kept left : KeptLists) (events : List Event) → IsFounded config run kept → IsLegal config run kept events → IsLeft config kept events left
    → SequenceGoesOn config kept events left
goes_on config run kept left events founded legal is = record {
  decided = front;
  sequence_is =
      subst (λ (x : List (Option Entry) × List (Option Entry)). IsPrefix x.0 x.1)
      (λ i. (sym (sequence_is config kept events) i, sym (sequence_is config left []) i))
      (spelled_prefix config.replicas (lists_after config kept events) (lists_after config left []) (decided_by config kept events) (decided_by config left []) front same);
}
  where
    front : IsPrefix (decided_by config kept events) (decided_by config left [])
    front = whole_runs config run kept left events founded legal is

    same : (place : Place) (p : ℕ) → slice_get (spell config.replicas (decided_by config kept events)) p ≡ Some place
        → entry_in_lists (lists_after config left []) place ≡ entry_in_lists (lists_after config kept events) place
    same place p at =
        let inside = place_inside config (lists_after config kept events) (decided_by config kept events) (decided_safe config run kept events legal) place p at in
        let held = place_held config (lists_after config kept events) (decided_by config kept events) (decided_safe config run kept events legal) place p place.segment.0 at inside.segment_below in
        let one = has_entry (lists_after config kept events place.shard.0 place.segment.0 place.segment.0) place.offset held in
        entry_left config run kept left events legal is place.shard.0 place.segment.0 place.segment.0 inside place.offset one.0 one.1 ∙ sym one.1
