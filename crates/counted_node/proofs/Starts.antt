-- Where nothing failed at a node, its start finds nothing in flight.
use Rattle.std.proofs.Common.{◌≡◌, ◌≢◌, ◌⊎◌, ◌<◌, ◌≤◌, ℕ, zero, suc, Bool, true, false, cond, List, [], ◌∷◌, ◌++◌, length, slice_get, take, drop, Option, Some, None, refl, sym, ap, subst, inl, inr, eqb-true, arith, ◌∙◌}
use Rattle.std.proofs.lemmas.Option.{same_Some}
use Rattle.history_frame.specs.declared.events.Event.{Event}
use Rattle.history_frame.specs.declared.inputs.Input.{Input}
use Rattle.history_frame.specs.declared.inputs.Input.TheVariants.{Restart}
use Rattle.history_frame.specs.declared.inputs.Mark.{Mark}
use Rattle.history_frame.specs.declared.inputs.Mark.TheVariants.{Done, Halted, OpenedWithout, OpenedWith, StayedDown}
use Rattle.log_base.specs.ClusterShape.{Shape}
use Rattle.node_table.specs.declared.role.Role.{Role}
use Rattle.node_table.specs.declared.role.Role.TheVariants.{Storage, Gatherer, Orderer}
use Rattle.node_table.specs.Numbering.{disk_of, nodes_of, role_at}
use Rattle.paxos_model.specs.Payloads.{payloads_in}
use Rattle.node_model.specs.GathererRow.{gatherer_role, outcome as gatherer_outcome}
use Rattle.node_model.specs.Histories.{events_at, is_at}
use Rattle.node_model.specs.Legal.{AreNext, IsLegal, IsNext}
use Rattle.node_model.specs.Marks.{NodeOf, RoleOf, begun, flight_of, opened_with, restarted}
use Rattle.node_model.specs.NodeState.{KeptLists, NodeOutcome, NodeState, Storing, Gathering, Ordering, as_outcome, begun_as, node_after, node_at_first, outcome_as, segments_kept, states_after}
use Rattle.node_model.specs.OrdererNode.{at_first}
use Rattle.node_model.specs.OrdererRow.{orderer_role, outcome as orderer_outcome}
use Rattle.node_model.specs.StorageNode.{member_of}
use Rattle.node_model.specs.StorageRow.{storage_role, outcome as storage_outcome}
use Rattle.node_model.proofs.Following.{next_at}
use Rattle.shard_replica.specs.Lists.{Medium}
use Rattle.counted_node.specs.Causes.{AllKeep, HaveCauses, NoneRose, StartsAreClean, failures, journals_at, media_at, shows_failure}
use Rattle.counted_node.proofs.Failures.{failures_some}
use Rattle.counted_node.proofs.Rises.{none_counted}

-- ---- the marks of a start with nothing in flight

abbrev IsStartMark : Mark → Type 0
IsStartMark mark = (mark ≡ OpenedWithout) ⊎ (mark ≡ StayedDown)

module _ {D P K M : Type 0} (role : RoleOf D P K M) (node : NodeOf D P K M) (none : flight_of node.mode ≡ None) where
  start_marks : (mark : Mark) (state : NodeOf D P K M → NodeState) (made : NodeOutcome) → as_outcome state (restarted role node mark) ≡ Some made → IsStartMark mark
  start_marks Done state made e = absurd (cc)
  start_marks Halted state made e = absurd (cc)
  start_marks OpenedWithout state made e = inl refl
  start_marks OpenedWith state made e =
      let lost = ap (λ (o : Option P). as_outcome state (opened_with role node.durable o)) none in
      absurd (cc)
  start_marks StayedDown state made e = inr refl

first_marks : (config : Shape) (kept : KeptLists) (node : ℕ) (role : Role) (mark : Mark) (made : NodeOutcome)
    → outcome_as config role (begun_as config kept node role) Restart mark ≡ Some made → IsStartMark mark
unfolding storage_outcome gatherer_outcome orderer_outcome
first_marks config kept node (Storage shard replica) mark made e =
    start_marks (storage_role config (member_of config shard.0 replica.0))
    (begun (storage_role config (member_of config shard.0 replica.0)) (segments_kept kept node 0 config.replicas)) refl mark Storing made e
first_marks config kept node (Gatherer index) mark made e =
    start_marks (gatherer_role config index) (begun (gatherer_role config index) tt) refl mark Gathering made e
first_marks config kept node (Orderer index) mark made e =
    start_marks (orderer_role config index) (at_first (payloads_in (kept (disk_of node 0)))) refl mark Ordering made e

-- ---- no event of a node before its start

none_at : (node : ℕ) (events : List Event) → ((k : ℕ) (event : Event) → slice_get events k ≡ Some event → event.node.0 ≢ node) → events_at node events ≡ []
none_at node [] none = refl
none_at node (event ∷ events) none =
    by (is_at node event) refl (none_at node events (λ k e at. none (suc k) e at))
  where
    by : (here : Bool) → is_at node event ≡ here → events_at node events ≡ [] → cond here (event ∷ events_at node events) (events_at node events) ≡ []
    by true is rest = absurd (none zero event refl (eqb-true event.node.0 node is))
    by false is rest = rest

-- an element splits its list
split_here : (events : List Event) (k : ℕ) (event : Event) → slice_get events k ≡ Some event → take k events ++ event ∷ drop (suc k) events ≡ events
split_here [] k event at = absurd (cc)
split_here (first ∷ events) zero event at = ap (λ (e : Event). e ∷ events) (sym (same_Some first event at))
split_here (first ∷ events) (suc k) event at = ap (λ (l : List Event). first ∷ l) (split_here events k event at)

front_get : (events : List Event) (count k : ℕ) (event : Event) → slice_get (take count events) k ≡ Some event → (k < count) × (slice_get events k ≡ Some event)
front_get [] zero k event at = absurd (cc)
front_get [] (suc count) k event at = absurd (cc)
front_get (first ∷ events) zero k event at = absurd (cc)
front_get (first ∷ events) (suc count) zero event at = (omega arith, at)
front_get (first ∷ events) (suc count) (suc k) event at =
    let rest = front_get events count k event at in (let low = rest.0 in omega (arith, low), rest.1)

-- ---- a history

-- Its first events are starts of the nodes, in order.
module _ (config : Shape) (run : ℕ) (kept : KeptLists) (events : List Event) (legal : IsLegal config run kept events)
    (starts : (number : ℕ) (event : Event) → number < nodes_of config → slice_get events number ≡ Some event → (event.node.0 ≡ number) × (event.happened.input ≡ Restart)) where
  module _ (number : ℕ) (low : number < nodes_of config) (event : Event) (at : slice_get events number ≡ Some event) where
    start_node : event.node.0 ≡ number
    start_node = (starts number event low at).0

    apart : (k : ℕ) (earlier : Event) → slice_get (take number events) k ≡ Some earlier → earlier.node.0 ≢ number
    apart k earlier here same =
        let there = front_get events number k earlier here in
        let below : k < number = there.0 in
        let node : earlier.node.0 ≡ k = (starts k earlier (omega (arith, below, low)) there.1).0 in
        absurd (omega (arith, below, node, same))

    still_first : node_after config kept (take number events) number ≡ node_at_first config kept number
    still_first = ap (states_after config number (node_at_first config kept number)) (none_at number (take number events) apart)

    next : IsNext config run kept (take number events) event
    next =
        next_at config run kept [] (take number events) event (drop (suc number) events)
        (subst (AreNext config run kept []) (sym (split_here events number event at)) legal.follow)

    start_mark : IsStartMark event.happened.mark
    start_mark =
        first_marks config kept number (role_at config number) event.happened.mark next.row.made
        (subst (λ (x : ℕ × NodeState × Input). outcome_as config (role_at config x.0) x.1 x.2 event.happened.mark ≡ Some next.row.made)
        (λ i. (
          start_node i,
          (ap (node_after config kept (take number events)) start_node ∙ still_first) i,
          (starts number event low at).1 i,
        ))
        next.row.rule)

    -- where nothing failed the node did not stay down
    clean : (old new : List (List Medium)) → HaveCauses config events old new → AllKeep (media_at old number) (journals_at config number)
        → NoneRose (media_at old number) (media_at new number) (journals_at config number) → IsStartMark event.happened.mark → event.happened.mark ≡ OpenedWithout
    clean old new causes keep none (inl opened) = opened
    clean old new causes keep none (inr stayed) =
        let some = failures_some true number events number event at start_node (stays event stayed) in
        let zero_of = none_counted (media_at old number) (media_at new number) (journals_at config number) (failures true number events) (causes.counts number) none
        (causes.stayed number low keep) in
        absurd (omega (arith, some, zero_of))
      where
        stays : (e : Event) → e.happened.mark ≡ StayedDown → shows_failure true e.happened.mark ≡ true
        stays e is = ap (shows_failure true) is

  pub starts_are_clean : (old new : List (List Medium)) → HaveCauses config events old new → StartsAreClean config events old new
  starts_are_clean old new causes number event low keep none at = clean number low event at old new causes keep none (start_mark number low event at)
