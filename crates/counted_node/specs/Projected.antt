-- What a node that counts has of the node in it: its events are legal as those of the node, and it stands where the node stands.
use Rattle.std.proofs.Common.{◌≡◌, ℕ, zero, suc, List, [], ◌∷◌, map, slice_get, take, Option, Some, None, refl, sym, ap, subst, ◌∙◌}
use Rattle.std.proofs.lemmas.Option.{none-some, same_Some}
use Rattle.history_frame.specs.declared.events.Happened.{Happened}
use Rattle.history_frame.specs.declared.inputs.Input.{Input}
use Rattle.log_base.specs.Machines.{DeliveriesFit, Event, IsDelivered, IsLegal, IsNext, IsOutput, Letter, of_node, state_after}
use Rattle.node_model.specs.Machine.{ClusterNode, delivery, node_meanings}
use Rattle.safety_law.proofs.MachineLaw.{deliveries_fit as node_deliveries_fit}
use Rattle.shard_replica.specs.Lists.{Medium}
use Rattle.counted_node.specs.Counted.{CountedState, counted_meanings, first_in, node_in}

-- ---- one node

-- where it stands after events
pub node_after : (start : CountedState) (events : List Happened) → (state_after counted_meanings start events).node ≡ state_after node_meanings start.node events
node_after start [] = refl
node_after start (happened ∷ events) = node_after (counted_meanings.after start happened) events

-- what was told at first stays
pub first_stays : (start : CountedState) (events : List Happened) → (state_after counted_meanings start events).first ≡ start.first
first_stays start [] = refl
first_stays start (happened ∷ events) = first_stays (counted_meanings.after start happened) events

-- ---- nodes

pub node_at : (starts : List CountedState) (n : ℕ) (start : CountedState) → slice_get starts n ≡ Some start → slice_get (map node_in starts) n ≡ Some start.node
node_at [] n start at = absurd (none-some start at)
node_at (s ∷ starts) zero start at = ap (λ (x : CountedState). Some x.node) (same_Some s start at)
node_at (s ∷ starts) (suc n) start at = node_at starts n start at

pub node_back : (starts : List CountedState) (n : ℕ) (node : ClusterNode) → slice_get (map node_in starts) n ≡ Some node
    → (start : CountedState) × (slice_get starts n ≡ Some start) × (start.node ≡ node)
node_back [] n node at = absurd (none-some node at)
node_back (s ∷ starts) zero node at = (s, refl, same_Some s.node node at)
node_back (s ∷ starts) (suc n) node at = node_back starts n node at

-- an output of the events is one of the nodes
pub delivered : (before : List (Event Happened)) (n : ℕ) (letter : Option Letter) → IsDelivered counted_meanings before n letter → IsDelivered node_meanings before n letter
delivered before n None h = tt
delivered before n (Some letter) h = h

pub next_projects : (starts : List CountedState) (before : List (Event Happened)) (event : Event Happened) → IsNext counted_meanings starts before event → IsNext node_meanings (map node_in starts) before event
next_projects starts before event next = (
  next.0.node,
  node_at starts event.node next.0 next.1,
  record {
    fits = subst (λ (s : ClusterNode). node_meanings.fits s event.happened.input) (node_after next.0 (of_node event.node before)) next.2.fits;
    row = subst (λ (s : ClusterNode). node_meanings.is_row s event.happened) (node_after next.0 (of_node event.node before)) next.2.row;
    delivered = delivered before event.node (delivery event.happened.input) next.2.delivered;
  },
)

pub legal_projects : (starts : List CountedState) (log : List (Event Happened)) → IsLegal counted_meanings starts log → IsLegal node_meanings (map node_in starts) log
legal_projects starts log legal k event at = next_projects starts (take k log) event (legal k event at)

-- a letter that is delivered at its addressee fits it
pub deliveries_fit : DeliveriesFit counted_meanings
deliveries_fit starts log sound legal n start input letter at delivers output =
    subst (λ (s : ClusterNode). node_meanings.fits s input) (sym (node_after start (of_node n log)))
    (node_deliveries_fit (map node_in starts) log sound (legal_projects starts log legal) n start.node input letter (node_at starts n start at) delivers output)
