-- The law holds of whole histories, in which storage nodes and gatherers follow their rules too.
use Rattle.std.proofs.Common.{◌≡◌, ℕ, ◌/◌, ◌%◌, List, [], ◌∷◌, ◌++◌, map, Option, Some, None, refl, sym, ap, subst, arith, ◌∙◌}
use Rattle.std.proofs.lemmas.List.{map-append}
use Rattle.history_frame.specs.declared.events.Event.{Event}
use Rattle.log_base.specs.ClusterShape.{Shape}
use Rattle.node_table.specs.Numbering.{disk_of, orderer_node}
use Rattle.record_frame.specs.declared.values.Value.{Value}
use Rattle.paxos_model.specs.Payloads.{IsPayload, payload_in, payload_spelling, payloads_in}
use Rattle.paxos_model.specs.Votes.{Payload}
use Rattle.paxos_model.proofs.Payloads.{payload_in-spelling}
use Rattle.node_model.specs.Chosen.{IsChosen, decided}
use Rattle.node_model.specs.Durable.{Empty, IsFounded, IsLeft, Keeps, Later, With, Without, payload_in_flight, payloads_of, spelled}
use Rattle.node_model.specs.Histories.{durable_after, orderer_after}
use Rattle.node_model.specs.Legal.{IsLegal}
use Rattle.node_model.specs.Marks.{flight_of}
use Rattle.node_model.specs.NodeState.{KeptLists, NodeState, Ordering, node_after, orderers_kept}
use Rattle.node_model.specs.OrdererNode.{Node}
use Rattle.node_model.specs.Sequence.{IsChosenBy, decided_by}
use Rattle.node_model.proofs.Orderers.{legal_at_orderers, orderer_lists, orderer_state}
use Rattle.node_model.proofs.Promises.{Spells, disk_node, disk_segment, orderer_spells, read_back}
use Rattle.node_model.proofs.Turning.{ForSome}
use Rattle.agreement_law.specs.Elements.{IsPrefix}
use Rattle.agreement_law.specs.Statements.{AreLeftBy, IsAgreed, IsLeftBy, IsPaxosSound, With as WithFlight, Without as WithoutFlight}
use Rattle.agreement_law.proofs.Conclude.{agreed_of, decided_stays, history_holds}
use Rattle.agreement_law.proofs.Runs.{empty_sound, left_decided, left_sound}

-- what is in flight, if its spelling is
flight_spelled : (flight : Option Payload) (payload : List ℕ) → spelled flight ≡ Some payload → (p : Payload) × (flight ≡ Some p) × (payload ≡ payload_spelling p)
flight_spelled None payload e = absurd (cc)
flight_spelled (Some p) payload e = (p, refl, cc)

-- an orderer's disk that is left has its list, without or with what is in flight
left_at : (node : Node) → Spells node → (list : List (List ℕ)) → Keeps (payloads_of (Ordering node) 0) (payload_in_flight (Ordering node) 0) list
    → IsLeftBy node (payloads_in list)
left_at node s list (Without e) = WithoutFlight (ap payloads_in e ∙ read_back node.durable s.list)
left_at node s list (With payload f e) =
    let found = flight_spelled (flight_of node.mode) payload f in
    let has : IsPayload found.0 = subst (λ (o : Option Payload). ForSome IsPayload o) found.1 s.flight in
    WithFlight found.0 found.1
    (ap payloads_in (e ∙ ap (λ (bytes : List ℕ). map payload_spelling node.durable ++ bytes ∷ []) found.2)
    ∙ map-append payload_in (map payload_spelling node.durable) (payload_spelling found.0 ∷ [])
    ∙ ap (λ (l : List Payload). l ++ payload_in (payload_spelling found.0) ∷ []) (read_back node.durable s.list)
    ∙ ap (λ (p : Payload). node.durable ++ p ∷ []) (payload_in-spelling found.0 has))

orderers_left : (config : Shape) (run : ℕ) (kept left : KeptLists) (events : List Event) → IsLegal config run kept events → IsLeft config kept events left
    → AreLeftBy config (orderers_kept config kept) events (orderers_kept config left)
orderers_left config run kept left events legal is i inside =
    left_at (orderer_after config (orderers_kept config kept) events i) (orderer_spells config run kept events legal i inside) (left disk)
    (subst (λ (x : NodeState × ℕ). Keeps (payloads_of x.0 x.1) (payload_in_flight x.0 x.1) (left disk)) (λ j. (state j, segment j)) (is disk))
  where
    disk : ℕ
    disk = disk_of (orderer_node config i) 0

    state : node_after config kept events (disk_of (orderer_node config i) 0 / 8) ≡ Ordering (orderer_after config (orderers_kept config kept) events i)
    state = ap (λ n. node_after config kept events n) (disk_node (orderer_node config i) 0 (omega arith)) ∙ orderer_state config kept events i inside

    segment : disk_of (orderer_node config i) 0 % 8 ≡ 0
    segment = disk_segment (orderer_node config i) 0 (omega arith)

pub founded_orderers : (config : Shape) (run : ℕ) (kept : KeptLists) → IsFounded config run kept → IsPaxosSound config.orderers (orderers_kept config kept)
founded_orderers config run kept (Empty _ _ none) =
    subst (IsPaxosSound config.orderers) (λ x i. ap payloads_in (sym (none (disk_of (orderer_node config i) 0))) x) (empty_sound config.orderers)
founded_orderers config run kept (Later _ _ earlier before events f below legal left few) =
    left_sound config (orderers_kept config before) (orderers_kept config kept) events (founded_orderers config earlier before f)
    (legal_at_orderers config earlier before events legal) (orderers_left config earlier before kept events legal left)

pub whole_agreed : (config : Shape) (run : ℕ) (kept : KeptLists) (events : List Event) → IsFounded config run kept → IsLegal config run kept events
    → IsAgreed config (orderers_kept config kept) events
whole_agreed config run kept events founded legal =
    agreed_of config (orderers_kept config kept) events
    (history_holds config (orderers_kept config kept) events (founded_orderers config run kept founded) (legal_at_orderers config run kept events legal))

pub whole_chosen : (config : Shape) (run : ℕ) (kept : KeptLists) (events : List Event) → IsFounded config run kept → IsLegal config run kept events
    → (slot : ℕ) (one other : Value) → IsChosenBy config kept events slot one → IsChosenBy config kept events slot other → one ≡ other
whole_chosen config run kept events founded legal slot one other a b =
    (whole_agreed config run kept events founded legal).one_value slot one other (here one a) (here other b)
  where
    here : (value : Value) → IsChosenBy config kept events slot value → IsChosen config.orderers (durable_after config (orderers_kept config kept) events) slot value
    here value c = subst (λ lists. IsChosen config.orderers lists slot value) (orderer_lists config kept events) c

pub whole_stays : (config : Shape) (run : ℕ) (kept : KeptLists) (events more : List Event) → IsFounded config run kept → IsLegal config run kept (events ++ more)
    → IsPrefix (decided_by config kept events) (decided_by config kept (events ++ more))
whole_stays config run kept events more founded legal =
    subst (λ (x : (ℕ → List Payload) × (ℕ → List Payload)). IsPrefix (decided config.orderers x.0) (decided config.orderers x.1))
    (λ j. (sym (orderer_lists config kept events) j, sym (orderer_lists config kept (events ++ more)) j))
    (decided_stays config (orderers_kept config kept) events more (founded_orderers config run kept founded) (legal_at_orderers config run kept (events ++ more) legal))

pub whole_runs : (config : Shape) (run : ℕ) (kept left : KeptLists) (events : List Event) → IsFounded config run kept → IsLegal config run kept events
    → IsLeft config kept events left → IsPrefix (decided_by config kept events) (decided_by config left [])
whole_runs config run kept left events founded legal is =
    subst (λ (x : (ℕ → List Payload) × (ℕ → List Payload)). IsPrefix (decided config.orderers x.0) (decided config.orderers x.1))
    (λ j. (sym (orderer_lists config kept events) j, sym (orderer_lists config left []) j))
    (left_decided config (orderers_kept config kept) (orderers_kept config left) events (founded_orderers config run kept founded)
    (legal_at_orderers config run kept events legal) (orderers_left config run kept left events legal is))
