-- Runs after each other: the lists that a run leaves are sound again.
use Rattle.std.proofs.Common.{◌≡◌, ◌<◌, ◌≤◌, ◌%◌, ℕ, Bool, true, false, nat_lt, List, [], Some, refl, sym, ap, subst, arith, ltb-true, ◌∙◌}
use Rattle.std.proofs.lemmas.Bool.{cond-false}
use Rattle.history_frame.specs.declared.events.Event.{Event}
use Rattle.log_base.specs.ClusterShape.{Shape}
use Rattle.message_frame.specs.declared.messages.Vote.{Vote}
use Rattle.paxos_model.specs.Votes.{Payload, promised, votes}
use Rattle.node_table.specs.Numbering.{orderer_node}
use Rattle.node_model.specs.Chosen.{decided}
use Rattle.node_model.specs.Histories.{after_events, durable_after, events_at, orderer_after}
use Rattle.node_model.specs.OrdererLegal.{IsOrdererLegal}
use Rattle.node_model.specs.OrdererNode.{Node, at_first}
use Rattle.agreement_law.specs.Elements.{In, IsPrefix}
use Rattle.agreement_law.specs.Invariant.{Global, IsGoodMode, IsOpenAt, lists_of}
use Rattle.agreement_law.specs.Statements.{AreLeftBy, Empty, IsFounded, IsKept, IsLeftBy, IsPaxosSound, Later, With, Without}
use Rattle.agreement_law.proofs.Conclude.{first_list, history_holds, stays_decided}
use Rattle.agreement_law.proofs.Grows.{Extends, Grow, extends_refl, global_grows, put_extends}
use Rattle.agreement_law.proofs.Outcomes.{flight_can}
use Rattle.agreement_law.proofs.Quorum.{most_weaker}

left_extends : (n : ℕ) (node : ℕ → Node) (ps : List Vote) (i : ℕ) → IsGoodMode n (lists_of node) ps i (node i).mode → (list : List Payload) → IsLeftBy (node i) list → Extends ps (node i).durable list
left_extends n node ps i h list (Without e) = subst (λ l. Extends ps (node i).durable l) (sym e) (extends_refl ps (node i).durable)
left_extends n node ps i h list (With p f e) =
    subst (λ l. Extends ps (node i).durable l) (sym e) (put_extends ps (node i).durable (Some p) (flight_can n (lists_of node) ps i (node i).mode h p f))

none_past : (shape : Shape) (kept : ℕ → List Payload) (events : List Event) (j : ℕ) → nat_lt j shape.orderers ≡ false → orderer_after shape kept events j ≡ at_first []
none_past shape kept events j e = cond-false (nat_lt j shape.orderers) (after_events shape j (at_first (kept j)) (events_at (orderer_node shape j) events)) (at_first []) e

left_grow : (shape : Shape) (kept lists : ℕ → List Payload) (events : List Event) (ps : List Vote)
    → ((i : ℕ) → IsGoodMode shape.orderers (durable_after shape kept events) ps i (orderer_after shape kept events i).mode)
    → AreLeftBy shape kept events lists → Grow ps (durable_after shape kept events) (durable_after shape lists [])
left_grow shape kept lists events ps modes left j = at (nat_lt j shape.orderers) refl
  where
    at : (t : Bool) → nat_lt j shape.orderers ≡ t → Extends ps (durable_after shape kept events j) (durable_after shape lists [] j)
    at true e =
        let inside : j < shape.orderers = ltb-true j shape.orderers e in
        subst (λ l. Extends ps (durable_after shape kept events j) l) (sym (first_list shape lists j inside))
        (left_extends shape.orderers (orderer_after shape kept events) ps j (modes j) (lists j) (left j inside))
    at false e =
        subst (λ l. Extends ps (durable_after shape kept events j) l)
        (ap (λ (nd : Node). nd.durable) (none_past shape kept events j e ∙ sym (none_past shape lists [] j e)))
        (extends_refl ps (durable_after shape kept events j))

-- lists of which the global part holds are sound
global_sound : (shape : Shape) (lists : ℕ → List Payload) (ps : List Vote) → Global shape.orderers (durable_after shape lists []) ps → IsPaxosSound shape.orderers lists
global_sound shape lists ps g = record {
  unique = λ x y a b e f. g.unique x y (proposed x a) (proposed y b) e f;
  owned = λ x a.
      let inside = a.1 in
      let own : x.ballot.0 % shape.orderers < shape.orderers = omega arith in
      subst (λ l. x.ballot.0 ≤ promised l) (first_list shape lists (x.ballot.0 % shape.orderers) own) (g.owned x (proposed x a));
  safe = λ x a b u below opened. g.safe x (proposed x a) b u below
      (most_weaker shape.orderers (λ i. IsOpenAt (lists i) b x.slot.0 u) (λ i. IsOpenAt (durable_after shape lists [] i) b x.slot.0 u)
      (λ i l c. subst (λ list. IsOpenAt list b x.slot.0 u) (sym (first_list shape lists i l)) c) opened);
}
  where
    proposed : (x : Vote) → IsKept shape.orderers lists x → In x ps
    proposed x a = g.voted a.0 x (subst (λ l. In x (votes l)) (sym (first_list shape lists a.0 a.1)) a.2)

pub left_sound : (shape : Shape) (kept lists : ℕ → List Payload) (events : List Event) → IsPaxosSound shape.orderers kept → IsOrdererLegal shape kept events
    → AreLeftBy shape kept events lists → IsPaxosSound shape.orderers lists
left_sound shape kept lists events s legal left =
    let h = history_holds shape kept events s legal in
    global_sound shape lists h.0 (global_grows shape.orderers h.0 (durable_after shape kept events) (durable_after shape lists []) (left_grow shape kept lists events h.0 h.1.modes left) h.1.global)

pub left_decided : (shape : Shape) (kept lists : ℕ → List Payload) (events : List Event) → IsPaxosSound shape.orderers kept → IsOrdererLegal shape kept events
    → AreLeftBy shape kept events lists → IsPrefix (decided shape.orderers (durable_after shape kept events)) (decided shape.orderers (durable_after shape lists []))
left_decided shape kept lists events s legal left =
    let h = history_holds shape kept events s legal in
    let grow = left_grow shape kept lists events h.0 h.1.modes left in
    stays_decided shape.orderers (durable_after shape kept events) (durable_after shape lists []) h.0
    (global_grows shape.orderers h.0 (durable_after shape kept events) (durable_after shape lists []) grow h.1.global)
    (λ j x a. (grow j).kept x a)

pub empty_sound : (n : ℕ) → IsPaxosSound n (λ i. [])
empty_sound n = record {
  unique = λ x y a b e f. absurd a.2;
  owned = λ x a. absurd a.2;
  safe = λ x a b u below opened. absurd a.2;
}

pub founded_sound : (shape : Shape) (lists : ℕ → List Payload) → IsFounded shape lists → IsPaxosSound shape.orderers lists
founded_sound shape lists Empty = empty_sound shape.orderers
founded_sound shape lists (Later kept l events f legal left) = left_sound shape kept l events (founded_sound shape kept f) legal left
