-- From one event to whole histories, which grow at their end.
use Rattle.std.proofs.Common.{◌≡◌, ◌<◌, ◌≤◌, ◌+◌, ◌-◌, ◌&&◌, ℕ, zero, suc, Bool, true, false, cond, ◌==◌, nat_le, nat_lt, List, [], ◌∷◌, ◌++◌, slice_get, Option, Some, None, refl, sym, ap, subst, arith, append_assoc, append-nil, eqb-true, eq-eqb, ltb-true, ltb-false, lt-ltb, ◌∙◌}
use Rattle.std.proofs.lemmas.Bool.{cond-true, cond-false}
use Rattle.std.proofs.lemmas.Bool.Decides.{nat_tests}
use Rattle.std.specs.List.{AllByRecursion}
use Rattle.history_frame.specs.declared.events.Event.{Event}
use Rattle.history_frame.specs.declared.events.Sent.{Sent}
use Rattle.history_frame.specs.declared.inputs.Input.{Input}
use Rattle.history_frame.specs.declared.inputs.Input.TheVariants.{Deliver, Call as ACall, Tick, Lead, Stop, Restart}
use Rattle.log_base.specs.ClusterShape.{Shape}
use Rattle.message_frame.specs.declared.messages.Vote.{Vote}
use Rattle.paxos_model.specs.Votes.{Payload, votes}
use Rattle.node_table.specs.Numbering.{orderer_node}
use Rattle.node_model.specs.Marks.{node_or}
use Rattle.node_model.specs.Histories.{IsDelivered, after_event, after_events, events_at, is_at, orderer_after, sent_in}
use Rattle.node_model.specs.Nodes.{before_orderers, letter, orderer_of}
use Rattle.node_model.specs.OrdererLegal.{IsEventOf, IsLegalAfter, IsLegalEvent, IsOrdererEvent, IsOtherLetter}
use Rattle.node_model.specs.OrdererNode.{Node, at_first}
use Rattle.node_model.proofs.Orderers.{orderer_is}
use Rattle.agreement_law.specs.Elements.{In}
use Rattle.agreement_law.specs.Invariant.{Holds, Keeps, lists_of}
use Rattle.agreement_law.specs.World.{replaced}
use Rattle.agreement_law.proofs.Elements.{got_in, in_left, in_right}
use Rattle.agreement_law.proofs.Outcomes.{Stepped, outcome_steps}
use Rattle.agreement_law.proofs.Rows.{IsTrueInput}
use Rattle.agreement_law.proofs.Step.{free_step, install, replaced_grow}

-- the letters of one event more
pub sent_in-push : (es : List Event) (e : Event) → sent_in (es ++ e ∷ []) ≡ sent_in es ++ e.happened.outputs
sent_in-push [] e = append-nil e.happened.outputs
sent_in-push (f ∷ es) e =
    ap (λ s. f.happened.outputs ++ s) (sent_in-push es e)
    ∙ sym (append_assoc f.happened.outputs (sent_in es) e.happened.outputs)

-- a letter of an earlier event is among those that were sent
pub sent_before : (es : List Event) (place : ℕ) (e : Event) (s : Sent) → slice_get es place ≡ Some e → In s e.happened.outputs → In s (sent_in es)
sent_before [] place e s at a = absurd (cc)
sent_before (f ∷ es) zero e s at a =
    let same : e ≡ f = cc in
    in_left s f.happened.outputs (sent_in es) (subst (λ (w : Event). In s w.happened.outputs) same a)
sent_before (f ∷ es) (suc place) e s at a = in_right s f.happened.outputs (sent_in es) (sent_before es place e s at a)

-- the state after one event more
state_push : (shape : Shape) (i x : ℕ) (node : Node) (es : List Event) (e : Event)
    → after_events shape i node (events_at x (es ++ e ∷ []))
    ≡ cond (is_at x e) (after_event shape i (after_events shape i node (events_at x es)) e) (after_events shape i node (events_at x es))
state_push shape i x node [] e = last (is_at x e)
  where
    last : (b : Bool) → after_events shape i node (cond b (e ∷ []) []) ≡ cond b (after_event shape i node e) node
    last true = refl
    last false = refl
state_push shape i x node (f ∷ es) e = at (is_at x f) (state_push shape i x (after_event shape i node f) es e) (state_push shape i x node es e)
  where
    at : (b : Bool)
        → after_events shape i (after_event shape i node f) (events_at x (es ++ e ∷ []))
        ≡ cond (is_at x e) (after_event shape i (after_events shape i (after_event shape i node f) (events_at x es)) e) (after_events shape i (after_event shape i node f) (events_at x es))
        → after_events shape i node (events_at x (es ++ e ∷ []))
        ≡ cond (is_at x e) (after_event shape i (after_events shape i node (events_at x es)) e) (after_events shape i node (events_at x es))
        → after_events shape i node (cond b (f ∷ events_at x (es ++ e ∷ [])) (events_at x (es ++ e ∷ [])))
        ≡ cond (is_at x e) (after_event shape i (after_events shape i node (cond b (f ∷ events_at x es) (events_at x es))) e) (after_events shape i node (cond b (f ∷ events_at x es) (events_at x es)))
    at true p q = p
    at false p q = q

-- no orderer is such a node
no_orderer : (shape : Shape) (x j : ℕ) → orderer_of shape x ≡ None → j < shape.orderers → (x == orderer_node shape j) ≡ false
no_orderer shape x j e inside = at (nat_le (before_orderers shape) x && nat_lt x (before_orderers shape + shape.orderers)) refl e
  where
    at : (t : Bool) → (nat_le (before_orderers shape) x && nat_lt x (before_orderers shape + shape.orderers)) ≡ t
        → cond t (Some (x - before_orderers shape)) None ≡ None → (x == orderer_node shape j) ≡ false
    at true p f = absurd (cc)
    at false p f = grind (arith, nat_tests)

-- this orderer's state is what its rule makes
here_push : (shape : Shape) (kept : ℕ → List Payload) (es : List Event) (e : Event) (i : ℕ) → orderer_of shape e.node.0 ≡ Some i
    → (j : ℕ) → orderer_after shape kept (es ++ e ∷ []) j
    ≡ replaced (orderer_after shape kept es) i (after_event shape i (orderer_after shape kept es i) e) j
here_push shape kept es e i own j = at (nat_lt j shape.orderers) refl
  where
    where_is : (e.node.0 ≡ orderer_node shape i) × (i < shape.orderers)
    where_is = orderer_is shape e.node.0 i own

    same_i : orderer_after shape kept es i ≡ after_events shape i (at_first (kept i)) (events_at (orderer_node shape i) es)
    same_i = cond-true (nat_lt i shape.orderers) (after_events shape i (at_first (kept i)) (events_at (orderer_node shape i) es)) (at_first []) (lt-ltb i shape.orderers where_is.1)

    mine : (t : Bool) → (j == i) ≡ t
        → cond (is_at (orderer_node shape j) e) (after_event shape j (after_events shape j (at_first (kept j)) (events_at (orderer_node shape j) es)) e) (after_events shape j (at_first (kept j)) (events_at (orderer_node shape j) es))
        ≡ cond t (after_event shape i (orderer_after shape kept es i) e) (after_events shape j (at_first (kept j)) (events_at (orderer_node shape j) es))
    mine true s =
        let is : j ≡ i = eqb-true j i s in
        let here : is_at (orderer_node shape j) e ≡ true = eq-eqb e.node.0 (orderer_node shape j) (omega (arith, where_is.0)) in
        cond-true (is_at (orderer_node shape j) e) (after_event shape j (after_events shape j (at_first (kept j)) (events_at (orderer_node shape j) es)) e) (after_events shape j (at_first (kept j)) (events_at (orderer_node shape j) es)) here
        ∙ ap (λ k. after_event shape k (after_events shape k (at_first (kept k)) (events_at (orderer_node shape k) es)) e) is
        ∙ ap (λ (nd : Node). after_event shape i nd e) (sym same_i)
    mine false s =
        let there : is_at (orderer_node shape j) e ≡ false = (let w = where_is.0 in grind (arith, nat_tests)) in
        cond-false (is_at (orderer_node shape j) e) (after_event shape j (after_events shape j (at_first (kept j)) (events_at (orderer_node shape j) es)) e) (after_events shape j (at_first (kept j)) (events_at (orderer_node shape j) es)) there

    past : (t : Bool) → (j == i) ≡ t → (nat_lt j shape.orderers) ≡ false
        → at_first [] ≡ cond t (after_event shape i (orderer_after shape kept es i) e) (at_first [])
    past true s u = absurd (let is : j ≡ i = eqb-true j i s in let out : shape.orderers ≤ j = ltb-false j shape.orderers u in let ins = where_is.1 in omega arith)
    past false s u = refl

    at : (t : Bool) → nat_lt j shape.orderers ≡ t
        → cond t (after_events shape j (at_first (kept j)) (events_at (orderer_node shape j) (es ++ e ∷ []))) (at_first [])
        ≡ cond (j == i) (after_event shape i (orderer_after shape kept es i) e) (cond t (after_events shape j (at_first (kept j)) (events_at (orderer_node shape j) es)) (at_first []))
    at true u = state_push shape j (orderer_node shape j) (at_first (kept j)) es e ∙ mine (j == i) refl
    at false u = past (j == i) refl u

-- other orderers' states stay
other_push : (shape : Shape) (kept : ℕ → List Payload) (es : List Event) (e : Event) → orderer_of shape e.node.0 ≡ None
    → (j : ℕ) → orderer_after shape kept (es ++ e ∷ []) j ≡ orderer_after shape kept es j
other_push shape kept es e none j = at (nat_lt j shape.orderers) refl
  where
    at : (t : Bool) → nat_lt j shape.orderers ≡ t
        → cond t (after_events shape j (at_first (kept j)) (events_at (orderer_node shape j) (es ++ e ∷ []))) (at_first [])
        ≡ cond t (after_events shape j (at_first (kept j)) (events_at (orderer_node shape j) es)) (at_first [])
    at true u =
        state_push shape j (orderer_node shape j) (at_first (kept j)) es e
        ∙ cond-false (is_at (orderer_node shape j) e) (after_event shape j (after_events shape j (at_first (kept j)) (events_at (orderer_node shape j) es)) e) (after_events shape j (at_first (kept j)) (events_at (orderer_node shape j) es))
        (no_orderer shape e.node.0 j none (ltb-true j shape.orderers u))
    at false u = refl

-- all holds, and no vote was lost
pub record Onward (n : ℕ) (before after : ℕ → Node) (letters : List Sent) : Type 0 where
  pub holds : Holds n after letters
  pub stay : (j : ℕ) (x : Vote) → In x (votes (before j).durable) → In x (votes (after j).durable)

true_input : (shape : Shape) (kept : ℕ → List Payload) (before : List Event) (node : ℕ) (ps : List Vote)
    → Keeps shape.orderers (orderer_after shape kept before) (sent_in before) ps
    → (x : Input) → IsDelivered before node x → IsTrueInput shape.orderers (lists_of (orderer_after shape kept before)) ps x
true_input shape kept before node ps k (Deliver place index None) a = tt
true_input shape kept before node ps k (Deliver place index (Some m)) a =
    k.letters_true (letter node m) (sent_before before place a.event (letter node m) a.at (got_in a.event.happened.outputs index (letter node m) a.output))
true_input shape kept before node ps k (ACall call) a = tt
true_input shape kept before node ps k Tick a = tt
true_input shape kept before node ps k Lead a = tt
true_input shape kept before node ps k Stop a = tt
true_input shape kept before node ps k Restart a = tt

orderer_step : (shape : Shape) (kept : ℕ → List Payload) (before : List Event) (e : Event) (i : ℕ) → orderer_of shape e.node.0 ≡ Some i
    → Holds shape.orderers (orderer_after shape kept before) (sent_in before) → IsOrdererEvent shape kept before i e
    → Onward shape.orderers (orderer_after shape kept before) (orderer_after shape kept (before ++ e ∷ [])) (sent_in (before ++ e ∷ []))
orderer_step shape kept before e i own h legal =
    subst (λ (x : (ℕ → Node) × List Sent). Onward shape.orderers (orderer_after shape kept before) x.0 x.1) (λ j. (node_path j, letters_path j)) made
  where
    stepped : Stepped shape.orderers (lists_of (orderer_after shape kept before)) h.0 i legal.made
    stepped = outcome_steps shape (orderer_after shape kept before) h.0 i (orderer_is shape e.node.0 i own).1 h.1.global (h.1.modes i) e.happened.input
        (true_input shape kept before e.node.0 h.0 h.1 e.happened.input legal.delivered) e.happened.mark legal.made legal.rule

    made : Onward shape.orderers (orderer_after shape kept before) (replaced (orderer_after shape kept before) i legal.made.node) (sent_in before ++ legal.made.outputs)
    made = record {
      holds = install shape.orderers (orderer_after shape kept before) (sent_in before) h.0 i legal.made h.1 stepped;
      stay = λ j x a. (replaced_grow (orderer_after shape kept before) h.0 i legal.made.node stepped.extends j).kept x a;
    }

    node_path : replaced (orderer_after shape kept before) i legal.made.node ≡ orderer_after shape kept (before ++ e ∷ [])
    node_path = sym (λ x j. (here_push shape kept before e i own j
        ∙ ap (λ o. replaced (orderer_after shape kept before) i (node_or (orderer_after shape kept before i) o) j) legal.rule) x)

    letters_path : sent_in before ++ legal.made.outputs ≡ sent_in (before ++ e ∷ [])
    letters_path = sym (sent_in-push before e ∙ ap (λ outs. sent_in before ++ outs) legal.outputs)

free_event : (shape : Shape) (kept : ℕ → List Payload) (before : List Event) (e : Event) → orderer_of shape e.node.0 ≡ None
    → Holds shape.orderers (orderer_after shape kept before) (sent_in before) → AllByRecursion IsOtherLetter e.happened.outputs
    → Onward shape.orderers (orderer_after shape kept before) (orderer_after shape kept (before ++ e ∷ [])) (sent_in (before ++ e ∷ []))
free_event shape kept before e none h free =
    subst (λ (x : (ℕ → Node) × List Sent). Onward shape.orderers (orderer_after shape kept before) x.0 x.1) (λ j. (node_path j, letters_path j)) made
  where
    made : Onward shape.orderers (orderer_after shape kept before) (orderer_after shape kept before) (sent_in before ++ e.happened.outputs)
    made = record { holds = free_step shape.orderers (orderer_after shape kept before) (sent_in before) e.happened.outputs h free; stay = λ j x a. a }

    node_path : orderer_after shape kept before ≡ orderer_after shape kept (before ++ e ∷ [])
    node_path = sym (λ x j. other_push shape kept before e none j x)

    letters_path : sent_in before ++ e.happened.outputs ≡ sent_in (before ++ e ∷ [])
    letters_path = sym (sent_in-push before e)

one_more : (shape : Shape) (kept : ℕ → List Payload) (before : List Event) (e : Event) → (x : Option ℕ) → orderer_of shape e.node.0 ≡ x
    → Holds shape.orderers (orderer_after shape kept before) (sent_in before) → IsEventOf shape kept before x e
    → Onward shape.orderers (orderer_after shape kept before) (orderer_after shape kept (before ++ e ∷ [])) (sent_in (before ++ e ∷ []))
one_more shape kept before e None own h legal = free_event shape kept before e own h legal
one_more shape kept before e (Some i) own h legal = orderer_step shape kept before e i own h legal

pub event_holds : (shape : Shape) (kept : ℕ → List Payload) (before : List Event) (e : Event)
    → Holds shape.orderers (orderer_after shape kept before) (sent_in before) → IsLegalEvent shape kept before e
    → Holds shape.orderers (orderer_after shape kept (before ++ e ∷ [])) (sent_in (before ++ e ∷ []))
event_holds shape kept before e h legal = (one_more shape kept before e (orderer_of shape e.node.0) refl h legal.1).holds

-- over all events that follow
pub holds_after : (shape : Shape) (kept : ℕ → List Payload) (before es : List Event)
    → Holds shape.orderers (orderer_after shape kept before) (sent_in before) → IsLegalAfter shape kept before es
    → Onward shape.orderers (orderer_after shape kept before) (orderer_after shape kept (before ++ es)) (sent_in (before ++ es))
holds_after shape kept before [] h legal =
    subst (λ all. Onward shape.orderers (orderer_after shape kept before) (orderer_after shape kept all) (sent_in all)) (sym (append-nil before))
    (record { holds = h; stay = λ j x a. a })
holds_after shape kept before (e ∷ es) h legal = joined (one_more shape kept before e (orderer_of shape e.node.0) refl h legal.0.1)
    (λ first. holds_after shape kept (before ++ e ∷ []) es first.holds legal.1)
  where
    joined : Onward shape.orderers (orderer_after shape kept before) (orderer_after shape kept (before ++ e ∷ [])) (sent_in (before ++ e ∷ []))
        → (Onward shape.orderers (orderer_after shape kept before) (orderer_after shape kept (before ++ e ∷ [])) (sent_in (before ++ e ∷ []))
        → Onward shape.orderers (orderer_after shape kept (before ++ e ∷ [])) (orderer_after shape kept ((before ++ e ∷ []) ++ es)) (sent_in ((before ++ e ∷ []) ++ es)))
        → Onward shape.orderers (orderer_after shape kept before) (orderer_after shape kept (before ++ e ∷ es)) (sent_in (before ++ e ∷ es))
    joined first f =
        let rest = f first in
        subst (λ all. Onward shape.orderers (orderer_after shape kept before) (orderer_after shape kept all) (sent_in all)) (append_assoc before (e ∷ []) es)
        (record { holds = rest.holds; stay = λ j x a. rest.stay j x (first.stay j x a) })

-- a legal history is legal up to each moment, and from there on
pub legal_front : (shape : Shape) (kept : ℕ → List Payload) (before xs ys : List Event) → IsLegalAfter shape kept before (xs ++ ys) → IsLegalAfter shape kept before xs
legal_front shape kept before [] ys h = tt
legal_front shape kept before (x ∷ xs) ys h = (h.0, legal_front shape kept (before ++ x ∷ []) xs ys h.1)

pub legal_rest : (shape : Shape) (kept : ℕ → List Payload) (before xs ys : List Event) → IsLegalAfter shape kept before (xs ++ ys) → IsLegalAfter shape kept (before ++ xs) ys
legal_rest shape kept before [] ys h = subst (λ all. IsLegalAfter shape kept all ys) (sym (append-nil before)) h
legal_rest shape kept before (x ∷ xs) ys h =
    subst (λ all. IsLegalAfter shape kept all ys) (append_assoc before (x ∷ []) xs) (legal_rest shape kept (before ++ x ∷ []) xs ys h.1)
