-- Histories grow at their end: what one event more makes of each node, and fronts of legal histories.
use Rattle.std.proofs.Common.{◌≡◌, ℕ, Bool, true, false, cond, List, [], ◌∷◌, ◌++◌, refl, sym, subst, append_assoc, append-nil, eq-eqb, eqb-true, ◌∙◌}
use Rattle.std.proofs.lemmas.Bool.{cond-true, cond-false}
use Rattle.history_frame.specs.declared.events.Event.{Event}
use Rattle.log_base.specs.ClusterShape.{Shape}
use Rattle.node_model.specs.Histories.{events_at, is_at}
use Rattle.node_model.specs.Legal.{AreNext, IsNext}
use Rattle.node_model.specs.NodeState.{KeptLists, NodeState, node_after, node_at_first, state_after, states_after}

-- a node after one event more
states_push : (config : Shape) (n : ℕ) (state : NodeState) (es : List Event) (e : Event)
    → states_after config n state (events_at n (es ++ e ∷ []))
    ≡ cond (is_at n e) (state_after config n (states_after config n state (events_at n es)) e.happened) (states_after config n state (events_at n es))
states_push config n state [] e = last (is_at n e)
  where
    last : (b : Bool) → states_after config n state (cond b (e ∷ []) []) ≡ cond b (state_after config n state e.happened) state
    last true = refl
    last false = refl
states_push config n state (f ∷ es) e = at (is_at n f) (states_push config n (state_after config n state f.happened) es e) (states_push config n state es e)
  where
    at : (b : Bool)
        → states_after config n (state_after config n state f.happened) (events_at n (es ++ e ∷ []))
        ≡ cond (is_at n e) (state_after config n (states_after config n (state_after config n state f.happened) (events_at n es)) e.happened) (states_after config n (state_after config n state f.happened) (events_at n es))
        → states_after config n state (events_at n (es ++ e ∷ []))
        ≡ cond (is_at n e) (state_after config n (states_after config n state (events_at n es)) e.happened) (states_after config n state (events_at n es))
        → states_after config n state (cond b (f ∷ events_at n (es ++ e ∷ [])) (events_at n (es ++ e ∷ [])))
        ≡ cond (is_at n e) (state_after config n (states_after config n state (cond b (f ∷ events_at n es) (events_at n es))) e.happened) (states_after config n state (cond b (f ∷ events_at n es) (events_at n es)))
    at true p q = p
    at false p q = q

module _ (config : Shape) (kept : KeptLists) (es : List Event) (e : Event) where
  -- the node of the event takes a row
  pub node_here : node_after config kept (es ++ e ∷ []) e.node.0 ≡ state_after config e.node.0 (node_after config kept es e.node.0) e.happened
  node_here =
      states_push config e.node.0 (node_at_first config kept e.node.0) es e
      ∙ cond-true (is_at e.node.0 e) _ _ (eq-eqb e.node.0 e.node.0 refl)

  -- any other node stays as it was
  pub node_there : (n : ℕ) → (e.node.0 ≡ n → ⊥) → node_after config kept (es ++ e ∷ []) n ≡ node_after config kept es n
  node_there n other =
      states_push config n (node_at_first config kept n) es e
      ∙ cond-false (is_at n e) _ _ (different (is_at n e) refl)
    where
      different : (b : Bool) → is_at n e ≡ b → is_at n e ≡ false
      different true is = absurd (other (eqb-true e.node.0 n is))
      different false is = is

module _ (config : Shape) (run : ℕ) (kept : KeptLists) where
  -- a front of events that follow is one
  pub front : (before es fs : List Event) → AreNext config run kept before (es ++ fs) → AreNext config run kept before es
  front before [] fs h = tt
  front before (e ∷ es) fs h = (h.0, front (before ++ e ∷ []) es fs h.1)

  -- each of them may come after those before it
  pub next_at : (before es : List Event) (e : Event) (fs : List Event) → AreNext config run kept before (es ++ e ∷ fs) → IsNext config run kept (before ++ es) e
  next_at before [] e fs h = subst (λ b. IsNext config run kept b e) (sym (append-nil before)) h.0
  next_at before (x ∷ es) e fs h =
      subst (λ b. IsNext config run kept b e) (append_assoc before (x ∷ []) es) (next_at (before ++ x ∷ []) es e fs h.1)

  -- one event more
  pub grown : (before es : List Event) (e : Event) → AreNext config run kept before es → IsNext config run kept (before ++ es) e → AreNext config run kept before (es ++ e ∷ [])
  grown before [] e h k = (subst (λ b. IsNext config run kept b e) (append-nil before) k, tt)
  grown before (x ∷ es) e h k =
      (h.0, grown (before ++ x ∷ []) es e h.1 (subst (λ b. IsNext config run kept b e) (sym (append_assoc before (x ∷ []) es)) k))
