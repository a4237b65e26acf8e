-- From one event to whole histories.
use Rattle.std.proofs.Common.{◌≡◌, ℕ, Bool, true, false, cond, ◌==◌, List, [], ◌∷◌, ◌++◌, Some, None, refl, inl, inr, sym, ap, subst, append_assoc, append-nil, eq-eqb, ◌∙◌}
use Rattle.std.proofs.lemmas.Bool.{cases_eq, cond-true, cond-false, ne_eqb}
use Rattle.history_frame.specs.declared.events.Event.{Event}
use Rattle.history_frame.specs.declared.events.Sent.{Sent}
use Rattle.history_frame.specs.declared.inputs.Input.{Input}
use Rattle.history_frame.specs.declared.inputs.Input.TheVariants.{Deliver, Call as ACall, Tick, Lead, Stop, Restart}
use Rattle.log_base.specs.ClusterShape.{InRange, Shape}
use Rattle.node_table.specs.Numbering.{role_at}
use Rattle.node_model.specs.Fits.{IsInput}
use Rattle.node_model.specs.Histories.{IsDelivered, events_at, is_at, sent_in}
use Rattle.node_model.specs.Legal.{AreNext, IsLegal, IsNext}
use Rattle.node_model.specs.NodeState.{KeptLists, NodeState, node_after, node_at_first, state_after, state_or, states_after}
use Rattle.node_model.specs.Nodes.{letter}
use Rattle.agreement_law.proofs.Bridge.{sent_before, sent_in-push}
use Rattle.agreement_law.proofs.Elements.{got_in}
use Rattle.safety_law.specs.Fit.{Fit}
use Rattle.safety_law.specs.Lists.{lists_at}
use Rattle.safety_law.specs.Events.{IsGoodInput, with_state}
use Rattle.safety_law.proofs.Start.{start_fits}
use Rattle.safety_law.proofs.Step.{step}

-- the state after one event more
state_push : (config : Shape) (m : ℕ) (s : NodeState) (es : List Event) (e : Event)
    → states_after config m s (events_at m (es ++ e ∷ []))
    ≡ cond (is_at m e) (state_after config m (states_after config m s (events_at m es)) e.happened) (states_after config m s (events_at m es))
state_push config m s [] e = last (is_at m e)
  where
    last : (b : Bool) → states_after config m s (cond b (e ∷ []) []) ≡ cond b (state_after config m s e.happened) s
    last true = refl
    last false = refl
state_push config m s (f ∷ es) e = at (is_at m f) (state_push config m (state_after config m s f.happened) es e) (state_push config m s es e)
  where
    at : (b : Bool)
        → states_after config m (state_after config m s f.happened) (events_at m (es ++ e ∷ []))
        ≡ cond (is_at m e) (state_after config m (states_after config m (state_after config m s f.happened) (events_at m es)) e.happened) (states_after config m (state_after config m s f.happened) (events_at m es))
        → states_after config m s (events_at m (es ++ e ∷ []))
        ≡ cond (is_at m e) (state_after config m (states_after config m s (events_at m es)) e.happened) (states_after config m s (events_at m es))
        → states_after config m s (cond b (f ∷ events_at m (es ++ e ∷ [])) (events_at m (es ++ e ∷ [])))
        ≡ cond (is_at m e) (state_after config m (states_after config m s (cond b (f ∷ events_at m es) (events_at m es))) e.happened) (states_after config m s (cond b (f ∷ events_at m es) (events_at m es)))
    at true p q = p
    at false p q = q

module _ (config : Shape) (kept : KeptLists) where
  -- all nodes after one event more: one is replaced
  pub node_push : (es : List Event) (e : Event) (m : ℕ)
      → with_state (node_after config kept es) e.node.0 (state_after config e.node.0 (node_after config kept es e.node.0) e.happened) m
      ≡ node_after config kept (es ++ e ∷ []) m
  node_push es e m = elim (cases_eq m e.node.0) [
    | inl same ↦
        cond-true (m == e.node.0) _ _ (eq-eqb m e.node.0 same)
        ∙ ap (λ (k : ℕ). state_after config k (node_after config kept es k) e.happened) (sym same)
        ∙ sym (state_push config m (node_at_first config kept m) es e ∙ cond-true (is_at m e) _ _ (eq-eqb e.node.0 m (sym same)))
    | inr other ↦
        cond-false (m == e.node.0) _ _ (ne_eqb m e.node.0 other)
        ∙ sym (state_push config m (node_at_first config kept m) es e ∙ cond-false (is_at m e) _ _ (ne_eqb e.node.0 m (λ same. other (sym same))))
  ]

  -- an input that may come is one of which all is so
  good_input : (before : List Event) (n : ℕ) → Fit config (node_after config kept before) (sent_in before) → (input : Input) → IsInput config (role_at config n) input
      → IsDelivered before n input → IsGoodInput config (lists_at config (node_after config kept before)) (role_at config n) input
  good_input before n fit (Deliver place index (Some m)) is d =
      (fit.letters (letter n m) (sent_before before place d.event (letter n m) d.at (got_in d.event.happened.outputs index (letter n m) d.output))).good
  good_input before n fit (Deliver place index None) is d = absurd d
  good_input before n fit (ACall call) is d = is.range
  good_input before n fit Tick is d = tt
  good_input before n fit Lead is d = tt
  good_input before n fit Stop is d = tt
  good_input before n fit Restart is d = tt

  pub event_fits : InRange config → (run : ℕ) (before : List Event) (e : Event) → Fit config (node_after config kept before) (sent_in before) → IsNext config run kept before e
      → Fit config (node_after config kept (before ++ e ∷ [])) (sent_in (before ++ e ∷ []))
  event_fits range run before e fit next =
      subst (λ (x : (ℕ → NodeState) × List Sent). Fit config x.0 x.1) (λ j. (nodes j, letters j)) made
    where
      made : Fit config (with_state (node_after config kept before) e.node.0 next.row.made.state) (sent_in before ++ next.row.made.outputs)
      made = step config range (node_after config kept before) (sent_in before) fit e.node.0 next.node e.happened.input e.happened.mark
          (good_input before e.node.0 fit e.happened.input next.allowed next.delivered) next.row.made next.row.rule

      state_is : state_after config e.node.0 (node_after config kept before e.node.0) e.happened ≡ next.row.made.state
      state_is = ap (state_or (node_after config kept before e.node.0)) next.row.rule

      nodes : with_state (node_after config kept before) e.node.0 next.row.made.state ≡ node_after config kept (before ++ e ∷ [])
      nodes = λ x m. (ap (λ (s : NodeState). with_state (node_after config kept before) e.node.0 s m) (sym state_is) ∙ node_push before e m) x

      letters : sent_in before ++ next.row.made.outputs ≡ sent_in (before ++ e ∷ [])
      letters = sym (sent_in-push before e ∙ ap (λ outs. sent_in before ++ outs) next.row.outputs)

  pub events_fit : InRange config → (run : ℕ) (before es : List Event) → Fit config (node_after config kept before) (sent_in before) → AreNext config run kept before es
      → Fit config (node_after config kept (before ++ es)) (sent_in (before ++ es))
  events_fit range run before [] fit next = subst (λ (all : List Event). Fit config (node_after config kept all) (sent_in all)) (sym (append-nil before)) fit
  events_fit range run before (e ∷ es) fit next =
      subst (λ (all : List Event). Fit config (node_after config kept all) (sent_in all)) (append_assoc before (e ∷ []) es)
      (events_fit range run (before ++ e ∷ []) es (event_fits range run before e fit next.0) next.1)

-- a legal history is legal up to each moment
pub legal_front : (config : Shape) (run : ℕ) (kept : KeptLists) (before xs ys : List Event) → AreNext config run kept before (xs ++ ys) → AreNext config run kept before xs
legal_front config run kept before [] ys h = tt
legal_front config run kept before (x ∷ xs) ys h = (h.0, legal_front config run kept (before ++ x ∷ []) xs ys h.1)

pub history_fits : (config : Shape) (run : ℕ) (kept : KeptLists) (events : List Event) → IsLegal config run kept events
    → Fit config (node_after config kept events) (sent_in events)
history_fits config run kept events h =
    events_fit config kept h.config_in_range run [] events (start_fits config h.config_in_range _ kept h.sound) h.follow
