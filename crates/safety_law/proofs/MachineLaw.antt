-- The law of a machine: from a sound start, what nodes put out fits its addressee.
use Rattle.std.proofs.Common.{◌≡◌, ◌<◌, ℕ, zero, suc, ◌==◌, List, [], ◌∷◌, ◌++◌, length, slice_get, Some, None, refl, inl, inr, sym, ap, subst, arith, append_assoc, append-nil, eq-eqb, ◌∙◌}
use Rattle.std.proofs.lemmas.Bool.{cases_eq, cond-true, cond-false, ne_eqb}
use Rattle.std.proofs.lemmas.List.{take_at}
use Rattle.std.proofs.lemmas.Option.{none-some, same_Some, slice_get_within}
use Rattle.history_frame.specs.declared.events.Happened.{Happened}
use Rattle.history_frame.specs.declared.events.Sent.{Sent}
use Rattle.history_frame.specs.declared.inputs.Input.{Input}
use Rattle.history_frame.specs.declared.inputs.Input.TheVariants.{Deliver, Call as ACall, Tick, Lead, Stop, Restart}
use Rattle.log_base.specs.ClusterShape.{InRange, Shape}
use Rattle.log_base.specs.Machines.{DeliveriesFit, Event, IsDelivered, IsLegal, IsNext, IsOutput, Letter, of_node}
use Rattle.log_base.specs.Machines.{state_after as machine_after}
use Rattle.log_base.proofs.Legal.{of_node-else, of_node-here}
use Rattle.message_frame.specs.declared.messages.Message.{Message}
use Rattle.message_frame.specs.Reading.{message_of}
use Rattle.message_frame.specs.Spelling.{IsMessage, message_spelling}
use Rattle.message_frame.proofs.MessageLaws.{all_again}
use Rattle.node_table.specs.Numbering.{nodes_of, role_at}
use Rattle.record_frame.proofs.FieldLaws.{ok_is}
use Rattle.node_model.specs.Fits.{Fits}
use Rattle.node_model.specs.Machine.{ClusterNode, IsSoundStart, delivery, node_meanings, posted}
use Rattle.node_model.specs.NodeState.{IsRow, KeptLists, NodeState, node_at_first, state_after, state_or}
use Rattle.node_model.specs.Nodes.{letter}
use Rattle.node_model.proofs.Delivering.{delivered_is, delivers}
use Rattle.agreement_law.specs.Elements.{In}
use Rattle.agreement_law.proofs.Elements.{got_in, in_left, in_right}
use Rattle.safety_law.specs.Fit.{Fit}
use Rattle.safety_law.specs.Lists.{lists_at}
use Rattle.safety_law.proofs.Fitting.{letter_fits}
use Rattle.safety_law.specs.Events.{IsGoodInput, with_state}
use Rattle.safety_law.proofs.Start.{made_from, start_fits}
use Rattle.safety_law.proofs.Step.{step}

abbrev Log : Type 0
Log = List (Event Happened)

-- the letters of a log
abbrev sent_by : Log → List Sent
sent_by [] = []
sent_by (e ∷ log) = e.happened.outputs ++ sent_by log

-- a node after what happened at it
abbrev happened_after : Shape → ℕ → NodeState → List Happened → NodeState
happened_after config n s [] = s
happened_after config n s (h ∷ hs) = happened_after config n (state_after config n s h) hs

sent_by-push : (log : Log) (e : Event Happened) → sent_by (log ++ e ∷ []) ≡ sent_by log ++ e.happened.outputs
sent_by-push [] e = append-nil e.happened.outputs
sent_by-push (f ∷ log) e = ap (λ s. f.happened.outputs ++ s) (sent_by-push log e) ∙ sym (append_assoc f.happened.outputs (sent_by log) e.happened.outputs)

sent_earlier : (log : Log) (place : ℕ) (e : Event Happened) (s : Sent) → slice_get log place ≡ Some e → In s e.happened.outputs → In s (sent_by log)
sent_earlier [] place e s at a = absurd (none-some e at)
sent_earlier (f ∷ log) zero e s at a =
    in_left s f.happened.outputs (sent_by log) (subst (λ (w : Event Happened). In s w.happened.outputs) (sym (same_Some f e at)) a)
sent_earlier (f ∷ log) (suc place) e s at a = in_right s f.happened.outputs (sent_by log) (sent_earlier log place e s at a)

happened_push : (config : Shape) (n : ℕ) (s : NodeState) (hs : List Happened) (h : Happened)
    → happened_after config n s (hs ++ h ∷ []) ≡ state_after config n (happened_after config n s hs) h
happened_push config n s [] h = refl
happened_push config n s (g ∷ hs) h = happened_push config n (state_after config n s g) hs h

-- a node of the machine keeps its config and its number
abbrev as_node : Shape → ℕ → NodeState → ClusterNode
as_node config n s = record { config = config; number = n; state = s }

machine_is : (config : Shape) (n : ℕ) (s : NodeState) (hs : List Happened) → machine_after node_meanings (as_node config n s) hs ≡ as_node config n (happened_after config n s hs)
machine_is config n s [] = refl
machine_is config n s (h ∷ hs) = machine_is config n (state_after config n s h) hs

-- messages of one spelling are one
one_spelling : (m other : Message) → IsMessage m → IsMessage other → message_spelling m ≡ message_spelling other → m ≡ other
one_spelling m other a b e = ok_is m other (sym (all_again m a) ∙ ap message_of e ∙ all_again other b)

module _ (config : Shape) (range : InRange config) (kept : KeptLists) where
  abbrev states : Log → ℕ → NodeState
  states log n = happened_after config n (node_at_first config kept n) (of_node n log)

  -- an output that is delivered is among the letters
  delivered_in : (log : Log) (n : ℕ) → Fit config (states log) (sent_by log) → (place index : ℕ) (m : Message) → IsMessage m
      → IsOutput node_meanings log n (place, (index, message_spelling m)) → In (letter n m) (sent_by log)
  delivered_in log n fit place index m is out =
      let one = made_from posted out.0.happened.outputs index (n, message_spelling m) out.2 in
      let among = sent_earlier log place out.0 one.0 out.1 (got_in out.0.happened.outputs index one.0 one.1) in
      let to : one.0.to.0 ≡ n = ap (λ (x : ℕ × List ℕ). x.0) one.2 in
      let same : one.0.message ≡ m = one_spelling one.0.message m (fit.letters one.0 among).good.range is (ap (λ (x : ℕ × List ℕ). x.1) one.2) in
      subst (λ (x : ℕ × Message). In (letter x.0 x.1) (sent_by log)) (λ i. (to i, same i)) among

  input_is_good : (log : Log) (n : ℕ) → Fit config (states log) (sent_by log) → (input : Input) → Fits config (role_at config n) (states log n) input
      → IsDelivered node_meanings log n (delivery input) → IsGoodInput config (lists_at config (states log)) (role_at config n) input
  input_is_good log n fit (Deliver place index (Some m)) is d =
      let out = subst (IsDelivered node_meanings log n) (delivers place index m is.allowed.range.0) d in
      (fit.letters (letter n m) (delivered_in log n fit place index m is.allowed.range.0 out)).good
  input_is_good log n fit (Deliver place index None) is d = tt
  input_is_good log n fit (ACall call) is d = is.allowed.range
  input_is_good log n fit Tick is d = tt
  input_is_good log n fit Lead is d = tt
  input_is_good log n fit Stop is d = tt
  input_is_good log n fit Restart is d = tt

  states_push : (log : Log) (e : Event Happened) (m : ℕ)
      → with_state (states log) e.node (state_after config e.node (states log e.node) e.happened) m ≡ states (log ++ e ∷ []) m
  states_push log e m = elim (cases_eq m e.node) [
    | inl same ↦
        cond-true (m == e.node) _ _ (eq-eqb m e.node same)
        ∙ ap (λ (k : ℕ). state_after config k (states log k) e.happened) (sym same)
        ∙ sym (ap (happened_after config m (node_at_first config kept m)) (of_node-here m log e (eq-eqb e.node m (sym same)))
        ∙ happened_push config m (node_at_first config kept m) (of_node m log) e.happened)
    | inr other ↦
        cond-false (m == e.node) _ _ (ne_eqb m e.node other)
        ∙ sym (ap (happened_after config m (node_at_first config kept m)) (of_node-else m log e (ne_eqb e.node m (λ same. other (sym same)))))
  ]

  -- what may happen at a node keeps all
  happens : (log : Log) (e : Event Happened) → Fit config (states log) (sent_by log) → e.node < nodes_of config
      → Fits config (role_at config e.node) (states log e.node) e.happened.input → IsRow config e.node (states log e.node) e.happened
      → IsDelivered node_meanings log e.node (delivery e.happened.input) → Fit config (states (log ++ e ∷ [])) (sent_by (log ++ e ∷ []))
  happens log e fit within is row d =
      subst (λ (x : (ℕ → NodeState) × List Sent). Fit config x.0 x.1) (λ j. (nodes j, letters j)) made
    where
      made : Fit config (with_state (states log) e.node row.made.state) (sent_by log ++ row.made.outputs)
      made = step config range (states log) (sent_by log) fit e.node within e.happened.input e.happened.mark
          (input_is_good log e.node fit e.happened.input is d) row.made row.rule

      state_is : state_after config e.node (states log e.node) e.happened ≡ row.made.state
      state_is = ap (state_or (states log e.node)) row.rule

      nodes : with_state (states log) e.node row.made.state ≡ states (log ++ e ∷ [])
      nodes = λ x m. (ap (λ (s : NodeState). with_state (states log) e.node s m) (sym state_is) ∙ states_push log e m) x

      letters : sent_by log ++ row.made.outputs ≡ sent_by (log ++ e ∷ [])
      letters = sym (sent_by-push log e ∙ ap (λ outs. sent_by log ++ outs) row.outputs)

at_end : {A : Type 0} (xs : List A) (y : A) (ys : List A) → slice_get (xs ++ y ∷ ys) (length xs) ≡ Some y
at_end [] y ys = refl
at_end (x ∷ xs) y ys = at_end xs y ys

module _ (starts : List ClusterNode) (sound : IsSoundStart starts) where
  abbrev states_of : Log → ℕ → NodeState
  states_of log n = states sound.config sound.in_range sound.kept log n

  -- a node of the list, and where it stands
  start_is : (n : ℕ) (start : ClusterNode) → slice_get starts n ≡ Some start
      → (n < nodes_of sound.config) × (as_node sound.config n (node_at_first sound.config sound.kept n) ≡ start)
  start_is n start e =
      let within : n < nodes_of sound.config = let low = slice_get_within starts n start e in omega (arith, low, sound.all) in
      (within, same_Some _ start (sym (sound.each n within) ∙ e))

  node_is : (log : Log) (n : ℕ) (start : ClusterNode) → slice_get starts n ≡ Some start
      → as_node sound.config n (states_of log n) ≡ machine_after node_meanings start (of_node n log)
  node_is log n start e =
      sym (machine_is sound.config n (node_at_first sound.config sound.kept n) (of_node n log))
      ∙ ap (λ (s : ClusterNode). machine_after node_meanings s (of_node n log)) (start_is n start e).1

  next_fits : (log : Log) (e : Event Happened) → Fit sound.config (states_of log) (sent_by log) → IsNext node_meanings starts log e
      → Fit sound.config (states_of (log ++ e ∷ [])) (sent_by (log ++ e ∷ []))
  next_fits log e fit next =
      let same = sym (node_is log e.node next.0 next.1) in
      happens sound.config sound.in_range sound.kept log e fit (start_is e.node next.0 next.1).0
      (subst (λ (s : ClusterNode). Fits s.config (role_at s.config s.number) s.state e.happened.input) same next.2.fits)
      (subst (λ (s : ClusterNode). IsRow s.config s.number s.state e.happened) same next.2.row)
      next.2.delivered

  log_fits : (log more : Log) → Fit sound.config (states_of log) (sent_by log) → IsLegal node_meanings starts (log ++ more)
      → Fit sound.config (states_of (log ++ more)) (sent_by (log ++ more))
  log_fits log [] fit legal = subst (λ (all : Log). Fit sound.config (states_of all) (sent_by all)) (sym (append-nil log)) fit
  log_fits log (e ∷ more) fit legal =
      subst (λ (all : Log). Fit sound.config (states_of all) (sent_by all)) (append_assoc log (e ∷ []) more)
      (log_fits (log ++ e ∷ []) more (next_fits log e fit next) (subst (IsLegal node_meanings starts) (sym (append_assoc log (e ∷ []) more)) legal))
    where
      next : IsNext node_meanings starts log e
      next = subst (λ (front : Log). IsNext node_meanings starts front e) (take_at log (e ∷ more) (length log) refl) (legal (length log) e (at_end log e more))

  letter_is_fit : (log : Log) → IsLegal node_meanings starts log → (node place index : ℕ) (start : ClusterNode) (message : Message) → slice_get starts node ≡ Some start
      → IsMessage message → IsOutput node_meanings log node (place, (index, message_spelling message))
      → node_meanings.fits (machine_after node_meanings start (of_node node log)) (Deliver place index (Some message))
  letter_is_fit log legal node place index start message at is out =
      let fit = log_fits [] log (start_fits sound.config sound.in_range _ sound.kept sound.sound) legal in
      let among = delivered_in sound.config sound.in_range sound.kept log node fit place index message is out in
      subst (λ (s : ClusterNode). Fits s.config (role_at s.config s.number) s.state (Deliver place index (Some message))) (node_is log node start at)
      (letter_fits sound.config sound.in_range (states_of log) (sent_by log) fit (letter node message) among place index)

  delivery_fits : (log : Log) → IsLegal node_meanings starts log → (node : ℕ) (start : ClusterNode) (input : Input) (letter : Letter) → slice_get starts node ≡ Some start
      → delivery input ≡ Some letter → IsOutput node_meanings log node letter → node_meanings.fits (machine_after node_meanings start (of_node node log)) input
  delivery_fits log legal node start (Deliver place index (Some message)) letter at e out =
      let is = delivered_is place index message letter e in
      letter_is_fit log legal node place index start message at is.0 (subst (IsOutput node_meanings log node) (sym is.1) out)
  delivery_fits log legal node start (Deliver place index None) letter at e out = absurd (none-some letter e)
  delivery_fits log legal node start (ACall call) letter at e out = absurd (none-some letter e)
  delivery_fits log legal node start Tick letter at e out = absurd (none-some letter e)
  delivery_fits log legal node start Lead letter at e out = absurd (none-some letter e)
  delivery_fits log legal node start Stop letter at e out = absurd (none-some letter e)
  delivery_fits log legal node start Restart letter at e out = absurd (none-some letter e)

pub deliveries_fit : DeliveriesFit node_meanings
deliveries_fit starts log sound legal = delivery_fits starts sound log legal
