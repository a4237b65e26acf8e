-- How the answers of a leader tell the rows.
use Rattle.std.proofs.Common.{◌≡◌, ℕ, Bool, true, false, cond, ◌==◌, List, [], ◌++◌, length, Option, Some, None, refl, ap, sym, subst, ◌∙◌}
use Rattle.std.specs.Prelude.{IsSome}
use Rattle.std.specs.Option.{option_map}
use Rattle.std.proofs.lemmas.Bool.{eqb-true}
use Rattle.std.proofs.lemmas.List.{append-nil}
use Rattle.history_frame.specs.declared.events.Sent.{Sent}
use Rattle.log_base.specs.ClusterShape.{Shape}
use Rattle.log_base.specs.declared.numbers.Ballot.{Ballot}
use Rattle.message_frame.specs.declared.messages.Vote.{Vote}
use Rattle.record_frame.specs.declared.values.Value.{Value}
use Rattle.node_model.specs.Nodes.{to_learners, to_orderers}
use Rattle.node_model.specs.Messages.{accept_message, decide_message, prepare_message}
use Rattle.node_model.specs.OrdererNode.{Change, Orderer}
use Rattle.node_model.specs.OrdererRow.{accepted_for, accepted_to, counted, decided_by, go_on, learned, next_letters, on_accepted, on_promised, promised_to, quiet, tick_leader, tick_pending, told, with_leader}
use Rattle.paxos_model.specs.Leader.{Leader, Next, Nothing, Pending, Propose, Window, advance, awaits_promise, drop_pending, with_acceptance, with_promise, without_slot}
use Rattle.paxos_model.specs.Learner.{wish_of}
use Rattle.paxos_model.specs.Majority.{count_marks, most}
use Rattle.paxos_leader.specs.Leading.{Answered, acceptance_for, acceptance_to, again_by, again_pending, again_to, as_next, counted as counted_answer, led_ballot, next_to, not_pending, promise_to, to_ballot, to_slot}
use Rattle.paxos_leader.specs.declared.answers.Again.{Again}
use Rattle.paxos_leader.specs.declared.answers.Again.TheVariants.{Prepare as PrepareAgain, Accept as AcceptAgain, Nothing as Silent}
use Rattle.paxos_leader.specs.declared.answers.Counting.{Counting}
use Rattle.paxos_leader.specs.declared.answers.Counting.TheVariants.{Chosen, NotYet, Other as NotPending}
use Rattle.paxos_leader.specs.declared.answers.Heard.{Heard}
use Rattle.paxos_leader.specs.declared.answers.Heard.TheVariants.{Counted, Other as Unheard}
use Rattle.orderer_node.specs.Announcing.{announced, next_said}
use Rattle.orderer_node.specs.Remembering.{gone_on, gone_on_as}

module _ (config : Shape) where
  -- what a leader says next, as letters
  said_letters : (ballot : ℕ) (next : Next) → next_letters config ballot next ≡ announced config (next_said (to_ballot ballot) (as_next next))
  said_letters ballot (Propose slot value) = refl
  said_letters ballot (Window slot) = refl
  said_letters ballot Nothing = refl

  -- with letters before it
  pub said_before : (o new : Orderer) (leader : Leader) (before outputs : List Sent) → go_on config o leader [] ≡ told new outputs
      → go_on config o leader before ≡ told new (before ++ outputs)
  said_before o new leader before outputs e =
      let after = ap (λ (c : Change). c.after) e in
      let letters = ap (λ (c : Change). c.outputs) e in
      λ j. told (after j) (before ++ letters j)

  -- it goes on
  pub goes_on : (o : Orderer) (lead : Option Leader) (ballot : Ballot) → option_map led_ballot lead ≡ Some ballot
      → gone_on_as config (with_leader o lead) lead
      ≡ told (with_leader o (next_to config.orderers lead (length o.known) (wish_of config.replicas o.known o.heard o.wishes)).leader)
      (announced config (next_said ballot (next_to config.orderers lead (length o.known) (wish_of config.replicas o.known o.heard o.wishes)).answer))
  goes_on o None ballot e = absurd cc
  goes_on o (Some leader) ballot e =
      let same : to_ballot leader.ballot ≡ ballot = cc in
      let step = advance config.orderers leader (length o.known) (wish_of config.replicas o.known o.heard o.wishes) in
      ap (λ (l : List Sent). told (with_leader o (Some step.leader)) l) (said_letters leader.ballot step.next)
      ∙ ap (λ (b : Ballot). told (with_leader o (Some step.leader)) (announced config (next_said b (as_next step.next)))) same

  -- ---- a promise

  abbrev pub PromisedAs : Orderer → Change → Option Leader → Heard → Type 0
  PromisedAs o change lead (Counted answers) = change ≡ gone_on_as config (with_leader o lead) lead
  PromisedAs o change lead Unheard = change ≡ quiet (with_leader o lead)

  pub promised_as : (o : Orderer) (lead : Option Leader) (ballot slot who : ℕ) (votes : List Vote)
      → PromisedAs o (promised_to config (with_leader o lead) lead ballot slot who votes)
      (promise_to config.orderers lead ballot slot who votes).leader (promise_to config.orderers lead ballot slot who votes).answer
  promised_as o None ballot slot who votes = refl
  promised_as o (Some leader) ballot slot who votes =
      elim (awaits_promise leader ballot slot) as (λ b. PromisedAs o
      (cond b (go_on config (with_leader o (Some leader)) (with_promise leader who votes) []) (quiet (with_leader o (Some leader))))
      (cond {A = Answered Heard} b (record { answer = Counted (count_marks config.orderers (with_promise leader who votes).answered); leader = Some (with_promise leader who votes) }) (record { answer = Unheard; leader = Some leader })).leader
      (cond {A = Answered Heard} b (record { answer = Counted (count_marks config.orderers (with_promise leader who votes).answered); leader = Some (with_promise leader who votes) }) (record { answer = Unheard; leader = Some leader })).answer)
      [ true ↦ refl | false ↦ refl ]

  -- ---- an acceptance

  dropped_once : (pending : Option Pending) (slot : ℕ) → drop_pending pending slot ≡ drop_pending (drop_pending pending slot) slot
  dropped_once None slot = refl
  dropped_once (Some pending) slot = at (pending.slot == slot) refl
    where
      at : (b : Bool) → (pending.slot == slot) ≡ b → cond b None (Some pending) ≡ drop_pending (cond b None (Some pending)) slot
      at true e = refl
      at false e = sym (ap (λ c. cond c None (Some pending)) e)

  learned_once : (o : Orderer) (leader : Leader) (slot : ℕ) (value : Value)
      → learned (with_leader o (Some leader)) slot value ≡ learned (with_leader o (Some (without_slot leader slot))) slot value
  unfolding learned
  learned_once o leader slot value =
      ap (λ (p : Option Pending). let l : Leader = record leader { pending = p } in
      let after : Orderer = record (learned (with_leader o (Some leader)) slot value) { leader = Some l } in after) (dropped_once leader.pending slot)

  module _ (index : ℕ) where
    abbrev pub decides : Orderer → ℕ → Value → Change
    decides o slot value = decided_by config index o o.leader slot value

    abbrev pub AcceptedAs : Orderer → ℕ → Change → Option Leader → Counting → Type 0
    AcceptedAs o slot change lead (Chosen value) = change ≡ decides (learned (with_leader o lead) slot value) slot value
    AcceptedAs o slot change lead (NotYet votes) = change ≡ quiet (with_leader o lead)
    AcceptedAs o slot change lead NotPending = change ≡ quiet (with_leader o lead)

    counted_as : (o : Orderer) (leader : Leader) (pending : Pending)
        → AcceptedAs o pending.slot (counted config index (with_leader o (Some leader)) leader pending)
        (counted_answer config.orderers leader pending).leader (counted_answer config.orderers leader pending).answer
    counted_as o leader pending =
        elim (most config.orderers pending.accepted) as (λ b. AcceptedAs o pending.slot
        (cond b (decides (learned (with_leader o (Some leader)) pending.slot pending.value) pending.slot pending.value) (quiet (with_leader o (Some (record leader { pending = Some pending })))))
        (cond {A = Answered Counting} b (record { answer = Chosen pending.value; leader = Some (without_slot leader pending.slot) }) (record { answer = NotYet (count_marks config.orderers pending.accepted); leader = Some (record leader { pending = Some pending }) })).leader
        (cond {A = Answered Counting} b (record { answer = Chosen pending.value; leader = Some (without_slot leader pending.slot) }) (record { answer = NotYet (count_marks config.orderers pending.accepted); leader = Some (record leader { pending = Some pending }) })).answer)
        [ true ↦ ap (λ (p : Orderer). decides p pending.slot pending.value) (learned_once o leader pending.slot pending.value) | false ↦ refl ]

    for_as : (o : Orderer) (leader : Leader) (pending : Option Pending) (slot who : ℕ)
        → AcceptedAs o slot (accepted_for config index (with_leader o (Some leader)) leader pending slot who)
        (acceptance_for config.orderers leader pending slot who).leader (acceptance_for config.orderers leader pending slot who).answer
    for_as o leader None slot who = refl
    for_as o leader (Some pending) slot who = at (pending.slot == slot) refl
      where
        voted : Pending
        voted = with_acceptance pending who

        at : (b : Bool) → (pending.slot == slot) ≡ b → AcceptedAs o slot
            (cond b (counted config index (with_leader o (Some leader)) leader voted) (quiet (with_leader o (Some leader))))
            (cond b (counted_answer config.orderers leader voted) (not_pending (Some leader))).leader (cond b (counted_answer config.orderers leader voted) (not_pending (Some leader))).answer
        at true e = subst (λ (s : ℕ). AcceptedAs o s (counted config index (with_leader o (Some leader)) leader voted)
            (counted_answer config.orderers leader voted).leader (counted_answer config.orderers leader voted).answer) (eqb-true pending.slot slot e) (counted_as o leader voted)
        at false e = refl

    pub accepted_as : (o : Orderer) (lead : Option Leader) (ballot slot who : ℕ)
        → AcceptedAs o slot (accepted_to config index (with_leader o lead) lead ballot slot who)
        (acceptance_to config.orderers lead ballot slot who).leader (acceptance_to config.orderers lead ballot slot who).answer
    accepted_as o None ballot slot who = refl
    accepted_as o (Some leader) ballot slot who =
        elim (leader.ballot == ballot) as (λ b. AcceptedAs o slot
        (cond b (accepted_for config index (with_leader o (Some leader)) leader leader.pending slot who) (quiet (with_leader o (Some leader))))
        (cond b (acceptance_for config.orderers leader leader.pending slot who) (not_pending (Some leader))).leader
        (cond b (acceptance_for config.orderers leader leader.pending slot who) (not_pending (Some leader))).answer)
        [ true ↦ for_as o leader leader.pending slot who | false ↦ refl ]

    -- a decision, and what the leader says after it
    pub decided_said : (o new : Orderer) (slot : ℕ) (value : Value) (outputs : List Sent) → gone_on config o ≡ told new outputs
        → decides o slot value ≡ told new (to_learners config index (decide_message slot value) ++ outputs)
    decided_said o new slot value outputs e = at o.leader e
      where
        at : (lead : Option Leader) → gone_on_as config o lead ≡ told new outputs
            → decided_by config index o lead slot value ≡ told new (to_learners config index (decide_message slot value) ++ outputs)
        at None f =
            let after = ap (λ (c : Change). c.after) f in
            let letters = ap (λ (c : Change). c.outputs) f in
            let nothing : to_learners config index (decide_message slot value) ≡ to_learners config index (decide_message slot value) ++ [] =
            sym (append-nil (to_learners config index (decide_message slot value))) in
            ap (λ (l : List Sent). told o l) nothing ∙ (λ j. told (after j) (to_learners config index (decide_message slot value) ++ letters j))
        at (Some leader) f = said_before o new leader (to_learners config index (decide_message slot value)) outputs f

    -- ---- time passes

    abbrev pub AgainAs : Orderer → Change → Again → Type 0
    AgainAs o change (PrepareAgain ballot slot) = change ≡ told o (to_orderers config (prepare_message ballot.0 slot.0))
    AgainAs o change (AcceptAgain ballot slot value) = change ≡ told o (to_orderers config (accept_message ballot.0 slot.0 value))
    AgainAs o change Silent = change ≡ gone_on config o

    pending_as : (o : Orderer) (leader : Leader) (pending : Option Pending)
        → AgainAs (with_leader o (Some leader)) (tick_pending config (with_leader o (Some leader)) leader pending) (again_pending leader.ballot pending)
    pending_as o leader None = refl
    pending_as o leader (Some pending) = refl

    pub again_as : (o : Orderer) (leader : Leader) (asked : ℕ)
        → AgainAs (with_leader o (Some leader)) (tick_leader config index (with_leader o (Some leader)) (Some leader) asked) (again_to config.orderers leader)
    again_as o leader asked =
        elim (most config.orderers leader.answered) as (λ b. AgainAs (with_leader o (Some leader))
        (cond b (tick_pending config (with_leader o (Some leader)) leader leader.pending) (told (with_leader o (Some leader)) (to_orderers config (prepare_message leader.ballot leader.window))))
        (cond b (again_pending leader.ballot leader.pending) (PrepareAgain (to_ballot leader.ballot) (to_slot leader.window))))
        [ true ↦ pending_as o leader leader.pending | false ↦ refl ]

  -- ---- the rows, from what the calls answer

  pub promised_row : (o new : Orderer) (orderers ballot slot who answers : ℕ) (votes : List Vote) (answer : Heard) (lead : Option Leader) (outputs : List Sent)
      → orderers ≡ config.orderers → answer ≡ (promise_to orderers o.leader ballot slot who votes).answer → answer ≡ Counted answers
      → lead ≡ (promise_to orderers o.leader ballot slot who votes).leader → gone_on config (with_leader o lead) ≡ told new outputs
      → on_promised config o ballot slot who votes ≡ told new outputs
  unfolding on_promised
  promised_row o new orderers ballot slot who answers votes answer lead outputs n a is l e =
      let reply : (promise_to config.orderers o.leader ballot slot who votes).answer ≡ Counted answers =
      ap (λ (m : ℕ). (promise_to m o.leader ballot slot who votes).answer) (sym n) ∙ sym a ∙ is in
      let leads : (promise_to config.orderers o.leader ballot slot who votes).leader ≡ lead =
      ap (λ (m : ℕ). (promise_to m o.leader ballot slot who votes).leader) (sym n) ∙ sym l in
      let first = subst (λ (h : Heard). PromisedAs o (promised_to config o o.leader ballot slot who votes) (promise_to config.orderers o.leader ballot slot who votes).leader h) reply
      (promised_as o o.leader ballot slot who votes) in
      first ∙ ap (λ (l : Option Leader). gone_on config (with_leader o l)) leads ∙ e

  pub accepted_row : (index : ℕ) (o after new : Orderer) (orderers ballot slot who : ℕ) (value : Value) (answer : Counting) (lead : Option Leader) (outputs : List Sent)
      → orderers ≡ config.orderers → answer ≡ (acceptance_to orderers o.leader ballot slot who).answer → answer ≡ Chosen value
      → lead ≡ (acceptance_to orderers o.leader ballot slot who).leader → after ≡ learned (with_leader o lead) slot value → gone_on config after ≡ told new outputs
      → on_accepted config index o ballot slot who ≡ told new (to_learners config index (decide_message slot value) ++ outputs)
  unfolding on_accepted
  accepted_row index o after new orderers ballot slot who value answer lead outputs n a is l k e =
      let reply : (acceptance_to config.orderers o.leader ballot slot who).answer ≡ Chosen value =
      ap (λ (m : ℕ). (acceptance_to m o.leader ballot slot who).answer) (sym n) ∙ sym a ∙ is in
      let leads : (acceptance_to config.orderers o.leader ballot slot who).leader ≡ lead =
      ap (λ (m : ℕ). (acceptance_to m o.leader ballot slot who).leader) (sym n) ∙ sym l in
      let first = subst (λ (h : Counting). AcceptedAs index o slot (accepted_to config index o o.leader ballot slot who) (acceptance_to config.orderers o.leader ballot slot who).leader h) reply
      (accepted_as index o o.leader ballot slot who) in
      first ∙ ap (λ (l : Option Leader). decides index (learned (with_leader o l) slot value) slot value) leads
      ∙ ap (λ (p : Orderer). decides index p slot value) (sym k) ∙ decided_said index after new slot value outputs e

  pub again_row : (index : ℕ) (o : Orderer) (orderers asked : ℕ) (answer : Again) → orderers ≡ config.orderers → answer ≡ again_by orderers o.leader → IsSome o.leader
      → AgainAs index o (tick_leader config index o o.leader asked) answer
  again_row index o orderers asked answer n a some = at o.leader refl some a
    where
      at : (lead : Option Leader) → o.leader ≡ lead → IsSome lead → answer ≡ again_by orderers lead → AgainAs index o (tick_leader config index o lead asked) answer
      at None l s e = absurd (cc)
      at (Some leader) l s e =
          let reply : again_to config.orderers leader ≡ answer = ap (λ (m : ℕ). again_to m leader) (sym n) ∙ sym e in
          let same : with_leader o (Some leader) ≡ o = ap (λ (l : Option Leader). with_leader o l) (sym l) in
          subst (λ (p : Orderer). AgainAs index p (tick_leader config index p (Some leader) asked) answer) same
          (subst (λ (h : Again). AgainAs index (with_leader o (Some leader)) (tick_leader config index (with_leader o (Some leader)) (Some leader) asked) h) reply (again_as index o leader asked))
