-- The rows of a leader and of a learner: promises and acceptances that come in, decisions, and time.
use Rattle.std.proofs.Common.{◌≡◌, ◌<◌, ◌≤◌, ◌%◌, ℕ, zero, suc, Bool, true, false, cond, ◌==◌, List, [], ◌∷◌, length, slice_get, Option, Some, None, refl, sym, subst, ⊎_elim, arith, eqb-true, ◌∙◌}
use Rattle.std.proofs.lemmas.Bool.{and_parts, cond_both}
use Rattle.history_frame.specs.declared.events.Sent.{Sent}
use Rattle.log_base.specs.ClusterShape.{Shape}
use Rattle.message_frame.specs.declared.messages.Vote.{Vote}
use Rattle.record_frame.specs.declared.values.Value.{Value}
use Rattle.paxos_model.specs.Leader.{Leader, Pending, awaits_promise, with_acceptance, with_promise}
use Rattle.paxos_model.specs.Majority.{most}
use Rattle.paxos_model.specs.Votes.{Payload, promised, vote_of, votes}
use Rattle.node_table.specs.Numbering.{orderer_node}
use Rattle.node_model.specs.Messages.{accept_message, decide_message, prepare_message, want_message}
use Rattle.node_model.specs.Marks.{Running}
use Rattle.node_model.specs.Nodes.{letter, to_learners, to_orderers}
use Rattle.node_model.specs.OrdererNode.{Orderer}
use Rattle.node_model.specs.OrdererRow.{accepted_for, accepted_to, counted, decide_letter, decide_letters, decided_by, go_on, learned, lowered, on_accepted, on_lower, on_promised, on_tick, on_want, one_tick, promised_to, quiet, tick_leader, tick_pending, told, with_leader}
use Rattle.agreement_law.specs.Elements.{In, IsIn}
use Rattle.agreement_law.specs.Invariant.{AreChosen, AreFilled, AreProposed, Global, IsBegun, IsGoodLead, IsGoodLeader, IsGoodOrderer, IsGoodPending, IsGoodPromised, IsGoodProposal, IsTrueMessage}
use Rattle.agreement_law.proofs.Elements.{got_is_in, in_append, is_in_below}
use Rattle.agreement_law.proofs.Grows.{Grow, message_grows}
use Rattle.agreement_law.proofs.Learn.{acceptance_good, known_filled, learned_good, majority_chosen, promise_good, waiting_good}
use Rattle.agreement_law.proofs.Moves.{Here, Moves, RowKeeps, go_on_moves, here_grows, in_to_learners, in_to_orderers, one_true, same_moves, still_row, true_as}
use Rattle.agreement_law.proofs.Voting.{quiet_keeps}

pub leader_here : (n : ℕ) (lists : ℕ → List Payload) (ps : List Vote) (i : ℕ) (o : Orderer) (l : Leader) → Here n lists ps i o → o.leader ≡ Some l
    → IsGoodLeader n lists ps i (length o.known) l
leader_here n lists ps i o l h e = subst (λ x. IsGoodLead n lists ps i (length o.known) x) e h.self.leads

-- a row that sends some letters and whose memory is good
told_keeps : (n : ℕ) (lists : ℕ → List Payload) (ps : List Vote) (i : ℕ) (o after : Orderer) (outs : List Sent)
    → ((now : ℕ → List Payload) → Grow ps lists now → Global n now ps × IsGoodOrderer n now ps i after × ((s : Sent) → In s outs → IsTrueMessage n now ps s.message))
    → RowKeeps n lists ps i (told after outs)
told_keeps n lists ps i o after outs f = still_row n lists ps i (told after outs) refl
    (λ now g. let r = f now g in same_moves n now ps i (Running after) outs r.0 r.1 r.2)

-- Promised
pub promised_keeps : (shape : Shape) (lists : ℕ → List Payload) (ps : List Vote) (i : ℕ) (o : Orderer) → Here shape.orderers lists ps i o
    → (b f who : ℕ) (vs : List Vote) → IsGoodPromised (lists who) b f vs → AreProposed ps vs
    → RowKeeps shape.orderers lists ps i (on_promised shape o b f who vs)
unfolding on_promised
promised_keeps shape lists ps i o h b f who vs told real = at o.leader refl
  where
    heard : (l : Leader) → o.leader ≡ Some l → awaits_promise l b f ≡ true → RowKeeps shape.orderers lists ps i (go_on shape o (with_promise l who vs) [])
    heard l e t =
        let parts = and_parts _ _ t in
        let ballot : l.ballot ≡ b = eqb-true l.ballot b parts.0 in
        let window : l.window ≡ f = eqb-true l.window f parts.1 in
        let mine : IsGoodPromised (lists who) l.ballot l.window vs = subst (λ (x : ℕ × ℕ). IsGoodPromised (lists who) x.0 x.1 vs) (λ j. (sym ballot j, sym window j)) told in
        still_row shape.orderers lists ps i (go_on shape o (with_promise l who vs) []) refl
        (λ now g.
        let later = here_grows shape.orderers lists ps i o h now g in
        let grown : IsGoodPromised (now who) l.ballot l.window vs = record {
          reached = omega (arith, mine.reached, (g who).further);
          listed = mine.listed ∙ sym ((g who).stays l.ballot l.window 64 mine.reached);
        } in
        go_on_moves shape now ps i o (with_promise l who vs) [] later.global later.self.chosen
        (promise_good shape.orderers now ps i (length o.known) who l vs (leader_here shape.orderers now ps i o l later e) grown real)
        (λ s a. absurd a))

    at : (x : Option Leader) → o.leader ≡ x → RowKeeps shape.orderers lists ps i (promised_to shape o x b f who vs)
    at None e = quiet_keeps shape.orderers lists ps i o h
    at (Some l) e =
        cond_both (awaits_promise l b f) (go_on shape o (with_promise l who vs) []) (quiet o) (λ c. RowKeeps shape.orderers lists ps i c)
        (λ t. heard l e t) (λ t. quiet_keeps shape.orderers lists ps i o h)

lowered_good : (n : ℕ) (lists : ℕ → List Payload) (ps : List Vote) (i k b : ℕ) (l : Option Leader) → IsGoodLead n lists ps i k l → IsGoodLead n lists ps i k (lowered l b)
lowered_good n lists ps i k b None h = tt
lowered_good n lists ps i k b (Some l) h = cond_both (l.ballot == b) None (Some l) (λ x. IsGoodLead n lists ps i k x) (λ e. tt) (λ e. h)

-- Lower
pub lower_keeps : (n : ℕ) (lists : ℕ → List Payload) (ps : List Vote) (i : ℕ) (o : Orderer) → Here n lists ps i o → (b : ℕ) → RowKeeps n lists ps i (on_lower o b)
unfolding on_lower
lower_keeps n lists ps i o h b = told_keeps n lists ps i o (with_leader o (lowered o.leader b)) []
    (λ now g.
    let later = here_grows n lists ps i o h now g in
    (later.global, record { chosen = later.self.chosen; leads = lowered_good n now ps i (length o.known) b o.leader later.self.leads }, λ s a. absurd a))

-- a known value may be told
known_true : (n : ℕ) (lists : ℕ → List Payload) (ps : List Vote) (known : List Value) → AreChosen n lists known → (k : ℕ) (v : Value) → IsIn known k v → IsTrueMessage n lists ps (decide_message k v)
known_true n lists ps known h k v a =
    let below : k < length known = is_in_below known k v a in
    (h k v a, known_filled n lists known h k (omega arith))

-- Decide
pub decide_keeps : (n : ℕ) (lists : ℕ → List Payload) (ps : List Vote) (i : ℕ) (o : Orderer) → Here n lists ps i o → (k : ℕ) (v : Value)
    → IsTrueMessage n lists ps (decide_message k v) → RowKeeps n lists ps i (quiet (learned o k v))
decide_keeps n lists ps i o h k v true_now = told_keeps n lists ps i o (learned o k v) []
    (λ now g.
    let later = here_grows n lists ps i o h now g in
    let told = message_grows n ps lists now g (decide_message k v) true_now in
    (later.global, learned_good n now ps i o k v later.self told.0, λ s a. absurd a))

-- the last acceptance
decided_moves : (shape : Shape) (lists : ℕ → List Payload) (ps : List Vote) (i : ℕ) (o : Orderer) (l : Option Leader) → o.leader ≡ l
    → Global shape.orderers lists ps → IsGoodOrderer shape.orderers lists ps i o → (k : ℕ) (v : Value) → IsTrueMessage shape.orderers lists ps (decide_message k v)
    → Moves shape.orderers lists ps i (Running (decided_by shape i o l k v).after) (decided_by shape i o l k v).outputs
decided_moves shape lists ps i o None e g h k v sure =
    same_moves shape.orderers lists ps i (Running o) (to_learners shape i (decide_message k v)) g h
    (λ s a. true_as shape.orderers lists ps (decide_message k v) s (in_to_learners shape i (decide_message k v) s a) sure)
decided_moves shape lists ps i o (Some l) e g h k v sure =
    go_on_moves shape lists ps i o l (to_learners shape i (decide_message k v)) g h.chosen
    (subst (λ x. IsGoodLead shape.orderers lists ps i (length o.known) x) e h.leads)
    (λ s a. true_as shape.orderers lists ps (decide_message k v) s (in_to_learners shape i (decide_message k v) s a) sure)

no_put : (shape : Shape) (i : ℕ) (o : Orderer) (l : Option Leader) (k : ℕ) (v : Value) → (decided_by shape i o l k v).put ≡ None
no_put shape i o None k v = refl
no_put shape i o (Some l) k v = refl

counted_keeps : (shape : Shape) (lists : ℕ → List Payload) (ps : List Vote) (i : ℕ) (o : Orderer) → Here shape.orderers lists ps i o
    → (l : Leader) → o.leader ≡ Some l → (p : Pending) → l.pending ≡ Some p → (who : ℕ) (u : Value) → In (vote_of l.ballot p.slot u) (votes (lists who))
    → RowKeeps shape.orderers lists ps i (counted shape i o l (with_acceptance p who))
counted_keeps shape lists ps i o h l e p f who u vote =
    cond_both (most shape.orderers q.accepted) (decided_by shape i after after.leader q.slot q.value) (quiet (with_leader o (Some (record l { pending = Some q }))))
    (λ c. RowKeeps shape.orderers lists ps i c)
    (λ t. still_row shape.orderers lists ps i (decided_by shape i after after.leader q.slot q.value) (no_put shape i after after.leader q.slot q.value)
    (λ now g.
    let later = here_grows shape.orderers lists ps i o h now g in
    let chosen = majority_chosen shape.orderers now ps l.ballot (length o.known) q (good now g later) t in
    let filled : AreFilled shape.orderers now q.slot = known_filled shape.orderers now o.known later.self.chosen q.slot (omega (arith, (good now g later).next)) in
    decided_moves shape now ps i after after.leader refl later.global (learned_good shape.orderers now ps i o q.slot q.value later.self chosen) q.slot q.value (chosen, filled)))
    (λ t. told_keeps shape.orderers lists ps i o (with_leader o (Some (record l { pending = Some q }))) []
    (λ now g.
    let later = here_grows shape.orderers lists ps i o h now g in (
      later.global,
      record { chosen = later.self.chosen; leads = waiting_good shape.orderers now ps i (length o.known) l p q f refl (leader_here shape.orderers now ps i o l later e) (good now g later) },
      λ s a. absurd a,
    )))
  where
    q : Pending
    q = with_acceptance p who

    after : Orderer
    after = learned o p.slot p.value

    good : (now : ℕ → List Payload) → Grow ps lists now → Here shape.orderers now ps i o → IsGoodProposal now ps l.ballot (length o.known) (with_acceptance p who)
    good now g later =
        let waits = subst (λ x. IsGoodPending now ps l.ballot (length o.known) x) f (leader_here shape.orderers now ps i o l later e).waits in
        acceptance_good shape.orderers now ps l.ballot (length o.known) who p later.global waits u ((g who).kept (vote_of l.ballot p.slot u) vote)

-- Accepted
pub accepted_keeps : (shape : Shape) (lists : ℕ → List Payload) (ps : List Vote) (i : ℕ) (o : Orderer) → Here shape.orderers lists ps i o
    → (b k who : ℕ) (u : Value) → In (vote_of b k u) (votes (lists who)) → RowKeeps shape.orderers lists ps i (on_accepted shape i o b k who)
unfolding on_accepted
accepted_keeps shape lists ps i o h b k who u vote = at o.leader refl
  where
    nothing : RowKeeps shape.orderers lists ps i (quiet o)
    nothing = quiet_keeps shape.orderers lists ps i o h

    waiting : (l : Leader) → o.leader ≡ Some l → l.ballot ≡ b → (x : Option Pending) → l.pending ≡ x → RowKeeps shape.orderers lists ps i (accepted_for shape i o l x k who)
    waiting l e same None f = nothing
    waiting l e same (Some p) f =
        cond_both (p.slot == k) (counted shape i o l (with_acceptance p who)) (quiet o) (λ c. RowKeeps shape.orderers lists ps i c)
        (λ t.
        let slot : p.slot ≡ k = eqb-true p.slot k t in
        counted_keeps shape lists ps i o h l e p f who u
        (subst (λ (x : ℕ × ℕ). In (vote_of x.0 x.1 u) (votes (lists who))) (λ j. (sym same j, sym slot j)) vote))
        (λ t. nothing)

    at : (x : Option Leader) → o.leader ≡ x → RowKeeps shape.orderers lists ps i (accepted_to shape i o x b k who)
    at None e = nothing
    at (Some l) e =
        cond_both (l.ballot == b) (accepted_for shape i o l l.pending k who) (quiet o) (λ c. RowKeeps shape.orderers lists ps i c)
        (λ t. waiting l e (eqb-true l.ballot b t) l.pending refl) (λ t. nothing)

decide_letter_true : (n : ℕ) (lists : ℕ → List Payload) (ps : List Vote) (known : List Value) → AreChosen n lists known → (node k : ℕ) (v : Option Value) → slice_get known k ≡ v
    → (s : Sent) → In s (decide_letter node k v) → IsTrueMessage n lists ps s.message
decide_letter_true n lists ps known h node k None e s a = absurd a
decide_letter_true n lists ps known h node k (Some v) e s a =
    one_true n lists ps (letter node (decide_message k v)) (known_true n lists ps known h k v (got_is_in known k v e)) s a

decide_letters_true : (n : ℕ) (lists : ℕ → List Payload) (ps : List Vote) (known : List Value) → AreChosen n lists known → (node k count : ℕ)
    → (s : Sent) → In s (decide_letters node known k count) → IsTrueMessage n lists ps s.message
decide_letters_true n lists ps known h node k zero s a = absurd a
decide_letters_true n lists ps known h node k (suc count) s a =
    ⊎_elim
    (λ c. decide_letter_true n lists ps known h node k (slice_get known k) refl s c)
    (λ c. decide_letters_true n lists ps known h node (suc k) count s c)
    (in_append s (decide_letter node k (slice_get known k)) (decide_letters node known (suc k) count) a)

-- Want
pub want_keeps : (n : ℕ) (lists : ℕ → List Payload) (ps : List Vote) (i : ℕ) (o : Orderer) → Here n lists ps i o → (k node : ℕ) → RowKeeps n lists ps i (on_want o k node)
unfolding on_want
want_keeps n lists ps i o h k node = told_keeps n lists ps i o o (decide_letters node o.known k 16)
    (λ now g.
    let later = here_grows n lists ps i o h now g in
    (later.global, later.self, λ s a. decide_letters_true n now ps o.known later.self.chosen node k 16 s a))

ticked : (n : ℕ) (lists : ℕ → List Payload) (ps : List Vote) (i : ℕ) (o : Orderer) → Here n lists ps i o → Here n lists ps i (one_tick o)
ticked n lists ps i o h = record { global = h.global; self = record { chosen = h.self.chosen; leads = h.self.leads } }

want_true : (shape : Shape) (lists : ℕ → List Payload) (ps : List Vote) (i asked k : ℕ) (t : Bool) (s : Sent)
    → In {A = Sent} s (cond t [] (letter (orderer_node shape asked) (want_message k (orderer_node shape i)) ∷ [])) → IsTrueMessage shape.orderers lists ps s.message
want_true shape lists ps i asked k true s a = absurd a
want_true shape lists ps i asked k false s a = one_true shape.orderers lists ps (letter (orderer_node shape asked) (want_message k (orderer_node shape i))) tt s a

-- Tick
pub tick_keeps : (shape : Shape) (lists : ℕ → List Payload) (ps : List Vote) (i : ℕ) (o : Orderer) → Here shape.orderers lists ps i o
    → RowKeeps shape.orderers lists ps i (on_tick shape i o)
unfolding on_tick
tick_keeps shape lists ps i o h = at o.leader refl
  where
    p : Orderer
    p = one_tick o

    here : Here shape.orderers lists ps i (one_tick o)
    here = ticked shape.orderers lists ps i o h

    asked : ℕ
    asked = o.ticks % shape.orderers

    pending : (l : Leader) → o.leader ≡ Some l → (x : Option Pending) → l.pending ≡ x → RowKeeps shape.orderers lists ps i (tick_pending shape (one_tick o) l x)
    pending l e None f =
        still_row shape.orderers lists ps i (go_on shape (one_tick o) l []) refl
        (λ now g.
        let later = here_grows shape.orderers lists ps i (one_tick o) here now g in
        go_on_moves shape now ps i (one_tick o) l [] later.global later.self.chosen (leader_here shape.orderers now ps i (one_tick o) l later e) (λ s a. absurd a))
    pending l e (Some q) f =
        told_keeps shape.orderers lists ps i o (one_tick o) (to_orderers shape (accept_message l.ballot q.slot q.value))
        (λ now g.
        let later = here_grows shape.orderers lists ps i (one_tick o) here now g in
        let waits = subst (λ x. IsGoodPending now ps l.ballot (length o.known) x) f (leader_here shape.orderers now ps i (one_tick o) l later e).waits in (
          later.global,
          later.self,
          λ s a. true_as shape.orderers now ps (accept_message l.ballot q.slot q.value) s (in_to_orderers shape (accept_message l.ballot q.slot q.value) s a) waits.proposed,
        ))

    again : (l : Leader) → o.leader ≡ Some l → RowKeeps shape.orderers lists ps i (told (one_tick o) (to_orderers shape (prepare_message l.ballot l.window)))
    again l e =
        told_keeps shape.orderers lists ps i o (one_tick o) (to_orderers shape (prepare_message l.ballot l.window))
        (λ now g.
        let later = here_grows shape.orderers lists ps i (one_tick o) here now g in
        let good = leader_here shape.orderers now ps i (one_tick o) l later e in
        let begun : IsBegun shape.orderers now l.ballot = subst (λ j. l.ballot ≤ promised (now j)) (sym good.mine) good.reached in (
          later.global,
          later.self,
          λ s a. true_as shape.orderers now ps (prepare_message l.ballot l.window) s (in_to_orderers shape (prepare_message l.ballot l.window) s a) begun,
        ))

    at : (x : Option Leader) → o.leader ≡ x → RowKeeps shape.orderers lists ps i (tick_leader shape i (one_tick o) x (o.ticks % shape.orderers))
    at None e =
        told_keeps shape.orderers lists ps i o (one_tick o) (cond (o.ticks % shape.orderers == i) [] (letter (orderer_node shape (o.ticks % shape.orderers)) (want_message (length o.known) (orderer_node shape i)) ∷ []))
        (λ now g.
        let later = here_grows shape.orderers lists ps i (one_tick o) here now g in
        (later.global, later.self, λ s a. want_true shape now ps i (o.ticks % shape.orderers) (length o.known) (o.ticks % shape.orderers == i) s a))
    at (Some l) e =
        cond_both (most shape.orderers l.answered) (tick_pending shape (one_tick o) l l.pending) (told (one_tick o) (to_orderers shape (prepare_message l.ballot l.window)))
        (λ c. RowKeeps shape.orderers lists ps i c)
        (λ t. pending l e l.pending refl) (λ t. again l e)
