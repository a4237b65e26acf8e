-- Each row keeps values fine.
use Rattle.std.proofs.Common.{◌≡◌, ◌+◌, ◌-◌, ◌*◌, ◌%◌, ◌^◌, ◌⊎◌, ℕ, zero, suc, Bool, true, false, cond, ◌==◌, nat_le, nat_lt, List, [], ◌∷◌, ◌++◌, length, drop, slice_get, slice_index_or, is_some, Option, Some, None, refl, sym, ap, subst, inl, inr, ⊎_elim}
use Rattle.std.specs.List.{filter, list_any}
use Rattle.std.proofs.lemmas.Bool.{cond_both}
use Rattle.reply_frame.specs.declared.replies.Reply.{NoSuchShard, Nothing as Silence, Taken as TakenWish}
use Rattle.history_frame.specs.declared.events.Sent.{Sent}
use Rattle.history_frame.specs.declared.inputs.Call.{Call}
use Rattle.history_frame.specs.declared.inputs.Call.TheVariants.{Ask, Read, Request, Settled, Submit}
use Rattle.history_frame.specs.declared.inputs.Input.{Input}
use Rattle.history_frame.specs.declared.inputs.Input.TheVariants.{Call as ACall, Deliver, Lead, Restart, Stop, Tick}
use Rattle.log_base.specs.ClusterShape.{Shape}
use Rattle.message_frame.specs.declared.messages.Message.{Message}
use Rattle.message_frame.specs.declared.messages.Message.TheVariants.{Accept, Accepted, Copy, CopyAck, Decide, Least, Lower, Prepare, Promised, Report, Want}
use Rattle.message_frame.specs.declared.messages.Vote.{Vote}
use Rattle.record_frame.specs.declared.values.Lengths.{Lengths}
use Rattle.record_frame.specs.declared.values.Value.{Value}
use Rattle.record_frame.specs.declared.values.Value.TheVariants.{Cut, Noop}
use Rattle.paxos_model.specs.Acceptor.{Accepted as Answered, Granted, Promised as Promising, Refused, Taken, TooLow, accept, prepare}
use Rattle.paxos_model.specs.Leader.{Advanced, Leader, Next, Nothing, Pending, Propose, Window, advance, awaits_promise, ballot_above, bound_value, drop_pending, is_of_slot, leader_from, merge, next_of, next_unless, picked, propose, slot_limit, with_acceptance, with_promise}
use Rattle.paxos_model.specs.Learner.{Wish, cut_wish, is_empty, is_left, learn, left_wishes, raise, wish_of}
use Rattle.paxos_model.specs.Majority.{most}
use Rattle.paxos_model.specs.Votes.{Payload, Promise, Voted, greatest, has_vote, promised, reports, vote_of, votes}
use Rattle.log_model.specs.Chain.{chain_of, covered_by}
use Rattle.node_table.specs.Numbering.{orderer_node}
use Rattle.node_model.specs.Messages.{accept_message, accepted_message, decide_message, lower_message, prepare_message, promised_message, want_message}
use Rattle.node_model.specs.Nodes.{letter, to_learners, to_orderers}
use Rattle.node_model.specs.OrdererNode.{Change, Orderer}
use Rattle.node_model.specs.OrdererRow.{accept_answer, accepted_for, accepted_to, answered, call_row, counted, decide_letter, decide_letters, decided_by, finalises_unknown, go_on, leader_after, learned, lowered, message_row, next_letters, on_accept, on_accepted, on_lead, on_least, on_lower, on_prepare, on_promised, on_request, on_settled, on_tick, on_want, one_tick, prepare_answer, promised_to, quiet, request_to, row, tick_leader, tick_pending, to_owner, told, with_leader}
use Rattle.agreement_law.specs.Elements.{In}
use Rattle.agreement_law.specs.Fine.{AreFine, AreFineLetters, AreFineVotes, IsFineCall, IsFineInput, IsFineLead, IsFineLeader, IsFineMessage, IsFineOrderer, IsFinePayload, IsFinePending}
use Rattle.agreement_law.proofs.Elements.{got_in, in_append}
use Rattle.agreement_law.proofs.Greatest.{greatest_from, keep_from, nth-no_votes, reports_from}
use Rattle.agreement_law.proofs.Moves.{in_to_learners, in_to_orderers}
use Rattle.node_model.proofs.Turning.{ForSome}

-- a row: what it puts, what stands after it and what it sends is fine
pub record IsFineChange (shape : Shape) (F : Value → Type 0) (c : Change) : Type 0 where
  pub put : IsFinePayload F c.put
  pub after : IsFineOrderer F c.after
  pub letters : AreFineLetters shape F c.outputs

merged : (F : Value → Type 0) (s : ℕ) (os : List (Option Vote)) (vs : List Vote) → ((j : ℕ) (x : Vote) → slice_index_or os j None ≡ Some x → F x.value) → AreFineVotes F vs
    → (j : ℕ) (x : Vote) → slice_index_or (merge s os vs) j None ≡ Some x → F x.value
unfolding merge
merged F s [] vs old new j x e = absurd (cc)
merged F s (o ∷ os) vs old new zero x e =
    ⊎_elim (λ a. old 0 x a) (λ a. new x (greatest_from (is_of_slot s) vs x a).0) (keep_from o (greatest (is_of_slot s) vs) x e)
merged F s (o ∷ os) vs old new (suc j) x e = merged F (suc s) os vs (λ k y a. old (suc k) y a) new j x e

kept_by : {A : Type 0} (t : A → Bool) (xs : List A) (x : A) → In x (filter t xs) → In x xs
kept_by t [] x a = a
kept_by {A} t (y ∷ xs) x a = at (kept_by t xs x) (t y) a
  where
    at : (In x (filter t xs) → In x xs) → (b : Bool) → In {A = A} x (cond b (y ∷ filter t xs) (filter t xs)) → (x ≡ y) ⊎ In x xs
    at rest true (inl e) = inl e
    at rest true (inr c) = inr (rest c)
    at rest false c = inr (rest c)

pub no_letters : (shape : Shape) (F : Value → Type 0) → AreFineLetters shape F []
no_letters shape F s a = absurd a

as_sent : (shape : Shape) (F : Value → Type 0) (m : Message) (s : Sent) → s.message ≡ m → IsFineMessage shape F m → IsFineMessage shape F s.message
as_sent shape F m s e h = subst (λ w. IsFineMessage shape F w) (sym e) h

one_letter : (shape : Shape) (F : Value → Type 0) (t : Sent) → IsFineMessage shape F t.message → AreFineLetters shape F (t ∷ [])
one_letter shape F t h s (inl e) = as_sent shape F t.message s (ap (λ (w : Sent). w.message) e) h
one_letter shape F t h s (inr a) = absurd a

all_orderers : (shape : Shape) (F : Value → Type 0) (m : Message) → IsFineMessage shape F m → AreFineLetters shape F (to_orderers shape m)
all_orderers shape F m h s a = as_sent shape F m s (in_to_orderers shape m s a) h

all_learners : (shape : Shape) (F : Value → Type 0) (i : ℕ) (m : Message) → IsFineMessage shape F m → AreFineLetters shape F (to_learners shape i m)
all_learners shape F i m h s a = as_sent shape F m s (in_to_learners shape i m s a) h

both_letters : (shape : Shape) (F : Value → Type 0) (xs ys : List Sent) → AreFineLetters shape F xs → AreFineLetters shape F ys → AreFineLetters shape F (xs ++ ys)
both_letters shape F xs ys f g s a = ⊎_elim (λ b. f s b) (λ b. g s b) (in_append s xs ys a)

-- the leader goes on
abbrev IsFineWish : (Value → Type 0) → Option Value → Type 0
IsFineWish F None = Unit {0}
IsFineWish F (Some v) = F v

abbrev IsFineNext : (Value → Type 0) → Next → Type 0
IsFineNext F (Propose k v) = F v
IsFineNext F (Window k) = Unit {0}
IsFineNext F Nothing = Unit {0}

record IsFineStep (F : Value → Type 0) (s : Advanced) : Type 0 where
  leader : IsFineLeader F s.leader
  next : IsFineNext F s.next

fresh_leader : (F : Value → Type 0) (b k : ℕ) → IsFineLeader F (leader_from b k)
fresh_leader F b k = record { best = λ j x e. absurd (let n = nth-no_votes j in cc); waits = tt }

bound_fine : (F : Value → Type 0) → F Noop → (o : Option Vote) (later : Bool) (wish : Option Value) → ((x : Vote) → o ≡ Some x → F x.value) → IsFineWish F wish → IsFineWish F (bound_value o later wish)
bound_fine F noop (Some x) later wish f w = f x refl
bound_fine F noop None true wish f w = noop
bound_fine F noop None false wish f w = w

propose_fine : (F : Value → Type 0) (l : Leader) (k : ℕ) (o : Option Value) → IsFineLeader F l → IsFineWish F o → IsFineStep F (propose l k o)
propose_fine F l k None h w = record { leader = h; next = tt }
propose_fine F l k (Some v) h w = record { leader = record { best = h.best; waits = w }; next = w }

next_fine : (F : Value → Type 0) → F Noop → (l : Leader) (k : ℕ) (wish : Option Value) → IsFineLeader F l → IsFineWish F wish → IsFineStep F (next_of l k wish)
next_fine F noop l k wish h w =
    cond_both (nat_le slot_limit k) (record { leader = l; next = Nothing }) rest (IsFineStep F)
    (λ e. record { leader = h; next = tt })
    (λ e. cond_both (nat_le (l.window + 64) k) (record { leader = leader_from l.ballot k; next = Window k }) (propose l k (picked l.best (k - l.window) wish)) (IsFineStep F)
    (λ f. record { leader = fresh_leader F l.ballot k; next = tt })
    (λ f. propose_fine F l k (picked l.best (k - l.window) wish) h
    (bound_fine F noop (slice_index_or l.best (k - l.window) None) (list_any is_some (drop (suc (k - l.window)) l.best)) wish (λ x g. h.best (k - l.window) x g) w)))
  where
    rest : Advanced
    rest = cond (nat_le (l.window + 64) k) (record { leader = leader_from l.ballot k; next = Window k }) (propose l k (picked l.best (k - l.window) wish))

unless_fine : (F : Value → Type 0) → F Noop → (p : Option Pending) (l : Leader) (k : ℕ) (wish : Option Value) → IsFineLeader F l → IsFineWish F wish → IsFineStep F (next_unless p l k wish)
unless_fine F noop None l k wish h w = next_fine F noop l k wish h w
unless_fine F noop (Some p) l k wish h w = record { leader = h; next = tt }

advance_fine : (F : Value → Type 0) → F Noop → (n : ℕ) (l : Leader) (k : ℕ) (wish : Option Value) → IsFineLeader F l → IsFineWish F wish → IsFineStep F (advance n l k wish)
unfolding advance
advance_fine F noop n l k wish h w =
    cond_both (most n l.answered) (next_unless l.pending l k wish) (record { leader = l; next = Nothing }) (IsFineStep F)
    (λ e. unless_fine F noop l.pending l k wish h w) (λ e. record { leader = h; next = tt })

cut_fine : (F : Value → Type 0) (replicas : ℕ) (known : List Value) (heard : Lengths) → F (Cut heard) → IsFineWish F (cut_wish replicas known heard)
unfolding cut_wish
cut_fine F replicas known heard h =
    cond_both (is_empty (covered_by replicas (chain_of replicas known) (Cut heard))) None (Some (Cut heard)) (IsFineWish F) (λ e. tt) (λ e. h)

wish_fine : (F : Value → Type 0) (replicas : ℕ) (known : List Value) (heard : Lengths) (ws : List Wish) → F (Cut heard) → ((w : Wish) → In w ws → F w.value) → IsFineWish F (wish_of replicas known heard ws)
wish_fine F replicas known heard [] h f = cut_fine F replicas known heard h
wish_fine F replicas known heard (w ∷ ws) h f = f w (inl refl)

letters_fine : (shape : Shape) (F : Value → Type 0) (b : ℕ) (next : Next) → IsFineNext F next → AreFineLetters shape F (next_letters shape b next)
letters_fine shape F b (Propose k v) h = all_orderers shape F (accept_message b k v) h
letters_fine shape F b (Window k) h = all_orderers shape F (prepare_message b k) tt
letters_fine shape F b Nothing h = no_letters shape F

module _ (shape : Shape) (F : Value → Type 0) (noop : F Noop) where
  go_on_fine : (o : Orderer) (l : Leader) (before : List Sent) → IsFineOrderer F o → IsFineLeader F l → AreFineLetters shape F before → IsFineChange shape F (go_on shape o l before)
  go_on_fine o l before h g f =
      let wish = wish_of shape.replicas o.known o.heard o.wishes in
      let step = advance_fine F noop shape.orderers l (length o.known) wish g (wish_fine F shape.replicas o.known o.heard o.wishes h.hears h.wants) in
      record {
        put = tt;
        after = record { knows = h.knows; hears = h.hears; wants = h.wants; leads = step.leader };
        letters = both_letters shape F before (next_letters shape l.ballot (advance shape.orderers l (length o.known) wish).next) f
            (letters_fine shape F l.ballot (advance shape.orderers l (length o.known) wish).next step.next);
      }

  -- nothing put, and some letters
  says : (o : Orderer) (outs : List Sent) → IsFineOrderer F o → AreFineLetters shape F outs → IsFineChange shape F (told o outs)
  says o outs h f = record { put = tt; after = h; letters = f }

  with_lead : (o : Orderer) (l : Option Leader) → IsFineOrderer F o → IsFineLead F l → IsFineOrderer F (with_leader o l)
  with_lead o l h g = record { knows = h.knows; hears = h.hears; wants = h.wants; leads = g }

  dropped_fine : (p : Option Pending) (k : ℕ) → IsFinePending F p → IsFinePending F (drop_pending p k)
  dropped_fine None k h = tt
  dropped_fine (Some p) k h = cond_both (p.slot == k) None (Some p) (IsFinePending F) (λ e. tt) (λ e. h)

  leader_after_fine : (l : Option Leader) (k : ℕ) → IsFineLead F l → IsFineLead F (leader_after l k)
  leader_after_fine None k h = tt
  leader_after_fine (Some l) k h = record { best = h.best; waits = dropped_fine l.pending k h.waits }

  learn_fine : (known : List Value) (k : ℕ) (v : Value) → AreFine F known → F v → AreFine F (learn known k v)
  unfolding learn
  learn_fine known k v h f =
      cond_both (k == length known) (known ++ v ∷ []) known (AreFine F)
      (λ e. λ u a. ⊎_elim (λ b. h u b) (λ b. ⊎_elim (λ c. subst F (sym c) f) (λ c. absurd c) b) (in_append u known (v ∷ []) a))
      (λ e. h)

  left_fine : (ws : List Wish) (k : ℕ) (v : Value) → ((w : Wish) → In w ws → F w.value) → (w : Wish) → In w (left_wishes ws k v) → F w.value
  unfolding left_wishes
  left_fine ws k v h w a = h w (kept_by (is_left k v) ws w a)

  learned_fine : (o : Orderer) (k : ℕ) (v : Value) → IsFineOrderer F o → F v → IsFineOrderer F (learned o k v)
  unfolding learned
  learned_fine o k v h f = record {
    knows = learn_fine o.known k v h.knows f;
    hears = h.hears;
    wants = left_fine o.wishes k v h.wants;
    leads = leader_after_fine o.leader k h.leads;
  }

  lead_fine : (i : ℕ) (list : List Payload) (o : Orderer) → IsFineOrderer F o → IsFineChange shape F (on_lead shape i list o)
  unfolding on_lead
  lead_fine i list o h =
      cond_both (nat_le (2 ^ 56) b) (quiet o) leading (IsFineChange shape F)
      (λ e. says o [] h (no_letters shape F))
      (λ e. record {
        put = tt;
        after = with_lead o (Some (leader_from b (length o.known))) h (fresh_leader F b (length o.known));
        letters = all_orderers shape F (prepare_message b (length o.known)) tt;
      })
    where
      b : ℕ
      b = ballot_above shape.orderers i (promised list)

      leading : Change
      leading = record {
        put = Some (Promise b);
        after = with_leader o (Some (leader_from b (length o.known)));
        outputs = to_orderers shape (prepare_message b (length o.known));
        reply = Silence;
      }

  prepare_fine : (i : ℕ) (list : List Payload) (o : Orderer) (b f : ℕ) → AreFineVotes F (votes list) → IsFineOrderer F o → IsFineChange shape F (on_prepare shape i list o b f)
  unfolding on_prepare prepare
  prepare_fine i list o b f g h =
      cond_both (nat_lt b (promised list)) (Refused (promised list)) rest Fine
      (λ e. says o (to_owner shape b (lower_message b (promised list))) h (one_letter shape F (letter (orderer_node shape (b % shape.orderers)) (lower_message b (promised list))) tt))
      (λ e. cond_both (b == promised list) (Granted None told_votes) (Granted (Some (Promise b)) told_votes) Fine
      (λ k. record { put = tt; after = h; letters = answer })
      (λ k. record { put = tt; after = h; letters = answer }))
    where
      told_votes : List Vote
      told_votes = reports b f 64 (votes list)

      rest : Promising
      rest = cond (b == promised list) (Granted None told_votes) (Granted (Some (Promise b)) told_votes)

      Fine : Promising → Type 0
      Fine a = IsFineChange shape F (prepare_answer shape i o b f a)

      answer : AreFineLetters shape F (to_owner shape b (promised_message b f i (reports b f 64 (votes list))))
      answer = one_letter shape F (letter (orderer_node shape (b % shape.orderers)) (promised_message b f i (reports b f 64 (votes list))))
          (λ x a. g x (reports_from b f 64 (votes list) x a))

  accept_fine : (i : ℕ) (list : List Payload) (o : Orderer) (b k : ℕ) (v : Value) → F v → IsFineOrderer F o → IsFineChange shape F (on_accept shape i list o b k v)
  unfolding on_accept accept
  accept_fine i list o b k v f h =
      cond_both (nat_lt b (promised list)) (TooLow (promised list)) rest Fine
      (λ e. says o (to_owner shape b (lower_message b (promised list))) h (one_letter shape F (letter (orderer_node shape (b % shape.orderers)) (lower_message b (promised list))) tt))
      (λ e. cond_both (has_vote (votes list) b k) (Taken None) (Taken (Some (Voted (vote_of b k v)))) Fine
      (λ g. record { put = tt; after = h; letters = answer })
      (λ g. record { put = f; after = h; letters = answer }))
    where
      rest : Answered
      rest = cond (has_vote (votes list) b k) (Taken None) (Taken (Some (Voted (vote_of b k v))))

      Fine : Answered → Type 0
      Fine a = IsFineChange shape F (accept_answer shape i o b k a)

      answer : AreFineLetters shape F (to_owner shape b (accepted_message b k i))
      answer = one_letter shape F (letter (orderer_node shape (b % shape.orderers)) (accepted_message b k i)) tt

  promise_fine : (l : Leader) (who : ℕ) (vs : List Vote) → IsFineLeader F l → AreFineVotes F vs → IsFineLeader F (with_promise l who vs)
  promise_fine l who vs h f = record { best = merged F l.window l.best vs h.best f; waits = h.waits }

  promised_fine : (o : Orderer) (x : Option Leader) (b f who : ℕ) (vs : List Vote) → IsFineLead F x → AreFineVotes F vs → IsFineOrderer F o → IsFineChange shape F (promised_to shape o x b f who vs)
  promised_fine o None b f who vs g fine h = says o [] h (no_letters shape F)
  promised_fine o (Some l) b f who vs g fine h =
      cond_both (awaits_promise l b f) (go_on shape o (with_promise l who vs) []) (quiet o) (IsFineChange shape F)
      (λ e. go_on_fine o (with_promise l who vs) [] h (promise_fine l who vs g fine) (no_letters shape F))
      (λ e. says o [] h (no_letters shape F))

  on_promised_fine : (o : Orderer) (b f who : ℕ) (vs : List Vote) → AreFineVotes F vs → IsFineOrderer F o → IsFineChange shape F (on_promised shape o b f who vs)
  unfolding on_promised
  on_promised_fine o b f who vs fine h = promised_fine o o.leader b f who vs h.leads fine h

  lowered_fine : (l : Option Leader) (b : ℕ) → IsFineLead F l → IsFineLead F (lowered l b)
  lowered_fine None b h = tt
  lowered_fine (Some l) b h = cond_both (l.ballot == b) None (Some l) (IsFineLead F) (λ e. tt) (λ e. h)

  lower_fine : (o : Orderer) (b : ℕ) → IsFineOrderer F o → IsFineChange shape F (on_lower o b)
  unfolding on_lower
  lower_fine o b h = says (with_leader o (lowered o.leader b)) [] (with_lead o (lowered o.leader b) h (lowered_fine o.leader b h.leads)) (no_letters shape F)

  decided_fine : (i : ℕ) (o : Orderer) (l : Option Leader) (k : ℕ) (v : Value) → IsFineOrderer F o → IsFineLead F l → F v → IsFineChange shape F (decided_by shape i o l k v)
  decided_fine i o None k v h g f = says o (to_learners shape i (decide_message k v)) h (all_learners shape F i (decide_message k v) f)
  decided_fine i o (Some l) k v h g f = go_on_fine o l (to_learners shape i (decide_message k v)) h g (all_learners shape F i (decide_message k v) f)

  counted_fine : (i : ℕ) (o : Orderer) (l : Leader) (p : Pending) → IsFineOrderer F o → IsFineLeader F l → F p.value → IsFineChange shape F (counted shape i o l p)
  counted_fine i o l p h g f =
      cond_both (most shape.orderers p.accepted) (decided_by shape i (learned o p.slot p.value) (learned o p.slot p.value).leader p.slot p.value) (quiet (with_leader o (Some (record l { pending = Some p })))) (IsFineChange shape F)
      (λ e. let after = learned_fine o p.slot p.value h f in
      decided_fine i (learned o p.slot p.value) (learned o p.slot p.value).leader p.slot p.value after after.leads f)
      (λ e. says (with_leader o (Some (record l { pending = Some p }))) [] (with_lead o (Some (record l { pending = Some p })) h (record { best = g.best; waits = f })) (no_letters shape F))

  accepted_for_fine : (i : ℕ) (o : Orderer) (l : Leader) (x : Option Pending) (k who : ℕ) → IsFineOrderer F o → IsFineLeader F l → IsFinePending F x → IsFineChange shape F (accepted_for shape i o l x k who)
  accepted_for_fine i o l None k who h g f = says o [] h (no_letters shape F)
  accepted_for_fine i o l (Some p) k who h g f =
      cond_both (p.slot == k) (counted shape i o l (with_acceptance p who)) (quiet o) (IsFineChange shape F)
      (λ e. counted_fine i o l (with_acceptance p who) h g f) (λ e. says o [] h (no_letters shape F))

  accepted_to_fine : (i : ℕ) (o : Orderer) (x : Option Leader) (b k who : ℕ) → IsFineOrderer F o → IsFineLead F x → IsFineChange shape F (accepted_to shape i o x b k who)
  accepted_to_fine i o None b k who h g = says o [] h (no_letters shape F)
  accepted_to_fine i o (Some l) b k who h g =
      cond_both (l.ballot == b) (accepted_for shape i o l l.pending k who) (quiet o) (IsFineChange shape F)
      (λ e. accepted_for_fine i o l l.pending k who h g g.waits) (λ e. says o [] h (no_letters shape F))

  on_accepted_fine : (i : ℕ) (o : Orderer) (b k who : ℕ) → IsFineOrderer F o → IsFineChange shape F (on_accepted shape i o b k who)
  unfolding on_accepted
  on_accepted_fine i o b k who h = accepted_to_fine i o o.leader b k who h h.leads

  decide_letter_fine : (known : List Value) (node k : ℕ) (v : Option Value) → AreFine F known → slice_get known k ≡ v → AreFineLetters shape F (decide_letter node k v)
  decide_letter_fine known node k None h e = no_letters shape F
  decide_letter_fine known node k (Some v) h e = one_letter shape F (letter node (decide_message k v)) (h v (got_in known k v e))

  decide_letters_fine : (known : List Value) (node k count : ℕ) → AreFine F known → AreFineLetters shape F (decide_letters node known k count)
  decide_letters_fine known node k zero h = no_letters shape F
  decide_letters_fine known node k (suc count) h =
      both_letters shape F (decide_letter node k (slice_get known k)) (decide_letters node known (suc k) count)
      (decide_letter_fine known node k (slice_get known k) h refl) (decide_letters_fine known node (suc k) count h)

  want_fine : (o : Orderer) (k node : ℕ) → IsFineOrderer F o → IsFineChange shape F (on_want o k node)
  unfolding on_want
  want_fine o k node h = says o (decide_letters node o.known k 16) h (decide_letters_fine o.known node k 16 h.knows)

  tick_pending_fine : (o : Orderer) (l : Leader) (x : Option Pending) → IsFineOrderer F o → IsFineLeader F l → IsFinePending F x → IsFineChange shape F (tick_pending shape o l x)
  tick_pending_fine o l None h g f = go_on_fine o l [] h g (no_letters shape F)
  tick_pending_fine o l (Some p) h g f = says o (to_orderers shape (accept_message l.ballot p.slot p.value)) h (all_orderers shape F (accept_message l.ballot p.slot p.value) f)

  asks : (i asked k : ℕ) (t : Bool) → AreFineLetters shape F (cond t [] (letter (orderer_node shape asked) (want_message k (orderer_node shape i)) ∷ []))
  asks i asked k true = no_letters shape F
  asks i asked k false = one_letter shape F (letter (orderer_node shape asked) (want_message k (orderer_node shape i))) tt

  tick_leader_fine : (i : ℕ) (o : Orderer) (x : Option Leader) (asked : ℕ) → IsFineOrderer F o → IsFineLead F x → IsFineChange shape F (tick_leader shape i o x asked)
  tick_leader_fine i o None asked h g = record { put = tt; after = h; letters = asks i asked (length o.known) (asked == i) }
  tick_leader_fine i o (Some l) asked h g =
      cond_both (most shape.orderers l.answered) (tick_pending shape o l l.pending) (told o (to_orderers shape (prepare_message l.ballot l.window))) (IsFineChange shape F)
      (λ e. tick_pending_fine o l l.pending h g g.waits)
      (λ e. says o (to_orderers shape (prepare_message l.ballot l.window)) h (all_orderers shape F (prepare_message l.ballot l.window) tt))

  tick_fine : (i : ℕ) (o : Orderer) → IsFineOrderer F o → IsFineChange shape F (on_tick shape i o)
  unfolding on_tick
  tick_fine i o h =
      tick_leader_fine i (one_tick o) o.leader (o.ticks % shape.orderers) (record { knows = h.knows; hears = h.hears; wants = h.wants; leads = h.leads }) h.leads

  request_fine : (o : Orderer) (x : Option Leader) (v : Value) → F v → IsFineOrderer F o → IsFineChange shape F (request_to shape o x v)
  request_fine o None v f h = record { put = tt; after = h; letters = no_letters shape F }
  request_fine o (Some l) v f h =
      cond_both (finalises_unknown shape o.known v) (answered o NoSuchShard) (answered (record o { wishes = more }) (TakenWish (length o.known))) (IsFineChange shape F)
      (λ e. record { put = tt; after = h; letters = no_letters shape F })
      (λ e. record { put = tt; after = record { knows = h.knows; hears = h.hears; wants = wanted; leads = h.leads }; letters = no_letters shape F })
    where
      more : List Wish
      more = o.wishes ++ record { value = v; from = length o.known } ∷ []

      wanted : (w : Wish) → In w (o.wishes ++ record { value = v; from = length o.known } ∷ []) → F w.value
      wanted w a = ⊎_elim (λ b. h.wants w b) (λ b. ⊎_elim (λ e. subst F (sym (ap (λ (z : Wish). z.value) e)) f) (λ c. absurd c) b)
          (in_append w o.wishes (record { value = v; from = length o.known } ∷ []) a)

  on_request_fine : (o : Orderer) (v : Value) → F v → IsFineOrderer F o → IsFineChange shape F (on_request shape o v)
  unfolding on_request
  on_request_fine o v f h = request_fine o o.leader v f h

  settled_fine : (o : Orderer) (v : Value) (from : ℕ) → IsFineOrderer F o → IsFineChange shape F (on_settled o v from)
  unfolding on_settled
  settled_fine o v from h = record { put = tt; after = h; letters = no_letters shape F }

  least_fine : (o : Orderer) (shard : ℕ) (given : List ℕ) → ((heard : Lengths) → F (Cut heard) → F (Cut (raise shape.replicas (shard * shape.replicas) given heard)))
      → IsFineOrderer F o → IsFineChange shape F (on_least shape o shard given)
  unfolding on_least
  least_fine o shard given f h = record {
    put = tt;
    after = record { knows = h.knows; hears = f o.heard h.hears; wants = h.wants; leads = h.leads };
    letters = no_letters shape F;
  }

  message_fine : (i : ℕ) (list : List Payload) (o : Orderer) → AreFineVotes F (votes list) → IsFineOrderer F o → (m : Message) → IsFineMessage shape F m
      → ForSome (IsFineChange shape F) (message_row shape i list o m)
  message_fine i list o g h (Copy segment offset entry) f = tt
  message_fine i list o g h (CopyAck peer held) f = tt
  message_fine i list o g h (Report shard replica lengths) f = tt
  message_fine i list o g h (Least shard lengths) f = least_fine o shard.0 lengths.length f h
  message_fine i list o g h (Prepare b k) f = prepare_fine i list o b.0 k.0 g h
  message_fine i list o g h (Promised b k who vs) f = on_promised_fine o b.0 k.0 who vs f h
  message_fine i list o g h (Lower b p) f = lower_fine o b.0 h
  message_fine i list o g h (Accept b k v) f = accept_fine i list o b.0 k.0 v f h
  message_fine i list o g h (Accepted b k who) f = on_accepted_fine i o b.0 k.0 who h
  message_fine i list o g h (Decide k v) f = says (learned o k.0 v) [] (learned_fine o k.0 v h f) (no_letters shape F)
  message_fine i list o g h (Want k node) f = want_fine o k.0 node.0 h

  call_fine : (o : Orderer) → IsFineOrderer F o → (c : Call) → IsFineCall F c → ForSome (IsFineChange shape F) (call_row shape o c)
  call_fine o h (Submit client number bytes) f = tt
  call_fine o h (Ask client number) f = tt
  call_fine o h (Read client position) f = tt
  call_fine o h (Request client value) f = on_request_fine o value f h
  call_fine o h (Settled client value from) f = settled_fine o value from h

  pub row_fine : (i : ℕ) (list : List Payload) (o : Orderer) → AreFineVotes F (votes list) → IsFineOrderer F o → (x : Input) → IsFineInput shape F x
      → ForSome (IsFineChange shape F) (row shape i list o x)
  row_fine i list o g h (Deliver place index (Some m)) f = message_fine i list o g h m f
  row_fine i list o g h (Deliver place index None) f = tt
  row_fine i list o g h (ACall call) f = call_fine o h call f
  row_fine i list o g h Tick f = tick_fine i o h
  row_fine i list o g h Lead f = lead_fine i list o h
  row_fine i list o g h Stop f = tt
  row_fine i list o g h Restart f = tt
