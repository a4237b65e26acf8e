-- The rows that put: a new ballot, a promise, a vote.
use Rattle.std.proofs.Common.{◌≡◌, ◌<◌, ◌≤◌, ◌%◌, ◌^◌, ℕ, cond, nat_lt, nat_le, ◌==◌, List, [], ◌∷◌, ◌++◌, length, Some, None, refl, sym, ap, subst, inl, arith, eqb-true, ltb-false, append-nil, ◌∙◌}
use Rattle.std.proofs.lemmas.Bool.{cond_both}
use Rattle.reply_frame.specs.declared.replies.Reply.{Nothing as Silence}
use Rattle.log_base.specs.ClusterShape.{Shape}
use Rattle.message_frame.specs.declared.messages.Vote.{Vote}
use Rattle.record_frame.specs.declared.values.Value.{Value}
use Rattle.paxos_model.specs.Acceptor.{Accepted, Granted, Promised, Refused, Taken, TooLow, accept, prepare}
use Rattle.paxos_model.specs.Leader.{ballot_above, leader_from}
use Rattle.paxos_model.specs.Votes.{Payload, Promise, Voted, has_vote, promised, reports, vote_of, votes}
use Rattle.paxos_model.proofs.Ballots.{ballot_above-above, ballot_above-own}
use Rattle.node_table.specs.Numbering.{orderer_node}
use Rattle.node_model.specs.Messages.{accepted_message, lower_message, prepare_message, promised_message}
use Rattle.node_model.specs.Marks.{Running}
use Rattle.node_model.specs.Nodes.{letter, to_orderers}
use Rattle.node_model.specs.OrdererNode.{Change, Orderer}
use Rattle.node_model.specs.OrdererRow.{accept_answer, on_accept, on_lead, on_prepare, prepare_answer, quiet, to_owner, told, with_leader}
use Rattle.agreement_law.specs.Elements.{In}
use Rattle.agreement_law.specs.Invariant.{AreProposed, IsBegun, IsGoodLeader, IsGoodPromised, NoVote}
use Rattle.agreement_law.proofs.Elements.{in_right}
use Rattle.agreement_law.proofs.Greatest.{has_vote_found, has_vote_none, length-no_votes, nth-no_votes, promised-push, reports_from, votes-push}
use Rattle.agreement_law.proofs.Grows.{Grow}
use Rattle.agreement_law.proofs.Moves.{Here, Moves, RowKeeps, here_grows, in_to_orderers, one_true, same_moves, still_row, true_as}
use Rattle.agreement_law.proofs.Quorum.{unmarked}

pub begun_later : (n : ℕ) (ps : List Vote) (lists now : ℕ → List Payload) → Grow ps lists now → (b : ℕ) → IsBegun n lists b → IsBegun n now b
begun_later n ps lists now g b h = omega (arith, h, (g (b % n)).further)

-- a row that changes nothing
pub quiet_keeps : (n : ℕ) (lists : ℕ → List Payload) (ps : List Vote) (i : ℕ) (o : Orderer) → Here n lists ps i o → RowKeeps n lists ps i (quiet o)
quiet_keeps n lists ps i o h = still_row n lists ps i (quiet o) refl
    (λ now g. let later = here_grows n lists ps i o h now g in same_moves n now ps i (Running o) [] later.global later.self (λ s a. absurd a))

-- a refusal
lower_keeps : (shape : Shape) (lists : ℕ → List Payload) (ps : List Vote) (i : ℕ) (o : Orderer) → Here shape.orderers lists ps i o
    → (b promise : ℕ) → IsBegun shape.orderers lists b → RowKeeps shape.orderers lists ps i (told o (to_owner shape b (lower_message b promise)))
lower_keeps shape lists ps i o h b promise begun =
    still_row shape.orderers lists ps i (told o (to_owner shape b (lower_message b promise))) refl
    (λ now g.
    let later = here_grows shape.orderers lists ps i o h now g in
    same_moves shape.orderers now ps i (Running o) (to_owner shape b (lower_message b promise)) later.global later.self
    (one_true shape.orderers now ps (letter (orderer_node shape (b % shape.orderers)) (lower_message b promise)) (begun_later shape.orderers ps lists now g b begun)))

votes-promise : (list : List Payload) (b : ℕ) → votes (list ++ Promise b ∷ []) ≡ votes list
votes-promise list b = votes-push list (Promise b) ∙ append-nil (votes list)

granted : (shape : Shape) (lists : ℕ → List Payload) (ps : List Vote) (i : ℕ) (o : Orderer) → Here shape.orderers lists ps i o
    → (b f : ℕ) → IsBegun shape.orderers lists b → (now : ℕ → List Payload) → Grow ps lists now
    → b ≤ promised (now i) → votes (now i) ≡ votes (lists i)
    → Moves shape.orderers now ps i (Running o) (to_owner shape b (promised_message b f i (reports b f 64 (votes (lists i)))))
granted shape lists ps i o h b f begun now g reached same =
    let later = here_grows shape.orderers lists ps i o h now g in
    let told : IsGoodPromised (now i) b f (reports b f 64 (votes (lists i))) = record { reached = reached; listed = ap (λ vs. reports b f 64 vs) (sym same) } in
    let real : AreProposed ps (reports b f 64 (votes (lists i))) = λ x a. h.global.voted i x (reports_from b f 64 (votes (lists i)) x a) in
    same_moves shape.orderers now ps i (Running o) (to_owner shape b (promised_message b f i (reports b f 64 (votes (lists i))))) later.global later.self
    (one_true shape.orderers now ps (letter (orderer_node shape (b % shape.orderers)) (promised_message b f i (reports b f 64 (votes (lists i)))))
    (begun_later shape.orderers ps lists now g b begun, told, real))

pub prepare_keeps : (shape : Shape) (lists : ℕ → List Payload) (ps : List Vote) (i : ℕ) (o : Orderer) → Here shape.orderers lists ps i o
    → (b f : ℕ) → IsBegun shape.orderers lists b → RowKeeps shape.orderers lists ps i (on_prepare shape i (lists i) o b f)
unfolding on_prepare prepare
prepare_keeps shape lists ps i o h b f begun =
    cond_both (nat_lt b (promised (lists i))) (Refused (promised (lists i))) rest Keeping
    (λ e. lower_keeps shape lists ps i o h b (promised (lists i)) begun)
    (λ e. cond_both (b == promised (lists i)) (Granted None reported) (Granted (Some (Promise b)) reported) Keeping
    (λ f'. equal (eqb-true b (promised (lists i)) f'))
    (λ f'. above))
  where
    reported : List Vote
    reported = reports b f 64 (votes (lists i))

    rest : Promised
    rest = cond (b == promised (lists i)) (Granted None reported) (Granted (Some (Promise b)) reported)

    Keeping : Promised → Type 0
    Keeping a = RowKeeps shape.orderers lists ps i (prepare_answer shape i o b f a)

    equal : b ≡ promised (lists i) → RowKeeps shape.orderers lists ps i (prepare_answer shape i o b f (Granted None reported))
    equal e = record {
      put = tt;
      stored = λ now g same. granted shape lists ps i o h b f begun now g (omega (arith, e, (g i).further)) (ap votes same);
    }

    above : RowKeeps shape.orderers lists ps i (prepare_answer shape i o b f (Granted (Some (Promise b)) reported))
    above = record {
      put = tt;
      stored = λ now g same. granted shape lists ps i o h b f begun now g
          (omega (arith, promised-push (lists i) (Promise b), ap promised same)) (ap votes same ∙ votes-promise (lists i) b);
    }

accepted_moves : (shape : Shape) (lists : ℕ → List Payload) (ps : List Vote) (i : ℕ) (o : Orderer) → Here shape.orderers lists ps i o
    → (b k : ℕ) → IsBegun shape.orderers lists b → (now : ℕ → List Payload) → Grow ps lists now → (u : Value) → In (vote_of b k u) (votes (now i))
    → Moves shape.orderers now ps i (Running o) (to_owner shape b (accepted_message b k i))
accepted_moves shape lists ps i o h b k begun now g u vote =
    let later = here_grows shape.orderers lists ps i o h now g in
    same_moves shape.orderers now ps i (Running o) (to_owner shape b (accepted_message b k i)) later.global later.self
    (one_true shape.orderers now ps (letter (orderer_node shape (b % shape.orderers)) (accepted_message b k i))
    (begun_later shape.orderers ps lists now g b begun, (u, vote)))

pub accept_keeps : (shape : Shape) (lists : ℕ → List Payload) (ps : List Vote) (i : ℕ) (o : Orderer) → Here shape.orderers lists ps i o
    → (b k : ℕ) (v : Value) → In (vote_of b k v) ps → RowKeeps shape.orderers lists ps i (on_accept shape i (lists i) o b k v)
unfolding on_accept accept
accept_keeps shape lists ps i o h b k v proposed =
    cond_both (nat_lt b (promised (lists i))) (TooLow (promised (lists i))) rest Keeping
    (λ e. lower_keeps shape lists ps i o h b (promised (lists i)) begun)
    (λ e. cond_both (has_vote (votes (lists i)) b k) (Taken None) (Taken (Some (Voted (vote_of b k v)))) Keeping
    (λ f. again (has_vote_found (lists i) b k f))
    (λ f. first (ltb-false b (promised (lists i)) e) (has_vote_none (lists i) b k f)))
  where
    begun : IsBegun shape.orderers lists b
    begun = h.global.owned (vote_of b k v) proposed

    rest : Accepted
    rest = cond (has_vote (votes (lists i)) b k) (Taken None) (Taken (Some (Voted (vote_of b k v))))

    Keeping : Accepted → Type 0
    Keeping a = RowKeeps shape.orderers lists ps i (accept_answer shape i o b k a)

    again : (u : Value) × In (vote_of b k u) (votes (lists i)) → RowKeeps shape.orderers lists ps i (accept_answer shape i o b k (Taken None))
    again found = record {
      put = tt;
      stored = λ now g same. accepted_moves shape lists ps i o h b k begun now g found.0 ((g i).kept (vote_of b k found.0) found.1);
    }

    first : promised (lists i) ≤ b → NoVote (lists i) b k → RowKeeps shape.orderers lists ps i (accept_answer shape i o b k (Taken (Some (Voted (vote_of b k v)))))
    first low none = record {
      put = (low, none, proposed);
      stored = λ now g same. accepted_moves shape lists ps i o h b k begun now g v
          (subst (λ vs. In (vote_of b k v) vs) (sym (ap votes same ∙ votes-push (lists i) (Voted (vote_of b k v)))) (in_right (vote_of b k v) (votes (lists i)) (vote_of b k v ∷ []) (inl refl)));
    }

-- a leader begins: its ballot has no proposal yet
leads : (shape : Shape) (lists : ℕ → List Payload) (ps : List Vote) (i : ℕ) (o : Orderer) → Here shape.orderers lists ps i o
    → (b : ℕ) → b % shape.orderers ≡ i → promised (lists i) < b → (now : ℕ → List Payload) → Grow ps lists now → now i ≡ lists i ++ Promise b ∷ []
    → Moves shape.orderers now ps i (Running (with_leader o (Some (leader_from b (length o.known))))) (to_orderers shape (prepare_message b (length o.known)))
leads shape lists ps i o h b mine above now g same =
    let later = here_grows shape.orderers lists ps i o h now g in
    same_moves shape.orderers now ps i (Running (with_leader o (Some (leader_from b (length o.known))))) (to_orderers shape (prepare_message b (length o.known)))
    later.global
    (record { chosen = later.self.chosen; leads = leader })
    (λ s a. true_as shape.orderers now ps (prepare_message b (length o.known)) s (in_to_orderers shape (prepare_message b (length o.known)) s a) begun)
  where
    reached : b ≤ promised (now i)
    reached = omega (arith, promised-push (lists i) (Promise b), ap promised same)

    begun : IsBegun shape.orderers now b
    begun = subst (λ j. b ≤ promised (now j)) (sym mine) reached

    unused : (x : Vote) → In x ps → x.ballot.0 ≡ b → ⊥
    unused x a e =
        let own : b ≤ promised (lists (b % shape.orderers)) = subst (λ c. c ≤ promised (lists (c % shape.orderers))) e (h.global.owned x a) in
        let low : b ≤ promised (lists i) = subst (λ j. b ≤ promised (lists j)) mine own in
        omega arith

    leader : IsGoodLeader shape.orderers now ps i (length o.known) (leader_from b (length o.known))
    leader = record {
      mine = mine;
      reached = reached;
      used = λ x a e. absurd (unused x a e);
      within = omega arith;
      heard = [];
      long = length-no_votes;
      table = λ j c. nth-no_votes j;
      answers = λ w m. absurd (unmarked w m);
      real = λ x c. absurd c;
      waits = tt;
    }

pub lead_keeps : (shape : Shape) (lists : ℕ → List Payload) (ps : List Vote) (i : ℕ) (o : Orderer) → i < shape.orderers → Here shape.orderers lists ps i o
    → RowKeeps shape.orderers lists ps i (on_lead shape i (lists i) o)
unfolding on_lead
lead_keeps shape lists ps i o inside h =
    cond_both (nat_le (2 ^ 56) ballot) (quiet o) leading (λ c. RowKeeps shape.orderers lists ps i c)
    (λ e. quiet_keeps shape.orderers lists ps i o h)
    (λ e. record {
      put = tt;
      stored = λ now g same. leads shape lists ps i o h ballot (ballot_above-own shape.orderers i (promised (lists i)) inside)
          (ballot_above-above shape.orderers i (promised (lists i)) inside) now g same;
    })
  where
    ballot : ℕ
    ballot = ballot_above shape.orderers i (promised (lists i))

    leading : Change
    leading = record {
      put = Some (Promise ballot);
      after = with_leader o (Some (leader_from ballot (length o.known)));
      outputs = to_orderers shape (prepare_message ballot (length o.known));
      reply = Silence;
    }
