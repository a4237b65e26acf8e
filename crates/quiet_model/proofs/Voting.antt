-- The rows of an acceptor that promised the one ballot: it accepts, and promises again without votes to report.
use Rattle.std.proofs.Common.{◌≡◌, ◌%◌, ℕ, zero, suc, max, Bool, true, false, cond, ◌==◌, ◌&&◌, nat_lt, List, [], ◌∷◌, ◌++◌, Option, Some, None, refl, sym, ap, subst, arith, ◌∙◌, eq-eqb}
use Rattle.std.specs.List.{AllByRecursion}
use Rattle.std.proofs.lemmas.Bool.{cond-false, cond-true, le-ltb}
use Rattle.reply_frame.specs.declared.replies.Reply.{Nothing}
use Rattle.log_base.specs.ClusterShape.{Shape}
use Rattle.message_frame.specs.declared.messages.Message.{Message}
use Rattle.message_frame.specs.declared.messages.Vote.{Vote}
use Rattle.node_table.specs.Numbering.{orderer_node}
use Rattle.paxos_model.specs.Acceptor.{TooLow, Taken, Refused, Granted, accept, prepare}
use Rattle.paxos_model.specs.Votes.{Payload, Promise, Voted, counts, greatest, has_vote, keep, promised, put_first, reports, vote_of, votes, window_size}
use Rattle.record_frame.specs.declared.values.Value.{Value}
use Rattle.node_model.specs.Messages.{accepted_message, promised_message}
use Rattle.node_model.specs.Nodes.{letter}
use Rattle.node_model.specs.OrdererNode.{Change, Orderer as OrdererMemory, with_put}
use Rattle.node_model.specs.OrdererRow.{accept_answer, on_accept, on_prepare, prepare_answer, to_owner}
use Rattle.node_model.proofs.Letters.{all_append}
use Rattle.quiet_model.specs.Settled.{IsAcceptor, IsOldVote}

promised_vote : (list : List Payload) (vote : Vote) → promised (list ++ Voted vote ∷ []) ≡ max (promised list) vote.ballot.0
promised_vote [] vote = omega arith
promised_vote (Promise ballot ∷ list) vote = omega (arith, promised_vote list vote)
promised_vote (Voted other ∷ list) vote = omega (arith, promised_vote list vote)

votes_vote : (list : List Payload) (vote : Vote) → votes (list ++ Voted vote ∷ []) ≡ votes list ++ vote ∷ []
votes_vote [] vote = refl
votes_vote (Promise ballot ∷ list) vote = votes_vote list vote
votes_vote (Voted other ∷ list) vote = ap (λ (rest : List Vote). other ∷ rest) (votes_vote list vote)

-- an orderer accepts
pub record Accepts (config : Shape) (i ballot slot : ℕ) (value : Value) (list : List Payload) (o : OrdererMemory) : Type 0 where
  pub put : Option Payload
  pub row : on_accept config i list o ballot slot value
      ≡ record { put = put; after = o; outputs = letter (orderer_node config 0) (accepted_message ballot slot i) ∷ []; reply = Nothing }
  pub fine : IsAcceptor ballot (suc slot) (with_put list put)

module _ (config : Shape) (ballot : ℕ) (owner : ballot % config.orderers ≡ 0) (i : ℕ) (list : List Payload) (o : OrdererMemory) where
  pub owner_is : (message : Message) → to_owner config ballot message ≡ letter (orderer_node config 0) message ∷ []
  owner_is message = ap (λ (n : ℕ). letter (orderer_node config n) message ∷ []) owner

  module _ (slot : ℕ) (value : Value) (h : IsAcceptor ballot (suc slot) list) where
    accept_is : accept list ballot slot value ≡ cond (has_vote (votes list) ballot slot) (Taken None) (Taken (Some (Voted (vote_of ballot slot value))))
    unfolding accept
    accept_is =
        cond-false (nat_lt ballot (promised list)) (TooLow (promised list))
        (cond (has_vote (votes list) ballot slot) (Taken None) (Taken (Some (Voted (vote_of ballot slot value)))))
        (le-ltb ballot (promised list) (omega (arith, h.promise)))

    row_is : (put : Option Payload) → accept list ballot slot value ≡ Taken put
        → on_accept config i list o ballot slot value
        ≡ record { put = put; after = o; outputs = letter (orderer_node config 0) (accepted_message ballot slot i) ∷ []; reply = Nothing }
    unfolding on_accept
    row_is put e =
        ap (accept_answer config i o ballot slot) e
        ∙ ap (λ outs. let change : Change = record { put = put; after = o; outputs = outs; reply = Nothing } in change) (owner_is (accepted_message ballot slot i))

    voted_more : IsAcceptor ballot (suc slot) (list ++ Voted (vote_of ballot slot value) ∷ [])
    voted_more = record {
      promise = omega (arith, promised_vote list (vote_of ballot slot value), h.promise);
      voted = subst (AllByRecursion (IsOldVote ballot (suc slot))) (sym (votes_vote list (vote_of ballot slot value)))
          (all_append (IsOldVote ballot (suc slot)) (votes list) (vote_of ballot slot value ∷ []) h.voted ((refl, omega arith), tt));
    }

    accepts_by : (b : Bool) → has_vote (votes list) ballot slot ≡ b → Accepts config i ballot slot value list o
    accepts_by true e = record {
      put = None;
      row = row_is None (accept_is ∙ ap (λ (b : Bool). cond b (Taken None) (Taken (Some (Voted (vote_of ballot slot value))))) e);
      fine = h;
    }
    accepts_by false e = record {
      put = Some (Voted (vote_of ballot slot value));
      row = row_is (Some (Voted (vote_of ballot slot value))) (accept_is ∙ ap (λ (b : Bool). cond b (Taken None) (Taken (Some (Voted (vote_of ballot slot value))))) e);
      fine = voted_more;
    }

    pub accepts : Accepts config i ballot slot value list o
    accepts = accepts_by (has_vote (votes list) ballot slot) refl

  -- no vote of a lower ballot is there to be reported
  none_counts : (slots slot : ℕ) (cast : List Vote) → AllByRecursion (IsOldVote ballot slots) cast → greatest (counts ballot slot) cast ≡ None
  none_counts slots slot [] h = refl
  none_counts slots slot (vote ∷ cast) h =
      let low : nat_lt vote.ballot.0 ballot ≡ false = le-ltb vote.ballot.0 ballot (omega (arith, h.0.0)) in
      ap (λ (b : Bool). keep (cond (b && (vote.slot.0 == slot)) (Some vote) None) (greatest (counts ballot slot) cast)) low
      ∙ none_counts slots slot cast h.1

  pub none_reported : (slots : ℕ) (cast : List Vote) → AllByRecursion (IsOldVote ballot slots) cast → (slot count : ℕ) → reports ballot slot count cast ≡ []
  unfolding reports
  none_reported slots cast h slot zero = refl
  none_reported slots cast h slot (suc count) =
      ap (λ (best : Option Vote). put_first best (reports ballot (suc slot) count cast)) (none_counts slots slot cast h)
      ∙ none_reported slots cast h (suc slot) count

  granted : (slots slot : ℕ) → IsAcceptor ballot slots list → prepare list ballot slot ≡ Granted None []
  unfolding prepare
  granted slots slot h =
      cond-false (nat_lt ballot (promised list)) (Refused (promised list))
      (cond (ballot == promised list) (Granted None (reports ballot slot window_size (votes list))) (Granted (Some (Promise ballot)) (reports ballot slot window_size (votes list))))
      (le-ltb ballot (promised list) (omega (arith, h.promise)))
      ∙ cond-true (ballot == promised list) (Granted None (reports ballot slot window_size (votes list))) (Granted (Some (Promise ballot)) (reports ballot slot window_size (votes list)))
      (eq-eqb ballot (promised list) (sym h.promise))
      ∙ ap (Granted None) (none_reported slots (votes list) h.voted slot window_size)

  pub promises : (slots slot : ℕ) → IsAcceptor ballot slots list
      → on_prepare config i list o ballot slot
      ≡ record { put = None; after = o; outputs = letter (orderer_node config 0) (promised_message ballot slot i []) ∷ []; reply = Nothing }
  unfolding on_prepare
  promises slots slot h =
      ap (prepare_answer config i o ballot slot) (granted slots slot h)
      ∙ ap (λ outs. let change : Change = record { put = None; after = o; outputs = outs; reply = Nothing } in change) (owner_is (promised_message ballot slot i []))
