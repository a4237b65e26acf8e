use Rattle.std.proofs.Common.{◌≡◌, ◌≤◌, ℕ, List, [], ◌∷◌, ◌++◌, length, sym, ap, ◌∙◌, subst}
use Rattle.log_base.specs.Wide.{be4, be8}
use Rattle.record_frame.specs.Values.{value_spelling}
use Rattle.paxos_model.specs.Payloads.{IsPayload, payload_limit, payload_spelling}
use Rattle.paxos_model.specs.Votes.{Voted}
use Rattle.paxos_model.proofs.Payloads.{payload_short}
use Rattle.paxos_acceptor.specs.declared.payloads.Entry.{Entry}
use Rattle.paxos_acceptor.specs.Listed.{payload_so}
use Rattle.paxos_acceptor.proofs.payloads.spell.Goals as goal

pub returns-in-Vote-clause-size : goal.returns-in-Vote-clause-size
returns-in-Vote-clause-size c =
    let vote = c.in-Vote.vote in
    let is : IsPayload (Voted vote) = subst (λ (e : Entry). IsPayload (payload_so e)) c.in-Vote.is c.requires.entry in
    let fields = be8 vote.ballot.0 ++ (be4 vote.slot.0 ++ value_spelling vote.value) in
    let kind : c.put_u8-in-Vote.new.out.items ≡ 3 ∷ [] = c.put_u8-in-Vote.ensures.items ∙ ap (λ (l : List ℕ). l ++ 3 ∷ []) c.clear.ensures.items in
    let all : c.put_vote.new.out.items ≡ payload_spelling (Voted vote) = c.put_vote.ensures.items ∙ ap (λ (l : List ℕ). l ++ fields) kind in
    subst (λ (l : List ℕ). length l ≤ payload_limit) (sym all) (payload_short (Voted vote) is)
