use Rattle.std.proofs.Common.{◌≡◌, ◌≢◌, ℕ, List, [], ◌∷◌, ◌++◌, sym, ap, ◌∙◌, subst}
use Rattle.message_frame.specs.declared.messages.Vote.{Vote}
use Rattle.paxos_acceptor.specs.declared.payloads.Entry.{Entry}
use Rattle.paxos_acceptor.specs.declared.rows.Row.{Row}
use Rattle.paxos_acceptor.specs.Listed.{payload_so}
use Rattle.paxos_acceptor.specs.Table.{Table, Tables, IsRow, row_at}
use Rattle.paxos_acceptor.proofs.Noted.{Tables-promise, Tables-vote}
use Rattle.paxos_acceptor.proofs.table.VoteTable.note.Goals as goal

pub returns-in-Promise : goal.returns-in-Promise
returns-in-Promise c =
    λ list is.
    subst (λ (e : Entry). Tables c.raise.new.self (list ++ payload_so e ∷ [])) (sym c.in-Promise.is)
    (Tables-promise c.args.self.now c.raise.new.self c.in-Promise.ballot.0 list (ap (λ (t : Table). t.promise) c.raise.ensures) (ap (λ (t : Table). t.rows) c.raise.ensures) is)

pub returns-in-Vote : goal.returns-in-Vote
returns-in-Vote c =
    λ list is.
    let vote = c.in-Vote.vote in
    let new = c.note_vote.new.self in
    let rows = ap (λ (t : Table). t.rows) c.raise-in-Vote.ensures in
    subst (λ (e : Entry). Tables new (list ++ payload_so e ∷ [])) (sym c.in-Vote.is)
    (Tables-vote c.args.self.now new vote list (c.note_vote.ensures.promise ∙ ap (λ (t : Table). t.promise) c.raise-in-Vote.ensures)
    (subst (λ (rs : List Row). (vs : List Vote) → IsRow vote.slot.0 (row_at rs vote.slot.0) vs → IsRow vote.slot.0 (row_at new.rows vote.slot.0) (vs ++ vote ∷ [])) rows c.note_vote.ensures.row)
    (subst (λ (rs : List Row). (slot : ℕ) → slot ≢ vote.slot.0 → row_at new.rows slot ≡ row_at rs slot) rows c.note_vote.ensures.others)
    is)
