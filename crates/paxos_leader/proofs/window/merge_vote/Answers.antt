use Rattle.std.proofs.Common.{◌≡◌, ◌+◌, ◌-◌, ◌<◌, ℕ, length, set, Option, sym, ap, arith, ◌∙◌}
use Rattle.message_frame.specs.declared.messages.Vote.{Vote}
use Rattle.paxos_model.proofs.Merging.{merge_at, merge_outside}
use Rattle.paxos_leader.proofs.window.merge_vote.Goals as goal

pub returns-then-vote-from : goal.returns-then-vote-from
returns-then-vote-from c =
    sym (merge_outside c.args.from.0 c.args.best.now c.args.vote.now (λ place inside same. omega (arith, c.if-vote-from.true, same)))

pub returns-then-place-ge-WINDOW : goal.returns-then-place-ge-WINDOW
returns-then-place-ge-WINDOW c =
    sym (merge_outside c.args.from.0 c.args.best.now c.args.vote.now
    (λ place inside same. omega (arith, c.if-vote-from.false, c.if-place-ge-WINDOW.true, same, inside, c.told-best)))

pub returns : goal.returns
returns c =
    let place : ℕ = c.args.vote.now.slot.0 - c.args.from.0 in
    let inside : place < length c.args.best.now = omega (arith, c.if-place-ge-WINDOW.false, c.told-best) in
    let there : c.args.vote.now.slot.0 ≡ c.args.from.0 + place = omega (arith, c.if-vote-from.false) in
    ap (λ (o : Option Vote). set c.args.best.now place o) c.better.ensures
    ∙ sym (merge_at c.args.from.0 c.args.best.now c.args.vote.now place inside there)
