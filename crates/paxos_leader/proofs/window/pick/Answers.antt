use Rattle.std.proofs.Common.{◌≡◌, ◌≤◌, ◌-◌, ◌+◌, ℕ, suc, List, Bool, length, take, drop, get_or, Option, None, ap, arith, ◌∙◌, add-one, length-drop}
use Rattle.std.specs.List.{list_any}
use Rattle.std.specs.Option.{is_some}
use Rattle.std.proofs.lemmas.List.{take_all}
use Rattle.message_frame.specs.declared.messages.Vote.{Vote}
use Rattle.paxos_model.specs.Leader.{bound_value}
use Rattle.paxos_leader.proofs.window.pick.Goals as goal

pub returns : goal.returns
returns c =
    let few : length (drop (c.args.place + 1) c.args.best.now) ≤ 64 - (c.args.place + 1) =
    omega (arith, length-drop (c.args.place + 1) c.args.best.now, c.told-best) in
    let rest : take (64 - (c.args.place + 1)) (drop (c.args.place + 1) c.args.best.now) ≡ drop (suc c.args.place) c.args.best.now =
    take_all _ _ few ∙ ap (λ (n : ℕ). drop n c.args.best.now) (add-one c.args.place) in
    c.bound.ensures
    ∙ ap (λ (b : Bool). bound_value (get_or c.args.best.now c.args.place None) b c.args.wish)
    (c.has_vote.ensures ∙ ap (λ (os : List (Option Vote)). list_any is_some os) rest)
