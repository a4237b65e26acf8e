use Rattle.std.proofs.Common.{◌≡◌, ℕ, Option, Some, sym, ap, ap₂, ◌∙◌}
use Rattle.std.specs.Option.{option_map}
use Rattle.paxos_model.specs.Leader.{Leader}
use Rattle.paxos_leader.specs.declared.lead.Lead.{Lead}
use Rattle.paxos_leader.specs.Kept.{kept_leader}
use Rattle.paxos_leader.specs.Leading.{Leading, without_below}
use Rattle.paxos_leader.proofs.leader.Leader.passed.Goals as goal

pub returns : goal.returns
returns c =
    let best = c.self.inside.best.value in
    let leads : kept_leader (Some c.in-Some.lead) best ≡ c.args.self.now.leader =
    ap (λ (l : Option Lead). kept_leader l best) (sym c.in-Some.is) ∙ ap (λ (s : Leading). s.leader) c.self.view_is in
    ap₂ (λ (n : ℕ) (l : Option Leader). let s : Leading = record { orderers = n; leader = l } in s)
    (ap (λ (s : Leading). s.orderers) c.self.view_is)
    (ap Some (c.pass.ensures best) ∙ ap (λ (l : Option Leader). option_map (without_below c.args.known) l) leads)
