use Rattle.std.proofs.Common.{◌≡◌, ℕ, Option, Some, sym, ap, ap₂, ◌∙◌}
use Rattle.paxos_model.specs.Leader.{Leader}
use Rattle.paxos_leader.specs.declared.lead.Lead.{Lead}
use Rattle.paxos_leader.specs.Kept.{kept_leader}
use Rattle.paxos_leader.specs.Leading.{Leading, again_by}
use Rattle.paxos_leader.proofs.leader.Leader.again.Goals as goal

pub returns-in-Some : goal.returns-in-Some
returns-in-Some c =
    let best = c.self.inside.best.value in
    let leads : kept_leader (Some c.in-Some.lead) best ≡ c.args.self.now.leader =
    ap (λ (l : Option Lead). kept_leader l best) (sym c.in-Some.is) ∙ ap (λ (s : Leading). s.leader) c.self.view_is in
    c.again.ensures best
    ∙ ap₂ (λ (n : ℕ) (l : Option Leader). again_by n l) (ap (λ (s : Leading). s.orderers) c.self.view_is) leads
