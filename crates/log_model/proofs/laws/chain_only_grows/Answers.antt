use Rattle.std.proofs.Common.{◌≡◌, ◌≤◌, true, sym, subst}
use Rattle.log_model.specs.Chain.{ChainState, chain_of, covered_of, is_added}
use Rattle.log_model.proofs.Appending.{chain_of-append, end-rises}
use Rattle.log_model.proofs.Growth.{chain_of-IsChain, is_added-apply_all, mark-apply_all}
use Rattle.log_model.proofs.Spelled.{covered_of-apply_all}
use Rattle.log_model.proofs.laws.chain_only_grows.Goals as goal

pub returns-clause-covered : goal.returns-clause-covered
returns-clause-covered c = λ replicas values more shard segment.
    subst (λ (chain : ChainState). covered_of (chain_of replicas values) shard segment ≤ covered_of chain shard segment)
    (sym (chain_of-append replicas values more))
    (covered_of-apply_all replicas (chain_of replicas values) more shard segment (chain_of-IsChain replicas values))

pub returns-clause-added : goal.returns-clause-added
returns-clause-added c = λ replicas values more shard added.
    subst (λ (chain : ChainState). is_added chain shard ≡ true)
    (sym (chain_of-append replicas values more))
    (is_added-apply_all replicas (chain_of replicas values) more shard added)

pub returns-clause-end : goal.returns-clause-end
returns-clause-end c = λ replicas values more.
    subst (λ (chain : ChainState). (chain_of replicas values).end ≤ chain.end)
    (sym (chain_of-append replicas values more))
    (end-rises replicas (chain_of replicas values) more)

pub returns-clause-mark : goal.returns-clause-mark
returns-clause-mark c = λ replicas values more.
    subst (λ (chain : ChainState). (chain_of replicas values).mark ≤ chain.mark)
    (sym (chain_of-append replicas values more))
    (mark-apply_all replicas (chain_of replicas values) more)
