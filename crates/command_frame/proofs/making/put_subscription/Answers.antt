use Rattle.std.proofs.Common.{◌∷◌, [], ◌++◌, List, ℕ, ◌∙◌, ap, append_assoc, length-append, arith}
use Rattle.log_base.specs.Wide.{be2, be8}
use Rattle.log_base.proofs.Wide.{length-be2, length-be8}
use Rattle.command_frame.proofs.MadeItems.{target_put}
use Rattle.command_frame.proofs.making.put_subscription.Goals as goal

pub returns-clause-items : goal.returns-clause-items
returns-clause-items c =
    let t = c.args.target in
    let from = be8 c.args.from.0 in
    let count = be2 c.args.count in
    let front = c.put_target.ensures.items ∙ ap (λ (l : List ℕ). l ++ (3 ∷ t.lane ∷ be2 t.shard.0 ++ t.replica.0 ∷ [])) c.put_u32.ensures.items in
    c.put_u16.ensures.items
    ∙ ap (λ (l : List ℕ). l ++ count) (c.put_u64.ensures.items ∙ ap (λ (l : List ℕ). l ++ from) front)
    ∙ append_assoc _ from count
    ∙ target_put c.args.out.now.items 15 3 t.lane t.shard.0 t.replica.0 (from ++ count)
    (omega (arith, length-append from count, length-be8 c.args.from.0, length-be2 c.args.count))
