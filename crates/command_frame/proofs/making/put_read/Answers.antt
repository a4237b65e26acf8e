use Rattle.std.proofs.Common.{◌∷◌, [], ◌++◌, List, ℕ, ◌∙◌, ap, arith}
use Rattle.log_base.specs.Wide.{be2, be8}
use Rattle.log_base.proofs.Wide.{length-be8}
use Rattle.command_frame.proofs.MadeItems.{target_put}
use Rattle.command_frame.proofs.making.put_read.Goals as goal

pub returns-clause-items : goal.returns-clause-items
returns-clause-items c =
    let t = c.args.target in
    let position = be8 c.args.position.0 in
    c.put_u64.ensures.items
    ∙ ap (λ (l : List ℕ). l ++ position) (c.put_target.ensures.items ∙ ap (λ (l : List ℕ). l ++ (2 ∷ t.lane ∷ be2 t.shard.0 ++ t.replica.0 ∷ [])) c.put_u32.ensures.items)
    ∙ target_put c.args.out.now.items 13 2 t.lane t.shard.0 t.replica.0 position (omega (arith, length-be8 c.args.position.0))
