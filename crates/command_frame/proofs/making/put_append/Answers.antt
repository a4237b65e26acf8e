use Rattle.std.proofs.Common.{◌+◌, ◌∷◌, [], ◌++◌, List, ℕ, map, ◌∙◌, ap, arith}
use Rattle.std.specs.List.{range_with_len}
use Rattle.std.proofs.lemmas.List.FromFn.{length-map-range_with_len}
use Rattle.log_base.specs.Wide.{be2}
use Rattle.command_frame.specs.Making.{letter}
use Rattle.command_frame.proofs.MadeItems.{target_put}
use Rattle.command_frame.proofs.making.put_append.Goals as goal

pub returns-clause-items : goal.returns-clause-items
returns-clause-items c =
    let t = c.args.target in
    let letters = map (letter c.args.place) (range_with_len 0 c.args.count) in
    c.put_letters.ensures.items
    ∙ ap (λ (l : List ℕ). l ++ letters) (c.put_target.ensures.items ∙ ap (λ (l : List ℕ). l ++ (1 ∷ t.lane ∷ be2 t.shard.0 ++ t.replica.0 ∷ [])) c.put_u32.ensures.items)
    ∙ target_put c.args.out.now.items (c.args.count + 5) 1 t.lane t.shard.0 t.replica.0 letters
    (omega (arith, length-map-range_with_len (letter c.args.place) 0 c.args.count))
