use Rattle.std.proofs.Common.{◌≡◌, ℕ, ◌≤◌, cond, ltb, length, nat_le, rules, tests, Option, Some, None, ap, ◌∙◌, arith}
use Rattle.std.specs.Option.{unwrap_or}
use Rattle.std.specs.List.{position_or_len}
use Rattle.std.proofs.lemmas.Iterator.{YieldsList-from_slice}
use Rattle.std.proofs.lemmas.Iterator.Search.{position_from_yields_List}
use Rattle.std.proofs.lemmas.List.Sums.{prefix_len-le-length}
use Rattle.log_base.proofs.spares.oldest_with_room.Goals as goal

or_end : (at len : ℕ) → at ≤ len → unwrap_or (cond (ltb at len) (Some at) None) len ≡ at
or_end at len h = grind arith

pub returns : goal.returns
returns c =
    let at : ℕ = position_or_len (λ spare. nat_le c.args.bytes spare) c.args.spares.now in
    let len : ℕ = length c.args.spares.now in
    let found : c.position.result ≡ cond (ltb at len) (Some at) None = position_from_yields_List (λ spare. nat_le c.args.bytes spare) _ _ _ c.position.ensures.ran (YieldsList-from_slice c.args.spares.now cc) (λ x b q k. search (rules, tests)) in
    c.unwrap_or.ensures ∙ ap (λ (o : Option ℕ). unwrap_or o len) found ∙ or_end at len (prefix_len-le-length _ _)
