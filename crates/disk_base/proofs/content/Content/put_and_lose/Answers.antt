use Rattle.std.proofs.Common.{◌≡◌, ◌-◌, ◌≤◌, ◌++◌, [], ◌∷◌, length, take, true, sym, ap, ◌∙◌, subst, arith, rules, vec_capacity}
use Rattle.std.proofs.lemmas.List.{length-take-le}
use Rattle.std.proofs.lemmas.Grind.{common_steps}
use Rattle.disk_base.specs.Replay.{Kept, Recorded, went_back}
use Rattle.disk_base.specs.declared.content.Step.TheVariants.{Wrote}
use Rattle.disk_base.proofs.Orders.{lose_order, lose_kept}
use Rattle.disk_base.proofs.content.Content.put_and_lose.Goals as goal

pub invariant_of-self : goal.invariant_of-self
invariant_of-self c =
    let writes : 1 ≤ c.self.inside.writes_left = subst (λ (r : Recorded). 1 ≤ r.writes_left) (sym c.self.view_is) c.requires.writes in
    let bytes : length c.args.bytes.now ≤ c.self.inside.bytes_left = subst (λ (r : Recorded). length c.args.bytes.now ≤ r.bytes_left) (sym c.self.view_is) c.requires.bytes in
    let size : length (take c.args.keep c.args.bytes.now) ≡ c.args.keep = length-take-le c.args.keep c.args.bytes.now c.requires.keep in
    let written : c.extend_from_slice.new.self.items ≡ c.self.inside.written.items ++ take c.args.keep c.args.bytes.now = grind (arith, common_steps) in
    let steps : c.push.new.self.items ≡ c.self.inside.steps.items ++ Wrote c.args.at c.args.keep true ∷ [] = grind (arith, common_steps) in
    let now : c.copy_from.new.bytes.items ≡ c.self.inside.synced.items = search rules in
    lose_order _ _ _ _ _ _ _ _ _ _ _ _ _ _ c.self.invariant c.args.at (length c.args.bytes.now) c.args.keep (take c.args.keep c.args.bytes.now)
    (sym size) (omega arith) bytes writes (subst (λ (r : Recorded). c.args.at ≤ length r.kept.seen) (sym c.self.view_is) c.requires.place)
    _ _ _ _ written (omega arith) (omega arith) _ _ steps now (omega arith)

pub returns-clause-after : goal.returns-clause-after
returns-clause-after c =
    let writes : 1 ≤ c.self.inside.writes_left = subst (λ (r : Recorded). 1 ≤ r.writes_left) (sym c.self.view_is) c.requires.writes in
    let bytes : length c.args.bytes.now ≤ c.self.inside.bytes_left = subst (λ (r : Recorded). length c.args.bytes.now ≤ r.bytes_left) (sym c.self.view_is) c.requires.bytes in
    let size : length (take c.args.keep c.args.bytes.now) ≡ c.args.keep = length-take-le c.args.keep c.args.bytes.now c.requires.keep in
    let written : c.extend_from_slice.new.self.items ≡ c.self.inside.written.items ++ take c.args.keep c.args.bytes.now = grind (arith, common_steps) in
    let steps : c.push.new.self.items ≡ c.self.inside.steps.items ++ Wrote c.args.at c.args.keep true ∷ [] = grind (arith, common_steps) in
    let kept = lose_kept _ _ _ _ _ _ _ _ _ _ _ _ _ _ c.self.invariant c.args.at (length c.args.bytes.now) c.args.keep (take c.args.keep c.args.bytes.now)
    (sym size) (omega arith) bytes writes (subst (λ (r : Recorded). c.args.at ≤ length r.kept.seen) (sym c.self.view_is) c.requires.place)
    c.extend_from_slice.new.self.items c.push.new.self.items (vec_capacity c.extend_from_slice.new.self) (vec_capacity c.push.new.self) written (omega arith) (omega arith) c.copy_from.new.bytes.items steps in
    ap (λ (k : Kept). let r : Recorded = record { kept = k; writes_left = c.self.inside.writes_left - 1; bytes_left = c.self.inside.bytes_left - length c.args.bytes.now } in r) kept
    ∙ ap (λ (r : Recorded). let s : Recorded = record { kept = went_back r.kept c.args.at (take c.args.keep c.args.bytes.now); writes_left = r.writes_left - 1; bytes_left = r.bytes_left - length c.args.bytes.now } in s) c.self.view_is
