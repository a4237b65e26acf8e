use Rattle.std.proofs.Common.{◌≡◌, ◌∷◌, ◌++◌, [], ◌+◌, ◌*◌, ℕ, List, length, slice_get, Some, sym, ap, subst, length-append, ◌∙◌}
use Rattle.log_base.specs.Shape.{shape}
use Rattle.node_model.specs.Sound.{payloads_on}
use Rattle.history_walk.specs.Beginning.{IsNode, MemoryNode}
use Rattle.history_walk.specs.Keeping.{AreShort}
use Rattle.history_walk.proofs.Begun.{each_push, sound_short}
use Rattle.history_walk.proofs.beginning.begin.Goals as goal

pub lists_of-requires : goal.lists_of-requires
lists_of-requires c = subst (λ (count : ℕ). AreShort (count * 8) c.args.kept.items) (sym c.nodes.ensures) (sound_short (shape c.args.config.now) c.args.kept.items c.requires)

pub loop-number-preserved : goal.loop-number-preserved
loop-number-preserved c =
    let kept = payloads_on c.args.kept.items in
    let inv = c.loop-number.invariant in
    let items : c.push.new.self.items ≡ c.loop-number.made.items ++ c.in_ok-node.node ∷ [] = c.in_ok-push.ensures.items in
    record {
      lists = c.in_ok-node.ensures.others kept inv.lists;
      all = ap length items ∙ length-append c.loop-number.made.items (c.in_ok-node.node ∷ []) ∙ ap (λ (n : ℕ). n + 1) inv.all;
      each = subst (λ (l : List MemoryNode). (k : ℕ) (node : MemoryNode) → slice_get l k ≡ Some node → IsNode (shape c.args.config.now) kept [] k node) (sym items)
          (each_push (λ k node. IsNode (shape c.args.config.now) kept [] k node) c.loop-number.made.items c.in_ok-node.node inv.each
          (subst (λ (n : ℕ). IsNode (shape c.args.config.now) kept [] n c.in_ok-node.node) (sym inv.all) (c.in_ok-node.ensures.begun kept inv.lists)));
    }
