use Rattle.std.proofs.Common.{◌≡◌, ◌+◌, ◌++◌, ◌∷◌, [], ℕ, suc, List, sym, ap, ◌∙◌, arith}
use Rattle.history_frame.specs.declared.inputs.Input.{Input}
use Rattle.history_frame.specs.declared.inputs.Input.TheVariants.{Restart}
use Rattle.log_base.specs.declared.numbers.NodeId.{NodeId}
use Rattle.cluster.specs.Opening.{restarts_from}
use Rattle.cluster.proofs.Openings.{restarts_more}
use Rattle.cluster.proofs.starting.put_restarts.Goals as goal

pub loop-node-preserved : goal.loop-node-preserved
loop-node-preserved c =
    let inv = c.loop-node.invariant in let node = c.loop-node.node in
    let next : suc node ≡ node + 1 = omega arith in let here : node ≡ 0 + node = omega arith in record {
      asked = c.push_reserved.ensures.items ∙ ap (λ (l : List (NodeId × Input)). l ++ (record { 0 = node }, Restart) ∷ []) inv.asked
          ∙ (λ i. restarts_from 0 node ++ (record { 0 = here i }, Restart) ∷ []) ∙ sym (restarts_more 0 node) ∙ ap (restarts_from 0) next;
      len = c.push_reserved.ensures.len ∙ ap (λ (n : ℕ). n + 1) inv.len;
      room = c.push_reserved.ensures.capacity ∙ inv.room;
    }
