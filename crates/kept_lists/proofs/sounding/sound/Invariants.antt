use Rattle.std.proofs.Common.{ℕ, ◌<◌}
use Rattle.log_base.specs.Shape.{shape}
use Rattle.node_model.specs.Sound.{IsSoundOne}
use Rattle.kept_lists.proofs.sounding.sound.Given as goal

-- no payload before this one breaks soundness
abbrev pub invariant-loop-index : goal.invariant-loop-index
invariant-loop-index l = (earlier : ℕ) → earlier < l.index → IsSoundOne (shape l.config) l.run l.kept earlier
