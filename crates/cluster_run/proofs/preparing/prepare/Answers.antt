use Rattle.std.proofs.Common.{ℕ, List, slice_get, ap, ◌∙◌, sym}
use Rattle.cluster_run.proofs.LanesBelow.{lanes_below}
use Rattle.cluster_run.proofs.preparing.prepare.Goals as goal

pub count_lanes-count-requires : goal.count_lanes-count-requires
count_lanes-count-requires g c = record {
  few = λ k lane there.
      lanes_below c.requires.items.0 c.args.items.now c.requires.items.1 k lane (ap (λ (l : List ℕ). slice_get l k) (sym (c.deref.ensures.value ∙ c.in_ok-lanes.ensures)) ∙ there);
}
