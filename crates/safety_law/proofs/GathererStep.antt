-- Each outcome of an event at a gatherer.
use Rattle.std.proofs.Common.{◌≡◌, ℕ, [], Some, refl, sym, ap, subst, ◌∙◌}
use Rattle.aggregator.specs.Hearing.{Hearing, fresh}
use Rattle.history_frame.specs.declared.inputs.Input.{Input}
use Rattle.history_frame.specs.declared.inputs.Mark.{Mark}
use Rattle.log_base.specs.ClusterShape.{InRange, Shape}
use Rattle.node_table.specs.declared.role.Role.TheVariants.{Gatherer}
use Rattle.node_model.specs.GathererRow.{GathererChange, GathererNode, GathererOutcome, gatherer_role, outcome, row}
use Rattle.node_model.specs.Marks.{Mode, Running, Stopped, stopped}
use Rattle.node_model.specs.Turning.{Turned, Ran, Fell, Slept, Stopped_now, Opened, Opened_more}
use Rattle.node_model.proofs.Turning.{for_some_at, turned}
use Rattle.safety_law.specs.Fit.{IsGatherer, IsHearing}
use Rattle.safety_law.specs.Letters.{AreGoodLetters}
use Rattle.safety_law.specs.Lists.{Lists}
use Rattle.safety_law.proofs.GathererRows.{GathererFits, fresh_hears, row_fits}
use Rattle.safety_law.specs.Events.{IsGoodInput}
use Rattle.safety_law.proofs.Sending.{none_sent}

pub record GathererMade (config : Shape) (lists : Lists) (made : GathererOutcome) : Type 0 where
  pub node : IsGatherer config lists made.node
  pub letters : AreGoodLetters config lists made.outputs

abbrev Hears : Shape → Lists → Mode ⊥ (Unit {0}) Hearing → Type 0
Hears config lists (Stopped flight known) = Unit {0}
Hears config lists (Running hearing) = IsHearing config lists hearing

hears_all : (config : Shape) (lists : Lists) (m : Mode ⊥ (Unit {0}) Hearing) → Hears config lists m → (hearing : Hearing) → m ≡ Running hearing → IsHearing config lists hearing
hears_all config lists (Stopped flight known) h hearing e = absurd (cc)
hears_all config lists (Running memory) h hearing e = subst (Hears config lists) e h

module _ (config : Shape) (range : InRange config) (lists : Lists) (index : ℕ) (node : GathererNode) (good : IsGatherer config lists node)
    (x : Input) (f : IsGoodInput config lists (Gatherer index) x) where
  still : (m : Mode ⊥ (Unit {0}) Hearing) (made : GathererOutcome) → Hears config lists m → made.node.mode ≡ m → made.outputs ≡ [] → GathererMade config lists made
  still m made h e none = record {
    node = λ hearing is. hears_all config lists m h hearing (sym e ∙ is);
    letters = subst (AreGoodLetters config lists) (sym none) (none_sent config lists);
  }

  stopped_hears : (m : Mode ⊥ (Unit {0}) Hearing) → Hears config lists (stopped (gatherer_role config index) m)
  stopped_hears (Stopped flight known) = tt
  stopped_hears (Running hearing) = tt

  as_was : (m : Mode ⊥ (Unit {0}) Hearing) → node.mode ≡ m → Hears config lists m
  as_was (Stopped flight known) e = tt
  as_was (Running hearing) e = good hearing e

  change : (memory : Hearing) (c : GathererChange) → node.mode ≡ Running memory → row config index memory x ≡ Some c → GathererFits config lists c
  change memory c m e = for_some_at (GathererFits config lists) (row config index memory x) c (row_fits config range lists memory (good memory m) index x f) e

  made_good : (mark : Mark) (made : GathererOutcome) → Turned (gatherer_role config index) node x mark made → GathererMade config lists made
  made_good mark made (Ran memory c m e done is) =
      let k = change memory c m e in
      record {
        node = λ hearing h. hears_all config lists (Running c.after) k.after hearing (sym (ap (λ (o : GathererOutcome). o.node.mode) is) ∙ h);
        letters = subst (AreGoodLetters config lists) (sym (ap (λ (o : GathererOutcome). o.outputs) is)) k.letters;
      }
  made_good mark made (Fell memory c put m e puts halts is) = absurd put
  made_good mark made (Slept flight known m done is) =
      still node.mode made (as_was node.mode refl) (ap (λ (o : GathererOutcome). o.node.mode) is) (ap (λ (o : GathererOutcome). o.outputs) is)
  made_good mark made (Stopped_now is) =
      still (stopped (gatherer_role config index) node.mode) made (stopped_hears node.mode) (ap (λ (o : GathererOutcome). o.node.mode) is) (ap (λ (o : GathererOutcome). o.outputs) is)
  made_good mark made (Opened without is) =
      still (Running (fresh index config.replicas config.shards)) made (fresh_hears config lists index) (ap (λ (o : GathererOutcome). o.node.mode) is) (ap (λ (o : GathererOutcome). o.outputs) is)
  made_good mark made (Opened_more p flight with_it is) = absurd p

  pub outcome_good : (mark : Mark) (made : GathererOutcome) → outcome config index node x mark ≡ Some made → GathererMade config lists made
  unfolding outcome
  outcome_good mark made e = made_good mark made (turned (gatherer_role config index) node x mark made e)
