use Rattle.std.proofs.Common.{◌≡◌, refl, sym, ap, ◌∙◌}
use Rattle.orderer_node.specs.Ordering.{Ordering}
use Rattle.orderer_node.specs.declared.node.Standing.TheVariants.{Down}
use Rattle.orderer_node.proofs.Outcomes.{asleep_caused, asleep_outcome, asleep_put, nothing_posted, nothing_small}
use Rattle.orderer_node.proofs.node.OrdererNode.take.Goals as goal

pub returns-in-Down : goal.returns-in-Down
returns-in-Down g c =
    let down : c.args.self.now.standing ≡ Down = ap (λ (m : Ordering g.row.J.Denot). m.standing) (sym c.self.view_is) ∙ c.in-Down.is in
    let put = asleep_put g.J.Journal.state c.args.self.now c.args.input.now down in
    record {
      row = asleep_outcome g.J.Journal.state c.args.self.now c.args.input.now c.sleep.result.mark c.args.letters.now.sent c.sleep.result.reply c.requires.fits.allowed.named c.in_default.not-Stop
          c.in_default-input.not-Restart down c.sleep.ensures.mark c.requires.ready.sent c.sleep.ensures.reply;
      letters = nothing_posted c.args.out.now.letters c.args.letters.now.sent c.requires.ready.sent;
      small = nothing_small c.args.letters.now.sent c.requires.ready.sent;
      own = c.sleep.ensures.own;
      config = refl;
      index = refl;
      cause = λ e. asleep_caused g.J.Journal.state c.args.self.now g.J.Journal.faults g.J.Journal.keeps_synced g.J.Journal.turns _ c.sleep.result.mark put c.sleep.ensures.mark;
      restarted = λ e. absurd (c.in_default-input.not-Restart e);
    }
