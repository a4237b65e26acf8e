use Rattle.std.proofs.Common.{Bool, refl, sym, subst}
use Rattle.counted_node.specs.Counted.{counted_meanings}
use Rattle.history_frame.specs.declared.inputs.Input.TheVariants.{Restart, Tick}
use Rattle.tied_cells.specs.Boxes.{Fetches}
use Rattle.tied_cells.specs.declared.letter.Letter.{Letter}
use Rattle.tied_cells.specs.declared.mail.Fetched.TheVariants.{Letter as GotLetter, Empty}
use Rattle.cluster.specs.Events.{Delivers, IsTurnInput}
use Rattle.cluster.proofs.Choosing.{ok_map, on_err}
use Rattle.cluster.proofs.turning.choose.Goals as goal

pub returns-then-down-clause-chosen : goal.returns-then-down-clause-chosen
returns-then-down-clause-chosen g c =
    subst (λ (down : Bool). IsTurnInput down c.args.node.0 c.args.pass.now.seat.me c.args.pass.now.seat.me Restart) (sym c.if-down.true) (refl, refl)

pub returns-in-Letter-clause-chosen : goal.returns-in-Letter-clause-chosen
returns-in-Letter-clause-chosen g c =
    ok_map (Delivers c.in-Letter.letter) (IsTurnInput c.args.down c.args.node.0 c.args.pass.now.seat.me c.fetch.new.pass.seat.me) c.read.result
    (λ input d. subst (λ (down : Bool). IsTurnInput down c.args.node.0 c.args.pass.now.seat.me c.fetch.new.pass.seat.me input) (sym c.if-down.false)
    (GotLetter c.in-Letter.letter, c.in-Letter.ensures.outcome, d)) c.read.ensures

pub returns-in-Letter-clause-lost : goal.returns-in-Letter-clause-lost
returns-in-Letter-clause-lost g c = on_err ((letter : Letter) × Fetches counted_meanings c.args.node.0 c.args.pass.now.seat.me c.fetch.new.pass.seat.me (GotLetter letter)) c.read.result
    (c.in-Letter.letter, c.in-Letter.ensures.outcome)

pub returns-in-Empty-clause-chosen : goal.returns-in-Empty-clause-chosen
returns-in-Empty-clause-chosen g c =
    subst (λ (down : Bool). IsTurnInput down c.args.node.0 c.args.pass.now.seat.me c.fetch.new.pass.seat.me Tick) (sym c.if-down.false)
    (Empty, c.in-Empty.ensures.outcome, refl)
