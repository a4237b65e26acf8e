use Rattle.std.proofs.Common.{◌≡◌, ◌&&◌, false, length, nat_lt, ap, refl, sym, ◌∙◌}
use Rattle.std.proofs.lemmas.Bool.{and_parts}
use Rattle.schedule_model.specs.Scheduling.{is_idle, ready}
use Rattle.schedule_model.proofs.Ready.{passed-stops, ready-begins, ready-passed, ready-stays}
use Rattle.serial_schedule.proofs.schedule.Schedule.make_ready.Goals as goal

pub items-init : goal.items-init
items-init c = (ap ready c.pass.ensures.passed ∙ ready-passed c.args.self.now, c.pass.ensures.stops)

pub items-preserved : goal.items-preserved
items-preserved c =
    let waits = and_parts (is_idle c.items.self) (nat_lt 0 (length c.items.self.items)) (sym c.waits_for_item.ensures ∙ c.items-test.true) in
    let begins = ready-begins c.items.self c.items.self.items refl (passed-stops c.items.self c.items.invariant.1) waits.0 in
    (ap ready c.pass-in-items.ensures.passed ∙ ready-passed c.begin.new.self ∙ ap ready c.in_ok-begin.ensures.ok ∙ begins ∙ c.items.invariant.0, c.pass-in-items.ensures.stops)

pub returns-clause-ok : goal.returns-clause-ok
returns-clause-ok c =
    let stops : (is_idle c.items.self && nat_lt 0 (length c.items.self.items)) ≡ false = cc in
    sym (ready-stays c.items.self (passed-stops c.items.self c.items.invariant.1) stops) ∙ c.items.invariant.0
