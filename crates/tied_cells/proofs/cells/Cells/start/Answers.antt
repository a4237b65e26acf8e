use Rattle.std.proofs.Common.{rules, ◌≡◌, ◌-◌, ◌/◌, ◌≤◌, List, ℕ, [], map, length, take, sym, ap, ◌∙◌, subst, append-nil}
use lib.ListN.{length-map}
use Rattle.tied_cells.specs.declared.board.Own.{Own}
use Rattle.tied_cells.specs.Rule.{opened_from}
use Rattle.tied_cells.specs.Opening.{IsOpening, ArePasses, laid, machines_in, opened_event}
use Rattle.tied_cells.proofs.Starts.{opens_none}
use Rattle.tied_cells.proofs.Leaving.{when_ok, when_err, sizes_opened, owns_opened, made_many, left_so, left_none}
use Rattle.tied_cells.proofs.cells.Cells.start.Goals as goal

pub returns-in_default-clause-err : goal.returns-in_default-clause-err
returns-in_default-clause-err g c = left_none g.M.Machine.state g.M.Machine.meanings c.args.opening.items c.args.machines.items

pub open_all-requires-clause-none : goal.open_all-requires-clause-none
open_all-requires-clause-none g c =
    let m = g.M.Machine.meanings in let state = g.M.Machine.state in let laid_so = c.lay.ensures.cells in
    let o = opens_none state m c.args.machines.items laid_so.0 laid_so.2 in
    let starts = subst (λ machines. IsOpening state m (map state machines.items) [] (laid laid_so.0) []) (sym c.of-starts.ensures) o in
    let slots = subst (λ slots. IsOpening state m (map state c.of-starts.result.value.items) [] slots []) (sym laid_so.1) starts in
    subst (IsOpening state m (map state c.of-starts.result.value.items) [] c.lay.new.slots.items) (sym c.new-made.ensures.items) slots

pub returns-then-is_err-clause-err : goal.returns-then-is_err-clause-err
returns-then-is_err-clause-err g c =
    let m = g.M.Machine.meanings in let state = g.M.Machine.state in
    let e = when_err c.open_all.result (sym c.is_err.ensures.value ∙ c.if-is_err.true) c.open_all.ensures.err in
    let o = subst (λ machines. IsOpening state m (map state machines.items) e.0 c.open_all.new.slots.items c.open_all.new.made.items) c.of-starts.ensures e.3 in
    let len : c.len-nodes.result ≡ length c.args.machines.items = search rules in
    left_so state m (map state c.args.machines.items) c.args.opening.items e.0 e.1 c.open_all.new.slots.items c.open_all.new.made.items c.give_back.result.items c.len-nodes.result e.2 o
    (len ∙ sym (length-map c.args.machines.items state)) c.give_back.ensures

pub raise-requires-clause-few : goal.raise-requires-clause-few
raise-requires-clause-few g c =
    let o = when_ok c.open_all.result (sym c.is_err.ensures.value ∙ c.if-is_err.false) c.open_all.ensures.ok in
    let many = made_many g.M.Machine.state g.M.Machine.meanings (map g.M.Machine.state c.of-starts.result.value.items) c.args.opening.items c.open_all.new.slots.items c.open_all.new.made.items o in
    subst (λ (n : ℕ). n ≤ 131072 / c.args.passes) (sym many) c.requires.places

pub raise-requires-clause-account : goal.raise-requires-clause-account
raise-requires-clause-account g c =
    let o = when_ok c.open_all.result (sym c.is_err.ensures.value ∙ c.if-is_err.false) c.open_all.ensures.ok in
    let many = made_many g.M.Machine.state g.M.Machine.meanings (map g.M.Machine.state c.of-starts.result.value.items) c.args.opening.items c.open_all.new.slots.items c.open_all.new.made.items o in
    let len : c.len-used.result ≡ length c.args.opening.items = search rules in
    (λ i. record { number = c.args.passes - 1; used = (len ∙ sym many) i; places = 131072 / c.args.passes; bytes = c.args.room; room = 536870912 / c.args.passes })

pub raise-requires-clause-bytes : goal.raise-requires-clause-bytes
raise-requires-clause-bytes g c =
    let m = g.M.Machine.meanings in let state = g.M.Machine.state in
    let o = subst (λ machines. IsOpening state m (map state machines.items) c.args.opening.items c.open_all.new.slots.items c.open_all.new.made.items) c.of-starts.ensures
    (when_ok c.open_all.result (sym c.is_err.ensures.value ∙ c.if-is_err.false) c.open_all.ensures.ok) in
    (subst (λ (n : ℕ). n ≤ c.args.room) (sym (sizes_opened m 0 c.open_all.new.made.items)) (c.requires.bytes (map opened_event c.open_all.new.made.items) o.asked o.opened.legal), c.requires.room)

pub returns-in-Ok-raise-clause-passes : goal.returns-in-Ok-raise-clause-passes
returns-in-Ok-raise-clause-passes g c =
    let m = g.M.Machine.meanings in let state = g.M.Machine.state in
    let o = subst (λ machines. IsOpening state m (map state machines.items) c.args.opening.items c.open_all.new.slots.items c.open_all.new.made.items) c.of-starts.ensures
    (when_ok c.open_all.result (sym c.is_err.ensures.value ∙ c.if-is_err.false) c.open_all.ensures.ok) in
    let log = map opened_event c.open_all.new.made.items in (
      log,
      o.asked,
      o.opened.legal,
      subst (λ (own : List (Own g.row.M-Happened.Denot)). ArePasses c.in-Ok-raise.made.0.table.shared.table_id (record { starts = map state c.args.machines.items; passes = c.args.passes; quota = 131072 / c.args.passes }) own
          c.args.room (536870912 / c.args.passes) (map (λ p. (p.seat, p.account)) c.in-Ok-raise.made.1.items)) (owns_opened 0 c.open_all.new.made.items)
          (subst (λ machines. ArePasses c.in-Ok-raise.made.0.table.shared.table_id (record { starts = map state machines.items; passes = c.args.passes; quota = 131072 / c.args.passes }) (opened_from 0 c.open_all.new.made.items)
          c.args.room (536870912 / c.args.passes) (map (λ p. (p.seat, p.account)) c.in-Ok-raise.made.1.items)) c.of-starts.ensures c.in-Ok-raise.ensures.passes),
    )

pub returns-in-Err-clause-err : goal.returns-in-Err-clause-err
returns-in-Err-clause-err g c =
    let m = g.M.Machine.meanings in let state = g.M.Machine.state in
    let o = subst (λ machines. IsOpening state m (map state machines.items) c.args.opening.items c.open_all.new.slots.items c.open_all.new.made.items) c.of-starts.ensures
    (when_ok c.open_all.result (sym c.is_err.ensures.value ∙ c.if-is_err.false) c.open_all.ensures.ok) in
    let len : c.len-nodes.result ≡ length c.args.machines.items = search rules in
    left_so state m (map state c.args.machines.items) c.args.opening.items c.args.opening.items [] c.open_all.new.slots.items c.open_all.new.made.items c.give_back-in-Err.result.items c.len-nodes.result
    (sym (append-nil c.args.opening.items)) o (len ∙ sym (length-map c.args.machines.items state))
    (c.give_back-in-Err.ensures ∙ ap (λ slots. machines_in (take c.len-nodes.result slots)) c.in-Err.ensures.err)
