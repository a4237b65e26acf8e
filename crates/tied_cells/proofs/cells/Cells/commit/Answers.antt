use Rattle.std.proofs.Common.{ap, arith}
use Rattle.tied_cells.specs.Sizes.{sizes_of}
use Rattle.tied_cells.specs.Views.{turn_node}
use Rattle.tied_cells.proofs.Quotas.{sizes_push}
use Rattle.tied_cells.proofs.cells.Cells.commit.Goals as goal

pub invariant_of-pass-clause-bytes_are : goal.invariant_of-pass-clause-bytes_are
invariant_of-pass-clause-bytes_are g c =
    let m = g.M.Machine.meanings in
    let old = c.args.pass.now.seat.me.0 in
    let own = ap (λ me. sizes_of m me.0.own) c.place_event-place.ensures.view in
    let more = sizes_push m old.own (record { place = c.place_event-place.result.0; node = turn_node old.turn; happened = c.args.happened }) in
    let bytes = ap (λ account. account.bytes) c.charge.ensures.after in
    let size = c.requires.bytes in let before = c.args.pass.now.bytes_are in
    omega arith
