use Rattle.std.proofs.Common.{rules, ◌≡◌, ◌+◌, ◌*◌, ◌-◌, ℕ, map, length, set, replicate, sym, ◌∙◌}
use lib.ListN.{length-map}
use Rattle.tied_cells.specs.Rule.{deal_of}
use Rattle.tied_cells.proofs.FirstRule.{first_rule}
use Rattle.tied_cells.proofs.Handed.{first_new}
use Rattle.tied_cells.proofs.starting.raise.Goals as goal

pub new-requires : goal.new-requires
new-requires g c =
    let deal = deal_of g.M.Machine.state c.args.key in
    let many : length (map g.M.Machine.state c.args.key.starts.value.items) ≡ c.args.nodes = length-map c.args.key.starts.value.items g.M.Machine.state ∙ sym c.requires.nodes.0 in
    let len : c.len.result ≡ length c.args.key.opening.items = search rules in
    let words = c.as_slice.ensures.value ∙ ((λ i. set (c.requires.words i) 0 (len i)) ∙ (λ i. set (replicate {A = ℕ} (17 * sym many i + 1) 0) 0 (length c.args.key.opening.items))) in
    first_rule g.M.Machine.state g.M.Machine.meanings deal c.requires.opening.0 c.args.slots.items c.args.key.opening.items c.as_slice.result.now c.requires.sound c.requires.small.0 c.requires.small.1 c.requires.few c.requires.opening.1 words

pub hand_out-requires-clause-new : goal.hand_out-requires-clause-new
hand_out-requires-clause-new g c =
    first_new (deal_of g.M.Machine.state c.args.key) c.args.key.opening.items c.in-Ok.seat.me c.args.account (c.args.key.passes - 1) c.in-Ok.ensures.ok.4 c.requires.account
