use Rattle.std.proofs.Common.{◌≡◌, ◌<◌, ◌∙◌, refl, sym, ap, Some, length, slice_get, subst, arith}
use Rattle.std.proofs.lemmas.Option.{slice_get-map, slice_get_read}
use Rattle.std.proofs.lemmas.List.{length-map}
use Rattle.segment_journal.specs.Journalled.{IsPayload}
use Rattle.segment_journal.specs.Listed.{Listed}
use Rattle.segment_journal.specs.Listing.{payloads_of}
use Rattle.segment_journal.specs.declared.payloads.Held.{Held}
use Rattle.segment_journal.proofs.Places.{All-slice_get}
use Rattle.segment_journal.proofs.payloads.Payloads.get.Goals as goal

is_payload : (c : goal.After-get) → IsPayload c.get.result.now
is_payload c =
    let held = c.self.inside.held.items in
    let within : c.args.index < length held = omega (arith, c.requires, ap (λ (l : Listed). length l.list) c.self.view_is, length-map held (λ (h : Held). h.payload)) in
    let there : slice_get held c.args.index ≡ Some c.index.result.now = slice_get_read held (length held) c.args.index c.index.result.now refl within c.index.ensures in
    subst IsPayload (sym c.get.ensures) (All-slice_get IsPayload (payloads_of held) c.args.index c.index.result.now.payload c.self.invariant.payloads (slice_get-map (λ (h : Held). h.payload) held c.args.index ∙ ap (Rattle.std.specs.Option.option_map (λ (h : Held). h.payload)) there))

pub returns-clause-bytes : goal.returns-clause-bytes
returns-clause-bytes c = (is_payload c).bytes

pub returns-clause-size : goal.returns-clause-size
returns-clause-size c = (is_payload c).size
