use Rattle.std.proofs.Common.{arith, ◌≡◌, ◌+◌, length, map, Some, slice_get, ap, ◌∙◌, refl, sym}
use Rattle.std.proofs.lemmas.Option.{slice_get-map}
use Rattle.std.specs.Option.{option_map}
use lib.ListN.{length-map}
use Rattle.std.proofs.Common.{length-append, ◌∷◌, []}
use Rattle.tied_cells.proofs.Tries.{at_end}
use Rattle.tied_cells.proofs.tests.seventy_three.Goals as goal

pub returns-clause-table : goal.returns-clause-table
returns-clause-table c =
    let p = c.in-Ok.ensures.passes.3 in let a = c.in-Some.last in let rest = c.pop.new.self.items in
    let at = ap (λ l. slice_get l (length rest)) c.in-Some.ensures.items ∙ at_end rest a (length rest) refl in
    p.tables (length rest) (a.seat, a.account) (slice_get-map (λ p. (p.seat, p.account)) c.in-Ok.passes.items (length rest) ∙ ap (option_map (λ p. (p.seat, p.account))) at)

pub returns-clause-free : goal.returns-clause-free
returns-clause-free c =
    let p = c.in-Ok.ensures.passes.3 in let a = c.in-Some.last in let rest = c.pop.new.self.items in
    let at = ap (λ l. slice_get l (length rest)) c.in-Some.ensures.items ∙ at_end rest a (length rest) refl in
    let many = p.as_many in let mapped = length-map c.in-Ok.passes.items (λ p. (p.seat, p.account)) in
    let long = ap length c.in-Some.ensures.items in let one = length-append rest (a ∷ []) in
    let last : length rest + 1 ≡ 73 = sym one ∙ (sym long ∙ (sym mapped ∙ many)) in
    let x = p.last (length rest) (a.seat, a.account) (slice_get-map (λ p. (p.seat, p.account)) c.in-Ok.passes.items (length rest) ∙ ap (option_map (λ p. (p.seat, p.account))) at) last in
    (x.turn_is, x.slots_are)
