use Rattle.std.proofs.Common.{arith, ◌≡◌, ◌<◌, ◌∷◌, [], ℕ, Some, map, slice_get, length, refl, sym, ap, ◌∙◌, subst, ⊎_elim, inl}
use Rattle.std.proofs.lemmas.Option.{slice_get-map, slice_get_within}
use Rattle.std.specs.Option.{option_map}
use Rattle.log_base.proofs.Legal.{at_longer}
use Rattle.tied_cells.specs.Rule.{deal_of}
use Rattle.tied_cells.specs.Closing.{IsPartOf}
use Rattle.tied_cells.proofs.Tries.{at_end}
use Rattle.tied_cells.proofs.Handed.{in_pushed}
use Rattle.tied_cells.proofs.Closes.{from_map, all_of}
use Rattle.tied_cells.proofs.cells.Cells.close.Goals as goal

pub unreachable-requires : goal.unreachable-requires
unreachable-requires g c =
    let there = c.requires.back.all_there 0 c.args.self.some_pass in
    let p = from_map (λ p. (p.seat, p.account)) c.args.passes.items there.0 there.1 there.2 in
    let within : there.0 < length c.args.passes.items = slice_get_within c.args.passes.items there.0 p.0 p.1 in
    let none = c.in_default-pop.ensures.cases.0 in
    omega arith

pub join_all-requires-clause-table : goal.join_all-requires-clause-table
join_all-requires-clause-table g c =
    let last = c.in-Some.last in let rest = c.pop.new.self.items in
    let at : slice_get c.args.passes.items (length rest) ≡ Some last = ap (λ l. slice_get l (length rest)) c.in-Some.ensures.items ∙ at_end rest last (length rest) refl in
    c.requires.back.of_these (length rest) (last.seat, last.account) (slice_get-map (λ p. (p.seat, p.account)) c.args.passes.items (length rest) ∙ ap (option_map (λ p. (p.seat, p.account))) at)

pub join_all-requires-clause-tables : goal.join_all-requires-clause-tables
join_all-requires-clause-tables g c = λ k pass there.
    let last = c.in-Some.last in let rest = c.pop.new.self.items in
    let at : slice_get c.args.passes.items k ≡ Some pass = ap (λ l. slice_get l k) c.in-Some.ensures.items ∙ (at_longer rest (last ∷ []) k pass there).0 in
    c.requires.back.of_these k (pass.seat, pass.account) (slice_get-map (λ p. (p.seat, p.account)) c.args.passes.items k ∙ ap (option_map (λ p. (p.seat, p.account))) at)

pub join_all-requires-clause-no_turn : goal.join_all-requires-clause-no_turn
join_all-requires-clause-no_turn g c = λ k pass there.
    let last = c.in-Some.last in let rest = c.pop.new.self.items in
    let at : slice_get c.args.passes.items k ≡ Some pass = ap (λ l. slice_get l k) c.in-Some.ensures.items ∙ (at_longer rest (last ∷ []) k pass there).0 in
    c.requires.back.no_turn k (pass.seat, pass.account) (slice_get-map (λ p. (p.seat, p.account)) c.args.passes.items k ∙ ap (option_map (λ p. (p.seat, p.account))) at)

pub finish-requires-clause-table : goal.finish-requires-clause-table
finish-requires-clause-table g c =
    let last = c.in-Some.last in let rest = c.pop.new.self.items in
    let at : slice_get c.args.passes.items (length rest) ≡ Some last = ap (λ l. slice_get l (length rest)) c.in-Some.ensures.items ∙ at_end rest last (length rest) refl in
    c.join_all.ensures.table ∙ c.requires.back.of_these (length rest) (last.seat, last.account) (slice_get-map (λ p. (p.seat, p.account)) c.args.passes.items (length rest) ∙ ap (option_map (λ p. (p.seat, p.account))) at)

pub finish-requires-clause-no_turn : goal.finish-requires-clause-no_turn
finish-requires-clause-no_turn g c =
    let last = c.in-Some.last in let rest = c.pop.new.self.items in
    let at : slice_get c.args.passes.items (length rest) ≡ Some last = ap (λ l. slice_get l (length rest)) c.in-Some.ensures.items ∙ at_end rest last (length rest) refl in
    c.join_all.ensures.same.1 ∙ (c.requires.back.no_turn (length rest) (last.seat, last.account) (slice_get-map (λ p. (p.seat, p.account)) c.args.passes.items (length rest) ∙ ap (option_map (λ p. (p.seat, p.account))) at)).0

pub finish-requires-clause-all : goal.finish-requires-clause-all
finish-requires-clause-all g c = λ number below.
    let last = c.in-Some.last in let rest = c.pop.new.self.items in
    let there = c.requires.back.all_there number below in
    let p = from_map (λ p. (p.seat, p.account)) c.args.passes.items there.0 there.1 there.2 in
    let part : IsPartOf p.0.account.number p.0.seat.me.0.own c.join_all.new.seat.me.0 = ⊎_elim
    (λ (e : slice_get rest there.0 ≡ Some p.0). c.join_all.ensures.joined there.0 p.0 e)
    (λ (t : (there.0 ≡ length rest) × (last ≡ p.0)). subst (λ x. IsPartOf x.account.number x.seat.me.0.own c.join_all.new.seat.me.0) t.1
    (subst (λ (n : ℕ). IsPartOf n last.seat.me.0.own c.join_all.new.seat.me.0) last.number_is (c.join_all.ensures.before last.seat.me.0.number last.seat.me.0.own (inl (refl, refl)))))
    (in_pushed rest last there.0 p.0 (ap (λ l. slice_get l there.0) (sym c.in-Some.ensures.items) ∙ p.1)) in
    let is : p.0.account.number ≡ number = ap (λ x. x.1.number) p.2 ∙ there.3 in
    (p.0.seat.me.0.own, subst (λ (n : ℕ). IsPartOf n p.0.seat.me.0.own c.join_all.new.seat.me.0) is part)

pub returns-clause-history : goal.returns-clause-history
returns-clause-history g c =
    let last = c.in-Some.last in let rest = c.pop.new.self.items in let closed = c.finish.ensures in
    let parts : (k : ℕ) (pass : _) → slice_get (map (λ p. (p.seat, p.account)) c.args.passes.items) k ≡ Some pass → IsPartOf pass.1.number pass.0.me.0.own c.join_all.new.seat.me.0 = λ k pass there.
    let p = from_map (λ p. (p.seat, p.account)) c.args.passes.items k pass there in
    subst (λ x. IsPartOf x.1.number x.0.me.0.own c.join_all.new.seat.me.0) p.2 (⊎_elim
    (λ (e : slice_get rest k ≡ Some p.0). c.join_all.ensures.joined k p.0 e)
    (λ (t : (k ≡ length rest) × (last ≡ p.0)). subst (λ x. IsPartOf x.account.number x.seat.me.0.own c.join_all.new.seat.me.0) t.1
    (subst (λ (n : ℕ). IsPartOf n last.seat.me.0.own c.join_all.new.seat.me.0) last.number_is (c.join_all.ensures.before last.seat.me.0.number last.seat.me.0.own (inl (refl, refl)))))
    (in_pushed rest last k p.0 (ap (λ l. slice_get l k) (sym c.in-Some.ensures.items) ∙ p.1))) in (
      closed.log,
      closed.one,
      all_of g.M.Machine.state g.M.Machine.meanings (deal_of g.M.Machine.state c.args.self.table.shared.key) c.join_all.new.seat.me.0 c.finish.result.machines.items c.finish.result.events
          (map (λ p. (p.seat, p.account)) c.args.passes.items) c.args.self.table.shared.table_id closed c.requires.back parts,
    )
