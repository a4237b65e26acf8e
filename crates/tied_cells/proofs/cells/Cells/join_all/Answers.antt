use Rattle.std.proofs.Common.{arith, ◌≡◌, ◌∷◌, [], ℕ, List, Some, slice_get, length, refl, sym, ap, ◌∙◌, subst, ⊎_elim, inl, inr}
use Rattle.log_base.proofs.Legal.{at_longer}
use Rattle.tied_cells.specs.Rule.{deal_of}
use Rattle.tied_cells.specs.Closing.{IsPartOf}
use Rattle.tied_cells.proofs.Tries.{at_end}
use Rattle.tied_cells.proofs.Handed.{in_pushed}
use Rattle.tied_cells.proofs.Closes.{part_stays, part_joined}
use Rattle.tied_cells.proofs.Sharing.{joins}
use Rattle.tied_cells.proofs.cells.Cells.join_all.Goals as goal

pub join_seat-requires : goal.join_seat-requires
join_seat-requires g c =
    let pass = c.in-Some.pass in let inv = c.passes.invariant in
    let at : slice_get c.passes.passes.items (length c.pop.new.self.items) ≡ Some pass =
    ap (λ l. slice_get l (length c.pop.new.self.items)) c.in-Some.ensures.items ∙ at_end c.pop.new.self.items pass (length c.pop.new.self.items) refl in
    let there = inv.left (length c.pop.new.self.items) pass at in
    let none = c.requires.no_turn (length c.pop.new.self.items) pass there in (
      inv.table ∙ c.requires.table,
      c.requires.tables (length c.pop.new.self.items) pass there,
      none.1,
      (let words = c.args.self.now.sized.1 in omega arith),
      joins g.M.Machine.state g.M.Machine.meanings (deal_of g.M.Machine.state c.args.self.now.table.shared.key) c.passes.seat.id pass.seat.id c.passes.seat.me.0 pass.seat.me.0 inv.alive pass.is_alive none.0 pass.is_free,
    )

pub passes-preserved : goal.passes-preserved
passes-preserved g c =
    let one = c.in-Some.pass in let inv = c.passes.invariant in let me = c.join_seat.ensures.2 in
    let now : (number : ℕ) (own : List _) → IsPartOf number own c.passes.seat.me.0 → IsPartOf number own c.join_seat.new.seat.me.0 =
    λ number own part. subst (λ x. IsPartOf number own x.0) (sym me) (part_stays number own c.passes.seat.me.0 one.seat.me.0 part) in
    record {
      table = c.join_seat.ensures.0 ∙ inv.table;
      alive = (λ i. (me i).0.alive) ∙ inv.alive;
      turn = (λ i. (me i).0.turn) ∙ inv.turn;
      before = λ number own part. now number own (inv.before number own part);
      joined = λ k pass there. ⊎_elim
          (λ (still : slice_get c.passes.passes.items k ≡ Some pass). ⊎_elim (λ e. inl e)
          (λ (t : (k ≡ length c.pop.new.self.items) × (one ≡ pass)). inr (subst (λ p. IsPartOf p.account.number p.seat.me.0.own c.join_seat.new.seat.me.0) t.1
          (subst (λ (n : ℕ). IsPartOf n one.seat.me.0.own c.join_seat.new.seat.me.0) one.number_is (subst (λ x. IsPartOf one.seat.me.0.number one.seat.me.0.own x.0) (sym me) (part_joined c.passes.seat.me.0 one.seat.me.0)))))
          (in_pushed c.pop.new.self.items one k pass (ap (λ l. slice_get l k) (sym c.in-Some.ensures.items) ∙ still)))
          (λ part. inr (now pass.account.number pass.seat.me.0.own part))
          (inv.joined k pass there);
      left = λ k pass there. inv.left k pass (ap (λ l. slice_get l k) c.in-Some.ensures.items ∙ (at_longer c.pop.new.self.items (one ∷ []) k pass there).0);
    }
