use Rattle.std.proofs.Common.{arith, ◌≡◌, ◌+◌, ◌∷◌, [], ℕ, Some, map, sym, ap, ◌∙◌, subst}
use Rattle.std.proofs.lemmas.List.{map-append}
use Rattle.tied_cells.specs.Views.{split_left}
use Rattle.tied_cells.specs.Opening.{IsNew, ArePasses}
use Rattle.tied_cells.proofs.Handed.{SomePasses, more_passes, all_passes, new_still}
use Rattle.tied_cells.proofs.cells.Cells.hand_out.Goals as goal

pub loop-number-preserved : goal.loop-number-preserved
loop-number-preserved g c =
    let inv = c.loop-number.invariant in let split = c.split_pass-pass.ensures in let pass = c.split_pass-pass.result in let old = c.args.first in
    let new : IsNew old.me.0.deal c.loop-number.number [] 0 c.args.account.room pass.seat.me pass.account =
    subst (λ deal. IsNew deal c.loop-number.number [] 0 c.args.account.room pass.seat.me pass.account) (λ i. (inv.view i).0.deal) split.new in
    record {
      table = split.same ∙ inv.table;
      view = split.first ∙ (λ i. (split_left (inv.view i).0, (inv.view i).1));
      passes = subst (SomePasses old.table_id old.me.0.deal c.args.account.room (c.loop-number.number + 1))
          (sym (ap (map (λ p. (p.seat, p.account))) c.push_reserved.ensures.items ∙ map-append (λ p. (p.seat, p.account)) c.loop-number.handed.items (pass ∷ [])))
          (more_passes old.table_id old.me.0.deal c.args.account.room c.loop-number.number (map (λ p. (p.seat, p.account)) c.loop-number.handed.items) (pass.seat, pass.account) inv.passes (split.table ∙ inv.table) new);
      len = c.push_reserved.ensures.len ∙ ap (λ n. n + 1) inv.len;
      capacity = c.push_reserved.ensures.capacity ∙ inv.capacity;
    }

pub returns : goal.returns
returns g c =
    let inv = c.loop-number.invariant in let old = c.args.first in
    let all : c.loop-number.number ≡ c.args.account.number = let end = c.loop-number.auto.number-end in omega arith in
    let new = new_still old.me.0.deal c.args.account.number old.me.0.own c.args.account.bytes c.args.account.room old.me c.loop-number.first.me c.args.account (Some c.loop-number.number) c.requires.new inv.view in
    let some = subst (λ (n : ℕ). SomePasses old.table_id old.me.0.deal c.args.account.room n (map (λ p. (p.seat, p.account)) c.loop-number.handed.items)) all inv.passes in
    let every = all_passes old.table_id old.me.0.deal old.me.0.own c.args.account.bytes c.args.account.room c.args.account.number (map (λ p. (p.seat, p.account)) c.loop-number.handed.items)
    (c.loop-number.first, c.args.account) c.requires.number.1 some inv.table new in
    record {
      passes = subst (λ table. ArePasses table old.me.0.deal old.me.0.own c.args.account.bytes c.args.account.room (map (λ p. (p.seat, p.account)) c.push_reserved-2.new.self.items)) c.requires.table
          (subst (ArePasses old.table_id old.me.0.deal old.me.0.own c.args.account.bytes c.args.account.room)
          (sym (ap (map (λ p. (p.seat, p.account))) c.push_reserved-2.ensures.items ∙ map-append (λ p. (p.seat, p.account)) c.loop-number.handed.items _)) every);
    }
