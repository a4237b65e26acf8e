-- The passes, one after another.
use Rattle.std.proofs.Common.{◌≡◌, ℕ, zero, suc, ◌+◌, ◌⊎◌, inl, inr, ⊎_elim, List, [], ◌∷◌, ◌++◌, map, length, Option, Some, slice_get, refl, sym, ap, ◌∙◌, subst, arith, length-append}
use Rattle.std.proofs.lemmas.Option.{none-some, slice_get_within}
use lib.ListN.{length-map}
use Rattle.atomic_table.specs.Table.{Me}
use Rattle.atomic_table.specs.Seated.{TableId}
use Rattle.atomic_table.specs.declared.shared.Seat.{Seat}
use Rattle.tied_cells.specs.declared.board.Stored.{Stored}
use Rattle.tied_cells.specs.declared.board.Deal.{Deal}
use Rattle.tied_cells.specs.declared.board.Own.{Own}
use Rattle.tied_cells.specs.declared.board.View.{View}
use Rattle.tied_cells.specs.declared.board.Opened.{Opened}
use Rattle.tied_cells.specs.Rule.{opened_from, first_view}
use Rattle.tied_cells.specs.declared.account.Account.{Account}
use Rattle.tied_cells.specs.Opening.{IsNew, ArePasses}

-- what stands in a list with one more: what stood there, or the last, at the end
pub in_pushed : {X : Type 0} (xs : List X) (x : X) (k : ℕ) (y : X) → slice_get (xs ++ x ∷ []) k ≡ Some y → (slice_get xs k ≡ Some y) ⊎ ((k ≡ length xs) × (x ≡ y))
in_pushed [] x zero y h = inr (refl, cc)
in_pushed [] x (suc k) y h = absurd (none-some y h)
in_pushed (z ∷ xs) x zero y h = inl h
in_pushed (z ∷ xs) x (suc k) y h = ⊎_elim (λ e. inl e) (λ (p : (k ≡ length xs) × (x ≡ y)). inr (ap suc p.0, p.1)) (in_pushed xs x k y h)

module _ {A S H : Type 0} where
  -- so many passes were split off
  pub record SomePasses (table : TableId) (deal : Deal S) (room n : ℕ) (passes : List (Seat (Stored A H) (View S H) × Account)) : Type 0 where
    pub as_many : length passes ≡ n
    pub each : (k : ℕ) (pass : Seat (Stored A H) (View S H) × Account) → slice_get passes k ≡ Some pass → (pass.0.table_id ≡ table) × IsNew deal k [] 0 room pass.0.me pass.1

  pub no_passes : (table : TableId) (deal : Deal S) (room : ℕ) → SomePasses table deal room 0 []
  no_passes table deal room = record { as_many = refl; each = λ k pass h. absurd (none-some pass h) }

  pub more_passes : (table : TableId) (deal : Deal S) (room n : ℕ) (passes : List (Seat (Stored A H) (View S H) × Account)) (pass : Seat (Stored A H) (View S H) × Account) → SomePasses table deal room n passes
      → pass.0.table_id ≡ table → IsNew deal n [] 0 room pass.0.me pass.1 → SomePasses table deal room (n + 1) (passes ++ pass ∷ [])
  more_passes table deal room n passes pass some at new = record {
    as_many = length-append passes (pass ∷ []) ∙ ap (λ (k : ℕ). k + 1) some.as_many;
    each = λ k p there. ⊎_elim (λ e. some.each k p e)
        (λ (t : (k ≡ length passes) × (pass ≡ p)). subst (λ (x : ℕ × (Seat (Stored A H) (View S H) × Account)). (x.1.0.table_id ≡ table) × IsNew deal x.0 [] 0 room x.1.0.me x.1.1)
        (λ i. ((sym some.as_many ∙ sym t.0) i, t.1 i)) (at, new))
        (in_pushed passes pass k p there);
  }

  pub all_passes : (table : TableId) (deal : Deal S) (own : List (Own H)) (bytes room n : ℕ) (passes : List (Seat (Stored A H) (View S H) × Account)) (pass : Seat (Stored A H) (View S H) × Account)
      → n + 1 ≡ deal.passes → SomePasses table deal room n passes → pass.0.table_id ≡ table → IsNew deal n own bytes room pass.0.me pass.1 → ArePasses table deal own bytes room (passes ++ pass ∷ [])
  all_passes table deal own bytes room n passes pass count some at new = record {
    as_many = length-append passes (pass ∷ []) ∙ (ap (λ (k : ℕ). k + 1) some.as_many ∙ count);
    tables = λ k p there. ⊎_elim (λ e. (some.each k p e).0) (λ (t : (k ≡ length passes) × (pass ≡ p)). subst (λ (x : Seat (Stored A H) (View S H) × Account). x.0.table_id ≡ table) t.1 at) (in_pushed passes pass k p there);
    others = λ k p there below. ⊎_elim (λ e. (some.each k p e).1) (λ (t : (k ≡ length passes) × (pass ≡ p)). let m = some.as_many in let e = t.0 in absurd (omega arith)) (in_pushed passes pass k p there);
    last = λ k p there is. ⊎_elim (λ e. let w = slice_get_within passes k p e in let m = some.as_many in absurd (omega arith))
        (λ (t : (k ≡ length passes) × (pass ≡ p)). subst (λ (x : ℕ × (Seat (Stored A H) (View S H) × Account)). IsNew deal x.0 own bytes room x.1.0.me x.1.1) (λ i. ((sym some.as_many ∙ sym t.0) i, t.1 i)) new)
        (in_pushed passes pass k p there);
  }

  -- a new pass stays so where it counts those that were split from it
  pub new_still : (deal : Deal S) (number : ℕ) (own : List (Own H)) (bytes room : ℕ) (me again : Me (Stored A H) (View S H)) (account : Account) (given : Option ℕ) → IsNew deal number own bytes room me account
      → again ≡ (record me.0 { given = given }, me.1) → IsNew deal number own bytes room again account
  new_still deal number own bytes room me again account given new is =
      let there : IsNew deal number own bytes room (record me.0 { given = given }, me.1) account = record {
        deal_is = new.deal_is;
        own_is = new.own_is;
        turn_is = new.turn_is;
        fetched_is = new.fetched_is;
        posted_is = new.posted_is;
        notes_are = new.notes_are;
        slots_are = new.slots_are;
        alone = new.alone;
        account_is = new.account_is;
      } in
      subst (λ (x : Me (Stored A H) (View S H)). IsNew deal number own bytes room x account) (sym is) there

pub length-opened : {H : Type 0} (place : ℕ) (opening : List (Opened H)) → length (opened_from place opening) ≡ length opening
length-opened place [] = refl
length-opened place (event ∷ opening) = ap suc (length-opened (suc place) opening)

-- the pass that is made first is new
pub first_new : {A S H : Type 0} (deal : Deal S) (opening : List (Opened H)) (me : Me (Stored A H) (View S H)) (account : Account) (number : ℕ) → me ≡ (first_view deal opening, [])
    → account ≡ record { number = number; used = length opening; places = deal.quota; bytes = account.bytes; room = account.room }
    → IsNew me.0.deal account.number me.0.own account.bytes account.room me account
first_new {A} {S} {H} deal opening me account number is account_is =
    let counted : account ≡ record { number = account.number; used = length (opened_from 0 opening); places = deal.quota; bytes = account.bytes; room = account.room } =
    account_is ∙ (λ i. record { number = (sym account_is i).number; used = sym (length-opened 0 opening) i; places = deal.quota; bytes = account.bytes; room = account.room }) in
    subst (λ (x : Me (Stored A H) (View S H)). IsNew x.0.deal account.number x.0.own account.bytes account.room x account) (sym is) (record {
      deal_is = refl;
      own_is = refl;
      turn_is = refl;
      fetched_is = refl;
      posted_is = refl;
      notes_are = refl;
      slots_are = refl;
      alone = refl;
      account_is = counted;
    })

-- the two of a list of two, taken from its end
pub two_at : {X Y : Type 0} (f : X → Y) (all others rest : List X) (a b : X) → length (map f all) ≡ 2 → all ≡ others ++ b ∷ [] → others ≡ rest ++ a ∷ [] → (slice_get (map f all) 0 ≡ Some (f a)) × (slice_get (map f all) 1 ≡ Some (f b))
two_at f all others [] a b many split again = let whole = split ∙ ap (λ (l : List _). l ++ b ∷ []) again in
    (ap (λ (l : List _). slice_get (map f l) 0) whole, ap (λ (l : List _). slice_get (map f l) 1) whole)
two_at f all others (x ∷ rest) a b many split again =
    let whole = split ∙ ap (λ (l : List _). l ++ b ∷ []) again in
    let long = ap length whole in let mapped = length-map all f in
    let one = length-append ((x ∷ rest) ++ a ∷ []) (b ∷ []) in let two = length-append (x ∷ rest) (a ∷ []) in absurd (omega arith)
