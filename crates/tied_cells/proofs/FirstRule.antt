-- The rule holds when the table is made.
use Rattle.std.proofs.Common.{◌≡◌, ℕ, zero, suc, ◌+◌, ◌-◌, ◌*◌, ◌<◌, ◌≤◌, Bool, true, false, cond, inr, ⊎_elim, List, [], ◌∷◌, ◌++◌, map, length, replicate, set, Some, slice_get, refl, sym, ap, ◌∙◌, subst, arith, length-append, length-set, get_or-set_same, get_or-set_other, nat_eq, eq-eqb}
use Rattle.std.proofs.lemmas.Bool.{cases_lt}
use Rattle.std.proofs.lemmas.Option.{none-some, same_Some}
use Rattle.std.specs.Prelude.{slice_index}
use mathlib.Core.Option.{some, some-injective, some-ne-none}
use lib.ListN.{get_elem?, length-map, length-replicate, get_or-replicate}
use Rattle.atomic_table.specs.Table.{opening}
use Rattle.log_base.specs.Machines.{Meanings, Event, IsLegal}
use Rattle.log_base.specs.declared.numbers.NodeId.{NodeId}
use Rattle.tied_cells.specs.declared.board.Stored.{Stored}
use Rattle.tied_cells.specs.declared.board.Stored.TheVariants.{Nothing, Home}
use Rattle.tied_cells.specs.declared.board.Deal.{Deal}
use Rattle.tied_cells.specs.declared.board.Own.{Own}
use Rattle.tied_cells.specs.declared.board.Opened.{Opened}
use Rattle.tied_cells.specs.declared.board.View.{View}
use Rattle.tied_cells.specs.History.{Entry, own_of, picked, is_made_by}
use Rattle.tied_cells.specs.Rule.{World, Stands, Holds, opened_from, first_view}
use Rattle.tied_cells.specs.Opening.{opened_event, made_by, IsOpening}
use Rattle.tied_cells.proofs.Starts.{there_is, home_at, events_made, length-made}

module _ {X : Type 0} where
  pub at_home : (xs : List X) (k : ℕ) (x : X) → slice_get xs k ≡ Some x → get_elem? (map some xs) k ≡ some (some x)
  at_home [] k x h = absurd (none-some x h)
  at_home (y ∷ xs) zero x h = ap (λ (z : X). some (some z)) (same_Some y x h)
  at_home (y ∷ xs) (suc k) x h = at_home xs k x h

  alone : (x : X) (k : ℕ) (y : X) → get_elem? (x ∷ []) k ≡ some y → (k ≡ 0) × (x ≡ y)
  alone x zero y h = (refl, some-injective x y h)
  alone x (suc k) y h = absurd (some-ne-none y (sym h))

  in_replicate : (n k : ℕ) (x : X) → k < n → slice_get (replicate n x) k ≡ Some x
  in_replicate zero k x h = absurd (omega arith)
  in_replicate (suc n) zero x h = refl
  in_replicate (suc n) (suc k) x h = in_replicate n k x (omega arith)

  behind : (xs : List X) (n k : ℕ) (x : X) → length xs ≤ k → k < length xs + n → slice_get (xs ++ replicate n x) k ≡ Some x
  behind [] n k x low high = in_replicate n k x (omega arith)
  behind (y ∷ xs) n zero x low high = absurd (omega arith)
  behind (y ∷ xs) n (suc k) x low high = behind xs n k x (omega arith) (omega arith)

module _ {H : Type 0} where
  pub made_maker : (maker : ℕ) (log : List (Event H)) (k : ℕ) (entry : Entry H) → slice_get (made_by maker log) k ≡ Some entry → entry.maker ≡ maker
  made_maker maker [] k entry h = absurd (none-some entry h)
  made_maker maker (event ∷ log) zero entry h = sym (ap (λ (e : Entry H). e.maker) (same_Some (record { maker = maker; event = event }) entry h))
  made_maker maker (event ∷ log) (suc k) entry h = made_maker maker log k entry h

  pub picked_few : (test : Entry H → Bool) (place : ℕ) (log : List (Entry H)) → length (picked test place log) ≤ length log
  picked_few test place [] = omega arith
  picked_few test place (entry ∷ log) = step (test entry) (picked_few test (suc place) log)
    where
      step : (b : Bool) → length (picked test (suc place) log) ≤ length log → length (cond b (own_of place entry ∷ picked test (suc place) log) (picked test (suc place) log)) ≤ suc (length log)
      step true h = omega arith
      step false h = omega arith

  -- the events of the opening are the own list of their pass
  pub opened_own : (number place : ℕ) (made : List (Opened H)) → opened_from place made ≡ picked (is_made_by number) place (made_by number (map opened_event made))
  opened_own number place [] = refl
  opened_own number place (o ∷ made) =
      let mine : nat_eq number number ≡ true = eq-eqb number number refl in
      let first : Own H = record { place = place; node = o.node; happened = o.happened.value } in
      ap (λ (l : List (Own H)). first ∷ l) (opened_own number (suc place) made)
      ∙ sym (ap (λ (b : Bool). cond b (first ∷ picked (is_made_by number) (suc place) (made_by number (map opened_event made))) (picked (is_made_by number) (suc place) (made_by number (map opened_event made)))) mine)

module _ {A S I H : Type 0} (state : A → S) (m : Meanings S I H) (deal : Deal S) where
  pub first_rule : (done : List (NodeId × I)) (slots : List (Stored A H)) (made : List (Opened H)) (words : List ℕ) → m.is_sound deal.starts → deal.passes * deal.quota ≤ 131072 → 0 < deal.passes
      → length made ≤ deal.quota → IsOpening state m deal.starts done slots made → words ≡ set (replicate (17 * length deal.starts + 1) 0) 0 (length made)
      → Holds state m deal (opening words slots (first_view deal made))
  first_rule done slots made words sound small some_pass few o words_are =
      let n : ℕ = length deal.starts in let maker : ℕ = deal.passes - 1 in let zeros : List ℕ = replicate (17 * n + 1) 0 in
      let log : List (Entry H) = made_by maker (map opened_event made) in
      let many : length log ≡ length made = length-made maker (map opened_event made) ∙ length-map made opened_event in
      let world : World H = record { log = log; seat_of = λ number. 0; first = 0; given = 0 } in
      let long : length words ≡ 17 * n + 1 = ap length words_are ∙ (length-set zeros 0 (length made) ∙ length-replicate (17 * n + 1) 0) in
      let cells = o.cells in let as_many : length cells ≡ n = o.opened.as_many in
      let slots_long : length slots ≡ 17 * n = ap length o.laid_so ∙ (length-append (map Home cells) (replicate (16 * length cells) Nothing)
      ∙ ((λ i. length-map {B = Stored A H} cells Home i + length-replicate {A = Stored A H} (16 * length cells) Nothing i) ∙ (let e : length cells + 16 * length cells ≡ 17 * n = omega arith in e))) in
      let homes_long : length (map some slots) ≡ 17 * n = length-map slots some ∙ slots_long in
      let first : slice_index words 0 ≡ length made = ap (λ (ws : List ℕ). slice_index ws 0) words_are ∙ get_or-set_same zeros 0 (length made) 0 (let e : length zeros ≡ 17 * n + 1 = length-replicate (17 * n + 1) 0 in omega arith) in
      let zero_at : (k : ℕ) → k < 17 * n → slice_index words (k + 1) ≡ 0 = λ k below. ap (λ (ws : List ℕ). slice_index ws (k + 1)) words_are
      ∙ (get_or-set_other zeros 0 (k + 1) (length made) 0 (λ e. omega arith) ∙ get_or-replicate (17 * n + 1) (k + 1) 0 0 (omega arith)) in
      let homes_are : length (map {B = Stored A H} Home cells) ≡ length cells = length-map cells Home in
      let view : View S H = first_view deal made in
      let knows : Stands m deal world words 0 view = record {
        deal_is = refl;
        number_is = inr (let e : deal.passes - 1 + 1 ≡ deal.passes = omega arith in e);
        seat_is = refl;
        own_is = opened_own maker 0 made;
        joined_are = tt;
        given_is = (refl, refl);
        turn_is = tt;
        boxed_is = tt;
        fetched_is = tt;
      } in
      record {
        world = world;
        sized = record { words_are = long; slots_are = homes_long };
        small = small;
        sound = sound;
        run = record {
          next_is = first ∙ sym many;
          legal = subst (IsLegal m deal.starts) (sym (events_made maker (map opened_event made))) o.opened.legal;
          makers = λ k entry at. inr (let e = made_maker maker (map opened_event made) k entry at in omega arith);
          within = λ number. let p = picked_few (is_made_by number) 0 log in omega arith;
          given_below = some_pass;
        };
        passes = λ seat other at. let only = alone view seat other at in subst (λ (x : ℕ × View S H). Stands m deal world words x.0 x.1) (λ i. (sym only.0 i, only.1 i)) knows;
        cells = λ slot inside free. let c = there_is cells slot (omega arith) in let e = o.opened.each slot c.0 c.1 in
            (c.0, at_home slots slot (Home c.0) (ap (λ (l : List (Stored A H)). slice_get l slot) o.laid_so ∙ home_at cells slot c.0 c.1), e.0 maker, e.1);
        boxes = λ slot above inside. record {
          empty = λ e. at_home slots slot Nothing (ap (λ (l : List (Stored A H)). slice_get l slot) o.laid_so
              ∙ behind (map Home cells) (16 * length cells) slot Nothing (omega (arith, homes_are)) (omega (arith, homes_are)));
          full = λ e. let z = zero_at slot inside in absurd (omega arith);
        };
        kept = λ slot inside out. let z = zero_at slot inside in
            absurd (⊎_elim (λ (l : slot < n). let b = out.0 l in let no : ⊥ = omega arith in no) (λ (l : n ≤ slot). let b = out.1 l in let no : ⊥ = omega arith in no) (cases_lt slot n));
      }
