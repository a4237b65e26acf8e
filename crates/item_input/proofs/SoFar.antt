-- One item after another is read, and then all are.
use Rattle.std.proofs.Common.{◌≡◌, ℕ, ◌+◌, ◌≤◌, List, [], ◌∷◌, ◌++◌, length, length-append, Option, Some, None, Err, refl, sym, ap, ◌∙◌, subst, append_assoc, append-nil, arith}
use Rattle.std.proofs.lemmas.Bool.Decides.{nat_tests}
use Rattle.std.specs.Io.KnownBytes.{Consumes, IsAtEnd}
use Rattle.std.proofs.KnownBytes.{Consumes-trans, Consumes-nil}
use Rattle.std.specs.List.{flat_map, AllByRecursion}
use Rattle.log_base.specs.ClusterShape.{Shape}
use Rattle.log_base.specs.Outside.{TakesOn, unread}
use Rattle.command_frame.specs.declared.items.Item.{Item}
use Rattle.reply_frame.specs.declared.faults.ItemFault.{ItemFault}
use Rattle.reply_frame.specs.declared.faults.ItemFault.TheVariants.{Bad, Read, Many, Memory}
use Rattle.command_frame.specs.Items.{Counts, none_yet, counted, passed_limit, item_spelling, IsItem}
use Rattle.command_frame.specs.Reader.{NoItem}
use Rattle.item_input.specs.Input.{counts_from, counts_of, Ending, Whole, BadPlace, TooMany, EndsAs, ReadsAs}
use Rattle.item_input.specs.Steps.{Standing, Takes, IsOver, IsRead, Steps, Refuses}

-- what holds after some items
pub record SoFar (shape : Shape) (input : Option (List ℕ)) (now : Standing) : Type 0 where
  pub each : AllByRecursion (IsItem shape) now.items
  pub used : Consumes input now.unread (flat_map item_spelling now.items)
  pub counts : now.counts ≡ counts_of now.items
  pub within : passed_limit now.counts ≡ None
  pub place : now.place ≡ length (flat_map item_spelling now.items)

-- ---- one item more at the end

pub each-push : (P : Item → Type 0) (items : List Item) (item : Item) → AllByRecursion P items → P item → AllByRecursion P (items ++ item ∷ [])
each-push P [] item each last = (last, tt)
each-push P (first ∷ items) item each last = (each.0, each-push P items item each.1 last)

spellings-push : (items : List Item) (item : Item) → flat_map item_spelling (items ++ item ∷ []) ≡ flat_map item_spelling items ++ item_spelling item
spellings-push [] item = append-nil (item_spelling item)
spellings-push (first ∷ items) item =
    ap (λ (l : List ℕ). item_spelling first ++ l) (spellings-push items item)
    ∙ sym (append_assoc (item_spelling first) (flat_map item_spelling items) (item_spelling item))

counts-push : (counts : Counts) (items : List Item) (item : Item) → counts_from counts (items ++ item ∷ []) ≡ counted (counts_from counts items) item
counts-push counts [] item = refl
counts-push counts (first ∷ items) item = counts-push (counted counts first) items item

-- ---- reading

-- nothing is read yet
pub none_so_far : (shape : Shape) (input : Option (List ℕ)) (now : Standing)
    → now.unread ≡ input → now.counts ≡ none_yet → now.items ≡ [] → now.place ≡ 0 → SoFar shape input now
none_so_far shape input now unread counts items place = record {
  each = subst (AllByRecursion (IsItem shape)) (sym items) tt;
  used = subst (λ (l : List Item). Consumes input now.unread (flat_map item_spelling l)) (sym items)
      (subst (λ (left : Option (List ℕ)). Consumes input left []) (sym unread) (Consumes-nil input));
  counts = counts ∙ ap counts_of (sym items);
  within = subst (λ (c : Counts). passed_limit c ≡ None) (sym counts) refl;
  place = place ∙ ap (λ (l : List Item). length (flat_map item_spelling l)) (sym items);
}

-- one item more is read
pub goes_on : (shape config : Shape) (input : Option (List ℕ)) (old new : Standing) → config ≡ shape
    → SoFar shape input old → Takes config old new → SoFar shape input new
goes_on shape config input old new same so_far takes =
    let item = takes.item in
    let all = sym takes.items in
    record {
      each = subst (AllByRecursion (IsItem shape)) all (each-push (IsItem shape) old.items item so_far.each (subst (λ (s : Shape). IsItem s item) same takes.is_item));
      used = subst (λ (l : List Item). Consumes input new.unread (flat_map item_spelling l)) all
          (subst (Consumes input new.unread) (sym (spellings-push old.items item))
          (Consumes-trans input old.unread new.unread (flat_map item_spelling old.items) (item_spelling item) so_far.used takes.used));
      counts = takes.counts ∙ ap (λ (c : Counts). counted c item) so_far.counts ∙ sym (counts-push none_yet old.items item) ∙ ap counts_of all;
      within = takes.within;
      place = takes.place ∙ ap (λ (n : ℕ). n + length (item_spelling item)) so_far.place
          ∙ sym (length-append (flat_map item_spelling old.items) (item_spelling item))
          ∙ ap (λ (l : List ℕ). length l) (sym (spellings-push old.items item)) ∙ ap (λ (l : List Item). length (flat_map item_spelling l)) all;
    }

-- each item is counted
counted_items : (counts : Counts) (items : List Item) → (counts_from counts items).items ≡ counts.items + length items
counted_items counts [] = omega arith
counted_items counts (item ∷ items) = let more = counted_items (counted counts item) items in omega (arith, more)

-- within the limits there are at most 65,536 items
pub few_items : (items : List Item) → passed_limit (counts_of items) ≡ None → length items ≤ 65536
few_items items within =
    let count = counted_items none_yet items in
    let few = items_within (counts_of items) within in
    omega (arith, count, few)
  where
    items_within : (c : Counts) → passed_limit c ≡ None → c.items ≤ 65536
    items_within c e = grind (arith, nat_tests)

-- ---- how the reading ends

append_eq_nil : (xs ys : List ℕ) → xs ++ ys ≡ [] → (xs ≡ []) × (ys ≡ [])
append_eq_nil [] ys e = (refl, e)
append_eq_nil (x ∷ xs) ys e = absurd (cc e)

-- what is read so far and what follows it
ends_so : (shape : Shape) (input left : Option (List ℕ)) (items : List Item) (ending : Ending) → Consumes input left (flat_map item_spelling items)
    → AllByRecursion (IsItem shape) items → passed_limit (counts_of items) ≡ None
    → ((rest : List ℕ) → left ≡ Some rest → EndsAs shape (counts_of items) ending rest) → ReadsAs shape input items ending
ends_so shape None left items ending used each within follows = record { each = each; within = within; bytes = tt }
ends_so shape (Some bytes) None items ending used each within follows = absurd used
ends_so shape (Some bytes) (Some rest) items ending used each within follows =
    record { each = each; within = within; bytes = (rest, used, follows rest refl) }

pub within_counts : (shape : Shape) (input : Option (List ℕ)) (now : Standing) (so_far : SoFar shape input now) → passed_limit (counts_of now.items) ≡ None
within_counts shape input now so_far = subst (λ (c : Counts). passed_limit c ≡ None) so_far.counts so_far.within

-- at the end nothing is pending, so what is unread is what the source has left
at_end : (pending : List ℕ) (left input : Option (List ℕ)) (bytes : List ℕ) → IsAtEnd (unread pending left) → Consumes input (unread pending left) bytes
    → IsAtEnd left × Consumes input left bytes
at_end pending None None bytes ended used = (tt, tt)
at_end pending None (Some all) bytes ended used = absurd used
at_end pending (Some left) None bytes ended used = ((append_eq_nil pending left ended).1, tt)
at_end pending (Some left) (Some all) bytes ended used =
    let none = append_eq_nil pending left ended in
    (none.1, used ∙ ap (λ (l : List ℕ). bytes ++ (l ++ left)) none.0)

-- the input ended
pub all_read : (shape : Shape) (input : Option (List ℕ)) (old new : Standing) (pending : List ℕ) (left : Option (List ℕ))
    → new.unread ≡ unread pending left → SoFar shape input old → IsOver old new → IsRead shape input left new.items
all_read shape input old new pending left e so_far over =
    let spelled = flat_map item_spelling old.items in
    let used = subst (Consumes input new.unread) (append-nil spelled)
    (Consumes-trans input old.unread new.unread spelled [] so_far.used over.used) in
    let end = at_end pending left input spelled (subst IsAtEnd e over.ended) (subst (λ (u : Option (List ℕ)). Consumes input u spelled) e used) in
    subst (IsRead shape input left) (sym over.items) (record {
      reads = ends_so shape input new.unread old.items Whole used so_far.each (within_counts shape input old so_far)
          (λ rest r. subst IsAtEnd r over.ended);
      used = end.1;
      ended = end.0;
    })

-- no item stands there
pub bad_place : (shape : Shape) (input : Option (List ℕ)) (now : Standing) → SoFar shape input now → NoItem shape now.unread → ReadsAs shape input now.items BadPlace
bad_place shape input now so_far none =
    ends_so shape input now.unread now.items BadPlace so_far.used so_far.each (within_counts shape input now so_far) (λ rest e. subst (NoItem shape) e none)

-- an item stands there that passes a limit
pub too_many : (shape : Shape) (input : Option (List ℕ)) (now : Standing) (left : Option (List ℕ)) (cause : ℕ) (item : Item)
    → SoFar shape input now → IsItem shape item → Consumes now.unread left (item_spelling item) → passed_limit (counted now.counts item) ≡ Some cause
    → ReadsAs shape input now.items (TooMany cause)
too_many shape input now left cause item so_far is used passed =
    ends_so shape input now.unread now.items (TooMany cause) so_far.used so_far.each (within_counts shape input now so_far) (item_follows now.unread left used)
  where
    item_follows : (unread left : Option (List ℕ)) → Consumes unread left (item_spelling item) → (rest : List ℕ) → unread ≡ Some rest
        → EndsAs shape (counts_of now.items) (TooMany cause) rest
    item_follows None left used rest e = absurd (cc e)
    item_follows (Some bytes) None used rest e = absurd used
    item_follows (Some bytes) (Some more) used rest e =
        let same : bytes ≡ rest = cc in
        (item, more, is, sym same ∙ used, subst (λ (c : Counts). passed_limit (counted c item) ≡ Some cause) so_far.counts passed)

-- a step was refused
pub refused : (shape config : Shape) (input left : Option (List ℕ)) (old new : Standing) (rose_now rose : Type 0) (fault : ItemFault)
    → config ≡ shape → (rose_now → rose) → SoFar shape input old → TakesOn 0 new.taken input left → Steps config old new rose_now (Err fault) → Refuses shape input left rose fault
refused shape config input left old new rose_now rose (Bad at) same_config risen so_far taken step =
    (old.items, bad_place shape input old so_far (subst (λ (s : Shape). NoItem s old.unread) same_config step.0), step.1 ∙ so_far.place)
refused shape config input left old new rose_now rose (Read at) same_config risen so_far taken step =
    (risen step.0, subst (λ (n : ℕ). TakesOn 0 n input left) (sym step.1) taken)
refused shape config input left old new rose_now rose (Many cause) same_config risen so_far taken step =
    (old.items, too_many shape input old new.unread cause step.0 so_far (subst (λ (s : Shape). IsItem s step.0) same_config step.1) step.2 step.3)
refused shape config input left old new rose_now rose Memory same_config risen so_far taken step = tt
