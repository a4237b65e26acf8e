-- One item after another is read, none of them a line of the fault script, and then all are.
use Rattle.std.proofs.Common.{◌≡◌, ◌⊎◌, inl, inr, ℕ, List, Option, Some, None, Err, sym, ◌∙◌, subst}
use Rattle.std.specs.Io.KnownBytes.{Consumes}
use Rattle.std.specs.List.{flat_map, AllByRecursion}
use Rattle.log_base.specs.ClusterShape.{Shape}
use Rattle.log_base.specs.Outside.{TakesOn, unread}
use Rattle.command_frame.specs.declared.items.Item.{Item}
use Rattle.reply_frame.specs.declared.faults.ItemFault.{ItemFault}
use Rattle.reply_frame.specs.declared.faults.ItemFault.TheVariants.{Bad, Read, Many, Memory}
use Rattle.command_frame.specs.Items.{counted, passed_limit, item_spelling, IsItem, IsNoFault, Counts}
use Rattle.command_frame.specs.Reader.{NoItem}
use Rattle.item_input.specs.Input.{counts_of, Ending, Whole, BadPlace, TooMany, ReadsAs}
use Rattle.item_input.specs.Plain.{IsBadPlace, IsReadPlain, Ends, FaultLine, ReadsPlain, RefusesPlain}
use Rattle.item_input.specs.PlainSteps.{MeetsFault, StepsPlain, TakesPlain}
use Rattle.item_input.specs.Steps.{IsOver, Standing}
use Rattle.item_input.proofs.SoFar.{SoFar, all_read, bad_place, each-push, goes_on, too_many, within_counts}

-- what holds after some items
pub record PlainSoFar (shape : Shape) (input : Option (List ℕ)) (now : Standing) : Type 0 where
  pub so_far : SoFar shape input now
  pub plain : AllByRecursion IsNoFault now.items

-- one item more is read
pub plain_goes_on : (shape config : Shape) (input : Option (List ℕ)) (old new : Standing) → config ≡ shape
    → PlainSoFar shape input old → TakesPlain config old new → PlainSoFar shape input new
plain_goes_on shape config input old new same before one = record {
  so_far = goes_on shape config input old new same before.so_far one.takes;
  plain = subst (AllByRecursion IsNoFault) (sym one.takes.items) (each-push IsNoFault old.items one.takes.item before.plain one.plain);
}

-- what is read without such lines
reads_plain : (shape : Shape) (input : Option (List ℕ)) (items : List Item) (ending : Ending) → ReadsAs shape input items ending → AllByRecursion IsNoFault items
    → ReadsPlain shape input items (Ends ending)
reads_plain shape input items ending reads plain = record { each = reads.each; plain = plain; within = reads.within; bytes = reads.bytes }

-- the input ended
pub all_read_plain : (shape : Shape) (input : Option (List ℕ)) (old new : Standing) (pending : List ℕ) (left : Option (List ℕ))
    → new.unread ≡ unread pending left → PlainSoFar shape input old → IsOver old new → IsReadPlain shape input left new.items
all_read_plain shape input old new pending left e before over =
    let read = all_read shape input old new pending left e before.so_far over in
    record {
      reads = reads_plain shape input new.items Whole read.reads (subst (AllByRecursion IsNoFault) (sym over.items) before.plain);
      used = read.used;
      ended = read.ended;
    }

-- a line of the fault script stands there
fault_there : (shape : Shape) (input : Option (List ℕ)) (now : Standing) → SoFar shape input now → AllByRecursion IsNoFault now.items → MeetsFault shape now
    → ReadsPlain shape input now.items FaultLine
fault_there shape input now so_far plain meets = by_bytes input now.unread meets.left so_far.used meets.used
  where
    within : passed_limit (counted (counts_of now.items) meets.item) ≡ None
    within = subst (λ (c : Counts). passed_limit (counted c meets.item) ≡ None) so_far.counts meets.within

    by_bytes : (told unread left : Option (List ℕ)) → Consumes told unread (flat_map item_spelling now.items) → Consumes unread left (item_spelling meets.item)
        → ReadsPlain shape told now.items FaultLine
    by_bytes None unread left used more = record { each = so_far.each; plain = plain; within = within_counts shape input now so_far; bytes = tt }
    by_bytes (Some bytes) None left used more = absurd used
    by_bytes (Some bytes) (Some rest) None used more = absurd more
    by_bytes (Some bytes) (Some rest) (Some left) used more = record {
      each = so_far.each;
      plain = plain;
      within = within_counts shape input now so_far;
      bytes = (
        rest,
        used,
        record { item = meets.item; more = left; is_item = meets.is_item; is_fault = meets.is_fault; bytes = more; within = within },
      );
    }

-- a step was refused
pub refused_plain : (shape config : Shape) (input left : Option (List ℕ)) (old new : Standing) (rose_now rose : Type 0) (fault : ItemFault)
    → config ≡ shape → (rose_now → rose) → PlainSoFar shape input old → TakesOn 0 new.taken input left → StepsPlain config old new rose_now (Err fault)
    → RefusesPlain shape input left rose fault
refused_plain shape config input left old new rose_now rose (Bad at) same_config risen before taken step = by_why step.0
  where
    by_why : NoItem config old.unread ⊎ MeetsFault config old → IsBadPlace shape input at
    by_why (inl none) =
        let reads = bad_place shape input old before.so_far (subst (λ (s : Shape). NoItem s old.unread) same_config none) in
        (old.items, inl (reads_plain shape input old.items BadPlace reads before.plain), step.1 ∙ before.so_far.place)
    by_why (inr meets) =
        (old.items, inr (fault_there shape input old before.so_far before.plain (subst (λ (s : Shape). MeetsFault s old) same_config meets)), step.1 ∙ before.so_far.place)
refused_plain shape config input left old new rose_now rose (Read at) same_config risen before taken step =
    (risen step.0, subst (λ (n : ℕ). TakesOn 0 n input left) (sym step.1) taken)
refused_plain shape config input left old new rose_now rose (Many cause) same_config risen before taken step =
    let many = too_many shape input old new.unread cause step.0 before.so_far (subst (λ (s : Shape). IsItem s step.0) same_config step.1) step.2 step.3 in
    (old.items, reads_plain shape input old.items (TooMany cause) many before.plain)
refused_plain shape config input left old new rose_now rose Memory same_config risen before taken step = tt
