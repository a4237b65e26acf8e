-- One event of a node: what its mark comes from, by what its journals told before it, once it was ready, and after it.
use Rattle.std.proofs.Common.{◌≡◌, ◌≢◌, ◌<◌, ℕ, List, [], length, get_or, map, slice_get, Option, Some, sym, ap, subst, inl, inr, arith, ◌∙◌}
use Rattle.std.specs.Prelude.{Result, Ok, Err, IfOk}
use Rattle.std.proofs.Math.ListN.{set}
use Rattle.std.proofs.lemmas.Bool.{cases_eq}
use Rattle.std.proofs.lemmas.List.{get_or-map, get_or-set_other, get_or-set_same, length-map, map-set}
use Rattle.core_step.specs.Disks.{IsStarting}
use Rattle.history_frame.specs.declared.events.Happened.{Happened}
use Rattle.history_frame.specs.declared.inputs.Input.{Input}
use Rattle.history_frame.specs.declared.inputs.Input.TheVariants.{Restart}
use Rattle.history_frame.specs.declared.inputs.Mark.{Mark}
use Rattle.history_frame.specs.declared.inputs.Mark.TheVariants.{Halted, StayedDown}
use Rattle.node_model.specs.Machine.{ClusterNode}
use Rattle.shard_replica.specs.Lists.{Medium}
use Rattle.storage_node.specs.Counting.{CountsOn}
use Rattle.storage_node.specs.Opening.{RoseIn}
use Rattle.counted_node.specs.Causes.{AllCountOn, HasCause, journals_at, media_at}
use Rattle.quiet_run.specs.Turns.{ShowsMark}
use Rattle.counted_node.proofs.Rises.{counts_same, counts_then, keeps_all, one_rose_earlier, rose_below, rose_in_later}

module _ (count : ℕ) (old between new : List Medium) (all : length old ≡ count) (still : length new ≡ count) (readied : CountsOn old between) (stepped : CountsOn between new) where
  pub cause_is : (mark : Mark) (input : Input) (start : Option Mark) → (mark ≡ Halted → RoseIn between new) → (mark ≡ StayedDown → input ≡ Restart)
      → (input ≡ Restart → start ≡ Some mark) → (input ≡ Restart → IsStarting old between start) → HasCause count mark old new
  cause_is mark input start halts stays opens starting = record {
    counts = counts_then old between new readied stepped;
    halted = λ e. one_rose_earlier old between new count readied (rose_below between new count (omega (arith, still)) (halts e));
    stayed = λ e keep.
        rose_below old new count (omega (arith, still))
        (rose_in_later old between new stepped
        ((starting (stays e)).stayed (opens (stays e) ∙ ap (λ (m : Mark). Some m) e) (keeps_all old count (omega (arith, all)) keep)));
  }

-- ---- a node among others

module _ {A : Type 0} (told : A → List Medium) (nodes : List A) (n : ℕ) (d : A) (within : n < length nodes) where
  pub here_before : media_at (map told nodes) n ≡ told (get_or nodes n d)
  here_before = get_or-map told nodes n d [] within

  module _ (new : A) where
    turned_is : map told (set nodes n new) ≡ set (map told nodes) n (told new)
    turned_is = map-set told nodes n new

    pub here_after : media_at (map told (set nodes n new)) n ≡ told new
    here_after = ap (λ (l : List (List Medium)). media_at l n) turned_is ∙ get_or-set_same (map told nodes) n (told new) [] (omega (arith, within, length-map nodes told))

    pub elsewhere : (other : ℕ) → other ≢ n → media_at (map told (set nodes n new)) other ≡ media_at (map told nodes) other
    elsewhere other apart = ap (λ (l : List (List Medium)). media_at l other) turned_is ∙ get_or-set_other (map told nodes) n other (told new) [] apart

    pub turn_counts : CountsOn (told (get_or nodes n d)) (told new) → AllCountOn (map told nodes) (map told (set nodes n new))
    turn_counts on number = elim (cases_eq number n) [
      | inl same ↦
          subst (λ (k : ℕ). CountsOn (media_at (map told nodes) k) (media_at (map told (set nodes n new)) k)) (sym same)
          (subst (λ (x : List Medium × List Medium). CountsOn x.0 x.1) (λ i. (sym here_before i, sym here_after i)) on)
      | inr other ↦ subst (CountsOn (media_at (map told nodes) number)) (sym (elsewhere number other)) (counts_same (media_at (map told nodes) number))
    ]

    module _ (state : A → ClusterNode) (at : slice_get (map state nodes) n ≡ Some (state (get_or nodes n d))) where
      pub turn_shows : {E : Type 0} (result : Result Happened E)
          → IfOk result (λ happened. HasCause (journals_at (state (get_or nodes n d)).config (state (get_or nodes n d)).number) happened.mark (told (get_or nodes n d)) (told new))
          → IfOk result (λ happened. ShowsMark n happened.mark (map state nodes) (map told nodes) (map told (set nodes n new)))
      turn_shows (Err e) cause = tt
      turn_shows (Ok happened) cause = record {
        node = state (get_or nodes n d);
        at = at;
        here =
            subst (λ (x : List Medium × List Medium). HasCause (journals_at (state (get_or nodes n d)).config (state (get_or nodes n d)).number) happened.mark x.0 x.1)
            (λ i. (sym here_before i, sym here_after i)) cause;
        others = elsewhere;
      }
